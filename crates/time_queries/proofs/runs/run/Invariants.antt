-- `run` meets its contract: what each call replies.
use Rattle.time_queries.specs.Replies.{checked_reply, counted_reply, label_reply, window_reply}
use Rattle.time_queries.proofs.runs.run.Given as goal

abbrev pub ghost-run_whole : goal.ghost-run_whole
ghost-run_whole a = checked_reply

abbrev pub ghost-run_whole-2 : goal.ghost-run_whole-2
ghost-run_whole-2 a = counted_reply

abbrev pub ghost-run_at : goal.ghost-run_at
ghost-run_at a = label_reply a.call.0.now

abbrev pub ghost-run_at-2 : goal.ghost-run_at-2
ghost-run_at-2 a = window_reply a.call.0.now a.call.1.now
