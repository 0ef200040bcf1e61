-- `run_whole` meets its contract: after i turns, what is kept of i calls.
use Rattle.std.proofs.Common.{◌≡◌, ◌≤◌}
use Rattle.time_queries.specs.Inputs.{varied}
use Rattle.time_queries.specs.Runs.{tallies}
use Rattle.time_queries.proofs.runs.run_whole.Given as goal

abbrev pub invariant-loop : goal.invariant-loop
invariant-loop g l = (l.file ≡ varied l.initial.file l.counter) × (l.t ≡ tallies (λ i. g.replies (varied l.initial.file i)) l.counter) × (l.t.accepted ≤ l.counter)
