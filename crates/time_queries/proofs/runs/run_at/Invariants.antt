-- `run_at` meets its contract: after i turns, what is kept of i calls.
use Rattle.std.proofs.Common.{◌≡◌, ◌≤◌}
use Rattle.time_queries.specs.Inputs.{start_at}
use Rattle.time_queries.specs.Runs.{tallies}
use Rattle.time_queries.proofs.runs.run_at.Given as goal

abbrev pub invariant-loop : goal.invariant-loop
invariant-loop g l = (l.p ≡ start_at l.starts.count l.counter) × (l.t ≡ tallies (λ i. g.replies (start_at l.starts.count i)) l.counter) × (l.t.accepted ≤ l.counter)
