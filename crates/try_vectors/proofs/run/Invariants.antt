-- `run` meets its contract: the file stays within its buffer, and no turn counts more than one case.
use Rattle.std.proofs.Common.{◌≤◌, length}
use Rattle.try_vectors.specs.Running.{Ran}
use Rattle.try_vectors.proofs.run.Given as goal

abbrev pub invariant-loop : goal.invariant-loop
invariant-loop l = Ran l.ready l.counter l.p × (l.p.length ≤ length l.file) × (l.p.cases ≤ l.counter) × (l.p.wrong ≤ l.counter)
