-- `run` meets its contract: the file stays within its buffer, and no turn counts more than one case.
use Rattle.std.proofs.Common.{suc, inl, add-one, arith}
use Rattle.std.proofs.lemmas.Grind.{common_steps}
use Rattle.try_vectors.proofs.Turning.{turned_counts}
use Rattle.try_vectors.specs.Running.{not_yet, further}
use Rattle.try_vectors.proofs.run.Goals as goal

pub loop-init : goal.loop-init
loop-init c = rw c.new-p.ensures (not_yet, c.requires, omega arith, omega arith)

pub returns-then-eq : goal.returns-then-eq
returns-then-eq c =
    let l = c.loop in
    record { turns = suc l.counter; ran = further l.invariant.0 c.turn-p.ensures; ended = inl (omega arith, grind (arith, common_steps)) }

pub loop-preserved : goal.loop-preserved
loop-preserved c =
    let l = c.loop in
    let n = turned_counts l.p c.turn-p.result c.turn-p.new.file c.turn-p.ensures in
    (rw add-one (further l.invariant.0 c.turn-p.ensures), omega arith, omega arith, omega arith)
