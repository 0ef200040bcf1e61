-- `cases::reference::put_doublings` meets its contract: after j turns j rules are put, 14 bytes each.
use Rattle.std.proofs.Common.{◌≡◌, ◌+◌, ◌*◌, ◌++◌}
use Rattle.arrayvec.specs.ArrayVec.{array_vec_len}
use Rattle.cases.specs.Reference.{doublings}
use Rattle.cases.proofs.reference.put_doublings.Given as goal

abbrev pub invariant-loop-j : goal.invariant-loop-j
invariant-loop-j g l = (l.out.items ≡ l.initial.out.items ++ doublings l.j) × (array_vec_len l.out ≡ array_vec_len l.initial.out + 14 * l.j)
