-- `grammar::sizes::total` meets its contract: the words from i on are added up.
use Prim.Native.Nat.{◌*◌, ◌/◌, ◌≤◌, ◌-◌, ◌^◌}
use mathlib.Core.Path.{◌≡◌}
use lib.ListN.{length, drop}
use Rattle.laws.specs.Sums.{sum_of}
use Rattle.model.specs.File.{words_in}
use Rattle.grammar.specs.Measures.{own_by}
use Rattle.grammar.proofs.sizes.total.Given as goal

abbrev pub invariant-loop-i : goal.invariant-loop-i
invariant-loop-i l = (l.sum ≡ sum_of (own_by l.sizes 5) (drop l.i (words_in l.body))) × (l.sum ≤ (length l.body / 2 - l.i) * (5 * 2 ^ 40))
