-- `grammar::sizes::before` meets its contract: the words from i on, read towards the place.
use Prim.Native.Nat.{◌*◌, ◌/◌, ◌≤◌, ◌-◌, ◌^◌}
use mathlib.Core.Path.{◌≡◌}
use lib.ListN.{length, drop}
use Rattle.model.specs.Words.{rank_of}
use Rattle.model.specs.File.{words_in}
use Rattle.laws.specs.Sums.{depth_of}
use Rattle.grammar.specs.Meaning.{ranks_in}
use Rattle.grammar.specs.Measures.{before_by}
use Rattle.grammar.proofs.sizes.before.Given as goal

abbrev pub invariant-loop-i : goal.invariant-loop-i
invariant-loop-i l =
    (l.sum ≡ before_by (rank_of (ranks_in l.rules)) l.sizes (drop l.i (words_in l.front)))
    × (l.depth ≡ depth_of (rank_of (ranks_in l.rules)) 0 (drop l.i (words_in l.front)))
    × (l.sum ≤ (length l.front / 2 - l.i) * (5 * 2 ^ 40))
    × (l.depth ≤ length l.front / 2 - l.i)
