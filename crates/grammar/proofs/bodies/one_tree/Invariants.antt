-- `grammar::bodies::one_tree` meets its contract: the cursor's count of trees still due, over the words from its place on, tells what the model's test does.
use Prim.Native.Nat.{◌+◌, ◌*◌, ◌/◌, ◌-◌, ◌≤◌}
use mathlib.Core.Path.{◌≡◌}
use lib.ListN.{length, drop}
use Rattle.model.specs.Trees.{is_tree}
use Rattle.model.specs.File.{words_in}
use Rattle.grammar.specs.Meaning.{ranks_in}
use Rattle.grammar.proofs.Due.{due_ok}
use Rattle.grammar.proofs.bodies.one_tree.Given as goal

abbrev pub invariant-loop-c : goal.invariant-loop-c
invariant-loop-c l = (l.c.at ≤ length l.body / 2) × (l.c.due ≤ 1 + 4 * l.c.at)
    × (is_tree (ranks_in l.rules) (words_in l.body) ≡ due_ok (ranks_in l.rules) l.c.due (drop l.c.at (words_in l.body)))

abbrev pub decreases-loop-c : goal.decreases-loop-c
decreases-loop-c l = length l.body / 2 - l.c.at
