-- `grammar::bodies::in_order` meets its contract: the number of the parameter due next, over the words from i on, tells what the model's test does.
use Prim.Native.Nat.{◌+◌, ◌≤◌}
use mathlib.Core.Path.{◌≡◌}
use lib.ListN.{drop}
use Rattle.model.specs.Words.{is_parameter}
use Rattle.model.specs.Trees.{same, those, parameters}
use Rattle.model.specs.File.{words_in}
use Rattle.grammar.proofs.Order.{order_ok}
use Rattle.grammar.proofs.bodies.in_order.Given as goal

abbrev pub invariant-loop-i : goal.invariant-loop-i
invariant-loop-i l = (l.next ≤ l.i + 1)
    × (same (those is_parameter (words_in l.body)) (parameters l.k) ≡ order_ok l.k l.next (drop l.i (words_in l.body)))
