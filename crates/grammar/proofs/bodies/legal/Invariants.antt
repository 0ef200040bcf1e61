-- `grammar::bodies::legal` meets its contract: the words passed so far are legal.
use mathlib.Core.Path.{◌≡◌}
use lib.ListN.{drop}
use Rattle.model.specs.Trees.{all, is_legal}
use Rattle.model.specs.File.{words_in}
use Rattle.grammar.proofs.bodies.legal.Given as goal

abbrev pub invariant-loop-i : goal.invariant-loop-i
invariant-loop-i l = (all (is_legal l.r) (words_in l.body) ≡ all (is_legal l.r) (drop l.i (words_in l.body)))
