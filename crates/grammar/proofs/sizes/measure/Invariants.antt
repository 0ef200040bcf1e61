-- `grammar::sizes::measure` meets its contract: the rules below r were measured.
use lib.ListN.{length}
use Rattle.grammar.specs.Meaning.{written_rules}
use Rattle.grammar.proofs.AllMeasured.{MeasuredTo}
use Rattle.grammar.proofs.sizes.measure.Given as goal

abbrev pub invariant-loop-r : goal.invariant-loop-r
invariant-loop-r l = MeasuredTo (written_rules l.file) (length l.initial.sizes) l.r l.sizes
