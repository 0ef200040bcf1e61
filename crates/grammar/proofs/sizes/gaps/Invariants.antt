-- `grammar::sizes::gaps` meets its contract: before each word the table has the gaps of the parameters passed so far.
use lib.ListN.{length}
use Rattle.grammar.specs.Meaning.{written_rules}
use Rattle.grammar.proofs.GapsFound.{SoFar}
use Rattle.grammar.proofs.sizes.gaps.Given as goal

abbrev pub invariant-loop-i : goal.invariant-loop-i
invariant-loop-i l = SoFar (written_rules l.file) l.r (length l.initial.sizes) l.i l.last l.m l.sizes
