-- `grammar::rules::rules` meets its contract: rule by rule, each on the table of those below it.
use Rattle.grammar.proofs.SoFar.{Here}
use Rattle.grammar.proofs.rules.rules.Given as goal

abbrev pub invariant-loop-r : goal.invariant-loop-r
invariant-loop-r l = Here l.file l.n l.initial.table l.table l.at l.r
