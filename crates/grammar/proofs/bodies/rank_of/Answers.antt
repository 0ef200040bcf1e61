-- `grammar::bodies::rank_of` meets its contract: a call's rank is in the table, or the rule isn't.
use native.Mathlib.Omega.{arith}
use mathlib.Core.Path.{sym}
use Rattle.grammar.specs.Meaning.{no_rule}
use Rattle.grammar.proofs.Tables.{rank_in, rank_past}
use Rattle.grammar.proofs.bodies.rank_of.Goals as goal

pub returns-then-j-rules : goal.returns-then-j-rules
returns-then-j-rules c =
    rw (← c.from.ensures, c.in-Call.is) (sym (rank_in c.args.rules.now c.in-Call.j no_rule (omega arith)))

pub returns-else-j-rules : goal.returns-else-j-rules
returns-else-j-rules c =
    rw (← c.from.ensures, c.in-Call.is) (sym (rank_past c.args.rules.now c.in-Call.j (omega arith)))
