-- `Word::from` meets its contract: each arm's bounds are those of the law for its row.
use mathlib.Core.Path.{sym, ap}
use native.Mathlib.Omega.{arith}
use Rattle.model.specs.Words.{class_of}
use Rattle.grammar.proofs.Classes.{class_label, class_illegal_1, class_parameter, class_illegal_2, class_call, class_illegal_3}
use Rattle.grammar.proofs.words.WordFromU16.from.Goals as goal

pub returns-in-0 : goal.returns-in-0
unfolding class_of
returns-in-0 c =
    sym (ap class_of c.in-0.is)

pub returns-in-1-to-32767 : goal.returns-in-1-to-32767
returns-in-1-to-32767 c =
    sym (class_label _ (omega arith) (omega arith))

pub returns-in-32769-to-32772 : goal.returns-in-32769-to-32772
returns-in-32769-to-32772 c =
    sym (class_parameter _ (omega arith) (omega arith))

pub returns-in-49152-to-49407 : goal.returns-in-49152-to-49407
returns-in-49152-to-49407 c =
    sym (class_call _ (omega arith) (omega arith))

pub returns-in_default : goal.returns-in_default
returns-in_default c =
    sym (class_illegal_1 _ (omega arith) (omega arith))

pub returns-in_default-2 : goal.returns-in_default-2
returns-in_default-2 c =
    sym (class_illegal_2 _ (omega arith) (omega arith))

pub returns-in_default-3 : goal.returns-in_default-3
returns-in_default-3 c =
    sym (class_illegal_3 _ (omega arith))
