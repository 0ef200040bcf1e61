-- `grammar::sizes::own` meets its contract: a call names a rule below 256, whose five gaps the table has.
use Prim.Native.Nat.{◌<◌}
use mathlib.Core.Path.{◌≡◌, sym, ap, ◌∙◌}
use native.Mathlib.Omega.{arith}
use Rattle.model.specs.Words.{class_of, call}
use Rattle.laws.proofs.Words.Classes.{call_word_lem}
use Rattle.grammar.specs.Meaning.{class_is}
use Rattle.grammar.proofs.sizes.own.Goals as goal

pub first_gaps-requires : goal.first_gaps-requires
first_gaps-requires c =
    let e : class_of c.args.w ≡ call c.in-Call.j = sym c.from.ensures ∙ ap class_is c.in-Call.is in
    let h : c.in-Call.j < 256 = (call_word_lem c.args.w c.in-Call.j e).1 in
    (omega arith, omega arith, c.requires.2)
