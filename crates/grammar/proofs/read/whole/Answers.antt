-- `grammar::read::whole` meets its contract: the lowest rule that is too large, a tree that is ⊥ alone, or the grammar.
use mathlib.Core.Path.{sym, ◌∙◌}
use native.Mathlib.Omega.{arith}
use lib.ListN.{length}
use Rattle.std.proofs.lemmas.Result.{err_from_is_err_and}
use Rattle.grammar.specs.declared.refusals.Refusal.TheVariants as refusals
use Rattle.grammar.specs.Meaning.{written_rules}
use Rattle.grammar.proofs.Entered.{count}
use Rattle.grammar.proofs.Placing.{at_place}
use Rattle.grammar.proofs.ReadLaws.{whole_empty, whole_taken}
use Rattle.grammar.proofs.WholeRead.{Filled, huge_there, filled}
use Rattle.grammar.proofs.read.whole.Goals.{In_ok-measure}
use Rattle.grammar.proofs.read.whole.Goals as goal

pub returns-in_err-measure : goal.returns-in_err-measure
returns-in_err-measure c =
    let a = c.args in
    let x = c.in_err-measure.field-0.0 in
    let p = err_from_is_err_and c.from_residual.result c.from_residual.ensures.1 in
    rw (p.1, p.2)
    (huge_there (written_rules a.file.now) c.requires.0.is_formed (length a.rules.now) (sym (count c.requires.0)) c.measure.result a.sizes.now c.measure.new.sizes c.measure.ensures
    x c.in_err-measure.was)

-- every rule fits
fit : (c : In_ok-measure) → Filled (written_rules c.args.file.now) (length c.args.rules.now) c.args.sizes.now c.measure.new.sizes
fit c =
    let a = c.args in
    filled (written_rules a.file.now) c.requires.0.is_formed (length a.rules.now) (sym (count c.requires.0)) c.measure.result a.sizes.now c.measure.new.sizes c.measure.ensures
    c.in_ok-measure.was c.requires.2 c.requires.1

pub first_gaps-requires : goal.first_gaps-requires
first_gaps-requires c =
    let f = fit (goal.at.first_gaps-requires c).In_ok-measure in
    (f.room, omega arith, f.small)

pub returns-then-first_gaps-eq1 : goal.returns-then-first_gaps-eq1
returns-then-first_gaps-eq1 c =
    let f = fit (goal.at.returns-then-first_gaps-eq1 c).In_ok-measure in
    whole_empty (written_rules c.args.file.now) f.none_over (sym f.counted ∙ sym c.first_gaps.ensures.0 ∙ c.if-first_gaps-eq1.true)
    ∙ at_place c.at.result refusals.Empty 0 c.at.ensures

pub returns : goal.returns
returns c =
    let f = fit (goal.at.returns c).In_ok-measure in
    (whole_taken (written_rules c.args.file.now) f.none_over (λ q. c.if-first_gaps-eq1.false (c.first_gaps.ensures.0 ∙ f.counted ∙ q)), f.gaps)
