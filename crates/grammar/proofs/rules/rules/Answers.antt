-- `grammar::rules::rules` meets its contract: rule by rule, each on the table of those below it.
use Prim.Native.Nat.{◌+◌, ◌*◌}
use mathlib.Core.Path.{◌≡◌, refl, sym, ap, subst, ◌∙◌}
use native.Mathlib.Omega.{arith}
use lib.Dec.{eqb}
use lib.ListN.{drop, set}
use Rattle.std.proofs.lemmas.Result.{err_from_is_err_and}
use Rattle.model.specs.Refusals.{refused}
use Rattle.model.specs.Trees.{ranks_of}
use Rattle.grammar.specs.Meaning.{refusal_is, result_is, rules_in}
use Rattle.grammar.proofs.Placing.{placed_err, placed_ok}
use Rattle.grammar.proofs.RuleRecords.{RuleThere}
use Rattle.grammar.proofs.SoFar.{Here, at_next, at_end, same_size, ranks_small, found_here, refused_here}
use Rattle.grammar.proofs.rules.rules.Goals.{In_ok-rule}
use Rattle.grammar.proofs.rules.rules.Goals as goal

pub rule_at-requires : goal.rule_at-requires
rule_at-requires c =
    let a = c.args in
    let l = c.loop-r in
    (l.invariant.within, c.requires.1, ranks_small a.file.now a.n a.table.now l.table l.at l.r _ l.invariant (omega arith))

pub returns-in_err-rule : goal.returns-in_err-rule
returns-in_err-rule c =
    let a = c.args in
    let l = c.loop-r in
    let x = c.in_err-rule.field-0.0 in
    let p = err_from_is_err_and c.from_residual.result c.from_residual.ensures.1 in
    let q = placed_err (l.r + 1) c.rule_at.result x c.in_err-rule.ensures in
    rw (p.1, p.2) (
      refused_here a.file.now a.n a.table.now l.table l.at l.r _ l.invariant (omega arith) (omega arith) (refusal_is x.refusal) (sym c.rule_at.ensures ∙ ap result_is q.0)
          ∙ ap (refused (refusal_is x.refusal)) (sym q.1),
      same_size a.file.now a.n a.table.now l.table l.at l.r _ l.invariant (omega arith),
    )

-- the rule that stands at the place
found : (c : In_ok-rule) → RuleThere c.args.file.now c.loop-r.at (ranks_of (rules_in c.loop-r.r (drop 10 c.args.file.now))) (eqb (c.loop-r.r + 1) c.args.n) c.in_ok-rule.rule
found c =
    let a = c.args in
    let l = c.loop-r in
    found_here a.file.now a.n a.table.now l.table l.at l.r _ l.invariant (omega arith) (eqb (l.r + 1) a.n) c.in_ok-rule.rule
    (sym c.rule_at.ensures ∙ ap result_is (placed_ok (l.r + 1) c.rule_at.result c.in_ok-rule.rule c.in_ok-rule.ensures))

pub loop-r-preserved : goal.loop-r-preserved
loop-r-preserved c =
    let a = c.args in
    let l = c.loop-r in
    let rule = c.in_ok-rule.rule in
    let next : l.at + 8 + 2 * rule.words ≡ l.at + (8 + 2 * rule.words) = omega arith in
    subst (λ k. Here a.file.now a.n a.table.now (set l.table l.r rule) k (l.r + 1)) next
    (at_next a.file.now a.n a.table.now l.table l.at l.r l.invariant (omega arith) (omega arith) rule (found (goal.at.loop-r-preserved c).In_ok-rule) _ refl)

pub returns : goal.returns
returns c =
    let a = c.args in
    let l = c.loop-r in
    at_end a.file.now a.n a.table.now l.table l.at l.r l.invariant (omega arith) (omega arith)
