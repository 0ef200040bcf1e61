-- `grammar::read::read` meets its contract: too large, a head that is refused, what the records or the whole refuse, or the grammar.
use Prim.Native.Nat.{ℕ}
use mathlib.Core.Path.{◌≡◌, sym, ap, ◌∙◌}
use native.Mathlib.Omega.{arith}
use lib.ListN.{drop}
use Rattle.std.proofs.lemmas.Result.{err_from_is_err_and}
use Rattle.model.specs.Refusals.{taken, refused}
use Rattle.model.specs.Trees.{expansions}
use Rattle.model.specs.File.{read, rule_count}
use Rattle.grammar.specs.declared.refusals.Refusal.TheVariants as refusals
use Rattle.grammar.specs.Meaning.{refusal_is, result_is, head_result, written_rules, entries, no_rule, padded}
use Rattle.grammar.specs.Measures.{gap_rows}
use Rattle.grammar.proofs.Placing.{at_place, placed_err, placed_ok}
use Rattle.grammar.proofs.ReadWhole.{read_large, read_head, counted}
use Rattle.grammar.proofs.ReadLaws.{refused_is, taken_is}
use Rattle.grammar.proofs.RuleLists.{length_rules}
use Rattle.grammar.proofs.read.read.Goals as goal

pub returns-then-file-gt16384 : goal.returns-then-file-gt16384
returns-then-file-gt16384 c =
    refused_is c.args.file.now (read c.args.file.now) c.args.table.now _ c.args.sizes.now _ c.at.result
    (read_large c.args.file.now (omega arith) ∙ at_place c.at.result refusals.Large 0 c.at.ensures) c.clear.ensures.0 c.clear.ensures.1

pub returns-in_err-n : goal.returns-in_err-n
returns-in_err-n c =
    let file = c.args.file.now in
    let x = c.in_err-n.field-0.0 in
    let p = err_from_is_err_and c.from_residual.result c.from_residual.ensures.1 in
    let q = placed_err 0 c.head.result x c.in_err-n.ensures in
    rw p.1
    (refused_is file (read file) c.args.table.now _ c.args.sizes.now _ _
    (rw p.2 (read_head file (omega arith) (refusal_is x.refusal) (sym c.head.ensures ∙ ap result_is q.0) ∙ ap (refused (refusal_is x.refusal)) (sym q.1)))
    c.clear.ensures.0 c.clear.ensures.1)

pub returns : goal.returns
returns c =
    let file = c.args.file.now in
    let n = c.in_ok-n.n in
    let head : head_result file ≡ taken n = sym c.head.ensures ∙ ap result_is (placed_ok 0 c.head.result n c.in_ok-n.ensures) in
    let R = c.in_default.ensures in
    let W = c.in_default-whole.ensures in
    taken_is file (read file) c.args.table.now _ c.args.sizes.now _ n (written_rules file) (R.0 ∙ W.0)
    (length_rules (rule_count file) (drop 10 file) ∙ sym (counted file (omega arith) n head))
    (R.2 ∙ ap (λ (k : ℕ). padded no_rule k (entries 18 (written_rules file))) c.clear.auto.table)
    (W.1 ∙ ap (λ (k : ℕ). padded 0 k (gap_rows (expansions (written_rules file)))) c.clear.auto.sizes)
    (R.1.bodies, R.1.within, R.1.short)
