-- `grammar::read::records` meets its contract: the records' refusal, bytes after the last rule, or the rules of the whole.
use Prim.Native.Nat.{◌+◌}
use mathlib.Core.Path.{◌∙◌}
use native.Mathlib.Omega.{arith}
use Rattle.std.proofs.lemmas.Result.{err_from_is_err_and}
use Rattle.grammar.specs.declared.refusals.Refusal.TheVariants as refusals
use Rattle.grammar.proofs.Placing.{at_place}
use Rattle.grammar.proofs.TakenRules.{rules_refused, trail, no_trail, measurable, table_is}
use Rattle.grammar.proofs.read.records.Goals as goal

pub returns-in_err-end : goal.returns-in_err-end
returns-in_err-end c =
    let a = c.args in
    let x = c.in_err-end.field-0.0 in
    let p = err_from_is_err_and c.from_residual.result c.from_residual.ensures.1 in
    rw (p.1, p.2)
    (rules_refused a.file.now a.n c.requires.0 c.requires.1 a.table.now c.rules.new.table c.rules.result c.rules.ensures x c.in_err-end.was)

pub returns-then-end-file : goal.returns-then-end-file
returns-then-end-file c =
    let a = c.args in
    trail a.file.now a.n c.requires.0 c.requires.1 a.table.now c.rules.new.table c.rules.result c.rules.ensures c.in_ok-end.end c.in_ok-end.was (omega arith)
    ∙ at_place c.at.result refusals.Trail (a.n + 1) c.at.ensures

pub returns : goal.returns
returns c =
    let a = c.args in (
      no_trail a.file.now a.n c.requires.0 c.requires.1 a.table.now c.rules.new.table c.rules.result c.rules.ensures c.in_ok-end.end c.in_ok-end.was (omega arith),
      measurable a.file.now a.n c.requires.0 c.requires.1 a.table.now c.rules.new.table c.rules.result c.rules.ensures c.in_ok-end.end c.in_ok-end.was c.requires.2,
      table_is a.file.now a.n c.requires.0 c.requires.1 a.table.now c.rules.new.table c.rules.result c.rules.ensures c.in_ok-end.end c.in_ok-end.was c.requires.3 c.requires.2,
    )
