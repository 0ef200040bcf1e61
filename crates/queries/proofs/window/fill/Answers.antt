-- `queries::window::fill` meets its contract: a file that is refused, a place outside the tree, and a window within it.
use native.Mathlib.Omega.{arith}
use Prim.Native.Nat.{ℕ, ◌+◌, ◌-◌, ◌≤◌, ◌<◌}
use mathlib.Core.Path.{◌≡◌, sym, ap, ◌∙◌}
use lib.ListN.{length, take, length-take}
use Rattle.std.proofs.lemmas.Result.{err_from_is_err_and}
use Rattle.model.specs.Trees.{nodes}
use Rattle.grammar.specs.Meaning.{reading_is}
use Rattle.grammar.specs.Measures.{first_gaps, Denotes}
use Rattle.grammar.proofs.Promise.{denotes, count_bounds, within_table}
use Rattle.grammar.proofs.Denoted.{nodes_counted}
use Rattle.queries.specs.Building.{rules_of}
use Rattle.queries.proofs.HeldRules.{named}
use Rattle.queries.proofs.Windows.{answer_refused, answer_outside, answer_inside}
use Rattle.queries.proofs.window.fill.Goals.{In_ok-n, After-at, then-nodes-len-via-then-nodes-len, then-nodes-len-via-else-nodes-len+then-nodes-len-2}
use Rattle.queries.proofs.window.fill.Goals as goal

pub returns-in_err-n-clause-answer : goal.returns-in_err-n-clause-answer
returns-in_err-n-clause-answer c =
    let p = err_from_is_err_and c.from_residual.result c.from_residual.ensures.1 in
    let x = c.in_err-n.field-0.0 in
    rw (p.1, p.2) (answer_refused c.args.file.now c.args.p _ x (sym (ap reading_is c.in_err-n.was) ∙ c.read.ensures.reading)).0

-- a file that is taken denotes a grammar of so many rules
module _ (c : In_ok-n) where
  denoted : Denotes c.args.file.now (take c.in_ok-n.n c.read.new.table) c.read.new.sizes
  denoted = denotes c.args.file.now c.in_ok-n.n c.read.result _ c.read.new.table _ c.read.new.sizes c.in_ok-n.was c.read.ensures (omega arith) (omega arith)

  some_rule : (1 ≤ c.in_ok-n.n) × (c.in_ok-n.n ≤ 256)
  some_rule = count_bounds c.args.file.now c.in_ok-n.n c.read.result _ c.read.new.table _ c.read.new.sizes c.in_ok-n.was c.read.ensures (omega arith) (omega arith)

  in_table : c.in_ok-n.n ≤ length c.read.new.table
  in_table = within_table c.args.file.now c.in_ok-n.n c.read.result _ c.read.new.table _ c.read.new.sizes c.in_ok-n.was c.read.ensures (omega arith) (omega arith)

  as_many : c.in_ok-n.n ≡ length (take c.in_ok-n.n c.read.new.table)
  as_many = omega (arith, length-take c.in_ok-n.n c.read.new.table, in_table)

  -- and its nodes are counted
  counted : (k : ℕ) → k ≡ first_gaps c.read.new.sizes (c.in_ok-n.n - 1) 5 → k ≡ nodes (rules_of c.args.file.now)
  counted k e = e ∙ ap (λ (n : ℕ). first_gaps c.read.new.sizes (n - 1) 5) as_many ∙ nodes_counted (named denoted)

pub overflow_sub-n : goal.overflow_sub-n
overflow_sub-n c = (some_rule (goal.at.overflow_sub-n c).In_ok-n).0

pub first_gaps-nodes-requires : goal.first_gaps-nodes-requires
first_gaps-nodes-requires c =
    let at = (goal.at.first_gaps-nodes-requires c).In_ok-n in
    let d = denoted at in
    (omega (arith, some_rule at, d.longer), omega arith, d.small)

outside : (c : After-at) → c.first_gaps-nodes.result ≡ nodes (rules_of c.args.file.now) → nodes (rules_of c.args.file.now) < c.args.p + length c.args.out.now
outside c e =
    elim c.then-nodes-len.branch [ then-nodes-len-via-then-nodes-len w ↦ omega arith | then-nodes-len-via-else-nodes-len+then-nodes-len-2 w ↦ omega arith ]

pub returns-then-nodes-len-clause-answer : goal.returns-then-nodes-len-clause-answer
returns-then-nodes-len-clause-answer c =
    let at = goal.at.returns-then-nodes-len-clause-answer c in
    (answer_outside (denoted at.In_ok-n) c.args.p _ (outside at.After-at (counted at.In_ok-n _ c.first_gaps-nodes.ensures.0)) c.at.result c.at.ensures.0 c.at.ensures.1).0

pub returns-then-nodes-len-clause-words : goal.returns-then-nodes-len-clause-words
returns-then-nodes-len-clause-words c =
    let at = goal.at.returns-then-nodes-len-clause-words c in
    (answer_outside (denoted at.In_ok-n) c.args.p _ (outside at.After-at (counted at.In_ok-n _ c.first_gaps-nodes.ensures.0)) c.at.result c.at.ensures.0 c.at.ensures.1).1

pub slice_bounds-table-end : goal.slice_bounds-table-end
slice_bounds-table-end c = in_table (goal.at.slice_bounds-table-end c).In_ok-n

pub slice_bounds-expand-end : goal.slice_bounds-expand-end
slice_bounds-expand-end c = as_many (goal.at.slice_bounds-expand-end c).In_ok-n

pub expand-requires : goal.expand-requires
expand-requires c =
    let at = goal.at.expand-requires c in (denoted at.In_ok-n, omega (arith, counted at.In_ok-n _ c.first_gaps-nodes.ensures.0))

pub returns-clause-answer : goal.returns-clause-answer
returns-clause-answer c =
    let at = goal.at.returns-clause-answer c in
    (answer_inside (denoted at.In_ok-n) c.args.p _ (omega (arith, counted at.In_ok-n _ c.first_gaps-nodes.ensures.0)) c.in_ok-n.n _ c.expand.ensures).0
