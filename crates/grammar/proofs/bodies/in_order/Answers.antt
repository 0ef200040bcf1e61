-- `grammar::bodies::in_order` meets its contract: the number of the parameter due next, over the words from i on, tells what the model's test does.
use Prim.Native.Nat.{ℕ, ◌+◌, ◌*◌, ◌/◌}
use mathlib.Core.Path.{◌≡◌, sym, ap, ◌∙◌}
use mathlib.Core.Logic.{inl, inr}
use native.Mathlib.Omega.{arith}
use lib.ListN.{length, drop}
use Rattle.std.specs.Prelude.{Some, None, Option}
use Rattle.model.specs.Words.{when_parameter}
use Rattle.model.specs.File.{words_in}
use Rattle.grammar.specs.Meaning.{word_in}
use Rattle.grammar.proofs.BodyWords.{body_rest, body_end}
use Rattle.grammar.proofs.Order.{order_ok, order_start, order_over, order_next, order_fails, order_end}
use Rattle.grammar.proofs.bodies.in_order.Goals.{After-parameter, then-n-next-via-then-n-next, then-n-next-via-else-n-next+then-k-n, in-Some+else-n-next+else-k-n, in_default}
use Rattle.grammar.proofs.bodies.in_order.Goals as goal

pub loop-i-init : goal.loop-i-init
loop-i-init c = (omega arith, order_start c.args.k (words_in c.args.body.now))

-- what the word read has for a number
number : (c : After-parameter) → when_parameter {A = Option ℕ} None (λ i. Some i) (word_in c.args.body.now (2 * c.loop-i.i)) ≡ c.parameter.result
number c = sym (c.parameter.ensures ∙ ap (when_parameter {A = Option ℕ} None (λ i. Some i)) c.word_at.ensures)

pub returns-then-n-next : goal.returns-then-n-next
returns-then-n-next c =
    let l = c.loop-i in
    let rest = body_rest c.args.body.now l.i (omega arith) in
    let some = number (goal.at.returns-then-n-next c).After-parameter ∙ c.in-Some.is in
    elim c.then-n-next.branch [
      | then-n-next-via-then-n-next w ↦ sym (l.invariant.1 ∙ order_fails c.args.k rest l.next c.in-Some.n some (inl w.if-n-next.true))
      | then-n-next-via-else-n-next+then-k-n w ↦ sym (l.invariant.1 ∙ order_fails c.args.k rest l.next c.in-Some.n some (inr (omega arith, omega arith)))
    ]

pub loop-i-preserved : goal.loop-i-preserved
loop-i-preserved c =
    let l = c.loop-i in
    let rest = body_rest c.args.body.now l.i (omega arith) in
    let is = number (goal.at.loop-i-preserved c).After-parameter in
    elim c.match-parameter.branch [
      | in-Some+else-n-next+else-k-n w ↦ (
        omega arith,
        l.invariant.1
            ∙ order_next c.args.k rest l.next w.in-Some.n (is ∙ w.in-Some.is) (omega arith) (omega arith)
            ∙ ap (λ (n : ℕ). order_ok c.args.k n (drop (l.i + 1) (words_in c.args.body.now))) (sym w.next-is),
      )
      | in_default w ↦ (
        omega arith,
        l.invariant.1
            ∙ order_over c.args.k rest l.next (is ∙ w.in_default.is)
            ∙ ap (λ (n : ℕ). order_ok c.args.k n (drop (l.i + 1) (words_in c.args.body.now))) (sym w.next-is),
      )
    ]

pub returns : goal.returns
returns c =
    let e : c.loop-i.i ≡ length c.args.body.now / 2 = omega arith in
    order_end c.args.k c.loop-i.next (ap (λ (n : ℕ). drop n (words_in c.args.body.now)) e ∙ body_end c.args.body.now)
    ∙ sym c.loop-i.invariant.1
