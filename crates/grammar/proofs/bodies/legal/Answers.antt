-- `grammar::bodies::legal` meets its contract: the words passed so far are legal.
use Prim.Native.Nat.{ℕ, ◌/◌}
use mathlib.Core.Path.{◌≡◌, sym, ap, ◌∙◌}
use native.Mathlib.Omega.{arith}
use lib.ListN.{length, drop}
use Rattle.grammar.proofs.BodyWords.{body_rest, body_end}
use Rattle.grammar.proofs.Tests.{all_fails, all_goes_on}
use Rattle.model.specs.Trees.{all, is_legal}
use Rattle.model.specs.File.{words_in}
use Rattle.grammar.proofs.bodies.legal.Goals as goal

pub returns-then-not-legal_word : goal.returns-then-not-legal_word
returns-then-not-legal_word c =
    let a = c.args in
    sym
    (c.loop-i.invariant
    ∙ all_fails (is_legal a.r) (body_rest a.body.now c.loop-i.i (omega arith))
    (ap (is_legal a.r) (sym c.word_at.ensures) ∙ sym c.legal_word.ensures ∙ c.if-not-legal_word.true))

pub loop-i-preserved : goal.loop-i-preserved
loop-i-preserved c =
    let a = c.args in
    c.loop-i.invariant
    ∙ all_goes_on (is_legal a.r) (body_rest a.body.now c.loop-i.i (omega arith))
    (ap (is_legal a.r) (sym c.word_at.ensures) ∙ sym c.legal_word.ensures ∙ c.if-not-legal_word.false)

pub returns : goal.returns
returns c =
    let a = c.args in
    let w : c.loop-i.i ≡ length a.body.now / 2 = omega arith in
    sym (c.loop-i.invariant ∙ ap (λ (n : ℕ). all (is_legal a.r) (drop n (words_in a.body.now))) w ∙ ap (all (is_legal a.r)) (body_end a.body.now))
