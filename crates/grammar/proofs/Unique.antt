-- Document 01: "equality of any two conforming answers is proved". Answers that mean the same are the same, so a contract that is an equation with the model leaves no
-- part of the code's answer open.
use Prim.Native.Nat.{ℕ, ◌-◌}
use mathlib.Core.Path.{◌≡◌, refl, sym, ap, ◌∙◌}
use mathlib.Core.List.{List, [], ◌∷◌}
use native.Mathlib.Omega.{arith}
use lib.ListN.{get_or}
use Rattle.model.specs.Refusals.{number_of}
use Rattle.model.specs.Answers as answers
use Rattle.laws.proofs.Answers.Refusals.{number_of_positive}
use Rattle.grammar.specs.declared.refusals.Refusal.{Refusal}
use Rattle.grammar.specs.declared.refusals.Refusal.TheVariants.{Short, Kind, Length, Head, Rank, Symbol, Body, Trail, Large, Huge, Empty, Position, Node, Label, Tree, NothingLeft, Outgrown, Full, Room, Work, Request}
use Rattle.std.specs.Prelude.{Ok, Err, Result as Outcome, ⊤}
use Rattle.grammar.specs.declared.refusals.Refused.{Refused}
use Rattle.grammar.specs.declared.refusals.Answer.{Answer}
use Rattle.grammar.specs.declared.answers.Counted.{Counted}
use Rattle.grammar.specs.Meaning.{refusal_is, verdict_is, answer_is, count_is}

-- the refusals from number 1 on
every : List Refusal
every =
    Short ∷ Kind ∷ Length ∷ Head ∷ Rank ∷ Symbol ∷ Body ∷ Trail ∷ Large ∷ Huge ∷ Empty ∷ Position ∷ Node ∷ Label ∷ Tree ∷ NothingLeft ∷ Outgrown ∷ Full ∷ Room ∷ Work ∷ Request ∷ []

abbrev by_number : ℕ → Refusal
by_number n = get_or every (n - 1) Short

numbered : (x : Refusal) → by_number (number_of (refusal_is x)) ≡ x
unfolding every
numbered Short = refl
numbered Kind = refl
numbered Length = refl
numbered Head = refl
numbered Rank = refl
numbered Symbol = refl
numbered Body = refl
numbered Trail = refl
numbered Large = refl
numbered Huge = refl
numbered Empty = refl
numbered Position = refl
numbered Node = refl
numbered Label = refl
numbered Tree = refl
numbered NothingLeft = refl
numbered Outgrown = refl
numbered Full = refl
numbered Room = refl
numbered Work = refl
numbered Request = refl

refusal_unique : (x y : Refusal) → number_of (refusal_is x) ≡ number_of (refusal_is y) → x ≡ y
refusal_unique x y e = sym (numbered x) ∙ ap by_number e ∙ numbered y

parts_unique : (v w : Outcome ⊤ Refused) (o r l o' r' l' : ℕ) → verdict_is v o r l ≡ verdict_is w o' r' l' → (v ≡ w) × (o ≡ o') × (r ≡ r') × (l ≡ l')
parts_unique (Ok u) (Ok v) o r l o' r' l' e =
    (refl, ap (λ (a : answers.Answer). a.opened) e, ap (λ (a : answers.Answer). a.rounds) e, ap (λ (a : answers.Answer). a.length) e)
parts_unique (Ok u) (Err y) o r l o' r' l' e = absurd (omega (arith, ap (λ (a : answers.Answer). a.number) e, number_of_positive (refusal_is y.refusal)))
parts_unique (Err x) (Ok v) o r l o' r' l' e = absurd (omega (arith, ap (λ (a : answers.Answer). a.number) e, number_of_positive (refusal_is x.refusal)))
parts_unique (Err x) (Err y) o r l o' r' l' e =
    let same : x ≡ y =
    λ i. record { refusal = refusal_unique x.refusal y.refusal (ap (λ (a : answers.Answer). a.number) e) i; place = ap (λ (a : answers.Answer). a.place) e i } in
    (ap Err same, ap (λ (a : answers.Answer). a.opened) e, ap (λ (a : answers.Answer). a.rounds) e, ap (λ (a : answers.Answer). a.length) e)

pub answer_unique : (a b : Answer) → answer_is a ≡ answer_is b → a ≡ b
answer_unique a b e =
    let u = parts_unique a.verdict b.verdict a.opened a.rounds a.length b.opened b.rounds b.length e in
    λ i. record { verdict = u.0 i; opened = u.1 i; rounds = u.2 i; length = u.3 i }

pub count_unique : (a b : Counted) → count_is a ≡ count_is b → a ≡ b
count_unique a b e =
    let u = answer_unique a.answer b.answer (ap (λ (c : answers.CountAnswer). c.answer) e) in
    λ i. record { answer = u i; nodes = ap (λ (c : answers.CountAnswer). c.nodes) e i }
