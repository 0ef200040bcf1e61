-- A query's answer from what was read.
use Prim.Native.Nat.{ℕ}
use mathlib.Core.Path.{◌≡◌, refl, sym, ap, subst, ◌∙◌}
use native.Mathlib.Omega.{arith}
use mathlib.Core.List.{List}
use Rattle.model.specs.Trees.{Rule, nodes}
use Rattle.model.specs.Refusals.{Refusal, Result, taken, refused, number_of}
use Rattle.model.specs.File.{read}
use Rattle.model.specs.Answers.{Answer, CountAnswer, checked, checked_as, counted_as, refusal}
use Rattle.laws.proofs.File.Placed.{read_placed}
use Rattle.grammar.specs.Meaning.{reading_of, query_answer}

-- a file's refusal comes with its own place
pub query_refused : (file : List ℕ) (x : Refusal) (k : ℕ) → read file ≡ refused x k → query_answer {A = ℕ} (refused x k) ≡ refusal x k
query_refused file x k e = ap (λ (place : ℕ). made place) (sym (read_placed file x k e))
  where
    made : ℕ → Answer
    made place = record { number = number_of x; place = place; opened = 0; rounds = 0; length = 0 }

pub query_checked : (file : List ℕ) → query_answer (reading_of (read file)) ≡ checked file
query_checked file = go (read file) refl
  where
    go : (m : Result (List Rule)) → read file ≡ m → query_answer (reading_of m) ≡ checked_as m
    go (taken rules) e = refl
    go (refused x k) e = query_refused file x k e

-- the node counter's answer
pub count_taken : (m : Result (List Rule)) (rules : List Rule) (a : Answer) (k : ℕ) → m ≡ taken rules → a ≡ checked_as m → k ≡ nodes rules
    → ◌≡◌ {A = CountAnswer} (record { answer = a; nodes = k }) (counted_as m)
count_taken m rules a k e f g = λ i. (subst (λ (x : Result (List Rule)). ◌≡◌ {A = CountAnswer} (record { answer = a; nodes = k }) (counted_as x)) (sym e)
    (λ j. record { answer = (f ∙ ap checked_as e) j; nodes = g j })) i

pub count_refused : (m : Result (List Rule)) (n : Result ℕ) (a : Answer) (x : Refusal) (k : ℕ) → n ≡ refused x k → n ≡ reading_of m → a ≡ checked_as m
    → ◌≡◌ {A = CountAnswer} (record { answer = a; nodes = 0 }) (counted_as m)
count_refused (taken rules) n a x k e f g = absurd (let z : ◌≡◌ {A = ℕ} 0 1 = cc in omega arith)
count_refused (refused y l) n a x k e f g = λ j. record { answer = g j; nodes = 0 }
