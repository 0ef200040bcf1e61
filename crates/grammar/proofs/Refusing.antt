-- Conditions tried in order: what an answer tells of them.
use Prim.Native.Nat.{ℕ}
use mathlib.Core.Path.{◌≡◌, refl, ap, ◌∙◌}
use mathlib.Core.Bool.{Bool, true, false}
use mathlib.Core.List.{List, [], ◌∷◌, ◌++◌}
use mathlib.Core.Option.{Option, none, some}
use native.Mathlib.Omega.{arith}
use Rattle.model.specs.Refusals.{Refusal, taken, refused, first_of}
use Rattle.laws.proofs.Answers.Conditions.{or_else, none_holds_split, first_of_none, first_of_none_iff}
use Rattle.grammar.specs.Meaning.{unless_refused}

pub unless_taken : {A : Type 0} (v u : A) (o : Option Refusal) → unless_refused v o ≡ taken u → (o ≡ none) × (v ≡ u)
unless_taken v u none e = (refl, cc)
unless_taken v u (some x) e = absurd (let z : ◌≡◌ {A = ℕ} 0 1 = cc in omega arith)

pub unless_refused_lem : {A : Type 0} (v : A) (o : Option Refusal) (x : Refusal) (k : ℕ) → unless_refused v o ≡ refused x k → o ≡ some x
unless_refused_lem v none x k e = absurd (let z : ◌≡◌ {A = ℕ} 0 1 = cc in omega arith)
unless_refused_lem v (some y) x k e = let q : y ≡ x = cc in ap some q

-- what a first list of conditions gives, else what a second gives
first_append : (cs ds : List (Bool × Refusal)) → first_of (cs ++ ds) ≡ or_else (first_of cs) (first_of ds)
first_append [] ds = refl
first_append (c ∷ cs) ds =
    elim c.0 as (λ b. ◌≡◌ {A = Option Refusal} (elim b [ true ↦ some c.1 | false ↦ first_of (cs ++ ds) ]) (or_else (elim b [ true ↦ some c.1 | false ↦ first_of cs ]) (first_of ds)))
    [ true ↦ refl | false ↦ first_append cs ds ]

pub first_over : (cs ds : List (Bool × Refusal)) → first_of cs ≡ none → first_of (cs ++ ds) ≡ first_of ds
first_over cs ds e = first_append cs ds ∙ ap (λ (o : Option Refusal). or_else o (first_of ds)) e

pub first_here : (cs ds : List (Bool × Refusal)) (x : Refusal) → first_of cs ≡ some x → first_of (cs ++ ds) ≡ some x
first_here cs ds x e = first_append cs ds ∙ ap (λ (o : Option Refusal). or_else o (first_of ds)) e

pub first_before : (cs ds : List (Bool × Refusal)) → first_of (cs ++ ds) ≡ none → first_of cs ≡ none
first_before cs ds e = first_of_none cs (none_holds_split cs ds ((first_of_none_iff (cs ++ ds)).0 e)).0
