-- What a reading that was given its place tells of the reading.
use Prim.Native.Nat.{ℕ}
use mathlib.Core.Path.{◌≡◌, sym, ap}
use native.Mathlib.Omega.{arith}
use Rattle.std.specs.Prelude.{Ok, Err, MatchResult, Result as Outcome}
use Rattle.model.specs.Refusals.{Result, refused}
use Rattle.grammar.specs.Meaning.{refusal_is}
use Rattle.grammar.specs.declared.refusals.Refusal.{Refusal}
use Rattle.grammar.specs.declared.refusals.Refused.{Refused}

-- a refusal given its place
pub at_place : (x : Refused) (r : Refusal) (k : ℕ) → (x.refusal ≡ r) × (x.place ≡ k) → {A : Type 0} → ◌≡◌ {A = Result A} (refused (refusal_is r) k) (refused (refusal_is x.refusal) x.place)
at_place x r k e = λ i. refused (refusal_is (sym e.0 i)) (sym e.1 i)

module _ {A : Type 0} (place : ℕ) where
  abbrev pub Placed : Outcome A Refusal → Outcome A Refused → Type 0
  Placed read placed = MatchResult read (λ a. placed ≡ Ok a) (λ x. placed ≡ Err (record { refusal = x; place = place }))

  pub placed_err : (read : Outcome A Refusal) (x : Refused) → Placed read (Err x) → (read ≡ Err x.refusal) × (x.place ≡ place)
  placed_err (Ok a) x e = absurd (let z : ◌≡◌ {A = ℕ} 0 1 = cc in omega arith)
  placed_err (Err y) x e = let s : x ≡ record { refusal = y; place = place } = cc in (ap Err (sym (ap (λ (z : Refused). z.refusal) s)), ap (λ (z : Refused). z.place) s)

  pub placed_ok : (read : Outcome A Refusal) (a : A) → Placed read (Ok a) → read ≡ Ok a
  placed_ok (Ok b) a e = let s : b ≡ a = cc in ap Ok s
  placed_ok (Err y) a e = absurd (let z : ◌≡◌ {A = ℕ} 0 1 = cc in omega arith)
