-- A body's parameters, tested from the left: which is due next.
use Prim.Native.Nat.{ℕ, zero, suc, ◌+◌, ◌-◌, ◌≤◌, ◌<◌}
use mathlib.Core.Path.{◌≡◌, refl, sym, ap, ◌∙◌}
use mathlib.Core.Bool.{Bool, true, false, ◌&&◌}
use mathlib.Core.List.{List, [], ◌∷◌}
use native.Mathlib.Numerals.{add-one}
use mathlib.Core.Logic.{◌⊎◌, inl, inr}
use native.Mathlib.Omega.{arith}
use lib.Dec.{ltb}
use borrow.Author.Tests.{eq-eqb, ne_eqb, lt-ltb, le-ltb}
use Rattle.std.specs.Prelude.{Some, None, Option, is_some}
use Rattle.model.specs.Words.{Class, class_of, parameter, is_parameter, when_parameter}
use Rattle.model.specs.Trees.{same, those, parameters, parameters_from}
use Rattle.laws.proofs.Words.Classes.{parameter_word_lem}
use Rattle.laws.proofs.Trees.Fills.{those_in, those_out}

some_same : {m n : ℕ} → ◌≡◌ {A = Option ℕ} (Some m) (Some n) → m ≡ n
some_same e = cc

no_some : {n : ℕ} → ◌≡◌ {A = Option ℕ} (Some n) None → ⊥
no_some e = absurd (let z : ◌≡◌ {A = ℕ} 0 1 = cc in omega arith)

-- the parameters of ws are y_next to y_k
abbrev pub order_ok : ℕ → ℕ → List ℕ → Bool
order_ok k next ws = same (those is_parameter ws) (parameters_from next (suc k - next))

pub number_class : (w n : ℕ) → when_parameter {A = Option ℕ} None (λ i. Some i) w ≡ Some n → class_of w ≡ parameter n
number_class w n e = go (class_of w) refl
  where
    go : (c : Class) → class_of w ≡ c → class_of w ≡ parameter n
    go Class.empty f = absurd (no_some (sym (rw f at e)))
    go Class.label f = absurd (no_some (sym (rw f at e)))
    go (Class.parameter i) f = f ∙ ap parameter (some_same (rw f at e))
    go (Class.call j) f = absurd (no_some (sym (rw f at e)))
    go Class.illegal f = absurd (no_some (sym (rw f at e)))

pub no_number : (w : ℕ) → when_parameter {A = Option ℕ} None (λ i. Some i) w ≡ None → is_parameter w ≡ false
no_number w e = go (class_of w) refl
  where
    go : (c : Class) → class_of w ≡ c → is_parameter w ≡ false
    go Class.empty f = rw f
    go Class.label f = rw f
    go (Class.parameter i) f = absurd (no_some (rw f at e))
    go (Class.call j) f = rw f
    go Class.illegal f = rw f

-- a word has a number exactly where it is a parameter
pub is_some_parameter : (w : ℕ) → is_parameter w ≡ is_some (when_parameter {A = Option ℕ} None (λ i. Some i) w)
is_some_parameter w = go (class_of w) refl
  where
    go : (c : Class) → class_of w ≡ c → is_parameter w ≡ is_some (when_parameter {A = Option ℕ} None (λ i. Some i) w)
    go Class.empty f = rw f
    go Class.label f = rw f
    go (Class.parameter i) f = rw f
    go (Class.call j) f = rw f
    go Class.illegal f = rw f

pub class_is_parameter : (w n : ℕ) → class_of w ≡ parameter n → is_parameter w ≡ true
class_is_parameter w n e = rw e

module _ (k : ℕ) {l rest : List ℕ} {w : ℕ} (e : l ≡ w ∷ rest) (next : ℕ) where
  -- a word that is no parameter is passed over
  pub order_over : when_parameter {A = Option ℕ} None (λ i. Some i) w ≡ None → order_ok k next l ≡ order_ok k next rest
  order_over h =
      ap (order_ok k next) e
      ∙ ap (λ (ps : List ℕ). same ps (parameters_from next (suc k - next))) (those_out is_parameter w rest (no_number w h))

  module _ (n : ℕ) (h : when_parameter {A = Option ℕ} None (λ i. Some i) w ≡ Some n) where
    here : order_ok k next l ≡ same (w ∷ those is_parameter rest) (parameters_from next (suc k - next))
    here =
        ap (order_ok k next) e
        ∙ ap (λ (ps : List ℕ). same ps (parameters_from next (suc k - next)))
        (those_in is_parameter w rest (class_is_parameter w n (number_class w n h)))

    word : w ≡ 32768 + n
    word = (parameter_word_lem w n (number_class w n h)).0

    -- the parameter that is due
    pub order_next : n ≡ next → n ≤ k → order_ok k next l ≡ order_ok k (next + 1) rest
    order_next q l =
        here
        ∙ ap (λ (m : ℕ). same (w ∷ those is_parameter rest) (parameters_from next m)) due
        ∙ ap (λ (b : Bool). b && same (those is_parameter rest) (parameters_from (suc next) (k - next))) (eq-eqb w (32768 + next) (omega (arith, word)))
        ∙ ap (λ (m : ℕ). same (those is_parameter rest) (parameters_from m (k - next))) (sym (add-one next))
        ∙ ap (λ (m : ℕ). same (those is_parameter rest) (parameters_from (next + 1) m)) left
      where
        due : suc k - next ≡ suc (k - next)
        due = omega arith

        left : k - next ≡ suc k - (next + 1)
        left = omega arith

    fails : (m : ℕ) → (n ≡ next → ⊥) ⊎ (m ≡ 0) → same (w ∷ those is_parameter rest) (parameters_from next m) ≡ false
    fails zero q = refl
    fails (suc m) (inl q) =
        ap (λ (b : Bool). b && same (those is_parameter rest) (parameters_from (suc next) m)) (ne_eqb w (32768 + next) (λ z. q (omega (arith, word))))
    fails (suc m) (inr q) = absurd (omega arith)

    -- another parameter, or one over k
    pub order_fails : (n ≡ next → ⊥) ⊎ ((n ≡ next) × (k < n)) → order_ok k next l ≡ false
    order_fails (inl q) = here ∙ fails (suc k - next) (inl q)
    order_fails (inr q) = here ∙ fails (suc k - next) (inr (let a = q.0 in let b = q.1 in omega arith))

pub order_end : (k next : ℕ) {l : List ℕ} → l ≡ [] → ltb k next ≡ order_ok k next l
order_end k next {l} e = go (suc k - next) refl ∙ sym (ap (order_ok k next) e)
  where
    go : (m : ℕ) → suc k - next ≡ m → ltb k next ≡ same [] (parameters_from next m)
    go zero h = lt-ltb k next (omega arith)
    go (suc m) h = le-ltb k next (omega arith)

pub order_start : (k : ℕ) (ws : List ℕ) → same (those is_parameter ws) (parameters k) ≡ order_ok k 1 ws
order_start k ws = ap (λ (m : ℕ). same (those is_parameter ws) (parameters_from 1 m)) all_due
  where
    all_due : k ≡ suc k - 1
    all_due = omega arith
