-- What the class of a word says of the word.
use Prim.Native.Nat.{ℕ, ◌-◌, ◌≤◌, ◌<◌}
use mathlib.Core.Path.{◌≡◌, refl, ap}
use mathlib.Core.Bool.{Bool, true, false, cond, and-false, not, true≢false}
use mathlib.Core.List.{List, []}
use native.Mathlib.Omega.{arith}
use lib.Dec.{T, leb, eqb, leb→le, le→leb}
use borrow.Author.Tests.{lt-leb, ne_eqb, eqb-true}
use mir.Facts.{and_yes, yes_and}
use Rattle.model.specs.Trees.{is_legal, is_legal_as}
use Rattle.model.specs.Words.{empty, label, parameter, call, illegal, class_of, within, parameter_word, call_word, Class, is_label, is_tree_word, is_parameter, rank_of, is_label_as, is_parameter_as, is_tree_word_as, rank_as}
use Rattle.laws.proofs.Words.Tests.{true_T, T_true}

pub within_bounds : (a b w : ℕ) → within a b w ≡ true → (a ≤ w) × (w ≤ b)
within_bounds a b w e = let t = and_yes (leb a w) (leb w b) (true_T _ e) in (leb→le a w t.0, leb→le w b t.1)

pub bounds_within : (a b w : ℕ) → a ≤ w → w ≤ b → within a b w ≡ true
bounds_within a b w h k = T_true (within a b w) (yes_and (leb a w) (leb w b) (le→leb a w h) (le→leb w b k))

outside : (a b w : ℕ) → b < w → within a b w ≡ false
outside a b w h = rw (lt-leb w b h) (and-false (leb a w))

pub parameter_word_lem : (w n : ℕ) → class_of w ≡ parameter n → (w ≡ parameter_word n) × (1 ≤ n) × (n ≤ 4)
unfolding class_of
parameter_word_lem w n e = go (eqb w 0) (within 1 32767 w) (within 32769 32772 w) (within 49152 49407 w) refl e
  where
    go : (a b c d : Bool) → within 32769 32772 w ≡ c
        → cond a empty (cond b label (cond c (parameter (w - 32768)) (cond d (call (w - 49152)) illegal))) ≡ parameter n
        → (w ≡ parameter_word n) × (1 ≤ n) × (n ≤ 4)
    go true b c d r x = let z : ◌≡◌ {A = ℕ} 0 1 = cc in omega arith
    go false true c d r x = let z : ◌≡◌ {A = ℕ} 0 1 = cc in omega arith
    go false false true d r x =
        let k = within_bounds 32769 32772 w r in
        let y : w - 32768 ≡ n = cc in
        omega arith
    go false false false true r x = let z : ◌≡◌ {A = ℕ} 0 1 = cc in omega arith
    go false false false false r x = let z : ◌≡◌ {A = ℕ} 0 1 = cc in omega arith

pub call_word_lem : (w j : ℕ) → class_of w ≡ call j → (w ≡ call_word j) × (j < 256)
unfolding class_of
call_word_lem w j e = go (eqb w 0) (within 1 32767 w) (within 32769 32772 w) (within 49152 49407 w) refl e
  where
    go : (a b c d : Bool) → within 49152 49407 w ≡ d
        → cond a empty (cond b label (cond c (parameter (w - 32768)) (cond d (call (w - 49152)) illegal))) ≡ call j
        → (w ≡ call_word j) × (j < 256)
    go true b c d r x = let z : ◌≡◌ {A = ℕ} 0 1 = cc in omega arith
    go false true c d r x = let z : ◌≡◌ {A = ℕ} 0 1 = cc in omega arith
    go false false true d r x = let z : ◌≡◌ {A = ℕ} 0 1 = cc in omega arith
    go false false false true r x =
        let k = within_bounds 49152 49407 w r in
        let y : w - 49152 ≡ j = cc in
        omega arith
    go false false false false r x = let z : ◌≡◌ {A = ℕ} 0 1 = cc in omega arith

pub class_of_call : (j : ℕ) → j < 256 → class_of (call_word j) ≡ call j
unfolding class_of
class_of_call j h =
    rw (ne_eqb (call_word j) 0 (omega arith), outside 1 32767 (call_word j) (omega arith), outside 32769 32772 (call_word j) (omega arith), bounds_within 49152 49407 (call_word j) (omega arith) (omega arith))
    (ap call (omega arith))

pub class_of_parameter : (n : ℕ) → 1 ≤ n → n ≤ 4 → class_of (parameter_word n) ≡ parameter n
unfolding class_of
class_of_parameter n h k =
    rw (ne_eqb (parameter_word n) 0 (omega arith), outside 1 32767 (parameter_word n) (omega arith), bounds_within 32769 32772 (parameter_word n) (omega arith) (omega arith))
    (ap parameter (omega arith))

pub class_empty : (w : ℕ) → class_of w ≡ empty → w ≡ 0
unfolding class_of
class_empty w e = eqb-true w 0 (go (eqb w 0) (within 1 32767 w) (within 32769 32772 w) (within 49152 49407 w) e)
  where
    go : (a b c d : Bool) → cond a empty (cond b label (cond c (parameter (w - 32768)) (cond d (call (w - 49152)) illegal))) ≡ empty → a ≡ true
    go true b c d e = refl
    go false true c d e = cc
    go false false true d e = cc
    go false false false true e = cc
    go false false false false e = cc

-- what holds of the classes of explicit words holds of an explicit word's
pub by_explicit : (P : Class → Type 0) → P empty → P label → (w : ℕ) → T (is_tree_word w) → P (class_of w)
by_explicit P e l w t = go (class_of w) t
  where
    go : (c : Class) → T (is_tree_word_as c) → P c
    go empty t = e
    go label t = l
    go (parameter i) t = absurd t
    go (call j) t = absurd t
    go illegal t = absurd t

pub label_class : (w : ℕ) → T (is_label w) → class_of w ≡ label
label_class w t = go (class_of w) t
  where
    go : (c : Class) → T (is_label_as c) → c ≡ label
    go empty t = absurd t
    go label t = refl
    go (parameter i) t = absurd t
    go (call j) t = absurd t
    go illegal t = absurd t

pub label_explicit : (w : ℕ) → T (is_label w) → T (is_tree_word w)
label_explicit w t = rw (label_class w t) tt

-- it is legal everywhere, no parameter, and has the same rank whatever is called: two if it is not ⊥
pub explicit_legal : (n w : ℕ) → T (is_tree_word w) → T (is_legal n w)
explicit_legal n = by_explicit (λ c. T (is_legal_as n c)) tt tt

pub explicit_closed : (w : ℕ) → T (is_tree_word w) → T (not (is_parameter w))
explicit_closed = by_explicit (λ c. T (not (is_parameter_as c))) tt tt

pub explicit_rank : (ranks : List ℕ) (w : ℕ) → T (is_tree_word w) → rank_of ranks w ≡ rank_of [] w
explicit_rank ranks = by_explicit (λ c. ◌≡◌ {A = ℕ} (rank_as ranks c) (rank_as [] c)) refl refl

pub label_rank : (ranks : List ℕ) (w : ℕ) → T (is_label w) → rank_of ranks w ≡ 2
label_rank ranks w t = simp (label_class w t)

pub element_label : (w : ℕ) → T (is_tree_word w) → (w ≡ 0 → ⊥) → T (is_label w)
element_label w t n = by_explicit (λ c. class_of w ≡ c → T (is_label_as c)) (λ e. absurd (n (class_empty w e))) (λ e. tt) w t refl

pub element_rank : (ranks : List ℕ) (w : ℕ) → T (is_tree_word w) → (w ≡ 0 → ⊥) → rank_of ranks w ≡ 2
element_rank ranks w t n = label_rank ranks w (element_label w t n)

-- a legal word that is neither a parameter nor a call is explicit
pub explicit_word : (r w : ℕ) → T (is_legal r w) → is_parameter w ≡ false → ((j : ℕ) → class_of w ≡ call j → ⊥) → T (is_tree_word w)
explicit_word r w l p c = go (class_of w) refl
  where
    go : (k : Class) → class_of w ≡ k → T (is_tree_word w)
    go empty e = simp e tt
    go label e = simp e tt
    go (parameter n) e = let z : true ≡ false = simp e at p in absurd (true≢false z)
    go (call j) e = absurd (c j e)
    go illegal e = absurd (simp e at l)
