-- The body of a new rule, a over b with parameters for their other children: one complete tree, and what its expansion is with children filled in.
use Prim.Native.Nat.{ℕ, zero, suc, ◌+◌, ◌-◌, ◌≤◌}
use mathlib.Core.Path.{◌≡◌, refl, sym, ap, ap₂, ◌∙◌, subst}
use mathlib.Core.Bool.{false}
use mathlib.Core.List.{List, [], ◌∷◌, ◌++◌, map, append-nil}
use native.Mathlib.Omega.{arith}
use native.Mathlib.Nat.{zero-add, suc-add}
use lib.Dec.{T}
use lib.ListN.{length, take, drop, get_or, length-append, length-take, length-drop, take-append-drop, drop_of_length-le}
use lib.Seq.{drop-cons, take_all, take_at, drop_at}
use Rattle.model.specs.Words.{Class, class_of, rank_of, is_parameter, parameter_word}
use Rattle.model.specs.Trees.{push, join, fill, grow, those, parameters, parameters_from, expand}
use Rattle.model.specs.Rounds.{Digram, is_label_or_call, digram_rank, new_rule}
use Rattle.laws.specs.Formed.{height, Fits, Tree, stack_of}
use Rattle.laws.proofs.Words.Classes.{class_of_parameter}
use Rattle.laws.proofs.Trees.Folds.{fold_append, height_append, fits_append}
use Rattle.laws.proofs.Trees.Fills.{those_append, those_in, those_out, parameter_is, length_parameters_from}
use Rattle.laws.proofs.Trees.Expansion.{fill_join, fill_grow}
use Rattle.laws.proofs.Words.Lists.{map_take, map_drop}
use Rattle.laws.specs.Steps.{IsDigram}

pub label_or_call_closed : (w : ℕ) → T (is_label_or_call w) → is_parameter w ≡ false
label_or_call_closed w t = go (class_of w) refl
  where
    go : (c : Class) → class_of w ≡ c → is_parameter w ≡ false
    go Class.empty e = simp e
    go Class.label e = simp e
    go (Class.parameter n) e = absurd (rw e at t)
    go (Class.call j) e = simp e
    go Class.illegal e = simp e

parameters_append : (n i k : ℕ) → parameters_from n (i + k) ≡ parameters_from n i ++ parameters_from (i + n) k
parameters_append n zero k = simp zero-add
parameters_append n (suc i) k = simp suc-add (ap (λ r. parameter_word n ∷ r) (parameters_append (suc n) i k ∙ ap (λ x. parameters_from (suc n) i ++ parameters_from x k) (omega arith)))

-- parameters on a stack that is filled are the children that they stand for
fill_parameters : (ranks : List ℕ) (lower front : List (List ℕ)) (n k : ℕ) (st : List (List ℕ)) → n + k ≤ 4 → n + k ≤ length front
    → map (fill (λ v. v) front) (stack_of ranks lower (parameters_from (suc n) k) st) ≡ take k (drop n front) ++ map (fill (λ v. v) front) st
fill_parameters ranks lower front n zero st h g = refl
fill_parameters ranks lower front n (suc k) st h g =
    let less : suc n - 1 ≡ n = omega arith in
    simp (class_of_parameter (suc n) (omega arith) (omega arith), less, append-nil, drop-cons front n [] (omega arith))
    (ap (λ r. get_or front n [] ∷ r) (fill_parameters ranks lower front (suc n) k st (omega arith) (omega arith)))

-- a digram's word put on a stack that is filled
fill_push : (ranks : List ℕ) (lower front : List (List ℕ)) (w : ℕ) (st : List (List ℕ)) → T (is_label_or_call w)
    → map (fill (λ v. v) front) (push (rank_of ranks) (grow (λ v. v) lower) w st) ≡ push (rank_of ranks) (grow (λ v. v) lower) w (map (fill (λ v. v) front) st)
fill_push ranks lower front w st t =
    ap₂ (λ x xs. x ∷ xs)
    (fill_grow (λ v. v) front lower w (take (rank_of ranks w) st) (label_or_call_closed w t) ∙ ap (grow (λ v. v) lower w) (map_take (fill (λ v. v) front) (rank_of ranks w) st))
    (map_drop (fill (λ v. v) front) (rank_of ranks w) st)

-- a word that takes the whole stack
push_all : {A : Type 0} (rk : ℕ → ℕ) (make : ℕ → List A → A) (w : ℕ) (st : List A) → length st ≡ rk w → push rk make w st ≡ make w st ∷ []
push_all rk make w st h = ap₂ (λ x y. make w x ∷ y) (take_all (rk w) st (omega arith)) (drop_of_length-le st {i = rk w} (omega arith))

-- a over n parameters, b and p parameters, b over r parameters: a's rank is n + 1 + p, b's is r
module _ (ranks : List ℕ) (lower : List (List ℕ)) (a b n p r : ℕ)
    (ja : T (is_label_or_call a)) (jb : T (is_label_or_call b)) (ra : rank_of ranks a ≡ n + suc p) (rb : rank_of ranks b ≡ r) (small : n + (r + p) ≤ 4)
    (front : List (List ℕ)) (h : length front ≡ n + (r + p)) where
  fill_from_b : map (fill (λ v. v) front) (stack_of ranks lower (b ∷ parameters_from (suc n) (r + p)) []) ≡ push (rank_of ranks) (grow (λ v. v) lower) b (drop n front)
  fill_from_b =
      let len : length (drop n front) ≤ r + p = simp length-drop (omega arith) in
      fill_push ranks lower front b (stack_of ranks lower (parameters_from (suc n) (r + p)) []) jb
      ∙ ap (push (rank_of ranks) (grow (λ v. v) lower) b) (fill_parameters ranks lower front n (r + p) [] small (omega arith) ∙ simp (append-nil, take_all))

  fill_after_a : map (fill (λ v. v) front) (stack_of ranks lower (parameters_from 1 n ++ b ∷ parameters_from (suc n) (r + p)) [])
      ≡ take n front ++ push (rank_of ranks) (grow (λ v. v) lower) b (drop n front)
  fill_after_a =
      ap (map (fill (λ v. v) front)) (fold_append (rank_of ranks) (grow (λ v. v) lower) (parameters_from 1 n) (b ∷ parameters_from (suc n) (r + p)) [])
      ∙ fill_parameters ranks lower front 0 n (stack_of ranks lower (b ∷ parameters_from (suc n) (r + p)) []) (omega arith) (omega arith)
      ∙ ap (λ x. take n front ++ x) fill_from_b

  fill_body : fill (λ v. v) front (expand ranks lower (a ∷ (parameters_from 1 n ++ b ∷ parameters_from (suc n) (r + p))))
      ≡ grow (λ v. v) lower a (take n front ++ push (rank_of ranks) (grow (λ v. v) lower) b (drop n front))
  fill_body =
      let st : List (List ℕ) = stack_of ranks lower (parameters_from 1 n ++ b ∷ parameters_from (suc n) (r + p)) [] in
      let filled : List (List ℕ) = take n front ++ push (rank_of ranks) (grow (λ v. v) lower) b (drop n front) in
      let len : length filled ≡ n + suc p = simp (length-append, length-take, length-drop) (omega arith) in
      fill_join (λ v. v) front (stack_of ranks lower (a ∷ (parameters_from 1 n ++ b ∷ parameters_from (suc n) (r + p))) [])
      ∙ ap join (fill_push ranks lower front a st ja ∙ ap (push (rank_of ranks) (grow (λ v. v) lower) a) fill_after_a)
      ∙ ap join (push_all (rank_of ranks) (grow (λ v. v) lower) a filled (len ∙ sym ra)) ∙ append-nil _

-- the parameters before b and from b on
pub new_body : (ranks : List ℕ) (d : Digram) → 1 ≤ d.i → d.i ≤ rank_of ranks d.a
    → (new_rule ranks d).body ≡ d.a ∷ (parameters_from 1 (d.i - 1) ++ d.b ∷ parameters_from (suc (d.i - 1)) (rank_of ranks d.b + (rank_of ranks d.a - d.i)))
new_body ranks d low high =
    let n : ℕ = d.i - 1 in
    let k : ℕ = rank_of ranks d.b + (rank_of ranks d.a - d.i) in
    let total : digram_rank ranks d ≡ n + k = omega arith in
    let next : n + 1 ≡ suc n = omega arith in
    let split : parameters (digram_rank ranks d) ≡ parameters_from 1 n ++ parameters_from (suc n) k
    = ap (parameters_from 1) total ∙ parameters_append 1 n k ∙ ap (λ x. parameters_from 1 n ++ parameters_from x k) next
    in
    ap (λ ys. d.a ∷ (take n ys ++ d.b ∷ drop n ys)) split
    ∙ ap₂ (λ x y. d.a ∷ (x ++ d.b ∷ y)) (take_at (parameters_from 1 n) (parameters_from (suc n) k) n (length_parameters_from 1 n))
    (drop_at (parameters_from 1 n) (parameters_from (suc n) k) n (length_parameters_from 1 n))

-- the new rule's expansion with k children in: a over the first i - 1 of them, b over its own, and the others
pub fill_new : (ranks : List ℕ) (lower : List (List ℕ)) (d : Digram) → IsDigram ranks d → digram_rank ranks d ≤ 4 → (front : List (List ℕ)) → length front ≡ digram_rank ranks d
    → fill (λ v. v) front (expand ranks lower (new_rule ranks d).body)
    ≡ grow (λ v. v) lower d.a (take (d.i - 1) front ++ push (rank_of ranks) (grow (λ v. v) lower) d.b (drop (d.i - 1) front))
fill_new ranks lower d is small front h =
    ap (λ ws. fill (λ v. v) front (expand ranks lower ws)) (new_body ranks d is.low is.high)
    ∙ fill_body ranks lower d.a d.b (d.i - 1) (rank_of ranks d.a - d.i) (rank_of ranks d.b) is.class_a is.class_b
    (omega (arith, is.low, is.high)) refl (omega (arith, is.low, is.high)) front (omega (arith, is.low, is.high))

-- parameters on a stack of h
parameters_fit : (ranks : List ℕ) (n k h : ℕ) → n + k ≤ 4
    → Fits (rank_of ranks) h (parameters_from (suc n) k) × (height (rank_of ranks) h (parameters_from (suc n) k) ≡ k + h)
parameters_fit ranks n zero h l = (tt, omega arith)
parameters_fit ranks n (suc k) h l =
    let below = parameters_fit ranks (suc n) k h (omega arith) in
    let rank : rank_of ranks (parameter_word (suc n)) ≡ 0 = rw (class_of_parameter (suc n) (omega arith) (omega arith)) in
    ((omega arith, below.0), omega (arith, below.1))

those_parameters : (n k : ℕ) → n + k ≤ 4 → those is_parameter (parameters_from (suc n) k) ≡ parameters_from (suc n) k
those_parameters n zero l = refl
those_parameters n (suc k) l =
    those_in is_parameter (parameter_word (suc n)) (parameters_from (suc (suc n)) k) (parameter_is (parameter_word (suc n)) (suc n) (class_of_parameter (suc n) (omega arith) (omega arith)))
    ∙ ap (λ r. parameter_word (suc n) ∷ r) (those_parameters (suc n) k (omega arith))

module _ (ranks : List ℕ) (d : Digram) (is : IsDigram ranks d) (small : digram_rank ranks d ≤ 4) where
  pub new_tree : Tree ranks (new_rule ranks d).body
  new_tree =
      let n : ℕ = d.i - 1 in
      let k : ℕ = rank_of ranks d.b + (rank_of ranks d.a - d.i) in
      let ys : List ℕ = parameters_from 1 n in
      let zs : List ℕ = d.b ∷ parameters_from (suc n) k in
      let last = parameters_fit ranks n k 0 (omega (arith, is.low, is.high)) in
      let from_b : Fits (rank_of ranks) 0 zs = (omega (arith, last.1), last.0) in
      let first = parameters_fit ranks 0 n (height (rank_of ranks) 0 zs) (omega (arith, is.low, is.high)) in
      subst (Tree ranks) (sym (new_body ranks d is.low is.high)) (
        (omega (arith, first.1, last.1, is.low, is.high, height_append (rank_of ranks) ys zs 0), fits_append (rank_of ranks) ys zs 0 first.0 from_b),
        omega (arith, first.1, last.1, is.low, is.high, height_append (rank_of ranks) ys zs 0),
      )

  pub new_parameters : those is_parameter (new_rule ranks d).body ≡ parameters (digram_rank ranks d)
  new_parameters =
      let n : ℕ = d.i - 1 in
      let ys : List ℕ = parameters (digram_rank ranks d) in
      those_out is_parameter d.a (take n ys ++ d.b ∷ drop n ys) (label_or_call_closed d.a is.class_a)
      ∙ those_append is_parameter (take n ys) (d.b ∷ drop n ys)
      ∙ ap (λ r. those is_parameter (take n ys) ++ r) (those_out is_parameter d.b (drop n ys) (label_or_call_closed d.b is.class_b))
      ∙ sym (those_append is_parameter (take n ys) (drop n ys)) ∙ ap (those is_parameter) (take-append-drop n ys)
      ∙ those_parameters 0 (digram_rank ranks d) (omega arith)
