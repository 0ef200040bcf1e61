-- A rule's body turned into pieces, turn by turn.
use Prim.Native.Nat.{ℕ, suc, ◌+◌, ◌*◌, ◌≤◌, ◌<◌}
use native.Mathlib.Omega.{arith}
use mathlib.Core.Logic.{◌⊎◌, inl, inr}
use mathlib.Core.Path.{◌≡◌, refl, ap}
use mathlib.Core.Bool.{Bool, true, false}
use mathlib.Core.List.{List, ◌∷◌, ◌++◌}
use lib.Dec.{T, ltb, eqb}
use lib.ListN.{length, get_or, set, length-set, length-append}
use lib.Seq.{get_or-set_same, get_or-set_other, set_out}
use borrow.Author.Tests.{ltb-true, ltb-false, eqb-true, eqb-false, lt-leb, le-leb}
use Rattle.model.specs.Words.{Class, empty, label, parameter, call, illegal, class_of, rank_of, is_parameter}
use Rattle.model.specs.Trees.{those, is_legal}
use Rattle.laws.proofs.Trees.Legal.{legal_call}
use Rattle.laws.proofs.Trees.Fills.{those_in, those_out}
use Rattle.queries.specs.declared.pieces.Open.{Open}
use Rattle.queries.specs.Pieces.{due, next_gap, Entry, wanted, first_gap, own, own_gap, own_starts}

-- starts that are low stay so with one more that is
pub starts_low_set : (S : List ℕ) (g t : ℕ) → ((j : ℕ) → get_or S j 0 ≤ t) → (j : ℕ) → get_or (set S g t) j 0 ≤ t
starts_low_set S g t low j = go (eqb j g) refl
  where
    go : (b : Bool) → eqb j g ≡ b → get_or (set S g t) j 0 ≤ t
    go true e = at (ltb g (length S)) refl
      where
        at : (b : Bool) → ltb g (length S) ≡ b → get_or (set S g t) j 0 ≤ t
        at true f = omega (arith, ap (λ (i : ℕ). get_or (set S g t) i 0) (eqb-true j g e), get_or-set_same S g t 0 (ltb-true g (length S) f))
        at false f = omega (arith, low j, ap (λ (l : List ℕ). get_or l j 0) (set_out S g t (ltb-false g (length S) f)))
    go false e = omega (arith, low j, get_or-set_other S g j t 0 (eqb-false j g e))

-- what putting a word changes
module _ (w : ℕ) where
  own_short : length (own w) ≤ 1
  own_short = go (class_of w) refl
    where
      go : (c : Class) → class_of w ≡ c → length (own w) ≤ 1
      go empty e = simp e (omega arith)
      go label e = simp e (omega arith)
      go (parameter n) e = simp e (omega arith)
      go (call j) e = simp e (omega arith)
      go illegal e = simp e (omega arith)

  pub own_grown : (P : List ℕ) → (length P ≤ length (P ++ own w)) × (length (P ++ own w) ≤ length P + 1)
  own_grown P = (omega (arith, length-append P (own w)), omega (arith, length-append P (own w), own_short))

  pub starts_length : (S : List ℕ) (g t : ℕ) → length (own_starts w S g t) ≡ length S
  starts_length S g t = go (class_of w) refl
    where
      go : (c : Class) → class_of w ≡ c → length (own_starts w S g t) ≡ length S
      go empty e = simp e
      go label e = simp e
      go (parameter n) e = simp (e, length-set)
      go (call j) e = simp e
      go illegal e = simp e

  pub starts_agree : (S : List ℕ) (g t j : ℕ) → j ≤ g → get_or (own_starts w S g t) j 0 ≡ get_or S j 0
  starts_agree S g t j h = go (class_of w) refl
    where
      go : (c : Class) → class_of w ≡ c → get_or (own_starts w S g t) j 0 ≡ get_or S j 0
      go empty e = simp e
      go label e = simp e
      go (parameter n) e = simp e (get_or-set_other S (g + 1) j t 0 (omega arith))
      go (call i) e = simp e
      go illegal e = simp e

  pub starts_low : (S : List ℕ) (g t : ℕ) → ((j : ℕ) → get_or S j 0 ≤ t) → (j : ℕ) → get_or (own_starts w S g t) j 0 ≤ t
  starts_low S g t low j = go (class_of w) refl
    where
      go : (c : Class) → class_of w ≡ c → get_or (own_starts w S g t) j 0 ≤ t
      go empty e = simp e (low j)
      go label e = simp e (low j)
      go (parameter n) e = simp e (starts_low_set S (g + 1) t low j)
      go (call i) e = simp e (low j)
      go illegal e = simp e (low j)

  -- the number of parameters still to come
  pub own_gap_lem : (m : ℕ) (ws : List ℕ) → own_gap w m + length (those is_parameter ws) ≡ m + length (those is_parameter (w ∷ ws))
  own_gap_lem m ws = go (class_of w) refl
    where
      go : (c : Class) → class_of w ≡ c → own_gap w m + length (those is_parameter ws) ≡ m + length (those is_parameter (w ∷ ws))
      go (parameter n) e =
          let z : is_parameter w ≡ true = simp e in
          simp e (omega (arith, ap length (those_in is_parameter w ws z)))
      go empty e = let z : is_parameter w ≡ false = simp e in simp e (omega (arith, ap length (those_out is_parameter w ws z)))
      go label e = let z : is_parameter w ≡ false = simp e in simp e (omega (arith, ap length (those_out is_parameter w ws z)))
      go (call j) e = let z : is_parameter w ≡ false = simp e in simp e (omega (arith, ap length (those_out is_parameter w ws z)))
      go illegal e = let z : is_parameter w ≡ false = simp e in simp e (omega (arith, ap length (those_out is_parameter w ws z)))

  pub gap_offset : (base m : ℕ) → own_gap w (base + m) ≡ base + own_gap w m
  gap_offset base m = go (class_of w) refl
    where
      go : (c : Class) → class_of w ≡ c → own_gap w (base + m) ≡ base + own_gap w m
      go empty e = simp e
      go label e = simp e
      go (parameter n) e = simp e (omega arith)
      go (call j) e = simp e
      go illegal e = simp e

  -- the open word that is pushed
  pub first_small : (n : ℕ) → n ≤ 256 → T (is_legal n w) → first_gap w ≤ 1280
  first_small n h t = go (class_of w) refl
    where
      go : (c : Class) → class_of w ≡ c → first_gap w ≤ 1280
      go empty e = simp e (omega arith)
      go label e = simp e (omega arith)
      go (parameter i) e = simp e (omega arith)
      go (call j) e = simp e (omega (arith, legal_call n w j e t))
      go illegal e = simp e (omega arith)

  pub first_entry : (ranks : List ℕ) (r : ℕ) (e : Open) → ((j : ℕ) → get_or ranks j 0 ≤ 4) → r ≤ 256 → T (is_legal r w) → next_gap e ≡ first_gap w → due e ≡ suc (rank_of ranks w) → Entry r e
  first_entry ranks r e small h t f g = (omega arith, go (class_of w) refl)
    where
      go : (c : Class) → class_of w ≡ c → (next_gap e + due e ≤ 5 * r) ⊎ ((1280 ≤ next_gap e) × (next_gap e + due e ≤ 1283))
      go (call j) q =
          let a : first_gap w ≡ 5 * j = simp q in
          let b : rank_of ranks w ≡ get_or ranks j 0 = simp q in
          inl (omega (arith, small j, legal_call r w j q t))
      go empty q = let a : first_gap w ≡ 1280 = simp q in let b : rank_of ranks w ≡ 0 = simp q in inr (omega arith, omega arith)
      go label q = let a : first_gap w ≡ 1280 = simp q in let b : rank_of ranks w ≡ 2 = simp q in inr (omega arith, omega arith)
      go (parameter n) q = let a : first_gap w ≡ 1280 = simp q in let b : rank_of ranks w ≡ 0 = simp q in inr (omega arith, omega arith)
      go illegal q = let a : first_gap w ≡ 1280 = simp q in let b : rank_of ranks w ≡ 0 = simp q in inr (omega arith, omega arith)

  -- the room that a word and its gaps take
  pub own_room : (ranks : List ℕ) (r : ℕ) (P : List ℕ) (e : Open) → r ≤ 256 → T (is_legal r w) → next_gap e ≡ first_gap w → due e ≡ suc (rank_of ranks w)
      → length (P ++ own w) + wanted e ≤ length P + suc (rank_of ranks w)
  own_room ranks r P e h l f g = go (class_of w) refl
    where
      gone : first_gap w ≡ 1280 → wanted e ≡ 0
      gone a = rw (le-leb 1280 (next_gap e) (omega arith))

      more : length (P ++ own w) ≡ length P + length (own w)
      more = length-append P (own w)

      go : (c : Class) → class_of w ≡ c → length (P ++ own w) + wanted e ≤ length P + suc (rank_of ranks w)
      go (call j) q =
          let a : first_gap w ≡ 5 * j = simp q in
          let s : next_gap e < 1280 = omega (arith, legal_call r w j q l) in
          let b : wanted e ≡ due e = rw (lt-leb 1280 (next_gap e) s) in
          let o : length (own w) ≡ 0 = simp q in
          omega (arith, more)
      go empty q = let a : first_gap w ≡ 1280 = simp q in omega (arith, gone a, more, own_short)
      go label q = let a : first_gap w ≡ 1280 = simp q in omega (arith, gone a, more, own_short)
      go (parameter n) q = let a : first_gap w ≡ 1280 = simp q in omega (arith, gone a, more, own_short)
      go illegal q = let a : first_gap w ≡ 1280 = simp q in omega (arith, gone a, more, own_short)
