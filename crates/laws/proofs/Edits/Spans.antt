-- The base's positions that an update touches are an interval, and the intervals of updates that are apart are disjoint. So what updates make at once of words is, around
-- the interval of one more, what they make before it, the words of the interval as they are, and what they make behind it.
use Prim.Native.Nat.{ℕ, suc, ◌+◌, ◌-◌, ◌≤◌, ◌<◌}
use native.Mathlib.Omega.{arith}
use native.Mathlib.Nat.{add-zero}
use mathlib.Core.Path.{◌≡◌, refl, sym, ap, ◌∙◌}
use mathlib.Core.Bool.{Bool, true, false, cond, ◌||◌}
use mathlib.Core.Logic.{◌⊎◌, inl, inr}
use mathlib.Core.List.{List, [], ◌∷◌, ◌++◌, append_assoc, append-nil}
use lib.Dec.{T, leb, ltb, eqb}
use lib.ListN.{length, take, drop, get_or, length-append, length-take, length-drop, take-append-drop}
use lib.Seq.{drop-drop, length-take-le, take-length, split_at, get_or_at}
use borrow.Author.Tests.{eqb-false, eq-eqb, ne_eqb, leb-true, leb-false, le-leb, lt-leb, ltb-true, ltb-false, lt-ltb, le-ltb}
use Rattle.model.specs.Edits.{Edit, rename, insert, delete, Update, child, removes, removes_as, removed, piece, all_from, all_at_once, added, took_as, added_before, took_before, moved, clash, clashes, apart}
use Rattle.laws.proofs.Edits.Apart.{eqb_sym, apart_split}
use Rattle.laws.proofs.Words.Tests.{or_split}

-- the positions that an update touches, from its own on: the one that it stands at, and for a delete those that it removes
abbrev pub span_as : List ℕ → ℕ → Edit → ℕ
span_as base q (rename l) = 1
span_as base q (insert s) = 1
span_as base q delete = suc (length (child [] 1 q base))

abbrev pub span : List ℕ → Update → ℕ
span base u = span_as base u.at u.edit

abbrev pub touches : List ℕ → Update → ℕ → Bool
touches base u p = eqb u.at p || removes base u p

-- position p is before or behind them
abbrev pub Misses : List ℕ → Update → ℕ → Type 0
Misses base u p = (p < u.at) ⊎ (u.at + span base u ≤ p)

pub misses_touches : (base : List ℕ) (u : Update) (p : ℕ) → Misses base u p → touches base u p ≡ false
misses_touches base u p m = go u.edit m
  where
    q : ℕ
    q = u.at

    go : (e : Edit) → (p < q) ⊎ (q + span_as base q e ≤ p) → (eqb q p || removes_as base q p e) ≡ false
    go (rename l) (inl h) = simp (ne_eqb q p (omega arith))
    go (rename l) (inr h) = simp (ne_eqb q p (omega arith))
    go (insert s) (inl h) = simp (ne_eqb q p (omega arith))
    go (insert s) (inr h) = simp (ne_eqb q p (omega arith))
    go delete (inl h) = simp (ne_eqb q p (omega arith), lt-leb q p h)
    go delete (inr h) = simp (ne_eqb q p (omega arith), le-leb q p (omega arith), le-ltb p (suc q + length (child [] 1 q base)) (omega arith))

touches_misses : (base : List ℕ) (u : Update) (p : ℕ) → touches base u p ≡ false → Misses base u p
touches_misses base u p m = go u.edit (or_split (eqb u.at p) (removes base u p) m).1 (leb u.at p) refl
  where
    q : ℕ
    q = u.at

    other : q ≡ p → ⊥
    other = eqb-false q p (or_split (eqb q p) (removes base u p) m).0

    go : (e : Edit) → removes_as base q p e ≡ false → (t : Bool) → leb q p ≡ t → (p < q) ⊎ (q + span_as base q e ≤ p)
    go e r false h = inl (leb-false q p h)
    go (rename l) r true h = inr (omega (arith, other, leb-true q p h))
    go (insert s) r true h = inr (omega (arith, other, leb-true q p h))
    go delete r true h = inr (omega (arith, leb-true q p h, ltb-false p (suc q + length (child [] 1 q base)) (simp h at r)))

-- two updates that do not clash touch disjoint positions
disjoint : (base : List ℕ) (u v : Update) → clash base u v ≡ false → (p : ℕ) → u.at ≤ p → p < u.at + span base u → touches base v p ≡ false
disjoint base u v c p h k =
    go (touches_misses base u v.at (simp (first.0, first.1))) (touches_misses base v u.at (simp (sym (eqb_sym u.at v.at) ∙ first.0, both.1)))
  where
    both : ((eqb u.at v.at || removes base u v.at) ≡ false) × (removes base v u.at ≡ false)
    both = or_split (eqb u.at v.at || removes base u v.at) (removes base v u.at) c

    first : (eqb u.at v.at ≡ false) × (removes base u v.at ≡ false)
    first = or_split (eqb u.at v.at) (removes base u v.at) both.0

    go : Misses base u v.at → Misses base v u.at → touches base v p ≡ false
    go (inl a) (inl b) = absurd (omega arith)
    go (inl a) (inr b) = misses_touches base v p (inr (omega arith))
    go (inr a) b = misses_touches base v p (inl (omega arith))

-- none of the updates touches position p
abbrev pub Untouched : List ℕ → List Update → ℕ → Type 0
Untouched base [] p = Unit {0}
Untouched base (u ∷ us) p = (touches base u p ≡ false) × Untouched base us p

-- what an update touches is untouched by those that it does not clash with
span_untouched : (base : List ℕ) (u : Update) (us : List Update) → clashes base u us ≡ false → (p : ℕ) → u.at ≤ p → p < u.at + span base u → Untouched base us p
span_untouched base u [] c p h k = tt
span_untouched base u (v ∷ us) c p h k =
    let parts = or_split (clash base u v) (clashes base u us) c in
    (disjoint base u v parts.0 p h k, span_untouched base u us parts.1 p h k)

pub own_untouched : (base : List ℕ) (u : Update) (us : List Update) → clashes base u us ≡ false → Untouched base us u.at
own_untouched base u us c = span_untouched base u us c u.at (omega arith) (omega (arith, some u.edit))
  where
    some : (e : Edit) → 0 < span_as base u.at e
    some (rename l) = omega arith
    some (insert s) = omega arith
    some delete = omega arith

-- at a position that no update touches the base's word stands
untouched_removed : (base : List ℕ) (us : List Update) (p : ℕ) → Untouched base us p → removed base us p ≡ false
untouched_removed base [] p h = refl
untouched_removed base (u ∷ us) p h = simp ((or_split (eqb u.at p) (removes base u p) h.0).1, untouched_removed base us p h.1)

untouched_piece : (base : List ℕ) (us : List Update) (p : ℕ) (ws : List ℕ) → Untouched base us p → piece us p ws ≡ ws
untouched_piece base [] p ws h = refl
untouched_piece base (u ∷ us) p ws h = simp ((or_split (eqb u.at p) (removes base u p) h.0).0, untouched_piece base us p ws h.1)

-- one pass over two lists of words
from_append : (base : List ℕ) (us : List Update) (p : ℕ) (xs ys : List ℕ) → all_from base us p (xs ++ ys) ≡ all_from base us p xs ++ all_from base us (p + length xs) ys
from_append base us p [] ys = ap (λ (k : ℕ). all_from base us k ys) (sym (add-zero p))
from_append base us p (x ∷ xs) ys =
    let here = cond (removed base us p) [] (piece us p (x ∷ [])) in
    ap (λ (l : List ℕ). here ++ l) (from_append base us (suc p) xs ys ∙ ap (λ (k : ℕ). all_from base us (suc p) xs ++ all_from base us k ys) (omega arith))
    ∙ sym (append_assoc here (all_from base us (suc p) xs) (all_from base us (p + suc (length xs)) ys))

-- words that no update touches stay
pub from_untouched : (base : List ℕ) (us : List Update) (p : ℕ) (ws : List ℕ) → ((i : ℕ) → p ≤ i → i < p + length ws → Untouched base us i) → all_from base us p ws ≡ ws
from_untouched base us p [] h = refl
from_untouched base us p (w ∷ ws) h =
    let here = h p (omega arith) (omega arith) in
    simp (untouched_removed base us p here, untouched_piece base us p (w ∷ []) here, from_untouched base us (suc p) ws (λ i a b. h i (omega arith) (omega arith)))

-- words that are all removed go
from_gone : (base : List ℕ) (us : List Update) (p : ℕ) (ws : List ℕ) → ((i : ℕ) → p ≤ i → i < p + length ws → removed base us i ≡ true) → all_from base us p ws ≡ []
from_gone base us p [] h = refl
from_gone base us p (w ∷ ws) h = simp (h p (omega arith) (omega arith), from_gone base us (suc p) ws (λ i a b. h i (omega arith) (omega arith)))

-- an update changes nothing at words that it does not touch
from_missed : (base : List ℕ) (u : Update) (us : List Update) (p : ℕ) (ws : List ℕ) → ((i : ℕ) → p ≤ i → i < p + length ws → touches base u i ≡ false)
    → all_from base (u ∷ us) p ws ≡ all_from base us p ws
from_missed base u us p [] h = refl
from_missed base u us p (w ∷ ws) h =
    let here = or_split (eqb u.at p) (removes base u p) (h p (omega arith) (omega arith)) in
    simp (here.0, here.1, from_missed base u us (suc p) ws (λ i a b. h i (omega arith) (omega arith)))

-- what an edit puts for the words that it touches
abbrev pub comes : Edit → List ℕ → List ℕ
comes (rename l) ws = l ∷ []
comes (insert s) ws = take (length s - 1) s ++ ws
comes delete ws = []

one_word : (ws : List ℕ) → length ws ≡ 1 → (w : ℕ) × (ws ≡ w ∷ [])
one_word [] e = absurd (omega arith)
one_word (w ∷ []) e = (w, refl)
one_word (w ∷ v ∷ ws) e = absurd (omega arith)

from_span : (base : List ℕ) (u : Update) (us : List Update) (ws : List ℕ) → clashes base u us ≡ false → length ws ≡ span base u
    → all_from base (u ∷ us) u.at ws ≡ comes u.edit ws
from_span base u us ws c e = go u.edit e (untouched_removed base us q (own_untouched base u us c))
  where
    q : ℕ
    q = u.at

    go : (e : Edit) → length ws ≡ span_as base q e → removed base us q ≡ false → all_from base (record { at = q; edit = e } ∷ us) q ws ≡ comes e ws
    go (rename l) k free = let one = one_word ws k in rw one.1 (simp (eq-eqb q q refl, free))
    go (insert s) k free = let one = one_word ws k in rw one.1 (simp (eq-eqb q q refl, free) (append-nil (take (length s - 1) s ++ one.0 ∷ [])))
    go delete k free =
        from_gone base (record { at = q; edit = delete } ∷ us) q ws
        (λ i a b. simp (le-leb q i a, lt-ltb i (suc q + length (child [] 1 q base)) (omega arith)))

-- A list of words in three: those that an update touches, and what other updates make of those before and behind them.
abbrev pub span_in : List ℕ → Update → List ℕ → List ℕ
span_in base u xs = take (span base u) (drop u.at xs)

abbrev pub before_span : List ℕ → Update → List Update → List ℕ → List ℕ
before_span base u us xs = all_from base us 0 (take u.at xs)

abbrev pub behind_span : List ℕ → Update → List Update → List ℕ → List ℕ
behind_span base u us xs = all_from base us (u.at + span base u) (drop (u.at + span base u) xs)

length_span_in : (base : List ℕ) (u : Update) (xs : List ℕ) → u.at + span base u ≤ length xs → length (span_in base u xs) ≡ span base u
length_span_in base u xs room = length-take-le (span base u) (drop u.at xs) (simp length-drop (omega arith))

from_three : (base : List ℕ) (u : Update) (xs : List ℕ) → u.at + span base u ≤ length xs → (us : List Update)
    → all_from base us 0 xs ≡ before_span base u us xs ++ (all_from base us u.at (span_in base u xs) ++ behind_span base u us xs)
from_three base u xs room us =
    let q = u.at in
    let n = span base u in
    let here = span_in base u xs in
    let front : 0 + length (take q xs) ≡ q = simp length-take (omega arith) in
    let rest : here ++ drop (q + n) xs ≡ drop q xs = ap (λ (l : List ℕ). here ++ l) (sym (drop-drop n q xs)) ∙ take-append-drop n (drop q xs) in
    ap (all_from base us 0) (sym (take-append-drop q xs))
    ∙ from_append base us 0 (take q xs) (drop q xs)
    ∙ ap (λ (l : List ℕ). before_span base u us xs ++ l)
    (ap (λ (k : ℕ). all_from base us k (drop q xs)) front
    ∙ ap (all_from base us q) (sym rest)
    ∙ from_append base us q here (drop (q + n) xs)
    ∙ ap (λ (k : ℕ). all_from base us q here ++ all_from base us (q + k) (drop (q + n) xs)) (length_span_in base u xs room))

-- without the update the words that it touches stand there, with it what it puts for them, and the rest is the same
module _ (base : List ℕ) (u : Update) (us : List Update) (c : clashes base u us ≡ false) (xs : List ℕ) (room : u.at + span base u ≤ length xs) where
  pub from_without : all_from base us 0 xs ≡ before_span base u us xs ++ (span_in base u xs ++ behind_span base u us xs)
  from_without =
      from_three base u xs room us
      ∙ ap (λ (l : List ℕ). before_span base u us xs ++ (l ++ behind_span base u us xs))
      (from_untouched base us u.at (span_in base u xs) (λ i a b. span_untouched base u us c i a (omega (arith, length_span_in base u xs room))))

  pub from_with : all_from base (u ∷ us) 0 xs ≡ before_span base u us xs ++ (comes u.edit (span_in base u xs) ++ behind_span base u us xs)
  from_with =
      from_three base u xs room (u ∷ us)
      ∙ ap (λ (l : List ℕ). l ++ (all_from base (u ∷ us) u.at (span_in base u xs) ++ behind_span base u (u ∷ us) xs))
      (from_missed base u us 0 (take u.at xs) (λ i a b. misses_touches base u i (inl (omega (arith, length-take u.at xs)))))
      ∙ ap (λ (l : List ℕ). before_span base u us xs ++ (l ++ behind_span base u (u ∷ us) xs)) (from_span base u us (span_in base u xs) c (length_span_in base u xs room))
      ∙ ap (λ (l : List ℕ). before_span base u us xs ++ (comes u.edit (span_in base u xs) ++ l))
      (from_missed base u us (u.at + span base u) (drop (u.at + span base u) xs) (λ i a b. misses_touches base u i (inr a)))

-- what an update adds and takes away is the difference of what it puts and what it touches
length_comes : (base : List ℕ) (q : ℕ) (e : Edit) (ws : List ℕ) → length ws ≡ span_as base q e → length (comes e ws) + took_as base q e ≡ length ws + added e
length_comes base q (rename l) ws k = omega arith
length_comes base q (insert s) ws k = simp (length-append, length-take) (omega arith)
length_comes base q delete ws k = omega arith

-- A position that no update touches is moved by as many words as are made of those before it.
module _ (base : List ℕ) (q : ℕ) (h : q ≤ length base) where
  length_front : (us : List Update) → T (apart base us) → Untouched base us q
      → length (all_from base us 0 (take q base)) + took_before base us q ≡ q + added_before us q
  length_front [] t n = ap (λ (l : List ℕ). length l + 0) (from_untouched base [] 0 (take q base) (λ i a b. tt)) ∙ simp length-take (omega arith)
  length_front (u ∷ us) t n = go (ltb u.at q) refl (touches_misses base u q n.0) (length_front us parts.1 n.1)
    where
      parts : (clashes base u us ≡ false) × T (apart base us)
      parts = apart_split base u us t

      xs : List ℕ
      xs = take q base

      long : length xs ≡ q
      long = length-take-le q base h

      go : (t : Bool) → ltb u.at q ≡ t → Misses base u q
          → length (all_from base us 0 xs) + took_before base us q ≡ q + added_before us q
          → length (all_from base (u ∷ us) 0 xs) + took_before base (u ∷ us) q ≡ q + added_before (u ∷ us) q
      go false e m rest =
          let missed : all_from base (u ∷ us) 0 xs ≡ all_from base us 0 xs =
          from_missed base u us 0 xs (λ i a b. misses_touches base u i (inl (omega (arith, ltb-false u.at q e, long)))) in
          simp (e, missed) (omega arith)
      go true e (inl m) rest = absurd (omega (arith, ltb-true u.at q e))
      go true e (inr m) rest =
          let room : u.at + span base u ≤ length xs = omega (arith, long) in
          let new : length (all_from base (u ∷ us) 0 xs) ≡ length (before_span base u us xs) + (length (comes u.edit (span_in base u xs)) + length (behind_span base u us xs)) =
          ap length (from_with base u us parts.0 xs room) ∙ simp length-append in
          let old : length (all_from base us 0 xs) ≡ length (before_span base u us xs) + (length (span_in base u xs) + length (behind_span base u us xs)) =
          ap length (from_without base u us parts.0 xs room) ∙ simp length-append in
          let change = length_comes base u.at u.edit (span_in base u xs) (length_span_in base u xs room) in
          simp e (omega arith)

  pub moved_length : (us : List Update) → T (apart base us) → Untouched base us q → length (all_from base us 0 (take q base)) ≡ moved base us q
  moved_length us t n = omega (arith, length_front us t n)

-- at the moved position stands the base's word
module _ (base : List ℕ) (q : ℕ) (h : q < length base) (us : List Update) (t : T (apart base us)) (n : Untouched base us q) where
  untouched_split : all_at_once us base ≡ all_from base us 0 (take q base) ++ get_or base q 0 ∷ all_from base us (suc q) (drop (suc q) base)
  untouched_split =
      let w = get_or base q 0 in
      let front : 0 + length (take q base) ≡ q = simp length-take (omega arith) in
      ap (all_from base us 0) (split_at base q 0 h)
      ∙ from_append base us 0 (take q base) (w ∷ drop (suc q) base)
      ∙ ap (λ (k : ℕ). all_from base us 0 (take q base) ++ all_from base us k (w ∷ drop (suc q) base)) front
      ∙ ap (λ (l : List ℕ). all_from base us 0 (take q base) ++ l) (simp (untouched_removed base us q n, untouched_piece base us q (w ∷ []) n))

  pub moved_word : get_or (all_at_once us base) (moved base us q) 0 ≡ get_or base q 0
  moved_word =
      ap (λ (l : List ℕ). get_or l (moved base us q) 0) untouched_split
      ∙ get_or_at (all_from base us 0 (take q base)) (get_or base q 0) (all_from base us (suc q) (drop (suc q) base)) 0 (moved base us q) (moved_length base q (omega arith) us t n)

-- the length of what is made at once
pub length_all : (base : List ℕ) (us : List Update) → T (apart base us) → Untouched base us (length base)
    → length (all_at_once us base) + took_before base us (length base) ≡ length base + added_before us (length base)
length_all base us t n =
    ap (λ (l : List ℕ). length (all_from base us 0 l) + took_before base us (length base)) (sym (take-length base)) ∙ length_front base (length base) (omega arith) us t n
