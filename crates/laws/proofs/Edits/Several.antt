-- Demand 3 on the words of trees: updates that are apart, made one after the other in any order with their positions moved, make what they make at once.
-- In its turn each update finds, at its moved position, the base's own words that it touches, between what the others make before and behind them.
use Prim.Native.Nat.{ℕ, ◌+◌, ◌-◌, ◌≤◌, ◌<◌}
use native.Mathlib.Omega.{arith}
use mathlib.Core.Path.{◌≡◌, refl, sym, ap, subst, ◌∙◌}
use mathlib.Core.Bool.{Bool, true, false}
use mathlib.Core.Logic.{inr}
use mathlib.Core.List.{List, [], ◌∷◌, ◌++◌, append_assoc, append-nil}
use lib.Dec.{T, ltb}
use lib.ListN.{length, take, drop, get_or}
use lib.Seq.{drop-cons, append_snoc}
use borrow.Author.Tests.{ltb-true, ltb-false, lt-ltb}
use Rattle.model.specs.Edits.{Edit, rename, insert, delete, Update, child, updated, all_at_once, added_before, took_before, moved, clash, clashes, apart}
use Rattle.laws.specs.Orders.{Plain, Suits, SuitsAs, AllSuit, moved_by, in_order, SuitInOrder, Reordered, none, keep, swap, twice}
use Rattle.laws.proofs.Edits.Edited.{delete_room, delete_span, rename_between, insert_between, delete_between, updated_plain}
use Rattle.laws.proofs.Edits.Apart.{apart_split, apart_cons, all_order}
use Rattle.laws.proofs.Edits.Spans.{span, span_as, Untouched, misses_touches, own_untouched, from_untouched, comes, span_in, before_span, behind_span, from_without, from_with, moved_length, moved_word, length_all}
use Rattle.laws.proofs.Words.Tests.{or_split}
use Rattle.laws.proofs.Edits.Editing.{suits_same}

-- the words that an update touches are there
suits_room : (base : List ℕ) (u : Update) → Plain base → Suits base u → u.at + span base u ≤ length base
suits_room base u b h = go u.edit h.1
  where
    go : (e : Edit) → SuitsAs base u.at e → u.at + span_as base u.at e ≤ length base
    go (rename l) s = omega (arith, h.0)
    go (insert s) f = omega (arith, h.0)
    go delete n = delete_room base u.at b h.0 n

-- an edit that finds the words that it touches between xs and ys puts there what comes for them
module _ (base : List ℕ) (q : ℕ) (b : Plain base) (h : q < length base) (xs ys : List ℕ) where
  edit_between : (e : Edit) → SuitsAs base q e → Plain (xs ++ (take (span_as base q e) (drop q base) ++ ys))
      → updated (record { at = length xs; edit = e }) (xs ++ (take (span_as base q e) (drop q base) ++ ys)) ≡ xs ++ (comes e (take (span_as base q e) (drop q base)) ++ ys)
  edit_between (rename l) s t =
      ap (λ (k : List ℕ). updated (record { at = length xs; edit = rename l }) (xs ++ (take 1 k ++ ys))) (drop-cons base q 0 h) ∙ rename_between l (get_or base q 0) xs ys
  edit_between (insert s) f t =
      insert_between s xs (take 1 (drop q base) ++ ys) t ∙ ap (λ (k : List ℕ). xs ++ k) (sym (append_assoc (take (length s - 1) s) (take 1 (drop q base)) ys))
  edit_between delete n t =
      let here = delete_span base q b h n in
      ap (λ (k : List ℕ). updated (record { at = length xs; edit = delete }) (xs ++ (k ++ ys))) here.0
      ∙ delete_between (get_or base q 0) xs (child [] 1 q base) ys n here.1 (subst (λ (k : List ℕ). Plain (xs ++ (k ++ ys))) here.0 t)

-- One update u more, on what the updates us make at once.
module _ (base : List ℕ) (b : Plain base) (u : Update) (us : List Update) (t : T (apart base (u ∷ us))) where
  others : (clashes base u us ≡ false) × T (apart base us)
  others = apart_split base u us t

  free : Untouched base us u.at
  free = own_untouched base u us others.0

  -- at its moved position it makes what they make at once with it
  all_step_front : Suits base u → Plain (all_at_once us base) → updated (moved_by base us u) (all_at_once us base) ≡ all_at_once (u ∷ us) base
  all_step_front s p =
      let room = suits_room base u b s in
      let xs = before_span base u us base in
      let ys = behind_span base u us base in
      let without : all_at_once us base ≡ xs ++ (span_in base u base ++ ys) = from_without base u us others.0 base room in
      ap (λ (k : ℕ). updated (record { at = k; edit = u.edit }) (all_at_once us base)) (sym (moved_length base u.at (omega (arith, s.0)) us others.1 free))
      ∙ ap (updated (record { at = length xs; edit = u.edit })) without
      ∙ edit_between base u.at b s.0 xs ys u.edit s.1 (subst Plain without p)
      ∙ sym (from_with base u us others.0 base room)

-- an order is one of its own orders
pub same_order : (us : List Update) → Reordered us us
same_order [] = none
same_order (u ∷ us) = keep (same_order us)

-- the last to the front
last_first : (u : Update) (us : List Update) → Reordered (us ++ u ∷ []) (u ∷ us)
last_first u [] = same_order (u ∷ [])
last_first u (v ∷ us) = twice (keep (last_first u us)) swap

clashes_front : (base : List ℕ) (x : Update) (us vs : List Update) → clashes base x (us ++ vs) ≡ false → clashes base x us ≡ false
clashes_front base x [] vs c = refl
clashes_front base x (u ∷ us) vs c =
    let both = or_split (clash base x u) (clashes base x (us ++ vs)) c in
    simp (both.0, clashes_front base x us vs both.1)

apart_front : (base : List ℕ) (us vs : List Update) → T (apart base (us ++ vs)) → T (apart base us)
apart_front base [] vs t = tt
apart_front base (u ∷ us) vs t =
    let both = apart_split base u (us ++ vs) t in
    apart_cons base u us (clashes_front base u us vs both.0) (apart_front base us vs both.1)

-- no update makes the base
pub all_nil : (base : List ℕ) → all_at_once [] base ≡ base
all_nil base = from_untouched base [] 0 base (λ i a b. tt)

-- One update more, as the last: on what those before it make at once, at its moved position, it makes what they make at once with it.
pub all_step : (base : List ℕ) → Plain base → (us : List Update) (u : Update) → Suits base u → T (apart base (us ++ u ∷ [])) → Plain (all_at_once us base)
    → updated (moved_by base us u) (all_at_once us base) ≡ all_at_once (us ++ u ∷ []) base
all_step base b us u s t p =
    let last = all_order base (last_first u us) t in
    all_step_front base b u us last.0 s p ∙ last.1

-- The other way round: updates that suit in their turn, in one order, suit the base. A position past the base's end is moved past the tree's end.
past_end : (base : List ℕ) (us : List Update) → AllSuit base us → (q : ℕ) → length base ≤ q
    → (added_before us q ≡ added_before us (length base)) × (took_before base us q ≡ took_before base us (length base))
past_end base [] s q h = (refl, refl)
past_end base (u ∷ us) s q h =
    let rest = past_end base us s.1 q h in
    let here : ltb u.at q ≡ true = lt-ltb u.at q (omega (arith, s.0.0)) in
    let there : ltb u.at (length base) ≡ true = lt-ltb u.at (length base) s.0.0 in
    (simp (here, there, rest.0), simp (here, there, rest.1))

end_untouched : (base : List ℕ) → Plain base → (us : List Update) → AllSuit base us → Untouched base us (length base)
end_untouched base b [] s = tt
end_untouched base b (u ∷ us) s = (misses_touches base u (length base) (inr (suits_room base u b s.0)), end_untouched base b us s.1)

suits_back : (base : List ℕ) → Plain base → (u : Update) (us : List Update) → T (apart base (u ∷ us)) → AllSuit base us → Suits (all_at_once us base) (moved_by base us u) → Suits base u
suits_back base b u us t all s = go (ltb u.at (length base)) refl
  where
    go : (k : Bool) → ltb u.at (length base) ≡ k → Suits base u
    go true e =
        let inside = ltb-true u.at (length base) e in (
          inside,
          suits_same (all_at_once us base) base (moved base us u.at) u.at
              (moved_word base u.at inside us (others base b u us t).1 (free base b u us t)) u.edit s.1,
        )
    go false e =
        let end = past_end base us all u.at (ltb-false u.at (length base) e) in
        absurd (omega (arith, s.0, end.0, end.1, ltb-false u.at (length base) e, length_all base us (others base b u us t).1 (end_untouched base b us all)))

suit_last : (base : List ℕ) (us : List Update) (u : Update) → AllSuit base us → Suits base u → AllSuit base (us ++ u ∷ [])
suit_last base [] u all s = (s, tt)
suit_last base (v ∷ us) u all s = (all.0, suit_last base us u all.1 s)

-- those of `us`, each suiting the tree on which it is made, after those of `made`
several_from : (base : List ℕ) → Plain base → (made us : List Update) (tree : List ℕ) → AllSuit base made → T (apart base (made ++ us)) → tree ≡ all_at_once made base → Plain tree
    → SuitInOrder base made us tree → in_order base made us tree ≡ all_at_once (made ++ us) base
several_from base b made [] tree all t e p s = e ∙ ap (λ (l : List Update). all_at_once l base) (sym (append-nil made))
several_from base b made (u ∷ us) tree all t e p s =
    let t' : T (apart base (made ++ u ∷ [] ++ us)) = subst (λ (l : List Update). T (apart base l)) (sym (append_snoc made u us)) t in
    let front : T (apart base (made ++ u ∷ [])) = apart_front base (made ++ u ∷ []) us t' in
    let suits : Suits base u =
    suits_back base b u made (all_order base (last_first u made) front).0 all (subst (λ (l : List ℕ). Suits l (moved_by base made u)) e s.0) in
    let next : updated (moved_by base made u) tree ≡ all_at_once (made ++ u ∷ []) base =
    ap (updated (moved_by base made u)) e ∙ all_step base b made u suits front (subst Plain e p) in
    several_from base b (made ++ u ∷ []) us (updated (moved_by base made u) tree) (suit_last base made u all suits) t' next (updated_plain tree (moved_by base made u) p s.0) s.1
    ∙ ap (λ (l : List Update). all_at_once l base) (append_snoc made u us)

-- Demand 3 on trees: updates that are apart, made one after the other in any order, each having its place in its turn, make what they make at once.
pub several : (base : List ℕ) → Plain base → (us : List Update) → T (apart base us) → (vs : List Update) → Reordered us vs → SuitInOrder base [] vs base
    → in_order base [] vs base ≡ all_at_once us base
several base b us t vs r s =
    let other = all_order base r t in
    several_from base b [] vs base tt other.0 (sym (all_nil base)) b s ∙ other.1
