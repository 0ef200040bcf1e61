-- The words of a body that are open, and what they give until the next tree is due.
use Prim.Native.Nat.{ℕ, zero, suc, ◌+◌, ◌*◌, ◌-◌, ◌≤◌, ◌<◌}
use native.Mathlib.Omega.{arith}
use mathlib.Core.Logic.{◌⊎◌, inl, inr}
use mathlib.Core.Path.{◌≡◌, refl, sym, ap, ap₂, subst, ◌∙◌}
use mathlib.Core.Bool.{Bool, true, false}
use mathlib.Core.List.{List, [], ◌∷◌, ◌++◌, append_assoc, append-nil}
use lib.Dec.{leb}
use lib.ListN.{length, take, drop, get_or, set, length-set, length-append}
use lib.Seq.{take-suc, take-suc-set, take-length, take-append_seam}
use Rattle.std.specs.List.{refill}
use Rattle.arrayvec.proofs.ArrayVecLemmas.{items-with_items}
use borrow.Author.Tests.{leb-true, leb-false, lt-leb, le-leb}
use Rattle.std.specs.Prelude.{Option, Some, None, option_to_list, IsSome, is_some}
use Rattle.std.proofs.lemmas.List.Elements.{All-append, All-cons, All-nil, All-pop}
use Rattle.std.proofs.lemmas.List.Sums.{sum_by-append, sum_by-cons}
use Rattle.model.specs.Trees.{join}
use Rattle.queries.specs.declared.pieces.Open.{Open}
use Rattle.queries.specs.Pieces.{Part, Spelled, code_for, GapStands, after, filling, due, next_gap, closing_over, closing, Entry, Entries, wanted, all_wanted, Closes, Closable, between}
use Rattle.queries.proofs.Spelling.{PieceFor, piece_for, part_nil, part_join, part_agree, part_put, code_none, append_agree, length_put, spelled_agree}

pub after_ext : (f f' : List (List ℕ) → List ℕ) → ((ts : List (List ℕ)) → f' ts ≡ f ts) → (ts : List (List ℕ)) → after f' ts ≡ after f ts
after_ext f f' e [] = refl
after_ext f f' e (t ∷ ts) = ap (λ l. t ++ l) (e ts)

-- one more word is open
pub closing_put : (G : ℕ → List ℕ) (f : List (List ℕ) → List ℕ) (O : List Open) (e : Open) (ts : List (List ℕ))
    → closing_over G f (O ++ e ∷ []) ts ≡ filling G (next_gap e) (due e) (closing_over G f O) ts
closing_put G f [] e ts = refl
closing_put G f (o ∷ O) e ts = closing_put G (filling G (next_gap o) (due o) f) O e ts

-- with nothing open, trees follow one after the other
pub closing_none : (G : ℕ → List ℕ) (ts : List (List ℕ)) → closing G [] ts ≡ after (closing G []) ts
closing_none G [] = refl
closing_none G (t ∷ ts) = refl

-- a word with its gaps and the trees that follow
pub between_filling : (G : ℕ → List ℕ) (g k : ℕ) (f : List (List ℕ) → List ℕ) (ts : List (List ℕ)) → k ≤ length ts
    → between G g k (take k ts) ++ f (drop k ts) ≡ filling G g (suc k) f ts
between_filling G g zero f ts h = refl
between_filling G g (suc k) f [] h = absurd (omega arith)
between_filling G g (suc k) f (t ∷ ts) h =
    let e : between G g (suc k) (t ∷ take k ts) ++ f (drop k ts) ≡ G g ++ (t ++ (between G (suc g) k (take k ts) ++ f (drop k ts))) = simp append_assoc in
    e ∙ ap (λ l. G g ++ (t ++ l)) (between_filling G (suc g) k f ts (omega arith))

-- the last gap of the lowest open word, and one before the last
pub closing_last : (G : ℕ → List ℕ) (O : List Open) (e : Open) → due e ≡ 1 → (ts : List (List ℕ)) → closing G (O ++ e ∷ []) ts ≡ G (next_gap e) ++ closing G O ts
closing_last G O e h ts = closing_put G join O e ts ∙ ap (λ n. filling G (next_gap e) n (closing G O) ts) h

pub closing_next : (G : ℕ → List ℕ) (O : List Open) (e e' : Open) (m : ℕ) → due e ≡ suc (suc m) → next_gap e' ≡ suc (next_gap e) → due e' ≡ suc m
    → (ts : List (List ℕ)) → closing G (O ++ e ∷ []) ts ≡ G (next_gap e) ++ after (closing G (O ++ e' ∷ [])) ts
closing_next G O e e' m h f n ts =
    closing_put G join O e ts ∙ ap (λ n. filling G (next_gap e) n (closing G O) ts) h
    ∙ ap (λ l. G (next_gap e) ++ l) (after_ext (closing G (O ++ e' ∷ [])) (filling G (suc (next_gap e)) (suc m) (closing G O))
    (λ ts. sym (closing_put G join O e' ts ∙ ap₂ (λ g n. filling G g n (closing G O) ts) f n)) ts)

pub wanted_put : (O : List Open) (e : Open) → all_wanted (O ++ e ∷ []) ≡ all_wanted O + wanted e
wanted_put O e = omega (arith, sum_by-append wanted O (e ∷ []), sum_by-cons wanted e [])

pub length_open : (O : List Open) (e : Open) → length (O ++ e ∷ []) ≡ suc (length O)
length_open O e = omega (arith, length-append O (e ∷ []))

pub entries_put : (r : ℕ) (O : List Open) (e : Open) → Entries r O → Entry r e → Entries r (O ++ e ∷ [])
entries_put r O e a x = All-append (Entry r) O (e ∷ []) a (All-cons (Entry r) e [] x (All-nil (Entry r)))

pub entries_pop : (r : ℕ) (O : List Open) (e : Open) → Entries r (O ++ e ∷ []) → Entries r O × Entry r e
entries_pop r O e a = All-pop (Entry r) (O ++ e ∷ []) O (Some e) refl a

-- a piece, if there is one, takes at most one place, and the room that was kept for it
put_short : (P : List ℕ) (o : Option ℕ) → length (P ++ option_to_list o) ≤ length P + 1
put_short P None = omega (arith, length-append P [])
put_short P (Some c) = omega (arith, length_put P c)

pub put_grows : (P : List ℕ) (o : Option ℕ) → length P ≤ length (P ++ option_to_list o)
put_grows P o = omega (arith, length-append P (option_to_list o))

wanted_some : (e : Open) → next_gap e < 1280 → wanted e ≡ due e
wanted_some e h = rw (lt-leb 1280 (next_gap e) h)

wanted_none : (e : Open) → 1280 ≤ next_gap e → wanted e ≡ 0
wanted_none e h = rw (le-leb 1280 (next_gap e) h)

put_room : (sizes S P : List ℕ) (e : Open) → 1 ≤ due e → length (P ++ option_to_list (code_for sizes S P (next_gap e))) ≤ length P + wanted e
put_room sizes S P e h = go (leb 1280 (next_gap e)) refl
  where
    go : (b : Bool) → leb 1280 (next_gap e) ≡ b → length (P ++ option_to_list (code_for sizes S P (next_gap e))) ≤ length P + wanted e
    go true q =
        let z : length (P ++ option_to_list (code_for sizes S P (next_gap e))) ≡ length P = rw (code_none sizes S P (next_gap e) (leb-true 1280 (next_gap e) q), append-nil P) in
        omega arith
    go false q = omega (arith, put_short P (code_for sizes S P (next_gap e)), wanted_some e (leb-false 1280 (next_gap e) q))

put_room_next : (sizes S P : List ℕ) (e e' : Open) → next_gap e' ≡ suc (next_gap e) → suc (due e') ≡ due e
    → length (P ++ option_to_list (code_for sizes S P (next_gap e))) + wanted e' ≤ length P + wanted e
put_room_next sizes S P e e' f h = go (leb 1280 (next_gap e)) refl (leb 1280 (next_gap e')) refl
  where
    go : (b : Bool) → leb 1280 (next_gap e) ≡ b → (b' : Bool) → leb 1280 (next_gap e') ≡ b' → length (P ++ option_to_list (code_for sizes S P (next_gap e))) + wanted e' ≤ length P + wanted e
    go true q b' q' =
        let k = leb-true 1280 (next_gap e) q in
        let z : length (P ++ option_to_list (code_for sizes S P (next_gap e))) ≡ length P = rw (code_none sizes S P (next_gap e) k, append-nil P) in
        omega (arith, wanted_none e' (omega arith))
    go false q true q' = omega (arith, put_short P (code_for sizes S P (next_gap e)), wanted_some e (leb-false 1280 (next_gap e) q), wanted_none e' (leb-true 1280 (next_gap e') q'))
    go false q false q' = omega (arith, put_short P (code_for sizes S P (next_gap e)), wanted_some e (leb-false 1280 (next_gap e) q), wanted_some e' (leb-false 1280 (next_gap e') q'))

abbrev pub Now : (List (List ℕ) → List ℕ) → List (List ℕ) → List ℕ
Now f ts = f ts

pub closes_start : (S sizes P : List ℕ) (O : List Open) → Closes Now S sizes P O P O
closes_start S sizes P O =
    record {
      kept = λ j h. refl;
      grown = omega arith;
      lower = omega arith;
      room = omega arith;
      entries = λ r e. e;
      says = λ G r base x small h e. ([], part_nil G P r (length P), λ ts. refl);
    }

pub closes_end : {S sizes P₀ P : List ℕ} {O₀ : List Open} → Closes Now S sizes P₀ O₀ P [] → Closes after S sizes P₀ O₀ P []
closes_end x =
    record {
      kept = x.kept;
      grown = x.grown;
      lower = x.lower;
      room = x.room;
      entries = x.entries;
      says = λ G r base s small h e.
          let y = x.says G r base s small h e in
          (y.0, y.1, λ ts. y.2 ts ∙ ap (λ l. y.0 ++ l) (closing_none G ts));
    }

pub entry_gap : (r : ℕ) (e : Open) → Entry r e → (next_gap e < 5 * r) ⊎ (1280 ≤ next_gap e)
entry_gap r e x = go x.1
  where
    go : ((next_gap e + due e ≤ 5 * r) ⊎ ((1280 ≤ next_gap e) × (next_gap e + due e ≤ 1283))) → (next_gap e < 5 * r) ⊎ (1280 ≤ next_gap e)
    go (inl h) = inl (let k = x.0 in omega arith)
    go (inr h) = inr h.0

pub entry_small : (r : ℕ) (e : Open) → r ≤ 256 → Entry r e → next_gap e < 2047
entry_small r e l x = go x.1
  where
    go : ((next_gap e + due e ≤ 5 * r) ⊎ ((1280 ≤ next_gap e) × (next_gap e + due e ≤ 1283))) → next_gap e < 2047
    go (inl h) = omega arith
    go (inr h) = omega (arith, h.1)

pub entry_next : (r : ℕ) (e e' : Open) → Entry r e → next_gap e' ≡ suc (next_gap e) → suc (due e') ≡ due e → 1 ≤ due e' → Entry r e'
entry_next r e e' x f h k = (k, go x.1)
  where
    go : ((next_gap e + due e ≤ 5 * r) ⊎ ((1280 ≤ next_gap e) × (next_gap e + due e ≤ 1283)))
        → (next_gap e' + due e' ≤ 5 * r) ⊎ ((1280 ≤ next_gap e') × (next_gap e' + due e' ≤ 1283))
    go (inl l) = inl (omega arith)
    go (inr l) = inr (omega arith, omega arith)

-- one turn of closing: of the open words the lowest was taken, e, and O are the others
module _ {S sizes P₀ P : List ℕ} {O₀ : List Open} (O : List Open) (e : Open) (x : Closes Now S sizes P₀ O₀ P (O ++ e ∷ [])) (some : 1 ≤ due e) where
  -- what is put for its next gap
  put_says : (G : ℕ → List ℕ) (r base : ℕ) → Spelled G r base P₀ S sizes → r ≤ 256 → base ≤ length P₀ → Entries r O₀
      → (us : List ℕ) × Part G (P ++ option_to_list (code_for sizes S P (next_gap e))) r (length P₀) (length (P ++ option_to_list (code_for sizes S P (next_gap e)))) (us ++ G (next_gap e)) × ((ts : List (List ℕ)) → closing G O₀ ts ≡ us ++ closing G (O ++ e ∷ []) ts)
  put_says G r base s small h a =
      let y = x.says G r base s small h a in
      let g = x.grown in
      let s' : Spelled G r base P S sizes = spelled_agree P S base (omega arith) (λ j k. x.kept j (omega arith)) (λ g k. refl) s in
      let q : PieceFor G r (next_gap e) (code_for sizes S P (next_gap e)) = piece_for s' small (next_gap e) (entry_gap r e (entries_pop r O e (x.entries r a)).1) in
      (y.0, part_join (part_agree (P ++ option_to_list (code_for sizes S P (next_gap e))) (append_agree P (option_to_list (code_for sizes S P (next_gap e)))) y.1) (part_put P q), y.2)

  kept_put : (j : ℕ) → j < length P₀ → get_or (P ++ option_to_list (code_for sizes S P (next_gap e))) j 0 ≡ get_or P₀ j 0
  kept_put j h = let k = x.grown in append_agree P (option_to_list (code_for sizes S P (next_gap e))) j (omega arith) ∙ x.kept j h

  grown_put : length P₀ ≤ length (P ++ option_to_list (code_for sizes S P (next_gap e)))
  grown_put = omega (arith, x.grown, put_grows P (code_for sizes S P (next_gap e)))

  -- it was its last
  pub closes_last : due e ≡ 1 → Closes Now S sizes P₀ O₀ (P ++ option_to_list (code_for sizes S P (next_gap e))) O
  closes_last last =
      record {
        kept = kept_put;
        grown = grown_put;
        lower = omega (arith, x.lower, length_open O e);
        room = omega (arith, x.room, wanted_put O e, put_room sizes S P e some);
        entries = λ r a. (entries_pop r O e (x.entries r a)).0;
        says = λ G r base s small h a.
            let y = put_says G r base s small h a in
            (y.0 ++ G (next_gap e), y.1, λ ts. y.2 ts ∙ ap (λ l. y.0 ++ l) (closing_last G O e last ts) ∙ sym (append_assoc y.0 (G (next_gap e)) (closing G O ts)));
      }

  -- it has another
  pub closes_next : (e' : Open) → next_gap e' ≡ suc (next_gap e) → suc (due e') ≡ due e → 1 ≤ due e' → Closes after S sizes P₀ O₀ (P ++ option_to_list (code_for sizes S P (next_gap e))) (O ++ e' ∷ [])
  closes_next e' f n m =
      record {
        kept = kept_put;
        grown = grown_put;
        lower = omega (arith, x.lower, length_open O e, length_open O e');
        room = omega (arith, x.room, wanted_put O e, wanted_put O e', put_room_next sizes S P e e' f n);
        entries = λ r a. let q = entries_pop r O e (x.entries r a) in entries_put r O e' q.0 (entry_next r e e' q.1 f n m);
        says = λ G r base s small h a.
            let y = put_says G r base s small h a in (
              y.0 ++ G (next_gap e),
              y.1,
              λ ts. y.2 ts ∙ ap (λ l. y.0 ++ l) (closing_next G O e e' (due e' - 1) (omega arith) f (omega arith) ts)
                  ∙ sym (append_assoc y.0 (G (next_gap e)) (after (closing G (O ++ e' ∷ [])) ts)),
            );
      }

-- a vector whose elements were lent has what was put in their place
refilled : (O D : List Open) → length D ≡ length O → refill (length O) O D ≡ D
refilled O D h = items-with_items (record { items = O }) D h

-- nothing is open any more
pub turn_over : {S sizes P₀ P : List ℕ} {O₀ : List Open} (O D : List Open) → D ≡ O → length D ≤ 0 → Closes Now S sizes P₀ O₀ P O → Closes after S sizes P₀ O₀ P (refill (length O) O D)
turn_over {S} {sizes} {P₀} {P} {O₀} [] D same none x =
    subst (λ (os : List Open). Closes after S sizes P₀ O₀ P os) (sym (refilled [] D (ap length same) ∙ same)) (closes_end x)
turn_over (e ∷ O) D same none x = absurd (omega (arith, ap length same))

-- the lowest of the open words O is e, as it is lent: what it leaves of them changed, and taken
module _ (O D : List Open) (e : Open) (same : D ≡ O) (some : 0 < length D) (last : e ≡ get_or D (length D - 1) e) where
  as_many : length D ≡ length O
  as_many = ap length same

  one_more : suc (length O - 1) ≡ length O
  one_more = omega (arith, as_many)

  pub lowest_last : O ≡ take (length O - 1) O ++ e ∷ []
  lowest_last =
      sym (take-length O) ∙ ap (λ (k : ℕ). take k O) (sym one_more) ∙ take-suc O (length O - 1) e (omega (arith, as_many))
      ∙ ap (λ (v : Open). take (length O - 1) O ++ v ∷ []) (ap (λ (os : List Open). get_or os (length os - 1) e) (sym same) ∙ sym last)

  pub lowest_changed : (e' : Open) → refill (length O) O (set D (length D - 1) e') ≡ take (length O - 1) O ++ e' ∷ []
  lowest_changed e' =
      refilled O (set D (length D - 1) e') (length-set D (length D - 1) e' ∙ as_many)
      ∙ ap (λ (os : List Open). set os (length os - 1) e') same
      ∙ sym (take-length (set O (length O - 1) e'))
      ∙ ap (λ (k : ℕ). take k (set O (length O - 1) e')) (length-set O (length O - 1) e' ∙ sym one_more)
      ∙ take-suc-set O (length O - 1) e' (omega (arith, as_many))

  pub lowest_taken : (O' : List Open) → O' ≡ take (length (refill (length O) O (set D (length D - 1) e)) - 1) (refill (length O) O (set D (length D - 1) e)) → O' ≡ take (length O - 1) O
  lowest_taken O' t =
      let F = take (length O - 1) O in
      let k : length (F ++ e ∷ []) - 1 ≡ length F = omega (arith, length_open F e) in
      t ∙ ap (λ (os : List Open). take (length os - 1) os) (lowest_changed e) ∙ ap (λ (n : ℕ). take n (F ++ e ∷ [])) k ∙ take-append_seam F (e ∷ [])

-- a turn in the values that the code has: what it asks, by what closing asks, and what it leaves
module _ {S sizes P₀ P : List ℕ} {O₀ O₁ : List Open} (O : List Open) (e : Open) (C : Closable sizes S P₀ O₀) (x : Closes Now S sizes P₀ O₀ P O₁) (was : O₁ ≡ O ++ e ∷ []) where
  taken : Closes Now S sizes P₀ O₀ P (O ++ e ∷ [])
  taken = subst (λ (os : List Open). Closes Now S sizes P₀ O₀ P os) was x

  turn_entry : Entry C.rules e
  turn_entry = (entries_pop C.rules O e (taken.entries C.rules C.entries)).1

  turn_low : next_gap e < 1280 → 1 ≤ get_or sizes (next_gap e) 0 → get_or S (next_gap e) 0 + 1 < length P
  turn_low h k = go (entry_gap C.rules e turn_entry)
    where
      go : (next_gap e < 5 * C.rules) ⊎ (1280 ≤ next_gap e) → get_or S (next_gap e) 0 + 1 < length P
      go (inl l) = omega (arith, C.low (next_gap e) l k, x.grown)
      go (inr l) = absurd (omega arith)

  pub turn_small : next_gap e < 2047
  turn_small = entry_small C.rules e C.few turn_entry

  module _ (S' sizes' : List ℕ) (starts_kept : S' ≡ S) (sizes_kept : sizes' ≡ sizes) where
    pub turn_asks : GapStands sizes' S' P (next_gap e)
    turn_asks = (
      omega (arith, C.wide, ap length sizes_kept),
      λ h k.
          let s : get_or S' (next_gap e) 0 ≡ get_or S (next_gap e) 0 = ap (λ (l : List ℕ). get_or l (next_gap e) 0) starts_kept in
          let z : get_or sizes' (next_gap e) 0 ≡ get_or sizes (next_gap e) 0 = ap (λ (l : List ℕ). get_or l (next_gap e) 0) sizes_kept in
          omega (arith, turn_low h (omega arith)),
    )

    module _ (o : Option ℕ) (is : o ≡ code_for sizes' S' P (next_gap e)) where
      piece_is : code_for sizes S P (next_gap e) ≡ o
      piece_is = ap₂ (λ (z s : List ℕ). code_for z s P (next_gap e)) (sym sizes_kept) (sym starts_kept) ∙ sym is

      pub turn_room : IsSome o → length P < 16384
      turn_room n = go (leb 1280 (next_gap e)) refl
        where
          go : (b : Bool) → leb 1280 (next_gap e) ≡ b → length P < 16384
          go true q =
              let f : false ≡ true = ap is_some (sym (code_none sizes S P (next_gap e) (leb-true 1280 (next_gap e) q)) ∙ piece_is) ∙ n in
              absurd (let z : ⊥ = cc in z)
          go false q = omega (arith, wanted_some e (leb-false 1280 (next_gap e) q), wanted_put O e, turn_entry.0, taken.room, C.room)

      module _ (P' : List ℕ) (put : P' ≡ P ++ option_to_list o) where
        put_is : P ++ option_to_list (code_for sizes S P (next_gap e)) ≡ P'
        put_is = ap (λ (v : Option ℕ). P ++ option_to_list v) piece_is ∙ sym put

        pub turn_last : due e ≤ 1 → Closes Now S sizes P₀ O₀ P' O
        turn_last l = subst (λ (p : List ℕ). Closes Now S sizes P₀ O₀ p O) put_is (closes_last O e taken turn_entry.0 (omega (arith, turn_entry.0)))

        pub turn_next : (e' : Open) → next_gap e' ≡ suc (next_gap e) → suc (due e') ≡ due e → 1 ≤ due e' → (O' : List Open) → O' ≡ O ++ e' ∷ [] → Closes after S sizes P₀ O₀ P' O'
        turn_next e' f n m O' o' =
            subst (λ (p : List ℕ). Closes after S sizes P₀ O₀ p O') put_is
            (subst (λ (os : List Open). Closes after S sizes P₀ O₀ (P ++ option_to_list (code_for sizes S P (next_gap e))) os) (sym o')
            (closes_next O e taken turn_entry.0 e' f n m))
