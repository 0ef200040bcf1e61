-- A rule's body turned into the pieces of its gaps, word by word.
use Prim.Native.Nat.{ℕ, suc, ◌+◌, ◌*◌, ◌-◌, ◌/◌, ◌≤◌, ◌<◌}
use native.Mathlib.Omega.{arith}
use native.Mathlib.Numerals.{add-one}
use mathlib.Core.Path.{◌≡◌, refl, sym, ap, ap₂, subst, ◌∙◌}
use mathlib.Core.Bool.{Bool, true, false}
use mathlib.Core.List.{List, [], ◌∷◌, ◌++◌, append-nil, append_assoc}
use lib.Dec.{T, ltb, eqb}
use lib.ListN.{length, take, drop, get_or, set}
use lib.Seq.{get_or-set_same, get_or-set_other, get_or-append_seam}
use borrow.Author.Tests.{ltb-true, ltb-false, eqb-true, eqb-false, lt-ltb}
use Rattle.model.specs.Words.{Class, empty, label, parameter, call, illegal, class_of, is_parameter}
use Rattle.model.specs.Trees.{all, join, is_legal}
use Rattle.queries.specs.declared.pieces.Open.{Open}
use Rattle.queries.specs.Pieces.{stop, unstopped, up_to, past, past_all, meant, Part, Slice, Spelled, after, filling, due, next_gap, closing, Entries, Closes, between, over, own, first_gap, own_gap, own_starts}
use Rattle.queries.proofs.Stops.{past_past_all, past_all_end, up_to_all, up_to_stop, past_stop, tree_word}
use Rattle.queries.proofs.Spelling.{Agree, part_nil, part_one, part_join, part_agree, slice_agree, part_plain, append_agree, length_put}
use Rattle.queries.proofs.Closing.{Now, closing_none, closing_put, between_filling}

-- m gaps of rule r are spelled, and of the next one some words; K says what is due. X is the rule's expansion with stops.
pub record Spelling (K : (List (List ℕ) → List ℕ) → List (List ℕ) → List ℕ) (G : ℕ → List ℕ) (r : ℕ) (X P S : List ℕ) (O : List Open) (m : ℕ) (F : List (List ℕ)) : Type 0 where
  pub done : (c : ℕ) → c < m → 1 ≤ length (G (5 * r + c)) → Slice G P r (get_or S (5 * r + c) 0) (length P) (G (5 * r + c))
  pub words : List ℕ
  pub part : Part G P r (get_or S (5 * r + m) 0) (length P) words
  pub rest : past_all m X ≡ words ++ K (closing G O) F

pub spelling_start : (G : ℕ → List ℕ) (r : ℕ) (X P S : List ℕ) (F : List (List ℕ)) → X ≡ join F → get_or S (5 * r) 0 ≡ length P → Spelling after G r X P S [] 0 F
spelling_start G r X P S F e s =
    let z : 5 * r + 0 ≡ 5 * r = omega arith in
    record {
      done = λ c h. absurd (omega arith);
      words = [];
      part = subst (λ (i : ℕ). Part G P r i (length P) []) (sym (ap (λ (i : ℕ). get_or S i 0) z ∙ s)) (part_nil G P r (length P));
      rest = e ∙ closing_none G F;
    }

-- a word and what its gaps give
own_rest : (G : ℕ → List ℕ) (rank : ℕ → ℕ) (w : ℕ) (O : List Open) (e : Open) (F : List (List ℕ)) → rank w ≤ length F
    → next_gap e ≡ first_gap w → due e ≡ suc (rank w)
    → over G rank w (take (rank w) F) ++ closing G O (drop (rank w) F) ≡ own w ++ closing G (O ++ e ∷ []) F
own_rest G rank w O e F h f g =
    append_assoc (own w) (between G (first_gap w) (rank w) (take (rank w) F)) (closing G O (drop (rank w) F))
    ∙ ap (λ (l : List ℕ). own w ++ l)
    (between_filling G (first_gap w) (rank w) (closing G O) F h
    ∙ ap₂ (λ g n. filling G g n (closing G O) F) (sym f) (sym g)
    ∙ sym (closing_put G join O e F))

module _ (G : ℕ → List ℕ) (r : ℕ) (X : List ℕ) (gap_is : (c : ℕ) → c < 5 → G (5 * r + c) ≡ up_to (past_all c X)) (plain : (g : ℕ) → T (all unstopped (G g))) where
  -- what is left where a word is put
  put_stop : (P S : List ℕ) (O' : List Open) (m : ℕ) (F' : List (List ℕ)) (words : List ℕ) → m < 4 → 5 * r + m + 1 < length S
      → ((c : ℕ) → c < m → 1 ≤ length (G (5 * r + c)) → Slice G P r (get_or S (5 * r + c) 0) (length P) (G (5 * r + c)))
      → Part G P r (get_or S (5 * r + m) 0) (length P) words → past_all m X ≡ words ++ (stop ∷ [] ++ closing G O' F')
      → Spelling Now G r X (P ++ stop ∷ []) (set S (5 * r + m + 1) (length (P ++ stop ∷ []))) O' (m + 1) F'
  put_stop P S O' m F' words hm hs d p e =
      let P' = P ++ stop ∷ [] in
      let t = part_plain plain p in
      let keep : Agree (length P) P' P = append_agree P (stop ∷ []) in
      let more : length P' ≡ suc (length P) = length_put P stop in
      let g : G (5 * r + m) ≡ words = gap_is m (omega arith) ∙ ap up_to e ∙ up_to_stop words (closing G O' F') t in
      let n : 5 * r + (m + 1) ≡ 5 * r + m + 1 = omega arith in
      let s : get_or (set S (5 * r + m + 1) (length P')) (5 * r + (m + 1)) 0 ≡ length P' = ap (λ (i : ℕ). get_or (set S (5 * r + m + 1) (length P')) i 0) n ∙ get_or-set_same S (5 * r + m + 1) (length P') 0 hs in
      let old : (c : ℕ) → c < m + 1 → get_or (set S (5 * r + m + 1) (length P')) (5 * r + c) 0 ≡ get_or S (5 * r + c) 0 = λ c h. get_or-set_other S (5 * r + m + 1) (5 * r + c) (length P') 0 (omega arith) in
      let here : Slice G P' r (get_or S (5 * r + m) 0) (length P') (G (5 * r + m)) =
      record { end = length P; part = subst (Part G P' r (get_or S (5 * r + m) 0) (length P)) (sym g) (part_agree P' keep p); below = omega arith; stops = get_or-append_seam P stop [] 0 } in
      record {
        done = λ c h l.
            subst (λ (i : ℕ). Slice G P' r i (length P') (G (5 * r + c))) (sym (old c h)) (all_done c h l keep (omega arith) here);
        words = [];
        part = subst (λ (i : ℕ). Part G P' r i (length P') []) (sym s) (part_nil G P' r (length P'));
        rest = ap (λ (i : ℕ). past_all i X) (add-one m) ∙ sym (past_past_all m X) ∙ ap past e ∙ past_stop words (closing G O' F') t;
      }
    where
      all_done : (c : ℕ) → c < m + 1 → 1 ≤ length (G (5 * r + c)) → Agree (length P) (P ++ stop ∷ []) P → length P ≤ length (P ++ stop ∷ [])
          → Slice G (P ++ stop ∷ []) r (get_or S (5 * r + m) 0) (length (P ++ stop ∷ [])) (G (5 * r + m))
          → Slice G (P ++ stop ∷ []) r (get_or S (5 * r + c) 0) (length (P ++ stop ∷ [])) (G (5 * r + c))
      all_done c h l keep more here = go (eqb c m) refl
        where
          go : (b : Bool) → eqb c m ≡ b → Slice G (P ++ stop ∷ []) r (get_or S (5 * r + c) 0) (length (P ++ stop ∷ [])) (G (5 * r + c))
          go true q = subst (λ i. Slice G (P ++ stop ∷ []) r (get_or S (5 * r + i) 0) (length (P ++ stop ∷ [])) (G (5 * r + i))) (sym (eqb-true c m q)) here
          go false q = let n : c ≡ m → ⊥ = eqb-false c m q in slice_agree (P ++ stop ∷ []) (length (P ++ stop ∷ [])) more keep (d c (omega arith) l)

  put_word : (P S : List ℕ) (O' : List Open) (m w : ℕ) (F' : List (List ℕ)) (words : List ℕ) → w < 32768
      → ((c : ℕ) → c < m → 1 ≤ length (G (5 * r + c)) → Slice G P r (get_or S (5 * r + c) 0) (length P) (G (5 * r + c)))
      → Part G P r (get_or S (5 * r + m) 0) (length P) words → past_all m X ≡ words ++ (w ∷ [] ++ closing G O' F')
      → Spelling Now G r X (P ++ w ∷ []) S O' m F'
  put_word P S O' m w F' words hw d p e =
      let P' = P ++ w ∷ [] in
      let keep : Agree (length P) P' P = append_agree P (w ∷ []) in
      let more : length P' ≡ suc (length P) = length_put P w in
      let one : meant G w ≡ w ∷ [] = rw (lt-ltb w 32768 hw) in
      let q : Part G P' r (length P) (length P') (w ∷ []) =
      subst (λ (i : ℕ). Part G P' r (length P) i (w ∷ [])) (sym more) (subst (Part G P' r (length P) (suc (length P))) one (part_one G P' r (length P) w (get_or-append_seam P w [] 0) (omega arith))) in
      record {
        done = λ c h l. slice_agree P' (length P') (omega arith) keep (d c h l);
        words = words ++ w ∷ [];
        part = part_join (part_agree P' keep p) q;
        rest = e ∙ sym (append_assoc words (w ∷ []) (closing G O' F'));
      }

  pub own_step : (rank : ℕ → ℕ) (n w : ℕ) (P S : List ℕ) (O : List Open) (e : Open) (m : ℕ) (F : List (List ℕ)) → T (is_legal n w) → rank w ≤ length F
      → next_gap e ≡ first_gap w → due e ≡ suc (rank w) → (is_parameter w ≡ true → m < 4) → 5 * r + 5 ≤ length S
      → Spelling after G r X P S O m (over G rank w (take (rank w) F) ∷ drop (rank w) F)
      → Spelling Now G r X (P ++ own w) (own_starts w S (5 * r + m) (length (P ++ own w))) (O ++ e ∷ []) (own_gap w m) F
  own_step rank n w P S O e m F t h f g hm hs x = go (class_of w) refl (x.rest ∙ ap (λ (l : List ℕ). x.words ++ l) (own_rest G rank w O e F h f g))
    where
      go : (c : Class) → class_of w ≡ c → past_all m X ≡ x.words ++ (own w ++ closing G (O ++ e ∷ []) F)
          → Spelling Now G r X (P ++ own w) (own_starts w S (5 * r + m) (length (P ++ own w))) (O ++ e ∷ []) (own_gap w m) F
      go (parameter i) c d =
          let m4 : m < 4 = hm (simp c) in
          simp c (put_stop P S (O ++ e ∷ []) m F x.words m4 (omega arith) x.done x.part (simp c at d))
      go empty c d = simp c (put_word P S (O ++ e ∷ []) m w F x.words (tree_word w (rw c tt)) x.done x.part (simp c at d))
      go label c d = simp c (put_word P S (O ++ e ∷ []) m w F x.words (tree_word w (rw c tt)) x.done x.part (simp c at d))
      go (call j) c d =
          let none : P ++ own w ≡ P = simp c (append-nil P) in
          let y : Spelling Now G r X P S (O ++ e ∷ []) m F = record { done = x.done; words = x.words; part = x.part; rest = simp c at d } in
          subst (λ (l : List ℕ). Spelling Now G r X l (own_starts w S (5 * r + m) (length l)) (O ++ e ∷ []) (own_gap w m) F) (sym none) (simp c y)
      go illegal c d = let z : T false = simp c at t in absurd z

  pub close_step : (P S : List ℕ) (O : List Open) (P' : List ℕ) (O' : List Open) (sizes : List ℕ) (m base : ℕ) (F : List (List ℕ)) → r ≤ 256 → base ≤ length P → Entries r O
      → Spelled G r base P S sizes → Closes after S sizes P O P' O'
      → Spelling Now G r X P S O m F → Spelling after G r X P' S O' m F
  close_step P S O P' O' sizes m base F small hb he s c x =
      let y = c.says G r base s small hb he in
      record {
        done = λ i h l. slice_agree P' (length P') c.grown c.kept (x.done i h l);
        words = x.words ++ y.0;
        part = part_join (part_agree P' c.kept x.part) y.1;
        rest = x.rest ∙ ap (λ (l : List ℕ). x.words ++ l) (y.2 F) ∙ sym (append_assoc x.words y.0 (after (closing G O') F));
      }

  -- all words put: the last gap ends
  pub spelling_end : (P S : List ℕ) (O : List Open) (sizes : List ℕ) (m base : ℕ) → m < 5 → base ≤ length P
      → ((c : ℕ) → c < 5 → get_or sizes (5 * r + c) 0 ≡ length (G (5 * r + c)))
      → Spelled G r base P S sizes → Spelling after G r X P S O m [] → Spelled G (suc r) (length (P ++ stop ∷ [])) (P ++ stop ∷ []) S sizes
  spelling_end P S O sizes m base hm hb size s x =
      record {
        none = s.none;
        plain = plain;
        measured = λ g h. measured g h (ltb g (5 * r)) refl;
        slices = λ g h l. slices g h l (ltb g (5 * r)) refl;
      }
    where
      more : length (P ++ stop ∷ []) ≡ suc (length P)
      more = length_put P stop

      keep : Agree (length P) (P ++ stop ∷ []) P
      keep = append_agree P (stop ∷ [])

      end : past_all m X ≡ x.words
      end = x.rest ∙ append-nil x.words

      measured : (g : ℕ) → g < 5 * suc r → (b : Bool) → ltb g (5 * r) ≡ b → get_or sizes g 0 ≡ length (G g)
      measured g h true e = s.measured g (ltb-true g (5 * r) e)
      measured g h false e =
          let l = ltb-false g (5 * r) e in
          let n : 5 * r + (g - 5 * r) ≡ g = omega arith in
          subst (λ (i : ℕ). get_or sizes i 0 ≡ length (G i)) n (size (g - 5 * r) (omega arith))

      last : Slice G (P ++ stop ∷ []) r (get_or S (5 * r + m) 0) (length (P ++ stop ∷ [])) (G (5 * r + m))
      last =
          let t = part_plain plain x.part in
          let g : G (5 * r + m) ≡ x.words = gap_is m hm ∙ ap up_to end ∙ up_to_all x.words t in
          record { end = length P; part = subst (Part G (P ++ stop ∷ []) r (get_or S (5 * r + m) 0) (length P)) (sym g) (part_agree (P ++ stop ∷ []) keep x.part); below = omega (arith, more); stops = get_or-append_seam P stop [] 0 }

      over_end : (c : ℕ) → c < 5 → m < c → G (5 * r + c) ≡ []
      over_end c hc k =
          let n : m + suc (c - suc m) ≡ c = omega arith in
          gap_is c hc ∙ ap (λ (i : ℕ). up_to (past_all i X)) (sym n) ∙ ap up_to (past_all_end m (c - suc m) X x.words end (part_plain plain x.part))

      rule : (c : ℕ) → c < 5 → 1 ≤ length (G (5 * r + c)) → (a b : Bool) → ltb c m ≡ a → eqb c m ≡ b → Slice G (P ++ stop ∷ []) r (get_or S (5 * r + c) 0) (length (P ++ stop ∷ [])) (G (5 * r + c))
      rule c hc l true b e f = slice_agree (P ++ stop ∷ []) (length (P ++ stop ∷ [])) (omega (arith, more)) keep (x.done c (ltb-true c m e) l)
      rule c hc l false true e f = subst (λ i. Slice G (P ++ stop ∷ []) r (get_or S (5 * r + i) 0) (length (P ++ stop ∷ [])) (G (5 * r + i))) (sym (eqb-true c m f)) last
      rule c hc l false false e f =
          let n : c ≡ m → ⊥ = eqb-false c m f in
          let k = ltb-false c m e in
          absurd (omega (arith, ap length (over_end c hc (omega arith))))

      slices : (g : ℕ) → g < 5 * suc r → 1 ≤ length (G g) → (b : Bool) → ltb g (5 * r) ≡ b → Slice G (P ++ stop ∷ []) (g / 5) (get_or S g 0) (length (P ++ stop ∷ [])) (G g)
      slices g h l true e = slice_agree (P ++ stop ∷ []) (length (P ++ stop ∷ [])) (omega (arith, more)) (λ j k. keep j (omega arith)) (s.slices g (ltb-true g (5 * r) e) l)
      slices g h l false e =
          let k = ltb-false g (5 * r) e in
          let n : 5 * r + (g - 5 * r) ≡ g = omega arith in
          let q : (5 * r + (g - 5 * r)) / 5 ≡ r = omega arith in
          let c = g - 5 * r in
          subst (λ (i : ℕ). Slice G (P ++ stop ∷ []) (i / 5) (get_or S i 0) (length (P ++ stop ∷ [])) (G i)) n
          (subst (λ (b : ℕ). Slice G (P ++ stop ∷ []) b (get_or S (5 * r + c) 0) (length (P ++ stop ∷ [])) (G (5 * r + c))) (sym q)
          (rule c (omega arith) (subst (λ (i : ℕ). 1 ≤ length (G i)) (sym n) l) (ltb c m) (eqb c m) refl refl))
