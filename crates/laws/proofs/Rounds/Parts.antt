-- The chosen occurrences of a digram in a body: each has an upper and a lower word, and replacing them leaves one complete tree.
use Prim.Native.Nat.{ℕ, zero, suc, ◌+◌, ◌-◌, ◌≤◌, ◌<◌}
use native.Mathlib.Omega.{arith}
use mathlib.Core.Path.{◌≡◌, refl, sym, ap, ap₂, ◌∙◌, subst}
use mathlib.Core.Logic.{◌⊎◌, inl, inr, ⊎_elim}
use mathlib.Core.Bool.{Bool, true, false}
use mathlib.Core.List.Memᴰ
use mathlib.Core.List.{List, [], ◌∷◌, ◌++◌, Memᴰ}
use lib.Dec.{T}
use lib.ListN.{length, take, drop, get_or, set, replicate, length-take, length-drop, take-append-drop}
use Rattle.model.specs.Words.{rank_of, call_word, renumbered, is_parameter}
use Rattle.model.specs.Trees.{roots, those}
use Rattle.model.specs.Rounds.{Digram, children, Part, upper, lower, other, part_of, starts, marks_below, parts, uppers, replaced, digram_rank, up}
use Rattle.laws.specs.Formed.{height, Fits, Tree}
use Rattle.laws.proofs.Trees.Fills.{those_append, those_out}
use Rattle.laws.proofs.Trees.Folds.{length_fold}
use Rattle.laws.proofs.Rounds.Digrams.{root_there, starts_is}
use Rattle.laws.proofs.Words.Lists.{mem_take, mem_get_or}

abbrev pub lowers : List Part → ℕ
lowers [] = 0
lowers (upper ∷ ps) = lowers ps
lowers (lower ∷ ps) = suc (lowers ps)
lowers (other ∷ ps) = lowers ps

-- how many trees are marked
abbrev pub marked : List Bool → ℕ
marked [] = 0
marked (true ∷ ms) = suc (marked ms)
marked (false ∷ ms) = marked ms

-- one mark for each tree, and the root of a marked one is b
abbrev pub Marks : ℕ → List Bool → List ℕ → Type 0
Marks b [] [] = Unit {0}
Marks b [] (r ∷ rs) = ⊥
Marks b (m ∷ ms) [] = ⊥
Marks b (m ∷ ms) (r ∷ rs) = (T m → r ≡ b) × Marks b ms rs

marks_append : (b : ℕ) (ms : List Bool) (rs : List ℕ) (ms' : List Bool) (rs' : List ℕ) → Marks b ms rs → Marks b ms' rs' → Marks b (ms ++ ms') (rs ++ rs')
marks_append b [] [] ms' rs' p q = q
marks_append b [] (r ∷ rs) ms' rs' p q = absurd p
marks_append b (m ∷ ms) [] ms' rs' p q = absurd p
marks_append b (m ∷ ms) (r ∷ rs) ms' rs' p q = (p.0, marks_append b ms rs ms' rs' p.1 q)

marks_none : (b k : ℕ) (rs : List ℕ) → k ≤ length rs → Marks b (replicate k false) (take k rs)
marks_none b zero rs h = tt
marks_none b (suc k) [] h = omega arith
marks_none b (suc k) (r ∷ rs) h = ((λ t. absurd t), marks_none b k rs (omega arith))

marks_one : (b k i : ℕ) (rs : List ℕ) → k ≤ length rs → i < k → get_or (take k rs) i 0 ≡ b → Marks b (set (replicate k false) i true) (take k rs)
marks_one b zero i rs h l e = omega arith
marks_one b (suc k) i [] h l e = absurd (omega arith)
marks_one b (suc k) zero (r ∷ rs) h l e = ((λ t. e), marks_none b k rs (omega arith))
marks_one b (suc k) (suc i) (r ∷ rs) h l e = ((λ t. absurd t), marks_one b k i rs (omega arith) (omega arith) e)

marks_nil : (b : ℕ) (rs : List ℕ) → length rs ≡ 0 → Marks b [] rs
marks_nil b [] e = tt
marks_nil b (r ∷ rs) e = omega arith

none_below : (b k : ℕ) (ms : List Bool) (rs : List ℕ) → k ≤ length rs → Marks b ms (drop k rs) → Marks b (replicate k false ++ ms) rs
none_below b k ms rs h p = subst (Marks b (replicate k false ++ ms)) (take-append-drop k rs) (marks_append b (replicate k false) (take k rs) ms (drop k rs) (marks_none b k rs h) p)

one_below : (b k i : ℕ) (ms : List Bool) (rs : List ℕ) → k ≤ length rs → i < k → get_or (take k rs) i 0 ≡ b → Marks b ms (drop k rs)
    → Marks b (set (replicate k false) i true ++ ms) rs
one_below b k i ms rs h l e p =
    subst (Marks b (set (replicate k false) i true ++ ms)) (take-append-drop k rs)
    (marks_append b (set (replicate k false) i true) (take k rs) ms (drop k rs) (marks_one b k i rs h l e) p)

-- the word has in its place the rank that it had
abbrev pub KeepsRank : ℕ → List ℕ → List ℕ → ℕ → Type 0
KeepsRank m ranks ranks' w = rank_of ranks' (renumbered (up m) w) ≡ rank_of ranks w

-- The parts of words with one mark for each tree to come: a marked tree's root is b, and an upper word is an a that has a b after it and marks it.
pub data Parted (ranks : List ℕ) (d : Digram) : List Bool → List ℕ → List Part → Type 0 where
  done : Parted ranks d [] [] []
  taken : {w : ℕ} {ws : List ℕ} {ms : List Bool} {ps : List Part} → w ≡ d.b
      → Parted ranks d (replicate (rank_of ranks w) false ++ ms) ws ps → Parted ranks d (true ∷ ms) (w ∷ ws) (lower ∷ ps)
  starting : {w : ℕ} {ws : List ℕ} {ms : List Bool} {ps : List Part} → w ≡ d.a → Memᴰ d.b ws
      → Parted ranks d (set (replicate (rank_of ranks w) false) (d.i - 1) true ++ ms) ws ps → Parted ranks d (false ∷ ms) (w ∷ ws) (upper ∷ ps)
  left : {w : ℕ} {ws : List ℕ} {ms : List Bool} {ps : List Part}
      → Parted ranks d (replicate (rank_of ranks w) false ++ ms) ws ps → Parted ranks d (false ∷ ms) (w ∷ ws) (other ∷ ps)

module _ (ranks : List ℕ) (d : Digram) (from : 1 ≤ d.i) (to : d.i ≤ rank_of ranks d.a) where
  room : (w : ℕ) (ws : List ℕ) → Fits (rank_of ranks) 0 (w ∷ ws) → rank_of ranks w ≤ length (roots ranks ws)
  room w ws f = rw (length_fold (rank_of ranks) (λ w trees. w) ws []) f.0

  parts_parted : (marks : List Bool) (ws : List ℕ) → Fits (rank_of ranks) 0 ws → Marks d.b marks (roots ranks ws)
      → Parted ranks d marks ws (parts ranks d marks ws)
  parts_parted [] [] f p = done
  parts_parted [] (w ∷ ws) f p = absurd p
  parts_parted (m ∷ ms) [] f p = absurd p
  parts_parted (true ∷ ms) (w ∷ ws) f p =
      taken (p.0 tt) (parts_parted (replicate (rank_of ranks w) false ++ ms) ws f.1 (none_below d.b (rank_of ranks w) ms (roots ranks ws) (room w ws f) p.1))
  parts_parted (false ∷ ms) (w ∷ ws) f p = go (starts ranks d w ws) refl (λ marks q. parts_parted marks ws f.1 q)
    where
      k : ℕ
      k = rank_of ranks w

      go : (s : Bool) → starts ranks d w ws ≡ s → ((marks : List Bool) → Marks d.b marks (roots ranks ws) → Parted ranks d marks ws (parts ranks d marks ws))
          → Parted ranks d (false ∷ ms) (w ∷ ws) (part_of false s ∷ parts ranks d (marks_below (part_of false s) d.i k ++ ms) ws)
      go true e below =
          let x = starts_is ranks d w ws (rw e tt) in
          let i_under : d.i - 1 < k = omega (arith, ap (rank_of ranks) x.0) in
          let there = mem_get_or (children ranks w ws) (d.i - 1) 0 (omega (arith, length-take k (roots ranks ws), room w ws f)) in
          starting x.0 (root_there ranks ws (mem_take k (roots ranks ws) (Memᴰ.cast (sym x.1) there)))
          (below _ (one_below d.b k (d.i - 1) ms (roots ranks ws) (room w ws f) i_under x.1 p.1))
      go false e below = left (below _ (none_below d.b k ms (roots ranks ws) (room w ws f) p.1))

  -- the parts of a body
  pub body_parted : (ws : List ℕ) → Tree ranks ws → Parted ranks d (false ∷ []) ws (parts ranks d [] ws)
  body_parted [] t = absurd (omega arith)
  body_parted (w ∷ ws) t =
      parts_parted (false ∷ []) (w ∷ ws) t.0 (
        (λ u. absurd u),
        marks_nil d.b (drop (rank_of ranks w) (roots ranks ws))
            (omega (arith, length-drop (rank_of ranks w) (roots ranks ws), length_fold (rank_of ranks) (λ (w : ℕ) (trees : List ℕ). w) ws [], t.1)),
      )

marked_append : (ms ms' : List Bool) → marked (ms ++ ms') ≡ marked ms + marked ms'
marked_append [] ms' = omega arith
marked_append (true ∷ ms) ms' = omega (arith, marked_append ms ms')
marked_append (false ∷ ms) ms' = marked_append ms ms'

marked_none : (k : ℕ) → marked (replicate k false) ≡ 0
marked_none zero = refl
marked_none (suc k) = marked_none k

marked_one : (k i : ℕ) → i < k → marked (set (replicate k false) i true) ≡ 1
marked_one zero i h = omega arith
marked_one (suc k) zero h = ap suc (marked_none k)
marked_one (suc k) (suc i) h = marked_one k i (omega arith)

-- how many trees there are once the marked ones, whose roots have rank k, have lost their roots
abbrev pub width : ℕ → List Bool → ℕ
width k [] = 0
width k (true ∷ ms) = k + width k ms
width k (false ∷ ms) = suc (width k ms)

width_append : (k : ℕ) (ms ms' : List Bool) → width k (ms ++ ms') ≡ width k ms + width k ms'
width_append k [] ms' = omega arith
width_append k (true ∷ ms) ms' = omega (arith, width_append k ms ms')
width_append k (false ∷ ms) ms' = omega (arith, width_append k ms ms')

width_none : (k n : ℕ) → width k (replicate n false) ≡ n
width_none k zero = refl
width_none k (suc n) = ap suc (width_none k n)

width_one : (k n i : ℕ) → i < n → width k (set (replicate n false) i true) ≡ n - 1 + k
width_one k zero i h = omega arith
width_one k (suc n) zero h = omega (arith, width_none k n)
width_one k (suc n) (suc i) h = omega (arith, width_one k n i (omega arith))

module _ (ranks : List ℕ) (d : Digram) (from : 1 ≤ d.i) (to : d.i ≤ rank_of ranks d.a) where
  i_under : {w : ℕ} → w ≡ d.a → d.i - 1 < rank_of ranks w
  i_under e = omega (arith, ap (rank_of ranks) e)

  balance : {marks : List Bool} {ws : List ℕ} {ps : List Part} → Parted ranks d marks ws ps → lowers ps ≡ uppers ps + marked marks
  balance done = omega arith
  balance (taken {w} {ws} {ms} {ps} e p) = omega (arith, balance p, marked_append (replicate (rank_of ranks w) false) ms, marked_none (rank_of ranks w))
  balance (starting {w} {ws} {ms} {ps} e b p) =
      omega (arith, balance p, marked_append (set (replicate (rank_of ranks w) false) (d.i - 1) true) ms, marked_one (rank_of ranks w) (d.i - 1) (i_under e))
  balance (left {w} {ws} {ms} {ps} p) = omega (arith, balance p, marked_append (replicate (rank_of ranks w) false) ms, marked_none (rank_of ranks w))

  length_replaced : (m : ℕ) {marks : List Bool} {ws : List ℕ} {ps : List Part} → Parted ranks d marks ws ps → length (replaced m ps ws) + lowers ps ≡ length ws
  length_replaced m done = refl
  length_replaced m (taken {w} {ws} {ms} {ps} e p) = omega (arith, length_replaced m p)
  length_replaced m (starting {w} {ws} {ms} {ps} e b p) = omega (arith, length_replaced m p)
  length_replaced m (left {w} {ws} {ms} {ps} p) = omega (arith, length_replaced m p)

  -- as many lower words as upper ones
  pub parts_balance : (ws : List ℕ) → Tree ranks ws → lowers (parts ranks d [] ws) ≡ uppers (parts ranks d [] ws)
  parts_balance ws t = omega (arith, balance (body_parted ranks d from to ws t))

  pub replaced_length : (m : ℕ) (ws : List ℕ) → Tree ranks ws → length (replaced m (parts ranks d [] ws) ws) + uppers (parts ranks d [] ws) ≡ length ws
  replaced_length m ws t = omega (arith, length_replaced m (body_parted ranks d from to ws t), parts_balance ws t)

  -- the upper words become calls of a rule of the digram's rank, and the other words keep their ranks
  module _ (m : ℕ) (ranks' : List ℕ) (new : rank_of ranks' (call_word m) ≡ digram_rank ranks d) where
    replaced_fits : {marks : List Bool} {ws : List ℕ} {ps : List Part} → Parted ranks d marks ws ps → ((w : ℕ) → Memᴰ w ws → KeepsRank m ranks ranks' w)
        → Fits (rank_of ranks') 0 (replaced m ps ws) × (height (rank_of ranks') 0 (replaced m ps ws) ≡ width (rank_of ranks d.b) marks)
    replaced_fits done k = (tt, refl)
    replaced_fits (taken {w} {ws} {ms} {ps} e p) k =
        let x = replaced_fits p (λ v mem. k v (Memᴰ.tail mem)) in
        (x.0, omega (arith, x.1, width_append (rank_of ranks d.b) (replicate (rank_of ranks w) false) ms, width_none (rank_of ranks d.b) (rank_of ranks w), ap (rank_of ranks) e))
    replaced_fits (starting {w} {ws} {ms} {ps} e b p) k =
        let x = replaced_fits p (λ v mem. k v (Memᴰ.tail mem)) in
        let rb : ℕ = rank_of ranks d.b in
        let h : height (rank_of ranks') 0 (replaced m ps ws) ≡ rank_of ranks' (call_word m) + width rb ms =
        omega (
          arith,
          x.1,
          new,
          ap (rank_of ranks) e,
          width_append rb (set (replicate (rank_of ranks w) false) (d.i - 1) true) ms,
          width_one rb (rank_of ranks w) (d.i - 1) (i_under e),
        ) in
        ((omega (arith, h), x.0), omega (arith, h))
    replaced_fits (left {w} {ws} {ms} {ps} p) k =
        let x = replaced_fits p (λ v mem. k v (Memᴰ.tail mem)) in
        let rb : ℕ = rank_of ranks d.b in
        let h : height (rank_of ranks') 0 (replaced m ps ws) ≡ rank_of ranks' (renumbered (up m) w) + width rb ms =
        omega (arith, x.1, k w (Memᴰ.head refl), width_append rb (replicate (rank_of ranks w) false) ms, width_none rb (rank_of ranks w)) in
        ((omega (arith, h), x.0), omega (arith, h))

    -- a body with its occurrences replaced is one complete tree
    pub replaced_tree : (ws : List ℕ) → Tree ranks ws → ((w : ℕ) → Memᴰ w ws → KeepsRank m ranks ranks' w)
        → Tree ranks' (replaced m (parts ranks d [] ws) ws)
    replaced_tree ws t k = replaced_fits (body_parted ranks d from to ws t) k

-- What the words of a replaced body are: calls of the new rule where a and b stand, and other words as they are called now.
abbrev pub Comes : Digram → ℕ → List ℕ → ℕ → Type 0
Comes d m ws v = ((v ≡ call_word m) × Memᴰ d.a ws × Memᴰ d.b ws) ⊎ ((w : ℕ) × Memᴰ w ws × (v ≡ renumbered (up m) w))

comes_later : (d : Digram) (m w : ℕ) (ws : List ℕ) (v : ℕ) → Comes d m ws v → Comes d m (w ∷ ws) v
comes_later d m w ws v (inl x) = inl (x.0, Memᴰ.tail x.1, Memᴰ.tail x.2)
comes_later d m w ws v (inr x) = inr (x.0, Memᴰ.tail x.1, x.2)

-- A word of a body is there as it is called now, or it is a or b.
abbrev pub Stays : Digram → ℕ → List ℕ → ℕ → Type 0
Stays d m vs w = Memᴰ (renumbered (up m) w) vs ⊎ ((w ≡ d.a) ⊎ (w ≡ d.b))

stays_later : (d : Digram) (m v : ℕ) (vs : List ℕ) (w : ℕ) → Stays d m vs w → Stays d m (v ∷ vs) w
stays_later d m v vs w (inl x) = inl (Memᴰ.tail x)
stays_later d m v vs w (inr x) = inr x

module _ (ranks : List ℕ) (d : Digram) (m : ℕ) where
  pub replaced_from : {marks : List Bool} {ws : List ℕ} {ps : List Part} → Parted ranks d marks ws ps → (v : ℕ) → Memᴰ v (replaced m ps ws) → Comes d m ws v
  replaced_from done v mem = absurd (Memᴰ.not-nil mem)
  replaced_from (taken {w} {ws} {ms} {ps} e p) v mem = comes_later d m w ws v (replaced_from p v mem)
  replaced_from (starting {w} {ws} {ms} {ps} e b p) v mem =
      ⊎_elim (λ here. inl (here, Memᴰ.head (sym e), Memᴰ.tail b)) (λ mem'. comes_later d m w ws v (replaced_from p v mem')) (Memᴰ.cases_cons mem)
  replaced_from (left {w} {ws} {ms} {ps} p) v mem =
      ⊎_elim (λ here. inr (w, Memᴰ.head refl, here)) (λ mem'. comes_later d m w ws v (replaced_from p v mem')) (Memᴰ.cases_cons mem)

  pub replaced_keeps : {marks : List Bool} {ws : List ℕ} {ps : List Part} → Parted ranks d marks ws ps → (w : ℕ) → Memᴰ w ws → Stays d m (replaced m ps ws) w
  replaced_keeps done w mem = absurd (Memᴰ.not-nil mem)
  replaced_keeps (taken {w = v} {ws} {ms} {ps} e p) w mem = ⊎_elim (λ here. inr (inr (here ∙ e))) (λ mem'. replaced_keeps p w mem') (Memᴰ.cases_cons mem)
  replaced_keeps (starting {w = v} {ws} {ms} {ps} e b p) w mem =
      ⊎_elim (λ here. inr (inl (here ∙ e))) (λ mem'. stays_later d m (call_word m) (replaced m ps ws) w (replaced_keeps p w mem')) (Memᴰ.cases_cons mem)
  replaced_keeps (left {w = v} {ws} {ms} {ps} p) w mem =
      ⊎_elim (λ here. inl (Memᴰ.head (ap (renumbered (up m)) here))) (λ mem'. stays_later d m (renumbered (up m) v) (replaced m ps ws) w (replaced_keeps p w mem')) (Memᴰ.cases_cons mem)

  pub replaced_new : {marks : List Bool} {ws : List ℕ} {ps : List Part} → Parted ranks d marks ws ps → 0 < uppers ps → Memᴰ (call_word m) (replaced m ps ws)
  replaced_new done h = absurd (omega arith)
  replaced_new (taken {w} {ws} {ms} {ps} e p) h = replaced_new p h
  replaced_new (starting {w} {ws} {ms} {ps} e b p) h = Memᴰ.head refl
  replaced_new (left {w} {ws} {ms} {ps} p) h = Memᴰ.tail (replaced_new p h)

-- where there is an occurrence, a and b stand
pub occurrence_there : (ranks : List ℕ) (d : Digram) {marks : List Bool} {ws : List ℕ} {ps : List Part} → Parted ranks d marks ws ps → 0 < uppers ps
    → Memᴰ d.a ws × Memᴰ d.b ws
occurrence_there ranks d done h = absurd (omega arith)
occurrence_there ranks d (taken {w} {ws} {ms} {ps} e p) h = let x = occurrence_there ranks d p h in (Memᴰ.tail x.0, Memᴰ.tail x.1)
occurrence_there ranks d (starting {w} {ws} {ms} {ps} e b p) h = (Memᴰ.head (sym e), Memᴰ.tail b)
occurrence_there ranks d (left {w} {ws} {ms} {ps} p) h = let x = occurrence_there ranks d p h in (Memᴰ.tail x.0, Memᴰ.tail x.1)

-- the parameters stay, in their order
pub replaced_parameters : (ranks : List ℕ) (d : Digram) (m : ℕ) → is_parameter d.a ≡ false → is_parameter d.b ≡ false → is_parameter (call_word m) ≡ false
    → {marks : List Bool} {ws : List ℕ} {ps : List Part} → Parted ranks d marks ws ps
    → ((w : ℕ) → Memᴰ w ws → those is_parameter (renumbered (up m) w ∷ []) ≡ those is_parameter (w ∷ []))
    → those is_parameter (replaced m ps ws) ≡ those is_parameter ws
replaced_parameters ranks d m na nb nc done k = refl
replaced_parameters ranks d m na nb nc (taken {w} {ws} {ms} {ps} e p) k =
    replaced_parameters ranks d m na nb nc p (λ v mem. k v (Memᴰ.tail mem)) ∙ sym (those_out is_parameter w ws (ap is_parameter e ∙ nb))
replaced_parameters ranks d m na nb nc (starting {w} {ws} {ms} {ps} e b p) k =
    those_out is_parameter (call_word m) (replaced m ps ws) nc
    ∙ replaced_parameters ranks d m na nb nc p (λ v mem. k v (Memᴰ.tail mem))
    ∙ sym (those_out is_parameter w ws (ap is_parameter e ∙ na))
replaced_parameters ranks d m na nb nc (left {w} {ws} {ms} {ps} p) k =
    those_append is_parameter (renumbered (up m) w ∷ []) (replaced m ps ws)
    ∙ ap₂ (λ x y. x ++ y) (k w (Memᴰ.head refl)) (replaced_parameters ranks d m na nb nc p (λ v mem. k v (Memᴰ.tail mem)))
    ∙ sym (those_append is_parameter (w ∷ []) ws)
