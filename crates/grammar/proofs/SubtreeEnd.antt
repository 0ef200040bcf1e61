-- The end of a subtree, found from the left: the words of the trees still due at a place end where the subtree does.
use Prim.Native.Nat.{ℕ, suc, ◌+◌, ◌-◌, ◌≤◌, ◌<◌}
use mathlib.Core.Path.{◌≡◌, sym, ap, subst, ◌∙◌}
use mathlib.Core.Bool.{true}
use mathlib.Core.List.{List, [], ◌∷◌, ◌++◌, append-nil}
use native.Mathlib.Omega.{arith}
use native.Mathlib.Decide.{dec_lt}
use lib.ListN.{length, take, drop, get_or, take-append-drop, drop_of_length-le, length-drop}
use lib.Seq.{drop-cons, take-add}
use Rattle.model.specs.Words.{rank_of}
use Rattle.model.specs.Trees.{join, forest, is_tree}
use Rattle.model.specs.Edits.{subtree}
use Rattle.laws.specs.Formed.{Fits}
use Rattle.laws.proofs.Words.Lists.{join_append}
use Rattle.laws.proofs.Trees.Folds.{fits_split, is_tree_tree, length_forest}

-- so many of the trees that a list of words is are due, and all their words are n
pub record Due (ranks ws : List ℕ) (due n : ℕ) : Type 0 where
  pub there : due ≤ length (forest ranks ws)
  pub words : length (join (take due (forest ranks ws))) ≡ n

first_alone : (ts : List (List ℕ)) → 0 < length ts → length (join (take 1 ts)) ≡ length (get_or ts 0 [])
first_alone [] h = absurd (omega arith)
first_alone (t ∷ ts) h = ap length (append-nil t)

-- past a word its tree is no longer due, its children's are
due_past : (ranks : List ℕ) (w : ℕ) (ws : List ℕ) (due n : ℕ) → Fits (rank_of ranks) 0 (w ∷ ws) → Due ranks (w ∷ ws) (suc due) n
    → Due ranks ws (rank_of ranks w + due) (n - 1) × (1 ≤ n)
due_past ranks w ws due n f d =
    let parts : length (join (take (k + due) ts)) ≡ length (join (take k ts) ++ join (take due (drop k ts)))
    = ap length (ap join (take-add k due ts) ∙ join_append (take k ts) (take due (drop k ts))) in
    (record { there = omega (arith, length-drop k ts, d.there, f.0, length_forest ranks ws); words = omega (arith, d.words) }, omega (arith, d.words))
  where
    k : ℕ
    k = rank_of ranks w

    ts : List (List ℕ)
    ts = forest ranks ws

-- at place i of ws so many trees are due, and their words end at e
abbrev pub DueTo : List ℕ → List ℕ → ℕ → ℕ → ℕ → Type 0
DueTo ranks ws e i due = Due ranks (drop i ws) due (e - i) × (i ≤ e)

module _ (ranks ws : List ℕ) (tree : is_tree ranks ws ≡ true) where
  fits_from : (i : ℕ) → Fits (rank_of ranks) 0 (drop i ws)
  fits_from i = (fits_split (rank_of ranks) (take i ws) (drop i ws) 0 (rw take-append-drop (is_tree_tree ranks ws (rw tree tt)).0)).1

  pub due_first : (i : ℕ) → i < length ws → DueTo ranks ws (i + length (subtree ranks i ws)) i 1
  due_first i h =
      let some : 0 < length (forest ranks (drop i ws)) = rw (drop-cons ws i 0 h) (omega arith) in
      (record { there = some; words = omega (arith, first_alone (forest ranks (drop i ws)) some) }, omega arith)

  pub due_next : (e i due w : ℕ) → DueTo ranks ws e i due → 0 < due → drop i ws ≡ w ∷ drop (i + 1) ws → (i' due' : ℕ) → i' ≡ i + 1 → due' + 1 ≡ due + rank_of ranks w → DueTo ranks ws e i' due'
  due_next e i due w d p q i' due' f g =
      let more : due ≡ suc (due - 1) = omega arith in
      let s = due_past ranks w (drop (i + 1) ws) (due - 1) (e - i) (subst (Fits (rank_of ranks) 0) q (fits_from i))
      (subst (λ n. Due ranks (w ∷ drop (i + 1) ws) n (e - i)) more (subst (λ vs. Due ranks vs due (e - i)) q d.0)) in
      let k : rank_of ranks w + (due - 1) ≡ due' = omega arith in
      let n : e - i - 1 ≡ e - i' = omega arith in
      (subst (λ j. Due ranks (drop j ws) due' (e - i')) (sym f) (subst (λ m. Due ranks (drop (i + 1) ws) due' m) n (subst (λ m. Due ranks (drop (i + 1) ws) m (e - i - 1)) k s.0)), omega (arith, s.1))

  pub due_inside : (e i due : ℕ) → DueTo ranks ws e i due → 0 < due → i < length ws
  due_inside e i due d p = go (dec_lt i (length ws))
    where
      go : Dec (i < length ws) → i < length ws
      go (yes h) = h
      go (no h) = let z : due ≤ 0 = subst (λ vs. due ≤ length (forest ranks vs)) (drop_of_length-le ws {i = i} (omega arith)) d.0.there in absurd (omega arith)

  pub due_none : (e i : ℕ) → DueTo ranks ws e i 0 → i ≡ e
  due_none e i d = omega (arith, d.0.words)
