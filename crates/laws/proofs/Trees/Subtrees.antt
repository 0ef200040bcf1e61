-- The subtree at a place of a body: its word over its children, what follows it, and what another tree in its place makes.
use Prim.Native.Nat.{ℕ, suc, ◌+◌, ◌<◌}
use mathlib.Core.Path.{◌≡◌, refl, sym, ap, ap₂, subst, ◌∙◌}
use mathlib.Core.List.{List, [], ◌∷◌, ◌++◌, map, append-nil, append_assoc}
use native.Mathlib.Omega.{arith}
use native.Mathlib.Numerals.{add-one}
use lib.ListN.{length, take, drop, get_or, length-map, take-append-drop, drop_of_length-le, get_or-append}
use lib.Seq.{drop-cons, get_or-take, drop-drop, drop_at, drop-append_seam, drop-append-add, take_all, length-take-le}
use Rattle.model.specs.Words.{rank_of}
use Rattle.model.specs.Trees.{push, join, forest, grow, expand}
use Rattle.model.specs.Edits.{splice, subtree, child}
use Rattle.laws.specs.Formed.{height, Fits, Tree}
use Rattle.laws.proofs.Trees.Folds.{height_append, fits_append, fits_split, tree_on, length_forest, forest_join, forest_tree, forest_trees}
use Rattle.laws.proofs.Trees.Expansion.{trees_join}

height_on : (ranks t ys : List ℕ) → Tree ranks t → height (rank_of ranks) 0 (t ++ ys) ≡ suc (height (rank_of ranks) 0 ys)
height_on ranks t ys tree = height_append (rank_of ranks) t ys 0 ∙ (tree_on ranks t (height (rank_of ranks) 0 ys) tree).1

-- a body with a hole that one complete tree fills
pub fits_around : (ranks xs t ys : List ℕ) → Tree ranks t → Fits (rank_of ranks) 0 (xs ++ t ++ ys) → Fits (rank_of ranks) (suc (height (rank_of ranks) 0 ys)) xs × Fits (rank_of ranks) 0 ys
fits_around ranks xs t ys tree f =
    let (g, r) = fits_split (rank_of ranks) xs (t ++ ys) 0 (subst (Fits (rank_of ranks) 0) (append_assoc xs t ys) f) in
    (subst (λ n. Fits (rank_of ranks) n xs) (height_on ranks t ys tree) g, (fits_split (rank_of ranks) t ys 0 r).1)

height_around : (ranks xs t ys : List ℕ) → Tree ranks t → height (rank_of ranks) 0 (xs ++ t ++ ys) ≡ height (rank_of ranks) (suc (height (rank_of ranks) 0 ys)) xs
height_around ranks xs t ys tree =
    ap (height (rank_of ranks) 0) (append_assoc xs t ys) ∙ height_append (rank_of ranks) xs (t ++ ys) 0 ∙ ap (λ n. height (rank_of ranks) n xs) (height_on ranks t ys tree)

pub tree_replaced : (ranks xs t new ys : List ℕ) → Tree ranks t → Tree ranks new → Tree ranks (xs ++ t ++ ys) → Tree ranks (xs ++ new ++ ys)
tree_replaced ranks xs t new ys tree_t tree_new tree =
    let (fx, fy) = fits_around ranks xs t ys tree_t tree.0 in (
      subst (Fits (rank_of ranks) 0) (sym (append_assoc xs new ys))
          (fits_append (rank_of ranks) xs (new ++ ys) 0
          (subst (λ n. Fits (rank_of ranks) n xs) (sym (height_on ranks new ys tree_new)) fx)
          (fits_append (rank_of ranks) new ys 0 (tree_on ranks new (height (rank_of ranks) 0 ys) tree_new).0 fy)),
      height_around ranks xs new ys tree_new ∙ sym (height_around ranks xs t ys tree_t) ∙ tree.1,
    )

-- the subtree at a place: its word over its children
module _ (ranks ws : List ℕ) (i : ℕ) (b : i < length ws) where
  pub subtree_is : subtree ranks i ws ≡ get_or ws i 0 ∷ join (take (rank_of ranks (get_or ws i 0)) (forest ranks (drop (suc i) ws)))
  subtree_is = ap (λ vs. get_or (forest ranks vs) 0 []) (drop-cons ws i 0 b)

  module _ (f : Fits (rank_of ranks) 0 ws) where
    fits_from : Fits (rank_of ranks) 0 (drop i ws)
    fits_from = (fits_split (rank_of ranks) (take i ws) (drop i ws) 0 (subst (Fits (rank_of ranks) 0) (sym (take-append-drop i ws)) f)).1

    pub subtree_tree : Tree ranks (subtree ranks i ws)
    subtree_tree = forest_trees ranks (drop i ws) fits_from 0 (subst (λ vs. 0 < length (forest ranks vs)) (sym (drop-cons ws i 0 b)) (omega arith))

    subtree_drop : drop i ws ≡ subtree ranks i ws ++ join (drop (rank_of ranks (get_or ws i 0)) (forest ranks (drop (suc i) ws)))
    subtree_drop =
        drop-cons ws i 0 b ∙ sym (forest_join ranks (get_or ws i 0 ∷ drop (suc i) ws) (subst (Fits (rank_of ranks) 0) (drop-cons ws i 0 b) fits_from))
        ∙ ap (λ t. t ++ join (drop (rank_of ranks (get_or ws i 0)) (forest ranks (drop (suc i) ws)))) (sym subtree_is)

    -- what follows it
    pub after_subtree : drop (i + length (subtree ranks i ws)) ws ≡ join (drop (rank_of ranks (get_or ws i 0)) (forest ranks (drop (suc i) ws)))
    after_subtree = sym (drop-drop (length (subtree ranks i ws)) i ws) ∙ ap (drop (length (subtree ranks i ws))) subtree_drop
        ∙ drop_at (subtree ranks i ws) (join (drop (rank_of ranks (get_or ws i 0)) (forest ranks (drop (suc i) ws)))) (length (subtree ranks i ws)) refl

    -- put in its own place it changes nothing
    pub subtree_itself : splice i (length (subtree ranks i ws)) (subtree ranks i ws) ws ≡ ws
    subtree_itself =
        ap (λ r. take i ws ++ subtree ranks i ws ++ r) after_subtree
        ∙ append_assoc (take i ws) (subtree ranks i ws) (join (drop (rank_of ranks (get_or ws i 0)) (forest ranks (drop (suc i) ws))))
        ∙ ap (λ r. take i ws ++ r) (sym subtree_drop)
        ∙ take-append-drop i ws

    -- its children
    pub children_many : length (take (rank_of ranks (get_or ws i 0)) (forest ranks (drop (suc i) ws))) ≡ rank_of ranks (get_or ws i 0)
    children_many = length-take-le (rank_of ranks (get_or ws i 0)) (forest ranks (drop (suc i) ws)) (rw length_forest (subst (Fits (rank_of ranks) 0) (drop-cons ws i 0 b) fits_from).0)

    pub child_tree : (c : ℕ) → c < rank_of ranks (get_or ws i 0) → Tree ranks (get_or (take (rank_of ranks (get_or ws i 0)) (forest ranks (drop (suc i) ws))) c [])
    child_tree c h =
        rw (get_or-take (rank_of ranks (get_or ws i 0)) (forest ranks (drop (suc i) ws)) c [] h)
        (forest_trees ranks (drop (suc i) ws) (subst (Fits (rank_of ranks) 0) (drop-cons ws i 0 b) fits_from).1 c
        (omega (arith, length_forest ranks (drop (suc i) ws), (subst (Fits (rank_of ranks) 0) (drop-cons ws i 0 b) fits_from).0)))

-- the expansion of a word over its children
pub expand_over : (ranks : List ℕ) (lower : List (List ℕ)) (w : ℕ) (ts : List (List ℕ)) → length ts ≡ rank_of ranks w → ((i : ℕ) → i < length ts → Tree ranks (get_or ts i []))
    → expand ranks lower (w ∷ join ts) ≡ grow (λ v. v) lower w (map (expand ranks lower) ts)
expand_over ranks lower w ts e at =
    ap (λ st. join (push (rank_of ranks) (grow (λ v. v) lower) w st)) (trees_join (λ v. v) (λ w v. v) ranks lower ts [] at ∙ append-nil (map (expand ranks lower) ts))
    ∙ ap₂ (λ a d. grow (λ v. v) lower w a ++ join d)
    (take_all (rank_of ranks w) (map (expand ranks lower) ts) (omega (arith, length-map ts (expand ranks lower))))
    (drop_of_length-le (map (expand ranks lower) ts) {i = rank_of ranks w} (omega (arith, length-map ts (expand ranks lower))))
    ∙ append-nil (grow (λ v. v) lower w (map (expand ranks lower) ts))

pub subtree_expands : (ranks : List ℕ) (lower : List (List ℕ)) (ws : List ℕ) (i : ℕ) → i < length ws → Fits (rank_of ranks) 0 ws
    → expand ranks lower (subtree ranks i ws) ≡ grow (λ v. v) lower (get_or ws i 0) (map (expand ranks lower) (take (rank_of ranks (get_or ws i 0)) (forest ranks (drop (suc i) ws))))
subtree_expands ranks lower ws i b f =
    ap (expand ranks lower) (subtree_is ranks ws i b)
    ∙ expand_over ranks lower (get_or ws i 0) (take (rank_of ranks (get_or ws i 0)) (forest ranks (drop (suc i) ws))) (children_many ranks ws i b f)
    (λ c h. child_tree ranks ws i b f c (omega (arith, children_many ranks ws i b f)))

-- what stands as one complete tree between others is the subtree there
pub subtree_between : (ranks xs t ys : List ℕ) → Tree ranks t → subtree ranks (length xs) (xs ++ t ++ ys) ≡ t
subtree_between ranks xs t ys tree =
    ap (λ vs. get_or (forest ranks vs) 0 []) (ap (drop (length xs)) (append_assoc xs t ys) ∙ drop-append_seam xs (t ++ ys)) ∙ ap (λ ts. get_or ts 0 []) (forest_tree ranks t ys tree)

-- and the trees under its first word are the children there
pub forest_of_trees : (ranks : List ℕ) (ts : List (List ℕ)) (ys : List ℕ) → ((i : ℕ) → i < length ts → Tree ranks (get_or ts i [])) → forest ranks (join ts ++ ys) ≡ ts ++ forest ranks ys
forest_of_trees ranks [] ys at = refl
forest_of_trees ranks (t ∷ ts) ys at =
    ap (forest ranks) (append_assoc t (join ts) ys) ∙ forest_tree ranks t (join ts ++ ys) (at 0 (omega arith))
    ∙ ap (λ us. t ∷ us) (forest_of_trees ranks ts ys (λ i h. at (suc i) (omega arith)))

pub child_between : (ranks xs : List ℕ) (w : ℕ) (ts : List (List ℕ)) (ys : List ℕ) → ((i : ℕ) → i < length ts → Tree ranks (get_or ts i []))
    → (c : ℕ) → c < length ts → child ranks (suc c) (length xs) (xs ++ (w ∷ join ts) ++ ys) ≡ get_or ts c []
child_between ranks xs w ts ys at c h =
    ap₂ (λ vs n. get_or (forest ranks vs) n [])
    (ap₂ (λ n vs. drop n vs) (sym (add-one (length xs))) (append_assoc xs (w ∷ join ts) ys) ∙ drop-append-add xs ((w ∷ join ts) ++ ys) 1)
    (omega arith)
    ∙ ap (λ us. get_or us c []) (forest_of_trees ranks ts ys at) ∙ get_or-append ts (forest ranks ys) [] c h
