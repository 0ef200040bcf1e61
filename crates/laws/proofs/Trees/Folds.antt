-- Laws of reading words from the right as a stack of trees, for every meaning that a tree may have.
use Prim.Native.Nat.{ℕ, zero, suc, ◌+◌, ◌-◌, ◌≤◌, ◌<◌}
use mathlib.Core.Path.{◌≡◌, refl, sym, ap, ap₂, subst, ◌∙◌}
use mathlib.Core.Bool.{Bool, true, false}
use mathlib.Core.List.{List, [], ◌∷◌, ◌++◌, map, append-nil, append_assoc}
use native.Mathlib.Nat.{zero-add}
use native.Mathlib.Omega.{arith}
use lib.Dec.{T, leb, eqb, leb→le, le→leb, eqb→eq, eqb_refl}
use lib.Ieee.Fits.{and_i, and_l, and_r}
use lib.ListN.{length, take, drop, get_or, length-append, length-drop}
use lib.Seq.{take-append-le, drop-append-le, take-append-add, drop-append-add, get_or-take, get_or-drop, length-take-le}
use borrow.Author.Tests.{leb-true, leb-false}
use Rattle.model.specs.Words.{rank_of}
use Rattle.model.specs.Trees.{push, fold, join, forest, roots, children_there, is_tree}
use Rattle.laws.specs.Formed.{height, Fits, Tree, Linear}
use Rattle.laws.proofs.Words.Lists.{map_take, map_drop, join_parts}

module _ {W A : Type 0} (rk : W → ℕ) (make : W → List A → A) where
  pub fold_append : (xs ys : List W) (st : List A) → fold rk make (xs ++ ys) st ≡ fold rk make xs (fold rk make ys st)
  fold_append [] ys st = refl
  fold_append (x ∷ xs) ys st = ap (push rk make x) (fold_append xs ys st)

  pub length_fold : (ws : List W) (st : List A) → length (fold rk make ws st) ≡ height rk (length st) ws
  length_fold [] st = refl
  length_fold (w ∷ ws) st = ap suc (length-drop (rk w) (fold rk make ws st) ∙ ap (λ h. h - rk w) (length_fold ws st))

  -- what lies deeper in the stack than the words reach stays
  pub fold_deep : (ws : List W) (st more : List A) → Fits rk (length st) ws → fold rk make ws (st ++ more) ≡ fold rk make ws st ++ more
  fold_deep [] st more f = refl
  fold_deep (w ∷ ws) st more f =
      let there : rk w ≤ length (fold rk make ws st) = rw length_fold f.0 in
      ap (push rk make w) (fold_deep ws st more f.1)
      ∙ ap₂ (λ ts ds. make w ts ∷ ds) (take-append-le (rk w) (fold rk make ws st) more there) (drop-append-le (rk w) (fold rk make ws st) more there)

-- the same reading under another meaning
pub map_fold : {W A B : Type 0} (rk : W → ℕ) (make : W → List A → A) (make' : W → List B → B) (g : A → B)
    → ((w : W) (ts : List A) → g (make w ts) ≡ make' w (map g ts))
    → (ws : List W) (st : List A) → map g (fold rk make ws st) ≡ fold rk make' ws (map g st)
map_fold rk make make' g e [] st = refl
map_fold rk make make' g e (w ∷ ws) st =
    ap₂ (λ t ds. t ∷ ds) (e w (take (rk w) (fold rk make ws st)) ∙ ap (make' w) (map_take g (rk w) (fold rk make ws st))) (map_drop g (rk w) (fold rk make ws st))
    ∙ ap (push rk make' w) (map_fold rk make make' g e ws st)

-- the same reading of other words with the same ranks and meanings
pub fold_map : {X W A : Type 0} (f : X → W) (rk : W → ℕ) (make : W → List A → A) (vs : List X) (st : List A)
    → fold rk make (map f vs) st ≡ fold (λ v. rk (f v)) (λ v. make (f v)) vs st
fold_map f rk make [] st = refl
fold_map f rk make (v ∷ vs) st = ap (push rk make (f v)) (fold_map f rk make vs st)

pub height_append : {W : Type 0} (rk : W → ℕ) (xs ys : List W) (h : ℕ) → height rk h (xs ++ ys) ≡ height rk (height rk h ys) xs
height_append rk [] ys h = refl
height_append rk (x ∷ xs) ys h = ap (λ n. suc (n - rk x)) (height_append rk xs ys h)

pub fits_append : {W : Type 0} (rk : W → ℕ) (xs ys : List W) (h : ℕ) → Fits rk (height rk h ys) xs → Fits rk h ys → Fits rk h (xs ++ ys)
fits_append rk [] ys h f g = g
fits_append rk (x ∷ xs) ys h f g = (rw (height_append rk xs ys h) f.0, fits_append rk xs ys h f.1 g)

pub fits_split : {W : Type 0} (rk : W → ℕ) (xs ys : List W) (h : ℕ) → Fits rk h (xs ++ ys) → Fits rk (height rk h ys) xs × Fits rk h ys
fits_split rk [] ys h f = (tt, f)
fits_split rk (x ∷ xs) ys h f = let r = fits_split rk xs ys h f.1 in ((rw (height_append rk xs ys h) at f.0, r.0), r.1)

-- words that fit on h fit on more, and the height is as much more
pub fits_more : {W : Type 0} (rk : W → ℕ) (ws : List W) (h d : ℕ) → Fits rk h ws → Fits rk (h + d) ws × (height rk (h + d) ws ≡ height rk h ws + d)
fits_more rk [] h d f = (tt, refl)
fits_more rk (w ∷ ws) h d f =
    let (g, e) = fits_more rk ws h d f.1 in
    let here : rk w ≤ height rk h ws = f.0 in
    ((omega arith, g), omega arith)

-- one more word over a stack of which one tree is open
context_push : {A : Type 0} (k : ℕ) (f : List (List A) → List A) → Linear k f
    → (before : List (List A)) (P S : List A) (after : List (List A)) → k ≤ length before + suc (length after)
    → (before' : List (List A)) × (P' : List A) × (S' : List A) × (after' : List (List A))
    × ((t : List A) → f (take k (before ++ (P ++ t ++ S) ∷ after)) ∷ drop k (before ++ (P ++ t ++ S) ∷ after) ≡ before' ++ (P' ++ t ++ S') ∷ after')
context_push {A} k f lin before P S after long = go (leb k (length before)) refl
  where
    Goal : Type 0
    Goal =
        (before' : List (List A)) × (P' : List A) × (S' : List A) × (after' : List (List A))
        × ((t : List A) → f (take k (before ++ (P ++ t ++ S) ∷ after)) ∷ drop k (before ++ (P ++ t ++ S) ∷ after) ≡ before' ++ (P' ++ t ++ S') ∷ after')

    -- the open tree is among the word's children, m of those after it as well
    over : (m : ℕ) → k ≡ length before + suc m → length before + suc (length (take m after)) ≡ k → Goal
    over m k-is below =
        let (P', S', e') = lin before (take m after) below in (
          [],
          P' ++ P,
          S ++ S',
          drop m after,
          λ t. ap (λ n. f (take n (before ++ (P ++ t ++ S) ∷ after)) ∷ drop n (before ++ (P ++ t ++ S) ∷ after)) k-is
              ∙ ap₂ (λ ts ds. f ts ∷ ds) (take-append-add before ((P ++ t ++ S) ∷ after) (suc m)) (drop-append-add before ((P ++ t ++ S) ∷ after) (suc m))
              ∙ ap (λ u. u ∷ drop m after) (e' (P ++ t ++ S) ∙ simp append_assoc),
        )

    go : (b : Bool) → leb k (length before) ≡ b → Goal
    go true e = (
      f (take k before) ∷ drop k before,
      P,
      S,
      after,
      λ t. ap₂ (λ ts ds. f ts ∷ ds)
          (take-append-le k before ((P ++ t ++ S) ∷ after) (leb-true k (length before) e))
          (drop-append-le k before ((P ++ t ++ S) ∷ after) (leb-true k (length before) e)),
    )
    go false e =
        let more : length before < k = leb-false k (length before) e in
        over (k - suc (length before)) (omega arith) (omega (arith, length-take-le (k - suc (length before)) after (omega arith)))

-- one complete tree adds one to every stack
pub tree_on : (ranks t : List ℕ) (h : ℕ) → Tree ranks t → Fits (rank_of ranks) h t × (height (rank_of ranks) h t ≡ suc h)
tree_on ranks t h f =
    let (g, e) = fits_more (rank_of ranks) t 0 h f.0 in (
      subst (λ n. Fits (rank_of ranks) n t) (zero-add h) g,
      ap (λ n. height (rank_of ranks) n t) (sym (zero-add h)) ∙ e ∙ omega (arith, f.1),
    )

-- one more tree in front
pub tree_front : (ranks : List ℕ) (h : ℕ) (t ws : List ℕ) → Tree ranks t → Fits (rank_of ranks) h ws
    → Fits (rank_of ranks) h (t ++ ws) × (height (rank_of ranks) h (t ++ ws) ≡ suc (height (rank_of ranks) h ws))
tree_front ranks h t ws tree f =
    let (g, e) = tree_on ranks t (height (rank_of ranks) h ws) tree in
    (fits_append (rank_of ranks) t ws h g f, height_append (rank_of ranks) t ws h ∙ e)

pub height_map : {X W : Type 0} (f : X → W) (rk : W → ℕ) (h : ℕ) (vs : List X) → height rk h (map f vs) ≡ height (λ v. rk (f v)) h vs
height_map f rk h [] = refl
height_map f rk h (v ∷ vs) = ap (λ n. suc (n - rk (f v))) (height_map f rk h vs)

pub fits_map : {X W : Type 0} (f : X → W) (rk : W → ℕ) (h : ℕ) (vs : List X) → Fits rk h (map f vs) → Fits (λ v. rk (f v)) h vs
fits_map f rk h [] g = tt
fits_map f rk h (v ∷ vs) g = (rw (height_map f rk h vs) at g.0, fits_map f rk h vs g.1)

context_over : {W A : Type 0} (rk : W → ℕ) (make : W → List (List A) → List A) (x : W) → Linear (rk x) (make x)
    → (F : List A → List (List A)) (before : List (List A)) (P S : List A) (after : List (List A)) → ((t : List A) → F t ≡ before ++ (P ++ t ++ S) ∷ after)
    → rk x ≤ length before + suc (length after)
    → (before' : List (List A)) × (P' : List A) × (S' : List A) × (after' : List (List A)) × ((t : List A) → push rk make x (F t) ≡ before' ++ (P' ++ t ++ S') ∷ after')
context_over rk make x lin F before P S after e long =
    let c = context_push (rk x) (make x) lin before P S after long in
    (c.0, c.1, c.2, c.3, λ t. ap (push rk make x) (e t) ∙ c.4 t)

-- One tree of the stack, wherever the words before it put it: what stands before and after it in the result does not depend on it.
pub context : {W A : Type 0} (rk : W → ℕ) (make : W → List (List A) → List A) → ((w : W) → Linear (rk w) (make w))
    → (xs : List W) (rest : List (List A)) → Fits rk (suc (length rest)) xs
    → (before : List (List A)) × (P : List A) × (S : List A) × (after : List (List A))
    × ((t : List A) → fold rk make xs (t ∷ rest) ≡ before ++ (P ++ t ++ S) ∷ after)
context rk make lin [] rest f = ([], [], [], rest, λ t. ap (λ u. u ∷ rest) (sym (append-nil t)))
context {A = A} rk make lin (x ∷ xs) rest f =
    let (before, P, S, after, e) = context rk make lin xs rest f.1 in
    let long : rk x ≤ length before + suc (length after) =
    omega (arith, f.0, length_fold rk make xs ([] ∷ rest), ap length (e []), length-append before ((P ++ [] ++ S) ∷ after)) in
    context_over rk make x (lin x) (λ t. fold rk make xs (t ∷ rest)) before P S after e long

length_roots : (ranks ws : List ℕ) → length (roots ranks ws) ≡ height (rank_of ranks) 0 ws
length_roots ranks ws = length_fold (rank_of ranks) (λ w trees. w) ws []

-- the model's tests and these notions
pub children_there_fits : (ranks ws : List ℕ) → T (children_there ranks ws) → Fits (rank_of ranks) 0 ws
children_there_fits ranks [] t = tt
children_there_fits ranks (w ∷ ws) t = (
  rw length_roots at (leb→le (rank_of ranks w) (length (roots ranks ws)) (and_l (leb (rank_of ranks w) (length (roots ranks ws))) (children_there ranks ws) t)),
  children_there_fits ranks ws (and_r (leb (rank_of ranks w) (length (roots ranks ws))) (children_there ranks ws) t),
)

pub fits_children_there : (ranks ws : List ℕ) → Fits (rank_of ranks) 0 ws → T (children_there ranks ws)
fits_children_there ranks [] f = tt
fits_children_there ranks (w ∷ ws) f =
    and_i (leb (rank_of ranks w) (length (roots ranks ws))) (children_there ranks ws)
    (le→leb (rank_of ranks w) (length (roots ranks ws)) (rw length_roots f.0))
    (fits_children_there ranks ws f.1)

pub is_tree_tree : (ranks ws : List ℕ) → T (is_tree ranks ws) → Tree ranks ws
is_tree_tree ranks ws t = (
  children_there_fits ranks ws (and_l (children_there ranks ws) (eqb (length (roots ranks ws)) 1) t),
  sym (length_roots ranks ws) ∙ eqb→eq (length (roots ranks ws)) 1 (and_r (children_there ranks ws) (eqb (length (roots ranks ws)) 1) t),
)

pub tree_is_tree : (ranks ws : List ℕ) → Tree ranks ws → T (is_tree ranks ws)
tree_is_tree ranks ws t =
    and_i (children_there ranks ws) (eqb (length (roots ranks ws)) 1) (fits_children_there ranks ws t.0)
    (rw (length_roots ranks ws ∙ t.1) (eqb_refl 1))

-- the trees of a list of words, one after the other, are the words
pub forest_join : (ranks ws : List ℕ) → Fits (rank_of ranks) 0 ws → join (forest ranks ws) ≡ ws
forest_join ranks [] f = refl
forest_join ranks (w ∷ ws) f =
    ap (λ r. w ∷ r)
    (join_parts (rank_of ranks w) (forest ranks ws) ∙ forest_join ranks ws f.1)

-- one complete tree is a forest of its own
pub forest_one : (ranks t : List ℕ) → Tree ranks t → forest ranks t ≡ t ∷ []
forest_one ranks t f = go (forest ranks t) (length_fold (rank_of ranks) (λ w trees. w ∷ join trees) t [] ∙ f.1) (forest_join ranks t f.0)
  where
    go : (ts : List (List ℕ)) → length ts ≡ 1 → join ts ≡ t → ts ≡ t ∷ []
    go [] e j = absurd (let z : ◌≡◌ {A = ℕ} 0 1 = e in omega arith)
    go (u ∷ []) e j = ap (λ x. x ∷ []) (sym (append-nil u) ∙ j)
    go (u ∷ v ∷ ts) e j = absurd (omega arith)

-- a complete tree in front is the first of the forest
pub forest_tree : (ranks t ws : List ℕ) → Tree ranks t → forest ranks (t ++ ws) ≡ t ∷ forest ranks ws
forest_tree ranks t ws f =
    fold_append (rank_of ranks) over t ws []
    ∙ fold_deep (rank_of ranks) over t [] (forest ranks ws) f.0
    ∙ ap (λ u. u ++ forest ranks ws) (forest_one ranks t f)
  where
    over : ℕ → List (List ℕ) → List ℕ
    over w trees = w ∷ join trees

-- complete trees one after the other are as many as they are
pub trees_fit : (ranks : List ℕ) (ts : List (List ℕ)) → ((i : ℕ) → i < length ts → Tree ranks (get_or ts i []))
    → Fits (rank_of ranks) 0 (join ts) × (height (rank_of ranks) 0 (join ts) ≡ length ts)
trees_fit ranks [] at = (tt, refl)
trees_fit ranks (t ∷ ts) at =
    let (f, e) = trees_fit ranks ts (λ i h. at (suc i) (omega arith)) in
    let (g, e') = tree_on ranks t (height (rank_of ranks) 0 (join ts)) (at 0 (omega arith)) in
    (fits_append (rank_of ranks) t (join ts) 0 g f, height_append (rank_of ranks) t (join ts) 0 ∙ e' ∙ ap suc e)

-- a word over its children, each a complete tree, is one
pub tree_over : (ranks : List ℕ) (w : ℕ) (ts : List (List ℕ)) → length ts ≡ rank_of ranks w → ((i : ℕ) → i < length ts → Tree ranks (get_or ts i []))
    → Tree ranks (w ∷ join ts)
tree_over ranks w ts e at = let (f, h) = trees_fit ranks ts at in ((omega arith, f), omega arith)

pub length_forest : (ranks ws : List ℕ) → length (forest ranks ws) ≡ height (rank_of ranks) 0 ws
length_forest ranks ws = length_fold (rank_of ranks) (λ w trees. w ∷ join trees) ws []

-- every tree of a forest is a complete tree
pub forest_trees : (ranks ws : List ℕ) → Fits (rank_of ranks) 0 ws → (i : ℕ) → i < length (forest ranks ws) → Tree ranks (get_or (forest ranks ws) i [])
forest_trees ranks [] f i h = absurd (omega arith)
forest_trees ranks (w ∷ ws) f zero h =
    tree_over ranks w (take (rank_of ranks w) (forest ranks ws)) many
    (λ i b. rw (get_or-take (rank_of ranks w) (forest ranks ws) i [] (omega (arith, many)))
    (forest_trees ranks ws f.1 i (omega (arith, many, length_forest ranks ws, f.0))))
  where
    many : length (take (rank_of ranks w) (forest ranks ws)) ≡ rank_of ranks w
    many = length-take-le (rank_of ranks w) (forest ranks ws) (rw length_forest f.0)
forest_trees ranks (w ∷ ws) f (suc i) h =
    rw (get_or-drop (rank_of ranks w) (forest ranks ws) i [])
    (forest_trees ranks ws f.1 (rank_of ranks w + i) (omega (arith, length-drop (rank_of ranks w) (forest ranks ws))))
