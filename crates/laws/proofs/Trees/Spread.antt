-- Laws of words that carry something: which word of a body produces a node of its expansion, and opening a call.
use Prim.Native.Nat.{ℕ, suc, ◌+◌, ◌-◌, ◌≤◌, ◌<◌}
use native.Mathlib.Omega.{arith}
use native.Mathlib.Nat.{zero-add, add-zero, add-suc, suc-add}
use mathlib.Core.Path.{◌≡◌, refl, sym, ap, ap₂, ◌∙◌}
use mathlib.Core.List.{List, [], ◌∷◌, ◌++◌, map, append-nil, map-append}
use lib.ListN.{length, take, drop, get_or, length-drop, get_or-map}
use lib.Seq.{get_or-drop, get_or-take}
use Rattle.model.specs.Words.{Class, empty, label, parameter, call, illegal, class_of, when_parameter, rank_of, is_parameter}
use Rattle.model.specs.Trees.{push, join, fill, grow, those, parameters, expand, placed, owners}
use Rattle.laws.specs.Formed.{Fits, Tree}
use Rattle.laws.proofs.Trees.Folds.{fold_append, map_fold, fold_map, height_map}
use Rattle.laws.proofs.Trees.Expansion.{trees, spread, TreeBy, trees_join, trees_fill}
use Rattle.laws.proofs.Words.Lists.{map_take, map_drop}

pub map_join : {A B : Type 0} (g : A → B) (ts : List (List A)) → map g (join ts) ≡ join (map (map g) ts)
map_join g [] = refl
map_join {B = B} g (t ∷ ts) = map-append g t (join ts) ∙ ap (λ (l : List B). map g t ++ l) (map_join g ts)

-- other nodes in the place of the nodes
pub map_fill : {A B : Type 0} (g : A → B) (ν : ℕ → A) (children : List (List A)) (ws : List ℕ)
    → map g (fill ν children ws) ≡ fill (λ v. g (ν v)) (map (map g) children) ws
map_fill g ν children [] = refl
map_fill {A} {B} g ν children (w ∷ ws) =
    map-append g (when_parameter (ν w ∷ []) (λ i. get_or children (i - 1) []) w) (fill ν children ws)
    ∙ ap₂ ◌++◌ (go (class_of w) refl) (map_fill g ν children ws)
  where
    go : (c : Class) → class_of w ≡ c
        → map g (when_parameter (ν w ∷ []) (λ i. get_or children (i - 1) []) w) ≡ when_parameter (g (ν w) ∷ []) (λ i. get_or (map (map g) children) (i - 1) []) w
    go empty c = simp c
    go label c = simp c
    go (parameter i) c = simp c (sym (get_or-map (map g) children (i - 1) []))
    go (call j) c = simp c
    go illegal c = simp c

pub map_grow : {A B : Type 0} (g : A → B) (ν : ℕ → A) (lower : List (List ℕ)) (w : ℕ) (ts : List (List A))
    → map g (grow ν lower w ts) ≡ grow (λ v. g (ν v)) lower w (map (map g) ts)
map_grow g ν lower w ts = go (class_of w) refl
  where
    go : (c : Class) → class_of w ≡ c → map g (grow ν lower w ts) ≡ grow (λ v. g (ν v)) lower w (map (map g) ts)
    go (call j) c = simp c (map_fill g ν ts (get_or lower j []))
    go (parameter n) c = simp (c, map_join)
    go empty c = simp (c, map_join)
    go label c = simp (c, map_join)
    go illegal c = simp (c, map_join)

module _ {X A : Type 0} (word : X → ℕ) (node : X → ℕ → A) (ranks : List ℕ) (lower : List (List ℕ)) where
  pub map_spread : {B : Type 0} (g : A → B) (xs : List X) → map g (spread word node ranks lower xs) ≡ spread word (λ x v. g (node x v)) ranks lower xs
  map_spread g xs =
      map_join g (trees word node ranks lower xs [])
      ∙ ap join (map_fold (λ x. rank_of ranks (word x)) (λ x. grow (node x) lower (word x)) (λ x. grow (λ v. g (node x v)) lower (word x)) (map g)
      (λ x ts. map_grow g (node x) lower (word x) ts) xs [])

  pub spread_map : {Y : Type 0} (f : Y → X) (ys : List Y) → spread word node ranks lower (map f ys) ≡ spread (λ y. word (f y)) (λ y. node (f y)) ranks lower ys
  spread_map f ys = ap join (fold_map f (λ x. rank_of ranks (word x)) (λ x. grow (node x) lower (word x)) ys [])

module _ {X : Type 0} (word : X → ℕ) (ranks : List ℕ) (lower : List (List ℕ)) where
  own_placed : (at : ℕ → X) (s : ℕ) (d : X) (xs : List X) (st : List (List X)) → ((i : ℕ) → i < length xs → at (s + i) ≡ get_or xs i d)
      → trees (λ (y : ℕ × ℕ). y.1) (λ (y : ℕ × ℕ) v. at y.0) ranks lower (placed s (map word xs)) st ≡ trees word (λ x v. x) ranks lower xs st
  own_placed at s d [] st e = refl
  own_placed at s d (x ∷ xs) st e =
      ap₂ (λ (a : X) (l : List (List X)). grow (λ v. a) lower (word x) (take (rank_of ranks (word x)) l) ∷ drop (rank_of ranks (word x)) l)
      (rw add-zero at (e 0 (omega arith)))
      (own_placed at (suc s) d xs st (λ i h. rw (suc-add, ← add-suc) (e (suc i) (omega arith))))

  -- the word at the place of a node's owner is the word that gives itself to the node
  pub own_owners : (d : X) (xs : List X) → map (λ q. get_or xs q d) (owners ranks lower (map word xs)) ≡ spread word (λ x v. x) ranks lower xs
  own_owners d xs =
      map_spread (λ (y : ℕ × ℕ). y.1) (λ (y : ℕ × ℕ) v. y.0) ranks lower (λ q. get_or xs q d) (placed 0 (map word xs))
      ∙ ap join (own_placed (λ q. get_or xs q d) 0 d xs [] (λ i h. rw zero-add))

fits_mapped : {X Y : Type 0} (f : Y → X) (rk : X → ℕ) (h : ℕ) (ys : List Y) → Fits (λ y. rk (f y)) h ys → Fits rk h (map f ys)
fits_mapped f rk h [] t = tt
fits_mapped f rk h (y ∷ ys) t = (rw (height_map f rk h ys) t.0, fits_mapped f rk h ys t.1)

pub tree_by_map : {X Y : Type 0} (f : Y → X) (word : X → ℕ) (ranks : List ℕ) (ys : List Y) → TreeBy (λ y. word (f y)) ranks ys → TreeBy word ranks (map f ys)
tree_by_map f word ranks ys t = (fits_mapped f (λ x. rank_of ranks (word x)) 0 ys t.0, height_map f (λ x. rank_of ranks (word x)) 0 ys ∙ t.1)

-- Opening: a call's body, with its children put in, in the call's place
module _ {X A : Type 0} (word : X → ℕ) (node : X → ℕ → A) (ranks : List ℕ) (lower : List (List ℕ))
    (mk : ℕ → X) (ν : ℕ → A) (word_mk : (v : ℕ) → word (mk v) ≡ v) (node_mk : (v : ℕ) → node (mk v) ≡ ν) where
  pub spread_open : (before : List X) (x : X) (ts : List (List X)) (j : ℕ) (body : List ℕ)
      → class_of (word x) ≡ call j → node x ≡ ν
      → ((i : ℕ) → i < length ts → TreeBy word ranks (get_or ts i [])) → get_or ranks j 0 ≤ length ts
      → Tree ranks body → those is_parameter body ≡ parameters (get_or ranks j 0) → get_or lower j [] ≡ expand ranks lower body
      → spread word node ranks lower (before ++ fill mk (take (get_or ranks j 0) ts) body ++ join (drop (get_or ranks j 0) ts))
      ≡ spread word node ranks lower (before ++ x ∷ join ts)
  spread_open before x ts j body c n at h t e E =
      ap join
      (fold_append rk make (before ++ put_in) rest [] ∙ fold_append rk make before put_in (trees word node ranks lower rest [])
      ∙ ap (λ (l : List (List A)). trees word node ranks lower before l) opened
      ∙ sym (fold_append rk make before (x ∷ join ts) []))
    where
      rk : X → ℕ
      rk x = rank_of ranks (word x)

      make : X → List (List A) → List A
      make x = grow (node x) lower (word x)

      S : List X → List A
      S = spread word node ranks lower

      k : ℕ
      k = get_or ranks j 0

      put_in : List X
      put_in = fill mk (take k ts) body

      rest : List X
      rest = join (drop k ts)

      opened : trees word node ranks lower put_in (trees word node ranks lower rest []) ≡ push rk make x (trees word node ranks lower (join ts) [])
      opened =
          ap (λ (l : List (List A)). trees word node ranks lower put_in l) (trees_join word node ranks lower (drop k ts) [] (λ i b. rw get_or-drop (at (k + i) (omega (arith, length-drop k ts)))) ∙ append-nil (map S (drop k ts)))
          ∙ trees_fill word node ranks lower mk ν word_mk node_mk k body (take k ts) (map S (drop k ts)) t e (λ i b. rw (get_or-take k ts i []) (at i (omega arith)))
          ∙ simp c (ap₂ ◌∷◌ (ap₂ (λ (n : ℕ → A) (l : List ℕ). fill n (map S (take k ts)) l) (sym n) (sym E) ∙ ap (λ (l : List (List A)). fill (node x) l (get_or lower j [])) (map_take S k ts)) (map_drop S k ts))
          ∙ sym (ap (push rk make x) (trees_join word node ranks lower ts [] at ∙ append-nil (map S ts)))
