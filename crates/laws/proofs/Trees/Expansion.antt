-- Laws of expanding: children are put in once each, and a body put in the place of its call expands to what the call did.
use Prim.Native.Nat.{ℕ, suc, ◌+◌, ◌-◌, ◌≤◌, ◌<◌}
use native.Mathlib.Omega.{arith}
use native.Mathlib.Numerals.{add-one}
use native.Mathlib.Nat.{add-zero}
use mathlib.Core.Path.{◌≡◌, refl, sym, ap, ap₂, ◌∙◌}
use mathlib.Core.Bool.{true, false, true≢false}
use mathlib.Core.List.{List, [], ◌∷◌, ◌++◌, map, append_assoc, append-nil}
use lib.ListN.{length, take, drop, get_or, length-map, get_or-map}
use lib.Seq.{drop-drop, get_or-drop, take-append-le, drop-append-le}
use Rattle.model.specs.Words.{Class, empty, label, parameter, call, illegal, class_of, rank_of, is_parameter, when_parameter}
use Rattle.model.specs.Trees.{push, fold, join, fill, grow, those, parameters, expand}
use Rattle.laws.specs.Formed.{height, Fits, Tree, Linear, Env, stack_of}
use Rattle.laws.proofs.Trees.Fills.{InOrder, in_order, fill_node, fill_param}
use Rattle.laws.proofs.Trees.Folds.{fold_append, length_fold, fold_deep}
use Rattle.laws.proofs.Words.Lists.{map_take, map_drop, join_append}

module _ {A : Type 0} (node : ℕ → A) where
  pub fill_append : (children : List (List A)) (xs ys : List ℕ) → fill node children (xs ++ ys) ≡ fill node children xs ++ fill node children ys
  fill_append children [] ys = refl
  fill_append children (x ∷ xs) ys = rw (fill_append children xs ys, append_assoc)

  pub fill_join : (children : List (List A)) (ts : List (List ℕ)) → fill node children (join ts) ≡ join (map (fill node children) ts)
  fill_join children [] = refl
  fill_join children (t ∷ ts) = fill_append children t (join ts) ∙ ap (λ (l : List A). fill node children t ++ l) (fill_join children ts)

  -- the words with the children put in one after the other
  abbrev pub weave : List (List A) → List ℕ → List A
  weave children [] = []
  weave children (w ∷ ws) = elim (is_parameter w) [ true ↦ get_or children 0 [] ++ weave (drop 1 children) ws | false ↦ node w ∷ weave children ws ]

  pub fill_weave : (children : List (List A)) {i k : ℕ} {ws : List ℕ} → InOrder i k ws → fill node children ws ≡ weave (drop i children) ws
  fill_weave children InOrder.ended = refl
  fill_weave children (InOrder.node {i} {w = w} {ws = ws} c o) =
      fill_node node children w ws c ∙ simp (c, weave) (ap (λ (l : List A). node w ∷ l) (fill_weave children o))
  fill_weave children (InOrder.param {i} {w = w} {ws = ws} c o) =
      let r : fill node children ws ≡ weave (drop 1 (drop i children)) ws = fill_weave children o ∙ ap (λ (l : List (List A)). weave l ws) (rw (drop-drop, add-one)) in
      let h : get_or children i [] ≡ get_or (drop i children) 0 [] = rw (get_or-drop, add-zero) in
      fill_param node children i w ws c ∙ simp (c, weave) (ap₂ ◌++◌ h r)

  weave_linear : {i k : ℕ} {ws : List ℕ} → InOrder i k ws → (before after : List (List A)) → length before + suc (length after) ≡ k
      → (P : List A) × (S : List A) × ((t : List A) → weave (before ++ t ∷ after) ws ≡ P ++ t ++ S)
  weave_linear InOrder.ended before after h = absurd (omega arith)
  weave_linear (InOrder.node {w = w} c o) before after h =
      let r = weave_linear o before after h in
      (node w ∷ r.0, r.1, λ t. simp (c, weave) (ap (λ (l : List A). node w ∷ l) (r.2 t)))
  weave_linear (InOrder.param {ws = ws} c o) [] after h = ([], weave after ws, λ t. simp (c, weave))
  weave_linear (InOrder.param c o) (b ∷ bs) after h =
      let r = weave_linear o bs after (omega arith) in
      (b ++ r.0, r.1, λ t. simp (c, weave) (ap (λ (l : List A). b ++ l) (r.2 t) ∙ simp append_assoc))

-- filling in: each of k children once, where the words hold y1 to yk once and in order
pub fill_linear : {A : Type 0} (node : ℕ → A) (k : ℕ) (ws : List ℕ) → those is_parameter ws ≡ parameters k → Linear k (λ children. fill node children ws)
fill_linear node k ws e before after h =
    let o = in_order 0 k ws e in
    let r = weave_linear node o before after h in
    (r.0, r.1, λ t. fill_weave node (before ++ t ∷ after) o ∙ r.2 t)

pub grow_linear : {A : Type 0} (ranks : List ℕ) (lower : List (List ℕ)) → Env ranks lower → (node : ℕ → A) (w : ℕ) → Linear (rank_of ranks w) (grow node lower w)
grow_linear {A} ranks lower env node w before after = go (class_of w) refl
  where
    go : (c : Class) → class_of w ≡ c → length before + suc (length after) ≡ rank_of ranks w
        → (P : List A) × (S : List A) × ((t : List A) → grow node lower w (before ++ t ∷ after) ≡ P ++ t ++ S)
    go (call j) c h =
        let r = fill_linear node (get_or ranks j 0) (get_or lower j []) (env j) before after (simp c at h) in
        (r.0, r.1, λ t. simp c (r.2 t))
    go empty c h = (node w ∷ join before, join after, λ t. simp (c, join_append, append_assoc))
    go label c h = (node w ∷ join before, join after, λ t. simp (c, join_append, append_assoc))
    go (parameter n) c h = (node w ∷ join before, join after, λ t. simp (c, join_append, append_assoc))
    go illegal c h = (node w ∷ join before, join after, λ t. simp (c, join_append, append_assoc))

-- filling what was filled: the children of the children
pub fill_fill : {A : Type 0} (node : ℕ → A) (children : List (List A)) (args : List (List ℕ)) (ws : List ℕ)
    → fill node children (fill (λ v. v) args ws) ≡ fill node (map (fill node children) args) ws
fill_fill node children args [] = refl
fill_fill {A} node children args (w ∷ ws) =
    fill_append node children (when_parameter (w ∷ []) (λ i. get_or args (i - 1) []) w) (fill (λ v. v) args ws)
    ∙ ap₂ ◌++◌ (go (class_of w) refl) (fill_fill node children args ws)
  where
    go : (c : Class) → class_of w ≡ c
        → fill node children (when_parameter (w ∷ []) (λ i. get_or args (i - 1) []) w) ≡ when_parameter (node w ∷ []) (λ i. get_or (map (fill node children) args) (i - 1) []) w
    go empty c = simp c
    go label c = simp c
    go (parameter n) c = simp c (sym (get_or-map (fill node children) args (n - 1) []))
    go (call j) c = simp c
    go illegal c = simp c

-- a word that is no parameter, over children that are filled
pub fill_grow : {A : Type 0} (node : ℕ → A) (children : List (List A)) (lower : List (List ℕ)) (w : ℕ) (ts : List (List ℕ)) → is_parameter w ≡ false
    → fill node children (grow (λ v. v) lower w ts) ≡ grow node lower w (map (fill node children) ts)
fill_grow node children lower w ts e = go (class_of w) refl
  where
    go : (c : Class) → class_of w ≡ c → fill node children (grow (λ v. v) lower w ts) ≡ grow node lower w (map (fill node children) ts)
    go (call j) c = simp c (fill_fill node children ts (get_or lower j []))
    go (parameter n) c = let z : true ≡ false = simp c at e in absurd (true≢false z)
    go empty c = simp (c, fill_join)
    go label c = simp (c, fill_join)
    go illegal c = simp (c, fill_join)

-- Words that carry something: what the nodes of the expansion get from the words that produce them. `word` is the word that an x is, and `node x` what it gives to a node.
-- With `word x = x` and `node x v = v` this is the expansion; with places or marks beside the words it says which word produces a node.
abbrev pub trees : {X A : Type 0} → (X → ℕ) → (X → ℕ → A) → List ℕ → List (List ℕ) → List X → List (List A) → List (List A)
trees word node ranks lower xs st = fold (λ x. rank_of ranks (word x)) (λ x. grow (node x) lower (word x)) xs st

abbrev pub spread : {X A : Type 0} → (X → ℕ) → (X → ℕ → A) → List ℕ → List (List ℕ) → List X → List A
spread word node ranks lower xs = join (trees word node ranks lower xs [])

abbrev pub TreeBy : {X : Type 0} → (X → ℕ) → List ℕ → List X → Type 0
TreeBy word ranks xs = Fits (λ x. rank_of ranks (word x)) 0 xs × (height (λ x. rank_of ranks (word x)) 0 xs ≡ 1)

module _ {X A : Type 0} (word : X → ℕ) (node : X → ℕ → A) (ranks : List ℕ) (lower : List (List ℕ)) where
  -- one complete tree is the one tree of its stack
  pub trees_tree : (xs : List X) (st : List (List A)) → TreeBy word ranks xs → trees word node ranks lower xs st ≡ spread word node ranks lower xs ∷ st
  trees_tree xs st t =
      fold_deep (λ x. rank_of ranks (word x)) (λ x. grow (node x) lower (word x)) xs [] st t.0
      ∙ ap (λ (l : List (List A)). l ++ st)
      (one (trees word node ranks lower xs []) (length_fold (λ x. rank_of ranks (word x)) (λ x. grow (node x) lower (word x)) xs [] ∙ t.1))
    where
      one : (l : List (List A)) → length l ≡ 1 → l ≡ join l ∷ []
      one [] h = absurd (omega arith)
      one (x ∷ []) h = ap (λ (y : List A). y ∷ []) (sym (append-nil x))
      one (x ∷ y ∷ l) h = absurd (omega arith)

  -- complete trees one after the other
  pub trees_join : (ts : List (List X)) (st : List (List A)) → ((i : ℕ) → i < length ts → TreeBy word ranks (get_or ts i []))
      → trees word node ranks lower (join ts) st ≡ map (spread word node ranks lower) ts ++ st
  trees_join [] st at = refl
  trees_join (t ∷ ts) st at =
      fold_append (λ x. rank_of ranks (word x)) (λ x. grow (node x) lower (word x)) t (join ts) st
      ∙ trees_tree t (trees word node ranks lower (join ts) st) (at 0 (omega arith))
      ∙ ap (λ (l : List (List A)). spread word node ranks lower t ∷ l) (trees_join ts st (λ i h. at (suc i) (omega arith)))

-- the expansion of one complete tree is the one tree of its stack
pub stack_tree : (ranks : List ℕ) (lower : List (List ℕ)) (ws : List ℕ) (stack : List (List ℕ)) → Tree ranks ws → stack_of ranks lower ws stack ≡ expand ranks lower ws ∷ stack
stack_tree ranks lower ws stack t = trees_tree (λ v. v) (λ w v. v) ranks lower ws stack t

-- Put in for a body's parameters. The body's words are all alike to `node`: each gives a node what `ν` says.
module _ {X A : Type 0} (word : X → ℕ) (node : X → ℕ → A) (ranks : List ℕ) (lower : List (List ℕ))
    (mk : ℕ → X) (ν : ℕ → A) (word_mk : (v : ℕ) → word (mk v) ≡ v) (node_mk : (v : ℕ) → node (mk v) ≡ ν) where
  push_filled : (children : List (List A)) (ts : List (List ℕ)) (more : List (List A)) (w : ℕ) → is_parameter w ≡ false → rank_of ranks w ≤ length ts
      → push (λ x. rank_of ranks (word x)) (λ x. grow (node x) lower (word x)) (mk w) (map (fill ν children) ts ++ more)
      ≡ map (fill ν children) (push (rank_of ranks) (grow (λ v. v) lower) w ts) ++ more
  push_filled children ts more w c h =
      ap₂ (λ (v : ℕ) (n : ℕ → A). grow n lower v (take (rank_of ranks v) below) ∷ drop (rank_of ranks v) below) (word_mk w) (node_mk w)
      ∙ ap₂ ◌∷◌
      (ap (grow ν lower w) (take-append-le r (map σ ts) more h' ∙ sym (map_take σ r ts)) ∙ sym (fill_grow ν children lower w (take r ts) c))
      (drop-append-le r (map σ ts) more h' ∙ ap (λ (l : List (List A)). l ++ more) (sym (map_drop σ r ts)))
    where
      σ : List ℕ → List A
      σ = fill ν children

      below : List (List A)
      below = map (fill ν children) ts ++ more

      r : ℕ
      r = rank_of ranks w

      h' : rank_of ranks w ≤ length (map (fill ν children) ts)
      h' = simp length-map h

  -- as far as the words reach, where the stack below has its children put in
  trees_filled : (args : List (List X)) {i m : ℕ} {ws : List ℕ} → InOrder i m ws → (k : ℕ) → i + m ≤ k → ((i : ℕ) → i < k → TreeBy word ranks (get_or args i []))
      → (st : List (List ℕ)) (more : List (List A)) → Fits (rank_of ranks) (length st) ws
      → trees word node ranks lower (fill mk args ws) (map (fill ν (map (spread word node ranks lower) args)) st ++ more)
      ≡ map (fill ν (map (spread word node ranks lower) args)) (stack_of ranks lower ws st) ++ more
  trees_filled args InOrder.ended k h at st more f = refl
  trees_filled args (InOrder.node {w = w} {ws = ws} c o) k h at st more f =
      let S = spread word node ranks lower in
      let σ = fill ν (map S args) in
      ap (λ (l : List X). trees word node ranks lower l (map σ st ++ more)) (fill_node mk args w ws c)
      ∙ ap (push (λ x. rank_of ranks (word x)) (λ x. grow (node x) lower (word x)) (mk w)) (trees_filled args o k h at st more f.1)
      ∙ push_filled (map S args) (stack_of ranks lower ws st) more w c (rw (length_fold (rank_of ranks) (grow (λ v. v) lower) ws st) f.0)
  trees_filled args (InOrder.param {i} {w = w} {ws = ws} c o) k h at st more f =
      let S = spread word node ranks lower in
      let σ = fill ν (map S args) in
      let arg = get_or args i [] in
      ap (λ (l : List X). trees word node ranks lower l (map σ st ++ more)) (fill_param mk args i w ws c)
      ∙ fold_append (λ x. rank_of ranks (word x)) (λ x. grow (node x) lower (word x)) arg (fill mk args ws) (map σ st ++ more)
      ∙ trees_tree word node ranks lower arg (trees word node ranks lower (fill mk args ws) (map σ st ++ more)) (at i (omega arith))
      ∙ ap₂ ◌∷◌
      (sym (fill_param ν (map S args) i w [] c ∙ append-nil (get_or (map S args) i []) ∙ get_or-map S args i []))
      (trees_filled args o k (omega arith) at st more f.1)
      ∙ simp c

  pub trees_fill : (k : ℕ) (body : List ℕ) (args : List (List X)) (st : List (List A))
      → Tree ranks body → those is_parameter body ≡ parameters k → ((i : ℕ) → i < k → TreeBy word ranks (get_or args i []))
      → trees word node ranks lower (fill mk args body) st ≡ fill ν (map (spread word node ranks lower) args) (expand ranks lower body) ∷ st
  trees_fill k body args st t e at =
      trees_filled args (in_order 0 k body e) k (omega arith) at [] st t.0
      ∙ ap (λ (l : List (List ℕ)). map (fill ν (map (spread word node ranks lower) args)) l ++ st) (stack_tree ranks lower body [] t)
