-- Several published updates, made on the tree node by node, are the model's pass over the words: what a delete removes ends where the node's first subtree ends, so before a
-- subtree whose root is not removed nothing reaches into it.
use Prim.Native.Nat.{ℕ, suc, ◌+◌, ◌-◌, ◌≤◌, ◌<◌}
use native.Mathlib.Omega.{arith}
use native.Mathlib.Numerals.{add-one}
use native.Mathlib.Nat.{add-zero}
use mathlib.Core.Path.{◌≡◌, refl, sym, ap, ap₂, subst, ◌∙◌}
use mathlib.Core.Logic.{◌⊎◌, inl, inr}
use mathlib.Core.Bool.{Bool, true, false, cond, ◌&&◌, ◌||◌, or-true, and-false}
use mathlib.Core.List.{List, [], ◌∷◌, ◌++◌, append_assoc, append-nil}
use mathlib.Core.Option.{Option, none, some, some-injective, none-ne-some}
use lib.Dec.{T, leb, ltb, eqb}
use borrow.Author.Tests.{eq-eqb, le-leb, lt-leb, lt-ltb, le-ltb, eqb-true, ltb-true, ltb-false}
use mir.Facts.{and_yes}
use lib.ListN.{length, take, drop, get_or, length-append}
use lib.Seq.{drop-drop, drop_at, drop-append_seam, get_or-drop}
use Rattle.model.specs.Words.{is_tree_word}
use Rattle.model.specs.Trees.{all, is_tree, forest}
use Rattle.model.specs.Edits.{Edit, rename, insert, delete, Update, child, removes_as, removes, removed, piece_as, piece, all_from, all_at_once, took, took_as, clash, clashes, apart}
use Rattle.laws.specs.Orders.{SuitsAs, AllSuit}
use Rattle.laws.specs.Published.{BinaryTree, empty_tree, element, words_of, labelled, tree_in, edit_at, made_as, all_published}
use Rattle.laws.proofs.Trees.Folds.{forest_tree, is_tree_tree}
use Rattle.laws.proofs.Edits.Apart.{apart_split}
use Rattle.laws.proofs.Words.Tests.{or_split}
use Rattle.laws.proofs.Edits.Published.{labels, words_plain, Around, around, inserted_words, front_taken}

-- what the pass puts for a word, by the update that stands there
abbrev piece_of : Option Edit → List ℕ → List ℕ
piece_of none ws = ws
piece_of (some e) ws = piece_as e ws

piece_is : (us : List Update) (p : ℕ) (ws : List ℕ) → piece us p ws ≡ piece_of (edit_at us p) ws
piece_is [] p ws = refl
piece_is (u ∷ us) p ws = go (eqb u.at p) (piece_is us p ws)
  where
    go : (b : Bool) → piece us p ws ≡ piece_of (edit_at us p) ws → cond b (piece_as u.edit ws) (piece us p ws) ≡ piece_of (cond b (some u.edit) (edit_at us p)) ws
    go true e = refl
    go false e = e

-- each update is the one that stands at its position
abbrev Owned : List Update → List Update → Type 0
Owned all [] = Unit {0}
Owned all (u ∷ us) = (edit_at all u.at ≡ some u.edit) × Owned all us

owned_more : (base : List ℕ) (u : Update) (all us : List Update) → clashes base u us ≡ false → Owned all us → Owned (u ∷ all) us
owned_more base u all [] c o = tt
owned_more base u all (v ∷ us) c o =
    let both = or_split (clash base u v) (clashes base u us) c in
    let other : eqb u.at v.at ≡ false = (or_split (eqb u.at v.at) (removes base u v.at) (or_split (eqb u.at v.at || removes base u v.at) (removes base v u.at) both.0).0).0 in
    (ap (λ (b : Bool). cond b (some u.edit) (edit_at all v.at)) other ∙ o.0, owned_more base u all us both.1 o.1)

owned : (base : List ℕ) (us : List Update) → T (apart base us) → Owned us us
owned base [] t = tt
owned base (u ∷ us) t =
    let (c, rest) = apart_split base u us t in
    (ap (λ (b : Bool). cond b (some u.edit) (edit_at us u.at)) (same u.at), owned_more base u us us c (owned base us rest))
  where
    same : (n : ℕ) → eqb n n ≡ true
    same n = eq-eqb n n refl

edit_suits : (base : List ℕ) (us : List Update) → AllSuit base us → (p : ℕ) (e : Edit) → edit_at us p ≡ some e → SuitsAs base p e
edit_suits base [] s p e f = absurd (none-ne-some e f)
edit_suits base (u ∷ us) s p e f = go (eqb u.at p) refl f (edit_suits base us s.1 p e)
  where
    go : (b : Bool) → eqb u.at p ≡ b → cond b (some u.edit) (edit_at us p) ≡ some e → (edit_at us p ≡ some e → SuitsAs base p e) → SuitsAs base p e
    go true h g rest = subst (λ (n : ℕ). SuitsAs base n e) (eqb-true u.at p h) (subst (SuitsAs base u.at) (some-injective u.edit e g) s.0.1)
    go false h g rest = rest g

-- what a delete at p removes is removed
removed_there : (base : List ℕ) (us : List Update) (p q : ℕ) → edit_at us p ≡ some delete → p ≤ q → q < suc p + length (child [] 1 p base) → removed base us q ≡ true
removed_there base [] p q e h k = absurd (none-ne-some delete e)
removed_there base (u ∷ us) p q e h k = go (eqb u.at p) refl e (removed_there base us p q)
  where
    go : (b : Bool) → eqb u.at p ≡ b → cond b (some u.edit) (edit_at us p) ≡ some delete
        → (edit_at us p ≡ some delete → p ≤ q → q < suc p + length (child [] 1 p base) → removed base us q ≡ true) → (removes base u q || removed base us q) ≡ true
    go true f g rest =
        let here : removes base u q ≡ true =
        ap₂ (λ (n : ℕ) (e : Edit). removes_as base n q e) (eqb-true u.at p f) (some-injective u.edit delete g)
        ∙ ap₂ (λ (a b : Bool). a && b) (le-leb p q h) (lt-ltb q (suc p + length (child [] 1 p base)) k) in
        ap (λ (b : Bool). b || removed base us q) here
    go false f g rest = ap (λ (b : Bool). removes base u q || b) (rest g h k) ∙ or-true (removes base u q)

-- words that are all removed
from_removed : (base : List ℕ) (us : List Update) (p : ℕ) (zs ys : List ℕ) → ((q : ℕ) → p ≤ q → q < p + length zs → removed base us q ≡ true)
    → all_from base us p (zs ++ ys) ≡ all_from base us (p + length zs) ys
from_removed base us p [] ys h = ap (λ (n : ℕ). all_from base us n ys) (sym (add-zero p))
from_removed base us p (z ∷ zs) ys h =
    let here : removed base us p ≡ true = h p (omega arith) (omega arith) in
    let later : suc p + length zs ≡ p + suc (length zs) = omega arith in
    ap (λ (b : Bool). cond b [] (piece us p (z ∷ [])) ++ all_from base us (suc p) (zs ++ ys)) here
    ∙ from_removed base us (suc p) zs ys (λ q a b. h q (omega arith) (omega arith)) ∙ ap (λ (n : ℕ). all_from base us n ys) later

-- In a base, the words of subtrees.
module _ (base : List ℕ) where
  -- what updates before p take away ends before p
  abbrev Free : List Update → ℕ → Type 0
  Free [] p = Unit {0}
  Free (u ∷ us) p = (u.at < p → u.at + took base u ≤ p) × Free us p

  free_root : (us : List Update) → Free us 0
  free_root [] = tt
  free_root (u ∷ us) = (λ h. absurd (omega arith), free_root us)

  child_first : (p l : ℕ) (t₁ t₂ : BinaryTree) (ys : List ℕ) → T (labelled t₁) → drop p base ≡ words_of (element l t₁ t₂) ++ ys → child [] 1 p base ≡ words_of t₁
  child_first p l t₁ t₂ ys h e =
      let behind : drop (suc p) base ≡ words_of t₁ ++ (words_of t₂ ++ ys) =
      ap (λ (n : ℕ). drop n base) (sym (add-one p)) ∙ sym (drop-drop 1 p base) ∙ ap (drop 1) e ∙ append_assoc (words_of t₁) (words_of t₂) ys in
      ap (λ (vs : List ℕ). get_or (forest [] vs) 0 []) behind ∙ ap (λ (ts : List (List ℕ)). get_or ts 0 []) (forest_tree [] (words_of t₁) (words_of t₂ ++ ys) (words_plain t₁ h).tree)

  -- what a delete inside a subtree takes away ends inside it
  nested : (t : BinaryTree) → T (labelled t) → (p : ℕ) (ys : List ℕ) → drop p base ≡ words_of t ++ ys
      → (q : ℕ) → p ≤ q → q < p + length (words_of t) → (get_or base q 0 ≡ 0 → ⊥) → q + suc (length (child [] 1 q base)) ≤ p + length (words_of t)
  nested t h p ys e q low high n = go x.here refl
    where
      x : Around t (q - p)
      x = around t h (q - p) (omega arith)

      there : drop q base ≡ words_of x.here ++ (x.behind ++ ys)
      there =
          let far : q ≡ p + (q - p) = omega arith in
          ap (λ (m : ℕ). drop m base) far ∙ sym (drop-drop (q - p) p base) ∙ ap (drop (q - p)) (e ∙ ap (λ (vs : List ℕ). vs ++ ys) x.words ∙ append_assoc x.before (words_of x.here ++ x.behind) ys)
          ∙ drop_at x.before ((words_of x.here ++ x.behind) ++ ys) (q - p) x.place ∙ append_assoc (words_of x.here) x.behind ys

      long : length (words_of t) ≡ (q - p) + (length (words_of x.here) + length x.behind)
      long =
          ap length x.words ∙ length-append x.before (words_of x.here ++ x.behind)
          ∙ ap₂ (λ (a b : ℕ). a + b) x.place (length-append (words_of x.here) x.behind)

      word : get_or base q 0 ≡ get_or (drop q base) 0 0
      word = ap (λ (m : ℕ). get_or base m 0) (sym (add-zero q)) ∙ sym (get_or-drop q base 0 0)

      go : (here : BinaryTree) → x.here ≡ here → q + suc (length (child [] 1 q base)) ≤ p + length (words_of t)
      go empty_tree f = absurd (n (word ∙ ap (λ (vs : List ℕ). get_or vs 0 0) (there ∙ ap (λ (s : BinaryTree). words_of s ++ (x.behind ++ ys)) f)))
      go (element l a b) f =
          let inside = subst (λ (s : BinaryTree). T (labelled s)) f x.is_labelled in
          let c : child [] 1 q base ≡ words_of a = child_first q l a b (x.behind ++ ys) (labels l a b inside).1 (there ∙ ap (λ (s : BinaryTree). words_of s ++ (x.behind ++ ys)) f) in
          let size : length (words_of x.here) ≡ suc (length (words_of a) + length (words_of b)) = ap (λ (s : BinaryTree). length (words_of s)) f ∙ ap suc (length-append (words_of a) (words_of b)) in
          omega (arith, long, ap length c, size)

  -- before the second subtree of a node
  free_second : (us : List Update) → AllSuit base us → (p l : ℕ) (t₁ t₂ : BinaryTree) (ys : List ℕ) → T (labelled (element l t₁ t₂)) → drop p base ≡ words_of (element l t₁ t₂) ++ ys
      → Free us p → Free us (suc p + length (words_of t₁))
  free_second [] s p l t₁ t₂ ys h e f = tt
  free_second (u ∷ us) s p l t₁ t₂ ys h e f = (λ k. here u.edit refl s.0.1 k, free_second us s.1 p l t₁ t₂ ys h e f.1)
    where
      q : ℕ
      q = u.at

      behind : drop (suc p) base ≡ words_of t₁ ++ (words_of t₂ ++ ys)
      behind = ap (λ (n : ℕ). drop n base) (sym (add-one p)) ∙ sym (drop-drop 1 p base) ∙ ap (drop 1) e ∙ append_assoc (words_of t₁) (words_of t₂) ys

      here : (edit : Edit) → u.edit ≡ edit → SuitsAs base q edit → q < suc p + length (words_of t₁) → q + took_as base q u.edit ≤ suc p + length (words_of t₁)
      here (rename k) g s b = rw g (omega arith)
      here (insert k) g s b = rw g (omega arith)
      here delete g s b = rw g (where_is (ltb q p) refl (ltb p q) refl)
        where
          where_is : (x : Bool) → ltb q p ≡ x → (y : Bool) → ltb p q ≡ y → q + suc (length (child [] 1 q base)) ≤ suc p + length (words_of t₁)
          where_is true x y i =
              let taken : took base u ≡ suc (length (child [] 1 q base)) = ap (took_as base q) g in
              omega (arith, f.0 (ltb-true q p x), taken)
          where_is false x true i = nested t₁ (labels l t₁ t₂ h).1 (suc p) (words_of t₂ ++ ys) behind q (ltb-true p q i) b s
          where_is false x false i =
              let same : q ≡ p = omega (arith, ltb-false q p x, ltb-false p q i) in
              let c : child [] 1 q base ≡ words_of t₁ = ap (λ (n : ℕ). child [] 1 n base) same ∙ child_first p l t₁ t₂ ys (labels l t₁ t₂ h).1 e in
              omega (arith, ap length c)

  module _ (all : List Update) (p : ℕ) (kept : edit_at all p ≡ some delete → ⊥) where
    -- an update that stands at p is no delete there
    not_here : (u : Update) → edit_at all u.at ≡ some u.edit → u.edit ≡ delete → u.at ≡ p → ⊥
    not_here u o e h = kept (ap (edit_at all) (sym h) ∙ o ∙ ap {B = Option Edit} some e)

    -- so p is not removed
    not_removed : (us : List Update) → Owned all us → Free us p → removed base us p ≡ false
    not_removed [] o f = refl
    not_removed (u ∷ us) o f = ap₂ (λ (a b : Bool). a || b) (here u.edit refl) (not_removed us o.1 f.1)
      where
        here : (e : Edit) → u.edit ≡ e → removes base u p ≡ false
        here (rename k) g = ap (removes_as base u.at p) g
        here (insert k) g = ap (removes_as base u.at p) g
        here delete g = ap (removes_as base u.at p) g ∙ where_is (ltb u.at p) refl (ltb p u.at) refl
          where
            q : ℕ
            q = u.at

            where_is : (x : Bool) → ltb q p ≡ x → (y : Bool) → ltb p q ≡ y → (leb q p && ltb p (suc q + length (child [] 1 q base))) ≡ false
            where_is true x y i =
                let taken : took base u ≡ suc (length (child [] 1 q base)) = ap (took_as base q) g in
                ap (λ (b : Bool). leb q p && b) (le-ltb p (suc q + length (child [] 1 q base)) (omega (arith, f.0 (ltb-true q p x), taken))) ∙ and-false (leb q p)
            where_is false x true i = ap (λ (b : Bool). b && ltb p (suc q + length (child [] 1 q base))) (lt-leb q p (ltb-true p q i))
            where_is false x false i = absurd (not_here u o.0 g (omega (arith, ltb-false q p x, ltb-false p q i)))

    -- and the next position is free
    free_next : (us : List Update) → Owned all us → Free us p → Free us (suc p)
    free_next [] o f = tt
    free_next (u ∷ us) o f = (λ k. here u.edit refl k, free_next us o.1 f.1)
      where
        here : (e : Edit) → u.edit ≡ e → u.at < suc p → u.at + took_as base u.at u.edit ≤ suc p
        here (rename k) g b = rw g (omega arith)
        here (insert k) g b = rw g (omega arith)
        here delete g b = where_is (ltb u.at p) refl
          where
            where_is : (x : Bool) → ltb u.at p ≡ x → u.at + took_as base u.at u.edit ≤ suc p
            where_is true x = omega (arith, f.0 (ltb-true u.at p x))
            where_is false x = absurd (not_here u o.0 g (omega (arith, ltb-false u.at p x)))

-- what is published at a node, of its words
made_words : (base : List ℕ) (p l : ℕ) (s₁ s₂ : BinaryTree) (o : Option Edit) → (o ≡ some delete → ⊥) → ((e : Edit) → o ≡ some e → SuitsAs base p e)
    → words_of (made_as o (element l s₁ s₂)) ≡ piece_of o (l ∷ []) ++ (words_of s₁ ++ words_of s₂)
made_words base p l s₁ s₂ none kept suits = refl
made_words base p l s₁ s₂ (some (rename k)) kept suits = refl
made_words base p l s₁ s₂ (some (insert f)) kept suits =
    let c = and_yes (all is_tree_word f) (is_tree [] f) (suits (insert f) refl) in
    inserted_words (tree_in f) (element l s₁ s₂)
    ∙ ap (λ (vs : List ℕ). vs ++ l ∷ (words_of s₁ ++ words_of s₂)) (sym (front_taken f (record { tree = is_tree_tree [] f c.1; words = c.0 })))
    ∙ sym (append_assoc (take (length f - 1) f) (l ∷ []) (words_of s₁ ++ words_of s₂))
made_words base p l s₁ s₂ (some delete) kept suits = absurd (kept refl)

made_empty : (base : List ℕ) (p : ℕ) → get_or base p 0 ≡ 0 → (o : Option Edit) → ((e : Edit) → o ≡ some e → SuitsAs base p e) → words_of (made_as o empty_tree) ≡ piece_of o (0 ∷ [])
made_empty base p z none suits = refl
made_empty base p z (some (rename k)) suits = absurd ((suits (rename k) refl).0 z)
made_empty base p z (some (insert f)) suits =
    let c = and_yes (all is_tree_word f) (is_tree [] f) (suits (insert f) refl) in
    inserted_words (tree_in f) empty_tree ∙ ap (λ (vs : List ℕ). vs ++ 0 ∷ []) (sym (front_taken f (record { tree = is_tree_tree [] f c.1; words = c.0 })))
made_empty base p z (some delete) suits = absurd (suits delete refl z)

is_delete : (o : Option Edit) → (o ≡ some delete) ⊎ (o ≡ some delete → ⊥)
is_delete none = inr (none-ne-some delete)
is_delete (some (rename l)) = inr (λ e. let z : ◌≡◌ {A = ℕ} 0 1 = cc in omega arith)
is_delete (some (insert s)) = inr (λ e. let z : ◌≡◌ {A = ℕ} 0 1 = cc in omega arith)
is_delete (some delete) = inl refl

-- the pass over a subtree's words
module _ (base : List ℕ) (us : List Update) (s : AllSuit base us) (o : Owned us us) where
  from_tree : (t : BinaryTree) → T (labelled t) → (p : ℕ) (ys : List ℕ) → drop p base ≡ words_of t ++ ys → Free base us p
      → all_from base us p (words_of t ++ ys) ≡ words_of (all_published us p t) ++ all_from base us (p + length (words_of t)) ys
  from_tree empty_tree h p ys e f =
      let z : get_or base p 0 ≡ 0 = ap (λ (m : ℕ). get_or base m 0) (sym (add-zero p)) ∙ sym (get_or-drop p base 0 0) ∙ ap (λ (vs : List ℕ). get_or vs 0 0) e in
      let kept : edit_at us p ≡ some delete → ⊥ = λ d. edit_suits base us s p delete d z in
      ap (λ (b : Bool). cond b [] (piece us p (0 ∷ [])) ++ all_from base us (suc p) ys) (not_removed base us p kept us o f)
      ∙ ap₂ (λ (k : List ℕ) (n : ℕ). k ++ all_from base us n ys) (piece_is us p (0 ∷ []) ∙ sym (made_empty base p z (edit_at us p) (edit_suits base us s p))) (sym (add-one p))
  from_tree (element l t₁ t₂) h p ys e f =
      let (here, first, second) = labels l t₁ t₂ h in
      let behind : drop (suc p) base ≡ words_of t₁ ++ (words_of t₂ ++ ys) =
      ap (λ (n : ℕ). drop n base) (sym (add-one p)) ∙ sym (drop-drop 1 p base) ∙ ap (drop 1) e ∙ append_assoc (words_of t₁) (words_of t₂) ys in
      let last : drop (suc p + length (words_of t₁)) base ≡ words_of t₂ ++ ys =
      sym (drop-drop (length (words_of t₁)) (suc p) base) ∙ ap (drop (length (words_of t₁))) behind ∙ drop-append_seam (words_of t₁) (words_of t₂ ++ ys) in
      go (is_delete (edit_at us p)) (from_tree t₁ first (suc p) (words_of t₂ ++ ys) behind)
      (from_tree t₂ second (suc p + length (words_of t₁)) ys last (free_second base us s p l t₁ t₂ ys h e f)) (child_first base p l t₁ t₂ ys first e)
    where
      n : ℕ
      n = length (words_of t₁)

      s₁ : BinaryTree
      s₁ = all_published us (suc p) t₁

      s₂ : BinaryTree
      s₂ = all_published us (suc p + n) t₂

      end : suc p + n + length (words_of t₂) ≡ p + length (words_of (element l t₁ t₂))
      end = omega (arith, length-append (words_of t₁) (words_of t₂))

      rest : List ℕ
      rest = all_from base us (suc p + n + length (words_of t₂)) ys

      go : (edit_at us p ≡ some delete) ⊎ (edit_at us p ≡ some delete → ⊥)
          → (Free base us (suc p) → all_from base us (suc p) (words_of t₁ ++ (words_of t₂ ++ ys)) ≡ words_of s₁ ++ all_from base us (suc p + n) (words_of t₂ ++ ys))
          → all_from base us (suc p + n) (words_of t₂ ++ ys) ≡ words_of s₂ ++ rest
          → child [] 1 p base ≡ words_of t₁
          → all_from base us p (words_of (element l t₁ t₂) ++ ys) ≡ words_of (all_published us p (element l t₁ t₂)) ++ all_from base us (p + length (words_of (element l t₁ t₂))) ys
      go (inl d) in-first in-second c =
          ap (λ (vs : List ℕ). all_from base us p (l ∷ vs)) (append_assoc (words_of t₁) (words_of t₂) ys)
          ∙ from_removed base us p (l ∷ words_of t₁) (words_of t₂ ++ ys) (λ q a b. removed_there base us p q d a (omega (arith, ap length c)))
          ∙ ap (λ (m : ℕ). all_from base us m (words_of t₂ ++ ys)) (far)
          ∙ in-second
          ∙ ap₂ (λ (k : List ℕ) (m : ℕ). k ++ all_from base us m ys) (sym (ap (λ (x : Option Edit). words_of (made_as x (element l s₁ s₂))) d)) end
        where
          far : p + suc n ≡ suc p + n
          far = omega arith
      go (inr kept) in-first in-second c =
          ap (λ (b : Bool). cond b [] (piece us p (l ∷ [])) ++ all_from base us (suc p) ((words_of t₁ ++ words_of t₂) ++ ys)) (not_removed base us p kept us o f)
          ∙ ap₂ (λ (k m : List ℕ). k ++ m) (piece_is us p (l ∷ []))
          (ap (all_from base us (suc p)) (append_assoc (words_of t₁) (words_of t₂) ys) ∙ in-first (free_next base us p kept us o f) ∙ ap (λ (k : List ℕ). words_of s₁ ++ k) in-second)
          ∙ ap (λ (k : List ℕ). piece_of (edit_at us p) (l ∷ []) ++ k) (sym (append_assoc (words_of s₁) (words_of s₂) rest))
          ∙ sym (append_assoc (piece_of (edit_at us p) (l ∷ [])) (words_of s₁ ++ words_of s₂) rest)
          ∙ ap₂ (λ (k : List ℕ) (m : ℕ). k ++ all_from base us m ys) (sym (made_words base p l s₁ s₂ (edit_at us p) kept (edit_suits base us s p))) end

-- the base with all made at once, as published
pub at_once_words : (t : BinaryTree) → T (labelled t) → (us : List Update) → AllSuit (words_of t) us → T (apart (words_of t) us) → words_of (all_published us 0 t) ≡ all_at_once us (words_of t)
at_once_words t h us s a =
    sym (append-nil (words_of (all_published us 0 t)))
    ∙ sym (from_tree (words_of t) us s (owned (words_of t) us a) t h 0 [] (sym (append-nil (words_of t))) (free_root (words_of t) us))
    ∙ ap (all_from (words_of t) us 0) (append-nil (words_of t))
