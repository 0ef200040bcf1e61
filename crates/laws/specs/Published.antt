-- Source document 001 on trees: what section 4.1's updates make of a tree l(t1, t2). "Source document 001 decides what an update means."
use Rattle.std.specs.Prelude.{ℕ, zero, suc, ◌+◌, ◌-◌, ◌≡◌, Bool, true, cond, ◌&&◌, List, [], ◌∷◌, ◌++◌, T, ltb, eqb, length, get_or}
use Rattle.std.proofs.Math.Option.{Option, none, some}
use Rattle.model.specs.Words.{is_label, rank_of}
use Rattle.model.specs.Trees.{fold}
use Rattle.model.specs.Edits.{Edit, rename, insert, delete, Update}

-- "An XML tree is held as a binary tree: an element has two children, its first child and its next sibling; the empty tree, written ⊥, has none." Document 001 writes l(t1, t2), and
-- # for ⊥.
pub data BinaryTree : Type 0 where
  empty_tree : BinaryTree
  element : ℕ → BinaryTree → BinaryTree → BinaryTree

-- "A tree is written as its labels in preorder, one 16-bit word each": 0 for ⊥
abbrev pub words_of : BinaryTree → List ℕ
words_of empty_tree = 0 ∷ []
words_of (element l t₁ t₂) = l ∷ words_of t₁ ++ words_of t₂

-- its elements have labels, 1 to 32,767
abbrev pub labelled : BinaryTree → Bool
labelled empty_tree = true
labelled (element l t₁ t₂) = is_label l && labelled t₁ && labelled t₂

-- "Positions are preorder numbers": t with f of its subtree t_p in the place of t_p. The root has number 0; then come the nodes of t1, then those of t2.
abbrev pub replaced_at : (BinaryTree → BinaryTree) → BinaryTree → ℕ → BinaryTree
replaced_at f empty_tree zero = f empty_tree
replaced_at f empty_tree (suc p) = empty_tree
replaced_at f (element l t₁ t₂) zero = f (element l t₁ t₂)
replaced_at f (element l t₁ t₂) (suc p) =
    cond (ltb p (length (words_of t₁)))
    (element l (replaced_at f t₁ p) t₂)
    (element l t₁ (replaced_at f t₂ (p - length (words_of t₁))))

-- relabel(s'): "λ_t(p) = s' とする" (the label at p becomes s')
abbrev pub relabelled : ℕ → BinaryTree → BinaryTree
relabelled l empty_tree = empty_tree
relabelled l (element k t₁ t₂) = element l t₁ t₂

-- delete(): "p 以下の部分木 t_p = λ_t(p)(t_1, t_2) を t_2 に置き換える" (the subtree t_p = l(t1, t2) is replaced by t2)
abbrev pub deleted : BinaryTree → BinaryTree
deleted empty_tree = empty_tree
deleted (element l t₁ t₂) = t₂

-- insert-before(t_i = r(t_i1, #)): "p 以下の部分木 t_p = λ_t(p)(t_1, t_2) を r(t_i1, λ_t(p)(t_1, t_2)) に置き換える" (t_p is replaced by r(t_i1, t_p)). Here t_p comes under the last
-- ⊥ of any tree: "inserting several siblings or at a ⊥ is added". Of r(t_i1, ⊥) it makes r(t_i1, t_p), as published.
abbrev pub inserted_before : BinaryTree → BinaryTree → BinaryTree
inserted_before empty_tree t = t
inserted_before (element r t₁ t₂) t = element r t₁ (inserted_before t₂ t)

-- the tree that a list of words is: a label takes the two trees behind it
abbrev pub rooted : ℕ → List BinaryTree → BinaryTree
rooted w [] = empty_tree
rooted w (t ∷ []) = empty_tree
rooted w (t₁ ∷ t₂ ∷ ts) = element w t₁ t₂

abbrev pub tree_in : List ℕ → BinaryTree
tree_in ws = get_or (fold (rank_of []) rooted ws []) 0 empty_tree

-- "A tree is written as its labels in preorder, one 16-bit word each." Words that are one tree's are no other's: `tree_in` finds it.
pub record OneTree (ws : List ℕ) : Type 0 where
  pub words : words_of (tree_in ws) ≡ ws
  pub is_labelled : T (labelled (tree_in ws))
  pub only : (t : BinaryTree) → T (labelled t) → words_of t ≡ ws → t ≡ tree_in ws

-- the published update of t_p, and of the tree, at the node with preorder number p
abbrev pub published_as : Edit → BinaryTree → BinaryTree
published_as (rename l) t = relabelled l t
published_as (insert s) t = inserted_before (tree_in s) t
published_as delete t = deleted t

abbrev pub published : Update → BinaryTree → BinaryTree
published u t = replaced_at (published_as u.edit) t u.at

-- Several at once: "relabel, delete, insert-before, insert-after は、選択頂点を post-order(帰りがけ順)で更新していき" (the selected nodes are updated in postorder): each node of the base after those
-- below it. p is the number in the base of the tree's root.
abbrev pub edit_at : List Update → ℕ → Option Edit
edit_at [] p = none
edit_at (u ∷ us) p = cond (eqb u.at p) (some u.edit) (edit_at us p)

abbrev pub made_as : Option Edit → BinaryTree → BinaryTree
made_as none t = t
made_as (some e) t = published_as e t

abbrev pub all_published : List Update → ℕ → BinaryTree → BinaryTree
all_published us p empty_tree = made_as (edit_at us p) empty_tree
all_published us p (element l t₁ t₂) = made_as (edit_at us p) (element l (all_published us (suc p) t₁) (all_published us (suc p + length (words_of t₁)) t₂))
