-- A body filled with complete trees is one, and expands to complete trees of labels, ⊥ and parameters.
use Prim.Native.Nat.{ℕ, suc, ◌+◌, ◌-◌, ◌<◌}
use mathlib.Core.Path.{◌≡◌, refl, ap, ◌∙◌}
use mathlib.Core.Bool.{Bool, ◌||◌}
use mathlib.Core.List.{List, [], ◌∷◌}
use native.Mathlib.Omega.{arith}
use lib.Dec.{T}
use lib.ListN.{length, take, get_or}
use lib.Seq.{length-take-le}
use mir.Facts.{yes_and}
use Rattle.model.specs.Words.{Class, empty, label, parameter, call, illegal, class_of, rank_of, is_parameter, is_tree_word, is_parameter_as, is_tree_word_as, rank_as}
use Rattle.model.specs.Trees.{join, all, is_legal, fill, grow, expand, is_legal_as}
use Rattle.laws.specs.Formed.{height, Fits, Tree, Env, stack_of}
use Rattle.laws.proofs.Trees.Folds.{length_fold, tree_front, tree_over}
use Rattle.laws.proofs.Trees.Expansion.{stack_tree}
use Rattle.laws.proofs.Trees.Legal.{legal_call}
use Rattle.laws.proofs.Trees.Fills.{InOrder, ended, node, param, fill_node, fill_param, env_order, by_call, grow_call, grow_other, rank_call}
use Rattle.laws.proofs.Words.Lists.{all_append, all_cons, every_take, every_at, Every, every_drop}

module _ (ranks : List ℕ) where
  -- complete trees for the parameters
  pub fill_height : (h : ℕ) (args : List (List ℕ)) → Every (Tree ranks) args → {i k : ℕ} {ws : List ℕ} → InOrder i k ws → length args ≡ i + k → Fits (rank_of ranks) h ws
      → Fits (rank_of ranks) h (fill (λ v. v) args ws) × (height (rank_of ranks) h (fill (λ v. v) args ws) ≡ height (rank_of ranks) h ws)
  fill_height h args p ended l f = (tt, refl)
  fill_height h args p (node {w = w} {ws = ws} e o) l f =
      let r = fill_height h args p o l f.1 in
      rw (fill_node (λ v. v) args w ws e) ((omega (arith, r.1, f.0), r.0), ap (λ (x : ℕ). suc (x - rank_of ranks w)) r.1)
  fill_height h args p (param {i} {k} {w} {ws} e o) l f =
      let r = fill_height h args p o (omega arith) f.1 in
      let s = tree_front ranks h (get_or args i []) (fill (λ v. v) args ws) (every_at (Tree ranks) args p [] i (omega arith)) r.0 in
      let z : rank_of ranks w ≡ 0 = ap (rank_as ranks) e in
      rw (fill_param (λ v. v) args i w ws e) (s.0, omega (arith, s.1, r.1))

  pub fill_tree : (args : List (List ℕ)) → Every (Tree ranks) args → {k : ℕ} {ws : List ℕ} → InOrder 0 k ws → length args ≡ k → Tree ranks ws → Tree ranks (fill (λ v. v) args ws)
  fill_tree args p o l t =
      let r = fill_height 0 args p o (l ∙ omega arith) t.0 in
      (r.0, r.1 ∙ t.1)

pub fill_all : (test : ℕ → Bool) (args : List (List ℕ)) → Every (λ ws. T (all test ws)) args → {i k : ℕ} {ws : List ℕ} → InOrder i k ws → length args ≡ i + k
    → T (all test ws) → T (all test (fill (λ v. v) args ws))
fill_all test args p ended l t = tt
fill_all test args p (node {w = w} {ws = ws} e o) l t =
    let s = all_cons test w ws t in
    rw (fill_node (λ v. v) args w ws e) (yes_and (test w) (all test (fill (λ v. v) args ws)) s.0 (fill_all test args p o l s.1))
fill_all test args p (param {i} {k} {w} {ws} e o) l t =
    let s = all_cons test w ws t in
    rw (fill_param (λ v. v) args i w ws e)
    (all_append test (get_or args i []) (fill (λ v. v) args ws) (every_at (λ ws. T (all test ws)) args p [] i (omega arith)) (fill_all test args p o (omega arith) s.1))

pub join_all : (test : ℕ → Bool) (ts : List (List ℕ)) → Every (λ ws. T (all test ws)) ts → T (all test (join ts))
join_all test [] p = tt
join_all test (t ∷ ts) p = all_append test t (join ts) p.0 (join_all test ts p.1)

-- what an expansion is: one complete tree of labels, ⊥ and parameters
abbrev pub grown_word : ℕ → Bool
grown_word w = is_tree_word w || is_parameter w

abbrev pub Grown : List ℕ → Type 0
Grown ws = Tree [] ws × T (all grown_word ws)

grown_trees : (ts : List (List ℕ)) → Every Grown ts → Every (Tree []) ts
grown_trees [] p = tt
grown_trees (t ∷ ts) p = (p.0.0, grown_trees ts p.1)

grown_words : (ts : List (List ℕ)) → Every Grown ts → Every (λ ws. T (all grown_word ws)) ts
grown_words [] p = tt
grown_words (t ∷ ts) p = (p.0.1, grown_words ts p.1)

-- a legal word that is no call is a word of a tree, with the same rank whatever is called
legal_other : (n w : ℕ) → T (is_legal n w) → ((j : ℕ) → class_of w ≡ call j → ⊥) → (ranks : List ℕ) → T (grown_word w) × (rank_of ranks w ≡ rank_of [] w)
legal_other n w t other ranks = go (class_of w) t other
  where
    go : (c : Class) → T (is_legal_as n c) → ((j : ℕ) → c ≡ call j → ⊥)
        → T (is_tree_word_as c || is_parameter_as c)
        × ◌≡◌ {A = ℕ} (rank_as ranks c) (rank_as [] c)
    go empty t other = (tt, refl)
    go label t other = (tt, refl)
    go (parameter i) t other = (tt, refl)
    go (call j) t other = absurd (other j refl)
    go illegal t other = absurd t

module _ (n : ℕ) (ranks : List ℕ) (lower : List (List ℕ)) (env : Env ranks lower) (grown : (j : ℕ) → j < n → Grown (get_or lower j [])) where
  grow_grown : (w : ℕ) (children : List (List ℕ)) → T (is_legal n w) → Every Grown children → length children ≡ rank_of ranks w → Grown (grow (λ v. v) lower w children)
  grow_grown w children t p h =
      by_call _ w
      (λ j e.
      let g = grown j (legal_call n w j e t) in
      let l : length children ≡ get_or ranks j 0 = h ∙ rank_call ranks w j e in
      rw (grow_call (λ v. v) lower children w j e) (
        fill_tree [] children (grown_trees children p) (env_order ranks lower env j) l g.0,
        fill_all grown_word children (grown_words children p) (env_order ranks lower env j) (l ∙ omega arith) g.1,
      ))
      (λ other.
      let o = legal_other n w t other ranks in
      rw (grow_other (λ v. v) lower children w other) (
        tree_over [] w children (h ∙ o.1) (every_at (Tree []) children (grown_trees children p) []),
        yes_and (grown_word w) (all grown_word (join children)) o.0 (join_all grown_word children (grown_words children p)),
      ))

  pub stack_grown : (ws : List ℕ) (stack : List (List ℕ)) → T (all (is_legal n) ws) → Fits (rank_of ranks) (length stack) ws → Every Grown stack → Every Grown (stack_of ranks lower ws stack)
  stack_grown [] stack t f p = p
  stack_grown (w ∷ ws) stack t f p =
      let s = all_cons (is_legal n) w ws t in
      let S = stack_of ranks lower ws stack in
      let k = rank_of ranks w in
      let q : Every Grown S = stack_grown ws stack s.1 f.1 p in
      (grow_grown w (take k S) s.0 (every_take Grown k S q) (length-take-le k S (rw length_fold f.0)), every_drop Grown k S q)

  pub expand_grown : (ws : List ℕ) → T (all (is_legal n) ws) → Tree ranks ws → Grown (expand ranks lower ws)
  expand_grown ws t tr = (rw (stack_tree ranks lower ws [] tr) at (stack_grown ws [] t tr.0 tt)).0
