-- The published update on trees is the model's on words: a tree's words are those before a node, those of the subtree at it and those behind it, and an update puts other words for
-- the subtree's. And a plain list of words is the words of exactly one tree, since each word's rank says how many of the trees behind it are its children.
use Prim.Native.Nat.{ℕ, zero, suc, ◌-◌, ◌≤◌, ◌<◌}
use native.Mathlib.Omega.{arith}
use mathlib.Core.Path.{◌≡◌, refl, sym, ap, ap₂, subst, ◌∙◌}
use mathlib.Core.Bool.{Bool, true, false, cond, ◌&&◌}
use mathlib.Core.List.{List, [], ◌∷◌, ◌++◌, map, append_assoc, append-nil}
use lib.Dec.{T, ltb, eqb}
use borrow.Author.Tests.{ltb-true, ltb-false, eqb-true, eqb-false}
use mir.Facts.{and_yes, yes_and}
use lib.ListN.{length, take, drop, get_or, length-append}
use lib.Seq.{take-append_seam, get_or-append_seam}
use Rattle.model.specs.Words.{class_of, rank_of, is_label, is_tree_word}
use Rattle.model.specs.Trees.{all, join, fold, push, is_tree, is_plain_tree}
use Rattle.model.specs.Edits.{Edit, rename, insert, delete, Update, updated}
use Rattle.laws.specs.Formed.{Fits, Tree}
use Rattle.laws.specs.Orders.{Plain, Suits, SuitsAs}
use Rattle.laws.specs.Published.{BinaryTree, empty_tree, element, words_of, labelled, replaced_at, relabelled, deleted, inserted_before, rooted, tree_in, OneTree, published_as, published}
use Rattle.laws.proofs.Trees.Folds.{length_fold, tree_over, tree_is_tree, is_tree_tree}
use Rattle.laws.proofs.Words.Classes.{label_rank, label_explicit, element_label}
use Rattle.laws.proofs.Words.Lists.{all_cons, all_append}
use Rattle.laws.proofs.Edits.Edited.{rename_between, insert_between, delete_between}

empty_rank : rank_of [] 0 ≡ 0
unfolding class_of
empty_rank = refl

empty_explicit : T (is_tree_word 0)
unfolding class_of
empty_explicit = tt

-- a label over trees that are labelled
pub labels : (l : ℕ) (t₁ t₂ : BinaryTree) → T (labelled (element l t₁ t₂)) → T (is_label l) × T (labelled t₁) × T (labelled t₂)
labels l t₁ t₂ t =
    let (front, second) = and_yes (is_label l && labelled t₁) (labelled t₂) t in
    let (here, first) = and_yes (is_label l) (labelled t₁) front in
    (here, first, second)

-- Exactly one tree: the trees that a list of words is.
abbrev trees_in : List ℕ → List BinaryTree
trees_in ws = fold (rank_of []) rooted ws []

-- a tree's words are read as the tree, before those that stand behind
trees_of : (t : BinaryTree) → T (labelled t) → (ws : List ℕ) → trees_in (words_of t ++ ws) ≡ t ∷ trees_in ws
trees_of empty_tree h ws = ap (λ (k : ℕ). rooted 0 (take k (trees_in ws)) ∷ drop k (trees_in ws)) empty_rank
trees_of (element l t₁ t₂) h ws =
    let (here, first, second) = labels l t₁ t₂ h in
    ap (λ (vs : List ℕ). trees_in (l ∷ vs)) (append_assoc (words_of t₁) (words_of t₂) ws)
    ∙ ap (push (rank_of []) rooted l) (trees_of t₁ first (words_of t₂ ++ ws) ∙ ap (λ (ts : List BinaryTree). t₁ ∷ ts) (trees_of t₂ second ws))
    ∙ ap (λ (k : ℕ). rooted l (take k (t₁ ∷ t₂ ∷ trees_in ws)) ∷ drop k (t₁ ∷ t₂ ∷ trees_in ws)) (label_rank [] l here)

pub tree_words : (t : BinaryTree) → T (labelled t) → tree_in (words_of t) ≡ t
tree_words t h = ap tree_in (sym (append-nil (words_of t))) ∙ ap (λ (ts : List BinaryTree). get_or ts 0 empty_tree) (trees_of t h [])

-- words that fit are the words of the trees that they are read as
abbrev AllLabelled : List BinaryTree → Type 0
AllLabelled [] = Unit {0}
AllLabelled (t ∷ ts) = T (labelled t) × AllLabelled ts

record Read (ws : List ℕ) (ts : List BinaryTree) : Type 0 where
  words : join (map words_of ts) ≡ ws
  all_labelled : AllLabelled ts

read_words : (ws : List ℕ) → T (all is_tree_word ws) → Fits (rank_of []) 0 ws → Read ws (trees_in ws)
read_words [] t f = record { words = refl; all_labelled = tt }
read_words (w ∷ ws) t f =
    let (here, behind) = all_cons is_tree_word w ws t in
    go (eqb w 0) refl here (trees_in ws) (read_words ws behind f.1) (rw (length_fold (rank_of []) rooted ws []) f.0)
  where
    go : (b : Bool) → eqb w 0 ≡ b → T (is_tree_word w) → (ts : List BinaryTree) → Read ws ts → rank_of [] w ≤ length ts → Read (w ∷ ws) (push (rank_of []) rooted w ts)
    go true e here ts r many =
        let zero_here : w ≡ 0 = eqb-true w 0 e in
        let none : rank_of [] w ≡ 0 = ap (rank_of []) zero_here ∙ empty_rank in
        subst (λ (k : ℕ). Read (w ∷ ws) (rooted w (take k ts) ∷ drop k ts)) (sym none)
        (record { words = ap₂ (λ (v : ℕ) (vs : List ℕ). v ∷ vs) (sym zero_here) r.words; all_labelled = (tt, r.all_labelled) })
    go false e here ts r many =
        let is_label_lem : T (is_label w) = element_label w here (eqb-false w 0 e) in
        let two : rank_of [] w ≡ 2 = label_rank [] w is_label_lem in
        subst (λ (k : ℕ). Read (w ∷ ws) (rooted w (take k ts) ∷ drop k ts)) (sym two) (on is_label_lem ts r (rw two at many))
      where
        on : T (is_label w) → (ts : List BinaryTree) → Read ws ts → 2 ≤ length ts → Read (w ∷ ws) (rooted w (take 2 ts) ∷ drop 2 ts)
        on l [] r h = absurd (omega arith)
        on l (a ∷ []) r h = absurd (omega arith)
        on l (a ∷ b ∷ ts) r h =
            record {
              words = ap (λ (vs : List ℕ). w ∷ vs) (append_assoc (words_of a) (words_of b) (join (map words_of ts)) ∙ r.words);
              all_labelled = (yes_and (is_label w && labelled a) (labelled b) (yes_and (is_label w) (labelled a) l r.all_labelled.0) r.all_labelled.1.0, r.all_labelled.1.1);
            }

plain_read : (ws : List ℕ) → Plain ws → (words_of (tree_in ws) ≡ ws) × T (labelled (tree_in ws))
plain_read ws p = go (trees_in ws) (read_words ws p.words p.tree.0) (length_fold (rank_of []) rooted ws [] ∙ p.tree.1)
  where
    go : (ts : List BinaryTree) → Read ws ts → length ts ≡ 1 → (words_of (get_or ts 0 empty_tree) ≡ ws) × T (labelled (get_or ts 0 empty_tree))
    go [] r e = absurd (omega arith)
    go (t ∷ []) r e = (sym (append-nil (words_of t)) ∙ r.words, r.all_labelled.0)
    go (t ∷ s ∷ ts) r e = absurd (omega arith)

-- a labelled tree's words are plain
pub words_plain : (t : BinaryTree) → T (labelled t) → Plain (words_of t)
words_plain empty_tree h = record { tree = tree_over [] 0 [] (sym empty_rank) (λ i k. absurd (omega arith)); words = yes_and (is_tree_word 0) true empty_explicit tt }
words_plain (element l t₁ t₂) h =
    let (here, first, second) = labels l t₁ t₂ h in
    let p = words_plain t₁ first in
    let q = words_plain t₂ second in
    record {
      tree = subst (λ (vs : List ℕ). Tree [] (l ∷ words_of t₁ ++ vs)) (append-nil (words_of t₂)) (tree_over [] l (words_of t₁ ∷ words_of t₂ ∷ []) (sym (label_rank [] l here)) (both p q));
      words = yes_and (is_tree_word l) (all is_tree_word (words_of t₁ ++ words_of t₂)) (label_explicit l here) (all_append is_tree_word (words_of t₁) (words_of t₂) p.words q.words);
    }
  where
    both : Plain (words_of t₁) → Plain (words_of t₂) → (i : ℕ) → i < 2 → Tree [] (get_or (words_of t₁ ∷ words_of t₂ ∷ []) i [])
    both p q zero k = p.tree
    both p q (suc zero) k = q.tree
    both p q (suc (suc i)) k = absurd (omega arith)

-- so every plain list of words is the words of exactly one tree
pub plain_one : (ws : List ℕ) → Plain ws → OneTree ws
plain_one ws p =
    record { words = (plain_read ws p).0; is_labelled = (plain_read ws p).1; only = λ t h e. sym (tree_words t h) ∙ ap tree_in e }

pub one_tree : (ws : List ℕ) → T (is_plain_tree ws) → OneTree ws
one_tree ws t = let (words, tree) = and_yes (all is_tree_word ws) (is_tree [] ws) t in plain_one ws (record { tree = is_tree_tree [] ws tree; words = words })

pub words_plain_tree : (t : BinaryTree) → T (labelled t) → T (is_plain_tree (words_of t))
words_plain_tree t h = let p = words_plain t h in yes_and (all is_tree_word (words_of t)) (is_tree [] (words_of t)) p.words (tree_is_tree [] (words_of t) p.tree)

-- The subtree at a node, with the words before it and behind it, whatever is put in its place.
pub record Around (t : BinaryTree) (p : ℕ) : Type 0 where
  pub before : List ℕ
  pub here : BinaryTree
  pub behind : List ℕ
  pub place : length before ≡ p
  pub is_labelled : T (labelled here)
  pub words : words_of t ≡ before ++ (words_of here ++ behind)
  pub made : (f : BinaryTree → BinaryTree) → words_of (replaced_at f t p) ≡ before ++ (words_of (f here) ++ behind)

around_root : (t : BinaryTree) → T (labelled t) → ((f : BinaryTree → BinaryTree) → replaced_at f t 0 ≡ f t) → Around t 0
around_root t h e =
    record { before = []; here = t; behind = []; place = refl; is_labelled = h; words = sym (append-nil (words_of t)); made = λ f. ap words_of (e f) ∙ sym (append-nil (words_of (f t))) }

pub around : (t : BinaryTree) → T (labelled t) → (p : ℕ) → p < length (words_of t) → Around t p
around empty_tree h zero b = around_root empty_tree h (λ f. refl)
around empty_tree h (suc p) b = absurd (omega arith)
around (element l t₁ t₂) h zero b = around_root (element l t₁ t₂) h (λ f. refl)
around (element l t₁ t₂) h (suc p) b =
    let (here, first, second) = labels l t₁ t₂ h in
    go (ltb p (length (words_of t₁))) refl (λ k. around t₁ first p k) (λ k. around t₂ second (p - length (words_of t₁)) k)
  where
    n : ℕ
    n = length (words_of t₁)

    go : (c : Bool) → ltb p n ≡ c → (p < n → Around t₁ p) → (p - n < length (words_of t₂) → Around t₂ (p - n)) → Around (element l t₁ t₂) (suc p)
    go true e in-first in-second =
        let x = in-first (ltb-true p n e) in
        let back : (vs : List ℕ) → (x.before ++ (vs ++ x.behind)) ++ words_of t₂ ≡ x.before ++ (vs ++ (x.behind ++ words_of t₂)) = λ vs. simp append_assoc in
        record {
          before = l ∷ x.before;
          here = x.here;
          behind = x.behind ++ words_of t₂;
          place = ap suc x.place;
          is_labelled = x.is_labelled;
          words = ap (λ (vs : List ℕ). l ∷ vs) (ap (λ (vs : List ℕ). vs ++ words_of t₂) x.words ∙ back (words_of x.here));
          made = λ f.
              ap (λ (c : Bool). words_of (cond c (element l (replaced_at f t₁ p) t₂) (element l t₁ (replaced_at f t₂ (p - n))))) e
              ∙ ap (λ (vs : List ℕ). l ∷ vs) (ap (λ (vs : List ℕ). vs ++ words_of t₂) (x.made f) ∙ back (words_of (f x.here)));
        }
    go false e in-first in-second =
        let late : n ≤ p = ltb-false p n e in
        let x = in-second (omega (arith, length-append (words_of t₁) (words_of t₂))) in
        let front : (vs : List ℕ) → words_of t₁ ++ (x.before ++ (vs ++ x.behind)) ≡ (words_of t₁ ++ x.before) ++ (vs ++ x.behind) = λ vs. sym (append_assoc (words_of t₁) x.before (vs ++ x.behind)) in
        record {
          before = l ∷ words_of t₁ ++ x.before;
          here = x.here;
          behind = x.behind;
          place = ap suc (length-append (words_of t₁) x.before ∙ omega (arith, x.place));
          is_labelled = x.is_labelled;
          words = ap (λ (vs : List ℕ). l ∷ vs) (ap (λ (vs : List ℕ). words_of t₁ ++ vs) x.words ∙ front (words_of x.here));
          made = λ f.
              ap (λ (c : Bool). words_of (cond c (element l (replaced_at f t₁ p) t₂) (element l t₁ (replaced_at f t₂ (p - n))))) e
              ∙ ap (λ (vs : List ℕ). l ∷ vs) (ap (λ (vs : List ℕ). words_of t₁ ++ vs) (x.made f) ∙ front (words_of (f x.here)));
        }

-- all words of a tree but the last, which is ⊥
pub front : BinaryTree → List ℕ
front empty_tree = []
front (element l t₁ t₂) = l ∷ words_of t₁ ++ front t₂

front_words : (t : BinaryTree) → words_of t ≡ front t ++ 0 ∷ []
unfolding front
front_words empty_tree = refl
front_words (element l t₁ t₂) = ap (λ (vs : List ℕ). l ∷ vs) (ap (λ (vs : List ℕ). words_of t₁ ++ vs) (front_words t₂) ∙ sym (append_assoc (words_of t₁) (front t₂) (0 ∷ [])))

pub inserted_words : (s t : BinaryTree) → words_of (inserted_before s t) ≡ front s ++ words_of t
unfolding front
inserted_words empty_tree t = refl
inserted_words (element r t₁ t₂) t = ap (λ (vs : List ℕ). r ∷ vs) (ap (λ (vs : List ℕ). words_of t₁ ++ vs) (inserted_words t₂ t) ∙ sym (append_assoc (words_of t₁) (front t₂) (words_of t)))

pub front_taken : (s : List ℕ) → Plain s → take (length s - 1) s ≡ front (tree_in s)
front_taken s p =
    let f = front (tree_in s) in
    let whole : s ≡ f ++ 0 ∷ [] = sym (plain_read s p).0 ∙ front_words (tree_in s) in
    let long : length (f ++ 0 ∷ []) - 1 ≡ length f = omega (arith, length-append f (0 ∷ [])) in
    ap (λ (vs : List ℕ). take (length vs - 1) vs) whole
    ∙ ap (λ (n : ℕ). take n (f ++ 0 ∷ [])) long
    ∙ take-append_seam f (0 ∷ [])

-- Section 4.1's updates, on words.
pub published_words : (t : BinaryTree) → T (labelled t) → (u : Update) → Suits (words_of t) u → words_of (published u t) ≡ updated u (words_of t)
published_words t h u s = go u.edit s.1
  where
    x : Around t u.at
    x = around t h u.at s.0

    xs : List ℕ
    xs = x.before

    ys : List ℕ
    ys = x.behind

    at_end : (e : Edit) → updated (record { at = length xs; edit = e }) (xs ++ (words_of x.here ++ ys)) ≡ updated (record { at = u.at; edit = e }) (words_of t)
    at_end e = ap₂ (λ (n : ℕ) (ws : List ℕ). updated (record { at = n; edit = e }) ws) x.place (sym x.words)

    plain : Plain (xs ++ (words_of x.here ++ ys))
    plain = subst Plain x.words (words_plain t h)

    first : (w : ℕ) (ws : List ℕ) → words_of x.here ≡ w ∷ ws → get_or (words_of t) u.at 0 ≡ w
    first w ws e =
        ap₂ (λ (n : ℕ) (vs : List ℕ). get_or vs n 0) (sym x.place) (x.words ∙ ap (λ (vs : List ℕ). xs ++ (vs ++ ys)) e) ∙ get_or-append_seam xs w (ws ++ ys) 0

    relabels : (l : ℕ) (here : BinaryTree) → x.here ≡ here → (get_or (words_of t) u.at 0 ≡ 0 → ⊥)
        → xs ++ (words_of (relabelled l here) ++ ys) ≡ updated (record { at = length xs; edit = rename l }) (xs ++ (words_of here ++ ys))
    relabels l empty_tree e n = absurd (n (first 0 [] (ap words_of e)))
    relabels l (element k t₁ t₂) e n = sym (rename_between l k xs ((words_of t₁ ++ words_of t₂) ++ ys))

    deletes : (here : BinaryTree) → x.here ≡ here → (get_or (words_of t) u.at 0 ≡ 0 → ⊥)
        → xs ++ (words_of (deleted here) ++ ys) ≡ updated (record { at = length xs; edit = delete }) (xs ++ (words_of here ++ ys))
    deletes empty_tree e n = absurd (n (first 0 [] (ap words_of e)))
    deletes (element k t₁ t₂) e n =
        let inside = subst (λ (z : BinaryTree). T (labelled z)) e x.is_labelled in
        let apart : xs ++ (k ∷ (words_of t₁ ++ (words_of t₂ ++ ys))) ≡ xs ++ (words_of (element k t₁ t₂) ++ ys) = ap (λ (vs : List ℕ). xs ++ k ∷ vs) (sym (append_assoc (words_of t₁) (words_of t₂) ys)) in
        sym (delete_between k xs (words_of t₁) (words_of t₂ ++ ys) (λ z. n (first k (words_of t₁ ++ words_of t₂) (ap words_of e) ∙ z))
        (words_plain t₁ (labels k t₁ t₂ inside).1).tree
        (subst Plain (ap (λ (z : BinaryTree). xs ++ (words_of z ++ ys)) e ∙ sym apart) plain))
        ∙ ap (updated (record { at = length xs; edit = delete })) apart

    go : (e : Edit) → SuitsAs (words_of t) u.at e → words_of (replaced_at (published_as e) t u.at) ≡ updated (record { at = u.at; edit = e }) (words_of t)
    go (rename l) k = x.made (relabelled l) ∙ relabels l x.here refl k.0 ∙ at_end (rename l)
    go (insert f) k =
        let p = and_yes (all is_tree_word f) (is_tree [] f) k in
        x.made (inserted_before (tree_in f))
        ∙ ap (λ (vs : List ℕ). xs ++ (vs ++ ys)) (inserted_words (tree_in f) x.here ∙ ap (λ (vs : List ℕ). vs ++ words_of x.here) (sym (front_taken f (record { tree = is_tree_tree [] f p.1; words = p.0 }))))
        ∙ ap (λ (vs : List ℕ). xs ++ vs) (append_assoc (take (length f - 1) f) (words_of x.here) ys)
        ∙ sym (insert_between f xs (words_of x.here ++ ys) plain)
        ∙ at_end (insert f)
    go delete k = x.made deleted ∙ deletes x.here refl k ∙ at_end delete
