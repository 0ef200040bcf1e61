-- What one update makes of a plain tree, word by word, and that it is a plain tree again. An insert puts a part of a tree before a tree, a delete takes a
-- label with its first child away: either way as many trees stand on the stack after it as before.
use Prim.Native.Nat.{ℕ, suc, ◌+◌, ◌-◌, ◌≤◌, ◌<◌}
use native.Mathlib.Numerals.{add-one}
use native.Mathlib.Omega.{arith}
use mathlib.Core.Path.{◌≡◌, refl, sym, ap, ◌∙◌}
use mathlib.Core.List.{List, [], ◌∷◌, ◌++◌, append_assoc, append-nil}
use lib.Dec.{T}
use lib.ListN.{length, take, drop, get_or, length-append, length-drop, take-append-drop, drop_of_length-le}
use lib.Seq.{drop-cons, drop-drop, drop-append_seam, drop-append-add, take-append_seam, drop_at, append_snoc, get_or-append_seam}
use Rattle.model.specs.Words.{rank_of, is_tree_word, is_label}
use Rattle.model.specs.Trees.{join, forest}
use Rattle.model.specs.Edits.{Edit, rename, insert, delete, Update, subtree, child, updated, added, took, took_as}
use Rattle.laws.specs.Formed.{Fits, Tree}
use Rattle.laws.specs.Orders.{Plain, Suits}
use Rattle.laws.proofs.Trees.Folds.{fits_split, length_fold, forest_join, forest_tree, forest_trees}
use Rattle.laws.proofs.Words.Lists.{all_at}
use Rattle.laws.proofs.Words.Classes.{element_label, label_rank}
use Rattle.laws.proofs.Edits.Editing.{edit_keeps_tree, edit_keeps_all, edit_length, took_words}

-- the words from p on fit, whatever stands before them
fits_drop : (ws : List ℕ) (p : ℕ) → Fits (rank_of []) 0 ws → Fits (rank_of []) 0 (drop p ws)
fits_drop ws p f = (fits_split (rank_of []) (take p ws) (drop p ws) 0 (rw (take-append-drop p ws) f)).1

-- the first tree of the words, and the words behind it
first_drop : (ws : List ℕ) → Fits (rank_of []) 0 ws → subtree [] 0 ws ++ drop (length (subtree [] 0 ws)) ws ≡ ws
first_drop ws f = go (forest [] ws) (forest_join [] ws f)
  where
    go : (trees : List (List ℕ)) → join trees ≡ ws → get_or trees 0 [] ++ drop (length (get_or trees 0 [])) ws ≡ ws
    go [] e = refl
    go (t ∷ ts) e = rw (← e, drop-append_seam t (join ts))

-- "the element word at p becomes the label"
pub rename_puts : (ws : List ℕ) (p l : ℕ) → updated (record { at = p; edit = rename l }) ws ≡ take p ws ++ l ∷ drop (suc p) ws
rename_puts ws p l = append_snoc (take p ws) l (drop (p + 1) ws) ∙ ap (λ (k : ℕ). take p ws ++ l ∷ drop k ws) (add-one p)

-- "all words of s but the last are put before position p"
pub insert_before : (ws : List ℕ) (p : ℕ) (s : List ℕ) → Plain ws
    → updated (record { at = p; edit = insert s }) ws ≡ take p ws ++ take (length s - 1) s ++ drop p ws
insert_before ws p s t =
    let at = subtree [] p ws in
    let last : drop (length s - 1 + 1) s ≡ [] = drop_of_length-le s {i = length s - 1 + 1} (omega arith) in
    let whole : at ++ drop (p + length at) ws ≡ drop p ws = ap (λ (l : List ℕ). at ++ l) (sym (drop-drop (length at) p ws)) ∙ first_drop (drop p ws) (fits_drop ws p t.tree.0) in
    simp (last, append-nil, append_assoc, whole)

label_at : (ws : List ℕ) (p : ℕ) → Plain ws → p < length ws → (get_or ws p 0 ≡ 0 → ⊥) → T (is_label (get_or ws p 0))
label_at ws p t h n = element_label (get_or ws p 0) (all_at is_tree_word ws t.words p h) n

-- an element's label, its first child, its second and what stands behind them
record Element (ws : List ℕ) (p : ℕ) : Type 0 where
  word : ℕ
  first : List ℕ
  second : List ℕ
  rest : List ℕ
  word_here : get_or ws p 0 ≡ word
  is_label_lem : T (is_label word)
  first_tree : Tree [] first
  second_tree : Tree [] second
  first_child : child [] 1 p ws ≡ first
  second_child : child [] 2 p ws ≡ second
  here : drop p ws ≡ word ∷ first ++ (second ++ rest)

element : (ws : List ℕ) (p : ℕ) → Plain ws → p < length ws → (get_or ws p 0 ≡ 0 → ⊥) → Element ws p
element ws p t h n = go (forest [] behind) refl two
  where
    behind : List ℕ
    behind = drop (suc p) ws

    w : ℕ
    w = get_or ws p 0

    is_label_lem : T (is_label w)
    is_label_lem = label_at ws p t h n

    fits : Fits (rank_of []) 0 (w ∷ behind)
    fits = rw (drop-cons ws p 0 h) at (fits_drop ws p t.tree.0)

    two : 2 ≤ length (forest [] behind)
    two = rw (length_fold (rank_of []) (λ w trees. w ∷ join trees) behind [], ← label_rank [] w is_label_lem) fits.0

    go : (trees : List (List ℕ)) → forest [] behind ≡ trees → 2 ≤ length trees → Element ws p
    go [] e h = absurd (omega arith)
    go (a ∷ []) e h = absurd (omega arith)
    go (a ∷ b ∷ rest) e two =
        record {
          word = w;
          first = a;
          second = b;
          rest = join rest;
          word_here = refl;
          is_label_lem = is_label_lem;
          first_tree = rw e at (forest_trees [] behind fits.1 0 (rw e (omega arith)));
          second_tree = rw e at (forest_trees [] behind fits.1 1 (rw e (omega arith)));
          first_child = ap (λ (trees : List (List ℕ)). get_or trees 0 []) e;
          second_child = ap (λ (trees : List (List ℕ)). get_or trees 1 []) e;
          here = drop-cons ws p 0 h ∙ ap (λ (l : List ℕ). w ∷ l) (sym (forest_join [] behind fits.1) ∙ ap join e);
        }

element_subtree : (ws : List ℕ) (p : ℕ) (x : Element ws p) → subtree [] p ws ≡ x.word ∷ x.first ++ x.second
element_subtree ws p x =
    let w = x.word in
    let behind = x.first ++ (x.second ++ x.rest) in
    let trees : forest [] behind ≡ x.first ∷ x.second ∷ forest [] x.rest =
    forest_tree [] x.first (x.second ++ x.rest) x.first_tree
    ∙ ap (λ (l : List (List ℕ)). x.first ∷ l) (forest_tree [] x.second x.rest x.second_tree) in
    ap (λ (l : List ℕ). get_or (forest [] l) 0 []) x.here
    ∙ ap (λ (n : ℕ). w ∷ join (take n (forest [] behind))) (label_rank [] w x.is_label_lem)
    ∙ ap (λ (l : List (List ℕ)). w ∷ join (take 2 l)) trees
    ∙ ap (λ (l : List ℕ). w ∷ x.first ++ l) (append-nil x.second)

-- the words that a delete takes: the label and the first child, which is a tree
pub delete_span : (ws : List ℕ) (p : ℕ) → Plain ws → p < length ws → (get_or ws p 0 ≡ 0 → ⊥)
    → (take (suc (length (child [] 1 p ws))) (drop p ws) ≡ get_or ws p 0 ∷ child [] 1 p ws) × Tree [] (child [] 1 p ws)
delete_span ws p t h n = go (element ws p t h n)
  where
    go : Element ws p → (take (suc (length (child [] 1 p ws))) (drop p ws) ≡ get_or ws p 0 ∷ child [] 1 p ws) × Tree [] (child [] 1 p ws)
    go x =
        let here : drop p ws ≡ get_or ws p 0 ∷ child [] 1 p ws ++ (x.second ++ x.rest) =
        x.here ∙ ap (λ (w : ℕ). w ∷ x.first ++ (x.second ++ x.rest)) (sym x.word_here) ∙ ap (λ (l : List ℕ). get_or ws p 0 ∷ l ++ (x.second ++ x.rest)) (sym x.first_child) in (
          ap (take (suc (length (child [] 1 p ws)))) here ∙ take-append_seam (get_or ws p 0 ∷ child [] 1 p ws) (x.second ++ x.rest),
          rw x.first_child x.first_tree,
        )

next_drop : (xs : List ℕ) (w : ℕ) (ys : List ℕ) → drop (suc (length xs)) (xs ++ w ∷ ys) ≡ ys
next_drop [] w ys = refl
next_drop (x ∷ xs) w ys = next_drop xs w ys

-- the words behind a front of the words at p
drop_front : (ws : List ℕ) (p k : ℕ) (front back : List ℕ) → length front ≡ k → drop p ws ≡ front ++ back → drop (p + k) ws ≡ back
drop_front ws p k front back e f = sym (drop-drop k p ws) ∙ ap (drop k) f ∙ drop_at front back k e

element_gone : (ws : List ℕ) (p : ℕ) (x : Element ws p) → drop (p + suc (length (child [] 1 p ws))) ws ≡ x.second ++ x.rest
element_gone ws p x =
    drop_front ws p (suc (length (child [] 1 p ws))) (x.word ∷ x.first) (x.second ++ x.rest) (ap (λ (l : List ℕ). suc (length l)) (sym x.first_child)) x.here

-- the words that a delete takes are there
pub delete_room : (ws : List ℕ) (p : ℕ) → Plain ws → p < length ws → (get_or ws p 0 ≡ 0 → ⊥) → p + suc (length (child [] 1 p ws)) ≤ length ws
delete_room ws p t h n = go (element ws p t h n)
  where
    go : Element ws p → p + suc (length (child [] 1 p ws)) ≤ length ws
    go x =
        let long : length ws - p ≡ suc (length (child [] 1 p ws) + length (x.second ++ x.rest)) =
        sym (length-drop p ws) ∙ ap length x.here ∙ ap suc (length-append x.first (x.second ++ x.rest) ∙ ap (λ (l : List ℕ). length l + length (x.second ++ x.rest)) (sym x.first_child)) in
        omega arith

-- "The word l and the words of t1 go."
pub delete_drops : (ws : List ℕ) (p : ℕ) → Plain ws → p < length ws → (get_or ws p 0 ≡ 0 → ⊥)
    → updated (record { at = p; edit = delete }) ws ≡ take p ws ++ drop (p + suc (length (child [] 1 p ws))) ws
delete_drops ws p t h n = go (element ws p t h n)
  where
    go : Element ws p → updated (record { at = p; edit = delete }) ws ≡ take p ws ++ drop (p + suc (length (child [] 1 p ws))) ws
    go x =
        let all_gone : drop (p + length (subtree [] p ws)) ws ≡ x.rest =
        drop_front ws p (length (subtree [] p ws)) (x.word ∷ x.first ++ x.second) x.rest (ap length (sym (element_subtree ws p x)))
        (x.here ∙ ap (λ (l : List ℕ). x.word ∷ l) (sym (append_assoc x.first x.second x.rest))) in
        append_assoc (take p ws) (child [] 2 p ws) (drop (p + length (subtree [] p ws)) ws)
        ∙ ap (λ (l : List ℕ). take p ws ++ l)
        (ap (λ (l : List ℕ). child [] 2 p ws ++ l) all_gone ∙ ap (λ (l : List ℕ). l ++ x.rest) x.second_child ∙ sym (element_gone ws p x))

-- the three updates between the words xs and what stands behind them
pub rename_between : (l w : ℕ) (xs ys : List ℕ) → updated (record { at = length xs; edit = rename l }) (xs ++ w ∷ ys) ≡ xs ++ l ∷ ys
rename_between l w xs ys =
    rename_puts (xs ++ w ∷ ys) (length xs) l
    ∙ ap (λ (k : List ℕ). k ++ l ∷ drop (suc (length xs)) (xs ++ w ∷ ys)) (take-append_seam xs (w ∷ ys))
    ∙ ap (λ (k : List ℕ). xs ++ l ∷ k) (next_drop xs w ys)

pub insert_between : (s xs ys : List ℕ) → Plain (xs ++ ys) → updated (record { at = length xs; edit = insert s }) (xs ++ ys) ≡ xs ++ (take (length s - 1) s ++ ys)
insert_between s xs ys t =
    insert_before (xs ++ ys) (length xs) s t
    ∙ append_assoc (take (length xs) (xs ++ ys)) (take (length s - 1) s) (drop (length xs) (xs ++ ys))
    ∙ simp (take-append_seam, drop-append_seam)

pub delete_between : (w : ℕ) (xs t ys : List ℕ) → (w ≡ 0 → ⊥) → Tree [] t → Plain (xs ++ (w ∷ t ++ ys)) → updated (record { at = length xs; edit = delete }) (xs ++ (w ∷ t ++ ys)) ≡ xs ++ ys
delete_between w xs t ys n f plain =
    let ws = xs ++ (w ∷ t ++ ys) in
    let first : child [] 1 (length xs) ws ≡ t =
    ap (λ (l : List ℕ). get_or (forest [] l) 0 []) (next_drop xs w (t ++ ys)) ∙ ap (λ (l : List (List ℕ)). get_or l 0 []) (forest_tree [] t ys f) in
    let gone : drop (length xs + suc (length t)) ws ≡ ys = drop-append-add xs (w ∷ t ++ ys) (suc (length t)) ∙ drop-append_seam (w ∷ t) ys in
    delete_drops ws (length xs) plain (simp length-append (omega arith)) (λ e. n (sym (get_or-append_seam xs w (t ++ ys) 0) ∙ e))
    ∙ ap (λ (l : List ℕ). take (length xs) ws ++ drop (length xs + suc (length l)) ws) first
    ∙ ap (λ (l : List ℕ). l ++ drop (length xs + suc (length t)) ws) (take-append_seam xs (w ∷ t ++ ys))
    ∙ ap (λ (l : List ℕ). xs ++ l) gone

-- an update of a plain tree makes a plain tree, and its length is what was added more and what was taken less
module _ (ws : List ℕ) (u : Update) (t : Plain ws) (s : Suits ws u) where
  explicit : T (is_tree_word (get_or ws u.at 0))
  explicit = all_at is_tree_word ws t.words u.at s.0

  pub updated_plain : Plain (updated u ws)
  updated_plain =
      record {
        tree = edit_keeps_tree [] ws t.tree u.at s.0 explicit u.edit s.1;
        words = edit_keeps_all [] ws t.tree u.at s.0 explicit u.edit s.1 is_tree_word (λ v x. x) t.words;
      }

  pub updated_length : length (updated u ws) + took ws u ≡ length ws + added u.edit
  updated_length = ap (λ n. length (updated u ws) + n) (same u.edit) ∙ edit_length [] ws t.tree u.at s.0 explicit u.edit s.1
    where
      same : (e : Edit) → took_as ws u.at e ≡ took_words [] e u.at ws
      same (rename l) = refl
      same (insert f) = refl
      same delete = refl
