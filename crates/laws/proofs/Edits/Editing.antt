-- "2. The edit, on the start body": an edit at an explicit word of a body is, in the body's expansion, the same edit at the node that the word owns.
use Prim.Native.Nat.{ℕ, suc, ◌+◌, ◌-◌, ◌<◌}
use mathlib.Core.Path.{◌≡◌, refl, sym, ap, ap₂, subst, ◌∙◌}
use mathlib.Core.Bool.{Bool, true, false, not}
use mathlib.Core.List.{List, [], ◌∷◌, ◌++◌, map, append_assoc, append-nil}
use native.Mathlib.Omega.{arith}
use lib.Dec.{T}
use lib.ListN.{length, take, drop, get_or, length-append, length-map, take-append-drop, drop_of_length-le, get_or-map}
use lib.Seq.{drop_at, take-append_seam, get_or-take, split_at, append_snoc, length-take-le}
use mir.Facts.{and_yes, yes_and}
use Rattle.model.specs.Words.{rank_of, is_tree_word, is_parameter}
use Rattle.model.specs.Trees.{join, forest, all, those, is_tree, is_plain_tree, is_legal, expand, owners}
use Rattle.model.specs.Edits.{Edit, rename, insert, delete, splice, subtree, child, last_replaced, edited, added}
use Rattle.laws.specs.Formed.{Fits, Tree, Env, stack_of}
use Rattle.laws.specs.Orders.{SuitsAs}
use Rattle.laws.proofs.Trees.Folds.{tree_over, is_tree_tree, fits_split}
use Rattle.laws.proofs.Words.Classes.{explicit_rank, explicit_closed, label_rank, element_rank, label_explicit, explicit_legal}
use Rattle.laws.proofs.Trees.Legal.{tree_agree}
use Rattle.laws.proofs.Trees.Fills.{those_in, those_out}
use Rattle.laws.proofs.Trees.Grown.{Grown, expand_grown}
use Rattle.laws.proofs.Trees.Places.{Around, at_place, grow_explicit, around_here, explicit_at}
use Rattle.laws.proofs.Words.Lists.{all_append, all_split, all_member, all_cons, all_imp, join_parts}
use Rattle.laws.proofs.Trees.Subtrees.{tree_replaced, subtree_is, subtree_itself, children_many, child_tree, expand_over, subtree_expands, subtree_between, child_between}

-- an edit has its place at a word
abbrev pub SuitsWord : ℕ → Edit → Type 0
SuitsWord w e = SuitsAs (w ∷ []) 0 e

-- an edit has its place where it finds the same word
pub suits_same : (vs ws : List ℕ) (p i : ℕ) → get_or vs p 0 ≡ get_or ws i 0 → (e : Edit) → SuitsAs vs p e → SuitsAs ws i e
suits_same vs ws p i same (rename l) s = (λ z. s.0 (same ∙ z), s.1)
suits_same vs ws p i same (insert f) s = s
suits_same vs ws p i same delete s = λ z. s (same ∙ z)

-- what it makes of a word over its children
abbrev pub edit_tree : Edit → ℕ → List (List ℕ) → List ℕ
edit_tree (rename l) w ts = l ∷ join ts
edit_tree (insert s) w ts = last_replaced s (w ∷ join ts)
edit_tree delete w ts = get_or ts 1 []

-- the words that it takes away
abbrev pub took_words : List ℕ → Edit → ℕ → List ℕ → ℕ
took_words ranks (rename l) i ws = 0
took_words ranks (insert s) i ws = 0
took_words ranks delete i ws = suc (length (child ranks 1 i ws))

abbrev took_over : Edit → List (List ℕ) → ℕ
took_over (rename l) ts = 0
took_over (insert s) ts = 0
took_over delete ts = suc (length (get_or ts 0 []))

-- the words of a plain tree are a tree, whatever is called
pub plain_tree : (ranks s : List ℕ) → T (is_plain_tree s) → Tree ranks s × T (all is_tree_word s)
plain_tree ranks s t =
    let u = and_yes (all is_tree_word s) (is_tree [] s) t in
    (tree_agree 0 [] ranks (λ j h. absurd (omega arith)) s (all_imp is_tree_word (is_legal 0) (explicit_legal 0) s u.0) (is_tree_tree [] s u.1), u.0)

-- "s with its last ⊥ replaced by t": all words of s but the last before t
last_replaced_lem : (s t : List ℕ) → last_replaced s t ≡ take (length s - 1) s ++ t
last_replaced_lem s t =
    ap (λ r. take (length s - 1) s ++ t ++ r) (drop_of_length-le s {i = length s - 1 + 1} (omega arith)) ∙ append-nil (take (length s - 1) s ++ t)

tree_some : (ranks s : List ℕ) → Tree ranks s → 0 < length s
tree_some ranks [] t = absurd (omega (arith, t.1))
tree_some ranks (w ∷ ws) t = omega arith

last_tree : (ranks s t : List ℕ) → Tree ranks s → Tree ranks t → Tree ranks (take (length s - 1) s ++ t)
last_tree ranks s t ts tt' =
    subst (Tree ranks) (append-nil (take k s ++ t)) (tree_replaced ranks (take k s) (z ∷ []) t [] last tt' (subst (Tree ranks) (whole ∙ sym (append-nil (take k s ++ z ∷ []))) ts))
  where
    k : ℕ
    k = length s - 1

    z : ℕ
    z = get_or s k 0

    whole : s ≡ take k s ++ z ∷ []
    whole =
        split_at s k 0 (omega (arith, tree_some ranks s ts)) ∙ ap (λ l. take k s ++ z ∷ l) (drop_of_length-le s {i = suc k} (omega arith))

    last : Tree ranks (z ∷ [])
    last = ((fits_split (rank_of ranks) (take k s) (z ∷ []) 0 (subst (Fits (rank_of ranks) 0) whole ts.0)).1, omega arith)

-- explicit words before others expand to themselves
pub expand_before : (ranks : List ℕ) (lower : List (List ℕ)) (vs ws : List ℕ) → T (all is_tree_word vs) → expand ranks lower (vs ++ ws) ≡ vs ++ expand ranks lower ws
expand_before ranks lower [] ws t = refl
expand_before ranks lower (v ∷ vs) ws t =
    let s = all_cons is_tree_word v vs t in
    let stack : List (List ℕ) = stack_of ranks lower (vs ++ ws) [] in
    ap (λ u. u ++ join (drop (rank_of ranks v) stack)) (grow_explicit (λ x. x) lower v (take (rank_of ranks v) stack) s.0)
    ∙ ap (λ r. v ∷ r)
    (join_parts (rank_of ranks v) stack ∙ expand_before ranks lower vs ws s.1)

front_words : (s : List ℕ) → T (all is_tree_word s) → T (all is_tree_word (take (length s - 1) s))
front_words s t = (all_split is_tree_word (take (length s - 1) s) (drop (length s - 1) s) (rw (take-append-drop (length s - 1) s) t)).0

splice_between : (xs t new ys : List ℕ) → splice (length xs) (length t) new (xs ++ t ++ ys) ≡ xs ++ new ++ ys
splice_between xs t new ys =
    ap₂ (λ a b. a ++ new ++ b) (ap (take (length xs)) (append_assoc xs t ys) ∙ take-append_seam xs (t ++ ys)) (drop_at (xs ++ t) ys (length xs + length t) (length-append xs t))

-- a word over its children, each a complete tree
module _ (ranks : List ℕ) (w : ℕ) (x : T (is_tree_word w)) (ts : List (List ℕ)) (many : length ts ≡ rank_of ranks w) (at : (c : ℕ) → c < length ts → Tree ranks (get_or ts c [])) where
  edit_tree_lem : (e : Edit) → SuitsWord w e → Tree ranks (edit_tree e w ts)
  edit_tree_lem (rename l) s = tree_over ranks l ts (many ∙ element_rank ranks w x s.0 ∙ sym (label_rank ranks l s.1)) at
  edit_tree_lem (insert f) s =
      subst (Tree ranks) (sym (last_replaced_lem f (w ∷ join ts))) (last_tree ranks f (w ∷ join ts) (plain_tree ranks f s).0 (tree_over ranks w ts many at))
  edit_tree_lem delete s = at 1 (omega (arith, element_rank ranks w x s))

  edit_expand : (lower : List (List ℕ)) (e : Edit) → SuitsWord w e → expand ranks lower (edit_tree e w ts) ≡ edit_tree e w (map (expand ranks lower) ts)
  edit_expand lower (rename l) s =
      expand_over ranks lower l ts (many ∙ element_rank ranks w x s.0 ∙ sym (label_rank ranks l s.1)) at
      ∙ grow_explicit (λ v. v) lower l (map (expand ranks lower) ts) (label_explicit l s.1)
  edit_expand lower (insert f) s =
      ap (expand ranks lower) (last_replaced_lem f (w ∷ join ts))
      ∙ expand_before ranks lower (take (length f - 1) f) (w ∷ join ts) (front_words f (plain_tree ranks f s).1)
      ∙ ap (λ r. take (length f - 1) f ++ r) (expand_over ranks lower w ts many at ∙ grow_explicit (λ v. v) lower w (map (expand ranks lower) ts) x)
      ∙ sym (last_replaced_lem f (w ∷ join (map (expand ranks lower) ts)))
  edit_expand lower delete s = sym (get_or-map (expand ranks lower) ts 1 [])

  -- a test that all explicit words pass
  edit_all : (test : ℕ → Bool) → ((v : ℕ) → T (is_tree_word v) → T (test v)) → (e : Edit) → SuitsWord w e → T (all test (join ts)) → T (all test (edit_tree e w ts))
  edit_all test i (rename l) s t = yes_and (test l) (all test (join ts)) (i l (label_explicit l s.1)) t
  edit_all test i (insert f) s t =
      subst (λ vs. T (all test vs)) (sym (last_replaced_lem f (w ∷ join ts)))
      (all_append test (take (length f - 1) f) (w ∷ join ts) (all_imp is_tree_word test i (take (length f - 1) f) (front_words f (plain_tree ranks f s).1))
      (yes_and (test w) (all test (join ts)) (i w x) t))
  edit_all test i delete s t = all_member test ts 1 t

  edit_tree_length : (e : Edit) → SuitsWord w e → length (edit_tree e w ts) + took_over e ts ≡ suc (length (join ts)) + added e
  edit_tree_length (rename l) s = refl
  edit_tree_length (insert f) s =
      omega (arith, ap length (last_replaced_lem f (w ∷ join ts)), length-append (take (length f - 1) f) (w ∷ join ts), length-take-le (length f - 1) f (omega arith))
  edit_tree_length delete s = two ts (many ∙ element_rank ranks w x s)
    where
      two : (us : List (List ℕ)) → length us ≡ 2 → length (get_or us 1 []) + suc (length (get_or us 0 [])) ≡ suc (length (join us)) + 0
      two [] h = absurd (omega arith)
      two (u ∷ []) h = absurd (omega arith)
      two (u ∷ v ∷ []) h = omega (arith, length-append u (v ++ []), length-append v [])
      two (u ∷ v ∷ r ∷ us) h = absurd (omega arith)

  -- an edit where they stand between other words
  edited_between : (xs ys : List ℕ) (e : Edit) → SuitsWord w e → edited ranks e (length xs) (xs ++ (w ∷ join ts) ++ ys) ≡ xs ++ edit_tree e w ts ++ ys
  edited_between xs ys (rename l) s =
      ap (splice (length xs) 1 (l ∷ [])) (append_assoc xs (w ∷ join ts) ys ∙ sym (append_snoc xs w (join ts ++ ys)))
      ∙ splice_between xs (w ∷ []) (l ∷ []) (join ts ++ ys)
      ∙ append_snoc xs l (join ts ++ ys) ∙ sym (append_assoc xs (l ∷ join ts) ys)
  edited_between xs ys (insert f) s =
      ap (λ t. splice (length xs) (length t) (last_replaced f t) (xs ++ (w ∷ join ts) ++ ys)) (subtree_between ranks xs (w ∷ join ts) ys (tree_over ranks w ts many at))
      ∙ splice_between xs (w ∷ join ts) (last_replaced f (w ∷ join ts)) ys
  edited_between xs ys delete s =
      ap₂ (λ t c. splice (length xs) (length t) c (xs ++ (w ∷ join ts) ++ ys))
      (subtree_between ranks xs (w ∷ join ts) ys (tree_over ranks w ts many at))
      (child_between ranks xs w ts ys at 1 (omega (arith, element_rank ranks w x s)))
      ∙ splice_between xs (w ∷ join ts) (get_or ts 1 []) ys

took_over_lem : (ranks ws : List ℕ) (i : ℕ) → T (is_tree_word (get_or ws i 0)) → (e : Edit) → SuitsAs ws i e
    → took_words ranks e i ws ≡ took_over e (take (rank_of ranks (get_or ws i 0)) (forest ranks (drop (suc i) ws)))
took_over_lem ranks ws i x (rename l) s = refl
took_over_lem ranks ws i x (insert g) s = refl
took_over_lem ranks ws i x delete s =
    ap (λ u. suc (length u)) (sym (get_or-take (rank_of ranks (get_or ws i 0)) (forest ranks (drop (suc i) ws)) 0 [] (omega (arith, element_rank ranks (get_or ws i 0) x s))))

-- words without parameters
closed_all : (ws : List ℕ) → those is_parameter ws ≡ [] → T (all (λ w. not (is_parameter w)) ws)
closed_all [] e = tt
closed_all (w ∷ ws) e = go (is_parameter w) refl (closed_all ws)
  where
    go : (b : Bool) → is_parameter w ≡ b → (those is_parameter ws ≡ [] → T (all (λ w. not (is_parameter w)) ws)) → T (all (λ w. not (is_parameter w)) (w ∷ ws))
    go true h next = absurd (let z : ◌≡◌ {A = ℕ} (suc (length (those is_parameter ws))) 0 = ap length (sym (those_in is_parameter w ws h) ∙ e) in omega arith)
    go false h next = rw h (next (sym (those_out is_parameter w ws h) ∙ e))

pub all_closed : (ws : List ℕ) → T (all (λ w. not (is_parameter w)) ws) → those is_parameter ws ≡ []
all_closed [] t = refl
all_closed (w ∷ ws) t = go (is_parameter w) refl (all_cons (λ v. not (is_parameter v)) w ws t).0 (all_closed ws (all_cons (λ v. not (is_parameter v)) w ws t).1)
  where
    go : (b : Bool) → is_parameter w ≡ b → T (not (is_parameter w)) → those is_parameter ws ≡ [] → those is_parameter (w ∷ ws) ≡ []
    go true h t e = absurd (rw h at t)
    go false h t e = those_out is_parameter w ws h ∙ e

-- an edit at an explicit word of a body
module _ (ranks ws : List ℕ) (t : Tree ranks ws) (i : ℕ) (b : i < length ws) (x : T (is_tree_word (get_or ws i 0))) (e : Edit) (s : SuitsAs ws i e) where
  abbrev over : List (List ℕ)
  over = take (rank_of ranks (get_or ws i 0)) (forest ranks (drop (suc i) ws))

  trees_over : (c : ℕ) → c < length over → Tree ranks (get_or over c [])
  trees_over c h = child_tree ranks ws i b t.0 c (omega (arith, children_many ranks ws i b t.0))

  abbrev behind : List ℕ
  behind = drop (i + length (subtree ranks i ws)) ws

  here : take i ws ++ (get_or ws i 0 ∷ join over) ++ behind ≡ ws
  here = ap (λ u. take i ws ++ u ++ behind) (sym (subtree_is ranks ws i b)) ∙ subtree_itself ranks ws i b t.0

  edited_here : edited ranks e i ws ≡ splice i (length (subtree ranks i ws)) (edit_tree e (get_or ws i 0) over) ws
  edited_here =
      ap₂ (λ k vs. edited ranks e k vs) (sym (length-take-le i ws (omega arith))) (sym here)
      ∙ edited_between ranks (get_or ws i 0) x over (children_many ranks ws i b t.0) trees_over (take i ws) behind e (suits_same ws (get_or ws i 0 ∷ []) i 0 refl e s)

  new_tree : Tree ranks (edit_tree e (get_or ws i 0) over)
  new_tree = edit_tree_lem ranks (get_or ws i 0) x over (children_many ranks ws i b t.0) trees_over e (suits_same ws (get_or ws i 0 ∷ []) i 0 refl e s)

  parts_all : (test : ℕ → Bool) → T (all test ws) → T (all test (take i ws)) × T (all test (join over)) × T (all test behind)
  parts_all test a =
      let r = all_split test (take i ws ++ (get_or ws i 0 ∷ join over)) behind (subst (λ vs. T (all test vs)) (sym here) a) in
      let q = all_split test (take i ws) (get_or ws i 0 ∷ join over) r.0 in
      (q.0, (all_cons test (get_or ws i 0) (join over) q.1).1, r.1)

  -- is a tree again
  pub edit_keeps_tree : Tree ranks (edited ranks e i ws)
  edit_keeps_tree =
      subst (Tree ranks) (sym edited_here)
      (tree_replaced ranks (take i ws) (get_or ws i 0 ∷ join over) (edit_tree e (get_or ws i 0) over) behind
      (tree_over ranks (get_or ws i 0) over (children_many ranks ws i b t.0) trees_over) new_tree (subst (Tree ranks) (sym here) t))

  -- and its words are those that it had, or explicit
  pub edit_keeps_all : (test : ℕ → Bool) → ((v : ℕ) → T (is_tree_word v) → T (test v)) → T (all test ws) → T (all test (edited ranks e i ws))
  edit_keeps_all test im a =
      let (before, between, after) = parts_all test a in
      subst (λ vs. T (all test vs)) (sym edited_here)
      (all_append test (take i ws ++ edit_tree e (get_or ws i 0) over) behind
      (all_append test (take i ws) (edit_tree e (get_or ws i 0) over) before
      (edit_all ranks (get_or ws i 0) x over (children_many ranks ws i b t.0) trees_over test im e (suits_same ws (get_or ws i 0 ∷ []) i 0 refl e s) between)) after)

  pub edit_keeps_legal : (n : ℕ) → T (all (is_legal n) ws) → T (all (is_legal n) (edited ranks e i ws))
  edit_keeps_legal n = edit_keeps_all (is_legal n) (explicit_legal n)

  pub edit_keeps_closed : those is_parameter ws ≡ [] → those is_parameter (edited ranks e i ws) ≡ []
  edit_keeps_closed c = all_closed (edited ranks e i ws) (edit_keeps_all (λ w. not (is_parameter w)) explicit_closed (closed_all ws c))

  -- an insert adds all words of its tree but one, a delete takes the word and its first child
  pub edit_length : length (edited ranks e i ws) + took_words ranks e i ws ≡ length ws + added e
  edit_length =
      let w : ℕ = get_or ws i 0 in
      omega (
        arith,
        ap length edited_here,
        length-append (take i ws ++ edit_tree e w over) behind,
        length-append (take i ws) (edit_tree e w over),
        sym (ap length here),
        length-append (take i ws ++ (w ∷ join over)) behind,
        length-append (take i ws) (w ∷ join over),
        edit_tree_length ranks w x over (children_many ranks ws i b t.0) trees_over e (suits_same ws (get_or ws i 0 ∷ []) i 0 refl e s),
        took_over_lem ranks ws i x e s,
      )

  module _ (lower : List (List ℕ)) (env : Env ranks lower) (n : ℕ) (grown : (j : ℕ) → j < n → Grown (get_or lower j [])) (legal : T (all (is_legal n) ws))
      (p : ℕ) (pb : p < length (expand ranks lower ws)) (own : get_or (owners ranks lower ws) p 0 ≡ i) where
    abbrev expanded : List (List ℕ)
    expanded = map (expand ranks lower) over

    trees_expanded : (c : ℕ) → c < length expanded → Tree [] (get_or expanded c [])
    trees_expanded c h =
        subst (Tree []) (sym (get_or-map (expand ranks lower) over c []))
        (expand_grown n ranks lower env grown (get_or over c []) (all_member (is_legal n) over c (parts_all (is_legal n) legal).1)
        (trees_over c (omega (arith, length-map over (expand ranks lower))))).0

    -- the edit at the word is the edit at its node
    pub edit_is_update : expand ranks lower (edited ranks e i ws) ≡ edited [] e p (expand ranks lower ws)
    edit_is_update =
        let a : Around ranks lower ws i = at_place ranks lower env ws t i b in
        let w : ℕ = get_or ws i 0 in
        ap (expand ranks lower) edited_here ∙ a.expands (edit_tree e w over) new_tree
        ∙ ap (λ u. a.before ++ u ++ a.after) (edit_expand ranks w x over (children_many ranks ws i b t.0) trees_over lower e (suits_same ws (get_or ws i 0 ∷ []) i 0 refl e s))
        ∙ sym (edited_between [] w x expanded (length-map over (expand ranks lower) ∙ children_many ranks ws i b t.0 ∙ explicit_rank ranks w x) trees_expanded
        a.before a.after e (suits_same ws (get_or ws i 0 ∷ []) i 0 refl e s))
        ∙ ap₂ (λ k vs. edited [] e k vs) (explicit_at ranks lower ws t i b a p pb own x).0
        (ap (λ u. a.before ++ u ++ a.after) (sym (subtree_expands ranks lower ws i b t.0 ∙ grow_explicit (λ v. v) lower w expanded x))
        ∙ sym (around_here ranks lower ws t i b a))
