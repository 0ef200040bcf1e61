-- Opening one call: its rule's body in its place, its children put in. The body stays one complete tree with the same expansion, and gets longer by the rule's words less 1 and its rank.
use Prim.Native.Nat.{ℕ, zero, suc, ◌+◌, ◌-◌, ◌≤◌, ◌<◌}
use native.Mathlib.Omega.{arith}
use native.Mathlib.Nat.{zero-add}
use mathlib.Core.Path.{◌≡◌, refl, sym, ap, ap₂, subst, ◌∙◌}
use mathlib.Core.Bool.{Bool, true, false, false≢true}
use mathlib.Core.List.{List, [], ◌∷◌, ◌++◌, map, append_assoc}
use lib.Dec.{T}
use lib.ListN.{length, take, drop, get_or, length-map, length-append, length-drop, get_or-map}
use lib.Seq.{split_at, get_or_at, length-take-le}
use Rattle.model.specs.Words.{call, class_of, rank_of, is_parameter}
use Rattle.model.specs.Trees.{Rule, join, forest, all, those, is_legal, fill, expand, owners, expansions, ranks_of}
use Rattle.model.specs.Opening.{rule_at, owner_of, call_opened}
use Rattle.laws.specs.Formed.{formed, height, Fits, Tree, body_at}
use Rattle.laws.proofs.Trees.Folds.{height_append, fits_append, fits_split, forest_join, forest_trees, length_forest, tree_front, trees_fit}
use Rattle.laws.proofs.Trees.Expansion.{spread, TreeBy}
use Rattle.laws.proofs.Trees.Spread.{tree_by_map, spread_open}
use Rattle.laws.proofs.Opening.Marks.{unmarked, word_of, mark_of, marked, marked_open, MarkedLegal, mark_at, every_default, words_marked, words_marked_open, legal_marked_open}
use Rattle.laws.proofs.Trees.Legal.{legal_higher}
use Rattle.laws.proofs.Trees.Fills.{in_order, fill_parameters, fill_length, those_append, those_out}
use Rattle.laws.proofs.Trees.Grown.{fill_tree, fill_all, join_all}
use Rattle.laws.proofs.Trees.Grammar.{RuleOf, rule_of, expansions_solve}
use Rattle.laws.proofs.Words.Lists.{all_append, all_split, all_joined, all_cons, every_take, every_at, at_every, append_none, all_imp, every_drop, join_parts}

pub rank_at_lem : (rules : List Rule) (j : ℕ) → (rule_at rules j).rank ≡ get_or (ranks_of rules) j 0
rank_at_lem [] j = refl
rank_at_lem (r ∷ rs) zero = refl
rank_at_lem (r ∷ rs) (suc j) = rank_at_lem rs j

-- the trees that follow place i, and rule j's body put in there
abbrev following : List Rule → ℕ → List ℕ → List (List ℕ)
following rules i ws = forest (ranks_of rules) (drop (suc i) ws)

abbrev rank_at : List Rule → ℕ → ℕ
rank_at rules j = get_or (ranks_of rules) j 0

abbrev put_in : List Rule → ℕ → ℕ → List ℕ → List ℕ
put_in rules j i ws = fill (λ v. v) (take (rank_at rules j) (following rules i ws)) (body_at rules j)

abbrev left : List Rule → ℕ → ℕ → List ℕ → List ℕ
left rules j i ws = join (drop (rank_at rules j) (following rules i ws))

opens_as : (rules : List Rule) (j i : ℕ) (ws : List ℕ) → call_opened rules (rule_at rules j) i ws ≡ take i ws ++ put_in rules j i ws ++ left rules j i ws
opens_as rules j i ws =
    ap (λ (k : ℕ). take i ws ++ fill (λ v. v) (take k (following rules i ws)) (body_at rules j) ++ join (drop k (following rules i ws))) (rank_at_lem rules j)

-- what a call in a complete tree has before and after it
record CallAt (rules : List Rule) (ws : List ℕ) (i j : ℕ) : Type 0 where
  fits_before : Fits (rank_of (ranks_of rules)) (suc (length (following rules i ws) - rank_at rules j)) (take i ws)
  height_before : height (rank_of (ranks_of rules)) (suc (length (following rules i ws) - rank_at rules j)) (take i ws) ≡ 1
  children : rank_at rules j ≤ length (following rules i ws)
  trees_after : (n : ℕ) → n < length (following rules i ws) → Tree (ranks_of rules) (get_or (following rules i ws) n [])
  words_after : join (following rules i ws) ≡ drop (suc i) ws
  whole : take i ws ++ get_or ws i 0 ∷ join (following rules i ws) ≡ ws

call_at : (rules : List Rule) (ws : List ℕ) → Tree (ranks_of rules) ws → (i j : ℕ) → i < length ws → class_of (get_or ws i 0) ≡ call j → CallAt rules ws i j
call_at rules ws t i j h c =
    let rk = rank_of (ranks_of rules) in
    let rest = drop (suc i) ws in
    let e = split_at ws i 0 h in
    let s = fits_split rk (take i ws) (get_or ws i 0 ∷ rest) 0 (rw e at t.0) in
    let g : rk (get_or ws i 0) ≡ rank_at rules j = simp c in
    let l = length_forest (ranks_of rules) rest in
    let u : height rk 0 (get_or ws i 0 ∷ rest) ≡ suc (length (following rules i ws) - rank_at rules j) = ap₂ (λ (x y : ℕ). suc (x - y)) (sym l) g in
    let w = forest_join (ranks_of rules) rest s.1.1 in
    record {
      fits_before = rw u at s.0;
      height_before = rw u at (sym (height_append rk (take i ws) (get_or ws i 0 ∷ rest) 0) ∙ ap (height rk 0) (sym e) ∙ t.1);
      children = omega (arith, s.1.0);
      trees_after = forest_trees (ranks_of rules) rest s.1.1;
      words_after = w;
      whole = ap (λ (l : List ℕ). take i ws ++ get_or ws i 0 ∷ l) w ∙ sym e;
    }

module _ (rules : List Rule) (f : T (formed rules)) (ws : List ℕ) (t : Tree (ranks_of rules) ws)
    (i : ℕ) (i-in : i < length ws) (j : ℕ) (c : class_of (get_or ws i 0) ≡ call j) (j-in : j < length rules) where
  abbrev R : List ℕ
  R = ranks_of rules

  abbrev E : List (List ℕ)
  E = expansions rules

  abbrev F : List (List ℕ)
  F = following rules i ws

  abbrev k : ℕ
  k = rank_at rules j

  r : RuleOf rules j
  r = rule_of rules f j j-in

  a : CallAt rules ws i j
  a = call_at rules ws t i j i-in c

  -- "To expand a call is to put the body in its place": opening changes nothing in the expansion.
  pub opens_keeps : Tree (ranks_of rules) (call_opened rules (rule_at rules j) i ws)
      × (expand (ranks_of rules) (expansions rules) (call_opened rules (rule_at rules j) i ws) ≡ expand (ranks_of rules) (expansions rules) ws)
  opens_keeps = rw opens_as (is_tree_lem, same)
    where
      is_tree_lem : Tree (ranks_of rules) (take i ws ++ put_in rules j i ws ++ left rules j i ws)
      is_tree_lem =
          let rk = rank_of R in
          let every = at_every (Tree R) F [] a.trees_after in
          let P = fill_tree R (take k F) (every_take (Tree R) k F every) (in_order 0 k (body_at rules j) r.in_order) (length-take-le k F a.children) r.tree in
          let J = trees_fit R (drop k F) (every_at (Tree R) (drop k F) (every_drop (Tree R) k F every) []) in
          let s = tree_front R 0 (put_in rules j i ws) (left rules j i ws) P J.0 in
          let h : height rk 0 (put_in rules j i ws ++ left rules j i ws) ≡ suc (length F - k) = s.1 ∙ ap suc (J.1 ∙ length-drop k F) in
          rw append_assoc (
            fits_append rk (take i ws) (put_in rules j i ws ++ left rules j i ws) 0 (rw h a.fits_before) s.0,
            height_append rk (take i ws) (put_in rules j i ws ++ left rules j i ws) 0 ∙ ap (λ (n : ℕ). height rk n (take i ws)) h ∙ a.height_before,
          )

      same : expand (ranks_of rules) (expansions rules) (take i ws ++ put_in rules j i ws ++ left rules j i ws) ≡ expand (ranks_of rules) (expansions rules) ws
      same =
          spread_open (λ v. v) (λ w v. v) R E (λ v. v) (λ v. v) (λ v. refl) (λ v. refl) (take i ws) (get_or ws i 0) F j (body_at rules j) c refl
          a.trees_after a.children r.tree r.in_order ((expansions_solve rules f).1 j j-in)
          ∙ ap (expand R E) a.whole

  -- "Opening a rule of rank k and body length w makes the start body longer by w - 1 - k."
  pub opens_length : length (call_opened rules (rule_at rules j) i ws) + suc (rule_at rules j).rank ≡ length ws + length (body_at rules j)
  opens_length =
      let m = length-take-le k F a.children in
      let fl = fill_length (λ v. v) (take k F) (in_order 0 k (body_at rules j) r.in_order) (m ∙ sym (zero-add k)) in
      let l₁ = ap length (opens_as rules j i ws) in
      let l₂ = length-append (take i ws ++ put_in rules j i ws) (left rules j i ws) in
      let l₃ = length-append (take i ws) (put_in rules j i ws) in
      let l₄ = length-take-le i ws (omega arith) in
      let l₅ = ap length (join_parts k F ∙ a.words_after) in
      let l₆ = length-append (join (take k F)) (join (drop k F)) in
      let l₇ = length-drop (suc i) ws in
      let l₈ = rank_at_lem rules j in
      omega arith

  pub opens_legal : (b : ℕ) → j ≤ b → T (all (is_legal b) ws) → T (all (is_legal b) (call_opened rules (rule_at rules j) i ws))
  opens_legal b h l =
      let s = all_split (is_legal b) (take i ws) (get_or ws i 0 ∷ join F) (rw a.whole l) in
      let every = all_joined (is_legal b) F (all_cons (is_legal b) (get_or ws i 0) (join F) s.1).1 in
      let body = all_imp (is_legal j) (is_legal b) (legal_higher j b h) (body_at rules j) r.legal in
      let P = fill_all (is_legal b) (take k F) (every_take (λ ws. T (all (is_legal b) ws)) k F every) (in_order 0 k (body_at rules j) r.in_order)
      (length-take-le k F a.children ∙ sym (zero-add k)) body in
      let J = join_all (is_legal b) (drop k F) (every_drop (λ ws. T (all (is_legal b) ws)) k F every) in
      rw opens_as
      (all_append (is_legal b) (take i ws ++ put_in rules j i ws) (left rules j i ws) (all_append (is_legal b) (take i ws) (put_in rules j i ws) s.0 P) J)

  pub opens_closed : those is_parameter ws ≡ [] → those is_parameter (call_opened rules (rule_at rules j) i ws) ≡ []
  opens_closed e =
      let no_call : is_parameter (get_or ws i 0) ≡ false = simp c in
      let s = append_none (those is_parameter (take i ws)) (those is_parameter (get_or ws i 0 ∷ join F))
      (sym (those_append is_parameter (take i ws) (get_or ws i 0 ∷ join F)) ∙ ap (those is_parameter) a.whole ∙ e) in
      let u = append_none (those is_parameter (join (take k F))) (those is_parameter (join (drop k F)))
      (sym (those_append is_parameter (join (take k F)) (join (drop k F)))
      ∙ ap (those is_parameter) (join_parts k F)
      ∙ sym (those_out is_parameter (get_or ws i 0) (join F) no_call) ∙ s.1) in
      let P = fill_parameters (take k F) (in_order 0 k (body_at rules j) r.in_order) (length-take-le k F a.children ∙ sym (zero-add k)) ∙ u.0 in
      ap (those is_parameter) (opens_as rules j i ws)
      ∙ those_append is_parameter (take i ws ++ put_in rules j i ws) (left rules j i ws)
      ∙ ap₂ ◌++◌ (those_append is_parameter (take i ws) (put_in rules j i ws) ∙ ap₂ ◌++◌ s.0 P) u.1

  -- which word produces node p after rule j is opened: a word of rule j's body, where the call produced it before
  pub opens_owner : (p : ℕ) → p < length (expand (ranks_of rules) (expansions rules) ws) → owner_of rules ws p ≡ i
      → T (is_legal j (get_or (call_opened rules (rule_at rules j) i ws) (owner_of rules (call_opened rules (rule_at rules j) i ws) p) 0))
  opens_owner p h o =
      let q = get_or (owners R E new) p 0 in
      let m : (get_or xs' q (false, 0)).0 ≡ true =
      sym (mark_at R E xs' new words' p (rw keeps h))
      ∙ ap (λ (l : List Bool). get_or l p false) same_marks
      ∙ mark_at R E xs ws (words_marked (take i ws) (get_or ws i 0) F ∙ a.whole) p h
      ∙ ap (λ (q : ℕ). (get_or xs q (false, 0)).0) o
      ∙ ap (λ (x : Bool × ℕ). x.0) (get_or_at (map unmarked (take i ws)) (true, get_or ws i 0) (join (map (map unmarked) F)) (false, 0) i before_length) in
      let e : get_or new q 0 ≡ (get_or xs' q (false, 0)).1 = ap (λ (l : List ℕ). get_or l q 0) (sym words') ∙ get_or-map word_of xs' q (false, 0) in
      rw e (every_default (MarkedLegal j) xs' (false, 0) (legal_marked_open j (take i ws) k F (body_at rules j) r.in_order r.legal) (λ e. absurd (false≢true e)) q m)
    where
      new : List ℕ
      new = call_opened rules (rule_at rules j) i ws

      keeps : expand (ranks_of rules) (expansions rules) (call_opened rules (rule_at rules j) i ws) ≡ expand (ranks_of rules) (expansions rules) ws
      keeps = opens_keeps.1

      before_length : length (map unmarked (take i ws)) ≡ i
      before_length = length-map (take i ws) unmarked ∙ length-take-le i ws (omega arith)

      xs : List (Bool × ℕ)
      xs = marked (take i ws) (get_or ws i 0) F

      xs' : List (Bool × ℕ)
      xs' = marked_open (take i ws) k F (body_at rules j)

      words' : map word_of xs' ≡ new
      words' = words_marked_open (take i ws) k F (body_at rules j) ∙ sym (opens_as rules j i ws)

      F_marked : (n : ℕ) → n < length (map (map unmarked) F) → TreeBy word_of R (get_or (map (map unmarked) F) n [])
      F_marked n b =
          subst (TreeBy word_of R) (sym (get_or-map (map unmarked) F n []))
          (tree_by_map unmarked word_of R (get_or F n []) (a.trees_after n (omega (arith, length-map F (map unmarked)))))

      same_marks : spread word_of mark_of R E xs' ≡ spread word_of mark_of R E xs
      same_marks =
          spread_open word_of mark_of R E (λ v. (true, v)) (λ v. true) (λ v. refl) (λ v. refl) (map unmarked (take i ws)) (true, get_or ws i 0) (map (map unmarked) F) j (body_at rules j)
          c refl F_marked (rw length-map a.children) r.tree r.in_order ((expansions_solve rules f).1 j j-in)
