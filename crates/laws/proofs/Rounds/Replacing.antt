-- A digram's chosen occurrences, replaced by calls of the new rule, leave a body's expansion as it is.
use Prim.Native.Nat.{ℕ, zero, suc, ◌+◌, ◌-◌, ◌≤◌, ◌<◌}
use mathlib.Core.Path.{◌≡◌, refl, sym, ap, ap₂, ◌∙◌}
use mathlib.Core.Bool.{Bool, true, false}
use mathlib.Core.List.{List, [], ◌∷◌, ◌++◌, map, append_assoc, map-append}
use native.Mathlib.Omega.{arith}
use lib.ListN.{length, take, drop, get_or, set, replicate, length-append, length-take, length-drop, length-map, length-replicate, replicate-append-replicate, get_or-map}
use lib.Seq.{drop-cons, drop-drop, get_or-drop, get_or-take, length-take-le, take-add, take_at, drop_at, set_at}
use Rattle.model.specs.Words.{Class, class_of, rank_of, call_word, renumbered}
use Rattle.model.specs.Trees.{push, fold, join, fill, grow, expand, roots}
use Rattle.model.specs.Rounds.{Digram, digram_rank, new_rule, part_of, starts, marks_below, is_taken, parts, replaced, up}
use Rattle.laws.specs.Formed.{Fits, Tree, stack_of}
use Rattle.laws.proofs.Trees.Folds.{length_fold, map_fold}
use Rattle.laws.proofs.Words.Classes.{class_of_call}
use Rattle.laws.proofs.Trees.Renumbered.{Calls, calls_head, calls_tail, rank_renumbered, grow_renumbered}
use Rattle.laws.specs.Steps.{IsDigram}
use Rattle.laws.proofs.Rounds.Digrams.{starts_is}
use Rattle.laws.proofs.Rounds.NewRule.{fill_new}
use Rattle.laws.proofs.Words.Tests.{true_T}

-- a tree of the stack as its root's word with the expansions of the root's children
abbrev pub tree_at : List (List ℕ) → ℕ × List (List ℕ) → List ℕ
tree_at lower x = grow (λ v. v) lower x.0 x.1

abbrev pub over : List (List ℕ) → ℕ → List (ℕ × List (List ℕ)) → ℕ × List (List ℕ)
over lower w xs = (w, map (tree_at lower) xs)

abbrev pub nodes_of : List ℕ → List (List ℕ) → List ℕ → List (ℕ × List (List ℕ))
nodes_of ranks lower ws = fold (rank_of ranks) (over lower) ws []

-- the stack with the root's children in the place of each marked tree
abbrev pub shown : List (List ℕ) → List Bool → List (ℕ × List (List ℕ)) → List (List ℕ)
shown lower [] xs = map (tree_at lower) xs
shown lower (m ∷ ms) [] = []
shown lower (true ∷ ms) (x ∷ xs) = x.1 ++ shown lower ms xs
shown lower (false ∷ ms) (x ∷ xs) = tree_at lower x ∷ shown lower ms xs

shown_unmarked : (lower : List (List ℕ)) (k : ℕ) (ms : List Bool) (xs : List (ℕ × List (List ℕ))) → k ≤ length xs
    → shown lower (replicate k false ++ ms) xs ≡ map (tree_at lower) (take k xs) ++ shown lower ms (drop k xs)
shown_unmarked lower zero ms xs h = refl
shown_unmarked lower (suc k) ms [] h = absurd (omega arith)
shown_unmarked lower (suc k) ms (x ∷ xs) h = ap (λ r. tree_at lower x ∷ r) (shown_unmarked lower k ms xs (omega arith))

marks_upper : (n p : ℕ) → set (replicate (n + suc p) false) n true ≡ replicate n false ++ true ∷ replicate p false
marks_upper n p = ap (λ l. set l n true) (sym (replicate-append-replicate n (suc p) false)) ∙ set_at (replicate n false) false (replicate p false) true n (length-replicate n false)

-- what the new call finds: the trees around the marked one, and its root's children
abbrev front : List (List ℕ) → ℕ → ℕ → List (ℕ × List (List ℕ)) → List (List ℕ)
front lower n p xs = map (tree_at lower) (take n xs) ++ ((get_or xs n (0, [])).1 ++ map (tree_at lower) (take p (drop (suc n) xs)))

shown_upper : (lower : List (List ℕ)) (n p : ℕ) (ms : List Bool) (xs : List (ℕ × List (List ℕ))) → n + suc p ≤ length xs
    → shown lower (set (replicate (n + suc p) false) n true ++ ms) xs ≡ front lower n p xs ++ shown lower ms (drop (n + suc p) xs)
shown_upper lower n p ms xs h =
    let len : p ≤ length (drop (suc n) xs) = simp length-drop (omega arith) in
    let sum : suc n + p ≡ n + suc p = omega arith in
    ap (λ l. shown lower (l ++ ms) xs) (marks_upper n p)
    ∙ ap (λ l. shown lower l xs) (append_assoc (replicate n false) (true ∷ replicate p false) ms)
    ∙ shown_unmarked lower n (true ∷ replicate p false ++ ms) xs (omega arith)
    ∙ ap (λ l. map (tree_at lower) (take n xs) ++ shown lower (true ∷ replicate p false ++ ms) l) (drop-cons xs n (0, []) (omega arith))
    ∙ ap (λ l. map (tree_at lower) (take n xs) ++ ((get_or xs n (0, [])).1 ++ l)) (shown_unmarked lower p ms (drop (suc n) xs) len)
    ∙ simp (drop-drop, sum, append_assoc)

-- an unmarked tree stands first in what is shown
shown_other : (lower : List (List ℕ)) (marks : List Bool) (x : ℕ × List (List ℕ)) (xs : List (ℕ × List (List ℕ))) → is_taken marks ≡ false
    → shown lower marks (x ∷ xs) ≡ tree_at lower x ∷ shown lower (drop 1 marks) xs
shown_other lower [] x xs e = refl
shown_other lower (true ∷ ms) x xs e = let z : ◌≡◌ {A = ℕ} 0 1 = cc in absurd (omega arith)
shown_other lower (false ∷ ms) x xs e = refl

shown_lower : (lower : List (List ℕ)) (marks : List Bool) (x : ℕ × List (List ℕ)) (xs : List (ℕ × List (List ℕ))) → is_taken marks ≡ true
    → shown lower marks (x ∷ xs) ≡ x.1 ++ shown lower (drop 1 marks) xs
shown_lower lower [] x xs e = let z : ◌≡◌ {A = ℕ} 0 1 = cc in absurd (omega arith)
shown_lower lower (true ∷ ms) x xs e = refl
shown_lower lower (false ∷ ms) x xs e = let z : ◌≡◌ {A = ℕ} 0 1 = cc in absurd (omega arith)

-- a word takes what it finds in front
push_front : {A : Type 0} (rk : ℕ → ℕ) (make : ℕ → List A → A) (w : ℕ) (xs ys : List A) → length xs ≡ rk w → push rk make w (xs ++ ys) ≡ make w xs ∷ ys
push_front rk make w xs ys h = ap₂ (λ a b. make w a ∷ b) (take_at xs ys (rk w) h) (drop_at xs ys (rk w) h)

-- every tree of the stack has as many children as its root's rank
nodes_wide : (ranks : List ℕ) (lower : List (List ℕ)) (ws : List ℕ) → Fits (rank_of ranks) 0 ws → (n : ℕ) → n < length (nodes_of ranks lower ws)
    → length (get_or (nodes_of ranks lower ws) n (0, [])).1 ≡ rank_of ranks (get_or (nodes_of ranks lower ws) n (0, [])).0
nodes_wide ranks lower [] f n h = absurd (omega arith)
nodes_wide ranks lower (w ∷ ws) f zero h =
    length-map (take (rank_of ranks w) (nodes_of ranks lower ws)) (tree_at lower)
    ∙ length-take-le (rank_of ranks w) (nodes_of ranks lower ws) (rw (length_fold (rank_of ranks) (over lower) ws []) f.0)
nodes_wide ranks lower (w ∷ ws) f (suc n) h =
    let st : List (ℕ × List (List ℕ)) = nodes_of ranks lower ws in
    let k : ℕ = rank_of ranks w in
    let len : k + n < length st = omega (arith, length-drop k st) in
    let at : get_or (drop k st) n (0, []) ≡ get_or st (k + n) (0, []) = get_or-drop k st n (0, []) in
    ap (λ (x : ℕ × List (List ℕ)). length x.1) at ∙ nodes_wide ranks lower ws f.1 (k + n) len ∙ sym (ap (λ (x : ℕ × List (List ℕ)). rank_of ranks x.0) at)

-- the stack's roots and its trees
nodes_roots : (ranks : List ℕ) (lower : List (List ℕ)) (ws : List ℕ) → map (λ (x : ℕ × List (List ℕ)). x.0) (nodes_of ranks lower ws) ≡ roots ranks ws
nodes_roots ranks lower ws = map_fold (rank_of ranks) (over lower) (λ w trees. w) (λ (x : ℕ × List (List ℕ)). x.0) (λ w ts. refl) ws []

nodes_trees : (ranks : List ℕ) (lower : List (List ℕ)) (ws : List ℕ) → map (tree_at lower) (nodes_of ranks lower ws) ≡ stack_of ranks lower ws []
nodes_trees ranks lower ws = map_fold (rank_of ranks) (over lower) (grow (λ v. v) lower) (tree_at lower) (λ w ts. refl) ws []

-- ranks' and lower' have the new rule in place m
pub record HasNew (ranks ranks' : List ℕ) (lower lower' : List (List ℕ)) (d : Digram) (m : ℕ) : Type 0 where
  pub room : m < 256
  pub rank_there : get_or ranks' m 0 ≡ digram_rank ranks d
  pub rule_there : get_or lower' m [] ≡ expand ranks lower (new_rule ranks d).body

-- they have rule j where it has moved to
abbrev pub Kept : List ℕ → List ℕ → List (List ℕ) → List (List ℕ) → ℕ → ℕ → Type 0
Kept ranks ranks' lower lower' m j = (up m j < 256) × (get_or ranks' (up m j) 0 ≡ get_or ranks j 0) × (get_or lower' (up m j) [] ≡ get_or lower j [])

-- the trees that a digram's upper word has for children
module _ (ranks : List ℕ) (lower : List (List ℕ)) (d : Digram) (is : IsDigram ranks d) (small : digram_rank ranks d ≤ 4) (n p : ℕ) (at : d.i ≡ suc n) (ra : rank_of ranks d.a ≡ n + suc p)
    (xs : List (ℕ × List (List ℕ))) (h : n + suc p ≤ length xs) (b : (get_or xs n (0, [])).0 ≡ d.b) (wide : length (get_or xs n (0, [])).1 ≡ rank_of ranks d.b) where
  length_front : length (front lower n p xs) ≡ digram_rank ranks d
  length_front = simp (length-append, length-map, length-take, length-drop) (omega arith)

  fill_front : fill (λ v. v) (front lower n p xs) (expand ranks lower (new_rule ranks d).body) ≡ grow (λ v. v) lower d.a (map (tree_at lower) (take (n + suc p) xs))
  fill_front =
      let x : ℕ × List (List ℕ) = get_or xs n (0, []) in
      let before : List (List ℕ) = map (tree_at lower) (take n xs) in
      let after : List (List ℕ) = map (tree_at lower) (take p (drop (suc n) xs)) in
      let less : d.i - 1 ≡ n = omega arith in
      let len : length before ≡ n = length-map (take n xs) (tree_at lower) ∙ length-take-le n xs (omega arith) in
      let all : map (tree_at lower) (take (n + suc p) xs) ≡ before ++ tree_at lower x ∷ after
      = ap (map (tree_at lower)) (take-add n (suc p) xs ∙ ap (λ l. take n xs ++ take (suc p) l) (drop-cons xs n (0, []) (omega arith)))
      ∙ map-append (tree_at lower) (take n xs) (x ∷ take p (drop (suc n) xs))
      in
      fill_new ranks lower d is small (front lower n p xs) length_front
      ∙ ap (λ k. grow (λ v. v) lower d.a (take k (front lower n p xs) ++ push (rank_of ranks) (grow (λ v. v) lower) d.b (drop k (front lower n p xs)))) less
      ∙ ap₂ (λ u v. grow (λ v. v) lower d.a (u ++ push (rank_of ranks) (grow (λ v. v) lower) d.b v)) (take_at before (x.1 ++ after) n len) (drop_at before (x.1 ++ after) n len)
      ∙ ap (λ u. grow (λ v. v) lower d.a (before ++ u)) (push_front (rank_of ranks) (grow (λ v. v) lower) d.b x.1 after wide)
      ∙ ap (λ w. grow (λ v. v) lower d.a (before ++ grow (λ v. v) lower w x.1 ∷ after)) (sym b)
      ∙ ap (grow (λ v. v) lower d.a) (sym all)

-- a chosen occurrence's words
starts_at : (ranks : List ℕ) (lower : List (List ℕ)) (d : Digram) (w : ℕ) (ws : List ℕ) → d.i - 1 < rank_of ranks d.a → starts ranks d w ws ≡ true
    → (w ≡ d.a) × ((get_or (nodes_of ranks lower ws) (d.i - 1) (0, [])).0 ≡ d.b)
starts_at ranks lower d w ws h e =
    let (wa, xb) = starts_is ranks d w ws (true_T (starts ranks d w ws) e) in
    let ranked : rank_of ranks w ≡ rank_of ranks d.a = ap (rank_of ranks) wa in (
      wa,
      sym (get_or-map (λ (x : ℕ × List (List ℕ)). x.0) (nodes_of ranks lower ws) (d.i - 1) (0, []))
          ∙ ap (λ l. get_or l (d.i - 1) 0) (nodes_roots ranks lower ws)
          ∙ sym (get_or-take (rank_of ranks w) (roots ranks ws) (d.i - 1) 0 (omega arith))
          ∙ xb,
    )

module _ (ranks ranks' : List ℕ) (lower lower' : List (List ℕ)) (d : Digram) (is : IsDigram ranks d)
    (small : digram_rank ranks d ≤ 4) (m : ℕ) (new : HasNew ranks ranks' lower lower' d m) where
  -- what replacing makes of ws with marks: the stack is as it was but for the marked trees
  unfoldable Shows : List Bool → List ℕ → List ℕ → Type 0
  Shows marks ws out = stack_of ranks' lower' out [] ≡ shown lower marks (nodes_of ranks lower ws)

  -- a word put before words that leave its children in front
  push_before : (w : ℕ) (out : List ℕ) (xs ys : List (List ℕ)) → stack_of ranks' lower' out [] ≡ xs ++ ys → length xs ≡ rank_of ranks' w
      → stack_of ranks' lower' (w ∷ out) [] ≡ grow (λ v. v) lower' w xs ∷ ys
  push_before w out xs ys e h = ap (push (rank_of ranks') (grow (λ v. v) lower') w) e ∙ push_front (rank_of ranks') (grow (λ v. v) lower') w xs ys h

  step_upper : (marks : List Bool) (w : ℕ) (ws out : List ℕ) → Fits (rank_of ranks) 0 (w ∷ ws)
      → Shows (set (replicate (rank_of ranks w) false) (d.i - 1) true ++ drop 1 marks) ws out
      → is_taken marks ≡ false → starts ranks d w ws ≡ true
      → Shows marks (w ∷ ws) (call_word m ∷ out)
  unfolding Shows
  step_upper marks w ws out f before et es =
      let st : List (ℕ × List (List ℕ)) = nodes_of ranks lower ws in
      let n : ℕ = d.i - 1 in
      let p : ℕ = rank_of ranks d.a - d.i in
      let is_i : d.i ≡ suc n = omega (arith, is.low) in
      let ra : rank_of ranks d.a ≡ n + suc p = omega (arith, is.low, is.high) in
      let (wa, xb) = starts_at ranks lower d w ws (omega arith) es in
      let k : rank_of ranks w ≡ n + suc p = ap (rank_of ranks) wa ∙ ra in
      let len : n + suc p ≤ length st = omega (arith, f.0, length_fold (rank_of ranks) (over lower) ws []) in
      let wide : length (get_or st n (0, [])).1 ≡ rank_of ranks d.b = nodes_wide ranks lower ws f.1 n (omega arith) ∙ ap (rank_of ranks) xb in
      let called : rank_of ranks' (call_word m) ≡ digram_rank ranks d = rw (class_of_call m new.room) new.rank_there in
      let grown : grow (λ v. v) lower' (call_word m) (front lower n p st) ≡ grow (λ v. v) lower d.a (map (tree_at lower) (take (n + suc p) st))
      = rw (class_of_call m new.room, new.rule_there) (fill_front ranks lower d is small n p is_i ra st len xb wide)
      in
      push_before (call_word m) out (front lower n p st) (shown lower (drop 1 marks) (drop (n + suc p) st))
      (before ∙ ap (λ x. shown lower (set (replicate x false) n true ++ drop 1 marks) st) k ∙ shown_upper lower n p (drop 1 marks) st len)
      (length_front ranks lower d is small n p is_i ra st len xb wide ∙ sym called)
      ∙ ap (λ x. x ∷ shown lower (drop 1 marks) (drop (n + suc p) st)) grown
      ∙ ap₂ (λ v x. grow (λ v. v) lower v (map (tree_at lower) (take x st)) ∷ shown lower (drop 1 marks) (drop x st)) (sym wa) (sym k)
      ∙ sym (shown_other lower marks (over lower w (take (rank_of ranks w) st)) (drop (rank_of ranks w) st) et)

  step : (marks : List Bool) (w : ℕ) (ws : List ℕ) → Fits (rank_of ranks) 0 (w ∷ ws)
      → ((j : ℕ) → class_of w ≡ Class.call j → Kept ranks ranks' lower lower' m j)
      → ((ms : List Bool) → Shows ms ws (replaced m (parts ranks d ms ws) ws))
      → (t s : Bool) → is_taken marks ≡ t → starts ranks d w ws ≡ s
      → Shows marks (w ∷ ws) (replaced m (part_of t s ∷ parts ranks d (marks_below (part_of t s) d.i (rank_of ranks w) ++ drop 1 marks) ws) (w ∷ ws))
  unfolding Shows
  step marks w ws f kept ih true s et es =
      let st : List (ℕ × List (List ℕ)) = nodes_of ranks lower ws in
      let k : ℕ = rank_of ranks w in
      let len : k ≤ length st = omega (arith, f.0, length_fold (rank_of ranks) (over lower) ws []) in
      let before = ih (replicate k false ++ drop 1 marks) in
      before ∙ shown_unmarked lower k (drop 1 marks) st len ∙ sym (shown_lower lower marks (over lower w (take k st)) (drop k st) et)
  step marks w ws f kept ih false false et es =
      let st : List (ℕ × List (List ℕ)) = nodes_of ranks lower ws in
      let k : ℕ = rank_of ranks w in
      let len : k ≤ length st = omega (arith, f.0, length_fold (rank_of ranks) (over lower) ws []) in
      let before = ih (replicate k false ++ drop 1 marks) in
      push_before (renumbered (up m) w) (replaced m (parts ranks d (replicate k false ++ drop 1 marks) ws) ws)
      (map (tree_at lower) (take k st)) (shown lower (drop 1 marks) (drop k st)) (before ∙ shown_unmarked lower k (drop 1 marks) st len)
      (length-map (take k st) (tree_at lower) ∙ length-take-le k st len ∙ sym (rank_renumbered (up m) ranks ranks' w (λ j e. let k = kept j e in (k.0, k.1))))
      ∙ ap (λ x. x ∷ shown lower (drop 1 marks) (drop k st)) (grow_renumbered (up m) lower lower' w (λ j e. let k = kept j e in (k.0, k.2)) (map (tree_at lower) (take k st)))
      ∙ sym (shown_other lower marks (over lower w (take k st)) (drop k st) et)
  step marks w ws f kept ih false true et es =
      let ms : List Bool = set (replicate (rank_of ranks w) false) (d.i - 1) true ++ drop 1 marks in
      step_upper marks w ws (replaced m (parts ranks d ms ws) ws) f (ih ms) et es

  shown_none : (marks : List Bool) → shown lower marks [] ≡ []
  shown_none [] = refl
  shown_none (x ∷ marks) = refl

  replaced_shows : (marks : List Bool) (ws : List ℕ) → Fits (rank_of ranks) 0 ws → Calls (Kept ranks ranks' lower lower' m) ws
      → Shows marks ws (replaced m (parts ranks d marks ws) ws)
  unfolding Shows
  replaced_shows marks [] f kept = sym (shown_none marks)
  replaced_shows marks (w ∷ ws) f kept =
      step marks w ws f (calls_head (Kept ranks ranks' lower lower' m) w ws kept)
      (λ ms. replaced_shows ms ws f.1 (calls_tail (Kept ranks ranks' lower lower' m) w ws kept)) (is_taken marks) (starts ranks d w ws) refl refl

  -- a body that is one tree keeps its expansion
  pub replaced_expands : (ws : List ℕ) → Tree ranks ws → Calls (Kept ranks ranks' lower lower' m) ws
      → expand ranks' lower' (replaced m (parts ranks d [] ws) ws) ≡ expand ranks lower ws
  unfolding Shows
  replaced_expands ws t kept = ap join (replaced_shows [] ws t.0 kept ∙ nodes_trees ranks lower ws)
