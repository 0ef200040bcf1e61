-- A place of a body: what is before and after the nodes of the subtree there, and the one node that an explicit word there owns.
use Prim.Native.Nat.{ℕ, zero, suc, ◌+◌, ◌-◌, ◌≤◌, ◌<◌}
use mathlib.Core.Path.{◌≡◌, refl, sym, ap, subst, ◌∙◌}
use mathlib.Core.Bool.{Bool, true, false}
use mathlib.Core.List.{List, [], ◌∷◌, ◌++◌, map, append_assoc}
use native.Mathlib.Omega.{arith}
use lib.Dec.{T}
use lib.ListN.{length, take, drop, get_or, get_or-append}
use lib.Seq.{get_or-append-add, length-take-le}
use Rattle.model.specs.Words.{Class, empty, label, parameter, call, illegal, class_of, rank_of, is_tree_word, is_parameter}
use Rattle.model.specs.Trees.{join, forest, grow, those, expand, placed, owners}
use Rattle.model.specs.Edits.{splice, subtree}
use Rattle.laws.specs.Formed.{Fits, Tree, Env}
use Rattle.laws.proofs.Trees.Fills.{those_in, those_out}
use Rattle.laws.proofs.Words.Lists.{every_weaken, every_join, every_map, every_at, Every, join_parts}
use Rattle.laws.proofs.Trees.Owners.{placed_words, tagged, every_placed, owners_tagged, expand_tagged, every_tagged, owners_length, owner_below}
use Rattle.laws.proofs.Trees.Holes.{Hole, hole, hole_expand, hole_within, hole_only}
use Rattle.laws.proofs.Trees.Subtrees.{fits_around, tree_replaced, subtree_is, subtree_tree, subtree_itself}

-- A place i of a body, and what is before and after the nodes of the subtree there, whatever tree is put in its stead.
pub record Around (ranks : List ℕ) (lower : List (List ℕ)) (ws : List ℕ) (i : ℕ) : Type 0 where
  pub before : List ℕ
  pub after : List ℕ
  pub tree : (new : List ℕ) → Tree ranks new → Tree ranks (splice i (length (subtree ranks i ws)) new ws)
  pub expands : (new : List ℕ) → Tree ranks new
      → expand ranks lower (splice i (length (subtree ranks i ws)) new ws) ≡ before ++ expand ranks lower new ++ after
  -- the nodes between have their owners in what is put in
  pub within : (new : List ℕ) → Tree ranks new → (q : ℕ) → q < length (expand ranks lower new)
      → get_or (owners ranks lower (splice i (length (subtree ranks i ws)) new ws)) (length before + q) 0 ≡ i + get_or (owners ranks lower new) q 0
  -- and no others have
  pub only : (new : List ℕ) → Tree ranks new → (p : ℕ) → p < length (expand ranks lower (splice i (length (subtree ranks i ws)) new ws))
      → i ≤ get_or (owners ranks lower (splice i (length (subtree ranks i ws)) new ws)) p 0
      → get_or (owners ranks lower (splice i (length (subtree ranks i ws)) new ws)) p 0 < i + length new
      → (length before ≤ p) × (p < length before + length (expand ranks lower new))

pub at_place : (ranks : List ℕ) (lower : List (List ℕ)) → Env ranks lower → (ws : List ℕ) → Tree ranks ws → (i : ℕ) → i < length ws → Around ranks lower ws i
at_place ranks lower env ws t i b =
    record {
      before = map (λ x. x.1) h.nodes_before;
      after = map (λ x. x.1) h.nodes_after;
      tree = λ new tn. tree_replaced ranks (take i ws) (subtree ranks i ws) new (drop (i + length (subtree ranks i ws)) ws) sub tn
          (subst (Tree ranks) (sym (subtree_itself ranks ws i b t.0)) t);
      expands = λ new tn. hole_expand ranks lower h new tn;
      within = λ new tn q qb. hole_within ranks lower h new tn q qb ∙ ap (λ n. n + get_or (owners ranks lower new) q 0) len;
      only = λ new tn p pb l u. hole_only ranks lower h new tn p pb (omega (arith, len)) (omega (arith, len));
    }
  where
    len : length (take i ws) ≡ i
    len = length-take-le i ws (omega arith)

    sub : Tree ranks (subtree ranks i ws)
    sub = subtree_tree ranks ws i b t.0

    h : Hole ranks lower (take i ws) (drop (i + length (subtree ranks i ws)) ws)
    h =
        hole ranks lower env (take i ws) (drop (i + length (subtree ranks i ws)) ws)
        (fits_around ranks (take i ws) (subtree ranks i ws) (drop (i + length (subtree ranks i ws)) ws) sub
        (subst (Fits (rank_of ranks) 0) (sym (subtree_itself ranks ws i b t.0)) t.0)).0

-- an explicit word, a label or ⊥, stands over its children as it is
pub grow_explicit : {A : Type 0} (node : ℕ → A) (lower : List (List ℕ)) (w : ℕ) (children : List (List A)) → T (is_tree_word w) → grow node lower w children ≡ node w ∷ join children
grow_explicit node lower w children x = go (class_of w) refl
  where
    go : (c : Class) → class_of w ≡ c → grow node lower w children ≡ node w ∷ join children
    go empty e = simp e
    go label e = simp e
    go (parameter n) e = absurd (simp e at x)
    go (call j) e = absurd (simp e at x)
    go illegal e = absurd (simp e at x)

module _ (ranks : List ℕ) (lower : List (List ℕ)) (w : ℕ) (vs : List ℕ) (x : T (is_tree_word w)) where
  -- such a word in front produces the first node, and no other
  first_tagged : join (tagged ranks lower (placed 0 (w ∷ vs)) []) ≡ (0, w) ∷ join (tagged ranks lower (placed 1 vs) [])
  first_tagged =
      let stack : List (List (ℕ × ℕ)) = tagged ranks lower (placed 1 vs) [] in
      ap (λ t. t ++ join (drop (rank_of ranks w) stack)) (grow_explicit (λ (v : ℕ). (0, v)) lower w (take (rank_of ranks w) stack) x)
      ∙ ap (λ r. (0, w) ∷ r) (join_parts (rank_of ranks w) stack)

  pub first_word : get_or (expand ranks lower (w ∷ vs)) 0 0 ≡ w
  first_word =
      ap (λ us. get_or us 0 0)
      (ap (expand ranks lower) (sym (placed_words 0 (w ∷ vs))) ∙ expand_tagged ranks lower (placed 0 (w ∷ vs)) ∙ ap (map (λ y. y.1)) first_tagged)

  pub first_owned : (q : ℕ) → q < length (expand ranks lower (w ∷ vs)) → get_or (owners ranks lower (w ∷ vs)) q 0 ≡ 0 → q ≡ 0
  first_owned q b e = go q (omega (arith, owners_length ranks lower (w ∷ vs), ap length is)) (sym (ap (λ os. get_or os q 0) is) ∙ e)
    where
      rest : List ℕ
      rest = map (λ y. y.0) (join (tagged ranks lower (placed 1 vs) []))

      is : owners ranks lower (w ∷ vs) ≡ 0 ∷ rest
      is = owners_tagged ranks lower (w ∷ vs) ∙ ap (map (λ y. y.0)) first_tagged

      above : Every (λ o. 0 < o) rest
      above =
          every_map (λ y. y.0) (λ o. 0 < o) (join (tagged ranks lower (placed 1 vs) []))
          (every_join (λ y. 0 < y.0) (tagged ranks lower (placed 1 vs) [])
          (every_tagged ranks lower (λ o. 0 < o) (placed 1 vs) [] (every_weaken (λ y b. omega arith) (placed 1 vs) (every_placed 1 vs)) tt))

      go : (n : ℕ) → n < length (0 ∷ rest) → get_or (0 ∷ rest) n 0 ≡ 0 → n ≡ 0
      go zero l h = refl
      go (suc n) l h = absurd (omega (arith, every_at (λ o. 0 < o) rest above 0 n (omega arith)))

-- a place of a body and the nodes that its word owns
module _ (ranks : List ℕ) (lower : List (List ℕ)) (ws : List ℕ) (t : Tree ranks ws) (i : ℕ) (b : i < length ws) (a : Around ranks lower ws i) where
  pub around_here : expand ranks lower ws ≡ a.before ++ expand ranks lower (subtree ranks i ws) ++ a.after
  around_here = ap (expand ranks lower) (sym (subtree_itself ranks ws i b t.0)) ∙ a.expands (subtree ranks i ws) (subtree_tree ranks ws i b t.0)

  module _ (p : ℕ) (pb : p < length (expand ranks lower ws)) (own : get_or (owners ranks lower ws) p 0 ≡ i) where
    owner_is : get_or (owners ranks lower (splice i (length (subtree ranks i ws)) (subtree ranks i ws) ws)) p 0 ≡ i
    owner_is = ap (λ vs. get_or (owners ranks lower vs) p 0) (subtree_itself ranks ws i b t.0) ∙ own

    -- they are the subtree's
    pub owned_between : (length a.before ≤ p) × (p < length a.before + length (expand ranks lower (subtree ranks i ws)))
    owned_between =
        a.only (subtree ranks i ws) (subtree_tree ranks ws i b t.0) p
        (subst (λ vs. p < length (expand ranks lower vs)) (sym (subtree_itself ranks ws i b t.0)) pb)
        (omega (arith, owner_is)) (omega (arith, owner_is, ap length (subtree_is ranks ws i b)))

    -- and in the subtree its first word owns them
    pub owned_by_first : get_or (owners ranks lower (subtree ranks i ws)) (p - length a.before) 0 ≡ 0
    owned_by_first =
        let (l, u) = owned_between in
        let q : ℕ = p - length a.before in
        let at : get_or (owners ranks lower (splice i (length (subtree ranks i ws)) (subtree ranks i ws) ws)) (length a.before + q) 0 ≡ i =
        ap (λ n. get_or (owners ranks lower (splice i (length (subtree ranks i ws)) (subtree ranks i ws) ws)) n 0) (omega arith) ∙ owner_is in
        omega (arith, at, a.within (subtree ranks i ws) (subtree_tree ranks ws i b t.0) q (omega arith))

    -- an explicit word owns one node, and is its word
    pub explicit_at : T (is_tree_word (get_or ws i 0)) → (length a.before ≡ p) × (get_or (expand ranks lower ws) p 0 ≡ get_or ws i 0)
    explicit_at x = (
      omega (arith, owned_between.0, first),
      ap (λ us. get_or us p 0) (around_here ∙ append_assoc a.before (expand ranks lower (subtree ranks i ws)) a.after)
          ∙ ap (λ n. get_or (a.before ++ (expand ranks lower (subtree ranks i ws) ++ a.after)) n 0) (omega (arith, owned_between.0, first))
          ∙ get_or-append-add a.before (expand ranks lower (subtree ranks i ws) ++ a.after) 0 0
          ∙ get_or-append (expand ranks lower (subtree ranks i ws)) a.after 0 0 (omega (arith, owned_between))
          ∙ ap (λ vs. get_or (expand ranks lower vs) 0 0) (subtree_is ranks ws i b)
          ∙ first_word ranks lower (get_or ws i 0) below x,
    )
      where
        below : List ℕ
        below = join (take (rank_of ranks (get_or ws i 0)) (forest ranks (drop (suc i) ws)))

        first : p - length a.before ≡ 0
        first =
            first_owned ranks lower (get_or ws i 0) below x (p - length a.before)
            (omega (arith, owned_between, ap (λ vs. length (expand ranks lower vs)) (subtree_is ranks ws i b)))
            (ap (λ vs. get_or (owners ranks lower vs) (p - length a.before) 0) (sym (subtree_is ranks ws i b)) ∙ owned_by_first)

-- a body without parameters has none at any place
pub no_parameter : (ws : List ℕ) → those is_parameter ws ≡ [] → (i : ℕ) → i < length ws → is_parameter (get_or ws i 0) ≡ false
no_parameter [] e i b = absurd (omega arith)
no_parameter (w ∷ ws) e i b = go (is_parameter w) refl i b (λ h. no_parameter ws (sym (those_out is_parameter w ws h) ∙ e))
  where
    go : (c : Bool) → is_parameter w ≡ c → (n : ℕ) → n < length (w ∷ ws)
        → (is_parameter w ≡ false → (m : ℕ) → m < length ws → is_parameter (get_or ws m 0) ≡ false) → is_parameter (get_or (w ∷ ws) n 0) ≡ false
    go true h n l next = absurd (let z : ◌≡◌ {A = ℕ} (suc (length (those is_parameter ws))) 0 = ap length (sym (those_in is_parameter w ws h) ∙ e) in omega arith)
    go false h zero l next = h
    go false h (suc n) l next = next h n (omega arith)

pub owner_no_parameter : (ranks : List ℕ) (lower : List (List ℕ)) (ws : List ℕ) → those is_parameter ws ≡ []
    → (p : ℕ) → p < length (expand ranks lower ws) → is_parameter (get_or ws (get_or (owners ranks lower ws) p 0) 0) ≡ false
owner_no_parameter ranks lower ws e p b = no_parameter ws e (get_or (owners ranks lower ws) p 0) (owner_below ranks lower ws p b)
