-- A body with a hole that one complete tree fills: what fills it stands whole in the expansion, and owns the nodes there and no others.
use Prim.Native.Nat.{ℕ, suc, ◌+◌, ◌-◌, ◌≤◌, ◌<◌}
use mathlib.Core.Path.{◌≡◌, refl, sym, ap, ap₂, subst, ◌∙◌}
use mathlib.Core.List.{List, [], ◌∷◌, ◌++◌, map, append-nil, append_assoc, map-map, map-append}
use native.Mathlib.Omega.{arith}
use lib.ListN.{length, get_or, length-append, length-map, get_or-append}
use lib.Seq.{get_or-append-add}
use Rattle.model.specs.Words.{rank_of}
use Rattle.model.specs.Trees.{fold, join, grow, expand, placed, owners}
use Rattle.laws.specs.Formed.{height, Fits, Tree, Env}
use Rattle.laws.proofs.Trees.Folds.{fold_append, height_map, fits_map, context, length_fold}
use Rattle.laws.proofs.Trees.Expansion.{grow_linear, trees_tree}
use Rattle.laws.proofs.Words.Lists.{every_split, get_or_map, every_weaken, join_append, every_join, every_map, every_at, every_append, Every}
use Rattle.laws.proofs.Trees.Owners.{placed_words, placed_append, tagged, on, placed_shift, every_placed, join_tagged_on, owners_tagged, expand_tagged, every_tagged, owners_length}

-- an element that is unlike all before and all after is between
between : (Q : ℕ → Type 0) (xs ys zs : List ℕ) → Every Q xs → Every Q zs → (p : ℕ) → p < length (xs ++ ys ++ zs)
    → (Q (get_or (xs ++ ys ++ zs) p 0) → ⊥) → (length xs ≤ p) × (p < length xs + length ys)
between Q xs ys zs f g p b off = (omega (arith, not_before), omega (arith, not_after))
  where
    not_before : ¬ (p < length xs)
    not_before l = off (subst Q (sym (ap (λ vs. get_or vs p 0) (append_assoc xs ys zs) ∙ get_or-append xs (ys ++ zs) 0 p l)) (every_at Q xs f 0 p l))

    not_after : ¬ (length xs + length ys ≤ p)
    not_after l =
        let q : ℕ = p - (length xs + length ys) in
        let p_is : p ≡ length (xs ++ ys) + q = omega (arith, length-append xs ys) in
        off (subst Q (sym (ap (λ n. get_or (xs ++ ys ++ zs) n 0) p_is ∙ get_or-append-add (xs ++ ys) zs q 0))
        (every_at Q zs g 0 q (omega (arith, length-append xs ys, length-append (xs ++ ys) zs))))

-- where a word stands around a hole in a body: to its left, in what fills it, to its right
pub data Spot : Type 0 where
  left inside right : ℕ → Spot

-- its place, if i words are to the left and n fill the hole
abbrev spot_place : ℕ → ℕ → Spot → ℕ
spot_place i n (left m) = m
spot_place i n (inside m) = i + m
spot_place i n (right m) = i + n + m

abbrev spots : List ℕ → List ℕ → List ℕ → List (Spot × ℕ)
spots xs new ys = map (on left) (placed 0 xs) ++ map (on inside) (placed 0 new) ++ map (on right) (placed 0 ys)

map_same : {X : Type 0} (xs : List (X × ℕ)) → map (on (λ x. x)) xs ≡ xs
map_same [] = refl
map_same (x ∷ xs) = ap (λ r. x ∷ r) (map_same xs)

spots_placed : (xs new ys : List ℕ) → map (on (spot_place (length xs) (length new))) (spots xs new ys) ≡ placed 0 (xs ++ new ++ ys)
spots_placed xs new ys =
    map-append g (map (on left) (placed 0 xs) ++ map (on inside) (placed 0 new)) (map (on right) (placed 0 ys))
    ∙ ap₂ (λ a b. a ++ b)
    (map-append g (map (on left) (placed 0 xs)) (map (on inside) (placed 0 new))
    ∙ ap₂ (λ a b. a ++ b)
    (map-map g (on left) (placed 0 xs) ∙ map_same (placed 0 xs))
    (map-map g (on inside) (placed 0 new) ∙ placed_shift (length xs) 0 new ∙ ap (λ n. placed n new) (omega arith))
    ∙ sym (placed_append 0 xs new))
    (map-map g (on right) (placed 0 ys) ∙ placed_shift (length xs + length new) 0 ys ∙ ap (λ n. placed n ys) (omega (arith, length-append xs new)))
    ∙ sym (placed_append 0 (xs ++ new) ys)
  where
    g : Spot × ℕ → ℕ × ℕ
    g = on (spot_place (length xs) (length new))

spot_words : (g : ℕ → Spot) (ws : List ℕ) → map (λ x. x.1) (map (on g) (placed 0 ws)) ≡ ws
spot_words g ws = map-map (λ x. x.1) (on g) (placed 0 ws) ∙ placed_words 0 ws

spots_words : (xs new ys : List ℕ) → map (λ x. x.1) (spots xs new ys) ≡ xs ++ new ++ ys
spots_words xs new ys =
    map-append (λ x. x.1) (map (on left) (placed 0 xs) ++ map (on inside) (placed 0 new)) (map (on right) (placed 0 ys))
    ∙ ap₂ (λ a b. a ++ b)
    (map-append (λ x. x.1) (map (on left) (placed 0 xs)) (map (on inside) (placed 0 new)) ∙ ap₂ (λ a b. a ++ b) (spot_words left xs) (spot_words inside new))
    (spot_words right ys)

-- not in the hole
abbrev Away : ℕ → Spot → Type 0
Away i (left m) = m < i
Away i (inside m) = ⊥
Away i (right m) = Unit {0}

-- no place of a spot away from the hole is a place of the hole
away_place : (i n : ℕ) (s : Spot) → Away i s → i ≤ spot_place i n s → spot_place i n s < i + n → ⊥
away_place i n (left m) a l h = omega arith
away_place i n (inside m) a l h = a
away_place i n (right m) a l h = omega arith

module _ (ranks : List ℕ) (lower : List (List ℕ)) where
  -- words that are one complete tree, with tags
  tagged_tree : {X : Type 0} (ws : List (X × ℕ)) (stack : List (List (X × ℕ))) → Tree ranks (map (λ x. x.1) ws)
      → tagged ranks lower ws stack ≡ join (tagged ranks lower ws []) ∷ stack
  tagged_tree {X} ws stack t =
      trees_tree (λ (x : X × ℕ). x.1) (λ (x : X × ℕ) (v : ℕ). (x.0, v)) ranks lower ws stack
      (fits_map (λ (x : X × ℕ). x.1) (rank_of ranks) 0 ws t.0, sym (height_map (λ (x : X × ℕ). x.1) (rank_of ranks) 0 ws) ∙ t.1)

  -- the hole in a body, and the nodes before and after what fills it
  pub record Hole (xs ys : List ℕ) : Type 0 where
    pub nodes_before : List (Spot × ℕ)
    pub nodes_after : List (Spot × ℕ)
    filled : (new : List ℕ) → Tree ranks new
        → join (tagged ranks lower (spots xs new ys) []) ≡ nodes_before ++ join (tagged ranks lower (map (on inside) (placed 0 new)) []) ++ nodes_after
    away_before : Every (λ x. Away (length xs) x.0) nodes_before
    away_after : Every (λ x. Away (length xs) x.0) nodes_after

  pub hole : Env ranks lower → (xs ys : List ℕ) → Fits (rank_of ranks) (suc (height (rank_of ranks) 0 ys)) xs → Hole xs ys
  hole env xs ys f =
      let (before, P, S, after, e) = context rank over (λ x. grow_linear ranks lower env (λ (v : ℕ). (x.0, v)) x.1) lefts (tagged ranks lower rights []) fits in
      made before P S after e
    where
      rank : Spot × ℕ → ℕ
      rank x = rank_of ranks x.1

      over : Spot × ℕ → List (List (Spot × ℕ)) → List (Spot × ℕ)
      over x = grow (λ (v : ℕ). (x.0, v)) lower x.1

      lefts : List (Spot × ℕ)
      lefts = map (on left) (placed 0 xs)

      rights : List (Spot × ℕ)
      rights = map (on right) (placed 0 ys)

      many : length (tagged ranks lower rights []) ≡ height (rank_of ranks) 0 ys
      many =
          length_fold rank over rights [] ∙ sym (height_map (λ (x : Spot × ℕ). x.1) (rank_of ranks) 0 rights)
          ∙ ap (height (rank_of ranks) 0) (spot_words right ys)

      fits : Fits rank (suc (length (tagged ranks lower rights []))) lefts
      fits =
          fits_map (λ (x : Spot × ℕ). x.1) (rank_of ranks) (suc (length (tagged ranks lower rights []))) lefts
          (subst (λ vs. Fits (rank_of ranks) (suc (length (tagged ranks lower rights []))) vs) (sym (spot_words left xs))
          (subst (λ n. Fits (rank_of ranks) (suc n) xs) (sym many) f))

      Q : Spot × ℕ → Type 0
      Q x = Away (length xs) x.0

      away : Every (Every Q) (tagged ranks lower lefts ([] ∷ tagged ranks lower rights []))
      away =
          every_tagged ranks lower (Away (length xs)) lefts ([] ∷ tagged ranks lower rights [])
          (every_map (on left) Q (placed 0 xs) (every_weaken (λ x b. omega arith) (placed 0 xs) (every_placed 0 xs)))
          (tt, every_tagged ranks lower (Away (length xs)) rights [] (every_map (on right) Q (placed 0 ys) (every_weaken (λ x b. tt) (placed 0 ys) (every_placed 0 ys))) tt)

      fills : (before : List (List (Spot × ℕ))) (P S : List (Spot × ℕ)) (after : List (List (Spot × ℕ)))
          → ((t : List (Spot × ℕ)) → fold rank over lefts (t ∷ tagged ranks lower rights []) ≡ before ++ (P ++ t ++ S) ∷ after)
          → (new : List ℕ) → Tree ranks new
          → join (tagged ranks lower (spots xs new ys) []) ≡ join before ++ P ++ join (tagged ranks lower (map (on inside) (placed 0 new)) []) ++ (S ++ join after)
      fills before P S after e new t =
          let news : List (Spot × ℕ) = map (on inside) (placed 0 new) in
          ap join
          (fold_append rank over (lefts ++ news) rights []
          ∙ fold_append rank over lefts news (tagged ranks lower rights [])
          ∙ ap (fold rank over lefts) (tagged_tree news (tagged ranks lower rights []) (subst (Tree ranks) (sym (spot_words inside new)) t))
          ∙ e (join (tagged ranks lower news [])))
          ∙ join_append before ((P ++ join (tagged ranks lower news []) ++ S) ∷ after)
          ∙ simp append_assoc

      made : (before : List (List (Spot × ℕ))) (P S : List (Spot × ℕ)) (after : List (List (Spot × ℕ)))
          → ((t : List (Spot × ℕ)) → fold rank over lefts (t ∷ tagged ranks lower rights []) ≡ before ++ (P ++ t ++ S) ∷ after) → Hole xs ys
      made before P S after e =
          let (b, m) = every_split (Every Q) before ((P ++ [] ++ S) ∷ after) (subst (Every (Every Q)) (e []) away) in
          let (p, s) = every_split Q (P ++ []) S m.0 in
          record {
            nodes_before = join before ++ P;
            nodes_after = S ++ join after;
            filled = λ new t. fills before P S after e new t;
            away_before = every_append Q (join before) P (every_join Q before b) (subst (Every Q) (append-nil P) p);
            away_after = every_append Q S (join after) s (every_join Q after m.1);
          }

  map_append₃ : {A B : Type 0} (h : A → B) (xs ys zs : List A) → map h (xs ++ ys ++ zs) ≡ map h xs ++ map h ys ++ map h zs
  map_append₃ h xs ys zs = map-append h (xs ++ ys) zs ∙ ap (λ r. r ++ map h zs) (map-append h xs ys)

  module _ {xs ys : List ℕ} (h : Hole xs ys) (new : List ℕ) (t : Tree ranks new) where
    pub hole_expand : expand ranks lower (xs ++ new ++ ys) ≡ map (λ x. x.1) h.nodes_before ++ expand ranks lower new ++ map (λ x. x.1) h.nodes_after
    hole_expand =
        let news : List (Spot × ℕ) = map (on inside) (placed 0 new) in
        ap (expand ranks lower) (sym (spots_words xs new ys)) ∙ expand_tagged ranks lower (spots xs new ys)
        ∙ ap (map (λ x. x.1)) (h.filled new t)
        ∙ map_append₃ (λ x. x.1) h.nodes_before (join (tagged ranks lower news [])) h.nodes_after
        ∙ ap (λ r. map (λ x. x.1) h.nodes_before ++ r ++ map (λ x. x.1) h.nodes_after) (sym (expand_tagged ranks lower news) ∙ ap (expand ranks lower) (spot_words inside new))

    place : Spot × ℕ → ℕ
    place x = spot_place (length xs) (length new) x.0

    hole_owners : owners ranks lower (xs ++ new ++ ys) ≡ map place h.nodes_before ++ map (λ m. length xs + m) (owners ranks lower new) ++ map place h.nodes_after
    unfolding place
    hole_owners =
        let news : List (Spot × ℕ) = map (on inside) (placed 0 new) in
        owners_tagged ranks lower (xs ++ new ++ ys)
        ∙ ap (λ ps. map (λ x. x.0) (join (tagged ranks lower ps []))) (sym (spots_placed xs new ys))
        ∙ ap (map (λ x. x.0)) (join_tagged_on ranks lower (spot_place (length xs) (length new)) (spots xs new ys))
        ∙ map-map (λ x. x.0) (on (spot_place (length xs) (length new))) (join (tagged ranks lower (spots xs new ys) []))
        ∙ ap (map place) (h.filled new t)
        ∙ map_append₃ place h.nodes_before (join (tagged ranks lower news [])) h.nodes_after
        ∙ ap (λ r. map place h.nodes_before ++ r ++ map place h.nodes_after)
        (ap (map place) (join_tagged_on ranks lower inside (placed 0 new))
        ∙ map-map place (on inside) (join (tagged ranks lower (placed 0 new) []))
        ∙ sym (map-map (λ m. length xs + m) (λ x. x.0) (join (tagged ranks lower (placed 0 new) [])))
        ∙ ap (map (λ m. length xs + m)) (sym (owners_tagged ranks lower new)))

    pub hole_within : (q : ℕ) → q < length (expand ranks lower new)
        → get_or (owners ranks lower (xs ++ new ++ ys)) (length (map (λ x. x.1) h.nodes_before) + q) 0 ≡ length xs + get_or (owners ranks lower new) q 0
    hole_within q b =
        let ins : List ℕ = map (λ m. length xs + m) (owners ranks lower new) in
        let lb : length (map (λ x. x.1) h.nodes_before) ≡ length (map place h.nodes_before) = length-map h.nodes_before (λ x. x.1) ∙ sym (length-map h.nodes_before place) in
        let lo : q < length (owners ranks lower new) = omega (arith, owners_length ranks lower new) in
        ap₂ (λ os n. get_or os (n + q) 0) (hole_owners ∙ append_assoc (map place h.nodes_before) ins (map place h.nodes_after)) lb
        ∙ get_or-append-add (map place h.nodes_before) (ins ++ map place h.nodes_after) q 0
        ∙ get_or-append ins (map place h.nodes_after) 0 q (omega (arith, length-map (owners ranks lower new) (λ m. length xs + m)))
        ∙ get_or_map (λ m. length xs + m) (owners ranks lower new) q 0 0 lo

    pub hole_only : (p : ℕ) → p < length (expand ranks lower (xs ++ new ++ ys))
        → length xs ≤ get_or (owners ranks lower (xs ++ new ++ ys)) p 0 → get_or (owners ranks lower (xs ++ new ++ ys)) p 0 < length xs + length new
        → (length (map (λ x. x.1) h.nodes_before) ≤ p) × (p < length (map (λ x. x.1) h.nodes_before) + length (expand ranks lower new))
    unfolding place
    hole_only p b l u =
        let ins : List ℕ = map (λ m. length xs + m) (owners ranks lower new) in
        let r = between Q (map place h.nodes_before) ins (map place h.nodes_after)
        (every_map place Q h.nodes_before (every_weaken (λ x a. away_place (length xs) (length new) x.0 a) h.nodes_before h.away_before))
        (every_map place Q h.nodes_after (every_weaken (λ x a. away_place (length xs) (length new) x.0 a) h.nodes_after h.away_after))
        p (omega (arith, owners_length ranks lower (xs ++ new ++ ys), ap length hole_owners))
        (λ off. subst (λ os. Q (get_or os p 0)) (sym hole_owners) off l u) in (
          omega (arith, r.0, length-map h.nodes_before (λ x. x.1), length-map h.nodes_before place),
          omega (arith, r.1, length-map h.nodes_before (λ x. x.1), length-map h.nodes_before place, length-map (owners ranks lower new) (λ m. length xs + m), owners_length ranks lower new),
        )
      where
        Q : ℕ → Type 0
        Q o = length xs ≤ o → o < length xs + length new → ⊥
