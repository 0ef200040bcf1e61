-- Which word of a body produces each node of its expansion: nodes carry the tag of the word that they come from.
use Prim.Native.Nat.{ℕ, suc, ◌+◌, ◌-◌, ◌≤◌, ◌<◌}
use mathlib.Core.Path.{◌≡◌, refl, sym, ap, subst, ◌∙◌}
use mathlib.Core.List.{List, [], ◌∷◌, ◌++◌, map}
use native.Mathlib.Nat.{add-zero}
use native.Mathlib.Omega.{arith}
use lib.ListN.{length, take, get_or, length-map}
use Rattle.model.specs.Words.{Class, empty, label, parameter, call, illegal, class_of, when_parameter, rank_of}
use Rattle.model.specs.Trees.{join, fill, grow, expand, placed, owners}
use Rattle.laws.proofs.Trees.Expansion.{trees}
use Rattle.laws.proofs.Trees.Spread.{map_spread, spread_map}
use Rattle.laws.proofs.Words.Lists.{every_get_or, every_weaken, every_join, every_take, every_map, every_at, every_append, Every, every_drop}

module _ {A : Type 0} (Q : A → Type 0) where
  -- what holds of the nodes and of the children holds of the whole
  pub every_fill : (node : ℕ → A) → ((v : ℕ) → Q (node v)) → (children : List (List A)) → Every (Every Q) children → (ws : List ℕ) → Every Q (fill node children ws)
  every_fill node n children f [] = tt
  every_fill node n children f (w ∷ ws) =
      every_append Q (when_parameter (node w ∷ []) (λ i. get_or children (i - 1) []) w) (fill node children ws) (go (class_of w) refl) (every_fill node n children f ws)
    where
      go : (c : Class) → class_of w ≡ c → Every Q (when_parameter (node w ∷ []) (λ i. get_or children (i - 1) []) w)
      go empty e = simp e (n w, tt)
      go label e = simp e (n w, tt)
      go (parameter i) e = simp e (every_get_or Q children f (i - 1))
      go (call j) e = simp e (n w, tt)
      go illegal e = simp e (n w, tt)

  pub every_grow : (node : ℕ → A) → ((v : ℕ) → Q (node v)) → (lower : List (List ℕ)) (w : ℕ) (children : List (List A)) → Every (Every Q) children → Every Q (grow node lower w children)
  every_grow node n lower w children f = go (class_of w) refl
    where
      go : (c : Class) → class_of w ≡ c → Every Q (grow node lower w children)
      go empty e = simp e (n w, every_join Q children f)
      go label e = simp e (n w, every_join Q children f)
      go (parameter i) e = simp e (n w, every_join Q children f)
      go (call j) e = simp e (every_fill node n children f (get_or lower j []))
      go illegal e = simp e (n w, every_join Q children f)

pub placed_words : (i : ℕ) (ws : List ℕ) → map (λ x. x.1) (placed i ws) ≡ ws
placed_words i [] = refl
placed_words i (w ∷ ws) = ap (λ r. w ∷ r) (placed_words (suc i) ws)

pub placed_append : (i : ℕ) (xs ys : List ℕ) → placed i (xs ++ ys) ≡ placed i xs ++ placed (i + length xs) ys
placed_append i [] ys = ap (λ n. placed n ys) (sym (add-zero i))
placed_append i (x ∷ xs) ys = ap (λ r. (i, x) ∷ r) (placed_append (suc i) xs ys ∙ ap (λ n. placed (suc i) xs ++ placed n ys) (omega arith))

-- The stack of words with a tag each: every node has the tag of the word that produces it.
abbrev pub tagged : {X : Type 0} → List ℕ → List (List ℕ) → List (X × ℕ) → List (List (X × ℕ)) → List (List (X × ℕ))
tagged {X} ranks lower ws stack = trees (λ (x : X × ℕ). x.1) (λ (x : X × ℕ) (v : ℕ). (x.0, v)) ranks lower ws stack

abbrev pub on : {X Y : Type 0} → (X → Y) → X × ℕ → Y × ℕ
on h x = (h x.0, x.1)

pub placed_shift : (k i : ℕ) (ws : List ℕ) → map (on (λ m. k + m)) (placed i ws) ≡ placed (k + i) ws
placed_shift k i [] = refl
placed_shift k i (w ∷ ws) = ap (λ r. (k + i, w) ∷ r) (placed_shift k (suc i) ws ∙ ap (λ n. placed n ws) (omega arith))

pub every_placed : (i : ℕ) (ws : List ℕ) → Every (λ x. (i ≤ x.0) × (x.0 < i + length ws)) (placed i ws)
every_placed i [] = tt
every_placed i (w ∷ ws) =
    ((omega arith, omega arith), every_weaken (λ x b. (omega arith, omega arith)) (placed (suc i) ws) (every_placed (suc i) ws))

module _ (ranks : List ℕ) (lower : List (List ℕ)) where
  -- other tags, the tags alone, the words alone
  pub join_tagged_on : {X Y : Type 0} (h : X → Y) (ws : List (X × ℕ)) → join (tagged ranks lower (map (on h) ws) []) ≡ map (on h) (join (tagged ranks lower ws []))
  join_tagged_on {X} {Y} h ws =
      spread_map (λ (y : Y × ℕ). y.1) (λ (y : Y × ℕ) (v : ℕ). (y.0, v)) ranks lower (on h) ws
      ∙ sym (map_spread (λ (x : X × ℕ). x.1) (λ (x : X × ℕ) (v : ℕ). (x.0, v)) ranks lower (on h) ws)

  pub owners_tagged : (ws : List ℕ) → owners ranks lower ws ≡ map (λ x. x.0) (join (tagged ranks lower (placed 0 ws) []))
  owners_tagged ws = sym (map_spread (λ (x : ℕ × ℕ). x.1) (λ (x : ℕ × ℕ) (v : ℕ). (x.0, v)) ranks lower (λ x. x.0) (placed 0 ws))

  pub expand_tagged : {X : Type 0} (ws : List (X × ℕ)) → expand ranks lower (map (λ x. x.1) ws) ≡ map (λ x. x.1) (join (tagged ranks lower ws []))
  expand_tagged {X} ws =
      spread_map (λ v. v) (λ w v. v) ranks lower (λ (x : X × ℕ). x.1) ws
      ∙ sym (map_spread (λ (x : X × ℕ). x.1) (λ (x : X × ℕ) (v : ℕ). (x.0, v)) ranks lower (λ x. x.1) ws)

  -- a tag of the result is one of the words' or of the stack's
  pub every_tagged : {X : Type 0} (Q : X → Type 0) (ws : List (X × ℕ)) (stack : List (List (X × ℕ)))
      → Every (λ x. Q x.0) ws → Every (Every (λ x. Q x.0)) stack → Every (Every (λ x. Q x.0)) (tagged ranks lower ws stack)
  every_tagged Q [] stack f g = g
  every_tagged {X} Q (x ∷ ws) stack f g =
      let all : Every (Every (λ (y : X × ℕ). Q y.0)) (tagged ranks lower ws stack) = every_tagged Q ws stack f.1 g in (
        every_grow (λ (y : X × ℕ). Q y.0) (λ (v : ℕ). (x.0, v)) (λ v. f.0) lower x.1 (take (rank_of ranks x.1) (tagged ranks lower ws stack))
            (every_take (Every (λ (y : X × ℕ). Q y.0)) (rank_of ranks x.1) (tagged ranks lower ws stack) all),
        every_drop (Every (λ (y : X × ℕ). Q y.0)) (rank_of ranks x.1) (tagged ranks lower ws stack) all,
      )

  -- every node has its owner, a place of the body
  pub owners_length : (ws : List ℕ) → length (owners ranks lower ws) ≡ length (expand ranks lower ws)
  owners_length ws =
      ap length (owners_tagged ws) ∙ length-map (join (tagged ranks lower (placed 0 ws) [])) (λ x. x.0)
      ∙ sym (length-map (join (tagged ranks lower (placed 0 ws) [])) (λ x. x.1)) ∙ ap length (sym (expand_tagged (placed 0 ws)))
      ∙ ap (λ vs. length (expand ranks lower vs)) (placed_words 0 ws)

  pub every_owner : (ws : List ℕ) → Every (λ o. o < length ws) (owners ranks lower ws)
  every_owner ws =
      subst (Every (λ o. o < length ws)) (sym (owners_tagged ws))
      (every_map (λ x. x.0) (λ o. o < length ws) (join (tagged ranks lower (placed 0 ws) []))
      (every_join (λ x. x.0 < length ws) (tagged ranks lower (placed 0 ws) [])
      (every_tagged (λ o. o < length ws) (placed 0 ws) [] (every_weaken (λ x b. omega arith) (placed 0 ws) (every_placed 0 ws)) tt)))

  pub owner_below : (ws : List ℕ) (p : ℕ) → p < length (expand ranks lower ws) → get_or (owners ranks lower ws) p 0 < length ws
  owner_below ws p h = every_at (λ o. o < length ws) (owners ranks lower ws) (every_owner ws) 0 p (omega (arith, owners_length ws))
