-- Marked words: true for a call and for the words that take its place when it is opened, false for the others. So a node that the call produces is produced by a word of the body.
use Prim.Native.Nat.{ℕ, zero, suc, ◌<◌}
use mathlib.Core.Path.{◌≡◌, refl, sym, ap, ap₂, subst, ◌∙◌}
use mathlib.Core.Bool.{Bool, true, false, false≢true}
use mathlib.Core.List.{List, [], ◌∷◌, ◌++◌, map, map-append}
use lib.Dec.{T}
use lib.ListN
use lib.ListN.{length, take, drop, get_or, length-map}
use Rattle.model.specs.Words.{is_parameter}
use Rattle.model.specs.Trees.{join, all, those, parameters, is_legal, fill, expand, owners}
use Rattle.laws.proofs.Trees.Expansion.{spread}
use Rattle.laws.proofs.Trees.Spread.{map_join, map_fill, map_spread, own_owners}
use Rattle.laws.proofs.Trees.Fills.{InOrder, in_order, fill_node, fill_param}
use Rattle.laws.proofs.Words.Lists.{get_or_map, map_take, map_drop, all_cons, every_append, Every}
use Rattle.laws.proofs.Trees.Owners.{owners_length}

abbrev pub unmarked : ℕ → Bool × ℕ
unmarked w = (false, w)

abbrev pub word_of : Bool × ℕ → ℕ
word_of x = x.1

abbrev pub mark_of : Bool × ℕ → ℕ → Bool
mark_of x v = x.0

words_unmarked : (ws : List ℕ) → map word_of (map unmarked ws) ≡ ws
words_unmarked [] = refl
words_unmarked (w ∷ ws) = ap (λ (l : List ℕ). w ∷ l) (words_unmarked ws)

trees_unmarked : (ts : List (List ℕ)) → map (map word_of) (map (map unmarked) ts) ≡ ts
trees_unmarked [] = refl
trees_unmarked (t ∷ ts) = ap₂ ◌∷◌ (words_unmarked t) (trees_unmarked ts)

module _ (ranks : List ℕ) (lower : List (List ℕ)) where
  -- the mark that a node gets is that of the word at its owner's place
  mark_owner : (xs : List (Bool × ℕ)) (p : ℕ) → p < length (expand ranks lower (map word_of xs))
      → get_or (spread word_of mark_of ranks lower xs) p false ≡ (get_or xs (get_or (owners ranks lower (map word_of xs)) p 0) (false, 0)).0
  mark_owner xs p h =
      ap (λ (l : List Bool). get_or l p false)
      (sym (map_spread word_of (λ x v. x) ranks lower (λ x. x.0) xs) ∙ ap (map (λ x. x.0)) (sym (own_owners word_of ranks lower (false, 0) xs)))
      ∙ get_or_map (λ x. x.0) (map at os) p (false, 0) false (rw (length-map, owners_length) h)
      ∙ ap (λ (x : Bool × ℕ). x.0) (get_or_map at os p 0 (false, 0) (rw owners_length h))
    where
      os : List ℕ
      os = owners ranks lower (map word_of xs)

      at : ℕ → Bool × ℕ
      at q = get_or xs q (false, 0)

  pub mark_at : (xs : List (Bool × ℕ)) (ws : List ℕ) → map word_of xs ≡ ws → (p : ℕ) → p < length (expand ranks lower ws)
      → get_or (spread word_of mark_of ranks lower xs) p false ≡ (get_or xs (get_or (owners ranks lower ws) p 0) (false, 0)).0
  mark_at xs ws e p =
      subst (λ (ws : List ℕ). p < length (expand ranks lower ws) → get_or (spread word_of mark_of ranks lower xs) p false ≡ (get_or xs (get_or (owners ranks lower ws) p 0) (false, 0)).0)
      e (mark_owner xs p)

pub every_default : {A : Type 0} (P : A → Type 0) (l : List A) (d : A) → Every P l → P d → (n : ℕ) → P (get_or l n d)
every_default P [] d e h n = h
every_default P (x ∷ xs) d e h zero = e.0
every_default P (x ∷ xs) d e h (suc n) = every_default P xs d e.1 h n

-- a marked word is legal in rule j
abbrev pub MarkedLegal : ℕ → Bool × ℕ → Type 0
MarkedLegal j x = x.0 ≡ true → T (is_legal j x.1)

every_unmarked : (j : ℕ) (ws : List ℕ) → Every (MarkedLegal j) (map unmarked ws)
every_unmarked j [] = tt
every_unmarked j (w ∷ ws) = ((λ e. absurd (false≢true e)), every_unmarked j ws)

every_marked : (j : ℕ) (args : List (List (Bool × ℕ))) → ((n : ℕ) → Every (MarkedLegal j) (get_or args n [])) → {i k : ℕ} {ws : List ℕ} → InOrder i k ws
    → T (all (is_legal j) ws) → Every (MarkedLegal j) (fill (λ v. (true, v)) args ws)
every_marked j args a InOrder.ended l = tt
every_marked j args a (InOrder.node {w = w} {ws = ws} c o) l =
    let s = all_cons (is_legal j) w ws l in
    rw (fill_node (λ v. (true, v)) args w ws c) ((λ e. s.0), every_marked j args a o s.1)
every_marked j args a (InOrder.param {i} {w = w} {ws = ws} c o) l =
    rw (fill_param (λ v. (true, v)) args i w ws c)
    (every_append (MarkedLegal j) (get_or args i []) (fill (λ v. (true, v)) args ws) (a i) (every_marked j args a o (all_cons (is_legal j) w ws l).1))

-- the words before and after the opening, with their marks
abbrev pub marked : List ℕ → ℕ → List (List ℕ) → List (Bool × ℕ)
marked before w ts = map unmarked before ++ (true, w) ∷ join (map (map unmarked) ts)

abbrev pub marked_open : List ℕ → ℕ → List (List ℕ) → List ℕ → List (Bool × ℕ)
marked_open before k ts body = map unmarked before ++ fill (λ v. (true, v)) (take k (map (map unmarked) ts)) body ++ join (drop k (map (map unmarked) ts))

pub words_marked : (before : List ℕ) (w : ℕ) (ts : List (List ℕ)) → map word_of (marked before w ts) ≡ before ++ w ∷ join ts
words_marked before w ts =
    map-append word_of (map unmarked before) ((true, w) ∷ join (map (map unmarked) ts))
    ∙ ap₂ (λ (x y : List ℕ). x ++ w ∷ y) (words_unmarked before) (map_join word_of (map (map unmarked) ts) ∙ ap join (trees_unmarked ts))

pub words_marked_open : (before : List ℕ) (k : ℕ) (ts : List (List ℕ)) (body : List ℕ)
    → map word_of (marked_open before k ts body) ≡ before ++ fill (λ v. v) (take k ts) body ++ join (drop k ts)
words_marked_open before k ts body =
    map-append word_of (map unmarked before ++ P) (join (drop k (map (map unmarked) ts)))
    ∙ ap₂ ◌++◌
    (map-append word_of (map unmarked before) P
    ∙ ap₂ ◌++◌ (words_unmarked before)
    (map_fill word_of (λ v. (true, v)) (take k (map (map unmarked) ts)) body
    ∙ ap (λ (l : List (List ℕ)). fill (λ v. v) l body) (map_take (map word_of) k (map (map unmarked) ts) ∙ ap (take k) (trees_unmarked ts))))
    (map_join word_of (drop k (map (map unmarked) ts)) ∙ ap join (map_drop (map word_of) k (map (map unmarked) ts) ∙ ap (drop k) (trees_unmarked ts)))
  where
    P : List (Bool × ℕ)
    P = fill (λ v. (true, v)) (take k (map (map unmarked) ts)) body

pub legal_marked_open : (j : ℕ) (before : List ℕ) (k : ℕ) (ts : List (List ℕ)) (body : List ℕ) → those is_parameter body ≡ parameters k → T (all (is_legal j) body)
    → Every (MarkedLegal j) (marked_open before k ts body)
legal_marked_open j before k ts body e l =
    every_append (MarkedLegal j) (map unmarked before ++ fill (λ v. (true, v)) (take k (map (map unmarked) ts)) body) (join (drop k (map (map unmarked) ts)))
    (every_append (MarkedLegal j) (map unmarked before) (fill (λ v. (true, v)) (take k (map (map unmarked) ts)) body) (every_unmarked j before)
    (every_marked j (take k (map (map unmarked) ts)) args (in_order 0 k body e) l))
    (subst (Every (MarkedLegal j)) (map_join unmarked (drop k ts) ∙ ap join (map_drop (map unmarked) k ts)) (every_unmarked j (join (drop k ts))))
  where
    args : (n : ℕ) → Every (MarkedLegal j) (get_or (take k (map (map unmarked) ts)) n [])
    args n =
        subst (Every (MarkedLegal j)) (sym (ListN.get_or-map (map unmarked) (take k ts) n []) ∙ ap (λ (l : List (List (Bool × ℕ))). get_or l n []) (map_take (map unmarked) k ts))
        (every_unmarked j (get_or (take k ts) n []))
