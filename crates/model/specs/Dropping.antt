-- Document 01, "How the updated file is made", step 3: dropping the rules that the start rule doesn't reach.
use Rattle.std.specs.Prelude.{ℕ, suc, Bool, true, false, cond, ◌||◌, List, [], ◌∷◌, map, eqb, take}
use Rattle.model.specs.Words.{when_call, renumbered}
use Rattle.model.specs.Trees.{Rule}

-- the words call rule j
abbrev pub calls : ℕ → List ℕ → Bool
calls j [] = false
calls j (w ∷ ws) = when_call false (λ k. eqb k j) w || calls j ws

-- one of the rules that `kept` marks calls rule j
abbrev pub is_called : ℕ → List Bool → List Rule → Bool
is_called j kept [] = false
is_called j [] (r ∷ rs) = false
is_called j (k ∷ ks) (r ∷ rs) = cond k (calls j r.body) false || is_called j ks rs

-- for rule j and those above it: is it the start, or called by a kept rule above it?
abbrev pub kept_from : ℕ → List Rule → List Bool
kept_from j [] = []
kept_from j (r ∷ []) = true ∷ []
kept_from j (r ∷ s ∷ rs) = let above = kept_from (suc j) (s ∷ rs) in is_called j above (s ∷ rs) ∷ above

abbrev pub how_many : List Bool → ℕ
how_many [] = 0
how_many (true ∷ ks) = suc (how_many ks)
how_many (false ∷ ks) = how_many ks

-- "the rest keep their order": a kept rule j becomes the rule with as many below it as are kept below j
abbrev pub kept_below : List Bool → ℕ → ℕ
kept_below kept j = how_many (take j kept)

abbrev pub keep : List Bool → List Bool → List Rule → List Rule
keep kept [] rs = []
keep kept (k ∷ ks) [] = []
keep kept (true ∷ ks) (r ∷ rs) = record { rank = r.rank; body = map (renumbered (kept_below kept)) r.body } ∷ keep kept ks rs
keep kept (false ∷ ks) (r ∷ rs) = keep kept ks rs

-- "Rules that the start rule doesn't reach are dropped; the rest keep their order."
unfoldable pub dropped : List Rule → List Rule
dropped rules = keep (kept_from 0 rules) (kept_from 0 rules) rules
