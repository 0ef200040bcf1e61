-- Document 01, "Reference trees": H and H'.
use Rattle.std.specs.Prelude.{ℕ, zero, suc, List, [], ◌∷◌, ◌++◌}

-- "rule 0 = 2 0 8001"
abbrev pub first_rule : List ℕ
first_rule = 8 ∷ 0 ∷ 0 ∷ 0 ∷ 2 ∷ 0 ∷ 1 ∷ 0 ∷ 2 ∷ 0 ∷ 0 ∷ 0 ∷ 1 ∷ 128 ∷ []

-- rule j + 1 calls rule j twice, nested
abbrev pub doubling : ℕ → List ℕ
doubling j = 8 ∷ 0 ∷ 0 ∷ 0 ∷ 2 ∷ 0 ∷ 1 ∷ 0 ∷ j ∷ 192 ∷ j ∷ 192 ∷ 1 ∷ 128 ∷ []

abbrev pub doublings : ℕ → List ℕ
doublings zero = []
doublings (suc j) = doublings j ++ doubling j

-- "rules 1 to 39 each call the one before twice"
unfoldable pub rules_one_to39 : List ℕ
rules_one_to39 = doublings 39

-- "start calls rule j on ⊥"
abbrev pub start_rule : ℕ → List ℕ
start_rule j = 6 ∷ 0 ∷ 0 ∷ 0 ∷ 2 ∷ 0 ∷ 0 ∷ 0 ∷ j ∷ 192 ∷ 0 ∷ 0 ∷ []

-- H with j = 38, H' with j = 39
abbrev pub doubled : ℕ → List ℕ
doubled j = (4 ∷ 0 ∷ 0 ∷ 0 ∷ 1 ∷ 0 ∷ 1 ∷ 0 ∷ 41 ∷ 0 ∷ []) ++ first_rule ++ rules_one_to39 ++ start_rule j
