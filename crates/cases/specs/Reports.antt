-- What a test program prints.
use Rattle.std.specs.Prelude.{ℕ, List, [], ◌∷◌, ◌++◌}
use Rattle.text.specs.Numbers.{decimal}

-- "NAME: 165 cases, 0 wrong"
abbrev pub summary : List ℕ → ℕ → ℕ → List ℕ
summary name cases wrong =
    name
    ++ (58 ∷ 32 ∷ [])
    ++ decimal cases
    ++ (32 ∷ 99 ∷ 97 ∷ 115 ∷ 101 ∷ 115 ∷ 44 ∷ 32 ∷ [])
    ++ decimal wrong
    ++ (32 ∷ 119 ∷ 114 ∷ 111 ∷ 110 ∷ 103 ∷ 10 ∷ [])

-- "NAME: case 17 is wrong"
abbrev pub wrong_line : List ℕ → ℕ → List ℕ
wrong_line name case = name ++ (58 ∷ 32 ∷ 99 ∷ 97 ∷ 115 ∷ 101 ∷ 32 ∷ []) ++ decimal case ++ (32 ∷ 105 ∷ 115 ∷ 32 ∷ 119 ∷ 114 ∷ 111 ∷ 110 ∷ 103 ∷ 10 ∷ [])
