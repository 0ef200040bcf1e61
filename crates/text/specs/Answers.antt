-- An answer as text.
use Rattle.std.specs.Prelude.{ℕ, ◌-◌, Bool, true, false, List, [], ◌∷◌, ◌++◌, eqb, get_or}
use Rattle.model.specs.Refusals.{REQUEST, every_refusal, name_of}
use Rattle.model.specs.Answers.{Answer}
use Rattle.text.specs.Numbers.{decimal}

-- the name of a refusal's number
abbrev pub name_by : ℕ → List ℕ
name_by number = name_of (get_or every_refusal (number - 1) REQUEST)

-- "accepted", "refused ", " ", " place " and the line's end
abbrev pub accepted_text : List ℕ
accepted_text = 97 ∷ 99 ∷ 99 ∷ 101 ∷ 112 ∷ 116 ∷ 101 ∷ 100 ∷ 10 ∷ []

abbrev pub refused_text : List ℕ
refused_text = 114 ∷ 101 ∷ 102 ∷ 117 ∷ 115 ∷ 101 ∷ 100 ∷ 32 ∷ []

abbrev pub place_text : List ℕ
place_text = 32 ∷ 112 ∷ 108 ∷ 97 ∷ 99 ∷ 101 ∷ 32 ∷ []

-- "accepted", or "refused N NAME place P"
abbrev pub refusal_line : ℕ → ℕ → List ℕ
refusal_line number place = refused_text ++ decimal number ++ (32 ∷ []) ++ name_by number ++ place_text ++ decimal place ++ (10 ∷ [])

abbrev pub answer_line_as : Bool → ℕ → ℕ → List ℕ
answer_line_as true number place = accepted_text
answer_line_as false number place = refusal_line number place

abbrev pub answer_line : Answer → List ℕ
answer_line a = answer_line_as (eqb a.number 0) a.number a.place
