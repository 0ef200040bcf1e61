-- Document 01, "Refusal numbers": the closed list, with each refusal's number, name and place.
use Rattle.std.specs.Prelude.{ℕ, Bool, true, false, cond, ◌||◌, List, [], ◌∷◌, leb, eqb}
use Rattle.std.proofs.Math.Option.{Option, none, some}

pub data Refusal : Type 0 where
  SHORT KIND LENGTH HEAD RANK SYMBOL BODY TRAIL LARGE HUGE EMPTY POSITION NODE LABEL TREE NOTHING_LEFT OUTGROWN FULL ROOM WORK REQUEST : Refusal

abbrev pub number_of : Refusal → ℕ
number_of SHORT = 1
number_of KIND = 2
number_of LENGTH = 3
number_of HEAD = 4
number_of RANK = 5
number_of SYMBOL = 6
number_of BODY = 7
number_of TRAIL = 8
number_of LARGE = 9
number_of HUGE = 10
number_of EMPTY = 11
number_of POSITION = 12
number_of NODE = 13
number_of LABEL = 14
number_of TREE = 15
number_of NOTHING_LEFT = 16
number_of OUTGROWN = 17
number_of FULL = 18
number_of ROOM = 19
number_of WORK = 20
number_of REQUEST = 21

-- the table's rows, from number 1 on
abbrev pub every_refusal : List Refusal
every_refusal =
    SHORT ∷ KIND ∷ LENGTH ∷ HEAD ∷ RANK ∷ SYMBOL ∷ BODY ∷ TRAIL ∷ LARGE ∷ HUGE ∷ EMPTY
    ∷ POSITION ∷ NODE ∷ LABEL ∷ TREE ∷ NOTHING_LEFT ∷ OUTGROWN ∷ FULL ∷ ROOM ∷ WORK ∷ REQUEST ∷ []

-- the name, in ASCII
abbrev pub name_of : Refusal → List ℕ
name_of SHORT = 83 ∷ 72 ∷ 79 ∷ 82 ∷ 84 ∷ []
name_of KIND = 75 ∷ 73 ∷ 78 ∷ 68 ∷ []
name_of LENGTH = 76 ∷ 69 ∷ 78 ∷ 71 ∷ 84 ∷ 72 ∷ []
name_of HEAD = 72 ∷ 69 ∷ 65 ∷ 68 ∷ []
name_of RANK = 82 ∷ 65 ∷ 78 ∷ 75 ∷ []
name_of SYMBOL = 83 ∷ 89 ∷ 77 ∷ 66 ∷ 79 ∷ 76 ∷ []
name_of BODY = 66 ∷ 79 ∷ 68 ∷ 89 ∷ []
name_of TRAIL = 84 ∷ 82 ∷ 65 ∷ 73 ∷ 76 ∷ []
name_of LARGE = 76 ∷ 65 ∷ 82 ∷ 71 ∷ 69 ∷ []
name_of HUGE = 72 ∷ 85 ∷ 71 ∷ 69 ∷ []
name_of EMPTY = 69 ∷ 77 ∷ 80 ∷ 84 ∷ 89 ∷ []
name_of POSITION = 80 ∷ 79 ∷ 83 ∷ 73 ∷ 84 ∷ 73 ∷ 79 ∷ 78 ∷ []
name_of NODE = 78 ∷ 79 ∷ 68 ∷ 69 ∷ []
name_of LABEL = 76 ∷ 65 ∷ 66 ∷ 69 ∷ 76 ∷ []
name_of TREE = 84 ∷ 82 ∷ 69 ∷ 69 ∷ []
name_of NOTHING_LEFT = 78 ∷ 79 ∷ 84 ∷ 72 ∷ 73 ∷ 78 ∷ 71 ∷ 32 ∷ 76 ∷ 69 ∷ 70 ∷ 84 ∷ []
name_of OUTGROWN = 79 ∷ 85 ∷ 84 ∷ 71 ∷ 82 ∷ 79 ∷ 87 ∷ 78 ∷ []
name_of FULL = 70 ∷ 85 ∷ 76 ∷ 76 ∷ []
name_of ROOM = 82 ∷ 79 ∷ 79 ∷ 77 ∷ []
name_of WORK = 87 ∷ 79 ∷ 82 ∷ 75 ∷ []
name_of REQUEST = 82 ∷ 69 ∷ 81 ∷ 85 ∷ 69 ∷ 83 ∷ 84 ∷ []

-- "The place in a refusal is the record number (head 0, rule r is r + 1, 8 gives n + 1) for 1 to 8 and 10, and otherwise 0."
abbrev pub place_of : Refusal → ℕ → ℕ
place_of x record_number = cond (leb (number_of x) 8 || eqb (number_of x) 10) record_number 0

-- Conditions are tried in the page's order: the first that holds gives its refusal.
abbrev pub first_of : List (Bool × Refusal) → Option Refusal
first_of [] = none
first_of (c ∷ cs) = elim c.0 [ true ↦ some c.1 | false ↦ first_of cs ]

-- what is taken, or a refusal with its record number
pub data Result (A : Type 0) : Type 0 where
  taken : A → Result A
  refused : Refusal → ℕ → Result A
