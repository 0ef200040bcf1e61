-- Demand 3's calls: updates of one base tree, made on files one by one, each on the file that the one before returned.
use Rattle.std.specs.Prelude.{ℕ, ◌≡◌, List, [], ◌∷◌, ◌++◌, map}
use Rattle.model.specs.Edits.{Update}
use Rattle.model.specs.Answers.{FileAnswer, update}
use Rattle.laws.specs.Orders.{moved_by}
use Rattle.laws.specs.Returned.{file_of}

-- what a call asks for, at a position of the base, and the lengths of the slices lent to it
pub record Call : Type 0 where
  pub asks : Update
  pub room : ℕ
  pub work : ℕ

abbrev pub asked : List Call → List Update
asked calls = map (λ c. c.asks) calls

-- the answer to a call on a file, its position moved by the updates made before it
abbrev pub answer_to : List ℕ → List Update → List ℕ → Call → FileAnswer
answer_to base made file c = update c.room c.work file (moved_by base made c.asks)

-- every call in its turn is accepted
abbrev pub AllAccepted : List ℕ → List Update → List ℕ → List Call → Type 0
AllAccepted base made file [] = Unit {0}
AllAccepted base made file (c ∷ cs) =
    ((answer_to base made file c).answer.number ≡ 0) × AllAccepted base (made ++ c.asks ∷ []) (file_of (answer_to base made file c)) cs

-- the file that the last call returns
abbrev pub last_file : List ℕ → List Update → List ℕ → List Call → List ℕ
last_file base made file [] = file
last_file base made file (c ∷ cs) = last_file base (made ++ c.asks ∷ []) (file_of (answer_to base made file c)) cs
