-- What the work area has to hold: the words of the bodies, after the edit and while rounds are made.
use Rattle.std.specs.Prelude.{ℕ, ◌+◌, ◌≤◌, List, [], ◌∷◌, length}
use Rattle.model.specs.Trees.{Rule}
use Rattle.model.specs.Edits.{Update}
use Rattle.model.specs.Opening.{opened_at}
use Rattle.model.specs.Dropping.{dropped}
use Rattle.model.specs.Answers.{with_start, edited_start}
use Rattle.laws.specs.Steps.{Passes}

-- how many words the bodies have
abbrev pub body_words : List Rule → ℕ
body_words [] = 0
body_words (r ∷ rs) = length r.body + body_words rs

-- "The work area is lent, at least 32,768 16-bit words": for an update of a file, at most 8,183 words for the opened start body, 10,230 for the edited one, and 18,413 for all
-- bodies together, then and at every round.
pub record UpdateWords (rules : List Rule) (u : Update) : Type 0 where
  pub opened : length (opened_at rules u.at).words ≤ 8183
  pub edited : length (edited_start rules u) ≤ 10230
  pub whole : body_words (with_start (edited_start rules u) rules) ≤ 18413
  pub rounds : (n : ℕ) (later : List Rule) → Passes (dropped (with_start (edited_start rules u) rules)) n later → body_words later ≤ 18413
