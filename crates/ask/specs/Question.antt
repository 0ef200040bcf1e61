-- What the arguments ask.
use Rattle.std.specs.Prelude.{ℕ, ◌≤◌, cond, List, leb, eqb, Option, Some, None}
use Rattle.model.specs.Trees.{same}
use Rattle.text.specs.Numbers.{number_in}
use Rattle.text.specs.Operations.{check_name, count_name, label_name, window_name}
use Rattle.ask.specs.declared.question.Question.{Question}
use Rattle.ask.specs.declared.question.Question.TheVariants.{Check, Count, Label, Window}

-- "ask check", "ask count"
abbrev pub bare_question : List ℕ → Option Question
bare_question name = cond (same name check_name) (Some Check) (cond (same name count_name) (Some Count) None)

abbrev pub label_at : Option ℕ → Option Question
label_at None = None
label_at (Some p) = Some (Label p)

-- "ask label 6"
abbrev pub label_question : List ℕ → List ℕ → Option Question
label_question name first = cond (same name label_name) (label_at (number_in first)) None

-- the program's window has room for 16,384 words
abbrev pub window_allowed : ℕ → ℕ → Option Question
window_allowed p length = cond (leb length 16384) (Some (Window p length)) None

abbrev pub window_at : Option ℕ → Option ℕ → Option Question
window_at None length = None
window_at (Some p) None = None
window_at (Some p) (Some length) = window_allowed p length

-- "ask window 0 11"
abbrev pub window_question : List ℕ → List ℕ → List ℕ → Option Question
window_question name first second = cond (same name window_name) (window_at (number_in first) (number_in second)) None

-- by the number of arguments, the program's name among them; a wrong question is none. "A wrong question gets one line of usage, nothing else."
unfoldable pub question_of : ℕ → List ℕ → List ℕ → List ℕ → Option Question
question_of arguments name first second =
    cond (eqb arguments 2) (bare_question name)
    (cond (eqb arguments 3) (label_question name first)
    (cond (eqb arguments 4) (window_question name first second)
    None))

-- a window that is asked has room
abbrev pub Allowed : Question → Type 0
Allowed Check = Unit {0}
Allowed Count = Unit {0}
Allowed (Label p) = Unit {0}
Allowed (Window p length) = length ≤ 16384
