-- What is printed for a question.
use Rattle.std.specs.Prelude.{ℕ, Bool, true, false, List, [], ◌∷◌, ◌++◌, eqb, Option, Some, None}
use Rattle.model.specs.Answers.{Answer, CountAnswer, LabelAnswer, WindowAnswer, checked, counted, label_at, window_at}
use Rattle.text.specs.Numbers.{decimal, word_lines}
use Rattle.text.specs.Answers.{answer_line}
use Rattle.ask.specs.declared.question.Question.{Question}
use Rattle.ask.specs.declared.question.Question.TheVariants.{Check, Count, Label, Window}

-- the first line, and what follows it where the answer is accepted
abbrev pub reply_as : Bool → List ℕ → List ℕ → List ℕ
reply_as true line rest = line ++ rest
reply_as false line rest = line

abbrev pub reply : Answer → List ℕ → List ℕ
reply a rest = reply_as (eqb a.number 0) (answer_line a) rest

-- "nodes 11"
abbrev pub count_text : CountAnswer → List ℕ
count_text c = reply c.answer ((110 ∷ 111 ∷ 100 ∷ 101 ∷ 115 ∷ 32 ∷ []) ++ decimal c.nodes ++ (10 ∷ []))

-- "word 3"
abbrev pub label_text : LabelAnswer → List ℕ
label_text l = reply l.answer ((119 ∷ 111 ∷ 114 ∷ 100 ∷ 32 ∷ []) ++ decimal l.word ++ (10 ∷ []))

-- "the words in hex, four digits each, blanks between, 16 to a line"
abbrev pub window_text : WindowAnswer → List ℕ
window_text w = reply w.answer (word_lines w.window)

-- "A wrong question gets one line of usage, nothing else."
abbrev pub usage : List ℕ
usage =
    117 ∷ 115 ∷ 97 ∷ 103 ∷ 101 ∷ 58 ∷ 32 ∷ 97 ∷ 115 ∷ 107 ∷ 32 ∷ 99 ∷ 104 ∷ 101 ∷ 99 ∷ 107 ∷ 32 ∷ 124 ∷ 32 ∷ 99 ∷ 111 ∷ 117 ∷ 110 ∷ 116 ∷ 32 ∷ 124 ∷ 32 ∷ 108 ∷ 97 ∷ 98 ∷ 101 ∷ 108 ∷ 32 ∷ 80 ∷ 79 ∷ 83 ∷ 73 ∷ 84 ∷ 73 ∷ 79 ∷ 78 ∷ 32 ∷ 124 ∷ 32 ∷ 119 ∷ 105 ∷ 110 ∷ 100 ∷ 111 ∷ 119 ∷ 32 ∷ 80 ∷ 79 ∷ 83 ∷ 73 ∷ 84 ∷ 73 ∷ 79 ∷ 78 ∷ 32 ∷ 76 ∷ 69 ∷ 78 ∷ 71 ∷ 84 ∷ 72 ∷ 32 ∷ 40 ∷ 97 ∷ 116 ∷ 32 ∷ 109 ∷ 111 ∷ 115 ∷ 116 ∷ 32 ∷ 49 ∷ 54 ∷ 51 ∷ 56 ∷ 52 ∷ 41 ∷ 44 ∷ 32 ∷ 116 ∷ 104 ∷ 101 ∷ 32 ∷ 102 ∷ 105 ∷ 108 ∷ 101 ∷ 32 ∷ 111 ∷ 110 ∷ 32 ∷ 115 ∷ 116 ∷ 97 ∷ 110 ∷ 100 ∷ 97 ∷ 114 ∷ 100 ∷ 32 ∷ 105 ∷ 110 ∷ 112 ∷ 117 ∷ 116 ∷ 10 ∷ []

-- the reply to a question about a file; a wrong question is none
abbrev pub reply_to : Option Question → List ℕ → List ℕ
reply_to (Some Check) file = answer_line (checked file)
reply_to (Some Count) file = count_text (counted file)
reply_to (Some (Label p)) file = label_text (label_at file p)
reply_to (Some (Window p length)) file = window_text (window_at file p length)
reply_to None file = usage
