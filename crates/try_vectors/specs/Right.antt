-- A case is right where document 01's answers are those that it has.
use Rattle.std.specs.Prelude.{ℕ, ◌-◌, ◌/◌, ◌≡◌, List, length}
use Rattle.model.specs.Answers.{Answer, checked, counted, label_at, window_at}
use Rattle.grammar.specs.Meaning.{word_in}
use Rattle.cases.specs.declared.case.Kind.{Kind}
use Rattle.cases.specs.declared.case.Kind.TheVariants.{File, Check, Label, Window, Other}
use Rattle.cases.specs.Records.{long_in, WordsAt}

-- the answer that a case has: "the last three are 0 in a refusal or query"
abbrev pub answer_in : List ℕ → Answer
answer_in case = record { number = word_in case 8; place = word_in case 10; opened = 0; rounds = 0; length = 0 }

-- of the checker, and of the counter with its N
abbrev pub CheckRight : List ℕ → List ℕ → Type 0
CheckRight file case = (checked file ≡ answer_in case) × (counted file ≡ record { answer = answer_in case; nodes = long_in case 12 })

-- of the label query
abbrev pub LabelRight : List ℕ → List ℕ → Type 0
LabelRight file case = label_at file (long_in case 0) ≡ record { answer = answer_in case; word = long_in case 12 }

-- of the window expander, with a window of so many words
abbrev pub WindowRight : ℕ → List ℕ → List ℕ → Type 0
WindowRight size file case =
    ((window_at file (long_in case 0) size).answer ≡ answer_in case) × WordsAt (window_at file (long_in case 0) size).window case 20

-- by the case's kind, and no case of another; a window has as many words as the case
abbrev pub Right : Kind → List ℕ → List ℕ → Type 0
Right Check file case = CheckRight file case
Right Label file case = LabelRight file case
Right Window file case = WindowRight ((length case - 20) / 2) file case
Right File file case = ⊥
Right (Other n) file case = ⊥
