-- When an answer conforms, operation by operation: all that the demands and document 01 ask of it. The model's answer is not named.
use Rattle.std.specs.Prelude.{ℕ, ◌≡◌, ◌≢◌, List, ◌++◌, take, drop, get_or}
use Rattle.model.specs.Bounds.{largest_file, least_work}
use Rattle.model.specs.Trees.{Rule, tree_of, nodes}
use Rattle.model.specs.Refusals.{taken}
use Rattle.model.specs.File.{read, after_record}
use Rattle.model.specs.Edits.{Update}
use Rattle.model.specs.Answers.{Answer, CountAnswer, LabelAnswer, WindowAnswer, FileAnswer}
use Rattle.model.specs.Program.{update_in, answer_record}
use Rattle.laws.specs.Conditions.{Exactly, FilledFile, FilledWindow, read_conditions, label_conditions, window_conditions, update_conditions, pack_conditions, program_conditions, answer_in}
use Rattle.laws.specs.Returned.{UpdateReturns, PackReturns, file_of}

-- "rules opened, rounds and length written; the last three are 0 in a refusal or query"
pub record Uncounted (a : Answer) : Type 0 where
  pub opened : a.opened ≡ 0
  pub rounds : a.rounds ≡ 0
  pub length : a.length ≡ 0

-- "The checker answers a file"
pub record CheckConforms (file : List ℕ) (a : Answer) : Type 0 where
  pub exactly : Exactly (read_conditions file) a
  pub uncounted : Uncounted a

-- "the counter adds N"; "Refused, N is 0 and the queried word FFFF hex."
pub record CountConforms (file : List ℕ) (x : CountAnswer) : Type 0 where
  pub exactly : Exactly (read_conditions file) x.answer
  pub uncounted : Uncounted x.answer
  pub nodes_are : (rules : List Rule) → read file ≡ taken rules → x.nodes ≡ nodes rules
  pub refused_nodes : x.answer.number ≢ 0 → x.nodes ≡ 0

-- "the label query gives the word at p (0 at a ⊥)"
pub record LabelConforms (file : List ℕ) (p : ℕ) (x : LabelAnswer) : Type 0 where
  pub exactly : Exactly (label_conditions file p) x.answer
  pub uncounted : Uncounted x.answer
  pub word_is : x.answer.number ≡ 0 → (rules : List Rule) → read file ≡ taken rules → x.word ≡ get_or (tree_of rules) p 0
  pub refused_word : x.answer.number ≢ 0 → x.word ≡ 65535

-- "the window expander fills a lent slice of words with the tree's words from p on, the slice's length being the window's"
pub record WindowConforms (file : List ℕ) (p len : ℕ) (x : WindowAnswer) : Type 0 where
  pub exactly : Exactly (window_conditions file p len) x.answer
  pub uncounted : Uncounted x.answer
  pub filled : FilledWindow len x
  pub window_is : x.answer.number ≡ 0 → (rules : List Rule) → read file ≡ taken rules → x.window ≡ take len (drop p (tree_of rules))

-- the updater and the packer: demand 1, the lent slices, and what demand 2 says of an accepted answer
pub record UpdateConforms (room work : ℕ) (file : List ℕ) (u : Update) (x : FileAnswer) : Type 0 where
  pub exactly : Exactly (update_conditions room work file u) x.answer
  pub filled : FilledFile room work x
  pub returns : x.answer.number ≡ 0 → UpdateReturns file u x

pub record PackConforms (room work : ℕ) (tree : List ℕ) (x : FileAnswer) : Type 0 where
  pub exactly : Exactly (pack_conditions room work tree) x.answer
  pub filled : FilledFile room work x
  pub returns : x.answer.number ≡ 0 → PackReturns tree x

-- The program: "It writes an answer record, kind 3, payload 8 bytes (number, place, opened, rounds, 16 bits each), then the file if accepted." The answer and the file are an
-- updater's that conforms.
pub record ProgramConforms (input out : List ℕ) : Type 0 where
  pub exactly : Exactly (program_conditions (take 20495 input)) (answer_in out)
  pub record_first : out ≡ answer_record (answer_in out) ++ after_record out
  pub returns : (answer_in out).number ≡ 0
      → (x : FileAnswer) × UpdateConforms largest_file least_work (after_record (take 20495 input)) (update_in (take 20495 input)) x × (answer_in out ≡ x.answer) × (after_record out ≡ file_of x)

-- an answer conforms, and any two that conform are equal
pub record Settles {A : Type 0} (Conforms : A → Type 0) (answer : A) : Type 0 where
  pub conforms : Conforms answer
  pub equal : (a b : A) → Conforms a → Conforms b → a ≡ b
