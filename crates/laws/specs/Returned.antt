-- Demand 2's notions: what an accepted update and an accepted packing return.
use Rattle.std.specs.Prelude.{ℕ, ◌+◌, ◌-◌, ◌<◌, ◌≡◌, List, [], ◌∷◌, T, length, take}
use Rattle.model.specs.Trees.{Rule, tree_of, nodes}
use Rattle.model.specs.Refusals.{taken}
use Rattle.model.specs.File.{read, write}
use Rattle.model.specs.Edits.{Update, updated, added, took}
use Rattle.model.specs.Opening.{opened_at}
use Rattle.model.specs.Dropping.{dropped}
use Rattle.model.specs.Answers.{FileAnswer, CountAnswer, WindowAnswer, accepted, counted, window_at, with_start, edited_start}
use Rattle.laws.specs.Orders.{Suits}
use Rattle.laws.specs.Published.{BinaryTree, words_of, labelled, published}
use Rattle.laws.specs.Steps.{Repacks}

-- the file that is returned: as many bytes of the result buffer as were written
abbrev pub file_of : FileAnswer → List ℕ
file_of x = take x.answer.length x.result

-- the counter's answer to a file that it takes, and the window expander's
abbrev pub answered_count : ℕ → CountAnswer
answered_count n = record { answer = accepted 0 0 0; nodes = n }

abbrev pub answered_window : List ℕ → WindowAnswer
answered_window words = record { answer = accepted 0 0 0; window = words }

-- "expands to": the counter answers N, and the window of N words from 0 on is filled with the tree's words
pub record Expands (file tree : List ℕ) : Type 0 where
  pub count : counted file ≡ answered_count (length tree)
  pub window : window_at file 0 (length tree) ≡ answered_window tree

-- "The rule numbers opened fall strictly, so each is opened at most once": numbers that fall, the first of them below b
abbrev pub Falls : ℕ → List ℕ → Type 0
Falls b [] = Unit {0}
Falls b (j ∷ js) = (j < b) × Falls j js

-- The file given expands to a tree, and the file returned to the published update of that tree. Behind it, the grammars that the two files are, with the model's update on words, and
-- the steps: rules opened, and rounds from what opening, edit and dropping leave.
pub record UpdateReturns (file : List ℕ) (u : Update) (x : FileAnswer) : Type 0 where
  pub tree : BinaryTree
  pub is_labelled : T (labelled tree)
  pub old_tree : Expands file (words_of tree)
  pub new_tree : Expands (file_of x) (words_of (published u tree))
  pub old : List Rule
  pub new : List Rule
  pub reads : read file ≡ taken old
  pub suits : Suits (tree_of old) u
  pub written : file_of x ≡ write new
  pub reads_back : read (file_of x) ≡ taken new
  pub nodes_are : nodes new + took (tree_of old) u ≡ nodes old + added u.edit
  pub tree_is : tree_of new ≡ updated u (tree_of old)
  pub opened_is : x.answer.opened ≡ length (opened_at old u.at).opened
  pub opened_once : Falls (length old - 1) (opened_at old u.at).opened
  pub repacks : Repacks (dropped (with_start (edited_start old u) old)) x.answer.rounds new

-- The file returned expands to the tree that was to be packed; the rounds are those from a single rule.
pub record PackReturns (tree : List ℕ) (x : FileAnswer) : Type 0 where
  pub new_tree : Expands (file_of x) tree
  pub new : List Rule
  pub written : file_of x ≡ write new
  pub reads_back : read (file_of x) ≡ taken new
  pub tree_is : tree_of new ≡ tree
  pub opened_is : x.answer.opened ≡ 0
  pub repacks : Repacks (record { rank = 0; body = tree } ∷ []) x.answer.rounds new
