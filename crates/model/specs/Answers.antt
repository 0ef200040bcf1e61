-- Document 01, "Refusal numbers" and "How the updated file is made": the whole answer of every operation, with the final content of every lent slice.
use Rattle.std.specs.Prelude.{ℕ, ◌+◌, ◌-◌, Bool, true, false, not, ◌&&◌, List, [], ◌∷◌, ◌++◌, leb, ltb, eqb, length, take, drop, get_or, replicate}
use Rattle.std.proofs.Math.Option.{Option, none, some}
use Rattle.model.specs.Bounds.{is_huge, largest_file, longest_fragment, longest_tree, least_work, no_word, no_byte}
use Rattle.model.specs.Words.{is_label}
use Rattle.model.specs.Trees.{Rule, is_plain_tree, ranks_of, tree_of, nodes}
use Rattle.model.specs.Refusals.{Refusal, POSITION, NODE, LABEL, TREE, NOTHING_LEFT, OUTGROWN, FULL, ROOM, WORK, number_of, place_of, Result, taken, refused, first_of}
use Rattle.model.specs.File.{read, write}
use Rattle.model.specs.Edits.{Edit, rename, insert, delete, Update, edited, updated}
use Rattle.model.specs.Opening.{opened_at}
use Rattle.model.specs.Dropping.{dropped}
use Rattle.model.specs.Rounds.{Repacked, repacked}

-- "An answer holds number (0 = accepted), place, rules opened, rounds and length written; the last three are 0 in a refusal or query."
pub record Answer : Type 0 where
  pub number : ℕ
  pub place : ℕ
  pub opened : ℕ
  pub rounds : ℕ
  pub length : ℕ

abbrev pub accepted : ℕ → ℕ → ℕ → Answer
accepted opened rounds length = record { number = 0; place = 0; opened = opened; rounds = rounds; length = length }

abbrev pub refusal : Refusal → ℕ → Answer
refusal x record_number = record { number = number_of x; place = place_of x record_number; opened = 0; rounds = 0; length = 0 }

-- "The checker answers a file"
abbrev pub checked_as : Result (List Rule) → Answer
checked_as (taken rules) = accepted 0 0 0
checked_as (refused x k) = refusal x k

abbrev pub checked : List ℕ → Answer
checked file = checked_as (read file)

-- "the counter adds N"; "Refused, N is 0"
pub record CountAnswer : Type 0 where
  pub answer : Answer
  pub nodes : ℕ

abbrev pub counted_as : Result (List Rule) → CountAnswer
counted_as (taken rules) = record { answer = accepted 0 0 0; nodes = nodes rules }
counted_as (refused x k) = record { answer = refusal x k; nodes = 0 }

abbrev pub counted : List ℕ → CountAnswer
counted file = counted_as (read file)

-- "the label query gives the word at p (0 at a ⊥)"; "Refused, N is 0 and the queried word FFFF hex."; 12: "p is N or more"
pub record LabelAnswer : Type 0 where
  pub answer : Answer
  pub word : ℕ

abbrev pub label_as : ℕ → Result (List Rule) → LabelAnswer
label_as p (taken rules) =
    elim (leb (nodes rules) p) [
      | true ↦ record { answer = refusal POSITION 0; word = no_word }
      | false ↦ record { answer = accepted 0 0 0; word = get_or (tree_of rules) p 0 }
    ]
label_as p (refused x k) = record { answer = refusal x k; word = no_word }

abbrev pub label_at : List ℕ → ℕ → LabelAnswer
label_at file p = label_as p (read file)

-- "the window expander fills a lent slice of words with the tree's words from p on"; 12: "p plus its length is over N"; "A refused window is filled with FFFF hex"
pub record WindowAnswer : Type 0 where
  pub answer : Answer
  pub window : List ℕ

abbrev pub window_as : ℕ → ℕ → Result (List Rule) → WindowAnswer
window_as p len (taken rules) =
    elim (ltb (nodes rules) (p + len)) [
      | true ↦ record { answer = refusal POSITION 0; window = replicate len no_word }
      | false ↦ record { answer = accepted 0 0 0; window = take len (drop p (tree_of rules)) }
    ]
window_as p len (refused x k) = record { answer = refusal x k; window = replicate len no_word }

abbrev pub window_at : List ℕ → ℕ → ℕ → WindowAnswer
window_at file p len = window_as p len (read file)

-- the answer of an update or a packing, with what the result buffer and the work area then hold
pub record FileAnswer : Type 0 where
  pub answer : Answer
  pub result : List ℕ
  pub work : List ℕ

-- "A refused call fills the whole result buffer with FF; an accepted one fills what follows the file with FF." "The work area is all 0 after every call."
abbrev pub refused_file : ℕ → ℕ → Refusal → ℕ → FileAnswer
refused_file room work x k = record { answer = refusal x k; result = replicate room no_byte; work = replicate work 0 }

abbrev pub accepted_file : ℕ → ℕ → ℕ → ℕ → List ℕ → FileAnswer
accepted_file room work opened rounds file =
    record {
      answer = accepted opened rounds (length file);
      result = file ++ replicate (room - length file) no_byte;
      work = replicate work 0;
    }

-- 13: "rename or delete at a ⊥". 14: "new label 0 or over 32,767". 15: "fragment, or tree to pack, malformed, ⊥ alone or too long".
abbrev pub tree_allowed : ℕ → List ℕ → Bool
tree_allowed longest s = is_plain_tree s && ltb 1 (length s) && leb (length s) longest

abbrev pub wants_element : Edit → Bool
wants_element (rename l) = true
wants_element (insert s) = false
wants_element delete = true

abbrev pub label_allowed : Edit → Bool
label_allowed (rename l) = is_label l
label_allowed (insert s) = true
label_allowed delete = true

abbrev pub fragment_allowed : Edit → Bool
fragment_allowed (rename l) = true
fragment_allowed (insert s) = tree_allowed longest_fragment s
fragment_allowed delete = true

-- 16: "the update would leave ⊥ alone". 17: "the new N would be over 2^40". Only a delete can leave ⊥ alone, and only an insert can outgrow.
abbrev pub left_refusals : ℕ → List (Bool × Refusal)
left_refusals nodes = (eqb nodes 1, NOTHING_LEFT) ∷ (is_huge nodes, OUTGROWN) ∷ []

-- "then 12 to 19 as numbered, each where the update has it": 12 to 17
abbrev pub update_refusals : List ℕ → Update → List (Bool × Refusal)
update_refusals tree u =
    (leb (length tree) u.at, POSITION)
    ∷ (wants_element u.edit && eqb (get_or tree u.at 0) 0, NODE)
    ∷ (not (label_allowed u.edit), LABEL)
    ∷ (not (fragment_allowed u.edit), TREE)
    ∷ left_refusals (length (updated u tree))

-- 18: "the finished file would be over 16,384 bytes". 19: "the result buffer is shorter than the finished file".
abbrev pub file_refusals : ℕ → List ℕ → List (Bool × Refusal)
file_refusals room file = (ltb largest_file (length file), FULL) ∷ (ltb room (length file), ROOM) ∷ []

abbrev pub finished_as : ℕ → ℕ → ℕ → ℕ → List ℕ → Option Refusal → FileAnswer
finished_as room work opened rounds file (some x) = refused_file room work x 0
finished_as room work opened rounds file none = accepted_file room work opened rounds file

abbrev pub finished : ℕ → ℕ → ℕ → Repacked → FileAnswer
finished room work opened r = finished_as room work opened r.rounds (write r.rules) (first_of (file_refusals room (write r.rules)))

-- "Only the start body changes."
abbrev pub with_start : List ℕ → List Rule → List Rule
with_start body [] = []
with_start body (r ∷ []) = record { rank = r.rank; body = body } ∷ []
with_start body (r ∷ s ∷ rs) = r ∷ with_start body (s ∷ rs)

-- "2. The edit, on the start body."
abbrev pub edited_start : List Rule → Update → List ℕ
edited_start rules u = edited (ranks_of rules) u.edit (opened_at rules u.at).place (opened_at rules u.at).words

-- steps 1 to 4
unfoldable pub remade : List Rule → Update → Repacked
remade rules u = repacked (dropped (with_start (edited_start rules u) rules))

abbrev pub update_as : ℕ → ℕ → Update → Result (List Rule) → FileAnswer
update_as room work u (refused x k) = refused_file room work x k
update_as room work u (taken rules) =
    elim (first_of (update_refusals (tree_of rules) u)) [
      | some x ↦ refused_file room work x 0
      | none ↦ finished room work (length (opened_at rules u.at).opened) (remade rules u)
    ]

-- rename, insert and delete: 20 before what the file and the update have. `room` and `work` are the lent slices' lengths.
unfoldable pub update : ℕ → ℕ → List ℕ → Update → FileAnswer
update room work file u =
    elim (ltb work least_work) [
      | true ↦ refused_file room work WORK 0
      | false ↦ update_as room work u (read file)
    ]

-- "Packing: the tree becomes the body of a single rule, then step 4." "Packing: 20, 15, 18, 19." "Packing opens 0."
unfoldable pub packed : List ℕ → Repacked
packed tree = repacked (record { rank = 0; body = tree } ∷ [])

abbrev pub pack_refusals : ℕ → List ℕ → List (Bool × Refusal)
pack_refusals work tree = (ltb work least_work, WORK) ∷ (not (tree_allowed longest_tree tree), TREE) ∷ []

unfoldable pub pack : ℕ → ℕ → List ℕ → FileAnswer
pack room work tree =
    elim (first_of (pack_refusals work tree)) [
      | some x ↦ refused_file room work x 0
      | none ↦ finished room work 0 (packed tree)
    ]
