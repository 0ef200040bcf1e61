-- The user's three demands of the model, and what document 01 asks of the program and of the contracts: each sentence word for word, above what states it. The notions are those of
-- specs/: `Conditions` (when a refusal is due, what fills the slices), `Published` (trees and source document 001's updates), `Steps` (rounds), `Returned` (what an accepted call
-- returns), `Runs` and `Orders` (calls one by one), `Conforming` (all that is asked of an answer). `Witnesses` has files and updates that meet every premise here, `OrderMatters` why
-- demand 3 has its own, `Work` the words that the work area has to hold.
use Prim.Native.Nat.{ℕ, ◌≤◌}
use mathlib.Core.Path.{◌≡◌, refl}
use mathlib.Core.List.{List, []}
use lib.Dec.{T}
use lib.ListN.{length, take}
use Rattle.model.specs.Bounds.{largest_file, least_work}
use Rattle.model.specs.Trees.{is_plain_tree}
use Rattle.model.specs.File.{kind_in, payload_length, after_record}
use Rattle.model.specs.Edits.{Update, updated, all_at_once, apart}
use Rattle.model.specs.Answers.{checked, counted, label_at, window_at, update, pack}
use Rattle.model.specs.Program.{run_on, program, update_in}
use Rattle.laws.specs.Conditions.{Exactly, FilledFile, FilledWindow, read_conditions, label_conditions, window_conditions, update_conditions, pack_conditions, program_conditions, answer_in}
use Rattle.laws.specs.Orders.{Suits, AllSuit, Reordered}
use Rattle.laws.specs.Published.{BinaryTree, empty_tree, element, words_of, labelled, inserted_before, OneTree, published, all_published}
use Rattle.laws.specs.Returned.{Expands, UpdateReturns, PackReturns, file_of}
use Rattle.laws.specs.Runs.{Call, asked, AllAccepted, last_file}
use Rattle.laws.specs.Conforming.{CheckConforms, CountConforms, LabelConforms, WindowConforms, UpdateConforms, PackConforms, ProgramConforms, Settles}
use Rattle.laws.proofs.Answers.Refusals.{checked_exactly, counted_exactly, label_at_exactly, window_at_exactly, update_exactly, pack_exactly, window_at_filled, update_filled, pack_filled}
use Rattle.laws.proofs.Answers.Program.{program_exactly, enough, program_record, program_never_empty}
use Rattle.laws.proofs.Edits.Published.{one_tree, words_plain_tree, published_words}
use Rattle.laws.proofs.Edits.PublishedAtOnce.{at_once_words}
use Rattle.laws.proofs.Answers.Returned.{update_returns, pack_returns}
use Rattle.laws.proofs.Answers.Recorded.{program_recorded}
use Rattle.laws.proofs.Answers.Runs.{ran_in_any_order}
use Rattle.laws.proofs.Answers.Conforming.{check_settles, count_settles, label_settles, window_settles, update_settles, pack_settles, program_settles}

-- 1. "Every call, on every input, ends in an acceptance or exactly one numbered refusal, given exactly under its stated condition. After a refusal the result buffer holds only the
-- fill byte; the work area is all 0 after every call."
pub record Demand1 : Type 0 where
  pub checker : (file : List ℕ) → Exactly (read_conditions file) (checked file)
  pub counter : (file : List ℕ) → Exactly (read_conditions file) (counted file).answer
  pub label_query : (file : List ℕ) (p : ℕ) → Exactly (label_conditions file p) (label_at file p).answer
  pub window_expander : (file : List ℕ) (p len : ℕ) → Exactly (window_conditions file p len) (window_at file p len).answer × FilledWindow len (window_at file p len)
  pub updater : (room work : ℕ) (file : List ℕ) (u : Update)
      → Exactly (update_conditions room work file u) (update room work file u).answer × FilledFile room work (update room work file u)
  pub packer : (room work : ℕ) (tree : List ℕ) → Exactly (pack_conditions room work tree) (pack room work tree).answer × FilledFile room work (pack room work tree)
  pub the_program : (input : List ℕ) → Exactly (program_conditions (take 20495 input)) (answer_in (program input))

pub demand_1 : Demand1
demand_1 =
    record {
      checker = checked_exactly;
      counter = counted_exactly;
      label_query = label_at_exactly;
      window_expander = λ file p len. (window_at_exactly file p len, window_at_filled file p len);
      updater = λ room work file u. (update_exactly room work file u, update_filled room work file u);
      packer = λ room work tree. (pack_exactly room work tree, pack_filled room work tree);
      the_program = program_exactly;
    }

-- 2. "An accepted file expands to exactly the old tree with the published update made in it; packing and expanding gives the tree back. Rules opened (each at most once) and rounds
-- are counted truly, and the repacking follows the stated steps."
pub demand_2 : (room work : ℕ) (file : List ℕ) (u : Update) → (update room work file u).answer.number ≡ 0 → UpdateReturns file u (update room work file u)
demand_2 = update_returns

pub demand_2_packing : (room work : ℕ) (tree : List ℕ) → (pack room work tree).answer.number ≡ 0 → PackReturns tree (pack room work tree)
demand_2_packing = pack_returns

-- "Source document 001 decides what an update means": the words of its update of a tree are the model's update of the tree's words.
pub published_update : (t : BinaryTree) → T (labelled t) → (u : Update) → Suits (words_of t) u → words_of (published u t) ≡ updated u (words_of t)
published_update = published_words

-- insert-before(t_i = r(t_i1, #)): "p 以下の部分木 t_p = λ_t(p)(t_1, t_2) を r(t_i1, λ_t(p)(t_1, t_2)) に置き換える" (t_p is replaced by r(t_i1, t_p))
pub published_insert : (r : ℕ) (t₁ t : BinaryTree) → inserted_before (element r t₁ empty_tree) t ≡ element r t₁ t
published_insert r t₁ t = refl

-- "A tree is written as its labels in preorder, one 16-bit word each." A complete tree of labels and ⊥ is the words of exactly one tree.
pub words_of_one_tree : (words : List ℕ) → T (is_plain_tree words) → OneTree words
words_of_one_tree = one_tree

pub words_of_a_tree : (t : BinaryTree) → T (labelled t) → T (is_plain_tree (words_of t))
words_of_a_tree = words_plain_tree

-- 3. "A list of updates addressed to one base tree (no two at one position, none at a node another removes), applied one by one in any order with positions moved, ends in one and
-- the same tree: the base with all made at once. Only premise: each call is accepted." The positions are "moved by what earlier updates at smaller positions added or took away".
pub demand_3 : (file base : List ℕ) → Expands file base
    → (us : List Update) → T (apart base us)
    → (calls : List Call) → Reordered us (asked calls)
    → AllAccepted base [] file calls
    → Expands (last_file base [] file calls) (all_at_once us base)
demand_3 = ran_in_any_order

-- "Several at once: in one pass over the base's words": the words of the base with source document 001's updates made on the tree, node by node.
pub published_at_once : (t : BinaryTree) → T (labelled t) → (us : List Update) → AllSuit (words_of t) us → T (apart (words_of t) us) → words_of (all_published us 0 t) ≡ all_at_once us (words_of t)
published_at_once = at_once_words

-- Document 01, the program: "It reads at most 20,495 bytes, enough to decide every answer."
pub program_reads_enough : (input : List ℕ) → program input ≡ run_on input
program_reads_enough = enough

-- "It writes an answer record, kind 3, payload 8 bytes (number, place, opened, rounds, 16 bits each), then the file if accepted."
pub program_writes_record : (input : List ℕ) → (kind_in (program input) ≡ 3) × (payload_length (program input) ≡ 8)
program_writes_record = program_record

pub program_writes_file : (input : List ℕ) → (answer_in (program input)).number ≡ 0
    → let x = update largest_file least_work (after_record (take 20495 input)) (update_in (take 20495 input)) in
    (answer_in (program input) ≡ x.answer) × (after_record (program input) ≡ file_of x)
program_writes_file = program_recorded

-- "Its output is never empty."
pub program_writes : (input : List ℕ) → 14 ≤ length (program input)
program_writes = program_never_empty

-- "Every public function's contract determines its answer and the final content of each lent slice for all inputs, refusals too; equality of any two conforming answers is proved".
-- The contracts are equations with the model, whose answers conform.
pub record Settled : Type 0 where
  pub checker : (file : List ℕ) → Settles (CheckConforms file) (checked file)
  pub counter : (file : List ℕ) → Settles (CountConforms file) (counted file)
  pub label_query : (file : List ℕ) (p : ℕ) → Settles (LabelConforms file p) (label_at file p)
  pub window_expander : (file : List ℕ) (p len : ℕ) → Settles (WindowConforms file p len) (window_at file p len)
  pub updater : (room work : ℕ) (file : List ℕ) (u : Update) → Settles (UpdateConforms room work file u) (update room work file u)
  pub packer : (room work : ℕ) (tree : List ℕ) → Settles (PackConforms room work tree) (pack room work tree)
  pub the_program : (input : List ℕ) → Settles (ProgramConforms input) (program input)

pub settled : Settled
settled =
    record {
      checker = check_settles;
      counter = count_settles;
      label_query = label_settles;
      window_expander = window_settles;
      updater = update_settles;
      packer = pack_settles;
      the_program = program_settles;
    }
