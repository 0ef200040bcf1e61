-- Files and updates that meet the premises of the demands and of the laws of the steps, by computation: document 01's G, three updates of it in another order than listed, and 20
-- siblings to pack.
use Prim.Native.Nat.{ℕ, ◌≤◌}
use mathlib.Core.Path.{◌≡◌, refl, subst}
use mathlib.Core.List.{List, [], ◌∷◌, ◌++◌}
use mathlib.Core.Option.{some}
use lib.Dec.{T}
use native.Mathlib.Omega.{arith}
use lib.ListN.{get_or, replicate}
use Rattle.model.specs.Bounds.{largest_file, least_work, longest_tree}
use Rattle.model.specs.Words.{class_of, call}
use Rattle.model.specs.Trees.{Rule, join, tree_of, start_of}
use Rattle.model.specs.Refusals.{taken}
use Rattle.model.specs.File.{read, write, after_record}
use Rattle.model.specs.Edits.{rename, insert, delete, Update, all_at_once, apart}
use Rattle.model.specs.Opening.{opened_at}
use Rattle.model.specs.Dropping.{dropped}
use Rattle.model.specs.Rounds.{choice, repacked}
use Rattle.model.specs.Answers.{update, remade, packed, pack, fragment_allowed, tree_allowed}
use Rattle.model.specs.Program.{program}
use Rattle.laws.specs.Conditions.{answer_in}
use Rattle.laws.specs.Formed.{formed}
use Rattle.laws.specs.Orders.{Suits, AllSuit, Reordered, keep, swap, twice}
use Rattle.laws.specs.Published.{BinaryTree, empty_tree, element, words_of, labelled, published, all_published}
use Rattle.laws.specs.Runs.{Call, asked, AllAccepted, last_file}
use Rattle.laws.specs.Steps.{Passes, start, round}
use Rattle.laws.specs.Work.{body_words, UpdateWords}
use Rattle.laws.specs.Returned.{Expands, UpdateReturns, PackReturns, file_of}
use Rattle.laws.proofs.File.Written.{Below, write_bytes}
use Rattle.laws.proofs.Answers.Returned.{single, file_expands}
use Rattle.laws.proofs.Rounds.Steps.{choice_unbeaten}
use Rattle.laws.proofs.Answers.Work.{taken_short, update_words, pack_words}
use Rattle.laws.proofs.Demands.{demand_2, demand_2_packing, program_writes_file, demand_3}

-- "G: rule 0, rank 1, 0002 0003 0000 0000 8001; rule 1, rank 0, 0001 C000 C000 0000 0000"
abbrev rules : List Rule
rules = record { rank = 1; body = 2 ∷ 3 ∷ 0 ∷ 0 ∷ 32769 ∷ [] } ∷ record { rank = 0; body = 1 ∷ 49152 ∷ 49152 ∷ 0 ∷ 0 ∷ [] } ∷ []

abbrev G : List ℕ
G = write rules

abbrev deleting : Update
deleting = record { at = 1; edit = delete }

abbrev renaming : Update
renaming = record { at = 6; edit = rename 4 }

abbrev inserting : Update
inserting = record { at = 9; edit = insert (4 ∷ 0 ∷ 0 ∷ []) }

-- the program's input for the renaming: its update record, then G
abbrev request : List ℕ
request = 10 ∷ 0 ∷ 0 ∷ 0 ∷ 16 ∷ 0 ∷ 6 ∷ 0 ∷ 0 ∷ 0 ∷ 0 ∷ 0 ∷ 0 ∷ 0 ∷ 4 ∷ 0 ∷ G

-- what is read, of a grammar: demand 3, the laws of files, opening, dropping and rounds
pub reads_G : read G ≡ taken rules
unfolding class_of read write
reads_G = refl

pub bytes_G : Below 256 G
bytes_G = write_bytes rules

pub formed_G : T (formed rules)
unfolding class_of
formed_G = tt

-- demand 2: an accepted update, an accepted packing, and an accepted input of the program
pub update_accepted : (update 64 32768 G renaming).answer.number ≡ 0
unfolding class_of read write opened_at dropped repacked remade update
update_accepted = refl

pub pack_accepted : (pack 64 32768 (1 ∷ 0 ∷ 0 ∷ [])).answer.number ≡ 0
unfolding class_of read write repacked packed pack
pack_accepted = refl

pub program_accepted : (answer_in (program request)).number ≡ 0
unfolding class_of read write opened_at dropped repacked remade update program
program_accepted = refl

-- demand 3: the three updates are apart, and every call of another order is accepted
pub all_apart : T (apart (tree_of rules) (deleting ∷ renaming ∷ inserting ∷ []))
unfolding class_of
all_apart = tt

abbrev calling : Update → Call
calling u = record { asks = u; room = 64; work = 32768 }

abbrev calls : List Call
calls = calling inserting ∷ calling deleting ∷ calling renaming ∷ []

pub other_order : Reordered (deleting ∷ renaming ∷ inserting ∷ []) (asked calls)
other_order = twice (keep swap) swap

pub all_accepted : AllAccepted (tree_of rules) [] G calls
unfolding class_of read write opened_at dropped repacked remade update
all_accepted = (refl, (refl, (refl, tt)))

-- and the tree that demand 3 then promises
pub all_made : all_at_once (deleting ∷ renaming ∷ inserting ∷ []) (tree_of rules) ≡ 1 ∷ 2 ∷ 4 ∷ 0 ∷ 0 ∷ 4 ∷ 0 ∷ 0 ∷ 0 ∷ []
unfolding class_of
all_made = refl

-- G's tree, with the three updates as source document 001 has them: each has its place, and made at once they are that tree
abbrev tree_G : BinaryTree
tree_G = element 1 (element 2 (element 3 empty_tree empty_tree) (element 2 (element 3 empty_tree empty_tree) empty_tree)) empty_tree

pub labelled_G : T (labelled tree_G) × (words_of tree_G ≡ tree_of rules)
unfolding class_of
labelled_G = (tt, refl)

pub deleted_G : published deleting tree_G ≡ element 1 (element 2 (element 3 empty_tree empty_tree) empty_tree) empty_tree
unfolding class_of
deleted_G = refl

pub inserted_G : published inserting tree_G ≡ element 1 (element 2 (element 3 empty_tree empty_tree) (element 2 (element 3 empty_tree empty_tree) (element 4 empty_tree empty_tree))) empty_tree
unfolding class_of
inserted_G = refl

pub all_suit : AllSuit (words_of tree_G) (deleting ∷ renaming ∷ inserting ∷ [])
unfolding class_of
all_suit = ((omega arith, λ e. omega arith), ((omega arith, (λ e. omega arith, tt)), ((omega arith, tt), tt)))

pub published_G : all_published (deleting ∷ renaming ∷ inserting ∷ []) 0 tree_G ≡ element 1 (element 2 (element 4 empty_tree empty_tree) (element 4 empty_tree empty_tree)) empty_tree
unfolding class_of
published_G = refl

-- the laws of the work area, of opening and of the edit
pub suits_G : Suits (tree_of rules) inserting × T (fragment_allowed inserting.edit)
unfolding class_of
suits_G = ((omega arith, tt), tt)

pub called_G : class_of (get_or (start_of rules) 1 0) ≡ call 0
unfolding class_of
called_G = refl

-- the laws of rounds: of 20 childless siblings labelled 2, the digram of a 2 and the 2 that is its next sibling is taken
abbrev siblings : List ℕ
siblings = join (replicate 20 (2 ∷ 0 ∷ [])) ++ 0 ∷ []

pub allowed_20 : T (tree_allowed longest_tree siblings)
unfolding class_of
allowed_20 = tt

pub chosen_20 : choice (single siblings) ≡ some (record { digram = record { a = 2; i = 2; b = 2 }; count = 10 })
unfolding class_of
chosen_20 = refl

pub passes_20 : Passes (single siblings) 1 (packed siblings).rules
unfolding class_of packed repacked
passes_20 = round {rules = single siblings} (omega arith) (choice_unbeaten (single siblings) _ chosen_20) start

-- What the demands and the law of the work area then say of them.
pub updated_G : UpdateReturns G renaming (update 64 32768 G renaming)
updated_G = demand_2 64 32768 G renaming update_accepted

pub packed_one : PackReturns (1 ∷ 0 ∷ 0 ∷ []) (pack 64 32768 (1 ∷ 0 ∷ 0 ∷ []))
packed_one = demand_2_packing 64 32768 (1 ∷ 0 ∷ 0 ∷ []) pack_accepted

pub recorded_G : (answer_in (program request) ≡ (update largest_file least_work G renaming).answer) × (after_record (program request) ≡ file_of (update largest_file least_work G renaming))
unfolding write
recorded_G = program_writes_file request program_accepted

pub ordered_G : Expands (last_file (tree_of rules) [] G calls) (1 ∷ 2 ∷ 4 ∷ 0 ∷ 0 ∷ 4 ∷ 0 ∷ 0 ∷ 0 ∷ [])
ordered_G =
    subst (Expands (last_file (tree_of rules) [] G calls)) all_made
    (demand_3 G (tree_of rules) (file_expands G rules reads_G (tree_of rules) refl) (deleting ∷ renaming ∷ inserting ∷ []) all_apart calls other_order all_accepted)

pub words_G : UpdateWords rules inserting
words_G = update_words rules formed_G (taken_short G rules bytes_G reads_G) inserting suits_G.0 suits_G.1

pub words_20 : body_words (packed siblings).rules ≤ 16384
words_20 = pack_words siblings allowed_20 1 (packed siblings).rules passes_20
