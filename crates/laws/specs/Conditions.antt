-- Document 01, "Refusal numbers": for each operation the conditions of its refusals, as one list in the page's order. The first that holds gives the refusal;
-- a condition behind it says nothing.
use Rattle.std.specs.Prelude.{ℕ, zero, suc, ◌+◌, ◌-◌, ◌≤◌, ◌≡◌, ◌↔◌, ◌≢◌, Bool, true, false, not, List, [], ◌∷◌, ◌++◌, ◌⊎◌, leb, ltb, eqb, length, take, drop, replicate}
use Rattle.std.proofs.Math.Option.{Option, none, some}
use Rattle.model.specs.Bounds.{largest_file, largest_size, least_work}
use Rattle.model.specs.Trees.{Rule, ranks_of, expansions, tree_of, nodes, size}
use Rattle.model.specs.Refusals.{Refusal, TRAIL, LARGE, HUGE, EMPTY, POSITION, WORK, REQUEST, number_of}
use Rattle.model.specs.File.{number_in, payload_in, head_refusals, rule_count, rule_in, rule_refusals, after_record, write}
use Rattle.model.specs.Edits.{Update}
use Rattle.model.specs.Answers.{Answer, CountAnswer, LabelAnswer, WindowAnswer, FileAnswer, refusal, update_refusals, file_refusals, pack_refusals, remade, packed}
use Rattle.model.specs.Program.{request_refused, update_in}

-- what the first condition that holds gives
abbrev pub first_in : {X : Type 0} → List (Bool × X) → Option X
first_in [] = none
first_in (c ∷ cs) = elim c.0 [ true ↦ some c.1 | false ↦ first_in cs ]

-- no condition of the list holds
abbrev pub NoneHolds : {X : Type 0} → List (Bool × X) → Type 0
NoneHolds [] = Unit {0}
NoneHolds (c ∷ cs) = (c.0 ≡ false) × NoneHolds cs

-- a condition that gives x holds, and none before it does
abbrev pub First : {X : Type 0} → X → List (Bool × X) → Type 0
First {X} x cs = (before : List (Bool × X)) × (after : List (Bool × X)) × (cs ≡ before ++ (true, x) ∷ after) × NoneHolds before

-- a refusal with its record number; conditions that are all tried at one record
abbrev pub Condition : Type 0
Condition = Bool × (Refusal × ℕ)

abbrev pub at : ℕ → List (Bool × Refusal) → List Condition
at k [] = []
at k (c ∷ cs) = (c.0, (c.1, k)) ∷ at k cs

-- `refuse` of the refusal that the first condition that holds gives, or else `accept`
abbrev pub decide : {A : Type 0} → List Condition → (Refusal → ℕ → A) → A → A
decide conditions refuse accept = elim (first_in conditions) [ some x ↦ refuse x.0 x.1 | none ↦ accept ]

-- "10 (lowest rule)"
abbrev pub huge_conditions : ℕ → List (List ℕ) → List Condition
huge_conditions r [] = []
huge_conditions r (e ∷ es) = (ltb largest_size (size e), (HUGE, suc r)) ∷ huge_conditions (suc r) es

-- "then 8, 10 (lowest rule), 11"
abbrev pub whole_conditions : List Rule → List ℕ → List Condition
whole_conditions rules bytes =
    (not (eqb (length bytes) 0), (TRAIL, suc (length rules)))
    ∷ (huge_conditions 0 (expansions rules) ++ (eqb (nodes rules) 1, (EMPTY, 0)) ∷ [])

-- "record by record", and the rules so read
abbrev pub rules_conditions : ℕ → List Rule → List ℕ → List Condition
rules_conditions zero rules bytes = whole_conditions rules bytes
rules_conditions (suc due) rules bytes =
    at (suc (length rules)) (rule_refusals (ranks_of rules) (eqb due 0) bytes)
    ++ rules_conditions due (rules ++ rule_in bytes ∷ []) (after_record bytes)

abbrev pub rules_from : ℕ → List Rule → List ℕ → List Rule
rules_from zero rules bytes = rules
rules_from (suc due) rules bytes = rules_from due (rules ++ rule_in bytes ∷ []) (after_record bytes)

unfoldable pub file_rules : List ℕ → List Rule
file_rules file = rules_from (rule_count file) [] (after_record file)

-- the checker and the counter: "9; then record by record", "then 8, 10 (lowest rule), 11"
unfoldable pub read_conditions : List ℕ → List Condition
read_conditions file =
    (ltb largest_file (length file), (LARGE, 0))
    ∷ (at 0 (head_refusals file) ++ rules_conditions (rule_count file) [] (after_record file))

-- the queries: 12, "update or label query: p is N or more; window: p plus its length is over N"
abbrev pub label_conditions : List ℕ → ℕ → List Condition
label_conditions file p = read_conditions file ++ (leb (nodes (file_rules file)) p, (POSITION, 0)) ∷ []

abbrev pub window_conditions : List ℕ → ℕ → ℕ → List Condition
window_conditions file p len = read_conditions file ++ (ltb (nodes (file_rules file)) (p + len), (POSITION, 0)) ∷ []

-- the updater: "20; 9; then record by record", "then 8, 10 (lowest rule), 11; then 12 to 19 as numbered, each where the update has it"
abbrev pub update_conditions : ℕ → ℕ → List ℕ → Update → List Condition
update_conditions room work file u =
    (ltb work least_work, (WORK, 0))
    ∷ (read_conditions file
    ++ at 0 (update_refusals (tree_of (file_rules file)) u)
    ++ at 0 (file_refusals room (write (remade (file_rules file) u).rules)))

-- "Packing: 20, 15, 18, 19."
abbrev pub pack_conditions : ℕ → ℕ → List ℕ → List Condition
pack_conditions room work tree = at 0 (pack_refusals work tree) ++ at 0 (file_refusals room (write (packed tree).rules))

-- "The program tests 21 first", on the bytes that it reads
abbrev pub program_conditions : List ℕ → List Condition
program_conditions bytes =
    (request_refused bytes, (REQUEST, 0))
    ∷ update_conditions largest_file least_work (after_record bytes) (update_in bytes)

-- "Refused, N is 0 and the queried word FFFF hex"; "A refused window is filled with FFFF hex"
abbrev pub refused_count : Refusal → ℕ → CountAnswer
refused_count x k = record { answer = refusal x k; nodes = 0 }

abbrev pub refused_label : Refusal → ℕ → LabelAnswer
refused_label x k = record { answer = refusal x k; word = 65535 }

abbrev pub refused_window : ℕ → Refusal → ℕ → WindowAnswer
refused_window len x k = record { answer = refusal x k; window = replicate len 65535 }

-- the answer that an output of the program holds
abbrev pub answer_in : List ℕ → Answer
answer_in output =
    record {
      number = number_in (take 2 (payload_in output));
      place = number_in (take 2 (drop 2 (payload_in output)));
      opened = number_in (take 2 (drop 4 (payload_in output)));
      rounds = number_in (take 2 (drop 6 (payload_in output)));
      length = length (after_record output);
    }

-- An answer is an acceptance or one refusal: a refusal exactly under the conditions, the first of them that holds; and what it then says.
pub record Exactly (conditions : List Condition) (a : Answer) : Type 0 where
  pub ends : (a.number ≡ 0) ⊎ ((x : Refusal) × (a.number ≡ number_of x))
  pub once : (x y : Refusal) → a.number ≡ number_of x → a.number ≡ number_of y → x ≡ y
  pub accepted_iff : (a.number ≡ 0) ↔ NoneHolds conditions
  pub accepted_place : a.number ≡ 0 → a.place ≡ 0
  pub refused_iff : (x : Refusal) → (a.number ≡ number_of x) ↔ ((k : ℕ) × First (x, k) conditions)
  pub refused_as : (x : Refusal) (k : ℕ) → First (x, k) conditions → a ≡ refusal x k

-- The slices lent to an update or a packing: "A refused call fills the whole result buffer with FF; an accepted one fills what follows the file with FF." "The work area is all 0
-- after every call."
pub record FilledFile (room work : ℕ) (x : FileAnswer) : Type 0 where
  pub result_length : length x.result ≡ room
  pub work_length : length x.work ≡ work
  pub work_zero : x.work ≡ replicate work 0
  pub refused_result : x.answer.number ≢ 0 → x.result ≡ replicate room 255
  pub file_fits : x.answer.length ≤ room
  pub after_file : drop x.answer.length x.result ≡ replicate (room - x.answer.length) 255

-- the slice lent to the window expander
pub record FilledWindow (len : ℕ) (x : WindowAnswer) : Type 0 where
  pub window_length : length x.window ≡ len
  pub refused_window_filled : x.answer.number ≢ 0 → x.window ≡ replicate len 65535
