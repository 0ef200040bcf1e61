-- What the code's values mean in the model: each enum's cases, and the results of reading a part of a file.
use Rattle.std.specs.Prelude.{ℕ, zero, suc, ◌+◌, ◌*◌, ◌-◌, ◌≤◌, Bool, cond, ◌&&◌, List, [], ◌∷◌, ◌++◌, map, leb, eqb, ◌≡◌, length, take, drop, get_or, replicate, Ok, Err, Result as Outcome}
use Rattle.std.proofs.Math.Option.{Option, none, some}
use Rattle.std.proofs.lemmas.List.Edits.{sets}
use Rattle.model.specs.Words.{Class, empty, label, parameter, call, illegal}
use Rattle.model.specs.Refusals as model
use Rattle.model.specs.Refusals.{Result, taken, refused, first_of}
use Rattle.model.specs.File.{words_in, payload_length, record_refusals, head_refusals, rule_refusals, rule_in, after_record, rule_count, is_even}
use Rattle.model.specs.Trees.{Rule, ranks_of}
use Rattle.grammar.specs.declared.words.Word.{Word}
use Rattle.grammar.specs.declared.words.Word.TheVariants.{Empty, Label, Parameter, Call, Illegal}
use Rattle.grammar.specs.declared.refusals.Refusal.{Refusal}
use Rattle.grammar.specs.declared.refusals.Refusal.TheVariants as refusals
use Rattle.grammar.specs.declared.refusals.Refused.{Refused}
use Rattle.grammar.specs.declared.file.Kind.{Kind}
use Rattle.grammar.specs.declared.file.Kind.TheVariants as kinds
use Rattle.model.specs.Answers as answers
use Rattle.grammar.specs.declared.refusals.Answer.{Answer}
use Rattle.grammar.specs.declared.answers.Counted.{Counted}
use Rattle.grammar.specs.declared.rules.Entry.{Entry}

-- the row of document 01's table of words
abbrev pub class_is : Word → Class
class_is Empty = empty
class_is Label = label
class_is (Parameter i) = parameter i
class_is (Call j) = call j
class_is Illegal = illegal

-- document 01's refusal, and with it its number, name and place
abbrev pub refusal_is : Refusal → model.Refusal
refusal_is refusals.Short = model.SHORT
refusal_is refusals.Kind = model.KIND
refusal_is refusals.Length = model.LENGTH
refusal_is refusals.Head = model.HEAD
refusal_is refusals.Rank = model.RANK
refusal_is refusals.Symbol = model.SYMBOL
refusal_is refusals.Body = model.BODY
refusal_is refusals.Trail = model.TRAIL
refusal_is refusals.Large = model.LARGE
refusal_is refusals.Huge = model.HUGE
refusal_is refusals.Empty = model.EMPTY
refusal_is refusals.Position = model.POSITION
refusal_is refusals.Node = model.NODE
refusal_is refusals.Label = model.LABEL
refusal_is refusals.Tree = model.TREE
refusal_is refusals.NothingLeft = model.NOTHING_LEFT
refusal_is refusals.Outgrown = model.OUTGROWN
refusal_is refusals.Full = model.FULL
refusal_is refusals.Room = model.ROOM
refusal_is refusals.Work = model.WORK
refusal_is refusals.Request = model.REQUEST

-- the 16-bit and the 32-bit number at a place
abbrev pub word_in : List ℕ → ℕ → ℕ
word_in file at = get_or file at 0 + 256 * get_or file (at + 1) 0

abbrev pub length_in : List ℕ → ℕ → ℕ
length_in file at = word_in file at + 65536 * word_in file (at + 2)

-- a kind's number
abbrev pub kind_is : Kind → ℕ
kind_is kinds.Head = 1
kind_is kinds.Rule = 2

-- a value, or a refusal whose place the caller has
abbrev pub result_is : {A : Type 0} → Outcome A Refusal → Result A
result_is (Ok a) = taken a
result_is (Err x) = refused (refusal_is x) 0

-- the first of the conditions that holds, or the value
abbrev pub unless_refused : {A : Type 0} → A → Option model.Refusal → Result A
unless_refused value none = taken value
unless_refused value (some x) = refused x 0

-- "4 for the head; even and at least 4 for a rule"
abbrev pub length_allowed : ℕ → ℕ → Bool
length_allowed kind l = cond (eqb kind 1) (eqb l 4) (is_even l && leb 4 l)

abbrev pub record_result : ℕ → List ℕ → Result ℕ
record_result kind bytes = unless_refused (payload_length bytes) (first_of (record_refusals kind (length_allowed kind) bytes))

abbrev pub head_result : List ℕ → Result ℕ
head_result bytes = unless_refused (rule_count bytes) (first_of (head_refusals bytes))

-- the `words` words from the place `at` on
abbrev pub body_in : List ℕ → ℕ → ℕ → List ℕ
body_in file at words = words_in (take (2 * words) (drop at file))

-- the ranks of rules
abbrev pub ranks_in : List Entry → List ℕ
ranks_in rules = map (λ (e : Entry). e.rank) rules

-- they are ranks that a rule may have
abbrev pub RanksSmall : List Entry → Type 0
RanksSmall rules = (j : ℕ) → get_or (ranks_in rules) j 0 ≤ 4

-- a rule's entry, of a record at a place, or the first refusal
abbrev pub rule_result : List ℕ → Bool → ℕ → List ℕ → Result Entry
rule_result ranks last at bytes =
    unless_refused (record { rank = (rule_in bytes).rank; place = at + 8; words = length (rule_in bytes).body }) (first_of (rule_refusals ranks last bytes))

-- the first r rules, read one after the other, and the bytes after them
abbrev pub rules_in : ℕ → List ℕ → List Rule
rules_in zero bytes = []
rules_in (suc r) bytes = rule_in bytes ∷ rules_in r (after_record bytes)

abbrev pub after_rules : ℕ → List ℕ → List ℕ
after_rules zero bytes = bytes
after_rules (suc r) bytes = after_rules r (after_record bytes)

-- the rules of a file, as many as its head says
abbrev pub written_rules : List ℕ → List Rule
written_rules file = rules_in (rule_count file) (drop 10 file)

-- the model's reading of the rules' records alone
abbrev pub read_records : ℕ → List Rule → List ℕ → Result (List Rule)
read_records zero rules bytes = taken rules
read_records (suc due) rules bytes =
    elim (first_of (rule_refusals (ranks_of rules) (eqb due 0) bytes)) [
      | some x ↦ refused x (suc (length rules))
      | none ↦ read_records due (rules ++ rule_in bytes ∷ []) (after_record bytes)
    ]

-- the rule table's entries for rules whose first body stands at a place
abbrev pub entries : ℕ → List Rule → List Entry
entries place [] = []
entries place (r ∷ rs) = record { rank = r.rank; place = place; words = length r.body } ∷ entries (place + 2 * length r.body + 8) rs

-- the entry of a rule that there isn't
abbrev pub no_rule : Entry
no_rule = record { rank = 0; place = 0; words = 0 }

-- each rule's body stands in the file at its place
abbrev pub Bodies : List ℕ → ℕ → List Rule → Type 0
Bodies file place [] = Unit {0}
Bodies file place (r ∷ rs) = (body_in file place (length r.body) ≡ r.body) × Bodies file (place + 2 * length r.body + 8) rs

-- the place after the rules whose first body stands at a place
abbrev pub place_after : ℕ → List Rule → ℕ
place_after place [] = place
place_after place (r ∷ rs) = place_after (place + 2 * length r.body + 8) rs

-- what reading n rules leaves
pub record RulesTaken (end n : ℕ) (file : List ℕ) (before after : List Entry) : Type 0 where
  pub result : read_records n [] (drop 10 file) ≡ taken (rules_in n (drop 10 file))
  pub rest : drop end file ≡ after_rules n (drop 10 file)
  pub end_place : end + 8 ≡ place_after 18 (rules_in n (drop 10 file))
  pub end_within : end ≤ length file
  pub entered : after ≡ sets before 0 (entries 18 (rules_in n (drop 10 file)))
  pub bodies : Bodies file 18 (rules_in n (drop 10 file))
  pub ranks : ranks_in (take n after) ≡ ranks_of (rules_in n (drop 10 file))
  pub small : RanksSmall (take n after)

abbrev pub RulesRead : Outcome ℕ Refused → ℕ → List ℕ → List Entry → List Entry → Type 0
RulesRead (Ok end) n file before after = RulesTaken end n file before after
RulesRead (Err x) n file before after =
    (read_records n [] (drop 10 file) ≡ refused (refusal_is x.refusal) x.place) × (length after ≡ length before)

-- a table of the given length: the entries, then the filler
abbrev pub padded : {A : Type 0} → A → ℕ → List A → List A
padded filler len entries = entries ++ replicate (len - length entries) filler

-- a value, or a refusal with its place
abbrev pub reading_is : {A : Type 0} → Outcome A Refused → Result A
reading_is (Ok a) = taken a
reading_is (Err x) = refused (refusal_is x.refusal) x.place

-- the number of rules of a file that is taken, or the refusal
abbrev pub reading_of : Result (List Rule) → Result ℕ
reading_of (taken rules) = taken (length rules)
reading_of (refused x k) = refused x k

-- the rule table after a file was read
abbrev pub rule_table : ℕ → Result (List Rule) → List Entry
rule_table len (taken rules) = padded no_rule len (entries 18 rules)
rule_table len (refused x k) = replicate len no_rule

-- document 01's answer: "Where an answer is an enum, a definition gives this paper's number and values for each of its cases."
abbrev pub verdict_is : {A : Type 0} → Outcome A Refused → ℕ → ℕ → ℕ → answers.Answer
verdict_is (Ok a) opened rounds length = answers.accepted opened rounds length
verdict_is (Err x) opened rounds length =
    record { number = model.number_of (refusal_is x.refusal); place = x.place; opened = opened; rounds = rounds; length = length }

abbrev pub answer_is : Answer → answers.Answer
answer_is a = verdict_is a.verdict a.opened a.rounds a.length

abbrev pub count_is : Counted → answers.CountAnswer
count_is c = record { answer = answer_is c.answer; nodes = c.nodes }

-- the answer of a query, by what was read
abbrev pub query_answer : {A : Type 0} → Result A → answers.Answer
query_answer (taken a) = answers.accepted 0 0 0
query_answer (refused x k) = record { number = model.number_of x; place = k; opened = 0; rounds = 0; length = 0 }
