-- Document 01, "How the updated file is made", step 4: digrams and rounds.
use Rattle.std.specs.Prelude.{ℕ, zero, suc, ◌+◌, ◌-◌, max, Bool, true, false, cond, ◌&&◌, ◌||◌, List, [], ◌∷◌, ◌++◌, leb, ltb, eqb, length, take, drop, get_or, set, replicate}
use Rattle.std.proofs.Math.Option.{Option, none, some}
use Rattle.model.specs.Bounds.{largest_rank, most_rules}
use Rattle.model.specs.Words.{Class, class_of, by_class, when_call, renumbered, call_word, rank_of}
use Rattle.model.specs.Trees.{Rule, roots, parameters, ranks_of}

-- "A digram (a, i, b) is a word a with i-th child b"
pub record Digram : Type 0 where
  pub a : ℕ
  pub i : ℕ
  pub b : ℕ

-- "neither is ⊥ or a parameter"
abbrev pub is_label_or_call_as : Class → Bool
is_label_or_call_as = by_class (record { empty = false; label = true; parameter = λ i. false; call = λ j. true; illegal = false })

abbrev pub is_label_or_call : ℕ → Bool
is_label_or_call w = is_label_or_call_as (class_of w)

-- the words at the roots of w's children, where ws are the words after w
abbrev pub children : List ℕ → ℕ → List ℕ → List ℕ
children ranks w ws = take (rank_of ranks w) (roots ranks ws)

abbrev pub digrams_over : ℕ → ℕ → List ℕ → List Digram
digrams_over a i [] = []
digrams_over a i (b ∷ bs) = cond (is_label_or_call a && is_label_or_call b) (record { a = a; i = i; b = b } ∷ []) [] ++ digrams_over a (suc i) bs

abbrev pub digrams_in : List ℕ → List ℕ → List Digram
digrams_in ranks [] = []
digrams_in ranks (w ∷ ws) = digrams_over w 1 (children ranks w ws) ++ digrams_in ranks ws

abbrev pub digrams : List ℕ → List Rule → List Digram
digrams ranks [] = []
digrams ranks (r ∷ rs) = digrams_in ranks r.body ++ digrams ranks rs

-- "Its rank is k = rank a - 1 + rank b."
abbrev pub digram_rank : List ℕ → Digram → ℕ
digram_rank ranks d = rank_of ranks d.a - 1 + rank_of ranks d.b

-- what a word of a body is to the chosen occurrences: the a of one, the b of one, or neither
pub data Part : Type 0 where
  upper lower other : Part

-- "a node already taken as the child of a chosen occurrence doesn't start another"
abbrev pub part_of : Bool → Bool → Part
part_of true starts = lower
part_of false true = upper
part_of false false = other

-- w, with the words ws after it, has the digram's a, and its b for i-th child
abbrev pub starts : List ℕ → Digram → ℕ → List ℕ → Bool
starts ranks d w ws = eqb w d.a && eqb (get_or (children ranks w ws) (d.i - 1) 0) d.b

-- a mark for each of a word's k children: is it taken as the child of a chosen occurrence?
abbrev pub marks_below : Part → ℕ → ℕ → List Bool
marks_below upper i k = set (replicate k false) (i - 1) true
marks_below lower i k = replicate k false
marks_below other i k = replicate k false

abbrev pub is_taken : List Bool → Bool
is_taken [] = false
is_taken (m ∷ ms) = m

-- "Its occurrences are counted in each body once, in preorder": each word's part, `marks` having one mark for each tree still to come. A body starts with no
-- mark: its root is nobody's child, and a missing mark reads as not taken. What the parts are, without the pass: laws, Rounds/Parts, `body_parted`.
abbrev pub parts : List ℕ → Digram → List Bool → List ℕ → List Part
parts ranks d marks [] = []
parts ranks d marks (w ∷ ws) =
    let part = part_of (is_taken marks) (starts ranks d w ws) in
    part ∷ parts ranks d (marks_below part d.i (rank_of ranks w) ++ drop 1 marks) ws

abbrev pub uppers : List Part → ℕ
uppers [] = 0
uppers (upper ∷ ps) = suc (uppers ps)
uppers (lower ∷ ps) = uppers ps
uppers (other ∷ ps) = uppers ps

abbrev pub occurrences : List ℕ → Digram → List Rule → ℕ
occurrences ranks d [] = 0
occurrences ranks d (r ∷ rs) = uppers (parts ranks d [] r.body) + occurrences ranks d rs

-- "A digram is eligible if k is at most 4 and it occurs more than 6 + k times"
abbrev pub eligible : List ℕ → Digram → ℕ → Bool
eligible ranks d count = leb (digram_rank ranks d) largest_rank && ltb (6 + digram_rank ranks d) count

-- "ties go to the smaller a, then i, then b"
abbrev pub smaller : Digram → Digram → Bool
smaller d e =
    ltb d.a e.a
    || eqb d.a e.a && (ltb d.i e.i || eqb d.i e.i && ltb d.b e.b)

-- a digram with its count
pub record Counted : Type 0 where
  pub digram : Digram
  pub count : ℕ

-- "Take the eligible digram with most occurrences"
abbrev pub better : Counted → Counted → Bool
better x y = ltb y.count x.count || eqb y.count x.count && smaller x.digram y.digram

abbrev pub best_of : Counted → Option Counted → Counted
best_of x none = x
best_of x (some y) = cond (better x y) x y

-- The first of `digrams` may come again; it counts as much each time. What the choice is, without the order of the list: laws, Rounds/Choice, `choice_is`,
-- `choice_none` and `is_choice`.
abbrev pub choice_among : List ℕ → List Rule → List Digram → Option Counted
choice_among ranks rules [] = none
choice_among ranks rules (d ∷ ds) =
    let x : Counted = record { digram = d; count = occurrences ranks d rules } in
    let rest = choice_among ranks rules ds in
    cond (eligible ranks d x.count) (some (best_of x rest)) rest

abbrev pub choice : List Rule → Option Counted
choice rules = choice_among (ranks_of rules) rules (digrams (ranks_of rules) rules)

-- "Its number is one above the highest rule among a and b, or 0 if neither is a call"
abbrev pub new_number : Digram → ℕ
new_number d = max (when_call 0 suc d.a) (when_call 0 suc d.b)

-- "rules from there on move up by one"
abbrev pub up : ℕ → ℕ → ℕ
up m j = cond (leb m j) (suc j) j

-- "Replace the chosen occurrences by calls of a new rule"
abbrev pub replaced : ℕ → List Part → List ℕ → List ℕ
replaced m ps [] = []
replaced m [] (w ∷ ws) = []
replaced m (upper ∷ ps) (w ∷ ws) = call_word m ∷ replaced m ps ws
replaced m (lower ∷ ps) (w ∷ ws) = replaced m ps ws
replaced m (other ∷ ps) (w ∷ ws) = renumbered (up m) w ∷ replaced m ps ws

-- "a over b, their other children being y1 to yk in order"
abbrev pub new_rule : List ℕ → Digram → Rule
new_rule ranks d =
    let ys = parameters (digram_rank ranks d) in
    record {
      rank = digram_rank ranks d;
      body = d.a ∷ (take (d.i - 1) ys ++ d.b ∷ drop (d.i - 1) ys);
    }

abbrev pub replaced_in : List ℕ → Digram → List Rule → List Rule
replaced_in ranks d [] = []
replaced_in ranks d (r ∷ rs) =
    record { rank = r.rank; body = replaced (new_number d) (parts ranks d [] r.body) r.body } ∷ replaced_in ranks d rs

abbrev pub one_round : Digram → List Rule → List Rule
one_round d rules =
    let next = replaced_in (ranks_of rules) d rules in
    take (new_number d) next ++ new_rule (ranks_of rules) d ∷ drop (new_number d) next

-- a grammar after its rounds, with their count
pub record Repacked : Type 0 where
  pub rules : List Rule
  pub rounds : ℕ

-- `left` rules may still be added before n is 256. "Rounds end when nothing is eligible or n is 256. The answer counts rounds."
abbrev pub rounds_of : ℕ → List Rule → Repacked
rounds_of zero rules = record { rules = rules; rounds = 0 }
rounds_of (suc left) rules =
    elim (choice rules) [
      | none ↦ record { rules = rules; rounds = 0 }
      | some x ↦ let next = rounds_of left (one_round x.digram rules) in record { rules = next.rules; rounds = suc next.rounds }
    ]

unfoldable pub repacked : List Rule → Repacked
repacked rules = rounds_of (most_rules - length rules) rules
