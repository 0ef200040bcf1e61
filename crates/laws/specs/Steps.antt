-- Document 01, step 4 as a relation, beside the model's function: which digram a round may take, chains of rounds, and where they end.
use Rattle.std.specs.Prelude.{ℕ, suc, ◌≤◌, ◌<◌, ◌≡◌, ◌⊎◌, List, T, length}
use Rattle.model.specs.Bounds.{most_rules}
use Rattle.model.specs.Words.{rank_of}
use Rattle.model.specs.Trees.{Rule, ranks_of}
use Rattle.model.specs.Rounds.{Digram, is_label_or_call, occurrences, eligible, Counted, better, one_round}

-- "A digram (a, i, b) is a word a with i-th child b; neither is ⊥ or a parameter."
pub record IsDigram (ranks : List ℕ) (d : Digram) : Type 0 where
  pub class_a : T (is_label_or_call d.a)
  pub class_b : T (is_label_or_call d.b)
  pub low : 1 ≤ d.i
  pub high : d.i ≤ rank_of ranks d.a

-- a digram with its count in the rules
abbrev pub counted_in : List Rule → Digram → Counted
counted_in rules d = record { digram = d; count = occurrences (ranks_of rules) d rules }

-- "A digram is eligible if k is at most 4 and it occurs more than 6 + k times"
pub record Eligible (rules : List Rule) (d : Digram) : Type 0 where
  pub is : IsDigram (ranks_of rules) d
  pub often : T (eligible (ranks_of rules) d (occurrences (ranks_of rules) d rules))

-- "Take the eligible digram with most occurrences; ties go to the smaller a, then i, then b."
pub record Unbeaten (rules : List Rule) (d : Digram) : Type 0 where
  pub is_eligible : Eligible rules d
  pub no_better : (e : Digram) → Eligible rules e → T (better (counted_in rules e) (counted_in rules d)) → ⊥

-- n rounds, one after the other, each on such a digram, make `later` of the rules; there is room for the rule that each adds
pub data Passes : List Rule → ℕ → List Rule → Type 0 where
  start : {rules : List Rule} → Passes rules 0 rules
  round : {rules later : List Rule} {n : ℕ} {d : Digram} → length rules < most_rules → Unbeaten rules d → Passes (one_round d rules) n later → Passes rules (suc n) later

-- "Rounds end when nothing is eligible or n is 256."
abbrev pub Ended : List Rule → Type 0
Ended rules = ((d : Digram) → Eligible rules d → ⊥) ⊎ (length rules ≡ most_rules)

-- "The answer counts rounds."
pub record Repacks (rules : List Rule) (rounds : ℕ) (last : List Rule) : Type 0 where
  pub chain : Passes rules rounds last
  pub ended : Ended last
