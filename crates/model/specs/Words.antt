-- Document 01, "Trees and words": what a 16-bit word means, and its rank.
use Rattle.std.specs.Prelude.{ℕ, ◌-◌, ◌+◌, Bool, true, false, cond, ◌&&◌, List, leb, eqb, get_or}
use Rattle.model.specs.Bounds.{largest_label, largest_rank, most_rules}

-- The table's rows. A parameter is named by its number from 1, a call by the rule that it calls.
pub data Class : Type 0 where
  empty : Class
  label : Class
  parameter : ℕ → Class
  call : ℕ → Class
  illegal : Class

abbrev pub within : ℕ → ℕ → ℕ → Bool
within low high w = leb low w && leb w high

-- "32,769 to 32,772 (8001 to 8004 hex) | parameter y1 to y4", "49,152 + j (C000 hex + j), j 0 to 255 | call of rule j"
abbrev pub parameter_word : ℕ → ℕ
parameter_word i = 0x8000 + i

abbrev pub call_word : ℕ → ℕ
call_word j = 0xC000 + j

-- "0 | ⊥", "1 to 32,767 | element label", the two rows above; "All other words are illegal."
unfoldable pub class_of : ℕ → Class
class_of w =
    cond (eqb w 0) empty
    (cond (within 1 largest_label w) label
    (cond (within (parameter_word 1) (parameter_word largest_rank) w) (parameter (w - parameter_word 0))
    (cond (within (call_word 0) (call_word (most_rules - 1)) w) (call (w - call_word 0))
    illegal)))

-- a value for each row of the table
pub record Rows (A : Type 0) : Type 0 where
  pub empty : A
  pub label : A
  pub parameter : ℕ → A
  pub call : ℕ → A
  pub illegal : A

abbrev pub by_class : {A : Type 0} → Rows A → Class → A
by_class rows empty = rows.empty
by_class rows label = rows.label
by_class rows (parameter i) = rows.parameter i
by_class rows (call j) = rows.call j
by_class rows illegal = rows.illegal

-- f of the parameter's number where w is a parameter, f of the rule called where w is a call; `other` where it is not
abbrev pub when_parameter : {A : Type 0} → A → (ℕ → A) → ℕ → A
when_parameter other f w = by_class (record { empty = other; label = other; parameter = f; call = λ j. other; illegal = other }) (class_of w)

abbrev pub when_call : {A : Type 0} → A → (ℕ → A) → ℕ → A
when_call other f w = by_class (record { empty = other; label = other; parameter = λ i. other; call = f; illegal = other }) (class_of w)

-- w with rule `number j` called where it calls rule j
abbrev pub renumbered : (ℕ → ℕ) → ℕ → ℕ
renumbered number w = when_call w (λ j. call_word (number j)) w

-- The column "Rank": ⊥ 0, an element label 2, a parameter 0, a call the rank of the rule called. `ranks` has the rules' ranks, rule 0's first.
abbrev pub rank_as : List ℕ → Class → ℕ
rank_as ranks = by_class (record { empty = 0; label = 2; parameter = λ i. 0; call = λ j. get_or ranks j 0; illegal = 0 })

abbrev pub rank_of : List ℕ → ℕ → ℕ
rank_of ranks w = rank_as ranks (class_of w)

abbrev pub is_parameter_as : Class → Bool
is_parameter_as = by_class (record { empty = false; label = false; parameter = λ i. true; call = λ j. false; illegal = false })

abbrev pub is_parameter : ℕ → Bool
is_parameter w = is_parameter_as (class_of w)

abbrev pub is_label_as : Class → Bool
is_label_as = by_class (record { empty = false; label = true; parameter = λ i. false; call = λ j. false; illegal = false })

abbrev pub is_label : ℕ → Bool
is_label w = is_label_as (class_of w)

-- a tree is written in labels and ⊥
abbrev pub is_tree_word_as : Class → Bool
is_tree_word_as = by_class (record { empty = true; label = true; parameter = λ i. false; call = λ j. false; illegal = false })

abbrev pub is_tree_word : ℕ → Bool
is_tree_word w = is_tree_word_as (class_of w)
