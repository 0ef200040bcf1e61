-- A file that was read, with the tables of it, and its rules turned into gap strings one after the other.
use Rattle.std.specs.Prelude.{ℕ, ◌+◌, ◌≤◌, ◌<◌, ◌≡◌, List, [], length, get_or}
use Rattle.model.specs.Trees.{Rule, expansions}
use Rattle.model.specs.Refusals.{Result, taken, refused}
use Rattle.model.specs.File.{read}
use Rattle.grammar.specs.Meaning.{no_rule}
use Rattle.grammar.specs.Measures.{Denotes}
use Rattle.grammar.specs.declared.rules.Entry.{Entry}
use Rattle.queries.specs.Pieces.{Spelled, gap_of}

-- the rules of a file that is taken
abbrev pub rules_taken : Result (List Rule) → List Rule
rules_taken (taken rules) = rules
rules_taken (refused x k) = []

abbrev pub rules_of : List ℕ → List Rule
rules_of file = rules_taken (read file)

-- the words of each gap
abbrev pub gaps_of : List ℕ → ℕ → List ℕ
gaps_of file = gap_of (expansions (rules_of file))

-- the first r rules are spelled, of those that the file was read to have
pub record Spelt (file : List ℕ) (r : ℕ) (rules : List Entry) (sizes pieces starts : List ℕ) : Type 0 where
  pub held : Denotes file rules sizes
  pub spells : Spelled (gaps_of file) r (length pieces) pieces starts sizes
  pub long : length starts ≡ 1280
  pub low : (g : ℕ) → get_or starts g 0 ≤ length pieces
  pub room : r < length rules → length pieces + 18 ≤ (get_or rules r no_rule).place
  pub fits : length pieces ≤ 16384
