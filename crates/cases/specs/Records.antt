-- What a record is, and what a case says.
use Rattle.std.specs.Prelude.{ℕ, ◌+◌, ◌*◌, ◌≤◌, ◌<◌, ◌≡◌, Bool, ◌&&◌, List, Option, Some, None, eqb, length, get_or}
use Rattle.model.specs.Answers.{Answer}
use Rattle.grammar.specs.Meaning.{word_in, length_in}
use Rattle.io.specs.Counts.{IsPrefixLen}
use Rattle.cases.specs.Kinds.{kind_of}
use Rattle.cases.specs.declared.case.Case as cases
use Rattle.cases.specs.declared.case.Kind.TheVariants as kinds
use Rattle.cases.specs.declared.records.Found.{Found}
use Rattle.cases.specs.declared.records.Found.TheVariants.{File, Case}

-- a case lies within its buffer, has its five fields, and is of the kind of a number, but no file
pub record IsCase (c : cases.Case) (case : List ℕ) : Type 0 where
  pub within : IsPrefixLen c.size case
  pub has_fields : 20 ≤ c.size
  pub number : ℕ
  pub of_number : c.kind ≡ kind_of number
  pub no_file : c.kind ≡ kinds.File → ⊥

-- a file lies within its buffer
abbrev pub Fits : Option Found → List ℕ → List ℕ → Type 0
Fits (Some (File n)) file case = n ≤ length file
Fits (Some (Case c)) file case = IsCase c case
Fits None file case = Unit {0}

-- the 64-bit number at a place
abbrev pub long_in : List ℕ → ℕ → ℕ
long_in bytes at = length_in bytes at + 4294967296 * length_in bytes (at + 4)

-- the answer of a query, with the number and the place
abbrev pub is_query_answer : Answer → ℕ → ℕ → Bool
is_query_answer a number place = eqb a.number number && eqb a.place place && eqb a.opened 0 && eqb a.rounds 0 && eqb a.length 0

-- the words are those that stand at a place
abbrev pub WordsAt : List ℕ → List ℕ → ℕ → Type 0
WordsAt words bytes at = (k : ℕ) → k < length words → get_or words k 0 ≡ word_in bytes (at + 2 * k)
