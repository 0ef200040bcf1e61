-- What the size table means: for rule r its five gap sizes from 5r on, a rule of rank k having k + 1 of them and 0 after them.
use Rattle.std.specs.Prelude.{ℕ, suc, ◌+◌, ◌*◌, ◌≤◌, ◌<◌, ◌^◌, ◌≡◌, cond, List, [], ◌∷◌, ◌++◌, T, ltb, length, take, drop, get_or, replicate, Ok, Err, Result as Outcome}
use Rattle.std.proofs.lemmas.List.Edits.{sets}
use Rattle.std.proofs.Math.Option.{none, some}
use Rattle.model.specs.Bounds.{largest_size}
use Rattle.model.specs.Words.{class_of}
use Rattle.model.specs.Trees.{Rule, gap_sizes, size, expansions, lowest_huge}
use Rattle.model.specs.Refusals.{Result, taken, refused}
use Rattle.model.specs.File.{read, read_whole}
use Rattle.laws.specs.Formed.{formed}
use Rattle.grammar.specs.Meaning.{written_rules, entries, no_rule, Bodies, place_after, padded, refusal_is, reading_is, reading_of, rule_table}
use Rattle.grammar.specs.declared.refusals.Refused.{Refused}
use Rattle.grammar.specs.declared.refusals.Refusal.TheVariants.{Huge}
use Rattle.grammar.specs.declared.rules.Entry.{Entry}
use Rattle.laws.specs.Sums.{sum, depth_of, own_as}

-- the first k gaps of rule j
abbrev pub first_gaps : List ℕ → ℕ → ℕ → ℕ
first_gaps sizes j k = sum (take k (drop (5 * j) sizes))

-- the nodes that a word itself produces before its k-th child; all of them with k = 5
abbrev pub own_by : List ℕ → ℕ → ℕ → ℕ
own_by sizes k w = own_as (λ j. first_gaps sizes j k) (class_of w)

-- the nodes that the words xs of a body produce before the place after them: a word over the place those before the child that holds it, any other word all
abbrev pub before_by : (ℕ → ℕ) → List ℕ → List ℕ → ℕ
before_by rk sizes [] = 0
before_by rk sizes (x ∷ xs) =
    let e = depth_of rk 0 xs in
    cond (ltb e (rk x)) (own_by sizes (suc e) x) (own_by sizes 5 x) + before_by rk sizes xs

-- no entry is over 2^40
abbrev pub SizesSmall : List ℕ → Type 0
SizesSmall sizes = (i : ℕ) → get_or sizes i 0 ≤ 2 ^ 40

-- a rule's row, and the rows of a list of expansions
abbrev pub gap_row : List ℕ → List ℕ
gap_row e = take 5 (gap_sizes e ++ replicate 5 0)

abbrev pub gap_rows : List (List ℕ) → List ℕ
gap_rows [] = []
gap_rows (e ∷ es) = gap_row e ++ gap_rows es

-- a grammar whose rules stand in a file: the table's rules are their entries, and their bodies stand where it says
pub record Laid (R : List Rule) (file : List ℕ) (rules : List Entry) : Type 0 where
  pub is_formed : T (formed R)
  pub short : length file ≤ 16384
  pub bodies : Bodies file 18 R
  pub within : place_after 18 R ≤ length file + 8
  pub entered : rules ≡ entries 18 R

-- a file whose rules were read and are a grammar
abbrev pub Measurable : List ℕ → List Entry → Type 0
Measurable file rules = Laid (written_rules file) file rules

-- the size table once the r lowest rules were measured: their rows, then 0
pub record RowsBelow (r : ℕ) (rules : List Rule) (sizes : List ℕ) : Type 0 where
  pub rows : sizes ≡ padded 0 (length sizes) (gap_rows (take r (expansions rules)))
  pub small : SizesSmall sizes

-- what measuring rule r finds, and leaves in the size table
abbrev pub RuleMeasured : {A : Type 0} → Outcome A Refused → ℕ → List Rule → List ℕ → Type 0
RuleMeasured (Ok a) r rules after = (size (get_or (expansions rules) r []) ≤ largest_size) × RowsBelow (suc r) rules after
RuleMeasured (Err x) r rules after = (largest_size < size (get_or (expansions rules) r [])) × (x ≡ record { refusal = Huge; place = r + 1 })

-- what measuring leaves in the size table
abbrev pub MeasuredIs : {A : Type 0} → Outcome A Refused → List Rule → List ℕ → List ℕ → Type 0
MeasuredIs (Ok a) rules before after = (lowest_huge 0 (expansions rules) ≡ none) × (after ≡ sets before 0 (gap_rows (expansions rules)))
MeasuredIs (Err x) rules before after =
    (r : ℕ) × (lowest_huge 0 (expansions rules) ≡ some r) × (x ≡ record { refusal = Huge; place = r + 1 }) × (length after ≡ length before)

-- the size table after a file was read
abbrev pub size_table : ℕ → Result (List Rule) → List ℕ
size_table len (taken rules) = padded 0 len (gap_rows (expansions rules))
size_table len (refused x k) = replicate len 0

-- each body of a grammar that was taken stands in the file where the rule table says
abbrev pub Stand : List ℕ → Result (List Rule) → Type 0
Stand file (taken rules) = Bodies file 18 rules × (place_after 18 rules ≤ length file + 8) × (length file ≤ 16384)
Stand file (refused x k) = Unit {0}

-- The promise of the layer: what was read of the file, and the two tables, are those of the model's reading m.
pub record ReadIs (file : List ℕ) (r : Outcome ℕ Refused) (m : Result (List Rule)) (table table' : List Entry) (sizes sizes' : List ℕ) : Type 0 where
  pub reading : reading_is r ≡ reading_of m
  pub rules : table' ≡ rule_table (length table) m
  pub gaps : sizes' ≡ size_table (length sizes) m
  pub stands : Stand file m

-- What reading the records after the head leaves in a rule table of 0: the rules of a file that ends with them, or the model's refusal.
abbrev pub RecordsRead : {A : Type 0} → Outcome A Refused → ℕ → List ℕ → List Entry → List Entry → Type 0
RecordsRead (Ok a) n file table table' =
    (read file ≡ read_whole (written_rules file) []) × Measurable file (take n table') × (table' ≡ padded no_rule (length table) (entries 18 (written_rules file)))
RecordsRead (Err x) n file table table' = read file ≡ refused (refusal_is x.refusal) x.place

-- What measuring the whole leaves in a size table of 0: the gaps of a grammar that is taken, or the model's refusal.
abbrev pub WholeIs : {A : Type 0} → Outcome A Refused → List Rule → List ℕ → List ℕ → Type 0
WholeIs (Ok a) rules sizes sizes' = (read_whole rules [] ≡ taken rules) × (sizes' ≡ padded 0 (length sizes) (gap_rows (expansions rules)))
WholeIs (Err x) rules sizes sizes' = read_whole rules [] ≡ refused (refusal_is x.refusal) x.place

-- A file that is taken denotes a grammar of the model: the rules, where their bodies stand, and the two tables on them. The layers above build on this, and on nothing that reading does on the way.
pub record Denotes (file : List ℕ) (table : List Entry) (sizes : List ℕ) : Type 0 where
  pub rules : List Rule
  pub is : read file ≡ taken rules
  pub is_formed : T (formed rules)
  pub bounded : (j : ℕ) → j < length rules → size (get_or (expansions rules) j []) ≤ 2 ^ 40
  pub some : 1 ≤ length rules
  pub few : length rules ≤ 256
  pub entered : table ≡ entries 18 rules
  pub longer : 1280 ≤ length sizes
  pub gaps : sizes ≡ padded 0 (length sizes) (gap_rows (expansions rules))
  pub small : SizesSmall sizes
  pub bodies : Bodies file 18 rules
  pub within : place_after 18 rules ≤ length file + 8
  pub short : length file ≤ 16384
