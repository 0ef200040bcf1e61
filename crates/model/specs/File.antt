-- Document 01, "File layout": a file's bytes as a grammar or as the first refusal, and a grammar's file.
use Rattle.std.specs.Prelude.{ℕ, zero, suc, ◌+◌, ◌*◌, ◌/◌, ◌%◌, Bool, true, false, not, ◌&&◌, ◌||◌, List, [], ◌∷◌, ◌++◌, leb, ltb, eqb, length, take, drop}
use Rattle.std.proofs.Math.Option.{none, some}
use Rattle.model.specs.Bounds.{head_bytes, edition, most_rules, least_rule_bytes, largest_rank, largest_file}
use Rattle.model.specs.Words.{within}
use Rattle.model.specs.Trees.{Rule, all, is_legal, obeys, ranks_of, expansions, nodes, lowest_huge}
use Rattle.model.specs.Refusals.{Refusal, SHORT, KIND, LENGTH, HEAD, RANK, SYMBOL, BODY, TRAIL, LARGE, HUGE, EMPTY, Result, taken, refused, first_of}

-- "little-endian": a number as k bytes, and bytes as a number
abbrev pub bytes_of : ℕ → ℕ → List ℕ
bytes_of zero n = []
bytes_of (suc k) n = n % 256 ∷ bytes_of k (n / 256)

abbrev pub number_in : List ℕ → ℕ
number_in [] = 0
number_in (b ∷ bs) = b + 256 * number_in bs

-- a word is two bytes
abbrev pub words_in : List ℕ → List ℕ
words_in [] = []
words_in (b ∷ []) = []
words_in (b ∷ c ∷ bs) = (b + 256 * c) ∷ words_in bs

abbrev pub word_bytes : List ℕ → List ℕ
word_bytes [] = []
word_bytes (w ∷ ws) = bytes_of 2 w ++ word_bytes ws

-- "32-bit payload length, 16-bit kind, payload"
abbrev pub payload_length : List ℕ → ℕ
payload_length bytes = number_in (take 4 bytes)

abbrev pub kind_in : List ℕ → ℕ
kind_in bytes = number_in (take 2 (drop 4 bytes))

abbrev pub payload_in : List ℕ → List ℕ
payload_in bytes = take (payload_length bytes) (drop 6 bytes)

abbrev pub after_record : List ℕ → List ℕ
after_record bytes = drop (6 + payload_length bytes) bytes

abbrev pub is_even : ℕ → Bool
is_even n = eqb (n % 2) 0

-- "six header bytes 1, kind 2, length 3, payload bytes 1"
abbrev pub record_refusals : ℕ → (ℕ → Bool) → List ℕ → List (Bool × Refusal)
record_refusals kind allowed bytes =
    (ltb (length bytes) 6, SHORT)
    ∷ (not (eqb (kind_in bytes) kind), KIND)
    ∷ (not (allowed (payload_length bytes)), LENGTH)
    ∷ (ltb (length bytes) (6 + payload_length bytes), SHORT)
    ∷ []

-- "Head, kind 1, payload 4 bytes: edition (1), rule count n (1 to 256), 16 bits each", "then 4 for the head"
abbrev pub edition_in : List ℕ → ℕ
edition_in bytes = number_in (take 2 (payload_in bytes))

abbrev pub rule_count : List ℕ → ℕ
rule_count bytes = number_in (take 2 (drop 2 (payload_in bytes)))

abbrev pub head_refusals : List ℕ → List (Bool × Refusal)
head_refusals bytes =
    record_refusals 1 (λ l. eqb l head_bytes) bytes
    ++ ((not (eqb (edition_in bytes) edition && within 1 most_rules (rule_count bytes)), HEAD) ∷ [])

-- "n rules, kind 2: rank (16 bits), then the body's words. The payload is even and at least 4 bytes."
abbrev pub rule_in : List ℕ → Rule
rule_in bytes = record { rank = number_in (take 2 (payload_in bytes)); body = words_in (drop 2 (payload_in bytes)) }

-- "or 5, 6 over the whole body, 7": rule r on the ranks of the rules below it, `last` where it is the start
abbrev pub rule_refusals : List ℕ → Bool → List ℕ → List (Bool × Refusal)
rule_refusals ranks last bytes =
    record_refusals 2 (λ l. is_even l && leb least_rule_bytes l) bytes
    ++ ((ltb largest_rank (rule_in bytes).rank || last && not (eqb (rule_in bytes).rank 0), RANK)
    ∷ (not (all (is_legal (length ranks)) (rule_in bytes).body), SYMBOL)
    ∷ (not (obeys ranks (rule_in bytes).rank (rule_in bytes).body), BODY)
    ∷ [])

-- "then 8, 10 (lowest rule), 11"
abbrev pub read_whole : List Rule → List ℕ → Result (List Rule)
read_whole rules (b ∷ bs) = refused TRAIL (suc (length rules))
read_whole rules [] =
    elim (lowest_huge 0 (expansions rules)) [
      | some r ↦ refused HUGE (suc r)
      | none ↦ elim (eqb (nodes rules) 1) [ true ↦ refused EMPTY 0 | false ↦ taken rules ]
    ]

-- "record by record": `due` rules are still due after `rules`. "The place in a refusal is the record number (head 0, rule r is r + 1, 8 gives n + 1)"
abbrev pub read_rules : ℕ → List Rule → List ℕ → Result (List Rule)
read_rules zero rules bytes = read_whole rules bytes
read_rules (suc due) rules bytes =
    elim (first_of (rule_refusals (ranks_of rules) (eqb due 0) bytes)) [
      | some x ↦ refused x (suc (length rules))
      | none ↦ read_rules due (rules ++ rule_in bytes ∷ []) (after_record bytes)
    ]

-- "A file is at most 16,384 bytes." Order: "9; then record by record".
unfoldable pub read : List ℕ → Result (List Rule)
read file =
    elim (ltb largest_file (length file)) [
      | true ↦ refused LARGE 0
      | false ↦ elim (first_of (head_refusals file)) [
        | some x ↦ refused x 0
        | none ↦ read_rules (rule_count file) [] (after_record file)
      ]
    ]

-- a record, and the file of a grammar
abbrev pub record_of : ℕ → List ℕ → List ℕ
record_of kind payload = bytes_of 4 (length payload) ++ bytes_of 2 kind ++ payload

abbrev pub rule_records : List Rule → List ℕ
rule_records [] = []
rule_records (r ∷ rs) = record_of 2 (bytes_of 2 r.rank ++ word_bytes r.body) ++ rule_records rs

unfoldable pub write : List Rule → List ℕ
write rules = record_of 1 (bytes_of 2 edition ++ bytes_of 2 (length rules)) ++ rule_records rules
