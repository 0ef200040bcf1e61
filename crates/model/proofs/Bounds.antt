-- Document 01's bounds, in its own numbers and under one theorem, by computation: a row on both sides of each, on the definition that has the bound where a
-- whole file would be too large to compute. Starred tells what is refused how; this tells from where on.
use Prim.Native.Nat.{ℕ, zero, suc, ◌+◌, ◌-◌, ◌^◌}
use mathlib.Core.Path.{◌≡◌, refl}
use mathlib.Core.Bool.{Bool, false, cond}
use mathlib.Core.List.{List, [], ◌∷◌, ◌++◌, map}
use mathlib.Core.Option.{Option, none, some}
use lib.Dec.{leb, eqb}
use lib.ListN.{get_or, replicate}
use Rattle.model.specs.Bounds.{is_huge, longest_fragment, longest_tree}
use Rattle.model.specs.Words.{class_of}
use Rattle.model.specs.Trees.{is_legal}
use Rattle.model.specs.Refusals.{Refusal, number_of, place_of, every_refusal, first_of}
use Rattle.model.specs.File.{bytes_of, word_bytes, record_of, head_refusals, rule_refusals, read}
use Rattle.model.specs.Edits.{rename}
use Rattle.model.specs.Rounds.{eligible, repacked}
use Rattle.model.specs.Answers.{checked, label_allowed, update_refusals, left_refusals, file_refusals, pack_refusals, update, pack}
use Rattle.model.specs.Program.{request_allowed, program}

-- A row: the number of the refusal, what is answered just inside of the bound and what just outside. 0 is: not refused so.
data Row : Type 0 where
  bound : ℕ → ℕ → ℕ → Row

abbrev settled : Row → Row
settled (bound x inside outside) = bound x 0 x

-- x where a test holds, and where it does not
abbrev when : Bool → ℕ → ℕ
when b x = cond b x 0

abbrev unless : Bool → ℕ → ℕ
unless b x = cond b 0 x

-- the number of the first refusal, and the numbers of all in their order
abbrev number_in : Option Refusal → ℕ
number_in none = 0
number_in (some x) = number_of x

abbrev first : List (Bool × Refusal) → ℕ
first cs = number_in (first_of cs)

abbrev numbers : List (Bool × Refusal) → List ℕ
numbers cs = map (λ (c : Bool × Refusal). number_of c.1) cs

-- a word in a rule above 256 others; a new label
abbrev word : ℕ → ℕ
word w = unless (is_legal 256 w) 6

abbrev label : ℕ → ℕ
label l = unless (label_allowed (rename l)) 14

-- a head's payload and a rule's
abbrev head : List ℕ → ℕ
head payload = first (head_refusals (record_of 1 payload))

abbrev rule : ℕ → List ℕ → ℕ
rule k body = first (rule_refusals [] false (record_of 2 (bytes_of 2 k ++ word_bytes body)))

-- a file of n zeros, read and finished
abbrev zeros : ℕ → ℕ
zeros n = when (eqb (checked (replicate n 0)).number 9) 9

abbrev finishing : ℕ → ℕ → ℕ
finishing room n = first (file_refusals room (replicate n 0))

-- a work area of n words, updating and packing
abbrev working : ℕ → ℕ
working n = when (eqb (update 0 n [] (record { at = 0; edit = rename 1 })).answer.number 20) 20

abbrev packing : ℕ → ℕ
packing n = when (eqb (pack 0 n []).answer.number 20) 20

-- a rule of rank k + 1 over a rule of rank 0, so many times: rank k
abbrev occurring : ℕ → ℕ → ℕ
occurring k count = unless (eligible (0 ∷ suc k ∷ []) (record { a = 0xC001; i = 1; b = 0xC000 }) count) 1

-- n rules, the last with 10 occurrences of a digram of rank 3
abbrev fans : ℕ → List ℕ
fans zero = 0 ∷ []
fans (suc n) = 2 ∷ 0 ∷ fans n

abbrev rounding : ℕ → ℕ
rounding n = when (eqb (repacked (replicate (n - 1) (record { rank = 0; body = 0 ∷ [] }) ++ record { rank = 0; body = fans 20 } ∷ [])).rounds 0) 1

-- an update record's kind and payload length; the longest insert before a file of n zeros
abbrev asking : ℕ → ℕ → ℕ
asking kind bytes = unless (request_allowed kind bytes) 21

abbrev reading : ℕ → ℕ
reading n = when (eqb (get_or (program (record_of 18 (replicate 4104 0) ++ replicate n 0)) 6 0) 9) 9

abbrev rows : List Row
rows =
    -- labels 1 to 32,767; parameters 8001 to 8004 hex; calls from C000 hex, of 256 rules, of lower rules; FFFF hex
    bound 6 (word 0x7FFF) (word 0x8000) ∷ bound 6 (word 0x8001) (word 0x8000) ∷ bound 6 (word 0x8004) (word 0x8005)
    ∷ bound 6 (word 0xC000) (word 0xBFFF) ∷ bound 6 (word 0xC0FF) (word 0xC100) ∷ bound 6 (unless (is_legal 3 0xC002) 6) (unless (is_legal 3 0xC003) 6)
    ∷ bound 6 (word 0) (word 0xFFFF) ∷ bound 14 (label 1) (label 0) ∷ bound 14 (label 0x7FFF) (label 0x8000)
    -- a head of 4 bytes: edition 1, 1 to 256 rules
    ∷ bound 3 (head (1 ∷ 0 ∷ 1 ∷ 0 ∷ [])) (head (1 ∷ 0 ∷ 1 ∷ [])) ∷ bound 3 (head (1 ∷ 0 ∷ 1 ∷ 0 ∷ [])) (head (1 ∷ 0 ∷ 1 ∷ 0 ∷ 0 ∷ []))
    ∷ bound 4 (head (1 ∷ 0 ∷ 1 ∷ 0 ∷ [])) (head (0 ∷ 0 ∷ 1 ∷ 0 ∷ [])) ∷ bound 4 (head (1 ∷ 0 ∷ 1 ∷ 0 ∷ [])) (head (2 ∷ 0 ∷ 1 ∷ 0 ∷ []))
    ∷ bound 4 (head (1 ∷ 0 ∷ 1 ∷ 0 ∷ [])) (head (1 ∷ 0 ∷ 0 ∷ 0 ∷ [])) ∷ bound 4 (head (1 ∷ 0 ∷ 0 ∷ 1 ∷ [])) (head (1 ∷ 0 ∷ 1 ∷ 1 ∷ []))
    -- a rule of at least 4 bytes, of rank 0 to 4
    ∷ bound 3 (rule 0 (0 ∷ [])) (rule 0 [])
    ∷ bound 5 (rule 4 (2 ∷ 2 ∷ 0x8001 ∷ 0x8002 ∷ 2 ∷ 0x8003 ∷ 0x8004 ∷ [])) (rule 5 (2 ∷ 2 ∷ 0x8001 ∷ 0x8002 ∷ 2 ∷ 0x8003 ∷ 0x8004 ∷ []))
    -- a file of 16,384 bytes, read and finished; a room as long as the file; a work area of 32,768 words
    ∷ bound 9 (zeros 16384) (zeros 16385) ∷ bound 18 (finishing 16384 16384) (finishing 16384 16385) ∷ bound 19 (finishing 7 7) (finishing 6 7)
    ∷ bound 20 (working 32768) (working 32767) ∷ bound 20 (packing 32768) (packing 32767)
    -- sizes and a new N of 2^40; ⊥ alone
    ∷ bound 10 (when (is_huge (2 ^ 40)) 10) (when (is_huge (2 ^ 40 + 1)) 10) ∷ bound 17 (first (left_refusals (2 ^ 40))) (first (left_refusals (2 ^ 40 + 1)))
    ∷ bound 16 (first (left_refusals 3)) (first (left_refusals 1))
    -- fragments of 2,048 words, trees of 16,384
    ∷ bound 15 (unless (leb 2048 longest_fragment) 15) (unless (leb 2049 longest_fragment) 15)
    ∷ bound 15 (unless (leb 16384 longest_tree) 15) (unless (leb 16385 longest_tree) 15)
    -- a digram of rank 4, more than 6 + k times; 256 rules
    ∷ bound 1 (occurring 4 11) (occurring 5 12) ∷ bound 1 (occurring 4 11) (occurring 4 10) ∷ bound 1 (occurring 0 7) (occurring 0 6)
    ∷ bound 1 (rounding 255) (rounding 256)
    -- an update record's kind and length; 20,495 bytes read, of which 4,110 are the longest record
    ∷ bound 21 (asking 16 10) (asking 15 10) ∷ bound 21 (asking 16 10) (asking 16 9) ∷ bound 21 (asking 16 10) (asking 16 11)
    ∷ bound 21 (asking 17 8) (asking 17 7) ∷ bound 21 (asking 17 8) (asking 17 9) ∷ bound 21 (asking 18 8) (asking 19 8)
    ∷ bound 21 (asking 18 8) (asking 18 6) ∷ bound 21 (asking 18 4104) (asking 18 4103) ∷ bound 21 (asking 18 4104) (asking 18 4106)
    ∷ bound 9 (reading 16384) (reading 16385)
    ∷ []

held : rows ≡ map settled rows
unfolding class_of read repacked update pack program
held = refl

-- The refusals by number, each with its place; and those of an update, a finished file and a packing, none left out.
listed :
    (map number_of every_refusal ≡ 1 ∷ 2 ∷ 3 ∷ 4 ∷ 5 ∷ 6 ∷ 7 ∷ 8 ∷ 9 ∷ 10 ∷ 11 ∷ 12 ∷ 13 ∷ 14 ∷ 15 ∷ 16 ∷ 17 ∷ 18 ∷ 19 ∷ 20 ∷ 21 ∷ [])
    × (map (λ x. place_of x 3) every_refusal ≡ replicate 8 3 ++ 0 ∷ 3 ∷ replicate 11 0)
    × (numbers (update_refusals [] (record { at = 0; edit = rename 1 })) ≡ 12 ∷ 13 ∷ 14 ∷ 15 ∷ 16 ∷ 17 ∷ [])
    × (numbers (file_refusals 0 []) ≡ 18 ∷ 19 ∷ [])
    × (numbers (pack_refusals 0 []) ≡ 20 ∷ 15 ∷ [])
listed = (refl, refl, refl, refl, refl)
