-- Reading what was written gives the same grammar back; the bytes and the length of a file.
use Prim.Native.Nat.{ℕ, zero, suc, ◌+◌, ◌-◌, ◌*◌, ◌/◌, ◌%◌, ◌^◌, ◌≤◌, ◌<◌}
use native.Mathlib.Nat.{mod-add-div, div-lt_iff_lt-mul, pow-suc, pow-zero}
use native.Mathlib.Omega.{arith}
use mathlib.Core.Path.{◌≡◌, refl, sym, ap, ap₂, ◌∙◌, subst}
use mathlib.Core.Bool.{Bool, true, false, cond, not, ◌&&◌, ◌||◌}
use mathlib.Core.List.{List, [], ◌∷◌, ◌++◌, append_assoc, append-nil}
use mathlib.Core.Option.{Option, none, some}
use lib.Dec.{T, leb, ltb, eqb, lit<, le→leb, leb→le, eqb→eq}
use lib.ListN.{length, take, drop, length-append}
use lib.Seq.{drop_at, take-append_seam}
use borrow.Author.Tests.{le-ltb, eq-eqb, ne_eqb, eqb-true}
use mir.Facts.{and_yes}
use Rattle.model.specs.Bounds.{largest_file, most_rules}
use Rattle.model.specs.Words.{empty, label, parameter, call, illegal, class_of, within}
use Rattle.model.specs.Trees.{Rule, all, is_legal, obeys, ranks_of, expansions, nodes, is_legal_as}
use Rattle.model.specs.Refusals.{Refusal, HEAD, RANK, SYMBOL, BODY, LARGE, HUGE, EMPTY, taken, refused, first_of}
use Rattle.model.specs.File.{bytes_of, number_in, words_in, word_bytes, payload_length, kind_in, payload_in, after_record, is_even, record_refusals, rule_count, head_refusals, rule_in, rule_refusals, read_whole, read_rules, read, record_of, rule_records, write}
use Rattle.laws.specs.Conditions.{NoneHolds}
use Rattle.laws.specs.Formed.{formed_on, start_rank}
use Rattle.laws.proofs.Answers.Conditions.{none_holds_append, first_of_none}
use Rattle.laws.proofs.Trees.Grammar.{Taken, formed_cons, RuleOn, ranks_append, length_expansions_on}
use Rattle.laws.proofs.Words.Tests.{true_T, T_true}
use Rattle.laws.proofs.Sizes.Gaps.{lowest_none}
use Rattle.laws.proofs.Words.Lists.{Every, every_append}

pub number_bytes : (k n : ℕ) → n < 256 ^ k → number_in (bytes_of k n) ≡ n
number_bytes zero n h = omega (arith, pow-zero 256)
number_bytes (suc k) n h =
    ap (λ (m : ℕ). n % 256 + 256 * m) (number_bytes k (n / 256) ((div-lt_iff_lt-mul {x = n} (lit< {m = 0} {n = 256} tt)).1 (rw pow-suc at h)))
    ∙ mod-add-div n 256

-- every number of the list is below n: 256 for bytes, 65536 for words
abbrev pub Below : ℕ → List ℕ → Type 0
Below n ws = Every (λ w. w < n) ws

pub length_words : (ws : List ℕ) → length (word_bytes ws) ≡ 2 * length ws
length_words [] = refl
length_words (w ∷ ws) = omega (arith, length_words ws)

pub words_bytes : (ws : List ℕ) → Below 65536 ws → words_in (word_bytes ws) ≡ ws
words_bytes [] h = refl
words_bytes (w ∷ ws) h = ap₂ (λ (v : ℕ) (vs : List ℕ). v ∷ vs) (omega (arith, h.0)) (words_bytes ws h.1)

-- a record read at the front of the bytes
pub payload_length_lem : (kind : ℕ) (payload rest : List ℕ) → length payload < 2 ^ 32 → payload_length (record_of kind payload ++ rest) ≡ length payload
payload_length_lem kind payload rest h = number_bytes 4 (length payload) h

pub kind_in_lem : (kind : ℕ) (payload rest : List ℕ) → kind < 65536 → kind_in (record_of kind payload ++ rest) ≡ kind
kind_in_lem kind payload rest h = number_bytes 2 kind h

pub payload_in_lem : (kind : ℕ) (payload rest : List ℕ) → length payload < 2 ^ 32 → payload_in (record_of kind payload ++ rest) ≡ payload
payload_in_lem kind payload rest h = ap (λ (n : ℕ). take n (payload ++ rest)) (payload_length_lem kind payload rest h) ∙ take-append_seam payload rest

pub after_record_lem : (kind : ℕ) (payload rest : List ℕ) → length payload < 2 ^ 32 → after_record (record_of kind payload ++ rest) ≡ rest
after_record_lem kind payload rest h = drop_at (record_of kind payload) rest (6 + payload_length (record_of kind payload ++ rest)) (omega (arith, payload_length_lem kind payload rest h))

-- a legal word is two bytes
legal_small : (r w : ℕ) → T (is_legal r w) → w < 65536
unfolding class_of
legal_small r w t = go (eqb w 0) (within 1 32767 w) (within 32769 32772 w) (within 49152 49407 w) refl refl refl refl t
  where
    under : (low high : ℕ) → within low high w ≡ true → high < 65536 → w < 65536
    under low high e h = omega (arith, leb→le w high (and_yes (leb low w) (leb w high) (true_T _ e)).1)

    go : (a b c d : Bool) → eqb w 0 ≡ a → within 1 32767 w ≡ b → within 32769 32772 w ≡ c → within 49152 49407 w ≡ d
        → T (is_legal_as r (cond a empty (cond b label (cond c (parameter (w - 32768)) (cond d (call (w - 49152)) illegal)))))
        → w < 65536
    go true b c d e f g h t = omega (arith, eqb-true w 0 e)
    go false true c d e f g h t = under 1 32767 f (lit< tt)
    go false false true d e f g h t = under 32769 32772 g (lit< tt)
    go false false false true e f g h t = under 49152 49407 h (lit< tt)
    go false false false false e f g h t = absurd t

legal_words : (r : ℕ) (ws : List ℕ) → T (all (is_legal r) ws) → Below 65536 ws
legal_words r [] t = tt
legal_words r (w ∷ ws) t = (legal_small r w (and_yes (is_legal r w) _ t).0, legal_words r ws (and_yes (is_legal r w) _ t).1)

-- A record that was written passes the reader's tests.
record_passes : (kind : ℕ) (payload rest : List ℕ) (allowed : ℕ → Bool) → length payload < 2 ^ 32 → kind < 65536 → T (allowed (length payload))
    → NoneHolds (record_refusals kind allowed (record_of kind payload ++ rest))
record_passes kind payload rest allowed h k t = (
  le-ltb (length bytes) 6 (omega arith),
  (
    ap not (eq-eqb (kind_in bytes) kind (kind_in_lem kind payload rest k)),
    (
      ap (λ (n : ℕ). not (allowed n)) (payload_length_lem kind payload rest h) ∙ ap not (T_true (allowed (length payload)) t),
      (le-ltb (length bytes) (6 + payload_length bytes) (omega (arith, payload_length_lem kind payload rest h, length-append payload rest)), tt),
    ),
  ),
)
  where
    bytes : List ℕ
    bytes = record_of kind payload ++ rest

abbrev pub payload_of : Rule → List ℕ
payload_of r = bytes_of 2 r.rank ++ word_bytes r.body

length_payload : (r : Rule) → length (payload_of r) ≡ 2 + 2 * length r.body
length_payload r = omega (arith, length_words r.body)

rule_in_lem : (r : Rule) (rest : List ℕ) → r.rank < 65536 → Below 65536 r.body → length (payload_of r) < 2 ^ 32 → rule_in (record_of 2 (payload_of r) ++ rest) ≡ r
rule_in_lem r rest k small h =
    ap (λ (p : List ℕ). made (number_in (take 2 p)) (words_in (drop 2 p))) (payload_in_lem 2 (payload_of r) rest h)
    ∙ ap₂ made (number_bytes 2 r.rank k) (words_bytes r.body small)
  where
    made : ℕ → List ℕ → Rule
    made k ws = record { rank = k; body = ws }

body_there : (ranks : List ℕ) (k : ℕ) (body : List ℕ) → T (obeys ranks k body) → 1 ≤ length body
body_there ranks k [] t = absurd t
body_there ranks k (w ∷ ws) t = omega arith

rule_passes : (ranks : List ℕ) (last : Bool) (r : Rule) (rest : List ℕ) → RuleOn ranks r.rank r.body → (last ≡ true → r.rank ≡ 0) → length (payload_of r) < 2 ^ 32
    → NoneHolds (rule_refusals ranks last (record_of 2 (payload_of r) ++ rest))
rule_passes ranks last r rest on start h =
    none_holds_append (record_refusals 2 (λ l. is_even l && leb 4 l) (record_of 2 (payload_of r) ++ rest)) (obeying (rule_in (record_of 2 (payload_of r) ++ rest)))
    (record_passes 2 (payload_of r) rest (λ l. is_even l && leb 4 l) h (lit< tt) even)
    (subst (λ (x : Rule). NoneHolds (obeying x)) (sym (rule_in_lem r rest (omega arith) (legal_words (length ranks) r.body on.legal) h)) (rank_passes last start, (ap not (T_true (all (is_legal (length ranks)) r.body) on.legal), (ap not (T_true (obeys ranks r.rank r.body) on.obeyed), tt))))
  where
    obeying : Rule → List (Bool × Refusal)
    obeying x =
        (ltb 4 x.rank || last && not (eqb x.rank 0), RANK)
        ∷ (not (all (is_legal (length ranks)) x.body), SYMBOL)
        ∷ (not (obeys ranks x.rank x.body), BODY)
        ∷ []

    even : T (is_even (length (payload_of r)) && leb 4 (length (payload_of r)))
    even =
        rw (eq-eqb (length (payload_of r) % 2) 0 (omega (arith, length_payload r)))
        (le→leb 4 (length (payload_of r)) (omega (arith, length_payload r, body_there ranks r.rank r.body on.obeyed)))

    rank_passes : (last : Bool) → (last ≡ true → r.rank ≡ 0) → (ltb 4 r.rank || last && not (eqb r.rank 0)) ≡ false
    rank_passes true e = rw (le-ltb 4 r.rank on.rank_small, eq-eqb r.rank 0 (e refl))
    rank_passes false e = rw (le-ltb 4 r.rank on.rank_small)

-- a rule that no refusal meets is read, and the rest after it
read_one : (due : ℕ) (done : List Rule) (bytes : List ℕ) → NoneHolds (rule_refusals (ranks_of done) (eqb due 0) bytes)
    → read_rules (suc due) done bytes ≡ read_rules due (done ++ rule_in bytes ∷ []) (after_record bytes)
read_one due done bytes h =
    ap (λ (o : Option Refusal). elim o [ some x ↦ refused x (suc (length done)) | none ↦ read_rules due (done ++ rule_in bytes ∷ []) (after_record bytes) ])
    (first_of_none (rule_refusals (ranks_of done) (eqb due 0) bytes) h)

step : (due : ℕ) (done : List Rule) (r : Rule) (rest : List ℕ) → RuleOn (ranks_of done) r.rank r.body → (due ≡ 0 → r.rank ≡ 0) → length (payload_of r) < 2 ^ 32
    → read_rules (suc due) done (record_of 2 (payload_of r) ++ rest) ≡ read_rules due (done ++ r ∷ []) rest
step due done r rest on start h =
    read_one due done (record_of 2 (payload_of r) ++ rest)
    (rule_passes (ranks_of done) (eqb due 0) r rest on (λ e. start (eqb-true due 0 e)) h)
    ∙ ap₂ (λ (x : Rule) (bytes : List ℕ). read_rules due (done ++ x ∷ []) bytes)
    (rule_in_lem r rest (omega arith) (legal_words (length (ranks_of done)) r.body on.legal) h) (after_record_lem 2 (payload_of r) rest h)

last_rank : (r : Rule) (rs : List Rule) → (1 ≤ length (r ∷ rs) → start_rank (r ∷ rs) ≡ 0) → length rs ≡ 0 → r.rank ≡ 0
last_rank r [] start e = start (omega arith)
last_rank r (s ∷ rs) start e = absurd (omega arith)

rest_rank : (r : Rule) (rs : List Rule) → (1 ≤ length (r ∷ rs) → start_rank (r ∷ rs) ≡ 0) → 1 ≤ length rs → start_rank rs ≡ 0
rest_rank r [] start h = absurd (omega arith)
rest_rank r (s ∷ rs) start h = start (omega arith)

-- "record by record": the rules that are due are read as they were written
read_rules_lem : (done rest : List Rule) → T (formed_on (ranks_of done) rest) → (1 ≤ length rest → start_rank rest ≡ 0) → length (rule_records rest) ≤ largest_file
    → read_rules (length rest) done (rule_records rest) ≡ read_whole (done ++ rest) []
read_rules_lem done [] f start h = ap (λ (rs : List Rule). read_whole rs []) (sym (append-nil done))
read_rules_lem done (r ∷ rs) f start h =
    let (on, next) = formed_cons (ranks_of done) r rs f in
    step (length rs) done r (rule_records rs) on (last_rank r rs start) (omega (arith, length-append (word_bytes r.body) (rule_records rs)))
    ∙ read_rules_lem (done ++ r ∷ []) rs (subst (λ (ranks : List ℕ). T (formed_on ranks rs)) (sym (ranks_append done (r ∷ []))) next) (rest_rank r rs start) (omega (arith, length-append (word_bytes r.body) (rule_records rs)))
    ∙ ap (λ (rules : List Rule). read_whole rules []) (append_assoc done (r ∷ []) rs)

-- a file's length: ten bytes for the head, and for each rule eight and two for each word
abbrev pub bytes_for : List Rule → ℕ
bytes_for [] = 0
bytes_for (r ∷ rs) = 8 + 2 * length r.body + bytes_for rs

length_records : (rules : List Rule) → length (rule_records rules) ≡ bytes_for rules
length_records [] = refl
length_records (r ∷ rs) = omega (arith, length-append (word_bytes r.body) (rule_records rs), length_words r.body, length_records rs)

pub write_length : (rules : List Rule) → length (write rules) ≡ 10 + bytes_for rules
unfolding write
write_length rules = omega (arith, length_records rules)

abbrev pub head_payload : ℕ → List ℕ
head_payload n = bytes_of 2 1 ++ bytes_of 2 n

below_bytes : (k n : ℕ) → Below 256 (bytes_of k n)
below_bytes zero n = tt
below_bytes (suc k) n = (omega arith, below_bytes k (n / 256))

below_words : (ws : List ℕ) → Below 256 (word_bytes ws)
below_words [] = tt
below_words (w ∷ ws) = every_append (λ b. b < 256) (bytes_of 2 w) (word_bytes ws) (below_bytes 2 w) (below_words ws)

below_record : (kind : ℕ) (payload : List ℕ) → Below 256 payload → Below 256 (record_of kind payload)
below_record kind payload h =
    every_append (λ b. b < 256) (bytes_of 4 (length payload) ++ bytes_of 2 kind) payload
    (every_append (λ b. b < 256) (bytes_of 4 (length payload)) (bytes_of 2 kind) (below_bytes 4 (length payload)) (below_bytes 2 kind)) h

below_records : (rules : List Rule) → Below 256 (rule_records rules)
below_records [] = tt
below_records (r ∷ rs) =
    every_append (λ b. b < 256) (record_of 2 (payload_of r)) (rule_records rs)
    (below_record 2 (payload_of r) (every_append (λ b. b < 256) (bytes_of 2 r.rank) (word_bytes r.body) (below_bytes 2 r.rank) (below_words r.body))) (below_records rs)

pub write_bytes : (rules : List Rule) → Below 256 (write rules)
unfolding write
write_bytes rules =
    every_append (λ b. b < 256) (record_of 1 (head_payload (length rules))) (rule_records rules)
    (below_record 1 (head_payload (length rules)) (every_append (λ b. b < 256) (bytes_of 2 1) (bytes_of 2 (length rules)) (below_bytes 2 1) (below_bytes 2 (length rules)))) (below_records rules)

pub rule_count_lem : (n : ℕ) (rest : List ℕ) → n < 65536 → rule_count (record_of 1 (head_payload n) ++ rest) ≡ n
rule_count_lem n rest h = number_bytes 2 n h

count_small : (n : ℕ) → T (within 1 most_rules n) → n < 65536
count_small n t = omega (arith, leb→le n most_rules (and_yes (leb 1 n) (leb n most_rules) t).1)

head_passes : (n : ℕ) (rest : List ℕ) → T (within 1 most_rules n) → NoneHolds (head_refusals (record_of 1 (head_payload n) ++ rest))
head_passes n rest t =
    none_holds_append (record_refusals 1 (λ l. eqb l 4) (record_of 1 (head_payload n) ++ rest))
    ((not (within 1 most_rules (rule_count (record_of 1 (head_payload n) ++ rest))), HEAD) ∷ [])
    (record_passes 1 (head_payload n) rest (λ l. eqb l 4) (lit< tt) (lit< tt) tt)
    (ap (λ (m : ℕ). not (within 1 most_rules m)) (rule_count_lem n rest (count_small n t)) ∙ ap not (T_true (within 1 most_rules n) t), tt)

whole_taken : (rules : List Rule) → Taken rules → read_whole rules [] ≡ taken rules
whole_taken rules t =
    ap (λ (o : Option ℕ). elim o [ some r ↦ refused HUGE (suc r) | none ↦ elim (eqb (nodes rules) 1) [ true ↦ refused EMPTY 0 | false ↦ taken rules ] ])
    (lowest_none 0 (expansions rules) (λ j h. t.sizes j (omega (arith, length_expansions_on (ranks_of rules) [] rules))))
    ∙ ap (λ (b : Bool). elim b [ true ↦ refused EMPTY 0 | false ↦ taken rules ]) (ne_eqb (nodes rules) 1 t.not_empty)

-- What the writer writes for a grammar within the bounds, the reader reads as that grammar.
pub write_read : (rules : List Rule) → Taken rules → length (write rules) ≤ largest_file → read (write rules) ≡ taken rules
unfolding read write
write_read rules t h =
    let (counted_started, obeying) = and_yes (within 1 most_rules (length rules) && eqb (start_rank rules) 0) (formed_on [] rules) t.is_formed in
    let (counted, started) = and_yes (within 1 most_rules (length rules)) (eqb (start_rank rules) 0) counted_started in
    ap (λ (b : Bool). elim b [ true ↦ refused LARGE 0 | false ↦ elim (first_of (head_refusals (write rules))) [ some x ↦ refused x 0 | none ↦ read_rules (rule_count (write rules)) [] (after_record (write rules)) ] ])
    (le-ltb largest_file (length (write rules)) h)
    ∙ ap (λ (o : Option Refusal). elim o [ some x ↦ refused x 0 | none ↦ read_rules (rule_count (write rules)) [] (after_record (write rules)) ])
    (first_of_none (head_refusals (write rules)) (head_passes (length rules) (rule_records rules) counted))
    ∙ ap₂ (λ (n : ℕ) (bytes : List ℕ). read_rules n [] bytes) (rule_count_lem (length rules) (rule_records rules) (count_small (length rules) counted))
    (after_record_lem 1 (head_payload (length rules)) (rule_records rules) (lit< tt))
    ∙ read_rules_lem [] rules obeying (λ k. eqb→eq (start_rank rules) 0 started) (omega (arith, write_length rules, length_records rules))
    ∙ whole_taken rules t
