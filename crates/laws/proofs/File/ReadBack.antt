-- The reader takes nothing but what the writer writes: a file that it takes is the file of the grammar that it reads.
use Prim.Native.Nat.{ℕ, zero, suc, ◌+◌, ◌%◌, ◌≤◌, ◌<◌}
use native.Mathlib.Nat.{zero-add}
use native.Mathlib.Omega.{arith}
use mathlib.Core.Path.{◌≡◌, refl, sym, ap, ap₂, ◌∙◌}
use mathlib.Core.Bool.{Bool, ◌&&◌}
use mathlib.Core.List.{List, [], ◌∷◌, ◌++◌, append_assoc, append-nil}
use lib.Dec.{T, leb, eqb, eqb→eq}
use lib.ListN.{length, take, drop, take-append-drop, length-append, length-take, length-drop}
use lib.Seq.{take_all, drop-drop, length-take-le}
use borrow.Author.Tests.{ltb-false, eqb-true, not-false}
use mir.Facts.{and_yes}
use Rattle.model.specs.Bounds.{most_rules}
use Rattle.model.specs.Words.{within}
use Rattle.model.specs.Trees.{Rule, ranks_of}
use Rattle.model.specs.Refusals.{taken}
use Rattle.model.specs.File.{bytes_of, number_in, words_in, word_bytes, payload_length, kind_in, payload_in, after_record, is_even, record_refusals, edition_in, rule_count, head_refusals, rule_in, rule_refusals, read, record_of, rule_records, write}
use Rattle.laws.specs.Conditions.{NoneHolds, at, rules_conditions, rules_from, file_rules, read_conditions}
use Rattle.laws.proofs.Answers.Conditions.{none_holds_split, none_holds_at}
use Rattle.laws.proofs.Answers.Refusals.{read_taken_iff}
use Rattle.laws.proofs.Words.Tests.{true_T, passed}
use Rattle.laws.proofs.Words.Lists.{every_drop, every_take}
use Rattle.laws.proofs.File.Written.{Below, payload_of, head_payload}

-- The other way round: the reader takes nothing but what the writer writes.
bytes_number : (k : ℕ) (bs : List ℕ) → length bs ≡ k → Below 256 bs → bytes_of k (number_in bs) ≡ bs
bytes_number zero [] e h = refl
bytes_number zero (b ∷ bs) e h = absurd (omega arith)
bytes_number (suc k) [] e h = absurd (omega arith)
bytes_number (suc k) (b ∷ bs) e h =
    ap₂ (λ (c : ℕ) (cs : List ℕ). c ∷ cs) (omega (arith, h.0)) (ap (bytes_of k) (omega (arith, h.0)) ∙ bytes_number k bs (omega arith) h.1)

bytes_words : (bs : List ℕ) → length bs % 2 ≡ 0 → Below 256 bs → word_bytes (words_in bs) ≡ bs
bytes_words [] e h = refl
bytes_words (b ∷ []) e h = absurd (omega arith)
bytes_words (b ∷ c ∷ bs) e h =
    ap₂ (λ (w : ℕ) (ws : List ℕ). w ∷ ws) (omega (arith, h.0))
    (ap₂ (λ (w : ℕ) (ws : List ℕ). w ∷ ws) (omega (arith, h.0, h.1.0)) (bytes_words bs (omega arith) h.1.1))

-- a payload that passes the tests of a record has the length that the record says, and one that is allowed
payload_long : (kind : ℕ) (allowed : ℕ → Bool) (bytes : List ℕ) → NoneHolds (record_refusals kind allowed bytes) → length (payload_in bytes) ≡ payload_length bytes
payload_long kind allowed bytes n =
    let fits : 6 + payload_length bytes ≤ length bytes = ltb-false (length bytes) (6 + payload_length bytes) n.1.1.1.0 in
    simp (length-take, length-drop) (omega arith)

payload_allowed : (kind : ℕ) (allowed : ℕ → Bool) (bytes : List ℕ) → NoneHolds (record_refusals kind allowed bytes) → T (allowed (length (payload_in bytes)))
payload_allowed kind allowed bytes n = true_T _ (ap allowed (payload_long kind allowed bytes n) ∙ not-false (allowed (payload_length bytes)) n.1.1.0)

below_payload : (bytes : List ℕ) → Below 256 bytes → Below 256 (payload_in bytes)
below_payload bytes h = every_take (λ b. b < 256) (payload_length bytes) (drop 6 bytes) (every_drop (λ b. b < 256) 6 bytes h)

-- bytes that pass the tests of a record are the record that was read and what follows
record_back : (kind : ℕ) (allowed : ℕ → Bool) (bytes : List ℕ) → Below 256 bytes → NoneHolds (record_refusals kind allowed bytes)
    → record_of kind (payload_in bytes) ++ after_record bytes ≡ bytes
record_back kind allowed bytes h n =
    let six : 6 ≤ length bytes = ltb-false (length bytes) 6 n.0 in
    let front : bytes_of 4 (length (payload_in bytes)) ≡ take 4 bytes
    = ap (bytes_of 4) (payload_long kind allowed bytes n) ∙ bytes_number 4 (take 4 bytes) (length-take-le 4 bytes (omega arith)) (every_take (λ b. b < 256) 4 bytes h) in
    let kinds : bytes_of 2 kind ≡ take 2 (drop 4 bytes)
    = ap (bytes_of 2) (sym (eqb-true (kind_in bytes) kind (not-false (eqb (kind_in bytes) kind) n.1.0)))
    ∙ bytes_number 2 (take 2 (drop 4 bytes)) (length-take-le 2 (drop 4 bytes) (simp length-drop (omega arith))) (every_take (λ b. b < 256) 2 (drop 4 bytes) (every_drop (λ b. b < 256) 4 bytes h)) in
    append_assoc (bytes_of 4 (length (payload_in bytes)) ++ bytes_of 2 kind) (payload_in bytes) (after_record bytes)
    ∙ ap₂ (λ (xs ys : List ℕ). xs ++ ys) (ap₂ (λ (xs ys : List ℕ). xs ++ ys) front kinds)
    (ap (λ (r : List ℕ). payload_in bytes ++ r) (sym (drop-drop (payload_length bytes) 6 bytes)) ∙ take-append-drop (payload_length bytes) (drop 6 bytes) ∙ sym (drop-drop 2 4 bytes))
    ∙ append_assoc (take 4 bytes) (take 2 (drop 4 bytes)) (drop 2 (drop 4 bytes))
    ∙ ap (λ (r : List ℕ). take 4 bytes ++ r) (take-append-drop 2 (drop 4 bytes))
    ∙ take-append-drop 4 bytes

payload_back : (p : List ℕ) → Below 256 p → T (is_even (length p) && leb 4 (length p)) → bytes_of 2 (number_in (take 2 p)) ++ word_bytes (words_in (drop 2 p)) ≡ p
payload_back [] h t = absurd t
payload_back (a ∷ []) h t = absurd t
payload_back (a ∷ b ∷ p) h t =
    ap₂ (λ (xs ys : List ℕ). xs ++ ys) (bytes_number 2 (a ∷ b ∷ []) refl (h.0, (h.1.0, tt)))
    (bytes_words p (omega (arith, eqb→eq (suc (suc (length p)) % 2) 0 (and_yes (is_even (suc (suc (length p)))) (leb 4 (suc (suc (length p)))) t).0)) h.1.1)

rule_back : (ranks : List ℕ) (last : Bool) (bytes : List ℕ) → Below 256 bytes → NoneHolds (rule_refusals ranks last bytes)
    → record_of 2 (payload_of (rule_in bytes)) ++ after_record bytes ≡ bytes
rule_back ranks last bytes h n =
    let m : NoneHolds (record_refusals 2 allowed bytes) = (n.0, (n.1.0, (n.1.1.0, (n.1.1.1.0, tt)))) in
    ap (λ (p : List ℕ). record_of 2 p ++ after_record bytes) (payload_back (payload_in bytes) (below_payload bytes h) (payload_allowed 2 allowed bytes m))
    ∙ record_back 2 allowed bytes h m
  where
    allowed : ℕ → Bool
    allowed l = is_even l && leb 4 l

head_back : (file : List ℕ) → Below 256 file → NoneHolds (head_refusals file) → record_of 1 (head_payload (rule_count file)) ++ after_record file ≡ file
head_back file h n =
    let m : NoneHolds (record_refusals 1 allowed file) = (n.0, (n.1.0, (n.1.1.0, (n.1.1.1.0, tt)))) in
    let four : length (payload_in file) ≡ 4 = eqb→eq (length (payload_in file)) 4 (payload_allowed 1 allowed file m) in
    let small : Below 256 (payload_in file) = below_payload file h in
    let edition : edition_in file ≡ 1
    = eqb→eq (edition_in file) 1 (and_yes (eqb (edition_in file) 1) (within 1 most_rules (rule_count file)) (passed (eqb (edition_in file) 1 && within 1 most_rules (rule_count file)) n.1.1.1.1.0)).0 in
    let first : bytes_of 2 1 ≡ take 2 (payload_in file)
    = ap (bytes_of 2) (sym edition) ∙ bytes_number 2 (take 2 (payload_in file)) (length-take-le 2 (payload_in file) (omega arith)) (every_take (λ b. b < 256) 2 (payload_in file) small) in
    let second : bytes_of 2 (rule_count file) ≡ drop 2 (payload_in file)
    = bytes_number 2 (take 2 (drop 2 (payload_in file))) (length-take-le 2 (drop 2 (payload_in file)) (simp length-drop (omega arith)))
    (every_take (λ b. b < 256) 2 (drop 2 (payload_in file)) (every_drop (λ b. b < 256) 2 (payload_in file) small))
    ∙ take_all 2 (drop 2 (payload_in file)) (simp length-drop (omega arith)) in
    ap (λ (p : List ℕ). record_of 1 p ++ after_record file) (ap₂ (λ (xs ys : List ℕ). xs ++ ys) first second ∙ take-append-drop 2 (payload_in file))
    ∙ record_back 1 allowed file h m
  where
    allowed : ℕ → Bool
    allowed l = eqb l 4

records_append : (rs ss : List Rule) → rule_records (rs ++ ss) ≡ rule_records rs ++ rule_records ss
records_append [] ss = refl
records_append (r ∷ rs) ss = ap (λ (bs : List ℕ). record_of 2 (payload_of r) ++ bs) (records_append rs ss) ∙ sym (append_assoc (record_of 2 (payload_of r)) (rule_records rs) (rule_records ss))

length_rules_from : (due : ℕ) (done : List Rule) (bytes : List ℕ) → length (rules_from due done bytes) ≡ length done + due
length_rules_from zero done bytes = omega arith
length_rules_from (suc due) done bytes = omega (arith, length_rules_from due (done ++ rule_in bytes ∷ []) (after_record bytes), length-append done (rule_in bytes ∷ []))

rules_back : (due : ℕ) (done : List Rule) (bytes : List ℕ) → Below 256 bytes → NoneHolds (rules_conditions due done bytes)
    → rule_records (rules_from due done bytes) ≡ rule_records done ++ bytes
rules_back zero done [] h n = sym (append-nil (rule_records done))
rules_back zero done (b ∷ bs) h n = absurd (omega (arith, eqb-true (suc (length bs)) 0 (not-false (eqb (suc (length bs)) 0) n.0)))
rules_back (suc due) done bytes h n =
    let (here, after) = none_holds_split (at (suc (length done)) (rule_refusals (ranks_of done) (eqb due 0) bytes)) (rules_conditions due (done ++ rule_in bytes ∷ []) (after_record bytes)) n in
    rules_back due (done ++ rule_in bytes ∷ []) (after_record bytes) (every_drop (λ b. b < 256) (6 + payload_length bytes) bytes h) after
    ∙ ap (λ (bs : List ℕ). bs ++ after_record bytes) (records_append done (rule_in bytes ∷ []))
    ∙ append_assoc (rule_records done) (rule_records (rule_in bytes ∷ [])) (after_record bytes)
    ∙ ap (λ (bs : List ℕ). rule_records done ++ bs)
    (ap (λ (bs : List ℕ). bs ++ after_record bytes) (append-nil (record_of 2 (payload_of (rule_in bytes))))
    ∙ rule_back (ranks_of done) (eqb due 0) bytes h (none_holds_at (suc (length done)) (rule_refusals (ranks_of done) (eqb due 0) bytes) here))

pub read_write : (file : List ℕ) (rules : List Rule) → Below 256 file → read file ≡ taken rules → write rules ≡ file
unfolding write read_conditions file_rules
read_write file rules h e =
    let (n, is) = (read_taken_iff file rules).0 e in
    let (head, after) = none_holds_split (at 0 (head_refusals file)) (rules_conditions (rule_count file) [] (after_record file)) n.1 in
    ap write (sym is)
    ∙ ap₂ (λ (k : ℕ) (bs : List ℕ). record_of 1 (head_payload k) ++ bs) (length_rules_from (rule_count file) [] (after_record file) ∙ zero-add (rule_count file))
    (rules_back (rule_count file) [] (after_record file) (every_drop (λ b. b < 256) (6 + payload_length file) file h) after)
    ∙ head_back file h (none_holds_at 0 (head_refusals file) head)
