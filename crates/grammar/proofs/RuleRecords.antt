-- A rule's record where it stands in the file: the conditions after the record's own, in the numbers that the code reads there.
use Prim.Native.Nat.{ℕ, ◌+◌, ◌-◌, ◌*◌, ◌/◌, ◌%◌, ◌≤◌, ◌<◌}
use mathlib.Core.Path.{◌≡◌, sym, ap, ◌∙◌}
use mathlib.Core.Bool.{Bool, true, false, not, ◌&&◌, ◌||◌}
use mathlib.Core.List.{List, [], ◌∷◌}
use mathlib.Core.Option.{none, some}
use lib.Dec.{eqb, leb, ltb}
use native.Mathlib.Omega.{arith}
use native.Mathlib.Decide.{dec_lt}
use lib.ListN.{length, take, drop, length-drop}
use lib.Seq.{drop-drop, length-take-le}
use borrow.Author.Tests.{lt-ltb, le-ltb, ltb-false, eqb-true, leb-true, eq-eqb, ne_eqb}
use Rattle.model.specs.Refusals.{Refusal, Result, taken, refused, first_of, RANK, SYMBOL, BODY}
use Rattle.model.specs.File.{words_in, payload_length, record_refusals, rule_refusals, rule_in, after_record}
use Rattle.model.specs.Trees.{all, is_legal, obeys}
use Rattle.laws.proofs.Words.Tests.{or_split}
use Rattle.laws.proofs.Answers.Conditions.{first_of_none_iff}
use Rattle.grammar.specs.declared.rules.Entry.{Entry}
use Rattle.grammar.specs.Meaning.{word_in, body_in, length_allowed, record_result, rule_result, unless_refused}
use Rattle.grammar.proofs.BodyWords.{length_body}
use Rattle.grammar.proofs.Tests.{both_true}
use Rattle.grammar.proofs.Refusing.{first_over, first_here, first_before, unless_taken, unless_refused_lem}
use Rattle.grammar.proofs.Records.{Whole, whole, payload_word, word_drop, drop_take}

abbrev pub rank_refused : ℕ → Bool → Bool
rank_refused k last = ltb 4 k || last && not (eqb k 0)

-- "5, 6 over the whole body, 7"
abbrev rule_conditions : List ℕ → Bool → ℕ → List ℕ → List (Bool × Refusal)
rule_conditions ranks last rank body =
    (rank_refused rank last, RANK)
    ∷ (not (all (is_legal (length ranks)) body), SYMBOL)
    ∷ (not (obeys ranks rank body), BODY)
    ∷ []

-- the most that the rank may be: 0 for the start rule, 4 for any other
abbrev pub most_rank : Bool → ℕ
most_rank true = 0
most_rank false = 4

-- the first of them holds where it is more, and only there
pub rank_over : (k : ℕ) (last : Bool) → most_rank last < k → rank_refused k last ≡ true
rank_over k false h = simp (lt-ltb 4 k h)
rank_over k true h = go (dec_lt 4 k)
  where
    go : Dec (4 < k) → rank_refused k true ≡ true
    go (yes l) = simp (lt-ltb 4 k l)
    go (no l) = simp (le-ltb 4 k (omega arith), ne_eqb k 0 (λ z. omega arith))

pub rank_within : (k : ℕ) (last : Bool) → k ≤ most_rank last → rank_refused k last ≡ false
rank_within k false h = simp (le-ltb 4 k h)
rank_within k true h = simp (le-ltb 4 k (omega arith), eq-eqb k 0 (omega arith))

-- the entry of the rule that a record has
abbrev entry_in : ℕ → List ℕ → Entry
entry_in at bytes = record { rank = (rule_in bytes).rank; place = at + 8; words = length (rule_in bytes).body }

-- the words of a body of so many
length_body_in : (file : List ℕ) (at words : ℕ) → at + 2 * words ≤ length file → length (body_in file at words) ≡ words
length_body_in file at words h =
    omega (arith, length_body (take (2 * words) (drop at file)), length-take-le (2 * words) (drop at file) (omega (arith, length-drop at file)))

-- where a whole record's rule stands
module _ (file : List ℕ) (at len : ℕ) (h : at ≤ length file) (e : record_result 2 (drop at file) ≡ taken len) where
  there : Whole 2 (drop at file)
  there = (whole 2 (drop at file) len e).0

  long : payload_length (drop at file) ≡ len
  long = (whole 2 (drop at file) len e).1

  allowed : (eqb (len % 2) 0 ≡ true) × (leb 4 len ≡ true)
  allowed = both_true (eqb (len % 2) 0) (leb 4 len) (ap (length_allowed 2) (sym long) ∙ there.length_allowed_lem)

  even : len % 2 ≡ 0
  even = eqb-true (len % 2) 0 allowed.0

  pub len_four : 4 ≤ len
  len_four = leb-true 4 len allowed.1

  pub record_fits : at + 6 + len ≤ length file
  record_fits = omega (arith, there.bytes_there, long, length-drop at file, len_four)

  words_len : 2 * ((len - 2) / 2) ≡ len - 2
  words_len = omega (arith, even, len_four)

  rank_there : (rule_in (drop at file)).rank ≡ word_in file (at + 6)
  rank_there = payload_word (drop at file) 0 (omega (arith, long, len_four)) there.bytes_there ∙ word_drop file at 6

  pub body_there : (rule_in (drop at file)).body ≡ body_in file (at + 8) ((len - 2) / 2)
  body_there =
      ap words_in
      (drop_take 2 (payload_length (drop at file)) (drop 6 (drop at file))
      ∙ ap (λ (n : ℕ). take n (drop 2 (drop 6 (drop at file)))) (ap (λ (n : ℕ). n - 2) long ∙ sym words_len)
      ∙ ap (λ (l : List ℕ). take (2 * ((len - 2) / 2)) l) (drop-drop 2 6 (drop at file) ∙ drop-drop 8 at file))

  body_length : length (body_in file (at + 8) ((len - 2) / 2)) ≡ (len - 2) / 2
  body_length = length_body_in file (at + 8) ((len - 2) / 2) (omega (arith, record_fits, words_len, len_four))

  -- the body's bytes, as they are cut out of the file
  pub body_words : (n : ℕ) → n ≡ len - 2 → words_in (take n (drop (at + 8) file)) ≡ body_in file (at + 8) ((len - 2) / 2)
  body_words n e = ap (λ (m : ℕ). words_in (take m (drop (at + 8) file))) (e ∙ sym words_len)

  -- the r ranks below, and the rank as the code read it
  module _ (ranks : List ℕ) (r : ℕ) (below : length ranks ≡ r) (last : Bool) (rank : ℕ) (k : rank ≡ word_in file (at + 6)) where
    abbrev answered : ℕ → List ℕ → Result Entry
    answered n body = unless_refused {A = Entry} (record { rank = n; place = at + 8; words = length body }) (first_of (rule_conditions ranks last n body))

    rule_answer : rule_result ranks last at (drop at file) ≡ answered rank (body_in file (at + 8) ((len - 2) / 2))
    rule_answer =
        ap (unless_refused {A = Entry} (entry_in at (drop at file)))
        (first_over (record_refusals 2 (length_allowed 2) (drop at file)) (rule_conditions ranks last (rule_in (drop at file)).rank (rule_in (drop at file)).body) there.none_refuses)
        ∙ ap (λ (n : ℕ). answered n (rule_in (drop at file)).body) (rank_there ∙ sym k)
        ∙ ap (answered rank) body_there

    pub rule_rank_high : rank_refused rank last ≡ true → rule_result ranks last at (drop at file) ≡ refused RANK 0
    rule_rank_high h = rule_answer ∙ simp h

    module _ (good : rank_refused rank last ≡ false) where
      legal_there : (b : Bool) → all (is_legal r) (body_in file (at + 8) ((len - 2) / 2)) ≡ b → all (is_legal (length ranks)) (body_in file (at + 8) ((len - 2) / 2)) ≡ b
      legal_there b f = ap (λ (m : ℕ). all (is_legal m) (body_in file (at + 8) ((len - 2) / 2))) below ∙ f

      pub rule_illegal : all (is_legal r) (body_in file (at + 8) ((len - 2) / 2)) ≡ false → rule_result ranks last at (drop at file) ≡ refused SYMBOL 0
      rule_illegal f = rule_answer ∙ simp (good, legal_there false f)

      module _ (legal : all (is_legal r) (body_in file (at + 8) ((len - 2) / 2)) ≡ true) where
        pub rule_misshapen : obeys ranks rank (body_in file (at + 8) ((len - 2) / 2)) ≡ false → rule_result ranks last at (drop at file) ≡ refused BODY 0
        rule_misshapen f = rule_answer ∙ simp (good, legal_there true legal, f)

        pub rule_good : obeys ranks rank (body_in file (at + 8) ((len - 2) / 2)) ≡ true → rule_result ranks last at (drop at file) ≡ taken (record { rank = rank; place = at + 8; words = (len - 2) / 2 })
        rule_good f = rule_answer ∙ simp (good, legal_there true legal, f, body_length)

pub rule_refused : (ranks : List ℕ) (last : Bool) (at : ℕ) (bytes : List ℕ) (x : Refusal) → record_result 2 bytes ≡ refused x 0 → rule_result ranks last at bytes ≡ refused x 0
rule_refused ranks last at bytes x e =
    ap (unless_refused {A = Entry} (entry_in at bytes))
    (first_here (record_refusals 2 (length_allowed 2) bytes) (rule_conditions ranks last (rule_in bytes).rank (rule_in bytes).body) x
    (unless_refused_lem (payload_length bytes) (first_of (record_refusals 2 (length_allowed 2) bytes)) x 0 e))

-- what a rule that is found tells of its record
pub record RuleThere (file : List ℕ) (at : ℕ) (ranks : List ℕ) (last : Bool) (rule : Entry) : Type 0 where
  pub none_refuses : first_of (rule_refusals ranks last (drop at file)) ≡ none
  pub rank_is : (rule_in (drop at file)).rank ≡ rule.rank
  pub rank_small : rule.rank ≤ 4
  pub place_is : rule.place ≡ at + 8
  pub words_are : length (rule_in (drop at file)).body ≡ rule.words
  pub body_is : body_in file (at + 8) rule.words ≡ (rule_in (drop at file)).body
  pub fits : at + 8 + 2 * rule.words ≤ length file
  pub after : drop (at + 8 + 2 * rule.words) file ≡ after_record (drop at file)

module _ (file : List ℕ) (at : ℕ) (h : at ≤ length file) (ranks : List ℕ) (last : Bool) (rule : Entry) (e : rule_result ranks last at (drop at file) ≡ taken rule) where
  told : (first_of (rule_refusals ranks last (drop at file)) ≡ none) × (entry_in at (drop at file) ≡ rule)
  told = unless_taken {A = Entry} (entry_in at (drop at file)) rule (first_of (rule_refusals ranks last (drop at file))) e

  conditions : List (Bool × Refusal)
  conditions = rule_conditions ranks last (rule_in (drop at file)).rank (rule_in (drop at file)).body

  record_taken : record_result 2 (drop at file) ≡ taken (payload_length (drop at file))
  unfolding conditions
  record_taken =
      ap (unless_refused (payload_length (drop at file))) (first_before (record_refusals 2 (length_allowed 2) (drop at file)) conditions told.0)

  words_there : (payload_length (drop at file) - 2) / 2 ≡ rule.words
  words_there =
      sym (ap length (body_there file at (payload_length (drop at file)) h record_taken) ∙ body_length file at (payload_length (drop at file)) h record_taken)
      ∙ ap (λ (p : Entry). p.words) told.1

  long_words : payload_length (drop at file) ≡ 2 + 2 * rule.words
  long_words =
      omega (
        arith,
        words_there,
        words_len file at (payload_length (drop at file)) h record_taken,
        len_four file at (payload_length (drop at file)) h record_taken,
      )

  rank_four : (rule_in (drop at file)).rank ≤ 4
  rank_four =
      ltb-false 4 (rule_in (drop at file)).rank
      (or_split _ _ ((first_of_none_iff (rule_refusals ranks last (drop at file))).0 told.0).1.1.1.1.0).0

  pub rule_there : RuleThere file at ranks last rule
  rule_there =
      let rank_is = ap (λ (p : Entry). p.rank) told.1 in
      record {
        none_refuses = told.0;
        rank_is = rank_is;
        rank_small = omega (arith, rank_four, rank_is);
        place_is = sym (ap (λ (p : Entry). p.place) told.1);
        words_are = ap (λ (p : Entry). p.words) told.1;
        body_is = ap (body_in file (at + 8)) (sym words_there) ∙ sym (body_there file at (payload_length (drop at file)) h record_taken);
        fits = omega (arith, long_words, record_fits file at (payload_length (drop at file)) h record_taken);
        after = ap (λ (n : ℕ). drop n file) past ∙ sym (drop-drop (6 + payload_length (drop at file)) at file);
      }
    where
      past : at + 8 + 2 * rule.words ≡ at + (6 + payload_length (drop at file))
      past = omega (arith, long_words)

-- what a refusal tells
pub rule_not_there : (ranks : List ℕ) (last : Bool) (at : ℕ) (bytes : List ℕ) (x : Refusal) → rule_result ranks last at bytes ≡ refused x 0 → first_of (rule_refusals ranks last bytes) ≡ some x
rule_not_there ranks last at bytes x e = unless_refused_lem {A = Entry} (entry_in at bytes) (first_of (rule_refusals ranks last bytes)) x 0 e
