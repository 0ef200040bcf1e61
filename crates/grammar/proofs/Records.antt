-- A record where it stands in the file: the model's reading of the bytes from a place on, in the numbers that the code reads there.
use Prim.Native.Nat.{ℕ, zero, suc, ◌+◌, ◌-◌, ◌*◌, ◌≤◌, ◌<◌}
use mathlib.Core.Path.{◌≡◌, sym, ap, ◌∙◌}
use mathlib.Core.Bool.{Bool, true, false, not, ◌&&◌}
use mathlib.Core.List.{List, [], ◌∷◌}
use mathlib.Core.Option.{none}
use lib.Dec.{eqb}
use native.Mathlib.Nat.{add_assoc, sub-zero, zero-sub, suc-sub-suc}
use native.Mathlib.Omega.{arith}
use lib.ListN.{length, take, drop, get_or, length-drop}
use lib.Seq.{drop-cons, drop-drop, get_or-drop, get_or-take, length-take-le, take-nil}
use borrow.Author.Tests.{lt-ltb, le-ltb, le-leb, lt-leb, eq-eqb, ne_eqb, eqb-true, ltb-false, not-false}
use Rattle.model.specs.Bounds.{most_rules}
use Rattle.model.specs.Refusals.{Refusal, taken, refused, first_of, SHORT, KIND, LENGTH, HEAD}
use Rattle.model.specs.File.{number_in, kind_in, payload_length, payload_in, record_refusals, edition_in, rule_count}
use Rattle.laws.proofs.Answers.Conditions.{first_of_none_iff}
use Rattle.grammar.specs.Meaning.{word_in, length_in, length_allowed, record_result, head_result, unless_refused}
use Rattle.model.specs.Words.{within}
use Rattle.grammar.proofs.Refusing.{unless_taken, unless_refused_lem, first_over, first_here}

-- k bytes as a number
number_cons : (bs : List ℕ) (at k : ℕ) → at < length bs → number_in (take (suc k) (drop at bs)) ≡ get_or bs at 0 + 256 * number_in (take k (drop (at + 1) bs))
number_cons bs at k h =
    ap (λ (l : List ℕ). number_in (take (suc k) l)) (drop-cons bs at 0 h)
    ∙ ap (λ (n : ℕ). get_or bs at 0 + 256 * number_in (take k (drop n bs))) next
  where
    next : suc at ≡ at + 1
    next = omega arith

number_word : (bs : List ℕ) (at : ℕ) → at + 1 < length bs → number_in (take 2 (drop at bs)) ≡ word_in bs at
number_word bs at h =
    number_cons bs at 1 (omega arith)
    ∙ ap (λ (n : ℕ). get_or bs at 0 + 256 * n) (number_cons bs (at + 1) 0 h ∙ last)
  where
    last : get_or bs (at + 1) 0 + 256 * 0 ≡ get_or bs (at + 1) 0
    last = omega arith

number_length : (bs : List ℕ) (at : ℕ) → at + 3 < length bs → number_in (take 4 (drop at bs)) ≡ length_in bs at
number_length bs at h =
    number_cons bs at 3 (omega arith)
    ∙ ap (λ (n : ℕ). get_or bs at 0 + 256 * n) (number_cons bs (at + 1) 2 (omega arith))
    ∙ ap (λ (n : ℕ). get_or bs at 0 + 256 * (get_or bs (at + 1) 0 + 256 * number_in (take 2 (drop n bs)))) two
    ∙ ap (λ (n : ℕ). get_or bs at 0 + 256 * (get_or bs (at + 1) 0 + 256 * n)) (number_word bs (at + 2) (omega arith))
    ∙ regroup
  where
    two : at + 1 + 1 ≡ at + 2
    two = omega arith

    regroup : get_or bs at 0 + 256 * (get_or bs (at + 1) 0 + 256 * word_in bs (at + 2)) ≡ length_in bs at
    regroup = omega arith

module _ (file : List ℕ) (at kind : ℕ) (h : at ≤ length file) where
  left : length (drop at file) ≡ length file - at
  left = length-drop at file

  kind_there : 6 ≤ length file - at → kind_in (drop at file) ≡ word_in file (at + 4)
  kind_there l = ap (λ (bs : List ℕ). number_in (take 2 bs)) (drop-drop 4 at file) ∙ number_word file (at + 4) (omega arith)

  length_there : 6 ≤ length file - at → payload_length (drop at file) ≡ length_in file at
  length_there l = number_length file at (omega arith)

  pub record_short : length file - at < 6 → record_result kind (drop at file) ≡ refused SHORT 0
  record_short l = simp (lt-ltb (length (drop at file)) 6 (omega (arith, left)))

  module _ (l : 6 ≤ length file - at) where
    there : (n : ℕ) → n ≤ length file - at → n ≤ length (drop at file)
    there n m = omega (arith, left)

    pub record_kind : (word_in file (at + 4) ≡ kind → ⊥) → record_result kind (drop at file) ≡ refused KIND 0
    record_kind e = simp (le-ltb (length (drop at file)) 6 (there 6 l), ne_eqb (kind_in (drop at file)) kind (λ q. e (sym (kind_there l) ∙ q)))

    module _ (e : word_in file (at + 4) ≡ kind) where
      pub record_length : length_allowed kind (length_in file at) ≡ false → record_result kind (drop at file) ≡ refused LENGTH 0
      record_length a =
          simp (
            le-ltb (length (drop at file)) 6 (there 6 l),
            eq-eqb (kind_in (drop at file)) kind (kind_there l ∙ e),
            ap (length_allowed kind) (length_there l) ∙ a,
          )

      module _ (a : length_allowed kind (length_in file at) ≡ true) where
        pub record_cut : length file - at < 6 + length_in file at → record_result kind (drop at file) ≡ refused SHORT 0
        record_cut c =
            simp (
              le-ltb (length (drop at file)) 6 (there 6 l),
              eq-eqb (kind_in (drop at file)) kind (kind_there l ∙ e),
              ap (length_allowed kind) (length_there l) ∙ a,
              lt-ltb (length (drop at file)) (6 + payload_length (drop at file)) (omega (arith, left, length_there l)),
            )

        pub record_whole : 6 + length_in file at ≤ length file - at → record_result kind (drop at file) ≡ taken (length_in file at)
        record_whole c =
            simp (
              le-ltb (length (drop at file)) 6 (there 6 l),
              eq-eqb (kind_in (drop at file)) kind (kind_there l ∙ e),
              ap (length_allowed kind) (length_there l) ∙ a,
              le-ltb (length (drop at file)) (6 + payload_length (drop at file)) (omega (arith, left, length_there l)),
            )
            (ap taken (length_there l))

-- what the reading of a record tells where it is taken
pub record Whole (kind : ℕ) (bytes : List ℕ) : Type 0 where
  pub none_refuses : first_of (record_refusals kind (length_allowed kind) bytes) ≡ none
  pub length_allowed_lem : length_allowed kind (payload_length bytes) ≡ true
  pub bytes_there : 6 + payload_length bytes ≤ length bytes

pub whole : (kind : ℕ) (bytes : List ℕ) (l : ℕ) → record_result kind bytes ≡ taken l → Whole kind bytes × (payload_length bytes ≡ l)
whole kind bytes l e =
    let u = unless_taken (payload_length bytes) l (first_of (record_refusals kind (length_allowed kind) bytes)) e in
    let f = (first_of_none_iff (record_refusals kind (length_allowed kind) bytes)).0 u.0 in
    (record { none_refuses = u.0; length_allowed_lem = not-false _ f.1.1.0; bytes_there = ltb-false _ _ f.1.1.1.0 }, u.1)

pub drop_take : (n m : ℕ) (l : List ℕ) → drop n (take m l) ≡ take (m - n) (drop n l)
drop_take zero m l = ap (λ (k : ℕ). take k l) (sym (sub-zero m))
drop_take (suc n) zero l = sym (ap (λ (k : ℕ). take k (drop (suc n) l)) (zero-sub (suc n)))
drop_take (suc n) (suc m) [] = sym (take-nil (suc m - suc n))
drop_take (suc n) (suc m) (x ∷ l) = drop_take n m l ∙ ap (λ (k : ℕ). take k (drop n l)) (sym (suc-sub-suc m n))

pub word_drop : (file : List ℕ) (at i : ℕ) → word_in (drop at file) i ≡ word_in file (at + i)
word_drop file at i =
    ap (λ (n : ℕ). n + 256 * get_or (drop at file) (i + 1) 0) (get_or-drop at file i 0)
    ∙ ap (λ (n : ℕ). get_or file (at + i) 0 + 256 * n) (get_or-drop at file (i + 1) 0 ∙ ap (λ (n : ℕ). get_or file n 0) (sym (add_assoc at i 1)))

-- a word of the payload
pub payload_word : (bytes : List ℕ) (i : ℕ) → i + 1 < payload_length bytes → 6 + payload_length bytes ≤ length bytes
    → number_in (take 2 (drop i (payload_in bytes))) ≡ word_in bytes (6 + i)
payload_word bytes i h f =
    number_word (payload_in bytes) i (omega (arith, length-take-le (payload_length bytes) (drop 6 bytes) (omega (arith, length-drop 6 bytes))))
    ∙ ap (λ (n : ℕ). n + 256 * get_or (payload_in bytes) (i + 1) 0) (get_or-take (payload_length bytes) (drop 6 bytes) i 0 (omega arith))
    ∙ ap (λ (n : ℕ). get_or (drop 6 bytes) i 0 + 256 * n) (get_or-take (payload_length bytes) (drop 6 bytes) (i + 1) 0 h)
    ∙ word_drop bytes 6 i

-- the head, after its record
abbrev head_condition : List ℕ → List (Bool × Refusal)
head_condition file = (not (eqb (edition_in file) 1 && within 1 most_rules (rule_count file)), HEAD) ∷ []

module _ (file : List ℕ) (l : ℕ) (e : record_result 1 file ≡ taken l) where
  head_whole : Whole 1 file
  head_whole = (whole 1 file l e).0

  four : payload_length file ≡ 4
  four = eqb-true (payload_length file) 4 head_whole.length_allowed_lem

  pub head_long : 10 ≤ length file
  head_long = omega (arith, four, head_whole.bytes_there)

  edition_there : edition_in file ≡ word_in file 6
  edition_there = payload_word file 0 (omega (arith, four)) head_whole.bytes_there

  count_there : rule_count file ≡ word_in file 8
  count_there = payload_word file 2 (omega (arith, four)) head_whole.bytes_there

  head_answer : head_result file ≡ unless_refused (rule_count file) (first_of (head_condition file))
  head_answer = ap (unless_refused (rule_count file)) (first_over (record_refusals 1 (length_allowed 1) file) (head_condition file) head_whole.none_refuses)

  pub head_edition : (word_in file 6 ≡ 1 → ⊥) → head_result file ≡ refused HEAD 0
  head_edition h = head_answer ∙ simp (ne_eqb (edition_in file) 1 (λ q. h (sym edition_there ∙ q)))

  module _ (h : word_in file 6 ≡ 1) where
    pub head_none : word_in file 8 < 1 → head_result file ≡ refused HEAD 0
    head_none n = head_answer ∙ simp (eq-eqb (edition_in file) 1 (edition_there ∙ h), lt-leb 1 (rule_count file) (omega (arith, count_there)))

    pub head_many : 1 ≤ word_in file 8 → 256 < word_in file 8 → head_result file ≡ refused HEAD 0
    head_many m n =
        head_answer
        ∙ simp (
          eq-eqb (edition_in file) 1 (edition_there ∙ h),
          le-leb 1 (rule_count file) (omega (arith, count_there)),
          lt-leb (rule_count file) 256 (omega (arith, count_there)),
        )

    pub head_good : 1 ≤ word_in file 8 → word_in file 8 ≤ 256 → head_result file ≡ taken (word_in file 8)
    head_good m n =
        head_answer
        ∙ simp (
          eq-eqb (edition_in file) 1 (edition_there ∙ h),
          le-leb 1 (rule_count file) (omega (arith, count_there)),
          le-leb (rule_count file) 256 (omega (arith, count_there)),
        )
        (ap taken count_there)

pub head_refused : (file : List ℕ) (x : Refusal) → record_result 1 file ≡ refused x 0 → head_result file ≡ refused x 0
head_refused file x e =
    ap (unless_refused (rule_count file))
    (first_here (record_refusals 1 (length_allowed 1) file) (head_condition file) x (unless_refused_lem (payload_length file) (first_of (record_refusals 1 (length_allowed 1) file)) x 0 e))
