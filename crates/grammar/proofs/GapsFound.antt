-- The gaps of a rule, found along its body: after each parameter the table has one more of them.
use Prim.Native.Nat.{ℕ, zero, suc, ◌+◌, ◌*◌, ◌-◌, ◌≤◌, ◌<◌}
use mathlib.Core.Path.{◌≡◌, refl, sym, ap, ◌∙◌, subst}
use mathlib.Core.Bool.{true, false}
use mathlib.Core.List.{List, [], ◌∷◌, ◌++◌, append_assoc, append-nil}
use native.Mathlib.Numerals.{add-one}
use native.Mathlib.Omega.{arith}
use lib.Dec.{T}
use lib.ListN.{length, take, drop, get_or, set, length-append, length-set, take-append-drop}
use lib.Seq.{take-suc, split_at, take_all, length-take-le}
use Rattle.model.specs.Bounds.{largest_size}
use Rattle.model.specs.Words.{is_parameter, rank_of}
use Rattle.model.specs.Trees.{Rule, those, gap_sizes, size, expand, expansions, ranks_of}
use Rattle.laws.specs.Formed.{formed, body_at, Fits}
use Rattle.laws.specs.Sums.{sum, size_before, before_place}
use Rattle.laws.proofs.Trees.Fills.{those_in, those_out, those_append}
use Rattle.laws.proofs.Trees.Grammar.{rule_of, formed_env, expansions_solve}
use Rattle.laws.proofs.Sizes.Gaps.{length_gaps, size_gaps, env_gaps}
use Rattle.laws.proofs.Sizes.Before.{gap_difference, before_last, gap_sum}
use Rattle.grammar.specs.Meaning.{padded}
use Rattle.grammar.specs.Measures.{SizesSmall, gap_rows, RowsBelow}
use Rattle.grammar.proofs.Rows.{length_rows, store_next, rows_more, small_set}

-- the parameters among the first i words of rule r's body
abbrev pub passed : List Rule → ℕ → ℕ → ℕ
passed rules r i = length (those is_parameter (take i (body_at rules r)))

-- before the i-th word of rule r's body: the next gap's place, the nodes before the last parameter, and the gaps so far
pub record SoFar (rules : List Rule) (r len i last m : ℕ) (sizes : List ℕ) : Type 0 where
  pub next : m ≡ 5 * r + passed rules r i
  pub up_to : last ≡ size_before (passed rules r i) (get_or (expansions rules) r [])
  pub long : length sizes ≡ len
  pub rows : sizes ≡ padded 0 len (gap_rows (take r (expansions rules)) ++ take (passed rules r i) (gap_sizes (get_or (expansions rules) r [])))
  pub small : SizesSmall sizes

pub so_same : {rules : List Rule} {r len i last m : ℕ} {sizes : List ℕ} → SoFar rules r len i last m sizes
    → {last' m' : ℕ} {sizes' : List ℕ} → sizes' ≡ sizes → last' ≡ last → m' ≡ m → SoFar rules r len i last' m' sizes'
so_same S es el em =
    record { next = em ∙ S.next; up_to = el ∙ S.up_to; long = ap length es ∙ S.long; rows = es ∙ S.rows; small = rw es S.small }

sum_take : (m : ℕ) (gs : List ℕ) → sum (take m gs) ≤ sum gs
sum_take zero gs = omega arith
sum_take (suc m) [] = omega arith
sum_take (suc m) (g ∷ gs) = omega (arith, sum_take m gs)

-- what stands before a parameter is at most the whole
before_most : (m : ℕ) (e : List ℕ) → size_before m e ≤ size e
before_most m e = omega (arith, sum_take m (gap_sizes e), size_gaps e)

module _ (rules : List Rule) (f : T (formed rules)) (r : ℕ) (below : r < length rules) where
  abbrev E : List (List ℕ)
  E = expansions rules

  abbrev ranks : List ℕ
  ranks = ranks_of rules

  abbrev body : List ℕ
  body = body_at rules r

  abbrev e : List ℕ
  e = get_or (expansions rules) r []

  pub there : r < length E
  there = omega (arith, (expansions_solve rules f).0)

  rank_most : get_or ranks r 0 ≤ 4
  rank_most = (rule_of rules f r below).rank_small

  gaps_count : length (gap_sizes e) ≡ suc (get_or ranks r 0)
  gaps_count = env_gaps ranks E (formed_env rules f) r

  all_passed : length (those is_parameter body) ≡ get_or ranks r 0
  all_passed =
      omega (arith, ap length ((rule_of rules f r below).in_order ∙ sym (formed_env rules f r)), length_gaps e, gaps_count)

  passed_few : (i : ℕ) → passed rules r i ≤ get_or ranks r 0
  passed_few i =
      let s = ap (those is_parameter) (take-append-drop i body) in
      let t = ap length (sym s ∙ those_append is_parameter (take i body) (drop i body)) in
      omega (arith, all_passed, length-append (those is_parameter (take i body)) (those is_parameter (drop i body)))

  passed_end : (i : ℕ) → length body ≤ i → passed rules r i ≡ get_or ranks r 0
  passed_end i h = ap (λ (l : List ℕ). length (those is_parameter l)) (take_all i body h) ∙ all_passed

  one_passed : (i : ℕ) → i < length body → passed rules r (i + 1) ≡ passed rules r i + length (those is_parameter (get_or body i 0 ∷ []))
  one_passed i h =
      ap (passed rules r) (add-one i)
      ∙ ap (λ (l : List ℕ). length (those is_parameter l)) (take-suc body i 0 h)
      ∙ ap length (those_append is_parameter (take i body) (get_or body i 0 ∷ []))
      ∙ length-append (those is_parameter (take i body)) (those is_parameter (get_or body i 0 ∷ []))

  -- the nodes before a parameter are what the words before it add up to
  pub before_there : (i : ℕ) → i < length body → is_parameter (get_or body i 0) ≡ true
      → before_place ranks E (take i body) ≡ size_before (suc (passed rules r i)) e
  before_there i h p =
      let s = split_at body i 0 h in
      let fits : Fits (rank_of ranks) 0 (take i body ++ get_or body i 0 ∷ drop (suc i) body)
      = subst (λ (l : List ℕ). Fits (rank_of ranks) 0 l) s (rule_of rules f r below).tree.0 in
      sym
      (ap (size_before (suc (passed rules r i))) ((expansions_solve rules f).1 r below ∙ ap (expand ranks E) s)
      ∙ gap_sum ranks E (formed_env rules f) (take i body) (get_or body i 0) (drop (suc i) body) p fits)

  pub start : (sizes : List ℕ) → RowsBelow r rules sizes → SoFar rules r (length sizes) 0 0 (5 * r) sizes
  start sizes B =
      record {
        next = omega arith;
        up_to = refl;
        long = refl;
        rows = B.rows ∙ ap (padded 0 (length sizes)) (sym (append-nil (gap_rows (take r E))));
        small = B.small;
      }

  module _ (len : ℕ) (room : 5 * r + 5 ≤ len) (i last m : ℕ) (sizes : List ℕ) (S : SoFar rules r len i last m sizes) where
    pub next_room : m < 5 * r + 5
    next_room = omega (arith, S.next, passed_few i, rank_most)

    -- the next gap in its place
    stored : (v : ℕ) → v ≡ get_or (gap_sizes e) (passed rules r i) 0
        → set sizes m v ≡ padded 0 len (gap_rows (take r E) ++ take (suc (passed rules r i)) (gap_sizes e))
    stored v g =
        let k = passed rules r i in
        let rows = gap_rows (take r E) in
        let few : k < length (gap_sizes e) = omega (arith, passed_few i, gaps_count) in
        let n : m ≡ length (rows ++ take k (gap_sizes e)) =
        omega (
          arith,
          S.next,
          length-append rows (take k (gap_sizes e)),
          length_rows (take r E),
          length-take-le r E (omega (arith, there)),
          length-take-le k (gap_sizes e) (omega arith),
        ) in
        ap (λ (s : List ℕ). set s m v) S.rows
        ∙ store_next len (rows ++ take k (gap_sizes e)) m v n (omega (arith, next_room))
        ∙ ap (padded 0 len)
        (append_assoc rows (take k (gap_sizes e)) (v ∷ [])
        ∙ ap (λ (l : List ℕ). rows ++ l)
        (ap (λ (w : ℕ). take k (gap_sizes e) ++ w ∷ []) g ∙ sym (take-suc (gap_sizes e) k 0 few)))

    pub other_word : i < length body → is_parameter (get_or body i 0) ≡ false → SoFar rules r len (i + 1) last m sizes
    other_word h p =
        let k : passed rules r i ≡ passed rules r (i + 1) =
        omega (arith, one_passed i h, ap length (those_out is_parameter (get_or body i 0) [] p)) in
        record {
          next = omega (arith, S.next);
          up_to = S.up_to ∙ ap (λ (j : ℕ). size_before j e) k;
          long = S.long;
          rows = S.rows ∙ ap (λ (j : ℕ). padded 0 len (gap_rows (take r E) ++ take j (gap_sizes e))) k;
          small = S.small;
        }

    module _ (fits : size e ≤ largest_size) where
      pub parameter_word_lem : i < length body → is_parameter (get_or body i 0) ≡ true → (b : ℕ) → b ≡ size_before (suc (passed rules r i)) e
          → (last ≤ b) × SoFar rules r len (i + 1) b (m + 1) (set sizes m (b - last))
      parameter_word_lem h p b q =
          let k : suc (passed rules r i) ≡ passed rules r (i + 1) =
          omega (arith, one_passed i h, ap length (those_in is_parameter (get_or body i 0) [] p)) in
          let g : b ≡ last + get_or (gap_sizes e) (passed rules r i) 0 =
          omega (arith, gap_difference (passed rules r i) e, S.up_to) in
          let most : b ≤ size e = omega (arith, before_most (suc (passed rules r i)) e) in (
            omega arith,
            record {
              next = omega (arith, S.next);
              up_to = q ∙ ap (λ (j : ℕ). size_before j e) k;
              long = length-set sizes m (b - last) ∙ S.long;
              rows = stored (b - last) (omega arith) ∙ ap (λ (j : ℕ). padded 0 len (gap_rows (take r E) ++ take j (gap_sizes e))) k;
              small = small_set sizes m (b - last) S.small (omega arith);
            },
          )

      pub finish : length body ≤ i → (all : ℕ) → all ≡ size e → (last ≤ all) × RowsBelow (suc r) rules (set sizes m (all - last))
      finish h all q =
          let k = passed_end i h in
          let whole : size_before (suc (passed rules r i)) e ≡ size e
          = before_last (suc (passed rules r i)) e (omega (arith, length_gaps e, gaps_count)) in
          let g : size e ≡ last + get_or (gap_sizes e) (passed rules r i) 0 =
          omega (arith, gap_difference (passed rules r i) e, S.up_to) in
          let v = all - last in
          let long : length (set sizes m v) ≡ len = length-set sizes m v ∙ S.long in (
            omega arith,
            record {
              rows =
                  stored v (omega arith)
                  ∙ ap (λ (l : List ℕ). padded 0 len (gap_rows (take r E) ++ l)) (take_all (suc (passed rules r i)) (gap_sizes e) (omega (arith, gaps_count)))
                  ∙ rows_more len E r there (omega (arith, gaps_count, rank_most)) room
                  ∙ ap (λ (n : ℕ). padded 0 n (gap_rows (take (suc r) E))) (sym long);
              small = small_set sizes m v S.small (omega arith);
            },
          )
