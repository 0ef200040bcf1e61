-- The sums by the tables are those of the expansions: for words that call only rules below r, on the ranks and the rows of those rules.
use Prim.Native.Nat.{ℕ, suc, ◌+◌, ◌-◌, ◌≤◌, ◌<◌}
use mathlib.Core.Path.{◌≡◌, refl, ap, ◌∙◌}
use mathlib.Core.Bool.{Bool, true, false, cond}
use mathlib.Core.List.{List, [], ◌∷◌, ◌++◌}
use native.Mathlib.Omega.{arith}
use lib.Dec.{T, ltb, ltb→lt}
use borrow.Author.Tests.{ltb-true}
use lib.ListN.{length, take, get_or}
use lib.Seq.{get_or-take, length-take-le}
use Rattle.model.specs.Words.{Class, empty, label, parameter, call, illegal, class_of, rank_of, rank_as}
use Rattle.model.specs.Trees.{all, is_legal, size, is_legal_as}
use Rattle.laws.specs.Formed.{Env}
use Rattle.laws.specs.Sums.{sum_of, own_size, size_before, own_before, depth_of, before_place, own_as}
use Rattle.laws.proofs.Words.Lists.{all_cons}
use Rattle.laws.proofs.Trees.Legal.{rank_agree}
use Rattle.laws.proofs.Sizes.Gaps.{length_gaps, env_gaps}
use Rattle.laws.proofs.Sizes.Before.{before_last}
use Rattle.grammar.specs.Measures.{first_gaps, own_by, before_by, gap_rows}
use Rattle.grammar.proofs.Rows.{first_is}

-- a legal word of rule r is ⊥, a label, a parameter or a call of a rule below r
by_legal : (r : ℕ) (P : Class → Type 0) → P empty → P label → ((n : ℕ) → P (parameter n)) → ((j : ℕ) → j < r → P (call j)) → (w : ℕ) → T (is_legal r w) → P (class_of w)
by_legal r P e l p c w t = go (class_of w) t
  where
    go : (k : Class) → T (is_legal_as r k) → P k
    go empty t = e
    go label t = l
    go (parameter n) t = p n
    go (call j) t = c j (ltb→lt j r t)
    go illegal t = absurd t

-- `known` has the ranks of the rules below r, and the size table their rows
pub record Below (ranks : List ℕ) (E : List (List ℕ)) (r : ℕ) (known sizes : List ℕ) : Type 0 where
  pub env : Env ranks E
  pub there : r ≤ length E
  pub small : (j : ℕ) → j < r → get_or ranks j 0 ≤ 4
  pub agree : (j : ℕ) → j < r → get_or known j 0 ≡ get_or ranks j 0
  pub rest : List ℕ
  pub rows : sizes ≡ gap_rows (take r E) ++ rest

module _ (ranks : List ℕ) (E : List (List ℕ)) (r : ℕ) (known sizes : List ℕ) (B : Below ranks E r known sizes) where
  first_same : (j k : ℕ) → j < r → k ≤ 5 → first_gaps sizes j k ≡ size_before k (get_or E j [])
  first_same j k h l =
      ap (λ (s : List ℕ). first_gaps s j k) B.rows
      ∙ first_is (take r E) B.rest j k (omega (arith, length-take-le r E B.there)) l
      ∙ ap (size_before k) (get_or-take r E j [] h)

  all_same : (j : ℕ) → j < r → first_gaps sizes j 5 ≡ size (get_or E j [])
  all_same j h =
      first_same j 5 h (omega arith)
      ∙ before_last 5 (get_or E j []) (omega (arith, length_gaps (get_or E j []), env_gaps ranks E B.env j, B.small j h))

  own_first : (w k : ℕ) → k ≤ 5 → T (is_legal r w) → own_by sizes k w ≡ own_before E k w
  own_first w k l =
      by_legal r (λ c. own_as (λ j. first_gaps sizes j k) c ≡ own_as (λ j. size_before k (get_or E j [])) c)
      refl refl (λ n. refl) (λ j h. first_same j k h l) w

  own_all : (w : ℕ) → T (is_legal r w) → own_by sizes 5 w ≡ own_size E w
  own_all =
      by_legal r (λ c. own_as (λ j. first_gaps sizes j 5) c ≡ own_as (λ j. size (get_or E j [])) c)
      refl refl (λ n. refl) all_same

  rank_same : (w : ℕ) → T (is_legal r w) → rank_of known w ≡ rank_of ranks w
  rank_same = rank_agree r known ranks B.agree

  rank_four : (w : ℕ) → T (is_legal r w) → rank_of ranks w ≤ 4
  rank_four =
      by_legal r (λ c. rank_as ranks c ≤ 4)
      (omega arith) (omega arith) (λ n. omega arith) B.small

  pub sum_same : (ws : List ℕ) → T (all (is_legal r) ws) → sum_of (own_by sizes 5) ws ≡ sum_of (own_size E) ws
  sum_same [] t = refl
  sum_same (w ∷ ws) t =
      let s = all_cons (is_legal r) w ws t in
      omega (arith, own_all w s.0, sum_same ws s.1)

  depth_same : (ws : List ℕ) → T (all (is_legal r) ws) → depth_of (rank_of known) 0 ws ≡ depth_of (rank_of ranks) 0 ws
  depth_same [] t = refl
  depth_same (w ∷ ws) t =
      let s = all_cons (is_legal r) w ws t in
      ap (λ (k : ℕ). cond (ltb (depth_of (rank_of known) 0 ws) k) 0 (suc (depth_of (rank_of known) 0 ws - k))) (rank_same w s.0)
      ∙ ap (λ (e : ℕ). cond (ltb e (rank_of ranks w)) 0 (suc (e - rank_of ranks w))) (depth_same ws s.1)

  -- what a word adds
  adds_same : (e w : ℕ) → T (is_legal r w)
      → cond (ltb e (rank_of ranks w)) (own_by sizes (suc e) w) (own_by sizes 5 w) ≡ cond (ltb e (rank_of ranks w)) (own_before E (suc e) w) (own_size E w)
  adds_same e w t = go (ltb e (rank_of ranks w)) refl
    where
      go : (b : Bool) → ltb e (rank_of ranks w) ≡ b → cond b (own_by sizes (suc e) w) (own_by sizes 5 w) ≡ cond b (own_before E (suc e) w) (own_size E w)
      go true h = own_first w (suc e) (omega (arith, ltb-true e (rank_of ranks w) h, rank_four w t)) t
      go false h = own_all w t

  pub before_same : (ws : List ℕ) → T (all (is_legal r) ws) → before_by (rank_of known) sizes ws ≡ before_place ranks E ws
  before_same [] t = refl
  before_same (w ∷ ws) t =
      let s = all_cons (is_legal r) w ws t in
      let own : ℕ → ℕ → ℕ = λ e k. cond (ltb e k) (own_by sizes (suc e) w) (own_by sizes 5 w) in
      let d = depth_of (rank_of ranks) 0 ws in
      ap (λ (k : ℕ). own (depth_of (rank_of known) 0 ws) k + before_by (rank_of known) sizes ws) (rank_same w s.0)
      ∙ ap (λ (e : ℕ). own e (rank_of ranks w) + before_by (rank_of known) sizes ws) (depth_same ws s.1)
      ∙ ap (λ (m : ℕ). m + before_by (rank_of known) sizes ws) (adds_same d w s.0)
      ∙ ap (λ (m : ℕ). cond (ltb d (rank_of ranks w)) (own_before E (suc d) w) (own_size E w) + m) (before_same ws s.1)
