-- Where every rule but the start is called by a rule above it, no rule's size is over N: a call adds all of the called rule's nodes.
use Prim.Native.Nat.{ℕ, zero, suc, ◌+◌, ◌-◌, ◌≤◌, ◌<◌}
use mathlib.Core.Path.{◌≡◌, refl, ap, subst}
use mathlib.Core.Bool.{Bool, true, false}
use mathlib.Core.Logic.{◌⊎◌, inl, inr}
use mathlib.Core.List.Memᴰ
use mathlib.Core.List.{List, [], ◌∷◌, Memᴰ}
use native.Mathlib.Omega.{arith}
use borrow.Author.Tests.{ltb-true, ltb-false}
use lib.Dec.{T, ltb}
use lib.ListN.{length, get_or}
use Rattle.model.specs.Words.{call_word}
use Rattle.model.specs.Trees.{Rule, expansions, ranks_of, nodes, size}
use Rattle.model.specs.Dropping.{calls}
use Rattle.laws.specs.Formed.{formed, body_at}
use Rattle.laws.specs.Sums.{sum_of, own_size}
use Rattle.laws.proofs.Words.Classes.{call_word_lem, class_of_call}
use Rattle.laws.proofs.Trees.Grammar.{rule_of, formed_parts, formed_env, expansions_solve}
use Rattle.laws.proofs.Sizes.Gaps.{size_sum, length_size}
use Rattle.laws.proofs.Rounds.RoundFormed.{AllCalled}
use Rattle.laws.proofs.Words.Lists.{mem_get_or}
use Rattle.laws.proofs.Dropping.Kept.{calls_where}

-- words that call rule j hold its call
pub called_word : (j : ℕ) (ws : List ℕ) → T (calls j ws) → Memᴰ (call_word j) ws
called_word j ws t =
    let (i, there, c) = calls_where j ws t in
    subst (λ w. Memᴰ w ws) (call_word_lem (get_or ws i 0) j c).0 (mem_get_or ws i 0 there)

-- one of the things that are added up
sum_member : (f : ℕ → ℕ) (w : ℕ) (ws : List ℕ) → Memᴰ w ws → f w ≤ sum_of f ws
sum_member f w [] m = absurd (Memᴰ.not-nil m)
sum_member f w (v ∷ ws) m = go (Memᴰ.cases_cons m) (sum_member f w ws)
  where
    go : (w ≡ v) ⊎ Memᴰ w ws → (Memᴰ w ws → f w ≤ sum_of f ws) → f w ≤ sum_of f (v ∷ ws)
    go (inl e) below = omega (arith, ap f e)
    go (inr n) below = omega (arith, below n)

module _ (rules : List Rule) (f : T (formed rules)) where
  -- a rule is no larger than a rule that calls it
  caller_size : (j r : ℕ) → j < r → r < length rules → Memᴰ (call_word j) (body_at rules r) → size (get_or (expansions rules) j []) ≤ size (get_or (expansions rules) r [])
  caller_size j r h k m =
      let own : own_size (expansions rules) (call_word j) ≡ size (get_or (expansions rules) j []) =
      simp (class_of_call j (omega (arith, (formed_parts rules f).not_many))) in
      omega (
        arith,
        own,
        sum_member (own_size (expansions rules)) (call_word j) (body_at rules r) m,
        ap size ((expansions_solve rules f).1 r k),
        size_sum (ranks_of rules) (expansions rules) (formed_env rules f) (body_at rules r) (rule_of rules f r k).tree.0,
      )

  module _ (called : AllCalled rules) where
    -- and so no larger than the start, `left` rules or fewer above it
    start_size : (left j : ℕ) → j < length rules → length rules ≤ suc (j + left) → size (get_or (expansions rules) j []) ≤ size (get_or (expansions rules) (length rules - 1) [])
    start_size zero j h k = omega (arith, ap (λ n. size (get_or (expansions rules) n [])) (last j h k))
      where
        last : (i : ℕ) → i < length rules → length rules ≤ suc (i + 0) → i ≡ length rules - 1
        last i h k = omega arith
    start_size (suc left) j h k = go (ltb (suc j) (length rules)) refl (start_size left)
      where
        go : (b : Bool) → ltb (suc j) (length rules) ≡ b
            → ((r : ℕ) → r < length rules → length rules ≤ suc (r + left) → size (get_or (expansions rules) r []) ≤ size (get_or (expansions rules) (length rules - 1) []))
            → size (get_or (expansions rules) j []) ≤ size (get_or (expansions rules) (length rules - 1) [])
        go true e above_it =
            let (r, above, there, m) = called j (ltb-true (suc j) (length rules) e) in
            omega (arith, caller_size j r above there m, above_it r there (omega arith))
        go false e above_it =
            let e : j ≡ length rules - 1 = omega (arith, ltb-false (suc j) (length rules) e) in
            omega (arith, ap (λ n. size (get_or (expansions rules) n [])) e)

    pub called_size : (j : ℕ) → j < length rules → size (get_or (expansions rules) j []) ≤ nodes rules
    called_size j h = omega (arith, start_size (length rules) j h (omega arith), length_size (get_or (expansions rules) (length rules - 1) []))
