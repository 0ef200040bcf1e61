-- The rounds make a grammar of a grammar; they end where nothing is eligible or no rule can be added, and the file gets no longer.
use Prim.Native.Nat.{ℕ, zero, suc, ◌+◌, ◌-◌, ◌*◌, ◌≤◌, ◌<◌}
use native.Mathlib.Omega.{arith}
use mathlib.Core.Path.{◌≡◌, refl}
use mathlib.Core.Logic.{◌⊎◌, inl, inr}
use mathlib.Core.List.{List}
use mathlib.Core.Option.{Option, none, some}
use lib.Dec.{T, leb, ltb, ltb→lt}
use lib.ListN.{length}
use mir.Facts.{and_yes}
use Rattle.model.specs.Bounds.{most_rules}
use Rattle.model.specs.Trees.{Rule, ranks_of}
use Rattle.model.specs.File.{write}
use Rattle.model.specs.Rounds.{digram_rank, occurrences, eligible, Counted, choice, one_round, Repacked, rounds_of, repacked}
use Rattle.laws.specs.Formed.{formed}
use Rattle.laws.proofs.Trees.Grammar.{formed_parts}
use Rattle.laws.proofs.Rounds.Choice.{choice_is}
use Rattle.laws.proofs.Rounds.Round.{eligible_shorter, round_rules}
use Rattle.laws.proofs.Rounds.RoundFormed.{Chosen, choice_chosen, AllCalled, round_formed, round_called}

-- The chosen digram's round.
module _ (rules : List Rule) (x : Counted) (f : T (formed rules)) (e : choice rules ≡ some x) where
  choice_eligible : T (eligible (ranks_of rules) x.digram (occurrences (ranks_of rules) x.digram rules))
  choice_eligible = rw (← (choice_is rules x e).counts) (choice_is rules x e).is_eligible

  pub choice_formed : length rules < most_rules → T (formed (one_round x.digram rules))
  choice_formed room = round_formed x.digram rules f (choice_chosen rules x e) room

  pub choice_shorter : length (write (one_round x.digram rules)) + 2 ≤ length (write rules)
  choice_shorter =
      let c : Chosen rules x.digram = choice_chosen rules x e in
      eligible_shorter x.digram rules f c.stands.is.low c.stands.is.high choice_eligible

  pub choice_called : length rules < most_rules → AllCalled rules → AllCalled (one_round x.digram rules)
  choice_called room =
      let k : ℕ = digram_rank (ranks_of rules) x.digram in
      let o : ℕ = occurrences (ranks_of rules) x.digram rules in
      round_called x.digram rules f (choice_chosen rules x e) room (omega (arith, ltb→lt (6 + k) o (and_yes (leb k 4) (ltb (6 + k) o) choice_eligible).1))

-- What every round keeps, the rounds keep.
module _ (P : List Rule → Type 0)
    (step : (rules : List Rule) (x : Counted) → T (formed rules) → choice rules ≡ some x → length rules < most_rules → P rules → P (one_round x.digram rules)) where
  keeps_on : (left : ℕ) (rules : List Rule) → T (formed rules) → length rules + left ≤ most_rules → P rules → P (rounds_of left rules).rules
  keeps_on zero rules f h p = p
  keeps_on (suc left) rules f h p = go (choice rules) refl (λ next. keeps_on left next)
    where
      go : (o : Option Counted) → choice rules ≡ o
          → ((next : List Rule) → T (formed next) → length next + left ≤ most_rules → P next → P (rounds_of left next).rules)
          → P (rounds_of (suc left) rules).rules
      go none e below = rw (e, rounds_of) p
      go (some x) e below =
          rw (e, rounds_of)
          (below (one_round x.digram rules) (choice_formed rules x f e (omega arith)) (omega (arith, round_rules x.digram rules)) (step rules x f e (omega arith) p))

  pub rounds_keep : (rules : List Rule) → T (formed rules) → P rules → P (repacked rules).rules
  unfolding repacked
  rounds_keep rules f p = keeps_on (most_rules - length rules) rules f (omega (arith, (formed_parts rules f).not_many)) p

-- What the rounds come to where `left` rules may be added.
record Rounded (left : ℕ) (rules : List Rule) (p : Repacked) : Type 0 where
  pub is_formed : T (formed p.rules)
  pub ends : (choice p.rules ≡ none) ⊎ (length p.rules ≡ length rules + left)
  pub counts : length rules + p.rounds ≡ length p.rules
  pub shorter : length (write p.rules) + 2 * p.rounds ≤ length (write rules)

ends_on : (rules : List Rule) (m n left : ℕ) → n ≡ suc m → (choice rules ≡ none) ⊎ (length rules ≡ n + left) → (choice rules ≡ none) ⊎ (length rules ≡ m + suc left)
ends_on rules m n left e (inl c) = inl c
ends_on rules m n left e (inr l) = inr (omega arith)

rounded : (left : ℕ) (rules : List Rule) → T (formed rules) → length rules + left ≤ most_rules → Rounded left rules (rounds_of left rules)
rounded zero rules f h = record { is_formed = f; ends = inr (omega arith); counts = omega arith; shorter = omega arith }
rounded (suc left) rules f h = go (choice rules) refl (λ next. rounded left next)
  where
    go : (o : Option Counted) → choice rules ≡ o
        → ((next : List Rule) → T (formed next) → length next + left ≤ most_rules → Rounded left next (rounds_of left next))
        → Rounded (suc left) rules (rounds_of (suc left) rules)
    go none e below = rw (e, rounds_of) (record { is_formed = f; ends = inl e; counts = omega arith; shorter = omega arith })
    go (some x) e below =
        let next : List Rule = one_round x.digram rules in
        let n : length next ≡ suc (length rules) = round_rules x.digram rules in
        let r : Rounded left next (rounds_of left next) = below next (choice_formed rules x f e (omega arith)) (omega arith) in
        rw (e, rounds_of)
        (record {
          is_formed = r.is_formed;
          ends = ends_on (rounds_of left next).rules (length rules) (length next) left n r.ends;
          counts = omega (arith, r.counts);
          shorter = omega (arith, r.shorter, choice_shorter rules x f e);
        })

rounded_all : (rules : List Rule) → T (formed rules) → Rounded (most_rules - length rules) rules (repacked rules)
unfolding repacked
rounded_all rules f = rounded (most_rules - length rules) rules f (omega (arith, (formed_parts rules f).not_many))

pub rounds_formed : (rules : List Rule) → T (formed rules) → T (formed (repacked rules).rules)
rounds_formed rules f = (rounded_all rules f).is_formed

-- "Rounds end when nothing is eligible or n is 256."
pub rounds_end : (rules : List Rule) → T (formed rules) → (choice (repacked rules).rules ≡ none) ⊎ (length (repacked rules).rules ≡ most_rules)
rounds_end rules f = go (rounded_all rules f).ends
  where
    go : (choice (repacked rules).rules ≡ none) ⊎ (length (repacked rules).rules ≡ length rules + (most_rules - length rules))
        → (choice (repacked rules).rules ≡ none) ⊎ (length (repacked rules).rules ≡ most_rules)
    go (inl e) = inl e
    go (inr e) = inr (omega (arith, e, (formed_parts rules f).not_many))

-- each round adds a rule
pub rounds_count : (rules : List Rule) → T (formed rules) → length rules + (repacked rules).rounds ≡ length (repacked rules).rules
rounds_count rules f = (rounded_all rules f).counts

-- and saves two bytes at least
pub rounds_shorter : (rules : List Rule) → T (formed rules) → length (write (repacked rules).rules) + 2 * (repacked rules).rounds ≤ length (write rules)
rounds_shorter rules f = (rounded_all rules f).shorter

pub rounds_called : (rules : List Rule) → T (formed rules) → AllCalled rules → AllCalled (repacked rules).rules
rounds_called = rounds_keep AllCalled choice_called
