-- The rounds as a relation are the rounds as a function: the choice is a digram that no other beats, there is only one, and a chain that ends where the rounds end is theirs.
use Prim.Native.Nat.{ℕ, zero, suc, ◌+◌, ◌-◌, ◌≤◌}
use native.Mathlib.Omega.{arith}
use mathlib.Core.Path.{◌≡◌, refl, ap, subst}
use mathlib.Core.Logic.{inl, inr}
use mathlib.Core.List.{List, Memᴰ}
use mathlib.Core.Option.{Option, none, some}
use lib.Dec.{T}
use lib.ListN.{length}
use Rattle.model.specs.Bounds.{most_rules}
use Rattle.model.specs.Trees.{Rule, ranks_of}
use Rattle.model.specs.Rounds.{Digram, digrams, occurrences, eligible, Counted, better, choice, one_round, rounds_of, repacked}
use Rattle.laws.specs.Steps.{counted_in, Eligible, Unbeaten, Passes, start, round, Ended, Repacks}
use Rattle.laws.proofs.Rounds.Digrams.{digrams_stand}
use Rattle.laws.proofs.Rounds.Choice.{choice_is, choice_none, is_choice, eligible_there, counted_path}
use Rattle.laws.proofs.Rounds.Round.{round_rules}

-- what is eligible stands in a body, and what stands in a body and occurs often enough is eligible
eligible_stands : (rules : List Rule) (d : Digram) → Eligible rules d → Memᴰ d (digrams (ranks_of rules) rules)
eligible_stands rules d e = eligible_there rules d e.is.class_a e.is.class_b e.is.low e.often

stands_eligible : (rules : List Rule) (d : Digram) → Memᴰ d (digrams (ranks_of rules) rules) → T (eligible (ranks_of rules) d (occurrences (ranks_of rules) d rules)) → Eligible rules d
stands_eligible rules d m t = record { is = (digrams_stand (ranks_of rules) rules d m).2.is; often = t }

pub unbeaten_choice : (rules : List Rule) (d : Digram) → Unbeaten rules d → choice rules ≡ some (counted_in rules d)
unbeaten_choice rules d u =
    is_choice rules (some (counted_in rules d))
    (record {
      stands = eligible_stands rules d u.is_eligible;
      counts = refl;
      is_eligible = u.is_eligible.often;
      best = λ e m t b. u.no_better e (stands_eligible rules e m t) b;
    })

pub choice_unbeaten : (rules : List Rule) (x : Counted) → choice rules ≡ some x → Unbeaten rules x.digram
choice_unbeaten rules x e =
    let c = choice_is rules x e in
    record {
      is_eligible = stands_eligible rules x.digram c.stands (rw (← c.counts) c.is_eligible);
      no_better = λ d l b. c.best d (eligible_stands rules d l) l.often (subst (λ (y : Counted). T (better (counted_in rules d) y)) (counted_path rules x c.counts) b);
    }

nothing_none : (rules : List Rule) → ((d : Digram) → Eligible rules d → ⊥) → choice rules ≡ none
nothing_none rules h = is_choice rules none (λ d m t. h d (stands_eligible rules d m t))

none_nothing : (rules : List Rule) → choice rules ≡ none → (d : Digram) → Eligible rules d → ⊥
none_nothing rules e d l = choice_none rules e d (eligible_stands rules d l) l.often

-- the function's rounds are a chain that has ended
made_on : (left : ℕ) (rules : List Rule) → length rules + left ≡ most_rules → Repacks rules (rounds_of left rules).rounds (rounds_of left rules).rules
made_on zero rules h = record { chain = start; ended = inr (omega arith) }
made_on (suc left) rules h = go (choice rules) refl (λ next. made_on left next)
  where
    go : (o : Option Counted) → choice rules ≡ o
        → ((next : List Rule) → length next + left ≡ most_rules → Repacks next (rounds_of left next).rounds (rounds_of left next).rules)
        → Repacks rules (rounds_of (suc left) rules).rounds (rounds_of (suc left) rules).rules
    go none e below = rw (e, rounds_of) (record { chain = start; ended = inl (none_nothing rules e) })
    go (some x) e below =
        let next : List Rule = one_round x.digram rules in
        let r = below next (omega (arith, round_rules x.digram rules)) in
        rw (e, rounds_of) (record { chain = round {rules = rules} {d = x.digram} (omega arith) (choice_unbeaten rules x e) r.chain; ended = r.ended })

pub repacked_repacks : (rules : List Rule) → length rules ≤ most_rules → Repacks rules (repacked rules).rounds (repacked rules).rules
unfolding repacked
repacked_repacks rules h = made_on (most_rules - length rules) rules (omega arith)

-- and every chain that has ended is the function's
ended_on : {rules last : List Rule} {n : ℕ} → Passes rules n last → Ended last → (left : ℕ) → length rules + left ≡ most_rules
    → ((rounds_of left rules).rules ≡ last) × ((rounds_of left rules).rounds ≡ n)
ended_on start ended zero h = (refl, refl)
ended_on (start {rules}) (inl nothing) (suc left) h = rw (nothing_none rules nothing, rounds_of) (refl, refl)
ended_on (start {rules}) (inr full) (suc left) h = absurd (omega arith)
ended_on (round {rules} {n = n} {d} room u p) ended zero h = absurd (omega arith)
ended_on (round {rules} {n = n} {d} room u p) ended (suc left) h =
    let r = ended_on p ended left (omega (arith, round_rules d rules)) in
    rw (unbeaten_choice rules d u, rounds_of) (r.0, ap suc r.1)

pub repacks_repacked : (rules : List Rule) (n : ℕ) (last : List Rule) → length rules ≤ most_rules → Repacks rules n last → ((repacked rules).rules ≡ last) × ((repacked rules).rounds ≡ n)
unfolding repacked
repacks_repacked rules n last h r = ended_on r.chain r.ended (most_rules - length rules) (omega arith)
