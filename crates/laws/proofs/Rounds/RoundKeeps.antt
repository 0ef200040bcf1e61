-- The rounds keep the tree of a grammar.
use Prim.Native.Nat.{ℕ, suc, ◌-◌, ◌≤◌, ◌<◌}
use mathlib.Core.Path.{◌≡◌, refl, sym, ap, ◌∙◌, subst}
use mathlib.Core.Logic.{◌⊎◌, inl, inr}
use mathlib.Core.List.{List, [], ◌∷◌, ◌++◌}
use native.Mathlib.Omega.{arith}
use lib.Dec.{T}
use lib.ListN.{length, take, drop, get_or}
use Rattle.model.specs.Bounds.{most_rules}
use Rattle.model.specs.Trees.{Rule, is_legal, expand, expansions, ranks_of, tree_of}
use Rattle.model.specs.Rounds.{Digram, new_number, new_rule, one_round, repacked, up}
use Rattle.laws.specs.Formed.{formed, Solves, body_at}
use Rattle.laws.proofs.Trees.Legal.{legal_call, expand_agree}
use Rattle.laws.proofs.Trees.Grammar.{RuleOf, rule_of, expansions_solve, solution_unique}
use Rattle.laws.proofs.Trees.Renumbered.{Calls}
use Rattle.laws.proofs.Rounds.Replacing.{HasNew, Kept, replaced_expands}
use Rattle.laws.proofs.Rounds.Round.{up_from, up_below, from_where, up_under, up_within, round_rules, rank_new, rank_up, body_new, body_up, length_around, around_here, around_up}
use Rattle.laws.proofs.Rounds.RoundFormed.{Chosen, choice_chosen, round_formed, number_there, new_legal}
use Rattle.laws.proofs.Rounds.Rounding.{rounds_keep}
use Rattle.laws.proofs.Words.Lists.{all_at}

module _ (d : Digram) (rules : List Rule) (f : T (formed rules)) (c : Chosen rules d) (room : length rules < most_rules) where
  fits : new_number d ≤ length rules
  fits = omega (arith, number_there d rules f c room)

  -- the expansions with the new rule's in its place
  next_expansions : List (List ℕ)
  next_expansions = take (new_number d) (expansions rules) ++ expand (ranks_of rules) (expansions rules) (new_rule (ranks_of rules) d).body ∷ drop (new_number d) (expansions rules)

  length_expansions : length (expansions rules) ≡ length rules
  length_expansions = (expansions_solve rules f).0

  next_new : get_or next_expansions (new_number d) [] ≡ expand (ranks_of rules) (expansions rules) (new_rule (ranks_of rules) d).body
  unfolding next_expansions
  next_new = around_here [] (new_number d) (expand (ranks_of rules) (expansions rules) (new_rule (ranks_of rules) d).body) (expansions rules) (omega (arith, fits, length_expansions))

  next_up : (j : ℕ) → get_or next_expansions (up (new_number d) j) [] ≡ get_or (expansions rules) j []
  unfolding next_expansions
  next_up j = around_up [] (new_number d) (expand (ranks_of rules) (expansions rules) (new_rule (ranks_of rules) d).body) (expansions rules) (omega (arith, fits, length_expansions)) j

  has_new : HasNew (ranks_of rules) (ranks_of (one_round d rules)) (expansions rules) next_expansions d (new_number d)
  has_new = record { room = omega (arith, fits); rank_there = rank_new d rules fits; rule_there = next_new }

  kept : (r : ℕ) → r < length rules → Calls (Kept (ranks_of rules) (ranks_of (one_round d rules)) (expansions rules) next_expansions (new_number d)) (body_at rules r)
  kept r h i j k e =
      let under : j < r = legal_call r (get_or (body_at rules r) i 0) j e (all_at (is_legal r) (body_at rules r) (rule_of rules f r h).legal i k) in
      (omega (arith, up_within (new_number d) r j under), rank_up d rules fits j, next_up j)

  length_next : length next_expansions ≡ length (one_round d rules)
  unfolding next_expansions
  length_next =
      length_around (new_number d) (expand (ranks_of rules) (expansions rules) (new_rule (ranks_of rules) d).body) (expansions rules)
      ∙ ap suc length_expansions ∙ sym (round_rules d rules)

  solves_moved : (i : ℕ) → i < length rules
      → get_or next_expansions (up (new_number d) i) [] ≡ expand (ranks_of (one_round d rules)) next_expansions (body_at (one_round d rules) (up (new_number d) i))
  solves_moved i h =
      let r : RuleOf rules i = rule_of rules f i h in
      next_up i ∙ (expansions_solve rules f).1 i h
      ∙ sym (replaced_expands (ranks_of rules) (ranks_of (one_round d rules)) (expansions rules) next_expansions d c.stands.is c.small (new_number d) has_new (body_at rules i) r.tree
      (kept i h))
      ∙ ap (expand (ranks_of (one_round d rules)) next_expansions) (sym (body_up d rules fits i))

  -- the new rule calls rules below it, which stay where they are
  solves_new : get_or next_expansions (new_number d) [] ≡ expand (ranks_of (one_round d rules)) next_expansions (body_at (one_round d rules) (new_number d))
  solves_new =
      let m : ℕ = new_number d in
      let body : body_at (one_round d rules) m ≡ (new_rule (ranks_of rules) d).body = body_new d rules fits in
      next_new
      ∙ expand_agree m (ranks_of rules) (ranks_of (one_round d rules))
      (λ j h. sym (rank_up d rules fits j) ∙ ap (λ x. get_or (ranks_of (one_round d rules)) x 0) (up_below m j h))
      (expansions rules) next_expansions
      (λ j h. sym (next_up j) ∙ ap (λ x. get_or next_expansions x []) (up_below m j h))
      (new_rule (ranks_of rules) d).body (new_legal d rules f c room)
      ∙ ap (expand (ranks_of (one_round d rules)) next_expansions) (sym body)

  next_solves : Solves (one_round d rules) next_expansions
  next_solves = (length_next, λ j h. go j h (from_where (new_number d) j))
    where
      Solved : ℕ → Type 0
      Solved j = get_or next_expansions j [] ≡ expand (ranks_of (one_round d rules)) next_expansions (body_at (one_round d rules) j)

      go : (j : ℕ) → j < length (one_round d rules) → (j ≡ new_number d) ⊎ ((i : ℕ) × (j ≡ up (new_number d) i)) → Solved j
      go j h (inl e) = subst Solved (sym e) solves_new
      go j h (inr x) = subst Solved (sym x.1) (solves_moved x.0 (up_under (new_number d) (length rules) x.0 fits (omega (arith, round_rules d rules, x.1))))

  pub round_keeps_tree : tree_of (one_round d rules) ≡ tree_of rules
  round_keeps_tree =
      let last : length (one_round d rules) - 1 ≡ up (new_number d) (length rules - 1)
      = omega (
        arith,
        round_rules d rules,
        number_there d rules f c room,
        up_from (new_number d) (length rules - 1) (omega (arith, number_there d rules f c room)),
      )
      in
      ap (λ l. get_or l (length (one_round d rules) - 1) []) (sym (solution_unique (one_round d rules) (round_formed d rules f c room) next_expansions next_solves))
      ∙ ap (λ j. get_or next_expansions j []) last
      ∙ next_up (length rules - 1)

pub rounds_keep_tree : (rules : List Rule) → T (formed rules) → tree_of (repacked rules).rules ≡ tree_of rules
rounds_keep_tree rules f =
    rounds_keep (λ next. tree_of next ≡ tree_of rules) (λ next x g e room same. round_keeps_tree x.digram next g (choice_chosen next x e) room ∙ same) rules f refl
