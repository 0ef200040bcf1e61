-- The rule table as a list of ranks.
use Prim.Native.Nat.{ℕ, zero, suc, ◌≤◌, ◌<◌}
use mathlib.Core.Path.{◌≡◌, refl, ap}
use mathlib.Core.List.{List, [], ◌∷◌}
use native.Mathlib.Omega.{arith}
use lib.ListN.{length, take, get_or, get_or-eq_default}
use Rattle.grammar.specs.declared.rules.Entry.{Entry}
use Rattle.grammar.specs.Meaning.{ranks_in}

pub length_ranks : (rules : List Entry) → length (ranks_in rules) ≡ length rules
length_ranks [] = refl
length_ranks (e ∷ es) = ap suc (length_ranks es)

pub rank_in : (rules : List Entry) (j : ℕ) (d : Entry) → j < length rules → get_or (ranks_in rules) j 0 ≡ (get_or rules j d).rank
rank_in [] j d h = absurd (omega arith)
rank_in (e ∷ es) zero d h = refl
rank_in (e ∷ es) (suc j) d h = rank_in es j d (omega arith)

pub rank_past : (rules : List Entry) (j : ℕ) → length rules ≤ j → get_or (ranks_in rules) j 0 ≡ 0
rank_past rules j h = get_or-eq_default (ranks_in rules) 0 (omega (arith, length_ranks rules))

pub ranks_take : (r : ℕ) (rules : List Entry) → ranks_in (take r rules) ≡ take r (ranks_in rules)
ranks_take zero rules = refl
ranks_take (suc r) [] = refl
ranks_take (suc r) (e ∷ es) = ap (λ (l : List ℕ). e.rank ∷ l) (ranks_take r es)
