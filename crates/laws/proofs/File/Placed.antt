-- A file's refusal is read with its own place: the record number where its number has one, and otherwise 0.
use Prim.Native.Nat.{ℕ, zero, suc}
use mathlib.Core.Path.{◌≡◌, refl, subst}
use mathlib.Core.Bool.{Bool, true, false, cond, ◌||◌}
use mathlib.Core.List.{List, [], ◌∷◌, ◌++◌}
use lib.Dec.{leb, eqb}
use Rattle.model.specs.Trees.{Rule, expansions, nodes}
use Rattle.model.specs.Refusals.{Refusal, refused, EMPTY, number_of, place_of}
use Rattle.model.specs.File.{rule_count, rule_in, after_record, head_refusals, read}
use Rattle.laws.specs.Conditions.{Condition, at, huge_conditions, rules_conditions, read_conditions}
use Rattle.laws.proofs.Answers.Refusals.{read_refused_iff}

-- each condition's record number is the place of its refusal
abbrev Placed : List Condition → Type 0
Placed [] = Unit {0}
Placed (c ∷ cs) = (place_of c.1.0 c.1.1 ≡ c.1.1) × Placed cs

placed_append : (cs ds : List Condition) → Placed cs → Placed ds → Placed (cs ++ ds)
placed_append [] ds p q = q
placed_append (c ∷ cs) ds p q = (p.0, placed_append cs ds p.1 q)

placed_none : (cs : List (Bool × Refusal)) → Placed (at 0 cs)
placed_none [] = tt
placed_none (c ∷ cs) = (go (leb (number_of c.1) 8 || eqb (number_of c.1) 10), placed_none cs)
  where
    go : (b : Bool) → ◌≡◌ {A = ℕ} (cond b 0 0) 0
    go true = refl
    go false = refl

placed_huge : (r : ℕ) (es : List (List ℕ)) → Placed (huge_conditions r es)
placed_huge r [] = tt
placed_huge r (e ∷ es) = (refl, placed_huge (suc r) es)

placed_rules : (due : ℕ) (rules : List Rule) (bytes : List ℕ) → Placed (rules_conditions due rules bytes)
placed_rules zero rules bytes =
    (refl, placed_append (huge_conditions 0 (expansions rules)) ((eqb (nodes rules) 1, (EMPTY, 0)) ∷ []) (placed_huge 0 (expansions rules)) (refl, tt))
placed_rules (suc due) rules bytes = (refl, (refl, (refl, (refl, (refl, (refl, (refl, placed_rules due (rules ++ rule_in bytes ∷ []) (after_record bytes))))))))

placed_read : (file : List ℕ) → Placed (read_conditions file)
unfolding read_conditions
placed_read file =
    (refl, placed_append (at 0 (head_refusals file)) (rules_conditions (rule_count file) [] (after_record file)) (placed_none (head_refusals file)) (placed_rules (rule_count file) [] (after_record file)))

pub read_placed : (file : List ℕ) (x : Refusal) (k : ℕ) → read file ≡ refused x k → place_of x k ≡ k
read_placed file x k e =
    let f = (read_refused_iff file x k).0 e in go f.0 f.1 (subst Placed f.2 (placed_read file))
  where
    go : (before after : List Condition) → Placed (before ++ (true, (x, k)) ∷ after) → place_of x k ≡ k
    go [] after p = p.0
    go (c ∷ cs) after p = go cs after p.1
