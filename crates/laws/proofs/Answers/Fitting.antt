-- 16: "the update would leave ⊥ alone". 17: "the new N would be over 2^40". Both are tried for every update, but only a delete meets 16 and only an insert 17: a rename keeps the
-- tree's length, an insert makes it no shorter and a delete no longer, and a tree that is read is neither ⊥ alone nor over 2^40.
use Prim.Native.Nat.{ℕ, zero, suc, ◌+◌, ◌-◌, ◌≤◌, ◌<◌}
use native.Mathlib.Omega.{arith}
use mathlib.Core.Path.{◌≡◌, refl, ap, subst}
use mathlib.Core.Logic.{◌≢◌}
use mathlib.Core.Bool.{Bool, true, false, not}
use mathlib.Core.List.{List, [], ◌∷◌, ◌++◌, append_assoc}
use mathlib.Core.Option.{Option, some, some-injective}
use borrow.Author.Tests.{ltb-true, eqb-true}
use lib.Dec.{ltb, eqb}
use lib.ListN.{length, take}
use Rattle.model.specs.Bounds.{largest_size, least_work}
use Rattle.model.specs.Words.{is_tree_word, is_parameter}
use Rattle.model.specs.Trees.{Rule, expansions, tree_of, nodes}
use Rattle.model.specs.Refusals.{Refusal, EMPTY, NOTHING_LEFT, OUTGROWN, WORK, number_of}
use Rattle.model.specs.File.{rule_count, rule_in, after_record, write}
use Rattle.model.specs.Edits.{Edit, rename, insert, delete, Update, updated, added, took, took_as}
use Rattle.model.specs.Answers.{update_refusals, file_refusals, remade, update}
use Rattle.laws.specs.Orders.{Suits}
use Rattle.laws.specs.Conditions.{first_in, NoneHolds, First, Condition, at, huge_conditions, rules_conditions, file_rules, read_conditions}
use Rattle.laws.proofs.Answers.Conditions.{first_in_iff}
use Rattle.laws.proofs.Answers.Refusals.{read_taken_iff, update_exactly}
use Rattle.laws.proofs.File.Reading.{read_taken}
use Rattle.laws.proofs.Trees.Grammar.{Taken, formed_parts, tree_plain}
use Rattle.laws.proofs.Words.Classes.{explicit_closed}
use Rattle.laws.proofs.Words.Lists.{all_imp}
use Rattle.laws.proofs.Edits.Editing.{all_closed}
use Rattle.laws.proofs.Sizes.Gaps.{length_size}
use Rattle.laws.proofs.Edits.Edited.{updated_length}
use Rattle.laws.proofs.Answers.Returned.{suits}

-- no condition gives the refusal
abbrev Other : Refusal → List Condition → Type 0
Other x [] = Unit {0}
Other x (c ∷ cs) = (number_of c.1.0 ≢ number_of x) × Other x cs

-- so it is not the first there, and the first behind them only if none of them holds
other_first : (x : Refusal) (k : ℕ) (cs : List Condition) → Other x cs → First (x, k) cs → ⊥
other_first x k cs o f = go f.0 (subst (Other x) f.2 o)
  where
    go : (before : List Condition) → Other x (before ++ (true, (x, k)) ∷ f.1) → ⊥
    go [] p = p.0 refl
    go (c ∷ cs) p = go cs p.1

first_behind : (x : Refusal) (k : ℕ) (cs ds : List Condition) → Other x cs → First (x, k) (cs ++ ds) → NoneHolds cs × First (x, k) ds
first_behind x k [] ds o f = (tt, f)
first_behind x k (c ∷ cs) ds o f = go (first_behind x k cs ds o.1) c.0 refl ((first_in_iff (c ∷ (cs ++ ds)) (x, k)).1 f)
  where
    go : (First (x, k) (cs ++ ds) → NoneHolds cs × First (x, k) ds)
        → (b : Bool) → c.0 ≡ b → ◌≡◌ {A = Option (Refusal × ℕ)} (elim b [ true ↦ some c.1 | false ↦ first_in (cs ++ ds) ]) (some (x, k)) → NoneHolds (c ∷ cs) × First (x, k) ds
    go rest true h e = absurd (o.0 (ap (λ (y : Refusal × ℕ). number_of y.0) (some-injective c.1 (x, k) e)))
    go rest false h e = let r = rest ((first_in_iff (cs ++ ds) (x, k)).0 e) in ((h, r.0), r.1)

-- and where no condition behind one gives it, that one holds
first_holds : (x : Refusal) (k : ℕ) (c : Condition) (cs : List Condition) → Other x cs → First (x, k) (c ∷ cs) → c.0 ≡ true
first_holds x k c cs o f = go c.0 refl ((first_in_iff (c ∷ cs) (x, k)).1 f)
  where
    go : (b : Bool) → c.0 ≡ b → ◌≡◌ {A = Option (Refusal × ℕ)} (elim b [ true ↦ some c.1 | false ↦ first_in cs ]) (some (x, k)) → c.0 ≡ true
    go true h e = h
    go false h e = absurd (other_first x k cs o ((first_in_iff cs (x, k)).0 e))

-- the reader's refusals are 1 to 11
module _ (x : Refusal) (h : 11 < number_of x) where
  other_append : (cs ds : List Condition) → Other x cs → Other x ds → Other x (cs ++ ds)
  other_append [] ds o p = p
  other_append (c ∷ cs) ds o p = (o.0, other_append cs ds o.1 p)

  other_huge : (r : ℕ) (es : List (List ℕ)) → Other x (huge_conditions r es)
  other_huge r [] = tt
  other_huge r (e ∷ es) = (λ n. omega arith, other_huge (suc r) es)

  other_rules : (due : ℕ) (rules : List Rule) (bytes : List ℕ) → Other x (rules_conditions due rules bytes)
  other_rules zero rules bytes =
      (λ n. omega arith, other_append (huge_conditions 0 (expansions rules)) ((eqb (nodes rules) 1, (EMPTY, 0)) ∷ []) (other_huge 0 (expansions rules)) (λ n. omega arith, tt))
  other_rules (suc due) rules bytes = (
    λ n. omega arith,
    (λ n. omega arith, (λ n. omega arith, (λ n. omega arith, (λ n. omega arith, (λ n. omega arith, (λ n. omega arith, other_rules due (rules ++ rule_in bytes ∷ []) (after_record bytes))))))),
  )

  other_read : (file : List ℕ) → Other x (read_conditions file)
  unfolding read_conditions
  other_read file = (
    λ n. omega arith,
    (λ n. omega arith, (λ n. omega arith, (λ n. omega arith, (λ n. omega arith, (λ n. omega arith, other_rules (rule_count file) [] (after_record file)))))),
  )

-- a tree that is read has at most 2^40 nodes
nodes_small : (rules : List Rule) → Taken rules → nodes rules ≤ largest_size
nodes_small rules t =
    let f = t.is_formed in
    let tree = tree_of rules in
    let closed = all_closed tree (all_imp is_tree_word (λ w. not (is_parameter w)) explicit_closed tree (tree_plain rules f).words) in
    omega (arith, length_size tree, ap length closed, t.sizes (length rules - 1) (omega (arith, (formed_parts rules f).some)))

module _ (room work : ℕ) (file : List ℕ) (u : Update) where
  abbrev tree : List ℕ
  tree = tree_of (file_rules file)

  abbrev after : List Condition
  after = at 0 (file_refusals room (write (remade (file_rules file) u).rules))

  abbrev sized : List Condition
  sized = (eqb (length (updated u tree)) 1, (NOTHING_LEFT, 0)) ∷ (ltb largest_size (length (updated u tree)), (OUTGROWN, 0)) ∷ after

  -- before 16 and 17 are tried, the file is read and the update has its place in its tree
  record Tried (x : Refusal) : Type 0 where
    is_taken : Taken (file_rules file)
    length_is : length (updated u tree) + took tree u ≡ length tree + added u.edit
    there : u.at < length tree
    place : ℕ
    first : First (x, place) sized

  tried : (x : Refusal) → 15 < number_of x → number_of x < 20 → (update room work file u).answer.number ≡ number_of x → Tried x
  tried x low high n =
      let (k, f) = ((update_exactly room work file u).refused_iff x).0 n in
      let (w, g) =
      first_behind x k ((ltb work least_work, (WORK, 0)) ∷ read_conditions file) (at 0 (update_refusals tree u) ++ after) (λ e. omega arith, other_read x (omega arith) file)
      (subst (λ (cs : List Condition). First (x, k) ((ltb work least_work, (WORK, 0)) ∷ cs)) (append_assoc (read_conditions file) (at 0 (update_refusals tree u)) after) f) in
      let is_taken : Taken (file_rules file) = read_taken file (file_rules file) ((read_taken_iff file (file_rules file)).1 (w.1, refl)) in
      let (c, rest) = first_behind x k (take 4 (at 0 (update_refusals tree u))) sized (λ e. omega arith, (λ e. omega arith, (λ e. omega arith, (λ e. omega arith, tt)))) g in
      let s : Suits tree u = suits tree u c.0 c.1.0 c.1.1.0 c.1.1.1.0 in
      record {
        is_taken = is_taken;
        length_is = updated_length tree u (tree_plain (file_rules file) is_taken.is_formed) s;
        there = s.0;
        place = k;
        first = rest;
      }

  pub nothing_left_delete : (update room work file u).answer.number ≡ 16 → u.edit ≡ delete
  nothing_left_delete n =
      let t = tried NOTHING_LEFT (omega arith) (omega arith) n in
      let one = eqb-true (length (updated u tree)) 1
      (first_holds NOTHING_LEFT t.place _ _ (λ e. omega arith, (λ e. omega arith, (λ e. omega arith, tt))) t.first) in
      go u.edit refl one t.there t.is_taken.not_empty t.length_is
    where
      go : (e : Edit) → u.edit ≡ e → length (updated u tree) ≡ 1 → u.at < length tree → (length tree ≡ 1 → ⊥)
          → length (updated u tree) + took_as tree u.at e ≡ length tree + added e → u.edit ≡ delete
      go (rename l) is one there more same = absurd (more (omega arith))
      go (insert s) is one there more same = absurd (more (omega arith))
      go delete is one there more same = is

  pub outgrown_insert : (update room work file u).answer.number ≡ 17 → (s : List ℕ) × (u.edit ≡ insert s)
  outgrown_insert n =
      let t = tried OUTGROWN (omega arith) (omega arith) n in
      let rest = (first_behind OUTGROWN t.place ((eqb (length (updated u tree)) 1, (NOTHING_LEFT, 0)) ∷ []) _ (λ e. omega arith, tt) t.first).1 in
      let over = ltb-true largest_size (length (updated u tree)) (first_holds OUTGROWN t.place _ _ (λ e. omega arith, (λ e. omega arith, tt)) rest) in
      go u.edit refl over (nodes_small (file_rules file) t.is_taken) t.length_is
    where
      go : (e : Edit) → u.edit ≡ e → largest_size < length (updated u tree) → length tree ≤ largest_size
          → length (updated u tree) + took_as tree u.at e ≡ length tree + added e → (s : List ℕ) × (u.edit ≡ insert s)
      go (rename l) is over small same = absurd (omega arith)
      go (insert s) is over small same = (s, is)
      go delete is over small same = absurd (omega arith)
