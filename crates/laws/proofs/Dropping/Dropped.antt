-- Dropping the rules that the start does not reach: the rest is a grammar with the same tree, in which every rule but the start is called.
use Prim.Native.Nat.{ℕ, suc, ◌+◌, ◌-◌, ◌≤◌, ◌<◌}
use mathlib.Core.Path.{◌≡◌, sym, ◌∙◌, ap}
use mathlib.Core.Bool.{Bool, true, false}
use mathlib.Core.List.{List, [], ◌∷◌, map}
use native.Mathlib.Nat.{zero-add}
use native.Mathlib.Omega.{arith}
use lib.Dec.{T}
use lib.ListN.{length, drop, get_or, length-map, length-drop}
use lib.Seq.{get_or-drop}
use Rattle.model.specs.Words.{renumbered}
use Rattle.model.specs.Trees.{Rule, is_legal, expand, expansions, ranks_of, tree_of, join}
use Rattle.model.specs.Dropping.{calls, is_called, kept_from, how_many, kept_below, keep, dropped}
use Rattle.laws.specs.Work.{body_words}
use Rattle.laws.specs.Formed.{formed, start_rank, Solves, body_at}
use Rattle.laws.proofs.Trees.Legal.{legal_call}
use Rattle.laws.proofs.Trees.Renumbered.{Calls, those_renumbered, tree_renumbered, legal_renumbered, alone_renumbered, stack_renumbered}
use Rattle.laws.proofs.Trees.Grammar.{RuleOf, rule_of, of_rules, formed_parts, expansions_solve, solution_unique, length_ranks, start_rank_last}
use Rattle.laws.proofs.Words.Lists.{all_at}
use Rattle.laws.proofs.Words.Tests.{true_T, T_true}
use Rattle.laws.proofs.Dropping.Kept.{marked, length_marked, marked_at, marked_from, below_less, below_suc, below_le, below_all, many_le, below_many, keep_ranks, keep_bodies, length_kept, last_kept, kept_at, calls_there, called_there, called_where, body_drop, calls_renumbered}

-- The marks of a grammar, the numbers that they give, and what is then where.
module _ (rules : List Rule) (f : T (formed rules)) where
  abbrev marks : List Bool
  marks = kept_from 0 rules

  abbrev number : ℕ → ℕ
  number = kept_below marks

  marks_length : length marks ≡ length rules
  marks_length = length_kept 0 rules

  mark_at : (j : ℕ) → suc j < length rules → get_or marks j false ≡ is_called j (drop (suc j) marks) (drop (suc j) rules)
  mark_at j h = kept_at 0 rules j h ∙ ap (λ (i : ℕ). is_called i (drop (suc j) marks) (drop (suc j) rules)) (zero-add j)

  -- what a kept rule calls is below it and kept
  called_kept : (j : ℕ) → j < length rules → get_or marks j false ≡ true → Calls (λ i. (i < j) × (get_or marks i false ≡ true)) (body_at rules j)
  called_kept j h e = λ p i l c.
      let below : i < j = legal_call j (get_or (body_at rules j) p 0) i c (all_at (is_legal j) (body_at rules j) (rule_of rules f j h).legal p l) in
      let m = j - suc i in
      let at : suc i + m ≡ j = omega arith in
      let body : body_at (drop (suc i) rules) m ≡ body_at rules j = body_drop rules (suc i) m ∙ ap (body_at rules) at in
      let there =
      called_there i (drop (suc i) marks) (drop (suc i) rules) m (simp length-drop (omega arith))
      (get_or-drop (suc i) marks m false ∙ ap (λ (n : ℕ). get_or marks n false) at ∙ e)
      (rw body (calls_there i (body_at rules j) p l c)) in
      (below, mark_at i (omega arith) ∙ T_true (is_called i (drop (suc i) marks) (drop (suc i) rules)) there)

  dropped_ranks : ranks_of (dropped rules) ≡ marked marks (ranks_of rules)
  unfolding dropped
  dropped_ranks = keep_ranks marks marks rules

  dropped_length : length (dropped rules) ≡ how_many marks
  dropped_length = sym (length_ranks (dropped rules)) ∙ ap length dropped_ranks ∙ length_marked marks (ranks_of rules) (marks_length ∙ sym (length_ranks rules))

  -- a kept rule keeps its rank and its body, with its calls given new numbers
  pub kept_rank : (j : ℕ) → get_or marks j false ≡ true → get_or (ranks_of (dropped rules)) (number j) 0 ≡ get_or (ranks_of rules) j 0
  kept_rank j e = ap (λ l. get_or l (number j) 0) dropped_ranks ∙ marked_at marks (ranks_of rules) j 0 (marks_length ∙ sym (length_ranks rules)) e

  pub kept_body : (j : ℕ) → get_or marks j false ≡ true → body_at (dropped rules) (number j) ≡ map (renumbered number) (body_at rules j)
  unfolding dropped
  kept_body j e = keep_bodies marks marks rules j e marks_length

  -- every rule of the result is a kept one
  pub kept_from_lem : (i : ℕ) → i < length (dropped rules) → (j : ℕ) × (j < length rules) × (get_or marks j false ≡ true) × (number j ≡ i)
  kept_from_lem i h =
      let r = marked_from marks i (omega (arith, dropped_length)) in
      (r.0, omega (arith, r.1, marks_length), r.2, r.3)

  number_small : (j : ℕ) → j < length rules → number j < 256
  number_small j h = omega (arith, below_le marks j, (formed_parts rules f).not_many)

  called_moved : (j : ℕ) → j < length rules → get_or marks j false ≡ true
      → Calls (λ i. (number i < 256) × (get_or (ranks_of (dropped rules)) (number i) 0 ≡ get_or (ranks_of rules) i 0)) (body_at rules j)
  called_moved j h e = λ p i l c. let k = called_kept j h e p i l c in (number_small i (omega (arith, k.0)), kept_rank i k.1)

  kept_rule : (j : ℕ) → j < length rules → get_or marks j false ≡ true → RuleOf (dropped rules) (number j)
  kept_rule j h e =
      let r = rule_of rules f j h in
      let small : Calls (λ i. number i < 256) (body_at rules j) = λ p i l c. number_small i (omega (arith, (called_kept j h e p i l c).0)) in
      record {
        rank_small = rw (kept_rank j e) r.rank_small;
        legal =
            rw (kept_body j e)
            (legal_renumbered number j (number j) (body_at rules j)
            (λ p i l c. let k = called_kept j h e p i l c in (small p i l c, below_less marks i j k.0 k.1)) r.legal);
        tree = rw (kept_body j e) (tree_renumbered number (ranks_of rules) (ranks_of (dropped rules)) (body_at rules j) (called_moved j h e) r.tree);
        in_order = rw (kept_body j e, kept_rank j e) (those_renumbered number (body_at rules j) small ∙ r.in_order);
        not_alone = rw (kept_body j e) (alone_renumbered number (body_at rules j) small r.not_alone);
      }

  last : ℕ
  last = length rules - 1

  last_marked : get_or marks last false ≡ true
  unfolding last
  last_marked = last_kept 0 rules (formed_parts rules f).some

  -- the start stays the start
  last_number : number last ≡ length (dropped rules) - 1
  unfolding last
  last_number =
      let p = formed_parts rules f in
      let n : suc last ≡ length marks = omega (arith, marks_length, p.some) in
      let m : how_many marks ≡ suc (number last) = sym (below_all marks) ∙ ap number (sym n) ∙ below_suc marks last last_marked in
      omega (arith, dropped_length)

  pub dropped_formed : T (formed (dropped rules))
  unfolding last
  dropped_formed =
      let p = formed_parts rules f in
      let some : 1 ≤ length (dropped rules) = omega (arith, dropped_length, below_many marks last last_marked) in
      let start : start_rank (dropped rules) ≡ 0
      = start_rank_last (dropped rules) some ∙ ap (λ (i : ℕ). get_or (ranks_of (dropped rules)) i 0) (sym last_number) ∙ kept_rank last last_marked
      ∙ sym (start_rank_last rules p.some) ∙ p.start_rank_lem in
      of_rules (dropped rules) some (omega (arith, dropped_length, many_le marks, marks_length, p.not_many)) start
      (λ i h. let k = kept_from_lem i h in rw k.3 at (kept_rule k.0 k.1 k.2))

  -- the kept rules' expansions
  expansions_kept : List (List ℕ)
  expansions_kept = marked marks (expansions rules)

  kept_expansion : (j : ℕ) → get_or marks j false ≡ true → get_or expansions_kept (number j) [] ≡ get_or (expansions rules) j []
  unfolding expansions_kept
  kept_expansion j e = marked_at marks (expansions rules) j [] (marks_length ∙ sym (expansions_solve rules f).0) e

  expansions_kept_solve : Solves (dropped rules) expansions_kept
  unfolding expansions_kept
  expansions_kept_solve = (
    length_marked marks (expansions rules) (marks_length ∙ sym (expansions_solve rules f).0) ∙ sym dropped_length,
    λ i h. let k = kept_from_lem i h in rw k.3 at (solved k.0 k.1 k.2),
  )
    where
      solved : (j : ℕ) → j < length rules → get_or marks j false ≡ true
          → get_or (marked marks (expansions rules)) (number j) [] ≡ expand (ranks_of (dropped rules)) (marked marks (expansions rules)) (body_at (dropped rules) (number j))
      solved j h e =
          kept_expansion j e
          ∙ (expansions_solve rules f).1 j h
          ∙ ap join (sym (stack_renumbered number (ranks_of rules) (ranks_of (dropped rules)) (expansions rules) (marked marks (expansions rules)) (body_at rules j) []
          (λ p i l c. let k = called_kept j h e p i l c in ((called_moved j h e p i l c).0, (called_moved j h e p i l c).1, kept_expansion i k.1))))
          ∙ ap (expand (ranks_of (dropped rules)) (marked marks (expansions rules))) (sym (kept_body j e))

  pub dropped_expansions : expansions (dropped rules) ≡ marked marks (expansions rules)
  unfolding expansions_kept
  dropped_expansions = sym (solution_unique (dropped rules) dropped_formed expansions_kept expansions_kept_solve)

  pub dropped_keeps_tree : tree_of (dropped rules) ≡ tree_of rules
  unfolding last expansions_kept
  dropped_keeps_tree =
      ap (λ (E : List (List ℕ)). get_or E (length (dropped rules) - 1) []) dropped_expansions
      ∙ ap (λ (i : ℕ). get_or (marked marks (expansions rules)) i []) (sym last_number)
      ∙ kept_expansion last last_marked

  -- a kept rule that is not the start is called by a kept rule above it
  kept_called : (j : ℕ) → suc j < length rules → get_or marks j false ≡ true → (m : ℕ) × (j < m) × (m < length rules) × (get_or marks m false ≡ true) × T (calls j (body_at rules m))
  kept_called j h e =
      let c = called_where j (drop (suc j) marks) (drop (suc j) rules) (true_T (is_called j (drop (suc j) marks) (drop (suc j) rules)) (sym (mark_at j h) ∙ e)) in
      let l : length (drop (suc j) rules) ≡ length rules - suc j = length-drop (suc j) rules in (
        suc j + c.0,
        omega arith,
        omega (arith, c.1),
        sym (get_or-drop (suc j) marks c.0 false) ∙ c.2,
        rw (body_drop rules (suc j) c.0) at c.3,
      )

  kept_called_in : (j : ℕ) → suc j < length rules → get_or marks j false ≡ true
      → (m : ℕ) × (number j < m) × (m < length (dropped rules)) × T (calls (number j) (body_at (dropped rules) m))
  kept_called_in j h e =
      let c = kept_called j h e in (
        number c.0,
        below_less marks j c.0 c.1 e,
        omega (arith, dropped_length, below_many marks c.0 c.3),
        rw (kept_body c.0 c.3) (calls_renumbered number j (body_at rules c.0) (number_small j (omega arith)) c.4),
      )

  -- in the result every rule but the start is called by a rule above it
  pub dropped_called : (i : ℕ) → suc i < length (dropped rules)
      → (m : ℕ) × (i < m) × (m < length (dropped rules)) × T (calls i (body_at (dropped rules) m))
  unfolding last
  dropped_called i h =
      let k = kept_from_lem i (omega arith) in
      let up : suc k.0 < length rules = not_last k.0 k.1 (λ x. omega (arith, k.3, last_number, ap number x)) in
      rw k.3 at (kept_called_in k.0 up k.2)
    where
      not_last : (j : ℕ) → j < length rules → (j ≡ length rules - 1 → ⊥) → suc j < length rules
      not_last j a b = omega arith

-- and its bodies have no more words
keep_words : (kept ks : List Bool) (rs : List Rule) → body_words (keep kept ks rs) ≤ body_words rs
keep_words kept [] rs = omega arith
keep_words kept (k ∷ ks) [] = omega arith
keep_words kept (true ∷ ks) (r ∷ rs) = omega (arith, keep_words kept ks rs, length-map r.body (renumbered (kept_below kept)))
keep_words kept (false ∷ ks) (r ∷ rs) = omega (arith, keep_words kept ks rs)

pub dropped_words : (rules : List Rule) → body_words (dropped rules) ≤ body_words rules
unfolding dropped
dropped_words rules = keep_words (kept_from 0 rules) (kept_from 0 rules) rules
