-- What the two tables of a file that was read say of one of its rules, and of its gaps.
use Prim.Native.Nat.{ℕ, zero, suc, ◌+◌, ◌*◌, ◌/◌, ◌≤◌, ◌<◌, ◌^◌}
use native.Mathlib.Omega.{arith}
use mathlib.Core.Path.{◌≡◌, refl, sym, ap, ◌∙◌, subst}
use mathlib.Core.Bool.{Bool, true, false}
use mathlib.Core.List.{List, [], ◌∷◌, map}
use lib.Dec.{T, ltb}
use lib.ListN.{length, take, drop, get_or, get_or-eq_default}
use borrow.Author.Tests.{ltb-true, ltb-false}
use Rattle.model.specs.Words.{rank_of, is_parameter}
use Rattle.model.specs.Trees.{Rule, size, all, those, is_legal, expansions, ranks_of, fold, join}
use Rattle.laws.specs.Formed.{formed, Fits, Tree, body_at, height}
use Rattle.laws.specs.Sums.{sum_of}
use Rattle.laws.proofs.Trees.Fills.{length_parameters_from}
use Rattle.laws.proofs.Trees.Grown.{grown_word}
use Rattle.laws.proofs.Trees.Grammar.{rule_of, formed_env, expansions_solve, expansion_tree}
use Rattle.grammar.specs.declared.rules.Entry.{Entry}
use Rattle.grammar.specs.Meaning.{entries, Bodies, place_after, padded, ranks_in, no_rule}
use Rattle.model.specs.File.{words_in}
use Rattle.grammar.specs.Measures.{gap_rows, Denotes}
use Rattle.model.specs.Refusals.{taken}
use Rattle.grammar.proofs.Denoted as denoted
use Rattle.queries.specs.Pieces.{stopped, unstopped, up_to, past_all, over}
use Rattle.queries.specs.Building.{rules_taken, rules_of, gaps_of}
use Rattle.queries.proofs.Stops.{gap_at, gap_size, gap_none, gap_plain}
use Rattle.queries.proofs.Woven.{expand_over}

-- where the next rule's body stands
entries_next : (place : ℕ) (rules : List Rule) (r : ℕ) → suc r < length rules
    → (get_or (entries place rules) (suc r) no_rule).place ≡ (get_or (entries place rules) r no_rule).place + 2 * (get_or (entries place rules) r no_rule).words + 8
entries_next place [] r h = absurd (omega arith)
entries_next place (x ∷ []) r h = absurd (omega arith)
entries_next place (x ∷ y ∷ rs) zero h = refl
entries_next place (x ∷ y ∷ rs) (suc r) h = entries_next (place + 2 * length x.body + 8) (y ∷ rs) r (omega arith)

-- a word of a tree and what it adds: twice the words, less the trees
pub sum_ranks : (rk : ℕ → ℕ) (ws : List ℕ) → Fits rk 0 ws → sum_of (λ w. suc (rk w)) ws + height rk 0 ws ≡ 2 * length ws
sum_ranks rk [] f = refl
sum_ranks rk (w ∷ ws) f = let l = f.0 in omega (arith, sum_ranks rk ws f.1)

-- what a file denotes, with its rules by name
abbrev pub named : {file : List ℕ} {table : List Entry} {sizes : List ℕ} → Denotes file table sizes → Denotes file table sizes
named {file} {table} {sizes} d =
    let e : d.rules ≡ rules_of file = sym (ap rules_taken d.is) in
    record {
      rules = rules_of file;
      is = d.is ∙ ap taken e;
      is_formed = subst (λ (rs : List Rule). T (formed rs)) e d.is_formed;
      bounded = subst (λ (rs : List Rule). (j : ℕ) → j < length rs → size (get_or (expansions rs) j []) ≤ 2 ^ 40) e d.bounded;
      some = subst (λ (rs : List Rule). 1 ≤ length rs) e d.some;
      few = subst (λ (rs : List Rule). length rs ≤ 256) e d.few;
      entered = d.entered ∙ ap (entries 18) e;
      longer = d.longer;
      gaps = d.gaps ∙ ap (λ (rs : List Rule). padded 0 (length sizes) (gap_rows (expansions rs))) e;
      small = d.small;
      bodies = subst (Bodies file 18) e d.bodies;
      within = subst (λ (rs : List Rule). place_after 18 rs ≤ length file + 8) e d.within;
      short = d.short;
    }

module _ {file : List ℕ} {table : List Entry} {sizes : List ℕ} (D : Denotes file table sizes) where
  abbrev H : Denotes file table sizes
  H = named D

  abbrev R : List Rule
  R = rules_of file

  abbrev E : List (List ℕ)
  E = expansions R

  pub as_many : length table ≡ length R
  as_many = denoted.as_many H

  pub rules_few : (1 ≤ length table) × (length table ≤ 256)
  rules_few = (omega (arith, as_many, H.some), omega (arith, as_many, H.few))

  module _ (r : ℕ) (below : r < length table) where
    pub rule_next : suc r < length table → (get_or table (suc r) no_rule).place ≡ (get_or table r no_rule).place + 2 * (get_or table r no_rule).words + 8
    rule_next h =
        ap (λ (t : List Entry). (get_or t (suc r) no_rule).place) H.entered ∙ entries_next 18 R r (omega (arith, as_many))
        ∙ ap (λ (t : List Entry). (get_or t r no_rule).place + 2 * (get_or t r no_rule).words + 8) (sym H.entered)

    pub rule_fits : (get_or table r no_rule).place + 2 * (get_or table r no_rule).words ≤ length file
    rule_fits = denoted.body_fits H r below

    pub words_are : (get_or table r no_rule).words ≡ length (body_at R r)
    words_are = denoted.words_are H r below

    -- the bytes of its body
    pub rule_body : (bytes : List ℕ) → bytes ≡ take (2 * (get_or table r no_rule).words) (drop (get_or table r no_rule).place file)
        → (words_in bytes ≡ body_at R r) × (length bytes / 2 ≡ length (body_at R r))
    rule_body bytes e = let b = denoted.bytes_read H r below bytes e in (b.0, b.1)

    pub rule_within : (get_or table r no_rule).place + 2 * length (body_at R r) ≤ 16384
    rule_within = omega (arith, rule_fits, words_are, H.short)

  pub first_place : (get_or table 0 no_rule).place ≡ 18
  first_place = ap (λ (t : List Entry). (get_or t 0 no_rule).place) H.entered ∙ one R H.some
    where
      one : (rs : List Rule) → 1 ≤ length rs → (get_or (entries 18 rs) 0 no_rule).place ≡ 18
      one [] h = absurd (omega arith)
      one (x ∷ rs) h = refl

  pub ranks_are : ranks_in table ≡ ranks_of R
  ranks_are = denoted.ranks_are H

  pub small_ranks : (j : ℕ) → get_or (ranks_of R) j 0 ≤ 4
  small_ranks j = omega (arith, denoted.ranks_few H j, ap (λ (l : List ℕ). get_or l j 0) ranks_are)

  pub grown : (j : ℕ) → T (all grown_word (get_or E j []))
  grown j = go (ltb j (length R)) refl
    where
      go : (b : Bool) → ltb j (length R) ≡ b → T (all grown_word (get_or E j []))
      go true e = (expansion_tree R H.is_formed j (omega (arith, ltb-true j (length R) e))).1
      go false e = rw (get_or-eq_default E [] {n = j} (omega (arith, (expansions_solve R H.is_formed).0, ltb-false j (length R) e))) tt

  pub none_over : (g : ℕ) → 1280 ≤ g → gaps_of file g ≡ []
  none_over g h = gap_none E g (omega (arith, H.few, (expansions_solve R H.is_formed).0))

  -- the size table has the gaps' sizes
  pub gap_measured : (j c : ℕ) → j < length table → c < 5 → get_or sizes (5 * j + c) 0 ≡ length (gaps_of file (5 * j + c))
  gap_measured j c h k = denoted.gap_is H j h c k ∙ gap_size E j c k (grown j)

  -- the expansion of rule r, with stops, from its body
  pub rule_expansion : (r : ℕ) → r < length table
      → map stopped (get_or E r []) ≡ join (fold (rank_of (ranks_of R)) (over (gaps_of file) (rank_of (ranks_of R))) (body_at R r) [])
  rule_expansion r h =
      ap (map stopped) ((expansions_solve R H.is_formed).1 r (omega (arith, as_many)))
      ∙ expand_over (ranks_of R) E (formed_env R H.is_formed) small_ranks grown none_over r (body_at R r) (rule_of R H.is_formed r (omega (arith, as_many))).legal

  -- the gaps of rule r
  pub rule_gaps : (r c : ℕ) → c < 5 → gaps_of file (5 * r + c) ≡ up_to (past_all c (map stopped (get_or E r [])))
  rule_gaps r c h = gap_at E r c h

  pub plain : (g : ℕ) → T (all unstopped (gaps_of file g))
  plain g = gap_plain E g

  module _ (r : ℕ) (below : r < length table) where
    pub body_legal : T (all (is_legal r) (body_at R r))
    body_legal = (rule_of R H.is_formed r (omega (arith, as_many))).legal

    body_tree : Tree (ranks_of R) (body_at R r)
    body_tree = (rule_of R H.is_formed r (omega (arith, as_many))).tree

    pub body_fits : Fits (rank_of (ranks_of R)) 0 (body_at R r)
    body_fits = body_tree.0

    pub body_room : sum_of (λ w. suc (rank_of (ranks_of R) w)) (body_at R r) < 2 * length (body_at R r)
    body_room = omega (arith, sum_ranks (rank_of (ranks_of R)) (body_at R r) body_fits, body_tree.1)

    pub body_parameters : length (those is_parameter (body_at R r)) ≤ 4
    body_parameters =
        omega (arith, ap length (rule_of R H.is_formed r (omega (arith, as_many))).in_order, length_parameters_from 1 (get_or (ranks_of R) r 0), small_ranks r)
