-- What the tables of a file that denotes a grammar say of it: each rule's rank, body, gaps and size, and N. The laws by which the layers above read them.
use Prim.Native.Nat.{ℕ, ◌+◌, ◌*◌, ◌-◌, ◌/◌, ◌≤◌, ◌<◌}
use mathlib.Core.Path.{◌≡◌, sym, ap, ap₂, ◌∙◌}
use mathlib.Core.Bool.{true}
use mathlib.Core.List.{List, []}
use native.Mathlib.Omega.{arith}
use lib.ListN.{length, take, drop, get_or, replicate}
use Rattle.model.specs.File.{words_in}
use Rattle.model.specs.Trees.{size, gap_sizes, expansions, ranks_of, nodes, is_tree}
use Rattle.laws.specs.Formed.{body_at}
use Rattle.laws.proofs.Words.Tests.{T_true}
use Rattle.laws.proofs.Trees.Folds.{tree_is_tree}
use Rattle.laws.proofs.Trees.Grammar.{RuleOf, rule_of, expansions_solve}
use Rattle.grammar.specs.declared.rules.Entry.{Entry}
use Rattle.grammar.specs.Meaning.{body_in, word_in, ranks_in, RanksSmall, padded, no_rule}
use Rattle.grammar.specs.Measures.{first_gaps, gap_rows, Laid, Denotes}
use Rattle.grammar.proofs.Rows.{gap_there}
use Rattle.grammar.proofs.Entered.{count, inside, table_rank, BodyThere, body_there, bytes_there, word_of_file, all_small}
use Rattle.grammar.proofs.Entered.{ranks_are as laid_ranks}
use Rattle.grammar.proofs.Tabled.{word_there}
use Rattle.grammar.proofs.Promise.{all_gaps, nodes_there}

module _ {file : List ℕ} {rules : List Entry} {sizes : List ℕ} (d : Denotes file rules sizes) where
  -- its rules stand in the file where the rule table says
  pub laid : Laid d.rules file rules
  laid =
      record {
        is_formed = d.is_formed;
        short = d.short;
        bodies = d.bodies;
        within = d.within;
        entered = d.entered;
      }

  pub as_many : length rules ≡ length d.rules
  as_many = count laid

  -- the ranks
  pub ranks_are : ranks_in rules ≡ ranks_of d.rules
  ranks_are = laid_ranks laid

  pub ranks_few : RanksSmall rules
  ranks_few = all_small laid

  module _ (r : ℕ) (below : r < length rules) where
    rule : RuleOf d.rules r
    rule = rule_of d.rules d.is_formed r (omega (arith, as_many))

    -- a rule's entries are in the tables
    pub entry_inside : (r < length rules) × (5 * r + 5 ≤ length sizes)
    entry_inside = (below, (inside laid r below sizes d.longer).1)

    pub rank_is : (get_or rules r no_rule).rank ≡ get_or (ranks_of d.rules) r 0
    rank_is = table_rank laid r below

    there : BodyThere file (body_at d.rules r) (get_or rules r no_rule)
    there = body_there laid r below

    -- the body stands within the file
    pub body_fits : (get_or rules r no_rule).place + 2 * (get_or rules r no_rule).words ≤ length file
    body_fits = there.fits

    pub body_short : (get_or rules r no_rule).words ≤ 8192
    body_short = omega (arith, there.short)

    pub words_are : (get_or rules r no_rule).words ≡ length (body_at d.rules r)
    words_are = there.many

    pub body_is : body_in file (get_or rules r no_rule).place (get_or rules r no_rule).words ≡ body_at d.rules r
    body_is = there.is

    pub word_is : (i : ℕ) → i < (get_or rules r no_rule).words → word_in file ((get_or rules r no_rule).place + 2 * i) ≡ get_or (body_at d.rules r) i 0
    word_is i h = sym (word_of_file there i h)

    -- it is one complete tree, as the end of a subtree needs it
    pub body_tree : is_tree (ranks_in rules) (body_in file (get_or rules r no_rule).place (get_or rules r no_rule).words) ≡ true
    body_tree =
        ap₂ is_tree ranks_are body_is
        ∙ T_true (is_tree (ranks_of d.rules) (body_at d.rules r)) (tree_is_tree (ranks_of d.rules) (body_at d.rules r) rule.tree)

    -- all of it, of a place and a length as they were read
    pub body_read : (at w : ℕ) → at ≡ (get_or rules r no_rule).place → w ≡ (get_or rules r no_rule).words
        → (body_in file at w ≡ body_at d.rules r) × (at + 2 * w ≤ length file) × (w ≤ 8192) × (is_tree (ranks_in rules) (body_in file at w) ≡ true)
    body_read at w e f = rw (e, f) (body_is, body_fits, body_short, body_tree)

    -- and of its bytes
    pub bytes_read : (bytes : List ℕ) → bytes ≡ take (2 * (get_or rules r no_rule).words) (drop (get_or rules r no_rule).place file)
        → (words_in bytes ≡ body_at d.rules r) × (length bytes / 2 ≡ length (body_at d.rules r)) × (length bytes ≤ 16384) × (is_tree (ranks_in rules) (words_in bytes) ≡ true)
    bytes_read bytes e = let b = bytes_there laid r below bytes e in (b.is, b.many, b.short, ap (λ (l : List ℕ). is_tree (ranks_in rules) (words_in l)) e ∙ body_tree)

    pub word_read : (bytes : List ℕ) → bytes ≡ take (2 * (get_or rules r no_rule).words) (drop (get_or rules r no_rule).place file)
        → (i : ℕ) → i < length bytes / 2 → word_in bytes (2 * i) ≡ get_or (body_at d.rules r) i 0
    word_read bytes e i h = sym (word_there laid r below (bytes_there laid r below bytes e) i h)

    -- the gaps and the size
    pub gap_is : (m : ℕ) → m < 5 → get_or sizes (5 * r + m) 0 ≡ get_or (gap_sizes (get_or (expansions d.rules) r [])) m 0
    gap_is m h =
        ap (λ (l : List ℕ). get_or l (5 * r + m) 0) d.gaps
        ∙ gap_there (expansions d.rules) (replicate (length sizes - length (gap_rows (expansions d.rules))) 0) r m
        (omega (arith, (expansions_solve d.rules d.is_formed).0, as_many)) h

    pub size_is : first_gaps sizes r 5 ≡ size (get_or (expansions d.rules) r [])
    size_is =
        ap (λ (t : List ℕ). first_gaps t r 5) d.gaps
        ∙ all_gaps d.rules d.is_formed (length sizes) r (omega (arith, as_many)) rule.rank_small

  -- N, by the size table
  pub nodes_counted : first_gaps sizes (length rules - 1) 5 ≡ nodes d.rules
  nodes_counted =
      ap (λ (t : List ℕ). first_gaps t (length rules - 1) 5) d.gaps
      ∙ ap (λ (k : ℕ). first_gaps (padded 0 (length sizes) (gap_rows (expansions d.rules))) (k - 1) 5) as_many
      ∙ nodes_there d.rules d.is_formed (length sizes)
