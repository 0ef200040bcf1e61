-- `grammar::rules::rule_in` meets its contract: the conditions in the page's order, each where the earlier ones do not hold.
use mathlib.Core.Path.{◌≡◌, sym, ap, ◌∙◌}
use native.Mathlib.Omega.{arith}
use lib.ListN.{length}
use Rattle.model.specs.Trees.{all, is_legal, obeys}
use Rattle.grammar.specs.Meaning.{ranks_in}
use Rattle.grammar.proofs.Tables.{length_ranks}
use Rattle.grammar.proofs.RuleRecords.{most_rank, rank_over, rank_within, rule_rank_high, rule_illegal, rule_misshapen, rule_good, body_words}
use Rattle.grammar.proofs.rules.rule_in.Goals.{Joined-last, then-last, else-last}
use Rattle.grammar.proofs.rules.rule_in.Goals as goal

-- the most that the rank may be
most_is : (c : Joined-last) → c.if-last.most ≡ most_rank c.args.last
most_is c =
    elim c.if-last.branch [
      | then-last w ↦ w.most-is ∙ sym (ap most_rank w.if-last.true)
      | else-last w ↦ w.most-is ∙ sym (ap most_rank w.if-last.false)
    ]

pub returns-then-most-rank : goal.returns-then-most-rank
returns-then-most-rank c =
    let a = c.args in
    sym (rule_rank_high a.file.now a.at a.len c.requires.0 c.requires.3 (ranks_in a.below.now) (length a.below.now) (length_ranks a.below.now) a.last
    c.word_at-rank.result c.word_at-rank.ensures (rank_over c.word_at-rank.result a.last (omega (arith, most_is (goal.at.returns-then-most-rank c).Joined-last))))

pub returns-then-not-legal : goal.returns-then-not-legal
returns-then-not-legal c =
    let a = c.args in
    let within = rank_within c.word_at-rank.result a.last (omega (arith, most_is (goal.at.returns-then-not-legal c).Joined-last)) in
    let ws = body_words a.file.now a.at a.len c.requires.0 c.requires.3 _ (omega arith) in
    sym (rule_illegal a.file.now a.at a.len c.requires.0 c.requires.3 (ranks_in a.below.now) (length a.below.now) (length_ranks a.below.now) a.last
    c.word_at-rank.result c.word_at-rank.ensures within
    (sym (ap (all (is_legal (length a.below.now))) ws) ∙ sym c.legal.ensures ∙ c.if-not-legal.true))

pub returns-then-not-shaped : goal.returns-then-not-shaped
returns-then-not-shaped c =
    let a = c.args in
    let within = rank_within c.word_at-rank.result a.last (omega (arith, most_is (goal.at.returns-then-not-shaped c).Joined-last)) in
    let ws = body_words a.file.now a.at a.len c.requires.0 c.requires.3 _ (omega arith) in
    sym (rule_misshapen a.file.now a.at a.len c.requires.0 c.requires.3 (ranks_in a.below.now) (length a.below.now) (length_ranks a.below.now) a.last
    c.word_at-rank.result c.word_at-rank.ensures within
    (sym (ap (all (is_legal (length a.below.now))) ws) ∙ sym c.legal.ensures ∙ c.if-not-legal.false)
    (sym (ap (obeys (ranks_in a.below.now) c.word_at-rank.result) ws) ∙ sym c.shaped.ensures ∙ c.if-not-shaped.true))

pub returns : goal.returns
returns c =
    let a = c.args in
    let within = rank_within c.word_at-rank.result a.last (omega (arith, most_is (goal.at.returns c).Joined-last)) in
    let ws = body_words a.file.now a.at a.len c.requires.0 c.requires.3 _ (omega arith) in
    sym (rule_good a.file.now a.at a.len c.requires.0 c.requires.3 (ranks_in a.below.now) (length a.below.now) (length_ranks a.below.now) a.last
    c.word_at-rank.result c.word_at-rank.ensures within
    (sym (ap (all (is_legal (length a.below.now))) ws) ∙ sym c.legal.ensures ∙ c.if-not-legal.false)
    (sym (ap (obeys (ranks_in a.below.now) c.word_at-rank.result) ws) ∙ sym c.shaped.ensures ∙ c.if-not-shaped.false))
