-- `queries::pieces::GapStrings::spell` meets its contract: word by word, by the turns over the rule's body.
use native.Mathlib.Omega.{arith}
use mathlib.Core.Path.{refl, ◌∙◌}
use Rattle.queries.proofs.HeldRules.{rule_fits, rules_few}
use Rattle.queries.proofs.SpellFile.{body_next, first_turn, word_fits, gap_fits, first_low, rank_small, close_asks, next_turn, stop_fits, rule_over}
use Rattle.queries.proofs.pieces.GapStrings.spell.Goals as goal

pub body-body-requires : goal.body-body-requires
body-body-requires c = rule_fits c.requires.0.held _ c.requires.1

pub bounds-self-gap : goal.bounds-self-gap
bounds-self-gap c = omega (arith, rules_few c.requires.0.held)

pub loop-i-init : goal.loop-i-init
loop-i-init c =
    let b = body_next c.requires.0 c.requires.1 c.body-body.ensures in
    record { body = b; turn = first_turn b c.requires.0 refl _ c.clear.ensures _ c.len.ensures.value; sizes_kept = refl }

pub put_own-gap-requires : goal.put_own-gap-requires
put_own-gap-requires c =
    let x = c.loop-i.invariant in
    let g = gap_fits x.body x.turn c.loop-i-test.true c.word_at-w.result c.word_at-w.ensures in
    (word_fits x.body x.turn c.loop-i-test.true c.word_at-w.result c.word_at-w.ensures, g.0, g.1)

pub new-requires : goal.new-requires
new-requires c =
    let x = c.loop-i.invariant in (
      rank_small x.body x.turn c.loop-i-test.true c.word_at-w.result c.word_at-w.ensures c.rank_of.result c.rank_of.ensures,
      first_low x.body x.turn c.loop-i-test.true c.word_at-w.result c.word_at-w.ensures,
    )

pub close-requires : goal.close-requires
close-requires c =
    let x = c.loop-i.invariant in
    close_asks x.body x.turn c.loop-i-test.true c.word_at-w.result c.word_at-w.ensures c.rank_of.result c.rank_of.ensures c.new.result c.new.ensures.0 c.new.ensures.1
    _ _ _ _ c.put_own-gap.ensures.pieces_after c.put_own-gap.ensures.starts_after (c.put_own-gap.ensures.sizes_kept ∙ x.sizes_kept) refl

pub loop-i-preserved : goal.loop-i-preserved
loop-i-preserved c =
    let x = c.loop-i.invariant in
    let s = c.put_own-gap.ensures.sizes_kept ∙ x.sizes_kept in
    record {
      body = x.body;
      turn =
          next_turn x.body x.turn c.loop-i-test.true c.word_at-w.result c.word_at-w.ensures c.rank_of.result c.rank_of.ensures c.new.result c.new.ensures.0 c.new.ensures.1
          _ _ _ _ c.put_own-gap.ensures.pieces_after c.put_own-gap.ensures.starts_after s refl _ _ _ _ c.close.ensures.closes c.close.ensures.starts_kept c.put_own-gap.ensures.gap_after;
      sizes_kept = c.close.ensures.sizes_kept ∙ s;
    }

pub push-requires : goal.push-requires
push-requires c =
    let x = c.loop-i.invariant in (omega arith, stop_fits x.body x.turn c.loop-i-test.false)

pub returns-clause-spelt : goal.returns-clause-spelt
returns-clause-spelt c =
    let x = c.loop-i.invariant in rule_over x.body x.turn c.loop-i-test.false _ _ c.push.ensures.items x.sizes_kept
