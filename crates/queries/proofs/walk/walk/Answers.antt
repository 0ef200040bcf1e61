-- `queries::walk::walk` meets its contract: word by word, and to each piece by piece, for every reading of the pieces. What is left to walk falls.
use native.Mathlib.Omega.{arith}
use Prim.Native.Nat.{◌-◌, ◌≤◌, ◌<◌}
use mathlib.Core.Path.{◌≡◌, refl, sym, ap, ◌∙◌}
use mathlib.Core.List.{[], ◌∷◌, ◌++◌}
use lib.ListN.{get_or}
use Rattle.std.specs.Prelude.{option_to_list}
use Rattle.queries.specs.Pieces.{stop}
use Rattle.queries.proofs.WalkTurns.{walk_start, turn_word, given_word, turn_past, turn_deep, turn_pop, gap_low, turn_over, turn_into, less_on, less_pop, less_into, walk_end}
use Rattle.queries.proofs.walk.walk.Goals.{In-Word, In-Stop, In-Gap, After-unwrap-i}
use Rattle.queries.proofs.walk.walk.Goals as goal

-- what stands at the place
word_here : (c : In-Word) → (get_or c.args.strings.now.pieces.items c.loop-w.i 0 < 32768) × (c.in-Word.w ≡ get_or c.args.strings.now.pieces.items c.loop-w.i 0)
word_here c =
    let e = ap (λ l. get_or l c.loop-w.i 0) c.deref.ensures.0 in
    (omega (arith, e, c.in-Word.ensures.0), c.in-Word.ensures.1 ∙ e)

stop_here : (c : In-Stop) → get_or c.args.strings.now.pieces.items c.loop-w.i 0 ≡ stop
stop_here c = ap (λ l. get_or l c.loop-w.i 0) (sym c.deref.ensures.0) ∙ c.in-Stop.ensures

gap_here : (c : In-Gap)
    → (32768 ≤ get_or c.args.strings.now.pieces.items c.loop-w.i 0) × (get_or c.args.strings.now.pieces.items c.loop-w.i 0 ≡ stop → ⊥)
    × (c.in-Gap.g ≡ get_or c.args.strings.now.pieces.items c.loop-w.i 0 - 32768)
gap_here c =
    let e = ap (λ l. get_or l c.loop-w.i 0) c.deref.ensures.0 in
    (omega (arith, e, c.in-Gap.ensures.0), λ s. c.in-Gap.ensures.1 (e ∙ s), c.in-Gap.ensures.2 ∙ ap (λ v. v - 32768) e)

-- the place that the walk comes back to
popped : (c : After-unwrap-i) → c.loop-w.frames.items ≡ c.pop.new.self.items ++ c.unwrap-i.result ∷ []
popped c = c.pop.ensures.items ∙ ap (λ o. c.pop.new.self.items ++ option_to_list o) c.unwrap-i.ensures

pub loop-x-init : goal.loop-x-init
loop-x-init c = record { walks = walk_start c.requires _ c.new-frames.ensures; given = λ G top s t. refl }

pub loop-w-smaller-in-Word : goal.loop-w-smaller-in-Word
loop-w-smaller-in-Word c =
    let p = word_here (goal.at.loop-w-smaller-in-Word c).In-Word in less_on c.requires c.loop-w.invariant c.loop-x-test.true (λ e. omega arith)

pub loop-w-preserved-in-Word : goal.loop-w-preserved-in-Word
loop-w-preserved-in-Word c =
    let p = word_here (goal.at.loop-w-preserved-in-Word c).In-Word in turn_past c.requires c.loop-w.invariant c.loop-x-test.true p.0 c.if-skip-eq0.false

pub unwrap-i-requires : goal.unwrap-i-requires
unwrap-i-requires c = c.pop.ensures.variant.1 (turn_deep c.requires c.loop-w.invariant c.loop-x-test.true (stop_here (goal.at.unwrap-i-requires c).In-Stop))

pub loop-w-smaller-in-Stop : goal.loop-w-smaller-in-Stop
loop-w-smaller-in-Stop c =
    less_pop c.requires c.loop-w.invariant c.loop-x-test.true (stop_here (goal.at.loop-w-smaller-in-Stop c).In-Stop) _ _ (popped (goal.at.loop-w-smaller-in-Stop c).After-unwrap-i)

pub loop-w-preserved-in-Stop : goal.loop-w-preserved-in-Stop
loop-w-preserved-in-Stop c =
    turn_pop c.requires c.loop-w.invariant c.loop-x-test.true (stop_here (goal.at.loop-w-preserved-in-Stop c).In-Stop) _ _ (popped (goal.at.loop-w-preserved-in-Stop c).After-unwrap-i)

pub bounds-strings-g : goal.bounds-strings-g
bounds-strings-g c =
    let p = gap_here (goal.at.bounds-strings-g c).In-Gap in
    omega (arith, gap_low c.requires c.loop-w.invariant c.loop-x-test.true p.0 p.1 _ p.2, c.requires.wide, c.requires.few_rules)

pub loop-w-smaller-then-s-skip : goal.loop-w-smaller-then-s-skip
loop-w-smaller-then-s-skip c =
    let p = gap_here (goal.at.loop-w-smaller-then-s-skip c).In-Gap in less_on c.requires c.loop-w.invariant c.loop-x-test.true p.1

pub loop-w-preserved-then-s-skip : goal.loop-w-preserved-then-s-skip
loop-w-preserved-then-s-skip c =
    let p = gap_here (goal.at.loop-w-preserved-then-s-skip c).In-Gap in turn_over c.requires c.loop-w.invariant c.loop-x-test.true p.0 p.1 _ p.2 c.if-s-skip.true

pub bounds-strings-g-else-s-skip : goal.bounds-strings-g-else-s-skip
bounds-strings-g-else-s-skip c =
    let p = gap_here (goal.at.bounds-strings-g-else-s-skip c).In-Gap in
    omega (arith, gap_low c.requires c.loop-w.invariant c.loop-x-test.true p.0 p.1 _ p.2, c.requires.few_rules)

pub loop-w-smaller : goal.loop-w-smaller
loop-w-smaller c =
    let p = gap_here (goal.at.loop-w-smaller c).In-Gap in less_into c.requires c.loop-w.invariant c.loop-x-test.true p.0 p.1 _ p.2 _ refl _ c.push.ensures.items

pub loop-w-preserved : goal.loop-w-preserved
loop-w-preserved c =
    let p = gap_here (goal.at.loop-w-preserved c).In-Gap in
    turn_into c.requires c.loop-w.invariant c.loop-x-test.true p.0 p.1 _ p.2 _ refl _ c.push.ensures.items c.if-s-skip.false

pub loop-x-preserved : goal.loop-x-preserved
loop-x-preserved c =
    let p = word_here (goal.at.loop-x-preserved c).In-Word in
    record {
      walks = turn_word c.requires c.loop-w.invariant c.loop-x-test.true p.0 c.if-skip-eq0.true;
      given = given_word c.requires c.loop-w.invariant c.loop-x-test.true p.0 c.if-skip-eq0.true _ c.loop-x.auto.out _ p.1 c.loop-x.invariant.given;
    }

pub returns : goal.returns
returns c = walk_end c.requires _ _ (omega arith) (omega arith) c.loop-x.invariant.given
