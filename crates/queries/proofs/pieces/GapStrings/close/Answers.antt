-- `queries::pieces::GapStrings::close` meets its contract: gap by gap of the open words.
use Prim.Native.Nat.{◌-◌}
use mathlib.Core.Path.{◌≡◌, refl, sym, subst, ◌∙◌}
use mathlib.Core.List.{List, [], ◌∷◌, ◌++◌}
use lib.ListN.{length, take}
use Rattle.queries.specs.declared.pieces.Open.{Open}
use Rattle.queries.specs.Pieces.{Closes}
use Rattle.queries.proofs.Closing.{Now, closes_start, turn_asks, turn_room, turn_small, turn_last, turn_next, turn_over, lowest_last, lowest_changed, lowest_taken}
use Rattle.queries.proofs.pieces.GapStrings.close.Goals.{In-Some-last_mut}
use Rattle.queries.proofs.pieces.GapStrings.close.Goals as goal

pub put_gap-requires : goal.put_gap-requires
put_gap-requires c =
    let x = closes_start c.args.self.now.starts c.args.self.now.sizes.now c.args.self.now.pieces.items (c.args.opens.now.items ++ c.args.word ∷ []) in
    (turn_small _ _ c.requires x refl, turn_asks _ _ c.requires x refl _ _ refl refl, turn_room _ _ c.requires x refl _ _ refl refl _ refl)

pub returns-in-Some-clause-closes : goal.returns-in-Some-clause-closes
returns-in-Some-clause-closes c =
    let x = closes_start c.args.self.now.starts c.args.self.now.sizes.now c.args.self.now.pieces.items (c.args.opens.now.items ++ c.args.word ∷ []) in
    let n = c.in-Some.ensures.rest in
    turn_next _ _ c.requires x refl _ _ refl refl _ refl _ c.put_gap.ensures.put _ n.0 n.1 n.2 _ c.push.ensures.items

pub loop-lowest-init : goal.loop-lowest-init
loop-lowest-init c =
    let x = closes_start c.args.self.now.starts c.args.self.now.sizes.now c.args.self.now.pieces.items (c.args.opens.now.items ++ c.args.word ∷ []) in
    record {
      closes = turn_last _ _ c.requires x refl _ _ refl refl _ refl _ c.put_gap.ensures.put c.in_default.ensures.rest;
      starts_kept = c.put_gap.ensures.starts_kept;
      sizes_kept = c.put_gap.ensures.sizes_kept;
    }

-- the lowest open word by itself
lowest : (c : In-Some-last_mut) → c.loop-lowest.opens.items ≡ take (length c.loop-lowest.opens.items - 1) c.loop-lowest.opens.items ++ c.in-Some-last_mut.lowest.now ∷ []
lowest c = lowest_last _ _ _ c.deref_mut.ensures.value c.in-Some-last_mut.ensures.item.3.0 c.in-Some-last_mut.ensures.item.1

pub put_gap-requires-in-Some-last_mut : goal.put_gap-requires-in-Some-last_mut
put_gap-requires-in-Some-last_mut c =
    let x = c.loop-lowest.invariant in
    let l = lowest (goal.at.put_gap-requires-in-Some-last_mut c).In-Some-last_mut in (
      turn_small _ _ c.requires x.closes l,
      turn_asks _ _ c.requires x.closes l _ _ x.starts_kept x.sizes_kept,
      turn_room _ _ c.requires x.closes l _ _ x.starts_kept x.sizes_kept _ refl,
    )

pub returns-in-Some-put_gap-clause-closes : goal.returns-in-Some-put_gap-clause-closes
returns-in-Some-put_gap-clause-closes c =
    let x = c.loop-lowest.invariant in
    let l = lowest (goal.at.returns-in-Some-put_gap-clause-closes c).In-Some-last_mut in
    let n = c.in-Some-put_gap.ensures.rest in
    turn_next _ _ c.requires x.closes l _ _ x.starts_kept x.sizes_kept _ refl _ c.put_gap-in-Some-last_mut.ensures.put _ n.0 n.1 n.2
    _ (lowest_changed _ _ _ c.deref_mut.ensures.value c.in-Some-last_mut.ensures.item.3.0 c.in-Some-last_mut.ensures.item.1 _)

pub loop-lowest-preserved : goal.loop-lowest-preserved
loop-lowest-preserved c =
    let x = c.loop-lowest.invariant in
    let l = lowest (goal.at.loop-lowest-preserved c).In-Some-last_mut in
    record {
      closes =
          subst
          (λ (os : List Open). Closes Now c.args.self.now.starts c.args.self.now.sizes.now c.args.self.now.pieces.items (c.args.opens.now.items ++ c.args.word ∷ [])
          c.put_gap-in-Some-last_mut.new.self.pieces.items os)
          (sym (lowest_taken _ _ _ c.deref_mut.ensures.value c.in-Some-last_mut.ensures.item.3.0 c.in-Some-last_mut.ensures.item.1 _ c.pop.ensures.rest))
          (turn_last _ _ c.requires x.closes l _ _ x.starts_kept x.sizes_kept _ refl _ c.put_gap-in-Some-last_mut.ensures.put c.in_default-put_gap.ensures.rest);
      starts_kept = c.put_gap-in-Some-last_mut.ensures.starts_kept ∙ x.starts_kept;
      sizes_kept = c.put_gap-in-Some-last_mut.ensures.sizes_kept ∙ x.sizes_kept;
    }

pub returns-clause-closes : goal.returns-clause-closes
returns-clause-closes c = turn_over _ _ c.deref_mut.ensures.value c.in_default-last_mut.ensures.item.3 c.loop-lowest.invariant.closes
