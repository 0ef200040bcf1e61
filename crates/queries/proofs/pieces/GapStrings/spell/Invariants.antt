-- `queries::pieces::GapStrings::spell` meets its contract: word by word, by the turns over the rule's body.
use mathlib.Core.Path.{◌≡◌}
use lib.ListN.{length}
use Rattle.queries.proofs.SpellFile.{Body, RuleTurn}
use Rattle.queries.proofs.pieces.GapStrings.spell.Given as goal

abbrev pub invariant-loop-i : goal.invariant-loop-i
invariant-loop-i l = record {
  body : Body l.file l.r l.rules l.fn.self.sizes.now (length l.fn.self.pieces.items) l.body;
  turn : RuleTurn l.file l.r (length l.fn.self.pieces.items) l.fn.self.sizes.now l.self.pieces.items l.self.starts l.opens.items l.gap l.i;
  sizes_kept : l.self.sizes.now ≡ l.fn.self.sizes.now;
}
