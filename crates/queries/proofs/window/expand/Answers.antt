-- `queries::window::expand` meets its contract: the words of the start rule's gap, which has no parameters, are the tree.
use Rattle.queries.proofs.Windows.{walkable, window_words}
use Rattle.queries.proofs.window.expand.Goals as goal

pub walk-requires : goal.walk-requires
walk-requires c = walkable c.spell_all.ensures.spelt.held c.spell_all.ensures.spelt _ _ c.requires.1

pub returns : goal.returns
returns c =
    window_words c.spell_all.ensures.spelt.held c.spell_all.ensures.spelt c.args.p _ _ c.walk.auto.out c.walk.ensures
