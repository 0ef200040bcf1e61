-- Words as trees, bodies and their expansions, grammars.
pub mod Folds
pub mod Fills
pub mod Expansion
pub mod Spread
pub mod Legal
pub mod Grown
pub mod Subtrees
pub mod Owners
pub mod Holes
pub mod Places
pub mod Grammar
pub mod Renumbered
