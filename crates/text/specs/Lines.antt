-- Text put into a lent slice.
use Rattle.std.specs.Prelude.{ℕ, ◌+◌, ◌≡◌, List, length}
use Rattle.std.proofs.lemmas.List.Edits.{sets}

-- `text` was put at the place `at`, nothing else changed, and `end` is the place after it
pub record Put (text before : List ℕ) (at : ℕ) (after : List ℕ) (end : ℕ) : Type 0 where
  pub stored : after ≡ sets before at text
  pub ended : end ≡ at + length text
