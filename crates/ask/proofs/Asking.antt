-- The questions by name.
use Rattle.std.proofs.Common.{◌≡◌, ℕ, true, List, sym}
use Rattle.model.specs.Trees.{same}
use Rattle.text.specs.Numbers.{number_in}
use Rattle.text.specs.Operations.{label_name}
use Rattle.ask.specs.Question.{label_at, label_question}

module _ (name first : List ℕ) where
  pub is_label_lem : same name label_name ≡ true → label_at (number_in first) ≡ label_question name first
  is_label_lem e = sym (rw e)
