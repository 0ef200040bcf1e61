-- Labels that mean the same are the same: the label query's contract leaves no part of its answer open.
use mathlib.Core.Path.{◌≡◌, ap}
use Rattle.model.specs.Answers.{LabelAnswer}
use Rattle.grammar.proofs.Unique.{answer_unique}
use Rattle.queries.specs.declared.label.Labelled.{Labelled}
use Rattle.queries.specs.Labels.{label_is}

pub label_unique : (a b : Labelled) → label_is a ≡ label_is b → a ≡ b
label_unique a b e =
    let u = answer_unique a.answer b.answer (ap (λ (l : LabelAnswer). l.answer) e) in
    λ i. record { answer = u i; word = ap (λ (l : LabelAnswer). l.word) e i }
