-- What the label query's answer means in the model.
use Rattle.model.specs.Answers as answers
use Rattle.grammar.specs.Meaning.{answer_is}
use Rattle.queries.specs.declared.label.Labelled.{Labelled}

abbrev pub label_is : Labelled → answers.LabelAnswer
label_is l = record { answer = answer_is l.answer; word = l.word }
