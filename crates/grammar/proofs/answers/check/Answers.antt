-- `grammar::answers::check` meets its contract: the answer is that of the model's reading.
use mathlib.Core.Path.{ap, ◌∙◌}
use Rattle.grammar.specs.Meaning.{query_answer}
use Rattle.grammar.proofs.Answering.{query_checked}
use Rattle.grammar.proofs.answers.check.Goals as goal

pub returns : goal.returns
returns c = c.from.ensures ∙ ap query_answer c.read.ensures.reading ∙ query_checked c.args.file.now
