-- `grammar::answers::count` meets its contract: N is the start rule's size by the table.
use mathlib.Core.Path.{◌≡◌, ap, ◌∙◌}
use native.Mathlib.Omega.{arith}
use lib.ListN.{take}
use Rattle.std.specs.Prelude.{ℕ, ◌≤◌, Ok}
use Rattle.model.specs.File.{read}
use Rattle.grammar.specs.Meaning.{reading_is, answer_is, query_answer}
use Rattle.grammar.specs.Measures.{Denotes}
use Rattle.grammar.proofs.Answering.{query_checked, count_taken, count_refused}
use Rattle.grammar.proofs.Promise.{denotes, count_bounds, nodes_read}
use Rattle.grammar.proofs.answers.count.Goals.{After-read-r}
use Rattle.grammar.proofs.answers.count.Goals as goal

-- a file that is taken denotes a grammar of so many rules, and N is theirs
module _ (c : After-read-r) (n : ℕ) (e : c.read-r.result ≡ Ok n) where
  denoted : Denotes c.args.file.now (take n c.read-r.new.table) c.read-r.new.sizes
  denoted = denotes c.args.file.now n c.read-r.result _ c.read-r.new.table _ c.read-r.new.sizes e c.read-r.ensures (omega arith) (omega arith)

  some_rule : (1 ≤ n) × (n ≤ 256)
  some_rule = count_bounds c.args.file.now n c.read-r.result _ c.read-r.new.table _ c.read-r.new.sizes e c.read-r.ensures (omega arith) (omega arith)

pub overflow_sub-n : goal.overflow_sub-n
overflow_sub-n c = (some_rule (goal.at.overflow_sub-n c).After-read-r c.in-Ok.n c.in-Ok.is).0

pub first_gaps-nodes-requires : goal.first_gaps-nodes-requires
first_gaps-nodes-requires c =
    let at = (goal.at.first_gaps-nodes-requires c).After-read-r in
    let d = denoted at c.in-Ok.n c.in-Ok.is in
    (omega (arith, some_rule at c.in-Ok.n c.in-Ok.is, d.longer), omega arith, d.small)

pub returns-in-Ok : goal.returns-in-Ok
unfolding denoted
returns-in-Ok c =
    let file = c.args.file.now in
    let d = denoted (goal.at.returns-in-Ok c).After-read-r c.in-Ok.n c.in-Ok.is in
    let n = nodes_read file c.in-Ok.n c.read-r.result _ c.read-r.new.table _ c.read-r.new.sizes c.in-Ok.is c.read-r.ensures (omega arith) (omega arith) in
    count_taken (read file) d.rules (answer_is c.from-answer.result) c.first_gaps-nodes.result d.is
    (c.from-answer.ensures ∙ ap query_answer c.read-r.ensures.reading ∙ query_checked file) (c.first_gaps-nodes.ensures.0 ∙ n)

pub returns-in-Err : goal.returns-in-Err
returns-in-Err c =
    let file = c.args.file.now in
    count_refused (read file) (reading_is c.read-r.result) (answer_is c.from-answer.result) _ _ (ap reading_is c.in-Err.is) c.read-r.ensures.reading
    (c.from-answer.ensures ∙ ap query_answer c.read-r.ensures.reading ∙ query_checked file)
