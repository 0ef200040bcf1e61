-- `grammar::sizes::total` meets its contract: the words from i on are added up.
use native.Mathlib.Omega.{arith}
use Rattle.grammar.specs.Measures.{own_by}
use Rattle.grammar.proofs.Measuring.{sum_none, sum_left}
use Rattle.grammar.proofs.sizes.total.Goals as goal

pub loop-i-init : goal.loop-i-init
loop-i-init c = (sum_none c.args.body.now (own_by c.args.sizes.now 5), omega arith)

pub loop-i-preserved : goal.loop-i-preserved
loop-i-preserved c =
    let l = c.loop-i in
    let m = sum_left c.args.body.now l.i c.word_at.result (omega arith) (omega arith) c.word_at.ensures (own_by c.args.sizes.now 5) l.sum l.invariant.0 in
    (omega arith, omega arith)
