-- `grammar::sizes::before` meets its contract: the words from i on, read towards the place.
use Prim.Native.Nat.{◌+◌, ◌≤◌, ◌<◌, ◌-◌}
use mathlib.Core.Path.{◌≡◌}
use native.Mathlib.Omega.{arith}
use lib.ListN.{drop}
use Rattle.model.specs.Words.{rank_of}
use Rattle.model.specs.File.{words_in}
use Rattle.laws.specs.Sums.{depth_of}
use Rattle.grammar.specs.Meaning.{ranks_in}
use Rattle.grammar.specs.Measures.{own_by, before_by}
use Rattle.grammar.proofs.Due.{rank_small}
use Rattle.grammar.proofs.Measuring.{before_none, depth_none, word_over, word_beside}
use Rattle.grammar.proofs.sizes.before.Goals.{After-rank_of-rank}
use Rattle.grammar.proofs.sizes.before.Goals as goal

pub loop-i-init : goal.loop-i-init
loop-i-init c =
    let rk = rank_of (ranks_in c.args.rules.now) in
    (before_none c.args.front.now rk c.args.sizes.now, depth_none c.args.front.now rk, omega arith, omega arith)

-- what the word read adds, and the trees before the place that it leaves: it stands over the place, or it does not
passed_word : (c : After-rank_of-rank)
    → let a = c.args in
    let l = c.loop-i in
    let rk = rank_of (ranks_in a.rules.now) in
    let sizes = a.sizes.now in
    let left = drop (l.i - 1) (words_in a.front.now) in
    (l.depth < rk c.word_at-w.result → (l.sum + own_by sizes (l.depth + 1) c.word_at-w.result ≡ before_by rk sizes left) × (0 ≡ depth_of rk 0 left))
    × (rk c.word_at-w.result ≤ l.depth → (l.sum + own_by sizes 5 c.word_at-w.result ≡ before_by rk sizes left) × (l.depth - rk c.word_at-w.result + 1 ≡ depth_of rk 0 left))
passed_word c =
    let a = c.args in
    let l = c.loop-i in
    let rk = rank_of (ranks_in a.rules.now) in (
      λ h. word_over a.front.now l.i c.word_at-w.result (omega arith) (omega arith) c.word_at-w.ensures rk a.sizes.now l.depth l.sum l.invariant.0 l.invariant.1 h,
      λ h. word_beside a.front.now l.i c.word_at-w.result (omega arith) (omega arith) c.word_at-w.ensures rk a.sizes.now l.depth l.sum l.invariant.0 l.invariant.1 h,
    )

pub own-sum-requires : goal.own-sum-requires
own-sum-requires c =
    let k = rank_small c.args.rules.now c.requires.3 c.word_at-w.result in
    (omega (arith, c.requires), omega (arith, c.rank_of-rank.ensures), c.requires.2)

pub loop-i-preserved-then-depth-rank : goal.loop-i-preserved-then-depth-rank
loop-i-preserved-then-depth-rank c =
    let m = (passed_word (goal.at.loop-i-preserved-then-depth-rank c).After-rank_of-rank).0 (omega arith) in
    (omega arith, omega arith, omega arith, omega arith)

pub loop-i-preserved : goal.loop-i-preserved
loop-i-preserved c =
    let m = (passed_word (goal.at.loop-i-preserved c).After-rank_of-rank).1 (omega arith) in
    (omega arith, omega arith, omega arith, omega arith)
