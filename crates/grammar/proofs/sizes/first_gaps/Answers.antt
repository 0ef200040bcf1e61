-- `grammar::sizes::first_gaps` meets its contract: the gaps add up to the sum, and none is over 2^40.
use Prim.Native.Nat.{ℕ, ◌+◌, ◌*◌, ◌-◌}
use mathlib.Core.Path.{◌≡◌, ap, ◌∙◌}
use native.Mathlib.Omega.{arith}
use lib.ListN.{take, drop}
use Rattle.std.specs.Prelude.{sum}
use Rattle.grammar.proofs.Summing.{sum_same, sum_small, small_past}
use Rattle.grammar.proofs.sizes.first_gaps.Goals as goal

pub sum_of_gaps-requires : goal.sum_of_gaps-requires
sum_of_gaps-requires c =
    let a = c.args in
    let k : 5 * a.j + a.k - 5 * a.j ≡ a.k = omega arith in
    omega (arith, ap (λ (n : ℕ). sum (take n (drop (5 * a.j) a.sizes.now))) k, sum_small a.k (drop (5 * a.j) a.sizes.now) (small_past (5 * a.j) a.sizes.now c.requires.2))

pub returns : goal.returns
returns c =
    let a = c.args in
    let k : 5 * a.j + a.k - 5 * a.j ≡ a.k = omega arith in
    let is = c.sum_of_gaps.ensures ∙ ap (λ (n : ℕ). sum (take n (drop (5 * a.j) a.sizes.now))) k in
    (is ∙ sum_same (take a.k (drop (5 * a.j) a.sizes.now)), omega (arith, is, sum_small a.k (drop (5 * a.j) a.sizes.now) (small_past (5 * a.j) a.sizes.now c.requires.2)))
