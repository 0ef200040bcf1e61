-- `cases::records::words_are` meets its contract: the words passed are the same.
use Prim.Native.Nat.{ℕ, ◌+◌, ◌*◌, ◌<◌}
use mathlib.Core.Path.{◌≡◌}
use lib.ListN.{get_or}
use Rattle.grammar.specs.Meaning.{word_in}
use Rattle.cases.proofs.records.words_are.Given as goal

abbrev pub invariant-loop-i : goal.invariant-loop-i
invariant-loop-i l = (k : ℕ) → k < l.i → get_or l.words k 0 ≡ word_in l.bytes (l.at + 2 * k)
