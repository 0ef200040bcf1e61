-- A reply by whether its answer is accepted.
use Prim.Native.Nat.{ℕ}
use mathlib.Core.Path.{◌≡◌, ap}
use mathlib.Core.Bool.{Bool, true, false}
use mathlib.Core.List.{List, ◌++◌}
use lib.Dec.{eqb}
use Rattle.model.specs.Answers.{Answer}
use Rattle.text.specs.Answers.{answer_line}
use Rattle.ask.specs.Replies.{reply, reply_as}

module _ (a : Answer) (rest : List ℕ) where
  pub accepted_reply : true ≡ eqb a.number 0 → answer_line a ++ rest ≡ reply a rest
  accepted_reply e = ap (λ (b : Bool). reply_as b (answer_line a) rest) e

  pub refused_reply : false ≡ eqb a.number 0 → answer_line a ≡ reply a rest
  refused_reply e = ap (λ (b : Bool). reply_as b (answer_line a) rest) e
