-- A refusal's name is the one that its number names, and an answer's line is its verdict's.
use Prim.Native.Nat.{ℕ}
use mathlib.Core.Path.{◌≡◌, refl, ap}
use mathlib.Core.Bool.{Bool, false}
use lib.Dec.{eqb}
use Rattle.std.specs.Prelude.{Result, Ok, Err}
use Rattle.grammar.specs.Meaning.{refusal_is, verdict_is}
use Rattle.grammar.specs.declared.refusals.Refusal.{Refusal as Coded}
use Rattle.grammar.specs.declared.refusals.Refused.{Refused}
use Rattle.model.specs.Refusals.{Refusal, SHORT, KIND, LENGTH, HEAD, RANK, SYMBOL, BODY, TRAIL, LARGE, HUGE, EMPTY, POSITION, NODE, LABEL, TREE, NOTHING_LEFT, OUTGROWN, FULL, ROOM, WORK, REQUEST, name_of, number_of}
use Rattle.text.specs.Answers.{name_by, accepted_text, refusal_line, answer_line_as, answer_line}

pub named : (x : Refusal) → name_of x ≡ name_by (number_of x)
named SHORT = refl
named KIND = refl
named LENGTH = refl
named HEAD = refl
named RANK = refl
named SYMBOL = refl
named BODY = refl
named TRAIL = refl
named LARGE = refl
named HUGE = refl
named EMPTY = refl
named POSITION = refl
named NODE = refl
named LABEL = refl
named TREE = refl
named NOTHING_LEFT = refl
named OUTGROWN = refl
named FULL = refl
named ROOM = refl
named WORK = refl
named REQUEST = refl

-- no refusal has number 0
pub positive : (x : Refusal) → false ≡ eqb (number_of x) 0
positive SHORT = refl
positive KIND = refl
positive LENGTH = refl
positive HEAD = refl
positive RANK = refl
positive SYMBOL = refl
positive BODY = refl
positive TRAIL = refl
positive LARGE = refl
positive HUGE = refl
positive EMPTY = refl
positive POSITION = refl
positive NODE = refl
positive LABEL = refl
positive TREE = refl
positive NOTHING_LEFT = refl
positive OUTGROWN = refl
positive FULL = refl
positive ROOM = refl
positive WORK = refl
positive REQUEST = refl

-- the line of each verdict
module _ (v : Result (Unit {0}) Refused) (opened rounds length : ℕ) where
  pub accepted_line : v ≡ Ok tt → accepted_text ≡ answer_line (verdict_is v opened rounds length)
  accepted_line e = rw e

  pub refused_line : (x : Coded) (k : ℕ) → v ≡ Err (record { refusal = x; place = k }) → refusal_line (number_of (refusal_is x)) k ≡ answer_line (verdict_is v opened rounds length)
  refused_line x k e =
      rw e (ap (λ (b : Bool). answer_line_as b (number_of (refusal_is x)) k) (positive (refusal_is x)))
