-- What comes back from each call: an answer, and a number with it.
use Rattle.std.specs.Prelude.{ℕ, List, sum}
use Rattle.model.specs.Answers.{Answer, checked, counted, label_at, window_at}
use Rattle.grammar.specs.Meaning.{answer_is}
use Rattle.time_queries.specs.declared.tallies.Reply.{Reply as Coded}

pub record Reply : Type 0 where
  pub answer : Answer
  pub value : ℕ

abbrev pub reply_is : Coded → Reply
reply_is r = record { answer = answer_is r.answer; value = r.value }

-- only checked, which comes with no number
abbrev pub checked_reply : List ℕ → Reply
checked_reply file = record { answer = checked file; value = 0 }

abbrev pub counted_reply : List ℕ → Reply
counted_reply file = record { answer = (counted file).answer; value = (counted file).nodes }

abbrev pub label_reply : List ℕ → ℕ → Reply
label_reply file p = record { answer = (label_at file p).answer; value = (label_at file p).word }

abbrev pub window_reply : List ℕ → ℕ → ℕ → Reply
window_reply file length p = record { answer = (window_at file p length).answer; value = sum (window_at file p length).window }
