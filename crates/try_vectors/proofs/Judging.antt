-- What the test of an answer says.
use Rattle.std.proofs.Common.{ℕ, ◌≡◌, IsTrue, rules}
use Rattle.model.specs.Answers.{Answer}
use Rattle.cases.specs.Records.{is_query_answer}

-- an answer that passes has the number and the place, and no counts
pub held : (a : Answer) (number place : ℕ) → IsTrue (is_query_answer a number place)
    → a ≡ record { number = number; place = place; opened = 0; rounds = 0; length = 0 }
held a number place h = search rules
