-- What is kept of the answers.
use Rattle.std.specs.Prelude.{ℕ, ◌+◌, ◌*◌, ◌%◌, ◌^◌, cond, List, [], ◌∷◌, ◌++◌, ◌==◌}
use Rattle.text.specs.Numbers.{decimal}
use Rattle.time_queries.specs.declared.tallies.Tally.{Tally}
use Rattle.time_queries.specs.Replies.{Reply}

abbrev pub nothing : Tally
nothing = record { accepted = 0; sum = 0 }

-- the checksum with one more number
abbrev pub mixed : ℕ → ℕ → ℕ
mixed sum x = (31 * sum + x % 2 ^ 32) % 2 ^ 32

-- with one more reply
unfoldable pub tallied : Tally → Reply → Tally
tallied t r =
    record {
      accepted = cond (r.answer.number == 0) (t.accepted + 1) t.accepted;
      sum = mixed (mixed (mixed t.sum r.answer.number) r.answer.place) r.value;
    }

-- "nodes 11 accepted 5 sum 12345"
abbrev pub tally_line : ℕ → Tally → List ℕ
tally_line nodes t =
    (110 ∷ 111 ∷ 100 ∷ 101 ∷ 115 ∷ 32 ∷ [])
    ++ decimal nodes
    ++ (32 ∷ 97 ∷ 99 ∷ 99 ∷ 101 ∷ 112 ∷ 116 ∷ 101 ∷ 100 ∷ 32 ∷ [])
    ++ decimal t.accepted
    ++ (32 ∷ 115 ∷ 117 ∷ 109 ∷ 32 ∷ [])
    ++ decimal t.sum
    ++ (10 ∷ [])
