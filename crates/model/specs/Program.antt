-- Document 01, "The program": standard input's bytes to standard output's bytes.
use Rattle.std.specs.Prelude.{ℕ, ◌+◌, Bool, true, false, cond, not, ◌&&◌, ◌||◌, List, ◌++◌, ltb, eqb, length, take, drop}
use Rattle.model.specs.Bounds.{rename_bytes, delete_bytes, least_insert_bytes, most_insert_bytes, most_read, largest_file, least_work}
use Rattle.model.specs.Words.{within}
use Rattle.model.specs.Refusals.{REQUEST}
use Rattle.model.specs.File.{bytes_of, number_in, words_in, payload_length, kind_in, payload_in, after_record, record_of, is_even}
use Rattle.model.specs.Edits.{Edit, rename, insert, delete, Update}
use Rattle.model.specs.Answers.{Answer, FileAnswer, refusal, update}

-- "Kind 16 rename: position (64 bits), label (16). Kind 17 delete: position. Kind 18 insert: position, fragment words, payload even and 8 to 4,104 bytes."
abbrev pub request_allowed : ℕ → ℕ → Bool
request_allowed kind length =
    eqb kind 16 && eqb length rename_bytes
    || eqb kind 17 && eqb length delete_bytes
    || eqb kind 18 && is_even length && within least_insert_bytes most_insert_bytes length

-- 21: "the program's update record is cut, unknown or of wrong length"
abbrev pub request_refused : List ℕ → Bool
request_refused bytes =
    ltb (length bytes) 6
    || not (request_allowed (kind_in bytes) (payload_length bytes))
    || ltb (length bytes) (6 + payload_length bytes)

abbrev pub edit_in : List ℕ → Edit
edit_in bytes =
    cond (eqb (kind_in bytes) 16) (rename (number_in (drop 8 (payload_in bytes))))
    (cond (eqb (kind_in bytes) 17) delete
    (insert (words_in (drop 8 (payload_in bytes)))))

abbrev pub update_in : List ℕ → Update
update_in bytes = record { at = number_in (take 8 (payload_in bytes)); edit = edit_in bytes }

-- "It writes an answer record, kind 3, payload 8 bytes (number, place, opened, rounds, 16 bits each), then the file if accepted."
abbrev pub answer_record : Answer → List ℕ
answer_record a = record_of 3 (bytes_of 2 a.number ++ bytes_of 2 a.place ++ bytes_of 2 a.opened ++ bytes_of 2 a.rounds)

abbrev pub output : FileAnswer → List ℕ
output x = answer_record x.answer ++ take x.answer.length x.result

-- "Standard input: one update record, then the file." "The program tests 21 first."
abbrev pub run_on : List ℕ → List ℕ
run_on bytes =
    elim (request_refused bytes) [
      | true ↦ answer_record (refusal REQUEST 0)
      | false ↦ output (update largest_file least_work (after_record bytes) (update_in bytes))
    ]

-- "It reads at most 20,495 bytes, enough to decide every answer."
unfoldable pub program : List ℕ → List ℕ
program input = run_on (take most_read input)
