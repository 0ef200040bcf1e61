-- The answers of calls that are made one after the other.
use Rattle.std.specs.Prelude.{ℕ, zero, suc, List}
use Rattle.model.specs.Answers.{counted}
use Rattle.text.specs.declared.operations.Operation.{Operation}
use Rattle.text.specs.declared.operations.Operation.TheVariants.{Check, Count, Label, Window}
use Rattle.time_queries.specs.declared.task.Task.{Task}
use Rattle.time_queries.specs.declared.tallies.Tally.{Tally}
use Rattle.time_queries.specs.Inputs.{varied, start_at, starts_of, window_length}
use Rattle.time_queries.specs.Replies.{Reply, checked_reply, counted_reply, label_reply, window_reply}
use Rattle.time_queries.specs.Tallies.{nothing, tallied, tally_line}

-- what is kept of the first calls, by the reply to each
abbrev pub tallies : (ℕ → Reply) → ℕ → Tally
tallies replies zero = nothing
tallies replies (suc i) = tallied (tallies replies i) (replies i)

abbrev pub wholes : (List ℕ → Reply) → List ℕ → ℕ → Tally
wholes reply file times = tallies (λ i. reply (varied file i)) times

abbrev pub labels : List ℕ → ℕ → ℕ → Tally
labels file starts times = tallies (λ i. label_reply file (start_at starts i)) times

abbrev pub windows_of : List ℕ → ℕ → ℕ → ℕ → Tally
windows_of file starts length times = tallies (λ i. window_reply file length (start_at starts i)) times

abbrev pub windows : List ℕ → ℕ → ℕ → Tally
windows file nodes times = windows_of file (starts_of nodes (window_length nodes)) (window_length nodes) times

-- by the operation, on a file of so many nodes
abbrev pub calls_of : Operation → List ℕ → ℕ → ℕ → Tally
calls_of Check file nodes times = wholes checked_reply file times
calls_of Count file nodes times = wholes counted_reply file times
calls_of Label file nodes times = labels file (starts_of nodes 1) times
calls_of Window file nodes times = windows file nodes times

abbrev pub tally_of : Task → List ℕ → ℕ → Tally
tally_of task file nodes = calls_of task.operation file nodes task.times

-- what is printed
abbrev pub run_line : Task → List ℕ → List ℕ
run_line task file = tally_line (counted file).nodes (tally_of task file (counted file).nodes)
