-- What the arguments ask.
use Rattle.std.specs.Prelude.{◌≡◌, ℕ, Bool, true, false, List, ◌==◌, Option, Some, None}
use Rattle.text.specs.Numbers.{number_in}
use Rattle.text.specs.Operations.{Named}
use Rattle.time_queries.specs.declared.task.Task.{Task}

abbrev pub NamedTimes : List ℕ → Option ℕ → Option Task → Type 0
NamedTimes name None task = task ≡ None
NamedTimes name (Some times) None = Named name None
NamedTimes name (Some times) (Some task) = Named name (Some task.operation) × (task.times ≡ times)

abbrev pub AskedAs : Bool → List ℕ → List ℕ → Option Task → Type 0
AskedAs true name number task = NamedTimes name (number_in number) task
AskedAs false name number task = task ≡ None

-- two arguments and the program's name; a wrong task is none
abbrev pub Asked : ℕ → List ℕ → List ℕ → Option Task → Type 0
Asked arguments name number task = AskedAs (arguments == 3) name number task
