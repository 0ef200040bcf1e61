-- What the operations are called by where a program is asked for one.
use Rattle.std.specs.Prelude.{◌≡◌, ℕ, List, [], ◌∷◌, ◌≢◌, Option, Some, None}
use Rattle.text.specs.declared.operations.Operation.{Operation}
use Rattle.text.specs.declared.operations.Operation.TheVariants.{Check, Count, Label, Window}

-- "check", "count", "label" and "window"
abbrev pub check_name : List ℕ
check_name = 99 ∷ 104 ∷ 101 ∷ 99 ∷ 107 ∷ []

abbrev pub count_name : List ℕ
count_name = 99 ∷ 111 ∷ 117 ∷ 110 ∷ 116 ∷ []

abbrev pub label_name : List ℕ
label_name = 108 ∷ 97 ∷ 98 ∷ 101 ∷ 108 ∷ []

abbrev pub window_name : List ℕ
window_name = 119 ∷ 105 ∷ 110 ∷ 100 ∷ 111 ∷ 119 ∷ []

-- the operation of a name; the names differ, so that there is one at most
abbrev pub Named : List ℕ → Option Operation → Type 0
Named name (Some Check) = name ≡ check_name
Named name (Some Count) = name ≡ count_name
Named name (Some Label) = name ≡ label_name
Named name (Some Window) = name ≡ window_name
Named name None = (name ≢ check_name) × (name ≢ count_name) × (name ≢ label_name) × (name ≢ window_name)
