-- How the input changes from call to call.
use Rattle.std.specs.Prelude.{ℕ, zero, suc, ◌+◌, ◌-◌, ◌/◌, ◌%◌, ◌^◌, cond, List, length, ◌==◌, nat_le, nat_lt, slice_index, slice_set}

-- a byte with its lowest bit changed
abbrev pub other : ℕ → ℕ
other b = cond (b % 2 == 0) (b + 1) (b - 1)

-- the first word of rule 0's body changed by 256
abbrev pub flipped : List ℕ → List ℕ
flipped file = cond (nat_le 20 (length file)) (slice_set file 19 (other (slice_index file 19))) file

-- the file of call i
abbrev pub varied : List ℕ → ℕ → List ℕ
varied file zero = file
varied file (suc i) = flipped (varied file i)

abbrev pub next_start : ℕ → ℕ → ℕ
next_start starts p = (p + 618033988749) % 2 ^ 64 % starts

-- the position of call i
abbrev pub start_at : ℕ → ℕ → ℕ
start_at starts zero = 0
start_at starts (suc i) = next_start starts (start_at starts i)

-- how many positions a window can start at
abbrev pub starts_of : ℕ → ℕ → ℕ
starts_of nodes length = cond (nat_lt nodes length) 1 (nodes - length + 1)

abbrev pub window_length : ℕ → ℕ
window_length nodes = cond (nat_lt nodes 510) (nodes / 2 + 1) 256
