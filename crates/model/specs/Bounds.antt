-- Document 01's bounds, each under its sentence. The definitions name them from here; proofs/Bounds has a row on both sides of each.
use Rattle.std.specs.Prelude.{ℕ, ◌+◌, ◌^◌, Bool, ltb}

-- "Trees and words": the table's row "1 to 32,767", and "A rule of rank k (0 to 4)"
abbrev pub largest_label : ℕ
largest_label = 32767

abbrev pub largest_rank : ℕ
largest_rank = 4

-- "Head, kind 1, payload 4 bytes: edition (1), rule count n (1 to 256), 16 bits each." "The payload is even and at least 4 bytes."
abbrev pub head_bytes : ℕ
head_bytes = 4

abbrev pub edition : ℕ
edition = 1

abbrev pub most_rules : ℕ
most_rules = 256

abbrev pub least_rule_bytes : ℕ
least_rule_bytes = 4

-- "A file is at most 16,384 bytes. A rule's size is at most 2^40. Fragments have at most 2,048 words, trees for packing at most 16,384. The work area is
-- lent, at least 32,768 16-bit words."
abbrev pub largest_file : ℕ
largest_file = 16384

abbrev pub largest_size : ℕ
largest_size = 2 ^ 40

abbrev pub is_huge : ℕ → Bool
is_huge size = ltb largest_size size

abbrev pub longest_fragment : ℕ
longest_fragment = 2048

abbrev pub longest_tree : ℕ
longest_tree = 16384

abbrev pub least_work : ℕ
least_work = 32768

-- "Kind 16 rename: position (64 bits), label (16). Kind 17 delete: position. Kind 18 insert: position, fragment words, payload even and 8 to 4,104 bytes."
abbrev pub rename_bytes : ℕ
rename_bytes = 10

abbrev pub delete_bytes : ℕ
delete_bytes = 8

abbrev pub least_insert_bytes : ℕ
least_insert_bytes = 8

abbrev pub most_insert_bytes : ℕ
most_insert_bytes = 4104

-- "It reads at most 20,495 bytes, enough to decide every answer": the longest update record with its six header bytes, the largest file, and one byte over it
abbrev pub most_read : ℕ
most_read = 6 + most_insert_bytes + largest_file + 1

-- "FFFF hex is illegal on purpose: it fills a refused window." "A refused call fills the whole result buffer with FF"
abbrev pub no_word : ℕ
no_word = 0xFFFF

abbrev pub no_byte : ℕ
no_byte = 0xFF
