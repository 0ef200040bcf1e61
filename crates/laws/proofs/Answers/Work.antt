-- Why 32,768 words of work area are enough: a file's bodies are short, opening makes the start body no longer than all of them, an insert adds 2,047 words at most, and no step after
-- that makes the bodies longer.
use Prim.Native.Nat.{ℕ, ◌+◌, ◌*◌, ◌≤◌}
use mathlib.Core.Path.{◌≡◌, refl, ap}
use mathlib.Core.Bool.{◌&&◌}
use mathlib.Core.List.{List, [], ◌∷◌}
use mathlib.Core.Option.{some}
use native.Mathlib.Omega.{arith}
use borrow.Author.Tests.{ltb-false}
use mir.Facts.{and_yes}
use lib.Dec.{T, leb, ltb, leb→le}
use lib.ListN.{length}
use Rattle.model.specs.Bounds.{largest_file, longest_fragment, longest_tree}
use Rattle.model.specs.Trees.{Rule, is_plain_tree, start_of, tree_of}
use Rattle.model.specs.Refusals.{taken}
use Rattle.model.specs.File.{read, write}
use Rattle.model.specs.Edits.{Edit, rename, insert, delete, Update, added}
use Rattle.model.specs.Opening.{opened_at}
use Rattle.model.specs.Rounds.{choice, one_round}
use Rattle.model.specs.Answers.{with_start, edited_start, tree_allowed, fragment_allowed}
use Rattle.laws.specs.Formed.{formed}
use Rattle.laws.specs.Orders.{Suits}
use Rattle.laws.specs.Conditions.{read_conditions}
use Rattle.laws.specs.Steps.{Passes, start, round, counted_in}
use Rattle.laws.specs.Work.{body_words, UpdateWords}
use Rattle.laws.proofs.Trees.Grammar.{formed_parts}
use Rattle.laws.proofs.Answers.Refusals.{read_taken_iff}
use Rattle.laws.proofs.File.Written.{Below, bytes_for, write_length}
use Rattle.laws.proofs.File.ReadBack.{read_write}
use Rattle.laws.proofs.Opening.Walk.{opened_short}
use Rattle.laws.proofs.Dropping.Dropped.{dropped_words}
use Rattle.laws.proofs.Rounds.Round.{round_rules}
use Rattle.laws.proofs.Rounds.Rounding.{choice_formed, choice_shorter}
use Rattle.laws.proofs.Rounds.Steps.{unbeaten_choice}
use Rattle.laws.proofs.Answers.Returned.{kept_formed, edited_start_length, single, single_formed}

bytes_words : (rules : List Rule) → bytes_for rules ≡ 8 * length rules + 2 * body_words rules
bytes_words [] = refl
bytes_words (r ∷ rs) = omega (arith, bytes_words rs)

-- a file's bodies
pub file_words : (rules : List Rule) → length (write rules) ≤ largest_file → body_words rules + 4 * length rules ≤ 8187
file_words rules h = omega (arith, write_length rules, bytes_words rules)

pub taken_short : (file : List ℕ) (rules : List Rule) → Below 256 file → read file ≡ taken rules → length (write rules) ≤ largest_file
unfolding read_conditions
taken_short file rules bytes reads =
    omega (arith, ap length (read_write file rules bytes reads), ltb-false largest_file (length file) ((read_taken_iff file rules).0 reads).0.0)

with_start_words : (body : List ℕ) (rules : List Rule) → 1 ≤ length rules → body_words (with_start body rules) + length (start_of rules) ≡ body_words rules + length body
with_start_words body [] h = absurd (omega arith)
with_start_words body (r ∷ []) h = omega arith
with_start_words body (r ∷ s ∷ rs) h = omega (arith, with_start_words body (s ∷ rs) (omega arith))

-- a round makes the bodies shorter: what it adds is a rule
passes_words : {rules later : List Rule} {n : ℕ} → T (formed rules) → Passes rules n later → body_words later ≤ body_words rules
passes_words f start = omega arith
passes_words f (round {rules} {later} {n} {d} room u p) =
    let next : List Rule = one_round d rules in
    let e : choice rules ≡ some (counted_in rules d) = unbeaten_choice rules d u in
    omega (
      arith,
      passes_words (choice_formed rules (counted_in rules d) f e room) p,
      choice_shorter rules (counted_in rules d) f e,
      write_length next,
      write_length rules,
      bytes_words next,
      bytes_words rules,
      round_rules d rules,
    )

allowed_long : (longest : ℕ) (s : List ℕ) → T (tree_allowed longest s) → length s ≤ longest
allowed_long longest s t = leb→le (length s) longest (and_yes (is_plain_tree s && ltb 1 (length s)) (leb (length s) longest) t).1

added_short : (e : Edit) → T (fragment_allowed e) → added e ≤ 2047
added_short (rename l) t = omega arith
added_short (insert s) t = omega (arith, allowed_long longest_fragment s t)
added_short delete t = omega arith

pub update_words : (rules : List Rule) → T (formed rules) → length (write rules) ≤ largest_file → (u : Update) → Suits (tree_of rules) u → T (fragment_allowed u.edit) → UpdateWords rules u
update_words rules f h u s t =
    record {
      opened = omega (arith, open_words);
      edited = edited_words;
      whole = whole_words;
      rounds = λ n later p. omega (arith, passes_words (kept_formed rules f u s) p, dropped_words (with_start (edited_start rules u) rules), whole_words);
    }
  where
    open_words : length (opened_at rules u.at).words ≤ 8183
    open_words = omega (arith, opened_short rules f u.at s.0, file_words rules h, (formed_parts rules f).some)

    edited_words : length (edited_start rules u) ≤ 10230
    edited_words = omega (arith, open_words, edited_start_length rules f u s, added_short u.edit t)

    whole_words : body_words (with_start (edited_start rules u) rules) ≤ 18413
    whole_words = omega (arith, edited_words, with_start_words (edited_start rules u) rules (formed_parts rules f).some, file_words rules h, (formed_parts rules f).some)

-- "trees for packing at most 16,384"
pub pack_words : (tree : List ℕ) → T (tree_allowed longest_tree tree) → (n : ℕ) (later : List Rule) → Passes (single tree) n later → body_words later ≤ 16384
pack_words tree t n later p =
    let plain = (and_yes (is_plain_tree tree) (ltb 1 (length tree)) (and_yes (is_plain_tree tree && ltb 1 (length tree)) (leb (length tree) longest_tree) t).0).0 in
    omega (arith, passes_words (single_formed tree plain) p, allowed_long longest_tree tree t)
