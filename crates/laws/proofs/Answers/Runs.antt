-- Accepted calls one by one: each makes on the tree of the file that it gets the update that it asks for, by demand 2. So the last file's tree is the base tree with the updates
-- made on it one after the other.
use Prim.Native.Nat.{ℕ, ◌+◌}
use native.Mathlib.Omega.{arith}
use mathlib.Core.Path.{◌≡◌, refl, sym, ap, subst, ◌∙◌}
use mathlib.Core.List.{List, [], ◌∷◌, ◌++◌}
use lib.Dec.{T}
use borrow.Author.Tests.{le-ltb}
use lib.ListN.{length, take}
use lib.Seq.{take_all}
use Rattle.model.specs.Trees.{Rule, tree_of, nodes}
use Rattle.model.specs.Refusals.{Result, taken, refused}
use Rattle.model.specs.File.{read}
use Rattle.model.specs.Edits.{Update, updated, all_at_once, apart}
use Rattle.model.specs.Answers.{CountAnswer, WindowAnswer, counted_as, window_as}
use Rattle.laws.specs.Orders.{Suits, moved_by, in_order, SuitInOrder, Reordered, Plain}
use Rattle.laws.specs.Returned.{file_of, answered_count, answered_window, Expands}
use Rattle.laws.specs.Runs.{Call, asked, answer_to, AllAccepted, last_file}
use Rattle.laws.proofs.Answers.Refusals.{number_of_positive}
use Rattle.laws.proofs.File.Reading.{read_taken}
use Rattle.laws.proofs.Trees.Grammar.{tree_plain}
use Rattle.laws.proofs.Edits.Several.{several}
use Rattle.laws.proofs.Answers.Returned.{file_expands, update_returns}

same_rules : (x : Result (List Rule)) (rs ss : List Rule) → x ≡ taken rs → x ≡ taken ss → rs ≡ ss
same_rules x rs ss p q = cc

-- a file that expands to a tree is taken, and the tree is its grammar's
pub expands_read : (file tree : List ℕ) → Expands file tree → (rules : List Rule) × (read file ≡ taken rules) × (tree_of rules ≡ tree)
expands_read file tree x = go (read file) refl x.count x.window
  where
    go : (r : Result (List Rule)) → read file ≡ r → counted_as r ≡ answered_count (length tree) → window_as 0 (length tree) r ≡ answered_window tree
        → (rules : List Rule) × (read file ≡ taken rules) × (tree_of rules ≡ tree)
    go (refused y k) e c w = absurd (omega (arith, ap (λ (z : CountAnswer). z.answer.number) c, number_of_positive y))
    go (taken rules) e c w =
        let n : nodes rules ≡ length tree = ap (λ (z : CountAnswer). z.nodes) c in
        let whole : window_as 0 (length tree) (taken rules) ≡ answered_window (take (length tree) (tree_of rules)) = rw (le-ltb (nodes rules) (0 + length tree) (omega arith), window_as) refl in
        (rules, e, sym (take_all (length tree) (tree_of rules) (omega arith)) ∙ ap (λ (z : WindowAnswer). z.window) (sym whole ∙ w))

-- what a run of accepted calls comes to
pub record Ran (base : List ℕ) (made : List Update) (file : List ℕ) (calls : List Call) (tree : List ℕ) : Type 0 where
  pub last : List Rule
  pub reads : read (last_file base made file calls) ≡ taken last
  pub tree_is : tree_of last ≡ in_order base made (asked calls) tree
  pub suit : SuitInOrder base made (asked calls) tree

pub ran : (base : List ℕ) (made : List Update) (file : List ℕ) (rules : List Rule) → read file ≡ taken rules → (calls : List Call) → AllAccepted base made file calls
    → Ran base made file calls (tree_of rules)
ran base made file rules reads [] ok = record { last = rules; reads = reads; tree_is = refl; suit = tt }
ran base made file rules reads (c ∷ cs) ok =
    let u : Update = moved_by base made c.asks in
    let returns = update_returns c.room c.work file u ok.0 in
    let same : tree_of returns.old ≡ tree_of rules = ap tree_of (same_rules (read file) returns.old rules returns.reads reads) in
    let tree : tree_of returns.new ≡ updated u (tree_of rules) = returns.tree_is ∙ ap (updated u) same in
    let rest = ran base (made ++ c.asks ∷ []) (file_of (answer_to base made file c)) returns.new returns.reads_back cs ok.1 in
    record {
      last = rest.last;
      reads = rest.reads;
      tree_is = rest.tree_is ∙ ap (in_order base (made ++ c.asks ∷ []) (asked cs)) tree;
      suit = (
        subst (λ t. Suits t u) same returns.suits,
        subst (SuitInOrder base (made ++ c.asks ∷ []) (asked cs)) tree rest.suit,
      );
    }

-- demand 3: the base with all updates made at once, whatever the order
pub ran_in_any_order : (file base : List ℕ) → Expands file base → (us : List Update) → T (apart base us) → (calls : List Call) → Reordered us (asked calls)
    → AllAccepted base [] file calls → Expands (last_file base [] file calls) (all_at_once us base)
ran_in_any_order file base x us are_apart calls order ok =
    let (rules, reads, tree) = expands_read file base x in
    let run = subst (Ran base [] file calls) tree (ran base [] file rules reads calls ok) in
    let plain = subst Plain tree (tree_plain rules (read_taken file rules reads).is_formed) in
    file_expands (last_file base [] file calls) run.last run.reads (all_at_once us base) (run.tree_is ∙ several base plain us are_apart (asked calls) order run.suit)
