-- What is returned: an accepted update returns a file whose tree is exactly the old tree with the update made in it, and packing returns a file whose tree is the one packed.
-- Opening keeps the tree, the edit at the opened place is the update of the tree, and dropping and rounds keep it; what is written reads back, since every rule but the start
-- is called and so no size is over N.
use Prim.Native.Nat.{ℕ, zero, suc, ◌+◌, ◌-◌, ◌≤◌, ◌<◌}
use mathlib.Core.Path.{◌≡◌, refl, sym, ap, subst, ◌∙◌}
use mathlib.Core.Bool.{false, not, ◌&&◌}
use mathlib.Core.List.{List, [], ◌∷◌, ◌++◌, append-nil}
use native.Mathlib.Omega.{arith}
use borrow.Author.Tests.{leb-false, ltb-false, eqb-false, le-ltb}
use lib.Dec.{T, leb, ltb, eqb, ltb→lt, leb→le}
use lib.ListN.{length, get_or, replicate}
use lib.Seq.{take-append_seam, take_all}
use mir.Facts.{and_yes}
use Rattle.model.specs.Bounds.{largest_file, largest_size, longest_fragment, longest_tree}
use Rattle.model.specs.Words.{is_tree_word, is_parameter, is_label}
use Rattle.model.specs.Trees.{Rule, all, those, is_plain_tree, is_legal, expand, expansions, ranks_of, start_of, tree_of, nodes}
use Rattle.model.specs.Refusals.{taken}
use Rattle.model.specs.File.{read, write}
use Rattle.model.specs.Edits.{Edit, rename, insert, delete, Update, edited, updated, added, took}
use Rattle.model.specs.Opening.{Opened, opened_at}
use Rattle.model.specs.Dropping.{dropped}
use Rattle.model.specs.Answers.{accepted_file, counted_as, window_as, refused_file, wants_element, label_allowed, fragment_allowed, tree_allowed, update_refusals, file_refusals, pack_refusals, with_start, edited_start, remade, update, packed, pack}
use Rattle.laws.specs.Formed.{formed, Tree, body_at}
use Rattle.laws.specs.Orders.{Suits, SuitsAs}
use Rattle.laws.specs.Conditions.{NoneHolds, at, read_conditions, update_conditions, pack_conditions, file_rules}
use Rattle.laws.specs.Published.{BinaryTree, words_of, tree_in, OneTree, published}
use Rattle.laws.specs.Steps.{Repacks}
use Rattle.laws.specs.Returned.{file_of, answered_window, Expands, UpdateReturns, PackReturns}
use Rattle.laws.proofs.Words.Classes.{explicit_legal, explicit_closed}
use Rattle.laws.proofs.Trees.Grammar.{RuleOf, of_rules, formed_parts, formed_env, expansion_tree, Taken, tree_plain}
use Rattle.laws.proofs.Opening.Walk.{OpenedFrom, opened_from, open_keeps_tree, opened_falls, opened_word}
use Rattle.laws.proofs.Edits.Editing.{plain_tree, expand_before, all_closed, edit_keeps_tree, edit_keeps_legal, edit_keeps_closed, edit_is_update, suits_same, edit_length}
use Rattle.laws.proofs.Edits.WithStart.{closed_not_alone, with_start_formed, with_start_tree}
use Rattle.laws.proofs.Dropping.Dropped.{dropped_formed, dropped_keeps_tree, dropped_called}
use Rattle.laws.proofs.Rounds.Rounding.{rounds_formed, rounds_called}
use Rattle.laws.proofs.Rounds.RoundKeeps.{rounds_keep_tree}
use Rattle.laws.proofs.Rounds.RoundFormed.{AllCalled}
use Rattle.laws.proofs.Sizes.CalledSize.{called_word, called_size}
use Rattle.laws.proofs.File.Written.{write_read}
use Rattle.laws.proofs.Answers.Conditions.{none_holds_split, decide_none}
use Rattle.laws.proofs.Answers.Refusals.{read_taken_iff, updated_file, update_is, pack_is, update_exactly, pack_exactly}
use Rattle.laws.proofs.Words.Lists.{all_imp}
use Rattle.laws.proofs.Words.Tests.{passed}
use Rattle.laws.proofs.File.Reading.{read_taken}
use Rattle.laws.proofs.Edits.Edited.{updated_length}
use Rattle.laws.proofs.Edits.Published.{plain_one, published_words}
use Rattle.laws.proofs.Rounds.Steps.{repacked_repacks, repacks_repacked}

-- the grammar that the steps make of a grammar and an update that has its place in its tree
module _ (rules : List Rule) (f : T (formed rules)) (u : Update) (s : Suits (tree_of rules) u) where
  abbrev o : Opened
  o = opened_at rules u.at

  from : OpenedFrom rules (start_of rules) u.at (length rules - 1) o
  from = opened_from rules f u.at s.0

  same_tree : expand (ranks_of rules) (expansions rules) o.words ≡ tree_of rules
  same_tree = open_keeps_tree rules f u.at s.0

  there : u.at < length (expand (ranks_of rules) (expansions rules) o.words)
  there = subst (λ tree. u.at < length tree) (sym same_tree) s.0

  suits_opened : SuitsAs o.words o.place u.edit
  suits_opened =
      suits_same (tree_of rules) o.words u.at o.place (sym (opened_word rules f u.at s.0)) u.edit s.1

  -- "2. The edit, on the start body": the body's expansion is the updated tree
  pub edited_start_tree : expand (ranks_of rules) (expansions rules) (edited_start rules u) ≡ updated u (tree_of rules)
  edited_start_tree =
      edit_is_update (ranks_of rules) o.words from.tree o.place from.within from.explicit u.edit suits_opened
      (expansions rules) (formed_env rules f) (length rules - 1) (λ j h. expansion_tree rules f j (omega arith)) from.legal u.at there (sym from.owner)
      ∙ ap (edited [] u.edit u.at) same_tree

  pub edited_start_length : length (edited_start rules u) ≤ length o.words + added u.edit
  edited_start_length = omega (arith, edit_length (ranks_of rules) o.words from.tree o.place from.within from.explicit u.edit suits_opened)

  edited_tree : Tree (ranks_of rules) (edited_start rules u)
  edited_tree = edit_keeps_tree (ranks_of rules) o.words from.tree o.place from.within from.explicit u.edit suits_opened

  edited_legal : T (all (is_legal (length rules - 1)) (edited_start rules u))
  edited_legal = edit_keeps_legal (ranks_of rules) o.words from.tree o.place from.within from.explicit u.edit suits_opened (length rules - 1) from.legal

  edited_closed : those is_parameter (edited_start rules u) ≡ []
  edited_closed = edit_keeps_closed (ranks_of rules) o.words from.tree o.place from.within from.explicit u.edit suits_opened from.closed

  start_formed : T (formed (with_start (edited_start rules u) rules))
  start_formed = with_start_formed rules f (edited_start rules u) edited_tree edited_legal edited_closed

  pub kept_formed : T (formed (dropped (with_start (edited_start rules u) rules)))
  kept_formed = dropped_formed (with_start (edited_start rules u) rules) start_formed

  pub remade_formed : T (formed (remade rules u).rules)
  unfolding remade
  remade_formed = rounds_formed (dropped (with_start (edited_start rules u) rules)) kept_formed

  pub remade_tree : tree_of (remade rules u).rules ≡ updated u (tree_of rules)
  unfolding remade
  remade_tree =
      rounds_keep_tree (dropped (with_start (edited_start rules u) rules)) kept_formed
      ∙ dropped_keeps_tree (with_start (edited_start rules u) rules) start_formed
      ∙ with_start_tree rules f (edited_start rules u) edited_tree edited_legal edited_closed
      ∙ edited_start_tree

  pub remade_called : AllCalled (remade rules u).rules
  unfolding remade
  remade_called =
      rounds_called (dropped (with_start (edited_start rules u) rules)) kept_formed
      (λ j h. let (m, above, in-it, c) = dropped_called (with_start (edited_start rules u) rules) start_formed j h in
      (m, above, in-it, called_word j (body_at (dropped (with_start (edited_start rules u) rules)) m) c))

  pub remade_repacks : Repacks (dropped (with_start (edited_start rules u) rules)) (remade rules u).rounds (remade rules u).rules
  unfolding remade
  remade_repacks = repacked_repacks (dropped (with_start (edited_start rules u) rules)) (formed_parts (dropped (with_start (edited_start rules u) rules)) kept_formed).not_many

  -- and no other chain of rounds comes from there
  pub remade_made : (n : ℕ) (last : List Rule) → Repacks (dropped (with_start (edited_start rules u) rules)) n last → ((remade rules u).rules ≡ last) × ((remade rules u).rounds ≡ n)
  unfolding remade
  remade_made n last r =
      repacks_repacked (dropped (with_start (edited_start rules u) rules)) n last (formed_parts (dropped (with_start (edited_start rules u) rules)) kept_formed).not_many r

-- a file that is taken expands to its grammar's tree
pub file_expands : (file : List ℕ) (rules : List Rule) → read file ≡ taken rules → (tree : List ℕ) → tree_of rules ≡ tree → Expands file tree
file_expands file rules reads tree e =
    subst (Expands file) e
    (record {
      count = ap counted_as reads;
      window = ap (window_as 0 n) reads ∙ rw (le-ltb n (0 + n) (omega arith), window_as) (ap answered_window (take_all n (tree_of rules) (omega arith)));
    })
  where
    n : ℕ
    n = length (tree_of rules)

-- a grammar is one that the reader takes if every rule but its start is called and N is within the bounds
called_taken : (rules : List Rule) → T (formed rules) → AllCalled rules → nodes rules ≤ largest_size → (nodes rules ≡ 1 → ⊥) → Taken rules
called_taken rules f called small more =
    record { is_formed = f; sizes = λ j h. omega (arith, called_size rules f called j h); not_empty = more }

-- the result buffer holds the file first
file_of_lem : (room work opened rounds : ℕ) (file : List ℕ) → file_of (accepted_file room work opened rounds file) ≡ file
file_of_lem room work opened rounds file = take-append_seam file (replicate (room - length file) 255)

-- an update that meets none of 12 to 15 has its place in the tree
pub suits : (tree : List ℕ) (u : Update) → leb (length tree) u.at ≡ false → (wants_element u.edit && eqb (get_or tree u.at 0) 0) ≡ false
    → not (label_allowed u.edit) ≡ false → not (fragment_allowed u.edit) ≡ false → Suits tree u
suits tree u position node new_label fragment = (leb-false (length tree) u.at position, go u.edit node new_label fragment)
  where
    go : (e : Edit) → (wants_element e && eqb (get_or tree u.at 0) 0) ≡ false → not (label_allowed e) ≡ false → not (fragment_allowed e) ≡ false → SuitsAs tree u.at e
    go (rename l) n h k = (eqb-false (get_or tree u.at 0) 0 n, passed (is_label l) h)
    go (insert s) n h k = (and_yes (is_plain_tree s) (ltb 1 (length s)) (and_yes (is_plain_tree s && ltb 1 (length s)) (leb (length s) longest_fragment) (passed (tree_allowed longest_fragment s) k)).0).0
    go delete n h k = eqb-false (get_or tree u.at 0) 0 n

pub update_returns : (room work : ℕ) (file : List ℕ) (u : Update) → (update room work file u).answer.number ≡ 0 → UpdateReturns file u (update room work file u)
update_returns room work file u ok = subst (UpdateReturns file u) (sym is) returned
  where
    old : List Rule
    old = file_rules file

    none_holds : NoneHolds (update_conditions room work file u)
    none_holds = (update_exactly room work file u).accepted_iff.0 ok

    is : update room work file u ≡ updated_file room work (file_rules file) u
    is = update_is room work file u ∙ decide_none (refused_file room work) (update_conditions room work file u) (updated_file room work (file_rules file) u) none_holds

    returned : UpdateReturns file u (updated_file room work (file_rules file) u)
    returned =
        let r = none_holds_split (read_conditions file ++ at 0 (update_refusals (tree_of old) u)) (at 0 (file_refusals room (write (remade old u).rules))) none_holds.1 in
        let q = none_holds_split (read_conditions file) (at 0 (update_refusals (tree_of old) u)) r.0 in
        let c = q.1 in
        let reads : read file ≡ taken old = (read_taken_iff file old).1 (q.0, refl) in
        let f : T (formed old) = (read_taken file old reads).is_formed in
        let s : Suits (tree_of old) u = suits (tree_of old) u c.0 c.1.0 c.1.1.0 c.1.1.1.0 in
        let front : file_of (updated_file room work old u) ≡ write (remade old u).rules = file_of_lem room work (length (opened_at old u.at).opened) (remade old u).rounds (write (remade old u).rules) in
        let same : nodes (remade old u).rules ≡ length (updated u (tree_of old)) = ap length (remade_tree old f u s) in
        let back : read (file_of (updated_file room work old u)) ≡ taken (remade old u).rules =
        ap read front ∙ write_read (remade old u).rules
        (called_taken (remade old u).rules (remade_formed old f u s) (remade_called old f u s)
        (omega (arith, same, ltb-false largest_size (length (updated u (tree_of old))) c.1.1.1.1.1.0))
        (λ one. eqb-false (length (updated u (tree_of old))) 1 c.1.1.1.1.0 (sym same ∙ one)))
        (ltb-false largest_file (length (write (remade old u).rules)) r.1.0) in
        let t : BinaryTree = tree_in (tree_of old) in
        let one : OneTree (tree_of old) = plain_one (tree_of old) (tree_plain old f) in
        let made : words_of (published u t) ≡ updated u (tree_of old) =
        published_words t one.is_labelled u (rw one.words s) ∙ ap (updated u) one.words in
        record {
          tree = t;
          is_labelled = one.is_labelled;
          old_tree = file_expands file old reads (words_of t) (sym one.words);
          new_tree = file_expands (file_of (updated_file room work old u)) (remade old u).rules back (words_of (published u t)) (remade_tree old f u s ∙ sym made);
          old = old;
          new = (remade old u).rules;
          reads = reads;
          suits = s;
          written = front;
          reads_back = back;
          nodes_are = ap (λ n. n + took (tree_of old) u) same ∙ updated_length (tree_of old) u (tree_plain old f) s;
          tree_is = remade_tree old f u s;
          opened_is = refl;
          opened_once = (opened_falls old f u.at s.0).0;
          repacks = remade_repacks old f u s;
        }

-- "Packing: the tree becomes the body of a single rule."
abbrev pub single : List ℕ → List Rule
single tree = record { rank = 0; body = tree } ∷ []

module _ (tree : List ℕ) (plain : T (is_plain_tree tree)) where
  single_closed : those is_parameter tree ≡ []
  single_closed = all_closed tree (all_imp is_tree_word (λ w. not (is_parameter w)) explicit_closed tree (plain_tree [] tree plain).1)

  single_rule : (j : ℕ) → j < 1 → RuleOf (single tree) j
  single_rule zero h =
      record {
        rank_small = omega arith;
        legal = all_imp is_tree_word (is_legal 0) (explicit_legal 0) tree (plain_tree [] tree plain).1;
        tree = (plain_tree (0 ∷ []) tree plain).0;
        in_order = single_closed;
        not_alone = closed_not_alone tree single_closed;
      }
  single_rule (suc j) h = absurd (omega arith)

  pub single_formed : T (formed (single tree))
  single_formed = of_rules (single tree) (omega arith) (omega arith) refl single_rule

  single_tree : tree_of (single tree) ≡ tree
  single_tree =
      ap (expand (0 ∷ []) []) (sym (append-nil tree)) ∙ expand_before (0 ∷ []) [] tree [] (plain_tree [] tree plain).1 ∙ append-nil tree

  packed_formed : T (formed (packed tree).rules)
  unfolding packed
  packed_formed = rounds_formed (single tree) single_formed

  packed_tree : tree_of (packed tree).rules ≡ tree
  unfolding packed
  packed_tree = rounds_keep_tree (single tree) single_formed ∙ single_tree

  packed_repacks : Repacks (single tree) (packed tree).rounds (packed tree).rules
  unfolding packed
  packed_repacks = repacked_repacks (single tree) (omega arith)

  packed_called : AllCalled (packed tree).rules
  unfolding packed
  packed_called = rounds_called (single tree) single_formed (λ j h. absurd (omega arith))

pub packed_made : (tree : List ℕ) (n : ℕ) (last : List Rule) → Repacks (single tree) n last → ((packed tree).rules ≡ last) × ((packed tree).rounds ≡ n)
unfolding packed
packed_made tree n last r = repacks_repacked (single tree) n last (omega arith) r

-- a packed file reads back as the tree
pub pack_returns : (room work : ℕ) (tree : List ℕ) → (pack room work tree).answer.number ≡ 0 → PackReturns tree (pack room work tree)
pack_returns room work tree ok = subst (PackReturns tree) (sym is) returned
  where
    none_holds : NoneHolds (pack_conditions room work tree)
    none_holds = (pack_exactly room work tree).accepted_iff.0 ok

    is : pack room work tree ≡ accepted_file room work 0 (packed tree).rounds (write (packed tree).rules)
    is = pack_is room work tree ∙ decide_none (refused_file room work) (pack_conditions room work tree) (accepted_file room work 0 (packed tree).rounds (write (packed tree).rules)) none_holds

    returned : PackReturns tree (accepted_file room work 0 (packed tree).rounds (write (packed tree).rules))
    returned =
        let r = none_holds_split (at 0 (pack_refusals work tree)) (at 0 (file_refusals room (write (packed tree).rules))) none_holds in
        let allowed = and_yes (is_plain_tree tree && ltb 1 (length tree)) (leb (length tree) longest_tree) (passed (tree_allowed longest_tree tree) r.0.1.0) in
        let (plain, more) = and_yes (is_plain_tree tree) (ltb 1 (length tree)) allowed.0 in
        let front = file_of_lem room work 0 (packed tree).rounds (write (packed tree).rules) in
        let same : nodes (packed tree).rules ≡ length tree = ap length (packed_tree tree plain) in
        let back : read (file_of (accepted_file room work 0 (packed tree).rounds (write (packed tree).rules))) ≡ taken (packed tree).rules =
        ap read front ∙ write_read (packed tree).rules
        (called_taken (packed tree).rules (packed_formed tree plain) (packed_called tree plain)
        (omega (arith, same, leb→le (length tree) longest_tree allowed.1))
        (λ one. omega (arith, same, ltb→lt 1 (length tree) more)))
        (ltb-false largest_file (length (write (packed tree).rules)) r.1.0) in
        record {
          new_tree = file_expands (file_of (accepted_file room work 0 (packed tree).rounds (write (packed tree).rules))) (packed tree).rules back tree (packed_tree tree plain);
          new = (packed tree).rules;
          written = front;
          reads_back = back;
          tree_is = packed_tree tree plain;
          opened_is = refl;
          repacks = packed_repacks tree plain;
        }
