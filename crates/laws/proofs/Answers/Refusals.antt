-- A refusal is given exactly under its condition: for each operation, an answer has a refusal's number if and only if the refusal's condition
-- holds and none before it in the page's order does.
use Prim.Native.Nat.{ℕ, zero, suc, ◌+◌, ◌-◌, ◌≤◌}
use native.Mathlib.Nat.{sub-zero}
use native.Mathlib.Omega.{arith}
use mathlib.Core.Path.{◌≡◌, refl, sym, ap, ◌∙◌, subst}
use mathlib.Core.Logic.{◌↔◌, inr, inl}
use mathlib.Core.Bool.{Bool, true, false, cond}
use mathlib.Core.List.{List, [], ◌∷◌, ◌++◌}
use mathlib.Core.Option.{Option, none, some}
use lib.Dec.{T, leb→le, leb, ltb, eqb, eqb-suc-zero}
use lib.ListN.{length, take, drop, get_or, replicate, length-append, length-take, length-drop, length-replicate}
use lib.Seq.{drop-append_seam}
use borrow.Author.Tests.{ltb-false}
use mir.Facts.{and_yes}
use Rattle.model.specs.Bounds.{largest_file, largest_size, least_work}
use Rattle.model.specs.Words.{within}
use Rattle.model.specs.Trees.{Rule, ranks_of, expansions, tree_of, nodes, size, lowest_huge}
use Rattle.model.specs.Refusals.{Refusal, SHORT, KIND, LENGTH, HEAD, RANK, SYMBOL, BODY, TRAIL, LARGE, HUGE, EMPTY, POSITION, NODE, LABEL, TREE, NOTHING_LEFT, OUTGROWN, FULL, ROOM, WORK, REQUEST, number_of, every_refusal, first_of, Result, taken, refused}
use Rattle.model.specs.File.{read, read_rules, read_whole, head_refusals, rule_refusals, rule_count, rule_in, after_record, write}
use Rattle.model.specs.Edits.{Update}
use Rattle.model.specs.Opening.{opened_at}
use Rattle.model.specs.Rounds.{Repacked}
use Rattle.model.specs.Answers.{Answer, FileAnswer, accepted, refusal, checked, checked_as, counted, counted_as, label_as, label_at, window_as, window_at, refused_file, accepted_file, update_refusals, file_refusals, pack_refusals, finished, finished_as, remade, packed, update, update_as, pack}
use Rattle.laws.specs.Conditions.{first_in, NoneHolds, First, Condition, at, decide, huge_conditions, whole_conditions, rules_conditions, rules_from, file_rules, read_conditions, label_conditions, window_conditions, update_conditions, pack_conditions, refused_count, refused_label, refused_window, Exactly, FilledFile, FilledWindow}
use Rattle.laws.proofs.Answers.Conditions.{none_holds_split, decide_cons, decide_append, decide_snoc, decide_at, decide_map, decide_cases, decide_first, decide_none, first_unique, none_not_first}

-- A number tells its refusal, and none is 0, the number of an accepted answer.
numbered : (x : Refusal) → T (within 1 21 (number_of x)) × (get_or every_refusal (number_of x - 1) SHORT ≡ x)
numbered SHORT = (tt, refl)
numbered KIND = (tt, refl)
numbered LENGTH = (tt, refl)
numbered HEAD = (tt, refl)
numbered RANK = (tt, refl)
numbered SYMBOL = (tt, refl)
numbered BODY = (tt, refl)
numbered TRAIL = (tt, refl)
numbered LARGE = (tt, refl)
numbered HUGE = (tt, refl)
numbered EMPTY = (tt, refl)
numbered POSITION = (tt, refl)
numbered NODE = (tt, refl)
numbered LABEL = (tt, refl)
numbered TREE = (tt, refl)
numbered NOTHING_LEFT = (tt, refl)
numbered OUTGROWN = (tt, refl)
numbered FULL = (tt, refl)
numbered ROOM = (tt, refl)
numbered WORK = (tt, refl)
numbered REQUEST = (tt, refl)

pub number_of_injective : (x y : Refusal) → number_of x ≡ number_of y → x ≡ y
number_of_injective x y e = sym (numbered x).1 ∙ ap (λ (n : ℕ). get_or every_refusal (n - 1) SHORT) e ∙ (numbered y).1

pub number_of_positive : (x : Refusal) → 1 ≤ number_of x
number_of_positive x = leb→le 1 (number_of x) (and_yes (leb 1 (number_of x)) (leb (number_of x) 21) (numbered x).0).0

pub number_of_small : (x : Refusal) → number_of x ≤ 21
number_of_small x = leb→le (number_of x) 21 (and_yes (leb 1 (number_of x)) (leb (number_of x) 21) (numbered x).0).1

-- What the reader and each operation are: the refusal of the first condition that holds, or else what is accepted.
huge_is : {A : Type 0} (refuse : Refusal → ℕ → A) (r : ℕ) (es : List (List ℕ)) (accept : A)
    → elim (lowest_huge r es) [ some j ↦ refuse HUGE (suc j) | none ↦ accept ] ≡ decide (huge_conditions r es) refuse accept
huge_is refuse r [] accept = refl
huge_is {A} refuse r (e ∷ es) accept =
    elim (ltb largest_size (size e)) as (λ b. ◌≡◌ {A = A} (elim (cond b (some r) (lowest_huge (suc r) es)) [ some j ↦ refuse HUGE (suc j) | none ↦ accept ])
    (elim (elim b as (λ z. Option (Refusal × ℕ)) [ true ↦ some (HUGE, suc r) | false ↦ first_in (huge_conditions (suc r) es) ]) [ some x ↦ refuse x.0 x.1 | none ↦ accept ]))
    [ true ↦ refl | false ↦ huge_is refuse (suc r) es accept ]

whole_is : (rules : List Rule) (bytes : List ℕ) → read_whole rules bytes ≡ decide (whole_conditions rules bytes) refused (taken rules)
whole_is rules (b ∷ bs) = rw eqb-suc-zero
whole_is rules [] =
    huge_is refused 0 (expansions rules) (elim (eqb (nodes rules) 1) [ true ↦ refused EMPTY 0 | false ↦ taken rules ])
    ∙ decide_snoc refused (huge_conditions 0 (expansions rules)) (eqb (nodes rules) 1, (EMPTY, 0)) (taken rules)

rules_is : (due : ℕ) (rules : List Rule) (bytes : List ℕ) → read_rules due rules bytes ≡ decide (rules_conditions due rules bytes) refused (taken (rules_from due rules bytes))
rules_is zero rules bytes = whole_is rules bytes
rules_is (suc due) rules bytes =
    decide_at refused (suc (length rules)) here (read_rules due (rules ++ rule_in bytes ∷ []) (after_record bytes))
    ∙ ap (decide (at (suc (length rules)) here) refused) (rules_is due (rules ++ rule_in bytes ∷ []) (after_record bytes))
    ∙ decide_append refused (at (suc (length rules)) here) (rules_conditions due (rules ++ rule_in bytes ∷ []) (after_record bytes)) (taken (rules_from (suc due) rules bytes))
  where
    here : List (Bool × Refusal)
    here = rule_refusals (ranks_of rules) (eqb due 0) bytes

pub read_is : (file : List ℕ) → read file ≡ decide (read_conditions file) refused (taken (file_rules file))
unfolding read file_rules read_conditions
read_is file =
    ap (λ (z : Result (List Rule)). elim (ltb largest_file (length file)) [ true ↦ refused LARGE 0 | false ↦ z ])
    (decide_at refused 0 (head_refusals file) (read_rules (rule_count file) [] (after_record file))
    ∙ ap (decide (at 0 (head_refusals file)) refused) (rules_is (rule_count file) [] (after_record file))
    ∙ decide_append refused (at 0 (head_refusals file)) rules (taken (file_rules file)))
    ∙ decide_cons refused (ltb largest_file (length file), (LARGE, 0)) (at 0 (head_refusals file) ++ rules) (taken (file_rules file))
  where
    rules : List Condition
    rules = rules_conditions (rule_count file) [] (after_record file)

-- the reader takes a file exactly when no condition holds, and refuses exactly as the first that holds says
pub read_taken_iff : (file : List ℕ) (rules : List Rule) → (read file ≡ taken rules) ↔ (NoneHolds (read_conditions file) × (file_rules file ≡ rules))
read_taken_iff file rules = (
  λ e. decide_cases refused (λ (z : Result (List Rule)). z ≡ taken rules → NoneHolds (read_conditions file) × (file_rules file ≡ rules)) (read_conditions file) (taken (file_rules file))
      (λ x k f g. absurd (let z : ◌≡◌ {A = ℕ} 0 1 = cc in omega arith)) (λ h g. (h, cc)) (sym (read_is file) ∙ e),
  λ h. read_is file ∙ decide_none refused (read_conditions file) (taken (file_rules file)) h.0 ∙ ap taken h.1,
)

pub read_refused_iff : (file : List ℕ) (x : Refusal) (k : ℕ) → (read file ≡ refused x k) ↔ First (x, k) (read_conditions file)
read_refused_iff file x k = (
  λ e. decide_cases refused (λ (z : Result (List Rule)). z ≡ refused x k → First (x, k) (read_conditions file)) (read_conditions file) (taken (file_rules file))
      (λ y m f g. subst (λ (z : Refusal × ℕ). First z (read_conditions file)) (same y m g) f) (λ h g. absurd (let z : ◌≡◌ {A = ℕ} 0 1 = cc in omega arith)) (sym (read_is file) ∙ e),
  λ f. read_is file ∙ decide_first refused (read_conditions file) (taken (file_rules file)) x k f,
)
  where
    same : (y : Refusal) (m : ℕ) → ◌≡◌ {A = Result (List Rule)} (refused y m) (refused x k) → ◌≡◌ {A = Refusal × ℕ} (y, m) (x, k)
    same y m g = cc

pub checked_is : (file : List ℕ) → checked file ≡ decide (read_conditions file) refusal (accepted 0 0 0)
checked_is file = ap checked_as (read_is file) ∙ decide_map refused checked_as (read_conditions file) (taken (file_rules file))

pub counted_is : (file : List ℕ) → counted file ≡ decide (read_conditions file) refused_count (record { answer = accepted 0 0 0; nodes = nodes (file_rules file) })
counted_is file = ap counted_as (read_is file) ∙ decide_map refused counted_as (read_conditions file) (taken (file_rules file))

pub label_at_is : (file : List ℕ) (p : ℕ)
    → label_at file p ≡ decide (label_conditions file p) refused_label (record { answer = accepted 0 0 0; word = get_or (tree_of (file_rules file)) p 0 })
label_at_is file p =
    ap (label_as p) (read_is file)
    ∙ decide_map refused (label_as p) (read_conditions file) (taken (file_rules file))
    ∙ decide_snoc refused_label (read_conditions file) (leb (nodes (file_rules file)) p, (POSITION, 0)) (record { answer = accepted 0 0 0; word = get_or (tree_of (file_rules file)) p 0 })

pub window_at_is : (file : List ℕ) (p len : ℕ)
    → window_at file p len
    ≡ decide (window_conditions file p len) (refused_window len) (record { answer = accepted 0 0 0; window = take len (drop p (tree_of (file_rules file))) })
window_at_is file p len =
    ap (window_as p len) (read_is file)
    ∙ decide_map refused (window_as p len) (read_conditions file) (taken (file_rules file))
    ∙ decide_snoc (refused_window len) (read_conditions file) (ltb (nodes (file_rules file)) (p + len), (POSITION, 0))
    (record { answer = accepted 0 0 0; window = take len (drop p (tree_of (file_rules file))) })

finished_is : (room work opened : ℕ) (r : Repacked)
    → finished room work opened r ≡ decide (at 0 (file_refusals room (write r.rules))) (refused_file room work) (accepted_file room work opened r.rounds (write r.rules))
finished_is room work opened r =
    go (first_of (file_refusals room (write r.rules)))
    ∙ decide_at (refused_file room work) 0 (file_refusals room (write r.rules)) (accepted_file room work opened r.rounds (write r.rules))
  where
    go : (o : Option Refusal) → finished_as room work opened r.rounds (write r.rules) o
        ≡ elim o [ some x ↦ refused_file room work x 0 | none ↦ accepted_file room work opened r.rounds (write r.rules) ]
    go (some x) = refl
    go none = refl

-- what an accepted update gives
abbrev pub updated_file : ℕ → ℕ → List Rule → Update → FileAnswer
updated_file room work rules u = accepted_file room work (length (opened_at rules u.at).opened) (remade rules u).rounds (write (remade rules u).rules)

pub update_is : (room work : ℕ) (file : List ℕ) (u : Update)
    → update room work file u ≡ decide (update_conditions room work file u) (refused_file room work) (updated_file room work (file_rules file) u)
unfolding update
update_is room work file u =
    ap (λ (z : FileAnswer). elim (ltb work least_work) [ true ↦ refuse WORK 0 | false ↦ z ])
    (ap (update_as room work u) (read_is file)
    ∙ decide_map refused (update_as room work u) (read_conditions file) (taken (file_rules file))
    ∙ ap (decide (read_conditions file) refuse) (decide_at refuse 0 (update_refusals (tree_of (file_rules file)) u) done)
    ∙ decide_append refuse (read_conditions file) (at 0 (update_refusals (tree_of (file_rules file)) u)) done
    ∙ ap (decide before refuse) (finished_is room work (length (opened_at (file_rules file) u.at).opened) (remade (file_rules file) u))
    ∙ decide_append refuse before (at 0 (file_refusals room (write (remade (file_rules file) u).rules))) (updated_file room work (file_rules file) u))
    ∙ decide_cons refuse (ltb work least_work, (WORK, 0)) (before ++ at 0 (file_refusals room (write (remade (file_rules file) u).rules))) (updated_file room work (file_rules file) u)
  where
    refuse : Refusal → ℕ → FileAnswer
    refuse x k = refused_file room work x k

    done : FileAnswer
    done = finished room work (length (opened_at (file_rules file) u.at).opened) (remade (file_rules file) u)

    before : List Condition
    before = read_conditions file ++ at 0 (update_refusals (tree_of (file_rules file)) u)

pub pack_is : (room work : ℕ) (tree : List ℕ)
    → pack room work tree ≡ decide (pack_conditions room work tree) (refused_file room work) (accepted_file room work 0 (packed tree).rounds (write (packed tree).rules))
unfolding pack
pack_is room work tree =
    decide_at (refused_file room work) 0 (pack_refusals work tree) (finished room work 0 (packed tree))
    ∙ ap (decide (at 0 (pack_refusals work tree)) (refused_file room work)) (finished_is room work 0 (packed tree))
    ∙ decide_append (refused_file room work) (at 0 (pack_refusals work tree)) (at 0 (file_refusals room (write (packed tree).rules)))
    (accepted_file room work 0 (packed tree).rounds (write (packed tree).rules))

-- A refusal's number tells that its condition was the first to hold; `answer` is what an operation's whole result says.
pub exactly : {A : Type 0} (answer : A → Answer) (cs : List Condition) (refuse : Refusal → ℕ → A) (accept : A)
    → ((x : Refusal) (k : ℕ) → First (x, k) cs → answer (refuse x k) ≡ refusal x k) → (answer accept).number ≡ 0 → (answer accept).place ≡ 0
    → (a : A) → a ≡ decide cs refuse accept → Exactly cs (answer a)
exactly {A} answer cs refuse accept says number place a e =
    subst (λ (b : A). Exactly cs (answer b)) (sym e) (decide_cases refuse (λ b. Exactly cs (answer b)) cs accept
    (λ x k f.
    let is : (answer (refuse x k)).number ≡ number_of x = ap (λ (b : Answer). b.number) (says x k f) in
    record {
      ends = inr (x, is);
      once = λ y z p q. number_of_injective y z (sym p ∙ q);
      accepted_iff = (λ n. absurd (omega (arith, number_of_positive x)), λ h. absurd (none_not_first cs (x, k) h f));
      accepted_place = λ n. absurd (omega (arith, number_of_positive x));
      refused_iff = λ y. (
        λ n. (k, subst (λ (z : Refusal). First (z, k) cs) (number_of_injective x y (sym is ∙ n)) f),
        λ h. is ∙ ap (λ (z : Refusal × ℕ). number_of z.0) (first_unique cs (x, k) (y, h.0) f h.1),
      );
      refused_as = λ y m h. says x k f ∙ ap (λ (z : Refusal × ℕ). refusal z.0 z.1) (first_unique cs (x, k) (y, m) f h);
    })
    (λ h.
    record {
      ends = inl number;
      once = λ y z p q. number_of_injective y z (sym p ∙ q);
      accepted_iff = (λ n. h, λ n. number);
      accepted_place = λ n. place;
      refused_iff = λ y. (λ n. absurd (omega (arith, number_of_positive y)), λ f. absurd (none_not_first cs (y, f.0) h f.1));
      refused_as = λ y m f. absurd (none_not_first cs (y, m) h f);
    }))

-- Exactly under its condition, operation by operation
pub checked_exactly : (file : List ℕ) → Exactly (read_conditions file) (checked file)
checked_exactly file = exactly (λ x. x) (read_conditions file) refusal _ (λ x k h. refl) refl refl (checked file) (checked_is file)

pub counted_exactly : (file : List ℕ) → Exactly (read_conditions file) (counted file).answer
counted_exactly file = exactly (λ x. x.answer) (read_conditions file) refused_count _ (λ x k h. refl) refl refl (counted file) (counted_is file)

pub label_at_exactly : (file : List ℕ) (p : ℕ) → Exactly (label_conditions file p) (label_at file p).answer
label_at_exactly file p = exactly (λ x. x.answer) (label_conditions file p) refused_label _ (λ x k h. refl) refl refl (label_at file p) (label_at_is file p)

pub window_at_exactly : (file : List ℕ) (p len : ℕ) → Exactly (window_conditions file p len) (window_at file p len).answer
window_at_exactly file p len =
    exactly (λ x. x.answer) (window_conditions file p len) (refused_window len) _ (λ x k h. refl) refl refl (window_at file p len) (window_at_is file p len)

pub update_exactly : (room work : ℕ) (file : List ℕ) (u : Update) → Exactly (update_conditions room work file u) (update room work file u).answer
update_exactly room work file u =
    exactly (λ x. x.answer) (update_conditions room work file u) (refused_file room work) _ (λ x k h. refl) refl refl (update room work file u) (update_is room work file u)

pub pack_exactly : (room work : ℕ) (tree : List ℕ) → Exactly (pack_conditions room work tree) (pack room work tree).answer
pack_exactly room work tree =
    exactly (λ x. x.answer) (pack_conditions room work tree) (refused_file room work) _ (λ x k h. refl) refl refl (pack room work tree) (pack_is room work tree)

-- The lent slices.
file_filled : (room work opened rounds : ℕ) (file : List ℕ) (before : List Condition) (x : FileAnswer)
    → x ≡ decide (before ++ at 0 (file_refusals room file)) (refused_file room work) (accepted_file room work opened rounds file) → FilledFile room work x
file_filled room work opened rounds file before x e =
    subst (FilledFile room work) (sym e) (decide_cases (refused_file room work) (FilledFile room work) (before ++ at 0 (file_refusals room file)) (accepted_file room work opened rounds file)
    (λ y k f.
    record {
      result_length = length-replicate room 255;
      work_length = length-replicate work 0;
      work_zero = refl;
      refused_result = λ n. refl;
      file_fits = omega arith;
      after_file = ap (λ (n : ℕ). replicate n 255) (sym (sub-zero room));
    })
    (λ h.
    let fits : length file ≤ room = ltb-false room (length file) (none_holds_split before (at 0 (file_refusals room file)) h).1.1.0 in
    record {
      result_length = length-append file (replicate (room - length file) 255) ∙ simp length-replicate (omega arith);
      work_length = length-replicate work 0;
      work_zero = refl;
      refused_result = λ n. absurd (n refl);
      file_fits = fits;
      after_file = drop-append_seam file (replicate (room - length file) 255);
    }))

pub update_filled : (room work : ℕ) (file : List ℕ) (u : Update) → FilledFile room work (update room work file u)
update_filled room work file u =
    file_filled room work _ _ (write (remade (file_rules file) u).rules) ((ltb work least_work, (WORK, 0)) ∷ (read_conditions file ++ at 0 (update_refusals (tree_of (file_rules file)) u)))
    (update room work file u) (update_is room work file u)

pub pack_filled : (room work : ℕ) (tree : List ℕ) → FilledFile room work (pack room work tree)
pack_filled room work tree = file_filled room work _ _ (write (packed tree).rules) (at 0 (pack_refusals work tree)) (pack room work tree) (pack_is room work tree)

pub window_at_filled : (file : List ℕ) (p len : ℕ) → FilledWindow len (window_at file p len)
window_at_filled file p len =
    subst (FilledWindow len) (sym (window_at_is file p len)) (decide_cases (refused_window len) (FilledWindow len) (window_conditions file p len) _
    (λ x k f. record { window_length = length-replicate len 65535; refused_window_filled = λ n. refl })
    (λ h.
    let fits : p + len ≤ nodes (file_rules file) = ltb-false (nodes (file_rules file)) (p + len) (none_holds_split (read_conditions file) ((ltb (nodes (file_rules file)) (p + len), (POSITION, 0)) ∷ []) h).1.0 in
    record { window_length = simp (length-take, length-drop) (omega arith); refused_window_filled = λ n. absurd (n refl) }))
