-- What conforms is equal: the conditions say which refusal is given or that none is, a refusal says all the rest, and of an accepted answer the file, its counts and what fills the
-- slices are said, the file by the grammar that the steps make.
use Prim.Native.Nat.{ℕ, ◌+◌, ◌-◌}
use native.Mathlib.Omega.{arith}
use mathlib.Core.Path.{◌≡◌, refl, sym, ap, ap₂, subst, ◌∙◌}
use mathlib.Core.Logic.{◌≢◌, ◌⊎◌, inl, inr}
use mathlib.Core.List.{List, [], ◌∷◌, ◌++◌}
use mathlib.Core.Option.{Option, none, some}
use lib.Dec.{leb, ltb}
use lib.ListN.{length, take, drop, get_or, replicate, take-append-drop}
use lib.Seq.{length-take-le}
use Rattle.model.specs.Bounds.{largest_file, least_work}
use Rattle.model.specs.Trees.{Rule, tree_of, nodes}
use Rattle.model.specs.Refusals.{Refusal, POSITION, number_of, taken}
use Rattle.model.specs.File.{read, write, after_record}
use Rattle.model.specs.Edits.{Update}
use Rattle.model.specs.Opening.{opened_at}
use Rattle.model.specs.Answers.{Answer, FileAnswer, accepted, refusal, checked, counted, counted_as, label_at, window_at, refused_file, accepted_file, remade, packed, update, pack}
use Rattle.model.specs.Program.{update_in, answer_record, program}
use Rattle.laws.specs.Conditions.{first_in, NoneHolds, First, Condition, decide, file_rules, read_conditions, label_conditions, window_conditions, update_conditions, pack_conditions, program_conditions, refused_count, refused_label, refused_window, answer_in, Exactly, FilledFile}
use Rattle.laws.specs.Returned.{file_of}
use Rattle.laws.specs.Conforming.{Uncounted, CheckConforms, CountConforms, LabelConforms, WindowConforms, UpdateConforms, PackConforms, ProgramConforms, Settles}
use Rattle.laws.proofs.Answers.Conditions.{first_in_iff, first_in_none_iff, none_not_first, none_holds_split, decide_cases, decide_first, decide_none}
use Rattle.laws.proofs.Answers.Refusals.{number_of_positive, read_taken_iff, checked_is, counted_is, label_at_is, window_at_is, updated_file, update_is, pack_is, checked_exactly, counted_exactly, label_at_exactly, window_at_exactly, update_exactly, pack_exactly, window_at_filled, update_filled, pack_filled}
use Rattle.laws.proofs.File.Reading.{read_taken}
use Rattle.laws.proofs.Answers.Returned.{remade_made, packed_made, update_returns, pack_returns}
use Rattle.laws.proofs.Answers.Program.{accepted_output, program_is, program_exactly}
use Rattle.laws.proofs.Answers.Recorded.{program_recorded}

-- either no condition holds, or one comes first
Either : List Condition → Type 0
Either cs = NoneHolds cs ⊎ ((x : Refusal) × (k : ℕ) × First (x, k) cs)

either : (cs : List Condition) → Either cs
unfolding Either
either cs = go (first_in cs) refl
  where
    go : (o : Option (Refusal × ℕ)) → first_in cs ≡ o → Either cs
    go none e = inl ((first_in_none_iff cs).0 e)
    go (some x) e = inr (x.0, x.1, (first_in_iff cs x).0 e)

refused_number : (cs : List Condition) (a : Answer) → Exactly cs a → (x : Refusal) (k : ℕ) → First (x, k) cs → a.number ≢ 0
refused_number cs a p x k f n = none_not_first cs (x, k) (p.accepted_iff.0 n) f

answer_path : {a b : Answer} → a.number ≡ b.number → a.place ≡ b.place → a.opened ≡ b.opened → a.rounds ≡ b.rounds → a.length ≡ b.length → a ≡ b
answer_path n p o r l = λ j. record { number = n j; place = p j; opened = o j; rounds = r j; length = l j }

-- The checker and the queries: "the last three are 0 in a refusal or query".
uncounted_equal : (cs : List Condition) (a b : Answer) → Exactly cs a → Exactly cs b → Uncounted a → Uncounted b → a ≡ b
unfolding Either
uncounted_equal cs a b p q c d = go (either cs)
  where
    go : Either cs → a ≡ b
    go (inl h) =
        let m = p.accepted_iff.1 h in
        let n = q.accepted_iff.1 h in
        answer_path (m ∙ sym n) (p.accepted_place m ∙ sym (q.accepted_place n)) (c.opened ∙ sym d.opened) (c.rounds ∙ sym d.rounds) (c.length ∙ sym d.length)
    go (inr f) = p.refused_as f.0 f.1 f.2 ∙ sym (q.refused_as f.0 f.1 f.2)

-- one more value v, of a query's answer: what a refusal gives, or what the file that is read gives
value_equal : {A : Type 0} (cs : List Condition) (file : List ℕ) → (NoneHolds cs → NoneHolds (read_conditions file)) → (a b : Answer) → Exactly cs a → Exactly cs b
    → (v w refused : A) (given : List Rule → A) → (a.number ≢ 0 → v ≡ refused) → (b.number ≢ 0 → w ≡ refused)
    → (a.number ≡ 0 → (rules : List Rule) → read file ≡ taken rules → v ≡ given rules) → (b.number ≡ 0 → (rules : List Rule) → read file ≡ taken rules → w ≡ given rules) → v ≡ w
unfolding Either
value_equal {A} cs file reads a b p q v w refused given vr wr vg wg = go (either cs)
  where
    go : Either cs → v ≡ w
    go (inl h) =
        let e = (read_taken_iff file (file_rules file)).1 (reads h, refl) in
        vg (p.accepted_iff.1 h) (file_rules file) e ∙ sym (wg (q.accepted_iff.1 h) (file_rules file) e)
    go (inr f) = vr (refused_number cs a p f.0 f.1 f.2) ∙ sym (wr (refused_number cs b q f.0 f.1 f.2))

-- a fact of what is decided, of an answer that is it
decided : {A : Type 0} (P : A → Type 0) (cs : List Condition) (refuse : Refusal → ℕ → A) (accept : A) → ((x : Refusal) (k : ℕ) → P (refuse x k)) → P accept
    → (a : A) → a ≡ decide cs refuse accept → P a
decided P cs refuse accept r s a e = subst P (sym e) (decide_cases refuse P cs accept (λ x k f. r x k) (λ h. s))

no_counts : (x : Refusal) (k : ℕ) → Uncounted (refusal x k)
no_counts x k = record { opened = refl; rounds = refl; length = refl }

accepted_no_counts : Uncounted (accepted 0 0 0)
accepted_no_counts = record { opened = refl; rounds = refl; length = refl }

never_accepted : {A : Type 0} (x : Refusal) → number_of x ≡ 0 → A
never_accepted x n = absurd (omega (arith, number_of_positive x))

pub check_settles : (file : List ℕ) → Settles (CheckConforms file) (checked file)
check_settles file =
    record {
      conforms = record { exactly = checked_exactly file; uncounted = decided Uncounted (read_conditions file) refusal _ no_counts accepted_no_counts (checked file) (checked_is file) };
      equal = λ a b p q. uncounted_equal (read_conditions file) a b p.exactly q.exactly p.uncounted q.uncounted;
    }

pub count_settles : (file : List ℕ) → Settles (CountConforms file) (counted file)
count_settles file =
    record {
      conforms = record {
        exactly = counted_exactly file;
        uncounted = decided (λ x. Uncounted x.answer) cs refused_count _ no_counts accepted_no_counts (counted file) (counted_is file);
        nodes_are = λ rules e. ap (λ z. (counted_as z).nodes) e;
        refused_nodes = decided (λ x. x.answer.number ≢ 0 → x.nodes ≡ 0) cs refused_count _ (λ x k n. refl) (λ n. absurd (n refl)) (counted file) (counted_is file);
      };
      equal = λ a b p q.
          let e = uncounted_equal cs a.answer b.answer p.exactly q.exactly p.uncounted q.uncounted in
          let n : a.nodes ≡ b.nodes =
          value_equal cs file (λ h. h) a.answer b.answer p.exactly q.exactly a.nodes b.nodes 0 nodes p.refused_nodes q.refused_nodes (λ z. p.nodes_are) (λ z. q.nodes_are) in
          λ j. record { answer = e j; nodes = n j };
    }
  where
    cs : List Condition
    cs = read_conditions file

pub label_settles : (file : List ℕ) (p : ℕ) → Settles (LabelConforms file p) (label_at file p)
label_settles file p =
    record {
      conforms = record {
        exactly = label_at_exactly file p;
        uncounted = decided (λ x. Uncounted x.answer) cs refused_label _ no_counts accepted_no_counts (label_at file p) (label_at_is file p);
        word_is = decided (λ x. x.answer.number ≡ 0 → (rules : List Rule) → read file ≡ taken rules → x.word ≡ get_or (tree_of rules) p 0) cs refused_label _ (λ x k n. never_accepted x n)
            (λ n rules e. ap (λ r. get_or (tree_of r) p 0) ((read_taken_iff file rules).0 e).1) (label_at file p) (label_at_is file p);
        refused_word = decided (λ x. x.answer.number ≢ 0 → x.word ≡ 65535) cs refused_label _ (λ x k n. refl) (λ n. absurd (n refl)) (label_at file p) (label_at_is file p);
      };
      equal = λ a b c d.
          let e = uncounted_equal cs a.answer b.answer c.exactly d.exactly c.uncounted d.uncounted in
          let w : a.word ≡ b.word =
          value_equal cs file reads a.answer b.answer c.exactly d.exactly a.word b.word 65535 (λ rules. get_or (tree_of rules) p 0) c.refused_word d.refused_word c.word_is d.word_is in
          λ j. record { answer = e j; word = w j };
    }
  where
    cs : List Condition
    cs = label_conditions file p

    reads : NoneHolds cs → NoneHolds (read_conditions file)
    reads h = (none_holds_split (read_conditions file) ((leb (nodes (file_rules file)) p, (POSITION, 0)) ∷ []) h).0

pub window_settles : (file : List ℕ) (p len : ℕ) → Settles (WindowConforms file p len) (window_at file p len)
window_settles file p len =
    record {
      conforms = record {
        exactly = window_at_exactly file p len;
        uncounted = decided (λ x. Uncounted x.answer) cs (refused_window len) _ no_counts accepted_no_counts (window_at file p len) (window_at_is file p len);
        filled = window_at_filled file p len;
        window_is = decided (λ x. x.answer.number ≡ 0 → (rules : List Rule) → read file ≡ taken rules → x.window ≡ take len (drop p (tree_of rules))) cs (refused_window len) _
            (λ x k n. never_accepted x n) (λ n rules e. ap (λ r. take len (drop p (tree_of r))) ((read_taken_iff file rules).0 e).1) (window_at file p len) (window_at_is file p len);
      };
      equal = λ a b c d.
          let e = uncounted_equal cs a.answer b.answer c.exactly d.exactly c.uncounted d.uncounted in
          let w : a.window ≡ b.window =
          value_equal cs file reads a.answer b.answer c.exactly d.exactly a.window b.window (replicate len 65535) (λ rules. take len (drop p (tree_of rules)))
          c.filled.refused_window_filled d.filled.refused_window_filled c.window_is d.window_is in
          λ j. record { answer = e j; window = w j };
    }
  where
    cs : List Condition
    cs = window_conditions file p len

    reads : NoneHolds cs → NoneHolds (read_conditions file)
    reads h = (none_holds_split (read_conditions file) ((ltb (nodes (file_rules file)) (p + len), (POSITION, 0)) ∷ []) h).0

-- The updater and the packer: an answer that is given exactly under the conditions and fills its slices is decided by its file and its counts.
file_is : (room work : ℕ) (x : FileAnswer) → FilledFile room work x → x.answer.number ≡ 0 → x.answer.place ≡ 0
    → (opened rounds : ℕ) (file : List ℕ) → x.answer.opened ≡ opened → x.answer.rounds ≡ rounds → file_of x ≡ file → x ≡ accepted_file room work opened rounds file
file_is room work x filled n p opened rounds file o r f =
    let long : x.answer.length ≡ length file = sym (length-take-le x.answer.length x.result (omega (arith, filled.file_fits, filled.result_length))) ∙ ap length f in
    let a : x.answer ≡ accepted opened rounds (length file) = answer_path n p o r long in
    let b : x.result ≡ file ++ replicate (room - length file) 255 =
    sym (take-append-drop x.answer.length x.result) ∙ ap₂ (λ (k l : List ℕ). k ++ l) f (filled.after_file ∙ ap (λ (m : ℕ). replicate (room - m) 255) long) in
    λ j. record { answer = a j; result = b j; work = filled.work_zero j }

conforming_is : (cs : List Condition) (room work : ℕ) (accept x : FileAnswer) → Exactly cs x.answer → FilledFile room work x → (x.answer.number ≡ 0 → x ≡ accept)
    → x ≡ decide cs (refused_file room work) accept
unfolding Either
conforming_is cs room work accept x p filled h = go (either cs)
  where
    go : Either cs → x ≡ decide cs (refused_file room work) accept
    go (inl n) = h (p.accepted_iff.1 n) ∙ sym (decide_none (refused_file room work) cs accept n)
    go (inr f) =
        let a = p.refused_as f.0 f.1 f.2 in
        let b = filled.refused_result (refused_number cs x.answer p f.0 f.1 f.2) in
        let same : x ≡ refused_file room work f.0 f.1 = λ j. record { answer = a j; result = b j; work = filled.work_zero j } in
        same ∙ sym (decide_first (refused_file room work) cs accept f.0 f.1 f.2)

update_conforms : (room work : ℕ) (file : List ℕ) (u : Update) → UpdateConforms room work file u (update room work file u)
update_conforms room work file u = record { exactly = update_exactly room work file u; filled = update_filled room work file u; returns = update_returns room work file u }

update_conforming : (room work : ℕ) (file : List ℕ) (u : Update) (x : FileAnswer) → UpdateConforms room work file u x → x ≡ update room work file u
update_conforming room work file u x c =
    conforming_is (update_conditions room work file u) room work (updated_file room work (file_rules file) u) x c.exactly c.filled accepted_is ∙ sym (update_is room work file u)
  where
    accepted_is : x.answer.number ≡ 0 → x ≡ updated_file room work (file_rules file) u
    accepted_is n =
        let r = c.returns n in
        let made = remade_made r.old (read_taken file r.old r.reads).is_formed u r.suits x.answer.rounds r.new r.repacks in
        file_is room work x c.filled n (c.exactly.accepted_place n) (length (opened_at r.old u.at).opened) (remade r.old u).rounds (write (remade r.old u).rules)
        r.opened_is (sym made.1) (r.written ∙ ap write (sym made.0))
        ∙ ap (λ (rules : List Rule). updated_file room work rules u) (sym ((read_taken_iff file r.old).0 r.reads).1)

pub update_settles : (room work : ℕ) (file : List ℕ) (u : Update) → Settles (UpdateConforms room work file u) (update room work file u)
update_settles room work file u =
    record {
      conforms = update_conforms room work file u;
      equal = λ a b c d. update_conforming room work file u a c ∙ sym (update_conforming room work file u b d);
    }

pub pack_settles : (room work : ℕ) (tree : List ℕ) → Settles (PackConforms room work tree) (pack room work tree)
pack_settles room work tree =
    record {
      conforms = record { exactly = pack_exactly room work tree; filled = pack_filled room work tree; returns = pack_returns room work tree };
      equal = λ a b c d. conforming a c ∙ sym (conforming b d);
    }
  where
    conforming : (x : FileAnswer) → PackConforms room work tree x → x ≡ pack room work tree
    conforming x c =
        conforming_is (pack_conditions room work tree) room work (accepted_file room work 0 (packed tree).rounds (write (packed tree).rules)) x c.exactly c.filled
        (λ n.
        let r = c.returns n in
        let made = packed_made tree x.answer.rounds r.new r.repacks in
        file_is room work x c.filled n (c.exactly.accepted_place n) 0 (packed tree).rounds (write (packed tree).rules) r.opened_is (sym made.1) (r.written ∙ ap write (sym made.0)))
        ∙ sym (pack_is room work tree)

-- The program: its record holds the answer, and behind it stands the file.
no_bytes : (l : List ℕ) → length l ≡ 0 → l ≡ []
no_bytes [] e = refl
no_bytes (b ∷ bs) e = absurd (omega arith)

pub program_settles : (input : List ℕ) → Settles (ProgramConforms input) (program input)
unfolding Either
program_settles input =
    record {
      conforms = record {
        exactly = program_exactly input;
        record_first = first (either cs);
        returns = λ ok. (update largest_file least_work file u, update_conforms largest_file least_work file u, (program_recorded input ok).0, (program_recorded input ok).1);
      };
      equal = λ a b c d. c.record_first ∙ both a b c d (either cs) ∙ sym d.record_first;
    }
  where
    bytes : List ℕ
    bytes = take 20495 input

    file : List ℕ
    file = after_record bytes

    u : Update
    u = update_in bytes

    cs : List Condition
    cs = program_conditions bytes

    refuse : Refusal → ℕ → List ℕ
    refuse x k = answer_record (refusal x k)

    first : Either cs → program input ≡ answer_record (answer_in (program input)) ++ after_record (program input)
    first (inl h) =
        let done : FileAnswer = updated_file largest_file least_work (file_rules file) u in
        let written : program input ≡ accepted_output bytes = program_is input ∙ decide_none refuse cs (accepted_output bytes) h in
        let is : update largest_file least_work file u ≡ done = update_is largest_file least_work file u ∙ decide_none (refused_file largest_file least_work) (update_conditions largest_file least_work file u) done h.1 in
        let answer : answer_in (program input) ≡ done.answer = (program_recorded input ((program_exactly input).accepted_iff.1 h)).0 ∙ ap (λ (x : FileAnswer). x.answer) is in
        written ∙ ap₂ (λ (a : Answer) (l : List ℕ). answer_record a ++ l) (sym answer) (sym (ap after_record written))
    first (inr f) =
        let written : program input ≡ refuse f.0 f.1 = program_is input ∙ decide_first refuse cs (accepted_output bytes) f.0 f.1 f.2 in
        written ∙ ap₂ (λ (a : Answer) (l : List ℕ). answer_record a ++ l) (sym ((program_exactly input).refused_as f.0 f.1 f.2)) (sym (ap after_record written))

    both : (a b : List ℕ) → ProgramConforms input a → ProgramConforms input b → Either cs → answer_record (answer_in a) ++ after_record a ≡ answer_record (answer_in b) ++ after_record b
    both a b c d (inl h) =
        let x = c.returns (c.exactly.accepted_iff.1 h) in
        let y = d.returns (d.exactly.accepted_iff.1 h) in
        let same : x.0 ≡ y.0 = (update_settles largest_file least_work file u).equal x.0 y.0 x.1 y.1 in
        ap₂ (λ (n : Answer) (l : List ℕ). answer_record n ++ l) (x.2 ∙ ap (λ (z : FileAnswer). z.answer) same ∙ sym y.2) (x.3 ∙ ap file_of same ∙ sym y.3)
    both a b c d (inr f) =
        let p = c.exactly.refused_as f.0 f.1 f.2 in
        let q = d.exactly.refused_as f.0 f.1 f.2 in
        ap₂ (λ (n : Answer) (l : List ℕ). answer_record n ++ l) (p ∙ sym q)
        (no_bytes (after_record a) (ap (λ (n : Answer). n.length) p) ∙ sym (no_bytes (after_record b) (ap (λ (n : Answer). n.length) q)))
