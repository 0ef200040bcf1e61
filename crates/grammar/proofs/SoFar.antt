-- What is held between two rules' records: the rules read so far, the table's entries for them, and the place of the next record.
use Prim.Native.Nat.{ℕ, suc, ◌+◌, ◌-◌, ◌*◌, ◌≤◌, ◌<◌}
use mathlib.Core.Path.{◌≡◌, refl, sym, ap, ◌∙◌, subst}
use mathlib.Core.Bool.{Bool}
use mathlib.Core.List.{List, [], ◌∷◌, ◌++◌}
use lib.Dec.{eqb}
use native.Mathlib.Nat.{sub-zero}
use native.Mathlib.Numerals.{add-one}
use native.Mathlib.Decide.{dec_lt}
use native.Mathlib.Omega.{arith}
use lib.ListN.{length, take, drop, get_or, set, length-append, get_or-append, get_or-eq_default}
use lib.Seq.{sets, length-sets, get_or_at}
use Rattle.model.specs.Refusals.{Refusal, taken, refused}
use Rattle.model.specs.File.{rule_in, after_record}
use Rattle.model.specs.Trees.{Rule, ranks_of}
use Rattle.laws.proofs.Trees.Grammar.{length_ranks, ranks_append}
use Rattle.grammar.specs.declared.rules.Entry.{Entry}
use Rattle.grammar.specs.Meaning.{body_in, ranks_in, RanksSmall, rule_result, rules_in, after_rules, read_records, entries, Bodies, place_after, RulesTaken}
use Rattle.grammar.proofs.RuleRecords.{RuleThere, rule_there, rule_not_there}
use Rattle.grammar.proofs.RuleLists.{rules_snoc, after_snoc, entries_snoc, length_entries, place_snoc, bodies_snoc, sets_append, ranks_of_entries, front_entered, last_due, read_on, read_refused}

-- n rules are due in all, the first r are rs; the next record is at `at`
pub record SoFar (file : List ℕ) (n : ℕ) (table₀ table : List Entry) (at r : ℕ) (rs : List Rule) : Type 0 where
  pub not_past : r ≤ n
  pub within : at ≤ length file
  pub many : length rs ≡ r
  pub reading : read_records n [] (drop 10 file) ≡ read_records (n - r) rs (drop at file)
  pub rest : drop at file ≡ after_rules r (drop 10 file)
  pub place : at + 8 ≡ place_after 18 rs
  pub entered : table ≡ sets table₀ 0 (entries 18 rs)
  pub small : (j : ℕ) → j < r → get_or (ranks_of rs) j 0 ≤ 4
  pub bodies : Bodies file 18 rs

-- the same, of the rules that stand there
abbrev pub Here : List ℕ → ℕ → List Entry → List Entry → ℕ → ℕ → Type 0
Here file n table₀ table at r = SoFar file n table₀ table at r (rules_in r (drop 10 file))

pub at_first : (file : List ℕ) (n : ℕ) (table : List Entry) → 10 ≤ length file → Here file n table table 10 0
at_first file n table h =
    record {
      not_past = omega arith;
      within = h;
      many = refl;
      reading = ap (λ (k : ℕ). read_records k [] (drop 10 file)) (sym (sub-zero n));
      rest = refl;
      place = refl;
      entered = refl;
      small = λ j l. absurd (omega arith);
      bodies = tt;
    }

module _ (file : List ℕ) (n : ℕ) (table₀ table : List Entry) (at r : ℕ) (rs : List Rule) (s : SoFar file n table₀ table at r rs) (room : r ≤ length table₀) where
  pub same_size : length table ≡ length table₀
  same_size = ap length s.entered ∙ length-sets table₀ 0 (entries 18 rs)

  pub ranks_are : ranks_in (take r table) ≡ ranks_of rs
  ranks_are =
      let k : r ≡ length (entries 18 rs) = omega (arith, length_entries 18 rs, s.many) in
      ap ranks_in
      (ap (λ (n : ℕ). take n table) k
      ∙ ap (take (length (entries 18 rs))) s.entered
      ∙ front_entered (entries 18 rs) table₀ (omega arith))
      ∙ ranks_of_entries 18 rs

  pub ranks_small : RanksSmall (take r table)
  ranks_small j = subst (λ (k : ℕ). k ≤ 4) (ap (λ (l : List ℕ). get_or l j 0) (sym ranks_are)) (go (dec_lt j r))
    where
      go : Dec (j < r) → get_or (ranks_of rs) j 0 ≤ 4
      go (yes h) = s.small j h
      go (no h) = let z : get_or (ranks_of rs) j 0 ≡ 0 = get_or-eq_default (ranks_of rs) 0 (omega (arith, length_ranks rs, s.many)) in omega arith

  pub found_here : (last : Bool) (rule : Entry) → rule_result (ranks_in (take r table)) last at (drop at file) ≡ taken rule → RuleThere file at (ranks_of rs) last rule
  found_here last rule e =
      rule_there file at s.within (ranks_of rs) last rule (ap (λ (l : List ℕ). rule_result l last at (drop at file)) (sym ranks_are) ∙ e)

  module _ (more : r < n) where
    due : n - r ≡ suc (n - suc r)
    due = omega arith

    pub refused_here : (x : Refusal) → rule_result (ranks_in (take r table)) (eqb (r + 1) n) at (drop at file) ≡ refused x 0
        → read_records n [] (drop 10 file) ≡ refused x (r + 1)
    refused_here x e =
        s.reading
        ∙ ap (λ (k : ℕ). read_records k rs (drop at file)) due
        ∙ read_refused (n - suc r) rs (drop at file) (eqb (r + 1) n) (last_due n r more) x
        (rule_not_there (ranks_of rs) (eqb (r + 1) n) at (drop at file) x
        (ap (λ (l : List ℕ). rule_result l (eqb (r + 1) n) at (drop at file)) (sym ranks_are) ∙ e))
        ∙ ap (refused x) (ap suc s.many ∙ sym (add-one r))

    module _ (rule : Entry) (t : RuleThere file at (ranks_of rs) (eqb (r + 1) n) rule) (after : List Entry) (stored : after ≡ set table r rule) where
      abbrev new : Rule
      new = rule_in (drop at file)

      entered_next : after ≡ sets table₀ 0 (entries 18 (rs ++ new ∷ []))
      entered_next =
          stored
          ∙ ap (λ (l : List Entry). set l r rule) s.entered
          ∙ ap (λ (k : ℕ). set (sets table₀ 0 (entries 18 rs)) k rule) end
          ∙ sym (sets_append table₀ 0 (entries 18 rs) (rule ∷ []))
          ∙ ap (λ (e : Entry). sets table₀ 0 (entries 18 rs ++ e ∷ [])) values
          ∙ ap (sets table₀ 0) (sym (entries_snoc 18 rs new))
        where
          end : r ≡ 0 + length (entries 18 rs)
          end = omega (arith, length_entries 18 rs, s.many)

          values : rule ≡ record { rank = new.rank; place = place_after 18 rs; words = length new.body }
          values = λ i. record { rank = sym t.rank_is i; place = (t.place_is ∙ s.place) i; words = sym t.words_are i }

      small_next : (j : ℕ) → j < suc r → get_or (ranks_of (rs ++ new ∷ [])) j 0 ≤ 4
      small_next j h = subst (λ (l : List ℕ). get_or l j 0 ≤ 4) (sym (ranks_append rs (new ∷ []))) (go (dec_lt j r))
        where
          size : length (ranks_of rs) ≡ r
          size = length_ranks rs ∙ s.many

          go : Dec (j < r) → get_or (ranks_of rs ++ new.rank ∷ []) j 0 ≤ 4
          go (yes l) = subst (λ (k : ℕ). k ≤ 4) (sym (get_or-append (ranks_of rs) (new.rank ∷ []) 0 j (omega (arith, size)))) (s.small j l)
          go (no l) = subst (λ (k : ℕ). k ≤ 4) (sym t.rank_is ∙ sym (get_or_at (ranks_of rs) new.rank [] 0 j (omega (arith, size)))) t.rank_small

      next : SoFar file n table₀ after (at + 8 + 2 * rule.words) (suc r) (rs ++ new ∷ [])
      next =
          record {
            not_past = more;
            within = t.fits;
            many = length-append rs (new ∷ []) ∙ ap (λ (k : ℕ). k + 1) s.many ∙ add-one r;
            reading = s.reading
                ∙ ap (λ (k : ℕ). read_records k rs (drop at file)) due
                ∙ read_on (n - suc r) rs (drop at file) (eqb (r + 1) n) (last_due n r more) t.none_refuses
                ∙ ap (read_records (n - suc r) (rs ++ new ∷ [])) (sym t.after);
            rest = t.after ∙ ap after_record s.rest ∙ sym (after_snoc r (drop 10 file));
            place = omega (arith, place_snoc 18 rs new, s.place, t.words_are);
            entered = entered_next;
            small = small_next;
            bodies = bodies_snoc file 18 rs new s.bodies (ap (λ (p : ℕ). body_in file p (length new.body)) (sym s.place) ∙ ap (body_in file (at + 8)) t.words_are ∙ t.body_is);
          }

-- over a rule that is there
pub at_next : (file : List ℕ) (n : ℕ) (table₀ table : List Entry) (at r : ℕ) → Here file n table₀ table at r → r ≤ length table₀ → r < n
    → (rule : Entry) → RuleThere file at (ranks_of (rules_in r (drop 10 file))) (eqb (r + 1) n) rule
    → (after : List Entry) → after ≡ set table r rule → Here file n table₀ after (at + 8 + 2 * rule.words) (r + 1)
at_next file n table₀ table at r s room more rule t after stored =
    subst (λ (k : ℕ). Here file n table₀ after (at + 8 + 2 * rule.words) k) (sym (add-one r))
    (subst (SoFar file n table₀ after (at + 8 + 2 * rule.words) (suc r))
    (ap (λ (l : List ℕ). rules_in r (drop 10 file) ++ rule_in l ∷ []) s.rest ∙ sym (rules_snoc r (drop 10 file)))
    (next file n table₀ table at r (rules_in r (drop 10 file)) s room more rule t after stored))

-- all are read
pub at_end : (file : List ℕ) (n : ℕ) (table₀ table : List Entry) (at r : ℕ) → Here file n table₀ table at r → n ≤ length table₀ → n ≤ r → RulesTaken at n file table₀ table
at_end file n table₀ table at r s room h =
    let all_read : Here file n table₀ table at n = subst (Here file n table₀ table at) same s in
    record {
      result = all_read.reading ∙ ap (λ (k : ℕ). read_records k (rules_in n (drop 10 file)) (drop at file)) none_due;
      rest = all_read.rest;
      end_place = all_read.place;
      end_within = all_read.within;
      entered = all_read.entered;
      bodies = all_read.bodies;
      ranks = ranks_are file n table₀ table at n (rules_in n (drop 10 file)) all_read room;
      small = ranks_small file n table₀ table at n (rules_in n (drop 10 file)) all_read room;
    }
  where
    same : r ≡ n
    same = omega (arith, s.not_past)

    none_due : n - n ≡ 0
    none_due = omega arith
