-- Rules that were taken: what `rules` leaves, in the form in which the rest of the reading uses it.
use Prim.Native.Nat.{ℕ, ◌+◌, ◌≤◌, ◌<◌}
use mathlib.Core.Path.{◌≡◌, sym, ap, subst, ◌∙◌}
use mathlib.Core.List.{List, []}
use native.Mathlib.Omega.{arith}
use lib.ListN.{length, take, drop, replicate, length-drop, drop_of_length-le}
use Rattle.model.specs.Trees.{Rule}
use Rattle.model.specs.Refusals.{taken, refused, TRAIL}
use Rattle.model.specs.File.{read, read_whole}
use Rattle.std.specs.Prelude.{Ok, Err, Result as Outcome}
use Rattle.grammar.specs.declared.refusals.Refused.{Refused}
use Rattle.grammar.specs.declared.rules.Entry.{Entry}
use Rattle.grammar.specs.Meaning.{refusal_is, head_result, rules_in, written_rules, after_rules, entries, no_rule, RulesTaken, RulesRead, padded}
use Rattle.grammar.specs.Measures.{Laid, Measurable}
use Rattle.grammar.proofs.Padding.{over_filler}
use Rattle.grammar.proofs.RuleLists.{length_rules, length_entries, front_entered}
use Rattle.grammar.proofs.ReadRecords.{records_refused, records_taken, records_formed}
use Rattle.grammar.proofs.ReadWhole.{head_bounds, counted, read_rules_lem}
use Rattle.grammar.proofs.ReadLaws.{whole_trail}

module _ (file : List ℕ) (n : ℕ) (short : length file ≤ 16384) (head : head_result file ≡ taken n) (before after : List Entry) (r : Outcome ℕ Refused) (p : RulesRead r n file before after) where
  pub rules_refused : (x : Refused) → r ≡ Err x → read file ≡ refused (refusal_is x.refusal) x.place
  rules_refused x e =
      let q = subst (λ (s : Outcome ℕ Refused). RulesRead s n file before after) e p in
      read_rules_lem file short n head ∙ records_refused n [] (drop 10 file) (refusal_is x.refusal) x.place q.0

  module _ (end : ℕ) (e : r ≡ Ok end) where
    abbrev rules : List Rule
    rules = rules_in n (drop 10 file)

    these : RulesTaken end n file before after
    these = subst (λ (s : Outcome ℕ Refused). RulesRead s n file before after) e p

    count : length rules ≡ n
    count = length_rules n (drop 10 file)

    read_these : read file ≡ read_whole rules (after_rules n (drop 10 file))
    read_these = read_rules_lem file short n head ∙ records_taken n [] (drop 10 file) rules these.result

    pub trail : end < length file → read file ≡ refused TRAIL (n + 1)
    trail h =
        read_these
        ∙ whole_trail rules (after_rules n (drop 10 file)) n count
        (λ q. let l = length-drop end file in let m : length (drop end file) ≡ 0 = ap length (these.rest ∙ q) in omega arith)

    pub no_trail : length file ≤ end → read file ≡ read_whole (written_rules file) []
    no_trail h =
        read_these
        ∙ ap (read_whole rules) (sym these.rest ∙ drop_of_length-le file h)
        ∙ ap (λ (k : ℕ). read_whole (rules_in k (drop 10 file)) []) (counted file short n head)

    pub measurable : 256 ≤ length before → Measurable file (take n after)
    measurable long =
        let b = head_bounds file short n head in
        subst (λ (k : ℕ). Laid (rules_in k (drop 10 file)) file (take n after)) (counted file short n head)
        (record {
          is_formed = (records_formed n (drop 10 file) rules b.1 b.2 these.result).0;
          short = short;
          bodies = these.bodies;
          within = omega (arith, these.end_place, these.end_within);
          entered =
              ap (λ (k : ℕ). take k after) (sym count ∙ sym (length_entries 18 rules))
              ∙ ap (take (length (entries 18 rules))) these.entered
              ∙ front_entered (entries 18 rules) before (omega (arith, length_entries 18 rules, count, b.2));
        })

    -- the whole table, where it was empty
    pub table_is : before ≡ replicate (length before) no_rule → 256 ≤ length before → after ≡ padded no_rule (length before) (entries 18 (written_rules file))
    table_is e long =
        let b = head_bounds file short n head in
        these.entered
        ∙ over_filler no_rule before (entries 18 rules) e (omega (arith, length_entries 18 rules, count, b.2))
        ∙ ap (λ (k : ℕ). padded no_rule (length before) (entries 18 (rules_in k (drop 10 file)))) (counted file short n head)
