-- A round makes a grammar of a grammar, in which every rule is still called.
use Prim.Native.Nat.{ℕ, zero, suc, ◌+◌, ◌-◌, ◌≤◌, ◌<◌}
use native.Mathlib.Omega.{arith}
use mathlib.Core.Path.{◌≡◌, refl, sym, ap, ◌∙◌, subst}
use mathlib.Core.Logic.{◌⊎◌, inl, inr}
use mathlib.Core.Bool.{true, false}
use mathlib.Core.List.Memᴰ
use mathlib.Core.List.{List, [], ◌∷◌, ◌++◌, Memᴰ}
use mathlib.Core.Option.{some}
use lib.Dec.{T, leb, ltb, leb→le, lt→ltb, T_not, not_T}
use lib.ListN.{length, take, drop, get_or}
use mir.Facts.{and_yes, yes_and}
use Rattle.model.specs.Bounds.{most_rules}
use Rattle.model.specs.Words.{Class, empty, label, parameter, call, illegal, class_of, by_class, rank_of, call_word, renumbered, when_call, parameter_word, is_parameter, is_parameter_as}
use Rattle.model.specs.Trees.{Rule, all, those, same, ranks_of, is_legal, parameters, is_legal_as}
use Rattle.model.specs.Rounds.{Digram, Part, is_label_or_call, digram_rank, parts, uppers, occurrences, Counted, choice, new_number, up, replaced, new_rule, one_round, is_label_or_call_as}
use Rattle.laws.specs.Formed.{formed, start_rank, Tree, body_at}
use Rattle.laws.proofs.Words.Classes.{class_of_call}
use Rattle.laws.proofs.Trees.Legal.{tree_agree, legal_call}
use Rattle.laws.proofs.Trees.Grammar.{RuleOf, rule_of, of_rules, formed_parts, same_eq, start_rank_last}
use Rattle.laws.proofs.Rounds.Digrams.{Stands, digrams_stand, legal_number}
use Rattle.laws.proofs.Rounds.Choice.{Best, choice_is}
use Rattle.laws.proofs.Rounds.Parts.{Parted, body_parted, replaced_length, replaced_tree, replaced_from, replaced_keeps, replaced_new, replaced_parameters, occurrence_there, KeepsRank, Comes, Stays}
use Rattle.laws.proofs.Rounds.NewRule.{label_or_call_closed, new_tree, new_parameters}
use Rattle.laws.proofs.Trees.Renumbered.{rank_renumbered, legal_renumbered, those_renumbered}
use Rattle.laws.proofs.Trees.Fills.{when_call_call, rank_call}
use Rattle.laws.proofs.Rounds.RoundWords.{renumbered_alone, calls_one, single, there_all, parameters_are, over_legal, over_alone}
use Rattle.laws.proofs.Rounds.Round.{up_cases, up_from, up_below, up_order, up_under, up_within, from_where, round_rules, rank_new, rank_up, body_new, body_up}
use Rattle.laws.proofs.Words.Lists.{all_there, all_cons}

-- A digram that a round may take: it stands in a body, and a rule may have its rank.
pub record Chosen (rules : List Rule) (d : Digram) : Type 0 where
  pub at : ℕ
  pub at_there : at < length rules
  pub stands : Stands (ranks_of rules) (body_at rules at) d
  pub small : digram_rank (ranks_of rules) d ≤ 4

pub choice_chosen : (rules : List Rule) (x : Counted) → choice rules ≡ some x → Chosen rules x.digram
choice_chosen rules x e =
    let c : Best rules _ x = choice_is rules x e in
    let s = digrams_stand (ranks_of rules) rules x.digram c.stands in
    let k : ℕ = digram_rank (ranks_of rules) x.digram in
    record { at = s.0; at_there = s.1; stands = s.2; small = leb→le k 4 (and_yes (leb k 4) (ltb (6 + k) x.count) c.is_eligible).0 }

-- "Its number is one above the highest rule among a and b": not above a rule in which both stand.
number_under : (rules : List Rule) (d : Digram) → T (formed rules) → (r : ℕ) → r < length rules → Memᴰ d.a (body_at rules r) → Memᴰ d.b (body_at rules r)
    → new_number d ≤ r
number_under rules d f r h a b =
    let legal = (rule_of rules f r h).legal in
    legal_number r d (all_there (is_legal r) (body_at rules r) legal d.a a) (all_there (is_legal r) (body_at rules r) legal d.b b)

pub chosen_number : (rules : List Rule) (d : Digram) → T (formed rules) → (c : Chosen rules d) → new_number d ≤ c.at
chosen_number rules d f c = number_under rules d f c.at c.at_there c.stands.a_there c.stands.b_there

number_of : (i : ℕ) → i < 256 → when_call 0 suc (call_word i) ≡ suc i
number_of i h = when_call_call 0 suc (call_word i) i (class_of_call i h)

-- Every rule but the start is called by a rule above it.
abbrev pub CalledAt : List Rule → ℕ → Type 0
CalledAt rules j = (r : ℕ) × (j < r) × (r < length rules) × Memᴰ (call_word j) (body_at rules r)

abbrev pub AllCalled : List Rule → Type 0
AllCalled rules = (j : ℕ) → suc j < length rules → CalledAt rules j

-- a digram that occurs does so in a body
occurs_at : (ranks : List ℕ) (d : Digram) (rs : List Rule) → 0 < occurrences ranks d rs → (r : ℕ) × (r < length rs) × (0 < uppers (parts ranks d [] (body_at rs r)))
occurs_at ranks d [] h = absurd (omega arith)
occurs_at ranks d (r ∷ rs) h = go (uppers (parts ranks d [] r.body)) refl (occurs_at ranks d rs)
  where
    go : (n : ℕ) → uppers (parts ranks d [] r.body) ≡ n → (0 < occurrences ranks d rs → (s : ℕ) × (s < length rs) × (0 < uppers (parts ranks d [] (body_at rs s))))
        → (s : ℕ) × (s < suc (length rs)) × (0 < uppers (parts ranks d [] (body_at (r ∷ rs) s)))
    go zero e below = let x = below (omega arith) in (suc x.0, omega arith, x.2)
    go (suc n) e below = (0, omega arith, omega arith)

-- One round, on a grammar with room for a rule.
module _ (d : Digram) (rules : List Rule) (f : T (formed rules)) (c : Chosen rules d) (room : length rules < most_rules) where
  from : 1 ≤ d.i
  from = c.stands.is.low

  to : d.i ≤ rank_of (ranks_of rules) d.a
  to = c.stands.is.high

  pub number_there : new_number d < length rules
  number_there = omega (arith, chosen_number rules d f c, c.at_there)

  fits : new_number d ≤ length rules
  fits = omega (arith, number_there)

  class_new : class_of (call_word (new_number d)) ≡ call (new_number d)
  class_new = class_of_call (new_number d) (omega (arith, number_there))

  rank_call_new : rank_of (ranks_of (one_round d rules)) (call_word (new_number d)) ≡ digram_rank (ranks_of rules) d
  rank_call_new = rank_call (ranks_of (one_round d rules)) (call_word (new_number d)) (new_number d) class_new ∙ rank_new d rules fits

  -- a rule that is called stands within the bounds after the round
  moved_under : (r w : ℕ) → r < length rules → T (is_legal r w) → (j : ℕ) → class_of w ≡ call j → up (new_number d) j < 256
  moved_under r w h t j e = omega (arith, up_within (new_number d) r j (legal_call r w j e t))

  keeps_rank : (r w : ℕ) → r < length rules → T (is_legal r w) → KeepsRank (new_number d) (ranks_of rules) (ranks_of (one_round d rules)) w
  keeps_rank r w h t = rank_renumbered (up (new_number d)) (ranks_of rules) (ranks_of (one_round d rules)) w (λ j e. (moved_under r w h t j e, rank_up d rules fits j))

  keeps_legal : (r w : ℕ) → r < length rules → T (is_legal r w) → T (is_legal (up (new_number d) r) (renumbered (up (new_number d)) w))
  keeps_legal r w h t =
      (all_cons (is_legal (up (new_number d) r)) (renumbered (up (new_number d)) w) []
      (legal_renumbered (up (new_number d)) r (up (new_number d) r) (w ∷ [])
      (calls_one (λ j. (up (new_number d) j < 256) × (up (new_number d) j < up (new_number d) r)) w
      (λ j e. (moved_under r w h t j e, up_order (new_number d) j r (legal_call r w j e t))))
      (yes_and (is_legal r w) true t tt))).0

  -- the body of rule r with the occurrences replaced
  after : ℕ → List ℕ
  after r = replaced (new_number d) (parts (ranks_of rules) d [] (body_at rules r)) (body_at rules r)

  parted : (r : ℕ) → r < length rules → Parted (ranks_of rules) d (false ∷ []) (body_at rules r) (parts (ranks_of rules) d [] (body_at rules r))
  parted r h = body_parted (ranks_of rules) d from to (body_at rules r) (rule_of rules f r h).tree

  legal_word : (r : ℕ) → r < length rules → (w : ℕ) → Memᴰ w (body_at rules r) → T (is_legal r w)
  legal_word r h w mem = all_there (is_legal r) (body_at rules r) (rule_of rules f r h).legal w mem

  after_legal : (r : ℕ) → r < length rules → T (all (is_legal (up (new_number d) r)) (after r))
  unfolding after
  after_legal r h = there_all (is_legal (up (new_number d) r)) (after r) (λ v mem. go v (replaced_from (ranks_of rules) d (new_number d) (parted r h) v mem))
    where
      go : (v : ℕ) → Comes d (new_number d) (body_at rules r) v → T (is_legal (up (new_number d) r) v)
      go v (inl x) =
          let under : new_number d ≤ r = number_under rules d f r h x.1 x.2 in
          subst (λ (w : ℕ). T (is_legal (up (new_number d) r) w)) (sym x.0)
          (subst (λ k. T (is_legal_as (up (new_number d) r) k)) (sym class_new)
          (lt→ltb (new_number d) (up (new_number d) r) (omega (arith, up_from (new_number d) r under))))
      go v (inr x) = subst (λ (w : ℕ). T (is_legal (up (new_number d) r) w)) (sym x.2) (keeps_legal r x.0 h (legal_word r h x.0 x.1))

  after_tree : (r : ℕ) → r < length rules → Tree (ranks_of (one_round d rules)) (after r)
  unfolding after
  after_tree r h =
      replaced_tree (ranks_of rules) d from to (new_number d) (ranks_of (one_round d rules)) rank_call_new (body_at rules r) (rule_of rules f r h).tree
      (λ w mem. keeps_rank r w h (legal_word r h w mem))

  after_parameters : (r : ℕ) → r < length rules → those is_parameter (after r) ≡ those is_parameter (body_at rules r)
  unfolding after
  after_parameters r h =
      replaced_parameters (ranks_of rules) d (new_number d) (label_or_call_closed d.a c.stands.is.class_a) (label_or_call_closed d.b c.stands.is.class_b)
      (ap is_parameter_as class_new) (parted r h)
      (λ w mem. those_renumbered (up (new_number d)) (w ∷ []) (calls_one (λ j. up (new_number d) j < 256) w (moved_under r w h (legal_word r h w mem))))

  -- a body that is y1 alone after the round was so before
  after_alone : (r : ℕ) → r < length rules → after r ≡ parameter_word 1 ∷ [] → body_at rules r ≡ parameter_word 1 ∷ []
  unfolding after
  after_alone r h e = go (uppers ps) refl
    where
      ps : List Part
      ps = parts (ranks_of rules) d [] (body_at rules r)

      there : Memᴰ (parameter_word 1) (after r)
      there = subst (Memᴰ (parameter_word 1)) (sym e) (Memᴰ.head refl)

      one : uppers ps ≡ 0 → length (body_at rules r) ≡ 1
      one z = omega (arith, replaced_length (ranks_of rules) d from to (new_number d) (body_at rules r) (rule_of rules f r h).tree, ap length e)

      from_there : uppers ps ≡ 0 → Comes d (new_number d) (body_at rules r) (parameter_word 1) → body_at rules r ≡ parameter_word 1 ∷ []
      from_there z (inl x) = absurd (omega (arith, x.0))
      from_there z (inr x) =
          single (body_at rules r) (one z) x.0 x.1 ∙ ap {B = List ℕ} (λ w. w ∷ []) (renumbered_alone (up (new_number d)) x.0 (sym x.2))

      go : (n : ℕ) → uppers ps ≡ n → body_at rules r ≡ parameter_word 1 ∷ []
      go zero z = from_there z (replaced_from (ranks_of rules) d (new_number d) (parted r h) (parameter_word 1) there)
      go (suc n) z =
          absurd (omega (
            arith,
            Memᴰ.eq_of_singleton
                (subst (Memᴰ (call_word (new_number d))) e (replaced_new (ranks_of rules) d (new_number d) (parted r h) (omega arith))),
          ))

  -- the rules that were there, in their new places
  moved_rule : (r : ℕ) → r < length rules → RuleOf (one_round d rules) (up (new_number d) r)
  unfolding after
  moved_rule r h =
      let old : RuleOf rules r = rule_of rules f r h in
      record {
        rank_small = rw (rank_up d rules fits r) old.rank_small;
        legal = rw (body_up d rules fits r) (after_legal r h);
        tree = rw (body_up d rules fits r) (after_tree r h);
        in_order = ap (those is_parameter) (body_up d rules fits r) ∙ after_parameters r h ∙ old.in_order ∙ ap parameters (sym (rank_up d rules fits r));
        not_alone = rw (body_up d rules fits r) (not_T (same (after r) (parameter_word 1 ∷ [])) (λ t. alone (after_alone r h (same_eq (after r) (parameter_word 1 ∷ []) t))));
      }
    where
      alone : body_at rules r ≡ parameter_word 1 ∷ [] → ⊥
      alone e = T_not (same (body_at rules r) (parameter_word 1 ∷ [])) (rule_of rules f r h).not_alone (rw e tt)

  legal_new : (w : ℕ) → T (is_label_or_call w) → when_call 0 suc w ≤ new_number d → T (is_legal (new_number d) w)
  legal_new w t h = go (class_of w) t h
    where
      go : (k : Class) → T (is_label_or_call_as k) → by_class (record { empty = 0; label = 0; parameter = λ n. 0; call = suc; illegal = 0 }) k ≤ new_number d
          → T (is_legal_as (new_number d) k)
      go empty t h = tt
      go label t h = tt
      go (parameter n) t h = tt
      go (call j) t h = lt→ltb j (new_number d) h
      go illegal t h = absurd t

  legal_a : T (is_legal (new_number d) d.a)
  legal_a = legal_new d.a c.stands.is.class_a (omega arith)

  legal_b : T (is_legal (new_number d) d.b)
  legal_b = legal_new d.b c.stands.is.class_b (omega arith)

  rank_below : (j : ℕ) → j < new_number d → get_or (ranks_of rules) j 0 ≡ get_or (ranks_of (one_round d rules)) j 0
  rank_below j h = sym (rank_up d rules fits j) ∙ ap (λ (n : ℕ). get_or (ranks_of (one_round d rules)) n 0) (up_below (new_number d) j h)

  pub new_legal : T (all (is_legal (new_number d)) (new_rule (ranks_of rules) d).body)
  new_legal =
      let k : ℕ = digram_rank (ranks_of rules) d in
      over_legal (new_number d) d.a (d.i - 1) d.b (parameters k) legal_a legal_b
      (λ v mem.
      let x = parameters_are 1 k (omega arith) (omega (arith, c.small)) v mem in
      subst (λ e. T (is_legal_as (new_number d) e)) (sym x.1) tt)

  new_rule_lem : RuleOf (one_round d rules) (new_number d)
  new_rule_lem =
      let k : ℕ = digram_rank (ranks_of rules) d in
      record {
        rank_small = rw (rank_new d rules fits) c.small;
        legal = rw (body_new d rules fits) new_legal;
        tree = rw (body_new d rules fits)
            (tree_agree (new_number d) (ranks_of rules) (ranks_of (one_round d rules)) rank_below (new_rule (ranks_of rules) d).body new_legal (new_tree (ranks_of rules) d c.stands.is c.small));
        in_order = ap (those is_parameter) (body_new d rules fits) ∙ new_parameters (ranks_of rules) d c.stands.is c.small ∙ ap parameters (sym (rank_new d rules fits));
        not_alone = rw (body_new d rules fits) (over_alone d.a (take (d.i - 1) (parameters k) ++ d.b ∷ drop (d.i - 1) (parameters k)) c.stands.is.class_a);
      }

  every_rule : (j : ℕ) → j < length (one_round d rules) → RuleOf (one_round d rules) j
  every_rule j h = go (from_where (new_number d) j)
    where
      go : (j ≡ new_number d) ⊎ ((i : ℕ) × (j ≡ up (new_number d) i)) → RuleOf (one_round d rules) j
      go (inl e) = subst (RuleOf (one_round d rules)) (sym e) new_rule_lem
      go (inr x) =
          subst (RuleOf (one_round d rules)) (sym x.1)
          (moved_rule x.0 (up_under (new_number d) (length rules) x.0 fits (omega (arith, h, round_rules d rules, x.1))))

  start_stays : start_rank (one_round d rules) ≡ 0
  start_stays =
      let moves : length (one_round d rules) - 1 ≡ up (new_number d) (length rules - 1) =
      omega (arith, round_rules d rules, number_there, up_from (new_number d) (length rules - 1) (omega (arith, number_there))) in
      start_rank_last (one_round d rules) (omega (arith, round_rules d rules))
      ∙ ap (λ (n : ℕ). get_or (ranks_of (one_round d rules)) n 0) moves
      ∙ rank_up d rules fits (length rules - 1)
      ∙ sym (start_rank_last rules (omega (arith, number_there)))
      ∙ (formed_parts rules f).start_rank_lem

  pub round_formed : T (formed (one_round d rules))
  round_formed = of_rules (one_round d rules) (omega (arith, round_rules d rules)) (omega (arith, round_rules d rules)) start_stays every_rule

  -- The new rule is called where the digram occurred; a rule that was called there alone is called by the new rule.
  new_called : 0 < occurrences (ranks_of rules) d rules → CalledAt (one_round d rules) (new_number d)
  new_called h =
      let x = occurs_at (ranks_of rules) d rules h in
      let r : ℕ = x.0 in
      let there = occurrence_there (ranks_of rules) d (parted r x.1) x.2 in
      let under : new_number d ≤ r = number_under rules d f r x.1 there.0 there.1 in
      let moves : up (new_number d) r ≡ suc r = up_from (new_number d) r under in
      (up (new_number d) r, omega arith, omega (arith, round_rules d rules, x.1), rw (body_up d rules fits r) (replaced_new (ranks_of rules) d (new_number d) (parted r x.1) x.2))

  over_there : (w : ℕ) → (w ≡ d.a) ⊎ (w ≡ d.b) → Memᴰ w (body_at (one_round d rules) (new_number d))
  over_there w e = rw (body_new d rules fits) (go e)
    where
      go : (w ≡ d.a) ⊎ (w ≡ d.b) → Memᴰ w (new_rule (ranks_of rules) d).body
      go (inl e) = Memᴰ.head e
      go (inr e) = Memᴰ.tail (Memᴰ.append_right (take (d.i - 1) (parameters (digram_rank (ranks_of rules) d))) (Memᴰ.head e))

  called_under_new : (i : ℕ) → i < 256 → (call_word i ≡ d.a) ⊎ (call_word i ≡ d.b) → i < new_number d
  called_under_new i h (inl e) = omega (arith, ap (when_call 0 suc) e, number_of i h)
  called_under_new i h (inr e) = omega (arith, ap (when_call 0 suc) e, number_of i h)

  moved_called : (i : ℕ) → CalledAt rules i → CalledAt (one_round d rules) (up (new_number d) i)
  unfolding after
  moved_called i x = go (replaced_keeps (ranks_of rules) d (new_number d) (parted x.0 x.2) (call_word i) x.3)
    where
      small : i < 256
      small = omega (arith, x.1, x.2)

      as_called : renumbered (up (new_number d)) (call_word i) ≡ call_word (up (new_number d) i)
      as_called = ap (by_class (record { empty = call_word i; label = call_word i; parameter = λ n. call_word i; call = λ j. call_word (up (new_number d) j); illegal = call_word i })) (class_of_call i small)

      go : Stays d (new_number d) (after x.0) (call_word i) → CalledAt (one_round d rules) (up (new_number d) i)
      go (inl mem) = (
        up (new_number d) x.0,
        up_order (new_number d) i x.0 x.1,
        omega (arith, round_rules d rules, up_within (new_number d) (length rules) x.0 x.2),
        rw (body_up d rules fits x.0) (Memᴰ.cast (sym as_called) mem),
      )
      go (inr e) =
          let under : i < new_number d = called_under_new i small e in
          let stays : up (new_number d) i ≡ i = up_below (new_number d) i under in
          (new_number d, omega arith, omega (arith, round_rules d rules, number_there), Memᴰ.cast (ap call_word stays) (over_there (call_word i) e))

  pub round_called : 0 < occurrences (ranks_of rules) d rules → AllCalled rules → AllCalled (one_round d rules)
  round_called o called j h = go (from_where (new_number d) j)
    where
      not_start : (i : ℕ) → ((new_number d ≤ i) × (up (new_number d) i ≡ suc i)) ⊎ ((i < new_number d) × (up (new_number d) i ≡ i)) → j ≡ up (new_number d) i → suc i < length rules
      not_start i (inl x) e = omega (arith, x.1, h, round_rules d rules)
      not_start i (inr x) e = omega (arith, x.0, number_there)

      go : (j ≡ new_number d) ⊎ ((i : ℕ) × (j ≡ up (new_number d) i)) → CalledAt (one_round d rules) j
      go (inl e) = subst (CalledAt (one_round d rules)) (sym e) (new_called o)
      go (inr x) = subst (CalledAt (one_round d rules)) (sym x.1) (moved_called x.0 (called x.0 (not_start x.0 (up_cases (new_number d) x.0) x.1)))
