-- The turns over the body of a rule of a file, in the numbers that the code has.
use Prim.Native.Nat.{ℕ, suc, ◌+◌, ◌*◌, ◌/◌, ◌≤◌, ◌<◌}
use native.Mathlib.Omega.{arith}
use mathlib.Core.Path.{◌≡◌, sym, ap, ap₂, subst, ◌∙◌}
use mathlib.Core.List.{List, [], ◌∷◌, ◌++◌, map}
use lib.ListN.{length, take, drop, get_or, set}
use Rattle.model.specs.Words.{rank_of}
use Rattle.model.specs.Trees.{expansions, ranks_of}
use Rattle.laws.specs.Formed.{body_at}
use Rattle.grammar.specs.declared.rules.Entry.{Entry}
use Rattle.grammar.specs.Meaning.{word_in, ranks_in, no_rule}
use Rattle.model.specs.File.{words_in}
use Rattle.grammar.specs.Measures.{Denotes}
use Rattle.grammar.proofs.BodyWords.{body_rest}
use Rattle.grammar.proofs.Denoted.{ranks_few}
use Rattle.grammar.proofs.Due as due_trees
use Rattle.queries.specs.declared.pieces.Open.{Open}
use Rattle.queries.specs.Pieces.{stop, stopped, Spelled, after, due, next_gap, Closes, Closable, first_gap, own, own_gap, own_starts}
use Rattle.queries.specs.Building.{rules_of, gaps_of, Spelt}
use Rattle.queries.proofs.HeldRules.{rules_few, words_are, rule_body, rule_within, rule_next, ranks_are, small_ranks, gap_measured, rule_expansion, rule_gaps, body_legal, body_fits, body_room, body_parameters}
use Rattle.queries.proofs.SpellRule.{Turn, put_fits, start_fits, first_fits, closable, turned, turn_start, end_fits, rule_done}

-- rule r, next to be spelled: the bytes of its body, and that there is room for its pieces after `top` others
pub record Body (file : List ℕ) (r : ℕ) (rules : List Entry) (sizes : List ℕ) (top : ℕ) (bytes : List ℕ) : Type 0 where
  pub held : Denotes file rules sizes
  pub below : r < length rules
  pub stands : bytes ≡ take (2 * (get_or rules r no_rule).words) (drop (get_or rules r no_rule).place file)
  pub follows : top + 18 ≤ (get_or rules r no_rule).place

pub body_next : {file : List ℕ} {r : ℕ} {rules : List Entry} {sizes P S bytes : List ℕ} → Spelt file r rules sizes P S → r < length rules
    → bytes ≡ take (2 * (get_or rules r no_rule).words) (drop (get_or rules r no_rule).place file) → Body file r rules sizes (length P) bytes
body_next s below e = record { held = s.held; below = below; stands = e; follows = s.room below }

-- the turns over its words
abbrev pub RuleTurn : List ℕ → ℕ → ℕ → List ℕ → List ℕ → List ℕ → List Open → ℕ → ℕ → Type 0
RuleTurn file r top sizes P S O gap i =
    Turn (gaps_of file) (ranks_of (rules_of file)) (map stopped (get_or (expansions (rules_of file)) r [])) (body_at (rules_of file) r) r top sizes P S O gap i

module _ {file : List ℕ} {r : ℕ} {rules : List Entry} {sizes : List ℕ} {top : ℕ} {bytes : List ℕ} (b : Body file r rules sizes top bytes) where
  abbrev H : Denotes file rules sizes
  H = b.held

  pub rule_low : r < 256
  rule_low = omega (arith, rules_few H, b.below)

  same_words : length bytes / 2 ≡ length (body_at (rules_of file) r)
  same_words = (rule_body H r b.below bytes b.stands).1

  same_body : words_in bytes ≡ body_at (rules_of file) r
  same_body = (rule_body H r b.below bytes b.stands).0

  room : top + 2 * length (body_at (rules_of file) r) + 18 ≤ 16384
  room = omega (arith, b.follows, rule_within H r b.below)

  pub first_turn : {P S : List ℕ} → Spelt file r rules sizes P S → length P ≡ top → (O : List Open) → O ≡ [] → (t : ℕ) → t ≡ top → RuleTurn file r top sizes P (set S (5 * r) t) O (5 * r) 0
  first_turn {P} {S} s lp O none t same =
      subst (λ (o : List Open). RuleTurn file r top sizes P (set S (5 * r) t) o (5 * r) 0) (sym none)
      (subst (λ (k : ℕ). RuleTurn file r top sizes P (set S (5 * r) k) [] (5 * r) 0) (sym same)
      (turn_start (small_ranks H) rule_low room (rule_gaps H r) H.longer P S lp s.long (λ g. omega (arith, s.low g))
      (subst (λ (t : ℕ). Spelled (gaps_of file) r t P S sizes) lp s.spells)
      (body_parameters H r b.below) (body_legal H r b.below) (body_fits H r b.below) (body_room H r b.below) (rule_expansion H r b.below)))

  module _ {P S : List ℕ} {O : List Open} {gap i : ℕ} (x : RuleTurn file r top sizes P S O gap i) where
    module _ (more : i < length bytes / 2) (w : ℕ) (we : w ≡ word_in bytes (2 * i)) where
      this : drop i (body_at (rules_of file) r) ≡ w ∷ drop (i + 1) (body_at (rules_of file) r)
      this =
          ap (drop i) (sym same_body) ∙ body_rest bytes i more
          ∙ ap₂ (λ (v : ℕ) (l : List ℕ). v ∷ drop (i + 1) l) (sym we) same_body

      pub word_fits : length P < 16384
      word_fits = put_fits (small_ranks H) rule_low room (rule_gaps H r) H.longer x w this

      pub gap_fits : (gap < 1280) × (own_gap w gap < 1280)
      gap_fits = start_fits (small_ranks H) rule_low room (rule_gaps H r) H.longer x w this

      pub first_low : first_gap w ≤ 1280
      first_low = first_fits (small_ranks H) rule_low room (rule_gaps H r) H.longer x w this

      module _ (k : ℕ) (ke : k ≡ rank_of (ranks_in rules) w) where
        rank_is : k ≡ rank_of (ranks_of (rules_of file)) w
        rank_is = ke ∙ ap (λ (l : List ℕ). rank_of l w) (ranks_are H)

        pub rank_small : k ≤ 4
        rank_small = omega (arith, ke, due_trees.rank_small rules (ranks_few H) w)

        module _ (e : Open) (de : due e ≡ k + 1) (ge : next_gap e ≡ first_gap w) where
          due_is : due e ≡ suc (rank_of (ranks_of (rules_of file)) w)
          due_is = omega (arith, rank_is)

          -- in the values that the code has
          module _ (P₁ S₁ sizes₁ : List ℕ) (O₁ : List Open) (pe : P₁ ≡ P ++ own w) (se : S₁ ≡ own_starts w S gap (length P₁)) (ze : sizes₁ ≡ sizes) (oe : O₁ ≡ O ++ e ∷ []) where
            same_starts : own_starts w S gap (length (P ++ own w)) ≡ S₁
            same_starts = ap (λ (p : List ℕ). own_starts w S gap (length p)) (sym pe) ∙ sym se

            pub close_asks : Closable sizes₁ S₁ P₁ O₁
            close_asks =
                subst (λ (z : List ℕ). Closable z S₁ P₁ O₁) (sym ze)
                (subst (λ (s : List ℕ). Closable sizes s P₁ O₁) same_starts
                (subst (λ (p : List ℕ). Closable sizes (own_starts w S gap (length (P ++ own w))) p O₁) (sym pe)
                (subst (λ (o : List Open). Closable sizes (own_starts w S gap (length (P ++ own w))) (P ++ own w) o) (sym oe)
                (closable (small_ranks H) rule_low room (rule_gaps H r) H.longer x w this e ge due_is))))

            pub next_turn : (P₂ S₂ : List ℕ) (O₂ : List Open) (gap₂ : ℕ) → Closes after S₁ sizes₁ P₁ O₁ P₂ O₂ → S₂ ≡ S₁ → gap₂ ≡ own_gap w gap → RuleTurn file r top sizes P₂ S₂ O₂ gap₂ (i + 1)
            next_turn P₂ S₂ O₂ gap₂ c s₂ g₂ =
                let c₁ : Closes after S₁ sizes P₁ O₁ P₂ O₂ = subst (λ (z : List ℕ). Closes after S₁ z P₁ O₁ P₂ O₂) ze c in
                let c₂ : Closes after (own_starts w S gap (length (P ++ own w))) sizes P₁ O₁ P₂ O₂ = subst (λ (s : List ℕ). Closes after s sizes P₁ O₁ P₂ O₂) (sym same_starts) c₁ in
                let c₃ : Closes after (own_starts w S gap (length (P ++ own w))) sizes (P ++ own w) O₁ P₂ O₂ =
                subst (λ (p : List ℕ). Closes after (own_starts w S gap (length (P ++ own w))) sizes p O₁ P₂ O₂) pe c₂ in
                let c₄ : Closes after (own_starts w S gap (length (P ++ own w))) sizes (P ++ own w) (O ++ e ∷ []) P₂ O₂ =
                subst (λ (o : List Open). Closes after (own_starts w S gap (length (P ++ own w))) sizes (P ++ own w) o P₂ O₂) oe c₃ in
                subst (λ (g : ℕ). RuleTurn file r top sizes P₂ S₂ O₂ g (i + 1)) (sym g₂)
                (subst (λ (s : List ℕ). RuleTurn file r top sizes P₂ s O₂ (own_gap w gap) (i + 1)) (same_starts ∙ sym s₂)
                (turned (small_ranks H) rule_low room (rule_gaps H r) H.longer x w this e ge due_is c₄))

    module _ (over : length bytes / 2 ≤ i) where
      no_more : length (body_at (rules_of file) r) ≤ i
      no_more = omega (arith, same_words)

      pub stop_fits : length P < 16384
      stop_fits = end_fits (small_ranks H) rule_low room (rule_gaps H r) H.longer x no_more

      pub rule_over : (P' sizes' : List ℕ) → P' ≡ P ++ stop ∷ [] → sizes' ≡ sizes → Spelt file (suc r) rules sizes' P' S
      rule_over P' sizes' pe ze =
          let d = rule_done (small_ranks H) rule_low room (rule_gaps H r) H.longer x no_more (λ c h. gap_measured H r c b.below h) in
          subst (λ (z : List ℕ). Spelt file (suc r) rules z P' S) (sym ze)
          (subst (λ (p : List ℕ). Spelt file (suc r) rules sizes p S) (sym pe)
          (record {
            held = H;
            spells = d.0;
            long = x.starts_long;
            low = d.1;
            room = λ h. omega (arith, d.2, b.follows, words_are H r b.below, rule_next H r b.below h);
            fits = omega (arith, d.2, room);
          }))
