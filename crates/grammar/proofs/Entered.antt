-- What the rule table of a file that was read says of one rule: its rank, and where its body stands.
use Prim.Native.Nat.{ℕ, zero, suc, ◌+◌, ◌*◌, ◌/◌, ◌≤◌, ◌<◌}
use mathlib.Core.Path.{◌≡◌, refl, sym, ap, subst, ◌∙◌}
use mathlib.Core.List.{List, [], ◌∷◌}
use native.Mathlib.Nat.{add_assoc}
use native.Mathlib.Omega.{arith}
use native.Mathlib.Decide.{dec_lt}
use lib.ListN.{length, take, drop, get_or, length-drop, get_or-eq_default}
use lib.Seq.{get_or-take, get_or-drop, length-take-le}
use Rattle.std.proofs.Common.{length-take}
use Rattle.model.specs.File.{words_in}
use Rattle.model.specs.Trees.{Rule, ranks_of}
use Rattle.laws.specs.Formed.{body_at}
use Rattle.laws.proofs.Trees.Grammar.{rule_of, formed_parts, length_ranks}
use Rattle.grammar.specs.declared.rules.Entry.{Entry}
use Rattle.grammar.specs.Meaning.{word_in, body_in, entries, Bodies, place_after, ranks_in, RanksSmall, no_rule}
use Rattle.grammar.specs.Measures.{Laid}
use Rattle.grammar.proofs.BodyWords.{length_body, body_word}
use Rattle.grammar.proofs.Tables.{rank_in, ranks_take}
use Rattle.grammar.proofs.RuleLists.{length_entries, ranks_of_entries}

-- an entry says of a rule
pub record EntryOf (file : List ℕ) (R : List Rule) (end r : ℕ) (rule : Entry) : Type 0 where
  pub rank : rule.rank ≡ get_or (ranks_of R) r 0
  pub words : rule.words ≡ length (body_at R r)
  pub body : body_in file rule.place (length (body_at R r)) ≡ body_at R r
  pub within : rule.place + 2 * length (body_at R r) + 8 ≤ end

place_grows : (place : ℕ) (R : List Rule) → place ≤ place_after place R
place_grows place [] = omega arith
place_grows place (r ∷ rs) = omega (arith, place_grows (place + 2 * length r.body + 8) rs)

pub entry_of : (file : List ℕ) (place : ℕ) (R : List Rule) → Bodies file place R → (r : ℕ) → r < length R
    → EntryOf file R (place_after place R) r (get_or (entries place R) r no_rule)
entry_of file place [] b r h = absurd (omega arith)
entry_of file place (x ∷ rs) b zero h =
    record { rank = refl; words = refl; body = b.0; within = place_grows (place + 2 * length x.body + 8) rs }
entry_of file place (x ∷ rs) b (suc r) h =
    let E = entry_of file (place + 2 * length x.body + 8) rs b.1 r (omega arith) in
    record { rank = E.rank; words = E.words; body = E.body; within = E.within }

-- a body stands in the file where an entry says
pub record BodyThere (file body : List ℕ) (rule : Entry) : Type 0 where
  pub fits : rule.place + 2 * rule.words ≤ length file
  pub short : rule.place + 2 * rule.words ≤ 16384
  pub many : rule.words ≡ length body
  pub is : body_in file rule.place rule.words ≡ body

-- its bytes
pub record BytesOf (body bytes : List ℕ) : Type 0 where
  pub short : length bytes ≤ 16384
  pub many : length bytes / 2 ≡ length body
  pub is : words_in bytes ≡ body

pub bytes_of : {file body : List ℕ} {rule : Entry} → BodyThere file body rule → (bytes : List ℕ) → bytes ≡ take (2 * rule.words) (drop rule.place file) → BytesOf body bytes
bytes_of {file} {body} {rule} t bytes e =
    let is : words_in bytes ≡ body = ap words_in e ∙ t.is in
    let long : length bytes ≡ 2 * rule.words =
    ap length e ∙ length-take-le (2 * rule.words) (drop rule.place file) (omega (arith, length-drop rule.place file, t.fits)) in
    record { short = omega (arith, t.short); many = sym (length_body bytes) ∙ ap length is; is = is }

-- a word of it, where it stands in the file
pub word_of_file : {file body : List ℕ} {rule : Entry} → BodyThere file body rule → (i : ℕ) → i < rule.words → get_or body i 0 ≡ word_in file (rule.place + 2 * i)
word_of_file {file} {body} {rule} t i h =
    let bytes = take (2 * rule.words) (drop rule.place file) in
    let long : length bytes ≡ 2 * rule.words = length-take-le (2 * rule.words) (drop rule.place file) (omega (arith, length-drop rule.place file, t.fits)) in
    ap (λ (l : List ℕ). get_or l i 0) (sym t.is)
    ∙ body_word bytes i (omega (arith, long))
    ∙ ap (λ (n : ℕ). n + 256 * get_or bytes (2 * i + 1) 0) (byte (2 * i) (omega arith))
    ∙ ap (λ (n : ℕ). get_or file (rule.place + 2 * i) 0 + 256 * n) (byte (2 * i + 1) (omega arith) ∙ ap (λ (n : ℕ). get_or file n 0) (sym (add_assoc rule.place (2 * i) 1)))
  where
    byte : (k : ℕ) → k < 2 * rule.words → get_or (take (2 * rule.words) (drop rule.place file)) k 0 ≡ get_or file (rule.place + k) 0
    byte k l = get_or-take (2 * rule.words) (drop rule.place file) k 0 l ∙ get_or-drop rule.place file k 0

-- the table says of rule r
module _ {R : List Rule} {file : List ℕ} {rules : List Entry} (M : Laid R file rules) where
  pub count : length rules ≡ length R
  count = ap length M.entered ∙ length_entries 18 R

  few : length rules ≤ 256
  few = omega (arith, (formed_parts R M.is_formed).not_many, count)

  pub ranks_are : ranks_in rules ≡ ranks_of R
  ranks_are = ap ranks_in M.entered ∙ ranks_of_entries 18 R

  module _ (r : ℕ) (below : r < length rules) where
    pub table_rank : (get_or rules r no_rule).rank ≡ get_or (ranks_of R) r 0
    table_rank = sym (rank_in rules r no_rule below) ∙ ap (λ (l : List ℕ). get_or l r 0) ranks_are

    pub body_there : BodyThere file (body_at R r) (get_or rules r no_rule)
    body_there =
        let E : EntryOf file R (place_after 18 R) r (get_or rules r no_rule) =
        subst (λ (l : List Entry). EntryOf file R (place_after 18 R) r (get_or l r no_rule)) (sym M.entered) (entry_of file 18 R M.bodies r (omega (arith, count))) in
        record {
          fits = omega (arith, E.within, E.words, M.within);
          short = omega (arith, E.within, E.words, M.within, M.short);
          many = E.words;
          is = ap (body_in file (get_or rules r no_rule).place) E.words ∙ E.body;
        }

    pub bytes_there : (bytes : List ℕ) → bytes ≡ take (2 * (get_or rules r no_rule).words) (drop (get_or rules r no_rule).place file) → BytesOf (body_at R r) bytes
    bytes_there = bytes_of body_there

    -- rule r's gaps are in the size table
    pub inside : (sizes : List ℕ) → 1280 ≤ length sizes → (r < 256) × (5 * r + 5 ≤ length sizes)
    inside sizes l = let f = few in (omega arith, omega arith)

  pub ranks_below : (r j : ℕ) → j < r → get_or (ranks_in (take r rules)) j 0 ≡ get_or (ranks_of R) j 0
  ranks_below r j h =
      ap (λ (l : List ℕ). get_or l j 0) (ranks_take r rules)
      ∙ get_or-take r (ranks_in rules) j 0 h
      ∙ ap (λ (l : List ℕ). get_or l j 0) ranks_are

  rank_four : (j : ℕ) → get_or (ranks_of R) j 0 ≤ 4
  rank_four j = go (dec_lt j (length R))
    where
      go : Dec (j < length R) → get_or (ranks_of R) j 0 ≤ 4
      go (yes h) = (rule_of R M.is_formed j h).rank_small
      go (no h) = let z : get_or (ranks_of R) j 0 ≡ 0 = get_or-eq_default (ranks_of R) 0 (omega (arith, length_ranks R)) in omega arith

  pub all_small : RanksSmall rules
  all_small j = subst (λ (l : List ℕ). get_or l j 0 ≤ 4) (sym ranks_are) (rank_four j)

  pub ranks_small : (r : ℕ) → RanksSmall (take r rules)
  ranks_small r j = subst (λ (k : ℕ). k ≤ 4) (ap (λ (l : List ℕ). get_or l j 0) (sym (ranks_take r rules))) (go (dec_lt j r))
    where
      go : Dec (j < r) → get_or (take r (ranks_in rules)) j 0 ≤ 4
      go (yes h) = subst (λ (k : ℕ). k ≤ 4) (sym (get_or-take r (ranks_in rules) j 0 h)) (all_small j)
      go (no h) = let z : get_or (take r (ranks_in rules)) j 0 ≡ 0 = get_or-eq_default (take r (ranks_in rules)) 0 (omega (arith, length-take r (ranks_in rules))) in omega arith
