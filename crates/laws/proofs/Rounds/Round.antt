-- What a round changes in the file's length, and where the rules stand after it.
use Prim.Native.Nat.{ℕ, zero, suc, ◌+◌, ◌-◌, ◌*◌, ◌≤◌, ◌<◌}
use native.Mathlib.Omega.{arith}
use mathlib.Core.Path.{◌≡◌, refl, sym, ap, ap₂, ◌∙◌}
use mathlib.Core.Logic.{◌⊎◌, inl, inr}
use mathlib.Core.Bool.{Bool, true, false, cond}
use mathlib.Core.List.{List, [], ◌∷◌, ◌++◌}
use lib.Dec.{T, leb, ltb, le→leb, ltb→lt, lt→ltb}
use borrow.Author.Tests.{leb-true, leb-false, le-leb, lt-leb}
use lib.ListN.{length, take, drop, get_or, length-append, take-append-drop, get_or-append}
use lib.Seq.{get_or_at, length-take-le, get_or-append-add, get_or-drop, get_or-take}
use mir.Facts.{and_yes, yes_and}
use Rattle.model.specs.Words.{rank_of}
use Rattle.model.specs.Trees.{Rule, ranks_of, parameters}
use Rattle.model.specs.File.{write}
use Rattle.model.specs.Rounds.{Digram, digram_rank, parts, occurrences, eligible, new_number, up, replaced, new_rule, replaced_in, one_round}
use Rattle.laws.specs.Formed.{formed, Tree, body_at}
use Rattle.laws.proofs.Trees.Grammar.{rule_of, length_ranks, ranks_append}
use Rattle.laws.proofs.File.Written.{bytes_for, write_length}
use Rattle.laws.proofs.Rounds.Parts.{replaced_length}
use Rattle.laws.proofs.Trees.Fills.{length_parameters_from}

-- What a round changes in the file's length.
bytes_append : (rs ss : List Rule) → bytes_for (rs ++ ss) ≡ bytes_for rs + bytes_for ss
bytes_append [] ss = omega arith
bytes_append (r ∷ rs) ss = omega (arith, bytes_append rs ss)

pub length_around : {A : Type 0} (n : ℕ) (a : A) (l : List A) → length (take n l ++ a ∷ drop n l) ≡ suc (length l)
length_around n a l = omega (arith, length-append (take n l) (a ∷ drop n l), length-append (take n l) (drop n l), ap length (take-append-drop n l))

bytes_new : (ranks : List ℕ) (d : Digram) → bytes_for (new_rule ranks d ∷ []) ≡ 12 + 2 * digram_rank ranks d
bytes_new ranks d = omega (arith, length_around (d.i - 1) d.b (parameters (digram_rank ranks d)), length_parameters_from 1 (digram_rank ranks d))

-- every body is one complete tree
abbrev Trees : List ℕ → List Rule → Type 0
Trees ranks [] = Unit {0}
Trees ranks (r ∷ rs) = Tree ranks r.body × Trees ranks rs

trees_at : (ranks : List ℕ) (rs : List Rule) → ((j : ℕ) → j < length rs → Tree ranks (body_at rs j)) → Trees ranks rs
trees_at ranks [] t = tt
trees_at ranks (r ∷ rs) t = (t 0 (omega arith), trees_at ranks rs (λ j h. t (suc j) (omega arith)))

bytes_replaced : (ranks : List ℕ) (d : Digram) → 1 ≤ d.i → d.i ≤ rank_of ranks d.a → (rs : List Rule) → Trees ranks rs
    → bytes_for (replaced_in ranks d rs) + 2 * occurrences ranks d rs ≡ bytes_for rs
bytes_replaced ranks d from to [] t = refl
bytes_replaced ranks d from to (r ∷ rs) t =
    omega (arith, replaced_length ranks d from to (new_number d) r.body t.0, bytes_replaced ranks d from to rs t.1)

-- "a rule costs 12 + 2k bytes, an occurrence saves 2"
pub round_length : (d : Digram) (rules : List Rule) → T (formed rules) → 1 ≤ d.i → d.i ≤ rank_of (ranks_of rules) d.a
    → length (write (one_round d rules)) + 2 * occurrences (ranks_of rules) d rules ≡ length (write rules) + (12 + 2 * digram_rank (ranks_of rules) d)
round_length d rules f from to =
    let ranks : List ℕ = ranks_of rules in
    let next : List Rule = replaced_in ranks d rules in
    let m : ℕ = new_number d in
    omega (
      arith,
      write_length (one_round d rules),
      write_length rules,
      bytes_new ranks d,
      bytes_append (take m next) (new_rule ranks d ∷ drop m next),
      bytes_append (take m next) (drop m next),
      ap bytes_for (take-append-drop m next),
      bytes_replaced ranks d from to rules (trees_at ranks rules (λ j h. (rule_of rules f j h).tree)),
    )

-- "exactly then does the file get shorter"
pub eligible_shorter : (d : Digram) (rules : List Rule) → T (formed rules) → 1 ≤ d.i → d.i ≤ rank_of (ranks_of rules) d.a
    → T (eligible (ranks_of rules) d (occurrences (ranks_of rules) d rules)) → length (write (one_round d rules)) + 2 ≤ length (write rules)
eligible_shorter d rules f from to t =
    let ranks : List ℕ = ranks_of rules in
    omega (
      arith,
      round_length d rules f from to,
      ltb→lt (6 + digram_rank ranks d) (occurrences ranks d rules) (and_yes (leb (digram_rank ranks d) 4) (ltb (6 + digram_rank ranks d) (occurrences ranks d rules)) t).1,
    )

pub shorter_eligible : (d : Digram) (rules : List Rule) → T (formed rules) → 1 ≤ d.i → d.i ≤ rank_of (ranks_of rules) d.a → digram_rank (ranks_of rules) d ≤ 4
    → length (write (one_round d rules)) < length (write rules) → T (eligible (ranks_of rules) d (occurrences (ranks_of rules) d rules))
shorter_eligible d rules f from to small h =
    let ranks : List ℕ = ranks_of rules in
    yes_and (leb (digram_rank ranks d) 4) (ltb (6 + digram_rank ranks d) (occurrences ranks d rules)) (le→leb (digram_rank ranks d) 4 small)
    (lt→ltb (6 + digram_rank ranks d) (occurrences ranks d rules) (omega (arith, round_length d rules f from to)))

-- Where the rules stand after a round.
pub up_cases : (m j : ℕ) → ((m ≤ j) × (up m j ≡ suc j)) ⊎ ((j < m) × (up m j ≡ j))
up_cases m j = go (leb m j) refl
  where
    go : (b : Bool) → leb m j ≡ b → ((m ≤ j) × (cond b (suc j) j ≡ suc j)) ⊎ ((j < m) × (cond b (suc j) j ≡ j))
    go true e = inl (leb-true m j e, refl)
    go false e = inr (leb-false m j e, refl)

pub up_from : (m j : ℕ) → m ≤ j → up m j ≡ suc j
up_from m j h = ap (λ (b : Bool). cond b (suc j) j) (le-leb m j h)

pub up_below : (m j : ℕ) → j < m → up m j ≡ j
up_below m j h = ap (λ (b : Bool). cond b (suc j) j) (lt-leb m j h)

-- every place after a round is the new one or one that a rule moved to
pub from_where : (m r : ℕ) → (r ≡ m) ⊎ ((j : ℕ) × (r ≡ up m j))
from_where m r = go (up_cases m r) (up_cases (suc m) r)
  where
    go : ((m ≤ r) × (up m r ≡ suc r)) ⊎ ((r < m) × (up m r ≡ r)) → ((suc m ≤ r) × (up (suc m) r ≡ suc r)) ⊎ ((r < suc m) × (up (suc m) r ≡ r))
        → (r ≡ m) ⊎ ((j : ℕ) × (r ≡ up m j))
    go (inr x) y = inr (r, sym x.1)
    go (inl x) (inl y) = inr (r - 1, omega (arith, up_from m (r - 1) (omega arith)))
    go (inl x) (inr y) = inl (omega arith)

-- a rule that moves to a place among one more than n was among n
pub up_under : (m n j : ℕ) → m ≤ n → up m j < suc n → j < n
up_under m n j h k = go (up_cases m j)
  where
    go : ((m ≤ j) × (up m j ≡ suc j)) ⊎ ((j < m) × (up m j ≡ j)) → j < n
    go (inl x) = omega arith
    go (inr x) = omega arith

-- and the other way
pub up_within : (m n j : ℕ) → j < n → up m j < suc n
up_within m n j h = go (up_cases m j)
  where
    go : ((m ≤ j) × (up m j ≡ suc j)) ⊎ ((j < m) × (up m j ≡ j)) → up m j < suc n
    go (inl x) = omega arith
    go (inr x) = omega arith

-- the order stays
pub up_order : (m i j : ℕ) → i < j → up m i < up m j
up_order m i j h = go (up_cases m i) (up_cases m j)
  where
    go : ((m ≤ i) × (up m i ≡ suc i)) ⊎ ((i < m) × (up m i ≡ i)) → ((m ≤ j) × (up m j ≡ suc j)) ⊎ ((j < m) × (up m j ≡ j)) → up m i < up m j
    go (inl x) (inl y) = omega arith
    go (inl x) (inr y) = omega arith
    go (inr x) (inl y) = omega arith
    go (inr x) (inr y) = omega arith

module _ {A : Type 0} (e : A) (m : ℕ) (new : A) (l : List A) (fits : m ≤ length l) where
  -- the list with `new` in place m
  pub around_here : get_or (take m l ++ new ∷ drop m l) m e ≡ new
  around_here = get_or_at (take m l) new (drop m l) e m (length-take-le m l fits)

  pub around_up : (j : ℕ) → get_or (take m l ++ new ∷ drop m l) (up m j) e ≡ get_or l j e
  around_up j = go (up_cases m j)
    where
      whole : List A
      whole = take m l ++ new ∷ drop m l

      len : length (take m l) ≡ m
      len = length-take-le m l fits

      go : ((m ≤ j) × (up m j ≡ suc j)) ⊎ ((j < m) × (up m j ≡ j)) → get_or whole (up m j) e ≡ get_or l j e
      go (inl x) =
          let at : up m j ≡ length (take m l) + suc (j - m) = omega (arith, len) in
          let back : m + (j - m) ≡ j = omega arith in
          ap (λ (n : ℕ). get_or whole n e) at ∙ get_or-append-add (take m l) (new ∷ drop m l) (suc (j - m)) e ∙ get_or-drop m l (j - m) e ∙ ap (λ (n : ℕ). get_or l n e) back
      go (inr x) =
          ap (λ (n : ℕ). get_or whole n e) x.1 ∙ get_or-append (take m l) (new ∷ drop m l) e j (omega (arith, len)) ∙ get_or-take m l j e x.0

ranks_take : (n : ℕ) (rs : List Rule) → ranks_of (take n rs) ≡ take n (ranks_of rs)
ranks_take zero rs = refl
ranks_take (suc n) [] = refl
ranks_take (suc n) (r ∷ rs) = ap {B = List ℕ} (λ l. r.rank ∷ l) (ranks_take n rs)

ranks_drop : (n : ℕ) (rs : List Rule) → ranks_of (drop n rs) ≡ drop n (ranks_of rs)
ranks_drop zero rs = refl
ranks_drop (suc n) [] = refl
ranks_drop (suc n) (r ∷ rs) = ranks_drop n rs

ranks_replaced : (ranks : List ℕ) (d : Digram) (rs : List Rule) → ranks_of (replaced_in ranks d rs) ≡ ranks_of rs
ranks_replaced ranks d [] = refl
ranks_replaced ranks d (r ∷ rs) = ap {B = List ℕ} (λ l. r.rank ∷ l) (ranks_replaced ranks d rs)

pub round_ranks : (d : Digram) (rules : List Rule)
    → ranks_of (one_round d rules) ≡ take (new_number d) (ranks_of rules) ++ digram_rank (ranks_of rules) d ∷ drop (new_number d) (ranks_of rules)
round_ranks d rules =
    let ranks : List ℕ = ranks_of rules in
    let next : List Rule = replaced_in ranks d rules in
    let m : ℕ = new_number d in
    ranks_append (take m next) (new_rule ranks d ∷ drop m next)
    ∙ ap₂ (λ (x y : List ℕ). x ++ digram_rank ranks d ∷ y)
    (ranks_take m next ∙ ap (take m) (ranks_replaced ranks d rules)) (ranks_drop m next ∙ ap (drop m) (ranks_replaced ranks d rules))

body_replaced : (ranks : List ℕ) (d : Digram) (rs : List Rule) (j : ℕ)
    → body_at (replaced_in ranks d rs) j ≡ replaced (new_number d) (parts ranks d [] (body_at rs j)) (body_at rs j)
body_replaced ranks d [] j = refl
body_replaced ranks d (r ∷ rs) zero = refl
body_replaced ranks d (r ∷ rs) (suc j) = body_replaced ranks d rs j

length_replaced_in : (ranks : List ℕ) (d : Digram) (rs : List Rule) → length (replaced_in ranks d rs) ≡ length rs
length_replaced_in ranks d [] = refl
length_replaced_in ranks d (r ∷ rs) = ap suc (length_replaced_in ranks d rs)

pub round_rules : (d : Digram) (rules : List Rule) → length (one_round d rules) ≡ suc (length rules)
round_rules d rules =
    length_around (new_number d) (new_rule (ranks_of rules) d) (replaced_in (ranks_of rules) d rules) ∙ ap suc (length_replaced_in (ranks_of rules) d rules)

module _ (d : Digram) (rules : List Rule) (fits : new_number d ≤ length rules) where
  pub rank_new : get_or (ranks_of (one_round d rules)) (new_number d) 0 ≡ digram_rank (ranks_of rules) d
  rank_new =
      ap (λ (l : List ℕ). get_or l (new_number d) 0) (round_ranks d rules)
      ∙ around_here 0 (new_number d) (digram_rank (ranks_of rules) d) (ranks_of rules) (rw length_ranks fits)

  pub rank_up : (j : ℕ) → get_or (ranks_of (one_round d rules)) (up (new_number d) j) 0 ≡ get_or (ranks_of rules) j 0
  rank_up j =
      ap (λ (l : List ℕ). get_or l (up (new_number d) j) 0) (round_ranks d rules)
      ∙ around_up 0 (new_number d) (digram_rank (ranks_of rules) d) (ranks_of rules) (rw length_ranks fits) j

  pub body_new : body_at (one_round d rules) (new_number d) ≡ (new_rule (ranks_of rules) d).body
  body_new =
      ap (λ (r : Rule). r.body)
      (around_here (record { rank = 0; body = [] }) (new_number d) (new_rule (ranks_of rules) d) (replaced_in (ranks_of rules) d rules) (rw length_replaced_in fits))

  pub body_up : (j : ℕ) → body_at (one_round d rules) (up (new_number d) j) ≡ replaced (new_number d) (parts (ranks_of rules) d [] (body_at rules j)) (body_at rules j)
  body_up j =
      ap (λ (r : Rule). r.body)
      (around_up (record { rank = 0; body = [] }) (new_number d) (new_rule (ranks_of rules) d) (replaced_in (ranks_of rules) d rules) (rw length_replaced_in fits) j)
      ∙ body_replaced (ranks_of rules) d rules j
