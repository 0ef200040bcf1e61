-- Step 4's choice: a digram of the bodies, with its count, that is eligible and than which no other eligible one is better.
use Prim.Native.Nat.{ℕ, ◌+◌, ◌≤◌, ◌<◌}
use native.Mathlib.Omega.{arith}
use mathlib.Core.Path.{◌≡◌, refl, sym, ap, subst}
use mathlib.Core.Logic.{◌⊎◌, inl, inr}
use mathlib.Core.Bool.{Bool, true, false, cond, not, ◌&&◌, ◌||◌}
use mathlib.Core.List.Memᴰ
use mathlib.Core.List.{List, [], ◌∷◌, Memᴰ}
use mathlib.Core.Option.{Option, none, some}
use lib.Dec.{T, leb, ltb, eqb, ltb→lt, lt→ltb, eqb→eq, eqb_refl}
use mir.Facts.{or_yes, and_yes, yes_and}
use Rattle.model.specs.Trees.{Rule, ranks_of}
use Rattle.model.specs.Rounds.{Digram, is_label_or_call, digrams, digram_rank, occurrences, eligible, smaller, Counted, better, best_of, choice_among, choice}
use Rattle.laws.specs.Steps.{counted_in}
use Rattle.laws.proofs.Rounds.Digrams.{occurs_there}
use Rattle.laws.proofs.Words.Lists.{on_cons}
use Rattle.laws.proofs.Words.Tests.{or_right, or_left}

-- Orders that are compared part by part: m before n, or m equal to n and what follows decides.
abbrev lex : ℕ → ℕ → Bool → Bool
lex m n rest = ltb m n || eqb m n && rest

lex_cases : (m n : ℕ) (r : Bool) → T (lex m n r) → (m < n) ⊎ ((m ≡ n) × T r)
lex_cases m n r t = go (or_yes (ltb m n) (eqb m n && r) t)
  where
    go : T (ltb m n) ⊎ T (eqb m n && r) → (m < n) ⊎ ((m ≡ n) × T r)
    go (inl l) = inl (ltb→lt m n l)
    go (inr e) = inr (eqb→eq m n (and_yes (eqb m n) r e).0, (and_yes (eqb m n) r e).1)

lex_less : (m n : ℕ) (r : Bool) → m < n → T (lex m n r)
lex_less m n r h = or_left (ltb m n) (eqb m n && r) (lt→ltb m n h)

lex_same : (m n : ℕ) (r : Bool) → m ≡ n → T r → T (lex m n r)
lex_same m n r e t = or_right (ltb m n) (eqb m n && r) (yes_and (eqb m n) r (rw e (eqb_refl n)) t)

lex_trans : (l m n : ℕ) (r s t : Bool) → (T r → T s → T t) → T (lex l m r) → T (lex m n s) → T (lex l n t)
lex_trans l m n r s t below p q = go (lex_cases l m r p) (lex_cases m n s q)
  where
    go : (l < m) ⊎ ((l ≡ m) × T r) → (m < n) ⊎ ((m ≡ n) × T s) → T (lex l n t)
    go (inl x) (inl y) = lex_less l n t (omega arith)
    go (inl x) (inr y) = lex_less l n t (omega arith)
    go (inr x) (inl y) = lex_less l n t (omega arith)
    go (inr x) (inr y) = lex_same l n t (omega arith) (below x.1 y.1)

lex_irrefl : (m : ℕ) (r : Bool) → (T r → ⊥) → T (lex m m r) → ⊥
lex_irrefl m r below p = go (lex_cases m m r p)
  where
    go : (m < m) ⊎ ((m ≡ m) × T r) → ⊥
    go (inl x) = omega arith
    go (inr x) = below x.1

-- neither way round: the parts are equal, and what follows is neither way round
lex_neither : (m n : ℕ) (r s : Bool) → (T (lex m n r) → ⊥) → (T (lex n m s) → ⊥) → (m ≡ n) × (T r → ⊥) × (T s → ⊥)
lex_neither m n r s p q =
    let e : m ≡ n = go (ltb m n) refl (ltb n m) refl in
    (e, (λ t. p (lex_same m n r e t)), (λ t. q (lex_same n m s (sym e) t)))
  where
    yes : (a : Bool) → a ≡ true → T a
    yes a e = rw e tt

    no' : (a : Bool) → a ≡ false → T (not a)
    no' a e = rw e tt

    go : (a : Bool) → ltb m n ≡ a → (b : Bool) → ltb n m ≡ b → m ≡ n
    go true e b f = absurd (p (lex_less m n r (ltb→lt m n (yes (ltb m n) e))))
    go false e true f = absurd (q (lex_less n m s (ltb→lt n m (yes (ltb n m) f))))
    go false e false f = omega (arith, lib.Dec.nltb→le m n (no' (ltb m n) e), lib.Dec.nltb→le n m (no' (ltb n m) f))

less_trans : (l m n : ℕ) → T (ltb l m) → T (ltb m n) → T (ltb l n)
less_trans l m n p q = lt→ltb l n (omega (arith, ltb→lt l m p, ltb→lt m n q))

less_neither : (m n : ℕ) → (T (ltb m n) → ⊥) → (T (ltb n m) → ⊥) → m ≡ n
less_neither m n p q = (lex_neither m n false false (λ t. p (of m n t)) (λ t. q (of n m t))).0
  where
    of : (m n : ℕ) → T (lex m n false) → T (ltb m n)
    of m n t = go (lex_cases m n false t)
      where
        go : (m < n) ⊎ ((m ≡ n) × ⊥) → T (ltb m n)
        go (inl h) = lt→ltb m n h
        go (inr h) = absurd h.1

less_irrefl : (n : ℕ) → T (ltb n n) → ⊥
less_irrefl n p = omega (arith, ltb→lt n n p)

pub better_trans : (x y z : Counted) → T (better x y) → T (better y z) → T (better x z)
better_trans x y z p q =
    let d : Digram = x.digram in
    let e : Digram = y.digram in
    let f : Digram = z.digram in
    lex_trans' y.count x.count z.count (smaller d e) (smaller e f) (smaller d f)
    (lex_trans d.a e.a f.a _ _ _ (lex_trans d.i e.i f.i _ _ _ (less_trans d.b e.b f.b))) p q
  where
    -- the larger count comes first
    lex_trans' : (m l n : ℕ) (r s t : Bool) → (T r → T s → T t) → T (lex m l r) → T (lex n m s) → T (lex n l t)
    lex_trans' m l n r s t below p q = lex_trans n m l s r t (λ u v. below v u) q p

pub better_irrefl : (x : Counted) → T (better x x) → ⊥
better_irrefl x p =
    let d : Digram = x.digram in
    lex_irrefl x.count (smaller d d) (lex_irrefl d.a _ (lex_irrefl d.i _ (less_irrefl d.b))) p

-- of two digrams with their counts one is better, or they are the same
pub better_total : (x y : Counted) → (T (better x y) → ⊥) → (T (better y x) → ⊥) → x ≡ y
better_total x y p q =
    let d : Digram = x.digram in
    let e : Digram = y.digram in
    let c = lex_neither y.count x.count (smaller d e) (smaller e d) p q in
    let a = lex_neither d.a e.a _ _ c.1 c.2 in
    let i = lex_neither d.i e.i _ _ a.1 a.2 in
    let b = less_neither d.b e.b i.1 i.2 in
    λ j. record { digram = record { a = a.0 j; i = i.0 j; b = b j }; count = sym c.0 j }

-- what the choice among some digrams is
pub record Best (rules : List Rule) (ds : List Digram) (x : Counted) : Type 0 where
  pub stands : Memᴰ x.digram ds
  pub counts : x.count ≡ occurrences (ranks_of rules) x.digram rules
  pub is_eligible : T (eligible (ranks_of rules) x.digram x.count)
  pub best : (d : Digram) → Memᴰ d ds → T (eligible (ranks_of rules) d (occurrences (ranks_of rules) d rules)) → T (better (counted_in rules d) x) → ⊥

-- no digram among them is eligible
abbrev pub NoneEligible : List Rule → List Digram → Type 0
NoneEligible rules ds = (d : Digram) → Memᴰ d ds → T (eligible (ranks_of rules) d (occurrences (ranks_of rules) d rules)) → ⊥

abbrev pub ChoiceIs : List Rule → List Digram → Option Counted → Type 0
ChoiceIs rules ds none = NoneEligible rules ds
ChoiceIs rules ds (some x) = Best rules ds x

choice_among_is : (rules : List Rule) (ds : List Digram) → ChoiceIs rules ds (choice_among (ranks_of rules) rules ds)
choice_among_is rules [] = λ d m t. Memᴰ.not-nil m
choice_among_is rules (d ∷ ds) =
    step (eligible (ranks_of rules) d (occurrences (ranks_of rules) d rules)) refl (choice_among (ranks_of rules) rules ds) (choice_among_is rules ds)
  where
    x : Counted
    x = counted_in rules d

    here : Digram → Bool
    here e = eligible (ranks_of rules) e (occurrences (ranks_of rules) e rules)

    -- no better one than z among them
    Under : Counted → Digram → Type 0
    Under z e = T (here e) → T (better (counted_in rules e) z) → ⊥

    -- x goes before what was best, or after it
    before : (y : Counted) → T (better x y) → T (here d) → Best rules ds y → Best rules (d ∷ ds) x
    before y b t c = record {
      stands = Memᴰ.head refl;
      counts = refl;
      is_eligible = t;
      best = on_cons (Under x) (λ u v. better_irrefl x v) (λ e m u v. c.best e m u (better_trans (counted_in rules e) x y v b));
    }

    after : (y : Counted) → Under y d → Best rules ds y → Best rules (d ∷ ds) y
    after y b c = record { stands = Memᴰ.tail c.stands; counts = c.counts; is_eligible = c.is_eligible; best = on_cons (Under y) b c.best }

    better_of : (y : Counted) (b : Bool) → better x y ≡ b → T (here d) → Best rules ds y → Best rules (d ∷ ds) (cond b x y)
    better_of y true e t c = before y (rw e tt) t c
    better_of y false e t c = after y (λ u v. rw e at v) c

    step : (b : Bool) → here d ≡ b → (rest : Option Counted) → ChoiceIs rules ds rest → ChoiceIs rules (d ∷ ds) (cond b (some (best_of x rest)) rest)
    step true e none c = record {
      stands = Memᴰ.head refl;
      counts = refl;
      is_eligible = rw e tt;
      best = on_cons (Under x) (λ u v. better_irrefl x v) (λ f m u v. c f m u);
    }
    step true e (some y) c = better_of y (better x y) refl (rw e tt) c
    step false e none c = on_cons (λ f. T (here f) → ⊥) (λ u. rw e at u) c
    step false e (some y) c = after y (λ u v. rw e at u) c

pub choice_is : (rules : List Rule) (x : Counted) → choice rules ≡ some x → Best rules (digrams (ranks_of rules) rules) x
choice_is rules x e = subst (ChoiceIs rules (digrams (ranks_of rules) rules)) e (choice_among_is rules (digrams (ranks_of rules) rules))

pub choice_none : (rules : List Rule) → choice rules ≡ none → NoneEligible rules (digrams (ranks_of rules) rules)
choice_none rules e = subst (ChoiceIs rules (digrams (ranks_of rules) rules)) e (choice_among_is rules (digrams (ranks_of rules) rules))

-- What the choice is determines it: whoever finds such a digram, or that there is none, has found the choice.
pub counted_path : (rules : List Rule) (x : Counted) → x.count ≡ occurrences (ranks_of rules) x.digram rules → counted_in rules x.digram ≡ x
counted_path rules x e = λ j. record { digram = x.digram; count = sym e j }

best_unique : (rules : List Rule) (ds : List Digram) (x y : Counted) → Best rules ds x → Best rules ds y → x ≡ y
best_unique rules ds x y p q = better_total x y (under x y p q) (under y x q p)
  where
    under : (x y : Counted) → Best rules ds x → Best rules ds y → T (better x y) → ⊥
    under x y p q b = q.best x.digram p.stands (rw (← p.counts) p.is_eligible) (subst (λ z. T (better z y)) (sym (counted_path rules x p.counts)) b)

pub is_choice : (rules : List Rule) (c : Option Counted) → ChoiceIs rules (digrams (ranks_of rules) rules) c → choice rules ≡ c
is_choice rules c p = go c (choice rules) p (choice_among_is rules ds)
  where
    ds : List Digram
    ds = digrams (ranks_of rules) rules

    go : (c c' : Option Counted) → ChoiceIs rules ds c → ChoiceIs rules ds c' → c' ≡ c
    go none none p q = refl
    go none (some y) p q = absurd (p y.digram q.stands (rw (← q.counts) q.is_eligible))
    go (some x) none p q = absurd (q x.digram p.stands (rw (← p.counts) p.is_eligible))
    go (some x) (some y) p q = ap {B = Option Counted} some (best_unique rules ds y x q p)

-- It is the best of all digrams, in the bodies or not: one that is eligible occurs.
module _ (rules : List Rule) (d : Digram) (ja : T (is_label_or_call d.a)) (jb : T (is_label_or_call d.b)) (from : 1 ≤ d.i)
    (t : T (eligible (ranks_of rules) d (occurrences (ranks_of rules) d rules))) where
  pub eligible_there : Memᴰ d (digrams (ranks_of rules) rules)
  eligible_there =
      let k : ℕ = digram_rank (ranks_of rules) d in
      let o : ℕ = occurrences (ranks_of rules) d rules in
      occurs_there (ranks_of rules) d ja jb from rules (omega (arith, ltb→lt (6 + k) o (and_yes (leb k 4) (ltb (6 + k) o) t).1))

  pub choice_best : (x : Counted) → choice rules ≡ some x → T (better (counted_in rules d) x) → ⊥
  choice_best x e = (choice_is rules x e).best d eligible_there t

  pub choice_there : choice rules ≡ none → ⊥
  choice_there e = choice_none rules e d eligible_there t
