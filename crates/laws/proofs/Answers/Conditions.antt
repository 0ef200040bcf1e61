-- The first condition that holds.
use Prim.Native.Nat.{ℕ}
use mathlib.Core.Path.{◌≡◌, refl, sym, ap, ap₂, ◌∙◌}
use mathlib.Core.Logic.{◌↔◌}
use mathlib.Core.Bool.{Bool, true, false}
use mathlib.Core.List.{List, [], ◌∷◌, ◌++◌}
use mathlib.Core.Option.{Option, none, some, map, some-ne-none, none-ne-some, some-injective}
use Rattle.model.specs.Refusals.{Refusal, first_of}
use Rattle.laws.specs.Conditions.{first_in, NoneHolds, First, Condition, at, decide}

module _ {X : Type 0} where
  pub none_holds_append : (cs ds : List (Bool × X)) → NoneHolds cs → NoneHolds ds → NoneHolds (cs ++ ds)
  none_holds_append [] ds h k = k
  none_holds_append (c ∷ cs) ds h k = (h.0, none_holds_append cs ds h.1 k)

  pub none_holds_split : (cs ds : List (Bool × X)) → NoneHolds (cs ++ ds) → NoneHolds cs × NoneHolds ds
  none_holds_split [] ds h = (tt, h)
  none_holds_split (c ∷ cs) ds h = let (a, b) = none_holds_split cs ds h.1 in ((h.0, a), b)

  none_first : (cs : List (Bool × X)) → NoneHolds cs → first_in cs ≡ none
  none_first [] h = refl
  none_first (c ∷ cs) h = rw h.0 (none_first cs h.1)

  first_none : (cs : List (Bool × X)) → first_in cs ≡ none → NoneHolds cs
  first_none [] e = tt
  first_none (c ∷ cs) e = go (first_none cs) c.0 refl e
    where
      go : (first_in cs ≡ none → NoneHolds cs)
          → (b : Bool) → c.0 ≡ b → ◌≡◌ {A = Option X} (elim b [ true ↦ some c.1 | false ↦ first_in cs ]) none → NoneHolds (c ∷ cs)
      go rest true h e = absurd (some-ne-none c.1 e)
      go rest false h e = (h, rest e)

  -- nothing is given exactly when no condition holds
  pub first_in_none_iff : (cs : List (Bool × X)) → (first_in cs ≡ none) ↔ NoneHolds cs
  first_in_none_iff cs = (first_none cs, none_first cs)

  some_first : (cs : List (Bool × X)) (x : X) → first_in cs ≡ some x → First x cs
  some_first [] x e = absurd (none-ne-some x e)
  some_first (c ∷ cs) x e = go (some_first cs x) c.0 refl e
    where
      go : (first_in cs ≡ some x → First x cs)
          → (b : Bool) → c.0 ≡ b → ◌≡◌ {A = Option X} (elim b [ true ↦ some c.1 | false ↦ first_in cs ]) (some x) → First x (c ∷ cs)
      go rest true h e = ([], cs, ap₂ (λ (b : Bool) (y : X). (b, y) ∷ cs) h (some-injective c.1 x e), tt)
      go rest false h e = let f = rest e in (c ∷ f.0, f.1, ap (λ (ds : List (Bool × X)). c ∷ ds) f.2, (h, f.3))

  first_some : (before after : List (Bool × X)) (x : X) → NoneHolds before → first_in (before ++ (true, x) ∷ after) ≡ some x
  first_some [] after x h = refl
  first_some (c ∷ before) after x h = rw h.0 (first_some before after x h.1)

  -- x is given exactly when a condition that gives x holds and none before it does
  pub first_in_iff : (cs : List (Bool × X)) (x : X) → (first_in cs ≡ some x) ↔ First x cs
  first_in_iff cs x = (some_first cs x, λ f. ap first_in f.2 ∙ first_some f.0 f.1 x f.3)

  pub first_unique : (cs : List (Bool × X)) (x y : X) → First x cs → First y cs → x ≡ y
  first_unique cs x y f g = some-injective x y (sym ((first_in_iff cs x).1 f) ∙ (first_in_iff cs y).1 g)

  pub none_not_first : (cs : List (Bool × X)) (x : X) → NoneHolds cs → First x cs → ⊥
  none_not_first cs x n f = none-ne-some x (sym ((first_in_none_iff cs).1 n) ∙ (first_in_iff cs x).1 f)

  -- what a first list of conditions gives, else what a second gives
  abbrev pub or_else : Option X → Option X → Option X
  or_else (some x) o = some x
  or_else none o = o

  pub first_in_append : (cs ds : List (Bool × X)) → first_in (cs ++ ds) ≡ or_else (first_in cs) (first_in ds)
  first_in_append [] ds = refl
  first_in_append (c ∷ cs) ds =
      elim c.0 as (λ b. ◌≡◌ {A = Option X} (elim b [ true ↦ some c.1 | false ↦ first_in (cs ++ ds) ]) (or_else (elim b [ true ↦ some c.1 | false ↦ first_in cs ]) (first_in ds)))
      [ true ↦ refl | false ↦ first_in_append cs ds ]

-- the model's `first_of` is this, of conditions that give refusals
first_of_first_in : (cs : List (Bool × Refusal)) → first_of cs ≡ first_in cs
first_of_first_in [] = refl
first_of_first_in (c ∷ cs) = ap (λ (o : Option Refusal). elim c.0 as (λ z. Option Refusal) [ true ↦ some c.1 | false ↦ o ]) (first_of_first_in cs)

pub first_of_none : (cs : List (Bool × Refusal)) → NoneHolds cs → first_of cs ≡ none
first_of_none cs h = first_of_first_in cs ∙ none_first cs h

pub first_of_none_iff : (cs : List (Bool × Refusal)) → (first_of cs ≡ none) ↔ NoneHolds cs
first_of_none_iff cs = rw first_of_first_in (first_in_none_iff cs)

-- conditions tried at record k give their refusal with k
pub first_in_at : (k : ℕ) (cs : List (Bool × Refusal)) → first_in (at k cs) ≡ map (λ x. (x, k)) (first_of cs)
first_in_at k [] = refl
first_in_at k (c ∷ cs) =
    elim c.0 as (λ b. ◌≡◌ {A = Option (Refusal × ℕ)} (elim b [ true ↦ some (c.1, k) | false ↦ first_in (at k cs) ])
    (map (λ x. (x, k)) (elim b [ true ↦ some c.1 | false ↦ first_of cs ])))
    [ true ↦ refl | false ↦ first_in_at k cs ]

pub none_holds_at : (k : ℕ) (cs : List (Bool × Refusal)) → NoneHolds (at k cs) → NoneHolds cs
none_holds_at k [] h = tt
none_holds_at k (c ∷ cs) h = (h.0, none_holds_at k cs h.1)

module _ {A : Type 0} (refuse : Refusal → ℕ → A) where
  pub decide_cons : (c : Condition) (cs : List Condition) (accept : A) → elim c.0 [ true ↦ refuse c.1.0 c.1.1 | false ↦ decide cs refuse accept ] ≡ decide (c ∷ cs) refuse accept
  decide_cons c cs accept =
      elim c.0 as (λ b. ◌≡◌ {A = A} (elim b [ true ↦ refuse c.1.0 c.1.1 | false ↦ decide cs refuse accept ])
      (elim (elim b as (λ z. Option (Refusal × ℕ)) [ true ↦ some c.1 | false ↦ first_in cs ]) [ some x ↦ refuse x.0 x.1 | none ↦ accept ]))
      [ true ↦ refl | false ↦ refl ]

  pub decide_append : (cs ds : List Condition) (accept : A) → decide cs refuse (decide ds refuse accept) ≡ decide (cs ++ ds) refuse accept
  decide_append cs ds accept = go (first_in cs) ∙ ap (λ (o : Option (Refusal × ℕ)). elim o [ some x ↦ refuse x.0 x.1 | none ↦ accept ]) (sym (first_in_append cs ds))
    where
      go : (o : Option (Refusal × ℕ)) → ◌≡◌ {A = A} (elim o [ some x ↦ refuse x.0 x.1 | none ↦ decide ds refuse accept ])
          (elim (or_else o (first_in ds)) [ some x ↦ refuse x.0 x.1 | none ↦ accept ])
      go (some x) = refl
      go none = refl

  pub decide_snoc : (cs : List Condition) (c : Condition) (accept : A)
      → decide cs refuse (elim c.0 [ true ↦ refuse c.1.0 c.1.1 | false ↦ accept ]) ≡ decide (cs ++ c ∷ []) refuse accept
  decide_snoc cs c accept = ap (decide cs refuse) (decide_cons c [] accept) ∙ decide_append cs (c ∷ []) accept

  -- the model tries the conditions of one record so
  pub decide_at : (k : ℕ) (cs : List (Bool × Refusal)) (accept : A) → elim (first_of cs) [ some x ↦ refuse x k | none ↦ accept ] ≡ decide (at k cs) refuse accept
  decide_at k cs accept = go (first_of cs) ∙ ap (λ (o : Option (Refusal × ℕ)). elim o [ some x ↦ refuse x.0 x.1 | none ↦ accept ]) (sym (first_in_at k cs))
    where
      go : (o : Option Refusal) → ◌≡◌ {A = A} (elim o [ some x ↦ refuse x k | none ↦ accept ])
          (elim (map {B = Refusal × ℕ} (λ x. (x, k)) o) [ some x ↦ refuse x.0 x.1 | none ↦ accept ])
      go (some x) = refl
      go none = refl

  pub decide_map : {B : Type 0} (f : A → B) (cs : List Condition) (accept : A) → f (decide cs refuse accept) ≡ decide cs (λ x k. f (refuse x k)) (f accept)
  decide_map {B} f cs accept = go (first_in cs)
    where
      go : (o : Option (Refusal × ℕ)) → f (elim o [ some x ↦ refuse x.0 x.1 | none ↦ accept ]) ≡ elim o [ some x ↦ f (refuse x.0 x.1) | none ↦ f accept ]
      go (some x) = refl
      go none = refl

  -- a fact of what is decided: of the refusal that comes first, and of what is accepted when no condition holds
  pub decide_cases : (P : A → Type 0) (cs : List Condition) (accept : A)
      → ((x : Refusal) (k : ℕ) → First (x, k) cs → P (refuse x k)) → (NoneHolds cs → P accept) → P (decide cs refuse accept)
  decide_cases P cs accept r a = go (first_in cs) refl
    where
      go : (o : Option (Refusal × ℕ)) → first_in cs ≡ o → P (elim o [ some x ↦ refuse x.0 x.1 | none ↦ accept ])
      go (some x) e = r x.0 x.1 ((first_in_iff cs x).0 e)
      go none e = a ((first_in_none_iff cs).0 e)

  pub decide_first : (cs : List Condition) (accept : A) (x : Refusal) (k : ℕ) → First (x, k) cs → decide cs refuse accept ≡ refuse x k
  decide_first cs accept x k f = ap (λ (o : Option (Refusal × ℕ)). elim o [ some y ↦ refuse y.0 y.1 | none ↦ accept ]) ((first_in_iff cs (x, k)).1 f)

  pub decide_none : (cs : List Condition) (accept : A) → NoneHolds cs → decide cs refuse accept ≡ accept
  decide_none cs accept h = ap (λ (o : Option (Refusal × ℕ)). elim o [ some y ↦ refuse y.0 y.1 | none ↦ accept ]) ((first_in_none_iff cs).1 h)
