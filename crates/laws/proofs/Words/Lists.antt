-- Facts on lists that hold whatever the words mean: lists cut and joined, what holds of each of a list, tests that all pass.
use Prim.Native.Nat.{ℕ, zero, suc, ◌<◌}
use mathlib.Core.Path.{◌≡◌, refl, sym, ap, subst, ◌∙◌}
use mathlib.Core.Bool.{Bool}
use mathlib.Core.Logic.{◌⊎◌, inl, inr}
use mathlib.Core.List.Memᴰ
use mathlib.Core.List.{List, [], ◌∷◌, ◌++◌, map, append_assoc, Memᴰ}
use native.Mathlib.Omega.{arith}
use mir.Facts.{and_yes, yes_and}
use lib.Dec.{T}
use lib.ListN.{length, take, drop, get_or, take-append-drop}
use Rattle.model.specs.Trees.{join, all}

pub join_append : {A : Type 0} (xs ys : List (List A)) → join (xs ++ ys) ≡ join xs ++ join ys
join_append [] ys = refl
join_append (x ∷ xs) ys = ap (λ r. x ++ r) (join_append xs ys) ∙ sym (append_assoc x (join xs) (join ys))

-- a list of lists cut in two
pub join_parts : {A : Type 0} (k : ℕ) (ts : List (List A)) → join (take k ts) ++ join (drop k ts) ≡ join ts
join_parts k ts = sym (join_append (take k ts) (drop k ts)) ∙ ap join (take-append-drop k ts)

pub map_take : {A B : Type 0} (g : A → B) (n : ℕ) (l : List A) → map g (take n l) ≡ take n (map g l)
map_take g zero l = refl
map_take g (suc n) [] = refl
map_take g (suc n) (x ∷ xs) = ap (λ r. g x ∷ r) (map_take g n xs)

pub map_drop : {A B : Type 0} (g : A → B) (n : ℕ) (l : List A) → map g (drop n l) ≡ drop n (map g l)
map_drop g zero l = refl
map_drop g (suc n) [] = refl
map_drop g (suc n) (x ∷ xs) = map_drop g n xs

pub get_or_map : {A B : Type 0} (h : A → B) (xs : List A) (p : ℕ) (d : A) (d' : B) → p < length xs → get_or (map h xs) p d' ≡ h (get_or xs p d)
get_or_map h [] p d d' b = absurd (omega arith)
get_or_map h (x ∷ xs) zero d d' b = refl
get_or_map h (x ∷ xs) (suc p) d d' b = get_or_map h xs p d d' (omega arith)

pub append_none : {A : Type 0} (xs ys : List A) → xs ++ ys ≡ [] → (xs ≡ []) × (ys ≡ [])
append_none [] ys e = (refl, e)
append_none (x ∷ xs) ys e = let z : ◌≡◌ {A = ℕ} 0 1 = cc in absurd (omega arith)

-- each of a list
abbrev pub Every : {A : Type 0} → (A → Type 0) → List A → Type 0
Every P [] = Unit {0}
Every P (x ∷ xs) = P x × Every P xs

module _ {A : Type 0} (P : A → Type 0) where
  pub every_take : (n : ℕ) (xs : List A) → Every P xs → Every P (take n xs)
  every_take zero xs p = tt
  every_take (suc n) [] p = tt
  every_take (suc n) (x ∷ xs) p = (p.0, every_take n xs p.1)

  pub every_drop : (n : ℕ) (xs : List A) → Every P xs → Every P (drop n xs)
  every_drop zero xs p = p
  every_drop (suc n) [] p = tt
  every_drop (suc n) (x ∷ xs) p = every_drop n xs p.1

  pub every_append : (xs ys : List A) → Every P xs → Every P ys → Every P (xs ++ ys)
  every_append [] ys p q = q
  every_append (x ∷ xs) ys p q = (p.0, every_append xs ys p.1 q)

  pub every_at : (xs : List A) → Every P xs → (d : A) (i : ℕ) → i < length xs → P (get_or xs i d)
  every_at [] p d i h = absurd (omega arith)
  every_at (x ∷ xs) p d zero h = p.0
  every_at (x ∷ xs) p d (suc i) h = every_at xs p.1 d i (omega arith)

  pub at_every : (xs : List A) (d : A) → ((i : ℕ) → i < length xs → P (get_or xs i d)) → Every P xs
  at_every [] d f = tt
  at_every (x ∷ xs) d f = (f 0 (omega arith), at_every xs d (λ i h. f (suc i) (omega arith)))

  pub every_split : (xs ys : List A) → Every P (xs ++ ys) → Every P xs × Every P ys
  every_split [] ys f = (tt, f)
  every_split (x ∷ xs) ys f = let r = every_split xs ys f.1 in ((f.0, r.0), r.1)

  pub every_join : (xss : List (List A)) → Every (Every P) xss → Every P (join xss)
  every_join [] f = tt
  every_join (xs ∷ xss) f = every_append xs (join xss) f.0 (every_join xss f.1)

  pub every_get_or : (xss : List (List A)) → Every (Every P) xss → (n : ℕ) → Every P (get_or xss n [])
  every_get_or [] f n = tt
  every_get_or (xs ∷ xss) f zero = f.0
  every_get_or (xs ∷ xss) f (suc n) = every_get_or xss f.1 n

pub every_weaken : {A : Type 0} {Q R : A → Type 0} → ((x : A) → Q x → R x) → (xs : List A) → Every Q xs → Every R xs
every_weaken i [] f = tt
every_weaken i (x ∷ xs) f = (i x f.0, every_weaken i xs f.1)

pub every_map : {A B : Type 0} (h : A → B) (Q : B → Type 0) (xs : List A) → Every (λ x. Q (h x)) xs → Every Q (map h xs)
every_map h Q [] f = tt
every_map h Q (x ∷ xs) f = (f.0, every_map h Q xs f.1)

-- a fact about the first and about the others of a list
pub on_cons : {A : Type 0} (P : A → Type 0) {a : A} {l : List A} → P a → ((b : A) → Memᴰ b l → P b) → (b : A) → Memᴰ b (a ∷ l) → P b
on_cons P {a} {l} here there b m = go (Memᴰ.cases_cons m)
  where
    go : (b ≡ a) ⊎ Memᴰ b l → P b
    go (inl e) = subst P (sym e) here
    go (inr m') = there b m'

pub mem_take : {A : Type 0} {a : A} (n : ℕ) (l : List A) → Memᴰ a (take n l) → Memᴰ a l
mem_take zero l m = absurd (Memᴰ.not-nil m)
mem_take (suc n) [] m = m
mem_take {a = a} (suc n) (x ∷ xs) m = go (mem_take n xs) (Memᴰ.cases_cons m)
  where
    go : (Memᴰ a (take n xs) → Memᴰ a xs) → (a ≡ x) ⊎ Memᴰ a (take n xs) → Memᴰ a (x ∷ xs)
    go below (inl e) = Memᴰ.head e
    go below (inr m') = Memᴰ.tail (below m')

pub mem_drop : {A : Type 0} {a : A} (n : ℕ) (l : List A) → Memᴰ a (drop n l) → Memᴰ a l
mem_drop zero l m = m
mem_drop (suc n) [] m = m
mem_drop (suc n) (x ∷ xs) m = Memᴰ.tail (mem_drop n xs m)

pub mem_get_or : {A : Type 0} (l : List A) (i : ℕ) (e : A) → i < length l → Memᴰ (get_or l i e) l
mem_get_or [] i e h = absurd (omega arith)
mem_get_or (x ∷ xs) zero e h = Memᴰ.head refl
mem_get_or (x ∷ xs) (suc i) e h = Memᴰ.tail (mem_get_or xs i e (omega arith))

pub all_cons : (test : ℕ → Bool) (w : ℕ) (ws : List ℕ) → T (all test (w ∷ ws)) → T (test w) × T (all test ws)
all_cons test w ws t = and_yes (test w) (all test ws) t

-- the word at each place passes where all do
pub all_at : (test : ℕ → Bool) (ws : List ℕ) → T (all test ws) → (i : ℕ) → i < length ws → T (test (get_or ws i 0))
all_at test [] t i h = absurd (omega arith)
all_at test (w ∷ ws) t zero h = (all_cons test w ws t).0
all_at test (w ∷ ws) t (suc i) h = all_at test ws (all_cons test w ws t).1 i (omega arith)

-- a test that follows
pub all_imp : (test test' : ℕ → Bool) → ((w : ℕ) → T (test w) → T (test' w)) → (ws : List ℕ) → T (all test ws) → T (all test' ws)
all_imp test test' f [] t = tt
all_imp test test' f (w ∷ ws) t =
    let s = all_cons test w ws t in
    yes_and (test' w) (all test' ws) (f w s.0) (all_imp test test' f ws s.1)

pub all_append : (test : ℕ → Bool) (vs ws : List ℕ) → T (all test vs) → T (all test ws) → T (all test (vs ++ ws))
all_append test [] ws s t = t
all_append test (v ∷ vs) ws s t =
    let u = all_cons test v vs s in
    yes_and (test v) (all test (vs ++ ws)) u.0 (all_append test vs ws u.1 t)

pub all_split : (test : ℕ → Bool) (xs ys : List ℕ) → T (all test (xs ++ ys)) → T (all test xs) × T (all test ys)
all_split test [] ys t = (tt, t)
all_split test (x ∷ xs) ys t =
    let s = all_cons test x (xs ++ ys) t in
    let r = all_split test xs ys s.1 in
    (yes_and (test x) (all test xs) s.0 r.0, r.1)

pub all_joined : (test : ℕ → Bool) (ts : List (List ℕ)) → T (all test (join ts)) → Every (λ ws. T (all test ws)) ts
all_joined test [] t = tt
all_joined test (u ∷ ts) t = let s = all_split test u (join ts) t in (s.0, all_joined test ts s.1)

pub all_member : (test : ℕ → Bool) (ts : List (List ℕ)) (c : ℕ) → T (all test (join ts)) → T (all test (get_or ts c []))
all_member test [] c t = tt
all_member test (u ∷ ts) zero t = (all_split test u (join ts) t).0
all_member test (u ∷ ts) (suc c) t = all_member test ts c (all_split test u (join ts) t).1

-- each word of the list passes where all do
pub all_there : (test : ℕ → Bool) (ws : List ℕ) → T (all test ws) → (w : ℕ) → Memᴰ w ws → T (test w)
all_there test [] t w m = absurd (Memᴰ.not-nil m)
all_there test (v ∷ ws) t w m = on_cons (λ w. T (test w)) (and_yes (test v) (all test ws) t).0 (all_there test ws (and_yes (test v) (all test ws) t).1) w m
