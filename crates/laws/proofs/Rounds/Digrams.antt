-- The digrams of the bodies: what it means that one stands in a body, and that one that occurs does.
use Prim.Native.Nat.{ℕ, zero, suc, ◌+◌, ◌-◌, ◌≤◌, ◌<◌}
use native.Mathlib.Omega.{arith}
use mathlib.Core.Path.{◌≡◌, refl, sym, ap, subst}
use mathlib.Core.Logic.{◌⊎◌, inl, inr}
use mathlib.Core.Bool.{Bool, true, false, cond, ◌&&◌}
use mathlib.Core.List.Memᴰ
use mathlib.Core.List.{List, [], ◌∷◌, ◌++◌, Memᴰ}
use lib.Dec.{T, eqb, ltb→lt, eqb→eq}
use lib.ListN.{length, drop, get_or, length-take}
use mir.Facts.{and_yes, yes_and}
use Rattle.model.specs.Words.{Class, class_of, when_call, rank_of}
use Rattle.model.specs.Trees.{Rule, roots, is_legal}
use Rattle.model.specs.Rounds.{Digram, is_label_or_call, children, digrams_over, digrams_in, digrams, occurrences, new_number, part_of, starts, marks_below, is_taken, parts, uppers}
use Rattle.laws.specs.Formed.{body_at}
use Rattle.laws.specs.Steps.{IsDigram}
use Rattle.laws.proofs.Words.Lists.{mem_take, mem_drop}

-- a digram stands in a body
pub record Stands (ranks body : List ℕ) (d : Digram) : Type 0 where
  pub is : IsDigram ranks d
  pub a_there : Memᴰ d.a body
  pub b_there : Memᴰ d.b body

pub root_there : (ranks ws : List ℕ) {w : ℕ} → Memᴰ w (roots ranks ws) → Memᴰ w ws
root_there ranks [] m = m
root_there ranks (v ∷ ws) {w} m = go (λ m'. root_there ranks ws m') (Memᴰ.cases_cons m)
  where
    go : (Memᴰ w (roots ranks ws) → Memᴰ w ws) → (w ≡ v) ⊎ Memᴰ w (drop (rank_of ranks v) (roots ranks ws)) → Memᴰ w (v ∷ ws)
    go below (inl e) = Memᴰ.head e
    go below (inr m') = Memᴰ.tail (below (mem_drop (rank_of ranks v) (roots ranks ws) m'))

-- the digrams over a are a with each of the children after the i - 1 first ones
over_is : (a i : ℕ) (bs : List ℕ) (d : Digram) → Memᴰ d (digrams_over a i bs)
    → (d.a ≡ a) × T (is_label_or_call d.a) × T (is_label_or_call d.b) × (i ≤ d.i) × (d.i < i + length bs) × Memᴰ d.b bs
over_is a i [] d m = absurd (Memᴰ.not-nil m)
over_is a i (b ∷ bs) d m = go (is_label_or_call a) refl (is_label_or_call b) refl (Memᴰ.append_cases (cond (is_label_or_call a && is_label_or_call b) (record { a = a; i = i; b = b } ∷ []) []) m) (over_is a (suc i) bs d)
  where
    Is : ℕ → List ℕ → Type 0
    Is i bs = (d.a ≡ a) × T (is_label_or_call d.a) × T (is_label_or_call d.b) × (i ≤ d.i) × (d.i < i + length bs) × Memᴰ d.b bs

    later : Is (suc i) bs → Is i (b ∷ bs)
    later x = (x.0, x.1, x.2, omega arith, omega arith, Memᴰ.tail x.5)

    here : is_label_or_call a ≡ true → is_label_or_call b ≡ true → d ≡ record { a = a; i = i; b = b } → Is i (b ∷ bs)
    here ja jb e =
        let ea : d.a ≡ a = ap (λ (x : Digram). x.a) e in
        let ei : d.i ≡ i = ap (λ (x : Digram). x.i) e in
        let eb : d.b ≡ b = ap (λ (x : Digram). x.b) e in
        (ea, rw (ea, ja) tt, rw (eb, jb) tt, omega arith, omega arith, Memᴰ.head eb)

    go : (ja : Bool) → is_label_or_call a ≡ ja → (jb : Bool) → is_label_or_call b ≡ jb
        → Memᴰ d (cond (ja && jb) (record { a = a; i = i; b = b } ∷ []) []) ⊎ Memᴰ d (digrams_over a (suc i) bs)
        → (Memᴰ d (digrams_over a (suc i) bs) → Is (suc i) bs)
        → Is i (b ∷ bs)
    go ja ea jb eb (inr m') below = later (below m')
    go true ea true eb (inl m') below = here ea eb (mathlib.Core.List.Memᴰ.eq_of_singleton m')
    go true ea false eb (inl m') below = absurd (Memᴰ.not-nil m')
    go false ea jb eb (inl m') below = absurd (Memᴰ.not-nil m')

in_is : (ranks ws : List ℕ) (d : Digram) → Memᴰ d (digrams_in ranks ws) → Stands ranks ws d
in_is ranks [] d m = absurd (Memᴰ.not-nil m)
in_is ranks (w ∷ ws) d m = go (in_is ranks ws d) (Memᴰ.append_cases (digrams_over w 1 (children ranks w ws)) m)
  where
    go : (Memᴰ d (digrams_in ranks ws) → Stands ranks ws d)
        → Memᴰ d (digrams_over w 1 (children ranks w ws)) ⊎ Memᴰ d (digrams_in ranks ws)
        → Stands ranks (w ∷ ws) d
    go below (inl m') =
        let x = over_is w 1 (children ranks w ws) d m' in
        let k : rank_of ranks d.a ≡ rank_of ranks w = ap (rank_of ranks) x.0 in
        record {
          is = record { class_a = x.1; class_b = x.2; low = x.3; high = omega (arith, x.4, k, length-take (rank_of ranks w) (roots ranks ws)) };
          a_there = Memᴰ.head x.0;
          b_there = Memᴰ.tail (root_there ranks ws (mem_take (rank_of ranks w) (roots ranks ws) x.5));
        }
    go below (inr m') =
        let x : Stands ranks ws d = below m' in
        record { is = x.is; a_there = Memᴰ.tail x.a_there; b_there = Memᴰ.tail x.b_there }

-- a digram of the bodies stands in one of them
pub digrams_stand : (ranks : List ℕ) (rules : List Rule) (d : Digram) → Memᴰ d (digrams ranks rules)
    → (r : ℕ) × (r < length rules) × Stands ranks (body_at rules r) d
digrams_stand ranks [] d m = absurd (Memᴰ.not-nil m)
digrams_stand ranks (r ∷ rs) d m = go (digrams_stand ranks rs d) (Memᴰ.append_cases (digrams_in ranks r.body) m)
  where
    go : (Memᴰ d (digrams ranks rs) → (r : ℕ) × (r < length rs) × Stands ranks (body_at rs r) d)
        → Memᴰ d (digrams_in ranks r.body) ⊎ Memᴰ d (digrams ranks rs)
        → (s : ℕ) × (s < suc (length rs)) × Stands ranks (body_at (r ∷ rs) s) d
    go below (inl m') = (0, omega arith, in_is ranks r.body d m')
    go below (inr m') = let x = below m' in (suc x.0, omega arith, x.2)

called_under : (r w : ℕ) → T (is_legal r w) → when_call 0 suc w ≤ r
called_under r w t = go (class_of w) refl
  where
    go : (c : Class) → class_of w ≡ c → when_call 0 suc w ≤ r
    go Class.empty e = rw e (omega arith)
    go Class.label e = rw e (omega arith)
    go (Class.parameter n) e = rw e (omega arith)
    go (Class.call j) e = rw e (ltb→lt j r (rw e at t))
    go Class.illegal e = rw e (omega arith)

-- rules with lower numbers alone are called: so is the new number not above the rule in which the digram stands
pub legal_number : (r : ℕ) (d : Digram) → T (is_legal r d.a) → T (is_legal r d.b) → new_number d ≤ r
legal_number r d p q = omega (arith, called_under r d.a p, called_under r d.b q)

-- The other way: a word with a child makes a digram, where both join.
cond_there : (t : Bool) (d e : Digram) (ds : List Digram) → T t → d ≡ e → Memᴰ d (cond t (e ∷ []) [] ++ ds)
cond_there true d e ds u p = Memᴰ.head p
cond_there false d e ds u p = absurd u

over_there : (d : Digram) → T (is_label_or_call d.a) → T (is_label_or_call d.b) → (a i : ℕ) (bs : List ℕ) (n : ℕ) → n < length bs
    → d.a ≡ a → d.i ≡ i + n → d.b ≡ get_or bs n 0 → Memᴰ d (digrams_over a i bs)
over_there d ja jb a i [] n h ea ei eb = absurd (omega arith)
over_there d ja jb a i (b ∷ bs) zero h ea ei eb =
    let ei' : d.i ≡ i = omega arith in
    cond_there (is_label_or_call a && is_label_or_call b) d (record { a = a; i = i; b = b }) (digrams_over a (suc i) bs)
    (yes_and (is_label_or_call a) (is_label_or_call b) (subst (λ (w : ℕ). T (is_label_or_call w)) ea ja) (subst (λ (w : ℕ). T (is_label_or_call w)) eb jb))
    (λ j. record { a = ea j; i = ei' j; b = eb j })
over_there d ja jb a i (b ∷ bs) (suc n) h ea ei eb =
    Memᴰ.append_right (cond (is_label_or_call a && is_label_or_call b) (record { a = a; i = i; b = b } ∷ []) []) (over_there d ja jb a (suc i) bs n (omega arith) ea (omega arith) eb)

-- a word that has the digram's a and its b for i-th child
pub starts_is : (ranks : List ℕ) (d : Digram) (w : ℕ) (ws : List ℕ) → T (starts ranks d w ws) → (w ≡ d.a) × (get_or (children ranks w ws) (d.i - 1) 0 ≡ d.b)
starts_is ranks d w ws t =
    let x = and_yes (eqb w d.a) (eqb (get_or (children ranks w ws) (d.i - 1) 0) d.b) t in
    (eqb→eq w d.a x.0, eqb→eq (get_or (children ranks w ws) (d.i - 1) 0) d.b x.1)

-- no child joins where there is none
child_there : (bs : List ℕ) (n : ℕ) → T (is_label_or_call (get_or bs n 0)) → n < length bs
unfolding class_of
child_there [] n t = absurd t
child_there (b ∷ bs) zero t = omega arith
child_there (b ∷ bs) (suc n) t = omega (arith, child_there bs n t)

-- an occurrence is a digram of the body
in_there : (ranks : List ℕ) (d : Digram) → T (is_label_or_call d.a) → T (is_label_or_call d.b) → 1 ≤ d.i → (marks : List Bool) (ws : List ℕ)
    → 0 < uppers (parts ranks d marks ws) → Memᴰ d (digrams_in ranks ws)
in_there ranks d ja jb from marks [] h = absurd (omega arith)
in_there ranks d ja jb from marks (w ∷ ws) h = go (is_taken marks) (starts ranks d w ws) refl h (λ ms. in_there ranks d ja jb from ms ws)
  where
    here : T (starts ranks d w ws) → Memᴰ d (digrams_over w 1 (children ranks w ws))
    here t =
        let x = starts_is ranks d w ws t in
        over_there d ja jb w 1 (children ranks w ws) (d.i - 1) (child_there (children ranks w ws) (d.i - 1) (subst (λ (v : ℕ). T (is_label_or_call v)) (sym x.1) jb))
        (sym x.0) (omega arith) (sym x.1)

    go : (t s : Bool) → starts ranks d w ws ≡ s → 0 < uppers (part_of t s ∷ parts ranks d (marks_below (part_of t s) d.i (rank_of ranks w) ++ drop 1 marks) ws)
        → ((ms : List Bool) → 0 < uppers (parts ranks d ms ws) → Memᴰ d (digrams_in ranks ws)) → Memᴰ d (digrams_in ranks (w ∷ ws))
    go true s e h below = Memᴰ.append_right (digrams_over w 1 (children ranks w ws)) (below _ h)
    go false true e h below = Memᴰ.append_left (digrams_in ranks ws) (here (rw e tt))
    go false false e h below = Memᴰ.append_right (digrams_over w 1 (children ranks w ws)) (below _ h)

-- a digram that occurs is one of the bodies' digrams
pub occurs_there : (ranks : List ℕ) (d : Digram) → T (is_label_or_call d.a) → T (is_label_or_call d.b) → 1 ≤ d.i → (rules : List Rule)
    → 0 < occurrences ranks d rules → Memᴰ d (digrams ranks rules)
occurs_there ranks d ja jb from [] h = absurd (omega arith)
occurs_there ranks d ja jb from (r ∷ rs) h = go (uppers (parts ranks d [] r.body)) refl (occurs_there ranks d ja jb from rs)
  where
    go : (n : ℕ) → uppers (parts ranks d [] r.body) ≡ n → (0 < occurrences ranks d rs → Memᴰ d (digrams ranks rs)) → Memᴰ d (digrams_in ranks r.body ++ digrams ranks rs)
    go zero e below = Memᴰ.append_right (digrams_in ranks r.body) (below (omega arith))
    go (suc n) e below = Memᴰ.append_left (digrams ranks rs) (in_there ranks d ja jb from [] r.body (omega arith))
