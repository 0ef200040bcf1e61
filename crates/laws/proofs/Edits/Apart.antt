-- Updates that are apart: their order does not matter to what they make at once.
use Prim.Native.Nat.{ℕ, suc}
use mathlib.Core.Path.{◌≡◌, refl, sym, ap, ◌∙◌}
use mathlib.Core.Bool.{Bool, true, false, cond, not, ◌&&◌, ◌||◌}
use mathlib.Core.List.{List, [], ◌∷◌, ◌++◌}
use lib.Dec.{T, eqb}
use borrow.Author.Tests.{eqb-true, eqb-false, eq-eqb, ne_eqb}
use Rattle.model.specs.Edits.{Update, removes, removed, piece, piece_as, all_from, all_at_once, clash, clashes, apart}
use Rattle.laws.specs.Orders.{Reordered, none, keep, swap, twice}
use Rattle.laws.proofs.Words.Tests.{or_split}

or_swap : (a b c : Bool) → (a || (b || c)) ≡ (b || (a || c))
or_swap true true c = refl
or_swap true false c = refl
or_swap false true c = refl
or_swap false false c = refl

pub eqb_sym : (a b : ℕ) → eqb a b ≡ eqb b a
eqb_sym a b = go (eqb a b) refl
  where
    go : (t : Bool) → eqb a b ≡ t → eqb a b ≡ eqb b a
    go true e = e ∙ sym (eq-eqb b a (sym (eqb-true a b e)))
    go false e = e ∙ sym (ne_eqb b a (λ f. eqb-false a b e (sym f)))

clash_sym : (base : List ℕ) (u v : Update) → clash base u v ≡ clash base v u
clash_sym base u v = ap (λ (t : Bool). t || removes base u v.at || removes base v u.at) (eqb_sym u.at v.at) ∙ go (eqb v.at u.at) (removes base u v.at) (removes base v u.at)
  where
    go : (a b c : Bool) → (a || b || c) ≡ (a || c || b)
    go true b c = refl
    go false true true = refl
    go false true false = refl
    go false false true = refl
    go false false false = refl

-- none of this depends on the order
clashes_order : (base : List ℕ) (x : Update) {us vs : List Update} → Reordered us vs → clashes base x us ≡ clashes base x vs
clashes_order base x none = refl
clashes_order base x (keep {u = u} r) = ap (λ (t : Bool). clash base x u || t) (clashes_order base x r)
clashes_order base x (swap {u = u} {v = v} {us = us}) = or_swap (clash base x u) (clash base x v) (clashes base x us)
clashes_order base x (twice r s) = clashes_order base x r ∙ clashes_order base x s

removed_order : (base : List ℕ) {us vs : List Update} → Reordered us vs → (p : ℕ) → removed base us p ≡ removed base vs p
removed_order base none p = refl
removed_order base (keep {u = u} r) p = ap (λ (t : Bool). removes base u p || t) (removed_order base r p)
removed_order base (swap {u = u} {v = v} {us = us}) p = or_swap (removes base u p) (removes base v p) (removed base us p)
removed_order base (twice r s) p = removed_order base r p ∙ removed_order base s p

pub apart_split : (base : List ℕ) (u : Update) (us : List Update) → T (apart base (u ∷ us)) → (clashes base u us ≡ false) × T (apart base us)
apart_split base u us t = go (clashes base u us) t
  where
    go : (c : Bool) → T (not c && apart base us) → (c ≡ false) × T (apart base us)
    go true t = absurd t
    go false t = (refl, t)

pub apart_cons : (base : List ℕ) (u : Update) (us : List Update) → clashes base u us ≡ false → T (apart base us) → T (apart base (u ∷ us))
apart_cons base u us e t = simp e t

pub apart_order : (base : List ℕ) {us vs : List Update} → Reordered us vs → T (apart base us) → T (apart base vs)
apart_order base none t = t
apart_order base (keep {u = u} {us = us} {vs = vs} r) t =
    let x = apart_split base u us t in
    apart_cons base u vs (sym (clashes_order base u r) ∙ x.0) (apart_order base r x.1)
apart_order base (swap {u = u} {v = v} {us = us}) t =
    let x = apart_split base u (v ∷ us) t in
    let y = apart_split base v us x.1 in
    let z = or_split (clash base u v) (clashes base u us) x.0 in
    apart_cons base v (u ∷ us) (simp (sym (clash_sym base u v) ∙ z.0, y.0)) (apart_cons base u us z.1 y.1)
apart_order base (twice r s) t = apart_order base s (apart_order base r t)

cond_swap : {A : Type 0} (a b : Bool) (x y z : A) → (a ≡ true → b ≡ true → ⊥) → cond a x (cond b y z) ≡ cond b y (cond a x z)
cond_swap true true x y z n = absurd (n refl refl)
cond_swap true false x y z n = refl
cond_swap false true x y z n = refl
cond_swap false false x y z n = refl

clash_at : (base : List ℕ) (u v : Update) → clash base u v ≡ false → u.at ≡ v.at → ⊥
clash_at base u v e = eqb-false u.at v.at (or_split (eqb u.at v.at) (removes base u v.at) (or_split (eqb u.at v.at || removes base u v.at) (removes base v u.at) e).0).0

piece_order : (base : List ℕ) {us vs : List Update} → Reordered us vs → T (apart base us) → (p : ℕ) (ws : List ℕ) → piece us p ws ≡ piece vs p ws
piece_order base none t p ws = refl
piece_order base (keep {u = u} {us = us} {vs = vs} r) t p ws = ap (cond (eqb u.at p) (piece_as u.edit ws)) (piece_order base r (apart_split base u us t).1 p ws)
piece_order base (swap {u = u} {v = v} {us = us}) t p ws =
    let x = apart_split base u (v ∷ us) t in
    let z = or_split (clash base u v) (clashes base u us) x.0 in
    cond_swap (eqb u.at p) (eqb v.at p) (piece_as u.edit ws) (piece_as v.edit ws) (piece us p ws)
    (λ e f. clash_at base u v z.0 (eqb-true u.at p e ∙ sym (eqb-true v.at p f)))
piece_order base (twice r s) t p ws = piece_order base r t p ws ∙ piece_order base s (apart_order base r t) p ws

-- what is made at once does not depend on the order
all_order_from : (base : List ℕ) {us vs : List Update} → Reordered us vs → T (apart base us) → (p : ℕ) (ws : List ℕ) → all_from base us p ws ≡ all_from base vs p ws
all_order_from base r t p [] = refl
all_order_from base {us} {vs} r t p (w ∷ ws) =
    ap (λ (b : Bool). cond b [] (piece us p (w ∷ [])) ++ all_from base us (suc p) ws) (removed_order base r p)
    ∙ ap (λ (l : List ℕ). cond (removed base vs p) [] l ++ all_from base us (suc p) ws) (piece_order base r t p (w ∷ []))
    ∙ ap (λ (l : List ℕ). cond (removed base vs p) [] (piece vs p (w ∷ [])) ++ l) (all_order_from base r t (suc p) ws)

pub all_order : (base : List ℕ) {us vs : List Update} → Reordered us vs → T (apart base us) → T (apart base vs) × (all_at_once vs base ≡ all_at_once us base)
all_order base r t = (apart_order base r t, sym (all_order_from base r t 0 base))
