-- Words up to a stop and past it, and the gaps of an expansion.
use Prim.Native.Nat.{ℕ, zero, suc, ◌+◌, ◌*◌, ◌-◌, ◌/◌, ◌%◌, ◌≤◌, ◌<◌}
use native.Mathlib.Omega.{arith}
use native.Mathlib.Nat.{zero-add}
use mathlib.Core.Path.{◌≡◌, refl, sym, ap, ap₂, ◌∙◌}
use mathlib.Core.Bool.{Bool, true, false, cond}
use mathlib.Core.List.{List, [], ◌∷◌, ◌++◌, map}
use lib.Dec.{T, eqb}
use lib.ListN.{length, get_or, get_or-eq_default}
use borrow.Author.Tests.{eqb-true, ne_eqb}
use Rattle.model.specs.Words.{Class, empty, label, parameter, call, illegal, class_of, within, is_parameter, is_tree_word, is_tree_word_as}
use Rattle.model.specs.Trees.{all, gap_sizes, one_more}
use Rattle.laws.proofs.Words.Classes.{within_bounds}
use lib.Ieee.Fits.{and_i}
use Rattle.laws.proofs.Words.Lists.{all_cons}
use Rattle.laws.proofs.Trees.Grown.{grown_word}
use Rattle.laws.proofs.Sizes.Gaps.{length_gaps}
use Rattle.queries.specs.Pieces.{stop, stopped, unstopped, up_to, past, past_all, gap_of}

pub past_past_all : (m : ℕ) (ws : List ℕ) → past (past_all m ws) ≡ past_all (suc m) ws
past_past_all zero ws = refl
past_past_all (suc m) ws = past_past_all m (past ws)

pub up_to_on : (w : ℕ) (ws : List ℕ) → T (unstopped w) → up_to (w ∷ ws) ≡ w ∷ up_to ws
up_to_on w ws t = go (eqb w stop) refl
  where
    go : (b : Bool) → eqb w stop ≡ b → up_to (w ∷ ws) ≡ w ∷ up_to ws
    go true e = absurd (rw e at t)
    go false e = rw (e, up_to)

pub past_on : (w : ℕ) (ws : List ℕ) → T (unstopped w) → past (w ∷ ws) ≡ past ws
past_on w ws t = go (eqb w stop) refl
  where
    go : (b : Bool) → eqb w stop ≡ b → past (w ∷ ws) ≡ past ws
    go true e = absurd (rw e at t)
    go false e = rw (e, past)

pub unstopped_up_to : (ws : List ℕ) → T (all unstopped (up_to ws))
unstopped_up_to [] = tt
unstopped_up_to (w ∷ ws) = go (eqb w stop) refl (unstopped_up_to ws)
  where
    go : (b : Bool) → eqb w stop ≡ b → T (all unstopped (up_to ws)) → T (all unstopped (up_to (w ∷ ws)))
    go true e rec = rw (e, up_to) tt
    go false e rec =
        let t : T (unstopped w) = rw e tt in
        rw (up_to_on w ws t) (and_i (unstopped w) (all unstopped (up_to ws)) t rec)

pub up_to_all : (us : List ℕ) → T (all unstopped us) → up_to us ≡ us
up_to_all [] t = refl
up_to_all (w ∷ us) t = let h = all_cons unstopped w us t in up_to_on w us h.0 ∙ ap (λ l. w ∷ l) (up_to_all us h.1)

pub past_all_lem : (us : List ℕ) → T (all unstopped us) → past us ≡ []
past_all_lem [] t = refl
past_all_lem (w ∷ us) t = let h = all_cons unstopped w us t in past_on w us h.0 ∙ past_all_lem us h.1

pub up_to_stop : (us ws : List ℕ) → T (all unstopped us) → up_to (us ++ stop ∷ ws) ≡ us
up_to_stop [] ws t = refl
up_to_stop (w ∷ us) ws t = let h = all_cons unstopped w us t in up_to_on w (us ++ stop ∷ ws) h.0 ∙ ap (λ l. w ∷ l) (up_to_stop us ws h.1)

pub past_stop : (us ws : List ℕ) → T (all unstopped us) → past (us ++ stop ∷ ws) ≡ ws
past_stop [] ws t = refl
past_stop (w ∷ us) ws t = let h = all_cons unstopped w us t in past_on w (us ++ stop ∷ ws) h.0 ∙ past_stop us ws h.1

pub past_all_nil : (m : ℕ) → past_all m [] ≡ []
past_all_nil zero = refl
past_all_nil (suc m) = past_all_nil m

-- gaps after the last
pub past_all_end : (m d : ℕ) (xs us : List ℕ) → past_all m xs ≡ us → T (all unstopped us) → past_all (m + suc d) xs ≡ []
past_all_end zero d xs us e t = ap (λ k. past_all k xs) (zero-add (suc d)) ∙ ap (λ l. past_all d (past l)) e ∙ ap (past_all d) (past_all_lem us t) ∙ past_all_nil d
past_all_end (suc m) d xs us e t = ap (λ k. past_all k xs) (let f : suc m + suc d ≡ suc (m + suc d) = omega arith in f) ∙ past_all_end m d (past xs) us e t

pub tree_word : (w : ℕ) → T (is_tree_word w) → w < 32768
unfolding class_of
tree_word w t = go (eqb w 0) (within 1 32767 w) (within 32769 32772 w) (within 49152 49407 w) refl refl t
  where
    go : (a b c d : Bool) → eqb w 0 ≡ a → within 1 32767 w ≡ b
        → T (is_tree_word_as (cond a empty (cond b label (cond c (parameter (w - 32768)) (cond d (call (w - 49152)) illegal))))) → w < 32768
    go true b c d x y t = omega (arith, eqb-true w 0 x)
    go false true c d x y t = let k = within_bounds 1 32767 w y in omega arith
    go false false true d x y t = absurd t
    go false false false true x y t = absurd t
    go false false false false x y t = absurd t

pub small_unstopped : (w : ℕ) → w < 32768 → T (unstopped w)
small_unstopped w h = rw (ne_eqb w stop (omega arith)) tt

-- a word of an expansion: a parameter, which is a stop, or a label or ⊥
pub data Kind (w : ℕ) : Type 0 where
  param : is_parameter w ≡ true → stopped w ≡ stop → Kind w
  word : is_parameter w ≡ false → stopped w ≡ w → w < 32768 → Kind w

pub kind : (w : ℕ) → T (grown_word w) → Kind w
kind w t = go (class_of w) refl
  where
    go : (c : Class) → class_of w ≡ c → Kind w
    go (parameter n) e = param (simp e) (simp e)
    go empty e = word (simp e) (simp e) (tree_word w (rw e tt))
    go label e = word (simp e) (simp e) (tree_word w (rw e tt))
    go (call j) e = let z : T false = simp e at t in absurd z
    go illegal e = let z : T false = simp e at t in absurd z

-- the sizes of the gaps
gaps_at : (ws : List ℕ) → T (all grown_word ws) → (c : ℕ) → get_or (gap_sizes ws) c 0 ≡ length (up_to (past_all c (map stopped ws)))
gaps_at [] t zero = refl
gaps_at [] t (suc c) = ap (λ l. length (up_to l)) (sym (past_all_nil c))
gaps_at (w ∷ ws) t c = go (kind w (all_cons grown_word w ws t).0) c (gaps_at ws (all_cons grown_word w ws t).1)
  where
    more : (gs : List ℕ) (c : ℕ) → get_or (one_more gs) (suc c) 0 ≡ get_or gs (suc c) 0
    more [] c = refl
    more (g ∷ gs) c = refl

    first : (gs : List ℕ) → 1 ≤ length gs → get_or (one_more gs) 0 0 ≡ suc (get_or gs 0 0)
    first [] h = absurd (omega arith)
    first (g ∷ gs) h = refl

    gaps_param : is_parameter w ≡ true → gap_sizes (w ∷ ws) ≡ 0 ∷ gap_sizes ws
    gaps_param e = rw (e, gap_sizes)

    gaps_word : is_parameter w ≡ false → gap_sizes (w ∷ ws) ≡ one_more (gap_sizes ws)
    gaps_word e = rw (e, gap_sizes)

    go : Kind w → (c : ℕ) → ((c : ℕ) → get_or (gap_sizes ws) c 0 ≡ length (up_to (past_all c (map stopped ws)))) → get_or (gap_sizes (w ∷ ws)) c 0 ≡ length (up_to (past_all c (map stopped (w ∷ ws))))
    go (param e f) zero rec = simp (e, f, gap_sizes, up_to)
    go (param e f) (suc c) rec =
        ap (λ l. get_or l (suc c) 0) (gaps_param e) ∙ rec c ∙ ap (λ v. length (up_to (past_all (suc c) (v ∷ map stopped ws)))) (sym f)
    go (word e f h) zero rec =
        ap (λ l. get_or l 0 0) (gaps_word e) ∙ first (gap_sizes ws) (omega (arith, length_gaps ws)) ∙ ap suc (rec 0)
        ∙ ap length (sym (up_to_on w (map stopped ws) (small_unstopped w h))) ∙ ap (λ v. length (up_to (v ∷ map stopped ws))) (sym f)
    go (word e f h) (suc c) rec =
        ap (λ l. get_or l (suc c) 0) (gaps_word e) ∙ more (gap_sizes ws) c ∙ rec (suc c)
        ∙ ap (λ l. length (up_to (past_all c l))) (sym (past_on w (map stopped ws) (small_unstopped w h))) ∙ ap (λ v. length (up_to (past_all (suc c) (v ∷ map stopped ws)))) (sym f)

-- gap c of rule j
pub gap_at : (E : List (List ℕ)) (j c : ℕ) → c < 5 → gap_of E (5 * j + c) ≡ up_to (past_all c (map stopped (get_or E j [])))
unfolding gap_of
gap_at E j c h =
    let q : (5 * j + c) / 5 ≡ j = omega arith in
    let r : (5 * j + c) % 5 ≡ c = omega arith in
    ap₂ (λ m i. up_to (past_all m (map stopped (get_or E i [])))) r q

pub gap_plain : (E : List (List ℕ)) (g : ℕ) → T (all unstopped (gap_of E g))
unfolding gap_of
gap_plain E g = unstopped_up_to (past_all (g % 5) (map stopped (get_or E (g / 5) [])))

pub gap_none : (E : List (List ℕ)) (g : ℕ) → length E ≤ g / 5 → gap_of E g ≡ []
unfolding gap_of
gap_none E g h = rw (get_or-eq_default E [] {n = g / 5} h, past_all_nil)

pub gap_size : (E : List (List ℕ)) (j c : ℕ) → c < 5 → T (all grown_word (get_or E j [])) → get_or (gap_sizes (get_or E j [])) c 0 ≡ length (gap_of E (5 * j + c))
gap_size E j c h t = gaps_at (get_or E j []) t c ∙ ap length (sym (gap_at E j c h))
