-- One complete tree, tested from the left: a count of the trees still due.
use Prim.Native.Nat.{ℕ, zero, suc, ◌+◌, ◌≤◌, ◌<◌}
use mathlib.Core.Path.{◌≡◌, refl, sym, ap, ◌∙◌}
use mathlib.Core.Bool.{Bool, true, false, ◌&&◌}
use mathlib.Core.List.{List, [], ◌∷◌}
use native.Mathlib.Omega.{arith}
use lib.Dec.{T, leb, eqb, leb→le, le→leb, eqb→eq}
use lib.ListN.{length, drop, length-drop}
use borrow.Author.Tests.{eq-eqb}
use mir.Facts.{and_yes, yes_and}
use Rattle.model.specs.Words.{Class, class_of, rank_of, rank_as}
use Rattle.model.specs.Trees.{roots, children_there, is_tree}
use Rattle.grammar.specs.declared.rules.Entry.{Entry}
use Rattle.grammar.specs.Meaning.{ranks_in, RanksSmall}

abbrev pub due_ok : List ℕ → ℕ → List ℕ → Bool
due_ok ranks due [] = eqb 0 due
due_ok ranks zero (w ∷ ws) = false
due_ok ranks (suc due) (w ∷ ws) = due_ok ranks (due + rank_of ranks w) ws

-- two tests are the same where each passes if the other does
same_test : (a b : Bool) → (T a → T b) → (T b → T a) → a ≡ b
same_test true true f g = refl
same_test true false f g = absurd (f tt)
same_test false true f g = absurd (g tt)
same_test false false f g = refl

eq→eqb : (a b : ℕ) → a ≡ b → T (eqb a b)
eq→eqb a b e = rw (eq-eqb a b e) tt

due_trees : (ranks : List ℕ) (due : ℕ) (ws : List ℕ) → due_ok ranks due ws ≡ (children_there ranks ws && eqb (length (roots ranks ws)) due)
due_trees ranks due [] = refl
due_trees ranks zero (w ∷ ws) = same_test false _ (λ t. absurd t) (λ t. absurd (no_zero (eqb→eq (suc n) zero ((and_yes (children_there ranks (w ∷ ws)) (eqb (suc n) zero) t).1))))
  where
    n : ℕ
    n = length (drop (rank_of ranks w) (roots ranks ws))

    no_zero : suc n ≡ zero → ⊥
    no_zero e = omega arith
due_trees ranks (suc due) (w ∷ ws) =
    due_trees ranks (due + rank_of ranks w) ws
    ∙ same_test (children_there ranks ws && eqb len (due + k)) (leb k len && children_there ranks ws && eqb (suc (length (drop k (roots ranks ws)))) (suc due)) there back
  where
    k : ℕ
    k = rank_of ranks w

    len : ℕ
    len = length (roots ranks ws)

    there : T (children_there ranks ws && eqb len (due + k)) → T (leb k len && children_there ranks ws && eqb (suc (length (drop k (roots ranks ws)))) (suc due))
    there t =
        let e : len ≡ due + k = eqb→eq len (due + k) ((and_yes (children_there ranks ws) (eqb len (due + k)) t).1) in
        yes_and (leb k len && children_there ranks ws) (eqb (suc (length (drop k (roots ranks ws)))) (suc due))
        (yes_and (leb k len) (children_there ranks ws) (le→leb k len (omega arith)) ((and_yes (children_there ranks ws) (eqb len (due + k)) t).0))
        (eq→eqb (suc (length (drop k (roots ranks ws)))) (suc due) (omega (arith, length-drop k (roots ranks ws))))

    back : T (leb k len && children_there ranks ws && eqb (suc (length (drop k (roots ranks ws)))) (suc due)) → T (children_there ranks ws && eqb len (due + k))
    back t =
        let l : T (leb k len && children_there ranks ws) = (and_yes (leb k len && children_there ranks ws) (eqb (suc (length (drop k (roots ranks ws)))) (suc due)) t).0 in
        let s : suc (length (drop k (roots ranks ws))) ≡ suc due = eqb→eq _ _ ((and_yes (leb k len && children_there ranks ws) (eqb (suc (length (drop k (roots ranks ws)))) (suc due)) t).1) in
        let h : k ≤ len = leb→le k len ((and_yes (leb k len) (children_there ranks ws) l).0) in
        yes_and (children_there ranks ws) (eqb len (due + k)) ((and_yes (leb k len) (children_there ranks ws) l).1) (eq→eqb len (due + k) (omega (arith, length-drop k (roots ranks ws))))

-- a word's rank by the table is at most 4
pub rank_small : (rules : List Entry) → RanksSmall rules → (w : ℕ) → rank_of (ranks_in rules) w ≤ 4
rank_small rules small w = go (class_of w)
  where
    go : (c : Class) → rank_as (ranks_in rules) c ≤ 4
    go Class.empty = omega arith
    go Class.label = omega arith
    go (Class.parameter i) = omega arith
    go (Class.call j) = small j
    go Class.illegal = omega arith

-- the count along a body ws, as the loop over it goes
module _ (ranks ws : List ℕ) where
  pub due_start : (i due : ℕ) → i ≡ 0 → due ≡ 1 → is_tree ranks ws ≡ due_ok ranks due (drop i ws)
  due_start i due e f = rw (e, f) (sym (due_trees ranks 1 ws))

  pub due_stop : (i w : ℕ) (rest : List ℕ) → drop i ws ≡ w ∷ rest → due_ok ranks 0 (drop i ws) ≡ false
  due_stop i w rest e = ap (due_ok ranks 0) e

  pub due_step : (i due w : ℕ) → drop i ws ≡ w ∷ drop (i + 1) ws → 0 < due → (i' due' : ℕ) → i' ≡ i + 1 → due' + 1 ≡ due + rank_of ranks w
      → due_ok ranks due (drop i ws) ≡ due_ok ranks due' (drop i' ws)
  due_step i zero w e h i' due' f g = absurd (omega arith)
  due_step i (suc due) w e h i' due' f g =
      ap (due_ok ranks (suc due)) e
      ∙ ap (λ (n : ℕ). due_ok ranks n (drop (i + 1) ws)) fewer
      ∙ ap (λ (n : ℕ). due_ok ranks due' (drop n ws)) (sym f)
    where
      fewer : due + rank_of ranks w ≡ due'
      fewer = omega arith

  pub due_end : (i due : ℕ) → drop i ws ≡ [] → eqb due 0 ≡ due_ok ranks due (drop i ws)
  due_end i due e = same_test (eqb due 0) (eqb 0 due) (λ t. eq→eqb 0 due (sym (eqb→eq due 0 t))) (λ t. eq→eqb due 0 (sym (eqb→eq 0 due t))) ∙ sym (ap (due_ok ranks due) e)
