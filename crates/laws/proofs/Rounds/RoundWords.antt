-- The words of the bodies as a round changes them, and the new rule's body.
use Prim.Native.Nat.{ℕ, zero, suc, ◌+◌, ◌≤◌}
use native.Mathlib.Omega.{arith}
use mathlib.Core.Path.{◌≡◌, refl, sym, ap, ◌∙◌, subst}
use mathlib.Core.Logic.{◌⊎◌, inl, inr, ⊎_elim}
use mathlib.Core.Bool.{Bool, not}
use mathlib.Core.List.Memᴰ
use mathlib.Core.List.{List, [], ◌∷◌, ◌++◌, Memᴰ}
use lib.Dec.{T, eqb, eqb→eq, not_T}
use lib.ListN.{length, take, drop}
use mir.Facts.{and_yes, yes_and}
use Rattle.model.specs.Words.{parameter, call, class_of, call_word, renumbered, parameter_word}
use Rattle.model.specs.Trees.{all, same, is_legal, parameters_from}
use Rattle.model.specs.Rounds.{is_label_or_call}
use Rattle.laws.proofs.Words.Classes.{class_of_parameter}
use Rattle.laws.proofs.Trees.Renumbered.{Calls, renumbered_other}
use Rattle.laws.proofs.Trees.Fills.{by_call, when_call_call}
use Rattle.laws.proofs.Words.Lists.{mem_take, on_cons, mem_drop}

pub renumbered_alone : (number : ℕ → ℕ) (w : ℕ) → renumbered number w ≡ parameter_word 1 → w ≡ parameter_word 1
renumbered_alone number w h =
    by_call (w ≡ parameter_word 1) w
    (λ j e. omega (arith, h, when_call_call w (λ j. call_word (number j)) w j e))
    (λ none. sym (renumbered_other number w none) ∙ h)

-- what holds of the rule that a word calls, for the word alone
pub calls_one : (P : ℕ → Type 0) (w : ℕ) → ((j : ℕ) → class_of w ≡ call j → P j) → Calls P (w ∷ [])
calls_one P w p zero j h e = p j e
calls_one P w p (suc i) j h e = absurd (omega arith)

pub single : (ws : List ℕ) → length ws ≡ 1 → (v : ℕ) → Memᴰ v ws → ws ≡ v ∷ []
single [] e v mem = absurd (omega arith)
single (w ∷ []) e v mem = ap {B = List ℕ} (λ u. u ∷ []) (sym (Memᴰ.eq_of_singleton mem))
single (w ∷ x ∷ ws) e v mem = absurd (omega arith)

pub there_all : (test : ℕ → Bool) (ws : List ℕ) → ((w : ℕ) → Memᴰ w ws → T (test w)) → T (all test ws)
there_all test [] f = tt
there_all test (w ∷ ws) f = yes_and (test w) (all test ws) (f w (Memᴰ.head refl)) (there_all test ws (λ v m. f v (Memᴰ.tail m)))

-- The new rule's body: a over b, with y1 to yk for their other children.
pub parameters_are : (i k : ℕ) → 1 ≤ i → i + k ≤ 5 → (v : ℕ) → Memᴰ v (parameters_from i k) → (n : ℕ) × (class_of v ≡ parameter n)
parameters_are i zero h l v mem = absurd (Memᴰ.not-nil mem)
parameters_are i (suc k) h l v mem =
    ⊎_elim (λ e. (i, ap class_of e ∙ class_of_parameter i h (omega arith))) (λ mem'. parameters_are (suc i) k (omega arith) (omega arith) v mem') (Memᴰ.cases_cons mem)

pub over_legal : (r a n b : ℕ) (ys : List ℕ) → T (is_legal r a) → T (is_legal r b) → ((v : ℕ) → Memᴰ v ys → T (is_legal r v))
    → T (all (is_legal r) (a ∷ (take n ys ++ b ∷ drop n ys)))
over_legal r a n b ys la lb ly = there_all (is_legal r) (a ∷ (take n ys ++ b ∷ drop n ys)) (on_cons (λ v. T (is_legal r v)) la (λ v mem. go v (Memᴰ.append_cases (take n ys) mem)))
  where
    go : (v : ℕ) → Memᴰ v (take n ys) ⊎ Memᴰ v (b ∷ drop n ys) → T (is_legal r v)
    go v (inl mem) = ly v (mem_take n ys mem)
    go v (inr mem) = on_cons (λ v. T (is_legal r v)) lb (λ v mem'. ly v (mem_drop n ys mem')) v mem

pub over_alone : (a : ℕ) (ws : List ℕ) → T (is_label_or_call a) → T (not (same (a ∷ ws) (parameter_word 1 ∷ [])))
unfolding class_of
over_alone a ws t =
    not_T (same (a ∷ ws) (parameter_word 1 ∷ []))
    (λ s. subst (λ (w : ℕ). T (is_label_or_call w)) (eqb→eq a (parameter_word 1) (and_yes (eqb a (parameter_word 1)) (same ws []) s).0) t)
