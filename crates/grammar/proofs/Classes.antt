-- The class of a word, from where the word lies: one law for each row of document 01's table, and one for each stretch of illegal words.
use Prim.Native.Nat.{ℕ, ◌-◌, ◌≤◌, ◌<◌}
use mathlib.Core.Path.{◌≡◌, ◌∙◌}
use mathlib.Core.Bool.{cond}
use native.Mathlib.Omega.{arith}
use borrow.Author.Tests.{ne_eqb, le-leb, lt-leb}
use Rattle.model.specs.Words.{within, class_of, label, parameter, call, illegal}

module _ (w : ℕ) where
  pub class_label : 1 ≤ w → w ≤ 32767 → class_of w ≡ label
  unfolding class_of
  class_label l h = simp (ne_eqb w 0 (omega arith), le-leb 1 w l, le-leb w 32767 h)

  pub class_illegal_1 : 32767 < w → w < 32769 → class_of w ≡ illegal
  unfolding class_of
  class_illegal_1 l h =
      simp
      (ne_eqb w 0 (omega arith), le-leb 1 w (omega arith), lt-leb w 32767 l, lt-leb 32769 w h, lt-leb 49152 w (omega arith))

  pub class_parameter : 32769 ≤ w → w ≤ 32772 → class_of w ≡ parameter (w - 32768)
  unfolding class_of
  class_parameter l h = simp (ne_eqb w 0 (omega arith), le-leb 1 w (omega arith), lt-leb w 32767 (omega arith), le-leb 32769 w l, le-leb w 32772 h)

  -- above the parameters
  above : 32772 < w → class_of w ≡ cond (within 49152 49407 w) (call (w - 49152)) illegal
  unfolding class_of
  above h = simp (ne_eqb w 0 (omega arith), le-leb 1 w (omega arith), lt-leb w 32767 (omega arith), le-leb 32769 w (omega arith), lt-leb w 32772 h)

  pub class_illegal_2 : 32772 < w → w < 49152 → class_of w ≡ illegal
  class_illegal_2 l h = above l ∙ simp (lt-leb 49152 w h)

  pub class_call : 49152 ≤ w → w ≤ 49407 → class_of w ≡ call (w - 49152)
  class_call l h = above (omega arith) ∙ simp (le-leb 49152 w l, le-leb w 49407 h)

  pub class_illegal_3 : 49407 < w → class_of w ≡ illegal
  class_illegal_3 l = above (omega arith) ∙ simp (le-leb 49152 w (omega arith), lt-leb w 49407 l)
