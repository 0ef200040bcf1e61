-- What stands before a place of a body: a complete tree put there stands whole in the expansion, after as many nodes as the words before it add up to.
use Prim.Native.Nat.{ℕ, zero, suc, ◌+◌, ◌<◌}
use mathlib.Core.Path.{◌≡◌, refl, sym, ap, ◌∙◌}
use mathlib.Core.Bool.{Bool, true, false}
use mathlib.Core.List.{List, [], ◌∷◌, ◌++◌}
use native.Mathlib.Omega.{arith}
use lib.ListN.{length, take, drop, get_or}
use lib.Seq.{take_all, append_snoc}
use Rattle.model.specs.Words.{rank_of, is_parameter, rank_as}
use Rattle.model.specs.Trees.{join, those, grow, expand, size, gap_sizes}
use Rattle.laws.specs.Formed.{height, Fits, Tree, Env, stack_of}
use Rattle.laws.specs.Sums.{sum, size_before, before_place}
use Rattle.laws.proofs.Trees.Folds.{fold_append, fits_split}
use Rattle.laws.proofs.Trees.Expansion.{stack_tree}
use Rattle.laws.proofs.Trees.Fills.{those_in, those_out, size_node, size_param, grow_other, parameter_class}
use Rattle.laws.proofs.Sizes.Gaps.{length_gaps, size_gaps}
use Rattle.laws.proofs.Sizes.Within.{expand_around}
use Rattle.laws.proofs.Sizes.Inserted.{before_node, before_param}

module _ (ranks : List ℕ) (lower : List (List ℕ)) where
  -- a complete tree put there
  pub expand_place : (xs t ys : List ℕ) → Tree ranks t → expand ranks lower (xs ++ t ++ ys) ≡ join (stack_of ranks lower xs (expand ranks lower t ∷ stack_of ranks lower ys []))
  expand_place xs t ys tr =
      ap join
      (fold_append (rank_of ranks) (grow (λ v. v) lower) (xs ++ t) ys []
      ∙ fold_append (rank_of ranks) (grow (λ v. v) lower) xs t (stack_of ranks lower ys [])
      ∙ ap (stack_of ranks lower xs) (stack_tree ranks lower t (stack_of ranks lower ys []) tr))

  -- a parameter is itself
  pub parameter_rank : (y : ℕ) → is_parameter y ≡ true → rank_of ranks y ≡ 0
  parameter_rank y e = ap (rank_as ranks) (parameter_class y e).1

  pub parameter_tree : (y : ℕ) → is_parameter y ≡ true → Tree ranks (y ∷ []) × (expand ranks lower (y ∷ []) ≡ y ∷ [])
  parameter_tree y e =
      let z = parameter_rank y e in
      let c = (parameter_class y e).1 in (
        ((omega arith, tt), omega arith),
        ap join
            (ap (λ (k : ℕ). grow (λ v. v) lower y (take k []) ∷ drop k []) z
            ∙ ap (λ (l : List ℕ). l ∷ []) (grow_other (λ v. v) lower [] y (λ j x. let w : ◌≡◌ {A = ℕ} 0 1 = cc in omega arith))),
      )

-- the gaps up to a parameter are what stands before it
pub before_parameter : (P : List ℕ) (y : ℕ) (S : List ℕ) → is_parameter y ≡ true → size_before (suc (length (those is_parameter P))) (P ++ y ∷ S) ≡ size P
before_parameter [] y S e = before_param 0 y S e
before_parameter (p ∷ P) y S e = go (is_parameter p) refl (before_parameter P y S e)
  where
    go : (b : Bool) → is_parameter p ≡ b → size_before (suc (length (those is_parameter P))) (P ++ y ∷ S) ≡ size P → size_before (suc (length (those is_parameter (p ∷ P)))) (p ∷ P ++ y ∷ S) ≡ size (p ∷ P)
    go true h ih =
        ap (λ l. size_before (suc (length l)) (p ∷ (P ++ y ∷ S))) (those_in is_parameter p P h) ∙ before_param (suc (length (those is_parameter P))) p (P ++ y ∷ S) h ∙ ih ∙ sym (size_param p P h)
    go false h ih =
        ap (λ l. size_before (suc (length l)) (p ∷ (P ++ y ∷ S))) (those_out is_parameter p P h) ∙ before_node (length (those is_parameter P)) p (P ++ y ∷ S) h ∙ ap suc ih ∙ sym (size_node p P h)

-- a gap is the difference of two of them
pub gap_difference : (m : ℕ) (e : List ℕ) → size_before (suc m) e ≡ size_before m e + get_or (gap_sizes e) m 0
gap_difference m e = go m (gap_sizes e)
  where
    go : (m : ℕ) (gs : List ℕ) → sum (take (suc m) gs) ≡ sum (take m gs) + get_or gs m 0
    go zero [] = refl
    go (suc m) [] = refl
    go zero (g ∷ gs) = omega arith
    go (suc m) (g ∷ gs) = omega (arith, go m gs)

-- and behind the last parameter they are the whole size
pub before_last : (m : ℕ) (e : List ℕ) → length (those is_parameter e) < m → size_before m e ≡ size e
before_last m e h = ap sum (take_all m (gap_sizes e) (omega (arith, length_gaps e))) ∙ sym (size_gaps e)

-- the same of an expansion that is known only up to the parameter
before_parted : (E P S : List ℕ) (y n : ℕ) (ps : List ℕ) → is_parameter y ≡ true → E ≡ P ++ y ∷ S → those is_parameter P ≡ ps → size P ≡ n → size_before (suc (length ps)) E ≡ n
before_parted E P S y n ps e parted parameters long =
    ap (size_before (suc (length ps))) parted
    ∙ ap (λ (l : List ℕ). size_before (suc (length l)) (P ++ y ∷ S)) (sym parameters)
    ∙ before_parameter P y S e
    ∙ long

module _ (ranks : List ℕ) (lower : List (List ℕ)) (env : Env ranks lower) where
  -- a parameter in a body stands in its expansion where a tree put into its place stands
  expand_parameter : (xs : List ℕ) (y : ℕ) (ys P S : List ℕ) → is_parameter y ≡ true
      → join (stack_of ranks lower xs ((y ∷ []) ∷ stack_of ranks lower ys [])) ≡ P ++ (y ∷ []) ++ S → expand ranks lower (xs ++ y ∷ ys) ≡ P ++ y ∷ S
  expand_parameter xs y ys P S e around =
      ap (expand ranks lower) (sym (append_snoc xs y ys))
      ∙ expand_place ranks lower xs (y ∷ []) ys (parameter_tree ranks lower y e).0
      ∙ ap (λ (u : List ℕ). join (stack_of ranks lower xs (u ∷ stack_of ranks lower ys []))) (parameter_tree ranks lower y e).1
      ∙ around
      ∙ append_snoc P y S

  -- the nodes before y_m of a body's expansion as a sum along the words before it
  pub gap_sum : (xs : List ℕ) (y : ℕ) (ys : List ℕ) → is_parameter y ≡ true → Fits (rank_of ranks) 0 (xs ++ y ∷ ys)
      → size_before (suc (length (those is_parameter xs))) (expand ranks lower (xs ++ y ∷ ys)) ≡ before_place ranks lower xs
  gap_sum xs y ys e f =
      let z = parameter_rank ranks lower y e in
      let h : height (rank_of ranks) 0 (y ∷ ys) ≡ suc (height (rank_of ranks) 0 ys) = omega arith in
      let A = expand_around ranks lower env xs ys (rw h at (fits_split (rank_of ranks) xs (y ∷ ys) 0 f).0) in
      before_parted (expand ranks lower (xs ++ y ∷ ys)) A.front A.back y (before_place ranks lower xs) (those is_parameter xs) e
      (expand_parameter xs y ys A.front A.back e (A.around (y ∷ []))) A.front_parameters A.front_size
