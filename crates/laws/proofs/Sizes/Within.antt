-- Where a tree that is put into a stack stands in the expansion: how many nodes and which parameters stand before it.
use Prim.Native.Nat.{ℕ, suc, ◌+◌, ◌-◌, ◌≤◌, ◌<◌}
use mathlib.Core.Path.{◌≡◌, refl, sym, ap, ◌∙◌}
use mathlib.Core.Bool.{Bool, true, false, cond}
use mathlib.Core.List.{List, [], ◌∷◌, ◌++◌, append_assoc, append-nil}
use native.Mathlib.Nat.{add-zero, add_assoc}
use native.Mathlib.Omega.{arith}
use borrow.Author.Tests.{ltb-true, ltb-false}
use lib.Dec.{ltb}
use lib.ListN.{length, take, drop, length-append, length-drop}
use lib.Seq.{length-take-le, take-append-add, drop-append-add, take-append-le, drop-append-le}
use Rattle.model.specs.Words.{Class, empty, label, parameter, call, illegal, class_of, rank_of, is_parameter, is_parameter_as, rank_as}
use Rattle.model.specs.Trees.{push, join, those, grow, size}
use Rattle.laws.specs.Formed.{height, Fits, Env, stack_of}
use Rattle.laws.specs.Sums.{own_size, own_before, depth_of, before_at, before_place}
use Rattle.laws.proofs.Trees.Folds.{length_fold}
use Rattle.laws.proofs.Trees.Fills.{those_out, those_append, size_append, grow_parameters}
use Rattle.laws.proofs.Sizes.Gaps.{grow_size}
use Rattle.laws.proofs.Words.Lists.{join_parts, join_append}
use Rattle.laws.proofs.Sizes.Inserted.{Puts, grow_around}

nest : (a b t c e : List ℕ) → a ++ (b ++ t ++ c) ++ e ≡ (a ++ b) ++ t ++ (c ++ e)
nest a b t c e = simp append_assoc

regroup : (a b c d : List ℕ) → a ++ b ++ c ++ d ≡ a ++ (b ++ c ++ d)
regroup a b c d = simp append_assoc

-- f puts t into a tree of its stack, with d trees before that tree, and n nodes and the parameters ps before t; the parameters qs stand after it
pub record Within (f : List ℕ → List (List ℕ)) (d n : ℕ) (ps qs : List ℕ) : Type 0 where
  pub before : List (List ℕ)
  pub after : List (List ℕ)
  pub front : List ℕ
  pub back : List ℕ
  pub there : (t : List ℕ) → f t ≡ before ++ (front ++ t ++ back) ∷ after
  pub depth : length before ≡ d
  pub before_size : size (join before) + size front ≡ n
  pub before_parameters : those is_parameter (join before) ++ those is_parameter front ≡ ps
  pub after_parameters : those is_parameter back ++ those is_parameter (join after) ≡ qs

module _ (ranks : List ℕ) (lower : List (List ℕ)) (env : Env ranks lower) where
  abbrev read : ℕ → List (List ℕ) → List (List ℕ)
  read x stack = push (rank_of ranks) (grow (λ v. v) lower) x stack

  read_over : (x k : ℕ) (before : List (List ℕ)) (t : List ℕ) (after : List (List ℕ)) → rank_of ranks x ≡ length before + suc k
      → read x (before ++ t ∷ after) ≡ grow (λ v. v) lower x (before ++ t ∷ take k after) ∷ drop k after
  read_over x k before t after e =
      ap (λ (m : ℕ). grow (λ v. v) lower x (take m (before ++ t ∷ after)) ∷ drop m (before ++ t ∷ after)) e
      ∙ ap (λ (l : List (List ℕ)). grow (λ v. v) lower x l ∷ drop (length before + suc k) (before ++ t ∷ after)) (take-append-add before (t ∷ after) (suc k))
      ∙ ap (λ (l : List (List ℕ)). grow (λ v. v) lower x (before ++ t ∷ take k after) ∷ l) (drop-append-add before (t ∷ after) (suc k))

  read_beside : (x : ℕ) (before more : List (List ℕ)) → rank_of ranks x ≤ length before → read x (before ++ more) ≡ read x before ++ more
  read_beside x before more h =
      ap (λ (l : List (List ℕ)). grow (λ v. v) lower x l ∷ drop (rank_of ranks x) (before ++ more)) (take-append-le (rank_of ranks x) before more h)
      ∙ ap (λ (l : List (List ℕ)). grow (λ v. v) lower x (take (rank_of ranks x) before) ∷ l) (drop-append-le (rank_of ranks x) before more h)

  -- a word over the tree with the place, where the word puts `f` before it and `b` after it
  read_around : (x k : ℕ) (stack before : List (List ℕ)) (front t back : List ℕ) (after : List (List ℕ)) (f b : List ℕ)
      → stack ≡ before ++ (front ++ t ++ back) ∷ after → rank_of ranks x ≡ length before + suc k
      → grow (λ v. v) lower x (before ++ (front ++ t ++ back) ∷ take k after) ≡ f ++ (front ++ t ++ back) ++ b
      → read x stack ≡ ((f ++ front) ++ t ++ (back ++ b)) ∷ drop k after
  read_around x k stack before front t back after f b there at around =
      ap (read x) there ∙ read_over x k before (front ++ t ++ back) after at ∙ ap (λ (u : List ℕ). u ∷ drop k after) (around ∙ nest f front t back b)

  -- the parameters before the place and after it
  front_parted : (f front : List ℕ) (before : List (List ℕ)) (ps : List ℕ) → those is_parameter f ≡ those is_parameter (join before)
      → those is_parameter (join before) ++ those is_parameter front ≡ ps → those is_parameter (f ++ front) ≡ ps
  front_parted f front before ps e g = those_append is_parameter f front ∙ ap (λ l. l ++ those is_parameter front) e ∙ g

  back_parted : (k : ℕ) (back b : List ℕ) (after : List (List ℕ)) (qs : List ℕ) → those is_parameter b ≡ those is_parameter (join (take k after))
      → those is_parameter back ++ those is_parameter (join after) ≡ qs → those is_parameter (back ++ b) ++ those is_parameter (join (drop k after)) ≡ qs
  back_parted k back b after qs e g =
      ap (λ l. l ++ those is_parameter (join (drop k after))) (those_append is_parameter back b ∙ ap (λ l. those is_parameter back ++ l) e)
      ∙ append_assoc (those is_parameter back) (those is_parameter (join (take k after))) (those is_parameter (join (drop k after)))
      ∙ ap (λ l. those is_parameter back ++ l) (sym (those_append is_parameter (join (take k after)) (join (drop k after))) ∙ ap (those is_parameter) (join_parts k after))
      ∙ g

  -- a word that takes the tree with the place for a child
  within_over : (x : ℕ) (F : List ℕ → List (List ℕ)) (d n : ℕ) (ps qs : List ℕ) → Within F d n ps qs → d < rank_of ranks x → rank_of ranks x ≤ length (F [])
      → Within (λ t. read x (F t)) 0 (own_before lower (suc d) x + n) ps qs
  within_over x F d n ps qs W h l =
      let before = W.before in
      let after = W.after in
      let k = rank_of ranks x - suc d in
      let len : length (F []) ≡ length before + suc (length after) = ap length (W.there []) ∙ length-append before ((W.front ++ [] ++ W.back) ∷ after) in
      let at : rank_of ranks x ≡ length before + suc k = omega (arith, W.depth) in
      let lk : length (take k after) ≡ k = length-take-le k after (omega (arith, W.depth)) in
      let g = grow_around ranks lower env x before (take k after) (omega (arith, W.depth)) in
      record {
        before = [];
        after = drop k after;
        front = g.front ++ W.front;
        back = W.back ++ g.back;
        there = λ t. read_around x k (F t) before W.front t W.back after g.front g.back (W.there t) at (g.around (W.front ++ t ++ W.back));
        depth = refl;
        before_size = omega (arith, size_append g.front W.front, g.front_size, W.before_size, ap (λ (m : ℕ). own_before lower (suc m) x) W.depth);
        before_parameters = front_parted g.front W.front before ps g.front_parameters W.before_parameters;
        after_parameters = back_parted k W.back g.back after qs g.back_parameters W.after_parameters;
      }

  -- a word that takes only trees before it
  within_beside : (x : ℕ) (F : List ℕ → List (List ℕ)) (d n : ℕ) (ps qs : List ℕ) → Within F d n ps qs → rank_of ranks x ≤ d
      → Within (λ t. read x (F t)) (suc (d - rank_of ranks x)) (own_size lower x + n) (those is_parameter (x ∷ []) ++ ps) qs
  within_beside x F d n ps qs W h =
      let before = W.before in
      let k = rank_of ranks x in
      let kl : k ≤ length before = omega (arith, W.depth) in
      let T : List ℕ → List ℕ = λ t. W.front ++ t ++ W.back in
      let g = grow (λ v. v) lower x (take k before) in
      let gs = grow_size ranks lower env x (take k before) (length-take-le k before kl) in
      let gp = grow_parameters ranks lower env x (take k before) (length-take-le k before kl) in
      record {
        before = g ∷ drop k before;
        after = W.after;
        front = W.front;
        back = W.back;
        there = λ t. ap (read x) (W.there t) ∙ read_beside x before (T t ∷ W.after) kl;
        depth = ap suc (length-drop k before ∙ ap (λ (m : ℕ). m - k) W.depth);
        before_size =
            omega (arith, size_append g (join (drop k before)), gs, size_append (join (take k before)) (join (drop k before)), ap size (join_parts k before), W.before_size);
        before_parameters =
            ap (λ l. l ++ those is_parameter W.front) (those_append is_parameter g (join (drop k before)) ∙ ap (λ l. l ++ those is_parameter (join (drop k before))) gp)
            ∙ regroup (those is_parameter (x ∷ [])) (those is_parameter (join (take k before))) (those is_parameter (join (drop k before))) (those is_parameter W.front)
            ∙ ap (λ l. those is_parameter (x ∷ []) ++ (l ++ those is_parameter W.front))
            (sym (those_append is_parameter (join (take k before)) (join (drop k before))) ∙ ap (those is_parameter) (join_parts k before))
            ∙ ap (λ l. those is_parameter (x ∷ []) ++ l) W.before_parameters;
        after_parameters = W.after_parameters;
      }

  within_same : {F : List ℕ → List (List ℕ)} {d n n' : ℕ} {ps ps' qs : List ℕ} → Within F d n ps qs → n ≡ n' → ps ≡ ps' → Within F d n' ps' qs
  within_same W e g =
      record {
        before = W.before;
        after = W.after;
        front = W.front;
        back = W.back;
        there = W.there;
        depth = W.depth;
        before_size = W.before_size ∙ e;
        before_parameters = W.before_parameters ∙ g;
        after_parameters = W.after_parameters;
      }

  -- a word with children is no parameter
  ranked : (x : ℕ) → 1 ≤ rank_of ranks x → is_parameter x ≡ false
  ranked x h = go (class_of x) h
    where
      go : (c : Class) → 1 ≤ rank_as ranks c → is_parameter_as c ≡ false
      go empty h = refl
      go label h = refl
      go (parameter n) h = absurd (omega arith)
      go (call j) h = refl
      go illegal h = refl

  -- the words xs read onto a stack with a place in it
  pub stack_within : (first rest : List (List ℕ)) (xs : List ℕ) → Fits (rank_of ranks) (length first + suc (length rest)) xs
      → Within (λ t. stack_of ranks lower xs (first ++ t ∷ rest)) (depth_of (rank_of ranks) (length first) xs) (before_at ranks lower (length first) xs + size (join first))
      (those is_parameter xs ++ those is_parameter (join first)) (those is_parameter (join rest))
  stack_within first rest [] f =
      record {
        before = first;
        after = rest;
        front = [];
        back = [];
        there = λ t. ap (λ (u : List ℕ). first ++ u ∷ rest) (sym (append-nil t));
        depth = refl;
        before_size = omega arith;
        before_parameters = append-nil (those is_parameter (join first));
        after_parameters = refl;
      }
  stack_within first rest (x ∷ xs) f = go (ltb e k) refl (stack_within first rest xs f.1)
    where
      k : ℕ
      k = rank_of ranks x

      e : ℕ
      e = depth_of (rank_of ranks) (length first) xs

      F : List ℕ → List (List ℕ)
      F t = stack_of ranks lower xs (first ++ t ∷ rest)

      n : ℕ
      n = before_at ranks lower (length first) xs

      ps : List ℕ
      ps = those is_parameter (join first)

      enough : k ≤ length (F [])
      enough = rw (length_fold (rank_of ranks) (grow (λ v. v) lower) xs (first ++ [] ∷ rest), length-append first ([] ∷ rest)) f.0

      go : (b : Bool) → ltb e k ≡ b
          → Within F e (n + size (join first)) (those is_parameter xs ++ ps) (those is_parameter (join rest))
          → Within (λ t. read x (F t)) (cond b 0 (suc (e - k))) (cond b (own_before lower (suc e) x) (own_size lower x) + n + size (join first))
          (those is_parameter (x ∷ xs) ++ ps) (those is_parameter (join rest))
      go true h W =
          let l : e < k = ltb-true e k h in
          within_same (within_over x F e (n + size (join first)) (those is_parameter xs ++ ps) (those is_parameter (join rest)) W l enough)
          (sym (add_assoc (own_before lower (suc e) x) n (size (join first))))
          (ap (λ l. l ++ ps) (sym (those_out is_parameter x xs (ranked x (omega arith)))))
      go false h W =
          within_same (within_beside x F e (n + size (join first)) (those is_parameter xs ++ ps) (those is_parameter (join rest)) W (ltb-false e k h))
          (sym (add_assoc (own_size lower x) n (size (join first))))
          (sym (append_assoc (those is_parameter (x ∷ [])) (those is_parameter xs) ps) ∙ ap (λ l. l ++ ps) (sym (those_append is_parameter (x ∷ []) xs)))

  -- the words before and after a place, expanded around what is put there
  pub expand_around : (xs ys : List ℕ) → Fits (rank_of ranks) (suc (height (rank_of ranks) 0 ys)) xs
      → Puts (λ u. join (stack_of ranks lower xs (u ∷ stack_of ranks lower ys []))) (before_place ranks lower xs) (those is_parameter xs) (those is_parameter (join (stack_of ranks lower ys [])))
  expand_around xs ys f =
      let rest = stack_of ranks lower ys [] in
      let l : suc (height (rank_of ranks) 0 ys) ≡ 0 + suc (length rest) = omega (arith, length_fold (rank_of ranks) (grow (λ v. v) lower) ys []) in
      let W = stack_within [] rest xs (rw l at f) in
      record {
        front = join W.before ++ W.front;
        back = W.back ++ join W.after;
        around = λ t. outer (stack_of ranks lower xs (t ∷ rest)) W.before W.front t W.back W.after (W.there t);
        front_size = size_append (join W.before) W.front ∙ W.before_size ∙ add-zero (before_place ranks lower xs);
        front_parameters = those_append is_parameter (join W.before) W.front ∙ W.before_parameters ∙ append-nil (those is_parameter xs);
        back_parameters = those_append is_parameter W.back (join W.after) ∙ W.after_parameters;
      }
    where
      outer : (stack before : List (List ℕ)) (front t back : List ℕ) (after : List (List ℕ)) → stack ≡ before ++ (front ++ t ++ back) ∷ after
          → join stack ≡ (join before ++ front) ++ t ++ (back ++ join after)
      outer stack before front t back after there = ap join there ∙ join_append before ((front ++ t ++ back) ∷ after) ∙ simp append_assoc
