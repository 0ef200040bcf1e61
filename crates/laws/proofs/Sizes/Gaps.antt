-- Sizes: gaps add up to the size of a rule, and the words of a body to the size of its expansion.
use Prim.Native.Nat.{ℕ, zero, suc, ◌+◌, ◌≤◌, ◌<◌}
use mathlib.Core.Path.{◌≡◌, refl, sym, ap, ◌∙◌}
use mathlib.Core.Bool.{Bool, true, false, cond}
use mathlib.Core.List.{List, [], ◌∷◌, ◌++◌}
use native.Mathlib.Nat.{zero-add, suc-add, add-zero, add_assoc}
use mathlib.Core.Option.{none, some}
use native.Mathlib.Omega.{arith}
use borrow.Author.Tests.{le-ltb, lt-ltb, ltb-false}
use lib.Dec.{T, ltb}
use lib.ListN.{length, get_or}
use Rattle.model.specs.Bounds.{largest_size}
use Rattle.model.specs.Words.{Class, empty, label, parameter, call, illegal, class_of, rank_of, is_parameter}
use Rattle.model.specs.Trees.{Rule, join, those, grow, expand, expansions, ranks_of, start_of, nodes, size, gap_sizes, one_more, lowest_huge}
use Rattle.laws.specs.Formed.{formed, Fits, Env, stack_of, body_at}
use Rattle.laws.specs.Sums.{sum_of, sum, own_size, own_as}
use Rattle.laws.proofs.Trees.Fills.{those_in, those_out, size_append, size_node, size_param, fill_size, total, stack_measure, by_call, grow_call, grow_other, rank_call, env_order, expand_parameters, length_parameters_from}
use Rattle.laws.proofs.Trees.Grammar.{rule_of, formed_env, expansions_solve, tree_of_start, start_tree, start_no_parameters}

pub sum_append : {A : Type 0} (f : A → ℕ) (xs ys : List A) → sum_of f (xs ++ ys) ≡ sum_of f xs + sum_of f ys
sum_append f [] ys = sym (zero-add (sum_of f ys))
sum_append f (x ∷ xs) ys = omega (arith, sum_append f xs ys)

pub gaps_param : (w : ℕ) (ws : List ℕ) → is_parameter w ≡ true → gap_sizes (w ∷ ws) ≡ 0 ∷ gap_sizes ws
gaps_param w ws e = rw (e, gap_sizes)

pub gaps_node : (w : ℕ) (ws : List ℕ) → is_parameter w ≡ false → gap_sizes (w ∷ ws) ≡ one_more (gap_sizes ws)
gaps_node w ws e = rw (e, gap_sizes)

-- the gaps are never none, and one more node adds to the first
length_more : (gs : List ℕ) → length (one_more gs) ≡ length gs
length_more [] = refl
length_more (g ∷ gs) = refl

sum_more : (gs : List ℕ) → 1 ≤ length gs → sum (one_more gs) ≡ suc (sum gs)
sum_more [] h = absurd (omega arith)
sum_more (g ∷ gs) h = suc-add g (sum gs)

-- one gap more than parameters
pub length_gaps : (ws : List ℕ) → length (gap_sizes ws) ≡ suc (length (those is_parameter ws))
length_gaps [] = refl
length_gaps (w ∷ ws) = go (is_parameter w) refl (length_gaps ws)
  where
    go : (b : Bool) → is_parameter w ≡ b → length (gap_sizes ws) ≡ suc (length (those is_parameter ws)) → length (gap_sizes (w ∷ ws)) ≡ suc (length (those is_parameter (w ∷ ws)))
    go true e ih = ap length (gaps_param w ws e) ∙ ap suc ih ∙ ap (λ l. suc (length l)) (sym (those_in is_parameter w ws e))
    go false e ih = ap length (gaps_node w ws e) ∙ length_more (gap_sizes ws) ∙ ih ∙ ap (λ l. suc (length l)) (sym (those_out is_parameter w ws e))

-- a rule's size is the sum of its gap sizes
pub size_gaps : (ws : List ℕ) → size ws ≡ sum (gap_sizes ws)
size_gaps [] = refl
size_gaps (w ∷ ws) = go (is_parameter w) refl (size_gaps ws)
  where
    go : (b : Bool) → is_parameter w ≡ b → size ws ≡ sum (gap_sizes ws) → size (w ∷ ws) ≡ sum (gap_sizes (w ∷ ws))
    go true e ih = size_param w ws e ∙ ih ∙ sym (zero-add (sum (gap_sizes ws))) ∙ ap sum (sym (gaps_param w ws e))
    go false e ih = size_node w ws e ∙ ap suc ih ∙ sym (sum_more (gap_sizes ws) (omega (arith, length_gaps ws))) ∙ ap sum (sym (gaps_node w ws e))

-- parameters and other words are all there is
pub length_size : (ws : List ℕ) → length ws ≡ size ws + length (those is_parameter ws)
length_size [] = refl
length_size (w ∷ ws) = go (is_parameter w) refl (length_size ws)
  where
    go : (b : Bool) → is_parameter w ≡ b → length ws ≡ size ws + length (those is_parameter ws) → length (w ∷ ws) ≡ size (w ∷ ws) + length (those is_parameter (w ∷ ws))
    go true e ih = let a = ap length (those_in is_parameter w ws e) in let b = size_param w ws e in omega arith
    go false e ih = let a = ap length (those_out is_parameter w ws e) in let b = size_node w ws e in omega arith

own_call : (lower : List (List ℕ)) (w j : ℕ) → class_of w ≡ call j → own_size lower w ≡ size (get_or lower j [])
own_call lower w j e = ap (own_as (λ j. size (get_or lower j []))) e

own_other : (lower : List (List ℕ)) (w : ℕ) → ((j : ℕ) → class_of w ≡ call j → ⊥) → own_size lower w ≡ size (w ∷ [])
own_other lower w other = go (class_of w) refl other
  where
    go : (c : Class) → class_of w ≡ c → ((j : ℕ) → class_of w ≡ call j → ⊥) → own_size lower w ≡ size (w ∷ [])
    go empty e other = cc (size_node w [] (rw e), ap (own_as (λ j. size (get_or lower j []))) e)
    go label e other = cc (size_node w [] (rw e), ap (own_as (λ j. size (get_or lower j []))) e)
    go (parameter n) e other = cc (size_param w [] (rw e), ap (own_as (λ j. size (get_or lower j []))) e)
    go (call j) e other = absurd (other j e)
    go illegal e other = cc (size_node w [] (rw e), ap (own_as (λ j. size (get_or lower j []))) e)

module _ (ranks : List ℕ) (lower : List (List ℕ)) (env : Env ranks lower) where
  pub grow_size : (w : ℕ) (children : List (List ℕ)) → length children ≡ rank_of ranks w → size (grow (λ v. v) lower w children) ≡ own_size lower w + size (join children)
  grow_size w children h =
      by_call _ w
      (λ j e. ap size (grow_call (λ v. v) lower children w j e)
      ∙ fill_size children (env_order ranks lower env j) (omega (arith, rank_call ranks w j e))
      ∙ ap (λ (n : ℕ). n + size (join children)) (sym (own_call lower w j e)))
      (λ other. ap size (grow_other (λ v. v) lower children w other)
      ∙ size_append (w ∷ []) (join children)
      ∙ ap (λ (n : ℕ). n + size (join children)) (sym (own_other lower w other)))

  -- the words read onto a stack add what each has
  pub size_stack : (ws : List ℕ) (stack : List (List ℕ)) → Fits (rank_of ranks) (length stack) ws
      → size (join (stack_of ranks lower ws stack)) ≡ sum_of (own_size lower) ws + size (join stack)
  size_stack ws stack f = stack_measure ◌+◌ add_assoc size size_append (own_size lower) ranks lower grow_size ws stack f ∙ along ws (size (join stack))
    where
      along : (ws : List ℕ) (m : ℕ) → total ◌+◌ add_assoc size size_append (own_size lower) ws m ≡ sum_of (own_size lower) ws + m
      along [] m = sym (zero-add m)
      along (w ∷ ws) m = omega (arith, along ws m)

  pub size_sum : (ws : List ℕ) → Fits (rank_of ranks) 0 ws → size (expand ranks lower ws) ≡ sum_of (own_size lower) ws
  size_sum ws f = size_stack ws [] f ∙ add-zero (sum_of (own_size lower) ws)

  pub length_sum : (ws : List ℕ) → Fits (rank_of ranks) 0 ws → those is_parameter ws ≡ [] → length (expand ranks lower ws) ≡ sum_of (own_size lower) ws
  length_sum ws f e =
      let p = ap length (expand_parameters ranks lower env ws f ∙ e) in
      let l = length_size (expand ranks lower ws) in
      let s = size_sum ws f in
      omega arith

  -- a rule has one gap more than its rank
  pub env_gaps : (j : ℕ) → length (gap_sizes (get_or lower j [])) ≡ suc (get_or ranks j 0)
  env_gaps j = length_gaps (get_or lower j []) ∙ ap (λ l. suc (length l)) (env j) ∙ ap suc (length_parameters_from 1 (get_or ranks j 0))

-- a rule's size as a sum along its body
pub rule_size : (rules : List Rule) → T (formed rules) → (j : ℕ) → j < length rules → size (get_or (expansions rules) j []) ≡ sum_of (own_size (expansions rules)) (body_at rules j)
rule_size rules f j h =
    ap size ((expansions_solve rules f).1 j h)
    ∙ size_sum (ranks_of rules) (expansions rules) (formed_env rules f) (body_at rules j) (rule_of rules f j h).tree.0

-- the lowest rule over the bound is the first that is over it
pub lowest_none : (r : ℕ) (es : List (List ℕ)) → ((j : ℕ) → j < length es → size (get_or es j []) ≤ largest_size) → lowest_huge r es ≡ none
lowest_none r [] f = refl
lowest_none r (e ∷ es) f =
    ap (λ (b : Bool). cond b (some r) (lowest_huge (suc r) es)) (le-ltb largest_size (size e) (f 0 (omega arith)))
    ∙ lowest_none (suc r) es (λ j h. f (suc j) (omega arith))

pub none_huge : (r : ℕ) (es : List (List ℕ)) → lowest_huge r es ≡ none → (j : ℕ) → j < length es → size (get_or es j []) ≤ largest_size
none_huge r [] e j h = absurd (omega arith)
none_huge r (x ∷ xs) e j h = go (ltb largest_size (size x)) refl e j h (none_huge (suc r) xs)
  where
    go : (b : Bool) → ltb largest_size (size x) ≡ b → cond b (some r) (lowest_huge (suc r) xs) ≡ none → (j : ℕ) → j < suc (length xs)
        → (lowest_huge (suc r) xs ≡ none → (j : ℕ) → j < length xs → size (get_or xs j []) ≤ largest_size) → size (get_or (x ∷ xs) j []) ≤ largest_size
    go true y e j h rec = let z : ◌≡◌ {A = ℕ} 0 1 = cc in absurd (omega arith)
    go false y e zero h rec = ltb-false largest_size (size x) y
    go false y e (suc j) h rec = rec e j (omega arith)

pub lowest_some : (r : ℕ) (es : List (List ℕ)) (j : ℕ) → j < length es → ((i : ℕ) → i < j → size (get_or es i []) ≤ largest_size) → largest_size < size (get_or es j []) → lowest_huge r es ≡ some (r + j)
lowest_some r [] j h f g = absurd (omega arith)
lowest_some r (e ∷ es) zero h f g = ap (λ (b : Bool). cond b (some r) (lowest_huge (suc r) es)) (lt-ltb largest_size (size e) g) ∙ ap some (sym (add-zero r))
lowest_some r (e ∷ es) (suc j) h f g =
    let n : suc r + j ≡ r + suc j = omega arith in
    ap (λ (b : Bool). cond b (some r) (lowest_huge (suc r) es)) (le-ltb largest_size (size e) (f 0 (omega arith)))
    ∙ lowest_some (suc r) es j (omega arith) (λ i k. f (suc i) (omega arith)) g
    ∙ ap some n

-- N as a sum along the start body
pub nodes_sum : (rules : List Rule) → T (formed rules) → nodes rules ≡ sum_of (own_size (expansions rules)) (start_of rules)
nodes_sum rules f =
    ap length (tree_of_start rules f)
    ∙ length_sum (ranks_of rules) (expansions rules) (formed_env rules f) (start_of rules) (start_tree rules f).0 (start_no_parameters rules f)
