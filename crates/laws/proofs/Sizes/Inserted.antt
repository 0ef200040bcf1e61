-- A child put into a word: how many nodes and which parameters the word and the children before it put before the child.
use Prim.Native.Nat.{ℕ, suc, ◌+◌, ◌≤◌}
use mathlib.Core.Path.{◌≡◌, refl, sym, ap, ◌∙◌}
use mathlib.Core.Bool.{true, false}
use mathlib.Core.List.{List, [], ◌∷◌, ◌++◌, append_assoc}
use native.Mathlib.Nat.{zero-add, suc-add}
use native.Mathlib.Omega.{arith}
use lib.ListN.{length, take, get_or}
use Rattle.model.specs.Words.{Class, empty, label, parameter, call, illegal, class_of, rank_of, is_parameter}
use Rattle.model.specs.Trees.{join, those, grow, size, gap_sizes, one_more}
use Rattle.laws.specs.Formed.{Env}
use Rattle.laws.specs.Sums.{sum, size_before, own_before, own_as}
use Rattle.laws.proofs.Trees.Fills.{InOrder, ended, node, param, those_out, those_append, size_append, size_node, grow_call, grow_other, rank_call, env_order, parameter_is}
use Rattle.laws.proofs.Sizes.Gaps.{gaps_param, gaps_node, length_gaps}
use Rattle.laws.proofs.Words.Lists.{join_append}
use Rattle.laws.proofs.Trees.Expansion.{weave, fill_weave}

-- the parameters of words with children put in are the children's
weave_parameters : {i k : ℕ} {ws : List ℕ} → InOrder i k ws → (args : List (List ℕ)) → length args ≡ k → those is_parameter (weave (λ v. v) args ws) ≡ those is_parameter (join args)
weave_parameters ended [] h = refl
weave_parameters ended (a ∷ args) h = absurd (omega arith)
weave_parameters (node {w = w} {ws = ws} e o) args h = simp (e, weave) (those_out is_parameter w (weave (λ v. v) args ws) e ∙ weave_parameters o args h)
weave_parameters (param e o) [] h = absurd (omega arith)
weave_parameters (param {ws = ws} e o) (a ∷ args) h =
    simp (e, weave)
    (those_append is_parameter a (weave (λ v. v) args ws) ∙ ap (λ l. those is_parameter a ++ l) (weave_parameters o args (omega arith)) ∙ sym (those_append is_parameter a (join args)))

-- f puts t somewhere, with n nodes before it, and the parameters ps before it and qs after it
pub record Puts (f : List ℕ → List ℕ) (n : ℕ) (ps qs : List ℕ) : Type 0 where
  pub front : List ℕ
  pub back : List ℕ
  pub around : (t : List ℕ) → f t ≡ front ++ t ++ back
  pub front_size : size front ≡ n
  pub front_parameters : those is_parameter front ≡ ps
  pub back_parameters : those is_parameter back ≡ qs

-- one more node adds to the gaps before a place
pub before_node : (m w : ℕ) (ws : List ℕ) → is_parameter w ≡ false → size_before (suc m) (w ∷ ws) ≡ suc (size_before (suc m) ws)
before_node m w ws e = ap (λ gs. sum (take (suc m) gs)) (gaps_node w ws e) ∙ more (gap_sizes ws) (omega (arith, length_gaps ws))
  where
    more : (gs : List ℕ) → 1 ≤ length gs → sum (take (suc m) (one_more gs)) ≡ suc (sum (take (suc m) gs))
    more [] h = absurd (omega arith)
    more (g ∷ gs) h = suc-add g (sum (take m gs))

pub before_param : (m w : ℕ) (ws : List ℕ) → is_parameter w ≡ true → size_before (suc m) (w ∷ ws) ≡ size_before m ws
before_param m w ws e = ap (λ gs. sum (take (suc m) gs)) (gaps_param w ws e) ∙ zero-add (size_before m ws)

weave_around : {i k : ℕ} {ws : List ℕ} → InOrder i k ws → (before after : List (List ℕ)) → length before + suc (length after) ≡ k
    → Puts (λ t. weave (λ v. v) (before ++ t ∷ after) ws) (size_before (suc (length before)) ws + size (join before)) (those is_parameter (join before)) (those is_parameter (join after))
weave_around ended before after h = absurd (omega arith)
weave_around (node {w = w} {ws = ws} e o) before after h =
    let r = weave_around o before after h in
    record {
      front = w ∷ r.front;
      back = r.back;
      around = λ t. simp (e, weave) (ap {B = List ℕ} (λ l. w ∷ l) (r.around t));
      front_size = omega (arith, size_node w r.front e, r.front_size, before_node (length before) w ws e);
      front_parameters = those_out is_parameter w r.front e ∙ r.front_parameters;
      back_parameters = r.back_parameters;
    }
weave_around (param {i} {k} {w} {ws} e o) [] after h =
    record {
      front = [];
      back = weave (λ v. v) after ws;
      around = λ t. simp (e, weave);
      front_size = omega (arith, before_param 0 w ws (parameter_is w (suc i) e));
      front_parameters = refl;
      back_parameters = weave_parameters o after (omega arith);
    }
weave_around (param {i} {k} {w} {ws} e o) (b ∷ before) after h =
    let r = weave_around o before after (omega arith) in
    record {
      front = b ++ r.front;
      back = r.back;
      around = λ t. simp (e, weave) (ap (λ l. b ++ l) (r.around t) ∙ simp append_assoc);
      front_size = omega (arith, size_append b r.front, size_append b (join before), r.front_size, before_param (suc (length before)) w ws (parameter_is w (suc i) e));
      front_parameters = those_append is_parameter b r.front ∙ ap (λ l. those is_parameter b ++ l) r.front_parameters ∙ sym (those_append is_parameter b (join before));
      back_parameters = r.back_parameters;
    }

module _ (ranks : List ℕ) (lower : List (List ℕ)) (env : Env ranks lower) where
  -- one of a word's children
  pub grow_around : (x : ℕ) (before after : List (List ℕ)) → length before + suc (length after) ≡ rank_of ranks x
      → Puts (λ t. grow (λ v. v) lower x (before ++ t ∷ after)) (own_before lower (suc (length before)) x + size (join before)) (those is_parameter (join before)) (those is_parameter (join after))
  grow_around x before after h = go (class_of x) refl
    where
      Goal : Type 0
      Goal = Puts (λ t. grow (λ v. v) lower x (before ++ t ∷ after)) (own_before lower (suc (length before)) x + size (join before)) (those is_parameter (join before)) (those is_parameter (join after))

      no_children : rank_of ranks x ≡ 0 → Goal
      no_children z = absurd (omega arith)

      go : (c : Class) → class_of x ≡ c → Goal
      go empty e = no_children (rw e)
      go label e =
          record {
            front = x ∷ join before;
            back = join after;
            around = λ t.
                grow_other (λ v. v) lower (before ++ t ∷ after) x (λ j y. let z : ◌≡◌ {A = ℕ} 0 1 = cc in omega arith)
                ∙ ap {B = List ℕ} (λ l. x ∷ l) (join_append before (t ∷ after) ∙ sym (append_assoc (join before) t (join after)));
            front_size = size_node x (join before) (rw e) ∙ omega (arith, ap (own_as (λ j. size_before (suc (length before)) (get_or lower j []))) e);
            front_parameters = those_out is_parameter x (join before) (rw e);
            back_parameters = refl;
          }
      go (parameter n) e = no_children (rw e)
      go (call j) e =
          let k : length before + suc (length after) ≡ get_or ranks j 0 = h ∙ rank_call ranks x j e in
          let o = env_order ranks lower env j in
          let r = weave_around o before after k in
          record {
            front = r.front;
            back = r.back;
            around = λ t.
                grow_call (λ v. v) lower (before ++ t ∷ after) x j e
                ∙ fill_weave (λ v. v) (before ++ t ∷ after) o
                ∙ r.around t;
            front_size =
                r.front_size
                ∙ ap (λ (n : ℕ). n + size (join before)) (sym (ap (own_as (λ j. size_before (suc (length before)) (get_or lower j []))) e));
            front_parameters = r.front_parameters;
            back_parameters = r.back_parameters;
          }
      go illegal e = no_children (rw e)
