-- What filling children in and reading a body keep: measures that add up over words put side by side.
use Prim.Native.Nat.{ℕ, zero, suc, ◌+◌, ◌-◌}
use mathlib.Core.Path.{◌≡◌, refl, sym, ap, ◌∙◌}
use mathlib.Core.Bool.{Bool, true, false, not}
use mathlib.Core.List.{List, [], ◌∷◌, ◌++◌, append_assoc, append-nil}
use native.Mathlib.Omega.{arith}
use lib.ListN.{length, take, drop, get_or, length-append, drop_of_length-le}
use lib.Seq.{drop-cons, length-take-le}
use Rattle.model.specs.Words.{Class, empty, label, parameter, call, illegal, class_of, by_class, when_parameter, when_call, rank_of, is_parameter, parameter_word, is_parameter_as, rank_as}
use Rattle.model.specs.Trees.{join, those, parameters_from, fill, grow, expand, size}
use Rattle.laws.specs.Formed.{Fits, Env, stack_of}
use Rattle.laws.proofs.Trees.Folds.{length_fold}
use Rattle.laws.proofs.Words.Classes.{parameter_word_lem}
use Rattle.laws.proofs.Words.Lists.{join_parts}

pub those_in : (test : ℕ → Bool) (w : ℕ) (ws : List ℕ) → test w ≡ true → those test (w ∷ ws) ≡ w ∷ those test ws
those_in test w ws e = rw (e, those)

pub those_out : (test : ℕ → Bool) (w : ℕ) (ws : List ℕ) → test w ≡ false → those test (w ∷ ws) ≡ those test ws
those_out test w ws e = rw (e, those)

pub those_append : (test : ℕ → Bool) (vs ws : List ℕ) → those test (vs ++ ws) ≡ those test vs ++ those test ws
those_append test [] ws = refl
those_append test (v ∷ vs) ws = go (test v) refl (those_append test vs ws)
  where
    go : (b : Bool) → test v ≡ b → those test (vs ++ ws) ≡ those test vs ++ those test ws → those test (v ∷ vs ++ ws) ≡ those test (v ∷ vs) ++ those test ws
    go true e ih = those_in test v (vs ++ ws) e ∙ ap {B = List ℕ} (λ l. v ∷ l) ih ∙ ap {B = List ℕ} (λ l. l ++ those test ws) (sym (those_in test v vs e))
    go false e ih = those_out test v (vs ++ ws) e ∙ ih ∙ ap {B = List ℕ} (λ l. l ++ those test ws) (sym (those_out test v vs e))

pub parameter_class : (w : ℕ) → is_parameter w ≡ true → (n : ℕ) × (class_of w ≡ parameter n)
parameter_class w e = go (class_of w) refl e
  where
    go : (c : Class) → class_of w ≡ c → is_parameter_as c ≡ true → (n : ℕ) × (class_of w ≡ parameter n)
    go empty e x = let z : ◌≡◌ {A = ℕ} 0 1 = cc in absurd (omega arith)
    go label e x = let z : ◌≡◌ {A = ℕ} 0 1 = cc in absurd (omega arith)
    go (parameter n) e x = (n, e)
    go (call j) e x = let z : ◌≡◌ {A = ℕ} 0 1 = cc in absurd (omega arith)
    go illegal e x = let z : ◌≡◌ {A = ℕ} 0 1 = cc in absurd (omega arith)

pub not_parameter : {A : Type 0} (w : ℕ) → is_parameter w ≡ false → (a : A) (f : ℕ → A) → when_parameter a f w ≡ a
not_parameter {A} w e a f = go (class_of w) e
  where
    go : (c : Class) → is_parameter_as c ≡ false → by_class (record { empty = a; label = a; parameter = f; call = λ j. a; illegal = a }) c ≡ a
    go empty x = refl
    go label x = refl
    go (parameter n) x = let z : ◌≡◌ {A = ℕ} 0 1 = cc in absurd (omega arith)
    go (call j) x = refl
    go illegal x = refl

-- the words hold y_i+1 to y_i+k once each, in that order, and no other parameter
pub data InOrder : ℕ → ℕ → List ℕ → Type 0 where
  ended : {i : ℕ} → InOrder i 0 []
  node : {i k w : ℕ} {ws : List ℕ} → is_parameter w ≡ false → InOrder i k ws → InOrder i k (w ∷ ws)
  param : {i k w : ℕ} {ws : List ℕ} → class_of w ≡ parameter (suc i) → InOrder (suc i) k ws → InOrder i (suc k) (w ∷ ws)

pub length_parameters_from : (i k : ℕ) → length (parameters_from i k) ≡ k
length_parameters_from i zero = refl
length_parameters_from i (suc k) = ap suc (length_parameters_from (suc i) k)

pub in_order : (i k : ℕ) (ws : List ℕ) → those is_parameter ws ≡ parameters_from (suc i) k → InOrder i k ws
in_order i zero [] e = ended
in_order i (suc k) [] e = let z : ◌≡◌ {A = ℕ} 0 1 = cc in absurd (omega arith)
in_order i k (w ∷ ws) e = go (is_parameter w) refl k (λ i k. in_order i k ws) e
  where
    go : (b : Bool) → is_parameter w ≡ b → (k : ℕ) → ((i k : ℕ) → those is_parameter ws ≡ parameters_from (suc i) k → InOrder i k ws)
        → those is_parameter (w ∷ ws) ≡ parameters_from (suc i) k → InOrder i k (w ∷ ws)
    go false x k rec e = node x (rec i k (sym (those_out is_parameter w ws x) ∙ e))
    go true x zero rec e = let f = those_in is_parameter w ws x in let z : ◌≡◌ {A = ℕ} 0 1 = cc in absurd (omega arith)
    go true x (suc k) rec e =
        let f : w ∷ those is_parameter ws ≡ parameter_word (suc i) ∷ parameters_from (suc (suc i)) k = sym (those_in is_parameter w ws x) ∙ e in
        let c = parameter_class w x in
        let p = parameter_word_lem w c.0 c.1 in
        let g : w ≡ parameter_word (suc i) = cc in
        let n : c.0 ≡ suc i = omega arith in
        param (c.1 ∙ ap parameter n) (rec (suc i) k (cc))

module _ {A : Type 0} (make : ℕ → A) (args : List (List A)) where
  pub fill_node : (w : ℕ) (ws : List ℕ) → is_parameter w ≡ false → fill make args (w ∷ ws) ≡ make w ∷ fill make args ws
  fill_node w ws e = ap (λ (l : List A). l ++ fill make args ws) (not_parameter w e (make w ∷ []) (λ i. get_or args (i - 1) []))

  pub fill_param : (i w : ℕ) (ws : List ℕ) → class_of w ≡ parameter (suc i) → fill make args (w ∷ ws) ≡ get_or args i [] ++ fill make args ws
  fill_param i w ws e =
      let n : suc i - 1 ≡ i = omega arith in
      ap (λ (c : Class). by_class (record { empty = make w ∷ []; label = make w ∷ []; parameter = λ i. get_or args (i - 1) []; call = λ j. make w ∷ []; illegal = make w ∷ [] }) c ++ fill make args ws) e
      ∙ ap (λ (m : ℕ). get_or args m [] ++ fill make args ws) n

  -- the first of the arguments that are still due
  pub due_cons : (i k : ℕ) → length args ≡ i + suc k → drop i args ≡ get_or args i [] ∷ drop (suc i) args
  due_cons i k h = drop-cons args i [] (omega arith)

  pub due_none : (i : ℕ) → length args ≡ i + 0 → drop i args ≡ []
  due_none i h = drop_of_length-le args {i = i} (omega arith)

pub parameter_is : (w n : ℕ) → class_of w ≡ parameter n → is_parameter w ≡ true
parameter_is w n e = rw e

-- the parameters of a filling are its children's
pub fill_parameters : (args : List (List ℕ)) {i k : ℕ} {ws : List ℕ} → InOrder i k ws → length args ≡ i + k
    → those is_parameter (fill (λ v. v) args ws) ≡ those is_parameter (join (drop i args))
fill_parameters args (ended {i}) h = rw (due_none (λ v. v) args i h)
fill_parameters args (node {w = w} {ws = ws} e o) h = ap (those is_parameter) (fill_node (λ v. v) args w ws e) ∙ those_out is_parameter w (fill (λ v. v) args ws) e ∙ fill_parameters args o h
fill_parameters args (param {i} {k} {w} {ws} e o) h =
    ap (those is_parameter) (fill_param (λ v. v) args i w ws e)
    ∙ those_append is_parameter (get_or args i []) (fill (λ v. v) args ws)
    ∙ ap (λ l. those is_parameter (get_or args i []) ++ l) (fill_parameters args o (omega arith))
    ∙ sym (those_append is_parameter (get_or args i []) (join (drop (suc i) args)))
    ∙ ap (λ l. those is_parameter (join l)) (sym (due_cons (λ v. v) args i k h))

pub size_append : (vs ws : List ℕ) → size (vs ++ ws) ≡ size vs + size ws
size_append vs ws = ap length (those_append (λ w. not (is_parameter w)) vs ws) ∙ length-append (those (λ w. not (is_parameter w)) vs) (those (λ w. not (is_parameter w)) ws)

pub size_node : (w : ℕ) (ws : List ℕ) → is_parameter w ≡ false → size (w ∷ ws) ≡ suc (size ws)
size_node w ws e = ap length (those_in (λ w. not (is_parameter w)) w ws (ap not e))

pub size_param : (w : ℕ) (ws : List ℕ) → is_parameter w ≡ true → size (w ∷ ws) ≡ size ws
size_param w ws e = ap length (those_out (λ w. not (is_parameter w)) w ws (ap not e))

-- its other words are the words' and the children's
pub fill_size : (args : List (List ℕ)) {i k : ℕ} {ws : List ℕ} → InOrder i k ws → length args ≡ i + k
    → size (fill (λ v. v) args ws) ≡ size ws + size (join (drop i args))
fill_size args (ended {i}) h = rw (due_none (λ v. v) args i h)
fill_size args (node {w = w} {ws = ws} e o) h =
    let a = ap size (fill_node (λ v. v) args w ws e) in
    let b = size_node w (fill (λ v. v) args ws) e in
    let c = size_node w ws e in
    let d = fill_size args o h in
    omega arith
fill_size args (param {i} {k} {w} {ws} e o) h =
    let a = ap size (fill_param (λ v. v) args i w ws e) in
    let b = size_append (get_or args i []) (fill (λ v. v) args ws) in
    let c = size_append (get_or args i []) (join (drop (suc i) args)) in
    let d = size_param w ws (parameter_is w (suc i) e) in
    let f = ap (λ l. size (join l)) (due_cons (λ v. v) args i k h) in
    let g = fill_size args o (omega arith) in
    omega arith

pub fill_length : {A : Type 0} (make : ℕ → A) (args : List (List A)) {i k : ℕ} {ws : List ℕ} → InOrder i k ws → length args ≡ i + k
    → length (fill make args ws) + k ≡ length ws + length (join (drop i args))
fill_length make args (ended {i}) h = rw (due_none make args i h)
fill_length make args (node {w = w} {ws = ws} e o) h =
    let a = ap length (fill_node make args w ws e) in
    let d = fill_length make args o h in
    omega arith
fill_length make args (param {i} {k} {w} {ws} e o) h =
    let a = ap length (fill_param make args i w ws e) in
    let b = length-append (get_or args i []) (fill make args ws) in
    let c = length-append (get_or args i []) (join (drop (suc i) args)) in
    let f = ap (λ l. length (join l)) (due_cons make args i k h) in
    let g = fill_length make args o (omega arith) in
    omega arith

-- A measure that adds up over words put side by side, and over what a word grows to, adds up along a body.
module _ {M : Type 0} (op : M → M → M) (assoc : (a b c : M) → op (op a b) c ≡ op a (op b c)) (μ : List ℕ → M) (hom : (vs ws : List ℕ) → μ (vs ++ ws) ≡ op (μ vs) (μ ws)) (own : ℕ → M) where
  abbrev pub total : List ℕ → M → M
  total [] m = m
  total (w ∷ ws) m = op (own w) (total ws m)

  pub stack_measure : (ranks : List ℕ) (lower : List (List ℕ))
      → ((w : ℕ) (children : List (List ℕ)) → length children ≡ rank_of ranks w → μ (grow (λ v. v) lower w children) ≡ op (own w) (μ (join children)))
      → (ws : List ℕ) (stack : List (List ℕ)) → Fits (rank_of ranks) (length stack) ws → μ (join (stack_of ranks lower ws stack)) ≡ total ws (μ (join stack))
  stack_measure ranks lower step [] stack f = refl
  stack_measure ranks lower step (w ∷ ws) stack f =
      let S = stack_of ranks lower ws stack in
      let k = rank_of ranks w in
      let l : length (take k S) ≡ k = length-take-le k S (rw length_fold f.0) in
      hom (grow (λ v. v) lower w (take k S)) (join (drop k S))
      ∙ ap (λ m. op m (μ (join (drop k S)))) (step w (take k S) l)
      ∙ assoc (own w) (μ (join (take k S))) (μ (join (drop k S)))
      ∙ ap (op (own w)) (sym (hom (join (take k S)) (join (drop k S))) ∙ ap μ (join_parts k S) ∙ stack_measure ranks lower step ws stack f.1)

-- a word is a call or it is not
pub by_call : (P : Type 0) (w : ℕ) → ((j : ℕ) → class_of w ≡ call j → P) → (((j : ℕ) → class_of w ≡ call j → ⊥) → P) → P
by_call P w is other = go (class_of w) refl
  where
    go : (c : Class) → class_of w ≡ c → P
    go empty e = other (λ j x. let z : ◌≡◌ {A = ℕ} 0 1 = cc in omega arith)
    go label e = other (λ j x. let z : ◌≡◌ {A = ℕ} 0 1 = cc in omega arith)
    go (parameter n) e = other (λ j x. let z : ◌≡◌ {A = ℕ} 0 1 = cc in omega arith)
    go (call j) e = is j e
    go illegal e = other (λ j x. let z : ◌≡◌ {A = ℕ} 0 1 = cc in omega arith)

pub when_call_call : {A : Type 0} (a : A) (f : ℕ → A) (w j : ℕ) → class_of w ≡ call j → when_call a f w ≡ f j
when_call_call a f w j e = ap (by_class (record { empty = a; label = a; parameter = λ n. a; call = f; illegal = a })) e

pub when_call_other : {A : Type 0} (a : A) (f : ℕ → A) (w : ℕ) → ((j : ℕ) → class_of w ≡ call j → ⊥) → when_call a f w ≡ a
when_call_other {A} a f w other = go (class_of w) other
  where
    go : (c : Class) → ((j : ℕ) → c ≡ call j → ⊥) → by_class (record { empty = a; label = a; parameter = λ n. a; call = f; illegal = a }) c ≡ a
    go empty other = refl
    go label other = refl
    go (parameter n) other = refl
    go (call j) other = absurd (other j refl)
    go illegal other = refl

module _ {A : Type 0} (make : ℕ → A) (lower : List (List ℕ)) (children : List (List A)) where
  pub grow_call : (w j : ℕ) → class_of w ≡ call j → grow make lower w children ≡ fill make children (get_or lower j [])
  grow_call w j e = when_call_call (make w ∷ join children) (λ j. fill make children (get_or lower j [])) w j e

  pub grow_other : (w : ℕ) → ((j : ℕ) → class_of w ≡ call j → ⊥) → grow make lower w children ≡ make w ∷ join children
  grow_other w other = when_call_other (make w ∷ join children) (λ j. fill make children (get_or lower j [])) w other

pub rank_call : (ranks : List ℕ) (w j : ℕ) → class_of w ≡ call j → rank_of ranks w ≡ get_or ranks j 0
rank_call ranks w j e = ap (rank_as ranks) e

module _ (ranks : List ℕ) (lower : List (List ℕ)) (env : Env ranks lower) where
  pub env_order : (j : ℕ) → InOrder 0 (get_or ranks j 0) (get_or lower j [])
  env_order j = in_order 0 (get_or ranks j 0) (get_or lower j []) (env j)

  pub grow_parameters : (w : ℕ) (children : List (List ℕ)) → length children ≡ rank_of ranks w
      → those is_parameter (grow (λ v. v) lower w children) ≡ those is_parameter (w ∷ []) ++ those is_parameter (join children)
  grow_parameters w children h =
      by_call _ w
      (λ j e. ap (those is_parameter) (grow_call (λ v. v) lower children w j e)
      ∙ fill_parameters children (env_order j) (omega (arith, rank_call ranks w j e))
      ∙ ap (λ l. l ++ those is_parameter (join children)) (sym (those_out is_parameter w [] (rw e))))
      (λ other. ap (those is_parameter) (grow_other (λ v. v) lower children w other) ∙ those_append is_parameter (w ∷ []) (join children))

  -- reading a body keeps its parameters
  pub stack_parameters : (ws : List ℕ) (stack : List (List ℕ)) → Fits (rank_of ranks) (length stack) ws
      → those is_parameter (join (stack_of ranks lower ws stack)) ≡ those is_parameter ws ++ those is_parameter (join stack)
  stack_parameters ws stack f =
      stack_measure ◌++◌ append_assoc (those is_parameter) (those_append is_parameter) (λ w. those is_parameter (w ∷ [])) ranks lower grow_parameters ws stack f
      ∙ along ws (those is_parameter (join stack))
    where
      along : (ws m : List ℕ)
          → total ◌++◌ append_assoc (those is_parameter) (those_append is_parameter) (λ w. those is_parameter (w ∷ [])) ws m ≡ those is_parameter ws ++ m
      along [] m = refl
      along (w ∷ ws) m =
          ap (λ l. those is_parameter (w ∷ []) ++ l) (along ws m)
          ∙ sym (append_assoc (those is_parameter (w ∷ [])) (those is_parameter ws) m)
          ∙ ap (λ l. l ++ m) (sym (those_append is_parameter (w ∷ []) ws))

  pub expand_parameters : (ws : List ℕ) → Fits (rank_of ranks) 0 ws → those is_parameter (expand ranks lower ws) ≡ those is_parameter ws
  expand_parameters ws f = stack_parameters ws [] f ∙ append-nil (those is_parameter ws)
