-- Document 01, "Trees and words": words as trees, rules, the tree of a grammar, and sizes.
use Rattle.std.specs.Prelude.{ℕ, zero, suc, ◌-◌, Bool, true, false, cond, not, ◌&&◌, List, [], ◌∷◌, ◌++◌, leb, ltb, eqb, length, take, drop, get_or}
use Rattle.std.proofs.Math.Option.{Option, none, some}
use Rattle.model.specs.Bounds.{is_huge}
use Rattle.model.specs.Words.{Class, class_of, by_class, when_parameter, when_call, rank_of, is_parameter, is_tree_word, parameter_word}

abbrev pub all : (ℕ → Bool) → List ℕ → Bool
all test [] = true
all test (w ∷ ws) = test w && all test ws

-- those that pass a test, in their order
abbrev pub those : (ℕ → Bool) → List ℕ → List ℕ
those test [] = []
those test (w ∷ ws) = elim (test w) [ true ↦ w ∷ those test ws | false ↦ those test ws ]

abbrev pub same : List ℕ → List ℕ → Bool
same [] [] = true
same [] (w ∷ ws) = false
same (v ∷ vs) [] = false
same (v ∷ vs) (w ∷ ws) = eqb v w && same vs ws

abbrev pub join : {A : Type 0} → List (List A) → List A
join [] = []
join (l ∷ ls) = l ++ join ls

-- "A tree is written as its labels in preorder." So a list of words is read from the right as a stack of trees: a word of rank k takes the k trees on top
-- and puts one in their place. What a tree becomes is `make`'s to say.
abbrev pub push : {W A : Type 0} → (W → ℕ) → (W → List A → A) → W → List A → List A
push rank make w stack = make w (take (rank w) stack) ∷ drop (rank w) stack

abbrev pub fold : {W A : Type 0} → (W → ℕ) → (W → List A → A) → List W → List A → List A
fold rank make [] stack = stack
fold rank make (w ∷ ws) stack = push rank make w (fold rank make ws stack)

-- the trees that a list of words is, each as its words
abbrev pub forest : List ℕ → List ℕ → List (List ℕ)
forest ranks ws = fold (rank_of ranks) (λ w trees. w ∷ join trees) ws []

-- the first word of each of them
abbrev pub roots : List ℕ → List ℕ → List ℕ
roots ranks ws = fold (rank_of ranks) (λ w trees. w) ws []

-- each word has its children
abbrev pub children_there : List ℕ → List ℕ → Bool
children_there ranks [] = true
children_there ranks (w ∷ ws) = leb (rank_of ranks w) (length (roots ranks ws)) && children_there ranks ws

-- one complete tree
abbrev pub is_tree : List ℕ → List ℕ → Bool
is_tree ranks ws = children_there ranks ws && eqb (length (roots ranks ws)) 1

-- a complete tree of labels and ⊥
abbrev pub is_plain_tree : List ℕ → Bool
is_plain_tree ws = all is_tree_word ws && is_tree [] ws

-- A rule: its rank and its body's words. A grammar is its rules, rule 0 first.
pub record Rule : Type 0 where
  pub rank : ℕ
  pub body : List ℕ

abbrev pub ranks_of : List Rule → List ℕ
ranks_of [] = []
ranks_of (r ∷ rs) = r.rank ∷ ranks_of rs

-- the words of y_i, y_i+1, .., k of them
abbrev pub parameters_from : ℕ → ℕ → List ℕ
parameters_from i zero = []
parameters_from i (suc k) = parameter_word i ∷ parameters_from (suc i) k

abbrev pub parameters : ℕ → List ℕ
parameters k = parameters_from 1 k

-- "A rule of rank k (0 to 4) has a body that is one complete tree and holds y1 to yk once each, in that order, and no other parameter. The body isn't a parameter alone."
abbrev pub obeys : List ℕ → ℕ → List ℕ → Bool
obeys ranks k body = is_tree ranks body && same (those is_parameter body) (parameters k) && not (same body (parameter_word 1 ∷ []))

-- "Rule r calls only rules with lower numbers."
abbrev pub is_legal_as : ℕ → Class → Bool
is_legal_as r = by_class (record { empty = true; label = true; parameter = λ i. true; call = λ j. ltb j r; illegal = false })

abbrev pub is_legal : ℕ → ℕ → Bool
is_legal r w = is_legal_as r (class_of w)

-- "To expand a call is to put the body in its place, with the call's i-th child for y_i": the word list with the i-th of `children` for y_i.
-- `node` says what stands for each word that is no parameter.
abbrev pub fill : {A : Type 0} → (ℕ → A) → List (List A) → List ℕ → List A
fill node children [] = []
fill node children (w ∷ ws) = when_parameter (node w ∷ []) (λ i. get_or children (i - 1) []) w ++ fill node children ws

-- a word over its expanded children; `lower` has the expansions of the rules below, rule 0's first
abbrev pub grow : {A : Type 0} → (ℕ → A) → List (List ℕ) → ℕ → List (List A) → List A
grow node lower w children = when_call (node w ∷ join children) (λ j. fill node children (get_or lower j [])) w

-- the expansion of a body, on the expansions of the rules below
abbrev pub expand : List ℕ → List (List ℕ) → List ℕ → List ℕ
expand ranks lower ws = join (fold (rank_of ranks) (grow (λ v. v) lower) ws [])

-- each word of a body with its place
abbrev pub placed : ℕ → List ℕ → List (ℕ × ℕ)
placed i [] = []
placed i (w ∷ ws) = (i, w) ∷ placed (suc i) ws

-- for each node of a body's expansion the place of the word that produces it
abbrev pub owners : List ℕ → List (List ℕ) → List ℕ → List ℕ
owners ranks lower ws = join (fold (λ (x : ℕ × ℕ). rank_of ranks x.1) (λ (x : ℕ × ℕ). grow (λ v. x.0) lower x.1) (placed 0 ws) [])

-- the expansions of all rules, from the lowest up
abbrev pub expansions_on : List ℕ → List (List ℕ) → List Rule → List (List ℕ)
expansions_on ranks lower [] = lower
expansions_on ranks lower (r ∷ rs) = expansions_on ranks (lower ++ expand ranks lower r.body ∷ []) rs

abbrev pub expansions : List Rule → List (List ℕ)
expansions rules = expansions_on (ranks_of rules) [] rules

-- "The last rule is the start rule."
abbrev pub start_of : List Rule → List ℕ
start_of [] = []
start_of (r ∷ []) = r.body
start_of (r ∷ s ∷ rs) = start_of (s ∷ rs)

-- "The tree of a grammar is its start rule fully expanded."
abbrev pub tree_of : List Rule → List ℕ
tree_of rules = get_or (expansions rules) (length rules - 1) []

-- "N is its node count, every ⊥ included. Positions are preorder numbers 0 to N-1."
abbrev pub nodes : List Rule → ℕ
nodes rules = length (tree_of rules)

-- "A rule's size is the number of its expanded nodes, parameters left out."
abbrev pub size : List ℕ → ℕ
size expansion = length (those (λ w. not (is_parameter w)) expansion)

-- the nodes before, between and after the parameters of a rule of rank k, as k + 1 numbers
abbrev pub one_more : List ℕ → List ℕ
one_more [] = []
one_more (g ∷ gs) = suc g ∷ gs

abbrev pub gap_sizes : List ℕ → List ℕ
gap_sizes [] = 0 ∷ []
gap_sizes (w ∷ ws) = cond (is_parameter w) (0 ∷ gap_sizes ws) (one_more (gap_sizes ws))

-- the lowest rule whose size is over 2^40, counted from r
abbrev pub lowest_huge : ℕ → List (List ℕ) → Option ℕ
lowest_huge r [] = none
lowest_huge r (e ∷ es) = cond (is_huge (size e)) (some r) (lowest_huge (suc r) es)
