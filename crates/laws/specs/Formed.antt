-- When a list of rules is a grammar in document 01's sense, and the notions in which the laws are stated.
use Rattle.std.specs.Prelude.{ℕ, suc, ◌+◌, ◌-◌, ◌≤◌, ◌<◌, ◌≡◌, Bool, true, ◌&&◌, List, [], ◌∷◌, ◌++◌, leb, eqb, length, get_or}
use Rattle.model.specs.Bounds.{most_rules}
use Rattle.model.specs.Words.{rank_of, is_parameter, within}
use Rattle.model.specs.Trees.{Rule, all, those, is_legal, obeys, parameters, grow, fold, expand, ranks_of}

-- each rule obeys document 01 on the ranks of the rules below it
abbrev pub formed_on : List ℕ → List Rule → Bool
formed_on ranks [] = true
formed_on ranks (r ∷ rs) =
    leb r.rank 4
    && all (is_legal (length ranks)) r.body
    && obeys ranks r.rank r.body
    && formed_on (ranks ++ r.rank ∷ []) rs

-- the start rule's rank
abbrev pub start_rank : List Rule → ℕ
start_rank [] = 1
start_rank (r ∷ []) = r.rank
start_rank (r ∷ s ∷ rs) = start_rank (s ∷ rs)

-- "rule count n (1 to 256)", "The last rule is the start rule, of rank 0", and each rule obeys
abbrev pub formed : List Rule → Bool
formed rules = within 1 most_rules (length rules) && eqb (start_rank rules) 0 && formed_on [] rules

-- how many trees a stack of h has become when the words are read onto it, and that each word finds its children there
abbrev pub height : {W : Type 0} → (W → ℕ) → ℕ → List W → ℕ
height rk h [] = h
height rk h (w ∷ ws) = suc (height rk h ws - rk w)

abbrev pub Fits : {W : Type 0} → (W → ℕ) → ℕ → List W → Type 0
Fits rk h [] = Unit {0}
Fits rk h (w ∷ ws) = (rk w ≤ height rk h ws) × Fits rk h ws

-- one complete tree
abbrev pub Tree : List ℕ → List ℕ → Type 0
Tree ranks ws = Fits (rank_of ranks) 0 ws × (height (rank_of ranks) 0 ws ≡ 1)

-- a function of k children puts each of them once into its result, wherever the others stand
abbrev pub Linear : {A : Type 0} → ℕ → (List (List A) → List A) → Type 0
Linear {A} k f =
    (before after : List (List A)) → length before + suc (length after) ≡ k
    → (P : List A) × (S : List A) × ((t : List A) → f (before ++ t ∷ after) ≡ P ++ t ++ S)

-- `lower` has in its place j an expansion with the parameters y1 to y(rank j) once and in order
abbrev pub Env : List ℕ → List (List ℕ) → Type 0
Env ranks lower = (j : ℕ) → those is_parameter (get_or lower j []) ≡ parameters (get_or ranks j 0)

-- the stack that a body's words expand to
abbrev pub stack_of : List ℕ → List (List ℕ) → List ℕ → List (List ℕ) → List (List ℕ)
stack_of ranks lower ws stack = fold (rank_of ranks) (grow (λ v. v) lower) ws stack

-- E gives each rule's expansion on E itself
abbrev pub body_at : List Rule → ℕ → List ℕ
body_at rules j = (get_or rules j (record { rank = 0; body = [] })).body

abbrev pub Solves : List Rule → List (List ℕ) → Type 0
Solves rules E = (length E ≡ length rules) × ((j : ℕ) → j < length rules → get_or E j [] ≡ expand (ranks_of rules) E (body_at rules j))
