-- Sums along a body: what each word adds to the size of its expansion, and to what stands before a place in it.
use Rattle.std.specs.Prelude.{ℕ, suc, ◌+◌, ◌-◌, cond, List, [], ◌∷◌, ltb, take, get_or}
use Rattle.model.specs.Words.{Class, class_of, by_class, rank_of}
use Rattle.model.specs.Trees.{size, gap_sizes}

abbrev pub sum_of : {A : Type 0} → (A → ℕ) → List A → ℕ
sum_of f [] = 0
sum_of f (x ∷ xs) = f x + sum_of f xs

abbrev pub sum : List ℕ → ℕ
sum gs = sum_of (λ g. g) gs

-- the nodes that a word itself produces: one for a label or ⊥, none for a parameter, `called j` for a call of rule j
abbrev pub own_as : (ℕ → ℕ) → Class → ℕ
own_as called = by_class (record { empty = 1; label = 1; parameter = λ i. 0; call = called; illegal = 1 })

-- for a call all of the called rule's nodes
abbrev pub own_size : List (List ℕ) → ℕ → ℕ
own_size lower w = own_as (λ j. size (get_or lower j [])) (class_of w)

-- the nodes of an expansion before y_m, where it has such a parameter, and all where it has fewer
abbrev pub size_before : ℕ → List ℕ → ℕ
size_before m expansion = sum (take m (gap_sizes expansion))

-- the nodes that a word itself produces before its m-th child
abbrev pub own_before : List (List ℕ) → ℕ → ℕ → ℕ
own_before lower m w = own_as (λ j. size_before m (get_or lower j [])) (class_of w)

-- A place with d trees of the stack before it: the words xs are read onto them. How many trees then stand before the tree that holds the place.
abbrev pub depth_of : (ℕ → ℕ) → ℕ → List ℕ → ℕ
depth_of rk d [] = d
depth_of rk d (x ∷ xs) = let e = depth_of rk d xs in cond (ltb e (rk x)) 0 (suc (e - rk x))

-- what the words xs produce before the place: a word over the place what it has before the child that holds it, and any other all its nodes
abbrev pub before_at : List ℕ → List (List ℕ) → ℕ → List ℕ → ℕ
before_at ranks lower d [] = 0
before_at ranks lower d (x ∷ xs) =
    let e = depth_of (rank_of ranks) d xs in
    cond (ltb e (rank_of ranks x)) (own_before lower (suc e) x) (own_size lower x) + before_at ranks lower d xs

abbrev pub before_place : List ℕ → List (List ℕ) → List ℕ → ℕ
before_place ranks lower xs = before_at ranks lower 0 xs
