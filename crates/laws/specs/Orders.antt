-- Demand 3's notions on the words of trees: which updates have their place in a tree, and updates that are made one after the other, in some order.
use Rattle.std.specs.Prelude.{ℕ, ◌<◌, ◌≡◌, List, [], ◌∷◌, ◌++◌, T, length, get_or}
use Rattle.model.specs.Words.{is_label, is_tree_word}
use Rattle.model.specs.Trees.{all, is_plain_tree}
use Rattle.model.specs.Edits.{Edit, rename, insert, delete, Update, updated, moved}
use Rattle.laws.specs.Formed.{Tree}

-- a complete tree of labels and ⊥
pub record Plain (ws : List ℕ) : Type 0 where
  pub tree : Tree [] ws
  pub words : T (all is_tree_word ws)

-- an update has its place in a tree: its position is there, rename and delete stand at an element, the new label is a label and the fragment a plain tree
abbrev pub SuitsAs : List ℕ → ℕ → Edit → Type 0
SuitsAs ws p (rename l) = (get_or ws p 0 ≡ 0 → ⊥) × T (is_label l)
SuitsAs ws p (insert s) = T (is_plain_tree s)
SuitsAs ws p delete = get_or ws p 0 ≡ 0 → ⊥

abbrev pub Suits : List ℕ → Update → Type 0
Suits ws u = (u.at < length ws) × SuitsAs ws u.at u.edit

abbrev pub AllSuit : List ℕ → List Update → Type 0
AllSuit ws [] = Unit {0}
AllSuit ws (u ∷ us) = Suits ws u × AllSuit ws us

-- an update of the base, with its position "moved by what earlier updates at smaller positions added or took away"
abbrev pub moved_by : List ℕ → List Update → Update → Update
moved_by base made u = record { at = moved base made u.at; edit = u.edit }

-- the updates `us` of the base made on a tree one after the other; those of `made` are made already
abbrev pub in_order : List ℕ → List Update → List Update → List ℕ → List ℕ
in_order base made [] tree = tree
in_order base made (u ∷ us) tree = in_order base (made ++ u ∷ []) us (updated (moved_by base made u) tree)

-- each of them, in its turn, has its place in the tree on which it is made
abbrev pub SuitInOrder : List ℕ → List Update → List Update → List ℕ → Type 0
SuitInOrder base made [] tree = Unit {0}
SuitInOrder base made (u ∷ us) tree = Suits tree (moved_by base made u) × SuitInOrder base (made ++ u ∷ []) us (updated (moved_by base made u) tree)

-- the same updates in another order
pub data Reordered : List Update → List Update → Type 0 where
  none : Reordered [] []
  keep : {u : Update} {us vs : List Update} → Reordered us vs → Reordered (u ∷ us) (u ∷ vs)
  swap : {u v : Update} {us : List Update} → Reordered (u ∷ v ∷ us) (v ∷ u ∷ us)
  twice : {us vs ws : List Update} → Reordered us vs → Reordered vs ws → Reordered us ws
