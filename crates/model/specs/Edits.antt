-- Document 01, "The three updates": on the words of a tree, one at a time and several at once.
use Rattle.std.specs.Prelude.{ℕ, suc, ◌+◌, ◌-◌, Bool, true, false, cond, not, ◌&&◌, ◌||◌, List, [], ◌∷◌, ◌++◌, leb, ltb, eqb, length, take, drop, get_or}
use Rattle.model.specs.Trees.{forest}

pub data Edit : Type 0 where
  rename : ℕ → Edit
  insert : List ℕ → Edit
  delete : Edit

-- at place i, `go` words go and `come` come
abbrev pub splice : ℕ → ℕ → List ℕ → List ℕ → List ℕ
splice i go come ws = take i ws ++ come ++ drop (i + go) ws

-- "The subtree at p is written t_p"
abbrev pub subtree : List ℕ → ℕ → List ℕ → List ℕ
subtree ranks p ws = get_or (forest ranks (drop p ws)) 0 []

-- Its i-th child: t1 or t2 of an element. At a ⊥, which has none, this is the i-th tree that follows; nothing hangs on it, since a delete there is refused
-- (13) before what it makes is looked at.
abbrev pub child : List ℕ → ℕ → ℕ → List ℕ → List ℕ
child ranks i p ws = get_or (forest ranks (drop (suc p) ws)) (i - 1) []

-- "s with its last ⊥ replaced by t": the last ⊥ of a complete tree is its last word
abbrev pub last_replaced : List ℕ → List ℕ → List ℕ
last_replaced s t = splice (length s - 1) 1 t s

-- "Rename(p, label): the element word at p becomes the label."
-- Insert(p, s): "t_p is replaced by s with its last ⊥ replaced by t_p."
-- "Delete(p): the element l(t1, t2) at p is replaced by t2."
-- `ranks` are those of the rules that the words call: the same edit serves a tree and a start body.
abbrev pub edited : List ℕ → Edit → ℕ → List ℕ → List ℕ
edited ranks (rename l) p ws = splice p 1 (l ∷ []) ws
edited ranks (insert s) p ws = splice p (length (subtree ranks p ws)) (last_replaced s (subtree ranks p ws)) ws
edited ranks delete p ws = splice p (length (subtree ranks p ws)) (child ranks 2 p ws) ws

-- an update: an edit at a position of a tree
pub record Update : Type 0 where
  pub at : ℕ
  pub edit : Edit

abbrev pub updated : Update → List ℕ → List ℕ
updated u tree = edited [] u.edit u.at tree

-- "A node that a delete removes is l or a word of t1, ⊥ included."
abbrev pub removes_as : List ℕ → ℕ → ℕ → Edit → Bool
removes_as base q p (rename l) = false
removes_as base q p (insert s) = false
removes_as base q p delete = leb q p && ltb p (suc q + length (child [] 1 q base))

abbrev pub removes : List ℕ → Update → ℕ → Bool
removes base u p = removes_as base u.at p u.edit

abbrev pub removed : List ℕ → List Update → ℕ → Bool
removed base [] p = false
removed base (u ∷ us) p = removes base u p || removed base us p

-- the words that stand at position p for its word w: "its inserted words before it or its new label"
abbrev pub piece_as : Edit → List ℕ → List ℕ
piece_as (rename l) ws = l ∷ []
piece_as (insert s) ws = take (length s - 1) s ++ ws
piece_as delete ws = ws

-- the first update at p decides; updates that are apart (below) have no second one there
abbrev pub piece : List Update → ℕ → List ℕ → List ℕ
piece [] p ws = ws
piece (u ∷ us) p ws = cond (eqb u.at p) (piece_as u.edit ws) (piece us p ws)

-- "Several at once: in one pass over the base's words, each position gets its inserted words before it or its new label, and the words removed by deletes are left out."
abbrev pub all_from : List ℕ → List Update → ℕ → List ℕ → List ℕ
all_from base us p [] = []
all_from base us p (w ∷ ws) = cond (removed base us p) [] (piece us p (w ∷ [])) ++ all_from base us (suc p) ws

abbrev pub all_at_once : List Update → List ℕ → List ℕ
all_at_once us base = all_from base us 0 base

-- what an update adds and takes away
abbrev pub added : Edit → ℕ
added (rename l) = 0
added (insert s) = length s - 1
added delete = 0

abbrev pub took_as : List ℕ → ℕ → Edit → ℕ
took_as base q (rename l) = 0
took_as base q (insert s) = 0
took_as base q delete = suc (length (child [] 1 q base))

abbrev pub took : List ℕ → Update → ℕ
took base u = took_as base u.at u.edit

-- "Demand 3's smaller positions are the base's": what earlier updates at smaller base positions added, and what they took away
abbrev pub added_before : List Update → ℕ → ℕ
added_before [] p = 0
added_before (u ∷ us) p = cond (ltb u.at p) (added u.edit) 0 + added_before us p

abbrev pub took_before : List ℕ → List Update → ℕ → ℕ
took_before base [] p = 0
took_before base (u ∷ us) p = cond (ltb u.at p) (took base u) 0 + took_before base us p

abbrev pub moved : List ℕ → List Update → ℕ → ℕ
moved base earlier p = p + added_before earlier p - took_before base earlier p

-- demand 3's premise, of two updates: not at one position, and neither at a node that the other removes
abbrev pub clash : List ℕ → Update → Update → Bool
clash base u v = eqb u.at v.at || removes base u v.at || removes base v u.at

abbrev pub clashes : List ℕ → Update → List Update → Bool
clashes base u [] = false
clashes base u (v ∷ vs) = clash base u v || clashes base u vs

abbrev pub apart : List ℕ → List Update → Bool
apart base [] = true
apart base (u ∷ us) = not (clashes base u us) && apart base us
