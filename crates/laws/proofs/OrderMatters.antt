-- Why demand 3 has its premises, by computation. Document 01: "on 1(⊥,⊥), delete 0 and insert at 2 work in one order and meet refusal 16 in the other": the two are apart, both
-- orders make the same tree, and of the calls only those of one order are accepted. And on 1(2(⊥,⊥),⊥), delete 1 and insert at 2, a node that the delete removes, are accepted in
-- both orders and make two trees.
use Prim.Native.Nat.{ℕ}
use mathlib.Core.Path.{◌≡◌, refl}
use mathlib.Core.Bool.{true, false}
use mathlib.Core.List.{List, [], ◌∷◌}
use Rattle.model.specs.Words.{class_of}
use Rattle.model.specs.Refusals.{NOTHING_LEFT}
use Rattle.model.specs.File.{read, write}
use Rattle.model.specs.Edits.{insert, delete, Update, all_at_once, apart}
use Rattle.model.specs.Opening.{opened_at}
use Rattle.model.specs.Dropping.{dropped}
use Rattle.model.specs.Rounds.{repacked}
use Rattle.model.specs.Answers.{FileAnswer, accepted_file, refused_file, update, remade}
use Rattle.laws.specs.Orders.{moved_by, in_order}

abbrev base : List ℕ
base = 1 ∷ 0 ∷ 0 ∷ []

abbrev deleting : Update
deleting = record { at = 0; edit = delete }

abbrev inserting : Update
inserting = record { at = 2; edit = insert (4 ∷ 0 ∷ 0 ∷ []) }

-- a file of one rule, and a call with a result buffer of 64 bytes and a work area that is just long enough
abbrev file : List ℕ → List ℕ
file body = write (record { rank = 0; body = body } ∷ [])

abbrev on : List ℕ → Update → FileAnswer
on body u = update 64 32768 (file body) u

abbrev makes : List ℕ → FileAnswer
makes body = accepted_file 64 32768 0 0 (file body)

pub both_apart : apart base (deleting ∷ inserting ∷ []) ≡ true
unfolding class_of
both_apart = refl

pub both_at_once : all_at_once (deleting ∷ inserting ∷ []) base ≡ 4 ∷ 0 ∷ 0 ∷ []
unfolding class_of
both_at_once = refl

pub one_tree : (in_order base [] (deleting ∷ inserting ∷ []) base ≡ 4 ∷ 0 ∷ 0 ∷ []) × (in_order base [] (inserting ∷ deleting ∷ []) base ≡ 4 ∷ 0 ∷ 0 ∷ [])
unfolding class_of
one_tree = (refl, refl)

-- insert, then delete: both are accepted
pub insert_first : (on base inserting ≡ makes (1 ∷ 0 ∷ 4 ∷ 0 ∷ 0 ∷ [])) × (on (1 ∷ 0 ∷ 4 ∷ 0 ∷ 0 ∷ []) (moved_by base (inserting ∷ []) deleting) ≡ makes (4 ∷ 0 ∷ 0 ∷ []))
unfolding class_of read write opened_at dropped repacked remade update
insert_first = (refl, refl)

-- delete first: ⊥ alone would be left
pub delete_first : on base deleting ≡ refused_file 64 32768 NOTHING_LEFT 0
unfolding class_of read write opened_at dropped repacked remade update
delete_first = refl

-- 1(2(⊥,⊥),⊥): the first child of 2 goes with it
abbrev under : List ℕ
under = 1 ∷ 2 ∷ 0 ∷ 0 ∷ 0 ∷ []

abbrev removing : Update
removing = record { at = 1; edit = delete }

pub not_apart : apart under (removing ∷ inserting ∷ []) ≡ false
unfolding class_of
not_apart = refl

pub insert_then_remove :
    (on under inserting ≡ makes (1 ∷ 2 ∷ 4 ∷ 0 ∷ 0 ∷ 0 ∷ 0 ∷ [])) × (on (1 ∷ 2 ∷ 4 ∷ 0 ∷ 0 ∷ 0 ∷ 0 ∷ []) (moved_by under (inserting ∷ []) removing) ≡ makes (1 ∷ 0 ∷ 0 ∷ []))
unfolding class_of read write opened_at dropped repacked remade update
insert_then_remove = (refl, refl)

pub remove_then_insert : (on under removing ≡ makes (1 ∷ 0 ∷ 0 ∷ [])) × (on (1 ∷ 0 ∷ 0 ∷ []) (moved_by under (removing ∷ []) inserting) ≡ makes (4 ∷ 0 ∷ 1 ∷ 0 ∷ 0 ∷ []))
unfolding class_of read write opened_at dropped repacked remade update
remove_then_insert = (refl, refl)
