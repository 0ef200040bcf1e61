-- Document 01, "How the updated file is made", step 1: opening.
use Rattle.std.specs.Prelude.{ℕ, zero, suc, List, [], ◌∷◌, ◌++◌, length, take, drop, get_or}
use Rattle.std.proofs.Math.Option.{Option, none, some}
use Rattle.model.specs.Words.{when_call}
use Rattle.model.specs.Trees.{Rule, join, forest, fill, owners, expansions, ranks_of, start_of}

-- the rule that a word calls
abbrev pub called : ℕ → Option ℕ
called w = when_call none some w

abbrev pub rule_at : List Rule → ℕ → Rule
rule_at rules j = get_or rules j (record { rank = 0; body = [] })

-- the place in the words ws of the word that produces node p
abbrev pub owner_of : List Rule → List ℕ → ℕ → ℕ
owner_of rules ws p = get_or (owners (ranks_of rules) (expansions rules) ws) p 0

-- the call of rule r at place i "is replaced by its rule's body, its children put in"
abbrev pub call_opened : List Rule → Rule → ℕ → List ℕ → List ℕ
call_opened rules r i ws =
    take i ws
    ++ fill (λ v. v) (take r.rank (forest (ranks_of rules) (drop (suc i) ws))) r.body
    ++ join (drop r.rank (forest (ranks_of rules) (drop (suc i) ws)))

-- the opened start body, the place where p is now explicit, and the rule numbers opened, in order
pub record Opened : Type 0 where
  pub words : List ℕ
  pub place : ℕ
  pub opened : List ℕ

-- "A call that itself produces node p is replaced by its rule's body, its children put in"; "Go on until p is an explicit word." `most` bounds how often: the
-- numbers opened fall. What comes of it, without the walk: laws, Opening/Walk, `opened_from` (the same tree, p an explicit word, the numbers falling).
abbrev pub openings : ℕ → List Rule → List ℕ → ℕ → Opened
openings zero rules ws p = record { words = ws; place = owner_of rules ws p; opened = [] }
openings (suc most) rules ws p =
    elim (called (get_or ws (owner_of rules ws p) 0)) [
      | none ↦ record { words = ws; place = owner_of rules ws p; opened = [] }
      | some j ↦
          let next = openings most rules (call_opened rules (rule_at rules j) (owner_of rules ws p) ws) p in
          record { words = next.words; place = next.place; opened = j ∷ next.opened }
    ]

unfoldable pub opened_at : List Rule → ℕ → Opened
opened_at rules p = openings (length rules) rules (start_of rules) p
