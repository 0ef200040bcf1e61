-- Laws of opening: the opened start body expands to the same tree, the numbers opened fall, and the walk ends at an explicit word.
use Prim.Native.Nat.{ℕ, zero, suc, ◌+◌, ◌-◌, ◌≤◌, ◌<◌}
use native.Mathlib.Omega.{arith}
use mathlib.Core.Path.{◌≡◌, refl, sym, subst, subst⁻¹, ◌∙◌, ap}
use mathlib.Core.List.{List, [], ◌∷◌}
use mathlib.Core.Option.{none, some}
use lib.Dec.{T}
use lib.ListN.{length, take, get_or}
use lib.Seq.{take-length}
use Rattle.model.specs.Words.{call, class_of, is_parameter, is_tree_word}
use Rattle.model.specs.Trees.{Rule, all, those, is_legal, expand, expansions, ranks_of, start_of, tree_of, nodes}
use Rattle.model.specs.Opening.{rule_at, owner_of, call_opened, Opened, openings, opened_at}
use Rattle.laws.specs.Returned.{Falls}
use Rattle.laws.specs.Work.{body_words}
use Rattle.laws.specs.Formed.{formed, Tree, body_at}
use Rattle.laws.proofs.Trees.Places.{owner_no_parameter, explicit_at, at_place}
use Rattle.laws.proofs.Words.Classes.{explicit_word}
use Rattle.laws.proofs.Trees.Legal.{legal_call}
use Rattle.laws.proofs.Trees.Fills.{by_call, when_call_other}
use Rattle.laws.proofs.Trees.Grammar.{formed_parts, start_last, tree_of_start, start_tree, start_legal, start_no_parameters, formed_env}
use Rattle.laws.proofs.Words.Lists.{all_at}
use Rattle.laws.proofs.Opening.OpenCall.{opens_keeps, opens_length, opens_legal, opens_closed, opens_owner}
use Rattle.laws.proofs.Trees.Owners.{owner_below}

pub falls_few : (b : ℕ) (js : List ℕ) → Falls b js → length js ≤ b
falls_few b [] h = omega arith
falls_few b (j ∷ js) h = let r = falls_few j js h.1 in omega arith

body_words_suc : (rs : List Rule) (j : ℕ) → j < length rs → body_words (take (suc j) rs) ≡ body_words (take j rs) + length (body_at rs j)
body_words_suc [] j h = absurd (omega arith)
body_words_suc (r ∷ rs) zero h = omega arith
body_words_suc (r ∷ rs) (suc j) h = let e = body_words_suc rs j (omega arith) in omega arith

body_words_more : (rs : List Rule) (m n : ℕ) → m ≤ n → body_words (take m rs) ≤ body_words (take n rs)
body_words_more rs zero n h = omega arith
body_words_more rs (suc m) zero h = absurd (omega arith)
body_words_more [] (suc m) (suc n) h = omega arith
body_words_more (r ∷ rs) (suc m) (suc n) h = let e = body_words_more rs m n (omega arith) in omega arith

module _ (rules : List Rule) (p : ℕ) where
  openings_call : (most : ℕ) (ws : List ℕ) (j : ℕ) → class_of (get_or ws (owner_of rules ws p) 0) ≡ call j
      → openings (suc most) rules ws p
      ≡ (let next = openings most rules (call_opened rules (rule_at rules j) (owner_of rules ws p) ws) p in record { words = next.words; place = next.place; opened = j ∷ next.opened })
  openings_call most ws j c = simp (c, openings)

  openings_end : (most : ℕ) (ws : List ℕ) → ((j : ℕ) → class_of (get_or ws (owner_of rules ws p) 0) ≡ call j → ⊥)
      → openings (suc most) rules ws p ≡ record { words = ws; place = owner_of rules ws p; opened = [] }
  openings_end most ws n = simp (when_call_other none some (get_or ws (owner_of rules ws p) 0) n, openings)

-- what an opened body is
pub record OpenedFrom (rules : List Rule) (ws : List ℕ) (p b : ℕ) (o : Opened) : Type 0 where
  pub tree : Tree (ranks_of rules) o.words
  pub same : expand (ranks_of rules) (expansions rules) o.words ≡ expand (ranks_of rules) (expansions rules) ws
  pub legal : T (all (is_legal (length rules - 1)) o.words)
  pub closed : those is_parameter o.words ≡ []
  pub owner : o.place ≡ owner_of rules o.words p
  pub within : o.place < length o.words
  pub explicit : T (is_tree_word (get_or o.words o.place 0))
  pub falls : Falls b o.opened
  pub short : length o.words ≤ length ws + body_words (take b rules)

module _ (rules : List Rule) (f : T (formed rules)) (p : ℕ) where
  -- what holds of the words while they are being opened
  record Ready (b : ℕ) (ws : List ℕ) : Type 0 where
    number : b < length rules
    tree : Tree (ranks_of rules) ws
    legal : T (all (is_legal (length rules - 1)) ws)
    closed : those is_parameter ws ≡ []
    there : p < length (expand (ranks_of rules) (expansions rules) ws)
    below : T (is_legal b (get_or ws (owner_of rules ws p) 0))

  stopped : (b : ℕ) (ws : List ℕ) → Ready b ws → ((j : ℕ) → class_of (get_or ws (owner_of rules ws p) 0) ≡ call j → ⊥)
      → OpenedFrom rules ws p b (record { words = ws; place = owner_of rules ws p; opened = [] })
  stopped b ws r n =
      record {
        tree = r.tree;
        same = refl;
        legal = r.legal;
        closed = r.closed;
        owner = refl;
        within = owner_below (ranks_of rules) (expansions rules) ws p r.there;
        explicit =
            explicit_word b (get_or ws (owner_of rules ws p) 0) r.below
            (owner_no_parameter (ranks_of rules) (expansions rules) ws r.closed p r.there) n;
        falls = tt;
        short = omega arith;
      }

  -- the call of rule j that produces p is opened
  module _ (b : ℕ) (ws : List ℕ) (r : Ready b ws) (j : ℕ) (c : class_of (get_or ws (owner_of rules ws p) 0) ≡ call j) where
    falls_to : j < b
    falls_to = legal_call b (get_or ws (owner_of rules ws p) 0) j c r.below

    j_there : j < length rules
    j_there = omega (arith, falls_to, r.number)

    place_in : owner_of rules ws p < length ws
    place_in = owner_below (ranks_of rules) (expansions rules) ws p r.there

    ready_next : Ready j (call_opened rules (rule_at rules j) (owner_of rules ws p) ws)
    ready_next =
        let o = owner_of rules ws p in
        let k = opens_keeps rules f ws r.tree o place_in j c j_there in
        record {
          number = j_there;
          tree = k.0;
          legal = opens_legal rules f ws r.tree o place_in j c j_there (length rules - 1) (omega (arith, falls_to, r.number)) r.legal;
          closed = opens_closed rules f ws r.tree o place_in j c j_there r.closed;
          there = rw k.1 r.there;
          below = opens_owner rules f ws r.tree o place_in j c j_there p r.there refl;
        }

    opened_next : (o : Opened) → OpenedFrom rules (call_opened rules (rule_at rules j) (owner_of rules ws p) ws) p j o
        → OpenedFrom rules ws p b (record { words = o.words; place = o.place; opened = j ∷ o.opened })
    opened_next o n =
        let k = opens_keeps rules f ws r.tree (owner_of rules ws p) place_in j c j_there in
        record {
          tree = n.tree;
          same = n.same ∙ k.1;
          legal = n.legal;
          closed = n.closed;
          owner = n.owner;
          within = n.within;
          explicit = n.explicit;
          falls = (falls_to, n.falls);
          short =
              omega (
                arith,
                n.short,
                opens_length rules f ws r.tree (owner_of rules ws p) place_in j c j_there,
                body_words_suc rules j j_there,
                body_words_more rules (suc j) b falls_to,
              );
        }

  -- the number of the rule whose call produces p falls with every opening, so b openings are enough
  openings_from : (most b : ℕ) (ws : List ℕ) → b ≤ most → Ready b ws → OpenedFrom rules ws p b (openings most rules ws p)
  openings_from zero b ws h r = stopped b ws r (λ j c. omega (arith, falls_to b ws r j c))
  openings_from (suc most) b ws h r =
      by_call (OpenedFrom rules ws p b (openings (suc most) rules ws p)) (get_or ws (owner_of rules ws p) 0)
      (λ j c. subst⁻¹ (OpenedFrom rules ws p b) (openings_call rules p most ws j c)
      (opened_next b ws r j c (openings most rules (call_opened rules (rule_at rules j) (owner_of rules ws p) ws) p)
      (openings_from most j (call_opened rules (rule_at rules j) (owner_of rules ws p) ws) (omega (arith, falls_to b ws r j c)) (ready_next b ws r j c))))
      (λ n. subst⁻¹ (OpenedFrom rules ws p b) (openings_end rules p most ws n) (stopped b ws r n))

module _ (rules : List Rule) (f : T (formed rules)) (p : ℕ) (p-in : p < nodes rules) where
  ready_start : Ready rules f p (length rules - 1) (start_of rules)
  ready_start =
      let i : p < length (expand (ranks_of rules) (expansions rules) (start_of rules)) = subst (λ (ws : List ℕ). p < length ws) (tree_of_start rules f) p-in in
      record {
        number = omega (arith, (formed_parts rules f).some);
        tree = start_tree rules f;
        legal = start_legal rules f;
        closed = start_no_parameters rules f;
        there = i;
        below = all_at (is_legal (length rules - 1)) (start_of rules) (start_legal rules f) (owner_of rules (start_of rules) p) (owner_below (ranks_of rules) (expansions rules) (start_of rules) p i);
      }

  pub opened_from : OpenedFrom rules (start_of rules) p (length rules - 1) (opened_at rules p)
  unfolding opened_at
  opened_from = openings_from rules f p (length rules) (length rules - 1) (start_of rules) (omega arith) ready_start

  -- the opened start body expands to the grammar's tree, and is a body of a start rule
  pub open_keeps_tree : expand (ranks_of rules) (expansions rules) (opened_at rules p).words ≡ tree_of rules
  open_keeps_tree = opened_from.same ∙ sym (tree_of_start rules f)

  -- "Go on until p is an explicit word": the word there is the tree's word at p
  pub opened_word : get_or (opened_at rules p).words (opened_at rules p).place 0 ≡ get_or (tree_of rules) p 0
  opened_word =
      let o = opened_at rules p in
      let from = opened_from in
      sym (explicit_at (ranks_of rules) (expansions rules) o.words from.tree o.place from.within
      (at_place (ranks_of rules) (expansions rules) (formed_env rules f) o.words from.tree o.place from.within)
      p (subst (λ tree. p < length tree) (sym open_keeps_tree) p-in) (sym from.owner) from.explicit).1
      ∙ ap (λ tree. get_or tree p 0) open_keeps_tree

  -- "The rule numbers opened fall strictly, so each is opened at most once": fewer than there are rules
  pub opened_falls : Falls (length rules - 1) (opened_at rules p).opened × (length (opened_at rules p).opened < length rules)
  opened_falls =
      (opened_from.falls, omega (arith, falls_few (length rules - 1) (opened_at rules p).opened opened_from.falls, (formed_parts rules f).some))

  -- the opened start body is no longer than all the bodies together
  pub opened_short : length (opened_at rules p).words ≤ body_words rules
  opened_short =
      let n : suc (length rules - 1) ≡ length rules = omega (arith, (formed_parts rules f).some) in
      let a : body_words (take (suc (length rules - 1)) rules) ≡ body_words rules = ap body_words (ap (λ (m : ℕ). take m rules) n ∙ take-length rules) in
      omega (arith, opened_from.short, a, body_words_suc rules (length rules - 1) (omega arith), ap length (start_last rules))
