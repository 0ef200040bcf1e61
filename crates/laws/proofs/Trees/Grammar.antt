-- A grammar of document 01: what each of its rules is, and what their expansions are. Its tree is one complete tree of labels and ⊥.
use Prim.Native.Nat.{ℕ, zero, suc, ◌+◌, ◌-◌, ◌≤◌, ◌<◌}
use mathlib.Core.Path.{◌≡◌, refl, sym, ap, ◌∙◌}
use mathlib.Core.Bool.{Bool, true, false, not, ◌&&◌, ◌||◌, or-false}
use mathlib.Core.List.{List, [], ◌∷◌, ◌++◌, append-nil}
use mathlib.Core.Option.{none}
use native.Mathlib.Nat.{zero-add, add-zero}
use native.Mathlib.Omega.{arith}
use borrow.Author.Tests.{ltb-true, ltb-false, eqb-true, not-false}
use lib.Dec.{T, leb, ltb, eqb, leb→le, le→leb, eqb→eq, eqb_refl}
use lib.ListN.{length, take, get_or, length-append, length-take, get_or-append, get_or-eq_default}
use lib.Seq.{get_or-take, ext_get_or, get_or-append_seam, append_snoc, length-take-le}
use mir.Facts.{and_yes, yes_and}
use Rattle.model.specs.Bounds.{largest_size, most_rules}
use Rattle.model.specs.Words.{is_parameter, is_tree_word, within, parameter_word}
use Rattle.model.specs.Trees.{Rule, all, those, same, parameters, is_legal, is_tree, obeys, expand, expansions_on, expansions, ranks_of, tree_of, start_of, nodes, size}
use Rattle.model.specs.Refusals.{RANK, SYMBOL, BODY, first_of}
use Rattle.model.specs.File.{is_even, record_refusals, rule_in, rule_refusals}
use Rattle.laws.specs.Orders.{Plain}
use Rattle.laws.specs.Formed.{formed, formed_on, start_rank, Tree, Env, Solves, body_at}
use Rattle.laws.proofs.Trees.Folds.{is_tree_tree, tree_is_tree}
use Rattle.laws.proofs.Trees.Legal.{tree_agree, expand_agree}
use Rattle.laws.proofs.Trees.Fills.{expand_parameters, those_in, those_out}
use Rattle.laws.proofs.Trees.Grown.{Grown, grown_word, expand_grown}
use Rattle.laws.proofs.Words.Lists.{all_cons}
use Rattle.laws.proofs.Words.Tests.{or_split, passed}
use Rattle.laws.proofs.Answers.Conditions.{none_holds_split, first_of_none_iff}

pub length_ranks : (rules : List Rule) → length (ranks_of rules) ≡ length rules
length_ranks [] = refl
length_ranks (r ∷ rs) = ap suc (length_ranks rs)

pub ranks_append : (rs ss : List Rule) → ranks_of (rs ++ ss) ≡ ranks_of rs ++ ranks_of ss
ranks_append [] ss = refl
ranks_append (r ∷ rs) ss = ap {B = List ℕ} (λ l. r.rank ∷ l) (ranks_append rs ss)

pub same_eq : (vs ws : List ℕ) → T (same vs ws) → vs ≡ ws
same_eq [] [] t = refl
same_eq [] (w ∷ ws) t = absurd t
same_eq (v ∷ vs) [] t = absurd t
same_eq (v ∷ vs) (w ∷ ws) t =
    let s = and_yes (eqb v w) (same vs ws) t in
    cc (eqb→eq v w s.0, same_eq vs ws s.1)

pub same_refl : (ws : List ℕ) → T (same ws ws)
same_refl [] = tt
same_refl (w ∷ ws) = yes_and (eqb w w) (same ws ws) (eqb_refl w) (same_refl ws)

-- what formed says of one rule, on the ranks of the whole grammar
pub record RuleOf (rules : List Rule) (j : ℕ) : Type 0 where
  pub rank_small : get_or (ranks_of rules) j 0 ≤ 4
  pub legal : T (all (is_legal j) (body_at rules j))
  pub tree : Tree (ranks_of rules) (body_at rules j)
  pub in_order : those is_parameter (body_at rules j) ≡ parameters (get_or (ranks_of rules) j 0)
  pub not_alone : T (not (same (body_at rules j) (parameter_word 1 ∷ [])))

-- the same on the ranks below it, as the reader tests it
pub record RuleOn (ranks : List ℕ) (k : ℕ) (body : List ℕ) : Type 0 where
  pub rank_small : k ≤ 4
  pub legal : T (all (is_legal (length ranks)) body)
  pub obeyed : T (obeys ranks k body)

rule_on : (ranks : List ℕ) (k : ℕ) (body : List ℕ) → T (leb k 4 && all (is_legal (length ranks)) body && obeys ranks k body) → RuleOn ranks k body
rule_on ranks k body t =
    let s = and_yes (leb k 4 && all (is_legal (length ranks)) body) (obeys ranks k body) t in
    let u = and_yes (leb k 4) (all (is_legal (length ranks)) body) s.0 in
    record { rank_small = leb→le k 4 u.0; legal = u.1; obeyed = s.1 }

on_rule : (ranks : List ℕ) (k : ℕ) (body : List ℕ) → RuleOn ranks k body → T (leb k 4 && all (is_legal (length ranks)) body && obeys ranks k body)
on_rule ranks k body r =
    yes_and (leb k 4 && all (is_legal (length ranks)) body) (obeys ranks k body)
    (yes_and (leb k 4) (all (is_legal (length ranks)) body) (le→leb k 4 r.rank_small) r.legal) r.obeyed

pub formed_cons : (ranks : List ℕ) (r : Rule) (rs : List Rule) → T (formed_on ranks (r ∷ rs)) → RuleOn ranks r.rank r.body × T (formed_on (ranks ++ r.rank ∷ []) rs)
formed_cons ranks r rs t =
    let (on, rest) = and_yes (leb r.rank 4 && all (is_legal (length ranks)) r.body && obeys ranks r.rank r.body) (formed_on (ranks ++ r.rank ∷ []) rs) t in
    (rule_on ranks r.rank r.body on, rest)

-- rule i of those above `ranks`, on the ranks below it
formed_on_at : (ranks : List ℕ) (rs : List Rule) → T (formed_on ranks rs) → (i : ℕ) → i < length rs → RuleOn (ranks ++ take i (ranks_of rs)) (get_or (ranks_of rs) i 0) (body_at rs i)
formed_on_at ranks [] t i h = absurd (omega arith)
formed_on_at ranks (r ∷ rs) t zero h = rw append-nil (formed_cons ranks r rs t).0
formed_on_at ranks (r ∷ rs) t (suc i) h =
    rw (← append_snoc ranks r.rank (take i (ranks_of rs))) (formed_on_at (ranks ++ r.rank ∷ []) rs (formed_cons ranks r rs t).1 i (omega arith))

at_formed_on : (ranks : List ℕ) (rs : List Rule) → ((i : ℕ) → i < length rs → RuleOn (ranks ++ take i (ranks_of rs)) (get_or (ranks_of rs) i 0) (body_at rs i)) → T (formed_on ranks rs)
at_formed_on ranks [] f = tt
at_formed_on ranks (r ∷ rs) f =
    yes_and (leb r.rank 4 && all (is_legal (length ranks)) r.body && obeys ranks r.rank r.body) (formed_on (ranks ++ r.rank ∷ []) rs)
    (on_rule ranks r.rank r.body (rw append-nil at (f 0 (omega arith))))
    (at_formed_on (ranks ++ r.rank ∷ []) rs (λ i h. rw append_snoc (f (suc i) (omega arith))))

obeys_parts : (ranks : List ℕ) (k : ℕ) (body : List ℕ) → T (obeys ranks k body)
    → Tree ranks body × (those is_parameter body ≡ parameters k) × T (not (same body (parameter_word 1 ∷ [])))
obeys_parts ranks k body t =
    let s = and_yes (is_tree ranks body && same (those is_parameter body) (parameters k)) (not (same body (parameter_word 1 ∷ []))) t in
    let u = and_yes (is_tree ranks body) (same (those is_parameter body) (parameters k)) s.0 in
    (is_tree_tree ranks body u.0, same_eq (those is_parameter body) (parameters k) u.1, s.1)

parts_obeys : (ranks : List ℕ) (k : ℕ) (body : List ℕ) → Tree ranks body → those is_parameter body ≡ parameters k → T (not (same body (parameter_word 1 ∷ [])))
    → T (obeys ranks k body)
parts_obeys ranks k body t e n =
    yes_and (is_tree ranks body && same (those is_parameter body) (parameters k)) (not (same body (parameter_word 1 ∷ [])))
    (yes_and (is_tree ranks body) (same (those is_parameter body) (parameters k)) (tree_is_tree ranks body t) (rw e (same_refl (parameters k)))) n

-- what formed says of the whole
pub record FormedParts (rules : List Rule) : Type 0 where
  pub some : 1 ≤ length rules
  pub not_many : length rules ≤ most_rules
  pub start_rank_lem : start_rank rules ≡ 0
  pub is_formed : T (formed_on [] rules)

pub formed_parts : (rules : List Rule) → T (formed rules) → FormedParts rules
formed_parts rules f =
    let s = and_yes (within 1 most_rules (length rules) && eqb (start_rank rules) 0) (formed_on [] rules) f in
    let u = and_yes (within 1 most_rules (length rules)) (eqb (start_rank rules) 0) s.0 in
    let v = and_yes (leb 1 (length rules)) (leb (length rules) most_rules) u.0 in
    record {
      some = leb→le 1 (length rules) v.0;
      not_many = leb→le (length rules) most_rules v.1;
      start_rank_lem = eqb→eq (start_rank rules) 0 u.1;
      is_formed = s.1;
    }

pub rule_of : (rules : List Rule) → T (formed rules) → (j : ℕ) → j < length rules → RuleOf rules j
rule_of rules f j h =
    let on : RuleOn (take j (ranks_of rules)) (get_or (ranks_of rules) j 0) (body_at rules j) = formed_on_at [] rules (formed_parts rules f).is_formed j h in
    let n : length (take j (ranks_of rules)) ≡ j = length-take-le j (ranks_of rules) (rw length_ranks (omega arith)) in
    let l : T (all (is_legal j) (body_at rules j)) = rw n at on.legal in
    let o = obeys_parts (take j (ranks_of rules)) (get_or (ranks_of rules) j 0) (body_at rules j) on.obeyed in
    record {
      rank_small = on.rank_small;
      legal = l;
      tree = tree_agree j (take j (ranks_of rules)) (ranks_of rules) (λ i k. get_or-take j (ranks_of rules) i 0 k) (body_at rules j) l o.0;
      in_order = o.1;
      not_alone = o.2;
    }

-- and back: rules that are such, in the number allowed and with a start of rank 0, are a grammar
pub of_rules : (rules : List Rule) → 1 ≤ length rules → length rules ≤ most_rules → start_rank rules ≡ 0 → ((j : ℕ) → j < length rules → RuleOf rules j) → T (formed rules)
of_rules rules h k e f =
    yes_and (within 1 most_rules (length rules) && eqb (start_rank rules) 0) (formed_on [] rules)
    (yes_and (within 1 most_rules (length rules)) (eqb (start_rank rules) 0)
    (yes_and (leb 1 (length rules)) (leb (length rules) most_rules) (le→leb 1 (length rules) h) (le→leb (length rules) most_rules k))
    (rw e tt))
    (at_formed_on [] rules on)
  where
    on : (j : ℕ) → j < length rules → RuleOn (take j (ranks_of rules)) (get_or (ranks_of rules) j 0) (body_at rules j)
    on j m =
        let n : length (take j (ranks_of rules)) ≡ j = length-take-le j (ranks_of rules) (rw length_ranks (omega arith)) in
        record {
          rank_small = (f j m).rank_small;
          legal = rw n (f j m).legal;
          obeyed =
              parts_obeys (take j (ranks_of rules)) (get_or (ranks_of rules) j 0) (body_at rules j)
              (tree_agree j (ranks_of rules) (take j (ranks_of rules)) (λ i k. sym (get_or-take j (ranks_of rules) i 0 k)) (body_at rules j) (f j m).legal (f j m).tree)
              (f j m).in_order (f j m).not_alone;
        }

module _ (ranks : List ℕ) where
  pub length_expansions_on : (lower : List (List ℕ)) (rs : List Rule) → length (expansions_on ranks lower rs) ≡ length lower + length rs
  length_expansions_on lower [] = sym (add-zero (length lower))
  length_expansions_on lower (r ∷ rs) =
      let e = expand ranks lower r.body in
      length_expansions_on (lower ++ e ∷ []) rs ∙ simp length-append (omega arith)

  expansions_on_below : (lower : List (List ℕ)) (rs : List Rule) (j : ℕ) → j < length lower → get_or (expansions_on ranks lower rs) j [] ≡ get_or lower j []
  expansions_on_below lower [] j h = refl
  expansions_on_below lower (r ∷ rs) j h =
      let e = expand ranks lower r.body in
      expansions_on_below (lower ++ e ∷ []) rs j (simp length-append (omega arith)) ∙ get_or-append lower (e ∷ []) [] j h

  expansions_on_at : (lower : List (List ℕ)) (rs : List Rule) → ((i : ℕ) → i < length rs → T (all (is_legal (length lower + i)) (body_at rs i)))
      → (i : ℕ) → i < length rs → get_or (expansions_on ranks lower rs) (length lower + i) [] ≡ expand ranks (expansions_on ranks lower rs) (body_at rs i)
  expansions_on_at lower [] f i h = absurd (omega arith)
  expansions_on_at lower (r ∷ rs) f zero h =
      let e = expand ranks lower r.body in
      let E = expansions_on ranks (lower ++ e ∷ []) rs in
      let at : get_or E (length lower) [] ≡ e = expansions_on_below (lower ++ e ∷ []) rs (length lower) (simp length-append (omega arith)) ∙ get_or-append_seam lower e [] [] in
      let l : T (all (is_legal (length lower)) r.body) = rw add-zero at (f 0 (omega arith)) in
      let agree : e ≡ expand ranks E r.body = expand_agree (length lower) ranks ranks (λ j k. refl) lower E (λ j k. sym (expansions_on_below lower (r ∷ rs) j k)) r.body l in
      rw add-zero (at ∙ agree)
  expansions_on_at lower (r ∷ rs) f (suc i) h =
      let e = expand ranks lower r.body in
      let shift : (k : ℕ) → length (lower ++ e ∷ []) + k ≡ length lower + suc k = λ k. simp length-append (omega arith) in
      let next = expansions_on_at (lower ++ e ∷ []) rs (λ k m. rw (shift k) (f (suc k) (omega arith))) i (omega arith) in
      ap (λ (k : ℕ). get_or (expansions_on ranks (lower ++ e ∷ []) rs) k []) (sym (shift i)) ∙ next

-- the expansions are the one solution of the rules
pub expansions_solve : (rules : List Rule) → T (formed rules) → Solves rules (expansions rules)
expansions_solve rules f = (
  length_expansions_on (ranks_of rules) [] rules ∙ zero-add (length rules),
  λ j h. rw zero-add at (expansions_on_at (ranks_of rules) [] rules (λ i k. rw zero-add (rule_of rules f i k).legal) j h),
)

solutions_below : (rules : List Rule) → T (formed rules) → (D E : List (List ℕ)) → Solves rules D → Solves rules E
    → (n : ℕ) → n ≤ length rules → (j : ℕ) → j < n → get_or D j [] ≡ get_or E j []
solutions_below rules f D E d e zero h j k = absurd (omega arith)
solutions_below rules f D E d e (suc n) h j k =
    let below : (i : ℕ) → i < j → get_or D i [] ≡ get_or E i [] = λ i m. solutions_below rules f D E d e n (omega arith) i (omega arith) in
    d.1 j (omega arith)
    ∙ expand_agree j (ranks_of rules) (ranks_of rules) (λ i m. refl) D E below (body_at rules j) (rule_of rules f j (omega arith)).legal
    ∙ sym (e.1 j (omega arith))

pub solutions_equal : (rules : List Rule) → T (formed rules) → (D E : List (List ℕ)) → Solves rules D → Solves rules E → D ≡ E
solutions_equal rules f D E d e =
    ext_get_or [] D E (d.0 ∙ sym e.0) (λ j h. solutions_below rules f D E d e (length rules) (omega arith) j (omega (arith, d.0)))

pub solution_unique : (rules : List Rule) → T (formed rules) → (E : List (List ℕ)) → Solves rules E → E ≡ expansions rules
solution_unique rules f E s = solutions_equal rules f E (expansions rules) s (expansions_solve rules f)

-- expansions below j that have their parameters in order, and no others
env_cut : (ranks : List ℕ) (E : List (List ℕ)) (j : ℕ) → ((i : ℕ) → i < j → those is_parameter (get_or E i []) ≡ parameters (get_or ranks i 0)) → Env (take j ranks) (take j E)
env_cut ranks E j f i = go (ltb i j) refl
  where
    go : (b : Bool) → ltb i j ≡ b → those is_parameter (get_or (take j E) i []) ≡ parameters (get_or (take j ranks) i 0)
    go true e = let h : i < j = omega (arith, ltb-true) in cc (get_or-take j E i [] h, get_or-take j ranks i 0 h, f i h)
    go false e =
        let h : j ≤ i = omega (arith, ltb-false) in
        cc (get_or-eq_default (take j E) [] {n = i} (simp length-take (omega arith)), get_or-eq_default (take j ranks) 0 {n = i} (simp length-take (omega arith)))

-- rule j's expansion on the rules below alone
expansion_cut : (rules : List Rule) → T (formed rules) → (j : ℕ) → j < length rules
    → get_or (expansions rules) j [] ≡ expand (take j (ranks_of rules)) (take j (expansions rules)) (body_at rules j)
expansion_cut rules f j h =
    (expansions_solve rules f).1 j h
    ∙ expand_agree j (ranks_of rules) (take j (ranks_of rules)) (λ i k. sym (get_or-take j (ranks_of rules) i 0 k)) (expansions rules) (take j (expansions rules))
    (λ i k. sym (get_or-take j (expansions rules) i [] k)) (body_at rules j) (rule_of rules f j h).legal

tree_cut : (rules : List Rule) → T (formed rules) → (j : ℕ) → j < length rules → Tree (take j (ranks_of rules)) (body_at rules j)
tree_cut rules f j h =
    tree_agree j (ranks_of rules) (take j (ranks_of rules)) (λ i k. sym (get_or-take j (ranks_of rules) i 0 k)) (body_at rules j)
    (rule_of rules f j h).legal (rule_of rules f j h).tree

env_below : (rules : List Rule) → T (formed rules) → (n : ℕ) → n ≤ length rules
    → (j : ℕ) → j < n → those is_parameter (get_or (expansions rules) j []) ≡ parameters (get_or (ranks_of rules) j 0)
env_below rules f zero h j k = absurd (omega arith)
env_below rules f (suc n) h j k =
    ap (those is_parameter) (expansion_cut rules f j (omega arith))
    ∙ expand_parameters (take j (ranks_of rules)) (take j (expansions rules))
    (env_cut (ranks_of rules) (expansions rules) j (λ i m. env_below rules f n (omega arith) i (omega arith)))
    (body_at rules j) (tree_cut rules f j (omega arith)).0
    ∙ (rule_of rules f j (omega arith)).in_order

-- a rule's expansion has the rule's parameters once and in order
pub formed_env : (rules : List Rule) → T (formed rules) → Env (ranks_of rules) (expansions rules)
formed_env rules f j = go (ltb j (length rules)) refl
  where
    go : (b : Bool) → ltb j (length rules) ≡ b → those is_parameter (get_or (expansions rules) j []) ≡ parameters (get_or (ranks_of rules) j 0)
    go true e = env_below rules f (length rules) (omega arith) j (omega (arith, ltb-true))
    go false e =
        let h : length rules ≤ j = omega (arith, ltb-false) in
        cc (get_or-eq_default (expansions rules) [] {n = j} (omega (arith, (expansions_solve rules f).0)), get_or-eq_default (ranks_of rules) 0 {n = j} (omega (arith, length_ranks rules)))

grown_below : (rules : List Rule) → T (formed rules) → (n : ℕ) → n ≤ length rules → (j : ℕ) → j < n → Grown (get_or (expansions rules) j [])
grown_below rules f zero h j k = absurd (omega arith)
grown_below rules f (suc n) h j k =
    rw ((expansions_solve rules f).1 j (omega arith))
    (expand_grown j (ranks_of rules) (expansions rules) (formed_env rules f) (λ i m. grown_below rules f n (omega arith) i (omega arith))
    (body_at rules j) (rule_of rules f j (omega arith)).legal (rule_of rules f j (omega arith)).tree)

-- it is one complete tree of labels, ⊥ and parameters
pub expansion_tree : (rules : List Rule) → T (formed rules) → (j : ℕ) → j < length rules
    → Tree [] (get_or (expansions rules) j []) × T (all (λ w. is_tree_word w || is_parameter w) (get_or (expansions rules) j []))
expansion_tree rules f j h = grown_below rules f (length rules) (omega arith) j h

pub start_last : (rules : List Rule) → start_of rules ≡ body_at rules (length rules - 1)
start_last [] = refl
start_last (r ∷ []) = refl
start_last (r ∷ s ∷ rs) =
    let e : suc (suc (length rs) - 1) ≡ suc (suc (length rs)) - 1 = omega arith in
    start_last (s ∷ rs) ∙ ap (body_at (r ∷ s ∷ rs)) e

pub start_rank_last : (rules : List Rule) → 1 ≤ length rules → start_rank rules ≡ get_or (ranks_of rules) (length rules - 1) 0
start_rank_last [] h = absurd (omega arith)
start_rank_last (r ∷ []) h = refl
start_rank_last (r ∷ s ∷ rs) h =
    let e : suc (suc (length rs) - 1) ≡ suc (suc (length rs)) - 1 = omega arith in
    start_rank_last (s ∷ rs) (omega arith) ∙ ap (λ (i : ℕ). get_or (ranks_of (r ∷ s ∷ rs)) i 0) e

-- the start body
pub start_legal : (rules : List Rule) → T (formed rules) → T (all (is_legal (length rules - 1)) (start_of rules))
start_legal rules f = rw start_last (rule_of rules f (length rules - 1) (omega (arith, (formed_parts rules f).some))).legal

pub start_tree : (rules : List Rule) → T (formed rules) → Tree (ranks_of rules) (start_of rules)
start_tree rules f = rw start_last (rule_of rules f (length rules - 1) (omega (arith, (formed_parts rules f).some))).tree

pub start_no_parameters : (rules : List Rule) → T (formed rules) → those is_parameter (start_of rules) ≡ []
start_no_parameters rules f =
    let p = formed_parts rules f in
    ap (those is_parameter) (start_last rules)
    ∙ (rule_of rules f (length rules - 1) (omega (arith, p.some))).in_order
    ∙ ap parameters (sym (start_rank_last rules p.some) ∙ p.start_rank_lem)

-- the tree of a grammar is the start body's expansion, and one complete tree of labels and ⊥
pub tree_of_start : (rules : List Rule) → T (formed rules) → tree_of rules ≡ expand (ranks_of rules) (expansions rules) (start_of rules)
tree_of_start rules f =
    let h : length rules - 1 < length rules = omega (arith, (formed_parts rules f).some) in
    (expansions_solve rules f).1 (length rules - 1) h ∙ ap (expand (ranks_of rules) (expansions rules)) (sym (start_last rules))

no_parameters : (ws : List ℕ) → T (all grown_word ws) → those is_parameter ws ≡ [] → T (all is_tree_word ws)
no_parameters [] t e = tt
no_parameters (w ∷ ws) t e = go (is_parameter w) refl (no_parameters ws (all_cons grown_word w ws t).1)
  where
    go : (b : Bool) → is_parameter w ≡ b → (those is_parameter ws ≡ [] → T (all is_tree_word ws)) → T (all is_tree_word (w ∷ ws))
    go true x rec = let f = those_in is_parameter w ws x in let z : ◌≡◌ {A = ℕ} 0 1 = cc in absurd (omega arith)
    go false x rec =
        let g : T (is_tree_word w || false) = rw x at (all_cons grown_word w ws t).0 in
        yes_and (is_tree_word w) (all is_tree_word ws) (rw or-false at g) (rec (sym (those_out is_parameter w ws x) ∙ e))

pub tree_plain : (rules : List Rule) → T (formed rules) → Plain (tree_of rules)
tree_plain rules f =
    let p = formed_parts rules f in
    let h : length rules - 1 < length rules = omega (arith, p.some) in
    let t = expansion_tree rules f (length rules - 1) h in
    let e : those is_parameter (tree_of rules) ≡ [] = formed_env rules f (length rules - 1) ∙ ap parameters (sym (start_rank_last rules p.some) ∙ p.start_rank_lem) in
    record { tree = t.0; words = no_parameters (tree_of rules) t.1 e }

-- a file that the reader takes is such a grammar, within the bounds
pub record Taken (rules : List Rule) : Type 0 where
  pub is_formed : T (formed rules)
  pub sizes : (j : ℕ) → j < length rules → size (get_or (expansions rules) j []) ≤ largest_size
  pub not_empty : nodes rules ≡ 1 → ⊥

pub formed_on_snoc : (ranks : List ℕ) (rs : List Rule) (r : Rule) → T (formed_on ranks rs) → RuleOn (ranks ++ ranks_of rs) r.rank r.body → T (formed_on ranks (rs ++ r ∷ []))
formed_on_snoc ranks [] r t o = yes_and (leb r.rank 4 && all (is_legal (length ranks)) r.body && obeys ranks r.rank r.body) true (on_rule ranks r.rank r.body (rw append-nil at o)) tt
formed_on_snoc ranks (s ∷ rs) r t o =
    let u = formed_cons ranks s rs t in
    yes_and (leb s.rank 4 && all (is_legal (length ranks)) s.body && obeys ranks s.rank s.body) (formed_on (ranks ++ s.rank ∷ []) (rs ++ r ∷ [])) (on_rule ranks s.rank s.body u.0)
    (formed_on_snoc (ranks ++ s.rank ∷ []) rs r u.1 (rw append_snoc o))

pub start_rank_snoc : (rs : List Rule) (r : Rule) → start_rank (rs ++ r ∷ []) ≡ r.rank
start_rank_snoc [] r = refl
start_rank_snoc (s ∷ []) r = refl
start_rank_snoc (s ∷ t ∷ rs) r = start_rank_snoc (t ∷ rs) r

-- what the tests that a rule passed say
pub rule_passed : (ranks : List ℕ) (last : Bool) (bytes : List ℕ) → first_of (rule_refusals ranks last bytes) ≡ none
    → RuleOn ranks (rule_in bytes).rank (rule_in bytes).body × (last ≡ true → (rule_in bytes).rank ≡ 0)
rule_passed ranks last bytes e =
    let k = (rule_in bytes).rank in
    let body = (rule_in bytes).body in
    let tests = (none_holds_split (record_refusals 2 (λ l. is_even l && leb 4 l) bytes)
    ((ltb 4 k || last && not (eqb k 0), RANK) ∷ (not (all (is_legal (length ranks)) body), SYMBOL) ∷ (not (obeys ranks k body), BODY) ∷ [])
    ((first_of_none_iff (rule_refusals ranks last bytes)).0 e)).1 in
    let o = or_split (ltb 4 k) (last && not (eqb k 0)) tests.0 in (
      record { rank_small = ltb-false 4 k o.0; legal = passed (all (is_legal (length ranks)) body) tests.1.0; obeyed = passed (obeys ranks k body) tests.1.1.0 },
      λ l. eqb-true k 0 (not-false (eqb k 0) (rw l at o.1)),
    )
