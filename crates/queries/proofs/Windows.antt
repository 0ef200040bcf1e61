-- The window of a file that was read, and the model's answer case by case.
use Prim.Native.Nat.{ℕ, ◌+◌, ◌*◌, ◌-◌, ◌≤◌, ◌<◌}
use native.Mathlib.Omega.{arith}
use mathlib.Core.Path.{◌≡◌, refl, sym, ap, ap₂, ◌∙◌}
use mathlib.Core.Bool.{Bool, true, false}
use mathlib.Core.List.{List, [], ◌∷◌, map}
use lib.Dec.{T, leb}
use lib.Ieee.Fits.{and_i}
use lib.ListN.{length, take, drop, get_or, replicate, length-replicate}
use lib.Seq.{drop-cons}
use borrow.Author.Tests.{lt-ltb, le-ltb, leb-true, leb-false}
use Rattle.model.specs.Words.{by_class, is_tree_word}
use Rattle.laws.proofs.Words.Classes.{by_explicit}
use Rattle.model.specs.Trees.{Rule, all, tree_of, nodes, expansions}
use Rattle.model.specs.Refusals.{Refusal, Result, taken, refused, POSITION}
use Rattle.model.specs.File.{read}
use Rattle.model.specs.Answers.{LabelAnswer, WindowAnswer, accepted, refusal, label_as, label_at, window_as, window_at}
use Rattle.laws.specs.Formed.{Tree}
use Rattle.laws.proofs.Trees.Grammar.{tree_plain}
use Rattle.laws.proofs.Words.Lists.{all_cons}
use Rattle.std.specs.Prelude.{Ok, Err}
use Rattle.grammar.specs.declared.refusals.Refusal.{Refusal as Code}
use Rattle.grammar.specs.declared.refusals.Refusal.TheVariants.{Position}
use Rattle.grammar.specs.declared.refusals.Refused.{Refused}
use Rattle.grammar.specs.declared.rules.Entry.{Entry}
use Rattle.grammar.specs.Meaning.{reading_is, reading_of, refusal_is, query_answer}
use Rattle.grammar.proofs.Answering.{query_refused}
use Rattle.grammar.proofs.Padding.{zero_at}
use Rattle.grammar.specs.Measures.{Denotes}
use Rattle.queries.specs.Pieces.{stop, stopped, unstopped, up_to, Walkable, Walked}
use Rattle.queries.specs.Building.{rules_of, gaps_of, Spelt}
use Rattle.queries.proofs.Stops.{tree_word, small_unstopped, up_to_all, gap_at}
use Rattle.queries.proofs.HeldRules.{named, as_many, rules_few, first_place, none_over, plain, gap_measured}

-- a tree's words have no stops
tree_stopped : (ws : List ℕ) → T (all is_tree_word ws) → map stopped ws ≡ ws
tree_stopped [] t = refl
tree_stopped (w ∷ ws) t =
    let h = all_cons is_tree_word w ws t in
    ap₂ (λ (v : ℕ) (l : List ℕ). v ∷ l) (by_explicit (λ c. by_class (record { empty = w; label = w; parameter = λ n. stop; call = λ j. w; illegal = w }) c ≡ w) refl refl w h.0) (tree_stopped ws h.1)

tree_unstopped : (ws : List ℕ) → T (all is_tree_word ws) → T (all unstopped ws)
tree_unstopped [] t = tt
tree_unstopped (w ∷ ws) t =
    let h = all_cons is_tree_word w ws t in
    and_i (unstopped w) (all unstopped ws) (small_unstopped w (tree_word w h.0)) (tree_unstopped ws h.1)

tree_some : (ws : List ℕ) → Tree [] ws → 1 ≤ length ws
tree_some [] t = absurd (omega (arith, t.1))
tree_some (w ∷ ws) t = omega arith

module _ {file : List ℕ} {rules : List Entry} {sizes : List ℕ} (H : Denotes file rules sizes) where
  pub nothing_spelt : (P S : List ℕ) → P ≡ [] → S ≡ replicate 1280 0 → Spelt file 0 rules sizes P S
  nothing_spelt P S p e =
      record {
        held = H;
        spells = record { none = none_over H; plain = plain H; measured = λ g h. absurd (omega arith); slices = λ g h. absurd (omega arith) };
        long = ap length e ∙ length-replicate {A = ℕ} 1280 0;
        low = λ g. omega (arith, ap (λ (l : List ℕ). get_or l g 0) e, zero_at 1280 g);
        room = λ h. omega (arith, ap length p, first_place H);
        fits = omega (arith, ap length p);
      }

  start_gap : gaps_of file (5 * (length rules - 1)) ≡ tree_of (rules_of file)
  start_gap =
      let R = rules_of file in
      let z : 5 * (length rules - 1) ≡ 5 * (length rules - 1) + 0 = omega arith in
      let p = tree_plain R (named H).is_formed in
      let m : length rules - 1 ≡ length R - 1 = omega (arith, as_many H) in
      ap (gaps_of file) z ∙ gap_at (expansions R) (length rules - 1) 0 (omega arith)
      ∙ ap (λ (k : ℕ). up_to (map stopped (get_or (expansions R) k []))) m
      ∙ ap up_to (tree_stopped (tree_of R) p.words) ∙ up_to_all (tree_of R) (tree_unstopped (tree_of R) p.words)

  -- N
  start_size : get_or sizes (5 * (length rules - 1)) 0 ≡ nodes (rules_of file)
  start_size =
      let z : 5 * (length rules - 1) ≡ 5 * (length rules - 1) + 0 = omega arith in
      ap (λ (k : ℕ). get_or sizes k 0) z ∙ gap_measured H (length rules - 1) 0 (omega (arith, rules_few H)) (omega arith)
      ∙ ap (λ (k : ℕ). length (gaps_of file k)) (sym z) ∙ ap length start_gap

  start_some : 1 ≤ nodes (rules_of file)
  start_some = tree_some (tree_of (rules_of file)) (tree_plain (rules_of file) (named H).is_formed).tree

  module _ {P S : List ℕ} (s : Spelt file (length rules) rules sizes P S) where
    pub walkable : (p many : ℕ) → p + many ≤ nodes (rules_of file) → Walkable P S sizes (length rules) p many
    walkable p many h =
        record {
          G = gaps_of file;
          top = length P;
          spells = s.spells;
          within = omega arith;
          short = s.fits;
          some_rules = (rules_few H).0;
          few_rules = (rules_few H).1;
          wide = H.longer;
          long = omega (arith, s.long);
          some_words = omega (arith, start_size, start_some);
          fits = omega (arith, start_size);
        }

    pub window_words : (p many : ℕ) (out : List ℕ) → length out ≡ many → Walked P S sizes (length rules) p out → out ≡ take many (drop p (tree_of (rules_of file)))
    window_words p many out l w =
        w (gaps_of file) (length P) s.spells (omega arith)
        ∙ ap₂ (λ (k : ℕ) (ws : List ℕ). take k (drop p ws)) l start_gap

-- the model's answer
module _ (file : List ℕ) (p many : ℕ) where
  pub window_refused : (x : Refusal) (k : ℕ) → read file ≡ refused x k → window_at file p many ≡ record { answer = refusal x k; window = replicate many 65535 }
  window_refused x k e = ap (window_as p many) e

  module _ (rules : List Rule) (e : read file ≡ taken rules) where
    pub window_outside : nodes rules < p + many → window_at file p many ≡ record { answer = refusal POSITION 0; window = replicate many 65535 }
    window_outside h = ap (window_as p many) e ∙ rw (lt-ltb (nodes rules) (p + many) h, window_as)

    pub window_inside : p + many ≤ nodes rules → window_at file p many ≡ record { answer = accepted 0 0 0; window = take many (drop p (tree_of rules)) }
    window_inside h = ap (window_as p many) e ∙ rw (le-ltb (nodes rules) (p + many) h, window_as)

-- a label is a window of one word
abbrev pub first_word : WindowAnswer → LabelAnswer
first_word a = record { answer = a.answer; word = get_or a.window 0 0 }

pub label_window : (file : List ℕ) (p : ℕ) → label_at file p ≡ first_word (window_at file p 1)
label_window file p = go (read file)
  where
    go : (m : Result (List Rule)) → label_as p m ≡ first_word (window_as p 1 m)
    go (refused x k) = refl
    go (taken rules) = by (leb (nodes rules) p) refl
      where
        by : (b : Bool) → leb (nodes rules) p ≡ b → label_as p (taken rules) ≡ first_word (window_as p 1 (taken rules))
        by true e =
            let h = leb-true (nodes rules) p e in
            let w : window_as p 1 (taken rules) ≡ record { answer = refusal POSITION 0; window = replicate 1 65535 } = rw (lt-ltb (nodes rules) (p + 1) (omega arith), window_as) in
            rw (e, label_as) (sym (ap first_word w))
        by false e =
            let h = leb-false (nodes rules) p e in
            let w : window_as p 1 (taken rules) ≡ record { answer = accepted 0 0 0; window = take 1 (drop p (tree_of rules)) } = rw (le-ltb (nodes rules) (p + 1) (omega arith), window_as) in
            let v : get_or (take 1 (drop p (tree_of rules))) 0 0 ≡ get_or (tree_of rules) p 0 = ap (λ (l : List ℕ). get_or (take 1 l) 0 0) (drop-cons (tree_of rules) p 0 h) in
            rw (e, label_as) (ap (λ (k : ℕ). record { answer = accepted 0 0 0; word = k }) (sym v) ∙ sym (ap first_word w))

reading_refused : (m : Result (List Rule)) (x : Refusal) (k : ℕ) → refused x k ≡ reading_of m → m ≡ refused x k
reading_refused (taken rules) x k e = absurd (let z : ◌≡◌ {A = ℕ} 0 1 = cc in omega arith)
reading_refused (refused y j) x k e = cc

-- what the code answers is what the model does: a file that is refused
pub answer_refused : (file : List ℕ) (p many : ℕ) (x : Refused) → reading_is {A = ℕ} (Err x) ≡ reading_of (read file)
    → (query_answer {A = ℕ} (reading_is (Err x)) ≡ (window_at file p many).answer) × (replicate many 65535 ≡ (window_at file p many).window)
answer_refused file p many x f =
    let r = reading_refused (read file) (refusal_is x.refusal) x.place f in
    let w = window_refused file p many (refusal_is x.refusal) x.place r in
    (query_refused file (refusal_is x.refusal) x.place r ∙ ap (λ (v : WindowAnswer). v.answer) (sym w), ap (λ (v : WindowAnswer). v.window) (sym w))

module _ {file : List ℕ} {table : List Entry} {sizes : List ℕ} (d : Denotes file table sizes) (p many : ℕ) where
  -- a place outside the tree
  pub answer_outside : nodes (rules_of file) < p + many → (x : Refused) → x.refusal ≡ Position → x.place ≡ 0
      → (query_answer {A = ℕ} (reading_is (Err x)) ≡ (window_at file p many).answer) × (replicate many 65535 ≡ (window_at file p many).window)
  answer_outside h x e k =
      let w = window_outside file p many (rules_of file) (named d).is h in (
        ap₂ (λ (y : Code) (j : ℕ). query_answer {A = ℕ} (refused (refusal_is y) j)) e k ∙ ap (λ (v : WindowAnswer). v.answer) (sym w),
        ap (λ (v : WindowAnswer). v.window) (sym w),
      )

  -- a window within it
  pub answer_inside : p + many ≤ nodes (rules_of file) → (n : ℕ) (out : List ℕ) → out ≡ take many (drop p (tree_of (rules_of file)))
      → (query_answer (reading_is (Ok n)) ≡ (window_at file p many).answer) × (out ≡ (window_at file p many).window)
  answer_inside h n out o =
      let w = window_inside file p many (rules_of file) (named d).is h in
      (ap (λ (v : WindowAnswer). v.answer) (sym w), o ∙ ap (λ (v : WindowAnswer). v.window) (sym w))
