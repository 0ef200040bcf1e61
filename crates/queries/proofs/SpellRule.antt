-- The turns over a rule's body: what holds before each word, and how it holds again after it.
use Prim.Native.Nat.{ℕ, suc, ◌+◌, ◌*◌, ◌/◌, ◌≤◌, ◌<◌}
use native.Mathlib.Omega.{arith}
use native.Mathlib.Nat.{add-zero}
use mathlib.Core.Path.{◌≡◌, refl, sym, ap, subst, ◌∙◌}
use mathlib.Core.Bool.{true}
use mathlib.Core.List.{List, [], ◌∷◌, ◌++◌}
use lib.Dec.{T}
use lib.ListN.{length, drop, get_or, set, length-set, length-drop, drop_of_length-le}
use lib.Seq.{get_or-set_same, get_or-set_other}
use Rattle.std.proofs.lemmas.List.Elements.{All-nil}
use Rattle.model.specs.Words.{rank_of, is_parameter}
use Rattle.model.specs.Trees.{all, those, is_legal, fold, join}
use Rattle.laws.specs.Formed.{Fits}
use Rattle.laws.specs.Sums.{sum_of}
use Rattle.laws.proofs.Words.Lists.{all_cons}
use Rattle.laws.proofs.Trees.Folds.{length_fold}
use Rattle.laws.proofs.Trees.Fills.{those_in}
use Rattle.queries.specs.declared.pieces.Open.{Open}
use Rattle.queries.specs.Pieces.{stop, after, Slice, Spelled, due, next_gap, Entry, Entries, all_wanted, Closes, Closable, spelled, over, first_gap, own, own_gap, own_starts, up_to, past_all}
use Rattle.queries.proofs.Spelling.{spelled_agree, append_agree, length_put}
use Rattle.queries.proofs.Closing.{Now, wanted_put, length_open, entries_put}
use Rattle.queries.proofs.RuleSpelled.{Spelling, spelling_start, own_step, close_step, spelling_end}
use Rattle.queries.proofs.SpellTurns.{starts_length, starts_agree, own_grown, starts_low_set, starts_low, own_gap_lem, gap_offset, first_small, first_entry, own_room}

-- before the word at i of a rule's body: the pieces, after top₀ of the rules below, the gap whose pieces are put, and the words that are open
pub record Turn (G : ℕ → List ℕ) (ranks X body : List ℕ) (r top₀ : ℕ) (sizes P S : List ℕ) (O : List Open) (gap i : ℕ) : Type 0 where
  pub starts_long : length S ≡ 1280
  pub m : ℕ
  pub gap_is : gap ≡ 5 * r + m
  pub few : m + length (those is_parameter (drop i body)) ≤ 4
  pub within : i ≤ length body
  pub deep : length O ≤ i
  pub entries : Entries r O
  pub low : (g : ℕ) → get_or S g 0 ≤ length P
  pub grown : top₀ ≤ length P
  pub room : length P + all_wanted O + sum_of (λ w. suc (rank_of ranks w)) (drop i body) < top₀ + 2 * length body
  pub legal : T (all (is_legal r) (drop i body))
  pub fits : Fits (rank_of ranks) 0 (drop i body)
  pub lower : Spelled G r top₀ P S sizes
  pub spelling : Spelling after G r X P S O m (fold (rank_of ranks) (over G (rank_of ranks)) (drop i body) [])

-- the pieces of a gap that has words stand below the place `top`
slice_low : {G : ℕ → List ℕ} {r top : ℕ} {P S sizes : List ℕ} → Spelled G r top P S sizes → (g : ℕ) → g < 5 * r → 1 ≤ get_or sizes g 0 → get_or S g 0 + 1 < top
slice_low {G} {r} {top} {P} {S} {sizes} x g h k = go s s.part.codes s.part.ends s.part.means
  where
    some : 1 ≤ length (G g)
    some = omega (arith, x.measured g h)

    s : Slice G P (g / 5) (get_or S g 0) top (G g)
    s = x.slices g h some

    go : (y : Slice G P (g / 5) (get_or S g 0) top (G g)) → (cs : List ℕ) → get_or S g 0 + length cs ≡ y.end → spelled G cs ≡ G g → get_or S g 0 + 1 < top
    go y [] e m = absurd (omega (arith, some, ap length m))
    go y (c ∷ cs) e m = omega (arith, y.below)

module _ {G : ℕ → List ℕ} {ranks X body : List ℕ} {r top₀ : ℕ} {sizes : List ℕ}
    (small : (j : ℕ) → get_or ranks j 0 ≤ 4) (low_rule : r < 256) (all_room : top₀ + 2 * length body + 18 ≤ 16384)
    (gaps : (c : ℕ) → c < 5 → G (5 * r + c) ≡ up_to (past_all c X)) (wide : 1280 ≤ length sizes) where
  module _ {P S : List ℕ} {O : List Open} {gap i : ℕ} (x : Turn G ranks X body r top₀ sizes P S O gap i) (w : ℕ) (q : drop i body ≡ w ∷ drop (i + 1) body) where
    abbrev rest : List ℕ
    rest = drop (i + 1) body

    abbrev F : List (List ℕ)
    F = fold (rank_of ranks) (over G (rank_of ranks)) rest []

    legal_both : T (is_legal r w) × T (all (is_legal r) rest)
    legal_both = all_cons (is_legal r) w rest (subst (λ (l : List ℕ). T (all (is_legal r) l)) q x.legal)

    fits_both : Fits (rank_of ranks) 0 (w ∷ rest)
    fits_both = subst (Fits (rank_of ranks) 0) q x.fits

    room_here : length P + all_wanted O + (suc (rank_of ranks w) + sum_of (λ w. suc (rank_of ranks w)) rest) < top₀ + 2 * length body
    room_here = subst (λ (l : List ℕ). length P + all_wanted O + sum_of (λ w. suc (rank_of ranks w)) l < top₀ + 2 * length body) q x.room

    there : suc i ≤ length body
    there = omega (arith, ap length q, length-drop i body)

    pub put_fits : length P < 16384
    put_fits = omega (arith, room_here, all_room)

    few_here : x.m + length (those is_parameter (w ∷ rest)) ≤ 4
    few_here = subst (λ (l : List ℕ). x.m + length (those is_parameter l) ≤ 4) q x.few

    param_few : is_parameter w ≡ true → x.m < 4
    param_few e = omega (arith, few_here, ap length (those_in is_parameter w rest e))

    pub start_fits : (gap < 1280) × (own_gap w gap < 1280)
    start_fits = (omega (arith, x.gap_is, x.few), omega (arith, ap (own_gap w) x.gap_is, gap_offset w (5 * r) x.m, own_gap_lem w x.m rest, few_here))

    pub open_fits : length O < 8192
    open_fits = omega (arith, x.deep, there, all_room)

    pub first_fits : first_gap w ≤ 1280
    first_fits = first_small w r (omega arith) legal_both.0

    own_P : (length P ≤ length (P ++ own w)) × (length (P ++ own w) ≤ length P + 1)
    own_P = own_grown w P

    -- the word's own piece is put, and it is open
    module _ (e : Open) (gap_e : next_gap e ≡ first_gap w) (due_e : due e ≡ suc (rank_of ranks w)) where
      abbrev P₁ : List ℕ
      P₁ = P ++ own w

      abbrev S₁ : List ℕ
      S₁ = own_starts w S gap (length P₁)

      abbrev O₁ : List Open
      O₁ = O ++ e ∷ []

      entries_O : Entries r O₁
      entries_O = entries_put r O e x.entries (first_entry w ranks r e small (omega arith) legal_both.0 gap_e due_e)

      room_O : length P₁ + all_wanted O₁ ≤ length P + all_wanted O + suc (rank_of ranks w)
      room_O = omega (arith, wanted_put O e, own_room w ranks r P e (omega arith) legal_both.0 gap_e due_e)

      lower₁ : Spelled G r top₀ P₁ S₁ sizes
      lower₁ =
          spelled_agree P₁ S₁ top₀ (omega arith) (λ j h. append_agree P (own w) j (omega (arith, x.grown)))
          (λ g h. starts_agree w S gap (length P₁) g (omega (arith, x.gap_is))) x.lower

      pub closable : Closable sizes S₁ P₁ O₁
      closable =
          record {
            rules = r;
            few = omega arith;
            wide = wide;
            low = λ g h k. omega (arith, slice_low lower₁ g h k, x.grown, own_P);
            deep = omega (arith, open_fits, length_open O e);
            entries = entries_O;
            room = omega (arith, room_O, room_here, all_room);
          }

      spelling₁ : Spelling Now G r X P₁ S₁ O₁ (own_gap w x.m) F
      spelling₁ =
          subst (λ (g : ℕ). Spelling Now G r X P₁ (own_starts w S g (length P₁)) O₁ (own_gap w x.m) F) (sym x.gap_is)
          (own_step G r X gaps x.lower.plain (rank_of ranks) r w P S O e x.m F legal_both.0
          (omega (arith, fits_both.0, length_fold (rank_of ranks) (over G (rank_of ranks)) rest [])) gap_e due_e param_few (omega (arith, x.starts_long))
          (subst (λ (l : List ℕ). Spelling after G r X P S O x.m (fold (rank_of ranks) (over G (rank_of ranks)) l [])) q x.spelling))

      pub turned : {P₂ : List ℕ} {O₂ : List Open} → Closes after S₁ sizes P₁ O₁ P₂ O₂ → Turn G ranks X body r top₀ sizes P₂ S₁ O₂ (own_gap w gap) (i + 1)
      turned {P₂} {O₂} c =
          record {
            starts_long = starts_length w S gap (length P₁) ∙ x.starts_long;
            m = own_gap w x.m;
            gap_is = ap (own_gap w) x.gap_is ∙ gap_offset w (5 * r) x.m;
            few = omega (arith, own_gap_lem w x.m rest, few_here);
            within = omega (arith, there);
            deep = omega (arith, c.lower, x.deep, length_open O e);
            entries = c.entries r entries_O;
            low = λ g. omega (arith, starts_low w S gap (length P₁) (λ j. omega (arith, x.low j, own_P)) g, c.grown);
            grown = omega (arith, x.grown, own_P, c.grown);
            room = omega (arith, c.room, room_O, room_here);
            legal = legal_both.1;
            fits = fits_both.1;
            lower = spelled_agree P₂ S₁ top₀ (omega arith) (λ j h. c.kept j (omega (arith, x.grown, own_P))) (λ g h. refl) lower₁;
            spelling = close_step G r X gaps x.lower.plain P₁ S₁ O₁ P₂ O₂ sizes (own_gap w x.m) top₀ F (omega arith) (omega (arith, x.grown, own_P)) entries_O lower₁ c spelling₁;
          }

  -- before the first word, where the rule's first gap starts
  pub turn_start : (P S : List ℕ) → length P ≡ top₀ → length S ≡ 1280 → ((g : ℕ) → get_or S g 0 ≤ top₀) → Spelled G r top₀ P S sizes
      → length (those is_parameter body) ≤ 4 → T (all (is_legal r) body) → Fits (rank_of ranks) 0 body → sum_of (λ w. suc (rank_of ranks w)) body < 2 * length body
      → X ≡ join (fold (rank_of ranks) (over G (rank_of ranks)) body [])
      → Turn G ranks X body r top₀ sizes P (set S (5 * r) top₀) [] (5 * r) 0
  turn_start P S lp ls low s p l f n e =
      record {
        starts_long = length-set S (5 * r) top₀ ∙ ls;
        m = 0;
        gap_is = sym (add-zero (5 * r));
        few = omega arith;
        within = omega arith;
        deep = omega arith;
        entries = All-nil (Entry r);
        low = λ g. omega (arith, starts_low_set S (5 * r) top₀ low g);
        grown = omega arith;
        room = omega arith;
        legal = l;
        fits = f;
        lower = spelled_agree P (set S (5 * r) top₀) top₀ (omega arith) (λ j h. refl) (λ g h. get_or-set_other S (5 * r) g top₀ 0 (omega arith)) s;
        spelling = spelling_start G r X P (set S (5 * r) top₀) (fold (rank_of ranks) (over G (rank_of ranks)) body []) e (get_or-set_same S (5 * r) top₀ 0 (omega arith) ∙ sym lp);
      }

  -- after the last word
  module _ {P S : List ℕ} {O : List Open} {gap i : ℕ} (x : Turn G ranks X body r top₀ sizes P S O gap i) (over_all : length body ≤ i) where
    all_passed : drop i body ≡ []
    all_passed = drop_of_length-le body over_all

    end_room : length P + 1 ≤ top₀ + 2 * length body
    end_room = omega (arith, x.room)

    pub end_fits : length P < 16384
    end_fits = omega (arith, end_room, all_room)

    pub rule_done : ((c : ℕ) → c < 5 → get_or sizes (5 * r + c) 0 ≡ length (G (5 * r + c)))
        → Spelled G (suc r) (length (P ++ stop ∷ [])) (P ++ stop ∷ []) S sizes × ((g : ℕ) → get_or S g 0 ≤ length (P ++ stop ∷ [])) × (length (P ++ stop ∷ []) ≤ top₀ + 2 * length body)
    rule_done size = (
      spelling_end G r X gaps x.lower.plain P S O sizes x.m top₀ (omega (arith, x.few)) x.grown size x.lower
          (subst (λ (l : List ℕ). Spelling after G r X P S O x.m (fold (rank_of ranks) (over G (rank_of ranks)) l [])) all_passed x.spelling),
      λ g. omega (arith, x.low g, length_put P stop),
      omega (arith, end_room, length_put P stop),
    )
