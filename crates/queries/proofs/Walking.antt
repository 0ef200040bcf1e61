-- A walk over pieces: the words of a gap from an offset on, with a pile of places to come back to.
use Prim.Native.Nat.{ℕ, zero, suc, ◌+◌, ◌*◌, ◌-◌, ◌/◌, ◌≤◌, ◌<◌}
use native.Mathlib.Omega.{arith}
use native.Mathlib.Nat.{add-zero}
use mathlib.Core.Path.{◌≡◌, refl, sym, ap, ap₂, subst, ◌∙◌}
use mathlib.Core.Bool.{Bool, true, false}
use mathlib.Core.List.{List, [], ◌∷◌, ◌++◌, append-nil, append_assoc, head-eq_of_cons-eq, tail-eq_of_cons-eq}
use lib.Dec.{T, ltb}
use lib.ListN.{length, drop, get_or, length-drop}
use lib.Seq.{drop-cons, drop-append-add, drop-nil}
use borrow.Author.Tests.{ne_eqb, lt-ltb, le-ltb}
use Rattle.laws.specs.Sums.{sum_of}
use Rattle.queries.specs.Pieces.{stop, unstopped, up_to, meant, spelled, Run, Slice, Spelled}
use Rattle.queries.proofs.Stops.{up_to_on}
use Rattle.queries.proofs.Spelling.{Agree, part_more}

-- the places to come back to, d of them, with the words that follow from there
abbrev pub Pile : (ℕ → List ℕ) → List ℕ → ℕ → ℕ → List ℕ → ℕ → List ℕ → Type 0
Pile G P n top Fr zero ws = ws ≡ []
Pile G P n top Fr (suc d) ws = (us : List ℕ) × (vs : List ℕ) × Slice G P (n - 1 - d) (get_or Fr d 0) top us × Pile G P n top Fr d vs × (ws ≡ us ++ vs)

-- at the place i, with d places to come back to and so many words to skip, what follows is the tree from `at` on
pub record Walking (G : ℕ → List ℕ) (P : List ℕ) (n top : ℕ) (Fr tree : List ℕ) (i d skip at : ℕ) : Type 0 where
  pub us : List ℕ
  pub vs : List ℕ
  pub slice : Slice G P (n - 1 - d) i top us
  pub pile : Pile G P n top Fr d vs
  pub rest : drop skip (us ++ vs) ≡ drop at tree

pub pile_agree : (G : ℕ → List ℕ) (P : List ℕ) (n top : ℕ) (Fr Fr' : List ℕ) (d : ℕ) (ws : List ℕ) → Agree d Fr' Fr → Pile G P n top Fr d ws → Pile G P n top Fr' d ws
pile_agree G P n top Fr Fr' zero ws a p = p
pile_agree G P n top Fr Fr' (suc d) ws a p = (
  p.0,
  p.1,
  subst (λ (i : ℕ). Slice G P (n - 1 - d) i top p.0) (sym (a d (omega arith))) p.2,
  pile_agree G P n top Fr Fr' d p.1 (λ j h. a j (omega arith)) p.3,
  p.4,
)

pub walking_agree : {G : ℕ → List ℕ} {P : List ℕ} {n top : ℕ} {Fr tree : List ℕ} {i d skip at : ℕ} (Fr' : List ℕ) → Agree d Fr' Fr → Walking G P n top Fr tree i d skip at → Walking G P n top Fr' tree i d skip at
walking_agree {G} {P} {n} {top} {Fr} {tree} {i} {d} Fr' a x = record { us = x.us; vs = x.vs; slice = x.slice; pile = pile_agree G P n top Fr Fr' d x.vs a x.pile; rest = x.rest }

pub slice_more : {G : ℕ → List ℕ} {P : List ℕ} {b i top : ℕ} {us : List ℕ} (b' : ℕ) → b ≤ b' → Slice G P b i top us → Slice G P b' i top us
slice_more b' h s = record { end = s.end; part = part_more b' h s.part; below = s.below; stops = s.stops }

pub walking_start : (G : ℕ → List ℕ) (P S sizes : List ℕ) (n top : ℕ) (Fr : List ℕ) (p : ℕ) → 1 ≤ n → 1 ≤ length (G (5 * (n - 1))) → Spelled G n top P S sizes
    → Walking G P n top Fr (G (5 * (n - 1))) (get_or S (5 * (n - 1)) 0) 0 p p
walking_start G P S sizes n top Fr p h l s =
    record {
      us = G (5 * (n - 1));
      vs = [];
      slice = slice_more (n - 1 - 0) (omega arith) (s.slices (5 * (n - 1)) (omega arith) l);
      pile = refl;
      rest = ap (drop p) (append-nil (G (5 * (n - 1))));
    }

-- what stands at a place of a slice: its stop, or a piece with the slice after it
pub data View (G : ℕ → List ℕ) (P : List ℕ) (b i top : ℕ) (us : List ℕ) : Type 0 where
  ended : get_or P i 0 ≡ stop → us ≡ [] → View G P b i top us
  on : (ws : List ℕ) → get_or P i 0 < 32768 + 5 * b → us ≡ meant G (get_or P i 0) ++ ws → Slice G P b (suc i) top ws → View G P b i top us

pub view : {G : ℕ → List ℕ} {P : List ℕ} {b i top : ℕ} {us : List ℕ} → Slice G P b i top us → View G P b i top us
view {G} {P} {b} {i} {top} {us} s = go s.part.codes s.part.ends s.part.runs s.part.means
  where
    go : (cs : List ℕ) → i + length cs ≡ s.end → Run P b i cs → spelled G cs ≡ us → View G P b i top us
    go [] e r m = ended (ap (λ (j : ℕ). get_or P j 0) (sym (add-zero i) ∙ e) ∙ s.stops) (sym m)
    go (c ∷ cs) e r m =
        let q : get_or P i 0 ≡ c = r.0 in
        let l : c < 32768 + 5 * b = r.1 in
        let f : suc i + length cs ≡ s.end = omega arith in
        on (spelled G cs) (omega arith) (sym m ∙ ap (λ (c : ℕ). meant G c ++ spelled G cs) (sym q))
        (record { end = s.end; part = record { codes = cs; ends = f; runs = r.2; means = refl }; below = s.below; stops = s.stops })

pub place_below : {G : ℕ → List ℕ} {P : List ℕ} {b i top : ℕ} {us : List ℕ} → Slice G P b i top us → i < top
place_below s = omega (arith, s.below, s.part.ends)

module _ {G : ℕ → List ℕ} {P : List ℕ} {n top : ℕ} {Fr tree : List ℕ} {i d skip at : ℕ} (few : n ≤ 256) (x : Walking G P n top Fr tree i d skip at) where
  -- a stop: there is a place to come back to
  pub walk_pop : get_or P i 0 ≡ stop → at < length tree → (0 < d) × Walking G P n top Fr tree (get_or Fr (d - 1) 0) (d - 1) skip at
  walk_pop e h = go (view x.slice) d refl x.pile
    where
      go : View G P (n - 1 - d) i top x.us → (d' : ℕ) → d ≡ d' → Pile G P n top Fr d' x.vs → (0 < d) × Walking G P n top Fr tree (get_or Fr (d - 1) 0) (d - 1) skip at
      go (on ws l f s) d' q p = absurd (omega arith)
      go (ended _ f) zero q p =
          let z : drop skip (x.us ++ x.vs) ≡ [] = ap₂ (λ a b. drop skip (a ++ b)) f p ∙ drop-nil skip in
          let y : length (drop at tree) ≡ 0 = ap length (sym x.rest ∙ z) in
          absurd (omega (arith, length-drop at tree))
      go (ended _ f) (suc d') q p =
          let k : d - 1 ≡ d' = omega arith in (
            omega arith,
            subst (λ (j : ℕ). Walking G P n top Fr tree (get_or Fr j 0) j skip at) (sym k)
                (record { us = p.0; vs = p.1; slice = p.2; pile = p.3; rest = ap (drop skip) (sym p.4 ∙ ap (λ (l : List ℕ). l ++ x.vs) (sym f)) ∙ x.rest }),
          )

  -- a word, to be given or to be skipped
  pub walk_word : get_or P i 0 < 32768 → skip ≡ 0 → at < length tree → (get_or tree at 0 ≡ get_or P i 0) × Walking G P n top Fr tree (suc i) d 0 (suc at)
  walk_word l z h = go (view x.slice)
    where
      go : View G P (n - 1 - d) i top x.us → (get_or tree at 0 ≡ get_or P i 0) × Walking G P n top Fr tree (suc i) d 0 (suc at)
      go (ended e f) = absurd (omega arith)
      go (on ws k f s) =
          let one : meant G (get_or P i 0) ≡ get_or P i 0 ∷ [] = rw (lt-ltb (get_or P i 0) 32768 l) in
          let whole : get_or P i 0 ∷ (ws ++ x.vs) ≡ get_or tree at 0 ∷ drop (suc at) tree =
          ap (λ (a : List ℕ). (a ++ ws) ++ x.vs) (sym one) ∙ ap (λ (l : List ℕ). l ++ x.vs) (sym f)
          ∙ ap (λ (k : ℕ). drop k (x.us ++ x.vs)) (sym z) ∙ x.rest ∙ drop-cons tree at 0 h in (
            sym (head-eq_of_cons-eq whole),
            record { us = ws; vs = x.vs; slice = s; pile = x.pile; rest = tail-eq_of_cons-eq whole },
          )

  pub walk_past : get_or P i 0 < 32768 → 0 < skip → Walking G P n top Fr tree (suc i) d (skip - 1) at
  walk_past l h = go (view x.slice)
    where
      go : View G P (n - 1 - d) i top x.us → Walking G P n top Fr tree (suc i) d (skip - 1) at
      go (ended e f) = absurd (omega arith)
      go (on ws k f s) =
          let one : meant G (get_or P i 0) ≡ get_or P i 0 ∷ [] = rw (lt-ltb (get_or P i 0) 32768 l) in
          let q : suc (skip - 1) ≡ skip = omega arith in
          record {
            us = ws;
            vs = x.vs;
            slice = s;
            pile = x.pile;
            rest = ap (λ (a : List ℕ). drop (suc (skip - 1)) ((a ++ ws) ++ x.vs)) (sym one) ∙ ap₂ (λ k l. drop k (l ++ x.vs)) q (sym f) ∙ x.rest;
          }

  -- a gap that is skipped whole
  pub walk_over : 32768 ≤ get_or P i 0 → (get_or P i 0 ≡ stop → ⊥) → length (G (get_or P i 0 - 32768)) ≤ skip → Walking G P n top Fr tree (suc i) d (skip - length (G (get_or P i 0 - 32768))) at
  walk_over l u h = go (view x.slice)
    where
      g : ℕ
      g = get_or P i 0 - 32768

      go : View G P (n - 1 - d) i top x.us → Walking G P n top Fr tree (suc i) d (skip - length (G g)) at
      go (ended e f) = absurd (u e)
      go (on ws k f s) =
          let one : meant G (get_or P i 0) ≡ G g = rw (le-ltb (get_or P i 0) 32768 l) in
          let q : length (G g) + (skip - length (G g)) ≡ skip = omega arith in
          record {
            us = ws;
            vs = x.vs;
            slice = s;
            pile = x.pile;
            rest = sym (drop-append-add (G g) (ws ++ x.vs) (skip - length (G g))) ∙ ap₂ drop q (sym (append_assoc (G g) ws x.vs) ∙ ap (λ (a : List ℕ). (a ++ ws) ++ x.vs) (sym one) ∙ ap (λ (l : List ℕ). l ++ x.vs) (sym f)) ∙ x.rest;
          }

  -- a gap that is gone into
  pub walk_into : {S sizes : List ℕ} → Spelled G n top P S sizes → (Fr' : List ℕ) → Agree d Fr' Fr → get_or Fr' d 0 ≡ suc i
      → 32768 ≤ get_or P i 0 → (get_or P i 0 ≡ stop → ⊥) → skip < length (G (get_or P i 0 - 32768))
      → (suc d < n) × (get_or P i 0 - 32768 < 5 * n) × Walking G P n top Fr' tree (get_or S (get_or P i 0 - 32768) 0) (suc d) skip at
  walk_into {S} {sizes} sp Fr' a b l u h = go (view x.slice)
    where
      g : ℕ
      g = get_or P i 0 - 32768

      go : View G P (n - 1 - d) i top x.us → (suc d < n) × (g < 5 * n) × Walking G P n top Fr' tree (get_or S g 0) (suc d) skip at
      go (ended e f) = absurd (u e)
      go (on ws k f s) =
          let one : meant G (get_or P i 0) ≡ G g = rw (le-ltb (get_or P i 0) 32768 l) in
          let t : Slice G P (g / 5) (get_or S g 0) top (G g) = sp.slices g (omega arith) (omega arith) in (
            omega arith,
            omega arith,
            record {
              us = G g;
              vs = ws ++ x.vs;
              slice = slice_more (n - 1 - suc d) (omega arith) t;
              pile = (ws, x.vs, subst (λ (j : ℕ). Slice G P (n - 1 - d) j top ws) (sym b) s, pile_agree G P n top Fr Fr' d x.vs a x.pile, refl);
              rest = ap (drop skip) (sym (append_assoc (G g) ws x.vs) ∙ ap (λ (a : List ℕ). (a ++ ws) ++ x.vs) (sym one) ∙ ap (λ (l : List ℕ). l ++ x.vs) (sym f)) ∙ x.rest;
            },
          )

-- The steps that a walk may take: one for each word, two for each gap besides its own, and one for each place to come back to. Gaps name only gaps of rules below b.
abbrev pub cost : List ℕ → List ℕ → ℕ → ℕ → ℕ
cost P S zero c = 1
cost P S (suc b) c = elim (ltb c 32768) [ true ↦ 1 | false ↦ suc (suc (sum_of (cost P S b) (up_to (drop (get_or S (c - 32768) 0) P)))) ]

abbrev pub slice_cost : List ℕ → List ℕ → ℕ → ℕ → ℕ
slice_cost P S b i = suc (sum_of (cost P S b) (up_to (drop i P)))

abbrev pub pile_cost : List ℕ → List ℕ → ℕ → List ℕ → ℕ → ℕ
pile_cost P S n Fr zero = 0
pile_cost P S n Fr (suc d) = slice_cost P S (n - 1 - d) (get_or Fr d 0) + pile_cost P S n Fr d

abbrev pub walk_cost : List ℕ → List ℕ → ℕ → List ℕ → ℕ → ℕ → ℕ
walk_cost P S n Fr i d = slice_cost P S (n - 1 - d) i + pile_cost P S n Fr d

cost_some : (P S : List ℕ) (b c : ℕ) → 1 ≤ cost P S b c
cost_some P S zero c = omega arith
cost_some P S (suc b) c = go (ltb c 32768)
  where
    go : (t : Bool) → 1 ≤ elim t [ true ↦ 1 | false ↦ suc (suc (sum_of (cost P S b) (up_to (drop (get_or S (c - 32768) 0) P)))) ]
    go true = omega arith
    go false = omega arith

cost_gap : (P S : List ℕ) (b c : ℕ) → 32768 ≤ c → cost P S (suc b) c ≡ suc (slice_cost P S b (get_or S (c - 32768) 0))
cost_gap P S b c l = rw (le-ltb c 32768 l, cost)

pub pile_cost_agree : (P S : List ℕ) (n : ℕ) (Fr Fr' : List ℕ) (d : ℕ) → Agree d Fr' Fr → pile_cost P S n Fr' d ≡ pile_cost P S n Fr d
pile_cost_agree P S n Fr Fr' zero a = refl
pile_cost_agree P S n Fr Fr' (suc d) a =
    ap₂ (λ i s. slice_cost P S (n - 1 - d) i + s) (a d (omega arith)) (pile_cost_agree P S n Fr Fr' d (λ j h. a j (omega arith)))

-- the pieces from a place on, where there is no stop: the piece there first
codes_on : (P : List ℕ) (i : ℕ) → i < length P → (get_or P i 0 ≡ stop → ⊥) → up_to (drop i P) ≡ get_or P i 0 ∷ up_to (drop (suc i) P)
codes_on P i h u =
    let t : T (unstopped (get_or P i 0)) = rw (ne_eqb (get_or P i 0) stop u) tt in
    ap up_to (drop-cons P i 0 h) ∙ up_to_on (get_or P i 0) (drop (suc i) P) t

pub cost_pop : (P S : List ℕ) (n : ℕ) (Fr : List ℕ) (i d : ℕ) → i < length P → get_or P i 0 ≡ stop → 0 < d → walk_cost P S n Fr (get_or Fr (d - 1) 0) (d - 1) < walk_cost P S n Fr i d
cost_pop P S n Fr i zero h e k = absurd (omega arith)
cost_pop P S n Fr i (suc d) h e k =
    let q : suc d - 1 ≡ d = omega arith in
    subst (λ (j : ℕ). walk_cost P S n Fr (get_or Fr j 0) j < walk_cost P S n Fr i (suc d)) (sym q) (omega arith)

pub cost_on : (P S : List ℕ) (n : ℕ) (Fr : List ℕ) (i d : ℕ) → i < length P → (get_or P i 0 ≡ stop → ⊥) → walk_cost P S n Fr (suc i) d < walk_cost P S n Fr i d
cost_on P S n Fr i d h u =
    let e : sum_of (cost P S (n - 1 - d)) (up_to (drop i P)) ≡ cost P S (n - 1 - d) (get_or P i 0) + sum_of (cost P S (n - 1 - d)) (up_to (drop (suc i) P)) = ap (sum_of (cost P S (n - 1 - d))) (codes_on P i h u) in
    omega (arith, cost_some P S (n - 1 - d) (get_or P i 0))

pub cost_into : (P S : List ℕ) (n : ℕ) (Fr Fr' : List ℕ) (i d : ℕ) → i < length P → (get_or P i 0 ≡ stop → ⊥) → 32768 ≤ get_or P i 0 → suc d < n → Agree d Fr' Fr → get_or Fr' d 0 ≡ suc i
    → walk_cost P S n Fr' (get_or S (get_or P i 0 - 32768) 0) (suc d) < walk_cost P S n Fr i d
cost_into P S n Fr Fr' i d h u l k a b =
    let g = get_or P i 0 - 32768 in
    let e : sum_of (cost P S (n - 1 - d)) (up_to (drop i P)) ≡ cost P S (n - 1 - d) (get_or P i 0) + sum_of (cost P S (n - 1 - d)) (up_to (drop (suc i) P)) = ap (sum_of (cost P S (n - 1 - d))) (codes_on P i h u) in
    let f : cost P S (n - 1 - d) (get_or P i 0) ≡ suc (slice_cost P S (n - 1 - suc d) (get_or S g 0)) =
    ap (λ (b : ℕ). cost P S b (get_or P i 0)) (let q : n - 1 - d ≡ suc (n - 1 - suc d) = omega arith in q) ∙ cost_gap P S (n - 1 - suc d) (get_or P i 0) l in
    let o : slice_cost P S (n - 1 - d) (get_or Fr' d 0) ≡ slice_cost P S (n - 1 - d) (suc i) = ap (slice_cost P S (n - 1 - d)) b in
    let p = pile_cost_agree P S n Fr Fr' d a in
    omega arith
