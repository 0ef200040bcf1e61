-- Pieces that stand in a list: put one after the other, kept where others are put, and what they spell.
use Prim.Native.Nat.{ℕ, suc, ◌+◌, ◌*◌, ◌-◌, ◌/◌, ◌≤◌, ◌<◌}
use native.Mathlib.Omega.{arith}
use native.Mathlib.Nat.{add-zero}
use native.Mathlib.Numerals.{add-one}
use mathlib.Core.Logic.{◌⊎◌, inl, inr}
use mathlib.Core.Path.{◌≡◌, refl, sym, ap, ap₂, subst, ◌∙◌}
use mathlib.Core.Bool.{Bool, true, false}
use mathlib.Core.List.{List, [], ◌∷◌, ◌++◌, append-nil, append_assoc}
use lib.Dec.{T, leb, ltb, eqb}
use lib.Ieee.Fits.{and_i}
use lib.ListN.{length, get_or, length-append, get_or-append}
use lib.Seq.{get_or-append_seam}
use Rattle.std.specs.Prelude.{Option, Some, None, option_to_list}
use borrow.Author.Tests.{leb-true, leb-false, ltb-true, eqb-true, eqb-false, le-ltb, le-leb}
use Rattle.model.specs.Trees.{all}
use Rattle.laws.proofs.Words.Lists.{all_append}
use Rattle.queries.specs.Pieces.{stop, unstopped, meant, spelled, Run, Part, Slice, Spelled, code_for}
use Rattle.queries.proofs.Stops.{small_unstopped}

-- two lists that agree below a place
abbrev pub Agree : ℕ → List ℕ → List ℕ → Type 0
Agree top P' P = (j : ℕ) → j < top → get_or P' j 0 ≡ get_or P j 0

pub run_agree : (P P' : List ℕ) (b i top : ℕ) (cs : List ℕ) → Agree top P' P → i + length cs ≤ top → Run P b i cs → Run P' b i cs
run_agree P P' b i top [] a h r = tt
run_agree P P' b i top (c ∷ cs) a h r = (a i (omega arith) ∙ r.0, r.1, run_agree P P' b (suc i) top cs a (omega arith) r.2)

pub run_more : (P : List ℕ) (b b' i : ℕ) (cs : List ℕ) → b ≤ b' → Run P b i cs → Run P b' i cs
run_more P b b' i [] h r = tt
run_more P b b' i (c ∷ cs) h r = (r.0, omega (arith, r.1), run_more P b b' (suc i) cs h r.2)

pub run_append : (P : List ℕ) (b i : ℕ) (cs ds : List ℕ) → Run P b i cs → Run P b (i + length cs) ds → Run P b i (cs ++ ds)
run_append P b i [] ds r s = subst (λ k. Run P b k ds) (add-zero i) s
run_append P b i (c ∷ cs) ds r s =
    let e : i + suc (length cs) ≡ suc i + length cs = omega arith in
    (r.0, r.1, run_append P b (suc i) cs ds r.2 (subst (λ k. Run P b k ds) e s))

pub spelled_append : (G : ℕ → List ℕ) (cs ds : List ℕ) → spelled G (cs ++ ds) ≡ spelled G cs ++ spelled G ds
spelled_append G [] ds = refl
spelled_append G (c ∷ cs) ds = rw (spelled_append G cs ds, append_assoc)

pub part_nil : (G : ℕ → List ℕ) (P : List ℕ) (b i : ℕ) → Part G P b i i []
part_nil G P b i = record { codes = []; ends = add-zero i; runs = tt; means = refl }

pub part_one : (G : ℕ → List ℕ) (P : List ℕ) (b i c : ℕ) → get_or P i 0 ≡ c → c < 32768 + 5 * b → Part G P b i (suc i) (meant G c)
part_one G P b i c e h = record { codes = c ∷ []; ends = add-one i; runs = (e, h, tt); means = append-nil (meant G c) }

pub part_join : {G : ℕ → List ℕ} {P : List ℕ} {b i j k : ℕ} {us vs : List ℕ} → Part G P b i j us → Part G P b j k vs → Part G P b i k (us ++ vs)
part_join {G} {P} {b} {i} {j} {k} p q =
    record {
      codes = p.codes ++ q.codes;
      ends = simp length-append (omega (arith, p.ends, q.ends));
      runs = run_append P b i p.codes q.codes p.runs (subst (λ x. Run P b x q.codes) (sym p.ends) q.runs);
      means = spelled_append G p.codes q.codes ∙ ap₂ (λ a b. a ++ b) p.means q.means;
    }

pub part_agree : {G : ℕ → List ℕ} {P : List ℕ} {b i j : ℕ} {us : List ℕ} (P' : List ℕ) → Agree j P' P → Part G P b i j us → Part G P' b i j us
part_agree {G} {P} {b} {i} {j} P' a p =
    record { codes = p.codes; ends = p.ends; runs = run_agree P P' b i j p.codes a (omega (arith, p.ends)) p.runs; means = p.means }

pub part_more : {G : ℕ → List ℕ} {P : List ℕ} {b i j : ℕ} {us : List ℕ} (b' : ℕ) → b ≤ b' → Part G P b i j us → Part G P b' i j us
part_more {G} {P} {b} {i} b' h p = record { codes = p.codes; ends = p.ends; runs = run_more P b b' i p.codes h p.runs; means = p.means }

pub slice_agree : {G : ℕ → List ℕ} {P : List ℕ} {b i top : ℕ} {us : List ℕ} (P' : List ℕ) (top' : ℕ) → top ≤ top' → Agree top P' P → Slice G P b i top us → Slice G P' b i top' us
slice_agree P' top' h a s =
    let l = s.below in
    record { end = s.end; part = part_agree P' (λ j k. a j (omega arith)) s.part; below = omega arith; stops = a s.end l ∙ s.stops }

pub spelled_agree : {G : ℕ → List ℕ} {n top : ℕ} {P S sizes : List ℕ} (P' S' : List ℕ) (top' : ℕ) → top ≤ top' → Agree top P' P → ((g : ℕ) → g < 5 * n → get_or S' g 0 ≡ get_or S g 0)
    → Spelled G n top P S sizes → Spelled G n top' P' S' sizes
spelled_agree {G} P' S' top' h a s x =
    record {
      none = x.none;
      plain = x.plain;
      measured = x.measured;
      slices = λ g k l. subst (λ (i : ℕ). Slice G P' (g / 5) i top' (G g)) (sym (s g k)) (slice_agree P' top' h a (x.slices g k l));
    }

-- pieces spell no stop
pub part_plain : {G : ℕ → List ℕ} {P : List ℕ} {b i j : ℕ} {us : List ℕ} → ((g : ℕ) → T (all unstopped (G g))) → Part G P b i j us → T (all unstopped us)
part_plain {G} {P} {b} {i} {j} {us} f p = subst (λ l. T (all unstopped l)) p.means (go p.codes)
  where
    one : (c : ℕ) → T (all unstopped (meant G c))
    one c = by (ltb c 32768) refl
      where
        by : (b : Bool) → ltb c 32768 ≡ b → T (all unstopped (meant G c))
        by true e = rw e (and_i (unstopped c) true (small_unstopped c (ltb-true c 32768 e)) tt)
        by false e = rw e (f (c - 32768))

    go : (cs : List ℕ) → T (all unstopped (spelled G cs))
    go [] = tt
    go (c ∷ cs) = all_append unstopped (meant G c) (spelled G cs) (one c) (go cs)

-- the piece for a gap spells it
pub data PieceFor (G : ℕ → List ℕ) (r g : ℕ) (o : Option ℕ) : Type 0 where
  nothing : o ≡ None → G g ≡ [] → PieceFor G r g o
  piece : (c : ℕ) → o ≡ Some c → c < 32768 + 5 * r → meant G c ≡ G g → PieceFor G r g o

no_words : (ws : List ℕ) → length ws ≡ 0 → ws ≡ []
no_words [] e = refl
no_words (w ∷ ws) e = absurd (omega arith)

module _ {G : ℕ → List ℕ} {r top : ℕ} {P S sizes : List ℕ} (x : Spelled G r top P S sizes) (small : r ≤ 256) where
  own_piece : (g : ℕ) → g < 5 * r → meant G (32768 + g) ≡ G g
  own_piece g h = let e : 32768 + g - 32768 ≡ g = omega arith in rw (le-ltb (32768 + g) 32768 (omega arith), e)

  single : (g : ℕ) → g < 5 * r → 1 ≤ length (G g) → get_or P (get_or S g 0 + 1) 0 ≡ stop → PieceFor G r g (Some (get_or P (get_or S g 0) 0))
  single g h l e = let s = x.slices g h l in go s.part.codes s.part.runs s.part.means
    where
      go : (cs : List ℕ) → Run P (g / 5) (get_or S g 0) cs → spelled G cs ≡ G g → PieceFor G r g (Some (get_or P (get_or S g 0) 0))
      go [] q m = absurd (omega (arith, ap length m))
      go (c ∷ []) q m = piece (get_or P (get_or S g 0) 0) refl (omega (arith, q.0, q.1)) (ap (meant G) q.0 ∙ sym (append-nil (meant G c)) ∙ m)
      go (c ∷ d ∷ cs) q m =
          let a : get_or P (suc (get_or S g 0)) 0 ≡ d = q.2.0 in
          let b : d < 32768 + 5 * (g / 5) = q.2.1 in
          let f : get_or P (suc (get_or S g 0)) 0 ≡ stop = ap (λ i. get_or P i 0) (sym (add-one (get_or S g 0))) ∙ e in
          absurd (omega arith)

  pub piece_for : (g : ℕ) → (g < 5 * r) ⊎ (1280 ≤ g) → PieceFor G r g (code_for sizes S P g)
  piece_for g k = go (leb 1280 g) (eqb (get_or sizes g 0) 0) (eqb (get_or P (get_or S g 0 + 1) 0) stop) refl refl refl k
    where
      go : (a b c : Bool) → leb 1280 g ≡ a → eqb (get_or sizes g 0) 0 ≡ b → eqb (get_or P (get_or S g 0 + 1) 0) stop ≡ c → (g < 5 * r) ⊎ (1280 ≤ g)
          → PieceFor G r g (elim a [ true ↦ None | false ↦ elim b [ true ↦ None | false ↦ elim c [ true ↦ Some (get_or P (get_or S g 0) 0) | false ↦ Some (32768 + g) ] ] ])
      go true b c d e f k = nothing refl (x.none g (leb-true 1280 g d))
      go false b c d e f (inr k) = absurd (omega (arith, leb-false 1280 g d))
      go false true c d e f (inl k) = nothing refl (no_words (G g) (sym (x.measured g k) ∙ eqb-true (get_or sizes g 0) 0 e))
      go false false true d e f (inl k) =
          let z : get_or sizes g 0 ≡ 0 → ⊥ = eqb-false (get_or sizes g 0) 0 e in
          single g k (omega (arith, x.measured g k)) (eqb-true (get_or P (get_or S g 0 + 1) 0) stop f)
      go false false false d e f (inl k) = piece (32768 + g) refl (omega arith) (own_piece g k)

-- pieces that are put after others leave them as they are
pub append_agree : (P cs : List ℕ) → Agree (length P) (P ++ cs) P
append_agree P cs j h = get_or-append P cs 0 j h

pub length_put : (P : List ℕ) (c : ℕ) → length (P ++ c ∷ []) ≡ suc (length P)
length_put P c = omega (arith, length-append P (c ∷ []))

-- a piece that was put spells its gap
pub part_put : {G : ℕ → List ℕ} {r g : ℕ} {o : Option ℕ} (P : List ℕ) → PieceFor G r g o → Part G (P ++ option_to_list o) r (length P) (length (P ++ option_to_list o)) (G g)
part_put {G} {r} {g} {o} P (nothing e f) =
    rw (e, f) (subst (λ (l : List ℕ). Part G l r (length P) (length l) []) (sym (append-nil P)) (part_nil G P r (length P)))
part_put {G} {r} {g} {o} P (piece c e l f) =
    let k : Part G (P ++ c ∷ []) r (length P) (suc (length P)) (meant G c) = part_one G (P ++ c ∷ []) r (length P) c (get_or-append_seam P c [] 0) l in
    rw e (subst (λ (i : ℕ). Part G (P ++ c ∷ []) r (length P) i (G g)) (sym (length_put P c)) (subst (λ (us : List ℕ). Part G (P ++ c ∷ []) r (length P) (suc (length P)) us) f k))

pub code_none : (sizes S P : List ℕ) (g : ℕ) → 1280 ≤ g → code_for sizes S P g ≡ None
code_none sizes S P g h = rw (le-leb 1280 g h, code_for)
