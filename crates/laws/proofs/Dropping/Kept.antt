-- Marks on a list: what is marked, in its order, where each stands then, and which marked rule calls which.
use Prim.Native.Nat.{ℕ, zero, suc, ◌+◌, ◌-◌, ◌≤◌, ◌<◌}
use mathlib.Core.Path.{◌≡◌, refl, sym, ap, ◌∙◌}
use mathlib.Core.Bool.{Bool, true, false, cond}
use mathlib.Core.List.{List, [], ◌∷◌, map}
use native.Mathlib.Nat.{add-zero}
use native.Mathlib.Omega.{arith}
use lib.Dec.{T, eqb, eqb→eq, eqb_refl}
use lib.ListN.{length, drop, get_or, length-map}
use lib.Seq.{take-length, get_or-drop}
use mir.Facts.{or_yes}
use mathlib.Core.Logic.{⊎_elim}
use Rattle.model.specs.Words.{call, class_of, when_call, renumbered}
use Rattle.model.specs.Trees.{Rule, ranks_of}
use Rattle.model.specs.Dropping.{calls, is_called, kept_from, how_many, kept_below, keep}
use Rattle.laws.specs.Formed.{body_at}
use Rattle.laws.proofs.Trees.Fills.{by_call, when_call_call, when_call_other}
use Rattle.laws.proofs.Trees.Renumbered.{renumbered_call}
use Rattle.laws.proofs.Words.Lists.{get_or_map}
use Rattle.laws.proofs.Words.Tests.{or_right, or_left}

-- those of a list that are marked
abbrev pub marked : {A : Type 0} → List Bool → List A → List A
marked [] xs = []
marked (k ∷ ks) [] = []
marked (true ∷ ks) (x ∷ xs) = x ∷ marked ks xs
marked (false ∷ ks) (x ∷ xs) = marked ks xs

pub length_marked : {A : Type 0} (ks : List Bool) (xs : List A) → length ks ≡ length xs → length (marked ks xs) ≡ how_many ks
length_marked [] xs h = refl
length_marked (k ∷ ks) [] h = absurd (omega arith)
length_marked (true ∷ ks) (x ∷ xs) h = ap suc (length_marked ks xs (omega arith))
length_marked (false ∷ ks) (x ∷ xs) h = length_marked ks xs (omega arith)

-- a marked one stands as far up as others are marked below it
pub marked_at : {A : Type 0} (ks : List Bool) (xs : List A) (j : ℕ) (d : A) → length ks ≡ length xs → get_or ks j false ≡ true → get_or (marked ks xs) (kept_below ks j) d ≡ get_or xs j d
marked_at [] xs j d h e = let z : ◌≡◌ {A = ℕ} 0 1 = cc in absurd (omega arith)
marked_at (k ∷ ks) [] j d h e = absurd (omega arith)
marked_at (true ∷ ks) (x ∷ xs) zero d h e = refl
marked_at (true ∷ ks) (x ∷ xs) (suc j) d h e = marked_at ks xs j d (omega arith) e
marked_at (false ∷ ks) (x ∷ xs) zero d h e = let z : ◌≡◌ {A = ℕ} 0 1 = cc in absurd (omega arith)
marked_at (false ∷ ks) (x ∷ xs) (suc j) d h e = marked_at ks xs j d (omega arith) e

-- every place up to how many there are is that of a marked one
pub marked_from : (ks : List Bool) (i : ℕ) → i < how_many ks → (j : ℕ) × (j < length ks) × (get_or ks j false ≡ true) × (kept_below ks j ≡ i)
marked_from [] i h = absurd (omega arith)
marked_from (true ∷ ks) zero h = (0, omega arith, refl, refl)
marked_from (true ∷ ks) (suc i) h = let r = marked_from ks i (omega arith) in (suc r.0, omega (arith, r.1), r.2, ap suc r.3)
marked_from (false ∷ ks) i h = let r = marked_from ks i h in (suc r.0, omega (arith, r.1), r.2, r.3)

pub below_less : (ks : List Bool) (i j : ℕ) → i < j → get_or ks i false ≡ true → kept_below ks i < kept_below ks j
below_less [] i j h e = let z : ◌≡◌ {A = ℕ} 0 1 = cc in absurd (omega arith)
below_less (k ∷ ks) i zero h e = absurd (omega arith)
below_less (true ∷ ks) zero (suc j) h e = omega arith
below_less (true ∷ ks) (suc i) (suc j) h e = omega (arith, below_less ks i j (omega arith) e)
below_less (false ∷ ks) zero (suc j) h e = let z : ◌≡◌ {A = ℕ} 0 1 = cc in absurd (omega arith)
below_less (false ∷ ks) (suc i) (suc j) h e = below_less ks i j (omega arith) e

pub below_suc : (ks : List Bool) (j : ℕ) → get_or ks j false ≡ true → kept_below ks (suc j) ≡ suc (kept_below ks j)
below_suc [] j e = let z : ◌≡◌ {A = ℕ} 0 1 = cc in absurd (omega arith)
below_suc (true ∷ ks) zero e = refl
below_suc (true ∷ ks) (suc j) e = ap suc (below_suc ks j e)
below_suc (false ∷ ks) zero e = let z : ◌≡◌ {A = ℕ} 0 1 = cc in absurd (omega arith)
below_suc (false ∷ ks) (suc j) e = below_suc ks j e

pub below_le : (ks : List Bool) (j : ℕ) → kept_below ks j ≤ j
below_le ks zero = omega arith
below_le [] (suc j) = omega arith
below_le (true ∷ ks) (suc j) = omega (arith, below_le ks j)
below_le (false ∷ ks) (suc j) = omega (arith, below_le ks j)

pub below_all : (ks : List Bool) → kept_below ks (length ks) ≡ how_many ks
below_all ks = ap how_many (take-length ks)

pub many_le : (ks : List Bool) → how_many ks ≤ length ks
many_le ks = omega (arith, below_all ks, below_le ks (length ks))

marked_in : (ks : List Bool) (j : ℕ) → get_or ks j false ≡ true → j < length ks
marked_in [] j e = let z : ◌≡◌ {A = ℕ} 0 1 = cc in absurd (omega arith)
marked_in (k ∷ ks) zero e = omega arith
marked_in (k ∷ ks) (suc j) e = omega (arith, marked_in ks j e)

pub below_many : (ks : List Bool) (j : ℕ) → get_or ks j false ≡ true → kept_below ks j < how_many ks
below_many ks j e = omega (arith, below_all ks, below_less ks j (length ks) (marked_in ks j e) e)

-- what is kept, as the marked rules with their calls given new numbers
pub keep_ranks : (kept ks : List Bool) (rs : List Rule) → ranks_of (keep kept ks rs) ≡ marked ks (ranks_of rs)
keep_ranks kept [] rs = refl
keep_ranks kept (k ∷ ks) [] = refl
keep_ranks kept (true ∷ ks) (r ∷ rs) = ap {B = List ℕ} (λ l. r.rank ∷ l) (keep_ranks kept ks rs)
keep_ranks kept (false ∷ ks) (r ∷ rs) = keep_ranks kept ks rs

pub keep_bodies : (kept ks : List Bool) (rs : List Rule) (j : ℕ) → get_or ks j false ≡ true → length ks ≡ length rs
    → body_at (keep kept ks rs) (kept_below ks j) ≡ map (renumbered (kept_below kept)) (body_at rs j)
keep_bodies kept [] rs j e h = let z : ◌≡◌ {A = ℕ} 0 1 = cc in absurd (omega arith)
keep_bodies kept (k ∷ ks) [] j e h = absurd (omega arith)
keep_bodies kept (true ∷ ks) (r ∷ rs) zero e h = refl
keep_bodies kept (true ∷ ks) (r ∷ rs) (suc j) e h = keep_bodies kept ks rs j e (omega arith)
keep_bodies kept (false ∷ ks) (r ∷ rs) zero e h = let z : ◌≡◌ {A = ℕ} 0 1 = cc in absurd (omega arith)
keep_bodies kept (false ∷ ks) (r ∷ rs) (suc j) e h = keep_bodies kept ks rs j e (omega arith)

-- what kept_from marks
pub length_kept : (j : ℕ) (rs : List Rule) → length (kept_from j rs) ≡ length rs
length_kept j [] = refl
length_kept j (r ∷ []) = refl
length_kept j (r ∷ s ∷ rs) = ap suc (length_kept (suc j) (s ∷ rs))

pub last_kept : (j : ℕ) (rs : List Rule) → 1 ≤ length rs → get_or (kept_from j rs) (length rs - 1) false ≡ true
last_kept j [] h = absurd (omega arith)
last_kept j (r ∷ []) h = refl
last_kept j (r ∷ s ∷ rs) h =
    let e : suc (suc (length rs)) - 1 ≡ suc (suc (length rs) - 1) = omega arith in
    ap (λ (i : ℕ). get_or (kept_from j (r ∷ s ∷ rs)) i false) e ∙ last_kept (suc j) (s ∷ rs) (omega arith)

pub kept_at : (base : ℕ) (rs : List Rule) (i : ℕ) → suc i < length rs
    → get_or (kept_from base rs) i false ≡ is_called (base + i) (drop (suc i) (kept_from base rs)) (drop (suc i) rs)
kept_at base [] i h = absurd (omega arith)
kept_at base (r ∷ []) i h = absurd (omega arith)
kept_at base (r ∷ s ∷ rs) zero h = ap (λ (b : ℕ). is_called b (kept_from (suc base) (s ∷ rs)) (s ∷ rs)) (sym (add-zero base))
kept_at base (r ∷ s ∷ rs) (suc i) h =
    let e : suc base + i ≡ base + suc i = omega arith in
    kept_at (suc base) (s ∷ rs) i (omega arith) ∙ ap (λ (b : ℕ). is_called b (drop (suc i) (kept_from (suc base) (s ∷ rs))) (drop (suc i) (s ∷ rs))) e

-- calls, as a test and as a place
word_calls : (j w : ℕ) → class_of w ≡ call j → T (when_call false (λ k. eqb k j) w)
word_calls j w e = rw (when_call_call false (λ k. eqb k j) w j e) (eqb_refl j)

calls_word : (j w : ℕ) → T (when_call false (λ k. eqb k j) w) → class_of w ≡ call j
calls_word j w t =
    by_call _ w
    (λ k e. e ∙ ap call (eqb→eq k j (rw (when_call_call false (λ k. eqb k j) w k e) at t)))
    (λ other. absurd (rw (when_call_other false (λ k. eqb k j) w other) at t))

pub calls_there : (j : ℕ) (ws : List ℕ) (i : ℕ) → i < length ws → class_of (get_or ws i 0) ≡ call j → T (calls j ws)
calls_there j [] i h e = absurd (omega arith)
calls_there j (w ∷ ws) zero h e = or_left (when_call false (λ k. eqb k j) w) (calls j ws) (word_calls j w e)
calls_there j (w ∷ ws) (suc i) h e = or_right (when_call false (λ k. eqb k j) w) (calls j ws) (calls_there j ws i (omega arith) e)

pub calls_where : (j : ℕ) (ws : List ℕ) → T (calls j ws) → (i : ℕ) × (i < length ws) × (class_of (get_or ws i 0) ≡ call j)
calls_where j [] t = absurd t
calls_where j (w ∷ ws) t =
    ⊎_elim
    (λ s. (0, omega arith, calls_word j w s))
    (λ s. let r = calls_where j ws s in (suc r.0, omega (arith, r.1), r.2))
    (or_yes (when_call false (λ k. eqb k j) w) (calls j ws) t)

pub called_there : (j : ℕ) (ks : List Bool) (rs : List Rule) (m : ℕ) → m < length rs → get_or ks m false ≡ true → T (calls j (body_at rs m)) → T (is_called j ks rs)
called_there j ks [] m h e t = absurd (omega arith)
called_there j [] (r ∷ rs) m h e t = let z : ◌≡◌ {A = ℕ} 0 1 = cc in absurd (omega arith)
called_there j (k ∷ ks) (r ∷ rs) zero h e t = or_left (cond k (calls j r.body) false) (is_called j ks rs) (rw e t)
called_there j (k ∷ ks) (r ∷ rs) (suc m) h e t = or_right (cond k (calls j r.body) false) (is_called j ks rs) (called_there j ks rs m (omega arith) e t)

pub called_where : (j : ℕ) (ks : List Bool) (rs : List Rule) → T (is_called j ks rs) → (m : ℕ) × (m < length rs) × (get_or ks m false ≡ true) × T (calls j (body_at rs m))
called_where j ks [] t = absurd t
called_where j [] (r ∷ rs) t = absurd t
called_where j (true ∷ ks) (r ∷ rs) t =
    ⊎_elim
    (λ s. (0, omega arith, refl, s))
    (λ s. let w = called_where j ks rs s in (suc w.0, omega (arith, w.1), w.2, w.3))
    (or_yes (calls j r.body) (is_called j ks rs) t)
called_where j (false ∷ ks) (r ∷ rs) t = let w = called_where j ks rs t in (suc w.0, omega (arith, w.1), w.2, w.3)

pub body_drop : (rs : List Rule) (n i : ℕ) → body_at (drop n rs) i ≡ body_at rs (n + i)
body_drop rs n i = ap (λ (r : Rule). r.body) (get_or-drop n rs i (record { rank = 0; body = [] }))

-- a call of j is one of its new number
pub calls_renumbered : (number : ℕ → ℕ) (j : ℕ) (ws : List ℕ) → number j < 256 → T (calls j ws) → T (calls (number j) (map (renumbered number) ws))
calls_renumbered number j ws h t =
    let c = calls_where j ws t in
    calls_there (number j) (map (renumbered number) ws) c.0 (rw length-map c.1)
    (ap class_of (get_or_map (renumbered number) ws c.0 0 0 c.1) ∙ renumbered_call number (get_or ws c.0 0) j c.2 h)
