-- Gap strings. The words of a rule's expansion between two of its parameters are a gap; rule j has its gaps at 5j to 5j + 4. A gap is spelled as pieces: a word, or
-- 32,768 + g for the words of gap g of a lower rule. The pieces of a gap end with a stop.
use Rattle.std.specs.Prelude.{ℕ, zero, suc, ◌+◌, ◌*◌, ◌-◌, ◌/◌, ◌%◌, ◌≤◌, ◌<◌, ◌≡◌, ◌⊎◌, Bool, true, false, cond, not, Option, Some, None, List, [], ◌∷◌, ◌++◌, map, T, leb, ltb, eqb, length, get_or, take, drop, set}
use Rattle.std.specs.List.{All, sum_by}
use Rattle.model.specs.Words.{class_of, by_class, when_parameter}
use Rattle.model.specs.Trees.{all, join}
use Rattle.queries.specs.declared.pieces.Piece.{Piece}
use Rattle.queries.specs.declared.pieces.Piece.TheVariants as pieces
use Rattle.queries.specs.declared.pieces.Open.{Open}

abbrev pub stop : ℕ
stop = 65535

-- a word of an expansion, a parameter as a stop
abbrev pub stopped : ℕ → ℕ
stopped w = when_parameter w (λ n. stop) w

abbrev pub unstopped : ℕ → Bool
unstopped w = not (eqb w stop)

-- the words before the first stop, after it, and after the first m of them
abbrev pub up_to : List ℕ → List ℕ
up_to [] = []
up_to (w ∷ ws) = elim (eqb w stop) [ true ↦ [] | false ↦ w ∷ up_to ws ]

abbrev pub past : List ℕ → List ℕ
past [] = []
past (w ∷ ws) = elim (eqb w stop) [ true ↦ ws | false ↦ past ws ]

abbrev pub past_all : ℕ → List ℕ → List ℕ
past_all zero ws = ws
past_all (suc m) ws = past_all m (past ws)

-- the words of a gap, by the expansions of the rules
unfoldable pub gap_of : List (List ℕ) → ℕ → List ℕ
gap_of expansions g = up_to (past_all (g % 5) (map stopped (get_or expansions (g / 5) [])))

-- what the piece c is: a word, the gap g, or a stop
abbrev pub PieceIs : Piece → ℕ → Type 0
PieceIs (pieces.Word w) c = (c < 32768) × (w ≡ c)
PieceIs (pieces.Gap g) c = (32768 ≤ c) × (c ≡ stop → ⊥) × (g ≡ c - 32768)
PieceIs pieces.Stop c = c ≡ stop

-- the words that a piece, and that pieces stand for; G has the words of each gap
abbrev pub meant : (ℕ → List ℕ) → ℕ → List ℕ
meant G c = cond (ltb c 32768) (c ∷ []) (G (c - 32768))

abbrev pub spelled : (ℕ → List ℕ) → List ℕ → List ℕ
spelled G [] = []
spelled G (c ∷ cs) = meant G c ++ spelled G cs

-- the pieces cs stand from the place i on, and name only gaps of rules below b
abbrev pub Run : List ℕ → ℕ → ℕ → List ℕ → Type 0
Run pieces b i [] = Unit {0}
Run pieces b i (c ∷ cs) = (get_or pieces i 0 ≡ c) × (c < 32768 + 5 * b) × Run pieces b (suc i) cs

-- the pieces from `start` to `end` spell the words
pub record Part (G : ℕ → List ℕ) (pieces : List ℕ) (b start end : ℕ) (words : List ℕ) : Type 0 where
  pub codes : List ℕ
  pub ends : start + length codes ≡ end
  pub runs : Run pieces b start codes
  pub means : spelled G codes ≡ words

-- and a stop follows them, before the place `top`
pub record Slice (G : ℕ → List ℕ) (pieces : List ℕ) (b start top : ℕ) (words : List ℕ) : Type 0 where
  pub end : ℕ
  pub part : Part G pieces b start end words
  pub below : end < top
  pub stops : get_or pieces end 0 ≡ stop

-- the gaps of the first n rules are measured, and those that have words are spelled below the place `top`, from where `starts` says
pub record Spelled (G : ℕ → List ℕ) (n top : ℕ) (pieces starts sizes : List ℕ) : Type 0 where
  pub none : (g : ℕ) → 1280 ≤ g → G g ≡ []
  pub plain : (g : ℕ) → T (all unstopped (G g))
  pub measured : (g : ℕ) → g < 5 * n → get_or sizes g 0 ≡ length (G g)
  pub slices : (g : ℕ) → g < 5 * n → 1 ≤ length (G g) → Slice G pieces (g / 5) (get_or starts g 0) top (G g)

-- the piece to put for gap g: none where it has no words; the gap's own piece where it has only one
abbrev pub code_for : List ℕ → List ℕ → List ℕ → ℕ → Option ℕ
code_for sizes starts pieces g =
    elim (leb 1280 g) [
      | true ↦ None
      | false ↦ elim (eqb (get_or sizes g 0) 0) [
        | true ↦ None
        | false ↦ elim (eqb (get_or pieces (get_or starts g 0 + 1) 0) stop) [ true ↦ Some (get_or pieces (get_or starts g 0) 0) | false ↦ Some (32768 + g) ]
      ]
    ]

-- what that asks: the gap's size is in the table, and where it has words its pieces stand
abbrev pub GapStands : List ℕ → List ℕ → List ℕ → ℕ → Type 0
GapStands sizes starts pieces g = (1280 ≤ length sizes) × (g < 1280 → 1 ≤ get_or sizes g 0 → get_or starts g 0 + 1 < length pieces)

-- what follows where the next of the trees is due: the tree, then f of the others
abbrev pub after : (List (List ℕ) → List ℕ) → List (List ℕ) → List ℕ
after f [] = []
after f (t ∷ ts) = t ++ f ts

-- a word whose gaps g, g + 1, .. are still due, n of them, with a tree between each two
abbrev pub filling : (ℕ → List ℕ) → ℕ → ℕ → (List (List ℕ) → List ℕ) → List (List ℕ) → List ℕ
filling G g zero f ts = f ts
filling G g (suc zero) f ts = G g ++ f ts
filling G g (suc (suc n)) f ts = G g ++ after (filling G (suc g) (suc n) f) ts

-- an open word of a body: how many of its gaps are still due, and the next of them; what has no gaps has 1,280, which no rule has
abbrev pub due : Open → ℕ
due e = e.0 / 2048

abbrev pub next_gap : Open → ℕ
next_gap e = e.0 % 2048

-- the words of a body that are open, the lowest last; f follows them
abbrev pub closing_over : (ℕ → List ℕ) → (List (List ℕ) → List ℕ) → List Open → List (List ℕ) → List ℕ
closing_over G f [] = f
closing_over G f (e ∷ es) = closing_over G (filling G (next_gap e) (due e) f) es

abbrev pub closing : (ℕ → List ℕ) → List Open → List (List ℕ) → List ℕ
closing G opens = closing_over G join opens

-- an open word that names gaps of rules below r, or none
abbrev pub Entry : ℕ → Open → Type 0
Entry r e = (1 ≤ due e) × ((next_gap e + due e ≤ 5 * r) ⊎ ((1280 ≤ next_gap e) × (next_gap e + due e ≤ 1283)))

abbrev pub Entries : ℕ → List Open → Type 0
Entries r opens = All (Entry r) opens

-- the pieces that open words may still want
abbrev pub wanted : Open → ℕ
wanted e = cond (leb 1280 (next_gap e)) 0 (due e)

abbrev pub all_wanted : List Open → ℕ
all_wanted opens = sum_by wanted opens

-- Pieces were put for what the open words give until the next tree is due. K says what is due then.
pub record Closes (K : (List (List ℕ) → List ℕ) → List (List ℕ) → List ℕ) (starts sizes pieces₀ : List ℕ) (opens₀ : List Open) (pieces : List ℕ) (opens : List Open) : Type 0 where
  pub kept : (j : ℕ) → j < length pieces₀ → get_or pieces j 0 ≡ get_or pieces₀ j 0
  pub grown : length pieces₀ ≤ length pieces
  pub lower : length opens ≤ length opens₀
  pub room : length pieces + all_wanted opens ≤ length pieces₀ + all_wanted opens₀
  pub entries : (r : ℕ) → Entries r opens₀ → Entries r opens
  pub says : (G : ℕ → List ℕ) (r base : ℕ) → Spelled G r base pieces₀ starts sizes → r ≤ 256 → base ≤ length pieces₀ → Entries r opens₀
      → (us : List ℕ) × Part G pieces r (length pieces₀) (length pieces) us × ((ts : List (List ℕ)) → closing G opens₀ ts ≡ us ++ K (closing G opens) ts)

-- what closing asks: the open words name gaps of the rules that are spelled, and there is room for the pieces that they want
pub record Closable (sizes starts pieces : List ℕ) (opens : List Open) : Type 0 where
  pub rules : ℕ
  pub few : rules ≤ 256
  pub wide : 1280 ≤ length sizes
  pub low : (g : ℕ) → g < 5 * rules → 1 ≤ get_or sizes g 0 → get_or starts g 0 + 1 < length pieces
  pub deep : length opens ≤ 8192
  pub entries : Entries rules opens
  pub room : length pieces + all_wanted opens ≤ 16384

-- what a word itself gives, and the first of its gaps; what has no gaps has 1,280, which no rule has
abbrev pub own : ℕ → List ℕ
own w = by_class (record { empty = w ∷ []; label = w ∷ []; parameter = λ n. stop ∷ []; call = λ j. []; illegal = w ∷ [] }) (class_of w)

abbrev pub first_gap : ℕ → ℕ
first_gap w = by_class (record { empty = 1280; label = 1280; parameter = λ n. 1280; call = λ j. 5 * j; illegal = 1280 }) (class_of w)

-- gaps g, g + 1, .. with k trees between them
abbrev pub between : (ℕ → List ℕ) → ℕ → ℕ → List (List ℕ) → List ℕ
between G g zero ts = G g
between G g (suc k) ts = G g ++ (get_or ts 0 [] ++ between G (suc g) k (drop 1 ts))

-- the tree of a word over its trees
abbrev pub over : (ℕ → List ℕ) → (ℕ → ℕ) → ℕ → List (List ℕ) → List ℕ
over G rank w ts = own w ++ between G (first_gap w) (rank w) ts

-- the gap that is put after a word of a body, and where gaps start: after a parameter the next one, at the place `top`
abbrev pub own_gap : ℕ → ℕ → ℕ
own_gap w gap = when_parameter gap (λ n. gap + 1) w

abbrev pub own_starts : ℕ → List ℕ → ℕ → ℕ → List ℕ
own_starts w starts gap top = when_parameter starts (λ n. set starts (gap + 1) top) w

-- what a walk over the pieces asks: p and as many words more are within the start rule's gap
pub record Walkable (pieces starts sizes : List ℕ) (n p many : ℕ) : Type 0 where
  pub G : ℕ → List ℕ
  pub top : ℕ
  pub spells : Spelled G n top pieces starts sizes
  pub within : top ≤ length pieces
  pub short : length pieces ≤ 16384
  pub some_rules : 1 ≤ n
  pub few_rules : n ≤ 256
  pub wide : 1280 ≤ length sizes
  pub long : 1280 ≤ length starts
  pub some_words : 1 ≤ get_or sizes (5 * (n - 1)) 0
  pub fits : p + many ≤ get_or sizes (5 * (n - 1)) 0

-- the words from p on
abbrev pub Walked : List ℕ → List ℕ → List ℕ → ℕ → ℕ → List ℕ → Type 0
Walked pieces starts sizes n p out =
    (G : ℕ → List ℕ) (top : ℕ) → Spelled G n top pieces starts sizes → top ≤ length pieces → out ≡ take (length out) (drop p (G (5 * (n - 1))))
