-- Document 01, "Reference trees": the starred lines as one table under one theorem, by computation. Below it, two tables that are no starred lines but
-- tell wrong definitions from the right ones. Answers are in the page's own numbers and with every lent slice's content. G, its request and the program's output
-- for G1 are in bytes, so `read` and `write` are held there; most other inputs and the files expected are made with `write`.
use Prim.Native.Nat.{ℕ, zero, suc, ◌-◌}
use mathlib.Core.Path.{◌≡◌, refl}
use mathlib.Core.Bool.{Bool, true, false}
use mathlib.Core.List.{List, [], ◌∷◌, ◌++◌, map}
use lib.ListN.{length, replicate, take, drop}
use Rattle.model.specs.Words.{class_of}
use Rattle.model.specs.Trees.{Rule}
use Rattle.model.specs.File.{read, write}
use Rattle.model.specs.Edits.{Edit, rename, insert, delete, Update, all_at_once, apart, moved, updated}
use Rattle.model.specs.Opening.{opened_at}
use Rattle.model.specs.Dropping.{dropped}
use Rattle.model.specs.Rounds.{repacked}
use Rattle.model.specs.Answers.{Answer, FileAnswer, checked, CountAnswer, counted, LabelAnswer, label_at, WindowAnswer, window_at, update, remade, packed, pack}
use Rattle.model.specs.Program.{program}

-- A line of a table: what is asked, and what is answered.
data Case : Type 0 where
  filing : FileAnswer → FileAnswer → Case
  checking : Answer → Answer → Case
  counting : CountAnswer → CountAnswer → Case
  labelling : LabelAnswer → LabelAnswer → Case
  windowing : WindowAnswer → WindowAnswer → Case
  writing : List ℕ → List ℕ → Case
  growing : List ℕ → List ℕ → Case
  measuring : ℕ → ℕ → Case
  judging : Bool → Bool → Case

-- the line with its answer in the question's place: a table is right if that changes nothing
settled : Case → Case
settled (filing asked answered) = filing answered answered
settled (checking asked answered) = checking answered answered
settled (counting asked answered) = counting answered answered
settled (labelling asked answered) = labelling answered answered
settled (windowing asked answered) = windowing answered answered
settled (writing asked answered) = writing answered answered
settled (growing asked answered) = growing answered answered
settled (measuring asked answered) = measuring answered answered
settled (judging asked answered) = judging answered answered

rule : ℕ → List ℕ → Rule
rule k ws = record { rank = k; body = ws }

at : ℕ → Edit → Update
at p e = record { at = p; edit = e }

-- an answer in numbers: number and place of a refusal; opened, rounds and length of what was accepted
no : ℕ → ℕ → Answer
no number place = record { number = number; place = place; opened = 0; rounds = 0; length = 0 }

yes : ℕ → ℕ → ℕ → Answer
yes opened rounds length = record { number = 0; place = 0; opened = opened; rounds = rounds; length = length }

-- the same with a result buffer of `room` bytes and a work area of `work` words
refused_in : ℕ → ℕ → ℕ → FileAnswer
refused_in room work number = record { answer = no number 0; result = replicate room 255; work = replicate work 0 }

filed_in : ℕ → ℕ → ℕ → List Rule → FileAnswer
filed_in room opened rounds rules =
    record {
      answer = yes opened rounds (length (write rules));
      result = write rules ++ replicate (room - length (write rules)) 255;
      work = replicate 32768 0;
    }

-- a call with a result buffer of 64 bytes and a work area that is just long enough, and its answers
on : List ℕ → Update → FileAnswer
on file u = update 64 32768 file u

filed : ℕ → List Rule → FileAnswer
filed opened rules = filed_in 64 opened 0 rules

refused : ℕ → FileAnswer
refused number = refused_in 64 32768 number

-- G as it stands in its file: 46 bytes
G : List ℕ
G =
    4 ∷ 0 ∷ 0 ∷ 0 ∷ 1 ∷ 0 ∷ 1 ∷ 0 ∷ 2 ∷ 0
    ∷ 12 ∷ 0 ∷ 0 ∷ 0 ∷ 2 ∷ 0 ∷ 1 ∷ 0 ∷ 2 ∷ 0 ∷ 3 ∷ 0 ∷ 0 ∷ 0 ∷ 0 ∷ 0 ∷ 1 ∷ 128
    ∷ 12 ∷ 0 ∷ 0 ∷ 0 ∷ 2 ∷ 0 ∷ 0 ∷ 0 ∷ 1 ∷ 0 ∷ 0 ∷ 192 ∷ 0 ∷ 192 ∷ 0 ∷ 0 ∷ 0 ∷ 0 ∷ []

-- rule 0 of G; what G1, G2, G4 and G8 leave; the file of E1
fan : Rule
fan = rule 1 (2 ∷ 3 ∷ 0 ∷ 0 ∷ 0x8001 ∷ [])

one_renamed : List Rule
one_renamed = fan ∷ rule 0 (1 ∷ 0xC000 ∷ 2 ∷ 4 ∷ 0 ∷ 0 ∷ 0 ∷ 0 ∷ []) ∷ []

one_left : List Rule
one_left = fan ∷ rule 0 (1 ∷ 0xC000 ∷ 0 ∷ 0 ∷ []) ∷ []

one_more : List Rule
one_more = fan ∷ rule 0 (1 ∷ 0xC000 ∷ 0xC000 ∷ 4 ∷ 0 ∷ 0 ∷ 0 ∷ []) ∷ []

one_rule : List Rule
one_rule = rule 0 (1 ∷ 4 ∷ 3 ∷ 0 ∷ 0 ∷ 0 ∷ 0 ∷ []) ∷ []

empty : List ℕ
empty = write (rule 0 (0 ∷ []) ∷ [])

-- the request of G1, and the program's whole output for it
request : List ℕ
request = 10 ∷ 0 ∷ 0 ∷ 0 ∷ 16 ∷ 0 ∷ 6 ∷ 0 ∷ 0 ∷ 0 ∷ 0 ∷ 0 ∷ 0 ∷ 0 ∷ 4 ∷ 0 ∷ []

output : List ℕ
output =
    8 ∷ 0 ∷ 0 ∷ 0 ∷ 3 ∷ 0 ∷ 0 ∷ 0 ∷ 0 ∷ 0 ∷ 1 ∷ 0 ∷ 0 ∷ 0
    ∷ 4 ∷ 0 ∷ 0 ∷ 0 ∷ 1 ∷ 0 ∷ 1 ∷ 0 ∷ 2 ∷ 0
    ∷ 12 ∷ 0 ∷ 0 ∷ 0 ∷ 2 ∷ 0 ∷ 1 ∷ 0 ∷ 2 ∷ 0 ∷ 3 ∷ 0 ∷ 0 ∷ 0 ∷ 0 ∷ 0 ∷ 1 ∷ 128
    ∷ 18 ∷ 0 ∷ 0 ∷ 0 ∷ 2 ∷ 0 ∷ 0 ∷ 0 ∷ 1 ∷ 0 ∷ 0 ∷ 192 ∷ 2 ∷ 0 ∷ 4 ∷ 0 ∷ 0 ∷ 0 ∷ 0 ∷ 0 ∷ 0 ∷ 0 ∷ 0 ∷ 0 ∷ []

reference : List Case
reference =
    -- G1 to G4, with the lengths that the page gives: an answer's length is its file's
    filing (on G (at 6 (rename 4))) (filed 1 one_renamed)
    ∷ measuring (length (write one_renamed)) 52
    ∷ writing (program (request ++ G)) output
    ∷ filing (on G (at 5 delete)) (filed 1 one_left)
    ∷ measuring (length (write one_left)) 44
    ∷ filing (on G (at 1 delete)) (filed 1 one_left)
    ∷ filing (on G (at 9 (insert (4 ∷ 0 ∷ 0 ∷ [])))) (filed 0 one_more)
    ∷ measuring (length (write one_more)) 50
    -- G5, G6, G7
    ∷ filing (on G (at 0 delete)) (refused 16)
    ∷ filing (on G (at 9 delete)) (refused 13)
    ∷ filing (on G (at 10 (rename 4))) (refused 13)
    ∷ filing (on G (at 11 (rename 4))) (refused 12)
    -- G8
    ∷ filing (on (write one_left) (at 1 (rename 4))) (filed 1 one_rule)
    ∷ measuring (length (write one_rule)) 32
    -- E1, E2
    ∷ checking (checked empty) (no 11 0)
    ∷ filing (on empty (at 0 (rename 4))) (refused 11)
    ∷ checking (checked []) (no 1 0)
    ∷ filing (on [] (at 0 delete)) (refused 1)
    ∷ []

starred : reference ≡ map settled reference
unfolding reference settled rule at no yes refused_in filed_in on filed refused G fan one_renamed one_left one_more one_rule empty request output class_of read write opened_at dropped repacked remade update program
starred = refl

-- The second table, of all but packing and rounds: first what it asks with.

-- n copies of ws; n childless siblings labelled 2
times : ℕ → List ℕ → List ℕ
times zero ws = []
times (suc n) ws = ws ++ times n ws

siblings : ℕ → List ℕ
siblings n = times n (2 ∷ 0 ∷ []) ++ 0 ∷ []

-- G with its two fans in a rule of their own: node 6 is opened to in two steps
nested : List ℕ
nested = write (fan ∷ rule 1 (0xC000 ∷ 0xC000 ∷ 0x8001 ∷ []) ∷ rule 0 (1 ∷ 0xC001 ∷ 0 ∷ 0 ∷ []) ∷ [])

-- the start calls rules 1 and 2, and only rule 1 calls rule 0
leaf : Rule
leaf = rule 0 (3 ∷ 0 ∷ 0 ∷ [])

aside : Rule
aside = rule 1 (5 ∷ 0 ∷ 0x8001 ∷ [])

two_steps : List ℕ
two_steps = write (leaf ∷ rule 0 (7 ∷ 0xC000 ∷ 0 ∷ []) ∷ aside ∷ rule 0 (1 ∷ 0xC001 ∷ 0xC002 ∷ 0 ∷ []) ∷ [])

-- siblings 4 and 5, and 5 has a child: its first ⊥ is at place 1, its last at place 6
fragment : List ℕ
fragment = 4 ∷ 0 ∷ 5 ∷ 6 ∷ 0 ∷ 0 ∷ 0 ∷ []

-- G's tree, and three updates of it
grown : List ℕ
grown = 1 ∷ 2 ∷ 3 ∷ 0 ∷ 0 ∷ 2 ∷ 3 ∷ 0 ∷ 0 ∷ 0 ∷ 0 ∷ []

three : List Update
three = at 1 delete ∷ at 9 (insert fragment) ∷ at 6 (rename 4) ∷ []

-- one update after another, each position moved by the earlier ones
one_by_one : List Update → List Update → List ℕ → List ℕ
one_by_one [] earlier ws = ws
one_by_one (u ∷ us) earlier ws = one_by_one us (u ∷ earlier) (updated (at (moved grown earlier u.at) u.edit) ws)

-- what the program writes before the file
written : ℕ → ℕ → List ℕ
written number opened = 8 ∷ 0 ∷ 0 ∷ 0 ∷ 3 ∷ 0 ∷ number ∷ 0 ∷ 0 ∷ 0 ∷ opened ∷ 0 ∷ 0 ∷ 0 ∷ []

at_9 : List ℕ
at_9 = 9 ∷ 0 ∷ 0 ∷ 0 ∷ 0 ∷ 0 ∷ 0 ∷ 0 ∷ []

further : List Case
further =
    -- an insert at an element, with two siblings, one of which has a child; two rules opened; a rule dropped with the one that called it
    filing (on G (at 0 (insert fragment))) (filed 0 (fan ∷ rule 0 (4 ∷ 0 ∷ 5 ∷ 6 ∷ 0 ∷ 0 ∷ 1 ∷ 0xC000 ∷ 0xC000 ∷ 0 ∷ 0 ∷ []) ∷ []))
    ∷ filing (on nested (at 6 (rename 4))) (filed 2 one_renamed)
    ∷ filing (on two_steps (at 1 delete)) (filed 1 (aside ∷ rule 0 (1 ∷ 0 ∷ 0xC000 ∷ 0 ∷ []) ∷ []))
    -- where two refusals apply, and each alone: 13 and 14, 12 and 15
    ∷ filing (on G (at 9 (rename 0))) (refused 13)
    ∷ filing (on G (at 6 (rename 0))) (refused 14)
    ∷ filing (on G (at 6 (rename 0x8000))) (refused 14)
    ∷ filing (on G (at 11 (insert (0 ∷ [])))) (refused 12)
    ∷ filing (on G (at 10 (insert (0 ∷ [])))) (refused 15)
    -- a room of exactly the file, one byte too short; a work area too short, whatever else is wrong
    ∷ filing (update 52 32768 G (at 6 (rename 4))) (filed_in 52 1 0 one_renamed)
    ∷ filing (update 51 32768 G (at 6 (rename 4))) (refused_in 51 32768 19)
    ∷ filing (update 51 32767 [] (at 6 (rename 4))) (refused_in 51 32767 20)
    ∷ filing (pack 51 32767 []) (refused_in 51 32767 20)
    -- too large; no head; a head of 6 bytes; a rule of 11; no rules; a rank of 5; a start of rank 1
    ∷ checking (checked (replicate 16385 0)) (no 9 0)
    ∷ checking (checked (drop 10 G)) (no 2 0)
    ∷ checking (checked (6 ∷ drop 1 G)) (no 3 0)
    ∷ checking (checked (take 10 G ++ 11 ∷ drop 11 G)) (no 3 1)
    ∷ checking (checked (take 8 G ++ 0 ∷ 0 ∷ [])) (no 4 0)
    ∷ checking (checked (write (fan ∷ rule 5 (0 ∷ []) ∷ rule 0 (0 ∷ []) ∷ []))) (no 5 2)
    ∷ checking (checked (write (fan ∷ rule 1 (2 ∷ 0 ∷ 0x8001 ∷ []) ∷ []))) (no 5 2)
    -- a rule that calls itself; an illegal word after a broken shape; parameters out of order; a parameter alone; bytes after the last rule
    ∷ checking (checked (write (fan ∷ rule 0 (0xC001 ∷ []) ∷ []))) (no 6 2)
    ∷ checking (checked (write (rule 0 (0 ∷ 0 ∷ 0x8005 ∷ []) ∷ []))) (no 6 1)
    ∷ checking (checked (write (rule 2 (2 ∷ 0x8002 ∷ 0x8001 ∷ []) ∷ rule 0 (1 ∷ 0 ∷ 0 ∷ []) ∷ []))) (no 7 1)
    ∷ checking (checked (write (rule 1 (0x8001 ∷ []) ∷ rule 0 (0xC000 ∷ 1 ∷ 0 ∷ 0 ∷ []) ∷ []))) (no 7 1)
    ∷ checking (checked (G ++ 0 ∷ [])) (no 8 3)
    -- queries of G
    ∷ counting (counted G) (record { answer = yes 0 0 0; nodes = 11 })
    ∷ counting (counted (take 45 G)) (record { answer = no 1 2; nodes = 0 })
    ∷ labelling (label_at G 10) (record { answer = yes 0 0 0; word = 0 })
    ∷ labelling (label_at G 11) (record { answer = no 12 0; word = 0xFFFF })
    ∷ windowing (window_at G 0 11) (record { answer = yes 0 0 0; window = grown })
    ∷ windowing (window_at G 9 3) (record { answer = no 12 0; window = 0xFFFF ∷ 0xFFFF ∷ 0xFFFF ∷ [] })
    ∷ windowing (window_at G 11 0) (record { answer = yes 0 0 0; window = [] })
    ∷ windowing (window_at G 12 0) (record { answer = no 12 0; window = [] })
    -- the program: a delete, an insert, a cut request, one with half a word, none
    ∷ writing (program (8 ∷ 0 ∷ 0 ∷ 0 ∷ 17 ∷ 0 ∷ 5 ∷ drop 1 at_9 ++ G)) (written 0 1 ++ write one_left)
    ∷ writing (program (14 ∷ 0 ∷ 0 ∷ 0 ∷ 18 ∷ 0 ∷ at_9 ++ 4 ∷ 0 ∷ 0 ∷ 0 ∷ 0 ∷ 0 ∷ G)) (written 0 0 ++ write one_more)
    ∷ writing (program (take 15 request)) (written 21 0)
    ∷ writing (program (9 ∷ 0 ∷ 0 ∷ 0 ∷ 18 ∷ 0 ∷ at_9 ++ 4 ∷ G)) (written 21 0)
    ∷ writing (program []) (written 21 0)
    -- several at once, and the same one after another; t1's ⊥ is removed too, and no two are at one position
    ∷ growing (all_at_once three grown) (1 ∷ 2 ∷ 4 ∷ 0 ∷ 0 ∷ 4 ∷ 0 ∷ 5 ∷ 6 ∷ 0 ∷ 0 ∷ 0 ∷ 0 ∷ [])
    ∷ growing (one_by_one three [] grown) (1 ∷ 2 ∷ 4 ∷ 0 ∷ 0 ∷ 4 ∷ 0 ∷ 5 ∷ 6 ∷ 0 ∷ 0 ∷ 0 ∷ 0 ∷ [])
    ∷ judging (apart grown three) true
    ∷ judging (apart grown (at 1 delete ∷ at 4 (rename 4) ∷ [])) false
    ∷ judging (apart grown (at 6 (rename 4) ∷ at 6 (rename 5) ∷ [])) false
    ∷ []

-- The third table, of packing and rounds. `renamed rules` is the answer where the start's first word becomes 4.
renamed : List Rule → FileAnswer
renamed rules = update 160 32768 (write rules) (at 0 (rename 4))

-- the start 1(C001(⊥), ..) goes on with the chain; rule 1 has nothing to do with it
chained : ℕ → List ℕ → List Rule
chained first chain = leaf ∷ aside ∷ rule 0 (first ∷ 0xC001 ∷ 0 ∷ chain ++ 0 ∷ []) ∷ []

-- rule 1 has m occurrences and is called twice, the start has 4
spread : ℕ → ℕ → List Rule
spread first m = leaf ∷ rule 1 (times m (2 ∷ 0xC000 ∷ []) ++ 0x8001 ∷ []) ∷ rule 0 (first ∷ 0xC001 ∷ 0xC001 ∷ 0 ∷ times 4 (2 ∷ 0xC000 ∷ []) ++ 0 ∷ []) ∷ []

-- a over rule 0
over : ℕ → Rule
over a = rule 1 (a ∷ 0xC000 ∷ 0x8001 ∷ [])

-- what P20 leaves
paired : List Rule
paired = rule 3 (2 ∷ 0x8001 ∷ 2 ∷ 0x8002 ∷ 0x8003 ∷ []) ∷ rule 0 (times 10 (0xC000 ∷ 0 ∷ 0 ∷ []) ++ 0 ∷ []) ∷ []

rounds : List Case
rounds =
    -- P19 and P20; ⊥ alone; no tree
    filing (pack 100 32768 (siblings 19)) (filed_in 100 0 0 (rule 0 (siblings 19) ∷ []))
    ∷ measuring (length (write (rule 0 (siblings 19) ∷ []))) 96
    ∷ filing (pack 100 32768 (siblings 20)) (filed_in 100 0 1 paired)
    ∷ measuring (length (write paired)) 98
    ∷ filing (pack 100 32768 (0 ∷ [])) (refused_in 100 32768 15)
    ∷ filing (pack 100 32768 (2 ∷ 0 ∷ [])) (refused_in 100 32768 15)
    -- k = 1: 6 + k and 7 + k occurrences, and the new rule comes below rule 1; the same spread over two bodies
    ∷ filing (renamed (chained 1 (times 7 (2 ∷ 0xC000 ∷ [])))) (filed_in 160 0 0 (chained 4 (times 7 (2 ∷ 0xC000 ∷ []))))
    ∷ filing (renamed (chained 1 (times 8 (2 ∷ 0xC000 ∷ [])))) (filed_in 160 0 1 (leaf ∷ over 2 ∷ aside ∷ rule 0 (4 ∷ 0xC002 ∷ 0 ∷ times 8 (0xC001 ∷ []) ++ 0 ∷ []) ∷ []))
    ∷ filing (renamed (spread 1 3)) (filed_in 160 0 0 (spread 4 3))
    ∷ filing (renamed (spread 1 4)) (filed_in 160 0 1 (leaf ∷ over 2 ∷ rule 1 (times 4 (0xC001 ∷ []) ++ 0x8001 ∷ []) ∷ rule 0 (4 ∷ 0xC002 ∷ 0xC002 ∷ 0 ∷ times 4 (0xC001 ∷ []) ++ 0 ∷ []) ∷ []))
    -- two digrams with as many occurrences: the smaller a comes first, and the second new rule pushes it up
    ∷ filing (renamed (chained 1 (times 8 (2 ∷ 0xC000 ∷ []) ++ times 8 (1 ∷ 0xC000 ∷ [])))) (filed_in 160 0 2 (leaf ∷ over 2 ∷ over 1 ∷ aside ∷ rule 0 (4 ∷ 0xC003 ∷ 0 ∷ times 8 (0xC001 ∷ []) ++ times 8 (0xC002 ∷ []) ++ 0 ∷ []) ∷ []))
    -- the smaller i before the smaller b; then k = 0, numbered above its a; then a third round
    ∷ filing
    (renamed (leaf ∷ rule 0 (5 ∷ 0 ∷ 0 ∷ []) ∷ rule 0 (1 ∷ 0 ∷ times 8 (2 ∷ 6 ∷ 0xC001 ∷ 0xC000 ∷ []) ++ 0 ∷ []) ∷ []))
    (filed_in 160 0 3 (leaf ∷ rule 0 (5 ∷ 0 ∷ 0 ∷ []) ∷ rule 1 (6 ∷ 0xC001 ∷ 0x8001 ∷ []) ∷ rule 0 (0xC002 ∷ 0xC000 ∷ []) ∷ rule 1 (2 ∷ 0xC003 ∷ 0x8001 ∷ []) ∷ rule 0 (4 ∷ 0 ∷ times 8 (0xC004 ∷ []) ++ 0 ∷ []) ∷ []))
    ∷ []

told : (further ≡ map settled further) × (rounds ≡ map settled rounds)
unfolding further rounds settled times siblings nested leaf aside two_steps fragment grown three one_by_one written at_9 renamed chained spread over paired rule at no yes refused_in filed_in on filed refused G fan one_renamed one_left one_more request class_of read write opened_at dropped repacked remade update program packed pack
told = (refl, refl)
