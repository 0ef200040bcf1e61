-- `grammar::sizes::gaps` meets its contract: before each word the table has the gaps of the parameters passed so far.
use Prim.Native.Nat.{ℕ, suc, ◌+◌, ◌*◌, ◌≤◌, ◌<◌, ◌-◌}
use mathlib.Core.Path.{◌≡◌, sym, ◌∙◌}
use mathlib.Core.Bool.{true}
use Rattle.std.specs.Prelude.{is_some}
use native.Mathlib.Omega.{arith}
use lib.ListN.{length, take, set}
use lib.Seq.{length-take-le}
use Rattle.model.specs.Words.{rank_of}
use Rattle.model.specs.File.{words_in}
use Rattle.grammar.specs.Meaning.{written_rules, ranks_in}
use Rattle.grammar.specs.Measures.{RowsBelow, before_by}
use Rattle.grammar.proofs.Entered.{body_there, bytes_there, inside, ranks_small}
use Rattle.grammar.proofs.GapsFound.{SoFar, so_same, next_room, other_word, parameter_word_lem, finish}
use Rattle.grammar.proofs.Tabled.{count, in_body, parameter_is, before_found}
use Rattle.grammar.proofs.sizes.gaps.Goals.{After-parameter, After-loop-i, At-loop-i, then-is_some, else-is_some}
use Rattle.grammar.proofs.sizes.gaps.Goals as goal

pub body-body-requires : goal.body-body-requires
body-body-requires c = (body_there c.requires.0 c.args.r c.requires.1).fits

pub before-b-requires : goal.before-b-requires
before-b-requires c =
    let l = c.loop-i in
    let t = bytes_there c.requires.0 c.args.r c.requires.1 c.body-body.result.now c.body-body.ensures in (
      omega (arith, t.short, length-take-le (2 * l.i) c.body-body.result.now (omega arith)),
      omega (arith, l.invariant.long, c.requires.2),
      l.invariant.small,
      ranks_small c.requires.0 c.args.r,
    )

-- the next gap has its place
room_left : (c : At-loop-i) → (c.loop-i.m < 1280) × (c.loop-i.m < length c.loop-i.sizes)
room_left c =
    let a = c.args in
    let l = c.loop-i in
    let room = inside c.requires.0 a.r c.requires.1 a.sizes.now c.requires.2 in
    let h = next_room (written_rules a.file.now) c.requires.0.is_formed a.r (count c.requires.0 a.r c.requires.1) (length a.sizes.now) room.1 l.i l.last l.m l.sizes l.invariant in
    (omega (arith, room), omega (arith, room, l.invariant.long))

-- a parameter: what stands before it, and with it the next gap
found : (c : After-parameter)
    → let l = c.loop-i in
    let a = c.args in
    is_some c.parameter.result ≡ true → (b : ℕ) → b ≡ before_by (rank_of (ranks_in (take a.r a.rules.now))) l.sizes (words_in (take (2 * l.i) c.body-body.result.now))
    → (l.last ≤ b) × SoFar (written_rules a.file.now) a.r (length a.sizes.now) (l.i + 1) b (l.m + 1) (set l.sizes l.m (b - l.last))
found c isn b is =
    let a = c.args in
    let l = c.loop-i in
    let t = bytes_there c.requires.0 a.r c.requires.1 c.body-body.result.now c.body-body.ensures in
    let p = parameter_is c.requires.0 a.r c.requires.1 t l.i (omega arith) c.word_at.result c.parameter.result c.word_at.ensures c.parameter.ensures ∙ isn in
    let len = length a.sizes.now in
    let q = before_found c.requires.0 a.r c.requires.1 t l.i (omega arith) len l.last l.m l.sizes l.invariant p b is in
    parameter_word_lem (written_rules a.file.now) c.requires.0.is_formed a.r (count c.requires.0 a.r c.requires.1) len
    (inside c.requires.0 a.r c.requires.1 a.sizes.now c.requires.2).1
    l.i l.last l.m l.sizes l.invariant (omega (arith, c.requires.4, c.requires.5))
    (in_body c.requires.0 a.r c.requires.1 t l.i (omega arith)) p b q

pub overflow_sub-sizes : goal.overflow_sub-sizes
overflow_sub-sizes c =
    (found (goal.at.overflow_sub-sizes c).After-parameter (sym c.is_some.ensures ∙ c.if-is_some.true) c.before-b.result c.before-b.ensures.0).0

pub offset_bounds-sizes-m : goal.offset_bounds-sizes-m
offset_bounds-sizes-m c =
    omega (arith, room_left (goal.at.offset_bounds-sizes-m c).At-loop-i)

pub bounds-sizes-m : goal.bounds-sizes-m
bounds-sizes-m c =
    omega (arith, room_left (goal.at.bounds-sizes-m c).At-loop-i)

pub overflow_add-m : goal.overflow_add-m
overflow_add-m c =
    omega (arith, room_left (goal.at.overflow_add-m c).At-loop-i)

pub loop-i-preserved : goal.loop-i-preserved
loop-i-preserved c =
    elim c.if-is_some.branch [
      | then-is_some w ↦
          let f = found (goal.at.loop-i-preserved c).After-parameter (sym c.is_some.ensures ∙ w.if-is_some.true) w.before-b.result w.before-b.ensures.0 in
          so_same f.1 w.sizes-is w.last-is w.m-is
      | else-is_some w ↦
          let a = c.args in
          let l = c.loop-i in
          let t = bytes_there c.requires.0 a.r c.requires.1 c.body-body.result.now c.body-body.ensures in
          let p = parameter_is c.requires.0 a.r c.requires.1 t l.i (omega arith) c.word_at.result c.parameter.result
          c.word_at.ensures c.parameter.ensures ∙ sym c.is_some.ensures ∙ w.if-is_some.false in
          let S =
          other_word (written_rules a.file.now) c.requires.0.is_formed a.r (count c.requires.0 a.r c.requires.1) (length a.sizes.now)
          (inside c.requires.0 a.r c.requires.1 a.sizes.now c.requires.2).1 l.i l.last l.m l.sizes l.invariant
          (in_body c.requires.0 a.r c.requires.1 t l.i (omega arith)) p in
          so_same S w.sizes-is w.last-is w.m-is
    ]

-- after the last word
finished : (c : After-loop-i)
    → let l = c.loop-i in
    let a = c.args in
    (l.last ≤ a.all) × RowsBelow (suc a.r) (written_rules a.file.now) (set l.sizes l.m (a.all - l.last))
finished c =
    let a = c.args in
    let l = c.loop-i in
    let t = bytes_there c.requires.0 a.r c.requires.1 c.body-body.result.now c.body-body.ensures in
    finish (written_rules a.file.now) c.requires.0.is_formed a.r (count c.requires.0 a.r c.requires.1) (length a.sizes.now)
    (inside c.requires.0 a.r c.requires.1 a.sizes.now c.requires.2).1
    l.i l.last l.m l.sizes l.invariant (omega (arith, c.requires.4, c.requires.5)) (omega (arith, t.many)) a.all c.requires.4

pub overflow_sub-sizes-2 : goal.overflow_sub-sizes-2
overflow_sub-sizes-2 c =
    (finished (goal.at.overflow_sub-sizes-2 c).After-loop-i).0

pub offset_bounds-sizes-m-2 : goal.offset_bounds-sizes-m-2
offset_bounds-sizes-m-2 c =
    omega (arith, room_left (goal.at.offset_bounds-sizes-m-2 c).At-loop-i)

pub bounds-sizes-m-2 : goal.bounds-sizes-m-2
bounds-sizes-m-2 c =
    omega (arith, room_left (goal.at.bounds-sizes-m-2 c).At-loop-i)

pub returns : goal.returns
returns c =
    (finished (goal.at.returns c).After-loop-i).1
