-- `grammar::sizes::measure_rule` meets its contract: the body's words add up to the rule's size.
use mathlib.Core.Path.{◌≡◌, ◌∙◌}
use mathlib.Core.List.{[]}
use native.Mathlib.Omega.{arith}
use lib.ListN.{get_or}
use Rattle.model.specs.Trees.{size, expansions}
use Rattle.grammar.specs.Meaning.{written_rules}
use Rattle.grammar.proofs.Entered.{body_there, bytes_there}
use Rattle.grammar.proofs.Tabled.{size_found}
use Rattle.grammar.proofs.sizes.measure_rule.Goals.{After-body, After-total-all}
use Rattle.grammar.proofs.sizes.measure_rule.Goals as goal

pub body-requires : goal.body-requires
body-requires c = (body_there c.requires.0 c.args.r c.requires.1).fits

pub total-all-requires : goal.total-all-requires
total-all-requires c =
    ((bytes_there c.requires.0 c.args.r c.requires.1 c.body.result.now c.body.ensures).short, c.requires.2, c.requires.3.small)

-- its size was found
found : (c : After-total-all) → c.total-all.result ≡ size (get_or (expansions (written_rules c.args.file.now)) c.args.r [])
found c =
    c.total-all.ensures.0
    ∙ size_found c.requires.0 c.args.r c.requires.1 (bytes_there c.requires.0 c.args.r c.requires.1 c.body.result.now c.body.ensures) c.args.sizes.now c.requires.3

pub returns-then-all-gt-LARGEST_SIZE : goal.returns-then-all-gt-LARGEST_SIZE
returns-then-all-gt-LARGEST_SIZE c = (
  omega (arith, found (goal.at.returns-then-all-gt-LARGEST_SIZE c).After-total-all, c.if-all-gt-LARGEST_SIZE.true),
  λ i. record { refusal = c.at.ensures.0 i; place = c.at.ensures.1 i },
)

pub gaps-requires : goal.gaps-requires
gaps-requires c =
    (c.requires.0, c.requires.1, c.requires.2, c.requires.3, found (goal.at.gaps-requires c).After-total-all, omega (arith, c.if-all-gt-LARGEST_SIZE.false))

pub returns : goal.returns
returns c =
    let f = found (goal.at.returns c).After-total-all in
    (omega (arith, c.if-all-gt-LARGEST_SIZE.false), c.gaps.ensures)
