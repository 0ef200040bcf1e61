-- `grammar::file::record_at` meets its contract: the conditions in the page's order, each where the earlier ones do not hold.
use Prim.Native.Nat.{◌+◌}
use mathlib.Core.Path.{◌≡◌, refl, sym, ◌∙◌}
use native.Mathlib.Omega.{arith}
use denote.Enum.Declared.{tag_of}
use Rattle.grammar.specs.declared.file.Kind.{Kind}
use Rattle.grammar.specs.declared.file.Kind.TheVariants.{Head, Rule}
use Rattle.grammar.specs.contracts.file.Kind.{the_type}
use Rattle.grammar.specs.Meaning.{kind_is}
use Rattle.grammar.proofs.Records.{record_kind}
use Rattle.grammar.proofs.file.record_at.Goals as goal

-- the number that the kind is declared with
kind_number : (k : Kind) → tag_of the_type k + 1 ≡ kind_is k
kind_number Head = refl
kind_number Rule = refl

pub returns-then-word_at-kind : goal.returns-then-word_at-kind
returns-then-word_at-kind c =
    let a = c.args in
    sym (record_kind a.file.now a.at (kind_is a.kind) c.requires (omega arith) (λ e. c.if-word_at-kind.true (c.word_at.ensures ∙ e ∙ sym (kind_number a.kind))))
