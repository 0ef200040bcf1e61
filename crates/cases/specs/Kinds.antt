-- The kinds of the records in a data file.
use Rattle.std.specs.Prelude.{ℕ, if◌then◌else◌, ◌==◌}
use Rattle.cases.specs.declared.case.Kind.{Kind}
use Rattle.cases.specs.declared.case.Kind.TheVariants.{File, Check, Label, Window, Other}

-- by its number
abbrev pub kind_of : ℕ → Kind
kind_of n = if n == 1 then File else (if n == 2 then Check else (if n == 3 then Label else (if n == 4 then Window else Other n)))
