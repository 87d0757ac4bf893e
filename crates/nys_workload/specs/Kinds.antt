-- Which kind of event is drawn, by the first number that is drawn for it.
use Rattle.std.specs.Prelude.{ℕ, ◌==◌, if◌then◌else◌, nat_lt}
use Rattle.nys_workload.specs.declared.kind.Kind.{Kind}
use Rattle.nys_workload.specs.declared.kind.Kind.TheVariants.{Input, Exchange, Flush, One}
use Rattle.nys_workload.specs.declared.kind.TheConstants.{MAX_INPUTS}

-- an input, while there are not too many
abbrev pub input_or_flush : ℕ → Kind
input_or_flush inputs = if nat_lt inputs MAX_INPUTS then Input else Flush

-- the kind for a number below 64, where so many inputs were drawn before: 0, 1, 2 to 15, and the rest
abbrev pub kind_by : ℕ → ℕ → Kind
kind_by inputs number =
    if number == 0 then input_or_flush inputs
    else (if number == 1 then Exchange
    else (if nat_lt number 16 then Flush else One))
