use Rattle.std.proofs.Common.{◌≡◌, ◌++◌, drop}
use Rattle.std.specs.Fmt.{signed_decimal}
use Rattle.std.specs.List.{flat_map}
use Rattle.nys_text.proofs.print.put_after_each.Given as goal

abbrev pub invariant-loop-number : goal.invariant-loop-number
invariant-loop-number l =
    l.out ++ flat_map (λ n. l.separator ++ signed_decimal n) (drop l.number-index l.numbers)
    ≡ l.fn.out ++ flat_map (λ n. l.separator ++ signed_decimal n) l.numbers
