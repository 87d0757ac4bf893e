use Rattle.std.proofs.Common.{◌≡◌, ◌++◌, drop, codes}
use Rattle.std.specs.List.{flat_map}
use Rattle.nys_text.specs.Printed.{comma_text}
use Rattle.nys_text.proofs.print.put_more_outs.Given as goal

abbrev pub invariant-loop-payload : goal.invariant-loop-payload
invariant-loop-payload l =
    l.out ++ flat_map (λ o. codes " " ++ comma_text o) (drop l.payload-index l.outs)
    ≡ l.fn.out ++ flat_map (λ o. codes " " ++ comma_text o) l.outs
