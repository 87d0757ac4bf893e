-- the effects so far are the sends to the neighbours below `q`
use Rattle.std.proofs.Common.{◌≡◌, ◌++◌}
use Rattle.nys_graph.specs.Links.{linked_in}
use Rattle.nys_route.specs.Sends.{is_other, sends_where}
use Rattle.nys_route.proofs.sends.send_others.Given as goal

abbrev pub invariant-loop-q : goal.invariant-loop-q
invariant-loop-q l =
    l.effects.items ≡ l.fn.effects.items ++ sends_where l.q (is_other (linked_in l.graph.rows) l.h l.from) l.payload
