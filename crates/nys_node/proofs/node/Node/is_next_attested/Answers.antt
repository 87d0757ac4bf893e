use Rattle.std.proofs.Common.{ap, ◌∙◌, arith}
use Rattle.nys_rules.specs.Heads.{is_same}
use Rattle.nys_config.specs.Scopes.{scope_of}
use Rattle.nys_node.proofs.HeadLemmas.{first_fails, last_tells}
use Rattle.nys_node.proofs.node.Node.is_next_attested.Goals as goal

-- the sender is no neighbour
pub returns-then-not-is_neighbour : goal.returns-then-not-is_neighbour
unfolding scope_of
returns-then-not-is_neighbour g c = λ v m. first_fails _ _ _ c.if-not-is_neighbour.true c.is_neighbour.ensures.value

-- the number comes next, and what is attested for it is compared
pub returns-then-k-next_number : goal.returns-then-k-next_number
unfolding scope_of
returns-then-k-next_number g c = λ v m.
    let scope = scope_of (g.P.Protocol.rules c.args.cx.now.protocol) c.args.cx.now in
    last_tells _ _ _ _ _ _ _ c.if-not-is_neighbour.false c.is_neighbour.ensures.value c.if-k-next_number.true (c.next_number.ensures scope v m)
    (c.is_same.ensures ∙ ap (λ found. is_same found c.args.payload.now)
    (c.attested_payload.ensures v m (omega (arith, c.if-k-next_number.true, c.next_number.ensures scope v m))))
