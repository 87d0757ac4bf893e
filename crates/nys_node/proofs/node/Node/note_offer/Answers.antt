use Rattle.std.proofs.Common.{subst}
use Rattle.nys_rules.specs.Noting.{at_desk, with_held}
use Rattle.nys_node.specs.Means.{Means}
use Rattle.nys_node.proofs.node.Node.note_offer.Goals as goal

-- a copy of the content is held
pub returns : goal.returns
returns g c = λ scope v m.
    subst (λ content. Means scope c.hold.new.self (at_desk c.args.h (with_held content) v)) c.in_ok-content.ensures (c.hold.ensures scope v m)
