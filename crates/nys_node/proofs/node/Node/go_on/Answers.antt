use Rattle.nys_node.proofs.HandleLemmas.{done_is}
use Rattle.nys_node.proofs.node.Node.go_on.Goals as goal

-- what was done, and then what settling did
pub returns : goal.returns
returns g c = λ v is.
    let s = c.in_ok-settle.ensures v is in (
      s.after,
      s.is,
      record {
        rest = s.rest;
        settles = s.settles;
        told = done_is c.handled.result c.settle.new.out c.args.out s.rest c.empty.result c.handled.ensures s.acts c.empty.ensures;
      },
    )
