use Rattle.nys_rules.specs.View.{length_of}
use Rattle.nys_node.proofs.TellLemmas.{grown_at}
use Rattle.nys_node.proofs.node.Node.act_filled.Goals as goal

-- the entry is logged in the slot behind the log
pub returns-in_ok-grow-in-Inherit : goal.returns-in_ok-grow-in-Inherit
returns-in_ok-grow-in-Inherit g c = λ scope v m slot content makers.
    let h = c.args.h in
    rw c.in-Inherit.is (grown_at c.args.out.now c.grow.new.self h c.log_len.result (length_of v h) c.in_ok-grow-in-Inherit.ensures (c.log_len.ensures scope v m))
