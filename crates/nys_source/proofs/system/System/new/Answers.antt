-- the lists are those with which a system begins
use Rattle.nys_source.proofs.FreshLemmas.{shown-fresh}
use Rattle.nys_source.proofs.system.System.new.Goals as goal

pub returns-clause-system : goal.returns-clause-system
returns-clause-system g c =
    rw (c.new-running.ensures, c.in_ok-outs.ensures, c.in_ok-sent.ensures, c.in_ok-received.ensures, c.new-messages.ensures.items)
    (shown-fresh (g.P.Protocol.rules c.args.protocol) c.in_ok-states.states.items c.in_ok-states.ensures.states)
