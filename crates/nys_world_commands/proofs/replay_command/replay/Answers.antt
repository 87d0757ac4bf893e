-- each world on the way keeps its promises
use Rattle.std.proofs.Common.{◌≤◌, subst}
use Rattle.nys_hosts.specs.Sets.{has}
use Rattle.nys_world_commands.proofs.ScenarioLemmas.{schedule_promised}
use Rattle.nys_world_commands.proofs.replay_command.replay.Goals as goal

pub returns-clause-promised : goal.returns-clause-promised
returns-clause-promised g c =
    schedule_promised (g.P.Protocol.rules c.args.protocol) c.args.guards.graphs.items c.args.guards.master (has c.args.guards.liars)
    c.args.text.now (subst (λ n. n ≤ 32) c.graph.ensures.hosts c.hosts-hosts.ensures.shape.few) c.requires.playable
