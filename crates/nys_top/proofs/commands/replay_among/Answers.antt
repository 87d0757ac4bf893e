-- the answer among the scenario's guards, for each protocol
use Rattle.std.proofs.Common.{ap}
use Rattle.nys_scenario.specs.Document.{said_by}
use Rattle.nys_scenario.specs.Protocol.{protocol_by}
use Rattle.nys_top.proofs.AmongLemmas.{among, with_machine, with_protocol}
use Rattle.nys_top.proofs.commands.replay_among.Goals as goal

pub returns-in-Sum : goal.returns-in-Sum
returns-in-Sum c =
    with_protocol c.args.telling (said_by c.args.scenario) _ _ c.replay.result (ap protocol_by c.in-Sum.is)
    (among c.args.telling _ _ c.args.guards _ c.replay.result c.requires.guards c.as_str-schedule.ensures c.replay.ensures.answered)

pub returns-in-Flood : goal.returns-in-Flood
returns-in-Flood c =
    with_protocol c.args.telling (said_by c.args.scenario) _ _ c.replay-in-Flood.result (ap protocol_by c.in-Flood.is)
    (among c.args.telling _ _ c.args.guards _ c.replay-in-Flood.result c.requires.guards c.as_str-schedule.ensures c.replay-in-Flood.ensures.answered)

pub returns-in-Route : goal.returns-in-Route
returns-in-Route c =
    with_protocol c.args.telling (said_by c.args.scenario) _ _ c.replay-in-Route.result (ap protocol_by c.in-Route.is)
    (among c.args.telling _ _ c.args.guards _ c.replay-in-Route.result c.requires.guards c.as_str-schedule.ensures c.replay-in-Route.ensures.answered)

pub returns-in-Tree : goal.returns-in-Tree
returns-in-Tree c =
    with_protocol c.args.telling (said_by c.args.scenario) _ _ c.replay-in-Tree.result (ap protocol_by c.in-Tree.is)
    (among c.args.telling _ _ c.args.guards _ c.replay-in-Tree.result c.requires.guards c.as_str-schedule.ensures c.replay-in-Tree.ensures.answered)

pub returns : goal.returns
returns c =
    with_protocol c.args.telling (said_by c.args.scenario) _ _ c.replay-in-Machine.result (ap protocol_by c.in-Machine.is)
    (with_machine c.args.telling (said_by c.args.scenario) c.new.result.named c.in-Machine.named c.new.result.graph c.args.scenario.graph
    c.replay-in-Machine.result c.new.ensures.named c.new.ensures.graph
    (among c.args.telling _ (said_by c.args.scenario) c.args.guards _ c.replay-in-Machine.result c.requires.guards c.as_str-schedule.ensures
    c.replay-in-Machine.ensures.answered))
