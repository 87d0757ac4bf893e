-- the world after the events is one that spells its logs, and is told; an end has its line
use Rattle.nys_world_commands.proofs.ComingLemmas.{replay_coming}
use Rattle.std.proofs.lemmas.Result.{IfOk-weaker}
use Rattle.nys_rules.specs.World.{fresh_world}
use Rattle.nys_world.specs.Shows.{setting_of}
use Rattle.nys_world.specs.Worlds.{IsWorldOf}
use Rattle.nys_world_commands.proofs.AnswerLemmas.{telling_answered}
use Rattle.nys_world_commands.proofs.StageLemmas.{world_printed, world_spelled, world_traced}
use Rattle.nys_world_commands.proofs.playing.play.Goals as goal

pub told-requires-clause-spelled : goal.told-requires-clause-spelled
told-requires-clause-spelled g c =
    let stage = c.args.world.stage in
    let first = fresh_world (setting_of (g.P.Protocol.rules stage.cx.protocol) stage) in
    let happened = c.in-Ok.ensures.happens first c.requires.first in
    world_spelled g.P.Protocol.rules stage c.in-Ok.next happened.0 c.in-Ok.ensures.stage happened.2
    (c.in-Ok.ensures.promised c.requires.scenario happened.0 happened.2)

pub told-requires-clause-traced : goal.told-requires-clause-traced
told-requires-clause-traced g c = λ is. world_traced c.args.world.stage c.in-Ok.next c.in-Ok.ensures.stage (c.requires.traced is)

pub returns-in-Ok : goal.returns-in-Ok
returns-in-Ok g c =
    let stage = c.args.world.stage in
    let rules = g.P.Protocol.rules stage.cx.protocol in
    let setting = setting_of rules stage in
    let happened = c.in-Ok.ensures.happens (fresh_world setting) c.requires.first in
    IfOk-weaker c.told.result _ _ (λ answer printed.
    telling_answered c.args.telling (IsWorldOf rules) setting _ c.in-Ok.next answer happened
    (world_printed c.args.telling g.P.Protocol.rules stage c.in-Ok.next answer c.in-Ok.ensures.stage printed)) c.told.ensures
