-- the world that is made has the configuration of the guards, and their scenario
use Rattle.std.proofs.Common.{ap, ◌∙◌, refl, sym, subst, map}
use Rattle.std.specs.Prelude.{IfOk}
use Rattle.nys_follows.specs.Scenario.{IsScenario}
use Rattle.nys_hosts.specs.Sets.{has}
use Rattle.nys_rules.specs.Events.{plain}
use Rattle.nys_played.proofs.ScopeLemmas.{same_scope}
use Rattle.nys_world_commands.proofs.ConfigLemmas.{config_playable}
use Rattle.nys_world_commands.proofs.ScenarioLemmas.{scenario_playable}
use Rattle.nys_world_commands.proofs.StageLemmas.{same_setting, stage_taken}
use Rattle.nys_world_commands.proofs.replay_command.play_events.Goals as goal
use Rattle.nys_world_commands.specs.Replayed.{IsEventsAnswer}

pub fresh-requires : goal.fresh-requires
fresh-requires g c = record { config = config_playable _ (has c.args.guards.liars) _ c.requires.playable }

pub play-requires-clause-stage : goal.play-requires-clause-stage
play-requires-clause-stage g c =
    stage_taken g.P.Protocol.rules c.in_ok-world.world.stage _ c.args.guards.liars c.in_ok-world.ensures.stage
    (config_playable _ (has c.args.guards.liars) _ c.requires.playable)

pub play-requires-clause-scenario : goal.play-requires-clause-scenario
play-requires-clause-scenario g c =
    let rules = g.P.Protocol.rules c.args.protocol in
    let guards = c.args.guards in
    let same = same_setting g.P.Protocol.rules c.in_ok-world.world.stage _ guards.liars c.args.protocol
    guards.graphs.items guards.master c.in_ok-world.ensures.stage
    (same_scope rules _ guards.graphs.items guards.master refl (c.in_ok-keys.ensures ∙ c.from_master.ensures)) in
    subst IsScenario (sym same)
    (scenario_playable rules guards.graphs.items guards.master (has guards.liars) c.requires.hosts c.requires.playable)

pub play-requires-clause-traced : goal.play-requires-clause-traced
play-requires-clause-traced g c = λ is. ap (λ st. st.traced) c.in_ok-world.ensures.stage ∙ c.is_trace.ensures.trace is

pub returns : goal.returns
returns g c =
    let rules = g.P.Protocol.rules c.args.protocol in
    let guards = c.args.guards in
    let same = same_setting g.P.Protocol.rules c.in_ok-world.world.stage _ guards.liars c.args.protocol
    guards.graphs.items guards.master c.in_ok-world.ensures.stage
    (same_scope rules _ guards.graphs.items guards.master refl (c.in_ok-keys.ensures ∙ c.from_master.ensures)) in
    subst (λ setting. IfOk c.play.result (IsEventsAnswer c.args.telling setting (map plain c.args.events.items))) same c.play.ensures
