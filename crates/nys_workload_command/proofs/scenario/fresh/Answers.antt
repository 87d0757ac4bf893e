-- the scenario is that of the ring, and nodes take its configuration
use Rattle.std.proofs.Common.{subst, sym, ◌∙◌}
use Rattle.std.proofs.lemmas.Result.{IfOk-weaker}
use Rattle.nys_config.specs.Config.{IsConfig}
use Rattle.nys_config.specs.declared.config.Config.{Config}
use Rattle.nys_native.specs.declared.flood.Flood.{Flood}
use Rattle.nys_workload_command.proofs.ScenarioLemmas.{ring_config, ring_setting, ring_stage}
use Rattle.nys_workload_command.proofs.scenario.fresh.Goals as goal

pub fresh-requires : goal.fresh-requires
fresh-requires c =
    let cx : Config Flood =
    record { protocol = record { graph = c.in_ok-graph.graph }; epochs = c.in_ok-epochs.epochs; keys = c.in_ok-keys.keys } in
    record { config = subst (λ n. IsConfig n cx) (sym c.in_ok-graph.ensures.hosts) (ring_config c.args.hosts cx c.in_ok-epochs.ensures) }

pub returns-clause-setting : goal.returns-clause-setting
returns-clause-setting c =
    IfOk-weaker c.fresh.result _ _ (λ world stage.
    ring_setting c.args.hosts world.stage _ _ stage c.in_ok-graph.ensures.hosts c.in_ok-graph.ensures.linked
    (c.in_ok-keys.ensures ∙ c.from_master.ensures) c.empty.ensures c.in_ok-epochs.ensures) c.fresh.ensures.stage

pub returns-clause-stage : goal.returns-clause-stage
returns-clause-stage c =
    IfOk-weaker c.fresh.result _ _ (λ world stage.
    ring_stage c.args.hosts world.stage _ _ stage c.in_ok-graph.ensures.hosts c.in_ok-epochs.ensures) c.fresh.ensures.stage
