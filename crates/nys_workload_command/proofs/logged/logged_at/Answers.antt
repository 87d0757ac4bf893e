-- the node of an honest host has its entries, and a liar has none
use Rattle.std.proofs.Common.{arith}
use Rattle.nys_config.specs.Scopes.{scope_of}
use Rattle.nys_workload_command.proofs.LoggedLemmas.{honest_logged, liar_logged}
use Rattle.nys_workload_command.proofs.logged.logged_at.Goals as goal

pub entries-requires-clause-meant : goal.entries-requires-clause-meant
entries-requires-clause-meant g c =
    let stage = c.args.world.now.stage in
    let w = c.requires.shown.0 in
    record {
      scope = scope_of (g.P.Protocol.rules stage.cx.protocol) stage.cx;
      view = w.nodes c.args.g;
      means = (c.in-Some.ensures.some w c.requires.shown.1).1.means;
    }

pub returns-in-Some-clause-sum : goal.returns-in-Some-clause-sum
returns-in-Some-clause-sum g c = λ w is.
    let stage = c.args.world.now.stage in
    let rules = g.P.Protocol.rules stage.cx.protocol in
    let there = c.in-Some.ensures.some w is in
    honest_logged rules stage w c.args.g c.args.hosts c.entries.result (omega (arith, c.requires.host, c.requires.few)) c.requires.all there.0
    (c.entries.ensures.sum (scope_of rules stage.cx) (w.nodes c.args.g) there.1.means)

pub returns-in-None-clause-sum : goal.returns-in-None-clause-sum
returns-in-None-clause-sum g c = λ w is.
    let stage = c.args.world.now.stage in
    liar_logged (g.P.Protocol.rules stage.cx.protocol) stage w c.args.g (omega (arith, c.requires.host, c.requires.few))
    (c.in-None.ensures.none w is)
