-- the node of an honest host has its lines, and a liar has none
use Rattle.std.proofs.Common.{ap, subst, sym, ◌∙◌}
use Rattle.std.proofs.lemmas.Result.{on_ok_weaker}
use Rattle.nys_config.specs.Scopes.{scope_of}
use Rattle.nys_report.proofs.SectionLemmas.{guard_there, honest_printed, liar_printed}
use Rattle.nys_world.proofs.PlaceLemmas.{honest_party}
use Rattle.nys_report.proofs.section.put_guard_of.Goals as goal
use Rattle.nys_report.specs.Nodes.{IsGuardOf}
use Rattle.nys_world.specs.Shows.{setting_of}

pub returns-in-Some : goal.returns-in-Some
returns-in-Some g c =
    let stage = c.args.world.now.stage in
    let rules = g.P.Protocol.rules stage.cx.protocol in
    let setting = setting_of rules stage in
    let node = c.in-Some.node.now in
    on_ok_weaker c.put_guard.result (λ printed w is spells.
    let there = c.in-Some.ensures.some w is in
    let guard = guard_there rules stage w c.args.g node c.requires.host c.requires.few spells there.0 there.1 in
    let here = subst (λ cx. IsGuardOf (scope_of (g.P.Protocol.rules cx.protocol) cx) setting w c.args.g node) (sym c.config.ensures) guard in
    honest_printed setting w c.args.g c.args.out.now c.put_guard.new.out guard.honest (printed setting w here))
    c.put_guard.ensures

pub returns-in-None : goal.returns-in-None
returns-in-None g c = λ w is spells.
    let stage = c.args.world.now.stage in
    let setting = setting_of (g.P.Protocol.rules stage.cx.protocol) stage in
    liar_printed setting w c.args.g c.args.out.now (honest_party setting c.args.g c.requires.few ∙ c.in-None.ensures.none w is)
