use Rattle.std.proofs.Common.{◌∙◌, refl, sym}
use Rattle.nys_rules.specs.Happening.{IfHonest, NodeIsHanded}
use Rattle.nys_rules.specs.World.{is_honest, World}
use Rattle.nys_config.specs.Scopes.{scope_of}
use Rattle.nys_world.specs.Shows.{setting_of, ShowsOn}
use Rattle.nys_world.proofs.GoingLemmas.{happened_weaker}
use Rattle.nys_world.proofs.PlaceLemmas.{honest_low}
use Rattle.nys_world.proofs.moment.Moment.input.Goals as goal

-- the host lies
pub returns-then-not-is_honest_host : goal.returns-then-not-is_honest_host
unfolding scope_of
returns-then-not-is_honest_host g c = λ w s.
    let setting = setting_of (g.P.Protocol.rules c.args.stage.now.cx.protocol) c.args.stage.now in
    let same = honest_low setting c.args.h c.is_honest_host.result c.requires.host c.is_honest_host.ensures.value in
    (w, rw (sym same ∙ c.if-not-is_honest_host.true) refl, s)

-- the host is one of the first 32
pub hand-requires-clause-host : goal.hand-requires-clause-host
hand-requires-clause-host g c = c.is_honest_host.ensures.host c.if-not-is_honest_host.false

-- it doesn't lie
pub hand-requires-clause-honest : goal.hand-requires-clause-honest
unfolding scope_of
hand-requires-clause-honest g c =
    let setting = setting_of (g.P.Protocol.rules c.args.stage.now.cx.protocol) c.args.stage.now in
    sym (honest_low setting c.args.h c.is_honest_host.result c.requires.host c.is_honest_host.ensures.value) ∙ c.if-not-is_honest_host.false

-- what happens to its node happens
pub returns : goal.returns
unfolding scope_of
returns g c = λ w s.
    let rules = g.P.Protocol.rules c.args.stage.now.cx.protocol in
    let setting = setting_of rules c.args.stage.now in
    let honest = sym (honest_low setting c.args.h c.is_honest_host.result c.requires.host c.is_honest_host.ensures.value) ∙ c.if-not-is_honest_host.false in
    happened_weaker (λ (_ : Unit {0}) (next : World). ShowsOn rules c.args.stage.now c.hand.new.self next) (NodeIsHanded setting w c.args.h c.args.payload) (λ r. IfHonest (is_honest setting c.args.h) w r (NodeIsHanded setting w c.args.h c.args.payload r)) c.hand.result
    (λ r happens. rw honest happens) (c.hand.ensures w s)
