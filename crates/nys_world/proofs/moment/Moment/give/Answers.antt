use Rattle.std.proofs.Common.{◌∙◌, sym}
use Rattle.nys_rules.specs.Happening.{IsGiven, NodeTakes, OlympusTakes}
use Rattle.nys_config.specs.Scopes.{scope_of}
use Rattle.nys_world.specs.Given.{bytes_given}
use Rattle.nys_rules.specs.World.{World}
use Rattle.nys_world.specs.Shows.{setting_of, ShowsOn}
use Rattle.nys_world.proofs.GivenLemmas.{given_host, given_liar, given_olympus}
use Rattle.nys_world.proofs.GoingLemmas.{happened_weaker}
use Rattle.nys_world.proofs.PlaceLemmas.{honest_other}
use Rattle.nys_world.proofs.moment.Moment.give.Goals as goal

-- the Olympus is given it
pub returns-then-to-eq-LAST_PARTY : goal.returns-then-to-eq-LAST_PARTY
returns-then-to-eq-LAST_PARTY g c = λ w s.
    let rules = g.P.Protocol.rules c.args.stage.now.cx.protocol in
    let setting = setting_of rules c.args.stage.now in
    let packet = c.args.packet in
    let frame = bytes_given w packet in
    happened_weaker (λ (_ : Unit {0}) (next : World). ShowsOn rules c.args.stage.now c.give_olympus.new.self next) (OlympusTakes setting w packet frame) (IsGiven setting w c.args.to packet frame) c.give_olympus.result
    (λ r takes. given_olympus setting w c.args.to packet frame r c.if-to-eq-LAST_PARTY.true takes) (c.give_olympus.ensures w s)

-- a liar is
pub returns-then-not-is_honest_host : goal.returns-then-not-is_honest_host
unfolding scope_of
returns-then-not-is_honest_host g c = λ w s.
    let setting = setting_of (g.P.Protocol.rules c.args.stage.now.cx.protocol) c.args.stage.now in
    let same = honest_other setting c.args.to c.is_honest_host.result c.if-to-eq-LAST_PARTY.false c.is_honest_host.ensures.value in
    (w, given_liar setting w c.args.to c.args.packet (bytes_given w c.args.packet) (sym same ∙ c.if-not-is_honest_host.true), s)

-- the host is one of the first 32
pub give_host-requires-clause-host : goal.give_host-requires-clause-host
give_host-requires-clause-host g c = c.is_honest_host.ensures.host c.if-not-is_honest_host.false

-- it doesn't lie
pub give_host-requires-clause-honest : goal.give_host-requires-clause-honest
unfolding scope_of
give_host-requires-clause-honest g c =
    let setting = setting_of (g.P.Protocol.rules c.args.stage.now.cx.protocol) c.args.stage.now in
    sym (honest_other setting c.args.to c.is_honest_host.result c.if-to-eq-LAST_PARTY.false c.is_honest_host.ensures.value) ∙ c.if-not-is_honest_host.false

-- an honest host is given it
pub returns : goal.returns
unfolding scope_of
returns g c = λ w s.
    let rules = g.P.Protocol.rules c.args.stage.now.cx.protocol in
    let setting = setting_of rules c.args.stage.now in
    let packet = c.args.packet in
    let frame = bytes_given w packet in
    let honest = sym (honest_other setting c.args.to c.is_honest_host.result c.if-to-eq-LAST_PARTY.false c.is_honest_host.ensures.value) ∙ c.if-not-is_honest_host.false in
    happened_weaker (λ (_ : Unit {0}) (next : World). ShowsOn rules c.args.stage.now c.give_host.new.self next) (NodeTakes setting w c.args.to packet frame) (IsGiven setting w c.args.to packet frame) c.give_host.result
    (λ r takes. given_host setting w c.args.to packet frame r c.if-to-eq-LAST_PARTY.false honest takes) (c.give_host.ensures w s)
