-- the content is taken, and then is the last entry
use Rattle.std.proofs.Common.{◌<◌, ◌++◌, ◌∷◌, [], length, ap, arith, ◌∙◌}
use Rattle.nys_agreement.specs.Alone.{alone}
use Rattle.nys_replica.proofs.StandsLemmas.{has_room, same_length, stands_more}
use Rattle.nys_replica.proofs.StateLemmas.{has_state}
use Rattle.nys_replica.proofs.replica.Replica.apply.Goals as goal

pub take-requires-clause-room : goal.take-requires-clause-room
take-requires-clause-room g c =
    has_room (g.P.Protocol.rules c.args.protocol.now) c.requires.next.h c.args.self c.requires.next.log c.args.content
    c.hosts_of-hosts.ensures.few c.requires.next.stands c.requires.next.room c.requires.next.fits

-- the state is one of the protocol
pub take-requires-clause-state : goal.take-requires-clause-state
take-requires-clause-state g c =
    let stands = c.requires.next.stands in
    has_state (g.P.Protocol.rules c.args.protocol.now) (g.P.Protocol.is_state c.args.protocol.now) c.requires.next.h c.args.self c.requires.next.log
    (g.met.P.Protocol.start_is_state c.args.protocol.now c.requires.next.h)
    (λ s from payload is. g.met.P.Protocol.next_is_state c.args.protocol.now c.requires.next.h s from payload is) stands

pub returns : goal.returns
returns g c = record {
  stands = λ h log stands.
      let rules = g.P.Protocol.rules c.args.protocol.now in
      let same = same_length rules h c.requires.next.h c.args.self log c.requires.next.log stands c.requires.next.stands in
      let room : length log < 1024 = omega (arith, same, c.requires.next.room) in
      let held = c.in_ok-taken.ensures.holds h (alone rules h log) stands.holds in
      stands_more rules h c.args.self _ log c.args.content stands room
      (ap (λ t. t.first) c.in_ok-push.ensures ∙ ap (λ t. t.first) c.in_ok-taken.ensures.entries)
      (ap (λ t. t.entries) c.in_ok-push.ensures ∙ ap (λ t. t.entries ++ c.args.content ∷ []) c.in_ok-taken.ensures.entries)
      (record { host = held.host; state = held.state; outs = held.outs; sent = held.sent; received = held.received });
  kept = ap (λ t. t.first) c.in_ok-push.ensures ∙ ap (λ t. t.first) c.in_ok-taken.ensures.entries;
}
