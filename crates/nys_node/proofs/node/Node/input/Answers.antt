use Rattle.std.proofs.Common.{◌≤◌, ◌<◌, ap, length, arith}
use Rattle.nys_rules.specs.Packets.{nothing}
use Rattle.nys_rules.specs.Handling.{with_input}
use Rattle.nys_config.specs.Scopes.{scope_of}
use Rattle.nys_node.proofs.HandleLemmas.{goes_as, takes_none, takes_one}
use Rattle.nys_node.proofs.SoundViews.{sound_input}
use Rattle.nys_node.proofs.node.Node.input.Goals as goal

-- the queue is full
pub returns-then-len-ge-MAX_WAITING : goal.returns-then-len-ge-MAX_WAITING
returns-then-len-ge-MAX_WAITING g c = record {
  takes = λ v is.
      let scope = scope_of (g.P.Protocol.rules c.args.cx.now.protocol) c.args.cx.now in
      let full : 1024 ≤ length v.waiting = omega (arith, c.len.ensures.len, ap length is.means.waiting, c.if-len-ge-MAX_WAITING.true) in
      (v, is, takes_none scope v c.args.payload c.dropped.result full c.dropped.ensures);
}

-- the node means the view in which the input waits
pub go_on-requires-clause-means : goal.go_on-requires-clause-means
go_on-requires-clause-means g c =
    let scope = scope_of (g.P.Protocol.rules c.args.cx.now.protocol) c.args.cx.now in
    let v = c.requires.means.0 in
    let is = c.requires.means.1 in
    let room : length v.waiting < 1024 = omega (arith, c.len.ensures.len, ap length is.means.waiting, c.if-len-ge-MAX_WAITING.false) in
    (with_input c.args.payload v, record { means = c.wait.ensures scope v room is.means; sound = sound_input scope v c.args.payload is.sound })

-- it waits, and the node settles
pub returns : goal.returns
returns g c = record {
  takes = λ v is.
      let scope = scope_of (g.P.Protocol.rules c.args.cx.now.protocol) c.args.cx.now in
      let room : length v.waiting < 1024 = omega (arith, c.len.ensures.len, ap length is.means.waiting, c.if-len-ge-MAX_WAITING.false) in
      let t = c.in_ok-done.ensures (with_input c.args.payload v) (record { means = c.wait.ensures scope v room is.means; sound = sound_input scope v c.args.payload is.sound }) in
      (t.0, t.1, takes_one scope v t.0 c.args.payload c.in_ok-done.done room (goes_as scope (with_input c.args.payload v) t.0 c.new.result nothing c.in_ok-done.done c.new.ensures t.2));
}
