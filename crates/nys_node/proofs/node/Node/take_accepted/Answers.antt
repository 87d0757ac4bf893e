use Rattle.std.proofs.Common.{◌≡◌, ◌==◌, ◌∙◌, ap}
use Rattle.std.specs.List.{list_any}
use Rattle.nys_rules.specs.Dropping.{accepted}
use Rattle.nys_rules.specs.Handling.{acts_by_body, hosts_among}
use Rattle.nys_rules.specs.Noting.{noted_body}
use Rattle.nys_rules.specs.Packets.{joined}
use Rattle.nys_rules.specs.Scope.{olympus}
use Rattle.nys_config.specs.Scopes.{scope_of}
use Rattle.nys_node.proofs.HandleLemmas.{accepted_rise, noted_view, notes_is}
use Rattle.nys_node.proofs.NoteLemmas.{act_ready, note_ready}
use Rattle.nys_node.proofs.node.Node.take_accepted.Goals as goal

-- it may do what the record asks for
pub act-requires-clause-ready : goal.act-requires-clause-ready
act-requires-clause-ready g c = act_ready (g.P.Protocol.rules c.args.cx.now.protocol) c.args.cx.now c.args.self.now c.args.given c.args.makers.items c.requires.ready

-- it may note it
pub note-requires-clause-ready : goal.note-requires-clause-ready
note-requires-clause-ready g c = note_ready (g.P.Protocol.rules c.args.cx.now.protocol) c.args.cx.now c.args.self.now c.args.given c.args.makers.items c.requires.ready

-- accepted makers rise
pub hosts_among-hosts-requires : goal.hosts_among-hosts-requires
hosts_among-hosts-requires g c =
    let scope = scope_of (g.P.Protocol.rules c.args.cx.now.protocol) c.args.cx.now in
    let r = c.args.given in
    record { rising = accepted_rise scope r.statement.epoch c.args.self.now.me r c.as_slice-2.result.now c.requires.ready.well (c.as_slice-2.ensures.value ∙ c.requires.ready.makers_are) }

-- the node means the view in which the record is noted
pub settle-requires-clause-view : goal.settle-requires-clause-view
settle-requires-clause-view g c =
    let scope = scope_of (g.P.Protocol.rules c.args.cx.now.protocol) c.args.cx.now in
    let ready = c.requires.ready in
    let v = ready.view in
    let r = c.args.given in
    let makers = c.args.makers.items in
    let m = ready.is.means in (
      noted_body scope r.statement.epoch r.statement.body makers v,
      noted_view scope c.note.new.self v r makers (ready.placed v m) (ready.makers_are ∙ ap (λ me. accepted scope r.statement.epoch me r) m.me) ready.some ready.well ready.is.sound (c.in_ok-note.ensures v m),
    )

-- what was done at once, and then what settling did
pub returns : goal.returns
returns g c = λ v is.
    let scope = scope_of (g.P.Protocol.rules c.args.cx.now.protocol) c.args.cx.now in
    let ready = c.requires.ready in
    let r = c.args.given in
    let makers = c.args.makers.items in
    let m = is.means in
    let are : makers ≡ accepted scope r.statement.epoch v.me r = ready.makers_are ∙ ap (λ me. accepted scope r.statement.epoch me r) m.me in
    let s = c.in_ok-settle.ensures (noted_body scope r.statement.epoch r.statement.body makers v)
    (noted_view scope c.note.new.self v r makers (ready.placed v m) are ready.some ready.well is.sound (c.in_ok-note.ensures v m)) in (
      s.after,
      s.is,
      notes_is scope v s.after r makers c.new-out.result c.act.new.out c.settle.new.out s.rest c.handled.result c.hosts_among-hosts.result c.has_olympus-olympus.result
          are s.settles c.new-out.ensures (c.in_ok-act.ensures v m ∙ ap (λ ms. joined c.new-out.result (acts_by_body scope v r.statement.body ms)) c.as_slice.ensures.value) s.acts c.handled.ensures
          (c.hosts_among-hosts.ensures ∙ ap (λ ms. hosts_among ms) c.as_slice-2.ensures.value) (c.has_olympus-olympus.ensures ∙ ap (λ ms. list_any (λ m. m.maker == olympus) ms) c.as_slice-3.ensures.value),
    )
