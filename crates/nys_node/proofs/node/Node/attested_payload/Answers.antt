use Rattle.std.proofs.Common.{◌≡◌, ap, sym, ◌∙◌}
use Rattle.std.specs.Prelude.{slice_get, slice_index_or, Some}
use Rattle.std.proofs.lemmas.Option.{slice_get_read}
use Rattle.nys_config.specs.Scopes.{scope_of}
use Rattle.nys_node.proofs.HeadLemmas.{attested_same}
use Rattle.nys_node.proofs.node.Node.attested_payload.Goals as goal

-- what is heard and the node's own payload are the view's
pub returns-in-Some : goal.returns-in-Some
returns-in-Some g c = λ v m next.
    let scope = scope_of (g.P.Protocol.rules c.args.cx.now.protocol) c.args.cx.now in
    let at : slice_get c.args.self.now.heard.items c.args.h ≡ Some c.in-Some.table.now =
    slice_get_read c.args.self.now.heard.items 32 c.args.h c.in-Some.table.now (sym m.tables) c.requires.host (c.in-Some.ensures.lookup.1
    ∙ ap (λ tables. slice_index_or tables c.args.h c.in-Some.table.now) c.deref.ensures.value) in
    c.attested_with.ensures
    ∙ attested_same scope v c.args.p c.args.h c.args.k _ _ _ _
    (c.threshold.ensures ∙ ap (λ e. scope.t e c.args.p) m.epoch) m.me (c.own_attest.ensures scope v m)
    ((m.heard c.args.h _ at).heard_is c.args.p c.args.k c.requires.sender next)
