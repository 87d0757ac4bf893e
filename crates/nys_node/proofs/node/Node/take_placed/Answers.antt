use Rattle.std.proofs.Common.{◌≡◌, ◌∙◌, [], ◌∷◌, ap, length, subst, sym, arith}
use Rattle.std.specs.Prelude.{filter, None}
use Rattle.nys_rules.specs.Dropping.{accepted, accepts, verdict}
use Rattle.nys_rules.specs.Handling.{Notes}
use Rattle.nys_rules.specs.declared.cause.DropCause.TheVariants as cause
use Rattle.nys_rules.specs.View.{View}
use Rattle.nys_config.specs.Scopes.{scope_of}
use Rattle.nys_node.specs.Handling.{CanNote}
use Rattle.nys_node.specs.Means.{Means}
use Rattle.nys_node.proofs.HandleLemmas.{accepted_few, answers_dropped, answers_noted, on_err, verdict_none, verdict_untagged}
use Rattle.nys_node.proofs.node.Node.take_placed.Goals as goal

-- no maker is accepted
pub returns-in_default-clause-answers : goal.returns-in_default-clause-answers
returns-in_default-clause-answers g c = λ v is.
    let scope = scope_of (g.P.Protocol.rules c.args.cx.now.protocol) c.args.cx.now in
    let r = c.args.given.now in
    let m = is.means in
    let are : [] ≡ accepted scope r.statement.epoch v.me r = sym c.in_default.ensures.none ∙ ap (λ me. accepted scope r.statement.epoch me r) m.me in
    (v, is, answers_dropped scope v r cause.NoTag c.dropped.result (verdict_untagged scope v r [] (c.requires.placed v m) are (omega arith)) c.dropped.ensures)

-- some maker is, and memory is wanting
pub returns-in_err-makers-clause-named : goal.returns-in_err-makers-clause-named
returns-in_err-makers-clause-named g c =
    let scope = scope_of (g.P.Protocol.rules c.args.cx.now.protocol) c.args.cx.now in
    let r = c.args.given.now in
    let first = c.in-Some.first in
    let makers = first.maker ∷ filter (accepts scope r.statement.epoch c.args.self.now.me r.statement) first.behind in
    let holds : (v : View) → Means scope c.args.self.now v → verdict scope v r ≡ None = λ v m. verdict_none scope v r makers (c.requires.placed v m) (sym c.in-Some.ensures.some ∙ ap (λ me. accepted scope r.statement.epoch me r) m.me) (omega arith) in
    on_err c.from_residual.result holds

-- the same where the record is made
pub returns-in_err-record-clause-named : goal.returns-in_err-record-clause-named
returns-in_err-record-clause-named g c =
    let scope = scope_of (g.P.Protocol.rules c.args.cx.now.protocol) c.args.cx.now in
    let r = c.args.given.now in
    let first = c.in-Some.first in
    let makers = first.maker ∷ filter (accepts scope r.statement.epoch c.args.self.now.me r.statement) first.behind in
    let holds : (v : View) → Means scope c.args.self.now v → verdict scope v r ≡ None = λ v m. verdict_none scope v r makers (c.requires.placed v m) (sym c.in-Some.ensures.some ∙ ap (λ me. accepted scope r.statement.epoch me r) m.me) (omega arith) in
    on_err c.from_residual-in_err-record.result holds

-- some maker is
pub take_accepted-requires-clause-ready : goal.take_accepted-requires-clause-ready
take_accepted-requires-clause-ready g c =
    let scope = scope_of (g.P.Protocol.rules c.args.cx.now.protocol) c.args.cx.now in
    let r = c.args.given.now in
    let makers = c.in_ok-makers.makers.items in
    let are : makers ≡ accepted scope r.statement.epoch c.args.self.now.me r = c.in_ok-makers.ensures ∙ sym c.in-Some.ensures.some in
    subst (λ x. CanNote scope c.args.self.now x makers) (sym c.in_ok-record.ensures) (record {
      view = c.requires.means.0;
      is = c.requires.means.1;
      well = c.requires.well;
      placed = c.requires.placed;
      makers_are = are;
      some = omega (arith, ap length c.in_ok-makers.ensures);
      few = omega (arith, ap length are, accepted_few scope r.statement.epoch c.args.self.now.me r c.requires.well);
    })

-- the same where the node hadn't the memory to note it
pub returns-in_err-done-clause-named : goal.returns-in_err-done-clause-named
returns-in_err-done-clause-named g c =
    let scope = scope_of (g.P.Protocol.rules c.args.cx.now.protocol) c.args.cx.now in
    let r = c.args.given.now in
    let first = c.in-Some.first in
    let makers = first.maker ∷ filter (accepts scope r.statement.epoch c.args.self.now.me r.statement) first.behind in
    let holds : (v : View) → Means scope c.args.self.now v → verdict scope v r ≡ None = λ v m. verdict_none scope v r makers (c.requires.placed v m) (sym c.in-Some.ensures.some ∙ ap (λ me. accepted scope r.statement.epoch me r) m.me) (omega arith) in
    on_err c.from_residual-in_err-done.result holds

-- the record is noted
pub returns-clause-answers : goal.returns-clause-answers
returns-clause-answers g c = λ v is.
    let scope = scope_of (g.P.Protocol.rules c.args.cx.now.protocol) c.args.cx.now in
    let r = c.args.given.now in
    let m = is.means in
    let first = c.in-Some.first in
    let makers = first.maker ∷ filter (accepts scope r.statement.epoch c.args.self.now.me r.statement) first.behind in
    let none : verdict scope v r ≡ None = verdict_none scope v r makers (c.requires.placed v m) (sym c.in-Some.ensures.some ∙ ap (λ me. accepted scope r.statement.epoch me r) m.me) (omega arith) in
    let t = c.in_ok-done.ensures v is in
    (t.0, t.1, answers_noted scope v t.0 r c.in_ok-done.done none (subst (λ x. Notes scope v x t.0 c.in_ok-done.done) c.in_ok-record.ensures t.2))
