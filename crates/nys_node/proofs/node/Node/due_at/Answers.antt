use Rattle.std.proofs.Common.{◌≡◌, sym, ◌∙◌}
use Rattle.std.proofs.lemmas.Result.{IfOk-weaker}
use Rattle.nys_node.proofs.Dues.{due_at_links, due_here, due_later}
use Rattle.nys_node.specs.Dues.{links_due}
use Rattle.nys_node.specs.Means.{Means}
use Rattle.nys_config.specs.Scopes.{scope_of}
use Rattle.nys_rules.specs.Rules.{due_at}
use Rattle.nys_rules.specs.View.{View}
use Rattle.nys_node.proofs.node.Node.due_at.Goals as goal

-- the offer rule comes first
pub returns-in-Some : goal.returns-in-Some
returns-in-Some g c = λ v m. due_here _ _ _ _ _ (sym c.in-Some.is ∙ c.in_ok-offer.ensures v m)
    (due_at_links (scope_of (g.P.Protocol.rules c.args.cx.now.protocol) c.args.cx.now) v c.args.h)

-- then the order rule
pub returns-in-Some-2 : goal.returns-in-Some-2
returns-in-Some-2 g c = λ v m. due_here _ _ _ _ _ (sym c.in-Some-2.is ∙ c.in_ok-order.ensures v m)
    (due_later _ _ _ _ (sym c.in_default.is ∙ c.in_ok-offer.ensures v m) (due_at_links (scope_of (g.P.Protocol.rules c.args.cx.now.protocol) c.args.cx.now) v c.args.h))

-- then the certificate rule
pub returns-in-Some-3 : goal.returns-in-Some-3
returns-in-Some-3 g c = λ v m. due_here _ _ _ _ _ (sym c.in-Some-3.is ∙ c.in_ok-certified.ensures v m)
    (due_later _ _ _ _ (sym c.in_default-2.is ∙ c.in_ok-order.ensures v m) (due_later _ _ _ _ (sym c.in_default.is ∙ c.in_ok-offer.ensures v m) (due_at_links (scope_of (g.P.Protocol.rules c.args.cx.now.protocol) c.args.cx.now) v c.args.h)))

-- then the deliver rule
pub returns-in-Some-4 : goal.returns-in-Some-4
returns-in-Some-4 g c = λ v m. due_here _ _ _ _ _ (sym c.in-Some-4.is ∙ c.in_ok-vote.ensures v m)
    (due_later _ _ _ _ (sym c.in_default-3.is ∙ c.in_ok-certified.ensures v m) (due_later _ _ _ _ (sym c.in_default-2.is ∙ c.in_ok-order.ensures v m) (due_later _ _ _ _ (sym c.in_default.is ∙ c.in_ok-offer.ensures v m) (due_at_links (scope_of (g.P.Protocol.rules c.args.cx.now.protocol) c.args.cx.now) v c.args.h))))

-- then the log rule
pub returns-in-Some-5 : goal.returns-in-Some-5
returns-in-Some-5 g c = λ v m. due_here _ _ _ _ _ (sym c.in-Some-5.is ∙ c.in_ok-entry.ensures v m)
    (due_later _ _ _ _ (sym c.in_default-4.is ∙ c.in_ok-vote.ensures v m) (due_later _ _ _ _ (sym c.in_default-3.is ∙ c.in_ok-certified.ensures v m) (due_later _ _ _ _ (sym c.in_default-2.is ∙ c.in_ok-order.ensures v m) (due_later _ _ _ _ (sym c.in_default.is ∙ c.in_ok-offer.ensures v m) (due_at_links (scope_of (g.P.Protocol.rules c.args.cx.now.protocol) c.args.cx.now) v c.args.h)))))

-- the links come last
pub returns : goal.returns
returns g c = IfOk-weaker c.due_links.result
    (λ found. (v : View) → Means (scope_of (g.P.Protocol.rules c.args.cx.now.protocol) c.args.cx.now) c.args.self.now v → found ≡ links_due (scope_of (g.P.Protocol.rules c.args.cx.now.protocol) c.args.cx.now) v c.args.h 0)
    (λ found. (v : View) → Means (scope_of (g.P.Protocol.rules c.args.cx.now.protocol) c.args.cx.now) c.args.self.now v → found ≡ due_at (scope_of (g.P.Protocol.rules c.args.cx.now.protocol) c.args.cx.now) v c.args.h)
    (λ found is v m. is v m ∙ (due_later _ _ _ _ (sym c.in_default-5.is ∙ c.in_ok-entry.ensures v m) (due_later _ _ _ _ (sym c.in_default-4.is ∙ c.in_ok-vote.ensures v m) (due_later _ _ _ _ (sym c.in_default-3.is ∙ c.in_ok-certified.ensures v m) (due_later _ _ _ _ (sym c.in_default-2.is ∙ c.in_ok-order.ensures v m) (due_later _ _ _ _ (sym c.in_default.is ∙ c.in_ok-offer.ensures v m) (due_at_links (scope_of (g.P.Protocol.rules c.args.cx.now.protocol) c.args.cx.now) v c.args.h))))))) c.due_links.ensures
