use Rattle.std.proofs.Common.{◌≡◌, sym, ◌∙◌}
use Rattle.std.proofs.lemmas.Result.{IfOk-weaker}
use Rattle.nys_node.proofs.Options.{only_failed, only_passed}
use Rattle.nys_node.specs.Means.{Means}
use Rattle.nys_config.specs.Scopes.{scope_of}
use Rattle.nys_rules.specs.Heads.{candidate}
use Rattle.nys_rules.specs.Rules.{to_offer}
use Rattle.nys_rules.specs.View.{View}
use Rattle.nys_node.proofs.node.Node.to_offer.Goals as goal

-- the node may offer its candidate
pub returns-then-may_offer : goal.returns-then-may_offer
unfolding to_offer
returns-then-may_offer g c = IfOk-weaker c.candidate.result
    (λ found. (v : View) → Means (scope_of (g.P.Protocol.rules c.args.cx.now.protocol) c.args.cx.now) c.args.self.now v → found ≡ candidate (scope_of (g.P.Protocol.rules c.args.cx.now.protocol) c.args.cx.now) v c.args.h)
    (λ found. (v : View) → Means (scope_of (g.P.Protocol.rules c.args.cx.now.protocol) c.args.cx.now) c.args.self.now v → found ≡ to_offer (scope_of (g.P.Protocol.rules c.args.cx.now.protocol) c.args.cx.now) v c.args.h)
    (λ found is v m. only_passed _ _ _ (sym (c.may_offer.ensures v m) ∙ c.if-may_offer.true) (is v m)) c.candidate.ensures

-- it may not
pub returns-else-may_offer : goal.returns-else-may_offer
unfolding to_offer
returns-else-may_offer g c = λ v m. only_failed _ _ (sym (c.may_offer.ensures v m) ∙ c.if-may_offer.false)
