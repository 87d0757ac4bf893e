use Rattle.std.proofs.Common.{arith, sym, ◌∙◌}
use Rattle.nys_node.proofs.Dues.{dead_links, found_first, found_later, links_next, next_links, no_links}
use Rattle.nys_config.specs.Scopes.{scope_of}
use Rattle.nys_node.proofs.node.Node.due_links.Goals as goal

-- no link into a host that isn't live is attested
pub returns-then-not-live : goal.returns-then-not-live
returns-then-not-live g c = λ v m. dead_links (scope_of (g.P.Protocol.rules c.args.cx.now.protocol) c.args.cx.now) v c.args.h (sym (c.live.ensures.value _ v m) ∙ c.if-not-live.true)

-- the link that was found is the first
pub returns-in-Some-2 : goal.returns-in-Some-2
unfolding scope_of
returns-in-Some-2 g c = let scope = scope_of (g.P.Protocol.rules c.args.cx.now.protocol) c.args.cx.now in
    λ v m. found_first _ _ _ _ (sym c.in-Some-2.is ∙ c.in_ok-rule.ensures v m)
    (sym (links_next scope v c.args.h c.in-Some.p c.in-Some.ensures.found.host)
    ∙ sym (next_links scope v c.neighbours-senders.result c.args.h c.loop-p.from c.in-Some.p c.neighbours-senders.ensures c.in-Some.ensures.found)
    ∙ c.loop-p.invariant.1 v m)

-- it isn't this link
pub loop-p-preserved : goal.loop-p-preserved
unfolding scope_of
loop-p-preserved g c = let scope = scope_of (g.P.Protocol.rules c.args.cx.now.protocol) c.args.cx.now in (
  omega (arith, c.in-Some.ensures.found.host),
  λ v m. found_later _ _ _ (sym c.in_default-2.is ∙ c.in_ok-rule.ensures v m)
      (sym (links_next scope v c.args.h c.in-Some.p c.in-Some.ensures.found.host)
      ∙ sym (next_links scope v c.neighbours-senders.result c.args.h c.loop-p.from c.in-Some.p c.neighbours-senders.ensures c.in-Some.ensures.found)
      ∙ c.loop-p.invariant.1 v m),
)

-- it is none
pub returns : goal.returns
unfolding scope_of
returns g c = let scope = scope_of (g.P.Protocol.rules c.args.cx.now.protocol) c.args.cx.now in
    λ v m. no_links scope v c.neighbours-senders.result c.args.h c.loop-p.from c.loop-p.invariant.0 c.neighbours-senders.ensures c.in_default.ensures.none
    ∙ c.loop-p.invariant.1 v m
