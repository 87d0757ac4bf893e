-- Each link that is not refused joins the graph of those before it; the first refusal is the first fault.
use Rattle.std.proofs.Common.{◌≡◌, None, arith, sym, ap, ◌∙◌, ◌||◌, get_or, below_more}
use Rattle.nys_graph.specs.Links.{joins, joined, linked_in}
use Rattle.nys_graph.specs.Faults.{fault_at}
use Rattle.nys_graph.proofs.LinkLemmas.{fault_at-within, first-fault, joined-more, no_links-shape, shape-join, taken}
use Rattle.nys_graph.proofs.table.Graph.new.Goals as goal

pub loop-place-init : goal.loop-place-init
unfolding joined
loop-place-init c = record {
  linked = c.no_links-rows.ensures;
  shape = no_links-shape c.args.n (linked_in c.no_links-rows.result) c.requires.some c.requires.few c.no_links-rows.ensures;
  faultless = λ k below. absurd (omega arith);
}

pub returns-in-Some-clause-fault : goal.returns-in-Some-clause-fault
returns-in-Some-clause-fault c =
    first-fault c.args.n c.args.links.now (linked_in c.loop-place.rows) c.loop-place.place c.in-Some.fault
    c.loop-place-test.true c.loop-place.invariant.linked c.loop-place.invariant.faultless
    (sym c.refusal.ensures ∙ c.in-Some.is)

pub loop-place-preserved : goal.loop-place-preserved
loop-place-preserved c =
    let n = c.args.n in
    let links = c.args.links.now in
    let linked = linked_in c.loop-place.rows in
    let place = c.loop-place.place in
    let link = get_or links place (0, 0) in
    let allowed = sym c.refusal.ensures ∙ c.in_default.is in
    record {
      linked = λ a b. c.join.ensures a b
          ∙ ap (λ x. x || joins link a b) (c.loop-place.invariant.linked a b)
          ∙ sym (joined-more links place a b c.loop-place-test.true);
      shape = shape-join n linked (linked_in c.join.new.rows) link c.loop-place.invariant.shape
          (taken n linked place link allowed) c.join.ensures;
      faultless = below_more (λ k. fault_at n links k ≡ None) place c.loop-place.invariant.faultless
          (fault_at-within n links linked place c.loop-place-test.true c.loop-place.invariant.linked ∙ allowed);
    }
