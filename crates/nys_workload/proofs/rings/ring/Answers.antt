-- no link of the ring is at fault
use Rattle.std.proofs.Common.{◌≡◌, Some, subst, sym, ◌∙◌}
use Rattle.nys_graph.specs.Faults.{fault_at, place_of}
use Rattle.nys_workload.proofs.RingLemmas.{ring_clean}
use Rattle.nys_workload.proofs.rings.ring.Goals as goal
use Rattle.nys_workload.specs.Rings.{ring_links}

pub unreachable-requires : goal.unreachable-requires
unreachable-requires c =
    let fault = c.in-Err.field-0 in
    let same : c.as_slice.result.now ≡ ring_links c.args.hosts = c.as_slice.ensures.value ∙ c.in_ok-links.ensures in
    let found = subst (λ links. fault_at c.args.hosts links (place_of fault) ≡ Some fault) same c.in-Err.ensures.fault.found in
    let none = sym (ring_clean c.args.hosts (place_of fault) c.requires.some) ∙ found in
    cc
