-- What the links so far make: a graph that joins what they join, and no fault among them.
use Rattle.std.proofs.Common.{◌≡◌, ℕ, ◌<◌, take, None}
use Rattle.nys_graph.specs.Links.{IsGraph, joined, linked_in}
use Rattle.nys_graph.specs.Faults.{fault_at}
use Rattle.nys_graph.proofs.table.Graph.new.Given as goal

abbrev pub invariant-loop-place : goal.invariant-loop-place
invariant-loop-place l = record {
  linked : (a b : ℕ) → linked_in l.rows a b ≡ joined (take l.place l.links) a b;
  shape : IsGraph l.n (linked_in l.rows);
  faultless : (k : ℕ) → k < l.place → fault_at l.n l.links k ≡ None;
}
