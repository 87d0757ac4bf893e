-- At first no link has a range.
use Rattle.std.proofs.Common.{ap, ◌∙◌}
use Rattle.nys_attest.specs.Ranges.{link_at}
use Rattle.nys_attest.proofs.LinkLemmas.{none_at}
use Rattle.nys_attest.proofs.links.Links.new.Goals as goal

pub returns : goal.returns
returns c p h = ap (λ t. link_at t p h) c.loop.invariant ∙ none_at c.loop.counter 32 p h
