-- The head stands beside the packet.
use Rattle.std.proofs.Common.{◌≡◌, Some, subst, ◌∙◌}
use Rattle.std.proofs.lemmas.Option.{IfSome_then}
use Rattle.std.specs.Prelude.{slice_get}
use Rattle.nys_world.proofs.DropLemmas.{head_beside}
use Rattle.nys_world.proofs.books.Books.head_given.Goals as goal

pub returns-in-Some : goal.returns-in-Some
returns-in-Some c =
    rw c.in-Some.is (IfSome_then c.head_at.result c.head_at.ensures (λ head at w keeps.
    head_beside w.pool c.in-Some.k head.now
    (subst (λ heads. slice_get heads c.in-Some.k ≡ Some (Some head.now)) (c.as_slice.ensures.value ∙ keeps.heads) at)))
