use Rattle.std.proofs.Common.{◌≡◌, [], drop}
use Rattle.nys_meaning.specs.Exprs as m
use Rattle.nys_places.specs.Cells.{place_reads}
use Rattle.nys_handler.proofs.activation.Activation.numbers.Given as goal

-- the members that are left give behind the numbers so far what all members give, and nothing but units was taken
abbrev pub invariant-loop-member : goal.invariant-loop-member
invariant-loop-member l =
    (m.numbers place_reads l.here (drop l.member-index l.member-items) l.numbers l.self.names l.self.left ≡ m.numbers place_reads l.fn.here l.fn.list.members [] l.fn.self.names l.fn.self.left)
    × (l.self ≡ record l.fn.self { left = l.self.left })
