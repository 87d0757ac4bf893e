use Rattle.std.proofs.Common.{◌≡◌, ◌<◌}
use Rattle.std.specs.Prelude.{All}
use Rattle.std.specs.Vec.Iter.{into_iter_items}
use Rattle.nys_desk.specs.Makers.{IsHost}
use Rattle.nys_desk.specs.Seated.{seats_of}
use Rattle.nys_rules.specs.Noting.{voted}
use Rattle.nys_desk.proofs.tallies.vote_all.Given as goal

-- the makers that are left give what all makers give
abbrev pub invariant-loop-tags : goal.invariant-loop-tags
invariant-loop-tags l = (voted l.content (into_iter_items l.tags-iterator) (seats_of l.votes) ≡ voted l.fn.content l.fn.makers.items (seats_of l.fn.votes))
    × All IsHost (into_iter_items l.tags-iterator)
