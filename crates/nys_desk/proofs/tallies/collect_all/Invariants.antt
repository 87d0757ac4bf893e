use Rattle.std.proofs.Common.{◌≡◌, ◌<◌}
use Rattle.std.specs.Prelude.{All}
use Rattle.std.specs.Vec.Iter.{into_iter_items}
use Rattle.nys_desk.specs.Makers.{IsHost}
use Rattle.nys_rules.specs.Noting.{collected}
use Rattle.nys_desk.proofs.tallies.collect_all.Given as goal

-- the makers that are left give what all makers give
abbrev pub invariant-loop-tags : goal.invariant-loop-tags
invariant-loop-tags l = (collected (into_iter_items l.tags-iterator) l.orders ≡ collected l.fn.makers.items l.fn.orders)
    × All IsHost (into_iter_items l.tags-iterator)
