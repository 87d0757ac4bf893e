use Rattle.std.proofs.Common.{◌≡◌, suc, ◌-◌, Some, drop}
use Rattle.nys_meaning.specs.Stmts as s
use Rattle.nys_places.specs.Cells.{by_place}
use Rattle.nys_handler.proofs.stmts.+block.Given as goal

-- what is left of a block does what the whole block does
abbrev pub invariant-block-loop-next : goal.invariant-block-loop-next
invariant-block-loop-next l = s.stmts by_place l.here (Some l.activation) (drop l.next-index l.next-items) ≡ s.block by_place l.fn.here l.fn.b l.fn.activation

-- the turns that are left do what all turns do
abbrev pub invariant-each-loop-host : goal.invariant-each-loop-host
invariant-each-loop-host l = s.turns by_place l.here (s.block by_place l.here l.body) l.name (drop l.host-index l.host-items) l.activation ≡ s.turns by_place l.fn.here (s.block by_place l.fn.here l.fn.body) l.fn.name l.fn.here.near l.fn.activation

abbrev pub invariant-turns-loop-turn : goal.invariant-turns-loop-turn
invariant-turns-loop-turn l = s.loop by_place l.here (l._turn-end - l._turn) (s.block by_place l.here l.body) l.name l.to.number l.at.number l.activation ≡ s.loop by_place l.fn.here (suc l.fn.activation.left) (s.block by_place l.fn.here l.fn.body) l.fn.name l.fn.to.number l.fn.from.number l.fn.activation
