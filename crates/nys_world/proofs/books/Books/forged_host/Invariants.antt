-- None of the hosts before this one is honest without having made the statement.
use Rattle.std.specs.Prelude.{filter}
use Rattle.std.specs.List.{range_with_len}
use Rattle.nys_hosts.specs.Sets.{has}
use Rattle.nys_rules.specs.Happening.{AreTrue}
use Rattle.nys_rules.specs.World.{World}
use Rattle.nys_world.specs.Shows.{Keeps, setting_of}
use Rattle.nys_world.proofs.books.Books.forged_host.Given as goal

abbrev pub invariant-loop-h : goal.invariant-loop-h
invariant-loop-h g l = (w : World) → Keeps l.self w
    → AreTrue (setting_of (g.P.Protocol.rules l.stage.cx.protocol) l.stage) w.ledger l.statement (filter (has l.hosts) (range_with_len 0 l.h))
