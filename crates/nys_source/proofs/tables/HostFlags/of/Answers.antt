-- the host has a flag, so it does not matter what stands past the last
use Rattle.std.proofs.Common.{true, false, ◌<◌, length, arith}
use Rattle.std.proofs.lemmas.List.{get_or_default}
use Rattle.nys_source.proofs.tables.HostFlags.of.Goals as goal

pub returns : goal.returns
returns c =
    let inside : c.args.h < length c.self.inside.held = omega arith in
    rw (← c.self.view_is) (get_or_default c.self.inside.held c.args.h false true inside)
