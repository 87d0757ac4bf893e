-- The lines of the hosts, one after another.
use Rattle.std.proofs.Common.{◌≡◌, ℕ, suc, ◌+◌, ◌-◌, ◌<◌, ◌++◌, ap, arith}
use Rattle.nys_source.specs.Rules.{Rules}
use Rattle.nys_source.specs.Source.{Source}
use Rattle.nys_runs.specs.HostLines.{host_line, hosts_text}

-- the lines from a host on are its line and those behind it
pub hosts_text-next : {S : Type 0} (rules : Rules S) (system : Source S) (h hosts : ℕ) → h < hosts → hosts_text rules system h (hosts - h) ≡ host_line rules system h ++ hosts_text rules system (h + 1) (hosts - (h + 1))
hosts_text-next rules system h hosts inside =
    let left : hosts - h ≡ suc (hosts - (h + 1)) = omega arith in
    ap (hosts_text rules system h) left
