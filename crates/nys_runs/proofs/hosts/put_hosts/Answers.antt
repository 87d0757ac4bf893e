-- one line more is written, and the others are left
use Rattle.std.proofs.Common.{◌+◌, ◌-◌, ◌++◌, ap, sym, ◌∙◌, append_assoc}
use Rattle.nys_source.specs.Held.{shown}
use Rattle.nys_runs.specs.HostLines.{host_line, hosts_text}
use Rattle.nys_runs.proofs.HostLemmas.{hosts_text-next}
use Rattle.nys_runs.proofs.hosts.put_hosts.Goals as goal

pub loop-h-preserved : goal.loop-h-preserved
loop-h-preserved g c =
    let rules = g.P.Protocol.rules c.args.system.now.0 in
    let system = shown rules c.args.system.now.1 in
    let h = c.loop-h.h in
    let behind = hosts_text rules system (h + 1) (c.args.hosts - (h + 1)) in
    ap (λ t. t ++ behind) c.in_ok-put_host.ensures
    ∙ append_assoc c.loop-h.out (host_line rules system h) behind
    ∙ ap (λ t. c.loop-h.out ++ t) (sym (hosts_text-next rules system h c.args.hosts c.loop-h-test.true))
    ∙ c.loop-h.invariant
