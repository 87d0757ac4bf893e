-- the entries at one host are counted, and the others are left
use Rattle.std.proofs.Common.{◌≡◌, ◌-◌, ap, arith}
use Rattle.std.specs.List.{range_with_len}
use Rattle.nys_rules.specs.Olympus.{hosts_of}
use Rattle.nys_rules.specs.World.{is_honest}
use Rattle.nys_workload_command.proofs.SumLemmas.{picked_on}
use Rattle.nys_workload_command.proofs.logged.logged_below.Goals as goal
use Rattle.nys_workload_command.specs.Logged.{entries_in, logged_in}
use Rattle.nys_world.specs.Shows.{setting_of}

pub loop-g-preserved : goal.loop-g-preserved
loop-g-preserved g c =
    let stage = c.args.world.now.stage in
    let setting = setting_of (g.P.Protocol.rules stage.cx.protocol) stage in
    let bound = c.logged_at-sum.ensures.bound in
    let few = c.loop-g.invariant.bound in
    record {
      sum = λ w is.
          let one = c.logged_at-sum.ensures.sum w is in
          let all = c.loop-g.invariant.sum w is in
          let on =
          picked_on (λ h. entries_in (w.nodes h) (hosts_of setting.scope)) (is_honest setting) c.loop-g.g c.args.hosts c.loop-g.sum c.loop-g-test.true in
          omega (arith, one, all, on);
      bound = omega (arith, bound, few);
    }

pub returns : goal.returns
returns g c = λ w is.
    let stage = c.args.world.now.stage in
    let setting = setting_of (g.P.Protocol.rules stage.cx.protocol) stage in
    let all = c.loop-g.invariant.sum w is in
    let end = c.loop-g-test.false in
    let none : c.args.hosts - c.loop-g.g ≡ 0 = omega (arith, end) in
    let empty : logged_in setting w (range_with_len c.loop-g.g (c.args.hosts - c.loop-g.g)) ≡ 0 =
    ap (λ n. logged_in setting w (range_with_len c.loop-g.g n)) none in
    omega (arith, all, empty)
