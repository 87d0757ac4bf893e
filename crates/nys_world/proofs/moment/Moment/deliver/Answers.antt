use Rattle.std.proofs.Common.{◌≡◌, ap, arith, length}
use Rattle.std.specs.Prelude.{◌≤◌}
use Rattle.nys_world.specs.Shows.{setting_of}
use Rattle.nys_world.proofs.GivenLemmas.{delivers_none}
use Rattle.nys_world.proofs.moment.Moment.deliver.Goals as goal

-- the packet was never sent
pub returns-then-k-have : goal.returns-then-k-have
returns-then-k-have g c = λ w s.
    let setting = setting_of (g.P.Protocol.rules c.args.stage.now.cx.protocol) c.args.stage.now in
    let size = ap length s.books.pool in
    let past : length w.pool ≤ c.args.k = omega (arith, c.if-k-have.true, c.len-have.ensures, size) in
    let have : c.len-have.result ≡ length w.pool = omega (arith, c.len-have.ensures, size) in
    delivers_none setting w c.args.k c.args.self.now.books.events c.len-have.result past s.books.events have
