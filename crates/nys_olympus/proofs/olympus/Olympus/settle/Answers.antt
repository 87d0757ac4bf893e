use Rattle.std.proofs.lemmas.Result.{on_ok_weaker}
use Rattle.nys_olympus.proofs.Views.{view_decided}
use Rattle.nys_olympus.proofs.olympus.Olympus.settle.Goals as goal

-- the log of one host grows
pub returns : goal.returns
returns g c = on_ok_weaker c.extend.result
    (λ grown scope o view open_yet are. view_decided scope c.args.self.now o c.args.h c.with-self.result c.index_mut.result.now c.extend.new.self c.args.contents.items
    c.requires.host c.with-self.ensures c.index_mut.ensures.value grown view open_yet are)
    c.extend.ensures
