-- The replica of the host forgot what is needed no more.
use Rattle.nys_node.proofs.ForgetLemmas.{means_forgetting}
use Rattle.nys_node.proofs.RowLemmas.{table_read}
use Rattle.nys_node.proofs.node.Node.forget_entries.Goals as goal

pub returns : goal.returns
returns g c = λ scope v m.
    means_forgetting scope c.args.self.now c.args.h _ c.index_mut.result.now c.forget_in.new.place c.requires.host
    c.index_mut.ensures.value v (table_read c.args.self.now.base v.base c.args.h 0 m.base c.requires.host)
    (c.forget_in.ensures scope.rules) m
