use Rattle.nys_config.specs.Scopes.{scope_of}
use Rattle.nys_node.proofs.LogLemmas.{can_take, has_next, means_log}
use Rattle.nys_node.proofs.node.Node.apply_entry.Goals as goal

-- the number of a message may grow by one
pub go_on-requires : goal.go_on-requires
go_on-requires g c = record {
  next = has_next (scope_of (g.P.Protocol.rules c.args.cx.now.protocol) c.args.cx.now) c.args.self.now c.args.h c.args.content c.index_mut.result.now
      c.requires.host c.index_mut.ensures.value c.requires.next;
}

-- the replica is there
pub apply_in-requires : goal.apply_in-requires
unfolding scope_of
apply_in-requires g c = record {
  next = can_take (scope_of (g.P.Protocol.rules c.args.cx.now.protocol) c.args.cx.now) c.args.self.now c.args.h c.args.content c.index_mut-2.result.now
      c.requires.host c.index_mut-2.ensures.value c.requires.next;
}

-- the replica took the content, and what is heard went on
pub returns : goal.returns
unfolding scope_of
returns g c = λ v m.
    means_log (scope_of (g.P.Protocol.rules c.args.cx.now.protocol) c.args.cx.now) c.args.self.now c.args.h c.index_mut.result.now c.go_on.new.table
    c.index_mut-2.result.now c.apply_in.new.place c.args.content c.requires.host c.index_mut.ensures.value c.go_on.ensures
    c.index_mut-2.ensures.value c.in_ok-apply_in.ensures v m
