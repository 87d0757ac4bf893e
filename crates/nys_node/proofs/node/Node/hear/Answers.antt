use Rattle.nys_node.proofs.HearLemmas.{can_window, means_hear, window_least}
use Rattle.nys_node.proofs.node.Node.hear.Goals as goal

-- the number is one of the window's
pub hear_all-requires-clause-window : goal.hear_all-requires-clause-window
hear_all-requires-clause-window g c =
    can_window c.requires.window.0 c.args.self.now c.args.p c.args.h c.args.k c.index_mut.result.now c.requires.sender c.requires.host c.index_mut.ensures.value c.requires.window.1

-- one number of a link has other seats
pub returns : goal.returns
returns g c = λ scope v m.
    means_hear scope c.args.self.now c.args.p c.args.h c.args.k c.args.payload.now c.args.makers.now c.index_mut.result.now c.hear_all.new.table
    c.requires.sender c.requires.host c.index_mut.ensures.value
    (window_least _ _ (can_window c.requires.window.0 c.args.self.now c.args.p c.args.h c.args.k c.index_mut.result.now c.requires.sender c.requires.host c.index_mut.ensures.value c.requires.window.1))
    c.in_ok-hear_all.ensures.next c.in_ok-hear_all.ensures.seats v m
