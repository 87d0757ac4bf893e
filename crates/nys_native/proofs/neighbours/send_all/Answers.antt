-- the effects grow by the send to one host more, if that is one
use Rattle.std.proofs.Common.{ℕ, Bool, ◌&&◌, ◌∷◌, ◌++◌, [], ap, sym, ◌∙◌, append_assoc, if◌then◌else◌}
use Rattle.std.specs.Prelude.{filter}
use Rattle.std.specs.List.{range_with_len}
use Rattle.nys_graph.specs.Links.{linked_in}
use Rattle.nys_native.specs.Neighbours.{is_not, sends_to}
use Rattle.nys_native.proofs.NeighbourLemmas.{sends_more}
use Rattle.nys_native.proofs.neighbours.send_all.Goals as goal

pub loop-p-preserved : goal.loop-p-preserved
loop-p-preserved c =
    let passes : ℕ → Bool = λ q. linked_in c.args.graph.now.rows c.args.h q && is_not c.args.from q in
    let p = c.loop-p.p in
    let below = sends_to c.args.payload.now (filter passes (range_with_len 0 p)) in
    let here = sends_to c.args.payload.now (if passes p then p ∷ [] else []) in
    c.in_ok-send_one.ensures
    ∙ ap (λ effects. effects ++ here) c.loop-p.invariant
    ∙ append_assoc c.args.effects.now.items below here
    ∙ ap (λ sends. c.args.effects.now.items ++ sends) (sym (sends_more c.args.payload.now passes p))
