-- No packet is left.
use Rattle.std.proofs.Common.{◌∙◌, ap, sym, ℕ, List, arith}
use Rattle.std.specs.Prelude.{fold}
use Rattle.std.proofs.lemmas.List.{drop_all}
use Rattle.nys_world.proofs.BundleLemmas.{joining}
use Rattle.nys_world.proofs.bundling.join_all.Goals as goal

pub returns-clause-value : goal.returns-clause-value
returns-clause-value c = λ w same.
    ap (λ (ks : List ℕ). fold (joining w c.args.statement.now) c.loop-k.seats.items ks)
    (sym (drop_all c.loop-k.k-index c.args.packets.now (omega arith)))
    ∙ c.loop-k.invariant.0 w same
