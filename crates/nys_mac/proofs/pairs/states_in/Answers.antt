use Rattle.std.proofs.Common.{◌≡◌, min, max, rules, sym, subst}
use Rattle.nys_mac.specs.States.{AreStatesOf, IsPairUnder}
use Rattle.nys_mac.specs.Tags.{pair_key}
use Rattle.nys_mac.proofs.PairLemmas.{key_in_order}
use Rattle.nys_mac.proofs.pairs.states_in.Goals as goal

-- the pair at that place is of these two
pub returns-then-pair-max : goal.returns-then-pair-max
returns-then-pair-max c = λ key all.
    let low : c.in_ok-pair.pair.now.low ≡ min c.args.i c.args.j = search rules in
    let high : c.in_ok-pair.pair.now.high ≡ max c.args.i c.args.j = search rules in
    let held : IsPairUnder key c.in_ok-pair.pair.now = search rules in
    subst (AreStatesOf c.in_ok-pair.pair.now.states) (key_in_order key c.args.i c.args.j) (rw (← low, ← high) held.states)
