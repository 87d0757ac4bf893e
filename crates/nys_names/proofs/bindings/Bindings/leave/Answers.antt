use Rattle.std.proofs.Common.{ℕ, Vec, Global}
use Rattle.nys_names.proofs.BindingLemmas as names
use Rattle.nys_names.proofs.bindings.Bindings.leave.Goals as goal

-- the oldest of low names are low
pub invariant_of-self : goal.invariant_of-self
invariant_of-self c =
    let kept = names.names_take {K = Vec ℕ Global} (λ k. k.items) c.args.len c.self.inside.names.entries in
    (c.truncate.ensures.unique, rw (c.truncate.ensures.entries, kept) (names.low_drop _ _ c.self.invariant.1))

-- the oldest names are left
pub returns : goal.returns
returns c = rw (← c.self.view_is, c.truncate.ensures.entries) (names.names_take {K = Vec ℕ Global} (λ k. k.items) c.args.len c.self.inside.names.entries)
