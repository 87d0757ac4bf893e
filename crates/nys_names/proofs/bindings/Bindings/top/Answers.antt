use Rattle.std.proofs.Common.{◌≡◌, ◌-◌, length, slice_get, Some, ap, sym, ◌∙◌, arith, ℕ, Vec, Global}
use Rattle.std.specs.Map.{values_of}
use Rattle.nys_tree.specs.Bindings.{top}
use Rattle.nys_names.proofs.BindingLemmas as names
use Rattle.nys_names.proofs.bindings.Bindings.top.Goals as goal

-- the last of the map is the newest
pub returns-clause-place : goal.returns-clause-place
returns-clause-place c =
    let last : slice_get (values_of c.self.inside.names.entries) (length c.self.inside.names.entries - 1) ≡ Some c.index-newest.result.now = rw (← c.len-count.ensures.len) c.index-newest.ensures in
    rw (← c.self.view_is) (sym (names.newest {K = Vec ℕ Global} (λ k. k.items) c.self.inside.names.entries c.index-newest.result.now last))

-- all places are low
pub returns-clause-low : goal.returns-clause-low
returns-clause-low c = rw (returns-clause-place c, ← c.self.view_is) (names.low_top _ c.self.invariant.1)

-- a map of names has less than 2 ^ 63, and few more places are taken
pub overflow_add-result : goal.overflow_add-result
overflow_add-result c =
    let count = names.length_names {K = Vec ℕ Global} (λ k. k.items) c.self.inside.names.entries in
    let low = names.low_top _ c.self.invariant.1 in
    let is = returns-clause-place c ∙ ap top (sym c.self.view_is) in
    omega (arith, is, low, count, c.len-count.ensures.len, c.len-count.ensures.small)
