use Rattle.std.proofs.Common.{ℕ, Vec, Global}
use Rattle.nys_names.proofs.BindingLemmas as names
use Rattle.nys_names.proofs.bindings.Bindings.find.Goals as goal

-- names are distinct, so what the map finds is what is seen
pub returns-clause-some : goal.returns-clause-some
returns-clause-some c = rw (← c.self.view_is) (names.find_some {K = Vec ℕ Global} (λ k. k.items) c.get.result c.args.text.now c.self.inside.names.entries c.self.invariant.0 c.get.ensures.value)

-- what the map doesn't find isn't seen
pub returns-clause-none : goal.returns-clause-none
returns-clause-none c = rw (← c.self.view_is) (names.find_none {K = Vec ℕ Global} (λ k. k.items) c.get.result c.args.text.now c.self.inside.names.entries c.get.ensures.value)
