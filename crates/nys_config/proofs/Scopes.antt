-- Epochs and hosts past the last have no guards, and no threshold is greater than one may be.
use Rattle.std.proofs.Common.{false, ◌≡◌, ℕ, ◌≤◌, List, [], length, sym, subst, inl, inr, arith}
use Rattle.std.proofs.lemmas.Bool.{cases_lt}
use Rattle.std.proofs.lemmas.List.{get_or_past}
use Rattle.nys_guards.specs.Good.{guards_in, threshold_in}
use Rattle.nys_guards.specs.declared.table.GuardGraph.{GuardGraph}
use Rattle.nys_hosts.proofs.MaskLemmas.{in_mask-zero}
use Rattle.nys_hosts.specs.Sets.{has, no_hosts}
use Rattle.nys_hosts.specs.declared.set.HostSet.{HostSet}
use Rattle.nys_config.specs.Config.{IsConfig}
use Rattle.nys_config.specs.Scopes.{no_epoch, scope_of}
use Rattle.nys_config.specs.declared.config.Config.{Config}
use Rattle.nys_source.specs.Rules.{Rules}

-- nobody guards a host past the end of the table
pub none_guards : (table : List HostSet) (h g : ℕ) → length table ≤ h → false ≡ guards_in table h g
unfolding guards_in
none_guards table h g past = subst (λ s. false ≡ has s g) (sym (get_or_past table h no_hosts past)) (sym (in_mask-zero g))

-- nobody guards a host in an epoch past the last
pub none_guards_then : {P S : Type 0} (rules : Rules S) (cx : Config P) (e h g : ℕ) → length cx.epochs.items ≤ e → false ≡ (scope_of rules cx).guards e h g
unfolding scope_of guards_in
none_guards_then rules cx e h g past =
    subst (λ graph. false ≡ guards_in graph.guards h g) (sym (get_or_past cx.epochs.items e no_epoch past)) (sym (in_mask-zero g))

-- past the end of the table no liars are stood
pub none_stood : (table : List ℕ) (h : ℕ) → length table ≤ h → threshold_in table h ≡ 0
unfolding threshold_in
none_stood table h past = get_or_past table h 0 past

-- so few liars does each host stand, in each epoch
pub few_liars : {P S : Type 0} (rules : Rules S) (cx : Config P) (hosts e h : ℕ) → IsConfig hosts cx → (scope_of rules cx).t e h ≤ 5
unfolding scope_of
few_liars rules cx hosts e h config = elim (cases_lt e (length cx.epochs.items)) [
  | inl inside ↦ (config.epochs e no_epoch inside).liars h
  | inr past ↦ subst (λ (graph : GuardGraph). threshold_in graph.t h ≤ 5) (sym (get_or_past cx.epochs.items e no_epoch past))
      (omega (arith, none_stood [] h (omega arith)))
]
