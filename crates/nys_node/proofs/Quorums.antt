-- The quorum of a set of guards that a configuration has.
use Rattle.std.proofs.Common.{◌≡◌, ℕ, ap, ◌∙◌}
use Rattle.nys_hosts.proofs.CountLemmas.{hosts_with-same}
use Rattle.nys_hosts.specs.Counts.{hosts_with, quorum_of}
use Rattle.nys_hosts.specs.Sets.{has}
use Rattle.nys_hosts.specs.declared.set.HostSet.{HostSet}
use Rattle.nys_rules.specs.Scope.{quorum_at, Scope}

-- the quorum of a set of guards is that of the host
pub quorum_is : {S : Type 0} (scope : Scope S) (e h n t found : ℕ) (guards : HostSet) → n ≡ hosts_with (has guards)
    → ((g : ℕ) → has guards g ≡ scope.guards e h g) → t ≡ scope.t e h → found ≡ quorum_of n t → found ≡ quorum_at scope e h
unfolding quorum_at
quorum_is scope e h n t found guards count same liars is =
    is ∙ ap (λ x. quorum_of x t) (count ∙ hosts_with-same (has guards) (scope.guards e h) (λ g below. same g))
    ∙ ap (quorum_of (hosts_with (scope.guards e h))) liars
