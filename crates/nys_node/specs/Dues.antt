-- What is due from a host or a link on.
use Rattle.std.specs.Borrow.{Bor}
use Rattle.std.specs.Prelude.{ℕ, ◌-◌, ℤ, List, Option}
use Rattle.nys_hosts.specs.declared.limits.TheConstants.{MAX_HOSTS}
use Rattle.nys_rules.specs.declared.rule.Rule.{Rule}
use Rattle.nys_rules.specs.Rules.{attest_from, due_from}
use Rattle.nys_rules.specs.Scope.{Scope}
use Rattle.nys_rules.specs.View.{View}

-- a number with the payload that stands under it
abbrev pub numbers : ℕ × Bor (List ℤ) → ℕ × List ℤ
numbers found = (found.0, found.1.now)

-- the attest rule of the first link into h of which it is enabled, the sender being `p` or a later host
unfoldable pub links_due : {S : Type 0} → Scope S → View → (h p : ℕ) → Option Rule
links_due scope v h p = attest_from (MAX_HOSTS - p) scope v h p

-- the first rule that is enabled for host h or a later one
unfoldable pub hosts_due : {S : Type 0} → Scope S → View → (h : ℕ) → Option Rule
hosts_due scope v h = due_from (MAX_HOSTS - h) scope v h
