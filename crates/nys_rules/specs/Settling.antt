-- Settling: a node takes the enabled rules one by one, each the first, until none is enabled.
use Rattle.std.specs.Prelude.{◌≡◌, ◌≢◌, ℕ, ◌+◌, ◌*◌, ◌<◌, List, [], ◌∷◌, Option, Some, None}
use Rattle.nys_hosts.specs.declared.limits.TheConstants.{MAX_HOSTS}
use Rattle.nys_rules.specs.declared.rule.Rule.{Rule}
use Rattle.nys_rules.specs.declared.rule.Rule.TheVariants.{Offer, Order, Certificate, Deliver, Log, Attest}
use Rattle.nys_rules.specs.Packets.{Acts, joined, nothing}
use Rattle.nys_rules.specs.Rules.{due, Enabled}
use Rattle.nys_rules.specs.Scope.{Scope}
use Rattle.nys_rules.specs.Taking.{acts_of, taken}
use Rattle.nys_rules.specs.View.{View}

-- the view settles by these rules into another view, and this is what the node does by them
abbrev pub Settles : {S : Type 0} → Scope S → View → List Rule → View → Acts → Type 0
Settles scope v [] after acts = (due scope v ≡ None) × (after ≡ v) × (acts ≡ nothing)
Settles scope v (rule ∷ rules) after acts =
    (due scope v ≡ Some rule)
    × ((rest : Acts) × Settles scope (taken scope v rule) rules after rest × (acts ≡ joined (acts_of scope v rule) rest))

-- some rules settle the view so
pub record SettlesInto {S : Type 0} (scope : Scope S) (v after : View) (acts : Acts) : Type 0 where
  pub rules : List Rule
  pub settles : Settles scope v rules after acts

-- a view settles in one way: same rules, same view, same acts
abbrev pub SettleOnce : {S : Type 0} → Scope S → Type 0
SettleOnce scope = (v x y : View) (a b : Acts) (rules others : List Rule) → Settles scope v rules x a
    → Settles scope v others y b → (rules ≡ others) × (x ≡ y) × (a ≡ b)

-- the hosts that a rule names are below 32
abbrev pub IsAmongHosts : Rule → Type 0
IsAmongHosts (Offer h content) = h < MAX_HOSTS
IsAmongHosts (Order h content) = h < MAX_HOSTS
IsAmongHosts (Certificate h content) = h < MAX_HOSTS
IsAmongHosts (Deliver h content) = h < MAX_HOSTS
IsAmongHosts (Log h content) = h < MAX_HOSTS
IsAmongHosts (Attest p h k payload) = (p < MAX_HOSTS) × (h < MAX_HOSTS)

-- the place of a rule in the order: hosts rising, the rules of a host in their order, links by senders
abbrev pub rank : Rule → ℕ
rank (Offer h content) = h * 64
rank (Order h content) = h * 64 + 1
rank (Certificate h content) = h * 64 + 2
rank (Deliver h content) = h * 64 + 3
rank (Log h content) = h * 64 + 4
rank (Attest p h k payload) = h * 64 + 5 + p

-- where no rule is due none is enabled; a rule that is due is enabled, and none before it is
pub record DueIsFirst {S : Type 0} (scope : Scope S) : Type 0 where
  pub none : (v : View) → due scope v ≡ None → (rule : Rule) → IsAmongHosts rule → Enabled scope v rule → ⊥
  pub some : (v : View) (rule : Rule) → due scope v ≡ Some rule → IsAmongHosts rule × Enabled scope v rule
  pub first : (v : View) (rule : Rule) → due scope v ≡ Some rule → (other : Rule) → IsAmongHosts other
      → rank other < rank rule → Enabled scope v other → ⊥
