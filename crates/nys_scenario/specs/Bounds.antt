-- What every scenario keeps to, whatever the document.
use Rattle.std.specs.Prelude.{◌≡◌, ◌<◌, ◌≤◌, ℕ, List, true, length, slice_index_or, All, IfSome}
use Rattle.nys_scenario.specs.Document.{Said}
use Rattle.nys_scenario.specs.Epochs.{Epoch}
use Rattle.nys_scenario.specs.Hosts.{Hosts, nobody}
use Rattle.nys_scenario.specs.Protocol.{Protocol}
use Rattle.nys_scenario.specs.Protocol.Protocol.{Sum, Flood, Route, Tree, Machine}
use Rattle.nys_hosts.specs.declared.limits.TheConstants.{MAX_EPOCHS}
use Rattle.nys_scenario.specs.declared.needs.Needs.{Needs}

-- each of the set is a host of the graph
pub record AreHosts (hosts : ℕ) (set : Hosts) : Type 0 where
  pub below : (h : ℕ) → set h ≡ true → h < hosts

-- the guards of an epoch, where it gives them, are hosts of the graph
abbrev pub HasHosts : ℕ → Epoch → Type 0
HasHosts hosts epoch = IfSome epoch.guards (All (AreHosts hosts))

-- past the last host a table has this value alone
abbrev pub HasPast : {A : Type 0} → ℕ → A → List A → Type 0
HasPast hosts last table = (h : ℕ) → hosts ≤ h → slice_index_or table h last ≡ last

-- a number that is no host has no guards, where an epoch gives guards
abbrev pub HasNobodyPast : ℕ → Epoch → Type 0
HasNobodyPast hosts epoch = IfSome epoch.guards (HasPast hosts nobody)

-- each threshold is at most the epoch's, and 0 past the last host
pub record AreThresholds (hosts t : ℕ) (table : List ℕ) : Type 0 where
  pub small : All (λ own. own ≤ t) table
  pub past : HasPast hosts 0 table

-- so are the thresholds of an epoch, where it gives them
abbrev pub HasThresholds : ℕ → Epoch → Type 0
HasThresholds hosts epoch = IfSome epoch.thresholds (AreThresholds hosts epoch.t)

-- the credit of an epoch is at least 1
abbrev pub HasCredit : Epoch → Type 0
HasCredit epoch = 1 ≤ epoch.credit

-- the root of a tree is a host
abbrev pub HasRoot : ℕ → Protocol → Type 0
HasRoot hosts Sum = Unit {0}
HasRoot hosts Flood = Unit {0}
HasRoot hosts Route = Unit {0}
HasRoot hosts (Tree root) = root < hosts
HasRoot hosts (Machine tree) = Unit {0}

-- a tree's root, the liars and the guards are hosts, thresholds are in their range, tables end at the last host,
-- no credit is 0, and there are as many epochs as there may and have to be
pub record IsBounded (needs : Needs) (said : Said) : Type 0 where
  pub root : HasRoot said.system.hosts said.system.protocol
  pub liars : AreHosts said.system.hosts said.guarded.liars
  pub guards : All (HasHosts said.system.hosts) said.guarded.epochs
  pub past : All (HasNobodyPast said.system.hosts) said.guarded.epochs
  pub thresholds : All (HasThresholds said.system.hosts) said.guarded.epochs
  pub credits : All HasCredit said.guarded.epochs
  pub few : length said.guarded.epochs ≤ MAX_EPOCHS
  pub needed : needs.epochs ≡ true → 1 ≤ length said.guarded.epochs
