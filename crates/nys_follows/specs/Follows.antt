-- What it means that a guarded world follows the machine of honest statements. Packets, notes and what
-- a node keeps of votes have no part in it.
use Rattle.std.specs.Prelude.{◌≡◌, ℕ, ◌<◌, ◌≤◌, Bool, true, false, not, ℤ, List, length, slice_get, Some, Option}
use Rattle.nys_bytes.specs.declared.content.Content.{Content}
use Rattle.nys_source.specs.declared.step.Step.{Step}
use Rattle.nys_stmt.specs.declared.statement.Body.TheVariants as body
use Rattle.nys_stmt.specs.declared.statement.FilledKind.TheVariants as kind
use Rattle.nys_stmt.specs.declared.statement.Statement.{Statement}
use Rattle.nys_agreement.specs.Net.{HasFewLiars}
use Rattle.nys_agreement.specs.Said.{By, Has, Made, Said}
use Rattle.nys_agreement.specs.Assembly as machine
use Rattle.nys_agreement.specs.Events.{Event}
use Rattle.nys_agreement.specs.After.{after_all, Follows}
use Rattle.nys_rules.specs.Forged.{Entry, HasMade}
use Rattle.nys_rules.specs.Noting.{bases, retirements}
use Rattle.nys_rules.specs.Olympus.{OlympusView}
use Rattle.nys_rules.specs.Premises.{net_of}
use Rattle.nys_rules.specs.Scope.{olympus}
use Rattle.nys_rules.specs.Sending.{said_in}
use Rattle.nys_rules.specs.View.{View}
use Rattle.nys_rules.specs.World.{Setting, World}

-- what is asked of a scenario: all hosts are below the Olympus, and nowhere do more guards lie than
-- they stand
pub record IsFollowable {S : Type 0} (setting : Setting S) : Type 0 where
  pub hosts : setting.scope.rules.hosts ≤ olympus
  pub few : HasFewLiars (net_of setting)

-- the statement that the machine knows so
abbrev pub statement_of : Said → Statement
statement_of (Said.Offer e h s c) = said_in e (body.Filled kind.Offer h s c)
statement_of (Said.Order e h s c) = said_in e (body.Filled kind.Order h s c)
statement_of (Said.Deliver e h s c) = said_in e (body.Filled kind.Deliver h s c)
statement_of (Said.Attest e p h k payload) = said_in e (body.Attest p h k payload)
statement_of (Said.Report e h s c) = said_in e (body.Filled kind.Report h s c)
statement_of (Said.Frozen e h f) = said_in e (body.Frozen h f)

-- a host that doesn't lie
pub record IsTruthful {S : Type 0} (setting : Setting S) (g : ℕ) : Type 0 where
  pub host : g < setting.scope.rules.hosts
  pub honest : setting.liars g ≡ false

-- what the machine knows of a node's view
pub record Part : Type 0 where
  pub me : ℕ
  pub epoch : ℕ
  pub wedged : Bool
  pub base : ℕ → ℕ
  pub retired : ℕ → Bool
  pub waiting : List (List ℤ)
  pub logs : ℕ → List Content

-- this part of a view
abbrev pub part_of : View → Part
part_of v = record {
  me = v.me;
  epoch = v.epoch;
  wedged = v.wedged;
  base = v.base;
  retired = v.retired;
  waiting = v.waiting;
  logs = v.logs;
}

-- the machine has the view of the node of g: these are its epoch, its logs and its queue there, and the
-- tables of all epochs
pub record IsNode {S : Type 0} (setting : Setting S) (g : ℕ) (v : Part) (epoch : ℕ) (wedged : Bool)
    (log : ℕ → List Content) (waiting : List (List ℤ)) (base : ℕ → ℕ → ℕ) (live : ℕ → ℕ → Bool) : Type 0 where
  pub me : v.me ≡ g
  pub epoch_is : epoch ≡ v.epoch
  pub wedged_is : wedged ≡ v.wedged
  pub log_is : (h : ℕ) → log h ≡ v.logs h
  pub waiting_is : waiting ≡ v.waiting
  -- a host lives in the epoch of the node where the node doesn't know it as retired, and begins there
  -- where the node knows it to begin
  pub lives : (h : ℕ) → h < setting.scope.rules.hosts → live v.epoch h ≡ not (v.retired h)
  pub begins : (h : ℕ) → h < setting.scope.rules.hosts → v.retired h ≡ false → base v.epoch h ≡ v.base h

-- the machine has the view of the Olympus
pub record IsOlympus {S : Type 0} (setting : Setting S) (o : OlympusView) (top : ℕ) (top_wedged : Bool)
    (decided : ℕ → List Content) (decided_now retired : ℕ → Bool) (base : ℕ → ℕ → ℕ) (live : ℕ → ℕ → Bool) : Type 0 where
  pub top_is : top ≡ o.epoch
  pub wedged_is : top_wedged ≡ o.wedged
  pub decided_is : (h : ℕ) → decided h ≡ o.decided h
  pub decided_now_is : (h : ℕ) → decided_now h ≡ o.decided_now h
  pub retired_is : (h : ℕ) → retired h ≡ o.retired h
  pub begins : (h : ℕ) → base o.epoch h ≡ o.base h
  -- a host that isn't given up lives
  pub lives : (h : ℕ) → h < setting.scope.rules.hosts → o.retired h ≡ false → live o.epoch h ≡ true
  -- a log grows at its decision alone, and no host that is decided was given up
  pub still : (h : ℕ) → o.decided_now h ≡ false → length (o.decided h) ≡ o.base h
  pub apart : (h : ℕ) → o.decided_now h ≡ true → o.retired h ≡ false

-- an Open is of what the machine's epoch began with
pub record IsOpened {S : Type 0} (setting : Setting S) (e : ℕ) (lengths : List (Option ℕ)) (top : ℕ)
    (base : ℕ → ℕ → ℕ) (live : ℕ → ℕ → Bool) : Type 0 where
  pub upto : e ≤ top
  pub lives : (h : ℕ) → h < setting.scope.rules.hosts → live e h ≡ not (retirements lengths h)
  pub begins : (h : ℕ) → h < setting.scope.rules.hosts → retirements lengths h ≡ false → base e h ≡ bases lengths h

-- the machine has the statements of the ledger that it knows, all of them of honest hosts, and knows
-- what the Olympus tells
pub record IsLedger {S : Type 0} (setting : Setting S) (ledger : List Entry) (made : List Made) (top : ℕ)
    (decided : ℕ → List Content) (base : ℕ → ℕ → ℕ) (live : ℕ → ℕ → Bool) : Type 0 where
  pub here : (g : ℕ) (s : Said) → HasMade ledger g (statement_of s) → Has made (By g s)
  pub there : (g : ℕ) (s : Said) → Has made (By g s) → HasMade ledger g (statement_of s)
  pub makers : (g : ℕ) (s : Said) → HasMade ledger g (statement_of s) → IsTruthful setting g
  pub opened : (e : ℕ) (lengths : List (Option ℕ)) → HasMade ledger olympus (said_in e (body.Open lengths))
      → IsOpened setting e lengths top base live
  pub inherited : (e h s : ℕ) (c : Content) → HasMade ledger olympus (said_in e (body.Filled kind.Inherit h s c))
      → slice_get (decided h) s ≡ Some c

-- the run is the machine's, and the longest logs are as long
pub record IsRunOf (longest : ℕ → ℕ) (run : List Step) (logs : ℕ → List Content) (steps : List Step) : Type 0 where
  pub long : (h : ℕ) → length (logs h) ≡ longest h
  pub run_is : steps ≡ run

-- the machine has the view of each honest node, and no log of anyone else
pub record AreNodes {S : Type 0} (setting : Setting S) (nodes : ℕ → View) (m : machine.Assembly) : Type 0 where
  pub each : (g : ℕ) → IsTruthful setting g
      → IsNode setting g (part_of (nodes g)) (m.epoch g) (m.wedged g) (m.log g) (m.waiting g) m.base m.live
  pub no_others : (g h : ℕ) → (IsTruthful setting g → ⊥) → length (m.log g h) ≡ 0

-- the world is the machine's
pub record Tracks {S : Type 0} (setting : Setting S) (w : World) (m : machine.Assembly) : Type 0 where
  pub nodes : AreNodes setting w.nodes m
  pub top : IsOlympus setting w.olympus m.top m.top_wedged m.decided m.decided_now m.retired m.base m.live
  pub ledger : IsLedger setting w.ledger m.ledger m.top m.decided m.base m.live
  pub run : IsRunOf w.longest w.run m.longest m.run

-- events of the machine make this of its beginning
pub record Reached {S : Type 0} (setting : Setting S) (m : machine.Assembly) : Type 0 where
  pub events : List Event
  pub follows : Follows setting.scope.rules (net_of setting) machine.beginning events
  pub is : m ≡ after_all machine.beginning events

-- events of the machine that may happen lead from one of its assemblies to one of which the fact holds
pub record LeadsTo {S : Type 0} (setting : Setting S) (m : machine.Assembly) (Fact : machine.Assembly → Type 0) : Type 0 where
  pub events : List Event
  pub follows : Follows setting.scope.rules (net_of setting) m events
  pub fact : Fact (after_all m events)

-- the world follows the machine
pub record FollowsMachine {S : Type 0} (setting : Setting S) (w : World) : Type 0 where
  pub machine : machine.Assembly
  pub reached : Reached setting machine
  pub tracks : Tracks setting w machine
