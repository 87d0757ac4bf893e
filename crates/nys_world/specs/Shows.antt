-- What a world of the program keeps of a world of the rules.
use Rattle.std.specs.Prelude.{◌≡◌, ℕ, ◌≤◌, ◌↔◌, nat_lt, Bool, ◌&&◌, not, true, false, List, length, map, slice_get, slice_index_or, Option, Some, None}
use Rattle.nys_rules.specs.declared.limits.TheConstants.{MAX_PACKETS, MAX_POOL_BYTES}
use Rattle.nys_hosts.specs.declared.limits.TheConstants.{MAX_HOSTS}
use Rattle.nys_hosts.specs.Sets.{has}
use Rattle.nys_ledger.specs.Shelves.{Owns, Shares}
use Rattle.nys_node.specs.Means.{IsViewOf}
use Rattle.nys_node.specs.declared.node.Node.{Node}
use Rattle.nys_olympus.specs.Means as olympus
use Rattle.nys_config.specs.Config.{IsConfig}
use Rattle.nys_rules.specs.declared.notice.Take.{Take}
use Rattle.nys_rules.specs.Forged.{HasMade, IsFirstClash}
use Rattle.nys_rules.specs.Packets.{Sent}
use Rattle.nys_rules.specs.World.{is_honest, pool_bytes, Setting, World}
use Rattle.nys_config.specs.Scopes.{scope_of}
use Rattle.nys_sending.specs.Tables.{IsTable}
use Rattle.nys_source.specs.Rules.{Rules}
use Rattle.nys_stmt.specs.declared.statement.Statement.{Statement}
use Rattle.nys_wire.specs.Heads.{head_in}
use Rattle.nys_wire.specs.declared.head.Head.{Head}
use Rattle.nys_world.specs.declared.books.Books.{Books}
use Rattle.nys_world.specs.declared.moment.Moment.{Moment}
use Rattle.nys_world.specs.declared.stage.Stage.{Stage}

-- the scenario of a configuration and its liars
abbrev pub setting_of : {P S : Type 0} → Rules S → Stage P S → Setting S
setting_of rules stage = record { scope = scope_of rules stage.cx; liars = has stage.liars }

-- the scenario of a stage, by the rules of its protocol
abbrev pub setting_in : {P S : Type 0} → (P → Rules S) → Stage P S → Setting S
setting_in rules stage = setting_of (rules stage.cx.protocol) stage

-- the configuration is one that nodes take
abbrev pub IsStage : {P S : Type 0} → Rules S → Stage P S → Type 0
IsStage rules stage = IsConfig rules.hosts stage.cx

-- the node of an honest host means what the world has of it; another number has none
abbrev pub IsNodeOf : {P S : Type 0} → Setting S → World → ℕ → Option (Node P S) → Type 0
IsNodeOf setting w g None = is_honest setting g ≡ false
IsNodeOf setting w g (Some node) = (is_honest setting g ≡ true) × IsViewOf setting.scope node (w.nodes g)

-- one of the hosts, and not a liar: such a host has a node
abbrev pub is_honest_host : {S : Type 0} → Setting S → ℕ → Bool
is_honest_host setting h = nat_lt h setting.scope.rules.hosts && not (setting.liars h)

-- the nodes by host
pub record AreNodes {P S : Type 0} (setting : Setting S) (nodes : List (Option (Node P S))) (w : World) : Type 0 where
  pub size : length nodes ≡ MAX_HOSTS
  pub each : (g : ℕ) (node : Option (Node P S)) → slice_get nodes g ≡ Some node → IsNodeOf setting w g node

-- the heads of the records that packets are; none of one that is no record
abbrev pub heads_of : List Sent → List (Option Head)
heads_of pool = map (λ p. head_in p.frame) pool

-- the books have all that the world has but its parties, and what those were given
pub record Keeps (books : Books) (w : World) : Type 0 where
  pub events : books.events ≡ w.events
  pub ledger : (party : ℕ) (statement : Statement) → Owns books.ledger party statement ↔ HasMade w.ledger party statement
  -- and which statement of a party clashes with another
  pub shared : (party : ℕ) (statement first : Statement)
      → Shares books.ledger party statement first ↔ IsFirstClash w.ledger party statement first
  pub pool : books.pool.items ≡ w.pool
  pub heads : books.heads.items ≡ heads_of w.pool
  pub bytes : books.bytes ≡ pool_bytes w.pool
  -- the pool is within its limits
  pub few : length w.pool ≤ MAX_PACKETS
  pub light : pool_bytes w.pool ≤ MAX_POOL_BYTES
  pub delivered : (k : ℕ) → slice_index_or books.delivered.items k false ≡ w.delivered k
  pub rows : length books.delivered.items ≡ length w.pool
  pub injected : books.injected.items ≡ w.injected
  pub notes : books.notes.items ≡ w.notes
  pub longest : IsTable books.longest w.longest
  pub run : books.run.items ≡ w.run

-- what was given to parties, where that is kept
abbrev pub AreTakes : (traced : Bool) → (kept takes : List Take) → Type 0
AreTakes true kept takes = kept ≡ takes
AreTakes false kept takes = Unit {0}

-- the parties and the books have all that the world has; what was given to parties they have where a trace is wanted
pub record Shows {P S : Type 0} (setting : Setting S) (traced : Bool) (moment : Moment P S) (w : World) : Type 0 where
  pub nodes : AreNodes setting moment.nodes.items w
  pub olympus : olympus.IsViewOf setting.scope moment.olympus w.olympus
  pub books : Keeps moment.books w
  pub takes : AreTakes traced moment.takes.items w.takes

-- on this stage they have all that the world has
abbrev pub ShowsOn : {P S : Type 0} → Rules S → Stage P S → Moment P S → World → Type 0
ShowsOn rules stage moment w = Shows (setting_of rules stage) stage.traced moment w

-- they have all that some world has
abbrev pub IsShown : {P S : Type 0} → Rules S → Stage P S → Moment P S → Type 0
IsShown rules stage moment = (w : World) × ShowsOn rules stage moment w

-- the books have what some world has
abbrev pub IsKept : Books → Type 0
IsKept books = (w : World) × Keeps books w
