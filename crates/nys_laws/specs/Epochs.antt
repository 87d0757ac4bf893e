-- What each epoch began with; and that the Olympus, what it made and all nodes have it so.
use Rattle.std.specs.Prelude.{◌≡◌, ◌≢◌, ℕ, ◌<◌, ◌≤◌, ◌⊎◌, Bool, true, false, List, length, Ok, Option, Some, slice_get}
use Rattle.nys_bytes.specs.declared.content.Content.{Content}
use Rattle.nys_stmt.specs.declared.statement.Body.{Body}
use Rattle.nys_stmt.specs.declared.statement.Body.TheVariants as body
use Rattle.nys_stmt.specs.declared.statement.FilledKind.TheVariants as kind
use Rattle.nys_stmt.specs.declared.statement.Statement.{Statement}
use Rattle.nys_rules.specs.Events.{Plain}
use Rattle.nys_rules.specs.Forged.{Entry, HasMade}
use Rattle.nys_rules.specs.Happening.{HappenAll}
use Rattle.nys_rules.specs.Noting.{bases, retirements}
use Rattle.nys_rules.specs.Olympus.{OlympusView}
use Rattle.nys_rules.specs.Scope.{olympus, Scope}
use Rattle.nys_rules.specs.Sending.{said_in}
use Rattle.nys_rules.specs.View.{View}
use Rattle.nys_rules.specs.World.{Setting, World}

-- what the epochs began with, by epoch and host
pub record History : Type 0 where
  -- the length at which the epoch begins the log of the host; 0 for a host that is retired then
  pub base : ℕ → ℕ → ℕ
  -- whether the host is retired then
  pub retired : ℕ → ℕ → Bool

-- the one history goes on as the other up to an epoch
pub record AgreeUpTo (top : ℕ) (history later : History) : Type 0 where
  pub base : (e h : ℕ) → e ≤ top → later.base e h ≡ history.base e h
  pub retired : (e h : ℕ) → e ≤ top → later.retired e h ≡ history.retired e h

-- the Olympus is in an epoch of the history, and its own logs and hosts are as the history has them
pub record OlympusFollows {S : Type 0} (scope : Scope S) (history : History)
    (o : OlympusView) : Type 0 where
  -- its epoch is one of the scenario's
  pub within : o.epoch < scope.epochs
  -- epoch 0 begins each log at 0, and no host is retired
  pub first : (h : ℕ) → (history.base 0 h ≡ 0) × (history.retired 0 h ≡ false)
  -- no epoch began a log past what is decided
  pub logged : (e h : ℕ) → e ≤ o.epoch → history.base e h ≤ length (o.decided h)
  -- its epoch began the log of a host that lives in it where it has it
  pub base : (h : ℕ) → h < scope.rules.hosts → history.retired o.epoch h ≡ false
      → o.base h ≡ history.base o.epoch h
  -- a host that was retired is retired in each later epoch
  pub never_back : (d e h : ℕ) → d ≤ e → e ≤ o.epoch → history.retired d h ≡ true
      → history.retired e h ≡ true
  -- only hosts are
  pub hosts : (e h : ℕ) → e ≤ o.epoch → history.retired e h ≡ true → h < scope.rules.hosts
  -- and a host that was retired is so still
  pub still : (h : ℕ) → history.retired o.epoch h ≡ true → o.retired h ≡ true
  -- others are given up only while the epoch ends
  pub ending : (h : ℕ) → h < scope.rules.hosts → o.retired h ≡ true
      → (o.wedged ≡ true) ⊎ (history.retired o.epoch h ≡ true)
  -- and hosts are decided only while it ends
  pub deciding : (h : ℕ) → o.decided_now h ≡ true → o.wedged ≡ true
  -- no host is both decided for the end of the epoch and given up
  pub apart : (h : ℕ) → o.decided_now h ≡ true → o.retired h ≡ false
  -- until its host is decided a log has what was decided before the epoch
  pub undecided : (h : ℕ) → o.decided_now h ≡ false → length (o.decided h) ≡ o.base h

-- an Open of the epoch tells what the history has of it; `top` is the epoch of the Olympus
pub record IsOpening (history : History) (top e : ℕ) (lengths : List (Option ℕ)) : Type 0 where
  pub later : 1 ≤ e
  pub past : e ≤ top
  pub base : (h : ℕ) → bases lengths h ≡ history.base e h
  pub retired : (h : ℕ) → retirements lengths h ≡ history.retired e h

-- an Inherit of the epoch has an entry of a decided log, below the length at which the epoch begins it
pub record IsInherited {S : Type 0} (scope : Scope S) (history : History) (top : ℕ)
    (decided : ℕ → List Content) (e h slot : ℕ) (content : Content) : Type 0 where
  pub past : e ≤ top
  pub host : h < scope.rules.hosts
  pub lives : history.retired e h ≡ false
  pub below : slot < history.base e h
  pub entry : slice_get (decided h) slot ≡ Some content

-- what the Olympus may have made, where it is in the epoch `top`, which may be ending, with these
-- decided logs
abbrev pub IsProclaimed : {S : Type 0} → Scope S → History → (top : ℕ) → (ending : Bool)
    → (decided : ℕ → List Content) → (e : ℕ) → Body → Type 0
IsProclaimed scope history top ending decided e body.Wedge =
    (e < top) ⊎ ((e ≡ top) × (ending ≡ true))
IsProclaimed scope history top ending decided e (body.Open lengths) =
    IsOpening history top e lengths
IsProclaimed scope history top ending decided e (body.Filled kind.Inherit h slot content) =
    IsInherited scope history top decided e h slot content
IsProclaimed scope history top ending decided e _ = ⊥

-- the Olympus in a world may have made the statement
abbrev pub MayHaveMade : {S : Type 0} → Scope S → History → OlympusView → Statement → Type 0
MayHaveMade scope history o s =
    IsProclaimed scope history o.epoch o.wedged o.decided s.epoch s.body

-- a node is in an epoch of the history, no later one than the Olympus's, as that epoch began
pub record NodeFollows (history : History) (top : ℕ) (ledger : List Entry)
    (v : View) : Type 0 where
  pub behind : v.epoch ≤ top
  pub base : (h : ℕ) → v.base h ≡ history.base v.epoch h
  pub retired : (h : ℕ) → v.retired h ≡ history.retired v.epoch h
  -- where it knows that the epoch ends, the Olympus said so
  pub told : v.wedged ≡ true → HasMade ledger olympus (said_in v.epoch body.Wedge)

-- a world follows the history
pub record FollowsHistory {S : Type 0} (setting : Setting S) (history : History)
    (w : World) : Type 0 where
  pub top : OlympusFollows setting.scope history w.olympus
  -- the Olympus made nothing else
  pub made : (s : Statement) → HasMade w.ledger olympus s
      → MayHaveMade setting.scope history w.olympus s
  pub nodes : (g : ℕ) → g ≢ olympus → NodeFollows history w.olympus.epoch w.ledger (w.nodes g)
  -- what stands in the place of a node at the number of the Olympus is no host's
  pub nobody : (w.nodes olympus).me ≡ olympus

-- a world follows some history
abbrev pub HasHistory : {S : Type 0} → Setting S → World → Type 0
HasHistory setting w = (history : History) × FollowsHistory setting history w

-- the history of a world goes on in a later one
pub record GoesOn {S : Type 0} (setting : Setting S) (top : ℕ) (history : History)
    (next : World) : Type 0 where
  pub later : History
  pub follows : FollowsHistory setting later next
  pub same : AgreeUpTo top history later
  pub rises : top ≤ next.olympus.epoch

-- whatever events follow a world, its history goes on
abbrev pub HistoriesGoOn : {S : Type 0} → Setting S → Type 0
HistoriesGoOn setting = (events : List Plain) (w next : World) (history : History)
    → HappenAll setting w events (Ok next) → FollowsHistory setting history w
    → GoesOn setting w.olympus.epoch history next
