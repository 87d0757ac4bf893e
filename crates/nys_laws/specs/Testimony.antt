-- What the Olympus is told by guards, and what its decisions rest on.
use Rattle.std.specs.Prelude.{◌≡◌, ◌≢◌, ℕ, ◌+◌, ◌<◌, ◌≤◌, ◌⊎◌, true, false, All, AllPairs, List, length, Some, slice_get}
use Rattle.nys_hosts.specs.declared.limits.TheConstants.{MAX_HOSTS}
use Rattle.nys_bytes.specs.declared.content.Content.{Content}
use Rattle.nys_hosts.specs.Counts.{AtLeast}
use Rattle.nys_stmt.specs.declared.statement.Body.TheVariants as body
use Rattle.nys_stmt.specs.declared.statement.FilledKind.TheVariants as kind
use Rattle.nys_votes.specs.Seats.{seat_of}
use Rattle.nys_rules.specs.declared.decision.Decision.TheVariants as decide
use Rattle.nys_rules.specs.declared.decision.Opened.TheVariants as opens
use Rattle.nys_rules.specs.Forged.{Entry}
use Rattle.nys_rules.specs.Olympus.{Decides, opening, OlympusView, Reported, supports}
use Rattle.nys_rules.specs.Scope.{quorum_at, Scope}
use Rattle.nys_rules.specs.World.{Setting, World}
use Rattle.nys_laws.specs.Epochs.{FollowsHistory, History}
use Rattle.nys_laws.specs.Vouched.{IsFrozenAt, IsVouched}

-- a report that is kept for a slot: a guard stands for it, and the slot is none below the base
pub record IsTrueReport {S : Type 0} (setting : Setting S) (ledger : List Entry)
    (e base h slot : ℕ) (r : Reported) : Type 0 where
  pub host : h < setting.scope.rules.hosts
  pub above : base ≤ slot
  pub stands : IsVouched setting ledger e h (body.Filled kind.Report h slot r.content) r.guard

-- the slot that is kept as a guard's first frozen one: the guard stands for it
pub record IsTrueFrozen {S : Type 0} (setting : Setting S) (ledger : List Entry)
    (e h m slot : ℕ) : Type 0 where
  pub host : h < setting.scope.rules.hosts
  pub stands : IsVouched setting ledger e h (body.Frozen h slot) m

-- all that the Olympus keeps of guards is true
pub record HearsTestimony {S : Type 0} (setting : Setting S) (ledger : List Entry)
    (o : OlympusView) : Type 0 where
  pub reports : (h slot : ℕ)
      → All (IsTrueReport setting ledger o.epoch (o.base h) h slot) (o.reports h slot)
  -- no guard has two reports for a slot
  pub different : (h slot : ℕ) → AllPairs (λ a b. a.guard ≢ b.guard) (o.reports h slot)
  pub frozen : (h m slot : ℕ) → seat_of (o.frozen h) m ≡ Some slot
      → IsTrueFrozen setting ledger o.epoch h m slot
  -- there is a seat for each host
  pub seats : (h : ℕ) → length (o.frozen h) ≡ MAX_HOSTS

-- the Olympus of a world is told the truth
abbrev pub IsToldTruly : {S : Type 0} → Setting S → World → Type 0
IsToldTruly setting w = HearsTestimony setting w.ledger w.olympus

-- these contents may be decided to follow the decided log of h: its epoch ends, h lives in it and is
-- open still, more guards than may lie stand for each content, and a quorum is frozen where they end
pub record MayBeDecided {S : Type 0} (setting : Setting S) (history : History) (w : World)
    (h : ℕ) (more : List Content) : Type 0 where
  pub host : h < setting.scope.rules.hosts
  pub ending : w.olympus.wedged ≡ true
  pub open_still : w.olympus.decided_now h ≡ false
  pub kept : w.olympus.retired h ≡ false
  pub lives : history.retired w.olympus.epoch h ≡ false
  pub supported : (i : ℕ) (content : Content) → slice_get more i ≡ Some content
      → AtLeast (setting.scope.t w.olympus.epoch h + 1)
      (IsVouched setting w.ledger w.olympus.epoch h
      (body.Filled kind.Report h (length (w.olympus.decided h) + i) content))
  pub frozen : AtLeast (quorum_at setting.scope w.olympus.epoch h)
      (IsFrozenAt setting w.ledger w.olympus.epoch h (length (w.olympus.decided h) + length more))

-- a decision in the world rests on what guards said, and tells the length of the decided log
pub record RestsOnGuards {S : Type 0} (setting : Setting S) (history : History) (w : World)
    (h len : ℕ) : Type 0 where
  pub may : MayBeDecided setting history w h (supports setting.scope w.olympus h)
  pub len_is : len ≡ length (w.olympus.decided h) + length (supports setting.scope w.olympus h)

-- whatever the Olympus of the world decides next rests on what guards said
abbrev pub DecidesTruly : {S : Type 0} → Setting S → World → Type 0
DecidesTruly setting w = (history : History) → FollowsHistory setting history w
    → (h len : ℕ) (after : OlympusView)
    → Decides setting.scope w.olympus h after (decide.Decided len)
    → RestsOnGuards setting history w h len

-- where the next epoch may be opened the epoch ends, and each host is decided or given up
pub record MayBeOpened {S : Type 0} (scope : Scope S) (o : OlympusView) (epoch : ℕ) : Type 0 where
  pub next : epoch ≡ o.epoch + 1
  pub ending : o.wedged ≡ true
  pub room : o.epoch + 1 < scope.epochs
  pub each : (h : ℕ) → h < scope.rules.hosts → (o.decided_now h ≡ true) ⊎ (o.retired h ≡ true)

-- an epoch is opened only then
abbrev pub OpensInOrder : {S : Type 0} → Scope S → Type 0
OpensInOrder scope = (o : OlympusView) (epoch : ℕ) → opening scope o ≡ opens.Done epoch
    → MayBeOpened scope o epoch
