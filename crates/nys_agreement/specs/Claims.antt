-- What the machine promises, whatever list of its events happens.
use Rattle.std.specs.Prelude.{◌≡◌, ℕ, ◌+◌, ◌≤◌, ◌⊎◌, true, false, ℤ, List, [], ◌∷◌, ◌++◌, length, slice_get, Some}
use Rattle.nys_bytes.specs.declared.content.Content.{Content}
use Rattle.nys_bytes.specs.declared.content.Content.TheVariants.{Message}
use Rattle.nys_source.specs.Rules.{Rules}
use Rattle.nys_source.specs.Runs.{after_run, host_at, IsRun}
use Rattle.nys_source.specs.Contents.{contents_taken}
use Rattle.nys_source.specs.declared.step.Step.{Step}
use Rattle.nys_source.specs.declared.step.Step.TheVariants.{Receive}
use Rattle.nys_agreement.specs.Net.{HasFewLiars, Net}
use Rattle.nys_agreement.specs.Said.{By, Has, Made}
use Rattle.nys_agreement.specs.Said.Said.{Deliver, Offer, Order}
use Rattle.nys_agreement.specs.Alone.{alone, inputs_in}
use Rattle.nys_agreement.specs.Assembly.{beginning, Assembly}
use Rattle.nys_agreement.specs.Events.{Event}
use Rattle.nys_agreement.specs.After.{after_all, Follows}

-- the second list goes on from the first
abbrev pub IsPrefixOf : {A : Type 0} → List A → List A → Type 0
IsPrefixOf {A} xs ys = (rest : List A) × (xs ++ rest ≡ ys)

-- what holds after every list of events that the machine allows, where few guards lie
abbrev pub Always : {S : Type 0} → Rules S → (Net → Assembly → Type 0) → Type 0
Always rules P = (net : Net) → HasFewLiars net → (events : List Event) → Follows rules net beginning events
    → P net (after_all beginning events)

-- of two logs of one host one is a prefix of the other; a liar has no log here
abbrev pub Agree : Net → Assembly → Type 0
Agree net w = (a b h : ℕ) → IsPrefixOf (w.log a h) (w.log b h) ⊎ IsPrefixOf (w.log b h) (w.log a h)

-- an Offer, Order or Deliver is the first of its maker for its epoch, host and slot
abbrev pub IsFirst : List Made → Made → Type 0
IsFirst older (By m (Offer e h s c)) = (d : Content) → Has older (By m (Offer e h s d)) → ⊥
IsFirst older (By m (Order e h s c)) = (d : Content) → Has older (By m (Order e h s d)) → ⊥
IsFirst older (By m (Deliver e h s c)) = (d : Content) → Has older (By m (Deliver e h s d)) → ⊥
IsFirst older (By m said) = Unit {0}

-- so is each in a ledger, which has the newest first
abbrev pub AreFirst : List Made → Type 0
AreFirst [] = Unit {0}
AreFirst (newest ∷ older) = IsFirst older newest × AreFirst older

-- no party makes two Offers, Orders or Delivers for one epoch, host and slot
abbrev pub SayOnce : Net → Assembly → Type 0
SayOnce net w = AreFirst w.ledger

-- honest Delivers for one epoch, host and slot are of one content
abbrev pub DeliverOne : Net → Assembly → Type 0
DeliverOne net w = (a b e h s : ℕ) (c d : Content) → Has w.ledger (By a (Deliver e h s c))
    → Has w.ledger (By b (Deliver e h s d)) → c ≡ d

-- the run has host h receive message k of p after s inputs and receives, where k is the next number and the
-- payload is what p had sent under it
pub record IsReceived {S : Type 0} (rules : Rules S) (run : List Step) (h s p k : ℕ) (payload : List ℤ) : Type 0 where
  pub before : List Step
  pub later : List Step
  pub whole : run ≡ before ++ Receive h p k ∷ later
  pub place : length (contents_taken rules before h) ≡ s
  pub number : (after_run rules before).received p h ≡ k
  pub sent : slice_get ((after_run rules before).sent p h) k ≡ Some payload

-- each message in a log is its sender's k-th in the run before it, and k is the next number
abbrev pub ReceiveWhatWasSent : {S : Type 0} → Rules S → Net → Assembly → Type 0
ReceiveWhatWasSent rules net w = (g h s p k : ℕ) (payload : List ℤ)
    → slice_get (w.log g h) s ≡ Some (Message p k payload) → IsReceived rules w.run h s p k payload

-- the logs spell the run
pub record Spell {S : Type 0} (rules : Rules S) (net : Net) (w : Assembly) : Type 0 where
  -- the steps are a run of the source system
  pub is_run : IsRun rules w.run
  -- each log is a prefix of what its host takes in the run
  pub logs : (g h : ℕ) → IsPrefixOf (w.log g h) (contents_taken rules w.run h)
  -- so is each decided log
  pub decided : (h : ℕ) → IsPrefixOf (w.decided h) (contents_taken rules w.run h)
  -- one of them is all of it
  pub longest : (h : ℕ) → ((g : ℕ) × (w.log g h ≡ contents_taken rules w.run h)) ⊎ (w.decided h ≡ contents_taken rules w.run h)
  -- state and outputs at the end of a log are those of its host in the run after as many inputs and receives
  pub states : (g h : ℕ) → host_at rules w.run h (length (w.log g h)) ≡ ((alone rules h (w.log g h)).state h, (alone rules h (w.log g h)).outs h)
  -- state and outputs at the end of the run are those of all that the host took
  pub last_state : (h : ℕ) → (after_run rules w.run).state h ≡ (alone rules h (contents_taken rules w.run h)).state h
  pub last_outs : (h : ℕ) → (after_run rules w.run).outs h ≡ (alone rules h (contents_taken rules w.run h)).outs h

-- once a host is decided for the end of an epoch, each log that a node of that epoch or an earlier one has of it, then or
-- ever after, is a prefix of what was decided
abbrev pub HandOver : {S : Type 0} → Rules S → Type 0
HandOver rules = (net : Net) → HasFewLiars net → (events later : List Event) → Follows rules net beginning events
    → Follows rules net (after_all beginning events) later → (g h : ℕ) → (after_all beginning events).decided_now h ≡ true
    → (after_all (after_all beginning events) later).epoch g ≤ (after_all beginning events).top
    → IsPrefixOf ((after_all (after_all beginning events) later).log g h) ((after_all beginning events).decided h)

-- a decided log is at most one entry longer than some honest node's log
abbrev pub DecideNear : Net → Assembly → Type 0
DecideNear net w = (h : ℕ) → (w.decided h ≡ [])
    ⊎ ((g : ℕ) × (net.liars g ≡ false) × (length (w.decided h) ≤ length (w.log g h) + 1))

-- an honest host's inputs in the run are a prefix of those handed to it, and no log of it is more
-- than one entry longer than its own
pub record TakeInputs {S : Type 0} (rules : Rules S) (net : Net) (w : Assembly) : Type 0 where
  pub inputs : (h : ℕ) → net.liars h ≡ false → IsPrefixOf (inputs_in (contents_taken rules w.run h)) (w.handed h)
  pub own : (g h : ℕ) → net.liars h ≡ false → length (w.log g h) ≤ length (w.log h h) + 1

-- the home of an entry of the run is the epoch whose votes or decision put it there
pub record HaveHomes {S : Type 0} (rules : Rules S) (net : Net) (w : Assembly) : Type 0 where
  -- each entry has one, in which an honest guard delivered it, at or past the base
  pub all : (h s : ℕ) (c : Content) → slice_get (contents_taken rules w.run h) s ≡ Some c
      → (e : ℕ) × (x : ℕ) × (slice_get (w.home h) s ≡ Some e) × (e ≤ w.top) × (w.base e h ≤ s) × Has w.ledger (By x (Deliver e h s c))
  -- homes never fall along a log
  pub rise : (h s r e l : ℕ) → s ≤ r → slice_get (w.home h) s ≡ Some e → slice_get (w.home h) r ≡ Some l → e ≤ l
  -- no honest Deliver for the slot is of a later epoch
  pub last : (x e h s l : ℕ) (c : Content) → Has w.ledger (By x (Deliver e h s c)) → slice_get (w.home h) s ≡ Some l → e ≤ l
  -- and one of that epoch is of the entry
  pub same : (x e h s : ℕ) (c : Content) → Has w.ledger (By x (Deliver e h s c)) → slice_get (w.home h) s ≡ Some e
      → slice_get (contents_taken rules w.run h) s ≡ Some c
