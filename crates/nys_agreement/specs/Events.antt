-- What an honest party may say, and what else may happen. The rules of the nodes ask more, and no law
-- needs it: they end a log at 1,024 entries; choose what is offered and ordered by credits; attest numbers in
-- order, as a guard of both hosts; report each entry from the base on, and at once; let a decision go as far
-- as reports support it; and bring a node each statement that it acts on. That their worlds follow this
-- machine is not said here.
use Rattle.std.specs.Prelude.{◌≡◌, ℕ, ◌+◌, ◌<◌, ◌≤◌, ◌⊎◌, true, false, ℤ, List, length, slice_get, Some}
use Rattle.nys_bytes.specs.declared.content.Content.{Content}
use Rattle.nys_bytes.specs.declared.content.Content.TheVariants.{External, Message}
use Rattle.nys_hosts.specs.Counts.{AtLeast}
use Rattle.nys_source.specs.Rules.{Rules}
use Rattle.nys_agreement.specs.Net.{Net, quorum_in}
use Rattle.nys_agreement.specs.Said.{AttestsBoth, By, FrozeBy, Has, Said, Vouches}
use Rattle.nys_agreement.specs.Said.Said.{Attest, Deliver, Frozen, Offer, Order, Report}
use Rattle.nys_agreement.specs.Alone.{alone, Fits}
use Rattle.nys_agreement.specs.Assembly.{Assembly}

-- slot s of host h is open at honest node g in epoch e: it guards h there, isn't wedged, and the log
-- has s entries, the base or more
pub record IsOpen (hosts : ℕ) (net : Net) (w : Assembly) (g e h s : ℕ) : Type 0 where
  pub host : h < hosts
  pub guard : net.guards e h g ≡ true
  pub honest : net.liars g ≡ false
  pub now : w.epoch g ≡ e
  pub active : w.wedged g ≡ false
  pub lives : w.live e h ≡ true
  pub length_is : length (w.log g h) ≡ s
  pub above_base : w.base e h ≤ s

-- a content that a host may offer: a message, or its oldest waiting input
abbrev pub IsCandidate : List (List ℤ) → Content → Type 0
IsCandidate waiting (External payload) = slice_get waiting 0 ≡ Some payload
IsCandidate waiting (Message p k payload) = Unit {0}

-- the guard knows the content to be one that h can take next: it fits the log, and t + 1 guards of
-- sender and receiver attest a message, t being the sender's
abbrev pub IsNext : {S : Type 0} → Rules S → Net → Assembly → ℕ → ℕ → ℕ → Content → Type 0
IsNext rules net w g e h (External payload) = Unit {0}
IsNext rules net w g e h (Message p k payload) =
    Fits rules h (w.log g h) (Message p k payload)
    × AtLeast (net.t e p + 1) (AttestsBoth net w.ledger e p h k payload)

-- an honest party may say this now
abbrev pub MaySay : {S : Type 0} → Rules S → Net → Assembly → ℕ → Said → Type 0
-- a host offers once a slot and epoch
MaySay rules net w g (Offer e h s c) =
    IsOpen rules.hosts net w g e h s × (g ≡ h) × ((d : Content) → Has w.ledger (By g (Offer e h s d)) → ⊥)
    × IsCandidate (w.waiting h) c
-- a guard orders once a slot and epoch, what the host offered
MaySay rules net w g (Order e h s c) =
    IsOpen rules.hosts net w g e h s × ((d : Content) → Has w.ledger (By g (Order e h s d)) → ⊥)
    × (net.liars h ≡ false → Has w.ledger (By h (Offer e h s c))) × IsNext rules net w g e h c
-- a guard delivers once a slot and epoch, on a quorum of Orders or on t + 1 Delivers
MaySay rules net w g (Deliver e h s c) =
    IsOpen rules.hosts net w g e h s × ((d : Content) → Has w.ledger (By g (Deliver e h s d)) → ⊥)
    × (AtLeast (quorum_in net e h) (Vouches net w.ledger e h (Order e h s c))
    ⊎ AtLeast (net.t e h + 1) (Vouches net w.ledger e h (Deliver e h s c)))
-- a party attests what its own log of the sender sent
MaySay rules net w g (Attest e p h k payload) =
    (net.liars g ≡ false) × (slice_get ((alone rules p (w.log g p)).sent p h) k ≡ Some payload)
-- a wedged guard reports entries from the base on, and its Delivers
MaySay rules net w g (Report e h s c) =
    (net.liars g ≡ false) × (w.epoch g ≡ e) × (w.wedged g ≡ true) × (w.live e h ≡ true) × (w.base e h ≤ s)
    × ((slice_get (w.log g h) s ≡ Some c) ⊎ Has w.ledger (By g (Deliver e h s c)))
-- a wedged guard freezes past all its Delivers
MaySay rules net w g (Frozen e h f) =
    (net.liars g ≡ false) × (w.epoch g ≡ e) × (w.wedged g ≡ true)
    × ((s : ℕ) (c : Content) → Has w.ledger (By g (Deliver e h s c)) → s < f)

-- what may happen in the assembly
pub data Event : Type 0 where
  -- an honest party makes a statement
  Says : (g : ℕ) → Said → Event
  -- node g appends a content to its log of h on a quorum of Delivers
  Logs : (g h : ℕ) → Content → Event
  -- node g hears that its epoch ends
  Wedges : (g : ℕ) → Event
  -- node g enters epoch e
  Enters : (g e : ℕ) → Event
  -- node g appends an entry of the decided log that its epoch begins with
  Inherits : (g h : ℕ) → Content → Event
  -- an input is handed to host h
  Hands : (h : ℕ) → (payload : List ℤ) → Event
  -- the Olympus begins to end its epoch
  TopWedges : Event
  -- the Olympus decides that these contents follow the decided log of h
  Decides : (h : ℕ) → List Content → Event
  -- the Olympus gives host h up
  Retires : (h : ℕ) → Event
  -- the Olympus opens the next epoch
  Opens : Event

-- the contents may follow the decided log of h, of which t + 1 guards reported each, while a quorum is
-- frozen where they end
pub record MayDecide (net : Net) (w : Assembly) (h : ℕ) (more : List Content) : Type 0 where
  pub ending : w.top_wedged ≡ true
  pub open_still : w.decided_now h ≡ false
  pub kept : w.retired h ≡ false
  pub lives : w.live w.top h ≡ true
  pub supported : (i : ℕ) (c : Content) → slice_get more i ≡ Some c
      → AtLeast (net.t w.top h + 1) (Vouches net w.ledger w.top h (Report w.top h (length (w.decided h) + i) c))
  pub frozen : AtLeast (quorum_in net w.top h) (FrozeBy net w.ledger w.top h (length (w.decided h) + length more))

-- the event may happen now
abbrev pub Enabled : {S : Type 0} → Rules S → Net → Assembly → Event → Type 0
Enabled rules net w (Says g said) = MaySay rules net w g said
Enabled rules net w (Logs g h c) =
    IsOpen rules.hosts net w g (w.epoch g) h (length (w.log g h))
    × AtLeast (quorum_in net (w.epoch g) h)
    (Vouches net w.ledger (w.epoch g) h (Deliver (w.epoch g) h (length (w.log g h)) c))
    × Fits rules h (w.log g h) c
Enabled rules net w (Wedges g) = net.liars g ≡ false
Enabled rules net w (Enters g e) = (net.liars g ≡ false) × (w.epoch g < e) × (e ≤ w.top)
Enabled rules net w (Inherits g h c) =
    (net.liars g ≡ false) × (length (w.log g h) < w.base (w.epoch g) h)
    × (slice_get (w.decided h) (length (w.log g h)) ≡ Some c)
Enabled rules net w (Hands h payload) = Unit {0}
Enabled rules net w TopWedges = Unit {0}
Enabled rules net w (Decides h more) = MayDecide net w h more
Enabled rules net w (Retires h) = (w.top_wedged ≡ true) × (w.decided_now h ≡ false) × (w.retired h ≡ false)
Enabled rules net w Opens = (w.top_wedged ≡ true) × ((h : ℕ) → h < rules.hosts → (w.decided_now h ≡ true) ⊎ (w.retired h ≡ true))
