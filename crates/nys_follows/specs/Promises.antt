-- What the worlds of a scenario promise, in the words of the rules of nodes and of the source system.
use Rattle.std.specs.Prelude.{◌≡◌, ℕ, ◌+◌, ◌<◌, ◌≤◌, ◌⊎◌, Bool, true, false, ℤ, List, [], ◌++◌, length, slice_get, Some, Ok}
use Rattle.nys_bytes.specs.declared.content.Content.{Content}
use Rattle.nys_bytes.specs.declared.content.Content.TheVariants.{Message}
use Rattle.nys_source.specs.Contents.{contents_taken}
use Rattle.nys_stmt.specs.declared.statement.Body.TheVariants as body
use Rattle.nys_stmt.specs.declared.statement.FilledKind.TheVariants as kind
use Rattle.nys_agreement.specs.Alone.{inputs_in}
use Rattle.nys_agreement.specs.Claims.{IsPrefixOf, IsReceived}
use Rattle.nys_laws.specs.Once.{SaysOnce}
use Rattle.nys_rules.specs.Events.{Plain}
use Rattle.nys_rules.specs.Forged.{HasMade}
use Rattle.nys_rules.specs.Happening.{HappenAll}
use Rattle.nys_rules.specs.Sending.{said_in}
use Rattle.nys_rules.specs.Spelling.{HasLog, printed_run, SpellsLogs}
use Rattle.nys_rules.specs.View.{is_live}
use Rattle.nys_rules.specs.World.{fresh_world, is_honest, Setting, World}
use Rattle.nys_told.specs.Handed.{handed_to}

-- host g of the protocol doesn't lie
pub record IsHonestHost {S : Type 0} (setting : Setting S) (g : ℕ) : Type 0 where
  pub host : g < setting.scope.rules.hosts
  pub honest : is_honest setting g ≡ true

-- one of two lists is a prefix of the other
abbrev pub AreOfOne : {A : Type 0} → List A → List A → Type 0
AreOfOne xs ys = IsPrefixOf xs ys ⊎ IsPrefixOf ys xs

-- of two logs of one host one is a prefix of the other: logs that honest nodes have, and the decided log
pub record LogsAgree {S : Type 0} (setting : Setting S) (w : World) : Type 0 where
  pub nodes : (a b h : ℕ) → HasLog setting w a h → HasLog setting w b h
      → AreOfOne ((w.nodes a).logs h) ((w.nodes b).logs h)
  pub decided : (g h : ℕ) → HasLog setting w g h → AreOfOne ((w.nodes g).logs h) (w.olympus.decided h)

-- the Delivers that honest hosts made for one epoch, host and slot are of one content
abbrev pub DeliverOne : World → Type 0
DeliverOne w = (a b e h s : ℕ) (c d : Content) → HasMade w.ledger a (said_in e (body.Filled kind.Deliver h s c))
    → HasMade w.ledger b (said_in e (body.Filled kind.Deliver h s d)) → c ≡ d

-- a decided log is at most one entry longer than the log of some honest node, and no log of an honest
-- host that an honest node has is more than one entry longer than the host's own
pub record AreNear {S : Type 0} (setting : Setting S) (w : World) : Type 0 where
  pub decided : (h : ℕ) → (w.olympus.decided h ≡ [])
      ⊎ ((g : ℕ) × IsHonestHost setting g × (length (w.olympus.decided h) ≤ length ((w.nodes g).logs h) + 1))
  pub own : (g h : ℕ) → IsHonestHost setting h → HasLog setting w g h
      → length ((w.nodes g).logs h) ≤ length ((w.nodes h).logs h) + 1

-- each message in a log that an honest node has is its sender's k-th in the printed run before the host
-- takes it, and k is the number that the host receives next there
abbrev pub ReceivedWasSent : {S : Type 0} → Setting S → World → Type 0
ReceivedWasSent setting w = (g h s p k : ℕ) (payload : List ℤ) → HasLog setting w g h
    → slice_get ((w.nodes g).logs h) s ≡ Some (Message p k payload)
    → IsReceived setting.scope.rules (printed_run setting.scope w) h s p k payload

-- what an honest host's node keeps of its inputs: those of its own log, then those that wait
abbrev pub inputs_kept : World → ℕ → List (List ℤ)
inputs_kept w h = inputs_in ((w.nodes h).logs h) ++ (w.nodes h).waiting

-- the payloads that events handed to host h are, in order, those that its node keeps, and its inputs in the
-- printed run are a prefix of them
pub record TakesInOrder {S : Type 0} (setting : Setting S) (w : World) (events : List Plain) (h : ℕ) : Type 0 where
  pub kept : inputs_kept w h ≡ handed_to w.notes h events
  pub taken : IsPrefixOf (inputs_in (contents_taken setting.scope.rules (printed_run setting.scope w) h))
      (handed_to w.notes h events)

-- so it is of each honest host, whatever events made the world
abbrev pub InputsInOrder : {S : Type 0} → Setting S → World → Type 0
InputsInOrder setting w = (events : List Plain) → HappenAll setting (fresh_world setting) events (Ok w)
    → (h : ℕ) → IsHonestHost setting h → TakesInOrder setting w events h

-- whatever events follow, what an honest host's node keeps goes on from that
abbrev pub InputsStay : {S : Type 0} → Setting S → World → Type 0
InputsStay setting w = (events : List Plain) (next : World) → HappenAll setting w events (Ok next)
    → (h : ℕ) → IsHonestHost setting h → IsPrefixOf (inputs_kept w h) (inputs_kept next h)

-- once a host is decided for the end of the Olympus's epoch, each log of it that an honest node has in that
-- epoch or an earlier one is a prefix of the decided log, in this world and in each that follows
abbrev pub HandsOver : {S : Type 0} → Setting S → World → Type 0
HandsOver setting w = (events : List Plain) (next : World) → HappenAll setting w events (Ok next)
    → (g h : ℕ) → w.olympus.decided_now h ≡ true → HasLog setting next g h → (next.nodes g).epoch ≤ w.olympus.epoch
    → IsPrefixOf ((next.nodes g).logs h) (w.olympus.decided h)

-- of a log of that length, which has this base, the entries are kept from `from` on: where the host is live at the
-- node all from the base on are, and once the log has reached the base no others; where it isn't live, none
pub record IsKept (live : Bool) (base from long : ℕ) : Type 0 where
  pub all : live ≡ true → from ≤ base
  pub only : live ≡ true → base ≤ long → from ≡ base
  pub none : live ≡ false → from ≡ long

-- so honest nodes keep each log
abbrev pub KeepFromBase : {S : Type 0} → Setting S → World → Type 0
KeepFromBase setting w = (g h : ℕ) → IsHonestHost setting g
    → IsKept (is_live setting.scope (w.nodes g) h) ((w.nodes g).base h) ((w.nodes g).kept_from h) (length ((w.nodes g).logs h))

-- what each world of a scenario promises, whatever events make it
pub record IsPromised {S : Type 0} (setting : Setting S) (w : World) : Type 0 where
  -- of two logs of one host, that honest nodes have or the Olympus decided, one is a prefix of the other
  pub agree : LogsAgree setting w
  -- in the ledger each party has at most one Offer, one Order and one Deliver for each host, slot and epoch
  pub once : (g : ℕ) → SaysOnce w.ledger g
  -- the Delivers of honest hosts for one epoch, host and slot are of one content
  pub one_content : DeliverOne w
  -- a decided log is at most one entry longer than some honest node's, and so is a log of an honest host
  -- than the host's own
  pub near : AreNear setting w
  -- the printed run is one of the source system, and spells the logs
  pub spelled : SpellsLogs setting w
  -- each message in a log is the sender's k-th in the run before it, and k is the next number
  pub sent : ReceivedWasSent setting w
  -- an honest host's inputs in the run are, in order, a prefix of the payloads that events `input` handed to
  -- it, less those of which a note tells that its queue was full; of these its node loses none
  pub inputs : InputsInOrder setting w
  -- whatever events follow, it keeps them
  pub stay : InputsStay setting w
  -- the log of a host that is decided for the end of the epoch has as prefixes all logs of it that honest
  -- nodes have in that epoch or an earlier one, whatever events follow
  pub hand_over : HandsOver setting w
  -- an honest node keeps the entries of a host that is live at it from the base on, all of them, and once the log
  -- has reached the base no others; of a host that isn't live it keeps none
  pub kept : KeepFromBase setting w

-- each world on the way of these events, from the first one on, keeps what worlds promise
abbrev pub IsPromisedOnTheWay : {S : Type 0} → Setting S → List Plain → Type 0
IsPromisedOnTheWay setting events = (before rest : List Plain) (w : World) → events ≡ before ++ rest
    → HappenAll setting (fresh_world setting) before (Ok w) → IsPromised setting w
