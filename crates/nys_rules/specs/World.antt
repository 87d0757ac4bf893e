-- What a world is: honest nodes, the Olympus, and all that they said, sent and did. Liars have no state:
-- what is given to a liar changes nothing but that the packet counts as delivered.
use Rattle.std.specs.Prelude.{ℕ, ◌+◌, ◌==◌, nat_le, nat_lt, Bool, true, false, ◌&&◌, ◌||◌, not, if◌then◌else◌, List, [], ◌∷◌, ◌++◌, drop, filter, length, map, slice_get, sum_by, Option, Some, None, Result, Ok, Err}
use Rattle.std.specs.List.{range_with_len}
use Rattle.nys_rules.specs.declared.limits.TheConstants.{MAX_PACKETS, MAX_POOL_BYTES}
use Rattle.nys_bytes.specs.declared.content.Content.{Content}
use Rattle.nys_agreement.specs.Alone.{step_of}
use Rattle.nys_source.specs.Tables.{put}
use Rattle.nys_source.specs.declared.step.Step.{Step}
use Rattle.nys_rules.specs.declared.notice.End.{End}
use Rattle.nys_rules.specs.declared.notice.End.TheVariants.{PoolFull}
use Rattle.nys_rules.specs.declared.notice.Note.{Note}
use Rattle.nys_rules.specs.declared.notice.NoteKind.{NoteKind}
use Rattle.nys_rules.specs.declared.notice.Take.{Take}
use Rattle.nys_rules.specs.Forged.{Entry, with_made}
use Rattle.nys_rules.specs.Olympus.{first_olympus, OlympusView}
use Rattle.nys_rules.specs.Packets.{Done, Given, Sent}
use Rattle.nys_rules.specs.Scope.{olympus, Scope}
use Rattle.nys_rules.specs.View.{first_view, View}

-- a scenario: what never changes, and which hosts lie
pub record Setting (S : Type 0) : Type 0 where
  pub scope : Scope S
  pub liars : ℕ → Bool

-- the party is the Olympus, or a host that doesn't lie
abbrev pub is_honest : {S : Type 0} → Setting S → ℕ → Bool
is_honest setting party = party == olympus || (nat_lt party setting.scope.rules.hosts && not (setting.liars party))

-- the world between two events
pub record World : Type 0 where
  -- how many events there were
  pub events : ℕ
  -- what the node of each honest host knows, without its replicas, which are what its logs give; what stands
  -- here for a liar means nothing
  pub nodes : ℕ → View
  pub olympus : OlympusView
  -- what honest hosts and the Olympus made
  pub ledger : List Entry
  -- all packets, in order of sending, and which of them were given to their party
  pub pool : List Sent
  pub delivered : ℕ → Bool
  -- the bytes that events gave
  pub injected : List Given
  -- what was given to honest hosts and to the Olympus, in order
  pub takes : List Take
  pub notes : List Note
  -- how long the longest log of each host is, of honest nodes and of the Olympus
  pub longest : ℕ → ℕ
  -- a step for each entry by which a log passed all logs of its host
  pub run : List Step

-- the world before the first event
unfoldable pub fresh_world : {S : Type 0} → Setting S → World
fresh_world setting = record {
  events = 0;
  nodes = first_view setting.scope;
  olympus = first_olympus;
  ledger = [];
  pool = [];
  delivered = λ _. false;
  injected = [];
  takes = [];
  notes = [];
  longest = λ _. 0;
  run = [];
}

-- how many bytes the packets have
abbrev pub pool_bytes : List Sent → ℕ
pool_bytes pool = sum_by (λ p. length p.frame) pool

-- one packet more would pass the limit of packets or that of their bytes
abbrev pub is_too_much : List Sent → Sent → Bool
is_too_much pool p = nat_le MAX_PACKETS (length pool) || nat_lt MAX_POOL_BYTES (pool_bytes pool + length p.frame)

-- the world with the packets in its pool, in order, or its end at the first that has no room
abbrev pub with_packets : List Sent → World → Result World End
with_packets [] w = Ok w
with_packets (p ∷ packets) w =
    if is_too_much w.pool p then Err (PoolFull w.events (length w.pool) (pool_bytes w.pool))
    else with_packets packets (record w { pool = w.pool ++ p ∷ [] })

-- the world in which a log of h got this entry in the slot, if there is one: the first log that has the
-- slot adds a step to the run
abbrev pub with_slot : (h slot : ℕ) → Option Content → World → World
with_slot h slot None w = w
with_slot h slot (Some content) w =
    if nat_lt slot (w.longest h) then w
    else record w { longest = put w.longest h (slot + 1); run = w.run ++ step_of h content ∷ [] }

-- the world in which a node, whose view is this, logged these slots in order
abbrev pub with_grown : View → List (ℕ × ℕ) → World → World
with_grown v [] w = w
with_grown v (x ∷ grew) w = with_grown v grew (with_slot x.0 x.1 (slice_get (v.logs x.0) x.1) w)

-- the world in which the Olympus decided these entries, which begin at the slot
abbrev pub with_decided : (h slot : ℕ) → List Content → World → World
with_decided h slot [] w = w
with_decided h slot (content ∷ contents) w = with_decided h (slot + 1) contents (with_slot h slot (Some content) w)

-- the world after the node of g did something: what it made joins the ledger, what it logged the run, and
-- its packets the pool
unfoldable pub after_node : ℕ → View → Done → World → Result World End
after_node g v done w =
    with_packets done.acts.packets
    (with_grown v done.acts.grew (record w { nodes = put w.nodes g v; ledger = with_made g done.acts.made w.ledger }))

-- the world after the Olympus did something
unfoldable pub after_olympus : OlympusView → Done → World → Result World End
after_olympus o done w =
    with_packets done.acts.packets (record w { olympus = o; ledger = with_made olympus done.acts.made w.ledger })

-- the world with one note more
abbrev pub with_note : NoteKind → World → World
with_note kind w = record w { notes = w.notes ++ record { event = w.events; kind = kind } ∷ [] }
