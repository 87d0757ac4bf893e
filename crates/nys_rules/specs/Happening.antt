-- What one event makes of a world, and what a list of events does: the next world, or the end.
use Rattle.std.specs.Prelude.{◌≡◌, ℕ, ◌+◌, ◌==◌, nat_lt, Bool, true, false, ◌&&◌, not, if◌then◌else◌, ℤ, List, [], ◌∷◌, ◌++◌, All, filter, find, fold, length, map, replicate, slice_get, Option, Some, None, Result, Ok, Err, ◌⊎◌}
use Rattle.std.specs.List.{range_with_len}
use Rattle.nys_stmt.specs.declared.records.Record.{Record}
use Rattle.nys_stmt.specs.declared.statement.Statement.{Statement}
use Rattle.nys_votes.specs.Ordered.{record_from}
use Rattle.nys_votes.specs.Seats.{with_seat}
use Rattle.nys_wire.specs.Reading.{whole_record}
use Rattle.nys_wire.specs.declared.fault.WireFault.{WireFault}
use Rattle.nys_rules.specs.declared.cause.DropCause.{DropCause}
use Rattle.nys_rules.specs.declared.decision.Decision.{Decision}
use Rattle.nys_rules.specs.declared.decision.Opened.{Opened}
use Rattle.nys_rules.specs.declared.decision.Retired.{Retired}
use Rattle.nys_rules.specs.declared.notice.End.{End}
use Rattle.nys_rules.specs.declared.notice.End.TheVariants.{Clash, Forged, NoPacket}
use Rattle.nys_rules.specs.declared.notice.NoteKind.{NoteKind}
use Rattle.nys_rules.specs.declared.notice.NoteKind.TheVariants as tell
use Rattle.nys_rules.specs.Events.{Plain}
use Rattle.nys_rules.specs.Events.Plain.{Input, Deliver, Flush, Exchange, Ask, Bytes, Say, Bundle, Steal, Wedge, Decide, Retire, Open}
use Rattle.nys_rules.specs.Forged.{Entry, HasMade, IsFirstClash, makers_told, NoneClashes}
use Rattle.nys_rules.specs.Handling.{Asks, Handles, Takes}
use Rattle.nys_rules.specs.Olympus.{Decides, Hears, OlympusView, Opens, Retires, Wedges}
use Rattle.nys_rules.specs.Packets.{Done, Sent}
use Rattle.nys_rules.specs.Same.{is_same_statement}
use Rattle.nys_rules.specs.Scope.{olympus, Scope}
use Rattle.nys_rules.specs.Sending.{packet}
use Rattle.nys_rules.specs.View.{View}
use Rattle.nys_rules.specs.World.{after_node, after_olympus, is_honest, Setting, with_decided, with_note, with_packets, World}
use Rattle.nys_rules.specs.declared.packet.TheConstants.{STRANGER}

-- the world goes on or ends as these answers say: an end is the answer, and else the rest gives it
abbrev pub Then : Result World End → Result World End → (World → Type 0) → Type 0
Then (Ok next) result rest = rest next
Then (Err end) result rest = result ≡ Err end

-- no maker is honest without having made the statement
abbrev pub AreTrue : {S : Type 0} → Setting S → List Entry → Statement → List ℕ → Type 0
AreTrue setting ledger statement makers = All (λ m. is_honest setting m ≡ true → HasMade ledger m statement) makers

-- this maker is honest and hadn't made the statement, and it is the first such
pub record IsForged {S : Type 0} (setting : Setting S) (ledger : List Entry) (statement : Statement)
    (makers : List ℕ) (maker : ℕ) : Type 0 where
  pub before : List ℕ
  pub after : List ℕ
  pub among : makers ≡ before ++ maker ∷ after
  pub true_before : AreTrue setting ledger statement before
  pub honest : is_honest setting maker ≡ true
  pub never : HasMade ledger maker statement → ⊥

-- what the end of an event tells of a statement that was taken and that this maker hadn't made: a clash with the
-- first that it made of the same spelling, and where it made no such it was forged
abbrev pub TellsOf : List Entry → (event maker taker : ℕ) → Statement → End → Type 0
TellsOf ledger event maker taker statement end =
    (NoneClashes ledger maker statement × (end ≡ Forged event maker taker statement))
    ⊎ ((made : Statement) × IsFirstClash ledger maker statement made × (end ≡ Clash event maker taker made statement))

-- a party accepted these makers of a statement: the world ends where one of them is honest and hadn't made it, and
-- else goes on, which is when packets join the pool
abbrev pub UnlessForged : {S : Type 0} → Setting S → World → (taker : ℕ) → Option Statement → List ℕ
    → Result World End → Result World End → Type 0
UnlessForged setting w taker None makers next result = result ≡ next
UnlessForged setting w taker (Some statement) makers next result =
    (AreTrue setting w.ledger statement makers × (result ≡ next))
    ⊎ ((maker : ℕ) × (end : End) × IsForged setting w.ledger statement makers maker
    × TellsOf w.ledger w.events maker taker statement end × (result ≡ Err end))

-- the world in which it is told that something was given to a party
abbrev pub with_take : (to : ℕ) → Option ℕ → Option DropCause → World → World
with_take to k dropped w =
    record w { takes = w.takes ++ record { event = w.events; to = to; packet = k; dropped = dropped } ∷ [] }

-- the node of g takes bytes
pub record NodeTakes {S : Type 0} (setting : Setting S) (w : World) (g : ℕ) (k : Option ℕ) (frame : List ℕ)
    (result : Result World End) : Type 0 where
  pub after : View
  pub done : Done
  pub handles : Handles setting.scope (w.nodes g) frame after done
  pub ends : UnlessForged setting w g done.statement (makers_told done)
      (after_node g after done (with_take g k done.dropped w)) result

-- the Olympus takes bytes
pub record OlympusTakes {S : Type 0} (setting : Setting S) (w : World) (k : Option ℕ) (frame : List ℕ)
    (result : Result World End) : Type 0 where
  pub after : OlympusView
  pub done : Done
  pub hears : Hears setting.scope w.olympus frame after done
  pub ends : UnlessForged setting w olympus done.statement (makers_told done)
      (after_olympus after done (with_take olympus k done.dropped w)) result

-- who takes bytes: a liar, the Olympus, or an honest host
abbrev pub TakenBy : {S : Type 0} → Setting S → World → (honest at_olympus : Bool) → (to : ℕ) → Option ℕ → List ℕ
    → Result World End → Type 0
TakenBy setting w false at_olympus to k frame result = result ≡ Ok w
TakenBy setting w true true to k frame result = OlympusTakes setting w k frame result
TakenBy setting w true false to k frame result = NodeTakes setting w to k frame result

-- bytes are given to a party, as a packet or not
abbrev pub IsGiven : {S : Type 0} → Setting S → World → (to : ℕ) → Option ℕ → List ℕ → Result World End → Type 0
IsGiven setting w to k frame result = TakenBy setting w (is_honest setting to) (to == olympus) to k frame result

-- a packet, where there is one, is given to its party and counts as delivered
abbrev pub GivesPacket : {S : Type 0} → Setting S → World → ℕ → Option Sent → Result World End → Type 0
GivesPacket setting w k None result = result ≡ Err (NoPacket w.events k (length w.pool))
GivesPacket setting w k (Some p) result =
    IsGiven setting (record w { delivered = λ x. if x == k then true else w.delivered x }) p.to (Some k) p.frame result

-- packet k is given to its party
abbrev pub Delivers : {S : Type 0} → Setting S → World → ℕ → Result World End → Type 0
Delivers setting w k result = GivesPacket setting w k (slice_get w.pool k) result

-- packets are given one after another
abbrev pub DeliversAll : {S : Type 0} → Setting S → World → List ℕ → Result World End → Type 0
DeliversAll setting w [] result = result ≡ Ok w
DeliversAll setting w (k ∷ ks) result =
    (mid : Result World End) × Delivers setting w k mid × Then mid result (λ next. DeliversAll setting next ks result)

-- the numbers of the packets that pass a test, rising
abbrev pub packets_with : (ℕ → Sent → Bool) → World → List ℕ
packets_with test w = filter (λ k. passes_at test k (slice_get w.pool k)) (range_with_len 0 (length w.pool))
  where
    passes_at : (ℕ → Sent → Bool) → ℕ → Option Sent → Bool
    passes_at test k None = false
    passes_at test k (Some p) = test k p

-- the packets that were never delivered
abbrev pub undelivered : World → List ℕ
undelivered w = packets_with (λ k p. not (w.delivered k)) w

-- the packets from honest parties to honest parties
abbrev pub honest_packets : {S : Type 0} → Setting S → World → List ℕ
honest_packets setting w = packets_with (λ k p. is_honest setting p.from && is_honest setting p.to) w

-- the note that an input found no room
abbrev pub with_full_note : ℕ → Option DropCause → World → World
with_full_note h None w = w
with_full_note h (Some cause) w = with_note (tell.QueueFull h) w

-- the node of h is handed an input
pub record NodeIsHanded {S : Type 0} (setting : Setting S) (w : World) (h : ℕ) (payload : List ℤ)
    (result : Result World End) : Type 0 where
  pub after : View
  pub done : Done
  pub takes : Takes setting.scope (w.nodes h) payload after done
  pub result_is : result ≡ after_node h after done (with_full_note h done.dropped w)

-- the node of h is told to ask
pub record NodeAsks {S : Type 0} (setting : Setting S) (w : World) (h : ℕ) (result : Result World End) : Type 0 where
  pub after : View
  pub done : Done
  pub asks : Asks setting.scope (w.nodes h) after done
  pub result_is : result ≡ after_node h after done w

-- what happens to a liar is nothing
abbrev pub IfHonest : Bool → World → Result World End → Type 0 → Type 0
IfHonest true w result happens = happens
IfHonest false w result happens = result ≡ Ok w

-- the record of a statement with the tags of one maker for these parties
unfoldable pub said_record : {S : Type 0} → Scope S → ℕ → Statement → List ℕ → Record
said_record scope maker statement parties = record {
  statement = statement;
  makers = record { maker = maker; tags = map (λ g. (g, scope.tag maker g statement)) parties } ∷ [];
}

-- a record to each of the parties
abbrev pub sent_to_all : (from : ℕ) → Record → List ℕ → World → Result World End
sent_to_all from r parties w = with_packets (map (λ g. packet from g r) parties) w

-- the makers of one record join those before, the first of each, where it is of the statement
abbrev pub bundled : Statement → List (Option (List (ℕ × List ℕ))) → Result Record WireFault → List (Option (List (ℕ × List ℕ)))
bundled statement seats (Err fault) = seats
bundled statement seats (Ok r) =
    if is_same_statement r.statement statement
    then fold (λ kept m. with_seat m.maker m.tags kept) seats r.makers
    else seats

-- the bytes of a packet; none where there is no such packet
abbrev pub frame_of : World → ℕ → List ℕ
frame_of w k = frame_in (slice_get w.pool k)
  where
    frame_in : Option Sent → List ℕ
    frame_in None = []
    frame_in (Some p) = p.frame

-- the record of a statement with the makers that the packets have for it, of 33 parties
unfoldable pub bundle_of : World → Statement → List ℕ → Record
bundle_of w statement ks =
    record_from statement
    (fold (λ seats k. bundled statement seats (whole_record (frame_of w k))) (replicate 33 None) ks)

-- the bundle of packets by what the first of them is; a packet is always a record
abbrev pub sends_bundle : World → (from : ℕ) → (parties ks : List ℕ) → Result Record WireFault → Result World End
sends_bundle w from parties ks (Err fault) = Ok w
sends_bundle w from parties ks (Ok r) = sent_to_all from (bundle_of w r.statement ks) parties w

-- the first of the packets that are named
abbrev pub first_frame : World → List ℕ → List ℕ
first_frame w [] = []
first_frame w (k ∷ ks) = frame_of w k

-- a bundle where all packets are there; else the end names the first that isn't
abbrev pub bundle_or_end : World → (from : ℕ) → (parties ks : List ℕ) → Option ℕ → Result World End
bundle_or_end w from parties ks (Some k) = Err (NoPacket w.events k (length w.pool))
bundle_or_end w from parties ks None = sends_bundle w from parties ks (whole_record (first_frame w ks))

-- what is told of the Olympus's wedge
abbrev pub wedge_note : OlympusView → Bool → NoteKind
wedge_note o true = tell.Wedged o.epoch
wedge_note o false = tell.AlreadyWedged

-- the Olympus is told to end its epoch
pub record OlympusWedges {S : Type 0} (setting : Setting S) (w : World) (result : Result World End) : Type 0 where
  pub after : OlympusView
  pub did : Bool
  pub done : Done
  pub wedges : Wedges setting.scope w.olympus after did done
  pub result_is : result ≡ after_olympus after done (with_note (wedge_note w.olympus did) w)

-- the Olympus is told to decide a log: the entries that it decided are run where they pass all logs
pub record OlympusDecides {S : Type 0} (setting : Setting S) (w : World) (h : ℕ) (result : Result World End) : Type 0 where
  pub after : OlympusView
  pub answer : Decision
  pub decides : Decides setting.scope w.olympus h after answer
  pub result_is : result ≡ Ok (with_note (tell.Decide h answer) (with_decided h 0 (after.decided h) (record w { olympus = after })))

-- the Olympus is told to give a host up
pub record OlympusRetires (w : World) (h : ℕ) (result : Result World End) : Type 0 where
  pub after : OlympusView
  pub answer : Retired
  pub retires : Retires w.olympus h after answer
  pub result_is : result ≡ Ok (with_note (tell.Retire h answer) (record w { olympus = after }))

-- the Olympus is told to open the next epoch
pub record OlympusOpens {S : Type 0} (setting : Setting S) (w : World) (result : Result World End) : Type 0 where
  pub after : OlympusView
  pub answer : Opened
  pub done : Done
  pub opens : Opens setting.scope w.olympus after answer done
  pub result_is : result ≡ after_olympus after done (with_note (tell.Open answer) w)

-- the world in which an event gave bytes to a party
abbrev pub with_injected : (to : ℕ) → List ℕ → World → World
with_injected to frame w =
    record w { injected = w.injected ++ record { event = w.events; to = to; frame = frame } ∷ [] }

-- what an event does, a line for each kind
abbrev pub Does : {S : Type 0} → Setting S → World → Plain → Result World End → Type 0
Does setting w (Input h payload) result =
    IfHonest (is_honest setting h) w result (NodeIsHanded setting w h payload result)
Does setting w (Deliver k) result = Delivers setting w k result
Does setting w Flush result = DeliversAll setting w (undelivered w) result
Does setting w Exchange result = DeliversAll setting w (honest_packets setting w) result
Does setting w (Ask h) result = IfHonest (is_honest setting h) w result (NodeAsks setting w h result)
Does setting w (Bytes to frame) result =
    IsGiven setting (with_injected to frame w) to None frame result
Does setting w (Say a to statement) result =
    result ≡ sent_to_all a (said_record setting.scope a statement to) to w
Does setting w (Bundle a to packets) result =
    result ≡ bundle_or_end w a to packets (find (λ k. not (nat_lt k (length w.pool))) packets)
Does setting w (Steal a to statement) result =
    result ≡ sent_to_all STRANGER (said_record setting.scope a statement to) to w
Does setting w Wedge result = OlympusWedges setting w result
Does setting w (Decide h) result = OlympusDecides setting w h result
Does setting w (Retire h) result = OlympusRetires w h result
Does setting w Open result = OlympusOpens setting w result

-- the event is counted once it is over
abbrev pub counted : Result World End → Result World End
counted (Err end) = Err end
counted (Ok w) = Ok (record w { events = w.events + 1 })

-- the event happens in the world
pub record Happens {S : Type 0} (setting : Setting S) (w : World) (event : Plain) (result : Result World End) : Type 0 where
  pub mid : Result World End
  pub does : Does setting w event mid
  pub result_is : result ≡ counted mid

-- the events happen one after another; the first end is the end
abbrev pub HappenAll : {S : Type 0} → Setting S → World → List Plain → Result World End → Type 0
HappenAll setting w [] result = result ≡ Ok w
HappenAll setting w (event ∷ events) result =
    (mid : Result World End) × Happens setting w event mid × Then mid result (λ next. HappenAll setting next events result)

-- events end in one world, or in one end
abbrev pub HappenOnce : {S : Type 0} → Setting S → Type 0
HappenOnce setting = (w : World) (events : List Plain) (a b : Result World End) → HappenAll setting w events a
    → HappenAll setting w events b → a ≡ b
