-- The Olympus: what it knows, which records it drops, what it decides, and how it opens epochs.
use Rattle.std.specs.Prelude.{◌≡◌, ℕ, zero, suc, ◌+◌, ◌<◌, ◌==◌, nat_le, nat_lt, Bool, true, false, ◌&&◌, ◌||◌, not, if◌then◌else◌, List, [], ◌∷◌, ◌++◌, count_by, filter, find, flat_map, fold, length, map, Option, Some, None, Result, Ok, Err, is_some}
use Rattle.std.specs.List.{enumerate_from, list_any, range_with_len}
use Rattle.std.specs.Option.{option_or}
use Rattle.nys_hosts.specs.declared.limits.TheConstants.{MAX_SLOTS}
use Rattle.nys_bytes.specs.declared.content.Content.{Content}
use Rattle.nys_source.specs.Tables.{put, put_at}
use Rattle.nys_stmt.specs.declared.records.Record.{Record}
use Rattle.nys_stmt.specs.declared.statement.Body.{Body}
use Rattle.nys_stmt.specs.declared.statement.Body.TheVariants as body
use Rattle.nys_stmt.specs.declared.statement.FilledKind.TheVariants as kind
use Rattle.nys_stmt.specs.declared.statement.Statement.{Statement}
use Rattle.nys_stmt.specs.declared.tags.Tags.{Tags}
use Rattle.nys_votes.specs.Contents.{same_content}
use Rattle.nys_votes.specs.Seats.{count_seats, no_seats, with_seat}
use Rattle.nys_wire.specs.Reading.{whole_record}
use Rattle.nys_wire.specs.declared.fault.WireFault.{WireFault}
use Rattle.nys_wire.specs.declared.fault.WireFault.TheVariants.{At, NoMemory}
use Rattle.nys_rules.specs.declared.cause.DropCause.{DropCause}
use Rattle.nys_rules.specs.declared.cause.DropCause.TheVariants as drop
use Rattle.nys_rules.specs.declared.decision.Decision.{Decision}
use Rattle.nys_rules.specs.declared.decision.Decision.TheVariants as decide
use Rattle.nys_rules.specs.declared.decision.Retired.{Retired}
use Rattle.nys_rules.specs.declared.decision.Retired.TheVariants as retire
use Rattle.nys_rules.specs.declared.decision.Opened.{Opened}
use Rattle.nys_rules.specs.declared.decision.Opened.TheVariants as opens
use Rattle.nys_rules.specs.Dropping.{accepted, unless, untagged}
use Rattle.nys_rules.specs.Handling.{done_by, dropped_by, noted_by}
use Rattle.nys_rules.specs.Packets.{Acts, all_joined, Done, nothing}
use Rattle.nys_rules.specs.Scope.{guards_of, olympus, quorum_at, Scope}
use Rattle.nys_rules.specs.Sending.{announced, said_in}

-- a guard's first report for a slot
pub record Reported : Type 0 where
  pub guard : ℕ
  pub content : Content

-- what the Olympus knows; functions are of hosts
pub record OlympusView : Type 0 where
  -- its epoch, and whether that is ending
  pub epoch : ℕ
  pub wedged : Bool
  -- the length at which its epoch began each host's log
  pub base : ℕ → ℕ
  -- the decided log of each host
  pub decided : ℕ → List Content
  -- the hosts that are decided for the end of this epoch
  pub decided_now : ℕ → Bool
  -- the hosts that are given up, in this epoch or an earlier one
  pub retired : ℕ → Bool
  -- by host and slot: the first report of each guard for this epoch, in the order in which they came
  pub reports : ℕ → ℕ → List Reported
  -- by host: the slot of the first Frozen of each guard for this epoch
  pub frozen : ℕ → List (Option ℕ)

-- the Olympus at the beginning
abbrev pub first_olympus : OlympusView
first_olympus = record {
  epoch = 0;
  wedged = false;
  base = λ _. 0;
  decided = λ _. [];
  decided_now = λ _. false;
  retired = λ _. false;
  reports = λ _ _. [];
  frozen = λ _. no_seats;
}

-- the host is settled: it is decided for the end of this epoch or retired, and nothing more can change
-- about it in this epoch
abbrev pub is_settled : OlympusView → ℕ → Bool
is_settled o h = o.decided_now h || o.retired h

-- a Report or a Frozen: its epoch is the Olympus's and ends, and its host is one that isn't settled
abbrev pub testimony_drop : {S : Type 0} → Scope S → OlympusView → (epoch h : ℕ) → Option DropCause → Option DropCause
testimony_drop scope o e h rest =
    unless (e == o.epoch) drop.Epoch
    (unless o.wedged drop.Wedged
    (unless (nat_lt h scope.rules.hosts && not (is_settled o h)) drop.NotGuard rest))

-- the first test that a statement fails at the Olympus, before its makers are looked at
abbrev pub misplaced_testimony : {S : Type 0} → Scope S → OlympusView → (epoch : ℕ) → Body → Option DropCause
misplaced_testimony scope o e (body.Filled kind.Report h slot content) =
    testimony_drop scope o e h (unless (nat_le (o.base h) slot) drop.Slot None)
misplaced_testimony scope o e (body.Frozen h slot) = testimony_drop scope o e h None
misplaced_testimony scope o e _ = Some drop.NotMine

-- why the Olympus drops a record, if it does
unfoldable pub olympus_verdict : {S : Type 0} → Scope S → OlympusView → Record → Option DropCause
olympus_verdict scope o r =
    option_or (misplaced_testimony scope o r.statement.epoch r.statement.body)
    (untagged (accepted scope r.statement.epoch olympus r))

-- a report joins those of its slot, unless the guard has reported for the slot
abbrev pub with_report : Content → List Reported → Tags → List Reported
with_report content reports m =
    if list_any (λ r. r.guard == m.maker) reports then reports
    else reports ++ record { guard = m.maker; content = content } ∷ []

-- what an accepted record makes of the Olympus: first reports and first freezings are kept
abbrev pub testified_body : Body → List Tags → OlympusView → OlympusView
testified_body (body.Filled kind.Report h slot content) makers o =
    record o { reports = put_at o.reports h slot (fold (with_report content) (o.reports h slot) makers) }
testified_body (body.Frozen h slot) makers o =
    record o { frozen = put o.frozen h (fold (λ seats m. with_seat m.maker slot seats) (o.frozen h) makers) }
testified_body _ makers o = o

-- the Olympus once a record that isn't dropped is noted
unfoldable pub testified : {S : Type 0} → Scope S → OlympusView → Record → OlympusView
testified scope o r = testified_body r.statement.body (accepted scope r.statement.epoch olympus r) o

-- a record that is dropped changes nothing; another is noted, and nothing is sent
abbrev pub HearsOf : {S : Type 0} → Scope S → OlympusView → Record → Option DropCause → OlympusView → Done → Type 0
HearsOf scope o r (Some cause) after done = (after ≡ o) × (done ≡ dropped_by cause)
HearsOf scope o r None after done =
    (after ≡ testified scope o r) × (done ≡ noted_by nothing r (accepted scope r.statement.epoch olympus r))

-- bytes that are no record are dropped too
abbrev pub HearsReading : {S : Type 0} → Scope S → OlympusView → Result Record WireFault → OlympusView → Done → Type 0
HearsReading scope o (Ok r) after done = HearsOf scope o r (olympus_verdict scope o r) after done
HearsReading scope o (Err (At place kind)) after done = (after ≡ o) × (done ≡ dropped_by (drop.Malformed place kind))
HearsReading scope o (Err NoMemory) after done = ⊥

-- the Olympus is given bytes
abbrev pub Hears : {S : Type 0} → Scope S → OlympusView → List ℕ → OlympusView → Done → Type 0
Hears scope o frame after done = HearsReading scope o (whole_record frame) after done

-- how many of the reports are of the content
abbrev pub reports_for : Content → List Reported → ℕ
reports_for content reports = count_by (λ r. same_content content r.content) reports

-- the content whose (t + 1)-th report comes first, among reports of which some came before
abbrev pub supported_after : ℕ → (before coming : List Reported) → Option Content
supported_after t before [] = None
supported_after t before (r ∷ coming) =
    if nat_lt t (reports_for r.content (before ++ r ∷ [])) then Some r.content
    else supported_after t (before ++ r ∷ []) coming

-- the content that supports a slot: of those that more guards reported than may lie, the one that had so
-- many reports first
unfoldable pub supported : {S : Type 0} → Scope S → OlympusView → (h slot : ℕ) → Option Content
supported scope o h slot = supported_after (scope.t o.epoch h) [] (o.reports h slot)

-- the contents that support the slots from this one on, up to the first that isn't supported; at most n
abbrev pub supported_from : {S : Type 0} → (n : ℕ) → Scope S → OlympusView → (h slot : ℕ) → List Content
supported_from zero scope o h slot = []
supported_from (suc n) scope o h slot = supports_on (supported scope o h slot) (supported_from n scope o h (slot + 1))
  where
    supports_on : Option Content → List Content → List Content
    supports_on None rest = []
    supports_on (Some content) rest = content ∷ rest

-- what may follow the decided log of a host: the contents that support the slots from the base on
unfoldable pub supports : {S : Type 0} → Scope S → OlympusView → ℕ → List Content
supports scope o h = supported_from MAX_SLOTS scope o h (o.base h)

-- the first slot from the base on that isn't supported
abbrev pub first_bare : {S : Type 0} → Scope S → OlympusView → ℕ → ℕ
first_bare scope o h = o.base h + length (supports scope o h)

-- how many guards are frozen at the slot or an earlier one
abbrev pub frozen_at : OlympusView → (h slot : ℕ) → ℕ
frozen_at o h slot = count_seats (λ f. nat_le f slot) (o.frozen h)

-- the decision where it is open: decided where a quorum is frozen at the first slot that isn't supported
abbrev pub open_decision : {S : Type 0} → Scope S → OlympusView → ℕ → Decision
open_decision scope o h =
    if nat_le (quorum_at scope o.epoch h) (frozen_at o h (first_bare scope o h))
    then decide.Decided (first_bare scope o h)
    else decide.Undecided (first_bare scope o h) (frozen_at o h (first_bare scope o h))

-- the answer to `decide`
unfoldable pub decision : {S : Type 0} → Scope S → OlympusView → ℕ → Decision
decision scope o h =
    if not o.wedged then decide.NotWedged
    else if is_settled o h then decide.Settled
    else open_decision scope o h

-- the Olympus with the log of a host decided
abbrev pub with_decision : {S : Type 0} → Scope S → ℕ → OlympusView → OlympusView
with_decision scope h o = record o {
  decided = put o.decided h (o.decided h ++ supports scope o h);
  decided_now = put o.decided_now h true;
}

-- the Olympus after such an answer: only a decision changes something
abbrev pub after_decision : {S : Type 0} → Scope S → OlympusView → ℕ → Decision → OlympusView
after_decision scope o h (decide.Decided len) = with_decision scope h o
after_decision scope o h _ = o

-- the Olympus is told to decide the log of a host
pub record Decides {S : Type 0} (scope : Scope S) (o : OlympusView) (h : ℕ) (after : OlympusView) (answer : Decision) : Type 0 where
  pub told : answer ≡ decision scope o h
  pub after_is : after ≡ after_decision scope o h answer

-- the answer to `retire`
abbrev pub retirement : OlympusView → ℕ → Retired
retirement o h =
    if not o.wedged then retire.NotWedged
    else if is_settled o h then retire.Settled
    else retire.Done

-- the Olympus after such an answer
abbrev pub after_retirement : OlympusView → ℕ → Retired → OlympusView
after_retirement o h retire.Done = record o { retired = put o.retired h true }
after_retirement o h _ = o

-- the Olympus is told to give a host up
pub record Retires (o : OlympusView) (h : ℕ) (after : OlympusView) (answer : Retired) : Type 0 where
  pub told : answer ≡ retirement o h
  pub after_is : after ≡ after_retirement o h answer

-- all hosts of the protocol, rising
abbrev pub hosts_of : {S : Type 0} → Scope S → List ℕ
hosts_of scope = range_with_len 0 scope.rules.hosts

-- the Olympus makes a statement of its epoch to parties
abbrev pub proclaimed : {S : Type 0} → Scope S → (epoch : ℕ) → Body → List ℕ → Acts
proclaimed scope e said receivers = announced scope olympus (said_in e said) receivers

-- the Olympus is told to end the epoch: where it isn't ending, it makes Wedge to all hosts
abbrev pub WedgesWhere : {S : Type 0} → Scope S → OlympusView → (ending : Bool) → OlympusView → Bool → Done → Type 0
WedgesWhere scope o true after did done = (after ≡ o) × (did ≡ false) × (done ≡ done_by nothing)
WedgesWhere scope o false after did done =
    (after ≡ record o { wedged = true }) × (did ≡ true) × (done ≡ done_by (proclaimed scope o.epoch body.Wedge (hosts_of scope)))

-- the same of the Olympus as it is
abbrev pub Wedges : {S : Type 0} → Scope S → OlympusView → OlympusView → Bool → Done → Type 0
Wedges scope o after did done = WedgesWhere scope o o.wedged after did done

-- the lowest host that is neither decided nor retired
abbrev pub unsettled : {S : Type 0} → Scope S → OlympusView → Option ℕ
unsettled scope o = find (λ h. not (is_settled o h)) (hosts_of scope)

-- the answer where only a host can stand in the way
abbrev pub opened_but : OlympusView → Option ℕ → Opened
opened_but o None = opens.Done (o.epoch + 1)
opened_but o (Some h) = opens.NotAll h

-- the answer to `open_next`
unfoldable pub opening : {S : Type 0} → Scope S → OlympusView → Opened
opening scope o =
    if not o.wedged then opens.NotWedged
    else if not (nat_lt (o.epoch + 1) scope.epochs) then opens.NoNext
    else opened_but o (unsettled scope o)

-- the Olympus in its next epoch, for which it knows no report yet
abbrev pub in_next_epoch : OlympusView → OlympusView
in_next_epoch o = record {
  epoch = o.epoch + 1;
  wedged = false;
  base = λ h. length (o.decided h);
  decided = o.decided;
  decided_now = λ _. false;
  retired = o.retired;
  reports = λ _ _. [];
  frozen = λ _. no_seats;
}

-- the lengths that an Open tells: those of the decided logs, and none for a retired host
abbrev pub lengths_told : {S : Type 0} → Scope S → OlympusView → List (Option ℕ)
lengths_told scope o = map (λ h. if o.retired h then None else Some (length (o.decided h))) (hosts_of scope)

-- an Inherit for each entry of the decided log of a host, to the host's guards of the epoch
abbrev pub inheritance : {S : Type 0} → Scope S → OlympusView → (epoch h : ℕ) → List Acts
inheritance scope o e h =
    map (λ x. proclaimed scope e (body.Filled kind.Inherit h x.0 x.1) (guards_of scope e h))
    (enumerate_from 0 (o.decided h))

-- what the Olympus makes when it opens an epoch: an Open to all hosts, then the entries of each host that
-- isn't retired, rising, to its new guards
unfoldable pub opening_acts : {S : Type 0} → Scope S → OlympusView → (epoch : ℕ) → Acts
opening_acts scope o e =
    all_joined (proclaimed scope e (body.Open (lengths_told scope o)) (hosts_of scope)
    ∷ flat_map (inheritance scope o e) (filter (λ h. not (o.retired h)) (hosts_of scope)))

-- the Olympus after such an answer, and what it made
abbrev pub OpensWith : {S : Type 0} → Scope S → OlympusView → Opened → OlympusView → Done → Type 0
OpensWith scope o (opens.Done epoch) after done =
    (after ≡ in_next_epoch o) × (done ≡ done_by (opening_acts scope o epoch))
OpensWith scope o _ after done = (after ≡ o) × (done ≡ done_by nothing)

-- the Olympus is told to open the next epoch
pub record Opens {S : Type 0} (scope : Scope S) (o : OlympusView) (after : OlympusView) (answer : Opened) (done : Done) : Type 0 where
  pub told : answer ≡ opening scope o
  pub with_it : OpensWith scope o answer after done
