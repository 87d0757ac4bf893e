-- What the Olympus does, computed.
use Rattle.std.proofs.Common.{◌≡◌, ℕ, List, refl, true, false, not, None, Some}
use Rattle.std.specs.Prelude.{Bool, Option, Result, Ok, Err}
use Rattle.nys_stmt.specs.declared.records.Record.{Record}
use Rattle.nys_stmt.specs.declared.statement.Body.TheVariants as body
use Rattle.nys_wire.specs.Reading.{whole_record}
use Rattle.nys_wire.specs.declared.fault.WireFault.{WireFault}
use Rattle.nys_wire.specs.declared.fault.WireFault.TheVariants.{At, NoMemory}
use Rattle.nys_rules.specs.declared.cause.DropCause.{DropCause}
use Rattle.nys_rules.specs.declared.cause.DropCause.TheVariants.{Malformed}
use Rattle.nys_rules.specs.declared.decision.Opened.{Opened}
use Rattle.nys_rules.specs.declared.decision.Opened.TheVariants as opens
use Rattle.nys_rules.specs.Dropping.{accepted}
use Rattle.nys_rules.specs.Handling.{done_by, dropped_by, noted_by}
use Rattle.nys_rules.specs.Olympus.{Hears, HearsOf, HearsReading, hosts_of, in_next_epoch, olympus_verdict, OlympusView, opening_acts, OpensWith, proclaimed, testified, WedgesWhere}
use Rattle.nys_rules.specs.Packets.{Done, nothing}
use Rattle.nys_rules.specs.Scope.{olympus, Scope}

-- what the Olympus did: whether that is sure, what it knows after it, and what is told
pub record Service : Type 0 where
  pub sure : Bool
  pub after : OlympusView
  pub done : Done

-- what it makes of a record that has this verdict
abbrev testify : {S : Type 0} → Scope S → OlympusView → Record → Option DropCause → Service
testify scope o r (Some cause) = record { sure = true; after = o; done = dropped_by cause }
testify scope o r None = record {
  sure = true;
  after = testified scope o r;
  done = noted_by nothing r (accepted scope r.statement.epoch olympus r);
}

-- so it hears of it
testify_is : {S : Type 0} (scope : Scope S) (o : OlympusView) (r : Record) (v : Option DropCause)
    → HearsOf scope o r v (testify scope o r v).after (testify scope o r v).done
testify_is scope o r (Some cause) = (refl, refl)
testify_is scope o r None = (refl, refl)

-- what it makes of what it reads
abbrev read : {S : Type 0} → Scope S → OlympusView → Result Record WireFault → Service
read scope o (Ok r) = testify scope o r (olympus_verdict scope o r)
read scope o (Err (At place wrong)) = record { sure = true; after = o; done = dropped_by (Malformed place wrong) }
read scope o (Err NoMemory) = record { sure = false; after = o; done = done_by nothing }

-- so it hears it
read_is : {S : Type 0} (scope : Scope S) (o : OlympusView) (x : Result Record WireFault) → (read scope o x).sure ≡ true
    → HearsReading scope o x (read scope o x).after (read scope o x).done
read_is scope o (Ok r) q = testify_is scope o r (olympus_verdict scope o r)
read_is scope o (Err (At place wrong)) q = (refl, refl)
read_is scope o (Err NoMemory) q = absurd (cc)

-- what it makes of bytes
abbrev pub hear : {S : Type 0} → Scope S → OlympusView → List ℕ → Service
hear scope o frame = read scope o (whole_record frame)

-- so it hears them
pub hear_is : {S : Type 0} (scope : Scope S) (o : OlympusView) (frame : List ℕ) → (hear scope o frame).sure ≡ true
    → Hears scope o frame (hear scope o frame).after (hear scope o frame).done
hear_is scope o frame q = read_is scope o (whole_record frame) q

-- the Olympus once it was told to end the epoch, where it is ending or not
abbrev pub wedged_view : OlympusView → Bool → OlympusView
wedged_view o true = o
wedged_view o false = record o { wedged = true }

-- what is told of it
abbrev pub wedged_done : {S : Type 0} → Scope S → OlympusView → Bool → Done
wedged_done scope o true = done_by nothing
wedged_done scope o false = done_by (proclaimed scope o.epoch body.Wedge (hosts_of scope))

-- so it is wedged
pub wedged_is : {S : Type 0} (scope : Scope S) (o : OlympusView) (ending : Bool)
    → WedgesWhere scope o ending (wedged_view o ending) (not ending) (wedged_done scope o ending)
wedged_is scope o true = (refl, refl, refl)
wedged_is scope o false = (refl, refl, refl)

-- the Olympus after its answer to an opening
abbrev pub opened_view : OlympusView → Opened → OlympusView
opened_view o (opens.Done epoch) = in_next_epoch o
opened_view o opens.NotWedged = o
opened_view o opens.NoNext = o
opened_view o (opens.NotAll h) = o

-- what is told of it
abbrev pub opened_done : {S : Type 0} → Scope S → OlympusView → Opened → Done
opened_done scope o (opens.Done epoch) = done_by (opening_acts scope o epoch)
opened_done scope o opens.NotWedged = done_by nothing
opened_done scope o opens.NoNext = done_by nothing
opened_done scope o (opens.NotAll h) = done_by nothing

-- so it opens
pub opened_is : {S : Type 0} (scope : Scope S) (o : OlympusView) (answer : Opened) → OpensWith scope o answer (opened_view o answer) (opened_done scope o answer)
opened_is scope o (opens.Done epoch) = (refl, refl)
opened_is scope o opens.NotWedged = (refl, refl)
opened_is scope o opens.NoNext = (refl, refl)
opened_is scope o (opens.NotAll h) = (refl, refl)
