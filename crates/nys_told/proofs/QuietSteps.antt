-- Steps of which no note tells: bytes that are given, questions, packets.
use Rattle.std.proofs.Common.{◌≡◌, ℕ, ◌==◌, Bool, true, false, List, Some, None, Ok, Err, refl, sym, subst, ◌∙◌}
use Rattle.std.specs.Prelude.{Option, Result, slice_get}
use Rattle.nys_rules.specs.declared.cause.DropCause.{DropCause}
use Rattle.nys_rules.specs.declared.notice.End.{End}
use Rattle.nys_rules.specs.Dropping.{accepted}
use Rattle.nys_rules.specs.Forged.{makers_told}
use Rattle.nys_rules.specs.Happening.{Delivers, DeliversAll, GivesPacket, IsGiven, TakenBy, with_take}
use Rattle.nys_rules.specs.Olympus.{Hears, HearsOf, HearsReading, olympus_verdict, OlympusView, testified, testified_body}
use Rattle.nys_rules.specs.Packets.{Done, Sent}
use Rattle.nys_rules.specs.Scope.{olympus, Scope}
use Rattle.nys_rules.specs.View.{View}
use Rattle.nys_rules.specs.World.{after_node, after_olympus, is_honest, Setting, with_packets, World}
use Rattle.nys_rules.proofs.WorldFrames.{after_node_ok, after_olympus_ok, delivers_all_keep, packets_ok, unless_forged_ok}
use Rattle.nys_stmt.specs.declared.records.Record.{Record}
use Rattle.nys_stmt.specs.declared.statement.Body.{Body}
use Rattle.nys_stmt.specs.declared.statement.Body.TheVariants as body
use Rattle.nys_stmt.specs.declared.statement.FilledKind.TheVariants as kind
use Rattle.nys_stmt.specs.declared.tags.Tags.{Tags}
use Rattle.nys_wire.specs.Reading.{whole_record}
use Rattle.nys_wire.specs.declared.fault.WireFault.{WireFault}
use Rattle.nys_wire.specs.declared.fault.WireFault.TheVariants.{At, NoMemory}
use Rattle.nys_told.proofs.NoteLemmas.{same_logs, SameLogs, same_twice}

-- no note tells of the step, and the Olympus keeps what notes tell
pub record IsQuiet (w next : World) : Type 0 where
  pub events : next.events ≡ w.events
  pub notes : next.notes ≡ w.notes
  pub logs : SameLogs w.olympus next.olympus

-- nothing that happens
pub quiet_same : (w next : World) → ◌≡◌ {A = Result World End} (Ok next) (Ok w) → IsQuiet w next
quiet_same w next is =
    let same : next ≡ w = cc in
    subst (IsQuiet w) (sym same) (record { events = refl; notes = refl; logs = same_logs w.olympus })

-- two such steps
pub quiet_then : (w mid next : World) → IsQuiet w mid → IsQuiet mid next → IsQuiet w next
quiet_then w mid next one other = record {
  events = other.events ∙ one.events;
  notes = other.notes ∙ one.notes;
  logs = same_twice w.olympus mid.olympus next.olympus one.logs other.logs;
}

-- what records change at the Olympus is no log
testified_same : (said : Body) (makers : List Tags) (o : OlympusView) → SameLogs o (testified_body said makers o)
testified_same (body.Filled kind.Offer h slot content) makers o = same_logs o
testified_same (body.Filled kind.Order h slot content) makers o = same_logs o
testified_same (body.Filled kind.Deliver h slot content) makers o = same_logs o
testified_same (body.Attest p h k payload) makers o = same_logs o
testified_same (body.Ask h slot) makers o = same_logs o
testified_same body.Wedge makers o = same_logs o
testified_same (body.Filled kind.Report h slot content) makers o = record { base = refl; decided = refl; decided_now = refl; retired = refl }
testified_same (body.Frozen h slot) makers o = record { base = refl; decided = refl; decided_now = refl; retired = refl }
testified_same (body.Open lengths) makers o = same_logs o
testified_same (body.Filled kind.Inherit h slot content) makers o = same_logs o

-- a record that isn't dropped
noted_same : {S : Type 0} (scope : Scope S) (o : OlympusView) (r : Record) → SameLogs o (testified scope o r)
unfolding testified
noted_same scope o r = testified_same r.statement.body (accepted scope r.statement.epoch olympus r) o

-- bytes that the Olympus is given
hears_same : {S : Type 0} (scope : Scope S) (o : OlympusView) (frame : List ℕ) (after : OlympusView) (done : Done)
    → Hears scope o frame after done → SameLogs o after
hears_same {S} scope o frame after done hears = by_reading (whole_record frame) hears
  where
    by_verdict : (r : Record) (cause : Option DropCause) → HearsOf scope o r cause after done → SameLogs o after
    by_verdict r (Some cause) is = subst (SameLogs o) (sym is.0) (same_logs o)
    by_verdict r None is = subst (SameLogs o) (sym is.0) (noted_same scope o r)

    by_reading : (reading : Result Record WireFault) → HearsReading scope o reading after done → SameLogs o after
    by_reading (Ok r) is = by_verdict r (olympus_verdict scope o r) is
    by_reading (Err (At place fault)) is = subst (SameLogs o) (sym is.0) (same_logs o)
    by_reading (Err NoMemory) is = absurd is

-- a node that acts
pub node_quiet : (g : ℕ) (v : View) (done : Done) (w mid next : World) → IsQuiet w mid → after_node g v done mid ≡ Ok next
    → IsQuiet w next
node_quiet g v done w mid next quiet is =
    subst (IsQuiet w) (sym (after_node_ok g v done mid next is))
    (record { events = quiet.events; notes = quiet.notes; logs = quiet.logs })

-- packets that are sent
pub sent_quiet : (packets : List Sent) (w next : World) → with_packets packets w ≡ Ok next → IsQuiet w next
sent_quiet packets w next is =
    subst (IsQuiet w) (sym (packets_ok packets w next is)) (record { events = refl; notes = refl; logs = same_logs w.olympus })

-- bytes that are given to a party
pub given_quiet : {S : Type 0} (setting : Setting S) (w next : World) (to : ℕ) (k : Option ℕ) (frame : List ℕ)
    → IsGiven setting w to k frame (Ok next) → IsQuiet w next
given_quiet {S} setting w next to k frame given = by (is_honest setting to) (to == olympus) given
  where
    told : (at : ℕ) (dropped : Option DropCause) → IsQuiet w (with_take at k dropped w)
    told at dropped = record { events = refl; notes = refl; logs = same_logs w.olympus }

    by : (honest at_olympus : Bool) → TakenBy setting w honest at_olympus to k frame (Ok next) → IsQuiet w next
    by false at_olympus is = quiet_same w next is
    by true true o =
        let mid = with_take olympus k o.done.dropped w in
        let goes = unless_forged_ok setting w olympus o.done.statement (makers_told o.done)
        (after_olympus o.after o.done mid) next o.ends in
        subst (IsQuiet w) (sym (after_olympus_ok o.after o.done mid next goes.1))
        (record { events = refl; notes = refl; logs = hears_same setting.scope w.olympus frame o.after o.done o.hears })
    by true false n =
        let mid = with_take to k n.done.dropped w in
        let goes = unless_forged_ok setting w to n.done.statement (makers_told n.done) (after_node to n.after n.done mid) next n.ends in
        node_quiet to n.after n.done w mid next (told to n.done.dropped) goes.1

-- a packet that is given
pub delivers_quiet : {S : Type 0} (setting : Setting S) (w next : World) (k : ℕ) → Delivers setting w k (Ok next) → IsQuiet w next
delivers_quiet {S} setting w next k given = by (slice_get w.pool k) given
  where
    by : (p : Option Sent) → GivesPacket setting w k p (Ok next) → IsQuiet w next
    by None is = absurd (cc)
    by (Some p) is =
        let quiet = given_quiet setting _ next p.to (Some k) p.frame is in
        record { events = quiet.events; notes = quiet.notes; logs = quiet.logs }

-- packets that are given, one after another
pub delivers_all_quiet : {S : Type 0} (setting : Setting S) (w next : World) (ks : List ℕ) → DeliversAll setting w ks (Ok next)
    → IsQuiet w next
delivers_all_quiet setting w next ks given =
    delivers_all_keep setting (IsQuiet w) (λ mid after k is quiet. quiet_then w mid after quiet (delivers_quiet setting mid after k is))
    w next ks given (record { events = refl; notes = refl; logs = same_logs w.olympus })
