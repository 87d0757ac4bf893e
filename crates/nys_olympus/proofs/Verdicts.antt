-- What the Olympus does with a record, by what it tests.
use Rattle.std.proofs.Common.{◌≡◌, ℕ, ◌≤◌, List, [], length, ap, refl, subst, sym, arith}
use Rattle.std.proofs.lemmas.Bool.{lt-ltb}
use Rattle.std.specs.Prelude.{OnErr, Some, None, Result, Ok, Err}
use Rattle.nys_rules.specs.Dropping.{accepted}
use Rattle.nys_rules.specs.Handling.{dropped_by, noted_by}
use Rattle.nys_rules.specs.Olympus.{Hears, HearsOf, HearsReading, misplaced_testimony, olympus_verdict, OlympusView, testified}
use Rattle.nys_rules.specs.Packets.{Done, nothing}
use Rattle.nys_rules.specs.Scope.{olympus, Scope}
use Rattle.nys_rules.specs.declared.cause.DropCause.{DropCause}
use Rattle.nys_rules.specs.declared.cause.DropCause.TheVariants as drop
use Rattle.nys_stmt.specs.Ranges.{IsBodyInRange}
use Rattle.nys_stmt.specs.declared.records.Record.{Record}
use Rattle.nys_stmt.specs.declared.statement.Body.{Body}
use Rattle.nys_stmt.specs.declared.statement.Body.TheVariants.{Filled, Attest, Ask, Wedge, Frozen, Open}
use Rattle.nys_stmt.specs.declared.statement.FilledKind.TheVariants.{Offer, Order, Deliver, Report, Inherit}
use Rattle.nys_stmt.specs.declared.tags.Tags.{Tags}
use Rattle.nys_wire.specs.Reading.{whole_record}
use Rattle.nys_olympus.specs.Heard.{IsTestimony}

-- it fails a test before its makers are looked at
pub hears_misplaced : {S : Type 0} (scope : Scope S) (o : OlympusView) (r : Record) (cause : DropCause) (done : Done)
    → misplaced_testimony scope o r.statement.epoch r.statement.body ≡ Some cause → done ≡ dropped_by cause → HearsOf scope o r (olympus_verdict scope o r) o done
unfolding olympus_verdict
hears_misplaced scope o r cause done fails same = rw fails (refl, same)

-- one that has a place and an accepted maker isn't dropped
pub verdict_none : {S : Type 0} (scope : Scope S) (o : OlympusView) (r : Record) (makers : List Tags)
    → misplaced_testimony scope o r.statement.epoch r.statement.body ≡ None → makers ≡ accepted scope r.statement.epoch olympus r → 1 ≤ length makers → olympus_verdict scope o r ≡ None
unfolding olympus_verdict
verdict_none scope o r makers passes are some =
    rw (passes, lt-ltb 0 (length (accepted scope r.statement.epoch olympus r)) (omega (arith, ap length are, some))) refl

-- one that has a place and no accepted maker is dropped for that
pub verdict_untagged : {S : Type 0} (scope : Scope S) (o : OlympusView) (r : Record)
    → misplaced_testimony scope o r.statement.epoch r.statement.body ≡ None → accepted scope r.statement.epoch olympus r ≡ [] → olympus_verdict scope o r ≡ Some drop.NoTag
unfolding olympus_verdict
verdict_untagged scope o r passes none = rw (passes, none) refl

-- a record that is dropped changes nothing
pub hears_dropped : {S : Type 0} (scope : Scope S) (o : OlympusView) (r : Record) (cause : DropCause) (done : Done) → olympus_verdict scope o r ≡ Some cause → done ≡ dropped_by cause
    → HearsOf scope o r (olympus_verdict scope o r) o done
hears_dropped scope o r cause done is told = subst (λ v. HearsOf scope o r v o done) (sym is) (refl, told)

-- another is noted
pub hears_noted : {S : Type 0} (scope : Scope S) (o : OlympusView) (r : Record) (done : Done) → olympus_verdict scope o r ≡ None
    → done ≡ noted_by nothing r (accepted scope r.statement.epoch olympus r) → HearsOf scope o r (olympus_verdict scope o r) (testified scope o r) done
hears_noted scope o r done is told = subst (λ v. HearsOf scope o r v (testified scope o r) done) (sym is) (refl, told)

-- what is given bytes that are a record is given the record
pub hears_record : {S : Type 0} (scope : Scope S) (o after : OlympusView) (frame : List ℕ) (r : Record) (done : Done) → whole_record frame ≡ Ok r
    → HearsOf scope o r (olympus_verdict scope o r) after done → Hears scope o frame after done
hears_record scope o after frame r done is hears = subst (λ read. HearsReading scope o read after done) (sym is) hears

-- what holds is so of an answer that is refused too
pub on_err : {A E : Type 0} {P : Type 0} (r : Result A E) → P → OnErr r P
on_err (Ok a) holds = tt
on_err (Err e) holds = holds

-- what isn't dropped before its makers are looked at is testimony
pub is_testimony : {S : Type 0} (scope : Scope S) (o : OlympusView) (e : ℕ) (b : Body) → misplaced_testimony scope o e b ≡ None → IsBodyInRange b → IsTestimony b
is_testimony scope o e (Filled Offer h slot content) passes range = absurd (cc)
is_testimony scope o e (Filled Order h slot content) passes range = absurd (cc)
is_testimony scope o e (Filled Deliver h slot content) passes range = absurd (cc)
is_testimony scope o e (Filled Report h slot content) passes range = (refl, omega (arith, range.0))
is_testimony scope o e (Filled Inherit h slot content) passes range = absurd (cc)
is_testimony scope o e (Attest p h k payload) passes range = absurd (cc)
is_testimony scope o e (Ask h slot) passes range = absurd (cc)
is_testimony scope o e Wedge passes range = absurd (cc)
is_testimony scope o e (Frozen h slot) passes range = omega (arith, range.0)
is_testimony scope o e (Open lengths) passes range = absurd (cc)
