-- What the head of a statement tells of its drop at the Olympus.
use Rattle.std.proofs.Common.{◌≡◌, ℕ, List, refl, ap, sym, ◌∙◌}
use Rattle.std.specs.Prelude.{IfNone, IfSome, Option, Some, None, Result, Ok, Err}
use Rattle.nys_rules.specs.Handling.{dropped_by}
use Rattle.nys_rules.specs.Olympus.{Hears, HearsReading, misplaced_testimony, olympus_verdict, OlympusView}
use Rattle.nys_rules.specs.Scope.{Scope}
use Rattle.nys_rules.specs.declared.cause.DropCause.{DropCause}
use Rattle.nys_stmt.specs.declared.records.Record.{Record}
use Rattle.nys_stmt.specs.declared.statement.Body.{Body}
use Rattle.nys_stmt.specs.declared.statement.Body.TheVariants.{Filled, Attest, Ask, Wedge, Frozen, Open}
use Rattle.nys_stmt.specs.declared.statement.FilledKind.TheVariants.{Offer, Order, Deliver, Report, Inherit}
use Rattle.nys_stmt.specs.declared.statement.Statement.{Statement}
use Rattle.nys_wire.specs.Heads.{head_in, head_of, head_read, head_with}
use Rattle.nys_wire.specs.Reading.{whole_record}
use Rattle.nys_wire.specs.declared.fault.WireFault.{WireFault}
use Rattle.nys_wire.specs.declared.head.Head.{Head}
use Rattle.nys_olympus.specs.HeadDrops.{head_drop}
use Rattle.nys_olympus.specs.Means.{Known}
use Rattle.nys_olympus.specs.declared.olympus.Olympus.{Olympus}
use Rattle.nys_olympus.proofs.Verdicts.{hears_misplaced}

-- the drop of a body is what its head tells
body_told : {S : Type 0} (scope : Scope S) (o : OlympusView) (e : ℕ) (b : Body) → head_drop scope o (head_with e b) ≡ misplaced_testimony scope o e b
body_told scope o e (Filled Offer h slot content) = refl
body_told scope o e (Filled Order h slot content) = refl
body_told scope o e (Filled Deliver h slot content) = refl
body_told scope o e (Filled Report h slot content) = refl
body_told scope o e (Filled Inherit h slot content) = refl
body_told scope o e (Attest p h k payload) = refl
body_told scope o e (Ask h slot) = refl
body_told scope o e Wedge = refl
body_told scope o e (Frozen h slot) = refl
body_told scope o e (Open lengths) = refl

-- the drop of a statement with this head is what the head tells
statement_told : {S : Type 0} (scope : Scope S) (o : OlympusView) (head : Head) (s : Statement) → head_of s ≡ head
    → head_drop scope o head ≡ misplaced_testimony scope o s.epoch s.body
statement_told scope o head s same = ap (λ x. head_drop scope o x) (sym same) ∙ body_told scope o s.epoch s.body

-- a record that fails a test is dropped for it
record_fails : {S : Type 0} (scope : Scope S) (o : OlympusView) (r : Record) (cause : DropCause) → misplaced_testimony scope o r.statement.epoch r.statement.body ≡ Some cause
    → olympus_verdict scope o r ≡ Some cause
unfolding olympus_verdict
record_fails scope o r cause fails = rw fails refl

-- the cause that a head tells is why each record with it is dropped
pub drops_some : {P S : Type 0} (scope : Scope S) (olympus : Olympus P S) (head : Head) (told : Option DropCause) → Known scope olympus (λ o. told ≡ head_drop scope o head)
    → IfSome told (λ cause. Known scope olympus (λ o. (r : Record) → head_of r.statement ≡ head → olympus_verdict scope o r ≡ Some cause))
drops_some scope olympus head None is = tt
drops_some scope olympus head (Some cause) is =
    λ o view r same. record_fails scope o r cause (sym (is o view ∙ statement_told scope o head r.statement same))

-- where it tells none, each statement with it passes
pub drops_none : {P S : Type 0} (scope : Scope S) (olympus : Olympus P S) (head : Head) (told : Option DropCause) → Known scope olympus (λ o. told ≡ head_drop scope o head)
    → IfNone told (Known scope olympus (λ o. (s : Statement) → head_of s ≡ head → misplaced_testimony scope o s.epoch s.body ≡ None))
drops_none scope olympus head None is = λ o view s same. sym (is o view ∙ statement_told scope o head s same)
drops_none scope olympus head (Some cause) is = tt

-- what is read of a record that fails a test is dropped
read_dropped : {S : Type 0} (scope : Scope S) (o : OlympusView) (head : Head) (cause : DropCause) (read : Result Record WireFault) → head_read read ≡ Some head
    → ((r : Record) → head_of r.statement ≡ head → misplaced_testimony scope o r.statement.epoch r.statement.body ≡ Some cause) → HearsReading scope o read o (dropped_by cause)
read_dropped scope o head cause (Ok r) same fails = hears_misplaced scope o r cause (dropped_by cause) (fails r cc) refl
read_dropped scope o head cause (Err e) same fails = absurd (cc)

-- so are bytes that are a record with such a head
pub drops_handled : {P S : Type 0} (scope : Scope S) (olympus : Olympus P S) (head : Head) (told : Option DropCause) → Known scope olympus (λ o. told ≡ head_drop scope o head)
    → IfSome told (λ cause. Known scope olympus (λ o. (frame : List ℕ) → head_in frame ≡ Some head → Hears scope o frame o (dropped_by cause)))
drops_handled scope olympus head None is = tt
drops_handled scope olympus head (Some cause) is =
    λ o view frame same. read_dropped scope o head cause (whole_record frame) same (λ r of. sym (is o view ∙ statement_told scope o head r.statement of))
