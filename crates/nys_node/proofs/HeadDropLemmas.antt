-- What the head of a statement tells of its drop.
use Rattle.std.proofs.Common.{◌≡◌, ◌≢◌, ℕ, ◌==◌, Bool, true, false, not, ◌&&◌, refl, ap, List, subst, sym, ◌∙◌}
use Rattle.std.specs.Prelude.{IfNone, IfSome, Option, Some, None, Result, Ok, Err}
use Rattle.nys_bytes.specs.declared.content.Content.{Content}
use Rattle.nys_rules.specs.Dropping.{if_current, inherit_drop, misplaced, misplaced_body, unless, verdict}
use Rattle.nys_rules.specs.Handling.{dropped_by, Handles, HandlesReading}
use Rattle.nys_rules.specs.Logging.{fits}
use Rattle.nys_rules.specs.Scope.{Scope}
use Rattle.nys_rules.specs.View.{has_reached, is_live, length_of, View}
use Rattle.nys_rules.specs.declared.cause.DropCause.{DropCause}
use Rattle.nys_rules.specs.declared.cause.DropCause.TheVariants as drop
use Rattle.nys_stmt.specs.declared.records.Record.{Record}
use Rattle.nys_stmt.specs.declared.statement.Body.{Body}
use Rattle.nys_stmt.specs.declared.statement.Body.TheVariants.{Filled, Attest, Ask, Wedge, Frozen, Open}
use Rattle.nys_stmt.specs.declared.statement.FilledKind.TheVariants.{Offer, Order, Deliver, Report, Inherit}
use Rattle.nys_stmt.specs.declared.statement.Statement.{Statement}
use Rattle.nys_wire.specs.Heads.{head_in, head_of, head_read, head_with, message_in, message_of}
use Rattle.nys_wire.specs.Reading.{whole_record}
use Rattle.nys_wire.specs.declared.fault.WireFault.{WireFault}
use Rattle.nys_wire.specs.declared.head.Head.{Head}
use Rattle.nys_wire.specs.declared.kind.Kind.TheVariants as kind
use Rattle.nys_node.specs.HeadDrops.{head_drop, is_inherit}
use Rattle.nys_node.specs.Means.{Known}
use Rattle.nys_node.specs.declared.node.Node.{Node}
use Rattle.nys_node.proofs.HandleLemmas.{answers_dropped, verdict_misplaced}

-- the tests of an Inherit, of which the last looks at its content
abbrev pub entry_tests : (current awake live next fit : Bool) → Option DropCause
entry_tests current awake live next fit =
    unless current drop.Epoch (unless awake drop.Wedged (unless live drop.NotGuard (unless (next && fit) drop.Slot None)))

-- where it fails a test, it fails that one whatever its content is
pub fails_before : (current awake live next fit : Bool) (cause : DropCause) → Some cause ≡ entry_tests current awake live next true
    → Some cause ≡ entry_tests current awake live next fit
fails_before false awake live next fit cause is = is
fails_before true false live next fit cause is = is
fails_before true true false next fit cause is = is
fails_before true true true false fit cause is = is
fails_before true true true true fit cause is = absurd (cc)

-- the same of an Inherit at a view
pub entry_fails : {S : Type 0} (scope : Scope S) (v : View) (e h slot : ℕ) (fit : Bool) (cause : DropCause) → Some cause ≡ if_current v e (inherit_drop scope v h slot true)
    → Some cause ≡ if_current v e (inherit_drop scope v h slot fit)
entry_fails scope v e h slot fit cause is =
    fails_before (e == v.epoch) (not v.wedged) (is_live scope v h) (slot == length_of v h && not (has_reached v h)) fit cause is

-- what a head tells of its drop is the drop of the body
body_fails : {S : Type 0} (scope : Scope S) (v : View) (e : ℕ) (b : Body) (cause : DropCause) → Some cause ≡ head_drop scope v (head_with e b)
    → Some cause ≡ misplaced_body scope v e b
body_fails scope v e (Filled Offer h slot content) cause is = is
body_fails scope v e (Filled Order h slot content) cause is = is
body_fails scope v e (Filled Deliver h slot content) cause is = is
body_fails scope v e (Filled Report h slot content) cause is = is
body_fails scope v e (Filled Inherit h slot content) cause is = entry_fails scope v e h slot (fits scope v h content) cause is
body_fails scope v e (Attest p h k payload) cause is = is
body_fails scope v e (Ask h slot) cause is = is
body_fails scope v e Wedge cause is = is
body_fails scope v e (Frozen h slot) cause is = is
body_fails scope v e (Open lengths) cause is = is

-- a body of whose drop the head tells nothing is no Inherit or fails nothing
body_passes : {S : Type 0} (scope : Scope S) (v : View) (e : ℕ) (b : Body) → None ≡ head_drop scope v (head_with e b) → (head_with e b).kind ≢ kind.Filled Inherit
    → None ≡ misplaced_body scope v e b
body_passes scope v e (Filled Offer h slot content) is other = is
body_passes scope v e (Filled Order h slot content) is other = is
body_passes scope v e (Filled Deliver h slot content) is other = is
body_passes scope v e (Filled Report h slot content) is other = is
body_passes scope v e (Filled Inherit h slot content) is other = absurd (other refl)
body_passes scope v e (Attest p h k payload) is other = is
body_passes scope v e (Ask h slot) is other = is
body_passes scope v e Wedge is other = is
body_passes scope v e (Frozen h slot) is other = is
body_passes scope v e (Open lengths) is other = is

-- a statement fails what its head tells
pub statement_fails : {S : Type 0} (scope : Scope S) (v : View) (s : Statement) (cause : DropCause) → Some cause ≡ head_drop scope v (head_of s)
    → misplaced scope v s ≡ Some cause
unfolding misplaced
statement_fails scope v s cause is = sym (body_fails scope v s.epoch s.body cause is)

-- it fails nothing where its head tells nothing, and it is no Inherit
pub statement_passes : {S : Type 0} (scope : Scope S) (v : View) (s : Statement) → None ≡ head_drop scope v (head_of s) → (head_of s).kind ≢ kind.Filled Inherit
    → misplaced scope v s ≡ None
unfolding misplaced
statement_passes scope v s is other = sym (body_passes scope v s.epoch s.body is other)

-- the cause that a head tells is why each record with it is dropped
pub drops_some : {P S : Type 0} (scope : Scope S) (node : Node P S) (head : Head) (told : Option DropCause) → Known scope node (λ v. told ≡ head_drop scope v head)
    → IfSome told (λ cause. Known scope node (λ v. (r : Record) → head_of r.statement ≡ head → verdict scope v r ≡ Some cause))
drops_some scope node head None is = tt
drops_some scope node head (Some cause) is =
    λ v m r same. verdict_misplaced scope v r cause (statement_fails scope v r.statement cause (is v m ∙ ap (λ x. head_drop scope v x) (sym same)))

-- where it tells none, each statement with it has its place, unless it is an Inherit
pub drops_none : {P S : Type 0} (scope : Scope S) (node : Node P S) (head : Head) (told : Option DropCause) → Known scope node (λ v. told ≡ head_drop scope v head)
    → IfNone told (Known scope node (λ v. (s : Statement) → head_of s ≡ head → head.kind ≢ kind.Filled Inherit → misplaced scope v s ≡ None))
drops_none scope node head None is =
    λ v m s same other. statement_passes scope v s (is v m ∙ ap (λ x. head_drop scope v x) (sym same)) (λ is_one. other (sym (ap (λ x. x.kind) same) ∙ is_one))
drops_none scope node head (Some cause) is = tt

-- what is read of a record that is dropped for the cause is dropped
read_dropped : {S : Type 0} (scope : Scope S) (v : View) (head : Head) (cause : DropCause) (read : Result Record WireFault) → head_read read ≡ Some head
    → ((r : Record) → head_of r.statement ≡ head → verdict scope v r ≡ Some cause) → HandlesReading scope v read v (dropped_by cause)
read_dropped scope v head cause (Ok r) same drops = answers_dropped scope v r cause (dropped_by cause) (drops r cc) refl
read_dropped scope v head cause (Err e) same drops = absurd (cc)

-- so are bytes that are a record with such a head
pub drops_handled : {P S : Type 0} (scope : Scope S) (node : Node P S) (head : Head) (told : Option DropCause) → Known scope node (λ v. told ≡ head_drop scope v head)
    → IfSome told (λ cause. Known scope node (λ v. (frame : List ℕ) → head_in frame ≡ Some head → Handles scope v frame v (dropped_by cause)))
drops_handled scope node head None is = tt
drops_handled scope node head (Some cause) is =
    λ v m frame same. read_dropped scope v head cause (whole_record frame) same (λ r of. drops_some scope node head (Some cause) is v m r of)

-- of an Inherit the head and its content tell the drop
entry_body : {S : Type 0} (scope : Scope S) (v : View) (e : ℕ) (b : Body) (told : Option DropCause) → is_inherit (head_with e b).kind ≡ true
    → ((content : Content) → message_in content ≡ message_of b
    → told ≡ if_current v (head_with e b).epoch (inherit_drop scope v (head_with e b).h (head_with e b).at (fits scope v (head_with e b).h content)))
    → told ≡ misplaced_body scope v e b
entry_body scope v e (Filled Offer h slot content) told same is = absurd (cc)
entry_body scope v e (Filled Order h slot content) told same is = absurd (cc)
entry_body scope v e (Filled Deliver h slot content) told same is = absurd (cc)
entry_body scope v e (Filled Report h slot content) told same is = absurd (cc)
entry_body scope v e (Filled Inherit h slot content) told same is = is content refl
entry_body scope v e (Attest p h k payload) told same is = absurd (cc)
entry_body scope v e (Ask h slot) told same is = absurd (cc)
entry_body scope v e Wedge told same is = absurd (cc)
entry_body scope v e (Frozen h slot) told same is = absurd (cc)
entry_body scope v e (Open lengths) told same is = absurd (cc)

-- the same of a statement
pub entry_misplaced : {S : Type 0} (scope : Scope S) (v : View) (head : Head) (s : Statement) (told : Option DropCause) → head ≡ head_of s
    → is_inherit head.kind ≡ true
    → ((content : Content) → message_in content ≡ message_of s.body → told ≡ if_current v head.epoch (inherit_drop scope v head.h head.at (fits scope v head.h content)))
    → told ≡ misplaced scope v s
unfolding misplaced
entry_misplaced scope v head s told same entry is =
    entry_body scope v s.epoch s.body told (ap (λ x. is_inherit x.kind) (sym same) ∙ entry)
    (subst (λ x. (content : Content) → message_in content ≡ message_of s.body → told ≡ if_current v x.epoch (inherit_drop scope v x.h x.at (fits scope v x.h content))) same is)

-- of each other kind the head tells the drop
other_body : {S : Type 0} (scope : Scope S) (v : View) (e : ℕ) (b : Body) → is_inherit (head_with e b).kind ≡ false
    → head_drop scope v (head_with e b) ≡ misplaced_body scope v e b
other_body scope v e (Filled Offer h slot content) other = refl
other_body scope v e (Filled Order h slot content) other = refl
other_body scope v e (Filled Deliver h slot content) other = refl
other_body scope v e (Filled Report h slot content) other = refl
other_body scope v e (Filled Inherit h slot content) other = absurd (cc)
other_body scope v e (Attest p h k payload) other = refl
other_body scope v e (Ask h slot) other = refl
other_body scope v e Wedge other = refl
other_body scope v e (Frozen h slot) other = refl
other_body scope v e (Open lengths) other = refl

-- the same of a statement
pub other_misplaced : {S : Type 0} (scope : Scope S) (v : View) (head : Head) (s : Statement) → head ≡ head_of s → is_inherit head.kind ≡ false
    → head_drop scope v head ≡ misplaced scope v s
unfolding misplaced
other_misplaced scope v head s same other =
    ap (λ x. head_drop scope v x) same ∙ other_body scope v s.epoch s.body (ap (λ x. is_inherit x.kind) (sym same) ∙ other)
