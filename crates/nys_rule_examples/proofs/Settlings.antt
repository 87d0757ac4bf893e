-- A node's calls, computed: what it does by its rules, until none is due, and what it makes of bytes.
use Rattle.std.proofs.Common.{◌≡◌, ℕ, zero, suc, List, [], ◌∷◌, refl, true, false, None, Some}
use Rattle.std.specs.Prelude.{Bool, ℤ, Option, Result, Ok, Err, is_none, nat_lt, length}
use Rattle.nys_stmt.specs.declared.records.Record.{Record}
use Rattle.nys_wire.specs.Reading.{whole_record}
use Rattle.nys_wire.specs.declared.fault.WireFault.{WireFault}
use Rattle.nys_wire.specs.declared.fault.WireFault.TheVariants.{At, NoMemory}
use Rattle.nys_rules.specs.declared.cause.DropCause.{DropCause}
use Rattle.nys_rules.specs.declared.cause.DropCause.TheVariants.{Malformed, QueueFull}
use Rattle.nys_rules.specs.declared.rule.Rule.{Rule}
use Rattle.nys_rules.specs.Asking.{questions}
use Rattle.nys_rules.specs.Dropping.{accepted, verdict}
use Rattle.nys_rules.specs.Handling.{acts_by, AnswersTo, Asks, done_by, dropped_by, Handles, HandlesReading, noted_by, Takes, TakesWhere, with_input}
use Rattle.nys_rules.specs.Noting.{noted}
use Rattle.nys_rules.specs.Packets.{Acts, Done, joined, nothing}
use Rattle.nys_rules.specs.Rules.{due}
use Rattle.nys_rules.specs.Scope.{Scope}
use Rattle.nys_rules.specs.Settling.{Settles, SettlesInto}
use Rattle.nys_rules.specs.Taking.{acts_of, taken}
use Rattle.nys_rules.specs.View.{View}

-- what a node did: whether it came to rest within so many rules, its rules, its view then, its acts
pub record Settled : Type 0 where
  pub rests : Bool
  pub rules : List Rule
  pub after : View
  pub acts : Acts

-- the node is at rest
abbrev at_rest : Bool → View → Settled
at_rest rests v = record { rests = rests; rules = []; after = v; acts = nothing }

-- the node took a rule and then did this
abbrev behind : Rule → Acts → Settled → Settled
behind rule acts rest = record {
  rests = rest.rests;
  rules = rule ∷ rest.rules;
  after = rest.after;
  acts = joined acts rest.acts;
}

-- what the node does where this rule is due
abbrev by_rule : View → (Rule → Settled) → Option Rule → Settled
by_rule v go None = at_rest true v
by_rule v go (Some rule) = go rule

-- what a node does by at most n rules
abbrev pub settle : {S : Type 0} → ℕ → Scope S → View → Settled
settle zero scope v = at_rest (is_none (due scope v)) v
settle (suc n) scope v =
    by_rule v (λ rule. behind rule (acts_of scope v rule) (settle n scope (taken scope v rule))) (due scope v)

-- nothing is there
none_is : {A : Type 0} (o : Option A) → is_none o ≡ true → o ≡ None
none_is None e = refl
none_is (Some x) e = absurd (cc)

-- what is computed by rules is a settling, where the node comes to rest
settle_by : {S : Type 0} (scope : Scope S) (v : View) (n : ℕ) (o : Option Rule) → due scope v ≡ o
    → ((w : View) → (settle n scope w).rests ≡ true → Settles scope w (settle n scope w).rules (settle n scope w).after (settle n scope w).acts)
    → (by_rule v (λ rule. behind rule (acts_of scope v rule) (settle n scope (taken scope v rule))) o).rests ≡ true
    → Settles scope v (by_rule v (λ rule. behind rule (acts_of scope v rule) (settle n scope (taken scope v rule))) o).rules
    (by_rule v (λ rule. behind rule (acts_of scope v rule) (settle n scope (taken scope v rule))) o).after
    (by_rule v (λ rule. behind rule (acts_of scope v rule) (settle n scope (taken scope v rule))) o).acts
settle_by scope v n None e go q = (e, refl, refl)
settle_by scope v n (Some rule) e go q =
    (e, ((settle n scope (taken scope v rule)).acts, go (taken scope v rule) q, refl))

-- what is computed is a settling, where the node comes to rest
pub settle_is : {S : Type 0} (n : ℕ) (scope : Scope S) (v : View) → (settle n scope v).rests ≡ true
    → Settles scope v (settle n scope v).rules (settle n scope v).after (settle n scope v).acts
settle_is zero scope v q = (none_is (due scope v) q, refl, refl)
settle_is (suc n) scope v q = settle_by scope v n (due scope v) refl (settle_is n scope) q

-- a computed settling
pub settles : {S : Type 0} (n : ℕ) (scope : Scope S) (v : View) → (settle n scope v).rests ≡ true
    → SettlesInto scope v (settle n scope v).after (settle n scope v).acts
settles n scope v q = record { rules = (settle n scope v).rules; settles = settle_is n scope v q }

-- what a call did: whether that is sure, the view after it, and what is told
pub record Called : Type 0 where
  pub sure : Bool
  pub after : View
  pub done : Done

-- a call that settles and tells
abbrev told : (Acts → Done) → Settled → Called
told tell s = record { sure = s.rests; after = s.after; done = tell s.acts }

-- a call that changes nothing
abbrev unchanged : View → Done → Called
unchanged v done = record { sure = true; after = v; done = done }

-- what a node makes of a record that has this verdict
abbrev answer : {S : Type 0} → ℕ → Scope S → View → Record → Option DropCause → Called
answer n scope v r (Some cause) = unchanged v (dropped_by cause)
answer n scope v r None = told
    (λ rest. noted_by (joined (acts_by scope v r) rest) r (accepted scope r.statement.epoch v.me r))
    (settle n scope (noted scope v r))

-- so it answers
answer_is : {S : Type 0} (n : ℕ) (scope : Scope S) (v : View) (r : Record) (o : Option DropCause) → (answer n scope v r o).sure ≡ true
    → AnswersTo scope v r o (answer n scope v r o).after (answer n scope v r o).done
answer_is n scope v r (Some cause) q = (refl, refl)
answer_is n scope v r None q = record {
  rest = (settle n scope (noted scope v r)).acts;
  settles = settles n scope (noted scope v r) q;
  told = refl;
}

-- what a node makes of what it reads
abbrev handle_reading : {S : Type 0} → ℕ → Scope S → View → Result Record WireFault → Called
handle_reading n scope v (Ok r) = answer n scope v r (verdict scope v r)
handle_reading n scope v (Err (At place wrong)) = unchanged v (dropped_by (Malformed place wrong))
handle_reading n scope v (Err NoMemory) = record { sure = false; after = v; done = done_by nothing }

-- so it handles it
handle_reading_is : {S : Type 0} (n : ℕ) (scope : Scope S) (v : View) (x : Result Record WireFault) → (handle_reading n scope v x).sure ≡ true
    → HandlesReading scope v x (handle_reading n scope v x).after (handle_reading n scope v x).done
handle_reading_is n scope v (Ok r) q = answer_is n scope v r (verdict scope v r) q
handle_reading_is n scope v (Err (At place wrong)) q = (refl, refl)
handle_reading_is n scope v (Err NoMemory) q = absurd (cc)

-- what a node makes of bytes
abbrev pub handle : {S : Type 0} → ℕ → Scope S → View → List ℕ → Called
handle n scope v frame = handle_reading n scope v (whole_record frame)

-- so it handles them
pub handle_is : {S : Type 0} (n : ℕ) (scope : Scope S) (v : View) (frame : List ℕ) → (handle n scope v frame).sure ≡ true
    → Handles scope v frame (handle n scope v frame).after (handle n scope v frame).done
handle_is n scope v frame q = handle_reading_is n scope v (whole_record frame) q

-- what a node makes of an input, for which it has room or not
abbrev take_where : {S : Type 0} → ℕ → Scope S → View → List ℤ → Bool → Called
take_where n scope v payload false = unchanged v (dropped_by QueueFull)
take_where n scope v payload true = told (λ rest. done_by (joined nothing rest)) (settle n scope (with_input payload v))

-- so it takes it
take_where_is : {S : Type 0} (n : ℕ) (scope : Scope S) (v : View) (payload : List ℤ) (room : Bool) → (take_where n scope v payload room).sure ≡ true
    → TakesWhere scope v payload room (take_where n scope v payload room).after (take_where n scope v payload room).done
take_where_is n scope v payload false q = (refl, refl)
take_where_is n scope v payload true q = record {
  rest = (settle n scope (with_input payload v)).acts;
  settles = settles n scope (with_input payload v) q;
  told = refl;
}

-- what a node makes of an input
abbrev pub take_input : {S : Type 0} → ℕ → Scope S → View → List ℤ → Called
take_input n scope v payload = take_where n scope v payload (nat_lt (length v.waiting) 1024)

-- so it takes it
pub take_input_is : {S : Type 0} (n : ℕ) (scope : Scope S) (v : View) (payload : List ℤ) → (take_input n scope v payload).sure ≡ true
    → Takes scope v payload (take_input n scope v payload).after (take_input n scope v payload).done
take_input_is n scope v payload q = take_where_is n scope v payload (nat_lt (length v.waiting) 1024) q

-- what a node does where it is told to ask
abbrev pub ask : {S : Type 0} → ℕ → Scope S → View → Called
ask n scope v = told (λ rest. done_by (joined (questions scope v) rest)) (settle n scope v)

-- so it asks
pub ask_is : {S : Type 0} (n : ℕ) (scope : Scope S) (v : View) → (ask n scope v).sure ≡ true
    → Asks scope v (ask n scope v).after (ask n scope v).done
ask_is n scope v q = record { rest = (settle n scope v).acts; settles = settles n scope v q; told = refl }
