-- The calls of a node, put together of what was done before it settled and what it did then.
use Rattle.std.proofs.Common.{◌≡◌, ℕ, ◌-◌, ◌<◌, ◌≤◌, ◌==◌, Bool, true, false, not, ℤ, List, [], drop, length, refl, ap, sym, subst, ◌∙◌, arith}
use Rattle.std.specs.Prelude.{AllPairs, nat_lt, Option, Some, None, OnErr, Result, Ok, Err}
use Rattle.std.specs.List.{list_any}
use Rattle.std.proofs.lemmas.Bool.{lt-ltb, ltb-true}
use Rattle.std.proofs.lemmas.List.Filters.{length-filter_both}
use Rattle.std.proofs.lemmas.List.Kept.{AllPairs-filter}
use Rattle.circular_buffer.specs.Buffer.{keep_last}
use Rattle.nys_hosts.specs.Sets.{has, members}
use Rattle.nys_hosts.specs.declared.set.HostSet.{HostSet}
use Rattle.nys_rules.specs.Dropping.{accepted, accepts, misplaced, verdict}
use Rattle.nys_rules.specs.Handling.{acts_by, acts_by_body, AnswersTo, done_by, dropped_by, Goes, Handles, HandlesReading, hosts_among, Notes, Takes, TakesWhere, with_input}
use Rattle.nys_rules.specs.Noting.{noted, noted_body}
use Rattle.nys_rules.specs.Packets.{Acts, Done, joined, nothing, Sent}
use Rattle.nys_rules.specs.Scope.{olympus, Scope}
use Rattle.nys_rules.specs.Settling.{SettlesInto}
use Rattle.nys_rules.specs.View.{View}
use Rattle.nys_rules.specs.declared.cause.DropCause.{DropCause}
use Rattle.nys_rules.specs.declared.cause.DropCause.TheVariants as cause
use Rattle.nys_stmt.specs.Records.{IsRecord}
use Rattle.nys_stmt.specs.declared.records.Record.{Record}
use Rattle.nys_stmt.specs.declared.statement.Statement.{Statement}
use Rattle.nys_stmt.specs.declared.tags.Tags.{Tags}
use Rattle.nys_wire.specs.Reading.{whole_record}
use Rattle.nys_stmt.proofs.Rising.{few_from_rising}
use Rattle.nys_node.specs.Means.{IsViewOf, Means}
use Rattle.nys_node.specs.Sound.{IsSound}
use Rattle.nys_node.specs.declared.node.Node.{Node}
use Rattle.nys_node.proofs.HostLemmas.{no_members}
use Rattle.nys_node.proofs.SoundViews.{sound_noted}

-- a list that fits is kept whole
pub keeps_all : {A : Type 0} (n : ℕ) (xs : List A) → length xs ≤ n → keep_last n xs ≡ xs
keeps_all n xs few = let none : length xs - n ≡ 0 = omega (arith, few) in ap (λ k. drop k xs) none

-- nothing, then these
pub joined_begin : (acts : Acts) → joined nothing acts ≡ acts
joined_begin acts = refl

-- what is told of a call
abbrev pub told_of : Acts → Option Statement → List ℕ → Bool → Done
told_of acts statement hosts by_olympus = record {
  acts = acts;
  statement = statement;
  accepted = hosts;
  olympus = by_olympus;
  dropped = None;
}

-- a call that was given no record tells none
pub done_is : (done : Done) (acts out rest : Acts) (set : HostSet) → done ≡ told_of acts None (members set) false → acts ≡ joined out rest
    → ((k : ℕ) → has set k ≡ false) → done ≡ done_by (joined out rest)
done_is done acts out rest set is made none =
    is ∙ ap (λ a. told_of a None (members set) false) made ∙ ap (λ hosts. told_of (joined out rest) None hosts false) (no_members set none)

-- a record that isn't dropped has a place and an accepted maker
pub verdict_none : {S : Type 0} (scope : Scope S) (v : View) (r : Record) (makers : List Tags) → misplaced scope v r.statement ≡ None
    → makers ≡ accepted scope r.statement.epoch v.me r → 1 ≤ length makers → verdict scope v r ≡ None
unfolding verdict
verdict_none scope v r makers placed are some =
    let many : nat_lt 0 (length (accepted scope r.statement.epoch v.me r)) ≡ true = lt-ltb 0 _ (omega (arith, ap length are, some)) in
    rw (placed, many) refl

-- one that has no place is dropped for that
pub verdict_misplaced : {S : Type 0} (scope : Scope S) (v : View) (r : Record) (why : DropCause) → misplaced scope v r.statement ≡ Some why → verdict scope v r ≡ Some why
unfolding verdict
verdict_misplaced scope v r why misplaced_is = rw misplaced_is refl

-- one of which no maker is accepted is dropped for that
pub verdict_untagged : {S : Type 0} (scope : Scope S) (v : View) (r : Record) (makers : List Tags) → misplaced scope v r.statement ≡ None
    → makers ≡ accepted scope r.statement.epoch v.me r → length makers < 1 → verdict scope v r ≡ Some cause.NoTag
unfolding verdict
verdict_untagged scope v r makers placed are none =
    let nobody : length (accepted scope r.statement.epoch v.me r) ≡ 0 = omega (arith, ap length are, none) in
    rw (placed, nobody) refl

-- a record that is dropped changes nothing
pub answers_dropped : {S : Type 0} (scope : Scope S) (v : View) (r : Record) (why : DropCause) (done : Done) → verdict scope v r ≡ Some why → done ≡ dropped_by why
    → AnswersTo scope v r (verdict scope v r) v done
answers_dropped scope v r why done is told = subst (λ o. AnswersTo scope v r o v done) (sym is) (refl, told)

-- another is noted
pub answers_noted : {S : Type 0} (scope : Scope S) (v after : View) (r : Record) (done : Done) → verdict scope v r ≡ None → Notes scope v r after done
    → AnswersTo scope v r (verdict scope v r) after done
answers_noted scope v after r done is notes = subst (λ o. AnswersTo scope v r o after done) (sym is) notes

-- the view in which a record is noted is one that a node comes to
pub noted_view : {P S : Type 0} (scope : Scope S) (node : Node P S) (v : View) (r : Record) (makers : List Tags) → misplaced scope v r.statement ≡ None
    → makers ≡ accepted scope r.statement.epoch v.me r → 1 ≤ length makers → IsRecord r → IsSound scope v
    → Means scope node (noted_body scope r.statement.epoch r.statement.body makers v) → IsViewOf scope node (noted_body scope r.statement.epoch r.statement.body makers v)
unfolding noted
noted_view scope node v r makers placed are some well sound means = record {
  means = means;
  sound = subst (λ ms. IsSound scope (noted_body scope r.statement.epoch r.statement.body ms v)) (sym are)
      (sound_noted scope v r (verdict_none scope v r makers placed are some) well sound);
}

-- what was done at once, then what settling did, and whose tags were accepted
pub notes_is : {S : Type 0} (scope : Scope S) (v after : View) (r : Record) (makers : List Tags) (start first out rest : Acts) (done : Done) (hosts : HostSet) (by_olympus : Bool)
    → makers ≡ accepted scope r.statement.epoch v.me r
    → SettlesInto scope (noted_body scope r.statement.epoch r.statement.body makers v) after rest
    → start ≡ nothing → first ≡ joined start (acts_by_body scope v r.statement.body makers) → out ≡ joined first rest
    → done ≡ told_of out (Some r.statement) (members hosts) by_olympus → members hosts ≡ hosts_among makers → by_olympus ≡ list_any (λ m. m.maker == olympus) makers
    → Notes scope v r after done
unfolding noted acts_by
notes_is scope v after r makers start first out rest done hosts by_olympus are settles begins acted settled told hosts_are olympus_is = record {
  rest = rest;
  settles = subst (λ ms. SettlesInto scope (noted_body scope r.statement.epoch r.statement.body ms v) after rest) are settles;
  told = told
      ∙ ap (λ acts. told_of acts (Some r.statement) (members hosts) by_olympus)
      (settled ∙ ap (λ acts. joined acts rest) (acted ∙ ap (λ acts. joined acts (acts_by_body scope v r.statement.body makers)) begins ∙ joined_begin (acts_by_body scope v r.statement.body makers))
      ∙ ap (λ ms. joined (acts_by_body scope v r.statement.body ms) rest) are)
      ∙ ap (λ hs. told_of (joined (acts_by_body scope v r.statement.body (accepted scope r.statement.epoch v.me r)) rest) (Some r.statement) hs by_olympus) (hosts_are ∙ ap (λ ms. hosts_among ms) are)
      ∙ ap (λ b. told_of (joined (acts_by_body scope v r.statement.body (accepted scope r.statement.epoch v.me r)) rest) (Some r.statement) (hosts_among (accepted scope r.statement.epoch v.me r)) b)
      (olympus_is ∙ ap (λ ms. list_any (λ m. m.maker == olympus) ms) are);
}

-- an input finds no room
pub takes_none : {S : Type 0} (scope : Scope S) (v : View) (payload : List ℤ) (done : Done) → 1024 ≤ length v.waiting → done ≡ dropped_by cause.QueueFull → Takes scope v payload v done
takes_none scope v payload done full told = subst (λ b. TakesWhere scope v payload b v done) (sym (no_room (nat_lt (length v.waiting) 1024) refl)) (refl, told)
  where
    no_room : (b : Bool) → nat_lt (length v.waiting) 1024 ≡ b → nat_lt (length v.waiting) 1024 ≡ false
    no_room true e = absurd (omega (arith, ltb-true (length v.waiting) 1024 e, full))
    no_room false e = e

-- it finds room
pub takes_one : {S : Type 0} (scope : Scope S) (v after : View) (payload : List ℤ) (done : Done) → length v.waiting < 1024 → Goes scope (with_input payload v) nothing after done
    → Takes scope v payload after done
takes_one scope v after payload done room goes =
    subst (λ b. TakesWhere scope v payload b after done) (sym (lt-ltb (length v.waiting) 1024 room)) goes

-- a call that dropped something made, sent and logged nothing, and accepted no host's tag
pub dropped_as : (why : DropCause) (made : List Statement) (packets : List Sent) (grew : List (ℕ × ℕ)) (hosts : List ℕ) → made ≡ [] → packets ≡ [] → grew ≡ [] → hosts ≡ []
    → (record { acts = record { made = made; packets = packets; grew = grew }; statement = None; accepted = hosts; olympus = false; dropped = Some why }) ≡ dropped_by why
dropped_as why made packets grew hosts none_made none_sent none_grew no_hosts = rw (none_made, none_sent, none_grew, no_hosts) refl

-- accepted makers rise
pub accepted_rise : {S : Type 0} (scope : Scope S) (e taker : ℕ) (r : Record) (makers : List Tags) → IsRecord r → makers ≡ accepted scope e taker r
    → AllPairs (λ a b. a.maker < b.maker) makers
unfolding accepted
accepted_rise scope e taker r makers well are =
    subst (λ ms. AllPairs (λ a b. a.maker < b.maker) ms) (sym are) (AllPairs-filter (λ a b. a.maker < b.maker) (accepts scope e taker r.statement) r.makers well.rule.rising)

-- bytes that are a record are answered as the record is
pub handles_record : {S : Type 0} (scope : Scope S) (v after : View) (frame : List ℕ) (r : Record) (done : Done) → whole_record frame ≡ Ok r
    → AnswersTo scope v r (verdict scope v r) after done → Handles scope v frame after done
handles_record scope v after frame r done is answers = subst (λ read. HandlesReading scope v read after done) (sym is) answers

-- what was done before the node settles is what is told first
pub goes_as : {S : Type 0} (scope : Scope S) (v after : View) (out first : Acts) (done : Done) → out ≡ first → Goes scope v out after done → Goes scope v first after done
goes_as scope v after out first done same goes = subst (λ acts. Goes scope v acts after done) same goes

-- there are no more accepted makers than parties
pub accepted_few : {S : Type 0} (scope : Scope S) (e taker : ℕ) (r : Record) → IsRecord r → length (accepted scope e taker r) ≤ 33
unfolding accepted
accepted_few scope e taker r well =
    omega (
      arith,
      length-filter_both (accepts scope e taker r.statement) (λ t. not (accepts scope e taker r.statement t)) (λ t. refl) r.makers,
      few_from_rising (λ t. t.maker) 32 r.makers well.rule.rising well.rule.parties,
    )

-- what holds is so of an answer that is refused too
pub on_err : {A E : Type 0} {P : Type 0} (r : Result A E) → P → OnErr r P
on_err (Ok a) holds = tt
on_err (Err e) holds = holds
