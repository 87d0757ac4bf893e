-- A vote that an honest guard sent is kept by the honest guard that takes it, until its log is past the slot.
use Rattle.std.proofs.Common.{◌≡◌, ◌≢◌, ℕ, ◌<◌, ◌≤◌, ◌==◌, ◌&&◌, Bool, true, false, List, [], ◌∷◌, length, Some, None, Ok, refl, ap, sym, subst, ◌∙◌, inl, inr, arith, lt-ltb, le-leb}
use Rattle.std.specs.Prelude.{if◌then◌else◌, nat_lt, not, Option, slice_get}
use Rattle.std.specs.Option.{option_or}
use Rattle.std.proofs.lemmas.Bool.{ne_eqb}
use Rattle.std.proofs.lemmas.Bool.Decides.{Decides-eqb}
use Rattle.nys_agreement.proofs.TableLemmas.{put_here}
use Rattle.nys_bytes.specs.declared.content.Content.{Content}
use Rattle.nys_votes.specs.Seats.{with_seat}
use Rattle.nys_votes.specs.declared.vote.Vote.{Vote}
use Rattle.nys_stmt.specs.Records.{record_spelling}
use Rattle.nys_stmt.specs.declared.records.Record.{Record}
use Rattle.nys_stmt.specs.declared.tags.Tags.{Tags}
use Rattle.nys_rules.specs.declared.cause.DropCause.{DropCause}
use Rattle.nys_rules.specs.declared.cause.DropCause.TheVariants as drop
use Rattle.nys_rules.specs.Dropping.{accepted, if_current, misplaced, unless, untagged, verdict, vote_drop}
use Rattle.nys_rules.specs.Handling.{AnswersTo, Handles, HandlesReading}
use Rattle.nys_rules.specs.Happening.{Delivers, GivesPacket, NodeTakes, TakenBy, with_take}
use Rattle.nys_rules.specs.Noting.{noted, with_votes}
use Rattle.nys_rules.specs.Packets.{Done}
use Rattle.nys_rules.specs.declared.rule.Rule.{Rule}
use Rattle.nys_rules.specs.Rules.{due}
use Rattle.nys_rules.specs.Taking.{taken}
use Rattle.nys_rules.specs.Scope.{olympus, Scope}
use Rattle.nys_rules.specs.Sending.{own_record, said_in}
use Rattle.nys_rules.specs.View.{Desk, has_reached, is_live, is_open, length_of, View}
use Rattle.nys_rules.specs.World.{after_node, is_honest, Setting, World}
use Rattle.nys_rules.proofs.KeepLemmas.{handles_keep, settles_into_keep}
use Rattle.nys_rules.proofs.SeatCases.{with_seat_takes}
use Rattle.nys_rules.proofs.WorldFrames.{after_node_ok, unless_forged_ok}
use Rattle.nys_stmt.specs.declared.statement.Body.TheVariants.{Wedge}
use Rattle.nys_laws.specs.Own.Stage.{Delivered}
use Rattle.nys_progress.specs.Sent.{telling}
use Rattle.nys_progress.proofs.Exchanging.{IsGoingOn}
use Rattle.nys_progress.proofs.HostMoves.{record_moves, rule_moves}
use Rattle.nys_progress.proofs.MarkedDesks.{HasVote, IsKept, KeepsVotes, seat_there, Stands, stands_moves, StandsIn, vote_kept}
use Rattle.nys_progress.proofs.ReadRecords.{IsTold, told_accepted, told_read, told_record, told_tags}

-- nothing is asked of the desk
abbrev pub NoMark : Desk → Type 0
NoMark desk = Unit {0}

-- which is never lost
pub none_kept : IsKept NoMark
none_kept me desk next moves mark = tt

-- where the slot is the one behind the log the desk has another mark
pub other_mark : (e h slot : ℕ) (Mark Other : Desk → Type 0) (v : View) → StandsIn e h slot Mark v
    → (v.epoch ≡ e → length_of v h ≡ slot → Mark (v.desks h) → Other (v.desks h))
    → StandsIn e h slot Other v
other_mark e h slot Mark Other v k so = record {
  rises = k.rises;
  here = λ now. let at = k.here now in record {
    lives = at.lives;
    above = at.above;
    stands = elim at.stands [ inl past ↦ inl past | inr there ↦ inr (there.0, so now there.0 there.1) ];
  };
}

-- ---- a node while the epoch goes on

-- it is in the epoch
pub in_epoch : {S : Type 0} (setting : Setting S) (e g : ℕ) (w : World) → IsGoingOn setting e w
    → g ≢ olympus → e ≤ (w.nodes g).epoch
    → (w.nodes g).epoch ≡ e
in_epoch setting e g w on other rises =
    let behind = (on.follows.nodes g other).behind in let at = on.going.epoch in omega (arith, behind, at, rises)

-- and isn't wedged
pub not_wedged : {S : Type 0} (setting : Setting S) (e g : ℕ) (w : World) → IsGoingOn setting e w
    → g ≢ olympus → (w.nodes g).epoch ≡ e
    → (w.nodes g).wedged ≡ false
not_wedged {S} setting e g w on other now = by (w.nodes g).wedged refl
  where
    by : (b : Bool) → (w.nodes g).wedged ≡ b → (w.nodes g).wedged ≡ false
    by false is = is
    by true is =
        let may = on.follows.made (said_in (w.nodes g).epoch Wedge) ((on.follows.nodes g other).told is) in
        absurd (elim may [
          | inl past ↦ let at = on.going.epoch in omega (arith, past, at, now)
          | inr ending ↦ let no = sym ending.1 ∙ on.going.active in cc
        ])

-- a host that it guards is live at it
pub live_by : {S : Type 0} (scope : Scope S) (v : View) (h : ℕ) → h < scope.rules.hosts
    → scope.guards v.epoch h v.me ≡ true
    → v.retired h ≡ false → is_live scope v h ≡ true
unfolding is_live
live_by scope v h low guards lives =
    ap (λ (b : Bool). b && (scope.guards v.epoch h v.me && not (v.retired h))) (lt-ltb h scope.rules.hosts low)
    ∙ (ap (λ (b : Bool). b && not (v.retired h)) guards ∙ ap not lives)

-- and the slot behind a log that has reached its base is open
pub open_by : {S : Type 0} (scope : Scope S) (v : View) (h : ℕ) → is_live scope v h ≡ true
    → v.wedged ≡ false
    → v.base h ≤ length_of v h → length_of v h < 1024 → is_open scope v h ≡ true
unfolding is_open
open_by scope v h live active above room =
    ap (λ (b : Bool). b && (not v.wedged && (has_reached v h && nat_lt (length_of v h) 1024))) live
    ∙ (ap (λ (b : Bool). not b && (has_reached v h && nat_lt (length_of v h) 1024)) active
    ∙ (ap (λ (b : Bool). b && nat_lt (length_of v h) 1024) (le-leb (v.base h) (length_of v h) above)
    ∙ lt-ltb (length_of v h) 1024 room))

-- a vote for the open slot passes the tests before the last
pub vote_passes : {S : Type 0} (scope : Scope S) (v : View) (e h slot : ℕ) → v.epoch ≡ e → v.wedged ≡ false
    → is_live scope v h ≡ true
    → is_open scope v h ≡ true → length_of v h ≡ slot → if_current v e (vote_drop scope v h slot) ≡ None
vote_passes {S} scope v e h slot now active live opened at =
    ap (λ (b : Bool). unless b drop.Epoch (unless (not v.wedged) drop.Wedged (vote_drop scope v h slot))) ((Decides-eqb e v.epoch).1 (sym now))
    ∙ (ap (λ (b : Bool). unless (not b) drop.Wedged (vote_drop scope v h slot)) active
    ∙ (ap (λ (b : Bool). unless b drop.NotGuard (unless (is_open scope v h && slot == length_of v h) drop.Slot None)) live
    ∙ (ap (λ (b : Bool). unless (b && slot == length_of v h) drop.Slot None) opened
    ∙ ap (λ (b : Bool). unless b drop.Slot None) ((Decides-eqb slot (length_of v h)).1 (sym at)))))

-- ---- taking the vote

-- what is asked: the maker is a guard, and the taker is an honest guard
pub record IsVoteFor {S : Type 0} (setting : Setting S) (e h slot : ℕ) (content : Content) (m g : ℕ) : Type 0 where
  pub told : IsTold setting.scope Delivered e h slot content m g
  pub guards : setting.scope.guards e h m ≡ true
  pub honest : is_honest setting g ≡ true
  pub taker : g ≢ olympus

-- what is known of the taker before
pub record IsReady {S : Type 0} (setting : Setting S) (e h slot g : ℕ) (w : World) : Type 0 where
  pub on : IsGoingOn setting e w
  pub votes : KeepsVotes setting g w.ledger (w.nodes g)
  pub here : StandsIn e h slot NoMark (w.nodes g)

-- the record isn't dropped where the slot is the one behind the log
vote_noted : {S : Type 0} (setting : Setting S) (e h slot : ℕ) (content : Content) (m g : ℕ) (w : World)
    → IsVoteFor setting e h slot content m g → IsReady setting e h slot g w → (now : (w.nodes g).epoch ≡ e)
    → length_of (w.nodes g) h ≡ slot
    → (verdict setting.scope (w.nodes g) (told_record setting.scope Delivered e h slot content m) ≡ None)
    × HasVote m ((noted setting.scope (w.nodes g) (told_record setting.scope Delivered e h slot content m)).desks h)
unfolding verdict misplaced noted own_record with_votes
vote_noted {S} setting e h slot content m g w t r now at = (passes, has)
  where
    v : View
    v = w.nodes g

    scope : Scope S
    scope = setting.scope

    me : v.me ≡ g
    me = r.votes.sound.own.host

    one : Tags
    one = record { maker = m; tags = told_tags scope Delivered e h slot content m }

    makers : accepted scope e v.me (told_record scope Delivered e h slot content m) ≡ one ∷ []
    makers = subst (λ x. accepted scope e x (told_record scope Delivered e h slot content m) ≡ one ∷ []) (sym me)
        (told_accepted scope Delivered e h slot content m g t.told t.guards)

    active : v.wedged ≡ false
    active = not_wedged setting e g w r.on t.taker now

    live : is_live scope v h ≡ true
    live = live_by scope v h t.told.host
        (subst (λ n. scope.guards n h v.me ≡ true) (sym now) (subst (λ x. scope.guards e h x ≡ true) (sym me) t.told.taker))
        (r.here.here now).lives

    opened : is_open scope v h ≡ true
    opened = let low = (r.here.here now).above in let room = t.told.room in
        open_by scope v h live active (omega (arith, low, at)) (omega (arith, room, at))

    passes : verdict scope v (told_record scope Delivered e h slot content m) ≡ None
    passes =
        ap (λ (o : Option DropCause). option_or o (untagged (accepted scope e v.me (told_record scope Delivered e h slot content m))))
        (vote_passes scope v e h slot now active live opened at)
        ∙ ap untagged makers

    low : m < length (v.desks h).votes
    low = let seats = (r.votes.sound.seats.desks h).votes in let host = t.told.maker in let few = t.told.hosts.few in
        omega (arith, seats, host, few)

    votes : List (Option Vote)
    votes = with_seat m (record { content = content; tags = told_tags scope Delivered e h slot content m }) (v.desks h).votes

    has : HasVote m ((noted scope v (told_record scope Delivered e h slot content m)).desks h)
    has = subst (HasVote m) (sym (put_here v.desks h (with_votes content (accepted scope e v.me (told_record scope Delivered e h slot content m)) (v.desks h))))
        (subst (λ ms. HasVote m (with_votes content ms (v.desks h))) (sym makers)
        (seat_there votes m (with_seat_takes m (record { content = content; tags = told_tags scope Delivered e h slot content m }) (v.desks h).votes low)))

-- so bytes with it leave it kept
handled_vote : {S : Type 0} (setting : Setting S) (e h slot : ℕ) (content : Content) (m g : ℕ) (w : World)
    → IsVoteFor setting e h slot content m g → IsReady setting e h slot g w → (after : View) (done : Done)
    → Handles setting.scope (w.nodes g) (record_spelling (told_record setting.scope Delivered e h slot content m)) after done
    → StandsIn e h slot (HasVote m) after
handled_vote {S} setting e h slot content m g w t r after done handles = by (r.here.here now).stands
  where
    v : View
    v = w.nodes g

    scope : Scope S
    scope = setting.scope

    told : Record
    told = told_record scope Delivered e h slot content m

    now : v.epoch ≡ e
    now = in_epoch setting e g w r.on t.taker r.here.rises

    answers : AnswersTo scope v told (verdict scope v told) after done
    answers = subst (λ x. HandlesReading scope v x after done) (told_read scope Delivered e h slot content m g t.told) handles

    rules : (x : View) (rule : Rule) → due scope x ≡ Some rule → StandsIn e h slot (HasVote m) x
        → StandsIn e h slot (HasVote m) (taken scope x rule)
    rules x rule is k = stands_moves e h slot (HasVote m) (vote_kept m) x _ (rule_moves scope x rule h) k

    records : (x : View) (y : Record) → verdict scope x y ≡ None → StandsIn e h slot (HasVote m) x
        → StandsIn e h slot (HasVote m) (noted scope x y)
    records x y is k = stands_moves e h slot (HasVote m) (vote_kept m) x _ (record_moves scope x y h is) k

    by : Stands h slot NoMark v → StandsIn e h slot (HasVote m) after
    by (inl past) = handles_keep scope (StandsIn e h slot (HasVote m)) rules records v after _ done handles
        (other_mark e h slot NoMark (HasVote m) v r.here (λ is at mark. absurd (omega (arith, past, at))))
    by (inr at) =
        let kept = vote_noted setting e h slot content m g w t r now at.0 in
        let notes : AnswersTo scope v told None after done = subst (λ x. AnswersTo scope v told x after done) kept.0 answers in
        settles_into_keep scope (StandsIn e h slot (HasVote m)) rules (noted scope v told) after notes.rest notes.settles
        (other_mark e h slot NoMark (HasVote m) (noted scope v told)
        (stands_moves e h slot NoMark none_kept v _ (record_moves scope v told h kept.0) r.here)
        (λ is there mark. kept.1))

-- a packet with it, given to the guard
pub vote_taken : {S : Type 0} (setting : Setting S) (e h slot : ℕ) (content : Content) (m g : ℕ) (w next : World) (k : ℕ)
    → IsVoteFor setting e h slot content m g → IsReady setting e h slot g w → Delivers setting w k (Ok next)
    → slice_get w.pool k ≡ Some (telling setting.scope m Delivered e h slot content g)
    → StandsIn e h slot (HasVote m) (next.nodes g)
vote_taken {S} setting e h slot content m g w next k t r d get = by n
  where
    frame : List ℕ
    frame = record_spelling (told_record setting.scope Delivered e h slot content m)

    was : World
    was = record w { delivered = λ x. if x == k then true else w.delivered x }

    gives : GivesPacket setting w k (Some (telling setting.scope m Delivered e h slot content g)) (Ok next)
    gives = subst (λ o. GivesPacket setting w k o (Ok next)) get d

    n : NodeTakes setting was g (Some k) frame (Ok next)
    n = subst (λ b. TakenBy setting was true b g (Some k) frame (Ok next)) (ne_eqb g olympus t.taker)
        (subst (λ b. TakenBy setting was b (g == olympus) g (Some k) frame (Ok next)) t.honest gives)

    by : NodeTakes setting was g (Some k) frame (Ok next) → StandsIn e h slot (HasVote m) (next.nodes g)
    by n =
        let mid = with_take g (Some k) n.done.dropped was in
        let goes = unless_forged_ok setting was g n.done.statement _ (after_node g n.after n.done mid) next n.ends in
        let same = ap (λ (x : World). x.nodes g) (after_node_ok g n.after n.done mid next goes.1) in
        subst (StandsIn e h slot (HasVote m)) (sym (same ∙ put_here w.nodes g n.after))
        (handled_vote setting e h slot content m g w t r n.after n.done n.handles)
