-- The first exchange after an honest host's offer of an input: each honest guard orders it, or its log is past the slot.
use Rattle.std.proofs.Common.{◌≡◌, ◌≢◌, ℕ, ◌+◌, ◌==◌, true, false, List, [], ◌∷◌, Some, None, Ok, Err, refl, ap, sym, subst, ◌∙◌, inl, inr, arith}
use Rattle.std.specs.Prelude.{Contains, if◌then◌else◌, Option, Result, slice_get}
use Rattle.std.specs.Option.{option_or}
use Rattle.std.proofs.lemmas.Bool.{ne_eqb}
use Rattle.std.proofs.lemmas.Bool.Decides.{Decides-eqb}
use Rattle.nys_agreement.proofs.TableLemmas.{put_here}
use Rattle.nys_bytes.specs.declared.content.Content.{Content}
use Rattle.nys_stmt.specs.Records.{record_spelling}
use Rattle.nys_stmt.specs.declared.records.Record.{Record}
use Rattle.nys_stmt.specs.declared.tags.Tags.{Tags}
use Rattle.nys_rules.specs.declared.cause.DropCause.{DropCause}
use Rattle.nys_rules.specs.declared.notice.End.{End}
use Rattle.nys_rules.specs.declared.rule.Rule.{Rule}
use Rattle.nys_rules.specs.Dropping.{accepted, misplaced, untagged, verdict}
use Rattle.nys_rules.specs.Events.Plain.{Exchange}
use Rattle.nys_rules.specs.Handling.{AnswersTo, Handles, HandlesReading}
use Rattle.nys_rules.specs.Happening.{counted, Delivers, Does, GivesPacket, Happens, honest_packets, NodeTakes, TakenBy, with_take}
use Rattle.nys_rules.specs.Noting.{noted, with_held}
use Rattle.nys_rules.specs.Packets.{Done, Sent}
use Rattle.nys_rules.specs.Rules.{due}
use Rattle.nys_rules.specs.Scope.{olympus, Scope}
use Rattle.nys_rules.specs.Sending.{own_record}
use Rattle.nys_rules.specs.Taking.{taken}
use Rattle.nys_rules.specs.View.{is_live, is_open, length_of, View}
use Rattle.nys_rules.specs.World.{after_node, is_honest, Setting, World}
use Rattle.nys_rules.proofs.KeepLemmas.{handles_keep, settles_into_keep}
use Rattle.nys_rules.proofs.WorldFrames.{after_node_ok, unless_forged_ok}
use Rattle.nys_laws.specs.SetUp.{IsSetUp}
use Rattle.nys_laws.specs.Own.Stage.{Offered}
use Rattle.nys_laws.proofs.WorldKeeping.{HoldsOfNodes}
use Rattle.nys_progress.specs.Sent.{telling}
use Rattle.nys_progress.proofs.Exchanging.{deliver_going, deliver_nodes, IsGoingOn, packet_given, place_in, taken_among}
use Rattle.nys_progress.proofs.HeldOffers.{HasHeld, held_kept}
use Rattle.nys_progress.proofs.HostMoves.{record_moves, rule_moves}
use Rattle.nys_progress.proofs.MarkedDesks.{KeepsVotes, Stands, stands_moves, stands_steps, StandsAt, StandsIn, vote_steps}
use Rattle.nys_progress.proofs.ReadRecords.{IsTold, told_accepted, told_read, told_record, told_tags}
use Rattle.nys_progress.proofs.TakenVotes.{in_epoch, IsReady, live_by, NoMark, none_kept, not_wedged, open_by, other_mark, vote_passes}

-- what is asked where an offer is taken: the maker is the host, and the taker is an honest guard
pub record IsOfferFor {S : Type 0} (setting : Setting S) (e h slot : ℕ) (content : Content) (g : ℕ) : Type 0 where
  pub told : IsTold setting.scope Offered e h slot content h g
  pub honest : is_honest setting g ≡ true
  pub taker : g ≢ olympus

-- the record isn't dropped where the slot is the one behind the log
offer_noted : {S : Type 0} (setting : Setting S) (e h slot : ℕ) (content : Content) (g : ℕ) (w : World)
    → IsOfferFor setting e h slot content g → IsReady setting e h slot g w → (now : (w.nodes g).epoch ≡ e)
    → length_of (w.nodes g) h ≡ slot
    → (verdict setting.scope (w.nodes g) (told_record setting.scope Offered e h slot content h) ≡ None)
    × HasHeld ((noted setting.scope (w.nodes g) (told_record setting.scope Offered e h slot content h)).desks h)
unfolding verdict misplaced noted own_record with_held
offer_noted {S} setting e h slot content g w t r now at = (passes, has)
  where
    v : View
    v = w.nodes g

    scope : Scope S
    scope = setting.scope

    me : v.me ≡ g
    me = r.votes.sound.own.host

    one : Tags
    one = record { maker = h; tags = told_tags scope Offered e h slot content h }

    makers : accepted scope e v.me (told_record scope Offered e h slot content h) ≡ one ∷ []
    makers = subst (λ x. accepted scope e x (told_record scope Offered e h slot content h) ≡ one ∷ []) (sym me)
        (told_accepted scope Offered e h slot content h g t.told ((Decides-eqb h h).1 refl))

    active : v.wedged ≡ false
    active = not_wedged setting e g w r.on t.taker now

    live : is_live scope v h ≡ true
    live = live_by scope v h t.told.host
        (subst (λ n. scope.guards n h v.me ≡ true) (sym now) (subst (λ x. scope.guards e h x ≡ true) (sym me) t.told.taker))
        (r.here.here now).lives

    opened : is_open scope v h ≡ true
    opened = let low = (r.here.here now).above in let room = t.told.room in
        open_by scope v h live active (omega (arith, low, at)) (omega (arith, room, at))

    passes : verdict scope v (told_record scope Offered e h slot content h) ≡ None
    passes =
        ap (λ (o : Option DropCause). option_or o (untagged (accepted scope e v.me (told_record scope Offered e h slot content h))))
        (vote_passes scope v e h slot now active live opened at)
        ∙ ap untagged makers

    has : HasHeld ((noted scope v (told_record scope Offered e h slot content h)).desks h)
    has = subst HasHeld (sym (put_here v.desks h (with_held content (v.desks h)))) (content, refl)

-- so bytes with it leave an offer held
handled_offer : {S : Type 0} (setting : Setting S) (e h slot : ℕ) (content : Content) (g : ℕ) (w : World)
    → IsOfferFor setting e h slot content g → IsReady setting e h slot g w → (after : View) (done : Done)
    → Handles setting.scope (w.nodes g) (record_spelling (told_record setting.scope Offered e h slot content h)) after done
    → StandsIn e h slot HasHeld after
handled_offer {S} setting e h slot content g w t r after done handles = by (r.here.here now).stands
  where
    v : View
    v = w.nodes g

    scope : Scope S
    scope = setting.scope

    told : Record
    told = told_record scope Offered e h slot content h

    now : v.epoch ≡ e
    now = in_epoch setting e g w r.on t.taker r.here.rises

    answers : AnswersTo scope v told (verdict scope v told) after done
    answers = subst (λ x. HandlesReading scope v x after done) (told_read scope Offered e h slot content h g t.told) handles

    rules : (x : View) (rule : Rule) → due scope x ≡ Some rule → StandsIn e h slot HasHeld x
        → StandsIn e h slot HasHeld (taken scope x rule)
    rules x rule is k = stands_moves e h slot HasHeld held_kept x _ (rule_moves scope x rule h) k

    records : (x : View) (y : Record) → verdict scope x y ≡ None → StandsIn e h slot HasHeld x
        → StandsIn e h slot HasHeld (noted scope x y)
    records x y is k = stands_moves e h slot HasHeld held_kept x _ (record_moves scope x y h is) k

    by : Stands h slot NoMark v → StandsIn e h slot HasHeld after
    by (inl past) = handles_keep scope (StandsIn e h slot HasHeld) rules records v after _ done handles
        (other_mark e h slot NoMark HasHeld v r.here (λ is at mark. absurd (omega (arith, past, at))))
    by (inr at) =
        let kept = offer_noted setting e h slot content g w t r now at.0 in
        let notes : AnswersTo scope v told None after done = subst (λ x. AnswersTo scope v told x after done) kept.0 answers in
        settles_into_keep scope (StandsIn e h slot HasHeld) rules (noted scope v told) after notes.rest notes.settles
        (other_mark e h slot NoMark HasHeld (noted scope v told)
        (stands_moves e h slot NoMark none_kept v _ (record_moves scope v told h kept.0) r.here)
        (λ is there mark. kept.1))

-- a packet with it, given to the guard
offer_taken : {S : Type 0} (setting : Setting S) (e h slot : ℕ) (content : Content) (g : ℕ) (w next : World) (k : ℕ)
    → IsOfferFor setting e h slot content g → IsReady setting e h slot g w → Delivers setting w k (Ok next)
    → slice_get w.pool k ≡ Some (telling setting.scope h Offered e h slot content g)
    → StandsIn e h slot HasHeld (next.nodes g)
offer_taken {S} setting e h slot content g w next k t r d get = by n
  where
    frame : List ℕ
    frame = record_spelling (told_record setting.scope Offered e h slot content h)

    was : World
    was = record w { delivered = λ x. if x == k then true else w.delivered x }

    gives : GivesPacket setting w k (Some (telling setting.scope h Offered e h slot content g)) (Ok next)
    gives = subst (λ o. GivesPacket setting w k o (Ok next)) get d

    n : NodeTakes setting was g (Some k) frame (Ok next)
    n = subst (λ b. TakenBy setting was true b g (Some k) frame (Ok next)) (ne_eqb g olympus t.taker)
        (subst (λ b. TakenBy setting was b (g == olympus) g (Some k) frame (Ok next)) t.honest gives)

    by : NodeTakes setting was g (Some k) frame (Ok next) → StandsIn e h slot HasHeld (next.nodes g)
    by n =
        let mid = with_take g (Some k) n.done.dropped was in
        let goes = unless_forged_ok setting was g n.done.statement _ (after_node g n.after n.done mid) next n.ends in
        let same = ap (λ (x : World). x.nodes g) (after_node_ok g n.after n.done mid next goes.1) in
        subst (StandsIn e h slot HasHeld) (sym (same ∙ put_here w.nodes g n.after))
        (handled_offer setting e h slot content g w t r n.after n.done n.handles)

-- ---- an exchange

-- what each packet of an exchange keeps
record Reads {S : Type 0} (setting : Setting S) (e h slot g : ℕ) (w : World) : Type 0 where
  on : IsGoingOn setting e w
  votes : HoldsOfNodes (KeepsVotes setting) w
  here : HoldsOfNodes (StandsAt g e h slot NoMark) w

-- what is asked where an exchange brings an offer to a guard
pub record IsBrought {S : Type 0} (setting : Setting S) (e h slot : ℕ) (content : Content) (g : ℕ) (w : World) : Type 0 where
  pub offer : IsOfferFor setting e h slot content g
  pub asked : IsSetUp setting.scope
  pub host : is_honest setting h ≡ true
  pub on : IsGoingOn setting e w
  pub votes : HoldsOfNodes (KeepsVotes setting) w
  pub here : StandsIn e h slot NoMark (w.nodes g)
  pub sent : Contains w.pool (telling setting.scope h Offered e h slot content g)

-- then the guard holds an offer
pub offer_exchanged : {S : Type 0} (setting : Setting S) (e h slot : ℕ) (content : Content) (g : ℕ) (w next : World)
    → IsBrought setting e h slot content g w → Happens setting w Exchange (Ok next)
    → StandsIn e h slot HasHeld (next.nodes g)
offer_exchanged {S} setting e h slot content g w next b happens = by happens.mid happens.does happens.result_is
  where
    p : Sent
    p = telling setting.scope h Offered e h slot content g

    sent : (k : ℕ) × (slice_get w.pool k ≡ Some p)
    sent = place_in w.pool p b.sent

    first : Reads setting e h slot g w
    first = record { on = b.on; votes = b.votes; here = λ x ne same. subst (λ y. StandsIn e h slot NoMark (w.nodes y)) (sym same) b.here }

    ready : (x y : World) (n : ℕ) → Delivers setting x n (Ok y) → Reads setting e h slot g x
        → Reads setting e h slot g y
    ready x y n d k = record {
      on = deliver_going setting b.asked e x y n d k.on;
      votes = deliver_nodes setting (KeepsVotes setting) (vote_steps setting b.asked.hosts) x y n d k.votes;
      here = deliver_nodes setting (StandsAt g e h slot NoMark) (stands_steps setting g e h slot NoMark none_kept) x y n d k.here;
    }

    Marked : World → Type 0
    Marked x = HoldsOfNodes (StandsAt g e h slot HasHeld) x

    marked : (x y : World) (n : ℕ) → Delivers setting x n (Ok y) → Marked x → Marked y
    marked x y n d k = deliver_nodes setting (StandsAt g e h slot HasHeld) (stands_steps setting g e h slot HasHeld held_kept) x y n d k

    brings : (x y : World) → Delivers setting x sent.0 (Ok y) → slice_get x.pool sent.0 ≡ Some p
        → Reads setting e h slot g x → Marked y
    brings x y d get k z ne same =
        subst (λ a. StandsIn e h slot HasHeld (y.nodes a)) (sym same)
        (offer_taken setting e h slot content g x y sent.0 b.offer
        (record { on = k.on; votes = k.votes g b.offer.taker; here = k.here g b.offer.taker refl }) d get)

    by : (mid : Result World End) → Does setting w Exchange mid → Ok next ≡ counted mid
        → StandsIn e h slot HasHeld (next.nodes g)
    by (Err end) does is = absurd (cc)
    by (Ok after) does is =
        let same : next ≡ record after { events = after.events + 1 } = cc in
        let all = taken_among setting (Reads setting e h slot g) Marked sent.0 p ready marked brings w after (honest_packets setting w) does
        (packet_given setting w sent.0 p sent.1 b.host b.offer.honest) sent.1 first in
        subst (λ (x : World). StandsIn e h slot HasHeld (x.nodes g)) (sym same) (all g b.offer.taker refl)
