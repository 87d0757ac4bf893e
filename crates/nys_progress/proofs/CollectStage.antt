-- The second exchange after an honest host's offer: the host collects the orders of all honest guards.
use Rattle.std.proofs.Common.{◌≡◌, ◌≢◌, ℕ, ◌<◌, ◌==◌, Bool, true, false, [], ◌∷◌, length, Some, None, ap, sym, subst, ◌∙◌, inl, inr, arith}
use Rattle.std.specs.Prelude.{if◌then◌else◌, Option}
use Rattle.std.specs.Option.{option_or}
use Rattle.std.proofs.lemmas.Bool.Decides.{Decides-eqb}
use Rattle.nys_agreement.proofs.TableLemmas.{put_here}
use Rattle.nys_bytes.specs.declared.content.Content.{Content}
use Rattle.nys_votes.specs.Seats.{with_seat}
use Rattle.nys_stmt.specs.Records.{record_spelling}
use Rattle.nys_stmt.specs.declared.tags.Tags.{Tags}
use Rattle.nys_rules.specs.declared.cause.DropCause.{DropCause}
use Rattle.nys_rules.specs.Dropping.{accepted, misplaced, untagged, verdict}
use Rattle.nys_rules.specs.Noting.{at_desk, collected, is_content, noted, with_certificate, with_orders}
use Rattle.nys_rules.specs.Scope.{olympus, quorum_at, Scope}
use Rattle.nys_rules.specs.Sending.{own_record, said_in}
use Rattle.nys_rules.specs.View.{is_live, is_open, length_of, View}
use Rattle.nys_rules.specs.World.{is_honest, Setting, World}
use Rattle.nys_rules.proofs.SeatCases.{with_seat_takes}
use Rattle.nys_laws.specs.Own.{body_at, HasSaid}
use Rattle.nys_laws.specs.Own.Stage.{Offered, Ordered}
use Rattle.nys_progress.proofs.BroughtRecords.{Marks}
use Rattle.nys_progress.proofs.CollectedDesks.{is_offer}
use Rattle.nys_progress.proofs.MarkedDesks.{seat_there}
use Rattle.nys_progress.proofs.OrderMarks.{HasOrder, order_kept}
use Rattle.nys_progress.proofs.ReadRecords.{IsTold, told_accepted, told_read, told_record, told_tags}
use Rattle.nys_progress.proofs.TakenVotes.{IsReady, live_by, not_wedged, open_by, vote_passes}

-- what is asked where an order is taken: the taker is the host, and the maker is another guard
pub record IsOrderFor {S : Type 0} (setting : Setting S) (e h slot : ℕ) (content : Content) (m : ℕ) : Type 0 where
  pub told : IsTold setting.scope Ordered e h slot content m h
  pub guards : setting.scope.guards e h m ≡ true
  pub honest : is_honest setting h ≡ true
  pub taker : h ≢ olympus

-- the record is collected where the slot is the one behind the log
order_noted : {S : Type 0} (setting : Setting S) (e h slot : ℕ) (content : Content) (m : ℕ) (w : World)
    → IsOrderFor setting e h slot content m → IsReady setting e h slot h w → HasSaid w.ledger h Offered e h slot content
    → (w.nodes h).epoch ≡ e → length_of (w.nodes h) h ≡ slot
    → (verdict setting.scope (w.nodes h) (told_record setting.scope Ordered e h slot content m) ≡ None)
    × HasOrder m ((noted setting.scope (w.nodes h) (told_record setting.scope Ordered e h slot content m)).desks h)
unfolding verdict misplaced noted own_record with_orders
order_noted {S} setting e h slot content m w t r said now at = (passes, has)
  where
    v : View
    v = w.nodes h

    scope : Scope S
    scope = setting.scope

    me : v.me ≡ h
    me = r.votes.sound.own.host

    one : Tags
    one = record { maker = m; tags = told_tags scope Ordered e h slot content m }

    makers : accepted scope e v.me (told_record scope Ordered e h slot content m) ≡ one ∷ []
    makers = subst (λ x. accepted scope e x (told_record scope Ordered e h slot content m) ≡ one ∷ []) (sym me)
        (told_accepted scope Ordered e h slot content m h t.told t.guards)

    active : v.wedged ≡ false
    active = not_wedged setting e h w r.on t.taker now

    live : is_live scope v h ≡ true
    live = live_by scope v h t.told.host
        (subst (λ n. scope.guards n h v.me ≡ true) (sym now) (subst (λ x. scope.guards e h x ≡ true) (sym me) t.told.taker))
        (r.here.here now).lives

    opened : is_open scope v h ≡ true
    opened = let low = (r.here.here now).above in let room = t.told.room in
        open_by scope v h live active (omega (arith, low, at)) (omega (arith, room, at))

    passes : verdict scope v (told_record scope Ordered e h slot content m) ≡ None
    passes =
        ap (λ (o : Option DropCause). option_or o (untagged (accepted scope e v.me (told_record scope Ordered e h slot content m))))
        (vote_passes scope v e h slot now active live opened at)
        ∙ ap untagged makers

    offered : (v.desks h).offered ≡ Some content
    offered = elim (r.votes.sound.own.own.said Offered h slot content
        (subst (λ n. HasSaid w.ledger h Offered n h slot content) (sym now) said)) [
          | inl past ↦ absurd (omega (arith, past, at))
          | inr kept ↦ kept.1
        ]

    low : m < length (v.desks h).orders
    low = let seats = (r.votes.sound.seats.desks h).orders in let host = t.told.maker in let few = t.told.hosts.few in
        omega (arith, seats, host, few)

    kept : (v.me == h) ≡ true
    kept = (Decides-eqb v.me h).1 me

    desk_is : (b : Bool) → b ≡ true
        → (if b then at_desk h (with_orders content (accepted scope e v.me (told_record scope Ordered e h slot content m))) v
        else at_desk h (with_certificate (quorum_at scope v.epoch h) content (accepted scope e v.me (told_record scope Ordered e h slot content m))) v).desks h
        ≡ with_orders content (one ∷ []) (v.desks h)
    desk_is true is =
        put_here v.desks h (with_orders content (accepted scope e v.me (told_record scope Ordered e h slot content m)) (v.desks h))
        ∙ ap (λ ms. with_orders content ms (v.desks h)) makers
    desk_is false is = absurd (cc)

    taken : (b : Bool) → b ≡ true
        → HasOrder m (if b then record (v.desks h) { orders = collected (one ∷ []) (v.desks h).orders } else v.desks h)
    taken true is = seat_there (with_seat m one.tags (v.desks h).orders) m (with_seat_takes m one.tags (v.desks h).orders low)
    taken false is = absurd (cc)

    has : HasOrder m ((noted scope v (told_record scope Ordered e h slot content m)).desks h)
    has = subst (HasOrder m) (sym (desk_is (v.me == h) kept))
        (taken (is_content (v.desks h).offered content) (is_offer (v.desks h).offered content offered))

-- so its packet marks the host's desk
pub order_marks : {S : Type 0} (setting : Setting S) (e h slot : ℕ) (content : Content) (m : ℕ) → IsOrderFor setting e h slot content m
    → Marks setting e h slot h (HasOrder m) (record_spelling (told_record setting.scope Ordered e h slot content m))
    (told_record setting.scope Ordered e h slot content m) h (said_in e (body_at Offered h slot content))
order_marks setting e h slot content m t = record {
  kept = order_kept m;
  reads = told_read setting.scope Ordered e h slot content m h t.told;
  notes = λ w ready has now at. order_noted setting e h slot content m w t ready has now at;
}
