use Rattle.std.proofs.Common.{◌≡◌, List, [], ◌∷◌, ◌∙◌, ap, arith, length, map, sym, refl, subst}
use Rattle.std.specs.Prelude.{All}
use Rattle.std.specs.Vec.Iter.{into_iter_items}
use Rattle.std.proofs.lemmas.List.Elements.{All-head, All-tail}
use Rattle.nys_hosts.specs.Sets.{has}
use Rattle.nys_rules.specs.declared.event.Event.{Event}
use Rattle.nys_rules.specs.Asked.{IsEvent}
use Rattle.nys_rules.specs.Events.{plain}
use Rattle.nys_rules.specs.Happening.{HappenAll, Happens}
use Rattle.nys_rules.specs.World.{World}
use Rattle.nys_world.specs.Shows.{setting_of, ShowsOn}
use Rattle.nys_world.proofs.EventCounts.{happens_count}
use Rattle.nys_world.proofs.EventRuns.{goes_first, goes_last, goes_more, goes_wrong}
use Rattle.nys_world.proofs.ShownMoments.{ends_by}
use Rattle.nys_world.proofs.moment.Moment.run_all.Goals as goal

-- a list of length 0 is empty
nothing_left : {X : Type 0} (xs : List X) → length xs ≡ 0 → xs ≡ []
nothing_left [] none = refl
nothing_left (x ∷ xs) none = absurd (omega arith)

-- no event happened
pub loop-event-init : goal.loop-event-init
loop-event-init g c =
    let rules = g.P.Protocol.rules c.args.stage.now.cx.protocol in
    let left = into_iter_items c.into_iter-event-iterator.result in
    let same : left ≡ c.args.events.items = c.into_iter-event-iterator.ensures.into_iter_gives.0 in
    let many = ap length same in
    record {
      room = omega (arith, many, c.requires.room);
      events = subst (λ (events : List Event). All (λ event. IsEvent rules.hosts (has c.args.stage.now.liars) (plain event)) events) (sym same) c.requires.events;
      goes = λ w shows. goes_first rules c.args.stage.now w c.args.events.items left c.args.self.now same shows;
    }

-- the moment shows a world
pub step-requires-clause-shown : goal.step-requires-clause-shown
step-requires-clause-shown g c =
    let on = c.loop-event.invariant.goes c.requires.shown.0 c.requires.shown.1 in (on.world, on.shows)

-- an event is left
pub step-requires-clause-room : goal.step-requires-clause-room
step-requires-clause-room g c =
    let left = into_iter_items c.loop-event.event-iterator in
    let first : left ≡ c.in-Some.event ∷ into_iter_items c.next.new.self = c.in-Some.ensures.steps.0 in
    let many = ap length first in
    omega (arith, many, c.loop-event.invariant.room)

-- it may happen
pub step-requires-clause-event : goal.step-requires-clause-event
step-requires-clause-event g c =
    let rules = g.P.Protocol.rules c.args.stage.now.cx.protocol in
    let left = into_iter_items c.loop-event.event-iterator in
    let rest = into_iter_items c.next.new.self in
    let first : left ≡ c.in-Some.event ∷ rest = c.in-Some.ensures.steps.0 in
    All-head (λ event. IsEvent rules.hosts (has c.args.stage.now.liars) (plain event)) c.in-Some.event rest
    (subst (λ (events : List Event). All (λ event. IsEvent rules.hosts (has c.args.stage.now.liars) (plain event)) events) first c.loop-event.invariant.events)

-- it is the end
pub returns-in_err-step : goal.returns-in_err-step
returns-in_err-step g c = λ w shows.
    let rules = g.P.Protocol.rules c.args.stage.now.cx.protocol in
    let stage = c.args.stage.now in
    let setting = setting_of rules stage in
    let left = into_iter_items c.loop-event.event-iterator in
    let rest = into_iter_items c.next.new.self in
    let first : left ≡ c.in-Some.event ∷ rest = c.in-Some.ensures.steps.0 in
    let on = c.loop-event.invariant.goes w shows in
    let Has = λ (_ : Unit {0}) (next : World). ShowsOn rules stage c.step.new.self next in
    ends_by Has Has (Happens setting on.world (plain c.in-Some.event)) (HappenAll setting w (map plain c.args.events.items))
    (λ why happens. goes_wrong rules stage w c.args.events.items left rest c.in-Some.event c.loop-event.self first on why happens)
    c.from_residual.result c.in_err-step.field-0.0 c.from_residual.ensures.1
    (c.in_err-step.ensures on.world on.shows)

-- one event more happened
pub loop-event-preserved : goal.loop-event-preserved
loop-event-preserved g c =
    let rules = g.P.Protocol.rules c.args.stage.now.cx.protocol in
    let setting = setting_of rules c.args.stage.now in
    let left = into_iter_items c.loop-event.event-iterator in
    let rest = into_iter_items c.next.new.self in
    let first : left ≡ c.in-Some.event ∷ rest = c.in-Some.ensures.steps.0 in
    let many = ap length first in
    let on = c.loop-event.invariant.goes c.requires.shown.0 c.requires.shown.1 in
    let after = c.in_ok-step.ensures on.world on.shows in
    let counted = happens_count setting on.world after.0 (plain c.in-Some.event) after.1 in
    record {
      room = omega (arith, many, counted, on.shows.books.events, after.2.books.events, c.loop-event.invariant.room);
      events = All-tail (λ event. IsEvent rules.hosts (has c.args.stage.now.liars) (plain event)) c.in-Some.event rest
          (subst (λ (events : List Event). All (λ event. IsEvent rules.hosts (has c.args.stage.now.liars) (plain event)) events) first c.loop-event.invariant.events);
      goes = λ w shows.
          let now = c.loop-event.invariant.goes w shows in
          let later = c.in_ok-step.ensures now.world now.shows in
          goes_more rules c.args.stage.now w c.args.events.items left rest c.in-Some.event c.loop-event.self c.step.new.self first now later.0 later.1 later.2;
    }

-- no event is left
pub returns : goal.returns
returns g c = λ w shows.
    let rules = g.P.Protocol.rules c.args.stage.now.cx.protocol in
    let left = into_iter_items c.loop-event.event-iterator in
    let none : left ≡ [] = nothing_left left (sym c.loop-event.event-iterator.rest.ok.0 ∙ c.in-None.ensures.steps.0) in
    let on = c.loop-event.invariant.goes w shows in
    (on.world, goes_last rules c.args.stage.now w c.args.events.items left c.loop-event.self none on, on.shows)
