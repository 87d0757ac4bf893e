-- Four exchanges log a content that is offered in an unspoiled slot, and the first input where no bytes and no stolen tags
-- came before.
use Rattle.std.proofs.Common.{◌≡◌, ℕ, suc, ◌<◌, ◌≤◌, ◌++◌, List, ◌∷◌, ℤ, Ok, refl, sym, subst, arith}
use Rattle.std.specs.Prelude.{All, Contains}
use Rattle.std.proofs.lemmas.List.Elements.{All-append, All-contains, All-cons, All-head, All-tail}
use Rattle.nys_bytes.specs.declared.content.Content.{Content}
use Rattle.nys_bytes.specs.declared.content.Content.TheVariants.{External}
use Rattle.nys_stmt.specs.Ranges.{IsPayload}
use Rattle.nys_rules.specs.Events.{Plain}
use Rattle.nys_rules.specs.Events.Plain.{Ask, Bundle, Bytes, Decide, Deliver, Exchange, Flush, Input, Open, Retire, Say, Steal, Wedge}
use Rattle.nys_rules.specs.Exchanges.{exchanges_in, IsUnspoiled}
use Rattle.nys_rules.specs.Happening.{HappenAll}
use Rattle.nys_rules.specs.Premises.{HasGoodGuards}
use Rattle.nys_rules.specs.World.{fresh_world, is_honest, Setting, World}
use Rattle.nys_follows.specs.Scenario.{IsScenario}
use Rattle.nys_follows.proofs.FeedingWorlds.{hosts_of_scenario}
use Rattle.nys_laws.specs.Own.{HasSaid}
use Rattle.nys_laws.specs.Own.Stage.{Offered}
use Rattle.nys_progress.specs.Carried.{HasTags, IsCarried}
use Rattle.nys_progress.specs.FirstInput.{IsTakenFirst, TakesFirstCalm}
use Rattle.nys_progress.specs.FourExchanges.{HasWholeOrders, KeepsOrdersWhole, LogsUnspoiled}
use Rattle.nys_progress.specs.Relay.{HasNoWedge}
use Rattle.nys_progress.specs.Scheduled.{InEachScheduled, IsCalm, IsClean, IsScheduled}
use Rattle.nys_progress.proofs.CleanWorlds.{spoils_nothing}
use Rattle.nys_progress.proofs.FirstInput.{offering_there, takes_first_input}
use Rattle.nys_progress.proofs.FourLaw.{logged_from}
use Rattle.nys_progress.proofs.GoodOrders.{whole_of}
use Rattle.nys_progress.proofs.LoggedHere.{place_of}
use Rattle.nys_progress.proofs.NodeOrders.{IsAsked}
use Rattle.nys_progress.proofs.OrderLaw.{IsOffering, offering_of, offering_on}
use Rattle.nys_progress.proofs.RelayWorlds.{happen_apart, happen_then}
use Rattle.nys_progress.proofs.UnspoiledWorlds.{orders_good}

-- the orders for an unspoiled slot are whole, where the host is honest and offered a content that can be read
pub keeps_orders_whole : {S : Type 0} (setting : Setting S) → IsScenario setting → HasGoodGuards setting.scope → HasTags setting.scope
    → InEachScheduled setting (KeepsOrdersWhole setting)
keeps_orders_whole setting asked good tags events w all happen e h s content host honest carried offered unspoiled =
    whole_of setting w e h s unspoiled
    (orders_good setting e h s content (record {
      hosts = hosts_of_scenario setting asked;
      good = good;
      tags = tags;
      host = host;
      honest = honest;
      carried = carried;
    }) asked.some events w all happen (record {
      unspoiled = unspoiled;
      one = λ c has. ((place_of setting asked good events w happen).promised.once h).offers e h s c content has offered;
    }))

-- so four exchanges log it
pub logs_unspoiled : {S : Type 0} (setting : Setting S) → IsScenario setting → HasGoodGuards setting.scope → HasTags setting.scope
    → InEachScheduled setting (LogsUnspoiled setting)
logs_unspoiled setting asked good tags first w before happen e h s content carried may events next all comes none four unspoiled g guard =
    let start = offering_of setting asked good tags w (record { events = first; happen = happen }) e h s content carried may g guard in
    let last = offering_on setting e h s content w next events none comes start in
    logged_from setting e h s content w next events start comes none four
    (keeps_orders_whole setting asked good tags (first ++ events) next (All-append (IsScheduled setting) first events before all)
    (happen_then setting (fresh_world setting) w first events (Ok next) happen comes) e h s content last.host last.honest carried last.offered unspoiled)
    g guard

-- a calm event is clean
calm_clean : (event : Plain) → IsCalm event → IsClean event
calm_clean (Input h payload) calm = tt
calm_clean (Deliver k) calm = tt
calm_clean Flush calm = tt
calm_clean Exchange calm = tt
calm_clean (Ask h) calm = tt
calm_clean (Bytes to frame) calm = absurd calm
calm_clean (Say a to st) calm = tt
calm_clean (Bundle a to ks) calm = tt
calm_clean (Steal a to st) calm = absurd calm
calm_clean Wedge calm = absurd calm
calm_clean (Decide h) calm = tt
calm_clean (Retire h) calm = tt
calm_clean Open calm = tt

-- none of calm events ends the epoch
calm_goes_on : (events : List Plain) → All IsCalm events → HasNoWedge events
calm_goes_on events calm among = All-contains IsCalm events Wedge calm among

-- and the first input is taken first
pub takes_first_calm : {S : Type 0} (setting : Setting S) → IsScenario setting → HasGoodGuards setting.scope → HasTags setting.scope
    → 1 ≤ setting.scope.credit 0 → TakesFirstCalm setting
takes_first_calm {S} setting asked good tags credit h payload before rest next honest scheduled calm four happen =
    takes_first_input setting asked good tags credit h payload low honest sound before mid.0 mid.1 none four whole rest next mid.2
  where
    first : IsScheduled setting (Input h payload)
    first = All-head (IsScheduled setting) (Input h payload) before scheduled

    low : h < setting.scope.rules.hosts
    low = first.is.hosts_are

    sound : IsPayload payload
    sound = first.sound

    none : HasNoWedge before
    none = calm_goes_on before calm

    mid : (x : World) × HappenAll setting (fresh_world setting) (Input h payload ∷ before) (Ok x) × HappenAll setting x rest (Ok next)
    mid = happen_apart setting (fresh_world setting) next (Input h payload ∷ before) rest happen

    clean : All IsClean (Input h payload ∷ before)
    clean = All-cons IsClean (Input h payload) before tt (λ i d within. calm_clean _ (calm i d within))

    offering : IsOffering setting 0 h 0 (External payload) mid.0
    offering = offering_there setting asked good tags h payload low honest sound credit before mid.0 mid.1 none

    whole : HasWholeOrders setting mid.0 0 h 0
    whole = keeps_orders_whole setting asked good tags (Input h payload ∷ before) mid.0 scheduled mid.1 0 h 0 (External payload) low honest
        offering.carried offering.offered
        (spoils_nothing setting asked.some asked.hosts (Input h payload ∷ before) mid.0 scheduled clean mid.1 0 h 0)
