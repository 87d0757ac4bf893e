-- From what is computed of a replay to what is said of it.
use Rattle.std.proofs.Common.{◌≡◌, ap, refl, Some, None, List, true}
use Rattle.std.specs.Prelude.{Bool, ℤ, Option, Ok, Err}
use Rattle.nys_rules.specs.declared.notice.End.{End}
use Rattle.nys_rules.specs.Events.{Plain}
use Rattle.nys_rules.specs.World.{fresh_world, Setting, World}
use Rattle.nys_rule_examples.specs.Reached.{Ends, Leads, Replay, shown_at}
use Rattle.nys_rule_examples.proofs.Replays.{Outcome, replay, replay_is}

-- what is seen of an outcome: whether it is sure, and what its world shows, if it goes on
abbrev pub seen : {A : Type 0} → (World → A) → Outcome → Bool × Option A
seen show (sure, Ok w) = (sure, Some (show w))
seen show (sure, Err end) = (sure, None)

-- what an option has, or this
abbrev or_this : {A : Type 0} → A → Option A → A
or_this x None = x
or_this x (Some y) = y

-- an outcome in which something is seen is a world that shows it
pub world_in : {A : Type 0} (show : World → A) (x : Outcome) (a : A) → seen show x ≡ (true, Some a)
    → (x.0 ≡ true) × ((w : World) × (x.1 ≡ Ok w) × (show w ≡ a))
world_in show (sure, Ok w) a q = (ap (λ z. z.0) q, (w, refl, ap (λ z. or_this (show w) z.1) q))
world_in show (sure, Err end) a q = let never = ap (λ z. z.1) q in absurd (cc)

-- the replay, computed, shows what it is said to show
abbrev pub Computes : Replay → Type 0
Computes r =
    seen (shown_at r.setting.scope r.host r.nodes) (replay r.setting r.events (fresh_world r.setting)) ≡ (true, Some r.shown)

-- so it leads there
pub leads : (r : Replay) → Computes r → Leads r
leads r q =
    let x = world_in (shown_at r.setting.scope r.host r.nodes) (replay r.setting r.events (fresh_world r.setting)) r.shown q in
    let happens = replay_is r.setting r.events (fresh_world r.setting) x.0 in
    record { world = x.1.0; happens = rw (← x.1.1) happens; shows = x.1.2 }

-- the events, computed, end so
abbrev pub ComputesEnd : Setting (List ℤ) → List Plain → End → Type 0
ComputesEnd setting events end = replay setting events (fresh_world setting) ≡ (true, Err end)

-- so they do
pub ends : (setting : Setting (List ℤ)) (events : List Plain) (end : End) → ComputesEnd setting events end → Ends setting events end
ends setting events end q =
    let sure = ap (λ z. z.0) q in
    let is : (replay setting events (fresh_world setting)).1 ≡ Err end = ap (λ z. z.1) q in
    let happens = replay_is setting events (fresh_world setting) sure in
    rw (← is) happens
