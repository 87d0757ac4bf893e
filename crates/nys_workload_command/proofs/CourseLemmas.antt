-- Drawn events that happen one after another, some of them by now.
use Rattle.std.proofs.Common.{◌≡◌, ℕ, zero, suc, ◌+◌, ◌-◌, ◌<◌, ◌≤◌, Bool, true, false, List, [], ◌∷◌, length, filter, replicate, Ok, Err, refl, ap, sym, subst, ◌∙◌, arith}
use Rattle.std.specs.Prelude.{Result}
use Rattle.std.proofs.lemmas.List.{length-replicate}
use Rattle.nys_rules.specs.Events.{Plain}
use Rattle.nys_rules.specs.Events.Plain.{Flush}
use Rattle.nys_rules.specs.Happening.{Happens, Then}
use Rattle.nys_rules.specs.World.{fresh_world, Setting, World}
use Rattle.nys_rules.specs.declared.notice.End.{End}
use Rattle.nys_rules.specs.declared.notice.End.TheVariants.{Clash, Forged, NoMemory, NoPacket, PoolFull}
use Rattle.nys_source.specs.Rules.{Rules}
use Rattle.nys_workload_command.specs.declared.course.Course.{Course}
use Rattle.nys_world.specs.Outcomes.{Happened}
use Rattle.nys_world.specs.Shows.{setting_of}
use Rattle.nys_world.specs.Worlds.{IsWorldOf}
use Rattle.nys_world.specs.declared.stage.Stage.{Stage}
use Rattle.nys_world.specs.declared.world.World as made
use Rattle.nys_workload.proofs.InputLemmas.{input_counted, one_if}
use Rattle.nys_workload.specs.Drawn.{event_of, first_dice, next_dice}
use Rattle.nys_workload.specs.Inputs.{inputs_in, is_input}
use Rattle.nys_workload.specs.declared.dice.Dice.{Dice}
use Rattle.nys_workload_command.specs.Answered.{dice_at, HappenDrawn, WasDrawn}

-- what so many drawn events come to from the world that is shown at a place on is what all of them come to
pub record GoesOn {S : Type 0} (setting : Setting S) (seed hosts count place : ℕ) (dice : Dice) (Has : World → Type 0) : Type 0 where
  pub world : World
  pub shows : Has world
  pub counted : world.events ≡ place
  pub rest : (events : List Plain) (result : Result World End) → place + length events ≡ count
      → HappenDrawn setting hosts dice place world events result → WasDrawn setting seed hosts count result

-- no event happened
pub goes_first : {S : Type 0} (setting : Setting S) (seed hosts count : ℕ) (Has : World → Type 0) → Has (fresh_world setting)
    → GoesOn setting seed hosts count 0 (first_dice seed) Has
unfolding fresh_world
goes_first setting seed hosts count Has shows = record {
  world = fresh_world setting;
  shows = shows;
  counted = refl;
  rest = λ events result many happen. record { events = events; many = omega (arith, many); happen = happen };
}

-- one event more happened
pub goes_more : {S : Type 0} (setting : Setting S) (seed hosts count place : ℕ) (dice : Dice) (Had Has : World → Type 0)
    (on : GoesOn setting seed hosts count place dice Had) (next : World)
    → Happens setting on.world (event_of hosts dice place (length on.world.pool)) (Ok next) → next.events ≡ on.world.events + 1 → Has next
    → GoesOn setting seed hosts count (place + 1) (next_dice dice) Has
goes_more setting seed hosts count place dice Had Has on next happens one shows = record {
  world = next;
  shows = shows;
  counted = one ∙ ap (λ n. n + 1) on.counted;
  rest = λ events result many happen.
      on.rest (event_of hosts dice place (length on.world.pool) ∷ events) result (omega (arith, many))
      (refl, (Ok next, happens, happen));
}

-- the next event is the end
pub goes_wrong : {S : Type 0} (setting : Setting S) (seed hosts count place : ℕ) (dice : Dice) (Had : World → Type 0)
    (on : GoesOn setting seed hosts count place dice Had) (why : End) → place < count
    → Happens setting on.world (event_of hosts dice place (length on.world.pool)) (Err why) → WasDrawn setting seed hosts count (Err why)
goes_wrong setting seed hosts count place dice Had on why inside happens =
    let left = length-replicate (count - place - 1) Flush in
    on.rest (event_of hosts dice place (length on.world.pool) ∷ replicate (count - place - 1) Flush) (Err why) (omega (arith, inside, left))
    (refl, (Err why, happens, refl))

-- no event is left
pub goes_last : {S : Type 0} (setting : Setting S) (seed hosts count place : ℕ) (dice : Dice) (Had : World → Type 0)
    (on : GoesOn setting seed hosts count place dice Had) → place ≡ count → WasDrawn setting seed hosts count (Ok on.world)
goes_last setting seed hosts count place dice Had on all = on.rest [] (Ok on.world) (omega (arith, all)) refl

-- the generator after one event more
pub dice_next : (dice : Dice) (n : ℕ) → next_dice (dice_at dice n) ≡ dice_at dice (n + 1)
dice_next dice zero = refl
dice_next dice (suc n) =
    let same : suc (n + 1) ≡ suc n + 1 = omega arith in
    dice_next (next_dice dice) n ∙ ap (dice_at dice) same

-- the first event and the others
inputs_more : (event : Plain) (events : List Plain) → inputs_in (event ∷ events) ≡ one_if (is_input event) + inputs_in events
inputs_more event events = go (is_input event) refl
  where
    go : (b : Bool) → is_input event ≡ b → inputs_in (event ∷ events) ≡ one_if (is_input event) + inputs_in events
    go true e = rw e (omega arith)
    go false e = rw e (omega arith)

-- the generator has counted the inputs among events that were drawn up to a world
pub inputs_counted : {S : Type 0} (setting : Setting S) (hosts place : ℕ) (dice : Dice) (w last : World) (events : List Plain)
    → HappenDrawn setting hosts dice place w events (Ok last) → (dice_at dice (length events)).inputs ≡ dice.inputs + inputs_in events
inputs_counted setting hosts place dice w last [] happen = omega arith
inputs_counted {S} setting hosts place dice w last (event ∷ events) happen =
    by happen.1.0 happen.1.2 (λ next rest. inputs_counted setting hosts (place + 1) (next_dice dice) next last events rest)
  where
    by : (mid : Result World End)
        → Then mid (Ok last) (λ next. HappenDrawn setting hosts (next_dice dice) (place + 1) next events (Ok last))
        → ((next : World) → HappenDrawn setting hosts (next_dice dice) (place + 1) next events (Ok last)
        → (dice_at (next_dice dice) (length events)).inputs ≡ (next_dice dice).inputs + inputs_in events)
        → (dice_at dice (length (event ∷ events))).inputs ≡ dice.inputs + inputs_in (event ∷ events)
    by (Ok next) rest others =
        let tail = others next rest in
        let one = input_counted hosts place (length w.pool) dice in
        let here : one_if (is_input event) ≡ one_if (is_input (event_of hosts dice place (length w.pool))) =
        ap (λ e. one_if (is_input e)) happen.0 in
        let more = inputs_more event events in
        omega (arith, tail, one, here, more)
    by (Err end) bad others = let wrong : Ok last ≡ Err end = bad in absurd (cc)

-- what the next event does by the stage of the world before it
abbrev pub DoesNext : {P S : Type 0} → (P → Rules S) → Stage P S → (before : made.World P S) → (hosts place : ℕ) → Dice
    → Result (Course P S) End → Type 0
DoesNext rules stage before hosts place dice result =
    (w : World) → IsWorldOf (rules stage.cx.protocol) before w
    → Happened (λ after. IsWorldOf (rules stage.cx.protocol) after.world)
    (Happens (setting_of (rules stage.cx.protocol) stage) w (event_of hosts dice place (length w.pool))) result

-- an event that is the end
pub wrong_drawn : {S A B : Type 0} (Has : A → World → Type 0) (Was : B → World → Type 0) (setting : Setting S) (seed hosts count place : ℕ) (dice : Dice)
    (Had : World → Type 0) (on : GoesOn setting seed hosts count place dice Had) (why : End) → place < count
    → Happened Has (Happens setting on.world (event_of hosts dice place (length on.world.pool))) (Err why)
    → Happened Was (WasDrawn setting seed hosts count) (Err why)
wrong_drawn Has Was setting seed hosts count place dice Had on (NoPacket event packet have) inside happens =
    goes_wrong setting seed hosts count place dice Had on (NoPacket event packet have) inside happens
wrong_drawn Has Was setting seed hosts count place dice Had on (Forged event maker taker statement) inside happens =
    goes_wrong setting seed hosts count place dice Had on (Forged event maker taker statement) inside happens
wrong_drawn Has Was setting seed hosts count place dice Had on (Clash event maker taker made_one taken) inside happens =
    goes_wrong setting seed hosts count place dice Had on (Clash event maker taker made_one taken) inside happens
wrong_drawn Has Was setting seed hosts count place dice Had on (PoolFull event packets bytes) inside happens =
    goes_wrong setting seed hosts count place dice Had on (PoolFull event packets bytes) inside happens
wrong_drawn Has Was setting seed hosts count place dice Had on NoMemory inside happens = tt
