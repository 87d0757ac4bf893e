-- No step of the run of a world is a stop.
use Rattle.std.proofs.Common.{◌≢◌, ℕ, ◌+◌, Bool, true, false, List, [], ◌∷◌, ◌++◌, Some, None, refl}
use Rattle.std.specs.Prelude.{All, Option, if◌then◌else◌, nat_lt, slice_get}
use Rattle.std.proofs.lemmas.List.Elements.{All-contains, All-nil, All-push}
use Rattle.nys_agreement.specs.Alone.{step_of}
use Rattle.nys_bytes.specs.declared.content.Content.{Content}
use Rattle.nys_bytes.specs.declared.content.Content.TheVariants.{External, Message}
use Rattle.nys_laws.specs.Worlds.{InEachWorld}
use Rattle.nys_laws.proofs.EventKeeping.{each_world_fact, WorldsKeep}
use Rattle.nys_rules.specs.Asking.{questions}
use Rattle.nys_rules.specs.Handling.{acts_by}
use Rattle.nys_rules.specs.Noting.{noted}
use Rattle.nys_rules.specs.Taking.{acts_of, taken}
use Rattle.nys_rules.specs.View.{View}
use Rattle.nys_rules.specs.World.{fresh_world, Setting, with_decided, with_grown, with_slot, World}
use Rattle.nys_source.specs.Tables.{put}
use Rattle.nys_source.specs.declared.step.Step.{Step}
use Rattle.nys_source.specs.declared.step.Step.TheVariants.{Stop}
use Rattle.nys_told.specs.Told.{StopsNobody}

-- the step is no stop
pub record IsNoStop (step : Step) : Type 0 where
  pub other : (h : ℕ) → step ≢ Stop h

-- what a content adds is none
content_goes : (h : ℕ) (c : Content) → IsNoStop (step_of h c)
content_goes h (External payload) = record { other = λ x e. absurd (cc) }
content_goes h (Message p k payload) = record { other = λ x e. absurd (cc) }

-- nor what an entry adds
slot_goes : (h slot : ℕ) (entry : Option Content) (w : World) → All IsNoStop w.run → All IsNoStop (with_slot h slot entry w).run
slot_goes h slot None w all = all
slot_goes h slot (Some c) w all = by (nat_lt slot (w.longest h))
  where
    by : (b : Bool) → All IsNoStop (if b then w else record w { longest = put w.longest h (slot + 1); run = w.run ++ step_of h c ∷ [] }).run
    by true = all
    by false = All-push IsNoStop w.run (step_of h c) all (content_goes h c)

-- nor what a node logs
grown_goes : (v : View) (grew : List (ℕ × ℕ)) (w : World) → All IsNoStop w.run → All IsNoStop (with_grown v grew w).run
grown_goes v [] w all = all
grown_goes v (x ∷ grew) w all =
    let entry = slice_get (v.logs x.0) x.1 in
    grown_goes v grew (with_slot x.0 x.1 entry w) (slot_goes x.0 x.1 entry w all)

-- nor what the Olympus decides
decided_goes : (h slot : ℕ) (contents : List Content) (w : World) → All IsNoStop w.run
    → All IsNoStop (with_decided h slot contents w).run
decided_goes h slot [] w all = all
decided_goes h slot (c ∷ contents) w all =
    decided_goes h (slot + 1) contents (with_slot h slot (Some c) w) (slot_goes h slot (Some c) w all)

-- each elementary step keeps it
goes_on : {S : Type 0} (setting : Setting S) → WorldsKeep setting (λ w. All IsNoStop w.run)
goes_on setting = record {
  rules = λ w g v rule acting is all. grown_goes (taken setting.scope v rule) (acts_of setting.scope v rule).grew w all;
  records = λ w g v r acting host is some all. grown_goes (noted setting.scope v r) (acts_by setting.scope v r).grew w all;
  inputs = λ w g v payload may acting room all. all;
  asking = λ w g v acting all. grown_goes v (questions setting.scope v).grew w all;
  hears = λ w r is some all. all;
  wedges = λ w is all. all;
  decides = λ w h after answer decides all. decided_goes h 0 (after.decided h) (record w { olympus = after }) all;
  retires = λ w h is all. all;
  epochs = λ w epoch is all. all;
  packets = λ w event packets brings all. all;
  told = λ w events delivered injected takes notes all. all;
}

-- nothing is run at first
first_goes : {S : Type 0} (setting : Setting S) → All IsNoStop (fresh_world setting).run
unfolding fresh_world
first_goes setting = All-nil IsNoStop

-- so no host stops in it
pub stop_nobody : {S : Type 0} (setting : Setting S) → InEachWorld setting StopsNobody
stop_nobody setting events w happen h stops =
    (All-contains IsNoStop w.run (Stop h)
    (each_world_fact setting (λ x. All IsNoStop x.run) (first_goes setting) (goes_on setting) events w happen) stops).other h refl
