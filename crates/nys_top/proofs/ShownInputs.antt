-- Whatever the input, what `bare`, `replay` and `trace` show of routes and of what is multicast.
use Rattle.std.proofs.Common.{◌≡◌, ℕ, zero, suc, ◌+◌, ◌<◌, Bool, true, false, if◌then◌else◌, List, [], ◌∷◌, ◌++◌, length, fold, Option, Some, None, Result, Ok, Err, refl, sym, ap, ◌∙◌, subst}
use Rattle.std.specs.Prelude.{is_none, nat_lt, slice_get}
use Rattle.nys_agreement.specs.Alone.{alone}
use Rattle.nys_bare.specs.Schedule.{bare_schedule}
use Rattle.nys_bare.specs.declared.event.BareEvent.{BareEvent}
use Rattle.nys_bare.specs.declared.event.BareEvent.TheVariants as bare
use Rattle.nys_follows.specs.Promises.{IsPromised}
use Rattle.nys_graph.specs.Links.{IsGraph}
use Rattle.nys_route.proofs.RouteSteps.{routes_runs}
use Rattle.nys_route.proofs.TreeLemmas.{multicasts_runs}
use Rattle.nys_route.specs.Multicast.{IsMulticast}
use Rattle.nys_route.specs.Routed.{IsRouted}
use Rattle.nys_route.specs.Routes.{route_rules, way_to}
use Rattle.nys_route.specs.Trees.{tree_rules}
use Rattle.nys_route.specs.Walks.{HasWalk}
use Rattle.nys_route.specs.declared.way.TheConstants.{UNKNOWN}
use Rattle.nys_route.specs.declared.way.Way.{Way}
use Rattle.nys_rules.specs.Spelling.{HasLog, printed_run, SpellsLogs}
use Rattle.nys_rules.specs.World.{Setting, World}
use Rattle.nys_scenario.proofs.Bounded.{bounded}
use Rattle.nys_scenario.proofs.Shapes.{document_shape}
use Rattle.nys_scenario.specs.Bounds.{HasRoot, IsBounded}
use Rattle.nys_scenario.specs.Document.{Said, answer_to}
use Rattle.nys_scenario.specs.Keys.{Refusal}
use Rattle.nys_scenario.specs.Protocol.{Protocol}
use Rattle.nys_scenario.specs.Protocol.Protocol.{Sum, Flood, Route, Tree, Machine}
use Rattle.nys_source.specs.Rules.{Rules}
use Rattle.nys_source.specs.Runs.{after_run, IsRun, IsRunFrom, takes_payload, up_to}
use Rattle.nys_source.specs.Source.{fresh, Source}
use Rattle.nys_source.specs.Steps.{after_step, refusal}
use Rattle.nys_source.specs.declared.step.NotAStep.{NotAStep}
use Rattle.nys_source.specs.declared.step.Step.{Step}
use Rattle.nys_source.specs.declared.step.Step.TheVariants as step
use Rattle.nys_source_commands.specs.BareRun.{bare_run, receive_of, run_after, run_delivered, run_from, run_with, within_limit}
use Rattle.nys_source_commands.specs.declared.bare_run.BareEnd.{BareEnd}
use Rattle.nys_source_commands.specs.declared.bare_run.BareEnd.TheVariants as end
use Rattle.nys_source_commands.specs.declared.bare_run.TheConstants.{MAX_MESSAGES}
use Rattle.nys_words.specs.declared.command.Command.TheVariants as command
use Rattle.nys_world_commands.specs.Promised.{IsReplayPromised}
use Rattle.nys_top.proofs.PromisedInputs.{input_promised}
use Rattle.nys_top.specs.Commands.{needs_of}
use Rattle.nys_top.specs.Promised.{IsPromisedDocument, IsPromisedInput, IsPromisedOf}
use Rattle.nys_top.specs.Routes.{BareHolds, IsBareDocument, IsBareShown, IsReplayDocument, IsReplayShown, IsShownInput, RunsHold, ShowsWalks, WorldsHold}

-- ---- parts of runs

-- the front of a run up to a taking is a run
front_from : {S : Type 0} (rules : Rules S) (h m : ℕ) (steps : List Step) (now : Source S) → IsRunFrom rules now steps → IsRunFrom rules now (up_to h m steps)
front_from rules h zero steps now run = tt
front_from rules h (suc m) [] now run = tt
front_from rules h (suc m) (step ∷ steps) now run =
    (run.0, front_from rules h (if takes_payload h step then m else suc m) steps (after_step rules now step) run.1)

-- one step more behind a run that may be taken there
run_more : {S : Type 0} (rules : Rules S) (steps : List Step) (step : Step) (now : Source S) → IsRunFrom rules now steps
    → refusal rules (fold (after_step rules) now steps) step ≡ None → IsRunFrom rules now (steps ++ step ∷ [])
run_more rules [] step now run allowed = (allowed, tt)
run_more rules (first ∷ steps) step now run allowed = (run.0, run_more rules steps step (after_step rules now first) run.1 allowed)

-- ---- the bare run

-- a step is behind the run only where it may be taken
with_is : {S : Type 0} (rules : Rules S) (run : List Step) (step : Step) → IsRun rules run → IsRun rules (run_with rules run step)
with_is rules run step is = go (refusal rules (after_run rules run) step) refl
  where
    go : (o : Option NotAStep) → refusal rules (after_run rules run) step ≡ o → IsRun rules (if is_none o then run ++ step ∷ [] else run)
    go None allowed = run_more rules run step (fresh rules) is allowed
    go (Some why) refused = is

-- within the limit it is the run
limit_is : {S : Type 0} (rules : Rules S) (run after : List Step) → within_limit rules run ≡ Ok after → run ≡ after
unfolding within_limit
limit_is rules run after e = go (nat_lt MAX_MESSAGES (length (after_run rules run).messages)) e
  where
    go : (b : Bool) → (if b then Err end.TooMany else Ok run) ≡ Ok after → run ≡ after
    go true h = cc
    go false h = cc

-- so is that after an event
step_is : {S : Type 0} (rules : Rules S) (run : List Step) (next : Step) (after : List Step) → IsRun rules run
    → within_limit rules (run_with rules run next) ≡ Ok after → IsRun rules after
step_is rules run next after is e =
    subst (IsRun rules) (limit_is rules (run_with rules run next) after e) (with_is rules run next is)

delivered_is : {S : Type 0} (rules : Rules S) (event : ℕ) (run : List Step) (k : ℕ) (o : Option Step) (after : List Step) → IsRun rules run
    → run_delivered rules event run k o ≡ Ok after → IsRun rules after
delivered_is rules event run k None after is e = cc
delivered_is rules event run k (Some receive) after is e = step_is rules run receive after is e

event_is : {S : Type 0} (rules : Rules S) (at : ℕ) (run : List Step) (event : BareEvent) (after : List Step) → IsRun rules run
    → run_after rules at run event ≡ Ok after → IsRun rules after
event_is rules at run (bare.Input h payload) after is e = step_is rules run (step.Input h payload) after is e
event_is rules at run (bare.Deliver k) after is e =
    delivered_is rules at run k (receive_of (after_run rules run).messages k (slice_get (after_run rules run).messages k)) after is e
event_is rules at run (bare.Stop h) after is e = step_is rules run (step.Stop h) after is e

-- nothing comes after an end
ended : {S : Type 0} (rules : Rules S) (at : ℕ) (events : List BareEvent) (why : BareEnd) (after : List Step)
    → run_from rules at (Err why) events ≡ Ok after → ⊥
ended rules at [] why after e = cc
ended rules at (event ∷ events) why after e = cc

-- and after all
events_are : {S : Type 0} (rules : Rules S) (at : ℕ) (events : List BareEvent) (run after : List Step) → IsRun rules run
    → run_from rules at (Ok run) events ≡ Ok after → IsRun rules after
events_are rules at [] run after is e = let same : run ≡ after = cc in subst (IsRun rules) same is
events_are rules at (event ∷ events) run after is e =
    go (λ next given h. events_are rules (at + 1) events next after given h) (run_after rules at run event) refl e
  where
    go : ((next : List Step) → IsRun rules next → run_from rules (at + 1) (Ok next) events ≡ Ok after → IsRun rules after)
        → (r : Result (List Step) BareEnd) → run_after rules at run event ≡ r → run_from rules (at + 1) r events ≡ Ok after → IsRun rules after
    go rest (Err why) found h = absurd (ended rules (at + 1) events why after h)
    go rest (Ok next) found h = rest next (event_is rules at run event next is found) h

-- the bare run is a run
pub bare_is_run : {S : Type 0} (rules : Rules S) (events : List BareEvent) (run : List Step) → bare_run rules events ≡ Ok run → IsRun rules run
bare_is_run rules events run e = events_are rules 0 events [] run tt e

-- ---- worlds

-- what holds of every run holds of the printed one, and of its fronts
runs_hold : {S : Type 0} (setting : Setting S) (w : World) (Holds : List Step → Type 0) → ((run : List Step) → IsRun setting.scope.rules run → Holds run)
    → SpellsLogs setting w → RunsHold Holds setting w
runs_hold setting w Holds all spelled = record {
  whole = all (printed_run setting.scope w) spelled.is_run;
  logs = λ g h log. all (up_to h (length ((w.nodes g).logs h)) (printed_run setting.scope w))
      (front_from setting.scope.rules h (length ((w.nodes g).logs h)) (printed_run setting.scope w) (fresh setting.scope.rules) spelled.is_run);
}

-- what a replica shows is what the printed run leaves at the end of its log
shows_walks : (hosts : ℕ) (linked : ℕ → ℕ → Bool) → IsGraph hosts linked → (setting : Setting (List Way)) (w : World)
    → setting.scope.rules ≡ route_rules hosts linked → SpellsLogs setting w → ShowsWalks linked setting w
shows_walks hosts linked shape setting w same spelled g h d log less =
    let run = up_to h (length ((w.nodes g).logs h)) (printed_run setting.scope w) in
    let front = front_from setting.scope.rules h (length ((w.nodes g).logs h)) (printed_run setting.scope w) (fresh setting.scope.rules) spelled.is_run in
    let routed = routes_runs hosts linked shape (up_to h (length ((w.nodes g).logs h)) (printed_run setting.scope w)) (subst (λ r. IsRun r (up_to h (length ((w.nodes g).logs h)) (printed_run setting.scope w))) same front) in
    let left : (after_run (route_rules hosts linked) (up_to h (length ((w.nodes g).logs h)) (printed_run setting.scope w))).state h
    ≡ (alone setting.scope.rules h ((w.nodes g).logs h)).state h =
    ap (λ r. (after_run r (up_to h (length ((w.nodes g).logs h)) (printed_run setting.scope w))).state h) (sym same) ∙ ap (λ pair. pair.0) (spelled.states g h log) in
    subst (λ s. (way_to s d).distance < UNKNOWN → HasWalk linked h d (way_to s d).distance) left
    (λ low. (routed.ways h d low).walk) less

-- ---- documents

bare_shown : (protocol : Protocol) (said : Said) → IsGraph said.system.hosts said.system.linked → HasRoot said.system.hosts protocol → IsBareShown protocol said
bare_shown Sum said shape root = tt
bare_shown Flood said shape root = tt
bare_shown (Machine tree) said shape root = tt
bare_shown Route said shape root = λ events run read made.
    routes_runs said.system.hosts said.system.linked shape run (bare_is_run (route_rules said.system.hosts said.system.linked) events run made)
bare_shown (Tree top) said shape root = λ events run read made.
    multicasts_runs said.system.hosts said.system.linked top shape root run (bare_is_run (tree_rules said.system.hosts said.system.linked top) events run made)

replay_shown : (protocol : Protocol) (said : Said) → IsGraph said.system.hosts said.system.linked → HasRoot said.system.hosts protocol
    → IsPromisedOf protocol said → IsReplayShown protocol said
replay_shown Sum said shape root promised = tt
replay_shown Flood said shape root promised = tt
replay_shown (Machine tree) said shape root promised = tt
replay_shown Route said shape root promised = (
  λ graphs sound events before rest w read front happen.
      runs_hold _ w (IsRouted said.system.hosts said.system.linked) (routes_runs said.system.hosts said.system.linked shape)
      (promised graphs sound events read before rest w front happen).spelled,
  λ graphs sound events before rest w read front happen.
      shows_walks said.system.hosts said.system.linked shape _ w refl (promised graphs sound events read before rest w front happen).spelled,
)
replay_shown (Tree top) said shape root promised = λ graphs sound events before rest w read front happen.
    runs_hold _ w (IsMulticast said.system.hosts said.system.linked top) (multicasts_runs said.system.hosts said.system.linked top shape root)
    (promised graphs sound events read before rest w front happen).spelled

-- whatever the input
pub input_shown : (input : List ℕ) → IsShownInput input
input_shown input = record {
  bare = of_bare (answer_to (needs_of command.Bare) input) refl;
  replay = of_replay (answer_to (needs_of command.Replay) input) refl (input_promised input);
  trace = of_replay (answer_to (needs_of command.Trace) input) refl (input_promised input);
}
  where
    of_bare : (document : Result Said Refusal) → answer_to (needs_of command.Bare) input ≡ document → IsBareDocument document
    of_bare (Ok said) read =
        bare_shown said.system.protocol said (document_shape (needs_of command.Bare) input said read) (bounded (needs_of command.Bare) input said read).root
    of_bare (Err refusal) read = tt

    of_replay : (document : Result Said Refusal) → answer_to (needs_of command.Replay) input ≡ document → IsPromisedDocument document → IsReplayDocument document
    of_replay (Ok said) read promised =
        replay_shown said.system.protocol said (document_shape (needs_of command.Replay) input said read) (bounded (needs_of command.Replay) input said read).root promised
    of_replay (Err refusal) read promised = tt
