-- What is known of a configuration and its liars is known of the world that is made with them.
use Rattle.std.proofs.Common.{◌≡◌, ℕ, Bool, true, List, sym, ap, subst, ◌∙◌}
use Rattle.std.specs.Prelude.{All}
use Rattle.nys_answer.specs.declared.answer.Answer.{Answer}
use Rattle.nys_answer.specs.declared.status.Status.TheVariants.{Done}
use Rattle.nys_follows.specs.Promises.{IsPromised}
use Rattle.nys_guards.specs.declared.table.GuardGraph.{GuardGraph}
use Rattle.nys_hosts.specs.Sets.{has}
use Rattle.nys_hosts.specs.declared.set.HostSet.{HostSet}
use Rattle.nys_config.specs.Config.{IsConfig}
use Rattle.nys_config.specs.declared.config.Config.{Config}
use Rattle.nys_report.specs.Spelled.{HasSpelled}
use Rattle.nys_rules.specs.Asked.{IsEvent}
use Rattle.nys_rules.specs.Events.{plain}
use Rattle.nys_rules.specs.Spelling.{SpellsLogs}
use Rattle.nys_rules.specs.World.{fresh_world, World}
use Rattle.nys_rules.specs.declared.event.Event.{Event}
use Rattle.nys_config.specs.Scopes.{scope_by, scope_of}
use Rattle.nys_source.specs.Rules.{Rules}
use Rattle.nys_world.specs.Shows.{IsStage, setting_of}
use Rattle.nys_world.specs.Worlds.{IsWorldOf}
use Rattle.nys_world.specs.declared.stage.Stage.{Stage}
use Rattle.nys_world.specs.declared.world.World as made
use Rattle.nys_played.specs.Settings.{setting_by}
use Rattle.nys_world_commands.specs.Telling.{text_of}
use Rattle.nys_world_commands.specs.declared.telling.Telling.{Telling}

-- nodes take the configuration
pub stage_taken : {P S : Type 0} {traced : Bool} (rules : P → Rules S) (stage : Stage P S) (cx : Config P) (liars : HostSet)
    → stage ≡ record { cx = cx; liars = liars; traced = traced } → IsConfig (rules cx.protocol).hosts cx → IsStage (rules stage.cx.protocol) stage
stage_taken rules stage cx liars same config = subst (λ st. IsStage (rules st.cx.protocol) st) (sym same) config

-- the scenario is that of the guard graphs
pub same_setting : {P S : Type 0} {traced : Bool} (rules : P → Rules S) (stage : Stage P S) (cx : Config P) (liars : HostSet) (protocol : P)
    (graphs : List GuardGraph) (master : List ℕ) → stage ≡ record { cx = cx; liars = liars; traced = traced }
    → scope_of (rules cx.protocol) cx ≡ scope_by (rules protocol) graphs master
    → setting_of (rules stage.cx.protocol) stage ≡ setting_by (rules protocol) graphs master (has liars)
same_setting rules stage cx liars protocol graphs master same scope =
    ap (λ st. setting_of (rules st.cx.protocol) st) same ∙ (λ i. record { scope = scope i; liars = has liars })

-- the fresh world is one of the stage's own protocol
pub first_world : {P S : Type 0} {traced : Bool} (rules : P → Rules S) (world : made.World P S) (cx : Config P) (liars : HostSet)
    → world.stage ≡ record { cx = cx; liars = liars; traced = traced }
    → IsWorldOf (rules cx.protocol) world (fresh_world (setting_of (rules cx.protocol) world.stage))
    → IsWorldOf (rules world.stage.cx.protocol) world (fresh_world (setting_of (rules world.stage.cx.protocol) world.stage))
first_world rules world cx liars same first =
    subst (λ p. IsWorldOf (rules p) world (fresh_world (setting_of (rules p) world.stage))) (sym (ap (λ st. st.cx.protocol) same)) first

-- the events are such as it takes
pub events_taken : {P S : Type 0} {traced : Bool} (rules : P → Rules S) (stage : Stage P S) (cx : Config P) (liars : HostSet) (protocol : P)
    (events : List Event) → stage ≡ record { cx = cx; liars = liars; traced = traced } → cx.protocol ≡ protocol
    → All (λ event. IsEvent (rules protocol).hosts (has liars) (plain event)) events
    → All (λ event. IsEvent (rules stage.cx.protocol).hosts (has stage.liars) (plain event)) events
events_taken rules stage cx liars protocol events same is all =
    subst (λ st. All (λ event. IsEvent (rules st.cx.protocol).hosts (has st.liars) (plain event)) events) (sym same)
    (subst (λ p. All (λ event. IsEvent (rules p).hosts (has liars) (plain event)) events) (sym is) all)

-- the world after events, which has the same stage, spells its logs
pub world_spelled : {P S : Type 0} (rules : P → Rules S) (stage : Stage P S) (next : made.World P S) (w : World)
    → next.stage ≡ stage → IsWorldOf (rules stage.cx.protocol) next w → IsPromised (setting_of (rules stage.cx.protocol) stage) w
    → HasSpelled (rules next.stage.cx.protocol) next
world_spelled rules stage next w same is promised =
    let spelled : SpellsLogs (setting_of (rules next.stage.cx.protocol) next.stage) w =
    subst (λ st. SpellsLogs (setting_of (rules st.cx.protocol) st) w) (sym same) promised.spelled in
    (w, subst (λ st. IsWorldOf (rules st.cx.protocol) next w) (sym same) is, spelled)

-- it has what was given where the stage was traced
pub world_traced : {P S : Type 0} (stage : Stage P S) (next : made.World P S) → next.stage ≡ stage → stage.traced ≡ true → next.stage.traced ≡ true
world_traced stage next same wanted = ap (λ st. st.traced) same ∙ wanted

-- the answer tells of each world of the rules that it is
abbrev pub IsPrinted : {P S : Type 0} → Telling → (P → Rules S) → Stage P S → made.World P S → Answer → Type 0
IsPrinted telling rules stage world answer =
    (w : World) → IsWorldOf (rules stage.cx.protocol) world w
    → answer ≡ record { status = Done; text = text_of telling (setting_of (rules stage.cx.protocol) stage) w }

-- so it is by the stage before the events
pub world_printed : {P S : Type 0} (telling : Telling) (rules : P → Rules S) (stage : Stage P S) (next : made.World P S) (answer : Answer)
    → next.stage ≡ stage → IsPrinted telling rules next.stage next answer → IsPrinted telling rules stage next answer
world_printed telling rules stage next answer same printed = subst (λ st. IsPrinted telling rules st next answer) same printed
