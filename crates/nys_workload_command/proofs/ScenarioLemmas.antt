-- The scenario of a ring: its guards are planned, nodes can follow them, and it is the one that is wanted.
use Rattle.std.proofs.Common.{◌≡◌, ℕ, ◌<◌, ◌≤◌, ◌++◌, Bool, true, false, List, [], ◌∷◌, All, length, replicate, Option, Some, None, refl, ap, sym, subst, ◌∙◌, nat_lt, if◌then◌else◌, arith}
use Rattle.std.proofs.Math.Path.{fun_ext}
use Rattle.std.proofs.lemmas.List.Elements.{All-cons, All-nil}
use Rattle.nys_answer.specs.declared.answer.Answer.{Answer}
use Rattle.nys_config.specs.Config.{IsConfig, IsEpoch}
use Rattle.nys_config.specs.Scopes.{scope_by, scope_of}
use Rattle.nys_config.specs.declared.config.Config.{Config}
use Rattle.nys_graph.specs.Links.{linked_in}
use Rattle.nys_guard_commands.specs.Checked.{IsSmall}
use Rattle.nys_guard_commands.specs.Graphs.{AreGraphsOf, IsFaultOf, IsGraphOf, IsGuardsAnswer, thresholds_of}
use Rattle.nys_guard_commands.specs.declared.fault.EpochFault.{EpochFault}
use Rattle.nys_guard_commands.specs.declared.fault.EpochFault.TheVariants.{NotGood, Unplanned}
use Rattle.nys_guards.specs.declared.table.GuardGraph.{GuardGraph}
use Rattle.nys_hosts.specs.Sets.{has}
use Rattle.nys_hosts.specs.declared.set.HostSet.{HostSet}
use Rattle.nys_native.specs.Floods.{flood_rules}
use Rattle.nys_native.specs.declared.flood.Flood.{Flood}
use Rattle.nys_native.specs.declared.total.Total.{Total}
use Rattle.nys_plan.specs.declared.fault.PlanFault.TheVariants.{CreditTooSmall, TooFewHosts}
use Rattle.nys_played.proofs.EpochLemmas.{epoch_there}
use Rattle.nys_played.proofs.ScopeLemmas.{same_scope}
use Rattle.nys_played.specs.Settings.{setting_by}
use Rattle.nys_scenario.specs.Bounds.{HasHosts}
use Rattle.nys_scenario.specs.Epochs.{Epoch}
use Rattle.nys_scenario.specs.Hosts.{nobody}
use Rattle.nys_source.specs.Rules.{Rules}
use Rattle.nys_workload.proofs.RingLemmas.{ring_sparse}
use Rattle.nys_workload.specs.Rings.{ring_linked}
use Rattle.nys_workload_command.specs.Answered.{IsSettingOf, the_epoch}
use Rattle.nys_workload_command.specs.declared.scenario.TheConstants.{CREDIT}
use Rattle.nys_world.specs.Shows.{IsStage, setting_of}
use Rattle.nys_world.specs.declared.stage.Stage.{Stage}

-- the threshold of a host is 1, and past the last host it is 0
threshold_low : (hosts h : ℕ) → thresholds_of hosts the_epoch h ≤ 1
threshold_low hosts h = go (nat_lt h hosts) refl
  where
    go : (b : Bool) → nat_lt h hosts ≡ b → thresholds_of hosts the_epoch h ≤ 1
    go true e = rw e (omega arith)
    go false e = rw e (omega arith)

-- the epoch has no fault
no_fault : (hosts : ℕ) (fault : EpochFault) → 4 ≤ hosts → hosts ≤ 32
    → IsFaultOf hosts (ring_linked hosts) (thresholds_of hosts the_epoch) CREDIT None fault → ⊥
no_fault hosts (Unplanned (TooFewHosts n need)) some few found =
    let low = threshold_low hosts found.1.most.host in
    let is = found.1.most.same in
    let needs = found.1.needs in
    let less = found.1.few in
    omega (arith, low, is, needs, less, some)
no_fault hosts (Unplanned (CreditTooSmall h limit degree)) some few found =
    let sparse = ring_sparse hosts h some few found.1 in
    let is = found.3 in
    let more = found.4 in
    omega (arith, sparse, is, more)
no_fault hosts (NotGood fault) some few found = absurd found

-- guards are planned for it
pub ring_planned : (hosts : ℕ) (answer : Answer) → 4 ≤ hosts → hosts ≤ 32
    → IsGuardsAnswer hosts (ring_linked hosts) (the_epoch ∷ []) answer → ⊥
ring_planned hosts answer some few refused = by refused.before refused.split
  where
    by : (before : List Epoch) → the_epoch ∷ [] ≡ before ++ refused.epoch ∷ refused.after → ⊥
    by [] split =
        let same : the_epoch ≡ refused.epoch = cc in
        no_fault hosts refused.here.fault some few
        (subst (λ (e : Epoch). IsFaultOf hosts (ring_linked hosts) (thresholds_of hosts e) e.credit e.guards refused.here.fault) (sym same)
        refused.here.found)
    by (b ∷ []) split = let none : [] ≡ refused.epoch ∷ refused.after = cc in cc
    by (b ∷ x ∷ xs) split = let none : [] ≡ x ∷ xs ++ refused.epoch ∷ refused.after = cc in cc

-- however the ring and the epoch are told
pub ring_never : (hosts n : ℕ) (linked : ℕ → ℕ → Bool) (seen : Epoch) (answer : Answer) → n ≡ hosts → linked ≡ ring_linked hosts
    → seen ≡ the_epoch → 4 ≤ hosts → hosts ≤ 32 → IsGuardsAnswer n linked (seen ∷ []) answer → ⊥
ring_never hosts n linked seen answer all ring one some few refused =
    ring_planned hosts answer some few
    (subst (λ e. IsGuardsAnswer hosts (ring_linked hosts) (e ∷ []) answer) one
    (subst (λ l. IsGuardsAnswer hosts l (seen ∷ []) answer) ring (subst (λ m. IsGuardsAnswer m linked (seen ∷ []) answer) all refused)))

-- the numbers of its guard graph are small
small_graph : (hosts : ℕ) (graph : GuardGraph) → IsGraphOf hosts (ring_linked hosts) the_epoch graph → IsSmall graph
small_graph hosts graph is =
    let credit = is.credit in
    record {
      t = λ h. let low = threshold_low hosts h in let same = ap (λ (f : ℕ → ℕ). f h) is.t in omega (arith, low, same);
      some = omega (arith, credit);
      credit = omega (arith, credit);
    }

-- it lists no guards
lists_none : (hosts : ℕ) → HasHosts hosts the_epoch
lists_none hosts = tt

-- the guard graphs are one, which nodes can follow
one_epoch : (hosts : ℕ) (graphs : List GuardGraph) → AreGraphsOf hosts (ring_linked hosts) (the_epoch ∷ []) graphs
    → (length graphs ≡ 1) × All (IsEpoch hosts) graphs
one_epoch hosts [] are = absurd are
one_epoch hosts (g ∷ []) are =
    (refl, All-cons (IsEpoch hosts) g [] (epoch_there hosts (ring_linked hosts) the_epoch g are.0 (lists_none hosts) (small_graph hosts g are.0)) (All-nil (IsEpoch hosts)))
one_epoch hosts (g ∷ x ∷ xs) are = absurd are.1

-- nodes take a configuration that has them
pub ring_config : {P : Type 0} (hosts : ℕ) (cx : Config P) → AreGraphsOf hosts (ring_linked hosts) (the_epoch ∷ []) cx.epochs.items
    → IsConfig hosts cx
ring_config hosts cx are =
    let one = one_epoch hosts cx.epochs.items are in
    let size = one.0 in
    record { some = omega (arith, size); few = omega (arith, size); epochs = one.1 }

-- the rules of the flood in a stage
abbrev pub rules_in : Stage Flood Total → Rules Total
rules_in stage = flood_rules stage.cx.protocol.graph.hosts (linked_in stage.cx.protocol.graph.rows)

-- so does the world that is made with it
pub ring_stage : (hosts : ℕ) (stage : Stage Flood Total) (cx : Config Flood) (liars : HostSet) → stage ≡ record { cx = cx; liars = liars; traced = false }
    → cx.protocol.graph.hosts ≡ hosts → AreGraphsOf hosts (ring_linked hosts) (the_epoch ∷ []) cx.epochs.items → IsStage (rules_in stage) stage
ring_stage hosts stage cx liars same all are =
    subst (λ (st : Stage Flood Total). IsStage (rules_in st) st) (sym same)
    (subst (λ n. IsConfig n cx) (sym all) (ring_config hosts cx are))

-- and its scenario is the one of the ring
pub ring_setting : (hosts : ℕ) (stage : Stage Flood Total) (cx : Config Flood) (liars : HostSet)
    → stage ≡ record { cx = cx; liars = liars; traced = false } → cx.protocol.graph.hosts ≡ hosts
    → linked_in cx.protocol.graph.rows ≡ ring_linked hosts → cx.keys ≡ replicate 32 0 → ((h : ℕ) → has liars h ≡ false)
    → AreGraphsOf hosts (ring_linked hosts) (the_epoch ∷ []) cx.epochs.items → IsSettingOf hosts (setting_of (rules_in stage) stage)
ring_setting hosts stage cx liars same all ring keys none are =
    let rules : flood_rules cx.protocol.graph.hosts (linked_in cx.protocol.graph.rows) ≡ flood_rules hosts (ring_linked hosts) =
    λ i. flood_rules (all i) (ring i) in
    let scope : scope_of (flood_rules cx.protocol.graph.hosts (linked_in cx.protocol.graph.rows)) cx
    ≡ scope_by (flood_rules hosts (ring_linked hosts)) cx.epochs.items (replicate 32 0) =
    ap (λ r. scope_of r cx) rules ∙ same_scope (flood_rules hosts (ring_linked hosts)) cx cx.epochs.items (replicate 32 0) refl keys in
    let nobody_lies : has liars ≡ nobody = fun_ext none in
    record {
      graphs = cx.epochs.items;
      planned = are;
      same =
          ap (λ (st : Stage Flood Total). setting_of (rules_in st) st) same
          ∙ (λ i. record { scope = scope i; liars = nobody_lies i });
    }
