-- Guard graphs of epochs, one more at a time.
use Rattle.std.proofs.Common.{◌≡◌, ℕ, suc, All, ◌+◌, ◌<◌, ◌≤◌, ◌++◌, Bool, List, [], ◌∷◌, length, map, take, drop, get_or, slice_index_or, Option, Some, None, option_map, refl, sym, ap, subst, ◌∙◌, arith, add-one}
use Rattle.std.specs.Prelude.{IfSome}
use Rattle.std.proofs.Math.Path.{fun_ext}
use Rattle.std.proofs.Math.ListN.{get_or-map}
use Rattle.std.proofs.Math.Seq.{drop-cons}
use Rattle.std.proofs.lemmas.List.Elements.{All-cons, All-head, All-nil, All-tail}
use Rattle.std.proofs.lemmas.List.{length-map, length-take-le, map-append, map_more, take-append-drop}
use Rattle.nys_hosts.specs.Sets.{has, no_hosts}
use Rattle.nys_hosts.specs.declared.set.HostSet.{HostSet}
use Rattle.nys_hosts.proofs.MaskLemmas.{in_mask-zero}
use Rattle.nys_guards.specs.Faults.{IsFirstFault}
use Rattle.nys_guards.specs.Good.{guards_in, threshold_in, IsGood}
use Rattle.nys_guards.specs.declared.fault.GuardFault.{GuardFault}
use Rattle.nys_guards.specs.declared.table.GuardGraph.{GuardGraph}
use Rattle.nys_plan.specs.Planned.{AreOfHostsBelow}
use Rattle.nys_plan.specs.Refused.{IsPlanFault}
use Rattle.nys_plan.specs.declared.fault.PlanFault.{PlanFault}
use Rattle.nys_scenario.specs.Bounds.{HasNobodyPast, HasPast}
use Rattle.nys_scenario.specs.Epochs.{Epoch, epoch_seen}
use Rattle.nys_scenario.specs.Hosts.{Hosts, nobody}
use Rattle.nys_scenario.specs.declared.epoch.EpochText.{EpochText}
use Rattle.nys_hosts.specs.declared.limits.TheConstants.{MAX_CREDIT, MAX_T}
use Rattle.nys_guard_commands.specs.Checked.{EndsAt, IsSmall}
use Rattle.nys_guard_commands.specs.Graphs.{AreGraphsOf, AreGuards, IsEpochAnswer, IsFaultOf, IsGraphOf, IsGuardsAnswer, listed, thresholds_of}
use Rattle.nys_guard_commands.specs.declared.fault.EpochFault.TheVariants.{NotGood, Unplanned}
use Rattle.nys_guard_commands.proofs.ThresholdLemmas.{thresholds_small}
use Rattle.nys_guard_commands.specs.Refusals.{Refuses}
use Rattle.nys_guard_commands.specs.declared.refusal.Refusal.{Refusal}
use Rattle.nys_guard_commands.specs.declared.refusal.Refusal.TheVariants as refusal

-- the guards of a table are those that are listed, set by set
pub guards_listed : (sets : List HostSet) → guards_in sets ≡ listed (map has sets)
unfolding guards_in
guards_listed sets = fun_ext (λ h. sym (get_or-map has sets h no_hosts))

-- one epoch more, with its guard graph
graphs_and : (hosts : ℕ) (linked : ℕ → ℕ → Bool) (epochs : List Epoch) (graphs : List GuardGraph) (epoch : Epoch) (graph : GuardGraph)
    → AreGraphsOf hosts linked epochs graphs → IsGraphOf hosts linked epoch graph
    → AreGraphsOf hosts linked (epochs ++ epoch ∷ []) (graphs ++ graph ∷ [])
graphs_and hosts linked [] [] epoch graph before here = (here, tt)
graphs_and hosts linked [] (g ∷ gs) epoch graph before here = absurd before
graphs_and hosts linked (e ∷ es) [] epoch graph before here = absurd before
graphs_and hosts linked (e ∷ es) (g ∷ gs) epoch graph before here =
    (before.0, graphs_and hosts linked es gs epoch graph before.1 here)

pub graphs_more : (hosts : ℕ) (linked : ℕ → ℕ → Bool) (epochs : List EpochText) (e : ℕ) (epoch : EpochText) (graphs : List GuardGraph)
    (graph : GuardGraph) → e < length epochs → epoch ≡ get_or epochs e epoch
    → AreGraphsOf hosts linked (map epoch_seen (take e epochs)) graphs
    → IsGraphOf hosts linked (epoch_seen epoch) graph
    → AreGraphsOf hosts linked (map epoch_seen (take (e + 1) epochs)) (graphs ++ graph ∷ [])
graphs_more hosts linked epochs e epoch graphs graph within at before here =
    rw (map_more epoch_seen epochs e epoch within)
    (graphs_and hosts linked (map epoch_seen (take e epochs)) graphs (epoch_seen (get_or epochs e epoch)) graph before
    (subst (λ x. IsGraphOf hosts linked (epoch_seen x) graph) at here))

-- a list by one of its members: those before it, itself, those after it
pub split_at : {A : Type 0} (xs : List A) (i : ℕ) (x d : A) → i < length xs → x ≡ get_or xs i d
    → xs ≡ take i xs ++ x ∷ drop (i + 1) xs
split_at xs i x d within at =
    sym (take-append-drop i xs) ∙ ap (λ ys. take i xs ++ ys) (drop-cons xs i d within)
    ∙ ap (λ n. take i xs ++ get_or xs i d ∷ drop n xs) (sym (add-one i))
    ∙ ap (λ y. take i xs ++ y ∷ drop (i + 1) xs) (sym at)

-- the members before one are as many as its place
pub length_before : {A B : Type 0} (f : A → B) (xs : List A) (i : ℕ) → i < length xs → length (map f (take i xs)) ≡ i
length_before f xs i within = length-map (take i xs) f ∙ length-take-le i xs (omega arith)

-- an epoch is refused where those before it have good guards
pub refused_at : (hosts : ℕ) (linked : ℕ → ℕ → Bool) (epochs : List EpochText) (e : ℕ) (epoch : EpochText) (graphs : List GuardGraph)
    (found : Refusal) → e < length epochs → epoch ≡ get_or epochs e epoch
    → AreGraphsOf hosts linked (map epoch_seen (take e epochs)) graphs
    → Refuses (IsEpochAnswer hosts linked e (epoch_seen epoch)) found
    → Refuses (IsGuardsAnswer hosts linked (map epoch_seen epochs)) found
refused_at hosts linked epochs e epoch graphs refusal.NoMemory within at before here = tt
refused_at hosts linked epochs e epoch graphs (refusal.Answered answer) within at before here = record {
  before = map epoch_seen (take e epochs);
  epoch = epoch_seen epoch;
  after = map epoch_seen (drop (e + 1) epochs);
  split = ap (map epoch_seen) (split_at epochs e epoch epoch within at)
      ∙ map-append epoch_seen (take e epochs) (epoch ∷ drop (e + 1) epochs);
  graphs = graphs;
  good = before;
  here = subst (λ n. IsEpochAnswer hosts linked n (epoch_seen epoch) answer)
      (sym (length_before epoch_seen epochs e within)) here;
}

-- guards that an epoch lists and that are good make its guard graph
pub listed_graph : (hosts : ℕ) (linked : ℕ → ℕ → Bool) (epoch : EpochText) (t : List ℕ) (sets : List HostSet)
    → epoch.guards ≡ Some sets → threshold_in t ≡ thresholds_of hosts (epoch_seen epoch)
    → IsGood hosts linked (threshold_in t) epoch.credit (guards_in sets)
    → IsGraphOf hosts linked (epoch_seen epoch) (record { t = t; credit = epoch.credit; guards = sets })
listed_graph hosts linked epoch t sets are same good = record {
  t = same;
  credit = refl;
  guards = subst (λ given. AreGuards hosts linked (thresholds_of hosts (epoch_seen epoch)) (option_map (map has) given)
      (guards_in sets)) (sym are) (guards_listed sets);
  good = subst (λ f. IsGood hosts linked f epoch.credit (guards_in sets)) same good;
}

-- a fault of guards that an epoch lists is the epoch's
pub listed_fault : (hosts : ℕ) (linked : ℕ → ℕ → Bool) (epoch : EpochText) (t : List ℕ) (sets : List HostSet)
    (fault : GuardFault) → epoch.guards ≡ Some sets → threshold_in t ≡ thresholds_of hosts (epoch_seen epoch)
    → IsFirstFault hosts linked (threshold_in t) epoch.credit (guards_in sets) fault
    → IsFaultOf hosts linked (thresholds_of hosts (epoch_seen epoch)) epoch.credit (epoch_seen epoch).guards
    (NotGood fault)
listed_fault hosts linked epoch t sets fault are same found =
    subst (λ g. IsFaultOf hosts linked (thresholds_of hosts (epoch_seen epoch)) epoch.credit (option_map (map has) g)
    (NotGood fault)) (sym are)
    (subst (λ g. IsFirstFault hosts linked (thresholds_of hosts (epoch_seen epoch)) epoch.credit g fault)
    (guards_listed sets)
    (subst (λ f. IsFirstFault hosts linked f epoch.credit (guards_in sets) fault) same found))

-- why none can be planned is the fault of an epoch that lists no guards
pub planned_fault : (hosts : ℕ) (linked : ℕ → ℕ → Bool) (epoch : EpochText) (t : List ℕ) (fault : PlanFault)
    → epoch.guards ≡ None → threshold_in t ≡ thresholds_of hosts (epoch_seen epoch)
    → IsPlanFault hosts linked (threshold_in t) epoch.credit fault
    → IsFaultOf hosts linked (thresholds_of hosts (epoch_seen epoch)) epoch.credit (epoch_seen epoch).guards
    (Unplanned fault)
planned_fault hosts linked epoch t fault are same found =
    subst (λ g. IsFaultOf hosts linked (thresholds_of hosts (epoch_seen epoch)) epoch.credit (option_map (map has) g)
    (Unplanned fault)) (sym are)
    (subst (λ f. IsPlanFault hosts linked f epoch.credit fault) same found)

-- guards of hosts alone, where those that are listed are
pub rows_of : (hosts : ℕ) (linked : ℕ → ℕ → Bool) (epoch : Epoch) (graph : GuardGraph)
    → IsGraphOf hosts linked epoch graph → HasNobodyPast hosts epoch → AreOfHostsBelow hosts (guards_in graph.guards)
rows_of hosts linked epoch graph is past = go epoch.guards is.guards past
  where
    none : nobody ≡ has no_hosts
    none = fun_ext (λ g. sym (in_mask-zero g))

    go : (given : Option (List Hosts)) → AreGuards hosts linked (thresholds_of hosts epoch) given (guards_in graph.guards)
        → IfSome given (HasPast hosts nobody) → AreOfHostsBelow hosts (guards_in graph.guards)
    go (Some sets) are ends = λ h g le.
        ap (λ (guards : ℕ → ℕ → Bool). guards h g) are
        ∙ ap (λ (d : Hosts). (slice_index_or sets h d) g) (sym none) ∙ ap (λ (set : Hosts). set g) (ends h le)
    go None are ends = are.1

-- so it is of all guard graphs
pub all_rows : (hosts : ℕ) (linked : ℕ → ℕ → Bool) (epochs : List Epoch) (graphs : List GuardGraph)
    → AreGraphsOf hosts linked epochs graphs → All (HasNobodyPast hosts) epochs → All (EndsAt hosts) graphs
all_rows hosts linked [] [] all past = All-nil (EndsAt hosts)
all_rows hosts linked [] (g ∷ gs) all past = absurd all
all_rows hosts linked (e ∷ es) [] all past = absurd all
all_rows hosts linked (e ∷ es) (g ∷ gs) all past =
    All-cons (EndsAt hosts) g gs
    (record { rows = rows_of hosts linked e g all.0 (All-head (HasNobodyPast hosts) e es past) })
    (all_rows hosts linked es gs all.1 (All-tail (HasNobodyPast hosts) e es past))

-- there are as many guard graphs as epochs
pub length_graphs : (hosts : ℕ) (linked : ℕ → ℕ → Bool) (epochs : List Epoch) (graphs : List GuardGraph)
    → AreGraphsOf hosts linked epochs graphs → length graphs ≡ length epochs
length_graphs hosts linked [] [] all = refl
length_graphs hosts linked [] (g ∷ gs) all = absurd all
length_graphs hosts linked (e ∷ es) [] all = absurd all
length_graphs hosts linked (e ∷ es) (g ∷ gs) all = ap suc (length_graphs hosts linked es gs all.1)

-- their numbers are those of epochs, which are small
pub small_graphs : (hosts : ℕ) (linked : ℕ → ℕ → Bool) (epochs : List EpochText) (graphs : List GuardGraph)
    → AreGraphsOf hosts linked (map epoch_seen epochs) graphs → All IsSmall graphs
small_graphs hosts linked [] [] all = All-nil IsSmall
small_graphs hosts linked [] (g ∷ gs) all = absurd all
small_graphs hosts linked (e ∷ es) [] all = absurd all
small_graphs hosts linked (e ∷ es) (g ∷ gs) all =
    All-cons IsSmall g gs (record {
      t = λ h. subst (λ (f : ℕ → ℕ). f h ≤ MAX_T) (sym all.0.t)
          (thresholds_small hosts e.t e.thresholds e.t_is_small e.thresholds_are_small h);
      some = subst (λ n. 1 ≤ n) (sym all.0.credit) e.credit_is_some;
      credit = subst (λ n. n ≤ MAX_CREDIT) (sym all.0.credit) e.credit_is_small;
    }) (small_graphs hosts linked es gs all.1)
