-- Nodes can follow the guards of an epoch.
use Rattle.std.proofs.Common.{◌≡◌, ℕ, ◌+◌, ◌*◌, ◌<◌, ◌==◌, Bool, true, false, List, All, length, take, Option, Some, None, inl, inr, sym, ap, ◌∙◌, arith, eqb-true}
use Rattle.std.specs.Prelude.{IfSome}
use Rattle.std.specs.List.{range_with_len}
use Rattle.std.proofs.lemmas.Bool.{cases_lt, or_cases}
use Rattle.std.proofs.lemmas.List.{get_or_past}
use Rattle.std.proofs.lemmas.List.Elements.{All-append, All-filter, All-from_get_or, All-get_or, All-take}
use Rattle.std.proofs.lemmas.List.FromFn.{get_or-range_with_len, length-range_with_len}
use Rattle.nys_guard_commands.specs.Checked.{IsSmall}
use Rattle.nys_guard_commands.specs.Graphs.{AreGuards, IsGraphOf, listed, thresholds_of}
use Rattle.nys_guards.specs.Good.{guards_in}
use Rattle.nys_guards.specs.declared.table.GuardGraph.{GuardGraph}
use Rattle.nys_hosts.proofs.ListLemmas.{listed_all}
use Rattle.nys_hosts.proofs.MaskLemmas.{in_mask-zero}
use Rattle.nys_hosts.specs.Makers.{is_listed}
use Rattle.nys_hosts.specs.Sets.{has, no_hosts}
use Rattle.nys_plan.specs.Planned.{hosts_passing, IsPlanned, order_of}
use Rattle.nys_config.specs.Config.{IsEpoch}
use Rattle.nys_scenario.specs.Bounds.{AreHosts, HasHosts}
use Rattle.nys_scenario.specs.Epochs.{Epoch}
use Rattle.nys_scenario.specs.Hosts.{Hosts}

-- guards that are listed are hosts
listed_hosts : (hosts : ℕ) (sets : List Hosts) (h g : ℕ) → All (AreHosts hosts) sets → listed sets h g ≡ true → g < hosts
listed_hosts hosts sets h g all here = elim (cases_lt h (length sets)) [
  | inl inside ↦ (All-get_or (AreHosts hosts) sets h (has no_hosts) inside all).below g here
  | inr past ↦
      let none : false ≡ true = sym (in_mask-zero g) ∙ sym (ap (λ (s : Hosts). s g) (get_or_past sets h (has no_hosts) past)) ∙ here in
      absurd (cc)
]

-- so many numbers from 0 on are below it
all_below : (n : ℕ) → All (λ m. m < n) (range_with_len 0 n)
all_below n = All-from_get_or (λ m. m < n) (range_with_len 0 n) 0 (λ i inside.
    let within : i < n = omega (arith, inside, length-range_with_len 0 n) in
    omega (arith, within, get_or-range_with_len 0 n i 0 within))

-- so are those of them that pass a test
passing_below : (p : ℕ → Bool) (n : ℕ) → All (λ m. m < n) (hosts_passing p n)
unfolding hosts_passing
passing_below p n = All-filter p (λ m. m < n) (range_with_len 0 n) (all_below n)

-- the order in which a host takes guards has hosts alone
order_below : (hosts : ℕ) (component : ℕ → Bool) → All (λ m. m < hosts) (order_of hosts component)
order_below hosts component =
    All-append (λ m. m < hosts) (hosts_passing component hosts) _ (passing_below component hosts) (passing_below _ hosts)

-- guards that are planned are hosts
planned_hosts : (hosts : ℕ) (linked : ℕ → ℕ → Bool) (t : ℕ → ℕ) (h g : ℕ) (guards : ℕ → Bool) → h < hosts
    → IsPlanned hosts linked t h guards → guards g ≡ true → g < hosts
planned_hosts hosts linked t h g guards host planned here =
    let need = 3 * planned.greatest + 1 in
    let first = take need (order_of hosts planned.component) in
    elim (or_cases (is_listed first g) (h == g) (sym (planned.chosen g) ∙ here)) [
      | inl among ↦ listed_all (λ m. m < hosts) first g (All-take (λ m. m < hosts) need _ (order_below hosts planned.component)) among
      | inr itself ↦ omega (arith, host, eqb-true h g itself)
    ]

-- guards of an epoch are hosts
pub guards_below : (hosts : ℕ) (linked : ℕ → ℕ → Bool) (t : ℕ → ℕ) (given : Option (List Hosts)) (guards : ℕ → ℕ → Bool) (h g : ℕ)
    → h < hosts → IfSome given (All (AreHosts hosts)) → AreGuards hosts linked t given guards → guards h g ≡ true → g < hosts
guards_below hosts linked t (Some sets) guards h g host all are here =
    listed_hosts hosts sets h g all (sym (ap (λ (f : ℕ → ℕ → Bool). f h g) are) ∙ here)
guards_below hosts linked t None guards h g host all are here =
    planned_hosts hosts linked t h g (guards h) host (are.0 h host) here

-- nodes can follow a guard graph of an epoch that lists hosts alone
pub epoch_there : (hosts : ℕ) (linked : ℕ → ℕ → Bool) (epoch : Epoch) (graph : GuardGraph) → IsGraphOf hosts linked epoch graph
    → HasHosts hosts epoch → IsSmall graph → IsEpoch hosts graph
epoch_there hosts linked epoch graph is listed small = record {
  liars = small.t;
  some_credit = small.some;
  credit = small.credit;
  within = λ h g host here. guards_below hosts linked (thresholds_of hosts epoch) epoch.guards (guards_in graph.guards) h g host listed is.guards here;
  own = is.good.own;
}
