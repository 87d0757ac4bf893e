-- What is logged at the hosts of a world.
use Rattle.std.proofs.Common.{◌≡◌, ℕ, ◌<◌, true, false, List, [], ◌∷◌, ap, sym, ◌∙◌}
use Rattle.std.specs.List.{range_with_len}
use Rattle.nys_config.specs.Scopes.{scope_of}
use Rattle.nys_rules.specs.Olympus.{hosts_of}
use Rattle.nys_rules.specs.World.{is_honest, World}
use Rattle.nys_source.specs.Rules.{Rules}
use Rattle.nys_workload_command.proofs.SumLemmas.{sum_one, sum_other}
use Rattle.nys_workload_command.specs.Logged.{entries_in, logged, logged_in}
use Rattle.nys_world.proofs.PlaceLemmas.{honest_party}
use Rattle.nys_world.specs.Shows.{is_honest_host, setting_of}
use Rattle.nys_world.specs.declared.stage.Stage.{Stage}

-- an honest host has the entries of its node
pub honest_logged : {P S : Type 0} (rules : Rules S) (stage : Stage P S) (w : World) (g hosts sum : ℕ) → g < 32 → hosts ≡ rules.hosts
    → is_honest_host (setting_of rules stage) g ≡ true → sum ≡ entries_in (w.nodes g) (range_with_len 0 hosts)
    → sum ≡ logged_in (setting_of rules stage) w (g ∷ [])
unfolding scope_of
honest_logged rules stage w g hosts sum below all honest is =
    let setting = setting_of rules stage in
    is
    ∙ ap (λ n. entries_in (w.nodes g) (range_with_len 0 n)) all
    ∙ sym (sum_one (λ h. entries_in (w.nodes h) (hosts_of setting.scope)) (is_honest setting) g (honest_party setting g below ∙ honest))

-- a liar has none
pub liar_logged : {P S : Type 0} (rules : Rules S) (stage : Stage P S) (w : World) (g : ℕ) → g < 32
    → is_honest_host (setting_of rules stage) g ≡ false → 0 ≡ logged_in (setting_of rules stage) w (g ∷ [])
liar_logged rules stage w g below lies =
    let setting = setting_of rules stage in
    sym (sum_other (λ h. entries_in (w.nodes h) (hosts_of setting.scope)) (is_honest setting) g (honest_party setting g below ∙ lies))

-- so many hosts are all
pub all_logged : {P S : Type 0} (rules : Rules S) (stage : Stage P S) (w : World) (hosts sum : ℕ) → hosts ≡ rules.hosts
    → sum ≡ logged_in (setting_of rules stage) w (range_with_len 0 hosts) → sum ≡ logged (setting_of rules stage) w
unfolding scope_of
all_logged rules stage w hosts sum all is = is ∙ ap (λ n. logged_in (setting_of rules stage) w (range_with_len 0 n)) all
