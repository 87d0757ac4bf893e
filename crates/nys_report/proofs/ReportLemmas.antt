-- The report of a world, put together of its sections.
use Rattle.std.proofs.Common.{◌≡◌, ℕ, ◌≤◌, ◌++◌, Bool, List, ap, arith, subst, sym, ◌∙◌}
use Rattle.std.proofs.lemmas.List.{append_assoc}
use Rattle.std.specs.Prelude.{codes}
use Rattle.nys_report.proofs.AlikeLemmas.{same_report}
use Rattle.nys_report.proofs.ShownLemmas.{short_shown}
use Rattle.nys_report.proofs.SpelledLemmas.{printed_stopped, spelled_countable}
use Rattle.nys_report.specs.Countable.{IsCountable}
use Rattle.nys_printed.specs.Lines.{notes_text, run_and_hosts}
use Rattle.nys_printed.specs.Report.{guards_text, report}
use Rattle.nys_report.specs.Parts.{stopped_run}
use Rattle.nys_report.specs.Spelled.{HasSpelled}
use Rattle.nys_rules.specs.Spelling.{printed_run, SpellsLogs}
use Rattle.nys_rules.specs.World.{World}
use Rattle.nys_config.specs.Scopes.{scope_of}
use Rattle.nys_source.specs.Rules.{Rules}
use Rattle.nys_source.specs.Runs.{IsRun}
use Rattle.nys_source.specs.declared.step.Step.{Step}
use Rattle.nys_world.specs.Shows.{setting_of}
use Rattle.nys_world.specs.Worlds.{IsWorldOf}
use Rattle.nys_world.specs.declared.world.World as made

-- the printed run, where the steps and the hosts that are given up are at hand
pub printed_here : {P S : Type 0} (rules : Rules S) (world : made.World P S) (w : World) (hosts : ℕ) (retired : ℕ → Bool) (steps : List Step)
    → hosts ≡ rules.hosts → ((h : ℕ) → retired h ≡ w.olympus.retired h) → steps ≡ w.run
    → printed_run (scope_of rules world.stage.cx) w ≡ stopped_run hosts retired steps
unfolding scope_of
printed_here rules world w hosts retired steps all same ran =
    printed_stopped (scope_of rules world.stage.cx) w retired same
    ∙ ap (λ run. stopped_run rules.hosts retired run) (sym ran)
    ∙ ap (λ n. stopped_run n retired steps) (sym all)

-- the printed run of a world that spells its logs is a run, and can be counted
run_told : {P S : Type 0} (rules : Rules S) (world : made.World P S) (w : World) → rules.hosts ≤ 32 → IsWorldOf rules world w
    → SpellsLogs (setting_of rules world.stage) w
    → IsRun rules (printed_run (scope_of rules world.stage.cx) w) × IsCountable rules (printed_run (scope_of rules world.stage.cx) w)
unfolding scope_of
run_told rules world w few is spells =
    (spells.is_run, spelled_countable (setting_of rules world.stage) w spells (short_shown (setting_of rules world.stage) world.moment w few is.shows))

-- so are the steps that are at hand, with a stop for each host that is given up
pub run_here : {P S : Type 0} (rules : Rules S) (world : made.World P S) (hosts : ℕ) (retired : ℕ → Bool) (steps : List Step)
    → hosts ≡ rules.hosts → hosts ≤ 32 → HasSpelled rules world
    → ((w : World) → IsWorldOf rules world w → (h : ℕ) → retired h ≡ w.olympus.retired h) → ((w : World) → IsWorldOf rules world w → steps ≡ w.run)
    → IsRun rules (stopped_run hosts retired steps) × IsCountable rules (stopped_run hosts retired steps)
run_here rules world hosts retired steps all few spelled same ran =
    let w = spelled.0 in
    subst (λ run. IsRun rules run × IsCountable rules run)
    (printed_here rules world w hosts retired steps all (same w spelled.1) (ran w spelled.1))
    (run_told rules world w (omega (arith, all, few)) spelled.1 spelled.2)

-- a title, then lines
pub titled : (before first after title lines : List ℕ) → first ≡ before ++ title → after ≡ first ++ lines → after ≡ before ++ (title ++ lines)
titled before first after title lines begun more = more ∙ ap (λ t. t ++ lines) begun ∙ append_assoc before title lines

-- the sections, one after another, are the report
pub sections_told : {P S : Type 0} (rules : Rules S) (world : made.World P S) (w : World) (before first second after : List ℕ)
    → first ≡ before ++ run_and_hosts rules (printed_run (scope_of rules world.stage.cx) w)
    → second ≡ first ++ (codes "guards\n" ++ guards_text (setting_of rules world.stage) w)
    → after ≡ second ++ (codes "notes\n" ++ (notes_text w.notes ++ codes "end\n"))
    → after ≡ before ++ report (setting_of rules world.stage) w
unfolding scope_of report
sections_told rules world w before first second after ran guarded noted =
    let run = run_and_hosts rules (printed_run (scope_of rules world.stage.cx) w) in
    let title = codes "guards\n" in
    let guards = guards_text (setting_of rules world.stage) w in
    let notes = codes "notes\n" ++ (notes_text w.notes ++ codes "end\n") in
    noted
    ∙ ap (λ t. t ++ notes) (guarded ∙ ap (λ t. t ++ (title ++ guards)) ran)
    ∙ append_assoc (before ++ run) (title ++ guards) notes
    ∙ ap (λ t. (before ++ run) ++ t) (append_assoc title guards notes)
    ∙ append_assoc before run (title ++ (guards ++ notes))

-- what is the report of one world of the program is that of each
pub told_of_each : {P S : Type 0} (rules : Rules S) (world : made.World P S) (w v : World) (before after : List ℕ) → rules.hosts ≤ 32
    → IsWorldOf rules world w → IsWorldOf rules world v
    → after ≡ before ++ report (setting_of rules world.stage) w → after ≡ before ++ report (setting_of rules world.stage) v
unfolding scope_of
told_of_each rules world w v before after few first second told =
    told ∙ ap (λ t. before ++ t) (same_report (setting_of rules world.stage) world.moment w v few first.shows second.shows)
