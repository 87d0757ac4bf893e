-- The text of a bare run: the run, then every host as the run leaves it.
use Rattle.std.specs.Prelude.{ℕ, ◌++◌, List, codes}
use Rattle.nys_source.specs.Rules.{Rules}
use Rattle.nys_source.specs.Runs.{after_run}
use Rattle.nys_source.specs.RunText.{steps_text}
use Rattle.nys_source.specs.declared.step.Step.{Step}
use Rattle.nys_runs.specs.HostLines.{hosts_text}

-- the text of a run
abbrev pub bare_text : {S : Type 0} → Rules S → List Step → List ℕ
bare_text rules run =
    codes "run\n" ++ (steps_text run ++ (codes "hosts\n"
    ++ (hosts_text rules (after_run rules run) 0 rules.hosts ++ codes "end\n")))
