-- The stops behind a run, one host after another.
use Rattle.std.proofs.Common.{◌≡◌, ℕ, ◌+◌, ◌-◌, ◌<◌, ◌++◌, Bool, List, [], ◌∷◌, ap, sym, ◌∙◌}
use Rattle.std.proofs.lemmas.List.Concat.{flat_map_single}
use Rattle.std.specs.List.{range_with_len}
use Rattle.std.specs.Prelude.{filter}
use Rattle.nys_report.proofs.PickedLemmas.{picked, picked_on}
use Rattle.nys_report.specs.Parts.{stops_of}
use Rattle.nys_source.specs.declared.step.Step.{Step}
use Rattle.nys_source.specs.declared.step.Step.TheVariants.{Stop}

-- a stop for each host that passes is what each of them gives, one stop
stops_picked : (p : ℕ → Bool) (hosts : List ℕ) → stops_of p hosts ≡ picked (λ h. Stop h ∷ []) p hosts
stops_picked p hosts = sym (flat_map_single Stop (filter p hosts))

-- steps that have the stop of a host behind them, then the other stops, are steps with all stops from the host on
pub stops_on : (p : ℕ → Bool) (h hosts : ℕ) (before after : List Step) → h < hosts → after ≡ before ++ stops_of p (h ∷ [])
    → after ++ stops_of p (range_with_len (h + 1) (hosts - (h + 1))) ≡ before ++ stops_of p (range_with_len h (hosts - h))
stops_on p h hosts before after inside more =
    ap (λ t. after ++ t) (stops_picked p (range_with_len (h + 1) (hosts - (h + 1))))
    ∙ picked_on (λ g. Stop g ∷ []) p h hosts before after inside (more ∙ ap (λ t. before ++ t) (stops_picked p (h ∷ [])))
    ∙ ap (λ t. before ++ t) (sym (stops_picked p (range_with_len h (hosts - h))))
