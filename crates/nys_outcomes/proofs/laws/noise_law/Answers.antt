-- The law, at any setting.
use Rattle.nys_outcomes.proofs.NoiseEvents.{left_out, stays_with_noise}
use Rattle.nys_outcomes.proofs.NoiseLemmas.{noise_changes_nothing}
use Rattle.nys_outcomes.proofs.laws.noise_law.Goals as goal

pub returns : goal.returns
returns g c = record {
  nothing = λ setting. noise_changes_nothing setting;
  stays = λ setting. stays_with_noise setting;
  only = λ setting. left_out setting;
}
