use Rattle.std.proofs.Common.{length, refl, ap, ◌∙◌}
use Rattle.nys_source.specs.Tables.{lists_at}
use Rattle.nys_olympus.proofs.NextEpoch.{view_next}
use Rattle.nys_olympus.proofs.olympus.Olympus.next_epoch.Goals as goal

-- nothing is reported yet, and each log begins where it was decided
pub returns : goal.returns
returns g c = λ scope o view later.
    view_next scope c.args.self.now _ o view later refl refl c.empty-self.ensures refl c.lengths_of-base.ensures.size
    (λ h n at. c.lengths_of-base.ensures.each h n at ∙ ap (λ logs. length (lists_at logs h)) c.as_slice.ensures.value) refl c.in_ok-reports.ensures c.in_ok-frozen.ensures
