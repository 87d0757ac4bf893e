use Rattle.std.proofs.Common.{refl, arith}
use Rattle.std.proofs.lemmas.List.Elements.{All-nil}
use Rattle.nys_config.specs.Scopes.{scope_of}
use Rattle.nys_stmt.specs.Ranges.{IsContentInRange}
use Rattle.nys_olympus.proofs.Rows.{none_reported, row_table}
use Rattle.nys_olympus.proofs.olympus.Olympus.new.Goals as goal

-- nothing is known yet
pub returns : goal.returns
unfolding scope_of
returns g c = record {
  view = record {
    means = record {
      epoch = refl;
      within = c.requires.config.some;
      wedged = refl;
      decided_now = c.empty.ensures;
      retired = c.empty-2.ensures;
      base = row_table _ 32 0 refl refl;
      decided = c.in_ok-decided.ensures;
      reports = none_reported _ c.in_ok-reports.ensures;
      frozen = c.in_ok-frozen.ensures;
    };
    sound = record {
      base = λ h. omega arith;
      short = λ h. omega arith;
      contents = λ h. All-nil IsContentInRange;
      even = λ h open_yet. refl;
      reports = λ h slot. All-nil (λ r. IsContentInRange r.content);
      past = λ h slot behind. refl;
    };
  };
}
