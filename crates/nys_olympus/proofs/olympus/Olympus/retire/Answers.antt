use Rattle.std.proofs.Common.{◌∙◌, sym, true}
use Rattle.nys_source.specs.Tables.{put}
use Rattle.nys_olympus.proofs.Decisions.{retires_not, retires_now}
use Rattle.nys_olympus.proofs.Views.{view_retired}
use Rattle.nys_olympus.proofs.olympus.Olympus.retire.Goals as goal

-- nothing more can change about the host
pub returns-then-is_settled : goal.returns-then-is_settled
returns-then-is_settled g c = record {
  retires = λ scope o view. (
    o,
    view,
    retires_not o c.args.h (sym view.means.wedged ∙ c.if-not-self.false) (sym (c.is_settled.ensures scope o view) ∙ c.if-is_settled.true),
  );
}

-- the host is given up
pub returns : goal.returns
returns g c = record {
  retires = λ scope o view. (
    record o { retired = put o.retired c.args.h true },
    view_retired scope c.args.self.now o c.args.h _ c.with-self.ensures view,
    retires_now o c.args.h (sym view.means.wedged ∙ c.if-not-self.false) (sym (c.is_settled.ensures scope o view) ∙ c.if-is_settled.false),
  );
}
