use Rattle.std.proofs.lemmas.Result.{on_ok_weaker}
use Rattle.nys_olympus.proofs.Views.{view_reports}
use Rattle.nys_olympus.proofs.olympus.Olympus.note_reports.Goals as goal

-- the docket of one host changes
pub returns : goal.returns
returns g c = on_ok_weaker c.note_all.result
    (λ changed scope o view. view_reports scope c.args.self.now o c.args.h c.args.slot c.args.content.now c.args.makers.now c.index_mut.result.now c.note_all.new.self
    c.requires.host c.requires.slot c.requires.range c.index_mut.ensures.value changed view)
    c.note_all.ensures
