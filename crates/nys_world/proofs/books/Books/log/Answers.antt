-- The log passes all logs, or not.
use Rattle.std.proofs.Common.{[], ◌∷◌, ◌++◌, refl, ap, ◌∙◌}
use Rattle.nys_world.proofs.BooksKeep.{keeps_run, keeps_slot}
use Rattle.nys_world.proofs.books.Books.log.Goals as goal

-- another log has the slot
pub returns-then-slot-self : goal.returns-then-slot-self
returns-then-slot-self c = λ w k.
    keeps_run c.args.self.now w c.args.h c.args.slot c.args.content.now k c.requires.host c.if-slot-self.true

-- this one is the first
pub returns : goal.returns
returns c = λ w k.
    keeps_slot c.args.self.now _ w c.args.h c.args.slot c.args.content.now k c.requires.host c.if-slot-self.false refl
    (c.in_ok-push.ensures.items ∙ ap (λ step. c.args.self.now.run.items ++ step ∷ []) c.in_ok-step.ensures)
    refl refl refl refl refl refl refl refl
