use Rattle.std.proofs.Common.{◌+◌, subst, sym, ap, ◌∙◌}
use Rattle.nys_outside.specs.declared.got.Got.TheVariants as got
use Rattle.nys_carry.specs.Carrying.{Carries}
use Rattle.nys_carry.specs.Polling.{with_polled}
use Rattle.nys_carry.specs.declared.polling.Polled.TheVariants as polls
use Rattle.nys_carry.proofs.CarryLemmas.{carries_polled}
use Rattle.nys_carry.proofs.polling.poll.Goals as goal

-- a frame was given
pub returns-in-Frame-clause-carries : goal.returns-in-Frame-clause-carries
returns-in-Frame-clause-carries g c = λ honest past all lost carries.
    subst (λ n. Carries honest past (with_polled c.args.from c.args.to polls.Frame c.poll.new.buf.items n all) (g.L.Links.told c.poll.new.self) (g.L.Links.faults c.poll.new.self)) lost
    (carries_polled honest past c.args.from c.args.to got.Frame c.poll.new.buf.items all (g.L.Links.told c.args.links.now) (g.L.Links.told c.poll.new.self)
    (g.L.Links.faults c.args.links.now) (g.L.Links.faults c.poll.new.self) c.in-Frame.ensures.frames c.in-Frame.ensures.cause carries)

-- the poll failed
pub returns-in_ok-lost-in-Failed-clause-carries : goal.returns-in_ok-lost-in-Failed-clause-carries
returns-in_ok-lost-in-Failed-clause-carries g c = λ honest past all lost carries.
    subst (λ n. Carries honest past (with_polled c.args.from c.args.to polls.Nothing c.poll.new.buf.items n all) (g.L.Links.told c.poll.new.self) (g.L.Links.faults c.poll.new.self))
    (ap (λ n. n + 1) lost ∙ sym c.in_ok-lost-in-Failed.ensures)
    (carries_polled honest past c.args.from c.args.to got.Failed c.poll.new.buf.items all (g.L.Links.told c.args.links.now) (g.L.Links.told c.poll.new.self)
    (g.L.Links.faults c.args.links.now) (g.L.Links.faults c.poll.new.self) c.in-Failed.ensures.frames c.in-Failed.ensures.cause carries)
