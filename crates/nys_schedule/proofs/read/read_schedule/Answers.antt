use Rattle.nys_hosts.specs.Sets.{has}
use Rattle.nys_text.specs.Reading.{told}
use Rattle.nys_schedule.proofs.ReadLemmas.{events_are, schedule_read, schedule_refused}
use Rattle.nys_schedule.proofs.read.read_schedule.Goals as goal

-- a fault that was read is the schedule's
pub returns-in-Err-clause-err : goal.returns-in-Err-clause-err
returns-in-Err-clause-err c =
    rw c.schedule_fault.ensures
    (schedule_refused c.args.form c.args.hosts (has c.args.liars) c.args.text.now c.in-Err.fault c.in-Err.ensures.err)

-- the events are those that the lines say
pub returns-in-Ok-events_of-clause-ok : goal.returns-in-Ok-events_of-clause-ok
returns-in-Ok-events_of-clause-ok c =
    rw c.in-Ok-events_of.ensures
    (schedule_read c.args.form c.args.hosts (has c.args.liars) c.args.text.now c.in-Ok.said.items c.in-Ok.ensures.ok)

-- and each is one that a world takes
pub returns-in-Ok-events_of-clause-taken : goal.returns-in-Ok-events_of-clause-taken
returns-in-Ok-events_of-clause-taken c =
    events_are c.args.form c.args.hosts (has c.args.liars) (told c.args.text.now) c.in-Ok.said.items c.in-Ok-events_of.events.items
    c.in-Ok.ensures.said c.in-Ok-events_of.ensures
