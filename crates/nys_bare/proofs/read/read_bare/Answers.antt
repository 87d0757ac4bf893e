use Rattle.nys_bare.proofs.ScheduleLemmas.{schedule_read, schedule_refused}
use Rattle.nys_bare.proofs.read.read_bare.Goals as goal

pub returns-in-Ok-clause-ok : goal.returns-in-Ok-clause-ok
returns-in-Ok-clause-ok c = schedule_read c.args.hosts c.args.text.now c.in-Ok.events.items c.in-Ok.ensures.ok

pub returns-in-Err-clause-err : goal.returns-in-Err-clause-err
returns-in-Err-clause-err c = rw c.schedule_fault.ensures (schedule_refused c.args.hosts c.args.text.now c.in-Err.fault c.in-Err.ensures.err)
