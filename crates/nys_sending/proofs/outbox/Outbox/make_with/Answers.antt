use Rattle.std.proofs.Common.{subst, sym}
use Rattle.nys_sending.proofs.OwnLemmas.{whole_with}
use Rattle.nys_stmt.specs.Records.{IsWhole}
use Rattle.nys_sending.proofs.outbox.Outbox.make_with.Goals as goal

-- where the record is sent to another party it has tags
pub send-requires : goal.send-requires
send-requires c = λ sent. subst IsWhole (sym c.in_ok-own.ensures)
    (whole_with c.args.maker c.args.statement c.args.tags c.requires.range (c.requires.some sent))
