use Rattle.std.proofs.Common.{◌≡◌, ◌+◌, ◌*◌, ap, length, arith, rules}
use Rattle.std.specs.Fmt.{decimal}
use Rattle.nys_rules.specs.Events.{plain}
use Rattle.nys_rules.specs.Events.Plain.{Bytes}
use Rattle.nys_schedule_text.proofs.LengthLemmas.{bytes_length}
use Rattle.nys_schedule_text.specs.EventLines.{event_line}
use Rattle.nys_schedule_text.proofs.length.line_len.Goals as goal

-- the parts of the line
pub returns-in-Bytes : goal.returns-in-Bytes
returns-in-Bytes c =
    let is : plain c.args.event.now ≡ Bytes c.in-Bytes.to c.in-Bytes.frame.items = ap plain c.in-Bytes.is in
    let line = bytes_length c.in-Bytes.to c.in-Bytes.frame.items in
    rw is (omega (arith, line, c.number_len-in-Bytes.ensures.size, c.len.ensures))
