-- Where no seats are kept, nothing is kept of a maker.
use Rattle.std.proofs.Common.{sym, ap, ◌∙◌}
use Rattle.std.specs.Prelude.{option_copied}
use Rattle.nys_votes.specs.Seats.{seat_of}
use Rattle.nys_attest.specs.Windows.{seats_in}
use Rattle.nys_attest.proofs.PlaceLemmas.{empty_seat}
use Rattle.nys_attest.proofs.kept.seat_at.Goals as goal

pub returns-in-None : goal.returns-in-None
returns-in-None c = sym (ap (λ o. seat_of (seats_in (option_copied o)) c.args.maker) c.in-None.is ∙ empty_seat c.args.maker)
