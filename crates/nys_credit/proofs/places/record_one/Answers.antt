-- The head of one link is recorded.
use Rattle.std.proofs.Common.{cond, ◌==◌, ◌∙◌, ap, sym, length, Some, None}
use Rattle.std.specs.Option.{option_or}
use Rattle.nys_votes.specs.Seats.{seat_of}
use Rattle.nys_credit.proofs.RecordLemmas.{seat_length, seat_put}
use Rattle.nys_credit.proofs.places.record_one.Goals as goal

pub returns-then-contains-clause-len : goal.returns-then-contains-clause-len
returns-then-contains-clause-len c =
    ap (λ seats. length seats) c.keep.ensures.kept ∙ seat_length c.args.p c.args.since c.args.heads.now

pub returns-then-contains-clause-each : goal.returns-then-contains-clause-each
returns-then-contains-clause-each c = λ q.
    ap (λ seats. seat_of seats q) c.keep.ensures.kept ∙ seat_put c.args.p c.args.since c.args.heads.now c.requires.seat q
    ∙ ap (λ b. cond (q == c.args.p) (option_or (seat_of c.args.heads.now c.args.p) (cond b (Some c.args.since) None)) (seat_of c.args.heads.now q))
    (sym c.if-contains.true ∙ c.contains.ensures)
