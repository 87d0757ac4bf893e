-- All links were looked at.
use Rattle.std.proofs.Common.{rules, ◌≤◌, cond, Some, None}
use Rattle.std.specs.Option.{option_or}
use Rattle.nys_hosts.specs.Sets.{has}
use Rattle.nys_votes.specs.Seats.{seat_of}
use Rattle.nys_credit.proofs.RecordLemmas.{all_filled}
use Rattle.nys_credit.proofs.places.record.Goals as goal

pub returns : goal.returns
returns c =
    let most : 32 ≤ c.loop-p.p = search rules in
    all_filled (λ q. option_or (seat_of c.args.heads.now q) (cond (has c.args.links q) (Some c.args.since) None)) (seat_of c.args.heads.now)
    c.loop-p.heads 32 c.loop-p.p c.loop-p.invariant.1 most c.loop-p.invariant.0
