-- What is heard of a maker, and of the node itself its own payload where nothing is.
use Rattle.std.proofs.Common.{rules, ◌≡◌, ◌≢◌, ◌<◌, sym, ap, length, arith}
use Rattle.std.specs.Prelude.{option_copied}
use Rattle.nys_attest.specs.Windows.{seats_in}
use Rattle.nys_attest.proofs.OwnLemmas.{own_counts, own_kept, own_length, own_other}
use Rattle.nys_attest.proofs.heard.Heard.get.Goals as goal

pub returns-in-Some : goal.returns-in-Some
returns-in-Some c =
    rw (← c.self.view_is)
    (own_kept c.self.inside.me (option_copied c.self.inside.own) (seats_in (option_copied c.self.inside.seats)) c.args.maker
    c.in-Some.payload.now (sym c.in-Some.ensures))

pub returns-then-maker-self : goal.returns-then-maker-self
returns-then-maker-self c =
    let same : c.args.maker ≡ c.self.inside.me = search rules in
    rw (← c.self.view_is)
    (own_counts c.self.inside.me (option_copied c.self.inside.own) (seats_in (option_copied c.self.inside.seats)) c.args.maker
    c.in-None.ensures same
    (omega (
      arith,
      c.requires.seat,
      ap (λ seats. length seats) c.self.view_is,
      own_length c.self.inside.me (option_copied c.self.inside.own) (seats_in (option_copied c.self.inside.seats)),
    )))

pub returns-else-maker-self : goal.returns-else-maker-self
returns-else-maker-self c =
    let differ : c.args.maker ≢ c.self.inside.me = search rules in
    rw (← c.self.view_is)
    (own_other c.self.inside.me (option_copied c.self.inside.own) (seats_in (option_copied c.self.inside.seats)) c.args.maker
    c.in-None.ensures differ)
