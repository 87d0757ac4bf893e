-- An own payload makes no seat.
use Rattle.std.proofs.Common.{sym, ap, ◌∙◌, length}
use Rattle.std.specs.Prelude.{option_copied}
use Rattle.nys_attest.specs.Windows.{seats_in}
use Rattle.nys_attest.proofs.OwnLemmas.{own_length}
use Rattle.nys_attest.proofs.heard.Heard.len.Goals as goal

pub returns-in-Some-clause-len : goal.returns-in-Some-clause-len
returns-in-Some-clause-len c =
    rw (← c.self.view_is)
    (c.len.ensures.len ∙ ap (λ o. length (seats_in (option_copied o))) (sym c.in-Some.is)
    ∙ sym (own_length c.self.inside.me (option_copied c.self.inside.own) (seats_in (option_copied c.self.inside.seats))))

pub returns-in-None-clause-len : goal.returns-in-None-clause-len
returns-in-None-clause-len c =
    rw (← c.self.view_is)
    (ap (λ o. length (seats_in (option_copied o))) (sym c.in-None.is)
    ∙ sym (own_length c.self.inside.me (option_copied c.self.inside.own) (seats_in (option_copied c.self.inside.seats))))
