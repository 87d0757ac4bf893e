use Rattle.std.proofs.Common.{ap, subst, ◌∙◌, arith}
use Rattle.nys_wire.specs.Answers.{GivesAll}
use Rattle.nys_wire.specs.Reading.{whole_record}
use Rattle.nys_wire.proofs.Wholes.{is_found, whole_again}
use Rattle.nys_wire.proofs.decoding.decode.Goals as goal

pub returns-clause-found : goal.returns-clause-found
returns-clause-found c = is_found c.args.bytes.now c.whole.result (λ i. omega (arith, c.type_inv.bytes i)) c.whole.ensures

pub returns-clause-only : goal.returns-clause-only
returns-clause-only c = λ r fits e. subst (λ f. GivesAll c.whole.result f) (ap whole_record e ∙ whole_again r fits) c.whole.ensures
