-- no number is greater than the messages before it
use Rattle.std.proofs.Common.{arith}
use Rattle.nys_source_commands.specs.Numbers.{link_of}
use Rattle.nys_source_commands.proofs.NumberLemmas.{number-le}
use Rattle.nys_source_commands.proofs.numbering.number_at.Goals as goal

pub returns-clause-few : goal.returns-clause-few
returns-clause-few c =
    omega (arith, c.requires.numbers.each c.args.k c.requires.here, number-le c.args.messages.now c.args.k (link_of c.args.messages.now c.args.k))
