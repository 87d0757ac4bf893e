use Rattle.nys_text.specs.Reading.{told}
use Rattle.nys_text.proofs.FirstLemmas.{first_of_all, said_of}
use Rattle.nys_text.proofs.reader.read_lines.Goals as goal

pub returns-clause-said : goal.returns-clause-said
returns-clause-said g c = said_of (g.G.Grammar.says c.args.grammar.now) c.args.most (told c.args.text.now) (λ v. v.items) c.read_each.result c.read_each.ensures.ok

pub returns-clause-first : goal.returns-clause-first
returns-clause-first g c = first_of_all (g.G.Grammar.says c.args.grammar.now) c.args.most (told c.args.text.now) c.read_each.result c.read_each.ensures.err
