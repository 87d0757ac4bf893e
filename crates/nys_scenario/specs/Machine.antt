-- What the text of a machine is: its tokens, their tree, and a place at each name; or the first fault.
use Rattle.std.specs.Prelude.{ℕ, List}
use Rattle.nys_lex.specs.Tokens.{tokens}
use Rattle.nys_names.specs.Names.{Outcome, go_on}
use Rattle.nys_names.specs.Stmts.{check}
use Rattle.nys_parse.specs.Statements.{parse}
use Rattle.nys_tree.specs.declared.machine.Machine.{Machine}

-- the machine that a text writes: the whole text is cut, then read, then its names are tested
unfoldable pub machine_of : List ℕ → Outcome Machine
machine_of text = go_on (tokens text) (λ found. go_on (parse found) check)
