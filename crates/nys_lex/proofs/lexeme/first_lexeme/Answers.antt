use Rattle.nys_lex.proofs.AsciiLemmas.{name_run_ascii}
use Rattle.nys_lex.proofs.lexeme.first_lexeme.Goals as goal

-- a name is the longest run of a name's bytes
pub word-requires : goal.word-requires
word-requires c = rw c.run_of-then-is_letter.ensures.value (name_run_ascii c.args.text.now)
