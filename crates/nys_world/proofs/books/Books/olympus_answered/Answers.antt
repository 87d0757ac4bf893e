use Rattle.nys_rules.specs.World.{with_note}
use Rattle.nys_world.proofs.books.Books.olympus_answered.Goals as goal

-- the note is told first
pub returns : goal.returns
returns c = λ w o keeps. c.olympus_acted.ensures (with_note c.args.kind w) o (c.in_ok-note.ensures w keeps)
