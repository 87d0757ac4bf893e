use Rattle.std.proofs.Common.{ap, Ok}
use Rattle.nys_node.proofs.HearLemmas.{one_heard, same_answer}
use Rattle.nys_node.proofs.attest.hear_one.Goals as goal

-- the first payload of the maker is kept
pub returns-clause-seats : goal.returns-clause-seats
returns-clause-seats c =
    one_heard c.args.table.now c.note.new.self c.args.p c.args.k c.args.maker c.args.payload.now c.in_ok-note.field-0 c.in_ok-note.ensures.answer c.requires.window
    (λ new. c.in_ok-note.ensures.kept (ap (λ a. Ok a) new)) (λ other. c.in_ok-note.ensures.same (λ new. other (same_answer _ _ new)))
