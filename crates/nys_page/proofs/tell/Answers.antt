use Rattle.std.proofs.Common.{rules, ◌≡◌, ◌∷◌, [], Some}
use Rattle.nys_page.proofs.ToldLemmas.{told}
use Rattle.nys_page.proofs.tell.Goals as goal

-- the one word that was asked asks for the same as the bytes
pub returns-clause-told : goal.returns-clause-told
returns-clause-told c memory =
    let asked : c.as_slice.result.now ≡ c.word_of.result.now ∷ [] = search rules in
    told c.as_slice.result.now (c.args.word.now ∷ []) c.args.document.now c.new-text.result c.run-status.new.out
    c.in_ok-input.input (Some c.run-status.new.input) c.run-status.result (rw asked c.word_of.ensures.same)
    c.in_ok-input.ensures c.new-text.ensures c.run-status.ensures.answered c.run-status.ensures.read
    c.run-status.ensures.write c.run-status.ensures.never memory
