use Rattle.std.proofs.Common.{sym, ◌∙◌}
use Rattle.nys_lex.specs.declared.lexeme.Lexeme.TheVariants.{Gap, Found}
use Rattle.nys_lex.proofs.CutLemmas.{gap_step, found_step, refused_step}
use Rattle.nys_lex.proofs.LexemeLemmas.{text_stands}
use Rattle.nys_lex.proofs.cutting.take_lexeme.Goals as goal

-- a gap stands in the text
pub returns-in-Gap-clause-within : goal.returns-in-Gap-clause-within
returns-in-Gap-clause-within c = text_stands c.args.text.now (Gap c.in-Gap.len) c.requires (sym c.in_ok-len.ensures.value ∙ c.in-Gap.is)

-- a token stands in the text
pub returns-in_ok-push-in-Found-clause-within : goal.returns-in_ok-push-in-Found-clause-within
returns-in_ok-push-in-Found-clause-within c = text_stands c.args.text.now (Found c.in-Found.kind c.in-Found.len) c.requires (sym c.in_ok-len.ensures.value ∙ c.in-Found.is)

-- a gap is passed over
pub returns-in-Gap-clause-ok : goal.returns-in-Gap-clause-ok
returns-in-Gap-clause-ok c = gap_step c.args.place c.args.text.now c.in-Gap.len c.args.found.now.items c.requires (sym c.in_ok-len.ensures.value ∙ c.in-Gap.is)

-- a token joins those before it
pub returns-in_ok-push-in-Found-clause-ok : goal.returns-in_ok-push-in-Found-clause-ok
returns-in_ok-push-in-Found-clause-ok c =
    rw c.in_ok-push-in-Found.ensures (found_step c.args.place c.args.text.now c.in-Found.kind c.in-Found.len c.args.found.now.items c.requires (sym c.in_ok-len.ensures.value ∙ c.in-Found.is))

-- a fault that stands first is the text's
pub returns-in-Refused-clause-err : goal.returns-in-Refused-clause-err
returns-in-Refused-clause-err c =
    λ _. rw c.fault_at.ensures (refused_step c.args.place c.args.text.now c.in-Refused.kind c.requires (sym c.in_ok-len.ensures.value ∙ c.in-Refused.is))
