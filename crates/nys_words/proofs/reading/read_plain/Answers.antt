-- what is answered to the first word and those after it is answered to all
use Rattle.std.proofs.Common.{Err, map, Ok, sym, ap, ◌∙◌, refl, option_map}
use Rattle.nys_words.proofs.RequestLemmas.{or_none, plain_answer}
use Rattle.nys_words.proofs.reading.read_plain.Goals as goal

pub returns-in-Ok-clause-request : goal.returns-in-Ok-clause-request
returns-in-Ok-clause-request c =
    plain_answer c.args.words.now c.in-Some.word.now _ (Ok c.in-Ok.request)
    (ap (option_map (λ w. w.now)) (sym c.in-Some.is) ∙ c.get_str.ensures ∙ c.in_ok-matches.ensures.command)
    (or_none (λ s. map (λ w. w.now) s.now) c.get_strs.result _ _ _ c.unwrap_or-values.ensures refl (c.get_strs.ensures ∙ c.in_ok-matches.ensures.values))
    (sym c.in-Ok.is ∙ c.request_of.ensures)

pub returns-clause-refused : goal.returns-clause-refused
returns-clause-refused c =
    plain_answer c.args.words.now c.in-Some.word.now _ (Err c.in-Err.place)
    (ap (option_map (λ w. w.now)) (sym c.in-Some.is) ∙ c.get_str.ensures ∙ c.in_ok-matches.ensures.command)
    (or_none (λ s. map (λ w. w.now) s.now) c.get_strs.result _ _ _ c.unwrap_or-values.ensures refl (c.get_strs.ensures ∙ c.in_ok-matches.ensures.values))
    (sym c.in-Err.is ∙ c.request_of.ensures)
