-- the receive that was found is the one of the messages that the run has sent
use Rattle.std.proofs.Common.{◌≡◌, ℕ, List, Some, ap, subst, sym, ◌∙◌}
use Rattle.std.specs.Prelude.{slice_get}
use Rattle.nys_source_commands.specs.BareRun.{receive_of}
use Rattle.nys_source_commands.proofs.bare_run.BareRun.deliver.Goals as goal

pub returns-in-Some-clause-run : goal.returns-in-Some-clause-run
returns-in-Some-clause-run g c =
    let messages = c.messages.ensures.value ∙ ap (λ s. s.messages) c.requires.system in
    let Found : List (ℕ × ℕ) → Type 0 = λ ms. receive_of ms c.args.k (slice_get ms c.args.k) ≡ Some c.in-Some.step in
    rw (subst Found messages (sym c.in-Some.ensures.step)) c.take.ensures.run

pub returns-in-Some-clause-end : goal.returns-in-Some-clause-end
returns-in-Some-clause-end g c =
    let messages = c.messages.ensures.value ∙ ap (λ s. s.messages) c.requires.system in
    let Found : List (ℕ × ℕ) → Type 0 = λ ms. receive_of ms c.args.k (slice_get ms c.args.k) ≡ Some c.in-Some.step in
    rw (subst Found messages (sym c.in-Some.ensures.step)) c.take.ensures.end
