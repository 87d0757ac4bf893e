-- the answer of `verify` that was written is one to a run text, and those of `replay` and `trace` tell a run
use Rattle.std.proofs.Common.{◌≡◌, ◌≤◌, ◌⊎◌, inl, rules, arith}
use Rattle.nys_top.proofs.ComingInputs.{input_coming}
use Rattle.nys_top.proofs.CompleteLemmas.{complete}
use Rattle.nys_top.proofs.EvidentInputs.{input_evident}
use Rattle.nys_top.proofs.PrintedLemmas.{printed}
use Rattle.nys_top.proofs.ShownInputs.{input_shown}
use Rattle.nys_top.proofs.TracedLemmas.{traced}
use Rattle.nys_top.proofs.VerifiedLemmas.{verified}
use Rattle.nys_top.proofs.running.run.Goals as goal

pub returns-in-Ok-clause-verified : goal.returns-in-Ok-clause-verified
returns-in-Ok-clause-verified g c = λ named low.
    let own : (c.finish.result ≤ 10) ⊎ (c.finish.result ≡ 15) = inl (omega (arith, low)) in
    verified c.args.words.now _ _ _ _ c.finish.result (search rules) named low

pub returns-in-Ok-clause-printed : goal.returns-in-Ok-clause-printed
returns-in-Ok-clause-printed g c = λ named done.
    let own : (c.finish.result ≤ 10) ⊎ (c.finish.result ≡ 15) = inl (omega (arith, done)) in
    printed c.args.words.now _ _ _ _ c.finish.result (search rules) named done

pub returns-in-Ok-clause-traced : goal.returns-in-Ok-clause-traced
returns-in-Ok-clause-traced g c = λ named done.
    let own : (c.finish.result ≤ 10) ⊎ (c.finish.result ≡ 15) = inl (omega (arith, done)) in
    traced c.args.words.now _ _ _ _ c.finish.result (search rules) named done

pub returns-in-Ok-clause-answered : goal.returns-in-Ok-clause-answered
returns-in-Ok-clause-answered g c = search rules

pub returns-in-Ok-clause-read : goal.returns-in-Ok-clause-read
returns-in-Ok-clause-read g c = search rules

pub returns-in-Ok-clause-write : goal.returns-in-Ok-clause-write
returns-in-Ok-clause-write g c = search rules

pub returns-in-Ok-clause-never : goal.returns-in-Ok-clause-never
returns-in-Ok-clause-never g c = search rules

pub returns-in-Ok-clause-complete : goal.returns-in-Ok-clause-complete
returns-in-Ok-clause-complete g c = λ passes source sink.
    complete c.args.words.now _ _ _ _ c.finish.result _ _ (returns-in-Ok-clause-answered g c) (returns-in-Ok-clause-read g c)
    (returns-in-Ok-clause-write g c) (returns-in-Ok-clause-never g c) passes source sink

pub returns-in-Ok-clause-routes : goal.returns-in-Ok-clause-routes
returns-in-Ok-clause-routes g c = λ input. input_shown input

pub returns-in-Err-Read-clause-routes : goal.returns-in-Err-Read-clause-routes
returns-in-Err-Read-clause-routes g c = λ input. input_shown input

pub returns-in-Err-NoMemory-clause-routes : goal.returns-in-Err-NoMemory-clause-routes
returns-in-Err-NoMemory-clause-routes g c = λ input. input_shown input

pub returns-in-Ok-clause-evident : goal.returns-in-Ok-clause-evident
returns-in-Ok-clause-evident g c = λ input. input_evident input

pub returns-in-Err-Read-clause-evident : goal.returns-in-Err-Read-clause-evident
returns-in-Err-Read-clause-evident g c = λ input. input_evident input

pub returns-in-Err-NoMemory-clause-evident : goal.returns-in-Err-NoMemory-clause-evident
returns-in-Err-NoMemory-clause-evident g c = λ input. input_evident input

pub returns-in-Ok-clause-comes : goal.returns-in-Ok-clause-comes
returns-in-Ok-clause-comes g c = λ input. input_coming input

pub returns-in-Err-Read-clause-comes : goal.returns-in-Err-Read-clause-comes
returns-in-Err-Read-clause-comes g c = λ input. input_coming input

pub returns-in-Err-NoMemory-clause-comes : goal.returns-in-Err-NoMemory-clause-comes
returns-in-Err-NoMemory-clause-comes g c = λ input. input_coming input
