-- What is refused of steps, and what is a run of them.
use Rattle.std.proofs.Common.{◌≡◌, ℕ, zero, suc, ◌+◌, Bool, true, false, List, [], ◌∷◌, take, length, Option, Some, None, Result, Ok, Err, fold, refl, ap, sym, ◌∙◌, subst, arith}
use Rattle.std.specs.Prelude.{slice_get, if◌then◌else◌, nat_lt}
use Rattle.nys_answer.specs.declared.answer.Answer.{Answer}
use Rattle.nys_source.specs.Rules.{Rules}
use Rattle.nys_source.specs.Source.{Source, fresh}
use Rattle.nys_source.specs.Steps.{after_step, refusal}
use Rattle.nys_source.specs.Runs.{IsRunFrom}
use Rattle.nys_source.specs.declared.step.Step.{Step}
use Rattle.nys_source.specs.declared.step.NotAStep.{NotAStep}
use Rattle.nys_runs.specs.declared.fault.RunFault.{RunFault}
use Rattle.nys_runs.specs.declared.fault.RunFault.TheVariants as fault
use Rattle.nys_runs.specs.StepLines.{run_of}
use Rattle.nys_source_commands.specs.Answers.{first_refused, or_later, steps_answer, verdict, verify_answer}
use Rattle.nys_source_commands.specs.Judging.{IsFirstNone, IsJudged, JudgesRuns, NamesFirst}

-- nothing is refused where neither this step nor a later one is
none_of_both : (why : Option NotAStep) (at : ℕ) (later : Option (ℕ × NotAStep)) → or_later why at later ≡ None
    → (why ≡ None) × (later ≡ None)
none_of_both None at later e = (refl, e)
none_of_both (Some why) at later e = let no : ⊥ = cc in absurd no

-- where no step is refused, each is one where it stands
run_where_none : {S : Type 0} (rules : Rules S) (at : ℕ) (before : Source S) (steps : List Step)
    → first_refused rules at before steps ≡ None → IsRunFrom rules before steps
run_where_none rules at before [] e = tt
run_where_none rules at before (step ∷ steps) e =
    let both = none_of_both (refusal rules before step) at (first_refused rules (at + 1) (after_step rules before step) steps) e in
    (both.0, run_where_none rules (at + 1) (after_step rules before step) steps both.1)

-- and where each is, none is refused
pub none_where_run : {S : Type 0} (rules : Rules S) (at : ℕ) (before : Source S) (steps : List Step)
    → IsRunFrom rules before steps → first_refused rules at before steps ≡ None
none_where_run rules at before [] run = refl
none_where_run rules at before (step ∷ steps) run =
    ap (λ why. or_later why at (first_refused rules (at + 1) (after_step rules before step) steps)) run.0
    ∙ none_where_run rules (at + 1) (after_step rules before step) steps run.1

-- no step is refused exactly where they are a run
pub judges_runs : {S : Type 0} (rules : Rules S) → JudgesRuns rules
judges_runs rules steps = (run_where_none rules 0 (fresh rules) steps, none_where_run rules 0 (fresh rules) steps)

-- the first step, counted from a system on, that is none where it stands
record FirstFrom {S : Type 0} (rules : Rules S) (start : Source S) (steps : List Step) (at : ℕ) (why : NotAStep) : Type 0 where
  step : Step
  here : slice_get steps at ≡ Some step
  before : IsRunFrom rules start (take at steps)
  refused : refusal rules (fold (after_step rules) start (take at steps)) step ≡ Some why

-- what is named, behind so many steps: this step, or a later one
record Named {S : Type 0} (rules : Rules S) (start : Source S) (steps : List Step) (from at : ℕ) (why : NotAStep) : Type 0 where
  behind : ℕ
  place : from + behind ≡ at
  first : FirstFrom rules start steps behind why

-- one step more in front
named_later : {S : Type 0} (rules : Rules S) (start : Source S) (step : Step) (steps : List Step) (from at : ℕ) (why : NotAStep)
    → refusal rules start step ≡ None → Named rules (after_step rules start step) steps (from + 1) at why
    → Named rules start (step ∷ steps) from at why
named_later rules start step steps from at why lawful later = let place = later.place in record {
  behind = suc later.behind;
  place = omega (arith, place);
  first = record {
    step = later.first.step;
    here = later.first.here;
    before = (lawful, later.first.before);
    refused = later.first.refused;
  };
}

-- the step that is refused is the first that is none
named_by : {S : Type 0} (rules : Rules S) (start : Source S) (step : Step) (steps : List Step) (from at : ℕ)
    (why : NotAStep) (said : Option NotAStep) (later : Option (ℕ × NotAStep))
    → refusal rules start step ≡ said → or_later said from later ≡ Some (at, why)
    → (later ≡ Some (at, why) → Named rules (after_step rules start step) steps (from + 1) at why)
    → Named rules start (step ∷ steps) from at why
named_by rules start step steps from at why None later lawful e rest = named_later rules start step steps from at why lawful (rest e)
named_by rules start step steps from at why (Some said) later refused e rest =
    let pair : ◌≡◌ {A = ℕ × NotAStep} (from, said) (at, why) = cc in
    let place : from ≡ at = ap (λ both. both.0) pair in
    let same : said ≡ why = ap (λ both. both.1) pair in
    record {
      behind = 0;
      place = omega (arith, place);
      first = record { step = step; here = refl; before = tt; refused = refused ∙ ap Some same };
    }

-- the same of all steps
named : {S : Type 0} (rules : Rules S) (start : Source S) (steps : List Step) (from at : ℕ) (why : NotAStep)
    → first_refused rules from start steps ≡ Some (at, why) → Named rules start steps from at why
named rules start [] from at why e = let no : ⊥ = cc in absurd no
named rules start (step ∷ steps) from at why e =
    let next = after_step rules start step in
    named_by rules start step steps from at why (refusal rules start step) (first_refused rules (from + 1) next steps) refl e
    (λ later. named rules next steps (from + 1) at why later)

-- the first step that is none is the one that is refused
refused_at : {S : Type 0} (rules : Rules S) (start : Source S) (steps : List Step) (from at : ℕ) (why : NotAStep)
    → FirstFrom rules start steps at why → first_refused rules from start steps ≡ Some (from + at, why)
refused_at rules start [] from at why first = let no : ⊥ = cc in absurd no
refused_at rules start (step ∷ steps) from zero why first =
    let same : step ≡ first.step = cc in
    let refused = ap (refusal rules start) same ∙ first.refused in
    let place : from ≡ from + 0 = omega arith in
    ap (λ said. or_later said from (first_refused rules (from + 1) (after_step rules start step) steps)) refused
    ∙ ap (λ n. Some (n, why)) place
refused_at rules start (step ∷ steps) from (suc at) why first =
    let next = after_step rules start step in
    let rest = refused_at rules next steps (from + 1) at why record {
      step = first.step;
      here = first.here;
      before = first.before.1;
      refused = first.refused;
    } in
    let place : from + 1 + at ≡ from + suc at = omega arith in
    ap (λ said. or_later said from (first_refused rules (from + 1) next steps)) first.before.0
    ∙ rest
    ∙ ap (λ n. Some (n, why)) place

-- a step of a run is none that is refused where it stands
lawful_at : {S : Type 0} (rules : Rules S) (start : Source S) (steps : List Step) (at : ℕ) (step : Step)
    → slice_get steps at ≡ Some step → IsRunFrom rules start (take (suc at) steps)
    → refusal rules (fold (after_step rules) start (take at steps)) step ≡ None
lawful_at rules start [] at step here run = let no : ⊥ = cc in absurd no
lawful_at rules start (first ∷ steps) zero step here run =
    let same : first ≡ step = cc in
    ap (refusal rules start) (sym same) ∙ run.0
lawful_at rules start (first ∷ steps) (suc at) step here run =
    lawful_at rules (after_step rules start first) steps at step here run.1

-- with it the steps are no run
ends_there : {S : Type 0} (rules : Rules S) (start : Source S) (steps : List Step) (at : ℕ) (why : NotAStep)
    → FirstFrom rules start steps at why → IsRunFrom rules start (take (at + 1) steps) → ⊥
ends_there rules start steps at why first run =
    let next : at + 1 ≡ suc at = omega arith in
    let lawful = lawful_at rules start steps at first.step first.here (subst (λ n. IsRunFrom rules start (take n steps)) next run) in
    let refused = first.refused in
    cc

-- the step that is named is the first that is none where it stands
pub first_none : {S : Type 0} (rules : Rules S) (steps : List Step) (at : ℕ) (why : NotAStep)
    → first_refused rules 0 (fresh rules) steps ≡ Some (at, why) → IsFirstNone rules steps at why
first_none rules steps at why e =
    let found = named rules (fresh rules) steps 0 at why e in
    let place = found.place in
    let same : found.behind ≡ at = omega (arith, place) in
    let first = subst (λ n. FirstFrom rules (fresh rules) steps n why) same found.first in
    record {
      step = first.step;
      here = first.here;
      before = first.before;
      refused = first.refused;
      ends = ends_there rules (fresh rules) steps at why first;
    }

-- and it is named
none_refused : {S : Type 0} (rules : Rules S) (steps : List Step) (at : ℕ) (why : NotAStep)
    → IsFirstNone rules steps at why → first_refused rules 0 (fresh rules) steps ≡ Some (at, why)
none_refused rules steps at why first =
    let place : 0 + at ≡ at = omega arith in
    refused_at rules (fresh rules) steps 0 at why record { step = first.step; here = first.here; before = first.before; refused = first.refused }
    ∙ ap (λ n. Some (n, why)) place

-- both
pub names_first : {S : Type 0} (rules : Rules S) → NamesFirst rules
names_first rules steps at why = (first_none rules steps at why, none_refused rules steps at why)

-- ---- what an answer tells

-- a step that is refused gives the verdict another status than a run
verdict_judged : {S : Type 0} (rules : Rules S) (text : List ℕ) (steps : List Step) (refused : Option (ℕ × NotAStep))
    → run_of text ≡ Ok steps → first_refused rules 0 (fresh rules) steps ≡ refused
    → IsJudged rules text (verdict (length steps) refused)
verdict_judged rules text steps None said none = record {
  run = λ _. record {
    steps = steps;
    said = said;
    is_run = run_where_none rules 0 (fresh rules) steps none;
    given = refl;
  };
  none = λ other. let no : ⊥ = cc in absurd no;
}
verdict_judged rules text steps (Some refused) said named = record {
  run = λ other. let no : ⊥ = cc in absurd no;
  none = λ _. record {
    steps = steps;
    said = said;
    at = refused.0;
    why = refused.1;
    first = first_none rules steps refused.0 refused.1 named;
    given = refl;
  };
}

-- the answer to what a text says
steps_judged : {S : Type 0} (rules : Rules S) (text : List ℕ) (read : Result (List Step) RunFault)
    → run_of text ≡ read → IsJudged rules text (steps_answer rules read)
steps_judged rules text (Ok steps) said = verdict_judged rules text steps (first_refused rules 0 (fresh rules) steps) said refl
steps_judged rules text (Err (fault.Grammar line)) said = record {
  run = λ other. let no : ⊥ = cc in absurd no;
  none = λ other. let no : ⊥ = cc in absurd no;
}
steps_judged rules text (Err fault.TooMany) said = record {
  run = λ other. let no : ⊥ = cc in absurd no;
  none = λ other. let no : ⊥ = cc in absurd no;
}
steps_judged rules text (Err fault.NoMemory) said = record {
  run = λ other. let no : ⊥ = cc in absurd no;
  none = λ other. let no : ⊥ = cc in absurd no;
}

-- the answer of `verify` tells what the steps of its text are
pub is_judged : {S : Type 0} (rules : Rules S) (text : List ℕ) (answer : Answer)
    → answer ≡ verify_answer rules text → IsJudged rules text answer
is_judged rules text answer e = subst (IsJudged rules text) (sym e) (steps_judged rules text (run_of text) refl)
