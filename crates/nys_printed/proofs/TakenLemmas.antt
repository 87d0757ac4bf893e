-- A host takes as many contents in a run as the run has inputs and receives of it.
use Rattle.std.proofs.Common.{◌≡◌, ℕ, ◌+◌, ◌==◌, Bool, true, false, cond, not, ℤ, List, [], ◌∷◌, length, Some, None, refl, arith, length-append}
use Rattle.std.specs.Prelude.{Option, count_by, fold, if◌then◌else◌, nat_lt, slice_get}
use Rattle.nys_bytes.specs.declared.content.Content.{Content}
use Rattle.nys_bytes.specs.declared.content.Content.TheVariants.{External}
use Rattle.nys_source.specs.Contents.{contents_from, contents_taken, message_of, taken_in}
use Rattle.nys_source.specs.Rules.{Rules}
use Rattle.nys_source.specs.Runs.{IsRun, IsRunFrom, takes_payload}
use Rattle.nys_source.specs.Source.{fresh, Source}
use Rattle.nys_source.specs.Steps.{after_step, number_refusal, refusal}
use Rattle.nys_source.specs.declared.step.NotAStep.{NotAStep}
use Rattle.nys_source.specs.declared.step.NotAStep.TheVariants.{NoHost, NotNeighbour, Stopped}
use Rattle.nys_source.specs.declared.step.Step.{Step}
use Rattle.nys_source.specs.declared.step.Step.TheVariants.{Input, Receive, Stop}

-- a receive that may be taken is of one payload
one_received : {S : Type 0} (a : Source S) (h p k : ℕ) (one two three four : Bool) (w x y z : NotAStep) (found : Option (List ℤ))
    → (if not one then Some w else if not two then Some x else if not three then Some y else if not four then Some z
    else number_refusal a h p k found) ≡ None → length (message_of p k found) ≡ 1
one_received a h p k false two three four w x y z found e = absurd (cc)
one_received a h p k true false three four w x y z found e = absurd (cc)
one_received a h p k true true false four w x y z found e = absurd (cc)
one_received a h p k true true true false w x y z found e = absurd (cc)
one_received a h p k true true true true w x y z None e = absurd (cc)
one_received a h p k true true true true w x y z (Some payload) e = refl

-- contents of a host, where it is this one
one_content : (b : Bool) (contents : List Content) → length contents ≡ 1 → length (if b then contents else []) ≡ cond b 1 0
one_content true contents one = one
one_content false contents one = refl

-- a step that may be taken has one content of the host that takes it
step_taken : {S : Type 0} (rules : Rules S) (a : Source S) (h : ℕ) (step : Step) → refusal rules a step ≡ None
    → length (taken_in a h step) ≡ cond (takes_payload h step) 1 0
step_taken rules a h (Input g payload) good = one_content (g == h) (External payload ∷ []) refl
step_taken rules a h (Receive g p k) good =
    one_content (g == h) (message_of p k (slice_get (a.sent p g) k))
    (one_received a g p k (nat_lt g rules.hosts) (nat_lt p rules.hosts) (a.running g) (rules.linked p g) (NoHost g) (NoHost p)
    (Stopped g) (NotNeighbour p g) (slice_get (a.sent p g) k) good)
step_taken rules a h (Stop g) good = refl

-- the steps of a run, counted from a number on
taken_from : {S : Type 0} (rules : Rules S) (a : Source S) (h n : ℕ) (steps : List Step) → IsRunFrom rules a steps
    → fold (λ m step. m + cond (takes_payload h step) 1 0) n steps ≡ n + length (contents_from rules a h steps)
taken_from rules a h n [] run = omega arith
taken_from rules a h n (step ∷ steps) run =
    let next = after_step rules a step in
    let one = step_taken rules a h step run.0 in
    let rest = taken_from rules next h (n + cond (takes_payload h step) 1 0) steps run.1 in
    let both = length-append (taken_in a h step) (contents_from rules next h steps) in
    omega (arith, one, rest, both)

-- in a run
pub taken_count : {S : Type 0} (rules : Rules S) (run : List Step) (h : ℕ) → IsRun rules run
    → count_by (takes_payload h) run ≡ length (contents_taken rules run h)
taken_count rules run h is = let same = taken_from rules (fresh rules) h 0 run is in omega (arith, same)
