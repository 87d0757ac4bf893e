-- Stops behind a run: rising hosts may stop, and what each host took stays what it was.
use Rattle.std.proofs.Common.{◌≡◌, ℕ, zero, suc, ◌+◌, ◌<◌, ◌≤◌, ◌++◌, ◌∷◌, [], List, Bool, true, false, None, map, filter, fold, refl, ap, ◌∙◌, arith}
use Rattle.std.specs.Prelude.{if◌then◌else◌}
use Rattle.std.specs.List.{range_with_len}
use Rattle.std.proofs.lemmas.Bool.{lt-ltb}
use Rattle.nys_bytes.specs.declared.content.Content.{Content}
use Rattle.nys_source.specs.Contents.{contents_from, taken_in}
use Rattle.nys_source.specs.Rules.{Rules}
use Rattle.nys_source.specs.Runs.{IsRunFrom}
use Rattle.nys_source.specs.Source.{Source}
use Rattle.nys_source.specs.Steps.{after_step, refusal}
use Rattle.nys_source.specs.declared.step.Step.{Step}
use Rattle.nys_source.specs.declared.step.Step.TheVariants.{Stop}
use Rattle.nys_agreement.proofs.TableLemmas.{put_there}

-- a run goes on with steps that may be taken behind it
pub run_behind : {S : Type 0} (rules : Rules S) (start : Source S) (run more : List Step) → IsRunFrom rules start run
    → IsRunFrom rules (fold (after_step rules) start run) more → IsRunFrom rules start (run ++ more)
run_behind rules start [] more one other = other
run_behind rules start (step ∷ run) more one other =
    (one.0, run_behind rules (after_step rules start step) run more one.1 other)

-- a host that runs may stop
stop_allowed : {S : Type 0} (rules : Rules S) (a : Source S) (h : ℕ) → h < rules.hosts → a.running h ≡ true
    → refusal rules a (Stop h) ≡ None
stop_allowed rules a h low runs = rw (lt-ltb h rules.hosts low, runs) refl

-- those of the hosts from one on that a test picks may stop one after another, where all of them run
pub stops_allowed : {S : Type 0} (rules : Rules S) (picked : ℕ → Bool) (n first : ℕ) (a : Source S)
    → first + n ≤ rules.hosts → ((h : ℕ) → first ≤ h → a.running h ≡ true)
    → IsRunFrom rules a (map Stop (filter picked (range_with_len first n)))
stops_allowed rules picked zero first a within run = tt
stops_allowed {S} rules picked (suc n) first a within run =
    by (picked first)
    (stops_allowed rules picked n (first + 1) (after_step rules a (Stop first)) (omega (arith, within))
    (λ h low. put_there a.running first false h (λ same. omega (arith, low, same)) ∙ run h (omega (arith, low))))
    (stops_allowed rules picked n (first + 1) a (omega (arith, within)) (λ h low. run h (omega (arith, low))))
  where
    rest : List ℕ
    rest = filter picked (range_with_len (first + 1) n)

    by : (b : Bool) → IsRunFrom rules (after_step rules a (Stop first)) (map Stop rest)
        → IsRunFrom rules a (map Stop rest) → IsRunFrom rules a (map Stop (if b then first ∷ rest else rest))
    by true stopped runs = (stop_allowed rules a first (omega (arith, within)) (run first (omega arith)), stopped)
    by false stopped runs = runs

-- no host takes anything in stops
stops_take : {S : Type 0} (rules : Rules S) (a : Source S) (h : ℕ) (hosts : List ℕ)
    → contents_from rules a h (map Stop hosts) ≡ []
stops_take rules a h [] = refl
stops_take rules a h (g ∷ hosts) = stops_take rules (after_step rules a (Stop g)) h hosts

-- so with stops behind a run each host takes what it takes in the run
pub taken_with_stops : {S : Type 0} (rules : Rules S) (start : Source S) (h : ℕ) (run : List Step) (hosts : List ℕ)
    → contents_from rules start h (run ++ map Stop hosts) ≡ contents_from rules start h run
taken_with_stops rules start h [] hosts = stops_take rules start h hosts
taken_with_stops rules start h (step ∷ run) hosts =
    ap (λ (z : List Content). taken_in start h step ++ z)
    (taken_with_stops rules (after_step rules start step) h run hosts)
