-- From the reading of lines to the run, and from printed steps back to the steps.
use Rattle.std.proofs.Common.{◌≡◌, ◌⊎◌, inl, inr, ℕ, ◌^◌, ◌<◌, ◌≤◌, List, [], ◌∷◌, ◌++◌, Result, Ok, Err, false, ℤ, get_or, length, map, codes, refl, ap, ◌∙◌, append_assoc, lit<, arith, rules, All, FitsSigned, w64}
use Rattle.std.specs.Fmt.{decimal, signed_decimal}
use Rattle.std.proofs.lemmas.Fmt.{decimal_nonempty}
use Rattle.nys_text.specs.Lines.{is_skipped, words_of}
use Rattle.nys_text.specs.Printed.{spaced}
use Rattle.nys_text.specs.Reading.{reading, told}
use Rattle.nys_text.specs.declared.reader.TextFault.{TextFault}
use Rattle.nys_text.specs.declared.reader.TextFault.TheVariants as text
use Rattle.nys_text.proofs.BackLemmas.{AreInk-decimal, AreShown, AreShown-append, AreShown-ink, AreShown-spaced, IsLineOf, is_skipped-decimal, num_of-decimal, payload_of-printed, reading-text, words_of-first, words_of-only, words_of-spaced}
use Rattle.nys_source.specs.RunText.{step_line, steps_text}
use Rattle.nys_source.specs.declared.step.Step.{Step}
use Rattle.nys_source.specs.declared.step.Step.TheVariants.{Input, Receive, Stop}
use Rattle.nys_runs.specs.StepLines.{FitsTypes, as_run, run_fault, run_of, step_of}
use Rattle.nys_runs.specs.declared.fault.NotALine.{NotALine}
use Rattle.nys_runs.specs.declared.fault.RunFault.{RunFault}
use Rattle.nys_runs.specs.declared.fault.RunFault.TheVariants as run
use Rattle.nys_runs.specs.declared.read.TheConstants.{MAX_STEPS}

-- steps that were read are the run
pub run_read : (bytes : List ℕ) (steps : List Step) → reading step_of MAX_STEPS (told bytes) ≡ Ok steps → run_of bytes ≡ Ok steps
unfolding run_of
run_read bytes steps e = ap as_run e

-- a fault that was read is the run's
pub run_refused : (bytes : List ℕ) (fault : TextFault NotALine) → (fault ≡ text.NoMemory) ⊎ (reading step_of MAX_STEPS (told bytes) ≡ Err fault) → (run_fault fault ≡ run.NoMemory) ⊎ (run_of bytes ≡ Err (run_fault fault))
unfolding run_of
run_refused bytes fault (inl memory) = inl (ap run_fault memory)
run_refused bytes fault (inr e) = inr (ap as_run e)

-- the line of a step without its line feed
abbrev step_bytes : Step → List ℕ
step_bytes (Input h payload) = decimal h ++ (codes " input" ++ spaced payload)
step_bytes (Receive h p k) = decimal h ++ (codes " receive " ++ (decimal p ++ (codes " " ++ decimal k)))
step_bytes (Stop h) = decimal h ++ codes " stop"

line_ends : (step : Step) → step_line step ≡ step_bytes step ++ (10 ∷ [])
line_ends (Input h payload) = simp append_assoc
line_ends (Receive h p k) = simp append_assoc
line_ends (Stop h) = simp append_assoc

wide : (n : ℕ) → n < 2 ^ 32 → n < 2 ^ 64
wide n low = omega (arith, low)

-- ---- the words of each line

input_words : (h : ℕ) (payload : List ℤ) → h < 2 ^ 32 → All (λ z. FitsSigned w64 z) payload → words_of (step_bytes (Input h payload)) ≡ decimal h ∷ codes "input" ∷ map signed_decimal payload
input_words h payload low fit =
    words_of-first (decimal h) (codes "input" ++ spaced payload) (decimal_nonempty h (wide h low)) (AreInk-decimal h (wide h low))
    ∙ ap (λ ws. decimal h ∷ ws) (words_of-spaced (codes "input") payload (lit< tt) (search rules) fit)

receive_words : (h p k : ℕ) → h < 2 ^ 32 → p < 2 ^ 32 → k < 2 ^ 32 → words_of (step_bytes (Receive h p k)) ≡ decimal h ∷ codes "receive" ∷ decimal p ∷ decimal k ∷ []
receive_words h p k low low' low'' =
    words_of-first (decimal h) (codes "receive " ++ (decimal p ++ (codes " " ++ decimal k))) (decimal_nonempty h (wide h low)) (AreInk-decimal h (wide h low))
    ∙ ap (λ ws. decimal h ∷ ws) (words_of-first (codes "receive") (decimal p ++ (codes " " ++ decimal k)) (lit< tt) (search rules)
    ∙ ap (λ ws. codes "receive" ∷ ws) (words_of-first (decimal p) (decimal k) (decimal_nonempty p (wide p low')) (AreInk-decimal p (wide p low'))
    ∙ ap (λ ws. decimal p ∷ ws) (words_of-only (decimal k) (decimal_nonempty k (wide k low'')) (AreInk-decimal k (wide k low'')))))

stop_words : (h : ℕ) → h < 2 ^ 32 → words_of (step_bytes (Stop h)) ≡ decimal h ∷ codes "stop" ∷ []
stop_words h low =
    words_of-first (decimal h) (codes "stop") (decimal_nonempty h (wide h low)) (AreInk-decimal h (wide h low))
    ∙ ap (λ ws. decimal h ∷ ws) (words_of-only (codes "stop") (lit< tt) (search rules))

-- ---- what the words say

said : (step : Step) → FitsTypes step → step_of (words_of (step_bytes step)) ≡ Ok step
said (Input h payload) fits =
    let host = num_of-decimal h fits.0 in
    let read = payload_of-printed payload fits.1 fits.2 fits.3 in
    rw (input_words h payload fits.0 fits.3) (rw (host, read) refl)
said (Receive h p k) fits =
    let host = num_of-decimal h fits.0 in
    let sender = num_of-decimal p fits.1 in
    let number = num_of-decimal k fits.2 in
    rw (receive_words h p k fits.0 fits.1 fits.2) (rw (host, sender, number) refl)
said (Stop h) fits =
    let host = num_of-decimal h fits in
    rw (stop_words h fits) (rw host refl)

shown_decimal : (n : ℕ) → n < 2 ^ 32 → AreShown (decimal n)
shown_decimal n low = AreShown-ink (decimal n) (AreInk-decimal n (wide n low))

shown : (step : Step) → FitsTypes step → AreShown (step_bytes step)
shown (Input h payload) fits =
    AreShown-append (decimal h) (codes " input" ++ spaced payload) (shown_decimal h fits.0)
    (AreShown-append (codes " input") (spaced payload) (search rules) (AreShown-spaced payload fits.3))
shown (Receive h p k) fits =
    AreShown-append (decimal h) (codes " receive " ++ (decimal p ++ (codes " " ++ decimal k))) (shown_decimal h fits.0)
    (AreShown-append (codes " receive ") (decimal p ++ (codes " " ++ decimal k)) (search rules)
    (AreShown-append (decimal p) (codes " " ++ decimal k) (shown_decimal p fits.1)
    (AreShown-append (codes " ") (decimal k) (search rules) (shown_decimal k fits.2))))
shown (Stop h) fits = AreShown-append (decimal h) (codes " stop") (shown_decimal h fits) (search rules)

tells : (step : Step) → FitsTypes step → is_skipped (step_bytes step) ≡ false
tells (Input h payload) fits = is_skipped-decimal h (codes " input" ++ spaced payload) (wide h fits.0)
tells (Receive h p k) fits = is_skipped-decimal h (codes " receive " ++ (decimal p ++ (codes " " ++ decimal k))) (wide h fits.0)
tells (Stop h) fits = is_skipped-decimal h (codes " stop") (wide h fits)

line_of : (step : Step) → FitsTypes step → IsLineOf step_of step_bytes step
line_of step fits = record { shown = shown step fits; tells = tells step fits; said = said step fits }

-- the printed text of at most the most steps is read as those steps
pub run_of-steps_text : (steps : List Step) → All FitsTypes steps → length steps ≤ MAX_STEPS → run_of (steps_text steps) ≡ Ok steps
unfolding run_of
run_of-steps_text steps fit few =
    ap as_run (reading-text step_of step_bytes step_line MAX_STEPS line_ends steps (λ k d low. line_of (get_or steps k d) (fit k d low)) few)

-- an answer has one list of steps
pub ok_same : (r : Result (List Step) RunFault) (xs ys : List Step) → r ≡ Ok xs → r ≡ Ok ys → xs ≡ ys
ok_same r xs ys e f = cc

-- where the text says steps, only want of memory is answered
pub refused_memory : (bytes : List ℕ) (steps : List Step) (fault : RunFault) → (fault ≡ run.NoMemory) ⊎ (run_of bytes ≡ Err fault) → run_of bytes ≡ Ok steps → fault ≡ run.NoMemory
refused_memory bytes steps fault (inl memory) e = memory
refused_memory bytes steps fault (inr refused) e = cc
