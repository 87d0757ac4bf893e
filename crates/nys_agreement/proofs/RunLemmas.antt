-- Runs of the source system: what they give each host, and how they go on.
use Rattle.std.proofs.Common.{◌≡◌, ◌≢◌, ℕ, zero, suc, ◌-◌, ◌<◌, ◌≤◌, ◌++◌, ◌∷◌, [], ℤ, List, length, take, Some, None, fold, refl, ap, sym, ◌∙◌, inl, inr, eq-eqb, true, false, not, arith, append-nil, append_assoc, length-append}
use Rattle.std.specs.Prelude.{slice_get, Option, Bool, if◌then◌else◌, ◌==◌, nat_lt}
use Rattle.std.proofs.lemmas.Bool.{cases_eq, lt-ltb, ne_eqb}
use Rattle.nys_bytes.specs.declared.content.Content.{Content}
use Rattle.nys_bytes.specs.declared.content.Content.TheVariants.{External, Message}
use Rattle.nys_source.specs.Tables.{put}
use Rattle.nys_source.specs.Rules.{Rules}
use Rattle.nys_source.specs.Source.{fresh, Source}
use Rattle.nys_source.specs.Steps.{after_effect, after_message, after_step, after_payload, counted, number_refusal, refusal, with_state}
use Rattle.nys_source.specs.Runs.{after_run, host_at, IsRun, IsRunFrom, up_to}
use Rattle.nys_source.specs.Contents.{contents_from, contents_taken, message_of, taken_in}
use Rattle.nys_source.specs.declared.effect.Effect.{Effect}
use Rattle.nys_source.specs.declared.effect.Effect.TheVariants.{Out, Send}
use Rattle.nys_source.specs.declared.step.NotAStep.{NotAStep}
use Rattle.nys_source.specs.declared.step.NotAStep.TheVariants.{NoHost, NothingSent, NotNeighbour, Stopped}
use Rattle.nys_source.specs.declared.step.Step.{Step}
use Rattle.nys_source.specs.declared.step.Step.TheVariants.{Input, Receive, Stop}
use Rattle.nys_agreement.specs.Alone.{alone, Fits, step_of}
use Rattle.nys_agreement.proofs.ListLemmas.{in_append}
use Rattle.nys_agreement.proofs.TableLemmas.{put_case}
use Rattle.nys_agreement.proofs.AloneLemmas.{run_same}

-- a run and one step more
run_append : {S : Type 0} (rules : Rules S) (start : Source S) (xs : List Step) (step : Step) → IsRunFrom rules start xs → refusal rules (fold (after_step rules) start xs) step ≡ None → IsRunFrom rules start (xs ++ step ∷ [])
run_append rules start [] step run good = (good, tt)
run_append rules start (x ∷ xs) step run good = (run.0, run_append rules (after_step rules start x) xs step run.1 good)

-- a host takes what it took, and what it takes in that step
contents_append : {S : Type 0} (rules : Rules S) (start : Source S) (h : ℕ) (xs : List Step) (step : Step) → contents_from rules start h (xs ++ step ∷ []) ≡ contents_from rules start h xs ++ taken_in (fold (after_step rules) start xs) h step
contents_append rules start h [] step = append-nil (taken_in start h step)
contents_append rules start h (x ∷ xs) step =
    let next = after_step rules start x in
    ap (λ (zs : List Content). taken_in start h x ++ zs) (contents_append rules next h xs step)
    ∙ sym (append_assoc (taken_in start h x) (contents_from rules next h xs) (taken_in (fold (after_step rules) next xs) h step))

-- the step comes last
after_append : {S : Type 0} (rules : Rules S) (start : Source S) (xs : List Step) (step : Step) → fold (after_step rules) start (xs ++ step ∷ []) ≡ after_step rules (fold (after_step rules) start xs) step
after_append rules start [] step = refl
after_append rules start (x ∷ xs) step = after_append rules (after_step rules start x) xs step

-- no input or receive stops a host
effects_running : {S : Type 0} (h : ℕ) (effects : List Effect) (a : Source S) → (fold (after_effect h) a effects).running ≡ a.running
effects_running h [] a = refl
effects_running h (Send to payload ∷ effects) a = effects_running h effects (after_effect h a (Send to payload))
effects_running h (Out payload ∷ effects) a = effects_running h effects (after_effect h a (Out payload))

-- nor does taking a payload
taking_running : {S : Type 0} (rules : Rules S) (a : Source S) (h : ℕ) (from : Option ℕ) (payload : List ℤ) → (after_payload rules a h from payload).running ≡ a.running
unfolding after_payload
taking_running rules a h from payload = let made = rules.next h (a.state h) from payload in effects_running h made.1 (with_state a h made.0)

-- nor a message, sent or not
message_running : {S : Type 0} (rules : Rules S) (a : Source S) (h p : ℕ) (found : Option (List ℤ)) → (after_message rules a h p found).running ≡ a.running
message_running rules a h p None = refl
message_running rules a h p (Some payload) = taking_running rules (counted a p h) h (Some p) payload

-- nor the step in which a content is taken
content_running : {S : Type 0} (rules : Rules S) (a : Source S) (h : ℕ) (c : Content) → (after_step rules a (step_of h c)).running ≡ a.running
content_running rules a h (External payload) = taking_running rules a h None payload
content_running rules a h (Message p k payload) = message_running rules a h p (slice_get (a.sent p h) k)

-- the message was sent by what its sender's longest log tells
abbrev pub WasSent : {S : Type 0} → Rules S → (ℕ → List Content) → ℕ → Content → Type 0
WasSent rules longest h (External payload) = Unit {0}
WasSent rules longest h (Message p k payload) = slice_get ((alone rules p (longest p)).sent p h) k ≡ Some payload

-- a run in which each host takes its longest log, and none stops
pub record RunOk {S : Type 0} (rules : Rules S) (longest : ℕ → List Content) (run : List Step) : Type 0 where
  pub is_run : IsRun rules run
  pub taken : (h : ℕ) → contents_taken rules run h ≡ longest h
  pub runs : (h : ℕ) → (after_run rules run).running h ≡ true

-- what the run leaves of a host is what its longest log gives
sent_in_run : {S : Type 0} (rules : Rules S) (longest : ℕ → List Content) (run : List Step) → RunOk rules longest run → (h p k : ℕ) (payload : List ℤ) → slice_get ((alone rules p (longest p)).sent p h) k ≡ Some payload → slice_get ((after_run rules run).sent p h) k ≡ Some payload
sent_in_run rules longest run ok h p k payload sent =
    ap (λ (f : ℕ → List (List ℤ)). slice_get (f h) k) (run_same rules p run).sent
    ∙ (ap (λ (l : List Content). slice_get ((alone rules p l).sent p h) k) (ok.taken p) ∙ sent)

-- the number that comes next in the log comes next in the run
next_in_run : {S : Type 0} (rules : Rules S) (longest : ℕ → List Content) (run : List Step) → RunOk rules longest run → (h p k : ℕ) → k ≡ (alone rules h (longest h)).received p h → k ≡ (after_run rules run).received p h
next_in_run rules longest run ok h p k number =
    number ∙ (sym (ap (λ (l : List Content). (alone rules h l).received p h) (ok.taken h)) ∙ sym ((run_same rules h run).received p))

-- a content that fits and was sent is a step
content_allowed : {S : Type 0} (rules : Rules S) (longest : ℕ → List Content) (run : List Step) → RunOk rules longest run → (h : ℕ) (c : Content) → h < rules.hosts → Fits rules h (longest h) c → WasSent rules longest h c → refusal rules (after_run rules run) (step_of h c) ≡ None
content_allowed rules longest run ok h (External payload) host fits sent = rw (lt-ltb h rules.hosts host, ok.runs h) refl
content_allowed rules longest run ok h (Message p k payload) host fits sent =
    rw (
      lt-ltb h rules.hosts host,
      lt-ltb p rules.hosts fits.0,
      ok.runs h,
      fits.1,
      sent_in_run rules longest run ok h p k payload sent,
      eq-eqb k ((after_run rules run).received p h) (next_in_run rules longest run ok h p k fits.2),
    ) refl

-- its host takes it in that step
content_taken : {S : Type 0} (rules : Rules S) (longest : ℕ → List Content) (run : List Step) → RunOk rules longest run → (h : ℕ) (c : Content) → WasSent rules longest h c → taken_in (after_run rules run) h (step_of h c) ≡ c ∷ []
content_taken rules longest run ok h (External payload) sent = rw (eq-eqb h h refl) refl
content_taken rules longest run ok h (Message p k payload) sent = rw (eq-eqb h h refl, sent_in_run rules longest run ok h p k payload sent) refl

-- no other host takes anything in it
content_elsewhere : {S : Type 0} (a : Source S) (h x : ℕ) (c : Content) → x ≢ h → taken_in a x (step_of h c) ≡ []
content_elsewhere a h x (External payload) ne = rw (ne_eqb h x (λ e. ne (sym e))) refl
content_elsewhere a h x (Message p k payload) ne = rw (ne_eqb h x (λ e. ne (sym e))) refl

-- the run goes on with it
pub run_goes_on : {S : Type 0} (rules : Rules S) (longest : ℕ → List Content) (run : List Step) → RunOk rules longest run → (h : ℕ) (c : Content) → h < rules.hosts → Fits rules h (longest h) c → WasSent rules longest h c → RunOk rules (put longest h (longest h ++ c ∷ [])) (run ++ step_of h c ∷ [])
run_goes_on {S} rules longest run ok h c host fits sent =
    let left = after_run rules run in
    let more = λ (x : ℕ). contents_append rules (fresh rules) x run (step_of h c) in
    record {
      is_run = run_append rules (fresh rules) run (step_of h c) ok.is_run (content_allowed rules longest run ok h c host fits sent);
      taken = λ x. more x ∙ put_case (λ (l : List Content). contents_taken rules run x ++ taken_in left x (step_of h c) ≡ l) longest h (longest h ++ c ∷ []) x
          (λ q. rw (q, ok.taken h, content_taken rules longest run ok h c sent) refl)
          (λ ne. rw (content_elsewhere left h x c ne) (append-nil (contents_taken rules run x) ∙ ok.taken x));
      runs = λ x. ap (λ (s : Source S). s.running x) (after_append rules (fresh rules) run (step_of h c)) ∙ (ap (λ (f : ℕ → Bool). f x) (content_running rules left h c) ∙ ok.runs x);
    }

-- a receive that is not refused takes what was sent under the next number
received_found : {S : Type 0} (a : Source S) (h p k : ℕ) (one two three four : Bool) (w x y z : NotAStep) (found : Option (List ℤ)) → (if not one then Some w else if not two then Some x else if not three then Some y else if not four then Some z else number_refusal a h p k found) ≡ None → (payload : List ℤ) × (found ≡ Some payload) × (k ≡ a.received p h)
received_found a h p k false two three four w x y z found e = absurd (cc)
received_found a h p k true false three four w x y z found e = absurd (cc)
received_found a h p k true true false four w x y z found e = absurd (cc)
received_found a h p k true true true false w x y z found e = absurd (cc)
received_found a h p k true true true true w x y z None e = absurd (cc)
received_found a h p k true true true true w x y z (Some payload) e = elim (cases_eq k (a.received p h)) [
  | inl same ↦ (payload, refl, same)
  | inr ne ↦ absurd (let f : number_refusal a h p k (Some payload) ≡ Some (NothingSent p h k) = rw (ne_eqb k (a.received p h) ne) refl in cc)
]

-- a receive that may be taken is of the next payload
receive_taken : {S : Type 0} (rules : Rules S) (a : Source S) (h p k : ℕ) → refusal rules a (Receive h p k) ≡ None → (payload : List ℤ) × (slice_get (a.sent p h) k ≡ Some payload) × (k ≡ a.received p h)
receive_taken rules a h p k good =
    received_found a h p k (nat_lt h rules.hosts) (nat_lt p rules.hosts) (a.running h) (rules.linked p h) (NoHost h) (NoHost p) (Stopped h) (NotNeighbour p h) (slice_get (a.sent p h) k) good

-- one step of a run up to a number of inputs and receives
up_one : (b : Bool) (c : Content) (rest : List Content) (m : ℕ) (f : ℕ → List Content) → suc m ≤ length ((if b then c ∷ [] else []) ++ rest) → ((n : ℕ) → n ≤ length rest → f n ≡ take n rest)
    → (if b then c ∷ [] else []) ++ f (if b then m else suc m) ≡ take (suc m) ((if b then c ∷ [] else []) ++ rest)
up_one true c rest m f le same = ap (λ (zs : List Content). c ∷ zs) (same m (omega arith))
up_one false c rest m f le same = same (suc m) le

-- the same where the step receives what was sent
up_found : (b : Bool) (p k : ℕ) (found : Option (List ℤ)) (payload : List ℤ) → found ≡ Some payload → (rest : List Content) (m : ℕ) (f : ℕ → List Content) → suc m ≤ length ((if b then message_of p k found else []) ++ rest) → ((n : ℕ) → n ≤ length rest → f n ≡ take n rest)
    → (if b then message_of p k found else []) ++ f (if b then m else suc m) ≡ take (suc m) ((if b then message_of p k found else []) ++ rest)
up_found b p k None payload e rest m f le same = absurd (cc)
up_found b p k (Some x) payload e rest m f le same = up_one b (Message p k x) rest m f le same

-- up to so many inputs and receives a host has taken as many contents
up_to_taken : {S : Type 0} (rules : Rules S) (h : ℕ) (run : List Step) (start : Source S) → IsRunFrom rules start run → (m : ℕ) → m ≤ length (contents_from rules start h run) → contents_from rules start h (up_to h m run) ≡ take m (contents_from rules start h run)
up_to_taken rules h [] start good zero le = refl
up_to_taken rules h [] start good (suc m) le = refl
up_to_taken rules h (step ∷ run) start good zero le = refl
up_to_taken rules h (Input g payload ∷ run) start good (suc m) le =
    let next = after_step rules start (Input g payload) in
    up_one (g == h) (External payload) (contents_from rules next h run) m (λ n. contents_from rules next h (up_to h n run)) le (up_to_taken rules h run next good.1)
up_to_taken rules h (Receive g p k ∷ run) start good (suc m) le =
    let next = after_step rules start (Receive g p k) in
    let x = receive_taken rules start g p k good.0 in
    up_found (g == h) p k (slice_get (start.sent p g) k) x.0 x.1 (contents_from rules next h run) m (λ n. contents_from rules next h (up_to h n run)) le (up_to_taken rules h run next good.1)
up_to_taken rules h (Stop g ∷ run) start good (suc m) le = up_to_taken rules h run (after_step rules start (Stop g)) good.1 (suc m) le

-- what a host is after so many inputs and receives of a run is what as many of its contents give
pub host_at_taken : {S : Type 0} (rules : Rules S) (run : List Step) → IsRun rules run → (h m : ℕ) → m ≤ length (contents_taken rules run h) → host_at rules run h m ≡ ((alone rules h (take m (contents_taken rules run h))).state h, (alone rules h (take m (contents_taken rules run h))).outs h)
host_at_taken rules run good h m le =
    let same = run_same rules h (up_to h m run) in
    let taken = up_to_taken rules h run (fresh rules) good m le in
    let state = same.state ∙ ap (λ (l : List Content). (alone rules h l).state h) taken in
    let outs = same.outs ∙ ap (λ (l : List Content). (alone rules h l).outs h) taken in
    λ i. (state i, outs i)

-- where in a run a message was received
pub record Found {S : Type 0} (rules : Rules S) (start : Source S) (run : List Step) (h s p k : ℕ) (payload : List ℤ) : Type 0 where
  pub before : List Step
  pub later : List Step
  pub whole : run ≡ before ++ Receive h p k ∷ later
  pub place : length (contents_from rules start h before) ≡ s
  pub number : (fold (after_step rules) start before).received p h ≡ k
  pub sent : slice_get ((fold (after_step rules) start before).sent p h) k ≡ Some payload

-- an input is no message
input_no_message : (b : Bool) (x : List ℤ) (s p k : ℕ) (payload : List ℤ) → slice_get (if b then External x ∷ [] else []) s ≡ Some (Message p k payload) → ⊥
input_no_message true x zero p k payload e = cc
input_no_message true x (suc s) p k payload e = cc
input_no_message false x s p k payload e = cc

-- a step that receives takes one message
one_message : (b : Bool) (q n : ℕ) (found : Option (List ℤ)) (s p k : ℕ) (payload : List ℤ) → slice_get (if b then message_of q n found else []) s ≡ Some (Message p k payload) → (b ≡ true) × (s ≡ 0) × (q ≡ p) × (n ≡ k) × (found ≡ Some payload)
one_message true q n (Some x) zero p k payload e = (refl, refl, cc, cc, cc)
one_message true q n (Some x) (suc s) p k payload e = absurd (cc)
one_message true q n None s p k payload e = absurd (cc)
one_message false q n found s p k payload e = absurd (cc)

-- the message that a host takes in one step
found_here : {S : Type 0} (rules : Rules S) (start : Source S) (step : Step) (run : List Step) (h s p k : ℕ) (payload : List ℤ) → refusal rules start step ≡ None → slice_get (taken_in start h step) s ≡ Some (Message p k payload) → Found rules start (step ∷ run) h s p k payload
found_here rules start (Input g x) run h s p k payload good e = absurd (input_no_message (g == h) x s p k payload e)
found_here rules start (Stop g) run h s p k payload good e = absurd (cc)
found_here rules start (Receive g q n) run h s p k payload good e =
    let m = one_message (g == h) q n (slice_get (start.sent q g) n) s p k payload e in
    let r = receive_taken rules start g q n good in
    let here : g ≡ h = elim (cases_eq g h) [ inl same ↦ same | inr ne ↦ absurd (let f = ne_eqb g h ne in let t = m.0 in cc) ] in
    record {
      before = [];
      later = run;
      whole = rw (here, m.2, m.3) refl;
      place = sym m.1;
      number = rw (sym m.2, sym m.3, sym here) (sym r.2);
      sent = rw (sym m.2, sym m.3, sym here) m.4;
    }

-- a message among the contents of a host was received somewhere in the run
pub found_in : {S : Type 0} (rules : Rules S) (h p k : ℕ) (payload : List ℤ) (run : List Step) (start : Source S) → IsRunFrom rules start run → (s : ℕ) → slice_get (contents_from rules start h run) s ≡ Some (Message p k payload) → Found rules start run h s p k payload
found_in rules h p k payload [] start good s e = absurd (cc)
found_in rules h p k payload (step ∷ run) start good s e =
    let next = after_step rules start step in
    elim (in_append (taken_in start h step) (contents_from rules next h run) s (Message p k payload) e) [
      | inl here ↦ found_here rules start step run h s p k payload good.0 here
      | inr there ↦
          let f = found_in rules h p k payload run next good.1 (s - length (taken_in start h step)) there.1 in
          let le = there.0 in
          let at = f.place in
          let long = length-append (taken_in start h step) (contents_from rules next h f.before) in
          record {
            before = step ∷ f.before;
            later = f.later;
            whole = ap (λ (zs : List Step). step ∷ zs) f.whole;
            place = omega arith;
            number = f.number;
            sent = f.sent;
          }
    ]
