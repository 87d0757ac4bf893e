-- The logs spell a run, after every list of events.
use Rattle.std.proofs.Common.{◌≡◌, ℕ, ◌+◌, ◌≤◌, ℤ, List, [], ◌∷◌, ◌++◌, length, refl, sym, ap, subst, ◌∙◌, inl, inr, false, arith, Some, append_assoc, length-append}
use Rattle.std.specs.Prelude.{slice_get}
use Rattle.std.proofs.lemmas.Bool.{cases_order}
use Rattle.nys_bytes.specs.declared.content.Content.{Content}
use Rattle.nys_bytes.specs.declared.content.Content.TheVariants.{External, Message}
use Rattle.nys_source.specs.Rules.{Rules}
use Rattle.nys_source.specs.Source.{fresh}
use Rattle.nys_source.specs.Runs.{host_at}
use Rattle.nys_source.specs.Contents.{contents_taken}
use Rattle.nys_agreement.specs.Net.{HasFewLiars, Net}
use Rattle.nys_agreement.specs.Alone.{alone, inputs_in}
use Rattle.nys_agreement.specs.Assembly.{beginning, Assembly}
use Rattle.nys_agreement.specs.Events.{Event, IsCandidate}
use Rattle.nys_agreement.specs.After.{after, after_all, Follows}
use Rattle.nys_agreement.specs.Claims.{Always, IsPrefixOf, ReceiveWhatWasSent, Spell, TakeInputs}
use Rattle.nys_agreement.proofs.ListLemmas.{get_inside, in_prefix, prefix_all, take_prefix}
use Rattle.nys_agreement.proofs.AloneLemmas.{run_same}
use Rattle.nys_agreement.proofs.RunLemmas.{found_in, host_at_taken}
use Rattle.nys_agreement.proofs.Evidence.{IsKnown}
use Rattle.nys_agreement.proofs.Agreement.{Sound, sound_first, sound_step}
use Rattle.nys_agreement.proofs.Truth.{decided_prefix, log_prefix, truth_step, TruthOk}
use Rattle.nys_agreement.proofs.Inputs.{inputs_step, InputsOk, known_offered}

-- all that each event keeps
pub record Kept {S : Type 0} (rules : Rules S) (net : Net) (w : Assembly) : Type 0 where
  pub sound : Sound net w
  pub truth : TruthOk rules w
  pub inputs : InputsOk net w

-- at the beginning the run is empty
kept_first : {S : Type 0} (rules : Rules S) (net : Net) → HasFewLiars net → Kept rules net beginning
kept_first rules net few = record {
  sound = sound_first net few;
  truth = record {
    attests = λ x e p h k payload has. absurd has;
    orders = λ x e h s c has. absurd has;
    run_ok = record { is_run = tt; taken = λ h. refl; runs = λ h. refl };
    attained = λ h. inr refl;
  };
  inputs = record {
    queue = λ h. refl;
    offers = λ x e h s c has. absurd has;
    orders = λ x e h s c honest has. absurd has;
  };
}

-- a list of events keeps it
kept_all : {S : Type 0} (rules : Rules S) (net : Net) (w : Assembly) (events : List Event) → Kept rules net w → Follows rules net w events → Kept rules net (after_all w events)
kept_all rules net w [] ok may = ok
kept_all rules net w (event ∷ events) ok may =
    kept_all rules net (after w event) events (record {
      sound = sound_step rules net w event ok.sound may.0;
      truth = truth_step rules net w event ok.sound ok.truth may.0;
      inputs = inputs_step rules net w event ok.sound ok.inputs may.0;
    }) may.1

-- it holds after every list of events
pub kept : {S : Type 0} (rules : Rules S) → Always rules (Kept rules)
kept rules net few events may = kept_all rules net beginning events (kept_first rules net few) may

-- a log is a prefix of what its host takes in the run
log_in_run : {S : Type 0} (rules : Rules S) (net : Net) (w : Assembly) → Kept rules net w → (g h : ℕ) → IsPrefixOf (w.log g h) (contents_taken rules w.run h)
log_in_run rules net w ok g h = subst (λ (l : List Content). IsPrefixOf (w.log g h) l) (sym (ok.truth.run_ok.taken h)) (log_prefix net w ok.sound g h)

-- so is a decided log
decided_in_run : {S : Type 0} (rules : Rules S) (net : Net) (w : Assembly) → Kept rules net w → (h : ℕ) → IsPrefixOf (w.decided h) (contents_taken rules w.run h)
decided_in_run rules net w ok h = subst (λ (l : List Content). IsPrefixOf (w.decided h) l) (sym (ok.truth.run_ok.taken h)) (decided_prefix net w ok.sound h)

-- what a host is after as many inputs and receives as a log has entries is what the log gives
state_in_run : {S : Type 0} (rules : Rules S) (net : Net) (w : Assembly) → Kept rules net w → (g h : ℕ) → host_at rules w.run h (length (w.log g h)) ≡ ((alone rules h (w.log g h)).state h, (alone rules h (w.log g h)).outs h)
state_in_run {S} rules net w ok g h =
    let pre = log_in_run rules net w ok g h in
    let long = length-append (w.log g h) pre.0 in
    let whole = ap length pre.1 in
    let at = host_at_taken rules w.run ok.truth.run_ok.is_run h (length (w.log g h)) (omega arith) in
    subst (λ (l : List Content). host_at rules w.run h (length (w.log g h)) ≡ ((alone rules h l).state h, (alone rules h l).outs h)) (take_prefix (w.log g h) (contents_taken rules w.run h) pre) at

-- the logs spell the run
pub spells : {S : Type 0} (rules : Rules S) → Always rules (Spell rules)
spells rules net few events may =
    let w = after_all beginning events in
    let ok = kept rules net few events may in
    record {
      is_run = ok.truth.run_ok.is_run;
      logs = log_in_run rules net w ok;
      decided = decided_in_run rules net w ok;
      longest = λ h. elim (ok.truth.attained h) [
        | inl x ↦ inl (x.0, prefix_all (w.log x.0 h) (contents_taken rules w.run h) (log_in_run rules net w ok x.0 h) (x.1 ∙ sym (ap length (ok.truth.run_ok.taken h))))
        | inr d ↦ inr (prefix_all (w.decided h) (contents_taken rules w.run h) (decided_in_run rules net w ok h) (d ∙ sym (ap length (ok.truth.run_ok.taken h))))
      ];
      states = state_in_run rules net w ok;
      last_state = λ h. (run_same rules h w.run).state;
      last_outs = λ h. (run_same rules h w.run).outs;
    }

-- each message in a log was sent before it was received
pub receives : {S : Type 0} (rules : Rules S) → Always rules (ReceiveWhatWasSent rules)
receives rules net few events may g h s p k payload get =
    let w = after_all beginning events in
    let ok = kept rules net few events may in
    let inside = in_prefix (w.log g h) (contents_taken rules w.run h) (log_in_run rules net w ok g h) s (Message p k payload) get in
    let f = found_in rules h p k payload w.run (fresh rules) ok.truth.run_ok.is_run s inside in
    record { before = f.before; later = f.later; whole = f.whole; place = f.place; number = f.number; sent = f.sent }

-- a known entry of an honest host is no more than one past its own log
known_near : {S : Type 0} (rules : Rules S) (net : Net) (w : Assembly) → Kept rules net w → (h s : ℕ) (c : Content) → net.liars h ≡ false → IsKnown net w h s c → s ≤ length (w.log h h)
known_near rules net w ok h s c honest why =
    let o = known_offered net w ok.sound ok.inputs h s c honest why in
    (ok.inputs.offers h o.0 h s c o.1).within

-- so no log of it is more than one entry longer than its own
longest_near : {S : Type 0} (rules : Rules S) (net : Net) (w : Assembly) → Kept rules net w → (h : ℕ) → net.liars h ≡ false → length (w.longest h) ≤ length (w.log h h) + 1
longest_near rules net w ok h honest = elim (cases_order (length (w.longest h)) (length (w.log h h) + 1)) [
  | inl e ↦ omega arith
  | inr (inl lt) ↦ omega arith
  | inr (inr gt) ↦ absurd (
      let x = get_inside (w.longest h) (length (w.log h h) + 1) gt in
      let le = known_near rules net w ok h (length (w.log h h) + 1) x.0 honest (ok.sound.evidence.known h (length (w.log h h) + 1) x.0 x.1) in
      omega arith)
]

-- the inputs of a log, and of one content more
inputs-append : (xs ys : List Content) → inputs_in (xs ++ ys) ≡ inputs_in xs ++ inputs_in ys
inputs-append [] ys = refl
inputs-append (External x ∷ xs) ys = ap (λ (zs : List (List ℤ)). x ∷ zs) (inputs-append xs ys)
inputs-append (Message p k x ∷ xs) ys = inputs-append xs ys

-- an input that a host may offer is the first that waits
one_waits : (c : Content) (waiting : List (List ℤ)) → IsCandidate waiting c → IsPrefixOf (inputs_in (c ∷ [])) waiting
one_waits (External payload) [] head = absurd (cc)
one_waits (External payload) (x ∷ waiting) head = let same : payload ≡ x = cc in (waiting, ap (λ (y : List ℤ). y ∷ waiting) same)
one_waits (Message p k payload) waiting head = (waiting, refl)

-- what the longest log has past the own one waits
rest_waits : {S : Type 0} (rules : Rules S) (net : Net) (w : Assembly) → Kept rules net w → (h : ℕ) → net.liars h ≡ false → (rest : List Content) → w.log h h ++ rest ≡ w.longest h → IsPrefixOf (inputs_in rest) (w.waiting h)
rest_waits rules net w ok h honest [] whole = (w.waiting h, refl)
rest_waits rules net w ok h honest (c ∷ []) whole =
    let at : slice_get (w.longest h) (length (w.log h h)) ≡ Some c = ap (λ (l : List Content). slice_get l (length (w.log h h))) (sym whole) ∙ last (w.log h h) c in
    let o = known_offered net w ok.sound ok.inputs h (length (w.log h h)) c honest (ok.sound.evidence.known h (length (w.log h h)) c at) in
    one_waits c (w.waiting h) ((ok.inputs.offers h o.0 h (length (w.log h h)) c o.1).head refl)
  where
    last : (xs : List Content) (c : Content) → slice_get (xs ++ c ∷ []) (length xs) ≡ Some c
    last [] c = refl
    last (x ∷ xs) c = last xs c
rest_waits rules net w ok h honest (c ∷ d ∷ rest) whole = absurd (
    let near = longest_near rules net w ok h honest in
    let a = length-append (w.log h h) (c ∷ d ∷ rest) in
    let b = ap length whole in
    omega arith)

-- the inputs of the longest log are the first of those handed over
inputs_in_run : {S : Type 0} (rules : Rules S) (net : Net) (w : Assembly) → Kept rules net w → (h : ℕ) → net.liars h ≡ false → IsPrefixOf (inputs_in (w.longest h)) (w.handed h)
inputs_in_run rules net w ok h honest =
    let pre = log_prefix net w ok.sound h h in
    let waits = rest_waits rules net w ok h honest pre.0 pre.1 in
    let all = inputs-append (w.log h h) pre.0 in (
      waits.0,
      ap (λ (l : List Content). inputs_in l ++ waits.0) (sym pre.1)
          ∙ (ap (λ (z : List (List ℤ)). z ++ waits.0) all
          ∙ (append_assoc (inputs_in (w.log h h)) (inputs_in pre.0) waits.0
          ∙ (ap (λ (z : List (List ℤ)). inputs_in (w.log h h) ++ z) waits.1 ∙ ok.inputs.queue h))),
    )

-- inputs are taken as they were handed over
pub takes_inputs : {S : Type 0} (rules : Rules S) → Always rules (TakeInputs rules)
takes_inputs rules net few events may =
    let w = after_all beginning events in
    let ok = kept rules net few events may in
    record {
      inputs = λ h honest. subst (λ (l : List Content). IsPrefixOf (inputs_in l) (w.handed h)) (sym (ok.truth.run_ok.taken h)) (inputs_in_run rules net w ok h honest);
      own = λ g h honest. let a = ok.sound.evidence.fits g h in let b = longest_near rules net w ok h honest in omega arith;
    }
