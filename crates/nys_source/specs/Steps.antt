-- The step relation of the source system: an input, a receive, a stop, and nothing else.
use Rattle.std.specs.Prelude.{◌≡◌, ℕ, ◌+◌, ◌<◌, ◌==◌, nat_lt, Bool, false, not, if◌then◌else◌, ℤ, List, [], ◌∷◌, ◌++◌, fold, slice_get, Option, Some, None}
use Rattle.nys_source.specs.Tables.{put, put_at, added, added_at}
use Rattle.nys_source.specs.Rules.{Rules}
use Rattle.nys_source.specs.Source.{Source}
use Rattle.nys_source.specs.declared.effect.Effect.{Effect}
use Rattle.nys_source.specs.declared.effect.Effect.TheVariants.{Send, Out}
use Rattle.nys_source.specs.declared.step.Step.{Step}
use Rattle.nys_source.specs.declared.step.Step.TheVariants.{Input, Receive, Stop}
use Rattle.nys_source.specs.declared.step.NotAStep.{NotAStep}
use Rattle.nys_source.specs.declared.step.NotAStep.TheVariants.{NoHost, Stopped, NotNeighbour, NothingSent}

-- the system after one effect of host h: a payload joins the link's list or the host's outputs
abbrev pub after_effect : {S : Type 0} → ℕ → Source S → Effect → Source S
after_effect h before (Send to payload) =
    record before { sent = added_at before.sent h to payload; messages = before.messages ++ (h, to) ∷ [] }
after_effect h before (Out payload) = record before { outs = added before.outs h payload }

-- the system in which host h is in another state
abbrev pub with_state : {S : Type 0} → Source S → ℕ → S → Source S
with_state before h state = record before { state = put before.state h state }

-- the system after host h has taken a payload: its new state, then its effects in order
unfoldable pub after_payload : {S : Type 0} → Rules S → Source S → ℕ → Option ℕ → List ℤ → Source S
after_payload rules before h from payload =
    let made = rules.next h (before.state h) from payload in
    fold (after_effect h) (with_state before h made.0) made.1

-- the system in which host h has received one payload more from p
abbrev pub counted : {S : Type 0} → Source S → ℕ → ℕ → Source S
counted before p h = record before { received = put_at before.received p h (before.received p h + 1) }

-- the system after host h has taken the message of p that may be there
abbrev pub after_message : {S : Type 0} → Rules S → Source S → ℕ → ℕ → Option (List ℤ) → Source S
after_message rules before h p None = before
after_message rules before h p (Some payload) = after_payload rules (counted before p h) h (Some p) payload

-- the system after a step; only a step that is not refused means anything
abbrev pub after_step : {S : Type 0} → Rules S → Source S → Step → Source S
after_step rules before (Input h payload) = after_payload rules before h None payload
after_step rules before (Receive h p k) = after_message rules before h p (slice_get (before.sent p h) k)
after_step rules before (Stop h) = record before { running = put before.running h false }

-- why host h takes no step at all: it does not exist or does not run
abbrev pub host_refusal : {S : Type 0} → Rules S → Source S → ℕ → Option NotAStep
host_refusal rules before h =
    if not (nat_lt h rules.hosts) then Some (NoHost h)
    else if not (before.running h) then Some (Stopped h)
    else None

-- why number k of p is not what a neighbour h receives next
abbrev pub number_refusal : {S : Type 0} → Source S → ℕ → ℕ → ℕ → Option (List ℤ) → Option NotAStep
number_refusal before h p k None = Some (NothingSent p h k)
number_refusal before h p k (Some payload) =
    if k == before.received p h then None else Some (NothingSent p h k)

-- why a step may not be taken: the first failing test in the order of these lines
abbrev pub refusal : {S : Type 0} → Rules S → Source S → Step → Option NotAStep
refusal rules before (Input h payload) = host_refusal rules before h
refusal rules before (Stop h) = host_refusal rules before h
refusal rules before (Receive h p k) =
    if not (nat_lt h rules.hosts) then Some (NoHost h)
    else if not (nat_lt p rules.hosts) then Some (NoHost p)
    else if not (before.running h) then Some (Stopped h)
    else if not (rules.linked p h) then Some (NotNeighbour p h)
    else number_refusal before h p k (slice_get (before.sent p h) k)
