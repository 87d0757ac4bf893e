-- What the machine does in three small assemblies.
use Rattle.std.specs.Prelude.{◌≡◌, ℕ, ◌==◌, nat_lt, Bool, false, ◌&&◌, ◌||◌, if◌then◌else◌, ℤ, pos, List, [], ◌∷◌, ◌++◌}
use Rattle.nys_bytes.specs.declared.content.Content.{Content}
use Rattle.nys_bytes.specs.declared.content.Content.TheVariants.{External, Message}
use Rattle.nys_source.specs.Rules.{Rules}
use Rattle.nys_source.specs.declared.effect.Effect.TheVariants.{Out, Send}
use Rattle.nys_source.specs.declared.step.Step.TheVariants.{Input, Receive}
use Rattle.nys_agreement.specs.Net.{Net}
use Rattle.nys_agreement.specs.Said.{By, Has}
use Rattle.nys_agreement.specs.Said.Said.{Attest, Deliver, Frozen, Offer, Order, Report}
use Rattle.nys_agreement.specs.Assembly.{beginning}
use Rattle.nys_agreement.specs.Events.{Event}
use Rattle.nys_agreement.specs.Events.Event.{Decides, Enters, Hands, Logs, Opens, Says, TopWedges, Wedges}
use Rattle.nys_agreement.specs.After.{after_all, Follows}

-- two neighbours: host 0 passes what it takes on to host 1, which puts it out
abbrev pub passing : Rules (List ℤ)
passing = record {
  hosts = 2;
  linked = λ p h. (p == 0 && h == 1) || (p == 1 && h == 0);
  start = λ h. [];
  next = λ h state from payload. (payload, (if h == 0 then Send 1 payload ∷ [] else Out payload ∷ []));
  view = λ state. state;
}

-- parties 0 to 3 guard both hosts in each epoch, and stand one liar
abbrev pub four : (ℕ → Bool) → Net
four liars = record { guards = λ e h g. nat_lt g 4; liars = liars; t = λ e h. 1 }

-- the payload with the number 5
abbrev pub five : List ℤ
five = pos 5 ∷ []

-- the payload with the number 6
abbrev pub six : List ℤ
six = pos 6 ∷ []

-- an event of each of the guards 1 to 3
abbrev pub of_three : (ℕ → Event) → List Event
of_three event = event 1 ∷ event 2 ∷ event 3 ∷ []

-- an event of each of the four guards
abbrev pub of_four : (ℕ → Event) → List Event
of_four event = event 0 ∷ of_three event

-- host h offers the content for slot 0, and all four order, deliver and log it
abbrev pub logging : ℕ → Content → List Event
logging h c = Says h (Offer 0 h 0 c) ∷ of_four (λ g. Says g (Order 0 h 0 c))
    ++ of_four (λ g. Says g (Deliver 0 h 0 c)) ++ of_four (λ g. Logs g h c)

-- an input of host 0, and then the message that it sent, which two guards attest
abbrev pub input_and_message : List Event
input_and_message = Hands 0 five ∷ logging 0 (External five)
    ++ (Says 0 (Attest 0 0 1 0 five) ∷ Says 1 (Attest 0 0 1 0 five) ∷ logging 1 (Message 0 0 five))

-- four honest guards log an input and a message, and the run has both
pub record LogBoth : Type 0 where
  pub allowed : Follows passing (four (λ g. false)) beginning input_and_message
  pub first_log : (after_all beginning input_and_message).log 3 0 ≡ External five ∷ []
  pub second_log : (after_all beginning input_and_message).log 3 1 ≡ Message 0 0 five ∷ []
  pub run : (after_all beginning input_and_message).run ≡ Input 0 five ∷ Receive 1 0 0 ∷ []

-- three guards deliver an input, none logs it, and the epoch ends: two report it, and three are frozen past it
abbrev pub decision : List Event
decision = (Hands 0 five ∷ Says 0 (Offer 0 0 0 (External five)) ∷ of_four (λ g. Says g (Order 0 0 0 (External five))))
    ++ of_three (λ g. Says g (Deliver 0 0 0 (External five))) ++ (TopWedges ∷ of_three Wedges)
    ++ (Says 1 (Report 0 0 0 (External five)) ∷ Says 2 (Report 0 0 0 (External five)) ∷ [])
    ++ of_three (λ g. Says g (Frozen 0 0 1)) ++ (Decides 0 (External five ∷ []) ∷ [])

-- a decision passes all logs by one entry, and the run takes it
pub record DecidePastLogs : Type 0 where
  pub allowed : Follows passing (four (λ g. false)) beginning decision
  pub logs : (g : ℕ) → (after_all beginning decision).log g 0 ≡ []
  pub decided : (after_all beginning decision).decided 0 ≡ External five ∷ []
  pub run : (after_all beginning decision).run ≡ Input 0 five ∷ []

-- host 0 lies. Guard 1 alone delivers 5 in epoch 0; both hosts are decided at nothing, by two that are
-- frozen there and the liar. In epoch 1 the three order, deliver and log 6
abbrev pub abandoning : List Event
abandoning = of_three (λ g. Says g (Order 0 0 0 (External five)))
    ++ (Says 1 (Deliver 0 0 0 (External five)) ∷ TopWedges ∷ of_three Wedges)
    ++ (Says 1 (Frozen 0 0 1) ∷ Says 2 (Frozen 0 0 0) ∷ Says 3 (Frozen 0 0 0) ∷ Says 2 (Frozen 0 1 0) ∷ Says 3 (Frozen 0 1 0) ∷ [])
    ++ (Decides 0 [] ∷ Decides 1 [] ∷ Opens ∷ of_three (λ g. Enters g 1))
    ++ of_three (λ g. Says g (Order 1 0 0 (External six))) ++ of_three (λ g. Says g (Deliver 1 0 0 (External six)))
    ++ of_three (λ g. Logs g 0 (External six))

-- a Deliver of an earlier epoch that was abandoned differs from the run
pub record Abandon : Type 0 where
  pub allowed : Follows passing (four (λ g. g == 0)) beginning abandoning
  pub delivered : Has (after_all beginning abandoning).ledger (By 1 (Deliver 0 0 0 (External five)))
  pub logged : (after_all beginning abandoning).log 1 0 ≡ External six ∷ []
  pub run : (after_all beginning abandoning).run ≡ Input 0 six ∷ []
