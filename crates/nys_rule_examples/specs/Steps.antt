-- Single steps: how a node settles, what a host offers, and what the Olympus decides.
use Rattle.std.specs.Prelude.{◌≡◌, ℕ, ◌==◌, true, ◌&&◌, if◌then◌else◌, ℤ, List, [], ◌∷◌, ◌++◌, length, replicate, Option, None, Some}
use Rattle.nys_bytes.specs.declared.content.Content.{Content}
use Rattle.nys_votes.specs.Seats.{no_seats}
use Rattle.nys_rules.specs.declared.decision.Decision.TheVariants.{Decided, NotWedged, Undecided}
use Rattle.nys_rules.specs.declared.rule.Rule.{Rule}
use Rattle.nys_rules.specs.declared.rule.Rule.TheVariants.{Certificate, Deliver, Log, Offer, Order}
use Rattle.nys_rules.specs.Handling.{with_input}
use Rattle.nys_rules.specs.Heads.{candidate}
use Rattle.nys_rules.specs.Olympus.{decision, first_olympus, OlympusView, Reported, supported}
use Rattle.nys_rules.specs.Packets.{Acts}
use Rattle.nys_rules.specs.Rules.{due}
use Rattle.nys_rules.specs.Scope.{Scope}
use Rattle.nys_rules.specs.Settling.{Settles}
use Rattle.nys_rules.specs.View.{first_view, View}
use Rattle.nys_rule_examples.specs.Scenario.{first_message, four, input, just, lone}

-- a node settles by these rules, and then makes so many statements and sends so many packets
pub record SettlesBy (scope : Scope (List ℤ)) (v : View) (rules : List Rule) (statements packets : ℕ) : Type 0 where
  pub after : View
  pub acts : Acts
  pub settles : Settles scope v rules after acts
  pub made : length acts.made ≡ statements
  pub sent : length acts.packets ≡ packets

-- how nodes settle once they are handed an input
pub record Settlings : Type 0 where
  -- nothing is due at the beginning
  pub idle : due (four 4) (first_view (four 4) 0) ≡ None
  -- a host offers its input to three guards, and orders it itself
  pub host : SettlesBy (four 4) (with_input (just 5) (first_view (four 4) 0)) (Offer 0 (input 5) ∷ Order 0 (input 5) ∷ []) 2 3
  -- a host that guards itself does all there is to do
  pub alone : SettlesBy lone (with_input (just 5) (first_view lone 0))
      (Offer 0 (input 5) ∷ Order 0 (input 5) ∷ Certificate 0 (input 5) ∷ Deliver 0 (input 5) ∷ Log 0 (input 5) ∷ []) 3 0

-- host 1 with an input that waits, and with the message of host 0 at the head of its link since length 0;
-- its log has this many inputs
abbrev pub waiting_host : (slots : ℕ) → View
waiting_host slots = record (first_view (four 4) 1) {
  waiting = just 7 ∷ [];
  logs = λ h. if h == 1 then replicate slots (input 7) else [];
  heard = λ p h k. if (p == 0 && h == 1) && k == 0 then None ∷ None ∷ Some (just 5) ∷ Some (just 5) ∷ replicate 28 None else no_seats;
  heads = λ h. if h == 1 then Some 0 ∷ replicate 31 None else no_seats;
}

-- what a host offers with credit 4
pub record Candidates : Type 0 where
  pub input_first : candidate (four 4) (waiting_host 3) 1 ≡ Some (input 7)
  pub overdue_first : candidate (four 4) (waiting_host 4) 1 ≡ Some first_message

-- a guard's report
abbrev pub report : ℕ → Content → Reported
report guard content = record { guard = guard; content = content }

-- the Olympus with reports for slot 0 of host 0, and with what froze of that host
abbrev pub told : List Reported → List (Option ℕ) → OlympusView
told reports frozen = record first_olympus {
  wedged = true;
  reports = λ h slot. if h == 0 && slot == 0 then reports else [];
  frozen = λ h. frozen ++ replicate 28 None;
}

-- 7, then 5 twice, then 7 again
abbrev pub mixed : List Reported
mixed = report 1 (input 7) ∷ report 2 (input 5) ∷ report 3 (input 5) ∷ report 0 (input 7) ∷ []

-- what the Olympus decides, where three of four are a quorum
pub record Decisions : Type 0 where
  -- the content whose second report came first
  pub second_report : supported (four 4) (told mixed []) 0 0 ≡ Some (input 5)
  pub one_report : supported (four 4) (told (report 1 (input 7) ∷ report 2 (input 5) ∷ []) []) 0 0 ≡ None
  -- slot 0 is supported, and three are frozen at 1 or before
  pub decided : decision (four 4) (told mixed (Some 0 ∷ Some 1 ∷ Some 1 ∷ Some 2 ∷ [])) 0 ≡ Decided 1
  -- two are
  pub undecided : decision (four 4) (told mixed (None ∷ Some 1 ∷ Some 0 ∷ Some 2 ∷ [])) 0 ≡ Undecided 1 2
  pub not_ending : decision (four 4) first_olympus 0 ≡ NotWedged
