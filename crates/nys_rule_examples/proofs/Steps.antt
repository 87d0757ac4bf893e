-- Single steps, computed.
use Rattle.std.proofs.Common.{◌≡◌, refl, true, ℕ, ℤ, List, [], ◌∷◌}
use Rattle.std.specs.Prelude.{length}
use Rattle.nys_rules.specs.declared.rule.Rule.{Rule}
use Rattle.nys_rules.specs.declared.rule.Rule.TheVariants.{Certificate, Deliver, Log, Offer, Order}
use Rattle.nys_rules.specs.Handling.{with_input}
use Rattle.nys_rules.specs.Scope.{Scope}
use Rattle.nys_rules.specs.View.{first_view, View}
use Rattle.nys_rule_examples.specs.Scenario.{four, input, just, lone}
use Rattle.nys_rule_examples.specs.Steps.{Candidates, Decisions, Settlings, SettlesBy}
use Rattle.nys_rule_examples.proofs.Settlings.{settle, settle_is, Settled}
use Rattle.nys_rule_examples.proofs.Words.{words}

-- a settling that is computed: it comes to rest, by these rules, with so many statements and packets
pub record Computed (s : Settled) (rules : List Rule) (statements packets : ℕ) : Type 0 where
  pub rests : s.rests ≡ true
  pub rules_are : s.rules ≡ rules
  pub made : length s.acts.made ≡ statements
  pub sent : length s.acts.packets ≡ packets

-- so the node settles
settles_by : (scope : Scope (List ℤ)) (v : View) (rules : List Rule) (statements packets : ℕ)
    → Computed (settle 9 scope v) rules statements packets → SettlesBy scope v rules statements packets
settles_by scope v rules statements packets x =
    let settles = settle_is 9 scope v x.rests in
    record {
      after = (settle 9 scope v).after;
      acts = (settle 9 scope v).acts;
      settles = rw (← x.rules_are) settles;
      made = x.made;
      sent = x.sent;
    }

-- a host that is handed an input
offers : Computed (settle 9 (four 4) (with_input (just 5) (first_view (four 4) 0))) (Offer 0 (input 5) ∷ Order 0 (input 5) ∷ []) 2 3
unfolding words
offers = record { rests = refl; rules_are = refl; made = refl; sent = refl }

-- one that guards itself
does_all : Computed (settle 9 lone (with_input (just 5) (first_view lone 0)))
    (Offer 0 (input 5) ∷ Order 0 (input 5) ∷ Certificate 0 (input 5) ∷ Deliver 0 (input 5) ∷ Log 0 (input 5) ∷ []) 3 0
unfolding words
does_all = record { rests = refl; rules_are = refl; made = refl; sent = refl }

-- how nodes settle
pub settlings : Settlings
unfolding words
settlings = record {
  idle = refl;
  host = settles_by (four 4) (with_input (just 5) (first_view (four 4) 0)) (Offer 0 (input 5) ∷ Order 0 (input 5) ∷ []) 2 3 offers;
  alone = settles_by lone (with_input (just 5) (first_view lone 0))
      (Offer 0 (input 5) ∷ Order 0 (input 5) ∷ Certificate 0 (input 5) ∷ Deliver 0 (input 5) ∷ Log 0 (input 5) ∷ []) 3 0 does_all;
}

-- what a host offers
pub candidates : Candidates
unfolding words
candidates = record { input_first = refl; overdue_first = refl }

-- what the Olympus decides
pub decisions : Decisions
unfolding words
decisions = record { second_report = refl; one_report = refl; decided = refl; undecided = refl; not_ending = refl }
