-- What liars can do, and can't.
use Rattle.std.specs.Prelude.{ℕ, ◌==◌, List, [], ◌∷◌, ◌++◌, replicate}
use Rattle.nys_source.specs.declared.step.Step.TheVariants as step
use Rattle.nys_stmt.specs.declared.statement.Body.TheVariants as body
use Rattle.nys_stmt.specs.declared.statement.FilledKind.TheVariants as kind
use Rattle.nys_stmt.specs.declared.statement.Statement.{Statement}
use Rattle.nys_rules.specs.declared.notice.End.TheVariants.{Forged}
use Rattle.nys_rules.specs.Events.{Plain}
use Rattle.nys_rules.specs.Events.Plain.{Bundle, Deliver, Exchange, Flush, Input, Say, Steal}
use Rattle.nys_rules.specs.Sending.{said_in}
use Rattle.nys_rule_examples.specs.Reached.{Ends, Replay}
use Rattle.nys_rule_examples.specs.Scenario.{first_message, four, honest, input, just, lying}

-- parties 1, 2 and 3
abbrev pub one_to_three : List ℕ
one_to_three = 1 ∷ 2 ∷ 3 ∷ []

-- host 0 offers 5 to two guards and 7 to the third; then it orders both, and sends a certificate of each
-- as far as its guards ordered
abbrev pub two_offers : List Plain
two_offers =
    Say 0 (1 ∷ 2 ∷ []) (said_in 0 (body.Filled kind.Offer 0 0 (input 5)))
    ∷ Say 0 (3 ∷ []) (said_in 0 (body.Filled kind.Offer 0 0 (input 7)))
    ∷ Flush
    ∷ Say 0 one_to_three (said_in 0 (body.Filled kind.Order 0 0 (input 5)))
    ∷ Say 0 one_to_three (said_in 0 (body.Filled kind.Order 0 0 (input 7)))
    ∷ Bundle 0 one_to_three (6 ∷ 3 ∷ 4 ∷ [])
    ∷ Bundle 0 one_to_three (9 ∷ 5 ∷ [])
    ∷ Flush ∷ Flush ∷ []

-- three of four ordered 5, so all honest guards log it, and 7 is nowhere
abbrev pub one_is_logged : Replay
one_is_logged = record {
  setting = lying (four 4) (λ h. h == 0);
  events = two_offers;
  host = 0;
  nodes = one_to_three;
  shown = record {
    run = step.Input 0 (just 5) ∷ [];
    logs = replicate 3 (input 5 ∷ []);
    notes = [];
    packets = 36;
  };
}

-- an offer to one guard and another to the next leads nowhere
abbrev pub none_is_logged : Replay
none_is_logged = record {
  setting = lying (four 4) (λ h. h == 0);
  events = Say 0 (1 ∷ []) (said_in 0 (body.Filled kind.Offer 0 0 (input 5)))
      ∷ Say 0 (2 ∷ []) (said_in 0 (body.Filled kind.Offer 0 0 (input 7))) ∷ Flush ∷ Flush ∷ [];
  host = 0;
  nodes = one_to_three;
  shown = record { run = []; logs = replicate 3 []; notes = []; packets = 4 };
}

-- a Deliver that an honest guard never made
abbrev pub stolen : Statement
stolen = said_in 0 (body.Filled kind.Deliver 0 0 (input 5))

-- where an honest guard accepts it, the world ends
abbrev pub IsFound : Type 0
IsFound = Ends (honest (four 4)) (Steal 2 (1 ∷ []) stolen ∷ Deliver 0 ∷ []) (Forged 1 2 1 stolen)

-- host 1 offers an input of its own in this slot, and sends the orders of these packets
abbrev pub inserts : (slot : ℕ) → (packets : List ℕ) → List Plain
inserts slot packets =
    Say 1 (0 ∷ 2 ∷ 3 ∷ []) (said_in 0 (body.Filled kind.Offer 1 slot (input 0)))
    ∷ Flush ∷ Bundle 1 (0 ∷ 2 ∷ 3 ∷ []) packets ∷ Flush ∷ Flush ∷ []

-- a host that puts its own inputs before a message: with credit 2 the third is refused, and the message
-- is taken
abbrev pub passing_over : List Plain
passing_over = Input 0 (just 5) ∷ replicate 5 Exchange
    ++ inserts 0 (29 ∷ 30 ∷ 31 ∷ []) ++ inserts 1 (47 ∷ 48 ∷ 49 ∷ [])
    ++ (Say 1 (0 ∷ 2 ∷ 3 ∷ []) (said_in 0 (body.Filled kind.Offer 1 2 (input 0))) ∷ Flush ∷ [])
    ++ (Say 1 (0 ∷ 2 ∷ 3 ∷ []) (said_in 0 (body.Filled kind.Offer 1 2 first_message))
    ∷ Flush ∷ Bundle 1 (0 ∷ 2 ∷ 3 ∷ []) (68 ∷ 69 ∷ 70 ∷ []) ∷ Flush ∷ Flush ∷ [])

-- the head that was recorded at length 0 is overdue in slot 2
abbrev pub head_is_taken : Replay
head_is_taken = record {
  setting = lying (four 2) (λ h. h == 1);
  events = passing_over;
  host = 1;
  nodes = 0 ∷ 2 ∷ 3 ∷ [];
  shown = record {
    run = step.Input 0 (just 5) ∷ step.Input 1 (just 0) ∷ step.Input 1 (just 0) ∷ step.Receive 1 0 0 ∷ [];
    logs = replicate 3 (input 0 ∷ input 0 ∷ first_message ∷ []);
    notes = [];
    packets = 83;
  };
}
