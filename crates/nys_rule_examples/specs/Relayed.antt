-- A content that one honest guard has logged with a liar's vote, and which the others log after two exchanges.
use Rattle.std.specs.Prelude.{ℕ, ◌==◌, nat_lt, ◌&&◌, ℤ, List, [], ◌∷◌, ◌++◌, map, replicate, Ok}
use Rattle.nys_source.specs.declared.step.Step.TheVariants as step
use Rattle.nys_stmt.specs.declared.statement.Body.TheVariants as body
use Rattle.nys_stmt.specs.declared.statement.FilledKind.TheVariants as kind
use Rattle.nys_rules.specs.Events.{Plain}
use Rattle.nys_rules.specs.Events.Plain.{Deliver, Exchange, Input, Say}
use Rattle.nys_rules.specs.Happening.{HappenAll}
use Rattle.nys_rules.specs.Premises.{HasGoodGuards}
use Rattle.nys_rules.specs.Scope.{Scope}
use Rattle.nys_rules.specs.Sending.{said_in}
use Rattle.nys_rules.specs.World.{fresh_world, Setting, World}
use Rattle.nys_follows.specs.Scenario.{IsScenario}
use Rattle.nys_progress.specs.Carried.{HasTags, IsCarried}
use Rattle.nys_progress.specs.Relay.{IsRelayable}
use Rattle.nys_rule_examples.specs.Reached.{Replay}
use Rattle.nys_rule_examples.specs.Scenario.{four, input, just, lying}

-- the four hosts guard one another in the two epochs alone, and host 3 lies
abbrev pub one_lies : Setting (List ℤ)
one_lies = lying (record (four 4) { guards = λ e h g. nat_lt e 2 && (nat_lt h 4 && nat_lt g 4) }) (λ h. h == 3)

-- hosts 0, 1 and 2 order an input of host 0, hosts 0 and 1 vote for it, and so does the liar, towards host 0 alone:
-- host 0 has logged it, and host 2 hasn't taken the certificate
abbrev pub with_a_liar : List Plain
with_a_liar = Input 0 (just 5)
    ∷ map Deliver (0 ∷ 1 ∷ 3 ∷ 4 ∷ 5 ∷ 11 ∷ [])
    ++ (Say 3 (0 ∷ []) (said_in 0 (body.Filled kind.Deliver 0 0 (input 5))) ∷ Deliver 14 ∷ [])

-- all that the relay asks for is met there
pub record CanRelay : Type 0 where
  pub asked : IsScenario one_lies
  pub good : HasGoodGuards one_lies.scope
  pub tags : HasTags one_lies.scope
  pub carried : IsCarried (input 5)
  pub world : World
  pub happens : HappenAll one_lies (fresh_world one_lies) with_a_liar (Ok world)
  pub may : IsRelayable one_lies world 0 0 0 (input 5)

-- the honest hosts
abbrev pub honest_three : List ℕ
honest_three = 0 ∷ 1 ∷ 2 ∷ []

-- after one exchange host 1 still lacks the vote of host 2, which was sent in it
abbrev pub one_exchange : Replay
one_exchange = record {
  setting = one_lies;
  events = with_a_liar ++ Exchange ∷ [];
  host = 0;
  nodes = honest_three;
  shown = record {
    run = step.Input 0 (just 5) ∷ [];
    logs = (input 5 ∷ []) ∷ [] ∷ (input 5 ∷ []) ∷ [];
    notes = [];
    packets = 24;
  };
}

-- after two each has logged it
abbrev pub two_exchanges : Replay
two_exchanges = record {
  setting = one_lies;
  events = with_a_liar ++ Exchange ∷ Exchange ∷ [];
  host = 0;
  nodes = honest_three;
  shown = record {
    run = step.Input 0 (just 5) ∷ [];
    logs = replicate 3 (input 5 ∷ []);
    notes = [];
    packets = 30;
  };
}
