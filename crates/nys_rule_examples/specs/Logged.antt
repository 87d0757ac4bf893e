-- An input that four exchanges log where its orders are whole, and one that none logs where they aren't.
use Rattle.std.specs.Prelude.{[], ◌∷◌, replicate, Ok}
use Rattle.nys_stmt.specs.declared.statement.Body.TheVariants as body
use Rattle.nys_stmt.specs.declared.statement.FilledKind.TheVariants as kind
use Rattle.nys_stmt.specs.declared.statement.Statement.{Statement}
use Rattle.nys_rules.specs.Events.Plain.{Deliver, Exchange, Input, Steal}
use Rattle.nys_rules.specs.Happening.{HappenAll}
use Rattle.nys_rules.specs.Premises.{HasGoodGuards}
use Rattle.nys_rules.specs.Sending.{said_in}
use Rattle.nys_rules.specs.World.{fresh_world, World}
use Rattle.nys_follows.specs.Scenario.{IsScenario}
use Rattle.nys_progress.specs.Carried.{HasTags, IsCarried}
use Rattle.nys_progress.specs.FourExchanges.{HasWholeOrders}
use Rattle.nys_progress.specs.Ordered.{IsOffered}
use Rattle.nys_rule_examples.specs.Agreed.{all_four}
use Rattle.nys_rule_examples.specs.Reached.{Replay}
use Rattle.nys_rule_examples.specs.Relayed.{one_lies}
use Rattle.nys_rule_examples.specs.Scenario.{four, honest, input, just}

-- all that the four exchanges ask for is met after an input of host 0 and four exchanges, while host 3 is silent
pub record CanLog : Type 0 where
  pub asked : IsScenario one_lies
  pub good : HasGoodGuards one_lies.scope
  pub tags : HasTags one_lies.scope
  pub world : World
  pub happens : HappenAll one_lies (fresh_world one_lies) (Input 0 (just 5) ∷ []) (Ok world)
  pub carried : IsCarried (input 5)
  pub may : IsOffered one_lies world 0 0 0 (input 5)
  pub next : World
  pub later : HappenAll one_lies world (replicate 4 Exchange) (Ok next)
  pub whole : HasWholeOrders one_lies next 0 0 0

-- the Order of the input
abbrev pub ordered : Statement
ordered = said_in 0 (body.Filled kind.Order 0 0 (input 5))

-- hosts 1, 2 and 3 have ordered the input, and host 0 takes their orders from a stranger, with their tags for it alone:
-- its certificates convince nobody, and no exchange logs the input
abbrev pub spoiled : Replay
spoiled = record {
  setting = honest (four 4);
  events = Input 0 (just 5) ∷ Exchange
      ∷ Steal 1 (0 ∷ []) ordered ∷ Steal 2 (0 ∷ []) ordered ∷ Steal 3 (0 ∷ []) ordered
      ∷ Deliver 6 ∷ Deliver 7 ∷ Deliver 8 ∷ replicate 4 Exchange;
  host = 0;
  nodes = all_four;
  shown = record { run = []; logs = replicate 4 []; notes = []; packets = 18 };
}
