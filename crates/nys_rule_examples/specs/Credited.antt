-- A message that waits as long as the credit lets it: it is taken in the last of the slots that the law of credits tells.
use Rattle.std.specs.Prelude.{ℕ, ◌+◌, ◌==◌, nat_lt, ◌&&◌, ℤ, List, [], ◌∷◌, ◌++◌, map, replicate, Ok}
use Rattle.nys_source.specs.declared.step.Step.TheVariants as step
use Rattle.nys_stmt.specs.declared.statement.Body.TheVariants as body
use Rattle.nys_stmt.specs.declared.statement.FilledKind.TheVariants as kind
use Rattle.nys_rules.specs.Events.{Plain}
use Rattle.nys_rules.specs.Events.Plain.{Bundle, Deliver, Exchange, Flush, Input, Say}
use Rattle.nys_rules.specs.Happening.{HappenAll}
use Rattle.nys_rules.specs.Premises.{HasGoodGuards}
use Rattle.nys_rules.specs.Sending.{said_in}
use Rattle.nys_rules.specs.World.{fresh_world, Setting, World}
use Rattle.nys_follows.specs.Scenario.{IsScenario}
use Rattle.nys_progress.specs.Credits.{AreNeighbours, HoldsHead, IsWidelyHeld}
use Rattle.nys_rule_examples.specs.Liars.{inserts}
use Rattle.nys_rule_examples.specs.Reached.{Replay}
use Rattle.nys_rule_examples.specs.Scenario.{first_message, four, input, just, lying}

-- the four hosts guard one another in the two epochs alone, the credit is 1, and host 1 lies
abbrev pub late_one : Setting (List ℤ)
late_one = lying (record (four 1) { guards = λ e h g. nat_lt e 2 && (nat_lt h 4 && nat_lt g 4) }) (λ h. h == 1)

-- host 0 logs an input, and its guards attest the message that it sends to host 1: hosts 0, 2 and 3 hold it as a head
abbrev pub heads_held : List Plain
heads_held = Input 0 (just 5) ∷ replicate 5 Exchange

-- host 1 puts an input of its own before it; its next is refused, and the message is taken
abbrev pub put_off : List Plain
put_off = inserts 0 (29 ∷ 30 ∷ 31 ∷ [])
    ++ (Say 1 (0 ∷ 2 ∷ 3 ∷ []) (said_in 0 (body.Filled kind.Offer 1 1 (input 0))) ∷ Flush ∷ [])
    ++ (Say 1 (0 ∷ 2 ∷ 3 ∷ []) (said_in 0 (body.Filled kind.Offer 1 1 first_message))
    ∷ Flush ∷ Bundle 1 (0 ∷ 2 ∷ 3 ∷ []) (50 ∷ 51 ∷ 52 ∷ []) ∷ Flush ∷ Flush ∷ [])

-- the longest log had no entry, and twice the credit is 2: the message stands in slot 1
abbrev pub taken_at_the_last : Replay
taken_at_the_last = record {
  setting = late_one;
  events = heads_held ++ put_off;
  host = 1;
  nodes = 0 ∷ 2 ∷ 3 ∷ [];
  shown = record {
    run = step.Input 0 (just 5) ∷ step.Input 1 (just 0) ∷ step.Receive 1 0 0 ∷ [];
    logs = replicate 3 (input 0 ∷ first_message ∷ []);
    notes = [];
    packets = 65;
  };
}

-- all that the law of credits asks for is met where the heads are held
pub record CanCredit : Type 0 where
  pub asked : IsScenario late_one
  pub good : HasGoodGuards late_one.scope
  pub ways : AreNeighbours late_one.scope.rules
  pub world : World
  pub happens : HappenAll late_one (fresh_world late_one) heads_held (Ok world)
  pub held : IsWidelyHeld late_one world 0 1 0 0 0

-- the same, and of the attestations host 3 is given that of host 0: it alone holds the message as a head
abbrev pub one_holds : List Plain
one_holds = Input 0 (just 5) ∷ replicate 4 Exchange ++ (Deliver 22 ∷ [])

-- in the slot hosts 0 and 2 order an input of host 1, whose packets have these numbers from the first on, and all vote
abbrev pub without_one : (slot first : ℕ) → List Plain
without_one slot first =
    Say 1 (0 ∷ 2 ∷ 3 ∷ []) (said_in 0 (body.Filled kind.Offer 1 slot (input 0)))
    ∷ Deliver first ∷ Deliver (first + 1)
    ∷ Say 1 (0 ∷ 2 ∷ 3 ∷ []) (said_in 0 (body.Filled kind.Order 1 slot (input 0)))
    ∷ Bundle 1 (0 ∷ 2 ∷ 3 ∷ []) ((first + 3) ∷ (first + 4) ∷ (first + 5) ∷ [])
    ∷ map Deliver ((first + 8) ∷ (first + 9) ∷ (first + 10)
    ∷ (first + 14) ∷ (first + 17) ∷ (first + 12) ∷ (first + 19) ∷ (first + 13) ∷ (first + 16) ∷ [])

-- one holder is too few: with host 1 they are a quorum without it, and the message isn't among the first two
abbrev pub one_is_too_few : Replay
one_is_too_few = record {
  setting = late_one;
  events = one_holds ++ without_one 0 26 ++ without_one 1 46;
  host = 1;
  nodes = 0 ∷ 2 ∷ 3 ∷ [];
  shown = record {
    run = step.Input 0 (just 5) ∷ step.Input 1 (just 0) ∷ step.Input 1 (just 0) ∷ [];
    logs = replicate 3 (input 0 ∷ input 0 ∷ []);
    notes = [];
    packets = 66;
  };
}

-- that one holds it
pub record OneHolds : Type 0 where
  pub world : World
  pub happens : HappenAll late_one (fresh_world late_one) one_holds (Ok world)
  pub holds : HoldsHead late_one world 0 1 0 0 3
