-- A log that must be decided, and one of which the Olympus hasn't heard.
use Rattle.std.specs.Prelude.{List, [], ◌∷◌, ◌++◌, replicate, Ok}
use Rattle.nys_source.specs.declared.step.Step.TheVariants as step
use Rattle.nys_rules.specs.declared.decision.Decision.TheVariants as decide
use Rattle.nys_rules.specs.declared.notice.NoteKind.TheVariants as tell
use Rattle.nys_rules.specs.Events.{Plain}
use Rattle.nys_rules.specs.Events.Plain.{Decide, Flush, Wedge}
use Rattle.nys_rules.specs.Happening.{HappenAll}
use Rattle.nys_rules.specs.World.{fresh_world, World}
use Rattle.nys_progress.specs.Decision.{IsDueAt}
use Rattle.nys_rule_examples.specs.Agreed.{all_four, input_and}
use Rattle.nys_rule_examples.specs.Epochs.{note}
use Rattle.nys_rule_examples.specs.Reached.{Replay}
use Rattle.nys_rule_examples.specs.Scenario.{four, honest, input, just}

-- an input is logged and the epoch ends; the second flush gives the Olympus what the guards tell
abbrev pub told : List Plain
told = input_and 4 ++ (Wedge ∷ Flush ∷ Flush ∷ [])

-- after that the log of host 0 is due at slot 1
pub record IsMet : Type 0 where
  pub world : World
  pub happens : HappenAll (honest (four 4)) (fresh_world (honest (four 4))) told (Ok world)
  pub due : IsDueAt (honest (four 4)) world 0 1

-- without the second flush the Olympus has heard of no guard, and nothing is decided
abbrev pub unheard : Replay
unheard = record {
  setting = honest (four 4);
  events = input_and 4 ++ (Wedge ∷ Flush ∷ Decide 0 ∷ []);
  host = 0;
  nodes = all_four;
  shown = record {
    run = step.Input 0 (just 5) ∷ [];
    logs = replicate 4 (input 5 ∷ []);
    notes = note 5 (tell.Wedged 0) ∷ note 7 (tell.Decide 0 (decide.Undecided 0 0)) ∷ [];
    packets = 63;
  };
}
