-- What is said of an example: where its events lead.
use Rattle.std.specs.Prelude.{◌≡◌, ℕ, ℤ, List, length, map, Ok, Err}
use Rattle.nys_bytes.specs.declared.content.Content.{Content}
use Rattle.nys_source.specs.declared.step.Step.{Step}
use Rattle.nys_rules.specs.declared.notice.End.{End}
use Rattle.nys_rules.specs.declared.notice.Note.{Note}
use Rattle.nys_rules.specs.Events.{Plain}
use Rattle.nys_rules.specs.Happening.{HappenAll}
use Rattle.nys_rules.specs.Scope.{Scope}
use Rattle.nys_rules.specs.Spelling.{printed_run}
use Rattle.nys_rules.specs.World.{fresh_world, Setting, World}

-- what is looked at in a world
pub record Shown : Type 0 where
  -- the run that is printed
  pub run : List Step
  -- the logs of one host that some nodes have, in the order of these nodes
  pub logs : List (List Content)
  pub notes : List Note
  -- how many packets were sent
  pub packets : ℕ

-- what the world shows of host h at these nodes
unfoldable pub shown_at : {S : Type 0} → Scope S → (h : ℕ) → (nodes : List ℕ) → World → Shown
shown_at scope h nodes w = record {
  run = printed_run scope w;
  logs = map (λ g. (w.nodes g).logs h) nodes;
  notes = w.notes;
  packets = length w.pool;
}

-- a replay: a scenario and its events, the host and the nodes that are looked at, and what is seen
pub record Replay : Type 0 where
  pub setting : Setting (List ℤ)
  pub events : List Plain
  pub host : ℕ
  pub nodes : List ℕ
  pub shown : Shown

-- the events lead from the fresh world to one that shows this
pub record Leads (r : Replay) : Type 0 where
  pub world : World
  pub happens : HappenAll r.setting (fresh_world r.setting) r.events (Ok world)
  pub shows : shown_at r.setting.scope r.host r.nodes world ≡ r.shown

-- the events lead from the fresh world to this end
abbrev pub Ends : Setting (List ℤ) → List Plain → End → Type 0
Ends setting events end = HappenAll setting (fresh_world setting) events (Err end)
