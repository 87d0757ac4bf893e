-- What the hosts run: a protocol that is known by its name, a tree by its root, or a machine by its text.
use Rattle.std.specs.Prelude.{ℕ, List, Result, Ok, Err}
use Rattle.nys_lex.specs.declared.fault.MachineFault.{MachineFault}
use Rattle.nys_tree.specs.declared.machine.Machine as tree
use Rattle.nys_scenario.specs.Keys.{Refusal}
use Rattle.nys_scenario.specs.Keys.Refusal.{AtMachine}
use Rattle.nys_scenario.specs.Machine.{machine_of}
use Rattle.nys_scenario.specs.declared.choice.Choice.{Choice}
use Rattle.nys_scenario.specs.declared.choice.Choice.TheVariants as choice
use Rattle.nys_scenario.specs.declared.protocol.ProtocolName.{ProtocolName}
use Rattle.nys_scenario.specs.declared.protocol.ProtocolName.TheVariants as name

-- the protocol that the hosts run
pub data Protocol : Type 0 where
  Sum : Protocol
  Flood : Protocol
  Route : Protocol
  -- the host from which a tree multicasts
  Tree : (root : ℕ) → Protocol
  -- a machine, with the place of each name in its tree
  Machine : tree.Machine → Protocol

-- the protocol of a machine's text, which may be none
abbrev pub protocol_from : Result tree.Machine MachineFault → Result Protocol Refusal
protocol_from (Ok machine) = Ok (Machine machine)
protocol_from (Err fault) = Err (AtMachine fault)

-- the protocol of this name; the root is that of a tree, and the text is read for a machine alone
abbrev pub protocol_of : ProtocolName → ℕ → List ℕ → Result Protocol Refusal
protocol_of name.Sum root text = Ok Sum
protocol_of name.Flood root text = Ok Flood
protocol_of name.Route root text = Ok Route
protocol_of name.Tree root text = Ok (Tree root)
protocol_of name.Machine root text = protocol_from (machine_of text)

-- a choice, as the protocol that it is
abbrev pub protocol_by : Choice → Protocol
protocol_by choice.Sum = Sum
protocol_by choice.Flood = Flood
protocol_by choice.Route = Route
protocol_by (choice.Tree root) = Tree root
protocol_by (choice.Machine named) = Machine named.tree
