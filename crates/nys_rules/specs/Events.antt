-- Events as plain data: what contracts see of one.
use Rattle.std.specs.Prelude.{ℕ, ℤ, List}
use Rattle.nys_stmt.specs.declared.statement.Statement.{Statement}
use Rattle.nys_rules.specs.declared.event.Event.{Event}
use Rattle.nys_rules.specs.declared.event.Event.TheVariants as event

-- an event, in which a frame is the list of its bytes and packets are the list of their numbers
pub data Plain : Type 0 where
  -- a payload is handed to host h
  Input : (h : ℕ) → (payload : List ℤ) → Plain
  -- packet k is given to the party that it is for
  Deliver : (k : ℕ) → Plain
  -- each packet that was never given is given
  Flush : Plain
  -- each packet between honest parties is given again
  Exchange : Plain
  -- host h asks
  Ask : (h : ℕ) → Plain
  -- bytes that nobody sent are given to a party
  Bytes : (to : ℕ) → (frame : List ℕ) → Plain
  -- liar a sends a statement under its own tags
  Say : (a : ℕ) → (to : List ℕ) → Statement → Plain
  -- liar a sends the makers of packets of one statement in one record
  Bundle : (a : ℕ) → (to packets : List ℕ) → Plain
  -- a statement under the tags of party a comes from a stranger
  Steal : (a : ℕ) → (to : List ℕ) → Statement → Plain
  -- the Olympus begins to end the epoch
  Wedge : Plain
  -- the Olympus decides the log of host h
  Decide : (h : ℕ) → Plain
  -- the Olympus gives host h up
  Retire : (h : ℕ) → Plain
  -- the Olympus opens the next epoch
  Open : Plain

-- what contracts see of an event
abbrev pub plain : Event → Plain
plain (event.Input h payload) = Input h payload
plain (event.Deliver k) = Deliver k
plain event.Flush = Flush
plain event.Exchange = Exchange
plain (event.Ask h) = Ask h
plain (event.Bytes to frame) = Bytes to frame.items
plain (event.Say a to statement) = Say a to statement
plain (event.Bundle a to packets) = Bundle a to packets.items
plain (event.Steal a to statement) = Steal a to statement
plain event.Wedge = Wedge
plain (event.Decide h) = Decide h
plain (event.Retire h) = Retire h
plain event.Open = Open
