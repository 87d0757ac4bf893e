use Rattle.nys_mac.proofs.keys.Keys.pair.Goals as goal

-- the states are those of the master key
pub returns : goal.returns
returns c = rw (← c.self.view_is) (c.key_of_pair.ensures _ c.of.ensures)
