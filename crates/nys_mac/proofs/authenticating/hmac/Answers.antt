use Rattle.nys_mac.proofs.authenticating.hmac.Goals as goal

-- the states are those of the key
pub returns : goal.returns
returns c = c.hmac.ensures _ c.of.ensures
