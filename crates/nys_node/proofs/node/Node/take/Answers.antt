use Rattle.nys_node.proofs.node.Node.take.Goals as goal

-- Offer: the view changes so
pub returns-in-Offer-clause-node : goal.returns-in-Offer-clause-node
returns-in-Offer-clause-node g c = rw c.in-Offer.is c.take_offer.ensures.node

-- Offer: this is done
pub returns-in-Offer-clause-out : goal.returns-in-Offer-clause-out
returns-in-Offer-clause-out g c = rw c.in-Offer.is c.take_offer.ensures.out

-- Order: the view changes so
pub returns-in-Order-clause-node : goal.returns-in-Order-clause-node
returns-in-Order-clause-node g c = rw c.in-Order.is c.take_order.ensures.node

-- Order: this is done
pub returns-in-Order-clause-out : goal.returns-in-Order-clause-out
returns-in-Order-clause-out g c = rw c.in-Order.is c.take_order.ensures.out

-- Certificate: the view changes so
pub returns-in-Certificate-clause-node : goal.returns-in-Certificate-clause-node
returns-in-Certificate-clause-node g c = rw c.in-Certificate.is c.take_certificate.ensures.node

-- Certificate: this is done
pub returns-in-Certificate-clause-out : goal.returns-in-Certificate-clause-out
returns-in-Certificate-clause-out g c = rw c.in-Certificate.is c.take_certificate.ensures.out

-- Deliver: the view changes so
pub returns-in-Deliver-clause-node : goal.returns-in-Deliver-clause-node
returns-in-Deliver-clause-node g c = rw c.in-Deliver.is c.take_deliver.ensures.node

-- Deliver: this is done
pub returns-in-Deliver-clause-out : goal.returns-in-Deliver-clause-out
returns-in-Deliver-clause-out g c = rw c.in-Deliver.is c.take_deliver.ensures.out

-- Log: the view changes so
pub returns-in-Log-clause-node : goal.returns-in-Log-clause-node
returns-in-Log-clause-node g c = rw c.in-Log.is c.take_log.ensures.node

-- Log: this is done
pub returns-in-Log-clause-out : goal.returns-in-Log-clause-out
returns-in-Log-clause-out g c = rw c.in-Log.is c.take_log.ensures.out

-- Attest: the view changes so
pub returns-in-Attest-clause-node : goal.returns-in-Attest-clause-node
returns-in-Attest-clause-node g c = rw c.in-Attest.is c.take_attest.ensures.node

-- Attest: this is done
pub returns-in-Attest-clause-out : goal.returns-in-Attest-clause-out
returns-in-Attest-clause-out g c = rw c.in-Attest.is c.take_attest.ensures.out
