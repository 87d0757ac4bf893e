-- Seats counted, for votes and for attestations.
use Rattle.nys_votes.proofs.TallyLemmas.{attests_found, attests_stand, counts_attests, counts_votes, votes_found, votes_once, votes_stand}
use Rattle.nys_votes.proofs.laws.tallies_law.Goals as goal

pub returns-clause-votes : goal.returns-clause-votes
returns-clause-votes c = counts_votes

pub returns-clause-votes_stand : goal.returns-clause-votes_stand
returns-clause-votes_stand c = votes_stand

pub returns-clause-votes_found : goal.returns-clause-votes_found
returns-clause-votes_found c = votes_found

pub returns-clause-votes_once : goal.returns-clause-votes_once
returns-clause-votes_once c = votes_once

pub returns-clause-attests : goal.returns-clause-attests
returns-clause-attests c = counts_attests

pub returns-clause-attests_stand : goal.returns-clause-attests_stand
returns-clause-attests_stand c = attests_stand

pub returns-clause-attests_found : goal.returns-clause-attests_found
returns-clause-attests_found c = attests_found
