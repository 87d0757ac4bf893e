-- Each by one count over all hosts.
use Rattle.nys_hosts.proofs.QuorumLemmas.{honest_are_a_quorum, honest_of_quorum, honest_rest, one_honest, shared_honest}
use Rattle.nys_hosts.proofs.laws.quorum_law.Goals as goal

pub returns-clause-shared : goal.returns-clause-shared
returns-clause-shared c = shared_honest

pub returns-clause-one : goal.returns-clause-one
returns-clause-one c = one_honest

pub returns-clause-rest : goal.returns-clause-rest
returns-clause-rest c = honest_rest

pub returns-clause-quorum : goal.returns-clause-quorum
returns-clause-quorum c = honest_of_quorum

pub returns-clause-honest : goal.returns-clause-honest
returns-clause-honest c = honest_are_a_quorum
