-- The law of shared quorums, at these sets.
use Rattle.nys_hosts.specs.Sets.{has}
use Rattle.nys_hosts.proofs.QuorumLemmas.{shared_honest}
use Rattle.nys_hosts.proofs.laws.share_law.Goals as goal

pub returns : goal.returns
returns c =
    let h = shared_honest c.args.t (has c.args.a.now) (has c.args.b.now) (has c.args.all.now) (has c.args.liars.now)
    c.requires.first c.requires.second c.requires.few c.requires.first_quorum c.requires.second_quorum in
    (h.0, h.2, h.3, h.4)
