use Rattle.std.proofs.Common.{◌∙◌, refl}
use Rattle.nys_olympus.proofs.Told.{below_not, members_are}
use Rattle.nys_olympus.proofs.Hosts.{hosts_below}
use Rattle.nys_olympus.proofs.telling.noted.Goals as goal

-- the makers are the set's members, and none of them is the Olympus
pub returns : goal.returns
returns c = record {
  told = c.handled.ensures
      ∙ rw (c.new.ensures, members_are c.makers_set.result c.args.makers.now c.makers_set.ensures c.requires.hosts c.requires.rule, below_not 32 c.args.makers.now (hosts_below c.args.makers.now c.requires.hosts)) refl;
}
