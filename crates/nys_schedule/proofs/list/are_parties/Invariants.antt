use Rattle.std.proofs.Common.{◌≡◌, drop}
use Rattle.std.specs.List.{list_all}
use Rattle.nys_schedule.specs.Lists.{is_any_party}
use Rattle.nys_schedule.proofs.list.are_parties.Given as goal

-- all are parties exactly where those that are left are
abbrev pub invariant-loop-number : goal.invariant-loop-number
invariant-loop-number l = list_all is_any_party (drop l.number-index l.numbers) ≡ list_all is_any_party l.numbers
