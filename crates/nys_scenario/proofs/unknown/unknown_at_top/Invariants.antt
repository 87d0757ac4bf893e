use Rattle.std.proofs.Common.{◌≡◌}
use Rattle.toml.specs.View.{members_view}
use Rattle.nys_scenario.specs.Unknown.{first_unknown, is_top_key}
use Rattle.nys_scenario.proofs.unknown.unknown_at_top.Given as goal

-- no key so far is unknown
abbrev pub invariant-loop-key : goal.invariant-loop-key
invariant-loop-key l =
    (goal.iterator-loop-key).can_next l.key-iterator ×
    (goal.iterator-loop-key).is_finite l.key-iterator ×
    (first_unknown is_top_key (members_view l.table.entries) ≡ first_unknown is_top_key (members_view l.key-iterator))
