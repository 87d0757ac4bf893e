-- The questions of a node, host after host.
use Rattle.std.specs.Prelude.{ℕ, nat_lt, Bool, ◌&&◌, filter, map}
use Rattle.nys_hosts.specs.declared.limits.TheConstants.{MAX_SLOTS}
use Rattle.nys_stmt.specs.declared.statement.Body.TheVariants as body
use Rattle.nys_rules.specs.Asking.{all_hosts}
use Rattle.nys_rules.specs.Packets.{Acts, all_joined}
use Rattle.nys_rules.specs.Scope.{Scope}
use Rattle.nys_rules.specs.Sending.{to_guards}
use Rattle.nys_rules.specs.View.{is_live, length_of, View}

-- the host is live at the node, and its log has room
abbrev pub is_asked : {S : Type 0} → Scope S → View → ℕ → Bool
is_asked scope v h = is_live scope v h && nat_lt (length_of v h) MAX_SLOTS

-- the question about a host
abbrev pub asked_of : {S : Type 0} → Scope S → View → ℕ → Acts
asked_of scope v h = to_guards scope v h (body.Ask h (length_of v h))

-- the questions about the hosts that a node asks about, rising
unfoldable pub asked_all : {S : Type 0} → Scope S → View → Acts
asked_all scope v = all_joined (map (asked_of scope v) (filter (is_asked scope v) all_hosts))
