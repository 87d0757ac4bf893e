-- Which events of the grammar a schedule may have: the hosts that they name, then who says.
use Rattle.std.specs.Prelude.{ℕ, Bool, true, ◌==◌, ◌&&◌, ◌||◌, List, Option, None, Some, Result, Ok, Err, nat_lt, if◌then◌else◌}
use Rattle.std.specs.List.{list_all}
use Rattle.nys_hosts.specs.declared.limits.TheConstants.{MAX_HOSTS}
use Rattle.nys_bare.specs.declared.fault.LineKind.{LineKind}
use Rattle.nys_bare.specs.declared.fault.LineKind.TheVariants.{Grammar, Host, Liar}
use Rattle.nys_rules.specs.Events.{Plain}
use Rattle.nys_rules.specs.Events.Plain.{Input, Ask, Bytes, Say, Bundle, Steal, Decide, Retire}

-- one of this many hosts, or the Olympus
abbrev pub is_party : ℕ → ℕ → Bool
is_party hosts g = nat_lt g hosts || g == MAX_HOSTS

-- each of them is a party
abbrev pub are_parties : ℕ → List ℕ → Bool
are_parties hosts to = list_all (is_party hosts) to

-- each host that the event names is one, and each party
abbrev pub names_hosts : ℕ → Plain → Bool
names_hosts hosts (Input h payload) = nat_lt h hosts
names_hosts hosts (Ask h) = nat_lt h hosts
names_hosts hosts (Bytes to frame) = is_party hosts to
names_hosts hosts (Say a to statement) = nat_lt a hosts && are_parties hosts to
names_hosts hosts (Bundle a to packets) = nat_lt a hosts && are_parties hosts to
names_hosts hosts (Steal a to statement) = is_party hosts a && are_parties hosts to
names_hosts hosts (Decide h) = nat_lt h hosts
names_hosts hosts (Retire h) = nat_lt h hosts
names_hosts hosts _ = true

-- who says or bundles is a liar
abbrev pub liars_say : (ℕ → Bool) → Plain → Bool
liars_say liars (Say a to statement) = liars a
liars_say liars (Bundle a to packets) = liars a
liars_say liars _ = true

-- the event of a line's grammar, or how the line is at fault: the grammar before the hosts, and they
-- before the liars
abbrev pub judged : ℕ → (ℕ → Bool) → Option Plain → Result Plain LineKind
judged hosts liars None = Err Grammar
judged hosts liars (Some event) =
    if names_hosts hosts event then (if liars_say liars event then Ok event else Err Liar) else Err Host
