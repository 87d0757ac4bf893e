-- The end of an epoch at a node: what it tells the Olympus once it is wedged. After that it makes nothing.
use Rattle.std.specs.Prelude.{ℕ, ◌+◌, List, [], ◌∷◌, ◌++◌, drop, filter, max, flat_map, length, map, Option, Some, None, option_map}
use Rattle.std.specs.List.{enumerate_from}
use Rattle.std.specs.Option.{option_to_list}
use Rattle.nys_bytes.specs.declared.content.Content.{Content}
use Rattle.nys_stmt.specs.declared.statement.Body.{Body}
use Rattle.nys_stmt.specs.declared.statement.Body.TheVariants as body
use Rattle.nys_stmt.specs.declared.statement.FilledKind.TheVariants as kind
use Rattle.nys_rules.specs.Asking.{all_hosts}
use Rattle.nys_rules.specs.Packets.{Acts, all_joined}
use Rattle.nys_rules.specs.Scope.{Scope}
use Rattle.nys_rules.specs.Sending.{to_olympus}
use Rattle.nys_rules.specs.View.{is_live, length_of, View}

-- the slot from which on it can tell the entries of the log: the base, or the first that it keeps if that is later
abbrev pub told_from : View → ℕ → ℕ
told_from v h = max (v.base h) (v.kept_from h)

-- a Report for each entry of the log from there on
abbrev pub entry_reports : View → ℕ → List Body
entry_reports v h =
    map (λ x. body.Filled kind.Report h x.0 x.1) (enumerate_from (told_from v h) (drop (told_from v h) (v.logs h)))

-- a Report for its Deliver in the slot behind the log, if it made one
abbrev pub vote_report : View → ℕ → List Body
vote_report v h =
    option_to_list (option_map (λ c. body.Filled kind.Report h (length_of v h) c) (v.desks h).delivered)

-- what it tells about a host: these Reports, then the slot from which on it votes no more
unfoldable pub testimony : View → ℕ → List Body
testimony v h = entry_reports v h ++ (vote_report v h ++ body.Frozen h (v.voted_to h) ∷ [])

-- what it tells about all hosts that are live at it, rising
unfoldable pub reporting : {S : Type 0} → Scope S → View → Acts
reporting scope v = all_joined (map (to_olympus scope v) (flat_map (testimony v) (filter (is_live scope v) all_hosts)))
