-- What a node tells the Olympus, piece by piece.
use Rattle.std.specs.Prelude.{ℕ, List, drop, map}
use Rattle.std.specs.List.{enumerate_from}
use Rattle.nys_stmt.specs.declared.statement.Body.{Body}
use Rattle.nys_stmt.specs.declared.statement.Body.TheVariants as body
use Rattle.nys_stmt.specs.declared.statement.FilledKind.TheVariants as kind
use Rattle.nys_rules.specs.Packets.{Acts, all_joined}
use Rattle.nys_rules.specs.Scope.{Scope}
use Rattle.nys_rules.specs.Sending.{to_olympus}
use Rattle.nys_rules.specs.View.{View}

-- the node makes these statements to the Olympus, one after another
unfoldable pub told : {S : Type 0} → Scope S → View → List Body → Acts
told scope v bodies = all_joined (map (to_olympus scope v) bodies)

-- a Report for each entry of the log from a slot on
abbrev pub reports_from : View → (h slot : ℕ) → List Body
reports_from v h slot =
    map (λ x. body.Filled kind.Report h x.0 x.1) (enumerate_from slot (drop slot (v.logs h)))
