-- The entries of a log, handed to the guards of its host.
use Rattle.std.specs.Prelude.{ℕ, not, List, filter, flat_map, map}
use Rattle.std.specs.List.{enumerate_from}
use Rattle.nys_bytes.specs.declared.content.Content.{Content}
use Rattle.nys_rules.specs.Olympus.{inheritance, OlympusView, proclaimed}
use Rattle.nys_rules.specs.Packets.{Acts}
use Rattle.nys_rules.specs.Scope.{guards_of, Scope}
use Rattle.nys_stmt.specs.declared.statement.Body.TheVariants as body
use Rattle.nys_stmt.specs.declared.statement.FilledKind.TheVariants as kind

-- an Inherit for each entry from the slot on
abbrev pub handed_from : {S : Type 0} → Scope S → (epoch h slot : ℕ) → List Content → List Acts
handed_from scope e h slot contents =
    map (λ x. proclaimed scope e (body.Filled kind.Inherit h x.0 x.1) (guards_of scope e h))
    (enumerate_from slot contents)

-- an Inherit for each entry
abbrev pub handed_over : {S : Type 0} → Scope S → (epoch h : ℕ) → List Content → List Acts
handed_over scope e h contents = handed_from scope e h 0 contents

-- an Inherit for each entry of each of these hosts that isn't retired
abbrev pub inheritances : {S : Type 0} → Scope S → OlympusView → (epoch : ℕ) → List ℕ → List Acts
inheritances scope o e hosts = flat_map (inheritance scope o e) (filter (λ h. not (o.retired h)) hosts)
