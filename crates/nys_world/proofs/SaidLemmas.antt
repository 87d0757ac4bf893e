-- Statements that are said to parties.
use Rattle.std.proofs.Common.{◌≡◌, ◌∙◌, ℕ, List, ap}
use Rattle.nys_rules.specs.Happening.{said_record, sent_to_all}
use Rattle.nys_rules.specs.Scope.{Scope}
use Rattle.nys_rules.specs.World.{World}
use Rattle.nys_stmt.specs.declared.records.Record.{Record}
use Rattle.nys_stmt.specs.declared.statement.Statement.{Statement}

-- what is said to the parties of one list and sent to those of another is said to both where they are equal
pub said_sent : {S : Type 0} (scope : Scope S) (from maker : ℕ) (statement : Statement) (r : Record) (tagged receivers to : List ℕ) (w : World)
    → r ≡ said_record scope maker statement tagged → tagged ≡ to → receivers ≡ to
    → sent_to_all from r receivers w ≡ sent_to_all from (said_record scope maker statement to) to w
said_sent scope from maker statement r tagged receivers to w said same others =
    ap (λ (parties : List ℕ). sent_to_all from r parties w) others
    ∙ ap (λ (x : Record). sent_to_all from x to w) (said ∙ ap (λ (parties : List ℕ). said_record scope maker statement parties) same)
