-- The statements that these laws are about.
use Rattle.std.specs.Prelude.{ℕ}
use Rattle.nys_bytes.specs.declared.content.Content.{Content}
use Rattle.nys_stmt.specs.declared.statement.Body.{Body}
use Rattle.nys_stmt.specs.declared.statement.Body.TheVariants as body
use Rattle.nys_stmt.specs.declared.statement.FilledKind.TheVariants as kind

-- a guard's vote to deliver a content in a slot of h
abbrev pub deliver : (h slot : ℕ) → Content → Body
deliver h slot content = body.Filled kind.Deliver h slot content

-- what a guard tells the Olympus of a slot of h
abbrev pub report : (h slot : ℕ) → Content → Body
report h slot content = body.Filled kind.Report h slot content

-- from which slot of h on a guard votes no more
abbrev pub frozen : (h slot : ℕ) → Body
frozen h slot = body.Frozen h slot

-- an entry of the decided log of h
abbrev pub inherit : (h slot : ℕ) → Content → Body
inherit h slot content = body.Filled kind.Inherit h slot content
