-- Which contents may follow a decided log, read off the reports of a host by slot.
use Rattle.std.specs.Prelude.{ℕ, zero, suc, ◌+◌, List, [], ◌∷◌, Option, Some, None}
use Rattle.nys_bytes.specs.declared.content.Content.{Content}
use Rattle.nys_rules.specs.Olympus.{Reported, supported_after}
use Rattle.nys_source.specs.Tables.{lists_at}

-- a content, then the rest; nothing where there is none
abbrev pub followed : Option Content → List Content → List Content
followed None rest = []
followed (Some content) rest = content ∷ rest

-- the contents that more than t guards reported for the slots from this one on, up to the first slot
-- without one; at most n
abbrev pub supports_of : (n t : ℕ) → List (List Reported) → (slot : ℕ) → List Content
supports_of zero t docket slot = []
supports_of (suc n) t docket slot =
    followed (supported_after t [] (lists_at docket slot)) (supports_of n t docket (slot + 1))
