-- That a world shows why its run is what it is: each step that a host takes an entry by has its evidence.
use Rattle.std.specs.Prelude.{◌≡◌, ℕ, ◌<◌, slice_get, Some}
use Rattle.nys_bytes.specs.declared.content.Content.{Content}
use Rattle.nys_source.specs.Contents.{contents_taken}
use Rattle.nys_rules.specs.Evidence.{HasEvidence}
use Rattle.nys_rules.specs.Spelling.{printed_run}
use Rattle.nys_rules.specs.World.{Setting, World}

-- what host h takes in the printed run, by its inputs and receives in order, has its evidence in the world:
-- the s-th of them that of slot s
abbrev pub IsEvident : {S : Type 0} → Setting S → World → Type 0
IsEvident setting w = (h s : ℕ) (content : Content) → h < setting.scope.rules.hosts
    → slice_get (contents_taken setting.scope.rules (printed_run setting.scope w) h) s ≡ Some content
    → HasEvidence setting w h s content
