-- Keys that no scenario has.
use Rattle.std.specs.Prelude.{ℕ, ◌+◌, Bool, List, [], ◌∷◌, codes, if◌then◌else◌, Option, Some, None, option_map}
use Rattle.std.specs.List.{list_any}
use Rattle.std.specs.Str.{bytes_eq}
use Rattle.toml.specs.Data.{Items, no_items, item, Members, no_members, member, as_table}
use Rattle.nys_scenario.specs.Epochs.{epoch_key}

-- a key is one of these
abbrev pub is_among : List (List ℕ) → List ℕ → Bool
is_among keys key = list_any (λ known. bytes_eq known key) keys

-- a key of the top table
unfoldable pub is_top_key : List ℕ → Bool
is_top_key = is_among (codes "hosts" ∷ codes "links" ∷ codes "protocol" ∷ codes "machine"
    ∷ codes "root" ∷ codes "schedule" ∷ codes "run" ∷ codes "master" ∷ codes "liars" ∷ codes "epoch" ∷ [])

-- a key of an epoch
unfoldable pub is_epoch_key : List ℕ → Bool
is_epoch_key = is_among (codes "t" ∷ codes "credit" ∷ codes "thresholds" ∷ codes "guards" ∷ [])

-- the first key of a table that fails a test; the keys of a table ascend, so it is the least
abbrev pub first_unknown : (List ℕ → Bool) → Members → Option (List ℕ)
first_unknown known no_members = None
first_unknown known (member key value rest) =
    if known key then first_unknown known rest else Some key

-- the first of two, where it is there
abbrev pub or_else : Option (List ℕ) → Option (List ℕ) → Option (List ℕ)
or_else None second = second
or_else (Some first) second = Some first

-- the first unknown key of epoch i, as it is printed
abbrev pub unknown_at : ℕ → Option Members → Option (List ℕ)
unknown_at i None = None
unknown_at i (Some table) = option_map (epoch_key i) (first_unknown is_epoch_key table)

-- the first unknown key of epochs numbered from i
abbrev pub unknown_from : ℕ → Items → Option (List ℕ)
unknown_from i no_items = None
unknown_from i (item first rest) =
    or_else (unknown_at i (as_table first)) (unknown_from (i + 1) rest)
