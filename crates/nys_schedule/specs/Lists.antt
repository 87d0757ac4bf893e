-- Lists of parties: NUMs with commas between, rising.
use Rattle.std.specs.Prelude.{ℕ, Bool, true, ◌==◌, ◌&&◌, List, [], ◌∷◌, Option, None, Some, nat_le, nat_lt, if◌then◌else◌}
use Rattle.std.specs.List.{list_all, slice_split}
use Rattle.nys_hosts.specs.declared.limits.TheConstants.{MAX_HOSTS}
use Rattle.nys_schedule.specs.Choices.{◌>>=◌, nums_of}

-- a comma
abbrev pub is_comma : ℕ → Bool
is_comma b = b == 44

-- each number is above the one before it, the first above this one
abbrev pub rise_from : ℕ → List ℕ → Bool
rise_from below [] = true
rise_from below (n ∷ ns) = nat_lt below n && rise_from n ns

-- the number is that of a party
abbrev pub is_any_party : ℕ → Bool
is_any_party n = nat_le n MAX_HOSTS

-- the numbers as parties: one or more, rising, each a party
abbrev pub parties_of : List ℕ → Option (List ℕ)
parties_of [] = None
parties_of (n ∷ ns) = if rise_from n ns && list_all is_any_party (n ∷ ns) then Some (n ∷ ns) else None

-- the LIST that a word is
unfoldable pub list_of : List ℕ → Option (List ℕ)
list_of word = nums_of (slice_split is_comma word) >>= parties_of
