-- What is kept by maker: a list of 32 seats, one for each host, whatever stands in them.
use Rattle.std.specs.Prelude.{ℕ, ◌+◌, Bool, true, false, if◌then◌else◌, List, [], ◌∷◌, Option, Some, None, is_some, replicate, slice_index_or, slice_set}
use Rattle.std.specs.List.{count_by, find}
use Rattle.std.specs.Option.{option_flatten}
use Rattle.nys_hosts.specs.declared.limits.TheConstants.{MAX_HOSTS}

-- no maker is kept
abbrev pub no_seats : {A : Type 0} → List (Option A)
no_seats = replicate MAX_HOSTS None

-- what is kept of the maker
abbrev pub seat_of : {A : Type 0} → List (Option A) → ℕ → Option A
seat_of seats m = slice_index_or seats m None

-- something is kept of the maker
abbrev pub is_seated : {A : Type 0} → List (Option A) → ℕ → Bool
is_seated seats m = is_some (seat_of seats m)

-- what is kept passes the test; an empty seat doesn't
abbrev pub passes : {A : Type 0} → (A → Bool) → Option A → Bool
passes test None = false
passes test (Some x) = test x

-- how many makers pass the test
unfoldable pub count_seats : {A : Type 0} → (A → Bool) → List (Option A) → ℕ
count_seats test seats = count_by (passes test) seats

-- how many makers are kept
abbrev pub count_all : {A : Type 0} → List (Option A) → ℕ
count_all seats = count_seats (λ _. true) seats

-- the first of each maker is kept: its seat is taken where it is empty
unfoldable pub with_seat : {A : Type 0} → ℕ → A → List (Option A) → List (Option A)
with_seat m x seats = if is_seated seats m then seats else slice_set seats m (Some x)

-- what is kept of the lowest maker that passes the test
unfoldable pub lowest : {A : Type 0} → (A → Bool) → List (Option A) → Option A
lowest test seats = option_flatten (find (passes test) seats)

-- the makers that are kept, rising, with what is kept of them, where the first seat is maker n's
abbrev pub seated_from : {A : Type 0} → ℕ → List (Option A) → List (ℕ × A)
seated_from n [] = []
seated_from n (None ∷ seats) = seated_from (n + 1) seats
seated_from n (Some x ∷ seats) = (n, x) ∷ seated_from (n + 1) seats

-- the makers that are kept, rising, with what is kept of them
unfoldable pub seated : {A : Type 0} → List (Option A) → List (ℕ × A)
seated seats = seated_from 0 seats
