-- Lists of different makers, and the tests that count them: the statements of the bridge between them.
use Rattle.std.specs.Prelude.{◌≡◌, ◌≢◌, ℕ, ◌<◌, ◌≤◌, ◌↔◌, Bool, true, ◌==◌, List, All, AllPairs, Contains, length, filter}
use Rattle.std.specs.List.{list_any, range_with_len}
use Rattle.nys_hosts.specs.declared.limits.TheConstants.{MAX_HOSTS}
use Rattle.nys_hosts.specs.Counts.{AtLeast, hosts_with}

-- the list has this maker
unfoldable pub is_listed : List ℕ → ℕ → Bool
is_listed makers h = list_any (λ m. m == h) makers

-- no maker stands twice in the list, and each is a host
pub record AreDifferent (makers : List ℕ) : Type 0 where
  pub distinct : AllPairs (λ x y. x ≢ y) makers
  pub hosts : All (λ m. m < MAX_HOSTS) makers

-- the hosts that pass the test, rising
unfoldable pub passing : (ℕ → Bool) → List ℕ
passing p = filter p (range_with_len 0 MAX_HOSTS)

-- at least n makers pass a test exactly where it counts n
abbrev pub CountsMakers : Type 0
CountsMakers = (n : ℕ) (p : ℕ → Bool) → AtLeast n (λ m. p m ≡ true) ↔ (n ≤ hosts_with p)

-- a list of different makers counts as many makers as it is long
abbrev pub CountsListed : Type 0
CountsListed = (makers : List ℕ) → AreDifferent makers → hosts_with (is_listed makers) ≡ length makers

-- different makers that all pass a test are at most as many as pass it
abbrev pub CountsDifferent : Type 0
CountsDifferent = (p : ℕ → Bool) (makers : List ℕ) → AreDifferent makers → All (λ m. p m ≡ true) makers
    → length makers ≤ hosts_with p

-- what the list of the hosts that pass a test is: they and no others, rising, as many as are counted
pub record IsPassing (p : ℕ → Bool) (makers : List ℕ) : Type 0 where
  pub rising : AllPairs (λ x y. x < y) makers
  pub hosts : All (λ m. m < MAX_HOSTS) makers
  pub same : (h : ℕ) → Contains makers h ↔ ((p h ≡ true) × (h < MAX_HOSTS))
  pub count : length makers ≡ hosts_with p

-- each test of hosts has its list
abbrev pub ListsPassing : Type 0
ListsPassing = (p : ℕ → Bool) → IsPassing p (passing p)
