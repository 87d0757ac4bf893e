-- The directions of links in memory, in one table.
use Rattle.std.specs.Prelude.{ℕ, ◌+◌, ◌*◌, ◌≤◌, ◌≡◌, ⊤, false, nat_lt, if◌then◌else◌, List, [], ◌∷◌, ◌++◌, slice_index_or, Option, None, Some}
use Rattle.nys_outside.specs.Counts.{Calls}
use Rattle.nys_outside.specs.Network.{Directed, Network}
use Rattle.nys_outside.specs.declared.got.Got.{Got}
use Rattle.nys_outside.specs.declared.got.Got.TheVariants.{Frame, NotYet, Closed, Failed, NoMemory}

-- one direction: the frames that wait, and how often it was polled
pub record Way : Type 0 where
  pub waiting : List (List ℕ)
  pub polls : ℕ

-- a direction in which nothing was sent
abbrev pub no_way : Way
no_way = record { waiting = []; polls = 0 }

-- the place of a direction: those between the first n hosts have the first n squared places
abbrev pub place_of : ℕ → ℕ → ℕ
place_of from to = (if nat_lt from to then to * to + from else from * from + from + to)

-- what stands at the place of a direction
abbrev pub way_of : List Way → ℕ → ℕ → Way
way_of ways from to = slice_index_or ways (place_of from to) no_way

-- the table has the places of all directions between connected hosts
abbrev pub HasRoom : Option ℕ → ℕ → Type 0
HasRoom None places = ⊤
HasRoom (Some hosts) places = hosts * hosts ≤ places

-- links in memory
pub record MemNetwork : Type 0 where
  pub hosts : Option ℕ
  -- each direction at its place
  pub ways : List Way
  pub given : List Directed
  pub calls : Calls

-- what links in memory tell; no direction is ever closed
abbrev pub network_of : MemNetwork → Network
network_of links = record {
  given = links.given;
  waiting = λ from to. (way_of links.ways from to).waiting;
  polls = λ from to. (way_of links.ways from to).polls;
  closed = λ from to. false;
  answered = λ from to. false;
}

-- nothing was sent, given or polled, and nothing is closed
pub record IsQuiet (network : Network) : Type 0 where
  pub given : network.given ≡ []
  pub waiting : (from to : ℕ) → network.waiting from to ≡ []
  pub polls : (from to : ℕ) → network.polls from to ≡ 0
  pub closed : (from to : ℕ) → network.closed from to ≡ false
  pub answered : (from to : ℕ) → network.answered from to ≡ false

-- the oldest frame of a direction was given, or nothing changed
abbrev pub GaveFront : ℕ → ℕ → Got → List ℕ → List (List ℕ) → List (List ℕ) → List Directed → List Directed → Type 0
GaveFront from to Frame buf old new given given_now =
    (old ≡ buf ∷ new) × (given_now ≡ given ++ record { from = from; to = to; frame = buf } ∷ [])
GaveFront from to NotYet buf old new given given_now = (old ≡ []) × (new ≡ old) × (given_now ≡ given)
GaveFront from to NoMemory buf old new given given_now = (new ≡ old) × (given_now ≡ given)
GaveFront from to Closed buf old new given given_now = ⊥
GaveFront from to Failed buf old new given given_now = ⊥
