-- What links carry of the packets that are offered to them: where they tell, what they gave and what waits is what
-- waited at first, then the packets, less those that they lost.
use Rattle.std.specs.Prelude.{ℕ, ◌≡◌, ◌+◌, ◌-◌, ◌^◌, ◌<◌, ◌≤◌, ◌==◌, ⊤, Bool, true, nat_lt, ◌&&◌, not, if◌then◌else◌, List, [], ◌∷◌, ◌++◌, length, Option, None, Some, ◌⊎◌}
use Rattle.std.specs.List.{flat_map}
use Rattle.nys_hosts.specs.declared.limits.TheConstants.{MAX_FRAME}
use Rattle.nys_outside.specs.Network.{Directed, Network}
use Rattle.nys_rules.specs.Packets.{Sent}

-- the packet goes over links: from an honest host to another one, in a frame that links take
abbrev pub is_due : (ℕ → Bool) → Sent → Bool
is_due honest p =
    honest p.from && honest p.to && not (p.from == p.to) && nat_lt 0 (length p.frame)
    && nat_lt (length p.frame) (MAX_FRAME + 1)

-- a packet as a frame of its direction
abbrev pub directed : Sent → Directed
directed p = record { from = p.from; to = p.to; frame = p.frame }

-- a packet that is due, and nothing of another
abbrev pub if_due : (ℕ → Bool) → Sent → List Directed
if_due honest p = (if is_due honest p then directed p ∷ [] else [])

-- the packets that are due, in order
abbrev pub due : (ℕ → Bool) → List Sent → List Directed
due honest pool = flat_map (if_due honest) pool

-- whether a direction is that from one host to another
abbrev pub is_way : (from to f t : ℕ) → Bool
is_way from to f t = from == f && to == t

-- a frame of this direction, and nothing of another
abbrev pub frame_of : ℕ → ℕ → Directed → List (List ℕ)
frame_of f t d = (if is_way d.from d.to f t then d.frame ∷ [] else [])

-- the frames of a direction, in order
abbrev pub frames : ℕ → ℕ → List Directed → List (List ℕ)
frames f t all = flat_map (frame_of f t) all

-- the second list is the first in its order, less at most so many
abbrev pub IsLess : List Directed → List Directed → ℕ → Type 0
IsLess [] went missing = went ≡ []
IsLess (d ∷ all) went missing =
    ((rest : List Directed) × (went ≡ d ∷ rest) × IsLess all rest missing)
    ⊎ ((fewer : ℕ) × (missing ≡ fewer + 1) × IsLess all went fewer)

-- what became of packets and frames
pub record Carriage : Type 0 where
  -- the packets that were offered, where they were due
  pub pool : List Sent
  -- the frames that polls gave, in order
  pub given : List Directed
  -- how often each direction was polled
  pub polled : ℕ → ℕ → ℕ
  -- the directions that answered that they are closed
  pub shut : ℕ → ℕ → Bool
  -- how many sends and polls failed
  pub lost : ℕ

-- in each direction the frames given and those that wait are those that waited at first and those that went; these
-- are the packets that were due, less at most the lost ones
pub record AreCarried (honest : ℕ → Bool) (first now : Network) (all : Carriage) : Type 0 where
  pub went : List Directed
  pub less : IsLess (due honest all.pool) went all.lost
  pub given : now.given ≡ first.given ++ all.given
  pub each : (f t : ℕ) → frames f t all.given ++ now.waiting f t ≡ first.waiting f t ++ frames f t went

-- a count grew by so many; it may stay at its last value
pub record GrewBy (count before now : ℕ) : Type 0 where
  pub most : now ≤ before + count
  pub least : now < 2 ^ 64 - 1 → before + count ≤ now

-- each direction was polled so often, and those that are shut have answered so
pub record ArePolled (first now : Network) (all : Carriage) : Type 0 where
  pub each : (f t : ℕ) → GrewBy (all.polled f t) (first.polls f t) (now.polls f t)
  pub shut : (f t : ℕ) → all.shut f t ≡ true → now.answered f t ≡ true

-- what holds of what links told at first and tell now, where they tell
abbrev pub Told : (Network → Network → Type 0) → Option Network → Option Network → Type 0
Told Holds None now = ⊤
Told Holds (Some first) None = ⊥
Told Holds (Some first) (Some now) = Holds first now

-- links as they were once they were connected
pub record Past : Type 0 where
  pub network : Option Network
  pub faults : ℕ

-- all that is known of links: what they carried and how often they were polled, where they tell; and each send or poll
-- that failed raised their count of faults, unless it ends at its last value
pub record Carries (honest : ℕ → Bool) (past : Past) (all : Carriage) (now : Option Network) (faults : ℕ) : Type 0 where
  pub carried : Told (λ first after. AreCarried honest first after all) past.network now
  pub polled : Told (λ first after. ArePolled first after all) past.network now
  pub counted : faults < 2 ^ 64 - 1 → past.faults + all.lost ≤ faults
  pub later : past.faults ≤ faults

-- the packet was offered
abbrev pub with_offered : Sent → ℕ → Carriage → Carriage
with_offered p lost all = record all { pool = all.pool ++ p ∷ []; lost = lost }
