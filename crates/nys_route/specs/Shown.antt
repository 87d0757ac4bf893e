-- Ways as numbers show them.
use Rattle.std.specs.Prelude.{◌≡◌, ℕ, ◌+◌, ◌<◌, true, ℤ, pos, List, length, slice_index_or}
use Rattle.nys_route.specs.Routes.{hop_number, is_way, way_to}
use Rattle.nys_route.specs.declared.way.Way.{Way}

-- the way is in its ranges, and these numbers show its distance and its hop
pub record Shows (way : Way) (distance hop : ℤ) : Type 0 where
  pub ranges : is_way way ≡ true
  pub distance_is : pos way.distance ≡ distance
  pub hop_is : hop_number way.hop ≡ hop

-- there are so many ways, and each is shown by the number at its place and by that n places behind it
pub record ShowAll (n count : ℕ) (numbers : List ℤ) (ways : List Way) : Type 0 where
  pub long : length ways ≡ count
  pub each : (d : ℕ) → d < count → Shows (way_to ways d) (slice_index_or numbers d (pos 0)) (slice_index_or numbers (n + d) (pos 0))
