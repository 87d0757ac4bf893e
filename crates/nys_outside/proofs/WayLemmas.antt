-- The places of directions in a table, and what stands there as it grows.
use Rattle.std.proofs.Common.{ℕ, zero, suc, ◌+◌, ◌*◌, ◌<◌, ◌≤◌, ◌≡◌, List, [], ◌∷◌, ◌++◌, length, get_or, refl, sym, ap, ◌∙◌, arith, inl, inr, Option, None, Some}
use Rattle.std.proofs.lemmas.Bool.{cases_lt, cases_order, cond_below, cond_above}
use Rattle.std.proofs.lemmas.Nat.{mul-le}
use Rattle.std.proofs.lemmas.List.{get_or_default}
use Rattle.nys_outside.specs.Frames.{AreLinked}
use Rattle.nys_outside.specs.Ways.{Way, no_way, place_of, HasRoom}

-- one more place with what stands past the end changes nothing
pub get_or-pushed : {X : Type 0} (xs : List X) (d : X) (i : ℕ) → get_or (xs ++ d ∷ []) i d ≡ get_or xs i d
get_or-pushed [] d zero = refl
get_or-pushed [] d (suc i) = refl
get_or-pushed (x ∷ xs) d zero = refl
get_or-pushed (x ∷ xs) d (suc i) = get_or-pushed xs d i

-- the square of the next number
pub next_square : (m : ℕ) → (m + 1) * (m + 1) ≡ m * m + m + m + 1
next_square m = grind arith

-- the next square is within each greater square
pub within_square : (m n : ℕ) → m < n → m * m + m + m + 1 ≤ n * n
within_square m n below = rw (← next_square m) (mul-le (m + 1) (m + 1) n n (omega arith) (omega arith))

-- the place of a direction to a greater host
pub place_up : (from to : ℕ) → from < to → place_of from to ≡ to * to + from
place_up from to less = sym (cond_below from to (to * to + from) (from * from + from + to) less)

-- the place of a direction to a host that isn't greater
pub place_down : (from to : ℕ) → to ≤ from → place_of from to ≡ from * from + from + to
place_down from to most = sym (cond_above from to (to * to + from) (from * from + from + to) (from * from + from + to) most refl)

-- the directions between the first n hosts have the first n squared places
pub place_below : (n from to : ℕ) → from < n → to < n → place_of from to < n * n
place_below n from to f t =
    elim (cases_lt from to) [
      | inl up ↦ let place : place_of from to ≡ to * to + from = place_up from to up in
          let within : to * to + to + to + 1 ≤ n * n = within_square to n t in omega arith
      | inr down ↦ let place : place_of from to ≡ from * from + from + to = place_down from to down in
          let within : from * from + from + from + 1 ≤ n * n = within_square from n f in omega arith
    ]

-- two numbers with overlapping shells are equal
pub shell_once : (m n place : ℕ) → m * m ≤ place → place < m * m + m + m + 1 → n * n ≤ place → place < n * n + n + n + 1 → m ≡ n
shell_once m n place low high low_too high_too =
    elim (cases_order m n) [
      | inl same ↦ same
      | inr apart ↦ elim apart [
        | inl less ↦ let within : m * m + m + m + 1 ≤ n * n = within_square m n less in omega arith
        | inr more ↦ let within : n * n + n + n + 1 ≤ m * m = within_square n m more in omega arith
      ]
    ]

-- each direction has a place of its own
pub place_once : (from to f t : ℕ) → place_of f t ≡ place_of from to → (f ≡ from) × (t ≡ to)
place_once from to f t same =
    elim (cases_lt from to) [
      | inl up ↦ let place : place_of from to ≡ to * to + from = place_up from to up in
          elim (cases_lt f t) [
            | inl up_too ↦ let place_too : place_of f t ≡ t * t + f = place_up f t up_too in
                let shell : t ≡ to = shell_once t to (place_of f t) (omega arith) (omega arith) (omega arith) (omega arith) in
                let square : t * t ≡ to * to = ap (λ k. k * k) shell in
                (omega arith, shell)
            | inr down ↦ let place_too : place_of f t ≡ f * f + f + t = place_down f t down in
                let shell : f ≡ to = shell_once f to (place_of f t) (omega arith) (omega arith) (omega arith) (omega arith) in
                let square : f * f ≡ to * to = ap (λ k. k * k) shell in
                (omega arith, omega arith)
          ]
      | inr down ↦ let place : place_of from to ≡ from * from + from + to = place_down from to down in
          elim (cases_lt f t) [
            | inl up ↦ let place_too : place_of f t ≡ t * t + f = place_up f t up in
                let shell : t ≡ from = shell_once t from (place_of f t) (omega arith) (omega arith) (omega arith) (omega arith) in
                let square : t * t ≡ from * from = ap (λ k. k * k) shell in
                (omega arith, omega arith)
            | inr down_too ↦ let place_too : place_of f t ≡ f * f + f + t = place_down f t down_too in
                let shell : f ≡ from = shell_once f from (place_of f t) (omega arith) (omega arith) (omega arith) (omega arith) in
                let square : f * f ≡ from * from = ap (λ k. k * k) shell in
                (shell, omega arith)
          ]
    ]

-- a direction between connected hosts has its place in the table
pub linked_place : (hosts : Option ℕ) (from to places : ℕ) → AreLinked hosts from to → HasRoom hosts places → place_of from to < places
linked_place None from to places linked room = absurd linked
linked_place (Some n) from to places linked room =
    let below : place_of from to < n * n = place_below n from to linked.0 linked.1 in
    let few : n * n ≤ places = room in
    omega arith

-- an item of the table, whatever stands past its end
pub found_way : (ways : List Way) (place expected : ℕ) (way : Way) → way ≡ get_or ways place way → place ≡ expected → expected < length ways →
    way ≡ get_or ways expected no_way
found_way ways place expected way found same room =
    found ∙ ap (λ i. get_or ways i way) same ∙ get_or_default ways expected way no_way room
