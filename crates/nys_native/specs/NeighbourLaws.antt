-- Why payloads may be sent to the neighbours of a host.
use Rattle.std.specs.Prelude.{◌≡◌, ℕ, zero, suc, ◌<◌, ◌≤◌, Bool, true, false, ◌&&◌, if◌then◌else◌, ℤ, List, [], ◌∷◌, length, map, filter, All, Option, refl}
use Rattle.std.specs.List.{range_with_len}
use Rattle.std.proofs.Common.{arith}
use Rattle.std.proofs.lemmas.List.{length-map}
use Rattle.std.proofs.lemmas.List.FromFn.{length-range_with_len}
use Rattle.nys_source.specs.Rules.{Rules, IsEffectOf, AreEffectsOf}
use Rattle.nys_source.specs.declared.effect.Effect.{Effect}
use Rattle.nys_source.specs.declared.effect.Effect.TheVariants.{Send}
use Rattle.nys_native.specs.Neighbours.{is_not, neighbours_but, sends_to}

-- nothing is wrong with no members
pub all_none : {X : Type 0} (P : X → Type 0) → All P []
all_none P = λ k d inside. absurd (omega (arith, inside))

-- what holds of the first and of the others holds of all
pub all_more : {X : Type 0} (P : X → Type 0) (x : X) (xs : List X) → P x → All P xs → All P (x ∷ xs)
all_more P x xs first others = at_each_place
  where
    at_each_place : All P (x ∷ xs)
    at_each_place zero d inside = first
    at_each_place (suc k) d inside = others k d (omega (arith, inside))

-- a test that holds of a neighbour and of more holds of the neighbour
left_holds : (a b : Bool) → (a && b) ≡ true → a ≡ true
left_holds true b both = refl
left_holds false b both = both

-- each of the sends goes to a neighbour
pub sends_allowed : {S : Type 0} (rules : Rules S) (h : ℕ) (from : Option ℕ) (payload : List ℤ)
    (hosts : List ℕ)
    → All (IsEffectOf rules h) (sends_to payload (filter (λ p. rules.linked h p && is_not from p) hosts))
sends_allowed rules h from payload [] = all_none (IsEffectOf rules h)
sends_allowed rules h from payload (p ∷ ps) =
    one_more (rules.linked h p && is_not from p) (left_holds (rules.linked h p) (is_not from p))
    (filter (λ q. rules.linked h q && is_not from q) ps) (sends_allowed rules h from payload ps)
  where
    one_more : (b : Bool) → (b ≡ true → rules.linked h p ≡ true) → (others : List ℕ)
        → All (IsEffectOf rules h) (sends_to payload others)
        → All (IsEffectOf rules h) (sends_to payload (if b then p ∷ others else others))
    one_more true linked others all =
        all_more (IsEffectOf rules h) (Send p payload) (sends_to payload others) (linked refl) all
    one_more false linked others all = all

-- a filtered list is no longer than the list
filter_shorter : (f : ℕ → Bool) (xs : List ℕ) → length (filter f xs) ≤ length xs
filter_shorter f [] = omega arith
filter_shorter f (x ∷ xs) = one_more (f x) (filter f xs) (filter_shorter f xs)
  where
    one_more : (b : Bool) (others : List ℕ) → length others ≤ length xs
        → length (if b then x ∷ others else others) ≤ length (x ∷ xs)
    one_more true others shorter = omega (arith, shorter)
    one_more false others shorter = omega (arith, shorter)

-- there are no more sends than hosts
pub sends_few : (hosts : ℕ) (linked : ℕ → ℕ → Bool) (h : ℕ) (from : Option ℕ) (payload : List ℤ)
    → length (sends_to payload (neighbours_but hosts linked h from)) ≤ hosts
sends_few hosts linked h from payload =
    let shorter = filter_shorter (λ p. linked h p && is_not from p) (range_with_len 0 hosts) in
    rw length-map (omega (arith, shorter, length-range_with_len 0 hosts))
