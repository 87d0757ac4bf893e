-- Why payloads may be sent to those neighbours of a host that pass a test.
use Rattle.std.specs.Prelude.{◌≡◌, ℕ, ◌≤◌, Bool, true, false, if◌then◌else◌, ℤ, List, [], ◌∷◌, length, filter, All}
use Rattle.std.specs.List.{range_with_len}
use Rattle.std.proofs.Common.{arith}
use Rattle.std.proofs.lemmas.List.{length-map}
use Rattle.std.proofs.lemmas.List.Elements.{All-map, All-weaker, filter_passes}
use Rattle.std.proofs.lemmas.List.FromFn.{length-range_with_len}
use Rattle.nys_source.specs.Rules.{Rules, IsEffectOf}
use Rattle.nys_source.specs.declared.effect.Effect.TheVariants.{Send}
use Rattle.nys_route.specs.Sends.{sends_where}

-- a filtered list is no longer than the list
filter_shorter : (test : ℕ → Bool) (xs : List ℕ) → length (filter test xs) ≤ length xs
filter_shorter test [] = omega arith
filter_shorter test (x ∷ xs) = one_more (test x) (filter test xs) (filter_shorter test xs)
  where
    one_more : (b : Bool) (others : List ℕ) → length others ≤ length xs → length (if b then x ∷ others else others) ≤ length (x ∷ xs)
    one_more true others shorter = omega (arith, shorter)
    one_more false others shorter = omega (arith, shorter)

-- there are no more sends than hosts
pub sends_few : (hosts : ℕ) (test : ℕ → Bool) (payload : List ℤ) → length (sends_where hosts test payload) ≤ hosts
sends_few hosts test payload =
    rw length-map (omega (arith, filter_shorter test (range_with_len 0 hosts), length-range_with_len 0 hosts))

-- each goes to a neighbour, where only neighbours of h pass the test
pub sends_allowed : {S : Type 0} (rules : Rules S) (h : ℕ) (test : ℕ → Bool) (payload : List ℤ)
    → ((q : ℕ) → test q ≡ true → rules.linked h q ≡ true) → All (IsEffectOf rules h) (sends_where rules.hosts test payload)
sends_allowed rules h test payload near =
    let to = filter test (range_with_len 0 rules.hosts) in
    All-map (IsEffectOf rules h) (λ q. Send q payload) to
    (All-weaker (λ q. test q ≡ true) (λ q. rules.linked h q ≡ true) near to (filter_passes test (range_with_len 0 rules.hosts)))
