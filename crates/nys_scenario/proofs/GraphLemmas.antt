-- What the graph refuses of links, and that it refuses nothing else.
use Rattle.std.proofs.Common.{◌≡◌, ◌<◌, ◌||◌, ℕ, zero, suc, Bool, true, false, List, length, None, Some, Ok, Err, is_some, refl, sym, ap, inl, inr, arith}
use Rattle.std.proofs.lemmas.Bool.{cases_lt}
use Rattle.std.proofs.lemmas.Option.{slice_get_past}
use Rattle.nys_graph.specs.Faults.{IsFirstFault, fault_at, place_of}
use Rattle.nys_graph.specs.Links.{joined}
use Rattle.nys_graph.specs.declared.fault.GraphFault.{GraphFault}
use Rattle.nys_scenario.specs.Links.{graph_of, has_fault_before}
use Rattle.nys_scenario.specs.declared.fault.KeyKind.TheVariants.{Range}

-- a test that passes passes beside any other
or_true : (b : Bool) → (b || true) ≡ true
or_true true = refl
or_true false = refl

-- where no link has a fault, none of the first has
none_before : (hosts : ℕ) (links : List (ℕ × ℕ)) (n : ℕ) → ((k : ℕ) → k < n → fault_at hosts links k ≡ None)
    → has_fault_before hosts links n ≡ false
unfolding has_fault_before
none_before hosts links zero good = refl
none_before hosts links (suc n) good =
    rw (none_before hosts links n (λ k lt. good k (omega arith)), good n (omega arith)) refl

-- a fault of one of the first is one of them
some_before : (hosts : ℕ) (links : List (ℕ × ℕ)) (n k : ℕ) (fault : GraphFault) → k < n → fault_at hosts links k ≡ Some fault
    → has_fault_before hosts links n ≡ true
unfolding has_fault_before
some_before hosts links zero k fault lt found = absurd (omega arith)
some_before hosts links (suc n) k fault lt found = elim (cases_lt k n) [
  | inl below ↦ rw (some_before hosts links n k fault below found) refl
  | inr past ↦
      let here : k ≡ n = omega arith in
      let last : is_some (fault_at hosts links n) ≡ true = rw (← here, found) refl in
      rw last (or_true (has_fault_before hosts links n))
]

-- a fault is that of a link
within : (hosts : ℕ) (links : List (ℕ × ℕ)) (k : ℕ) (fault : GraphFault) → fault_at hosts links k ≡ Some fault → k < length links
within hosts links k fault found = elim (cases_lt k (length links)) [
  | inl inside ↦ inside
  | inr past ↦ let none : fault_at hosts links k ≡ None = rw (slice_get_past links k past) refl in cc
]

-- links that the graph takes are the graph's
pub accepted : (hosts : ℕ) (links : List (ℕ × ℕ)) (linked : ℕ → ℕ → Bool)
    → ((k : ℕ) → k < length links → fault_at hosts links k ≡ None)
    → ((a b : ℕ) → linked a b ≡ joined links a b) → graph_of hosts links ≡ Ok linked
accepted hosts links linked good same =
    let alike : linked ≡ joined links = λ i a b. same a b i in
    rw (none_before hosts links (length links) good) (ap (λ (f : ℕ → ℕ → Bool). Ok f) (sym alike))

-- links that it refuses are out of range
pub refused : (hosts : ℕ) (links : List (ℕ × ℕ)) (fault : GraphFault) → IsFirstFault hosts links fault
    → graph_of hosts links ≡ Err Range
refused hosts links fault first =
    rw (some_before hosts links (length links) (place_of fault) fault (within hosts links (place_of fault) fault first.found) first.found) refl
