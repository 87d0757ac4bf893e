-- Sums over the hosts that pass a test, one host after another.
use Rattle.std.proofs.Common.{◌≡◌, ℕ, suc, ◌+◌, ◌-◌, ◌<◌, Bool, true, false, List, [], ◌∷◌, filter, fold, refl, ap, sym, ◌∙◌, arith}
use Rattle.std.proofs.lemmas.List.Sums.{sum_by-cons}
use Rattle.std.specs.List.{range_with_len, sum_by}
use Rattle.nys_rules.specs.View.{length_of, View}
use Rattle.nys_workload_command.specs.Logged.{entries_in}

-- the sum over those that pass
abbrev pub picked_sum : (ℕ → ℕ) → (ℕ → Bool) → List ℕ → ℕ
picked_sum f p hosts = sum_by f (filter p hosts)

-- over none
pub sum_none : (f : ℕ → ℕ) (p : ℕ → Bool) → picked_sum f p [] ≡ 0
sum_none f p = refl

-- over one that passes
pub sum_one : (f : ℕ → ℕ) (p : ℕ → Bool) (h : ℕ) → p h ≡ true → picked_sum f p (h ∷ []) ≡ f h
sum_one f p h passes = rw passes (omega arith)

-- over one that doesn't
pub sum_other : (f : ℕ → ℕ) (p : ℕ → Bool) (h : ℕ) → p h ≡ false → picked_sum f p (h ∷ []) ≡ 0
sum_other f p h not = rw not refl

-- the first, then the others
picked_more : (f : ℕ → ℕ) (p : ℕ → Bool) (h : ℕ) (hosts : List ℕ)
    → picked_sum f p (h ∷ hosts) ≡ picked_sum f p (h ∷ []) + picked_sum f p hosts
picked_more f p h hosts = go (p h) refl
  where
    go : (b : Bool) → p h ≡ b → picked_sum f p (h ∷ hosts) ≡ picked_sum f p (h ∷ []) + picked_sum f p hosts
    go true e =
        let all : picked_sum f p (h ∷ hosts) ≡ sum_by f (h ∷ filter p hosts) = rw e refl in
        let more = sum_by-cons f h (filter p hosts) in
        let one = sum_one f p h e in
        omega (arith, all, more, one)
    go false e =
        let all : picked_sum f p (h ∷ hosts) ≡ picked_sum f p hosts = rw e refl in
        let none = sum_other f p h e in
        omega (arith, all, none)

-- a sum that has that of a host more, and the rest, is the sum with all from the host on
pub picked_on : (f : ℕ → ℕ) (p : ℕ → Bool) (h hosts sum : ℕ) → h < hosts
    → sum + picked_sum f p (h ∷ []) + picked_sum f p (range_with_len (h + 1) (hosts - (h + 1)))
    ≡ sum + picked_sum f p (range_with_len h (hosts - h))
picked_on f p h hosts sum inside =
    let left : hosts - h ≡ suc (hosts - (h + 1)) = omega arith in
    let all : picked_sum f p (range_with_len h (hosts - h)) ≡ picked_sum f p (h ∷ range_with_len (h + 1) (hosts - (h + 1))) =
    ap (λ n. picked_sum f p (range_with_len h n)) left in
    let more = picked_more f p h (range_with_len (h + 1) (hosts - (h + 1))) in
    omega (arith, all, more)
