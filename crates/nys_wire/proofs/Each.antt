-- Items read one after the other, as a loop does.
use Rattle.std.proofs.Common.{◌≡◌, ℕ, suc, ◌-◌, ◌+◌, ◌≤◌, ◌<◌, List, [], ◌∷◌, ◌++◌, Result, Ok, Err, refl, sym, ap, subst, ◌∙◌, append_assoc, arith}
use Rattle.std.proofs.lemmas.List.{append-nil}
use Rattle.nys_bytes.specs.Reading.{Reading}
use Rattle.nys_wire.specs.declared.fault.RefFault.{RefFault}
use Rattle.nys_wire.specs.declared.fault.WireFault.{WireFault}
use Rattle.nys_wire.specs.declared.fault.WireFault.TheVariants.{At, NoMemory}
use Rattle.nys_wire.specs.Answers.{Fails}
use Rattle.nys_wire.specs.Reading.{Reads, ◌>>=◌, each_at}

-- what was read before, and what is still read
abbrev pub with_front : {A : Type 0} → List A → Result (List A × Reading) WireFault → Result (List A × Reading) WireFault
with_front front read = read >>= λ x. Ok (front ++ x.0, x.1)

-- an item before the others, or behind those before
regroup : {A : Type 0} (front : List A) (n : A) (read : Result (List A × Reading) WireFault) → with_front front (read >>= λ x. Ok (n ∷ x.0, x.1)) ≡ with_front (front ++ n ∷ []) read
regroup {A = A} front n (Ok x) = ap (λ (ns : List A). Ok (ns, x.1)) (simp append_assoc)
regroup front n (Err f) = refl

-- with one more item read, the whole is as before
pub goes_on : {A : Type 0} (item : ℕ → Reads A) (leaves : A → ℕ) (front : List A) (count i least : ℕ) (here : Reading) (x : A) (after : Reading) (total : Result (List A × Reading) WireFault)
    → i < count → item least here ≡ Ok (x, after)
    → with_front front (each_at item leaves (count - i) least here) ≡ total
    → with_front (front ++ x ∷ []) (each_at item leaves (count - (i + 1)) (leaves x) after) ≡ total
unfolding each_at
goes_on item leaves front count i least here x after total lt h so_far =
    let k : count - i ≡ suc (count - (i + 1)) = omega arith in
    let one : with_front front (each_at item leaves (count - i) least here) ≡ with_front (front ++ x ∷ []) (each_at item leaves (count - (i + 1)) (leaves x) after) =
    rw (k, h) (regroup front x (each_at item leaves (count - (i + 1)) (leaves x) after)) in
    sym one ∙ so_far

-- a fault of an item is that of the whole
pub ends : {A : Type 0} (item : ℕ → Reads A) (leaves : A → ℕ) (e : WireFault) (front : List A) (count i least : ℕ) (here : Reading) (total : Result (List A × Reading) WireFault)
    → i < count → Fails e (item least here)
    → with_front front (each_at item leaves (count - i) least here) ≡ total → Fails e total
unfolding each_at
ends item leaves NoMemory front count i least here total lt h so_far = tt
ends item leaves (At place kind) front count i least here total lt h so_far =
    let k : count - i ≡ suc (count - (i + 1)) = omega arith in
    let one : with_front front (each_at item leaves (count - i) least here) ≡ Err (At place kind) = rw (k, h) refl in
    sym so_far ∙ one

-- when all are read, they are the whole
pub is_done : {A : Type 0} (item : ℕ → Reads A) (leaves : A → ℕ) (front : List A) (count i least : ℕ) (here : Reading) (total : Result (List A × Reading) WireFault)
    → count ≤ i → with_front front (each_at item leaves (count - i) least here) ≡ total → total ≡ Ok (front, here)
unfolding each_at
is_done {A = A} item leaves front count i least here total le so_far =
    let k : count - i ≡ 0 = omega arith in
    let one : with_front front (each_at item leaves (count - i) least here) ≡ Ok (front, here) =
    rw k (ap (λ (ns : List A). Ok (ns, here)) (append-nil front)) in
    sym so_far ∙ one

-- ---- items that are passed

-- some items, and those that are still read from here, are all that are read from the start
abbrev pub Behind : {A : Type 0} → (ℕ → Reads A) → (A → ℕ) → ℕ → ℕ → ℕ → Reading → Reading → Type 0
Behind {A = A} item leaves count i least here start =
    (front : List A) × (with_front front (each_at item leaves (count - i) least here) ≡ each_at item leaves count 0 start)

-- one more
pub behind_goes : {A : Type 0} (item : ℕ → Reads A) (leaves : A → ℕ) (count i least : ℕ) (here after start : Reading) (next : ℕ)
    → i < count → (x : A) × (item least here ≡ Ok (x, after)) × (leaves x ≡ next)
    → Behind item leaves count i least here start → Behind item leaves count (i + 1) next after start
behind_goes item leaves count i least here after start next lt read so_far =
    subst (λ (n : ℕ). Behind item leaves count (i + 1) n after start) read.2
    (so_far.0 ++ read.0 ∷ [], goes_on item leaves so_far.0 count i least here read.0 after _ lt read.1 so_far.1)

-- a fault of an item is that of the whole
pub behind_ends : {A : Type 0} (item : ℕ → Reads A) (leaves : A → ℕ) (e : RefFault) (count i least : ℕ) (here start : Reading)
    → i < count → item least here ≡ Err (At e.place e.kind)
    → Behind item leaves count i least here start → each_at item leaves count 0 start ≡ Err (At e.place e.kind)
behind_ends item leaves e count i least here start lt read so_far =
    ends item leaves (At e.place e.kind) so_far.0 count i least here _ lt read so_far.1

-- all are passed
pub behind_done : {A : Type 0} (item : ℕ → Reads A) (leaves : A → ℕ) (count i least : ℕ) (here start : Reading)
    → count ≤ i → Behind item leaves count i least here start → (xs : List A) × (each_at item leaves count 0 start ≡ Ok (xs, here))
behind_done item leaves count i least here start le so_far =
    (so_far.0, is_done item leaves so_far.0 count i least here _ le so_far.1)
