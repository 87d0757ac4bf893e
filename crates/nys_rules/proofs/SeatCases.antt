-- What stands in a seat after makers took theirs: the first of each maker stays.
use Rattle.std.proofs.Common.{◌≡◌, ◌≢◌, ℕ, zero, suc, ◌<◌, ◌≤◌, ◌⊎◌, Bool, true, false, ℤ, List, [], ◌∷◌, length, Some, None, refl, ap, sym, subst, ◌∙◌, inl, inr, arith, get_or, set}
use Rattle.std.specs.Prelude.{Contains, Option, is_some, if◌then◌else◌, slice_index_or, slice_set, fold}
use Rattle.std.proofs.lemmas.Bool.{cases_eq}
use Rattle.std.proofs.lemmas.List.{get_or-set_other, get_or-set_same}
use Rattle.nys_bytes.specs.declared.content.Content.{Content}
use Rattle.nys_stmt.specs.declared.tags.Tags.{Tags}
use Rattle.nys_votes.specs.Meaning.{Attests}
use Rattle.nys_votes.specs.Seats.{is_seated, seat_of, with_seat}
use Rattle.nys_votes.specs.declared.vote.Vote.{Vote}
use Rattle.nys_rules.specs.Heads.{with_own}
use Rattle.nys_rules.specs.Noting.{collected, hearing, voted}
use Rattle.nys_rules.proofs.SeatKeeping.{length-with_seat}

-- the seats once several makers took theirs, in order
abbrev pub seats_after : {A X : Type 0} → (X → ℕ) → (X → A) → List X → List (Option A) → List (Option A)
seats_after maker kept xs seats = fold (λ some x. with_seat (maker x) (kept x) some) seats xs

-- a place of a changed list is an old one, or the changed one
set_case : {A : Type 0} (xs : List A) (m n : ℕ) (x d : A)
    → (get_or (set xs m x) n d ≡ get_or xs n d) ⊎ ((n ≡ m) × (get_or (set xs m x) n d ≡ x))
set_case [] m n x d = inl refl
set_case (y ∷ xs) zero zero x d = inr (refl, refl)
set_case (y ∷ xs) zero (suc n) x d = inl refl
set_case (y ∷ xs) (suc m) zero x d = inl refl
set_case (y ∷ xs) (suc m) (suc n) x d = elim (set_case xs m n x d) [ inl old ↦ inl old | inr new ↦ inr (ap suc new.0, new.1) ]

-- what stands in a seat stood there before, or is the maker's
pub with_seat_case : {A : Type 0} (m : ℕ) (x : A) (seats : List (Option A)) (n : ℕ) (y : A)
    → seat_of (with_seat m x seats) n ≡ Some y → (seat_of seats n ≡ Some y) ⊎ ((n ≡ m) × (x ≡ y))
unfolding with_seat
with_seat_case {A} m x seats n y e = by (is_seated seats m) e
  where
    by : (b : Bool) → seat_of (if b then seats else slice_set seats m (Some x)) n ≡ Some y
        → (seat_of seats n ≡ Some y) ⊎ ((n ≡ m) × (x ≡ y))
    by true e = inl e
    by false e = elim (set_case seats m n (Some x) None) [
      | inl old ↦ inl (sym old ∙ e)
      | inr new ↦ inr (new.0, let both = sym new.1 ∙ e in cc)
    ]

-- the same of several makers
pub seats_case : {A X : Type 0} (maker : X → ℕ) (kept : X → A) (xs : List X) (seats : List (Option A)) (n : ℕ) (y : A)
    → seat_of (seats_after maker kept xs seats) n ≡ Some y
    → (seat_of seats n ≡ Some y) ⊎ ((x : X) × Contains xs x × (maker x ≡ n) × (kept x ≡ y))
seats_case maker kept [] seats n y e = inl e
seats_case maker kept (x ∷ xs) seats n y e = elim (seats_case maker kept xs (with_seat (maker x) (kept x) seats) n y e) [
  | inl first ↦ elim (with_seat_case (maker x) (kept x) seats n y first) [
    | inl old ↦ inl old
    | inr new ↦ inr (x, (0, omega arith, refl), sym new.0, new.1)
  ]
  | inr later ↦ let in_rest = later.1 in inr (later.0, (suc in_rest.0, omega (arith, in_rest.1), in_rest.2), later.2, later.3)
]

-- a seat that is taken stays as it is
pub with_seat_keeps : {A : Type 0} (m : ℕ) (x : A) (seats : List (Option A)) (n : ℕ) (y : A)
    → seat_of seats n ≡ Some y → seat_of (with_seat m x seats) n ≡ Some y
unfolding with_seat
with_seat_keeps {A} m x seats n y e = by (is_seated seats m) refl
  where
    by : (b : Bool) → is_seated seats m ≡ b → seat_of (if b then seats else slice_set seats m (Some x)) n ≡ Some y
    by true is = e
    by false is = elim (cases_eq n m) [
      | inl same ↦ absurd (let taken = ap is_some (sym e ∙ ap (seat_of seats) same) ∙ is in cc)
      | inr other ↦ get_or-set_other seats m n (Some x) None other ∙ e
    ]

-- the same of several makers
pub seats_keep : {A X : Type 0} (maker : X → ℕ) (kept : X → A) (xs : List X) (seats : List (Option A)) (n : ℕ) (y : A)
    → seat_of seats n ≡ Some y → seat_of (seats_after maker kept xs seats) n ≡ Some y
seats_keep maker kept [] seats n y e = e
seats_keep maker kept (x ∷ xs) seats n y e =
    seats_keep maker kept xs (with_seat (maker x) (kept x) seats) n y (with_seat_keeps (maker x) (kept x) seats n y e)

-- what is there is something
is_something : {A : Type 0} (o : Option A) → is_some o ≡ true → (x : A) × (o ≡ Some x)
is_something None e = absurd (cc)
is_something (Some x) e = (x, refl)

-- a maker that is a host has its seat then
pub with_seat_takes : {A : Type 0} (m : ℕ) (x : A) (seats : List (Option A)) → m < length seats → is_seated (with_seat m x seats) m ≡ true
unfolding with_seat
with_seat_takes {A} m x seats low = by (is_seated seats m) refl
  where
    by : (b : Bool) → is_seated seats m ≡ b → is_seated (if b then seats else slice_set seats m (Some x)) m ≡ true
    by true is = is
    by false is = ap is_some (get_or-set_same seats m (Some x) None low)

-- so have several
pub seats_take : {A X : Type 0} (maker : X → ℕ) (kept : X → A) (xs : List X) (seats : List (Option A)) (x : X)
    → Contains xs x → maker x < length seats → is_seated (seats_after maker kept xs seats) (maker x) ≡ true
seats_take maker kept [] seats x among low = absurd (omega (arith, among.1))
seats_take {A} {X} maker kept (z ∷ xs) seats x among low =
    by among.0 among.1 among.2 (λ rest few. seats_take maker kept xs next x rest few)
  where
    next : List (Option A)
    next = with_seat (maker z) (kept z) seats

    by : (k : ℕ) → k < length (z ∷ xs) → slice_index_or (z ∷ xs) k x ≡ x
        → (Contains xs x → maker x < length next → is_seated (seats_after maker kept xs next) (maker x) ≡ true)
        → is_seated (seats_after maker kept xs next) (maker x) ≡ true
    by zero within is later =
        let few = subst (λ m. m < length seats) (ap maker (sym is)) low in
        let taken = with_seat_takes (maker z) (kept z) seats few in
        let held = is_something (seat_of next (maker x)) (subst (λ m. is_seated next m ≡ true) (ap maker is) taken) in
        ap is_some (seats_keep maker kept xs next (maker x) held.0 held.1)
    by (suc k) within is later =
        let long = length-with_seat (maker z) (kept z) seats in
        later (k, omega (arith, within), is) (omega (arith, low, long))

-- a vote that is kept was kept before, or is that of a maker
pub voted_case : (content : Content) (makers : List Tags) (votes : List (Option Vote)) (m : ℕ) (vote : Vote)
    → seat_of (voted content makers votes) m ≡ Some vote
    → (seat_of votes m ≡ Some vote)
    ⊎ ((tags : Tags) × Contains makers tags × (tags.maker ≡ m) × (vote.content ≡ content))
voted_case content makers votes m vote e =
    elim (seats_case (λ (t : Tags). t.maker) (λ t. record { content = content; tags = t.tags }) makers votes m vote e) [
      | inl old ↦ inl old
      | inr new ↦ inr (new.0, new.1, new.2, ap (λ (v : Vote). v.content) (sym new.3))
    ]

-- an order that is collected was collected before, or is that of a maker
pub collected_case : (makers : List Tags) (orders : List (Option (List (ℕ × List ℕ)))) (m : ℕ) (kept : List (ℕ × List ℕ))
    → seat_of (collected makers orders) m ≡ Some kept
    → (seat_of orders m ≡ Some kept) ⊎ ((tags : Tags) × Contains makers tags × (tags.maker ≡ m) × (tags.tags ≡ kept))
collected_case makers orders m kept e = seats_case (λ (t : Tags). t.maker) (λ t. t.tags) makers orders m kept e

-- an attestation that is heard was heard before, or is that of a maker
pub hearing_case : (payload : List ℤ) (makers : List Tags) (heard : List (Option (List ℤ))) (m : ℕ) (said : List ℤ)
    → seat_of (hearing payload makers heard) m ≡ Some said
    → (seat_of heard m ≡ Some said) ⊎ ((tags : Tags) × Contains makers tags × (tags.maker ≡ m) × (payload ≡ said))
hearing_case payload makers heard m said e = seats_case (λ (t : Tags). t.maker) (λ t. payload) makers heard m said e

-- a maker that attests was heard, or is the node itself
pub own_case : (me : ℕ) (own : Option (List ℤ)) (heard : List (Option (List ℤ))) (payload : List ℤ) (m : ℕ)
    → Attests payload (with_own me own heard) m → (seat_of heard m ≡ Some payload) ⊎ ((m ≡ me) × (own ≡ Some payload))
own_case me None heard payload m e = inl e
own_case me (Some mine) heard payload m e = elim (with_seat_case me mine heard m payload e) [
  | inl old ↦ inl old
  | inr new ↦ inr (new.0, ap (λ x. Some x) new.1)
]
