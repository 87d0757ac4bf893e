-- The first of a list that has a fact, and lists that grow.
use Rattle.std.proofs.Common.{◌≡◌, ℕ, zero, suc, ◌+◌, ◌<◌, length, get_or, List, [], ◌∷◌, ◌++◌, drop, take, refl, sym, ap, subst, ◌∙◌, inl, inr, ◌⊎◌, arith}
use Rattle.std.specs.Prelude.{Contains, ◌↔◌, slice_get, IfNone, Option, None, Some}
use Rattle.std.proofs.lemmas.List.{take-append-drop, append_assoc}
use Rattle.std.proofs.lemmas.List.Elements.{Contains-append_cases}
use Rattle.nys_ledger.specs.Shelves.{IsFirst}
use Rattle.nys_ledger.proofs.ShelfLemmas.{drop_next}

-- nothing in a list has the fact
abbrev pub HasNone : {X : Type 0} → (X → Type 0) → List X → Type 0
HasNone {X = X} Has xs = (x : X) → Contains xs x → Has x → ⊥

-- of a list with nothing in it, nothing does
pub none_in_nothing : {X : Type 0} (Has : X → Type 0) → HasNone Has []
none_in_nothing Has x within has = absurd (omega (arith, within.1))

-- the only one of a list
only_one : {X : Type 0} (x y : X) → Contains (x ∷ []) y → y ≡ x
only_one x y (zero, within, is) = sym is
only_one x y (suc k, within, is) = absurd (omega (arith, within))

-- one item more that doesn't
pub none_longer : {X : Type 0} (Has : X → Type 0) (xs : List X) (x : X) → HasNone Has xs → (Has x → ⊥) → HasNone Has (xs ++ x ∷ [])
none_longer Has xs x none not y within has = elim (Contains-append_cases xs (x ∷ []) y within) [
  | inl old ↦ none y old has
  | inr new ↦ not (subst Has (only_one x y new) has)
]

-- the items up to one, and that one
take_next : {X : Type 0} (xs : List X) (i : ℕ) (x : X) → slice_get xs i ≡ Some x → take (i + 1) xs ≡ take i xs ++ x ∷ []
take_next xs i x at = let next : i + 1 ≡ suc i = omega arith in ap (λ n. take n xs) next ∙ more xs i x at
  where
    more : {X : Type 0} (xs : List X) (i : ℕ) (x : X) → slice_get xs i ≡ Some x → take (suc i) xs ≡ take i xs ++ x ∷ []
    more [] i x e = absurd (cc)
    more (y ∷ xs) zero x e = let same : y ≡ x = cc in ap (λ z. z ∷ []) same
    more (y ∷ xs) (suc i) x e = ap (λ zs. y ∷ zs) (more xs i x e)

-- the item at a place
pub at_get : {X : Type 0} (xs : List X) (i : ℕ) (x : X) → i < length xs → x ≡ get_or xs i x → slice_get xs i ≡ Some x
at_get [] i x within e = absurd (omega (arith, within))
at_get (y ∷ xs) zero x within e = ap Some (sym e)
at_get (y ∷ xs) (suc i) x within e = at_get xs i x (omega (arith, within)) e

-- one item more was looked at
pub none_next : {X : Type 0} (Has : X → Type 0) (xs : List X) (i : ℕ) (x : X) → slice_get xs i ≡ Some x
    → HasNone Has (take i xs) → (Has x → ⊥) → HasNone Has (take (i + 1) xs)
none_next Has xs i x at none not = subst (HasNone Has) (sym (take_next xs i x at)) (none_longer Has (take i xs) x none not)

-- the first is found
pub first_at : {X : Type 0} (Has : X → Type 0) (xs : List X) (i : ℕ) (x : X) → slice_get xs i ≡ Some x
    → HasNone Has (take i xs) → Has x → IsFirst Has xs x
first_at Has xs i x at none has = record {
  before = take i xs;
  after = drop (i + 1) xs;
  among = sym (take-append-drop i xs) ∙ ap (λ ys. take i xs ++ ys) (drop_next xs i x at);
  none_before = none;
  has = has;
}

-- an empty list has no items
pub nothing_behind : {X : Type 0} (xs rest : List X) (x : X) → [] ≡ xs ++ x ∷ rest → ⊥
nothing_behind [] rest x e = absurd (cc)
nothing_behind (y ∷ xs) rest x e = absurd (cc)

-- nor a first
pub no_first : {X : Type 0} (Has : X → Type 0) (xs : List X) (x : X) → xs ≡ [] → IsFirst Has xs x → ⊥
no_first Has xs x e first = nothing_behind first.before first.after x (sym e ∙ first.among)

-- an item of a list with one more is among those before, or it is that one
split_longer : {X : Type 0} (xs before after : List X) (x y : X) → xs ++ x ∷ [] ≡ before ++ y ∷ after
    → ((rest : List X) × (xs ≡ before ++ y ∷ rest)) ⊎ ((before ≡ xs) × (y ≡ x))
split_longer [] [] after x y e = let same : y ≡ x = cc in inr (refl, same)
split_longer [] (b ∷ before) after x y e =
    let tails : [] ≡ before ++ y ∷ after = cc in absurd (nothing_behind before after y tails)
split_longer (a ∷ xs) [] after x y e = let same : a ≡ y = cc in inl (xs, ap (λ z. z ∷ xs) same)
split_longer (a ∷ xs) (b ∷ before) after x y e =
    let heads : a ≡ b = cc in
    let tails : xs ++ x ∷ [] ≡ before ++ y ∷ after = cc in
    elim (split_longer xs before after x y tails) [
      | inl old ↦ inl (old.0, ap (λ z. z ∷ xs) heads ∙ ap (λ zs. b ∷ zs) old.1)
      | inr new ↦ inr (ap (λ z. z ∷ before) (sym heads) ∙ ap (λ zs. a ∷ zs) new.0, new.1)
    ]

-- the first of a list with one more is the first of the list, or that one where there was none
pub first_longer : {X : Type 0} (Has : X → Type 0) (xs : List X) (x y : X)
    → IsFirst Has (xs ++ x ∷ []) y ↔ (IsFirst Has xs y ⊎ ((y ≡ x) × Has y × HasNone Has xs))
first_longer {X = X} Has xs x y = (
  (λ first. elim (split_longer xs first.before first.after x y first.among) [
    | inl old ↦ inl (record {
      before = first.before;
      after = old.0;
      among = old.1;
      none_before = first.none_before;
      has = first.has;
    })
    | inr new ↦ inr (new.1, first.has, subst (HasNone Has) new.0 first.none_before)
  ]),
  (λ either. elim either [
    | inl old ↦ record {
      before = old.before;
      after = old.after ++ x ∷ [];
      among = ap (λ zs. zs ++ x ∷ []) old.among ∙ append_assoc old.before (y ∷ old.after) (x ∷ []);
      none_before = old.none_before;
      has = old.has;
    }
    | inr new ↦ record {
      before = xs;
      after = [];
      among = ap (λ z. xs ++ z ∷ []) (sym new.0);
      none_before = new.2;
      has = new.1;
    }
  ]),
)

-- what follows where there is none
pub if_none : {X P Q : Type 0} (o : Option X) → (P → Q) → IfNone o P → IfNone o Q
if_none None f p = f p
if_none (Some x) f p = p
