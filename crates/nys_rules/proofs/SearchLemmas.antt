-- The first of several places that has something.
use Rattle.std.proofs.Common.{◌≡◌, ℕ, zero, suc, ◌+◌, ◌<◌, ◌≤◌, ◌⊎◌, Some, None, refl, ap, sym, ◌∙◌, inl, inr, arith}
use Rattle.std.specs.Prelude.{Option, option_map}
use Rattle.std.specs.Option.{option_or}
use Rattle.std.proofs.Math.Nat.{eq-or-lt_of_le}

-- what place p has, or else the first of the n - 1 places behind it that has something
abbrev pub first_from : {A : Type 0} → (n : ℕ) → (ℕ → Option A) → ℕ → Option A
first_from zero at p = None
first_from (suc n) at p = option_or (at p) (first_from n at (suc p))

-- of two there is none where there is neither
pub or_none : {A : Type 0} (a b : Option A) → option_or a b ≡ None → (a ≡ None) × (b ≡ None)
or_none None b e = (refl, e)
or_none (Some x) b e = absurd (cc)

-- one of two is the first, or the second where there is no first
pub or_some : {A : Type 0} (a b : Option A) (x : A) → option_or a b ≡ Some x
    → (a ≡ Some x) ⊎ ((a ≡ None) × (b ≡ Some x))
or_some None b x e = inr (refl, e)
or_some (Some y) b x e = inl e

-- no place has anything
pub first_none : {A : Type 0} (n : ℕ) (at : ℕ → Option A) (p : ℕ) → first_from n at p ≡ None
    → (x : ℕ) → p ≤ x → x < p + n → at x ≡ None
first_none zero at p e x from to = absurd (omega arith)
first_none (suc n) at p e x from to =
    let both = or_none (at p) (first_from n at (suc p)) e in
    elim (eq-or-lt_of_le from) [
      | inl same ↦ ap at (sym same) ∙ both.0
      | inr later ↦ first_none n at (suc p) both.1 x (omega (arith, later)) (omega (arith, to))
    ]

-- a place has it, and none before it has anything
pub record IsFirst {A : Type 0} (n : ℕ) (at : ℕ → Option A) (p : ℕ) (x : A) : Type 0 where
  pub place : ℕ
  pub from : p ≤ place
  pub to : place < p + n
  pub here : at place ≡ Some x
  pub none_before : (y : ℕ) → p ≤ y → y < place → at y ≡ None

-- what is found first
pub first_some : {A : Type 0} (n : ℕ) (at : ℕ → Option A) (p : ℕ) (x : A) → first_from n at p ≡ Some x
    → IsFirst n at p x
first_some zero at p x e = absurd (cc)
first_some (suc n) at p x e = elim (or_some (at p) (first_from n at (suc p)) x e) [
  | inl here ↦ record {
    place = p;
    from = omega arith;
    to = omega arith;
    here = here;
    none_before = λ y from before. absurd (omega (arith, from, before));
  }
  | inr later ↦
      let rest = first_some n at (suc p) x later.1 in
      record {
        place = rest.place;
        from = omega (arith, rest.from);
        to = omega (arith, rest.to);
        here = rest.here;
        none_before = λ y from before. elim (eq-or-lt_of_le from) [
          | inl same ↦ ap at (sym same) ∙ later.0
          | inr behind ↦ rest.none_before y (omega (arith, behind)) before
        ];
      }
]

-- what a mapped option has comes from what it had
pub map_some : {A B : Type 0} (f : A → B) (o : Option A) (y : B) → option_map f o ≡ Some y
    → (x : A) × (o ≡ Some x) × (f x ≡ y)
map_some f None y e = absurd (cc)
map_some f (Some x) y e = (x, refl, cc)
