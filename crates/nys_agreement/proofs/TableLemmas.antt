-- Functions that change at one place.
use Rattle.std.proofs.Common.{◌≡◌, ◌≢◌, ℕ, refl, subst, inl, inr, eq-eqb}
use Rattle.std.proofs.lemmas.Bool.{cases_eq, ne_eqb}
use Rattle.nys_source.specs.Tables.{put, put_at}

-- what holds of the new value at its place, and of the old ones elsewhere, holds of the changed function
pub put_case : {A : Type 0} (P : A → Type 0) (f : ℕ → A) (at : ℕ) (v : A) (x : ℕ) → (x ≡ at → P v) → (x ≢ at → P (f x)) → P (put f at v x)
put_case P f at v x here other = elim (cases_eq x at) [
  | inl e ↦ rw (eq-eqb x at e) (here e)
  | inr ne ↦ rw (ne_eqb x at ne) (other ne)
]

-- the same for a function of two places
pub put_at_case : {A : Type 0} (P : A → Type 0) (f : ℕ → ℕ → A) (p h : ℕ) (v : A) (x y : ℕ) → (x ≡ p → y ≡ h → P v) → ((x ≡ p → y ≡ h → ⊥) → P (f x y)) → P (put_at f p h v x y)
put_at_case P f p h v x y here other = elim (cases_eq x p) [
  | inl e ↦ rw (eq-eqb x p e) (put_case P (f p) h v y (here e) (λ ne. subst (λ q. P (f q y)) e (other (λ a b. ne b))))
  | inr ne ↦ rw (ne_eqb x p ne) (other (λ a b. ne a))
]

-- the new value
pub put_here : {A : Type 0} (f : ℕ → A) (at : ℕ) (v : A) → put f at v at ≡ v
put_here f at v = rw (eq-eqb at at refl) refl

-- the value at another place
pub put_there : {A : Type 0} (f : ℕ → A) (at : ℕ) (v : A) (x : ℕ) → x ≢ at → put f at v x ≡ f x
put_there f at v x ne = rw (ne_eqb x at ne) refl
