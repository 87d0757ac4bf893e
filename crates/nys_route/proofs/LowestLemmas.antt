-- The lowest number that passes a test.
use Rattle.std.proofs.Common.{◌≡◌, ℕ, zero, suc, ◌+◌, ◌<◌, Bool, true, false, if◌then◌else◌, Option, Some, None, refl, sym, ap, ◌∙◌, subst, inl, inr, arith}
use Rattle.std.proofs.lemmas.Bool.{cases_lt}
use Rattle.nys_route.specs.Parents.{lowest, or_else}

-- what is found passes, below the bound, and none below it does
pub record IsFound (test : ℕ → Bool) (n p : ℕ) : Type 0 where
  pub below : p < n
  pub passes : test p ≡ true
  pub first : (q : ℕ) → q < p → test q ≡ false

-- nothing is found where none passes
pub lowest_none : (test : ℕ → Bool) (n : ℕ) → lowest test n ≡ None → (q : ℕ) → q < n → test q ≡ false
lowest_none test zero e q less = absurd (omega (arith, less))
lowest_none test (suc n) e q less = go (λ found under. lowest_none test n found q under) (lowest test n) refl (test n) refl e
  where
    go : (lowest test n ≡ None → q < n → test q ≡ false) → (o : Option ℕ) → lowest test n ≡ o → (b : Bool) → test n ≡ b
        → or_else o (if b then Some n else None) ≡ None → test q ≡ false
    go rest (Some r) found b is h = cc
    go rest None found true is h = cc
    go rest None found false is h = elim (cases_lt q n) [
      | inl under ↦ rest found under
      | inr over ↦ let same : n ≡ q = omega (arith, over, less) in subst (λ m. test m ≡ false) same is
    ]

-- what is found is the lowest
pub lowest_found : (test : ℕ → Bool) (n p : ℕ) → lowest test n ≡ Some p → IsFound test n p
lowest_found test zero p e = cc
lowest_found test (suc n) p e = go (lowest test n) refl (test n) refl e (lowest_found test n)
  where
    go : (o : Option ℕ) → lowest test n ≡ o → (b : Bool) → test n ≡ b → or_else o (if b then Some n else None) ≡ Some p
        → ((r : ℕ) → lowest test n ≡ Some r → IsFound test n r) → IsFound test (suc n) p
    go (Some r) found b is h rest =
        let same : r ≡ p = cc in
        let here = rest p (found ∙ ap Some same) in
        record { below = let less = here.below in omega (arith, less); passes = here.passes; first = here.first }
    go None found true is h rest =
        let same : n ≡ p = cc in
        record {
          below = omega (arith, same);
          passes = subst (λ m. test m ≡ true) same is;
          first = λ q less. lowest_none test n found q (omega (arith, less, same));
        }
    go None found false is h rest = cc

-- where one passes, one is found
pub lowest_some : (test : ℕ → Bool) (n q : ℕ) → q < n → test q ≡ true → (p : ℕ) × (lowest test n ≡ Some p)
lowest_some test n q less passes = go (lowest test n) refl
  where
    go : (o : Option ℕ) → lowest test n ≡ o → (p : ℕ) × (lowest test n ≡ Some p)
    go (Some p) found = (p, found)
    go None none = let no : true ≡ false = sym passes ∙ lowest_none test n none q less in absurd (cc)

-- the first that passes is found
pub lowest_first : (test : ℕ → Bool) (n q : ℕ) → q < n → test q ≡ true → lowest test q ≡ None → lowest test n ≡ Some q
lowest_first test n q less passes none = go (lowest_some test n q less passes)
  where
    go : (p : ℕ) × (lowest test n ≡ Some p) → lowest test n ≡ Some q
    go found =
        let is = lowest_found test n found.0 found.1 in
        elim (cases_lt q found.0) [
          | inl under ↦ let no : true ≡ false = sym passes ∙ is.first q under in absurd (cc)
          | inr over ↦ elim (cases_lt found.0 q) [
            | inl before ↦ let no : true ≡ false = sym is.passes ∙ lowest_none test q none found.0 before in absurd (cc)
            | inr after ↦ let same : found.0 ≡ q = omega (arith, over, after) in found.1 ∙ ap Some same
          ]
        ]

-- tests that agree below the bound find the same
pub lowest_agree : (f g : ℕ → Bool) (n : ℕ) → ((q : ℕ) → q < n → f q ≡ g q) → lowest f n ≡ lowest g n
lowest_agree f g zero same = refl
lowest_agree f g (suc n) same =
    ap (λ o. or_else o (if f n then Some n else None)) (lowest_agree f g n (λ q less. same q (omega (arith, less))))
    ∙ ap (λ b. or_else (lowest g n) (if b then Some n else None)) (same n (omega arith))

-- where none passes below a number, nor that one, none does below the next
pub lowest_next : (f : ℕ → Bool) (n : ℕ) → lowest f n ≡ None → f n ≡ false → lowest f (n + 1) ≡ None
lowest_next f n none fails =
    let next : n + 1 ≡ suc n = omega arith in
    ap (lowest f) next ∙ ap (λ o. or_else o (if f n then Some n else None)) none ∙ ap (λ b. if b then Some n else None) fails
