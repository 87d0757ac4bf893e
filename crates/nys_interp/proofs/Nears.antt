-- One host more in the list of a host's neighbours.
use Rattle.std.proofs.Common.{◌≡◌, ℕ, zero, suc, ◌+◌, Bool, [], ◌∷◌, ◌++◌, ap, ◌∙◌, arith, if◌then◌else◌}
use Rattle.std.specs.Prelude.{filter}
use Rattle.std.specs.List.{range_with_len}
use Rattle.std.proofs.lemmas.List.Elements.{filter-append}

-- one number more behind the others
range_more : (a n : ℕ) → range_with_len a (suc n) ≡ range_with_len a n ++ (a + n) ∷ []
range_more a zero = let same : a ≡ a + 0 = omega arith in ap (λ x. x ∷ []) same
range_more a (suc n) =
    let same : (a + 1) + n ≡ a + suc n = omega arith in
    ap (λ xs. a ∷ xs) (rw (← same) (range_more (a + 1) n))

-- the neighbours below a host, then the host if it is one
pub near_more : (f : ℕ → Bool) (p : ℕ) → filter f (range_with_len 0 (p + 1)) ≡ filter f (range_with_len 0 p) ++ (if f p then p ∷ [] else [])
near_more f p =
    let next : p + 1 ≡ suc p = omega arith in
    let same : 0 + p ≡ p = omega arith in
    ap (λ n. filter f (range_with_len 0 n)) next
    ∙ ap (filter f) (range_more 0 p ∙ ap (λ q. range_with_len 0 p ++ q ∷ []) same)
    ∙ filter-append f (range_with_len 0 p) (p ∷ [])
