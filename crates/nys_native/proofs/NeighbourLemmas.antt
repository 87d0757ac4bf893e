-- One host more in the list of a host's neighbours.
use Rattle.std.proofs.Common.{◌≡◌, ℕ, zero, suc, ◌+◌, Bool, ℤ, List, [], ◌∷◌, ◌++◌, ap, ◌∙◌, arith, if◌then◌else◌}
use Rattle.std.specs.Prelude.{filter}
use Rattle.std.specs.List.{range_with_len}
use Rattle.std.proofs.lemmas.List.{map-append}
use Rattle.std.proofs.lemmas.List.Elements.{filter-append}
use Rattle.nys_source.specs.declared.effect.Effect.TheVariants.{Send}
use Rattle.nys_native.specs.Neighbours.{sends_to}

-- one number more behind the others
range_more : (a n : ℕ) → range_with_len a (suc n) ≡ range_with_len a n ++ (a + n) ∷ []
range_more a zero = let same : a ≡ a + 0 = omega arith in ap (λ x. x ∷ []) same
range_more a (suc n) =
    let same : (a + 1) + n ≡ a + suc n = omega arith in
    ap (λ xs. a ∷ xs) (rw (← same) (range_more (a + 1) n))

-- the sends to the hosts below `p`, then that to `p` if it passes
pub sends_more : (payload : List ℤ) (f : ℕ → Bool) (p : ℕ) → sends_to payload (filter f (range_with_len 0 (p + 1))) ≡ sends_to payload (filter f (range_with_len 0 p)) ++ sends_to payload (if f p then p ∷ [] else [])
sends_more payload f p =
    let next : p + 1 ≡ suc p = omega arith in
    let same : 0 + p ≡ p = omega arith in
    ap (λ n. sends_to payload (filter f (range_with_len 0 n))) next
    ∙ ap (λ hosts. sends_to payload (filter f hosts)) (range_more 0 p ∙ ap (λ q. range_with_len 0 p ++ q ∷ []) same)
    ∙ ap (λ hosts. sends_to payload hosts) (filter-append f (range_with_len 0 p) (p ∷ []))
    ∙ map-append (λ q. Send q payload) (filter f (range_with_len 0 p)) (if f p then p ∷ [] else [])
