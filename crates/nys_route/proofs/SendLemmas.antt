-- One host more of those to whom a payload is sent.
use Rattle.std.proofs.Common.{◌≡◌, ℕ, zero, suc, ◌+◌, Bool, true, false, List, [], ◌∷◌, ◌++◌, map, filter, refl, ap, ◌∙◌, arith, if◌then◌else◌}
use Rattle.std.specs.Prelude.{ℤ}
use Rattle.std.specs.List.{range_with_len}
use Rattle.std.proofs.lemmas.List.{map-append}
use Rattle.std.proofs.lemmas.List.Elements.{filter-append}
use Rattle.nys_source.specs.declared.effect.Effect.TheVariants.{Send}
use Rattle.nys_route.specs.Sends.{sends_where}

-- one number more behind the others
range_more : (a n : ℕ) → range_with_len a (suc n) ≡ range_with_len a n ++ (a + n) ∷ []
range_more a zero = let same : a ≡ a + 0 = omega arith in ap (λ x. x ∷ []) same
range_more a (suc n) =
    let same : (a + 1) + n ≡ a + suc n = omega arith in
    ap (λ xs. a ∷ xs) (rw (← same) (range_more (a + 1) n))

-- the send to one host, if it passes
one_send : (payload : List ℤ) (q : ℕ) (b : Bool) → map (λ r. Send r payload) (if b then q ∷ [] else []) ≡ (if b then Send q payload ∷ [] else [])
one_send payload q true = refl
one_send payload q false = refl

-- the sends to the hosts below `q`, then that to `q` if it passes
pub sends_more : (test : ℕ → Bool) (payload : List ℤ) (q : ℕ)
    → sends_where (q + 1) test payload ≡ sends_where q test payload ++ (if test q then Send q payload ∷ [] else [])
sends_more test payload q =
    let next : q + 1 ≡ suc q = omega arith in
    let same : 0 + q ≡ q = omega arith in
    ap (λ n. sends_where n test payload) next
    ∙ ap (λ hosts. map (λ r. Send r payload) (filter test hosts)) (range_more 0 q ∙ ap (λ r. range_with_len 0 q ++ r ∷ []) same)
    ∙ ap (λ hosts. map (λ r. Send r payload) hosts) (filter-append test (range_with_len 0 q) (q ∷ []))
    ∙ map-append (λ r. Send r payload) (filter test (range_with_len 0 q)) (if test q then q ∷ [] else [])
    ∙ ap (λ sends. map (λ r. Send r payload) (filter test (range_with_len 0 q)) ++ sends) (one_send payload q (test q))
