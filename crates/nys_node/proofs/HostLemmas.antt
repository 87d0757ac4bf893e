-- The hosts among makers, as a set.
use Rattle.std.proofs.Common.{◌≡◌, ℕ, zero, suc, ◌+◌, ◌<◌, ◌≤◌, ◌==◌, ◌&&◌, ◌||◌, Bool, true, false, List, [], ◌∷◌, ◌++◌, filter, length, map, take, refl, ap, sym, subst, ◌∙◌, inl, inr, ◌⊎◌, arith, eq-eqb}
use Rattle.std.specs.Prelude.{AllPairs, nat_lt, slice_get, Some}
use Rattle.std.specs.List.{range_with_len}
use Rattle.std.proofs.lemmas.Bool.{cases_lt, eqb-true, ltb-true, ne_eqb}
use Rattle.std.proofs.lemmas.List.{append-nil, map-append}
use Rattle.std.proofs.lemmas.Option.{get_or_from_slice_get, slice_get_within}
use Rattle.nys_rules.proofs.CertificateLemmas.{both_true}
use Rattle.std.proofs.lemmas.List.Elements.{filter-append}
use Rattle.nys_hosts.specs.Makers.{passing}
use Rattle.nys_hosts.specs.Sets.{has, members}
use Rattle.nys_hosts.specs.declared.set.HostSet.{HostSet}
use Rattle.nys_rules.specs.Handling.{hosts_among}
use Rattle.nys_stmt.specs.declared.tags.Tags.{Tags}

-- where no number from here on passes none is kept
none_pass : (q : ℕ → Bool) (a n : ℕ) → ((k : ℕ) → a ≤ k → q k ≡ false) → filter q (range_with_len a n) ≡ []
none_pass q a zero none = refl
none_pass q a (suc n) none = rw (none a (omega arith)) (none_pass q (a + 1) n (λ k le. none k (omega (arith, le))))

-- a test that passes one number more, above all others, keeps it last
one_more : (p q : ℕ → Bool) (h a n : ℕ) → ((k : ℕ) → q k ≡ (p k || (h == k))) → a ≤ h → h < a + n → ((k : ℕ) → h ≤ k → p k ≡ false)
    → filter q (range_with_len a n) ≡ filter p (range_with_len a n) ++ h ∷ []
one_more p q h a zero same low high none = absurd (omega (arith, low, high))
one_more p q h a (suc n) same low high none = elim (cases_lt a h) [
  | inl below ↦ go (p a) refl (same a ∙ ap (λ b. p a || b) (ne_eqb h a (λ e. omega (arith, e, below)))) (one_more p q h (a + 1) n same (omega (arith, below)) (omega (arith, high)) none)
  | inr there ↦ here (omega (arith, low, there))
]
  where
    or_none : (b : Bool) → (b || false) ≡ b
    or_none true = refl
    or_none false = refl

    go : (b : Bool) → p a ≡ b → q a ≡ (p a || false) → filter q (range_with_len (a + 1) n) ≡ filter p (range_with_len (a + 1) n) ++ h ∷ []
        → filter q (range_with_len a (suc n)) ≡ filter p (range_with_len a (suc n)) ++ h ∷ []
    go true e kept rest = rw (kept, e) (ap (λ l. a ∷ l) rest)
    go false e kept rest = rw (kept, e) rest

    here : a ≡ h → filter q (range_with_len a (suc n)) ≡ filter p (range_with_len a (suc n)) ++ h ∷ []
    here e =
        let fails : p a ≡ false = none a (omega (arith, e)) in
        let passes : q a ≡ true = same a ∙ ap (λ b. b || (h == a)) fails ∙ eq-eqb h a (sym e) in
        let rest_q : filter q (range_with_len (a + 1) n) ≡ [] =
        none_pass q (a + 1) n (λ k le. same k ∙ ap (λ b. b || (h == k)) (none k (omega (arith, e, le))) ∙ ne_eqb h k (λ same_k. omega (arith, same_k, e, le))) in
        let rest_p : filter p (range_with_len (a + 1) n) ≡ [] = none_pass p (a + 1) n (λ k le. none k (omega (arith, e, le))) in
        rw (passes, fails, rest_q, rest_p) (ap (λ x. x ∷ []) e)

-- tests that agree keep the same
same_kept : (p q : ℕ → Bool) → ((k : ℕ) → q k ≡ p k) → (xs : List ℕ) → filter q xs ≡ filter p xs
same_kept p q same [] = refl
same_kept p q same (x ∷ xs) = go (p x) refl (same x) (same_kept p q same xs)
  where
    go : (b : Bool) → p x ≡ b → q x ≡ p x → filter q xs ≡ filter p xs → filter q (x ∷ xs) ≡ filter p (x ∷ xs)
    go true e kept rest = rw (kept, e) (ap (λ l. x ∷ l) rest)
    go false e kept rest = rw (kept, e) rest

-- a set with one host more, above all others, where it is a host
pub members_with : (set more : HostSet) (m : ℕ) → ((k : ℕ) → has more k ≡ (has set k || ((m == k) && nat_lt m 32))) → ((k : ℕ) → has set k ≡ true → k < m)
    → members more ≡ members set ++ filter (λ x. nat_lt x 32) (m ∷ [])
unfolding passing
members_with set more m same above = go (nat_lt m 32) refl
  where
    no : (b : Bool) → (b || false) ≡ b
    no true = refl
    no false = refl

    both : (b c : Bool) → c ≡ true → (b && c) ≡ b
    both true c e = e
    both false c e = refl

    neither : (b c : Bool) → c ≡ false → (b && c) ≡ false
    neither true c e = e
    neither false c e = refl

    none : (k : ℕ) → m ≤ k → (b : Bool) → has set k ≡ b → b ≡ false
    none k le true e = absurd (omega (arith, above k e, le))
    none k le false e = refl

    go : (b : Bool) → nat_lt m 32 ≡ b → members more ≡ members set ++ filter (λ x. nat_lt x 32) (m ∷ [])
    go true e =
        rw e (one_more (has set) (has more) m 0 32 (λ k. same k ∙ ap (λ b. has set k || b) (both (m == k) (nat_lt m 32) e)) (omega arith) (omega (arith, ltb-true m 32 e)) (λ k le. none k le (has set k) refl))
    go false e =
        rw e (same_kept (has set) (has more) (λ k. same k ∙ ap (λ b. has set k || b) (neither (m == k) (nat_lt m 32) e) ∙ no (has set k)) (range_with_len 0 32)
        ∙ sym (append-nil (members set)))

-- the first items, then the next
pub take_next : {A : Type 0} (xs : List A) (i : ℕ) (x : A) → slice_get xs i ≡ Some x → take (i + 1) xs ≡ take i xs ++ x ∷ []
take_next [] i x at = absurd (cc)
take_next (y ∷ ys) zero x at = ap (λ z. z ∷ []) (some_same at)
  where
    some_same : Some y ≡ Some x → y ≡ x
    some_same e = cc
take_next (y ∷ ys) (suc i) x at =
    let same : suc (i + 1) ≡ suc i + 1 = omega arith in
    subst (λ n. take n (y ∷ ys) ≡ y ∷ (take i ys ++ x ∷ [])) same (ap (λ l. y ∷ l) (take_next ys i x at))

-- the hosts among some makers, then the next maker where it is a host
pub among_more : (makers : List Tags) (i : ℕ) (t : Tags) → slice_get makers i ≡ Some t
    → hosts_among (take (i + 1) makers) ≡ hosts_among (take i makers) ++ filter (λ x. nat_lt x 32) (t.maker ∷ [])
among_more makers i t at =
    ap (λ ts. hosts_among ts) (take_next makers i t at)
    ∙ ap (λ ms. filter (λ x. nat_lt x 32) ms) (map-append (λ (m : Tags). m.maker) (take i makers) (t ∷ []))
    ∙ filter-append (λ x. nat_lt x 32) (map (λ (m : Tags). m.maker) (take i makers)) (t.maker ∷ [])

-- a set without hosts has no members
pub no_members : (set : HostSet) → ((k : ℕ) → has set k ≡ false) → members set ≡ []
unfolding passing
no_members set none = none_pass (has set) 0 32 (λ k le. none k)

-- a host that isn't there is none
pub none_found : {A : Type 0} {b : Bool} → b ≡ false → b ≡ true → A
none_found fails passes = absurd (let both = sym fails ∙ passes in cc)

-- makers that are left are above the next one too
pub above_more : (makers : List Tags) (i : ℕ) (t : Tags) → slice_get makers i ≡ Some t → AllPairs (λ a b. a.maker < b.maker) makers → (set more : HostSet)
    → ((k : ℕ) → has more k ≡ (has set k || ((t.maker == k) && nat_lt t.maker 32)))
    → ((k : ℕ) → has set k ≡ true → (j : ℕ) (x : Tags) → i ≤ j → slice_get makers j ≡ Some x → k < x.maker)
    → (k : ℕ) → has more k ≡ true → (j : ℕ) (x : Tags) → i + 1 ≤ j → slice_get makers j ≡ Some x → k < x.maker
above_more makers i t at rising set more same above k is j x next found =
    elim (either (has set k) ((t.maker == k) && nat_lt t.maker 32) (sym (same k) ∙ is)) [
      | inl before ↦ above k before j x (omega (arith, next)) found
      | inr this ↦ omega (arith, eqb-true t.maker k (both_true (t.maker == k) (nat_lt t.maker 32) this).0, later)
    ]
  where
    either : (b c : Bool) → (b || c) ≡ true → (b ≡ true) ⊎ (c ≡ true)
    either true c e = inl refl
    either false c e = inr e

    later : t.maker < x.maker
    later =
        let within : j < length makers = slice_get_within makers j x found in
        let pair = rising i j t (omega (arith, next)) within in
        omega (arith, ap (λ (m : Tags). m.maker) (get_or_from_slice_get makers i t t at), ap (λ (m : Tags). m.maker) (get_or_from_slice_get makers j x t found), pair)
