-- The law of shared quorums, by one count over all hosts.
use Rattle.std.proofs.Common.{◌≡◌, ℕ, zero, suc, ◌+◌, ◌<◌, ◌≤◌, Bool, true, false, cond, ◌&&◌, not, refl, arith}
use Rattle.nys_hosts.specs.Counts.{AtLeast, count_below, hosts_with, quorum_of, Within}
use Rattle.nys_hosts.specs.Quorums.{HonestAreAQuorum, HonestOfQuorum, HonestRest, liars_among, OneHonest, SharedHonest}
use Rattle.nys_hosts.proofs.CountLemmas.{count_below-suc, count_below-zero, hosts_with-some}

-- one host, in two parts of the guards
one_share : (a b all liar : Bool) → (a ≡ true → all ≡ true) → (b ≡ true → all ≡ true)
    → cond a 1 0 + cond b 1 0 ≤ cond all 1 0 + cond (a && b && not liar) 1 0 + cond (all && liar) 1 0
one_share true b false liar p q = absurd (let e = p refl in cc)
one_share false true false liar p q = absurd (let e = q refl in cc)
one_share true true true true p q = omega arith
one_share true true true false p q = omega arith
one_share true false true true p q = omega arith
one_share true false true false p q = omega arith
one_share false b true true p q = at_most b
  where
    at_most : (b : Bool) → cond false 1 0 + cond b 1 0 ≤ cond true 1 0 + cond (false && b && not true) 1 0 + cond (true && true) 1 0
    at_most true = omega arith
    at_most false = omega arith
one_share false true true false p q = omega arith
one_share false false all liar p q = omega arith

-- two parts of the guards are no more than all, what the honest of them share, and the liars
overlap : (a b all liars : ℕ → Bool) → Within a all → Within b all → (n : ℕ)
    → count_below a n + count_below b n
    ≤ count_below all n + count_below (λ h. a h && b h && not (liars h)) n + count_below (λ h. all h && liars h) n
overlap a b all liars p q zero = omega (arith, count_below-zero a, count_below-zero b)
overlap a b all liars p q (suc n) =
    omega (
      arith,
      overlap a b all liars p q n,
      one_share (a n) (b n) (all n) (liars n) (p n) (q n),
      count_below-suc a n,
      count_below-suc b n,
      count_below-suc all n,
      count_below-suc (λ h. a h && b h && not (liars h)) n,
      count_below-suc (λ h. all h && liars h) n,
    )

-- the overlap over all hosts
overlap_all : (a b all liars : ℕ → Bool) → Within a all → Within b all
    → hosts_with a + hosts_with b ≤ hosts_with all + hosts_with (λ h. a h && b h && not (liars h)) + liars_among all liars
unfolding hosts_with
overlap_all a b all liars p q = overlap a b all liars p q 32

-- one host that passes three tests passes each
three : (x y z : Bool) → (x && y && not z) ≡ true → (x ≡ true) × (y ≡ true) × (z ≡ false)
three true true false e = (refl, refl, refl)
three true true true e = absurd (cc)
three true false z e = absurd (cc)
three false y z e = absurd (cc)

two : (x z : Bool) → (x && not z) ≡ true → (x ≡ true) × (z ≡ false)
two true false e = (refl, refl)
two true true e = absurd (cc)
two false z e = absurd (cc)

-- two quorums are together more than all guards and the liars
pub shared_honest : SharedHonest
shared_honest t a b guards liars in_a in_b few first second =
    let more = overlap_all a b guards liars in_a in_b in
    let h = hosts_with-some (λ h. a h && b h && not (liars h)) (omega arith) in
    let each = three (a h.0) (b h.0) (liars h.0) h.2 in
    (h.0, h.1, each.0, each.1, each.2)

-- one maker is honest or a liar among the guards
one_rest : (m all liar : Bool) → (m ≡ true → all ≡ true) → cond m 1 0 ≤ cond (m && not liar) 1 0 + cond (all && liar) 1 0
one_rest true true true p = omega arith
one_rest true true false p = omega arith
one_rest true false liar p = absurd (let e = p refl in cc)
one_rest false all liar p = omega arith

rest : (makers all liars : ℕ → Bool) → Within makers all → (n : ℕ)
    → count_below makers n ≤ count_below (λ h. makers h && not (liars h)) n + count_below (λ h. all h && liars h) n
rest makers all liars p zero = omega (arith, count_below-zero makers)
rest makers all liars p (suc n) =
    omega (
      arith,
      rest makers all liars p n,
      one_rest (makers n) (all n) (liars n) (p n),
      count_below-suc makers n,
      count_below-suc (λ h. makers h && not (liars h)) n,
      count_below-suc (λ h. all h && liars h) n,
    )

-- the makers are the honest ones and at most t liars
pub honest_rest : HonestRest
unfolding hosts_with
honest_rest t makers guards liars within few = omega (arith, rest makers guards liars within 32)

-- more makers than liars leave an honest one
pub one_honest : OneHonest
one_honest t makers guards liars within few enough =
    let h = hosts_with-some (λ h. makers h && not (liars h)) (omega (arith, honest_rest t makers guards liars within few)) in
    let each = two (makers h.0) (liars h.0) h.2 in
    (h.0, h.1, each.0, each.1)

-- a quorum is at least 2t + 1
pub honest_of_quorum : HonestOfQuorum
honest_of_quorum t makers guards liars within few many quorum = omega (arith, honest_rest t makers guards liars within few)

-- the guards less t are a quorum
pub honest_are_a_quorum : HonestAreAQuorum
honest_are_a_quorum t guards liars few many = omega (arith, honest_rest t guards guards liars (λ h e. e) few)

-- of two facts that a quorum of makers each vouches for, one honest maker vouches for both
pub AtLeast-shared : (t : ℕ) (guards liars : ℕ → Bool) (P Q : ℕ → Type 0)
    → ((m : ℕ) → P m → guards m ≡ true) → ((m : ℕ) → Q m → guards m ≡ true) → liars_among guards liars ≤ t
    → AtLeast (quorum_of (hosts_with guards) t) P → AtLeast (quorum_of (hosts_with guards) t) Q
    → (m : ℕ) × (m < 32) × P m × Q m × (liars m ≡ false)
AtLeast-shared t guards liars P Q in_p in_q few first second =
    let h = shared_honest t first.makers second.makers guards liars (λ m made. in_p m (first.each m made))
    (λ m made. in_q m (second.each m made)) few first.enough second.enough in
    (h.0, h.1, first.each h.0 h.2, second.each h.0 h.3, h.4)

-- of t + 1 makers of a fact one is honest
pub AtLeast-honest : (t : ℕ) (guards liars : ℕ → Bool) (P : ℕ → Type 0) → ((m : ℕ) → P m → guards m ≡ true)
    → liars_among guards liars ≤ t → AtLeast (t + 1) P → (m : ℕ) × (m < 32) × P m × (liars m ≡ false)
AtLeast-honest t guards liars P within few some =
    let h = one_honest t some.makers guards liars (λ m made. within m (some.each m made)) few some.enough in
    (h.0, h.1, some.each h.0 h.2, h.3)
