-- Planned guards are the only ones, and where guards are good there is no fault to be told; a fault that is told is
-- the only one.
use Rattle.std.proofs.Common.{◌≡◌, ◌≢◌, ℕ, zero, suc, ◌+◌, ◌*◌, ◌<◌, ◌≤◌, Bool, true, false, cond, ◌==◌, ◌&&◌, ◌||◌, not, eqb-true, List, [], ◌∷◌, ◌++◌, length, max, Option, Some, None, refl, sym, ap, subst, ◌∙◌, inl, inr, ◌⊎◌, arith}
use Rattle.std.proofs.Math.Path.{fun_ext}
use Rattle.std.proofs.lemmas.Bool.{cases_eq, cases_lt}
use Rattle.std.proofs.lemmas.List.Elements.{All-append, All-filter, All-head, All-nil, All-cons, All-tail}
use Rattle.std.specs.List.{list_any, range_with_len}
use Rattle.std.specs.Prelude.{All, filter, take, ◌↔◌}
use Rattle.nys_guard_commands.specs.Graphs.{AreGuards, IsFaultOf, listed}
use Rattle.nys_guard_commands.specs.declared.fault.EpochFault.{EpochFault}
use Rattle.nys_guard_commands.specs.declared.fault.EpochFault.TheVariants.{NotGood, Unplanned}
use Rattle.nys_guards.specs.Faults.{fault_of_host, fault_of_link, IsFirstFault, IsFirstOfHosts, IsFirstOfLinks, IsFirstOfLinksFrom, IsFirstTooMany}
use Rattle.nys_guards.specs.Good.{AreWithin, IsGood, shared_guards}
use Rattle.nys_guards.specs.declared.fault.GuardFault.{GuardFault}
use Rattle.nys_guards.specs.declared.fault.TooMany.{TooMany}
use Rattle.nys_hosts.proofs.CountLemmas.{count_below-suc, count_below-zero}
use Rattle.nys_hosts.specs.Counts.{count_below, hosts_with}
use Rattle.nys_hosts.specs.Makers.{is_listed}
use Rattle.nys_hosts.specs.Quorums.{liars_among}
use Rattle.nys_plan.specs.Greatest.{IsGreatest}
use Rattle.nys_plan.specs.Planned.{AreOfHostsBelow, hosts_passing, IsPlanned, order_of}
use Rattle.nys_plan.specs.Refused.{AreEnough, AreFew, IsPlanFault, IsTooFew}
use Rattle.nys_plan.specs.Walks.{IsReached}
use Rattle.nys_plan.specs.declared.fault.PlanFault.{PlanFault}
use Rattle.nys_plan.specs.declared.fault.PlanFault.TheVariants.{CreditTooSmall, TooFewHosts}
use Rattle.nys_scenario.specs.Hosts.{Hosts}

-- ---- planned guards

-- tests that imply each other agree
agree : (a b : Bool) → (a ≡ true → b ≡ true) → (b ≡ true → a ≡ true) → a ≡ b
agree true b f g = sym (f refl)
agree false true f g = g refl
agree false false f g = refl

-- the greatest threshold is one
greatest_once : (t : ℕ → ℕ) (P : ℕ → Type 0) (m n : ℕ) → IsGreatest t P m → IsGreatest t P n → m ≡ n
greatest_once t P m n p q =
    let up = q.bound p.host p.is in
    let down = p.bound q.host q.is in
    let here = p.same in
    let there = q.same in
    omega (arith, up, down, here, there)

-- the planned guards of a host are one test
planned_once : (hosts : ℕ) (linked : ℕ → ℕ → Bool) (t : ℕ → ℕ) (h : ℕ) (a b : ℕ → Bool) → IsPlanned hosts linked t h a
    → IsPlanned hosts linked t h b → (g : ℕ) → a g ≡ b g
planned_once hosts linked t h a b p q g =
    let component : p.component ≡ q.component = fun_ext (λ x. agree (p.component x) (q.component x)
    (λ is. (q.reached x).1 ((p.reached x).0 is)) (λ is. (p.reached x).1 ((q.reached x).0 is))) in
    let greatest = greatest_once t (IsReached linked h) p.greatest q.greatest p.most q.most in
    p.chosen g
    ∙ ap (λ n. is_listed (take (3 * n + 1) (order_of hosts p.component)) g || (h == g)) greatest
    ∙ ap (λ c. is_listed (take (3 * q.greatest + 1) (order_of hosts c)) g || (h == g)) component
    ∙ sym (q.chosen g)

-- the guards of an epoch are one test
pub guards_once : (hosts : ℕ) (linked : ℕ → ℕ → Bool) (t : ℕ → ℕ) (given : Option (List Hosts)) (a b : ℕ → ℕ → Bool)
    → AreGuards hosts linked t given a → AreGuards hosts linked t given b → a ≡ b
guards_once hosts linked t (Some sets) a b p q = p ∙ sym q
guards_once hosts linked t None a b p q = fun_ext (λ h. fun_ext (λ g. elim (cases_lt h hosts) [
  | inl below ↦ planned_once hosts linked t h (a h) (b h) (p.0 h below) (q.0 h below) g
  | inr past ↦ p.1 h g past ∙ sym (q.1 h g past)
]))

-- ---- good guards have no fault

-- all numbers of a range are below its end
range_below : (a n m : ℕ) → a + n ≤ m → All (λ x. x < m) (range_with_len a n)
range_below a zero m low = All-nil (λ x. x < m)
range_below a (suc n) m low =
    All-cons (λ x. x < m) a (range_with_len (a + 1) n) (omega (arith, low)) (range_below (a + 1) n m (omega (arith, low)))

-- what holds of all holds of the first of them
all_first : (P : ℕ → Type 0) (n : ℕ) (xs : List ℕ) → All P xs → All P (take n xs)
all_first P zero xs all = All-nil P
all_first P (suc n) [] all = All-nil P
all_first P (suc n) (x ∷ xs) all = All-cons P x (take n xs) (All-head P x xs all) (all_first P n xs (All-tail P x xs all))

-- what holds of all holds of one that is listed
listed_has : (P : ℕ → Type 0) (g : ℕ) (xs : List ℕ) → All P xs → list_any (λ m. m == g) xs ≡ true → P g
listed_has P g [] all is = absurd (cc)
listed_has P g (x ∷ xs) all is = by (x == g) refl is (λ rest. listed_has P g xs (All-tail P x xs all) rest)
  where
    by : (b : Bool) → (x == g) ≡ b → (b || list_any (λ m. m == g) xs) ≡ true → (list_any (λ m. m == g) xs ≡ true → P g) → P g
    by true same e later = subst P (eqb-true x g same) (All-head P x xs all)
    by false other e later = later e

-- planned guards are hosts
planned_below : (hosts : ℕ) (linked : ℕ → ℕ → Bool) (t : ℕ → ℕ) (h : ℕ) (guards : ℕ → Bool) → h < hosts
    → IsPlanned hosts linked t h guards → (g : ℕ) → guards g ≡ true → g < hosts
unfolding is_listed hosts_passing
planned_below hosts linked t h guards low p g is =
    by (list_any (λ m. m == g) (take (3 * p.greatest + 1) (order_of hosts p.component))) refl (sym (p.chosen g) ∙ is)
  where
    P : ℕ → Type 0
    P x = x < hosts

    below : All P (order_of hosts p.component)
    below = All-append P (hosts_passing p.component hosts) (hosts_passing (λ x. not (p.component x)) hosts)
        (All-filter p.component P (range_with_len 0 hosts) (range_below 0 hosts hosts (omega arith)))
        (All-filter (λ x. not (p.component x)) P (range_with_len 0 hosts) (range_below 0 hosts hosts (omega arith)))

    by : (b : Bool) → list_any (λ m. m == g) (take (3 * p.greatest + 1) (order_of hosts p.component)) ≡ b → (b || (h == g)) ≡ true → P g
    by true among e = listed_has P g (take (3 * p.greatest + 1) (order_of hosts p.component)) (all_first P (3 * p.greatest + 1) (order_of hosts p.component) below) among
    by false among e = subst P (eqb-true h g e) low

-- a test that only numbers below m pass counts at most m
count_bounded : (p : ℕ → Bool) (m n : ℕ) → ((g : ℕ) → p g ≡ true → g < m) → (count_below p n ≤ m) × (count_below p n ≤ n)
count_bounded p m zero low = let none = count_below-zero p in (omega (arith, none), omega (arith, none))
count_bounded p m (suc n) low = by (p n) refl (count_bounded p m n low)
  where
    by : (b : Bool) → p n ≡ b → (count_below p n ≤ m) × (count_below p n ≤ n) → (count_below p (suc n) ≤ m) × (count_below p (suc n) ≤ suc n)
    by true is before =
        let more : count_below p (suc n) ≡ count_below p n + 1 = count_below-suc p n ∙ ap (λ b. count_below p n + cond b 1 0) is in
        let within = low n is in
        let few = before.1 in
        (omega (arith, more, within, few), omega (arith, more, few))
    by false is before =
        let same : count_below p (suc n) ≡ count_below p n + 0 = count_below-suc p n ∙ ap (λ b. count_below p n + cond b 1 0) is in
        let few = before.0 in
        let less = before.1 in
        (omega (arith, same, few), omega (arith, same, less))

-- hosts that pass such a test are at most m
hosts_bounded : (p : ℕ → Bool) (m : ℕ) → ((g : ℕ) → p g ≡ true → g < m) → hosts_with p ≤ m
unfolding hosts_with
hosts_bounded p m low = (count_bounded p m 32 low).0

-- where good guards are planned, nothing keeps from planning
planned_clean : (hosts : ℕ) (linked : ℕ → ℕ → Bool) (t : ℕ → ℕ) (credit : ℕ) (guards : ℕ → ℕ → Bool) (fault : PlanFault)
    → AreGuards hosts linked t None guards → IsGood hosts linked t credit guards → IsPlanFault hosts linked t credit fault → ⊥
planned_clean hosts linked t credit guards (TooFewHosts n need) planned good found =
    let few = found.1 in
    let h = few.most.host in
    let low = few.most.is in
    let many = good.many h low in
    let bound = hosts_bounded (guards h) hosts (planned_below hosts linked t h (guards h) low (planned.0 h low)) in
    let same = few.most.same in
    let needs = few.needs in
    let less = few.few in
    omega (arith, many, bound, same, needs, less)
planned_clean hosts linked t credit guards (CreditTooSmall h limit degree) planned good found =
    let near = good.near h found.1 in
    let is = found.3 in
    let more = found.4 in
    omega (arith, near, is, more)

-- a good host has no fault
clean_host : (linked : ℕ → ℕ → Bool) (t : ℕ → ℕ) (credit : ℕ) (guards : ℕ → ℕ → Bool) (h : ℕ) (fault : GuardFault)
    → guards h h ≡ true → 3 * t h + 1 ≤ hosts_with (guards h) → hosts_with (linked h) ≤ credit
    → fault_of_host linked t credit guards h ≡ Some fault → ⊥
clean_host linked t credit guards h fault own many near e = grind arith

-- nor has a good link
clean_link : (linked : ℕ → ℕ → Bool) (t : ℕ → ℕ) (guards : ℕ → ℕ → Bool) (p h : ℕ) (fault : GuardFault)
    → (linked p h ≡ true → 2 * max (t p) (t h) + 1 ≤ shared_guards guards p h)
    → fault_of_link linked t guards p h ≡ Some fault → ⊥
clean_link linked t guards p h fault enough e = grind arith

-- good guards have no first fault
good_clean : (hosts : ℕ) (linked : ℕ → ℕ → Bool) (t : ℕ → ℕ) (credit : ℕ) (guards : ℕ → ℕ → Bool) (fault : GuardFault)
    → IsGood hosts linked t credit guards → IsFirstFault hosts linked t credit guards fault → ⊥
good_clean hosts linked t credit guards fault good (inl first) =
    let h = first.host in
    clean_host linked t credit guards h fault (good.own h first.within) (good.many h first.within) (good.near h first.within) first.found
good_clean hosts linked t credit guards fault good (inr first) =
    let p = first.1.lower in
    let h = first.1.here.higher in
    clean_link linked t guards p h fault (good.shared p h) first.1.here.found

-- where the guards of an epoch are good there is no fault
pub no_fault : (hosts : ℕ) (linked : ℕ → ℕ → Bool) (t : ℕ → ℕ) (credit : ℕ) (given : Option (List Hosts)) (guards : ℕ → ℕ → Bool)
    (fault : EpochFault) → AreGuards hosts linked t given guards → IsGood hosts linked t credit guards
    → IsFaultOf hosts linked t credit given fault → ⊥
no_fault hosts linked t credit None guards (Unplanned fault) are good found = planned_clean hosts linked t credit guards fault are good found
no_fault hosts linked t credit None guards (NotGood fault) are good found = found
no_fault hosts linked t credit (Some sets) guards (Unplanned fault) are good found = found
no_fault hosts linked t credit (Some sets) guards (NotGood fault) are good found =
    good_clean hosts linked t credit (listed sets) fault (subst (IsGood hosts linked t credit) are good) found

-- ---- a fault that is told is one

-- of two places that are first of a kind neither is before the other
first_place : (a b : ℕ) → (a < b → ⊥) → (b < a → ⊥) → a ≡ b
first_place a b not_less not_more = elim (cases_lt a b) [
  | inl less ↦ absurd (not_less less)
  | inr up ↦ elim (cases_eq a b) [
    | inl same ↦ same
    | inr other ↦ absurd (not_more (omega (arith, up, other)))
  ]
]

-- what is found is one
found_once : (a b : Option GuardFault) (x y : GuardFault) → a ≡ b → a ≡ Some x → b ≡ Some y → x ≡ y
found_once a b x y same p q = let e = sym p ∙ same ∙ q in cc

-- the first fault of hosts
hosts_fault_once : (hosts : ℕ) (linked : ℕ → ℕ → Bool) (t : ℕ → ℕ) (credit : ℕ) (guards : ℕ → ℕ → Bool) (x y : GuardFault)
    → IsFirstOfHosts hosts linked t credit guards x → IsFirstOfHosts hosts linked t credit guards y → x ≡ y
hosts_fault_once hosts linked t credit guards x y p q =
    let same = first_place p.host q.host (λ less. let e = sym p.found ∙ q.first p.host less in absurd (cc))
    (λ less. let e = sym q.found ∙ p.first q.host less in absurd (cc)) in
    found_once _ _ x y (ap (fault_of_host linked t credit guards) same) p.found q.found

-- the first fault of links
links_fault_once : (hosts : ℕ) (linked : ℕ → ℕ → Bool) (t : ℕ → ℕ) (guards : ℕ → ℕ → Bool) (x y : GuardFault)
    → IsFirstOfLinks hosts linked t guards x → IsFirstOfLinks hosts linked t guards y → x ≡ y
links_fault_once hosts linked t guards x y p q =
    let lower = first_place p.lower q.lower
    (λ less. let e = sym p.here.found ∙ q.first p.lower p.here.higher less p.here.above p.here.within in absurd (cc))
    (λ less. let e = sym q.here.found ∙ p.first q.lower q.here.higher less q.here.above q.here.within in absurd (cc)) in
    by q.lower lower q.here
  where
    by : (l : ℕ) → p.lower ≡ l → IsFirstOfLinksFrom hosts linked t guards l y → x ≡ y
    by l lower here =
        let there = subst (λ n. IsFirstOfLinksFrom hosts linked t guards n y) (sym lower) here in
        let higher = first_place p.here.higher there.higher
        (λ less. let e = sym p.here.found ∙ there.first p.here.higher p.here.above less in absurd (cc))
        (λ less. let e = sym there.found ∙ p.here.first there.higher there.above less in absurd (cc)) in
        found_once _ _ x y (ap (fault_of_link linked t guards p.lower) higher) p.here.found there.found

-- the first fault of guards
first_fault_once : (hosts : ℕ) (linked : ℕ → ℕ → Bool) (t : ℕ → ℕ) (credit : ℕ) (guards : ℕ → ℕ → Bool) (x y : GuardFault)
    → IsFirstFault hosts linked t credit guards x → IsFirstFault hosts linked t credit guards y → x ≡ y
first_fault_once hosts linked t credit guards x y (inl p) (inl q) = hosts_fault_once hosts linked t credit guards x y p q
first_fault_once hosts linked t credit guards x y (inl p) (inr q) = let e = sym p.found ∙ q.0 p.host p.within in absurd (cc)
first_fault_once hosts linked t credit guards x y (inr p) (inl q) = let e = sym q.found ∙ p.0 q.host q.within in absurd (cc)
first_fault_once hosts linked t credit guards x y (inr p) (inr q) = links_fault_once hosts linked t guards x y p.1 q.1

-- too few hosts are not enough
too_few_not_enough : (hosts need : ℕ) (t : ℕ → ℕ) → IsTooFew hosts t need → AreEnough hosts t → ⊥
too_few_not_enough hosts need t few enough =
    let has = enough few.most.host few.most.is in
    let same = few.most.same in
    let needs = few.needs in
    let less = few.few in
    omega (arith, has, same, needs, less)

-- the fault of the planner
plan_fault_once : (hosts : ℕ) (linked : ℕ → ℕ → Bool) (t : ℕ → ℕ) (credit : ℕ) (x y : PlanFault)
    → IsPlanFault hosts linked t credit x → IsPlanFault hosts linked t credit y → x ≡ y
plan_fault_once hosts linked t credit (TooFewHosts n need) (TooFewHosts m needs) p q =
    let greatest = greatest_once t (λ h. h < hosts) p.1.greatest q.1.greatest p.1.most q.1.most in
    let same : n ≡ m = p.0 ∙ sym q.0 in
    let each : need ≡ needs = p.1.needs ∙ ap (λ g. 3 * g + 1) greatest ∙ sym q.1.needs in
    ap (λ x. TooFewHosts x need) same ∙ ap (TooFewHosts m) each
plan_fault_once hosts linked t credit (TooFewHosts n need) (CreditTooSmall h limit degree) p q = absurd (too_few_not_enough hosts need t p.1 q.0)
plan_fault_once hosts linked t credit (CreditTooSmall h limit degree) (TooFewHosts n need) p q = absurd (too_few_not_enough hosts need t q.1 p.0)
plan_fault_once hosts linked t credit (CreditTooSmall h limit degree) (CreditTooSmall g bound count) p q =
    let here : degree ≡ hosts_with (linked h) = p.3 in
    let there : count ≡ hosts_with (linked g) = q.3 in
    let same : h ≡ g = first_place h g
    (λ less. let few = q.5 h less in let more = p.4 in omega (arith, few, more, here))
    (λ less. let few = p.5 g less in let more = q.4 in omega (arith, few, more, there)) in
    let limits : limit ≡ bound = p.2 ∙ sym q.2 in
    let degrees : degree ≡ count = here ∙ ap (λ x. hosts_with (linked x)) same ∙ sym there in
    ap (λ x. CreditTooSmall x limit degree) same ∙ ap (λ x. CreditTooSmall g x degree) limits ∙ ap (CreditTooSmall g bound) degrees

-- the fault of an epoch
pub fault_once : (hosts : ℕ) (linked : ℕ → ℕ → Bool) (t : ℕ → ℕ) (credit : ℕ) (given : Option (List Hosts)) (x y : EpochFault)
    → IsFaultOf hosts linked t credit given x → IsFaultOf hosts linked t credit given y → x ≡ y
fault_once hosts linked t credit None (Unplanned x) (Unplanned y) p q = ap Unplanned (plan_fault_once hosts linked t credit x y p q)
fault_once hosts linked t credit None (Unplanned x) (NotGood y) p q = absurd q
fault_once hosts linked t credit None (NotGood x) y p q = absurd p
fault_once hosts linked t credit (Some sets) (Unplanned x) y p q = absurd p
fault_once hosts linked t credit (Some sets) (NotGood x) (Unplanned y) p q = absurd q
fault_once hosts linked t credit (Some sets) (NotGood x) (NotGood y) p q =
    ap NotGood (first_fault_once hosts linked t credit (listed sets) x y p q)

-- ---- liars

-- where liars are within the thresholds no host has too many
pub within_none : (hosts : ℕ) (t : ℕ → ℕ) (guards : ℕ → ℕ → Bool) (liars : Hosts) (fault : TooMany)
    → AreWithin hosts t guards liars → IsFirstTooMany hosts t guards liars fault → ⊥
within_none hosts t guards liars fault within first =
    let few = within fault.0 first.within in
    let count = first.count in
    let many = first.many in
    omega (arith, few, count, many)

-- the lowest host that has too many is one, and so is how many they are
pub too_many_once : (hosts : ℕ) (t : ℕ → ℕ) (guards : ℕ → ℕ → Bool) (liars : Hosts) (x y : TooMany)
    → IsFirstTooMany hosts t guards liars x → IsFirstTooMany hosts t guards liars y → (x.0 ≡ y.0) × (x.1 ≡ y.1)
too_many_once hosts t guards liars x y p q =
    let same : x.0 ≡ y.0 = first_place x.0 y.0
    (λ less. let few = q.first x.0 less in let count = p.count in let many = p.many in omega (arith, few, count, many))
    (λ less. let few = p.first y.0 less in let count = q.count in let many = q.many in omega (arith, few, count, many)) in
    (same, p.count ∙ ap (λ h. liars_among (guards h) liars) same ∙ sym q.count)
