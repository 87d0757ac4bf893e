-- Guards are good exactly where no host and no link has a fault.
use Rattle.std.proofs.Common.{◌≡◌, ℕ, ◌+◌, ◌*◌, ◌<◌, ◌≤◌, Bool, true, false, ◌&&◌, max, Some, None, Ok, Err, Result, IfOk, IfErr, IsOk, refl, sym, subst, ◌∙◌, inl, inr, arith}
use Rattle.std.proofs.lemmas.Bool.{cases_eq, cases_lt}
use Rattle.nys_hosts.specs.Counts.{hosts_with}
use Rattle.nys_hosts.proofs.CountLemmas.{hosts_with-same}
use Rattle.nys_graph.specs.Links.{IsGraph}
use Rattle.nys_guards.specs.Good.{IsGood, shared_guards}
use Rattle.nys_guards.specs.Faults.{fault_of_host, fault_of_link, IsFirstOfLinks}
use Rattle.nys_guards.specs.declared.fault.GuardFault.{GuardFault}

-- a host without fault has what a good one has
clean_host : (linked : ℕ → ℕ → Bool) (t : ℕ → ℕ) (credit : ℕ) (guards : ℕ → ℕ → Bool) (h : ℕ)
    → fault_of_host linked t credit guards h ≡ None
    → (guards h h ≡ true) × (3 * t h + 1 ≤ hosts_with (guards h)) × (hosts_with (linked h) ≤ credit)
clean_host linked t credit guards h e = grind arith

-- a link without fault shares enough guards
clean_link : (linked : ℕ → ℕ → Bool) (t : ℕ → ℕ) (guards : ℕ → ℕ → Bool) (p h : ℕ)
    → fault_of_link linked t guards p h ≡ None
    → linked p h ≡ true → 2 * max (t p) (t h) + 1 ≤ shared_guards guards p h
clean_link linked t guards p h e linked_is = grind arith

-- a link with a fault shares too few
faulty_link : (linked : ℕ → ℕ → Bool) (t : ℕ → ℕ) (guards : ℕ → ℕ → Bool) (p h : ℕ) (fault : GuardFault)
    → fault_of_link linked t guards p h ≡ Some fault → (linked p h ≡ true)
    × (shared_guards guards p h < 2 * max (t p) (t h) + 1)
faulty_link linked t guards p h fault e = grind arith

-- two hosts share the same guards whichever is named first
and_comm : (a b : Bool) → (a && b) ≡ (b && a)
and_comm true true = refl
and_comm true false = refl
and_comm false true = refl
and_comm false false = refl

shared_guards-turned : (guards : ℕ → ℕ → Bool) (p h : ℕ)
    → shared_guards guards p h ≡ shared_guards guards h p
shared_guards-turned guards p h =
    hosts_with-same (λ g. guards p g && guards h g) (λ g. guards h g && guards p g)
    (λ g below. and_comm (guards p g) (guards h g))

-- without a fault at a host or a link the guards are good
pub good_from_clean : (hosts : ℕ) (linked : ℕ → ℕ → Bool) (t : ℕ → ℕ) (credit : ℕ) (guards : ℕ → ℕ → Bool)
    → IsGraph hosts linked
    → ((h : ℕ) → h < hosts → fault_of_host linked t credit guards h ≡ None)
    → ((p h : ℕ) → p < h → h < hosts → fault_of_link linked t guards p h ≡ None)
    → IsGood hosts linked t credit guards
good_from_clean hosts linked t credit guards graph clean links = record {
  own = λ h below. (clean_host linked t credit guards h (clean h below)).0;
  many = λ h below. (clean_host linked t credit guards h (clean h below)).1;
  near = λ h below. (clean_host linked t credit guards h (clean h below)).2;
  shared = shared;
}
  where
    shared : (p h : ℕ) → linked p h ≡ true → 2 * max (t p) (t h) + 1 ≤ shared_guards guards p h
    shared p h link =
        let both = graph.within p h link in
        elim (cases_lt p h) [
          | inl less ↦ clean_link linked t guards p h (links p h less both.1) link
          | inr more ↦ elim (cases_eq p h) [
            | inl e ↦ absurd (let P : ℕ → Type 0 = λ x. linked p x ≡ true in
                let self : linked p p ≡ true = subst P (sym e) link in
                let no : true ≡ false = sym self ∙ graph.irreflexive p in cc)
            | inr ne ↦ omega (
              arith,
              shared_guards-turned guards p h,
              clean_link linked t guards h p (links h p (omega arith) both.0)
                  (graph.symmetric h p ∙ link),
            )
          ]
        ]

-- good guards have no fault at a link
pub ok_from_good : {T : Type 0} (hosts : ℕ) (linked : ℕ → ℕ → Bool) (t : ℕ → ℕ) (credit : ℕ)
    (guards : ℕ → ℕ → Bool) (result : Result T GuardFault)
    → IfErr result (IsFirstOfLinks hosts linked t guards) → IsGood hosts linked t credit guards
    → IsOk result
ok_from_good hosts linked t credit guards (Ok x) none good = refl
ok_from_good hosts linked t credit guards (Err fault) first good =
    absurd (let few = faulty_link linked t guards first.lower first.here.higher fault
    first.here.found in
    let enough = good.shared first.lower first.here.higher few.0 in omega (arith, few.1))

-- no answer without fault but the good ones
pub good_from_ok : {T : Type 0} (hosts : ℕ) (linked : ℕ → ℕ → Bool) (t : ℕ → ℕ) (credit : ℕ)
    (guards : ℕ → ℕ → Bool) (result : Result T GuardFault)
    → IsGraph hosts linked → ((h : ℕ) → h < hosts → fault_of_host linked t credit guards h ≡ None)
    → IfOk result (λ _. (p h : ℕ) → p < h → h < hosts → fault_of_link linked t guards p h ≡ None)
    → IsOk result → IsGood hosts linked t credit guards
good_from_ok hosts linked t credit guards
    (Ok x) graph clean links ok = good_from_clean hosts linked t credit guards graph clean links
good_from_ok hosts linked t credit guards (Err fault) graph clean links ok = absurd (cc)
