-- The thresholds of an epoch, as a table.
use Rattle.std.proofs.Common.{◌≡◌, ℕ, ◌+◌, ◌<◌, ◌≤◌, Bool, true, false, nat_lt, List, length, replicate, get_or, slice_set, if◌then◌else◌, Option, Some, None, sym, ap, subst, ◌∙◌, inl, inr, arith}
use Rattle.std.specs.Prelude.{All, IfSome}
use Rattle.std.proofs.lemmas.Bool.{cases_eq, cases_lt, le-ltb, lt-ltb}
use Rattle.std.proofs.lemmas.List.{get_or_past, get_or-replicate, get_or-set_other, get_or-set_same, length-replicate}
use Rattle.nys_hosts.specs.declared.limits.TheConstants.{MAX_T}
use Rattle.nys_guards.specs.Good.{AreThresholds, threshold_in}
use Rattle.nys_guard_commands.specs.Graphs.{thresholds_by}

-- at first each is 0
pub level_none : (t k : ℕ) → threshold_in (replicate 32 0) k ≡ (if nat_lt k 0 then t else 0)
unfolding threshold_in
level_none t k =
    rw (le-ltb k 0 (omega arith)) (elim (cases_lt k 32) [
      | inl within ↦ get_or-replicate 32 k 0 0 within
      | inr past ↦ get_or_past (replicate 32 0) k 0 (omega (arith, length-replicate {A = ℕ} 32 0))
    ])

-- one host more has the threshold
pub level_more : (table : List ℕ) (t h : ℕ) → h < length table
    → ((k : ℕ) → threshold_in table k ≡ (if nat_lt k h then t else 0))
    → (k : ℕ) → threshold_in (slice_set table h t) k ≡ (if nat_lt k (h + 1) then t else 0)
unfolding threshold_in
level_more table t h within before k = elim (cases_eq h k) [
  | inl here ↦ subst (λ x. get_or (slice_set table h t) x 0 ≡ (if nat_lt x (h + 1) then t else 0)) here
      (rw (lt-ltb h (h + 1) (omega arith)) (get_or-set_same table h t 0 within))
  | inr other ↦ get_or-set_other table h k t 0 (λ e. other (sym e)) ∙ before k
      ∙ ap (λ b. if b then t else 0) (elim (cases_lt k h) [
        | inl less ↦ lt-ltb k h less ∙ sym (lt-ltb k (h + 1) (omega arith))
        | inr more ↦ le-ltb k h more ∙ sym (le-ltb k (h + 1) (omega arith))
      ])
]

-- thresholds that an epoch gives are small where each is at most the epoch's, which is
pub given_small : (t : ℕ) (own : List ℕ) → t ≤ MAX_T → All (λ x. x ≤ t) own → AreThresholds own
unfolding threshold_in
given_small t own few all k = elim (cases_lt k (length own)) [
  | inl within ↦ omega (arith, few, all k 0 within)
  | inr past ↦ omega (arith, get_or_past own k 0 past)
]

-- so are the thresholds of an epoch
pub thresholds_small : (hosts t : ℕ) (given : Option (List ℕ)) → t ≤ MAX_T
    → IfSome given (All (λ x. x ≤ t)) → (h : ℕ) → thresholds_by hosts t given h ≤ MAX_T
thresholds_small hosts t (Some own) few all h = given_small t own few all h
thresholds_small hosts t None few all h = either (nat_lt h hosts)
  where
    either : (b : Bool) → (if b then t else 0) ≤ MAX_T
    either true = few
    either false = omega arith
