-- What guards reported is in range, and so is what follows a decided log.
use Rattle.std.proofs.Common.{◌≡◌, ℕ, zero, suc, ◌+◌, ◌≤◌, ◌==◌, ◌++◌, List, [], ◌∷◌, length, refl, subst, inl, inr, arith}
use Rattle.std.proofs.lemmas.Bool.{cases_lt, cond_both}
use Rattle.std.proofs.lemmas.List.Elements.{All-cons, All-head, All-nil, All-push, All-tail}
use Rattle.std.specs.Prelude.{All, fold, nat_lt, Option, Some, None}
use Rattle.std.specs.List.{list_any}
use Rattle.nys_bytes.specs.declared.content.Content.{Content}
use Rattle.nys_rules.specs.Olympus.{OlympusView, Reported, reports_for, supported, supported_after, supported_from, with_report}
use Rattle.nys_rules.specs.Scope.{Scope}
use Rattle.nys_stmt.specs.Ranges.{IsContentInRange}
use Rattle.nys_stmt.specs.declared.tags.Tags.{Tags}
use Rattle.nys_olympus.specs.Means.{IsSound}

-- reports of a content in range join reports in range
pub reports_in : (content : Content) → IsContentInRange content → (makers : List Tags) (reports : List Reported)
    → All (λ r. IsContentInRange r.content) reports → All (λ r. IsContentInRange r.content) (fold (with_report content) reports makers)
reports_in content range [] reports all = all
reports_in content range (m ∷ ms) reports all =
    reports_in content range ms (with_report content reports m)
    (cond_both (list_any (λ r. r.guard == m.maker) reports) reports (reports ++ record { guard = m.maker; content = content } ∷ [])
    (λ rs. All (λ r. IsContentInRange r.content) rs) (λ yes. all)
    (λ no. All-push (λ r. IsContentInRange r.content) reports (record { guard = m.maker; content = content }) all range))

-- what is supported was reported
pub supported_in : (t : ℕ) (before coming : List Reported) (content : Content) → All (λ r. IsContentInRange r.content) coming
    → supported_after t before coming ≡ Some content → IsContentInRange content
supported_in t before [] content all = λ is. absurd (cc)
supported_in t before (r ∷ coming) content all =
    cond_both (nat_lt t (reports_for r.content (before ++ r ∷ []))) (Some r.content) (supported_after t (before ++ r ∷ []) coming)
    (λ o. o ≡ Some content → IsContentInRange content)
    (λ yes same. subst IsContentInRange (some_same same) (All-head (λ x. IsContentInRange x.content) r coming all))
    (λ no same. supported_in t (before ++ r ∷ []) coming content (All-tail (λ x. IsContentInRange x.content) r coming all) same)
  where
    some_same : {x y : Content} → Some x ≡ Some y → x ≡ y
    some_same e = cc

-- so is all that follows
pub follows_in : {S : Type 0} (n : ℕ) (scope : Scope S) (o : OlympusView) (h slot : ℕ) → IsSound o → All IsContentInRange (supported_from n scope o h slot)
unfolding supported
follows_in zero scope o h slot sound = All-nil IsContentInRange
follows_in (suc n) scope o h slot sound = go (supported_after (scope.t o.epoch h) [] (o.reports h slot)) refl (follows_in n scope o h (slot + 1) sound)
  where
    go : (found : Option Content) → supported_after (scope.t o.epoch h) [] (o.reports h slot) ≡ found → All IsContentInRange (supported_from n scope o h (slot + 1))
        → All IsContentInRange (supported_from (suc n) scope o h slot)
    go None e rest = rw e (All-nil IsContentInRange)
    go (Some content) e rest =
        rw e (All-cons IsContentInRange content (supported_from n scope o h (slot + 1)) (supported_in (scope.t o.epoch h) [] (o.reports h slot) content (sound.reports h slot) e) rest)

-- and no slot past the last is supported
pub follows_short : {S : Type 0} (n : ℕ) (scope : Scope S) (o : OlympusView) (h slot : ℕ) → IsSound o → slot ≤ 1024
    → slot + length (supported_from n scope o h slot) ≤ 1024
unfolding supported
follows_short zero scope o h slot sound few = omega (arith, few)
follows_short (suc n) scope o h slot sound few = elim (cases_lt slot 1024) [
  | inl below ↦ go (supported_after (scope.t o.epoch h) [] (o.reports h slot)) refl (follows_short n scope o h (slot + 1) sound (omega (arith, below)))
  | inr past ↦ rw (sound.past h slot past) (omega (arith, few))
]
  where
    go : (found : Option Content) → supported_after (scope.t o.epoch h) [] (o.reports h slot) ≡ found → slot + 1 + length (supported_from n scope o h (slot + 1)) ≤ 1024
        → slot + length (supported_from (suc n) scope o h slot) ≤ 1024
    go None e rest = rw e (omega (arith, few))
    go (Some content) e rest = rw e (omega (arith, rest))
