-- When a slot is supported, and how many slots in a row are.
use Rattle.std.proofs.Common.{◌≡◌, ℕ, zero, suc, ◌+◌, ◌<◌, ◌≤◌, ◌||◌, Bool, true, false, List, [], ◌∷◌, ◌++◌, length, Some, None, refl, ap, sym, subst, ◌∙◌, inl, inr, arith, append-nil}
use Rattle.std.specs.Prelude.{Contains, Option, cond, if◌then◌else◌, nat_lt}
use Rattle.std.specs.List.{list_any}
use Rattle.std.proofs.lemmas.Bool.Decides.{Decides-ltb}
use Rattle.std.proofs.lemmas.List.{append_assoc}
use Rattle.std.proofs.lemmas.List.Sums.{sum_by-append}
use Rattle.nys_bytes.specs.declared.content.Content.{Content}
use Rattle.nys_votes.proofs.ContentLemmas.{decide_contents}
use Rattle.nys_votes.specs.Contents.{same_content}
use Rattle.nys_rules.specs.Olympus.{OlympusView, Reported, reports_for, supported, supported_after, supported_from}
use Rattle.nys_rules.specs.Scope.{Scope}
use Rattle.nys_follows.proofs.FeedingWorlds.{low_or_not}

-- no content has more reports than may lie
abbrev AreFew : ℕ → List Reported → Type 0
AreFew t reports = (content : Content) → reports_for content reports ≤ t

-- one report more counts for its own content
one_report : (content : Content) (before : List Reported) (r : Reported)
    → reports_for content (before ++ r ∷ []) ≡ reports_for content before + cond (same_content content r.content) 1 0
one_report content before r =
    let both = sum_by-append (λ (x : Reported). cond (same_content content x.content) 1 0) before (r ∷ []) in
    let last : reports_for content (r ∷ []) ≡ cond (same_content content r.content) 1 0 = by (same_content content r.content) in
    omega (arith, both, last)
  where
    by : (b : Bool) → 0 + cond b 1 0 ≡ cond b 1 0
    by true = refl
    by false = refl

-- they are few still, where the last one's content is
few_more : (t : ℕ) (before : List Reported) (r : Reported) → AreFew t before
    → reports_for r.content (before ++ r ∷ []) ≤ t → AreFew t (before ++ r ∷ [])
few_more t before r few last content = by (same_content content r.content) refl
  where
    by : (b : Bool) → same_content content r.content ≡ b → reports_for content (before ++ r ∷ []) ≤ t
    by true is =
        subst (λ c. reports_for c (before ++ r ∷ []) ≤ t) (sym ((decide_contents content r.content).0 is)) last
    by false is =
        let one = one_report content before r in
        let none = ap {B = ℕ} (λ (b : Bool). cond b 1 0) is in
        let was = few content in omega (arith, one, none, was)

-- a content with more reports than may lie supports the slot, or another does
pub supported_some : (t : ℕ) (before coming : List Reported) → AreFew t before → (content : Content)
    → t < reports_for content (before ++ coming) → (other : Content) × (supported_after t before coming ≡ Some other)
supported_some t before [] few content many =
    let all : before ++ [] ≡ before = append-nil before in
    let was = few content in
    let same = ap (reports_for content) all in absurd (omega (arith, was, many, same))
supported_some t before (r ∷ coming) few content many =
    by (nat_lt t (reports_for r.content (before ++ r ∷ []))) refl
    (λ fewer. supported_some t (before ++ r ∷ []) coming (few_more t before r few fewer) content
    (subst (λ rs. t < reports_for content rs) (sym (append_assoc before (r ∷ []) coming)) many))
  where
    not_below : (a b : ℕ) → nat_lt a b ≡ false → b ≤ a
    not_below a b is = elim (low_or_not a b) [
      | inl low ↦ absurd (let yes = (Decides-ltb a b).1 low in let both = sym is ∙ yes in cc)
      | inr le ↦ le
    ]

    by : (b : Bool) → nat_lt t (reports_for r.content (before ++ r ∷ [])) ≡ b
        → (reports_for r.content (before ++ r ∷ []) ≤ t
        → (other : Content) × (supported_after t (before ++ r ∷ []) coming ≡ Some other))
        → (other : Content) × ((if b then Some r.content else supported_after t (before ++ r ∷ []) coming) ≡ Some other)
    by true is rest = (r.content, refl)
    by false is rest = rest (not_below t (reports_for r.content (before ++ r ∷ [])) is)

-- the contents from a slot on, by what supports the slot
abbrev supports_by : Option Content → List Content → List Content
supports_by None rest = []
supports_by (Some content) rest = content ∷ rest

-- so many slots in a row are supported as there are before the first that isn't
pub supported_run : {S : Type 0} (scope : Scope S) (o : OlympusView) (h n slot m : ℕ) → m ≤ n
    → ((i : ℕ) → i < m → (content : Content) × (supported scope o h (slot + i) ≡ Some content))
    → supported scope o h (slot + m) ≡ None → length (supported_from n scope o h slot) ≡ m
supported_run scope o h zero slot m le each bare = omega (arith, le)
supported_run {S} scope o h (suc n) slot zero le each bare =
    let here : slot + 0 ≡ slot = omega arith in
    by (supported scope o h slot) (ap (supported scope o h) (sym here) ∙ bare)
  where
    by : (some : Option Content) → some ≡ None → length (supports_by some (supported_from n scope o h (slot + 1))) ≡ 0
    by None is = refl
    by (Some c) is = absurd (cc)
supported_run {S} scope o h (suc n) slot (suc m) le each bare =
    let here : slot + 0 ≡ slot = omega arith in
    let first = each 0 (omega arith) in
    by (supported scope o h slot) first.0 (ap (supported scope o h) (sym here) ∙ first.1)
    (supported_run scope o h n (slot + 1) m (omega (arith, le))
    (λ i low.
    let at : slot + suc i ≡ slot + 1 + i = omega arith in
    subst (λ x. (content : Content) × (supported scope o h x ≡ Some content)) at (each (suc i) (omega (arith, low))))
    (let at : slot + suc m ≡ slot + 1 + m = omega arith in subst (λ x. supported scope o h x ≡ None) at bare))
  where
    by : (some : Option Content) (c : Content) → some ≡ Some c → length (supported_from n scope o h (slot + 1)) ≡ m
        → length (supports_by some (supported_from n scope o h (slot + 1))) ≡ suc m
    by None c is rest = absurd (cc)
    by (Some d) c is rest = omega (arith, rest)

-- an element that passes is found
pub found : {A : Type 0} (test : A → Bool) (xs : List A) (x : A) → Contains xs x → test x ≡ true → list_any test xs ≡ true
found test [] x among is = absurd (omega (arith, among.1))
found test (y ∷ xs) x (zero, lt, at) is = ap (λ b. b || list_any test xs) (ap test at ∙ is)
found test (y ∷ xs) x (suc n, lt, at) is =
    ap (λ b. test y || b) (found test xs x (n, omega (arith, lt), at) is) ∙ either (test y)
  where
    either : (b : Bool) → (b || true) ≡ true
    either true = refl
    either false = refl
