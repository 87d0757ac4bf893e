-- What supports a slot at the Olympus: more reports than may lie, each with what holds of all reports that are
-- kept for the slot.
use Rattle.std.proofs.Common.{◌≡◌, ◌≢◌, ℕ, zero, suc, ◌+◌, ◌<◌, ◌≤◌, ◌==◌, ◌&&◌, ◌||◌, Bool, true, false, List, [], ◌∷◌, ◌++◌, Some, None, refl, sym, subst, ◌∙◌, arith}
use Rattle.std.specs.Prelude.{All, AllPairs, Option, cond, if◌then◌else◌, nat_lt, slice_get}
use Rattle.std.specs.List.{list_any}
use Rattle.std.proofs.lemmas.Bool.Decides.{Decides-eqb, Decides-ltb}
use Rattle.std.proofs.lemmas.List.{append_assoc}
use Rattle.std.proofs.lemmas.List.Elements.{All-head, All-tail}
use Rattle.std.proofs.lemmas.List.Sums.{sum_by-append}
use Rattle.nys_bytes.specs.declared.content.Content.{Content}
use Rattle.nys_hosts.proofs.ListLemmas.{counts_entries}
use Rattle.nys_hosts.specs.Counts.{AtLeast}
use Rattle.nys_votes.proofs.ContentLemmas.{decide_contents}
use Rattle.nys_votes.specs.Contents.{same_content}
use Rattle.nys_rules.specs.Forged.{Entry}
use Rattle.nys_rules.specs.Olympus.{OlympusView, Reported, reports_for, supported, supported_after, supported_from}
use Rattle.nys_rules.specs.Scope.{Scope}
use Rattle.nys_rules.specs.World.{Setting}
use Rattle.nys_rules.proofs.CertificateLemmas.{both_true}
use Rattle.nys_laws.specs.SetUp.{IsSetUp}
use Rattle.nys_laws.specs.Testimony.{HearsTestimony}

-- one of more reports
more_reports : (content : Content) (before coming : List Reported)
    → reports_for content before ≤ reports_for content (before ++ coming)
more_reports content before coming =
    let both = sum_by-append (λ (r : Reported). cond (same_content content r.content) 1 0) before coming in omega (arith, both)

-- a content that supports a slot has more reports than may lie
supported_counts : (t : ℕ) (before coming : List Reported) (content : Content)
    → supported_after t before coming ≡ Some content → t < reports_for content (before ++ coming)
supported_counts t before [] content e = absurd (cc)
supported_counts t before (r ∷ coming) content e =
    by (nat_lt t (reports_for r.content (before ++ r ∷ []))) refl e
    (λ later. supported_counts t (before ++ r ∷ []) coming content later)
  where
    all : (before ++ r ∷ []) ++ coming ≡ before ++ r ∷ coming
    all = append_assoc before (r ∷ []) coming

    by : (b : Bool) → nat_lt t (reports_for r.content (before ++ r ∷ [])) ≡ b
        → (if b then Some r.content else supported_after t (before ++ r ∷ []) coming) ≡ Some content
        → (supported_after t (before ++ r ∷ []) coming ≡ Some content
        → t < reports_for content ((before ++ r ∷ []) ++ coming))
        → t < reports_for content (before ++ r ∷ coming)
    by true is e later =
        let same : r.content ≡ content = cc in
        let enough = (Decides-ltb t (reports_for r.content (before ++ r ∷ []))).0 is in
        let more = more_reports r.content (before ++ r ∷ []) coming in
        subst (λ c. t < reports_for c (before ++ r ∷ coming)) same
        (subst (λ rs. t < reports_for r.content rs) all (omega (arith, enough, more)))
    by false is e later = subst (λ rs. t < reports_for content rs) all (later e)

-- what is found in a list in which a fact holds of all
found_in : {A : Type 0} (P : A → Type 0) (test : A → Bool) (xs : List A) → All P xs → list_any test xs ≡ true
    → (x : A) × P x × (test x ≡ true)
found_in P test [] all e = absurd (cc)
found_in {A} P test (x ∷ xs) all e =
    by (test x) refl e (λ later. found_in P test xs (All-tail P x xs all) later)
  where
    by : (b : Bool) → test x ≡ b → (b || list_any test xs) ≡ true
        → (list_any test xs ≡ true → (y : A) × P y × (test y ≡ true)) → (y : A) × P y × (test y ≡ true)
    by true is e rest = (x, All-head P x xs all, is)
    by false is e rest = rest e

-- all who reported for a slot are hosts
pub reporters_low : {S : Type 0} (setting : Setting S) → IsSetUp setting.scope → (ledger : List Entry) (o : OlympusView)
    (h slot : ℕ) → HearsTestimony setting ledger o → All (λ r. r.guard < 32) (o.reports h slot)
reporters_low setting set ledger o h slot k i d within =
    let r = k.reports h slot i d within in
    let host = set.hosts.guards o.epoch h _ r.stands.0 in
    let few = set.hosts.few in
    omega (arith, host, few)

-- a content that supports a slot has so many guards that reported it, each report with what holds of all
pub supported_makers : (P : Reported → Type 0) (t : ℕ) (reports : List Reported) (content : Content)
    → AllPairs (λ a b. a.guard ≢ b.guard) reports → All (λ r. r.guard < 32) reports → All P reports
    → supported_after t [] reports ≡ Some content
    → AtLeast (t + 1) (λ m. (r : Reported) × P r × (r.guard ≡ m) × (r.content ≡ content))
supported_makers P t reports content different low all e = record {
  makers = makers;
  each = each;
  enough =
      let many = supported_counts t [] reports content e in
      let counted = counts_entries (λ (r : Reported). r.guard) test reports different low in
      omega (arith, many, counted);
}
  where
    test : Reported → Bool
    test r = same_content content r.content

    makers : ℕ → Bool
    makers m = list_any (λ (r : Reported). test r && (r.guard == m)) reports

    each : (m : ℕ) → makers m ≡ true → (r : Reported) × P r × (r.guard ≡ m) × (r.content ≡ content)
    each m is =
        let found = found_in P (λ r. test r && (r.guard == m)) reports all is in
        let parts = both_true (test found.0) (found.0.guard == m) found.2 in (
          found.0,
          found.1,
          (Decides-eqb found.0.guard m).0 parts.1,
          sym ((decide_contents content found.0.content).0 parts.0),
        )

-- the contents from a slot on, by what supports the slot
abbrev supports_by : Option Content → List Content → List Content
supports_by None rest = []
supports_by (Some content) rest = content ∷ rest

-- each content that supports slots in a row supports its slot
pub supported_entry : {S : Type 0} (scope : Scope S) (o : OlympusView) (h n slot i : ℕ) (content : Content)
    → slice_get (supported_from n scope o h slot) i ≡ Some content → supported scope o h (slot + i) ≡ Some content
supported_entry scope o h zero slot i content e = absurd (cc)
supported_entry {S} scope o h (suc n) slot i content e =
    by (supported scope o h slot) refl i (unrolled e) (λ j later. supported_entry scope o h n (slot + 1) j content later)
  where
    unrolled : slice_get (supported_from (suc n) scope o h slot) i ≡ Some content
        → slice_get (supports_by (supported scope o h slot) (supported_from n scope o h (slot + 1))) i ≡ Some content
    unrolled e = e

    by : (some : Option Content) → supported scope o h slot ≡ some → (i : ℕ)
        → slice_get (supports_by some (supported_from n scope o h (slot + 1))) i ≡ Some content
        → ((j : ℕ) → slice_get (supported_from n scope o h (slot + 1)) j ≡ Some content
        → supported scope o h (slot + 1 + j) ≡ Some content)
        → supported scope o h (slot + i) ≡ Some content
    by None is i e rest = absurd (cc)
    by (Some c) is zero e rest =
        let here : slot ≡ slot + 0 = omega arith in
        subst (λ s. supported scope o h s ≡ Some content) here (is ∙ e)
    by (Some c) is (suc j) e rest =
        let there : slot + 1 + j ≡ slot + suc j = omega arith in
        subst (λ s. supported scope o h s ≡ Some content) there (rest j e)
