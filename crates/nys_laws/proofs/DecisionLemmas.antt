-- What the Olympus decides has its guards: more of them than may lie reported each content, and a quorum is
-- frozen where they end.
use Rattle.std.proofs.Common.{◌≡◌, ℕ, zero, suc, ◌+◌, ◌<◌, ◌≤◌, ◌==◌, ◌&&◌, ◌||◌, Bool, true, false, List, [], ◌∷◌, ◌++◌, length, Some, None, refl, ap, sym, subst, ◌∙◌, arith, leb-true}
use Rattle.std.specs.Prelude.{All, Option, cond, if◌then◌else◌, nat_le, nat_lt, slice_get}
use Rattle.std.specs.List.{list_any}
use Rattle.std.proofs.lemmas.Bool.Decides.{Decides-eqb, Decides-ltb}
use Rattle.std.proofs.lemmas.List.{append_assoc}
use Rattle.std.proofs.lemmas.List.Elements.{All-head, All-tail}
use Rattle.std.proofs.lemmas.List.Sums.{sum_by-append}
use Rattle.nys_bytes.specs.declared.content.Content.{Content}
use Rattle.nys_hosts.proofs.CountLemmas.{count_below-some}
use Rattle.nys_hosts.proofs.ListLemmas.{counts_entries}
use Rattle.nys_hosts.specs.Counts.{AtLeast, hosts_with}
use Rattle.nys_stmt.specs.declared.statement.Body.TheVariants as body
use Rattle.nys_stmt.specs.declared.statement.FilledKind.TheVariants as kind
use Rattle.nys_votes.proofs.ContentLemmas.{decide_contents}
use Rattle.nys_votes.proofs.SeatLemmas.{counts_seats}
use Rattle.nys_votes.specs.Contents.{same_content}
use Rattle.nys_votes.specs.Meaning.{Holds}
use Rattle.nys_rules.specs.declared.decision.Decision.TheVariants as decide
use Rattle.nys_rules.specs.Forged.{Entry}
use Rattle.nys_rules.specs.Olympus.{Decides, first_bare, frozen_at, OlympusView, open_decision, Reported, reports_for, supported, supported_after, supported_from, supports}
use Rattle.nys_rules.specs.Scope.{quorum_at, Scope}
use Rattle.nys_rules.specs.World.{Setting, World}
use Rattle.nys_rules.proofs.CertificateLemmas.{both_true}
use Rattle.nys_laws.specs.Epochs.{FollowsHistory, History}
use Rattle.nys_laws.specs.SetUp.{IsSetUp}
use Rattle.nys_laws.specs.Testimony.{HearsTestimony, IsTrueFrozen, IsTrueReport, RestsOnGuards}
use Rattle.nys_laws.specs.Vouched.{IsFrozenAt, IsVouched}
use Rattle.nys_laws.proofs.HistoryLemmas.{differ}
use Rattle.nys_laws.proofs.OlympusLemmas.{decided_pending, IsPending}

-- one of more reports
more_reports : (content : Content) (before coming : List Reported)
    → reports_for content before ≤ reports_for content (before ++ coming)
more_reports content before coming =
    let both = sum_by-append (λ (r : Reported). cond (same_content content r.content) 1 0) before coming in omega (arith, both)

-- a content that supports a slot has more reports than may lie
supported_counts : (t : ℕ) (before coming : List Reported) (content : Content)
    → supported_after t before coming ≡ Some content → t < reports_for content (before ++ coming)
supported_counts t before [] content e = absurd (cc)
supported_counts t before (r ∷ coming) content e =
    by (nat_lt t (reports_for r.content (before ++ r ∷ []))) refl e
    (λ later. supported_counts t (before ++ r ∷ []) coming content later)
  where
    all : (before ++ r ∷ []) ++ coming ≡ before ++ r ∷ coming
    all = append_assoc before (r ∷ []) coming

    by : (b : Bool) → nat_lt t (reports_for r.content (before ++ r ∷ [])) ≡ b
        → (if b then Some r.content else supported_after t (before ++ r ∷ []) coming) ≡ Some content
        → (supported_after t (before ++ r ∷ []) coming ≡ Some content
        → t < reports_for content ((before ++ r ∷ []) ++ coming))
        → t < reports_for content (before ++ r ∷ coming)
    by true is e later =
        let same : r.content ≡ content = cc in
        let enough = (Decides-ltb t (reports_for r.content (before ++ r ∷ []))).0 is in
        let more = more_reports r.content (before ++ r ∷ []) coming in
        subst (λ c. t < reports_for c (before ++ r ∷ coming)) same
        (subst (λ rs. t < reports_for r.content rs) all (omega (arith, enough, more)))
    by false is e later = subst (λ rs. t < reports_for content rs) all (later e)

-- what is found in a list in which a fact holds of all
found_in : {A : Type 0} (P : A → Type 0) (test : A → Bool) (xs : List A) → All P xs → list_any test xs ≡ true
    → (x : A) × P x × (test x ≡ true)
found_in P test [] all e = absurd (cc)
found_in {A} P test (x ∷ xs) all e =
    by (test x) refl e (λ later. found_in P test xs (All-tail P x xs all) later)
  where
    by : (b : Bool) → test x ≡ b → (b || list_any test xs) ≡ true
        → (list_any test xs ≡ true → (y : A) × P y × (test y ≡ true)) → (y : A) × P y × (test y ≡ true)
    by true is e rest = (x, All-head P x xs all, is)
    by false is e rest = rest e

-- a content that supports a slot has so many guards that stand for it
pub supported_stands : {S : Type 0} (setting : Setting S) → IsSetUp setting.scope → (ledger : List Entry) (o : OlympusView)
    (h slot : ℕ) (content : Content) → HearsTestimony setting ledger o → supported setting.scope o h slot ≡ Some content
    → AtLeast (setting.scope.t o.epoch h + 1) (IsVouched setting ledger o.epoch h (body.Filled kind.Report h slot content))
unfolding supported
supported_stands {S} setting set ledger o h slot content k e = record {
  makers = makers;
  each = each;
  enough =
      let many = supported_counts (setting.scope.t o.epoch h) [] reports content e in
      let counted = counts_entries (λ (r : Reported). r.guard) test reports (k.different h slot) low in
      omega (arith, many, counted);
}
  where
    reports : List Reported
    reports = o.reports h slot

    test : Reported → Bool
    test r = same_content content r.content

    makers : ℕ → Bool
    makers m = list_any (λ (r : Reported). test r && (r.guard == m)) reports

    low : All (λ (r : Reported). r.guard < 32) reports
    low i d within =
        let r = k.reports h slot i d within in
        let host = set.hosts.guards o.epoch h _ r.stands.0 in
        let few = set.hosts.few in
        omega (arith, host, few)

    each : (m : ℕ) → makers m ≡ true → IsVouched setting ledger o.epoch h (body.Filled kind.Report h slot content) m
    each m is =
        let found = found_in (IsTrueReport setting ledger o.epoch (o.base h) h slot) (λ r. test r && (r.guard == m)) reports
        (k.reports h slot) is in
        let parts = both_true (test found.0) (found.0.guard == m) found.2 in
        subst (λ x. IsVouched setting ledger o.epoch h (body.Filled kind.Report h slot content) x) ((Decides-eqb found.0.guard m).0 parts.1)
        (subst (λ c. IsVouched setting ledger o.epoch h (body.Filled kind.Report h slot c) found.0.guard)
        (sym ((decide_contents content found.0.content).0 parts.0)) found.1.stands)

-- the contents from a slot on, by what supports the slot
abbrev supports_by : Option Content → List Content → List Content
supports_by None rest = []
supports_by (Some content) rest = content ∷ rest

-- each content that supports slots in a row supports its slot
supported_entry : {S : Type 0} (scope : Scope S) (o : OlympusView) (h n slot i : ℕ) (content : Content)
    → slice_get (supported_from n scope o h slot) i ≡ Some content → supported scope o h (slot + i) ≡ Some content
supported_entry scope o h zero slot i content e = absurd (cc)
supported_entry {S} scope o h (suc n) slot i content e =
    by (supported scope o h slot) refl i (unrolled e) (λ j later. supported_entry scope o h n (slot + 1) j content later)
  where
    unrolled : slice_get (supported_from (suc n) scope o h slot) i ≡ Some content
        → slice_get (supports_by (supported scope o h slot) (supported_from n scope o h (slot + 1))) i ≡ Some content
    unrolled e = e

    by : (some : Option Content) → supported scope o h slot ≡ some → (i : ℕ)
        → slice_get (supports_by some (supported_from n scope o h (slot + 1))) i ≡ Some content
        → ((j : ℕ) → slice_get (supported_from n scope o h (slot + 1)) j ≡ Some content
        → supported scope o h (slot + 1 + j) ≡ Some content)
        → supported scope o h (slot + i) ≡ Some content
    by None is i e rest = absurd (cc)
    by (Some c) is zero e rest =
        let here : slot ≡ slot + 0 = omega arith in
        subst (λ s. supported scope o h s ≡ Some content) here (is ∙ e)
    by (Some c) is (suc j) e rest =
        let there : slot + 1 + j ≡ slot + suc j = omega arith in
        subst (λ s. supported scope o h s ≡ Some content) there (rest j e)

-- the decision where it is open: a quorum is frozen at the first slot that isn't supported
open_decided : {S : Type 0} (scope : Scope S) (o : OlympusView) (h len : ℕ) → open_decision scope o h ≡ decide.Decided len
    → (quorum_at scope o.epoch h ≤ frozen_at o h (first_bare scope o h)) × (len ≡ first_bare scope o h)
open_decided {S} scope o h len e = by (nat_le (quorum_at scope o.epoch h) (frozen_at o h (first_bare scope o h))) refl e
  where
    by : (b : Bool) → nat_le (quorum_at scope o.epoch h) (frozen_at o h (first_bare scope o h)) ≡ b
        → (if b then decide.Decided (first_bare scope o h)
        else decide.Undecided (first_bare scope o h) (frozen_at o h (first_bare scope o h))) ≡ decide.Decided len
        → (quorum_at scope o.epoch h ≤ frozen_at o h (first_bare scope o h)) × (len ≡ first_bare scope o h)
    by true is e = (leb-true (quorum_at scope o.epoch h) (frozen_at o h (first_bare scope o h)) is, cc)
    by false is e = absurd (cc)

-- guards that are frozen at a slot or an earlier one
abbrev FrozenBy : OlympusView → (h slot : ℕ) → ℕ → Type 0
FrozenBy o h slot = Holds (λ at. nat_le at slot) (o.frozen h)

-- of a quorum there is one
one_frozen : {S : Type 0} (scope : Scope S) (o : OlympusView) (h slot : ℕ) → AtLeast (quorum_at scope o.epoch h) (FrozenBy o h slot)
    → (m : ℕ) × FrozenBy o h slot m
unfolding quorum_at hosts_with
one_frozen scope o h slot many =
    let enough = many.enough in
    let one = count_below-some many.makers 32 (omega (arith, enough)) in
    (one.0, many.each one.0 one.2)

-- a quorum that is frozen stands for it
frozen_stands : {S : Type 0} (setting : Setting S) (ledger : List Entry) (o : OlympusView) (h slot n : ℕ)
    → HearsTestimony setting ledger o → AtLeast n (FrozenBy o h slot) → AtLeast n (IsFrozenAt setting ledger o.epoch h slot)
frozen_stands setting ledger o h slot n k many = record {
  makers = many.makers;
  each = λ m is.
      let holds = many.each m is in
      let f = k.frozen h m holds.0 holds.1 in
      (f.stands.0, λ truthful. (holds.0, leb-true holds.0 slot holds.2, f.stands.1 truthful));
  enough = many.enough;
}

-- a decision rests on what guards said
pub decision_rests : {S : Type 0} (setting : Setting S) → IsSetUp setting.scope → (history : History) (w : World)
    → FollowsHistory setting history w → HearsTestimony setting w.ledger w.olympus → (h len : ℕ) (after : OlympusView)
    → Decides setting.scope w.olympus h after (decide.Decided len) → RestsOnGuards setting history w h len
unfolding supports
decision_rests {S} setting set history w follows k h len after decides = record {
  may = record {
    host = f.host;
    ending = open_still.ending;
    open_still = open_still.open_still;
    kept = open_still.kept;
    lives = lives (history.retired w.olympus.epoch h) refl;
    supported = λ i content is.
        supported_stands setting set w.ledger w.olympus h (length (w.olympus.decided h) + i) content k
        (subst (λ b. supported setting.scope w.olympus h (b + i) ≡ Some content) (sym begins)
        (supported_entry setting.scope w.olympus h 1024 (w.olympus.base h) i content is));
    frozen =
        subst (λ b. AtLeast (quorum_at setting.scope w.olympus.epoch h) (IsFrozenAt setting w.ledger w.olympus.epoch h (b + length more)))
        (sym begins) (frozen_stands setting w.ledger w.olympus h (w.olympus.base h + length more)
        (quorum_at setting.scope w.olympus.epoch h) k many);
  };
  len_is = at.1 ∙ ap (λ b. b + length more) (sym begins);
}
  where
    more : List Content
    more = supported_from 1024 setting.scope w.olympus h (w.olympus.base h)

    told : IsPending w.olympus h × (open_decision setting.scope w.olympus h ≡ decide.Decided len)
    told = decided_pending setting.scope w.olympus h len (sym decides.told)

    open_still : IsPending w.olympus h
    open_still = told.0

    begins : length (w.olympus.decided h) ≡ w.olympus.base h
    begins = follows.top.undecided h open_still.open_still

    at : (quorum_at setting.scope w.olympus.epoch h ≤ frozen_at w.olympus h (w.olympus.base h + length more))
        × (len ≡ w.olympus.base h + length more)
    at = open_decided setting.scope w.olympus h len told.1

    many : AtLeast (quorum_at setting.scope w.olympus.epoch h) (FrozenBy w.olympus h (w.olympus.base h + length more))
    many = (counts_seats (λ slot. nat_le slot (w.olympus.base h + length more)) (w.olympus.frozen h)
        (quorum_at setting.scope w.olympus.epoch h) (k.seats h)).0 at.0

    one : (m : ℕ) × FrozenBy w.olympus h (w.olympus.base h + length more) m
    one = one_frozen setting.scope w.olympus h (w.olympus.base h + length more) many

    f : IsTrueFrozen setting w.ledger w.olympus.epoch h one.0 one.1.0
    f = k.frozen h one.0 one.1.0 one.1.1

    lives : (b : Bool) → history.retired w.olympus.epoch h ≡ b → history.retired w.olympus.epoch h ≡ false
    lives false is = is
    lives true is = differ (w.olympus.retired h) _ (follows.top.still h is) open_still.kept
