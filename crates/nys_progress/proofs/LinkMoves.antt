-- What a node knows of one number of a link stays while it is in its epoch: what others attest, what it attests
-- itself, and the head that it recorded for the link.
use Rattle.std.proofs.Common.{◌≡◌, ℕ, zero, suc, ◌+◌, ◌<◌, ◌≤◌, ◌==◌, ◌&&◌, Bool, true, false, ℤ, List, [], ◌∷◌, ◌++◌, length, map, Some, None, refl, ap, sym, subst, ◌∙◌, inl, inr, arith, get_or, le-leb, leb-true, length-append, lt-ltb, ltb-true}
use Rattle.std.specs.Prelude.{if◌then◌else◌, is_some, nat_le, nat_lt, Option, slice_get}
use Rattle.std.specs.List.{range_with_len}
use Rattle.std.specs.Option.{option_or}
use Rattle.std.proofs.lemmas.Bool.{cases_eq}
use Rattle.nys_agreement.proofs.AloneLemmas.{alone_keeps}
use Rattle.nys_agreement.proofs.TableLemmas.{put_at_case, put_case, put_here, put_there}
use Rattle.nys_agreement.specs.Alone.{alone}
use Rattle.nys_bytes.specs.declared.content.Content.{Content}
use Rattle.nys_source.specs.Rules.{Rules}
use Rattle.nys_source.specs.Tables.{put, put_at}
use Rattle.nys_votes.specs.Seats.{seat_of}
use Rattle.nys_stmt.specs.declared.records.Record.{Record}
use Rattle.nys_stmt.specs.declared.statement.Body.{Body}
use Rattle.nys_stmt.specs.declared.statement.Body.TheVariants as body
use Rattle.nys_stmt.specs.declared.statement.FilledKind.TheVariants as kind
use Rattle.nys_stmt.specs.declared.tags.Tags.{Tags}
use Rattle.nys_rules.specs.declared.kept.Attested.{Attested}
use Rattle.nys_rules.specs.declared.rule.Rule.{Rule}
use Rattle.nys_rules.specs.declared.rule.Rule.TheVariants.{Attest, Certificate, Deliver, Log, Offer, Order}
use Rattle.nys_rules.specs.Dropping.{accepted, misplaced, misplaced_body, untagged, verdict}
use Rattle.nys_rules.specs.Heads.{head, own_attest, payload_in, recorded, with_heads}
use Rattle.nys_rules.specs.Logging.{heads_after, logged, with_entry}
use Rattle.nys_rules.specs.Noting.{at_desk, hearing, noted, noted_body, with_attests, with_certificate, with_orders}
use Rattle.nys_rules.specs.Scope.{quorum_at, Scope}
use Rattle.nys_rules.specs.Taking.{one_more, taken, with_kept}
use Rattle.nys_rules.specs.View.{attested_from, entering, length_of, sent_to, View, with_links}
use Rattle.nys_rules.proofs.CertificateLemmas.{both_true}
use Rattle.nys_rules.proofs.SearchLemmas.{or_none}
use Rattle.nys_rules.proofs.SeatCases.{seats_keep}
use Rattle.nys_laws.proofs.ViewLemmas.{open_later}

-- ---- attestations

-- what is known of number k of p to h stays
pub record LinkStays {S : Type 0} (scope : Scope S) (p h k : ℕ) (v next : View) : Type 0 where
  pub me : next.me ≡ v.me
  pub heard : (m : ℕ) (y : List ℤ) → seat_of (v.heard p h k) m ≡ Some y → seat_of (next.heard p h k) m ≡ Some y
  pub own : (y : List ℤ) → own_attest scope v p h k ≡ Some y → own_attest scope next p h k ≡ Some y

-- in an epoch
abbrev pub LinkMoves : {S : Type 0} → Scope S → (p h k : ℕ) → View → View → Type 0
LinkMoves scope p h k v next = next.epoch ≡ v.epoch → LinkStays scope p h k v next

-- a number that is attested still is where more was sent and more numbers are attested
own_more : (k : ℕ) (sent more : List (List ℤ)) (o next : Option Attested) (y : List ℤ) → payload_in k sent o ≡ Some y
    → (slice_get sent k ≡ Some y → slice_get more k ≡ Some y)
    → ((range : Attested) → o ≡ Some range → (wider : Attested) × (next ≡ Some wider) × (wider.first ≡ range.first) × (range.next ≤ wider.next))
    → payload_in k more next ≡ Some y
own_more k sent more None next y is sends widens = absurd (cc)
own_more k sent more (Some range) next y is sends widens =
    by (nat_le range.first k && nat_lt k range.next) refl is
  where
    by : (b : Bool) → (nat_le range.first k && nat_lt k range.next) ≡ b → (if b then slice_get sent k else None) ≡ Some y
        → payload_in k more next ≡ Some y
    by false tests get = absurd (cc)
    by true tests get =
        let wide = widens range refl in
        let parts = both_true (nat_le range.first k) (nat_lt k range.next) tests in
        let low = leb-true range.first k parts.0 in
        let high = ltb-true k range.next parts.1 in
        let first = wide.2 in
        let end = wide.3 in
        subst (λ o. payload_in k more o ≡ Some y) (sym wide.1)
        (ap (λ (b : Bool). if b && nat_lt k wide.0.next then slice_get more k else None) (le-leb wide.0.first k (omega (arith, low, first)))
        ∙ (ap (λ (b : Bool). if b then slice_get more k else None) (lt-ltb k wide.0.next (omega (arith, high, end))) ∙ sends get))

-- what a log sent stays sent where a log takes an entry
sent_more : {S : Type 0} (rules : Rules S) (logs : ℕ → List Content) (x : ℕ) (c : Content) (p h k : ℕ) (y : List ℤ)
    → slice_get ((alone rules p (logs p)).sent p h) k ≡ Some y
    → slice_get ((alone rules p (put logs x (logs x ++ c ∷ []) p)).sent p h) k ≡ Some y
sent_more rules logs x c p h k y get =
    put_case (λ log. slice_get ((alone rules p log).sent p h) k ≡ Some y) logs x (logs x ++ c ∷ []) p
    (λ here. alone_keeps rules p (logs x) (c ∷ []) h k y
    (subst (λ z. slice_get ((alone rules p (logs z)).sent p h) k ≡ Some y) here get))
    (λ other. get)

-- a log that takes an entry
logged_links : {S : Type 0} (scope : Scope S) (p h k x : ℕ) (c : Content) (v mid : View) → mid.me ≡ v.me → mid.heard ≡ v.heard
    → mid.logs ≡ v.logs → mid.attested ≡ v.attested → LinkStays scope p h k v (logged scope x c mid)
unfolding logged with_heads with_links own_attest sent_to
logged_links {S} scope p h k x c v mid me heard logs attested = record {
  me = me;
  heard = λ m y get. subst (λ (f : ℕ → ℕ → ℕ → List (Option (List ℤ))). seat_of (f p h k) m ≡ Some y) (sym heard) get;
  own = λ y is.
      own_more k ((alone scope.rules p (v.logs p)).sent p h) _ (v.attested p h) _ y is
      (λ get.
      sent_more scope.rules mid.logs x c p h k y
      (subst (λ (f : ℕ → List Content). slice_get ((alone scope.rules p (f p)).sent p h) k ≡ Some y) (sym logs) get))
      (λ range at. (range, ap (λ o. option_or o (attested_from scope (with_entry x c mid) p h)) (ap (λ (f : ℕ → ℕ → Option Attested). f p h) attested ∙ at), refl, omega arith));
}

-- a number more of a link is attested
attest_links : {S : Type 0} (scope : Scope S) (p h k q x : ℕ) (v : View)
    → LinkStays scope p h k v (with_heads scope x (record v { attested = put_at v.attested q x (one_more (v.attested q x)) }))
unfolding with_heads own_attest sent_to
attest_links {S} scope p h k q x v = record {
  me = refl;
  heard = λ m y get. get;
  own = λ y is.
      own_more k ((alone scope.rules p (v.logs p)).sent p h) _ (v.attested p h) _ y is (λ get. get)
      (λ range at.
      put_at_case (λ o. (wider : Attested) × (o ≡ Some wider) × (wider.first ≡ range.first) × (range.next ≤ wider.next))
      v.attested q x (one_more (v.attested q x)) p h
      (λ a b.
      let here : v.attested q x ≡ Some range = subst (λ i. v.attested i x ≡ Some range) a (subst (λ i. v.attested p i ≡ Some range) b at) in
      (record range { next = range.next + 1 }, ap one_more here, refl, omega arith))
      (λ other. (range, at, refl, omega arith)));
}

-- each rule that is taken
pub rule_links : {S : Type 0} (scope : Scope S) (v : View) (rule : Rule) (p h k : ℕ) → LinkMoves scope p h k v (taken scope v rule)
unfolding own_attest sent_to
rule_links scope v (Offer x c) p h k epoch = record { me = refl; heard = λ m y get. get; own = λ y is. is }
rule_links scope v (Order x c) p h k epoch = record { me = refl; heard = λ m y get. get; own = λ y is. is }
rule_links scope v (Certificate x c) p h k epoch = record { me = refl; heard = λ m y get. get; own = λ y is. is }
rule_links scope v (Deliver x c) p h k epoch = record { me = refl; heard = λ m y get. get; own = λ y is. is }
rule_links scope v (Log x c) p h k epoch = logged_links scope p h k x c v (with_kept x c v) refl refl refl refl
rule_links scope v (Attest q x n y) p h k epoch = attest_links scope p h k q x v

-- attestations that are heard
heard_links : {S : Type 0} (scope : Scope S) (p h k q x n : ℕ) (payload : List ℤ) (makers : List Tags) (v : View)
    → LinkStays scope p h k v (with_heads scope x (with_attests q x n payload makers v))
unfolding with_heads with_attests own_attest sent_to
heard_links {S} scope p h k q x n payload makers v = record {
  me = refl;
  heard = λ m y get.
      put_case (λ (f : ℕ → ℕ → List (Option (List ℤ))). seat_of (f h k) m ≡ Some y) v.heard q
      (put_at (v.heard q) x n (hearing payload makers (v.heard q x n))) p
      (λ here.
      let at_q = subst (λ i. seat_of (v.heard i h k) m ≡ Some y) here get in
      put_at_case (λ seats. seat_of seats m ≡ Some y) (v.heard q) x n (hearing payload makers (v.heard q x n)) h k
      (λ a b.
      seats_keep (λ (t : Tags). t.maker) (λ (t : Tags). payload) makers (v.heard q x n) m y
      (subst (λ i. seat_of (v.heard q x i) m ≡ Some y) b (subst (λ i. seat_of (v.heard q i k) m ≡ Some y) a at_q)))
      (λ other. at_q))
      (λ ne. get);
  own = λ y is. is;
}

-- each kind of record
body_links : {S : Type 0} (scope : Scope S) (e : ℕ) (said : Body) (makers : List Tags) (v : View) (p h k : ℕ)
    → misplaced_body scope v e said ≡ None → LinkMoves scope p h k v (noted_body scope e said makers v)
unfolding own_attest sent_to entering with_links
body_links scope e (body.Filled kind.Offer x slot c) makers v p h k is epoch = record { me = refl; heard = λ m y get. get; own = λ y is. is }
body_links {S} scope e (body.Filled kind.Order x slot c) makers v p h k is epoch = by (v.me == x)
  where
    by : (b : Bool) → LinkStays scope p h k v (if b then at_desk x (with_orders c makers) v
        else at_desk x (with_certificate (quorum_at scope v.epoch x) c makers) v)
    by true = record { me = refl; heard = λ m y get. get; own = λ y is. is }
    by false = record { me = refl; heard = λ m y get. get; own = λ y is. is }
body_links scope e (body.Filled kind.Deliver x slot c) makers v p h k is epoch = record { me = refl; heard = λ m y get. get; own = λ y is. is }
body_links scope e (body.Filled kind.Report x slot c) makers v p h k is epoch = record { me = refl; heard = λ m y get. get; own = λ y is. is }
body_links scope e (body.Filled kind.Inherit x slot c) makers v p h k is epoch = logged_links scope p h k x c v v refl refl refl refl
body_links scope e (body.Attest q x n payload) makers v p h k is epoch = heard_links scope p h k q x n payload makers v
body_links scope e (body.Ask x slot) makers v p h k is epoch = record { me = refl; heard = λ m y get. get; own = λ y is. is }
body_links scope e body.Wedge makers v p h k is epoch = record { me = refl; heard = λ m y get. get; own = λ y is. is }
body_links scope e (body.Frozen x slot) makers v p h k is epoch = record { me = refl; heard = λ m y get. get; own = λ y is. is }
body_links scope e (body.Open lengths) makers v p h k is epoch = absurd
    (let later = open_later scope v e lengths is in omega (arith, epoch, later))

-- a record that isn't dropped
pub record_links : {S : Type 0} (scope : Scope S) (v : View) (r : Record) (p h k : ℕ) → verdict scope v r ≡ None
    → LinkMoves scope p h k v (noted scope v r)
unfolding verdict misplaced noted
record_links scope v r p h k is =
    let makers = accepted scope r.statement.epoch v.me r in
    body_links scope r.statement.epoch r.statement.body makers v p h k
    (or_none (misplaced_body scope v r.statement.epoch r.statement.body) (untagged makers) is).0

-- ---- heads

-- the head of the link from p that is recorded stays so while the log keeps its length in the epoch
abbrev pub HeadStays : (p h : ℕ) → (v next : View) → Type 0
HeadStays p h v next = next.epoch ≡ v.epoch → length_of next h ≡ length_of v h → (u : ℕ)
    → seat_of (v.heads h) p ≡ Some u → seat_of (next.heads h) p ≡ Some u

-- a value of a list of values
pub value_of : (f : ℕ → Option ℕ) (a n p : ℕ) → p < n → get_or (map f (range_with_len a n)) p None ≡ f (a + p)
value_of f a zero p low = absurd (omega (arith, low))
value_of f a (suc n) zero low = let same : a ≡ a + 0 = omega arith in ap f same
value_of f a (suc n) (suc p) low =
    let same : a + 1 + p ≡ a + suc p = omega arith in value_of f (a + 1) n p (omega (arith, low)) ∙ ap f same

-- a head that was recorded is still
pub recorded_stays : {S : Type 0} (scope : Scope S) (v : View) (h p u : ℕ) → seat_of (v.heads h) p ≡ Some u
    → recorded scope v h p ≡ Some u
recorded_stays scope v h p u at =
    ap (λ (o : Option ℕ). option_or o (if is_some (head scope v p h) then Some (length_of v h) else None)) at

-- heads that are recorded, of this host or another
with_heads_stay : {S : Type 0} (scope : Scope S) (p h x : ℕ) (v mid : View) → p < 32 → mid.heads h ≡ v.heads h
    → HeadStays p h v (with_heads scope x mid)
unfolding with_heads
with_heads_stay {S} scope p h x v mid low heads epoch long u at = elim (cases_eq h x) [
  | inl same ↦
      let here : seat_of (mid.heads x) p ≡ Some u = subst (λ y. seat_of (mid.heads y) p ≡ Some u) same (ap (λ hs. seat_of hs p) heads ∙ at) in
      let from_none : 0 + p ≡ p = omega arith in
      let values = put_here mid.heads x (map (recorded scope mid x) (range_with_len 0 32)) in
      subst (λ y. seat_of (put mid.heads x (map (recorded scope mid x) (range_with_len 0 32)) y) p ≡ Some u) (sym same)
      (ap (λ hs. seat_of hs p) values
      ∙ (value_of (recorded scope mid x) 0 32 p low
      ∙ (ap (recorded scope mid x) from_none ∙ recorded_stays scope mid x p u here)))
  | inr other ↦
      ap (λ hs. seat_of hs p) (put_there mid.heads x (map (recorded scope mid x) (range_with_len 0 32)) h other ∙ heads) ∙ at
]

-- a log that takes an entry, of this host or another
log_heads_stay : {S : Type 0} (scope : Scope S) (p h x : ℕ) (c : Content) (v mid : View) → mid.logs ≡ v.logs
    → mid.heads ≡ v.heads → HeadStays p h v (logged scope x c mid)
unfolding logged with_heads with_links
log_heads_stay scope p h x c v mid logs heads epoch long u at = elim (cases_eq h x) [
  | inl same ↦ absurd
      (let here = ap (λ (l : List Content). length l) (ap (put mid.logs x (mid.logs x ++ c ∷ [])) same ∙ put_here mid.logs x (mid.logs x ++ c ∷ [])) in
      let one = length-append (mid.logs x) (c ∷ []) in
      let was = ap (λ (f : ℕ → List Content). length (f h)) logs in
      let at_x = ap (λ y. length (mid.logs y)) same in
      omega (arith, here, one, was, at_x, long))
  | inr other ↦
      let after = put mid.heads x (heads_after c (mid.heads x)) in
      ap (λ (hs : List (Option ℕ)). seat_of hs p)
      (put_there after x _ h other ∙ (put_there mid.heads x (heads_after c (mid.heads x)) h other ∙ ap (λ (f : ℕ → List (Option ℕ)). f h) heads)) ∙ at
]

-- each rule that is taken
pub rule_heads_stay : {S : Type 0} (scope : Scope S) (v : View) (rule : Rule) (p h : ℕ) → p < 32
    → HeadStays p h v (taken scope v rule)
rule_heads_stay scope v (Offer x c) p h low = λ epoch long u at. at
rule_heads_stay scope v (Order x c) p h low = λ epoch long u at. at
rule_heads_stay scope v (Certificate x c) p h low = λ epoch long u at. at
rule_heads_stay scope v (Deliver x c) p h low = λ epoch long u at. at
rule_heads_stay scope v (Log x c) p h low = log_heads_stay scope p h x c v (with_kept x c v) refl refl
rule_heads_stay scope v (Attest q x n payload) p h low =
    with_heads_stay scope p h x v (record v { attested = put_at v.attested q x (one_more (v.attested q x)) }) low refl

-- each kind of record
body_heads_stay : {S : Type 0} (scope : Scope S) (e : ℕ) (said : Body) (makers : List Tags) (v : View) (p h : ℕ) → p < 32
    → misplaced_body scope v e said ≡ None → HeadStays p h v (noted_body scope e said makers v)
unfolding with_attests entering with_links
body_heads_stay scope e (body.Filled kind.Offer x slot c) makers v p h low is = λ epoch long u at. at
body_heads_stay {S} scope e (body.Filled kind.Order x slot c) makers v p h low is = by (v.me == x)
  where
    by : (b : Bool) → HeadStays p h v (if b then at_desk x (with_orders c makers) v
        else at_desk x (with_certificate (quorum_at scope v.epoch x) c makers) v)
    by true = λ epoch long u at. at
    by false = λ epoch long u at. at
body_heads_stay scope e (body.Filled kind.Deliver x slot c) makers v p h low is = λ epoch long u at. at
body_heads_stay scope e (body.Filled kind.Report x slot c) makers v p h low is = λ epoch long u at. at
body_heads_stay scope e (body.Filled kind.Inherit x slot c) makers v p h low is = log_heads_stay scope p h x c v v refl refl
body_heads_stay scope e (body.Attest q x n payload) makers v p h low is =
    with_heads_stay scope p h x v (with_attests q x n payload makers v) low refl
body_heads_stay scope e (body.Ask x slot) makers v p h low is = λ epoch long u at. at
body_heads_stay scope e body.Wedge makers v p h low is = λ epoch long u at. at
body_heads_stay scope e (body.Frozen x slot) makers v p h low is = λ epoch long u at. at
body_heads_stay scope e (body.Open lengths) makers v p h low is = λ epoch long u at.
    absurd (let later = open_later scope v e lengths is in omega (arith, later, epoch))

-- a record that isn't dropped
pub record_heads_stay : {S : Type 0} (scope : Scope S) (v : View) (r : Record) (p h : ℕ) → p < 32 → verdict scope v r ≡ None
    → HeadStays p h v (noted scope v r)
unfolding verdict misplaced noted
record_heads_stay scope v r p h low is =
    let makers = accepted scope r.statement.epoch v.me r in
    body_heads_stay scope r.statement.epoch r.statement.body makers v p h low
    (or_none (misplaced_body scope v r.statement.epoch r.statement.body) (untagged makers) is).0
