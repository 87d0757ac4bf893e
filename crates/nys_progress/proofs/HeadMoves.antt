-- Which heads of links a step of a node records: while a log keeps its length none but at that length.
use Rattle.std.proofs.Common.{◌≡◌, ℕ, zero, suc, ◌+◌, ◌⊎◌, ◌==◌, Bool, true, false, List, [], ◌∷◌, ◌++◌, length, map, Some, None, refl, ap, sym, subst, ◌∙◌, inl, inr, arith, length-append, get_or}
use Rattle.std.specs.Prelude.{if◌then◌else◌, is_some, Option}
use Rattle.std.specs.List.{range_with_len}
use Rattle.std.proofs.lemmas.Bool.{cases_eq}
use Rattle.nys_agreement.proofs.TableLemmas.{put_here, put_there}
use Rattle.nys_bytes.specs.declared.content.Content.{Content}
use Rattle.nys_source.specs.Tables.{put, put_at}
use Rattle.nys_stmt.specs.declared.records.Record.{Record}
use Rattle.nys_stmt.specs.declared.statement.Body.{Body}
use Rattle.nys_stmt.specs.declared.statement.Body.TheVariants as body
use Rattle.nys_stmt.specs.declared.statement.FilledKind.TheVariants as kind
use Rattle.nys_stmt.specs.declared.tags.Tags.{Tags}
use Rattle.nys_votes.specs.Seats.{seat_of}
use Rattle.nys_rules.specs.declared.rule.Rule.{Rule}
use Rattle.nys_rules.specs.declared.rule.Rule.TheVariants.{Attest, Certificate, Deliver, Log, Offer, Order}
use Rattle.nys_rules.specs.Dropping.{accepted, misplaced, misplaced_body, untagged, verdict}
use Rattle.nys_rules.specs.Heads.{head, recorded, with_heads}
use Rattle.nys_rules.specs.Logging.{heads_after, logged}
use Rattle.nys_rules.specs.Noting.{at_desk, noted, noted_body, with_attests, with_certificate, with_orders}
use Rattle.nys_rules.specs.Scope.{quorum_at, Scope}
use Rattle.nys_rules.specs.Taking.{one_more, taken, with_kept}
use Rattle.nys_rules.specs.View.{entering, length_of, View, with_links}
use Rattle.nys_rules.proofs.SearchLemmas.{or_none, or_some}
use Rattle.nys_laws.proofs.ViewLemmas.{open_later}

-- a head that is recorded was before, or is at this length
abbrev pub IsOldOrAt : (before after : List (Option ℕ)) → ℕ → Type 0
IsOldOrAt before after len = (p u : ℕ) → seat_of after p ≡ Some u → (seat_of before p ≡ Some u) ⊎ (u ≡ len)

-- so it is of those of h while its log keeps its length in the epoch
abbrev pub HeadsMove : (h : ℕ) → (v next : View) → Type 0
HeadsMove h v next = next.epoch ≡ v.epoch → length_of next h ≡ length_of v h → IsOldOrAt (v.heads h) (next.heads h) (length_of v h)

-- what stands in a list of values is one of them
value_at : (f : ℕ → Option ℕ) (a n p u : ℕ) → get_or (map f (range_with_len a n)) p None ≡ Some u
    → f (a + p) ≡ Some u
value_at f a zero p u is = absurd (cc)
value_at f a (suc n) zero u is = let same : a ≡ a + 0 = omega arith in subst (λ x. f x ≡ Some u) same is
value_at f a (suc n) (suc p) u is =
    let same : a + 1 + p ≡ a + suc p = omega arith in
    subst (λ x. f x ≡ Some u) same (value_at f (a + 1) n p u is)

-- heads that are recorded
pub recorded_heads : {S : Type 0} (scope : Scope S) (h : ℕ) (v : View)
    → IsOldOrAt (v.heads h) (map (recorded scope v h) (range_with_len 0 32)) (length_of v h)
recorded_heads {S} scope h v p u at =
    elim (or_some (seat_of (v.heads h) p) (if is_some (head scope v p h) then Some (length_of v h) else None) u here) [
      | inl old ↦ inl old
      | inr new ↦ inr (by (is_some (head scope v p h)) new.1)
    ]
  where
    here : recorded scope v h p ≡ Some u
    here = let same : 0 + p ≡ p = omega arith in
        subst (λ x. recorded scope v h x ≡ Some u) same (value_at (recorded scope v h) 0 32 p u at)

    by : (b : Bool) → (if b then Some (length_of v h) else None) ≡ Some u → u ≡ length_of v h
    by true is = let same : length_of v h ≡ u = cc in sym same
    by false is = absurd (cc)

-- heads of this host are recorded, or those of another
with_heads_move : {S : Type 0} (scope : Scope S) (h x : ℕ) (v mid : View) → mid.heads h ≡ v.heads h
    → length_of mid h ≡ length_of v h
    → HeadsMove h v (with_heads scope x mid)
unfolding with_heads
with_heads_move scope h x v mid heads long epoch same_length p u at = elim (cases_eq h x) [
  | inl same ↦
      let values = put_here mid.heads x (map (recorded scope mid x) (range_with_len 0 32)) in
      let here = subst (λ y. seat_of (put mid.heads x (map (recorded scope mid x) (range_with_len 0 32)) y) p ≡ Some u) same at in
      let now = subst (λ hs. seat_of hs p ≡ Some u) values here in
      elim (recorded_heads scope x mid p u now) [
        | inl old ↦ inl (subst (λ hs. seat_of hs p ≡ Some u) heads (subst (λ y. seat_of (mid.heads y) p ≡ Some u) (sym same) old))
        | inr is ↦ inr (is ∙ (ap (length_of mid) (sym same) ∙ long))
      ]
  | inr other ↦
      inl (subst (λ hs. seat_of hs p ≡ Some u) (put_there mid.heads x (map (recorded scope mid x) (range_with_len 0 32)) h other ∙ heads) at)
]

-- a log that takes an entry, of this host or another
log_heads : {S : Type 0} (scope : Scope S) (h x : ℕ) (c : Content) (v mid : View) → mid.logs ≡ v.logs
    → mid.heads ≡ v.heads → HeadsMove h v (logged scope x c mid)
unfolding logged with_heads with_links
log_heads scope h x c v mid logs heads epoch long p u at = elim (cases_eq h x) [
  | inl same ↦ absurd
      (let here = ap (λ (l : List Content). length l) (ap (put mid.logs x (mid.logs x ++ c ∷ [])) same ∙ put_here mid.logs x (mid.logs x ++ c ∷ [])) in
      let one = length-append (mid.logs x) (c ∷ []) in
      let was = ap (λ (f : ℕ → List Content). length (f h)) logs in
      let at_x = ap (λ y. length (mid.logs y)) same in
      omega (arith, here, one, was, at_x, long))
  | inr other ↦
      let after = put mid.heads x (heads_after c (mid.heads x)) in
      inl (subst (λ (hs : List (Option ℕ)). seat_of hs p ≡ Some u)
      (put_there after x _ h other ∙ (put_there mid.heads x (heads_after c (mid.heads x)) h other ∙ ap (λ (f : ℕ → List (Option ℕ)). f h) heads)) at)
]

-- each rule that is taken
pub rule_heads : {S : Type 0} (scope : Scope S) (v : View) (rule : Rule) (h : ℕ)
    → HeadsMove h v (taken scope v rule)
rule_heads scope v (Offer x c) h = λ epoch long p u at. inl at
rule_heads scope v (Order x c) h = λ epoch long p u at. inl at
rule_heads scope v (Certificate x c) h = λ epoch long p u at. inl at
rule_heads scope v (Deliver x c) h = λ epoch long p u at. inl at
rule_heads scope v (Log x c) h = log_heads scope h x c v (with_kept x c v) refl refl
rule_heads scope v (Attest p x n payload) h = with_heads_move scope h x v (record v { attested = put_at v.attested p x (one_more (v.attested p x)) }) refl refl

-- each kind of record
body_heads : {S : Type 0} (scope : Scope S) (e : ℕ) (said : Body) (makers : List Tags) (v : View) (h : ℕ)
    → misplaced_body scope v e said ≡ None → HeadsMove h v (noted_body scope e said makers v)
unfolding with_attests entering with_links
body_heads scope e (body.Filled kind.Offer x slot c) makers v h is = λ epoch long p u at. inl at
body_heads {S} scope e (body.Filled kind.Order x slot c) makers v h is = by (v.me == x)
  where
    by : (b : Bool) → HeadsMove h v (if b then at_desk x (with_orders c makers) v
        else at_desk x (with_certificate (quorum_at scope v.epoch x) c makers) v)
    by true = λ epoch long p u at. inl at
    by false = λ epoch long p u at. inl at
body_heads scope e (body.Filled kind.Deliver x slot c) makers v h is = λ epoch long p u at. inl at
body_heads scope e (body.Filled kind.Report x slot c) makers v h is = λ epoch long p u at. inl at
body_heads scope e (body.Filled kind.Inherit x slot c) makers v h is = log_heads scope h x c v v refl refl
body_heads scope e (body.Attest p x n payload) makers v h is = with_heads_move scope h x v (with_attests p x n payload makers v) refl refl
body_heads scope e (body.Ask x slot) makers v h is = λ epoch long p u at. inl at
body_heads scope e body.Wedge makers v h is = λ epoch long p u at. inl at
body_heads scope e (body.Frozen x slot) makers v h is = λ epoch long p u at. inl at
body_heads scope e (body.Open lengths) makers v h is = λ epoch long p u at.
    absurd (let later = open_later scope v e lengths is in omega (arith, later, epoch))

-- a record that isn't dropped
pub record_heads : {S : Type 0} (scope : Scope S) (v : View) (r : Record) (h : ℕ) → verdict scope v r ≡ None
    → HeadsMove h v (noted scope v r)
unfolding verdict misplaced noted
record_heads scope v r h is =
    let makers = accepted scope r.statement.epoch v.me r in
    body_heads scope r.statement.epoch r.statement.body makers v h
    (or_none (misplaced_body scope v r.statement.epoch r.statement.body) (untagged makers) is).0
