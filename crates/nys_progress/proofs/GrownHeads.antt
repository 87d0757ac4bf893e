-- The heads of a host's links once its log takes a content: none stays of the content's own link, the others do, and
-- those that are new are recorded at the new length.
use Rattle.std.proofs.Common.{◌≡◌, ◌≢◌, ℕ, zero, suc, ◌+◌, ◌<◌, ◌≤◌, ◌⊎◌, ◌==◌, Bool, true, false, ℤ, List, [], ◌∷◌, ◌++◌, length, map, Some, None, refl, ap, sym, subst, ◌∙◌, inl, inr, arith, length-append, get_or, set}
use Rattle.std.specs.Prelude.{if◌then◌else◌, Option, slice_get}
use Rattle.std.specs.List.{range_with_len}
use Rattle.std.proofs.lemmas.Bool.{cases_eq}
use Rattle.std.proofs.lemmas.List.{get_or-set_other}
use Rattle.nys_agreement.proofs.ListLemmas.{in_push}
use Rattle.nys_agreement.proofs.TableLemmas.{put_here, put_there}
use Rattle.nys_bytes.specs.declared.content.Content.{Content}
use Rattle.nys_bytes.specs.declared.content.Content.TheVariants.{External, Message}
use Rattle.nys_source.specs.Tables.{put, put_at}
use Rattle.nys_stmt.specs.declared.records.Record.{Record}
use Rattle.nys_stmt.specs.declared.statement.Body.{Body}
use Rattle.nys_stmt.specs.declared.statement.Body.TheVariants as body
use Rattle.nys_stmt.specs.declared.statement.FilledKind.TheVariants as kind
use Rattle.nys_stmt.specs.declared.tags.Tags.{Tags}
use Rattle.nys_votes.specs.Seats.{seat_of}
use Rattle.nys_rules.specs.declared.rule.Rule.{Rule}
use Rattle.nys_rules.specs.declared.rule.Rule.TheVariants.{Attest, Certificate, Deliver, Log, Offer, Order}
use Rattle.nys_rules.specs.Dropping.{accepted, misplaced, misplaced_body, untagged, verdict}
use Rattle.nys_rules.specs.Heads.{recorded, with_heads}
use Rattle.nys_rules.specs.Logging.{heads_after, logged, with_entry}
use Rattle.nys_rules.specs.Noting.{at_desk, noted, noted_body, with_attests, with_certificate, with_orders}
use Rattle.nys_rules.specs.Scope.{quorum_at, Scope}
use Rattle.nys_rules.specs.Taking.{taken, with_kept}
use Rattle.nys_rules.specs.View.{entering, length_of, View, with_links}
use Rattle.nys_rules.proofs.SearchLemmas.{or_none}
use Rattle.nys_progress.proofs.HeadMoves.{recorded_heads}
use Rattle.nys_progress.proofs.LinkMoves.{recorded_stays, value_of}

-- the content is a message of p
abbrev pub IsOf : ℕ → Content → Type 0
IsOf p (External payload) = ⊥
IsOf p (Message q k payload) = p ≡ q

-- heads once the log of h took the content
pub record HeadsGrow (h : ℕ) (c : Content) (v next : View) : Type 0 where
  pub back : (p u : ℕ) → seat_of (next.heads h) p ≡ Some u
      → ((seat_of (v.heads h) p ≡ Some u) × (IsOf p c → ⊥)) ⊎ (u ≡ length_of next h)
  pub forth : (p u : ℕ) → p < 32 → seat_of (v.heads h) p ≡ Some u → (IsOf p c → ⊥)
      → seat_of (next.heads h) p ≡ Some u

-- so they are, whatever content it took
abbrev pub GrowHeads : (h : ℕ) → View → View → Type 0
GrowHeads h v next = (c : Content) → next.logs h ≡ v.logs h ++ c ∷ [] → HeadsGrow h c v next

-- a log that stays took nothing
pub not_grown : (h : ℕ) (v next : View) → next.logs h ≡ v.logs h → GrowHeads h v next
not_grown h v next same c grown = absurd
    (let longer = ap length grown in let stays = ap length same in let one = length-append (v.logs h) (c ∷ []) in
    omega (arith, longer, stays, one))

-- nothing stands in a seat that was emptied
emptied : (seats : List (Option ℕ)) (p u : ℕ) → get_or (set seats p None) p None ≡ Some u → ⊥
emptied [] p u at = cc
emptied (x ∷ seats) zero u at = cc
emptied (x ∷ seats) (suc p) u at = emptied seats p u at

-- heads that the content leaves
left_back : (c : Content) (heads : List (Option ℕ)) (p u : ℕ) → seat_of (heads_after c heads) p ≡ Some u
    → (seat_of heads p ≡ Some u) × (IsOf p c → ⊥)
left_back (External payload) heads p u at = (at, λ is. is)
left_back (Message q k payload) heads p u at = elim (cases_eq p q) [
  | inl same ↦ absurd (emptied heads q u (subst (λ x. seat_of (set heads q None) x ≡ Some u) same at))
  | inr other ↦ (sym (get_or-set_other heads q p None None other) ∙ at, other)
]

left_forth : (c : Content) (heads : List (Option ℕ)) (p u : ℕ) → seat_of heads p ≡ Some u → (IsOf p c → ⊥)
    → seat_of (heads_after c heads) p ≡ Some u
left_forth (External payload) heads p u at other = at
left_forth (Message q k payload) heads p u at other = get_or-set_other heads q p None None other ∙ at

-- the last entries of two equal logs
last_same : (xs : List Content) (c d : Content) → xs ++ c ∷ [] ≡ xs ++ d ∷ [] → c ≡ d
last_same [] c d is = cc
last_same (x ∷ xs) c d is = last_same xs c d (cc)

-- the log of h itself
grown_here : {S : Type 0} (scope : Scope S) (x : ℕ) (c : Content) (v mid : View) → mid.heads ≡ v.heads
    → HeadsGrow x c v (logged scope x c mid)
unfolding logged with_heads with_links
grown_here {S} scope x c v mid heads = record {
  back = λ p u at. elim (recorded_heads scope x m p u (subst (λ hs. seat_of hs p ≡ Some u) values at)) [
    | inl old ↦ inl (left_back c (v.heads x) p u (subst (λ hs. seat_of hs p ≡ Some u) left old))
    | inr new ↦ inr new
  ];
  forth = λ p u low at other.
      let here : seat_of (m.heads x) p ≡ Some u = subst (λ hs. seat_of hs p ≡ Some u) (sym left) (left_forth c (v.heads x) p u at other) in
      let from_none : 0 + p ≡ p = omega arith in
      ap (λ hs. seat_of hs p) values
      ∙ (value_of (recorded scope m x) 0 32 p low ∙ (ap (recorded scope m x) from_none ∙ recorded_stays scope m x p u here));
}
  where
    m : View
    m = with_links scope (with_entry x c mid)

    values : put m.heads x (map (recorded scope m x) (range_with_len 0 32)) x ≡ map (recorded scope m x) (range_with_len 0 32)
    values = put_here m.heads x (map (recorded scope m x) (range_with_len 0 32))

    left : m.heads x ≡ heads_after c (v.heads x)
    left = put_here mid.heads x (heads_after c (mid.heads x)) ∙ ap (λ (f : ℕ → List (Option ℕ)). heads_after c (f x)) heads

-- a log that takes an entry, of this host or another
log_grows : {S : Type 0} (scope : Scope S) (h x : ℕ) (d : Content) (v mid : View) → mid.logs ≡ v.logs
    → mid.heads ≡ v.heads → GrowHeads h v (logged scope x d mid)
unfolding logged with_heads with_links
log_grows scope h x d v mid logs heads c grown = elim (cases_eq h x) [
  | inl same ↦
      let now = put_here mid.logs x (mid.logs x ++ d ∷ []) in
      let was = ap (λ (f : ℕ → List Content). f x ++ d ∷ []) logs in
      let took = subst (λ y. put mid.logs x (mid.logs x ++ d ∷ []) y ≡ v.logs y ++ c ∷ []) same grown in
      let is = last_same (v.logs x) d c (sym was ∙ (sym now ∙ took)) in
      subst (λ y. HeadsGrow y c v (logged scope x d mid)) (sym same)
      (subst (λ z. HeadsGrow x z v (logged scope x d mid)) is (grown_here scope x d v mid heads))
  | inr other ↦
      not_grown h v (logged scope x d mid)
      (put_there mid.logs x (mid.logs x ++ d ∷ []) h other ∙ ap (λ (f : ℕ → List Content). f h) logs) c grown
]

-- each rule that is taken
pub rule_grows : {S : Type 0} (scope : Scope S) (v : View) (rule : Rule) (h : ℕ) → GrowHeads h v (taken scope v rule)
unfolding with_heads
rule_grows scope v (Offer x c) h = not_grown h v _ refl
rule_grows scope v (Order x c) h = not_grown h v _ refl
rule_grows scope v (Certificate x c) h = not_grown h v _ refl
rule_grows scope v (Deliver x c) h = not_grown h v _ refl
rule_grows scope v (Log x c) h = log_grows scope h x c v (with_kept x c v) refl refl
rule_grows scope v (Attest p x n payload) h = not_grown h v _ refl

-- each kind of record
body_grows : {S : Type 0} (scope : Scope S) (e : ℕ) (said : Body) (makers : List Tags) (v : View) (h : ℕ)
    → GrowHeads h v (noted_body scope e said makers v)
unfolding with_attests entering with_links with_heads
body_grows scope e (body.Filled kind.Offer x slot c) makers v h = not_grown h v _ refl
body_grows {S} scope e (body.Filled kind.Order x slot c) makers v h = by (v.me == x)
  where
    by : (b : Bool) → GrowHeads h v (if b then at_desk x (with_orders c makers) v
        else at_desk x (with_certificate (quorum_at scope v.epoch x) c makers) v)
    by true = not_grown h v _ refl
    by false = not_grown h v _ refl
body_grows scope e (body.Filled kind.Deliver x slot c) makers v h = not_grown h v _ refl
body_grows scope e (body.Filled kind.Report x slot c) makers v h = not_grown h v _ refl
body_grows scope e (body.Filled kind.Inherit x slot c) makers v h = log_grows scope h x c v v refl refl
body_grows scope e (body.Attest p x n payload) makers v h = not_grown h v _ refl
body_grows scope e (body.Ask x slot) makers v h = not_grown h v _ refl
body_grows scope e body.Wedge makers v h = not_grown h v _ refl
body_grows scope e (body.Frozen x slot) makers v h = not_grown h v _ refl
body_grows scope e (body.Open lengths) makers v h = not_grown h v _ refl

-- a record that is noted
pub record_grows : {S : Type 0} (scope : Scope S) (v : View) (r : Record) (h : ℕ) → GrowHeads h v (noted scope v r)
unfolding noted
record_grows scope v r h =
    body_grows scope r.statement.epoch r.statement.body (accepted scope r.statement.epoch v.me r) v h
