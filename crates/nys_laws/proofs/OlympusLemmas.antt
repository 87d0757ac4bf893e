-- What the Olympus answers and makes: when it decides, gives up and opens, and which statements it makes
-- then; and that nothing is made at its number by a node.
use Rattle.std.proofs.Common.{◌≡◌, ℕ, zero, suc, ◌+◌, ◌<◌, ◌≤◌, ◌⊎◌, ◌==◌, ◌&&◌, ◌||◌, Bool, true, false, ℤ, List, [], ◌∷◌, length, map, filter, Some, None, refl, ap, sym, subst, ◌∙◌, inl, inr, arith}
use Rattle.std.specs.Prelude.{All, Contains, Option, cond, find, flat_map, if◌then◌else◌, is_none, nat_lt, not, slice_get, slice_index_or, unwrap_or}
use Rattle.std.specs.List.{enumerate_from, list_any, range_with_len}
use Rattle.std.proofs.lemmas.Bool.Decides.{Decides-ltb}
use Rattle.std.proofs.lemmas.List.Elements.{All-append, All-cons, All-contains, All-filter, All-head, All-map, All-nil, All-tail, Contains-append_right, filter_passes}
use Rattle.std.proofs.lemmas.List.FromFn.{get_or-map-range_with_len, get_or-range_with_len, length-map-range_with_len, length-range_with_len}
use Rattle.nys_bytes.specs.declared.content.Content.{Content}
use Rattle.nys_stmt.specs.declared.records.Record.{Record}
use Rattle.nys_stmt.specs.declared.statement.Body.{Body}
use Rattle.nys_stmt.specs.declared.statement.Body.TheVariants as body
use Rattle.nys_stmt.specs.declared.statement.FilledKind.TheVariants as kind
use Rattle.nys_stmt.specs.declared.statement.Statement.{Statement}
use Rattle.nys_stmt.specs.declared.tags.Tags.{Tags}
use Rattle.nys_rules.specs.declared.decision.Decision.TheVariants as decide
use Rattle.nys_rules.specs.declared.decision.Opened.TheVariants as opens
use Rattle.nys_rules.specs.declared.decision.Retired.{Retired}
use Rattle.nys_rules.specs.declared.decision.Retired.TheVariants as retire
use Rattle.nys_rules.specs.declared.rule.Rule.{Rule}
use Rattle.nys_rules.specs.declared.rule.Rule.TheVariants.{Offer, Order, Certificate, Deliver, Log, Attest}
use Rattle.nys_rules.specs.Asking.{all_hosts, questions}
use Rattle.nys_rules.specs.Dropping.{accepted, accepts, permits, untagged}
use Rattle.nys_rules.specs.Forged.{Entry, HasMade, makers_told}
use Rattle.nys_rules.specs.Handling.{hosts_among, noted_by}
use Rattle.nys_rules.specs.Happening.{AreTrue}
use Rattle.nys_rules.specs.Noting.{bases, retirements}
use Rattle.nys_rules.specs.Olympus.{decision, hosts_of, inheritance, is_settled, lengths_told, OlympusView, open_decision, opened_but, opening, opening_acts, proclaimed, retirement, unsettled}
use Rattle.nys_rules.specs.Packets.{Acts, all_joined, nothing}
use Rattle.nys_rules.specs.Rules.{due, Enabled, to_attest, to_certify, to_deliver, to_log, to_offer, to_order}
use Rattle.nys_rules.specs.Scope.{guards_of, olympus, Scope}
use Rattle.nys_rules.specs.Sending.{made_for, said_in, to_guards}
use Rattle.nys_rules.specs.View.{has_reached, is_attesting, is_live, is_open, length_of, View}
use Rattle.nys_rules.specs.World.{is_honest, Setting}
use Rattle.nys_rules.proofs.CertificateLemmas.{both_true, only_if_some}
use Rattle.nys_rules.proofs.DueLemmas.{due_enabled}
use Rattle.nys_laws.specs.SetUp.{IsSetUp}
use Rattle.nys_laws.specs.Testimony.{MayBeOpened, OpensInOrder}
use Rattle.nys_laws.proofs.GrownLemmas.{all_keep, JoinsKeep}
use Rattle.nys_laws.proofs.HeardLemmas.{one_of, passed_on, permitted_of}

-- the Olympus may still decide or give up the host
pub record IsPending (o : OlympusView) (h : ℕ) : Type 0 where
  pub ending : o.wedged ≡ true
  pub open_still : o.decided_now h ≡ false
  pub kept : o.retired h ≡ false

-- neither of two
neither : (a b : Bool) → (a || b) ≡ false → (a ≡ false) × (b ≡ false)
neither false b e = (refl, e)
neither true b e = absurd (cc)

-- a host that isn't settled
pending_of : (o : OlympusView) (h : ℕ) → o.wedged ≡ true → is_settled o h ≡ false → IsPending o h
pending_of o h ending is =
    let both = neither (o.decided_now h) (o.retired h) is in
    record { ending = ending; open_still = both.0; kept = both.1 }

-- it decides such a host, by the reports that it has
pub decided_pending : {S : Type 0} (scope : Scope S) (o : OlympusView) (h len : ℕ) → decision scope o h ≡ decide.Decided len
    → IsPending o h × (open_decision scope o h ≡ decide.Decided len)
unfolding decision
decided_pending {S} scope o h len is = by o.wedged (is_settled o h) refl refl is
  where
    by : (wedged settled : Bool) → o.wedged ≡ wedged → is_settled o h ≡ settled
        → (if not wedged then decide.NotWedged else if settled then decide.Settled else open_decision scope o h) ≡ decide.Decided len
        → IsPending o h × (open_decision scope o h ≡ decide.Decided len)
    by false settled a b e = absurd (cc)
    by true true a b e = absurd (cc)
    by true false a b e = (pending_of o h a b, e)

-- it gives up such a host
pub retired_pending : (o : OlympusView) (h : ℕ) → retirement o h ≡ retire.Done → IsPending o h
retired_pending o h is = by o.wedged (is_settled o h) refl refl is
  where
    by : (wedged settled : Bool) → o.wedged ≡ wedged → is_settled o h ≡ settled
        → ◌≡◌ {A = Retired} (if not wedged then retire.NotWedged else if settled then retire.Settled else retire.Done) retire.Done
        → IsPending o h
    by false settled a b e = absurd (cc)
    by true true a b e = absurd (cc)
    by true false a b e = pending_of o h a b

-- where none is found none passes
none_found : {A : Type 0} (test : A → Bool) (xs : List A) → find test xs ≡ None → All (λ x. test x ≡ false) xs
none_found test [] e = All-nil (λ x. test x ≡ false)
none_found {A} test (x ∷ xs) e = by (test x) refl e (λ later. none_found test xs later)
  where
    by : (b : Bool) → test x ≡ b → ◌≡◌ {A = Option A} (cond b (Some x) (find test xs)) None
        → (find test xs ≡ None → All (λ y. test y ≡ false) xs) → All (λ y. test y ≡ false) (x ∷ xs)
    by true is e rest = absurd (cc)
    by false is e rest = All-cons (λ y. test y ≡ false) x xs is (rest e)

-- all numbers of a range are below its length
pub range_below : (n : ℕ) → All (λ x. x < n) (range_with_len 0 n)
range_below n k d within =
    let long = length-range_with_len 0 n in omega (arith, get_or-range_with_len 0 n k d (omega arith))

-- what holds of a range holds of each number in it
range_each : (P : ℕ → Type 0) (n : ℕ) → All P (range_with_len 0 n) → (x : ℕ) → x < n → P x
range_each P n all x below =
    let at = all x x (let long = length-range_with_len 0 n in omega arith) in
    subst P (get_or-range_with_len 0 n x x below ∙ omega arith) at

-- one of two
not_neither : (a b : Bool) → not (a || b) ≡ false → (a ≡ true) ⊎ (b ≡ true)
not_neither true b e = inl refl
not_neither false true e = inr refl
not_neither false false e = absurd (cc)

-- it opens an epoch where its own ends and each host is decided or retired
pub opens_in_order : {S : Type 0} (scope : Scope S) → OpensInOrder scope
unfolding opening
opens_in_order {S} scope o epoch is = by o.wedged (nat_lt (o.epoch + 1) scope.epochs) refl refl is
  where
    found : (some : Option ℕ) → unsettled scope o ≡ some → o.wedged ≡ true → o.epoch + 1 < scope.epochs
        → opened_but o some ≡ opens.Done epoch → MayBeOpened scope o epoch
    found (Some h) none a b e = absurd (cc)
    found None none a b e = record {
      next = cc;
      ending = a;
      room = b;
      each = λ h low.
          let all = none_found (λ x. not (is_settled o x)) (hosts_of scope) none in
          not_neither (o.decided_now h) (o.retired h)
          (range_each (λ x. not (is_settled o x) ≡ false) scope.rules.hosts all h low);
    }

    by : (wedged room : Bool) → o.wedged ≡ wedged → nat_lt (o.epoch + 1) scope.epochs ≡ room
        → (if not wedged then opens.NotWedged else if not room then opens.NoNext else opened_but o (unsettled scope o)) ≡ opens.Done epoch
        → MayBeOpened scope o epoch
    by false room a b e = absurd (cc)
    by true false a b e = absurd (cc)
    by true true a b e = found (unsettled scope o) refl a ((Decides-ltb (o.epoch + 1) scope.epochs).0 b) e

-- statements that are made with acts
abbrev AllMade : (Statement → Type 0) → Acts → Type 0
AllMade P acts = All P acts.made

-- with several together
made_join : (P : Statement → Type 0) → JoinsKeep (AllMade P)
made_join P = record { none = All-nil P; both = λ a b p q. All-append P a.made b.made p q }

-- one statement, to whomever it is sent
pub proclaimed_made : {S : Type 0} (scope : Scope S) (P : Statement → Type 0) (e : ℕ) (said : Body) (receivers : List ℕ)
    → P (said_in e said) → All P (proclaimed scope e said receivers).made
unfolding made_for
proclaimed_made scope P e said receivers p = All-cons P (said_in e said) [] p (All-nil P)

-- what holds of each entry with its place holds of the entries in a row
enumerated : {A : Type 0} (P : ℕ × A → Type 0) (n : ℕ) (xs : List A)
    → ((i : ℕ) (x : A) → slice_get xs i ≡ Some x → P (n + i, x)) → All P (enumerate_from n xs)
enumerated P n [] each = All-nil P
enumerated {A} P n (x ∷ xs) each =
    let here : n + 0 ≡ n = omega arith in
    All-cons P (n, x) (enumerate_from (n + 1) xs) (subst (λ k. P (k, x)) here (each 0 x refl))
    (enumerated P (n + 1) xs (λ i y is.
    let there : n + suc i ≡ n + 1 + i = omega arith in subst (λ k. P (k, y)) there (each (suc i) y is)))

-- what holds of each value of a function that gives lists, where a fact holds of its places
flat_all : {A B : Type 0} (P : B → Type 0) (Q : A → Type 0) (f : A → List B) (xs : List A) → All Q xs
    → ((x : A) → Q x → All P (f x)) → All P (flat_map f xs)
flat_all P Q f [] all each = All-nil P
flat_all P Q f (x ∷ xs) all each =
    All-append P (f x) (flat_map f xs) (each x (All-head Q x xs all)) (flat_all P Q f xs (All-tail Q x xs all) each)

-- a test that fails
not_true : (b : Bool) → not b ≡ true → b ≡ false
not_true false e = refl
not_true true e = absurd (cc)

-- the hosts that aren't retired
record IsKept {S : Type 0} (scope : Scope S) (o : OlympusView) (h : ℕ) : Type 0 where
  host : h < scope.rules.hosts
  kept : o.retired h ≡ false

-- are those whose logs are handed on
kept_hosts : {S : Type 0} (scope : Scope S) (o : OlympusView)
    → All (IsKept scope o) (filter (λ h. not (o.retired h)) (hosts_of scope))
kept_hosts scope o k d within =
    let all = filter (λ h. not (o.retired h)) (hosts_of scope) in
    let low = All-filter (λ h. not (o.retired h)) (λ h. h < scope.rules.hosts) (hosts_of scope) (range_below scope.rules.hosts) in
    record {
      host = low k d within;
      kept = not_true _ (filter_passes (λ h. not (o.retired h)) (hosts_of scope) k d within);
    }

-- what the Olympus makes when it opens an epoch
pub opening_made : {S : Type 0} (scope : Scope S) (o : OlympusView) (e : ℕ) (P : Statement → Type 0)
    → P (said_in e (body.Open (lengths_told scope o)))
    → ((h slot : ℕ) (content : Content) → h < scope.rules.hosts → o.retired h ≡ false
    → slice_get (o.decided h) slot ≡ Some content → P (said_in e (body.Filled kind.Inherit h slot content)))
    → All P (opening_acts scope o e).made
unfolding opening_acts
opening_made {S} scope o e P first each =
    all_keep (AllMade P) (made_join P) (opens_by ∷ flat_map (inheritance scope o e) kept)
    (All-cons (AllMade P) opens_by (flat_map (inheritance scope o e) kept)
    (proclaimed_made scope P e (body.Open (lengths_told scope o)) (hosts_of scope) first)
    (flat_all (AllMade P) (IsKept scope o) (inheritance scope o e) kept (kept_hosts scope o) one))
  where
    opens_by : Acts
    opens_by = proclaimed scope e (body.Open (lengths_told scope o)) (hosts_of scope)

    kept : List ℕ
    kept = filter (λ h. not (o.retired h)) (hosts_of scope)

    one : (h : ℕ) → IsKept scope o h → All (AllMade P) (inheritance scope o e h)
    one h is =
        All-map (AllMade P) (λ (x : ℕ × Content). proclaimed scope e (body.Filled kind.Inherit h x.0 x.1) (guards_of scope e h))
        (enumerate_from 0 (o.decided h))
        (enumerated (λ (x : ℕ × Content). AllMade P (proclaimed scope e (body.Filled kind.Inherit h x.0 x.1) (guards_of scope e h))) 0 (o.decided h)
        (λ i content entry.
        let same : 0 + i ≡ i = omega arith in
        subst (λ k. AllMade P (proclaimed scope e (body.Filled kind.Inherit h k content) (guards_of scope e h))) (sym same)
        (proclaimed_made scope P e (body.Filled kind.Inherit h i content) (guards_of scope e h) (each h i content is.host is.kept entry))))

-- past its end a list gives what is asked for
past_end : {A : Type 0} (xs : List A) (i : ℕ) (d : A) → length xs ≤ i → slice_index_or xs i d ≡ d
past_end [] i d le = refl
past_end (x ∷ xs) zero d le = absurd (omega arith)
past_end (x ∷ xs) (suc i) d le = past_end xs i d (omega arith)

-- what an Open tells of a host
abbrev told_of : OlympusView → ℕ → Option ℕ
told_of o h = (if o.retired h then None else Some (length (o.decided h)))

-- it tells so of each host
told_at : {S : Type 0} (scope : Scope S) (o : OlympusView) (h : ℕ) (d : Option ℕ) → h < scope.rules.hosts
    → slice_index_or (lengths_told scope o) h d ≡ told_of o h
told_at scope o h d low = get_or-map-range_with_len (told_of o) 0 scope.rules.hosts h h d low (omega arith)

-- and of no other number
told_past : {S : Type 0} (scope : Scope S) (o : OlympusView) (h : ℕ) (d : Option ℕ) → scope.rules.hosts ≤ h
    → slice_index_or (lengths_told scope o) h d ≡ d
told_past scope o h d high =
    let long = length-map-range_with_len (told_of o) 0 scope.rules.hosts in
    past_end (lengths_told scope o) h d (omega (arith, long, high))

-- a number is below another or not
low_or_not : (a b : ℕ) → (a < b) ⊎ (b ≤ a)
low_or_not zero zero = inr (omega arith)
low_or_not zero (suc b) = inl (omega arith)
low_or_not (suc a) zero = inr (omega arith)
low_or_not (suc a) (suc b) = elim (low_or_not a b) [ inl lt ↦ inl (omega (arith, lt)) | inr le ↦ inr (omega (arith, le)) ]

-- a host that isn't retired begins the epoch where it was decided
pub base_told : {S : Type 0} (scope : Scope S) (o : OlympusView) (h : ℕ) → h < scope.rules.hosts → o.retired h ≡ false
    → bases (lengths_told scope o) h ≡ length (o.decided h)
base_told scope o h low kept =
    ap (λ x. unwrap_or x 0) (told_at scope o h None low)
    ∙ ap (λ (b : Bool). unwrap_or (if b then None else Some (length (o.decided h))) 0) kept

-- no log begins past what was decided
pub base_within : {S : Type 0} (scope : Scope S) (o : OlympusView) (h : ℕ)
    → bases (lengths_told scope o) h ≤ length (o.decided h)
base_within {S} scope o h = elim (low_or_not h scope.rules.hosts) [
  | inl low ↦ subst (λ x. unwrap_or x 0 ≤ length (o.decided h)) (sym (told_at scope o h None low)) (by (o.retired h))
  | inr high ↦ subst (λ x. unwrap_or x 0 ≤ length (o.decided h)) (sym (told_past scope o h None high)) (omega arith)
]
  where
    by : (b : Bool) → unwrap_or (if b then None else Some (length (o.decided h))) 0 ≤ length (o.decided h)
    by true = omega arith
    by false = omega arith

-- a host is retired in the epoch where it was given up
pub retired_told : {S : Type 0} (scope : Scope S) (o : OlympusView) (h : ℕ) → h < scope.rules.hosts
    → retirements (lengths_told scope o) h ≡ o.retired h
retired_told {S} scope o h low = ap is_none (told_at scope o h (Some 0) low) ∙ by (o.retired h)
  where
    by : (b : Bool) → is_none (if b then None else Some (length (o.decided h))) ≡ b
    by true = refl
    by false = refl

-- no other is
pub retired_within : {S : Type 0} (scope : Scope S) (o : OlympusView) (h : ℕ)
    → retirements (lengths_told scope o) h ≡ true → (h < scope.rules.hosts) × (o.retired h ≡ true)
retired_within scope o h is = elim (low_or_not h scope.rules.hosts) [
  | inl low ↦ (low, sym (retired_told scope o h low) ∙ is)
  | inr high ↦ absurd (let none = ap is_none (told_past scope o h (Some 0) high) in let yes = sym none ∙ is in cc)
]

-- the Olympus is among the makers of a record that has its tags
has_olympus : (makers : List Tags) (t : Tags) → Contains makers t → t.maker ≡ olympus
    → list_any (λ (x : Tags). x.maker == olympus) makers ≡ true
has_olympus [] t among is = absurd (omega (arith, among.1))
has_olympus (x ∷ makers) t (zero, lt, at) is =
    ap (λ (m : ℕ). (m == olympus) || list_any (λ (y : Tags). y.maker == olympus) makers) (ap (λ (y : Tags). y.maker) at ∙ is)
has_olympus (x ∷ makers) t (suc k, lt, at) is =
    ap (λ b. (x.maker == olympus) || b) (has_olympus makers t (k, omega (arith, lt), at) is) ∙ either (x.maker == olympus)
  where
    either : (b : Bool) → (b || true) ≡ true
    either true = refl
    either false = refl

-- where its tag is accepted and nothing is forged, it made the statement
pub olympus_true : {S : Type 0} (setting : Setting S) (ledger : List Entry) (taker : ℕ) (r : Record)
    → AreTrue setting ledger r.statement
    (makers_told (noted_by nothing r (accepted setting.scope r.statement.epoch taker r)))
    → (t : Tags) → Contains (accepted setting.scope r.statement.epoch taker r) t → t.maker ≡ olympus
    → HasMade ledger olympus r.statement
olympus_true setting ledger taker r true_all t among is =
    let makers = accepted setting.scope r.statement.epoch taker r in
    let told = noted_by nothing r makers in
    let last : Contains (if told.olympus then olympus ∷ [] else []) olympus =
    subst (λ (b : Bool). Contains (if b then olympus ∷ [] else []) olympus) (sym (has_olympus makers t among is)) (zero, omega arith, refl) in
    let is_told = Contains-append_right (hosts_among makers) (if told.olympus then olympus ∷ [] else []) olympus last in
    All-contains (λ m. is_honest setting m ≡ true → HasMade ledger m r.statement) (makers_told told) olympus true_all is_told refl

-- each accepted maker may say it
pub all_permitted : {S : Type 0} (scope : Scope S) (taker : ℕ) (r : Record) (t : Tags)
    → Contains (accepted scope r.statement.epoch taker r) t
    → permits scope r.statement.epoch r.statement.body t.maker ≡ true
unfolding accepted
all_permitted scope taker r t among =
    permitted_of scope r.statement.epoch taker r.statement t
    (All-contains (λ x. accepts scope r.statement.epoch taker r.statement x ≡ true)
    (accepted scope r.statement.epoch taker r) t
    (filter_passes (accepts scope r.statement.epoch taker r.statement) r.makers) among)

-- a record that isn't dropped at its last test has an accepted maker, which may say it
pub one_accepted : {S : Type 0} (scope : Scope S) (taker : ℕ) (r : Record)
    → untagged (accepted scope r.statement.epoch taker r) ≡ None
    → (t : Tags) × Contains (accepted scope r.statement.epoch taker r) t
    × (permits scope r.statement.epoch r.statement.body t.maker ≡ true)
one_accepted scope taker r is =
    let makers = accepted scope r.statement.epoch taker r in
    let one = one_of makers (passed_on (nat_lt 0 (length makers)) _ _ is).0 in
    (one.0, one.1, all_permitted scope taker r one.0 one.1)

-- a host that is live at a node is guarded by it
pub live_guard : {S : Type 0} (scope : Scope S) (v : View) (h : ℕ) → is_live scope v h ≡ true
    → scope.guards v.epoch h v.me ≡ true
unfolding is_live
live_guard scope v h is =
    let rest = (both_true (nat_lt h scope.rules.hosts) (scope.guards v.epoch h v.me && not (v.retired h)) is).1 in
    (both_true (scope.guards v.epoch h v.me) (not (v.retired h)) rest).0

-- a slot is open of a live host alone
open_live : {S : Type 0} (scope : Scope S) (v : View) (h : ℕ) → is_open scope v h ≡ true → is_live scope v h ≡ true
unfolding is_open
open_live scope v h is =
    (both_true (is_live scope v h) (not v.wedged && (has_reached v h && nat_lt (length_of v h) 1024)) is).0

-- a rule is enabled for a live host alone
pub enabled_live : {S : Type 0} (scope : Scope S) (v : View) (rule : Rule) → Enabled scope v rule
    → (h : ℕ) × (is_live scope v h ≡ true)
unfolding to_offer to_order to_certify to_deliver to_log to_attest is_attesting
enabled_live scope v (Offer h content) e =
    let test = (only_if_some (v.me == h && (is_open scope v h && is_none (v.desks h).offered)) _ content e).0 in
    let rest = (both_true (v.me == h) (is_open scope v h && is_none (v.desks h).offered) test).1 in
    (h, open_live scope v h (both_true (is_open scope v h) (is_none (v.desks h).offered) rest).0)
enabled_live scope v (Order h content) e =
    let test = (only_if_some (is_open scope v h && is_none (v.desks h).ordered) _ content e).0 in
    (h, open_live scope v h (both_true (is_open scope v h) (is_none (v.desks h).ordered) test).0)
enabled_live scope v (Certificate h content) e =
    let test = (only_if_some ((v.me == h && (is_live scope v h && not v.wedged)) && _) _ content e).0 in
    let some = (both_true (v.me == h && (is_live scope v h && not v.wedged)) _ test).0 in
    (h, (both_true (is_live scope v h) (not v.wedged) (both_true (v.me == h) (is_live scope v h && not v.wedged) some).1).0)
enabled_live scope v (Deliver h content) e =
    let test = (only_if_some (is_open scope v h && is_none (v.desks h).delivered) _ content e).0 in
    (h, open_live scope v h (both_true (is_open scope v h) (is_none (v.desks h).delivered) test).0)
enabled_live scope v (Log h content) e = (h, open_live scope v h (only_if_some (is_open scope v h) _ content e).0)
enabled_live scope v (Attest p h k payload) e =
    let test = (only_if_some {A = ℕ × List ℤ} (not v.wedged && is_attesting scope v p h) _ (k, payload) e).0 in
    let some = (both_true (not v.wedged) (is_attesting scope v p h) test).1 in
    let linked = (both_true (scope.rules.linked p h && (is_live scope v p && is_live scope v h)) _ some).0 in
    let live = (both_true (scope.rules.linked p h) (is_live scope v p && is_live scope v h) linked).1 in
    (h, (both_true (is_live scope v p) (is_live scope v h) live).1)

-- no host is live at the number of the Olympus
pub none_live : {S : Type 0} (scope : Scope S) → IsSetUp scope → (v : View) → v.me ≡ olympus → (h : ℕ)
    → is_live scope v h ≡ true → ⊥
none_live scope set v me h live =
    let low = set.hosts.guards v.epoch h v.me (live_guard scope v h live) in
    let few = set.hosts.few in
    omega (arith, low, few, me)

-- so no rule is due there
pub none_due : {S : Type 0} (scope : Scope S) → IsSetUp scope → (v : View) → v.me ≡ olympus → (rule : Rule)
    → due scope v ≡ Some rule → ⊥
none_due scope set v me rule is =
    let live = enabled_live scope v rule (due_enabled scope v rule is).1 in none_live scope set v me live.0 live.1

-- what passes a test that nothing passes
filter_none : {A : Type 0} (test : A → Bool) (xs : List A) → ((x : A) → test x ≡ false) → filter test xs ≡ []
filter_none test [] none = refl
filter_none test (x ∷ xs) none = ap (λ (b : Bool). cond b (x ∷ filter test xs) (filter test xs)) (none x) ∙ filter_none test xs none

-- a test of both fails where the first does
first_false : (a b : Bool) → (a ≡ true → ⊥) → (a && b) ≡ false
first_false true b never = absurd (never refl)
first_false false b never = refl

-- and nothing is asked there
pub none_asked : {S : Type 0} (scope : Scope S) → IsSetUp scope → (v : View) → v.me ≡ olympus
    → questions scope v ≡ nothing
unfolding questions
none_asked {S} scope set v me =
    ap (λ hs. if v.wedged then nothing else all_joined (map ask hs))
    (filter_none (λ h. is_live scope v h && nat_lt (length_of v h) 1024) all_hosts
    (λ h. first_false (is_live scope v h) _ (none_live scope set v me h)))
    ∙ by v.wedged
  where
    ask : ℕ → Acts
    ask h = to_guards scope v h (body.Ask h (length_of v h))

    by : (b : Bool) → (if b then nothing else all_joined (map ask [])) ≡ nothing
    by true = refl
    by false = refl
