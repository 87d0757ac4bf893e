-- Which records of Orders a node sends: its own Order, to the host, and the certificate of its offer, to each other guard.
use Rattle.std.proofs.Common.{◌≡◌, ◌≢◌, ℕ, ◌<◌, ◌≤◌, ◌==◌, ◌&&◌, Bool, true, false, ℤ, List, [], ◌∷◌, ◌++◌, map, Some, None, refl, ap, sym, subst, ◌∙◌, arith}
use Rattle.std.specs.Prelude.{All, Contains, cond, filter, filter_map, flat_map, if◌then◌else◌, nat_le, nat_lt, not, Option, option_map}
use Rattle.std.specs.List.{cons_option, range_with_len}
use Rattle.std.specs.Option.{option_to_list}
use Rattle.std.proofs.lemmas.Bool.Decides.{Decides-eqb, Decides-ltb}
use Rattle.std.proofs.lemmas.List.Elements.{All-append, All-cons, All-head, All-nil, All-tail}
use Rattle.nys_bytes.specs.declared.content.Content.{Content}
use Rattle.nys_hosts.proofs.ListLemmas.{lists_passing}
use Rattle.nys_votes.specs.Seats.{count_all}
use Rattle.nys_stmt.specs.declared.records.Record.{Record}
use Rattle.nys_stmt.specs.declared.statement.Body.{Body}
use Rattle.nys_stmt.specs.declared.statement.Body.TheVariants as body
use Rattle.nys_stmt.specs.declared.statement.FilledKind.TheVariants as kind
use Rattle.nys_stmt.specs.declared.statement.Statement.{Statement}
use Rattle.nys_stmt.specs.declared.tags.Tags.{Tags}
use Rattle.nys_rules.specs.declared.rule.Rule.{Rule}
use Rattle.nys_rules.specs.declared.rule.Rule.TheVariants.{Attest, Certificate, Deliver, Log, Offer, Order}
use Rattle.nys_rules.specs.declared.kept.Kept.{Kept}
use Rattle.nys_rules.specs.Asking.{all_hosts, answering, answers_to, attest_record, attest_records, certificate_record, deliver_record, kept_records, offer_record, open_records, order_record, slot_records, window_records}
use Rattle.nys_rules.specs.Dropping.{accepted, accepts, ask_drop, misplaced, misplaced_body, permits, untagged, verdict, verifies}
use Rattle.nys_rules.specs.Ending.{reporting}
use Rattle.nys_rules.specs.Handling.{acts_by, acts_by_body}
use Rattle.nys_rules.specs.Heads.{own_attest}
use Rattle.nys_rules.specs.Packets.{Acts, Sent}
use Rattle.nys_rules.specs.Rules.{Enabled, is_certified, only_if, to_certify, to_order}
use Rattle.nys_rules.specs.Scope.{guards_of, Scope}
use Rattle.nys_rules.specs.Sending.{guards_at, made_for, others, own_record, packet, record_of, said_in}
use Rattle.nys_rules.specs.Taking.{acts_of, certificate, certifying, ordering}
use Rattle.nys_rules.specs.View.{is_live, length_of, next_number, View}
use Rattle.nys_rules.proofs.CertificateLemmas.{both_true, only_if_some}
use Rattle.nys_rules.proofs.SearchLemmas.{or_none}
use Rattle.nys_laws.specs.Grounds.{IsLiveAt}
use Rattle.nys_laws.proofs.HeardLemmas.{current_is, passed_on}
use Rattle.nys_laws.proofs.LiveLemmas.{live_is, not_true}
use Rattle.nys_progress.proofs.ToldPackets.{all_flat, AreOfSuch, attest_else, deliver_else, else_made, else_reporting, IsElse, IsNoOrder, IsOfSuch, offer_else, others_all, such_answers, such_packets, there_all}

-- the Order of a content for the open slot of k, with the node's tags for all other guards of k
abbrev pub order_of : {S : Type 0} → Scope S → View → ℕ → Content → Record
order_of scope v k c = record_of scope v k (body.Filled kind.Order k (length_of v k) c)

-- the certificate of the node's offer, which it may send to a guard
pub record IsCertifying {S : Type 0} (scope : Scope S) (v : View) (to : ℕ) (r : Record) : Type 0 where
  pub content : Content
  pub live : IsLiveAt scope v v.me
  pub offered : (v.desks v.me).offered ≡ Some content
  pub guards : scope.guards v.epoch v.me to ≡ true
  pub other : to ≢ v.me
  -- somebody's order is collected
  pub some : (v.desks v.me).sent ≤ count_all (v.desks v.me).orders → 0 < count_all (v.desks v.me).orders
  pub r_is : r ≡ certificate v v.me content

-- a record that a node sends to a party, by what it is
pub data IsTelling {S : Type 0} (scope : Scope S) (v : View) (to : ℕ) (r : Record) : Type 0 where
  -- it isn't of an Order
  Else : IsNoOrder r.statement.body → IsTelling scope v to r
  -- it is the node's own Order, which it makes
  Makes : (c : Content) → to_order scope v to ≡ Some c → to ≢ v.me → r ≡ order_of scope v to c → IsTelling scope v to r
  -- or made
  Made : (c : Content) → IsLiveAt scope v to → (v.desks to).ordered ≡ Some c → to ≢ v.me → r ≡ order_of scope v to c
      → IsTelling scope v to r
  Certifies : IsCertifying scope v to r → IsTelling scope v to r

-- all packets are of the node, with such records
abbrev pub AreTelling : {S : Type 0} → Scope S → View → Acts → Type 0
AreTelling scope v acts = AreOfSuch v.me (IsTelling scope v) acts

-- where none is of an Order
pub telling_else : {S : Type 0} (scope : Scope S) (v : View) (acts : Acts) → AreOfSuch v.me IsElse acts → AreTelling scope v acts
telling_else scope v acts each i d low =
    let x = each i d low in record { to = x.to; r = x.r; packet_is = x.packet_is; such = Else x.such }

-- ---- by a rule

-- the guards of a host but the node itself
other_guards : {S : Type 0} (scope : Scope S) (v : View) (k : ℕ)
    → All (λ m. (scope.guards v.epoch k m ≡ true) × (m ≢ v.me)) (others v.me (guards_at scope v k))
unfolding guards_of
other_guards scope v k =
    others_all (λ m. scope.guards v.epoch k m ≡ true) v.me (guards_at scope v k)
    (there_all (λ m. scope.guards v.epoch k m ≡ true) (guards_at scope v k)
    (λ m among. (((lists_passing (scope.guards v.epoch k)).same m).0 among).0))

-- the certificate rule
certify_telling : {S : Type 0} (scope : Scope S) (v : View) (k : ℕ) (c : Content) → to_certify scope v k ≡ Some c
    → AreTelling scope v (acts_of scope v (Certificate k c))
unfolding to_certify certifying
certify_telling {S} scope v k c may =
    such_packets v.me (IsTelling scope v) (certificate v k c) (others v.me (guards_at scope v k))
    (λ i d low. let x = other_guards scope v k i d low in certifies _ x.0 x.1)
  where
    parts : ((((v.me == k) && (is_live scope v k && not v.wedged))
        && (is_certified scope v k && nat_lt (v.desks k).sent (count_all (v.desks k).orders))) ≡ true) × ((v.desks k).offered ≡ Some c)
    parts = only_if_some _ _ c may

    tests : (((v.me == k) && (is_live scope v k && not v.wedged)) ≡ true)
        × ((is_certified scope v k && nat_lt (v.desks k).sent (count_all (v.desks k).orders)) ≡ true)
    tests = both_true ((v.me == k) && (is_live scope v k && not v.wedged))
        (is_certified scope v k && nat_lt (v.desks k).sent (count_all (v.desks k).orders)) parts.0

    here : ((v.me == k) ≡ true) × ((is_live scope v k && not v.wedged) ≡ true)
    here = both_true (v.me == k) (is_live scope v k && not v.wedged) tests.0

    me : v.me ≡ k
    me = (Decides-eqb v.me k).0 here.0

    live : IsLiveAt scope v k
    live = live_is scope v k (both_true (is_live scope v k) (not v.wedged) here.1).0

    fewer : (v.desks k).sent < count_all (v.desks k).orders
    fewer = (Decides-ltb (v.desks k).sent (count_all (v.desks k).orders)).0
        (both_true (is_certified scope v k) (nat_lt (v.desks k).sent (count_all (v.desks k).orders)) tests.1).1

    certifies : (m : ℕ) → scope.guards v.epoch k m ≡ true → m ≢ v.me → IsTelling scope v m (certificate v k c)
    certifies m guards other = Certifies (record {
      content = c;
      live = subst (IsLiveAt scope v) (sym me) live;
      offered = subst (λ x. (v.desks x).offered ≡ Some c) (sym me) parts.1;
      guards = subst (λ x. scope.guards v.epoch x m ≡ true) (sym me) guards;
      other = other;
      some = subst (λ x. (v.desks x).sent ≤ count_all (v.desks x).orders → 0 < count_all (v.desks x).orders) (sym me)
          (λ le. omega (arith, fewer));
      r_is = ap (λ x. certificate v x c) (sym me);
    })

-- each rule that is enabled
pub rule_telling : {S : Type 0} (scope : Scope S) (v : View) (rule : Rule) → Enabled scope v rule
    → AreTelling scope v (acts_of scope v rule)
unfolding made_for ordering
rule_telling scope v (Offer k c) may =
    telling_else scope v (acts_of scope v (Offer k c))
    (else_made scope v.me v.epoch (body.Filled kind.Offer k (length_of v k) c) _ _ (offer_else k (length_of v k) c))
rule_telling scope v (Order k c) may =
    such_packets v.me (IsTelling scope v) (order_of scope v k c) (others v.me (k ∷ []))
    (λ i d low.
    let x = others_all (λ m. m ≡ k) v.me (k ∷ []) (All-cons (λ m. m ≡ k) k [] refl (All-nil (λ m. m ≡ k))) i d low in
    Makes c (subst (λ m. to_order scope v m ≡ Some c) (sym x.0) may) x.1 (ap (λ m. order_of scope v m c) (sym x.0)))
rule_telling scope v (Certificate k c) may = certify_telling scope v k c may
rule_telling scope v (Deliver k c) may =
    telling_else scope v (acts_of scope v (Deliver k c))
    (else_made scope v.me v.epoch (body.Filled kind.Deliver k (length_of v k) c) _ _ (deliver_else k (length_of v k) c))
rule_telling scope v (Log k c) may = All-nil (IsOfSuch v.me (IsTelling scope v))
rule_telling scope v (Attest p k n payload) may =
    telling_else scope v (acts_of scope v (Attest p k n payload))
    (else_made scope v.me v.epoch (body.Attest p k n payload) _ _ (attest_else p k n payload))

-- ---- by an answer

-- who asks about h: another guard of it
record IsAsking {S : Type 0} (scope : Scope S) (v : View) (h asker : ℕ) : Type 0 where
  live : IsLiveAt scope v h
  guards : scope.guards v.epoch h asker ≡ true
  other : asker ≢ v.me

-- where there is such a record
optional : (Such : Record → Type 0) (b : Bool) (o : Option Record) → ((r : Record) → b ≡ true → o ≡ Some r → Such r)
    → All Such (option_to_list (only_if b o))
optional Such false o each = All-nil Such
optional Such true None each = All-nil Such
optional Such true (Some r) each = All-cons Such r [] (each r refl refl) (All-nil Such)

-- a record that is made of a content, if there is one
mapped : {A : Type 0} (o : Option A) (make : A → Record) (r : Record) → option_map make o ≡ Some r
    → (x : A) × (o ≡ Some x) × (r ≡ make x)
mapped None make r is = absurd (cc)
mapped (Some x) make r is = (x, refl, cc)

-- what it has for the open slot
open_telling : {S : Type 0} (scope : Scope S) (v : View) (h asker : ℕ) → IsAsking scope v h asker
    → All (IsTelling scope v asker) (open_records scope v h asker)
unfolding own_record
open_telling {S} scope v h asker asks =
    All-append Such first (second ++ (third ++ last))
    (optional Such (v.me == h) (offer_record scope v h) (λ r here is.
    let one = mapped (v.desks h).offered (λ c. record_of scope v h (body.Filled kind.Offer h (length_of v h) c)) r is in
    Else (λ x slot content says. offer_else h (length_of v h) one.0 x slot content (sym (ap (λ (y : Record). y.statement.body) one.2) ∙ says))))
    (All-append Such second (third ++ last)
    (optional Such (v.me == h) (certificate_record v h) certificate_telling)
    (All-append Such third last (optional Such (asker == h) (order_record scope v h) order_telling) (deliver_telling (deliver_record scope v h) refl)))
  where
    Such : Record → Type 0
    Such = IsTelling scope v asker

    first : List Record
    first = option_to_list (only_if (v.me == h) (offer_record scope v h))

    second : List Record
    second = option_to_list (only_if (v.me == h) (certificate_record v h))

    third : List Record
    third = option_to_list (only_if (asker == h) (order_record scope v h))

    last : List Record
    last = option_to_list (deliver_record scope v h)

    certificate_telling : (r : Record) → (v.me == h) ≡ true → certificate_record v h ≡ Some r → Such r
    certificate_telling r here is =
        let me = (Decides-eqb v.me h).0 here in
        let parts = only_if_some (nat_lt 0 (v.desks h).sent) (option_map (certificate v h) (v.desks h).offered) r is in
        let one = mapped (v.desks h).offered (certificate v h) r parts.1 in
        let sent = (Decides-ltb 0 (v.desks h).sent).0 parts.0 in
        Certifies (record {
          content = one.0;
          live = subst (IsLiveAt scope v) (sym me) asks.live;
          offered = subst (λ x. (v.desks x).offered ≡ Some one.0) (sym me) one.1;
          guards = subst (λ x. scope.guards v.epoch x asker ≡ true) (sym me) asks.guards;
          other = asks.other;
          some = subst (λ x. (v.desks x).sent ≤ count_all (v.desks x).orders → 0 < count_all (v.desks x).orders) (sym me)
              (λ le. omega (arith, le, sent));
          r_is = one.2 ∙ ap (λ x. certificate v x one.0) (sym me);
        })

    order_telling : (r : Record) → (asker == h) ≡ true → order_record scope v h ≡ Some r → Such r
    order_telling r here is =
        let at = (Decides-eqb asker h).0 here in
        let one = mapped (v.desks h).ordered (order_of scope v h) r is in
        Made one.0 (subst (IsLiveAt scope v) (sym at) asks.live)
        (subst (λ x. (v.desks x).ordered ≡ Some one.0) (sym at) one.1) asks.other (one.2 ∙ ap (λ x. order_of scope v x one.0) (sym at))

    deliver_telling : (o : Option Record) → deliver_record scope v h ≡ o → All Such (option_to_list o)
    deliver_telling None is = All-nil Such
    deliver_telling (Some r) is =
        let one = mapped (v.desks h).delivered (λ c. record_of scope v h (body.Filled kind.Deliver h (length_of v h) c)) r is in
        All-cons Such r [] (Else (λ x slot content says.
        deliver_else h (length_of v h) one.0 x slot content (sym (ap (λ (y : Record). y.statement.body) one.2) ∙ says))) (All-nil Such)

-- the votes that are kept
kept_telling : {S : Type 0} (scope : Scope S) (v : View) (h slot asker : ℕ) → All (IsTelling scope v asker) (kept_records v h slot)
kept_telling {S} scope v h slot asker = by (filter (λ (k : Kept). k.slot == slot) (v.kept h))
  where
    made : Kept → Record
    made k = record { statement = said_in v.epoch (body.Filled kind.Deliver h slot k.content); makers = k.makers }

    by : (ks : List Kept) → All (IsTelling scope v asker) (map made ks)
    by [] = All-nil (IsTelling scope v asker)
    by (k ∷ ks) = All-cons (IsTelling scope v asker) (made k) (map made ks) (Else (deliver_else h slot k.content)) (by ks)

-- what it attests
attests_telling : {S : Type 0} (scope : Scope S) (v : View) (h asker : ℕ) → All (IsTelling scope v asker) (attest_records scope v h)
unfolding attest_records own_record
attests_telling {S} scope v h asker =
    all_flat Such (window_records scope v h) (filter (λ p. scope.rules.linked p h) all_hosts) (λ p. by p (range_with_len (next_number scope v p h) 64))
  where
    Such : Record → Type 0
    Such = IsTelling scope v asker

    by : (p : ℕ) (ks : List ℕ) → All Such (filter_map (attest_record scope v p h) ks)
    by p [] = All-nil Such
    by p (k ∷ ks) = at (own_attest scope v p h k) (by p ks)
      where
        rest : List Record
        rest = filter_map (attest_record scope v p h) ks

        told : List ℤ → Record
        told payload = record_of scope v h (body.Attest p h k payload)

        at : (o : Option (List ℤ)) → All Such rest → All Such (cons_option (option_map told o) rest)
        at None each = each
        at (Some payload) each = All-cons Such (told payload) rest (Else (attest_else p h k payload)) each

-- all that it answers one asker
asker_telling : {S : Type 0} (scope : Scope S) (v : View) (h slot asker : ℕ) → IsAsking scope v h asker
    → All (IsOfSuch v.me (IsTelling scope v)) (answers_to scope v h slot asker)
unfolding answers_to slot_records
asker_telling {S} scope v h slot asker asks =
    such_answers v.me (IsTelling scope v) asker
    ((if slot == length_of v h then open_records scope v h asker else kept_records v h slot) ++ attest_records scope v h)
    (All-append (IsTelling scope v asker) (if slot == length_of v h then open_records scope v h asker else kept_records v h slot)
    (attest_records scope v h) (by (slot == length_of v h)) (attests_telling scope v h asker))
  where
    by : (b : Bool) → All (IsTelling scope v asker) (if b then open_records scope v h asker else kept_records v h slot)
    by true = open_telling scope v h asker asks
    by false = kept_telling scope v h slot asker

-- those that pass a test do
passing_all : {A : Type 0} (test : A → Bool) (xs : List A) → All (λ x. test x ≡ true) (filter test xs)
passing_all test [] = All-nil (λ x. test x ≡ true)
passing_all {A} test (y ∷ ys) = by (test y) refl (passing_all test ys)
  where
    by : (b : Bool) → test y ≡ b → All (λ x. test x ≡ true) (filter test ys)
        → All (λ x. test x ≡ true) (cond b (y ∷ filter test ys) (filter test ys))
    by true is rest = All-cons (λ x. test x ≡ true) y (filter test ys) is rest
    by false is rest = rest

-- what it answers all of them
answering_telling : {S : Type 0} (scope : Scope S) (v : View) (h slot : ℕ) (makers : List Tags)
    → All (λ t. IsAsking scope v h t.maker) makers → AreTelling scope v (answering scope v h slot makers)
unfolding answering
answering_telling {S} scope v h slot makers each = by makers each
  where
    Such : Sent → Type 0
    Such = IsOfSuch v.me (IsTelling scope v)

    by : (ts : List Tags) → All (λ t. IsAsking scope v h t.maker) ts → All Such (flat_map (λ t. answers_to scope v h slot t.maker) ts)
    by [] all = All-nil Such
    by (t ∷ ts) all =
        All-append Such (answers_to scope v h slot t.maker) (flat_map (λ x. answers_to scope v h slot x.maker) ts)
        (asker_telling scope v h slot t.maker (All-head (λ x. IsAsking scope v h x.maker) t ts all))
        (by ts (All-tail (λ x. IsAsking scope v h x.maker) t ts all))

-- each accepted maker of a question asks
asks_of : {S : Type 0} (scope : Scope S) (v : View) (r : Record) (h slot : ℕ) → r.statement.body ≡ body.Ask h slot
    → misplaced_body scope v r.statement.epoch (body.Ask h slot) ≡ None
    → All (λ t. IsAsking scope v h t.maker) (accepted scope r.statement.epoch v.me r)
unfolding accepted accepts
asks_of {S} scope v r h slot says is i d low = asking _ (passing_all test r.makers i d low)
  where
    test : Tags → Bool
    test t = not (t.maker == v.me) && (permits scope r.statement.epoch r.statement.body t.maker && verifies scope v.me r.statement t)

    current : (r.statement.epoch ≡ v.epoch) × (ask_drop scope v h slot ≡ None)
    current = current_is v r.statement.epoch (ask_drop scope v h slot) is

    live : IsLiveAt scope v h
    live = live_is scope v h (passed_on (is_live scope v h) _ _ current.1).0

    asking : (t : Tags) → test t ≡ true → IsAsking scope v h t.maker
    asking t passes =
        let first = both_true (not (t.maker == v.me))
        (permits scope r.statement.epoch r.statement.body t.maker && verifies scope v.me r.statement t) passes in
        let second = both_true (permits scope r.statement.epoch r.statement.body t.maker) (verifies scope v.me r.statement t) first.1 in
        let other = not_true (t.maker == v.me) first.0 in record {
          live = live;
          guards = subst (λ e. scope.guards e h t.maker ≡ true) current.0
              (subst (λ b. permits scope r.statement.epoch b t.maker ≡ true) says second.0);
          other = λ same. let yes = (Decides-eqb t.maker v.me).1 same in let no = sym other ∙ yes in cc;
        }

-- by a record that isn't dropped
body_telling : {S : Type 0} (scope : Scope S) (v : View) (r : Record) (said : Body) → r.statement.body ≡ said
    → misplaced_body scope v r.statement.epoch said ≡ None
    → AreTelling scope v (acts_by_body scope v said (accepted scope r.statement.epoch v.me r))
body_telling scope v r (body.Filled kind.Offer h slot c) says is = All-nil (IsOfSuch v.me (IsTelling scope v))
body_telling scope v r (body.Filled kind.Order h slot c) says is = All-nil (IsOfSuch v.me (IsTelling scope v))
body_telling scope v r (body.Filled kind.Deliver h slot c) says is = All-nil (IsOfSuch v.me (IsTelling scope v))
body_telling scope v r (body.Filled kind.Report h slot c) says is = All-nil (IsOfSuch v.me (IsTelling scope v))
body_telling scope v r (body.Filled kind.Inherit h slot c) says is = All-nil (IsOfSuch v.me (IsTelling scope v))
body_telling scope v r (body.Attest p h n payload) says is = All-nil (IsOfSuch v.me (IsTelling scope v))
body_telling scope v r (body.Ask h slot) says is =
    answering_telling scope v h slot (accepted scope r.statement.epoch v.me r) (asks_of scope v r h slot says is)
body_telling scope v r body.Wedge says is = telling_else scope v (reporting scope v) (else_reporting scope v)
body_telling scope v r (body.Frozen h slot) says is = All-nil (IsOfSuch v.me (IsTelling scope v))
body_telling scope v r (body.Open lengths) says is = All-nil (IsOfSuch v.me (IsTelling scope v))

-- so it is
pub record_telling : {S : Type 0} (scope : Scope S) (v : View) (r : Record) → verdict scope v r ≡ None
    → AreTelling scope v (acts_by scope v r)
unfolding verdict misplaced acts_by
record_telling scope v r is =
    let makers = accepted scope r.statement.epoch v.me r in
    body_telling scope v r r.statement.body refl
    (or_none (misplaced_body scope v r.statement.epoch r.statement.body) (untagged makers) is).0
