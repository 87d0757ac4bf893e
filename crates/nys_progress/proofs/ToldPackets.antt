-- What stands in the packets that a party sends: records of its own, of which those of Orders are its own Orders and the
-- certificates of its offer.
use Rattle.std.proofs.Common.{◌≡◌, ◌≢◌, ℕ, zero, suc, ◌<◌, ◌≤◌, ◌==◌, ◌&&◌, Bool, true, false, ℤ, List, [], ◌∷◌, ◌++◌, map, Some, None, refl, ap, sym, subst, ◌∙◌, arith}
use Rattle.std.specs.Prelude.{All, Contains, cond, drop, filter, filter_map, flat_map, if◌then◌else◌, nat_le, nat_lt, not, Option, option_map}
use Rattle.std.specs.List.{enumerate_from, range_with_len}
use Rattle.std.specs.Option.{option_to_list}
use Rattle.std.proofs.lemmas.Bool.{ne_eqb}
use Rattle.std.proofs.lemmas.Bool.Decides.{Decides-eqb, Decides-ltb}
use Rattle.std.proofs.lemmas.List.Elements.{All-append, All-cons, All-contains, All-filter, All-head, All-nil, All-tail}
use Rattle.nys_bytes.specs.declared.content.Content.{Content}
use Rattle.nys_hosts.proofs.ListLemmas.{lists_passing}
use Rattle.nys_votes.specs.Seats.{count_all}
use Rattle.nys_stmt.specs.declared.records.Record.{Record}
use Rattle.nys_stmt.specs.declared.statement.Body.{Body}
use Rattle.nys_stmt.specs.declared.statement.Body.TheVariants as body
use Rattle.nys_stmt.specs.declared.statement.FilledKind.TheVariants as kind
use Rattle.nys_stmt.specs.declared.statement.Statement.{Statement}
use Rattle.nys_stmt.specs.declared.tags.Tags.{Tags}
use Rattle.nys_rules.specs.declared.kept.Kept.{Kept}
use Rattle.nys_rules.specs.declared.rule.Rule.{Rule}
use Rattle.nys_rules.specs.declared.rule.Rule.TheVariants.{Attest, Certificate, Deliver, Log, Offer, Order}
use Rattle.nys_rules.specs.Asking.{all_hosts, answering, answers_to, asked_hosts, attest_record, attest_records, certificate_record, deliver_record, kept_records, offer_record, open_records, order_record, questions, slot_records, window_records}
use Rattle.nys_rules.specs.Dropping.{accepted, accepts, ask_drop, misplaced, misplaced_body, permits, untagged, verdict, verifies}
use Rattle.nys_rules.specs.Ending.{entry_reports, reporting, testimony, told_from, vote_report}
use Rattle.nys_rules.specs.Handling.{acts_by, acts_by_body}
use Rattle.nys_rules.specs.Heads.{own_attest}
use Rattle.nys_rules.specs.Olympus.{hosts_of, inheritance, lengths_told, OlympusView, opening_acts, proclaimed}
use Rattle.nys_rules.specs.Packets.{Acts, all_joined, joined, nothing, Sent}
use Rattle.nys_rules.specs.Rules.{Enabled, is_certified, only_if, to_certify, to_order}
use Rattle.nys_rules.specs.Scope.{guards_of, olympus, Scope}
use Rattle.nys_rules.specs.Sending.{guards_at, made_for, others, own_record, packet, record_of, said_in, to_each, to_guards, to_olympus}
use Rattle.nys_rules.specs.Taking.{acts_of, certificate, certifying, ordering}
use Rattle.nys_rules.specs.View.{is_live, length_of, next_number, View}
use Rattle.nys_rules.proofs.CertificateLemmas.{both_true, only_if_some}
use Rattle.nys_rules.proofs.SearchLemmas.{or_none}
use Rattle.nys_laws.specs.Grounds.{IsLiveAt}
use Rattle.nys_laws.proofs.GrownLemmas.{all_keep, each_given, JoinsKeep}
use Rattle.nys_laws.proofs.HeardLemmas.{current_is, passed_on}
use Rattle.nys_laws.proofs.LiveLemmas.{live_is}

-- ---- records in packets

-- the packet is of the party, to one for which it has such a record
pub record IsOfSuch (me : ℕ) (Such : ℕ → Record → Type 0) (p : Sent) : Type 0 where
  pub to : ℕ
  pub r : Record
  pub packet_is : p ≡ packet me to r
  pub such : Such to r

-- all packets are
abbrev pub AreOfSuch : (me : ℕ) → (ℕ → Record → Type 0) → Acts → Type 0
AreOfSuch me Such acts = All (IsOfSuch me Such) acts.packets

-- the one, then the other
such_joins : (me : ℕ) (Such : ℕ → Record → Type 0) → JoinsKeep (AreOfSuch me Such)
such_joins me Such =
    record { none = All-nil (IsOfSuch me Such); both = λ a b p q. All-append (IsOfSuch me Such) a.packets b.packets p q }

-- one record to each of some parties
pub such_packets : (me : ℕ) (Such : ℕ → Record → Type 0) (r : Record) (receivers : List ℕ) → All (λ m. Such m r) receivers
    → All (IsOfSuch me Such) (to_each me r receivers)
unfolding to_each
such_packets me Such r [] each = All-nil (IsOfSuch me Such)
such_packets me Such r (m ∷ receivers) each =
    All-cons (IsOfSuch me Such) (packet me m r) (to_each me r receivers)
    (record { to = m; r = r; packet_is = refl; such = All-head (λ x. Such x r) m receivers each })
    (such_packets me Such r receivers (All-tail (λ x. Such x r) m receivers each))

-- such records to one party
pub such_answers : (me : ℕ) (Such : ℕ → Record → Type 0) (asker : ℕ) (records : List Record) → All (Such asker) records
    → All (IsOfSuch me Such) (map (packet me asker) records)
such_answers me Such asker [] each = All-nil (IsOfSuch me Such)
such_answers me Such asker (r ∷ records) each =
    All-cons (IsOfSuch me Such) (packet me asker r) (map (packet me asker) records)
    (record { to = asker; r = r; packet_is = refl; such = All-head (Such asker) r records each })
    (such_answers me Such asker records (All-tail (Such asker) r records each))

-- what holds of all of a list holds of those that a party sends to but itself
pub others_all : (P : ℕ → Type 0) (me : ℕ) (receivers : List ℕ) → All P receivers → All (λ m. P m × (m ≢ me)) (others me receivers)
others_all P me [] each = All-nil (λ m. P m × (m ≢ me))
others_all P me (x ∷ receivers) each =
    by (x == me) refl (others_all P me receivers (All-tail P x receivers each))
  where
    by : (b : Bool) → (x == me) ≡ b → All (λ m. P m × (m ≢ me)) (others me receivers)
        → All (λ m. P m × (m ≢ me)) (cond (not b) (x ∷ others me receivers) (others me receivers))
    by true is rest = rest
    by false is rest = All-cons (λ m. P m × (m ≢ me)) x (others me receivers)
        (All-head P x receivers each, λ same. let yes = (Decides-eqb x me).1 same in let no = sym is ∙ yes in cc) rest

-- any party
any_party : (receivers : List ℕ) → All (λ m. Unit {0}) receivers
any_party [] = All-nil (λ m. Unit {0})
any_party (x ∷ receivers) = All-cons (λ m. Unit {0}) x receivers tt (any_party receivers)

-- each of a list is there
pub there_all : (P : ℕ → Type 0) (xs : List ℕ) → ((x : ℕ) → Contains xs x → P x) → All P xs
there_all P [] each = All-nil P
there_all P (x ∷ xs) each =
    All-cons P x xs (each x (0, omega arith, refl))
    (there_all P xs (λ y among. each y (suc among.0, omega (arith, among.1), among.2)))

-- ---- records that aren't of Orders

-- the body isn't that of an Order
abbrev pub IsNoOrder : Body → Type 0
IsNoOrder said = (h slot : ℕ) (content : Content) → said ≡ body.Filled kind.Order h slot content → ⊥

-- the record isn't one of an Order, whomever it is for
abbrev pub IsElse : ℕ → Record → Type 0
IsElse to r = IsNoOrder r.statement.body

-- other statements of what is filled in
pub offer_else : (h s : ℕ) (c : Content) → IsNoOrder (body.Filled kind.Offer h s c)
offer_else h s c x slot content is = cc

pub deliver_else : (h s : ℕ) (c : Content) → IsNoOrder (body.Filled kind.Deliver h s c)
deliver_else h s c x slot content is = cc

report_else : (h s : ℕ) (c : Content) → IsNoOrder (body.Filled kind.Report h s c)
report_else h s c x slot content is = cc

inherit_else : (h s : ℕ) (c : Content) → IsNoOrder (body.Filled kind.Inherit h s c)
inherit_else h s c x slot content is = cc

-- of what isn't
pub attest_else : (p h k : ℕ) (payload : List ℤ) → IsNoOrder (body.Attest p h k payload)
attest_else p h k payload x slot content is = cc

ask_else : (h s : ℕ) → IsNoOrder (body.Ask h s)
ask_else h s x slot content is = cc

wedge_else : IsNoOrder body.Wedge
wedge_else x slot content is = cc

frozen_else : (h s : ℕ) → IsNoOrder (body.Frozen h s)
frozen_else h s x slot content is = cc

open_else : (lengths : List (Option ℕ)) → IsNoOrder (body.Open lengths)
open_else lengths x slot content is = cc

-- a statement that isn't an Order, to whomever it is sent
pub else_made : {S : Type 0} (scope : Scope S) (maker e : ℕ) (said : Body) (receivers sent_to : List ℕ) → IsNoOrder said
    → AreOfSuch maker IsElse (made_for scope maker (said_in e said) receivers sent_to)
unfolding made_for own_record
else_made {S} scope maker e said receivers sent_to other =
    such_packets maker IsElse (own_record scope maker (said_in e said) receivers) (others maker sent_to) (each (others maker sent_to))
  where
    each : (xs : List ℕ) → All (λ m. IsElse m (own_record scope maker (said_in e said) receivers)) xs
    each [] = All-nil (λ m. IsNoOrder said)
    each (x ∷ xs) = All-cons (λ m. IsNoOrder said) x xs other (each xs)

-- what a node asks
pub else_questions : {S : Type 0} (scope : Scope S) (v : View) → AreOfSuch v.me IsElse (questions scope v)
unfolding questions
else_questions {S} scope v = by v.wedged
  where
    ask : ℕ → Acts
    ask h = to_guards scope v h (body.Ask h (length_of v h))

    by : (b : Bool) → AreOfSuch v.me IsElse (if b then nothing else all_joined (map ask (asked_hosts scope v)))
    by true = All-nil (IsOfSuch v.me IsElse)
    by false = all_keep (AreOfSuch v.me IsElse) (such_joins v.me IsElse) (map ask (asked_hosts scope v))
        (each_given (AreOfSuch v.me IsElse) ask (asked_hosts scope v)
        (λ h. else_made scope v.me v.epoch (body.Ask h (length_of v h)) _ _ (ask_else h (length_of v h))))

-- what holds of all that a function gives for each value holds of all together
pub all_flat : {A B : Type 0} (P : B → Type 0) (f : A → List B) (xs : List A) → ((x : A) → All P (f x)) → All P (flat_map f xs)
all_flat P f [] each = All-nil P
all_flat P f (x ∷ xs) each = All-append P (f x) (flat_map f xs) (each x) (all_flat P f xs each)

-- what it tells of its vote
else_vote : (h s : ℕ) (vote : Option Content)
    → All IsNoOrder (option_to_list (option_map (λ c. body.Filled kind.Report h s c) vote))
else_vote h s None = All-nil IsNoOrder
else_vote h s (Some c) = All-cons IsNoOrder (body.Filled kind.Report h s c) [] (report_else h s c) (All-nil IsNoOrder)

-- what it tells about a host
else_testimony : (v : View) (h : ℕ) → All IsNoOrder (testimony v h)
unfolding testimony
else_testimony v h =
    All-append IsNoOrder (entry_reports v h) (vote_report v h ++ body.Frozen h (v.voted_to h) ∷ [])
    (each_given IsNoOrder (λ (x : ℕ × Content). body.Filled kind.Report h x.0 x.1) (enumerate_from (told_from v h) (drop (told_from v h) (v.logs h)))
    (λ x. report_else h x.0 x.1))
    (All-append IsNoOrder (vote_report v h) (body.Frozen h (v.voted_to h) ∷ []) (else_vote h (length_of v h) (v.desks h).delivered)
    (All-cons IsNoOrder (body.Frozen h (v.voted_to h)) [] (frozen_else h (v.voted_to h)) (All-nil IsNoOrder)))

-- bodies that are told to the Olympus
else_told : {S : Type 0} (scope : Scope S) (v : View) (bodies : List Body) → All IsNoOrder bodies
    → All (AreOfSuch v.me IsElse) (map (to_olympus scope v) bodies)
else_told scope v [] each = All-nil (AreOfSuch v.me IsElse)
else_told scope v (said ∷ bodies) each =
    All-cons (AreOfSuch v.me IsElse) (to_olympus scope v said) (map (to_olympus scope v) bodies)
    (else_made scope v.me v.epoch said (olympus ∷ []) (olympus ∷ []) (All-head IsNoOrder said bodies each))
    (else_told scope v bodies (All-tail IsNoOrder said bodies each))

-- what it tells where the epoch ends
pub else_reporting : {S : Type 0} (scope : Scope S) (v : View) → AreOfSuch v.me IsElse (reporting scope v)
unfolding reporting
else_reporting scope v =
    let bodies = flat_map (testimony v) (filter (is_live scope v) all_hosts) in
    all_keep (AreOfSuch v.me IsElse) (such_joins v.me IsElse) (map (to_olympus scope v) bodies)
    (else_told scope v bodies (all_flat IsNoOrder (testimony v) (filter (is_live scope v) all_hosts) (else_testimony v)))

-- ---- what the Olympus makes

-- the end of an epoch
pub else_wedge : {S : Type 0} (scope : Scope S) (e : ℕ) (receivers : List ℕ)
    → AreOfSuch olympus IsElse (proclaimed scope e body.Wedge receivers)
else_wedge scope e receivers = else_made scope olympus e body.Wedge receivers receivers wedge_else

-- the beginning of one
pub else_opening : {S : Type 0} (scope : Scope S) (o : OlympusView) (e : ℕ) → AreOfSuch olympus IsElse (opening_acts scope o e)
unfolding opening_acts
else_opening {S} scope o e =
    all_keep (AreOfSuch olympus IsElse) (such_joins olympus IsElse) (first ∷ flat_map (inheritance scope o e) kept)
    (All-cons (AreOfSuch olympus IsElse) first (flat_map (inheritance scope o e) kept)
    (else_made scope olympus e (body.Open (lengths_told scope o)) _ _ (open_else (lengths_told scope o)))
    (all_flat (AreOfSuch olympus IsElse) (inheritance scope o e) kept inherits))
  where
    first : Acts
    first = proclaimed scope e (body.Open (lengths_told scope o)) (hosts_of scope)

    kept : List ℕ
    kept = filter (λ h. not (o.retired h)) (hosts_of scope)

    inherits : (h : ℕ) → All (AreOfSuch olympus IsElse) (inheritance scope o e h)
    inherits h = each_given (AreOfSuch olympus IsElse)
        (λ (x : ℕ × Content). proclaimed scope e (body.Filled kind.Inherit h x.0 x.1) (guards_of scope e h)) (enumerate_from 0 (o.decided h))
        (λ x. else_made scope olympus e (body.Filled kind.Inherit h x.0 x.1) _ _ (inherit_else h x.0 x.1))
