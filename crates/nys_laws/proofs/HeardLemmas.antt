-- A view goes on to keep only what is true of others, whichever rule it takes and whatever it notes.
use Rattle.std.proofs.Common.{◌≡◌, ℕ, zero, ◌+◌, ◌==◌, ◌&&◌, Bool, true, false, ℤ, List, [], ◌∷◌, ◌++◌, length, Some, None, refl, sym, subst, ◌∙◌, inl, inr, arith}
use Rattle.std.specs.Prelude.{Contains, Option, if◌then◌else◌, nat_lt, not}
use Rattle.std.proofs.lemmas.Bool.Decides.{Decides-eqb}
use Rattle.std.proofs.lemmas.List.Elements.{All-contains, filter_passes}
use Rattle.nys_bytes.specs.declared.content.Content.{Content}
use Rattle.nys_agreement.proofs.TableLemmas.{put_at_case, put_case, put_there}
use Rattle.nys_source.specs.Tables.{put, put_at}
use Rattle.nys_stmt.specs.declared.records.Record.{Record}
use Rattle.nys_stmt.specs.declared.statement.Body.{Body}
use Rattle.nys_stmt.specs.declared.statement.Body.TheVariants as body
use Rattle.nys_stmt.specs.declared.statement.FilledKind.TheVariants as kind
use Rattle.nys_stmt.specs.declared.statement.Statement.{Statement}
use Rattle.nys_stmt.specs.declared.tags.Tags.{Tags}
use Rattle.nys_votes.specs.Seats.{seat_of}
use Rattle.nys_rules.specs.declared.cause.DropCause.{DropCause}
use Rattle.nys_rules.specs.declared.rule.Rule.{Rule}
use Rattle.nys_rules.specs.declared.rule.Rule.TheVariants.{Offer, Order, Certificate, Deliver, Log, Attest}
use Rattle.nys_rules.specs.Dropping.{accepted, accepts, attest_drop, if_current, misplaced, misplaced_body, permits, unless, untagged, verdict, verifies, vote_drop}
use Rattle.nys_rules.specs.Forged.{Entry, HasMade, makers_told, with_made}
use Rattle.nys_rules.specs.Handling.{acts_by, noted_by}
use Rattle.nys_rules.specs.Happening.{AreTrue}
use Rattle.nys_rules.specs.Heads.{with_heads}
use Rattle.nys_rules.specs.Logging.{logged, with_entry}
use Rattle.nys_rules.specs.Noting.{at_desk, bases, hearing, noted, noted_body, retirements, with_attests, with_certificate, with_held, with_orders, with_votes}
use Rattle.nys_rules.specs.Packets.{nothing}
use Rattle.nys_rules.specs.Rules.{due, Enabled}
use Rattle.nys_rules.specs.Scope.{quorum_at, Scope}
use Rattle.nys_rules.specs.Sending.{made_for, said_in}
use Rattle.nys_rules.specs.Taking.{acts_of, ordering, own_tags, taken, with_deliver, with_kept, with_offer, with_order, with_sent}
use Rattle.nys_rules.specs.View.{Desk, empty_desk, entering, first_view, is_live, is_open, length_of, View, with_links}
use Rattle.nys_rules.specs.World.{Setting}
use Rattle.nys_rules.proofs.CertificateLemmas.{both_true}
use Rattle.nys_rules.proofs.DueLemmas.{due_enabled}
use Rattle.nys_rules.proofs.SearchLemmas.{or_none}
use Rattle.nys_rules.proofs.SeatCases.{hearing_case}
use Rattle.nys_laws.specs.Heard.{HearsTruly, IsTrueDesk, WasMade, WasSaid}
use Rattle.nys_laws.specs.Own.{body_at, Stage}
use Rattle.nys_laws.specs.Own.Stage.{Offered, Ordered, Delivered}
use Rattle.nys_laws.proofs.AcceptedLemmas.{accepted_true}
use Rattle.nys_laws.proofs.DeskLemmas.{AllSaid, certificate_true, deliver_true, empty_true, held_true, more_true, no_seat, offer_true, order_true, orders_true, sent_true, votes_true, Words}
use Rattle.nys_laws.proofs.LedgerLemmas.{made_before, made_now}
use Rattle.nys_laws.proofs.ViewLemmas.{offer_by_host, offer_new}

-- what is said of the open slot of a host, in the epoch of the node
abbrev pub words_at : {S : Type 0} → Setting S → List Entry → View → ℕ → Words
words_at setting ledger v h = WasSaid setting ledger v.epoch h (length_of v h)

-- where more was made
heard_more : {S : Type 0} (setting : Setting S) (g party : ℕ) (made : List Statement) (ledger : List Entry) (v : View)
    → HearsTruly setting g ledger v → HearsTruly setting g (with_made party made ledger) v
heard_more setting g party made ledger v k = record {
  host = k.host;
  desks = λ h.
      more_true (words_at setting ledger v h) (words_at setting (with_made party made ledger) v h) h (v.desks h)
      (λ stage m content was low honest.
      made_before party made ledger m (said_in v.epoch (body_at stage h (length_of v h) content)) (was low honest))
      (k.desks h);
  heard = λ p h n m payload e low honest.
      made_before party made ledger m (said_in v.epoch (body.Attest p h n payload)) (k.heard p h n m payload e low honest);
}

-- a desk that changes and stays true
desk_heard : {S : Type 0} (setting : Setting S) (g : ℕ) (ledger : List Entry) (h : ℕ) (change : Desk → Desk) (v : View)
    → (IsTrueDesk (words_at setting ledger v h) h (v.desks h) → IsTrueDesk (words_at setting ledger v h) h (change (v.desks h)))
    → HearsTruly setting g ledger v → HearsTruly setting g ledger (at_desk h change v)
desk_heard setting g ledger h change v keeps k = record {
  host = k.host;
  desks = λ x.
      put_case (IsTrueDesk (words_at setting ledger v x) x) v.desks h (change (v.desks h)) x
      (λ e. subst (λ y. IsTrueDesk (words_at setting ledger v y) y (change (v.desks h))) (sym e) (keeps (k.desks h)))
      (λ ne. k.desks x);
  heard = k.heard;
}

-- a log that grows, behind which the desk is empty
logged_heard : {S : Type 0} (setting : Setting S) (g : ℕ) (ledger : List Entry) (h : ℕ) (content : Content) (v : View)
    → HearsTruly setting g ledger v → HearsTruly setting g ledger (logged setting.scope h content v)
unfolding logged with_heads with_links
logged_heard setting g ledger h content v k = record {
  host = k.host;
  desks = λ x.
      put_case (IsTrueDesk (words_at setting ledger (with_entry h content v) x) x) v.desks h empty_desk x
      (λ e. empty_true (words_at setting ledger (with_entry h content v) x) x)
      (λ ne.
      subst (λ log. IsTrueDesk (WasSaid setting ledger v.epoch x (length log)) x (v.desks x))
      (sym (put_there v.logs h (v.logs h ++ content ∷ []) x ne)) (k.desks x));
  heard = k.heard;
}

-- an epoch that begins
entering_heard : {S : Type 0} (setting : Setting S) (g : ℕ) (ledger : List Entry) (e : ℕ) (base : ℕ → ℕ) (retired : ℕ → Bool)
    (v : View) → v.me ≡ g → HearsTruly setting g ledger (entering setting.scope e base retired v)
unfolding entering with_links
entering_heard setting g ledger e base retired v host = record {
  host = host;
  desks = λ h. empty_true (WasSaid setting ledger e h (length_of v h)) h;
  heard = λ p h n m payload is. absurd (no_seat m payload is);
}

-- a statement that a node makes now
now_made : {S : Type 0} (setting : Setting S) (g m : ℕ) (ledger : List Entry) (s : Statement)
    → g ≡ m
    → WasMade setting (with_made g (s ∷ []) ledger) m s
now_made setting g m ledger s same low honest =
    subst (λ x. HasMade (with_made g (s ∷ []) ledger) x s) same (made_now g ledger s)

-- each rule that is enabled
enabled_heard : {S : Type 0} (setting : Setting S) (v : View) (rule : Rule)
    → Enabled setting.scope v rule
    → (g : ℕ) (ledger : List Entry) → HearsTruly setting g ledger v
    → HearsTruly setting g (with_made g (acts_of setting.scope v rule).made ledger) (taken setting.scope v rule)
unfolding made_for ordering with_heads
enabled_heard setting v (Offer h content) e g ledger k =
    let s = said_in v.epoch (body.Filled kind.Offer h (length_of v h) content) in
    let next = with_made g (s ∷ []) ledger in
    let same : g ≡ h = sym k.host ∙ offer_by_host setting.scope v h content e in
    desk_heard setting g next h (with_offer content) v
    (offer_true (words_at setting next v h) h content (v.desks h) (offer_new setting.scope v h content e)
    (now_made setting g h ledger s same))
    (heard_more setting g g (s ∷ []) ledger v k)
enabled_heard setting v (Order h content) e g ledger k =
    let s = said_in v.epoch (body.Filled kind.Order h (length_of v h) content) in
    let next = with_made g (s ∷ []) ledger in
    let tags = own_tags setting.scope v h (body.Filled kind.Order h (length_of v h) content) in
    desk_heard setting g next h (with_order (v.me == h) v.me content tags) v
    (order_true (words_at setting next v h) h (v.me == h) v.me content tags (v.desks h)
    (now_made setting g v.me ledger s (sym k.host)))
    (heard_more setting g g (s ∷ []) ledger v k)
enabled_heard setting v (Certificate h content) e g ledger k =
    let made = (acts_of setting.scope v (Certificate h content)).made in
    desk_heard setting g (with_made g made ledger) h with_sent v
    (sent_true (words_at setting (with_made g made ledger) v h) h (v.desks h))
    (heard_more setting g g made ledger v k)
enabled_heard setting v (Deliver h content) e g ledger k =
    let s = said_in v.epoch (body.Filled kind.Deliver h (length_of v h) content) in
    let next = with_made g (s ∷ []) ledger in
    let tags = own_tags setting.scope v h (body.Filled kind.Deliver h (length_of v h) content) in
    let more = heard_more setting g g (s ∷ []) ledger v k in
    desk_heard setting g next h (with_deliver v.me content tags)
    (record v { voted_to = put v.voted_to h (length_of v h + 1) })
    (deliver_true (words_at setting next v h) h v.me content tags (v.desks h)
    (now_made setting g v.me ledger s (sym k.host)))
    (record { host = more.host; desks = more.desks; heard = more.heard })
enabled_heard setting v (Log h content) e g ledger k =
    let more = heard_more setting g g [] ledger v k in
    logged_heard setting g (with_made g [] ledger) h content (with_kept h content v)
    (record { host = more.host; desks = more.desks; heard = more.heard })
enabled_heard setting v (Attest p h n payload) e g ledger k =
    let more = heard_more setting g g (acts_of setting.scope v (Attest p h n payload)).made ledger v k in
    record { host = more.host; desks = more.desks; heard = more.heard }

-- a rule that is due
pub rule_heard : {S : Type 0} (setting : Setting S) (g : ℕ) (ledger : List Entry) (v : View) (rule : Rule)
    → due setting.scope v ≡ Some rule → HearsTruly setting g ledger v
    → HearsTruly setting g (with_made g (acts_of setting.scope v rule).made ledger) (taken setting.scope v rule)
rule_heard setting g ledger v rule is k =
    enabled_heard setting v rule (due_enabled setting.scope v rule is).1 g ledger k

-- a test that passed, before others
pub passed_on : (b : Bool) (cause : DropCause) (rest : Option DropCause) → unless b cause rest ≡ None
    → (b ≡ true) × (rest ≡ None)
passed_on true cause rest e = (refl, e)
passed_on false cause rest e = absurd (cc)

-- a record that is tested against the epoch of the node is of that epoch
pub current_is : (v : View) (e : ℕ) (rest : Option DropCause) → if_current v e rest ≡ None
    → (e ≡ v.epoch) × (rest ≡ None)
current_is v e rest is =
    let first = passed_on (e == v.epoch) _ _ is in
    let second = passed_on (not v.wedged) _ rest first.1 in
    ((Decides-eqb e v.epoch).0 first.0, second.1)

-- a vote is of the open slot
pub vote_is : {S : Type 0} (scope : Scope S) (v : View) (e h slot : ℕ)
    → if_current v e (vote_drop scope v h slot) ≡ None
    → (e ≡ v.epoch) × (slot ≡ length_of v h)
vote_is scope v e h slot is =
    let first = current_is v e (vote_drop scope v h slot) is in
    let second = passed_on (is_live scope v h) _ _ first.1 in
    let third = passed_on (is_open scope v h && slot == length_of v h) _ _ second.1 in
    (first.0, (Decides-eqb slot (length_of v h)).0 (both_true (is_open scope v h) (slot == length_of v h) third.0).1)

-- the makers of a record that a node notes
pub record AreNoted {S : Type 0} (setting : Setting S) (ledger : List Entry) (e : ℕ) (said : Body) (makers : List Tags) : Type 0 where
  -- there is one
  pub some : (t : Tags) × Contains makers t
  -- each may say it
  pub permitted : (t : Tags) → Contains makers t → permits setting.scope e said t.maker ≡ true
  -- each that is an honest host made it
  pub made : (t : Tags) → Contains makers t → WasMade setting ledger t.maker (said_in e said)

-- the makers of a vote said it of the open slot
votes_said : {S : Type 0} (setting : Setting S) (ledger : List Entry) (v : View) (stage : Stage) (e h slot : ℕ) (content : Content)
    (makers : List Tags)
    → (e ≡ v.epoch) × (slot ≡ length_of v h)
    → AreNoted setting ledger e (body_at stage h slot content) makers
    → AllSaid (words_at setting ledger v h) stage content makers
votes_said setting ledger v stage e h slot content makers is some t among =
    subst (λ d. WasMade setting ledger t.maker (said_in d (body_at stage h (length_of v h) content))) is.0
    (subst (λ s. WasMade setting ledger t.maker (said_in e (body_at stage h s content))) is.1 (some.made t among))

-- attestations that are heard
attests_heard : {S : Type 0} (setting : Setting S) (g : ℕ) (ledger : List Entry) (v : View) (p h n : ℕ) (payload : List ℤ)
    (makers : List Tags)
    → ((t : Tags) → Contains makers t → WasMade setting ledger t.maker (said_in v.epoch (body.Attest p h n payload)))
    → HearsTruly setting g ledger v
    → HearsTruly setting g ledger (with_attests p h n payload makers v)
unfolding with_attests
attests_heard {S} setting g ledger v p h n payload makers said k = record {
  host = k.host;
  desks = k.desks;
  heard = λ x y z.
      put_case (λ (f : ℕ → ℕ → List (Option (List ℤ))). Holds x y z (f y z)) v.heard p
      (put_at (v.heard p) h n (hearing payload makers (v.heard p h n))) x
      (λ e.
      put_at_case (Holds x y z) (v.heard p) h n (hearing payload makers (v.heard p h n)) y z
      (λ a b.
      subst (λ i. Holds i y z (hearing payload makers (v.heard p h n))) (sym e)
      (subst (λ i. Holds p i z (hearing payload makers (v.heard p h n))) (sym a)
      (subst (λ i. Holds p h i (hearing payload makers (v.heard p h n))) (sym b) new)))
      (λ other. subst (λ i. Holds x y z (v.heard i y z)) e (k.heard x y z)))
      (λ ne. k.heard x y z);
}
  where
    Holds : (x y z : ℕ) → List (Option (List ℤ)) → Type 0
    Holds x y z seats = (m : ℕ) (told : List ℤ) → seat_of seats m ≡ Some told
        → WasMade setting ledger m (said_in v.epoch (body.Attest x y z told))

    new : Holds p h n (hearing payload makers (v.heard p h n))
    new m told is = elim (hearing_case payload makers (v.heard p h n) m told is) [
      | inl old ↦ k.heard p h n m told old
      | inr now ↦
          subst (λ y. WasMade setting ledger m (said_in v.epoch (body.Attest p h n y))) now.3
          (subst (λ x. WasMade setting ledger x (said_in v.epoch (body.Attest p h n payload))) now.2 (said now.0 now.1))
    ]

-- heads that are recorded
heads_heard : {S : Type 0} (setting : Setting S) (g : ℕ) (ledger : List Entry) (h : ℕ) (v : View)
    → HearsTruly setting g ledger v → HearsTruly setting g ledger (with_heads setting.scope h v)
unfolding with_heads
heads_heard setting g ledger h v k = record { host = k.host; desks = k.desks; heard = k.heard }

-- each kind of record
noted_heard : {S : Type 0} (setting : Setting S) (e : ℕ) (said : Body) (makers : List Tags) (g : ℕ) (ledger : List Entry) (v : View)
    → misplaced_body setting.scope v e said ≡ None → AreNoted setting ledger e said makers
    → HearsTruly setting g ledger v
    → HearsTruly setting g ledger (noted_body setting.scope e said makers v)
noted_heard setting e (body.Filled kind.Offer h slot content) makers g ledger v is some k =
    let at = vote_is setting.scope v e h slot is in
    let t = some.some in
    let maker_is = (Decides-eqb t.0.maker h).0 (some.permitted t.0 t.1) in
    let was = votes_said setting ledger v Offered e h slot content makers at some t.0 t.1 in
    desk_heard setting g ledger h (with_held content) v
    (held_true (words_at setting ledger v h) h content (v.desks h)
    (subst (λ m. words_at setting ledger v h Offered m content) maker_is was)) k
noted_heard {S} setting e (body.Filled kind.Order h slot content) makers g ledger v is some k = by (v.me == h)
  where
    by : (b : Bool)
        → HearsTruly setting g ledger (if b then at_desk h (with_orders content makers) v
        else at_desk h (with_certificate (quorum_at setting.scope v.epoch h) content makers) v)
    by true = desk_heard setting g ledger h (with_orders content makers) v
        (orders_true (words_at setting ledger v h) h content makers (v.desks h)
        (votes_said setting ledger v Ordered e h slot content makers (vote_is setting.scope v e h slot is) some)) k
    by false =
        desk_heard setting g ledger h (with_certificate (quorum_at setting.scope v.epoch h) content makers) v
        (certificate_true (words_at setting ledger v h) h (quorum_at setting.scope v.epoch h) content makers (v.desks h)) k
noted_heard setting e (body.Filled kind.Deliver h slot content) makers g ledger v is some k =
    desk_heard setting g ledger h (with_votes content makers) v
    (votes_true (words_at setting ledger v h) h content makers (v.desks h)
    (votes_said setting ledger v Delivered e h slot content makers (vote_is setting.scope v e h slot is) some)) k
noted_heard setting e (body.Attest p h n payload) makers g ledger v is some k =
    let at = (current_is v e (attest_drop setting.scope v p h n) is).0 in
    heads_heard setting g ledger h (with_attests p h n payload makers v)
    (attests_heard setting g ledger v p h n payload makers
    (λ t among. subst (λ d. WasMade setting ledger t.maker (said_in d (body.Attest p h n payload))) at (some.made t among)) k)
noted_heard setting e (body.Ask h slot) makers g ledger v is some k = k
noted_heard setting e body.Wedge makers g ledger v is some k =
    record { host = k.host; desks = k.desks; heard = k.heard }
noted_heard setting e (body.Filled kind.Report h slot content) makers g ledger v is some k = k
noted_heard setting e (body.Frozen h slot) makers g ledger v is some k = k
noted_heard setting e (body.Open lengths) makers g ledger v is some k =
    entering_heard setting g ledger e (bases lengths) (retirements lengths) v k.host
noted_heard setting e (body.Filled kind.Inherit h slot content) makers g ledger v is some k =
    logged_heard setting g ledger h content v k

-- a list that isn't empty has an element
pub one_of : {A : Type 0} (xs : List A) → nat_lt 0 (length xs) ≡ true → (x : A) × Contains xs x
one_of [] e = absurd (cc)
one_of (x ∷ xs) e = (x, (zero, omega arith, refl))

-- the makers that are accepted may say it
pub permitted_of : {S : Type 0} (scope : Scope S) (e taker : ℕ) (statement : Statement) (t : Tags)
    → accepts scope e taker statement t ≡ true → permits scope e statement.body t.maker ≡ true
unfolding accepts
permitted_of scope e taker statement t is =
    let rest = (both_true (not (t.maker == taker)) _ is).1 in
    (both_true (permits scope e statement.body t.maker) (verifies scope taker statement t) rest).0

-- a record that isn't dropped has such makers
pub noted_makers : {S : Type 0} (setting : Setting S) (ledger : List Entry) (v : View) (r : Record)
    → verdict setting.scope v r ≡ None
    → AreTrue setting ledger r.statement
    (makers_told (noted_by nothing r (accepted setting.scope r.statement.epoch v.me r)))
    → AreNoted setting ledger r.statement.epoch r.statement.body (accepted setting.scope r.statement.epoch v.me r)
unfolding verdict accepted
noted_makers setting ledger v r is true_all = record {
  some = one_of (accepted setting.scope r.statement.epoch v.me r)
      (passed_on (nat_lt 0 (length (accepted setting.scope r.statement.epoch v.me r))) _ _
      (or_none (misplaced setting.scope v r.statement) (untagged (accepted setting.scope r.statement.epoch v.me r)) is).1).0;
  permitted = λ t among.
      permitted_of setting.scope r.statement.epoch v.me r.statement t
      (All-contains (λ x. accepts setting.scope r.statement.epoch v.me r.statement x ≡ true)
      (accepted setting.scope r.statement.epoch v.me r) t
      (filter_passes (accepts setting.scope r.statement.epoch v.me r.statement) r.makers) among);
  made = λ t among. accepted_true setting ledger v.me r true_all t among;
}

-- a record that isn't dropped
pub record_heard : {S : Type 0} (setting : Setting S) (g : ℕ) (ledger : List Entry) (v : View) (r : Record)
    → verdict setting.scope v r ≡ None
    → AreTrue setting ledger r.statement
    (makers_told (noted_by nothing r (accepted setting.scope r.statement.epoch v.me r)))
    → HearsTruly setting g ledger v
    → HearsTruly setting g (with_made g (acts_by setting.scope v r).made ledger) (noted setting.scope v r)
unfolding verdict misplaced noted
record_heard setting g ledger v r is true_all k =
    let makers = accepted setting.scope r.statement.epoch v.me r in
    let placed = (or_none (misplaced setting.scope v r.statement) (untagged makers) is).0 in
    heard_more setting g g (acts_by setting.scope v r).made ledger (noted setting.scope v r)
    (noted_heard setting r.statement.epoch r.statement.body makers g ledger v placed
    (noted_makers setting ledger v r is true_all) k)

-- the first view
pub first_heard : {S : Type 0} (setting : Setting S) (g : ℕ)
    → HearsTruly setting g [] (first_view setting.scope g)
unfolding first_view
first_heard setting g = entering_heard setting g [] 0 (λ _. 0) (λ _. false) _ refl

-- what a party makes
pub beside_heard : {S : Type 0} (setting : Setting S) (party : ℕ) (made : List Statement) (g : ℕ) (ledger : List Entry) (v : View)
    → HearsTruly setting g ledger v → HearsTruly setting g (with_made party made ledger) v
beside_heard setting party made g ledger v k = heard_more setting g party made ledger v k
