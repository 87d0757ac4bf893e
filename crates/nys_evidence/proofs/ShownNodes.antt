-- What a node keeps stays shown: whichever rule it takes and whatever record it notes, in each later world.
use Rattle.std.proofs.Common.{◌≡◌, ℕ, ◌+◌, ◌-◌, ◌⊎◌, ◌==◌, Bool, true, false, List, [], ◌∷◌, ◌++◌, length, Some, None, refl, ap, sym, subst, ◌∙◌, inl, inr, arith}
use Rattle.std.specs.Prelude.{All, Contains, if◌then◌else◌}
use Rattle.std.proofs.lemmas.List.Elements.{All-contains, All-nil}
use Rattle.nys_bytes.specs.declared.content.Content.{Content}
use Rattle.nys_bytes.specs.declared.content.Content.TheVariants.{External, Message}
use Rattle.nys_agreement.proofs.ListLemmas.{in_push}
use Rattle.nys_agreement.proofs.TableLemmas.{put_case}
use Rattle.nys_hosts.proofs.CountLemmas.{AtLeast-fewer}
use Rattle.nys_hosts.proofs.QuorumLemmas.{AtLeast-shared}
use Rattle.nys_source.specs.Tables.{put}
use Rattle.nys_stmt.specs.declared.records.Record.{Record}
use Rattle.nys_stmt.specs.declared.statement.Body.{Body}
use Rattle.nys_stmt.specs.declared.statement.Body.TheVariants as body
use Rattle.nys_stmt.specs.declared.statement.FilledKind.TheVariants as kind
use Rattle.nys_stmt.specs.declared.statement.Statement.{Statement}
use Rattle.nys_stmt.specs.declared.tags.Tags.{Tags}
use Rattle.nys_rules.specs.declared.rule.Rule.{Rule}
use Rattle.nys_rules.specs.declared.rule.Rule.TheVariants.{Offer, Order, Certificate, Deliver, Log, Attest}
use Rattle.nys_rules.specs.Certificates.{IsAttested, IsNext, IsVoted}
use Rattle.nys_rules.specs.Dropping.{accepted, misplaced, untagged, verdict}
use Rattle.nys_rules.specs.Evidence.{AttestsSeen, IsSeen}
use Rattle.nys_rules.specs.Exchanges.{IsHonestGuard}
use Rattle.nys_rules.specs.Forged.{Entry, HasMade}
use Rattle.nys_rules.specs.Handling.{acts_by, acts_by_body}
use Rattle.nys_rules.specs.Heads.{own_attest, with_heads}
use Rattle.nys_rules.specs.Logging.{logged}
use Rattle.nys_rules.specs.Noting.{at_desk, noted, noted_body, with_attests, with_certificate, with_orders}
use Rattle.nys_rules.specs.Rules.{Enabled, to_log}
use Rattle.nys_rules.specs.Scope.{quorum_at, Scope}
use Rattle.nys_rules.specs.Sending.{made_for, said_in}
use Rattle.nys_rules.specs.Taking.{acts_of, certifying, ordering, taken}
use Rattle.nys_rules.specs.View.{entering, length_of, View, with_links}
use Rattle.nys_rules.specs.World.{is_honest, Setting, World}
use Rattle.nys_rules.proofs.CertificateLemmas.{logs_by_makers, orders_by_makers}
use Rattle.nys_rules.proofs.SearchLemmas.{or_none}
use Rattle.nys_rules.proofs.SeatCases.{own_case}
use Rattle.nys_laws.specs.Grounds.{IsOpenAt}
use Rattle.nys_laws.specs.Rests.{IsSound}
use Rattle.nys_laws.specs.Vouched.{IsVouched, QuorumVouches}
use Rattle.nys_laws.proofs.ActsLemmas.{AreAside, aside_answering, aside_nothing, aside_reporting}
use Rattle.nys_laws.proofs.GroundLemmas.{has_grounds}
use Rattle.nys_laws.proofs.OlympusLemmas.{all_permitted, one_accepted}
use Rattle.nys_laws.proofs.OpenLemmas.{log_open, order_open}
use Rattle.nys_laws.proofs.OwnLemmas.{IsAside, only_one}
use Rattle.nys_laws.specs.Own.Stage.{Ordered}
use Rattle.nys_follows.specs.Scenario.{IsScenario}
use Rattle.nys_follows.proofs.FeedingWorlds.{few_liars_of, hosts_of_scenario}
use Rattle.nys_evidence.proofs.KeptLemmas.{ArePassed, enabled_passed, KeepsPassed, noted_passed}
use Rattle.nys_evidence.proofs.SeenLemmas.{all_but_one, Reaches, seen_of}
use Rattle.nys_evidence.proofs.ShownFacts.{AreBorne, IsBorne, IsOwnOrSeen, IsViewShown}
use Rattle.nys_evidence.proofs.TakeKeeping.{IsTaken}

-- a node that guards h is an honest guard of it
guard_of : {S : Type 0} (setting : Setting S) → IsScenario setting → (g h : ℕ) (v : View) → v.me ≡ g
    → is_honest setting g ≡ true → setting.scope.guards v.epoch h v.me ≡ true → IsHonestGuard setting v.epoch h g
guard_of setting asked g h v me honest guards =
    let here = subst (λ x. setting.scope.guards v.epoch h x ≡ true) me guards in
    record { host = (asked.guards v.epoch h g here).guard; honest = honest; guards = here }

-- of a quorum that vouches an honest guard said so
quorum_said : {S : Type 0} (setting : Setting S) → IsScenario setting → (ledger : List Entry) (e h : ℕ) (said : Body)
    → QuorumVouches setting ledger e h said → (m : ℕ) × HasMade ledger m (said_in e said)
unfolding quorum_at
quorum_said setting asked ledger e h said some =
    let P = IsVouched setting ledger e h said in
    let one = AtLeast-shared (setting.scope.t e h) (setting.scope.guards e h) setting.liars P P (λ m v. v.0) (λ m v. v.0)
    ((few_liars_of setting asked).few e h) some some in
    (one.0, one.2.1 one.4)

-- a content that a node logs: its votes were seen, but for its own, and an honest guard voted so
log_borne : {S : Type 0} (setting : Setting S) → IsScenario setting → (z : World) (g : ℕ) (ledger : List Entry) (v : View)
    (h : ℕ) (content : Content) → is_honest setting g ≡ true → IsSound setting g ledger v
    → KeepsPassed (IsOwnOrSeen setting z g) v
    → ((m : ℕ) (s : Statement) → HasMade ledger m s → HasMade z.ledger m s)
    → to_log setting.scope v h ≡ Some content → IsBorne setting z h (length_of v h) content
log_borne {S} setting asked z g ledger v h content honest sound kept more e = record {
  epoch = v.epoch;
  votes = inl (
    g,
    guard_of setting asked g h v sound.own.host honest at.live.guard,
    all_but_one (quorum_at setting.scope v.epoch h) g (IsVoted v h content) Seen split
        (logs_by_makers setting.scope v h content sound.seats e),
  );
  maker = one.0;
  said = inl (more one.0 vote one.1);
}
  where
    vote : Statement
    vote = said_in v.epoch (body.Filled kind.Deliver h (length_of v h) content)

    at : IsOpenAt setting.scope v h
    at = (log_open setting.scope v h content e).0

    one : (m : ℕ) × HasMade ledger m vote
    one = quorum_said setting asked ledger v.epoch h (body.Filled kind.Deliver h (length_of v h) content)
        (has_grounds setting (hosts_of_scenario setting asked) g ledger v (Log h content) sound e).1

    Seen : ℕ → Type 0
    Seen m = (setting.scope.guards v.epoch h m ≡ true) × IsSeen setting z g vote m

    split : (m : ℕ) → IsVoted v h content m → (m ≡ g) ⊎ Seen m
    split m voted = elim ((kept.desks h).votes m voted.0 voted.1) [
      | inl own ↦ inl own
      | inr seen ↦ inr (
        (sound.rests.desks h).votes m voted.0 voted.1,
        subst (λ c. IsSeen setting z g (said_in v.epoch (body.Filled kind.Deliver h (length_of v h) c)) m) voted.2 seen,
      )
    ]

-- one more entry
borne_more : {S : Type 0} (setting : Setting S) (z : World) (h : ℕ) (log : List Content) (content : Content)
    → IsBorne setting z h (length log) content → AreBorne setting z h log → AreBorne setting z h (log ++ content ∷ [])
borne_more setting z h log content new all s c is = elim (in_push log content s c is) [
  | inl old ↦ all s c old
  | inr last ↦
      subst (λ n. IsBorne setting z h n c) (sym last.0) (subst (IsBorne setting z h (length log)) last.1 new)
]

-- the logs once that of h has one more
logs_more : {S : Type 0} (setting : Setting S) (z : World) (h : ℕ) (content : Content) (logs : ℕ → List Content)
    → IsBorne setting z h (length (logs h)) content → ((x : ℕ) → AreBorne setting z x (logs x))
    → (x : ℕ) → AreBorne setting z x (put logs h (logs h ++ content ∷ []) x)
logs_more setting z h content logs new all x =
    put_case (AreBorne setting z x) logs h (logs h ++ content ∷ []) x
    (λ here. subst (λ y. AreBorne setting z y (logs h ++ content ∷ [])) (sym here)
    (borne_more setting z h (logs h) content new (all h)))
    (λ there. all x)

-- a rule that is enabled leaves logs as they are, or logs what is borne
rule_logs : {S : Type 0} (setting : Setting S) (z : World) (v : View) (rule : Rule) → Enabled setting.scope v rule
    → ((h : ℕ) (content : Content) → to_log setting.scope v h ≡ Some content → IsBorne setting z h (length_of v h) content)
    → ((h : ℕ) → AreBorne setting z h (v.logs h))
    → (h : ℕ) → AreBorne setting z h ((taken setting.scope v rule).logs h)
unfolding with_heads logged with_links
rule_logs setting z v (Offer h content) e new all = all
rule_logs setting z v (Order h content) e new all = all
rule_logs setting z v (Certificate h content) e new all = all
rule_logs setting z v (Deliver h content) e new all = all
rule_logs setting z v (Log h content) e new all = logs_more setting z h content v.logs (new h content e) all
rule_logs setting z v (Attest p h n payload) e new all = all

-- a rule that a sound node takes
pub rule_shown : {S : Type 0} (setting : Setting S) → IsScenario setting → (z : World) (g : ℕ) (ledger : List Entry) (v : View)
    (rule : Rule) → is_honest setting g ≡ true → IsSound setting g ledger v → Enabled setting.scope v rule
    → ((m : ℕ) (s : Statement) → HasMade ledger m s → HasMade z.ledger m s)
    → IsViewShown setting z g v → IsViewShown setting z g (taken setting.scope v rule)
rule_shown setting asked z g ledger v rule honest sound e more k = record {
  kept = enabled_passed setting.scope (IsOwnOrSeen setting z g) v rule e (λ s. inl sound.own.host) k.kept;
  logs = rule_logs setting z v rule e
      (λ h content is. log_borne setting asked z g ledger v h content honest sound k.kept more is) k.logs;
}

-- a message that a sound node may order: its attestations were seen, but for the node's own
next_seen : {S : Type 0} (setting : Setting S) → (z : World) (g : ℕ) (ledger : List Entry) (v : View)
    (h : ℕ) (content : Content) → IsHonestGuard setting v.epoch h g → IsSound setting g ledger v
    → KeepsPassed (IsOwnOrSeen setting z g) v → IsNext setting.scope v h content
    → AttestsSeen setting z v.epoch h content
next_seen setting z g ledger v h (External payload) guard sound kept next = tt
next_seen {S} setting z g ledger v h (Message p k payload) guard sound kept next = (
  g,
  guard,
  AtLeast-fewer (setting.scope.t v.epoch p + 1 - 1) (setting.scope.t v.epoch p) Seen (omega arith)
      (all_but_one (setting.scope.t v.epoch p + 1) g (IsAttested setting.scope v p h k payload) Seen split next.2),
)
  where
    said : Statement
    said = said_in v.epoch (body.Attest p h k payload)

    Seen : ℕ → Type 0
    Seen m = (setting.scope.guards v.epoch p m ≡ true) × (setting.scope.guards v.epoch h m ≡ true) × IsSeen setting z g said m

    split : (m : ℕ) → IsAttested setting.scope v p h k payload m → (m ≡ g) ⊎ Seen m
    split m attests = elim (own_case v.me (own_attest setting.scope v p h k) (v.heard p h k) payload m attests) [
      | inl heard ↦ elim (kept.heard p h k m payload heard) [
        | inl own ↦ inl own
        | inr seen ↦
            let both = sound.rests.heard p h k m payload heard in inr (both.of_sender, both.of_host, seen)
      ]
      | inr own ↦ inl (own.0 ∙ sound.own.host)
    ]

-- the one statement that was made says it
body_is : (made s : Statement) → Contains (made ∷ []) s → made.body ≡ s.body
body_is made s among = ap (λ (y : Statement). y.body) (only_one made s among)

-- an Order that a rule makes is of such a content
pub rule_ordered : {S : Type 0} (setting : Setting S) → IsScenario setting → (z : World) (g : ℕ) (ledger : List Entry) (v : View)
    (rule : Rule) → is_honest setting g ≡ true → IsSound setting g ledger v → Enabled setting.scope v rule
    → KeepsPassed (IsOwnOrSeen setting z g) v → (e h s : ℕ) (content : Content)
    → Contains (acts_of setting.scope v rule).made (said_in e (body.Filled kind.Order h s content))
    → AttestsSeen setting z e h content
unfolding made_for ordering certifying
rule_ordered setting asked z g ledger v (Offer x c) honest sound enabled kept e h s content among =
    absurd (let is = body_is (said_in v.epoch (body.Filled kind.Offer x (length_of v x) c)) _ among in cc)
rule_ordered setting asked z g ledger v (Order x c) honest sound enabled kept e h s content among =
    let at = order_open setting.scope v x c enabled in
    let guard = guard_of setting asked g x v sound.own.host honest at.live.guard in
    let found = orders_by_makers setting.scope v x c sound.seats enabled in
    let seen = next_seen setting z g ledger v x c guard sound kept found.1 in
    let order = said_in v.epoch (body.Filled kind.Order x (length_of v x) c) in
    let same_epoch : v.epoch ≡ e = ap (λ (y : Statement). y.epoch) (only_one order _ among) in
    let is = body_is order _ among in
    let same_host : x ≡ h = cc in
    let same_content : c ≡ content = cc in
    subst (λ d. AttestsSeen setting z d h content) same_epoch
    (subst (λ y. AttestsSeen setting z v.epoch y content) same_host (subst (AttestsSeen setting z v.epoch x) same_content seen))
rule_ordered setting asked z g ledger v (Certificate x c) honest sound enabled kept e h s content among =
    absurd (omega (arith, among.1))
rule_ordered setting asked z g ledger v (Deliver x c) honest sound enabled kept e h s content among =
    absurd (let is = body_is (said_in v.epoch (body.Filled kind.Deliver x (length_of v x) c)) _ among in cc)
rule_ordered setting asked z g ledger v (Log x c) honest sound enabled kept e h s content among =
    absurd (omega (arith, among.1))
rule_ordered setting asked z g ledger v (Attest p x n payload) honest sound enabled kept e h s content among =
    absurd (let is = body_is (said_in v.epoch (body.Attest p x n payload)) _ among in cc)

-- a record leaves logs as they are, or an entry is taken over that is borne
body_logs : {S : Type 0} (setting : Setting S) (z : World) (e : ℕ) (said : Body) (makers : List Tags) (v : View)
    → ((h slot : ℕ) (content : Content) → said ≡ body.Filled kind.Inherit h slot content
    → IsBorne setting z h (length_of v h) content)
    → ((h : ℕ) → AreBorne setting z h (v.logs h))
    → (h : ℕ) → AreBorne setting z h ((noted_body setting.scope e said makers v).logs h)
unfolding with_heads with_attests logged with_links entering
body_logs setting z e (body.Filled kind.Offer h slot content) makers v new all = all
body_logs {S} setting z e (body.Filled kind.Order h slot content) makers v new all = by (v.me == h)
  where
    by : (b : Bool) → let next = if b then at_desk h (with_orders content makers) v
        else at_desk h (with_certificate (quorum_at setting.scope v.epoch h) content makers) v in
        (x : ℕ) → AreBorne setting z x (next.logs x)
    by true = all
    by false = all
body_logs setting z e (body.Filled kind.Deliver h slot content) makers v new all = all
body_logs setting z e (body.Attest p h n payload) makers v new all = all
body_logs setting z e (body.Ask h slot) makers v new all = all
body_logs setting z e body.Wedge makers v new all = all
body_logs setting z e (body.Filled kind.Report h slot content) makers v new all = all
body_logs setting z e (body.Frozen h slot) makers v new all = all
body_logs setting z e (body.Open lengths) makers v new all = all
body_logs setting z e (body.Filled kind.Inherit h slot content) makers v new all =
    logs_more setting z h content v.logs (new h slot content refl) all

-- the makers of a record that was taken and isn't dropped
taken_makers : {S : Type 0} (setting : Setting S) (w z : World) (g : ℕ) (v : View) (r : Record) → v.me ≡ g
    → verdict setting.scope v r ≡ None → Reaches w z → IsTaken w g r
    → ArePassed setting.scope (IsOwnOrSeen setting z g) r.statement.epoch r.statement.body
    (accepted setting.scope r.statement.epoch v.me r)
unfolding verdict
taken_makers setting w z g v r me is reach told =
    let makers = accepted setting.scope r.statement.epoch v.me r in
    let one = one_accepted setting.scope v.me r (or_none (misplaced setting.scope v r.statement) (untagged makers) is).1 in
    record {
      some = (one.0, one.1);
      permitted = λ t among. all_permitted setting.scope v.me r t among;
      passed = λ t among. inr
          (seen_of setting w z g r reach told t
          (subst (λ x. Contains (accepted setting.scope r.statement.epoch x r) t) me among));
    }

-- a record that a node notes
pub record_shown : {S : Type 0} (setting : Setting S) (w z : World) (g : ℕ) (v : View) (r : Record) → v.me ≡ g
    → verdict setting.scope v r ≡ None → Reaches w z → IsTaken w g r
    → ((h slot : ℕ) (content : Content) → r.statement.body ≡ body.Filled kind.Inherit h slot content
    → IsBorne setting z h (length_of v h) content)
    → IsViewShown setting z g v → IsViewShown setting z g (noted setting.scope v r)
unfolding verdict misplaced noted
record_shown setting w z g v r me is reach told inherited k =
    let makers = accepted setting.scope r.statement.epoch v.me r in
    record {
      kept = noted_passed setting.scope (IsOwnOrSeen setting z g) r.statement.epoch r.statement.body makers v
          (or_none (misplaced setting.scope v r.statement) (untagged makers) is).0
          (taken_makers setting w z g v r me is reach told) k.kept;
      logs = body_logs setting z r.statement.epoch r.statement.body makers v inherited k.logs;
    }

-- what a node does at once by a record brings no content into a slot
aside_by_body : {S : Type 0} (scope : Scope S) (v : View) (said : Body) (makers : List Tags)
    → AreAside v.epoch (acts_by_body scope v said makers)
aside_by_body scope v (body.Filled kind.Offer h slot content) makers = aside_nothing v.epoch
aside_by_body scope v (body.Filled kind.Order h slot content) makers = aside_nothing v.epoch
aside_by_body scope v (body.Filled kind.Deliver h slot content) makers = aside_nothing v.epoch
aside_by_body scope v (body.Filled kind.Report h slot content) makers = aside_nothing v.epoch
aside_by_body scope v (body.Filled kind.Inherit h slot content) makers = All-nil (IsAside v.epoch)
aside_by_body scope v (body.Attest p h n payload) makers = aside_nothing v.epoch
aside_by_body scope v (body.Ask h slot) makers = aside_answering scope v h slot makers
aside_by_body scope v body.Wedge makers = aside_reporting scope v
aside_by_body scope v (body.Frozen h slot) makers = aside_nothing v.epoch
aside_by_body scope v (body.Open lengths) makers = aside_nothing v.epoch

-- so it is of a record
pub aside_by : {S : Type 0} (scope : Scope S) (v : View) (r : Record) → AreAside v.epoch (acts_by scope v r)
unfolding acts_by
aside_by scope v r = aside_by_body scope v r.statement.body (accepted scope r.statement.epoch v.me r)

-- such statements are no Orders
pub no_order : (epoch : ℕ) (made : List Statement) (e h s : ℕ) (content : Content) → All (IsAside epoch) made
    → Contains made (said_in e (body.Filled kind.Order h s content)) → ⊥
no_order epoch made e h s content aside among =
    (All-contains (IsAside epoch) made (said_in e (body.Filled kind.Order h s content)) aside among).other
    Ordered e h s content refl
