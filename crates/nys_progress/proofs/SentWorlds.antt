-- In each world what honest hosts said about slots stands in packets to those whom it is for.
use Rattle.std.proofs.Common.{◌≡◌, ◌≢◌, ℕ, zero, suc, ◌==◌, Bool, true, false, List, [], ◌∷◌, ◌++◌, Some, None, refl, ap, sym, subst, ◌∙◌, inl, inr, arith}
use Rattle.std.specs.Prelude.{Contains, Option, cond, not}
use Rattle.std.proofs.lemmas.Bool.{ne_eqb}
use Rattle.std.proofs.lemmas.List.Elements.{All-contains, All-nil, Contains-append_left, Contains-append_right}
use Rattle.nys_bytes.specs.declared.content.Content.{Content}
use Rattle.nys_hosts.proofs.ListLemmas.{lists_passing}
use Rattle.nys_stmt.specs.declared.records.Record.{Record}
use Rattle.nys_stmt.specs.declared.statement.Body.{Body}
use Rattle.nys_stmt.specs.declared.statement.Body.TheVariants as body
use Rattle.nys_stmt.specs.declared.statement.FilledKind.TheVariants as kind
use Rattle.nys_stmt.specs.declared.statement.Statement.{Statement}
use Rattle.nys_stmt.specs.declared.tags.Tags.{Tags}
use Rattle.nys_rules.specs.declared.rule.Rule.{Rule}
use Rattle.nys_rules.specs.declared.rule.Rule.TheVariants.{Attest, Certificate, Deliver, Log, Offer, Order}
use Rattle.nys_rules.specs.Asking.{questions}
use Rattle.nys_rules.specs.Dropping.{accepted}
use Rattle.nys_rules.specs.Forged.{HasMade, with_made}
use Rattle.nys_rules.specs.Handling.{acts_by, acts_by_body, with_input}
use Rattle.nys_rules.specs.Noting.{noted}
use Rattle.nys_rules.specs.Olympus.{hosts_of, in_next_epoch, opening_acts, proclaimed}
use Rattle.nys_rules.specs.Packets.{Acts, nothing, Sent}
use Rattle.nys_rules.specs.Scope.{guards_of, olympus, Scope}
use Rattle.nys_rules.specs.Sending.{made_for, others, packet, said_in, to_each}
use Rattle.nys_rules.specs.Taking.{acts_of, certifying, ordering, taken}
use Rattle.nys_rules.specs.View.{length_of, View}
use Rattle.nys_rules.specs.World.{fresh_world, Setting, World}
use Rattle.nys_laws.specs.Own.{body_at, KeepsOwn, Stage}
use Rattle.nys_laws.specs.Own.Stage.{Delivered, Offered, Ordered}
use Rattle.nys_laws.specs.SetUp.{AreHosts}
use Rattle.nys_laws.specs.Worlds.{InEachWorld}
use Rattle.nys_laws.proofs.ActsLemmas.{AreAside, aside_answering, aside_questions, aside_reporting, attest_other}
use Rattle.nys_laws.proofs.EventKeeping.{ActsAs, each_world_fact, with_olympus, WorldsKeep}
use Rattle.nys_laws.proofs.GrownLemmas.{with_step}
use Rattle.nys_laws.proofs.LedgerLemmas.{made_cases, none_made}
use Rattle.nys_laws.proofs.NodesInWorlds.{nodes_keep}
use Rattle.nys_laws.proofs.OwnLemmas.{IsAside, only_one}
use Rattle.nys_laws.proofs.OwnWorlds.{own_steps}
use Rattle.nys_laws.proofs.ViewLemmas.{first_own}
use Rattle.nys_laws.proofs.WorldKeeping.{HoldsOfNodes}
use Rattle.nys_progress.specs.Sent.{IsFor, SaidIsSent, telling}

-- a party that a list has and that isn't this one is among the others
pub among_others : (me : ℕ) (receivers : List ℕ) (m : ℕ) → Contains receivers m → m ≢ me → Contains (others me receivers) m
among_others me [] m among ne = absurd (omega (arith, among.1))
among_others me (x ∷ receivers) m (zero, lt, at) ne =
    by (x == me) (subst (λ y. (y == me) ≡ false) (sym at) (ne_eqb m me ne))
  where
    by : (b : Bool) → b ≡ false → Contains (cond (not b) (x ∷ others me receivers) (others me receivers)) m
    by false is = (zero, omega arith, at)
    by true is = absurd (cc)
among_others me (x ∷ receivers) m (suc n, lt, at) ne =
    by (x == me) (among_others me receivers m (n, omega (arith, lt), at) ne)
  where
    by : (b : Bool) → Contains (others me receivers) m
        → Contains (cond (not b) (x ∷ others me receivers) (others me receivers)) m
    by false rest = (suc rest.0, omega (arith, rest.1), rest.2)
    by true rest = rest

-- the packet to a receiver is among those to all
pub packet_among : (me : ℕ) (r : Record) (receivers : List ℕ) (m : ℕ) → Contains receivers m
    → Contains (to_each me r receivers) (packet me m r)
unfolding to_each
packet_among me r [] m among = absurd (omega (arith, among.1))
packet_among me r (x ∷ receivers) m (zero, lt, at) =
    subst (λ y. Contains (to_each me r (x ∷ receivers)) (packet me y r)) at (zero, omega arith, refl)
packet_among me r (x ∷ receivers) m (suc n, lt, at) =
    let rest = packet_among me r receivers m (n, omega (arith, lt), at) in
    (suc rest.0, omega (arith, rest.1), rest.2)

-- the stage that a body is of
abbrev stage_in : Body → Option Stage
stage_in (body.Filled kind.Offer h slot content) = Some Offered
stage_in (body.Filled kind.Order h slot content) = Some Ordered
stage_in (body.Filled kind.Deliver h slot content) = Some Delivered
stage_in _ = None

-- which is the one that it was made at
stage_back : (stage : Stage) (h slot : ℕ) (content : Content) → stage_in (body_at stage h slot content) ≡ Some stage
stage_back Offered h slot content = refl
stage_back Ordered h slot content = refl
stage_back Delivered h slot content = refl

-- two bodies of one stage are one only where all that they name is
named_same : (stage : Stage) (h k s t : ℕ) (x y : Content) → body_at stage h s x ≡ body_at stage k t y
    → (h ≡ k) × (s ≡ t) × (x ≡ y)
named_same Offered h k s t x y is = (cc, cc, cc)
named_same Ordered h k s t x y is = (cc, cc, cc)
named_same Delivered h k s t x y is = (cc, cc, cc)

-- two statements are one only where all that they name is
words_same : (a b : Stage) (d e h k s t : ℕ) (x y : Content) → said_in d (body_at a h s x) ≡ said_in e (body_at b k t y)
    → (a ≡ b) × (d ≡ e) × (h ≡ k) × (s ≡ t) × (x ≡ y)
words_same a b d e h k s t x y is =
    let bodies = ap (λ (z : Statement). z.body) is in
    let both : ◌≡◌ {A = Option Stage} (Some a) (Some b) = sym (stage_back a h s x) ∙ (ap stage_in bodies ∙ stage_back b k t y) in
    let stage : a ≡ b = cc in
    let named = named_same b h k s t x y (subst (λ z. body_at z h s x ≡ body_at b k t y) stage bodies) in
    (stage, ap (λ (z : Statement). z.epoch) is, named.0, named.1, named.2)

-- these packets tell all whom the statement is for
abbrev Tells : {S : Type 0} → Scope S → (me : ℕ) → List Sent → Stage → (e h slot : ℕ) → Content → Type 0
Tells scope me packets stage e h slot content =
    (m : ℕ) → IsFor scope stage e h m → m ≢ me → Contains packets (telling scope me stage e h slot content m)

-- so do they by other words for the same
other_words : {S : Type 0} (scope : Scope S) (me : ℕ) (packets : List Sent) (a b : Stage) (d e h k s t : ℕ) (x y : Content)
    → said_in d (body_at a h s x) ≡ said_in e (body_at b k t y)
    → Tells scope me packets a d h s x → Tells scope me packets b e k t y
other_words scope me packets a b d e h k s t x y is tells =
    let same = words_same a b d e h k s t x y is in
    subst (λ z. Tells scope me packets b e k t z) same.4
    (subst (λ z. Tells scope me packets b e k z x) same.3
    (subst (λ z. Tells scope me packets b e z s x) same.2
    (subst (λ z. Tells scope me packets b z h s x) same.1
    (subst (λ z. Tells scope me packets z d h s x) same.0 tells))))

-- a guard is among the guards
pub guard_among : {S : Type 0} (scope : Scope S) → AreHosts scope → (e h m : ℕ) → scope.guards e h m ≡ true
    → Contains (guards_of scope e h) m
unfolding guards_of
guard_among scope hosts e h m is =
    let low = hosts.guards e h m is in
    let few = hosts.few in
    ((lists_passing (scope.guards e h)).same m).1 (is, omega (arith, low, few))

-- what a node says by a rule it sends
rule_tells : {S : Type 0} (scope : Scope S) → AreHosts scope → (v : View) (rule : Rule) (stage : Stage) (e h slot : ℕ)
    (content : Content) → Contains (acts_of scope v rule).made (said_in e (body_at stage h slot content))
    → Tells scope v.me (acts_of scope v rule).packets stage e h slot content
unfolding made_for ordering certifying
rule_tells scope hosts v (Offer k c) stage e h slot content among =
    let s = said_in v.epoch (body_at Offered k (length_of v k) c) in
    other_words scope v.me (acts_of scope v (Offer k c)).packets Offered stage v.epoch e k h (length_of v k) slot c content
    (only_one s (said_in e (body_at stage h slot content)) among)
    (λ m guard ne. packet_among v.me _ _ m (among_others v.me _ m (guard_among scope hosts v.epoch k m guard) ne))
rule_tells scope hosts v (Order k c) stage e h slot content among =
    let s = said_in v.epoch (body_at Ordered k (length_of v k) c) in
    other_words scope v.me (acts_of scope v (Order k c)).packets Ordered stage v.epoch e k h (length_of v k) slot c content
    (only_one s (said_in e (body_at stage h slot content)) among)
    (λ m at ne. packet_among v.me _ _ m (among_others v.me (k ∷ []) m (zero, omega arith, sym at) ne))
rule_tells scope hosts v (Certificate k c) stage e h slot content among = absurd (omega (arith, among.1))
rule_tells scope hosts v (Deliver k c) stage e h slot content among =
    let s = said_in v.epoch (body_at Delivered k (length_of v k) c) in
    other_words scope v.me (acts_of scope v (Deliver k c)).packets Delivered stage v.epoch e k h (length_of v k) slot c content
    (only_one s (said_in e (body_at stage h slot content)) among)
    (λ m guard ne. packet_among v.me _ _ m (among_others v.me _ m (guard_among scope hosts v.epoch k m guard) ne))
rule_tells scope hosts v (Log k c) stage e h slot content among = absurd (omega (arith, among.1))
rule_tells scope hosts v (Attest p k n payload) stage e h slot content among =
    absurd (attest_other p k n payload stage h slot content (ap (λ (z : Statement). z.body)
    (only_one (said_in v.epoch (body.Attest p k n payload)) (said_in e (body_at stage h slot content)) among)))

-- by a record it says nothing about a slot
record_aside : {S : Type 0} (scope : Scope S) (v : View) (said : Body) (makers : List Tags)
    → AreAside v.epoch (acts_by_body scope v said makers)
record_aside scope v (body.Filled kind.Offer h slot content) makers = All-nil (IsAside v.epoch)
record_aside scope v (body.Filled kind.Order h slot content) makers = All-nil (IsAside v.epoch)
record_aside scope v (body.Filled kind.Deliver h slot content) makers = All-nil (IsAside v.epoch)
record_aside scope v (body.Filled kind.Report h slot content) makers = All-nil (IsAside v.epoch)
record_aside scope v (body.Filled kind.Inherit h slot content) makers = All-nil (IsAside v.epoch)
record_aside scope v (body.Attest p h n payload) makers = All-nil (IsAside v.epoch)
record_aside scope v (body.Ask h slot) makers = aside_answering scope v h slot makers
record_aside scope v body.Wedge makers = aside_reporting scope v
record_aside scope v (body.Frozen h slot) makers = All-nil (IsAside v.epoch)
record_aside scope v (body.Open lengths) makers = All-nil (IsAside v.epoch)

-- what a party makes that says nothing about a slot, or sends
abbrev IsTold : {S : Type 0} → Setting S → World → (g : ℕ) → List Statement → List Sent → Type 0
IsTold setting w g made packets = (stage : Stage) (e h slot : ℕ) (content : Content)
    → Contains made (said_in e (body_at stage h slot content)) → g ≢ olympus
    → Tells setting.scope g packets stage e h slot content

-- where more is made and sent so
sent_more : {S : Type 0} (setting : Setting S) (w next : World) (g : ℕ) (made : List Statement) (packets : List Sent)
    → next.ledger ≡ with_made g made w.ledger → next.pool ≡ w.pool ++ packets → IsTold setting w g made packets
    → SaidIsSent setting w → SaidIsSent setting next
sent_more setting w next g made packets ledger pool told k x honest host stage e h slot content has m for ne =
    let s = said_in e (body_at stage h slot content) in
    let p = telling setting.scope x stage e h slot content m in
    subst (λ ps. Contains ps p) (sym pool)
    (elim (made_cases g made w.ledger x s (subst (λ l. HasMade l x s) ledger has)) [
      | inl old ↦ Contains-append_left w.pool packets p (k x honest host stage e h slot content old m for ne)
      | inr new ↦
          let here = told stage e h slot content new.1 (λ same. host (sym new.0 ∙ same)) m for (λ same. ne (same ∙ new.0)) in
          Contains-append_right w.pool packets p
          (subst (λ y. Contains packets (telling setting.scope y stage e h slot content m)) new.0 here)
    ])

-- statements that say nothing about a slot
aside_told : {S : Type 0} (setting : Setting S) (w : World) (g e : ℕ) (acts : Acts) → AreAside e acts
    → IsTold setting w g acts.made acts.packets
aside_told setting w g d acts aside stage e h slot content among host =
    absurd ((All-contains (IsAside d) acts.made (said_in e (body_at stage h slot content)) aside among).other stage e h slot content refl)

-- nothing says nothing
nothing_told : {S : Type 0} (setting : Setting S) (w : World) (g : ℕ) (packets : List Sent) → IsTold setting w g [] packets
nothing_told setting w g packets stage e h slot content among host = absurd (omega (arith, among.1))

-- what the Olympus makes
olympus_told : {S : Type 0} (setting : Setting S) (w : World) (made : List Statement) (packets : List Sent)
    → IsTold setting w olympus made packets
olympus_told setting w made packets stage e h slot content among host = absurd (host refl)

-- each node is the one of its host, and what was said was sent
abbrev pub SentWorld : {S : Type 0} → Setting S → World → Type 0
SentWorld setting w = HoldsOfNodes KeepsOwn w × SaidIsSent setting w

-- a rule that a node takes
rule_sent : {S : Type 0} (setting : Setting S) → AreHosts setting.scope → (w : World) (g : ℕ) (v next : View) (rule : Rule)
    → ActsAs setting w g v → HoldsOfNodes KeepsOwn w → SaidIsSent setting w
    → SaidIsSent setting (with_step g next (acts_of setting.scope v rule) w)
rule_sent {S} setting hosts w g v next rule acting own k =
    sent_more setting w (with_step g next acts w) g acts.made acts.packets refl refl told k
  where
    acts : Acts
    acts = acts_of setting.scope v rule

    told : IsTold setting w g acts.made acts.packets
    told stage e h slot content among host =
        let me = ap (λ (x : View). x.me) (sym acting.view) ∙ (own g host).host in
        subst (λ y. Tells setting.scope y acts.packets stage e h slot content) me
        (rule_tells setting.scope hosts v rule stage e h slot content among)

-- each step of a world keeps it so
pub sent_steps : {S : Type 0} (setting : Setting S) → AreHosts setting.scope → WorldsKeep setting (SentWorld setting)
unfolding acts_by
sent_steps setting hosts =
    let own = nodes_keep setting KeepsOwn (own_steps setting)
    (λ g ledger v r frame read is makers k. (own_steps setting).records g ledger v r (frame, read) is makers k) in
    record {
      rules = λ w g v rule acting is k. (
        own.rules w g v rule acting is k.0,
        rule_sent setting hosts w g v (taken setting.scope v rule) rule acting k.0 k.1,
      );
      records = λ w g v r acting host is some k. (
        own.records w g v r acting host is some k.0,
        let acts = acts_by setting.scope v r in
            sent_more setting w (with_step g (noted setting.scope v r) acts w) g acts.made acts.packets refl refl
            (aside_told setting w g v.epoch acts
            (record_aside setting.scope v r.statement.body (accepted setting.scope r.statement.epoch v.me r))) k.1,
      );
      inputs = λ w g v payload may acting room k. (
        own.inputs w g v payload may acting room k.0,
        sent_more setting w (with_step g (with_input payload v) nothing w) g [] [] refl refl (nothing_told setting w g []) k.1,
      );
      asking = λ w g v acting k. (
        own.asking w g v acting k.0,
        let acts = questions setting.scope v in
            sent_more setting w (with_step g v acts w) g acts.made acts.packets refl refl
            (aside_told setting w g v.epoch acts (aside_questions setting.scope v)) k.1,
      );
      hears = λ w r is some k. (own.hears w r is some k.0, k.1);
      wedges = λ w is k. (
        own.wedges w is k.0,
        let acts = proclaimed setting.scope w.olympus.epoch body.Wedge (hosts_of setting.scope) in
            sent_more setting w (with_olympus (record w.olympus { wedged = true }) acts w) olympus acts.made acts.packets refl refl
            (olympus_told setting w acts.made acts.packets) k.1,
      );
      decides = λ w h after answer decides k. (own.decides w h after answer decides k.0, k.1);
      retires = λ w h is k. (own.retires w h is k.0, k.1);
      epochs = λ w epoch is k. (
        own.epochs w epoch is k.0,
        let acts = opening_acts setting.scope w.olympus epoch in
            sent_more setting w (with_olympus (in_next_epoch w.olympus) acts w) olympus acts.made acts.packets refl refl
            (olympus_told setting w acts.made acts.packets) k.1,
      );
      packets = λ w event packets brings k. (
        own.packets w event packets brings k.0,
        λ g honest host stage e h slot content has m for ne.
            Contains-append_left w.pool packets (telling setting.scope g stage e h slot content m)
            (k.1 g honest host stage e h slot content has m for ne),
      );
      told = λ w events delivered injected takes notes k. (own.told w events delivered injected takes notes k.0, k.1);
    }

-- so it is in the first world
pub first_sent : {S : Type 0} (setting : Setting S) → SentWorld setting (fresh_world setting)
unfolding fresh_world
first_sent setting = (
  λ g ne. first_own setting.scope g,
  λ g honest host stage e h slot content has m for ne. absurd (none_made g (said_in e (body_at stage h slot content)) has),
)

-- and in each
pub said_is_sent : {S : Type 0} (setting : Setting S) → AreHosts setting.scope → InEachWorld setting (SaidIsSent setting)
said_is_sent setting hosts events w happen =
    (each_world_fact setting (SentWorld setting) (first_sent setting) (sent_steps setting hosts) events w happen).1
