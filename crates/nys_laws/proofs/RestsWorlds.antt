-- In each world the nodes of hosts are sound: they keep what is true, and what it rests on is there.
use Rattle.std.proofs.Common.{◌≡◌, ◌≢◌, ℕ, ◌+◌, ◌<◌, ◌==◌, Bool, true, false, ℤ, List, [], ◌∷◌, Some, None, refl, ap, sym, inl, inr, arith}
use Rattle.std.specs.Prelude.{Contains, if◌then◌else◌}
use Rattle.std.proofs.lemmas.List.Elements.{All-contains}
use Rattle.nys_bytes.specs.declared.content.Content.{Content}
use Rattle.nys_agreement.proofs.TableLemmas.{put_case}
use Rattle.nys_source.specs.Rules.{Rules}
use Rattle.nys_source.specs.Tables.{put}
use Rattle.nys_stmt.specs.declared.records.Record.{Record}
use Rattle.nys_stmt.specs.declared.statement.Body.{Body}
use Rattle.nys_stmt.specs.declared.statement.Body.TheVariants as body
use Rattle.nys_stmt.specs.declared.statement.FilledKind.TheVariants as kind
use Rattle.nys_stmt.specs.declared.statement.Statement.{Statement}
use Rattle.nys_stmt.specs.declared.tags.Tags.{Tags}
use Rattle.nys_rules.specs.declared.rule.Rule.{Rule}
use Rattle.nys_rules.specs.declared.rule.Rule.TheVariants.{Offer, Order, Certificate, Deliver, Log, Attest}
use Rattle.nys_rules.specs.Asking.{questions}
use Rattle.nys_rules.specs.Dropping.{accepted, misplaced, misplaced_body, untagged, verdict}
use Rattle.nys_rules.specs.Forged.{Entry, makers_told, with_made}
use Rattle.nys_rules.specs.Handling.{acts_by, acts_by_body, noted_by, with_input}
use Rattle.nys_rules.specs.Happening.{AreTrue}
use Rattle.nys_rules.specs.Heads.{with_heads}
use Rattle.nys_rules.specs.Logging.{logged}
use Rattle.nys_rules.specs.Noting.{at_desk, noted, noted_body, with_attests, with_certificate, with_orders}
use Rattle.nys_rules.specs.Packets.{Acts, nothing}
use Rattle.nys_rules.specs.Rules.{due}
use Rattle.nys_rules.specs.Scope.{quorum_at, Scope}
use Rattle.nys_rules.specs.Sending.{made_for, said_in}
use Rattle.nys_rules.specs.Taking.{acts_of, certifying, ordering, taken}
use Rattle.nys_rules.specs.View.{entering, first_view, length_of, newborn, sent_to, View, with_links}
use Rattle.nys_rules.specs.World.{Setting}
use Rattle.nys_rules.proofs.DueLemmas.{due_enabled}
use Rattle.nys_rules.proofs.SearchLemmas.{or_none}
use Rattle.nys_rules.proofs.SeatKeeping.{first_seats, noted_seats, taken_seats}
use Rattle.nys_laws.specs.Own.{HasSaid, KeepsOwn}
use Rattle.nys_laws.specs.Own.Stage.{Delivered}
use Rattle.nys_laws.specs.Rests.{AllFit, AreSound, IsSound, RestsOn}
use Rattle.nys_laws.specs.SetUp.{AreHosts}
use Rattle.nys_laws.specs.Worlds.{InEachWorld}
use Rattle.nys_laws.proofs.ActsLemmas.{AreAside, aside_answering, aside_questions, aside_reporting}
use Rattle.nys_laws.proofs.HeardLemmas.{beside_heard, first_heard, noted_makers, record_heard, rule_heard}
use Rattle.nys_laws.proofs.LedgerLemmas.{made_cases, none_made}
use Rattle.nys_laws.proofs.OwnLemmas.{IsAside, only_one}
use Rattle.nys_laws.proofs.RestsLemmas.{Backs, backs_entering, backs_more}
use Rattle.nys_laws.proofs.RestsSteps.{enabled_backs, noted_backs}
use Rattle.nys_laws.proofs.ViewLemmas.{beside_own, first_own, open_later, questions_own, record_own, rule_own}
use Rattle.nys_laws.proofs.WorldKeeping.{in_each_world, IsRead, StepsKeep}

-- all Delivers of g in the epoch are of slots below these
abbrev Below : (g : ℕ) → List Entry → (e : ℕ) → (ℕ → ℕ) → Type 0
Below g ledger e to =
    (h slot : ℕ) (content : Content) → HasSaid ledger g Delivered e h slot content → slot < to h

-- nothing of it is a Deliver of the epoch
abbrev HasNoVote : (e : ℕ) → List Statement → Type 0
HasNoVote e made =
    (h slot : ℕ) (content : Content) → Contains made (said_in e (body.Filled kind.Deliver h slot content)) → ⊥

-- where no vote is made
below_more : (g : ℕ) (made : List Statement) (ledger : List Entry) (e : ℕ) (to : ℕ → ℕ)
    → HasNoVote e made → Below g ledger e to → Below g (with_made g made ledger) e to
below_more g made ledger e to none k h slot content has =
    elim (made_cases g made ledger g (said_in e (body.Filled kind.Deliver h slot content)) has) [
      | inl old ↦ k h slot content old
      | inr new ↦ absurd (none h slot content new.1)
    ]

-- nothing is no vote
nothing_votes : (e : ℕ) → HasNoVote e []
nothing_votes e h slot content among = omega (arith, among.1)

-- one statement of another kind
one_votes : (e : ℕ) (said : Body)
    → ((h slot : ℕ) (content : Content) → said ≡ body.Filled kind.Deliver h slot content → ⊥)
    → HasNoVote e (said_in e said ∷ [])
one_votes e said other h slot content among =
    other h slot content
    (ap (λ (z : Statement). z.body) (only_one (said_in e said) (said_in e (body.Filled kind.Deliver h slot content)) among))

-- statements that bring no content into a slot
aside_votes : (e : ℕ) (acts : Acts) → AreAside e acts → HasNoVote e acts.made
aside_votes e acts aside h slot content among =
    (All-contains (IsAside e) acts.made (said_in e (body.Filled kind.Deliver h slot content)) aside among).other
    Delivered e h slot content refl

-- a vote for the open slot of a host
below_vote : (g : ℕ) (ledger : List Entry) (v : View) (h : ℕ) (content : Content)
    → KeepsOwn g ledger v → Below g ledger v.epoch v.voted_to
    → Below g (with_made g (said_in v.epoch (body.Filled kind.Deliver h (length_of v h) content) ∷ []) ledger)
    v.epoch (put v.voted_to h (length_of v h + 1))
below_vote g ledger v h content own k x slot c has =
    put_case (λ n. slot < n) v.voted_to h (length_of v h + 1) x
    (λ here. elim (made_cases g (vote ∷ []) ledger g (said_in v.epoch (body.Filled kind.Deliver x slot c)) has) [
      | inl old ↦ let same = ap (length_of v) here in elim (own.own.said Delivered x slot c old) [
        | inl earlier ↦ omega (arith, earlier, same)
        | inr last ↦ let at = last.0 in omega (arith, at, same)
      ]
      | inr new ↦
          let is = ap (λ (z : Statement). z.body) (only_one vote (said_in v.epoch (body.Filled kind.Deliver x slot c)) new.1) in
          let at : length_of v h ≡ slot = cc in
          omega (arith, at)
    ])
    (λ there. elim (made_cases g (vote ∷ []) ledger g (said_in v.epoch (body.Filled kind.Deliver x slot c)) has) [
      | inl old ↦ k x slot c old
      | inr new ↦
          let is = ap (λ (z : Statement). z.body) (only_one vote (said_in v.epoch (body.Filled kind.Deliver x slot c)) new.1) in
          let host : h ≡ x = cc in
          absurd (there (sym host))
    ])
  where
    vote : Statement
    vote = said_in v.epoch (body.Filled kind.Deliver h (length_of v h) content)

-- each rule
rule_below : {S : Type 0} (scope : Scope S) (g : ℕ) (ledger : List Entry) (v : View) (rule : Rule)
    → KeepsOwn g ledger v → Below g ledger v.epoch v.voted_to
    → Below g (with_made g (acts_of scope v rule).made ledger) (taken scope v rule).epoch
    (taken scope v rule).voted_to
unfolding made_for ordering certifying with_heads logged with_links
rule_below scope g ledger v (Offer h content) own k =
    let said = body.Filled kind.Offer h (length_of v h) content in
    below_more g (said_in v.epoch said ∷ []) ledger v.epoch v.voted_to
    (one_votes v.epoch said (λ x s c is. cc)) k
rule_below scope g ledger v (Order h content) own k =
    let said = body.Filled kind.Order h (length_of v h) content in
    below_more g (said_in v.epoch said ∷ []) ledger v.epoch v.voted_to
    (one_votes v.epoch said (λ x s c is. cc)) k
rule_below scope g ledger v (Certificate h content) own k =
    below_more g [] ledger v.epoch v.voted_to (nothing_votes v.epoch) k
rule_below scope g ledger v (Deliver h content) own k = below_vote g ledger v h content own k
rule_below scope g ledger v (Log h content) own k =
    below_more g [] ledger v.epoch v.voted_to (nothing_votes v.epoch) k
rule_below scope g ledger v (Attest p h n payload) own k =
    let said = body.Attest p h n payload in
    below_more g (said_in v.epoch said ∷ []) ledger v.epoch v.voted_to
    (one_votes v.epoch said (λ x s c is. cc)) k

-- each kind of record
body_below : {S : Type 0} (scope : Scope S) (e : ℕ) (said : Body) (makers : List Tags) (g : ℕ) (ledger : List Entry) (v : View)
    → misplaced_body scope v e said ≡ None → KeepsOwn g ledger v → Below g ledger v.epoch v.voted_to
    → Below g (with_made g (acts_by_body scope v said makers).made ledger) (noted_body scope e said makers v).epoch
    (noted_body scope e said makers v).voted_to
unfolding with_heads with_attests logged with_links entering
body_below scope e (body.Filled kind.Offer h slot content) makers g ledger v is own k =
    below_more g [] ledger v.epoch v.voted_to (nothing_votes v.epoch) k
body_below {S} scope e (body.Filled kind.Order h slot content) makers g ledger v is own k = by (v.me == h)
  where
    by : (b : Bool)
        → let next = if b then at_desk h (with_orders content makers) v
        else at_desk h (with_certificate (quorum_at scope v.epoch h) content makers) v in
        Below g (with_made g [] ledger) next.epoch next.voted_to
    by true = below_more g [] ledger v.epoch v.voted_to (nothing_votes v.epoch) k
    by false = below_more g [] ledger v.epoch v.voted_to (nothing_votes v.epoch) k
body_below scope e (body.Filled kind.Deliver h slot content) makers g ledger v is own k =
    below_more g [] ledger v.epoch v.voted_to (nothing_votes v.epoch) k
body_below scope e (body.Attest p h n payload) makers g ledger v is own k =
    below_more g [] ledger v.epoch v.voted_to (nothing_votes v.epoch) k
body_below scope e (body.Ask h slot) makers g ledger v is own k =
    let acts = acts_by_body scope v (body.Ask h slot) makers in
    below_more g acts.made ledger v.epoch v.voted_to
    (aside_votes v.epoch acts (aside_answering scope v h slot makers)) k
body_below scope e body.Wedge makers g ledger v is own k =
    let acts = acts_by_body scope v body.Wedge makers in
    below_more g acts.made ledger v.epoch v.voted_to (aside_votes v.epoch acts (aside_reporting scope v)) k
body_below scope e (body.Filled kind.Report h slot content) makers g ledger v is own k =
    below_more g [] ledger v.epoch v.voted_to (nothing_votes v.epoch) k
body_below scope e (body.Frozen h slot) makers g ledger v is own k =
    below_more g [] ledger v.epoch v.voted_to (nothing_votes v.epoch) k
body_below scope e (body.Open lengths) makers g ledger v is own k =
    below_more g [] ledger e _ (nothing_votes e)
    (λ h slot content has.
    let past = own.own.past (said_in e (body.Filled kind.Deliver h slot content)) has in
    let later = open_later scope v e lengths is in
    absurd (omega (arith, past, later)))
body_below scope e (body.Filled kind.Inherit h slot content) makers g ledger v is own k =
    below_more g [] ledger v.epoch v.voted_to (nothing_votes v.epoch) k

-- with the votes it is all that a view rests on
whole : {S : Type 0} (setting : Setting S) (g : ℕ) (ledger : List Entry) (v : View)
    → Backs setting g ledger v → Below g ledger v.epoch v.voted_to → RestsOn setting g ledger v
whole setting g ledger v k votes = record {
  host = k.host;
  desks = k.desks;
  heard = k.heard;
  attested = k.attested;
  voted = votes;
  logs = k.logs;
}

-- and without them it is the rest
backs_of : {S : Type 0} (setting : Setting S) (g : ℕ) (ledger : List Entry) (v : View)
    → RestsOn setting g ledger v → Backs setting g ledger v
backs_of setting g ledger v k = record {
  host = k.host;
  desks = k.desks;
  heard = k.heard;
  attested = k.attested;
  logs = k.logs;
}

-- each rule that is due
rule_sound : {S : Type 0} (setting : Setting S) (g : ℕ) (ledger : List Entry) (v : View) (rule : Rule)
    → due setting.scope v ≡ Some rule → IsSound setting g ledger v
    → IsSound setting g (with_made g (acts_of setting.scope v rule).made ledger) (taken setting.scope v rule)
rule_sound setting g ledger v rule is k = record {
  own = rule_own setting.scope g ledger v rule is k.own;
  hears = rule_heard setting g ledger v rule is k.hears;
  rests = whole setting g _ _
      (enabled_backs setting v rule (due_enabled setting.scope v rule is).1 g ledger (backs_of setting g ledger v k.rests))
      (rule_below setting.scope g ledger v rule k.own k.rests.voted);
  seats = taken_seats setting.scope v rule k.seats;
}

-- each record that is read and isn't dropped
record_rests : {S : Type 0} (setting : Setting S) → AreHosts setting.scope
    → (g : ℕ) (ledger : List Entry) (v : View) (r : Record) → IsRead r
    → verdict setting.scope v r ≡ None
    → AreTrue setting ledger r.statement
    (makers_told (noted_by nothing r (accepted setting.scope r.statement.epoch v.me r)))
    → IsSound setting g ledger v
    → RestsOn setting g (with_made g (acts_by setting.scope v r).made ledger) (noted setting.scope v r)
unfolding verdict misplaced noted acts_by
record_rests setting hosts g ledger v r read is true_all k =
    let makers = accepted setting.scope r.statement.epoch v.me r in
    let placed = (or_none (misplaced setting.scope v r.statement) (untagged makers) is).0 in
    let made = (acts_by setting.scope v r).made in
    let next = noted setting.scope v r in
    whole setting g (with_made g made ledger) next
    (backs_more setting g g made ledger next
    (noted_backs setting hosts g ledger v r read r.statement.body refl placed (noted_makers setting ledger v r is true_all) k.own
    (backs_of setting g ledger v k.rests)))
    (body_below setting.scope r.statement.epoch r.statement.body makers g ledger v placed k.own k.rests.voted)

-- what another party makes
beside_sound : {S : Type 0} (setting : Setting S) (party : ℕ) (made : List Statement) (g : ℕ) (ledger : List Entry) (v : View)
    → party ≢ g → IsSound setting g ledger v → IsSound setting g (with_made party made ledger) v
beside_sound setting party made g ledger v ne k = record {
  own = beside_own party made g ledger v ne k.own;
  hears = beside_heard setting party made g ledger v k.hears;
  rests = whole setting g (with_made party made ledger) v
      (backs_more setting g party made ledger v (backs_of setting g ledger v k.rests))
      (λ h slot content has.
      elim (made_cases party made ledger g (said_in v.epoch (body.Filled kind.Deliver h slot content)) has) [
        | inl old ↦ k.rests.voted h slot content old
        | inr new ↦ absurd (ne new.0)
      ]);
  seats = k.seats;
}

-- an input that waits
input_sound : {S : Type 0} (setting : Setting S) (g : ℕ) (ledger : List Entry) (v : View) (payload : List ℤ)
    → IsSound setting g ledger v → IsSound setting g ledger (with_input payload v)
unfolding sent_to
input_sound setting g ledger v payload k = record {
  own = record { host = k.own.host; own = k.own.own };
  hears = record { host = k.hears.host; desks = k.hears.desks; heard = k.hears.heard };
  rests = record {
    host = k.rests.host;
    desks = k.rests.desks;
    heard = k.rests.heard;
    attested = k.rests.attested;
    voted = k.rests.voted;
    logs = k.rests.logs;
  };
  seats = record { desks = k.seats.desks; heard = k.seats.heard };
}

-- questions
asking_sound : {S : Type 0} (setting : Setting S) (g : ℕ) (ledger : List Entry) (v : View)
    → IsSound setting g ledger v
    → IsSound setting g (with_made g (questions setting.scope v).made ledger) v
asking_sound setting g ledger v k =
    let acts = questions setting.scope v in
    record {
      own = questions_own setting.scope g ledger v k.own;
      hears = beside_heard setting g acts.made g ledger v k.hears;
      rests = whole setting g (with_made g acts.made ledger) v
          (backs_more setting g g acts.made ledger v (backs_of setting g ledger v k.rests))
          (below_more g acts.made ledger v.epoch v.voted_to
          (aside_votes v.epoch acts (aside_questions setting.scope v)) k.rests.voted);
      seats = k.seats;
    }

-- each step of a node keeps it sound
pub sound_steps : {S : Type 0} (setting : Setting S) → AreHosts setting.scope
    → StepsKeep setting (IsSound setting)
sound_steps setting hosts = record {
  beside = beside_sound setting;
  rules = rule_sound setting;
  records = λ g ledger v r read is true_makers k. record {
    own = record_own setting.scope g ledger v r is k.own;
    hears = record_heard setting g ledger v r is true_makers k.hears;
    rests = record_rests setting hosts g ledger v r read is true_makers k;
    seats = noted_seats setting.scope v r k.seats;
  };
  inputs = input_sound setting;
  asking = asking_sound setting;
}

-- an empty log
nothing_fits : {S : Type 0} (rules : Rules S) (h : ℕ) → AllFit rules h []
nothing_fits rules h [] rest content e = absurd (cc)
nothing_fits rules h (b ∷ before) rest content e = absurd (cc)

-- the first view
first_sound : {S : Type 0} (setting : Setting S) (g : ℕ) → IsSound setting g [] (first_view setting.scope g)
unfolding first_view
first_sound setting g = record {
  own = first_own setting.scope g;
  hears = first_heard setting g;
  rests = whole setting g [] _
      (backs_entering setting g [] 0 (λ _. 0) (λ _. false) (newborn g) refl
      (λ h. nothing_fits setting.scope.rules h))
      (λ h slot content has. absurd (none_made g _ has));
  seats = first_seats setting.scope g;
}

-- all nodes are sound
pub are_sound : {S : Type 0} (setting : Setting S) → AreHosts setting.scope
    → InEachWorld setting (AreSound setting)
are_sound setting hosts =
    in_each_world setting (IsSound setting) (first_sound setting) (sound_steps setting hosts)
