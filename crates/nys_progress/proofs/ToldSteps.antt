-- Each step of a node keeps what it told as its logs and votes are.
use Rattle.std.proofs.Common.{◌≡◌, ℕ, ◌+◌, ◌<◌, ◌==◌, ◌&&◌, Bool, true, false, List, [], ◌∷◌, ◌++◌, length, Some, None, refl, ap, sym, subst, inl, inr, arith, append-nil, length-append}
use Rattle.std.specs.Prelude.{Option, fold, if◌then◌else◌, not, map}
use Rattle.std.proofs.lemmas.Bool.Decides.{Decides-eqb}
use Rattle.std.proofs.lemmas.List.Elements.{Contains-append_cases}
use Rattle.nys_agreement.proofs.TableLemmas.{put_case}
use Rattle.nys_bytes.specs.declared.content.Content.{Content}
use Rattle.nys_source.specs.Tables.{put}
use Rattle.nys_stmt.specs.declared.records.Record.{Record}
use Rattle.nys_stmt.specs.declared.statement.Body.{Body}
use Rattle.nys_stmt.specs.declared.statement.Body.TheVariants as body
use Rattle.nys_stmt.specs.declared.statement.FilledKind.TheVariants as kind
use Rattle.nys_stmt.specs.declared.statement.Statement.{Statement}
use Rattle.nys_stmt.specs.declared.tags.Tags.{Tags}
use Rattle.nys_rules.specs.declared.cause.DropCause.{DropCause}
use Rattle.nys_rules.specs.declared.rule.Rule.{Rule}
use Rattle.nys_rules.specs.declared.rule.Rule.TheVariants.{Offer, Order, Certificate, Deliver, Log, Attest}
use Rattle.nys_rules.specs.Asking.{answering, asked_hosts, questions}
use Rattle.nys_rules.specs.Dropping.{accepted, if_current, misplaced, misplaced_body, permits, untagged, verdict}
use Rattle.nys_rules.specs.Forged.{Entry, HasMade, makers_told, with_made}
use Rattle.nys_rules.specs.Handling.{acts_by, acts_by_body, noted_by}
use Rattle.nys_rules.specs.Happening.{AreTrue}
use Rattle.nys_rules.specs.Heads.{with_heads}
use Rattle.nys_rules.specs.Logging.{logged}
use Rattle.nys_rules.specs.Noting.{at_desk, bases, noted, noted_body, retirements, with_attests, with_certificate, with_orders}
use Rattle.nys_rules.specs.Packets.{Acts, all_joined, joined, nothing}
use Rattle.nys_rules.specs.Rules.{Enabled, to_certify}
use Rattle.nys_rules.specs.Scope.{olympus, quorum_at, Scope}
use Rattle.nys_rules.specs.Sending.{made_for, said_in, to_guards}
use Rattle.nys_rules.specs.Taking.{acts_of, certifying, ordering, taken}
use Rattle.nys_rules.specs.View.{entering, first_view, is_live, length_of, View, with_links}
use Rattle.nys_rules.specs.World.{Setting}
use Rattle.nys_rules.proofs.CertificateLemmas.{both_true, only_if_some}
use Rattle.nys_rules.proofs.DueLemmas.{due_enabled}
use Rattle.nys_rules.proofs.SearchLemmas.{or_none}
use Rattle.nys_laws.specs.Own.{KeepsOwn}
use Rattle.nys_laws.proofs.HeardLemmas.{passed_on}
use Rattle.nys_laws.proofs.LedgerLemmas.{made_before, made_now, none_made}
use Rattle.nys_laws.proofs.LiveLemmas.{not_true}
use Rattle.nys_laws.proofs.OlympusLemmas.{olympus_true, one_accepted}
use Rattle.nys_laws.proofs.OpenLemmas.{attest_next, deliver_open, inherit_is, log_open, offer_open, order_open}
use Rattle.nys_laws.proofs.OwnWorlds.{own_steps}
use Rattle.nys_laws.proofs.ViewLemmas.{first_own, open_later}
use Rattle.nys_laws.specs.Worlds.{InEachWorld}
use Rattle.nys_laws.proofs.WorldKeeping.{HoldsOfNodes, in_each_world, StepsKeep}
use Rattle.nys_progress.specs.Statements.{deliver, frozen, inherit, report}
use Rattle.nys_progress.proofs.ToldLemmas.{awake_told, beside_told, GoesOnAwake, HasRoom, KeepsTold, none_tell, nothing_more, one_tells, room_more, TellsNothing, told_more, voted_longer, voted_more, VotedTo}
use Rattle.nys_progress.proofs.ToldLemmas.VotedTo.{Base, Vote}
use Rattle.nys_progress.proofs.ToldLemmas.HasRoom.{Told, Within}
use Rattle.nys_progress.proofs.ToldReports.{wedge_told}

-- the votes of a view, by a ledger
abbrev VotesOf : List Entry → (g : ℕ) → View → ℕ → Type 0
VotesOf ledger g v h = VotedTo ledger g v.epoch h (v.base h) (length_of v h) (v.voted_to h)

-- they go on where more was made
votes_on : (g : ℕ) (made : List Statement) (ledger : List Entry) (v : View) → KeepsTold g ledger v
    → (h : ℕ) → VotesOf (with_made g made ledger) g v h
votes_on g made ledger v k h = voted_more g made ledger g v.epoch h (v.base h) (length_of v h) (v.voted_to h) (k.voted h)

-- so does the room
room_on : (g : ℕ) (made : List Statement) (ledger : List Entry) (v : View) → KeepsTold g ledger v
    → (h : ℕ) → HasRoom (with_made g made ledger) h (length_of v h)
room_on g made ledger v k h = room_more g made ledger h (length_of v h) (k.room h)

-- a log with one entry more is one longer
one_longer : (logs : ℕ → List Content) (h x : ℕ) (content : Content) → x ≡ h
    → length (logs x) + 1 ≡ length (logs h ++ content ∷ [])
one_longer logs h x content here =
    let long = length-append (logs h) (content ∷ []) in
    let same = ap (λ y. length (logs y)) here in
    omega (arith, long, same)

-- the votes where one log has an entry more
votes_grown : (ledger : List Entry) (g h : ℕ) (content : Content) (v : View) (x : ℕ) → VotesOf ledger g v x
    → VotedTo ledger g v.epoch x (v.base x) (length (put v.logs h (v.logs h ++ content ∷ []) x)) (v.voted_to x)
votes_grown ledger g h content v x k =
    put_case (λ (l : List Content). VotedTo ledger g v.epoch x (v.base x) (length l) (v.voted_to x)) v.logs h (v.logs h ++ content ∷ []) x
    (λ here. subst (λ n. VotedTo ledger g v.epoch x (v.base x) n (v.voted_to x)) (one_longer v.logs h x content here)
    (voted_longer ledger g v.epoch x (v.base x) (length_of v x) (v.voted_to x) k))
    (λ there. k)

-- the room then
room_grown : (ledger : List Entry) (h : ℕ) (content : Content) (v : View) → HasRoom ledger h (length_of v h + 1)
    → (x : ℕ) → HasRoom ledger x (length_of v x)
    → HasRoom ledger x (length (put v.logs h (v.logs h ++ content ∷ []) x))
room_grown ledger h content v new x k =
    put_case (λ (l : List Content). HasRoom ledger x (length l)) v.logs h (v.logs h ++ content ∷ []) x
    (λ here. subst (λ y. HasRoom ledger y (length (v.logs h ++ content ∷ []))) (sym here)
    (subst (λ n. HasRoom ledger h n) (one_longer v.logs h h content refl) new))
    (λ there. k)

-- a vote for the open slot of a host
votes_voted : (ledger : List Entry) (g h : ℕ) (content : Content) (v : View) (x : ℕ) → KeepsTold g ledger v
    → VotedTo (with_made g (said_in v.epoch (deliver h (length_of v h) content) ∷ []) ledger) g v.epoch x (v.base x)
    (length_of v x) (put v.voted_to h (length_of v h + 1) x)
votes_voted ledger g h content v x k =
    let vote = said_in v.epoch (deliver h (length_of v h) content) in
    let next = with_made g (vote ∷ []) ledger in
    put_case (λ n. VotedTo next g v.epoch x (v.base x) (length_of v x) n) v.voted_to h (length_of v h + 1) x
    (λ here. subst (λ y. VotedTo next g v.epoch y (v.base y) (length_of v y) (length_of v h + 1)) (sym here)
    (Vote refl content (made_now g ledger vote)))
    (λ there. votes_on g (vote ∷ []) ledger v k x)

-- a certificate is sent by a node that isn't wedged
certify_awake : {S : Type 0} (scope : Scope S) (v : View) (h : ℕ) (content : Content)
    → to_certify scope v h ≡ Some content → v.wedged ≡ false
unfolding to_certify
certify_awake scope v h content e =
    let test = (only_if_some ((v.me == h && (is_live scope v h && not v.wedged)) && _) _ content e).0 in
    let some = (both_true (v.me == h && (is_live scope v h && not v.wedged)) _ test).0 in
    let live = (both_true (v.me == h) (is_live scope v h && not v.wedged) some).1 in
    not_true v.wedged (both_true (is_live scope v h) (not v.wedged) live).1

-- each rule that is enabled
rule_goes : {S : Type 0} (scope : Scope S) (g : ℕ) (ledger : List Entry) (v : View) (rule : Rule) → Enabled scope v rule
    → KeepsTold g ledger v → GoesOnAwake g ledger v (taken scope v rule) (acts_of scope v rule).made
unfolding made_for ordering certifying with_heads logged with_links
rule_goes scope g ledger v (Offer h content) e k = record {
  awake = (offer_open scope v h content e).active;
  still = refl;
  epoch = refl;
  nothing_told = one_tells v.epoch (body.Filled kind.Offer h (length_of v h) content) (λ x s c is. cc) (λ x s is. cc);
  voted = votes_on g (said_in v.epoch (body.Filled kind.Offer h (length_of v h) content) ∷ []) ledger v k;
  room = room_on g (said_in v.epoch (body.Filled kind.Offer h (length_of v h) content) ∷ []) ledger v k;
}
rule_goes scope g ledger v (Order h content) e k = record {
  awake = (order_open scope v h content e).active;
  still = refl;
  epoch = refl;
  nothing_told = one_tells v.epoch (body.Filled kind.Order h (length_of v h) content) (λ x s c is. cc) (λ x s is. cc);
  voted = votes_on g (said_in v.epoch (body.Filled kind.Order h (length_of v h) content) ∷ []) ledger v k;
  room = room_on g (said_in v.epoch (body.Filled kind.Order h (length_of v h) content) ∷ []) ledger v k;
}
rule_goes scope g ledger v (Certificate h content) e k = record {
  awake = certify_awake scope v h content e;
  still = refl;
  epoch = refl;
  nothing_told = none_tell v.epoch;
  voted = votes_on g [] ledger v k;
  room = room_on g [] ledger v k;
}
rule_goes scope g ledger v (Deliver h content) e k = record {
  awake = (deliver_open scope v h content e).active;
  still = refl;
  epoch = refl;
  nothing_told = one_tells v.epoch (deliver h (length_of v h) content) (λ x s c is. cc) (λ x s is. cc);
  voted = λ x. votes_voted ledger g h content v x k;
  room = room_on g (said_in v.epoch (deliver h (length_of v h) content) ∷ []) ledger v k;
}
rule_goes scope g ledger v (Log h content) e k =
    let open_at = (log_open scope v h content e).0 in record {
      awake = open_at.active;
      still = refl;
      epoch = refl;
      nothing_told = none_tell v.epoch;
      voted = λ x. votes_grown (with_made g [] ledger) g h content v x (votes_on g [] ledger v k x);
      room = λ x.
          room_grown (with_made g [] ledger) h content v (Within (let room = open_at.room in omega (arith, room))) x
          (room_on g [] ledger v k x);
    }
rule_goes scope g ledger v (Attest p h n payload) e k = record {
  awake = (attest_next scope v p h n payload e).active;
  still = refl;
  epoch = refl;
  nothing_told = one_tells v.epoch (body.Attest p h n payload) (λ x s c is. cc) (λ x s is. cc);
  voted = votes_on g (said_in v.epoch (body.Attest p h n payload) ∷ []) ledger v k;
  room = room_on g (said_in v.epoch (body.Attest p h n payload) ∷ []) ledger v k;
}

-- a record that is tested against the node's epoch is dropped by a wedged node
current_awake : (v : View) (e : ℕ) (rest : Option DropCause) → if_current v e rest ≡ None → v.wedged ≡ false
current_awake v e rest is =
    not_true v.wedged (passed_on (not v.wedged) _ rest (passed_on (e == v.epoch) _ _ is).1).0

-- what a node that isn't wedged notes, with its votes and the room then
notes_told : (g : ℕ) (ledger : List Entry) (v next : View) → v.wedged ≡ false → next.wedged ≡ v.wedged
    → next.epoch ≡ v.epoch → ((h : ℕ) → VotesOf (with_made g [] ledger) g next h)
    → ((h : ℕ) → HasRoom (with_made g [] ledger) h (length_of next h)) → KeepsTold g ledger v
    → KeepsTold g (with_made g [] ledger) next
notes_told g ledger v next awake still epoch votes room =
    awake_told g ledger v next [] (record {
      awake = awake;
      still = still;
      epoch = epoch;
      nothing_told = none_tell v.epoch;
      voted = votes;
      room = room;
    })

-- an epoch that begins: nothing was told of it
enters_told : {S : Type 0} (scope : Scope S) (e : ℕ) (base : ℕ → ℕ) (retired : ℕ → Bool) (g : ℕ) (ledger : List Entry) (v : View)
    → v.epoch < e → KeepsOwn g ledger v → KeepsTold g ledger v
    → KeepsTold g (with_made g [] ledger) (entering scope e base retired v)
unfolding entering with_links
enters_told scope e base retired g ledger v later own k = record {
  quiet = λ awake. nothing_more [] ledger g e (none_tell e) (record {
    reports = λ h slot content has.
        let past = own.own.past (said_in e (report h slot content)) has in omega (arith, past, later);
    frozen = λ h slot has. let past = own.own.past (said_in e (frozen h slot)) has in omega (arith, past, later);
  });
  told = λ ended. absurd (cc);
  voted = λ h. Base (omega arith);
  room = room_on g [] ledger v k;
}

-- where nothing is made
waits_told : (g : ℕ) (ledger : List Entry) (v : View) → KeepsTold g ledger v → KeepsTold g (with_made g [] ledger) v
waits_told g ledger v k = subst (λ l. KeepsTold g l v) (sym (append-nil ledger)) k

-- each kind of record, where the Olympus made what it alone may make
body_told : {S : Type 0} (setting : Setting S) (g : ℕ) (ledger : List Entry) (v : View) (e : ℕ) (said : Body) (makers : List Tags)
    → misplaced_body setting.scope v e said ≡ None
    → (((m : ℕ) → permits setting.scope e said m ≡ true → m ≡ olympus) → HasMade ledger olympus (said_in e said))
    → KeepsOwn g ledger v → KeepsTold g ledger v
    → KeepsTold g (with_made g (acts_by_body setting.scope v said makers).made ledger) (noted_body setting.scope e said makers v)
unfolding with_heads with_attests logged with_links answering
body_told setting g ledger v e (body.Filled kind.Offer h slot content) makers is top own k =
    notes_told g ledger v _ (current_awake v e _ is) refl refl (votes_on g [] ledger v k) (room_on g [] ledger v k) k
body_told {S} setting g ledger v e (body.Filled kind.Order h slot content) makers is top own k = by (v.me == h)
  where
    by : (b : Bool) → KeepsTold g (with_made g [] ledger) (if b then at_desk h (with_orders content makers) v
        else at_desk h (with_certificate (quorum_at setting.scope v.epoch h) content makers) v)
    by true = notes_told g ledger v _ (current_awake v e _ is) refl refl (votes_on g [] ledger v k) (room_on g [] ledger v k) k
    by false = notes_told g ledger v _ (current_awake v e _ is) refl refl (votes_on g [] ledger v k) (room_on g [] ledger v k) k
body_told setting g ledger v e (body.Filled kind.Deliver h slot content) makers is top own k =
    notes_told g ledger v _ (current_awake v e _ is) refl refl (votes_on g [] ledger v k) (room_on g [] ledger v k) k
body_told setting g ledger v e (body.Attest p h n payload) makers is top own k =
    notes_told g ledger v _ (current_awake v e _ is) refl refl (votes_on g [] ledger v k) (room_on g [] ledger v k) k
body_told setting g ledger v e (body.Ask h slot) makers is top own k = waits_told g ledger v k
body_told setting g ledger v e body.Wedge makers is top own k = wedge_told setting g ledger v (current_awake v e _ is) own k
body_told setting g ledger v e (body.Filled kind.Report h slot content) makers is top own k = absurd (cc)
body_told setting g ledger v e (body.Frozen h slot) makers is top own k = absurd (cc)
body_told setting g ledger v e (body.Open lengths) makers is top own k =
    enters_told setting.scope e (bases lengths) (retirements lengths) g ledger v (open_later setting.scope v e lengths is) own k
body_told setting g ledger v e (body.Filled kind.Inherit h slot content) makers is top own k =
    let next = inherit_is setting.scope v e h slot content is in
    let told = top (λ m permitted. (Decides-eqb m olympus).0 permitted) in
    let more = made_before g [] ledger olympus (said_in e (inherit h slot content)) told in
    notes_told g ledger v _ next.active refl refl
    (λ x. votes_grown (with_made g [] ledger) g h content v x (votes_on g [] ledger v k x))
    (λ x. room_grown (with_made g [] ledger) h content v
    (Told e slot content (let at = next.slot_is in omega (arith, at)) more) x (room_on g [] ledger v k x)) k

-- a record that isn't dropped
record_told : {S : Type 0} (setting : Setting S) (g : ℕ) (ledger : List Entry) (v : View) (r : Record)
    → verdict setting.scope v r ≡ None
    → AreTrue setting ledger r.statement
    (makers_told (noted_by nothing r (accepted setting.scope r.statement.epoch v.me r)))
    → KeepsOwn g ledger v → KeepsTold g ledger v
    → KeepsTold g (with_made g (acts_by setting.scope v r).made ledger) (noted setting.scope v r)
unfolding verdict misplaced acts_by noted
record_told setting g ledger v r is true_makers own k =
    let makers = accepted setting.scope r.statement.epoch v.me r in
    let parts = or_none (misplaced_body setting.scope v r.statement.epoch r.statement.body) (untagged makers) is in
    let one = one_accepted setting.scope v.me r parts.1 in
    body_told setting g ledger v r.statement.epoch r.statement.body makers parts.0
    (λ alone. olympus_true setting ledger v.me r true_makers one.0 one.1 (alone one.0.maker one.2)) own k

-- what two lists don't tell both don't
both_tell : (e : ℕ) (xs ys : List Statement) → TellsNothing e xs → TellsNothing e ys → TellsNothing e (xs ++ ys)
both_tell e xs ys a b = record {
  reports = λ h slot content among. elim (Contains-append_cases xs ys (said_in e (report h slot content)) among) [
    | inl first ↦ a.reports h slot content first
    | inr last ↦ b.reports h slot content last
  ];
  frozen = λ h slot among. elim (Contains-append_cases xs ys (said_in e (frozen h slot)) among) [
    | inl first ↦ a.frozen h slot first
    | inr last ↦ b.frozen h slot last
  ];
}

-- questions tell nothing
asks_on : {S : Type 0} (scope : Scope S) (v : View) (hs : List ℕ) (before : Acts) → TellsNothing v.epoch before.made
    → TellsNothing v.epoch (fold joined before (map (λ h. to_guards scope v h (body.Ask h (length_of v h))) hs)).made
unfolding made_for
asks_on scope v [] before first = first
asks_on scope v (h ∷ hs) before first =
    let said = body.Ask h (length_of v h) in
    asks_on scope v hs (joined before (to_guards scope v h said))
    (both_tell v.epoch before.made (said_in v.epoch said ∷ []) first
    (one_tells v.epoch said (λ x s c is. cc) (λ x s is. cc)))

-- so do those of a node
asks_nothing : {S : Type 0} (scope : Scope S) (v : View) → TellsNothing v.epoch (questions scope v).made
unfolding questions
asks_nothing {S} scope v = by v.wedged
  where
    ask : ℕ → Acts
    ask h = to_guards scope v h (body.Ask h (length_of v h))

    by : (b : Bool) → TellsNothing v.epoch (if b then nothing else all_joined (map ask (asked_hosts scope v))).made
    by true = none_tell v.epoch
    by false = asks_on scope v (asked_hosts scope v) nothing (none_tell v.epoch)

-- a node that asks
asking_told : {S : Type 0} (scope : Scope S) (g : ℕ) (ledger : List Entry) (v : View) → KeepsTold g ledger v
    → KeepsTold g (with_made g (questions scope v).made ledger) v
asking_told scope g ledger v k =
    let made = (questions scope v).made in record {
      quiet = λ awake. nothing_more made ledger g v.epoch (asks_nothing scope v) (k.quiet awake);
      told = λ ended. told_more made ledger g v.epoch v.logs v.voted_to (asks_nothing scope v) (k.told ended);
      voted = votes_on g made ledger v k;
      room = room_on g made ledger v k;
    }

-- the first view
first_told : {S : Type 0} (scope : Scope S) (g : ℕ) → KeepsTold g [] (first_view scope g)
unfolding first_view entering with_links
first_told scope g = record {
  quiet = λ awake. record {
    reports = λ h slot content has. none_made g (said_in 0 (report h slot content)) has;
    frozen = λ h slot has. none_made g (said_in 0 (frozen h slot)) has;
  };
  told = λ ended. absurd (cc);
  voted = λ h. Base (omega arith);
  room = λ h. Within (omega arith);
}

-- what a node keeps of its own, and of what it told
abbrev pub KeepsBoth : (g : ℕ) → List Entry → View → Type 0
KeepsBoth g ledger v = KeepsOwn g ledger v × KeepsTold g ledger v

-- each step keeps both
told_steps : {S : Type 0} (setting : Setting S) → StepsKeep setting KeepsBoth
told_steps setting =
    let own = own_steps setting in record {
      beside = λ party made g ledger v ne k. (own.beside party made g ledger v ne k.0, beside_told party made g ledger v ne k.1);
      rules = λ g ledger v rule is k. (
        own.rules g ledger v rule is k.0,
        awake_told g ledger v _ _ (rule_goes setting.scope g ledger v rule (due_enabled setting.scope v rule is).1 k.1) k.1,
      );
      records = λ g ledger v r read is true_makers k. (
        own.records g ledger v r read is true_makers k.0,
        record_told setting g ledger v r is true_makers k.0 k.1,
      );
      inputs = λ g ledger v payload k. (
        own.inputs g ledger v payload k.0,
        record { quiet = k.1.quiet; told = k.1.told; voted = k.1.voted; room = k.1.room },
      );
      asking = λ g ledger v k. (own.asking g ledger v k.0, asking_told setting.scope g ledger v k.1);
    }

-- so all nodes keep both in each world
pub keep_both : {S : Type 0} (setting : Setting S) → InEachWorld setting (HoldsOfNodes KeepsBoth)
keep_both setting =
    in_each_world setting KeepsBoth (λ g. (first_own setting.scope g, first_told setting.scope g)) (told_steps setting)
