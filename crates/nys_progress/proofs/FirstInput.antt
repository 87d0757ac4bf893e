-- An input that is handed to an honest host before all else is offered at once, and logged after four exchanges.
use Rattle.std.proofs.Common.{◌≡◌, ◌≢◌, ℕ, zero, suc, ◌+◌, ◌<◌, ◌≤◌, ◌==◌, ◌&&◌, Bool, true, ℤ, List, [], ◌∷◌, length, map, Some, None, Ok, Err, refl, ap, sym, subst, ◌∙◌, inl, inr, arith}
use Rattle.std.specs.Prelude.{Contains, nat_lt, Option, option_and_then, Result, slice_get}
use Rattle.std.specs.Option.{option_or}
use Rattle.std.proofs.lemmas.Bool.Decides.{Decides-eqb}
use Rattle.std.proofs.lemmas.List.Elements.{Contains-append_left, Contains-append_right}
use Rattle.nys_agreement.proofs.ListLemmas.{in_prefix}
use Rattle.nys_agreement.specs.Claims.{IsPrefixOf}
use Rattle.nys_source.specs.Contents.{contents_taken}
use Rattle.nys_bytes.specs.declared.content.Content.{Content}
use Rattle.nys_bytes.specs.declared.content.Content.TheVariants.{External}
use Rattle.nys_votes.specs.Delivered.{backed}
use Rattle.nys_votes.specs.Seats.{no_seats}
use Rattle.nys_stmt.specs.Ranges.{IsPayload}
use Rattle.nys_stmt.specs.declared.statement.Body.TheVariants as body
use Rattle.nys_stmt.specs.declared.statement.FilledKind.TheVariants as kind
use Rattle.nys_stmt.specs.declared.statement.Statement.{Statement}
use Rattle.nys_rules.specs.declared.cause.DropCause.{DropCause}
use Rattle.nys_rules.specs.declared.notice.End.{End}
use Rattle.nys_rules.specs.declared.notice.NoteKind.TheVariants as tell
use Rattle.nys_rules.specs.declared.rule.Rule.{Rule}
use Rattle.nys_rules.specs.declared.rule.Rule.TheVariants.{Attest, Certificate, Deliver, Log, Offer, Order}
use Rattle.nys_rules.specs.Events.{Plain}
use Rattle.nys_rules.specs.Events.Plain.{Input}
use Rattle.nys_rules.specs.Exchanges.{exchanges_in, IsHonestGuard}
use Rattle.nys_rules.specs.Forged.{Entry, HasMade, with_made}
use Rattle.nys_rules.specs.Handling.{Goes, TakesWhere, with_input}
use Rattle.nys_rules.specs.Happening.{counted, Does, HappenAll, Happens, IfHonest, NodeIsHanded, Then, with_full_note}
use Rattle.nys_rules.specs.Heads.{candidate, head_content, lowest_head}
use Rattle.nys_rules.specs.Packets.{Acts, nothing}
use Rattle.nys_rules.specs.Premises.{HasGoodGuards}
use Rattle.nys_rules.specs.Rules.{due, Enabled, is_certified, only_if, ordered_content, to_attest, to_certify, to_deliver, to_log, to_offer, to_order}
use Rattle.nys_rules.specs.Scope.{olympus, quorum_at, Scope}
use Rattle.nys_rules.specs.Sending.{made_for, said_in}
use Rattle.nys_rules.specs.Settling.{Settles, SettlesInto}
use Rattle.nys_rules.specs.Spelling.{printed_run}
use Rattle.nys_rules.specs.Taking.{acts_of}
use Rattle.nys_rules.specs.View.{entering, first_view, is_open, length_of, sent_to, View, with_links}
use Rattle.nys_rules.specs.World.{after_node, fresh_world, is_honest, Setting, with_note, World}
use Rattle.nys_rules.proofs.CertificateLemmas.{both_true, only_if_some, passing_some}
use Rattle.nys_rules.proofs.DueLemmas.{due_enabled, none_enabled}
use Rattle.nys_rules.proofs.SearchLemmas.{or_some}
use Rattle.nys_rules.proofs.WorldFrames.{after_node_ok}
use Rattle.nys_laws.specs.Own.{HasSaid}
use Rattle.nys_laws.specs.Own.Stage.{Offered}
use Rattle.nys_laws.proofs.EpochWorlds.{histories_go_on}
use Rattle.nys_follows.proofs.FeedingWorlds.{set_up_of}
use Rattle.nys_follows.proofs.PromiseLemmas.{log_taken}
use Rattle.nys_follows.specs.Scenario.{IsScenario}
use Rattle.nys_progress.specs.Carried.{HasTags}
use Rattle.nys_progress.specs.FourExchanges.{HasWholeOrders}
use Rattle.nys_progress.specs.Relay.{HasNoWedge}
use Rattle.nys_progress.specs.FirstInput.{IsTakenFirst, TakesFirstInput}
use Rattle.nys_progress.proofs.EndedEpochs.{goes_quietly, IsGoing}
use Rattle.nys_progress.proofs.FourLaw.{logged_from}
use Rattle.nys_progress.proofs.LoggedHere.{IsPlace, no_olympus, place_of, truthful}
use Rattle.nys_progress.proofs.OfferedContents.{own_guard, standing_of}
use Rattle.nys_progress.proofs.OrderLaw.{IsOffering, offering_on}
use Rattle.nys_progress.proofs.OrderMarks.{nobody_there}
use Rattle.nys_progress.proofs.QuietNodes.{no_attest, no_overdue, no_votes, none_ordered}
use Rattle.nys_progress.proofs.ReadyContents.{IsReadyFor, ready_steps}
use Rattle.nys_progress.proofs.RelayWorlds.{entry_on, IsReached, log_of, node_on, reached_on}
use Rattle.nys_progress.proofs.TakenVotes.{live_by, open_by}

-- ---- the first rule

-- a node that was handed its first input
abbrev handed_view : {S : Type 0} → Scope S → ℕ → List ℤ → View
handed_view scope me payload = with_input payload (first_view scope me)

-- it offers the input first
handed_candidate : {S : Type 0} (scope : Scope S) (me : ℕ) (payload : List ℤ) (h : ℕ)
    → candidate scope (handed_view scope me payload) h ≡ Some (External payload)
unfolding candidate first_view entering with_links
handed_candidate scope me payload h =
    ap (λ (o : Option Content). option_or o (option_or (Some (External payload)) (lowest_head scope (handed_view scope me payload) h)))
    (ap (option_and_then (head_content scope (handed_view scope me payload) h)) (no_overdue (scope.credit 0) 0))

-- and nothing else is enabled
handed_enabled : {S : Type 0} (scope : Scope S) (me : ℕ) (payload : List ℤ) (rule : Rule)
    → Enabled scope (handed_view scope me payload) rule → rule ≡ Offer me (External payload)
unfolding first_view entering with_links to_offer to_order to_certify to_deliver to_log to_attest ordered_content sent_to
handed_enabled scope me payload (Offer h c) is =
    let parts = only_if_some _ _ c is in
    let here = (Decides-eqb me h).0 (both_true (me == h) _ parts.0).0 in
    let both = sym parts.1 ∙ handed_candidate scope me payload h in
    let same : c ≡ External payload = cc in
    ap (λ x. Offer x c) (sym here) ∙ ap (Offer me) same
handed_enabled scope me payload (Order h c) is =
    let held : ◌≡◌ {A = Option Content} None (Some c) = (only_if_some _ _ c is).1 in absurd (cc)
handed_enabled scope me payload (Certificate h c) is =
    let offered : ◌≡◌ {A = Option Content} None (Some c) = (only_if_some _ _ c is).1 in absurd (cc)
handed_enabled scope me payload (Deliver h c) is =
    absurd (elim (or_some (ordered_content scope (handed_view scope me payload) h) (backed (scope.t 0 h) no_seats) c (only_if_some _ _ c is).1) [
      | inl ordered ↦ none_ordered (me == h) (is_certified scope (handed_view scope me payload) h) c ordered
      | inr votes ↦ no_votes (scope.t 0 h + 1) c votes.1
    ])
handed_enabled scope me payload (Log h c) is =
    absurd (no_votes (quorum_at scope 0 h) c (passing_some _ _ c (only_if_some _ _ c is).1).0)
handed_enabled scope me payload (Attest p h k pay) is =
    absurd (no_attest _ (k, pay) (only_if_some _ _ (k, pay) is).1)

-- the host's own slot is open then
handed_open : {S : Type 0} (scope : Scope S) (h : ℕ) (payload : List ℤ) → h < scope.rules.hosts → scope.guards 0 h h ≡ true
    → is_open scope (handed_view scope h payload) h ≡ true
unfolding first_view entering with_links
handed_open scope h payload low own =
    open_by scope (handed_view scope h payload) h (live_by scope (handed_view scope h payload) h low own refl) refl (omega arith) (omega arith)

-- so the offer is due
handed_due : {S : Type 0} (scope : Scope S) (h : ℕ) (payload : List ℤ) → h < scope.rules.hosts → h < 32 → scope.guards 0 h h ≡ true
    → due scope (handed_view scope h payload) ≡ None → ⊥
unfolding first_view entering with_links to_offer
handed_due scope h payload low small own none =
    none_enabled scope (handed_view scope h payload) none (Offer h (External payload)) small
    (ap (λ (b : Bool). only_if (b && (is_open scope (handed_view scope h payload) h && true)) (candidate scope (handed_view scope h payload) h))
    ((Decides-eqb h h).1 refl)
    ∙ (ap (λ (b : Bool). only_if (b && true) (candidate scope (handed_view scope h payload) h)) (handed_open scope h payload low own)
    ∙ handed_candidate scope h payload h))

-- and made as the node settles
offer_made : {S : Type 0} (scope : Scope S) (h : ℕ) (payload : List ℤ) (v after : View) (acts : Acts) → SettlesInto scope v after acts
    → (due scope v ≡ None → ⊥) → ((rule : Rule) → due scope v ≡ Some rule → rule ≡ Offer h (External payload))
    → Contains acts.made (said_in v.epoch (body.Filled kind.Offer h (length_of v h) (External payload)))
unfolding made_for
offer_made {S} scope h payload v after acts s must only = by s.rules s.settles
  where
    said : Statement
    said = said_in v.epoch (body.Filled kind.Offer h (length_of v h) (External payload))

    by : (rules : List Rule) → Settles scope v rules after acts → Contains acts.made said
    by [] settles = absurd (must settles.0)
    by (rule ∷ rules) settles =
        let first : Contains (acts_of scope v rule).made said =
        subst (λ r. Contains (acts_of scope v r).made said) (sym (only rule settles.0)) (0, omega arith, refl) in
        subst (λ (a : Acts). Contains a.made said) (sym settles.1.2)
        (Contains-append_left (acts_of scope v rule).made settles.1.0.made said first)

-- what a party makes stands in the ledger
made_among : (g : ℕ) (made : List Statement) (ledger : List Entry) (s : Statement) → Contains made s
    → HasMade (with_made g made ledger) g s
made_among g made ledger s among =
    Contains-append_right ledger (map entry made) (entry s) (mapped made among)
  where
    entry : Statement → Entry
    entry x = record { party = g; statement = x }

    mapped : (xs : List Statement) → Contains xs s → Contains (map entry xs) (entry s)
    mapped [] none = absurd (let lt = none.1 in omega (arith, lt))
    mapped (x ∷ xs) (zero, lt, at) = (zero, omega arith, ap entry at)
    mapped (x ∷ xs) (suc n, lt, at) = let rest = mapped xs (n, omega (arith, lt), at) in (suc rest.0, omega (arith, rest.1), rest.2)

-- ---- the first event

-- what the ledger has then
handed_ledger : {S : Type 0} (setting : Setting S) (w next : World) (h : ℕ) (payload : List ℤ)
    → (n : NodeIsHanded setting w h payload (Ok next)) → next.ledger ≡ with_made h n.done.acts.made w.ledger
handed_ledger {S} setting w next h payload n = by n.done.dropped (sym n.result_is)
  where
    by : (dropped : Option DropCause) → after_node h n.after n.done (with_full_note h dropped w) ≡ Ok next
        → next.ledger ≡ with_made h n.done.acts.made w.ledger
    by None is = ap (λ (x : World). x.ledger) (after_node_ok h n.after n.done w next is)
    by (Some cause) is = ap (λ (x : World). x.ledger) (after_node_ok h n.after n.done (with_note (tell.QueueFull h) w) next is)

-- the host offers the input
handed_offers : {S : Type 0} (setting : Setting S) (next : World) (h : ℕ) (payload : List ℤ) → h < setting.scope.rules.hosts → h < 32
    → setting.scope.guards 0 h h ≡ true → NodeIsHanded setting (fresh_world setting) h payload (Ok next)
    → HasSaid next.ledger h Offered 0 h 0 (External payload)
unfolding fresh_world first_view entering with_links
handed_offers {S} setting next h payload low small own n =
    subst (λ l. HasMade l h said) (sym (handed_ledger setting (fresh_world setting) next h payload n))
    (made_among h n.done.acts.made [] said (by n.takes))
  where
    said : Statement
    said = said_in 0 (body.Filled kind.Offer h 0 (External payload))

    goes_made : Goes setting.scope (handed_view setting.scope h payload) nothing n.after n.done → Contains n.done.acts.made said
    goes_made goes =
        let made = offer_made setting.scope h payload (handed_view setting.scope h payload) n.after goes.rest goes.settles
        (handed_due setting.scope h payload low small own)
        (λ rule is. handed_enabled setting.scope h payload rule (due_enabled setting.scope (handed_view setting.scope h payload) rule is).1) in
        subst (λ (xs : List Statement). Contains xs said) (sym (ap (λ d. d.acts.made) goes.told)) made

    by : TakesWhere setting.scope (first_view setting.scope h) payload (nat_lt (length (first_view setting.scope h).waiting) 1024) n.after n.done
        → Contains n.done.acts.made said
    by goes = goes_made goes

-- each guard may order it in the first world
ready_first : {S : Type 0} (scope : Scope S) (h g : ℕ) (payload : List ℤ) → IsReadyFor scope 0 h 0 (External payload) (first_view scope g)
unfolding first_view entering with_links
ready_first scope h g payload = record {
  stands = record { rises = omega arith; here = λ now. record { lives = refl; above = omega arith; stands = inr (refl, tt) } };
  known = λ now long. tt;
  allowed = λ now long. inl (λ p u get. absurd (nobody_there p u get));
}

-- the first world is in epoch 0
going_first : {S : Type 0} (setting : Setting S) → IsGoing (fresh_world setting) 0
unfolding fresh_world
going_first setting = record { epoch = refl; active = refl }

-- as it is there
first_ready : {S : Type 0} (setting : Setting S) (h g : ℕ) (payload : List ℤ)
    → IsReadyFor setting.scope 0 h 0 (External payload) ((fresh_world setting).nodes g)
unfolding fresh_world
first_ready setting h g payload = ready_first setting.scope h g payload

-- so it is being offered after the first event
offering_first : {S : Type 0} (setting : Setting S) → IsScenario setting → HasGoodGuards setting.scope → HasTags setting.scope
    → (h : ℕ) (payload : List ℤ) (next : World) → h < setting.scope.rules.hosts → is_honest setting h ≡ true → IsPayload payload
    → 1 ≤ setting.scope.credit 0 → Happens setting (fresh_world setting) (Input h payload) (Ok next)
    → IsOffering setting 0 h 0 (External payload) next
offering_first {S} setting asked good tags h payload next low honest sound credit happens = record {
  reached = reached;
  place = place;
  going = goes_quietly setting (fresh_world setting) next (Input h payload ∷ []) 0 quiet all rises (going_first setting);
  host = low;
  honest = honest;
  epoch = let some = asked.some in omega (arith, some);
  room = omega arith;
  tags = tags;
  carried = record { sound = sound; range = tt };
  credit = credit;
  fine = λ g guard.
      node_on setting g (λ x ledger v. IsReadyFor setting.scope 0 h 0 (External payload) v)
      (ready_steps setting g 0 h 0 (External payload) credit tt) (fresh_world setting) next (Input h payload ∷ []) all
      (no_olympus setting next place 0 h g guard) (first_ready setting h g payload);
  offered = by happens.mid happens.does happens.result_is;
}
  where
    all : HappenAll setting (fresh_world setting) (Input h payload ∷ []) (Ok next)
    all = (Ok next, happens, refl)

    reached : IsReached setting next
    reached = record { events = Input h payload ∷ []; happen = all }

    place : IsPlace setting next
    place = place_of setting asked good (Input h payload ∷ []) next all

    before : IsPlace setting (fresh_world setting)
    before = place_of setting asked good [] (fresh_world setting) refl

    rises : (fresh_world setting).olympus.epoch ≤ next.olympus.epoch
    rises = (histories_go_on setting (set_up_of setting asked) (Input h payload ∷ []) (fresh_world setting) next before.history all before.follows).rises

    quiet : HasNoWedge (Input h payload ∷ [])
    quiet (zero, lt, at) = cc
    quiet (suc n, lt, at) = omega (arith, lt)

    own : setting.scope.guards 0 h h ≡ true
    own = (good 0 (let some = asked.some in omega (arith, some))).own h low

    small : h < 32
    small = let few = asked.hosts in omega (arith, low, few)

    by : (mid : Result World End) → Does setting (fresh_world setting) (Input h payload) mid → Ok next ≡ counted mid
        → HasSaid next.ledger h Offered 0 h 0 (External payload)
    by (Err end) does is = absurd (cc)
    by (Ok after) does is =
        let same : next ≡ record after { events = after.events + 1 } = cc in
        let n = subst (λ b. IfHonest b (fresh_world setting) (Ok after) (NodeIsHanded setting (fresh_world setting) h payload (Ok after))) honest does in
        subst (λ (x : World). HasSaid x.ledger h Offered 0 h 0 (External payload)) (sym same)
        (handed_offers setting after h payload low small own n)

-- it is so after events without a wedge
pub offering_there : {S : Type 0} (setting : Setting S) → IsScenario setting → HasGoodGuards setting.scope → HasTags setting.scope
    → (h : ℕ) (payload : List ℤ) → h < setting.scope.rules.hosts → is_honest setting h ≡ true → IsPayload payload
    → 1 ≤ setting.scope.credit 0 → (events : List Plain) (next : World)
    → HappenAll setting (fresh_world setting) (Input h payload ∷ events) (Ok next) → HasNoWedge events
    → IsOffering setting 0 h 0 (External payload) next
offering_there {S} setting asked good tags h payload low honest sound credit events next happen none =
    by happen.0 happen.1 happen.2
  where
    by : (mid : Result World End) → Happens setting (fresh_world setting) (Input h payload) mid
        → Then mid (Ok next) (λ x. HappenAll setting x events (Ok next)) → IsOffering setting 0 h 0 (External payload) next
    by (Err end) first rest = absurd (cc)
    by (Ok w) first rest =
        offering_on setting 0 h 0 (External payload) w next events none rest
        (offering_first setting asked good tags h payload w low honest sound credit first)

-- it is taken first where the four exchanges end
first_there : {S : Type 0} (setting : Setting S) → IsScenario setting → HasGoodGuards setting.scope → HasTags setting.scope
    → (h : ℕ) (payload : List ℤ) → h < setting.scope.rules.hosts → is_honest setting h ≡ true → IsPayload payload
    → 1 ≤ setting.scope.credit 0 → (events : List Plain) (next : World)
    → HappenAll setting (fresh_world setting) (Input h payload ∷ events) (Ok next) → HasNoWedge events
    → 4 ≤ exchanges_in events → HasWholeOrders setting next 0 h 0 → IsTakenFirst setting next h payload
first_there {S} setting asked good tags h payload low honest sound credit events next happen none four whole =
    by happen.0 happen.1 happen.2
  where
    by : (mid : Result World End) → Happens setting (fresh_world setting) (Input h payload) mid
        → Then mid (Ok next) (λ x. HappenAll setting x events (Ok next)) → IsTakenFirst setting next h payload
    by (Err end) first rest = absurd (cc)
    by (Ok w) first rest = record {
      run = in_prefix ((next.nodes h).logs h) (contents_taken setting.scope.rules (printed_run setting.scope next) h) taken 0 (External payload) (logs h host);
      logs = logs;
    }
      where
        start : IsOffering setting 0 h 0 (External payload) w
        start = offering_first setting asked good tags h payload w low honest sound credit first

        last : IsOffering setting 0 h 0 (External payload) next
        last = offering_on setting 0 h 0 (External payload) w next events none rest start

        host : IsHonestGuard setting 0 h h
        host = own_guard setting 0 h 0 (External payload) next last

        logs : (g : ℕ) → IsHonestGuard setting 0 h g → slice_get ((next.nodes g).logs h) 0 ≡ Some (External payload)
        logs g guard = logged_from setting 0 h 0 (External payload) w next events start rest none four whole g guard

        taken : IsPrefixOf ((next.nodes h).logs h) (contents_taken setting.scope.rules (printed_run setting.scope next) h)
        taken = last.place.promised.spelled.logs h h
            (log_of setting 0 h 0 (External payload) next (standing_of setting 0 h 0 (External payload) next last) h host)

-- and stays so, whatever follows
pub takes_first_input : {S : Type 0} (setting : Setting S) → IsScenario setting → HasGoodGuards setting.scope → HasTags setting.scope
    → 1 ≤ setting.scope.credit 0 → TakesFirstInput setting
takes_first_input {S} setting asked good tags credit h payload low honest sound before mid happen none four whole rest next comes =
    record {
      run = in_prefix ((next.nodes h).logs h) (contents_taken setting.scope.rules (printed_run setting.scope next) h) taken 0 (External payload) (logs h own);
      logs = logs;
    }
  where
    later : IsReached setting next
    later = reached_on setting mid next rest (record { events = Input h payload ∷ before; happen = happen }) comes

    place : IsPlace setting next
    place = place_of setting asked good later.events next later.happen

    other : (g : ℕ) → IsHonestGuard setting 0 h g → g ≢ olympus
    other g guard = no_olympus setting next place 0 h g guard

    own : IsHonestGuard setting 0 h h
    own = record {
      host = low;
      honest = honest;
      guards = (good 0 (let some = asked.some in omega (arith, some))).own h low;
    }

    logs : (g : ℕ) → IsHonestGuard setting 0 h g → slice_get ((next.nodes g).logs h) 0 ≡ Some (External payload)
    logs g guard =
        entry_on setting h 0 (External payload) g mid next rest (other g guard) comes
        ((first_there setting asked good tags h payload low honest sound credit before mid happen none four whole).logs g guard)

    taken : IsPrefixOf ((next.nodes h).logs h) (contents_taken setting.scope.rules (printed_run setting.scope next) h)
    taken = log_taken setting asked next place.machine h h (truthful setting next place 0 h h own)
