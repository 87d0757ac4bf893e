-- A guard that holds a head of a link: until its log takes a message of that link the head stays recorded, and once it
-- is overdue the guard orders nothing but messages of links that have waited as long.
use Rattle.std.proofs.Common.{◌≡◌, ◌≢◌, ℕ, ◌+◌, ◌<◌, ◌≤◌, ◌⊎◌, ◌==◌, ◌&&◌, Bool, true, false, ℤ, List, [], ◌∷◌, ◌++◌, length, Some, None, refl, ap, sym, subst, ◌∙◌, inl, inr, arith, length-append}
use Rattle.std.specs.Prelude.{All, Contains, fold, if◌then◌else◌, is_none, Option, slice_get}
use Rattle.std.proofs.lemmas.Bool.{cases_eq, eqb-true}
use Rattle.std.proofs.lemmas.List.Sums.{fold-append}
use Rattle.std.proofs.lemmas.Option.{slice_get_within}
use Rattle.nys_agreement.proofs.ListLemmas.{append_some, in_push}
use Rattle.nys_agreement.proofs.TableLemmas.{put_at_case}
use Rattle.nys_agreement.specs.Alone.{after_content, alone}
use Rattle.nys_source.specs.Rules.{Rules}
use Rattle.nys_source.specs.Source.{fresh, Source}
use Rattle.nys_source.specs.Steps.{after_effect, after_payload, counted, with_state}
use Rattle.nys_source.specs.declared.effect.Effect.{Effect}
use Rattle.nys_source.specs.declared.effect.Effect.TheVariants.{Out, Send}
use Rattle.nys_bytes.specs.declared.content.Content.{Content}
use Rattle.nys_bytes.specs.declared.content.Content.TheVariants.{External, Message}
use Rattle.nys_stmt.specs.declared.records.Record.{Record}
use Rattle.nys_stmt.specs.declared.statement.Body.{Body}
use Rattle.nys_stmt.specs.declared.statement.Body.TheVariants as body
use Rattle.nys_stmt.specs.declared.statement.FilledKind.TheVariants as kind
use Rattle.nys_stmt.specs.declared.statement.Statement.{Statement}
use Rattle.nys_stmt.specs.declared.tags.Tags.{Tags}
use Rattle.nys_votes.specs.Credit.{allows}
use Rattle.nys_votes.specs.Seats.{seat_of}
use Rattle.nys_rules.specs.declared.rule.Rule.{Rule}
use Rattle.nys_rules.specs.declared.rule.Rule.TheVariants.{Attest, Certificate, Deliver, Log, Offer, Order}
use Rattle.nys_rules.specs.Asking.{questions}
use Rattle.nys_rules.specs.Dropping.{accepted, verdict}
use Rattle.nys_rules.specs.Forged.{Entry, HasMade, with_made}
use Rattle.nys_rules.specs.Handling.{acts_by, with_input}
use Rattle.nys_rules.specs.Heads.{is_allowed, is_attested_next, with_heads}
use Rattle.nys_rules.specs.Logging.{logged}
use Rattle.nys_rules.specs.Noting.{at_desk, noted, noted_body, with_attests, with_certificate, with_orders}
use Rattle.nys_rules.specs.Rules.{due, Enabled, passing_only, to_order}
use Rattle.nys_rules.specs.Scope.{quorum_at, Scope}
use Rattle.nys_rules.specs.Sending.{made_for, said_in}
use Rattle.nys_rules.specs.Taking.{acts_of, certifying, ordering, taken}
use Rattle.nys_rules.specs.View.{entering, first_view, is_open, length_of, next_number, View, with_links}
use Rattle.nys_rules.specs.World.{fresh_world, Setting}
use Rattle.nys_rules.proofs.CertificateLemmas.{both_true, only_if_some, passing_some}
use Rattle.nys_rules.proofs.DueLemmas.{due_enabled}
use Rattle.nys_laws.specs.Own.{HasSaid}
use Rattle.nys_laws.specs.Own.Stage.{Ordered}
use Rattle.nys_laws.specs.Worlds.{InEachWorld}
use Rattle.nys_laws.proofs.ActsLemmas.{aside_questions}
use Rattle.nys_laws.proofs.LedgerLemmas.{made_cases}
use Rattle.nys_laws.proofs.OwnLemmas.{only_one}
use Rattle.nys_laws.proofs.WorldKeeping.{HoldsOfNodes, StepsKeep, worlds_keep}
use Rattle.nys_evidence.proofs.ShownNodes.{aside_by, no_order}
use Rattle.nys_progress.proofs.GrownHeads.{GrowHeads, HeadsGrow, IsOf, not_grown, record_grows, rule_grows}
use Rattle.nys_progress.proofs.HeadMoves.{HeadsMove, record_heads, rule_heads}
use Rattle.nys_progress.proofs.HostMoves.{HostMoves, record_moves, rule_moves}
use Rattle.nys_progress.proofs.HostMoves.DeskMoves.{Rests}
use Rattle.nys_progress.proofs.HostMoves.HostMoves.{Enters, Grows, Waits}
use Rattle.nys_progress.proofs.LinkMoves.{HeadStays, record_heads_stay, rule_heads_stay}
use Rattle.nys_progress.proofs.OrderMarks.{nobody_there}
use Rattle.nys_progress.proofs.ReadyContents.{IsOverdue, may_take}

-- ---- messages of a link in a log

-- a message of p stands in the log, in a slot from one on and below another
pub record HasOf (p : ℕ) (log : List Content) (from to : ℕ) : Type 0 where
  pub place : ℕ
  pub content : Content
  pub entry : slice_get log place ≡ Some content
  pub is : IsOf p content
  pub above : from ≤ place
  pub below : place < to

-- none does
abbrev pub NoneOf : (p : ℕ) → List Content → (from to : ℕ) → Type 0
NoneOf p log from to = (i : ℕ) (c : Content) → from ≤ i → i < to → slice_get log i ≡ Some c → IsOf p c → ⊥

-- each head was recorded at a length that the log had, and no message of its link was taken since
abbrev pub AreRecent : List (Option ℕ) → List Content → Type 0
AreRecent heads log = (p u : ℕ) → seat_of heads p ≡ Some u → (u ≤ length log) × NoneOf p log u (length log)

-- the content is of another neighbour's link, which took nothing from some slot on, as many before this one as the credit
pub record IsInTurn {S : Type 0} (rules : Rules S) (h p credit : ℕ) (log : List Content) (s : ℕ) (c : Content) : Type 0 where
  pub sender : ℕ
  pub is : IsOf sender c
  pub other : p ≢ sender
  pub near : rules.linked sender h ≡ true
  pub since : ℕ
  pub late : since + credit ≤ s
  pub none : NoneOf sender log since s

-- the content is number k of p
abbrev pub IsNumber : (p k : ℕ) → Content → Type 0
IsNumber p k c = (payload : List ℤ) × (c ≡ Message p k payload)

-- what may be ordered in slot s by a guard that holds number k of p as a head: that, or what is in turn; or it took a
-- message of p since it had `from` entries
pub record IsFair {S : Type 0} (rules : Rules S) (h p k from credit : ℕ) (log : List Content) (s : ℕ) (c : Content) : Type 0 where
  pub within : s ≤ length log
  pub why : HasOf p log from s ⊎ (IsNumber p k c ⊎ IsInTurn rules h p credit log s c)

-- a message stays in a log that grows
of_more : (p from to : ℕ) (log more : List Content) → HasOf p log from to → HasOf p (log ++ more) from to
of_more p from to log more has = record {
  place = has.place;
  content = has.content;
  entry = append_some log more has.place has.content has.entry;
  is = has.is;
  above = has.above;
  below = has.below;
}

-- below a later slot too
of_below : (p from to end : ℕ) (log : List Content) → to ≤ end → HasOf p log from to → HasOf p log from end
of_below p from to end log le has = record {
  place = has.place;
  content = has.content;
  entry = has.entry;
  is = has.is;
  above = has.above;
  below = let low = has.below in omega (arith, low, le);
}

-- none stays none below the length
none_more : (p from to : ℕ) (log : List Content) (d : Content) → to ≤ length log → NoneOf p log from to
    → NoneOf p (log ++ d ∷ []) from to
none_more p from to log d le none i c above below get of = elim (in_push log d i c get) [
  | inl old ↦ none i c above below old of
  | inr new ↦ let at = new.0 in omega (arith, at, below, le)
]

-- what was fair is still
fair_more : {S : Type 0} (rules : Rules S) (h p k from credit : ℕ) (log : List Content) (d : Content) (s : ℕ) (c : Content)
    → IsFair rules h p k from credit log s c → IsFair rules h p k from credit (log ++ d ∷ []) s c
fair_more rules h p k from credit log d s c fair = record {
  within = let low = fair.within in let long = length-append log (d ∷ []) in omega (arith, low, long);
  why = elim fair.why [
    | inl has ↦ inl (of_more p from s log (d ∷ []) has)
    | inr (inl is) ↦ inr (inl is)
    | inr (inr turn) ↦ inr (inr (record {
      sender = turn.sender;
      is = turn.is;
      other = turn.other;
      near = turn.near;
      since = turn.since;
      late = turn.late;
      none = none_more turn.sender turn.since s log d fair.within turn.none;
    }))
  ];
}

-- ---- what a step does to the heads of h

-- a step of the node, seen from the heads of h
pub record CreditMoves (h : ℕ) (v next : View) : Type 0 where
  pub host : HostMoves h v next
  pub waits : HeadsMove h v next
  pub stays : (p : ℕ) → p < 32 → HeadStays p h v next
  pub grows : GrowHeads h v next
  -- an epoch begins with no head
  pub empties : v.epoch < next.epoch → (p u : ℕ) → seat_of (next.heads h) p ≡ Some u → ⊥

-- each rule that is taken
rule_credit : {S : Type 0} (scope : Scope S) (v : View) (rule : Rule) (h : ℕ) → CreditMoves h v (taken scope v rule)
unfolding with_heads logged with_links
rule_credit {S} scope v rule h = record {
  host = rule_moves scope v rule h;
  waits = rule_heads scope v rule h;
  stays = λ p low. rule_heads_stay scope v rule p h low;
  grows = rule_grows scope v rule h;
  empties = by rule;
}
  where
    by : (rule : Rule) → v.epoch < (taken scope v rule).epoch → (p u : ℕ)
        → seat_of ((taken scope v rule).heads h) p ≡ Some u → ⊥
    by (Offer x c) later p u at = omega (arith, later)
    by (Order x c) later p u at = omega (arith, later)
    by (Certificate x c) later p u at = omega (arith, later)
    by (Deliver x c) later p u at = omega (arith, later)
    by (Log x c) later p u at = omega (arith, later)
    by (Attest q x n payload) later p u at = omega (arith, later)

-- heads in the epoch that a record begins
body_empties : {S : Type 0} (scope : Scope S) (e : ℕ) (said : Body) (makers : List Tags) (v : View) (h : ℕ)
    → v.epoch < (noted_body scope e said makers v).epoch → (p u : ℕ)
    → seat_of ((noted_body scope e said makers v).heads h) p ≡ Some u → ⊥
unfolding with_attests entering with_links with_heads logged
body_empties scope e (body.Filled kind.Offer x slot c) makers v h later p u at = omega (arith, later)
body_empties {S} scope e (body.Filled kind.Order x slot c) makers v h later p u at = by (v.me == x) later
  where
    by : (b : Bool) → v.epoch < (if b then at_desk x (with_orders c makers) v
        else at_desk x (with_certificate (quorum_at scope v.epoch x) c makers) v).epoch → ⊥
    by true later = omega (arith, later)
    by false later = omega (arith, later)
body_empties scope e (body.Filled kind.Deliver x slot c) makers v h later p u at = omega (arith, later)
body_empties scope e (body.Filled kind.Report x slot c) makers v h later p u at = omega (arith, later)
body_empties scope e (body.Filled kind.Inherit x slot c) makers v h later p u at = omega (arith, later)
body_empties scope e (body.Attest q x n payload) makers v h later p u at = omega (arith, later)
body_empties scope e (body.Ask x slot) makers v h later p u at = omega (arith, later)
body_empties scope e body.Wedge makers v h later p u at = omega (arith, later)
body_empties scope e (body.Frozen x slot) makers v h later p u at = omega (arith, later)
body_empties scope e (body.Open lengths) makers v h later p u at = nobody_there p u at

-- each record that isn't dropped
record_credit : {S : Type 0} (scope : Scope S) (v : View) (r : Record) (h : ℕ) → verdict scope v r ≡ None
    → CreditMoves h v (noted scope v r)
unfolding noted
record_credit scope v r h is = record {
  host = record_moves scope v r h is;
  waits = record_heads scope v r h is;
  stays = λ p low. record_heads_stay scope v r p h low is;
  grows = record_grows scope v r h;
  empties = body_empties scope r.statement.epoch r.statement.body (accepted scope r.statement.epoch v.me r) v h;
}

-- an input that waits
input_credit : (v : View) (payload : List ℤ) (h : ℕ) → CreditMoves h v (with_input payload v)
input_credit v payload h = record {
  host = Waits (record { me = refl; epoch = refl; base = refl; retired = refl }) refl (Rests refl);
  waits = λ epoch long p u at. inl at;
  stays = λ p low epoch long u at. at;
  grows = not_grown h v (with_input payload v) refl;
  empties = λ later p u at. omega (arith, later);
}

-- ---- heads are recent

-- after a step they are
recent_moves : (h : ℕ) (v next : View) → CreditMoves h v next → AreRecent (v.heads h) (v.logs h)
    → AreRecent (next.heads h) (next.logs h)
recent_moves h v next moves recent p u at = by moves.host
  where
    fresh : u ≡ length_of next h → (u ≤ length (next.logs h)) × NoneOf p (next.logs h) u (length (next.logs h))
    fresh new = (omega (arith, new), λ i c above below get of. omega (arith, new, above, below))

    by : HostMoves h v next → (u ≤ length (next.logs h)) × NoneOf p (next.logs h) u (length (next.logs h))
    by (Waits stays logs desks) = elim (moves.waits stays.epoch (ap length logs) p u at) [
      | inl old ↦ subst (λ (l : List Content). (u ≤ length l) × NoneOf p l u (length l)) (sym logs) (recent p u old)
      | inr new ↦ fresh (new ∙ sym (ap length logs))
    ]
    by (Grows stays c logs desks) = elim ((moves.grows c logs).back p u at) [
      | inl old ↦
          let was = recent p u old.0 in let low = was.0 in let long = length-append (v.logs h) (c ∷ []) in
          subst (λ (l : List Content). (u ≤ length l) × NoneOf p l u (length l)) (sym logs) (
            omega (arith, low, long),
            λ i d above below get of.
                elim (in_push (v.logs h) c i d get) [
                  | inl before ↦ was.1 i d above (slice_get_within (v.logs h) i d before) before of
                  | inr now ↦ old.1 (subst (IsOf p) (sym now.1) of)
                ],
          )
      | inr new ↦ fresh new
    ]
    by (Enters me later logs desks) = absurd (moves.empties later p u at)

-- at each host
abbrev pub RecentAt : (h : ℕ) → ℕ → List Entry → View → Type 0
RecentAt h g ledger v = AreRecent (v.heads h) (v.logs h)

-- whatever a node does
recent_steps : {S : Type 0} (setting : Setting S) (h : ℕ) → StepsKeep setting (RecentAt h)
recent_steps setting h = record {
  beside = λ party made g ledger v ne k. k;
  rules = λ g ledger v rule is k. recent_moves h v _ (rule_credit setting.scope v rule h) k;
  records = λ g ledger v r read is makers k. recent_moves h v _ (record_credit setting.scope v r h is) k;
  inputs = λ g ledger v payload k. recent_moves h v _ (input_credit v payload h) k;
  asking = λ g ledger v k. k;
}

-- in each world
pub are_recent : {S : Type 0} (setting : Setting S) (h : ℕ) → InEachWorld setting (HoldsOfNodes (RecentAt h))
unfolding fresh_world first_view entering with_links
are_recent setting h events w happen =
    worlds_keep setting (RecentAt h) (recent_steps setting h) (fresh_world setting) w events happen
    (λ g ne p u at. absurd (nobody_there p u at))

-- ---- how much was received

-- effects leave it
effects_received : {S : Type 0} (h : ℕ) (effects : List Effect) (a : Source S)
    → (fold (after_effect h) a effects).received ≡ a.received
effects_received h [] a = refl
effects_received h (Send to payload ∷ effects) a = effects_received h effects (after_effect h a (Send to payload))
effects_received h (Out payload ∷ effects) a = effects_received h effects (after_effect h a (Out payload))

-- so does a payload that is taken
payload_received : {S : Type 0} (rules : Rules S) (a : Source S) (h : ℕ) (from : Option ℕ) (payload : List ℤ)
    → (after_payload rules a h from payload).received ≡ a.received
unfolding after_payload
payload_received rules a h from payload =
    let made = rules.next h (a.state h) from payload in effects_received h made.1 (with_state a h made.0)

-- a content that isn't of the link
content_received : {S : Type 0} (rules : Rules S) (h p : ℕ) (a : Source S) (c : Content) → (IsOf p c → ⊥)
    → (after_content rules h a c).received p h ≡ a.received p h
content_received {S} rules h p a (External payload) other =
    ap (λ (f : ℕ → ℕ → ℕ). f p h) (payload_received rules a h None payload)
content_received {S} rules h p a (Message q k payload) other =
    ap (λ (f : ℕ → ℕ → ℕ). f p h) (payload_received rules (counted a q h) h (Some q) payload)
    ∙ put_at_case (λ n. n ≡ a.received p h) a.received q h (a.received q h + 1) p h
    (λ same here. absurd (other same)) (λ ne. refl)

-- no message more of the link was received then
pub received_other : {S : Type 0} (rules : Rules S) (h p : ℕ) (log : List Content) (c : Content) → (IsOf p c → ⊥)
    → (alone rules h (log ++ c ∷ [])).received p h ≡ (alone rules h log).received p h
received_other {S} rules h p log c other =
    ap (λ (a : Source S). a.received p h) (fold-append (after_content rules h) (fresh rules) log (c ∷ []))
    ∙ content_received rules h p (alone rules h log) c other

-- ---- a head is held

-- which head is watched at which guard: number `number` of the link from `sender` to `host`, in the epoch, at the guard
-- whose log had `from` entries, recorded at slot `top` or before; and the rules and the credit
pub record Watch (S : Type 0) : Type 0 where
  pub rules : Rules S
  pub credit : ℕ
  pub epoch : ℕ
  pub host : ℕ
  pub sender : ℕ
  pub number : ℕ
  pub guard : ℕ
  pub from : ℕ
  pub top : ℕ

-- the node holds it as a head
pub record IsHead {S : Type 0} (x : Watch S) (v : View) : Type 0 where
  pub at : ℕ
  pub recorded : seat_of (v.heads x.host) x.sender ≡ Some at
  -- that was recorded at the slot or before
  pub early : at ≤ x.top
  -- and its number is the one that comes next
  pub next : (alone x.rules x.host (v.logs x.host)).received x.sender x.host ≡ x.number

-- what the guard may order so in a slot
abbrev pub IsFairBy : {S : Type 0} → Watch S → List Content → (s : ℕ) → Content → Type 0
IsFairBy x log s c = IsFair x.rules x.host x.sender x.number x.from x.credit log s c

-- a message of the sender stands in the log from those entries on
abbrev pub HasServed : {S : Type 0} → Watch S → View → Type 0
HasServed x v = HasOf x.sender (v.logs x.host) x.from (length_of v x.host)

-- the node holds the head or took a message of the sender since; and each content that it ordered in a slot past the
-- credit is fair
pub record IsHolding {S : Type 0} (x : Watch S) (ledger : List Entry) (v : View) : Type 0 where
  pub rises : x.epoch ≤ v.epoch
  pub long : x.from ≤ length_of v x.host
  pub recent : AreRecent (v.heads x.host) (v.logs x.host)
  pub held : v.epoch ≡ x.epoch → HasServed x v ⊎ IsHead x v
  pub orders : (s : ℕ) (c : Content) → HasSaid ledger x.guard Ordered x.epoch x.host s c → x.top + x.credit ≤ s
      → IsFairBy x (v.logs x.host) s c

-- the content is of the link, or it isn't
pub of_or_not : (p : ℕ) (c : Content) → IsOf p c ⊎ (IsOf p c → ⊥)
of_or_not p (External payload) = inr (λ is. is)
of_or_not p (Message q k payload) = cases_eq p q

-- the last entry of a log that took one
pub last_get : (xs : List Content) (c : Content) → slice_get (xs ++ c ∷ []) (length xs) ≡ Some c
last_get [] c = refl
last_get (y ∷ xs) c = last_get xs c

-- a log that takes an entry, where a head is held or served
grown_held : {S : Type 0} (x : Watch S) (v next : View) (c : Content) → x.sender < 32 → CreditMoves x.host v next
    → next.logs x.host ≡ v.logs x.host ++ c ∷ [] → x.from ≤ length_of v x.host → HasServed x v ⊎ IsHead x v
    → HasServed x next ⊎ IsHead x next
grown_held x v next c low moves logs long (inl has) =
    let one = length-append (v.logs x.host) (c ∷ []) in
    inl (subst (λ (l : List Content). HasOf x.sender l x.from (length l)) (sym logs)
    (of_below x.sender x.from (length_of v x.host) (length (v.logs x.host ++ c ∷ [])) (v.logs x.host ++ c ∷ []) (omega (arith, one))
    (of_more x.sender x.from (length_of v x.host) (v.logs x.host) (c ∷ []) has)))
grown_held x v next c low moves logs long (inr head) =
    let one = length-append (v.logs x.host) (c ∷ []) in
    elim (of_or_not x.sender c) [
      | inl of ↦ inl
          (subst (λ (l : List Content). HasOf x.sender l x.from (length l)) (sym logs)
          (record { place = length_of v x.host; content = c; entry = last_get (v.logs x.host) c; is = of; above = long; below = omega (arith, one) }))
      | inr other ↦ inr (record {
        at = head.at;
        recorded = (moves.grows c logs).forth x.sender head.at low head.recorded other;
        early = head.early;
        next = ap (λ l. (alone x.rules x.host l).received x.sender x.host) logs
            ∙ (received_other x.rules x.host x.sender (v.logs x.host) c other ∙ head.next);
      })
    ]

-- a step in which nothing is ordered
pub holding_moves : {S : Type 0} (x : Watch S) (ledger : List Entry) (v next : View) → x.sender < 32
    → CreditMoves x.host v next → IsHolding x ledger v → IsHolding x ledger next
holding_moves {S} x ledger v next low moves k = by moves.host
  where
    recent : AreRecent (next.heads x.host) (next.logs x.host)
    recent = recent_moves x.host v next moves k.recent

    by : HostMoves x.host v next → IsHolding x ledger next
    by (Waits stays logs desks) = record {
      rises = let was = k.rises in let at = stays.epoch in omega (arith, was, at);
      long = let was = k.long in let same = ap length logs in omega (arith, was, same);
      recent = recent;
      held = λ now. elim (k.held (sym stays.epoch ∙ now)) [
        | inl has ↦ inl (subst (λ (l : List Content). HasOf x.sender l x.from (length l)) (sym logs) has)
        | inr head ↦ inr (record {
          at = head.at;
          recorded = moves.stays x.sender low stays.epoch (ap length logs) head.at head.recorded;
          early = head.early;
          next = ap (λ l. (alone x.rules x.host l).received x.sender x.host) logs ∙ head.next;
        })
      ];
      orders = λ s c said late. subst (λ (l : List Content). IsFairBy x l s c) (sym logs) (k.orders s c said late);
    }
    by (Grows stays c logs desks) =
        let one = length-append (v.logs x.host) (c ∷ []) in
        let now_long = ap length logs in
        let was_long = k.long in record {
          rises = let was = k.rises in let at = stays.epoch in omega (arith, was, at);
          long = omega (arith, was_long, one, now_long);
          recent = recent;
          held = λ now. grown_held x v next c low moves logs k.long (k.held (sym stays.epoch ∙ now));
          orders = λ s d said late.
              subst (λ (l : List Content). IsFairBy x l s d) (sym logs)
              (fair_more x.rules x.host x.sender x.number x.from x.credit (v.logs x.host) c s d (k.orders s d said late));
        }
    by (Enters me later logs desks) = record {
      rises = let was = k.rises in omega (arith, was, later);
      long = let was = k.long in let same = ap length logs in omega (arith, was, same);
      recent = recent;
      held = λ now. absurd (let was = k.rises in omega (arith, was, later, now));
      orders = λ s c said late. subst (λ (l : List Content). IsFairBy x l s c) (sym logs) (k.orders s c said late);
    }

-- an Order that a rule makes is of the open slot, by the order rule
rule_orders : {S : Type 0} (scope : Scope S) (v : View) (rule : Rule) → Enabled scope v rule → (e h s : ℕ) (c : Content)
    → Contains (acts_of scope v rule).made (said_in e (body.Filled kind.Order h s c))
    → (v.epoch ≡ e) × (s ≡ length_of v h) × (to_order scope v h ≡ Some c)
unfolding made_for ordering certifying
rule_orders scope v (Offer x d) enabled e h s c among =
    absurd (let is = ap (λ (y : Statement). y.body) (only_one (said_in v.epoch (body.Filled kind.Offer x (length_of v x) d)) _ among) in cc)
rule_orders scope v (Order x d) enabled e h s c among =
    let order = said_in v.epoch (body.Filled kind.Order x (length_of v x) d) in
    let one = only_one order _ among in
    let epoch : v.epoch ≡ e = ap (λ (y : Statement). y.epoch) one in
    let is = ap (λ (y : Statement). y.body) one in
    let host : x ≡ h = cc in
    let place : length_of v x ≡ s = cc in
    let same : d ≡ c = cc in (
      epoch,
      sym place ∙ ap (length_of v) host,
      subst (λ y. to_order scope v y ≡ Some c) host (enabled ∙ ap Some same),
    )
rule_orders scope v (Certificate x d) enabled e h s c among = absurd (omega (arith, among.1))
rule_orders scope v (Deliver x d) enabled e h s c among =
    absurd (let is = ap (λ (y : Statement). y.body) (only_one (said_in v.epoch (body.Filled kind.Deliver x (length_of v x) d)) _ among) in cc)
rule_orders scope v (Log x d) enabled e h s c among = absurd (omega (arith, among.1))
rule_orders scope v (Attest q x n payload) enabled e h s c among =
    absurd (let is = ap (λ (y : Statement). y.body) (only_one (said_in v.epoch (body.Attest q x n payload)) _ among) in cc)

-- what may be ordered is next and allowed
order_allowed : {S : Type 0} (scope : Scope S) (v : View) (h : ℕ) (c : Content) → to_order scope v h ≡ Some c
    → (is_attested_next scope v h c ≡ true) × (allows (scope.credit v.epoch) (length_of v h) (v.heads h) c ≡ true)
unfolding to_order is_allowed
order_allowed scope v h c is =
    let rest = only_if_some (is_open scope v h && is_none (v.desks h).ordered) _ c is in
    let passed = passing_some (λ d. is_attested_next scope v h d && is_allowed scope v h d) (v.desks h).held c rest.1 in
    both_true (is_attested_next scope v h c) _ passed.1

-- what the guard orders past the credit is fair
ordered_fair : {S : Type 0} (scope : Scope S) (x : Watch S) (ledger : List Entry) (v : View) (c : Content)
    → x.rules ≡ scope.rules → x.credit ≡ scope.credit x.epoch → v.epoch ≡ x.epoch
    → to_order scope v x.host ≡ Some c → x.top + x.credit ≤ length_of v x.host
    → IsHolding x ledger v → IsFairBy x (v.logs x.host) (length_of v x.host) c
unfolding next_number
ordered_fair {S} scope x ledger v c rules credit now is late k =
    record { within = omega arith; why = by (k.held now) }
  where
    h : ℕ
    h = x.host

    may : (is_attested_next scope v h c ≡ true) × (allows (scope.credit v.epoch) (length_of v h) (v.heads h) c ≡ true)
    may = order_allowed scope v h c is

    overdue : (d : Content) → is_attested_next scope v h d ≡ true → IsOverdue x.credit (length_of v h) (v.heads h) d
        → IsHead x v
        → IsNumber x.sender x.number d ⊎ IsInTurn x.rules h x.sender x.credit (v.logs h) (length_of v h) d
    overdue (External payload) next is head = absurd is
    overdue (Message q n payload) next is head =
        let near = both_true (scope.rules.linked q h) _ next in
        let number = eqb-true n (next_number scope v q h) (both_true (n == next_number scope v q h) _ near.1).0 in
        elim (cases_eq x.sender q) [
          | inl same ↦
              let at : n ≡ x.number = number
              ∙ (ap (λ y. (alone scope.rules h (v.logs h)).received y h) (sym same)
              ∙ (ap (λ (r : Rules S). (alone r h (v.logs h)).received x.sender h) (sym rules) ∙ head.next)) in
              inl (payload, ap (λ y. Message y n payload) (sym same) ∙ ap (λ y. Message x.sender y payload) at)
          | inr other ↦ inr (record {
            sender = q;
            is = refl;
            other = other;
            near = ap (λ (r : Rules S). r.linked q h) rules ∙ near.0;
            since = is.0;
            late = is.2;
            none = (k.recent q is.0 is.1).1;
          })
        ]

    by : HasServed x v ⊎ IsHead x v
        → HasServed x v ⊎ (IsNumber x.sender x.number c ⊎ IsInTurn x.rules h x.sender x.credit (v.logs h) (length_of v h) c)
    by (inl has) = inl has
    by (inr head) =
        elim (may_take x.credit (length_of v h) (v.heads h) c
        (subst (λ n. allows n (length_of v h) (v.heads h) c ≡ true) (ap scope.credit now ∙ sym credit) may.1)) [
          | inl none ↦ absurd (let early = none x.sender head.at head.recorded in let low = head.early in omega (arith, early, low, late))
          | inr due ↦ inr (overdue c may.0 due head)
        ]

-- more is said, of which the Orders of the guard are fair
holding_more : {S : Type 0} (x : Watch S) (party : ℕ) (made : List Statement) (ledger : List Entry) (v : View)
    → ((s : ℕ) (c : Content) → party ≡ x.guard → Contains made (said_in x.epoch (body.Filled kind.Order x.host s c))
    → x.top + x.credit ≤ s → IsFairBy x (v.logs x.host) s c)
    → IsHolding x ledger v → IsHolding x (with_made party made ledger) v
holding_more x party made ledger v fair k = record {
  rises = k.rises;
  long = k.long;
  recent = k.recent;
  held = k.held;
  orders = λ s c said late.
      elim (made_cases party made ledger x.guard (said_in x.epoch (body.Filled kind.Order x.host s c)) said) [
        | inl old ↦ k.orders s c old late
        | inr new ↦ fair s c new.0 new.1 late
      ];
}

-- at the node of the guard
abbrev pub HoldingAt : {S : Type 0} → Watch S → ℕ → List Entry → View → Type 0
HoldingAt x g ledger v = g ≡ x.guard → IsHolding x ledger v

-- a rule that the guard takes
rule_holding : {S : Type 0} (scope : Scope S) (x : Watch S) → x.rules ≡ scope.rules → x.credit ≡ scope.credit x.epoch
    → x.sender < 32 → (g : ℕ) (ledger : List Entry) (v : View) (rule : Rule)
    → due scope v ≡ Some rule → IsHolding x ledger v
    → IsHolding x (with_made g (acts_of scope v rule).made ledger) (taken scope v rule)
rule_holding {S} scope x rules credit low g ledger v rule is k =
    holding_moves x (with_made g (acts_of scope v rule).made ledger) v _ low (rule_credit scope v rule x.host)
    (holding_more x g (acts_of scope v rule).made ledger v fair k)
  where
    fair : (s : ℕ) (c : Content) → g ≡ x.guard
        → Contains (acts_of scope v rule).made (said_in x.epoch (body.Filled kind.Order x.host s c))
        → x.top + x.credit ≤ s → IsFairBy x (v.logs x.host) s c
    fair s c own among late =
        let order = rule_orders scope v rule (due_enabled scope v rule is).1 x.epoch x.host s c among in
        subst (λ n. IsFairBy x (v.logs x.host) n c) (sym order.1)
        (ordered_fair scope x ledger v c rules credit order.0 order.2 (subst (λ n. x.top + x.credit ≤ n) order.1 late) k)

-- whatever it does
pub holding_steps : {S : Type 0} (setting : Setting S) (x : Watch S) → x.rules ≡ setting.scope.rules
    → x.credit ≡ setting.scope.credit x.epoch → x.sender < 32 → StepsKeep setting (HoldingAt x)
holding_steps setting x rules credit low = record {
  beside = λ party made g ledger v ne k same.
      holding_more x party made ledger v (λ s c own among late. absurd (ne (own ∙ sym same))) (k same);
  rules = λ g ledger v rule is k same. rule_holding setting.scope x rules credit low g ledger v rule is (k same);
  records = λ g ledger v r read is makers k same.
      holding_moves x (with_made g (acts_by setting.scope v r).made ledger) v _ low (record_credit setting.scope v r x.host is)
      (holding_more x g (acts_by setting.scope v r).made ledger v
      (λ s c own among late. absurd (no_order v.epoch (acts_by setting.scope v r).made x.epoch x.host s c (aside_by setting.scope v r) among)) (k same));
  inputs = λ g ledger v payload k same. holding_moves x ledger v _ low (input_credit v payload x.host) (k same);
  asking = λ g ledger v k same.
      holding_more x g (questions setting.scope v).made ledger v
      (λ s c own among late. absurd (no_order v.epoch (questions setting.scope v).made x.epoch x.host s c (aside_questions setting.scope v) among)) (k same);
}
