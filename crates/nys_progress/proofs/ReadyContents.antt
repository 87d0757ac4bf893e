-- A content that a guard may order in a slot: an input, or the next message of its link, which more guards attest than
-- may lie, where the credit rule allows it. It stays so until the log is past the slot.
use Rattle.std.proofs.Common.{◌≡◌, ℕ, ◌+◌, ◌<◌, ◌≤◌, ◌⊎◌, ◌==◌, ◌&&◌, ◌||◌, Bool, true, false, ℤ, List, [], ◌∷◌, length, Some, None, refl, ap, sym, subst, ◌∙◌, inl, inr, arith, le-leb, leb-true, length-append}
use Rattle.std.specs.Prelude.{is_none, is_some, Option}
use Rattle.std.specs.List.{position}
use Rattle.std.proofs.lemmas.Bool.Decides.{Decides-eqb}
use Rattle.std.proofs.lemmas.List.Quantifiers.{position-Some}
use Rattle.nys_agreement.specs.Alone.{alone, Fits}
use Rattle.nys_agreement.specs.Said.{Said}
use Rattle.nys_bytes.specs.declared.content.Content.{Content}
use Rattle.nys_bytes.specs.declared.content.Content.TheVariants.{External, Message}
use Rattle.nys_hosts.proofs.CountLemmas.{AtLeast-map}
use Rattle.nys_hosts.proofs.QuorumLemmas.{AtLeast-honest}
use Rattle.nys_hosts.specs.Counts.{AtLeast}
use Rattle.nys_votes.specs.Attested.{attested}
use Rattle.nys_votes.specs.Credit.{allows, is_late, is_overdue, lowest_overdue, settles_overdue}
use Rattle.nys_votes.specs.Seats.{passes, seat_of, with_seat}
use Rattle.nys_votes.proofs.ContentLemmas.{decide_payloads}
use Rattle.nys_votes.proofs.TallyLemmas.{attests_found, attests_stand}
use Rattle.nys_stmt.specs.Ranges.{IsContentInRange}
use Rattle.nys_stmt.specs.declared.statement.Body.TheVariants as body
use Rattle.nys_stmt.specs.declared.records.Record.{Record}
use Rattle.nys_rules.specs.declared.rule.Rule.{Rule}
use Rattle.nys_rules.specs.Certificates.{IsAttested}
use Rattle.nys_rules.specs.Dropping.{verdict}
use Rattle.nys_rules.specs.Forged.{Entry, HasMade}
use Rattle.nys_rules.specs.Handling.{with_input}
use Rattle.nys_rules.specs.Heads.{attested_payload, is_attested_next, is_same, own_attest, with_own}
use Rattle.nys_rules.specs.Noting.{noted}
use Rattle.nys_rules.specs.Scope.{Scope}
use Rattle.nys_rules.specs.Sending.{said_in}
use Rattle.nys_rules.specs.Taking.{taken}
use Rattle.nys_rules.specs.View.{length_of, next_number, sent_to, View}
use Rattle.nys_rules.specs.World.{is_honest, Setting, World}
use Rattle.nys_rules.proofs.CertificateLemmas.{next_by_makers}
use Rattle.nys_rules.proofs.SeatCases.{own_case, with_seat_case, with_seat_keeps, with_seat_takes}
use Rattle.nys_rules.proofs.SeatKeeping.{length-with_own}
use Rattle.nys_laws.specs.Rests.{IsSound}
use Rattle.nys_laws.specs.SetUp.{AreHosts}
use Rattle.nys_laws.specs.Vouched.{GuardsLink}
use Rattle.nys_laws.proofs.GroundLemmas.{own_made}
use Rattle.nys_laws.proofs.LiveLemmas.{honest_guard, low_guard}
use Rattle.nys_laws.proofs.WorldKeeping.{StepsKeep}
use Rattle.nys_follows.proofs.FeedingWorlds.{few_liars_of, hosts_of_scenario, low_or_not}
use Rattle.nys_follows.proofs.PromiseLemmas.{machine_keeps}
use Rattle.nys_progress.proofs.HeadMoves.{HeadsMove, record_heads, rule_heads}
use Rattle.nys_progress.proofs.HeldOffers.{no_back, none_passes, NoneLate}
use Rattle.nys_progress.proofs.HostMoves.{HostMoves, record_moves, rule_moves}
use Rattle.nys_progress.proofs.HostMoves.DeskMoves.{Rests}
use Rattle.nys_progress.proofs.HostMoves.HostMoves.{Enters, Grows, Waits}
use Rattle.nys_progress.proofs.LinkMoves.{HeadStays, LinkMoves, record_heads_stay, record_links, rule_heads_stay, rule_links}
use Rattle.nys_progress.proofs.LoggedHere.{IsPlace}
use Rattle.nys_progress.proofs.MarkedDesks.{seat_there, stands_moves, StandsIn}
use Rattle.nys_progress.proofs.TakenVotes.{NoMark, none_kept}

-- ---- known

-- the node heard m attest the payload for number k of p to h, or is m and attests it
abbrev pub HasHeard : {S : Type 0} → Scope S → View → (p h k : ℕ) → List ℤ → ℕ → Type 0
HasHeard scope v p h k payload m =
    (seat_of (v.heard p h k) m ≡ Some payload) ⊎ ((m ≡ v.me) × (own_attest scope v p h k ≡ Some payload))

-- an input, or the next message of its link, which more makers attest at the node than may lie
abbrev pub IsKnown : {S : Type 0} → Scope S → View → (h : ℕ) → Content → Type 0
IsKnown scope v h (External payload) = Unit {0}
IsKnown scope v h (Message p k payload) = (scope.rules.linked p h ≡ true) × (k ≡ next_number scope v p h)
    × AtLeast (scope.t v.epoch p + 1) (HasHeard scope v p h k payload)

-- a head of the content's own link is overdue in the slot
abbrev pub IsOverdue : (credit slot : ℕ) → List (Option ℕ) → Content → Type 0
IsOverdue credit slot heads (External payload) = ⊥
IsOverdue credit slot heads (Message p k payload) = (u : ℕ) × (seat_of heads p ≡ Some u) × (u + credit ≤ slot)

-- the credit rule allows the content
abbrev pub MayTake : (credit slot : ℕ) → List (Option ℕ) → Content → Type 0
MayTake credit slot heads content = NoneLate credit slot heads ⊎ IsOverdue credit slot heads content

-- at or past the slot, and at it the content may be ordered
pub record IsReadyFor {S : Type 0} (scope : Scope S) (e h slot : ℕ) (content : Content) (v : View) : Type 0 where
  pub stands : StandsIn e h slot NoMark v
  pub known : v.epoch ≡ e → length_of v h ≡ slot → IsKnown scope v h content
  pub allowed : v.epoch ≡ e → length_of v h ≡ slot → MayTake (scope.credit e) slot (v.heads h) content

-- a log that keeps its length in the epoch is as it was
same_log : (h : ℕ) (v next : View) → HostMoves h v next → next.epoch ≡ v.epoch → length_of next h ≡ length_of v h
    → next.logs h ≡ v.logs h
same_log h v next (Waits stays logs desks) epoch long = logs
same_log h v next (Grows stays c logs desks) epoch long =
    absurd (let longer = ap length logs in let one = length-append (v.logs h) (c ∷ []) in omega (arith, long, longer, one))
same_log h v next (Enters me later logs desks) epoch long = absurd (omega (arith, later, epoch))

-- the node is in the epoch, with its log at the slot, as it was before
record IsStill (e h slot : ℕ) (v next : View) : Type 0 where
  before : v.epoch ≡ e
  epoch : next.epoch ≡ v.epoch
  at : length_of v h ≡ slot
  long : length_of next h ≡ length_of v h

-- what moves of a content's link
abbrev ContentMoves : {S : Type 0} → Scope S → (h : ℕ) → Content → View → View → Type 0
ContentMoves scope h (External payload) v next = Unit {0}
ContentMoves scope h (Message p k payload) v next = LinkMoves scope p h k v next × HeadStays p h v next

-- a content that is known stays known
known_moves : {S : Type 0} (scope : Scope S) (h : ℕ) (content : Content) (v next : View) → next.epoch ≡ v.epoch
    → next.logs h ≡ v.logs h → ContentMoves scope h content v next → IsKnown scope v h content → IsKnown scope next h content
unfolding next_number
known_moves scope h (External payload) v next epoch logs moves known = tt
known_moves scope h (Message p k payload) v next epoch logs moves known =
    let stays = moves.0 epoch in (
      known.0,
      known.1 ∙ ap (λ l. (alone scope.rules h l).received p h) (sym logs),
      subst (λ n. AtLeast (scope.t n p + 1) (HasHeard scope next p h k payload)) (sym epoch)
          (AtLeast-map (scope.t v.epoch p + 1) (HasHeard scope v p h k payload) (HasHeard scope next p h k payload)
          (λ m has. elim has [
            | inl heard ↦ inl (stays.heard m payload heard)
            | inr own ↦ inr (own.0 ∙ sym stays.me, stays.own payload own.1)
          ]) known.2),
    )

-- a content that is allowed stays allowed
allowed_moves : {S : Type 0} (scope : Scope S) (h slot credit : ℕ) (content : Content) (v next : View) → 1 ≤ credit
    → next.epoch ≡ v.epoch → length_of next h ≡ length_of v h → length_of v h ≡ slot → HeadsMove h v next
    → ContentMoves scope h content v next
    → MayTake credit slot (v.heads h) content → MayTake credit slot (next.heads h) content
allowed_moves scope h slot credit content v next some epoch long at heads moves (inl none) =
    inl (λ p u get. elim (heads epoch long p u get) [
      | inl old ↦ none p u old
      | inr new ↦ omega (arith, new, at, some)
    ])
allowed_moves scope h slot credit (External payload) v next some epoch long at heads moves (inr late) = absurd late
allowed_moves scope h slot credit (Message p k payload) v next some epoch long at heads moves (inr late) =
    inr (late.0, moves.1 epoch long late.0 late.1, late.2)

-- so it may be ordered after a step
ready_moves : {S : Type 0} (scope : Scope S) (e h slot : ℕ) (content : Content) (v next : View) → 1 ≤ scope.credit e
    → HostMoves h v next → HeadsMove h v next → ContentMoves scope h content v next
    → IsReadyFor scope e h slot content v → IsReadyFor scope e h slot content next
ready_moves {S} scope e h slot content v next some moves heads links k = record {
  stands = stands_moves e h slot NoMark none_kept v next moves k.stands;
  known = λ now long. let s = still now long in
      known_moves scope h content v next s.epoch (same_log h v next moves s.epoch s.long) links (k.known s.before s.at);
  allowed = λ now long. let s = still now long in
      allowed_moves scope h slot (scope.credit e) content v next some s.epoch s.long s.at heads links (k.allowed s.before s.at);
}
  where
    still : next.epoch ≡ e → length_of next h ≡ slot → IsStill e h slot v next
    still now long =
        let on = no_back h v next moves in
        let was = k.stands.rises in
        let forward = on.0 in
        let longer = on.1 in
        let before : v.epoch ≡ e = omega (arith, was, forward, now) in
        let at : length_of v h ≡ slot = elim (k.stands.here before).stands [
          | inl past ↦ absurd (omega (arith, past, longer, long))
          | inr there ↦ there.0
        ] in
        record { before = before; epoch = now ∙ sym before; at = at; long = long ∙ sym at }

-- what moves of a content's link by a rule
rule_content : {S : Type 0} (scope : Scope S) (v : View) (rule : Rule) (h : ℕ) (content : Content) → IsContentInRange content
    → ContentMoves scope h content v (taken scope v rule)
rule_content scope v rule h (External payload) range = tt
rule_content scope v rule h (Message p k payload) range =
    (rule_links scope v rule p h k, rule_heads_stay scope v rule p h (let low = range.0 in omega (arith, low)))

-- and by a record
record_content : {S : Type 0} (scope : Scope S) (v : View) (r : Record) (h : ℕ) (content : Content) → IsContentInRange content
    → verdict scope v r ≡ None → ContentMoves scope h content v (noted scope v r)
record_content scope v r h (External payload) range is = tt
record_content scope v r h (Message p k payload) range is =
    (record_links scope v r p h k is, record_heads_stay scope v r p h (let low = range.0 in omega (arith, low)) is)

-- and by an input that waits
input_content : {S : Type 0} (scope : Scope S) (v : View) (given : List ℤ) (h : ℕ) (content : Content)
    → ContentMoves scope h content v (with_input given v)
unfolding own_attest sent_to
input_content scope v given h (External payload) = tt
input_content scope v given h (Message p k payload) =
    (λ epoch. record { me = refl; heard = λ m y get. get; own = λ y is. is }, λ epoch long u at. at)

-- at the node of g
abbrev pub ReadyAt : {S : Type 0} → Scope S → (g e h slot : ℕ) → Content → ℕ → List Entry → View → Type 0
ReadyAt scope g e h slot content x ledger v = x ≡ g → IsReadyFor scope e h slot content v

-- whatever it does
pub ready_steps : {S : Type 0} (setting : Setting S) (g e h slot : ℕ) (content : Content) → 1 ≤ setting.scope.credit e
    → IsContentInRange content → StepsKeep setting (ReadyAt setting.scope g e h slot content)
ready_steps setting g e h slot content some range = record {
  beside = λ party made x ledger v ne k. k;
  rules = λ x ledger v rule is k same.
      ready_moves setting.scope e h slot content v _ some (rule_moves setting.scope v rule h) (rule_heads setting.scope v rule h)
      (rule_content setting.scope v rule h content range) (k same);
  records = λ x ledger v r read is makers k same.
      ready_moves setting.scope e h slot content v _ some (record_moves setting.scope v r h is) (record_heads setting.scope v r h is)
      (record_content setting.scope v r h content range is) (k same);
  inputs = λ x ledger v payload k same.
      ready_moves setting.scope e h slot content v (with_input payload v) some
      (Waits (record { me = refl; epoch = refl; base = refl; retired = refl }) refl (Rests refl))
      (λ epoch long p u at. inl at) (input_content setting.scope v payload h content) (k same);
  asking = λ x ledger v k. k;
}

-- ---- what the tests say

-- what is allowed may be taken
pub may_take : (credit slot : ℕ) (heads : List (Option ℕ)) (content : Content) → allows credit slot heads content ≡ true
    → MayTake credit slot heads content
unfolding allows lowest_overdue is_overdue
may_take credit slot heads content is = by (position (passes (is_late credit slot)) heads) refl
  where
    overdue : (c : Content) → settles_overdue credit slot heads c ≡ true → IsOverdue credit slot heads c
    overdue (External payload) late = absurd (cc)
    overdue (Message p k payload) late = at (seat_of heads p) refl late
      where
        at : (o : Option ℕ) → seat_of heads p ≡ o → passes (is_late credit slot) o ≡ true
            → (u : ℕ) × (seat_of heads p ≡ Some u) × (u + credit ≤ slot)
        at None get passes_it = absurd (cc)
        at (Some u) get passes_it = (u, get, leb-true (u + credit) slot passes_it)

    by : (o : Option ℕ) → position (passes (is_late credit slot)) heads ≡ o → MayTake credit slot heads content
    by None found = inl (λ p u get. elim (low_or_not slot (u + credit)) [
      | inl low ↦ low
      | inr past ↦ absurd (none_passes (passes (is_late credit slot)) heads found p u get (le-leb (u + credit) slot past))
    ])
    by (Some q) found = inr (overdue content (sym (ap (λ (o : Option ℕ). is_none o || settles_overdue credit slot heads content) found) ∙ is))

-- and what may be taken is allowed
pub allowed_may : (credit slot : ℕ) (heads : List (Option ℕ)) (content : Content) → MayTake credit slot heads content
    → allows credit slot heads content ≡ true
unfolding allows lowest_overdue is_overdue
allowed_may credit slot heads content (inl none) = by (position (passes (is_late credit slot)) heads) refl
  where
    late : (p : ℕ) (o : Option ℕ) → seat_of heads p ≡ o → passes (is_late credit slot) o ≡ true → ⊥
    late p None at is = cc
    late p (Some u) at is = let low = none p u at in let le = leb-true (u + credit) slot is in omega (arith, low, le)

    by : (o : Option ℕ) → position (passes (is_late credit slot)) heads ≡ o
        → (is_none o || settles_overdue credit slot heads content) ≡ true
    by None is = refl
    by (Some p) is =
        let found = position-Some (passes (is_late credit slot)) heads p None is in
        absurd (late p (seat_of heads p) refl found.1)
allowed_may credit slot heads (External payload) (inr late) = absurd late
allowed_may credit slot heads (Message p k payload) (inr late) =
    ap (λ b. is_none (position (passes (is_late credit slot)) heads) || b)
    (ap (passes (is_late credit slot)) late.1 ∙ le-leb (late.0 + credit) slot late.2)
    ∙ either (is_none (position (passes (is_late credit slot)) heads))
  where
    either : (b : Bool) → (b || true) ≡ true
    either true = refl
    either false = refl

-- what is attested and next is known
pub known_of : {S : Type 0} (setting : Setting S) (g : ℕ) (ledger : List Entry) (v : View) (h : ℕ) (content : Content)
    → IsSound setting g ledger v → is_attested_next setting.scope v h content ≡ true → IsKnown setting.scope v h content
known_of setting g ledger v h (External payload) sound is = tt
known_of setting g ledger v h (Message p k payload) sound is =
    let next = next_by_makers setting.scope v h (Message p k payload) sound.seats is in (
      next.0,
      next.1,
      AtLeast-map (setting.scope.t v.epoch p + 1) (IsAttested setting.scope v p h k payload) (HasHeard setting.scope v p h k payload)
          (λ m has. own_case v.me (own_attest setting.scope v p h k) (v.heard p h k) payload m has) next.2,
    )

-- ---- attestations are true

-- attestations of one number of a link are of one payload
attest_one : {S : Type 0} (setting : Setting S) (w : World) → IsPlace setting w → (a b d e p h k : ℕ) (x y : List ℤ)
    → HasMade w.ledger a (said_in d (body.Attest p h k x)) → HasMade w.ledger b (said_in e (body.Attest p h k y)) → x ≡ y
attest_one setting w place a b d e p h k x y one other =
    let ledger = place.machine.tracks.ledger in
    let truth = (machine_keeps setting place.asked w place.machine).truth in
    let first = truth.attests a d p h k x (ledger.here a (Said.Attest d p h k x) one) in
    let second = truth.attests b e p h k y (ledger.here b (Said.Attest e p h k y) other) in
    let both = sym first ∙ second in
    cc

-- who attests a payload at the node guards both ends, and made it unless it lies
attester : {S : Type 0} (setting : Setting S) (g : ℕ) (ledger : List Entry) (v : View) (p h k : ℕ) (payload : List ℤ)
    → AreHosts setting.scope → IsSound setting g ledger v → (m : ℕ) → IsAttested setting.scope v p h k payload m
    → GuardsLink setting.scope v.epoch p h m
    × (setting.liars m ≡ false → HasMade ledger m (said_in v.epoch (body.Attest p h k payload)))
attester setting g ledger v p h k payload hosts sound m attests =
    elim (own_case v.me (own_attest setting.scope v p h k) (v.heard p h k) payload m attests) [
      | inl heard ↦
          let guards = sound.rests.heard p h k m payload heard in (
            guards,
            λ honest.
                sound.hears.heard p h k m payload heard (low_guard setting hosts v.epoch h m guards.of_host)
                (honest_guard setting hosts v.epoch h m guards.of_host honest),
          )
      | inr own ↦
          let was = own_made setting g ledger v p h k payload sound.rests own.1 in
          let is : g ≡ m = sym (own.0 ∙ sound.rests.host) in (
            subst (GuardsLink setting.scope v.epoch p h) is was.0,
            λ honest. subst (λ x. HasMade ledger x (said_in v.epoch (body.Attest p h k payload))) is was.1,
          )
    ]

-- of more attesters than may lie one made it
honest_attester : {S : Type 0} (setting : Setting S) (w : World) → IsPlace setting w → (g : ℕ) → IsSound setting g w.ledger (w.nodes g)
    → (p h k : ℕ) (payload : List ℤ)
    → AtLeast (setting.scope.t (w.nodes g).epoch p + 1) (IsAttested setting.scope (w.nodes g) p h k payload)
    → (m : ℕ) × (p < setting.scope.rules.hosts) × HasMade w.ledger m (said_in (w.nodes g).epoch (body.Attest p h k payload))
honest_attester setting w place g sound p h k payload makers =
    let v = w.nodes g in
    let P = IsAttested setting.scope v p h k payload in
    let each = λ (m : ℕ) (a : P m). attester setting g w.ledger v p h k payload (hosts_of_scenario setting place.asked) sound m a in
    let one = AtLeast-honest (setting.scope.t v.epoch p) (setting.scope.guards v.epoch p) setting.liars P (λ m a. (each m a).0.of_sender)
    ((few_liars_of setting place.asked).few v.epoch p) makers in
    (one.0, (each one.0 one.2).0.sender, (each one.0 one.2).1 one.3)

-- who is heard to attest it attests it at the node
heard_attests : {S : Type 0} (setting : Setting S) (w : World) → IsPlace setting w → (g : ℕ) → g < 32 → is_honest setting g ≡ true
    → IsSound setting g w.ledger (w.nodes g) → (p h k : ℕ) (payload : List ℤ) (m : ℕ)
    → HasHeard setting.scope (w.nodes g) p h k payload m → IsAttested setting.scope (w.nodes g) p h k payload m
heard_attests {S} setting w place g low honest sound p h k payload m (inl heard) = by (own_attest setting.scope (w.nodes g) p h k)
  where
    by : (o : Option (List ℤ)) → seat_of (with_own (w.nodes g).me o ((w.nodes g).heard p h k)) m ≡ Some payload
    by None = heard
    by (Some x) = with_seat_keeps (w.nodes g).me x ((w.nodes g).heard p h k) m payload heard
heard_attests {S} setting w place g low honest sound p h k payload m (inr own) =
    subst (λ o. seat_of (with_own v.me o heard) m ≡ Some payload) (sym own.1)
    (subst (λ x. seat_of (with_seat v.me payload heard) x ≡ Some payload) (sym own.0) here)
  where
    v : View
    v = w.nodes g

    heard : List (Option (List ℤ))
    heard = v.heard p h k

    me : v.me ≡ g
    me = sound.own.host

    seat : (y : List ℤ) × (seat_of (with_seat v.me payload heard) v.me ≡ Some y)
    seat = seat_there (with_seat v.me payload heard) v.me
        (with_seat_takes v.me payload heard (let seats = sound.seats.heard p h k in omega (arith, me, low, seats)))

    mine : HasMade w.ledger g (said_in v.epoch (body.Attest p h k payload))
    mine = (own_made setting g w.ledger v p h k payload sound.rests own.1).1

    same : seat.0 ≡ payload
    same = elim (with_seat_case v.me payload heard v.me seat.0 seat.1) [
      | inl old ↦
          let was = sound.hears.heard p h k v.me seat.0 old (omega (arith, me, low)) (subst (λ x. is_honest setting x ≡ true) (sym me) honest) in
          attest_one setting w place v.me g v.epoch v.epoch p h k seat.0 payload was mine
      | inr new ↦ sym new.1
    ]

    here : seat_of (with_seat v.me payload heard) v.me ≡ Some payload
    here = seat.1 ∙ ap Some same

-- so more makers than may lie attest it
attested_makers : {S : Type 0} (setting : Setting S) (w : World) → IsPlace setting w → (g : ℕ) → g < 32 → is_honest setting g ≡ true
    → IsSound setting g w.ledger (w.nodes g) → (p h k : ℕ) (payload : List ℤ) → IsKnown setting.scope (w.nodes g) h (Message p k payload)
    → AtLeast (setting.scope.t (w.nodes g).epoch p + 1) (IsAttested setting.scope (w.nodes g) p h k payload)
attested_makers setting w place g low honest sound p h k payload known =
    AtLeast-map (setting.scope.t (w.nodes g).epoch p + 1) (HasHeard setting.scope (w.nodes g) p h k payload)
    (IsAttested setting.scope (w.nodes g) p h k payload)
    (λ m has. heard_attests setting w place g low honest sound p h k payload m has) known.2

-- what is known is attested and next
pub attested_of : {S : Type 0} (setting : Setting S) (w : World) → IsPlace setting w → (g : ℕ) → g < 32 → is_honest setting g ≡ true
    → IsSound setting g w.ledger (w.nodes g) → (h : ℕ) (content : Content) → IsKnown setting.scope (w.nodes g) h content
    → is_attested_next setting.scope (w.nodes g) h content ≡ true
unfolding attested_payload
attested_of setting w place g low honest sound h (External payload) known = refl
attested_of {S} setting w place g low honest sound h (Message p k payload) known =
    ap (λ (b : Bool). b && (k == next_number setting.scope v p h && is_same found payload)) known.0
    ∙ (ap (λ (b : Bool). b && is_same found payload) ((Decides-eqb k (next_number setting.scope v p h)).1 known.1)
    ∙ by found refl)
  where
    v : View
    v = w.nodes g

    seats : List (Option (List ℤ))
    seats = with_own v.me (own_attest setting.scope v p h k) (v.heard p h k)

    found : Option (List ℤ)
    found = attested (setting.scope.t v.epoch p) seats

    long : length seats ≡ 32
    long = length-with_own v.me (own_attest setting.scope v p h k) (v.heard p h k) ∙ sound.seats.heard p h k

    makers : AtLeast (setting.scope.t v.epoch p + 1) (IsAttested setting.scope v p h k payload)
    makers = attested_makers setting w place g low honest sound p h k payload known

    by : (o : Option (List ℤ)) → found ≡ o → is_same o payload ≡ true
    by None is = absurd (let some = attests_found payload seats (setting.scope.t v.epoch p) long makers in
        let no = sym (ap is_some is) ∙ some in cc)
    by (Some y) is =
        let others = attests_stand y seats (setting.scope.t v.epoch p) long is in
        let one = honest_attester setting w place g sound p h k payload makers in
        let other = honest_attester setting w place g sound p h k y others in
        (decide_payloads y payload).1
        (attest_one setting w place other.0 one.0 v.epoch v.epoch p h k y payload other.2 one.2)

-- and fits the log
pub known_fits : {S : Type 0} (setting : Setting S) (w : World) → IsPlace setting w → (g : ℕ) → g < 32 → is_honest setting g ≡ true
    → IsSound setting g w.ledger (w.nodes g) → (h : ℕ) (content : Content) → IsKnown setting.scope (w.nodes g) h content
    → Fits setting.scope.rules h ((w.nodes g).logs h) content
unfolding next_number
known_fits setting w place g low honest sound h (External payload) known = tt
known_fits setting w place g low honest sound h (Message p k payload) known =
    let one = honest_attester setting w place g sound p h k payload
    (attested_makers setting w place g low honest sound p h k payload known) in
    (one.1, known.0, known.1)
