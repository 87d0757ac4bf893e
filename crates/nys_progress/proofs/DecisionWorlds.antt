-- In each world of a scenario with good guards the log of a host is decided where all its honest guards ended.
use Rattle.std.proofs.Common.{◌≡◌, ◌≢◌, ℕ, zero, ◌+◌, ◌-◌, ◌<◌, ◌≤◌, ◌==◌, ◌&&◌, ◌||◌, Bool, true, false, List, [], ◌∷◌, ◌++◌, Some, None, Ok, Err, refl, ap, sym, subst, ◌∙◌, inl, inr, arith, le-leb}
use Rattle.std.specs.Prelude.{All, Contains, Option, Result, count_by, if◌then◌else◌, nat_le, not, slice_get}
use Rattle.std.specs.List.{list_any}
use Rattle.std.proofs.lemmas.Bool.Decides.{Decides-eqb}
use Rattle.std.proofs.lemmas.List.Elements.{All-contains, Contains-append_right}
use Rattle.std.proofs.lemmas.Option.{slice_get_within}
use Rattle.nys_agreement.proofs.ListLemmas.{in_prefix}
use Rattle.nys_bytes.specs.declared.content.Content.{Content}
use Rattle.nys_hosts.proofs.CountLemmas.{hosts_with-some, hosts_with-within}
use Rattle.nys_hosts.proofs.ListLemmas.{counts_entries}
use Rattle.nys_hosts.proofs.QuorumLemmas.{AtLeast-honest, honest_are_a_quorum}
use Rattle.nys_hosts.specs.Counts.{hosts_with}
use Rattle.nys_votes.proofs.ContentLemmas.{decide_contents}
use Rattle.nys_votes.proofs.SeatLemmas.{counts_seats}
use Rattle.nys_votes.specs.Contents.{same_content}
use Rattle.nys_votes.specs.Meaning.{Holds}
use Rattle.nys_rules.specs.declared.decision.Decision.TheVariants as decide
use Rattle.nys_rules.specs.declared.notice.End.{End}
use Rattle.nys_rules.specs.declared.notice.NoteKind.TheVariants as tell
use Rattle.nys_rules.specs.Events.Plain.{Decide}
use Rattle.nys_rules.specs.Exchanges.{IsHonestGuard}
use Rattle.nys_rules.specs.Forged.{HasMade}
use Rattle.nys_rules.specs.Happening.{counted, Does, Happens}
use Rattle.nys_rules.specs.Olympus.{decision, first_bare, frozen_at, is_settled, open_decision, Reported, supported, supports}
use Rattle.nys_rules.specs.Premises.{HasGoodGuards}
use Rattle.nys_rules.specs.Scope.{olympus, quorum_at}
use Rattle.nys_rules.specs.Sending.{said_in}
use Rattle.nys_rules.specs.Spelling.{HasLog}
use Rattle.nys_rules.specs.View.{length_of}
use Rattle.nys_rules.specs.World.{Setting, with_decided, World}
use Rattle.nys_rules.proofs.CertificateLemmas.{both_true}
use Rattle.nys_rules.proofs.WorldFrames.{decided_frame}
use Rattle.nys_laws.specs.Epochs.{FollowsHistory, History}
use Rattle.nys_laws.specs.Testimony.{HearsTestimony, IsTrueReport}
use Rattle.nys_laws.specs.Vouched.{IsVouched}
use Rattle.nys_laws.specs.Worlds.{InEachWorld}
use Rattle.nys_laws.proofs.DecisionLemmas.{supported_stands}
use Rattle.nys_laws.proofs.EpochWorlds.{have_history, told_truly}
use Rattle.nys_laws.proofs.HistoryLemmas.{differ}
use Rattle.nys_laws.proofs.LiveLemmas.{honest_guard, not_true}
use Rattle.nys_laws.proofs.WorldKeeping.{HoldsOfNodes}
use Rattle.nys_follows.proofs.FeedingFollows.{truthful_of}
use Rattle.nys_follows.proofs.FeedingWorlds.{few_liars_of, hosts_of_scenario, set_up_of}
use Rattle.nys_follows.proofs.KnownLogs.{know_logs, KnowsLogs}
use Rattle.nys_follows.proofs.SpelledWorlds.{logs_agree}
use Rattle.nys_follows.specs.Promises.{LogsAgree}
use Rattle.nys_follows.specs.Scenario.{IsScenario}
use Rattle.nys_progress.specs.Decision.{DecidesWhereDue, HasEndedAt, IsDueAt}
use Rattle.nys_progress.specs.Statements.{deliver, frozen, inherit, report}
use Rattle.nys_progress.proofs.SupportLemmas.{found, supported_run, supported_some}
use Rattle.nys_progress.proofs.ToldLemmas.{HasRoom, KeepsTold, VotedTo}
use Rattle.nys_progress.proofs.ToldLemmas.HasRoom.{Told, Within}
use Rattle.nys_progress.proofs.ToldLemmas.VotedTo.{Base, Log, Vote}
use Rattle.nys_progress.proofs.ToldSteps.{keep_both, KeepsBoth}

-- what is known of a world in which a host is to be decided
record Due {S : Type 0} (setting : Setting S) (w : World) (h s : ℕ) : Type 0 where
  asked : IsScenario setting
  good : HasGoodGuards setting.scope
  due : IsDueAt setting w h s
  history : History
  follows : FollowsHistory setting history w
  hears : HearsTestimony setting w.ledger w.olympus
  both : HoldsOfNodes KeepsBoth w
  knows : HoldsOfNodes (λ g ledger v. KnowsLogs setting.scope v) w
  agree : LogsAgree setting w

-- the guard doesn't lie
abbrev Honest : {S : Type 0} → Setting S → World → (h m : ℕ) → Bool
Honest setting w h m = setting.scope.guards w.olympus.epoch h m && not (setting.liars m)

-- which is an honest guard
guard_of : {S : Type 0} (setting : Setting S) (w : World) (h s : ℕ) → Due setting w h s → (m : ℕ)
    → setting.scope.guards w.olympus.epoch h m ≡ true → setting.liars m ≡ false
    → IsHonestGuard setting w.olympus.epoch h m
guard_of setting w h s d m guards honest = record {
  host = (d.asked.guards w.olympus.epoch h m guards).guard;
  honest = honest_guard setting (hosts_of_scenario setting d.asked) w.olympus.epoch h m guards honest;
  guards = guards;
}

-- a host is not the Olympus
not_olympus : {S : Type 0} (setting : Setting S) (w : World) (h s : ℕ) → Due setting w h s → (m : ℕ)
    → IsHonestGuard setting w.olympus.epoch h m → m ≢ olympus
not_olympus setting w h s d m guard is = let low = guard.host in let few = d.asked.hosts in omega (arith, low, few, is)

-- what an honest guard reported is the entry of its log
reported_is : {S : Type 0} (setting : Setting S) (w : World) (h s : ℕ) → Due setting w h s → (m : ℕ)
    → IsHonestGuard setting w.olympus.epoch h m → (slot : ℕ) (content : Content)
    → HasMade w.ledger m (said_in w.olympus.epoch (report h slot content))
    → slice_get ((w.nodes m).logs h) slot ≡ Some content
reported_is setting w h s d m guard slot content has =
    let ended = d.due.guards m guard in
    let kept = (d.both m (not_olympus setting w h s d m guard)).1 in
    elim ((kept.told ended.wedged).reports h slot content
    (subst (λ e. HasMade w.ledger m (said_in e (report h slot content))) (sym ended.epoch) has)) [
      | inl entry ↦ entry
      | inr vote ↦
          let at : slot ≡ s = vote.0 ∙ ended.entries in
          let voted = subst (λ e. HasMade w.ledger m (said_in e (deliver h slot content))) ended.epoch vote.1 in
          absurd (ended.no_vote content
          (subst (λ x. HasMade w.ledger m (said_in w.olympus.epoch (deliver h x content))) at voted))
    ]

-- the host isn't retired in the history
lives : {S : Type 0} (setting : Setting S) (w : World) (h s : ℕ) (d : Due setting w h s)
    → d.history.retired w.olympus.epoch h ≡ false
lives {S} setting w h s d = by (d.history.retired w.olympus.epoch h) refl
  where
    by : (b : Bool) → d.history.retired w.olympus.epoch h ≡ b → d.history.retired w.olympus.epoch h ≡ false
    by false is = is
    by true is = differ (w.olympus.retired h) _ (d.follows.top.still h is) d.due.kept

-- the slot at which an honest guard froze is none past s
frozen_is : {S : Type 0} (setting : Setting S) (w : World) (h s : ℕ) → Due setting w h s → (m : ℕ)
    → IsHonestGuard setting w.olympus.epoch h m → (slot : ℕ)
    → HasMade w.ledger m (said_in w.olympus.epoch (frozen h slot)) → slot ≤ s
frozen_is {S} setting w h s d m guard slot has = by (kept.voted h)
  where
    ended : HasEndedAt w h s m
    ended = d.due.guards m guard

    other : m ≢ olympus
    other = not_olympus setting w h s d m guard

    kept : KeepsTold m w.ledger (w.nodes m)
    kept = (d.both m other).1

    is : slot ≡ (w.nodes m).voted_to h
    is = (kept.told ended.wedged).frozen h slot
        (subst (λ e. HasMade w.ledger m (said_in e (frozen h slot))) (sym ended.epoch) has)

    base : (w.nodes m).base h ≡ w.olympus.base h
    base = (d.follows.nodes m other).base h ∙ ap (λ e. d.history.base e h) ended.epoch
        ∙ sym (d.follows.top.base h d.due.host (lives setting w h s d))

    by : VotedTo w.ledger m (w.nodes m).epoch h ((w.nodes m).base h) (length_of (w.nodes m) h) ((w.nodes m).voted_to h)
        → slot ≤ s
    by (Base le) = let above = d.due.above in omega (arith, is, le, base, above)
    by (Log le) = let at = ended.entries in omega (arith, is, le, at)
    by (Vote to content vote) =
        let here = subst (λ e. HasMade w.ledger m (said_in e (deliver h (length_of (w.nodes m) h) content))) ended.epoch vote in
        absurd (ended.no_vote content
        (subst (λ x. HasMade w.ledger m (said_in w.olympus.epoch (deliver h x content))) ended.entries here))

-- the honest guards are a quorum, and more than may lie
honest_many : {S : Type 0} (setting : Setting S) (w : World) (h s : ℕ) → Due setting w h s
    → (quorum_at setting.scope w.olympus.epoch h ≤ hosts_with (Honest setting w h))
    × (setting.scope.t w.olympus.epoch h + 1 ≤ hosts_with (Honest setting w h))
unfolding quorum_at
honest_many setting w h s d =
    let e = w.olympus.epoch in
    let few = (few_liars_of setting d.asked).few e h in
    let many = (d.good e d.follows.top.within).many h d.due.host in
    let quorum = honest_are_a_quorum (setting.scope.t e h) (setting.scope.guards e h) setting.liars few many in
    (omega (arith, quorum), omega (arith, quorum, many))

-- of the guards that don't lie
honest_guard_of : {S : Type 0} (setting : Setting S) (w : World) (h s : ℕ) → Due setting w h s → (m : ℕ)
    → Honest setting w h m ≡ true → IsHonestGuard setting w.olympus.epoch h m
honest_guard_of setting w h s d m is =
    let parts = both_true (setting.scope.guards w.olympus.epoch h m) (not (setting.liars m)) is in
    guard_of setting w h s d m parts.0 (not_true (setting.liars m) parts.1)

-- there is one
one_guard : {S : Type 0} (setting : Setting S) (w : World) (h s : ℕ) → Due setting w h s
    → (m : ℕ) × IsHonestGuard setting w.olympus.epoch h m
one_guard setting w h s d =
    let many = (honest_many setting w h s d).1 in
    let one = hosts_with-some (Honest setting w h) (omega (arith, many)) in
    (one.0, honest_guard_of setting w h s d one.0 one.2)

-- an honest guard has a log of h
has_log : {S : Type 0} (setting : Setting S) (w : World) (h s : ℕ) → Due setting w h s → (m : ℕ)
    → IsHonestGuard setting w.olympus.epoch h m → HasLog setting w m h
has_log setting w h s d m guard =
    let other = not_olympus setting w h s d m guard in
    let ended = d.due.guards m guard in
    let me = (d.both m other).0.host in
    record {
      host = guard.host;
      honest = guard.honest;
      known = (d.knows m other).guarded h d.due.host
          (subst (λ e. setting.scope.guards e h (w.nodes m).me ≡ true) (sym ended.epoch)
          (subst (λ x. setting.scope.guards w.olympus.epoch h x ≡ true) (sym me) guard.guards));
    }

-- honest guards have one content in a slot
one_entry : {S : Type 0} (setting : Setting S) (w : World) (h s : ℕ) → Due setting w h s → (a b : ℕ)
    → IsHonestGuard setting w.olympus.epoch h a → IsHonestGuard setting w.olympus.epoch h b
    → (slot : ℕ) (c e : Content) → slice_get ((w.nodes a).logs h) slot ≡ Some c
    → slice_get ((w.nodes b).logs h) slot ≡ Some e → c ≡ e
one_entry setting w h s d a b one two slot c e x y =
    elim (d.agree.nodes a b h (has_log setting w h s d a one) (has_log setting w h s d b two)) [
      | inl first ↦
          let both = sym (in_prefix ((w.nodes a).logs h) ((w.nodes b).logs h) first slot c x) ∙ y in cc
      | inr second ↦
          let both = sym (in_prefix ((w.nodes b).logs h) ((w.nodes a).logs h) second slot e y) ∙ x in cc
    ]

-- a report of an honest guard that the Olympus keeps has the entry of the guard's log
kept_report : {S : Type 0} (setting : Setting S) (w : World) (h s : ℕ) → Due setting w h s → (m : ℕ)
    → IsHonestGuard setting w.olympus.epoch h m → setting.liars m ≡ false → (slot : ℕ) (r : Reported)
    → Contains (w.olympus.reports h slot) r → r.guard ≡ m → slice_get ((w.nodes m).logs h) slot ≡ Some r.content
kept_report setting w h s d m guard honest slot r among at =
    let is = All-contains (IsTrueReport setting w.ledger w.olympus.epoch (w.olympus.base h) h slot) (w.olympus.reports h slot) r
    (d.hears.reports h slot) among in
    let stands = subst (λ x. IsVouched setting w.ledger w.olympus.epoch h (report h slot r.content) x) at is.stands in
    reported_is setting w h s d m guard slot r.content (stands.1 honest)

-- so each slot from the base on to s is supported
slot_supported : {S : Type 0} (setting : Setting S) (w : World) (h s : ℕ) → Due setting w h s → (slot : ℕ)
    → w.olympus.base h ≤ slot → slot < s → (c : Content) × (supported setting.scope w.olympus h slot ≡ Some c)
unfolding supported
slot_supported {S} setting w h s d slot above below =
    supported_some (setting.scope.t w.olympus.epoch h) [] reports (λ c. omega arith) content
    (omega (arith, many, counts))
  where
    reports : List Reported
    reports = w.olympus.reports h slot

    one : (m : ℕ) × IsHonestGuard setting w.olympus.epoch h m
    one = one_guard setting w h s d

    first : (r : Reported) × Contains reports r × (r.guard ≡ one.0)
    first = (d.due.guards one.0 one.1).reported slot above below

    content : Content
    content = first.0.content

    test : Reported → Bool
    test r = same_content content r.content

    low : All (λ (r : Reported). r.guard < 32) reports
    low i x within =
        let r = d.hears.reports h slot i x within in
        let host = (d.asked.guards w.olympus.epoch h _ r.stands.0).guard in
        let few = d.asked.hosts in
        omega (arith, host, few)

    truthful : (m : ℕ) → IsHonestGuard setting w.olympus.epoch h m → setting.liars m ≡ false
    truthful m guard = (truthful_of setting m (not_olympus setting w h s d m guard) guard.honest).honest

    each : (m : ℕ) → m < 32 → Honest setting w h m ≡ true
        → list_any (λ (r : Reported). test r && (r.guard == m)) reports ≡ true
    each m small is =
        let guard = honest_guard_of setting w h s d m is in
        let mine = (d.due.guards m guard).reported slot above below in
        let a = kept_report setting w h s d one.0 one.1 (truthful one.0 one.1) slot first.0 first.1 first.2 in
        let b = kept_report setting w h s d m guard (truthful m guard) slot mine.0 mine.1 mine.2 in
        let same = one_entry setting w h s d one.0 m one.1 guard slot content mine.0.content a b in
        found (λ (r : Reported). test r && (r.guard == m)) reports mine.0 mine.1
        (ap (λ b. b && (mine.0.guard == m)) ((decide_contents content mine.0.content).1 same)
        ∙ (Decides-eqb mine.0.guard m).1 mine.2)

    many : setting.scope.t w.olympus.epoch h + 1
        ≤ hosts_with (λ m. list_any (λ (r : Reported). test r && (r.guard == m)) reports)
    many =
        let enough = (honest_many setting w h s d).1 in
        let within = hosts_with-within (Honest setting w h) (λ m. list_any (λ (r : Reported). test r && (r.guard == m)) reports) each in
        omega (arith, enough, within)

    counts : count_by test reports ≡ hosts_with (λ m. list_any (λ (r : Reported). test r && (r.guard == m)) reports)
    counts = counts_entries (λ (r : Reported). r.guard) test reports (d.hears.different h slot) low

-- slot s isn't
slot_bare : {S : Type 0} (setting : Setting S) (w : World) (h s : ℕ) → Due setting w h s
    → supported setting.scope w.olympus h s ≡ None
slot_bare {S} setting w h s d = by (supported setting.scope w.olympus h s) refl
  where
    never : (content : Content) → supported setting.scope w.olympus h s ≡ Some content → ⊥
    never content is =
        let stands = supported_stands setting (set_up_of setting d.asked) w.ledger w.olympus h s content d.hears is in
        let one = AtLeast-honest (setting.scope.t w.olympus.epoch h) (setting.scope.guards w.olympus.epoch h) setting.liars
        (IsVouched setting w.ledger w.olympus.epoch h (report h s content)) (λ m v. v.0)
        ((few_liars_of setting d.asked).few w.olympus.epoch h) stands in
        let guard = guard_of setting w h s d one.0 one.2.0 one.3 in
        let entry = reported_is setting w h s d one.0 guard s content (one.2.1 one.3) in
        let within = slice_get_within ((w.nodes one.0).logs h) s content entry in
        let long = (d.due.guards one.0 guard).entries in
        omega (arith, within, long)

    by : (some : Option Content) → supported setting.scope w.olympus h s ≡ some → supported setting.scope w.olympus h s ≡ None
    by None is = is
    by (Some content) is = absurd (never content is)

-- there are no more such slots than are looked at
few_slots : {S : Type 0} (setting : Setting S) (w : World) (h s : ℕ) → Due setting w h s
    → s ≤ w.olympus.base h + 1024
few_slots {S} setting w h s d = by (kept.room h)
  where
    one : (m : ℕ) × IsHonestGuard setting w.olympus.epoch h m
    one = one_guard setting w h s d

    entries : length_of (w.nodes one.0) h ≡ s
    entries = (d.due.guards one.0 one.1).entries

    kept : KeepsTold one.0 w.ledger (w.nodes one.0)
    kept = (d.both one.0 (not_olympus setting w h s d one.0 one.1)).1

    by : HasRoom w.ledger h (length_of (w.nodes one.0) h) → s ≤ w.olympus.base h + 1024
    by (Within le) = omega (arith, entries, le)
    by (Told e slot content le has) =
        let may = d.follows.made (said_in e (inherit h slot content)) has in
        let below = may.below in
        let past = d.follows.top.logged e h may.past in
        let same = d.follows.top.undecided h d.due.undecided in
        omega (arith, entries, le, below, past, same)

-- so the first slot that isn't supported is s
bare_at : {S : Type 0} (setting : Setting S) (w : World) (h s : ℕ) → Due setting w h s
    → first_bare setting.scope w.olympus h ≡ s
unfolding supports
bare_at setting w h s d =
    let base = w.olympus.base h in
    let above = d.due.above in
    let few = few_slots setting w h s d in
    let last : base + (s - base) ≡ s = omega (arith, above) in
    let run = supported_run setting.scope w.olympus h 1024 base (s - base) (omega (arith, above, few))
    (λ i low. slot_supported setting w h s d (base + i) (omega arith) (omega (arith, low, above)))
    (subst (λ x. supported setting.scope w.olympus h x ≡ None) (sym last) (slot_bare setting w h s d)) in
    omega (arith, run, last)

-- a quorum is frozen there
quorum_frozen : {S : Type 0} (setting : Setting S) (w : World) (h s : ℕ) → Due setting w h s
    → quorum_at setting.scope w.olympus.epoch h ≤ frozen_at w.olympus h s
quorum_frozen {S} setting w h s d =
    (counts_seats (λ slot. nat_le slot s) (w.olympus.frozen h) (quorum_at setting.scope w.olympus.epoch h) (d.hears.seats h)).1
    (record { makers = Honest setting w h; each = each; enough = (honest_many setting w h s d).0 })
  where
    each : (m : ℕ) → Honest setting w h m ≡ true → Holds (λ slot. nat_le slot s) (w.olympus.frozen h) m
    each m is =
        let guard = honest_guard_of setting w h s d m is in
        let honest = (truthful_of setting m (not_olympus setting w h s d m guard) guard.honest).honest in
        let seat = (d.due.guards m guard).frozen in
        let stands = (d.hears.frozen h m seat.0 seat.1).stands in
        let le = frozen_is setting w h s d m guard seat.0 (stands.1 honest) in
        (seat.0, seat.1, le-leb seat.0 s le)

-- so the answer is that the log is decided at s
decided_at : {S : Type 0} (setting : Setting S) (w : World) (h s : ℕ) → Due setting w h s
    → decision setting.scope w.olympus h ≡ decide.Decided s
unfolding decision
decided_at {S} setting w h s d =
    ap (λ (b : Bool). if not b then decide.NotWedged else if is_settled w.olympus h then decide.Settled
    else open_decision setting.scope w.olympus h) d.due.ending
    ∙ ap (λ (b : Bool). if b then decide.Settled else open_decision setting.scope w.olympus h) open_still
    ∙ ap (λ (x : ℕ). if nat_le (quorum_at setting.scope w.olympus.epoch h) (frozen_at w.olympus h x) then decide.Decided x
    else decide.Undecided x (frozen_at w.olympus h x)) (bare_at setting w h s d)
    ∙ ap (λ (b : Bool). if b then decide.Decided s else decide.Undecided s (frozen_at w.olympus h s))
    (le-leb (quorum_at setting.scope w.olympus.epoch h) (frozen_at w.olympus h s) (quorum_frozen setting w h s d))
  where
    open_still : is_settled w.olympus h ≡ false
    open_still = ap (λ b. b || w.olympus.retired h) d.due.undecided ∙ d.due.kept

-- what is told of it
told_of : {S : Type 0} (setting : Setting S) (w next : World) (h s : ℕ) → decision setting.scope w.olympus h ≡ decide.Decided s
    → Happens setting w (Decide h) (Ok next)
    → Contains next.notes (record { event = w.events; kind = tell.Decide h (decide.Decided s) })
told_of {S} setting w next h s answers happens = by happens.mid happens.does happens.result_is
  where
    ap_notes : (a b : World) → ◌≡◌ {A = Result World End} (Ok a) (Ok b) → a.notes ≡ b.notes
    ap_notes a b is = let same : a ≡ b = cc in ap (λ (x : World). x.notes) same

    by : (mid : Result World End) → Does setting w (Decide h) mid → Ok next ≡ counted mid
        → Contains next.notes (record { event = w.events; kind = tell.Decide h (decide.Decided s) })
    by (Err end) does is = absurd (cc)
    by (Ok after) does is =
        let was = record w { olympus = does.after } in
        let mid = with_decided h 0 (does.after.decided h) was in
        let frame = decided_frame h 0 (does.after.decided h) was in
        let event : mid.events ≡ w.events = ap (λ (x : World). x.events) frame in
        let answer : does.answer ≡ decide.Decided s = does.decides.told ∙ answers in
        let last : after.notes ≡ mid.notes ++ record { event = mid.events; kind = tell.Decide h does.answer } ∷ [] =
        ap_notes after _ does.result_is in
        let notes : next.notes ≡ after.notes = ap_notes next (record after { events = after.events + 1 }) is in
        subst (λ ns. Contains ns (record { event = w.events; kind = tell.Decide h (decide.Decided s) })) (sym (notes ∙ last))
        (subst (λ e. Contains (mid.notes ++ record { event = mid.events; kind = tell.Decide h does.answer } ∷ [])
        (record { event = e; kind = tell.Decide h (decide.Decided s) })) event
        (subst (λ a. Contains (mid.notes ++ record { event = mid.events; kind = tell.Decide h does.answer } ∷ [])
        (record { event = mid.events; kind = tell.Decide h a })) answer
        (Contains-append_right mid.notes (record { event = mid.events; kind = tell.Decide h does.answer } ∷ [])
        (record { event = mid.events; kind = tell.Decide h does.answer }) (zero, omega arith, refl))))

-- in each world
pub decides_where_due : {S : Type 0} (setting : Setting S) → IsScenario setting → HasGoodGuards setting.scope
    → InEachWorld setting (DecidesWhereDue setting)
decides_where_due setting asked good events w happen h s due next happens =
    let set = set_up_of setting asked in
    let history = have_history setting set events w happen in
    told_of setting w next h s
    (decided_at setting w h s (record {
      asked = asked;
      good = good;
      due = due;
      history = history.0;
      follows = history.1;
      hears = told_truly setting set events w happen;
      both = keep_both setting events w happen;
      knows = know_logs setting events w happen;
      agree = logs_agree setting asked events w happen;
    }))
    happens
