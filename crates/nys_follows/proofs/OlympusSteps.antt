-- The Olympus ends its epoch, decides logs, gives hosts up and hears guards, and the machine follows.
use Rattle.std.proofs.Common.{◌≡◌, ℕ, ◌+◌, ◌≤◌, Bool, true, List, ◌++◌, length, Some, refl, ap, sym, subst, ◌∙◌, inl, inr, arith}
use Rattle.std.specs.Prelude.{Option, slice_get}
use Rattle.std.proofs.lemmas.Bool.{cases_eq}
use Rattle.nys_bytes.specs.declared.content.Content.{Content}
use Rattle.nys_hosts.proofs.CountLemmas.{AtLeast-map}
use Rattle.nys_hosts.specs.Counts.{AtLeast}
use Rattle.nys_source.specs.Tables.{put}
use Rattle.nys_agreement.specs.After.{longest_with, run_with}
use Rattle.nys_agreement.specs.Events.{MayDecide}
use Rattle.nys_agreement.specs.Events.Event.{Decides, Retires, TopWedges}
use Rattle.nys_agreement.specs.Net.{quorum_in}
use Rattle.nys_agreement.specs.Said.{FrozeBy, Made, Said, Vouches}
use Rattle.nys_agreement.specs.Assembly as machine
use Rattle.nys_agreement.proofs.Agreement.{Sound}
use Rattle.nys_agreement.proofs.ListLemmas.{append_some}
use Rattle.nys_agreement.proofs.TableLemmas.{put_case, put_here, put_there}
use Rattle.nys_stmt.specs.declared.records.Record.{Record}
use Rattle.nys_stmt.specs.declared.statement.Body.{Body}
use Rattle.nys_stmt.specs.declared.statement.Body.TheVariants as body
use Rattle.nys_stmt.specs.declared.statement.FilledKind.TheVariants as kind
use Rattle.nys_stmt.specs.declared.tags.Tags.{Tags}
use Rattle.nys_rules.specs.declared.decision.Decision.{Decision}
use Rattle.nys_rules.specs.declared.decision.Decision.TheVariants as decide
use Rattle.nys_rules.specs.declared.decision.Retired.TheVariants as retire
use Rattle.nys_rules.specs.Dropping.{accepted}
use Rattle.nys_rules.specs.Forged.{Entry}
use Rattle.nys_rules.specs.Olympus.{after_decision, decision, hosts_of, OlympusView, proclaimed, Reported, retirement, supports, testified, testified_body, with_decision}
use Rattle.nys_rules.specs.Olympus.{Decides as IsDecided}
use Rattle.nys_rules.specs.Premises.{net_of}
use Rattle.nys_rules.specs.Scope.{olympus, quorum_at}
use Rattle.nys_rules.specs.World.{Setting, World}
use Rattle.nys_laws.specs.Vouched.{IsFrozenAt, IsVouched}
use Rattle.nys_laws.proofs.EventKeeping.{with_log, with_olympus}
use Rattle.nys_laws.proofs.HistoryLemmas.{differ}
use Rattle.nys_laws.proofs.OlympusLemmas.{decided_pending, IsPending, proclaimed_made, retired_pending}
use Rattle.nys_follows.specs.Follows.{IsFollowable, IsLedger, IsOlympus, IsRunOf, Reached, Tracks}
use Rattle.nys_follows.specs.Steps.{DecideMay, Decisive}
use Rattle.nys_follows.proofs.LeadingLemmas.{kept_there, LeadsStill, moves, stays}
use Rattle.nys_follows.proofs.OlympusLedger.{ledger_beside, ledger_later, StandsBeside}
use Rattle.nys_follows.proofs.OlympusRuns.{decided_run, still_run}

-- the Olympus begins to end its epoch
pub wedges_track : {S : Type 0} (setting : Setting S) (w : World) (m : machine.Assembly) → Tracks setting w m
    → LeadsStill setting m (Tracks setting (with_olympus (record w.olympus { wedged = true })
    (proclaimed setting.scope w.olympus.epoch body.Wedge (hosts_of setting.scope)) w))
wedges_track setting w m k =
    let acts = proclaimed setting.scope w.olympus.epoch body.Wedge (hosts_of setting.scope) in
    let Beside = StandsBeside setting m.top m.decided m.base m.live in
    moves setting m
    (Tracks setting (with_olympus (record w.olympus { wedged = true }) acts w)) TopWedges (λ x. refl) tt
    (record {
      nodes = record { each = k.nodes.each; no_others = k.nodes.no_others };
      top = record {
        top_is = k.top.top_is;
        wedged_is = refl;
        decided_is = k.top.decided_is;
        decided_now_is = k.top.decided_now_is;
        retired_is = k.top.retired_is;
        begins = k.top.begins;
        lives = k.top.lives;
        still = k.top.still;
        apart = k.top.apart;
      };
      ledger = ledger_beside setting olympus acts.made w.ledger m.ledger m.top m.decided m.base m.live
          (proclaimed_made setting.scope Beside w.olympus.epoch body.Wedge (hosts_of setting.scope) tt) k.ledger;
      run = k.run;
    })

-- the Olympus that keeps other reports
told_tracks : {S : Type 0} (setting : Setting S) (w : World) (m : machine.Assembly) (reports : ℕ → ℕ → List Reported)
    (frozen : ℕ → List (Option ℕ)) → Tracks setting w m
    → Tracks setting (record w { olympus = record w.olympus { reports = reports; frozen = frozen } }) m
told_tracks setting w m reports frozen k = record {
  nodes = k.nodes;
  top = record {
    top_is = k.top.top_is;
    wedged_is = k.top.wedged_is;
    decided_is = k.top.decided_is;
    decided_now_is = k.top.decided_now_is;
    retired_is = k.top.retired_is;
    begins = k.top.begins;
    lives = k.top.lives;
    still = k.top.still;
    apart = k.top.apart;
  };
  ledger = k.ledger;
  run = k.run;
}

-- each kind of record at the Olympus
heard_tracks : {S : Type 0} (setting : Setting S) (w : World) (m : machine.Assembly) (said : Body) (makers : List Tags)
    → Tracks setting w m → Tracks setting (record w { olympus = testified_body said makers w.olympus }) m
heard_tracks setting w m (body.Filled kind.Offer h slot content) makers k = k
heard_tracks setting w m (body.Filled kind.Order h slot content) makers k = k
heard_tracks setting w m (body.Filled kind.Deliver h slot content) makers k = k
heard_tracks setting w m (body.Attest p h n payload) makers k = k
heard_tracks setting w m (body.Ask h slot) makers k = k
heard_tracks setting w m body.Wedge makers k = k
heard_tracks setting w m (body.Filled kind.Report h slot content) makers k = told_tracks setting w m _ w.olympus.frozen k
heard_tracks setting w m (body.Frozen h slot) makers k = told_tracks setting w m w.olympus.reports _ k
heard_tracks setting w m (body.Open lengths) makers k = k
heard_tracks setting w m (body.Filled kind.Inherit h slot content) makers k = k

-- a record that the Olympus doesn't drop changes nothing that the machine knows
pub hears_track : {S : Type 0} (setting : Setting S) (w : World) (m : machine.Assembly) (r : Record)
    → Tracks setting w m
    → Tracks setting (record w { olympus = testified setting.scope w.olympus r }) m
unfolding testified
hears_track setting w m r k =
    heard_tracks setting w m r.statement.body (accepted setting.scope r.statement.epoch olympus r) k

-- a table that changes at one place as another does
pub same_put : {A : Type 0} (f g : ℕ → A) (at : ℕ) (a b : A) → ((x : ℕ) → f x ≡ g x) → a ≡ b → (x : ℕ)
    → put f at a x ≡ put g at b x
same_put f g at a b same is x = elim (cases_eq x at) [
  | inl here ↦ ap (put f at a) here ∙ put_here f at a ∙ is ∙ sym (put_here g at b) ∙ ap (put g at b) (sym here)
  | inr there ↦ put_there f at a x there ∙ same x ∙ sym (put_there g at b x there)
]

-- the Olympus gives a host up
pub retires_track : {S : Type 0} (setting : Setting S) (w : World) (m : machine.Assembly) (h : ℕ)
    → Tracks setting w m
    → retirement w.olympus h ≡ retire.Done
    → LeadsStill setting m
    (Tracks setting (record w { olympus = record w.olympus { retired = put w.olympus.retired h true } }))
retires_track {S} setting w m h k is =
    moves setting m
    (Tracks setting (record w { olympus = record w.olympus { retired = put w.olympus.retired h true } })) (Retires h) (λ x. refl) (
      k.top.wedged_is ∙ open_still.ending,
      k.top.decided_now_is h ∙ open_still.open_still,
      k.top.retired_is h ∙ open_still.kept,
    )
    (record {
      nodes = record { each = k.nodes.each; no_others = k.nodes.no_others };
      top = record {
        top_is = k.top.top_is;
        wedged_is = k.top.wedged_is;
        decided_is = k.top.decided_is;
        decided_now_is = k.top.decided_now_is;
        retired_is = same_put m.retired w.olympus.retired h true true k.top.retired_is refl;
        begins = k.top.begins;
        lives = λ x low kept. elim (cases_eq x h) [
          | inl here ↦
              differ (put w.olympus.retired h true x) _
              (ap (put w.olympus.retired h true) here ∙ put_here w.olympus.retired h true) kept
          | inr there ↦ k.top.lives x low (sym (put_there w.olympus.retired h true x there) ∙ kept)
        ];
        still = k.top.still;
        apart = λ x decided_now. elim (cases_eq x h) [
          | inl here ↦ differ (w.olympus.decided_now x) _ decided_now (ap w.olympus.decided_now here ∙ open_still.open_still)
          | inr there ↦ put_there w.olympus.retired h true x there ∙ k.top.apart x decided_now
        ];
      };
      ledger = k.ledger;
      run = k.run;
    })
  where
    open_still : IsPending w.olympus h
    open_still = retired_pending w.olympus h is

-- guards that stand for what is reported vouch for it in the machine
reports_vouch : {S : Type 0} (setting : Setting S) (ledger : List Entry) (made : List Made) (top : ℕ)
    (decided : ℕ → List Content) (base : ℕ → ℕ → ℕ) (live : ℕ → ℕ → Bool) (n e h s : ℕ) (c : Content)
    → IsLedger setting ledger made top decided base live
    → AtLeast n (IsVouched setting ledger e h (body.Filled kind.Report h s c))
    → AtLeast n (Vouches (net_of setting) made e h (Said.Report e h s c))
reports_vouch setting ledger made top decided base live n e h s c k many =
    AtLeast-map n (IsVouched setting ledger e h (body.Filled kind.Report h s c))
    (Vouches (net_of setting) made e h (Said.Report e h s c))
    (λ x stands. (stands.0, λ honest. k.here x (Said.Report e h s c) (stands.1 honest))) many

-- guards that are frozen are so in the machine
frozen_there : {S : Type 0} (setting : Setting S) (ledger : List Entry) (made : List Made) (top : ℕ)
    (decided : ℕ → List Content) (base : ℕ → ℕ → ℕ) (live : ℕ → ℕ → Bool) (n e h f : ℕ)
    → IsLedger setting ledger made top decided base live
    → AtLeast n (IsFrozenAt setting ledger e h f) → AtLeast n (FrozeBy (net_of setting) made e h f)
frozen_there setting ledger made top decided base live n e h f k many =
    AtLeast-map n (IsFrozenAt setting ledger e h f) (FrozeBy (net_of setting) made e h f)
    (λ x stands. (
      stands.0,
      λ honest. let at = stands.1 honest in (at.0, at.1, k.here x (Said.Frozen e h at.0) at.2),
    )) many

-- the machine allows what the Olympus decides
decide_may : {S : Type 0} (setting : Setting S) (w : World) (m : machine.Assembly) (h : ℕ) → Tracks setting w m
    → IsPending w.olympus h → DecideMay setting w.ledger w.olympus h
    → MayDecide (net_of setting) m h (supports setting.scope w.olympus h)
unfolding quorum_at
decide_may {S} setting w m h k open_still may = record {
  ending = k.top.wedged_is ∙ open_still.ending;
  open_still = k.top.decided_now_is h ∙ open_still.open_still;
  kept = k.top.retired_is h ∙ open_still.kept;
  lives = subst (λ e. m.live e h ≡ true) now (k.top.lives h may.host open_still.kept);
  supported = λ i c is.
      subst (λ e. Vouched e (length (m.decided h)) i c) now
      (subst (λ b. Vouched w.olympus.epoch b i c) begins
      (reports_vouch setting w.ledger m.ledger m.top m.decided m.base m.live (setting.scope.t w.olympus.epoch h + 1)
      w.olympus.epoch h (w.olympus.base h + i) c k.ledger (may.reported i c is)));
  frozen =
      subst (λ e. IsFrozen e (length (m.decided h))) now
      (subst (IsFrozen w.olympus.epoch) begins
      (frozen_there setting w.ledger m.ledger m.top m.decided m.base m.live
      (quorum_in (net_of setting) w.olympus.epoch h) w.olympus.epoch h (w.olympus.base h + length more) k.ledger
      may.frozen));
}
  where
    more : List Content
    more = supports setting.scope w.olympus h

    now : w.olympus.epoch ≡ m.top
    now = sym k.top.top_is

    begins : w.olympus.base h ≡ length (m.decided h)
    begins = sym (k.top.still h open_still.open_still) ∙ ap length (sym (k.top.decided_is h))

    Vouched : (e b i : ℕ) → Content → Type 0
    Vouched e b i c =
        AtLeast (setting.scope.t e h + 1) (Vouches (net_of setting) m.ledger e h (Said.Report e h (b + i) c))

    IsFrozen : (e b : ℕ) → Type 0
    IsFrozen e b =
        AtLeast (quorum_in (net_of setting) e h) (FrozeBy (net_of setting) m.ledger e h (b + length more))

-- the Olympus with a decided log, as the machine has it
decided_top : {S : Type 0} (setting : Setting S) (w : World) (m : machine.Assembly) (h : ℕ) → Tracks setting w m
    → IsPending w.olympus h
    → let more = supports setting.scope w.olympus h in
    IsOlympus setting (with_decision setting.scope h w.olympus) m.top m.top_wedged
    (put m.decided h (m.decided h ++ more)) (put m.decided_now h true) m.retired m.base m.live
decided_top setting w m h k open_still =
    let o = w.olympus in
    let more = supports setting.scope o h in
    record {
      top_is = k.top.top_is;
      wedged_is = k.top.wedged_is;
      decided_is =
          same_put m.decided o.decided h (m.decided h ++ more) (o.decided h ++ more) k.top.decided_is
          (ap (λ log. log ++ more) (k.top.decided_is h));
      decided_now_is = same_put m.decided_now o.decided_now h true true k.top.decided_now_is refl;
      retired_is = k.top.retired_is;
      begins = k.top.begins;
      lives = k.top.lives;
      still = λ x none. elim (cases_eq x h) [
        | inl here ↦
            differ (put o.decided_now h true x) _ (ap (put o.decided_now h true) here ∙ put_here o.decided_now h true) none
        | inr there ↦
            ap length (put_there o.decided h (o.decided h ++ more) x there)
            ∙ k.top.still x (sym (put_there o.decided_now h true x there) ∙ none)
      ];
      apart = λ x decided_now. elim (cases_eq x h) [
        | inl here ↦ ap o.retired here ∙ open_still.kept
        | inr there ↦ k.top.apart x (sym (put_there o.decided_now h true x there) ∙ decided_now)
      ];
    }

-- the Olympus decides a log
decided_tracks : {S : Type 0} (setting : Setting S) (w : World) (m : machine.Assembly) (h : ℕ) → Tracks setting w m
    → IsPending w.olympus h → DecideMay setting w.ledger w.olympus h
    → LeadsStill setting m (Tracks setting (with_log (with_decision setting.scope h w.olympus) h w))
decided_tracks {S} setting w m h k open_still may =
    moves setting m (Tracks setting (with_log next h w)) (Decides h more) (λ x. refl)
    (decide_may setting w m h k open_still may)
    (record {
      nodes = record { each = k.nodes.each; no_others = k.nodes.no_others };
      top = decided_top setting w m h k open_still;
      ledger = ledger_later setting w.ledger m.ledger m.top m.decided m.base m.live
          m.top (put m.decided h log) m.base m.live
          (record {
            rises = omega arith;
            begins = λ e x le. refl;
            lives = λ e x le. refl;
            grows = λ x s c is.
                put_case (λ l. slice_get l s ≡ Some c) m.decided h log x
                (λ here.
                append_some (m.decided h) more s c (subst (λ y. slice_get (m.decided y) s ≡ Some c) here is))
                (λ there. is);
          }) k.ledger;
      run =
          subst
          (λ l. IsRunOf (with_log next h w).longest (with_log next h w).run (longest_with m h l) (run_with m h l))
          (sym same)
          (decided_run h (next.decided h) (record w { olympus = next }) m.longest m.run k.run);
    })
  where
    more : List Content
    more = supports setting.scope w.olympus h

    next : OlympusView
    next = with_decision setting.scope h w.olympus

    log : List Content
    log = m.decided h ++ more

    same : log ≡ next.decided h
    same = ap (λ l. l ++ more) (k.top.decided_is h) ∙ sym (put_here w.olympus.decided h (w.olympus.decided h ++ more))

-- the Olympus that decides nothing
undecided_tracks : {S : Type 0} (setting : Setting S) (w : World) (m : machine.Assembly) (h : ℕ)
    → Sound (net_of setting) m
    → Tracks setting w m → Tracks setting (with_log w.olympus h w) m
undecided_tracks setting w m h ok k = record {
  nodes = k.nodes;
  top = k.top;
  ledger = k.ledger;
  run = still_run h (w.olympus.decided h) w m.longest m.run
      (subst (λ log. length log ≤ length (m.longest h)) (k.top.decided_is h) (ok.evidence.decided_fits h)) k.run;
}

-- the Olympus is told to decide, whatever it answers
pub decides_track : {S : Type 0} (setting : Setting S) → IsFollowable setting → (w : World) (m : machine.Assembly)
    → Reached setting m → Tracks setting w m → Decisive setting w
    → (h : ℕ) (after : OlympusView) (answer : Decision)
    → IsDecided setting.scope w.olympus h after answer
    → LeadsStill setting m (Tracks setting (with_log after h w))
decides_track {S} setting asked w m reached k decisive h after answer decides =
    subst (λ o. LeadsStill setting m (Tracks setting (with_log o h w))) (sym decides.after_is) (by answer decides.told)
  where
    same : LeadsStill setting m (Tracks setting (with_log w.olympus h w))
    same = stays setting m (Tracks setting (with_log w.olympus h w))
        (undecided_tracks setting w m h (kept_there setting asked m reached).sound k)

    by : (answer : Decision) → answer ≡ decision setting.scope w.olympus h
        → LeadsStill setting m (Tracks setting (with_log (after_decision setting.scope w.olympus h answer) h w))
    by (decide.Decided len) told =
        decided_tracks setting w m h k (decided_pending setting.scope w.olympus h len (sym told)).0
        (decisive h len (sym told))
    by (decide.Undecided supported frozen) told = same
    by decide.NotWedged told = same
    by decide.Settled told = same
