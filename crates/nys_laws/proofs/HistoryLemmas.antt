-- Each step of the Olympus keeps a world to its history; where it opens an epoch the history has one more.
use Rattle.std.proofs.Common.{◌≡◌, ◌≢◌, ℕ, zero, suc, ◌+◌, ◌<◌, ◌≤◌, ◌⊎◌, Bool, true, false, List, ◌++◌, length, Some, refl, ap, sym, subst, ◌∙◌, inl, inr, arith, length-append}
use Rattle.std.specs.Prelude.{All, Option, not, slice_get}
use Rattle.std.proofs.lemmas.Bool.{cases_eq}
use Rattle.std.proofs.lemmas.List.Elements.{All-contains}
use Rattle.std.proofs.lemmas.Option.{slice_get_within}
use Rattle.nys_agreement.proofs.ListLemmas.{append_some}
use Rattle.nys_agreement.proofs.TableLemmas.{put_case, put_here, put_there}
use Rattle.nys_bytes.specs.declared.content.Content.{Content}
use Rattle.nys_source.specs.Tables.{put}
use Rattle.nys_stmt.specs.declared.records.Record.{Record}
use Rattle.nys_stmt.specs.declared.statement.Body.{Body}
use Rattle.nys_stmt.specs.declared.statement.Body.TheVariants as body
use Rattle.nys_stmt.specs.declared.statement.FilledKind.TheVariants as kind
use Rattle.nys_stmt.specs.declared.statement.Statement.{Statement}
use Rattle.nys_stmt.specs.declared.tags.Tags.{Tags}
use Rattle.nys_rules.specs.declared.decision.Decision.{Decision}
use Rattle.nys_rules.specs.declared.decision.Decision.TheVariants as decide
use Rattle.nys_rules.specs.declared.decision.Opened.TheVariants as opens
use Rattle.nys_rules.specs.declared.decision.Retired.TheVariants as retire
use Rattle.nys_rules.specs.Dropping.{accepted}
use Rattle.nys_rules.specs.Forged.{Entry}
use Rattle.nys_rules.specs.Noting.{bases, retirements}
use Rattle.nys_rules.specs.Olympus.{after_decision, decision, Decides, hosts_of, in_next_epoch, lengths_told, OlympusView, opening, opening_acts, proclaimed, Reported, retirement, supports, testified, testified_body, with_decision}
use Rattle.nys_rules.specs.Packets.{Acts}
use Rattle.nys_rules.specs.Scope.{olympus, Scope}
use Rattle.nys_rules.specs.View.{entering, first_view, View, with_links}
use Rattle.nys_rules.specs.World.{fresh_world, Setting, World}
use Rattle.nys_laws.specs.Epochs.{AgreeUpTo, FollowsHistory, History, IsProclaimed, MayHaveMade, NodeFollows, OlympusFollows}
use Rattle.nys_laws.specs.SetUp.{IsSetUp}
use Rattle.nys_laws.specs.Testimony.{MayBeOpened}
use Rattle.nys_laws.proofs.EventKeeping.{with_log, with_olympus}
use Rattle.nys_laws.proofs.LedgerLemmas.{made_cases, none_made}
use Rattle.nys_laws.proofs.NodeHistory.{more_node}
use Rattle.nys_laws.proofs.OlympusLemmas.{base_told, base_within, decided_pending, IsPending, opening_made, opens_in_order, proclaimed_made, retired_pending, retired_told, retired_within}

-- the Olympus that keeps other reports
told_follows : {S : Type 0} (setting : Setting S) (history : History) (w : World) (reports : ℕ → ℕ → List Reported)
    (frozen : ℕ → List (Option ℕ)) → FollowsHistory setting history w
    → FollowsHistory setting history (record w { olympus = record w.olympus { reports = reports; frozen = frozen } })
told_follows setting history w reports frozen k = record {
  top = record {
    within = k.top.within;
    first = k.top.first;
    logged = k.top.logged;
    base = k.top.base;
    never_back = k.top.never_back;
    hosts = k.top.hosts;
    still = k.top.still;
    ending = k.top.ending;
    deciding = k.top.deciding;
    apart = k.top.apart;
    undecided = k.top.undecided;
  };
  made = k.made;
  nodes = k.nodes;
  nobody = k.nobody;
}

-- each kind of record at the Olympus
testified_follows : {S : Type 0} (setting : Setting S) (history : History) (w : World) (said : Body) (makers : List Tags)
    → FollowsHistory setting history w
    → FollowsHistory setting history (record w { olympus = testified_body said makers w.olympus })
testified_follows setting history w (body.Filled kind.Offer h slot content) makers k = k
testified_follows setting history w (body.Filled kind.Order h slot content) makers k = k
testified_follows setting history w (body.Filled kind.Deliver h slot content) makers k = k
testified_follows setting history w (body.Attest p h n payload) makers k = k
testified_follows setting history w (body.Ask h slot) makers k = k
testified_follows setting history w body.Wedge makers k = k
testified_follows setting history w (body.Filled kind.Report h slot content) makers k =
    told_follows setting history w _ w.olympus.frozen k
testified_follows setting history w (body.Frozen h slot) makers k =
    told_follows setting history w w.olympus.reports _ k
testified_follows setting history w (body.Open lengths) makers k = k
testified_follows setting history w (body.Filled kind.Inherit h slot content) makers k = k

-- a record that the Olympus doesn't drop
pub hears_follows : {S : Type 0} (setting : Setting S) (history : History) (w : World) (r : Record)
    → FollowsHistory setting history w
    → FollowsHistory setting history (record w { olympus = testified setting.scope w.olympus r })
unfolding testified
hears_follows setting history w r k =
    testified_follows setting history w r.statement.body (accepted setting.scope r.statement.epoch olympus r) k

-- the Olympus goes on to a later state: its epoch ends or a later one begins, and its logs grow
record GoesOver (history : History) (top : ℕ) (ending : Bool) (decided : ℕ → List Content)
    (later : History) (next_top : ℕ) (next_ending : Bool) (next_decided : ℕ → List Content) : Type 0 where
  same : AgreeUpTo top history later
  rises : (top < next_top) ⊎ ((top ≡ next_top) × (ending ≡ true → next_ending ≡ true))
  grows : (h s : ℕ) (content : Content) → slice_get (decided h) s ≡ Some content → slice_get (next_decided h) s ≡ Some content

-- no earlier epoch
not_earlier : (a b : ℕ) (P : Type 0) → (a < b) ⊎ ((a ≡ b) × P) → a ≤ b
not_earlier a b P (inl lt) = omega (arith, lt)
not_earlier a b P (inr same) = omega (arith, same.0)

-- what it had made it may have made then
proclaimed_later : {S : Type 0} (scope : Scope S) (history : History) (top : ℕ) (ending : Bool) (decided : ℕ → List Content)
    (later : History) (next_top : ℕ) (next_ending : Bool) (next_decided : ℕ → List Content)
    → GoesOver history top ending decided later next_top next_ending next_decided → (e : ℕ) (said : Body)
    → IsProclaimed scope history top ending decided e said
    → IsProclaimed scope later next_top next_ending next_decided e said
proclaimed_later scope history top ending decided later next_top next_ending next_decided over e (body.Filled kind.Offer h slot content) p = p
proclaimed_later scope history top ending decided later next_top next_ending next_decided over e (body.Filled kind.Order h slot content) p = p
proclaimed_later scope history top ending decided later next_top next_ending next_decided over e (body.Filled kind.Deliver h slot content) p = p
proclaimed_later scope history top ending decided later next_top next_ending next_decided over e (body.Attest q h n payload) p = p
proclaimed_later scope history top ending decided later next_top next_ending next_decided over e (body.Ask h slot) p = p
proclaimed_later scope history top ending decided later next_top next_ending next_decided over e body.Wedge p = elim p [
  | inl lt ↦
      let le = not_earlier top next_top (ending ≡ true → next_ending ≡ true) over.rises in inl (omega (arith, lt, le))
  | inr now ↦ elim over.rises [
    | inl lt ↦ inl (let same = now.0 in omega (arith, lt, same))
    | inr same ↦ inr (now.0 ∙ same.0, same.1 now.1)
  ]
]
proclaimed_later scope history top ending decided later next_top next_ending next_decided over e (body.Filled kind.Report h slot content) p = p
proclaimed_later scope history top ending decided later next_top next_ending next_decided over e (body.Frozen h slot) p = p
proclaimed_later scope history top ending decided later next_top next_ending next_decided over e (body.Open lengths) p =
    let le = not_earlier top next_top (ending ≡ true → next_ending ≡ true) over.rises in
    let past = p.past in
    record {
      later = p.later;
      past = omega (arith, le, past);
      base = λ h. p.base h ∙ sym (over.same.base e h past);
      retired = λ h. p.retired h ∙ sym (over.same.retired e h past);
    }
proclaimed_later scope history top ending decided later next_top next_ending next_decided over e (body.Filled kind.Inherit h slot content) p =
    let le = not_earlier top next_top (ending ≡ true → next_ending ≡ true) over.rises in
    let past = p.past in
    record {
      past = omega (arith, le, past);
      host = p.host;
      lives = over.same.retired e h past ∙ p.lives;
      below = subst (λ b. slot < b) (sym (over.same.base e h past)) p.below;
      entry = over.grows h slot content p.entry;
    }

-- a node follows the later history
node_later : (history later : History) (top next_top : ℕ) (ledger : List Entry) (v : View) → AgreeUpTo top history later
    → top ≤ next_top → NodeFollows history top ledger v → NodeFollows later next_top ledger v
node_later history later top next_top ledger v same le k = record {
  behind = let behind = k.behind in omega (arith, behind, le);
  base = λ h. k.base h ∙ sym (same.base v.epoch h k.behind);
  retired = λ h. k.retired h ∙ sym (same.retired v.epoch h k.behind);
  told = k.told;
}

-- the Olympus that acts
olympus_follows : {S : Type 0} (setting : Setting S) (history later : History) (w : World) (o : OlympusView) (acts : Acts)
    → GoesOver history w.olympus.epoch w.olympus.wedged w.olympus.decided later o.epoch o.wedged o.decided
    → OlympusFollows setting.scope later o → All (MayHaveMade setting.scope later o) acts.made
    → FollowsHistory setting history w → FollowsHistory setting later (with_olympus o acts w)
olympus_follows setting history later w o acts over top all k = record {
  top = top;
  made = λ s has. elim (made_cases olympus acts.made w.ledger olympus s has) [
    | inl old ↦
        proclaimed_later setting.scope history w.olympus.epoch w.olympus.wedged w.olympus.decided later o.epoch o.wedged o.decided
        over s.epoch s.body (k.made s old)
    | inr now ↦ All-contains (MayHaveMade setting.scope later o) acts.made s all now.1
  ];
  nodes = λ x ne.
      more_node later o.epoch olympus acts.made w.ledger (w.nodes x)
      (node_later history later w.olympus.epoch o.epoch w.ledger (w.nodes x) over.same
      (not_earlier w.olympus.epoch o.epoch (w.olympus.wedged ≡ true → o.wedged ≡ true) over.rises) (k.nodes x ne));
  nobody = k.nobody;
}

-- a history agrees with itself
pub agree_same : (top : ℕ) (history : History) → AgreeUpTo top history history
agree_same top history = record { base = λ e h le. refl; retired = λ e h le. refl }

-- the Olympus begins to end its epoch
pub wedges_follow : {S : Type 0} (setting : Setting S) (history : History) (w : World) → FollowsHistory setting history w
    → FollowsHistory setting history (with_olympus (record w.olympus { wedged = true })
    (proclaimed setting.scope w.olympus.epoch body.Wedge (hosts_of setting.scope)) w)
wedges_follow setting history w k =
    let next = record w.olympus { wedged = true } in
    olympus_follows setting history history w next (proclaimed setting.scope w.olympus.epoch body.Wedge (hosts_of setting.scope))
    (record { same = agree_same w.olympus.epoch history; rises = inr (refl, λ is. refl); grows = λ h s content is. is })
    (record {
      within = k.top.within;
      first = k.top.first;
      logged = k.top.logged;
      base = k.top.base;
      never_back = k.top.never_back;
      hosts = k.top.hosts;
      still = k.top.still;
      ending = λ h low is. inl refl;
      deciding = λ h is. refl;
      apart = k.top.apart;
      undecided = k.top.undecided;
    })
    (proclaimed_made setting.scope (MayHaveMade setting.scope history next) w.olympus.epoch body.Wedge (hosts_of setting.scope)
    (inr (refl, refl))) k

-- what is true isn't false
pub differ : (b : Bool) (P : Type 0) → b ≡ true → b ≡ false → P
differ b P is none = absurd (let both = sym is ∙ none in cc)

-- the Olympus with the log of a host decided
decided_top : {S : Type 0} (scope : Scope S) (history : History) (o : OlympusView) (h : ℕ) → IsPending o h
    → OlympusFollows scope history o → OlympusFollows scope history (with_decision scope h o)
decided_top scope history o h open_still k =
    let grown = o.decided h ++ supports scope o h in
    record {
      within = k.within;
      first = k.first;
      logged = λ e x le.
          put_case (λ log. history.base e x ≤ length log) o.decided h grown x
          (λ here.
          let was = k.logged e x le in
          let long = length-append (o.decided h) (supports scope o h) in
          let same = ap (λ y. length (o.decided y)) here in
          omega (arith, was, long, same))
          (λ there. k.logged e x le);
      base = k.base;
      never_back = k.never_back;
      hosts = k.hosts;
      still = k.still;
      ending = k.ending;
      deciding = λ x is. open_still.ending;
      apart = λ x is. elim (cases_eq x h) [
        | inl here ↦ ap o.retired here ∙ open_still.kept
        | inr there ↦ k.apart x (sym (put_there o.decided_now h true x there) ∙ is)
      ];
      undecided = λ x is. elim (cases_eq x h) [
        | inl here ↦ differ (put o.decided_now h true x) _ (ap (put o.decided_now h true) here ∙ put_here o.decided_now h true) is
        | inr there ↦
            ap length (put_there o.decided h grown x there)
            ∙ k.undecided x (sym (put_there o.decided_now h true x there) ∙ is)
      ];
    }

-- the decided log grows
decided_grows : {S : Type 0} (scope : Scope S) (o : OlympusView) (h x s : ℕ) (content : Content)
    → slice_get (o.decided x) s ≡ Some content → slice_get ((with_decision scope h o).decided x) s ≡ Some content
decided_grows scope o h x s content is =
    put_case (λ log. slice_get log s ≡ Some content) o.decided h (o.decided h ++ supports scope o h) x
    (λ here. append_some (o.decided h) (supports scope o h) s content (subst (λ y. slice_get (o.decided y) s ≡ Some content) here is))
    (λ there. is)

-- the Olympus that knows more, where it makes nothing
known_follows : {S : Type 0} (setting : Setting S) (history : History) (w : World) (o : OlympusView)
    → GoesOver history w.olympus.epoch w.olympus.wedged w.olympus.decided history o.epoch o.wedged o.decided
    → OlympusFollows setting.scope history o → FollowsHistory setting history w
    → FollowsHistory setting history (record w { olympus = o })
known_follows setting history w o over top k = record {
  top = top;
  made = λ s has.
      proclaimed_later setting.scope history w.olympus.epoch w.olympus.wedged w.olympus.decided history o.epoch o.wedged o.decided
      over s.epoch s.body (k.made s has);
  nodes = λ x ne.
      node_later history history w.olympus.epoch o.epoch w.ledger (w.nodes x) over.same
      (not_earlier w.olympus.epoch o.epoch (w.olympus.wedged ≡ true → o.wedged ≡ true) over.rises) (k.nodes x ne);
  nobody = k.nobody;
}

-- the run of a world is no part of it
run_beside : {S : Type 0} (setting : Setting S) (history : History) (o : OlympusView) (h : ℕ) (w : World)
    → FollowsHistory setting history (record w { olympus = o }) → FollowsHistory setting history (with_log o h w)
run_beside setting history o h w k = record { top = k.top; made = k.made; nodes = k.nodes; nobody = k.nobody }

-- the Olympus is told to decide
pub decides_follow : {S : Type 0} (setting : Setting S) (history : History) (w : World) (h : ℕ) (after : OlympusView)
    (answer : Decision) → Decides setting.scope w.olympus h after answer → FollowsHistory setting history w
    → FollowsHistory setting history (with_log after h w)
decides_follow {S} setting history w h after answer decides k =
    run_beside setting history after h w
    (subst (λ o. FollowsHistory setting history (record w { olympus = o })) (sym decides.after_is) (by answer decides.told))
  where
    by : (answer : Decision) → answer ≡ decision setting.scope w.olympus h
        → FollowsHistory setting history (record w { olympus = after_decision setting.scope w.olympus h answer })
    by (decide.Decided len) told =
        let open_still = (decided_pending setting.scope w.olympus h len (sym told)).0 in
        known_follows setting history w (with_decision setting.scope h w.olympus)
        (record {
          same = agree_same w.olympus.epoch history;
          rises = inr (refl, λ is. is);
          grows = decided_grows setting.scope w.olympus h;
        })
        (decided_top setting.scope history w.olympus h open_still k.top) k
    by (decide.Undecided supported frozen) told = k
    by decide.NotWedged told = k
    by decide.Settled told = k

-- the Olympus gives a host up
pub retires_follow : {S : Type 0} (setting : Setting S) (history : History) (w : World) (h : ℕ)
    → retirement w.olympus h ≡ retire.Done → FollowsHistory setting history w
    → FollowsHistory setting history (record w { olympus = record w.olympus { retired = put w.olympus.retired h true } })
retires_follow setting history w h is k =
    let open_still = retired_pending w.olympus h is in
    known_follows setting history w (record w.olympus { retired = put w.olympus.retired h true })
    (record { same = agree_same w.olympus.epoch history; rises = inr (refl, λ is. is); grows = λ x s content is. is })
    (record {
      within = k.top.within;
      first = k.top.first;
      logged = k.top.logged;
      base = k.top.base;
      never_back = k.top.never_back;
      hosts = k.top.hosts;
      still = λ x is. put_case (λ b. b ≡ true) w.olympus.retired h true x (λ here. refl) (λ there. k.top.still x is);
      ending = λ x low is. inl open_still.ending;
      deciding = k.top.deciding;
      apart = λ x is. elim (cases_eq x h) [
        | inl here ↦ differ (w.olympus.decided_now x) _ is (ap w.olympus.decided_now here ∙ open_still.open_still)
        | inr there ↦ put_there w.olympus.retired h true x there ∙ k.top.apart x is
      ];
      undecided = k.top.undecided;
    }) k

-- the history with what the Olympus tells of the next epoch
pub with_epoch : {S : Type 0} → Scope S → OlympusView → History → History
with_epoch scope o history = record {
  base = put history.base (o.epoch + 1) (bases (lengths_told scope o));
  retired = put history.retired (o.epoch + 1) (retirements (lengths_told scope o));
}

-- it goes on as before
pub epoch_agrees : {S : Type 0} (scope : Scope S) (o : OlympusView) (history : History)
    → AgreeUpTo o.epoch history (with_epoch scope o history)
unfolding with_epoch
epoch_agrees scope o history = record {
  base = λ e h le.
      ap (λ (f : ℕ → ℕ). f h) (put_there history.base (o.epoch + 1) (bases (lengths_told scope o)) e (λ same. omega (arith, le, same)));
  retired = λ e h le.
      ap (λ (f : ℕ → Bool). f h)
      (put_there history.retired (o.epoch + 1) (retirements (lengths_told scope o)) e (λ same. omega (arith, le, same)));
}

-- and the next epoch is as it was told
pub epoch_told : {S : Type 0} (scope : Scope S) (o : OlympusView) (history : History) (h : ℕ)
    → ((with_epoch scope o history).base (o.epoch + 1) h ≡ bases (lengths_told scope o) h)
    × ((with_epoch scope o history).retired (o.epoch + 1) h ≡ retirements (lengths_told scope o) h)
unfolding with_epoch
epoch_told scope o history h = (
  ap (λ (f : ℕ → ℕ). f h) (put_here history.base (o.epoch + 1) (bases (lengths_told scope o))),
  ap (λ (f : ℕ → Bool). f h) (put_here history.retired (o.epoch + 1) (retirements (lengths_told scope o))),
)

-- a host lives in the next epoch where it was decided for the end of the one before, and begins there
-- with its decided log; else it is retired
pub record BeginsNext {S : Type 0} (scope : Scope S) (history : History) (o : OlympusView) (h : ℕ) : Type 0 where
  pub retired : (with_epoch scope o history).retired (o.epoch + 1) h ≡ not (o.decided_now h)
  pub base : o.decided_now h ≡ true → (with_epoch scope o history).base (o.epoch + 1) h ≡ length (o.decided h)

-- so it is where the Olympus opens an epoch
pub begins_next : {S : Type 0} (scope : Scope S) (history : History) (o : OlympusView) (epoch : ℕ)
    → opening scope o ≡ opens.Done epoch → OlympusFollows scope history o → (h : ℕ) → h < scope.rules.hosts
    → BeginsNext scope history o h
begins_next {S} scope history o epoch is k h low = record {
  retired = (epoch_told scope o history h).1 ∙ retired_told scope o h low ∙ by (o.decided_now h) refl;
  base = λ decided_now. (epoch_told scope o history h).0 ∙ base_told scope o h low (k.apart h decided_now);
}
  where
    either : o.decided_now h ≡ false → (o.decided_now h ≡ true) ⊎ (o.retired h ≡ true) → o.retired h ≡ true
    either none (inl some) = differ (o.decided_now h) _ some none
    either none (inr gone) = gone

    by : (b : Bool) → o.decided_now h ≡ b → o.retired h ≡ not b
    by true decided_now = k.apart h decided_now
    by false decided_now = either decided_now ((opens_in_order scope o epoch is).each h low)

-- an epoch is an earlier one or the next
earlier_or_next : (e top : ℕ) → e ≤ top + 1 → (e ≤ top) ⊎ (e ≡ top + 1)
earlier_or_next e top le = elim (cases_eq e (top + 1)) [ inl same ↦ inr same | inr ne ↦ inl (by e top le ne) ]
  where
    by : (e top : ℕ) → e ≤ top + 1 → e ≢ top + 1 → e ≤ top
    by zero top le ne = omega arith
    by (suc e) zero le ne = absurd (ne (omega (arith, le)))
    by (suc e) (suc top) le ne =
        let rest = by e top (omega (arith, le)) (λ same. ne (omega (arith, same))) in omega (arith, rest)

-- the Olympus in its next epoch
opened_top : {S : Type 0} (scope : Scope S) (history : History) (o : OlympusView) (epoch : ℕ)
    → opening scope o ≡ opens.Done epoch → OlympusFollows scope history o
    → OlympusFollows scope (with_epoch scope o history) (in_next_epoch o)
opened_top {S} scope history o epoch is k = record {
  within = may.room;
  first = λ h. (same.base 0 h (omega arith) ∙ (k.first h).0, same.retired 0 h (omega arith) ∙ (k.first h).1);
  logged = λ e h le. elim (earlier_or_next e o.epoch le) [
    | inl old ↦ subst (λ b. b ≤ length (o.decided h)) (sym (same.base e h old)) (k.logged e h old)
    | inr new ↦
        subst (λ d. later.base d h ≤ length (o.decided h)) (sym new)
        (subst (λ b. b ≤ length (o.decided h)) (sym (epoch_told scope o history h).0) (base_within scope o h))
  ];
  base = λ h low lives.
      let kept = sym (retired_told scope o h low) ∙ sym (epoch_told scope o history h).1 ∙ lives in
      sym (base_told scope o h low kept) ∙ sym (epoch_told scope o history h).0;
  never_back = λ d e h le past gone. elim (earlier_or_next e o.epoch past) [
    | inl old ↦
        let before : d ≤ o.epoch = omega (arith, le, old) in
        same.retired e h old ∙ k.never_back d e h le old (sym (same.retired d h before) ∙ gone)
    | inr new ↦ subst (λ x. later.retired x h ≡ true) (sym new) (gone_now d h (omega (arith, le, new)) gone)
  ];
  hosts = λ e h past gone. elim (earlier_or_next e o.epoch past) [
    | inl old ↦ k.hosts e h old (sym (same.retired e h old) ∙ gone)
    | inr new ↦ (now_gone h (subst (λ x. later.retired x h ≡ true) new gone)).0
  ];
  still = λ h gone. (now_gone h gone).1;
  ending = λ h low gone. inr ((epoch_told scope o history h).1 ∙ retired_told scope o h low ∙ gone);
  deciding = λ h decided_now. absurd (cc);
  apart = λ h decided_now. absurd (cc);
  undecided = λ h open_still. refl;
}
  where
    may : MayBeOpened scope o epoch
    may = opens_in_order scope o epoch is

    later : History
    later = with_epoch scope o history

    same : AgreeUpTo o.epoch history later
    same = epoch_agrees scope o history

    now_gone : (h : ℕ) → later.retired (o.epoch + 1) h ≡ true → (h < scope.rules.hosts) × (o.retired h ≡ true)
    now_gone h gone = retired_within scope o h (sym (epoch_told scope o history h).1 ∙ gone)

    gone_now : (d h : ℕ) → d ≤ o.epoch + 1 → later.retired d h ≡ true → later.retired (o.epoch + 1) h ≡ true
    gone_now d h le gone = elim (earlier_or_next d o.epoch le) [
      | inl old ↦
          let was = sym (same.retired d h old) ∙ gone in
          let now = k.still h (k.never_back d o.epoch h old (omega arith) was) in
          (epoch_told scope o history h).1 ∙ retired_told scope o h (k.hosts d h old was) ∙ now
      | inr new ↦ subst (λ x. later.retired x h ≡ true) new gone
    ]

-- the Olympus opens the next epoch
pub opens_follow : {S : Type 0} (setting : Setting S) (history : History) (w : World) (epoch : ℕ)
    → opening setting.scope w.olympus ≡ opens.Done epoch → FollowsHistory setting history w
    → FollowsHistory setting (with_epoch setting.scope w.olympus history)
    (with_olympus (in_next_epoch w.olympus) (opening_acts setting.scope w.olympus epoch) w)
opens_follow {S} setting history w epoch is k =
    olympus_follows setting history later w (in_next_epoch w.olympus) (opening_acts setting.scope w.olympus epoch)
    (record { same = epoch_agrees setting.scope w.olympus history; rises = inl (omega arith); grows = λ h s content entry. entry })
    (opened_top setting.scope history w.olympus epoch is k.top)
    (subst (λ e. All P (opening_acts setting.scope w.olympus e).made) (sym may.next)
    (opening_made setting.scope w.olympus (w.olympus.epoch + 1) P
    (record {
      later = omega arith;
      past = omega arith;
      base = λ h. sym (epoch_told setting.scope w.olympus history h).0;
      retired = λ h. sym (epoch_told setting.scope w.olympus history h).1;
    })
    (λ h slot content low kept entry. record {
      past = omega arith;
      host = low;
      lives = (epoch_told setting.scope w.olympus history h).1 ∙ retired_told setting.scope w.olympus h low ∙ kept;
      below = subst (λ b. slot < b) (sym (base_told setting.scope w.olympus h low kept) ∙ sym (epoch_told setting.scope w.olympus history h).0)
          (slice_get_within (w.olympus.decided h) slot content entry);
      entry = entry;
    }))) k
  where
    may : MayBeOpened setting.scope w.olympus epoch
    may = opens_in_order setting.scope w.olympus epoch is

    later : History
    later = with_epoch setting.scope w.olympus history

    P : Statement → Type 0
    P = MayHaveMade setting.scope later (in_next_epoch w.olympus)

-- before the first event nothing has ended
pub no_history : History
no_history = record { base = λ e h. 0; retired = λ e h. false }

-- the first world follows it
pub first_follows : {S : Type 0} (setting : Setting S) → IsSetUp setting.scope
    → FollowsHistory setting no_history (fresh_world setting)
unfolding no_history fresh_world first_view entering with_links
first_follows setting set = record {
  top = record {
    within = let some = set.some in omega (arith, some);
    first = λ h. (refl, refl);
    logged = λ e h le. omega arith;
    base = λ h low lives. refl;
    never_back = λ d e h le past gone. gone;
    hosts = λ e h past gone. absurd (cc);
    still = λ h gone. gone;
    ending = λ h low gone. absurd (cc);
    deciding = λ h decided_now. absurd (cc);
    apart = λ h decided_now. absurd (cc);
    undecided = λ h open_still. refl;
  };
  made = λ s has. absurd (none_made olympus s has);
  nodes = λ g ne. record { behind = omega arith; base = λ h. refl; retired = λ h. refl; told = λ wedged. absurd (cc) };
  nobody = refl;
}
