-- In each world no rule is due at any node: a node settles in each call, and its first view is settled.
use Rattle.std.proofs.Common.{◌≡◌, ℕ, zero, suc, ◌+◌, ◌==◌, Bool, true, false, ℤ, List, [], Some, None, Ok, refl, ap, sym, ◌∙◌, inl, inr}
use Rattle.std.specs.Prelude.{Option, replicate, option_and_then, option_map, find, if◌then◌else◌, is_some, nat_le, slice_get}
use Rattle.std.specs.List.{position}
use Rattle.std.specs.Option.{option_flatten, option_or}
use Rattle.nys_agreement.proofs.TableLemmas.{put_case}
use Rattle.nys_bytes.specs.declared.content.Content.{Content}
use Rattle.nys_bytes.specs.declared.content.Content.TheVariants.{External}
use Rattle.nys_votes.specs.Seats.{lowest, no_seats, passes}
use Rattle.nys_votes.specs.Delivered.{backed, voted_by, votes_for}
use Rattle.nys_votes.specs.declared.vote.Vote.{Vote}
use Rattle.nys_votes.specs.Credit.{lowest_overdue}
use Rattle.nys_rules.specs.declared.kept.Attested.{Attested}
use Rattle.nys_rules.specs.declared.notice.NoteKind.{NoteKind}
use Rattle.nys_rules.specs.declared.notice.NoteKind.TheVariants as tell
use Rattle.nys_rules.specs.declared.rule.Rule.{Rule}
use Rattle.nys_rules.specs.declared.rule.Rule.TheVariants.{Attest, Certificate, Deliver, Log, Offer, Order}
use Rattle.nys_rules.specs.Happening.{OlympusDecides, OlympusRetires, wedge_note}
use Rattle.nys_rules.specs.Heads.{candidate, head_content, lowest_head, oldest_input, overdue_head}
use Rattle.nys_rules.specs.Olympus.{OlympusView}
use Rattle.nys_rules.specs.Packets.{Done}
use Rattle.nys_rules.specs.Rules.{due, Enabled, is_certified, only_if, ordered_content, to_attest, to_certify, to_deliver, to_log, to_offer, to_order, unattested}
use Rattle.nys_rules.specs.Scope.{quorum_at, Scope}
use Rattle.nys_rules.specs.View.{entering, first_view, length_of, sent_to, View, with_links}
use Rattle.nys_rules.specs.World.{after_olympus, fresh_world, Setting, with_decided, with_note, World}
use Rattle.nys_rules.proofs.CertificateLemmas.{only_if_some, passing_some}
use Rattle.nys_rules.proofs.DueLemmas.{due_enabled}
use Rattle.nys_rules.proofs.KeepLemmas.{asks_quiet, handles_quiet, takes_quiet}
use Rattle.nys_rules.proofs.SearchLemmas.{or_some}
use Rattle.nys_rules.proofs.WorldFrames.{after_olympus_ok, decided_frame}
use Rattle.nys_laws.specs.Worlds.{InEachWorld}
use Rattle.nys_progress.proofs.EventMoves.{happen_moves, IsCalled, MovesKeep}
use Rattle.nys_progress.proofs.EventMoves.IsCalled.{Asked, Handed, Handled}

-- ---- the first view

-- no maker is kept in empty seats
no_lowest : {A : Type 0} (test : A → Bool) (n : ℕ)
    → option_flatten (find (passes test) (replicate n None)) ≡ None
no_lowest test zero = refl
no_lowest test (suc n) = no_lowest test n

-- so nobody voted
pub no_votes : (n : ℕ) (c : Content) → voted_by n (replicate 32 None) ≡ Some c → ⊥
unfolding voted_by lowest
no_votes n c is =
    let none = sym (ap (option_map (λ (v : Vote). v.content)) (no_lowest (λ (v : Vote). nat_le n (votes_for v.content (replicate 32 None))) 32)) ∙ is in
    cc

-- a node that sent nothing has nothing to attest
pub no_attest : (o : Option Attested) (x : ℕ × List ℤ) → unattested [] o ≡ Some x → ⊥
no_attest None x is = cc
no_attest (Some range) x is = cc

-- no head is overdue where none is recorded
pub no_overdue : (credit slot : ℕ) → lowest_overdue credit slot no_seats ≡ None
unfolding lowest_overdue
no_overdue credit slot = refl

-- nor is there a lowest one
pub no_head : position (λ (o : Option ℕ). is_some o) (replicate 32 None) ≡ None
no_head = refl

-- so a host offers nothing that isn't an input
no_candidate : {S : Type 0} (scope : Scope S) (v : View) (h : ℕ) (c : Content) → v.heads h ≡ no_seats
    → v.waiting ≡ []
    → candidate scope v h ≡ Some c → ⊥
unfolding candidate
no_candidate scope v h c heads waiting is =
    elim (or_some (overdue_head scope v h) (option_or (oldest_input v) (lowest_head scope v h)) c is) [
      | inl overdue ↦
          let none : overdue_head scope v h ≡ None =
          ap (λ hs. option_and_then (head_content scope v h) (lowest_overdue (scope.credit v.epoch) (length_of v h) hs)) heads
          ∙ ap (option_and_then (head_content scope v h)) (no_overdue (scope.credit v.epoch) (length_of v h)) in
          let no = sym none ∙ overdue in cc
      | inr later ↦ elim (or_some (oldest_input v) (lowest_head scope v h) c later.1) [
        | inl input ↦
            let none : oldest_input v ≡ None = ap (λ (ws : List (List ℤ)). option_map External (slice_get ws 0)) waiting in
            let no = sym none ∙ input in cc
        | inr head ↦
            let none : lowest_head scope v h ≡ None =
            ap (λ (hs : List (Option ℕ)). option_and_then (head_content scope v h) (position is_some hs)) heads
            ∙ ap (option_and_then (head_content scope v h)) no_head in
            let no = sym none ∙ head.1 in cc
      ]
    ]

-- nothing is ordered where nothing was offered and no certificate counted
pub none_ordered : (at_host certified : Bool) (c : Content)
    → ◌≡◌ {A = Option Content} (if at_host then only_if certified None else None) (Some c) → ⊥
none_ordered true true c is = cc
none_ordered true false c is = cc
none_ordered false certified c is = cc

-- nothing is enabled in the first view
first_enabled : {S : Type 0} (scope : Scope S) (me : ℕ) (rule : Rule)
    → Enabled scope (first_view scope me) rule → ⊥
unfolding first_view entering with_links to_offer to_order to_certify to_deliver to_log to_attest ordered_content sent_to
first_enabled scope me (Offer h c) is =
    no_candidate scope (first_view scope me) h c refl refl (only_if_some _ _ c is).1
first_enabled scope me (Order h c) is =
    let held : ◌≡◌ {A = Option Content} None (Some c) = (only_if_some _ _ c is).1 in cc
first_enabled scope me (Certificate h c) is =
    let offered : ◌≡◌ {A = Option Content} None (Some c) = (only_if_some _ _ c is).1 in cc
first_enabled scope me (Deliver h c) is =
    elim (or_some (ordered_content scope (first_view scope me) h) (backed (scope.t 0 h) no_seats) c (only_if_some _ _ c is).1) [
      | inl ordered ↦ none_ordered (me == h) (is_certified scope (first_view scope me) h) c ordered
      | inr votes ↦ no_votes (scope.t 0 h + 1) c votes.1
    ]
first_enabled scope me (Log h c) is =
    let due = (only_if_some _ _ c is).1 in
    no_votes (quorum_at scope 0 h) c (passing_some _ _ c due).0
first_enabled scope me (Attest p h k payload) is =
    let due = (only_if_some _ _ (k, payload) is).1 in
    no_attest _ (k, payload) due

-- so none is due
first_quiet : {S : Type 0} (scope : Scope S) (me : ℕ) → due scope (first_view scope me) ≡ None
first_quiet {S} scope me = by (due scope (first_view scope me)) refl
  where
    by : (o : Option Rule) → due scope (first_view scope me) ≡ o → due scope (first_view scope me) ≡ None
    by None is = is
    by (Some rule) is = absurd (first_enabled scope me rule (due_enabled scope (first_view scope me) rule is).1)

-- ---- worlds

-- no rule is due at any node
abbrev pub AreQuiet : {S : Type 0} → Setting S → World → Type 0
AreQuiet setting w = (g : ℕ) → due setting.scope (w.nodes g) ≡ None

-- what was quiet is so still
abbrev StayQuiet : {S : Type 0} → Setting S → World → World → Type 0
StayQuiet setting w next = AreQuiet setting w → AreQuiet setting next

-- a call
called_quiet : {S : Type 0} (scope : Scope S) (v after : View) → IsCalled scope v after → due scope v ≡ None
    → due scope after ≡ None
called_quiet scope v after (Handled frame done handles) quiet = handles_quiet scope v after frame done handles quiet
called_quiet scope v after (Handed payload done takes) quiet = takes_quiet scope v after payload done takes quiet
called_quiet scope v after (Asked done asks) quiet = asks_quiet scope v after done asks

-- nodes that are as they were
same_quiet : {S : Type 0} (setting : Setting S) (w next : World) → next.nodes ≡ w.nodes
    → StayQuiet setting w next
same_quiet setting w next same quiet g = ap (λ (nodes : ℕ → View). due setting.scope (nodes g)) same ∙ quiet g

-- the Olympus that acted
olympus_quiet : {S : Type 0} (setting : Setting S) (o : OlympusView) (done : Done) (kind : NoteKind) (w next : World)
    → after_olympus o done (with_note kind w) ≡ Ok next → StayQuiet setting w next
olympus_quiet setting o done kind w next is =
    same_quiet setting w next (ap (λ (x : World). x.nodes) (after_olympus_ok o done (with_note kind w) next is))

-- a decision
decide_quiet : {S : Type 0} (setting : Setting S) (w next : World) (h : ℕ)
    → OlympusDecides setting w h (Ok next)
    → StayQuiet setting w next
decide_quiet setting w next h o =
    let was = record w { olympus = o.after } in
    let mid = with_decided h 0 (o.after.decided h) was in
    let is = o.result_is in
    let same : next ≡ with_note (tell.Decide h o.answer) mid = cc in
    same_quiet setting w next
    (ap (λ (x : World). x.nodes) same ∙ ap (λ (x : World). x.nodes) (decided_frame h 0 (o.after.decided h) was))

-- a host that is given up, or not
retire_quiet : {S : Type 0} (setting : Setting S) (w next : World) (h : ℕ) → OlympusRetires w h (Ok next)
    → StayQuiet setting w next
retire_quiet setting w next h o =
    let is = o.result_is in
    let same : next ≡ with_note (tell.Retire h o.answer) (record w { olympus = o.after }) = cc in
    same_quiet setting w next (ap (λ (x : World). x.nodes) same)

-- each step
quiet_keep : {S : Type 0} (setting : Setting S) → MovesKeep setting (Unit {0}) (StayQuiet setting)
quiet_keep setting = record {
  same = λ w quiet. quiet;
  both = λ w mid next one other quiet. other (one quiet);
  told = λ w events delivered injected takes stay quiet. quiet;
  noted = λ w kind quiet. quiet;
  node = λ w g after ledger pool longest run called quiet x.
      put_case (λ v. due setting.scope v ≡ None) w.nodes g after x
      (λ same. called_quiet setting.scope (w.nodes g) after called (quiet g)) (λ other. quiet x);
  hears = λ w frame after done ledger pool heard quiet. quiet;
  packets = λ w pool quiet. quiet;
  wedges = λ may w next o. olympus_quiet setting o.after o.done (wedge_note w.olympus o.did) w next (sym o.result_is);
  decides = λ w next h o. decide_quiet setting w next h o;
  retires = λ w next h o. retire_quiet setting w next h o;
  opens = λ w next o. olympus_quiet setting o.after o.done (tell.Open o.answer) w next (sym o.result_is);
}

-- in each world
pub are_quiet : {S : Type 0} (setting : Setting S) → InEachWorld setting (AreQuiet setting)
unfolding fresh_world
are_quiet setting events w happen =
    happen_moves setting (StayQuiet setting) (quiet_keep setting) (fresh_world setting) w events happen
    (λ g. first_quiet setting.scope g)
