-- Which epochs have ended or are ending: a note tells of each, and without a wedge none is added.
use Rattle.std.proofs.Common.{◌≡◌, ℕ, ◌<◌, ◌≤◌, ◌⊎◌, Bool, true, false, List, [], ◌∷◌, ◌++◌, Some, None, Ok, Err, refl, ap, sym, subst, ◌∙◌, inl, inr, arith}
use Rattle.std.specs.Prelude.{Contains, Option, Result}
use Rattle.std.proofs.lemmas.Bool.{cases_order}
use Rattle.std.proofs.lemmas.List.Elements.{Contains-append_left, Contains-append_right}
use Rattle.nys_rules.specs.declared.cause.DropCause.{DropCause}
use Rattle.nys_rules.specs.declared.decision.Decision.{Decision}
use Rattle.nys_rules.specs.declared.decision.Decision.TheVariants as decide
use Rattle.nys_rules.specs.declared.decision.Opened.{Opened}
use Rattle.nys_rules.specs.declared.decision.Opened.TheVariants as opens
use Rattle.nys_rules.specs.declared.decision.Retired.{Retired}
use Rattle.nys_rules.specs.declared.decision.Retired.TheVariants as retire
use Rattle.nys_rules.specs.declared.notice.Note.{Note}
use Rattle.nys_rules.specs.declared.notice.NoteKind.{NoteKind}
use Rattle.nys_rules.specs.declared.notice.NoteKind.TheVariants as tell
use Rattle.nys_rules.specs.Dropping.{accepted}
use Rattle.nys_rules.specs.Happening.{OlympusDecides, OlympusOpens, OlympusRetires, OlympusWedges, wedge_note}
use Rattle.nys_rules.specs.Olympus.{after_decision, after_retirement, Hears, HearsOf, HearsReading, olympus_verdict, OlympusView, opening, OpensWith, testified, testified_body, WedgesWhere}
use Rattle.nys_rules.specs.Packets.{Done}
use Rattle.nys_rules.specs.Scope.{olympus, Scope}
use Rattle.nys_rules.specs.World.{after_olympus, fresh_world, Setting, with_decided, with_note, World}
use Rattle.nys_rules.proofs.WorldFrames.{after_olympus_ok, decided_frame}
use Rattle.nys_rules.specs.Events.{Plain}
use Rattle.nys_rules.specs.Happening.{HappenAll}
use Rattle.nys_rules.specs.Exchanges.{NotWedged}
use Rattle.nys_stmt.specs.declared.records.Record.{Record}
use Rattle.nys_stmt.specs.declared.statement.Body.{Body}
use Rattle.nys_stmt.specs.declared.statement.Body.TheVariants as body
use Rattle.nys_stmt.specs.declared.statement.FilledKind.TheVariants as kind
use Rattle.nys_stmt.specs.declared.tags.Tags.{Tags}
use Rattle.nys_wire.specs.Reading.{whole_record}
use Rattle.nys_wire.specs.declared.fault.WireFault.{WireFault}
use Rattle.nys_wire.specs.declared.fault.WireFault.TheVariants.{At, NoMemory}
use Rattle.nys_laws.proofs.OlympusLemmas.{opens_in_order}
use Rattle.nys_laws.specs.Worlds.{InEachWorld}
use Rattle.nys_progress.specs.Relay.{HasNoWedge}
use Rattle.nys_progress.proofs.EventMoves.{happen_moves, MovesKeep, quiet_moves}

-- the epoch is one before the Olympus's, or is the Olympus's and is ending
abbrev pub IsEnded : OlympusView → ℕ → Type 0
IsEnded o d = (d < o.epoch) ⊎ ((d ≡ o.epoch) × (o.wedged ≡ true))

-- some note tells that the epoch is ending
abbrev pub IsToldEnded : List Note → ℕ → Type 0
IsToldEnded notes d = (event : ℕ) × Contains notes (record { event = event; kind = tell.Wedged d })

-- notes stay, and each epoch that has ended then had before, or a wedge was told of it
pub record EndsBy (MayWedge : Type 0) (w next : World) : Type 0 where
  pub notes : (x : Note) → Contains w.notes x → Contains next.notes x
  pub ended : (d : ℕ) → IsEnded next.olympus d → IsEnded w.olympus d ⊎ (MayWedge × IsToldEnded next.notes d)

-- the Olympus is in the same epoch, which ends or doesn't as before
record IsAsFar (o after : OlympusView) : Type 0 where
  epoch : after.epoch ≡ o.epoch
  wedged : after.wedged ≡ o.wedged

-- then the same epochs have ended
as_far : (o after : OlympusView) → IsAsFar o after → (d : ℕ) → IsEnded after d → IsEnded o d
as_far o after same d (inl past) = let e = same.epoch in inl (omega (arith, past, e))
as_far o after same d (inr now) = inr (now.0 ∙ same.epoch, sym same.wedged ∙ now.1)

-- what a record changes at the Olympus
testified_far : (said : Body) (makers : List Tags) (o : OlympusView)
    → IsAsFar o (testified_body said makers o)
testified_far (body.Filled kind.Offer h slot content) makers o = record { epoch = refl; wedged = refl }
testified_far (body.Filled kind.Order h slot content) makers o = record { epoch = refl; wedged = refl }
testified_far (body.Filled kind.Deliver h slot content) makers o = record { epoch = refl; wedged = refl }
testified_far (body.Filled kind.Report h slot content) makers o = record { epoch = refl; wedged = refl }
testified_far (body.Filled kind.Inherit h slot content) makers o = record { epoch = refl; wedged = refl }
testified_far (body.Attest p h k payload) makers o = record { epoch = refl; wedged = refl }
testified_far (body.Ask h slot) makers o = record { epoch = refl; wedged = refl }
testified_far body.Wedge makers o = record { epoch = refl; wedged = refl }
testified_far (body.Frozen h slot) makers o = record { epoch = refl; wedged = refl }
testified_far (body.Open lengths) makers o = record { epoch = refl; wedged = refl }

-- a record that isn't dropped
noted_far : {S : Type 0} (scope : Scope S) (o : OlympusView) (r : Record) → IsAsFar o (testified scope o r)
unfolding testified
noted_far scope o r = testified_far r.statement.body (accepted scope r.statement.epoch olympus r) o

-- an Olympus that is as it was
still_far : (o after : OlympusView) → after ≡ o → IsAsFar o after
still_far o after is = subst (IsAsFar o) (sym is) (record { epoch = refl; wedged = refl })

-- bytes that it is given
hears_far : {S : Type 0} (scope : Scope S) (o : OlympusView) (frame : List ℕ) (after : OlympusView) (done : Done)
    → Hears scope o frame after done → IsAsFar o after
hears_far {S} scope o frame after done hears = by_reading (whole_record frame) hears
  where
    by_verdict : (r : Record) (cause : Option DropCause) → HearsOf scope o r cause after done
        → IsAsFar o after
    by_verdict r (Some cause) is = still_far o after is.0
    by_verdict r None is = subst (IsAsFar o) (sym is.0) (noted_far scope o r)

    by_reading : (reading : Result Record WireFault) → HearsReading scope o reading after done
        → IsAsFar o after
    by_reading (Ok r) is = by_verdict r (olympus_verdict scope o r) is
    by_reading (Err (At place fault)) is = still_far o after is.0
    by_reading (Err NoMemory) is = absurd is

-- a decision
decided_far : {S : Type 0} (scope : Scope S) (o : OlympusView) (h : ℕ) (answer : Decision)
    → IsAsFar o (after_decision scope o h answer)
decided_far scope o h (decide.Decided len) = record { epoch = refl; wedged = refl }
decided_far scope o h (decide.Undecided supported frozen) = record { epoch = refl; wedged = refl }
decided_far scope o h decide.NotWedged = record { epoch = refl; wedged = refl }
decided_far scope o h decide.Settled = record { epoch = refl; wedged = refl }

-- a host that is given up
retired_far : (o : OlympusView) (h : ℕ) (answer : Retired) → IsAsFar o (after_retirement o h answer)
retired_far o h retire.Done = record { epoch = refl; wedged = refl }
retired_far o h retire.NotWedged = record { epoch = refl; wedged = refl }
retired_far o h retire.Settled = record { epoch = refl; wedged = refl }

-- a step with these notes and this Olympus
ends_as_far : (May : Type 0) (w next : World) (more : List Note) → next.notes ≡ w.notes ++ more
    → IsAsFar w.olympus next.olympus → EndsBy May w next
ends_as_far May w next more notes same = record {
  notes = λ x among. subst (λ ns. Contains ns x) (sym notes) (Contains-append_left w.notes more x among);
  ended = λ d is. inl (as_far w.olympus next.olympus same d is);
}

-- a step that leaves notes and Olympus
ends_same : (May : Type 0) (w next : World) → next.notes ≡ w.notes → next.olympus ≡ w.olympus
    → EndsBy May w next
ends_same May w next notes same = record {
  notes = λ x among. subst (λ ns. Contains ns x) (sym notes) among;
  ended = λ d is. inl (subst (λ o. IsEnded o d) same is);
}

-- the Olympus that acted in a world with one note more
noted_olympus : (o : OlympusView) (done : Done) (kind : NoteKind) (w next : World)
    → after_olympus o done (with_note kind w) ≡ Ok next
    → (next.notes ≡ w.notes ++ record { event = w.events; kind = kind } ∷ []) × (next.olympus ≡ o)
noted_olympus o done kind w next is =
    let ok = after_olympus_ok o done (with_note kind w) next is in
    (ap (λ (x : World). x.notes) ok, ap (λ (x : World). x.olympus) ok)

-- the last note is among them
last_note : (notes : List Note) (event : ℕ) (kind : NoteKind)
    → Contains (notes ++ record { event = event; kind = kind } ∷ []) (record { event = event; kind = kind })
last_note notes event kind =
    Contains-append_right notes (record { event = event; kind = kind } ∷ []) (record { event = event; kind = kind })
    (0, omega arith, refl)

-- the end of an epoch
wedge_ends : {S : Type 0} (setting : Setting S) (May : Type 0) → May → (w next : World)
    → OlympusWedges setting w (Ok next) → EndsBy May w next
wedge_ends {S} setting May may w next o = by w.olympus.wedged refl o.wedges
  where
    now : (next.notes ≡ w.notes ++ record { event = w.events; kind = wedge_note w.olympus o.did } ∷ []) × (next.olympus ≡ o.after)
    now = noted_olympus o.after o.done (wedge_note w.olympus o.did) w next (sym o.result_is)

    by : (ending : Bool) → w.olympus.wedged ≡ ending
        → WedgesWhere setting.scope w.olympus ending o.after o.did o.done
        → EndsBy May w next
    by true was is =
        ends_as_far May w next _ now.0 (still_far w.olympus next.olympus (now.1 ∙ is.0))
    by false was is = record {
      notes = λ x among. subst (λ ns. Contains ns x) (sym now.0) (Contains-append_left w.notes _ x among);
      ended = λ d ended. elim (subst (λ v. IsEnded v d) (now.1 ∙ is.0) ended) [
        | inl past ↦ inl (inl past)
        | inr last ↦ inr (may, (w.events, told d last.0))
      ];
    }
      where
        told : (d : ℕ) → d ≡ w.olympus.epoch
            → Contains next.notes (record { event = w.events; kind = tell.Wedged d })
        told d at =
            subst (λ (n : ℕ). Contains next.notes (record { event = w.events; kind = tell.Wedged n })) (sym at)
            (subst (λ ns. Contains ns (record { event = w.events; kind = tell.Wedged w.olympus.epoch })) (sym now.0)
            (subst (λ did. Contains (w.notes ++ record { event = w.events; kind = wedge_note w.olympus did } ∷ [])
            (record { event = w.events; kind = tell.Wedged w.olympus.epoch })) (sym is.1)
            (last_note w.notes w.events (tell.Wedged w.olympus.epoch))))

-- a decision
decide_ends : {S : Type 0} (setting : Setting S) (May : Type 0) (w next : World) (h : ℕ)
    → OlympusDecides setting w h (Ok next) → EndsBy May w next
decide_ends setting May w next h o =
    let was = record w { olympus = o.after } in
    let mid = with_decided h 0 (o.after.decided h) was in
    let frame = decided_frame h 0 (o.after.decided h) was in
    let is = o.result_is in
    let same : next ≡ with_note (tell.Decide h o.answer) mid = cc in
    ends_as_far May w next _
    (ap (λ (x : World). x.notes) same ∙ ap (λ (x : World). x.notes ++ record { event = x.events; kind = tell.Decide h o.answer } ∷ []) frame)
    (subst (IsAsFar w.olympus)
    (sym (ap (λ (x : World). x.olympus) same ∙ (ap (λ (x : World). x.olympus) frame ∙ o.decides.after_is)))
    (decided_far setting.scope w.olympus h o.answer))

-- a host is given up, or not
retire_ends : (May : Type 0) (w next : World) (h : ℕ) → OlympusRetires w h (Ok next) → EndsBy May w next
retire_ends May w next h o =
    let is = o.result_is in
    let same : next ≡ with_note (tell.Retire h o.answer) (record w { olympus = o.after }) = cc in
    ends_as_far May w next _ (ap (λ (x : World). x.notes) same)
    (subst (IsAsFar w.olympus) (sym (ap (λ (x : World). x.olympus) same ∙ o.retires.after_is))
    (retired_far w.olympus h o.answer))

-- the next epoch is opened, or not: the one before had ended
open_ends : {S : Type 0} (setting : Setting S) (May : Type 0) (w next : World)
    → OlympusOpens setting w (Ok next)
    → EndsBy May w next
open_ends {S} setting May w next o = by o.answer o.opens.told o.opens.with_it
  where
    now : (next.notes ≡ w.notes ++ record { event = w.events; kind = tell.Open o.answer } ∷ []) × (next.olympus ≡ o.after)
    now = noted_olympus o.after o.done (tell.Open o.answer) w next (sym o.result_is)

    idle : o.after ≡ w.olympus → EndsBy May w next
    idle is = ends_as_far May w next _ now.0 (still_far w.olympus next.olympus (now.1 ∙ is))

    by : (answer : Opened) → answer ≡ opening setting.scope w.olympus
        → OpensWith setting.scope w.olympus answer o.after o.done → EndsBy May w next
    by (opens.Done epoch) told is =
        let may = opens_in_order setting.scope w.olympus epoch (sym told) in record {
          notes = λ x among. subst (λ ns. Contains ns x) (sym now.0) (Contains-append_left w.notes _ x among);
          ended = λ d ended. inl (elim (subst (λ v. IsEnded v d) (now.1 ∙ is.0) ended) [
            | inl past ↦ elim (cases_order d w.olympus.epoch) [
              | inl at ↦ inr (at, may.ending)
              | inr (inl low) ↦ inl low
              | inr (inr high) ↦ absurd (omega (arith, past, high))
            ]
            | inr last ↦ let no = last.1 in absurd (cc)
          ]);
        }
    by opens.NotWedged told is = idle is.0
    by opens.NoNext told is = idle is.0
    by (opens.NotAll h) told is = idle is.0

-- each step
pub ends_keep : {S : Type 0} (setting : Setting S) (May : Type 0) → MovesKeep setting May (EndsBy May)
ends_keep setting May = record {
  same = λ w. ends_same May w w refl refl;
  both = λ w mid next one other. record {
    notes = λ x among. other.notes x (one.notes x among);
    ended = λ d is. elim (other.ended d is) [
      | inl before ↦ elim (one.ended d before) [
        | inl was ↦ inl was
        | inr told ↦ inr (told.0, (told.1.0, other.notes _ told.1.1))
      ]
      | inr told ↦ inr told
    ];
  };
  told = λ w events delivered injected takes stay. ends_same May w _ refl refl;
  noted = λ w kind. ends_as_far May w (with_note kind w) _ refl (record { epoch = refl; wedged = refl });
  node = λ w g after ledger pool longest run called. ends_same May w _ refl refl;
  hears = λ w frame after done ledger pool heard. record {
    notes = λ x among. among;
    ended = λ d is. inl (as_far w.olympus after (hears_far setting.scope w.olympus frame after done heard) d is);
  };
  packets = λ w pool. ends_same May w _ refl refl;
  wedges = λ may w next o. wedge_ends setting May may w next o;
  decides = λ w next h o. decide_ends setting May w next h o;
  retires = λ w next h o. retire_ends May w next h o;
  opens = λ w next o. open_ends setting May w next o;
}

-- in each world a note tells of each epoch that has ended or is ending
pub ended_told : {S : Type 0} (setting : Setting S)
    → InEachWorld setting (λ w. (d : ℕ) → IsEnded w.olympus d → IsToldEnded w.notes d)
unfolding fresh_world
ended_told setting events w happen d is =
    elim ((happen_moves setting (EndsBy (Unit {0})) (ends_keep setting (Unit {0})) (fresh_world setting) w events happen).ended d is) [
      | inl before ↦ absurd (elim before [ inl past ↦ omega (arith, past) | inr last ↦ let no = last.1 in cc ])
      | inr told ↦ told.1
    ]

-- the Olympus is in the epoch, and it isn't ending
pub record IsGoing (w : World) (e : ℕ) : Type 0 where
  pub epoch : w.olympus.epoch ≡ e
  pub active : w.olympus.wedged ≡ false

-- so it is where no note tells that it is ending, and it was reached
pub going_of : (w : World) (e : ℕ) → ((d : ℕ) → IsEnded w.olympus d → IsToldEnded w.notes d) → NotWedged w e
    → e ≤ w.olympus.epoch → IsGoing w e
going_of w e told none reached = record {
  epoch = at;
  active = by w.olympus.wedged refl;
}
  where
    never : IsEnded w.olympus e → ⊥
    never is = let note = told e is in none note.0 note.1

    at : w.olympus.epoch ≡ e
    at = elim (cases_order w.olympus.epoch e) [
      | inl same ↦ same
      | inr (inl low) ↦ absurd (omega (arith, low, reached))
      | inr (inr high) ↦ absurd (never (inl high))
    ]

    by : (b : Bool) → w.olympus.wedged ≡ b → w.olympus.wedged ≡ false
    by false is = is
    by true is = absurd (never (inr (sym at, is)))

-- what hadn't ended and doesn't end goes on
pub going_on : (w next : World) (e : ℕ) → w.olympus.epoch ≤ next.olympus.epoch → EndsBy ⊥ w next
    → IsGoing w e → IsGoing next e
going_on w next e rises by_none going = record { epoch = at; active = by next.olympus.wedged refl }
  where
    never : IsEnded next.olympus e → ⊥
    never is = elim (by_none.ended e is) [
      | inl before ↦ elim before [
        | inl past ↦ let same = going.epoch in omega (arith, past, same)
        | inr last ↦ let no = sym last.1 ∙ going.active in cc
      ]
      | inr told ↦ told.0
    ]

    at : next.olympus.epoch ≡ e
    at = elim (cases_order next.olympus.epoch e) [
      | inl same ↦ same
      | inr (inl low) ↦ absurd (let same = going.epoch in omega (arith, low, same, rises))
      | inr (inr high) ↦ absurd (never (inl high))
    ]

    by : (b : Bool) → next.olympus.wedged ≡ b → next.olympus.wedged ≡ false
    by false is = is
    by true is = absurd (never (inr (sym at, is)))

-- over events without a wedge
pub goes_quietly : {S : Type 0} (setting : Setting S) (w next : World) (events : List Plain) (e : ℕ)
    → HasNoWedge events
    → HappenAll setting w events (Ok next) → w.olympus.epoch ≤ next.olympus.epoch → IsGoing w e
    → IsGoing next e
goes_quietly setting w next events e none happen rises going =
    going_on w next e rises (quiet_moves setting (EndsBy ⊥) (ends_keep setting ⊥) w next events none happen) going
