-- What stays shown where an event changes the Olympus and the books, and what an end comes to.
use Rattle.std.proofs.Common.{◌≡◌, ℕ, Bool, List, Some, None, Ok, Err, refl, ap, sym, subst}
use Rattle.std.specs.Prelude.{Option, Result}
use Rattle.std.specs.Result.{IsErrAnd}
use Rattle.nys_bytes.specs.declared.content.Content.{Content}
use Rattle.nys_olympus.specs.Means as means
use Rattle.nys_olympus.specs.declared.olympus.Olympus.{Olympus}
use Rattle.nys_rules.specs.declared.notice.End.{End}
use Rattle.nys_rules.specs.declared.notice.End.TheVariants.{NoPacket, Forged, Clash, PoolFull, NoMemory}
use Rattle.nys_rules.specs.declared.notice.NoteKind.{NoteKind}
use Rattle.nys_rules.specs.Happening.{bundle_or_end, first_frame, OlympusOpens, OlympusWedges, sends_bundle, wedge_note}
use Rattle.nys_rules.specs.declared.decision.Opened.{Opened}
use Rattle.nys_rules.specs.declared.notice.NoteKind.TheVariants as tell
use Rattle.nys_rules.specs.Olympus.{OlympusView, Opens, Wedges}
use Rattle.nys_rules.specs.Packets.{Done, Sent}
use Rattle.nys_rules.specs.World.{after_olympus, Setting, with_decided, with_note, with_packets, World}
use Rattle.nys_rules.proofs.WorldFrames.{after_olympus_ok, decided_frame, packets_ok}
use Rattle.nys_stmt.specs.declared.records.Record.{Record}
use Rattle.nys_wire.specs.Reading.{whole_record}
use Rattle.nys_wire.specs.declared.fault.WireFault.{WireFault}
use Rattle.nys_world.specs.Outcomes.{Happened}
use Rattle.nys_world.specs.Shows.{AreTakes, Keeps, Shows}
use Rattle.nys_world.proofs.PlaceLemmas.{shows_books, shows_olympus}
use Rattle.nys_world.specs.declared.books.Books.{Books}
use Rattle.nys_world.specs.declared.moment.Moment.{Moment}

-- what an end comes to for a caller, where it may come to each end that it came to
pub ends_so : {A B : Type 0} (Has : A → World → Type 0) (Had : B → World → Type 0) (may might : Result World End → Type 0)
    → ((why : End) → may (Err why) → might (Err why)) → (why : End) → Happened Has may (Err why) → Happened Had might (Err why)
ends_so Has Had may might so (NoPacket event packet have) h = so _ h
ends_so Has Had may might so (Forged event maker taker statement) h = so _ h
ends_so Has Had may might so (Clash event maker taker made taken) h = so _ h
ends_so Has Had may might so (PoolFull event packets bytes) h = so _ h
ends_so Has Had may might so NoMemory h = tt

-- the end of a call is the caller's end
pub ends_by : {A B : Type 0} (Has : A → World → Type 0) (Had : B → World → Type 0) (may might : Result World End → Type 0)
    → ((why : End) → may (Err why) → might (Err why)) → (result : Result B End) (why : End)
    → IsErrAnd result (λ e. e ≡ why) → Happened Has may (Err why) → Happened Had might result
ends_by Has Had may might so (Ok x) why is h = absurd is
ends_by Has Had may might so (Err e) why is h =
    subst (λ (z : End). Happened Had might (Err z)) (sym is) (ends_so Has Had may might so why h)

-- packets that joined the pool
pub shows_packets : {P S : Type 0} (setting : Setting S) (traced : Bool) (before : Moment P S) (books : Books) (packets : List Sent) (w next : World)
    → Ok next ≡ with_packets packets w → Shows setting traced before w → Keeps books next
    → Shows setting traced (record before { books = books }) next
shows_packets setting traced before books packets w next is shows keeps =
    let same = packets_ok packets w next (sym is) in
    shows_books setting traced before books w next (ap (λ (z : World). z.nodes) same) (ap (λ (z : World). z.olympus) same)
    (ap (λ (z : World). z.takes) same) keeps shows

-- a bundle changes no party, and gives nothing to any
bundle_beside : (w next : World) (from : ℕ) (to packets : List ℕ) (missing : Option ℕ)
    → Ok next ≡ bundle_or_end w from to packets missing → (next.nodes ≡ w.nodes) × (next.olympus ≡ w.olympus) × (next.takes ≡ w.takes)
bundle_beside w next from to packets (Some k) is = absurd (cc)
bundle_beside w next from to packets None is = by (whole_record (first_frame w packets)) is
  where
    by : (reading : Result Record WireFault) → Ok next ≡ sends_bundle w from to packets reading
        → (next.nodes ≡ w.nodes) × (next.olympus ≡ w.olympus) × (next.takes ≡ w.takes)
    by (Err fault) is =
        let same : next ≡ w = cc in
        (ap (λ (z : World). z.nodes) same, ap (λ (z : World). z.olympus) same, ap (λ (z : World). z.takes) same)
    by (Ok r) is =
        let same = packets_ok _ w next (sym is) in
        (ap (λ (z : World). z.nodes) same, ap (λ (z : World). z.olympus) same, ap (λ (z : World). z.takes) same)

-- a bundle that joined the pool
pub shows_bundle : {P S : Type 0} (setting : Setting S) (traced : Bool) (before : Moment P S) (books : Books) (from : ℕ)
    (to packets : List ℕ) (missing : Option ℕ) (w next : World) → Ok next ≡ bundle_or_end w from to packets missing
    → Shows setting traced before w → Keeps books next → Shows setting traced (record before { books = books }) next
shows_bundle setting traced before books from to packets missing w next is shows keeps =
    let same = bundle_beside w next from to packets missing is in
    shows_books setting traced before books w next same.0 same.1 same.2 keeps shows

-- the Olympus acted, and it was told of an answer
pub shows_acted : {P S : Type 0} (setting : Setting S) (traced : Bool) (before : Moment P S) (olympus : Olympus P S) (books : Books)
    (kind : NoteKind) (o : OlympusView) (done : Done) (w next : World)
    → Ok next ≡ after_olympus o done (with_note kind w) → Shows setting traced before w
    → means.IsViewOf setting.scope olympus o → Keeps books next
    → Shows setting traced (record before { olympus = olympus; books = books }) next
shows_acted setting traced before olympus books kind o done w next is shows view keeps =
    let same = after_olympus_ok o done (with_note kind w) next (sym is) in
    shows_olympus setting traced before (record before { olympus = olympus; books = books }) o w next view
    (ap (λ (z : World). z.nodes) same) (ap (λ (z : World). z.olympus) same) refl keeps
    (subst (AreTakes traced before.takes.items) (sym (ap (λ (z : World). z.takes) same)) shows.takes) shows

-- the Olympus decided entries, and it was told of an answer
pub shows_decided : {P S : Type 0} (setting : Setting S) (traced : Bool) (before : Moment P S) (olympus : Olympus P S) (books : Books)
    (kind : NoteKind) (o : OlympusView) (h : ℕ) (contents : List Content) (w : World) → Shows setting traced before w
    → means.IsViewOf setting.scope olympus o
    → Keeps books (with_note kind (with_decided h 0 contents (record w { olympus = o })))
    → Shows setting traced (record before { olympus = olympus; books = books })
    (with_note kind (with_decided h 0 contents (record w { olympus = o })))
shows_decided setting traced before olympus books kind o h contents w shows view keeps =
    let was = record w { olympus = o } in
    let same = decided_frame h 0 contents was in
    shows_olympus setting traced before (record before { olympus = olympus; books = books }) o w
    (with_note kind (with_decided h 0 contents was)) view (ap (λ (z : World). z.nodes) same) (ap (λ (z : World). z.olympus) same) refl keeps
    (subst (AreTakes traced before.takes.items) (sym (ap (λ (z : World). z.takes) same)) shows.takes) shows

-- what came of the Olympus that was told to end its epoch
pub wedged_so : {S : Type 0} (setting : Setting S) (w : World) (o : OlympusView) (did : Bool) (done : Done) (kind : NoteKind)
    → Wedges setting.scope w.olympus o did done → kind ≡ wedge_note w.olympus did → (r : Result World End)
    → r ≡ after_olympus o done (with_note kind w) → OlympusWedges setting w r
wedged_so setting w o did done kind wedges told r is = record {
  after = o;
  did = did;
  done = done;
  wedges = wedges;
  result_is = subst (λ (k : NoteKind). r ≡ after_olympus o done (with_note k w)) told is;
}

-- what came of the Olympus that was told to open its next epoch
pub opened_so : {S : Type 0} (setting : Setting S) (w : World) (o : OlympusView) (answer : Opened) (done : Done)
    → Opens setting.scope w.olympus o answer done → (r : Result World End)
    → r ≡ after_olympus o done (with_note (tell.Open answer) w) → OlympusOpens setting w r
opened_so setting w o answer done opens r is = record {
  after = o;
  answer = answer;
  done = done;
  opens = opens;
  result_is = is;
}
