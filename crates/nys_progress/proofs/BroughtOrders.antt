-- Each record of an Order that an event brings for an unspoiled slot is well formed and whole: what a liar says has its
-- own tags, and a bundle has the entries of such records.
use Rattle.std.proofs.Common.{◌≡◌, ◌≢◌, ℕ, zero, suc, ◌<◌, ◌≤◌, ◌⊎◌, ◌==◌, ◌&&◌, ◌||◌, Bool, true, false, get_or, List, [], ◌∷◌, ◌++◌, length, map, Some, None, Ok, Err, refl, ap, sym, subst, ◌∙◌, inl, inr, arith}
use Rattle.std.specs.Prelude.{All, Contains, cond, fold, if◌then◌else◌, nat_lt, not, Option, replicate, Result, slice_get}
use Rattle.std.proofs.lemmas.Bool.{ne_eqb}
use Rattle.std.proofs.lemmas.List.{length-map, length-replicate}
use Rattle.std.proofs.lemmas.List.Elements.{All-cons, All-contains, All-nil, Contains-append_right, Contains-get_or}
use Rattle.nys_votes.specs.Ordered.{makers_of}
use Rattle.nys_votes.specs.Seats.{is_seated, seat_of, with_seat}
use Rattle.nys_stmt.specs.declared.records.Record.{Record}
use Rattle.nys_stmt.specs.declared.statement.Body.TheVariants as body
use Rattle.nys_stmt.specs.declared.statement.FilledKind.TheVariants as kind
use Rattle.nys_stmt.specs.declared.statement.Statement.{Statement}
use Rattle.nys_stmt.specs.declared.tags.Tags.{Tags}
use Rattle.nys_stmt.specs.Ranges.{IsStatement}
use Rattle.nys_stmt.specs.Records.{IsMaker, IsRecord, IsTag, record_spelling}
use Rattle.nys_wire.specs.Reading.{whole_record}
use Rattle.nys_wire.specs.declared.fault.WireFault.{WireFault}
use Rattle.nys_rules.specs.declared.packet.TheConstants.{STRANGER}
use Rattle.nys_rules.specs.Asked.{AreTo}
use Rattle.nys_rules.specs.Events.{Plain}
use Rattle.nys_rules.specs.Events.Plain.{Ask, Bundle, Bytes, Decide, Deliver, Exchange, Flush, Input, Open, Retire, Say, Steal, Wedge}
use Rattle.nys_rules.specs.Exchanges.{IsOrderRecord, IsUnspoiled}
use Rattle.nys_rules.specs.Happening.{bundle_of, bundled, first_frame, frame_of, said_record}
use Rattle.nys_rules.specs.Packets.{Sent}
use Rattle.nys_rules.specs.Same.{is_same_statement}
use Rattle.nys_rules.specs.Scope.{olympus, Scope}
use Rattle.nys_rules.specs.Sending.{packet, said_in}
use Rattle.nys_rules.specs.World.{is_honest, Setting, World}
use Rattle.nys_rules.proofs.SameLemmas.{decide_statements}
use Rattle.nys_rules.proofs.SeatCases.{seats_case, seats_keep, seats_take}
use Rattle.nys_rules.proofs.SeatKeeping.{length-with_seat}
use Rattle.nys_laws.specs.SetUp.{AreHosts}
use Rattle.nys_laws.proofs.EventKeeping.{Brings}
use Rattle.nys_laws.proofs.GrownLemmas.{each_given}
use Rattle.nys_progress.specs.Carried.{HasTags}
use Rattle.nys_progress.specs.FourExchanges.{IsWholeEntry}
use Rattle.nys_progress.specs.Scheduled.{IsScheduled}
use Rattle.nys_progress.proofs.CollectedSteps.{placed_in}
use Rattle.nys_progress.proofs.GoodOrders.{AreGood, IsGoodOrder, ReadsGood, spelled_good}
use Rattle.nys_progress.proofs.MakerLists.{entry, seat_among, seat_low, seats_all, seats_are_makers}
use Rattle.nys_progress.proofs.MarkedDesks.{seat_there}
use Rattle.nys_progress.proofs.OrderHeads.{headed, IsHeaded, nothing_read, ranged}
use Rattle.nys_progress.proofs.ReadRecords.{tagged, tagged_all, tagged_rise}

-- ---- what a liar says

-- who lies isn't honest
liar_lies : {S : Type 0} (setting : Setting S) (a : ℕ) → AreHosts setting.scope → a < setting.scope.rules.hosts
    → setting.liars a ≡ true → is_honest setting a ≡ true → ⊥
liar_lies setting a hosts low lies honest =
    let few = hosts.few in
    let other = ne_eqb a olympus (λ is. omega (arith, low, few, is)) in
    both (a == olympus) (nat_lt a setting.scope.rules.hosts) (setting.liars a) other lies honest
  where
    both : (x y z : Bool) → x ≡ false → z ≡ true → (x || (y && not z)) ≡ true → ⊥
    both true y z is lie holds = cc
    both false true true is lie holds = cc
    both false false true is lie holds = cc
    both false y false is lie holds = cc

-- its record is well formed, and has its entry alone
said_good : {S : Type 0} (setting : Setting S) (e h : ℕ) → AreHosts setting.scope → HasTags setting.scope
    → (a : ℕ) (to : List ℕ) (st : Statement) → IsScheduled setting (Say a to st)
    → IsGoodOrder setting e h (said_record setting.scope a st to)
unfolding said_record
said_good {S} setting e h hosts tags a to st is = record {
  well = record {
    statement = record { range = is.is.fit; sound = is.sound };
    some = omega arith;
    rule = record {
      rising = λ i j d lt within. absurd (omega (arith, lt, within));
      parties = All-cons (λ (x : Tags). x.maker ≤ 32) one [] (omega (arith, low, few)) (All-nil (λ (x : Tags). x.maker ≤ 32));
    };
    each = All-cons IsMaker one [] maker (All-nil IsMaker);
  };
  whole = All-cons (IsWholeEntry setting e h st) one []
      (λ honest g guards ne. absurd (liar_lies setting a hosts low is.is.liars_say honest)) (All-nil (IsWholeEntry setting e h st));
}
  where
    low : a < setting.scope.rules.hosts
    low = is.is.hosts_are.0

    few : setting.scope.rules.hosts ≤ 32
    few = hosts.few

    for : AreTo setting.scope.rules.hosts to
    for = is.is.hosts_are.1

    tag : ℕ → List ℕ
    tag g = setting.scope.tag a g st

    one : Tags
    one = record { maker = a; tags = tagged tag to }

    maker : IsMaker one
    maker = record {
      some = let some = for.list.some in let same = length-map {B = ℕ × List ℕ} to (λ g. (g, tag g)) in omega (arith, some, same);
      rule = record {
        rising = tagged_rise tag to for.list.rising;
        parties = tagged_all (λ x. x ≤ 32) (λ x. x.0 ≤ 32) tag (λ x within. within) to for.list.each;
      };
      each = tagged_all (λ x. x ≤ 32) IsTag tag (λ x within. tags.tags a x st (omega (arith, low, few)) within) to for.list.each;
    }

-- ---- what a bundle has

-- seats of makers, with their tags
abbrev Kept : Type 0
Kept = List (Option (List (ℕ × List ℕ)))

-- an entry of a record of the statement that was read
record IsEntryOf (st : Statement) (reading : Result Record WireFault) (m : ℕ) (tags : List (ℕ × List ℕ)) : Type 0 where
  r : Record
  reads : reading ≡ Ok r
  says : r.statement ≡ st
  among : Contains r.makers (entry m tags)

-- the parts of an entry make it
entry_of : (t : Tags) (m : ℕ) (tags : List (ℕ × List ℕ)) → t.maker ≡ m → t.tags ≡ tags → t ≡ entry m tags
entry_of t m tags one two = ap (λ x. record t { maker = x }) one ∙ ap (λ x. record { maker = m; tags = x }) two

-- what stands in a seat stood there, or is an entry of the record
bundled_case : (st : Statement) (seats : Kept) (reading : Result Record WireFault) (m : ℕ) (tags : List (ℕ × List ℕ))
    → seat_of (bundled st seats reading) m ≡ Some tags → (seat_of seats m ≡ Some tags) ⊎ IsEntryOf st reading m tags
bundled_case st seats (Err fault) m tags get = inl get
bundled_case st seats (Ok r) m tags get = by (is_same_statement r.statement st) refl get
  where
    joined : Kept
    joined = fold (λ kept (t : Tags). with_seat t.maker t.tags kept) seats r.makers

    by : (b : Bool) → is_same_statement r.statement st ≡ b → seat_of (if b then joined else seats) m ≡ Some tags
        → (seat_of seats m ≡ Some tags) ⊎ IsEntryOf st (Ok r) m tags
    by false is at = inl at
    by true is at = elim (seats_case (λ (t : Tags). t.maker) (λ (t : Tags). t.tags) r.makers seats m tags at) [
      | inl old ↦ inl old
      | inr new ↦ inr (record {
        r = r;
        reads = refl;
        says = (decide_statements r.statement st).0 is;
        among = subst (Contains r.makers) (entry_of new.0 m tags new.2 new.3) new.1;
      })
    ]

-- what stands in a seat stays there
bundled_stays : (st : Statement) (seats : Kept) (reading : Result Record WireFault) (m : ℕ) (tags : List (ℕ × List ℕ))
    → seat_of seats m ≡ Some tags → seat_of (bundled st seats reading) m ≡ Some tags
bundled_stays st seats (Err fault) m tags get = get
bundled_stays st seats (Ok r) m tags get = by (is_same_statement r.statement st)
  where
    by : (b : Bool) → seat_of (if b then fold (λ kept (t : Tags). with_seat t.maker t.tags kept) seats r.makers else seats) m ≡ Some tags
    by false = get
    by true = seats_keep (λ (t : Tags). t.maker) (λ (t : Tags). t.tags) r.makers seats m tags get

-- there are as many seats
seated_long : (makers : List Tags) (seats : Kept)
    → length (fold (λ kept (t : Tags). with_seat t.maker t.tags kept) seats makers) ≡ length seats
seated_long [] seats = refl
seated_long (t ∷ makers) seats = seated_long makers (with_seat t.maker t.tags seats) ∙ length-with_seat t.maker t.tags seats

bundled_long : (st : Statement) (seats : Kept) (reading : Result Record WireFault) → length (bundled st seats reading) ≡ length seats
bundled_long st seats (Err fault) = refl
bundled_long st seats (Ok r) = by (is_same_statement r.statement st)
  where
    by : (b : Bool) → length (if b then fold (λ kept (t : Tags). with_seat t.maker t.tags kept) seats r.makers else seats) ≡ length seats
    by false = refl
    by true = seated_long r.makers seats

-- a maker of a record of the statement has its seat
bundled_takes : (seats : Kept) (r : Record) (t : Tags) → Contains r.makers t → t.maker < length seats
    → is_seated (bundled r.statement seats (Ok r)) t.maker ≡ true
bundled_takes seats r t among low =
    by (is_same_statement r.statement r.statement) ((decide_statements r.statement r.statement).1 refl)
  where
    by : (b : Bool) → b ≡ true
        → is_seated (if b then fold (λ kept (x : Tags). with_seat x.maker x.tags kept) seats r.makers else seats) t.maker ≡ true
    by true is = seats_take (λ (x : Tags). x.maker) (λ (x : Tags). x.tags) r.makers seats t among low
    by false is = absurd (cc)

-- ---- several packets

-- what packets have for a statement, one after another
abbrev all_bundled : World → Statement → Kept → List ℕ → Kept
all_bundled w st seats ks = fold (λ kept k. bundled st kept (whole_record (frame_of w k))) seats ks

-- the bytes are those of a packet that is there, or none
frame_case : (w : World) (k : ℕ) → ((p : Sent) × Contains w.pool p × (p.frame ≡ frame_of w k)) ⊎ (frame_of w k ≡ [])
frame_case w k = by (slice_get w.pool k) refl
  where
    by : (o : Option Sent) → slice_get w.pool k ≡ o → ((p : Sent) × Contains w.pool p × (p.frame ≡ frame_of w k)) ⊎ (frame_of w k ≡ [])
    by None is = inr (rw is refl)
    by (Some p) is = inl (p, placed_in w.pool k p is, rw is refl)

-- each seat has an entry of a packet's record of the statement
seats_from : (w : World) (st : Statement) (seats : Kept) (ks : List ℕ) (m : ℕ) (tags : List (ℕ × List ℕ))
    → seat_of (all_bundled w st seats ks) m ≡ Some tags
    → (seat_of seats m ≡ Some tags) ⊎ ((k : ℕ) × IsEntryOf st (whole_record (frame_of w k)) m tags)
seats_from w st seats [] m tags get = inl get
seats_from w st seats (k ∷ ks) m tags get =
    elim (seats_from w st (bundled st seats (whole_record (frame_of w k))) ks m tags get) [
      | inl before ↦ elim (bundled_case st seats (whole_record (frame_of w k)) m tags before) [
        | inl old ↦ inl old
        | inr new ↦ inr (k, new)
      ]
      | inr later ↦ inr later
    ]

seats_stay : (w : World) (st : Statement) (seats : Kept) (ks : List ℕ) (m : ℕ) (tags : List (ℕ × List ℕ))
    → seat_of seats m ≡ Some tags → seat_of (all_bundled w st seats ks) m ≡ Some tags
seats_stay w st seats [] m tags get = get
seats_stay w st seats (k ∷ ks) m tags get =
    seats_stay w st (bundled st seats (whole_record (frame_of w k))) ks m tags
    (bundled_stays st seats (whole_record (frame_of w k)) m tags get)

seats_long : (w : World) (st : Statement) (seats : Kept) (ks : List ℕ) → length (all_bundled w st seats ks) ≡ length seats
seats_long w st seats [] = refl
seats_long w st seats (k ∷ ks) =
    seats_long w st (bundled st seats (whole_record (frame_of w k))) ks ∙ bundled_long st seats (whole_record (frame_of w k))

-- nobody has a seat at first
none_seated : (n m : ℕ) (tags : List (ℕ × List ℕ)) → seat_of (replicate n None) m ≡ Some tags → ⊥
none_seated zero m tags is = cc
none_seated (suc n) zero tags is = cc
none_seated (suc n) (suc m) tags is = none_seated n m tags is

-- a bundle that reads as an Order is well formed and whole, where the packets are
bundle_good : {S : Type 0} (setting : Setting S) (e h s : ℕ) (w : World) (k : ℕ) (ks : List ℕ) (first : Record)
    → AreGood setting e h s w.pool → whole_record (frame_of w k) ≡ Ok first
    → ReadsGood setting e h s (record_spelling (bundle_of w first.statement (k ∷ ks)))
unfolding bundle_of
bundle_good {S} setting e h s w k ks first good reads is =
    spelled_good setting e h s (bundle_of w st (k ∷ ks)) (record { well = well; whole = whole }) is
  where
    st : Statement
    st = first.statement

    none : Kept
    none = replicate 33 None

    seats : Kept
    seats = all_bundled w st none (k ∷ ks)

    hd : IsHeaded st e h s
    hd = headed (bundle_of w st (k ∷ ks)) e h s is

    says : st ≡ said_in st.epoch (body.Filled kind.Order hd.host hd.slot hd.content)
    says = ap (λ b. said_in st.epoch b) hd.says

    limits : (st.epoch ≤ 63) × (hd.host ≤ 31) × (hd.slot ≤ 1023)
    limits = ranged (frame_of w k) st.epoch hd.host hd.slot (record { r = first; content = hd.content; reads = reads; statement = says })

    here : (st.epoch ≡ e) × (hd.host ≡ h) × (hd.slot ≡ s)
    here = hd.same limits.0 limits.1 limits.2

    statement_is : st ≡ said_in e (body.Filled kind.Order h s hd.content)
    statement_is = says
        ∙ (ap (λ n. said_in n (body.Filled kind.Order hd.host hd.slot hd.content)) here.0
        ∙ (ap (λ x. said_in e (body.Filled kind.Order x hd.slot hd.content)) here.1
        ∙ ap (λ i. said_in e (body.Filled kind.Order h i hd.content)) here.2))

    good_of : (x : ℕ) (r : Record) → whole_record (frame_of w x) ≡ Ok r → r.statement ≡ st → IsGoodOrder setting e h r
    good_of x r read same = elim (frame_case w x) [
      | inl sent ↦
          let order : IsOrderRecord (frame_of w x) e h s =
          record { r = r; content = hd.content; reads = read; statement = same ∙ statement_is } in
          subst (ReadsGood setting e h s) sent.2 (good sent.0 sent.1) order
      | inr nothing ↦ absurd (nothing_read r (subst (λ f. whole_record f ≡ Ok r) nothing read))
    ]

    entry_good : (m : ℕ) (tags : List (ℕ × List ℕ)) → seat_of seats m ≡ Some tags
        → IsMaker (entry m tags) × IsWholeEntry setting e h st (entry m tags)
    entry_good m tags get = elim (seats_from w st none (k ∷ ks) m tags get) [
      | inl old ↦ absurd (none_seated 33 m tags old)
      | inr new ↦
          let one = new.1 in
          let g = good_of new.0 one.r one.reads one.says in (
            All-contains IsMaker one.r.makers (entry m tags) g.well.each one.among,
            subst (λ x. IsWholeEntry setting e h x (entry m tags)) one.says
                (All-contains (IsWholeEntry setting e h one.r.statement) one.r.makers (entry m tags) g.whole one.among),
          )
    ]

    own : IsGoodOrder setting e h first
    own = good_of k first reads refl

    lead : Tags
    lead = get_or first.makers 0 (record { maker = 0; tags = [] })

    leads : Contains first.makers lead
    leads = Contains-get_or first.makers 0 (record { maker = 0; tags = [] }) own.well.some

    seated : is_seated (bundled st none (whole_record (frame_of w k))) lead.maker ≡ true
    seated = subst (λ reading. is_seated (bundled st none reading) lead.maker ≡ true) (sym reads)
        (bundled_takes none first lead leads
        (let most = All-contains (λ (t : Tags). t.maker ≤ 32) first.makers lead own.well.rule.parties leads in omega (arith, most)))

    some : 1 ≤ length (makers_of seats)
    some =
        let there = seat_there (bundled st none (whole_record (frame_of w k))) lead.maker seated in
        let stays = seats_stay w st (bundled st none (whole_record (frame_of w k))) ks lead.maker there.0 there.1 in
        let among = seat_among seats lead.maker there.0 stays in omega (arith, among.1)

    well : IsRecord (bundle_of w st (k ∷ ks))
    well = record {
      statement = own.well.statement;
      some = some;
      rule = seats_are_makers seats (let long = seats_long w st none (k ∷ ks) in omega (arith, long));
      each = seats_all IsMaker seats (λ m tags get. (entry_good m tags get).0);
    }

    whole : All (IsWholeEntry setting e h st) (makers_of seats)
    whole = seats_all (IsWholeEntry setting e h st) seats (λ m tags get. (entry_good m tags get).1)

-- ---- what events bring

-- the packet has the bytes of the record, and is of the party
pub record IsPacketOf (from : ℕ) (r : Record) (p : Sent) : Type 0 where
  pub frame_is : p.frame ≡ record_spelling r
  pub from_is : p.from ≡ from

-- each of those to several parties
pub packets_of : (from : ℕ) (r : Record) (to : List ℕ) (packets : List Sent) → packets ≡ map (λ g. packet from g r) to
    → (p : Sent) → Contains packets p → IsPacketOf from r p
packets_of from r to packets is p among =
    All-contains (IsPacketOf from r) (map (λ g. packet from g r) to) p
    (each_given (IsPacketOf from r) (λ g. packet from g r) to (λ g. record { frame_is = refl; from_is = refl }))
    (subst (λ (ps : List Sent). Contains ps p) is among)

-- each record of an Order that an event brings for an unspoiled slot
pub brought_good : {S : Type 0} (setting : Setting S) (e h s : ℕ) → AreHosts setting.scope → HasTags setting.scope
    → (w : World) (event : Plain) (packets : List Sent) → IsScheduled setting event → Brings setting w event packets
    → IsUnspoiled (record w { pool = w.pool ++ packets }) e h s → AreGood setting e h s w.pool
    → (p : Sent) → Contains packets p → ReadsGood setting e h s p.frame
brought_good setting e h s hosts tags w (Say a to st) packets is brings pure good p among order =
    let x = packets_of a (said_record setting.scope a st to) to packets brings p among in
    subst (ReadsGood setting e h s) (sym x.frame_is)
    (spelled_good setting e h s (said_record setting.scope a st to) (said_good setting e h hosts tags a to st is)) order
brought_good setting e h s hosts tags w (Bundle a to []) packets is brings pure good p among order =
    absurd (let some = is.is.fit in omega (arith, some))
brought_good setting e h s hosts tags w (Bundle a to (k ∷ ks)) packets is brings pure good p among order =
    let first = brings.0 in
    let x = packets_of a (bundle_of w first.statement (k ∷ ks)) to packets brings.3 p among in
    subst (ReadsGood setting e h s) (sym x.frame_is) (bundle_good setting e h s w k ks first good brings.1) order
brought_good setting e h s hosts tags w (Steal a to st) packets is brings pure good p among order =
    let x = packets_of STRANGER (said_record setting.scope a st to) to packets brings p among in
    absurd (pure.packets p (Contains-append_right w.pool packets p among) x.from_is order)
brought_good setting e h s hosts tags w (Input x payload) packets is brings pure good p among order = absurd brings
brought_good setting e h s hosts tags w (Deliver k) packets is brings pure good p among order = absurd brings
brought_good setting e h s hosts tags w Flush packets is brings pure good p among order = absurd brings
brought_good setting e h s hosts tags w Exchange packets is brings pure good p among order = absurd brings
brought_good setting e h s hosts tags w (Ask x) packets is brings pure good p among order = absurd brings
brought_good setting e h s hosts tags w (Bytes to frame) packets is brings pure good p among order = absurd brings
brought_good setting e h s hosts tags w Wedge packets is brings pure good p among order = absurd brings
brought_good setting e h s hosts tags w (Decide x) packets is brings pure good p among order = absurd brings
brought_good setting e h s hosts tags w (Retire x) packets is brings pure good p among order = absurd brings
brought_good setting e h s hosts tags w Open packets is brings pure good p among order = absurd brings
