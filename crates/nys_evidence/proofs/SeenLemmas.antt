-- What is seen: the makers of a record that was taken, in each later world; and counts of makers less one.
use Rattle.std.proofs.Common.{◌≡◌, ◌≢◌, ℕ, zero, suc, ◌+◌, ◌-◌, ◌<◌, ◌≤◌, ◌⊎◌, ◌==◌, ◌&&◌, ◌||◌, Bool, true, false, List, [], ◌∷◌, filter, Some, None, refl, sym, inl, inr, arith}
use Rattle.std.specs.Prelude.{Contains, Option, cond, not, slice_get}
use Rattle.std.proofs.lemmas.Bool.{cases_eq, eq-eqb, ne_eqb}
use Rattle.std.proofs.lemmas.List.Elements.{All-contains, filter_passes}
use Rattle.nys_hosts.proofs.CountLemmas.{hosts_with-more, hosts_with-within}
use Rattle.nys_hosts.specs.Counts.{AtLeast, hosts_with}
use Rattle.nys_stmt.specs.declared.records.Record.{Record}
use Rattle.nys_stmt.specs.declared.statement.Statement.{Statement}
use Rattle.nys_stmt.specs.declared.tags.Tags.{Tags}
use Rattle.nys_rules.specs.declared.notice.Take.{Take}
use Rattle.nys_rules.specs.Dropping.{accepted, accepts, permits, verifies}
use Rattle.nys_rules.specs.Evidence.{IsFrameOf, IsSeen}
use Rattle.nys_rules.specs.Forged.{Entry, HasMade}
use Rattle.nys_rules.specs.Packets.{Given, Sent}
use Rattle.nys_rules.specs.World.{Setting, World}
use Rattle.nys_rules.proofs.CertificateLemmas.{both_true, not_equal}
use Rattle.nys_laws.proofs.LiveLemmas.{not_true}
use Rattle.nys_follows.proofs.FeedingWorlds.{low_or_not}
use Rattle.nys_evidence.proofs.TakeKeeping.{IsTaken, StayIn}

-- the world has these takings, packets, bytes and statements
pub record HasAll (takes : List Take) (pool : List Sent) (injected : List Given) (ledger : List Entry) (z : World) : Type 0 where
  pub told : StayIn takes z.takes
  pub packets : (k : ℕ) (p : Sent) → slice_get pool k ≡ Some p → slice_get z.pool k ≡ Some p
  pub bytes : StayIn injected z.injected
  pub made : (g : ℕ) (s : Statement) → HasMade ledger g s → HasMade z.ledger g s

-- the world z has all of those of the world w
abbrev pub Reaches : World → World → Type 0
Reaches w z = HasAll w.takes w.pool w.injected w.ledger z

-- a world has its own
pub reaches_itself : (w : World) → Reaches w w
reaches_itself w = record {
  told = λ x among. among;
  packets = λ k p is. is;
  bytes = λ x among. among;
  made = λ g s has. has;
}

-- what is left of a list by a test was in the list
pub in_list : {A : Type 0} (test : A → Bool) (xs : List A) (x : A) → Contains (filter test xs) x → Contains xs x
in_list test [] x among = among
in_list {A} test (y ∷ ys) x among = by (test y) among (λ rest. in_list test ys x rest)
  where
    later : Contains ys x → Contains (y ∷ ys) x
    later rest = (suc rest.0, omega (arith, rest.1), rest.2)

    by : (b : Bool) → Contains (cond b (y ∷ filter test ys) (filter test ys)) x
        → (Contains (filter test ys) x → Contains ys x) → Contains (y ∷ ys) x
    by true (zero, lt, at) rest = (zero, omega arith, at)
    by true (suc n, lt, at) rest = later (rest (n, omega (arith, lt), at))
    by false among rest = later (rest among)

-- a frame of a take is the same in a later world
frame_stays : (w z : World) (take : Take) (k : Option ℕ) (frame : List ℕ) → Reaches w z
    → IsFrameOf w take k frame → IsFrameOf z take k frame
frame_stays w z take (Some k) frame reach has = (has.0, reach.packets k has.0 has.1, has.2)
frame_stays w z take None frame reach has =
    reach.bytes (record { event = take.event; to = take.to; frame = frame }) has

-- what a taker accepts: another maker's tags that verify
record IsAcceptedTag {S : Type 0} (setting : Setting S) (g : ℕ) (r : Record) (t : Tags) : Type 0 where
  other : t.maker ≢ g
  among : Contains r.makers t
  verified : verifies setting.scope g r.statement t ≡ true

accepted_tag : {S : Type 0} (setting : Setting S) (g : ℕ) (r : Record) (t : Tags)
    → Contains (accepted setting.scope r.statement.epoch g r) t → IsAcceptedTag setting g r t
unfolding accepted accepts
accepted_tag setting g r t among =
    let test = accepts setting.scope r.statement.epoch g r.statement in
    let passed = All-contains (λ x. test x ≡ true) (filter test r.makers) t (filter_passes test r.makers) among in
    let first = both_true (not (t.maker == g)) _ passed in
    record {
      other = not_equal t.maker g (not_true (t.maker == g) first.0);
      among = in_list test r.makers t among;
      verified = (both_true (permits setting.scope r.statement.epoch r.statement.body t.maker) _ first.1).1;
    }

-- each maker that the taker of a record accepts is seen
pub seen_of : {S : Type 0} (setting : Setting S) (w z : World) (g : ℕ) (r : Record) → Reaches w z → IsTaken w g r
    → (t : Tags) → Contains (accepted setting.scope r.statement.epoch g r) t → IsSeen setting z g r.statement t.maker
seen_of setting w z g r reach taken t among =
    let tag = accepted_tag setting g r t among in
    record {
      other = tag.other;
      take = taken.take;
      told = reach.told taken.take taken.told;
      taker = taken.taker;
      kept = taken.kept;
      frame = taken.frame;
      frame_is = frame_stays w z taken.take taken.take.packet taken.frame reach taken.frame_is;
      r = r;
      reads = taken.reads;
      says = refl;
      tags = t;
      among = tag.among;
      maker_is = refl;
      verified = tag.verified;
    }

-- who passes one test and fails another
passes_alone : (a c : Bool) → a ≡ true → c ≡ false → (a && not c) ≡ true
passes_alone true false p q = refl
passes_alone true true p q = absurd (cc)
passes_alone false c p q = absurd (cc)

-- who passes both
passes_both : (a c : Bool) → c ≡ true → (a && not c) ≡ false
passes_both true true p = refl
passes_both false true p = refl
passes_both a false p = absurd (cc)

-- the one test or the other
one_test : (a b : Bool) → a ≡ true → (a || b) ≡ true
one_test true b p = refl
one_test false b p = absurd (cc)

other_test : (a b : Bool) → b ≡ true → (a || b) ≡ true
other_test true b p = refl
other_test false true p = refl
other_test false false p = absurd (cc)

-- all makers but one are at most one fewer
one_fewer : (makers : ℕ → Bool) (x : ℕ) → hosts_with makers ≤ 1 + hosts_with (λ m. makers m && not (m == x))
one_fewer makers x = by (low_or_not x 32)
  where
    others : ℕ → Bool
    others m = makers m && not (m == x)

    covered : (m : ℕ) → makers m ≡ true → ((x == m) || others m) ≡ true
    covered m is = elim (cases_eq m x) [
      | inl same ↦ one_test (x == m) (others m) (eq-eqb x m (sym same))
      | inr other ↦ other_test (x == m) (others m) (passes_alone (makers m) (m == x) is (ne_eqb m x other))
    ]

    by : (x < 32) ⊎ (32 ≤ x) → hosts_with makers ≤ 1 + hosts_with others
    by (inl low) =
        let more = hosts_with-more others x low (passes_both (makers x) (x == x) (eq-eqb x x refl)) in
        let within = hosts_with-within makers (λ h. (x == h) || others h) (λ h lt is. covered h is) in
        omega (arith, more, within)
    by (inr high) =
        let within = hosts_with-within makers others
        (λ h lt is.
        passes_alone (makers h) (h == x) is (ne_eqb h x (λ same. absurd (omega (arith, lt, high, same))))) in
        omega (arith, within)

-- of makers of which each is one party or has another fact, all but one have it
pub all_but_one : (n x : ℕ) (P Q : ℕ → Type 0) → ((m : ℕ) → P m → (m ≡ x) ⊎ Q m) → AtLeast n P → AtLeast (n - 1) Q
all_but_one n x P Q split some = record {
  makers = λ m. some.makers m && not (m == x);
  each = λ m is.
      let both = both_true (some.makers m) (not (m == x)) is in
      elim (split m (some.each m both.0)) [
        | inl same ↦ absurd (not_equal m x (not_true (m == x) both.1) same)
        | inr fact ↦ fact
      ];
  enough = let all = some.enough in let less = one_fewer some.makers x in omega (arith, all, less);
}
