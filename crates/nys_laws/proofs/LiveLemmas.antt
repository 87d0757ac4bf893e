-- What the tests of a view tell: that a host is live, that its slot is open, that its links are attested.
use Rattle.std.proofs.Common.{◌≡◌, ℕ, ◌<◌, ◌==◌, ◌&&◌, ◌||◌, Bool, true, false, refl, arith, leb-true}
use Rattle.std.specs.Prelude.{nat_lt, not}
use Rattle.std.proofs.lemmas.Bool.Decides.{Decides-ltb}
use Rattle.nys_rules.specs.Scope.{olympus, Scope}
use Rattle.nys_rules.specs.View.{has_reached, is_attesting, is_live, is_open, length_of, View}
use Rattle.nys_rules.specs.World.{is_honest, Setting}
use Rattle.nys_rules.proofs.CertificateLemmas.{both_true}
use Rattle.nys_laws.specs.Grounds.{IsLiveAt, IsOpenAt}
use Rattle.nys_laws.specs.SetUp.{AreHosts}
use Rattle.nys_laws.specs.Vouched.{GuardsLink}

-- what is not true is false
pub not_true : (b : Bool) → not b ≡ true → b ≡ false
not_true true e = absurd (cc)
not_true false e = refl

-- a host that is live
pub live_is : {S : Type 0} (scope : Scope S) (v : View) (h : ℕ) → is_live scope v h ≡ true
    → IsLiveAt scope v h
unfolding is_live
live_is scope v h e =
    let first = both_true (nat_lt h scope.rules.hosts) (scope.guards v.epoch h v.me && not (v.retired h)) e in
    let rest = both_true (scope.guards v.epoch h v.me) (not (v.retired h)) first.1 in
    record {
      host = (Decides-ltb h scope.rules.hosts).0 first.0;
      guard = rest.0;
      lives = not_true (v.retired h) rest.1;
    }

-- a slot that is open
pub open_is : {S : Type 0} (scope : Scope S) (v : View) (h : ℕ) → is_open scope v h ≡ true
    → IsOpenAt scope v h
unfolding is_open
open_is scope v h e =
    let room = nat_lt (length_of v h) 1024 in
    let first = both_true (is_live scope v h) (not v.wedged && (has_reached v h && room)) e in
    let second = both_true (not v.wedged) (has_reached v h && room) first.1 in
    let third = both_true (has_reached v h) room second.1 in
    record {
      live = live_is scope v h first.0;
      active = not_true v.wedged second.0;
      reached = leb-true (v.base h) (length_of v h) third.0;
      room = (Decides-ltb (length_of v h) 1024).0 third.1;
    }

-- a link that is attested
pub attesting_is : {S : Type 0} (scope : Scope S) (v : View) (p h : ℕ)
    → is_attesting scope v p h ≡ true
    → GuardsLink scope v.epoch p h v.me
unfolding is_attesting
attesting_is scope v p h e =
    let both = is_live scope v p && is_live scope v h in
    let first = (both_true (scope.rules.linked p h && both) (has_reached v p && has_reached v h) e).0 in
    let lives = both_true (is_live scope v p) (is_live scope v h)
    (both_true (scope.rules.linked p h) both first).1 in
    let sender = live_is scope v p lives.0 in
    let host = live_is scope v h lives.1 in
    record { sender = sender.host; of_sender = sender.guard; of_host = host.guard }

-- a host that is no liar is honest
honest_test : (a b c : Bool) → b ≡ true → c ≡ false → (a || (b && not c)) ≡ true
honest_test true b c p q = refl
honest_test false true true p q = absurd (cc)
honest_test false true false p q = refl
honest_test false false c p q = absurd (cc)

-- so is each guard
pub honest_guard : {S : Type 0} (setting : Setting S) → AreHosts setting.scope → (e h m : ℕ)
    → setting.scope.guards e h m ≡ true → setting.liars m ≡ false → is_honest setting m ≡ true
honest_guard setting hosts e h m guard honest =
    honest_test (m == olympus) (nat_lt m setting.scope.rules.hosts) (setting.liars m)
    ((Decides-ltb m setting.scope.rules.hosts).1 (hosts.guards e h m guard)) honest

-- a guard is no Olympus
pub low_guard : {S : Type 0} (setting : Setting S) → AreHosts setting.scope → (e h m : ℕ)
    → setting.scope.guards e h m ≡ true → m < olympus
low_guard setting hosts e h m guard =
    let a = hosts.guards e h m guard in let b = hosts.few in omega (arith, a, b)

-- so is each host of the protocol
pub honest_host : {S : Type 0} (setting : Setting S) (h : ℕ) → h < setting.scope.rules.hosts
    → setting.liars h ≡ false → is_honest setting h ≡ true
honest_host setting h low honest =
    honest_test (h == olympus) (nat_lt h setting.scope.rules.hosts) (setting.liars h)
    ((Decides-ltb h setting.scope.rules.hosts).1 low) honest
