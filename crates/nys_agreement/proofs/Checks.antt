-- Tests of what may happen: where one passes, the event may happen. Examples are computed by them.
use Rattle.std.proofs.Common.{◌≡◌, ℕ, zero, suc, ◌+◌, ◌<◌, ◌≤◌, ◌⊎◌, ℤ, List, [], ◌∷◌, length, refl, sym, ap, ap₂, subst, inl, inr, true, false, not, ◌&&◌, ◌||◌, arith, Some, None, eq-eqb}
use Rattle.std.specs.Prelude.{Bool, slice_get, Option, nat_eq, nat_lt, nat_le}
use Rattle.std.specs.Ordering.{int_eq}
use Rattle.std.proofs.lemmas.Bool.{cases_order, eqb-true, le-leb, leb-true, ltb-true, not-true}
use Rattle.std.proofs.lemmas.Bool.Decides.{Decides-int_eq}
use Rattle.nys_bytes.specs.declared.content.Content.{Content}
use Rattle.nys_bytes.specs.declared.content.Content.TheVariants.{External, Message}
use Rattle.nys_hosts.specs.Counts.{AtLeast, hosts_with}
use Rattle.nys_source.specs.Rules.{Rules}
use Rattle.nys_agreement.specs.Net.{Net, quorum_in}
use Rattle.nys_agreement.specs.Said.{AttestsBoth, By, FrozeBy, Has, Made, Said, Vouches}
use Rattle.nys_agreement.specs.Said.Said.{Attest, Deliver, Frozen, Offer, Order, Report}
use Rattle.nys_agreement.specs.Alone.{alone, Fits}
use Rattle.nys_agreement.specs.Assembly.{Assembly}
use Rattle.nys_agreement.specs.Events.{Enabled, Event, IsCandidate, IsNext, IsOpen, MayDecide, MaySay}
use Rattle.nys_agreement.specs.Events.Event.{Decides, Enters, Hands, Inherits, Logs, Opens, Retires, Says, TopWedges, Wedges}
use Rattle.nys_agreement.specs.After.{after, Follows}

-- both tests pass
both : {x y : Bool} → (x && y) ≡ true → (x ≡ true) × (y ≡ true)
both {x = true} {y = true} e = (refl, refl)
both {x = true} {y = false} e = absurd (cc)
both {x = false} {y} e = absurd (cc)

-- one of two tests passes
either : {x y : Bool} → (x || y) ≡ true → (x ≡ true) ⊎ (y ≡ true)
either {x = true} {y} e = inl refl
either {x = false} {y} e = inr e

-- the second passes where the first doesn't
or_else : (x y : Bool) → (x || y) ≡ true → x ≡ false → y ≡ true
or_else true y e never = absurd (cc)
or_else false y e never = e

-- both are the same payload
abbrev same_payload : List ℤ → List ℤ → Bool
same_payload [] [] = true
same_payload (x ∷ xs) (y ∷ ys) = int_eq x y && same_payload xs ys
same_payload _ _ = false

-- payloads that pass are the same
payload_is : (xs ys : List ℤ) → same_payload xs ys ≡ true → xs ≡ ys
payload_is [] [] e = refl
payload_is [] (y ∷ ys) e = absurd (cc)
payload_is (x ∷ xs) [] e = absurd (cc)
payload_is (x ∷ xs) (y ∷ ys) e =
    let b = both e in
    ap₂ (λ (z : ℤ) (zs : List ℤ). z ∷ zs) ((Decides-int_eq x y).0 b.0) (payload_is xs ys b.1)

-- both are the same content
abbrev same_content : Content → Content → Bool
same_content (External x) (External y) = same_payload x y
same_content (Message p k x) (Message q n y) = nat_eq p q && (nat_eq k n && same_payload x y)
same_content _ _ = false

-- contents that pass are the same
content_is : (c d : Content) → same_content c d ≡ true → c ≡ d
content_is (External x) (External y) e = ap External (payload_is x y e)
content_is (Message p k x) (Message q n y) e =
    let a = both e in
    let b = both a.1 in
    let p_is = eqb-true p q a.0 in
    let k_is = eqb-true k n b.0 in
    let x_is = payload_is x y b.1 in
    cc
content_is (External x) (Message p k y) e = absurd (cc)
content_is (Message p k x) (External y) e = absurd (cc)

-- the numbers and the content of a statement are these
abbrev same_place : ℕ → ℕ → ℕ → ℕ → ℕ → ℕ → Bool
same_place e h s f i r = nat_eq e f && (nat_eq h i && nat_eq s r)

-- numbers that pass are the same
place_is : (e h s f i r : ℕ) → same_place e h s f i r ≡ true → (e ≡ f) × (h ≡ i) × (s ≡ r)
place_is e h s f i r q = let a = both q in let b = both a.1 in (eqb-true e f a.0, eqb-true h i b.0, eqb-true s r b.1)

-- both are the same statement
abbrev same_said : Said → Said → Bool
same_said (Offer e h s c) (Offer f i r d) = same_place e h s f i r && same_content c d
same_said (Order e h s c) (Order f i r d) = same_place e h s f i r && same_content c d
same_said (Deliver e h s c) (Deliver f i r d) = same_place e h s f i r && same_content c d
same_said (Report e h s c) (Report f i r d) = same_place e h s f i r && same_content c d
same_said (Attest e p h k x) (Attest f q i n y) = same_place e p h f q i && (nat_eq k n && same_payload x y)
same_said (Frozen e h at) (Frozen f i to) = same_place e h at f i to
same_said _ _ = false

-- statements that pass are the same
said_is : (a b : Said) → same_said a b ≡ true → a ≡ b
said_is (Offer e h s c) (Offer f i r d) q = let a = both q in let b = place_is e h s f i r a.0 in let x = b.0 in let y = b.1 in let z = b.2 in let same = content_is c d a.1 in cc
said_is (Order e h s c) (Order f i r d) q = let a = both q in let b = place_is e h s f i r a.0 in let x = b.0 in let y = b.1 in let z = b.2 in let same = content_is c d a.1 in cc
said_is (Deliver e h s c) (Deliver f i r d) q = let a = both q in let b = place_is e h s f i r a.0 in let x = b.0 in let y = b.1 in let z = b.2 in let same = content_is c d a.1 in cc
said_is (Report e h s c) (Report f i r d) q = let a = both q in let b = place_is e h s f i r a.0 in let x = b.0 in let y = b.1 in let z = b.2 in let same = content_is c d a.1 in cc
said_is (Attest e p h k v) (Attest f q i n u) t =
    let a = both t in
    let b = place_is e p h f q i a.0 in
    let d = both a.1 in
    let x = b.0 in
    let y = b.1 in
    let z = b.2 in
    let k_is = eqb-true k n d.0 in
    let same = payload_is v u d.1 in
    cc
said_is (Frozen e h at) (Frozen f i to) q = let b = place_is e h at f i to q in let x = b.0 in let y = b.1 in let z = b.2 in cc
said_is _ _ q = absurd (cc)

-- the ledger has the statement of the party
abbrev pub has : List Made → ℕ → Said → Bool
has [] m said = false
has (By x other ∷ rest) m said = (nat_eq x m && same_said other said) || has rest m said

-- a ledger that passes has it
pub has_is : (ledger : List Made) (m : ℕ) (said : Said) → has ledger m said ≡ true → Has ledger (By m said)
has_is [] m said e = absurd (cc)
has_is (By x other ∷ rest) m said e = elim (either e) [
  | inl a ↦ let b = both a in let who = eqb-true x m b.0 in let what = said_is other said b.1 in inl (cc)
  | inr a ↦ inr (has_is rest m said a)
]

-- the party made no statement of a kind
abbrev none : (Said → Bool) → List Made → ℕ → Bool
none test [] m = true
none test (By x other ∷ rest) m = not (nat_eq x m && test other) && none test rest m

-- where that passes, each statement of the kind is not in the ledger
none_is : (test : Said → Bool) (ledger : List Made) (m : ℕ) → none test ledger m ≡ true → (said : Said) → test said ≡ true → Has ledger (By m said) → ⊥
none_is test [] m e said t made = made
none_is test (By x other ∷ rest) m e said t (inr made) = none_is test rest m (both {x = not (nat_eq x m && test other)} {y = none test rest m} e).1 said t made
none_is test (By x other ∷ rest) m e said t (inl made) =
    let who : x ≡ m = cc in
    let what : other ≡ said = cc in
    let never = (both {x = not (nat_eq x m && test other)} {y = none test rest m} e).0 in
    let yes : not (nat_eq x m && test other) ≡ false = rw (eq-eqb x m who, what, t) refl in
    absurd (cc)

-- an Offer for the slot
abbrev is_offer : ℕ → ℕ → ℕ → Said → Bool
is_offer e h s (Offer f i r c) = same_place f i r e h s
is_offer e h s _ = false

-- an Order for the slot
abbrev is_order : ℕ → ℕ → ℕ → Said → Bool
is_order e h s (Order f i r c) = same_place f i r e h s
is_order e h s _ = false

-- a Deliver for the slot
abbrev is_deliver : ℕ → ℕ → ℕ → Said → Bool
is_deliver e h s (Deliver f i r c) = same_place f i r e h s
is_deliver e h s _ = false

-- a Deliver for the host in a slot at or past f
abbrev is_late : ℕ → ℕ → ℕ → Said → Bool
is_late e h f (Deliver l i s c) = nat_eq l e && (nat_eq i h && nat_le f s)
is_late e h f _ = false

-- numbers are the same as themselves
own_place : (e h s : ℕ) → same_place e h s e h s ≡ true
own_place e h s = rw (eq-eqb e e refl, eq-eqb h h refl, eq-eqb s s refl) refl

-- counts of makers
at_least : (P : ℕ → Type 0) (n : ℕ) (test : ℕ → Bool) → nat_le n (hosts_with test) ≡ true → ((m : ℕ) → test m ≡ true → P m) → AtLeast n P
at_least P n test e each = record { makers = test; each = each; enough = leb-true n (hosts_with test) e }

-- a guard that lies or said it
abbrev vouches : Net → List Made → ℕ → ℕ → Said → ℕ → Bool
vouches net ledger e h said m = net.guards e h m && (net.liars m || has ledger m said)

-- a guard that passes vouches
vouches_is : (net : Net) (ledger : List Made) (e h : ℕ) (said : Said) (m : ℕ) → vouches net ledger e h said m ≡ true → Vouches net ledger e h said m
vouches_is net ledger e h said m q = let b = both q in (b.0, λ honest. has_is ledger m said (or_else (net.liars m) (has ledger m said) b.1 honest))

-- a guard of both that lies or attests the payload
abbrev attests : Net → List Made → ℕ → ℕ → ℕ → ℕ → List ℤ → ℕ → Bool
attests net ledger e p h k payload m = net.guards e h m && (net.guards e p m && (net.liars m || has ledger m (Attest e p h k payload)))

-- a guard that passes attests it
attests_is : (net : Net) (ledger : List Made) (e p h k : ℕ) (payload : List ℤ) (m : ℕ) → attests net ledger e p h k payload m ≡ true → AttestsBoth net ledger e p h k payload m
attests_is net ledger e p h k payload m q =
    let a = both q in
    let b = both a.1 in
    (a.0, b.0, λ honest. has_is ledger m (Attest e p h k payload) (or_else (net.liars m) (has ledger m (Attest e p h k payload)) b.1 honest))

-- the party is frozen at a slot or before
abbrev frozen_at : List Made → ℕ → ℕ → ℕ → ℕ → Bool
frozen_at [] m e h f = false
frozen_at (By x (Frozen l i at) ∷ rest) m e h f = (nat_eq x m && (nat_eq l e && (nat_eq i h && nat_le at f))) || frozen_at rest m e h f
frozen_at (By x _ ∷ rest) m e h f = frozen_at rest m e h f

-- a party that passes said so
frozen_is : (ledger : List Made) (m e h f : ℕ) → frozen_at ledger m e h f ≡ true → (at : ℕ) × (at ≤ f) × Has ledger (By m (Frozen e h at))
frozen_is [] m e h f q = absurd (cc)
frozen_is (By x (Frozen l i at) ∷ rest) m e h f q = elim (either q) [
  | inl a ↦
      let b = both a in
      let c = both b.1 in
      let d = both c.1 in
      let who = eqb-true x m b.0 in
      let epoch = eqb-true l e c.0 in
      let host = eqb-true i h d.0 in
      (at, leb-true at f d.1, inl (cc))
  | inr a ↦ let r = frozen_is rest m e h f a in (r.0, r.1, inr r.2)
]
frozen_is (By x _ ∷ rest) m e h f q = let r = frozen_is rest m e h f q in (r.0, r.1, inr r.2)

-- a guard that lies or is frozen there
abbrev froze : Net → List Made → ℕ → ℕ → ℕ → ℕ → Bool
froze net ledger e h f m = net.guards e h m && (net.liars m || frozen_at ledger m e h f)

-- a guard that passes is frozen
froze_is : (net : Net) (ledger : List Made) (e h f m : ℕ) → froze net ledger e h f m ≡ true → FrozeBy net ledger e h f m
froze_is net ledger e h f m q = let b = both q in (b.0, λ honest. frozen_is ledger m e h f (or_else (net.liars m) (frozen_at ledger m e h f) b.1 honest))

-- open slots, candidates, next contents
abbrev is_open : ℕ → Net → Assembly → ℕ → ℕ → ℕ → ℕ → Bool
is_open hosts net w g e h s = nat_lt h hosts && (net.guards e h g && (not (net.liars g) && (nat_eq (w.epoch g) e && (not (w.wedged g) && (w.live e h && (nat_eq (length (w.log g h)) s && nat_le (w.base e h) s))))))

-- a slot that passes is open
open_is : (hosts : ℕ) (net : Net) (w : Assembly) (g e h s : ℕ) → is_open hosts net w g e h s ≡ true → IsOpen hosts net w g e h s
open_is hosts net w g e h s q =
    let a = both q in
    let b = both a.1 in
    let c = both b.1 in
    let d = both c.1 in
    let f = both d.1 in
    let i = both f.1 in
    let j = both i.1 in
    record {
      host = ltb-true h hosts a.0;
      guard = b.0;
      honest = not-true (net.liars g) c.0;
      now = eqb-true (w.epoch g) e d.0;
      active = not-true (w.wedged g) f.0;
      lives = i.0;
      length_is = eqb-true (length (w.log g h)) s j.0;
      above_base = leb-true (w.base e h) s j.1;
    }

-- there is such a payload
abbrev some_payload : Option (List ℤ) → List ℤ → Bool
some_payload None x = false
some_payload (Some y) x = same_payload y x

-- what passes is there
some_payload_is : (found : Option (List ℤ)) (x : List ℤ) → some_payload found x ≡ true → found ≡ Some x
some_payload_is None x e = absurd (cc)
some_payload_is (Some y) x e = ap Some (payload_is y x e)

-- there is such a content
abbrev some_content : Option Content → Content → Bool
some_content None c = false
some_content (Some d) c = same_content d c

-- what passes is there
some_content_is : (found : Option Content) (c : Content) → some_content found c ≡ true → found ≡ Some c
some_content_is None c e = absurd (cc)
some_content_is (Some d) c e = ap Some (content_is d c e)

-- a message, or the oldest input that waits
abbrev candidate : List (List ℤ) → Content → Bool
candidate waiting (External payload) = some_payload (slice_get waiting 0) payload
candidate waiting (Message p k payload) = true

-- a content that passes may be offered
candidate_is : (waiting : List (List ℤ)) (c : Content) → candidate waiting c ≡ true → IsCandidate waiting c
candidate_is waiting (External payload) e = some_payload_is (slice_get waiting 0) payload e
candidate_is waiting (Message p k payload) e = tt

-- a content that comes next in the log
abbrev fits : {S : Type 0} → Rules S → ℕ → List Content → Content → Bool
fits rules h log (External payload) = true
fits rules h log (Message p k payload) = nat_lt p rules.hosts && (rules.linked p h && nat_eq k ((alone rules h log).received p h))

-- a content that passes fits
fits_is : {S : Type 0} (rules : Rules S) (h : ℕ) (log : List Content) (c : Content) → fits rules h log c ≡ true → Fits rules h log c
fits_is rules h log (External payload) e = tt
fits_is rules h log (Message p k payload) e =
    let a = both e in
    let b = both a.1 in
    (ltb-true p rules.hosts a.0, b.0, eqb-true k ((alone rules h log).received p h) b.1)

-- a content that fits and is attested
abbrev next : {S : Type 0} → Rules S → Net → Assembly → ℕ → ℕ → ℕ → Content → Bool
next rules net w g e h (External payload) = true
next rules net w g e h (Message p k payload) = fits rules h (w.log g h) (Message p k payload) && nat_le (net.t e p + 1) (hosts_with (attests net w.ledger e p h k payload))

-- a content that passes may be ordered
next_is : {S : Type 0} (rules : Rules S) (net : Net) (w : Assembly) (g e h : ℕ) (c : Content) → next rules net w g e h c ≡ true → IsNext rules net w g e h c
next_is rules net w g e h (External payload) q = tt
next_is rules net w g e h (Message p k payload) q =
    let a = both q in (
      fits_is rules h (w.log g h) (Message p k payload) a.0,
      at_least (AttestsBoth net w.ledger e p h k payload) (net.t e p + 1) (attests net w.ledger e p h k payload) a.1 (attests_is net w.ledger e p h k payload),
    )

-- a Deliver at or past f is found
late : (e h f s : ℕ) (c : Content) → f ≤ s → is_late e h f (Deliver e h s c) ≡ true
late e h f s c le = rw (eq-eqb e e refl, eq-eqb h h refl, le-leb f s le) refl

-- a quorum of Orders; the second way to a Deliver is not tested
abbrev may_say : {S : Type 0} → Rules S → Net → Assembly → ℕ → Said → Bool
may_say rules net w g (Offer e h s c) = is_open rules.hosts net w g e h s && (nat_eq g h && (none (is_offer e h s) w.ledger g && candidate (w.waiting h) c))
may_say rules net w g (Order e h s c) = is_open rules.hosts net w g e h s && (none (is_order e h s) w.ledger g && ((net.liars h || has w.ledger h (Offer e h s c)) && next rules net w g e h c))
may_say rules net w g (Deliver e h s c) = is_open rules.hosts net w g e h s && (none (is_deliver e h s) w.ledger g && nat_le (quorum_in net e h) (hosts_with (vouches net w.ledger e h (Order e h s c))))
may_say rules net w g (Attest e p h k payload) = not (net.liars g) && some_payload (slice_get ((alone rules p (w.log g p)).sent p h) k) payload
may_say rules net w g (Report e h s c) = not (net.liars g) && (nat_eq (w.epoch g) e && (w.wedged g && (w.live e h && (nat_le (w.base e h) s && has w.ledger g (Deliver e h s c)))))
may_say rules net w g (Frozen e h f) = not (net.liars g) && (nat_eq (w.epoch g) e && (w.wedged g && none (is_late e h f) w.ledger g))

-- what passes may be said
may_say_is : {S : Type 0} (rules : Rules S) (net : Net) (w : Assembly) (g : ℕ) (said : Said) → may_say rules net w g said ≡ true → MaySay rules net w g said
may_say_is rules net w g (Offer e h s c) q =
    let a = both q in
    let b = both a.1 in
    let d = both b.1 in
    (open_is rules.hosts net w g e h s a.0, eqb-true g h b.0, λ other. none_is (is_offer e h s) w.ledger g d.0 (Offer e h s other) (own_place e h s), candidate_is (w.waiting h) c d.1)
may_say_is rules net w g (Order e h s c) q =
    let a = both q in
    let b = both a.1 in
    let d = both b.1 in (
      open_is rules.hosts net w g e h s a.0,
      λ other. none_is (is_order e h s) w.ledger g b.0 (Order e h s other) (own_place e h s),
      λ honest. has_is w.ledger h (Offer e h s c) (or_else (net.liars h) (has w.ledger h (Offer e h s c)) d.0 honest),
      next_is rules net w g e h c d.1,
    )
may_say_is rules net w g (Deliver e h s c) q =
    let a = both q in
    let b = both a.1 in (
      open_is rules.hosts net w g e h s a.0,
      λ other. none_is (is_deliver e h s) w.ledger g b.0 (Deliver e h s other) (own_place e h s),
      inl (at_least (Vouches net w.ledger e h (Order e h s c)) (quorum_in net e h) (vouches net w.ledger e h (Order e h s c)) b.1 (vouches_is net w.ledger e h (Order e h s c))),
    )
may_say_is rules net w g (Attest e p h k payload) q =
    let a = both q in
    (not-true (net.liars g) a.0, some_payload_is (slice_get ((alone rules p (w.log g p)).sent p h) k) payload a.1)
may_say_is rules net w g (Report e h s c) q =
    let a = both q in
    let b = both a.1 in
    let d = both b.1 in
    let f = both d.1 in
    let i = both f.1 in
    (not-true (net.liars g) a.0, eqb-true (w.epoch g) e b.0, d.0, f.0, leb-true (w.base e h) s i.0, inr (has_is w.ledger g (Deliver e h s c) i.1))
may_say_is rules net w g (Frozen e h f) q =
    let a = both q in
    let b = both a.1 in
    let d = both b.1 in
    (not-true (net.liars g) a.0, eqb-true (w.epoch g) e b.0, d.0, λ s c made. early e h f s c (none_is (is_late e h f) w.ledger g d.1 (Deliver e h s c)) made)
  where
    early : {P : Type 0} (e h f s : ℕ) (c : Content) → (is_late e h f (Deliver e h s c) ≡ true → P → ⊥) → P → s < f
    early e h f s c never made = elim (cases_order s f) [
      | inl same ↦ absurd (never (late e h f s c (omega arith)) made)
      | inr (inl lt) ↦ lt
      | inr (inr gt) ↦ absurd (never (late e h f s c (omega arith)) made)
    ]

-- decisions and openings
abbrev supported : Net → List Made → ℕ → ℕ → ℕ → List Content → Bool
supported net ledger e h s [] = true
supported net ledger e h s (c ∷ more) = nat_le (net.t e h + 1) (hosts_with (vouches net ledger e h (Report e h s c))) && supported net ledger e h (s + 1) more

-- each entry of a list that passes is reported by enough
supported_is : (net : Net) (ledger : List Made) (e h s : ℕ) (more : List Content) → supported net ledger e h s more ≡ true → (i : ℕ) (c : Content) → slice_get more i ≡ Some c → AtLeast (net.t e h + 1) (Vouches net ledger e h (Report e h (s + i) c))
supported_is net ledger e h s [] q i c get = absurd (cc)
supported_is net ledger e h s (d ∷ more) q zero c get =
    let same : d ≡ c = cc in
    let at : s + 0 ≡ s = omega arith in
    rw (at, sym same) (at_least (Vouches net ledger e h (Report e h s d)) (net.t e h + 1) (vouches net ledger e h (Report e h s d)) (both q).0 (vouches_is net ledger e h (Report e h s d)))
supported_is net ledger e h s (d ∷ more) q (suc i) c get =
    let at : s + suc i ≡ s + 1 + i = omega arith in
    rw at (supported_is net ledger e h (s + 1) more (both q).1 i c get)

-- the contents may be decided
abbrev may_decide : Net → Assembly → ℕ → List Content → Bool
may_decide net w h more = w.top_wedged && (not (w.decided_now h) && (not (w.retired h) && (w.live w.top h && (supported net w.ledger w.top h (length (w.decided h)) more && nat_le (quorum_in net w.top h) (hosts_with (froze net w.ledger w.top h (length (w.decided h) + length more)))))))

-- contents that pass may be decided
may_decide_is : (net : Net) (w : Assembly) (h : ℕ) (more : List Content) → may_decide net w h more ≡ true → MayDecide net w h more
may_decide_is net w h more q =
    let a = both q in
    let b = both a.1 in
    let c = both b.1 in
    let d = both c.1 in
    let f = both d.1 in
    let at = length (w.decided h) + length more in
    record {
      ending = a.0;
      open_still = not-true (w.decided_now h) b.0;
      kept = not-true (w.retired h) c.0;
      lives = d.0;
      supported = supported_is net w.ledger w.top h (length (w.decided h)) more f.0;
      frozen = at_least (FrozeBy net w.ledger w.top h at) (quorum_in net w.top h) (froze net w.ledger w.top h at) f.1 (froze_is net w.ledger w.top h at);
    }

-- each host below n is decided or given up
abbrev all_done : Assembly → ℕ → Bool
all_done w zero = true
all_done w (suc n) = (w.decided_now n || w.retired n) && all_done w n

-- where that passes, each is
all_done_is : (w : Assembly) (n : ℕ) → all_done w n ≡ true → (h : ℕ) → h < n → (w.decided_now h ≡ true) ⊎ (w.retired h ≡ true)
all_done_is w zero q h lt = absurd (omega arith)
all_done_is w (suc n) q h lt = elim (cases_order h n) [
  | inl same ↦ subst (λ i. (w.decided_now i ≡ true) ⊎ (w.retired i ≡ true)) (sym same) (either (both q).0)
  | inr (inl below) ↦ all_done_is w n (both q).1 h below
  | inr (inr above) ↦ absurd (omega arith)
]

-- the event may happen
abbrev allowed : {S : Type 0} → Rules S → Net → Assembly → Event → Bool
allowed rules net w (Says g said) = may_say rules net w g said
allowed rules net w (Logs g h c) = is_open rules.hosts net w g (w.epoch g) h (length (w.log g h)) && (nat_le (quorum_in net (w.epoch g) h) (hosts_with (vouches net w.ledger (w.epoch g) h (Deliver (w.epoch g) h (length (w.log g h)) c))) && fits rules h (w.log g h) c)
allowed rules net w (Wedges g) = not (net.liars g)
allowed rules net w (Enters g e) = not (net.liars g) && (nat_lt (w.epoch g) e && nat_le e w.top)
allowed rules net w (Inherits g h c) = not (net.liars g) && (nat_lt (length (w.log g h)) (w.base (w.epoch g) h) && some_content (slice_get (w.decided h) (length (w.log g h))) c)
allowed rules net w (Hands h payload) = true
allowed rules net w TopWedges = true
allowed rules net w (Decides h more) = may_decide net w h more
allowed rules net w (Retires h) = w.top_wedged && (not (w.decided_now h) && not (w.retired h))
allowed rules net w Opens = w.top_wedged && all_done w rules.hosts

-- an event that passes may happen
allowed_is : {S : Type 0} (rules : Rules S) (net : Net) (w : Assembly) (event : Event) → allowed rules net w event ≡ true → Enabled rules net w event
allowed_is rules net w (Says g said) q = may_say_is rules net w g said q
allowed_is rules net w (Logs g h c) q =
    let a = both q in
    let b = both a.1 in
    let said = Deliver (w.epoch g) h (length (w.log g h)) c in (
      open_is rules.hosts net w g (w.epoch g) h (length (w.log g h)) a.0,
      at_least (Vouches net w.ledger (w.epoch g) h said) (quorum_in net (w.epoch g) h) (vouches net w.ledger (w.epoch g) h said) b.0 (vouches_is net w.ledger (w.epoch g) h said),
      fits_is rules h (w.log g h) c b.1,
    )
allowed_is rules net w (Wedges g) q = not-true (net.liars g) q
allowed_is rules net w (Enters g e) q = let a = both q in let b = both a.1 in (not-true (net.liars g) a.0, ltb-true (w.epoch g) e b.0, leb-true e w.top b.1)
allowed_is rules net w (Inherits g h c) q =
    let a = both q in
    let b = both a.1 in
    (not-true (net.liars g) a.0, ltb-true (length (w.log g h)) (w.base (w.epoch g) h) b.0, some_content_is (slice_get (w.decided h) (length (w.log g h))) c b.1)
allowed_is rules net w (Hands h payload) q = tt
allowed_is rules net w TopWedges q = tt
allowed_is rules net w (Decides h more) q = may_decide_is net w h more q
allowed_is rules net w (Retires h) q = let a = both q in let b = both a.1 in (a.0, not-true (w.decided_now h) b.0, not-true (w.retired h) b.1)
allowed_is rules net w Opens q = let a = both q in (a.0, all_done_is w rules.hosts a.1)

-- each of the events may happen where it stands
abbrev pub all_allowed : {S : Type 0} → Rules S → Net → Assembly → List Event → Bool
all_allowed rules net w [] = true
all_allowed rules net w (event ∷ events) = allowed rules net w event && all_allowed rules net (after w event) events

-- events that pass may happen one after another
pub all_allowed_is : {S : Type 0} (rules : Rules S) (net : Net) (w : Assembly) (events : List Event) → all_allowed rules net w events ≡ true → Follows rules net w events
all_allowed_is rules net w [] q = tt
all_allowed_is rules net w (event ∷ events) q = let a = both q in (allowed_is rules net w event a.0, all_allowed_is rules net (after w event) events a.1)
