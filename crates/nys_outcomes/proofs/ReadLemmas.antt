-- Reading bytes as a record gives a record, or a fault at a place: that memory is wanting is nothing that bytes say. What
-- is read of a content is a payload in a slot, whatever numbers stand for the bytes.
use Rattle.std.proofs.Common.{◌≡◌, ℕ, zero, suc, ◌+◌, ◌-◌, ◌≤◌, ◌^◌, Bool, true, false, ◌&&◌, ◌==◌, nat_le, nat_lt, leb-true, ltb-true, ℤ, pos, negsuc, List, [], ◌∷◌, length, Ok, Err, Some, None, refl, arith, FitsSigned}
use Rattle.std.proofs.lemmas.Bool.{ltb-false}
use Rattle.std.proofs.lemmas.Int.{ints}
use Rattle.std.proofs.lemmas.List.Elements.{All-cons, All-nil}
use Rattle.std.specs.Prelude.{All, Result, Option, if◌then◌else◌, bytes_eq, take}
use Rattle.std.specs.Int.{byte_len, cast_signed, from_be_bytes, Width, w16, w64}
use Rattle.nys_bytes.specs.Reading.{Reading}
use Rattle.nys_bytes.specs.declared.content.Content.TheVariants.{External, Message}
use Rattle.nys_bytes.specs.declared.payload.TheConstants.{MAX_NUMBERS}
use Rattle.nys_mac.specs.declared.keys.TheConstants.{LAST_PARTY}
use Rattle.nys_rules.proofs.CertificateLemmas.{both_true}
use Rattle.nys_stmt.specs.Ranges.{IsContentSound, IsPayload}
use Rattle.nys_stmt.specs.Spelling.{digest}
use Rattle.nys_stmt.specs.declared.limits.TheConstants.{MAX_EPOCH, MAX_HOST, MAX_LENGTH, MAX_LENGTHS, MAX_NUMBER, MAX_SLOT}
use Rattle.nys_stmt.specs.declared.records.Record.{Record}
use Rattle.nys_stmt.specs.declared.statement.Body.{Body}
use Rattle.nys_stmt.specs.declared.statement.Body.TheVariants as body
use Rattle.nys_stmt.specs.declared.statement.FilledKind.{FilledKind}
use Rattle.nys_stmt.specs.declared.statement.Statement.{Statement}
use Rattle.nys_stmt.specs.declared.tags.Tags.{Tags}
use Rattle.nys_stmt.specs.declared.wire.WireKind.{WireKind}
use Rattle.nys_stmt.specs.declared.wire.WireKind.TheVariants as wrong
use Rattle.nys_wire.specs.Reading.{attested_at, body_at, byte_at, byte_from, bytes_at, carried_at, content_at, content_of, counted_at, each_at, fault_at, filled_at, front_at, host_at, kind_at, kind_named, kind_or_fault, length_at, length_of, lengths_at, maker_at, makers_at, map_at, matched, message_at, number_at, pair_at, party_at, party_of, passed, payload_at, Reads, record_at, signed_at, slot_at, statement_at, tag_at, tags_at, upto_at, whole_record, within, ◌>>=◌}
use Rattle.nys_wire.specs.declared.fault.WireFault.{WireFault}
use Rattle.nys_wire.specs.declared.fault.WireFault.TheVariants.{At, NoMemory}
use Rattle.nys_wire.specs.declared.kind.Kind.{Kind}
use Rattle.nys_wire.specs.declared.kind.Kind.TheVariants.{Filled, Attest, Ask, Wedge, Frozen, Open}

-- a value of which P holds, or a fault at a place
abbrev pub HasCome : {A : Type 0} → (A → Type 0) → Result A WireFault → Type 0
HasCome P (Ok x) = P x
HasCome P (Err (At place what)) = Unit {0}
HasCome P (Err NoMemory) = ⊥

-- a reading comes to that
record Comes {A : Type 0} (P : A → Type 0) (r : Result A WireFault) : Type 0 where
  has : HasCome P r

-- what holds of the value that is read
abbrev OfValue : {A : Type 0} → (A → Type 0) → A × Reading → Type 0
OfValue P x = P x.0

-- each reading of a field comes to such a value
abbrev ReadsWell : {A : Type 0} → (A → Type 0) → Reads A → Type 0
ReadsWell P field = (here : Reading) → Comes (OfValue P) (field here)

-- nothing is asked of the value
abbrev IsAny : {A : Type 0} → A → Type 0
IsAny x = Unit {0}

-- a value
value : {A : Type 0} (P : A → Type 0) (x : A) → P x → Comes P (Ok x)
value P x p = record { has = p }

-- a fault
fault : {A : Type 0} (P : A → Type 0) (here : Reading) (kind : WireKind) → Comes P (fault_at here kind)
fault P here kind = record { has = tt }

-- what is read next
then_read : {A B : Type 0} (P : A → Type 0) (Q : B → Type 0) (r : Result A WireFault) (f : A → Result B WireFault) → Comes P r
    → ((x : A) → P x → Comes Q (f x)) → Comes Q (r >>= f)
then_read P Q (Ok x) f first next = next x first.has
then_read P Q (Err (At place what)) f first next = record { has = tt }
then_read P Q (Err NoMemory) f first next = absurd first.has

-- what is read by a test
either : {A : Type 0} (P : A → Type 0) (b : Bool) (x y : Result A WireFault) → (b ≡ true → Comes P x) → (b ≡ false → Comes P y)
    → Comes P (if b then x else y)
either P true x y p q = p refl
either P false x y p q = q refl

-- ---- combinations

-- a value that stands for another
map_well : {A B : Type 0} (P : A → Type 0) (Q : B → Type 0) (f : A → B) (field : Reads A) → ((x : A) → P x → Q (f x)) → ReadsWell P field
    → ReadsWell Q (map_at f field)
map_well P Q f field so well here =
    then_read (OfValue P) (OfValue Q) (field here) (λ x. Ok (f x.0, x.1)) (well here) (λ x p. value (OfValue Q) (f x.0, x.1) (so x.0 p))

-- both of two values
abbrev Both : {A B : Type 0} → (A → Type 0) → (B → Type 0) → A × B → Type 0
Both P Q x = P x.0 × Q x.1

-- two fields
pair_well : {A B : Type 0} (P : A → Type 0) (Q : B → Type 0) (first : Reads A) (second : Reads B) → ReadsWell P first → ReadsWell Q second
    → ReadsWell (Both P Q) (pair_at first second)
pair_well P Q first second a b here =
    then_read (OfValue P) (OfValue (Both P Q)) (first here) (λ x. second x.1 >>= λ y. Ok ((x.0, y.0), y.1)) (a here)
    (λ x p. then_read (OfValue Q) (OfValue (Both P Q)) (second x.1) (λ y. Ok ((x.0, y.0), y.1)) (b x.1)
    (λ y q. value (OfValue (Both P Q)) ((x.0, y.0), y.1) (p, q)))

-- a number within a range
within_well : (least most : ℕ) (kind : WireKind) (field : Reads ℕ) → ReadsWell IsAny field
    → ReadsWell (λ n. (least ≤ n) × (n ≤ most)) (within least most kind field)
unfolding within
within_well least most kind field well here =
    then_read (OfValue IsAny) (OfValue Range) (field here) (λ x. if nat_le least x.0 && nat_le x.0 most then Ok x else fault_at here kind) (well here)
    (λ x p. either (OfValue Range) (nat_le least x.0 && nat_le x.0 most) (Ok x) (fault_at here kind)
    (λ is. let both = both_true (nat_le least x.0) (nat_le x.0 most) is in
    value (OfValue Range) x (leb-true least x.0 both.0, leb-true x.0 most both.1))
    (λ no. fault (OfValue Range) here kind))
  where
    Range : ℕ → Type 0
    Range n = (least ≤ n) × (n ≤ most)

-- so many items, of each of which P holds
abbrev AreSo : {A : Type 0} → (A → Type 0) → ℕ → List A → Type 0
AreSo P n xs = (length xs ≡ n) × All P xs

-- items one behind the other
each_well : {A : Type 0} (P : A → Type 0) (item : ℕ → Reads A) (leaves : A → ℕ) → ((least : ℕ) → ReadsWell P (item least)) → (n least : ℕ)
    → ReadsWell (AreSo P n) (each_at item leaves n least)
unfolding each_at
each_well P item leaves well zero least here = value (OfValue (AreSo P 0)) ([], here) (refl, All-nil P)
each_well P item leaves well (suc n) least here =
    then_read (OfValue P) (OfValue (AreSo P (suc n))) (item least here) (λ x. each_at item leaves n (leaves x.0) x.1 >>= λ xs. Ok (x.0 ∷ xs.0, xs.1)) (well least here)
    (λ x p. then_read (OfValue (AreSo P n)) (OfValue (AreSo P (suc n))) (each_at item leaves n (leaves x.0) x.1) (λ xs. Ok (x.0 ∷ xs.0, xs.1))
    (each_well P item leaves well n (leaves x.0) x.1)
    (λ xs q. value (OfValue (AreSo P (suc n))) (x.0 ∷ xs.0, xs.1) (let long = q.0 in omega (arith, long), All-cons P x.0 xs.0 p q.1)))

-- from one to the most
abbrev AreFew : {A : Type 0} → (A → Type 0) → ℕ → List A → Type 0
AreFew P most xs = (1 ≤ length xs) × (length xs ≤ most) × All P xs

-- items that are counted
counted_well : {A : Type 0} (P : A → Type 0) (count : Reads ℕ) (most : ℕ) (item : ℕ → Reads A) (leaves : A → ℕ) → ReadsWell IsAny count
    → ((least : ℕ) → ReadsWell P (item least)) → ReadsWell (AreFew P most) (counted_at count most item leaves)
unfolding counted_at
counted_well {A = A} P count most item leaves counts well here =
    then_read (OfValue (λ n. (1 ≤ n) × (n ≤ most))) (OfValue (AreFew P most)) (within 1 most wrong.Count count here) (λ n. each_at item leaves n.0 0 n.1)
    (within_well 1 most wrong.Count count counts here) (λ n range. again n.0 n.1 range)
  where
    again : (n : ℕ) (at : Reading) → (1 ≤ n) × (n ≤ most) → Comes (OfValue (AreFew P most)) (each_at item leaves n 0 at)
    again n at range = weaker (each_at item leaves n 0 at) (each_well P item leaves well n 0 at)
      where
        weaker : (r : Result (List A × Reading) WireFault) → Comes (OfValue (AreSo P n)) r → Comes (OfValue (AreFew P most)) r
        weaker (Ok x) c =
            let long = c.has.0 in
            let low = range.0 in
            let high = range.1 in
            record { has = (omega (arith, long, low), omega (arith, long, high), c.has.1) }
        weaker (Err (At place what)) c = record { has = tt }
        weaker (Err NoMemory) c = absurd c.has

-- ---- fields

-- one byte
byte_well : ReadsWell IsAny byte_at
unfolding byte_at
byte_well here = by here.place here.left
  where
    by : (place : ℕ) (left : List ℕ) → Comes (OfValue IsAny) (byte_from place left)
    by place [] = record { has = tt }
    by place (b ∷ rest) = record { has = tt }

-- a number
number_well : (w : Width) → ReadsWell IsAny (number_at w)
unfolding number_at
number_well w here =
    either (OfValue IsAny) (nat_lt (length here.left) (byte_len w)) _ _ (λ less. record { has = tt })
    (λ more. value (OfValue IsAny) (from_be_bytes w (take (byte_len w) here.left), passed (byte_len w) here) tt)

-- bytes as they are
bytes_well : (n : ℕ) → ReadsWell IsAny (bytes_at n)
unfolding bytes_at
bytes_well n here =
    either (OfValue IsAny) (nat_lt (length here.left) n) _ _ (λ less. record { has = tt })
    (λ more. value (OfValue IsAny) (take n here.left, passed n here) tt)

-- any number is cast to one that fits
cast_fits : (n : ℕ) → FitsSigned w64 (cast_signed w64 n)
cast_fits n = by (nat_lt n (2 ^ 63)) refl
  where
    by : (b : Bool) → nat_lt n (2 ^ 63) ≡ b → FitsSigned w64 (if b then pos n else negsuc (2 ^ 64 - suc n))
    by true less = let low = ltb-true n (2 ^ 63) less in omega (arith, ints, low)
    by false more = let high = ltb-false n (2 ^ 63) more in omega (arith, ints, high)

-- a payload
payload_well : ReadsWell IsPayload payload_at
unfolding payload_at signed_at
payload_well here = weaker (payload_at here)
    (counted_well (λ z. FitsSigned w64 z) (number_at w16) MAX_NUMBERS (λ _. signed_at) (λ _. 0) (number_well w16)
    (λ least. map_well IsAny (λ z. FitsSigned w64 z) (cast_signed w64) (number_at w64) (λ n any. cast_fits n) (number_well w64)) here)
  where
    weaker : (r : Result (List ℤ × Reading) WireFault) → Comes (OfValue (AreFew (λ z. FitsSigned w64 z) MAX_NUMBERS)) r → Comes (OfValue IsPayload) r
    weaker (Ok x) c = record { has = record { some = c.has.0; few = c.has.1; fit = c.has.2 } }
    weaker (Err (At place what)) c = record { has = tt }
    weaker (Err NoMemory) c = absurd c.has

-- a payload behind its digest
carried_well : ReadsWell IsPayload carried_at
unfolding carried_at
carried_well here =
    then_read (OfValue IsAny) (OfValue IsPayload) (bytes_at 32 here) (λ bytes. payload_at bytes.1 >>= matched here bytes.0) (bytes_well 32 here)
    (λ bytes any. then_read (OfValue IsPayload) (OfValue IsPayload) (payload_at bytes.1) (matched here bytes.0) (payload_well bytes.1)
    (λ payload p. either (OfValue IsPayload) (bytes_eq bytes.0 (digest payload.0)) (Ok payload) (fault_at here wrong.Digest)
    (λ is. value (OfValue IsPayload) payload p) (λ no. fault (OfValue IsPayload) here wrong.Digest)))

-- a number up to this
abbrev UpTo : ℕ → ℕ → Type 0
UpTo most n = (0 ≤ n) × (n ≤ most)

-- a host
host_well : ReadsWell (UpTo MAX_HOST) host_at
host_well = within_well 0 MAX_HOST wrong.Range byte_at byte_well

-- a number of two bytes
upto_well : (most : ℕ) → ReadsWell (UpTo most) (upto_at most)
upto_well most = within_well 0 most wrong.Range (number_at w16) (number_well w16)

-- a content
content_well : ReadsWell IsContentSound (content_at carried_at)
unfolding content_at message_at
content_well here =
    then_read (OfValue (λ n. (0 ≤ n) × (n ≤ 1))) (OfValue IsContentSound) (within 0 1 wrong.Content byte_at here) (content_of carried_at)
    (within_well 0 1 wrong.Content byte_at byte_well here)
    (λ b range. either (OfValue IsContentSound) (b.0 == 0) _ _
    (λ is. map_well IsPayload IsContentSound External carried_at (λ x p. p) carried_well b.1)
    (λ no. map_well (Both (UpTo MAX_HOST) (Both (UpTo MAX_NUMBER) IsPayload)) IsContentSound (λ x. Message x.0 x.1.0 x.1.1) _ (λ x p. p.1.1)
    (pair_well (UpTo MAX_HOST) (Both (UpTo MAX_NUMBER) IsPayload) host_at (pair_at (upto_at MAX_NUMBER) carried_at) host_well
    (pair_well (UpTo MAX_NUMBER) IsPayload (upto_at MAX_NUMBER) carried_at (upto_well MAX_NUMBER) carried_well)) b.1))

-- a content that a body has is sound, and stands in a slot
abbrev pub IsBodyRead : Body → Type 0
IsBodyRead (body.Filled kind h slot content) = (slot ≤ MAX_SLOT) × IsContentSound content
IsBodyRead (body.Attest p h k payload) = Unit {0}
IsBodyRead (body.Ask h slot) = Unit {0}
IsBodyRead body.Wedge = Unit {0}
IsBodyRead (body.Frozen h slot) = Unit {0}
IsBodyRead (body.Open lengths) = Unit {0}

-- a host, a slot and a content
filled_well : (kind : FilledKind) → ReadsWell IsBodyRead (filled_at carried_at kind)
unfolding filled_at
filled_well kind =
    map_well (Both (UpTo MAX_HOST) (Both (UpTo MAX_SLOT) IsContentSound)) IsBodyRead (λ x. body.Filled kind x.0 x.1.0 x.1.1) _ (λ x p. (p.1.0.1, p.1.1))
    (pair_well (UpTo MAX_HOST) (Both (UpTo MAX_SLOT) IsContentSound) host_at (pair_at (upto_at MAX_SLOT) (content_at carried_at)) host_well
    (pair_well (UpTo MAX_SLOT) IsContentSound (upto_at MAX_SLOT) (content_at carried_at) (upto_well MAX_SLOT) content_well))

-- a host and a slot
slot_well : (most : ℕ) → ReadsWell (Both (UpTo MAX_HOST) (UpTo most)) (slot_at most)
slot_well most = pair_well (UpTo MAX_HOST) (UpTo most) host_at (upto_at most) host_well (upto_well most)

-- the lengths of Open
lengths_well : ReadsWell (AreFew (IsAny {A = Option ℕ}) MAX_LENGTHS) lengths_at
unfolding lengths_at length_at
lengths_well here = counted_well (IsAny {A = Option ℕ}) byte_at MAX_LENGTHS (λ _. length_at) (λ _. 0) byte_well (λ least. one) here
  where
    one : ReadsWell (IsAny {A = Option ℕ}) length_at
    one before =
        then_read (OfValue IsAny) (OfValue (IsAny {A = Option ℕ})) (number_at w16 before) (length_of before) (number_well w16 before)
        (λ x any. either (OfValue (IsAny {A = Option ℕ})) (x.0 == 0xffff) (Ok (None, x.1)) _ (λ is. value (OfValue (IsAny {A = Option ℕ})) (None, x.1) tt)
        (λ no. either (OfValue (IsAny {A = Option ℕ})) (nat_le x.0 MAX_LENGTH) (Ok (Some x.0, x.1)) (fault_at before wrong.Range)
        (λ low. value (OfValue (IsAny {A = Option ℕ})) (Some x.0, x.1) tt) (λ high. fault (OfValue (IsAny {A = Option ℕ})) before wrong.Range)))

-- what stands behind a kind
body_well : (kind : Kind) → ReadsWell IsBodyRead (body_at carried_at kind)
unfolding body_at attested_at
body_well (Filled kind) = filled_well kind
body_well Attest =
    map_well (Both (UpTo MAX_HOST) (Both (UpTo MAX_HOST) (Both (UpTo MAX_NUMBER) IsPayload))) IsBodyRead (λ x. body.Attest x.0 x.1.0 x.1.1.0 x.1.1.1) _ (λ x p. tt)
    (pair_well (UpTo MAX_HOST) (Both (UpTo MAX_HOST) (Both (UpTo MAX_NUMBER) IsPayload)) host_at (pair_at host_at (pair_at (upto_at MAX_NUMBER) carried_at)) host_well
    (pair_well (UpTo MAX_HOST) (Both (UpTo MAX_NUMBER) IsPayload) host_at (pair_at (upto_at MAX_NUMBER) carried_at) host_well
    (pair_well (UpTo MAX_NUMBER) IsPayload (upto_at MAX_NUMBER) carried_at (upto_well MAX_NUMBER) carried_well)))
body_well Ask = map_well (Both (UpTo MAX_HOST) (UpTo MAX_SLOT)) IsBodyRead (λ x. body.Ask x.0 x.1) (slot_at MAX_SLOT) (λ x p. tt) (slot_well MAX_SLOT)
body_well Wedge = λ here. value (OfValue IsBodyRead) (body.Wedge, here) tt
body_well Frozen = map_well (Both (UpTo MAX_HOST) (UpTo MAX_LENGTH)) IsBodyRead (λ x. body.Frozen x.0 x.1) (slot_at MAX_LENGTH) (λ x p. tt) (slot_well MAX_LENGTH)
body_well Open = map_well (AreFew (IsAny {A = Option ℕ}) MAX_LENGTHS) IsBodyRead body.Open lengths_at (λ x p. tt) lengths_well

-- a kind
kind_well : ReadsWell (IsAny {A = Kind}) kind_at
unfolding kind_at
kind_well here =
    then_read (OfValue IsAny) (OfValue (IsAny {A = Kind})) (byte_at here) (λ b. kind_or_fault here b.1 (kind_named b.0)) (byte_well here)
    (λ b any. named b.1 (kind_named b.0))
  where
    named : (after : Reading) (found : Option Kind) → Comes (OfValue (IsAny {A = Kind})) (kind_or_fault here after found)
    named after None = fault (OfValue (IsAny {A = Kind})) here wrong.Kind
    named after (Some kind) = value (OfValue (IsAny {A = Kind})) (kind, after) tt

-- the body of a statement is read so
abbrev IsSaidSo : Statement → Type 0
IsSaidSo s = IsBodyRead s.body

-- a statement
statement_well : ReadsWell IsSaidSo (statement_at carried_at)
unfolding statement_at
statement_well here =
    then_read (OfValue (IsAny {A = Kind})) (OfValue IsSaidSo) (kind_at here) _ (kind_well here)
    (λ kind any. then_read (OfValue (UpTo MAX_EPOCH)) (OfValue IsSaidSo) (upto_at MAX_EPOCH kind.1) _ (upto_well MAX_EPOCH kind.1)
    (λ epoch low. then_read (OfValue IsBodyRead) (OfValue IsSaidSo) (body_at carried_at kind.0 epoch.1) _ (body_well kind.0 epoch.1)
    (λ b p. value (OfValue IsSaidSo) (record { epoch = epoch.0; body = b.0 }, b.1) p)))

-- a party
party_well : (least : ℕ) → ReadsWell IsAny (party_at least)
unfolding party_at
party_well least here =
    then_read (OfValue IsAny) (OfValue IsAny) (byte_at here) (party_of least here) (byte_well here)
    (λ x any. either (OfValue IsAny) (nat_lt LAST_PARTY x.0) (fault_at here wrong.Range) _ (λ is. fault (OfValue IsAny) here wrong.Range)
    (λ no. either (OfValue IsAny) (nat_lt x.0 least) (fault_at here wrong.Order) (Ok x) (λ is. fault (OfValue IsAny) here wrong.Order)
    (λ in_order. value (OfValue IsAny) x tt)))

-- a receiver and its tag
tag_well : (least : ℕ) → ReadsWell (Both (IsAny {A = ℕ}) (IsAny {A = List ℕ})) (tag_at least)
unfolding tag_at
tag_well least = pair_well (IsAny {A = ℕ}) (IsAny {A = List ℕ}) (party_at least) (bytes_at 32) (party_well least) (bytes_well 32)

-- the tags of a maker
tags_well : ReadsWell (AreFew (Both (IsAny {A = ℕ}) (IsAny {A = List ℕ})) (LAST_PARTY + 1)) tags_at
unfolding tags_at
tags_well here = counted_well (Both (IsAny {A = ℕ}) (IsAny {A = List ℕ})) byte_at (LAST_PARTY + 1) tag_at (λ t. t.0 + 1) byte_well tag_well here

-- a maker and its tags
maker_well : (least : ℕ) → ReadsWell (IsAny {A = Tags}) (maker_at least)
unfolding maker_at
maker_well least =
    map_well (Both (IsAny {A = ℕ}) (AreFew (Both (IsAny {A = ℕ}) (IsAny {A = List ℕ})) (LAST_PARTY + 1))) (IsAny {A = Tags}) _ _ (λ x p. tt)
    (pair_well (IsAny {A = ℕ}) (AreFew (Both (IsAny {A = ℕ}) (IsAny {A = List ℕ})) (LAST_PARTY + 1)) (party_at least) tags_at (party_well least) tags_well)

-- the makers
makers_well : ReadsWell (AreFew (IsAny {A = Tags}) (LAST_PARTY + 1)) makers_at
unfolding makers_at
makers_well here = counted_well (IsAny {A = Tags}) byte_at (LAST_PARTY + 1) maker_at (λ t. t.maker + 1) byte_well maker_well here

-- the magic and the version
front_well : ReadsWell (Both (λ n. (0x4e59 ≤ n) × (n ≤ 0x4e59)) (λ n. (2 ≤ n) × (n ≤ 2))) front_at
unfolding front_at
front_well =
    pair_well (λ n. (0x4e59 ≤ n) × (n ≤ 0x4e59)) (λ n. (2 ≤ n) × (n ≤ 2)) (within 0x4e59 0x4e59 wrong.Magic (number_at w16)) (within 2 2 wrong.Version byte_at)
    (within_well 0x4e59 0x4e59 wrong.Magic (number_at w16) (number_well w16)) (within_well 2 2 wrong.Version byte_at byte_well)

-- the statement of a record is read so
abbrev pub IsRecordRead : Record → Type 0
IsRecordRead r = IsBodyRead r.statement.body

-- a record
record_well : ReadsWell IsRecordRead record_at
unfolding record_at
record_well here =
    then_read (OfValue (Both (λ n. (0x4e59 ≤ n) × (n ≤ 0x4e59)) (λ n. (2 ≤ n) × (n ≤ 2)))) (OfValue IsRecordRead) (front_at here) _ (front_well here)
    (λ front any. then_read (OfValue IsSaidSo) (OfValue IsRecordRead) (statement_at carried_at front.1) _ (statement_well front.1)
    (λ s p. then_read (OfValue (AreFew (IsAny {A = Tags}) (LAST_PARTY + 1))) (OfValue IsRecordRead) (makers_at s.1) _ (makers_well s.1)
    (λ m q. value (OfValue IsRecordRead) (record { statement = s.0; makers = m.0 }, m.1) p)))

-- bytes read as a record, or have a fault at a place
pub whole_comes : (bytes : List ℕ) → HasCome IsRecordRead (whole_record bytes)
unfolding whole_record
whole_comes bytes =
    (then_read (OfValue IsRecordRead) IsRecordRead (record_at (record { place = 0; left = bytes })) _ (record_well (record { place = 0; left = bytes }))
    (λ x p. either IsRecordRead (length x.1.left == 0) (Ok x.0) (fault_at x.1 wrong.Trailing) (λ is. value IsRecordRead x.0 p)
    (λ no. fault IsRecordRead x.1 wrong.Trailing))).has
