-- Records read from left to right: the value of each field, or the first field at fault. A reading is
-- the place of a field and the bytes from there on.
use Rattle.std.specs.Prelude.{ℕ, zero, suc, ◌+◌, ℤ, ◌&&◌, List, [], ◌∷◌, length, take, drop, Option, Some, None, Result, Ok, Err, bytes_eq, nat_lt, nat_le, ◌==◌, if◌then◌else◌}
use Rattle.std.specs.Int.{Width, w16, w64, byte_len, from_be_bytes, cast_signed}
use Rattle.nys_mac.specs.declared.authenticating.TheConstants.{TAG_LEN}
use Rattle.nys_stmt.specs.declared.digest.TheConstants.{DIGEST_LEN}
use Rattle.nys_bytes.specs.Reading.{Reading}
use Rattle.nys_bytes.specs.declared.content.Content.{Content}
use Rattle.nys_bytes.specs.declared.content.Content.TheVariants.{External, Message}
use Rattle.nys_bytes.specs.declared.payload.TheConstants.{MAX_NUMBERS}
use Rattle.nys_mac.specs.declared.keys.TheConstants.{LAST_PARTY}
use Rattle.nys_stmt.specs.declared.limits.TheConstants.{MAX_EPOCH, MAX_HOST, MAX_LENGTH, MAX_LENGTHS, MAX_NUMBER, MAX_SLOT}
use Rattle.nys_stmt.specs.declared.statement.Body.{Body}
use Rattle.nys_stmt.specs.declared.statement.Body.TheVariants as body
use Rattle.nys_stmt.specs.declared.statement.FilledKind.{FilledKind}
use Rattle.nys_stmt.specs.declared.statement.FilledKind.TheVariants.{Offer, Order, Deliver, Report, Inherit}
use Rattle.nys_stmt.specs.declared.statement.Statement.{Statement}
use Rattle.nys_stmt.specs.declared.tags.Tags.{Tags}
use Rattle.nys_stmt.specs.declared.records.Record.{Record}
use Rattle.nys_stmt.specs.declared.wire.WireKind.{WireKind}
use Rattle.nys_stmt.specs.declared.wire.WireKind.TheVariants as wrong
use Rattle.nys_stmt.specs.Spelling.{digest}
use Rattle.nys_wire.specs.declared.fault.WireFault.{WireFault}
use Rattle.nys_wire.specs.declared.fault.WireFault.TheVariants.{At}
use Rattle.nys_wire.specs.declared.kind.Kind.{Kind}
use Rattle.nys_wire.specs.declared.kind.Kind.TheVariants.{Filled, Attest, Ask, Wedge, Frozen, Open}

-- what is read at a place: a value and the place behind it, or the fault
abbrev pub Reads : Type 0 → Type 0
Reads A = Reading → Result (A × Reading) WireFault

-- what is read next, where what is before has no fault
infixl 10 ◌>>=◌
abbrev pub ◌>>=◌ : {A B : Type 0} → Result A WireFault → (A → Result B WireFault) → Result B WireFault
(Ok x) >>= f = f x
(Err e) >>= f = Err e

-- a fault of the field that begins here
abbrev pub fault_at : {A : Type 0} → Reading → WireKind → Result A WireFault
fault_at here kind = Err (At here.place kind)

-- the field has more bytes than are left: the place is the end of the bytes
abbrev pub short_at : {A : Type 0} → Reading → Result A WireFault
short_at here = Err (At (here.place + length here.left) wrong.Short)

-- the place n bytes on
abbrev pub passed : ℕ → Reading → Reading
passed n here = record { place = here.place + n; left = drop n here.left }

-- one byte of these, which begin at the place
abbrev pub byte_from : ℕ → List ℕ → Result (ℕ × Reading) WireFault
byte_from place [] = Err (At place wrong.Short)
byte_from place (b ∷ rest) = Ok (b, record { place = place + 1; left = rest })

-- one byte
unfoldable pub byte_at : Reads ℕ
byte_at here = byte_from here.place here.left

-- a number of some width, the greatest byte first
unfoldable pub number_at : Width → Reads ℕ
number_at w here =
    if nat_lt (length here.left) (byte_len w) then short_at here
    else Ok (from_be_bytes w (take (byte_len w) here.left), passed (byte_len w) here)

-- n bytes as they are
unfoldable pub bytes_at : ℕ → Reads (List ℕ)
bytes_at n here = if nat_lt (length here.left) n then short_at here else Ok (take n here.left, passed n here)

-- a value, which stands for another
abbrev pub map_at : {A B : Type 0} → (A → B) → Reads A → Reads B
map_at f field here = field here >>= λ x. Ok (f x.0, x.1)

-- two fields, one behind the other
abbrev pub pair_at : {A B : Type 0} → Reads A → Reads B → Reads (A × B)
pair_at first second here = first here >>= λ x. second x.1 >>= λ y. Ok ((x.0, y.0), y.1)

-- a field whose number is within a range, else a fault of this kind
unfoldable pub within : ℕ → ℕ → WireKind → Reads ℕ → Reads ℕ
within least most kind field here =
    field here >>= λ x. if nat_le least x.0 && nat_le x.0 most then Ok x else fault_at here kind

-- n items, one behind the other; each may depend on a number that the item before it leaves
unfoldable pub each_at : {A : Type 0} → (ℕ → Reads A) → (A → ℕ) → ℕ → ℕ → Reads (List A)
each_at item leaves zero least here = Ok ([], here)
each_at item leaves (suc n) least here =
    item least here >>= λ x. each_at item leaves n (leaves x.0) x.1 >>= λ xs. Ok (x.0 ∷ xs.0, xs.1)

-- how many items there are, from one to the most, and the items
unfoldable pub counted_at : {A : Type 0} → Reads ℕ → ℕ → (ℕ → Reads A) → (A → ℕ) → Reads (List A)
counted_at count most item leaves here =
    within 1 most wrong.Count count here >>= λ n. each_at item leaves n.0 0 n.1

-- a signed number
unfoldable pub signed_at : Reads ℤ
signed_at here = map_at (cast_signed w64) (number_at w64) here

-- a payload
unfoldable pub payload_at : Reads (List ℤ)
payload_at here = counted_at (number_at w16) MAX_NUMBERS (λ _. signed_at) (λ _. 0) here

-- the payload, if the bytes read before it are its digest
abbrev pub matched : Reading → List ℕ → List ℤ × Reading → Result (List ℤ × Reading) WireFault
matched here bytes payload = if bytes_eq bytes (digest payload.0) then Ok payload else fault_at here wrong.Digest

-- a digest, and the payload of which it is
unfoldable pub carried_at : Reads (List ℤ)
carried_at here = bytes_at DIGEST_LEN here >>= λ bytes. payload_at bytes.1 >>= matched here bytes.0

-- a host or a sender
abbrev pub host_at : Reads ℕ
host_at here = within 0 MAX_HOST wrong.Range byte_at here

-- a number of two bytes that is at most this
abbrev pub upto_at : ℕ → Reads ℕ
upto_at most here = within 0 most wrong.Range (number_at w16) here

-- contents and statements take as their first argument the field that reads a payload

-- a sender, a number and a payload
unfoldable pub message_at : Reads (List ℤ) → Reads Content
message_at payload here = map_at (λ x. Message x.0 x.1.0 x.1.1) (pair_at host_at (pair_at (upto_at MAX_NUMBER) payload)) here

-- a content of which the first byte is read
abbrev pub content_of : Reads (List ℤ) → ℕ × Reading → Result (Content × Reading) WireFault
content_of payload b = if b.0 == 0 then map_at External payload b.1 else message_at payload b.1

-- a content
unfoldable pub content_at : Reads (List ℤ) → Reads Content
content_at payload here = within 0 1 wrong.Content byte_at here >>= content_of payload

-- a length of Open, or ffff
abbrev pub length_of : Reading → ℕ × Reading → Result (Option ℕ × Reading) WireFault
length_of here x =
    if x.0 == 0xffff then Ok (None, x.1)
    else (if nat_le x.0 MAX_LENGTH then Ok (Some x.0, x.1) else fault_at here wrong.Range)

-- a member of Open
unfoldable pub length_at : Reads (Option ℕ)
length_at here = number_at w16 here >>= length_of here

-- the lengths of Open
unfoldable pub lengths_at : Reads (List (Option ℕ))
lengths_at here = counted_at byte_at MAX_LENGTHS (λ _. length_at) (λ _. 0) here

-- the kind that a byte names
abbrev pub kind_named : ℕ → Option Kind
kind_named zero = None
kind_named (suc zero) = Some (Filled Offer)
kind_named (suc (suc zero)) = Some (Filled Order)
kind_named (suc (suc (suc zero))) = Some (Filled Deliver)
kind_named (suc (suc (suc (suc zero)))) = Some Attest
kind_named (suc (suc (suc (suc (suc zero))))) = Some Ask
kind_named (suc (suc (suc (suc (suc (suc zero)))))) = Some Wedge
kind_named (suc (suc (suc (suc (suc (suc (suc zero))))))) = Some (Filled Report)
kind_named (suc (suc (suc (suc (suc (suc (suc (suc zero)))))))) = Some Frozen
kind_named (suc (suc (suc (suc (suc (suc (suc (suc (suc zero))))))))) = Some Open
kind_named (suc (suc (suc (suc (suc (suc (suc (suc (suc (suc zero)))))))))) = Some (Filled Inherit)
kind_named (suc (suc (suc (suc (suc (suc (suc (suc (suc (suc (suc n))))))))))) = None

-- the kind, where there is one
abbrev pub kind_or_fault : Reading → Reading → Option Kind → Result (Kind × Reading) WireFault
kind_or_fault here after None = fault_at here wrong.Kind
kind_or_fault here after (Some kind) = Ok (kind, after)

-- the kind of a statement
unfoldable pub kind_at : Reads Kind
kind_at here = byte_at here >>= λ b. kind_or_fault here b.1 (kind_named b.0)

-- a host, a slot and a content
unfoldable pub filled_at : Reads (List ℤ) → FilledKind → Reads Body
filled_at payload kind here =
    map_at (λ x. body.Filled kind x.0 x.1.0 x.1.1) (pair_at host_at (pair_at (upto_at MAX_SLOT) (content_at payload))) here

-- a host and a slot that is at most this
abbrev pub slot_at : ℕ → Reads (ℕ × ℕ)
slot_at most here = pair_at host_at (upto_at most) here

-- sender, host, number and payload
unfoldable pub attested_at : Reads (List ℤ) → Reads Body
attested_at payload here =
    map_at (λ x. body.Attest x.0 x.1.0 x.1.1.0 x.1.1.1) (pair_at host_at (pair_at host_at (pair_at (upto_at MAX_NUMBER) payload))) here

-- what stands behind the kind and the epoch
unfoldable pub body_at : Reads (List ℤ) → Kind → Reads Body
body_at payload (Filled kind) here = filled_at payload kind here
body_at payload Attest here = attested_at payload here
body_at payload Ask here = map_at (λ x. body.Ask x.0 x.1) (slot_at MAX_SLOT) here
body_at payload Wedge here = Ok (body.Wedge, here)
body_at payload Frozen here = map_at (λ x. body.Frozen x.0 x.1) (slot_at MAX_LENGTH) here
body_at payload Open here = map_at body.Open lengths_at here

-- a statement
unfoldable pub statement_at : Reads (List ℤ) → Reads Statement
statement_at payload here =
    kind_at here >>= λ kind. upto_at MAX_EPOCH kind.1 >>= λ epoch. body_at payload kind.0 epoch.1 >>= λ b.
    Ok (record { epoch = epoch.0; body = b.0 }, b.1)

-- a maker or a receiver that is at least `least`
abbrev pub party_of : ℕ → Reading → ℕ × Reading → Result (ℕ × Reading) WireFault
party_of least here x =
    if nat_lt LAST_PARTY x.0 then fault_at here wrong.Range
    else (if nat_lt x.0 least then fault_at here wrong.Order else Ok x)

-- a maker or a receiver above those before
unfoldable pub party_at : ℕ → Reads ℕ
party_at least here = byte_at here >>= party_of least here

-- a receiver and its tag
unfoldable pub tag_at : ℕ → Reads (ℕ × List ℕ)
tag_at least here = pair_at (party_at least) (bytes_at TAG_LEN) here

-- the tags of one maker
unfoldable pub tags_at : Reads (List (ℕ × List ℕ))
tags_at here = counted_at byte_at (LAST_PARTY + 1) tag_at (λ t. t.0 + 1) here

-- a maker and its tags
unfoldable pub maker_at : ℕ → Reads Tags
maker_at least here = map_at (λ x. record { maker = x.0; tags = x.1 }) (pair_at (party_at least) tags_at) here

-- the makers
unfoldable pub makers_at : Reads (List Tags)
makers_at here = counted_at byte_at (LAST_PARTY + 1) maker_at (λ t. t.maker + 1) here

-- the magic and the version
unfoldable pub front_at : Reads (ℕ × ℕ)
front_at here = pair_at (within 0x4e59 0x4e59 wrong.Magic (number_at w16)) (within 2 2 wrong.Version byte_at) here

-- a record, with bytes behind it or none
unfoldable pub record_at : Reads Record
record_at here =
    front_at here >>= λ front. statement_at carried_at front.1 >>= λ s. makers_at s.1 >>= λ m.
    Ok (record { statement = s.0; makers = m.0 }, m.1)

-- a record that is all of the bytes
unfoldable pub whole_record : List ℕ → Result Record WireFault
whole_record bytes =
    record_at (record { place = 0; left = bytes }) >>= λ x.
    if length x.1.left == 0 then Ok x.0 else fault_at x.1 wrong.Trailing
