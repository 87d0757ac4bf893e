-- Statements as fields, whose payloads are some field.
use Rattle.std.proofs.Common.{◌≡◌, ℕ, zero, suc, ℤ, ◌^◌, ◌<◌, ◌≤◌, true, false, cond, eqb, leb, List, [], ◌∷◌, ◌++◌, length, Option, None, Some, Result, Ok, Err, refl, sym, ap, subst, ◌∙◌, arith, inl, inr}
use Rattle.std.specs.Int.{w16}
use Rattle.std.specs.List.{flat_map}
use Rattle.byteorder.specs.Endian.{big_bytes}
use Rattle.std.proofs.lemmas.Bool.{eqb-true, ne_eqb, leb-true, le-leb}
use Rattle.nys_bytes.specs.Reading.{Reading}
use Rattle.nys_stmt.specs.declared.statement.Body.{Body}
use Rattle.nys_stmt.specs.declared.statement.Body.TheVariants as body
use Rattle.nys_stmt.specs.declared.statement.FilledKind.TheVariants.{Offer, Order, Deliver, Report, Inherit}
use Rattle.nys_stmt.specs.declared.statement.Statement.{Statement}
use Rattle.nys_stmt.specs.declared.wire.WireKind.TheVariants as wrong
use Rattle.nys_stmt.specs.Lists.{IsLength, AreLengths}
use Rattle.nys_stmt.specs.Ranges.{IsContentInRange, IsBodyInRange, IsStatement, IsPayload}
use Rattle.nys_stmt.specs.Records.{payload_in, carried_bytes}
use Rattle.nys_stmt.specs.Spelling.{length_bytes, slot_bytes, filled_byte, kind_byte, spelling}
use Rattle.nys_wire.specs.declared.fault.WireFault.{WireFault}
use Rattle.nys_wire.specs.declared.fault.WireFault.TheVariants.{At}
use Rattle.nys_wire.specs.declared.kind.Kind.{Kind}
use Rattle.nys_wire.specs.declared.kind.Kind.TheVariants.{Filled, Attest, Ask, Wedge, Frozen, Open}
use Rattle.nys_wire.specs.Reading.{Reads, ◌>>=◌, pair_at, byte_at, number_at, carried_at, host_at, upto_at, slot_at, content_at, length_of, length_at, lengths_at, kind_named, kind_or_fault, kind_at, filled_at, attested_at, body_at, statement_at}
use Rattle.nys_wire.proofs.Steps.{IsBytes, IsField, Took, Took-then, Again, at, bind_ok, ok_is, test_ok, chosen, then_again, pair_is, map_takes, map_again}
use Rattle.nys_wire.proofs.Numbers.{byte_is, number_is, wide16}
use Rattle.nys_wire.proofs.Chains.{refit, retext, counted_is, each-chain, chain-each}
use Rattle.nys_wire.proofs.Texts.{content_text, body_text, statement_text, FitsContent, FitsBody, FitsStatement, carried_text, statement_carried, body_fits, body_sound}
use Rattle.nys_wire.proofs.Parts.{host_is, upto_is, carried_is, content_is}

-- ---- the lengths of an opening

-- a member that is read is spelled so
length_takes : (before : Reading) (x : Option ℕ × Reading) → IsBytes before.left → length_at before ≡ Ok x → Took before (length_bytes x.0) x.1 × IsLength x.0
unfolding length_at
length_takes before x bytes e =
    let P : Option ℕ × Reading → Type 0 = λ y. Took before (length_bytes y.0) y.1 × IsLength y.0 in
    let a = bind_ok (number_at w16 before) (length_of before) x e in
    let n = a.0.0 in
    let t = (number_is w16 (2 ^ 16) wide16).takes before a.0 bytes a.1 in
    let rest : Result (Option ℕ × Reading) WireFault = cond (leb n 1024) (Ok (Some n, a.0.1)) (Err (At before.place wrong.Range)) in
    elim (chosen (eqb n 0xffff) (Ok (None, a.0.1)) rest (Ok x) a.2) [
      | inl c ↦
          let none-is : n ≡ 0xffff = eqb-true n 0xffff c.0 in
          let took : Took before (big_bytes 2 0xffff) a.0.1 = subst (λ (k : ℕ). Took before (big_bytes 2 k) a.0.1) none-is t.0 in
          subst P (ok_is (None, a.0.1) x c.1) (took, λ k f. absurd cc)
      | inr c ↦
          let g = test_ok (leb n 1024) (At before.place wrong.Range) (Some n, a.0.1) x c.1 in
          let few : n ≤ 1024 = leb-true n 1024 g.0 in
          subst P g.1 (t.0, λ k f. let same : n ≡ k = cc in subst (λ (m : ℕ). m ≤ 1024) same few)
    ]

-- a member that is spelled is read
length_again : (v : Option ℕ) (rest : List ℕ) (place : ℕ) → IsLength v → Again (length_at (at place (length_bytes v ++ rest))) v rest
unfolding length_at
length_again None rest place fits =
    then_again (number_at w16 (at place (big_bytes 2 0xffff ++ rest))) (length_of (at place (big_bytes 2 0xffff ++ rest))) 0xffff rest None rest
    ((number_is w16 (2 ^ 16) wide16).again 0xffff rest place (omega arith)) (λ mid. (mid, refl))
length_again (Some n) rest place fits =
    let few : n ≤ 1024 = fits n refl in
    let other : eqb n 0xffff ≡ false = ne_eqb n 0xffff (λ e. let no : 1024 < n = omega (arith, e) in omega (arith, few, no)) in
    let within : leb n 1024 ≡ true = le-leb n 1024 few in
    then_again (number_at w16 (at place (big_bytes 2 n ++ rest))) (length_of (at place (big_bytes 2 n ++ rest))) n rest (Some n) rest
    ((number_is w16 (2 ^ 16) wide16).again n rest place (omega (arith, few))) (λ mid. (mid, rw (other, within) refl))

-- a member of an opening
length_is : IsField length_at length_bytes IsLength
length_is = record { takes = length_takes; again = length_again }

-- lengths, as many as hosts at most
lengths_are : IsField lengths_at (λ ls. length ls ∷ flat_map length_bytes ls) (λ ls. (1 ≤ length ls) × AreLengths ls)
unfolding lengths_at
lengths_are = refit lengths_at (λ ls. length ls ∷ flat_map length_bytes ls) _ (λ ls. (1 ≤ length ls) × AreLengths ls)
    (counted_is byte_at (λ b. b ∷ []) 256 32 (λ _. length_at) (λ _. 0) length_bytes (λ _ l. IsLength l) byte_is (omega arith) (λ _. length_is))
    (λ v f. (f.0, record { few = f.1; each = each-chain IsLength (λ _. 0) 0 v f.2 }))
    (λ v f. (f.0, f.1.few, chain-each IsLength (λ _. 0) 0 v f.1.each))

-- ---- what several kinds have

-- a host, a slot and a content
filled_are : (payload : Reads (List ℤ)) (text : List ℤ → List ℕ) (Fits : List ℤ → Type 0) → IsField payload text Fits
    → IsField (pair_at host_at (pair_at (upto_at 1023) (content_at payload)))
    (λ x. (x.0 ∷ []) ++ (big_bytes 2 x.1.0 ++ content_text text x.1.1))
    (λ x. (x.0 ≤ 31) × ((x.1.0 ≤ 1023) × (IsContentInRange x.1.1 × FitsContent Fits x.1.1)))
filled_are payload text Fits field = pair_is host_at (pair_at (upto_at 1023) (content_at payload)) _ _ _ _ host_is
    (pair_is (upto_at 1023) (content_at payload) _ _ _ _ (upto_is 1023 (omega arith)) (content_is payload text Fits field))

-- sender, host, number and payload
attested_are : (payload : Reads (List ℤ)) (text : List ℤ → List ℕ) (Fits : List ℤ → Type 0) → IsField payload text Fits
    → IsField (pair_at host_at (pair_at host_at (pair_at (upto_at 65535) payload)))
    (λ x. (x.0 ∷ []) ++ ((x.1.0 ∷ []) ++ (big_bytes 2 x.1.1.0 ++ text x.1.1.1)))
    (λ x. (x.0 ≤ 31) × ((x.1.0 ≤ 31) × ((x.1.1.0 ≤ 65535) × Fits x.1.1.1)))
attested_are payload text Fits field = pair_is host_at (pair_at host_at (pair_at (upto_at 65535) payload)) _ _ _ _ host_is
    (pair_is host_at (pair_at (upto_at 65535) payload) _ _ _ _ host_is (pair_is (upto_at 65535) payload _ _ _ _ (upto_is 65535 (omega arith)) field))

-- a host and a slot
slot_is : (most : ℕ) → most < 2 ^ 16 → IsField (slot_at most) (λ x. slot_bytes x.0 x.1) (λ x. (x.0 ≤ 31) × (x.1 ≤ most))
slot_is most small = pair_is host_at (upto_at most) _ _ _ _ host_is (upto_is most small)

-- ---- kinds

-- the byte of a kind
abbrev byte_of : Kind → ℕ
byte_of (Filled kind) = filled_byte kind
byte_of Attest = 0x04
byte_of Ask = 0x05
byte_of Wedge = 0x06
byte_of Frozen = 0x08
byte_of Open = 0x09

-- the kind of a body
abbrev kind_of_body : Body → Kind
kind_of_body (body.Filled kind h slot content) = Filled kind
kind_of_body (body.Attest p h k payload) = Attest
kind_of_body (body.Ask h slot) = Ask
kind_of_body body.Wedge = Wedge
kind_of_body (body.Frozen h slot) = Frozen
kind_of_body (body.Open lengths) = Open

-- the byte of a body is that of its kind
kind_byte_is : (b : Body) → kind_byte b ≡ byte_of (kind_of_body b)
kind_byte_is (body.Filled kind h slot content) = refl
kind_byte_is (body.Attest p h k payload) = refl
kind_byte_is (body.Ask h slot) = refl
kind_byte_is body.Wedge = refl
kind_byte_is (body.Frozen h slot) = refl
kind_byte_is (body.Open lengths) = refl

-- the byte of a kind names it
named_is : (k : Kind) → kind_named (byte_of k) ≡ Some k
named_is (Filled Offer) = refl
named_is (Filled Order) = refl
named_is (Filled Deliver) = refl
named_is Attest = refl
named_is Ask = refl
named_is Wedge = refl
named_is (Filled Report) = refl
named_is Frozen = refl
named_is Open = refl
named_is (Filled Inherit) = refl

-- of equal kinds the byte is the same
some_is : (k l : Kind) (b : ℕ) → byte_of k ≡ b → Some k ≡ Some l → byte_of l ≡ b
some_is k l b is e = let same : k ≡ l = cc in subst (λ m. byte_of m ≡ b) same is

-- a byte that names a kind is its byte
named_byte : (b : ℕ) (k : Kind) → kind_named b ≡ Some k → byte_of k ≡ b
named_byte zero k e = absurd cc
named_byte (suc zero) k e = some_is (Filled Offer) k 1 refl e
named_byte (suc (suc zero)) k e = some_is (Filled Order) k 2 refl e
named_byte (suc (suc (suc zero))) k e = some_is (Filled Deliver) k 3 refl e
named_byte (suc (suc (suc (suc zero)))) k e = some_is Attest k 4 refl e
named_byte (suc (suc (suc (suc (suc zero))))) k e = some_is Ask k 5 refl e
named_byte (suc (suc (suc (suc (suc (suc zero)))))) k e = some_is Wedge k 6 refl e
named_byte (suc (suc (suc (suc (suc (suc (suc zero))))))) k e = some_is (Filled Report) k 7 refl e
named_byte (suc (suc (suc (suc (suc (suc (suc (suc zero)))))))) k e = some_is Frozen k 8 refl e
named_byte (suc (suc (suc (suc (suc (suc (suc (suc (suc zero))))))))) k e = some_is Open k 9 refl e
named_byte (suc (suc (suc (suc (suc (suc (suc (suc (suc (suc zero)))))))))) k e = some_is (Filled Inherit) k 10 refl e
named_byte (suc (suc (suc (suc (suc (suc (suc (suc (suc (suc (suc n))))))))))) k e = absurd cc

-- the kind that was found is the one that is named
found_kind : (here after : Reading) (o : Option Kind) (x : Kind × Reading) → kind_or_fault here after o ≡ Ok x → (o ≡ Some x.0) × (after ≡ x.1)
found_kind here after None x e = absurd cc
found_kind here after (Some k) x e =
    let same : (k, after) ≡ x = ok_is (k, after) x e in
    (ap (λ (y : Kind × Reading). Some y.0) same, ap (λ (y : Kind × Reading). y.1) same)

-- the byte of a kind is a byte
small_byte : (k : Kind) → byte_of k < 256
small_byte (Filled Offer) = omega arith
small_byte (Filled Order) = omega arith
small_byte (Filled Deliver) = omega arith
small_byte Attest = omega arith
small_byte Ask = omega arith
small_byte Wedge = omega arith
small_byte (Filled Report) = omega arith
small_byte Frozen = omega arith
small_byte Open = omega arith
small_byte (Filled Inherit) = omega arith

-- a kind
kind_is : IsField kind_at (λ k. byte_of k ∷ []) (λ k. Unit {0})
unfolding kind_at
kind_is = record {
  takes = λ before x bytes e.
      let a = bind_ok (byte_at before) (λ b. kind_or_fault before b.1 (kind_named b.0)) x e in
      let first = byte_is.takes before a.0 bytes a.1 in
      let found = found_kind before a.0.1 (kind_named a.0.0) x a.2 in
      let byte-is : byte_of x.0 ≡ a.0.0 = named_byte a.0.0 x.0 found.0 in
      let took : Took before (byte_of x.0 ∷ []) a.0.1 = rw byte-is first.0 in
      (subst (λ (r : Reading). Took before (byte_of x.0 ∷ []) r) found.1 took, tt);
  again = λ v rest place fits.
      then_again (byte_at (at place (byte_of v ∷ rest))) (λ b. kind_or_fault (at place (byte_of v ∷ rest)) b.1 (kind_named b.0)) (byte_of v) rest v rest
      (byte_is.again (byte_of v) rest place (small_byte v))
      (λ mid. (mid, rw (named_is v) refl));
}

-- ---- bodies

-- a body within its ranges with such a payload
record IsBody (Fits : List ℤ → Type 0) (b : Body) : Type 0 where
  range : IsBodyInRange b
  parts : FitsBody Fits b

-- a body of this kind was read
abbrev WasRead : (List ℤ → List ℕ) → (List ℤ → Type 0) → Reading → Kind → Body × Reading → Type 0
WasRead text Fits before k x = Took before (body_text text x.0) x.1 × IsBody Fits x.0 × (kind_of_body x.0 ≡ k)

-- a body that is read is spelled so
body_takes : (payload : Reads (List ℤ)) (text : List ℤ → List ℕ) (Fits : List ℤ → Type 0) → IsField payload text Fits
    → (k : Kind) (before : Reading) (x : Body × Reading) → IsBytes before.left → body_at payload k before ≡ Ok x → WasRead text Fits before k x
unfolding body_at filled_at attested_at
body_takes payload text Fits field (Filled kind) before x bytes e =
    map_takes (pair_at host_at (pair_at (upto_at 1023) (content_at payload))) (λ y. body.Filled kind y.0 y.1.0 y.1.1) (WasRead text Fits before (Filled kind)) before x e
    (λ y is. let t = (filled_are payload text Fits field).takes before y bytes is in
    (t.0, record { range = (t.1.0, t.1.1.0, t.1.1.1.0); parts = t.1.1.1.1 }, refl))
body_takes payload text Fits field Attest before x bytes e =
    map_takes (pair_at host_at (pair_at host_at (pair_at (upto_at 65535) payload))) (λ y. body.Attest y.0 y.1.0 y.1.1.0 y.1.1.1) (WasRead text Fits before Attest) before x e
    (λ y is. let t = (attested_are payload text Fits field).takes before y bytes is in
    (t.0, record { range = (t.1.0, t.1.1.0, t.1.1.1.0); parts = t.1.1.1.1 }, refl))
body_takes payload text Fits field Ask before x bytes e = map_takes (slot_at 1023) (λ y. body.Ask y.0 y.1) (WasRead text Fits before Ask) before x e
    (λ y is. let t = (slot_is 1023 (omega arith)).takes before y bytes is in (t.0, record { range = t.1; parts = tt }, refl))
body_takes payload text Fits field Wedge before x bytes e =
    subst (WasRead text Fits before Wedge) (ok_is (body.Wedge, before) x e) (record { parts = refl; bytes = bytes }, record { range = tt; parts = tt }, refl)
body_takes payload text Fits field Frozen before x bytes e = map_takes (slot_at 1024) (λ y. body.Frozen y.0 y.1) (WasRead text Fits before Frozen) before x e
    (λ y is. let t = (slot_is 1024 (omega arith)).takes before y bytes is in (t.0, record { range = t.1; parts = tt }, refl))
body_takes payload text Fits field Open before x bytes e = map_takes lengths_at body.Open (WasRead text Fits before Open) before x e
    (λ y is. let t = lengths_are.takes before y bytes is in (t.0, record { range = t.1.0; parts = t.1.1 }, refl))

-- a body that is spelled is read
body_again : (payload : Reads (List ℤ)) (text : List ℤ → List ℕ) (Fits : List ℤ → Type 0) → IsField payload text Fits
    → (b : Body) (rest : List ℕ) (place : ℕ) → IsBody Fits b → Again (body_at payload (kind_of_body b) (at place (body_text text b ++ rest))) b rest
unfolding body_at filled_at attested_at
body_again payload text Fits field (body.Filled kind h slot content) rest place is =
    map_again (pair_at host_at (pair_at (upto_at 1023) (content_at payload))) (λ y. body.Filled kind y.0 y.1.0 y.1.1) (h, (slot, content)) rest
    (at place (((h ∷ []) ++ (big_bytes 2 slot ++ content_text text content)) ++ rest))
    ((filled_are payload text Fits field).again (h, (slot, content)) rest place (is.range.0, (is.range.1, (is.range.2, is.parts))))
body_again payload text Fits field (body.Attest p h k numbers) rest place is =
    map_again (pair_at host_at (pair_at host_at (pair_at (upto_at 65535) payload))) (λ y. body.Attest y.0 y.1.0 y.1.1.0 y.1.1.1) (p, (h, (k, numbers))) rest
    (at place (((p ∷ []) ++ ((h ∷ []) ++ (big_bytes 2 k ++ text numbers))) ++ rest))
    ((attested_are payload text Fits field).again (p, (h, (k, numbers))) rest place (is.range.0, (is.range.1, (is.range.2, is.parts))))
body_again payload text Fits field (body.Ask h slot) rest place is = map_again (slot_at 1023) (λ y. body.Ask y.0 y.1) (h, slot) rest (at place (slot_bytes h slot ++ rest)) ((slot_is 1023 (omega arith)).again (h, slot) rest place is.range)
body_again payload text Fits field body.Wedge rest place is = (place, refl)
body_again payload text Fits field (body.Frozen h slot) rest place is = map_again (slot_at 1024) (λ y. body.Frozen y.0 y.1) (h, slot) rest (at place (slot_bytes h slot ++ rest)) ((slot_is 1024 (omega arith)).again (h, slot) rest place is.range)
body_again payload text Fits field (body.Open lengths) rest place is = map_again lengths_at body.Open lengths rest (at place ((length lengths ∷ flat_map length_bytes lengths) ++ rest)) (lengths_are.again lengths rest place (is.range, is.parts))

-- ---- statements

-- a statement that is read is spelled so
statement_takes : (payload : Reads (List ℤ)) (text : List ℤ → List ℕ) (Fits : List ℤ → Type 0) → IsField payload text Fits
    → (before : Reading) (x : Statement × Reading) → IsBytes before.left → statement_at payload before ≡ Ok x → Took before (statement_text text x.0) x.1 × FitsStatement Fits x.0
unfolding statement_at statement_text
statement_takes payload text Fits field before x bytes e =
    let a = bind_ok (kind_at before) (λ kind. upto_at 63 kind.1 >>= λ epoch. body_at payload kind.0 epoch.1 >>= λ b. Ok (record { epoch = epoch.0; body = b.0 }, b.1)) x e in
    let b = bind_ok (upto_at 63 a.0.1) (λ epoch. body_at payload a.0.0 epoch.1 >>= λ b. Ok (record { epoch = epoch.0; body = b.0 }, b.1)) x a.2 in
    let c = bind_ok (body_at payload a.0.0 b.0.1) (λ y. Ok (record { epoch = b.0.0; body = y.0 }, y.1)) x b.2 in
    let t0 = kind_is.takes before a.0 bytes a.1 in
    let t1 = (upto_is 63 (omega arith)).takes a.0.1 b.0 t0.0.bytes b.1 in
    let t2 = body_takes payload text Fits field a.0.0 b.0.1 c.0 t1.0.bytes c.1 in
    let byte-is : byte_of a.0.0 ≡ kind_byte c.0.0 = ap byte_of (sym t2.2) ∙ sym (kind_byte_is c.0.0) in
    let behind = Took-then a.0.1 b.0.1 c.0.1 (big_bytes 2 b.0.0) (body_text text c.0.0) t1.0 t2.0 in
    let front : Took before (kind_byte c.0.0 ∷ []) a.0.1 = subst (λ (n : ℕ). Took before (n ∷ []) a.0.1) byte-is t0.0 in
    let whole = Took-then before a.0.1 c.0.1 (kind_byte c.0.0 ∷ []) (big_bytes 2 b.0.0 ++ body_text text c.0.0) front behind in
    let made : Statement × Reading = (record { epoch = b.0.0; body = c.0.0 }, c.0.1) in
    subst (λ (y : Statement × Reading). Took before (statement_text text y.0) y.1 × FitsStatement Fits y.0) (ok_is made x c.2)
    (whole, record { range = record { epoch = t1.1; body = t2.1.range }; parts = t2.1.parts })

-- a statement that is spelled is read
statement_again : (payload : Reads (List ℤ)) (text : List ℤ → List ℕ) (Fits : List ℤ → Type 0) → IsField payload text Fits
    → (s : Statement) (rest : List ℕ) (place : ℕ) → FitsStatement Fits s → Again (statement_at payload (at place (statement_text text s ++ rest))) s rest
unfolding statement_at statement_text
statement_again payload text Fits field s rest place is =
    let k = kind_of_body s.body in
    let behind : List ℕ = big_bytes 2 s.epoch ++ (body_text text s.body ++ rest) in
    let grouped : (kind_byte s.body ∷ big_bytes 2 s.epoch ++ body_text text s.body) ++ rest ≡ byte_of k ∷ behind =
    ap (λ (n : ℕ). n ∷ behind) (kind_byte_is s.body) in
    subst (λ (l : List ℕ). Again (statement_at payload (at place l)) s rest) (sym grouped)
    (then_again (kind_at (at place (byte_of k ∷ behind))) (λ kind. upto_at 63 kind.1 >>= λ epoch. body_at payload kind.0 epoch.1 >>= λ b. Ok (record { epoch = epoch.0; body = b.0 }, b.1)) k behind s rest
    (kind_is.again k behind place tt)
    (λ mid. then_again (upto_at 63 (at mid behind)) (λ epoch. body_at payload k epoch.1 >>= λ b. Ok (record { epoch = epoch.0; body = b.0 }, b.1)) s.epoch (body_text text s.body ++ rest) s rest
    ((upto_is 63 (omega arith)).again s.epoch (body_text text s.body ++ rest) mid is.range.epoch)
    (λ mid2. then_again (body_at payload k (at mid2 (body_text text s.body ++ rest))) (λ b. Ok (record { epoch = s.epoch; body = b.0 }, b.1)) s.body rest s rest
    (body_again payload text Fits field s.body rest mid2 (record { range = is.range.body; parts = is.parts }))
    (λ last. (last, refl)))))

-- a statement
pub statement_is : (payload : Reads (List ℤ)) (text : List ℤ → List ℕ) (Fits : List ℤ → Type 0) → IsField payload text Fits
    → IsField (statement_at payload) (statement_text text) (FitsStatement Fits)
statement_is payload text Fits field = record {
  takes = statement_takes payload text Fits field;
  again = statement_again payload text Fits field;
}

-- a statement with its payload behind it, as records have it
pub carried_statement_is : IsField (statement_at carried_at) (λ s. spelling s ++ carried_bytes (payload_in s.body)) IsStatement
carried_statement_is = retext (statement_at carried_at) (statement_text carried_text) (λ s. spelling s ++ carried_bytes (payload_in s.body)) IsStatement
    (refit (statement_at carried_at) (statement_text carried_text) (FitsStatement IsPayload) IsStatement (statement_is carried_at carried_text IsPayload carried_is)
    (λ s f. record { range = f.range; sound = body_sound s.body f.parts })
    (λ s f. record { range = f.range; parts = body_fits s.body f.sound }))
    statement_carried
