-- The parts of statements as fields: hosts, numbers, payloads, contents.
use Rattle.std.proofs.Common.{◌≡◌, ℕ, ◌^◌, ◌+◌, ◌<◌, ◌≤◌, ℤ, true, eqb, List, [], ◌∷◌, ◌++◌, Ok, refl, sym, ap, subst, ◌∙◌, append_assoc, arith, inl, inr}
use Rattle.std.specs.Prelude.{FitsSigned, bytes_eq}
use Rattle.std.specs.Int.{w16, w64, cast_signed, cast_unsigned}
use Rattle.byteorder.specs.Endian.{big_bytes}
use Rattle.std.proofs.lemmas.Bool.{eqb-true, eqb-false}
use Rattle.std.proofs.Math.Facts.{sfits_to_z, Fits-of_z, Fits-of_lt}
use Rattle.std.proofs.lemmas.Int.{of_z-to_z, to_z-of_z}
use Rattle.std.proofs.lemmas.Slice.Eq.{bytes_eq-Decides}
use Rattle.nys_bytes.specs.Reading.{Reading}
use Rattle.nys_bytes.specs.declared.content.Content.{Content}
use Rattle.nys_bytes.specs.declared.content.Content.TheVariants.{External, Message}
use Rattle.nys_bytes.specs.declared.payload.TheConstants.{MAX_NUMBERS}
use Rattle.nys_stmt.specs.declared.wire.WireKind.TheVariants as wrong
use Rattle.nys_stmt.specs.Ranges.{IsContentInRange, IsPayload}
use Rattle.nys_stmt.specs.Spelling.{number_bytes, payload_bytes, digest}
use Rattle.nys_stmt.proofs.Sizes.{length-digest}
use Rattle.nys_wire.specs.declared.fault.WireFault.TheVariants.{At}
use Rattle.nys_wire.specs.Reading.{Reads, ◌>>=◌, map_at, pair_at, byte_at, number_at, bytes_at, within, signed_at, payload_at, matched, carried_at, host_at, upto_at, message_at, content_of, content_at}
use Rattle.nys_wire.proofs.Steps.{IsBytes, IsField, Took, Took-then, Again, at, bind_ok, test_ok, chosen, then_again, pair_is, map_takes, map_again}
use Rattle.nys_wire.proofs.Numbers.{byte_is, number_is, wide16, wide64, bytes_are, bytes_read}
use Rattle.nys_wire.proofs.Texts.{content_text, FitsContent}
use Rattle.nys_wire.proofs.Chains.{refit, within_is, counted_is, each-chain, chain-each}

-- a host
pub host_is : IsField host_at (λ h. h ∷ []) (λ h. h ≤ 31)
host_is = refit host_at (λ h. h ∷ []) (λ n. (n < 256) × (0 ≤ n) × (n ≤ 31)) (λ h. h ≤ 31)
    (within_is 0 31 wrong.Range byte_at (λ b. b ∷ []) (λ b. b < 256) byte_is) (λ v f. f.2) (λ v f. (omega arith, omega arith, f))

-- a number of two bytes up to a bound
pub upto_is : (most : ℕ) → most < 2 ^ 16 → IsField (upto_at most) (λ n. big_bytes 2 n) (λ n. n ≤ most)
upto_is most small = refit (upto_at most) (λ n. big_bytes 2 n) (λ n. (n < 2 ^ 16) × (0 ≤ n) × (n ≤ most)) (λ n. n ≤ most)
    (within_is 0 most wrong.Range (number_at w16) (λ n. big_bytes 2 n) (λ n. n < 2 ^ 16) (number_is w16 (2 ^ 16) wide16)) (λ v f. f.2) (λ v f. (omega (arith, small, f), omega arith, f))

-- a signed number
signed_is : IsField signed_at number_bytes (λ z. FitsSigned w64 z)
unfolding signed_at number_bytes
signed_is = record {
  takes = λ before x bytes e.
      map_takes (number_at w64) (cast_signed w64) (λ (y : ℤ × Reading). Took before (big_bytes 8 (cast_unsigned w64 y.0)) y.1 × FitsSigned w64 y.0) before x e
      (λ y is.
      let t = (number_is w64 (2 ^ 64) wide64).takes before y bytes is in
      (rw (of_z-to_z w64 y.0 t.1) t.0, sfits_to_z (Fits-of_lt t.1)));
  again = λ v rest place fits.
      let low : cast_unsigned w64 v < 2 ^ 64 = (Fits-of_z fits).fits in
      subst (λ (z : ℤ). Again (map_at (cast_signed w64) (number_at w64) (at place (big_bytes 8 (cast_unsigned w64 v) ++ rest))) z rest) (to_z-of_z w64 v fits)
      (map_again (number_at w64) (cast_signed w64) (cast_unsigned w64 v) rest (at place (big_bytes 8 (cast_unsigned w64 v) ++ rest))
      ((number_is w64 (2 ^ 64) wide64).again (cast_unsigned w64 v) rest place low));
}

-- a payload
payload_is : IsField payload_at payload_bytes IsPayload
unfolding payload_at payload_bytes
payload_is = refit payload_at payload_bytes _ IsPayload
    (counted_is (number_at w16) (λ n. big_bytes 2 n) (2 ^ 16) MAX_NUMBERS (λ _. signed_at) (λ _. 0) number_bytes (λ _ z. FitsSigned w64 z)
    (number_is w16 (2 ^ 16) wide16) (omega arith) (λ _. signed_is))
    (λ v f. record { some = f.0; few = f.1; fit = each-chain (λ z. FitsSigned w64 z) (λ _. 0) 0 v f.2 })
    (λ v f. (f.some, f.few, chain-each (λ z. FitsSigned w64 z) (λ _. 0) 0 v f.fit))

-- a digest stands in front where it is written
pub digest_again : (payload : List ℤ) (rest : List ℕ) (place : ℕ) → Again (bytes_at 32 (at place (digest payload ++ rest))) (digest payload) rest
digest_again payload rest place = (place + 32, bytes_read 32 (at place (digest payload ++ rest)) (at (place + 32) rest) (digest payload) (length-digest payload) refl refl)

-- a payload behind its digest
pub carried_is : IsField carried_at (λ p. digest p ++ payload_bytes p) IsPayload
unfolding carried_at
carried_is = record {
  takes = λ before x bytes e.
      let a = bind_ok (bytes_at 32 before) (λ d. payload_at d.1 >>= matched before d.0) x e in
      let b = bind_ok (payload_at a.0.1) (matched before a.0.0) x a.2 in
      let g = test_ok (bytes_eq a.0.0 (digest b.0.0)) (At before.place wrong.Digest) b.0 x b.2 in
      let same : a.0.0 ≡ digest b.0.0 = (bytes_eq-Decides a.0.0 (digest b.0.0)).0 g.0 in
      let t0 = (bytes_are 32).takes before a.0 bytes a.1 in
      let t1 = payload_is.takes a.0.1 b.0 t0.0.bytes b.1 in
      let front : Took before (digest b.0.0) a.0.1 = subst (λ (l : List ℕ). Took before l a.0.1) same t0.0 in
      let whole = Took-then before a.0.1 b.0.1 (digest b.0.0) (payload_bytes b.0.0) front t1.0 in
      subst (λ (y : List ℤ × Reading). Took before (digest y.0 ++ payload_bytes y.0) y.1 × IsPayload y.0) g.1 (whole, t1.1);
  again = λ v rest place fits.
      let behind : List ℕ = payload_bytes v ++ rest in
      let here = at place (digest v ++ behind) in
      let same : bytes_eq (digest v) (digest v) ≡ true = (bytes_eq-Decides (digest v) (digest v)).1 refl in
      subst (λ (l : List ℕ). Again (carried_at (at place l)) v rest) (sym (append_assoc (digest v) (payload_bytes v) rest))
      (then_again (bytes_at 32 here) (λ d. payload_at d.1 >>= matched here d.0) (digest v) behind v rest (digest_again v behind place)
      (λ mid. then_again (payload_at (at mid behind)) (matched here (digest v)) v rest v rest (payload_is.again v rest mid fits)
      (λ last. (last, rw same refl))));
}

-- ---- contents, whose payloads are some field

-- the first byte of a content
first_is : IsField (within 0 1 wrong.Content byte_at) (λ b. b ∷ []) (λ b. (b < 256) × (0 ≤ b) × (b ≤ 1))
first_is = within_is 0 1 wrong.Content byte_at (λ b. b ∷ []) (λ b. b < 256) byte_is

-- sender, number and payload
parts_are : (payload : Reads (List ℤ)) (text : List ℤ → List ℕ) (Fits : List ℤ → Type 0) → IsField payload text Fits
    → IsField (pair_at host_at (pair_at (upto_at 65535) payload)) (λ x. (x.0 ∷ []) ++ (big_bytes 2 x.1.0 ++ text x.1.1)) (λ x. (x.0 ≤ 31) × ((x.1.0 ≤ 65535) × Fits x.1.1))
parts_are payload text Fits is = pair_is host_at (pair_at (upto_at 65535) payload) _ _ _ _ host_is (pair_is (upto_at 65535) payload _ _ _ _ (upto_is 65535 (omega arith)) is)

-- a content was read
abbrev WasContent : (List ℤ → List ℕ) → (List ℤ → Type 0) → Reading → Content × Reading → Type 0
WasContent text Fits before x = Took before (content_text text x.0) x.1 × IsContentInRange x.0 × FitsContent Fits x.0

-- a message
message_takes : (payload : Reads (List ℤ)) (text : List ℤ → List ℕ) (Fits : List ℤ → Type 0) → IsField payload text Fits
    → (before : Reading) (x : Content × Reading) → IsBytes before.left → message_at payload before ≡ Ok x
    → (bytes : List ℕ) → bytes ≡ 1 ∷ before.left → (p : ℕ) → WasContent text Fits (at p bytes) x
unfolding message_at
message_takes payload text Fits field before x fits e bytes is p =
    map_takes (pair_at host_at (pair_at (upto_at 65535) payload)) (λ x. Message x.0 x.1.0 x.1.1) (WasContent text Fits (at p bytes)) before x e
    (λ y found. let t = (parts_are payload text Fits field).takes before y fits found in
    (record { parts = is ∙ ap (λ (l : List ℕ). 1 ∷ l) t.0.parts; bytes = t.0.bytes }, (t.1.0, t.1.1.0), t.1.1.1))

-- a content that is read is spelled so
content_takes : (payload : Reads (List ℤ)) (text : List ℤ → List ℕ) (Fits : List ℤ → Type 0) → IsField payload text Fits
    → (before : Reading) (x : Content × Reading) → IsBytes before.left → content_at payload before ≡ Ok x → WasContent text Fits before x
unfolding content_at
content_takes payload text Fits field before x fits e =
    let a = bind_ok (within 0 1 wrong.Content byte_at before) (content_of payload) x e in
    let first = first_is.takes before a.0 fits a.1 in
    elim (chosen (eqb a.0.0 0) (map_at External payload a.0.1) (message_at payload a.0.1) (Ok x) a.2) [
      | inl c ↦
          let zero-is : a.0.0 ≡ 0 = eqb-true a.0.0 0 c.0 in
          let start : before.left ≡ 0 ∷ a.0.1.left = first.0.parts ∙ ap (λ (b : ℕ). b ∷ a.0.1.left) zero-is in
          map_takes payload External (WasContent text Fits before) a.0.1 x c.1
          (λ y found. let t = field.takes a.0.1 y first.0.bytes found in
          (record { parts = start ∙ ap (λ (l : List ℕ). 0 ∷ l) t.0.parts; bytes = t.0.bytes }, tt, t.1))
      | inr c ↦
          let other : a.0.0 ≡ 0 → ⊥ = eqb-false a.0.0 0 c.0 in
          let one : a.0.0 ≡ 1 = omega (arith, other, first.1.2) in
          let start : before.left ≡ 1 ∷ a.0.1.left = first.0.parts ∙ ap (λ (b : ℕ). b ∷ a.0.1.left) one in
          message_takes payload text Fits field a.0.1 x first.0.bytes c.1 before.left start before.place
    ]

-- a content that is spelled is read
content_again : (payload : Reads (List ℤ)) (text : List ℤ → List ℕ) (Fits : List ℤ → Type 0) → IsField payload text Fits
    → (v : Content) (rest : List ℕ) (place : ℕ) → IsContentInRange v × FitsContent Fits v → Again (content_at payload (at place (content_text text v ++ rest))) v rest
unfolding content_at message_at
content_again payload text Fits field (External numbers) rest place fits =
    let behind : List ℕ = text numbers ++ rest in
    then_again (within 0 1 wrong.Content byte_at (at place (0 ∷ behind))) (content_of payload) 0 behind (External numbers) rest
    (first_is.again 0 behind place (omega arith, omega arith, omega arith))
    (λ mid. map_again payload External numbers rest (at mid behind) (field.again numbers rest mid fits.1))
content_again payload text Fits field (Message p k numbers) rest place fits =
    let behind : List ℕ = ((p ∷ []) ++ (big_bytes 2 k ++ text numbers)) ++ rest in
    then_again (within 0 1 wrong.Content byte_at (at place (1 ∷ behind))) (content_of payload) 1 behind (Message p k numbers) rest
    (first_is.again 1 behind place (omega arith, omega arith, omega arith))
    (λ mid. map_again (pair_at host_at (pair_at (upto_at 65535) payload)) (λ x. Message x.0 x.1.0 x.1.1) (p, (k, numbers)) rest (at mid behind)
    ((parts_are payload text Fits field).again (p, (k, numbers)) rest mid (fits.0.0, (fits.0.1, fits.1))))

-- a content
pub content_is : (payload : Reads (List ℤ)) (text : List ℤ → List ℕ) (Fits : List ℤ → Type 0) → IsField payload text Fits
    → IsField (content_at payload) (content_text text) (λ c. IsContentInRange c × FitsContent Fits c)
content_is payload text Fits field = record {
  takes = λ before x bytes e. let t = content_takes payload text Fits field before x bytes e in (t.0, (t.1, t.2));
  again = content_again payload text Fits field;
}
