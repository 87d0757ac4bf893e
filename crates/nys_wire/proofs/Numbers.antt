-- Bytes and numbers of a width: what is read is what stands there, and what was written is read again.
use Rattle.std.proofs.Common.{◌≡◌, ℕ, suc, ◌+◌, ◌^◌, ◌<◌, ◌≤◌, true, false, ltb, List, [], ◌∷◌, ◌++◌, length, take, drop, Ok, Err, refl, sym, subst, arith, inl, inr}
use Rattle.std.specs.Int.{Width, w16, w64, byte_len, from_be_bytes, to_be_bytes}
use Rattle.std.proofs.lemmas.Bool.{cases_lt, ltb-false, le-ltb}
use Rattle.std.proofs.lemmas.List.{take_at, drop_at, take-append-drop, length-append, length-take, get_or-drop, get_or-take, get_or_past}
use Rattle.std.proofs.lemmas.Nat.{be_bytes_2, be_bytes_8, from_be_bytes-to_be_bytes_2, from_be_bytes-to_be_bytes_8}
use Rattle.nys_bytes.specs.Reading.{Reading}
use Rattle.nys_stmt.specs.declared.wire.WireKind.TheVariants.{Short}
use Rattle.nys_wire.specs.declared.fault.WireFault.TheVariants.{At}
use Rattle.nys_wire.specs.Reading.{byte_at, number_at, bytes_at, passed}
use Rattle.nys_wire.proofs.Steps.{IsBytes, IsField, Took, at, guard_ok, ok_is}

-- what is left of bytes are bytes
pub IsBytes-drop : (n : ℕ) (bytes : List ℕ) → IsBytes bytes → IsBytes (drop n bytes)
IsBytes-drop n bytes h i = rw get_or-drop (h (n + i))

-- the front of bytes are bytes
pub IsBytes-take : (n : ℕ) (bytes : List ℕ) → IsBytes bytes → IsBytes (take n bytes)
IsBytes-take n bytes h i =
    elim (cases_lt i n) [
      | inl lt ↦ rw (get_or-take n bytes i 0 lt) (h i)
      | inr le ↦ rw (get_or_past (take n bytes) i 0 (omega (arith, length-take n bytes))) (omega arith)
    ]

-- ---- one byte

-- the byte that is read stands in front
byte_from_takes : (place : ℕ) (left : List ℕ) (x : ℕ × Reading) → IsBytes left → byte_at (at place left) ≡ Ok x → Took (at place left) (x.0 ∷ []) x.1 × (x.0 < 256)
unfolding byte_at
byte_from_takes place [] x bytes e = absurd cc
byte_from_takes place (b ∷ rest) x bytes e =
    let made : ℕ × Reading = (b, at (place + 1) rest) in
    subst (λ (y : ℕ × Reading). Took (at place (b ∷ rest)) (y.0 ∷ []) y.1 × (y.0 < 256)) (ok_is made x e)
    (record { parts = refl; bytes = λ i. bytes (suc i) }, bytes 0)

-- a byte
pub byte_is : IsField byte_at (λ b. b ∷ []) (λ b. b < 256)
unfolding byte_at
byte_is = record {
  takes = λ before x bytes e. byte_from_takes before.place before.left x bytes e;
  again = λ v rest place fits. (place + 1, refl);
}

-- ---- numbers

-- the bytes of a width and its numbers below the limit are each other's
pub record IsWide (w : Width) (limit : ℕ) : Type 0 where
  pub len : (n : ℕ) → length (to_be_bytes w n) ≡ byte_len w
  pub back : (bytes : List ℕ) → length bytes ≡ byte_len w → IsBytes bytes → to_be_bytes w (from_be_bytes w bytes) ≡ bytes
  pub again : (n : ℕ) → n < limit → from_be_bytes w (to_be_bytes w n) ≡ n
  pub below : (bytes : List ℕ) → IsBytes bytes → from_be_bytes w bytes < limit

-- numbers of two bytes
pub wide16 : IsWide w16 (2 ^ 16)
wide16 = record {
  len = λ n. refl;
  back = λ bytes len fits. be_bytes_2 bytes _ len fits refl;
  again = λ n lt. from_be_bytes-to_be_bytes_2 n lt;
  below = λ bytes fits. omega (arith, fits 0, fits 1);
}

-- numbers of eight bytes
pub wide64 : IsWide w64 (2 ^ 64)
wide64 = record {
  len = λ n. refl;
  back = λ bytes len fits. be_bytes_8 bytes _ len fits refl;
  again = λ n lt. from_be_bytes-to_be_bytes_8 n lt;
  below = λ bytes fits. omega (arith, fits 0, fits 1, fits 2, fits 3, fits 4, fits 5, fits 6, fits 7);
}

-- the number that is read is spelled in front
number_takes : (w : Width) (limit : ℕ) (wide : IsWide w limit) (before : Reading) (x : ℕ × Reading) → IsBytes before.left → number_at w before ≡ Ok x → Took before (to_be_bytes w x.0) x.1 × (x.0 < limit)
unfolding number_at
number_takes w limit wide before x fits e =
    let bytes = before.left in
    let made : ℕ × Reading = (from_be_bytes w (take (byte_len w) bytes), passed (byte_len w) before) in
    let g = guard_ok (ltb (length bytes) (byte_len w)) (At (before.place + length bytes) Short) made x e in
    let long : byte_len w ≤ length bytes = ltb-false _ _ g.0 in
    let front : to_be_bytes w made.0 ≡ take (byte_len w) bytes =
    wide.back (take (byte_len w) bytes) (omega (arith, length-take (byte_len w) bytes)) (IsBytes-take (byte_len w) bytes fits) in
    subst (λ (y : ℕ × Reading). Took before (to_be_bytes w y.0) y.1 × (y.0 < limit)) g.1 (
      record { parts = rw front (sym (take-append-drop (byte_len w) bytes)); bytes = IsBytes-drop (byte_len w) bytes fits },
      wide.below (take (byte_len w) bytes) (IsBytes-take (byte_len w) bytes fits),
    )

-- what stands in front is read
pub number_read : (w : Width) (limit : ℕ) (wide : IsWide w limit) (here after : Reading) (n : ℕ)
    → here.left ≡ to_be_bytes w n ++ after.left → after.place ≡ here.place + byte_len w → n < limit → number_at w here ≡ Ok (n, after)
unfolding number_at
number_read w limit wide here after n left place lt =
    let len = wide.len n in
    let long : ltb (length here.left) (byte_len w) ≡ false = le-ltb _ _ (rw left (omega (arith, length-append (to_be_bytes w n) after.left))) in
    let front : take (byte_len w) here.left ≡ to_be_bytes w n = rw left (take_at (to_be_bytes w n) after.left (byte_len w) len) in
    let rest : drop (byte_len w) here.left ≡ after.left = rw left (drop_at (to_be_bytes w n) after.left (byte_len w) len) in
    rw (long, front, rest, wide.again n lt, ← place) refl

-- too few bytes
pub number_short : (w : Width) (here : Reading) (size : ℕ) → length here.left < byte_len w → size ≡ here.place + length here.left → number_at w here ≡ Err (At size Short)
unfolding number_at
number_short w here size few is =
    let short : ltb (length here.left) (byte_len w) ≡ true = grind arith in
    rw (short, is) refl

-- a number of a width
pub number_is : (w : Width) (limit : ℕ) → IsWide w limit → IsField (number_at w) (λ n. to_be_bytes w n) (λ n. n < limit)
number_is w limit wide = record {
  takes = λ before x bytes e. number_takes w limit wide before x bytes e;
  again = λ v rest place fits. (place + byte_len w, number_read w limit wide (at place (to_be_bytes w v ++ rest)) (at (place + byte_len w) rest) v refl refl fits);
}

-- ---- bytes as they are

-- what stands in front is read
pub bytes_read : (n : ℕ) (here after : Reading) (field : List ℕ) → length field ≡ n → here.left ≡ field ++ after.left → after.place ≡ here.place + n → bytes_at n here ≡ Ok (field, after)
unfolding bytes_at
bytes_read n here after field len left place =
    let long : ltb (length here.left) n ≡ false = le-ltb _ _ (rw left (omega (arith, length-append field after.left))) in
    let front : take n here.left ≡ field = rw left (take_at field after.left n len) in
    let rest : drop n here.left ≡ after.left = rw left (drop_at field after.left n len) in
    rw (long, front, rest, ← place) refl

-- too few bytes
pub bytes_short : (n : ℕ) (here : Reading) (size : ℕ) → length here.left < n → size ≡ here.place + length here.left → bytes_at n here ≡ Err (At size Short)
unfolding bytes_at
bytes_short n here size few is =
    let short : ltb (length here.left) n ≡ true = grind arith in
    rw (short, is) refl

-- a field of n bytes
pub record IsSized (n : ℕ) (bytes : List ℕ) : Type 0 where
  pub size : length bytes ≡ n
  pub each : IsBytes bytes

-- the bytes that are read stand in front
bytes_take : (n : ℕ) (before : Reading) (x : List ℕ × Reading) → IsBytes before.left → bytes_at n before ≡ Ok x → Took before x.0 x.1 × IsSized n x.0
unfolding bytes_at
bytes_take n before x fits e =
    let bytes = before.left in
    let made : List ℕ × Reading = (take n bytes, passed n before) in
    let g = guard_ok (ltb (length bytes) n) (At (before.place + length bytes) Short) made x e in
    let long : n ≤ length bytes = ltb-false _ _ g.0 in
    subst (λ (y : List ℕ × Reading). Took before y.0 y.1 × IsSized n y.0) g.1 (
      record { parts = sym (take-append-drop n bytes); bytes = IsBytes-drop n bytes fits },
      record { size = omega (arith, length-take n bytes); each = IsBytes-take n bytes fits },
    )

-- bytes as they are
pub bytes_are : (n : ℕ) → IsField (bytes_at n) (λ bytes. bytes) (IsSized n)
bytes_are n = record {
  takes = λ before x bytes e. bytes_take n before x bytes e;
  again = λ v rest place fits. (place + n, bytes_read n (at place (v ++ rest)) (at (place + n) rest) v fits.size refl refl);
}
