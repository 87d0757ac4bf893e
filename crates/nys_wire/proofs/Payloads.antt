-- The numbers of a payload as they lie: read at once, they are what is read one by one.
use Rattle.std.proofs.Common.{◌≡◌, ℕ, zero, suc, ◌+◌, ◌*◌, ◌<◌, ℤ, false, ltb, List, [], ◌∷◌, ◌++◌, length, take, drop, All, Result, Ok, Err, refl, sym, ap, subst, ◌∙◌, append_assoc, arith, inl, inr}
use Rattle.std.specs.Int.{w64, from_be_bytes}
use Rattle.std.specs.List.{flat_map}
use Rattle.byteorder.specs.Endian.{big_bytes}
use Rattle.sha2.specs.Sha256.{sha256}
use Rattle.std.proofs.lemmas.Bool.{cases_lt, le-ltb}
use Rattle.std.proofs.lemmas.Int.{of_z-to_z}
use Rattle.std.proofs.lemmas.List.{append-nil, take_at, drop_at, take-append-drop, length-append, length-take, length-drop, nil_from_length, get_or_past}
use Rattle.std.proofs.lemmas.List.Elements.{All-from_get_or}
use Rattle.std.proofs.lemmas.List.Concat.{flat_map-cons}
use Rattle.nys_bytes.specs.Reading.{Reading}
use Rattle.nys_stmt.specs.declared.wire.WireKind.TheVariants.{Short}
use Rattle.nys_stmt.specs.Spelling.{number_bytes, payload_bytes, digest}
use Rattle.nys_wire.specs.declared.fault.WireFault.{WireFault}
use Rattle.nys_wire.specs.declared.fault.WireFault.TheVariants.{At}
use Rattle.nys_wire.specs.InPlace.{number_of, numbers_in}
use Rattle.nys_wire.specs.Reading.{bytes_at, each_at, number_at, passed, signed_at}
use Rattle.nys_wire.proofs.Steps.{IsBytes, at}
use Rattle.nys_wire.proofs.Places.{bytes_lie}
use Rattle.nys_wire.proofs.Numbers.{wide64, bytes_short, number_short, IsBytes-take, IsBytes-drop}

-- numbers one behind the other
abbrev pub numbers_at : ℕ → Reading → Result (List ℤ × Reading) WireFault
numbers_at n here = each_at (λ _. signed_at) (λ _. 0) n 0 here

-- eight bytes are the spelling of their number
number_spelled : (bytes : List ℕ) → length bytes ≡ 8 → IsBytes bytes → number_bytes (number_of bytes) ≡ bytes
unfolding number_bytes
number_spelled bytes len fits =
    ap (λ (n : ℕ). big_bytes 8 n) (of_z-to_z w64 (from_be_bytes w64 bytes) (wide64.below bytes fits)) ∙ wide64.back bytes len fits

-- the number is read from where eight bytes lie
number_there : (here after : Reading) (front : List ℕ) → length front ≡ 8 → here.left ≡ front ++ after.left → after.place ≡ here.place + 8
    → signed_at here ≡ Ok (number_of front, after)
unfolding signed_at number_at
number_there here after front len left place =
    let long : ltb (length here.left) 8 ≡ false = le-ltb _ _ (rw left (omega (arith, len, length-append front after.left))) in
    let first : take 8 here.left ≡ front = rw left (take_at front after.left 8 len) in
    let rest : drop 8 here.left ≡ after.left = rw left (drop_at front after.left 8 len) in
    rw (long, first, rest, ← place) refl

-- there are too few bytes for one
number_cut : (here : Reading) (size : ℕ) → length here.left < 8 → size ≡ here.place + length here.left → signed_at here ≡ Err (At size Short)
unfolding signed_at
number_cut here size few is = rw (number_short w64 here size few is) refl

-- numbers that lie in these bytes
pub record Lie (n : ℕ) (here after : Reading) (bytes : List ℕ) : Type 0 where
  pub read : numbers_at n here ≡ Ok (numbers_in n bytes, after)
  pub spelled : flat_map number_bytes (numbers_in n bytes) ≡ bytes

-- one more, and it lies in front
lie_next : (n : ℕ) (here mid after : Reading) (front bytes : List ℕ) → length front ≡ 8 → IsBytes front → here.left ≡ front ++ mid.left → mid.place ≡ here.place + 8
    → Lie n mid after bytes → Lie (suc n) here after (front ++ bytes)
unfolding each_at numbers_in
lie_next n here mid after front bytes len fits left place rest =
    let one = number_there here mid front len left place in
    let first : take 8 (front ++ bytes) ≡ front = take_at front bytes 8 len in
    let others : drop 8 (front ++ bytes) ≡ bytes = drop_at front bytes 8 len in
    let numbers = numbers_in n bytes in
    record {
      read = rw (first, others, one, rest.read) refl;
      spelled = rw (first, others) (flat_map-cons number_bytes (number_of front) numbers ∙ ap (λ (l : List ℕ). l ++ flat_map number_bytes numbers) (number_spelled front len fits) ∙ ap (λ (l : List ℕ). front ++ l) rest.spelled);
    }

-- bytes are bytes wherever one looks
bytes_each : (bytes : List ℕ) → All (λ b. b < 256) bytes → IsBytes bytes
bytes_each bytes each i = elim (cases_lt i (length bytes)) [
  | inl lt ↦ each i 0 lt
  | inr le ↦ rw (get_or_past bytes i 0 le) (omega arith)
]

-- what stands in front is read
pub numbers_read : (n : ℕ) (here after : Reading) (bytes : List ℕ) → length bytes ≡ 8 * n → here.left ≡ bytes ++ after.left → after.place ≡ here.place + 8 * n → All (λ b. b < 256) bytes
    → Lie n here after bytes
unfolding each_at numbers_in
numbers_read zero here after bytes len left place fits =
    let nothing : bytes ≡ [] = nil_from_length bytes len in
    let same : here.left ≡ after.left = left ∙ ap (λ (l : List ℕ). l ++ after.left) nothing in
    let there : here.place ≡ after.place = omega (arith, place) in
    record { read = rw (same, there) refl; spelled = sym nothing }
numbers_read (suc n) here after bytes len left place fits =
    let front = take 8 bytes in
    let rest = drop 8 bytes in
    let each : IsBytes bytes = bytes_each bytes fits in
    let whole : front ++ rest ≡ bytes = take-append-drop 8 bytes in
    let mid = at (here.place + 8) (rest ++ after.left) in
    let parts : here.left ≡ front ++ mid.left = left ∙ ap (λ (l : List ℕ). l ++ after.left) (sym whole) ∙ append_assoc front rest after.left in
    let others = numbers_read n mid after rest (omega (arith, len, length-drop 8 bytes)) refl (omega (arith, place)) (All-from_get_or (λ b. b < 256) rest 0 (λ i lt. IsBytes-drop 8 bytes each i)) in
    subst (λ (l : List ℕ). Lie (suc n) here after l) whole
    (lie_next n here mid after front rest (omega (arith, len, length-take 8 bytes)) (IsBytes-take 8 bytes each) parts refl others)

-- too few bytes
pub numbers_short : (n : ℕ) (here : Reading) (size : ℕ) → length here.left < 8 * n → size ≡ here.place + length here.left → numbers_at n here ≡ Err (At size Short)
unfolding each_at
numbers_short zero here size few is = absurd (omega (arith, few))
numbers_short (suc n) here size few is =
    elim (cases_lt (length here.left) 8) [
      | inl lt ↦ rw (number_cut here size lt is) refl
      | inr le ↦
          let front = take 8 here.left in
          let mid = at (here.place + 8) (drop 8 here.left) in
          let parts : here.left ≡ front ++ mid.left = sym (take-append-drop 8 here.left) in
          let one = number_there here mid front (omega (arith, le, length-take 8 here.left)) parts refl in
          let others = numbers_short n mid size (omega (arith, few, le, length-drop 8 here.left)) (omega (arith, is, le, length-drop 8 here.left)) in
          rw (one, others) refl
    ]

-- numbers of which the bytes were read are read
pub numbers_lie : (n : ℕ) (here after : Reading) (bytes : List ℕ) → bytes_at (8 * n) here ≡ Ok (bytes, after) → All (λ b. b < 256) bytes → numbers_at n here ≡ Ok (numbers_in n bytes, after)
numbers_lie n here after bytes read fits =
    let lies = bytes_lie (8 * n) here after bytes read in
    (numbers_read n here after bytes lies.size lies.parts lies.place fits).read

-- bytes are the spelling of their numbers
pub numbers_spelled : (n : ℕ) (bytes : List ℕ) → length bytes ≡ 8 * n → All (λ b. b < 256) bytes → flat_map number_bytes (numbers_in n bytes) ≡ bytes
numbers_spelled n bytes len fits = (numbers_read n (at 0 bytes) (at (8 * n) []) bytes len (sym (append-nil bytes)) (omega arith) fits).spelled

-- a reading that failed
abbrev lost : WireFault → Result (List ℕ × Reading) WireFault
lost e = Err e

-- two equal faults
err_is : (d e : WireFault) → lost d ≡ lost e → d ≡ e
err_is d e h = cc

-- numbers of which the bytes are too few
pub numbers_fail : (n : ℕ) (here : Reading) (e : WireFault) → bytes_at (8 * n) here ≡ Err e → numbers_at n here ≡ Err e
unfolding bytes_at
numbers_fail n here e read =
    let size = here.place + length here.left in
    elim (cases_lt (length here.left) (8 * n)) [
      | inl lt ↦
          let same : e ≡ At size Short = err_is e (At size Short) (sym read ∙ bytes_short (8 * n) here size lt refl) in
          rw same (numbers_short n here size lt refl)
      | inr le ↦ absurd (let long : ltb (length here.left) (8 * n) ≡ false = le-ltb _ _ le in let no : bytes_at (8 * n) here ≡ Ok (take (8 * n) here.left, passed (8 * n) here) = rw long refl in let both = sym no ∙ read in cc)
    ]

-- one number more is taken from the bytes
pub numbers_next : (front total : List ℤ) (m n : ℕ) (left : List ℕ) → m ≡ suc n → front ++ numbers_in m left ≡ total → (front ++ number_of (take 8 left) ∷ []) ++ numbers_in n (drop 8 left) ≡ total
unfolding numbers_in
numbers_next front total m n left one so_far =
    append_assoc front (number_of (take 8 left) ∷ []) (numbers_in n (drop 8 left)) ∙ subst (λ (k : ℕ). front ++ numbers_in k left ≡ total) one so_far

-- all are taken
pub numbers_done : (front total : List ℤ) (m : ℕ) (left : List ℕ) → m ≡ 0 → front ++ numbers_in m left ≡ total → front ≡ total
unfolding numbers_in
numbers_done front total m left none so_far = sym (append-nil front) ∙ subst (λ (k : ℕ). front ++ numbers_in k left ≡ total) none so_far

-- as many numbers lie there as were asked
pub length-numbers_in : (n : ℕ) (bytes : List ℕ) → length (numbers_in n bytes) ≡ n
unfolding numbers_in
length-numbers_in zero bytes = refl
length-numbers_in (suc n) bytes = ap suc (length-numbers_in n (drop 8 bytes))

-- the digest of a payload, by the bytes in which it lies
pub digest_read : (zs : List ℤ) (count : ℕ) (bytes found : List ℕ) → length zs ≡ count → flat_map number_bytes zs ≡ bytes → found ≡ sha256 (big_bytes 2 count ++ bytes) → digest zs ≡ found
unfolding digest payload_bytes
digest_read zs count bytes found len spelled is =
    ap (λ (n : ℕ). sha256 (big_bytes 2 n ++ flat_map number_bytes zs)) len ∙ ap (λ (l : List ℕ). sha256 (big_bytes 2 count ++ l)) spelled ∙ sym is
