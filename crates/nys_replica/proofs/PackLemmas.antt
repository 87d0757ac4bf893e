-- Numbers and their bytes.
use Rattle.std.proofs.Common.{◌≡◌, ℕ, suc, ◌+◌, ◌<◌, ◌^◌, ℤ, List, [], ◌∷◌, ◌++◌, length, take, drop, get_or, refl, sym, ap, ◌∙◌, append-nil, arith, w64, length-append}
use Rattle.std.specs.Prelude.{FitsSigned}
use Rattle.std.specs.Int.{from_be_bytes, cast_signed, cast_unsigned}
use Rattle.std.proofs.Math.Facts.{Fits-of_z}
use Rattle.std.proofs.lemmas.Int.{to_z-of_z}
use Rattle.std.proofs.lemmas.Nat.{from_be_bytes-to_be_bytes_8}
use Rattle.std.proofs.lemmas.List.{take_at, drop_at}
use Rattle.std.proofs.lemmas.List.Concat.{flat_map-cons}
use Rattle.std.proofs.lemmas.List.Elements.{All-head, All-more, All-nil, All-tail}
use Rattle.std.proofs.lemmas.Grind.{flat_map-append}
use Rattle.std.proofs.Math.Seq.{take-suc}
use Rattle.byteorder.specs.Endian.{big_bytes}
use Rattle.nys_replica.specs.Packing.{IsPacked, number_bytes, packed}

-- no bytes are those of no numbers
pub none_packed : (bytes : List ℕ) (numbers : List ℤ) → bytes ≡ [] → IsPacked bytes (take 0 numbers)
none_packed bytes numbers is = record { bytes_are = is; fit = All-nil (λ z. FitsSigned w64 z) }

-- the bytes of one number more stand behind those of the numbers before it
pub one_more_packed : (numbers : List ℤ) (i : ℕ) (d z : ℤ) (before after : List ℕ) → i < length numbers → z ≡ get_or numbers i d
    → FitsSigned w64 (get_or numbers i d) → after ≡ before ++ number_bytes z → IsPacked before (take i numbers) → IsPacked after (take (i + 1) numbers)
one_more_packed numbers i d z before after lt is fits more so_far =
    let last : packed (get_or numbers i d ∷ []) ≡ number_bytes z = flat_map-cons number_bytes (get_or numbers i d) [] ∙ append-nil (number_bytes (get_or numbers i d)) ∙ ap number_bytes (sym is) in
    let next : i + 1 ≡ suc i = omega arith in
    let whole : packed (take (i + 1) numbers) ≡ packed (take i numbers) ++ number_bytes z =
    ap (λ n. packed (take n numbers)) next ∙ ap packed (take-suc numbers i d lt) ∙ flat_map-append number_bytes (take i numbers) (get_or numbers i d ∷ [])
    ∙ ap (λ t. packed (take i numbers) ++ t) last in
    record {
      bytes_are = more ∙ ap (λ t. t ++ number_bytes z) so_far.bytes_are ∙ sym whole;
      fit = All-more (λ y. FitsSigned w64 y) numbers i d lt so_far.fit fits;
    }

-- the bytes of a number are eight
length_number : (z : ℤ) → length (number_bytes z) ≡ 8
unfolding number_bytes
length_number z = refl

-- eight bytes are those of one number
number_is : (z : ℤ) (bits : ℕ) → FitsSigned w64 z → bits < 2 ^ 64 → number_bytes z ≡ big_bytes 8 bits → cast_signed w64 bits ≡ z
unfolding number_bytes
number_is z bits fits low same =
    let first : cast_unsigned w64 z < 2 ^ 64 = (Fits-of_z fits).fits in
    let bits_are : bits ≡ cast_unsigned w64 z =
    sym (from_be_bytes-to_be_bytes_8 bits low) ∙ ap (from_be_bytes w64) (sym same) ∙ from_be_bytes-to_be_bytes_8 (cast_unsigned w64 z) first in
    ap (cast_signed w64) bits_are ∙ to_z-of_z w64 z fits

-- where the bytes of numbers begin with eight bytes, these are those of the first number
pub next_packed : (left after : List ℕ) (bits : ℕ) (numbers : List ℤ) → bits < 2 ^ 64 → left ≡ big_bytes 8 bits ++ after → IsPacked left numbers
    → (rest : List ℤ) × (numbers ≡ cast_signed w64 bits ∷ rest) × IsPacked after rest
next_packed left after bits [] low is all = absurd (omega (arith, ap length (sym is ∙ all.bytes_are), length-append (big_bytes 8 bits) after))
next_packed left after bits (z ∷ rest) low is all =
    let whole : number_bytes z ++ packed rest ≡ big_bytes 8 bits ++ after = sym (flat_map-cons number_bytes z rest) ∙ sym all.bytes_are ∙ is in
    let front : number_bytes z ≡ big_bytes 8 bits =
    sym (take_at (number_bytes z) (packed rest) 8 (length_number z)) ∙ ap (take 8) whole ∙ take_at (big_bytes 8 bits) after 8 refl in
    let behind : packed rest ≡ after =
    sym (drop_at (number_bytes z) (packed rest) 8 (length_number z)) ∙ ap (drop 8) whole ∙ drop_at (big_bytes 8 bits) after 8 refl in
    let here = All-head (λ y. FitsSigned w64 y) z rest all.fit in (
      rest,
      ap (λ y. y ∷ rest) (sym (number_is z bits here low front)),
      record { bytes_are = sym behind; fit = All-tail (λ y. FitsSigned w64 y) z rest all.fit },
    )

-- fewer than eight bytes are those of no numbers
pub end_packed : (left : List ℕ) (numbers : List ℤ) → length left < 8 → IsPacked left numbers → numbers ≡ []
end_packed left [] short all = refl
end_packed left (z ∷ rest) short all =
    absurd (omega (arith, short, ap length (all.bytes_are ∙ flat_map-cons number_bytes z rest), length-append (number_bytes z) (packed rest), length_number z))
