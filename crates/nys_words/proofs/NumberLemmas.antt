-- The number that a word writes as it is printed.
use Rattle.std.proofs.Common.{◌≡◌, ℕ, ◌<◌, ◌≤◌, ◌^◌, Bool, true, false, ◌&&◌, List, Option, Some, None, Result, Ok, nat_le, decimal, if◌then◌else◌, refl, sym, subst, arith}
use Rattle.std.proofs.lemmas.Bool.{le-leb, leb-true}
use Rattle.std.proofs.lemmas.Fmt.{decimal_is_IsNumeral, parse-decimal}
use Rattle.std.proofs.lemmas.Slice.Eq.{bytes_eq-Decides}
use Rattle.std.specs.Str.{bytes_eq}
use Rattle.std.specs.Str.Parse.{digits_value, ParsesUnsigned}
use Rattle.nys_words.specs.Words.{number_in}

-- the word is printed for this number, which is between these
pub record IsWritten (low high : ℕ) (word : List ℕ) (n : ℕ) : Type 0 where
  pub printed : decimal n ≡ word
  pub least : low ≤ n
  pub most : n ≤ high

-- the tests of a number, by what they come to
number_by : (low high : ℕ) (word : List ℕ) (n : ℕ) (same above below : Bool) → bytes_eq (decimal (digits_value 10 word)) word ≡ same
    → nat_le low (digits_value 10 word) ≡ above → nat_le (digits_value 10 word) high ≡ below → number_in low high word ≡ Some n
    → IsWritten low high word n
number_by low high word n false above below same low_is high_is found = let bad : None ≡ Some n = rw same at found in cc
number_by low high word n true false below same low_is high_is found = let bad : None ≡ Some n = rw (same, low_is) at found in cc
number_by low high word n true true false same low_is high_is found = let bad : None ≡ Some n = rw (same, low_is, high_is) at found in cc
number_by low high word n true true true same low_is high_is found =
    let here : Some (digits_value 10 word) ≡ Some n = rw (same, low_is, high_is) at found in
    let is : digits_value 10 word ≡ n = cc in
    subst (IsWritten low high word) is (record {
      printed = (bytes_eq-Decides (decimal (digits_value 10 word)) word).0 same;
      least = leb-true low (digits_value 10 word) low_is;
      most = leb-true (digits_value 10 word) high high_is;
    })

-- a word that writes a number is printed for it
pub number_written : (low high : ℕ) (word : List ℕ) (n : ℕ) → number_in low high word ≡ Some n → IsWritten low high word n
number_written low high word n found =
    number_by low high word n (bytes_eq (decimal (digits_value 10 word)) word) (nat_le low (digits_value 10 word)) (nat_le (digits_value 10 word) high)
    refl refl refl found

-- a number that is printed and between these is the one that its word writes
pub written_number : (low high : ℕ) (word : List ℕ) (n : ℕ) → n < 2 ^ 64 → IsWritten low high word n → Some n ≡ number_in low high word
written_number low high word n small is = subst (λ w. Some n ≡ number_in low high w) is.printed (by (digits_value 10 (decimal n)) (decimal_is_IsNumeral n small).1)
  where
    by : (v : ℕ) → v ≡ n → Some n ≡ (if bytes_eq (decimal v) (decimal n) && (nat_le low v && nat_le v high) then Some v else None)
    by v same = subst (λ x. Some n ≡ (if bytes_eq (decimal x) (decimal n) && (nat_le low x && nat_le x high) then Some x else None)) (sym same)
        (rw ((bytes_eq-Decides (decimal n) (decimal n)).1 refl, le-leb low n is.least, le-leb n high is.most) refl)

-- a word for which no number is read that is printed so writes none
pub number_none : {E : Type 0} (low high : ℕ) (word : List ℕ) (r : Result ℕ E) → high < 2 ^ 64 → ParsesUnsigned 64 10 word r
    → ((n : ℕ) → r ≡ Ok n → IsWritten low high word n → ⊥) → None ≡ number_in low high word
number_none {E} low high word r small parses never = by (number_in low high word) refl
  where
    by : (found : Option ℕ) → number_in low high word ≡ found → None ≡ number_in low high word
    by None is = sym is
    by (Some n) is =
        let written = number_written low high word n is in
        let below : n < 2 ^ 64 = let m = written.most in omega arith in
        absurd (never n (parse-decimal 64 n word r below below (sym written.printed) parses) written)
