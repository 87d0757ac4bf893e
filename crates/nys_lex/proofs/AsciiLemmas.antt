-- Names are ASCII.
use Rattle.std.proofs.Common.{◌≡◌, ℕ, ◌+◌, ◌<◌, List, [], ◌∷◌, take, Bool, true, false, cond, refl, arith, one-add}
use Rattle.std.specs.List.{prefix_len}
use Rattle.std.specs.Str.{IsAscii}
use Rattle.std.proofs.lemmas.Bool.Decides.{nat_tests}
use Rattle.std.proofs.lemmas.Str.Ascii.{IsAscii-nil, IsAscii-cons}
use Rattle.nys_lex.specs.declared.bytes.Sort.TheVariants as sort
use Rattle.nys_lex.specs.Bytes.{is_in, is_letter}

-- a byte of a name is ASCII
name_byte_ascii : (b : ℕ) → is_in sort.Name b ≡ true → b < 128
name_byte_ascii b e = grind (arith, nat_tests)

-- a name goes on with what it may begin with
pub letter_in_name : (b : ℕ) → is_letter b ≡ true → is_in sort.Name b ≡ true
letter_in_name b e = grind (arith, nat_tests)

-- one byte more, where it is of a name
run_ascii_by : (v : Bool) (n b : ℕ) (bs : List ℕ) → is_in sort.Name b ≡ v → IsAscii (take n bs) → IsAscii (take (cond v (1 + n) 0) (b ∷ bs))
run_ascii_by true n b bs e rest = rw one-add (IsAscii-cons b (take n bs) (name_byte_ascii b e) rest)
run_ascii_by false n b bs e rest = IsAscii-nil

-- the longest run of a name's bytes is ASCII
pub name_run_ascii : (text : List ℕ) → IsAscii (take (prefix_len (is_in sort.Name) text) text)
name_run_ascii [] = IsAscii-nil
name_run_ascii (b ∷ bs) = run_ascii_by (is_in sort.Name b) (prefix_len (is_in sort.Name) bs) b bs refl (name_run_ascii bs)
