-- What is printed is read back: lines, words, numbers, whole texts.
use Rattle.std.proofs.Common.{◌≡◌, ℕ, zero, suc, ◌+◌, ◌-◌, ◌^◌, ◌<◌, ◌≤◌, ◌==◌, ℤ, pos, negsuc, Bool, true, false, cond, ◌&&◌, List, [], ◌∷◌, ◌++◌, Some, Result, Ok, length, get_or, map, nat_lt, refl, ap, ◌∙◌, append_assoc, append-nil, lit<, lit≤, arith, rules, w64, FitsSigned}
use Rattle.std.proofs.lemmas.Bool.Decides.{nat_tests}
use Rattle.std.proofs.lemmas.Int.{ints}
use Rattle.std.proofs.lemmas.List.{length-map}
use Rattle.std.proofs.lemmas.List.Splits.{slice_split-cons_no}
use Rattle.std.proofs.lemmas.Str.Parse.{IsNumeralModel, numerals_by_value, tells_all_ascii_digits}
use Rattle.std.proofs.lemmas.Fmt.{decimal_nonempty, digits_decimal, digits_value-decimal}
use Rattle.std.specs.Char.{is_ascii_digit}
use Rattle.std.specs.Fmt.{decimal, signed_decimal}
use Rattle.std.specs.List.{All, slice_split, onto_first, flat_map}
use Rattle.std.specs.Str.{all_ascii_digits}
use Rattle.std.specs.Str.Lines.{lines, lines_of_parts, strip_carriage_return}
use Rattle.std.specs.Str.Parse.{digits_value, starts_with_minus}
use Rattle.nys_text.specs.Lines.{is_blank, is_skipped, words_of}
use Rattle.nys_text.specs.Numbers.{all_ints, int_of, int_values, is_numeral, num_of, numeral_below, payload_of}
use Rattle.nys_bytes.specs.declared.payload.TheConstants.{MAX_NUMBERS}
use Rattle.nys_text.specs.Printed.{spaced}
use Rattle.nys_text.specs.Reading.{before, reading, told, told_from}

-- ---- bytes of lines and of words

-- no byte is below the space
abbrev pub AreShown : List ℕ → Type 0
AreShown [] = Unit {0}
AreShown (b ∷ bs) = (32 ≤ b) × AreShown bs

-- each byte is above the space
abbrev pub AreInk : List ℕ → Type 0
AreInk [] = Unit {0}
AreInk (b ∷ bs) = (32 < b) × AreInk bs

pub AreShown-append : (xs ys : List ℕ) → AreShown xs → AreShown ys → AreShown (xs ++ ys)
AreShown-append [] ys left right = right
AreShown-append (x ∷ xs) ys left right = (left.0, AreShown-append xs ys left.1 right)

pub AreShown-ink : (xs : List ℕ) → AreInk xs → AreShown xs
AreShown-ink [] ink = tt
AreShown-ink (x ∷ xs) ink = (omega (arith, ink.0), AreShown-ink xs ink.1)

ink_at : (c : ℕ) → is_ascii_digit c ≡ true → 32 < c
ink_at c e = grind (arith, nat_tests)

digit_parts : (c : ℕ) (a b : Bool) → (a && b) ≡ true → (a ≡ true) × (b ≡ true)
digit_parts c true b e = (refl, e)
digit_parts c false b e = absurd (search rules)

pub AreInk-digits : (ds : List ℕ) → all_ascii_digits ds ≡ true → AreInk ds
AreInk-digits [] e = tt
AreInk-digits (c ∷ cs) e =
    let parts = digit_parts c (is_ascii_digit c) (all_ascii_digits cs) e in
    (ink_at c parts.0, AreInk-digits cs parts.1)

-- ---- numbers

-- std's own words for numerals
digits_model : IsNumeralModel (λ ds. all_ascii_digits ds ≡ true) (digits_value 10)
digits_model = numerals_by_value _ tells_all_ascii_digits

is_numeral_from : (ds : List ℕ) → 0 < length ds → all_ascii_digits ds ≡ true → is_numeral ds ≡ true
is_numeral_from [] some e = absurd (omega (arith, some))
is_numeral_from (c ∷ cs) some e = e

-- the decimal text of a number below the limit is that number
pub numeral_below-decimal : (limit n : ℕ) → n < limit → n < 2 ^ 64 → numeral_below limit (decimal n) ≡ Some n
unfolding numeral_below
numeral_below-decimal limit n low fits =
    let digits = digits_decimal digits_model n fits in
    let value = digits_value-decimal digits_model n fits in
    let numeral = is_numeral_from (decimal n) (decimal_nonempty n fits) digits in
    let below : nat_lt n limit ≡ true = grind (arith, nat_tests) in
    rw (numeral, value, below) refl

pub num_of-decimal : (n : ℕ) → n < 2 ^ 32 → num_of (decimal n) ≡ Some n
unfolding num_of
num_of-decimal n low = numeral_below-decimal (2 ^ 32) n low (omega arith)

no_minus : (ds : List ℕ) → all_ascii_digits ds ≡ true → starts_with_minus ds ≡ false
no_minus [] e = refl
no_minus (c ∷ cs) e = let digit = (digit_parts c (is_ascii_digit c) (all_ascii_digits cs) e).0 in grind (arith, nat_tests)

pub int_of-signed_decimal : (z : ℤ) → FitsSigned w64 z → int_of (signed_decimal z) ≡ Some z
unfolding int_of
int_of-signed_decimal (pos n) fits =
    let low : n < 2 ^ 63 = omega (arith, ints, fits) in
    let plus = no_minus (decimal n) (digits_decimal digits_model n (omega arith)) in
    let read = numeral_below-decimal (2 ^ 63) n low (omega arith) in
    rw (plus, read) refl
int_of-signed_decimal (negsuc n) fits =
    let low : n < 2 ^ 63 = omega (arith, ints, fits) in
    let read = numeral_below-decimal (2 ^ 63 + 1) (suc n) (omega arith) (omega arith) in
    rw read refl

-- ---- payloads

-- of a list's facts, the first one and the others
pub All-head : {X : Type 0} (P : X → Type 0) (x : X) (xs : List X) → All P (x ∷ xs) → P x
All-head P x xs all = all 0 x (omega arith)

pub All-tail : {X : Type 0} (P : X → Type 0) (x : X) (xs : List X) → All P (x ∷ xs) → All P xs
All-tail P x xs all = λ k d low. all (suc k) d (omega (arith, low))

all_ints-printed : (zs : List ℤ) → All (λ z. FitsSigned w64 z) zs → all_ints (map signed_decimal zs) ≡ true
all_ints-printed [] fit = refl
all_ints-printed (z ∷ zs) fit =
    let here = int_of-signed_decimal z (All-head (λ y. FitsSigned w64 y) z zs fit) in
    let rest = all_ints-printed zs (All-tail (λ y. FitsSigned w64 y) z zs fit) in
    rw here rest

int_values-printed : (zs : List ℤ) → All (λ z. FitsSigned w64 z) zs → int_values (map signed_decimal zs) ≡ zs
int_values-printed [] fit = refl
int_values-printed (z ∷ zs) fit =
    let here = int_of-signed_decimal z (All-head (λ y. FitsSigned w64 y) z zs fit) in
    let rest = int_values-printed zs (All-tail (λ y. FitsSigned w64 y) z zs fit) in
    rw here (ap (λ ys. z ∷ ys) rest)

-- one to MAX_NUMBERS numbers that fit, printed as words, are read as that payload
pub payload_of-printed : (zs : List ℤ) → 1 ≤ length zs → length zs ≤ MAX_NUMBERS → All (λ z. FitsSigned w64 z) zs → payload_of (map signed_decimal zs) ≡ Some zs
payload_of-printed [] some few fit = absurd (omega (arith, some))
payload_of-printed (z ∷ zs) some few fit =
    let all = all_ints-printed (z ∷ zs) fit in
    let values = int_values-printed (z ∷ zs) fit in
    let size : length (map signed_decimal (z ∷ zs)) ≤ MAX_NUMBERS = omega (arith, few, length-map (z ∷ zs) signed_decimal) in
    let room : nat_lt MAX_NUMBERS (length (map signed_decimal (z ∷ zs))) ≡ false = grind (arith, nat_tests) in
    rw room (rw all (ap Some values))

-- ---- words

not_blank : (b : ℕ) → 32 < b → is_blank b ≡ false
not_blank b ink = grind (arith, nat_tests)

split_at_blank : (word rest : List ℕ) → AreInk word → slice_split is_blank (word ++ 32 ∷ rest) ≡ word ∷ slice_split is_blank rest
split_at_blank [] rest ink = refl
split_at_blank (b ∷ bs) rest ink =
    slice_split-cons_no is_blank b (bs ++ 32 ∷ rest) (not_blank b ink.0) ∙ ap (onto_first b) (split_at_blank bs rest ink.1)

split_nowhere : (word : List ℕ) → AreInk word → slice_split is_blank word ≡ word ∷ []
split_nowhere [] ink = refl
split_nowhere (b ∷ bs) ink =
    slice_split-cons_no is_blank b bs (not_blank b ink.0) ∙ ap (onto_first b) (split_nowhere bs ink.1)

filled : (word : List ℕ) → 0 < length word → (length word == 0) ≡ false
filled word some = grind (arith, nat_tests)

-- a word before a space is the first
pub words_of-first : (word rest : List ℕ) → 0 < length word → AreInk word → words_of (word ++ 32 ∷ rest) ≡ word ∷ words_of rest
words_of-first word rest some ink =
    let e = filled word some in
    rw (split_at_blank word rest ink) (rw e refl)

-- a word alone
pub words_of-only : (word : List ℕ) → 0 < length word → AreInk word → words_of word ≡ word ∷ []
words_of-only word some ink =
    let e = filled word some in
    rw (split_nowhere word ink) (rw e refl)

signed_some : (z : ℤ) → FitsSigned w64 z → 0 < length (signed_decimal z)
signed_some (pos n) fits = let low : n < 2 ^ 63 = omega (arith, ints, fits) in decimal_nonempty n (omega arith)
signed_some (negsuc n) fits = omega arith

-- the text of a signed number is a word
pub AreInk-signed : (z : ℤ) → FitsSigned w64 z → AreInk (signed_decimal z)
AreInk-signed (pos n) fits =
    let low : n < 2 ^ 63 = omega (arith, ints, fits) in
    AreInk-digits (decimal n) (digits_decimal digits_model n (omega arith))
AreInk-signed (negsuc n) fits =
    let low : n < 2 ^ 63 = omega (arith, ints, fits) in
    (lit< tt, AreInk-digits (decimal (suc n)) (digits_decimal digits_model (suc n) (omega arith)))

-- the text of a number is a word
pub AreInk-decimal : (n : ℕ) → n < 2 ^ 64 → AreInk (decimal n)
AreInk-decimal n fits = AreInk-digits (decimal n) (digits_decimal digits_model n fits)

-- numbers that are printed as words, each behind a space, are the words behind the first
pub words_of-spaced : (word : List ℕ) (zs : List ℤ) → 0 < length word → AreInk word → All (λ z. FitsSigned w64 z) zs → words_of (word ++ spaced zs) ≡ word ∷ map signed_decimal zs
words_of-spaced word [] some ink fit = rw append-nil (words_of-only word some ink)
words_of-spaced word (z ∷ zs) some ink fit =
    let here = All-head (λ y. FitsSigned w64 y) z zs fit in
    let first = words_of-first word (signed_decimal z ++ spaced zs) some ink in
    let rest = words_of-spaced (signed_decimal z) zs (signed_some z here) (AreInk-signed z here) (All-tail (λ y. FitsSigned w64 y) z zs fit) in
    first ∙ ap (λ ws. word ∷ ws) rest

-- what is printed as words has no byte below the space
pub AreShown-spaced : (zs : List ℤ) → All (λ z. FitsSigned w64 z) zs → AreShown (spaced zs)
AreShown-spaced [] fit = tt
AreShown-spaced (z ∷ zs) fit =
    let here = AreShown-ink (signed_decimal z) (AreInk-signed z (All-head (λ y. FitsSigned w64 y) z zs fit)) in
    (lit≤ tt, AreShown-append (signed_decimal z) (spaced zs) here (AreShown-spaced zs (All-tail (λ y. FitsSigned w64 y) z zs fit)))

-- ---- lines

not_feed : (b : ℕ) → 32 ≤ b → (b == 10) ≡ false
not_feed b shown = grind (arith, nat_tests)

split_at_feed : (line rest : List ℕ) → AreShown line → slice_split (λ b. b == 10) (line ++ 10 ∷ rest) ≡ line ∷ slice_split (λ b. b == 10) rest
split_at_feed [] rest shown = refl
split_at_feed (b ∷ bs) rest shown =
    slice_split-cons_no (λ c. c == 10) b (bs ++ 10 ∷ rest) (not_feed b shown.0) ∙ ap (onto_first b) (split_at_feed bs rest shown.1)

not_return : (line : List ℕ) (k : ℕ) → AreShown line → (get_or line k 0 == 13) ≡ false
not_return [] k shown = refl
not_return (b ∷ bs) zero shown = let here = shown.0 in grind (arith, nat_tests)
not_return (b ∷ bs) (suc k) shown = not_return bs k shown.1

stripped : (line : List ℕ) → AreShown line → strip_carriage_return line ≡ line
stripped line shown = let e = not_return line (length line - 1) shown in rw e refl

parts_behind : (line : List ℕ) (b : Bool) (x : ℕ) (parts : List (List ℕ)) → lines_of_parts (line ∷ cond b ([] ∷ parts) (onto_first x parts)) ≡ strip_carriage_return line ∷ lines_of_parts (cond b ([] ∷ parts) (onto_first x parts))
parts_behind line true x parts = refl
parts_behind line false x [] = refl
parts_behind line false x (part ∷ parts) = refl

lines_behind : (line rest : List ℕ) → lines_of_parts (line ∷ slice_split (λ b. b == 10) rest) ≡ strip_carriage_return line ∷ lines rest
lines_behind line [] = refl
lines_behind line (x ∷ xs) = parts_behind line (x == 10) x (slice_split (λ b. b == 10) xs)

-- a line of shown bytes before a line feed is the first
pub lines-first : (line rest : List ℕ) → AreShown line → lines (line ++ 10 ∷ rest) ≡ line ∷ lines rest
lines-first line rest shown =
    ap lines_of_parts (split_at_feed line rest shown) ∙ lines_behind line rest ∙ ap (λ l. l ∷ lines rest) (stripped line shown)

-- ---- whole texts

not_comment : (c : ℕ) → is_ascii_digit c ≡ true → (c == 35) ≡ false
not_comment c digit = grind (arith, nat_tests)

digits_tell : (ds rest : List ℕ) → 0 < length ds → all_ascii_digits ds ≡ true → is_skipped (ds ++ rest) ≡ false
digits_tell [] rest some digits = absurd (omega (arith, some))
digits_tell (c ∷ cs) rest some digits =
    let digit = (digit_parts c (is_ascii_digit c) (all_ascii_digits cs) digits).0 in
    rw (not_blank c (ink_at c digit)) (not_comment c digit)

-- a line that begins with a number tells something
pub is_skipped-decimal : (n : ℕ) (rest : List ℕ) → n < 2 ^ 64 → is_skipped (decimal n ++ rest) ≡ false
is_skipped-decimal n rest fits = digits_tell (decimal n) rest (decimal_nonempty n fits) (digits_decimal digits_model n fits)

-- the line is that item's, and is read as it
pub record IsLineOf {A K : Type 0} (says : List (List ℕ) → Result A K) (line : A → List ℕ) (item : A) : Type 0 where
  pub shown : AreShown (line item)
  pub tells : is_skipped (line item) ≡ false
  pub said : says (words_of (line item)) ≡ Ok item

lines-items : {A K : Type 0} (says : List (List ℕ) → Result A K) (line text : A → List ℕ) → ((item : A) → text item ≡ line item ++ (10 ∷ [])) → (items : List A) → All (IsLineOf says line) items → lines (flat_map text items) ≡ map line items
lines-items says line text ends [] all = refl
lines-items says line text ends (item ∷ items) all =
    let here = All-head (IsLineOf says line) item items all in
    let rest = lines-items says line text ends items (All-tail (IsLineOf says line) item items all) in
    rw (ends item) (rw append_assoc (lines-first (line item) (flat_map text items) here.shown ∙ ap (λ ls. line item ∷ ls) rest))

reading-items : {A K : Type 0} (says : List (List ℕ) → Result A K) (line : A → List ℕ) (most number : ℕ) (items : List A) → All (IsLineOf says line) items → length items ≤ most → reading says most (told_from number (map line items)) ≡ Ok items
reading-items says line most number [] all few = refl
reading-items says line most number (item ∷ items) all few =
    let here = All-head (IsLineOf says line) item items all in
    let rest = reading-items says line (most - 1) (number + 1) items (All-tail (IsLineOf says line) item items all) (omega (arith, few)) in
    let some : (most == 0) ≡ false = grind (arith, nat_tests) in
    rw (here.tells) (rw (here.said) (rw (some) (ap (before item) rest)))

-- the text of items, a line each, is read as the items
pub reading-text : {A K : Type 0} (says : List (List ℕ) → Result A K) (line text : A → List ℕ) (most : ℕ) → ((item : A) → text item ≡ line item ++ (10 ∷ [])) → (items : List A) → All (IsLineOf says line) items → length items ≤ most → reading says most (told (flat_map text items)) ≡ Ok items
reading-text says line text most ends items all few =
    rw (lines-items says line text ends items all) (reading-items says line most 1 items all few)
