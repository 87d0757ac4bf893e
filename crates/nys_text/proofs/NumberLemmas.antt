-- The value of a numeral, read one digit after another.
use Rattle.std.proofs.Common.{◌≡◌, ℕ, ◌+◌, ◌*◌, ◌-◌, ◌<◌, ◌≤◌, Bool, true, false, cond, ◌&&◌, List, [], ◌∷◌, Option, None, Some, nat_lt, IfSome, length, refl, ◌∙◌, arith}
use Rattle.std.proofs.lemmas.Bool.Decides.{nat_tests}
use Rattle.std.specs.Char.{is_ascii_digit, digit_value}
use Rattle.std.specs.Str.{all_ascii_digits}
use Rattle.std.specs.Str.Parse.{digits_value, digits_value_after}
use Rattle.nys_text.specs.Numbers.{is_numeral, numeral_below, longer}

-- the value of the digits behind a value, where it stays below the limit
abbrev pub digits_on : ℕ → Option ℕ → List ℕ → Option ℕ
digits_on limit None cs = None
digits_on limit (Some v) [] = Some v
digits_on limit (Some v) (c ∷ cs) = digits_on limit (longer limit v c) cs

-- more digits make no smaller value
pub value_grows : (v : ℕ) (cs : List ℕ) → v ≤ digits_value_after 10 v cs
value_grows v [] = omega arith
value_grows v (c ∷ cs) = let more = value_grows (v * 10 + digit_value c) cs in omega (arith, more)

digit_is : (c : ℕ) → is_ascii_digit c ≡ true → digit_value c ≡ c - 48
digit_is c d = grind (arith, nat_tests)

-- the digits behind a value, as the one test of them all
abbrev behind : ℕ → ℕ → List ℕ → Option ℕ
behind limit v cs =
    cond (all_ascii_digits cs && nat_lt (digits_value_after 10 v cs) limit) (Some (digits_value_after 10 v cs)) None

-- a test that fails leaves nothing, whatever stands before it
none_where_false : (a n : Bool) (x : ℕ) → n ≡ false → None ≡ cond (a && n) (Some x) None
none_where_false true n x e = rw e refl
none_where_false false n x e = refl

too_great : (limit w : ℕ) (cs : List ℕ) → limit ≤ w → None ≡ behind limit w cs
too_great limit w cs h =
    let grows = value_grows w cs in
    let past : nat_lt (digits_value_after 10 w cs) limit ≡ false = grind (arith, nat_tests) in
    none_where_false (all_ascii_digits cs) _ (digits_value_after 10 w cs) past

at_digit : (limit w : ℕ) (cs : List ℕ) (n : Bool) → nat_lt w limit ≡ n → (w < limit → digits_on limit (Some w) cs ≡ behind limit w cs) → digits_on limit (cond n (Some w) None) cs ≡ behind limit w cs
at_digit limit w cs true t ih = ih (grind (arith, nat_tests))
at_digit limit w cs false t ih = too_great limit w cs (grind (arith, nat_tests))

at_byte : (limit v c : ℕ) (cs : List ℕ) (d : Bool) → is_ascii_digit c ≡ d → ((w : ℕ) → w < limit → digits_on limit (Some w) cs ≡ behind limit w cs) → digits_on limit (longer limit v c) cs ≡ behind limit v (c ∷ cs)
at_byte limit v c cs true e ih =
    let d = digit_is c e in
    rw (e, d) (at_digit limit (v * 10 + (c - 48)) cs (nat_lt (v * 10 + (c - 48)) limit) refl (ih (v * 10 + (c - 48))))
at_byte limit v c cs false e ih = rw e refl

pub digits_on_gives : (limit v : ℕ) (cs : List ℕ) → v < limit → digits_on limit (Some v) cs ≡ behind limit v cs
digits_on_gives limit v [] h = grind (arith, nat_tests)
digits_on_gives limit v (c ∷ cs) h =
    at_byte limit v c cs (is_ascii_digit c) refl (λ w below. digits_on_gives limit w cs below)

-- an empty word is no numeral
pub numeral_below_empty : (limit : ℕ) (word : List ℕ) → length word ≡ 0 → None ≡ numeral_below limit word
unfolding numeral_below
numeral_below_empty limit [] e = refl
numeral_below_empty limit (c ∷ cs) e = absurd (omega (arith, e))

-- what the digits of a word give one after another is what the word is
pub numeral_below_is : (limit : ℕ) (word : List ℕ) (value : Option ℕ) → 0 < limit → 0 < length word → value ≡ digits_on limit (Some 0) word → value ≡ numeral_below limit word
unfolding numeral_below
numeral_below_is limit [] value some at e = absurd (omega (arith, at))
numeral_below_is limit (c ∷ cs) value some at e = e ∙ digits_on_gives limit 0 (c ∷ cs) some

bound_of : (limit value : ℕ) (a n : Bool) → nat_lt value limit ≡ n → IfSome (cond (a && n) (Some value) None) (λ v. v < limit)
bound_of limit value true true e = grind (arith, nat_tests)
bound_of limit value true false e = tt
bound_of limit value false n e = tt

-- the value of a numeral below a limit is below it
pub numeral_below_bound : (limit : ℕ) (word : List ℕ) → IfSome (numeral_below limit word) (λ value. value < limit)
unfolding numeral_below
numeral_below_bound limit word = bound_of limit (digits_value 10 word) (is_numeral word) (nat_lt (digits_value 10 word) limit) refl
