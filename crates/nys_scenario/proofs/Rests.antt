-- What is left behind a read is no longer than the text that was read, for what reads no string.
use Rattle.std.proofs.Common.{◌≡◌, ℕ, zero, suc, ◌+◌, ◌-◌, ◌≤◌, ◌<◌, unwrap_or, Bool, true, false, not, ◌&&◌, ◌||◌, ◌==◌, if◌then◌else◌, List, [], ◌∷◌, length, length-drop, take, drop, get_or, Option, Some, None, is_some, option_map, option_and_then, refl, sym, inl, inr, arith}
use Rattle.std.proofs.lemmas.Bool.{cases_Bool}
use Rattle.std.specs.List.{prefix_len}
use Rattle.toml_parser.specs.Lexical.{Read, first, is_ws, skip_from, skip_turn, skip_ws, skip_blank, skip_lines, split_while}
use Rattle.toml_parser.specs.Numbers.{unquoted, word_len, word_value}
use Rattle.toml_parser.specs.declared.scalar.Scalar.{Scalar}
use Rattle.toml.specs.Parse.{after_byte, after_element}

-- at most so much is left behind what was read
abbrev pub Fits : {A : Type 0} → ℕ → Read A → Type 0
Fits n None = Unit {0}
Fits n (Some p) = length p.1 ≤ n

-- the same where nothing but the rest is given
abbrev pub FitsRest : ℕ → Option (List ℕ) → Type 0
FitsRest n None = Unit {0}
FitsRest n (Some rest) = length rest ≤ n

-- one of two reads
pub fits_if : {A : Type 0} (n : ℕ) (b : Bool) (x y : Read A) → Fits n x → Fits n y → Fits n (if b then x else y)
fits_if n true x y one other = one
fits_if n false x y one other = other

-- what was read, under a function
pub fits_map : {A B : Type 0} (n : ℕ) (f : A → B) (r : Read A) → Fits n r → Fits n (option_map (λ p. (f p.0, p.1)) r)
fits_map n f None fits = tt
fits_map n f (Some p) fits = fits

-- one read after another
pub fits_then : {A B : Type 0} (n : ℕ) (r : Read A) (f : A × List ℕ → Read B) → Fits n r
    → ((p : A × List ℕ) → length p.1 ≤ n → Fits n (f p)) → Fits n (option_and_then f r)
fits_then n None f fits more = tt
fits_then n (Some p) f fits more = more p fits

-- a read after what leaves a rest
pub rest_then : {B : Type 0} (n : ℕ) (r : Option (List ℕ)) (f : List ℕ → Read B) → FitsRest n r
    → ((rest : List ℕ) → length rest ≤ n → Fits n (f rest)) → Fits n (option_and_then f r)
rest_then n None f fits more = tt
rest_then n (Some rest) f fits more = more rest fits

-- a rest, as a read
pub rest_map : {B : Type 0} (n : ℕ) (r : Option (List ℕ)) (f : List ℕ → B × List ℕ) → FitsRest n r
    → ((rest : List ℕ) → length rest ≤ n → length (f rest).1 ≤ n) → Fits n (option_map f r)
rest_map n None f fits more = tt
rest_map n (Some rest) f fits more = more rest fits

-- a read after a test that gives something
pub given_then : {A B : Type 0} (n : ℕ) (o : Option A) (f : A → Read B) → ((a : A) → Fits n (f a)) → Fits n (option_and_then f o)
given_then n None f more = tt
given_then n (Some a) f more = more a

-- more may be left
pub fits_more : {A : Type 0} (n m : ℕ) (r : Read A) → n ≤ m → Fits n r → Fits m r
fits_more n m None le fits = tt
fits_more n m (Some p) le fits = omega (arith, le, fits)

-- a text from a place on
pub drop_fits : (k n : ℕ) (text : List ℕ) → length text ≤ n → length (drop k text) ≤ n
drop_fits k n text le = omega (arith, length-drop k text, le)

-- a text without its white space
pub ws_fits : (n : ℕ) (text : List ℕ) → length text ≤ n → length (skip_ws text) ≤ n
unfolding skip_ws
ws_fits n text le = drop_fits (prefix_len is_ws text) n text le

-- a text without what may be skipped
skip_from_fits : (comments inside : Bool) (text : List ℕ) → length (skip_from comments inside text) ≤ length text
unfolding skip_from
skip_from_fits comments inside [] = omega arith
skip_from_fits comments inside (c ∷ cs) =
    let next = skip_from_fits comments (unwrap_or (skip_turn comments inside c (first cs)) false) cs in
    elim (cases_Bool (is_some (skip_turn comments inside c (first cs)))) [
      | inl more ↦ rw more (omega arith)
      | inr stop ↦ rw stop (omega arith)
    ]

pub blank_fits : (n : ℕ) (text : List ℕ) → length text ≤ n → length (skip_blank text) ≤ n
blank_fits n text le = omega (arith, skip_from_fits true false text, le)

pub lines_fits : (n : ℕ) (text : List ℕ) → length text ≤ n → length (skip_lines text) ≤ n
lines_fits n text le = omega (arith, skip_from_fits false false text, le)

-- one of two rests
pub rest_if : (n : ℕ) (b : Bool) (x y : Option (List ℕ)) → FitsRest n x → FitsRest n y → FitsRest n (if b then x else y)
rest_if n true x y one other = one
rest_if n false x y one other = other

-- a text behind its first byte
pub byte_fits : (byte n : ℕ) (text : List ℕ) → length text ≤ n → FitsRest n (after_byte byte text)
byte_fits byte n text le = rest_if n (first text == byte) (Some (drop 1 text)) None (drop_fits 1 n text le) tt

-- a text behind an element of an array or of a table
pub element_fits : (closing n : ℕ) (text : List ℕ) → length text ≤ n → FitsRest n (after_element closing text)
unfolding after_element
element_fits closing n text le =
    let rest = skip_blank text in
    let within = blank_fits n text le in
    rest_if n (first rest == 44) (Some (drop 1 rest)) (if first rest == closing then Some rest else None)
    (drop_fits 1 n rest within) (rest_if n (first rest == closing) (Some rest) None within tt)

-- a value without quotes
pub unquoted_fits : (n : ℕ) (text : List ℕ) → length text ≤ n → Fits n (unquoted text)
unfolding unquoted
unquoted_fits n text le =
    fits_if n (word_len text == 0) None (option_map (λ d. (d, drop (word_len text) text)) (word_value (take (word_len text) text)))
    tt (word_fits (word_value (take (word_len text) text)))
  where
    word_fits : (o : Option Scalar) → Fits n (option_map (λ d. (d, drop (word_len text) text)) o)
    word_fits None = tt
    word_fits (Some d) = drop_fits (word_len text) n text le
