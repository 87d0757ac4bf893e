-- A string is no longer than what it is read from: an escape only shrinks.
use Rattle.std.proofs.Common.{◌≡◌, ℕ, zero, suc, ◌+◌, ◌-◌, ◌≤◌, ◌<◌, Bool, true, false, not, ◌&&◌, ◌||◌, ◌==◌, nat_le, nat_lt, if◌then◌else◌, List, [], ◌∷◌, ◌++◌, length, length-append, length-drop, take, drop, encode_utf8, Option, Some, None, option_map, option_and_then, refl, sym, inl, inr, arith}
use Rattle.std.specs.Char.{is_digit}
use Rattle.std.specs.Str.Parse.{digits_value}
use Rattle.std.specs.List.{prefix_len, list_all}
use Rattle.std.proofs.lemmas.Bool.{cases_Bool, and_parts, leb-true, eqb-true}
use Rattle.std.proofs.lemmas.Bool.Decides.{nat_tests}
use Rattle.std.proofs.lemmas.Str.{length-encode}
use Rattle.toml_parser.proofs.LexicalLemmas.{within_from_byte}
use Rattle.toml_parser.specs.Lexical.{Read, first, is_bare, skip_lines, skip_ws, split_while, starts_newline}
use Rattle.toml_parser.specs.Strings.{Key, after_piece, at_delims, body, escape, escape_char, hex_escape, hex_len, is_plain, is_scalar, key, key_after, one_line, prepend, quoted, recursion_limit, simple_escape, simple_key, special, starts_string, trim_newline}
use Rattle.nys_scenario.proofs.Rests.{Fits, drop_fits, fits_if, fits_then, lines_fits, ws_fits}

-- what was read and what is left have at most so many bytes
abbrev pub Holds : ℕ → Read (List ℕ) → Type 0
Holds n None = Unit {0}
Holds n (Some p) = length p.0 + length p.1 ≤ n

-- one of two reads
holds_if : (n : ℕ) (b : Bool) (x y : Read (List ℕ)) → (b ≡ true → Holds n x) → (b ≡ false → Holds n y) → Holds n (if b then x else y)
holds_if n true x y one other = one refl
holds_if n false x y one other = other refl

-- the same of a character, by its bytes
abbrev HoldsChar : ℕ → Read ℕ → Type 0
HoldsChar n None = Unit {0}
HoldsChar n (Some p) = length (encode_utf8 p.0) + length p.1 ≤ n

-- a character has at most four bytes
encode_few : (c : ℕ) → length (encode_utf8 c) ≤ 4
encode_few c = rw (length-encode c) (grind (arith, nat_tests))

-- hexadecimal digits, of which there are two or more
hex_holds : (k : ℕ) (text : List ℕ) → 2 ≤ k → HoldsChar (length text + 2) (hex_escape k text)
unfolding hex_escape
hex_holds k text many = by_test _ refl
  where
    digits : List ℕ
    digits = take k text

    by_test : (b : Bool) → ((nat_le k (length text) && list_all (λ c. is_digit c 16) digits) && is_scalar (digits_value 16 digits)) ≡ b
        → HoldsChar (length text + 2) (if b then Some (digits_value 16 digits, drop k text) else None)
    by_test false e = tt
    by_test true e =
        let (here, more) = and_parts (nat_le k (length text) && list_all (λ c. is_digit c 16) digits) (is_scalar (digits_value 16 digits)) e in
        let (long, all) = and_parts (nat_le k (length text)) (list_all (λ c. is_digit c 16) digits) here in
        omega (arith, leb-true k (length text) long, length-drop k text, encode_few (digits_value 16 digits), many)

-- a character of one byte
abbrev IsOneByte : Option ℕ → Type 0
IsOneByte None = Unit {0}
IsOneByte (Some c) = c < 128

one_if : (b : Bool) (x y : Option ℕ) → (b ≡ true → IsOneByte x) → IsOneByte y → IsOneByte (if b then x else y)
one_if true x y one other = one refl
one_if false x y one other = other

-- the letters of escapes stand for one byte
simple_one : (c : ℕ) → IsOneByte (simple_escape c)
simple_one c =
    one_if (c == 0x62) _ _ (λ e. omega arith) (one_if (c == 0x65) _ _ (λ e. omega arith)
    (one_if (c == 0x66) _ _ (λ e. omega arith) (one_if (c == 0x6E) _ _ (λ e. omega arith)
    (one_if (c == 0x72) _ _ (λ e. omega arith) (one_if (c == 0x74) _ _ (λ e. omega arith)
    (one_if (c == 34 || c == 92) (Some c) None (λ e. grind (arith, nat_tests)) tt))))))

-- a letter, as a character
one_holds : (o : Option ℕ) (text : List ℕ) → IsOneByte o → HoldsChar (length text + 1) (option_map (λ c. (c, drop 1 text)) o)
one_holds None text one = tt
one_holds (Some c) text one =
    let few : length (encode_utf8 c) ≤ 1 = rw (length-encode c) (grind (arith, nat_tests)) in
    omega (arith, few, length-drop 1 text)

-- how many hexadecimal digits there are, if any
hex_many : (c : ℕ) → nat_lt 0 (hex_len c) ≡ true → 2 ≤ hex_len c
hex_many c e = grind (arith, nat_tests)

-- a character behind a backslash
char_holds : (text : List ℕ) → HoldsChar (length text + 1) (escape_char text)
unfolding escape_char
char_holds text = by_test _ refl
  where
    by_test : (b : Bool) → nat_lt 0 (hex_len (first text)) ≡ b
        → HoldsChar (length text + 1) (if b then hex_escape (hex_len (first text)) (drop 1 text) else option_map (λ c. (c, drop 1 text)) (simple_escape (first text)))
    by_test false e = one_holds (simple_escape (first text)) text (simple_one (first text))
    by_test true e = more (hex_escape (hex_len (first text)) (drop 1 text)) (hex_holds (hex_len (first text)) (drop 1 text) (hex_many (first text) e))
      where
        inside : 1 ≤ length text
        inside = within_from_byte text 0 (grind (arith, nat_tests))

        more : (r : Read ℕ) → HoldsChar (length (drop 1 text) + 2) r → HoldsChar (length text + 1) r
        more None holds = tt
        more (Some p) holds = omega (arith, holds, length-drop 1 text, inside)

-- the bytes of a piece, if it is one
abbrev piece_length : Option (List ℕ) → ℕ
piece_length None = 0
piece_length (Some bytes) = length bytes

-- a piece of a string and what is left have at most so many bytes
abbrev HoldsPiece : ℕ → Read (Option (List ℕ)) → Type 0
HoldsPiece n None = Unit {0}
HoldsPiece n (Some p) = piece_length p.0 + length p.1 ≤ n

piece_if : (n : ℕ) (b : Bool) (x y : Read (Option (List ℕ))) → (b ≡ true → HoldsPiece n x) → (b ≡ false → HoldsPiece n y) → HoldsPiece n (if b then x else y)
piece_if n true x y one other = one refl
piece_if n false x y one other = other refl

-- a text whose first byte isn't 0 has one
has_first : (text : List ℕ) → 0 < first text → 1 ≤ length text
has_first text more = within_from_byte text 0 more

-- what follows a backslash, which is one byte more
escape_holds : (multi : Bool) (text : List ℕ) → Holds (length text + 1) (escape multi text)
unfolding escape
escape_holds multi text =
    holds_if (length text + 1) (multi && starts_newline (skip_ws text)) (Some ([], skip_lines text)) (option_map (λ p. (encode_utf8 p.0, p.1)) (escape_char text))
    (λ e. omega (arith, lines_fits (length text) text (omega arith))) (λ e. as_bytes (escape_char text) (char_holds text))
  where
    as_bytes : (r : Read ℕ) → HoldsChar (length text + 1) r → Holds (length text + 1) (option_map (λ p. (encode_utf8 p.0, p.1)) r)
    as_bytes None holds = tt
    as_bytes (Some p) holds = holds

-- delimiters of a string of several lines
delims_hold : (delim : ℕ) (text : List ℕ) → 1 ≤ length text → HoldsPiece (length text) (at_delims delim text)
delims_hold delim text inside =
    let count = prefix_len (λ c. c == delim) text in
    piece_if (length text) (count == 3) (Some (None, drop 3 text)) (if nat_lt count 6 then Some (Some (delim ∷ []), drop 1 text) else None)
    (λ e. omega (arith, length-drop 3 text))
    (λ e. piece_if (length text) (nat_lt count 6) (Some (Some (delim ∷ []), drop 1 text)) None (λ f. omega (arith, length-drop 1 text, inside)) (λ f. tt))

-- the piece that a byte stands for which isn't plain
special_holds : (delim : ℕ) (multi : Bool) (text : List ℕ) → 0 < delim → HoldsPiece (length text) (special delim multi text)
unfolding special
special_holds delim multi text some =
    piece_if n (first text == delim) (if multi then at_delims delim text else Some (None, drop 1 text)) _
    (λ e. let inside = has_first text (omega (arith, eqb-true (first text) delim e, some)) in
    piece_if n multi (at_delims delim text) (Some (None, drop 1 text)) (λ f. delims_hold delim text inside) (λ f. omega (arith, length-drop 1 text)))
    (λ e. piece_if n (first text == 92) (option_map (λ p. (Some p.0, p.1)) (escape multi (drop 1 text))) _
    (λ f. escaped (has_first text (omega (arith, eqb-true (first text) 92 f))) (escape multi (drop 1 text)) (escape_holds multi (drop 1 text)))
    (λ f. piece_if n (multi && starts_newline text) (Some (Some (first text ∷ []), drop 1 text)) None
    (λ g. omega (arith, length-drop 1 text, has_first text (newline_some (and_parts multi (starts_newline text) g).1)))
    (λ g. tt)))
  where
    n : ℕ
    n = length text

    newline_some : starts_newline text ≡ true → 0 < first text
    newline_some e = grind (arith, nat_tests)

    escaped : 1 ≤ length text → (r : Read (List ℕ)) → Holds (length (drop 1 text) + 1) r → HoldsPiece n (option_map (λ p. (Some p.0, p.1)) r)
    escaped inside None holds = tt
    escaped inside (Some p) holds = omega (arith, holds, length-drop 1 text, inside)

-- bytes in front of what was read
prepend_holds : (front : List ℕ) (n m : ℕ) (r : Read (List ℕ)) → length front + n ≤ m → Holds n r → Holds m (prepend front r)
prepend_holds front n m None le holds = tt
prepend_holds front n m (Some p) le holds = omega (arith, length-append front p.0, le, holds)

-- what goes on after a piece, or ends
piece_then : (n : ℕ) (r : Read (Option (List ℕ))) (more : List ℕ → Read (List ℕ)) → HoldsPiece n r
    → ((text : List ℕ) → Holds (length text) (more text)) → Holds n (option_and_then (λ p. after_piece more p.0 p.1) r)
piece_then n None more holds rest = tt
piece_then n (Some (None, left)) more holds rest = holds
piece_then n (Some (Some bytes, left)) more holds rest = prepend_holds bytes (length left) n (more left) holds (rest left)

-- a plain byte isn't 0
plain_some : (delim : ℕ) (multi : Bool) (c : ℕ) → is_plain delim multi c ≡ true → 0 < c
plain_some delim multi c e = grind (arith, nat_tests)

-- the content of a string
body_holds : (delim : ℕ) (multi : Bool) (k : ℕ) (text : List ℕ) → 0 < delim → Holds (length text) (body delim multi k text)
unfolding body
body_holds delim multi zero text some = tt
body_holds delim multi (suc k) text some =
    holds_if (length text) (is_plain delim multi (first text)) _ _
    (λ e. let inside = has_first text (plain_some delim multi (first text) e) in
    prepend_holds (first text ∷ []) (length (drop 1 text)) (length text) (body delim multi k (drop 1 text))
    (omega (arith, length-drop 1 text, inside)) (body_holds delim multi k (drop 1 text) some))
    (λ e. piece_then (length text) (special delim multi text) (body delim multi k) (special_holds delim multi text some)
    (λ rest. body_holds delim multi k rest some))

-- more may be left
holds_more : (n m : ℕ) (r : Read (List ℕ)) → n ≤ m → Holds n r → Holds m r
holds_more n m None le holds = tt
holds_more n m (Some p) le holds = omega (arith, le, holds)

-- a string of one line
line_holds : (text : List ℕ) → 0 < first text → Holds (length text) (one_line text)
unfolding one_line
line_holds text some =
    holds_more (length (drop 1 text)) (length text) (body (first text) false (length text) (drop 1 text))
    (omega (arith, length-drop 1 text)) (body_holds (first text) false (length text) (drop 1 text) some)

-- a text without a newline in front
trim_fits : (text : List ℕ) → length (trim_newline text) ≤ length text
trim_fits text = by_tests (first text == 10) (starts_newline text)
  where
    by_tests : (a b : Bool) → length (if a then drop 1 text else if b then drop 2 text else text) ≤ length text
    by_tests true b = omega (arith, length-drop 1 text)
    by_tests false true = omega (arith, length-drop 2 text)
    by_tests false false = omega arith

-- a string
pub quoted_holds : (text : List ℕ) → 0 < first text → Holds (length text) (quoted text)
unfolding quoted
quoted_holds text some =
    let start = trim_newline (drop 3 text) in
    holds_if (length text) _ (body (first text) true (length text) start) (one_line text)
    (λ e. holds_more (length start) (length text) (body (first text) true (length text) start)
    (omega (arith, trim_fits (drop 3 text), length-drop 3 text)) (body_holds (first text) true (length text) start some))
    (λ e. line_holds text some)

-- a quote isn't 0
pub string_some : (text : List ℕ) → starts_string text ≡ true → 0 < first text
string_some text e = grind (arith, nat_tests)

-- what is left behind a string
pub left_behind : (n : ℕ) (r : Read (List ℕ)) → Holds n r → Fits n r
left_behind n None holds = tt
left_behind n (Some p) holds = omega (arith, holds)

-- a key of one part
simple_fits : (n : ℕ) (text : List ℕ) → length text ≤ n → Fits n (simple_key text)
unfolding simple_key
simple_fits n text le = by_test _ refl
  where
    by_test : (b : Bool) → starts_string text ≡ b → Fits n (if b then one_line text else if is_bare (first text) then Some (split_while is_bare text) else None)
    by_test true e = left_behind n (one_line text) (holds_more (length text) n (one_line text) le (line_holds text (string_some text e)))
    by_test false e = fits_if n (is_bare (first text)) (Some (split_while is_bare text)) None (drop_fits (prefix_len is_bare text) n text le) tt

-- a key
key_after_fits : (k : ℕ) (path : List (List ℕ)) (n : ℕ) (text : List ℕ) → length text ≤ n → Fits n (key_after k path text)
unfolding key_after
key_after_fits zero path n text le = tt
key_after_fits (suc k) path n text le =
    fits_then n (simple_key text) _ (simple_fits n text le) (λ part within.
    let rest = skip_ws part.1 in
    let left = ws_fits n part.1 within in
    fits_if n (first rest == 46) (key_after k (path ++ part.0 ∷ []) (skip_ws (drop 1 rest))) (Some ((path, part.0), rest))
    (key_after_fits k (path ++ part.0 ∷ []) n (skip_ws (drop 1 rest)) (ws_fits n (drop 1 rest) (drop_fits 1 n rest left))) left)

pub key_fits : (n : ℕ) (text : List ℕ) → length text ≤ n → Fits n (key text)
key_fits n text le = key_after_fits recursion_limit [] n text le
