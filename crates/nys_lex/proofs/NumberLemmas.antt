-- A number grows with its digits.
use Rattle.std.proofs.Common.{◌≡◌, ℕ, ◌+◌, ◌-◌, ◌*◌, ◌<◌, ◌≤◌, suc, List, [], ◌∷◌, length, get_or, drop, arith, ap, drop-cons}
use Rattle.std.specs.Prelude.{fold}
use Rattle.nys_lex.specs.Lexeme.{with_digit}

-- more digits write no smaller number
pub value_grows : (v : ℕ) (ds : List ℕ) → v ≤ fold with_digit v ds
value_grows v [] = omega arith
value_grows v (d ∷ ds) = let more : 10 * v + (d - 48) ≤ fold with_digit (10 * v + (d - 48)) ds = value_grows (10 * v + (d - 48)) ds in omega arith

-- what is too great after one digit is too great after all
pub stays_great : (limit v i total : ℕ) (ds : List ℕ) → i < length ds → limit ≤ with_digit v (get_or ds i 0) → fold with_digit v (drop i ds) ≡ total → limit ≤ total
stays_great limit v i total ds h great e =
    let cut : drop i ds ≡ get_or ds i 0 ∷ drop (suc i) ds = drop-cons ds i 0 h in
    let more : with_digit v (get_or ds i 0) ≤ fold with_digit (with_digit v (get_or ds i 0)) (drop (suc i) ds) = value_grows _ (drop (suc i) ds) in
    let same : fold with_digit v (drop i ds) ≡ fold with_digit (with_digit v (get_or ds i 0)) (drop (suc i) ds) = ap (fold with_digit v) cut in
    omega arith
