-- What stands first is passed over, byte by byte, before the next lexeme begins.
use Rattle.std.proofs.Common.{◌≡◌, ℕ, zero, suc, ◌-◌, ◌<◌, ◌≤◌, List, [], ◌∷◌, ◌++◌, length, take, drop, refl, ap, ◌∙◌, sym, subst, arith, Ok, Err, append_assoc}
use Rattle.nys_lex.specs.declared.fault.MachineKind.{MachineKind}
use Rattle.nys_lex.specs.declared.lexeme.Lexeme.TheVariants.{Gap, Found, Refused}
use Rattle.nys_lex.specs.declared.token.TokenKind.{TokenKind}
use Rattle.nys_lex.specs.declared.token.TokenKind.TheVariants.{End}
use Rattle.nys_lex.specs.declared.place.Place.{Place}
use Rattle.nys_lex.specs.declared.token.Token.{Token}
use Rattle.nys_lex.specs.Place.{past_byte, past}
use Rattle.nys_lex.specs.Lexeme.{first_lexeme}
use Rattle.nys_lex.specs.Tokens.{Cut, cut, prepend, by_lexeme, len_of, token_at, fault_at}
use Rattle.nys_lex.proofs.LexemeLemmas.{Stands, first_lexeme_stands}

-- the bytes of what stood first give no token of their own
pub cut_passed : (p : Place) (n : ℕ) (s : List ℕ) → n ≤ length s → cut p n s ≡ cut (past p (take n s)) 0 (drop n s)
unfolding cut
cut_passed p zero s h = refl
cut_passed p (suc n) [] h = absurd (omega arith)
cut_passed p (suc n) (b ∷ s) h = cut_passed (past_byte p b) n s (omega arith)

-- a text is what stands first in it and what comes after
pub cut_first : (p : Place) (s : List ℕ) → 0 < length s → cut p 0 s ≡ by_lexeme p (first_lexeme s) (cut (past p (take (len_of (first_lexeme s)) s)) 0 (drop (len_of (first_lexeme s)) s))
unfolding cut
cut_first p [] h = absurd (omega arith)
cut_first p (b ∷ s) h =
    let stands : Stands (length (b ∷ s)) (first_lexeme (b ∷ s)) = first_lexeme_stands b s in
    let some : len_of (first_lexeme (b ∷ s)) ≡ suc (len_of (first_lexeme (b ∷ s)) - 1) = omega arith in
    let passed : cut p (len_of (first_lexeme (b ∷ s))) (b ∷ s) ≡ _ = cut_passed p (len_of (first_lexeme (b ∷ s))) (b ∷ s) (omega arith) in
    ap (by_lexeme p (first_lexeme (b ∷ s))) (sym (ap (λ n. cut p n (b ∷ s)) some) ∙ passed)

-- tokens that stand before tokens that stand before a rest
pub prepend_prepend : (xs ys : List Token) (rest : Cut) → prepend xs (prepend ys rest) ≡ prepend (xs ++ ys) rest
prepend_prepend xs ys (Ok zs) = ap Ok (sym (append_assoc xs ys zs))
prepend_prepend xs ys (Err e) = refl

-- a gap is passed over
pub gap_step : (p : Place) (s : List ℕ) (len : ℕ) (found : List Token) → 0 < length s → first_lexeme s ≡ Gap len
    → prepend found (cut p 0 s) ≡ prepend found (cut (past p (take len s)) 0 (drop len s))
gap_step p s len found some is = ap (prepend found) (subst (λ l. cut p 0 s ≡ by_lexeme p l (cut (past p (take (len_of l) s)) 0 (drop (len_of l) s))) is (cut_first p s some))

-- a token joins those before it
pub found_step : (p : Place) (s : List ℕ) (kind : TokenKind) (len : ℕ) (found : List Token) → 0 < length s → first_lexeme s ≡ Found kind len
    → prepend found (cut p 0 s) ≡ prepend (found ++ token_at p kind ∷ []) (cut (past p (take len s)) 0 (drop len s))
found_step p s kind len found some is =
    ap (prepend found) (subst (λ l. cut p 0 s ≡ by_lexeme p l (cut (past p (take (len_of l) s)) 0 (drop (len_of l) s))) is (cut_first p s some))
    ∙ prepend_prepend found (token_at p kind ∷ []) (cut (past p (take len s)) 0 (drop len s))

-- a fault that stands first is the text's
pub refused_step : (p : Place) (s : List ℕ) (kind : MachineKind) → 0 < length s → first_lexeme s ≡ Refused kind → cut p 0 s ≡ Err (fault_at p kind)
refused_step p s kind some is = subst (λ l. cut p 0 s ≡ by_lexeme p l (cut (past p (take (len_of l) s)) 0 (drop (len_of l) s))) is (cut_first p s some)

-- an empty text has its end alone
pub cut_end : (p : Place) (s : List ℕ) → length s ≡ 0 → cut p 0 s ≡ Ok (token_at p End ∷ [])
unfolding cut
cut_end p [] none = refl
cut_end p (b ∷ s) none = absurd (omega arith)
