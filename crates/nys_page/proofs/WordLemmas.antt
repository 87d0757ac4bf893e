-- Words that ask for the same: bytes which are no UTF-8, and the empty word.
use Rattle.std.proofs.Common.{◌≡◌, Bool, true, false, ℕ, List, [], ◌∷◌, refl, sym, subst, None}
use Rattle.std.specs.Prelude.{codes, Err}
use Rattle.std.specs.Str.{IsUtf8, bytes_eq}
use Rattle.std.proofs.lemmas.Slice.Eq.{bytes_eq-Decides}
use Rattle.nys_words.specs.Words.{answer_to, command_of, is_dashed}

-- what is no UTF-8 is another text than one that is
is_other : (bytes text : List ℕ) → (IsUtf8 bytes → ⊥) → IsUtf8 text
    → (b : Bool) → bytes_eq bytes text ≡ b → b ≡ false
is_other bytes text bad good false e = refl
is_other bytes text bad good true e = absurd (bad (subst IsUtf8 (sym ((bytes_eq-Decides bytes text).0 e)) good))

-- it is no command's word
no_command : (bytes : List ℕ) → (IsUtf8 bytes → ⊥) → command_of bytes ≡ None
unfolding lib.Utf8.encode
no_command bytes bad =
    rw (is_other bytes (codes "bare") bad (codes "bare", (refl, refl)) _ refl)
    (rw (is_other bytes (codes "verify") bad (codes "verify", (refl, refl)) _ refl)
    (rw (is_other bytes (codes "check") bad (codes "check", (refl, refl)) _ refl)
    (rw (is_other bytes (codes "plan") bad (codes "plan", (refl, refl)) _ refl)
    (rw (is_other bytes (codes "replay") bad (codes "replay", (refl, refl)) _ refl)
    (rw (is_other bytes (codes "trace") bad (codes "trace", (refl, refl)) _ refl) refl)))))

-- and not the word `workload`
no_workload : (bytes : List ℕ) → (IsUtf8 bytes → ⊥) → bytes_eq bytes (codes "workload") ≡ false
unfolding lib.Utf8.encode
no_workload bytes bad = is_other bytes (codes "workload") bad (codes "workload", (refl, refl)) _ refl

-- so it is refused at its place, as the empty word is
pub refused : (bytes : List ℕ) → (IsUtf8 bytes → ⊥) → answer_to ([] ∷ []) ≡ answer_to (bytes ∷ [])
refused bytes bad = sym (by (is_dashed bytes) refl)
  where
    -- by whether it begins with a dash
    by : (b : Bool) → is_dashed bytes ≡ b → answer_to (bytes ∷ []) ≡ Err 0
    by true e = rw e refl
    by false e = rw e (rw (no_workload bytes bad) (rw (no_command bytes bad) refl))
