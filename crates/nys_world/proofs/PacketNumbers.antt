-- The numbers of packets that pass a test, found one after another.
use Rattle.std.proofs.Common.{◌≡◌, ℕ, ◌+◌, ◌++◌, Bool, true, false, List, [], ◌∷◌, length, Some, None, refl, ap, sym, ◌∙◌, inl, inr}
use Rattle.std.proofs.lemmas.Option.{slice_get_cases}
use Rattle.std.specs.Prelude.{filter, if◌then◌else◌, Option, slice_get}
use Rattle.std.specs.List.{range_with_len}
use Rattle.nys_rules.specs.Happening.{packets_with}
use Rattle.nys_rules.specs.Packets.{Sent}
use Rattle.nys_rules.specs.World.{World}
use Rattle.nys_sending.proofs.ReceiverLemmas.{filter_more}

-- whether a packet that may be there passes the test
abbrev pub passes : (ℕ → Sent → Bool) → ℕ → Option Sent → Bool
passes test k None = false
passes test k (Some p) = test k p

-- the numbers below n of packets that pass the test
abbrev pub packets_below : (ℕ → Sent → Bool) → List Sent → ℕ → List ℕ
packets_below test pool n = filter (λ k. passes test k (slice_get pool k)) (range_with_len 0 n)

-- the same numbers pass tests that are alike
filter_alike : (p q : ℕ → Bool) → ((k : ℕ) → p k ≡ q k) → (ks : List ℕ) → filter p ks ≡ filter q ks
filter_alike p q same [] = refl
filter_alike p q same (k ∷ ks) = by (p k) (q k) (same k) (filter_alike p q same ks)
  where
    by : (a b : Bool) → a ≡ b → filter p ks ≡ filter q ks
        → (if a then k ∷ filter p ks else filter p ks) ≡ (if b then k ∷ filter q ks else filter q ks)
    by true true e rest = ap (λ l. k ∷ l) rest
    by false false e rest = rest
    by true false e rest = absurd (cc)
    by false true e rest = absurd (cc)

-- one more number was looked at
pub packets_next : (test : ℕ → Sent → Bool) (pool : List Sent) (k : ℕ) (p : Sent) → slice_get pool k ≡ Some p
    → packets_below test pool (k + 1) ≡ packets_below test pool k ++ (if test k p then k ∷ [] else [])
packets_next test pool k p at =
    filter_more (λ x. passes test x (slice_get pool x)) k
    ∙ ap (λ o. packets_below test pool k ++ (if passes test k o then k ∷ [] else [])) at

-- all were looked at
pub packets_all : (test : ℕ → Sent → Bool) (w : World) (n : ℕ) → n ≡ length w.pool → packets_below test w.pool n ≡ packets_with test w
packets_all test w n is =
    ap (packets_below test w.pool) is
    ∙ filter_alike (λ k. passes test k (slice_get w.pool k)) _ (λ k. elim (slice_get_cases w.pool k).1 [
      | inl there ↦ rw there.2 refl
      | inr past ↦ rw past.1 refl
    ]) (range_with_len 0 (length w.pool))

-- the number is appended where its packet passes
pub pushed_next : (test : ℕ → Sent → Bool) (pool : List Sent) (k : ℕ) (before after : List ℕ) (p : Sent) (passed : Bool) → slice_get pool k ≡ Some p
    → passed ≡ test k p → before ≡ packets_below test pool k → after ≡ before ++ (if passed then k ∷ [] else [])
    → after ≡ packets_below test pool (k + 1)
pushed_next test pool k before after p passed at same below is =
    is ∙ ap (λ l. l ++ (if passed then k ∷ [] else [])) below
    ∙ ap (λ b. packets_below test pool k ++ (if b then k ∷ [] else [])) same
    ∙ sym (packets_next test pool k p at)
