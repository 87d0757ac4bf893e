-- Lists of all hosts, and logs handed over entry after entry.
use Rattle.std.proofs.Common.{◌≡◌, ℕ, zero, suc, ◌+◌, ◌<◌, ◌≤◌, List, [], ◌∷◌, ◌++◌, drop, refl, ap, ◌∙◌, arith}
use Rattle.std.proofs.lemmas.List.FromFn.{get_or-range_with_len, length-range_with_len}
use Rattle.std.specs.Prelude.{All, AllPairs, fold, slice_get, Some}
use Rattle.std.specs.List.{range_with_len}
use Rattle.nys_bytes.specs.declared.content.Content.{Content}
use Rattle.nys_rules.specs.Olympus.{proclaimed}
use Rattle.nys_rules.specs.Packets.{Acts, joined}
use Rattle.nys_rules.specs.Scope.{guards_of, Scope}
use Rattle.nys_sending.proofs.Walks.{drop_next}
use Rattle.nys_sending.specs.Receivers.{AreReceivers}
use Rattle.nys_stmt.specs.declared.statement.Body.TheVariants as body
use Rattle.nys_stmt.specs.declared.statement.FilledKind.TheVariants as kind
use Rattle.nys_olympus.specs.Handing.{handed_from}

-- the hosts below n are receivers
pub range_rule : (n : ℕ) → n ≤ 32 → AreReceivers (range_with_len 0 n)
range_rule n few = record { rising = rising; parties = parties }
  where
    rising : AllPairs (λ a b. a < b) (range_with_len 0 n)
    rising i j d less within =
        let size = length-range_with_len 0 n in
        let there : j < n = omega (arith, within, size) in
        rw (get_or-range_with_len 0 n i d (omega (arith, less, there)), get_or-range_with_len 0 n j d there) (omega (arith, less))

    parties : All (λ g. g ≤ 32) (range_with_len 0 n)
    parties k d within =
        let size = length-range_with_len 0 n in
        rw (get_or-range_with_len 0 n k d (omega (arith, within, size))) (omega (arith, within, size, few))

-- a range, then the number behind it
range_more : (a n : ℕ) → range_with_len a (suc n) ≡ range_with_len a n ++ (a + n) ∷ []
range_more a zero = let e : a ≡ a + 0 = omega arith in ap (λ x. x ∷ []) e
range_more a (suc n) =
    let e : a + 1 + n ≡ a + suc n = omega arith in
    ap (λ l. a ∷ l) (range_more (a + 1) n ∙ ap (λ x. range_with_len (a + 1) n ++ x ∷ []) e)

-- one host more
pub range_next : (n : ℕ) → range_with_len 0 (n + 1) ≡ range_with_len 0 n ++ n ∷ []
range_next n =
    let next : n + 1 ≡ suc n = omega arith in
    let same : 0 + n ≡ n = omega arith in
    ap (λ k. range_with_len 0 k) next ∙ range_more 0 n ∙ ap (λ k. range_with_len 0 n ++ k ∷ []) same

-- one entry more is handed over
pub handed_next : {S : Type 0} (scope : Scope S) (e h slot : ℕ) (contents : List Content) (content : Content) (old : Acts) → slice_get contents slot ≡ Some content
    → fold joined (joined old (proclaimed scope e (body.Filled kind.Inherit h slot content) (guards_of scope e h))) (handed_from scope e h (slot + 1) (drop (slot + 1) contents))
    ≡ fold joined old (handed_from scope e h slot (drop slot contents))
handed_next scope e h slot contents content old at = rw (drop_next contents slot content at) refl
