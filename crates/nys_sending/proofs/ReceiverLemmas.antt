-- Lists of receivers: hosts of a set, the others, and whom a next tag is above.
use Rattle.std.proofs.Common.{◌≡◌, ℕ, zero, suc, ◌+◌, ◌<◌, ◌≤◌, Bool, List, [], ◌∷◌, ◌++◌, length, map, take, not, ◌==◌, ap, ◌∙◌, arith}
use Rattle.std.specs.Prelude.{All, AllPairs, filter, min, slice_index_or}
use Rattle.std.specs.List.{range_with_len}
use Rattle.std.proofs.lemmas.List.{get_or-take, get_or_default, length-take}
use Rattle.std.proofs.lemmas.List.Elements.{All-filter, All-map, All-weaker, filter-append}
use Rattle.std.proofs.lemmas.List.Kept.{AllPairs-filter}
use Rattle.nys_hosts.proofs.ListLemmas.{lists_passing}
use Rattle.nys_hosts.specs.Sets.{has, members}
use Rattle.nys_hosts.specs.declared.set.HostSet.{HostSet}
use Rattle.nys_sending.specs.Receivers.{AreReceivers, tagged}
use Rattle.nys_rules.specs.Sending.{others}

-- a range, then the number behind it
pub range_more : (a n : ℕ) → range_with_len a (suc n) ≡ range_with_len a n ++ (a + n) ∷ []
range_more a zero = let e : a ≡ a + 0 = omega arith in ap (λ x. x ∷ []) e
range_more a (suc n) =
    let e : a + 1 + n ≡ a + suc n = omega arith in
    ap (λ l. a ∷ l) (range_more (a + 1) n ∙ ap (λ x. range_with_len (a + 1) n ++ x ∷ []) e)

-- the numbers below h that pass, then h if it passes
pub filter_more : (p : ℕ → Bool) (h : ℕ) → filter p (range_with_len 0 (h + 1)) ≡ filter p (range_with_len 0 h) ++ filter p (h ∷ [])
filter_more p h =
    let next : h + 1 ≡ suc h = omega arith in
    let same : 0 + h ≡ h = omega arith in
    ap (λ n. filter p (range_with_len 0 n)) next
    ∙ ap (λ hosts. filter p hosts) (range_more 0 h ∙ ap (λ q. range_with_len 0 h ++ q ∷ []) same)
    ∙ filter-append p (range_with_len 0 h) (h ∷ [])

-- hosts of a set are receivers
pub members_rule : (set : HostSet) → AreReceivers (members set)
members_rule set = let law = lists_passing (has set) in record {
  rising = law.rising;
  parties = All-weaker (λ g. g < 32) (λ g. g ≤ 32) (λ g below. omega (arith, below)) (members set) law.hosts;
}

-- receivers without one of them are receivers
pub others_rule : (me : ℕ) (receivers : List ℕ) → AreReceivers receivers → AreReceivers (others me receivers)
others_rule me receivers rule = record {
  rising = AllPairs-filter (λ a b. a < b) (λ g. not (g == me)) receivers rule.rising;
  parties = All-filter (λ g. not (g == me)) (λ g. g ≤ 32) receivers rule.parties;
}

-- the receivers tagged before are below the one that is next
pub tagged_below : (keys bytes : List ℕ) (maker : ℕ) (xs : List ℕ) (i : ℕ) → i < length xs → AllPairs (λ a b. a < b) xs
    → All (λ t. t.0 < slice_index_or xs i 0) (map (tagged keys maker bytes) (take i xs))
tagged_below keys bytes maker xs i within rising =
    All-map (λ t. t.0 < slice_index_or xs i 0) (tagged keys maker bytes) (take i xs) below
  where
    below : All (λ x. x < slice_index_or xs i 0) (take i xs)
    below k d inside =
        let size : length (take i xs) ≡ min i (length xs) = length-take i xs in
        let before : k < i = omega (arith, size, inside, within) in
        omega (arith, get_or-take i xs k d before, get_or_default xs i d 0 within, rising k i d before within)
