-- Which statements a ledger has once a party made more.
use Rattle.std.proofs.Common.{◌≡◌, ℕ, zero, suc, ◌⊎◌, List, [], ◌∷◌, map, refl, ap, inl, inr, arith}
use Rattle.std.specs.Prelude.{Contains}
use Rattle.std.proofs.lemmas.List.Elements.{Contains-append_cases, Contains-append_left, Contains-append_right}
use Rattle.nys_stmt.specs.declared.statement.Statement.{Statement}
use Rattle.nys_rules.specs.Forged.{Entry, HasMade, with_made}

-- the statement as an entry of the party
abbrev entry_of : ℕ → Statement → Entry
entry_of party statement = record { party = party; statement = statement }

-- an entry of a party among the entries of one
entries_are : (party : ℕ) (made : List Statement) (g : ℕ) (s : Statement)
    → Contains (map (entry_of party) made) (entry_of g s)
    → (party ≡ g) × Contains made s
entries_are party [] g s among = absurd (omega (arith, among.1))
entries_are party (x ∷ made) g s (zero, lt, at) =
    (ap (λ e. e.party) at, (zero, omega arith, ap (λ e. e.statement) at))
entries_are party (x ∷ made) g s (suc n, lt, at) =
    let rest = entries_are party made g s (n, omega (arith, lt), at) in
    (rest.0, (suc rest.1.0, omega (arith, rest.1.1), rest.1.2))

-- what a party has made it had made before, or makes now
pub made_cases : (party : ℕ) (made : List Statement) (ledger : List Entry) (g : ℕ) (s : Statement)
    → HasMade (with_made party made ledger) g s
    → HasMade ledger g s ⊎ ((party ≡ g) × Contains made s)
made_cases party made ledger g s has =
    elim (Contains-append_cases ledger (map (entry_of party) made) (entry_of g s) has) [
      | inl old ↦ inl old
      | inr new ↦ inr (entries_are party made g s new)
    ]

-- what was made stays
pub made_before : (party : ℕ) (made : List Statement) (ledger : List Entry) (g : ℕ) (s : Statement)
    → HasMade ledger g s → HasMade (with_made party made ledger) g s
made_before party made ledger g s has =
    Contains-append_left ledger (map (entry_of party) made) (entry_of g s) has

-- what is made alone is there
pub made_now : (party : ℕ) (ledger : List Entry) (s : Statement)
    → HasMade (with_made party (s ∷ []) ledger) party s
made_now party ledger s =
    Contains-append_right ledger (entry_of party s ∷ []) (entry_of party s) (zero, omega arith, refl)

-- nothing was made before the first event
pub none_made : (g : ℕ) (s : Statement) → HasMade [] g s → ⊥
none_made g s has = omega (arith, has.1)
