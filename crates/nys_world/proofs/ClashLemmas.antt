-- The first statement of a party that clashes with another, in a ledger that grows.
use Rattle.std.proofs.Common.{◌≡◌, ℕ, List, [], ◌∷◌, refl, inl, inr, ◌⊎◌}
use Rattle.std.specs.Prelude.{◌↔◌}
use Rattle.nys_ledger.specs.Shelves.{IsFirst}
use Rattle.nys_ledger.proofs.FirstLemmas.{first_longer, HasNone}
use Rattle.nys_stmt.specs.declared.statement.Statement.{Statement}
use Rattle.nys_stmt.specs.Same.{DoClash}
use Rattle.nys_rules.specs.Forged.{Entry, IsFirstClash, NoneClashes, with_made}
use Rattle.nys_rules.proofs.ForgedLemmas.{entry_of, IsClash, no_entry}

-- the party makes this one, and had made none that clashes with the statement
pub record BeginsToClash (entries : List Entry) (maker : ℕ) (made : Statement) (party : ℕ) (statement first : Statement) : Type 0 where
  pub is : entry_of party first ≡ entry_of maker made
  pub clashes : DoClash first statement
  pub none_before : NoneClashes entries party statement

-- where no entry clashes, no statement of the party does
none_of : (entries : List Entry) (party : ℕ) (statement : Statement) → HasNone (IsClash party statement) entries
    → NoneClashes entries party statement
none_of entries party statement none other made clash = none (entry_of party other) made (record { of = refl; clashes = clash })

-- the first that clashes is the first entry that does
to_first : (entries : List Entry) (party : ℕ) (statement first : Statement) → IsFirstClash entries party statement first
    → IsFirst (IsClash party statement) entries (entry_of party first)
to_first entries party statement first clash = record {
  before = clash.before;
  after = clash.after;
  among = clash.among;
  none_before = no_entry clash.before party statement clash.none_before;
  has = record { of = refl; clashes = clash.clashes };
}

-- and back
from_first : (entries : List Entry) (party : ℕ) (statement first : Statement)
    → IsFirst (IsClash party statement) entries (entry_of party first) → IsFirstClash entries party statement first
from_first entries party statement first is = record {
  before = is.before;
  after = is.after;
  among = is.among;
  none_before = none_of is.before party statement is.none_before;
  clashes = is.has.clashes;
}

-- with one entry more the first that clashes stays, or it is that one where there was none
pub clash_longer : (entries : List Entry) (maker : ℕ) (made : Statement) (party : ℕ) (statement first : Statement)
    → IsFirstClash (with_made maker (made ∷ []) entries) party statement first
    ↔ (IsFirstClash entries party statement first ⊎ BeginsToClash entries maker made party statement first)
clash_longer entries maker made party statement first =
    let longer = first_longer (IsClash party statement) entries (entry_of maker made) (entry_of party first) in (
      (λ clash. elim (longer.0 (to_first (with_made maker (made ∷ []) entries) party statement first clash)) [
        | inl old ↦ inl (from_first entries party statement first old)
        | inr new ↦ inr (record { is = new.0; clashes = new.1.clashes; none_before = none_of entries party statement new.2 })
      ]),
      (λ either. elim either [
        | inl old ↦ from_first (with_made maker (made ∷ []) entries) party statement first (longer.1 (inl (to_first entries party statement first old)))
        | inr new ↦ from_first (with_made maker (made ∷ []) entries) party statement first
            (longer.1 (inr (new.is, (record { of = refl; clashes = new.clashes }), no_entry entries party statement new.none_before)))
      ]),
    )
