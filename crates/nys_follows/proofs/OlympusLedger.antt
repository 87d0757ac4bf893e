-- What the machine knows of a ledger, where statements that it doesn't know join it, and where the
-- Olympus goes on to later logs and epochs.
use Rattle.std.proofs.Common.{◌≡◌, ℕ, ◌≤◌, Bool, List, Some, ◌∙◌, inl, inr, arith}
use Rattle.std.specs.Prelude.{All, Contains, slice_get}
use Rattle.std.proofs.lemmas.List.Elements.{All-contains}
use Rattle.nys_bytes.specs.declared.content.Content.{Content}
use Rattle.nys_agreement.specs.Said.{Made, Said}
use Rattle.nys_stmt.specs.declared.statement.Body.{Body}
use Rattle.nys_stmt.specs.declared.statement.Body.TheVariants as body
use Rattle.nys_stmt.specs.declared.statement.FilledKind.TheVariants as kind
use Rattle.nys_stmt.specs.declared.statement.Statement.{Statement}
use Rattle.nys_rules.specs.Forged.{Entry, with_made}
use Rattle.nys_rules.specs.Scope.{olympus}
use Rattle.nys_rules.specs.Sending.{said_in}
use Rattle.nys_rules.specs.World.{Setting}
use Rattle.nys_laws.proofs.LedgerLemmas.{made_before, made_cases}
use Rattle.nys_follows.specs.Follows.{IsLedger, IsOpened, statement_of}

-- the Olympus goes on: its epoch never falls, the tables of old epochs stay, and decided logs grow
pub record GoesOver (top : ℕ) (decided : ℕ → List Content) (base : ℕ → ℕ → ℕ) (live : ℕ → ℕ → Bool)
    (next_top : ℕ) (next_decided : ℕ → List Content) (next_base : ℕ → ℕ → ℕ) (next_live : ℕ → ℕ → Bool) : Type 0 where
  pub rises : top ≤ next_top
  pub begins : (e h : ℕ) → e ≤ top → next_base e h ≡ base e h
  pub lives : (e h : ℕ) → e ≤ top → next_live e h ≡ live e h
  pub grows : (h s : ℕ) (c : Content) → slice_get (decided h) s ≡ Some c → slice_get (next_decided h) s ≡ Some c

-- the statements that the machine knows are as they were
pub ledger_later : {S : Type 0} (setting : Setting S) (ledger : List Entry) (made : List Made)
    (top : ℕ) (decided : ℕ → List Content) (base : ℕ → ℕ → ℕ) (live : ℕ → ℕ → Bool)
    (next_top : ℕ) (next_decided : ℕ → List Content) (next_base : ℕ → ℕ → ℕ) (next_live : ℕ → ℕ → Bool)
    → GoesOver top decided base live next_top next_decided next_base next_live
    → IsLedger setting ledger made top decided base live
    → IsLedger setting ledger made next_top next_decided next_base next_live
ledger_later setting ledger made top decided base live next_top next_decided next_base next_live on k = record {
  here = k.here;
  there = k.there;
  makers = k.makers;
  opened = λ e lengths has.
      let was = k.opened e lengths has in
      let upto = was.upto in
      let rises = on.rises in
      record {
        upto = omega (arith, upto, rises);
        lives = λ h low. on.lives e h was.upto ∙ was.lives h low;
        begins = λ h low kept. on.begins e h was.upto ∙ was.begins h low kept;
      };
  inherited = λ e h s c has. on.grows h s c (k.inherited e h s c has);
}

-- a statement that the machine doesn't know, but for what the Olympus tells of an epoch: that is so
abbrev pub IsBeside : {S : Type 0} → Setting S → (top : ℕ) → (ℕ → List Content) → (ℕ → ℕ → ℕ) → (ℕ → ℕ → Bool)
    → (e : ℕ) → Body → Type 0
IsBeside setting top decided base live e (body.Filled kind.Offer h s c) = ⊥
IsBeside setting top decided base live e (body.Filled kind.Order h s c) = ⊥
IsBeside setting top decided base live e (body.Filled kind.Deliver h s c) = ⊥
IsBeside setting top decided base live e (body.Attest p h k payload) = ⊥
IsBeside setting top decided base live e (body.Ask h s) = Unit {0}
IsBeside setting top decided base live e body.Wedge = Unit {0}
IsBeside setting top decided base live e (body.Filled kind.Report h s c) = ⊥
IsBeside setting top decided base live e (body.Frozen h s) = ⊥
IsBeside setting top decided base live e (body.Open lengths) = IsOpened setting e lengths top base live
IsBeside setting top decided base live e (body.Filled kind.Inherit h s c) = slice_get (decided h) s ≡ Some c

-- the same of a statement
abbrev pub StandsBeside : {S : Type 0} → Setting S → (top : ℕ) → (ℕ → List Content) → (ℕ → ℕ → ℕ)
    → (ℕ → ℕ → Bool)
    → Statement → Type 0
StandsBeside setting top decided base live s = IsBeside setting top decided base live s.epoch s.body

-- none of the machine's is such a statement
never_beside : {S : Type 0} (setting : Setting S) (top : ℕ) (decided : ℕ → List Content) (base : ℕ → ℕ → ℕ)
    (live : ℕ → ℕ → Bool) (s : Said) → StandsBeside setting top decided base live (statement_of s) → ⊥
never_beside setting top decided base live (Said.Offer e h s c) p = p
never_beside setting top decided base live (Said.Order e h s c) p = p
never_beside setting top decided base live (Said.Deliver e h s c) p = p
never_beside setting top decided base live (Said.Attest e q h k payload) p = p
never_beside setting top decided base live (Said.Report e h s c) p = p
never_beside setting top decided base live (Said.Frozen e h f) p = p

-- a party that makes such statements changes nothing that the machine knows
pub ledger_beside : {S : Type 0} (setting : Setting S) (party : ℕ) (more : List Statement) (ledger : List Entry)
    (made : List Made) (top : ℕ) (decided : ℕ → List Content) (base : ℕ → ℕ → ℕ) (live : ℕ → ℕ → Bool)
    → All (StandsBeside setting top decided base live) more
    → IsLedger setting ledger made top decided base live
    → IsLedger setting (with_made party more ledger) made top decided base live
ledger_beside {S} setting party more ledger made top decided base live all k = record {
  here = λ g s has. elim (made_cases party more ledger g (statement_of s) has) [
    | inl old ↦ k.here g s old
    | inr now ↦ absurd (never_beside setting top decided base live s (told (statement_of s) now.1))
  ];
  there = λ g s has. made_before party more ledger g (statement_of s) (k.there g s has);
  makers = λ g s has. elim (made_cases party more ledger g (statement_of s) has) [
    | inl old ↦ k.makers g s old
    | inr now ↦ absurd (never_beside setting top decided base live s (told (statement_of s) now.1))
  ];
  opened = λ e lengths has. elim (made_cases party more ledger olympus (said_in e (body.Open lengths)) has) [
    | inl old ↦ k.opened e lengths old
    | inr now ↦ told (said_in e (body.Open lengths)) now.1
  ];
  inherited = λ e h s c has. elim (made_cases party more ledger olympus (said_in e (body.Filled kind.Inherit h s c)) has) [
    | inl old ↦ k.inherited e h s c old
    | inr now ↦ told (said_in e (body.Filled kind.Inherit h s c)) now.1
  ];
}
  where
    told : (s : Statement) → Contains more s → StandsBeside setting top decided base live s
    told s among = All-contains (StandsBeside setting top decided base live) more s all among
