-- The ledger of a world and what the machine has of it, once more was said.
use Rattle.std.proofs.Common.{◌≡◌, ◌≢◌, ℕ, zero, suc, Bool, List, [], ◌∷◌, Some, None, refl, ap, sym, subst, ◌∙◌, inl, inr, arith, append-nil}
use Rattle.std.specs.Prelude.{Contains, Option, slice_get}
use Rattle.nys_bytes.specs.declared.content.Content.{Content}
use Rattle.nys_stmt.specs.declared.statement.Body.{Body}
use Rattle.nys_stmt.specs.declared.statement.Body.TheVariants as body
use Rattle.nys_stmt.specs.declared.statement.FilledKind.TheVariants as kind
use Rattle.nys_stmt.specs.declared.statement.Statement.{Statement}
use Rattle.nys_agreement.specs.Said.{By, Has, Made, Said}
use Rattle.nys_rules.specs.Forged.{Entry, HasMade, with_made}
use Rattle.nys_rules.specs.Scope.{olympus}
use Rattle.nys_rules.specs.Sending.{said_in}
use Rattle.nys_rules.specs.World.{Setting}
use Rattle.nys_laws.proofs.LedgerLemmas.{made_before, made_cases, made_now}
use Rattle.nys_follows.specs.Follows.{IsLedger, IsOpened, IsTruthful, statement_of}

-- what the machine calls a body, if it knows it
abbrev said_by : ℕ → Body → Option Said
said_by e (body.Filled kind.Offer h s c) = Some (Said.Offer e h s c)
said_by e (body.Filled kind.Order h s c) = Some (Said.Order e h s c)
said_by e (body.Filled kind.Deliver h s c) = Some (Said.Deliver e h s c)
said_by e (body.Attest p h k payload) = Some (Said.Attest e p h k payload)
said_by e (body.Ask h s) = None
said_by e body.Wedge = None
said_by e (body.Filled kind.Report h s c) = Some (Said.Report e h s c)
said_by e (body.Frozen h f) = Some (Said.Frozen e h f)
said_by e (body.Open lengths) = None
said_by e (body.Filled kind.Inherit h s c) = None

-- what it calls a statement
abbrev pub said_of : Statement → Option Said
said_of s = said_by s.epoch s.body

-- the statement that it knows so
pub said_back : (s : Said) → said_of (statement_of s) ≡ Some s
said_back (Said.Offer e h s c) = refl
said_back (Said.Order e h s c) = refl
said_back (Said.Deliver e h s c) = refl
said_back (Said.Attest e p h k payload) = refl
said_back (Said.Report e h s c) = refl
said_back (Said.Frozen e h f) = refl

-- no two are known as one
said_once : (a b : Said) → statement_of a ≡ statement_of b → a ≡ b
said_once a b e =
    let same : ◌≡◌ {A = Option Said} (Some a) (Some b) = sym (said_back a) ∙ (ap said_of e ∙ said_back b) in cc

-- the one of one
pub one_of : {A : Type 0} (x y : A) → Contains (x ∷ []) y → x ≡ y
one_of x y (zero, lt, at) = at
one_of x y (suc n, lt, at) = absurd (omega (arith, lt))

-- more was made that the machine doesn't know, and what the Olympus told of it is so
pub ledger_on : {S : Type 0} (setting : Setting S) (party : ℕ) (made : List Statement) (ledger : List Entry) (told : List Made)
    (top : ℕ) (decided : ℕ → List Content) (base : ℕ → ℕ → ℕ) (live : ℕ → ℕ → Bool)
    → ((s : Said) → Contains made (statement_of s) → ⊥)
    → ((e : ℕ) (lengths : List (Option ℕ)) → party ≡ olympus → Contains made (said_in e (body.Open lengths)) → IsOpened setting e lengths top base live)
    → ((e h s : ℕ) (c : Content) → party ≡ olympus → Contains made (said_in e (body.Filled kind.Inherit h s c)) → slice_get (decided h) s ≡ Some c)
    → IsLedger setting ledger told top decided base live
    → IsLedger setting (with_made party made ledger) told top decided base live
ledger_on setting party made ledger told top decided base live none opened inherited k = record {
  here = λ g s has. elim (made_cases party made ledger g (statement_of s) has) [
    | inl old ↦ k.here g s old
    | inr new ↦ absurd (none s new.1)
  ];
  there = λ g s has. made_before party made ledger g (statement_of s) (k.there g s has);
  makers = λ g s has. elim (made_cases party made ledger g (statement_of s) has) [
    | inl old ↦ k.makers g s old
    | inr new ↦ absurd (none s new.1)
  ];
  opened = λ e lengths has. elim (made_cases party made ledger olympus (said_in e (body.Open lengths)) has) [
    | inl old ↦ k.opened e lengths old
    | inr new ↦ opened e lengths new.0 new.1
  ];
  inherited = λ e h s c has. elim (made_cases party made ledger olympus (said_in e (body.Filled kind.Inherit h s c)) has) [
    | inl old ↦ k.inherited e h s c old
    | inr new ↦ inherited e h s c new.0 new.1
  ];
}

-- a host made more that the machine doesn't know
pub ledger_beside : {S : Type 0} (setting : Setting S) (g : ℕ) (made : List Statement) (ledger : List Entry) (told : List Made)
    (top : ℕ) (decided : ℕ → List Content) (base : ℕ → ℕ → ℕ) (live : ℕ → ℕ → Bool)
    → g ≢ olympus → ((s : Said) → Contains made (statement_of s) → ⊥)
    → IsLedger setting ledger told top decided base live
    → IsLedger setting (with_made g made ledger) told top decided base live
ledger_beside setting g made ledger told top decided base live host none k =
    ledger_on setting g made ledger told top decided base live none
    (λ e lengths same has. absurd (host same)) (λ e h s c same has. absurd (host same)) k

-- nothing was made
pub ledger_same : {S : Type 0} (setting : Setting S) (g : ℕ) (ledger : List Entry) (told : List Made)
    (top : ℕ) (decided : ℕ → List Content) (base : ℕ → ℕ → ℕ) (live : ℕ → ℕ → Bool)
    → IsLedger setting ledger told top decided base live
    → IsLedger setting (with_made g [] ledger) told top decided base live
ledger_same setting g ledger told top decided base live k =
    subst (λ l. IsLedger setting l told top decided base live) (sym (append-nil ledger)) k

-- an honest host made one statement that the machine knows
pub ledger_says : {S : Type 0} (setting : Setting S) (g : ℕ) (said : Said) (ledger : List Entry) (told : List Made)
    (top : ℕ) (decided : ℕ → List Content) (base : ℕ → ℕ → ℕ) (live : ℕ → ℕ → Bool)
    → g ≢ olympus → IsTruthful setting g → IsLedger setting ledger told top decided base live
    → IsLedger setting (with_made g (statement_of said ∷ []) ledger) (By g said ∷ told) top decided base live
ledger_says {S} setting g said ledger told top decided base live host truthful k = record {
  here = λ x s has. elim (made_cases g (statement_of said ∷ []) ledger x (statement_of s) has) [
    | inl old ↦ inr (k.here x s old)
    | inr new ↦ inl (
        let who = new.0 in
        let what = said_once said s (one_of (statement_of said) (statement_of s) new.1) in
        cc)
  ];
  there = λ x s has. back x s has;
  makers = λ x s has. elim (made_cases g (statement_of said ∷ []) ledger x (statement_of s) has) [
    | inl old ↦ k.makers x s old
    | inr new ↦ subst (IsTruthful setting) new.0 truthful
  ];
  opened = λ e lengths has. elim (made_cases g (statement_of said ∷ []) ledger olympus (said_in e (body.Open lengths)) has) [
    | inl old ↦ k.opened e lengths old
    | inr new ↦ absurd (host new.0)
  ];
  inherited = λ e h s c has. elim (made_cases g (statement_of said ∷ []) ledger olympus (said_in e (body.Filled kind.Inherit h s c)) has) [
    | inl old ↦ k.inherited e h s c old
    | inr new ↦ absurd (host new.0)
  ];
}
  where
    back : (x : ℕ) (s : Said) → Has (By g said ∷ told) (By x s) → HasMade (with_made g (statement_of said ∷ []) ledger) x (statement_of s)
    back x s (inl new) =
        let who : g ≡ x = cc in
        let what : said ≡ s = cc in
        subst (λ y. HasMade (with_made g (statement_of said ∷ []) ledger) y (statement_of s)) who
        (subst (λ y. HasMade (with_made g (statement_of said ∷ []) ledger) g (statement_of y)) what (made_now g ledger (statement_of said)))
    back x s (inr old) = made_before g (statement_of said ∷ []) ledger x (statement_of s) (k.there x s old)
