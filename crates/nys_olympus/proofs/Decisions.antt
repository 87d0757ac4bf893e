-- What the Olympus answers to a command about one host.
use Rattle.std.proofs.Common.{◌≡◌, ℕ, true, false, refl, sym, ◌∙◌}
use Rattle.nys_source.specs.Tables.{put}
use Rattle.nys_rules.specs.Olympus.{after_decision, Decides, decision, is_settled, OlympusView, open_decision, Retires}
use Rattle.nys_rules.specs.Scope.{Scope}
use Rattle.nys_rules.specs.declared.decision.Decision.{Decision}
use Rattle.nys_rules.specs.declared.decision.Decision.TheVariants as decide
use Rattle.nys_rules.specs.declared.decision.Retired.TheVariants as retire

-- nothing more can change about the host
pub retires_not : (o : OlympusView) (h : ℕ) → o.wedged ≡ true → is_settled o h ≡ true → Retires o h o retire.Settled
retires_not o h ends settled = record { told = rw (ends, settled) refl; after_is = refl }

-- the host is given up
pub retires_now : (o : OlympusView) (h : ℕ) → o.wedged ≡ true → is_settled o h ≡ false → Retires o h (record o { retired = put o.retired h true }) retire.Done
retires_now o h ends goes = record { told = rw (ends, goes) refl; after_is = refl }

-- the epoch isn't ending
pub decides_not : {S : Type 0} (scope : Scope S) (o : OlympusView) (h : ℕ) → o.wedged ≡ false → Decides scope o h o decide.NotWedged
unfolding decision
decides_not scope o h goes = record { told = rw goes refl; after_is = refl }

-- nothing more can change about the host
pub decides_settled : {S : Type 0} (scope : Scope S) (o : OlympusView) (h : ℕ) → o.wedged ≡ true → is_settled o h ≡ true → Decides scope o h o decide.Settled
unfolding decision
decides_settled scope o h ends settled = record { told = rw (ends, settled) refl; after_is = refl }

-- guards decide
pub decides_open : {S : Type 0} (scope : Scope S) (o : OlympusView) (h : ℕ) (answer : Decision) → o.wedged ≡ true → is_settled o h ≡ false
    → answer ≡ open_decision scope o h → Decides scope o h (after_decision scope o h answer) answer
unfolding decision
decides_open scope o h answer ends goes same = record { told = same ∙ sym (rw (ends, goes) refl); after_is = refl }
