-- Which views an Olympus means.
use Rattle.std.specs.Prelude.{◌≡◌, ℕ, ◌<◌, ◌≤◌, false, List, [], length, slice_get, Some, All}
use Rattle.nys_hosts.specs.declared.limits.TheConstants.{MAX_HOSTS, MAX_SLOTS}
use Rattle.nys_hosts.specs.Sets.{has}
use Rattle.nys_rules.specs.Olympus.{is_settled, OlympusView, Reported}
use Rattle.nys_rules.specs.Scope.{Scope}
use Rattle.nys_sending.specs.Tables.{IsTable}
use Rattle.nys_source.specs.Tables.{lists_at}
use Rattle.nys_stmt.specs.Ranges.{IsContentInRange}
use Rattle.nys_olympus.specs.declared.olympus.Olympus.{Olympus}

-- the table has for each host below 32 the reports of each slot
pub record AreReports (dockets : List (List (List Reported))) (reports : ℕ → ℕ → List Reported) : Type 0 where
  pub size : length dockets ≡ MAX_HOSTS
  pub each : (h : ℕ) (docket : List (List Reported)) → slice_get dockets h ≡ Some docket → (slot : ℕ) → lists_at docket slot ≡ reports h slot

-- the Olympus keeps all that the view has
pub record Means {P S : Type 0} (scope : Scope S) (olympus : Olympus P S) (o : OlympusView) : Type 0 where
  pub epoch : olympus.epoch ≡ o.epoch
  pub within : o.epoch < scope.epochs
  pub wedged : olympus.wedged ≡ o.wedged
  pub decided_now : (h : ℕ) → has olympus.decided_now h ≡ o.decided_now h
  pub retired : (h : ℕ) → has olympus.retired h ≡ o.retired h
  pub base : IsTable olympus.base o.base
  pub decided : IsTable olympus.decided.items o.decided
  pub reports : AreReports olympus.reports.items o.reports
  pub frozen : IsTable olympus.frozen.items o.frozen

-- what each view keeps that an Olympus comes to, with which all that it says is a record
pub record IsSound (o : OlympusView) : Type 0 where
  -- no log has more than 1,024 entries
  pub base : (h : ℕ) → o.base h ≤ MAX_SLOTS
  pub short : (h : ℕ) → length (o.decided h) ≤ MAX_SLOTS
  pub contents : (h : ℕ) → All IsContentInRange (o.decided h)
  -- a host that isn't settled is decided as far as the epoch began
  pub even : (h : ℕ) → is_settled o h ≡ false → length (o.decided h) ≡ o.base h
  -- what is reported is in range, and nothing is reported past the last slot
  pub reports : (h slot : ℕ) → All (λ r. IsContentInRange r.content) (o.reports h slot)
  pub past : (h slot : ℕ) → MAX_SLOTS ≤ slot → o.reports h slot ≡ []

-- the Olympus means the view, and the view is sound
pub record IsViewOf {P S : Type 0} (scope : Scope S) (olympus : Olympus P S) (o : OlympusView) : Type 0 where
  pub means : Means scope olympus o
  pub sound : IsSound o

-- what holds of each sound view that the Olympus means
abbrev pub Known : {P S : Type 0} → Scope S → Olympus P S → (OlympusView → Type 0) → Type 0
Known scope olympus F = (o : OlympusView) → IsViewOf scope olympus o → F o

-- the Olympus means some sound view
abbrev pub IsMeant : {P S : Type 0} → Scope S → Olympus P S → Type 0
IsMeant scope olympus = (o : OlympusView) × IsViewOf scope olympus o
