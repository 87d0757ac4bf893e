-- From which slot on nodes keep the entries of logs.
use Rattle.std.specs.Prelude.{◌≡◌, ◌≢◌, ℕ, ◌≤◌, Bool, true, false}
use Rattle.nys_rules.specs.Scope.{olympus, Scope}
use Rattle.nys_rules.specs.View.{is_live, length_of, View}
use Rattle.nys_rules.specs.World.{Setting, World}

-- of a log of that length, which has this base and whose entries are kept from `from` on, what is needed no more is
-- forgotten
pub record IsForgotten (live : Bool) (base from long : ℕ) : Type 0 where
  -- it is no more than the log has
  pub within : from ≤ long
  -- where the host is live and its log has reached the base, all entries below the base are
  pub below : live ≡ true → base ≤ long → base ≤ from
  -- where the host isn't live all entries are
  pub closed : live ≡ false → from ≡ long

-- so it is of each log that the node has
abbrev pub Forgets : {S : Type 0} → Scope S → View → Type 0
Forgets scope v = (h : ℕ) → IsForgotten (is_live scope v h) (v.base h) (v.kept_from h) (length_of v h)

-- the nodes of all hosts do
abbrev pub Forget : {S : Type 0} → Setting S → World → Type 0
Forget setting w = (g : ℕ) → g ≢ olympus → Forgets setting.scope (w.nodes g)
