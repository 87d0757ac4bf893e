-- Each view settles.
use Rattle.std.proofs.Common.{◌≡◌, ℕ, zero, suc, ◌+◌, ◌<◌, [], ◌∷◌, Some, None, refl, arith}
use Rattle.std.specs.Prelude.{Option}
use Rattle.nys_rules.proofs.DueLemmas.{due_enabled}
use Rattle.nys_rules.specs.declared.rule.Rule.{Rule}
use Rattle.nys_rules.specs.Packets.{joined, nothing}
use Rattle.nys_rules.specs.Rules.{due}
use Rattle.nys_rules.specs.Scope.{Scope}
use Rattle.nys_rules.specs.Taking.{acts_of, taken}
use Rattle.nys_rules.specs.View.{View}
use Rattle.nys_outcomes.specs.Outcomes.{HasFewEffects, HasSettled, SettleAlways}
use Rattle.nys_outcomes.specs.Weight.{weight}
use Rattle.nys_outcomes.proofs.FallLemmas.{falls}

-- a view of less than this weight settles
settle_within : {S : Type 0} (scope : Scope S) → HasFewEffects scope.rules → (n : ℕ) (v : View) → weight scope v < n → HasSettled scope v
settle_within scope few zero v less = absurd (omega (arith, less))
settle_within {S} scope few (suc n) v less = by (due scope v) refl (λ next lower. settle_within scope few n next lower)
  where
    by : (first : Option Rule) → due scope v ≡ first → ((next : View) → weight scope next < n → HasSettled scope next) → HasSettled scope v
    by None none settles = record { after = v; acts = nothing; settles = record { rules = []; settles = (none, refl, refl) } }
    by (Some rule) first settles =
        let both = due_enabled scope v rule first in
        let fell = falls scope few v rule both.0 both.1 in
        let rest = settles (taken scope v rule) (omega (arith, less, fell)) in
        record {
          after = rest.after;
          acts = joined (acts_of scope v rule) rest.acts;
          settles = record { rules = rule ∷ rest.settles.rules; settles = (first, (rest.acts, rest.settles.settles, refl)) };
        }

-- each view settles
pub settle_always : {S : Type 0} (scope : Scope S) → HasFewEffects scope.rules → SettleAlways scope
settle_always scope few v = settle_within scope few (weight scope v + 1) v (omega arith)
