-- A view settles in one way.
use Rattle.std.proofs.Common.{◌≡◌, List, None, [], ◌∷◌, refl, ap, sym, subst, ◌∙◌}
use Rattle.nys_rules.specs.declared.rule.Rule.{Rule}
use Rattle.nys_rules.specs.Packets.{Acts, joined}
use Rattle.nys_rules.specs.Rules.{due}
use Rattle.nys_rules.specs.Scope.{Scope}
use Rattle.nys_rules.specs.Settling.{SettleOnce, Settles, SettlesInto}
use Rattle.nys_rules.specs.Taking.{acts_of, taken}
use Rattle.nys_rules.specs.View.{View}

-- by the same rules, into the same view, with the same acts
pub settles_once : {S : Type 0} (scope : Scope S) → SettleOnce scope
settles_once scope v x y a b [] [] p q = (refl, p.1 ∙ sym q.1, p.2 ∙ sym q.2)
settles_once scope v x y a b [] (s ∷ ss) p q = absurd (let e = sym p.0 ∙ q.0 in cc)
settles_once scope v x y a b (r ∷ rs) [] p q = absurd (let e = sym p.0 ∙ q.0 in cc)
settles_once {S} scope v x y a b (r ∷ rs) (s ∷ ss) p q =
    let both = sym p.0 ∙ q.0 in
    let e : r ≡ s = cc in
    let other = subst (λ z. Settles scope (taken scope v z) ss y q.1.0) (sym e) q.1.1 in
    let rest = settles_once scope (taken scope v r) x y p.1.0 q.1.0 rs ss p.1.1 other in (
      ap (λ z. z ∷ rs) e ∙ ap (λ zs. s ∷ zs) rest.0,
      rest.1,
      p.1.2 ∙ ap (joined (acts_of scope v r)) rest.2 ∙ ap (λ z. joined (acts_of scope v z) q.1.0) e ∙ sym q.1.2,
    )

-- the same where the rules are not told
pub settles_into_once : {S : Type 0} (scope : Scope S) (v x y : View) (a b : Acts) → SettlesInto scope v x a
    → SettlesInto scope v y b → (x ≡ y) × (a ≡ b)
settles_into_once scope v x y a b p q =
    let same = settles_once scope v x y a b p.rules q.rules p.settles q.settles in (same.1, same.2)

-- where a view has settled nothing is due
pub settles_quiet : {S : Type 0} (scope : Scope S) (v : View) (rules : List Rule) (after : View) (acts : Acts)
    → Settles scope v rules after acts → due scope after ≡ None
settles_quiet scope v [] after acts s = ap (due scope) s.1 ∙ s.0
settles_quiet scope v (rule ∷ rules) after acts s = settles_quiet scope (taken scope v rule) rules after s.1.0 s.1.1

-- the same where the rules are not told
pub settles_into_quiet : {S : Type 0} (scope : Scope S) (v after : View) (acts : Acts) → SettlesInto scope v after acts
    → due scope after ≡ None
settles_into_quiet scope v after acts s = settles_quiet scope v s.rules after acts s.settles
