-- What is attested to a node, by what it keeps.
use Rattle.std.proofs.Common.{◌≡◌, ℕ, ◌==◌, ◌&&◌, ℤ, Bool, true, false, cond, List, [], refl, ap, sym, ◌∙◌, eq-eqb}
use Rattle.std.specs.Prelude.{nat_le, nat_lt, Option, Some, None}
use Rattle.nys_rules.specs.Heads.{attested_payload, own_attest, payload_in, with_own}
use Rattle.nys_rules.specs.Scope.{Scope}
use Rattle.nys_rules.specs.View.{View}
use Rattle.nys_rules.specs.declared.kept.Attested.{Attested}
use Rattle.nys_votes.specs.Attested.{attested}

-- where nothing was sent no payload is attested
pub none_sent : (k : ℕ) (range : Option Attested) → None ≡ payload_in k [] range
none_sent k None = refl
none_sent k (Some range) = by (nat_le range.first k && nat_lt k range.next)
  where
    nothing : Option (List ℤ)
    nothing = None

    by : (b : Bool) → nothing ≡ cond b nothing nothing
    by true = refl
    by false = refl

-- what is attested with the node's own payload beside what it heard
pub attested_same : {S : Type 0} (scope : Scope S) (v : View) (p h k t me : ℕ) (own : Option (List ℤ)) (heard : List (Option (List ℤ)))
    → t ≡ scope.t v.epoch p → me ≡ v.me → own ≡ own_attest scope v p h k → heard ≡ v.heard p h k
    → attested t (with_own me own heard) ≡ attested_payload scope v p h k
unfolding attested_payload
attested_same scope v p h k t me own heard t_is me_is own_is heard_is =
    ap (λ x. attested x (with_own me own heard)) t_is
    ∙ ap (λ x. attested (scope.t v.epoch p) (with_own x own heard)) me_is
    ∙ ap (λ x. attested (scope.t v.epoch p) (with_own v.me x heard)) own_is
    ∙ ap (λ x. attested (scope.t v.epoch p) (with_own v.me (own_attest scope v p h k) x)) heard_is

-- the first of two tests fails
pub first_fails : (a x y : Bool) → a ≡ false → a ≡ x → false ≡ (x && y)
first_fails false x y e same = rw (sym same) refl
first_fails true x y e same = absurd (cc)

-- the first two of three tests pass: a payload is compared with what is attested for the next number
pub last_tells : (a x r z : Bool) (k n m : ℕ) → a ≡ true → a ≡ x → k ≡ n → n ≡ m → r ≡ z → r ≡ (x && ((k == m) && z))
last_tells true true r z k n m e is at next same = rw (eq-eqb k m (at ∙ next)) same
last_tells true false r z k n m e is at next same = absurd (cc)
last_tells false x r z k n m e is at next same = absurd (cc)
