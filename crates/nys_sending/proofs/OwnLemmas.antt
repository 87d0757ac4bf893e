-- Records with one maker, and the parties that they go to.
use Rattle.std.proofs.Common.{◌≡◌, ℕ, zero, suc, ◌≤◌, ◌==◌, not, cond, List, [], ◌∷◌, length, ap, sym, ◌∙◌, arith}
use Rattle.std.proofs.lemmas.List.{length-map}
use Rattle.std.proofs.lemmas.Bool.{cond_both}
use Rattle.std.specs.Prelude.{All, Contains}
use Rattle.nys_sending.specs.Receivers.{record_with}
use Rattle.nys_rules.specs.Scope.{Scope}
use Rattle.nys_rules.specs.Sending.{others, tags_for}
use Rattle.nys_stmt.specs.Ranges.{IsInRange}
use Rattle.nys_stmt.specs.Records.{IsWhole}
use Rattle.nys_stmt.specs.declared.statement.Statement.{Statement}
use Rattle.nys_stmt.specs.declared.tags.Tags.{Tags}

-- a party that has other receivers has tags for them
pub tags_some : {S : Type 0} (scope : Scope S) (maker : ℕ) (statement : Statement) (receivers : List ℕ) (tags : List (ℕ × List ℕ))
    → tags ≡ tags_for scope maker statement receivers → 1 ≤ length (others maker receivers) → 1 ≤ length tags
unfolding tags_for
tags_some scope maker statement receivers tags same some =
    omega (arith, ap length same, length-map {B = ℕ × List ℕ} (others maker receivers) (λ g. (g, scope.tag maker g statement)), some)

-- a record of a statement in range with one maker, who has a tag, is whole
pub whole_with : (maker : ℕ) (statement : Statement) (tags : List (ℕ × List ℕ)) → IsInRange statement → 1 ≤ length tags
    → IsWhole (record_with maker statement tags)
whole_with maker statement tags range some = record { range = range; makers = omega arith; tags = each }
  where
    each : All {X = Tags} (λ t. 1 ≤ length t.tags) (record { maker = maker; tags = tags } ∷ [])
    each zero d within = some
    each (suc k) d within = absurd (omega (arith, within))

-- where a receiver is another than the party, some of all receivers is
pub other_of : (me h : ℕ) (xs : List ℕ) → Contains xs h → 1 ≤ length (others me (h ∷ [])) → 1 ≤ length (others me xs)
other_of me h [] has some = absurd (omega (arith, has.1))
other_of me h (y ∷ ys) (zero, within, is) some =
    cond_both (not (y == me)) (y ∷ others me ys) (others me ys) (λ zs. 1 ≤ length zs) (λ yes. omega arith)
    (λ no. absurd (let none : length (others me (h ∷ [])) ≡ 0 = ap (λ b. length (cond b (h ∷ []) [])) (ap (λ z. not (z == me)) (sym is) ∙ no) in
    omega (arith, none, some)))
other_of me h (y ∷ ys) (suc k, within, is) some =
    cond_both (not (y == me)) (y ∷ others me ys) (others me ys) (λ zs. 1 ≤ length zs) (λ yes. omega arith)
    (λ no. other_of me h ys (k, omega arith, is) some)
