-- The makers that the Olympus accepts are hosts, rising.
use Rattle.std.proofs.Common.{◌≡◌, ℕ, ◌<◌, ◌≤◌, ◌==◌, true, false, not, ap, eq-eqb, arith}
use Rattle.std.proofs.lemmas.List.Elements.{All-filter, filter_passes}
use Rattle.std.proofs.lemmas.List.Kept.{AllPairs-filter}
use Rattle.std.specs.Prelude.{All}
use Rattle.nys_rules.specs.Dropping.{accepted, accepts}
use Rattle.nys_rules.specs.Scope.{olympus, Scope}
use Rattle.nys_stmt.specs.Makers.{AreMakers}
use Rattle.nys_stmt.specs.declared.records.Record.{Record}
use Rattle.nys_stmt.specs.declared.tags.Tags.{Tags}
use Rattle.nys_olympus.specs.Heard.{IsHost}

-- accepted makers are makers of the record
pub accepted_rule : {S : Type 0} (scope : Scope S) (e taker : ℕ) (r : Record) → AreMakers r.makers → AreMakers (accepted scope e taker r)
unfolding accepted
accepted_rule scope e taker r rule = record {
  rising = AllPairs-filter (λ a b. a.maker < b.maker) (accepts scope e taker r.statement) r.makers rule.rising;
  parties = All-filter (accepts scope e taker r.statement) (λ t. t.maker ≤ 32) r.makers rule.parties;
}

-- what is accepted isn't the taker's own
not_own : {S : Type 0} (scope : Scope S) (e taker : ℕ) (r : Record) (tags : Tags) → accepts scope e taker r.statement tags ≡ true → tags.maker ≡ taker → ⊥
unfolding accepts
not_own scope e taker r tags passes same = absurd (let no : (not (tags.maker == taker)) ≡ false = ap not (eq-eqb tags.maker taker same) in let bad = rw no at passes in cc)

-- accepted makers are hosts
pub accepted_hosts : {S : Type 0} (scope : Scope S) (e : ℕ) (r : Record) → AreMakers r.makers → All IsHost (accepted scope e olympus r)
unfolding accepted
accepted_hosts scope e r rule k d within =
    let least = All-filter (accepts scope e olympus r.statement) (λ t. t.maker ≤ 32) r.makers rule.parties k d within in
    let passes = filter_passes (accepts scope e olympus r.statement) r.makers k d within in
    record { host = omega (arith, least, not_own scope e olympus r _ passes) }
