-- The questions of a node, once all hosts were looked at.
use Rattle.std.proofs.Common.{◌≡◌, ℕ, false, map, refl, ap, ◌∙◌}
use Rattle.std.specs.Prelude.{filter}
use Rattle.std.specs.List.{range_with_len}
use Rattle.nys_node.specs.Asked.{asked_all, asked_of, is_asked}
use Rattle.nys_rules.specs.Asking.{questions}
use Rattle.nys_rules.specs.Packets.{Acts, all_joined, joined}
use Rattle.nys_rules.specs.Scope.{Scope}
use Rattle.nys_rules.specs.View.{View}

-- the hosts below 32 are all
pub asked_at_end : {S : Type 0} (scope : Scope S) (v : View) (old out : Acts) (n : ℕ) → n ≡ 32
    → out ≡ joined old (all_joined (map (asked_of scope v) (filter (is_asked scope v) (range_with_len 0 n)))) → out ≡ joined old (asked_all scope v)
unfolding asked_all
asked_at_end scope v old out n end so_far =
    so_far ∙ ap (λ k. joined old (all_joined (map (asked_of scope v) (filter (is_asked scope v) (range_with_len 0 k))))) end

-- a node that isn't wedged asks about all these hosts
pub active_asks : {S : Type 0} (scope : Scope S) (v : View) → v.wedged ≡ false → asked_all scope v ≡ questions scope v
unfolding asked_all questions
active_asks scope v active = rw active refl
