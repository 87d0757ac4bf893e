use Rattle.std.proofs.Common.{◌≡◌, ℕ, ◌||◌, ◌==◌, drop}
use Rattle.std.specs.List.{list_any}
use Rattle.nys_hosts.specs.Sets.{has}
use Rattle.nys_olympus.proofs.telling.makers_set.Given as goal

-- the set and the makers left have all makers
abbrev pub invariant-loop-tags : goal.invariant-loop-tags
invariant-loop-tags l = (h : ℕ) → (has l.set h || list_any (λ m. m.maker == h) (drop l.tags-index l.makers)) ≡ list_any (λ m. m.maker == h) l.makers
