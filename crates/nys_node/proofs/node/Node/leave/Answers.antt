use Rattle.std.proofs.Common.{ap, sym, ◌∙◌, drop, refl}
use Rattle.nys_node.specs.Logging.{left_at, with_oldest_left}
use Rattle.nys_node.proofs.LogLemmas.{means_waiting}
use Rattle.nys_node.proofs.node.Node.leave.Goals as goal

-- the oldest input leaves
pub returns-then-is_own_oldest : goal.returns-then-is_own_oldest
returns-then-is_own_oldest g c = λ scope v m.
    means_waiting scope c.args.self.now c.pop_front.new.self (left_at c.args.h c.args.content.now v) v
    (ap (λ b. b.items) c.pop_front.ensures.items ∙ ap (λ items. drop 1 items) m.waiting
    ∙ ap (λ left. with_oldest_left left v.waiting) (sym c.if-is_own_oldest.true) ∙ c.is_own_oldest.ensures scope v m)
    (ap (λ b. b.capacity) c.pop_front.ensures.items) m

-- none does
pub returns-else-is_own_oldest : goal.returns-else-is_own_oldest
returns-else-is_own_oldest g c = λ scope v m.
    means_waiting scope c.args.self.now c.args.self.now.waiting (left_at c.args.h c.args.content.now v) v
    (m.waiting ∙ ap (λ left. with_oldest_left left v.waiting) (sym c.if-is_own_oldest.false) ∙ c.is_own_oldest.ensures scope v m) refl m
