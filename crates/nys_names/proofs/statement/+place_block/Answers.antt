use Rattle.std.proofs.Common.{◌≡◌, ◌+◌, ◌-◌, ◌<◌, ◌≤◌, [], ◌∷◌, ◌++◌, length, drop, ap, sym, subst, ◌∙◌, arith}
use Rattle.nys_tree.specs.Bindings.{Bindings}
use Rattle.nys_names.specs.Stmts.{behind}
use Rattle.nys_names.proofs.ListLemmas.{stmts_onto, onto_more}
use Rattle.nys_names.proofs.BindingLemmas.{behind_kept}
use Rattle.nys_names.proofs.statement.+place_block.Goals as goal

-- one statement more was placed, and what it declares is seen above the rest
pub stmts-loop-next-preserved : goal.stmts-loop-next-preserved
stmts-loop-next-preserved t c =
    let seen : c.see.new.self ≡ behind c.in_ok-placed.declared c.loop-next.bindings = c.in_ok-see.ensures ∙ ap (behind c.in_ok-placed.declared) c.in_ok-placed.ensures.same in
    let kept = behind_kept c.in_ok-placed.declared c.loop-next.bindings c.args.bindings.now c.loop-next.invariant.1 c.loop-next.invariant.2 in
    let P : Bindings → Type 0 = λ y. (drop (length y - length c.args.bindings.now) y ≡ c.args.bindings.now) × (length c.args.bindings.now ≤ length y) in
    let above : P c.see.new.self = subst P (sym seen) kept in
    let below : c.loop-next.next-index < length c.args.list.now = omega arith in
    let more = onto_more c.loop-next.found c.args.list.now c.loop-next.next-index c.next-item.result (c.in_ok-placed.placed, c.in_ok-placed.declared) c.loop-next.bindings below c.next-item.is c.in_ok-placed.ensures.placed in (
      ap (λ f. stmts_onto f (drop (c.loop-next.next-index + 1) c.args.list.now) c.see.new.self) c.in_ok-push.ensures.ok
          ∙ (ap (λ s. stmts_onto (c.loop-next.found ++ c.in_ok-placed.placed ∷ []) (drop (c.loop-next.next-index + 1) c.args.list.now) s) seen
          ∙ (sym more ∙ c.loop-next.invariant.0)),
      above.0,
      above.1,
    )
