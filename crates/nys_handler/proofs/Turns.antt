-- The turns of a `for`, counted by the units that there are.
use Rattle.std.proofs.Common.{◌≡◌, ℕ, suc, ◌+◌, ◌-◌, ◌<◌, ◌≤◌, ℤ, pos, ◌+ℤ◌, int_lt, true, false, Option, Some, None, ap, sym, ◌∙◌, arith}
use Rattle.nys_tree.specs.declared.name.Name.{Name}
use Rattle.nys_meaning.specs.declared.here.Here.{Here}
use Rattle.nys_meaning.specs.Exprs.{go_on}
use Rattle.nys_meaning.specs.Stmts.{Run, Doing, turn, loop}
use Rattle.nys_meaning.proofs.StmtEquations.{loop_more, loop_done, loop_out}
use Rattle.nys_places.specs.declared.cells.Cells.{Cells}
use Rattle.nys_places.specs.Cells.{by_place}

module _ (h : Here) (body : Doing Cells) (name : Name) (to : ℤ) where
  step : (end at : ℕ) (z : ℤ) (u : Run Cells) → at < end → int_lt z to ≡ true
      → loop by_place h (end - at) body name to z u ≡ go_on (turn by_place h body name z u) (loop by_place h (end - (at + 1)) body name to (z +ℤ pos 1))
  step end at z u below lt =
      let n : end - at ≡ suc (end - (at + 1)) = omega arith in
      ap (λ k. loop by_place h k body name to z u) n ∙ loop_more by_place h (end - (at + 1)) body name to z u lt

  -- a turn that is done leaves the turns behind it
  pub one_turn : (end at : ℕ) (z z' : ℤ) (u v : Run Cells) (all : Option (Run Cells)) → at < end → int_lt z to ≡ true → turn by_place h body name z u ≡ Some v → z' ≡ z +ℤ pos 1
      → loop by_place h (end - at) body name to z u ≡ all → loop by_place h (end - (at + 1)) body name to z' v ≡ all
  one_turn end at z z' u v all below lt done next e =
      ap (λ y. loop by_place h (end - (at + 1)) body name to y v) next
      ∙ (sym (ap (λ o. go_on o (loop by_place h (end - (at + 1)) body name to (z +ℤ pos 1))) done) ∙ (sym (step end at z u below lt) ∙ e))

  -- a turn with a fault is the loop's fault
  pub turn_stops : (end at : ℕ) (z : ℤ) (u : Run Cells) (all : Option (Run Cells)) → at < end → int_lt z to ≡ true → turn by_place h body name z u ≡ None
      → loop by_place h (end - at) body name to z u ≡ all → all ≡ None
  turn_stops end at z u all below lt stops e =
      sym e ∙ (step end at z u below lt ∙ ap (λ o. go_on o (loop by_place h (end - (at + 1)) body name to (z +ℤ pos 1))) stops)

  -- at the bound nothing is left to do
  pub no_turn : (end at : ℕ) (z : ℤ) (u : Run Cells) (all : Option (Run Cells)) → at < end → int_lt z to ≡ false → loop by_place h (end - at) body name to z u ≡ all → all ≡ Some u
  no_turn end at z u all below ge e =
      let n : end - at ≡ suc (end - (at + 1)) = omega arith in
      sym e ∙ (ap (λ k. loop by_place h k body name to z u) n ∙ loop_done by_place h (end - (at + 1)) body name to z u ge)

  -- more turns than units are a fault
  pub no_units : (end at : ℕ) (z : ℤ) (u : Run Cells) (all : Option (Run Cells)) → end ≤ at → loop by_place h (end - at) body name to z u ≡ all → all ≡ None
  no_units end at z u all out e = let n : end - at ≡ 0 = omega arith in sym e ∙ (ap (λ k. loop by_place h k body name to z u) n ∙ loop_out by_place h body name to z u)
