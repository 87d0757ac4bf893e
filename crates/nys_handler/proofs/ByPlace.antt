-- What the statements do by place, where leaving a block does nothing.
use Rattle.std.proofs.Common.{◌≡◌, ℕ, zero, suc, ℤ, Option, Some, None, refl, ◌∙◌}
use Rattle.nys_tree.specs.declared.name.Name.{Name}
use Rattle.nys_tree.specs.declared.stmt.Block.{Block, out-Block}
use Rattle.nys_meaning.specs.declared.here.Here.{Here}
use Rattle.nys_meaning.specs.Exprs.{go_on, unit}
use Rattle.nys_meaning.specs.Stmts.{Run, Doing, spend, turn, stmts, block}
use Rattle.nys_meaning.proofs.StmtEquations as eq
use Rattle.nys_places.specs.declared.cells.Cells.{Cells}
use Rattle.nys_places.specs.Cells.{by_place}

-- going on with nothing to do
go_some : {A : Type 0} (o : Option A) → go_on o (λ x. Some x) ≡ o
go_some None = refl
go_some (Some a) = refl

-- a block by place is its statements
pub block_is : (h : Here) (t : Block) (u : Run Cells) → block by_place h t u ≡ stmts by_place h (Some u) (out-Block t).stmts
block_is h t u = eq.block_is by_place h t u ∙ go_some (stmts by_place h (Some u) (out-Block t).stmts)

-- what follows a unit alike is alike
unit_same : {A : Type 0} (n : ℕ) (f g : ℕ → Option A) → ((k : ℕ) → f k ≡ g k) → unit n f ≡ unit n g
unit_same zero f g same = refl
unit_same (suc n) f g same = same n

-- a turn by place binds its name and runs the body
pub turn_is : (h : Here) (body : Doing Cells) (name : Name) (z : ℤ) (u : Run Cells) → turn by_place h body name z u ≡ spend u (λ v. body (record v { names = by_place.bind v.names name z }))
turn_is h body name z u = unit_same u.left _ _ (λ k. go_some (body (record u { names = by_place.bind u.names name z; left = k })))

-- a unit is taken first, by how many there are
spent_by : (n : ℕ) (u : Run Cells) (f : Doing Cells) → unit n (λ k. f (record u { left = k })) ≡ go_on (unit n (λ k. Some (record u { left = k }))) f
spent_by zero u f = refl
spent_by (suc n) u f = refl

-- a unit is taken first
pub spent : (u : Run Cells) (f : Doing Cells) → spend u f ≡ go_on (spend u (λ v. Some v)) f
spent u f = spent_by u.left u f
