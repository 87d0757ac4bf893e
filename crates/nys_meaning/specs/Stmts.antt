-- What a statement does, whatever its names are kept in.
use Rattle.std.specs.Prelude.{ℕ, zero, suc, ℤ, pos, ◌+ℤ◌, int_lt, ◌&&◌, nat_lt, nat_le, if◌then◌else◌, List, [], ◌∷◌, ◌++◌, length, Option, Some, None, find}
use Rattle.std.specs.Ordering.{int_eq}
use Rattle.nys_source.specs.declared.effect.Effect.{Effect}
use Rattle.nys_source.specs.declared.effect.Effect.TheVariants.{Send, Out}
use Rattle.nys_tree.specs.declared.expr.Expr.{Expr}
use Rattle.nys_tree.specs.declared.stmt.Block.{Block, fold-Block}
use Rattle.nys_tree.specs.declared.stmt.Branch.{Branch, fold-Branch}
use Rattle.nys_tree.specs.declared.stmt.Else.{Else, fold-Else}
use Rattle.nys_tree.specs.declared.stmt.TheConstants.{MAX_MEMBERS}
use Rattle.nys_tree.specs.declared.stmt.Stmt.{Stmt, fold-Stmt, map-Stmt, out-Stmt}
use Rattle.nys_tree.specs.declared.stmt.Else.TheOpen.{Else-F, Stmt-F, Block-F, Branch-F}
use Rattle.nys_tree.specs.declared.stmt.Target.{Target}
use Rattle.nys_tree.specs.declared.stmt.Target.TheVariants.{All, Host}
use Rattle.nys_tree.specs.declared.name.Name.{Name}
use Rattle.nys_meaning.specs.declared.here.Here.{Here}
use Rattle.nys_meaning.specs.declared.value.Listed.{Listed}
use Rattle.nys_source.specs.declared.effect.TheConstants.{MAX_EFFECTS}
use Rattle.nys_meaning.specs.Numbers.{is_zero}
use Rattle.nys_meaning.specs.Exprs.{go_on, unit, Reads, expr, numbers}

-- what a handler has done so far
pub record Run (E : Type 0) : Type 0 where
  -- what the names stand for
  pub names : E
  -- the units of work that are left
  pub left : ℕ
  -- the effects, in order
  pub effects : List Effect

-- how names are kept, whatever they are kept in
pub record Store (E : Type 0) : Type 0 where
  -- how they are read
  pub reads : Reads E
  -- another number for a scalar
  pub set : E → Name → ℤ → Option E
  -- another number for the item of a list at an index
  pub set_item : E → Name → ℤ → ℤ → Option E
  -- a new scalar with its number
  pub bind : E → Name → ℤ → E
  -- the names from before a block, with what they are behind it
  pub leave : E → E → E

-- what a part does with a run, or nothing after a fault
abbrev pub Doing : Type 0 → Type 0
Doing E = Run E → Option (Run E)

-- parts done one by one, each with what those before it left
abbrev pub in_turn : {E : Type 0} → Option (Run E) → List (Doing E) → Option (Run E)
in_turn None more = None
in_turn (Some u) [] = Some u
in_turn (Some u) (x ∷ more) = in_turn (x u) more

-- the run with other names
abbrev pub with_names : {E : Type 0} → Run E → Option E → Option (Run E)
with_names u None = None
with_names u (Some e) = Some (record u { names = e })

-- one unit is taken, and what follows is given the run
abbrev pub spend : {E : Type 0} → Run E → Doing E → Option (Run E)
spend u next = unit u.left (λ n. next (record u { left = n }))

-- the run with one effect more, where it has fewer than the most
abbrev pub with_effect : {E : Type 0} → Run E → Effect → Option (Run E)
with_effect u effect = if nat_lt (length u.effects) MAX_EFFECTS then Some (record u { effects = u.effects ++ effect ∷ [] }) else None

-- a list that is sent or put out has 1 to `MAX_MEMBERS` numbers; each list that is read from a text has
abbrev pub payload : Listed → Option Listed
payload l = if nat_le 1 (length l.numbers) && nat_le (length l.numbers) MAX_MEMBERS then Some l else None

-- the neighbour of that number
abbrev pub neighbour : Here → ℤ → Option ℕ
neighbour h z = find (λ q. int_eq (pos q) z) h.near

-- one payload sent to each of some hosts
abbrev pub sends : {E : Type 0} → List ℤ → List ℕ → Doing E
sends numbers [] u = Some u
sends numbers (q ∷ more) u = go_on (with_effect u (Send q numbers)) (sends numbers more)

module _ {E : Type 0} (store : Store E) (h : Here) where
  -- an expression's number, and what follows, given the run with the units that are left
  abbrev pub given : Expr → Run E → (ℤ → Doing E) → Option (Run E)
  given e u next = go_on (expr store.reads h e u.names u.left) (λ x. next x.number (record u { left = x.left }))

  -- a list's numbers as a payload, with the units that are left
  abbrev pub listed : List Expr → Run E → Option Listed
  listed members u = go_on (numbers store.reads h members [] u.names u.left) payload

  -- a payload, and what follows, given the run with the units that are left
  abbrev pub list_given : List Expr → Run E → (List ℤ → Doing E) → Option (Run E)
  list_given members u next = go_on (listed members u) (λ l. next l.numbers (record u { left = l.left }))

  -- the host's number is evaluated before the list; `all` are the neighbours, rising
  abbrev pub send_to : Target → List Expr → Doing E
  send_to All members u = list_given members u (λ numbers. sends numbers h.near)
  send_to (Host e) members u = given e u (λ z v. list_given members v (λ numbers w. go_on (neighbour h z) (λ q. with_effect w (Send q numbers))))

  -- a block with a name of its own: one turn of a loop
  abbrev pub turn : Doing E → Name → ℤ → Doing E
  turn body name z u =
      spend u (λ v. go_on (body (record v { names = store.bind v.names name z })) (λ w. Some (record w { names = store.leave v.names w.names })))

  -- the turns of a `for` from a number up to a bound; each takes a unit, so there are at most as many as there are units
  unfoldable pub loop : ℕ → Doing E → Name → ℤ → ℤ → Doing E
  loop zero body name to z u = None
  loop (suc n) body name to z u = if int_lt z to then go_on (turn body name z u) (loop n body name to (z +ℤ pos 1)) else Some u

  -- the turns of an `each`
  abbrev pub turns : Doing E → Name → List ℕ → Doing E
  turns body name [] u = Some u
  turns body name (q ∷ more) u = go_on (turn body name (pos q) u) (turns body name more)

  -- a further `if` takes a unit of its own
  abbrev pub else_step : Else-F (Doing E) (Doing E) (Doing E) (Doing E) → Doing E
  else_step Else-F.Absent = λ u. Some u
  else_step (Else-F.Last body) = body
  else_step (Else-F.Further branch) = λ u. spend u branch

  -- any number but 0 is true
  abbrev pub branch_step : Branch-F (Doing E) (Doing E) (Doing E) (Doing E) → Doing E
  branch_step b = λ u. given b.test u (λ z v. if is_zero z then b.other v else b.body v)

  -- behind a block the names that it declared are gone
  abbrev pub block_step : Block-F (Doing E) (Doing E) (Doing E) (Doing E) → Doing E
  block_step b = λ u. go_on (in_turn (Some u) b.stmts) (λ w. Some (record w { names = store.leave u.names w.names }))

  -- the same, by what its parts do
  abbrev pub act : Stmt-F (Doing E) (Doing E) (Doing E) (Doing E) → Doing E
  act (Stmt-F.Let name e) = λ u. given e u (λ z v. Some (record v { names = store.bind v.names name z }))
  act (Stmt-F.Set name e) = λ u. given e u (λ z v. with_names v (store.set v.names name z))
  act (Stmt-F.SetItem name i e) = λ u. given i u (λ at v. given e v (λ z w. with_names w (store.set_item w.names name at z)))
  act (Stmt-F.If branch) = branch
  act (Stmt-F.For name from to body) = λ u. given from u (λ a v. given to v (λ b w. loop (suc w.left) body name b a w))
  act (Stmt-F.Each name body) = turns body name h.near
  act (Stmt-F.Send to list) = send_to to list.members
  act (Stmt-F.Out list) = λ u. list_given list.members u (λ numbers v. with_effect v (Out numbers))

  -- each statement takes one unit first
  abbrev pub stmt_step : Stmt-F (Doing E) (Doing E) (Doing E) (Doing E) → Doing E
  stmt_step s = λ u. spend u (act s)

  -- what a statement does
  unfoldable pub stmt : Stmt → Doing E
  stmt = fold-Stmt (Doing E) (Doing E) (Doing E) (Doing E) else_step stmt_step block_step branch_step

  -- what a block does
  unfoldable pub block : Block → Doing E
  block = fold-Block (Doing E) (Doing E) (Doing E) (Doing E) else_step stmt_step block_step branch_step

  -- what an `if` does, behind its unit
  unfoldable pub branch : Branch → Doing E
  branch = fold-Branch (Doing E) (Doing E) (Doing E) (Doing E) else_step stmt_step block_step branch_step

  -- what is done where an `if` doesn't hold
  unfoldable pub other : Else → Doing E
  other = fold-Else (Doing E) (Doing E) (Doing E) (Doing E) else_step stmt_step block_step branch_step

  -- what a statement does behind the unit that it takes
  unfoldable pub acts : Stmt → Doing E
  acts s = act (map-Stmt Else Stmt Block Branch (Doing E) (Doing E) (Doing E) (Doing E) other stmt block branch (out-Stmt s))

  -- statements done one by one
  abbrev pub stmts : Option (Run E) → List Stmt → Option (Run E)
  stmts None more = None
  stmts (Some u) [] = Some u
  stmts (Some u) (s ∷ more) = stmts (stmt s u) more
