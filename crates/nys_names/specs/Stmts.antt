-- Statements and machines: each use and each declaration of a name by the rules, in the order of the text.
use Rattle.std.specs.Prelude.{ℕ, Bool, ◌+◌, ◌&&◌, nat_lt, nat_le, unwrap_or, if◌then◌else◌, List, [], ◌∷◌, Option, Some, None, Ok, Err}
use Rattle.nys_lex.specs.declared.fault.MachineKind.TheVariants as kind
use Rattle.nys_tree.specs.declared.name.Name.{Name}
use Rattle.nys_tree.specs.declared.expr.Expr.{Expr}
use Rattle.nys_tree.specs.declared.stmt.Target.{Target}
use Rattle.nys_tree.specs.declared.stmt.Target.TheVariants.{All, Host}
use Rattle.nys_tree.specs.declared.stmt.Values.{Values}
use Rattle.nys_tree.specs.declared.stmt.Else.{Else, fold-Else}
use Rattle.nys_tree.specs.declared.stmt.Stmt.{Stmt, fold-Stmt}
use Rattle.nys_tree.specs.declared.stmt.Block.{Block, fold-Block, roll-Block}
use Rattle.nys_tree.specs.declared.stmt.Branch.{Branch, fold-Branch, roll-Branch}
use Rattle.nys_tree.specs.declared.stmt.Stmt.TheVariants as sv
use Rattle.nys_tree.specs.declared.stmt.Else.TheVariants as ev
use Rattle.nys_tree.specs.declared.stmt.Else.TheOpen.{Else-F, Stmt-F, Block-F, Branch-F}
use Rattle.nys_tree.specs.declared.machine.Machine.{Machine}
use Rattle.nys_tree.specs.declared.machine.Var.{Var}
use Rattle.nys_tree.specs.declared.machine.OnInput.{OnInput}
use Rattle.nys_tree.specs.declared.machine.OnReceive.{OnReceive}
use Rattle.nys_tree.specs.Bindings.{Declared, Bindings, top, let_of, fixed_of, payload_of}
use Rattle.nys_tree.specs.Named.{MAX_STATE, size_of, var_of}
use Rattle.nys_names.specs.Names.{Placed, Outcome, go_on, fault_at, set_scalar, set_list, new_name}
use Rattle.nys_names.specs.Exprs.{expr}

-- to whom a `send` goes
abbrev pub target : Target → Placed Target
target All s = Ok All
target (Host e) s = go_on (expr e s) (λ x. Ok (Host x))

-- the members of a list
abbrev pub exprs : List Expr → Placed (List Expr)
exprs [] s = Ok []
exprs (e ∷ es) s = go_on (expr e s) (λ x. go_on (exprs es s) (λ xs. Ok (x ∷ xs)))

-- the list of a `send` or an `out`
abbrev pub values : Values → Placed Values
values list s = go_on (exprs list.members s) (λ xs. Ok (record { members = xs }))

-- what is seen behind a statement, by what it declares
abbrev pub behind : Option Declared → Bindings → Bindings
behind None s = s
behind (Some d) s = d ∷ s

-- statements one by one, each seeing what those before it declared
abbrev pub stmts_placed : List (Placed (Stmt × Option Declared)) → Placed (List Stmt)
stmts_placed [] s = Ok []
stmts_placed (x ∷ xs) s = go_on (x s) (λ p. go_on (stmts_placed xs (behind p.1 s)) (λ ys. Ok (p.0 ∷ ys)))

-- what stands behind an `if`'s block
abbrev pub else_step : Else-F (Placed Else) (Placed (Stmt × Option Declared)) (Placed Block) (Placed Branch) → Placed Else
else_step Else-F.Absent s = Ok ev.Absent
else_step (Else-F.Last b) s = go_on (b s) (λ x. Ok (ev.Last x))
else_step (Else-F.Further b) s = go_on (b s) (λ x. Ok (ev.Further x))

-- the head of a `for`: its name, its first value and its bound
abbrev pub loop_head : Name → Expr → Expr → Placed (Name × Expr × Expr)
loop_head name a b s = go_on (new_name 1 name s) (λ n. go_on (expr a s) (λ x. go_on (expr b s) (λ y. Ok (n, x, y))))

-- one statement, and what it declares: a `let` is seen behind it, a loop's name in its block alone
abbrev pub stmt_step : Stmt-F (Placed Else) (Placed (Stmt × Option Declared)) (Placed Block) (Placed Branch) → Placed (Stmt × Option Declared)
stmt_step (Stmt-F.Let name e) s = go_on (new_name 1 name s) (λ n. go_on (expr e s) (λ x. Ok (sv.Let n x, Some (let_of n))))
stmt_step (Stmt-F.Set name e) s = go_on (set_scalar name s) (λ n. go_on (expr e s) (λ x. Ok (sv.Set n x, None)))
stmt_step (Stmt-F.SetItem name i e) s = go_on (set_list name s) (λ n. go_on (expr i s) (λ x. go_on (expr e s) (λ y. Ok (sv.SetItem n x y, None))))
stmt_step (Stmt-F.If b) s = go_on (b s) (λ x. Ok (sv.If x, None))
stmt_step (Stmt-F.For name a b body) s = go_on (new_name 1 name s) (λ n. go_on (expr a s) (λ x. go_on (expr b s) (λ y. go_on (body (fixed_of n ∷ s)) (λ z. Ok (sv.For n x y z, None)))))
stmt_step (Stmt-F.Each name body) s = go_on (new_name 1 name s) (λ n. go_on (body (fixed_of n ∷ s)) (λ z. Ok (sv.Each n z, None)))
stmt_step (Stmt-F.Send to list) s = go_on (target to s) (λ x. go_on (values list s) (λ y. Ok (sv.Send x y, None)))
stmt_step (Stmt-F.Out list) s = go_on (values list s) (λ y. Ok (sv.Out y, None))

-- a block: what it declares is seen in it alone
abbrev pub block_step : Block-F (Placed Else) (Placed (Stmt × Option Declared)) (Placed Block) (Placed Branch) → Placed Block
block_step b s = go_on (stmts_placed b.stmts s) (λ xs. Ok (roll-Block (record { stmts = xs })))

-- one `if`
abbrev pub branch_step : Branch-F (Placed Else) (Placed (Stmt × Option Declared)) (Placed Block) (Placed Branch) → Placed Branch
branch_step b s = go_on (expr b.test s) (λ x. go_on (b.body s) (λ y. go_on (b.other s) (λ z. Ok (roll-Branch (record { test = x; body = y; other = z })))))

-- what stands behind an `if`'s block with a place at each of its names, or its first fault
unfoldable pub other : Else → Placed Else
other = fold-Else (Placed Else) (Placed (Stmt × Option Declared)) (Placed Block) (Placed Branch) else_step stmt_step block_step branch_step

-- the statement with a place at each of its names, and what it declares, or its first fault
unfoldable pub stmt : Stmt → Placed (Stmt × Option Declared)
stmt = fold-Stmt (Placed Else) (Placed (Stmt × Option Declared)) (Placed Block) (Placed Branch) else_step stmt_step block_step branch_step

-- the block with a place at each of its names, or its first fault
unfoldable pub block : Block → Placed Block
block = fold-Block (Placed Else) (Placed (Stmt × Option Declared)) (Placed Block) (Placed Branch) else_step stmt_step block_step branch_step

-- the `if` with a place at each of its names, or its first fault
unfoldable pub branch : Branch → Placed Branch
branch = fold-Branch (Placed Else) (Placed (Stmt × Option Declared)) (Placed Block) (Placed Branch) else_step stmt_step block_step branch_step

-- how many numbers a variable has: those in brackets, or one; none where they are below 0
abbrev pub numbers : Var → ℕ
numbers v = unwrap_or (size_of v.size) 0

-- the variable has numbers, and the state has room for them from this place on
abbrev pub has_room : Var → ℕ → Bool
has_room v place = nat_lt 0 (numbers v) && nat_le (place + numbers v) MAX_STATE

-- a variable whose name is new
abbrev pub sized : Var → Name → Placed Var
sized v n s =
    if has_room v (top s) then Ok (record { name = n; size = v.size; start = v.start }) else Err (fault_at kind.Size v.name)

-- a variable: its name before its size
unfoldable pub var : Var → Placed Var
var v s = go_on (new_name (numbers v) v.name s) (λ n. sized v n s)

-- the variables, and what is seen behind them
abbrev pub vars : List Var → Placed (List Var × Bindings)
vars [] s = Ok ([], s)
vars (v ∷ vs) s = go_on (var v s) (λ u. go_on (vars vs (var_of u (numbers u) ∷ s)) (λ r. Ok (u ∷ r.0, r.1)))

-- the handler of inputs
unfoldable pub on_input : OnInput → Placed OnInput
on_input i s = go_on (new_name 0 i.payload s) (λ n. go_on (block i.body (payload_of n ∷ s)) (λ b. Ok (record { payload = n; body = b })))

-- the handler of messages: its sender is declared before its payload
unfoldable pub on_receive : OnReceive → Placed OnReceive
on_receive r s =
    go_on (new_name 1 r.sender s) (λ p. go_on (new_name 0 r.payload (fixed_of p ∷ s)) (λ n. go_on (block r.body (payload_of n ∷ fixed_of p ∷ s)) (λ b.
    Ok (record { sender = p; payload = n; body = b }))))

-- the machine with a place at each of its names, or its first fault
unfoldable pub check : Machine → Outcome Machine
check m = go_on (vars m.vars []) (λ r. go_on (on_input m.on_input r.1) (λ i. go_on (on_receive m.on_receive r.1) (λ x. Ok (record { vars = r.0; on_input = i; on_receive = x }))))
