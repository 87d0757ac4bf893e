-- The trees that are named: each name passes the rules, and has the place of what it stands for.
use Rattle.std.specs.Prelude.{ℕ, ℤ, pos, Bool, true, false, ◌+◌, ◌&&◌, nat_le, nat_lt, if◌then◌else◌, List, [], ◌∷◌, Option, Some, None, is_some}
use Rattle.nys_tree.specs.declared.expr.Factor.{Factor, fold-Factor}
use Rattle.nys_tree.specs.declared.expr.Neg.{Neg, fold-Neg}
use Rattle.nys_tree.specs.declared.expr.Both.{Both, fold-Both}
use Rattle.nys_tree.specs.declared.expr.Expr.{Expr, fold-Expr}
use Rattle.nys_tree.specs.declared.expr.Sum.{Sum, fold-Sum}
use Rattle.nys_tree.specs.declared.expr.Tail.{Tail, fold-Tail}
use Rattle.nys_tree.specs.declared.expr.Term.{Term, fold-Term}
use Rattle.nys_tree.specs.declared.expr.TermTail.{TermTail, fold-TermTail}
use Rattle.nys_tree.specs.declared.expr.Test.{Test, fold-Test}
use Rattle.nys_tree.specs.declared.expr.Factor.TheOpen.{Factor-F, Neg-F, Both-F, Expr-F, Sum-F, Tail-F, Term-F, TermTail-F, Test-F}
use Rattle.nys_tree.specs.declared.expr.Compare.{Compare}
use Rattle.nys_tree.specs.declared.stmt.Block.{Block, fold-Block}
use Rattle.nys_tree.specs.declared.stmt.Branch.{Branch, fold-Branch}
use Rattle.nys_tree.specs.declared.stmt.Else.{Else, fold-Else}
use Rattle.nys_tree.specs.declared.stmt.Stmt.{Stmt, fold-Stmt}
use Rattle.nys_tree.specs.declared.stmt.Else.TheOpen.{Else-F, Stmt-F, Block-F, Branch-F}
use Rattle.nys_tree.specs.declared.stmt.Target.{Target}
use Rattle.nys_tree.specs.declared.stmt.Target.TheVariants.{All, Host}
use Rattle.nys_tree.specs.declared.machine.Machine.{Machine}
use Rattle.nys_tree.specs.declared.machine.Var.{Var}
use Rattle.nys_tree.specs.declared.machine.OnInput.{OnInput}
use Rattle.nys_tree.specs.declared.machine.OnReceive.{OnReceive}
use Rattle.nys_tree.specs.Bindings.{Declared, Bindings, top, is_scalar, is_list, is_free, is_new, let_of, fixed_of, payload_of}

-- whether a part is named, by what is seen there
abbrev pub Check : Type 0
Check = Bindings → Bool

-- whether all parts are named
abbrev pub all_named : List Check → Check
all_named [] s = true
all_named (t ∷ ts) s = t s && all_named ts s

-- one factor, by what is known of its parts
abbrev pub factor_step : Factor-F Check Check Check Check Check Check Check Check Check → Check
factor_step (Factor-F.Minus a) s = a s
factor_step (Factor-F.Number z) s = true
factor_step Factor-F.Me s = true
factor_step Factor-F.Hosts s = true
factor_step (Factor-F.Len name) s = is_list s name
factor_step (Factor-F.Scalar name) s = is_scalar s name
factor_step (Factor-F.Item name index) s = is_list s name && index s
factor_step (Factor-F.Inner a) s = a s

-- one negation or comparison
abbrev pub neg_step : Neg-F Check Check Check Check Check Check Check Check Check → Check
neg_step (Neg-F.Not a) s = a s
neg_step (Neg-F.Plain a) s = a s

-- operands of `and`
abbrev pub both_step : Both-F Check Check Check Check Check Check Check Check Check → Check
both_step b s = b.first s && all_named b.rest s

-- operands of `or`
abbrev pub expr_step : Expr-F Check Check Check Check Check Check Check Check Check → Check
expr_step e s = e.first s && all_named e.rest s

-- terms of a sum
abbrev pub sum_step : Sum-F Check Check Check Check Check Check Check Check Check → Check
sum_step a s = a.first s && all_named a.rest s

-- a term behind its operator
abbrev pub tail_step : Tail-F Check Check Check Check Check Check Check Check Check → Check
tail_step t s = t.term s

-- factors of a term
abbrev pub term_step : Term-F Check Check Check Check Check Check Check Check Check → Check
term_step a s = a.first s && all_named a.rest s

-- a factor behind its operator
abbrev pub term_tail_step : TermTail-F Check Check Check Check Check Check Check Check Check → Check
term_tail_step t s = t.factor s

-- the right side of a comparison, where there is one
abbrev pub right_named : Option (Compare × Check) → Check
right_named None s = true
right_named (Some r) s = r.1 s

-- a comparison
abbrev pub test_step : Test-F Check Check Check Check Check Check Check Check Check → Check
test_step t s = t.left s && right_named t.right s

-- each name in the part is seen as it is used
unfoldable pub factor_named : Factor → Check
factor_named = fold-Factor Check Check Check Check Check Check Check Check Check factor_step neg_step both_step expr_step sum_step tail_step term_step term_tail_step test_step

-- the same of a negation or a comparison
unfoldable pub neg_named : Neg → Check
neg_named = fold-Neg Check Check Check Check Check Check Check Check Check factor_step neg_step both_step expr_step sum_step tail_step term_step term_tail_step test_step

-- the same of operands of `and`
unfoldable pub both_named : Both → Check
both_named = fold-Both Check Check Check Check Check Check Check Check Check factor_step neg_step both_step expr_step sum_step tail_step term_step term_tail_step test_step

-- the same of an expression
unfoldable pub expr_named : Expr → Check
expr_named = fold-Expr Check Check Check Check Check Check Check Check Check factor_step neg_step both_step expr_step sum_step tail_step term_step term_tail_step test_step

-- the same of a sum
unfoldable pub sum_named : Sum → Check
sum_named = fold-Sum Check Check Check Check Check Check Check Check Check factor_step neg_step both_step expr_step sum_step tail_step term_step term_tail_step test_step

-- the same of a term behind its operator
unfoldable pub tail_named : Tail → Check
tail_named = fold-Tail Check Check Check Check Check Check Check Check Check factor_step neg_step both_step expr_step sum_step tail_step term_step term_tail_step test_step

-- the same of a product
unfoldable pub term_named : Term → Check
term_named = fold-Term Check Check Check Check Check Check Check Check Check factor_step neg_step both_step expr_step sum_step tail_step term_step term_tail_step test_step

-- the same of a factor behind its operator
unfoldable pub term_tail_named : TermTail → Check
term_tail_named = fold-TermTail Check Check Check Check Check Check Check Check Check factor_step neg_step both_step expr_step sum_step tail_step term_step term_tail_step test_step

-- the same of a comparison
unfoldable pub test_named : Test → Check
test_named = fold-Test Check Check Check Check Check Check Check Check Check factor_step neg_step both_step expr_step sum_step tail_step term_step term_tail_step test_step

-- to whom a `send` goes
abbrev pub target_named : Target → Check
target_named All s = true
target_named (Host e) s = expr_named e s

-- the members of a list
abbrev pub exprs_named : List Expr → Check
exprs_named [] s = true
exprs_named (e ∷ es) s = expr_named e s && exprs_named es s

-- what is seen behind a part that is named, by what is seen before it
abbrev pub Pass : Type 0
Pass = Bindings → Option Bindings

-- what is seen behind a part that declares nothing
abbrev pub same_if : Bool → Pass
same_if b s = if b then Some s else None

-- what is seen behind a declaration
abbrev pub more_if : Bool → Declared → Pass
more_if b d s = if b then Some (d ∷ s) else None

-- what a part passes on, where the part before it was named
abbrev pub then_named : Option Bindings → Check → Bool
then_named None t = false
then_named (Some s) t = t s

-- statements one by one, each where those before it were named
abbrev pub stmts_named : List Pass → Check
stmts_named [] s = true
stmts_named (x ∷ xs) s = then_named (x s) (stmts_named xs)

-- what stands behind an `if`'s block
abbrev pub else_step : Else-F Check Pass Check Check → Check
else_step Else-F.Absent s = true
else_step (Else-F.Last b) s = b s
else_step (Else-F.Further b) s = b s

-- one statement: a `let` is seen behind it, a loop's name in its block alone
abbrev pub stmt_step : Stmt-F Check Pass Check Check → Pass
stmt_step (Stmt-F.Let name e) s = more_if (is_new 1 s name && expr_named e s) (let_of name) s
stmt_step (Stmt-F.Set name e) s = same_if (is_scalar s name && (is_free s name && expr_named e s)) s
stmt_step (Stmt-F.SetItem name i e) s = same_if (is_list s name && (is_free s name && (expr_named i s && expr_named e s))) s
stmt_step (Stmt-F.If b) s = same_if (b s) s
stmt_step (Stmt-F.For name a b body) s = same_if (is_new 1 s name && (expr_named a s && (expr_named b s && body (fixed_of name ∷ s)))) s
stmt_step (Stmt-F.Each name body) s = same_if (is_new 1 s name && body (fixed_of name ∷ s)) s
stmt_step (Stmt-F.Send to list) s = same_if (target_named to s && exprs_named list.members s) s
stmt_step (Stmt-F.Out list) s = same_if (exprs_named list.members s) s

-- a block: what it declares is seen in it alone
abbrev pub block_step : Block-F Check Pass Check Check → Check
block_step b s = stmts_named b.stmts s

-- one `if`
abbrev pub branch_step : Branch-F Check Pass Check Check → Check
branch_step b s = expr_named b.test s && (b.body s && b.other s)

-- each name is used and declared by the rules: what is seen behind a statement
unfoldable pub stmt_named : Stmt → Pass
stmt_named = fold-Stmt Check Pass Check Check else_step stmt_step block_step branch_step

-- each name is used and declared by the rules in a block, in an `if`, behind one
unfoldable pub block_named : Block → Check
block_named = fold-Block Check Pass Check Check else_step stmt_step block_step branch_step

-- the same of an `if`
unfoldable pub branch_named : Branch → Check
branch_named = fold-Branch Check Pass Check Check else_step stmt_step block_step branch_step

-- the same of what stands behind an `if`'s block
unfoldable pub other_named : Else → Check
other_named = fold-Else Check Pass Check Check else_step stmt_step block_step branch_step

-- the most numbers of a state
abbrev pub MAX_STATE : ℕ
MAX_STATE = 256

-- how many numbers a variable has: those in brackets, or one
abbrev pub size_of : Option ℤ → Option ℕ
size_of None = Some 1
size_of (Some (pos n)) = Some n
size_of (Some _) = None

-- a variable: a list where a number of items was written, and free to be assigned
abbrev pub var_of : Var → ℕ → Declared
var_of v n = record { text = v.name.text; place = v.name.place; len = n; is_list = is_some v.size; is_fixed = false }

-- a variable of that many numbers: they are some, and the state has room for them
abbrev pub var_named_by : Option ℕ → Var → Pass
var_named_by None v s = None
var_named_by (Some n) v s = more_if (is_new n s v.name && (nat_lt 0 n && nat_le (top s + n) MAX_STATE)) (var_of v n) s

-- what is seen behind a further part, where the parts before it were named
abbrev pub pass_on : Option Bindings → Pass → Option Bindings
pass_on None f = None
pass_on (Some s) f = f s

-- what is seen behind the variables
abbrev pub vars_named : List Var → Pass
vars_named [] s = Some s
vars_named (v ∷ vs) s = pass_on (var_named_by (size_of v.size) v s) (vars_named vs)

-- the handler of inputs is named, by what the variables make seen
abbrev pub input_named : OnInput → Check
input_named i s = is_new 0 s i.payload && block_named i.body (payload_of i.payload ∷ s)

-- the handler of messages is named: its sender is declared before its payload
abbrev pub receive_named : OnReceive → Check
receive_named r s =
    is_new 1 s r.sender && (is_new 0 (fixed_of r.sender ∷ s) r.payload && block_named r.body (payload_of r.payload ∷ fixed_of r.sender ∷ s))

-- the names that the variables declare, where they are declared by the rules
abbrev pub variables : Machine → Option Bindings
variables m = vars_named m.vars []

-- each name of the machine is used and declared by the rules, and has the place of what it stands for
unfoldable pub is_named : Machine → Bool
is_named m = then_named (variables m) (λ s. input_named m.on_input s && receive_named m.on_receive s)
