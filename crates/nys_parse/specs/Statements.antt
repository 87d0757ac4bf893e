-- The rules of statements and of a whole machine, a rule for each line of the grammar.
use Rattle.std.specs.Prelude.{ℕ, zero, suc, ◌-◌, ℤ, if◌then◌else◌, List, [], ◌∷◌, Option, Some, None, Result, Ok, Err, codes}
use Rattle.std.specs.Int.{int_wrapping_neg}
use Rattle.nys_parse.specs.declared.machine.TheConstants.{MAX_DEPTH}
use mir.Syntax.{w64}
use Rattle.nys_lex.specs.declared.fault.MachineFault.{MachineFault}
use Rattle.nys_lex.specs.declared.token.Token.{Token}
use Rattle.nys_tree.specs.declared.expr.Expr.{Expr}
use Rattle.nys_tree.specs.declared.name.Name.{Name}
use Rattle.nys_tree.specs.declared.stmt.Block.{Block, roll-Block}
use Rattle.nys_tree.specs.declared.stmt.Branch.{Branch, roll-Branch}
use Rattle.nys_tree.specs.declared.stmt.Stmt.{Stmt}
use Rattle.nys_tree.specs.declared.stmt.Stmt.TheVariants as s
use Rattle.nys_tree.specs.declared.stmt.Else.{Else}
use Rattle.nys_tree.specs.declared.stmt.Else.TheVariants.{Absent, Last, Further}
use Rattle.nys_tree.specs.declared.stmt.Target.{Target}
use Rattle.nys_tree.specs.declared.stmt.Target.TheVariants.{All, Host}
use Rattle.nys_tree.specs.declared.stmt.Values.{Values}
use Rattle.nys_tree.specs.declared.stmt.TheConstants.{MAX_MEMBERS}
use Rattle.nys_tree.specs.declared.machine.Var.{Var}
use Rattle.nys_tree.specs.declared.machine.OnInput.{OnInput}
use Rattle.nys_tree.specs.declared.machine.OnReceive.{OnReceive}
use Rattle.nys_tree.specs.declared.machine.Machine.{Machine}
use Rattle.nys_parse.specs.Parsing.{Parser, Outcome, ◌>>=◌, ◌>>◌, ◌<$>◌, pure, refuse, too_deep, sees, skip, if_next, expect, name, number, end, many, all_of}
use Rattle.nys_parse.specs.Expressions.{Deeper, deeper_of, bracketed, expr}

-- what is one level deeper, from the token that opens the level on
pub record Nested : Type 0 where
  -- a block
  pub block : Parser Block
  -- the `if` behind an `else`
  pub branch : Parser Branch

module _ (deeper : Deeper) (nested : Nested) where
  -- "=" expr ";"
  unfoldable pub value : Parser Expr
  value = do
    expect (codes "=")
    found ← expr deeper
    expect (codes ";")
    pure found

  -- "," expr, where there is one
  unfoldable pub next_member : Parser (Option Expr)
  next_member = if_next (codes ",") (Some <$> expr deeper) (pure None)

  -- 1 to `MAX_MEMBERS` members, and what is left behind them
  unfoldable pub members : Parser (List Expr)
  members = do
    first ← expr deeper
    many next_member (MAX_MEMBERS - 1) (first ∷ [])

  -- expr { "," expr }, 1 to `MAX_MEMBERS`: what stands behind the comma after the last of so many isn't allowed
  unfoldable pub list : Parser Values
  list = do
    found ← members
    if_next (codes ",") refuse (pure (record { members = found }))

  -- "all" | expr
  unfoldable pub target : Parser Target
  target = if_next (codes "all") (pure All) (Host <$> expr deeper)

  -- NAME "=" expr ";", behind "let"
  unfoldable pub let_stmt : Parser Stmt
  let_stmt = do
    found ← name
    s.Let found <$> value

  -- "[" expr "]" "=" expr ";", behind the name
  unfoldable pub item_stmt : Name → Parser Stmt
  item_stmt found = do
    index ← bracketed deeper
    s.SetItem found index <$> value

  -- NAME [ "[" expr "]" ] "=" expr ";"
  unfoldable pub set_stmt : Parser Stmt
  set_stmt = do
    found ← name
    λ i. if sees (codes "[") i then item_stmt found i else (s.Set found <$> value) i

  -- ( "all" | expr ) ":" list ";", behind "send"
  unfoldable pub send_stmt : Parser Stmt
  send_stmt = do
    to ← target
    expect (codes ":")
    found ← list
    expect (codes ";")
    pure (s.Send to found)

  -- list ";", behind "out"
  unfoldable pub out_stmt : Parser Stmt
  out_stmt = do
    found ← list
    expect (codes ";")
    pure (s.Out found)

  -- "{" { stmt } "}"
  unfoldable pub block : Parser Block
  block = λ i. if sees (codes "{") i then nested.block i else refuse i

  -- "from" expr "to" expr
  unfoldable pub range : Parser (Expr × Expr)
  range = do
    expect (codes "from")
    first ← expr deeper
    expect (codes "to")
    bound ← expr deeper
    pure (first, bound)

  -- NAME "from" expr "to" expr block, behind "for"
  unfoldable pub for_stmt : Parser Stmt
  for_stmt = do
    found ← name
    bounds ← range
    s.For found bounds.0 bounds.1 <$> block

  -- NAME block, behind "each"
  unfoldable pub each_stmt : Parser Stmt
  each_stmt = do
    found ← name
    s.Each found <$> block

  -- block | if, behind "else"
  unfoldable pub behind_else : Parser Else
  behind_else = λ i. if sees (codes "if") i then (Further <$> nested.branch) i else (Last <$> block) i

  -- [ "else" ( block | if ) ]
  unfoldable pub other : Parser Else
  other = if_next (codes "else") behind_else (pure Absent)

  -- expr block [ "else" ( block | if ) ], behind "if"
  unfoldable pub branch : Parser Branch
  branch = do
    test ← expr deeper
    body ← block
    rest ← other
    pure (roll-Branch (record { test = test; body = body; other = rest }))

  -- a statement, by its first token
  unfoldable pub stmt : Parser Stmt
  stmt = λ i.
      if sees (codes "let") i then (skip >> let_stmt) i
      else (if sees (codes "if") i then (skip >> s.If <$> branch) i
      else (if sees (codes "for") i then (skip >> for_stmt) i
      else (if sees (codes "each") i then (skip >> each_stmt) i
      else (if sees (codes "send") i then (skip >> send_stmt) i
      else (if sees (codes "out") i then (skip >> out_stmt) i else set_stmt i)))))

  -- a statement, where the block doesn't end
  unfoldable pub next_stmt : Parser (Option Stmt)
  next_stmt = λ i. if sees (codes "}") i then pure None i else (Some <$> stmt) i

  -- { stmt }
  unfoldable pub stmts : Parser (List Stmt)
  stmts = all_of next_stmt

  -- { stmt } "}", behind "{"
  unfoldable pub braced : Parser Block
  braced = do
    found ← stmts
    expect (codes "}")
    pure (roll-Block (record { stmts = found }))

-- what is one level deeper, where so many levels are left
unfoldable pub nested_of : ℕ → Nested
nested_of zero = record { block = too_deep; branch = too_deep }
nested_of (suc levels) =
    let nested = nested_of levels in
    record { block = skip >> braced (deeper_of levels) nested; branch = skip >> branch (deeper_of levels) nested }

-- the levels that a machine may open
abbrev pub max_depth : ℕ
max_depth = MAX_DEPTH

-- a handler's block
unfoldable pub body : Parser Block
body = block (deeper_of max_depth) (nested_of max_depth)

-- [ "[" NUMBER "]" ]
unfoldable pub size : Parser (Option ℤ)
size = if_next (codes "[") (do
  found ← number
  expect (codes "]")
  pure (Some found)) (pure None)

-- the opposite of a number; of each number that a text can write, it fits
abbrev pub opposite : ℤ → ℤ
opposite value = int_wrapping_neg w64 value

-- [ "-" ] NUMBER
unfoldable pub start : Parser ℤ
start = if_next (codes "-") (opposite <$> number) number

-- NAME [ "[" NUMBER "]" ] "=" [ "-" ] NUMBER ";", behind "var"
unfoldable pub var : Parser Var
var = do
  found ← name
  numbers ← size
  expect (codes "=")
  first ← start
  expect (codes ";")
  pure (record { name = found; size = numbers; start = first })

-- a variable, where there is one
unfoldable pub next_var : Parser (Option Var)
next_var = if_next (codes "var") (Some <$> var) (pure None)

-- { var }
unfoldable pub vars : Parser (List Var)
vars = all_of next_var

-- "on" "input" NAME block
unfoldable pub on_input : Parser OnInput
on_input = do
  expect (codes "on")
  expect (codes "input")
  payload ← name
  found ← body
  pure (record { payload = payload; body = found })

-- "on" "receive" NAME NAME block
unfoldable pub on_receive : Parser OnReceive
on_receive = do
  expect (codes "on")
  expect (codes "receive")
  sender ← name
  payload ← name
  found ← body
  pure (record { sender = sender; payload = payload; body = found })

-- { var } "on" "input" NAME block "on" "receive" NAME NAME block, and the end of the text
unfoldable pub machine : Parser Machine
machine = do
  found ← vars
  input ← on_input
  receive ← on_receive
  end
  pure (record { vars = found; on_input = input; on_receive = receive })

-- what was read
abbrev pub read : {A : Type 0} → Outcome A → Result A MachineFault
read (Ok p) = Ok p.0
read (Err fault) = Err fault

-- the tree of a machine's tokens, or the first fault
unfoldable pub parse : List Token → Result Machine MachineFault
parse tokens = read (machine tokens)
