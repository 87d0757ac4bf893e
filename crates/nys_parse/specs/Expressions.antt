-- The rules of expressions, a rule for each line of the grammar. What is one level deeper is read by the rules of one level less.
use Rattle.std.specs.Prelude.{ℕ, zero, suc, if◌then◌else◌, List, Option, Some, None, codes}
use Rattle.std.specs.Str.{bytes_eq}
use Rattle.nys_tree.specs.declared.expr.AddOp.{AddOp}
use Rattle.nys_tree.specs.declared.expr.AddOp.TheVariants.{Plus, Minus}
use Rattle.nys_tree.specs.declared.expr.MulOp.{MulOp}
use Rattle.nys_tree.specs.declared.expr.MulOp.TheVariants.{Times, Over, Rest}
use Rattle.nys_tree.specs.declared.expr.Compare.{Compare}
use Rattle.nys_tree.specs.declared.expr.Compare.TheVariants.{Equal, NotEqual, Less, LessEqual, Greater, GreaterEqual}
use Rattle.nys_tree.specs.declared.expr.Factor.{Factor}
use Rattle.nys_tree.specs.declared.expr.Factor.TheVariants as f
use Rattle.nys_tree.specs.declared.expr.TermTail.{TermTail, roll-TermTail}
use Rattle.nys_tree.specs.declared.expr.Term.{Term, roll-Term}
use Rattle.nys_tree.specs.declared.expr.Tail.{Tail, roll-Tail}
use Rattle.nys_tree.specs.declared.expr.Sum.{Sum, roll-Sum}
use Rattle.nys_tree.specs.declared.expr.Test.{Test, roll-Test}
use Rattle.nys_tree.specs.declared.expr.Neg.{Neg}
use Rattle.nys_tree.specs.declared.expr.Neg.TheVariants as n
use Rattle.nys_tree.specs.declared.expr.Both.{Both, roll-Both}
use Rattle.nys_tree.specs.declared.expr.Expr.{Expr, roll-Expr}
use Rattle.nys_parse.specs.Parsing.{Parser, ◌>>=◌, ◌>>◌, ◌<$>◌, pure, next, refuse, too_deep, spelling, sees, skip, if_next, expect, name, is_number, number, all_of}

-- the operator of a term that is spelled so
abbrev pub mul_op : List ℕ → Option MulOp
mul_op word =
    if bytes_eq word (codes "*") then Some Times
    else (if bytes_eq word (codes "/") then Some Over else (if bytes_eq word (codes "%") then Some Rest else None))

-- the operator of a sum that is spelled so
abbrev pub add_op : List ℕ → Option AddOp
add_op word = if bytes_eq word (codes "+") then Some Plus else (if bytes_eq word (codes "-") then Some Minus else None)

-- the comparison that is spelled so
abbrev pub compare_op : List ℕ → Option Compare
compare_op word =
    if bytes_eq word (codes "==") then Some Equal
    else (if bytes_eq word (codes "!=") then Some NotEqual
    else (if bytes_eq word (codes "<") then Some Less
    else (if bytes_eq word (codes "<=") then Some LessEqual
    else (if bytes_eq word (codes ">") then Some Greater else (if bytes_eq word (codes ">=") then Some GreaterEqual else None)))))

-- what is one level deeper, from the token that opens the level on
pub record Deeper : Type 0 where
  -- the token alone
  pub level : Parser (Unit {0})
  -- what stands in brackets or in parentheses
  pub expr : Parser Expr
  -- what a `-` turns
  pub factor : Parser Factor
  -- what a `not` turns
  pub neg : Parser Neg

module _ (deeper : Deeper) where
  -- "(" NAME ")", behind "len"
  unfoldable pub len_of : Parser Factor
  len_of = λ i. if sees (codes "(") i then (do
    deeper.level
    list ← name
    expect (codes ")")
    pure (f.Len list)) i else refuse i

  -- "[" expr "]"
  unfoldable pub bracketed : Parser Expr
  bracketed = do
    found ← deeper.expr
    expect (codes "]")
    pure found

  -- NAME [ "[" expr "]" ]
  unfoldable pub named : Parser Factor
  named = do
    found ← name
    λ i. if sees (codes "[") i then (f.Item found <$> bracketed) i else pure (f.Scalar found) i

  -- "(" expr ")"
  unfoldable pub inner : Parser Factor
  inner = do
    whole ← deeper.expr
    expect (codes ")")
    pure (f.Inner whole)

  -- NUMBER, or a factor that begins with a name
  unfoldable pub plain : Parser Factor
  plain = λ i. if is_number (next i).kind then (f.Number <$> number) i else named i

  -- "-" factor | NUMBER | "me" | "hosts" | "len" "(" NAME ")" | NAME [ "[" expr "]" ] | "(" expr ")"
  unfoldable pub factor : Parser Factor
  factor = λ i.
      if sees (codes "-") i then (f.Minus <$> deeper.factor) i
      else (if sees (codes "(") i then inner i
      else (if sees (codes "me") i then (skip >> pure f.Me) i
      else (if sees (codes "hosts") i then (skip >> pure f.Hosts) i
      else (if sees (codes "len") i then (skip >> len_of) i else plain i))))

  -- a factor behind the next token, which is this operator
  abbrev pub factor_behind : Option MulOp → Parser (Option TermTail)
  factor_behind None = pure None
  factor_behind (Some op) = skip >> (λ x. Some (roll-TermTail (record { op = op; factor = x }))) <$> factor

  -- ( "*" | "/" | "%" ) factor, where there is one
  unfoldable pub next_factor : Parser (Option TermTail)
  next_factor = λ i. factor_behind (mul_op (spelling i)) i

  -- { ( "*" | "/" | "%" ) factor }
  unfoldable pub factors : Parser (List TermTail)
  factors = all_of next_factor

  -- factor { ( "*" | "/" | "%" ) factor }
  unfoldable pub term : Parser Term
  term = do
    first ← factor
    rest ← factors
    pure (roll-Term (record { first = first; rest = rest }))

  -- a term behind the next token, which is this operator
  abbrev pub term_behind : Option AddOp → Parser (Option Tail)
  term_behind None = pure None
  term_behind (Some op) = skip >> (λ x. Some (roll-Tail (record { op = op; term = x }))) <$> term

  -- ( "+" | "-" ) term, where there is one
  unfoldable pub next_term : Parser (Option Tail)
  next_term = λ i. term_behind (add_op (spelling i)) i

  -- { ( "+" | "-" ) term }
  unfoldable pub terms : Parser (List Tail)
  terms = all_of next_term

  -- term { ( "+" | "-" ) term }
  unfoldable pub sum : Parser Sum
  sum = do
    first ← term
    rest ← terms
    pure (roll-Sum (record { first = first; rest = rest }))

  -- a sum behind the next token, which is this comparison
  abbrev pub sum_behind : Option Compare → Parser (Option (Compare × Sum))
  sum_behind None = pure None
  sum_behind (Some op) = skip >> (λ x. Some (op, x)) <$> sum

  -- ( "==" | "!=" | "<" | "<=" | ">" | ">=" ) sum, where there is one
  unfoldable pub next_sum : Parser (Option (Compare × Sum))
  next_sum = λ i. sum_behind (compare_op (spelling i)) i

  -- sum [ ( "==" | "!=" | "<" | "<=" | ">" | ">=" ) sum ]
  unfoldable pub comparison : Parser Test
  comparison = do
    left ← sum
    right ← next_sum
    pure (roll-Test (record { left = left; right = right }))

  -- "not" neg | cmp
  unfoldable pub neg : Parser Neg
  neg = λ i. if sees (codes "not") i then (n.Not <$> deeper.neg) i else (n.Plain <$> comparison) i

  -- "and" neg, where there is one
  unfoldable pub next_neg : Parser (Option Neg)
  next_neg = if_next (codes "and") (Some <$> neg) (pure None)

  -- { "and" neg }
  unfoldable pub negs : Parser (List Neg)
  negs = all_of next_neg

  -- neg { "and" neg }
  unfoldable pub both : Parser Both
  both = do
    first ← neg
    rest ← negs
    pure (roll-Both (record { first = first; rest = rest }))

  -- "or" both, where there is one
  unfoldable pub next_both : Parser (Option Both)
  next_both = if_next (codes "or") (Some <$> both) (pure None)

  -- { "or" both }
  unfoldable pub boths : Parser (List Both)
  boths = all_of next_both

  -- both { "or" both }
  unfoldable pub expr : Parser Expr
  expr = do
    first ← both
    rest ← boths
    pure (roll-Expr (record { first = first; rest = rest }))

-- what is one level deeper, where so many levels are left
unfoldable pub deeper_of : ℕ → Deeper
deeper_of zero = record { level = too_deep; expr = too_deep; factor = too_deep; neg = too_deep }
deeper_of (suc levels) =
    let deeper = deeper_of levels in
    record { level = skip; expr = skip >> expr deeper; factor = skip >> factor deeper; neg = skip >> neg deeper }
