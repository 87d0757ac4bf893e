-- The equations of the rules of names: when each form of the tree is named, by its parts.
use Rattle.std.proofs.Common.{◌≡◌, true, ℤ, ◌&&◌, ◌∷◌, map, Option, Some, None, refl, ap, ◌∙◌}
use Rattle.nys_tree.specs.declared.expr.Compare.{Compare}
use Rattle.nys_tree.specs.declared.name.Name.{Name}
use Rattle.nys_tree.specs.declared.expr.Factor.{Factor, fold_out-Factor, map-Factor}
use Rattle.nys_tree.specs.declared.expr.Neg.{Neg, fold_out-Neg, map-Neg}
use Rattle.nys_tree.specs.declared.expr.Both.{Both, fold_out-Both, out-Both}
use Rattle.nys_tree.specs.declared.expr.Expr.{Expr, fold_out-Expr, out-Expr}
use Rattle.nys_tree.specs.declared.expr.Sum.{Sum, fold_out-Sum, out-Sum}
use Rattle.nys_tree.specs.declared.expr.Tail.{Tail, fold_out-Tail, out-Tail}
use Rattle.nys_tree.specs.declared.expr.Term.{Term, fold_out-Term, out-Term}
use Rattle.nys_tree.specs.declared.expr.TermTail.{TermTail, fold_out-TermTail, out-TermTail}
use Rattle.nys_tree.specs.declared.expr.Test.{Test, fold_out-Test, map-Test, out-Test}
use Rattle.nys_tree.specs.declared.expr.Factor.TheVariants as fv
use Rattle.nys_tree.specs.declared.expr.Neg.TheVariants as nv
use Rattle.nys_tree.specs.declared.stmt.Target.{Target}
use Rattle.nys_tree.specs.declared.stmt.Values.{Values}
use Rattle.nys_tree.specs.declared.stmt.Block.{Block, fold_out-Block, out-Block}
use Rattle.nys_tree.specs.declared.stmt.Branch.{Branch, fold_out-Branch, out-Branch}
use Rattle.nys_tree.specs.declared.stmt.Else.{Else, fold_out-Else, map-Else}
use Rattle.nys_tree.specs.declared.stmt.Else.TheVariants as ev
use Rattle.nys_tree.specs.declared.stmt.Stmt.{Stmt, fold_out-Stmt, map-Stmt}
use Rattle.nys_tree.specs.declared.stmt.Stmt.TheVariants as sv
use Rattle.nys_tree.specs.Bindings.{Bindings, is_scalar, is_list, is_free, is_new, let_of, fixed_of}
use Rattle.nys_tree.specs.Named.{Check, Pass, all_named, same_if, more_if, target_named, exprs_named, stmts_named, factor_step, neg_step, both_step, expr_step, sum_step, tail_step, term_step, term_tail_step, test_step, factor_named, neg_named, both_named, expr_named, sum_named, tail_named, term_named, term_tail_named, test_named, else_step, stmt_step, block_step, branch_step, stmt_named, block_named, branch_named, other_named}

-- the right side of a comparison is named
abbrev pub right_is_named : Option (Compare × Sum) → Check
right_is_named None s = true
right_is_named (Some right) s = sum_named right.1 s

-- when this level is named, by its parts
pub sum_is : (t : Sum) (s : Bindings) → sum_named t s ≡ term_named (out-Sum t).first s && all_named (map tail_named (out-Sum t).rest) s
unfolding factor_named neg_named both_named expr_named sum_named tail_named term_named term_tail_named test_named
sum_is t s = ap (λ f. f s) (fold_out-Sum Check Check Check Check Check Check Check Check Check factor_step neg_step both_step expr_step sum_step tail_step term_step term_tail_step test_step t)

-- when this level is named, by its parts
pub term_is : (t : Term) (s : Bindings) → term_named t s ≡ factor_named (out-Term t).first s && all_named (map term_tail_named (out-Term t).rest) s
unfolding factor_named neg_named both_named expr_named sum_named tail_named term_named term_tail_named test_named
term_is t s = ap (λ f. f s) (fold_out-Term Check Check Check Check Check Check Check Check Check factor_step neg_step both_step expr_step sum_step tail_step term_step term_tail_step test_step t)

-- when this level is named, by its parts
pub both_is : (t : Both) (s : Bindings) → both_named t s ≡ neg_named (out-Both t).first s && all_named (map neg_named (out-Both t).rest) s
unfolding factor_named neg_named both_named expr_named sum_named tail_named term_named term_tail_named test_named
both_is t s = ap (λ f. f s) (fold_out-Both Check Check Check Check Check Check Check Check Check factor_step neg_step both_step expr_step sum_step tail_step term_step term_tail_step test_step t)

-- when this level is named, by its parts
pub expr_is : (t : Expr) (s : Bindings) → expr_named t s ≡ both_named (out-Expr t).first s && all_named (map both_named (out-Expr t).rest) s
unfolding factor_named neg_named both_named expr_named sum_named tail_named term_named term_tail_named test_named
expr_is t s = ap (λ f. f s) (fold_out-Expr Check Check Check Check Check Check Check Check Check factor_step neg_step both_step expr_step sum_step tail_step term_step term_tail_step test_step t)

-- when this level is named, by its parts
pub tail_is : (t : Tail) (s : Bindings) → tail_named t s ≡ term_named (out-Tail t).term s
unfolding factor_named neg_named both_named expr_named sum_named tail_named term_named term_tail_named test_named
tail_is t s = ap (λ f. f s) (fold_out-Tail Check Check Check Check Check Check Check Check Check factor_step neg_step both_step expr_step sum_step tail_step term_step term_tail_step test_step t)

-- when this level is named, by its parts
pub term_tail_is : (t : TermTail) (s : Bindings) → term_tail_named t s ≡ factor_named (out-TermTail t).factor s
unfolding factor_named neg_named both_named expr_named sum_named tail_named term_named term_tail_named test_named
term_tail_is t s = ap (λ f. f s) (fold_out-TermTail Check Check Check Check Check Check Check Check Check factor_step neg_step both_step expr_step sum_step tail_step term_step term_tail_step test_step t)

-- the right side of a comparison is named by what its sum says
test_right : (l : Sum) (o : Option (Compare × Sum)) (s : Bindings) → test_step (map-Test Factor Neg Both Expr Sum Tail Term TermTail Test Check Check Check Check Check Check Check Check Check factor_named neg_named both_named expr_named sum_named tail_named term_named term_tail_named test_named (record { left = l; right = o })) s ≡ sum_named l s && right_is_named o s
test_right l None s = refl
test_right l (Some p) s = refl

-- when this level is named, by its parts
pub test_is : (t : Test) (s : Bindings) → test_named t s ≡ sum_named (out-Test t).left s && right_is_named (out-Test t).right s
unfolding factor_named neg_named both_named expr_named sum_named tail_named term_named term_tail_named test_named
test_is t s = ap (λ f. f s) (fold_out-Test Check Check Check Check Check Check Check Check Check factor_step neg_step both_step expr_step sum_step tail_step term_step term_tail_step test_step t) ∙ test_right (out-Test t).left (out-Test t).right s

-- when this form is named, by its parts
pub factor_minus : (a : Factor) (s : Bindings) → factor_named (fv.Minus a) s ≡ factor_named a s
unfolding factor_named neg_named both_named expr_named sum_named tail_named term_named term_tail_named test_named
factor_minus a s = ap (λ f. f s) (fold_out-Factor Check Check Check Check Check Check Check Check Check factor_step neg_step both_step expr_step sum_step tail_step term_step term_tail_step test_step (fv.Minus a) ∙ ap (λ d. factor_step (map-Factor Factor Neg Both Expr Sum Tail Term TermTail Test Check Check Check Check Check Check Check Check Check factor_named neg_named both_named expr_named sum_named tail_named term_named term_tail_named test_named d)) (fv.outs-Minus a))

-- when this form is named, by its parts
pub factor_number : (z : ℤ) (s : Bindings) → factor_named (fv.Number z) s ≡ true
unfolding factor_named neg_named both_named expr_named sum_named tail_named term_named term_tail_named test_named
factor_number z s = ap (λ f. f s) (fold_out-Factor Check Check Check Check Check Check Check Check Check factor_step neg_step both_step expr_step sum_step tail_step term_step term_tail_step test_step (fv.Number z) ∙ ap (λ d. factor_step (map-Factor Factor Neg Both Expr Sum Tail Term TermTail Test Check Check Check Check Check Check Check Check Check factor_named neg_named both_named expr_named sum_named tail_named term_named term_tail_named test_named d)) (fv.outs-Number z))

-- when this form is named, by its parts
pub factor_me : (s : Bindings) → factor_named fv.Me s ≡ true
unfolding factor_named neg_named both_named expr_named sum_named tail_named term_named term_tail_named test_named
factor_me s = ap (λ f. f s) (fold_out-Factor Check Check Check Check Check Check Check Check Check factor_step neg_step both_step expr_step sum_step tail_step term_step term_tail_step test_step fv.Me ∙ ap (λ d. factor_step (map-Factor Factor Neg Both Expr Sum Tail Term TermTail Test Check Check Check Check Check Check Check Check Check factor_named neg_named both_named expr_named sum_named tail_named term_named term_tail_named test_named d)) fv.outs-Me)

-- when this form is named, by its parts
pub factor_hosts : (s : Bindings) → factor_named fv.Hosts s ≡ true
unfolding factor_named neg_named both_named expr_named sum_named tail_named term_named term_tail_named test_named
factor_hosts s = ap (λ f. f s) (fold_out-Factor Check Check Check Check Check Check Check Check Check factor_step neg_step both_step expr_step sum_step tail_step term_step term_tail_step test_step fv.Hosts ∙ ap (λ d. factor_step (map-Factor Factor Neg Both Expr Sum Tail Term TermTail Test Check Check Check Check Check Check Check Check Check factor_named neg_named both_named expr_named sum_named tail_named term_named term_tail_named test_named d)) fv.outs-Hosts)

-- when this form is named, by its parts
pub factor_len : (name : Name) (s : Bindings) → factor_named (fv.Len name) s ≡ is_list s name
unfolding factor_named neg_named both_named expr_named sum_named tail_named term_named term_tail_named test_named
factor_len name s = ap (λ f. f s) (fold_out-Factor Check Check Check Check Check Check Check Check Check factor_step neg_step both_step expr_step sum_step tail_step term_step term_tail_step test_step (fv.Len name) ∙ ap (λ d. factor_step (map-Factor Factor Neg Both Expr Sum Tail Term TermTail Test Check Check Check Check Check Check Check Check Check factor_named neg_named both_named expr_named sum_named tail_named term_named term_tail_named test_named d)) (fv.outs-Len name))

-- when this form is named, by its parts
pub factor_scalar : (name : Name) (s : Bindings) → factor_named (fv.Scalar name) s ≡ is_scalar s name
unfolding factor_named neg_named both_named expr_named sum_named tail_named term_named term_tail_named test_named
factor_scalar name s = ap (λ f. f s) (fold_out-Factor Check Check Check Check Check Check Check Check Check factor_step neg_step both_step expr_step sum_step tail_step term_step term_tail_step test_step (fv.Scalar name) ∙ ap (λ d. factor_step (map-Factor Factor Neg Both Expr Sum Tail Term TermTail Test Check Check Check Check Check Check Check Check Check factor_named neg_named both_named expr_named sum_named tail_named term_named term_tail_named test_named d)) (fv.outs-Scalar name))

-- when this form is named, by its parts
pub factor_item : (name : Name) (a : Expr) (s : Bindings) → factor_named (fv.Item name a) s ≡ is_list s name && expr_named a s
unfolding factor_named neg_named both_named expr_named sum_named tail_named term_named term_tail_named test_named
factor_item name a s = ap (λ f. f s) (fold_out-Factor Check Check Check Check Check Check Check Check Check factor_step neg_step both_step expr_step sum_step tail_step term_step term_tail_step test_step (fv.Item name a) ∙ ap (λ d. factor_step (map-Factor Factor Neg Both Expr Sum Tail Term TermTail Test Check Check Check Check Check Check Check Check Check factor_named neg_named both_named expr_named sum_named tail_named term_named term_tail_named test_named d)) (fv.outs-Item name a))

-- when this form is named, by its parts
pub factor_inner : (a : Expr) (s : Bindings) → factor_named (fv.Inner a) s ≡ expr_named a s
unfolding factor_named neg_named both_named expr_named sum_named tail_named term_named term_tail_named test_named
factor_inner a s = ap (λ f. f s) (fold_out-Factor Check Check Check Check Check Check Check Check Check factor_step neg_step both_step expr_step sum_step tail_step term_step term_tail_step test_step (fv.Inner a) ∙ ap (λ d. factor_step (map-Factor Factor Neg Both Expr Sum Tail Term TermTail Test Check Check Check Check Check Check Check Check Check factor_named neg_named both_named expr_named sum_named tail_named term_named term_tail_named test_named d)) (fv.outs-Inner a))

-- when this form is named, by its parts
pub neg_not : (a : Neg) (s : Bindings) → neg_named (nv.Not a) s ≡ neg_named a s
unfolding factor_named neg_named both_named expr_named sum_named tail_named term_named term_tail_named test_named
neg_not a s = ap (λ f. f s) (fold_out-Neg Check Check Check Check Check Check Check Check Check factor_step neg_step both_step expr_step sum_step tail_step term_step term_tail_step test_step (nv.Not a) ∙ ap (λ d. neg_step (map-Neg Factor Neg Both Expr Sum Tail Term TermTail Test Check Check Check Check Check Check Check Check Check factor_named neg_named both_named expr_named sum_named tail_named term_named term_tail_named test_named d)) (nv.outs-Not a))

-- when this form is named, by its parts
pub neg_plain : (a : Test) (s : Bindings) → neg_named (nv.Plain a) s ≡ test_named a s
unfolding factor_named neg_named both_named expr_named sum_named tail_named term_named term_tail_named test_named
neg_plain a s = ap (λ f. f s) (fold_out-Neg Check Check Check Check Check Check Check Check Check factor_step neg_step both_step expr_step sum_step tail_step term_step term_tail_step test_step (nv.Plain a) ∙ ap (λ d. neg_step (map-Neg Factor Neg Both Expr Sum Tail Term TermTail Test Check Check Check Check Check Check Check Check Check factor_named neg_named both_named expr_named sum_named tail_named term_named term_tail_named test_named d)) (nv.outs-Plain a))

-- a block by place is its statements
pub block_is : (t : Block) (s : Bindings) → block_named t s ≡ stmts_named (map stmt_named (out-Block t).stmts) s
unfolding stmt_named block_named branch_named other_named
block_is t s = ap (λ f. f s) (fold_out-Block Check Pass Check Check else_step stmt_step block_step branch_step t)

-- when this level is named, by its parts
pub branch_is : (t : Branch) (s : Bindings) → branch_named t s ≡ expr_named (out-Branch t).test s && (block_named (out-Branch t).body s && other_named (out-Branch t).other s)
unfolding stmt_named block_named branch_named other_named
branch_is t s = ap (λ f. f s) (fold_out-Branch Check Pass Check Check else_step stmt_step block_step branch_step t)

-- when this form is named, by its parts
pub other_absent : (s : Bindings) → other_named ev.Absent s ≡ true
unfolding stmt_named block_named branch_named other_named
other_absent s = ap (λ f. f s) (fold_out-Else Check Pass Check Check else_step stmt_step block_step branch_step ev.Absent ∙ ap (λ d. else_step (map-Else Else Stmt Block Branch Check Pass Check Check other_named stmt_named block_named branch_named d)) ev.outs-Absent)

-- when this form is named, by its parts
pub other_last : (body : Block) (s : Bindings) → other_named (ev.Last body) s ≡ block_named body s
unfolding stmt_named block_named branch_named other_named
other_last body s = ap (λ f. f s) (fold_out-Else Check Pass Check Check else_step stmt_step block_step branch_step (ev.Last body) ∙ ap (λ d. else_step (map-Else Else Stmt Block Branch Check Pass Check Check other_named stmt_named block_named branch_named d)) (ev.outs-Last body))

-- when this form is named, by its parts
pub other_further : (b : Branch) (s : Bindings) → other_named (ev.Further b) s ≡ branch_named b s
unfolding stmt_named block_named branch_named other_named
other_further b s = ap (λ f. f s) (fold_out-Else Check Pass Check Check else_step stmt_step block_step branch_step (ev.Further b) ∙ ap (λ d. else_step (map-Else Else Stmt Block Branch Check Pass Check Check other_named stmt_named block_named branch_named d)) (ev.outs-Further b))

-- when this form is named, by its parts
pub stmt_let : (name : Name) (e : Expr) (s : Bindings) → stmt_named (sv.Let name e) s ≡ more_if (is_new 1 s name && expr_named e s) (let_of name) s
unfolding stmt_named block_named branch_named other_named
stmt_let name e s = ap (λ f. f s) (fold_out-Stmt Check Pass Check Check else_step stmt_step block_step branch_step (sv.Let name e) ∙ ap (λ d. stmt_step (map-Stmt Else Stmt Block Branch Check Pass Check Check other_named stmt_named block_named branch_named d)) (sv.outs-Let name e))

-- when this form is named, by its parts
pub stmt_set : (name : Name) (e : Expr) (s : Bindings) → stmt_named (sv.Set name e) s ≡ same_if (is_scalar s name && (is_free s name && expr_named e s)) s
unfolding stmt_named block_named branch_named other_named
stmt_set name e s = ap (λ f. f s) (fold_out-Stmt Check Pass Check Check else_step stmt_step block_step branch_step (sv.Set name e) ∙ ap (λ d. stmt_step (map-Stmt Else Stmt Block Branch Check Pass Check Check other_named stmt_named block_named branch_named d)) (sv.outs-Set name e))

-- when this form is named, by its parts
pub stmt_set_item : (name : Name) (i : Expr) (e : Expr) (s : Bindings) → stmt_named (sv.SetItem name i e) s ≡ same_if (is_list s name && (is_free s name && (expr_named i s && expr_named e s))) s
unfolding stmt_named block_named branch_named other_named
stmt_set_item name i e s = ap (λ f. f s) (fold_out-Stmt Check Pass Check Check else_step stmt_step block_step branch_step (sv.SetItem name i e) ∙ ap (λ d. stmt_step (map-Stmt Else Stmt Block Branch Check Pass Check Check other_named stmt_named block_named branch_named d)) (sv.outs-SetItem name i e))

-- when this form is named, by its parts
pub stmt_if : (b : Branch) (s : Bindings) → stmt_named (sv.If b) s ≡ same_if (branch_named b s) s
unfolding stmt_named block_named branch_named other_named
stmt_if b s = ap (λ f. f s) (fold_out-Stmt Check Pass Check Check else_step stmt_step block_step branch_step (sv.If b) ∙ ap (λ d. stmt_step (map-Stmt Else Stmt Block Branch Check Pass Check Check other_named stmt_named block_named branch_named d)) (sv.outs-If b))

-- when this form is named, by its parts
pub stmt_for : (name : Name) (a : Expr) (b : Expr) (body : Block) (s : Bindings) → stmt_named (sv.For name a b body) s ≡ same_if (is_new 1 s name && (expr_named a s && (expr_named b s && block_named body (fixed_of name ∷ s)))) s
unfolding stmt_named block_named branch_named other_named
stmt_for name a b body s = ap (λ f. f s) (fold_out-Stmt Check Pass Check Check else_step stmt_step block_step branch_step (sv.For name a b body) ∙ ap (λ d. stmt_step (map-Stmt Else Stmt Block Branch Check Pass Check Check other_named stmt_named block_named branch_named d)) (sv.outs-For name a b body))

-- when this form is named, by its parts
pub stmt_each : (name : Name) (body : Block) (s : Bindings) → stmt_named (sv.Each name body) s ≡ same_if (is_new 1 s name && block_named body (fixed_of name ∷ s)) s
unfolding stmt_named block_named branch_named other_named
stmt_each name body s = ap (λ f. f s) (fold_out-Stmt Check Pass Check Check else_step stmt_step block_step branch_step (sv.Each name body) ∙ ap (λ d. stmt_step (map-Stmt Else Stmt Block Branch Check Pass Check Check other_named stmt_named block_named branch_named d)) (sv.outs-Each name body))

-- when this form is named, by its parts
pub stmt_send : (to : Target) (list : Values) (s : Bindings) → stmt_named (sv.Send to list) s ≡ same_if (target_named to s && exprs_named list.members s) s
unfolding stmt_named block_named branch_named other_named
stmt_send to list s = ap (λ f. f s) (fold_out-Stmt Check Pass Check Check else_step stmt_step block_step branch_step (sv.Send to list) ∙ ap (λ d. stmt_step (map-Stmt Else Stmt Block Branch Check Pass Check Check other_named stmt_named block_named branch_named d)) (sv.outs-Send to list))

-- when this form is named, by its parts
pub stmt_out : (list : Values) (s : Bindings) → stmt_named (sv.Out list) s ≡ same_if (exprs_named list.members s) s
unfolding stmt_named block_named branch_named other_named
stmt_out list s = ap (λ f. f s) (fold_out-Stmt Check Pass Check Check else_step stmt_step block_step branch_step (sv.Out list) ∙ ap (λ d. stmt_step (map-Stmt Else Stmt Block Branch Check Pass Check Check other_named stmt_named block_named branch_named d)) (sv.outs-Out list))
