-- The equations of the statements: what each form does, by what its parts do.
use Rattle.std.proofs.Common.{◌≡◌, ℕ, suc, ℤ, pos, ◌+ℤ◌, int_lt, true, false, List, [], ◌∷◌, map, Option, Some, None, if◌then◌else◌, refl, ap, ◌∙◌}
use Rattle.nys_source.specs.declared.effect.Effect.TheVariants.{Out}
use Rattle.nys_tree.specs.declared.expr.Expr.{Expr}
use Rattle.nys_tree.specs.declared.name.Name.{Name}
use Rattle.nys_tree.specs.declared.stmt.Target.{Target}
use Rattle.nys_tree.specs.declared.stmt.Values.{Values}
use Rattle.nys_tree.specs.declared.stmt.Block.{Block, fold_out-Block, out-Block}
use Rattle.nys_tree.specs.declared.stmt.Branch.{Branch, fold_out-Branch, out-Branch}
use Rattle.nys_tree.specs.declared.stmt.Else.{Else, fold_out-Else, map-Else}
use Rattle.nys_tree.specs.declared.stmt.Else.TheVariants as ev
use Rattle.nys_tree.specs.declared.stmt.Stmt.{Stmt, fold_out-Stmt, map-Stmt}
use Rattle.nys_tree.specs.declared.stmt.Stmt.TheVariants as sv
use Rattle.nys_meaning.specs.declared.here.Here.{Here}
use Rattle.nys_meaning.specs.Numbers.{is_zero}
use Rattle.nys_meaning.specs.Exprs.{go_on}
use Rattle.nys_meaning.specs.Stmts.{Run, Store, Doing, in_turn, with_names, spend, with_effect, given, list_given, send_to, turn, loop, turns, act, acts, else_step, stmt_step, block_step, branch_step, stmts, stmt, block, branch, other}

module _ {E : Type 0} (store : Store E) (h : Here) where
  -- what a block's statements do one by one
  in_turn_map : (u : Option (Run E)) (xs : List Stmt) → in_turn u (map (stmt store h) xs) ≡ stmts store h u xs
  in_turn_map None xs = refl
  in_turn_map (Some u) [] = refl
  in_turn_map (Some u) (x ∷ more) = in_turn_map (stmt store h x u) more

  -- a block by place is its statements
  pub block_is : (t : Block) (u : Run E) → block store h t u ≡ go_on (stmts store h (Some u) (out-Block t).stmts) (λ w. Some (record w { names = store.leave u.names w.names }))
  unfolding stmt block branch other
  block_is t u = ap (λ f. f u) (fold_out-Block (Doing E) (Doing E) (Doing E) (Doing E) (else_step store h) (stmt_step store h) (block_step store h) (branch_step store h) t) ∙ ap (λ o. go_on o (λ (w : Run E). Some (record w { names = store.leave u.names w.names }))) (in_turn_map (Some u) (out-Block t).stmts)

  -- what this form does, by its parts
  pub branch_is : (t : Branch) (u : Run E) → branch store h t u ≡ given store h (out-Branch t).test u (λ z v. if is_zero z then other store h (out-Branch t).other v else block store h (out-Branch t).body v)
  unfolding stmt block branch other
  branch_is t u = ap (λ f. f u) (fold_out-Branch (Doing E) (Doing E) (Doing E) (Doing E) (else_step store h) (stmt_step store h) (block_step store h) (branch_step store h) t)

  -- what this form does, by its parts
  pub stmt_is : (t : Stmt) (u : Run E) → stmt store h t u ≡ spend u (acts store h t)
  unfolding stmt block branch other acts
  stmt_is t u = ap (λ f. f u) (fold_out-Stmt (Doing E) (Doing E) (Doing E) (Doing E) (else_step store h) (stmt_step store h) (block_step store h) (branch_step store h) t)

  -- a turn that is left is done
  pub loop_more : (n : ℕ) (body : Doing E) (name : Name) (to z : ℤ) (u : Run E) → int_lt z to ≡ true → loop store h (suc n) body name to z u ≡ go_on (turn store h body name z u) (loop store h n body name to (z +ℤ pos 1))
  unfolding loop
  loop_more n body name to z u lt = ap (λ b. if b then go_on (turn store h body name z u) (loop store h n body name to (z +ℤ pos 1)) else Some u) lt

  -- at the bound a loop is done
  pub loop_done : (n : ℕ) (body : Doing E) (name : Name) (to z : ℤ) (u : Run E) → int_lt z to ≡ false → loop store h (suc n) body name to z u ≡ Some u
  unfolding loop
  loop_done n body name to z u ge = ap (λ b. if b then go_on (turn store h body name z u) (loop store h n body name to (z +ℤ pos 1)) else Some u) ge

  -- without units a loop has a fault
  pub loop_out : (body : Doing E) (name : Name) (to z : ℤ) (u : Run E) → loop store h 0 body name to z u ≡ None
  unfolding loop
  loop_out body name to z u = refl

  -- what this form does, by its parts
  pub other_absent : (u : Run E) → other store h ev.Absent u ≡ Some u
  unfolding stmt block branch other
  other_absent u = ap (λ f. f u) (fold_out-Else (Doing E) (Doing E) (Doing E) (Doing E) (else_step store h) (stmt_step store h) (block_step store h) (branch_step store h) ev.Absent ∙ ap (λ d. else_step store h (map-Else Else Stmt Block Branch (Doing E) (Doing E) (Doing E) (Doing E) (other store h) (stmt store h) (block store h) (branch store h) d)) ev.outs-Absent)

  -- what this form does, by its parts
  pub other_last : (body : Block) (u : Run E) → other store h (ev.Last body) u ≡ block store h body u
  unfolding stmt block branch other
  other_last body u = ap (λ f. f u) (fold_out-Else (Doing E) (Doing E) (Doing E) (Doing E) (else_step store h) (stmt_step store h) (block_step store h) (branch_step store h) (ev.Last body) ∙ ap (λ d. else_step store h (map-Else Else Stmt Block Branch (Doing E) (Doing E) (Doing E) (Doing E) (other store h) (stmt store h) (block store h) (branch store h) d)) (ev.outs-Last body))

  -- what this form does, by its parts
  pub other_further : (b : Branch) (u : Run E) → other store h (ev.Further b) u ≡ spend u (branch store h b)
  unfolding stmt block branch other
  other_further b u = ap (λ f. f u) (fold_out-Else (Doing E) (Doing E) (Doing E) (Doing E) (else_step store h) (stmt_step store h) (block_step store h) (branch_step store h) (ev.Further b) ∙ ap (λ d. else_step store h (map-Else Else Stmt Block Branch (Doing E) (Doing E) (Doing E) (Doing E) (other store h) (stmt store h) (block store h) (branch store h) d)) (ev.outs-Further b))

  -- what this form does, by its parts
  pub stmt_let : (name : Name) (e : Expr) (u : Run E) → stmt store h (sv.Let name e) u ≡ spend u (λ v. given store h e v (λ z w. Some (record w { names = store.bind w.names name z })))
  unfolding stmt block branch other
  stmt_let name e u = ap (λ f. f u) (fold_out-Stmt (Doing E) (Doing E) (Doing E) (Doing E) (else_step store h) (stmt_step store h) (block_step store h) (branch_step store h) (sv.Let name e) ∙ ap (λ d. stmt_step store h (map-Stmt Else Stmt Block Branch (Doing E) (Doing E) (Doing E) (Doing E) (other store h) (stmt store h) (block store h) (branch store h) d)) (sv.outs-Let name e))

  -- what this statement does behind its unit, by its parts
  pub acts_let : (name : Name) (e : Expr) (u : Run E) → acts store h (sv.Let name e) u ≡ given store h e u (λ z w. Some (record w { names = store.bind w.names name z }))
  unfolding stmt block branch other acts
  acts_let name e u = ap (λ d. act store h (map-Stmt Else Stmt Block Branch (Doing E) (Doing E) (Doing E) (Doing E) (other store h) (stmt store h) (block store h) (branch store h) d) u) (sv.outs-Let name e)

  -- what this form does, by its parts
  pub stmt_set : (name : Name) (e : Expr) (u : Run E) → stmt store h (sv.Set name e) u ≡ spend u (λ v. given store h e v (λ z w. with_names w (store.set w.names name z)))
  unfolding stmt block branch other
  stmt_set name e u = ap (λ f. f u) (fold_out-Stmt (Doing E) (Doing E) (Doing E) (Doing E) (else_step store h) (stmt_step store h) (block_step store h) (branch_step store h) (sv.Set name e) ∙ ap (λ d. stmt_step store h (map-Stmt Else Stmt Block Branch (Doing E) (Doing E) (Doing E) (Doing E) (other store h) (stmt store h) (block store h) (branch store h) d)) (sv.outs-Set name e))

  -- what this statement does behind its unit, by its parts
  pub acts_set : (name : Name) (e : Expr) (u : Run E) → acts store h (sv.Set name e) u ≡ given store h e u (λ z w. with_names w (store.set w.names name z))
  unfolding stmt block branch other acts
  acts_set name e u = ap (λ d. act store h (map-Stmt Else Stmt Block Branch (Doing E) (Doing E) (Doing E) (Doing E) (other store h) (stmt store h) (block store h) (branch store h) d) u) (sv.outs-Set name e)

  -- what this form does, by its parts
  pub stmt_set_item : (name : Name) (i : Expr) (e : Expr) (u : Run E) → stmt store h (sv.SetItem name i e) u ≡ spend u (λ v. given store h i v (λ at w. given store h e w (λ z x. with_names x (store.set_item x.names name at z))))
  unfolding stmt block branch other
  stmt_set_item name i e u = ap (λ f. f u) (fold_out-Stmt (Doing E) (Doing E) (Doing E) (Doing E) (else_step store h) (stmt_step store h) (block_step store h) (branch_step store h) (sv.SetItem name i e) ∙ ap (λ d. stmt_step store h (map-Stmt Else Stmt Block Branch (Doing E) (Doing E) (Doing E) (Doing E) (other store h) (stmt store h) (block store h) (branch store h) d)) (sv.outs-SetItem name i e))

  -- what this statement does behind its unit, by its parts
  pub acts_set_item : (name : Name) (i : Expr) (e : Expr) (u : Run E) → acts store h (sv.SetItem name i e) u ≡ given store h i u (λ at w. given store h e w (λ z x. with_names x (store.set_item x.names name at z)))
  unfolding stmt block branch other acts
  acts_set_item name i e u = ap (λ d. act store h (map-Stmt Else Stmt Block Branch (Doing E) (Doing E) (Doing E) (Doing E) (other store h) (stmt store h) (block store h) (branch store h) d) u) (sv.outs-SetItem name i e)

  -- what this form does, by its parts
  pub stmt_if : (b : Branch) (u : Run E) → stmt store h (sv.If b) u ≡ spend u (branch store h b)
  unfolding stmt block branch other
  stmt_if b u = ap (λ f. f u) (fold_out-Stmt (Doing E) (Doing E) (Doing E) (Doing E) (else_step store h) (stmt_step store h) (block_step store h) (branch_step store h) (sv.If b) ∙ ap (λ d. stmt_step store h (map-Stmt Else Stmt Block Branch (Doing E) (Doing E) (Doing E) (Doing E) (other store h) (stmt store h) (block store h) (branch store h) d)) (sv.outs-If b))

  -- what this statement does behind its unit, by its parts
  pub acts_if : (b : Branch) (u : Run E) → acts store h (sv.If b) u ≡ branch store h b u
  unfolding stmt block branch other acts
  acts_if b u = ap (λ d. act store h (map-Stmt Else Stmt Block Branch (Doing E) (Doing E) (Doing E) (Doing E) (other store h) (stmt store h) (block store h) (branch store h) d) u) (sv.outs-If b)

  -- what this form does, by its parts
  pub stmt_for : (name : Name) (from : Expr) (to : Expr) (body : Block) (u : Run E) → stmt store h (sv.For name from to body) u ≡ spend u (λ v. given store h from v (λ a w. given store h to w (λ b x. loop store h (suc x.left) (block store h body) name b a x)))
  unfolding stmt block branch other
  stmt_for name from to body u = ap (λ f. f u) (fold_out-Stmt (Doing E) (Doing E) (Doing E) (Doing E) (else_step store h) (stmt_step store h) (block_step store h) (branch_step store h) (sv.For name from to body) ∙ ap (λ d. stmt_step store h (map-Stmt Else Stmt Block Branch (Doing E) (Doing E) (Doing E) (Doing E) (other store h) (stmt store h) (block store h) (branch store h) d)) (sv.outs-For name from to body))

  -- what this statement does behind its unit, by its parts
  pub acts_for : (name : Name) (from : Expr) (to : Expr) (body : Block) (u : Run E) → acts store h (sv.For name from to body) u ≡ given store h from u (λ a w. given store h to w (λ b x. loop store h (suc x.left) (block store h body) name b a x))
  unfolding stmt block branch other acts
  acts_for name from to body u = ap (λ d. act store h (map-Stmt Else Stmt Block Branch (Doing E) (Doing E) (Doing E) (Doing E) (other store h) (stmt store h) (block store h) (branch store h) d) u) (sv.outs-For name from to body)

  -- what this form does, by its parts
  pub stmt_each : (name : Name) (body : Block) (u : Run E) → stmt store h (sv.Each name body) u ≡ spend u (turns store h (block store h body) name h.near)
  unfolding stmt block branch other
  stmt_each name body u = ap (λ f. f u) (fold_out-Stmt (Doing E) (Doing E) (Doing E) (Doing E) (else_step store h) (stmt_step store h) (block_step store h) (branch_step store h) (sv.Each name body) ∙ ap (λ d. stmt_step store h (map-Stmt Else Stmt Block Branch (Doing E) (Doing E) (Doing E) (Doing E) (other store h) (stmt store h) (block store h) (branch store h) d)) (sv.outs-Each name body))

  -- what this statement does behind its unit, by its parts
  pub acts_each : (name : Name) (body : Block) (u : Run E) → acts store h (sv.Each name body) u ≡ turns store h (block store h body) name h.near u
  unfolding stmt block branch other acts
  acts_each name body u = ap (λ d. act store h (map-Stmt Else Stmt Block Branch (Doing E) (Doing E) (Doing E) (Doing E) (other store h) (stmt store h) (block store h) (branch store h) d) u) (sv.outs-Each name body)

  -- what this form does, by its parts
  pub stmt_send : (to : Target) (list : Values) (u : Run E) → stmt store h (sv.Send to list) u ≡ spend u (send_to store h to list.members)
  unfolding stmt block branch other
  stmt_send to list u = ap (λ f. f u) (fold_out-Stmt (Doing E) (Doing E) (Doing E) (Doing E) (else_step store h) (stmt_step store h) (block_step store h) (branch_step store h) (sv.Send to list) ∙ ap (λ d. stmt_step store h (map-Stmt Else Stmt Block Branch (Doing E) (Doing E) (Doing E) (Doing E) (other store h) (stmt store h) (block store h) (branch store h) d)) (sv.outs-Send to list))

  -- what this statement does behind its unit, by its parts
  pub acts_send : (to : Target) (list : Values) (u : Run E) → acts store h (sv.Send to list) u ≡ send_to store h to list.members u
  unfolding stmt block branch other acts
  acts_send to list u = ap (λ d. act store h (map-Stmt Else Stmt Block Branch (Doing E) (Doing E) (Doing E) (Doing E) (other store h) (stmt store h) (block store h) (branch store h) d) u) (sv.outs-Send to list)

  -- what this form does, by its parts
  pub stmt_out : (list : Values) (u : Run E) → stmt store h (sv.Out list) u ≡ spend u (λ v. list_given store h list.members v (λ numbers w. with_effect w (Out numbers)))
  unfolding stmt block branch other
  stmt_out list u = ap (λ f. f u) (fold_out-Stmt (Doing E) (Doing E) (Doing E) (Doing E) (else_step store h) (stmt_step store h) (block_step store h) (branch_step store h) (sv.Out list) ∙ ap (λ d. stmt_step store h (map-Stmt Else Stmt Block Branch (Doing E) (Doing E) (Doing E) (Doing E) (other store h) (stmt store h) (block store h) (branch store h) d)) (sv.outs-Out list))

  -- what this statement does behind its unit, by its parts
  pub acts_out : (list : Values) (u : Run E) → acts store h (sv.Out list) u ≡ list_given store h list.members u (λ numbers w. with_effect w (Out numbers))
  unfolding stmt block branch other acts
  acts_out list u = ap (λ d. act store h (map-Stmt Else Stmt Block Branch (Doing E) (Doing E) (Doing E) (Doing E) (other store h) (stmt store h) (block store h) (branch store h) d) u) (sv.outs-Out list)
