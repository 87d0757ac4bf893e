-- A list that is placed one by one onto what was found before.
use Rattle.std.proofs.Common.{◌≡◌, ℕ, suc, ◌+◌, ◌<◌, List, [], ◌∷◌, ◌++◌, length, get_or, drop, map, refl, ap, sym, ◌∙◌, append_assoc, add-one, drop-cons, Option, Ok, Err}
use Rattle.nys_tree.specs.declared.expr.Expr.{Expr}
use Rattle.nys_tree.specs.declared.stmt.Stmt.{Stmt}
use Rattle.nys_tree.specs.declared.machine.Var.{Var}
use Rattle.nys_tree.specs.Bindings.{Declared, Bindings}
use Rattle.nys_tree.specs.Named.{var_of}
use Rattle.nys_names.specs.Names.{Outcome, Placed, go_on}
use Rattle.nys_names.specs.Exprs.{all_placed, expr}
use Rattle.nys_names.specs.Stmts.{exprs, stmts_placed, stmt, behind, var, vars, numbers}

-- parts one after the other, behind those that were placed
abbrev pub all_onto : {A : Type 0} → (A → Placed A) → List A → List A → Placed (List A)
all_onto placed found [] s = Ok found
all_onto placed found (x ∷ xs) s = go_on (placed x s) (λ y. all_onto placed (found ++ y ∷ []) xs s)

-- what was found stands before the rest
abbrev before : {A : Type 0} → List A → Outcome (List A) → Outcome (List A)
before found o = go_on o (λ ys. Ok (found ++ ys))

-- one part more was found, or is placed before the rest: it is the same
before_step : {A : Type 0} (found : List A) (o : Outcome A) (rest : Outcome (List A)) → go_on o (λ y. before (found ++ y ∷ []) rest) ≡ before found (go_on o (λ y. go_on rest (λ ys. Ok (y ∷ ys))))
before_step found (Err fault) rest = refl
before_step found (Ok y) (Err fault) = refl
before_step found (Ok y) (Ok ys) = ap Ok (append_assoc found (y ∷ []) ys)

-- two ways to go on that are the same for each part
go_same : {A B : Type 0} (o : Outcome A) (f g : A → Outcome B) → ((a : A) → f a ≡ g a) → go_on o f ≡ go_on o g
go_same (Ok a) f g same = same a
go_same (Err fault) f g same = refl

-- nothing behind a list changes it
append_nil : {A : Type 0} (xs : List A) → xs ++ [] ≡ xs
append_nil [] = refl
append_nil (x ∷ xs) = ap (λ ys. x ∷ ys) (append_nil xs)

-- nothing stands before the rest
before_none : {A : Type 0} (o : Outcome (List A)) → before [] o ≡ o
before_none (Ok xs) = refl
before_none (Err fault) = refl

-- placing parts behind those that were found is placing them, and putting what was found before
onto_is : {A : Type 0} (placed : A → Placed A) (found xs : List A) (s : Bindings) → all_onto placed found xs s ≡ before found (all_placed (map placed xs) s)
onto_is placed found [] s = ap Ok (sym (append_nil found))
onto_is placed found (x ∷ xs) s =
    go_same (placed x s) _ _ (λ y. onto_is placed (found ++ y ∷ []) xs s) ∙ before_step found (placed x s) (all_placed (map placed xs) s)

-- behind nothing, parts are placed as they are
pub all_onto_none : {A : Type 0} (placed : A → Placed A) (xs : List A) (s : Bindings) → all_onto placed [] xs s ≡ all_placed (map placed xs) s
all_onto_none placed xs s = onto_is placed [] xs s ∙ before_none (all_placed (map placed xs) s)

-- the members of a list are its parts
pub exprs_onto : (xs : List Expr) (s : Bindings) → all_onto expr [] xs s ≡ exprs xs s
exprs_onto xs s = all_onto_none expr xs s ∙ exprs_is xs s
  where
    -- placing the members one by one is placing the parts
    exprs_is : (xs : List Expr) (s : Bindings) → all_placed (map expr xs) s ≡ exprs xs s
    exprs_is [] s = refl
    exprs_is (x ∷ xs) s = ap (λ o. go_on (expr x s) (λ y. go_on o (λ ys. Ok (y ∷ ys)))) (exprs_is xs s)

-- statements one after the other, behind those that were placed
abbrev pub stmts_onto : List Stmt → List Stmt → Placed (List Stmt)
stmts_onto found [] s = Ok found
stmts_onto found (x ∷ xs) s = go_on (stmt x s) (λ p. stmts_onto (found ++ p.0 ∷ []) xs (behind p.1 s))

-- one statement more was found, or is placed before the rest: it is the same
stmts_step : (found : List Stmt) (o : Outcome (Stmt × Option Declared)) (s : Bindings) (xs : List Stmt)
    → go_on o (λ p. before (found ++ p.0 ∷ []) (stmts_placed (map stmt xs) (behind p.1 s))) ≡ before found (go_on o (λ p. go_on (stmts_placed (map stmt xs) (behind p.1 s)) (λ ys. Ok (p.0 ∷ ys))))
stmts_step found (Err fault) s xs = refl
stmts_step found (Ok p) s xs = one_step found p.0 (stmts_placed (map stmt xs) (behind p.1 s))
  where
    -- one statement more, by what the rest becomes
    one_step : (found : List Stmt) (y : Stmt) (rest : Outcome (List Stmt)) → before (found ++ y ∷ []) rest ≡ before found (go_on rest (λ ys. Ok (y ∷ ys)))
    one_step found y (Err fault) = refl
    one_step found y (Ok ys) = ap Ok (append_assoc found (y ∷ []) ys)

-- placing statements behind those that were found is placing them, and putting what was found before
stmts_onto_is : (found xs : List Stmt) (s : Bindings) → stmts_onto found xs s ≡ before found (stmts_placed (map stmt xs) s)
stmts_onto_is found [] s = ap Ok (sym (append_nil found))
stmts_onto_is found (x ∷ xs) s =
    go_same (stmt x s) _ _ (λ p. stmts_onto_is (found ++ p.0 ∷ []) xs (behind p.1 s)) ∙ stmts_step found (stmt x s) s xs

-- behind nothing, statements are placed as they are
pub stmts_onto_none : (xs : List Stmt) (s : Bindings) → stmts_onto [] xs s ≡ stmts_placed (map stmt xs) s
stmts_onto_none xs s = stmts_onto_is [] xs s ∙ before_none (stmts_placed (map stmt xs) s)

-- variables one after the other, behind those that were placed
abbrev pub vars_onto : List Var → List Var → Placed (List Var × Bindings)
vars_onto found [] s = Ok (found, s)
vars_onto found (v ∷ vs) s = go_on (var v s) (λ u. vars_onto (found ++ u ∷ []) vs (var_of u (numbers u) ∷ s))

-- what was found stands before the rest of the variables
abbrev vars_before : List Var → Outcome (List Var × Bindings) → Outcome (List Var × Bindings)
vars_before found o = go_on o (λ r. Ok (found ++ r.0, r.1))

-- one variable more was found, or stands before the rest: it is the same
vars_step : (found : List Var) (u : Var) (o : Outcome (List Var × Bindings)) → vars_before (found ++ u ∷ []) o ≡ vars_before found (go_on o (λ r. Ok (u ∷ r.0, r.1)))
vars_step found u (Err fault) = refl
vars_step found u (Ok r) = ap (λ xs. Ok (xs, r.1)) (append_assoc found (u ∷ []) r.0)

-- the same by what the variable becomes, a fault too
vars_one : (found : List Var) (o : Outcome Var) (rest : Var → Outcome (List Var × Bindings))
    → go_on o (λ u. vars_before (found ++ u ∷ []) (rest u)) ≡ vars_before found (go_on o (λ u. go_on (rest u) (λ r. Ok (u ∷ r.0, r.1))))
vars_one found (Err fault) rest = refl
vars_one found (Ok u) rest = vars_step found u (rest u)

-- placing variables behind those that were found is placing them, and putting what was found before
vars_onto_is : (found vs : List Var) (s : Bindings) → vars_onto found vs s ≡ vars_before found (vars vs s)
vars_onto_is found [] s = ap (λ xs. Ok (xs, s)) (sym (append_nil found))
vars_onto_is found (v ∷ vs) s =
    go_same (var v s) _ _ (λ u. vars_onto_is (found ++ u ∷ []) vs (var_of u (numbers u) ∷ s))
    ∙ vars_one found (var v s) (λ u. vars vs (var_of u (numbers u) ∷ s))

-- nothing stands before the variables
vars_before_none : (o : Outcome (List Var × Bindings)) → vars_before [] o ≡ o
vars_before_none (Ok r) = refl
vars_before_none (Err fault) = refl

-- behind nothing, variables are placed as they are
pub vars_onto_none : (vs : List Var) (s : Bindings) → vars_onto [] vs s ≡ vars vs s
vars_onto_none vs s = vars_onto_is [] vs s ∙ vars_before_none (vars vs s)

-- one statement more, at its place in the list
pub onto_more : (found xs : List Stmt) (i : ℕ) (x : Stmt) (p : Stmt × Option Declared) (s : Bindings) → i < length xs → x ≡ get_or xs i x → stmt x s ≡ Ok p
    → stmts_onto found (drop i xs) s ≡ stmts_onto (found ++ p.0 ∷ []) (drop (i + 1) xs) (behind p.1 s)
onto_more found xs i x p s below is e =
    let front : drop i xs ≡ x ∷ drop (i + 1) xs = rw add-one (drop-cons xs i x below ∙ ap (λ z. z ∷ drop (suc i) xs) (sym is)) in
    ap (λ ys. stmts_onto found ys s) front ∙ ap (λ o. go_on o (λ q. stmts_onto (found ++ q.0 ∷ []) (drop (i + 1) xs) (behind q.1 s))) e
