-- What was placed by the rules is named.
use Rattle.std.proofs.Common.{◌≡◌, ℕ, Bool, true, false, not, ◌&&◌, ◌==◌, Option, Some, None, Ok, Err, refl, ap, subst}
use Rattle.std.specs.Prelude.{is_none, if◌then◌else◌}
use Rattle.std.proofs.lemmas.Bool.{eq-eqb}
use Rattle.nys_lex.specs.declared.fault.MachineKind.TheVariants as kind
use Rattle.nys_tree.specs.declared.name.Name.{Name}
use Rattle.nys_tree.specs.Bindings.{Declared, Bindings, top, seen, is_scalar_by, is_scalar, is_list_by, is_list, is_free_by, is_free, is_new, stands_for}
use Rattle.nys_names.specs.Names.{Outcome, go_on, fault_at, name_at, stands, scalar_by, scalar, list_by, list, assigned, set_scalar, set_list, new_by, new_name}

-- where two parts were placed, the first was
pub go_on_ok : {A B : Type 0} (o : Outcome A) (f : A → Outcome B) (b : B) → go_on o f ≡ Ok b → (a : A) × (o ≡ Ok a) × (f a ≡ Ok b)
go_on_ok (Ok a) f b e = (a, refl, e)
go_on_ok (Err fault) f b e = cc

-- what was placed is one thing
pub ok_is : {A : Type 0} (a b : A) (o : Outcome A) → o ≡ Ok a → o ≡ Ok b → a ≡ b
ok_is a b o e f = cc

-- both tests hold
pub both_true : (a b : Bool) → a ≡ true → b ≡ true → (a && b) ≡ true
both_true true b e f = f
both_true false b e f = e

-- a number equals itself
same : (n : ℕ) → n == n ≡ true
same n = eq-eqb n n refl

-- a name that stands for something has its place
stands_is : (name : Name) (d : Declared) → stands_for (stands name d) d ≡ true
stands_is name d = both_true _ _ (same d.place) (same d.len)

-- what is seen and is no list is a scalar, under the same bytes
scalar_some : (name : Name) (d : Declared) (v : Bool) (n : Name) → d.is_list ≡ v → (if v then Err (fault_at kind.List name) else Ok (stands name d)) ≡ Ok n
    → (name.text ≡ n.text) × (is_scalar_by n (Some d) ≡ true)
scalar_some name d true n is e = cc
scalar_some name d false n is e =
    let P : Name → Type 0 = λ m. (name.text ≡ m.text) × (is_scalar_by m (Some d) ≡ true) in
    subst P (ok_is (stands name d) n (Ok (stands name d)) refl e) (refl, both_true _ _ (ap not is) (stands_is name d))

-- a use of a scalar keeps its bytes, and what is seen under them is a scalar
scalar_by_ok : (name : Name) (o : Option Declared) (n : Name) → scalar_by name o ≡ Ok n → (name.text ≡ n.text) × (is_scalar_by n o ≡ true)
scalar_by_ok name None n e = cc
scalar_by_ok name (Some d) n e = scalar_some name d d.is_list n refl e

-- a use of a scalar is one
pub scalar_ok : (name : Name) (s : Bindings) (n : Name) → scalar name s ≡ Ok n → is_scalar s n ≡ true
unfolding scalar
scalar_ok name s n e = let r = scalar_by_ok name (seen name.text s) n e in subst (λ t. is_scalar_by n (seen t s) ≡ true) r.0 r.1

-- what is seen and is a list is one, under the same bytes
list_some : (name : Name) (d : Declared) (v : Bool) (n : Name) → d.is_list ≡ v → (if v then Ok (stands name d) else Err (fault_at kind.Scalar name)) ≡ Ok n
    → (name.text ≡ n.text) × (is_list_by n (Some d) ≡ true)
list_some name d false n is e = cc
list_some name d true n is e =
    let P : Name → Type 0 = λ m. (name.text ≡ m.text) × (is_list_by m (Some d) ≡ true) in
    subst P (ok_is (stands name d) n (Ok (stands name d)) refl e) (refl, both_true _ _ is (stands_is name d))

-- a use of a list keeps its bytes, and what is seen under them is a list
list_by_ok : (name : Name) (o : Option Declared) (n : Name) → list_by name o ≡ Ok n → (name.text ≡ n.text) × (is_list_by n o ≡ true)
list_by_ok name None n e = cc
list_by_ok name (Some d) n e = list_some name d d.is_list n refl e

-- a use of a list is one
pub list_ok : (name : Name) (s : Bindings) (n : Name) → list name s ≡ Ok n → is_list s n ≡ true
unfolding list
list_ok name s n e = let r = list_by_ok name (seen name.text s) n e in subst (λ t. is_list_by n (seen t s) ≡ true) r.0 r.1

-- what is seen and isn't fixed may be assigned
assigned_some : (name : Name) (d : Declared) (use_of : Outcome Name) (v : Bool) (n : Name) → d.is_fixed ≡ v → (if v then Err (fault_at kind.Fixed name) else use_of) ≡ Ok n
    → (use_of ≡ Ok n) × (not d.is_fixed ≡ true)
assigned_some name d use_of true n is e = cc
assigned_some name d use_of false n is e = (e, ap not is)

-- what is assigned is seen, and may be
assigned_ok : (name : Name) (o : Option Declared) (use_of : Outcome Name) (n : Name) → assigned name o use_of ≡ Ok n → (use_of ≡ Ok n) × (is_free_by o ≡ true)
assigned_ok name None use_of n e = cc
assigned_ok name (Some d) use_of n e = assigned_some name d use_of d.is_fixed n refl e

-- an assignment to a scalar is to a scalar that is free
pub set_scalar_ok : (name : Name) (s : Bindings) (n : Name) → set_scalar name s ≡ Ok n → (is_scalar s n ≡ true) × (is_free s n ≡ true)
unfolding set_scalar
set_scalar_ok name s n e =
    let free = assigned_ok name (seen name.text s) (scalar_by name (seen name.text s)) n e in
    let r = scalar_by_ok name (seen name.text s) n free.0 in
    (subst (λ t. is_scalar_by n (seen t s) ≡ true) r.0 r.1, subst (λ t. is_free_by (seen t s) ≡ true) r.0 free.1)

-- an assignment to an item is to a list that is free
pub set_list_ok : (name : Name) (s : Bindings) (n : Name) → set_list name s ≡ Ok n → (is_list s n ≡ true) × (is_free s n ≡ true)
unfolding set_list
set_list_ok name s n e =
    let free = assigned_ok name (seen name.text s) (list_by name (seen name.text s)) n e in
    let r = list_by_ok name (seen name.text s) n free.0 in
    (subst (λ t. is_list_by n (seen t s) ≡ true) r.0 r.1, subst (λ t. is_free_by (seen t s) ≡ true) r.0 free.1)

-- a declared name is new, by what is seen under it
new_by_ok : (len : ℕ) (name : Name) (s : Bindings) (o : Option Declared) (n : Name) → seen name.text s ≡ o → new_by len name (top s) o ≡ Ok n → is_new len s n ≡ true
new_by_ok len name s (Some d) n is e = cc
new_by_ok len name s None n is e =
    subst (λ m. is_new len s m ≡ true) (ok_is (name_at name (top s) len) n (Ok (name_at name (top s) len)) refl e)
    (both_true _ _ (ap is_none is) (both_true _ _ (same (top s)) (same len)))

-- a declared name is new, and stands above all that are seen
pub new_ok : (len : ℕ) (name : Name) (s : Bindings) (n : Name) → new_name len name s ≡ Ok n → is_new len s n ≡ true
unfolding new_name
new_ok len name s n e = new_by_ok len name s (seen name.text s) n refl e
