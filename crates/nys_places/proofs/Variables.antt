-- The variables of a machine that is named stand one behind another from place 0.
use Rattle.std.proofs.Common.{◌≡◌, ℕ, zero, suc, ◌+◌, ◌<◌, ◌≤◌, ℤ, pos, negsuc, true, false, List, [], ◌∷◌, ◌++◌, length, take, drop, replicate, Option, Some, None, is_some, refl, ap, sym, ◌∙◌, subst, arith, ltb-true, leb-true}
use Rattle.std.proofs.lemmas.Bool.{and_parts}
use Rattle.std.proofs.lemmas.List.{length-append, length-replicate, length-drop, drop-drop, take-append-le, drop-append-le}
use Rattle.nys_tree.specs.declared.machine.Var.{Var}
use Rattle.nys_tree.specs.Bindings.{Bindings, top}
use Rattle.nys_tree.specs.Named.{MAX_STATE, pass_on, size_of, var_of, var_named_by, vars_named}
use Rattle.nys_meaning.specs.ByName.{Names}
use Rattle.nys_meaning.specs.Machines.{count_by, count_of, starts, names_from, numbers_in}
use Rattle.nys_places.specs.declared.cells.Cells.{Cells}
use Rattle.nys_places.specs.Layout.{list_in, names_of, IsStacked}
use Rattle.nys_places.proofs.Layouts.{own_list}
use Rattle.nys_places.proofs.Writes.{IsNew, new_is}
use Rattle.nys_places.proofs.StmtsAlike.{more_from}

-- each name has numbers of its own, and is no payload
abbrev pub IsPlain : Bindings → Type 0
IsPlain [] = Unit {0}
IsPlain (d ∷ ds) = (0 < d.len) × IsPlain ds

-- the size of a variable is its count
size_count : (o : Option ℤ) (n : ℕ) → size_of o ≡ Some n → count_by o ≡ n
size_count None n e = cc
size_count (Some (pos k)) n e = cc
size_count (Some (negsuc k)) n e = let no : None ≡ Some n = e in cc

-- a variable that is no list has one number
size_single : (o : Option ℤ) (n : ℕ) → size_of o ≡ Some n → is_some o ≡ false → n ≡ 1
size_single None n e f = cc
size_single (Some z) n e f = let no : true ≡ false = f in cc

-- what is known of a variable that is named
record IsVar (v : Var) (s u : Bindings) : Type 0 where
  pub n : ℕ
  pub count : count_of v ≡ n
  pub is : u ≡ var_of v n ∷ s
  pub new : IsNew s v.name n
  pub some : 0 < n
  pub few : top s + n ≤ MAX_STATE
  pub single : is_some v.size ≡ false → n ≡ 1

-- a variable that is named, by its size
var_by : (v : Var) (s u : Bindings) (o : Option ℕ) → size_of v.size ≡ o → var_named_by o v s ≡ Some u → IsVar v s u
var_by v s u None e k = let no : None ≡ Some u = k in cc
var_by v s u (Some n) e k =
    let from = more_from _ (var_of v n) s u k in
    let parts = and_parts _ _ from.0 in let two = and_parts _ _ parts.1 in
    record { n = n; count = size_count v.size n e; is = from.1; new = new_is n s v.name parts.0; some = ltb-true _ _ two.0; few = leb-true _ _ two.1; single = size_single v.size n e }

-- what is seen behind the variables
pub record Declares (vs : List Var) (s t : Bindings) : Type 0 where
  pub stacked : IsStacked t
  pub plain : IsPlain t
  pub few : top t ≤ MAX_STATE
  pub count : top t ≡ top s + length (starts vs)
  pub names : (p : Cells) → names_of t p ≡ names_from vs (drop (top s) p.numbers) (names_of s p)

-- no variables leave what is seen
declares_none : (s t : Bindings) → IsStacked s → IsPlain s → top s ≤ MAX_STATE → s ≡ t → Declares [] s t
declares_none s t st pl few e =
    let P : Bindings → Type 0 = λ x. Declares [] s x in
    subst P e (record { stacked = st; plain = pl; few = few; count = omega arith; names = λ p. refl })

-- one variable more
declares_more : (v : Var) (vs : List Var) (s t : Bindings) → (k : IsVar v s (var_of v (count_of v) ∷ s)) → Declares vs (var_of v (count_of v) ∷ s) t → Declares (v ∷ vs) s t
declares_more v vs s t k inner =
    let n = count_of v in
    let some : 0 < n = omega (arith, k.some, k.count) in
    let above : top (var_of v n ∷ s) ≡ top s + n = omega (arith, k.new.place) in
    let size = length-append (replicate n v.start) (starts vs) in let own = length-replicate n v.start in
    record {
      stacked = inner.stacked;
      plain = inner.plain;
      few = inner.few;
      count = omega (arith, inner.count, above, size, own);
      names = λ p.
          let list : list_in p (var_of v n) ≡ take n (drop (top s) p.numbers) = own_list p (var_of v n) some ∙ ap (λ k. take n (drop k p.numbers)) k.new.place in
          inner.names p ∙ (ap (λ x. names_from vs (drop x p.numbers) (names_of (var_of v n ∷ s) p)) above
          ∙ (ap (λ l. names_from vs (drop (top s + n) p.numbers) ((v.name.text, l) ∷ names_of s p)) list
          ∙ ap (λ x. names_from vs x ((v.name.text, take n (drop (top s) p.numbers)) ∷ names_of s p)) (sym (drop-drop n (top s) p.numbers))));
    }

-- a variable stands on those before it
var_stacked : (v : Var) (s : Bindings) → IsStacked s → (k : IsVar v s (var_of v (count_of v) ∷ s)) → IsStacked (var_of v (count_of v) ∷ s)
var_stacked v s st k = (record { place = k.new.place; other = k.new.other; single = λ f. k.count ∙ k.single f; some = λ _. omega (arith, k.some, k.count) }, st)

-- one variable after another, by what the first declares
declares_by : (v : Var) (vs : List Var) (s t : Bindings) (o : Option Bindings) → var_named_by (size_of v.size) v s ≡ o → IsStacked s → IsPlain s
    → ((u : Bindings) → IsStacked u → IsPlain u → top u ≤ MAX_STATE → vars_named vs u ≡ Some t → Declares vs u t) → pass_on o (vars_named vs) ≡ Some t → Declares (v ∷ vs) s t
declares_by v vs s t None e st pl later k = let no : None ≡ Some t = k in cc
declares_by v vs s t (Some u) e st pl later k =
    let one = var_by v s u (size_of v.size) refl e in
    let same : u ≡ var_of v (count_of v) ∷ s = one.is ∙ ap (λ n. var_of v n ∷ s) (sym one.count) in
    let P : Bindings → Type 0 = λ x. IsVar v s x in
    let this : IsVar v s (var_of v (count_of v) ∷ s) = subst P same one in
    let Q : Bindings → Type 0 = λ x. vars_named vs x ≡ Some t in
    let some : 0 < count_of v = omega (arith, one.some, one.count) in
    declares_more v vs s t this (later (var_of v (count_of v) ∷ s) (var_stacked v s st this) (some, pl) (omega (arith, this.new.place, one.few, one.count)) (subst Q same k))

-- the variables that are named stand as they are declared
pub declares : (vs : List Var) (s t : Bindings) → IsStacked s → IsPlain s → top s ≤ MAX_STATE → vars_named vs s ≡ Some t → Declares vs s t
declares [] s t st pl few e = declares_none s t st pl few cc
declares (v ∷ vs) s t st pl few e = declares_by v vs s t (var_named_by (size_of v.size) v s) refl st pl (λ u a b c d. declares vs u t a b c d) e

-- numbers behind those of the variables are not theirs
pub names_from_more : (vs : List Var) (state rest : List ℤ) (m : Names) → length (starts vs) ≤ length state → names_from vs (state ++ rest) m ≡ names_from vs state m
names_from_more [] state rest m le = refl
names_from_more (v ∷ vs) state rest m le =
    let n = count_of v in
    let size = length-append (replicate n v.start) (starts vs) in let own = length-replicate n v.start in let left = length-drop n state in
    let fits : n ≤ length state = omega (arith, size, own, le) in
    ap (λ x. names_from vs x ((v.name.text, take n (state ++ rest)) ∷ m)) (drop-append-le n state rest fits)
    ∙ (ap (λ l. names_from vs (drop n state ++ rest) ((v.name.text, l) ∷ m)) (take-append-le n state rest fits)
    ∙ names_from_more vs (drop n state) rest ((v.name.text, take n state) ∷ m) (omega (arith, size, own, left, le)))

-- nothing is left of nothing
take_none : (n : ℕ) → take {A = ℤ} n [] ≡ []
take_none zero = refl
take_none (suc n) = refl

-- two cuts one behind the other are one
take_more : (a b : ℕ) (xs : List ℤ) → take a xs ++ take b (drop a xs) ≡ take (a + b) xs
take_more zero b xs = let e : 0 + b ≡ b = omega arith in rw e refl
take_more (suc a) b [] = take_none b ∙ sym (take_none (suc a + b))
take_more (suc a) b (x ∷ xs) = let e : suc a + b ≡ suc (a + b) = omega arith in rw e (ap (λ l. x ∷ l) (take_more a b xs))

-- the numbers of plain names are those of their places
pub numbers_are : (s : Bindings) (p : Cells) → IsStacked s → IsPlain s → numbers_in (names_of s p) ≡ take (top s) p.numbers
numbers_are [] p st pl = refl
numbers_are (d ∷ ds) p st pl =
    let at : d.place ≡ top ds = st.0.place in
    ap (λ l. l ++ list_in p d) (numbers_are ds p st.1 pl.1)
    ∙ (ap (λ l. take (top ds) p.numbers ++ l) (own_list p d pl.0)
    ∙ (ap (λ x. take (top ds) p.numbers ++ take d.len (drop x p.numbers)) at
    ∙ (take_more (top ds) d.len p.numbers ∙ ap (λ x. take (x + d.len) p.numbers) (sym at))))
