-- Assignments, new names and names that are gone: by place as by name.
use Rattle.std.proofs.Common.{◌≡◌, ℕ, suc, ◌+◌, ◌-◌, ◌<◌, ◌≤◌, nat_lt, ℤ, pos, negsuc, Bool, true, false, if◌then◌else◌, [], ◌∷◌, ◌++◌, length, take, drop, set, Option, Some, None, is_none, option_map, refl, ap, sym, ◌∙◌, subst, arith, eqb-true, ltb-true, ltb-false, lt-ltb}
use Rattle.std.proofs.lemmas.Bool.{and_parts}
use Rattle.std.proofs.lemmas.List.{drop-set, length-set, length-append}
use Rattle.std.proofs.Math.Seq.{drop-append_seam}
use Rattle.nys_tree.specs.declared.name.Name.{Name}
use Rattle.nys_tree.specs.Bindings.{Declared, Bindings, top, seen, is_scalar, is_list, is_free, is_free_by, is_new}
use Rattle.nys_meaning.specs.ByName.{put, by_name}
use Rattle.nys_places.specs.declared.cells.Cells.{Cells}
use Rattle.nys_places.specs.Cells.{write_at, set_at, set_item_at, pushed, bind_at}
use Rattle.nys_places.specs.Layout.{list_in, names_of, IsStacked, HasAll}
use Rattle.nys_places.proofs.Windows.{length-window, window_above, window_more}
use Rattle.nys_places.proofs.Layouts.{own_list, single_list, seen_within, Stands, not_false, scalar_stands, list_stands, numbers_of, scalar_count, with_numbers, same_below, write_is}

-- a write within a list, where the index is within it or not
put_by : (l : Bool) (s : Bindings) (p : Cells) (name : Name) (i : ℕ) (z : ℤ) (b : Bool) → IsStacked s → HasAll s p → (k : Stands l s name) → 0 < k.declared.len → nat_lt i k.declared.len ≡ b
    → put (names_of s p) name (pos i) z ≡ option_map (names_of s) (if nat_lt i name.len then write_at p (name.place + i) z else None)
put_by l s p name i z true st has k some lt =
    let e = numbers_of l s p name k in
    let w = seen_within name.text s k.declared st k.found in
    let size : length (list_in p k.declared) ≡ k.declared.len = ap length (own_list p k.declared some) ∙ length-window k.declared.len k.declared.place p.numbers (omega (arith, w.place, has.places)) in
    let within = ltb-true i k.declared.len lt in
    let there : nat_lt (name.place + i) (length p.numbers) ≡ true = lt-ltb (name.place + i) (length p.numbers) (omega (arith, within, w.place, has.places, k.place)) in
    rw e (rw size (rw k.len (rw lt (rw there
    (ap Some (write_is name.text s k.declared p i z st within k.found ∙ ap (λ m. names_of s (with_numbers p (set p.numbers (m + i) z))) (sym k.place)))))))
put_by l s p name i z false st has k some lt =
    let e = numbers_of l s p name k in
    let w = seen_within name.text s k.declared st k.found in
    let size : length (list_in p k.declared) ≡ k.declared.len = ap length (own_list p k.declared some) ∙ length-window k.declared.len k.declared.place p.numbers (omega (arith, w.place, has.places)) in
    rw e (rw size (rw k.len (rw lt refl)))

-- a scalar is assigned alike
pub set_is : (s : Bindings) (p : Cells) (name : Name) (z : ℤ) → IsStacked s → HasAll s p → is_scalar s name ≡ true → by_name.set (names_of s p) name z ≡ option_map (names_of s) (set_at p name z)
set_is s p name z st has t =
    let k = scalar_stands s name t in
    let one = scalar_count s name st k in
    let lt : nat_lt 0 k.declared.len ≡ true = lt-ltb 0 k.declared.len (omega (arith, one)) in
    let n : nat_lt 0 name.len ≡ true = ap (λ c. nat_lt 0 c) k.len ∙ lt in
    let here : name.place + 0 ≡ name.place = omega arith in
    put_by false s p name 0 z true st has k (omega (arith, one)) lt ∙ rw n (rw here refl)

-- what may be assigned has numbers in its places
free_some : (l : Bool) (s : Bindings) (name : Name) → IsStacked s → is_free s name ≡ true → (k : Stands l s name) → 0 < k.declared.len
free_some l s name st free k =
    let w = seen_within name.text s k.declared st k.found in
    w.some (not_false k.declared.is_fixed (sym (ap is_free_by k.found) ∙ free))

-- an item is assigned alike
pub set_item_is : (s : Bindings) (p : Cells) (name : Name) (i z : ℤ) → IsStacked s → HasAll s p → is_list s name ≡ true → is_free s name ≡ true → by_name.set_item (names_of s p) name i z ≡ option_map (names_of s) (set_item_at p name i z)
set_item_is s p name (pos i) z st has t free = let k = list_stands s name t in put_by true s p name i z (nat_lt i k.declared.len) st has k (free_some true s name st free k) refl
set_item_is s p name (negsuc i) z st has t free = let e = numbers_of true s p name (list_stands s name t) in rw e refl

-- a write leaves all that is seen its place
write_has : (s : Bindings) (p q : Cells) (at : ℕ) (z : ℤ) → HasAll s p → write_at p at z ≡ Some q → HasAll s q
write_has s p q at z has e = write_has_by (nat_lt at (length p.numbers)) e where
  write_has_by : (b : Bool) → (if b then Some (with_numbers p (set p.numbers at z)) else None) ≡ Some q → HasAll s q
  write_has_by true f =
      let same : with_numbers p (set p.numbers at z) ≡ q = cc in
      let P : Cells → Type 0 = λ r. HasAll s r in
      let size = length-set p.numbers at z in
      subst P same (record { places = omega (arith, has.places, size) })
  write_has_by false f = let no : None ≡ Some q = f in cc

-- an assignment leaves all that is seen its place
pub set_has : (s : Bindings) (p q : Cells) (name : Name) (z : ℤ) → HasAll s p → set_at p name z ≡ Some q → HasAll s q
set_has s p q name z has e = write_has s p q name.place z has e

-- the same, by the answer of its test
item_has_by : (s : Bindings) (p q : Cells) (at : ℕ) (z : ℤ) (b : Bool) → HasAll s p → (if b then write_at p at z else None) ≡ Some q → HasAll s q
item_has_by s p q at z true has e = write_has s p q at z has e
item_has_by s p q at z false has e = let no : None ≡ Some q = e in cc

-- the same of an item
pub set_item_has : (s : Bindings) (p q : Cells) (name : Name) (i z : ℤ) → HasAll s p → set_item_at p name i z ≡ Some q → HasAll s q
set_item_has s p q name (pos i) z has e = item_has_by s p q (name.place + i) z (nat_lt i name.len) has e
set_item_has s p q name (negsuc i) z has e = let no : None ≡ Some q = e in cc

-- what a new name stands for: a scalar at its place
abbrev pub new_of : Bool → Name → Declared
new_of fixed name = record { text = name.text; place = name.place; len = name.len; is_list = false; is_fixed = fixed }

-- a test for nothing finds nothing
none_by : (o : Option Declared) → is_none o ≡ true → o ≡ None
none_by None t = refl
none_by (Some d) t = let no : false ≡ true = t in cc

-- what is known of a new name
pub record IsNew (s : Bindings) (name : Name) (count : ℕ) : Type 0 where
  pub other : seen name.text s ≡ None
  pub place : name.place ≡ top s
  pub len : name.len ≡ count

-- what a name that is declared knows
pub new_is : (len : ℕ) (s : Bindings) (name : Name) → is_new len s name ≡ true → IsNew s name len
new_is len s name t =
    let parts = and_parts _ _ t in let two = and_parts _ _ parts.1 in
    record { other = none_by _ parts.0; place = eqb-true _ _ two.0; len = eqb-true _ _ two.1 }

-- a new name is stacked on those that are seen
pub new_stacked : (s : Bindings) (name : Name) (fixed : Bool) → IsStacked s → is_new 1 s name ≡ true → IsStacked (new_of fixed name ∷ s)
new_stacked s name fixed st t = let k = new_is 1 s name t in (record { place = k.place; other = k.other; single = λ _. k.len; some = λ _. omega (arith, k.len) }, st)

-- a new name, at a place that is there or at the next one
bind_by : (s : Bindings) (p : Cells) (name : Name) (z : ℤ) (fixed b : Bool) → IsStacked s → HasAll s p → IsNew s name 1 → nat_lt name.place (length p.numbers) ≡ b
    → names_of (new_of fixed name ∷ s) (if b then with_numbers p (set p.numbers name.place z) else pushed p z) ≡ (name.text, z ∷ []) ∷ names_of s p
bind_by s p name z fixed true st has k lt =
    let xs = set p.numbers name.place z in
    let head : list_in (with_numbers p xs) (new_of fixed name) ≡ z ∷ [] =
    single_list (with_numbers p xs) (new_of fixed name) k.len ∙ ap (take 1) (drop-set p.numbers name.place z (ltb-true _ _ lt)) in
    let tail = same_below s p xs name.place st (omega (arith, k.place)) (λ c n le. window_above c n p.numbers name.place z le) in
    ap (λ h. (name.text, h) ∷ names_of s (with_numbers p xs)) head ∙ ap (λ m. (name.text, z ∷ []) ∷ m) tail
bind_by s p name z fixed false st has k ge =
    let xs = p.numbers ++ z ∷ [] in
    let over = ltb-false name.place (length p.numbers) ge in
    let at : name.place ≡ length p.numbers = omega (arith, over, has.places, k.place) in
    let head : list_in (with_numbers p xs) (new_of fixed name) ≡ z ∷ [] =
    single_list (with_numbers p xs) (new_of fixed name) k.len ∙ (ap (λ n. take 1 (drop n xs)) at ∙ ap (take 1) (drop-append_seam p.numbers (z ∷ []))) in
    let tail = same_below s p xs name.place st (omega (arith, k.place)) (λ c n le. window_more c n p.numbers (z ∷ []) (omega (arith, le, at))) in
    ap (λ h. (name.text, h) ∷ names_of s (with_numbers p xs)) head ∙ ap (λ m. (name.text, z ∷ []) ∷ m) tail

-- a new name is bound alike
pub bind_is : (s : Bindings) (p : Cells) (name : Name) (z : ℤ) (fixed : Bool) → IsStacked s → HasAll s p → is_new 1 s name ≡ true
    → by_name.bind (names_of s p) name z ≡ names_of (new_of fixed name ∷ s) (bind_at p name z)
bind_is s p name z fixed st has t = sym (bind_by s p name z fixed (nat_lt name.place (length p.numbers)) st has (new_is 1 s name t) refl)

-- a new name has its place, there or next
has_by : (s : Bindings) (p : Cells) (name : Name) (z : ℤ) (fixed b : Bool) → HasAll s p → IsNew s name 1 → nat_lt name.place (length p.numbers) ≡ b
    → HasAll (new_of fixed name ∷ s) (if b then with_numbers p (set p.numbers name.place z) else pushed p z)
has_by s p name z fixed true has k lt =
    let one = k.len in let within = ltb-true _ _ lt in let size = length-set p.numbers name.place z in
    record { places = omega (arith, one, within, size) }
has_by s p name z fixed false has k ge =
    let one = k.len in let size = length-append p.numbers (z ∷ []) in
    record { places = omega (arith, one, size, has.places, k.place) }

-- a new name has its place
pub bind_has : (s : Bindings) (p : Cells) (name : Name) (z : ℤ) (fixed : Bool) → HasAll s p → is_new 1 s name ≡ true → HasAll (new_of fixed name ∷ s) (bind_at p name z)
bind_has s p name z fixed has t = has_by s p name z fixed (nat_lt name.place (length p.numbers)) has (new_is 1 s name t) refl

-- the map has a name for each that is seen
length-names : (s : Bindings) (p : Cells) → length (names_of s p) ≡ length s
length-names [] p = refl
length-names (d ∷ ds) p = ap suc (length-names ds p)

-- without the newest names the map is that of the others
drop-names : (ds s : Bindings) (p : Cells) → drop (length ds) (names_of (ds ++ s) p) ≡ names_of s p
drop-names [] s p = refl
drop-names (d ∷ ds) s p = drop-names ds s p

-- behind a block the names that it declared are gone
pub leave_is : (ds s : Bindings) (before p : Cells) → by_name.leave (names_of s before) (names_of (ds ++ s) p) ≡ names_of s p
leave_is ds s before p =
    let a = length-names s before in let b = length-names (ds ++ s) p in let c = length-append ds s in
    let n : length (names_of (ds ++ s) p) - length (names_of s before) ≡ length ds = omega (arith, a, b, c) in
    rw n (drop-names ds s p)

-- what is seen reaches no lower with more names
top_grows : (ds s : Bindings) → IsStacked (ds ++ s) → top s ≤ top (ds ++ s)
top_grows [] s st = omega arith
top_grows (d ∷ ds) s st = let inner = top_grows ds s st.1 in let at = st.0.place in omega (arith, inner, at)

-- what was seen before a block still has its place behind it
pub leave_has : (ds s : Bindings) (p : Cells) → IsStacked (ds ++ s) → HasAll (ds ++ s) p → HasAll s p
leave_has ds s p st has = let le = top_grows ds s st in record { places = omega (arith, le, has.places) }
