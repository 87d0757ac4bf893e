-- What is read and written by place, as what is read and written by name.
use Rattle.std.proofs.Common.{◌≡◌, ℕ, zero, suc, ◌+◌, ◌<◌, ◌≤◌, ◌==◌, not, nat_lt, ℤ, pos, negsuc, Bool, true, false, if◌then◌else◌, List, [], ◌∷◌, length, take, drop, set, Option, Some, None, option_map, bytes_eq, refl, ap, sym, ◌∙◌, subst, arith, eqb-true, ltb-true, ltb-false}
use Rattle.std.specs.Prelude.{slice_get}
use Rattle.std.proofs.Math.Dec.{eqb-suc-zero}
use Rattle.std.proofs.lemmas.Bool.{and_parts}
use Rattle.nys_tree.specs.declared.name.Name.{Name}
use Rattle.nys_tree.specs.Bindings.{Declared, Bindings, top, seen, is_scalar, is_scalar_by, is_list, is_list_by}
use Rattle.nys_meaning.specs.ByName.{look, write, name_reads}
use Rattle.nys_places.specs.declared.cells.Cells.{Cells}
use Rattle.nys_places.specs.Cells.{number_at, scalar_at, item_at, place_reads}
use Rattle.nys_places.specs.Layout.{list_in, names_of, IsAbove, IsStacked, HasAll}
use Rattle.nys_places.proofs.Windows.{window_get, window_past, length-window, window_above, window_below, window_in}

-- numbers in places, where there are some
own_by : (n : ℕ) (xs ys : List ℤ) → 0 < n → (if n == 0 then xs else ys) ≡ ys
own_by zero xs ys some = absurd (omega arith)
own_by (suc n) xs ys some = ap (λ b. if b then xs else ys) (eqb-suc-zero n)

-- a name with numbers in its places has those
pub own_list : (p : Cells) (d : Declared) → 0 < d.len → list_in p d ≡ take d.len (drop d.place p.numbers)
own_list p d some = own_by d.len p.payload.now (take d.len (drop d.place p.numbers)) some

-- a name of one number has the one at its place
pub single_list : (p : Cells) (d : Declared) → d.len ≡ 1 → list_in p d ≡ take 1 (drop d.place p.numbers)
single_list p d one = own_list p d (omega (arith, one)) ∙ ap (λ n. take n (drop d.place p.numbers)) one

-- what is known of a name that is seen: it stands within what is seen, and has the numbers that its kind has
pub record IsWithin (d : Declared) (s : Bindings) : Type 0 where
  pub place : d.place + d.len ≤ top s
  pub single : d.is_list ≡ false → d.len ≡ 1
  pub some : d.is_fixed ≡ false → 0 < d.len

-- the same, by the answer of its test
within_by : (text : List ℕ) (x d : Declared) (ds : Bindings) (rest : Option Declared) (b : Bool) → IsAbove x ds → (rest ≡ Some d → IsWithin d ds) → (if b then Some x else rest) ≡ Some d → IsWithin d (x ∷ ds)
within_by text x d ds rest true above inner e =
    let same : x ≡ d = cc in
    let P : Declared → Type 0 = λ y. IsWithin y (x ∷ ds) in
    subst P same (record { place = omega arith; single = above.single; some = above.some })
within_by text x d ds rest false above inner e =
    let w = inner e in record { place = omega (arith, w.place, above.place); single = w.single; some = w.some }

-- a name that is seen stands within what is seen
pub seen_within : (text : List ℕ) (s : Bindings) (d : Declared) → IsStacked s → seen text s ≡ Some d → IsWithin d s
seen_within text [] d k e = let no : None ≡ Some d = e in cc
seen_within text (x ∷ ds) d k e = within_by text x d ds (seen text ds) (bytes_eq x.text text) k.0 (seen_within text ds d k.1) e

-- the same, by the answer of its test
look_by : (text : List ℕ) (x : Declared) (ds : Bindings) (p : Cells) (b : Bool) → look text (names_of ds p) ≡ option_map (list_in p) (seen text ds)
    → (if b then Some (list_in p x) else look text (names_of ds p)) ≡ option_map (list_in p) (if b then Some x else seen text ds)
look_by text x ds p true inner = refl
look_by text x ds p false inner = inner

-- a name's numbers in the map are those in its places
pub look_is : (text : List ℕ) (s : Bindings) (p : Cells) → look text (names_of s p) ≡ option_map (list_in p) (seen text s)
look_is text [] p = refl
look_is text (x ∷ ds) p = look_by text x ds p (bytes_eq x.text text) (look_is text ds p)

-- what a use of a name knows of the name
pub record Stands (list : Bool) (s : Bindings) (name : Name) : Type 0 where
  pub declared : Declared
  pub found : seen name.text s ≡ Some declared
  pub kind : declared.is_list ≡ list
  pub place : name.place ≡ declared.place
  pub len : name.len ≡ declared.len

-- what isn't, is false
pub not_false : (b : Bool) → not b ≡ true → b ≡ false
not_false true h = let no : false ≡ true = h in cc
not_false false h = refl

-- the same, by the answer of its test
scalar_by : (s : Bindings) (name : Name) (o : Option Declared) → seen name.text s ≡ o → is_scalar_by name o ≡ true → Stands false s name
scalar_by s name None e t = let no : false ≡ true = t in cc
scalar_by s name (Some d) e t =
    let parts = and_parts _ _ t in let two = and_parts _ _ parts.1 in
    record { declared = d; found = e; kind = not_false d.is_list parts.0; place = eqb-true _ _ two.0; len = eqb-true _ _ two.1 }

-- what a scalar in use knows of its name
pub scalar_stands : (s : Bindings) (name : Name) → is_scalar s name ≡ true → Stands false s name
scalar_stands s name t = scalar_by s name (seen name.text s) refl t

-- the same, by the answer of its test
list_by : (s : Bindings) (name : Name) (o : Option Declared) → seen name.text s ≡ o → is_list_by name o ≡ true → Stands true s name
list_by s name None e t = let no : false ≡ true = t in cc
list_by s name (Some d) e t =
    let parts = and_parts _ _ t in let two = and_parts _ _ parts.1 in
    record { declared = d; found = e; kind = parts.0; place = eqb-true _ _ two.0; len = eqb-true _ _ two.1 }

-- what a list in use knows of its name
pub list_stands : (s : Bindings) (name : Name) → is_list s name ≡ true → Stands true s name
list_stands s name t = list_by s name (seen name.text s) refl t

-- the numbers of a name in use
pub numbers_of : (l : Bool) (s : Bindings) (p : Cells) (name : Name) → (k : Stands l s name) → look name.text (names_of s p) ≡ Some (list_in p k.declared)
numbers_of l s p name k = look_is name.text s p ∙ ap (option_map (list_in p)) k.found

-- a scalar has one number
pub scalar_count : (s : Bindings) (name : Name) → IsStacked s → (k : Stands false s name) → k.declared.len ≡ 1
scalar_count s name st k = let w = seen_within name.text s k.declared st k.found in w.single k.kind

-- an item of a window, by whether the index is within it
window_by : (p : Cells) (place c i : ℕ) (b : Bool) → nat_lt i c ≡ b → (if b then number_at p (place + i) else None) ≡ slice_get (take c (drop place p.numbers)) i
window_by p place c i true lt = sym (window_get c place p.numbers i (ltb-true i c lt))
window_by p place c i false ge = sym (window_past c place p.numbers i (ltb-false i c ge))

-- an item of a name, by whether the name is a payload's
item_by : (p : Cells) (d : Declared) (i : ℕ) (b : Bool)
    → (if b then slice_get p.payload.now i else if nat_lt i d.len then number_at p (d.place + i) else None) ≡ slice_get (if b then p.payload.now else take d.len (drop d.place p.numbers)) i
item_by p d i true = refl
item_by p d i false = window_by p d.place d.len i (nat_lt i d.len) refl

-- an item is read alike
item_is : (l : Bool) (s : Bindings) (p : Cells) (name : Name) (z : ℤ) → Stands l s name → item_at p name z ≡ name_reads.item (names_of s p) name z
item_is l s p name (pos i) k =
    let e = numbers_of l s p name k in
    rw e (ap (λ n. if n == 0 then slice_get p.payload.now i else if nat_lt i n then number_at p (name.place + i) else None) k.len
    ∙ (ap (λ a. if k.declared.len == 0 then slice_get p.payload.now i else if nat_lt i k.declared.len then number_at p (a + i) else None) k.place
    ∙ item_by p k.declared i (k.declared.len == 0)))
item_is l s p name (negsuc i) k = let e = numbers_of l s p name k in rw e refl

-- a window of one number begins with it
first_of_window : (p : Cells) (place : ℕ) → slice_get (take 1 (drop place p.numbers)) 0 ≡ number_at p place
first_of_window p place =
    let here : place + 0 ≡ place = omega arith in
    window_get 1 place p.numbers 0 (omega arith) ∙ ap (number_at p) here

-- a scalar is read alike
pub scalar_is : (s : Bindings) (p : Cells) (name : Name) → IsStacked s → is_scalar s name ≡ true → scalar_at p name ≡ name_reads.scalar (names_of s p) name
scalar_is s p name st t =
    let k = scalar_stands s name t in
    let e = numbers_of false s p name k in
    let one = scalar_count s name st k in
    rw e (ap (number_at p) k.place ∙ sym (ap (λ xs. slice_get xs 0) (single_list p k.declared one) ∙ first_of_window p k.declared.place))

-- how many numbers a name has, by whether it is a payload's
count_by : (p : Cells) (d : Declared) (b : Bool) → d.place + d.len ≤ length p.numbers → (if b then length p.payload.now else d.len) ≡ length (if b then p.payload.now else take d.len (drop d.place p.numbers))
count_by p d true le = refl
count_by p d false le = sym (length-window d.len d.place p.numbers le)

-- a list's length is read alike
pub list_len_is : (s : Bindings) (p : Cells) (name : Name) → IsStacked s → HasAll s p → is_list s name ≡ true → place_reads.len p name ≡ name_reads.len (names_of s p) name
list_len_is s p name st has t =
    let k = list_stands s name t in
    let e = numbers_of true s p name k in
    let w = seen_within name.text s k.declared st k.found in
    rw e (ap (λ n. Some (pos n)) (ap (λ n. if n == 0 then length p.payload.now else n) k.len ∙ count_by p k.declared (k.declared.len == 0) (omega (arith, w.place, has.places))))

-- a list's item is read alike
pub list_item_is : (s : Bindings) (p : Cells) (name : Name) (z : ℤ) → is_list s name ≡ true → place_reads.item p name z ≡ name_reads.item (names_of s p) name z
list_item_is s p name z t = item_is true s p name z (list_stands s name t)

-- the places with other numbers
abbrev pub with_numbers : Cells → List ℤ → Cells
with_numbers p xs = record p { numbers = xs }

-- numbers that are the same below a place stand for the same names, if these stand below it
pub same_below : (s : Bindings) (p : Cells) (xs : List ℤ) (k : ℕ) → IsStacked s → top s ≤ k
    → ((c n : ℕ) → n + c ≤ k → take c (drop n xs) ≡ take c (drop n p.numbers)) → names_of s (with_numbers p xs) ≡ names_of s p
same_below [] p xs k st le same = refl
same_below (d ∷ ds) p xs k st le same =
    let a = st.0.place in
    let head = ap (λ (l : List ℤ). if d.len == 0 then p.payload.now else l) (same d.len d.place le) in
    ap (λ l. (d.text, l) ∷ names_of ds (with_numbers p xs)) head ∙ ap (λ m. (d.text, list_in p d) ∷ m) (same_below ds p xs k st.1 (omega (arith, le, a)) same)

-- a write among a name's numbers, at the head of what is seen
write_here : (x : Declared) (ds : Bindings) (p : Cells) (i : ℕ) (z : ℤ) → IsAbove x ds → IsStacked ds → i < x.len
    → ((x.text, set (list_in p x) i z) ∷ names_of ds p) ≡ names_of (x ∷ ds) (with_numbers p (set p.numbers (x.place + i) z))
write_here x ds p i z above st lt =
    let xs = set p.numbers (x.place + i) z in
    let some : 0 < x.len = omega (arith, lt) in
    let tail = same_below ds p xs x.place st (omega (arith, above.place)) (λ c n le. window_above c n p.numbers (x.place + i) z (omega arith)) in
    ap (λ l. (x.text, set l i z) ∷ names_of ds p) (own_list p x some)
    ∙ (ap (λ l. (x.text, l) ∷ names_of ds p) (sym (window_in x.len x.place p.numbers i z lt))
    ∙ (ap (λ l. (x.text, l) ∷ names_of ds p) (sym (own_list (with_numbers p xs) x some))
    ∙ ap (λ m. (x.text, list_in (with_numbers p xs) x) ∷ m) (sym tail)))

-- the same, by the answer of its test
write_by : (text : List ℕ) (x d : Declared) (ds : Bindings) (p : Cells) (i : ℕ) (z : ℤ) (b : Bool) → IsAbove x ds → IsStacked ds → i < d.len
    → (seen text ds ≡ Some d → write text (set (list_in p d) i z) (names_of ds p) ≡ names_of ds (with_numbers p (set p.numbers (d.place + i) z)))
    → (if b then Some x else seen text ds) ≡ Some d
    → (if b then (x.text, set (list_in p d) i z) ∷ names_of ds p else (x.text, list_in p x) ∷ write text (set (list_in p d) i z) (names_of ds p))
    ≡ names_of (x ∷ ds) (with_numbers p (set p.numbers (d.place + i) z))
write_by text x d ds p i z true above st lt inner e =
    let same : x ≡ d = cc in
    let P : Declared → Type 0 = λ y. i < y.len → ((x.text, set (list_in p y) i z) ∷ names_of ds p) ≡ names_of (x ∷ ds) (with_numbers p (set p.numbers (y.place + i) z)) in
    subst P same (λ l. write_here x ds p i z above st l) lt
write_by text x d ds p i z false above st lt inner e =
    let w = seen_within text ds d st e in
    ap (λ m. (x.text, list_in p x) ∷ m) (inner e)
    ∙ ap (λ (l : List ℤ). (x.text, if x.len == 0 then p.payload.now else l) ∷ names_of ds (with_numbers p (set p.numbers (d.place + i) z)))
    (sym (window_below x.len x.place p.numbers (d.place + i) z (omega (arith, w.place, above.place, lt))))

-- a write to the map is a write to the place
pub write_is : (text : List ℕ) (s : Bindings) (d : Declared) (p : Cells) (i : ℕ) (z : ℤ) → IsStacked s → i < d.len → seen text s ≡ Some d
    → write text (set (list_in p d) i z) (names_of s p) ≡ names_of s (with_numbers p (set p.numbers (d.place + i) z))
write_is text [] d p i z st lt e = let no : None ≡ Some d = e in cc
write_is text (x ∷ ds) d p i z st lt e =
    write_by text x d ds p i z (bytes_eq x.text text) st.0 st.1 lt (write_is text ds d p i z st.1 lt) e
