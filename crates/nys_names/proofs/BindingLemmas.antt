-- Names that are kept in the order of their declarations, and seen the newest first.
use Rattle.std.proofs.Common.{◌≡◌, ◌+◌, ◌-◌, ◌≤◌, Bool, true, false, cond, ℕ, suc, zero, ◌<◌, List, [], ◌∷◌, ◌++◌, length, slice_get, map, take, drop, refl, ap, sym, subst, ◌∙◌, arith, Option, Some, None}
use Rattle.std.specs.Prelude.{reverse}
use Rattle.std.specs.List.{IsDistinct, AllByRecursion}
use Rattle.std.specs.Str.{bytes_eq}
use Rattle.std.specs.Option.{option_copied, IfSome, IfNone}
use Rattle.std.specs.Borrow.{Bor}
use Rattle.std.specs.Map.{lookup, keys_of, values_of}
use Rattle.std.proofs.lemmas.List.{reverse-append, length-reverse, length-map, map-append, take-map, take-append-drop, length-drop}
use Rattle.std.proofs.lemmas.Slice.Eq.{bytes_eq-Decides}
use Rattle.std.proofs.Math.Seq.{drop-append_seam}
use Rattle.nys_tree.specs.Bindings.{Declared, Bindings, seen, top}
use Rattle.nys_names.specs.declared.bindings.Entry.{Entry}
use Rattle.nys_names.specs.Names.{with_text, names_of, BELOW_LETS, IsLow, IsNext}
use Rattle.nys_names.specs.Stmts.{behind}

-- two texts are the same in either order
same_back : (a b : List ℕ) (v w : Bool) → bytes_eq a b ≡ v → bytes_eq b a ≡ w → v ≡ w
same_back a b true true e f = refl
same_back a b false false e f = refl
same_back a b true false e f = let back : bytes_eq b a ≡ true = (bytes_eq-Decides b a).1 (sym ((bytes_eq-Decides a b).0 e)) in cc
same_back a b false true e f = let back : bytes_eq a b ≡ true = (bytes_eq-Decides a b).1 (sym ((bytes_eq-Decides b a).0 f)) in cc

-- what is seen among the newer names is seen
seen_kept : (text : List ℕ) (xs ys : Bindings) (d : Declared) → seen text xs ≡ Some d → seen text (xs ++ ys) ≡ Some d
seen_kept text [] ys d is = cc
seen_kept text (x ∷ xs) ys d is = by (bytes_eq x.text text) is (seen_kept text xs ys d)
  where
    -- by whether it is the newest name
    by : (b : Bool) → cond b (Some x) (seen text xs) ≡ Some d → (seen text xs ≡ Some d → seen text (xs ++ ys) ≡ Some d) → cond b (Some x) (seen text (xs ++ ys)) ≡ Some d
    by true is rest = is
    by false is rest = rest is

-- what isn't seen among the newer names is seen among the older
seen_past : (text : List ℕ) (xs ys : Bindings) → seen text xs ≡ None → seen text (xs ++ ys) ≡ seen text ys
seen_past text [] ys none = refl
seen_past text (x ∷ xs) ys none = by (bytes_eq x.text text) none (seen_past text xs ys)
  where
    -- by whether it is the newest name
    by : (b : Bool) → cond b (Some x) (seen text xs) ≡ None → (seen text xs ≡ None → seen text (xs ++ ys) ≡ seen text ys) → cond b (Some x) (seen text (xs ++ ys)) ≡ seen text ys
    by true none rest = cc
    by false none rest = rest none

-- the oldest names are what is left behind the newest
reverse_take : (n : ℕ) (xs : Bindings) → reverse (take n xs) ≡ drop (length (reverse xs) - n) (reverse xs)
reverse_take n xs =
    let cut : reverse xs ≡ reverse (drop n xs) ++ reverse (take n xs) = ap reverse (sym (take-append-drop n xs)) ∙ reverse-append (take n xs) (drop n xs) in
    let len : length (reverse (drop n xs)) ≡ length (reverse xs) - n = length-reverse (drop n xs) ∙ (length-drop n xs ∙ ap (λ k. k - n) (sym (length-reverse xs))) in
    sym (ap (λ ys. drop (length (reverse xs) - n) ys) cut ∙ (ap (λ k. drop k (reverse (drop n xs) ++ reverse (take n xs))) (sym len) ∙ drop-append_seam (reverse (drop n xs)) (reverse (take n xs))))

-- above two parts is above the newer one
top_front : (xs ys : Bindings) → 0 < length xs → top (xs ++ ys) ≡ top xs
top_front [] ys some = absurd (omega (arith, some))
top_front (x ∷ xs) ys some = refl

module _ {K : Type 0} (bytes : K → List ℕ) where
  -- a name of a map, with what it stands for
  abbrev shown : K × Entry → Declared
  shown e = with_text (bytes e.0) e.1

  -- the newest name of a map is the last
  names_cons : (e : K × Entry) (es : List (K × Entry)) → names_of bytes (e ∷ es) ≡ names_of bytes es ++ shown e ∷ []
  names_cons e es = reverse-append (shown e ∷ []) (map shown es)

  -- one name more is the newest
  pub names_push : (es : List (K × Entry)) (k : K) (x : Entry) → names_of bytes (es ++ (k, x) ∷ []) ≡ with_text (bytes k) x ∷ names_of bytes es
  names_push es k x = ap reverse (map-append shown es ((k, x) ∷ [])) ∙ reverse-append (map shown es) (with_text (bytes k) x ∷ [])

  -- as many names are seen as are kept
  pub length_names : (es : List (K × Entry)) → length (names_of bytes es) ≡ length es
  length_names es = length-reverse (map shown es) ∙ length-map es shown

  -- a name that the map doesn't find isn't seen
  pub none_seen : (text : List ℕ) (es : List (K × Entry)) → lookup (λ k. bytes_eq text (bytes k)) es ≡ None → seen text (names_of bytes es) ≡ None
  none_seen text [] none = refl
  none_seen text (e ∷ es) none = by (bytes_eq text (bytes e.0)) refl none (none_seen text es)
    where
      by : (b : Bool) → bytes_eq text (bytes e.0) ≡ b → cond b (Some e.1) (lookup (λ k. bytes_eq text (bytes k)) es) ≡ None
          → (lookup (λ k. bytes_eq text (bytes k)) es ≡ None → seen text (names_of bytes es) ≡ None) → seen text (names_of bytes (e ∷ es)) ≡ None
      by true is none rest = cc
      by false is none rest =
          let other : bytes_eq (bytes e.0) text ≡ false = sym (same_back text (bytes e.0) _ _ is refl) in
          ap (seen text) (names_cons e es) ∙ (seen_past text (names_of bytes es) (shown e ∷ []) (rest none) ∙ ap (λ b. cond b (Some (shown e)) None) other)

  -- where all names are others, the map finds none
  none_found : (text : List ℕ) (es : List (K × Entry)) → AllByRecursion (λ k. bytes_eq text (bytes k) ≡ false) (keys_of es) → lookup (λ k. bytes_eq text (bytes k)) es ≡ None
  none_found text [] others = refl
  none_found text (e ∷ es) others = ap (λ b. cond b (Some e.1) (lookup (λ k. bytes_eq text (bytes k)) es)) others.0 ∙ none_found text es others.1

  -- the name that the map finds is seen
  pub found_seen : (text : List ℕ) (es : List (K × Entry)) (x : Entry) → IsDistinct (λ a b. bytes_eq (bytes a) (bytes b)) (keys_of es)
      → lookup (λ k. bytes_eq text (bytes k)) es ≡ Some x → seen text (names_of bytes es) ≡ Some (with_text text x)
  unfolding IsDistinct
  found_seen text [] x apart found = cc
  found_seen text (e ∷ es) x apart found = by (bytes_eq text (bytes e.0)) refl found apart.0 (found_seen text es x apart.1)
    where
      by : (b : Bool) → bytes_eq text (bytes e.0) ≡ b → cond b (Some e.1) (lookup (λ k. bytes_eq text (bytes k)) es) ≡ Some x
          → AllByRecursion (λ k. bytes_eq (bytes e.0) (bytes k) ≡ false) (keys_of es)
          → (lookup (λ k. bytes_eq text (bytes k)) es ≡ Some x → seen text (names_of bytes es) ≡ Some (with_text text x)) → seen text (names_of bytes (e ∷ es)) ≡ Some (with_text text x)
      by true is found apart rest =
          let same : text ≡ bytes e.0 = (bytes_eq-Decides text (bytes e.0)).0 is in
          let others : AllByRecursion (λ k. bytes_eq text (bytes k) ≡ false) (keys_of es) = subst (λ t. AllByRecursion (λ k. bytes_eq t (bytes k) ≡ false) (keys_of es)) (sym same) apart in
          let here : bytes_eq (bytes e.0) text ≡ true = (bytes_eq-Decides (bytes e.0) text).1 (sym same) in
          let one : e.1 ≡ x = cc in
          ap (seen text) (names_cons e es) ∙ (seen_past text (names_of bytes es) (shown e ∷ []) (none_seen text es (none_found text es others))
          ∙ (ap (λ b. cond b (Some (shown e)) None) here ∙ (ap (λ t. Some (with_text t e.1)) (sym same) ∙ ap (λ y. Some (with_text text y)) one)))
      by false is found apart rest =
          ap (seen text) (names_cons e es) ∙ seen_kept text (names_of bytes es) (shown e ∷ []) (with_text text x) (rest found)

  -- what the map finds is what is seen
  pub find_some : (o : Option (Bor Entry)) (text : List ℕ) (es : List (K × Entry)) → IsDistinct (λ a b. bytes_eq (bytes a) (bytes b)) (keys_of es)
      → option_copied o ≡ lookup (λ k. bytes_eq text (bytes k)) es → IfSome o (λ e. seen text (names_of bytes es) ≡ Some (with_text text e.now))
  find_some None text es apart is = tt
  find_some (Some e) text es apart is = found_seen text es e.now apart (sym is)

  -- where the map finds nothing, nothing is seen
  pub find_none : (o : Option (Bor Entry)) (text : List ℕ) (es : List (K × Entry)) → option_copied o ≡ lookup (λ k. bytes_eq text (bytes k)) es → IfNone o (seen text (names_of bytes es) ≡ None)
  find_none None text es is = none_seen text es (sym is)
  find_none (Some e) text es is = tt

  -- a name that isn't seen is none of the map's
  pub unseen_absent : (text : List ℕ) (es : List (K × Entry)) → IsDistinct (λ a b. bytes_eq (bytes a) (bytes b)) (keys_of es)
      → seen text (names_of bytes es) ≡ None → lookup (λ k. bytes_eq text (bytes k)) es ≡ None
  unseen_absent text es apart unseen = by (lookup (λ k. bytes_eq text (bytes k)) es) refl
    where
      by : (o : Option Entry) → lookup (λ k. bytes_eq text (bytes k)) es ≡ o → lookup (λ k. bytes_eq text (bytes k)) es ≡ None
      by None is = is
      by (Some x) is = let there : seen text (names_of bytes es) ≡ Some (with_text text x) = found_seen text es x apart is in cc

  -- the newest of the names is the last of the map
  pub newest : (es : List (K × Entry)) (x : Entry) → slice_get (values_of es) (length es - 1) ≡ Some x → top (names_of bytes es) ≡ x.place + x.len
  newest [] x is = cc
  newest (e ∷ []) x is = let one : e.1 ≡ x = cc in ap (λ y. y.place + y.len) one
  newest (e ∷ f ∷ es) x is =
      let some : 0 < length (names_of bytes (f ∷ es)) = rw (length_names (f ∷ es)) (omega arith) in
      let behind : suc (suc (length es)) - 1 ≡ suc (length es) = omega arith in
      let last : length es ≡ suc (length es) - 1 = omega arith in
      let there : slice_get (values_of (f ∷ es)) (length es) ≡ Some x = subst (λ n. slice_get (values_of (e ∷ f ∷ es)) n ≡ Some x) behind is in
      ap top (names_cons e (f ∷ es)) ∙ (top_front (names_of bytes (f ∷ es)) (shown e ∷ []) some
      ∙ newest (f ∷ es) x (subst (λ n. slice_get (values_of (f ∷ es)) n ≡ Some x) last there))

  -- the oldest names are what is left behind the newest
  pub names_take : (n : ℕ) (es : List (K × Entry)) → names_of bytes (take n es) ≡ drop (length (names_of bytes es) - n) (names_of bytes es)
  names_take n es = ap reverse (sym (take-map shown n es)) ∙ reverse_take n (map shown es)

-- what is left of low names is low
pub low_drop : (n : ℕ) (s : Bindings) → IsLow s → IsLow (drop n s)
low_drop zero s low = low
low_drop (suc n) [] low = low
low_drop (suc n) (d ∷ ds) low = low_drop n ds low.1

-- all places are low
pub low_top : (s : Bindings) → IsLow s → top s ≤ BELOW_LETS + length s
low_top [] low = omega arith
low_top (d ∷ ds) low = omega (arith, low.0)

-- a name that may be seen next leaves all names low
pub low_push : (d : Declared) (s : Bindings) → IsNext d s → IsLow s → IsLow (d ∷ s)
low_push d s next low = (next.low, low)

-- a name that may be seen next, by what contracts see of it and of the names
pub next_same : (d e : Declared) (s t : Bindings) → e ≡ d → t ≡ s → IsNext d s → IsNext e t
next_same d e s t same kept next = subst (λ x. IsNext x t) (sym same) (subst (IsNext d) (sym kept) next)

-- behind one name more, what was seen before is left
pub one_left : (d : Declared) (s : Bindings) → drop (length (d ∷ s) - length s) (d ∷ s) ≡ s
one_left d s = let one : length (d ∷ s) - length s ≡ suc 0 = omega arith in ap (λ k. drop k (d ∷ s)) one

-- what a statement declares is above what was seen before the block
pub behind_kept : (d : Option Declared) (s outer : Bindings) → drop (length s - length outer) s ≡ outer → length outer ≤ length s
    → (drop (length (behind d s) - length outer) (behind d s) ≡ outer) × (length outer ≤ length (behind d s))
behind_kept None s outer kept within = (kept, within)
behind_kept (Some e) s outer kept within =
    let more : length (e ∷ s) - length outer ≡ suc (length s - length outer) = omega arith in
    (ap (λ k. drop k (e ∷ s)) more ∙ kept, omega arith)
