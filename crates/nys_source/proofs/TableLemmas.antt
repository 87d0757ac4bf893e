-- How one write of a list is one write of the function that it stands for.
use Rattle.std.proofs.Common.{◌≡◌, ℕ, ℤ, ◌<◌, ◌++◌, ◌∷◌, List, [], length, eq-eqb, refl, ap, inl, inr, slice_index_or, replicate, suc, zero, ◌∙◌, sym, arith, set}
use Rattle.std.proofs.Math.ListN.{get_or-append}
use Rattle.std.proofs.lemmas.Bool.{cases_eq, cases_order, ne_eqb}
use Rattle.std.proofs.lemmas.List.{get_or-set_same, get_or-set_other, get_or_push, get_or_past, length-append}
use Rattle.nys_source.specs.Tables.{put, put_at, added, added_at, at_each, lists_at, lists_at_both, numbers_at_both}

-- no payloads
abbrev pub no_lists : List (List ℤ)
no_lists = []

-- functions that agree everywhere are equal
pub same_at_all : {A : Type 0} {f g : ℕ → A} → ((x : ℕ) → f x ≡ g x) → f ≡ g
same_at_all p = λ i x. p x i

-- a write of a list is a write of what it has at each place
pub at_each-set : {A : Type 0} (past : ℕ → A) (items : List A) (at : ℕ) (value : A) → at < length items → at_each past (set items at value) ≡ put (at_each past items) at value
at_each-set past items at value inside = same_at_all (λ x. elim (cases_eq x at) [
  | inl same ↦ rw (eq-eqb x at same, same) (get_or-set_same items at value (past at) inside)
  | inr other ↦ rw (ne_eqb x at other) (get_or-set_other items at x value (past x) other)
])

-- a list whose members are all the value past its end has that value everywhere
pub at_each-replicate : {A : Type 0} (value : A) (n : ℕ) → at_each (λ _. value) (replicate n value) ≡ (λ _. value)
at_each-replicate value n = same_at_all (λ x. member_of_replicate n x)
  where
    member_of_replicate : (n x : ℕ) → slice_index_or (replicate n value) x value ≡ value
    member_of_replicate zero x = refl
    member_of_replicate (suc n) zero = refl
    member_of_replicate (suc n) (suc x) = member_of_replicate n x

-- a table whose rows have one value everywhere has it everywhere, where that value stands past its ends too
pub rows-replicate : {A : Type 0} (past : A) (row : List A) → at_each (λ _. past) row ≡ (λ _. past) → (n p : ℕ) → at_each (λ _. past) (lists_at (replicate n row) p) ≡ (λ _. past)
rows-replicate past row same zero p = refl
rows-replicate past row same (suc n) zero = same
rows-replicate past row same (suc n) (suc p) = rows-replicate past row same n p

-- lists by host that all are empty
pub lists_at-empty : (n : ℕ) → lists_at (replicate n no_lists) ≡ (λ _. no_lists)
lists_at-empty n = at_each-replicate no_lists n

-- lists by link that all are empty
pub lists_at_both-empty : (n m : ℕ) → lists_at_both (replicate n (replicate m no_lists)) ≡ (λ _ _. no_lists)
lists_at_both-empty n m = same_at_all (rows-replicate no_lists (replicate m no_lists) (at_each-replicate no_lists m) n)

-- numbers by link that all are zero
pub numbers_at_both-zero : (n m : ℕ) → numbers_at_both (replicate n (replicate m 0)) ≡ (λ _ _. 0)
numbers_at_both-zero n m = same_at_all (rows-replicate 0 (replicate m 0) (at_each-replicate 0 m) n)

-- a write of a row that is a write of one of its members is a write of the table at two places
pub rows-put : {A : Type 0} (past : A) (rows : List (List A)) (p h : ℕ) (value : A) (row : List A) → p < length rows → at_each (λ _. past) row ≡ put (at_each (λ _. past) (lists_at rows p)) h value → (q : ℕ) → at_each (λ _. past) (lists_at (set rows p row) q) ≡ put_at (λ o. at_each (λ _. past) (lists_at rows o)) p h value q
rows-put past rows p h value row inside written q = elim (cases_eq q p) [
  | inl same ↦ rw (eq-eqb q p same, same, get_or-set_same rows p row [] inside) written
  | inr other ↦ rw (ne_eqb q p other, get_or-set_other rows p q row [] other) refl
]

-- a row of lists with one member more is the table with one member more
pub lists_at_both-added : (rows : List (List (List (List ℤ)))) (p h : ℕ) (member : List ℤ) (row : List (List (List ℤ))) → p < length rows → lists_at row ≡ added (lists_at (lists_at rows p)) h member → lists_at_both (set rows p row) ≡ added_at (lists_at_both rows) p h member
lists_at_both-added rows p h member row inside one_more =
    same_at_all (rows-put no_lists rows p h (lists_at_both rows p h ++ member ∷ []) row inside one_more)

-- a row of numbers in which one grew is the table in which it grew
pub numbers_at_both-put : (rows : List (List ℕ)) (p h value : ℕ) (row : List ℕ) → p < length rows → at_each (λ _. 0) row ≡ put (at_each (λ _. 0) (lists_at rows p)) h value → numbers_at_both (set rows p row) ≡ put_at (numbers_at_both rows) p h value
numbers_at_both-put rows p h value row inside grown = same_at_all (rows-put 0 rows p h value row inside grown)

-- a list that grows by the value which stood past its end has the same at each place
pub at_each-push : {A : Type 0} (past : ℕ → A) (items : List A) (at : ℕ) → length items ≡ at → at_each past (items ++ past at ∷ []) ≡ at_each past items
at_each-push past items at end = same_at_all (λ x. elim (cases_order x at) [
  | inl here ↦ rw here (get_or_push items (past at) (past at) at end ∙ sym (get_or_past items at (past at) (omega arith)))
  | inr (inl below) ↦ let inside : x < length items = omega arith in get_or-append items (past at ∷ []) (past x) x inside
  | inr (inr above) ↦ get_or_past (items ++ past at ∷ []) x (past x) (rw length-append (omega arith)) ∙ sym (get_or_past items x (past x) (omega arith))
])
