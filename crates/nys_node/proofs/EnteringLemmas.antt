-- Tables that a node makes by host, one row after another.
use Rattle.std.proofs.Common.{◌≡◌, ◌≢◌, ℕ, zero, suc, ◌+◌, ◌<◌, ◌≤◌, ◌==◌, ◌&&◌, ◌||◌, Bool, true, false, cond, nat_lt, List, [], ◌∷◌, ◌++◌, length, replicate, Some, refl, ap, sym, subst, ◌∙◌, inl, inr, arith, ◌⊎◌, lt-ltb, le-ltb, eqb-true, eq-eqb, ne_eqb}
use Rattle.std.specs.Prelude.{slice_get, slice_set}
use Rattle.std.proofs.lemmas.Bool.{cases_eq, cases_lt}
use Rattle.std.proofs.lemmas.List.{length-append, length-replicate, length-set}
use Rattle.std.proofs.lemmas.Option.{slice_get_within}
use Rattle.circular_buffer.proofs.Places.{slice_get-append_left, slice_get-append_right, slice_get-set_other, slice_get-set_same}
use Rattle.nys_agreement.proofs.TableLemmas.{put_case, put_there}
use Rattle.nys_source.specs.Tables.{put}
use Rattle.nys_node.specs.Entering.{AreRows}
use Rattle.nys_sending.specs.Tables.{IsTable}
use Rattle.nys_sending.proofs.TableLemmas.{same_found}

-- a number is below the next exactly where it is that number or below it
below_next : (n k : ℕ) → nat_lt n (k + 1) ≡ ((k == n) || nat_lt n k)
below_next n k = grind arith

-- a test of the numbers below, and of one more
by_tests : (p q t u : Bool) → (q ≡ true → u ≡ t) → ((p && t) || (q && u)) ≡ ((q || p) && t)
by_tests true true true u e = refl
by_tests true true false u e = e refl
by_tests true false true u e = refl
by_tests true false false u e = refl
by_tests false true t u e = e refl
by_tests false false t u e = refl

-- those that pass below a number, and the number where it passes, are those that pass below the next
pub one_more : (test : ℕ → Bool) (h k : ℕ) → ((nat_lt k h && test k) || ((h == k) && test h)) ≡ (nat_lt k (h + 1) && test k)
one_more test h k =
    by_tests (nat_lt k h) (h == k) (test k) (test h) (λ e. ap test (eqb-true h k e))
    ∙ ap (λ b. b && test k) (sym (below_next k h))

-- none passes below 0
pub none_before : (test : ℕ → Bool) (k : ℕ) → (nat_lt k 0 && test k) ≡ false
none_before test k = ap (λ b. b && test k) (le-ltb k 0 (omega arith))

-- where those past a number don't pass, all that pass pass below it
pub all_before : (test : ℕ → Bool) (n : ℕ) → ((k : ℕ) → n ≤ k → test k ≡ false) → (k : ℕ) → (nat_lt k n && test k) ≡ test k
all_before test n past k = elim (cases_lt k n) [
  | inl low ↦ ap (λ b. b && test k) (lt-ltb k n low)
  | inr high ↦ ap (λ b. b && test k) (le-ltb k n high) ∙ sym (past k high)
]

-- the last number is the count
pub most_are : (n k : ℕ) → n ≤ k → k ≤ n → n ≡ k
most_are n k a b = omega (arith, a, b)

-- a row more
pub rows_more : {A : Type 0} (n : ℕ) (items : List A) (Fits : ℕ → A → Type 0) (x : A) → AreRows n items Fits → Fits n x
    → AreRows (n + 1) (items ++ x ∷ []) Fits
rows_more {A} n items Fits x rows fits = record {
  size = omega (arith, length-append items (x ∷ []), rows.size);
  each = λ k item at. elim (cases_lt k n) [
    | inl low ↦ rows.each k item (sym (slice_get-append_left items (x ∷ []) k (omega (arith, low, rows.size))) ∙ at)
    | inr high ↦
        let within = slice_get_within (items ++ x ∷ []) k item at in
        let last : k ≡ n = omega (arith, high, within, length-append items (x ∷ []), rows.size) in
        let found = sym (slice_get-append_right items (x ∷ []) k 0 (omega (arith, last, rows.size))) ∙ at in
        let same : x ≡ item = cc in
        subst (λ m. Fits m item) (sym last) (subst (Fits n) same fits)
  ];
}

-- no rows
pub rows_none : {A : Type 0} (items : List A) (Fits : ℕ → A → Type 0) → items ≡ [] → AreRows 0 items Fits
rows_none items Fits none = record {
  size = ap length none;
  each = λ k item at. absurd (let never = sym (ap (λ xs. slice_get xs k) none) ∙ at in cc);
}

-- rows that are all alike
pub rows_alike : {A : Type 0} (n : ℕ) (items : List A) (Fits : ℕ → A → Type 0) (x : A) → items ≡ replicate n x
    → ((k : ℕ) → Fits k x) → AreRows n items Fits
rows_alike {A} n items Fits x same fits = record {
  size = ap length same ∙ length-replicate n x;
  each = λ k item at. subst (Fits k) (found n k item (sym (ap (λ xs. slice_get xs k) same) ∙ at)) (fits k);
}
  where
    found : (n k : ℕ) (item : A) → slice_get (replicate n x) k ≡ Some item → x ≡ item
    found zero k item at = absurd (cc)
    found (suc n) zero item at = cc
    found (suc n) (suc k) item at = found n k item at

-- a table of 32 rows that are all alike
pub table_alike : {A : Type 0} (n : ℕ) (items : List A) (x : A) → items ≡ replicate n x → n ≡ 32 → IsTable items (λ _. x)
table_alike n items x same most =
    let rows = rows_alike n items (λ k y. y ≡ x) x same (λ k. refl) in
    record { size = rows.size ∙ most; each = rows.each }

-- a row changes
pub rows_set : {A : Type 0} (n : ℕ) (items : List A) (Old New : ℕ → A → Type 0) (h : ℕ) (x : A) → AreRows n items Old
    → New h x → ((k : ℕ) (item : A) → k ≢ h → Old k item → New k item) → AreRows n (slice_set items h x) New
rows_set n items Old New h x rows here there = record {
  size = length-set items h x ∙ rows.size;
  each = λ k item at. elim (cases_eq k h) [
    | inl e ↦ row k item at e
    | inr ne ↦ there k item ne (rows.each k item (sym (slice_get-set_other items h k x ne) ∙ at))
  ];
}
  where
    row : (k : ℕ) (item : _) → slice_get (slice_set items h x) k ≡ Some item → k ≡ h → New k item
    row k item at e =
        let low = slice_get_within (slice_set items h x) k item at in
        let inside : h < length items = omega (arith, low, e, length-set items h x) in
        let set = slice_get-set_same items h x inside in
        let same = same_found (slice_get (slice_set items h x) h) x item set
        (subst (λ z. slice_get (slice_set items h x) z ≡ Some item) e at) in
        subst (λ z. New z item) (sym e) (subst (New h) (sym same) here)

-- rows that are such are such in another way
pub rows_same : {A : Type 0} (n : ℕ) (items : List A) (Old New : ℕ → A → Type 0) → AreRows n items Old
    → ((k : ℕ) (item : A) → k < n → Old k item → New k item) → AreRows n items New
rows_same n items Old New rows same = record {
  size = rows.size;
  each = λ k item at. same k item (omega (arith, slice_get_within items k item at, rows.size)) (rows.each k item at);
}

-- a table of one function is one of each that gives the same
pub table_same : {A : Type 0} (items : List A) (f g : ℕ → A) → IsTable items f → ((k : ℕ) → f k ≡ g k) → IsTable items g
table_same items f g table same = record { size = table.size; each = λ k item at. table.each k item at ∙ same k }

-- before the first number there is none
pub first_of : {A : Type 0} (k : ℕ) (x y : A) → y ≡ cond (nat_lt k 0) x y
first_of k x y = ap (λ b. cond b x y) (sym (le-ltb k 0 (omega arith)))

-- one number more
pub put_next : {A : Type 0} (f : ℕ → A) (z : A) (h k : ℕ)
    → put (λ x. cond (nat_lt x h) (f x) z) h (f h) k ≡ cond (nat_lt k (h + 1)) (f k) z
put_next f z h k = elim (cases_eq k h) [
  | inl e ↦
      put_case (λ y. y ≡ cond (nat_lt k (h + 1)) (f k) z) (λ x. cond (nat_lt x h) (f x) z) h (f h) k
      (λ same. sym (ap (λ b. cond b (f k) z) (lt-ltb k (h + 1) (omega (arith, e))) ∙ ap f e)) (λ other. absurd (other e))
  | inr ne ↦ put_there (λ x. cond (nat_lt x h) (f x) z) h (f h) k ne ∙ ap (λ b. cond b (f k) z) (alike (cases_lt k h) ne)
]
  where
    alike : (k < h) ⊎ (h ≤ k) → k ≢ h → nat_lt k h ≡ nat_lt k (h + 1)
    alike (inl low) other = lt-ltb k h low ∙ sym (lt-ltb k (h + 1) (omega (arith, low)))
    alike (inr high) other = elim (cases_lt h k) [
      | inl above ↦ le-ltb k h high ∙ sym (le-ltb k (h + 1) (omega (arith, above)))
      | inr below ↦ absurd (other (omega (arith, high, below)))
    ]

-- one host more that is known where it is guarded
pub more_known : (known guarded : ℕ → Bool) (h : ℕ) (b : Bool) → b ≡ guarded h → (x : ℕ)
    → ((known x || (nat_lt x h && guarded x)) || ((h == x) && b)) ≡ (known x || (nat_lt x (h + 1) && guarded x))
more_known known guarded h b is x = rw is (by (known x) ∙ ap (λ c. known x || c) (one_more guarded h x))
  where
    by : (k : Bool) → ((k || (nat_lt x h && guarded x)) || ((h == x) && guarded h)) ≡ (k || ((nat_lt x h && guarded x) || ((h == x) && guarded h)))
    by true = refl
    by false = refl

-- a host that is guarded is known, whichever host it is
pub known_here : (known : ℕ → Bool) (h : ℕ) (guarded : Bool) → guarded ≡ true → true ≡ (known h || ((h == h) && guarded))
known_here known h guarded e = rw (e, eq-eqb h h refl) (by (known h))
  where
    by : (k : Bool) → true ≡ (k || true)
    by true = refl
    by false = refl

-- another host is known where it was
pub known_there : (known : ℕ → Bool) (h k : ℕ) (guarded : Bool) → k ≢ h → known k ≡ (known k || ((h == k) && guarded))
known_there known h k guarded ne = rw (ne_eqb h k (λ e. ne (sym e))) (by (known k))
  where
    by : (b : Bool) → b ≡ (b || false)
    by true = refl
    by false = refl

-- a host past the table makes none of it known
pub known_below : (known : ℕ → Bool) (h k : ℕ) (guarded : Bool) → k < h → known k ≡ (known k || ((h == k) && guarded))
known_below known h k guarded low = known_there known h k guarded (λ e. absurd (omega (arith, low, e)))

-- below the next number but not that number is below it
pub below_again : (n k : ℕ) → n < k + 1 → n ≢ k → n < k
below_again n k low ne = elim (cases_lt n k) [ inl below ↦ below | inr high ↦ absurd (ne (omega (arith, low, high))) ]
