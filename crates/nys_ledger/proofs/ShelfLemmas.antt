-- Shelves without a statement, and with one more.
use Rattle.std.proofs.Common.{rules, ◌≡◌, ℕ, zero, suc, ◌+◌, ◌*◌, ◌%◌, ◌<◌, ◌≤◌, List, [], ◌∷◌, ◌++◌, length, get_or, set, drop, replicate, refl, sym, ap, subst, ◌∙◌, inl, inr, ◌⊎◌, arith}
use Rattle.std.specs.Prelude.{Contains, Option, Some, ◌↔◌, slice_get, Result, Ok, Err, OnOk}
use Rattle.std.proofs.lemmas.Bool.{cases_eq}
use Rattle.std.proofs.lemmas.List.{get_or-set_other, get_or-set_same}
use Rattle.std.proofs.lemmas.List.Elements.{Contains-append_cases, Contains-append_left, Contains-append_right}
use Rattle.nys_ledger.specs.declared.shelf.Made.{Made}
use Rattle.nys_ledger.specs.Shelves.{made_by, Owns, shelf_at, shelf_of, with_made}
use Rattle.nys_stmt.specs.declared.statement.Body.{Body}
use Rattle.nys_stmt.specs.declared.statement.Statement.{Statement}

-- an empty shelf, wherever it is looked for
pub shelf_at-empty : (n i : ℕ) → get_or {A = List Made} (replicate n []) i [] ≡ []
shelf_at-empty zero i = refl
shelf_at-empty (suc n) zero = refl
shelf_at-empty (suc n) (suc i) = shelf_at-empty n i

-- on an empty shelf stands nothing
on_nothing : (made : Made) (shelf : List Made) → shelf ≡ [] → Contains shelf made → ⊥
on_nothing made [] e stands = absurd (omega (arith, stands.1))
on_nothing made (m ∷ shelf) e stands = absurd (cc)

-- of empty shelves nobody owns anything
pub owns_nothing : (n party : ℕ) (statement : Statement) → Owns (replicate n []) party statement → ⊥
unfolding Owns
owns_nothing n party statement owned =
    on_nothing (made_by party statement) (shelf_at (replicate n []) (shelf_of party statement.body))
    (shelf_at-empty n (shelf_of party statement.body)) owned

-- the only one of a list
only_one : (made other : Made) → Contains (made ∷ []) other → other ≡ made
only_one made other (zero, within, is) = sym is
only_one made other (suc k, within, is) = absurd (omega (arith, within))

-- what stands on a shelf with one more
on_longer : (shelf : List Made) (made other : Made) → Contains (shelf ++ made ∷ []) other ↔ (Contains shelf other ⊎ (other ≡ made))
on_longer shelf made other = (
  (λ stands. elim (Contains-append_cases shelf (made ∷ []) other stands) [
    | inl old ↦ inl old
    | inr new ↦ inr (only_one made other new)
  ]),
  (λ either. elim either [
    | inl old ↦ Contains-append_left shelf (made ∷ []) other old
    | inr same ↦ Contains-append_right shelf (made ∷ []) other (zero, omega arith, sym same)
  ]),
)

-- one statement more is owned
pub owns_more : (shelves : List (List Made)) (party : ℕ) (statement : Statement) (p : ℕ) (s : Statement)
    → shelf_of party statement.body < length shelves
    → Owns (with_made party statement shelves) p s ↔ (Owns shelves p s ⊎ (made_by p s ≡ made_by party statement))
unfolding Owns with_made
owns_more shelves party statement p s within =
    elim (cases_eq (shelf_of p s.body) (shelf_of party statement.body)) [
      | inl same ↦
          let longer : shelf_at (set shelves at (shelf_at shelves at ++ made_by party statement ∷ [])) (shelf_of p s.body) ≡ shelf_at shelves (shelf_of p s.body) ++ made_by party statement ∷ []
          = ap (λ i. shelf_at (set shelves at (shelf_at shelves at ++ made_by party statement ∷ [])) i) same
          ∙ get_or-set_same shelves at (shelf_at shelves at ++ made_by party statement ∷ []) [] within
          ∙ ap (λ i. shelf_at shelves i ++ made_by party statement ∷ []) (sym same) in
          rw longer (on_longer (shelf_at shelves (shelf_of p s.body)) (made_by party statement) (made_by p s))
      | inr other ↦
          rw (get_or-set_other shelves at (shelf_of p s.body) (shelf_at shelves at ++ made_by party statement ∷ []) [] other) (
            (λ owned. inl owned),
            (λ either. elim either [
              | inl owned ↦ owned
              | inr same ↦ absurd (other (same_shelf p party s statement same))
            ]),
          )
    ]
  where
    at : ℕ
    at = shelf_of party statement.body

    same_shelf : (p q : ℕ) (s r : Statement) → made_by p s ≡ made_by q r → shelf_of p s.body ≡ shelf_of q r.body
    same_shelf p q s r same = λ i. shelf_of (same i).party (same i).statement.body

-- the first of a rest
drop_more : {X : Type 0} (xs : List X) (i : ℕ) (x : X) → slice_get xs i ≡ Some x → drop i xs ≡ x ∷ drop (suc i) xs
drop_more [] i x e = absurd (cc)
drop_more (y ∷ xs) zero x e = let same : y ≡ x = cc in ap (λ z. z ∷ xs) same
drop_more (y ∷ xs) (suc i) x e = drop_more xs i x e

-- the same, as a loop counts
pub drop_next : {X : Type 0} (xs : List X) (i : ℕ) (x : X) → slice_get xs i ≡ Some x → drop i xs ≡ x ∷ drop (i + 1) xs
drop_next xs i x e = let next : suc i ≡ i + 1 = omega arith in drop_more xs i x e ∙ ap (λ n. x ∷ drop n xs) next

-- there are 4,096 shelves
pub shelf_within : (party : ℕ) (body : Body) → shelf_of party body < 4096
unfolding shelf_of
shelf_within party body = search rules

-- what follows of a fact of an answer
pub on_ok : {T E P Q : Type 0} (r : Result T E) → (P → Q) → OnOk r P → OnOk r Q
on_ok (Ok x) f p = f p
on_ok (Err e) f p = p
