-- Statements that clash stand on one shelf, in the order in which they were made.
use Rattle.std.proofs.Common.{◌≡◌, ℕ, zero, suc, ◌<◌, List, [], ◌∷◌, ◌++◌, ◌+◌, ◌*◌, ◌%◌, length, get_or, set, replicate, refl, sym, ap, subst, ◌∙◌, inl, inr, ◌⊎◌, arith}
use Rattle.std.specs.Prelude.{Contains, ◌↔◌}
use Rattle.std.proofs.lemmas.Bool.{cases_eq}
use Rattle.std.proofs.lemmas.List.{get_or-set_other, get_or-set_same}
use Rattle.nys_stmt.specs.declared.statement.Body.{Body}
use Rattle.nys_stmt.specs.declared.statement.Body.TheVariants.{Filled, Attest, Ask, Wedge, Frozen, Open}
use Rattle.nys_stmt.specs.declared.statement.Statement.{Statement}
use Rattle.nys_stmt.specs.Same.{DoClash, with_payload}
use Rattle.nys_ledger.specs.declared.shelf.Made.{Made}
use Rattle.nys_ledger.specs.Shelves.{BeginsToShare, IsAlike, IsFirst, made_by, number_of, Owns, shelf_at, shelf_of, Shares, with_made}
use Rattle.nys_ledger.proofs.FirstLemmas.{first_longer, HasNone, no_first}
use Rattle.nys_ledger.proofs.ShelfLemmas.{shelf_at-empty}

-- another payload leaves the number
number_kept : (b : Body) → number_of b ≡ number_of (with_payload [] b)
number_kept (Filled kind h slot content) = refl
number_kept (Attest p h k payload) = refl
number_kept (Ask h slot) = refl
number_kept Wedge = refl
number_kept (Frozen h slot) = refl
number_kept (Open lengths) = refl

-- statements that clash stand on one shelf
clash_shelf : (p : ℕ) (a b : Statement) → DoClash a b → shelf_of p a.body ≡ shelf_of p b.body
unfolding shelf_of
clash_shelf p a b clash =
    ap (λ n. ((n % 1024) * 33 + p % 33) % 4096)
    (number_kept a.body ∙ ap number_of (clash.alike.apart []) ∙ sym (number_kept b.body))

-- on empty shelves none is shared
pub shares_nothing : (n p : ℕ) (s first : Statement) → Shares (replicate n []) p s first → ⊥
unfolding Shares
shares_nothing n p s first shared =
    no_first (IsAlike p s) (shelf_at (replicate n []) (shelf_of p s.body)) (made_by p first)
    (shelf_at-empty n (shelf_of p s.body)) shared

-- a statement of the party on the shelf of another is its own
pub none_owned : (shelves : List (List Made)) (p : ℕ) (s : Statement) → HasNone (IsAlike p s) (shelf_at shelves (shelf_of p s.body))
    → (other : Statement) → Owns shelves p other → DoClash other s → ⊥
unfolding Owns
none_owned shelves p s none other owned clash =
    none (made_by p other) (subst (λ i. Contains (shelf_at shelves i) (made_by p other)) (clash_shelf p other s clash) owned)
    (record { of = refl; clashes = clash })

-- and where none of its own clashes, none on the shelf does
none_stands : (shelves : List (List Made)) (p : ℕ) (s : Statement)
    → ((other : Statement) → Owns shelves p other → DoClash other s → ⊥)
    → HasNone (IsAlike p s) (shelf_at shelves (shelf_of p s.body))
unfolding Owns
none_stands shelves p s none made stands alike =
    none made.statement
    (subst (λ i. Contains (shelf_at shelves i) (made_by p made.statement)) (sym (clash_shelf p made.statement s alike.clashes))
    (subst (λ q. Contains (shelf_at shelves (shelf_of p s.body)) (made_by q made.statement)) alike.of stands))
    alike.clashes

-- what is owned already begins nothing
pub begins_never : (shelves : List (List Made)) (party : ℕ) (statement : Statement) (p : ℕ) (s first : Statement)
    → Owns shelves party statement → BeginsToShare shelves party statement p s first → ⊥
begins_never shelves party statement p s first owned begins =
    begins.none_before first (subst (λ (made : Made). Owns shelves made.party made.statement) (sym begins.is) owned) begins.clashes

-- a shelf with one more
longer_shares : (shelves : List (List Made)) (party : ℕ) (statement : Statement) (p : ℕ) (s first : Statement)
    → IsFirst (IsAlike p s) (shelf_at shelves (shelf_of p s.body) ++ made_by party statement ∷ []) (made_by p first)
    ↔ (IsFirst (IsAlike p s) (shelf_at shelves (shelf_of p s.body)) (made_by p first) ⊎ BeginsToShare shelves party statement p s first)
longer_shares shelves party statement p s first =
    let longer = first_longer (IsAlike p s) (shelf_at shelves (shelf_of p s.body)) (made_by party statement) (made_by p first) in (
      (λ shared. elim (longer.0 shared) [
        | inl old ↦ inl old
        | inr new ↦ inr (record { is = new.0; clashes = new.1.clashes; none_before = none_owned shelves p s new.2 })
      ]),
      (λ either. elim either [
        | inl old ↦ longer.1 (inl old)
        | inr new ↦ longer.1 (inr (new.is, (record { of = refl; clashes = new.clashes }), none_stands shelves p s new.none_before))
      ]),
    )

-- one statement more is shared where there was none
pub shares_more : (shelves : List (List Made)) (party : ℕ) (statement : Statement) (p : ℕ) (s first : Statement)
    → shelf_of party statement.body < length shelves
    → Shares (with_made party statement shelves) p s first ↔ (Shares shelves p s first ⊎ BeginsToShare shelves party statement p s first)
unfolding Shares with_made
shares_more shelves party statement p s first within =
    elim (cases_eq (shelf_of p s.body) (shelf_of party statement.body)) [
      | inl same ↦
          let longer : shelf_at (set shelves at (shelf_at shelves at ++ made_by party statement ∷ [])) (shelf_of p s.body) ≡ shelf_at shelves (shelf_of p s.body) ++ made_by party statement ∷ []
          = ap (λ i. shelf_at (set shelves at (shelf_at shelves at ++ made_by party statement ∷ [])) i) same
          ∙ get_or-set_same shelves at (shelf_at shelves at ++ made_by party statement ∷ []) [] within
          ∙ ap (λ i. shelf_at shelves i ++ made_by party statement ∷ []) (sym same) in
          rw longer (longer_shares shelves party statement p s first)
      | inr other ↦
          rw (get_or-set_other shelves at (shelf_of p s.body) (shelf_at shelves at ++ made_by party statement ∷ []) [] other) (
            (λ shared. inl shared),
            (λ either. elim either [
              | inl shared ↦ shared
              | inr new ↦
                  let there : shelf_of p first.body ≡ at = ap (λ (made : Made). shelf_of made.party made.statement.body) new.is in
                  absurd (other (sym (clash_shelf p first s new.clashes) ∙ there))
            ]),
          )
    ]
  where
    at : ℕ
    at = shelf_of party statement.body
