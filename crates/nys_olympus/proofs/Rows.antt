-- Tables in which all rows are alike.
use Rattle.std.proofs.Common.{◌≡◌, ℕ, zero, suc, ◌<◌, ◌≤◌, List, [], ◌∷◌, length, refl, ap, sym, subst, ◌∙◌, arith}
use Rattle.std.proofs.lemmas.Option.{slice_get-get_or}
use Rattle.std.specs.Prelude.{All, replicate, slice_get, slice_index_or, Some}
use Rattle.std.proofs.lemmas.List.{length-replicate}
use Rattle.nys_rules.specs.Olympus.{OlympusView, Reported}
use Rattle.nys_rules.specs.Scope.{Scope}
use Rattle.nys_sending.specs.Tables.{IsTable}
use Rattle.nys_olympus.specs.Means.{AreReports, IsViewOf}
use Rattle.nys_olympus.specs.declared.olympus.Olympus.{Olympus}

-- what stands in it is the row
alike : {A : Type 0} (n : ℕ) (x : A) (k : ℕ) (item : A) → slice_get (replicate n x) k ≡ Some item → item ≡ x
alike zero x k item at = absurd (cc)
alike (suc n) x zero item at = some_same at
  where
    some_same : Some x ≡ Some item → item ≡ x
    some_same e = cc
alike (suc n) x (suc k) item at = alike n x k item at

-- 32 rows are a table
pub row_table : {A : Type 0} (items : List A) (n : ℕ) (x : A) → items ≡ replicate n x → n ≡ 32 → IsTable items (λ _. x)
row_table items n x same all = record {
  size = ap length same ∙ length-replicate n x ∙ all;
  each = λ k item at. alike n x k item (subst (λ rows. slice_get rows k ≡ Some item) same at);
}

-- empty rows are those of a view without reports
pub none_reported : (dockets : List (List (List Reported))) → IsTable dockets (λ _. []) → AreReports dockets (λ _ _. [])
none_reported dockets table = record {
  size = table.size;
  each = λ h docket at slot. rw (table.each h docket at) refl;
}

-- what is read for a host is what the function gives
pub table_read : {A : Type 0} (items : List A) (f : ℕ → A) (h : ℕ) (d : A) → IsTable items f → h < 32 → slice_index_or items h d ≡ f h
table_read items f h d table below = table.each h (slice_index_or items h d) (slice_get-get_or items h d (omega (arith, table.size, below)))

-- no decided log is longer than a log may be
pub logs_short : {P S : Type 0} (scope : Scope S) (olympus : Olympus P S) (o : OlympusView) → IsViewOf scope olympus o
    → All (λ log. length log ≤ 1024) olympus.decided.items
logs_short scope olympus o view k d within =
    subst (λ log. length log ≤ 1024) (sym (table_read olympus.decided.items o.decided k d view.means.decided (omega (arith, view.means.decided.size, within)))) (view.sound.short k)

-- inside a list it doesn't matter what stands past its end
pub same_inside : {A : Type 0} (xs : List A) (i : ℕ) (a b : A) → i < length xs → slice_index_or xs i a ≡ slice_index_or xs i b
same_inside [] i a b few = absurd (omega (arith, few))
same_inside (x ∷ xs) zero a b few = refl
same_inside (x ∷ xs) (suc i) a b few = same_inside xs i a b (omega (arith, few))
