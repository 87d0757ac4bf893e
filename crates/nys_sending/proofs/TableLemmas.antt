-- A table of which one row changes.
use Rattle.std.proofs.Common.{◌≡◌, ℕ, ◌<◌, List, sym, subst, ◌∙◌, inl, inr, arith}
use Rattle.std.proofs.lemmas.Bool.{cases_eq}
use Rattle.std.specs.Prelude.{Option, Some, None, slice_get, slice_set}
use Rattle.std.proofs.lemmas.List.{length-set}
use Rattle.circular_buffer.proofs.Places.{slice_get-set_other, slice_get-set_same}
use Rattle.nys_agreement.proofs.TableLemmas.{put_here, put_there}
use Rattle.nys_source.specs.Tables.{put}
use Rattle.nys_sending.specs.Tables.{IsTable}

-- what is found is one thing
pub same_found : {A : Type 0} (o : Option A) (x y : A) → o ≡ Some x → o ≡ Some y → y ≡ x
same_found (Some z) x y a b = cc
same_found None x y a b = absurd (cc)

-- the table with another row is that of the function with another value
pub table_put : {A : Type 0} (items : List A) (f : ℕ → A) (h : ℕ) (x y : A) → IsTable items f → h < 32 → x ≡ y → IsTable (slice_set items h x) (put f h y)
table_put items f h x y table below same = record {
  size = length-set items h x ∙ table.size;
  each = λ k item at. elim (cases_eq k h) [
    | inl e ↦ row k item at e
    | inr ne ↦ table.each k item (sym (slice_get-set_other items h k x ne) ∙ at) ∙ sym (put_there f h y k ne)
  ];
}
  where
    row : (k : ℕ) (item : _) → slice_get (slice_set items h x) k ≡ Some item → k ≡ h → item ≡ put f h y k
    row k item at e = subst (λ z. item ≡ put f h y z) (sym e)
        (same_found (slice_get (slice_set items h x) h) x item (slice_get-set_same items h x (omega (arith, table.size, below)))
        (subst (λ z. slice_get (slice_set items h x) z ≡ Some item) e at) ∙ same ∙ sym (put_here f h y))
