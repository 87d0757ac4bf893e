-- A table of ranges in which the range of one link is another.
use Rattle.std.proofs.Common.{◌≡◌, ℕ, zero, suc, ◌<◌, Bool, true, false, cond, ◌==◌, List, [], length, refl, sym, ap, ◌∙◌}
use Rattle.std.specs.Prelude.{Option, None, replicate, slice_index_or, slice_set}
use Rattle.std.proofs.lemmas.Bool.{eqb-false}
use Rattle.std.proofs.lemmas.Bool.Decides.{Decides-eqb}
use Rattle.std.proofs.lemmas.Grind.{get_or-set_at}
use Rattle.std.proofs.lemmas.List.{get_or-set_other}
use Rattle.nys_rules.specs.declared.kept.Attested.{Attested}
use Rattle.nys_source.specs.Tables.{put, put_at}
use Rattle.nys_attest.proofs.TableLemmas.{same_inside}
use Rattle.nys_attest.specs.Ranges.{link_at}

-- the range at a place of the row that stands at the receiver's place
pub range_of : (table : List (List (Option Attested))) (p h : ℕ) (row : List (Option Attested)) → h < length table
    → row ≡ slice_index_or table h row → slice_index_or row p None ≡ link_at table p h
unfolding link_at
range_of table p h row few is = ap (λ r. slice_index_or r p None) (is ∙ same_inside table h row [] few)

-- one place of a row changes
pub row_put : (row : List (Option Attested)) (p : ℕ) (range : Option Attested) → p < length row → (q : ℕ)
    → slice_index_or (slice_set row p range) q None ≡ put (λ x. slice_index_or row x None) p range q
row_put row p range few q = by (q == p) refl
  where
    by : (b : Bool) → (q == p) ≡ b
        → slice_index_or (slice_set row p range) q None ≡ cond b range (slice_index_or row q None)
    by true e = get_or-set_at row p q range None ((Decides-eqb q p).0 e) few
    by false e = get_or-set_other row p q range None (eqb-false q p e)

-- the range of one link changes
pub range_put : (table : List (List (Option Attested))) (p h : ℕ) (old row : List (Option Attested)) (range : Option Attested)
    → h < length table → old ≡ slice_index_or table h old
    → ((q : ℕ) → slice_index_or row q None ≡ put (λ x. slice_index_or old x None) p range q) → (q g : ℕ)
    → link_at (slice_set table h row) q g ≡ put_at (link_at table) p h range q g
unfolding link_at
range_put table p h old row range few is same q g = by (q == p) refl
  where
    held_at : ℕ → ℕ → Option Attested
    held_at x y = slice_index_or (slice_index_or table y []) x None

    old_is : old ≡ slice_index_or table h []
    old_is = is ∙ same_inside table h old [] few

    found : Option Attested
    found = slice_index_or (slice_index_or (slice_set table h row) g []) q None

    in_row : g ≡ h → found ≡ cond (q == p) range (slice_index_or old q None)
    in_row at = ap (λ r. slice_index_or r q None) (get_or-set_at table h g row [] at few) ∙ same q

    in_other : (g == h) ≡ false → found ≡ held_at q g
    in_other e = ap (λ r. slice_index_or r q None) (get_or-set_other table h g row [] (eqb-false g h e))

    of_sender : (b : Bool) → (g == h) ≡ b → q ≡ p → (q == p) ≡ true → found ≡ cond b range (held_at p g)
    of_sender true e at is_p = in_row ((Decides-eqb g h).0 e) ∙ ap (λ c. cond c range (slice_index_or old q None)) is_p
    of_sender false e at is_p = in_other e ∙ ap (λ x. held_at x g) at

    of_other : (b : Bool) → (g == h) ≡ b → (q == p) ≡ false → found ≡ held_at q g
    of_other true e is_q = in_row ((Decides-eqb g h).0 e) ∙ ap (λ c. cond c range (slice_index_or old q None)) is_q
        ∙ ap (λ r. slice_index_or r q None) (old_is ∙ ap (λ y. slice_index_or table y []) (sym ((Decides-eqb g h).0 e)))
    of_other false e is_q = in_other e

    by : (b : Bool) → (q == p) ≡ b → found ≡ cond b (put (link_at table p) h range) (link_at table q) g
    by true e = of_sender (g == h) refl ((Decides-eqb q p).0 e) e
    by false e = of_other (g == h) refl e

-- a list of copies has the copy at each place, and the other past its end
copies : {X : Type 0} (n i : ℕ) (x : X) → slice_index_or (replicate n x) i x ≡ x
copies zero i x = refl
copies (suc n) zero x = refl
copies (suc n) (suc i) x = copies n i x

-- at first no link has a range
pub none_at : (n m p h : ℕ) → link_at (replicate n (replicate m None)) p h ≡ None
unfolding link_at
none_at n m p h = row n h
  where
    row : (n h : ℕ) → slice_index_or {A = Option Attested} (slice_index_or (replicate n (replicate m None)) h []) p None ≡ None
    row zero h = refl
    row (suc n) zero = copies m p None
    row (suc n) (suc h) = row n h
