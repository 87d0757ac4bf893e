-- What is printed of the hosts that pass a test, one host after another.
use Rattle.std.proofs.Common.{◌≡◌, ℕ, suc, ◌+◌, ◌-◌, ◌<◌, ◌++◌, Bool, true, false, List, [], ◌∷◌, refl, ap, sym, ◌∙◌, arith}
use Rattle.std.proofs.lemmas.List.{append_assoc}
use Rattle.std.specs.List.{flat_map, range_with_len}
use Rattle.std.specs.Prelude.{filter}

-- what is printed of the hosts that pass
abbrev pub picked : {A : Type 0} → (ℕ → List A) → (ℕ → Bool) → List ℕ → List A
picked f p hosts = flat_map f (filter p hosts)

-- what is printed of the first host, then of the others
pub picked_more : {A : Type 0} (f : ℕ → List A) (p : ℕ → Bool) (h : ℕ) (hosts : List ℕ)
    → picked f p (h ∷ hosts) ≡ picked f p (h ∷ []) ++ picked f p hosts
picked_more f p h hosts = go (p h) refl
  where
    go : (b : Bool) → p h ≡ b → picked f p (h ∷ hosts) ≡ picked f p (h ∷ []) ++ picked f p hosts
    go true e = rw e (sym (append_assoc (f h) [] (flat_map f (filter p hosts))))
    go false e = rw e refl

-- the same of all hosts from one on
pub picked_next : {A : Type 0} (f : ℕ → List A) (p : ℕ → Bool) (h hosts : ℕ) → h < hosts
    → picked f p (range_with_len h (hosts - h)) ≡ picked f p (h ∷ []) ++ picked f p (range_with_len (h + 1) (hosts - (h + 1)))
picked_next f p h hosts inside =
    let left : hosts - h ≡ suc (hosts - (h + 1)) = omega arith in
    ap (λ n. picked f p (range_with_len h n)) left ∙ picked_more f p h (range_with_len (h + 1) (hosts - (h + 1)))

-- text that has what is printed of a host behind it, then the rest, is text with all from the host on
pub picked_on : {A : Type 0} (f : ℕ → List A) (p : ℕ → Bool) (h hosts : ℕ) (before after : List A) → h < hosts
    → after ≡ before ++ picked f p (h ∷ [])
    → after ++ picked f p (range_with_len (h + 1) (hosts - (h + 1))) ≡ before ++ picked f p (range_with_len h (hosts - h))
picked_on f p h hosts before after inside more =
    let rest = picked f p (range_with_len (h + 1) (hosts - (h + 1))) in
    ap (λ t. t ++ rest) more
    ∙ append_assoc before (picked f p (h ∷ [])) rest
    ∙ ap (λ t. before ++ t) (sym (picked_next f p h hosts inside))

-- what is printed of the hosts that pass depends on them alone
pub picked_same : {A : Type 0} (f k : ℕ → List A) (p : ℕ → Bool) (hosts : List ℕ) → ((h : ℕ) → p h ≡ true → f h ≡ k h) → picked f p hosts ≡ picked k p hosts
picked_same f k p [] same = refl
picked_same f k p (h ∷ hosts) same = go (p h) refl (picked_same f k p hosts same)
  where
    go : (b : Bool) → p h ≡ b → picked f p hosts ≡ picked k p hosts → picked f p (h ∷ hosts) ≡ picked k p (h ∷ hosts)
    go true e rest = rw e (ap (λ t. t ++ picked f p hosts) (same h e) ∙ ap (λ t. k h ++ t) rest)
    go false e rest = rw e rest
