-- A list that is written member by member.
use Rattle.std.proofs.Common.{◌≡◌, ℕ, suc, ◌+◌, ◌<◌, List, [], ◌∷◌, ◌++◌, length, drop, take, get_or, sym, ap, ◌∙◌, append_assoc, append-nil, arith}
use Rattle.std.specs.List.{flat_map}
use Rattle.std.proofs.lemmas.List.{at_drop_more}
use Rattle.std.proofs.Math.Seq.{take-suc}
use Rattle.std.proofs.lemmas.Grind.{flat_map-append}
use Rattle.std.proofs.lemmas.List.Concat.{flat_map-cons}

-- with one member more written, what is written and what is left to write is the whole as before
pub one_more_written : {X : Type 0} (f : X → List ℕ) (xs : List X) (i : ℕ) (d x : X) (was now total : List ℕ)
    → i < length xs → x ≡ get_or xs i d → now ≡ was ++ f x → was ++ flat_map f (drop i xs) ≡ total
    → now ++ flat_map f (drop (i + 1) xs) ≡ total
one_more_written f xs i d x was now total lt is written whole =
    let rest = flat_map f (drop (i + 1) xs) in
    let left : flat_map f (drop i xs) ≡ f (get_or xs i d) ++ rest =
    at_drop_more (flat_map f) xs i d lt ∙ flat_map-cons f (get_or xs i d) (drop (i + 1) xs) in
    let same : f (get_or xs i d) ++ rest ≡ f x ++ rest = ap (λ y. f y ++ rest) (sym is) in
    ap (λ t. t ++ rest) written ∙ append_assoc was (f x) rest ∙ ap (λ t. was ++ t) (sym (left ∙ same)) ∙ whole

-- the bytes of the members so far, with those of one more
pub one_more_taken : {X : Type 0} (f : X → List ℕ) (xs : List X) (i : ℕ) (d x : X) (before : List ℕ)
    → i < length xs → x ≡ get_or xs i d
    → (before ++ flat_map f (take i xs)) ++ f x ≡ before ++ flat_map f (take (i + 1) xs)
one_more_taken f xs i d x before lt is =
    let last : flat_map f (get_or xs i d ∷ []) ≡ f x = flat_map-cons f (get_or xs i d) [] ∙ append-nil (f (get_or xs i d)) ∙ ap f (sym is) in
    let next : i + 1 ≡ suc i = omega arith in
    let whole : flat_map f (take (i + 1) xs) ≡ flat_map f (take i xs) ++ f x =
    ap (λ n. flat_map f (take n xs)) next ∙ ap (flat_map f) (take-suc xs i d lt) ∙ flat_map-append f (take i xs) (get_or xs i d ∷ []) ∙ ap (λ t. flat_map f (take i xs) ++ t) last in
    append_assoc before (flat_map f (take i xs)) (f x) ∙ ap (λ t. before ++ t) (sym whole)
