-- What a value that is there tells of those that it was made of.
use Rattle.std.proofs.Common.{◌≡◌, ◌≤◌, ℕ, List, ◌∷◌, Bool, true, false, cond, Option, Some, None, is_some, length, refl, subst, nat_le, arith}
use Rattle.std.specs.List.{cons_option}
use Rattle.std.specs.Option.{option_map}
use Rattle.std.proofs.lemmas.Bool.{leb-true}
use Rattle.std.proofs.lemmas.Option.{cond_some, same_Some}
use Rattle.nys_text.specs.Numbers.{num_of}
use Rattle.nys_rules.proofs.CertificateLemmas.{both_true}
use Rattle.nys_schedule.specs.Choices.{◌>>=◌, all_write, each_of, upto, within, written}

-- what is mapped is there
pub mapped : {A R : Type 0} (f : A → R) (a : Option A) (r : R) → option_map f a ≡ Some r
    → (x : A) × (a ≡ Some x) × (f x ≡ r)
mapped f (Some x) r e = (x, refl, same_Some (f x) r e)
mapped f None r e = absurd (cc)

-- what something is made of is there
pub chained : {A R : Type 0} (a : Option A) (f : A → Option R) (r : R) → (a >>= f) ≡ Some r
    → (x : A) × (a ≡ Some x) × (f x ≡ Some r)
chained (Some x) f r e = (x, refl, e)
chained None f r e = absurd (cc)

-- both that something is made of are there
pub of_two : {A B R : Type 0} (a : Option A) (b : Option B) (f : A → B → R) (r : R)
    → (a >>= λ x. b >>= λ y. Some (f x y)) ≡ Some r
    → (x : A) × (y : B) × (a ≡ Some x) × (b ≡ Some y) × (f x y ≡ r)
of_two (Some x) (Some y) f r e = (x, y, refl, refl, same_Some (f x y) r e)
of_two (Some x) None f r e = absurd (cc)
of_two None b f r e = absurd (cc)

-- all three that something is made of are there
pub of_three : {A B C R : Type 0} (a : Option A) (b : Option B) (c : Option C) (f : A → B → C → R) (r : R)
    → (a >>= λ x. b >>= λ y. c >>= λ z. Some (f x y z)) ≡ Some r
    → (x : A) × (y : B) × (z : C) × (a ≡ Some x) × (b ≡ Some y) × (c ≡ Some z) × (f x y z ≡ r)
of_three (Some x) (Some y) (Some z) f r e = (x, y, z, refl, refl, refl, same_Some (f x y z) r e)
of_three (Some x) (Some y) None f r e = absurd (cc)
of_three (Some x) None c f r e = absurd (cc)
of_three None b c f r e = absurd (cc)

-- all four that something is made of are there
pub of_four : {A B C D R : Type 0} (a : Option A) (b : Option B) (c : Option C) (d : Option D)
    (f : A → B → C → D → R) (r : R)
    → (a >>= λ x. b >>= λ y. c >>= λ z. d >>= λ w. Some (f x y z w)) ≡ Some r
    → (x : A) × (y : B) × (z : C) × (w : D)
    × (a ≡ Some x) × (b ≡ Some y) × (c ≡ Some z) × (d ≡ Some w) × (f x y z w ≡ r)
of_four (Some x) (Some y) (Some z) (Some w) f r e =
    (x, y, z, w, refl, refl, refl, refl, same_Some (f x y z w) r e)
of_four (Some x) (Some y) (Some z) None f r e = absurd (cc)
of_four (Some x) (Some y) None d f r e = absurd (cc)
of_four (Some x) None c d f r e = absurd (cc)
of_four None b c d f r e = absurd (cc)

-- what is there behind a test passed it
pub tested : {A : Type 0} (b : Bool) (o : Option A) (r : A) → cond b o None ≡ Some r
    → (b ≡ true) × (o ≡ Some r)
tested true o r e = (refl, e)
tested false o r e = absurd (cc)

-- what is there where a test failed
pub untested : {A : Type 0} (b : Bool) (o : Option A) (r : A) → cond b None o ≡ Some r → o ≡ Some r
untested true o r e = absurd (cc)
untested false o r e = e

-- what words write, of which each writes something, is as much as there are words: one or more
pub each_some : {A : Type 0} (of_word : List ℕ → Option A) (word : List ℕ) (words : List (List ℕ)) (r : List A)
    → each_of of_word (word ∷ words) ≡ Some r → 1 ≤ length r
each_some {A} of_word word words r e =
    let passed = cond_some (all_write of_word (word ∷ words)) (written of_word (word ∷ words)) r e in
    let first = both_true (is_some (of_word word)) (all_write of_word words) passed.0 in
    subst (λ xs. 1 ≤ length xs) passed.1 (go (of_word word) first.0)
  where
    go : (o : Option A) → is_some o ≡ true → 1 ≤ length (cons_option o (written of_word words))
    go (Some x) there = omega arith
    go None there = absurd (cc)

-- a number within a range is in it
pub within_most : (most : ℕ) (o : Option ℕ) (n : ℕ) → within most o ≡ Some n → n ≤ most
within_most most None n e = absurd (cc)
within_most most (Some m) n e =
    let passed = cond_some (nat_le m most) m n e in
    subst (λ k. k ≤ most) passed.1 (leb-true m most passed.0)

-- so is the number of a word
pub upto_most : (most : ℕ) (word : List ℕ) (n : ℕ) → upto most word ≡ Some n → n ≤ most
upto_most most word n e = within_most most (num_of word) n e
