-- Lines and hosts, one more at a time.
use Rattle.std.proofs.Common.{◌≡◌, ℕ, zero, suc, ◌+◌, ◌++◌, Bool, true, false, cond, List, [], ◌∷◌, codes, refl, sym, ap, ◌∙◌, arith, add-one, add-zero, zero-add, append_assoc, append-nil}
use Rattle.std.specs.Prelude.{decimal, filter, flat_map}
use Rattle.std.specs.List.{join_by, range_with_len}
use Rattle.std.proofs.lemmas.Grind.{flat_map-append}
use Rattle.std.proofs.lemmas.List.Elements.{filter-append}
use Rattle.nys_hosts.specs.Makers.{passing}
use Rattle.nys_guard_commands.specs.Planned.{comma_before}

-- a range by its last number
range_more_from : (a n : ℕ) → range_with_len a (suc n) ≡ range_with_len a n ++ (a + n) ∷ []
range_more_from a zero = rw (add-zero a) refl
range_more_from a (suc n) =
    let e : a + suc n ≡ a + 1 + n = omega arith in rw e (ap (λ xs. a ∷ xs) (range_more_from (a + 1) n))

range_more : (n : ℕ) → range_with_len 0 (n + 1) ≡ range_with_len 0 n ++ n ∷ []
range_more n = ap (range_with_len 0) (add-one n) ∙ range_more_from 0 n ∙ ap (λ m. range_with_len 0 n ++ m ∷ []) (zero-add n)

-- the lines of one number more
pub flat_more : (f : ℕ → List ℕ) (n : ℕ) → flat_map f (range_with_len 0 (n + 1)) ≡ flat_map f (range_with_len 0 n) ++ f n
flat_more f n =
    ap (flat_map f) (range_more n) ∙ flat_map-append f (range_with_len 0 n) (n ∷ [])
    ∙ ap (λ ys. flat_map f (range_with_len 0 n) ++ ys) (append-nil (f n))

-- the hosts below n that pass a test, rising
pub passing_below : (ℕ → Bool) → ℕ → List ℕ
passing_below p n = filter p (range_with_len 0 n)

-- the list has members
pub has_some : List ℕ → Bool
has_some [] = false
has_some (x ∷ xs) = true

-- a host more, which passes
below_more : (p : ℕ → Bool) (n : ℕ) → passing_below p (n + 1) ≡ passing_below p n ++ cond (p n) (n ∷ []) []
unfolding passing_below
below_more p n = ap (filter p) (range_more n) ∙ filter-append p (range_with_len 0 n) (n ∷ [])

has_some-more : (xs : List ℕ) (x : ℕ) → has_some (xs ++ x ∷ []) ≡ true
unfolding has_some
has_some-more [] x = refl
has_some-more (y ∷ ys) x = refl

-- one member more stands behind a comma where others stand before it
join_more : (xs : List ℕ) (x : ℕ)
    → join_by decimal (codes ",") (xs ++ x ∷ []) ≡ join_by decimal (codes ",") xs ++ (comma_before (has_some xs) ++ decimal x)
unfolding has_some
join_more [] x = append-nil (decimal x)
join_more (y ∷ ys) x =
    let f : ℕ → List ℕ = λ n. codes "," ++ decimal n in
    ap (λ zs. decimal y ++ zs) (flat_map-append f ys (x ∷ []) ∙ ap (λ zs. flat_map f ys ++ zs) (append-nil (f x)))
    ∙ sym (append_assoc (decimal y) (flat_map f ys) (f x))

-- the text with a host more, which passes
pub hosts_with_one : (p : ℕ → Bool) (n : ℕ) (before now more : List ℕ) (started : Bool) → p n ≡ true
    → now ≡ before ++ join_by decimal (codes ",") (passing_below p n)
    → started ≡ has_some (passing_below p n)
    → more ≡ now ++ (comma_before started ++ decimal n)
    → (more ≡ before ++ join_by decimal (codes ",") (passing_below p (n + 1))) × (has_some (passing_below p (n + 1)) ≡ true)
hosts_with_one p n before now more started passes is some next =
    let grown : passing_below p (n + 1) ≡ passing_below p n ++ n ∷ [] =
    below_more p n ∙ ap (λ b. passing_below p n ++ cond b (n ∷ []) []) passes in
    let joined = join_more (passing_below p n) n in (
      next ∙ ap (λ b. now ++ (comma_before b ++ decimal n)) some
          ∙ ap (λ t. t ++ (comma_before (has_some (passing_below p n)) ++ decimal n)) is
          ∙ append_assoc before (join_by decimal (codes ",") (passing_below p n)) (comma_before (has_some (passing_below p n)) ++ decimal n)
          ∙ ap (λ t. before ++ t) (sym joined)
          ∙ ap (λ xs. before ++ join_by decimal (codes ",") xs) (sym grown),
      ap has_some grown ∙ has_some-more (passing_below p n) n,
    )

-- a host that does not pass is none more
pub same_below : (p : ℕ → Bool) (n : ℕ) → p n ≡ false → passing_below p (n + 1) ≡ passing_below p n
same_below p n fails = below_more p n ∙ ap (λ b. passing_below p n ++ cond b (n ∷ []) []) fails ∙ append-nil (passing_below p n)

-- at first there is none
pub none_below : (p : ℕ → Bool) → passing_below p 0 ≡ []
unfolding passing_below
none_below p = refl

pub none_some : has_some [] ≡ false
unfolding has_some
none_some = refl

-- of 32 hosts they are the members of a set
pub all_below : (p : ℕ → Bool) → passing_below p 32 ≡ passing p
unfolding passing_below passing
all_below p = refl

-- the text with the lines of one number more
pub lines_more : (f : ℕ → List ℕ) (n : ℕ) (before line now more : List ℕ)
    → now ≡ before ++ (line ++ flat_map f (range_with_len 0 n)) → more ≡ now ++ f n
    → more ≡ before ++ (line ++ flat_map f (range_with_len 0 (n + 1)))
lines_more f n before line now more is next =
    let lines = flat_map f (range_with_len 0 n) in
    next ∙ ap (λ t. t ++ f n) is ∙ append_assoc before (line ++ lines) (f n)
    ∙ ap (λ t. before ++ t) (append_assoc line lines (f n) ∙ ap (λ t. line ++ t) (sym (flat_more f n)))
