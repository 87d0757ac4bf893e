-- Links take turns: not as many slots as the credit are all of different other links, where no host has more neighbours.
use Rattle.std.proofs.Common.{◌≡◌, ◌≢◌, ℕ, zero, suc, ◌+◌, ◌<◌, ◌≤◌, ◌⊎◌, ◌==◌, ◌&&◌, ◌||◌, Bool, true, false, cond, ℤ, List, [], ◌∷◌, ◌++◌, length, Some, refl, ap, sym, subst, ◌∙◌, inl, inr, arith, length-append, eq-eqb}
use Rattle.std.specs.Prelude.{slice_get}
use Rattle.std.proofs.lemmas.Bool.{cases_eq, eqb-true, ne_eqb}
use Rattle.std.proofs.lemmas.List.{append_assoc}
use Rattle.std.proofs.lemmas.Option.{slice_get_within}
use Rattle.nys_agreement.specs.Alone.{alone, Fits}
use Rattle.nys_agreement.proofs.ListLemmas.{append_some, get_inside}
use Rattle.nys_bytes.specs.declared.content.Content.{Content}
use Rattle.nys_bytes.specs.declared.content.Content.TheVariants.{External, Message}
use Rattle.nys_hosts.specs.Counts.{AtLeast, count_below, hosts_with}
use Rattle.nys_hosts.proofs.CountLemmas.{count_below-suc, count_below-zero, hosts_with-more, hosts_with-none, hosts_with-some, hosts_with-within}
use Rattle.nys_source.specs.Rules.{Rules}
use Rattle.nys_laws.specs.Rests.{AllFit}
use Rattle.nys_progress.proofs.GrownHeads.{IsOf}
use Rattle.nys_progress.proofs.HeldHeads.{HasOf, last_get, of_or_not, received_other}

-- ---- the first message

-- number k of p stands in the log in a slot below the end
pub record HasNumber (p k : ℕ) (log : List Content) (end : ℕ) : Type 0 where
  pub slot : ℕ
  pub payload : List ℤ
  pub entry : slice_get log slot ≡ Some (Message p k payload)
  pub within : slot < end

-- what stands at the length of the first part
middle_get : (xs ys : List Content) (c : Content) → slice_get (xs ++ c ∷ ys) (length xs) ≡ Some c
middle_get [] ys c = refl
middle_get (x ∷ xs) ys c = middle_get xs ys c

-- the number of a message that fits is how many were received
fitting_number : {S : Type 0} (rules : Rules S) (h p k : ℕ) (before : List Content) (c : Content) → IsOf p c
    → Fits rules h before c → (alone rules h before).received p h ≡ k → (payload : List ℤ) × (c ≡ Message p k payload)
fitting_number rules h p k before (External payload) of fits next = absurd of
fitting_number {S} rules h p k before (Message q n payload) of fits next =
    let number : n ≡ k = fits.2 ∙ (ap (λ x. (alone rules h before).received x h) (sym of) ∙ next) in
    (payload, ap (λ x. Message x n payload) (sym of) ∙ ap (λ x. Message p x payload) number)

-- where a message of the link stands in a log from some length on, the one whose number came next there does
pub first_number : {S : Type 0} (rules : Rules S) (h p k to : ℕ) (log before rest : List Content) → log ≡ before ++ rest
    → AllFit rules h log → (alone rules h before).received p h ≡ k → HasOf p log (length before) to
    → HasNumber p k log to
first_number rules h p k to log before [] is fits next has = absurd
    (let low = slice_get_within log has.place has.content has.entry in
    let long = ap length is in let same = length-append before [] in let above = has.above in omega (arith, low, long, same, above))
first_number {S} rules h p k to log before (c ∷ rest) is fits next has = elim (of_or_not p c) [
  | inl of ↦
      let number = fitting_number rules h p k before c of (fits before rest c is) next in
      record {
        slot = length before;
        payload = number.0;
        entry = here ∙ ap Some number.1;
        within = let above = has.above in let below = has.below in omega (arith, above, below);
      }
  | inr other ↦ first_number rules h p k to log (before ++ c ∷ []) rest
      (is ∙ sym (append_assoc before (c ∷ []) rest)) fits
      (received_other rules h p before c other ∙ next) (later other)
]
  where
    here : slice_get log (length before) ≡ Some c
    here = ap (λ (l : List Content). slice_get l (length before)) is ∙ middle_get before rest c

    later : (IsOf p c → ⊥) → HasOf p log (length (before ++ c ∷ [])) to
    later other = record {
      place = has.place;
      content = has.content;
      entry = has.entry;
      is = has.is;
      above = let long = length-append before (c ∷ []) in elim (cases_eq has.place (length before)) [
        | inl same ↦ absurd
            (let both = sym here ∙ (ap (slice_get log) (sym same) ∙ has.entry) in
            let content : c ≡ has.content = cc in other (subst (IsOf p) (sym content) has.is))
        | inr ne ↦ let above = has.above in behind (length before) has.place (length (before ++ c ∷ [])) above ne (omega (arith, long))
      ];
      below = has.below;
    }
      where
        behind : (a b n : ℕ) → a ≤ b → b ≢ a → n ≡ a + 1 → n ≤ b
        behind a b n le ne is = omega (arith, le, ne, is)

-- ---- turns

-- a slot of the window takes the link
abbrev used : (link : ℕ → ℕ) (from n : ℕ) → ℕ → Bool
used link from zero x = false
used link from (suc n) x = (link (from + n) == x) || used link from n x

-- a link that no slot takes
not_used : (link : ℕ → ℕ) (from n x : ℕ) → ((i : ℕ) → i < n → link (from + i) ≢ x) → used link from n x ≡ false
not_used link from zero x other = refl
not_used link from (suc n) x other =
    ap (λ (b : Bool). b || used link from n x) (ne_eqb (link (from + n)) x (other n (omega arith)))
    ∙ not_used link from n x (λ i low. other i (omega (arith, low)))

-- a link that some slot takes
used_by : (link : ℕ → ℕ) (from n x : ℕ) → used link from n x ≡ true → (i : ℕ) × (i < n) × (link (from + i) ≡ x)
used_by link from zero x is = absurd (cc)
used_by link from (suc n) x is = by (link (from + n) == x) refl is (λ rest. used_by link from n x rest)
  where
    by : (b : Bool) → (link (from + n) == x) ≡ b → (b || used link from n x) ≡ true
        → (used link from n x ≡ true → (i : ℕ) × (i < n) × (link (from + i) ≡ x))
        → (i : ℕ) × (i < suc n) × (link (from + i) ≡ x)
    by true same is later = (n, omega arith, eqb-true (link (from + n)) x same)
    by false same is later = let old = later is in let low = old.1 in (old.0, omega (arith, low), old.2)

-- the slots take as many links as they are, where these differ
used_count : (link : ℕ → ℕ) (from n : ℕ) → ((i : ℕ) → i < n → link (from + i) < 32)
    → ((i j : ℕ) → i < j → j < n → link (from + i) ≢ link (from + j)) → hosts_with (used link from n) ≡ n
used_count link from zero low differ = hosts_with-none (used link from zero) (λ x is. refl)
used_count link from (suc n) low differ =
    let new = not_used link from n (link (from + n)) (λ i less. differ i n less (omega arith)) in
    let more = hosts_with-more (used link from n) (link (from + n)) (low n (omega arith)) new in
    let old = used_count link from n (λ i less. low i (omega (arith, less))) (λ i j one two. differ i j one (omega (arith, two))) in
    omega (arith, more, old)

-- no window as long as the credit takes different neighbours but one, where these are no more than the credit
pub no_room : (near : ℕ → Bool) (p credit from : ℕ) (link : ℕ → ℕ) → hosts_with near ≤ credit → p < 32 → near p ≡ true
    → ((i : ℕ) → i < credit → (link (from + i) < 32) × (near (link (from + i)) ≡ true) × (p ≢ link (from + i)))
    → ((i j : ℕ) → i < j → j < credit → link (from + i) ≢ link (from + j)) → ⊥
no_room near p credit from link few low is each differ =
    let count = used_count link from credit (λ i less. (each i less).0) differ in
    let not_it = not_used link from credit p (λ i less same. (each i less).2 (sym same)) in
    let more = hosts_with-more (used link from credit) p low not_it in
    let within = hosts_with-within (λ h. (p == h) || used link from credit h) near (λ h less passes. by h (p == h) refl passes) in
    omega (arith, few, count, more, within)
  where
    by : (h : ℕ) (b : Bool) → (p == h) ≡ b → (b || used link from credit h) ≡ true → near h ≡ true
    by h true same passes = subst (λ x. near x ≡ true) (eqb-true p h same) is
    by h false same passes =
        let at = used_by link from credit h passes in subst (λ x. near x ≡ true) at.2 (each at.0 at.1).1

-- ---- a common maker

-- one host of two parts of a whole
one_share : (a b all : Bool) → (a ≡ true → all ≡ true) → (b ≡ true → all ≡ true)
    → cond a 1 0 + cond b 1 0 ≤ cond all 1 0 + cond (a && b) 1 0
one_share true true true p q = omega arith
one_share true true false p q = absurd (let e = p refl in cc)
one_share true false true p q = omega arith
one_share true false false p q = absurd (let e = p refl in cc)
one_share false true true p q = omega arith
one_share false true false p q = absurd (let e = q refl in cc)
one_share false false true p q = omega arith
one_share false false false p q = omega arith

-- two parts of a whole are together no more than it and what they share
overlap : (a b all : ℕ → Bool) → ((h : ℕ) → a h ≡ true → all h ≡ true) → ((h : ℕ) → b h ≡ true → all h ≡ true) → (n : ℕ)
    → count_below a n + count_below b n ≤ count_below all n + count_below (λ h. a h && b h) n
overlap a b all p q zero = omega (arith, count_below-zero a, count_below-zero b)
overlap a b all p q (suc n) =
    omega (
      arith,
      overlap a b all p q n,
      one_share (a n) (b n) (all n) (p n) (q n),
      count_below-suc a n,
      count_below-suc b n,
      count_below-suc all n,
      count_below-suc (λ h. a h && b h) n,
    )

both : (x y : Bool) → (x && y) ≡ true → (x ≡ true) × (y ≡ true)
both true y e = (refl, e)
both false y e = absurd (cc)

-- parts that are together more than the whole have a maker in common
pub common_maker : (all : ℕ → Bool) (m n : ℕ) (P Q : ℕ → Type 0) → ((g : ℕ) → P g → all g ≡ true) → ((g : ℕ) → Q g → all g ≡ true)
    → hosts_with all < m + n → AtLeast m P → AtLeast n Q → (g : ℕ) × P g × Q g
unfolding hosts_with
common_maker all m n P Q in_p in_q more first second =
    let shared = overlap first.makers second.makers all (λ h is. in_p h (first.each h is)) (λ h is. in_q h (second.each h is)) 32 in
    let one = first.enough in
    let two = second.enough in
    let h = hosts_with-some (λ h. first.makers h && second.makers h) (omega (arith, shared, one, two, more)) in
    let each = both (first.makers h.0) (second.makers h.0) h.2 in
    (h.0, first.each h.0 each.0, second.each h.0 each.1)
