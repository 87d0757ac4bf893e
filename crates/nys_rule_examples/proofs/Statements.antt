-- Whether a ledger has a statement, computed.
use Rattle.std.proofs.Common.{◌≡◌, ℕ, zero, suc, ◌<◌, length, arith, subst, ◌⊎◌, List, [], ◌∷◌, refl, ap, ap₂, inl, inr, true, false, ◌&&◌, ◌||◌, None, Some, eq-eqb}
use Rattle.std.specs.Prelude.{Bool, ℤ, Option, nat_eq, slice_index_or, Contains}
use Rattle.std.specs.Ordering.{int_eq}
use Rattle.std.proofs.lemmas.Bool.{eqb-true}
use Rattle.std.proofs.lemmas.Bool.Decides.{Decides-int_eq}
use Rattle.nys_bytes.specs.declared.content.Content.{Content}
use Rattle.nys_bytes.specs.declared.content.Content.TheVariants.{External, Message}
use Rattle.nys_stmt.specs.declared.statement.Body.{Body}
use Rattle.nys_stmt.specs.declared.statement.Body.TheVariants.{Filled, Attest, Ask, Wedge, Frozen, Open}
use Rattle.nys_stmt.specs.declared.statement.Statement.{Statement}
use Rattle.nys_rules.specs.Forged.{Entry, HasMade}
use Rattle.nys_rules.specs.Same.{same_kind}
use Rattle.nys_rules.proofs.SameLemmas.{kind_is, kind_same}

-- both tests pass
both : {x y : Bool} → (x && y) ≡ true → (x ≡ true) × (y ≡ true)
both {x = true} {y = true} e = (refl, refl)
both {x = true} {y = false} e = absurd (cc)
both {x = false} {y} e = absurd (cc)

-- one of two tests passes
either : {x y : Bool} → (x || y) ≡ true → (x ≡ true) ⊎ (y ≡ true)
either {x = true} {y} e = inl refl
either {x = false} {y} e = inr e

-- both are the same payload
abbrev same_numbers : List ℤ → List ℤ → Bool
same_numbers [] [] = true
same_numbers (x ∷ xs) (y ∷ ys) = int_eq x y && same_numbers xs ys
same_numbers _ _ = false

-- payloads that pass are the same
numbers_is : (xs ys : List ℤ) → same_numbers xs ys ≡ true → xs ≡ ys
numbers_is [] [] e = refl
numbers_is [] (y ∷ ys) e = absurd (cc)
numbers_is (x ∷ xs) [] e = absurd (cc)
numbers_is (x ∷ xs) (y ∷ ys) e =
    let b = both e in
    ap₂ (λ (z : ℤ) (zs : List ℤ). z ∷ zs) ((Decides-int_eq x y).0 b.0) (numbers_is xs ys b.1)

-- both are the same content
abbrev same : Content → Content → Bool
same (External x) (External y) = same_numbers x y
same (Message p k x) (Message q n y) = nat_eq p q && (nat_eq k n && same_numbers x y)
same _ _ = false

-- contents that pass are the same
same_is : (c d : Content) → same c d ≡ true → c ≡ d
same_is (External x) (External y) e = ap External (numbers_is x y e)
same_is (Message p k x) (Message q n y) e =
    let a = both e in
    let b = both a.1 in
    let p_is = eqb-true p q a.0 in
    let k_is = eqb-true k n b.0 in
    let x_is = numbers_is x y b.1 in
    cc
same_is (External x) (Message p k y) e = absurd (cc)
same_is (Message p k x) (External y) e = absurd (cc)

-- both are the same length, or none
abbrev same_length : Option ℕ → Option ℕ → Bool
same_length None None = true
same_length (Some x) (Some y) = nat_eq x y
same_length _ _ = false

-- lengths that pass are the same
length_is : (x y : Option ℕ) → same_length x y ≡ true → x ≡ y
length_is None None e = refl
length_is (Some x) (Some y) e = ap Some (eqb-true x y e)
length_is None (Some y) e = absurd (cc)
length_is (Some x) None e = absurd (cc)

-- both are the same lengths
abbrev same_lengths : List (Option ℕ) → List (Option ℕ) → Bool
same_lengths [] [] = true
same_lengths (x ∷ xs) (y ∷ ys) = same_length x y && same_lengths xs ys
same_lengths _ _ = false

-- lists of lengths that pass are the same
lengths_is : (xs ys : List (Option ℕ)) → same_lengths xs ys ≡ true → xs ≡ ys
lengths_is [] [] e = refl
lengths_is [] (y ∷ ys) e = absurd (cc)
lengths_is (x ∷ xs) [] e = absurd (cc)
lengths_is (x ∷ xs) (y ∷ ys) e =
    let b = both e in
    ap₂ (λ (z : Option ℕ) (zs : List (Option ℕ)). z ∷ zs) (length_is x y b.0) (lengths_is xs ys b.1)

-- host, slot and content are these
abbrev same_slot : ℕ → ℕ → Content → ℕ → ℕ → Content → Bool
same_slot h s c i r d = nat_eq h i && (nat_eq s r && same c d)

-- those that pass are the same
slot_is : (h s : ℕ) (c : Content) (i r : ℕ) (d : Content) → same_slot h s c i r d ≡ true → (h ≡ i) × (s ≡ r) × (c ≡ d)
slot_is h s c i r d q = let a = both q in let b = both a.1 in (eqb-true h i a.0, eqb-true s r b.0, same_is c d b.1)

-- both are the same body
abbrev same_body : Body → Body → Bool
same_body (Filled k h s c) (Filled l i r d) = same_kind k l && same_slot h s c i r d
same_body (Attest p h k x) (Attest q i n y) = (nat_eq p q && nat_eq h i) && (nat_eq k n && same_numbers x y)
same_body (Ask h s) (Ask i r) = nat_eq h i && nat_eq s r
same_body (Frozen h s) (Frozen i r) = nat_eq h i && nat_eq s r
same_body (Open x) (Open y) = same_lengths x y
same_body Wedge Wedge = true
same_body _ _ = false

-- bodies that pass are the same
body_is : (a b : Body) → same_body a b ≡ true → a ≡ b
body_is (Filled k h s c) (Filled l i r d) q =
    let b = both q in
    let w = kind_is k l b.0 in
    let a = slot_is h s c i r d b.1 in
    let x = a.0 in
    let y = a.1 in
    let z = a.2 in
    cc
body_is (Attest p h k v) (Attest q i n u) t =
    let a = both t in
    let b = both a.0 in
    let d = both a.1 in
    let x = eqb-true p q b.0 in
    let y = eqb-true h i b.1 in
    let z = eqb-true k n d.0 in
    let w = numbers_is v u d.1 in
    cc
body_is (Ask h s) (Ask i r) q = let a = both q in let x = eqb-true h i a.0 in let y = eqb-true s r a.1 in cc
body_is (Frozen h s) (Frozen i r) q = let a = both q in let x = eqb-true h i a.0 in let y = eqb-true s r a.1 in cc
body_is (Open x) (Open y) q = ap Open (lengths_is x y q)
body_is Wedge Wedge q = refl
body_is _ _ q = absurd (cc)

-- the ledger has the statement of the party
abbrev pub has : List Entry → ℕ → Statement → Bool
has [] m s = false
has (entry ∷ ledger) m s =
    (nat_eq entry.party m && (nat_eq entry.statement.epoch s.epoch && same_body entry.statement.body s.body)) || has ledger m s

-- the entry of a party with a statement of an epoch
abbrev entry_of : ℕ → ℕ → Body → Entry
entry_of party epoch b = record { party = party; statement = record { epoch = epoch; body = b } }

-- entries with the same parts are the same
entry_is : (party epoch m e : ℕ) (b c : Body) → party ≡ m → epoch ≡ e → b ≡ c → entry_of party epoch b ≡ entry_of m e c
entry_is party epoch m e b c x y z = cc

-- the first of a list is in it
here : (x : Entry) (xs : List Entry) → Contains (x ∷ xs) x
here x xs = (0, omega arith, refl)

-- what is in the rest of a list is in it
there : (y : Entry) (xs : List Entry) (x : Entry) → Contains xs x → Contains (y ∷ xs) x
there y xs x p = (suc p.0, omega (arith, p.1), p.2)

-- a ledger that passes has it
pub has_is : (ledger : List Entry) (m : ℕ) (s : Statement) → has ledger m s ≡ true → HasMade ledger m s
has_is [] m s e = absurd (cc)
has_is (entry ∷ ledger) m s e = elim (either e) [
  | inl a ↦
      let b = both a in
      let c = both b.1 in
      let same = entry_is entry.party entry.statement.epoch m s.epoch entry.statement.body s.body (eqb-true entry.party m b.0) (eqb-true entry.statement.epoch s.epoch c.0) (body_is entry.statement.body s.body c.1) in
      subst (λ z. Contains (entry ∷ ledger) z) same (here entry ledger)
  | inr a ↦ there entry ledger (record { party = m; statement = s }) (has_is ledger m s a)
]

-- a payload is the same as itself
own_numbers : (xs : List ℤ) → same_numbers xs xs ≡ true
own_numbers [] = refl
own_numbers (x ∷ xs) = rw ((Decides-int_eq x x).1 refl, own_numbers xs) refl

-- a content is the same as itself
own_content : (c : Content) → same c c ≡ true
own_content (External x) = own_numbers x
own_content (Message p k x) = rw (eq-eqb p p refl, eq-eqb k k refl, own_numbers x) refl

-- a length is the same as itself
own_length : (x : Option ℕ) → same_length x x ≡ true
own_length None = refl
own_length (Some x) = eq-eqb x x refl

-- lengths are the same as themselves
own_lengths : (xs : List (Option ℕ)) → same_lengths xs xs ≡ true
own_lengths [] = refl
own_lengths (x ∷ xs) = rw (own_length x, own_lengths xs) refl

-- host, slot and content are the same as themselves
own_slot : (h s : ℕ) (c : Content) → same_slot h s c h s c ≡ true
own_slot h s c = rw (eq-eqb h h refl, eq-eqb s s refl, own_content c) refl

-- a body is the same as itself
own_body : (b : Body) → same_body b b ≡ true
own_body (Filled k h s c) = rw (kind_same k, own_slot h s c) refl
own_body (Attest p h k x) = rw (eq-eqb p p refl, eq-eqb h h refl, eq-eqb k k refl, own_numbers x) refl
own_body (Ask h s) = rw (eq-eqb h h refl, eq-eqb s s refl) refl
own_body (Frozen h s) = rw (eq-eqb h h refl, eq-eqb s s refl) refl
own_body (Open x) = own_lengths x
own_body Wedge = refl

-- the first entry is the one that is looked for
has_first : (entry : Entry) (ledger : List Entry) (m : ℕ) (s : Statement) → entry ≡ record { party = m; statement = s }
    → has (entry ∷ ledger) m s ≡ true
has_first entry ledger m s e =
    rw e (rw (eq-eqb m m refl, eq-eqb s.epoch s.epoch refl, own_body s.body) refl)

-- a later entry is
has_later : (entry : Entry) (ledger : List Entry) (m : ℕ) (s : Statement) → has ledger m s ≡ true → has (entry ∷ ledger) m s ≡ true
has_later entry ledger m s e =
    rw e (or_true (nat_eq entry.party m && (nat_eq entry.statement.epoch s.epoch && same_body entry.statement.body s.body)))
  where
    or_true : (x : Bool) → (x || true) ≡ true
    or_true true = refl
    or_true false = refl

-- what is in a list is its first or in the rest
pub first_or_rest : (x z : Entry) (xs : List Entry) (k : ℕ) → k < length (x ∷ xs) → slice_index_or (x ∷ xs) k z ≡ z → (x ≡ z) ⊎ Contains xs z
first_or_rest x z xs zero l e = inl e
first_or_rest x z xs (suc k) l e = inr (k, omega arith, e)

-- what a ledger has passes
pub has_made : (ledger : List Entry) (m : ℕ) (s : Statement) → HasMade ledger m s → has ledger m s ≡ true
has_made [] m s made = absurd (omega (arith, made.1))
has_made (entry ∷ ledger) m s made = elim (first_or_rest entry (record { party = m; statement = s }) ledger made.0 made.1 made.2) [
  | inl e ↦ has_first entry ledger m s e
  | inr rest ↦ has_later entry ledger m s (has_made ledger m s rest)
]
