-- Fields and lists that lie in place: what is read of their bytes, and what is read again.
use Rattle.std.proofs.Common.{◌≡◌, ℕ, zero, suc, ◌+◌, ◌<◌, ◌≤◌, Bool, true, false, cond, eqb, leb, ltb, List, [], ◌∷◌, ◌++◌, length, get_or, take, drop, append_assoc, Result, Ok, Err, refl, sym, ap, subst, ◌∙◌, AllPairs, All, arith, inl, inr}
use Rattle.std.specs.Prelude.{IsOk, Option, Some, None}
use Rattle.std.specs.Iterator.{MakesProgress, item_count}
use Rattle.std.specs.Int.{Width, w16, byte_len, from_be_bytes, to_be_bytes}
use Rattle.std.proofs.lemmas.Bool.{leb-true, ltb-false}
use Rattle.std.proofs.lemmas.List.{append-nil, drop_at, get_or_append_left, length-append, length-take, take-append-drop, take_at}
use Rattle.std.proofs.Math.Seq.{get_or-append_seam}
use Rattle.std.proofs.lemmas.List.Elements.{All-nil, All-cons}
use Rattle.nys_bytes.specs.Reading.{Reading}
use Rattle.nys_stmt.specs.declared.limits.TheConstants.{MAX_LENGTH, MAX_LENGTHS}
use Rattle.nys_stmt.specs.declared.tags.Tags.{Tags}
use Rattle.nys_stmt.specs.declared.wire.WireKind.TheVariants as wrong
use Rattle.nys_stmt.specs.Lists.{AreLengths, AreTags, IsLength}
use Rattle.nys_stmt.specs.Makers.{AreMakers}
use Rattle.nys_stmt.specs.declared.records.Record.{Record}
use Rattle.nys_stmt.specs.Records.{carried_bytes, makers_bytes, payload_in, record_spelling}
use Rattle.nys_stmt.specs.Spelling.{length_bytes, spelling}
use Rattle.nys_wire.specs.declared.fault.WireFault.{WireFault}
use Rattle.nys_wire.specs.declared.fault.WireFault.TheVariants.{At}
use Rattle.nys_wire.specs.InPlace.{items_of}
use Rattle.nys_wire.specs.Reading.{Reads, ◌>>=◌, byte_at, bytes_at, each_at, length_at, length_of, maker_at, number_at, pair_at, party_at, party_of, passed, tag_at, tags_at}
use Rattle.nys_wire.proofs.Steps.{bind_ok, chosen, guard_ok, map_takes, ok_is, test_ok}
use Rattle.nys_wire.proofs.Numbers.{IsWide}
use Rattle.nys_wire.proofs.Chains.{Chain, Follows, rises-chain}

-- ---- fields of some bytes

-- where some bytes lie
pub record Lies (n : ℕ) (here after : Reading) (field : List ℕ) : Type 0 where
  pub size : length field ≡ n
  pub parts : here.left ≡ field ++ after.left
  pub place : after.place ≡ here.place + n

-- bytes that were read lie in front
pub bytes_lie : (n : ℕ) (here after : Reading) (field : List ℕ) → bytes_at n here ≡ Ok (field, after) → Lies n here after field
unfolding bytes_at
bytes_lie n here after field read =
    let made : List ℕ × Reading = (take n here.left, passed n here) in
    let g = guard_ok (ltb (length here.left) n) (At (here.place + length here.left) wrong.Short) made (field, after) read in
    let long : n ≤ length here.left = ltb-false _ _ g.0 in
    subst (λ (y : List ℕ × Reading). Lies n here y.1 y.0) g.1
    (record { size = omega (arith, length-take n here.left); parts = sym (take-append-drop n here.left); place = refl })

-- the same bytes as a number
pub number_lies : (w : Width) (limit : ℕ) → IsWide w limit → (here after : Reading) (field : List ℕ) (n : ℕ)
    → bytes_at (byte_len w) here ≡ Ok (field, after) → to_be_bytes w n ≡ field → n < limit → number_at w here ≡ Ok (n, after)
unfolding bytes_at number_at
number_lies w limit wide here after field n read spelled lt =
    let made : List ℕ × Reading = (take (byte_len w) here.left, passed (byte_len w) here) in
    let g = guard_ok (ltb (length here.left) (byte_len w)) (At (here.place + length here.left) wrong.Short) made (field, after) read in
    let value : from_be_bytes w field ≡ n = ap (λ (l : List ℕ). from_be_bytes w l) (sym spelled) ∙ wide.again n lt in
    rw g.0 (ap (λ (y : List ℕ × Reading). Ok (from_be_bytes w y.0, y.1)) g.1 ∙ ap (λ (k : ℕ). Ok (k, after)) value)

-- a test that failed fails whatever would have been read
failed : {A B : Type 0} (b : Bool) (d e : WireFault) (x : A) (y : B) → cond b (Err d) (Ok x) ≡ Err e → cond b (Err d) (Ok y) ≡ Err e
failed true d e x y h = cc
failed false d e x y h = absurd cc

-- too few bytes for both
pub number_fails : (w : Width) (here : Reading) (e : WireFault) → bytes_at (byte_len w) here ≡ Err e → number_at w here ≡ Err e
unfolding bytes_at number_at
number_fails w here e read = failed (ltb (length here.left) (byte_len w)) (At (here.place + length here.left) wrong.Short) e (take (byte_len w) here.left, passed (byte_len w) here) (from_be_bytes w (take (byte_len w) here.left), passed (byte_len w) here) read

-- ---- lists of which the next item is read again

-- the others behind an item
abbrev behind : {A : Type 0} → A → Result (List A × Reading) WireFault → Result (List A × Reading) WireFault
behind x r = r >>= λ xs. Ok (x ∷ xs.0, xs.1)

-- they were read, where all were
others_read : {A : Type 0} (x : A) (r : Result (List A × Reading) WireFault) → IsOk (behind x r) → IsOk r × (items_of (behind x r) ≡ x ∷ items_of r)
others_read x (Ok xs) ok = (refl, refl)
others_read x (Err e) ok = absurd cc

-- an item and the others
next_read : {A : Type 0} (r : Result (A × Reading) WireFault) (f : A × Reading → Result (List A × Reading) WireFault)
    → IsOk (r >>= λ x. behind x.0 (f x)) → (x : A × Reading) × (r ≡ Ok x) × IsOk (f x) × (items_of (r >>= λ y. behind y.0 (f y)) ≡ x.0 ∷ items_of (f x))
next_read (Ok x) f ok = let rest = others_read x.0 (f x) ok in (x, refl, rest.0, rest.1)
next_read (Err e) f ok = absurd cc

-- of items that were read the first is read again, and the others are those behind it
pub next_again : {A : Type 0} (item : ℕ → Reads A) (leaves : A → ℕ) (n least : ℕ) (here : Reading) → IsOk (each_at item leaves (suc n) least here)
    → (x : A × Reading) × (item least here ≡ Ok x) × IsOk (each_at item leaves n (leaves x.0) x.1)
    × (items_of (each_at item leaves (suc n) least here) ≡ x.0 ∷ items_of (each_at item leaves n (leaves x.0) x.1))
unfolding each_at
next_again item leaves n least here ok = next_read (item least here) (λ x. each_at item leaves n (leaves x.0) x.1) ok

-- an item that was read, and those behind it, which are one fewer
pub record Next {A : Type 0} (item : ℕ → Reads A) (leaves : A → ℕ) (count n least : ℕ) (here : Reading) (x : A) (after : Reading) : Type 0 where
  pub others : IsOk (each_at item leaves n (leaves x) after)
  pub parts : items_of (each_at item leaves count least here) ≡ x ∷ items_of (each_at item leaves n (leaves x) after)

-- what was read first is the first item
pub next_is : {A : Type 0} (item : ℕ → Reads A) (leaves : A → ℕ) (count n least : ℕ) (here : Reading) (x : A) (after : Reading)
    → count ≡ suc n → IsOk (each_at item leaves count least here) → item least here ≡ Ok (x, after) → Next item leaves count n least here x after
next_is {A = A} item leaves count n least here x after one ok read =
    let again = next_again item leaves n least here (subst (λ (k : ℕ). IsOk (each_at item leaves k least here)) one ok) in
    subst (λ (k : ℕ). Next item leaves k n least here x after) (sym one)
    (subst (λ (y : A × Reading). Next item leaves (suc n) n least here y.0 y.1) (ok_is again.0 (x, after) (sym again.1 ∙ read))
    (record { others = again.2; parts = again.3 }))

-- it has no fault
pub next_ok : {A : Type 0} {B : Type 0} (item : ℕ → Reads A) (leaves : A → ℕ) (count n least : ℕ) (here : Reading) (e : WireFault)
    → count ≡ suc n → IsOk (each_at item leaves count least here) → item least here ≡ Err e → B
next_ok item leaves count n least here e one ok read =
    let again = next_again item leaves n least here (subst (λ (k : ℕ). IsOk (each_at item leaves k least here)) one ok) in
    let both : Ok again.0 ≡ Err e = sym again.1 ∙ read in
    absurd cc

-- no items
pub none_left : {A : Type 0} (item : ℕ → Reads A) (leaves : A → ℕ) (count least : ℕ) (here : Reading) → count ≡ 0 → items_of (each_at item leaves count least here) ≡ []
unfolding each_at
none_left item leaves count least here none = rw none refl

-- how many there are
pub counted : {A : Type 0} (item : ℕ → Reads A) (leaves : A → ℕ) (n least : ℕ) (here : Reading) → IsOk (each_at item leaves n least here)
    → length (items_of (each_at item leaves n least here)) ≡ n
unfolding each_at
counted item leaves zero least here ok = refl
counted item leaves (suc n) least here ok =
    let again = next_again item leaves n least here ok in
    ap length again.3 ∙ ap suc (counted item leaves n (leaves again.0.0) again.0.1 again.2)

-- a list that gave its first item has fewer
pub goes_on : {A B : Type 0} (s t : List A) (x : A) (y : B) → s ≡ x ∷ t → MakesProgress (λ (l : List A). Unit {0}) (item_count (λ (l : List A). l)) s (Some y) t
goes_on s t x y e = record {
  on = λ finite. (tt, tt, omega (arith, ap length e));
  keeps = tt;
  rests = λ finite. tt;
}

-- ---- lists that are taken item by item

-- those that were taken, the next, and the others
pub at_next : {A : Type 0} (front : List A) (x : A) (left rest all : List A) → left ≡ x ∷ rest → front ++ left ≡ all → front ++ (x ∷ rest) ≡ all
at_next front x left rest all next whole = ap (λ (l : List _). front ++ l) (sym next) ∙ whole

-- one more is taken
pub one_more : {A : Type 0} (front : List A) (x : A) (left rest all : List A) → left ≡ x ∷ rest → front ++ left ≡ all → (front ++ (x ∷ [])) ++ rest ≡ all
one_more front x left rest all next whole = append_assoc front (x ∷ []) rest ∙ at_next front x left rest all next whole

-- all are taken
pub all_taken : {A : Type 0} (front left all : List A) → left ≡ [] → front ++ left ≡ all → front ≡ all
all_taken front left all none whole = sym (append-nil front) ∙ ap (λ (l : List _). front ++ l) (sym none) ∙ whole

-- where the next is
pub record There {A : Type 0} (front : List A) (x : A) (all : List A) : Type 0 where
  pub within : length front < length all
  pub is : get_or all (length front) x ≡ x

-- it is behind those that were taken
pub next_there : {A : Type 0} (front : List A) (x : A) (rest all : List A) → front ++ (x ∷ rest) ≡ all → There front x all
next_there front x rest all whole =
    subst (λ (l : List _). There front x l) whole
    (record { within = omega (arith, length-append front (x ∷ rest)); is = get_or-append_seam front x rest x })

-- what holds of all holds of it
pub each_next : {A : Type 0} (P : A → Type 0) (front : List A) (x : A) (rest all : List A) → front ++ (x ∷ rest) ≡ all → All P all → P x
each_next P front x rest all whole each = let t = next_there front x rest all whole in subst P t.is (each (length front) x t.within)

-- where keys rise, those that were taken have lower ones
pub below_next : {A : Type 0} (key : A → ℕ) (front : List A) (x : A) (rest all : List A) → front ++ (x ∷ rest) ≡ all → AllPairs (λ a b. key a < key b) all → All (λ t. key t < key x) front
below_next {A = A} key front x rest all whole rising k d lt =
    let rises : AllPairs (λ a b. key a < key b) (front ++ (x ∷ rest)) = subst (λ (l : List A). AllPairs (λ a b. key a < key b) l) (sym whole) rising in
    let two : key (get_or (front ++ (x ∷ rest)) k d) < key (get_or (front ++ (x ∷ rest)) (length front) d) =
    rises k (length front) d lt (omega (arith, length-append front (x ∷ rest))) in
    subst (λ (y : A). key (get_or front k d) < key y) (get_or-append_seam front x rest d)
    (subst (λ (y : A). key y < key (get_or (front ++ (x ∷ rest)) (length front) d)) (get_or_append_left front (x ∷ rest) d k lt) two)

-- ---- lengths

-- a member that has a length
abbrev member : ℕ → Option ℕ
member n = Some n

-- a retired host has none
no_length : (k : ℕ) → None ≡ member k → ⊥
no_length k e = absurd cc

-- a member has one length
one_length : (n k : ℕ) → member n ≡ member k → n ≡ k
one_length n k e = cc

-- a length that was read
length_read : (here : Reading) (x : Option ℕ × Reading) → length_at here ≡ Ok x → IsLength x.0
unfolding length_at
length_read here x read =
    let a = bind_ok (number_at w16 here) (length_of here) x read in
    let some : Result (Option ℕ × Reading) WireFault = cond (leb a.0.0 MAX_LENGTH) (Ok (Some a.0.0, a.0.1)) (Err (At here.place wrong.Range)) in
    elim (chosen (eqb a.0.0 0xffff) (Ok (None, a.0.1)) some (Ok x) a.2) [
      | inl c ↦
          let made : Option ℕ × Reading = (None, a.0.1) in
          subst (λ (y : Option ℕ × Reading). IsLength y.0) (ok_is made x c.1) (λ k e. absurd (no_length k e))
      | inr c ↦
          let made : Option ℕ × Reading = (Some a.0.0, a.0.1) in
          let g = test_ok (leb a.0.0 MAX_LENGTH) (At here.place wrong.Range) made x c.1 in
          subst (λ (y : Option ℕ × Reading). IsLength y.0) g.1 (λ k e. subst (λ (m : ℕ). m ≤ MAX_LENGTH) (one_length a.0.0 k e) (leb-true a.0.0 MAX_LENGTH g.0))
    ]

-- each of those that were read
each_length : (n : ℕ) (here : Reading) → IsOk (each_at (λ _. length_at) (λ _. 0) n 0 here) → All IsLength (items_of (each_at (λ _. length_at) (λ _. 0) n 0 here))
unfolding each_at
each_length zero here ok = All-nil IsLength
each_length (suc n) here ok =
    let again = next_again (λ _. length_at) (λ _. 0) n 0 here ok in
    subst (λ (l : List (Option ℕ)). All IsLength l) (sym again.3) (All-cons IsLength _ _ (length_read here again.0 again.1) (each_length n again.0.1 again.2))

-- they keep the rule of lengths
pub lengths_are : (n : ℕ) (here : Reading) → IsOk (each_at (λ _. length_at) (λ _. 0) n 0 here) → n ≤ MAX_LENGTHS → AreLengths (items_of (each_at (λ _. length_at) (λ _. 0) n 0 here))
lengths_are n here ok few = record { few = omega (arith, few, counted (λ _. length_at) (λ _. 0) n 0 here ok); each = each_length n here ok }

-- ---- keys that rise

-- what was read of a party
party_follows : (least : ℕ) (here : Reading) (x : ℕ × Reading) → party_at least here ≡ Ok x → (least ≤ x.0) × (x.0 ≤ 32)
unfolding party_at
party_follows least here x read =
    let a = bind_ok (byte_at here) (party_of least here) x read in
    let second : Result (ℕ × Reading) WireFault = cond (ltb a.0.0 least) (Err (At here.place wrong.Order)) (Ok a.0) in
    elim (chosen (ltb 32 a.0.0) (Err (At here.place wrong.Range)) second (Ok x) a.2) [
      | inl c ↦ absurd (let no = c.1 in cc)
      | inr c ↦
          let g = guard_ok (ltb a.0.0 least) (At here.place wrong.Order) a.0 x c.1 in
          subst (λ (y : ℕ × Reading). (least ≤ y.0) × (y.0 ≤ 32)) g.1 (ltb-false _ _ g.0, ltb-false _ _ c.0)
    ]

-- of a party and something behind it
pair_follows : {B : Type 0} (second : Reads B) (least : ℕ) (here : Reading) (x : (ℕ × B) × Reading) → pair_at (party_at least) second here ≡ Ok x → (least ≤ x.0.0) × (x.0.0 ≤ 32)
pair_follows {B = B} second least here x read =
    let a = bind_ok (party_at least here) (λ y. second y.1 >>= λ z. Ok ((y.0, z.0), z.1)) x read in
    let b = bind_ok (second a.0.1) (λ z. Ok ((a.0.0, z.0), z.1)) x a.2 in
    let made : (ℕ × B) × Reading = ((a.0.0, b.0.0), b.0.1) in
    subst (λ (y : (ℕ × B) × Reading). (least ≤ y.0.0) × (y.0.0 ≤ 32)) (ok_is made x b.2) (party_follows least here a.0 a.1)

-- nothing more is asked of an item
abbrev Any : {A : Type 0} → A → Type 0
Any x = Unit {0}

-- items of which each has a key that is a party and at least what is asked
each_follows : {A : Type 0} (key : A → ℕ) (item : ℕ → Reads A) → ((least : ℕ) (here : Reading) (x : A × Reading) → item least here ≡ Ok x → (least ≤ key x.0) × (key x.0 ≤ 32))
    → (n least : ℕ) (here : Reading) → IsOk (each_at item (λ x. key x + 1) n least here)
    → Chain (Follows key Any) (λ x. key x + 1) least (items_of (each_at item (λ x. key x + 1) n least here))
unfolding each_at
each_follows key item follows zero least here ok = tt
each_follows {A = A} key item follows (suc n) least here ok =
    let again = next_again item (λ x. key x + 1) n least here ok in
    let first = follows least here again.0 again.1 in
    subst (λ (l : List A). Chain (Follows key Any) (λ x. key x + 1) least l) (sym again.3)
    (record { above = first.0; party = first.1; is = tt }, each_follows key item follows n (key again.0.0 + 1) again.0.1 again.2)

-- the receiver of a tag
abbrev receiver_of : ℕ × List ℕ → ℕ
receiver_of t = t.0

-- the maker of tags
abbrev maker_of : Tags → ℕ
maker_of t = t.maker

-- receivers of tags that were read rise
pub tags_rise : (n least : ℕ) (here : Reading) → IsOk (each_at tag_at (λ t. t.0 + 1) n least here) → AreTags (items_of (each_at tag_at (λ t. t.0 + 1) n least here))
unfolding tag_at
tags_rise n least here ok =
    let rise = rises-chain receiver_of Any least _ (each_follows receiver_of tag_at (pair_follows (bytes_at 32)) n least here ok) in
    record { rising = rise.rising; parties = rise.parties }

-- what was read of a maker
maker_follows : (least : ℕ) (here : Reading) (x : Tags × Reading) → maker_at least here ≡ Ok x → (least ≤ x.0.maker) × (x.0.maker ≤ 32)
unfolding maker_at
maker_follows least here x read =
    map_takes (pair_at (party_at least) tags_at) (λ y. record { maker = y.0; tags = y.1 }) (λ (y : Tags × Reading). (least ≤ y.0.maker) × (y.0.maker ≤ 32)) here x read
    (λ y is. pair_follows tags_at least here y is)

-- makers that were read rise
pub makers_rise : (n least : ℕ) (here : Reading) → IsOk (each_at maker_at (λ t. t.maker + 1) n least here) → AreMakers (items_of (each_at maker_at (λ t. t.maker + 1) n least here))
makers_rise n least here ok =
    let rise = rises-chain maker_of Any least _ (each_follows maker_of maker_at maker_follows n least here ok) in
    record { rising = rise.rising; parties = rise.parties }

-- ---- the parts of a record

-- where a record's statement begins, and what stands behind it
pub record PartsLie (r : Record) (bytes : List ℕ) : Type 0 where
  pub some : 3 ≤ length bytes
  pub parts : drop 3 bytes ≡ spelling r.statement ++ (carried_bytes (payload_in r.statement.body) ++ makers_bytes r.makers)

-- in the spelling of a record they do
pub parts_lie : (r : Record) (bytes : List ℕ) → bytes ≡ record_spelling r → PartsLie r bytes
unfolding record_spelling
parts_lie r bytes e =
    subst (λ (l : List ℕ). PartsLie r l) (sym e)
    (record { some = omega arith; parts = append_assoc (spelling r.statement) (carried_bytes (payload_in r.statement.body)) (makers_bytes r.makers) })

-- the front of two parts
pub first_part : (a b bytes : List ℕ) (n : ℕ) → bytes ≡ a ++ b → n ≡ length a → take n bytes ≡ a
first_part a b bytes n e size = ap (λ (l : List ℕ). take n l) e ∙ take_at a b n (sym size)

-- and what stands behind it
pub second_part : (a b bytes : List ℕ) (n : ℕ) → bytes ≡ a ++ b → n ≡ length a → drop n bytes ≡ b
second_part a b bytes n e size = ap (λ (l : List ℕ). drop n l) e ∙ drop_at a b n (sym size)

-- it is no longer than both
pub part_fits : (a b bytes : List ℕ) (n : ℕ) → bytes ≡ a ++ b → n ≡ length a → n ≤ length bytes
part_fits a b bytes n e size = omega (arith, size, ap length e, length-append a b)

-- the bytes of a length
pub length-length_bytes : (o : Option ℕ) → length (length_bytes o) ≡ 2
length-length_bytes None = refl
length-length_bytes (Some n) = refl
