-- Records as fields, and the laws of their spelling.
use Rattle.std.proofs.Common.{◌≡◌, ℕ, ◌+◌, ◌^◌, ◌<◌, ◌≤◌, false, cond, eqb, ltb, List, [], ◌∷◌, ◌++◌, length, Result, Ok, Err, refl, sym, ap, subst, ◌∙◌, append_assoc, arith, inl, inr}
use Rattle.std.specs.Prelude.{IfOk}
use Rattle.std.specs.Int.{w16}
use Rattle.std.specs.List.{flat_map}
use Rattle.byteorder.specs.Endian.{big_bytes}
use Rattle.std.proofs.lemmas.Bool.{cases_lt, eqb-true, ltb-false, le-ltb}
use Rattle.std.proofs.lemmas.List.{append-nil, nil_from_length, get_or_past}
use Rattle.std.proofs.lemmas.List.Elements.{All-from_get_or}
use Rattle.nys_bytes.specs.Reading.{Reading}
use Rattle.nys_stmt.specs.declared.statement.Statement.{Statement}
use Rattle.nys_stmt.specs.declared.tags.Tags.{Tags}
use Rattle.nys_stmt.specs.declared.records.Record.{Record}
use Rattle.nys_stmt.specs.declared.wire.WireKind.TheVariants as wrong
use Rattle.nys_stmt.specs.Records.{payload_in, carried_bytes, tag_bytes, maker_bytes, makers_bytes, record_spelling, IsTag, IsMaker, IsRecord, IsWhole}
use Rattle.nys_stmt.specs.Spelling.{spelling}
use Rattle.nys_stmt.proofs.Rising.{few_from_rising}
use Rattle.nys_wire.specs.declared.fault.RefFault.{RefFault}
use Rattle.nys_wire.specs.declared.fault.WireFault.{WireFault}
use Rattle.nys_wire.specs.declared.fault.WireFault.TheVariants.{At}
use Rattle.nys_wire.specs.Answers.{FindsAll, GivesAll}
use Rattle.nys_wire.specs.Laws.{OneRecord}
use Rattle.nys_wire.specs.Reading.{Reads, ◌>>=◌, pair_at, byte_at, number_at, bytes_at, within, carried_at, statement_at, party_of, party_at, tag_at, tags_at, maker_at, makers_at, front_at, record_at, whole_record}
use Rattle.nys_wire.proofs.Steps.{IsBytes, IsField, Took, Took-then, Again, at, bind_ok, ok_is, guard_ok, test_ok, chosen, then_again, pair_is, map_is}
use Rattle.nys_wire.proofs.Numbers.{byte_is, number_is, wide16, bytes_are, IsSized}
use Rattle.nys_wire.proofs.Chains.{refit, within_is, counted_is, Follows, Rises, rises-chain, chain-rises}
use Rattle.nys_wire.proofs.Bodies.{carried_statement_is}

-- a maker or a receiver
party_is : (least : ℕ) → IsField (party_at least) (λ p. p ∷ []) (λ p. (least ≤ p) × (p ≤ 32))
unfolding party_at
party_is least = record {
  takes = λ before x bytes e.
      let a = bind_ok (byte_at before) (party_of least before) x e in
      let n = a.0.0 in
      let first = byte_is.takes before a.0 bytes a.1 in
      let second : Result (ℕ × Reading) WireFault = cond (ltb n least) (Err (At before.place wrong.Order)) (Ok a.0) in
      elim (chosen (ltb 32 n) (Err (At before.place wrong.Range)) second (Ok x) a.2) [
        | inl c ↦ absurd (let no = c.1 in cc)
        | inr c ↦
            let g = guard_ok (ltb n least) (At before.place wrong.Order) a.0 x c.1 in
            subst (λ (y : ℕ × Reading). Took before (y.0 ∷ []) y.1 × ((least ≤ y.0) × (y.0 ≤ 32))) g.1
            (first.0, (ltb-false _ _ g.0, ltb-false _ _ c.0))
      ];
  again = λ v rest place fits.
      let low : ltb v least ≡ false = le-ltb _ _ fits.0 in
      let high : ltb 32 v ≡ false = le-ltb _ _ fits.1 in
      then_again (byte_at (at place (v ∷ rest))) (party_of least (at place (v ∷ rest))) v rest v rest
      (byte_is.again v rest place (omega (arith, fits.1))) (λ mid. (mid, rw (high, low) refl));
}

-- 32 bytes are a tag's
tag_of_sized : (r : ℕ) (bytes : List ℕ) → IsSized 32 bytes → IsTag (r, bytes)
tag_of_sized r bytes s = record { size = s.size; bytes = All-from_get_or (λ b. b < 256) bytes 0 (λ i lt. s.each i) }

-- and back
sized_of_tag : (r : ℕ) (bytes : List ℕ) → IsTag (r, bytes) → IsSized 32 bytes
sized_of_tag r bytes t = record {
  size = t.size;
  each = λ i. elim (cases_lt i (length bytes)) [
    | inl lt ↦ t.bytes i 0 lt
    | inr le ↦ rw (get_or_past bytes i 0 le) (omega arith)
  ];
}

-- the receiver of a tag
abbrev receiver_of : ℕ × List ℕ → ℕ
receiver_of t = t.0

-- the maker of tags
abbrev maker_of : Tags → ℕ
maker_of t = t.maker

-- a receiver and its tag
tag_is : (least : ℕ) → IsField (tag_at least) tag_bytes (Follows receiver_of IsTag least)
unfolding tag_at
tag_is least = refit (tag_at least) tag_bytes _ (Follows receiver_of IsTag least)
    (pair_is (party_at least) (bytes_at 32) _ _ _ _ (party_is least) (bytes_are 32))
    (λ v f. record { above = f.0.0; party = f.0.1; is = tag_of_sized v.0 v.1 f.1 })
    (λ v f. ((f.above, f.party), sized_of_tag v.0 v.1 f.is))

-- the tags of one maker
tags_are : IsField tags_at (λ ts. length ts ∷ flat_map tag_bytes ts) (λ ts. (1 ≤ length ts) × Rises receiver_of IsTag ts)
unfolding tags_at
tags_are = refit tags_at (λ ts. length ts ∷ flat_map tag_bytes ts) _ (λ ts. (1 ≤ length ts) × Rises receiver_of IsTag ts)
    (counted_is byte_at (λ b. b ∷ []) 256 33 tag_at (λ t. t.0 + 1) tag_bytes (Follows receiver_of IsTag) byte_is (omega arith) tag_is)
    (λ v f. (f.0, rises-chain receiver_of IsTag 0 v f.2))
    (λ v f. (f.0, few_from_rising receiver_of 32 v f.1.rising f.1.parties, chain-rises receiver_of IsTag 0 v f.1 (λ k d lt. omega arith)))

-- a maker and its tags
maker_is : (least : ℕ) → IsField (maker_at least) maker_bytes (Follows maker_of IsMaker least)
unfolding maker_at maker_bytes
maker_is least = refit (maker_at least) maker_bytes _ (Follows maker_of IsMaker least)
    (map_is (pair_at (party_at least) tags_at) (λ x. record { maker = x.0; tags = x.1 }) (λ t. (t.maker, t.tags)) _ _ (λ x. refl) (λ t. refl)
    (pair_is (party_at least) tags_at _ _ _ _ (party_is least) tags_are))
    (λ v f. record { above = f.0.0; party = f.0.1; is = record { some = f.1.0; rule = record { rising = f.1.1.rising; parties = f.1.1.parties }; each = f.1.1.each } })
    (λ v f. ((f.above, f.party), (f.is.some, record { rising = f.is.rule.rising; parties = f.is.rule.parties; each = f.is.each })))

-- the makers
makers_are : IsField makers_at makers_bytes (λ ms. (1 ≤ length ms) × Rises maker_of IsMaker ms)
unfolding makers_at makers_bytes
makers_are = refit makers_at makers_bytes _ (λ ms. (1 ≤ length ms) × Rises maker_of IsMaker ms)
    (counted_is byte_at (λ b. b ∷ []) 256 33 maker_at (λ t. t.maker + 1) maker_bytes (Follows maker_of IsMaker) byte_is (omega arith) maker_is)
    (λ v f. (f.0, rises-chain maker_of IsMaker 0 v f.2))
    (λ v f. (f.0, few_from_rising maker_of 32 v f.1.rising f.1.parties, chain-rises maker_of IsMaker 0 v f.1 (λ k d lt. omega arith)))

-- the magic and the version
front_is : IsField front_at (λ x. big_bytes 2 x.0 ++ (x.1 ∷ [])) (λ x. (x.0 ≡ 0x4e59) × (x.1 ≡ 2))
unfolding front_at
front_is = refit front_at (λ x. big_bytes 2 x.0 ++ (x.1 ∷ [])) _ (λ x. (x.0 ≡ 0x4e59) × (x.1 ≡ 2))
    (pair_is (within 0x4e59 0x4e59 wrong.Magic (number_at w16)) (within 2 2 wrong.Version byte_at) _ _ _ _
    (within_is 0x4e59 0x4e59 wrong.Magic (number_at w16) (λ n. big_bytes 2 n) (λ n. n < 2 ^ 16) (number_is w16 (2 ^ 16) wide16))
    (within_is 2 2 wrong.Version byte_at (λ b. b ∷ []) (λ b. b < 256) byte_is))
    (λ v f. (omega (arith, f.0.1, f.0.2), omega (arith, f.1.1, f.1.2)))
    (λ v f. ((omega (arith, f.0), omega (arith, f.0), omega (arith, f.0)), (omega (arith, f.1), omega (arith, f.1), omega (arith, f.1))))

-- a statement and its payload
abbrev carried_spelling : Statement → List ℕ
carried_spelling s = spelling s ++ carried_bytes (payload_in s.body)

-- the magic and the version
abbrev front_text : List ℕ
front_text = 0x4e ∷ 0x59 ∷ 0x02 ∷ []

-- a record that is read is spelled so
record_takes : (before : Reading) (x : Record × Reading) → IsBytes before.left → record_at before ≡ Ok x → Took before (record_spelling x.0) x.1 × IsRecord x.0
unfolding record_at record_spelling
record_takes before x bytes e =
    let a = bind_ok (front_at before) (λ front. statement_at carried_at front.1 >>= λ s. makers_at s.1 >>= λ m. Ok (record { statement = s.0; makers = m.0 }, m.1)) x e in
    let b = bind_ok (statement_at carried_at a.0.1) (λ s. makers_at s.1 >>= λ m. Ok (record { statement = s.0; makers = m.0 }, m.1)) x a.2 in
    let c = bind_ok (makers_at b.0.1) (λ m. Ok (record { statement = b.0.0; makers = m.0 }, m.1)) x b.2 in
    let t0 = front_is.takes before a.0 bytes a.1 in
    let t1 = carried_statement_is.takes a.0.1 b.0 t0.0.bytes b.1 in
    let t2 = makers_are.takes b.0.1 c.0 t1.0.bytes c.1 in
    let text-is : big_bytes 2 a.0.0.0 ++ (a.0.0.1 ∷ []) ≡ front_text =
    ap (λ (n : ℕ). big_bytes 2 n ++ (a.0.0.1 ∷ [])) t0.1.0 ∙ ap (λ (n : ℕ). 0x4e ∷ 0x59 ∷ n ∷ []) t0.1.1 in
    let front : Took before front_text a.0.1 = subst (λ (l : List ℕ). Took before l a.0.1) text-is t0.0 in
    let half = Took-then before a.0.1 b.0.1 front_text (carried_spelling b.0.0) front t1.0 in
    let whole = Took-then before b.0.1 c.0.1 (front_text ++ carried_spelling b.0.0) (makers_bytes c.0.0) half t2.0 in
    let made : Record × Reading = (record { statement = b.0.0; makers = c.0.0 }, c.0.1) in
    subst (λ (y : Record × Reading). Took before (record_spelling y.0) y.1 × IsRecord y.0) (ok_is made x c.2)
    (whole, record { statement = t1.1; some = t2.1.0; rule = record { rising = t2.1.1.rising; parties = t2.1.1.parties }; each = t2.1.1.each })

-- a record that is spelled is read
record_again : (r : Record) (rest : List ℕ) (place : ℕ) → IsRecord r → Again (record_at (at place (record_spelling r ++ rest))) r rest
unfolding record_at record_spelling
record_again r rest place is =
    let behind : List ℕ = carried_spelling r.statement ++ (makers_bytes r.makers ++ rest) in
    let grouped : ((front_text ++ carried_spelling r.statement) ++ makers_bytes r.makers) ++ rest ≡ front_text ++ behind =
    append_assoc (front_text ++ carried_spelling r.statement) (makers_bytes r.makers) rest in
    subst (λ (l : List ℕ). Again (record_at (at place l)) r rest) (sym grouped)
    (then_again (front_at (at place (front_text ++ behind))) (λ front. statement_at carried_at front.1 >>= λ s. makers_at s.1 >>= λ m. Ok (record { statement = s.0; makers = m.0 }, m.1)) (0x4e59, 2) behind r rest
    (front_is.again (0x4e59, 2) behind place (refl, refl))
    (λ mid. then_again (statement_at carried_at (at mid behind)) (λ s. makers_at s.1 >>= λ m. Ok (record { statement = s.0; makers = m.0 }, m.1)) r.statement (makers_bytes r.makers ++ rest) r rest
    (carried_statement_is.again r.statement (makers_bytes r.makers ++ rest) mid is.statement)
    (λ mid2. then_again (makers_at (at mid2 (makers_bytes r.makers ++ rest))) (λ m. Ok (record { statement = r.statement; makers = m.0 }, m.1)) r.makers rest r rest
    (makers_are.again r.makers rest mid2 (is.some, record { rising = is.rule.rising; parties = is.rule.parties; each = is.each }))
    (λ last. (last, refl)))))

-- a record
pub record_is : IsField record_at record_spelling IsRecord
record_is = record { takes = record_takes; again = record_again }

-- what is read from all of the bytes is spelled so
pub whole_takes : (bytes : List ℕ) (r : Record) → IsBytes bytes → whole_record bytes ≡ Ok r → IsRecord r × (bytes ≡ record_spelling r)
unfolding whole_record
whole_takes bytes r fits e =
    let a = bind_ok (record_at (at 0 bytes)) (λ x. cond (eqb (length x.1.left) 0) (Ok x.0) (Err (At x.1.place wrong.Trailing))) r e in
    let g = test_ok (eqb (length a.0.1.left) 0) (At a.0.1.place wrong.Trailing) a.0.0 r a.2 in
    let t = record_is.takes (at 0 bytes) a.0 fits a.1 in
    let nothing : a.0.1.left ≡ [] = nil_from_length a.0.1.left (eqb-true _ _ g.0) in
    let whole : bytes ≡ record_spelling a.0.0 = t.0.parts ∙ ap (λ (l : List ℕ). record_spelling a.0.0 ++ l) nothing ∙ append-nil (record_spelling a.0.0) in
    subst (λ (s : Record). IsRecord s × (bytes ≡ record_spelling s)) g.1 (t.1, whole)

-- what is spelled so is read
pub whole_again : (r : Record) → IsRecord r → whole_record (record_spelling r) ≡ Ok r
unfolding whole_record
whole_again r is =
    let a = record_is.again r [] 0 is in
    let read : record_at (at 0 (record_spelling r)) ≡ Ok (r, at a.0 []) = ap (λ (l : List ℕ). record_at (at 0 l)) (sym (append-nil (record_spelling r))) ∙ a.1 in
    rw read refl

-- what was answered is well formed and spelled so
pub is_found : (bytes : List ℕ) (answer : Result Record WireFault) → IsBytes bytes → GivesAll answer (whole_record bytes) → IfOk answer (λ r. IsRecord r × (bytes ≡ record_spelling r))
is_found bytes (Ok r) fits given = whole_takes bytes r fits given
is_found bytes (Err e) fits given = tt

-- the whole of some bytes
abbrev got : Record → Result Record WireFault
got r = Ok r

-- one record
whole_is : (x r : Record) → got x ≡ got r → x ≡ r
whole_is x r e = cc

-- what was read in place is well formed and spelled so
pub found_whole : (bytes : List ℕ) (answer : Result Record RefFault) → IsBytes bytes → FindsAll answer (whole_record bytes) → IfOk answer (λ r. IsRecord r × (bytes ≡ record_spelling r))
found_whole bytes (Ok r) fits given = whole_takes bytes r fits given
found_whole bytes (Err e) fits given = tt

-- what is spelled so is read in place
pub only_whole : (bytes : List ℕ) (answer : Result Record RefFault) → FindsAll answer (whole_record bytes) → (r : Record) → IsRecord r → bytes ≡ record_spelling r → answer ≡ Ok r
only_whole bytes (Ok x) given r is spelled =
    let read : whole_record bytes ≡ Ok r = ap whole_record spelled ∙ whole_again r is in
    let same : x ≡ r = whole_is x r (sym given ∙ read) in
    rw same refl
only_whole bytes (Err e) given r is spelled =
    let read : whole_record bytes ≡ Ok r = ap whole_record spelled ∙ whole_again r is in
    absurd (let both = sym given ∙ read in cc)

-- what two readings of the same bytes gave is the same
pub one_of : {A : Type 0} (field : Reads A) (text : A → List ℕ) (Fits : A → Type 0) → IsField field text Fits
    → (a b : A) (x y : List ℕ) → Fits a → Fits b → text a ++ x ≡ text b ++ y → (a ≡ b) × (x ≡ y)
one_of {A = A} field text Fits is a b x y fa fb e =
    let first = is.again a x 0 fa in
    let second = is.again b y 0 fb in
    let same : (a, at first.0 x) ≡ (b, at second.0 y) = ok_is (a, at first.0 x) (b, at second.0 y) (sym first.1 ∙ ap (λ (l : List ℕ). field (at 0 l)) e ∙ second.1) in
    (ap (λ (p : A × Reading). p.0) same, ap (λ (p : A × Reading). p.1.left) same)

-- of records
pub one_record : OneRecord
one_record a b x y fa fb e = one_of record_at record_spelling IsRecord record_is a b x y fa fb e

-- a well-formed record can be encoded
pub is_whole : (r : Record) → IsRecord r → IsWhole r
is_whole r is = record { range = is.statement.range; makers = is.some; tags = λ i d lt. (is.each i d lt).some }
