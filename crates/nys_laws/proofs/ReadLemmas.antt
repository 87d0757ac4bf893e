-- The makers of a record that was read rise, and are parties, whatever the bytes.
use Rattle.std.proofs.Common.{◌≡◌, ℕ, zero, suc, ◌+◌, ◌≤◌, cond, eqb, ltb, List, [], ◌∷◌, length, Result, Ok, Err, ap, subst, inl, inr}
use Rattle.std.proofs.lemmas.Bool.{ltb-false}
use Rattle.nys_bytes.specs.Reading.{Reading}
use Rattle.nys_stmt.specs.declared.records.Record.{Record}
use Rattle.nys_stmt.specs.declared.tags.Tags.{Tags}
use Rattle.nys_stmt.specs.declared.wire.WireKind.TheVariants as wrong
use Rattle.nys_stmt.specs.Makers.{AreMakers}
use Rattle.nys_wire.specs.declared.fault.WireFault.{WireFault}
use Rattle.nys_wire.specs.declared.fault.WireFault.TheVariants.{At}
use Rattle.nys_wire.specs.Reading.{Reads, ◌>>=◌, byte_at, carried_at, counted_at, each_at, front_at, maker_at, makers_at, pair_at, party_at, party_of, record_at, statement_at, tags_at, whole_record, within}
use Rattle.nys_wire.proofs.Chains.{Chain, Follows, rises-chain}
use Rattle.nys_wire.proofs.Steps.{at, bind_ok, chosen, guard_ok, map_takes, ok_is, test_ok}

-- items of which each is as it should be behind the one before it are a chain
each_chain : {A : Type 0} (item : ℕ → Reads A) (leaves : A → ℕ) (Fits : ℕ → A → Type 0)
    → ((least : ℕ) (before : Reading) (x : A × Reading) → item least before ≡ Ok x → Fits least x.0)
    → (n least : ℕ) (before : Reading) (x : List A × Reading) → each_at item leaves n least before ≡ Ok x
    → Chain Fits leaves least x.0
unfolding each_at
each_chain {A = A} item leaves Fits fits zero least before x e =
    subst (λ (y : List A × Reading). Chain Fits leaves least y.0) (ok_is ([], before) x e) tt
each_chain {A = A} item leaves Fits fits (suc n) least before x e =
    let a = bind_ok (item least before) (λ y. each_at item leaves n (leaves y.0) y.1 >>= λ ys. Ok (y.0 ∷ ys.0, ys.1)) x e in
    let b = bind_ok (each_at item leaves n (leaves a.0.0) a.0.1) (λ ys. Ok (a.0.0 ∷ ys.0, ys.1)) x a.2 in
    let others = each_chain item leaves Fits fits n (leaves a.0.0) a.0.1 b.0 b.1 in
    let made : List A × Reading = (a.0.0 ∷ b.0.0, b.0.1) in
    subst (λ (y : List A × Reading). Chain Fits leaves least y.0) (ok_is made x b.2)
    (fits least before a.0 a.1, others)

-- a maker that is read is a party, and at least what is asked
party_read : (least : ℕ) (before : Reading) (x : ℕ × Reading) → party_at least before ≡ Ok x
    → (least ≤ x.0) × (x.0 ≤ 32)
unfolding party_at
party_read least before x e =
    let a = bind_ok (byte_at before) (party_of least before) x e in
    let n = a.0.0 in
    let second : Result (ℕ × Reading) WireFault = cond (ltb n least) (Err (At before.place wrong.Order)) (Ok a.0) in
    elim (chosen (ltb 32 n) (Err (At before.place wrong.Range)) second (Ok x) a.2) [
      | inl c ↦ absurd (let no = c.1 in cc)
      | inr c ↦
          let g = guard_ok (ltb n least) (At before.place wrong.Order) a.0 x c.1 in
          subst (λ (y : ℕ × Reading). (least ≤ y.0) × (y.0 ≤ 32)) g.1
          (ltb-false _ _ g.0, ltb-false _ _ c.0)
    ]

-- the maker of tags
abbrev maker_of : Tags → ℕ
maker_of t = t.maker

-- the tags of a maker that is read
maker_read : (least : ℕ) (before : Reading) (x : Tags × Reading) → maker_at least before ≡ Ok x
    → Follows maker_of (λ _. Unit {0}) least x.0
unfolding maker_at
maker_read least before x e =
    map_takes (pair_at (party_at least) tags_at) (λ y. record { maker = y.0; tags = y.1 })
    (λ (y : Tags × Reading). Follows maker_of (λ _. Unit {0}) least y.0) before x e
    (λ y is.
    let p = bind_ok (party_at least before) (λ z. tags_at z.1 >>= λ w. Ok ((z.0, w.0), w.1)) y is in
    let q = bind_ok (tags_at p.0.1) (λ w. Ok ((p.0.0, w.0), w.1)) y p.2 in
    let same = ok_is ((p.0.0, q.0.0), q.0.1) y q.2 in
    let party = subst (λ n. (least ≤ n) × (n ≤ 32)) (ap (λ z. z.0.0) same) (party_read least before p.0 p.1) in
    record { above = party.0; party = party.1; is = tt })

-- all makers that are read
makers_read : (before : Reading) (x : List Tags × Reading) → makers_at before ≡ Ok x → AreMakers x.0
unfolding makers_at counted_at
makers_read before x e =
    let a = bind_ok (within 1 33 wrong.Count byte_at before) (λ n. each_at maker_at (λ t. t.maker + 1) n.0 0 n.1) x e in
    let chain = each_chain maker_at (λ t. t.maker + 1) (Follows maker_of (λ _. Unit {0})) maker_read a.0.0 0 a.0.1 x a.2 in
    let rises = rises-chain maker_of (λ _. Unit {0}) 0 x.0 chain in
    record { rising = rises.rising; parties = rises.parties }

-- those of a record
record_read : (before : Reading) (x : Record × Reading) → record_at before ≡ Ok x → AreMakers x.0.makers
unfolding record_at
record_read before x e =
    let a = bind_ok (front_at before) (λ front. statement_at carried_at front.1 >>= λ s. makers_at s.1 >>= λ m. Ok (record { statement = s.0; makers = m.0 }, m.1)) x e in
    let b = bind_ok (statement_at carried_at a.0.1) (λ s. makers_at s.1 >>= λ m. Ok (record { statement = s.0; makers = m.0 }, m.1)) x a.2 in
    let c = bind_ok (makers_at b.0.1) (λ m. Ok (record { statement = b.0.0; makers = m.0 }, m.1)) x b.2 in
    let made : Record × Reading = (record { statement = b.0.0; makers = c.0.0 }, c.0.1) in
    subst (λ (y : Record × Reading). AreMakers y.0.makers) (ok_is made x c.2) (makers_read b.0.1 c.0 c.1)

-- those of a record that is all of the bytes
pub whole_read : (bytes : List ℕ) (r : Record) → whole_record bytes ≡ Ok r → AreMakers r.makers
unfolding whole_record
whole_read bytes r e =
    let a = bind_ok (record_at (at 0 bytes)) (λ x. cond (eqb (length x.1.left) 0) (Ok x.0) (Err (At x.1.place wrong.Trailing))) r e in
    let g = test_ok (eqb (length a.0.1.left) 0) (At a.0.1.place wrong.Trailing) a.0.0 r a.2 in
    subst (λ (s : Record). AreMakers s.makers) g.1 (record_read (at 0 bytes) a.0 a.1)
