-- Items of which each depends on the one before it, read one after the other.
use Rattle.std.proofs.Common.{◌≡◌, ℕ, zero, suc, ◌+◌, ◌<◌, ◌≤◌, Bool, true, false, ◌&&◌, cond, leb, List, [], ◌∷◌, ◌++◌, length, get_or, All, AllPairs, Ok, Err, refl, sym, ap, subst, ◌∙◌, append_assoc, arith}
use Rattle.std.specs.List.{flat_map}
use Rattle.std.proofs.lemmas.Bool.{leb-true, le-leb}
use Rattle.std.proofs.lemmas.List.Concat.{flat_map-cons}
use Rattle.std.proofs.lemmas.List.Elements.{All-nil, All-cons}
use Rattle.std.proofs.lemmas.List.Kept.{AllPairs-cons}
use Rattle.nys_bytes.specs.Reading.{Reading}
use Rattle.nys_stmt.specs.declared.wire.WireKind.{WireKind}
use Rattle.nys_stmt.specs.declared.wire.WireKind.TheVariants as wrong
use Rattle.nys_wire.specs.declared.fault.WireFault.TheVariants.{At}
use Rattle.nys_wire.specs.Reading.{Reads, ◌>>=◌, within, each_at, counted_at}
use Rattle.nys_wire.proofs.Steps.{IsBytes, IsField, Took, Took-then, Again, at, bind_ok, ok_is, test_ok, then_again}

-- two tests that passed together
both : (a b : Bool) → (a && b) ≡ true → (a ≡ true) × (b ≡ true)
both true b e = (refl, e)
both false b e = absurd cc

-- the same field under another account of what fits
pub refit : {A : Type 0} (field : Reads A) (text : A → List ℕ) (F G : A → Type 0) → IsField field text F → ((v : A) → F v → G v) → ((v : A) → G v → F v) → IsField field text G
refit field text F G old there back = record {
  takes = λ before x bytes e. let t = old.takes before x bytes e in (t.0, there x.0 t.1);
  again = λ v rest place fits. old.again v rest place (back v fits);
}

-- the same field under another account of its bytes
pub retext : {A : Type 0} (field : Reads A) (s t : A → List ℕ) (F : A → Type 0) → IsField field s F → ((v : A) → s v ≡ t v) → IsField field t F
retext field s t F old same = record {
  takes = λ before x bytes e. let r = old.takes before x bytes e in (subst (λ (l : List ℕ). Took before l x.1) (same x.0) r.0, r.1);
  again = λ v rest place fits. subst (λ (l : List ℕ). Again (field (at place (l ++ rest))) v rest) (same v) (old.again v rest place fits);
}

-- a number in a range
pub within_is : (least most : ℕ) (kind : WireKind) (field : Reads ℕ) (text : ℕ → List ℕ) (F : ℕ → Type 0)
    → IsField field text F → IsField (within least most kind field) text (λ n. F n × (least ≤ n) × (n ≤ most))
unfolding within
within_is least most kind field text F old = record {
  takes = λ before x bytes e.
      let m = bind_ok (field before) (λ y. cond (leb least y.0 && leb y.0 most) (Ok y) (Err (At before.place kind))) x e in
      let g = test_ok (leb least m.0.0 && leb m.0.0 most) (At before.place kind) m.0 x m.2 in
      let p = both (leb least m.0.0) (leb m.0.0 most) g.0 in
      let t = old.takes before m.0 bytes m.1 in
      subst (λ (y : ℕ × Reading). Took before (text y.0) y.1 × (F y.0 × (least ≤ y.0) × (y.0 ≤ most))) g.1
      (t.0, (t.1, leb-true least m.0.0 p.0, leb-true m.0.0 most p.1));
  again = λ v rest place fits.
      let low : leb least v ≡ true = le-leb least v fits.1 in
      let high : leb v most ≡ true = le-leb v most fits.2 in
      then_again (field (at place (text v ++ rest))) (λ y. cond (leb least y.0 && leb y.0 most) (Ok y) (Err (At place kind))) v rest v rest
      (old.again v rest place fits.0) (λ mid. (mid, rw (low, high) refl));
}

-- each item fits after the one before it
abbrev pub Chain : {A : Type 0} → (ℕ → A → Type 0) → (A → ℕ) → ℕ → List A → Type 0
Chain Fits leaves least [] = Unit {0}
Chain Fits leaves least (x ∷ xs) = Fits least x × Chain Fits leaves (leaves x) xs

-- items that are read are spelled so
each_takes : {A : Type 0} (item : ℕ → Reads A) (leaves : A → ℕ) (text : A → List ℕ) (Fits : ℕ → A → Type 0) → ((least : ℕ) → IsField (item least) text (Fits least))
    → (n least : ℕ) (before : Reading) (x : List A × Reading) → IsBytes before.left → each_at item leaves n least before ≡ Ok x
    → Took before (flat_map text x.0) x.1 × (length x.0 ≡ n) × Chain Fits leaves least x.0
unfolding each_at
each_takes {A = A} item leaves text Fits fields zero least before x bytes e =
    subst (λ (y : List A × Reading). Took before (flat_map text y.0) y.1 × (length y.0 ≡ 0) × Chain Fits leaves least y.0) (ok_is ([], before) x e)
    (record { parts = refl; bytes = bytes }, refl, tt)
each_takes {A = A} item leaves text Fits fields (suc n) least before x bytes e =
    let a = bind_ok (item least before) (λ y. each_at item leaves n (leaves y.0) y.1 >>= λ ys. Ok (y.0 ∷ ys.0, ys.1)) x e in
    let b = bind_ok (each_at item leaves n (leaves a.0.0) a.0.1) (λ ys. Ok (a.0.0 ∷ ys.0, ys.1)) x a.2 in
    let first = (fields least).takes before a.0 bytes a.1 in
    let others = each_takes item leaves text Fits fields n (leaves a.0.0) a.0.1 b.0 first.0.bytes b.1 in
    let whole = Took-then before a.0.1 b.0.1 (text a.0.0) (flat_map text b.0.0) first.0 others.0 in
    let made : List A × Reading = (a.0.0 ∷ b.0.0, b.0.1) in
    subst (λ (y : List A × Reading). Took before (flat_map text y.0) y.1 × (length y.0 ≡ suc n) × Chain Fits leaves least y.0) (ok_is made x b.2)
    (rw flat_map-cons whole, ap suc others.1, (first.1, others.2))

-- items that are spelled are read
each_again : {A : Type 0} (item : ℕ → Reads A) (leaves : A → ℕ) (text : A → List ℕ) (Fits : ℕ → A → Type 0) → ((least : ℕ) → IsField (item least) text (Fits least))
    → (xs : List A) (least : ℕ) (rest : List ℕ) (place : ℕ) → Chain Fits leaves least xs
    → Again (each_at item leaves (length xs) least (at place (flat_map text xs ++ rest))) xs rest
unfolding each_at
each_again item leaves text Fits fields [] least rest place fits = (place, refl)
each_again item leaves text Fits fields (x ∷ xs) least rest place fits =
    let grouped : flat_map text (x ∷ xs) ++ rest ≡ text x ++ (flat_map text xs ++ rest) =
    ap (λ (t : List ℕ). t ++ rest) (flat_map-cons text x xs) ∙ append_assoc (text x) (flat_map text xs) rest in
    subst (λ (l : List ℕ). Again (each_at item leaves (suc (length xs)) least (at place l)) (x ∷ xs) rest) (sym grouped)
    (then_again (item least (at place (text x ++ (flat_map text xs ++ rest)))) (λ y. each_at item leaves (length xs) (leaves y.0) y.1 >>= λ ys. Ok (y.0 ∷ ys.0, ys.1)) x (flat_map text xs ++ rest) (x ∷ xs) rest
    ((fields least).again x (flat_map text xs ++ rest) place fits.0)
    (λ mid. then_again (each_at item leaves (length xs) (leaves x) (at mid (flat_map text xs ++ rest))) (λ ys. Ok (x ∷ ys.0, ys.1)) xs rest (x ∷ xs) rest
    (each_again item leaves text Fits fields xs (leaves x) rest mid fits.1) (λ last. (last, refl))))

-- how many there are, and they
pub counted_is : {A : Type 0} (count : Reads ℕ) (spelled : ℕ → List ℕ) (limit most : ℕ) (item : ℕ → Reads A) (leaves : A → ℕ) (text : A → List ℕ) (Fits : ℕ → A → Type 0)
    → IsField count spelled (λ n. n < limit) → most < limit → ((least : ℕ) → IsField (item least) text (Fits least))
    → IsField (counted_at count most item leaves) (λ xs. spelled (length xs) ++ flat_map text xs) (λ xs. (1 ≤ length xs) × (length xs ≤ most) × Chain Fits leaves 0 xs)
unfolding counted_at
counted_is {A = A} count spelled limit most item leaves text Fits counts small fields =
    let head = within_is 1 most wrong.Count count spelled (λ n. n < limit) counts in
    record {
      takes = λ before x bytes e.
          let a = bind_ok (within 1 most wrong.Count count before) (λ n. each_at item leaves n.0 0 n.1) x e in
          let first = head.takes before a.0 bytes a.1 in
          let others = each_takes item leaves text Fits fields a.0.0 0 a.0.1 x first.0.bytes a.2 in
          let whole = Took-then before a.0.1 x.1 (spelled a.0.0) (flat_map text x.0) first.0 others.0 in (
            subst (λ (n : ℕ). Took before (spelled n ++ flat_map text x.0) x.1) (sym others.1) whole,
            (rw (others.1) first.1.1, rw (others.1) first.1.2, others.2),
          );
      again = λ v rest place fits.
          let behind : List ℕ = flat_map text v ++ rest in
          subst (λ (l : List ℕ). Again (counted_at count most item leaves (at place l)) v rest) (sym (append_assoc (spelled (length v)) (flat_map text v) rest))
          (then_again (within 1 most wrong.Count count (at place (spelled (length v) ++ behind))) (λ n. each_at item leaves n.0 0 n.1) (length v) behind v rest
          (head.again (length v) behind place (omega (arith, small, fits.1), fits.0, fits.1))
          (λ mid. each_again item leaves text Fits fields v 0 rest mid fits.2));
    }

-- ---- chains as facts of the whole list

-- a chain in which nothing depends on what is before
pub each-chain : {A : Type 0} (P : A → Type 0) (leaves : A → ℕ) (least : ℕ) (xs : List A) → Chain (λ _. P) leaves least xs → All P xs
each-chain P leaves least [] fits = All-nil P
each-chain P leaves least (x ∷ xs) fits = All-cons P x xs fits.0 (each-chain P leaves (leaves x) xs fits.1)

-- and back
pub chain-each : {A : Type 0} (P : A → Type 0) (leaves : A → ℕ) (least : ℕ) (xs : List A) → All P xs → Chain (λ _. P) leaves least xs
chain-each P leaves least [] each = tt
chain-each P leaves least (x ∷ xs) each =
    (each 0 x (omega arith), chain-each P leaves (leaves x) xs (λ k d lt. each (suc k) d (omega arith)))

-- an item whose key is at least what is asked, and a party, and that is such that P
pub record Follows {A : Type 0} (key : A → ℕ) (P : A → Type 0) (least : ℕ) (x : A) : Type 0 where
  pub above : least ≤ key x
  pub party : key x ≤ 32
  pub is : P x

-- keys that rise, are parties, and belong to items such that P
pub record Rises {A : Type 0} (key : A → ℕ) (P : A → Type 0) (xs : List A) : Type 0 where
  pub rising : AllPairs (λ a b. key a < key b) xs
  pub parties : All (λ x. key x ≤ 32) xs
  pub each : All P xs

-- each key of a chain is at least what its first was asked
pub above-chain : {A : Type 0} (key : A → ℕ) (P : A → Type 0) (least : ℕ) (xs : List A) → Chain (Follows key P) (λ x. key x + 1) least xs → All (λ x. least ≤ key x) xs
above-chain key P least [] fits = All-nil (λ x. least ≤ key x)
above-chain key P least (x ∷ xs) fits =
    let rest = above-chain key P (key x + 1) xs fits.1 in
    All-cons (λ y. least ≤ key y) x xs fits.0.above (λ k d lt. omega (arith, rest k d lt, fits.0.above))

-- the keys of a chain rise
pub rises-chain : {A : Type 0} (key : A → ℕ) (P : A → Type 0) (least : ℕ) (xs : List A) → Chain (Follows key P) (λ x. key x + 1) least xs → Rises key P xs
rises-chain key P least [] fits = record {
  rising = λ i j d lt inside. absurd (omega arith);
  parties = All-nil (λ x. key x ≤ 32);
  each = All-nil P;
}
rises-chain key P least (x ∷ xs) fits =
    let rest = rises-chain key P (key x + 1) xs fits.1 in
    let above = above-chain key P (key x + 1) xs fits.1 in
    record {
      rising = AllPairs-cons (λ a b. key a < key b) x xs (λ k d lt. omega (arith, above k d lt)) rest.rising;
      parties = All-cons (λ y. key y ≤ 32) x xs fits.0.party rest.parties;
      each = All-cons P x xs fits.0.is rest.each;
    }

-- items whose keys rise are a chain
pub chain-rises : {A : Type 0} (key : A → ℕ) (P : A → Type 0) (least : ℕ) (xs : List A) → Rises key P xs → All (λ x. least ≤ key x) xs → Chain (Follows key P) (λ x. key x + 1) least xs
chain-rises key P least [] rises above = tt
chain-rises {A = A} key P least (x ∷ xs) rises above =
    let tail : Rises key P xs = record {
      rising = λ i j d lt inside. rises.rising (suc i) (suc j) d (omega arith) (omega arith);
      parties = λ k d lt. rises.parties (suc k) d (omega arith);
      each = λ k d lt. rises.each (suc k) d (omega arith);
    } in (
      record { above = above 0 x (omega arith); party = rises.parties 0 x (omega arith); is = rises.each 0 x (omega arith) },
      chain-rises key P (key x + 1) xs tail (λ k d lt. let r : key x < key (get_or xs k d) = rises.rising 0 (suc k) d (omega arith) (omega arith) in omega arith),
    )
