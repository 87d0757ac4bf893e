-- Readings one behind the other: what was read before a fault, and what is read of what was written.
use Rattle.std.proofs.Common.{◌≡◌, ℕ, ◌<◌, Bool, true, false, cond, List, ◌++◌, get_or, Result, Ok, Err, refl, sym, ap, subst, ◌∙◌, append_assoc, ◌⊎◌, inl, inr}
use Rattle.nys_bytes.specs.Reading.{Reading}
use Rattle.nys_wire.specs.declared.fault.WireFault.{WireFault}
use Rattle.nys_wire.specs.Reading.{Reads, ◌>>=◌, map_at, pair_at}

-- each number is one of a byte
abbrev pub IsBytes : List ℕ → Type 0
IsBytes bytes = (i : ℕ) → get_or bytes i 0 < 256

-- a reading at this place
abbrev pub at : ℕ → List ℕ → Reading
at place left = record { place = place; left = left }

-- the value of a step that did not fail
pub bind_ok : {A B : Type 0} (r : Result A WireFault) (f : A → Result B WireFault) (y : B) → (r >>= f) ≡ Ok y → (x : A) × (r ≡ Ok x) × (f x ≡ Ok y)
bind_ok (Ok x) f y e = (x, refl, e)
bind_ok (Err d) f y e = absurd cc

-- a reading without fault
abbrev done : {A : Type 0} → A → Result A WireFault
done x = Ok x

-- what two equal readings gave is equal
pub ok_is : {A : Type 0} (x y : A) → done x ≡ done y → x ≡ y
ok_is x y e = cc

-- a test that did not fail
pub guard_ok : {A : Type 0} (b : Bool) (d : WireFault) (x y : A) → cond b (Err d) (Ok x) ≡ Ok y → (b ≡ false) × (x ≡ y)
guard_ok true d x y e = absurd cc
guard_ok false d x y e = (refl, cc)

-- a test that passed
pub test_ok : {A : Type 0} (b : Bool) (d : WireFault) (x y : A) → cond b (Ok x) (Err d) ≡ Ok y → (b ≡ true) × (x ≡ y)
test_ok true d x y e = (refl, cc)
test_ok false d x y e = absurd cc

-- which side of a test a value is of
pub chosen : {A : Type 0} (b : Bool) (x y z : A) → cond b x y ≡ z → ((b ≡ true) × (x ≡ z)) ⊎ ((b ≡ false) × (y ≡ z))
chosen true x y z e = inl (refl, e)
chosen false x y z e = inr (refl, e)

-- what a reader took from the front
pub record Took (before : Reading) (text : List ℕ) (after : Reading) : Type 0 where
  pub parts : before.left ≡ text ++ after.left
  pub bytes : IsBytes after.left

-- what was taken in two steps
pub Took-then : (a b c : Reading) (x y : List ℕ) → Took a x b → Took b y c → Took a (x ++ y) c
Took-then a b c x y p q = record { parts = p.parts ∙ ap (λ (t : List ℕ). x ++ t) q.parts ∙ sym (append_assoc x y c.left); bytes = q.bytes }

-- a value was read, and this is left
abbrev pub Again : {A : Type 0} → Result (A × Reading) WireFault → A → List ℕ → Type 0
Again read v rest = (place : ℕ) × (read ≡ Ok (v, at place rest))

-- what is read next
pub then_again : {A B : Type 0} (read : Result (A × Reading) WireFault) (f : A × Reading → Result (B × Reading) WireFault) (v : A) (rest : List ℕ) (w : B) (end : List ℕ)
    → Again read v rest → ((place : ℕ) → Again (f (v, at place rest)) w end) → Again (read >>= f) w end
then_again read f v rest w end first next =
    subst (λ x. Again (x >>= f) w end) (sym first.1) (next first.0)

-- what a field is made from, and what can be read there
pub record IsField {A : Type 0} (field : Reads A) (text : A → List ℕ) (Fits : A → Type 0) : Type 0 where
  pub takes : (before : Reading) (x : A × Reading) → IsBytes before.left → field before ≡ Ok x → Took before (text x.0) x.1 × Fits x.0
  pub again : (v : A) (rest : List ℕ) (place : ℕ) → Fits v → Again (field (at place (text v ++ rest))) v rest

-- two fields are a field
pub pair_is : {A B : Type 0} (a : Reads A) (b : Reads B) (s : A → List ℕ) (t : B → List ℕ) (F : A → Type 0) (G : B → Type 0)
    → IsField a s F → IsField b t G → IsField (pair_at a b) (λ x. s x.0 ++ t x.1) (λ x. F x.0 × G x.1)
pair_is {A = A} {B = B} a b s t F G first second = record {
  takes = λ before x bytes e.
      let p = bind_ok (a before) (λ y. b y.1 >>= λ z. Ok ((y.0, z.0), z.1)) x e in
      let q = bind_ok (b p.0.1) (λ z. Ok ((p.0.0, z.0), z.1)) x p.2 in
      let one = first.takes before p.0 bytes p.1 in
      let two = second.takes p.0.1 q.0 one.0.bytes q.1 in
      let made : (A × B) × Reading = ((p.0.0, q.0.0), q.0.1) in
      subst (λ (y : (A × B) × Reading). Took before (s y.0.0 ++ t y.0.1) y.1 × (F y.0.0 × G y.0.1)) (ok_is made x q.2)
      (Took-then before p.0.1 q.0.1 (s p.0.0) (t q.0.0) one.0 two.0, (one.1, two.1));
  again = λ v rest place fits.
      let grouped : (s v.0 ++ t v.1) ++ rest ≡ s v.0 ++ (t v.1 ++ rest) = append_assoc (s v.0) (t v.1) rest in
      subst (λ (l : List ℕ). Again (pair_at a b (at place l)) v rest) (sym grouped)
      (then_again (a (at place (s v.0 ++ (t v.1 ++ rest)))) (λ y. b y.1 >>= λ z. Ok ((y.0, z.0), z.1)) v.0 (t v.1 ++ rest) v rest
      (first.again v.0 (t v.1 ++ rest) place fits.0)
      (λ mid. then_again (b (at mid (t v.1 ++ rest))) (λ z. Ok ((v.0, z.0), z.1)) v.1 rest v rest
      (second.again v.1 rest mid fits.1) (λ last. (last, refl))));
}

-- what is read through a function, by what is read
pub map_takes : {A B : Type 0} (a : Reads A) (f : A → B) (P : B × Reading → Type 0) (before : Reading) (x : B × Reading)
    → map_at f a before ≡ Ok x → ((y : A × Reading) → a before ≡ Ok y → P (f y.0, y.1)) → P x
map_takes a f P before x e each =
    let m = bind_ok (a before) (λ y. Ok (f y.0, y.1)) x e in
    subst P (ok_is (f m.0.0, m.0.1) x m.2) (each m.0 m.1)

-- and what is read again
pub map_again : {A B : Type 0} (a : Reads A) (f : A → B) (v : A) (rest : List ℕ) (here : Reading) → Again (a here) v rest → Again (map_at f a here) (f v) rest
map_again a f v rest here once = then_again (a here) (λ y. Ok (f y.0, y.1)) v rest (f v) rest once (λ last. (last, refl))

-- a field whose value stands for another
pub map_is : {A B : Type 0} (a : Reads A) (f : A → B) (g : B → A) (s : A → List ℕ) (F : A → Type 0)
    → ((x : A) → g (f x) ≡ x) → ((y : B) → f (g y) ≡ y) → IsField a s F → IsField (map_at f a) (λ y. s (g y)) (λ y. F (g y))
map_is {B = B} a f g s F there back field = record {
  takes = λ before x bytes e.
      map_takes a f (λ (y : B × Reading). Took before (s (g y.0)) y.1 × F (g y.0)) before x e
      (λ y is. rw (there y.0) (field.takes before y bytes is));
  again = λ v rest place fits.
      subst (λ (w : B). Again (map_at f a (at place (s (g v) ++ rest))) w rest) (back v)
      (map_again a f (g v) rest (at place (s (g v) ++ rest)) (field.again (g v) rest place fits));
}
