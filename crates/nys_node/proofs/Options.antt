-- What a copied option has, and a value where a test passes.
use Rattle.std.proofs.Common.{◌≡◌, Bool, true, false, ◌&&◌, not, refl, ap, sym, ◌∙◌}
use Rattle.std.specs.Prelude.{Option, Some, None, if◌then◌else◌}
use Rattle.nys_bytes.specs.declared.content.Content.{Content}
use Rattle.nys_rules.specs.Rules.{only_if, passing_only}

-- the test passes, so the value is there
pub only_passed : {A : Type 0} (b : Bool) (value found : Option A) → b ≡ true → found ≡ value → found ≡ only_if b value
only_passed b value found passed same = rw passed same

-- it doesn't, so there is none
pub only_failed : {A : Type 0} (b : Bool) (value : Option A) → b ≡ false → None ≡ only_if b value
only_failed b value failed = rw failed refl

-- the content that is there passes
pub passing_there : (test : Content → Bool) (o : Option Content) (c : Content) → Some c ≡ o → test c ≡ true → Some c ≡ passing_only test o
passing_there test o c there passed = rw (sym there) (rw passed refl)

-- it doesn't
pub passing_failed : (test : Content → Bool) (o : Option Content) (c : Content) → Some c ≡ o → test c ≡ false → None ≡ passing_only test o
passing_failed test o c there failed = rw (sym there) (rw failed refl)

-- there is none
pub passing_none : (test : Content → Bool) (o : Option Content) → None ≡ o → None ≡ passing_only test o
passing_none test o there = rw (sym there) refl

-- the one of two, where the test passes
pub if_passed : {A : Type 0} (b : Bool) (p q found : A) → b ≡ true → found ≡ p → found ≡ (if b then p else q)
if_passed b p q found passed same = rw passed same

-- the other, where it fails
pub if_failed : {A : Type 0} (b : Bool) (p q found : A) → b ≡ false → found ≡ q → found ≡ (if b then p else q)
if_failed b p q found failed same = rw failed same

-- the first test passes, so the second decides
pub and_passed : (a b found : Bool) → a ≡ true → found ≡ b → found ≡ (a && b)
and_passed a b found passed same = rw passed same

-- both tests pass
pub and_both : (a b : Bool) → a ≡ true → b ≡ true → (a && b) ≡ true
and_both a b p q = rw p q

-- the first test fails
pub and_failed : (a b : Bool) → a ≡ false → (a && b) ≡ false
and_failed a b failed = rw failed refl

-- the second test fails
pub and_both_failed : (a b : Bool) → b ≡ false → (a && b) ≡ false
and_both_failed true b failed = failed
and_both_failed false b failed = refl

-- what is told is so, and the other is not
pub not_told : (a b told : Bool) → a ≡ b → a ≡ told → not b ≡ not told
not_told a b told same is = ap not (sym same ∙ is)
