-- The makers that a taker accepts are told, so where no forgery ended the world they are true.
use Rattle.std.proofs.Common.{◌≡◌, ℕ, zero, suc, Bool, true, false, List, [], ◌∷◌, map, filter, refl, sym, subst, arith}
use Rattle.std.specs.Prelude.{Contains, cond, if◌then◌else◌, nat_lt}
use Rattle.std.proofs.lemmas.Bool.Decides.{Decides-ltb}
use Rattle.std.proofs.lemmas.List.Elements.{All-contains, Contains-append_left}
use Rattle.nys_stmt.specs.declared.records.Record.{Record}
use Rattle.nys_stmt.specs.declared.tags.Tags.{Tags}
use Rattle.nys_rules.specs.Dropping.{accepted}
use Rattle.nys_rules.specs.Forged.{Entry, HasMade, makers_told}
use Rattle.nys_rules.specs.Handling.{hosts_among, noted_by}
use Rattle.nys_rules.specs.Happening.{AreTrue}
use Rattle.nys_rules.specs.Packets.{nothing}
use Rattle.nys_rules.specs.Scope.{olympus}
use Rattle.nys_rules.specs.World.{is_honest, Setting}
use Rattle.nys_laws.specs.Heard.{WasMade}

-- an element that passes stays
passing_in : {A : Type 0} (test : A → Bool) (xs : List A) (x : A) → Contains xs x → test x ≡ true
    → Contains (filter test xs) x
passing_in test [] x among passed = absurd (omega (arith, among.1))
passing_in {A} test (y ∷ xs) x (zero, lt, at) passed =
    by (test y) (subst (λ z. test z ≡ true) (sym at) passed)
  where
    by : (b : Bool) → b ≡ true → Contains (cond b (y ∷ filter test xs) (filter test xs)) x
    by true is = (zero, omega arith, at)
    by false is = absurd (cc)
passing_in {A} test (y ∷ xs) x (suc n, lt, at) passed =
    by (test y) (passing_in test xs x (n, omega (arith, lt), at) passed)
  where
    by : (b : Bool) → Contains (filter test xs) x
        → Contains (cond b (y ∷ filter test xs) (filter test xs)) x
    by true rest = (suc rest.0, omega (arith, rest.1), rest.2)
    by false rest = rest

-- the maker of tags is among the makers
maker_in : (makers : List Tags) (t : Tags) → Contains makers t
    → Contains (map (λ (x : Tags). x.maker) makers) t.maker
maker_in [] t among = absurd (omega (arith, among.1))
maker_in (x ∷ makers) t (zero, lt, at) =
    subst (λ z. Contains (x.maker ∷ map (λ (x : Tags). x.maker) makers) z.maker) at (zero, omega arith, refl)
maker_in (x ∷ makers) t (suc n, lt, at) =
    let rest = maker_in makers t (n, omega (arith, lt), at) in
    (suc rest.0, omega (arith, rest.1), rest.2)

-- each accepted maker that is an honest host made the statement
pub accepted_true : {S : Type 0} (setting : Setting S) (ledger : List Entry) (taker : ℕ) (r : Record)
    → AreTrue setting ledger r.statement
    (makers_told (noted_by nothing r (accepted setting.scope r.statement.epoch taker r)))
    → (t : Tags) → Contains (accepted setting.scope r.statement.epoch taker r) t
    → WasMade setting ledger t.maker r.statement
accepted_true setting ledger taker r true_all t among host honest =
    let makers = accepted setting.scope r.statement.epoch taker r in
    let told = noted_by nothing r makers in
    let is_host = passing_in (λ m. nat_lt m olympus) (map (λ (x : Tags). x.maker) makers) t.maker (maker_in makers t among)
    ((Decides-ltb t.maker olympus).1 host) in
    let is_told = Contains-append_left (hosts_among makers) (if told.olympus then olympus ∷ [] else []) t.maker is_host in
    All-contains (λ m. is_honest setting m ≡ true → HasMade ledger m r.statement) (makers_told told) t.maker true_all is_told honest
