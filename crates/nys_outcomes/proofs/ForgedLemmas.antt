-- Of the makers that a party accepted none is honest without having made the statement, or there is a first such; and
-- of what it made nothing clashes, or there is a first clash.
use Rattle.std.proofs.Common.{◌≡◌, ℕ, zero, suc, Bool, true, false, ℤ, List, [], ◌∷◌, Err, Some, None, refl, ap, sym, subst, ◌∙◌, inl, inr, arith}
use Rattle.std.specs.Prelude.{Contains, Option, Result, option_map}
use Rattle.std.proofs.lemmas.Bool.{cases_eq}
use Rattle.std.proofs.lemmas.List.Elements.{All-cons, All-nil}
use Rattle.nys_bytes.specs.declared.content.Content.{Content}
use Rattle.nys_bytes.specs.declared.content.Content.TheVariants.{External, Message}
use Rattle.nys_rules.proofs.SameLemmas.{decide_statements}
use Rattle.nys_rules.specs.Forged.{Entry, HasMade, IsFirstClash, NoneClashes}
use Rattle.nys_rules.specs.Happening.{AreTrue, IsForged, TellsOf, UnlessForged}
use Rattle.nys_rules.specs.Same.{is_same_statement}
use Rattle.nys_rules.specs.World.{is_honest, Setting, World}
use Rattle.nys_rules.specs.declared.notice.End.{End}
use Rattle.nys_rules.specs.declared.notice.End.TheVariants.{Clash, Forged}
use Rattle.nys_stmt.specs.Records.{payload_in}
use Rattle.nys_stmt.specs.Same.{AreAlike, content_with, DoClash, with_payload}
use Rattle.nys_stmt.specs.Spelling.{digest}
use Rattle.nys_stmt.specs.declared.statement.Body.{Body}
use Rattle.nys_stmt.specs.declared.statement.Body.TheVariants.{Filled, Attest, Ask, Wedge, Frozen, Open}
use Rattle.nys_stmt.specs.declared.statement.Statement.{Statement}

-- it is so, or it isn't
data Is (F : Type 0) : Type 0 where
  Yes : F → Is F
  No : (F → ⊥) → Is F

-- two statements are equal or not
equal : (a b : Statement) → Is (a ≡ b)
equal a b = by (is_same_statement a b) refl
  where
    by : (passed : Bool) → is_same_statement a b ≡ passed → Is (a ≡ b)
    by true is = Yes ((decide_statements a b).0 is)
    by false is = No (λ same. let passes = (decide_statements a b).1 same in cc)

-- two numbers are
same_number : (a b : ℕ) → Is (a ≡ b)
same_number a b = elim (cases_eq a b) [
  | inl e ↦ Yes e
  | inr ne ↦ No ne
]

-- two lists of numbers are
same_list : (a b : List ℕ) → Is (a ≡ b)
same_list [] [] = Yes refl
same_list [] (y ∷ ys) = No (λ e. cc)
same_list (x ∷ xs) [] = No (λ e. cc)
same_list (x ∷ xs) (y ∷ ys) = by (same_number x y) (same_list xs ys)
  where
    by : Is (x ≡ y) → Is (xs ≡ ys) → Is (x ∷ xs ≡ y ∷ ys)
    by (Yes e) (Yes es) = Yes (ap (λ z. z ∷ xs) e ∙ ap (λ zs. y ∷ zs) es)
    by (No ne) rest = No (λ e. ne cc)
    by (Yes e) (No ne) = No (λ es. ne cc)

-- two digests that may be there are
same_digest : (a b : Option (List ℕ)) → Is (a ≡ b)
same_digest None None = Yes refl
same_digest None (Some y) = No (λ e. cc)
same_digest (Some x) None = No (λ e. cc)
same_digest (Some x) (Some y) = by (same_list x y)
  where
    by : Is (x ≡ y) → Is (Some x ≡ Some y)
    by (Yes e) = Yes (ap Some e)
    by (No ne) = No (λ e. ne cc)

-- a payload in place of another
content_again : (payload other : List ℤ) (c : Content) → content_with payload (content_with other c) ≡ content_with payload c
content_again payload other (External own) = refl
content_again payload other (Message p k own) = refl

-- the same of a body
body_again : (payload other : List ℤ) (b : Body) → with_payload payload (with_payload other b) ≡ with_payload payload b
body_again payload other (Filled kind h slot c) = ap (Filled kind h slot) (content_again payload other c)
body_again payload other (Attest p h k own) = refl
body_again payload other (Ask h slot) = refl
body_again payload other Wedge = refl
body_again payload other (Frozen h slot) = refl
body_again payload other (Open lengths) = refl

-- bodies that are equal with one payload are so with each
with_each : (a b : Body) → with_payload [] a ≡ with_payload [] b → (payload : List ℤ) → with_payload payload a ≡ with_payload payload b
with_each a b e payload = sym (body_again payload [] a) ∙ ap (with_payload payload) e ∙ body_again payload [] b

-- two statements are alike or not
alike : (a b : Statement) → Is (AreAlike a b)
alike a b = by (equal (bare a) (bare b)) (same_digest (option_map digest (payload_in a.body)) (option_map digest (payload_in b.body)))
  where
    bare : Statement → Statement
    bare s = record { epoch = s.epoch; body = with_payload [] s.body }

    by : Is (bare a ≡ bare b) → Is (option_map digest (payload_in a.body) ≡ option_map digest (payload_in b.body)) → Is (AreAlike a b)
    by (Yes same) (Yes digests) = Yes (record {
      epoch = ap (λ (s : Statement). s.epoch) same;
      apart = with_each a.body b.body (ap (λ (s : Statement). s.body) same);
      digests = digests;
    })
    by (No other) digests =
        No (λ are. let epoch = are.epoch in let apart = are.apart [] in other (λ i. record { epoch = epoch i; body = apart i }))
    by (Yes same) (No other) = No (λ are. other are.digests)

-- they clash or not
clash : (a b : Statement) → Is (DoClash a b)
clash a b = by (alike a b) (equal a b)
  where
    by : Is (AreAlike a b) → Is (a ≡ b) → Is (DoClash a b)
    by (Yes are) (No differ) = Yes (record { alike = are; differ = differ })
    by (Yes are) (Yes same) = No (λ does. does.differ same)
    by (No other) same = No (λ does. other does.alike)

-- an entry
abbrev entry_of : ℕ → Statement → Entry
entry_of party statement = record { party = party; statement = statement }

-- what is in a list behind its first member
behind : {A : Type 0} (x y : A) (xs : List A) → Contains (y ∷ xs) x → (x ≡ y → ⊥) → Contains xs x
behind x y xs (zero, low, is) ne = absurd (ne (sym is))
behind x y xs (suc k, low, is) ne = (k, omega (arith, low), is)

-- what is in the rest is in the list
ahead : {A : Type 0} (x y : A) (xs : List A) → Contains xs x → Contains (y ∷ xs) x
ahead x y xs (k, low, is) = (suc k, omega (arith, low), is)

-- an entry is the party's with the statement, or it isn't
is_entry : (entry : Entry) (party : ℕ) (statement : Statement) → Is (entry_of party statement ≡ entry)
is_entry entry party statement = by (same_number party entry.party) (equal statement entry.statement)
  where
    by : Is (party ≡ entry.party) → Is (statement ≡ entry.statement) → Is (entry_of party statement ≡ entry)
    by (Yes a) (Yes b) = Yes (λ i. record { party = a i; statement = b i })
    by (No a) b = No (λ e. a (ap (λ (x : Entry). x.party) e))
    by (Yes a) (No b) = No (λ e. b (ap (λ (x : Entry). x.statement) e))

-- the party made the statement, or it didn't
made : (ledger : List Entry) (party : ℕ) (statement : Statement) → Is (HasMade ledger party statement)
made [] party statement = No (λ has. let low = has.1 in absurd (omega (arith, low)))
made (entry ∷ ledger) party statement = by (is_entry entry party statement) (made ledger party statement)
  where
    by : Is (entry_of party statement ≡ entry) → Is (HasMade ledger party statement) → Is (HasMade (entry ∷ ledger) party statement)
    by (Yes e) rest = Yes (zero, omega arith, sym e)
    by (No ne) (Yes has) = Yes (ahead (entry_of party statement) entry ledger has)
    by (No ne) (No never) = No (λ has. never (behind (entry_of party statement) entry ledger has ne))

-- no statement of the party clashes, or there is a first that does
data Finds (ledger : List Entry) (party : ℕ) (statement : Statement) : Type 0 where
  Nothing : NoneClashes ledger party statement → Finds ledger party statement
  First : (other : Statement) → IsFirstClash ledger party statement other → Finds ledger party statement

-- the entry is of the party, and clashes
record Clashes (entry : Entry) (party : ℕ) (statement : Statement) : Type 0 where
  of : entry.party ≡ party
  does : DoClash entry.statement statement

-- it does or not
clashes : (entry : Entry) (party : ℕ) (statement : Statement) → Is (Clashes entry party statement)
clashes entry party statement = by (same_number entry.party party) (clash entry.statement statement)
  where
    by : Is (entry.party ≡ party) → Is (DoClash entry.statement statement) → Is (Clashes entry party statement)
    by (Yes of) (Yes does) = Yes (record { of = of; does = does })
    by (No other) does = No (λ c. other c.of)
    by (Yes of) (No other) = No (λ c. other c.does)

-- with one entry before it that doesn't clash, none does
none_clashes : (entry : Entry) (ledger : List Entry) (party : ℕ) (statement : Statement) → (Clashes entry party statement → ⊥)
    → NoneClashes ledger party statement → NoneClashes (entry ∷ ledger) party statement
none_clashes entry ledger party statement other none x has does = by (is_entry entry party x)
  where
    by : Is (entry_of party x ≡ entry) → ⊥
    by (Yes e) = other (record { of = ap (λ (y : Entry). y.party) (sym e); does = subst (λ (y : Entry). DoClash y.statement statement) e does })
    by (No ne) = none x (behind (entry_of party x) entry ledger has ne) does

-- of a ledger
finds : (ledger : List Entry) (party : ℕ) (statement : Statement) → Finds ledger party statement
finds [] party statement = Nothing (λ other has does. let low = has.1 in absurd (omega (arith, low)))
finds (entry ∷ ledger) party statement = by (clashes entry party statement) (finds ledger party statement)
  where
    by : Is (Clashes entry party statement) → Finds ledger party statement → Finds (entry ∷ ledger) party statement
    by (Yes c) rest = First entry.statement (record {
      before = [];
      after = ledger;
      among = let of = c.of in λ i. record { party = of i; statement = entry.statement } ∷ ledger;
      none_before = λ other has does. let low = has.1 in absurd (omega (arith, low));
      clashes = c.does;
    })
    by (No other) (Nothing none) = Nothing (none_clashes entry ledger party statement other none)
    by (No other) (First x first) = First x (record {
      before = entry ∷ first.before;
      after = first.after;
      among = ap (λ l. entry ∷ l) first.among;
      none_before = none_clashes entry first.before party statement other first.none_before;
      clashes = first.clashes;
    })

-- something is told of a maker that never made the statement
tells : (ledger : List Entry) (event maker taker : ℕ) (statement : Statement)
    → (end : End) × TellsOf ledger event maker taker statement end
tells ledger event maker taker statement = by (finds ledger maker statement)
  where
    by : Finds ledger maker statement → (end : End) × TellsOf ledger event maker taker statement end
    by (Nothing none) = (Forged event maker taker statement, inl (none, refl))
    by (First x first) = (Clash event maker taker x statement, inr (x, first, refl))

-- the makers are true, or there is a first that isn't
data Looks {S : Type 0} (setting : Setting S) (ledger : List Entry) (statement : Statement) (makers : List ℕ) : Type 0 where
  True : AreTrue setting ledger statement makers → Looks setting ledger statement makers
  Untrue : (maker : ℕ) → IsForged setting ledger statement makers maker → Looks setting ledger statement makers

-- of a list of makers
looks : {S : Type 0} (setting : Setting S) (ledger : List Entry) (statement : Statement) (makers : List ℕ)
    → Looks setting ledger statement makers
looks setting ledger statement [] = True (All-nil (λ m. is_honest setting m ≡ true → HasMade ledger m statement))
looks {S} setting ledger statement (maker ∷ makers) =
    by (is_honest setting maker) refl (made ledger maker statement) (looks setting ledger statement makers)
  where
    P : ℕ → Type 0
    P m = is_honest setting m ≡ true → HasMade ledger m statement

    more : P maker → Looks setting ledger statement makers → Looks setting ledger statement (maker ∷ makers)
    more here (True all) = True (All-cons P maker makers here all)
    more here (Untrue other forged) = Untrue other (record {
      before = maker ∷ forged.before;
      after = forged.after;
      among = ap (λ l. maker ∷ l) forged.among;
      true_before = All-cons P maker forged.before here forged.true_before;
      honest = forged.honest;
      never = forged.never;
    })

    by : (honest : Bool) → is_honest setting maker ≡ honest → Is (HasMade ledger maker statement)
        → Looks setting ledger statement makers → Looks setting ledger statement (maker ∷ makers)
    by false is has rest = more (λ claimed. let no = sym is ∙ claimed in absurd (cc)) rest
    by true is (Yes has) rest = more (λ claimed. has) rest
    by true is (No never) rest = Untrue maker (record {
      before = [];
      after = makers;
      among = refl;
      true_before = All-nil P;
      honest = is;
      never = never;
    })

-- the world goes on as it would, or ends
pub unless_forged : {S : Type 0} (setting : Setting S) (w : World) (taker : ℕ) (said : Option Statement) (makers : List ℕ)
    (next : Result World End) → (result : Result World End) × UnlessForged setting w taker said makers next result
unless_forged setting w taker None makers next = (next, refl)
unless_forged setting w taker (Some statement) makers next = by (looks setting w.ledger statement makers)
  where
    by : Looks setting w.ledger statement makers
        → (result : Result World End) × UnlessForged setting w taker (Some statement) makers next result
    by (True all) = (next, inl (all, refl))
    by (Untrue maker forged) =
        let end = tells w.ledger w.events maker taker statement in
        (Err end.0, inr (maker, end.0, forged, end.1, refl))
