-- Makers that are looked at one after another.
use Rattle.std.proofs.Common.{◌≡◌, ℕ, zero, suc, ◌+◌, ◌-◌, ◌<◌, Bool, true, false, cond, List, [], ◌∷◌, ◌++◌, Some, None, refl, ap, sym, subst, ◌∙◌, arith}
use Rattle.std.specs.Prelude.{filter, IfNone, Option}
use Rattle.std.specs.List.{range_with_len}
use Rattle.std.proofs.lemmas.List.{append_assoc}
use Rattle.std.proofs.lemmas.List.Elements.{All-append, All-cons, All-nil, filter-append}
use Rattle.nys_hosts.specs.Makers.{passing}
use Rattle.nys_stmt.specs.declared.statement.Statement.{Statement}
use Rattle.nys_rules.specs.Forged.{Entry}
use Rattle.nys_rules.specs.Happening.{AreTrue, IsForged}
use Rattle.nys_rules.specs.World.{Setting}
use Rattle.nys_world.specs.Forgeries.{MadeIfHonest, NeverMade}

-- numbers, then those behind them
range_joined : (n a b k total : ℕ) → a + n ≡ b → n + k ≡ total → range_with_len a total ≡ range_with_len a n ++ range_with_len b k
range_joined zero a b k total e f =
    let first : a ≡ b = omega (arith, e) in
    let all : total ≡ k = omega (arith, f) in
    ap (λ x. range_with_len x total) first ∙ ap (range_with_len b) all
range_joined (suc n) a b k total e f =
    let all : total ≡ suc (n + k) = omega (arith, f) in
    let next : a + 1 + n ≡ b = omega (arith, e) in
    ap (range_with_len a) all ∙ ap (λ l. a ∷ l) (range_joined n (a + 1) b k (n + k) next refl)

-- the hosts that pass a test are those before one that passes, that one, and others
passing_split : (p : ℕ → Bool) (h : ℕ) → h < 32 → p h ≡ true
    → passing p ≡ filter p (range_with_len 0 h) ++ h ∷ filter p (range_with_len (h + 1) (31 - h))
unfolding passing
passing_split p h low passes =
    let start : 0 + h ≡ h = omega arith in
    let all : h + suc (31 - h) ≡ 32 = omega (arith, low) in
    ap (filter p) (range_joined h 0 h (suc (31 - h)) 32 start all)
    ∙ filter-append p (range_with_len 0 h) (h ∷ range_with_len (h + 1) (31 - h))
    ∙ ap (λ b. filter p (range_with_len 0 h) ++ cond b (h ∷ filter p (range_with_len (h + 1) (31 - h))) (filter p (range_with_len (h + 1) (31 - h)))) passes

-- the first host that is honest without having made the statement
pub forged_at : {S : Type 0} (setting : Setting S) (ledger : List Entry) (statement : Statement) (p : ℕ → Bool) (h : ℕ) → h < 32
    → p h ≡ true → NeverMade setting ledger statement h → AreTrue setting ledger statement (filter p (range_with_len 0 h))
    → IsForged setting ledger statement (passing p) h
forged_at setting ledger statement p h low passes never before = record {
  before = filter p (range_with_len 0 h);
  after = filter p (range_with_len (h + 1) (31 - h));
  among = passing_split p h low passes;
  true_before = before;
  honest = never.0;
  never = never.1;
}

-- one host more made it, where it passes and is honest
pub true_next : {S : Type 0} (setting : Setting S) (ledger : List Entry) (statement : Statement) (p : ℕ → Bool) (h : ℕ)
    → (p h ≡ true → MadeIfHonest setting ledger statement h) → AreTrue setting ledger statement (filter p (range_with_len 0 h))
    → AreTrue setting ledger statement (filter p (range_with_len 0 (h + 1)))
true_next setting ledger statement p h made before =
    let start : 0 + h ≡ h = omega arith in
    let next : h + 1 ≡ h + 1 = refl in
    subst (AreTrue setting ledger statement)
    (sym (ap (filter p) (range_joined h 0 h 1 (h + 1) start next) ∙ filter-append p (range_with_len 0 h) (h ∷ [])))
    (All-append (MadeIfHonest setting ledger statement) (filter p (range_with_len 0 h)) (filter p (h ∷ [])) before (one (p h) refl))
  where
    one : (b : Bool) → p h ≡ b → AreTrue setting ledger statement (filter p (h ∷ []))
    one true passes = rw passes (All-cons (MadeIfHonest setting ledger statement) h [] (made passes) (All-nil (MadeIfHonest setting ledger statement)))
    one false fails = rw fails (All-nil (MadeIfHonest setting ledger statement))

-- no host was looked at
pub true_none : {S : Type 0} (setting : Setting S) (ledger : List Entry) (statement : Statement) → AreTrue setting ledger statement []
true_none setting ledger statement = All-nil (MadeIfHonest setting ledger statement)

-- all hosts made it, where they pass and are honest
pub true_all : {S : Type 0} (setting : Setting S) (ledger : List Entry) (statement : Statement) (p : ℕ → Bool) (n : ℕ) → n ≡ 32
    → AreTrue setting ledger statement (filter p (range_with_len 0 n)) → AreTrue setting ledger statement (passing p)
unfolding passing
true_all setting ledger statement p n all before =
    subst (λ k. AreTrue setting ledger statement (filter p (range_with_len 0 k))) all before

-- the first of some makers is the first of them and others
pub forged_before : {S : Type 0} (setting : Setting S) (ledger : List Entry) (statement : Statement) (makers others : List ℕ) (m : ℕ)
    → IsForged setting ledger statement makers m → IsForged setting ledger statement (makers ++ others) m
forged_before setting ledger statement makers others m forged = record {
  before = forged.before;
  after = forged.after ++ others;
  among = ap (λ ms. ms ++ others) forged.among ∙ append_assoc forged.before (m ∷ forged.after) others;
  true_before = forged.true_before;
  honest = forged.honest;
  never = forged.never;
}

-- the first of other makers, where there is none before them
pub forged_behind : {S : Type 0} (setting : Setting S) (ledger : List Entry) (statement : Statement) (makers others : List ℕ) (m : ℕ)
    → AreTrue setting ledger statement makers → IsForged setting ledger statement others m
    → IsForged setting ledger statement (makers ++ others) m
forged_behind setting ledger statement makers others m all forged = record {
  before = makers ++ forged.before;
  after = forged.after;
  among = ap (λ ms. makers ++ ms) forged.among ∙ sym (append_assoc makers forged.before (m ∷ forged.after));
  true_before = All-append (MadeIfHonest setting ledger statement) makers forged.before all forged.true_before;
  honest = forged.honest;
  never = forged.never;
}

-- both lists of makers made it
pub true_both : {S : Type 0} (setting : Setting S) (ledger : List Entry) (statement : Statement) (makers others : List ℕ)
    → AreTrue setting ledger statement makers → AreTrue setting ledger statement others
    → AreTrue setting ledger statement (makers ++ others)
true_both setting ledger statement makers others all rest =
    All-append (MadeIfHonest setting ledger statement) makers others all rest

-- a single maker
pub forged_one : {S : Type 0} (setting : Setting S) (ledger : List Entry) (statement : Statement) (m : ℕ)
    → NeverMade setting ledger statement m → IsForged setting ledger statement (m ∷ []) m
forged_one setting ledger statement m never = record {
  before = [];
  after = [];
  among = refl;
  true_before = All-nil (MadeIfHonest setting ledger statement);
  honest = never.0;
  never = never.1;
}

-- a single maker that made it
pub true_one : {S : Type 0} (setting : Setting S) (ledger : List Entry) (statement : Statement) (m : ℕ)
    → MadeIfHonest setting ledger statement m → AreTrue setting ledger statement (m ∷ [])
true_one setting ledger statement m made =
    All-cons (MadeIfHonest setting ledger statement) m [] made (All-nil (MadeIfHonest setting ledger statement))

-- what is told where there is none may be told in another way
pub if_none_so : {X P Q : Type 0} (o : Option X) → (P → Q) → IfNone o P → IfNone o Q
if_none_so None move told = move told
if_none_so (Some x) move told = told
