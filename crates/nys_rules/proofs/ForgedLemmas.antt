-- A forgery or a clash is told of one maker: the first that is honest and hadn't made the statement.
use Rattle.std.proofs.Common.{◌≡◌, ℕ, zero, true, List, [], ◌∷◌, ◌++◌, Some, None, Err, refl, ap, sym, subst, ◌∙◌, inl, inr, arith}
use Rattle.std.specs.Prelude.{Contains, Option, Result}
use Rattle.std.proofs.lemmas.List.Elements.{All-head, All-tail, Contains-append_right}
use Rattle.nys_stmt.specs.declared.statement.Statement.{Statement}
use Rattle.nys_stmt.specs.Same.{DoClash}
use Rattle.nys_rules.specs.declared.notice.End.{End}
use Rattle.nys_rules.specs.declared.notice.End.TheVariants.{Clash}
use Rattle.nys_rules.specs.Forged.{Entry, HasMade, IsFirstClash, NoneClashes}
use Rattle.nys_rules.specs.Happening.{AreTrue, IsForged, TellsOf, UnlessForged}
use Rattle.nys_rules.specs.World.{is_honest, Setting, World}

-- a maker that made the statement where it is honest
abbrev IsTrue : {S : Type 0} → Setting S → List Entry → Statement → ℕ → Type 0
IsTrue setting ledger statement m = is_honest setting m ≡ true → HasMade ledger m statement

-- a maker that didn't is not among those that did
true_not_among : {S : Type 0} (setting : Setting S) (ledger : List Entry) (statement : Statement) (before after : List ℕ) (m : ℕ)
    → AreTrue setting ledger statement (before ++ m ∷ after) → IsTrue setting ledger statement m
true_not_among setting ledger statement [] after m all = All-head (IsTrue setting ledger statement) m after all
true_not_among setting ledger statement (b ∷ before) after m all =
    true_not_among setting ledger statement before after m (All-tail (IsTrue setting ledger statement) b (before ++ m ∷ after) all)

-- of a list with none there is no first
pub forged_not_true : {S : Type 0} (setting : Setting S) (ledger : List Entry) (statement : Statement) (makers : List ℕ) (m : ℕ)
    → AreTrue setting ledger statement makers → IsForged setting ledger statement makers m → ⊥
forged_not_true setting ledger statement makers m all forged =
    forged.never (true_not_among setting ledger statement forged.before forged.after m
    (subst (AreTrue setting ledger statement) forged.among all) forged.honest)

-- the first ones of a list that is cut twice are one
first_once : {S : Type 0} (setting : Setting S) (ledger : List Entry) (statement : Statement) (m n : ℕ) (xs ends ys rest : List ℕ)
    → xs ++ m ∷ ends ≡ ys ++ n ∷ rest → AreTrue setting ledger statement xs
    → AreTrue setting ledger statement ys
    → (IsTrue setting ledger statement m → ⊥) → (IsTrue setting ledger statement n → ⊥) → m ≡ n
first_once setting ledger statement m n [] ends [] rest e p q not_m not_n = cc
first_once setting ledger statement m n [] ends (y ∷ ys) rest e p q not_m not_n =
    let same : m ≡ y = cc in
    absurd (not_m (subst (IsTrue setting ledger statement) (sym same) (All-head (IsTrue setting ledger statement) y ys q)))
first_once setting ledger statement m n (x ∷ xs) ends [] rest e p q not_m not_n =
    let same : x ≡ n = cc in
    absurd (not_n (subst (IsTrue setting ledger statement) same (All-head (IsTrue setting ledger statement) x xs p)))
first_once setting ledger statement m n (x ∷ xs) ends (y ∷ ys) rest e p q not_m not_n =
    let tails : xs ++ m ∷ ends ≡ ys ++ n ∷ rest = cc in
    first_once setting ledger statement m n xs ends ys rest tails
    (All-tail (IsTrue setting ledger statement) x xs p) (All-tail (IsTrue setting ledger statement) y ys q) not_m not_n

-- the forger that is told is one
pub forged_once : {S : Type 0} (setting : Setting S) (ledger : List Entry) (statement : Statement) (makers : List ℕ) (m n : ℕ)
    → IsForged setting ledger statement makers m → IsForged setting ledger statement makers n → m ≡ n
forged_once setting ledger statement makers m n p q =
    first_once setting ledger statement m n p.before p.after q.before q.after (sym p.among ∙ q.among) p.true_before q.true_before
    (λ made. p.never (made p.honest)) (λ made. q.never (made q.honest))

-- what is behind the first of a list is in it
behind_one : {X : Type 0} (x y : X) (xs : List X) → Contains xs y → Contains (x ∷ xs) y
behind_one x y xs has = Contains-append_right (x ∷ []) xs y has

-- the first that has a fact, of a list that is cut twice, is one
cut_once : {X : Type 0} (Has : X → Type 0) (x y : X) (xs ends ys rest : List X) → xs ++ x ∷ ends ≡ ys ++ y ∷ rest
    → ((z : X) → Contains xs z → Has z → ⊥) → ((z : X) → Contains ys z → Has z → ⊥) → Has x → Has y → x ≡ y
cut_once Has x y [] ends [] rest e p q has_x has_y = cc
cut_once Has x y [] ends (b ∷ ys) rest e p q has_x has_y =
    let same : b ≡ x = cc in absurd (q x (zero, omega arith, same) has_x)
cut_once Has x y (a ∷ xs) ends [] rest e p q has_x has_y =
    let same : a ≡ y = cc in absurd (p y (zero, omega arith, same) has_y)
cut_once Has x y (a ∷ xs) ends (b ∷ ys) rest e p q has_x has_y =
    let tails : xs ++ x ∷ ends ≡ ys ++ y ∷ rest = cc in
    cut_once Has x y xs ends ys rest tails (λ z in_xs has. p z (behind_one a z xs in_xs) has)
    (λ z in_ys has. q z (behind_one b z ys in_ys) has) has_x has_y

-- an entry of the party whose statement clashes with this one
pub record IsClash (party : ℕ) (statement : Statement) (entry : Entry) : Type 0 where
  pub of : entry.party ≡ party
  pub clashes : DoClash entry.statement statement

-- an entry
abbrev pub entry_of : ℕ → Statement → Entry
entry_of party statement = record { party = party; statement = statement }

-- where none clashes, no entry does
pub no_entry : (ledger : List Entry) (party : ℕ) (statement : Statement) → NoneClashes ledger party statement
    → (entry : Entry) → Contains ledger entry → IsClash party statement entry → ⊥
no_entry ledger party statement none entry has clash =
    none entry.statement (subst (λ p. Contains ledger (entry_of p entry.statement)) clash.of has) clash.clashes

-- the statement that a clash is with is one
pub clash_once : (ledger : List Entry) (party : ℕ) (statement a b : Statement)
    → IsFirstClash ledger party statement a → IsFirstClash ledger party statement b → a ≡ b
clash_once ledger party statement a b p q =
    ap (λ (entry : Entry). entry.statement)
    (cut_once (IsClash party statement) (entry_of party a) (entry_of party b) p.before p.after q.before q.after
    (sym p.among ∙ q.among) (no_entry p.before party statement p.none_before) (no_entry q.before party statement q.none_before)
    (record { of = refl; clashes = p.clashes }) (record { of = refl; clashes = q.clashes }))

-- the first that clashes does
pub first_does : (ledger : List Entry) (party : ℕ) (statement made : Statement) → NoneClashes ledger party statement
    → IsFirstClash ledger party statement made → ⊥
first_does ledger party statement made none first =
    none made (subst (λ l. HasMade l party made) (sym first.among)
    (Contains-append_right first.before (entry_of party made ∷ first.after) (entry_of party made) (zero, omega arith, refl)))
    first.clashes

-- what is told of a maker is one end
tells_once : (ledger : List Entry) (event maker taker : ℕ) (statement : Statement) (a b : End)
    → TellsOf ledger event maker taker statement a → TellsOf ledger event maker taker statement b → a ≡ b
tells_once ledger event maker taker statement a b p q = elim p [
  | inl x ↦ elim q [
    | inl y ↦ x.1 ∙ sym y.1
    | inr y ↦ absurd (first_does ledger maker statement y.0 x.0 y.1)
  ]
  | inr x ↦ elim q [
    | inl y ↦ absurd (first_does ledger maker statement x.0 y.0 x.1)
    | inr y ↦
        x.2 ∙ ap (λ s. Clash event maker taker s statement) (clash_once ledger maker statement x.0 y.0 x.1 y.1) ∙ sym y.2
  ]
]

-- a world ends by a forgery or a clash, or goes on, in one way
pub unless_forged_once : {S : Type 0} (setting : Setting S) (w : World) (taker : ℕ) (said : Option Statement) (makers : List ℕ)
    (next a b : Result World End) → UnlessForged setting w taker said makers next a
    → UnlessForged setting w taker said makers next b → a ≡ b
unless_forged_once setting w taker None makers next a b p q = p ∙ sym q
unless_forged_once setting w taker (Some statement) makers next a b p q = elim p [
  | inl x ↦ elim q [
    | inl y ↦ x.1 ∙ sym y.1
    | inr y ↦ absurd (forged_not_true setting w.ledger statement makers y.0 x.0 y.2)
  ]
  | inr x ↦ elim q [
    | inl y ↦ absurd (forged_not_true setting w.ledger statement makers x.0 y.0 x.2)
    | inr y ↦
        let one = forged_once setting w.ledger statement makers x.0 y.0 x.2 y.2 in
        let told = subst (λ m. TellsOf w.ledger w.events m taker statement y.1) (sym one) y.3 in
        x.4 ∙ ap (λ end. Err end) (tells_once w.ledger w.events x.0 taker statement x.1 y.1 x.3 told) ∙ sym y.4
  ]
]
