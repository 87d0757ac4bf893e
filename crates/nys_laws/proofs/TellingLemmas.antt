-- What a sound node tells the Olympus where its epoch ends, by what the ledger has.
use Rattle.std.proofs.Common.{◌≡◌, ℕ, suc, ◌+◌, Bool, true, false, List, [], ◌∷◌, ◌++◌, map, filter, drop, Some, None, refl, sym, subst, ◌∙◌, inl, inr, arith}
use Rattle.std.specs.Prelude.{All, Option, cond, fold, flat_map, option_map, slice_get}
use Rattle.std.specs.List.{enumerate_from}
use Rattle.std.specs.Option.{option_to_list}
use Rattle.std.proofs.lemmas.List.Elements.{All-append, All-cons, All-head, All-map, All-nil, All-tail}
use Rattle.nys_bytes.specs.declared.content.Content.{Content}
use Rattle.nys_agreement.proofs.ListLemmas.{get_drop}
use Rattle.nys_stmt.specs.declared.statement.Body.{Body}
use Rattle.nys_stmt.specs.declared.statement.Body.TheVariants as body
use Rattle.nys_stmt.specs.declared.statement.FilledKind.TheVariants as kind
use Rattle.nys_stmt.specs.declared.statement.Statement.{Statement}
use Rattle.nys_rules.specs.Asking.{all_hosts}
use Rattle.nys_rules.specs.Ending.{entry_reports, reporting, testimony, told_from, vote_report}
use Rattle.nys_rules.specs.Forged.{Entry}
use Rattle.nys_rules.specs.Packets.{Acts, joined, nothing}
use Rattle.nys_rules.specs.Sending.{made_for, said_in, to_olympus}
use Rattle.nys_rules.specs.View.{is_live, length_of, View}
use Rattle.nys_rules.specs.World.{Setting}
use Rattle.nys_laws.specs.Grounds.{IsLiveAt, IsTestimony, IsToldBy}
use Rattle.nys_laws.specs.Own.Stage.{Delivered}
use Rattle.nys_laws.specs.Rests.{IsSound}
use Rattle.nys_laws.proofs.LiveLemmas.{live_is}

-- what holds of each element with its place holds of the numbered list
all_numbered : {A : Type 0} (P : ℕ × A → Type 0) (n : ℕ) (xs : List A)
    → ((i : ℕ) (x : A) → slice_get xs i ≡ Some x → P (n + i, x)) → All P (enumerate_from n xs)
all_numbered P n [] each = All-nil P
all_numbered P n (x ∷ xs) each =
    let here : n + 0 ≡ n = omega arith in
    All-cons P (n, x) (enumerate_from (n + 1) xs) (subst (λ k. P (k, x)) here (each 0 x refl))
    (all_numbered P (n + 1) xs (λ i y is.
    let at : n + suc i ≡ n + 1 + i = omega arith in
    subst (λ k. P (k, y)) at (each (suc i) y is)))

-- what holds of all that a function gives for what passes holds of the whole
all_passing : {B : Type 0} (P : B → Type 0) (f : ℕ → List B) (test : ℕ → Bool) (xs : List ℕ)
    → ((x : ℕ) → test x ≡ true → All P (f x)) → All P (flat_map f (filter test xs))
all_passing P f test [] each = All-nil P
all_passing {B} P f test (x ∷ xs) each =
    by (test x) refl (all_passing P f test xs each)
  where
    by : (b : Bool) → test x ≡ b → All P (flat_map f (filter test xs))
        → All P (flat_map f (cond b (x ∷ filter test xs) (filter test xs)))
    by true is rest = All-append P (f x) (flat_map f (filter test xs)) (each x is) rest
    by false is rest = rest

-- what holds of all statements of several acts holds of those of all of them
all_folded : (P : Statement → Type 0) (before : Acts) (parts : List Acts) → All P before.made
    → All (λ (a : Acts). All P a.made) parts → All P (fold joined before parts).made
all_folded P before [] first rest = first
all_folded P before (part ∷ parts) first rest =
    all_folded P (joined before part) parts
    (All-append P before.made part.made first (All-head (λ (a : Acts). All P a.made) part parts rest))
    (All-tail (λ (a : Acts). All P a.made) part parts rest)

-- a vote that is kept may be told
vote_told : {S : Type 0} (setting : Setting S) (g : ℕ) (ledger : List Entry) (v : View) (h : ℕ)
    → IsSound setting g ledger v → IsLiveAt setting.scope v h
    → (vote : Option Content) → (v.desks h).delivered ≡ vote
    → All (IsTestimony setting g ledger v)
    (option_to_list (option_map (λ c. body.Filled kind.Report h (length_of v h) c) vote))
vote_told setting g ledger v h k live None is = All-nil (IsTestimony setting g ledger v)
vote_told setting g ledger v h k live (Some c) is =
    All-cons (IsTestimony setting g ledger v) (body.Filled kind.Report h (length_of v h) c) []
    (live, (k.rests.desks h).delivered c is, inr (k.own.own.kept Delivered h c is))
    (All-nil (IsTestimony setting g ledger v))

-- all that is told of a host that is live may be
testimony_told : {S : Type 0} (setting : Setting S) (g : ℕ) (ledger : List Entry) (v : View) (h : ℕ)
    → IsSound setting g ledger v → is_live setting.scope v h ≡ true
    → All (IsTestimony setting g ledger v) (testimony v h)
unfolding testimony
testimony_told {S} setting g ledger v h k lives =
    All-append May (entry_reports v h) (vote_report v h ++ body.Frozen h (v.voted_to h) ∷ [])
    (All-map May (λ (x : ℕ × Content). body.Filled kind.Report h x.0 x.1)
    (enumerate_from (told_from v h) (drop (told_from v h) (v.logs h)))
    (all_numbered (λ x. May (body.Filled kind.Report h x.0 x.1)) (told_from v h) (drop (told_from v h) (v.logs h))
    (λ i c is. (live, omega arith, inl (sym (get_drop (told_from v h) (v.logs h) i) ∙ is)))))
    (All-append May (vote_report v h) (body.Frozen h (v.voted_to h) ∷ [])
    (vote_told setting g ledger v h k live (v.desks h).delivered refl)
    (All-cons May (body.Frozen h (v.voted_to h)) []
    (live, refl, λ before c has. k.rests.voted h before c has) (All-nil May)))
  where
    May : Body → Type 0
    May = IsTestimony setting g ledger v

    live : IsLiveAt setting.scope v h
    live = live_is setting.scope v h lives

-- bodies that may be told, as statements
bodies_told : {S : Type 0} (setting : Setting S) (g : ℕ) (ledger : List Entry) (v : View) (bodies : List Body)
    → All (IsTestimony setting g ledger v) bodies
    → All (λ (a : Acts). All (IsToldBy setting g ledger v) a.made) (map (to_olympus setting.scope v) bodies)
unfolding made_for
bodies_told setting g ledger v [] each = All-nil (λ (a : Acts). All (IsToldBy setting g ledger v) a.made)
bodies_told setting g ledger v (said ∷ bodies) each =
    let Told : Statement → Type 0 = IsToldBy setting g ledger v in
    All-cons (λ (a : Acts). All Told a.made) (to_olympus setting.scope v said) (map (to_olympus setting.scope v) bodies)
    (All-cons Told (said_in v.epoch said) []
    (record { said = said; statement_is = refl; may = All-head (IsTestimony setting g ledger v) said bodies each })
    (All-nil Told))
    (bodies_told setting g ledger v bodies (All-tail (IsTestimony setting g ledger v) said bodies each))

-- all that a node tells
pub told_on_grounds : {S : Type 0} (setting : Setting S) (g : ℕ) (ledger : List Entry) (v : View)
    → IsSound setting g ledger v → All (IsToldBy setting g ledger v) (reporting setting.scope v).made
unfolding reporting
told_on_grounds setting g ledger v k =
    let bodies = flat_map (testimony v) (filter (is_live setting.scope v) all_hosts) in
    all_folded (IsToldBy setting g ledger v) nothing (map (to_olympus setting.scope v) bodies)
    (All-nil (IsToldBy setting g ledger v))
    (bodies_told setting g ledger v bodies
    (all_passing (IsTestimony setting g ledger v) (testimony v) (is_live setting.scope v) all_hosts
    (λ h live. testimony_told setting g ledger v h k live)))
