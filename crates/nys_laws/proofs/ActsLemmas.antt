-- What a node makes that brings no content into a slot: its reports, its questions, its answers.
use Rattle.std.proofs.Common.{◌≡◌, ℕ, Bool, true, false, ℤ, List, [], ◌∷◌, ◌++◌, map, filter, drop, Some, None, refl, ap}
use Rattle.std.specs.Prelude.{All, Option, fold, flat_map, option_map, if◌then◌else◌}
use Rattle.std.specs.List.{enumerate_from}
use Rattle.std.specs.Option.{option_to_list}
use Rattle.std.proofs.lemmas.List.Elements.{All-append, All-cons, All-head, All-nil, All-tail}
use Rattle.nys_bytes.specs.declared.content.Content.{Content}
use Rattle.nys_stmt.specs.declared.statement.Body.{Body}
use Rattle.nys_stmt.specs.declared.statement.Body.TheVariants as body
use Rattle.nys_stmt.specs.declared.statement.FilledKind.TheVariants as kind
use Rattle.nys_stmt.specs.declared.statement.Statement.{Statement}
use Rattle.nys_stmt.specs.declared.tags.Tags.{Tags}
use Rattle.nys_rules.specs.Asking.{all_hosts, answering, asked_hosts, questions}
use Rattle.nys_rules.specs.Ending.{entry_reports, reporting, testimony, told_from, vote_report}
use Rattle.nys_rules.specs.Packets.{Acts, all_joined, joined, nothing}
use Rattle.nys_rules.specs.Scope.{olympus, Scope}
use Rattle.nys_rules.specs.Sending.{made_for, said_in, to_guards, to_olympus}
use Rattle.nys_rules.specs.View.{is_live, length_of, View}
use Rattle.nys_laws.specs.Own.{body_at, Stage}
use Rattle.nys_laws.specs.Own.Stage.{Offered, Ordered, Delivered}
use Rattle.nys_laws.proofs.OwnLemmas.{IsAside}

-- a body that brings no content into a slot
abbrev pub IsOther : Body → Type 0
IsOther said =
    (stage : Stage) (h slot : ℕ) (content : Content) → said ≡ body_at stage h slot content → ⊥

-- a statement of the epoch with such a body
pub aside_of : (e : ℕ) (said : Body) → IsOther said → IsAside e (said_in e said)
aside_of e said other = record {
  epoch_is = refl;
  other = λ stage d h slot content is. other stage h slot content (ap (λ (z : Statement). z.body) is);
}

-- an attestation
pub attest_other : (p h k : ℕ) (payload : List ℤ) → IsOther (body.Attest p h k payload)
attest_other p h k payload Offered x slot content is = cc
attest_other p h k payload Ordered x slot content is = cc
attest_other p h k payload Delivered x slot content is = cc

-- a question
ask_other : (h s : ℕ) → IsOther (body.Ask h s)
ask_other h s Offered x slot content is = cc
ask_other h s Ordered x slot content is = cc
ask_other h s Delivered x slot content is = cc

-- a report
report_other : (h s : ℕ) (c : Content) → IsOther (body.Filled kind.Report h s c)
report_other h s c Offered x slot content is = cc
report_other h s c Ordered x slot content is = cc
report_other h s c Delivered x slot content is = cc

-- the slot from which on a node votes no more
frozen_other : (h s : ℕ) → IsOther (body.Frozen h s)
frozen_other h s Offered x slot content is = cc
frozen_other h s Ordered x slot content is = cc
frozen_other h s Delivered x slot content is = cc

-- all statements that are made with the acts are such
abbrev pub AreAside : ℕ → Acts → Type 0
AreAside e acts = All (IsAside e) acts.made

-- the one, then the other
pub aside_joined : (e : ℕ) (a b : Acts) → AreAside e a → AreAside e b → AreAside e (joined a b)
aside_joined e a b p q = All-append (IsAside e) a.made b.made p q

-- all of them, behind others
aside_folded : (e : ℕ) (before : Acts) (parts : List Acts) → AreAside e before
    → All (AreAside e) parts
    → AreAside e (fold joined before parts)
aside_folded e before [] first rest = first
aside_folded e before (part ∷ parts) first rest =
    aside_folded e (joined before part) parts (aside_joined e before part first (All-head (AreAside e) part parts rest))
    (All-tail (AreAside e) part parts rest)

-- nothing
pub aside_nothing : (e : ℕ) → AreAside e nothing
aside_nothing e = All-nil (IsAside e)

-- all of them
aside_all : (e : ℕ) (parts : List Acts) → All (AreAside e) parts → AreAside e (all_joined parts)
aside_all e parts each = aside_folded e nothing parts (aside_nothing e) each

-- what holds of each value of a function holds of all that it gives
all_given : {A B : Type 0} (P : B → Type 0) (f : A → B) (xs : List A) → ((x : A) → P (f x))
    → All P (map f xs)
all_given P f [] each = All-nil P
all_given P f (x ∷ xs) each = All-cons P (f x) (map f xs) (each x) (all_given P f xs each)

-- the same of a function that gives lists
all_flat : {A B : Type 0} (P : B → Type 0) (f : A → List B) (xs : List A) → ((x : A) → All P (f x))
    → All P (flat_map f xs)
all_flat P f [] each = All-nil P
all_flat P f (x ∷ xs) each = All-append P (f x) (flat_map f xs) (each x) (all_flat P f xs each)

-- one statement, to whomever it is sent
pub aside_made : {S : Type 0} (scope : Scope S) (maker e : ℕ) (said : Body) (receivers sent_to : List ℕ) → IsOther said
    → AreAside e (made_for scope maker (said_in e said) receivers sent_to)
unfolding made_for
aside_made scope maker e said receivers sent_to other =
    All-cons (IsAside e) (said_in e said) [] (aside_of e said other) (All-nil (IsAside e))

-- what a node asks
pub aside_questions : {S : Type 0} (scope : Scope S) (v : View)
    → AreAside v.epoch (questions scope v)
unfolding questions
aside_questions {S} scope v = by v.wedged
  where
    ask : ℕ → Acts
    ask h = to_guards scope v h (body.Ask h (length_of v h))

    by : (b : Bool)
        → AreAside v.epoch (if b then nothing else all_joined (map ask (asked_hosts scope v)))
    by true = aside_nothing v.epoch
    by false = aside_all v.epoch (map ask (asked_hosts scope v))
        (all_given (AreAside v.epoch) ask (asked_hosts scope v)
        (λ h. aside_made scope v.me v.epoch (body.Ask h (length_of v h)) _ _ (ask_other h (length_of v h))))

-- what it tells of its vote
aside_vote : (h s : ℕ) (vote : Option Content)
    → All IsOther (option_to_list (option_map (λ c. body.Filled kind.Report h s c) vote))
aside_vote h s None = All-nil IsOther
aside_vote h s (Some c) = All-cons IsOther (body.Filled kind.Report h s c) [] (report_other h s c) (All-nil IsOther)

-- what it tells about a host
aside_testimony : (v : View) (h : ℕ) → All IsOther (testimony v h)
unfolding testimony
aside_testimony v h =
    All-append IsOther (entry_reports v h) (vote_report v h ++ body.Frozen h (v.voted_to h) ∷ [])
    (all_given IsOther (λ (x : ℕ × Content). body.Filled kind.Report h x.0 x.1) (enumerate_from (told_from v h) (drop (told_from v h) (v.logs h)))
    (λ x. report_other h x.0 x.1))
    (All-append IsOther (vote_report v h) (body.Frozen h (v.voted_to h) ∷ []) (aside_vote h (length_of v h) (v.desks h).delivered)
    (All-cons IsOther (body.Frozen h (v.voted_to h)) [] (frozen_other h (v.voted_to h)) (All-nil IsOther)))

-- bodies that are told to the Olympus
aside_told : {S : Type 0} (scope : Scope S) (v : View) (bodies : List Body) → All IsOther bodies
    → All (AreAside v.epoch) (map (to_olympus scope v) bodies)
aside_told scope v [] each = All-nil (AreAside v.epoch)
aside_told scope v (said ∷ bodies) each =
    All-cons (AreAside v.epoch) (to_olympus scope v said) (map (to_olympus scope v) bodies)
    (aside_made scope v.me v.epoch said (olympus ∷ []) (olympus ∷ []) (All-head IsOther said bodies each))
    (aside_told scope v bodies (All-tail IsOther said bodies each))

-- what it tells where the epoch ends
pub aside_reporting : {S : Type 0} (scope : Scope S) (v : View)
    → AreAside v.epoch (reporting scope v)
unfolding reporting
aside_reporting scope v =
    let bodies = flat_map (testimony v) (filter (is_live scope v) all_hosts) in
    aside_all v.epoch (map (to_olympus scope v) bodies)
    (aside_told scope v bodies (all_flat IsOther (testimony v) (filter (is_live scope v) all_hosts) (aside_testimony v)))

-- an answer makes no statement
pub aside_answering : {S : Type 0} (scope : Scope S) (v : View) (h slot : ℕ) (makers : List Tags)
    → AreAside v.epoch (answering scope v h slot makers)
unfolding answering
aside_answering scope v h slot makers = All-nil (IsAside v.epoch)
