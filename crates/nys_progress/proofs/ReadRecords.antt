-- What an honest host says about a slot can be read, and its tag for a guard is accepted.
use Rattle.std.proofs.Common.{◌≡◌, ◌≢◌, ℕ, zero, suc, ◌<◌, ◌≤◌, ◌==◌, ◌&&◌, ◌||◌, Bool, true, false, List, [], ◌∷◌, length, map, Ok, refl, ap, sym, ◌∙◌, arith}
use Rattle.std.specs.Prelude.{All, AllPairs, bytes_eq, Contains, cond, not}
use Rattle.std.specs.List.{list_any}
use Rattle.std.proofs.lemmas.Bool.{ne_eqb}
use Rattle.std.proofs.lemmas.Bool.Decides.{Decides-eqb}
use Rattle.std.proofs.lemmas.List.Elements.{All-cons, All-filter, All-nil}
use Rattle.std.proofs.lemmas.List.Kept.{AllPairs-cons, AllPairs-filter}
use Rattle.nys_bytes.specs.declared.content.Content.{Content}
use Rattle.nys_hosts.proofs.ListLemmas.{lists_passing}
use Rattle.nys_hosts.specs.Makers.{IsPassing, passing}
use Rattle.nys_stmt.specs.Ranges.{IsStatement}
use Rattle.nys_stmt.specs.Records.{IsMaker, IsRecord, IsTag, record_spelling}
use Rattle.nys_stmt.specs.declared.records.Record.{Record}
use Rattle.nys_stmt.specs.declared.statement.Statement.{Statement}
use Rattle.nys_stmt.specs.declared.tags.Tags.{Tags}
use Rattle.nys_wire.proofs.Wholes.{whole_again}
use Rattle.nys_wire.specs.Reading.{whole_record}
use Rattle.nys_rules.specs.Dropping.{accepted, accepts, permits, verifies}
use Rattle.nys_rules.specs.Scope.{guards_of, Scope}
use Rattle.nys_rules.specs.Sending.{others, own_record, said_in, tags_for}
use Rattle.nys_laws.specs.Own.{body_at, Stage}
use Rattle.nys_laws.specs.Own.Stage.{Delivered, Offered, Ordered}
use Rattle.nys_laws.specs.SetUp.{AreHosts}
use Rattle.nys_progress.specs.Carried.{HasTags, IsCarried}
use Rattle.nys_progress.proofs.SentWorlds.{among_others, guard_among}

-- ---- lists that rise

-- the rest of a list that rises does
pairs_tail : {X : Type 0} (R : X → X → Type 0) (x : X) (xs : List X) → AllPairs R (x ∷ xs) → AllPairs R xs
pairs_tail R x xs h i j d lt within = h (suc i) (suc j) d (omega (arith, lt)) (omega (arith, within))

-- and the first is below all of it
pairs_head : {X : Type 0} (R : X → X → Type 0) (x : X) (xs : List X) → AllPairs R (x ∷ xs) → All (R x) xs
pairs_head R x xs h j d within = h 0 (suc j) d (omega arith) (omega (arith, within))

-- receivers with their tags
abbrev pub tagged : (ℕ → List ℕ) → List ℕ → List (ℕ × List ℕ)
tagged tag receivers = map (λ g. (g, tag g)) receivers

-- what holds of all receivers
pub tagged_all : (P : ℕ → Type 0) (Q : ℕ × List ℕ → Type 0) (tag : ℕ → List ℕ) → ((g : ℕ) → P g → Q (g, tag g))
    → (xs : List ℕ) → All P xs
    → All Q (tagged tag xs)
tagged_all P Q tag so [] all = All-nil Q
tagged_all P Q tag so (x ∷ xs) all =
    All-cons Q (x, tag x) (tagged tag xs) (so x (all 0 0 (omega arith)))
    (tagged_all P Q tag so xs (λ i d within. all (suc i) d (omega (arith, within))))

-- receivers that rise
pub tagged_rise : (tag : ℕ → List ℕ) (xs : List ℕ) → AllPairs (λ a b. a < b) xs
    → AllPairs (λ (a b : ℕ × List ℕ). a.0 < b.0) (tagged tag xs)
tagged_rise tag [] rise = λ i j d lt within. absurd (omega (arith, within))
tagged_rise tag (x ∷ xs) rise =
    AllPairs-cons (λ (a b : ℕ × List ℕ). a.0 < b.0) (x, tag x) (tagged tag xs)
    (tagged_all (λ y. x < y) (λ t. x < t.0) tag (λ g lt. lt) xs (pairs_head (λ a b. a < b) x xs rise))
    (tagged_rise tag xs (pairs_tail (λ a b. a < b) x xs rise))

-- a receiver has its tag
tagged_among : (tag : ℕ → List ℕ) (xs : List ℕ) (g : ℕ) → Contains xs g
    → Contains (tagged tag xs) (g, tag g)
tagged_among tag [] g among = absurd (omega (arith, among.1))
tagged_among tag (x ∷ xs) g (zero, lt, at) = (zero, omega arith, ap (λ y. (y, tag y)) at)
tagged_among tag (x ∷ xs) g (suc n, lt, at) =
    let rest = tagged_among tag xs g (n, omega (arith, lt), at) in (suc rest.0, omega (arith, rest.1), rest.2)

-- a list that has something isn't empty
some_there : {X : Type 0} (xs : List X) (x : X) → Contains xs x → 1 ≤ length xs
some_there xs x among = omega (arith, among.1)

-- ---- the record

-- what is asked of such a record: the maker is a host, and so are the guards, of which one is another
pub record IsTold {S : Type 0} (scope : Scope S) (stage : Stage) (e h slot : ℕ) (content : Content) (m g : ℕ) : Type 0 where
  pub hosts : AreHosts scope
  pub tags : HasTags scope
  pub carried : IsCarried content
  pub epoch : e < scope.epochs
  pub host : h < scope.rules.hosts
  pub room : slot < 1024
  pub maker : m < scope.rules.hosts
  pub taker : scope.guards e h g ≡ true
  pub other : m ≢ g

-- the same for another guard
pub told_to : {S : Type 0} (scope : Scope S) (stage : Stage) (e h slot : ℕ) (content : Content) (m g x : ℕ)
    → IsTold scope stage e h slot content m g → scope.guards e h x ≡ true → m ≢ x → IsTold scope stage e h slot content m x
told_to scope stage e h slot content m g x t guards ne = record {
  hosts = t.hosts;
  tags = t.tags;
  carried = t.carried;
  epoch = t.epoch;
  host = t.host;
  room = t.room;
  maker = t.maker;
  taker = guards;
  other = ne;
}

-- the record
abbrev pub told_record : {S : Type 0} → Scope S → Stage → (e h slot : ℕ) → Content → ℕ → Record
told_record scope stage e h slot content m =
    own_record scope m (said_in e (body_at stage h slot content)) (guards_of scope e h)

-- its statement is one
pub is_statement : {S : Type 0} (scope : Scope S) (stage : Stage) (e h slot : ℕ) (content : Content) (m g : ℕ)
    → IsTold scope stage e h slot content m g → IsStatement (said_in e (body_at stage h slot content))
is_statement scope Offered e h slot content m g t =
    let a = t.epoch in let b = t.tags.epochs in let c = t.host in let d = t.hosts.few in let f = t.room in record {
      range = record { epoch = omega (arith, a, b); body = (omega (arith, c, d), omega (arith, f), t.carried.range) };
      sound = t.carried.sound;
    }
is_statement scope Ordered e h slot content m g t =
    let a = t.epoch in let b = t.tags.epochs in let c = t.host in let d = t.hosts.few in let f = t.room in record {
      range = record { epoch = omega (arith, a, b); body = (omega (arith, c, d), omega (arith, f), t.carried.range) };
      sound = t.carried.sound;
    }
is_statement scope Delivered e h slot content m g t =
    let a = t.epoch in let b = t.tags.epochs in let c = t.host in let d = t.hosts.few in let f = t.room in record {
      range = record { epoch = omega (arith, a, b); body = (omega (arith, c, d), omega (arith, f), t.carried.range) };
      sound = t.carried.sound;
    }

-- the tags of its maker
abbrev pub told_tags : {S : Type 0} → Scope S → Stage → (e h slot : ℕ) → Content → ℕ → List (ℕ × List ℕ)
told_tags scope stage e h slot content m = tags_for scope m (said_in e (body_at stage h slot content)) (guards_of scope e h)

-- the taker is among the receivers
taker_among : {S : Type 0} (scope : Scope S) (stage : Stage) (e h slot : ℕ) (content : Content) (m g : ℕ)
    → IsTold scope stage e h slot content m g → Contains (others m (guards_of scope e h)) g
taker_among scope stage e h slot content m g t =
    among_others m (guards_of scope e h) g (guard_among scope t.hosts e h g t.taker) (λ same. t.other (sym same))

-- they are tags of one maker
pub is_maker : {S : Type 0} (scope : Scope S) (stage : Stage) (e h slot : ℕ) (content : Content) (m g : ℕ)
    → IsTold scope stage e h slot content m g
    → IsMaker (record { maker = m; tags = told_tags scope stage e h slot content m })
unfolding tags_for guards_of
is_maker {S} scope stage e h slot content m g t = record {
  some = some_there (tagged tag receivers) (g, tag g) (tagged_among tag receivers g (taker_among scope stage e h slot content m g t));
  rule = record {
    rising = tagged_rise tag receivers (AllPairs-filter (λ a b. a < b) (λ x. not (x == m)) all listed.rising);
    parties = tagged_all (λ x. x < 32) (λ x. x.0 ≤ 32) tag (λ x low. omega (arith, low)) receivers low;
  };
  each = tagged_all (λ x. x < 32) IsTag tag (λ x within. t.tags.tags m x said (let maker = t.maker in let few = t.hosts.few in omega (arith, maker, few)) (omega (arith, within))) receivers low;
}
  where
    said : Statement
    said = said_in e (body_at stage h slot content)

    tag : ℕ → List ℕ
    tag x = scope.tag m x said

    all : List ℕ
    all = passing (scope.guards e h)

    listed : IsPassing (scope.guards e h) all
    listed = lists_passing (scope.guards e h)

    receivers : List ℕ
    receivers = others m all

    low : All (λ x. x < 32) receivers
    low = All-filter (λ x. not (x == m)) (λ x. x < 32) all listed.hosts

-- so the record is one
pub is_record : {S : Type 0} (scope : Scope S) (stage : Stage) (e h slot : ℕ) (content : Content) (m g : ℕ)
    → IsTold scope stage e h slot content m g → IsRecord (told_record scope stage e h slot content m)
unfolding own_record
is_record scope stage e h slot content m g t =
    let one : Tags = record { maker = m; tags = told_tags scope stage e h slot content m } in
    let low = t.maker in let few = t.hosts.few in record {
      statement = is_statement scope stage e h slot content m g t;
      some = omega arith;
      rule = record {
        rising = λ i j d lt within. absurd (omega (arith, lt, within));
        parties = All-cons (λ (x : Tags). x.maker ≤ 32) one [] (omega (arith, low, few)) (All-nil (λ (x : Tags). x.maker ≤ 32));
      };
      each = All-cons IsMaker one [] (is_maker scope stage e h slot content m g t) (All-nil IsMaker);
    }

-- it is read from its bytes
pub told_read : {S : Type 0} (scope : Scope S) (stage : Stage) (e h slot : ℕ) (content : Content) (m g : ℕ)
    → IsTold scope stage e h slot content m g
    → whole_record (record_spelling (told_record scope stage e h slot content m)) ≡ Ok (told_record scope stage e h slot content m)
told_read scope stage e h slot content m g t =
    whole_again (told_record scope stage e h slot content m) (is_record scope stage e h slot content m g t)

-- bytes are equal to themselves
bytes_same : (xs : List ℕ) → bytes_eq xs xs ≡ true
bytes_same [] = refl
bytes_same (x ∷ xs) = ap (λ (b : Bool). b && bytes_eq xs xs) ((Decides-eqb x x).1 refl) ∙ bytes_same xs

-- an element that passes is found
found_any : {A : Type 0} (test : A → Bool) (xs : List A) (x : A) → Contains xs x → test x ≡ true
    → list_any test xs ≡ true
found_any test [] x among is = absurd (omega (arith, among.1))
found_any test (y ∷ xs) x (zero, lt, at) is = ap (λ b. b || list_any test xs) (ap test at ∙ is)
found_any test (y ∷ xs) x (suc n, lt, at) is =
    ap (λ b. test y || b) (found_any test xs x (n, omega (arith, lt), at) is) ∙ either (test y)
  where
    either : (b : Bool) → (b || true) ≡ true
    either true = refl
    either false = refl

-- the maker's tag for the taker verifies
pub told_verifies : {S : Type 0} (scope : Scope S) (stage : Stage) (e h slot : ℕ) (content : Content) (m g : ℕ)
    → IsTold scope stage e h slot content m g
    → verifies scope g (said_in e (body_at stage h slot content))
    (record { maker = m; tags = told_tags scope stage e h slot content m }) ≡ true
unfolding tags_for
told_verifies {S} scope stage e h slot content m g t =
    found_any (λ (x : ℕ × List ℕ). x.0 == g && bytes_eq x.1 (tag g)) (tagged tag (others m (guards_of scope e h))) (g, tag g)
    (tagged_among tag (others m (guards_of scope e h)) g (taker_among scope stage e h slot content m g t))
    (ap (λ b. b && bytes_eq (tag g) (tag g)) ((Decides-eqb g g).1 refl) ∙ bytes_same (tag g))
  where
    tag : ℕ → List ℕ
    tag x = scope.tag m x (said_in e (body_at stage h slot content))

-- so the taker accepts the maker, where the kind permits it, and nobody else
pub told_accepted : {S : Type 0} (scope : Scope S) (stage : Stage) (e h slot : ℕ) (content : Content) (m g : ℕ)
    → IsTold scope stage e h slot content m g → permits scope e (body_at stage h slot content) m ≡ true
    → accepted scope e g (told_record scope stage e h slot content m)
    ≡ record { maker = m; tags = told_tags scope stage e h slot content m } ∷ []
unfolding accepted accepts own_record
told_accepted {S} scope stage e h slot content m g t permitted =
    ap (λ (b : Bool). cond b (one ∷ []) []) both
  where
    said : Statement
    said = said_in e (body_at stage h slot content)

    one : Tags
    one = record { maker = m; tags = told_tags scope stage e h slot content m }

    both : (not (m == g) && (permits scope e (body_at stage h slot content) m && verifies scope g said one)) ≡ true
    both = ap (λ (b : Bool). not b && (permits scope e (body_at stage h slot content) m && verifies scope g said one)) (ne_eqb m g t.other)
        ∙ (ap (λ (b : Bool). b && verifies scope g said one) permitted ∙ told_verifies scope stage e h slot content m g t)
