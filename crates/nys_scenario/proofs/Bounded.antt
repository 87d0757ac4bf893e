-- What a document says is within bounds.
use Rattle.std.proofs.Common.{◌≡◌, ◌∙◌, ◌<◌, ◌≤◌, ◌+◌, ◌-◌, ◌==◌, ◌&&◌, ◌||◌, ℕ, ℤ, zero, suc, Bool, true, false, List, [], ◌∷◌, ◌++◌, length, get_or, replicate, codes, if◌then◌else◌, Option, Some, None, Result, Ok, Err, IfOk, IfSome, All, refl, sym, ap, subst, true≢false, arith, option_map, length-append}
use Rattle.std.specs.Prelude.{pos, negsuc, nat_lt, nat_le}
use Rattle.std.proofs.lemmas.Bool.{and_parts, eqb-true, leb-true, ltb-true}
use Rattle.std.proofs.lemmas.List.{get_or-append_right}
use Rattle.std.proofs.lemmas.List.Elements.{All-append, All-nil, All-push, All-replicate, All-weaker}
use Rattle.nys_hosts.specs.declared.limits.TheConstants.{MAX_CREDIT, MAX_EPOCHS, MAX_HOSTS, MAX_T}
use Rattle.toml.specs.Data.{Data, Items, no_items, item, Members, as_array, as_integer, as_table, get_member}
use Rattle.nys_scenario.specs.Bounds.{AreHosts, HasCredit, HasHosts, HasNobodyPast, HasPast, HasThresholds, IsBounded}
use Rattle.nys_scenario.specs.Document.{AllKeys, Guarded, Said, SystemKeys, Texts, all_known, answer_from, answer_to, document_of, guarded_of, keys_of, said_with, scenario_of, system_of, texts_of, unknown_key}
use Rattle.nys_scenario.specs.Epochs.{Epoch, are_lists, are_tables, count_of, epoch_at, epoch_of, epochs_after, epoch_key, epochs_in, epochs_of, for_hosts, guards_listed, guards_of, padded, row_in, set_in, tables_at, tables_listed, tables_of, threshold_in, threshold_of, thresholds_listed, thresholds_of, with_epoch}
use Rattle.nys_scenario.specs.Hosts.{Hosts, are_integers, host_in, host_of, hosts_after, hosts_listed, liars_of, nobody, or_range, with_host}
use Rattle.nys_scenario.specs.Keys.{Refusal, after, named}
use Rattle.nys_scenario.specs.Protocol.{Protocol, protocol_of}
use Rattle.nys_scenario.specs.Values.{in_range, master_of, number_of, optional, required, typed, values_after, with_value}
use Rattle.nys_scenario.specs.declared.fault.KeyKind.{KeyKind}
use Rattle.nys_scenario.specs.declared.fault.KeyKind.TheVariants.{Kind, Range}
use Rattle.nys_scenario.specs.declared.needs.Needs.{Needs}
use Rattle.nys_scenario.proofs.Rooted.{scenario_rooted}

-- ---- sets of hosts

-- nobody is a set of hosts
no_hosts : (hosts : ℕ) → AreHosts hosts nobody
no_hosts hosts = record { below = λ h e. absurd (true≢false (sym e)) }

-- a number that is a host is below how many there are
number_below : (hosts : ℕ) (z : ℤ) (h : ℕ) → host_of hosts z ≡ Some h → h < hosts
number_below hosts (pos n) h e = go (nat_lt n hosts) refl
  where
    go : (b : Bool) → nat_lt n hosts ≡ b → h < hosts
    go true below =
        let same : Some n ≡ Some h = rw below at e in
        let is : n ≡ h = cc in
        rw (← is) (ltb-true n hosts below)
    go false past = let none : None ≡ Some h = rw past at e in cc
number_below hosts (negsuc n) h e = cc

-- so is a value that is one
host_below : (hosts : ℕ) (d : Data) (h : ℕ) → host_in hosts d ≡ Some h → h < hosts
host_below hosts d h e = go (as_integer d) refl
  where
    go : (o : Option ℤ) → as_integer d ≡ o → h < hosts
    go None none = let bad : None ≡ Some h = rw none at e in cc
    go (Some z) some = number_below hosts z h (rw some at e)

-- nothing comes after a member that is none
none_after : (hosts : ℕ) (more : Items) → hosts_after hosts None more ≡ None
none_after hosts no_items = refl
none_after hosts (item d ds) = refl

-- one host more leaves a set of hosts
one_more : (hosts host : ℕ) (before : Hosts) → host < hosts → AreHosts hosts before → AreHosts hosts (λ h. before h || (host == h))
one_more hosts host before lt all = record { below = λ h e. go h (before h) refl e }
  where
    go : (h : ℕ) (b : Bool) → before h ≡ b → (before h || (host == h)) ≡ true → h < hosts
    go h true in_set e = all.below h in_set
    go h false out e =
        let same : (host == h) ≡ true = rw out at e in
        let is : host ≡ h = eqb-true host h same in
        rw (← is) lt

-- the hosts of an array are hosts, where those before it are
hosts_below : (hosts : ℕ) (more : Items) (before set : Hosts) → AreHosts hosts before → hosts_after hosts (Some before) more ≡ Some set
    → AreHosts hosts set
hosts_below hosts no_items before set all e = let same : before ≡ set = cc in subst (AreHosts hosts) same all
hosts_below hosts (item d ds) before set all e =
    go (host_in hosts d) refl (λ next next_all h. hosts_below hosts ds next set next_all h)
  where
    go : (o : Option ℕ) → host_in hosts d ≡ o
        → ((next : Hosts) → AreHosts hosts next → hosts_after hosts (Some next) ds ≡ Some set → AreHosts hosts set)
        → AreHosts hosts set
    go None none rest =
        let bad : None ≡ Some set = sym (none_after hosts ds) ∙ sym (ap (λ o. hosts_after hosts (with_host before o) ds) none) ∙ e in cc
    go (Some host) some rest = taken (before host) refl
      where
        taken : (b : Bool) → before host ≡ b → AreHosts hosts set
        taken true twice =
            let bad : None ≡ Some set = sym (none_after hosts ds) ∙ sym (ap (λ b. hosts_after hosts (if b then None else Some (λ h. before h || (host == h))) ds) twice)
            ∙ sym (ap (λ o. hosts_after hosts (with_host before o) ds) some) ∙ e in
            cc
        taken false new =
            rest (λ h. before h || (host == h)) (one_more hosts host before (host_below hosts d host some) all)
            (sym (ap (λ b. hosts_after hosts (if b then None else Some (λ h. before h || (host == h))) ds) new)
            ∙ sym (ap (λ o. hosts_after hosts (with_host before o) ds) some) ∙ e)

-- the liars are hosts
liars_below : (hosts : ℕ) (found : Option Data) (set : Hosts)
    → optional nobody (λ d. typed (hosts_listed hosts) (as_array d)) found ≡ Ok set → AreHosts hosts set
liars_below hosts None set e = let same : nobody ≡ set = cc in subst (AreHosts hosts) same (no_hosts hosts)
liars_below hosts (Some d) set e = go (as_array d) e
  where
    listed : (items : Items) (b : Bool) → are_integers items ≡ b → hosts_listed hosts items ≡ Ok set → AreHosts hosts set
    listed items false wrong e = let bad : Err Kind ≡ Ok set = rw wrong at e in cc
    listed items true right e = found (hosts_after hosts (Some nobody) items) refl (rw right at e)
      where
        found : (o : Option Hosts) → hosts_after hosts (Some nobody) items ≡ o → or_range (hosts_after hosts (Some nobody) items) ≡ Ok set
            → AreHosts hosts set
        found None none e = let bad : Err Range ≡ Ok set = rw none at e in cc
        found (Some all) some e =
            let same : Ok all ≡ Ok set = rw some at e in
            let is : all ≡ set = cc in
            hosts_below hosts items nobody set (no_hosts hosts) (some ∙ ap (λ s. Some s) is)

    go : (o : Option Items) → typed (hosts_listed hosts) o ≡ Ok set → AreHosts hosts set
    go None e = cc
    go (Some items) e = listed items (are_integers items) refl e

-- ---- tables with a value for each host

-- no values come after a member that gives none
none_values : {A : Type 0} (give : Data → Option A) (more : Items) → values_after give None more ≡ None
none_values give no_items = refl
none_values give (item d ds) = refl

-- values that pass, as many as the members that give them
record AreValues {A : Type 0} (Passes : A → Type 0) (count : ℕ) (values : List A) : Type 0 where
  each : All Passes values
  counted : length values ≡ count

-- the values of an array pass where those before it do and each member gives one that does
values_pass : {A : Type 0} (give : Data → Option A) (Passes : A → Type 0) → ((d : Data) (x : A) → give d ≡ Some x → Passes x)
    → (more : Items) (before values : List A) → All Passes before → values_after give (Some before) more ≡ Some values
    → AreValues Passes (length before + count_of more) values
unfolding count_of
values_pass give Passes good no_items before values all e =
    let same : before ≡ values = cc in
    record { each = subst (All Passes) same all; counted = omega (arith, ap length same) }
values_pass {A} give Passes good (item d ds) before values all e =
    go (give d) refl (λ next next_all h. values_pass give Passes good ds next values next_all h)
  where
    go : (o : Option A) → give d ≡ o
        → ((next : List A) → All Passes next → values_after give (Some next) ds ≡ Some values → AreValues Passes (length next + count_of ds) values)
        → AreValues Passes (length before + (count_of ds + 1)) values
    go None none rest =
        let bad : None ≡ Some values = sym (none_values give ds) ∙ sym (ap (λ o. values_after give (with_value before o) ds) none) ∙ e in cc
    go (Some x) some rest =
        let next = before ++ x ∷ [] in
        let rec : AreValues Passes (length next + count_of ds) values =
        rest next (All-push Passes before x all (good d x some)) (sym (ap (λ o. values_after give (with_value before o) ds) some) ∙ e) in
        let longer : length next ≡ length before + 1 = length-append before (x ∷ []) in
        record { each = rec.each; counted = omega (arith, rec.counted) }

-- values that pass, and past the last host the same one
record AreTable {A : Type 0} (hosts : ℕ) (last : A) (Passes : A → Type 0) (table : List A) : Type 0 where
  each : All Passes table
  past : HasPast hosts last table

-- one value many times is that value wherever it is read
one_value : {A : Type 0} (last : A) (n i : ℕ) → get_or (replicate n last) i last ≡ last
one_value last zero i = refl
one_value last (suc n) zero = refl
one_value last (suc n) (suc i) = one_value last n i

-- the values of all hosts, padded
padded_is : {A : Type 0} (hosts : ℕ) (last : A) (Passes : A → Type 0) (values : List A) → Passes last → AreValues Passes hosts values
    → AreTable hosts last Passes (padded last values)
padded_is hosts last Passes values ok are = record {
  each = All-append Passes values _ are.each (All-replicate Passes (MAX_HOSTS - length values) last ok);
  past = λ h le. get_or-append_right values (replicate (MAX_HOSTS - length values) last) hosts h last are.counted le
      ∙ one_value last (MAX_HOSTS - length values) (h - hosts);
}

-- what an array gives for each host
for_hosts_is : {A : Type 0} (hosts : ℕ) (last : A) (give : Data → Option A) (Passes : A → Type 0) → Passes last
    → ((d : Data) (x : A) → give d ≡ Some x → Passes x)
    → (items : Items) (table : Option (List A)) → for_hosts hosts last give items ≡ Ok table → IfSome table (AreTable hosts last Passes)
for_hosts_is {A} hosts last give Passes ok good items table e = counted (count_of items == hosts) refl
  where
    found : count_of items ≡ hosts → (o : Option (List A)) → values_after give (Some []) items ≡ o
        → or_range (option_map (λ values. Some (padded last values)) (values_after give (Some []) items)) ≡ Ok table
        → IfSome table (AreTable hosts last Passes)
    found size None none h = let bad : Err Range ≡ Ok table = rw none at h in cc
    found size (Some values) some h =
        let same : Ok (Some (padded last values)) ≡ Ok table = rw some at h in
        let is : Some (padded last values) ≡ table = cc in
        let are = values_pass give Passes good items [] values (All-nil Passes) some in
        let all : AreValues Passes hosts values = record { each = are.each; counted = omega (arith, are.counted, size) } in
        subst (λ (o : Option (List A)). IfSome o (AreTable hosts last Passes)) is (padded_is hosts last Passes values ok all)

    counted : (b : Bool) → (count_of items == hosts) ≡ b → IfSome table (AreTable hosts last Passes)
    counted false wrong = let bad : Err Range ≡ Ok table = rw wrong at e in cc
    counted true right = found (eqb-true (count_of items) hosts right) (values_after give (Some []) items) refl (rw right at e)

-- what is given where a test of types passes
typed_right : {A : Type 0} (test : Bool) (range : Result A KeyKind) (x : A) → (if test then range else Err Kind) ≡ Ok x → range ≡ Ok x
typed_right true range x e = e
typed_right false range x e = cc

-- a key that may be left out gives nothing, or what its array does
optional_is : {A : Type 0} (read : Items → Result (Option A) KeyKind) (Passes : A → Type 0)
    → ((items : Items) (x : Option A) → read items ≡ Ok x → IfSome x Passes)
    → (found : Option Data) (x : Option A) → optional None (λ d. typed read (as_array d)) found ≡ Ok x → IfSome x Passes
optional_is {A} read Passes good None x e = let same : None ≡ x = cc in subst (λ (o : Option A). IfSome o Passes) same tt
optional_is read Passes good (Some d) x e = go (as_array d) e
  where
    go : (o : Option Items) → typed read o ≡ Ok x → IfSome x Passes
    go None h = cc
    go (Some items) h = good items x h

-- ---- guards

-- a list of guards has hosts alone
set_below : (hosts : ℕ) (o : Option Items) (set : Hosts) → set_in hosts o ≡ Some set → AreHosts hosts set
set_below hosts None set e = cc
set_below hosts (Some items) set e = hosts_below hosts items nobody set (no_hosts hosts) e

-- the guards that a key gives are hosts, and nobody guards a number past the last host
guards_are : (hosts : ℕ) (found : Option Data) (guards : Option (List Hosts))
    → optional None (λ d. typed (guards_listed hosts) (as_array d)) found ≡ Ok guards
    → IfSome guards (AreTable hosts nobody (AreHosts hosts))
guards_are hosts found guards e =
    optional_is (guards_listed hosts) (AreTable hosts nobody (AreHosts hosts))
    (λ items table h. for_hosts_is hosts nobody (row_in hosts) (AreHosts hosts) (no_hosts hosts) (λ d set some. set_below hosts (as_array d) set some)
    items table (typed_right (are_lists items) (for_hosts hosts nobody (row_in hosts) items) table h))
    found guards e

-- ---- thresholds

-- a number that is a threshold is at most t
number_small : (t : ℕ) (z : ℤ) (own : ℕ) → threshold_of t z ≡ Some own → own ≤ t
number_small t (pos n) own e = go (nat_le n t) refl
  where
    go : (b : Bool) → nat_le n t ≡ b → own ≤ t
    go true small =
        let same : Some n ≡ Some own = rw small at e in
        let is : n ≡ own = cc in
        rw (← is) (leb-true n t small)
    go false great = let none : None ≡ Some own = rw great at e in cc
number_small t (negsuc n) own e = cc

-- so is a value that is one
threshold_small : (t : ℕ) (d : Data) (own : ℕ) → threshold_in t d ≡ Some own → own ≤ t
threshold_small t d own e = go (as_integer d) refl
  where
    go : (o : Option ℤ) → as_integer d ≡ o → own ≤ t
    go None none = let bad : None ≡ Some own = rw none at e in cc
    go (Some z) some = number_small t z own (rw some at e)

-- the thresholds that a key gives are at most t, and 0 past the last host
thresholds_are : (hosts t : ℕ) (found : Option Data) (thresholds : Option (List ℕ))
    → optional None (λ d. typed (thresholds_listed hosts t) (as_array d)) found ≡ Ok thresholds
    → IfSome thresholds (AreTable hosts 0 (λ own. own ≤ t))
thresholds_are hosts t found thresholds e =
    optional_is (thresholds_listed hosts t) (AreTable hosts 0 (λ own. own ≤ t))
    (λ items table h. for_hosts_is hosts 0 (threshold_in t) (λ own. own ≤ t) (omega arith) (λ d own some. threshold_small t d own some)
    items table (typed_right (are_integers items) (for_hosts hosts 0 (threshold_in t) items) table h))
    found thresholds e

-- ---- epochs

-- an epoch has the thresholds and the guards that its keys give
epoch_from : (t credit : Result ℕ KeyKind) (thresholds : ℕ → Result (Option (List ℕ)) KeyKind) (guards : Result (Option (List Hosts)) KeyKind)
    (first second third fourth : List ℕ) (epoch : Epoch)
    → after (named first t) (λ t. after (named second credit) (λ credit. after (named third (thresholds t)) (λ own.
    after (named fourth guards) (λ guards. Ok (record { t = t; credit = credit; thresholds = own; guards = guards }))))) ≡ Ok epoch
    → (thresholds epoch.t ≡ Ok epoch.thresholds) × (guards ≡ Ok epoch.guards)
epoch_from (Err k) credit thresholds guards first second third fourth epoch e = cc
epoch_from (Ok t) (Err k) thresholds guards first second third fourth epoch e = cc
epoch_from (Ok t) (Ok credit) thresholds guards first second third fourth epoch e = go (thresholds t) refl guards e
  where
    go : (r : Result (Option (List ℕ)) KeyKind) → thresholds t ≡ r → (g : Result (Option (List Hosts)) KeyKind)
        → after (named third r) (λ own. after (named fourth g) (λ guards. Ok (record { t = t; credit = credit; thresholds = own; guards = guards }))) ≡ Ok epoch
        → (thresholds epoch.t ≡ Ok epoch.thresholds) × (g ≡ Ok epoch.guards)
    go (Err k) given g h = cc
    go (Ok own) given (Err k) h = cc
    go (Ok own) given (Ok listed) h =
        let is : record { t = t; credit = credit; thresholds = own; guards = listed } ≡ epoch = cc in
        (subst (λ (x : Epoch). thresholds x.t ≡ Ok x.thresholds) is given, ap (λ (x : Epoch). Ok x.guards) is)

-- and the credit
epoch_credit : (t credit : Result ℕ KeyKind) (thresholds : ℕ → Result (Option (List ℕ)) KeyKind) (guards : Result (Option (List Hosts)) KeyKind)
    (first second third fourth : List ℕ) (epoch : Epoch)
    → after (named first t) (λ t. after (named second credit) (λ credit. after (named third (thresholds t)) (λ own.
    after (named fourth guards) (λ guards. Ok (record { t = t; credit = credit; thresholds = own; guards = guards }))))) ≡ Ok epoch
    → credit ≡ Ok epoch.credit
epoch_credit (Err k) credit thresholds guards first second third fourth epoch e = cc
epoch_credit (Ok t) (Err k) thresholds guards first second third fourth epoch e = cc
epoch_credit (Ok t) (Ok credit) thresholds guards first second third fourth epoch e = go (thresholds t) guards e
  where
    go : (r : Result (Option (List ℕ)) KeyKind) (g : Result (Option (List Hosts)) KeyKind)
        → after (named third r) (λ own. after (named fourth g) (λ guards. Ok (record { t = t; credit = credit; thresholds = own; guards = guards }))) ≡ Ok epoch
        → ◌≡◌ {A = Result ℕ KeyKind} (Ok credit) (Ok epoch.credit)
    go (Err k) g h = cc
    go (Ok own) (Err k) h = cc
    go (Ok own) (Ok listed) h =
        let is : record { t = t; credit = credit; thresholds = own; guards = listed } ≡ epoch = cc in
        ap (λ (x : Epoch). Ok x.credit) is

-- a number of a range is at least its least
range_least : (least most : ℕ) (z : ℤ) (n : ℕ) → in_range least most z ≡ Ok n → least ≤ n
range_least least most (pos m) n e = go (nat_le least m && nat_le m most) refl
  where
    go : (b : Bool) → (nat_le least m && nat_le m most) ≡ b → least ≤ n
    go true inside =
        let same : ◌≡◌ {A = Result ℕ KeyKind} (Ok m) (Ok n) = rw inside at e in
        let is : m ≡ n = cc in
        rw (← is) (leb-true least m (and_parts (nat_le least m) (nat_le m most) inside).0)
    go false outside = let none : ◌≡◌ {A = Result ℕ KeyKind} (Err Range) (Ok n) = rw outside at e in cc
range_least least most (negsuc m) n e = cc

-- so is the number of a key
number_least : (least most : ℕ) (found : Option Data) (n : ℕ) → required (λ value. typed (in_range least most) (as_integer value)) found ≡ Ok n
    → least ≤ n
number_least least most None n e = cc
number_least least most (Some value) n e = go (as_integer value) e
  where
    go : (o : Option ℤ) → typed (in_range least most) o ≡ Ok n → least ≤ n
    go None h = cc
    go (Some z) h = range_least least most z n h

-- the tables of an epoch are within bounds
record IsFit (hosts : ℕ) (epoch : Epoch) : Type 0 where
  credit : 1 ≤ epoch.credit
  thresholds : IfSome epoch.thresholds (AreTable hosts 0 (λ own. own ≤ epoch.t))
  guards : IfSome epoch.guards (AreTable hosts nobody (AreHosts hosts))

-- those of the table of an epoch are
epoch_fits : (hosts i : ℕ) (table : Members) (epoch : Epoch) → epoch_of hosts i table ≡ Ok epoch → IsFit hosts epoch
unfolding epoch_of guards_of thresholds_of number_of
epoch_fits hosts i table epoch e =
    let from = epoch_from (number_of 0 MAX_T (codes "t") table) (number_of 1 MAX_CREDIT (codes "credit") table)
    (λ t. thresholds_of hosts t table) (guards_of hosts table)
    (epoch_key i (codes "t")) (epoch_key i (codes "credit")) (epoch_key i (codes "thresholds")) (epoch_key i (codes "guards")) epoch e in
    let credit = epoch_credit (number_of 0 MAX_T (codes "t") table) (number_of 1 MAX_CREDIT (codes "credit") table)
    (λ t. thresholds_of hosts t table) (guards_of hosts table)
    (epoch_key i (codes "t")) (epoch_key i (codes "credit")) (epoch_key i (codes "thresholds")) (epoch_key i (codes "guards")) epoch e in
    record {
      credit = number_least 1 MAX_CREDIT (get_member (codes "credit") table) epoch.credit credit;
      thresholds = thresholds_are hosts epoch.t (get_member (codes "thresholds") table) epoch.thresholds from.0;
      guards = guards_are hosts (get_member (codes "guards") table) epoch.guards from.1;
    }

-- and those of a value that is one
epoch_at_fits : (hosts i : ℕ) (o : Option Members) (epoch : Epoch) → epoch_at hosts i o ≡ Ok epoch → IsFit hosts epoch
epoch_at_fits hosts i None epoch e = cc
epoch_at_fits hosts i (Some table) epoch e = epoch_fits hosts i table epoch e

-- the epochs of an array, as many as its members
record AreEpochs (hosts count : ℕ) (epochs : List Epoch) : Type 0 where
  each : All (IsFit hosts) epochs
  counted : length epochs ≡ count

-- no epochs come after one that is refused
none_epochs : (hosts : ℕ) (r : Refusal) (more : Items) → epochs_after hosts (Err r) more ≡ Err r
none_epochs hosts r no_items = refl
none_epochs hosts r (item d ds) = refl

-- each epoch of an array is within bounds, and there are as many as members
epochs_below : (hosts : ℕ) (more : Items) (before epochs : List Epoch) → All (IsFit hosts) before
    → epochs_after hosts (Ok before) more ≡ Ok epochs → AreEpochs hosts (length before + count_of more) epochs
unfolding count_of
epochs_below hosts no_items before epochs all e =
    let same : before ≡ epochs = cc in
    record { each = subst (All (IsFit hosts)) same all; counted = omega (arith, ap length same) }
epochs_below hosts (item d ds) before epochs all e =
    go (epoch_at hosts (length before) (as_table d)) refl (λ next next_all h. epochs_below hosts ds next epochs next_all h)
  where
    go : (r : Result Epoch Refusal) → epoch_at hosts (length before) (as_table d) ≡ r
        → ((next : List Epoch) → All (IsFit hosts) next → epochs_after hosts (Ok next) ds ≡ Ok epochs → AreEpochs hosts (length next + count_of ds) epochs)
        → AreEpochs hosts (length before + (count_of ds + 1)) epochs
    go (Err r) bad rest = let never : Err r ≡ Ok epochs = sym (none_epochs hosts r ds) ∙ sym (ap (λ x. epochs_after hosts (with_epoch before x) ds) bad) ∙ e in cc
    go (Ok epoch) good rest =
        let next = before ++ epoch ∷ [] in
        let all_next = All-push (IsFit hosts) before epoch all (epoch_at_fits hosts (length before) (as_table d) epoch good) in
        let rec : AreEpochs hosts (length next + count_of ds) epochs =
        rest next all_next (sym (ap (λ x. epochs_after hosts (with_epoch before x) ds) good) ∙ e) in
        let longer : length next ≡ length before + 1 = length-append before (epoch ∷ []) in
        record { each = rec.each; counted = omega (arith, rec.counted) }

-- tables that were taken are few, and some where they are needed
record AreTables (needed : Bool) (tables : Option Items) : Type 0 where
  few : (items : Items) → tables ≡ Some items → count_of items ≤ MAX_EPOCHS
  some : needed ≡ true → (items : Items) × (tables ≡ Some items) × (1 ≤ count_of items)

-- tables that are taken are those of the array, 1 to the most
tables_listed_are : (items : Items) (tables : Option Items) → tables_listed items ≡ Ok tables
    → (tables ≡ Some items) × (1 ≤ count_of items) × (count_of items ≤ MAX_EPOCHS)
tables_listed_are items tables e = kinds (are_tables items) refl
  where
    ranged : (b : Bool) → (nat_le 1 (count_of items) && nat_le (count_of items) MAX_EPOCHS) ≡ b
        → (if nat_le 1 (count_of items) && nat_le (count_of items) MAX_EPOCHS then Ok (Some items) else Err Range) ≡ Ok tables
        → (tables ≡ Some items) × (1 ≤ count_of items) × (count_of items ≤ MAX_EPOCHS)
    ranged false wrong h = let bad : Err Range ≡ Ok tables = rw wrong at h in cc
    ranged true right h =
        let parts = and_parts (nat_le 1 (count_of items)) (nat_le (count_of items) MAX_EPOCHS) right in
        let same : Ok (Some items) ≡ Ok tables = rw right at h in
        (cc, leb-true 1 (count_of items) parts.0, leb-true (count_of items) MAX_EPOCHS parts.1)

    kinds : (b : Bool) → are_tables items ≡ b → (tables ≡ Some items) × (1 ≤ count_of items) × (count_of items ≤ MAX_EPOCHS)
    kinds false wrong = let bad : Err Kind ≡ Ok tables = rw wrong at e in cc
    kinds true right = ranged (nat_le 1 (count_of items) && nat_le (count_of items) MAX_EPOCHS) refl (rw right at e)

-- where an array stands, some tables are taken
tables_given : (needed : Bool) (o : Option Items) (tables : Option Items) → typed tables_listed o ≡ Ok tables → AreTables needed tables
tables_given needed None tables e = cc
tables_given needed (Some items) tables e =
    let are = tables_listed_are items tables e in
    record {
      few = λ other is. let same : other ≡ items = cc in rw same are.2;
      some = λ t. (items, are.0, are.1);
    }

-- where none stands, none are needed
tables_taken : (needed : Bool) (found : Option Data) (tables : Option Items) → tables_at needed found ≡ Ok tables → AreTables needed tables
tables_taken true None tables e = cc
tables_taken false None tables e =
    let same : None ≡ tables = cc in
    record {
      few = λ items is. let bad : None ≡ Some items = same ∙ is in cc;
      some = λ t. cc;
    }
tables_taken true (Some d) tables e = tables_given true (as_array d) tables e
tables_taken false (Some d) tables e = tables_given false (as_array d) tables e

-- the epochs of a document, and how many there are
record Fit (hosts : ℕ) (needed : Bool) (epochs : List Epoch) : Type 0 where
  each : All (IsFit hosts) epochs
  few : length epochs ≤ MAX_EPOCHS
  some : needed ≡ true → 1 ≤ length epochs

-- the epochs of tables that were taken
epochs_fit : (hosts : ℕ) (needed : Bool) (tables : Option Items) (epochs : List Epoch) → AreTables needed tables
    → epochs_in hosts tables ≡ Ok epochs → Fit hosts needed epochs
epochs_fit hosts needed None epochs taken e =
    let same : [] ≡ epochs = cc in
    subst (Fit hosts needed) same (record {
      each = All-nil (IsFit hosts);
      few = omega arith;
      some = λ t. let got = taken.some t in let bad : None ≡ Some got.0 = got.1 in cc;
    })
epochs_fit hosts needed (Some items) epochs taken e =
    let are = epochs_below hosts items [] epochs (All-nil (IsFit hosts)) e in
    record {
      each = are.each;
      few = let few = taken.few items refl in omega (arith, are.counted);
      some = λ t.
          let got = taken.some t in
          let same : items ≡ got.0 = cc in
          let many : 1 ≤ count_of items = rw same got.2 in
          omega (arith, are.counted);
    }

-- the liars and the epochs are what their keys give
guarded_from : (hosts : ℕ) (master : Result (List ℕ) KeyKind) (liars : Result Hosts KeyKind) (tables : Result (Option Items) KeyKind)
    (first second third : List ℕ) (part : Guarded)
    → after (named first master) (λ master. after (named second liars) (λ liars. after (after (named third tables) (epochs_in hosts)) (λ epochs.
    Ok (record { master = master; liars = liars; epochs = epochs })))) ≡ Ok part
    → (liars ≡ Ok part.liars) × ((o : Option Items) × (tables ≡ Ok o) × (epochs_in hosts o ≡ Ok part.epochs))
guarded_from hosts (Err k) liars tables first second third part e = cc
guarded_from hosts (Ok master) (Err k) tables first second third part e = cc
guarded_from hosts (Ok master) (Ok liars) (Err k) first second third part e = cc
guarded_from hosts (Ok master) (Ok liars) (Ok o) first second third part e = go (epochs_in hosts o) refl e
  where
    go : (r : Result (List Epoch) Refusal) → epochs_in hosts o ≡ r
        → after r (λ epochs. Ok (record { master = master; liars = liars; epochs = epochs })) ≡ Ok part
        → (◌≡◌ {A = Result Hosts KeyKind} (Ok liars) (Ok part.liars))
        × ((p : Option Items) × (◌≡◌ {A = Result (Option Items) KeyKind} (Ok o) (Ok p)) × (epochs_in hosts p ≡ Ok part.epochs))
    go (Err k) given h = cc
    go (Ok epochs) given h =
        let is : record { master = master; liars = liars; epochs = epochs } ≡ part = cc in
        (ap (λ (x : Guarded). Ok x.liars) is, (o, refl, given ∙ ap (λ (x : Guarded). Ok x.epochs) is))

-- the liars and the epochs of a document
guarded_fit : (needs : Needs) (hosts : ℕ) (table : Members) (part : Guarded) → guarded_of needs hosts table ≡ Ok part
    → AreHosts hosts part.liars × Fit hosts needs.epochs part.epochs
unfolding guarded_of liars_of tables_of epochs_of
guarded_fit needs hosts table part e =
    let from = guarded_from hosts (master_of needs.master table) (liars_of hosts table) (tables_of needs.epochs table)
    (codes "master") (codes "liars") (codes "epoch") part e in
    let tables = from.1.0 in
    let taken = tables_taken needs.epochs (get_member (codes "epoch") table) tables from.1.1 in
    (liars_below hosts (get_member (codes "liars") table) part.liars from.0, epochs_fit hosts needs.epochs tables part.epochs taken from.1.2)

-- the third part is what its keys give, for as many hosts as there are
keys_from : (system : Result SystemKeys Refusal) (texts : Result Texts Refusal) (guarded : ℕ → Result Guarded Refusal)
    (unknown : Option (List ℕ)) (said : AllKeys)
    → after system (λ s. after texts (λ x. after (guarded s.hosts) (λ g. all_known (record { system = s; texts = x; guarded = g }) unknown))) ≡ Ok said
    → guarded said.system.hosts ≡ Ok said.guarded
keys_from (Err k) texts guarded unknown said e = cc
keys_from (Ok s) (Err k) guarded unknown said e = cc
keys_from (Ok s) (Ok x) guarded unknown said e = go (guarded s.hosts) refl unknown e
  where
    go : (r : Result Guarded Refusal) → guarded s.hosts ≡ r → (o : Option (List ℕ))
        → after r (λ g. all_known (record { system = s; texts = x; guarded = g }) o) ≡ Ok said → guarded said.system.hosts ≡ Ok said.guarded
    go (Err k) given o h = cc
    go (Ok g) given (Some key) h = cc
    go (Ok g) given None h =
        let is : record { system = s; texts = x; guarded = g } ≡ said = cc in
        subst (λ (y : AllKeys). guarded y.system.hosts ≡ Ok y.guarded) is given

-- what is said has the third part of the keys, whatever the hosts run
said_from : (guarded : ℕ → Result Guarded Refusal) (keys : Result AllKeys Refusal) (said : Said)
    → ((k : AllKeys) → keys ≡ Ok k → guarded k.system.hosts ≡ Ok k.guarded)
    → after keys (λ k. after (protocol_of k.system.name k.system.root k.system.machine) (λ protocol. Ok (said_with k protocol))) ≡ Ok said
    → guarded said.system.hosts ≡ Ok said.guarded
said_from guarded (Err refusal) said given e = cc
said_from guarded (Ok k) said given e = go (protocol_of k.system.name k.system.root k.system.machine) e
  where
    go : (r : Result Protocol Refusal) → after r (λ protocol. Ok (said_with k protocol)) ≡ Ok said → guarded said.system.hosts ≡ Ok said.guarded
    go (Err refusal) h = cc
    go (Ok protocol) h =
        let is : said_with k protocol ≡ said = cc in
        subst (λ (y : Said). guarded y.system.hosts ≡ Ok y.guarded) is (given k refl)

-- a fact of what there may be gives another
if_some_gives : {A : Type 0} (o : Option A) (P Q : A → Type 0) → ((x : A) → P x → Q x) → IfSome o P → IfSome o Q
if_some_gives (Some x) P Q f p = f x p
if_some_gives None P Q f p = tt

-- what the table of a document says is within bounds
scenario_fits : (needs : Needs) (table : Members) (said : Said) → scenario_of needs table ≡ Ok said → IsBounded needs said
unfolding scenario_of
scenario_fits needs table said e =
    let given = said_from (λ hosts. guarded_of needs hosts table) (keys_of needs table) said
    (λ keys given. keys_from (system_of table) (texts_of table) (λ hosts. guarded_of needs hosts table) (unknown_key table) keys given) e in
    let fit = guarded_fit needs said.system.hosts table said.guarded given in
    let hosts = said.system.hosts in
    let epochs = said.guarded.epochs in
    record {
      root = scenario_rooted needs table said e;
      liars = fit.0;
      guards = All-weaker (IsFit hosts) (HasHosts hosts)
          (λ (x : Epoch) fits. if_some_gives x.guards _ _ (λ table are. are.each) fits.guards) epochs fit.1.each;
      past = All-weaker (IsFit hosts) (HasNobodyPast hosts)
          (λ (x : Epoch) fits. if_some_gives x.guards _ _ (λ table are. are.past) fits.guards) epochs fit.1.each;
      thresholds = All-weaker (IsFit hosts) (HasThresholds hosts)
          (λ (x : Epoch) fits. if_some_gives x.thresholds _ _ (λ table are. record { small = are.each; past = are.past }) fits.thresholds)
          epochs fit.1.each;
      credits = All-weaker (IsFit hosts) HasCredit (λ (x : Epoch) fits. fits.credit) epochs fit.1.each;
      few = fit.1.few;
      needed = fit.1.some;
    }

-- what a document says is within bounds
pub bounded : (needs : Needs) (bytes : List ℕ) (said : Said) → answer_to needs bytes ≡ Ok said → IsBounded needs said
bounded needs bytes said e = go (document_of bytes) e
  where
    go : (o : Option Members) → answer_from needs o ≡ Ok said → IsBounded needs said
    go None h = cc
    go (Some table) h = scenario_fits needs table said h

-- a fact of what was answered gives another
pub if_ok_gives : {T E : Type 0} (r : Result T E) (P Q : T → Type 0) → ((x : T) → P x → Q x) → IfOk r P → IfOk r Q
if_ok_gives (Ok x) P Q f p = f x p
if_ok_gives (Err e) P Q f p = tt
