-- What a node tells the Olympus once it is wedged, and what it asks.
use Rattle.std.proofs.Common.{◌≡◌, ℕ, suc, ◌+◌, ◌<◌, ◌≤◌, ◌⊎◌, true, List, [], ◌∷◌, ◌++◌, map, filter, drop, Some, None, refl, ap, sym, subst, ◌∙◌, inl, inr, arith, append-nil, append_assoc}
use Rattle.std.specs.Prelude.{All, flat_map, fold, option_map, slice_get, Option}
use Rattle.std.specs.List.{enumerate_from}
use Rattle.std.specs.Option.{option_to_list}
use Rattle.std.proofs.lemmas.List.Elements.{All-append, All-cons, All-head, All-nil, All-tail, filter_passes}
use Rattle.nys_bytes.specs.declared.content.Content.{Content}
use Rattle.nys_stmt.specs.declared.statement.Body.{Body}
use Rattle.nys_stmt.specs.declared.statement.Body.TheVariants as body
use Rattle.nys_stmt.specs.declared.statement.FilledKind.TheVariants as kind
use Rattle.nys_stmt.specs.declared.statement.Statement.{Statement}
use Rattle.nys_agreement.specs.Said.{Said}
use Rattle.nys_agreement.specs.Assembly as machine
use Rattle.nys_agreement.specs.Events.Event.{Says}
use Rattle.nys_agreement.proofs.ListLemmas.{get_drop}
use Rattle.nys_rules.specs.Asking.{all_hosts}
use Rattle.nys_rules.specs.Ending.{entry_reports, reporting, testimony, told_from, vote_report}
use Rattle.nys_rules.specs.Forged.{Entry, HasMade, with_made}
use Rattle.nys_rules.specs.Packets.{Acts, joined, nothing}
use Rattle.nys_rules.specs.Sending.{made_for, said_in, to_olympus}
use Rattle.nys_rules.specs.View.{is_live, length_of, View}
use Rattle.nys_rules.specs.World.{Setting, World}
use Rattle.nys_laws.proofs.LedgerLemmas.{made_before, made_cases}
use Rattle.nys_follows.specs.Follows.{Reached}
use Rattle.nys_follows.specs.Steps.{ReportMay}
use Rattle.nys_follows.proofs.LeadingLemmas.{goes_on, LeadsStill, moves, stays}
use Rattle.nys_follows.proofs.SettleLemmas.{made_both}
use Rattle.nys_follows.proofs.StageLemmas.{IsLiveAt, live_is, not_of, same_stage, says_stage, Scene, Stage}
use Rattle.nys_follows.proofs.TellingLemmas.{one_of}

-- what holds of each value of a function holds of all that it gives
all_of : {A B : Type 0} (P : B → Type 0) (Q : A → Type 0) (f : A → B) (xs : List A) → ((x : A) → Q x → P (f x)) → All Q xs
    → All P (map f xs)
all_of P Q f [] each all = All-nil P
all_of P Q f (x ∷ xs) each all =
    All-cons P (f x) (map f xs) (each x (All-head Q x xs all)) (all_of P Q f xs each (All-tail Q x xs all))

-- the same of a function that gives lists
all_flat : {A B : Type 0} (P : B → Type 0) (Q : A → Type 0) (f : A → List B) (xs : List A) → ((x : A) → Q x → All P (f x))
    → All Q xs → All P (flat_map f xs)
all_flat P Q f [] each all = All-nil P
all_flat P Q f (x ∷ xs) each all =
    All-append P (f x) (flat_map f xs) (each x (All-head Q x xs all)) (all_flat P Q f xs each (All-tail Q x xs all))

-- a node may report it, or freeze there
abbrev IsTellable : {S : Type 0} → Setting S → (g : ℕ) → List Entry → View → Body → Type 0
IsTellable setting g ledger v (body.Filled kind.Report h s c) =
    IsLiveAt setting v h × (v.base h ≤ s)
    × ((slice_get (v.logs h) s ≡ Some c) ⊎ HasMade ledger g (said_in v.epoch (body.Filled kind.Deliver h s c)))
IsTellable setting g ledger v (body.Frozen h f) =
    (s : ℕ) (c : Content) → HasMade ledger g (said_in v.epoch (body.Filled kind.Deliver h s c)) → s < f
IsTellable setting g ledger v (body.Filled kind.Offer h s c) = ⊥
IsTellable setting g ledger v (body.Filled kind.Order h s c) = ⊥
IsTellable setting g ledger v (body.Filled kind.Deliver h s c) = ⊥
IsTellable setting g ledger v (body.Attest p h k payload) = ⊥
IsTellable setting g ledger v (body.Ask h s) = ⊥
IsTellable setting g ledger v body.Wedge = ⊥
IsTellable setting g ledger v (body.Open lengths) = ⊥
IsTellable setting g ledger v (body.Filled kind.Inherit h s c) = ⊥

-- an entry of a log in its place, from a base on
abbrev IsPlaced : List Content → ℕ → ℕ × Content → Type 0
IsPlaced log base x = (base ≤ x.0) × (slice_get log x.0 ≡ Some x.1)

-- the entries of a log from a place on, each in its place
placed : (log : List Content) (base n : ℕ) (entries : List Content) → base ≤ n
    → ((i : ℕ) (c : Content) → slice_get entries i ≡ Some c → slice_get log (n + i) ≡ Some c)
    → All (IsPlaced log base) (enumerate_from n entries)
placed log base n [] le same = All-nil (IsPlaced log base)
placed log base n (c ∷ entries) le same =
    All-cons (IsPlaced log base) (n, c) (enumerate_from (n + 1) entries)
    (le, (let z : n + 0 ≡ n = omega arith in subst (λ x. slice_get log x ≡ Some c) z (same 0 c refl)))
    (placed log base (n + 1) entries (omega arith)
    (λ i d e. let z : n + suc i ≡ (n + 1) + i = omega arith in subst (λ x. slice_get log x ≡ Some d) z (same (suc i) d e)))

-- what a node tells about a host
tells : {S : Type 0} (setting : Setting S) (g : ℕ) (ledger : List Entry) (v : View) → ReportMay ledger g v → (h : ℕ)
    → is_live setting.scope v h ≡ true → All (IsTellable setting g ledger v) (testimony v h)
unfolding testimony
tells {S} setting g ledger v may h live =
    All-append Tellable (entry_reports v h) (vote_report v h ++ body.Frozen h (v.voted_to h) ∷ [])
    (all_of Tellable (IsPlaced (v.logs h) (v.base h)) (λ (x : ℕ × Content). body.Filled kind.Report h x.0 x.1) (enumerate_from (told_from v h) (drop (told_from v h) (v.logs h)))
    (λ x at. (here, at.0, inl at.1))
    (placed (v.logs h) (v.base h) (told_from v h) (drop (told_from v h) (v.logs h)) (omega arith)
    (λ i c e. sym (get_drop (told_from v h) (v.logs h) i) ∙ e)))
    (All-append Tellable (vote_report v h) (body.Frozen h (v.voted_to h) ∷ []) (vote (v.desks h).delivered refl)
    (All-cons Tellable (body.Frozen h (v.voted_to h)) [] (may.frozen h) (All-nil Tellable)))
  where
    Tellable : Body → Type 0
    Tellable = IsTellable setting g ledger v

    here : IsLiveAt setting v h
    here = live_is setting v h live

    vote : (o : Option Content) → (v.desks h).delivered ≡ o
        → All Tellable (option_to_list (option_map (λ c. body.Filled kind.Report h (length_of v h) c) o))
    vote None is = All-nil Tellable
    vote (Some c) is =
        let made = may.kept h c is in
        All-cons Tellable (body.Filled kind.Report h (length_of v h) c) [] (here, made.0, inr made.1) (All-nil Tellable)

-- what it tells about all
abbrev pub told_bodies : {S : Type 0} → Setting S → View → List Body
told_bodies setting v = flat_map (testimony v) (filter (is_live setting.scope v) all_hosts)

-- it may
tells_all : {S : Type 0} (setting : Setting S) (g : ℕ) (ledger : List Entry) (v : View) → ReportMay ledger g v
    → All (IsTellable setting g ledger v) (told_bodies setting v)
tells_all setting g ledger v may =
    all_flat (IsTellable setting g ledger v) (λ h. is_live setting.scope v h ≡ true) (testimony v) (filter (is_live setting.scope v) all_hosts)
    (tells setting g ledger v may) (filter_passes (is_live setting.scope v) all_hosts)

-- acts that each make one statement make all of them, and log nothing
one_each : {A : Type 0} (acts : A → Acts) (made : A → Statement) → ((x : A) → ((acts x).made ≡ made x ∷ []) × ((acts x).grew ≡ []))
    → (xs : List A) (before : Acts)
    → ((fold joined before (map acts xs)).made ≡ before.made ++ map made xs) × ((fold joined before (map acts xs)).grew ≡ before.grew)
one_each acts made each [] before = (sym (append-nil before.made), refl)
one_each acts made each (x ∷ xs) before =
    let rest = one_each acts made each xs (joined before (acts x)) in
    let one = each x in (
      rest.0 ∙ (ap (λ z. (before.made ++ z) ++ map made xs) one.0 ∙ append_assoc before.made (made x ∷ []) (map made xs)),
      rest.1 ∙ (ap (λ z. before.grew ++ z) one.1 ∙ append-nil before.grew),
    )

-- what a wedged node makes
pub reports_made : {S : Type 0} (setting : Setting S) (v : View)
    → ((reporting setting.scope v).made ≡ map (said_in v.epoch) (told_bodies setting v)) × ((reporting setting.scope v).grew ≡ [])
unfolding reporting made_for
reports_made setting v =
    one_each (to_olympus setting.scope v) (said_in v.epoch) (λ x. (refl, refl)) (flat_map (testimony v) (filter (is_live setting.scope v) all_hosts)) nothing

-- since a ledger, a node made more, but no Deliver of its epoch
record IsSince (g : ℕ) (v : View) (ledger later : List Entry) : Type 0 where
  pub stays : (s : Statement) → HasMade ledger g s → HasMade later g s
  pub delivers : (h s : ℕ) (c : Content) → HasMade later g (said_in v.epoch (body.Filled kind.Deliver h s c))
      → HasMade ledger g (said_in v.epoch (body.Filled kind.Deliver h s c))

-- one more, which is none
since_more : (g : ℕ) (v : View) (ledger later : List Entry) (said : Body)
    → ((h s : ℕ) (c : Content) → said ≡ body.Filled kind.Deliver h s c → ⊥)
    → IsSince g v ledger later → IsSince g v ledger (with_made g (said_in v.epoch said ∷ []) later)
since_more g v ledger later said other since = record {
  stays = λ s has. made_before g (said_in v.epoch said ∷ []) later g s (since.stays s has);
  delivers = λ h s c has. elim (made_cases g (said_in v.epoch said ∷ []) later g (said_in v.epoch (body.Filled kind.Deliver h s c)) has) [
    | inl old ↦ since.delivers h s c old
    | inr new ↦ absurd (other h s c (ap (λ (z : Statement). z.body) (one_of (said_in v.epoch said) (said_in v.epoch (body.Filled kind.Deliver h s c)) new.1)))
  ];
}

-- a wedged node tells the Olympus one thing
tell_one : {S : Type 0} (setting : Setting S) (scene : Scene setting) (ledger : List Entry) (v : View) (said : Body) (later : List Entry)
    (runs : World) (m : machine.Assembly) → v.wedged ≡ true → IsSince scene.actor v ledger later
    → IsTellable setting scene.actor ledger v said → Stage setting scene v later runs m
    → LeadsStill setting m (Stage setting scene v (with_made scene.actor (said_in v.epoch said ∷ []) later) runs)
tell_one setting scene ledger v (body.Filled kind.Report h s c) later runs m wedged since may k =
    let begins = k.here.begins h may.0.host may.0.kept in
    let above = may.1 in
    moves setting m _ (Says scene.actor (Said.Report v.epoch h s c)) (λ x. refl) (
      scene.truthful.honest,
      k.here.epoch_is,
      k.here.wedged_is ∙ wedged,
      k.here.lives h may.0.host ∙ not_of (v.retired h) may.0.kept,
      omega arith,
      elim may.2 [
        | inl at ↦ inl (ap (λ (l : List Content). slice_get l s) (k.here.log_is h) ∙ at)
        | inr made ↦ inr (k.told.here scene.actor (Said.Deliver v.epoch h s c) (since.stays (said_in v.epoch (body.Filled kind.Deliver h s c)) made))
      ],
    )
    (says_stage setting scene v v (Said.Report v.epoch h s c) later runs m refl k)
tell_one setting scene ledger v (body.Frozen h f) later runs m wedged since may k =
    moves setting m _ (Says scene.actor (Said.Frozen v.epoch h f)) (λ x. refl) (
      scene.truthful.honest,
      k.here.epoch_is,
      k.here.wedged_is ∙ wedged,
      λ s c has. may s c (since.delivers h s c (k.told.there scene.actor (Said.Deliver v.epoch h s c) has)),
    )
    (says_stage setting scene v v (Said.Frozen v.epoch h f) later runs m refl k)
tell_one setting scene ledger v (body.Filled kind.Offer h s c) later runs m wedged since may k = absurd may
tell_one setting scene ledger v (body.Filled kind.Order h s c) later runs m wedged since may k = absurd may
tell_one setting scene ledger v (body.Filled kind.Deliver h s c) later runs m wedged since may k = absurd may
tell_one setting scene ledger v (body.Attest p h n payload) later runs m wedged since may k = absurd may
tell_one setting scene ledger v (body.Ask h s) later runs m wedged since may k = absurd may
tell_one setting scene ledger v body.Wedge later runs m wedged since may k = absurd may
tell_one setting scene ledger v (body.Open lengths) later runs m wedged since may k = absurd may
tell_one setting scene ledger v (body.Filled kind.Inherit h s c) later runs m wedged since may k = absurd may

-- it is no Deliver
tellable_other : {S : Type 0} (setting : Setting S) (g : ℕ) (ledger : List Entry) (v : View) (said : Body)
    → IsTellable setting g ledger v said → (h s : ℕ) (c : Content) → said ≡ body.Filled kind.Deliver h s c → ⊥
tellable_other setting g ledger v said may h s c is = subst (IsTellable setting g ledger v) is may

-- it tells all, one after another
tell_each : {S : Type 0} (setting : Setting S) (scene : Scene setting) (ledger : List Entry) (v : View) (bodies : List Body) (later : List Entry)
    (runs : World) (m : machine.Assembly) → Reached setting m → v.wedged ≡ true → IsSince scene.actor v ledger later
    → All (IsTellable setting scene.actor ledger v) bodies → Stage setting scene v later runs m
    → LeadsStill setting m (Stage setting scene v (with_made scene.actor (map (said_in v.epoch) bodies) later) runs)
tell_each setting scene ledger v [] later runs m reached wedged since may k =
    stays setting m _ (same_stage setting scene v v later runs m refl k)
tell_each setting scene ledger v (said ∷ bodies) later runs m reached wedged since may k =
    let first = All-head (IsTellable setting scene.actor ledger v) said bodies may in
    let next = with_made scene.actor (said_in v.epoch said ∷ []) later in
    goes_on setting m (Stage setting scene v next runs) _ reached
    (tell_one setting scene ledger v said later runs m wedged since first k)
    (λ x there l.
    subst (λ (z : List Entry). LeadsStill setting x (Stage setting scene v z runs))
    (sym (made_both scene.actor (said_in v.epoch said ∷ []) (map (said_in v.epoch) bodies) later))
    (tell_each setting scene ledger v bodies next runs x there wedged
    (since_more scene.actor v ledger later said (tellable_other setting scene.actor ledger v said first) since)
    (All-tail (IsTellable setting scene.actor ledger v) said bodies may) l))

-- what a node told before it was wedged it may tell then
wedged_tells : {S : Type 0} (setting : Setting S) (g : ℕ) (ledger : List Entry) (v : View) (said : Body)
    → IsTellable setting g ledger v said → IsTellable setting g ledger (record v { wedged = true }) said
wedged_tells setting g ledger v (body.Filled kind.Report h s c) may =
    (record { host = may.0.host; guard = may.0.guard; kept = may.0.kept }, may.1, may.2)
wedged_tells setting g ledger v (body.Frozen h f) may = may
wedged_tells setting g ledger v (body.Filled kind.Offer h s c) may = absurd may
wedged_tells setting g ledger v (body.Filled kind.Order h s c) may = absurd may
wedged_tells setting g ledger v (body.Filled kind.Deliver h s c) may = absurd may
wedged_tells setting g ledger v (body.Attest p h n payload) may = absurd may
wedged_tells setting g ledger v (body.Ask h s) may = absurd may
wedged_tells setting g ledger v body.Wedge may = absurd may
wedged_tells setting g ledger v (body.Open lengths) may = absurd may
wedged_tells setting g ledger v (body.Filled kind.Inherit h s c) may = absurd may

-- all that a node tells once it is wedged
pub reports_stage : {S : Type 0} (setting : Setting S) (scene : Scene setting) (v : View) (ledger : List Entry) (runs : World)
    (m : machine.Assembly) → Reached setting m → ReportMay ledger scene.actor v
    → Stage setting scene (record v { wedged = true }) ledger runs m
    → LeadsStill setting m (Stage setting scene (record v { wedged = true }) (with_made scene.actor (reporting setting.scope v).made ledger) runs)
reports_stage setting scene v ledger runs m reached may k =
    let ended = record v { wedged = true } in
    subst (λ (z : List Statement). LeadsStill setting m (Stage setting scene ended (with_made scene.actor z ledger) runs))
    (sym (reports_made setting v).0)
    (tell_each setting scene ledger ended (told_bodies setting v) ledger runs m reached refl
    (record { stays = λ s has. has; delivers = λ h s c has. has })
    (weaker (told_bodies setting v) (tells_all setting scene.actor ledger v may)) k)
  where
    weaker : (bodies : List Body) → All (IsTellable setting scene.actor ledger v) bodies
        → All (IsTellable setting scene.actor ledger (record v { wedged = true })) bodies
    weaker [] all = All-nil (IsTellable setting scene.actor ledger (record v { wedged = true }))
    weaker (said ∷ bodies) all =
        All-cons (IsTellable setting scene.actor ledger (record v { wedged = true })) said bodies
        (wedged_tells setting scene.actor ledger v said (All-head (IsTellable setting scene.actor ledger v) said bodies all))
        (weaker bodies (All-tail (IsTellable setting scene.actor ledger v) said bodies all))
