-- Why an entry stands in a log that a node has: a quorum voted for it in an epoch and so did the node, or it was
-- inherited.
use Rattle.std.proofs.Common.{◌≡◌, ℕ, ◌+◌, ◌*◌, ◌/◌, ◌≤◌, ◌⊎◌, ◌==◌, ◌&&◌, Bool, true, false, List, [], ◌∷◌, ◌++◌, length, Some, None, refl, ap, sym, subst, ◌∙◌, inl, inr, arith}
use Rattle.std.specs.Prelude.{Option, if◌then◌else◌, is_none, is_some, slice_get}
use Rattle.std.specs.Option.{option_or}
use Rattle.std.proofs.lemmas.Bool.Decides.{Decides-eqb}
use Rattle.std.proofs.lemmas.Option.{slice_get_within}
use Rattle.nys_agreement.proofs.ListLemmas.{in_push}
use Rattle.nys_agreement.proofs.TableLemmas.{put_case}
use Rattle.nys_bytes.specs.declared.content.Content.{Content}
use Rattle.nys_hosts.proofs.CountLemmas.{AtLeast-fewer, AtLeast-map}
use Rattle.nys_hosts.specs.Counts.{AtLeast, hosts_with}
use Rattle.nys_source.specs.Tables.{put}
use Rattle.nys_votes.proofs.TallyLemmas.{votes_found}
use Rattle.nys_votes.specs.Delivered.{backed}
use Rattle.nys_stmt.specs.declared.records.Record.{Record}
use Rattle.nys_stmt.specs.declared.statement.Body.{Body}
use Rattle.nys_stmt.specs.declared.statement.Body.TheVariants as body
use Rattle.nys_stmt.specs.declared.statement.FilledKind.TheVariants as kind
use Rattle.nys_stmt.specs.declared.statement.Statement.{Statement}
use Rattle.nys_stmt.specs.declared.tags.Tags.{Tags}
use Rattle.nys_rules.specs.Certificates.{HasSeats, IsVoted}
use Rattle.nys_rules.specs.declared.rule.Rule.{Rule}
use Rattle.nys_rules.specs.declared.rule.Rule.TheVariants.{Attest, Certificate, Deliver, Log, Offer, Order}
use Rattle.nys_rules.specs.Asking.{questions}
use Rattle.nys_rules.specs.Dropping.{accepted, misplaced, misplaced_body, permits, untagged, verdict}
use Rattle.nys_rules.specs.Forged.{Entry, HasMade, makers_told, with_made}
use Rattle.nys_rules.specs.Handling.{acts_by, acts_by_body, noted_by}
use Rattle.nys_rules.specs.Happening.{AreTrue}
use Rattle.nys_rules.specs.Heads.{with_heads}
use Rattle.nys_rules.specs.Logging.{logged}
use Rattle.nys_rules.specs.Noting.{at_desk, noted, noted_body, with_attests, with_certificate, with_orders}
use Rattle.nys_rules.specs.Packets.{nothing}
use Rattle.nys_rules.specs.Premises.{HasGoodGuards}
use Rattle.nys_rules.specs.Rules.{due, only_if, ordered_content, to_deliver, to_log}
use Rattle.nys_rules.specs.Scope.{olympus, quorum_at, Scope}
use Rattle.nys_rules.specs.Sending.{said_in}
use Rattle.nys_rules.specs.Taking.{acts_of, taken}
use Rattle.nys_rules.specs.View.{entering, first_view, is_open, length_of, View, with_links}
use Rattle.nys_rules.specs.World.{fresh_world, Setting}
use Rattle.nys_rules.proofs.CertificateLemmas.{logs_by_makers, only_if_some}
use Rattle.nys_rules.proofs.DueLemmas.{due_enabled, due_first}
use Rattle.nys_rules.proofs.SearchLemmas.{or_none}
use Rattle.nys_laws.specs.Own.Stage.{Delivered}
use Rattle.nys_laws.specs.Rests.{IsSound}
use Rattle.nys_laws.specs.Vouched.{IsVouched, QuorumVouches}
use Rattle.nys_laws.specs.Worlds.{InEachWorld}
use Rattle.nys_laws.proofs.GroundLemmas.{has_grounds}
use Rattle.nys_laws.proofs.LedgerLemmas.{made_before}
use Rattle.nys_laws.proofs.OlympusLemmas.{olympus_true, one_accepted}
use Rattle.nys_laws.proofs.OpenLemmas.{inherit_is}
use Rattle.nys_laws.proofs.RestsWorlds.{are_sound, sound_steps}
use Rattle.nys_laws.proofs.ViewLemmas.{open_later}
use Rattle.nys_laws.proofs.WorldKeeping.{HoldsOfNodes, StepsKeep, worlds_keep}
use Rattle.nys_follows.proofs.FeedingWorlds.{hosts_of_scenario}
use Rattle.nys_follows.specs.Scenario.{IsScenario}
use Rattle.nys_progress.specs.Statements.{deliver, inherit}

-- a quorum of the guards of h voted for the content in some epoch up to now, and so did the node, for whatever content
pub record IsVotedIn {S : Type 0} (setting : Setting S) (g : ℕ) (ledger : List Entry) (now h slot : ℕ) (content : Content) : Type 0 where
  pub epoch : ℕ
  pub past : epoch ≤ now
  pub quorum : QuorumVouches setting ledger epoch h (deliver h slot content)
  pub own : Content
  pub made : HasMade ledger g (said_in epoch (deliver h slot own))

-- or the Olympus told it
abbrev pub WhyLogged : {S : Type 0} → Setting S → (g : ℕ) → List Entry → (now h slot : ℕ) → Content → Type 0
WhyLogged setting g ledger now h slot content =
    IsVotedIn setting g ledger now h slot content
    ⊎ ((e : ℕ) × HasMade ledger olympus (said_in e (inherit h slot content)))

-- each entry of each log has such a reason
abbrev pub AllLogged : {S : Type 0} → Setting S → (g : ℕ) → List Entry → (now : ℕ) → (ℕ → List Content)
    → Type 0
AllLogged setting g ledger now logs = (h slot : ℕ) (content : Content) → slice_get (logs h) slot ≡ Some content
    → WhyLogged setting g ledger now h slot content

-- what the node of g keeps
pub record KeepsVoted {S : Type 0} (setting : Setting S) (g : ℕ) (ledger : List Entry) (v : View) : Type 0 where
  pub sound : IsSound setting g ledger v
  pub logged : AllLogged setting g ledger v.epoch v.logs

-- a reason stands where more was made, and later
why_more : {S : Type 0} (setting : Setting S) (g party : ℕ) (made : List Statement) (ledger : List Entry) (now later h slot : ℕ) (content : Content)
    → now ≤ later → WhyLogged setting g ledger now h slot content
    → WhyLogged setting g (with_made party made ledger) later h slot content
why_more setting g party made ledger now later h slot content le (inl why) =
    let past = why.past in
    inl (record {
      epoch = why.epoch;
      past = omega (arith, past, le);
      quorum = AtLeast-map (quorum_at setting.scope why.epoch h) (IsVouched setting ledger why.epoch h (deliver h slot content))
          (IsVouched setting (with_made party made ledger) why.epoch h (deliver h slot content))
          (λ m v. (v.0, λ honest. made_before party made ledger m (said_in why.epoch (deliver h slot content)) (v.1 honest))) why.quorum;
      own = why.own;
      made = made_before party made ledger g (said_in why.epoch (deliver h slot why.own)) why.made;
    })
why_more setting g party made ledger now later h slot content le (inr why) =
    inr (why.0, made_before party made ledger olympus (said_in why.0 (inherit h slot content)) why.1)

-- so do all
all_more : {S : Type 0} (setting : Setting S) (g party : ℕ) (made : List Statement) (ledger : List Entry) (now later : ℕ) (logs : ℕ → List Content)
    → now ≤ later → AllLogged setting g ledger now logs
    → AllLogged setting g (with_made party made ledger) later logs
all_more setting g party made ledger now later logs le all h slot content get =
    why_more setting g party made ledger now later h slot content le (all h slot content get)

-- a log that takes an entry with a reason
all_grown : {S : Type 0} (setting : Setting S) (g : ℕ) (ledger : List Entry) (now : ℕ) (logs : ℕ → List Content) (h : ℕ) (content : Content)
    → WhyLogged setting g ledger now h (length (logs h)) content → AllLogged setting g ledger now logs
    → AllLogged setting g ledger now (put logs h (logs h ++ content ∷ []))
all_grown setting g ledger now logs h content why all x slot c =
    put_case (λ (l : List Content). slice_get l slot ≡ Some c → WhyLogged setting g ledger now x slot c) logs h (logs h ++ content ∷ []) x
    (λ here get.
    elim (in_push (logs h) content slot c get) [
      | inl old ↦ all x slot c (subst (λ y. slice_get (logs y) slot ≡ Some c) (sym here) old)
      | inr new ↦
          subst (λ y. WhyLogged setting g ledger now y slot c) (sym here)
          (subst (λ n. WhyLogged setting g ledger now h n c) (sym new.0)
          (subst (λ d. WhyLogged setting g ledger now h (length (logs h)) d) new.1 why))
    ])
    (λ there get. all x slot c get)

-- more than may lie are fewer than a quorum
few_of_quorum : (t n : ℕ) → 3 * t + 1 ≤ n → t + 1 ≤ (n + t) / 2 + 1
few_of_quorum t n many = omega (arith, many)

-- of two the one, or else the other
pub some_either : {A : Type 0} (a b : Option A) → is_some b ≡ true → (x : A) × (option_or a b ≡ Some x)
some_either (Some x) b is = (x, refl)
some_either None (Some x) is = (x, refl)
some_either None None is = absurd (cc)

-- a slot in which a content can be logged is open
log_is_open : {S : Type 0} (scope : Scope S) (v : View) (h : ℕ) (content : Content)
    → to_log scope v h ≡ Some content
    → is_open scope v h ≡ true
unfolding to_log
log_is_open scope v h content e = (only_if_some (is_open scope v h) _ content e).0

-- the vote rule is enabled in an open slot where the node didn't vote and a content is ordered or backed
pub enabled_deliver : {S : Type 0} (scope : Scope S) (v : View) (h : ℕ) (x : Content)
    → is_open scope v h ≡ true
    → (v.desks h).delivered ≡ None
    → option_or (ordered_content scope v h) (backed (scope.t v.epoch h) (v.desks h).votes) ≡ Some x
    → to_deliver scope v h ≡ Some x
unfolding to_deliver
enabled_deliver scope v h x opened none is =
    let value = option_or (ordered_content scope v h) (backed (scope.t v.epoch h) (v.desks h).votes) in
    ap (λ (b : Bool). only_if (b && is_none (v.desks h).delivered) value) opened
    ∙ ap (λ (o : Option Content). only_if (is_none o) value) none
    ∙ is

-- where a content can be logged and the vote rule isn't enabled, the node has voted
has_voted : {S : Type 0} (scope : Scope S) (v : View) (h : ℕ) (content : Content) → HasSeats v
    → scope.t v.epoch h + 1 ≤ quorum_at scope v.epoch h
    → to_log scope v h ≡ Some content → ((x : Content) → to_deliver scope v h ≡ Some x → ⊥)
    → (own : Content) × ((v.desks h).delivered ≡ Some own)
has_voted {S} scope v h content seats few logs never = by (v.desks h).delivered refl
  where
    votes : AtLeast (scope.t v.epoch h + 1) (IsVoted v h content)
    votes = AtLeast-fewer (quorum_at scope v.epoch h) (scope.t v.epoch h + 1) (IsVoted v h content) few
        (logs_by_makers scope v h content seats logs)

    found : is_some (backed (scope.t v.epoch h) (v.desks h).votes) ≡ true
    found = votes_found content (v.desks h).votes (scope.t v.epoch h + 1) (seats.desks h).votes (omega arith) votes

    opened : is_open scope v h ≡ true
    opened = log_is_open scope v h content logs

    by : (o : Option Content) → (v.desks h).delivered ≡ o
        → (own : Content) × ((v.desks h).delivered ≡ Some own)
    by (Some own) is = (own, is)
    by None is =
        let one = some_either (ordered_content scope v h) (backed (scope.t v.epoch h) (v.desks h).votes) found in
        absurd (never one.0 (enabled_deliver scope v h one.0 opened is one.1))

-- the guards of a host that a node guards are many
pub many_guards : {S : Type 0} (setting : Setting S) → IsScenario setting → HasGoodGuards setting.scope
    → (e h m : ℕ)
    → setting.scope.guards e h m ≡ true → setting.scope.t e h + 1 ≤ quorum_at setting.scope e h
unfolding quorum_at
many_guards setting asked good e h m guards =
    let within = asked.guards e h m guards in
    few_of_quorum (setting.scope.t e h) (hosts_with (setting.scope.guards e h)) ((good e within.epoch).many h within.host)

-- the reason of an entry that is logged by votes
log_why : {S : Type 0} (setting : Setting S) → IsScenario setting → HasGoodGuards setting.scope
    → (g : ℕ) (ledger : List Entry) (v : View)
    (h : ℕ) (content : Content) → due setting.scope v ≡ Some (Log h content) → IsSound setting g ledger v
    → WhyLogged setting g ledger v.epoch h (length_of v h) content
log_why setting asked good g ledger v h content is sound =
    let may = due_enabled setting.scope v (Log h content) is in
    let grounds = has_grounds setting (hosts_of_scenario setting asked) g ledger v (Log h content) sound may.1 in
    let own = has_voted setting.scope v h content sound.seats
    (many_guards setting asked good v.epoch h v.me grounds.0.live.guard) may.1
    (λ x enabled. due_first setting.scope v (Log h content) is (Deliver h x) may.0 (omega arith) enabled) in
    inl (record {
      epoch = v.epoch;
      past = omega arith;
      quorum = grounds.1;
      own = own.0;
      made = sound.own.own.kept Delivered h own.0 own.1;
    })

-- each rule that is due
rule_logged : {S : Type 0} (setting : Setting S) → IsScenario setting → HasGoodGuards setting.scope
    → (g : ℕ) (ledger : List Entry) (v : View)
    (rule : Rule) → due setting.scope v ≡ Some rule → KeepsVoted setting g ledger v
    → AllLogged setting g (with_made g (acts_of setting.scope v rule).made ledger) (taken setting.scope v rule).epoch (taken setting.scope v rule).logs
unfolding with_heads logged with_links
rule_logged setting asked good g ledger v (Offer h content) is k = all_more setting g g _ ledger v.epoch v.epoch v.logs (omega arith) k.logged
rule_logged setting asked good g ledger v (Order h content) is k = all_more setting g g _ ledger v.epoch v.epoch v.logs (omega arith) k.logged
rule_logged setting asked good g ledger v (Certificate h content) is k = all_more setting g g _ ledger v.epoch v.epoch v.logs (omega arith) k.logged
rule_logged setting asked good g ledger v (Deliver h content) is k = all_more setting g g _ ledger v.epoch v.epoch v.logs (omega arith) k.logged
rule_logged setting asked good g ledger v (Log h content) is k =
    all_grown setting g (with_made g [] ledger) v.epoch v.logs h content
    (why_more setting g g [] ledger v.epoch v.epoch h (length_of v h) content (omega arith)
    (log_why setting asked good g ledger v h content is k.sound))
    (all_more setting g g [] ledger v.epoch v.epoch v.logs (omega arith) k.logged)
rule_logged setting asked good g ledger v (Attest p h n payload) is k = all_more setting g g _ ledger v.epoch v.epoch v.logs (omega arith) k.logged

-- each kind of record, where the Olympus made what it alone may make
body_logged : {S : Type 0} (setting : Setting S) (g : ℕ) (ledger : List Entry) (v : View) (e : ℕ) (said : Body) (makers : List Tags)
    → misplaced_body setting.scope v e said ≡ None
    → (((m : ℕ) → permits setting.scope e said m ≡ true → m ≡ olympus) → HasMade ledger olympus (said_in e said))
    → AllLogged setting g ledger v.epoch v.logs
    → AllLogged setting g (with_made g (acts_by_body setting.scope v said makers).made ledger)
    (noted_body setting.scope e said makers v).epoch (noted_body setting.scope e said makers v).logs
unfolding with_heads with_attests logged with_links entering
body_logged setting g ledger v e (body.Filled kind.Offer h slot content) makers is top k =
    all_more setting g g [] ledger v.epoch v.epoch v.logs (omega arith) k
body_logged {S} setting g ledger v e (body.Filled kind.Order h slot content) makers is top k = by (v.me == h)
  where
    by : (b : Bool)
        → AllLogged setting g (with_made g [] ledger) (if b then at_desk h (with_orders content makers) v
        else at_desk h (with_certificate (quorum_at setting.scope v.epoch h) content makers) v).epoch (if b then at_desk h (with_orders content makers) v
        else at_desk h (with_certificate (quorum_at setting.scope v.epoch h) content makers) v).logs
    by true = all_more setting g g [] ledger v.epoch v.epoch v.logs (omega arith) k
    by false = all_more setting g g [] ledger v.epoch v.epoch v.logs (omega arith) k
body_logged setting g ledger v e (body.Filled kind.Deliver h slot content) makers is top k =
    all_more setting g g [] ledger v.epoch v.epoch v.logs (omega arith) k
body_logged setting g ledger v e (body.Attest p h n payload) makers is top k =
    all_more setting g g [] ledger v.epoch v.epoch v.logs (omega arith) k
body_logged setting g ledger v e (body.Ask h slot) makers is top k =
    all_more setting g g (acts_by_body setting.scope v (body.Ask h slot) makers).made ledger v.epoch v.epoch v.logs (omega arith) k
body_logged setting g ledger v e body.Wedge makers is top k =
    all_more setting g g (acts_by_body setting.scope v body.Wedge makers).made ledger v.epoch v.epoch v.logs (omega arith) k
body_logged setting g ledger v e (body.Filled kind.Report h slot content) makers is top k = absurd (cc)
body_logged setting g ledger v e (body.Frozen h slot) makers is top k = absurd (cc)
body_logged setting g ledger v e (body.Open lengths) makers is top k =
    let later = open_later setting.scope v e lengths is in
    all_more setting g g [] ledger v.epoch e v.logs (omega (arith, later)) k
body_logged setting g ledger v e (body.Filled kind.Inherit h slot content) makers is top k =
    let next = inherit_is setting.scope v e h slot content is in
    let told = top (λ m permitted. (Decides-eqb m olympus).0 permitted) in
    let at = subst (λ n. HasMade ledger olympus (said_in e (inherit h n content))) next.slot_is told in
    all_grown setting g (with_made g [] ledger) v.epoch v.logs h content
    (inr (e, made_before g [] ledger olympus (said_in e (inherit h (length_of v h) content)) at))
    (all_more setting g g [] ledger v.epoch v.epoch v.logs (omega arith) k)

-- a record that isn't dropped
record_logged : {S : Type 0} (setting : Setting S) (g : ℕ) (ledger : List Entry) (v : View) (r : Record)
    → verdict setting.scope v r ≡ None
    → AreTrue setting ledger r.statement
    (makers_told (noted_by nothing r (accepted setting.scope r.statement.epoch v.me r)))
    → AllLogged setting g ledger v.epoch v.logs
    → AllLogged setting g (with_made g (acts_by setting.scope v r).made ledger) (noted setting.scope v r).epoch (noted setting.scope v r).logs
unfolding verdict misplaced acts_by noted
record_logged setting g ledger v r is true_makers k =
    let makers = accepted setting.scope r.statement.epoch v.me r in
    let parts = or_none (misplaced_body setting.scope v r.statement.epoch r.statement.body) (untagged makers) is in
    let one = one_accepted setting.scope v.me r parts.1 in
    body_logged setting g ledger v r.statement.epoch r.statement.body makers parts.0
    (λ alone. olympus_true setting ledger v.me r true_makers one.0 one.1 (alone one.0.maker one.2)) k

-- each step of a node
voted_steps : {S : Type 0} (setting : Setting S) → IsScenario setting → HasGoodGuards setting.scope
    → StepsKeep setting (KeepsVoted setting)
voted_steps setting asked good =
    let sound = sound_steps setting (hosts_of_scenario setting asked) in record {
      beside = λ party made g ledger v ne k. record {
        sound = sound.beside party made g ledger v ne k.sound;
        logged = all_more setting g party made ledger v.epoch v.epoch v.logs (omega arith) k.logged;
      };
      rules = λ g ledger v rule is k. record {
        sound = sound.rules g ledger v rule is k.sound;
        logged = rule_logged setting asked good g ledger v rule is k;
      };
      records = λ g ledger v r read is true_makers k. record {
        sound = sound.records g ledger v r read is true_makers k.sound;
        logged = record_logged setting g ledger v r is true_makers k.logged;
      };
      inputs = λ g ledger v payload k. record {
        sound = sound.inputs g ledger v payload k.sound;
        logged = k.logged;
      };
      asking = λ g ledger v k. record {
        sound = sound.asking g ledger v k.sound;
        logged = all_more setting g g (questions setting.scope v).made ledger v.epoch v.epoch v.logs (omega arith) k.logged;
      };
    }

-- no entry stands in an empty log
none_there : (slot : ℕ) (content : Content) → slice_get [] slot ≡ Some content → ⊥
none_there slot content get = let low = slice_get_within [] slot content get in omega (arith, low)

-- the first world
first_voted : {S : Type 0} (setting : Setting S) → IsScenario setting
    → HoldsOfNodes (KeepsVoted setting) (fresh_world setting)
unfolding fresh_world first_view entering with_links
first_voted setting asked g ne = record {
  sound = are_sound setting (hosts_of_scenario setting asked) [] (fresh_world setting) refl g ne;
  logged = λ h slot content get. absurd (none_there slot content get);
}

-- in each world
pub keep_voted : {S : Type 0} (setting : Setting S) → IsScenario setting → HasGoodGuards setting.scope
    → InEachWorld setting (HoldsOfNodes (KeepsVoted setting))
keep_voted setting asked good events w happen =
    worlds_keep setting (KeepsVoted setting) (voted_steps setting asked good) (fresh_world setting) w events happen
    (first_voted setting asked)
