-- Each step of a node keeps a world to its history; and what a node takes over from the Olympus.
use Rattle.std.proofs.Common.{◌≡◌, ◌≢◌, ℕ, ◌<◌, ◌≤◌, ◌==◌, ◌&&◌, Bool, true, false, ℤ, List, [], Some, None, refl, ap, sym, subst, ◌∙◌, inl, inr, arith}
use Rattle.std.specs.Prelude.{Contains, Option, if◌then◌else◌, not, slice_get}
use Rattle.std.proofs.lemmas.Bool.Decides.{Decides-eqb}
use Rattle.nys_agreement.proofs.TableLemmas.{put_case}
use Rattle.nys_bytes.specs.declared.content.Content.{Content}
use Rattle.nys_stmt.specs.declared.records.Record.{Record}
use Rattle.nys_stmt.specs.declared.statement.Body.{Body}
use Rattle.nys_stmt.specs.declared.statement.Body.TheVariants as body
use Rattle.nys_stmt.specs.declared.statement.FilledKind.TheVariants as kind
use Rattle.nys_stmt.specs.declared.statement.Statement.{Statement}
use Rattle.nys_stmt.specs.declared.tags.Tags.{Tags}
use Rattle.nys_rules.specs.declared.rule.Rule.{Rule}
use Rattle.nys_rules.specs.declared.rule.Rule.TheVariants.{Offer, Order, Certificate, Deliver, Log, Attest}
use Rattle.nys_rules.specs.Asking.{questions}
use Rattle.nys_rules.specs.Dropping.{accepted, misplaced, misplaced_body, permits, untagged, verdict}
use Rattle.nys_rules.specs.Forged.{Entry, HasMade, with_made}
use Rattle.nys_rules.specs.Handling.{acts_by, with_input}
use Rattle.nys_rules.specs.Heads.{with_heads}
use Rattle.nys_rules.specs.Logging.{fits, logged}
use Rattle.nys_rules.specs.Noting.{at_desk, noted, noted_body, with_attests, with_certificate, with_orders}
use Rattle.nys_rules.specs.Olympus.{OlympusView}
use Rattle.nys_rules.specs.Packets.{Acts, nothing}
use Rattle.nys_rules.specs.Rules.{due}
use Rattle.nys_rules.specs.Scope.{olympus, quorum_at, Scope}
use Rattle.nys_rules.specs.Sending.{said_in}
use Rattle.nys_rules.specs.Taking.{acts_of, taken}
use Rattle.nys_rules.specs.View.{entering, has_reached, is_live, length_of, View, with_links}
use Rattle.nys_rules.specs.World.{Setting, World}
use Rattle.nys_rules.proofs.CertificateLemmas.{both_true}
use Rattle.nys_rules.proofs.SearchLemmas.{or_none}
use Rattle.nys_laws.specs.Epochs.{FollowsHistory, History, MayHaveMade, NodeFollows}
use Rattle.nys_laws.specs.SetUp.{IsSetUp}
use Rattle.nys_laws.proofs.EventKeeping.{ActsAs, IsAccepted}
use Rattle.nys_laws.proofs.GrownLemmas.{with_step}
use Rattle.nys_laws.proofs.HeardLemmas.{current_is, passed_on}
use Rattle.nys_laws.proofs.LedgerLemmas.{made_before, made_cases}
use Rattle.nys_laws.proofs.ViewLemmas.{open_later}
use Rattle.nys_laws.proofs.OlympusLemmas.{none_asked, none_due, olympus_true, one_accepted}

-- where more was made
pub more_node : (history : History) (top party : ℕ) (made : List Statement) (ledger : List Entry) (v : View)
    → NodeFollows history top ledger v → NodeFollows history top (with_made party made ledger) v
more_node history top party made ledger v k = record {
  behind = k.behind;
  base = k.base;
  retired = k.retired;
  told = λ is. made_before party made ledger olympus (said_in v.epoch body.Wedge) (k.told is);
}

-- a node that acts, where nothing is made at the number of the Olympus
step_follows : {S : Type 0} (setting : Setting S) (history : History) (w : World) (g : ℕ) (v : View) (acts : Acts)
    → (g ≡ olympus → (v.me ≡ olympus) × (acts.made ≡ []))
    → (g ≢ olympus → NodeFollows history w.olympus.epoch w.ledger v)
    → FollowsHistory setting history w → FollowsHistory setting history (with_step g v acts w)
step_follows setting history w g v acts same other k = record {
  top = k.top;
  made = λ s has. elim (made_cases g acts.made w.ledger olympus s has) [
    | inl old ↦ k.made s old
    | inr now ↦
        let in_none = subst (λ (made : List Statement). Contains made s) (same now.0).1 now.1 in
        absurd (omega (arith, in_none.1))
  ];
  nodes = λ x ne.
      put_case (NodeFollows history w.olympus.epoch (with_made g acts.made w.ledger)) w.nodes g v x
      (λ here. more_node history w.olympus.epoch g acts.made w.ledger v (other (subst (λ y. y ≢ olympus) here ne)))
      (λ there. more_node history w.olympus.epoch g acts.made w.ledger (w.nodes x) (k.nodes x ne));
  nobody = put_case (λ (x : View). x.me ≡ olympus) w.nodes g v olympus (λ here. (same (sym here)).0) (λ there. k.nobody);
}

-- a rule leaves the epoch of a node as it is
rule_node : {S : Type 0} (scope : Scope S) (history : History) (top : ℕ) (ledger : List Entry) (v : View) (rule : Rule)
    → NodeFollows history top ledger v → NodeFollows history top ledger (taken scope v rule)
unfolding with_heads logged with_links
rule_node scope history top ledger v (Offer h content) k =
    record { behind = k.behind; base = k.base; retired = k.retired; told = k.told }
rule_node scope history top ledger v (Order h content) k =
    record { behind = k.behind; base = k.base; retired = k.retired; told = k.told }
rule_node scope history top ledger v (Certificate h content) k =
    record { behind = k.behind; base = k.base; retired = k.retired; told = k.told }
rule_node scope history top ledger v (Deliver h content) k =
    record { behind = k.behind; base = k.base; retired = k.retired; told = k.told }
rule_node scope history top ledger v (Log h content) k =
    record { behind = k.behind; base = k.base; retired = k.retired; told = k.told }
rule_node scope history top ledger v (Attest p h n payload) k =
    record { behind = k.behind; base = k.base; retired = k.retired; told = k.told }

-- a rule that is due
pub rule_follows : {S : Type 0} (setting : Setting S) → IsSetUp setting.scope → (history : History) (w : World) (g : ℕ)
    (v : View) (rule : Rule) → ActsAs setting w g v → due setting.scope v ≡ Some rule → FollowsHistory setting history w
    → FollowsHistory setting history (with_step g (taken setting.scope v rule) (acts_of setting.scope v rule) w)
rule_follows setting set history w g v rule acting is k =
    step_follows setting history w g (taken setting.scope v rule) (acts_of setting.scope v rule)
    (λ same. absurd (none_due setting.scope set v (at_olympus same) rule is))
    (λ ne. rule_node setting.scope history w.olympus.epoch w.ledger v rule
    (subst (NodeFollows history w.olympus.epoch w.ledger) acting.view (k.nodes g ne))) k
  where
    at_olympus : g ≡ olympus → v.me ≡ olympus
    at_olympus same = ap (λ (x : View). x.me) (sym acting.view) ∙ ap (λ y. (w.nodes y).me) same ∙ k.nobody

-- each kind of record, where the Olympus made those that it alone may make
body_node : {S : Type 0} (setting : Setting S) (history : History) (o : OlympusView) (ledger : List Entry) (e : ℕ) (said : Body)
    (makers : List Tags) (v : View) → misplaced_body setting.scope v e said ≡ None
    → (((m : ℕ) → permits setting.scope e said m ≡ true → m ≡ olympus) → HasMade ledger olympus (said_in e said))
    → ((s : Statement) → HasMade ledger olympus s → MayHaveMade setting.scope history o s)
    → NodeFollows history o.epoch ledger v → NodeFollows history o.epoch ledger (noted_body setting.scope e said makers v)
unfolding with_heads with_attests logged with_links entering
body_node setting history o ledger e (body.Filled kind.Offer h slot content) makers v is top made k =
    record { behind = k.behind; base = k.base; retired = k.retired; told = k.told }
body_node {S} setting history o ledger e (body.Filled kind.Order h slot content) makers v is top made k = by (v.me == h)
  where
    by : (b : Bool) → NodeFollows history o.epoch ledger (if b then at_desk h (with_orders content makers) v
        else at_desk h (with_certificate (quorum_at setting.scope v.epoch h) content makers) v)
    by true = record { behind = k.behind; base = k.base; retired = k.retired; told = k.told }
    by false = record { behind = k.behind; base = k.base; retired = k.retired; told = k.told }
body_node setting history o ledger e (body.Filled kind.Deliver h slot content) makers v is top made k =
    record { behind = k.behind; base = k.base; retired = k.retired; told = k.told }
body_node setting history o ledger e (body.Attest p h n payload) makers v is top made k =
    record { behind = k.behind; base = k.base; retired = k.retired; told = k.told }
body_node setting history o ledger e (body.Ask h slot) makers v is top made k = k
body_node setting history o ledger e body.Wedge makers v is top made k = record {
  behind = k.behind;
  base = k.base;
  retired = k.retired;
  told = λ wedged.
      subst (λ d. HasMade ledger olympus (said_in d body.Wedge)) (current_is v e None is).0
      (top (λ m permitted. (Decides-eqb m olympus).0 permitted));
}
body_node setting history o ledger e (body.Filled kind.Report h slot content) makers v is top made k = k
body_node setting history o ledger e (body.Frozen h slot) makers v is top made k = k
body_node setting history o ledger e (body.Open lengths) makers v is top made k =
    let told = made (said_in e (body.Open lengths)) (top (λ m permitted. (Decides-eqb m olympus).0 permitted)) in
    record { behind = told.past; base = told.base; retired = told.retired; told = λ wedged. absurd (cc) }
body_node setting history o ledger e (body.Filled kind.Inherit h slot content) makers v is top made k =
    record { behind = k.behind; base = k.base; retired = k.retired; told = k.told }

-- a record that isn't dropped, of a kind that only the Olympus may make: it made it
pub only_olympus : {S : Type 0} (setting : Setting S) (w : World) (v : View) (r : Record)
    → verdict setting.scope v r ≡ None → IsAccepted setting w v.me r
    → ((m : ℕ) → permits setting.scope r.statement.epoch r.statement.body m ≡ true → m ≡ olympus)
    → HasMade w.ledger olympus r.statement
unfolding verdict
only_olympus setting w v r is some only =
    let makers = accepted setting.scope r.statement.epoch v.me r in
    let one = one_accepted setting.scope v.me r (or_none (misplaced setting.scope v r.statement) (untagged makers) is).1 in
    olympus_true setting w.ledger v.me r some.made one.0 one.1 (only one.0.maker one.2)

-- a record that isn't dropped
pub record_follows : {S : Type 0} (setting : Setting S) (history : History) (w : World) (g : ℕ) (v : View) (r : Record)
    → ActsAs setting w g v → g ≢ olympus → verdict setting.scope v r ≡ None → IsAccepted setting w v.me r
    → FollowsHistory setting history w
    → FollowsHistory setting history (with_step g (noted setting.scope v r) (acts_by setting.scope v r) w)
unfolding verdict misplaced noted
record_follows setting history w g v r acting host is some k =
    let makers = accepted setting.scope r.statement.epoch v.me r in
    step_follows setting history w g (noted setting.scope v r) (acts_by setting.scope v r) (λ same. absurd (host same))
    (λ ne. body_node setting history w.olympus w.ledger r.statement.epoch r.statement.body makers v
    (or_none (misplaced setting.scope v r.statement) (untagged makers) is).0 (only_olympus setting w v r is some) k.made
    (subst (NodeFollows history w.olympus.epoch w.ledger) acting.view (k.nodes g ne))) k

-- an input that waits
pub input_follows : {S : Type 0} (setting : Setting S) (history : History) (w : World) (g : ℕ) (v : View) (payload : List ℤ)
    → ActsAs setting w g v → FollowsHistory setting history w
    → FollowsHistory setting history (with_step g (with_input payload v) nothing w)
input_follows setting history w g v payload acting k =
    step_follows setting history w g (with_input payload v) nothing
    (λ same. (ap (λ (x : View). x.me) (sym acting.view) ∙ ap (λ y. (w.nodes y).me) same ∙ k.nobody, refl))
    (λ ne.
    let was = subst (NodeFollows history w.olympus.epoch w.ledger) acting.view (k.nodes g ne) in
    record { behind = was.behind; base = was.base; retired = was.retired; told = was.told }) k

-- questions
pub asking_follows : {S : Type 0} (setting : Setting S) → IsSetUp setting.scope → (history : History) (w : World) (g : ℕ)
    (v : View) → ActsAs setting w g v → FollowsHistory setting history w
    → FollowsHistory setting history (with_step g v (questions setting.scope v) w)
asking_follows setting set history w g v acting k =
    step_follows setting history w g v (questions setting.scope v)
    (λ same. (at_olympus same, ap (λ (a : Acts). a.made) (none_asked setting.scope set v (at_olympus same))))
    (λ ne. subst (NodeFollows history w.olympus.epoch w.ledger) acting.view (k.nodes g ne)) k
  where
    at_olympus : g ≡ olympus → v.me ≡ olympus
    at_olympus same = ap (λ (x : View). x.me) (sym acting.view) ∙ ap (λ y. (w.nodes y).me) same ∙ k.nobody

-- what isn't so
not_so : (b : Bool) → not b ≡ true → b ≡ false
not_so false is = refl
not_so true is = absurd (cc)

-- a node that hears that its epoch ends is in that epoch, and didn't know it
pub wedge_ends : {S : Type 0} (scope : Scope S) (v : View) (e : ℕ) → misplaced_body scope v e body.Wedge ≡ None
    → (e ≡ v.epoch) × (v.wedged ≡ false)
wedge_ends scope v e is =
    let first = passed_on (e == v.epoch) _ _ is in
    let second = passed_on (not v.wedged) _ None first.1 in
    ((Decides-eqb e v.epoch).0 first.0, not_so v.wedged second.0)

-- a node that an Open brings into an epoch comes from an earlier one, and the Olympus has come to it
pub record MayEnter (w : World) (v : View) (e : ℕ) : Type 0 where
  pub from : v.epoch < e
  pub to : e ≤ w.olympus.epoch

-- where the Olympus made the Open
pub open_enters : {S : Type 0} (setting : Setting S) (history : History) (w : World) (v : View) (e : ℕ)
    (lengths : List (Option ℕ)) → misplaced_body setting.scope v e (body.Open lengths) ≡ None
    → HasMade w.ledger olympus (said_in e (body.Open lengths)) → FollowsHistory setting history w
    → MayEnter w v e
open_enters setting history w v e lengths is has k =
    record { from = open_later setting.scope v e lengths is; to = (k.made (said_in e (body.Open lengths)) has).past }

-- a node that takes over an entry has a log that ends below the length at which its epoch began it, and
-- the entry is the next one of the decided log
pub record MayInherit {S : Type 0} (setting : Setting S) (history : History) (w : World) (v : View) (e h slot : ℕ)
    (content : Content) : Type 0 where
  pub now : e ≡ v.epoch
  pub active : v.wedged ≡ false
  pub host : h < setting.scope.rules.hosts
  pub lives : history.retired v.epoch h ≡ false
  pub live_here : is_live setting.scope v h ≡ true
  pub slot_is : slot ≡ length_of v h
  pub below : length_of v h < history.base v.epoch h
  pub entry : slice_get (w.olympus.decided h) (length_of v h) ≡ Some content
  pub fitting : fits setting.scope v h content ≡ true

-- where the Olympus made the Inherit
pub inherit_takes : {S : Type 0} (setting : Setting S) (history : History) (w : World) (v : View) (e h slot : ℕ)
    (content : Content) → misplaced_body setting.scope v e (body.Filled kind.Inherit h slot content) ≡ None
    → HasMade w.ledger olympus (said_in e (body.Filled kind.Inherit h slot content)) → FollowsHistory setting history w
    → MayInherit setting history w v e h slot content
inherit_takes setting history w v e h slot content is has k =
    let first = passed_on (e == v.epoch) _ _ is in
    let second = passed_on (not v.wedged) _ _ first.1 in
    let third = passed_on (is_live setting.scope v h) _ _ second.1 in
    let fourth = passed_on ((slot == length_of v h && not (has_reached v h)) && fits setting.scope v h content) _ _ third.1 in
    let parts = both_true (slot == length_of v h && not (has_reached v h)) (fits setting.scope v h content) fourth.0 in
    let now = (Decides-eqb e v.epoch).0 first.0 in
    let at = (Decides-eqb slot (length_of v h)).0 (both_true (slot == length_of v h) (not (has_reached v h)) parts.0).0 in
    let told = k.made (said_in e (body.Filled kind.Inherit h slot content)) has in
    record {
      now = now;
      active = not_so v.wedged second.0;
      host = told.host;
      lives = ap (λ d. history.retired d h) (sym now) ∙ told.lives;
      live_here = third.0;
      slot_is = at;
      below = subst (λ d. length_of v h < history.base d h) now (subst (λ s. s < history.base e h) at told.below);
      entry = subst (λ s. slice_get (w.olympus.decided h) s ≡ Some content) at told.entry;
      fitting = parts.1;
    }
