-- The machine goes along where a node notes a record.
use Rattle.std.proofs.Common.{◌≡◌, ℕ, zero, suc, ◌<◌, ◌==◌, ◌&&◌, Bool, true, false, not, List, [], ◌∷◌, ◌++◌, length, Some, None, refl, ap, sym, subst, ◌∙◌, inl, inr, arith, eq-eqb}
use Rattle.std.specs.Prelude.{Contains, if◌then◌else◌, nat_le, slice_get, Option, ◌||◌}
use Rattle.std.specs.List.{list_any}
use Rattle.std.proofs.lemmas.Bool.{cases_order, le-leb}
use Rattle.std.proofs.lemmas.Bool.Decides.{Decides-eqb}
use Rattle.std.proofs.lemmas.List.Elements.{All-contains, Contains-append_right, filter_passes}
use Rattle.nys_bytes.specs.declared.content.Content.{Content}
use Rattle.nys_source.specs.Tables.{put}
use Rattle.nys_stmt.specs.declared.records.Record.{Record}
use Rattle.nys_stmt.specs.declared.statement.Body.{Body}
use Rattle.nys_stmt.specs.declared.statement.Body.TheVariants as body
use Rattle.nys_stmt.specs.declared.statement.FilledKind.TheVariants as kind
use Rattle.nys_stmt.specs.declared.tags.Tags.{Tags}
use Rattle.nys_agreement.specs.Assembly as machine
use Rattle.nys_agreement.specs.After as machines
use Rattle.nys_agreement.specs.Events.{Enabled, IsCandidate}
use Rattle.nys_agreement.specs.Events.Event.{Enters, Inherits, Wedges}
use Rattle.nys_agreement.proofs.Inputs.{known_offered}
use Rattle.nys_agreement.proofs.Spelling.{Kept}
use Rattle.nys_agreement.proofs.TableLemmas.{put_here, put_there}
use Rattle.nys_rules.specs.declared.cause.DropCause.{DropCause}
use Rattle.nys_rules.specs.Asking.{answering}
use Rattle.nys_rules.specs.Dropping.{accepted, accepts, if_current, inherit_drop, misplaced, misplaced_body, permits, unless, untagged, verdict, verifies}
use Rattle.nys_rules.specs.Ending.{reporting}
use Rattle.nys_rules.specs.Forged.{Entry, HasMade, makers_told, with_made}
use Rattle.nys_rules.specs.Handling.{acts_by, acts_by_body, hosts_among, noted_by}
use Rattle.nys_rules.specs.Happening.{AreTrue}
use Rattle.nys_rules.specs.Heads.{with_heads}
use Rattle.nys_rules.specs.Logging.{fits, logged}
use Rattle.nys_rules.specs.Noting.{at_desk, bases, noted, noted_body, retirements, with_attests, with_certificate, with_orders}
use Rattle.nys_rules.specs.Packets.{nothing}
use Rattle.nys_rules.specs.Premises.{net_of}
use Rattle.nys_rules.specs.Scope.{olympus, quorum_at}
use Rattle.nys_rules.specs.Sending.{said_in}
use Rattle.nys_rules.specs.View.{entering, has_reached, is_live, length_of, View, with_links}
use Rattle.nys_rules.specs.World.{is_honest, Setting, with_grown, with_slot, World}
use Rattle.nys_rules.proofs.CertificateLemmas.{both_true}
use Rattle.nys_rules.proofs.SearchLemmas.{or_none}
use Rattle.nys_laws.proofs.ViewLemmas.{open_later}
use Rattle.nys_follows.specs.Follows.{IsNode, IsOpened, part_of, Reached}
use Rattle.nys_follows.specs.Steps.{Grounds}
use Rattle.nys_follows.proofs.GrowLemmas.{grows_stage}
use Rattle.nys_follows.proofs.LeadingLemmas.{goes_on, kept_there, LeadsStill, moves, stays}
use Rattle.nys_follows.proofs.ReportLemmas.{reports_made, reports_stage}
use Rattle.nys_follows.proofs.SettleLemmas.{entry_there, Extends}
use Rattle.nys_follows.proofs.StageLemmas.{is_not, live_is, same_stage, Scene, Stage}

-- a test that passed, before others
passed_on : (b : Bool) (cause : DropCause) (rest : Option DropCause) → unless b cause rest ≡ None
    → (b ≡ true) × (rest ≡ None)
passed_on true cause rest e = (refl, e)
passed_on false cause rest e = absurd (cc)

-- a record that is tested against the epoch of the node is of that epoch
current_is : (v : View) (e : ℕ) (rest : Option DropCause) → if_current v e rest ≡ None
    → (e ≡ v.epoch) × (rest ≡ None)
current_is v e rest is =
    let first = passed_on (e == v.epoch) _ _ is in
    let second = passed_on (not v.wedged) _ rest first.1 in
    ((Decides-eqb e v.epoch).0 first.0, second.1)

-- some maker is accepted
some_maker : (makers : List Tags) → untagged makers ≡ None → (t : Tags) × Contains makers t
some_maker [] e = absurd (cc)
some_maker (t ∷ makers) e = (t, (zero, omega arith, refl))

-- the Olympus is told where it is among the makers
top_told : (makers : List Tags) (t : Tags) → Contains makers t → t.maker ≡ olympus
    → list_any (λ (m : Tags). m.maker == olympus) makers ≡ true
top_told [] t among is = absurd (omega (arith, among.1))
top_told (x ∷ makers) t (zero, lt, at) is =
    let here : (x.maker == olympus) ≡ true = eq-eqb x.maker olympus (ap (λ (z : Tags). z.maker) at ∙ is) in
    rw here refl
top_told (x ∷ makers) t (suc n, lt, at) is =
    by (x.maker == olympus) (top_told makers t (n, omega (arith, lt), at) is)
  where
    by : (b : Bool) → list_any (λ (m : Tags). m.maker == olympus) makers ≡ true
        → (b || list_any (λ (m : Tags). m.maker == olympus) makers) ≡ true
    by true rest = refl
    by false rest = rest

-- what the Olympus alone may say, and a node accepted, the Olympus said
top_made : {S : Type 0} (setting : Setting S) (ledger : List Entry) (taker : ℕ) (r : Record)
    → ((m : ℕ) → permits setting.scope r.statement.epoch r.statement.body m ≡ true → m ≡ olympus)
    → untagged (accepted setting.scope r.statement.epoch taker r) ≡ None
    → AreTrue setting ledger r.statement (makers_told (noted_by nothing r (accepted setting.scope r.statement.epoch taker r)))
    → HasMade ledger olympus r.statement
unfolding accepted accepts
top_made setting ledger taker r only some true_all =
    let makers = accepted setting.scope r.statement.epoch taker r in
    let one = some_maker makers some in
    let passed = All-contains (λ x. accepts setting.scope r.statement.epoch taker r.statement x ≡ true) makers one.0
    (filter_passes (accepts setting.scope r.statement.epoch taker r.statement) r.makers) one.1 in
    let rest = (both_true (not (one.0.maker == taker)) _ passed).1 in
    let permitted = (both_true (permits setting.scope r.statement.epoch r.statement.body one.0.maker) (verifies setting.scope taker r.statement one.0) rest).0 in
    let told = top_told makers one.0 one.1 (only one.0.maker permitted) in
    let among = subst (λ (b : Bool). Contains (hosts_among makers ++ (if b then olympus ∷ [] else [])) olympus) (sym told)
    (Contains-append_right (hosts_among makers) (olympus ∷ []) olympus (zero, omega arith, refl)) in
    All-contains (λ m. is_honest setting m ≡ true → HasMade ledger m r.statement)
    (makers_told (noted_by nothing r makers)) olympus true_all among refl

-- a node that enters an epoch which the Olympus opened
enters_stage : {S : Type 0} (setting : Setting S) (scene : Scene setting) (v next : View) (e : ℕ) (lengths : List (Option ℕ)) (ledger : List Entry)
    (runs : World) (m : machine.Assembly) → part_of next ≡ part_of (entering setting.scope e (bases lengths) (retirements lengths) v)
    → IsOpened setting e lengths m.top m.base m.live → Stage setting scene v ledger runs m
    → Stage setting scene next ledger runs (machines.after m (Enters scene.actor e))
unfolding entering with_links
enters_stage {S} setting scene v next e lengths ledger runs m same opened k = record {
  here = subst (λ p. IsNode setting g p (put m.epoch g e g) (put m.wedged g false g) (m.log g) (m.waiting g) m.base m.live) (sym same) (record {
    me = k.here.me;
    epoch_is = put_here m.epoch g e;
    wedged_is = put_here m.wedged g false;
    log_is = k.here.log_is;
    waiting_is = k.here.waiting_is;
    lives = opened.lives;
    begins = opened.begins;
  });
  beside = λ x other honest.
      subst (λ n. IsNode setting x (part_of (scene.nodes x)) n (put m.wedged g false x) (m.log x) (m.waiting x) m.base m.live)
      (sym (put_there m.epoch g e x other))
      (subst (λ b. IsNode setting x (part_of (scene.nodes x)) (m.epoch x) b (m.log x) (m.waiting x) m.base m.live)
      (sym (put_there m.wedged g false x other)) (k.beside x other honest));
  no_others = k.no_others;
  top = k.top;
  told = k.told;
  run = k.run;
}
  where
    g : ℕ
    g = scene.actor

-- a node that hears that its epoch ends
wedges_stage : {S : Type 0} (setting : Setting S) (scene : Scene setting) (v : View) (ledger : List Entry)
    (runs : World) (m : machine.Assembly) → Stage setting scene v ledger runs m
    → Stage setting scene (record v { wedged = true }) ledger runs (machines.after m (Wedges scene.actor))
wedges_stage {S} setting scene v ledger runs m k = record {
  here = record {
    me = k.here.me;
    epoch_is = k.here.epoch_is;
    wedged_is = put_here m.wedged g true;
    log_is = k.here.log_is;
    waiting_is = k.here.waiting_is;
    lives = k.here.lives;
    begins = k.here.begins;
  };
  beside = λ x other honest.
      subst (λ b. IsNode setting x (part_of (scene.nodes x)) (m.epoch x) b (m.log x) (m.waiting x) m.base m.live)
      (sym (put_there m.wedged g true x other)) (k.beside x other honest);
  no_others = k.no_others;
  top = k.top;
  told = k.told;
  run = k.run;
}
  where
    g : ℕ
    g = scene.actor

-- what isn't at most is more
more_than : (a b : ℕ) → nat_le a b ≡ false → b < a
more_than a b e = elim (cases_order b a) [
  | inl same ↦ absurd (let t = le-leb a b (omega arith) in cc)
  | inr (inl lt) ↦ lt
  | inr (inr gt) ↦ absurd (let t = le-leb a b (omega arith) in cc)
]

-- an entry that is inherited is the next one, below the base
record IsNextBelow {S : Type 0} (setting : Setting S) (v : View) (e h slot : ℕ) (c : Content) : Type 0 where
  pub now : e ≡ v.epoch
  pub live : is_live setting.scope v h ≡ true
  pub next : slot ≡ length_of v h
  pub below : length_of v h < v.base h

-- it is such
next_below : {S : Type 0} (setting : Setting S) (v : View) (e h slot : ℕ) (c : Content)
    → misplaced_body setting.scope v e (body.Filled kind.Inherit h slot c) ≡ None → IsNextBelow setting v e h slot c
next_below setting v e h slot c is =
    let first = current_is v e (inherit_drop setting.scope v h slot (fits setting.scope v h c)) is in
    let second = passed_on (is_live setting.scope v h) _ _ first.1 in
    let third = passed_on ((slot == length_of v h && not (has_reached v h)) && fits setting.scope v h c) _ _ second.1 in
    let placed = (both_true (slot == length_of v h && not (has_reached v h)) (fits setting.scope v h c) third.0).0 in
    let parts = both_true (slot == length_of v h) (not (has_reached v h)) placed in record {
      now = first.0;
      live = second.0;
      next = (Decides-eqb slot (length_of v h)).0 parts.0;
      below = more_than (v.base h) (length_of v h) (is_not (has_reached v h) parts.1);
    }

-- the machine allows it
inherit_may : {S : Type 0} (setting : Setting S) (scene : Scene setting) (v : View) (e h slot : ℕ) (c : Content) (ledger : List Entry)
    (runs : World) (m : machine.Assembly) → Stage setting scene v ledger runs m → IsNextBelow setting v e h slot c
    → HasMade ledger olympus (said_in e (body.Filled kind.Inherit h slot c))
    → Enabled setting.scope.rules (net_of setting) m (Inherits scene.actor h c)
inherit_may setting scene v e h slot c ledger runs m k next made =
    let here = live_is setting v h next.live in
    let begins = k.here.begins h here.host here.kept in
    let long = ap length (k.here.log_is h) in
    let below = next.below in
    let lower : length (m.log scene.actor h) < m.base v.epoch h = omega arith in (
      scene.truthful.honest,
      subst (λ n. length (m.log scene.actor h) < m.base n h) (sym k.here.epoch_is) lower,
      subst (λ n. slice_get (m.decided h) n ≡ Some c) (next.next ∙ sym long) (k.told.inherited e h slot c made),
    )

-- an input that the host's own log inherits is the oldest that waits: the host offered it
inherits_oldest : {S : Type 0} (setting : Setting S) (m : machine.Assembly) → Kept setting.scope.rules (net_of setting) m
    → (g h : ℕ) (c : Content) → Enabled setting.scope.rules (net_of setting) m (Inherits g h c) → g ≡ h
    → IsCandidate (m.waiting h) c
inherits_oldest setting m kept g h c may same =
    let honest = subst (λ n. setting.liars n ≡ false) same may.0 in
    let offer = known_offered (net_of setting) m kept.sound kept.inputs h (length (m.log g h)) c honest (inr may.2) in
    (kept.inputs.offers h offer.0 h (length (m.log g h)) c offer.1).head (ap (λ n. length (m.log n h)) same)

-- an entry that is inherited
inherits_stage : {S : Type 0} (setting : Setting S) (scene : Scene setting) (v after : View) (e h slot : ℕ) (c : Content) (ledger : List Entry)
    (runs : World) (m : machine.Assembly) → Reached setting m → Stage setting scene v ledger runs m → IsNextBelow setting v e h slot c
    → HasMade ledger olympus (said_in e (body.Filled kind.Inherit h slot c)) → Extends (logged setting.scope h c v) after
    → LeadsStill setting m (Stage setting scene (logged setting.scope h c v) (with_made scene.actor [] ledger)
    (with_grown after ((h, length_of v h) ∷ []) runs))
unfolding logged with_heads with_links
inherits_stage setting scene v after e h slot c ledger runs m reached k next made more =
    let may = inherit_may setting scene v e h slot c ledger runs m k next made in
    let kept = kept_there setting scene.may m reached in
    let grown = grows_stage setting scene v (logged setting.scope h c v) h c ledger runs m refl
    (inherits_oldest setting m kept scene.actor h c may) (kept.sound.evidence.fits scene.actor h) k in
    let whole = same_stage setting scene (logged setting.scope h c v) (logged setting.scope h c v) ledger (with_slot h (length_of v h) (Some c) runs)
    (machines.with_entry m scene.actor h c) refl grown in
    moves setting m _ (Inherits scene.actor h c) (λ x. refl) may
    (subst (λ (z : Option Content). Stage setting scene (logged setting.scope h c v) (with_made scene.actor [] ledger) (with_slot h (length_of v h) z runs) (machines.with_entry m scene.actor h c))
    (sym (entry_there setting.scope h c v v after refl more)) whole)

-- what is noted of each kind
body_stage : {S : Type 0} (setting : Setting S) (scene : Scene setting) (v after : View) (e : ℕ) (said : Body) (makers : List Tags)
    (ledger : List Entry) (runs : World) (m : machine.Assembly) → Reached setting m → Stage setting scene v ledger runs m
    → Grounds setting scene.actor ledger v → misplaced_body setting.scope v e said ≡ None
    → (((x : ℕ) → permits setting.scope e said x ≡ true → x ≡ olympus) → HasMade ledger olympus (said_in e said))
    → Extends (noted_body setting.scope e said makers v) after
    → LeadsStill setting m (Stage setting scene (noted_body setting.scope e said makers v)
    (with_made scene.actor (acts_by_body setting.scope v said makers).made ledger)
    (with_grown after (acts_by_body setting.scope v said makers).grew runs))
unfolding with_heads with_attests answering
body_stage setting scene v after e (body.Filled kind.Offer h slot c) makers ledger runs m reached k ground is top more =
    stays setting m _ (same_stage setting scene v _ ledger runs m refl k)
body_stage {S} setting scene v after e (body.Filled kind.Order h slot c) makers ledger runs m reached k ground is top more =
    stays setting m _ (by (v.me == h))
  where
    by : (b : Bool) → Stage setting scene (if b then at_desk h (with_orders c makers) v
        else at_desk h (with_certificate (quorum_at setting.scope v.epoch h) c makers) v) (with_made scene.actor [] ledger) runs m
    by true = same_stage setting scene v _ ledger runs m refl k
    by false = same_stage setting scene v _ ledger runs m refl k
body_stage setting scene v after e (body.Filled kind.Deliver h slot c) makers ledger runs m reached k ground is top more =
    stays setting m _ (same_stage setting scene v _ ledger runs m refl k)
body_stage setting scene v after e (body.Attest p h n payload) makers ledger runs m reached k ground is top more =
    stays setting m _ (same_stage setting scene v _ ledger runs m refl k)
body_stage setting scene v after e (body.Ask h slot) makers ledger runs m reached k ground is top more =
    stays setting m _ (same_stage setting scene v v ledger runs m refl k)
body_stage setting scene v after e body.Wedge makers ledger runs m reached k ground is top more =
    subst (λ (z : List (ℕ × ℕ)). LeadsStill setting m (Stage setting scene (record v { wedged = true }) (with_made scene.actor (reporting setting.scope v).made ledger) (with_grown after z runs)))
    (sym (reports_made setting v).1)
    (goes_on setting m (Stage setting scene (record v { wedged = true }) ledger runs) _ reached
    (moves setting m _ (Wedges scene.actor) (λ x. refl) scene.truthful.honest (wedges_stage setting scene v ledger runs m k))
    (λ x there l. reports_stage setting scene v ledger runs x there ground.reports l))
body_stage setting scene v after e (body.Filled kind.Report h slot c) makers ledger runs m reached k ground is top more =
    stays setting m _ (same_stage setting scene v v ledger runs m refl k)
body_stage setting scene v after e (body.Frozen h slot) makers ledger runs m reached k ground is top more =
    stays setting m _ (same_stage setting scene v v ledger runs m refl k)
body_stage setting scene v after e (body.Open lengths) makers ledger runs m reached k ground is top more =
    let made = top (λ x only. (Decides-eqb x olympus).0 only) in
    let opened = k.told.opened e lengths made in
    let later = open_later setting.scope v e lengths is in
    let next = entering setting.scope e (bases lengths) (retirements lengths) v in
    moves setting m _ (Enters scene.actor e) (λ x. refl)
    (scene.truthful.honest, subst (λ n. n < e) (sym k.here.epoch_is) later, opened.upto)
    (same_stage setting scene next next ledger runs (machines.after m (Enters scene.actor e)) refl
    (enters_stage setting scene v next e lengths ledger runs m refl opened k))
body_stage setting scene v after e (body.Filled kind.Inherit h slot c) makers ledger runs m reached k ground is top more =
    inherits_stage setting scene v after e h slot c ledger runs m reached k (next_below setting v e h slot c is)
    (top (λ x only. (Decides-eqb x olympus).0 only)) more

-- a record that isn't dropped is noted
pub record_stage : {S : Type 0} (setting : Setting S) (scene : Scene setting) (v after : View) (r : Record)
    (ledger : List Entry) (runs : World) (m : machine.Assembly) → Reached setting m → Stage setting scene v ledger runs m
    → Grounds setting scene.actor ledger v → verdict setting.scope v r ≡ None
    → AreTrue setting ledger r.statement (makers_told (noted_by nothing r (accepted setting.scope r.statement.epoch v.me r)))
    → Extends (noted setting.scope v r) after
    → LeadsStill setting m (Stage setting scene (noted setting.scope v r)
    (with_made scene.actor (acts_by setting.scope v r).made ledger) (with_grown after (acts_by setting.scope v r).grew runs))
unfolding verdict misplaced noted acts_by
record_stage setting scene v after r ledger runs m reached k ground is true_all more =
    let makers = accepted setting.scope r.statement.epoch v.me r in
    let tests = or_none (misplaced_body setting.scope v r.statement.epoch r.statement.body) (untagged makers) is in
    body_stage setting scene v after r.statement.epoch r.statement.body makers ledger runs m reached k ground tests.0
    (λ only. top_made setting ledger v.me r only tests.1 true_all) more
