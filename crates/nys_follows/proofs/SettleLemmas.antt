-- The machine goes along where a node settles.
use Rattle.std.proofs.Common.{◌≡◌, ℕ, ◌≤◌, false, List, [], ◌∷◌, ◌++◌, length, map, Some, refl, ap, sym, subst, ◌∙◌, append-nil, append_assoc}
use Rattle.std.specs.Prelude.{slice_get, Option}
use Rattle.std.proofs.lemmas.List.{map-append}
use Rattle.nys_bytes.specs.declared.content.Content.{Content}
use Rattle.nys_stmt.specs.declared.statement.Statement.{Statement}
use Rattle.nys_agreement.specs.Claims.{IsPrefixOf}
use Rattle.nys_agreement.specs.Said.{Said}
use Rattle.nys_agreement.specs.Assembly as machine
use Rattle.nys_agreement.specs.After as machines
use Rattle.nys_agreement.specs.Events.{Enabled, IsCandidate}
use Rattle.nys_agreement.specs.Events.Event.{Logs, Says}
use Rattle.nys_agreement.proofs.Inputs.{delivered_offered}
use Rattle.nys_agreement.proofs.Ledgers.{honest_vouch}
use Rattle.nys_agreement.proofs.ListLemmas.{in_prefix}
use Rattle.nys_agreement.proofs.Spelling.{Kept}
use Rattle.nys_agreement.proofs.TableLemmas.{put_here}
use Rattle.nys_rules.specs.declared.rule.Rule.{Rule}
use Rattle.nys_rules.specs.declared.rule.Rule.TheVariants.{Offer, Order, Certificate, Deliver, Log, Attest}
use Rattle.nys_rules.specs.Forged.{Entry, with_made}
use Rattle.nys_rules.specs.Heads.{with_heads}
use Rattle.nys_rules.specs.Logging.{logged}
use Rattle.nys_rules.specs.Premises.{net_of}
use Rattle.nys_rules.specs.Rules as rules
use Rattle.nys_rules.specs.Scope.{Scope}
use Rattle.nys_rules.specs.Sending.{made_for}
use Rattle.nys_rules.specs.Taking.{acts_of, certifying, ordering, taken}
use Rattle.nys_rules.specs.View.{length_of, View, with_links}
use Rattle.nys_rules.specs.World.{Setting, with_grown, with_slot, World}
use Rattle.nys_follows.specs.Follows.{Reached}
use Rattle.nys_follows.specs.Steps.{Grounds}
use Rattle.nys_follows.proofs.GrowLemmas.{grows_stage}
use Rattle.nys_follows.proofs.LeadingLemmas.{kept_there, LeadsStill, moves, stays}
use Rattle.nys_follows.proofs.RuleLemmas.{attest_may, deliver_may, log_may, offer_may, order_may}
use Rattle.nys_follows.proofs.StageLemmas.{same_stage, says_stage, Scene, Stage}

-- each log of the one view is a prefix of the log of the other
abbrev pub Extends : View → View → Type 0
Extends v next = (h : ℕ) → IsPrefixOf (v.logs h) (next.logs h)

-- so does each of a view with itself
pub extends_same : (v : View) → Extends v v
extends_same v h = ([], append-nil (v.logs h))

-- the entry that a log has taken is there as long as it goes on
pub entry_there : {S : Type 0} (scope : Scope S) (h : ℕ) (c : Content) (v was after : View) → was.logs ≡ v.logs
    → Extends (logged scope h c was) after → slice_get (after.logs h) (length_of v h) ≡ Some c
unfolding logged with_heads with_links
entry_there scope h c v was after same more =
    in_prefix ((logged scope h c was).logs h) (after.logs h) (more h) (length_of v h) c
    (ap (λ (z : List Content). slice_get z (length_of v h)) (put_here was.logs h (was.logs h ++ c ∷ []))
    ∙ (ap (λ (z : ℕ → List Content). slice_get (z h ++ c ∷ []) (length_of v h)) same ∙ last (v.logs h)))
  where
    last : (log : List Content) → slice_get (log ++ c ∷ []) (length log) ≡ Some c
    last [] = refl
    last (x ∷ log) = last log

-- so is what was made
pub made_both : (g : ℕ) (some more : List Statement) (ledger : List Entry)
    → with_made g (some ++ more) ledger ≡ with_made g more (with_made g some ledger)
made_both g some more ledger =
    ap (λ z. ledger ++ z) (map-append entry some more) ∙ sym (append_assoc ledger (map entry some) (map entry more))
  where
    entry : Statement → Entry
    entry s = record { party = g; statement = s }

-- an input that the host's own log takes is the oldest that waits: the host offered it
logs_oldest : {S : Type 0} (setting : Setting S) (m : machine.Assembly) → Kept setting.scope.rules (net_of setting) m
    → (g h : ℕ) (c : Content) → Enabled setting.scope.rules (net_of setting) m (Logs g h c) → g ≡ h
    → IsCandidate (m.waiting h) c
logs_oldest setting m kept g h c may same =
    let e = m.epoch g in
    let s = length (m.log g h) in
    let voter = honest_vouch (net_of setting) kept.sound.safe.few m.ledger e h (Said.Deliver e h s c) may.1 in
    let honest = subst (λ n. setting.liars n ≡ false) same may.0.honest in
    let offer = delivered_offered (net_of setting) m kept.sound.safe kept.inputs voter.0 e h s c honest voter.2 in
    (kept.inputs.offers h e h s c offer).head (ap (λ n. length (m.log n h)) same)

-- the log grows
logs_step : {S : Type 0} (setting : Setting S) (scene : Scene setting) (v : View) (ledger : List Entry) (runs : World)
    (m : machine.Assembly) (h : ℕ) (c : Content) → Stage setting scene v ledger runs m
    → (scene.actor ≡ h → IsCandidate (m.waiting h) c) → length (m.log scene.actor h) ≤ length (m.longest h)
    → Stage setting scene (taken setting.scope v (Log h c)) (with_made scene.actor [] ledger) (with_slot h (length_of v h) (Some c) runs)
    (machines.with_entry m scene.actor h c)
unfolding logged with_heads with_links
logs_step setting scene v ledger runs m h c k may fits =
    let next = taken setting.scope v (Log h c) in
    same_stage setting scene next next ledger (with_slot h (length_of v h) (Some c) runs) (machines.with_entry m scene.actor h c) refl
    (grows_stage setting scene v next h c ledger runs m refl may fits k)

-- each rule that is enabled
pub rule_stage : {S : Type 0} (setting : Setting S) (scene : Scene setting) (v : View) (ledger : List Entry) (runs : World)
    (m : machine.Assembly) → Reached setting m → Stage setting scene v ledger runs m → Grounds setting scene.actor ledger v
    → (rule : Rule) (after : View) → rules.Enabled setting.scope v rule → Extends (taken setting.scope v rule) after
    → LeadsStill setting m (Stage setting scene (taken setting.scope v rule)
    (with_made scene.actor (acts_of setting.scope v rule).made ledger) (with_grown after (acts_of setting.scope v rule).grew runs))
unfolding made_for ordering certifying with_heads
rule_stage setting scene v ledger runs m reached k ground (Offer h c) after e more =
    moves setting m _ (Says scene.actor (Said.Offer v.epoch h (length_of v h) c)) (λ x. refl)
    (offer_may setting scene v ledger runs m k ground h c e)
    (says_stage setting scene v (taken setting.scope v (Offer h c)) (Said.Offer v.epoch h (length_of v h) c) ledger runs m refl k)
rule_stage setting scene v ledger runs m reached k ground (Order h c) after e more =
    moves setting m _ (Says scene.actor (Said.Order v.epoch h (length_of v h) c)) (λ x. refl)
    (order_may setting scene v ledger runs m k ground h c e)
    (says_stage setting scene v (taken setting.scope v (Order h c)) (Said.Order v.epoch h (length_of v h) c) ledger runs m refl k)
rule_stage setting scene v ledger runs m reached k ground (Certificate h c) after e more =
    stays setting m _ (same_stage setting scene v (taken setting.scope v (Certificate h c)) ledger runs m refl k)
rule_stage setting scene v ledger runs m reached k ground (Deliver h c) after e more =
    moves setting m _ (Says scene.actor (Said.Deliver v.epoch h (length_of v h) c)) (λ x. refl)
    (deliver_may setting scene v ledger runs m k ground h c e)
    (says_stage setting scene v (taken setting.scope v (Deliver h c)) (Said.Deliver v.epoch h (length_of v h) c) ledger runs m refl k)
rule_stage setting scene v ledger runs m reached k ground (Log h c) after e more =
    let may = log_may setting scene v ledger runs m k ground h c e in
    let kept = kept_there setting scene.may m reached in
    let grown = logs_step setting scene v ledger runs m h c k
    (logs_oldest setting m kept scene.actor h c may) (kept.sound.evidence.fits scene.actor h) in
    moves setting m _ (Logs scene.actor h c) (λ x. refl) may
    (subst (λ (z : Option Content). Stage setting scene (taken setting.scope v (Log h c)) (with_made scene.actor [] ledger) (with_slot h (length_of v h) z runs) (machines.with_entry m scene.actor h c))
    (sym (entry_there setting.scope h c v _ after refl more)) grown)
rule_stage setting scene v ledger runs m reached k ground (Attest p h n payload) after e more =
    moves setting m _ (Says scene.actor (Said.Attest v.epoch p h n payload)) (λ x. refl)
    (attest_may setting scene v ledger runs m k p h n payload e)
    (says_stage setting scene v (taken setting.scope v (Attest p h n payload)) (Said.Attest v.epoch p h n payload) ledger runs m refl k)
