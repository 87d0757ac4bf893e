-- A node makes statements of its own epoch alone, and epochs never fall.
use Rattle.std.proofs.Common.{◌≡◌, ℕ, ◌≤◌, ◌==◌, Bool, true, false, List, [], ◌∷◌, None, refl, inl, inr, arith}
use Rattle.std.specs.Prelude.{All, if◌then◌else◌}
use Rattle.std.proofs.lemmas.List.Elements.{All-contains, All-cons, All-nil, All-weaker}
use Rattle.nys_stmt.specs.declared.records.Record.{Record}
use Rattle.nys_stmt.specs.declared.statement.Body.{Body}
use Rattle.nys_stmt.specs.declared.statement.Body.TheVariants as body
use Rattle.nys_stmt.specs.declared.statement.FilledKind.TheVariants as kind
use Rattle.nys_stmt.specs.declared.statement.Statement.{Statement}
use Rattle.nys_stmt.specs.declared.tags.Tags.{Tags}
use Rattle.nys_rules.specs.declared.rule.Rule.{Rule}
use Rattle.nys_rules.specs.declared.rule.Rule.TheVariants.{Offer, Order, Certificate, Deliver, Log, Attest}
use Rattle.nys_rules.specs.Asking.{questions}
use Rattle.nys_rules.specs.Dropping.{accepted, misplaced, misplaced_body, untagged, verdict}
use Rattle.nys_rules.specs.Forged.{Entry, with_made}
use Rattle.nys_rules.specs.Handling.{acts_by, acts_by_body}
use Rattle.nys_rules.specs.Heads.{with_heads}
use Rattle.nys_rules.specs.Logging.{logged}
use Rattle.nys_rules.specs.Noting.{at_desk, noted, noted_body, with_attests, with_certificate, with_orders}
use Rattle.nys_rules.specs.Packets.{Acts}
use Rattle.nys_rules.specs.Scope.{quorum_at, Scope}
use Rattle.nys_rules.specs.Sending.{made_for}
use Rattle.nys_rules.specs.Taking.{acts_of, certifying, ordering, taken}
use Rattle.nys_rules.specs.View.{entering, View, with_links}
use Rattle.nys_rules.specs.World.{Setting}
use Rattle.nys_rules.proofs.SearchLemmas.{or_none}
use Rattle.nys_laws.specs.Since.{LeaveEpochs, MadeSince}
use Rattle.nys_laws.proofs.ActsLemmas.{AreAside, aside_answering, aside_questions, aside_reporting}
use Rattle.nys_laws.proofs.LedgerLemmas.{made_cases}
use Rattle.nys_laws.proofs.OwnLemmas.{IsAside}
use Rattle.nys_laws.proofs.ViewLemmas.{open_later}
use Rattle.nys_laws.proofs.WorldKeeping.{StepsKeep, worlds_keep}

-- a statement of the epoch
abbrev IsOf : ℕ → Statement → Type 0
IsOf e s = s.epoch ≡ e

-- statements that bring no content into a slot
aside_of_epoch : (e : ℕ) (acts : Acts) → AreAside e acts → All (IsOf e) acts.made
aside_of_epoch e acts aside = All-weaker (IsAside e) (IsOf e) (λ s a. a.epoch_is) acts.made aside

-- one statement
one_of_epoch : (e : ℕ) (s : Statement) → s.epoch ≡ e → All (IsOf e) (s ∷ [])
one_of_epoch e s is = All-cons (IsOf e) s [] is (All-nil (IsOf e))

-- what a node does in its epoch, with a next view that is in no earlier one
record GoesOn (v next : View) (made : List Statement) : Type 0 where
  pub rises : v.epoch ≤ next.epoch
  pub of_epoch : All (IsOf v.epoch) made

-- by a rule
rule_goes : {S : Type 0} (scope : Scope S) (v : View) (rule : Rule)
    → GoesOn v (taken scope v rule) (acts_of scope v rule).made
unfolding made_for ordering certifying with_heads logged with_links
rule_goes scope v (Offer h content) =
    record { rises = omega arith; of_epoch = one_of_epoch v.epoch _ refl }
rule_goes scope v (Order h content) =
    record { rises = omega arith; of_epoch = one_of_epoch v.epoch _ refl }
rule_goes scope v (Certificate h content) =
    record { rises = omega arith; of_epoch = All-nil (IsOf v.epoch) }
rule_goes scope v (Deliver h content) =
    record { rises = omega arith; of_epoch = one_of_epoch v.epoch _ refl }
rule_goes scope v (Log h content) =
    record { rises = omega arith; of_epoch = All-nil (IsOf v.epoch) }
rule_goes scope v (Attest p h n payload) =
    record { rises = omega arith; of_epoch = one_of_epoch v.epoch _ refl }

-- by each kind of record
body_goes : {S : Type 0} (scope : Scope S) (e : ℕ) (said : Body) (makers : List Tags) (v : View)
    → misplaced_body scope v e said ≡ None
    → GoesOn v (noted_body scope e said makers v) (acts_by_body scope v said makers).made
unfolding with_heads with_attests logged with_links entering
body_goes scope e (body.Filled kind.Offer h slot content) makers v is =
    record { rises = omega arith; of_epoch = All-nil (IsOf v.epoch) }
body_goes scope e (body.Filled kind.Order h slot content) makers v is =
    record { rises = by (v.me == h); of_epoch = All-nil (IsOf v.epoch) }
  where
    by : (b : Bool) → v.epoch ≤ (if b then at_desk h (with_orders content makers) v
        else at_desk h (with_certificate (quorum_at scope v.epoch h) content makers) v).epoch
    by true = omega arith
    by false = omega arith
body_goes scope e (body.Filled kind.Deliver h slot content) makers v is =
    record { rises = omega arith; of_epoch = All-nil (IsOf v.epoch) }
body_goes scope e (body.Attest p h n payload) makers v is =
    record { rises = omega arith; of_epoch = All-nil (IsOf v.epoch) }
body_goes scope e (body.Ask h slot) makers v is = record {
  rises = omega arith;
  of_epoch = aside_of_epoch v.epoch (acts_by_body scope v (body.Ask h slot) makers) (aside_answering scope v h slot makers);
}
body_goes scope e body.Wedge makers v is = record {
  rises = omega arith;
  of_epoch = aside_of_epoch v.epoch (acts_by_body scope v body.Wedge makers) (aside_reporting scope v);
}
body_goes scope e (body.Filled kind.Report h slot content) makers v is =
    record { rises = omega arith; of_epoch = All-nil (IsOf v.epoch) }
body_goes scope e (body.Frozen h slot) makers v is =
    record { rises = omega arith; of_epoch = All-nil (IsOf v.epoch) }
body_goes scope e (body.Open lengths) makers v is =
    let later = open_later scope v e lengths is in
    record { rises = omega (arith, later); of_epoch = All-nil (IsOf v.epoch) }
body_goes scope e (body.Filled kind.Inherit h slot content) makers v is =
    record { rises = omega arith; of_epoch = All-nil (IsOf v.epoch) }

-- by a record that isn't dropped
record_goes : {S : Type 0} (scope : Scope S) (v : View) (r : Record) → verdict scope v r ≡ None
    → GoesOn v (noted scope v r) (acts_by scope v r).made
unfolding verdict misplaced acts_by noted
record_goes scope v r is =
    let makers = accepted scope r.statement.epoch v.me r in
    body_goes scope r.statement.epoch r.statement.body makers v
    (or_none (misplaced_body scope v r.statement.epoch r.statement.body) (untagged makers) is).0

-- what is made in the epoch of the node is of no earlier one
since_goes : (since : ℕ) (older : List Entry) (g : ℕ) (ledger : List Entry) (v next : View) (made : List Statement)
    → GoesOn v next made → MadeSince since older g ledger v
    → MadeSince since older g (with_made g made ledger) next
since_goes since older g ledger v next made goes k = record {
  rises = let a = k.rises in let b = goes.rises in omega (arith, a, b);
  made = λ s has. elim (made_cases g made ledger g s has) [
    | inl old ↦ k.made s old
    | inr now ↦
        let is : s.epoch ≡ v.epoch = All-contains (IsOf v.epoch) made s goes.of_epoch now.1 in
        let a = k.rises in
        inr (omega (arith, is, a))
  ];
}

-- each step of a node keeps it
since_steps : {S : Type 0} (setting : Setting S) (since : ℕ → ℕ) (older : List Entry)
    → StepsKeep setting (λ g ledger v. MadeSince (since g) older g ledger v)
since_steps setting since older = record {
  beside = λ party made g ledger v ne k. record {
    rises = k.rises;
    made = λ s has. elim (made_cases party made ledger g s has) [ inl old ↦ k.made s old | inr now ↦ absurd (ne now.0) ];
  };
  rules = λ g ledger v rule is k.
      since_goes (since g) older g ledger v _ _ (rule_goes setting.scope v rule) k;
  records = λ g ledger v r read is true_makers k.
      since_goes (since g) older g ledger v _ _ (record_goes setting.scope v r is) k;
  inputs = λ g ledger v payload k. record { rises = k.rises; made = k.made };
  asking = λ g ledger v k.
      since_goes (since g) older g ledger v v (questions setting.scope v).made
      (record { rises = omega arith; of_epoch = aside_of_epoch v.epoch (questions setting.scope v) (aside_questions setting.scope v) }) k;
}

-- whatever events follow
pub leave_epochs : {S : Type 0} (setting : Setting S) → LeaveEpochs setting
leave_epochs setting events w next happen =
    worlds_keep setting (λ g ledger v. MadeSince (w.nodes g).epoch w.ledger g ledger v)
    (since_steps setting (λ g. (w.nodes g).epoch) w.ledger) w next events happen
    (λ g ne. record { rises = omega arith; made = λ s has. inl has })
