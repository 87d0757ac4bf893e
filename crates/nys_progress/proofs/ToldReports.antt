-- What a node that is wedged tells the Olympus is what its logs and votes are.
use Rattle.std.proofs.Common.{◌≡◌, ℕ, suc, ◌+◌, false, true, List, [], ◌∷◌, ◌++◌, map, filter, drop, Some, None, refl, ap, sym, subst, ◌∙◌, inl, inr, arith}
use Rattle.std.specs.Prelude.{All, Option, flat_map, option_map, slice_get}
use Rattle.std.specs.List.{enumerate_from}
use Rattle.std.specs.Option.{option_to_list}
use Rattle.std.proofs.lemmas.List.Elements.{All-append, All-cons, All-contains, All-map, All-nil}
use Rattle.nys_bytes.specs.declared.content.Content.{Content}
use Rattle.nys_agreement.proofs.ListLemmas.{get_drop}
use Rattle.nys_stmt.specs.declared.statement.Body.{Body}
use Rattle.nys_stmt.specs.declared.statement.Statement.{Statement}
use Rattle.nys_rules.specs.Asking.{all_hosts}
use Rattle.nys_rules.specs.Ending.{entry_reports, reporting, testimony, vote_report}
use Rattle.nys_rules.specs.Forged.{Entry, with_made}
use Rattle.nys_rules.specs.Sending.{said_in}
use Rattle.nys_rules.specs.View.{is_live, length_of, View}
use Rattle.nys_rules.specs.World.{Setting}
use Rattle.nys_laws.specs.Own.{KeepsOwn}
use Rattle.nys_laws.specs.Own.Stage.{Delivered}
use Rattle.nys_laws.proofs.LedgerLemmas.{made_before, made_cases}
use Rattle.nys_follows.proofs.ReportLemmas.{reports_made}
use Rattle.nys_progress.specs.Statements.{deliver, frozen, report}
use Rattle.nys_progress.proofs.ToldLemmas.{KeepsTold, room_more, Stands, voted_more}

-- a body that is what the log and the votes of the node are
record IsRight (ledger : List Entry) (g : ℕ) (v : View) (said : Body) : Type 0 where
  reports : (h slot : ℕ) (content : Content) → said ≡ report h slot content
      → Stands ledger g v.epoch h (v.logs h) slot content
  frozen : (h slot : ℕ) → said ≡ frozen h slot → slot ≡ v.voted_to h

-- a Report is
report_right : (ledger : List Entry) (g : ℕ) (v : View) (h slot : ℕ) (content : Content)
    → Stands ledger g v.epoch h (v.logs h) slot content → IsRight ledger g v (report h slot content)
report_right ledger g v h slot content stands = record {
  reports = λ k s c is.
      let a : h ≡ k = cc in
      let b : slot ≡ s = cc in
      let d : content ≡ c = cc in
      subst (λ x. Stands ledger g v.epoch x (v.logs x) s c) a
      (subst (λ x. Stands ledger g v.epoch h (v.logs h) x c) b
      (subst (λ x. Stands ledger g v.epoch h (v.logs h) slot x) d stands));
  frozen = λ k s is. absurd (cc);
}

-- a Frozen is
frozen_right : (ledger : List Entry) (g : ℕ) (v : View) (h : ℕ) → IsRight ledger g v (frozen h (v.voted_to h))
frozen_right ledger g v h = record {
  reports = λ k s c is. absurd (cc);
  frozen = λ k s is.
      let a : h ≡ k = cc in
      let b : v.voted_to h ≡ s = cc in
      sym b ∙ ap v.voted_to a;
}

-- what holds of each element with its place holds of the numbered list
all_numbered : {A : Type 0} (P : ℕ × A → Type 0) (n : ℕ) (xs : List A)
    → ((i : ℕ) (x : A) → slice_get xs i ≡ Some x → P (n + i, x)) → All P (enumerate_from n xs)
all_numbered P n [] each = All-nil P
all_numbered P n (x ∷ xs) each =
    let here : n + 0 ≡ n = omega arith in
    All-cons P (n, x) (enumerate_from (n + 1) xs) (subst (λ k. P (k, x)) here (each 0 x refl))
    (all_numbered P (n + 1) xs (λ i y is.
    let at : n + suc i ≡ n + 1 + i = omega arith in
    subst (λ k. P (k, y)) at (each (suc i) y is)))

-- what holds of all that a function gives holds of the whole
all_flat : {A B : Type 0} (P : B → Type 0) (f : A → List B) (xs : List A) → ((x : A) → All P (f x))
    → All P (flat_map f xs)
all_flat P f [] each = All-nil P
all_flat P f (x ∷ xs) each = All-append P (f x) (flat_map f xs) (each x) (all_flat P f xs each)

-- the vote that is kept
vote_right : (ledger : List Entry) (g : ℕ) (v : View) (h : ℕ) → KeepsOwn g ledger v
    → (vote : Option Content) → (v.desks h).delivered ≡ vote
    → All (IsRight ledger g v) (option_to_list (option_map (λ c. report h (length_of v h) c) vote))
vote_right ledger g v h own None is = All-nil (IsRight ledger g v)
vote_right ledger g v h own (Some c) is =
    All-cons (IsRight ledger g v) (report h (length_of v h) c) []
    (report_right ledger g v h (length_of v h) c (inr (refl, own.own.kept Delivered h c is)))
    (All-nil (IsRight ledger g v))

-- entries of the log, from a slot on
entries_right : (ledger : List Entry) (g : ℕ) (v : View) (h from : ℕ)
    → All (IsRight ledger g v) (map (λ (x : ℕ × Content). report h x.0 x.1) (enumerate_from from (drop from (v.logs h))))
entries_right ledger g v h from =
    All-map (IsRight ledger g v) (λ (x : ℕ × Content). report h x.0 x.1) (enumerate_from from (drop from (v.logs h)))
    (all_numbered (λ x. IsRight ledger g v (report h x.0 x.1)) from (drop from (v.logs h))
    (λ i c is. report_right ledger g v h (from + i) c (inl (sym (get_drop from (v.logs h) i) ∙ is))))

-- all that is told of a host
testimony_right : (ledger : List Entry) (g : ℕ) (v : View) (h : ℕ) → KeepsOwn g ledger v
    → All (IsRight ledger g v) (testimony v h)
unfolding testimony
testimony_right ledger g v h own =
    All-append Right (entry_reports v h) (vote_report v h ++ frozen h (v.voted_to h) ∷ [])
    (entries_right ledger g v h _)
    (All-append Right (vote_report v h) (frozen h (v.voted_to h) ∷ [])
    (vote_right ledger g v h own (v.desks h).delivered refl)
    (All-cons Right (frozen h (v.voted_to h)) [] (frozen_right ledger g v h) (All-nil Right)))
  where
    Right : Body → Type 0
    Right = IsRight ledger g v

-- the same of statements of the node's epoch
record SaysRight (ledger : List Entry) (g : ℕ) (v : View) (s : Statement) : Type 0 where
  reports : (h slot : ℕ) (content : Content) → s ≡ said_in v.epoch (report h slot content)
      → Stands ledger g v.epoch h (v.logs h) slot content
  frozen : (h slot : ℕ) → s ≡ said_in v.epoch (frozen h slot) → slot ≡ v.voted_to h

-- all that is told
reporting_right : {S : Type 0} (setting : Setting S) (ledger : List Entry) (g : ℕ) (v : View) → KeepsOwn g ledger v
    → All (SaysRight ledger g v) (reporting setting.scope v).made
reporting_right setting ledger g v own =
    let bodies = flat_map (testimony v) (filter (is_live setting.scope v) all_hosts) in
    subst (All (SaysRight ledger g v)) (sym (reports_made setting v).0)
    (All-map (SaysRight ledger g v) (said_in v.epoch) bodies
    (λ i d within.
    let right = all_flat (IsRight ledger g v) (testimony v) (filter (is_live setting.scope v) all_hosts)
    (λ h. testimony_right ledger g v h own) i d within in
    record {
      reports = λ h slot content is. right.reports h slot content (ap (λ (s : Statement). s.body) is);
      frozen = λ h slot is. right.frozen h slot (ap (λ (s : Statement). s.body) is);
    }))

-- a node that isn't wedged hears that its epoch ends
pub wedge_told : {S : Type 0} (setting : Setting S) (g : ℕ) (ledger : List Entry) (v : View) → v.wedged ≡ false
    → KeepsOwn g ledger v → KeepsTold g ledger v
    → KeepsTold g (with_made g (reporting setting.scope v).made ledger) (record v { wedged = true })
wedge_told {S} setting g ledger v awake own k = record {
  quiet = λ is. absurd (cc);
  told = λ is. record {
    reports = λ h slot content has.
        elim (made_cases g made ledger g (said_in v.epoch (report h slot content)) has) [
          | inl old ↦ absurd ((k.quiet awake).reports h slot content old)
          | inr new ↦
              let says = All-contains (SaysRight ledger g v) made (said_in v.epoch (report h slot content)) right new.1 in
              elim (says.reports h slot content refl) [
                | inl entry ↦ inl entry
                | inr vote ↦ inr (vote.0, made_before g made ledger g (said_in v.epoch (deliver h slot content)) vote.1)
              ]
        ];
    frozen = λ h slot has. elim (made_cases g made ledger g (said_in v.epoch (frozen h slot)) has) [
      | inl old ↦ absurd ((k.quiet awake).frozen h slot old)
      | inr new ↦
          let says = All-contains (SaysRight ledger g v) made (said_in v.epoch (frozen h slot)) right new.1 in
          says.frozen h slot refl
    ];
  };
  voted = λ h. voted_more g made ledger g v.epoch h (v.base h) (length_of v h) (v.voted_to h) (k.voted h);
  room = λ h. room_more g made ledger h (length_of v h) (k.room h);
}
  where
    made : List Statement
    made = (reporting setting.scope v).made

    right : All (SaysRight ledger g v) made
    right = reporting_right setting ledger g v own
