-- A view goes on to keep of makers only what some test of them passed, whichever rule it takes and whatever it
-- notes: the test holds of what the node makes itself and of the makers of each record that it notes.
use Rattle.std.proofs.Common.{◌≡◌, ℕ, ◌+◌, ◌==◌, Bool, true, false, ℤ, List, [], ◌∷◌, ◌++◌, length, Some, None, sym, subst, inl, inr}
use Rattle.std.specs.Prelude.{Contains, Option, if◌then◌else◌}
use Rattle.std.proofs.lemmas.Bool.Decides.{Decides-eqb}
use Rattle.nys_bytes.specs.declared.content.Content.{Content}
use Rattle.nys_agreement.proofs.TableLemmas.{put_at_case, put_case, put_there}
use Rattle.nys_source.specs.Tables.{put, put_at}
use Rattle.nys_stmt.specs.declared.statement.Body.{Body}
use Rattle.nys_stmt.specs.declared.statement.Body.TheVariants as body
use Rattle.nys_stmt.specs.declared.statement.FilledKind.TheVariants as kind
use Rattle.nys_stmt.specs.declared.statement.Statement.{Statement}
use Rattle.nys_stmt.specs.declared.tags.Tags.{Tags}
use Rattle.nys_votes.specs.Seats.{seat_of}
use Rattle.nys_rules.specs.declared.rule.Rule.{Rule}
use Rattle.nys_rules.specs.declared.rule.Rule.TheVariants.{Offer, Order, Certificate, Deliver, Log, Attest}
use Rattle.nys_rules.specs.Dropping.{attest_drop, misplaced_body, permits}
use Rattle.nys_rules.specs.Heads.{with_heads}
use Rattle.nys_rules.specs.Logging.{logged, with_entry}
use Rattle.nys_rules.specs.Noting.{at_desk, bases, hearing, noted_body, retirements, with_attests, with_certificate, with_held, with_orders, with_votes}
use Rattle.nys_rules.specs.Rules.{Enabled}
use Rattle.nys_rules.specs.Scope.{quorum_at, Scope}
use Rattle.nys_rules.specs.Sending.{said_in}
use Rattle.nys_rules.specs.Taking.{own_tags, taken, with_deliver, with_kept, with_offer, with_order, with_sent}
use Rattle.nys_rules.specs.View.{Desk, empty_desk, entering, length_of, View, with_links}
use Rattle.nys_rules.proofs.SeatCases.{hearing_case}
use Rattle.nys_laws.specs.Heard.{IsTrueDesk}
use Rattle.nys_laws.specs.Own.{body_at, Stage}
use Rattle.nys_laws.specs.Own.Stage.{Offered, Ordered, Delivered}
use Rattle.nys_laws.proofs.DeskLemmas.{AllSaid, certificate_true, deliver_true, empty_true, held_true, no_seat, offer_true, order_true, orders_true, sent_true, votes_true, Words}
use Rattle.nys_laws.proofs.HeardLemmas.{current_is, vote_is}
use Rattle.nys_laws.proofs.ViewLemmas.{offer_by_host, offer_new}

-- a test of a maker and its statement
abbrev pub Test : Type 1
Test = ℕ → Statement → Type 0

-- what a desk of h may keep: each maker's statement of the open slot passes
abbrev pub passing_at : Test → View → (h : ℕ) → Words
passing_at Passes v h = λ stage m content. Passes m (said_in v.epoch (body_at stage h (length_of v h) content))

-- all that the view keeps of makers passed
pub record KeepsPassed (Passes : Test) (v : View) : Type 0 where
  -- votes, collected orders and held offers
  pub desks : (h : ℕ) → IsTrueDesk (passing_at Passes v h) h (v.desks h)
  -- attestations
  pub heard : (p h k m : ℕ) (payload : List ℤ) → seat_of (v.heard p h k) m ≡ Some payload
      → Passes m (said_in v.epoch (body.Attest p h k payload))

-- a desk that changes and passes
desk_passed : (Passes : Test) (h : ℕ) (change : Desk → Desk) (v : View)
    → (IsTrueDesk (passing_at Passes v h) h (v.desks h) → IsTrueDesk (passing_at Passes v h) h (change (v.desks h)))
    → KeepsPassed Passes v → KeepsPassed Passes (at_desk h change v)
desk_passed Passes h change v keeps k = record {
  desks = λ x.
      put_case (IsTrueDesk (passing_at Passes v x) x) v.desks h (change (v.desks h)) x
      (λ e. subst (λ y. IsTrueDesk (passing_at Passes v y) y (change (v.desks h))) (sym e) (keeps (k.desks h)))
      (λ ne. k.desks x);
  heard = k.heard;
}

-- a log that grows, behind which the desk is empty
logged_passed : {S : Type 0} (scope : Scope S) (Passes : Test) (h : ℕ) (content : Content) (v : View)
    → KeepsPassed Passes v → KeepsPassed Passes (logged scope h content v)
unfolding logged with_heads with_links
logged_passed scope Passes h content v k = record {
  desks = λ x.
      put_case (IsTrueDesk (passing_at Passes (with_entry h content v) x) x) v.desks h empty_desk x
      (λ e. empty_true (passing_at Passes (with_entry h content v) x) x)
      (λ ne.
      subst
      (λ (log : List Content). IsTrueDesk
      (λ stage m c. Passes m (said_in v.epoch (body_at stage x (length log) c))) x (v.desks x))
      (sym (put_there v.logs h (v.logs h ++ content ∷ []) x ne)) (k.desks x));
  heard = k.heard;
}

-- an epoch that begins
pub entering_passed : {S : Type 0} (scope : Scope S) (Passes : Test) (e : ℕ) (base : ℕ → ℕ) (retired : ℕ → Bool)
    (v : View) → KeepsPassed Passes (entering scope e base retired v)
unfolding entering with_links
entering_passed scope Passes e base retired v = record {
  desks = λ h. empty_true (λ stage m c. Passes m (said_in e (body_at stage h (length_of v h) c))) h;
  heard = λ p h n m payload is. absurd (no_seat m payload is);
}

-- each rule that is enabled, where all that the node makes itself passes
pub enabled_passed : {S : Type 0} (scope : Scope S) (Passes : Test) (v : View) (rule : Rule)
    → Enabled scope v rule → ((s : Statement) → Passes v.me s) → KeepsPassed Passes v
    → KeepsPassed Passes (taken scope v rule)
unfolding with_heads
enabled_passed scope Passes v (Offer h content) e own k =
    let s = said_in v.epoch (body.Filled kind.Offer h (length_of v h) content) in
    desk_passed Passes h (with_offer content) v
    (offer_true (passing_at Passes v h) h content (v.desks h) (offer_new scope v h content e)
    (subst (λ m. Passes m s) (offer_by_host scope v h content e) (own s))) k
enabled_passed scope Passes v (Order h content) e own k =
    let tags = own_tags scope v h (body.Filled kind.Order h (length_of v h) content) in
    desk_passed Passes h (with_order (v.me == h) v.me content tags) v
    (order_true (passing_at Passes v h) h (v.me == h) v.me content tags (v.desks h) (own _)) k
enabled_passed scope Passes v (Certificate h content) e own k =
    desk_passed Passes h with_sent v (sent_true (passing_at Passes v h) h (v.desks h)) k
enabled_passed scope Passes v (Deliver h content) e own k =
    let tags = own_tags scope v h (body.Filled kind.Deliver h (length_of v h) content) in
    desk_passed Passes h (with_deliver v.me content tags)
    (record v { voted_to = put v.voted_to h (length_of v h + 1) })
    (deliver_true (passing_at Passes v h) h v.me content tags (v.desks h) (own _))
    (record { desks = k.desks; heard = k.heard })
enabled_passed scope Passes v (Log h content) e own k =
    logged_passed scope Passes h content (with_kept h content v) (record { desks = k.desks; heard = k.heard })
enabled_passed scope Passes v (Attest p h n payload) e own k = record { desks = k.desks; heard = k.heard }

-- the makers of a statement that a node notes: there is one, each may say it, and each passes
pub record ArePassed {S : Type 0} (scope : Scope S) (Passes : Test) (e : ℕ) (said : Body) (makers : List Tags) : Type 0 where
  pub some : (t : Tags) × Contains makers t
  pub permitted : (t : Tags) → Contains makers t → permits scope e said t.maker ≡ true
  pub passed : (t : Tags) → Contains makers t → Passes t.maker (said_in e said)

-- the makers of a vote said it of the open slot
votes_passed : {S : Type 0} (scope : Scope S) (Passes : Test) (v : View) (stage : Stage) (e h slot : ℕ) (content : Content)
    (makers : List Tags) → (e ≡ v.epoch) × (slot ≡ length_of v h)
    → ArePassed scope Passes e (body_at stage h slot content) makers
    → AllSaid (passing_at Passes v h) stage content makers
votes_passed scope Passes v stage e h slot content makers is some t among =
    subst (λ d. Passes t.maker (said_in d (body_at stage h (length_of v h) content))) is.0
    (subst (λ s. Passes t.maker (said_in e (body_at stage h s content))) is.1 (some.passed t among))

-- attestations that are heard
attests_passed : (Passes : Test) (v : View) (p h n : ℕ) (payload : List ℤ) (makers : List Tags)
    → ((t : Tags) → Contains makers t → Passes t.maker (said_in v.epoch (body.Attest p h n payload)))
    → KeepsPassed Passes v → KeepsPassed Passes (with_attests p h n payload makers v)
unfolding with_attests
attests_passed Passes v p h n payload makers said k = record {
  desks = k.desks;
  heard = λ x y z.
      put_case (λ (f : ℕ → ℕ → List (Option (List ℤ))). Holds x y z (f y z)) v.heard p
      (put_at (v.heard p) h n (hearing payload makers (v.heard p h n))) x
      (λ e.
      put_at_case (Holds x y z) (v.heard p) h n (hearing payload makers (v.heard p h n)) y z
      (λ a b.
      subst (λ i. Holds i y z (hearing payload makers (v.heard p h n))) (sym e)
      (subst (λ i. Holds p i z (hearing payload makers (v.heard p h n))) (sym a)
      (subst (λ i. Holds p h i (hearing payload makers (v.heard p h n))) (sym b) new)))
      (λ other. subst (λ i. Holds x y z (v.heard i y z)) e (k.heard x y z)))
      (λ ne. k.heard x y z);
}
  where
    Holds : (x y z : ℕ) → List (Option (List ℤ)) → Type 0
    Holds x y z seats = (m : ℕ) (told : List ℤ) → seat_of seats m ≡ Some told
        → Passes m (said_in v.epoch (body.Attest x y z told))

    new : Holds p h n (hearing payload makers (v.heard p h n))
    new m told is = elim (hearing_case payload makers (v.heard p h n) m told is) [
      | inl old ↦ k.heard p h n m told old
      | inr now ↦
          subst (λ y. Passes m (said_in v.epoch (body.Attest p h n y))) now.3
          (subst (λ x. Passes x (said_in v.epoch (body.Attest p h n payload))) now.2 (said now.0 now.1))
    ]

-- heads that are recorded
heads_passed : {S : Type 0} (scope : Scope S) (Passes : Test) (h : ℕ) (v : View)
    → KeepsPassed Passes v → KeepsPassed Passes (with_heads scope h v)
unfolding with_heads
heads_passed scope Passes h v k = record { desks = k.desks; heard = k.heard }

-- each kind of record
pub noted_passed : {S : Type 0} (scope : Scope S) (Passes : Test) (e : ℕ) (said : Body) (makers : List Tags) (v : View)
    → misplaced_body scope v e said ≡ None → ArePassed scope Passes e said makers
    → KeepsPassed Passes v → KeepsPassed Passes (noted_body scope e said makers v)
noted_passed scope Passes e (body.Filled kind.Offer h slot content) makers v is some k =
    let at = vote_is scope v e h slot is in
    let t = some.some in
    let maker_is = (Decides-eqb t.0.maker h).0 (some.permitted t.0 t.1) in
    let was = votes_passed scope Passes v Offered e h slot content makers at some t.0 t.1 in
    desk_passed Passes h (with_held content) v
    (held_true (passing_at Passes v h) h content (v.desks h)
    (subst (λ m. passing_at Passes v h Offered m content) maker_is was)) k
noted_passed {S} scope Passes e (body.Filled kind.Order h slot content) makers v is some k = by (v.me == h)
  where
    by : (b : Bool)
        → KeepsPassed Passes (if b then at_desk h (with_orders content makers) v
        else at_desk h (with_certificate (quorum_at scope v.epoch h) content makers) v)
    by true = desk_passed Passes h (with_orders content makers) v
        (orders_true (passing_at Passes v h) h content makers (v.desks h)
        (votes_passed scope Passes v Ordered e h slot content makers (vote_is scope v e h slot is) some)) k
    by false = desk_passed Passes h (with_certificate (quorum_at scope v.epoch h) content makers) v
        (certificate_true (passing_at Passes v h) h (quorum_at scope v.epoch h) content makers (v.desks h)) k
noted_passed scope Passes e (body.Filled kind.Deliver h slot content) makers v is some k =
    desk_passed Passes h (with_votes content makers) v
    (votes_true (passing_at Passes v h) h content makers (v.desks h)
    (votes_passed scope Passes v Delivered e h slot content makers (vote_is scope v e h slot is) some)) k
noted_passed scope Passes e (body.Attest p h n payload) makers v is some k =
    let at = (current_is v e (attest_drop scope v p h n) is).0 in
    heads_passed scope Passes h (with_attests p h n payload makers v)
    (attests_passed Passes v p h n payload makers
    (λ t among. subst (λ d. Passes t.maker (said_in d (body.Attest p h n payload))) at (some.passed t among)) k)
noted_passed scope Passes e (body.Ask h slot) makers v is some k = k
noted_passed scope Passes e body.Wedge makers v is some k = record { desks = k.desks; heard = k.heard }
noted_passed scope Passes e (body.Filled kind.Report h slot content) makers v is some k = k
noted_passed scope Passes e (body.Frozen h slot) makers v is some k = k
noted_passed scope Passes e (body.Open lengths) makers v is some k =
    entering_passed scope Passes e (bases lengths) (retirements lengths) v
noted_passed scope Passes e (body.Filled kind.Inherit h slot content) makers v is some k =
    logged_passed scope Passes h content v k
