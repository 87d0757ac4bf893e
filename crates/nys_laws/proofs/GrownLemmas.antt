-- Steps of a node in a world: two steps, one after the other, are one step that does both. Logs only grow
-- while a node settles, so each entry is run as it was logged.
use Rattle.std.proofs.Common.{◌≡◌, ℕ, ◌+◌, ◌==◌, Bool, true, false, List, [], ◌∷◌, ◌++◌, length, map, Some, None, Ok, refl, ap, sym, subst, ◌∙◌, inl, inr, append-nil}
use Rattle.std.specs.Prelude.{All, Option, filter, flat_map, fold, if◌then◌else◌, nat_lt, slice_get}
use Rattle.std.proofs.Math.Path.{fun_ext}
use Rattle.std.proofs.lemmas.Bool.{cases_eq}
use Rattle.std.proofs.lemmas.List.{append_assoc, map-append}
use Rattle.std.proofs.lemmas.List.Elements.{All-cons, All-head, All-nil, All-tail}
use Rattle.nys_agreement.proofs.ListLemmas.{append_some}
use Rattle.nys_agreement.proofs.TableLemmas.{put_case, put_here, put_there}
use Rattle.nys_agreement.specs.Alone.{step_of}
use Rattle.nys_bytes.specs.declared.content.Content.{Content}
use Rattle.nys_source.specs.Tables.{put}
use Rattle.nys_source.specs.declared.step.Step.{Step}
use Rattle.nys_stmt.specs.declared.records.Record.{Record}
use Rattle.nys_stmt.specs.declared.statement.Body.{Body}
use Rattle.nys_stmt.specs.declared.statement.Body.TheVariants as body
use Rattle.nys_stmt.specs.declared.statement.FilledKind.TheVariants as kind
use Rattle.nys_stmt.specs.declared.statement.Statement.{Statement}
use Rattle.nys_stmt.specs.declared.tags.Tags.{Tags}
use Rattle.nys_rules.specs.declared.rule.Rule.{Rule}
use Rattle.nys_rules.specs.declared.rule.Rule.TheVariants.{Offer, Order, Certificate, Deliver, Log, Attest}
use Rattle.nys_rules.specs.Asking.{answering, asked_hosts, questions}
use Rattle.nys_rules.specs.Dropping.{accepted}
use Rattle.nys_rules.specs.Ending.{reporting, testimony}
use Rattle.nys_rules.specs.Asking.{all_hosts}
use Rattle.nys_rules.specs.Forged.{Entry, with_made}
use Rattle.nys_rules.specs.Handling.{acts_by, acts_by_body}
use Rattle.nys_rules.specs.Heads.{with_heads}
use Rattle.nys_rules.specs.Logging.{logged}
use Rattle.nys_rules.specs.Noting.{at_desk, noted, noted_body, with_attests, with_certificate, with_orders}
use Rattle.nys_rules.specs.Packets.{Acts, all_joined, Done, joined, nothing, Sent}
use Rattle.nys_rules.specs.Scope.{quorum_at, Scope}
use Rattle.nys_rules.specs.Sending.{made_for, to_guards, to_olympus}
use Rattle.nys_rules.specs.Settling.{Settles}
use Rattle.nys_rules.specs.Taking.{acts_of, certifying, ordering, taken}
use Rattle.nys_rules.specs.View.{entering, is_live, length_of, View, with_links}
use Rattle.nys_rules.specs.World.{after_node, with_grown, with_slot, World}
use Rattle.nys_rules.proofs.WorldFrames.{after_node_ok, grown_frame, with_acted}

-- the world in which a node has a new view and did these things
abbrev pub with_step : ℕ → View → Acts → World → World
with_step g v acts w = record w {
  nodes = put w.nodes g v;
  ledger = with_made g acts.made w.ledger;
  pool = w.pool ++ acts.packets;
  longest = (with_grown v acts.grew w).longest;
  run = (with_grown v acts.grew w).run;
}

-- what holds of each value of a function holds of all that it gives
pub each_given : {A B : Type 0} (P : B → Type 0) (f : A → B) (xs : List A) → ((x : A) → P (f x))
    → All P (map f xs)
each_given P f [] each = All-nil P
each_given P f (x ∷ xs) each = All-cons P (f x) (map f xs) (each x) (each_given P f xs each)

-- a fact of acts that both of two joined acts have
pub record JoinsKeep (P : Acts → Type 0) : Type 0 where
  pub none : P nothing
  pub both : (a b : Acts) → P a → P b → P (joined a b)

-- all of them, behind others
folded_keep : (P : Acts → Type 0) → JoinsKeep P → (before : Acts) (parts : List Acts) → P before → All P parts
    → P (fold joined before parts)
folded_keep P keep before [] first rest = first
folded_keep P keep before (part ∷ parts) first rest =
    folded_keep P keep (joined before part) parts (keep.both before part first (All-head P part parts rest))
    (All-tail P part parts rest)

-- acts that each have the fact have it together
pub all_keep : (P : Acts → Type 0) → JoinsKeep P → (parts : List Acts) → All P parts → P (all_joined parts)
all_keep P keep parts each = folded_keep P keep nothing parts keep.none each

-- each entry of a log stands in the later view too
abbrev pub Stays : View → View → Type 0
Stays v next = (h s : ℕ) (c : Content) → slice_get (v.logs h) s ≡ Some c → slice_get (next.logs h) s ≡ Some c

-- a log that takes a content
entry_stays : (logs : ℕ → List Content) (h : ℕ) (content : Content) (x s : ℕ) (c : Content)
    → slice_get (logs x) s ≡ Some c → slice_get (put logs h (logs h ++ content ∷ []) x) s ≡ Some c
entry_stays logs h content x s c is =
    put_case (λ log. slice_get log s ≡ Some c) logs h (logs h ++ content ∷ []) x
    (λ e. append_some (logs h) (content ∷ []) s c (subst (λ y. slice_get (logs y) s ≡ Some c) e is)) (λ ne. is)

-- by each rule
pub taken_stays : {S : Type 0} (scope : Scope S) (v : View) (rule : Rule) → Stays v (taken scope v rule)
unfolding logged with_heads with_links
taken_stays scope v (Offer h content) x s c is = is
taken_stays scope v (Order h content) x s c is = is
taken_stays scope v (Certificate h content) x s c is = is
taken_stays scope v (Deliver h content) x s c is = is
taken_stays scope v (Log h content) x s c is = entry_stays v.logs h content x s c is
taken_stays scope v (Attest p h k payload) x s c is = is

-- by each kind of record
body_stays : {S : Type 0} (scope : Scope S) (e : ℕ) (said : Body) (makers : List Tags) (v : View)
    → Stays v (noted_body scope e said makers v)
unfolding logged with_heads with_links with_attests entering
body_stays scope e (body.Filled kind.Offer h slot content) makers v x s c is = is
body_stays scope e (body.Filled kind.Order h slot content) makers v x s c is = by (v.me == h)
  where
    by : (b : Bool) → slice_get ((if b then at_desk h (with_orders content makers) v
        else at_desk h (with_certificate (quorum_at scope v.epoch h) content makers) v).logs x) s ≡ Some c
    by true = is
    by false = is
body_stays scope e (body.Filled kind.Deliver h slot content) makers v x s c is = is
body_stays scope e (body.Attest p h k payload) makers v x s c is = is
body_stays scope e (body.Ask h slot) makers v x s c is = is
body_stays scope e body.Wedge makers v x s c is = is
body_stays scope e (body.Filled kind.Report h slot content) makers v x s c is = is
body_stays scope e (body.Frozen h slot) makers v x s c is = is
body_stays scope e (body.Open lengths) makers v x s c is = is
body_stays scope e (body.Filled kind.Inherit h slot content) makers v x s c is = entry_stays v.logs h content x s c is

-- by a record
pub noted_stays : {S : Type 0} (scope : Scope S) (v : View) (r : Record) → Stays v (noted scope v r)
unfolding noted
noted_stays scope v r =
    body_stays scope r.statement.epoch r.statement.body (accepted scope r.statement.epoch v.me r) v

-- by settling
pub settles_stay : {S : Type 0} (scope : Scope S) (v : View) (rules : List Rule) (after : View) (acts : Acts)
    → Settles scope v rules after acts → Stays v after
settles_stay scope v [] after acts settles h s c is = subst (λ x. slice_get (x.logs h) s ≡ Some c) (sym settles.1) is
settles_stay scope v (rule ∷ rules) after acts settles h s c is =
    settles_stay scope (taken scope v rule) rules after settles.1.0 settles.1.1 h s c (taken_stays scope v rule h s c is)

-- the view has each slot that was logged
abbrev pub HasSlots : View → List (ℕ × ℕ) → Type 0
HasSlots v grew = All (λ (x : ℕ × ℕ). (c : Content) × (slice_get (v.logs x.0) x.1 ≡ Some c)) grew

-- of no slot
pub no_slots : (v : View) → HasSlots v []
no_slots v = All-nil (λ (x : ℕ × ℕ). (c : Content) × (slice_get (v.logs x.0) x.1 ≡ Some c))

-- what is put at the end of a list stands there
pushed_get : {A : Type 0} (xs : List A) (x : A) → slice_get (xs ++ x ∷ []) (length xs) ≡ Some x
pushed_get [] x = refl
pushed_get (y ∷ xs) x = pushed_get xs x

-- of the slot that a log took
entry_slots : (v : View) (logs : ℕ → List Content) (h : ℕ) (content : Content)
    → v.logs ≡ put logs h (logs h ++ content ∷ []) → HasSlots v ((h, length (logs h)) ∷ [])
entry_slots v logs h content is =
    All-cons (λ (x : ℕ × ℕ). (c : Content) × (slice_get (v.logs x.0) x.1 ≡ Some c)) (h, length (logs h)) [] (
      content,
      ap (λ (f : ℕ → List Content). slice_get (f h) (length (logs h))) is
          ∙ ap (λ log. slice_get log (length (logs h))) (put_here logs h (logs h ++ content ∷ []))
          ∙ pushed_get (logs h) content,
    ) (no_slots v)

-- by each rule
pub taken_slots : {S : Type 0} (scope : Scope S) (v : View) (rule : Rule)
    → HasSlots (taken scope v rule) (acts_of scope v rule).grew
unfolding made_for ordering certifying logged with_heads with_links
taken_slots scope v (Offer h content) = no_slots (taken scope v (Offer h content))
taken_slots scope v (Order h content) = no_slots (taken scope v (Order h content))
taken_slots scope v (Certificate h content) = no_slots (taken scope v (Certificate h content))
taken_slots scope v (Deliver h content) = no_slots (taken scope v (Deliver h content))
taken_slots scope v (Log h content) = entry_slots (taken scope v (Log h content)) v.logs h content refl
taken_slots scope v (Attest p h k payload) = no_slots (taken scope v (Attest p h k payload))

-- acts by which nothing is logged
abbrev LogsNothing : Acts → Type 0
LogsNothing acts = acts.grew ≡ []

-- several together
nothing_joins : JoinsKeep LogsNothing
nothing_joins = record { none = refl; both = λ a b p q. ap (λ xs. xs ++ b.grew) p ∙ q }

-- reports
reporting_logs : {S : Type 0} (scope : Scope S) (v : View) → LogsNothing (reporting scope v)
unfolding reporting made_for
reporting_logs scope v =
    let bodies = flat_map (testimony v) (filter (is_live scope v) all_hosts) in
    all_keep LogsNothing nothing_joins (map (to_olympus scope v) bodies)
    (each_given LogsNothing (to_olympus scope v) bodies (λ said. refl))

-- questions
questions_log : {S : Type 0} (scope : Scope S) (v : View) → LogsNothing (questions scope v)
unfolding questions made_for
questions_log {S} scope v = by v.wedged
  where
    ask : ℕ → Acts
    ask h = to_guards scope v h (body.Ask h (length_of v h))

    by : (b : Bool) → LogsNothing (if b then nothing else all_joined (map ask (asked_hosts scope v)))
    by true = refl
    by false = all_keep LogsNothing nothing_joins (map ask (asked_hosts scope v))
        (each_given LogsNothing ask (asked_hosts scope v) (λ h. refl))

-- questions log nothing
pub questions_slots : {S : Type 0} (scope : Scope S) (v : View) → HasSlots v (questions scope v).grew
questions_slots scope v = subst (HasSlots v) (sym (questions_log scope v)) (no_slots v)

-- by each kind of record
body_slots : {S : Type 0} (scope : Scope S) (e : ℕ) (said : Body) (makers : List Tags) (v : View)
    → HasSlots (noted_body scope e said makers v) (acts_by_body scope v said makers).grew
unfolding answering logged with_heads with_links
body_slots scope e (body.Filled kind.Offer h slot content) makers v = no_slots (noted_body scope e (body.Filled kind.Offer h slot content) makers v)
body_slots scope e (body.Filled kind.Order h slot content) makers v = no_slots (noted_body scope e (body.Filled kind.Order h slot content) makers v)
body_slots scope e (body.Filled kind.Deliver h slot content) makers v = no_slots (noted_body scope e (body.Filled kind.Deliver h slot content) makers v)
body_slots scope e (body.Attest p h k payload) makers v = no_slots (noted_body scope e (body.Attest p h k payload) makers v)
body_slots scope e (body.Ask h slot) makers v = no_slots (noted_body scope e (body.Ask h slot) makers v)
body_slots scope e body.Wedge makers v =
    subst (HasSlots (noted_body scope e body.Wedge makers v)) (sym (reporting_logs scope v))
    (no_slots (noted_body scope e body.Wedge makers v))
body_slots scope e (body.Filled kind.Report h slot content) makers v = no_slots (noted_body scope e (body.Filled kind.Report h slot content) makers v)
body_slots scope e (body.Frozen h slot) makers v = no_slots (noted_body scope e (body.Frozen h slot) makers v)
body_slots scope e (body.Open lengths) makers v = no_slots (noted_body scope e (body.Open lengths) makers v)
body_slots scope e (body.Filled kind.Inherit h slot content) makers v =
    entry_slots (noted_body scope e (body.Filled kind.Inherit h slot content) makers v) v.logs h content refl

-- by a record
pub noted_slots : {S : Type 0} (scope : Scope S) (v : View) (r : Record)
    → HasSlots (noted scope v r) (acts_by scope v r).grew
unfolding noted acts_by
noted_slots scope v r =
    body_slots scope r.statement.epoch r.statement.body (accepted scope r.statement.epoch v.me r) v

-- slots that are logged run the same whatever stands beside the run
slot_beside : (h slot : ℕ) (entry : Option Content) (w : World) (nodes : ℕ → View) (ledger : List Entry) (pool : List Sent)
    → with_slot h slot entry (record w { nodes = nodes; ledger = ledger; pool = pool })
    ≡ record (with_slot h slot entry w) { nodes = nodes; ledger = ledger; pool = pool }
slot_beside h slot None w nodes ledger pool = refl
slot_beside h slot (Some content) w nodes ledger pool = by (nat_lt slot (w.longest h))
  where
    grown : World → World
    grown x = record x { longest = put x.longest h (slot + 1); run = x.run ++ step_of h content ∷ [] }

    by : (b : Bool) → (if b then (record w { nodes = nodes; ledger = ledger; pool = pool })
        else grown (record w { nodes = nodes; ledger = ledger; pool = pool }))
        ≡ record (if b then w else grown w) { nodes = nodes; ledger = ledger; pool = pool }
    by true = refl
    by false = refl

-- so do several
pub grown_beside : (v : View) (grew : List (ℕ × ℕ)) (w : World) (nodes : ℕ → View) (ledger : List Entry) (pool : List Sent)
    → with_grown v grew (record w { nodes = nodes; ledger = ledger; pool = pool })
    ≡ record (with_grown v grew w) { nodes = nodes; ledger = ledger; pool = pool }
grown_beside v [] w nodes ledger pool = refl
grown_beside v (x ∷ grew) w nodes ledger pool =
    let entry = slice_get (v.logs x.0) x.1 in
    ap (with_grown v grew) (slot_beside x.0 x.1 entry w nodes ledger pool)
    ∙ grown_beside v grew (with_slot x.0 x.1 entry w) nodes ledger pool

-- some slots, then others
grown_twice : (v : View) (a b : List (ℕ × ℕ)) (w : World) → with_grown v (a ++ b) w ≡ with_grown v b (with_grown v a w)
grown_twice v [] b w = refl
grown_twice v (x ∷ a) b w = grown_twice v a b (with_slot x.0 x.1 (slice_get (v.logs x.0) x.1) w)

-- slots run the same by a later view
grown_stays : (v next : View) (grew : List (ℕ × ℕ)) (w : World) → Stays v next → HasSlots v grew
    → with_grown next grew w ≡ with_grown v grew w
grown_stays v next [] w stays has = refl
grown_stays v next (x ∷ grew) w stays has =
    let P = λ (x : ℕ × ℕ). (c : Content) × (slice_get (v.logs x.0) x.1 ≡ Some c) in
    let here = All-head P x grew has in
    let same : slice_get (next.logs x.0) x.1 ≡ slice_get (v.logs x.0) x.1 =
    stays x.0 x.1 here.0 here.1 ∙ sym here.1 in
    ap (λ entry. with_grown next grew (with_slot x.0 x.1 entry w)) same
    ∙ grown_stays v next grew (with_slot x.0 x.1 (slice_get (v.logs x.0) x.1) w) stays (All-tail P x grew has)

-- what a party makes by two acts it makes one after the other
pub made_two : (g : ℕ) (a b : List Statement) (ledger : List Entry)
    → with_made g (a ++ b) ledger ≡ with_made g b (with_made g a ledger)
made_two g a b ledger =
    ap (λ more. ledger ++ more) (map-append entry a b) ∙ sym (append_assoc ledger (map entry a) (map entry b))
  where
    entry : Statement → Entry
    entry s = record { party = g; statement = s }

-- a node that changes twice has the later view
put_twice : {A : Type 0} (f : ℕ → A) (at : ℕ) (a b : A) → put (put f at a) at b ≡ put f at b
put_twice f at a b = fun_ext (λ x. elim (cases_eq x at) [
  | inl here ↦ put_same x here
  | inr there ↦ put_there (put f at a) at b x there ∙ put_there f at a x there ∙ sym (put_there f at b x there)
])
  where
    put_same : (x : ℕ) → x ≡ at → put (put f at a) at b x ≡ put f at b x
    put_same x here =
        ap (put (put f at a) at b) here ∙ put_here (put f at a) at b ∙ sym (put_here f at b) ∙ ap (put f at b) (sym here)

-- a node that keeps its view
put_old : {A : Type 0} (f : ℕ → A) (at : ℕ) (a : A) → f at ≡ a → put f at a ≡ f
put_old f at a is = fun_ext (λ x. put_case (λ y. y ≡ f x) f at a x (λ here. sym is ∙ ap f (sym here)) (λ there. refl))

-- worlds that agree in what steps change
same_parts : (w : World) (n m : ℕ → View) (l k : List Entry) (p q : List Sent) (a b : ℕ → ℕ) (r s : List Step)
    → n ≡ m → l ≡ k → p ≡ q → a ≡ b → r ≡ s
    → ◌≡◌ {A = World} (record w { nodes = n; ledger = l; pool = p; longest = a; run = r })
    (record w { nodes = m; ledger = k; pool = q; longest = b; run = s })
same_parts w n m l k p q a b r s en el ep ea er =
    ap (λ x. record w { nodes = x; ledger = l; pool = p; longest = a; run = r }) en
    ∙ ap (λ x. record w { nodes = m; ledger = x; pool = p; longest = a; run = r }) el
    ∙ ap (λ x. record w { nodes = m; ledger = k; pool = x; longest = a; run = r }) ep
    ∙ ap (λ x. record w { nodes = m; ledger = k; pool = q; longest = x; run = r }) ea
    ∙ ap (λ x. record w { nodes = m; ledger = k; pool = q; longest = b; run = x }) er

-- two steps of a node are one
pub two_steps : (g : ℕ) (mid after : View) (first rest : Acts) (w : World) → Stays mid after → HasSlots mid first.grew
    → with_step g after rest (with_step g mid first w) ≡ with_step g after (joined first rest) w
two_steps g mid after first rest w stays has =
    same_parts w (put (put w.nodes g mid) g after) (put w.nodes g after) _ (with_made g (first.made ++ rest.made) w.ledger)
    ((w.pool ++ first.packets) ++ rest.packets) (w.pool ++ (first.packets ++ rest.packets)) _ _ _ _
    (put_twice w.nodes g mid after) (sym (made_two g first.made rest.made w.ledger))
    (append_assoc w.pool first.packets rest.packets) (ap (λ (x : World). x.longest) runs) (ap (λ (x : World). x.run) runs)
  where
    one : World
    one = with_grown mid first.grew w

    apart : World → World
    apart x = record x {
      nodes = put w.nodes g mid;
      ledger = with_made g first.made w.ledger;
      pool = w.pool ++ first.packets;
    }

    both : with_grown after (first.grew ++ rest.grew) w ≡ with_grown after rest.grew one
    both = grown_twice after first.grew rest.grew w
        ∙ ap (with_grown after rest.grew) (grown_stays mid after first.grew w stays has)

    plain : World → World
    plain x = record x { nodes = w.nodes; ledger = w.ledger; pool = w.pool }

    runs : record (with_grown after rest.grew (with_step g mid first w)) { nodes = w.nodes; ledger = w.ledger; pool = w.pool }
        ≡ record (with_grown after (first.grew ++ rest.grew) w) { nodes = w.nodes; ledger = w.ledger; pool = w.pool }
    runs = ap plain
        (ap (λ x. with_grown after rest.grew (apart x)) (sym (grown_frame mid first.grew w))
        ∙ grown_beside after rest.grew one (put w.nodes g mid) (with_made g first.made w.ledger) (w.pool ++ first.packets))
        ∙ ap plain (sym both)

-- a step in which a node keeps its view and does nothing is none
pub no_step : (g : ℕ) (v : View) (w : World) → w.nodes g ≡ v → with_step g v nothing w ≡ w
no_step g v w is =
    same_parts w (put w.nodes g v) w.nodes (w.ledger ++ []) w.ledger (w.pool ++ []) w.pool w.longest w.longest w.run w.run
    (put_old w.nodes g v is) (append-nil w.ledger) (append-nil w.pool) refl refl

-- the world after a node did something is the world after such a step
pub acted_is : (g : ℕ) (v : View) (done : Done) (w next : World) → after_node g v done w ≡ Ok next
    → next ≡ with_step g v done.acts w
acted_is g v done w next is =
    after_node_ok g v done w next is
    ∙ same_parts w (put w.nodes g v) (put w.nodes g v) (with_made g done.acts.made w.ledger) (with_made g done.acts.made w.ledger)
    (w.pool ++ done.acts.packets) (w.pool ++ done.acts.packets) _ _ _ _ refl refl refl
    (ap (λ (x : World). x.longest) beside) (ap (λ (x : World). x.run) beside)
  where
    beside : record (with_grown v done.acts.grew (with_acted g v done w)) { nodes = w.nodes; ledger = w.ledger; pool = w.pool }
        ≡ record (with_grown v done.acts.grew w) { nodes = w.nodes; ledger = w.ledger; pool = w.pool }
    beside = ap (λ (x : World). record x { nodes = w.nodes; ledger = w.ledger; pool = w.pool })
        (grown_beside v done.acts.grew w (put w.nodes g v) (with_made g done.acts.made w.ledger) w.pool)
