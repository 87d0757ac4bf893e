-- A record that an exchange brings to an honest guard leaves its mark there, until the log is past the slot.
use Rattle.std.proofs.Common.{◌≡◌, ◌≢◌, ℕ, ◌+◌, ◌==◌, true, List, Some, None, Ok, Err, refl, ap, sym, subst, ◌∙◌, inl, inr, arith}
use Rattle.std.specs.Prelude.{Contains, if◌then◌else◌, Result, slice_get}
use Rattle.std.proofs.lemmas.Bool.{ne_eqb}
use Rattle.nys_agreement.proofs.TableLemmas.{put_here}
use Rattle.nys_stmt.specs.declared.records.Record.{Record}
use Rattle.nys_stmt.specs.declared.statement.Statement.{Statement}
use Rattle.nys_wire.specs.Reading.{whole_record}
use Rattle.nys_rules.specs.declared.notice.End.{End}
use Rattle.nys_rules.specs.declared.rule.Rule.{Rule}
use Rattle.nys_rules.specs.Dropping.{verdict}
use Rattle.nys_rules.specs.Events.Plain.{Exchange}
use Rattle.nys_rules.specs.Forged.{HasMade}
use Rattle.nys_rules.specs.Handling.{AnswersTo, Handles, HandlesReading}
use Rattle.nys_rules.specs.Happening.{counted, Delivers, Does, GivesPacket, Happens, honest_packets, NodeTakes, TakenBy, with_take}
use Rattle.nys_rules.specs.Noting.{noted}
use Rattle.nys_rules.specs.Packets.{Done, Sent}
use Rattle.nys_rules.specs.Rules.{due}
use Rattle.nys_rules.specs.Scope.{olympus, Scope}
use Rattle.nys_rules.specs.Taking.{taken}
use Rattle.nys_rules.specs.View.{Desk, length_of, View}
use Rattle.nys_rules.specs.World.{after_node, is_honest, Setting, World}
use Rattle.nys_rules.proofs.KeepLemmas.{handles_keep, settles_into_keep}
use Rattle.nys_rules.proofs.WorldFrames.{after_node_ok, unless_forged_ok}
use Rattle.nys_laws.specs.SetUp.{IsSetUp}
use Rattle.nys_laws.proofs.WorldKeeping.{HoldsOfNodes}
use Rattle.nys_progress.proofs.Exchanging.{deliver_going, deliver_nodes, IsGoingOn, packet_given, place_in, taken_among}
use Rattle.nys_progress.proofs.HostMoves.{record_moves, rule_moves}
use Rattle.nys_progress.proofs.MarkedDesks.{IsKept, KeepsVotes, Stands, stands_moves, stands_steps, StandsAt, StandsIn, vote_steps}
use Rattle.nys_progress.proofs.RelayStages.{Made, made_steps}
use Rattle.nys_progress.proofs.TakenVotes.{in_epoch, IsReady, NoMark, none_kept, other_mark}

-- bytes that leave a mark at g where its log ends at the slot, once a party has made a statement
pub record Marks {S : Type 0} (setting : Setting S) (e h slot g : ℕ) (Mark : Desk → Type 0) (frame : List ℕ) (r : Record)
    (m : ℕ) (s : Statement) : Type 0 where
  pub kept : IsKept Mark
  pub reads : whole_record frame ≡ Ok r
  pub notes : (w : World) → IsReady setting e h slot g w → HasMade w.ledger m s → (w.nodes g).epoch ≡ e
      → length_of (w.nodes g) h ≡ slot
      → (verdict setting.scope (w.nodes g) r ≡ None) × Mark ((noted setting.scope (w.nodes g) r).desks h)

-- bytes that are handled
handled_mark : {S : Type 0} (setting : Setting S) (e h slot g : ℕ) (Mark : Desk → Type 0) (frame : List ℕ) (r : Record)
    (m : ℕ) (s : Statement) (w : World) → Marks setting e h slot g Mark frame r m s → g ≢ olympus → IsReady setting e h slot g w
    → HasMade w.ledger m s → (after : View) (done : Done) → Handles setting.scope (w.nodes g) frame after done
    → StandsIn e h slot Mark after
handled_mark {S} setting e h slot g Mark frame r m s w t other ready has after done handles = by (ready.here.here now).stands
  where
    v : View
    v = w.nodes g

    scope : Scope S
    scope = setting.scope

    now : v.epoch ≡ e
    now = in_epoch setting e g w ready.on other ready.here.rises

    answers : AnswersTo scope v r (verdict scope v r) after done
    answers = subst (λ x. HandlesReading scope v x after done) t.reads handles

    rules : (x : View) (rule : Rule) → due scope x ≡ Some rule → StandsIn e h slot Mark x
        → StandsIn e h slot Mark (taken scope x rule)
    rules x rule is k = stands_moves e h slot Mark t.kept x _ (rule_moves scope x rule h) k

    records : (x : View) (y : Record) → verdict scope x y ≡ None → StandsIn e h slot Mark x
        → StandsIn e h slot Mark (noted scope x y)
    records x y is k = stands_moves e h slot Mark t.kept x _ (record_moves scope x y h is) k

    by : Stands h slot NoMark v → StandsIn e h slot Mark after
    by (inl past) = handles_keep scope (StandsIn e h slot Mark) rules records v after _ done handles
        (other_mark e h slot NoMark Mark v ready.here (λ is at mark. absurd (omega (arith, past, at))))
    by (inr at) =
        let kept = t.notes w ready has now at.0 in
        let notes : AnswersTo scope v r None after done = subst (λ x. AnswersTo scope v r x after done) kept.0 answers in
        settles_into_keep scope (StandsIn e h slot Mark) rules (noted scope v r) after notes.rest notes.settles
        (other_mark e h slot NoMark Mark (noted scope v r)
        (stands_moves e h slot NoMark none_kept v _ (record_moves scope v r h kept.0) ready.here)
        (λ is there mark. kept.1))

-- a packet with them, given to the guard
taken_mark : {S : Type 0} (setting : Setting S) (e h slot g : ℕ) (Mark : Desk → Type 0) (p : Sent) (r : Record) (m : ℕ) (s : Statement)
    (w next : World) (k : ℕ) → Marks setting e h slot g Mark p.frame r m s → is_honest setting g ≡ true → g ≢ olympus
    → p.to ≡ g → IsReady setting e h slot g w → HasMade w.ledger m s → Delivers setting w k (Ok next)
    → slice_get w.pool k ≡ Some p → StandsIn e h slot Mark (next.nodes g)
taken_mark {S} setting e h slot g Mark p r m s w next k t honest other to ready has d get = by n
  where
    was : World
    was = record w { delivered = λ x. if x == k then true else w.delivered x }

    gives : GivesPacket setting w k (Some p) (Ok next)
    gives = subst (λ o. GivesPacket setting w k o (Ok next)) get d

    here : TakenBy setting was (is_honest setting g) (g == olympus) g (Some k) p.frame (Ok next)
    here = subst (λ x. TakenBy setting was (is_honest setting x) (x == olympus) x (Some k) p.frame (Ok next)) to gives

    n : NodeTakes setting was g (Some k) p.frame (Ok next)
    n = subst (λ b. TakenBy setting was true b g (Some k) p.frame (Ok next)) (ne_eqb g olympus other)
        (subst (λ b. TakenBy setting was b (g == olympus) g (Some k) p.frame (Ok next)) honest here)

    by : NodeTakes setting was g (Some k) p.frame (Ok next) → StandsIn e h slot Mark (next.nodes g)
    by n =
        let mid = with_take g (Some k) n.done.dropped was in
        let goes = unless_forged_ok setting was g n.done.statement _ (after_node g n.after n.done mid) next n.ends in
        let same = ap (λ (x : World). x.nodes g) (after_node_ok g n.after n.done mid next goes.1) in
        subst (StandsIn e h slot Mark) (sym (same ∙ put_here w.nodes g n.after))
        (handled_mark setting e h slot g Mark p.frame r m s w t other ready has n.after n.done n.handles)

-- what is asked where an exchange brings such a packet to a guard
pub record IsBrought {S : Type 0} (setting : Setting S) (e h slot g : ℕ) (p : Sent) (m : ℕ) (s : Statement) (w : World) : Type 0 where
  pub asked : IsSetUp setting.scope
  pub from : is_honest setting p.from ≡ true
  pub honest : is_honest setting g ≡ true
  pub other : g ≢ olympus
  pub to : p.to ≡ g
  pub on : IsGoingOn setting e w
  pub votes : HoldsOfNodes (KeepsVotes setting) w
  pub here : StandsIn e h slot NoMark (w.nodes g)
  pub sent : Contains w.pool p
  pub made : HasMade w.ledger m s

-- what each packet of the exchange keeps
record Reads {S : Type 0} (setting : Setting S) (e h slot g m : ℕ) (s : Statement) (w : World) : Type 0 where
  on : IsGoingOn setting e w
  votes : HoldsOfNodes (KeepsVotes setting) w
  here : HoldsOfNodes (StandsAt g e h slot NoMark) w
  made : HoldsOfNodes (Made m s) w

-- then the guard has the mark
pub mark_exchanged : {S : Type 0} (setting : Setting S) (e h slot g : ℕ) (Mark : Desk → Type 0) (p : Sent) (r : Record) (m : ℕ) (s : Statement)
    (w next : World) → Marks setting e h slot g Mark p.frame r m s → IsBrought setting e h slot g p m s w
    → Happens setting w Exchange (Ok next) → StandsIn e h slot Mark (next.nodes g)
mark_exchanged {S} setting e h slot g Mark p r m s w next t b happens = by happens.mid happens.does happens.result_is
  where
    sent : (k : ℕ) × (slice_get w.pool k ≡ Some p)
    sent = place_in w.pool p b.sent

    first : Reads setting e h slot g m s w
    first = record {
      on = b.on;
      votes = b.votes;
      here = λ x ne same. subst (λ y. StandsIn e h slot NoMark (w.nodes y)) (sym same) b.here;
      made = λ x ne. b.made;
    }

    ready : (x y : World) (n : ℕ) → Delivers setting x n (Ok y) → Reads setting e h slot g m s x
        → Reads setting e h slot g m s y
    ready x y n d k = record {
      on = deliver_going setting b.asked e x y n d k.on;
      votes = deliver_nodes setting (KeepsVotes setting) (vote_steps setting b.asked.hosts) x y n d k.votes;
      here = deliver_nodes setting (StandsAt g e h slot NoMark) (stands_steps setting g e h slot NoMark none_kept) x y n d k.here;
      made = deliver_nodes setting (Made m s) (made_steps setting m s) x y n d k.made;
    }

    Marked : World → Type 0
    Marked x = HoldsOfNodes (StandsAt g e h slot Mark) x

    marked : (x y : World) (n : ℕ) → Delivers setting x n (Ok y) → Marked x → Marked y
    marked x y n d k = deliver_nodes setting (StandsAt g e h slot Mark) (stands_steps setting g e h slot Mark t.kept) x y n d k

    brings : (x y : World) → Delivers setting x sent.0 (Ok y) → slice_get x.pool sent.0 ≡ Some p
        → Reads setting e h slot g m s x → Marked y
    brings x y d get k z ne same =
        subst (λ a. StandsIn e h slot Mark (y.nodes a)) (sym same)
        (taken_mark setting e h slot g Mark p r m s x y sent.0 t b.honest b.other b.to
        (record { on = k.on; votes = k.votes g b.other; here = k.here g b.other refl }) (k.made g b.other) d get)

    by : (mid : Result World End) → Does setting w Exchange mid → Ok next ≡ counted mid
        → StandsIn e h slot Mark (next.nodes g)
    by (Err end) does is = absurd (cc)
    by (Ok after) does is =
        let same : next ≡ record after { events = after.events + 1 } = cc in
        let all = taken_among setting (Reads setting e h slot g m s) Marked sent.0 p ready marked brings w after (honest_packets setting w) does
        (packet_given setting w sent.0 p sent.1 b.from (subst (λ x. is_honest setting x ≡ true) (sym b.to) b.honest)) sent.1 first in
        subst (λ (x : World). StandsIn e h slot Mark (x.nodes g)) (sym same) (all g b.other refl)
