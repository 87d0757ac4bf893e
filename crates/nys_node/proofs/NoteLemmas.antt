-- What a node may count on with a record that isn't dropped.
use Rattle.std.proofs.Common.{◌≡◌, ℕ, ◌+◌, ◌<◌, ◌≤◌, ◌==◌, ◌&&◌, not, Bool, true, false, List, [], length, refl, sym, subst, ◌∙◌, arith}
use Rattle.std.specs.Prelude.{All, nat_lt, nat_le, Option, None, slice_index_or}
use Rattle.std.proofs.lemmas.Bool.{eqb-true, leb-true, ltb-true}
use Rattle.std.proofs.lemmas.List.Elements.{All-weaker, filter_passes}
use Rattle.nys_bytes.specs.declared.content.Content.{Content}
use Rattle.nys_desk.specs.Makers.{IsHost}
use Rattle.nys_guards.specs.Good.{guards_in}
use Rattle.nys_hosts.specs.Makers.{passing}
use Rattle.nys_hosts.specs.Masks.{in_mask}
use Rattle.nys_hosts.proofs.ListLemmas.{lists_passing}
use Rattle.nys_config.specs.declared.config.Config.{Config}
use Rattle.nys_rules.proofs.CertificateLemmas.{both_true}
use Rattle.nys_rules.specs.Dropping.{accepted, accepts, attest_drop, if_current, inherit_drop, misplaced, misplaced_body, ask_drop, permits, unless, verifies}
use Rattle.nys_rules.specs.Logging.{fits}
use Rattle.nys_rules.specs.Scope.{guards_of, Scope}
use Rattle.nys_rules.specs.Sending.{others}
use Rattle.nys_rules.specs.View.{has_reached, is_live, length_of, next_number, View}
use Rattle.nys_rules.specs.declared.cause.DropCause.{DropCause}
use Rattle.nys_rules.specs.declared.cause.DropCause.TheVariants as cause
use Rattle.nys_source.specs.Rules.{Rules}
use Rattle.nys_stmt.specs.Ranges.{IsBodyInRange, IsFilled}
use Rattle.nys_stmt.specs.declared.records.Record.{Record}
use Rattle.nys_stmt.specs.declared.statement.Body.{Body}
use Rattle.nys_stmt.specs.declared.statement.Body.TheVariants as body
use Rattle.nys_stmt.specs.declared.statement.FilledKind.{FilledKind}
use Rattle.nys_stmt.specs.declared.statement.FilledKind.TheVariants as kind
use Rattle.nys_stmt.specs.declared.tags.Tags.{Tags}
use Rattle.nys_node.specs.Handling.{CanActBy, CanNote, CanNoteBody, CanNoteFilled}
use Rattle.nys_node.specs.Means.{Means}
use Rattle.nys_config.specs.Scopes.{scope_of}
use Rattle.nys_node.specs.declared.node.Node.{Node}
use Rattle.nys_sending.proofs.OwnLemmas.{other_of}

-- where no cause is given the test passed, and the tests after it gave none
went_on : (b : Bool) (why : DropCause) (rest : Option DropCause) → unless b why rest ≡ None → (b ≡ true) × (rest ≡ None)
went_on true why rest e = (refl, e)
went_on false why rest e = absurd (cc)

-- the epoch is the node's, and the tests after that gave none
is_current : (v : View) (epoch : ℕ) (rest : Option DropCause) → if_current v epoch rest ≡ None → (epoch ≡ v.epoch) × (rest ≡ None)
is_current v epoch rest e =
    let first = went_on (epoch == v.epoch) cause.Epoch (unless (not v.wedged) cause.Wedged rest) e in
    (eqb-true epoch v.epoch first.0, (went_on (not v.wedged) cause.Wedged rest first.1).1)

-- a maker whose tag is accepted is another party, and its kind permits it
pub record IsPermitted {S : Type 0} (scope : Scope S) (e taker : ℕ) (said : Body) (t : Tags) : Type 0 where
  pub other : not (t.maker == taker) ≡ true
  pub permitted : permits scope e said t.maker ≡ true

-- so are all that are accepted
pub accepted_permitted : {S : Type 0} (scope : Scope S) (e taker : ℕ) (r : Record) → All (IsPermitted scope e taker r.statement.body) (accepted scope e taker r)
unfolding accepted accepts
accepted_permitted scope e taker r =
    All-weaker (λ t. accepts scope e taker r.statement t ≡ true) (IsPermitted scope e taker r.statement.body) each
    (accepted scope e taker r) (filter_passes (accepts scope e taker r.statement) r.makers)
  where
    each : (t : Tags) → accepts scope e taker r.statement t ≡ true → IsPermitted scope e taker r.statement.body t
    each t is =
        let first = both_true (not (t.maker == taker)) (permits scope e r.statement.body t.maker && verifies scope taker r.statement t) is in
        record {
          other = first.0;
          permitted = (both_true (permits scope e r.statement.body t.maker) (verifies scope taker r.statement t) first.1).0;
        }

-- a guard is a host
guard_host : {P S : Type 0} (rules : Rules S) (cx : Config P) (e h g : ℕ) → (scope_of rules cx).guards e h g ≡ true → g < 32
unfolding scope_of guards_in in_mask
guard_host rules cx e h g is = ltb-true g 32 (both_true (nat_lt g 32) _ is).0

-- makers that guard are hosts
are_hosts : {P S : Type 0} (rules : Rules S) (cx : Config P) (e taker : ℕ) (said : Body) (makers : List Tags)
    → ((m : ℕ) → permits (scope_of rules cx) e said m ≡ true → m < 32) → All (IsPermitted (scope_of rules cx) e taker said) makers → All IsHost makers
are_hosts rules cx e taker said makers low all =
    All-weaker (IsPermitted (scope_of rules cx) e taker said) IsHost (λ t is. record { host = low t.maker is.permitted }) makers all

-- what is needed to note what is said of a content
filled_ready : {P S : Type 0} (rules : Rules S) (cx : Config P) (node : Node P S) (v : View) (e taker : ℕ) (said : FilledKind) (h slot : ℕ) (content : Content) (makers : List Tags)
    → Means (scope_of rules cx) node v → IsFilled h slot content → misplaced_body (scope_of rules cx) v e (body.Filled said h slot content) ≡ None
    → All (IsPermitted (scope_of rules cx) e taker (body.Filled said h slot content)) makers → length makers ≤ 33
    → CanNoteFilled (scope_of rules cx) node said h content makers
filled_ready rules cx node v e taker kind.Offer h slot content makers m low placed all few = tt
filled_ready rules cx node v e taker kind.Order h slot content makers m low placed all few =
    (are_hosts rules cx e taker (body.Filled kind.Order h slot content) makers (λ g is. guard_host rules cx e h g is) all, few)
filled_ready rules cx node v e taker kind.Deliver h slot content makers m low placed all few =
    are_hosts rules cx e taker (body.Filled kind.Deliver h slot content) makers (λ g is. guard_host rules cx e h g is) all
filled_ready rules cx node v e taker kind.Report h slot content makers m low placed all few = tt
filled_ready rules cx node v e taker kind.Inherit h slot content makers m low placed all few =
    let scope = scope_of rules cx in
    let now = is_current v e (inherit_drop scope v h slot (fits scope v h content)) placed in
    let live = went_on (is_live scope v h) cause.NotGuard _ now.1 in
    let last = went_on ((slot == length_of v h && not (has_reached v h)) && fits scope v h content) cause.Slot None live.1 in
    let next = both_true (slot == length_of v h && not (has_reached v h)) (fits scope v h content) last.0 in
    let at = eqb-true slot (length_of v h) (both_true (slot == length_of v h) (not (has_reached v h)) next.0).0 in record {
      view = v;
      means = m;
      known = m.kept h live.0;
      room = omega (arith, at, low.1);
      next = next.1;
    }

-- what each kind of record needs
body_ready : {P S : Type 0} (rules : Rules S) (cx : Config P) (node : Node P S) (v : View) (e taker : ℕ) (said : Body) (makers : List Tags) → Means (scope_of rules cx) node v
    → IsBodyInRange said → misplaced_body (scope_of rules cx) v e said ≡ None → All (IsPermitted (scope_of rules cx) e taker said) makers → length makers ≤ 33
    → CanNoteBody (scope_of rules cx) node e said makers
body_ready rules cx node v e taker (body.Filled said h slot content) makers m low placed all few =
    (omega (arith, low.0), filled_ready rules cx node v e taker said h slot content makers m low placed all few)
body_ready rules cx node v e taker (body.Attest p h k payload) makers m low placed all few =
    let scope = scope_of rules cx in
    let now = is_current v e (attest_drop scope v p h k) placed in
    let live = went_on (is_live scope v h) cause.NotGuard _ now.1 in
    let sender = went_on (nat_lt p scope.rules.hosts && (not (v.retired p) && scope.rules.linked p h)) cause.NotGuard _ live.1 in
    let window = went_on (nat_le (next_number scope v p h) k && nat_lt k (next_number scope v p h + 64)) cause.Slot None sender.1 in
    let both = both_true (nat_le (next_number scope v p h) k) (nat_lt k (next_number scope v p h + 64)) window.0 in (
      omega (arith, low.0),
      omega (arith, low.1),
      are_hosts rules cx e taker (body.Attest p h k payload) makers
          (λ g is. guard_host rules cx e h g (both_true ((scope_of rules cx).guards e p g) ((scope_of rules cx).guards e h g) is).1) all,
      record {
        view = v;
        means = m;
        least = leb-true (next_number scope v p h) k both.0;
        most = ltb-true k (next_number scope v p h + 64) both.1;
      },
    )
body_ready rules cx node v e taker (body.Ask h slot) makers m low placed all few = tt
body_ready rules cx node v e taker body.Wedge makers m low placed all few = tt
body_ready rules cx node v e taker (body.Frozen h slot) makers m low placed all few = tt
body_ready rules cx node v e taker (body.Open lengths) makers m low placed all few =
    let scope = scope_of rules cx in
    let first = went_on (nat_lt v.epoch e && nat_lt e scope.epochs) cause.Epoch _ placed in
    ltb-true e scope.epochs (both_true (nat_lt v.epoch e) (nat_lt e scope.epochs) first.0).1

-- a node may note a record that isn't dropped
pub note_ready : {P S : Type 0} (rules : Rules S) (cx : Config P) (node : Node P S) (r : Record) (makers : List Tags) → CanNote (scope_of rules cx) node r makers
    → CanNoteBody (scope_of rules cx) node r.statement.epoch r.statement.body makers
unfolding misplaced
note_ready rules cx node r makers can =
    body_ready rules cx node can.view r.statement.epoch node.me r.statement.body makers can.is.means can.well.statement.range.body (can.placed can.view can.is.means)
    (subst (All (IsPermitted (scope_of rules cx) r.statement.epoch node.me r.statement.body)) (sym can.makers_are) (accepted_permitted (scope_of rules cx) r.statement.epoch node.me r))
    can.few

-- nobody
nobody : Tags
nobody = record { maker = 0; tags = [] }

-- the maker of a question is another guard of the host
asked_by : {S : Type 0} (scope : Scope S) (e h me : ℕ) (t : Tags) → t.maker < 32 → scope.guards e h t.maker ≡ true → not (t.maker == me) ≡ true
    → 1 ≤ length (others me (guards_of scope e h))
unfolding guards_of
asked_by scope e h me t low guard other =
    other_of me t.maker (passing (scope.guards e h)) (((lists_passing (scope.guards e h)).same t.maker).1 (guard, low)) (rw other (omega arith))

-- what each kind of record asks for
acts_ready : {P S : Type 0} (rules : Rules S) (cx : Config P) (node : Node P S) (v : View) (e : ℕ) (said : Body) (makers : List Tags) → Means (scope_of rules cx) node v
    → IsBodyInRange said → misplaced_body (scope_of rules cx) v e said ≡ None → All (IsPermitted (scope_of rules cx) e node.me said) makers → 1 ≤ length makers
    → CanActBy (scope_of rules cx) node said
acts_ready rules cx node v e (body.Filled said h slot content) makers m low placed all some = omega (arith, low.0)
acts_ready rules cx node v e (body.Attest p h k payload) makers m low placed all some = tt
acts_ready rules cx node v e (body.Ask h slot) makers m low placed all some =
    let scope = scope_of rules cx in
    let now = is_current v e (ask_drop scope v h slot) placed in
    let t = slice_index_or makers 0 nobody in
    let is = all 0 nobody (omega (arith, some)) in (
      omega (arith, low.0),
      subst (λ epoch. 1 ≤ length (others node.me (guards_of scope epoch h))) (now.0 ∙ sym m.epoch)
          (asked_by scope e h node.me t (guard_host rules cx e h t.maker is.permitted) is.permitted is.other),
    )
acts_ready rules cx node v e body.Wedge makers m low placed all some = tt
acts_ready rules cx node v e (body.Frozen h slot) makers m low placed all some = tt
acts_ready rules cx node v e (body.Open lengths) makers m low placed all some = tt

-- a node may do what a record that isn't dropped asks for
pub act_ready : {P S : Type 0} (rules : Rules S) (cx : Config P) (node : Node P S) (r : Record) (makers : List Tags) → CanNote (scope_of rules cx) node r makers
    → CanActBy (scope_of rules cx) node r.statement.body
unfolding misplaced
act_ready rules cx node r makers can =
    acts_ready rules cx node can.view r.statement.epoch r.statement.body makers can.is.means can.well.statement.range.body (can.placed can.view can.is.means)
    (subst (All (IsPermitted (scope_of rules cx) r.statement.epoch node.me r.statement.body)) (sym can.makers_are) (accepted_permitted (scope_of rules cx) r.statement.epoch node.me r))
    can.some
