-- A node whose log of one host has one entry more.
use Rattle.std.proofs.Common.{◌≡◌, ℕ, ◌<◌, ◌==◌, ◌&&◌, ◌++◌, ◌∷◌, [], nat_lt, Bool, true, false, ℤ, List, length, Option, Some, None, refl, ap, sym, subst, ◌∙◌, arith}
use Rattle.std.specs.Prelude.{slice_get, slice_index_or, slice_set}
use Rattle.std.specs.Vec.{with_item}
use Rattle.std.proofs.lemmas.Bool.Decides.{Decides-eqb, Decides-ltb}
use Rattle.std.proofs.lemmas.List.{length-set}
use Rattle.std.proofs.lemmas.Option.{slice_get_read}
use Rattle.circular_buffer.proofs.Places.{slice_get-set_other, slice_get-set_same}
use Rattle.circular_buffer.specs.Buffer.{Buffer}
use Rattle.nys_agreement.proofs.TableLemmas.{put_case}
use Rattle.nys_agreement.specs.Alone.{alone, Fits}
use Rattle.nys_attest.specs.Windows.{next_of, Window}
use Rattle.nys_bytes.specs.declared.content.Content.{Content}
use Rattle.nys_bytes.specs.declared.content.Content.TheVariants.{External, Message}
use Rattle.nys_replica.proofs.EffectLemmas.{received_few}
use Rattle.nys_replica.specs.declared.replica.Replica.{Replica}
use Rattle.nys_rules.specs.Logging.{fits}
use Rattle.nys_rules.specs.Scope.{Scope}
use Rattle.nys_rules.specs.View.{is_live, next_number, View}
use Rattle.nys_source.specs.Rules.{Rules}
use Rattle.nys_node.specs.Logging.{CanLog, CanTakeIn, HasNext, IsFromHost, IsMoved, IsTakenIn, with_log}
use Rattle.nys_node.specs.Means.{HearsOf, IsReplicaOf, Means}
use Rattle.nys_node.specs.declared.node.Node.{Node}
use Rattle.nys_node.proofs.NextLemmas.{hears_on}
use Rattle.nys_sending.proofs.TableLemmas.{same_found}

-- the replica that took the content is that of the longer log
taken_is : {P S : Type 0} (rules : Rules S) (h : ℕ) (old new : Option (Replica P S)) (content : Content) (log : List Content) (kept : ℕ) (known : Bool)
    → IsTakenIn rules old new content → IsReplicaOf rules h old log kept known → IsReplicaOf rules h new (log ++ content ∷ []) kept known
taken_is rules h (Some old) (Some new) content log kept known taken is = (taken.0 h log is.0, is.1, taken.1 ∙ is.2)
taken_is rules h (Some old) None content log kept known taken is = absurd taken
taken_is rules h None new content log kept known taken is = absurd taken

-- an item that is found at a place where another was put
pub put_found : {A : Type 0} (items : List A) (h k : ℕ) (x item : A) → h < length items → k ≡ h → slice_get (slice_set items h x) k ≡ Some item → item ≡ x
put_found items h k x item below e at =
    same_found (slice_get (slice_set items h x) h) x item (slice_get-set_same items h x below)
    (subst (λ z. slice_get (slice_set items h x) z ≡ Some item) e at)

-- the log of h has the content more
pub means_log : {P S : Type 0} (scope : Scope S) (node : Node P S) (h : ℕ) (heard moved : List Window) (old new : Option (Replica P S)) (content : Content)
    → h < 32 → heard ≡ slice_index_or node.heard.items h heard → IsMoved content heard moved
    → old ≡ slice_index_or node.replicas.items h old → IsTakenIn scope.rules old new content → (v : View) → Means scope node v
    → Means scope (record node { replicas = with_item node.replicas h new; heard = with_item node.heard h moved }) (with_log h content v)
unfolding is_live next_number
means_log {P} {S} scope node h heard moved old new content below hears goes at taken v m = record {
  me = m.me;
  host = m.host;
  few = m.few;
  epoch = m.epoch;
  within = m.within;
  wedged = m.wedged;
  live = m.live;
  retired = m.retired;
  base = m.base;
  voted_to = m.voted_to;
  waiting = m.waiting;
  room = m.room;
  desks = m.desks;
  slots = m.slots;
  rows = length-set node.replicas.items h new ∙ m.rows;
  replicas = λ x replica found. put_case (λ log. IsReplicaOf scope.rules x replica log (v.kept_from x) (v.known x)) v.logs h (v.logs h ++ content ∷ []) x
      (λ e. taken_at x replica e (put_found node.replicas.items h x new replica (omega (arith, below, m.rows)) e found))
      (λ ne. m.replicas x replica (sym (slice_get-set_other node.replicas.items h x new ne) ∙ found));
  kept = m.kept;
  banks = m.banks;
  links = m.links;
  tables = length-set node.heard.items h moved ∙ m.tables;
  heard = λ x table found. put_case (λ log. HearsOf table (λ p. (alone scope.rules x log).received p x) (λ p k. v.heard p x k)) v.logs h (v.logs h ++ content ∷ []) x
      (λ e. heard_at x table e (put_found node.heard.items h x moved table (omega (arith, below, m.tables)) e found))
      (λ ne. m.heard x table (sym (slice_get-set_other node.heard.items h x moved ne) ∙ found));
}
  where
    taken_at : (x : ℕ) (replica : Option (Replica P S)) → x ≡ h → replica ≡ new → IsReplicaOf scope.rules x replica (v.logs h ++ content ∷ []) (v.kept_from x) (v.known x)
    taken_at x replica e is =
        subst (λ r. IsReplicaOf scope.rules x r (v.logs h ++ content ∷ []) (v.kept_from x) (v.known x)) (sym is)
        (subst (λ y. IsReplicaOf scope.rules y new (v.logs h ++ content ∷ []) (v.kept_from y) (v.known y)) (sym e)
        (taken_is scope.rules h old new content (v.logs h) (v.kept_from h) (v.known h) taken
        (m.replicas h old (slice_get_read node.replicas.items 32 h old (sym m.rows) below at))))

    heard_at : (x : ℕ) (table : List Window) → x ≡ h → table ≡ moved
        → HearsOf table (λ p. (alone scope.rules x (v.logs h ++ content ∷ [])).received p x) (λ p k. v.heard p x k)
    heard_at x table e is =
        subst (λ t. HearsOf t (λ p. (alone scope.rules x (v.logs h ++ content ∷ [])).received p x) (λ p k. v.heard p x k)) (sym is)
        (subst (λ y. HearsOf moved (λ p. (alone scope.rules y (v.logs h ++ content ∷ [])).received p y) (λ p k. v.heard p y k)) (sym e)
        (hears_on scope.rules h (v.logs h) content heard moved (λ p k. v.heard p h k) goes
        (m.heard h heard (slice_get_read node.heard.items 32 h heard (sym m.tables) below hears))))

-- where both of two tests pass, each does
both_pass : (a b : Bool) → (a && b) ≡ true → (a ≡ true) × (b ≡ true)
both_pass true b e = (refl, e)
both_pass false b e = absurd (cc)

-- a content that fits comes next in the log
fits_next : {S : Type 0} (scope : Scope S) (v : View) (h : ℕ) (content : Content) → fits scope v h content ≡ true → Fits scope.rules h (v.logs h) content
unfolding fits next_number
fits_next scope v h (External payload) e = tt
fits_next scope v h (Message p k payload) e =
    let first = both_pass _ _ e in
    let rest = both_pass _ _ first.1 in
    ((Decides-ltb p scope.rules.hosts).0 first.0, rest.0, (Decides-eqb k ((alone scope.rules h (v.logs h)).received p h)).0 rest.1)

-- whether a content fits is told by the log of its host
fits_as : {S : Type 0} (scope : Scope S) (v w : View) (h : ℕ) (content : Content) → w.logs h ≡ v.logs h → fits scope w h content ≡ fits scope v h content
unfolding fits next_number
fits_as scope v w h (External payload) same = refl
fits_as scope v w h (Message p k payload) same =
    ap (λ log. nat_lt p scope.rules.hosts && (scope.rules.linked p h && k == (alone scope.rules h log).received p h)) same

-- the node can still log the content, where the host's log stayed
pub can_log_on : {P S : Type 0} (scope : Scope S) (node next : Node P S) (h : ℕ) (content : Content) (change : View → View)
    → ((v : View) → (change v).logs h ≡ v.logs h) → ((v : View) → (change v).known h ≡ v.known h)
    → ((v : View) → Means scope node v → Means scope next (change v)) → CanLog scope node h content → CanLog scope next h content
can_log_on scope node next h content change logs known on can = record {
  view = change can.view;
  means = on can.view can.means;
  known = known can.view ∙ can.known;
  room = subst (λ log. length log < 1024) (sym (logs can.view)) can.room;
  next = fits_as scope can.view (change can.view) h content (logs can.view) ∙ can.next;
}

-- the sender of a message that comes next is a host
pub from_host : {P S : Type 0} (scope : Scope S) (node : Node P S) (h : ℕ) (content : Content) → CanLog scope node h content → IsFromHost content
from_host scope node h (External payload) can = tt
from_host scope node h (Message p k payload) can =
    omega (arith, (fits_next scope can.view h (Message p k payload) can.next).0, can.means.few)

-- its number is below that of the log's entries
pub has_next : {P S : Type 0} (scope : Scope S) (node : Node P S) (h : ℕ) (content : Content) (table : List Window) → h < 32
    → table ≡ slice_index_or node.heard.items h table → CanLog scope node h content → HasNext content table
unfolding next_number
has_next scope node h (External payload) table below at can = tt
has_next scope node h (Message p k payload) table below at can =
    let m = can.means in
    let sender : p < 32 = from_host scope node h (Message p k payload) can in
    let next : next_of table p ≡ (alone scope.rules h (can.view.logs h)).received p h =
    (m.heard h table (slice_get_read node.heard.items 32 h table (sym m.tables) below at)).next_is p sender in
    (sender, omega (arith, next, received_few scope.rules h p (can.view.logs h), can.room))

-- the replica is there, and the content comes next in its log
pub can_take : {P S : Type 0} (scope : Scope S) (node : Node P S) (h : ℕ) (content : Content) (replica : Option (Replica P S)) → h < 32
    → replica ≡ slice_index_or node.replicas.items h replica → CanLog scope node h content → CanTakeIn scope.rules replica content
can_take {P} {S} scope node h content replica below at can =
    take replica (can.means.replicas h replica (slice_get_read node.replicas.items 32 h replica (sym can.means.rows) below at))
  where
    take : (r : Option (Replica P S)) → IsReplicaOf scope.rules h r (can.view.logs h) (can.view.kept_from h) (can.view.known h) → CanTakeIn scope.rules r content
    take None is = let contrary : true ≡ false = sym can.known ∙ is.1 in absurd (cc)
    take (Some r) is = record {
      h = h;
      log = can.view.logs h;
      stands = is.0;
      room = can.room;
      fits = fits_next scope can.view h content can.next;
    }

-- other inputs wait
pub means_waiting : {P S : Type 0} (scope : Scope S) (node : Node P S) (buffer : Buffer (List ℤ)) (waiting : List (List ℤ)) → (v : View)
    → buffer.items ≡ waiting → buffer.capacity ≡ node.waiting.capacity → Means scope node v
    → Means scope (record node { waiting = buffer }) (record v { waiting = waiting })
unfolding is_live next_number
means_waiting scope node buffer waiting v items capacity m = record {
  me = m.me;
  host = m.host;
  few = m.few;
  epoch = m.epoch;
  within = m.within;
  wedged = m.wedged;
  live = m.live;
  retired = m.retired;
  base = m.base;
  voted_to = m.voted_to;
  waiting = items;
  room = capacity ∙ m.room;
  desks = m.desks;
  slots = m.slots;
  rows = m.rows;
  replicas = m.replicas;
  kept = m.kept;
  banks = m.banks;
  links = m.links;
  tables = m.tables;
  heard = m.heard;
}
