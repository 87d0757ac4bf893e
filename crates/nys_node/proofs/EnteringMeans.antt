-- A node with the tables of an epoch means the view in which the epoch begins.
use Rattle.std.proofs.Common.{◌≡◌, ℕ, ◌<◌, ◌≤◌, ◌&&◌, ◌||◌, Bool, true, false, nat_lt, not, [], length, None, refl, ap, sym, subst, ◌∙◌, inl, inr, arith, lt-ltb, le-ltb}
use Rattle.std.proofs.lemmas.Bool.{cases_lt}
use Rattle.nys_attest.specs.Ranges.{link_at}
use Rattle.nys_hosts.specs.Sets.{has}
use Rattle.nys_hosts.specs.declared.set.HostSet.{HostSet}
use Rattle.nys_rules.specs.Scope.{Scope}
use Rattle.nys_rules.specs.View.{empty_desk, is_live, kept_at, next_number, View}
use Rattle.nys_rules.proofs.CertificateLemmas.{both_true}
use Rattle.nys_votes.specs.Seats.{no_seats}
use Rattle.nys_node.specs.Entering.{AreReplicas, Carries, entered, HearNothing}
use Rattle.nys_node.specs.Means.{IsReplicaOf, Means}
use Rattle.nys_sending.specs.Tables.{IsTable}
use Rattle.nys_node.specs.declared.node.Node.{Node}

-- the tables with which a node begins an epoch, and what it takes over
pub record Begins {P S : Type 0} (scope : Scope S) (node : Node P S) (v : View) (epoch : ℕ) (base : ℕ → ℕ) (retired : ℕ → Bool)
    (guarded : HostSet) : Type 0 where
  pub me : node.me ≡ v.me
  pub host : v.me < scope.rules.hosts
  pub few : scope.rules.hosts ≤ 32
  pub epoch_is : node.epoch ≡ epoch
  pub within : epoch < scope.epochs
  pub wedged : node.wedged ≡ false
  pub guards : (h : ℕ) → has guarded h ≡ (nat_lt h scope.rules.hosts && scope.guards epoch h node.me)
  pub live : (h : ℕ) → has node.live h ≡ (nat_lt h scope.rules.hosts && (has guarded h && not (has node.retired h)))
  pub retired_are : (h : ℕ) → has node.retired h ≡ retired h
  pub bases : IsTable node.base base
  pub voted_to : IsTable node.voted_to base
  pub waiting : node.waiting.items ≡ v.waiting
  pub room : node.waiting.capacity ≡ 1024
  pub desks : IsTable node.desks.items (λ _. empty_desk)
  pub slots : IsTable node.kept.items (λ _. [])
  pub replicas : AreReplicas scope.rules node.replicas.items v.logs
      (λ x. kept_at (has node.live x) (base x) (v.kept_from x) (length (v.logs x))) (λ x. v.known x || (nat_lt x 32 && has guarded x))
  pub banks : IsTable node.banks.items (λ _. (scope.credit epoch, no_seats))
  pub links : (p h : ℕ) → link_at node.links p h ≡ None
  pub heard : HearNothing scope.rules v.logs node.heard.items

-- what a view takes over, a node that means it has
pub carries : {P S : Type 0} (scope : Scope S) (node : Node P S) (v : View) → Means scope node v → Carries scope node v
carries scope node v m = record {
  me = m.me;
  host = m.host;
  waiting = m.waiting;
  room = m.room;
  replicas = record { size = m.rows; each = m.replicas };
}

-- a host is named once
once : (a g r : Bool) → (a && ((a && g) && r)) ≡ (a && (g && r))
once true g r = refl
once false g r = refl

-- the live hosts
live_is : {P S : Type 0} (scope : Scope S) (node : Node P S) (v : View) (epoch : ℕ) (base : ℕ → ℕ) (retired : ℕ → Bool) (guarded : HostSet)
    → Begins scope node v epoch base retired guarded → (h : ℕ) → has node.live h ≡ is_live scope (entered scope epoch base retired v) h
unfolding is_live
live_is scope node v epoch base retired guarded b h =
    b.live h
    ∙ ap (λ g. nat_lt h scope.rules.hosts && (g && not (has node.retired h))) (b.guards h)
    ∙ once (nat_lt h scope.rules.hosts) (scope.guards epoch h node.me) (not (has node.retired h))
    ∙ ap (λ r. nat_lt h scope.rules.hosts && (scope.guards epoch h node.me && not r)) (b.retired_are h)
    ∙ ap (λ me. nat_lt h scope.rules.hosts && (scope.guards epoch h me && not (retired h))) b.me

-- the slots from which on entries are kept
needed_is : {P S : Type 0} (scope : Scope S) (node : Node P S) (v : View) (epoch : ℕ) (base : ℕ → ℕ) (retired : ℕ → Bool) (guarded : HostSet)
    → Begins scope node v epoch base retired guarded → (h : ℕ)
    → kept_at (has node.live h) (base h) (v.kept_from h) (length (v.logs h)) ≡ (entered scope epoch base retired v).kept_from h
unfolding is_live
needed_is scope node v epoch base retired guarded b h =
    ap (λ l. kept_at l (base h) (v.kept_from h) (length (v.logs h))) (live_is scope node v epoch base retired guarded b h)

-- hosts are below 32
below_32 : (n h : ℕ) (g : Bool) → n ≤ 32 → (nat_lt h 32 && (nat_lt h n && g)) ≡ (nat_lt h n && g)
below_32 n h g few = elim (cases_lt h 32) [
  | inl low ↦ ap (λ b. b && (nat_lt h n && g)) (lt-ltb h 32 low)
  | inr high ↦
      ap (λ b. b && (nat_lt h n && g)) (le-ltb h 32 high)
      ∙ sym (ap (λ b. b && g) (le-ltb h n (omega (arith, high, few))))
]

-- the hosts that are known
known_is : {P S : Type 0} (scope : Scope S) (node : Node P S) (v : View) (epoch : ℕ) (base : ℕ → ℕ) (retired : ℕ → Bool) (guarded : HostSet)
    → Begins scope node v epoch base retired guarded → (h : ℕ)
    → (v.known h || (nat_lt h 32 && has guarded h)) ≡ (v.known h || (nat_lt h scope.rules.hosts && scope.guards epoch h v.me))
known_is scope node v epoch base retired guarded b h =
    ap (λ g. v.known h || (nat_lt h 32 && g)) (b.guards h)
    ∙ ap (λ g. v.known h || g) (below_32 scope.rules.hosts h (scope.guards epoch h node.me) b.few)
    ∙ ap (λ me. v.known h || (nat_lt h scope.rules.hosts && scope.guards epoch h me)) b.me

-- a live host is known
live_known : {S : Type 0} (scope : Scope S) (v : View) (epoch : ℕ) (base : ℕ → ℕ) (retired : ℕ → Bool) (h : ℕ)
    → is_live scope (entered scope epoch base retired v) h ≡ true → (entered scope epoch base retired v).known h ≡ true
unfolding is_live
live_known scope v epoch base retired h e =
    let host = both_true (nat_lt h scope.rules.hosts) _ e in
    let guards = both_true (scope.guards epoch h v.me) (not (retired h)) host.1 in
    either (v.known h) (nat_lt h scope.rules.hosts) (scope.guards epoch h v.me) host.0 guards.0
  where
    either : (k a g : Bool) → a ≡ true → g ≡ true → (k || (a && g)) ≡ true
    either true a g x y = refl
    either false true true x y = refl
    either false true false x y = absurd (cc)
    either false false g x y = absurd (cc)

-- the node means the view in which the epoch begins
pub means_entered : {P S : Type 0} (scope : Scope S) (node : Node P S) (v : View) (epoch : ℕ) (base : ℕ → ℕ) (retired : ℕ → Bool)
    (guarded : HostSet) → Begins scope node v epoch base retired guarded → Means scope node (entered scope epoch base retired v)
unfolding next_number
means_entered scope node v epoch base retired guarded b = record {
  me = b.me;
  host = b.host;
  few = b.few;
  epoch = b.epoch_is;
  within = b.within;
  wedged = b.wedged;
  live = live_is scope node v epoch base retired guarded b;
  retired = b.retired_are;
  base = b.bases;
  voted_to = b.voted_to;
  waiting = b.waiting;
  room = b.room;
  desks = b.desks;
  slots = b.slots;
  rows = b.replicas.size;
  replicas = λ h replica at.
      subst (IsReplicaOf scope.rules h replica (v.logs h) ((entered scope epoch base retired v).kept_from h))
      (known_is scope node v epoch base retired guarded b h)
      (subst (λ n. IsReplicaOf scope.rules h replica (v.logs h) n (v.known h || (nat_lt h 32 && has guarded h)))
      (needed_is scope node v epoch base retired guarded b h) (b.replicas.each h replica at));
  kept = live_known scope v epoch base retired;
  banks = b.banks;
  links = λ p h low below. b.links p h;
  tables = b.heard.size;
  heard = b.heard.each;
}
