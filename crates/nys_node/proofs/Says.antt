-- What a node says by a rule is what the view says, and a record.
use Rattle.std.proofs.Common.{◌≡◌, ℕ, ◌<◌, ◌≤◌, ◌&&◌, not, Bool, true, false, ℤ, List, [], ◌∷◌, length, refl, ap, sym, subst, ◌∙◌, arith}
use Rattle.std.specs.Prelude.{Contains, IfSome, Option, Some, None, if◌then◌else◌, option_map, slice_get}
use Rattle.nys_attest.specs.Ranges.{link_at}
use Rattle.nys_bytes.specs.declared.content.Content.{Content}
use Rattle.nys_bytes.specs.declared.content.Content.TheVariants.{External, Message}
use Rattle.nys_hosts.proofs.ListLemmas.{lists_passing}
use Rattle.nys_sending.proofs.OwnLemmas.{other_of}
use Rattle.nys_node.proofs.SoundRecords.{own_tagged}
use Rattle.nys_node.specs.Means.{Means}
use Rattle.nys_sending.specs.Receivers.{made_with, sent_others}
use Rattle.nys_node.specs.Sound.{IsScope, tellable}
use Rattle.nys_node.specs.declared.node.Node.{Node}
use Rattle.nys_rules.specs.Logging.{fits}
use Rattle.nys_rules.specs.Rules.{only_if, passing_only, to_attest, to_log, unattested}
use Rattle.nys_rules.specs.Scope.{guards_of, quorum_at, Scope}
use Rattle.nys_rules.specs.Sending.{guards_at, made_for, others, own_record, said_in, tags_for}
use Rattle.nys_rules.specs.Taking.{certificate, certifying, ordering, own_tags, with_kept}
use Rattle.nys_rules.specs.View.{is_attesting, is_open, length_of, next_number, sent_to, View}
use Rattle.nys_rules.specs.declared.kept.Attested.{Attested}
use Rattle.nys_votes.specs.Delivered.{delivered}
use Rattle.nys_stmt.specs.Ranges.{IsInRange}
use Rattle.nys_stmt.specs.declared.records.Record.{Record}
use Rattle.nys_stmt.specs.declared.statement.Body.{Body}
use Rattle.nys_stmt.specs.declared.statement.Body.TheVariants as body
use Rattle.nys_stmt.specs.declared.statement.FilledKind.{FilledKind}
use Rattle.nys_stmt.specs.declared.statement.FilledKind.TheVariants as kind
use Rattle.nys_stmt.specs.declared.statement.Statement.{Statement}

-- the node is one of 32 hosts
pub me_below : {P S : Type 0} (scope : Scope S) (node : Node P S) (v : View) → Means scope node v → node.me < 32
me_below scope node v m = omega (arith, m.me, m.host, m.few)

-- a statement of the node's epoch is one of the view's
pub statement_is : {P S : Type 0} (scope : Scope S) (node : Node P S) (v : View) (said want : Body) (statement : Statement) → Means scope node v
    → statement ≡ said_in node.epoch said → said ≡ want → statement ≡ said_in v.epoch want
statement_is scope node v said want statement m is same = is ∙ ap (said_in node.epoch) same ∙ ap (λ e. said_in e want) m.epoch

-- what the view says is in range, so what the node says is
pub said_range : {P S : Type 0} (scope : Scope S) (node : Node P S) (v : View) (said want : Body) → Means scope node v → said ≡ want
    → IsInRange (said_in v.epoch want) → IsInRange (said_in node.epoch said)
said_range scope node v said want m same in_range =
    subst IsInRange (sym (statement_is scope node v said want (said_in node.epoch said) m refl same)) in_range

-- the tags of a statement are the node's own on what it says
pub tags_are : {S : Type 0} (scope : Scope S) (v : View) (h : ℕ) (want : Body) (statement : Statement) (tags : List (ℕ × List ℕ))
    → tags ≡ tags_for scope v.me statement (guards_at scope v h) → statement ≡ said_in v.epoch want → tags ≡ own_tags scope v h want
tags_are scope v h want statement tags is same = is ∙ ap (λ s. tags_for scope v.me s (guards_at scope v h)) same

-- what is made with these tags is made for the guards
pub made_is : {S : Type 0} (scope : Scope S) (v : View) (h me : ℕ) (want : Body) (statement : Statement) (tags : List (ℕ × List ℕ)) (sent : List ℕ)
    → me ≡ v.me → statement ≡ said_in v.epoch want → tags ≡ own_tags scope v h want
    → made_with me statement tags sent ≡ made_for scope v.me (said_in v.epoch want) (guards_at scope v h) sent
unfolding made_with made_for own_record
made_is scope v h me want statement tags sent me_is is tagged =
    ap (λ m. made_with m statement tags sent) me_is ∙ ap (λ s. made_with v.me s tags sent) is
    ∙ ap (λ t. made_with v.me (said_in v.epoch want) t sent) tagged

-- an Order goes to the host alone
pub ordering_is : {S : Type 0} (scope : Scope S) (v : View) (h : ℕ) (content : Content)
    → made_for scope v.me (said_in v.epoch (body.Filled kind.Order h (length_of v h) content)) (guards_at scope v h) (h ∷ []) ≡ ordering scope v h content
unfolding ordering
ordering_is scope v h content = refl

-- a certificate that is sent to the others is what the rule sends
pub certifying_is : {S : Type 0} (scope : Scope S) (v : View) (h me : ℕ) (content : Content) (r : Record) (receivers : List ℕ)
    → me ≡ v.me → r ≡ certificate v h content → receivers ≡ guards_at scope v h → sent_others me r receivers ≡ certifying scope v h content
unfolding sent_others certifying
certifying_is scope v h me content r receivers me_is is guards =
    ap (λ m. sent_others m r receivers) me_is ∙ ap (λ x. sent_others v.me x receivers) is ∙ ap (λ g. sent_others v.me (certificate v h content) g) guards

-- a host is one of its guards
pub own_guard : {S : Type 0} (scope : Scope S) → IsScope scope → (v : View) → v.epoch < scope.epochs → (h : ℕ) → h < scope.rules.hosts
    → h < 32 → Contains (guards_at scope v h) h
unfolding guards_of
own_guard scope is v within h low below = ((lists_passing (scope.guards v.epoch h)).same h).1 (is.own v.epoch h within low, below)

-- a statement of a content in the open slot is the view's
pub filled_is : {P S : Type 0} (scope : Scope S) (node : Node P S) (v : View) (said : FilledKind) (h slot : ℕ) (copy content : Content) (statement : Statement)
    → Means scope node v → statement ≡ said_in node.epoch (body.Filled said h slot copy) → slot ≡ length_of v h → copy ≡ content
    → statement ≡ said_in v.epoch (body.Filled said h (length_of v h) content)
filled_is scope node v said h slot copy content statement m is at same =
    statement_is scope node v (body.Filled said h slot copy) (body.Filled said h (length_of v h) content) statement m is
    (ap (λ s. body.Filled said h s copy) at ∙ ap (λ c. body.Filled said h (length_of v h) c) same)

-- where a statement goes to another party the node has a tag for it
pub sent_tagged : {S : Type 0} (scope : Scope S) (v : View) (h me : ℕ) (want : Body) (tags : List (ℕ × List ℕ)) (sent : List ℕ) → me ≡ v.me
    → tags ≡ own_tags scope v h want → (1 ≤ length (others v.me sent) → 1 ≤ tellable scope v h) → 1 ≤ length (others me sent) → 1 ≤ length tags
sent_tagged scope v h me want tags sent me_is same some sends =
    omega (arith, ap length same, own_tagged scope v h want, some (subst (λ m. 1 ≤ length (others m sent)) me_is sends))

-- what goes to the host alone goes to one of its guards
pub host_told : {S : Type 0} (scope : Scope S) → IsScope scope → (v : View) → v.epoch < scope.epochs → (h : ℕ) → h < scope.rules.hosts → h < 32
    → 1 ≤ length (others v.me (h ∷ [])) → 1 ≤ tellable scope v h
host_told scope is v within h low below some = other_of v.me h (guards_at scope v h) (own_guard scope is v within h low below) some

-- what goes to all guards goes to one of them
pub guards_told : {S : Type 0} (scope : Scope S) (v : View) (h : ℕ) (sent : List ℕ) → sent ≡ guards_at scope v h → 1 ≤ length (others v.me sent)
    → 1 ≤ tellable scope v h
guards_told scope v h sent all some = subst (λ gs. 1 ≤ length (others v.me gs)) all some

-- a content that is due to be logged fits
pub log_fits : {S : Type 0} (scope : Scope S) (v : View) (h : ℕ) (content : Content) → to_log scope v h ≡ Some content → fits scope v h content ≡ true
unfolding to_log
log_fits scope v h content e = passed (delivered (quorum_at scope v.epoch h) (v.desks h).votes) (only_some (is_open scope v h) _ content e)
  where
    only_some : (b : Bool) (o : Option Content) (x : Content) → only_if b o ≡ Some x → o ≡ Some x
    only_some true o x is = is
    only_some false o x is = absurd (cc)

    passed : (o : Option Content) → passing_only (fits scope v h) o ≡ Some content → fits scope v h content ≡ true
    passed None is = absurd (cc)
    passed (Some x) is = tested (fits scope v h x) refl is
      where
        tested : (b : Bool) → fits scope v h x ≡ b → (if b then Some x else None) ≡ Some content → fits scope v h content ≡ true
        tested true at same = let one : x ≡ content = cc in subst (λ y. fits scope v h y ≡ true) one at
        tested false at same = absurd (cc)

-- what fits fits once the votes are kept
pub kept_fits : {S : Type 0} (scope : Scope S) (v : View) (h : ℕ) (entry content : Content) → fits scope v h content ≡ true
    → fits scope (with_kept h entry v) h content ≡ true
unfolding fits next_number
kept_fits scope v h entry (External payload) is = is
kept_fits scope v h entry (Message p k payload) is = is

-- the number that is due to be attested is the next of its link
pub attest_next : {S : Type 0} (scope : Scope S) (v : View) (p h k : ℕ) (payload : List ℤ) → to_attest scope v p h ≡ Some (k, payload)
    → (range : Attested) × (v.attested p h ≡ Some range) × (range.next ≡ k)
unfolding to_attest
attest_next scope v p h k payload e = begun (v.attested p h) (only_some (not v.wedged && is_attesting scope v p h) _ e)
  where
    only_some : (b : Bool) (o : Option (ℕ × List ℤ)) → only_if b o ≡ Some (k, payload) → o ≡ Some (k, payload)
    only_some true o is = is
    only_some false o is = absurd (cc)

    begun : (o : Option Attested) → unattested (sent_to scope v p h) o ≡ Some (k, payload) → (range : Attested) × (o ≡ Some range) × (range.next ≡ k)
    begun None is = absurd (cc)
    begun (Some range) is = (range, refl, sent (slice_get (sent_to scope v p h) range.next) is)
      where
        sent : (o : Option (List ℤ)) → option_map {U = ℕ × List ℤ} (λ x. (range.next, x)) o ≡ Some (k, payload) → range.next ≡ k
        sent None same = absurd (cc)
        sent (Some x) same = ap number same
          where
            number : Option (ℕ × List ℤ) → ℕ
            number None = 0
            number (Some y) = y.0

-- a link whose attested number is in range has room for one more
pub attest_room : {P S : Type 0} (scope : Scope S) (node : Node P S) (v : View) → Means scope node v → (p h k : ℕ) (payload : List ℤ) → p < 32 → h < 32
    → to_attest scope v p h ≡ Some (k, payload) → k ≤ 65535 → IfSome (link_at node.links p h) (λ r. r.next ≤ 65535)
attest_room scope node v m p h k payload sender host e few =
    let next = attest_next scope v p h k payload e in
    subst (λ o. IfSome o (λ r. r.next ≤ 65535)) (sym (m.links p h sender host ∙ next.1)) (omega (arith, few, next.2))
