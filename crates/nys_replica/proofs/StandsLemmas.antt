-- What follows from standing for a log.
use Rattle.std.proofs.Common.{◌≡◌, ℕ, ◌+◌, ◌<◌, ◌≤◌, List, [], ◌∷◌, ◌++◌, length, drop, fold, refl, ap, sym, subst, ◌∙◌, arith, length-append, replicate, ℤ, Option, inl, inr, eq-eqb}
use Rattle.std.proofs.lemmas.Bool.{cases_eq, ne_eqb}
use Rattle.std.proofs.lemmas.List.{drop-append-le}
use Rattle.std.proofs.lemmas.List.Sums.{fold-append}
use Rattle.nys_bytes.specs.declared.content.Content.{Content}
use Rattle.nys_bytes.specs.declared.content.Content.TheVariants.{External, Message}
use Rattle.nys_source.specs.Rules.{Rules}
use Rattle.nys_source.specs.Source.{fresh, Source}
use Rattle.nys_source.specs.Steps.{after_effect, after_payload, counted, with_state}
use Rattle.nys_source.specs.Tables.{at_each, put}
use Rattle.nys_source.specs.declared.effect.Effect.{Effect}
use Rattle.nys_source.proofs.TableLemmas.{at_each-replicate, lists_at-empty}
use Rattle.nys_agreement.specs.Alone.{after_content, alone, Fits}
use Rattle.nys_replica.specs.Packing.{IsPacked}
use Rattle.nys_replica.specs.Stands.{entries_of, Holds, kept_from, StandsFor}
use Rattle.nys_replica.specs.Taking.{HasRoom}
use Rattle.nys_replica.specs.declared.replica.Replica.{Replica}
use Rattle.nys_replica.proofs.EffectLemmas.{received_few}

-- the logs for which a replica stands have one length
pub same_length : {P S : Type 0} (rules : Rules S) (h g : ℕ) (replica : Replica P S) (log other : List Content) → StandsFor rules h replica log → StandsFor rules g replica other → length log ≡ length other
same_length rules h g replica log other one two = sym one.count ∙ two.count

-- empty tables, and the numbers of the first state, hold what the system at the beginning has of a host
pub holds_fresh : {P S : Type 0} (rules : Rules S) (h : ℕ) (replica : Replica P S) → replica.h ≡ h → IsPacked replica.packed.items (rules.view (rules.start h)) → replica.outs.items ≡ [] → replica.sent ≡ replicate 32 [] → replica.received ≡ replicate 32 0 → Holds rules h replica (fresh rules)
holds_fresh rules h replica host state outs sent received = record {
  host = host;
  state = state;
  outs = outs;
  sent = rw sent (lists_at-empty 32);
  received = λ p. rw received (ap (λ f. f p) (at_each-replicate 0 32));
}

-- the replica has the numbers of another state, and else all that the other has
pub record HasOther {P S : Type 0} (rules : Rules S) (old between : Replica P S) (state : S) : Type 0 where
  pub host : between.h ≡ old.h
  pub packed : IsPacked between.packed.items (rules.view state)
  pub outs : between.outs.items ≡ old.outs.items
  pub sent : between.sent ≡ old.sent
  pub received : between.received ≡ old.received

-- effects that follow from the state in the system leave what the system then has
pub holds_taking : {P S : Type 0} (rules : Rules S) (h : ℕ) (old between new : Replica P S) (system : Source S) (from : Option ℕ) (payload : List ℤ) (state : S) (effects : List Effect)
    → Holds rules h old system
    → ((shown : S) → IsPacked old.packed.items (rules.view shown) → (state, effects) ≡ rules.next old.h shown from payload)
    → HasOther rules old between state
    → ((g : ℕ) (before : Source S) → Holds rules g between before → Holds rules g new (fold (after_effect g) before effects))
    → Holds rules h new (after_payload rules system h from payload)
unfolding after_payload
holds_taking {P} {S} rules h old between new system from payload state effects held made other step =
    let next = made (system.state h) held.state ∙ ap (λ (g : ℕ). rules.next g (system.state h) from payload) held.host in
    subst (λ (m : S × List Effect). Holds rules h new (fold (after_effect h) (with_state system h m.0) m.1)) next
    (step h (with_state system h state) (record {
      host = other.host ∙ held.host;
      state = rw (eq-eqb h h refl) other.packed;
      outs = other.outs ∙ held.outs;
      sent = rw other.sent held.sent;
      received = rw other.received held.received;
    }))

-- a number that grows is one payload more that was received
pub holds_counted : {P S : Type 0} (rules : Rules S) (h p : ℕ) (old : Replica P S) (numbers : List ℕ) (system : Source S) → at_each (λ _. 0) numbers ≡ put (at_each (λ _. 0) old.received) p (at_each (λ _. 0) old.received p + 1) → Holds rules h old system → Holds rules h (record old { received = numbers }) (counted system p h)
holds_counted rules h p old numbers system grown held = record {
  host = held.host;
  state = held.state;
  outs = held.outs;
  sent = held.sent;
  received = λ q. ap (λ f. f q) grown ∙ elim (cases_eq q p) [
    | inl same ↦ rw (eq-eqb q p same, eq-eqb h h refl) (ap (λ n. n + 1) (held.received p))
    | inr other ↦ rw (ne_eqb q p other) (held.received q)
  ];
}

-- a content that comes next has its place in the table of numbers taken
pub has_room : {P S : Type 0} (rules : Rules S) (h : ℕ) (replica : Replica P S) (log : List Content) (content : Content) → rules.hosts ≤ 32 → StandsFor rules h replica log → length log < 1024 → Fits rules h log content → HasRoom replica content
has_room rules h replica log (External payload) few stands room fits = tt
has_room rules h replica log (Message p k payload) few stands room fits =
    (omega (arith, few, fits.0), rw (stands.holds.received p) (omega (arith, received_few rules h p log)))

-- once a content is taken and is the last entry, the replica stands for the log with it
pub stands_more : {P S : Type 0} (rules : Rules S) (h : ℕ) (old new : Replica P S) (log : List Content) (content : Content) → StandsFor rules h old log → length log < 1024 → kept_from new ≡ kept_from old → entries_of new ≡ entries_of old ++ content ∷ [] → Holds rules h new (after_content rules h (alone rules h log) content) → StandsFor rules h new (log ++ content ∷ [])
stands_more {P} {S} rules h old new log content stands room kept entries holds = record {
  inside = stands.inside;
  short = rw length-append (omega arith);
  count = omega (arith, kept, stands.count, ap length entries, length-append (entries_of old) (content ∷ []), length-append log (content ∷ []));
  entries = entries ∙ ap (λ (l : List Content). l ++ content ∷ []) stands.entries
      ∙ sym (drop-append-le (kept_from old) log (content ∷ []) (omega (arith, stands.count)))
      ∙ ap (λ (k : ℕ). drop k (log ++ content ∷ [])) (sym kept);
  holds = subst (λ (s : Source S). Holds rules h new s) (sym (fold-append (after_content rules h) (fresh rules) log (content ∷ []))) holds;
}
