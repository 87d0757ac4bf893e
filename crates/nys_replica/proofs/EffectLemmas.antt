-- What effects have to do with the tables of a replica.
use Rattle.std.proofs.Common.{◌≡◌, ℕ, ◌+◌, ◌≤◌, List, [], ◌∷◌, ℤ, Option, Some, None, fold, length, ap, refl, inl, inr, eq-eqb, arith, slice_index_or}
use Rattle.std.specs.Prelude.{All}
use Rattle.std.proofs.lemmas.Bool.{cases_eq, ne_eqb}
use Rattle.nys_bytes.specs.declared.content.Content.{Content}
use Rattle.nys_bytes.specs.declared.content.Content.TheVariants.{External, Message}
use Rattle.nys_graph.specs.Links.{IsGraph}
use Rattle.nys_source.specs.Rules.{IsEffectOf, Rules}
use Rattle.nys_source.specs.Source.{fresh, Source}
use Rattle.nys_source.specs.Steps.{after_effect, after_payload, counted, with_state}
use Rattle.nys_source.specs.declared.effect.Effect.{Effect}
use Rattle.nys_source.specs.declared.effect.Effect.TheVariants.{Out, Send}
use Rattle.nys_agreement.specs.Alone.{after_content, alone}
use Rattle.nys_replica.specs.Taking.{IsNear}

-- a neighbour is a host, so it has a row
near_one : {S : Type 0} (rules : Rules S) (h : ℕ) (effect : Effect) → IsGraph rules.hosts rules.linked → IsEffectOf rules h effect → IsNear effect
near_one rules h (Send to payload) graph allowed =
    let ends = graph.within h to allowed in omega (arith, ends.1, graph.few)
near_one rules h (Out payload) graph allowed = tt

-- so have all that a step sends to
pub near_all : {S : Type 0} (rules : Rules S) (h : ℕ) (effects : List Effect) → IsGraph rules.hosts rules.linked → All (IsEffectOf rules h) effects → All IsNear effects
near_all rules h effects graph allowed = λ k d inside. near_one rules h (slice_index_or effects k d) graph (allowed k d inside)

-- effects receive nothing
effects_received : {S : Type 0} (h : ℕ) (effects : List Effect) (before : Source S) → (fold (after_effect h) before effects).received ≡ before.received
effects_received h [] before = refl
effects_received h (Send to payload ∷ effects) before = effects_received h effects (after_effect h before (Send to payload))
effects_received h (Out payload ∷ effects) before = effects_received h effects (after_effect h before (Out payload))

-- a payload that is taken is not received again
pub taking_received : {S : Type 0} (rules : Rules S) (before : Source S) (h : ℕ) (from : Option ℕ) (payload : List ℤ) → (after_payload rules before h from payload).received ≡ before.received
unfolding after_payload
taking_received rules before h from payload =
    let made = rules.next h (before.state h) from payload in
    effects_received h made.1 (with_state before h made.0)

-- a message is received once
counted_received : {S : Type 0} (before : Source S) (q p h : ℕ) → (counted before q h).received p h ≤ before.received p h + 1
counted_received before q p h = elim (cases_eq p q) [
  | inl same ↦ rw (eq-eqb p q same, eq-eqb h h refl, same) (omega arith)
  | inr other ↦ rw (ne_eqb p q other) (omega arith)
]

-- a content brings at most one payload more from each host
content_received : {S : Type 0} (rules : Rules S) (h : ℕ) (before : Source S) (content : Content) (p : ℕ) → (after_content rules h before content).received p h ≤ before.received p h + 1
content_received rules h before (External payload) p =
    let same = ap (λ r. r p h) (taking_received rules before h None payload) in rw same (omega arith)
content_received rules h before (Message q k payload) p =
    let same = ap (λ r. r p h) (taking_received rules (counted before q h) h (Some q) payload) in
    rw same (counted_received before q p h)

-- so contents bring at most as many as they are
contents_received : {S : Type 0} (rules : Rules S) (h p : ℕ) (contents : List Content) (before : Source S) → (fold (after_content rules h) before contents).received p h ≤ before.received p h + length contents
contents_received rules h p [] before = omega arith
contents_received rules h p (content ∷ contents) before =
    let first = content_received rules h before content p in
    let others = contents_received rules h p contents (after_content rules h before content) in
    omega (arith, first, others)

-- a log has received at most as many payloads of a host as it has entries
pub received_few : {S : Type 0} (rules : Rules S) (h p : ℕ) (log : List Content) → (alone rules h log).received p h ≤ length log
received_few rules h p log =
    let most : (alone rules h log).received p h ≤ 0 + length log = contents_received rules h p log (fresh rules) in
    omega (arith, most)
