-- How much the log of a host sends and receives: each entry at most 64 sends, and one receipt.
use Rattle.std.proofs.Common.{◌≡◌, ℕ, ◌+◌, ◌*◌, ◌<◌, ◌≤◌, ℤ, List, [], ◌∷◌, ◌++◌, length, fold, Some, None, refl, sym, subst, arith}
use Rattle.std.proofs.lemmas.List.{length-append}
use Rattle.nys_agreement.specs.Alone.{after_content, alone}
use Rattle.nys_agreement.proofs.TableLemmas.{put_at_case}
use Rattle.nys_bytes.specs.declared.content.Content.{Content}
use Rattle.nys_bytes.specs.declared.content.Content.TheVariants.{External, Message}
use Rattle.nys_source.specs.Rules.{Rules}
use Rattle.nys_source.specs.Source.{fresh, Source}
use Rattle.nys_source.specs.Steps.{after_effect, after_payload, counted, with_state}
use Rattle.nys_source.specs.declared.effect.Effect.{Effect}
use Rattle.nys_source.specs.declared.effect.Effect.TheVariants.{Out, Send}
use Rattle.nys_rules.specs.Scope.{Scope}
use Rattle.nys_node.specs.Sound.{IsScope}

-- a send makes one list one longer
send_short : {S : Type 0} (p to : ℕ) (payload : List ℤ) (a : Source S) (h : ℕ)
    → length ((after_effect p a (Send to payload)).sent p h) ≤ length (a.sent p h) + 1
send_short p to payload a h =
    put_at_case (λ (l : List (List ℤ)). length l ≤ length (a.sent p h) + 1) a.sent p to (a.sent p to ++ payload ∷ []) p h
    (λ same is. subst (λ y. length (a.sent p to ++ payload ∷ []) ≤ length (a.sent p y) + 1) (sym is)
    (omega (arith, length-append (a.sent p to) (payload ∷ []))))
    (λ other. omega arith)

-- so effects make it at most as much longer as they are
effects_short : {S : Type 0} (p : ℕ) (effects : List Effect) (a : Source S) (h : ℕ)
    → length ((fold (after_effect p) a effects).sent p h) ≤ length (a.sent p h) + length effects
effects_short p [] a h = omega arith
effects_short p (Send to payload ∷ effects) a h =
    omega (arith, effects_short p effects (after_effect p a (Send to payload)) h, send_short p to payload a h)
effects_short p (Out payload ∷ effects) a h = omega (arith, effects_short p effects (after_effect p a (Out payload)) h)

-- effects receive nothing
effects_receive : {S : Type 0} (h : ℕ) (effects : List Effect) (a : Source S) (p x : ℕ)
    → (fold (after_effect h) a effects).received p x ≡ a.received p x
effects_receive h [] a p x = refl
effects_receive h (Send to payload ∷ effects) a p x = effects_receive h effects (after_effect h a (Send to payload)) p x
effects_receive h (Out payload ∷ effects) a p x = effects_receive h effects (after_effect h a (Out payload)) p x

-- a content makes a link's list at most 64 longer
content_short : {S : Type 0} (scope : Scope S) → IsScope scope → (p : ℕ) → p < scope.rules.hosts → (c : Content) (a : Source S) (h : ℕ)
    → length ((after_content scope.rules p a c).sent p h) ≤ length (a.sent p h) + 64
unfolding after_payload
content_short scope is p low (External payload) a h =
    let made = scope.rules.next p (a.state p) None payload in
    omega (arith, effects_short p made.1 (with_state a p made.0) h, (is.effects p (a.state p) None payload low).few)
content_short scope is p low (Message q k payload) a h =
    let made = scope.rules.next p (a.state p) (Some q) payload in
    omega (arith, effects_short p made.1 (with_state (counted a q p) p made.0) h, (is.effects p (a.state p) (Some q) payload low).few)

-- one message more is counted
counted_short : {S : Type 0} (q p h : ℕ) (a : Source S) → (counted a q h).received p h ≤ a.received p h + 1
counted_short q p h a =
    put_at_case (λ n. n ≤ a.received p h + 1) a.received q h (a.received q h + 1) p h
    (λ same is. subst (λ y. a.received q h + 1 ≤ a.received y h + 1) (sym same) (omega arith)) (λ other. omega arith)

-- a content receives at most one message
content_receives : {S : Type 0} (rules : Rules S) (h : ℕ) (c : Content) (a : Source S) (p : ℕ)
    → (after_content rules h a c).received p h ≤ a.received p h + 1
unfolding after_payload
content_receives rules h (External payload) a p =
    let made = rules.next h (a.state h) None payload in
    omega (arith, effects_receive h made.1 (with_state a h made.0) p h)
content_receives rules h (Message q k payload) a p =
    let made = rules.next h (a.state h) (Some q) payload in
    omega (arith, effects_receive h made.1 (with_state (counted a q h) h made.0) p h, counted_short q p h a)

-- contents, one after another
contents_short : {S : Type 0} (scope : Scope S) → IsScope scope → (p : ℕ) → p < scope.rules.hosts → (log : List Content) (a : Source S) (h : ℕ)
    → length ((fold (after_content scope.rules p) a log).sent p h) ≤ length (a.sent p h) + 64 * length log
contents_short scope is p low [] a h = omega arith
contents_short scope is p low (c ∷ log) a h =
    omega (arith, contents_short scope is p low log (after_content scope.rules p a c) h, content_short scope is p low c a h)

-- contents receive at most one message each
contents_receive : {S : Type 0} (rules : Rules S) (h : ℕ) (log : List Content) (a : Source S) (p : ℕ)
    → (fold (after_content rules h) a log).received p h ≤ a.received p h + length log
contents_receive rules h [] a p = omega arith
contents_receive rules h (c ∷ log) a p =
    omega (arith, contents_receive rules h log (after_content rules h a c) p, content_receives rules h c a p)

-- a log of at most 1,024 entries sends at most 65,536 messages on a link
pub sent_short : {S : Type 0} (scope : Scope S) → IsScope scope → (p h : ℕ) (log : List Content) → p < scope.rules.hosts
    → length log ≤ 1024 → length ((alone scope.rules p log).sent p h) ≤ 65536
sent_short scope is p h log low short = omega (arith, contents_short scope is p low log (fresh scope.rules) h, short)

-- a log receives at most as many messages of a link as it has entries
pub received_short : {S : Type 0} (rules : Rules S) (p h : ℕ) (log : List Content)
    → (alone rules h log).received p h ≤ length log
received_short rules p h log = omega (arith, contents_receive rules h log (fresh rules) p)
