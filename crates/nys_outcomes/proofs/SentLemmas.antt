-- How much longer one entry of its log makes what a host sent on a link: by at most 64.
use Rattle.std.proofs.Common.{◌≡◌, ℕ, ◌+◌, ◌<◌, ◌≤◌, ℤ, List, [], ◌∷◌, ◌++◌, length, fold, Some, None, refl, sym, subst, arith}
use Rattle.std.proofs.lemmas.List.{length-append}
use Rattle.nys_agreement.specs.Alone.{after_content, alone}
use Rattle.nys_agreement.proofs.TableLemmas.{put_at_case}
use Rattle.nys_bytes.specs.declared.content.Content.{Content}
use Rattle.nys_bytes.specs.declared.content.Content.TheVariants.{External, Message}
use Rattle.nys_source.specs.Rules.{Rules}
use Rattle.nys_source.specs.Source.{fresh, Source}
use Rattle.nys_source.specs.Steps.{after_effect, after_payload, counted, with_state}
use Rattle.nys_source.specs.declared.effect.Effect.{Effect}
use Rattle.nys_source.specs.declared.effect.Effect.TheVariants.{Out, Send}
use Rattle.nys_outcomes.specs.Outcomes.{HasFewEffects}

-- a send makes one list one longer
send_short : {S : Type 0} (p to : ℕ) (payload : List ℤ) (a : Source S) (h : ℕ)
    → length ((after_effect p a (Send to payload)).sent p h) ≤ length (a.sent p h) + 1
send_short p to payload a h =
    put_at_case (λ (l : List (List ℤ)). length l ≤ length (a.sent p h) + 1) a.sent p to (a.sent p to ++ payload ∷ []) p h
    (λ same is. subst (λ y. length (a.sent p to ++ payload ∷ []) ≤ length (a.sent p y) + 1) (sym is)
    (omega (arith, length-append (a.sent p to) (payload ∷ []))))
    (λ other. omega arith)

-- so effects make it at most as much longer as they are
effects_short : {S : Type 0} (p : ℕ) (effects : List Effect) (a : Source S) (h : ℕ)
    → length ((fold (after_effect p) a effects).sent p h) ≤ length (a.sent p h) + length effects
effects_short p [] a h = omega arith
effects_short p (Send to payload ∷ effects) a h =
    omega (arith, effects_short p effects (after_effect p a (Send to payload)) h, send_short p to payload a h)
effects_short p (Out payload ∷ effects) a h = omega (arith, effects_short p effects (after_effect p a (Out payload)) h)

-- a content makes it at most 64 longer
content_short : {S : Type 0} (rules : Rules S) → HasFewEffects rules → (p : ℕ) → p < rules.hosts → (c : Content) (a : Source S) (h : ℕ)
    → length ((after_content rules p a c).sent p h) ≤ length (a.sent p h) + 64
unfolding after_payload
content_short rules few p low (External payload) a h =
    let made = rules.next p (a.state p) None payload in
    omega (arith, effects_short p made.1 (with_state a p made.0) h, few p (a.state p) None payload low)
content_short rules few p low (Message q k payload) a h =
    let made = rules.next p (a.state p) (Some q) payload in
    omega (arith, effects_short p made.1 (with_state (counted a q p) p made.0) h, few p (a.state p) (Some q) payload low)

-- a fold over one more
fold_more : {A B : Type 0} (f : B → A → B) (b : B) (xs : List A) (x : A) → fold f b (xs ++ x ∷ []) ≡ f (fold f b xs) x
fold_more f b [] x = refl
fold_more f b (y ∷ xs) x = fold_more f (f b y) xs x

-- one entry more of the log does
pub entry_short : {S : Type 0} (rules : Rules S) → HasFewEffects rules → (p h : ℕ) → p < rules.hosts → (log : List Content) (c : Content)
    → length ((alone rules p (log ++ c ∷ [])).sent p h) ≤ length ((alone rules p log).sent p h) + 64
entry_short {S} rules few p h low log c =
    subst (λ (a : Source S). length (a.sent p h) ≤ length ((alone rules p log).sent p h) + 64)
    (sym (fold_more (after_content rules p) (fresh rules) log c))
    (content_short rules few p low c (alone rules p log) h)
