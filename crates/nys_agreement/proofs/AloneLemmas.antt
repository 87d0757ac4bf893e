-- What a host holds depends on what it took alone.
use Rattle.std.proofs.Common.{◌≡◌, ◌≢◌, ℕ, ◌+◌, ◌++◌, ◌∷◌, [], ℤ, List, Some, None, fold, refl, ap, sym, subst, ◌∙◌, inl, inr, eq-eqb}
use Rattle.std.specs.Prelude.{slice_get, Option}
use Rattle.std.proofs.lemmas.Bool.{cases_eq, ne_eqb}
use Rattle.std.proofs.lemmas.List.Sums.{fold-append}
use Rattle.nys_bytes.specs.declared.content.Content.{Content}
use Rattle.nys_bytes.specs.declared.content.Content.TheVariants.{External, Message}
use Rattle.nys_source.specs.Tables.{put}
use Rattle.nys_source.specs.Rules.{Rules}
use Rattle.nys_source.specs.Source.{fresh, Source}
use Rattle.nys_source.specs.Steps.{after_effect, after_message, after_step, after_payload, counted, with_state}
use Rattle.nys_source.specs.Runs.{after_run}
use Rattle.nys_source.specs.Contents.{contents_from, contents_taken, message_of, taken_in}
use Rattle.nys_source.specs.declared.effect.Effect.{Effect}
use Rattle.nys_source.specs.declared.effect.Effect.TheVariants.{Out, Send}
use Rattle.nys_source.specs.declared.step.Step.{Step}
use Rattle.nys_source.specs.declared.step.Step.TheVariants.{Input, Receive, Stop}
use Rattle.nys_agreement.specs.Alone.{after_content, alone}
use Rattle.nys_agreement.proofs.ListLemmas.{append_some}

-- two systems hold the same of host h
pub record SameAt {S : Type 0} (h : ℕ) (a b : Source S) : Type 0 where
  pub state : a.state h ≡ b.state h
  pub outs : a.outs h ≡ b.outs h
  pub sent : a.sent h ≡ b.sent h
  pub received : (p : ℕ) → a.received p h ≡ b.received p h

-- a system holds what it holds
same_itself : {S : Type 0} (h : ℕ) (a : Source S) → SameAt h a a
same_itself h a = record { state = refl; outs = refl; sent = refl; received = λ p. refl }

-- and what a third holds, through a second
same_through : {S : Type 0} (h : ℕ) (a b c : Source S) → SameAt h a b → SameAt h b c → SameAt h a c
same_through h a b c x y = record {
  state = x.state ∙ y.state;
  outs = x.outs ∙ y.outs;
  sent = x.sent ∙ y.sent;
  received = λ p. x.received p ∙ y.received p;
}

-- effects of h change both alike
effects_same : {S : Type 0} (h : ℕ) (effects : List Effect) (a b : Source S) → SameAt h a b → SameAt h (fold (after_effect h) a effects) (fold (after_effect h) b effects)
effects_same h [] a b same = same
effects_same h (Send to payload ∷ effects) a b same =
    effects_same h effects (after_effect h a (Send to payload)) (after_effect h b (Send to payload)) (record {
      state = same.state;
      outs = same.outs;
      sent = rw (eq-eqb h h refl) (ap (λ (f : ℕ → List (List ℤ)). put f to (f to ++ payload ∷ [])) same.sent);
      received = same.received;
    })
effects_same h (Out payload ∷ effects) a b same =
    effects_same h effects (after_effect h a (Out payload)) (after_effect h b (Out payload)) (record {
      state = same.state;
      outs = rw (eq-eqb h h refl) (ap (λ (o : List (List ℤ)). o ++ payload ∷ []) same.outs);
      sent = same.sent;
      received = same.received;
    })

-- what h makes of a payload is the same in both
made_same : {S : Type 0} (h : ℕ) (made other : S × List Effect) (a b : Source S) → made ≡ other → SameAt h a b → SameAt h (fold (after_effect h) (with_state a h made.0) made.1) (fold (after_effect h) (with_state b h other.0) other.1)
made_same {S} h made other a b e same =
    subst (λ (m : S × List Effect). SameAt h (fold (after_effect h) (with_state a h made.0) made.1) (fold (after_effect h) (with_state b h m.0) m.1)) e
    (effects_same h made.1 (with_state a h made.0) (with_state b h made.0) (record {
      state = rw (eq-eqb h h refl) refl;
      outs = same.outs;
      sent = same.sent;
      received = same.received;
    }))

-- a payload that h takes changes both alike
pub taking_same : {S : Type 0} (rules : Rules S) (h : ℕ) (from : Option ℕ) (payload : List ℤ) (a b : Source S) → SameAt h a b → SameAt h (after_payload rules a h from payload) (after_payload rules b h from payload)
unfolding after_payload
taking_same {S} rules h from payload a b same =
    made_same h (rules.next h (a.state h) from payload) (rules.next h (b.state h) from payload) a b (ap (λ (s : S). rules.next h s from payload) same.state) same

-- one payload more was received in both
counted_same : {S : Type 0} (p h : ℕ) (a b : Source S) → SameAt h a b → SameAt h (counted a p h) (counted b p h)
counted_same p h a b same = record {
  state = same.state;
  outs = same.outs;
  sent = same.sent;
  received = λ q. elim (cases_eq q p) [
    | inl e ↦ rw (eq-eqb q p e, eq-eqb h h refl) (ap (λ n. n + 1) (same.received p))
    | inr ne ↦ rw (ne_eqb q p ne) (same.received q)
  ];
}

-- effects of another host change nothing of h
effects_other : {S : Type 0} (g h : ℕ) → h ≢ g → (effects : List Effect) (a : Source S) → SameAt h (fold (after_effect g) a effects) a
effects_other g h ne [] a = same_itself h a
effects_other g h ne (Send to payload ∷ effects) a =
    let next = after_effect g a (Send to payload) in
    same_through h (fold (after_effect g) next effects) next a (effects_other g h ne effects next) (record {
      state = refl;
      outs = refl;
      sent = rw (ne_eqb h g ne) refl;
      received = λ p. refl;
    })
effects_other g h ne (Out payload ∷ effects) a =
    let next = after_effect g a (Out payload) in
    same_through h (fold (after_effect g) next effects) next a (effects_other g h ne effects next) (record {
      state = refl;
      outs = rw (ne_eqb h g ne) refl;
      sent = refl;
      received = λ p. refl;
    })

-- a payload that another host takes changes nothing of h
taking_other : {S : Type 0} (rules : Rules S) (g h : ℕ) → h ≢ g → (from : Option ℕ) (payload : List ℤ) (a : Source S) → SameAt h (after_payload rules a g from payload) a
unfolding after_payload
taking_other rules g h ne from payload a =
    let made = rules.next g (a.state g) from payload in
    let next = with_state a g made.0 in
    same_through h (fold (after_effect g) next made.1) next a (effects_other g h ne made.1 next) (record {
      state = rw (ne_eqb h g ne) refl;
      outs = refl;
      sent = refl;
      received = λ p. refl;
    })

-- what another host has received is not counted at h
counted_other : {S : Type 0} (p g h : ℕ) → h ≢ g → (a : Source S) → SameAt h (counted a p g) a
counted_other p g h ne a = record {
  state = refl;
  outs = refl;
  sent = refl;
  received = λ q. elim (cases_eq q p) [
    | inl e ↦ rw (eq-eqb q p e, ne_eqb h g ne, e) refl
    | inr other ↦ rw (ne_eqb q p other) refl
  ];
}

-- a message that another host takes changes nothing of h
message_other : {S : Type 0} (rules : Rules S) (p g h : ℕ) → h ≢ g → (found : Option (List ℤ)) (a : Source S) → SameAt h (after_message rules a g p found) a
message_other rules p g h ne None a = same_itself h a
message_other rules p g h ne (Some payload) a =
    same_through h (after_payload rules (counted a p g) g (Some p) payload) (counted a p g) a
    (taking_other rules g h ne (Some p) payload (counted a p g)) (counted_other p g h ne a)

-- a message that h takes changes both alike
message_same : {S : Type 0} (rules : Rules S) (p h k : ℕ) (found : Option (List ℤ)) (a b : Source S) → SameAt h a b → SameAt h (after_message rules a h p found) (fold (after_content rules h) b (message_of p k found))
message_same rules p h k None a b same = same
message_same rules p h k (Some payload) a b same = taking_same rules h (Some p) payload (counted a p h) (counted b p h) (counted_same p h a b same)

-- a step makes of h what the content that h takes in it makes
pub step_same : {S : Type 0} (rules : Rules S) (h : ℕ) (step : Step) (a b : Source S) → SameAt h a b → SameAt h (after_step rules a step) (fold (after_content rules h) b (taken_in a h step))
step_same rules h (Input g payload) a b same = elim (cases_eq g h) [
  | inl e ↦ rw (eq-eqb g h e, e) (taking_same rules h None payload a b same)
  | inr ne ↦ rw (ne_eqb g h ne) (same_through h (after_payload rules a g None payload) a b (taking_other rules g h (λ e. ne (sym e)) None payload a) same)
]
step_same rules h (Receive g p k) a b same = elim (cases_eq g h) [
  | inl e ↦ rw (eq-eqb g h e, e) (message_same rules p h k (slice_get (a.sent p h) k) a b same)
  | inr ne ↦ rw (ne_eqb g h ne) (same_through h (after_message rules a g p (slice_get (a.sent p g) k)) a b (message_other rules p g h (λ e. ne (sym e)) (slice_get (a.sent p g) k) a) same)
]
step_same rules h (Stop g) a b same = record { state = same.state; outs = same.outs; sent = same.sent; received = same.received }

-- steps make of h what the contents that it takes in them make
steps_same : {S : Type 0} (rules : Rules S) (h : ℕ) (steps : List Step) (a b : Source S) → SameAt h a b → SameAt h (fold (after_step rules) a steps) (fold (after_content rules h) b (contents_from rules a h steps))
steps_same rules h [] a b same = same
steps_same {S} rules h (step ∷ steps) a b same =
    let next = after_step rules a step in
    let taken = fold (after_content rules h) b (taken_in a h step) in
    subst (λ (s : Source S). SameAt h (fold (after_step rules) next steps) s)
    (sym (fold-append (after_content rules h) b (taken_in a h step) (contents_from rules next h steps)))
    (steps_same rules h steps next taken (step_same rules h step a b same))

-- a run leaves each host what the contents that it took give it alone
pub run_same : {S : Type 0} (rules : Rules S) (h : ℕ) (steps : List Step) → SameAt h (after_run rules steps) (alone rules h (contents_taken rules steps h))
run_same rules h steps = steps_same rules h steps (fresh rules) (fresh rules) (same_itself h (fresh rules))

-- what was sent stays sent
effects_keep : {S : Type 0} (h : ℕ) (effects : List Effect) (a : Source S) (x k : ℕ) (payload : List ℤ) → slice_get (a.sent h x) k ≡ Some payload → slice_get ((fold (after_effect h) a effects).sent h x) k ≡ Some payload
effects_keep h [] a x k payload e = e
effects_keep h (Out other ∷ effects) a x k payload e = effects_keep h effects (after_effect h a (Out other)) x k payload e
effects_keep h (Send to other ∷ effects) a x k payload e =
    effects_keep h effects (after_effect h a (Send to other)) x k payload (rw (eq-eqb h h refl) (elim (cases_eq x to) [
      | inl same ↦ rw (eq-eqb x to same) (append_some (a.sent h to) (other ∷ []) k payload (subst (λ (y : ℕ). slice_get (a.sent h y) k ≡ Some payload) same e))
      | inr ne ↦ rw (ne_eqb x to ne) e
    ]))

-- whatever the host takes next
content_keeps : {S : Type 0} (rules : Rules S) (h : ℕ) (c : Content) (a : Source S) (x k : ℕ) (payload : List ℤ) → slice_get (a.sent h x) k ≡ Some payload → slice_get ((after_content rules h a c).sent h x) k ≡ Some payload
unfolding after_payload
content_keeps rules h (External input) a x k payload e =
    let made = rules.next h (a.state h) None input in effects_keep h made.1 (with_state a h made.0) x k payload e
content_keeps rules h (Message p n input) a x k payload e =
    let made = rules.next h (a.state h) (Some p) input in effects_keep h made.1 (with_state (counted a p h) h made.0) x k payload e

-- however much it takes
contents_keep : {S : Type 0} (rules : Rules S) (h : ℕ) (more : List Content) (a : Source S) (x k : ℕ) (payload : List ℤ) → slice_get (a.sent h x) k ≡ Some payload → slice_get ((fold (after_content rules h) a more).sent h x) k ≡ Some payload
contents_keep rules h [] a x k payload e = e
contents_keep rules h (c ∷ more) a x k payload e = contents_keep rules h more (after_content rules h a c) x k payload (content_keeps rules h c a x k payload e)

-- a longer log has sent what a shorter one had
pub alone_keeps : {S : Type 0} (rules : Rules S) (h : ℕ) (log more : List Content) (x k : ℕ) (payload : List ℤ) → slice_get ((alone rules h log).sent h x) k ≡ Some payload → slice_get ((alone rules h (log ++ more)).sent h x) k ≡ Some payload
alone_keeps {S} rules h log more x k payload e =
    subst (λ (s : Source S). slice_get (s.sent h x) k ≡ Some payload) (sym (fold-append (after_content rules h) (fresh rules) log more))
    (contents_keep rules h more (alone rules h log) x k payload e)
