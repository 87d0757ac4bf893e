-- What the sends of a host leave: one payload more on the link to each host that passes the test.
use Rattle.std.proofs.Common.{◌≡◌, ℕ, zero, suc, ◌+◌, ◌<◌, ◌≤◌, ◌⊎◌, ◌==◌, Bool, true, false, cond, List, [], ◌∷◌, ◌++◌, fold, map, filter, refl, sym, ap, ◌∙◌, subst, inl, inr, arith, eq-eqb}
use Rattle.std.specs.Prelude.{ℤ}
use Rattle.std.specs.List.{range_with_len}
use Rattle.std.proofs.lemmas.Bool.{cases_eq, cond-true, cond-false, ne_eqb}
use Rattle.nys_source.specs.Source.{Source}
use Rattle.nys_source.specs.Steps.{after_effect}
use Rattle.nys_source.specs.Tables.{put, put_at}
use Rattle.nys_source.specs.declared.effect.Effect.{Effect}
use Rattle.nys_source.specs.declared.effect.Effect.TheVariants.{Send}
use Rattle.nys_route.specs.Sends.{sends_where}

-- ---- one place of a function

pub put_here : {A : Type 0} (f : ℕ → A) (at : ℕ) (value : A) → put f at value at ≡ value
put_here f at value = cond-true (at == at) value (f at) (eq-eqb at at refl)

pub put_else : {A : Type 0} (f : ℕ → A) (at : ℕ) (value : A) (x : ℕ) → (x ≡ at → ⊥) → put f at value x ≡ f x
put_else f at value x other = cond-false (x == at) value (f x) (ne_eqb x at other)

pub put_at_here : {A : Type 0} (f : ℕ → ℕ → A) (p h : ℕ) (value : A) → put_at f p h value p h ≡ value
put_at_here f p h value = ap (λ g. g h) (put_here f p (put (f p) h value)) ∙ put_here (f p) h value

pub put_at_to : {A : Type 0} (f : ℕ → ℕ → A) (p h : ℕ) (value : A) (q : ℕ) → (q ≡ h → ⊥) → put_at f p h value p q ≡ f p q
put_at_to f p h value q other = ap (λ g. g q) (put_here f p (put (f p) h value)) ∙ put_else (f p) h value q other

pub put_at_from : {A : Type 0} (f : ℕ → ℕ → A) (p h : ℕ) (value : A) (a b : ℕ) → (a ≡ p → ⊥) → put_at f p h value a b ≡ f a b
put_at_from f p h value a b other = ap (λ g. g b) (put_else f p (put (f p) h value) a other)

-- ---- the sends of one host

-- what is sent after host h has sent a payload to those from a on, so many, that pass a test
record SendsFrom (before after : ℕ → ℕ → List (List ℤ)) (h : ℕ) (test : ℕ → Bool) (payload : List ℤ) (a n : ℕ) : Type 0 where
  to : (q : ℕ) → a ≤ q → q < a + n → test q ≡ true → after h q ≡ before h q ++ payload ∷ []
  not : (q : ℕ) → (q < a) ⊎ ((a + n ≤ q) ⊎ (test q ≡ false)) → after h q ≡ before h q
  else : (p q : ℕ) → (p ≡ h → ⊥) → after p q ≡ before p q

-- the sends change nothing but what is sent
record OnlySends {S : Type 0} (before after : Source S) : Type 0 where
  state : after.state ≡ before.state
  running : after.running ≡ before.running
  outs : after.outs ≡ before.outs
  received : after.received ≡ before.received

sends_from : {S : Type 0} (h : ℕ) (test : ℕ → Bool) (payload : List ℤ) (n a : ℕ) (now : Source S)
    → SendsFrom now.sent (fold (after_effect h) now (map (λ q. Send q payload) (filter test (range_with_len a n)))).sent h test payload a n
    × OnlySends now (fold (after_effect h) now (map (λ q. Send q payload) (filter test (range_with_len a n))))
sends_from h test payload zero a now = (
  record { to = λ q low high passes. absurd (omega (arith, low, high)); not = λ q out. refl; else = λ p q other. refl },
  record { state = refl; running = refl; outs = refl; received = refl },
)
sends_from {S} h test payload (suc n) a now = go (λ next. sends_from h test payload n (a + 1) next) (test a) refl
  where
    rest : List Effect
    rest = map (λ q. Send q payload) (filter test (range_with_len (a + 1) n))

    go : ((next : Source S) → SendsFrom next.sent (fold (after_effect h) next rest).sent h test payload (a + 1) n × OnlySends next (fold (after_effect h) next rest))
        → (b : Bool) → test a ≡ b
        → SendsFrom now.sent (fold (after_effect h) now (map (λ q. Send q payload) (cond b (a ∷ filter test (range_with_len (a + 1) n)) (filter test (range_with_len (a + 1) n))))).sent h test payload a (suc n)
        × OnlySends now (fold (after_effect h) now (map (λ q. Send q payload) (cond b (a ∷ filter test (range_with_len (a + 1) n)) (filter test (range_with_len (a + 1) n)))))
    go on true here =
        let next : Source S = after_effect h now (Send a payload) in
        let tail = on next in (
          record {
            to = λ q low high passes. elim (cases_eq q a) [
              | inl same ↦
                  subst (λ r. (fold (after_effect h) next rest).sent h r ≡ now.sent h r ++ payload ∷ []) (sym same)
                  (tail.0.not a (inl (omega arith)) ∙ put_at_here now.sent h a (now.sent h a ++ payload ∷ []))
              | inr other ↦
                  tail.0.to q (omega (arith, low, other)) (omega (arith, high)) passes
                  ∙ ap (λ xs. xs ++ payload ∷ []) (put_at_to now.sent h a (now.sent h a ++ payload ∷ []) q other)
            ];
            not = λ q out. elim (cases_eq q a) [
              | inl same ↦ absurd (inside q same out)
              | inr other ↦ tail.0.not q (later q out) ∙ put_at_to now.sent h a (now.sent h a ++ payload ∷ []) q other
            ];
            else = λ p q other. tail.0.else p q other ∙ put_at_from now.sent h a (now.sent h a ++ payload ∷ []) p q other;
          },
          record { state = tail.1.state; running = tail.1.running; outs = tail.1.outs; received = tail.1.received },
        )
      where
        inside : (q : ℕ) → q ≡ a → (q < a) ⊎ ((a + suc n ≤ q) ⊎ (test q ≡ false)) → ⊥
        inside q same (inl low) = omega (arith, same, low)
        inside q same (inr (inl high)) = omega (arith, same, high)
        inside q same (inr (inr fails)) = let no : true ≡ false = sym here ∙ ap test (sym same) ∙ fails in cc

        later : (q : ℕ) → (q < a) ⊎ ((a + suc n ≤ q) ⊎ (test q ≡ false)) → (q < a + 1) ⊎ ((a + 1 + n ≤ q) ⊎ (test q ≡ false))
        later q (inl low) = inl (omega (arith, low))
        later q (inr (inl high)) = inr (inl (omega (arith, high)))
        later q (inr (inr fails)) = inr (inr fails)
    go on false here =
        let tail = on now in (
          record {
            to = λ q low high passes. elim (cases_eq q a) [
              | inl same ↦ let no : true ≡ false = sym passes ∙ ap test same ∙ here in absurd (cc)
              | inr other ↦ tail.0.to q (omega (arith, low, other)) (omega (arith, high)) passes
            ];
            not = λ q out. tail.0.not q (later q out);
            else = λ p q other. tail.0.else p q other;
          },
          tail.1,
        )
      where
        later : (q : ℕ) → (q < a) ⊎ ((a + suc n ≤ q) ⊎ (test q ≡ false)) → (q < a + 1) ⊎ ((a + 1 + n ≤ q) ⊎ (test q ≡ false))
        later q (inl low) = inl (omega (arith, low))
        later q (inr (inl high)) = elim (cases_eq q a) [
          | inl same ↦ absurd (omega (arith, same, high))
          | inr other ↦ inr (inl (omega (arith, high)))
        ]
        later q (inr (inr fails)) = inr (inr fails)

-- what the sends of a host to those that pass a test leave
pub record AreSent {S : Type 0} (now after : Source S) (h hosts : ℕ) (test : ℕ → Bool) (payload : List ℤ) : Type 0 where
  pub state : after.state ≡ now.state
  pub running : after.running ≡ now.running
  pub outs : after.outs ≡ now.outs
  pub received : after.received ≡ now.received
  pub to : (q : ℕ) → q < hosts → test q ≡ true → after.sent h q ≡ now.sent h q ++ payload ∷ []
  pub not : (q : ℕ) → test q ≡ false → after.sent h q ≡ now.sent h q
  pub past : (q : ℕ) → hosts ≤ q → after.sent h q ≡ now.sent h q
  pub else : (p q : ℕ) → (p ≡ h → ⊥) → after.sent p q ≡ now.sent p q

pub are_sent : {S : Type 0} (now : Source S) (h hosts : ℕ) (test : ℕ → Bool) (payload : List ℤ)
    → AreSent now (fold (after_effect h) now (sends_where hosts test payload)) h hosts test payload
are_sent now h hosts test payload =
    let all = sends_from h test payload hosts 0 now in
    record {
      state = all.1.state;
      running = all.1.running;
      outs = all.1.outs;
      received = all.1.received;
      to = λ q inside passes. all.0.to q (omega arith) (omega (arith, inside)) passes;
      not = λ q fails. all.0.not q (inr (inr fails));
      past = λ q over. all.0.not q (inr (inl (omega (arith, over))));
      else = all.0.else;
    }
