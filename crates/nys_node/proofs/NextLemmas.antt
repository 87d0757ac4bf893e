-- What is received, and heard, once a log has one entry more.
use Rattle.std.proofs.Common.{◌≡◌, ℕ, ◌+◌, ◌<◌, ◌≤◌, ◌==◌, ◌++◌, ◌∷◌, [], Bool, true, false, cond, ℤ, List, Option, Some, None, refl, ap, sym, subst, ◌∙◌, arith, inl, inr, eq-eqb}
use Rattle.std.proofs.lemmas.Bool.{cases_eq, ne_eqb}
use Rattle.std.proofs.lemmas.Bool.Decides.{Decides-eqb}
use Rattle.std.proofs.lemmas.List.Sums.{fold-append}
use Rattle.nys_agreement.specs.Alone.{after_content, alone}
use Rattle.nys_agreement.proofs.TableLemmas.{put_there}
use Rattle.nys_attest.specs.Windows.{next_of, seats_at, Window}
use Rattle.nys_bytes.specs.declared.content.Content.{Content}
use Rattle.nys_bytes.specs.declared.content.Content.TheVariants.{External, Message}
use Rattle.nys_replica.proofs.EffectLemmas.{taking_received}
use Rattle.nys_source.specs.Rules.{Rules}
use Rattle.nys_source.specs.Source.{fresh, Source}
use Rattle.nys_source.specs.Steps.{counted}
use Rattle.nys_source.specs.Tables.{put}
use Rattle.nys_votes.specs.Seats.{no_seats}
use Rattle.nys_node.specs.Logging.{IsMoved}
use Rattle.nys_node.specs.Means.{HearsOf}

-- how many messages of each host were received, once a content is taken
abbrev pub next_after : Content → (ℕ → ℕ) → ℕ → ℕ
next_after (External payload) received p = received p
next_after (Message q k payload) received p = put received q (received q + 1) p

-- a message is received at its receiver once
counted_one : {S : Type 0} (before : Source S) (q p h : ℕ) → (counted before q h).received p h ≡ put (λ x. before.received x h) q (before.received q h + 1) p
counted_one before q p h = elim (cases_eq p q) [
  | inl same ↦ rw (eq-eqb p q same, eq-eqb h h refl) refl
  | inr other ↦ rw (ne_eqb p q other) refl
]

-- a content is received where it is a message, and nothing else
content_next : {S : Type 0} (rules : Rules S) (h : ℕ) (before : Source S) (content : Content) (p : ℕ)
    → (after_content rules h before content).received p h ≡ next_after content (λ x. before.received x h) p
content_next rules h before (External payload) p = ap (λ r. r p h) (taking_received rules before h None payload)
content_next rules h before (Message q k payload) p =
    ap (λ r. r p h) (taking_received rules (counted before q h) h (Some q) payload) ∙ counted_one before q p h

-- what a log with one entry more has received
pub log_next : {S : Type 0} (rules : Rules S) (h : ℕ) (log : List Content) (content : Content) (p : ℕ)
    → (alone rules h (log ++ content ∷ [])).received p h ≡ next_after content (λ x. (alone rules h log).received x h) p
log_next {S} rules h log content p =
    ap (λ (s : Source S). s.received p h) (fold-append (after_content rules h) (fresh rules) log (content ∷ []))
    ∙ content_next rules h (alone rules h log) content p

-- what is heard goes on with the log
pub hears_on : {S : Type 0} (rules : Rules S) (h : ℕ) (log : List Content) (content : Content) (old new : List Window) (heard : ℕ → ℕ → List (Option (List ℤ)))
    → IsMoved content old new → HearsOf old (λ p. (alone rules h log).received p h) heard
    → HearsOf new (λ p. (alone rules h (log ++ content ∷ [])).received p h) heard
hears_on rules h log (External payload) old new heard same hears = record {
  next_is = λ p below. ap (λ t. next_of t p) same ∙ hears.next_is p below ∙ sym (log_next rules h log (External payload) p);
  heard_is = λ p k below least. ap (λ t. seats_at t p k) same
      ∙ hears.heard_is p k below (subst (λ n. n ≤ k) (log_next rules h log (External payload) p) least);
}
hears_on rules h log (Message q n payload) old new heard moved hears = record {
  next_is = λ p below. moved.next p ∙ next_one p below (p == q) refl ∙ sym (log_next rules h log (Message q n payload) p);
  heard_is = λ p k below least. moved.seats p k
      ∙ seats_one p k below (subst (λ m. m ≤ k) (log_next rules h log (Message q n payload) p) least) (p == q) refl;
}
  where
    received : ℕ → ℕ
    received x = (alone rules h log).received x h

    next_one : (p : ℕ) → p < 32 → (b : Bool) → (p == q) ≡ b → cond b (next_of old q + 1) (next_of old p) ≡ cond b (received q + 1) (received p)
    next_one p below true e = ap (λ x. x + 1) (hears.next_is q (subst (λ x. x < 32) ((Decides-eqb p q).0 e) below))
    next_one p below false e = hears.next_is p below

    seats_one : (p k : ℕ) → p < 32 → put received q (received q + 1) p ≤ k → (b : Bool) → (p == q) ≡ b
        → cond b (put (seats_at old q) (next_of old q) no_seats) (seats_at old p) k ≡ heard p k
    seats_one p k below least true e =
        let is : p ≡ q = (Decides-eqb p q).0 e in
        let at : next_of old q ≡ received q = hears.next_is q (subst (λ x. x < 32) is below) in
        let past : received q + 1 ≤ k = subst (λ b. cond b (received q + 1) (received p) ≤ k) e least in
        put_there (seats_at old q) (next_of old q) no_seats k (λ same. omega (arith, same, at, past))
        ∙ ap (λ x. seats_at old x k) (sym is) ∙ hears.heard_is p k below (subst (λ x. received x ≤ k) (sym is) (omega (arith, past)))
    seats_one p k below least false e = hears.heard_is p k below (subst (λ b. cond b (received q + 1) (received p) ≤ k) e least)
