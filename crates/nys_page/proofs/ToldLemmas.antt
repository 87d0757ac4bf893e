-- That what the program answers to words is the answer to those that ask for the same.
use Rattle.std.proofs.Common.{◌≡◌, ◌≢◌, ◌≤◌, ◌<◌, ◌⊎◌, inl, inr, ℕ, List, [], Option, Some, subst, arith}
use Rattle.std.proofs.lemmas.Bool.{cases_lt}
use Rattle.nys_words.specs.Words.{answer_to}
use Rattle.nys_outside.specs.Counts.{Rose}
use Rattle.nys_outside.specs.Input.{Input, fresh}
use Rattle.nys_top.specs.Outcomes.{IsAnswered, IsAnswerBy}
use Rattle.nys_page.specs.Shown.{IsTold}

-- what answers some words answers those that ask for the same
answered_alike : (asked words : List (List ℕ)) (before after : Option Input) (old new : Option (List ℕ)) (status : ℕ)
    → answer_to asked ≡ answer_to words → IsAnswered asked before after old new status
    → IsAnswered words before after old new status
answered_alike asked words before after old new status same it = record {
  answer = it.answer;
  given = subst (λ command. IsAnswerBy command before after it.answer) same it.given;
  status_is = it.status_is;
  text_is = it.text_is;
}

-- a status that names no fault of the outside and no want of memory is that of an answer
is_answer's : (status : ℕ) → status ≢ 11 → status ≢ 12 → status ≢ 13 → status ≢ 14 → status ≤ 15 → (status ≤ 10) ⊎ (status ≡ 15)
is_answer's status read write kept memory most = elim (cases_lt status 11) [
  | inl low ↦ inl (omega (arith, low))
  | inr high ↦ inr (grind (arith, read, write, kept, memory, most, high))
]

-- no count rises from 0 to 0
stays : Rose 0 0 → ⊥
stays rose = omega (arith, rose)

-- where neither source nor sink counts a fault, and memory suffices, the answer is told
pub told : (asked words : List (List ℕ)) (document opened text : List ℕ) (input : Input) (after : Option Input) (status : ℕ)
    → answer_to asked ≡ answer_to words → input ≡ fresh document → opened ≡ []
    → ((status ≤ 10) ⊎ (status ≡ 15) → IsAnswered asked (Some input) after (Some opened) (Some text) status)
    → (status ≡ 11 → Rose 0 0) → (status ≡ 12 → Rose 0 0) → (status ≤ 15) × (status ≢ 13) → status ≢ 14
    → IsTold words document text status
told asked words document opened text input after status same all none answered read write never memory =
    let of_answer : (status ≤ 10) ⊎ (status ≡ 15) =
    is_answer's status (λ is. stays (read is)) (λ is. stays (write is)) never.1 memory never.0 in
    let here = answered_alike asked words (Some input) after (Some opened) (Some text) status same (answered of_answer) in
    record {
      after = after;
      answered =
          subst (λ bytes. IsAnswered words (Some (fresh document)) after (Some bytes) (Some text) status) none
          (subst (λ source. IsAnswered words (Some source) after (Some opened) (Some text) status) all here);
    }
