-- Numbers of messages on their links.
use Rattle.std.proofs.Common.{◌≡◌, ℕ, ◌+◌, ◌<◌, ◌≤◌, ◌++◌, ◌∷◌, [], ◌==◌, ◌&&◌, Bool, true, false, List, length, take, get_or, inl, inr, refl, ap, sym, ◌∙◌, subst, arith}
use Rattle.std.specs.Prelude.{count_by}
use Rattle.std.proofs.Math.ListN.{get_or-append}
use Rattle.std.proofs.lemmas.List.{get_or_push, take-append-le, length-append, length-take}
use Rattle.std.proofs.lemmas.List.Sums.{count_by_more_yes, count_by_more_no, count_by-le-length}
use Rattle.std.proofs.lemmas.Bool.{cases_order, eqb-true}
use Rattle.nys_source_commands.specs.Numbers.{AreNumbers, AreSomeNumbers, is_on, link_of, number_on_link}

-- a message of the link counts
pub number-here : (messages : List (ℕ × ℕ)) (k : ℕ) (link : ℕ × ℕ) → k < length messages → is_on link (link_of messages k) ≡ true → number_on_link messages (k + 1) link ≡ number_on_link messages k link + 1
unfolding number_on_link
number-here messages k link inside on = count_by_more_yes (is_on link) messages k (0, 0) inside on

-- a message of another link doesn't
pub number-other : (messages : List (ℕ × ℕ)) (k : ℕ) (link : ℕ × ℕ) → k < length messages → is_on link (link_of messages k) ≡ false → number_on_link messages (k + 1) link ≡ number_on_link messages k link
unfolding number_on_link
number-other messages k link inside off = count_by_more_no (is_on link) messages k (0, 0) inside off

-- no message stands before the first
pub number-first : (messages : List (ℕ × ℕ)) (link : ℕ × ℕ) → number_on_link messages 0 link ≡ 0
unfolding number_on_link
number-first messages link = refl

-- a number is no greater than the messages before it
pub number-le : (messages : List (ℕ × ℕ)) (k : ℕ) (link : ℕ × ℕ) → number_on_link messages k link ≤ k
unfolding number_on_link
number-le messages k link = omega (arith, count_by-le-length (is_on link) (take k messages), length-take k messages)

-- more messages change no number before them
pub number-append : (messages more : List (ℕ × ℕ)) (k : ℕ) (link : ℕ × ℕ) → k ≤ length messages → number_on_link (messages ++ more) k link ≡ number_on_link messages k link
unfolding number_on_link
number-append messages more k link inside = ap (count_by (is_on link)) (take-append-le k messages more inside)

-- the numbers of all messages are numbers of them among more
pub numbers-append : (numbers : List ℕ) (messages more after : List (ℕ × ℕ)) → AreNumbers numbers messages (length messages) → after ≡ messages ++ more → AreSomeNumbers numbers after
numbers-append numbers messages more after given grown = subst (AreSomeNumbers numbers) (sym grown) (record {
  some = record {
    long = refl;
    each = λ k inside.
        let here : k < length messages = omega (arith, inside, given.long) in
        given.each k here
        ∙ sym (ap (number_on_link (messages ++ more) k) (get_or-append messages more (0, 0) k here) ∙ number-append messages more k (link_of messages k) (omega (arith, here)));
  };
  within = omega (arith, given.long, length-append messages more);
})

-- one number more
pub numbers-push : (numbers : List ℕ) (messages : List (ℕ × ℕ)) (at number : ℕ) → AreNumbers numbers messages at → number ≡ number_on_link messages at (link_of messages at) → AreNumbers (numbers ++ number ∷ []) messages (at + 1)
numbers-push numbers messages at number given next = record {
  long = rw length-append (omega (arith, given.long));
  each = λ k inside. elim (cases_order k at) [
    | inl here ↦ rw here (get_or_push numbers number 0 at given.long ∙ next)
    | inr (inl below) ↦ let within : k < length numbers = omega (arith, below, given.long) in get_or-append numbers (number ∷ []) 0 k within ∙ given.each k below
    | inr (inr above) ↦ absurd (omega (arith, above, inside))
  ];
}

-- a message of the link has that link
on_same : (link message : ℕ × ℕ) → is_on link message ≡ true → message ≡ link
on_same link message on =
    let both = and_true (message.0 == link.0) (message.1 == link.1) on in
    let sender = eqb-true message.0 link.0 both.0 in
    let receiver = eqb-true message.1 link.1 both.1 in
    λ i. (sender i, receiver i)
  where
    and_true : (a b : Bool) → (a && b) ≡ true → (a ≡ true) × (b ≡ true)
    and_true true b both = (refl, both)
    and_true false b both = let no : ⊥ = cc in absurd no

-- the number behind a message of the link is one more than its own
pub number-found : (numbers : List ℕ) (messages : List (ℕ × ℕ)) (at k : ℕ) (link : ℕ × ℕ) → AreNumbers numbers messages at → k < at → k < length messages → is_on link (link_of messages k) ≡ true → get_or numbers k 0 + 1 ≡ number_on_link messages (k + 1) link
number-found numbers messages at k link given numbered inside on =
    ap (λ n. n + 1) (given.each k numbered ∙ ap (number_on_link messages k) (on_same link (link_of messages k) on))
    ∙ sym (number-here messages k link inside on)
