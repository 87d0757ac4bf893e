-- A message that waits as long as the credit lets it, computed.
use Rattle.std.proofs.Common.{◌≡◌, ℕ, zero, suc, ◌+◌, ◌*◌, ◌-◌, ◌<◌, ◌≤◌, ◌⊎◌, ◌==◌, ◌&&◌, ◌||◌, Bool, true, false, [], ◌∷◌, Some, None, refl, ap, sym, subst, ◌∙◌, inl, inr, arith, leb-true, eqb-true}
use Rattle.std.specs.Prelude.{is_some, nat_le, not, Ok, Option}
use Rattle.std.proofs.lemmas.Bool.Decides.{Decides-eqb}
use Rattle.nys_agreement.specs.Alone.{alone}
use Rattle.nys_hosts.proofs.CountLemmas.{count_below-one, hosts_with-within}
use Rattle.nys_hosts.specs.Counts.{count_below, hosts_with}
use Rattle.nys_votes.specs.Seats.{seat_of}
use Rattle.nys_rules.specs.Happening.{HappenAll}
use Rattle.nys_rules.specs.Premises.{HasGoodGuards}
use Rattle.nys_rules.specs.Scope.{quorum_at}
use Rattle.nys_rules.specs.View.{length_of, next_number}
use Rattle.nys_rules.specs.World.{fresh_world, is_honest, World}
use Rattle.nys_rules.proofs.CertificateLemmas.{both_true}
use Rattle.nys_laws.proofs.LiveLemmas.{not_true}
use Rattle.nys_follows.specs.Scenario.{IsScenario}
use Rattle.nys_progress.specs.Credits.{AreNeighbours, HoldsHead, IsWidelyHeld}
use Rattle.nys_rule_examples.specs.Credited.{CanCredit, heads_held, late_one, one_holds, one_is_too_few, OneHolds, taken_at_the_last}
use Rattle.nys_rule_examples.proofs.Reaching.{Computes, seen, world_in}
use Rattle.nys_rule_examples.proofs.Relayed.{are_good, guards_are, is_scenario}
use Rattle.nys_rule_examples.proofs.Replays.{replay, replay_is}
use Rattle.nys_rule_examples.proofs.Words.{words}

-- in the last slot
pub computes_taken_at_the_last : Computes taken_at_the_last
unfolding words
computes_taken_at_the_last = refl

-- ---- the scenario

-- neighbours are hosts 0 and 1
linked_is : (p h : ℕ) → late_one.scope.rules.linked p h ≡ true → ((p ≡ 0) × (h ≡ 1)) ⊎ ((p ≡ 1) × (h ≡ 0))
linked_is p h is = by (p == 0) (h == 1) (p == 1) (h == 0) refl refl refl refl is
  where
    by : (a b c d : Bool) → (p == 0) ≡ a → (h == 1) ≡ b → (p == 1) ≡ c → (h == 0) ≡ d → ((a && b) || (c && d)) ≡ true
        → ((p ≡ 0) × (h ≡ 1)) ⊎ ((p ≡ 1) × (h ≡ 0))
    by true true c d x y z u is = inl (eqb-true p 0 x, eqb-true h 1 y)
    by true false true true x y z u is = inr (eqb-true p 1 z, eqb-true h 0 u)
    by true false true false x y z u is = absurd (cc)
    by true false false d x y z u is = absurd (cc)
    by false b true true x y z u is = inr (eqb-true p 1 z, eqb-true h 0 u)
    by false b true false x y z u is = absurd (cc)
    by false b false d x y z u is = absurd (cc)

-- both ways
are_neighbours : AreNeighbours late_one.scope.rules
are_neighbours = record {
  hosts = λ p h is. elim (linked_is p h is) [
    | inl a ↦ let at = a.0 in omega (arith, at)
    | inr b ↦ let at = b.0 in omega (arith, at)
  ];
  both = λ p h is. elim (linked_is p h is) [
    | inl a ↦ subst (λ x. late_one.scope.rules.linked h x ≡ true) (sym a.0) (subst (λ y. late_one.scope.rules.linked y 0 ≡ true) (sym a.1) refl)
    | inr b ↦ subst (λ x. late_one.scope.rules.linked h x ≡ true) (sym b.0) (subst (λ y. late_one.scope.rules.linked y 1 ≡ true) (sym b.1) refl)
  ];
}

-- one is a host
one_is : (x : ℕ) → x < 32 → hosts_with (λ g. x == g) ≤ 1
unfolding hosts_with
one_is x low = let one = count_below-one x 32 low in omega (arith, one)

-- no host has more than one neighbour
near_one : (h : ℕ) → hosts_with (late_one.scope.rules.linked h) ≤ 1
near_one h =
    let within = hosts_with-within (late_one.scope.rules.linked h) (λ g. (1 - h) == g)
    (λ g low is. (Decides-eqb (1 - h) g).1
    (elim (linked_is h g is) [
      | inl a ↦ let at = a.0 in let there = a.1 in omega (arith, at, there)
      | inr b ↦ let at = b.0 in let there = b.1 in omega (arith, at, there)
    ])) in
    let one = one_is (1 - h) (omega arith) in
    omega (arith, within, one)

-- the scenario
late_scenario : IsScenario late_one
late_scenario = record {
  some = omega arith;
  hosts = omega arith;
  guards = λ e h m is. let are = guards_are e h m is in record { epoch = are.0; host = are.1; guard = are.2 };
  few = λ e early h low.
      let within = hosts_with-within (λ g. late_one.scope.guards e h g && late_one.liars g) (λ g. 1 == g)
      (λ g small is.
      (Decides-eqb 1 g).1 (sym (eqb-true g 1 (both_true (late_one.scope.guards e h g) (late_one.liars g) is).1))) in
      let one = one_is 1 (omega arith) in omega (arith, within, one);
}

-- its guards
late_good : HasGoodGuards late_one.scope
late_good e early = record {
  own = (are_good e early).own;
  many = (are_good e early).many;
  near = λ h low. near_one h;
  shared = (are_good e early).shared;
}

-- ---- the world

-- what is looked at of a guard of host 1
abbrev is_there : World → ℕ → Bool
is_there w g = ((w.nodes g).epoch == 0)
    && (not ((w.nodes g).retired 1)
    && (nat_le ((w.nodes g).base 1) (length_of (w.nodes g) 1)
    && (((alone late_one.scope.rules 1 ((w.nodes g).logs 1)).received 0 1 == 0)
    && (is_some (seat_of ((w.nodes g).heads 1) 0) && (length_of (w.nodes g) 1 == 0)))))

-- and of the world
abbrev looked_at : World → Bool
looked_at w = (w.nodes 0).known 1 && (is_there w 0 && (is_there w 2 && is_there w 3))

-- the events lead to a world that has it so
computes_heads_held : seen looked_at (replay late_one heads_held (fresh_world late_one)) ≡ (true, Some true)
unfolding words
computes_heads_held = refl

-- something is there
something : (o : Option ℕ) → is_some o ≡ true → (u : ℕ) × (o ≡ Some u)
something (Some u) is = (u, refl)
something None is = absurd (cc)

-- each honest guard
of_three : (P : ℕ → Type 0) → P 0 → P 2 → P 3 → (g : ℕ) → g < 4 → is_honest late_one g ≡ true → P g
of_three P x y z zero low honest = x
of_three P x y z (suc zero) low honest = absurd (cc)
of_three P x y z (suc (suc zero)) low honest = y
of_three P x y z (suc (suc (suc zero))) low honest = z
of_three P x y z (suc (suc (suc (suc n)))) low honest = absurd (omega (arith, low))

-- a guard of which this is seen holds the head, and has an empty log
held_at : (w : World) (g : ℕ) → g < 4 → is_honest late_one g ≡ true → late_one.scope.guards 0 1 g ≡ true → is_there w g ≡ true
    → HoldsHead late_one w 0 1 0 0 g × (length_of (w.nodes g) 1 ≡ 0)
unfolding next_number
held_at w g low honest guards is =
    let a = both_true ((w.nodes g).epoch == 0) _ is in
    let b = both_true (not ((w.nodes g).retired 1)) _ a.1 in
    let c = both_true (nat_le ((w.nodes g).base 1) (length_of (w.nodes g) 1)) _ b.1 in
    let d = both_true ((alone late_one.scope.rules 1 ((w.nodes g).logs 1)).received 0 1 == 0) _ c.1 in
    let e = both_true (is_some (seat_of ((w.nodes g).heads 1) 0)) _ d.1 in (
      record {
        guard = record { host = low; honest = honest; guards = guards };
        epoch = eqb-true (w.nodes g).epoch 0 a.0;
        lives = not_true ((w.nodes g).retired 1) b.0;
        reached = leb-true ((w.nodes g).base 1) (length_of (w.nodes g) 1) c.0;
        number = eqb-true ((alone late_one.scope.rules 1 ((w.nodes g).logs 1)).received 0 1) 0 d.0;
        recorded = something (seat_of ((w.nodes g).heads 1) 0) e.0;
      },
      eqb-true (length_of (w.nodes g) 1) 0 e.1,
    )

-- three guards are enough, and more than a quorum leaves out
three_count : 2 ≤ hosts_with (λ g. (g == 0) || ((g == 2) || (g == 3)))
unfolding hosts_with count_below
three_count = omega arith

enough_are : hosts_with (late_one.scope.guards 0 1) - quorum_at late_one.scope 0 1 + 1 ≤ 2
unfolding hosts_with count_below quorum_at
enough_are = omega arith

-- so the message is held
is_held : (w : World) → looked_at w ≡ true → IsWidelyHeld late_one w 0 1 0 0 0
is_held w is = record {
  near = refl;
  longest = record {
    logs = λ g has. of_three (λ x. length_of (w.nodes x) 1 ≤ 0)
        (let zeroth = at_zero.1 in omega (arith, zeroth)) (let second = at_two.1 in omega (arith, second)) (let third = at_three.1 in omega (arith, third))
        g has.host has.honest;
    reached = (0, record { host = omega arith; honest = refl; known = first.0 }, at_zero.1);
  };
  holders = record {
    makers = λ g. (g == 0) || ((g == 2) || (g == 3));
    each = λ m made. by m (m == 0) (m == 2) (m == 3) refl refl refl made;
    enough = let few = enough_are in let three = three_count in omega (arith, few, three);
  };
}
  where
    first : ((w.nodes 0).known 1 ≡ true) × ((is_there w 0 && (is_there w 2 && is_there w 3)) ≡ true)
    first = both_true ((w.nodes 0).known 1) (is_there w 0 && (is_there w 2 && is_there w 3)) is

    zeroth_is : (is_there w 0 ≡ true) × ((is_there w 2 && is_there w 3) ≡ true)
    zeroth_is = both_true (is_there w 0) (is_there w 2 && is_there w 3) first.1

    rest_are : (is_there w 2 ≡ true) × (is_there w 3 ≡ true)
    rest_are = both_true (is_there w 2) (is_there w 3) zeroth_is.1

    at_zero : HoldsHead late_one w 0 1 0 0 0 × (length_of (w.nodes 0) 1 ≡ 0)
    at_zero = held_at w 0 (omega arith) refl refl zeroth_is.0

    at_two : HoldsHead late_one w 0 1 0 0 2 × (length_of (w.nodes 2) 1 ≡ 0)
    at_two = held_at w 2 (omega arith) refl refl rest_are.0

    at_three : HoldsHead late_one w 0 1 0 0 3 × (length_of (w.nodes 3) 1 ≡ 0)
    at_three = held_at w 3 (omega arith) refl refl rest_are.1

    by : (m : ℕ) (a b c : Bool) → (m == 0) ≡ a → (m == 2) ≡ b → (m == 3) ≡ c → (a || (b || c)) ≡ true
        → HoldsHead late_one w 0 1 0 0 m
    by m true b c x y z made = subst (HoldsHead late_one w 0 1 0 0) (sym (eqb-true m 0 x)) at_zero.0
    by m false true c x y z made = subst (HoldsHead late_one w 0 1 0 0) (sym (eqb-true m 2 y)) at_two.0
    by m false false true x y z made = subst (HoldsHead late_one w 0 1 0 0) (sym (eqb-true m 3 z)) at_three.0
    by m false false false x y z made = absurd (cc)

-- all that the law asks for is met
pub can_credit : CanCredit
can_credit =
    let x = world_in looked_at (replay late_one heads_held (fresh_world late_one)) true computes_heads_held in
    let all = replay_is late_one heads_held (fresh_world late_one) x.0 in
    let happens : HappenAll late_one (fresh_world late_one) heads_held (Ok x.1.0) = rw (← x.1.1) all in record {
      asked = late_scenario;
      good = late_good;
      ways = are_neighbours;
      world = x.1.0;
      happens = happens;
      held = is_held x.1.0 x.1.2;
    }

-- ---- one holder

-- it is too few
pub computes_one_is_too_few : Computes one_is_too_few
unfolding words
computes_one_is_too_few = refl

-- what is looked at of it
abbrev looks_at_one : World → Bool
looks_at_one w = is_there w 3

computes_one_holds : seen looks_at_one (replay late_one one_holds (fresh_world late_one)) ≡ (true, Some true)
unfolding words
computes_one_holds = refl

-- it holds the head
pub one_that_holds : OneHolds
one_that_holds =
    let x = world_in looks_at_one (replay late_one one_holds (fresh_world late_one)) true computes_one_holds in
    let all = replay_is late_one one_holds (fresh_world late_one) x.0 in
    let happens : HappenAll late_one (fresh_world late_one) one_holds (Ok x.1.0) = rw (← x.1.1) all in record {
      world = x.1.0;
      happens = happens;
      holds = (held_at x.1.0 3 (omega arith) refl refl x.1.2).0;
    }
