-- A log that must be decided, computed.
use Rattle.std.proofs.Common.{◌≡◌, ℕ, zero, suc, ◌<◌, ◌==◌, ◌&&◌, ◌||◌, Bool, true, false, List, [], ◌∷◌, Some, None, refl, sym, subst, ◌∙◌, inl, inr, arith}
use Rattle.std.specs.Prelude.{Contains, Option, Ok, is_none, is_some, not}
use Rattle.std.specs.List.{list_any}
use Rattle.std.proofs.lemmas.Bool.Decides.{Decides-eqb}
use Rattle.nys_votes.specs.Seats.{seat_of}
use Rattle.nys_rules.specs.Forged.{HasMade}
use Rattle.nys_rules.specs.Happening.{HappenAll}
use Rattle.nys_rules.specs.Olympus.{Reported}
use Rattle.nys_rules.specs.Sending.{said_in}
use Rattle.nys_rules.specs.View.{length_of}
use Rattle.nys_rules.specs.World.{fresh_world, World}
use Rattle.nys_laws.specs.Own.{KeepsOwn}
use Rattle.nys_laws.specs.Own.Stage.{Delivered}
use Rattle.nys_laws.proofs.OwnWorlds.{keep_own}
use Rattle.nys_progress.specs.Decision.{HasEndedAt, HasReport, IsDueAt}
use Rattle.nys_progress.specs.Statements.{deliver}
use Rattle.nys_rule_examples.specs.Decided.{IsMet, told, unheard}
use Rattle.nys_rule_examples.specs.Scenario.{four, honest}
use Rattle.nys_rule_examples.proofs.Reaching.{Computes, seen, world_in}
use Rattle.nys_rule_examples.proofs.Replays.{replay, replay_is}
use Rattle.nys_rule_examples.proofs.Words.{words}

-- nothing was heard
pub computes_unheard : Computes unheard
unfolding words
computes_unheard = refl

-- both tests pass
two : (a b : Bool) → (a && b) ≡ true → (a ≡ true) × (b ≡ true)
two true true e = (refl, refl)
two true false e = absurd (cc)
two false b e = absurd (cc)

-- what is looked at of a guard: it ended the epoch with one entry and no vote behind it, and was heard
abbrev guard_ended : World → ℕ → Bool
guard_ended w g =
    ((w.nodes g).epoch == w.olympus.epoch)
    && ((w.nodes g).wedged
    && ((length_of (w.nodes g) 0 == 1)
    && (is_none ((w.nodes g).desks 0).delivered
    && (list_any (λ (r : Reported). r.guard == g) (w.olympus.reports 0 0)
    && is_some (seat_of (w.olympus.frozen 0) g)))))

-- and of the Olympus: it is in epoch 0, which ends, and host 0 begins there and is open still
abbrev all_ended : World → Bool
all_ended w =
    ((w.olympus.epoch == 0)
    && (w.olympus.wedged && (not (w.olympus.decided_now 0) && (not (w.olympus.retired 0) && (w.olympus.base 0 == 0)))))
    && (guard_ended w 0 && (guard_ended w 1 && (guard_ended w 2 && guard_ended w 3)))

-- the events lead to a world in which all of this is so
computes_told : seen all_ended (replay (honest (four 4)) told (fresh_world (honest (four 4)))) ≡ (true, Some true)
unfolding words
computes_told = refl

-- what is found in a list is in it
in_list : {A : Type 0} (test : A → Bool) (xs : List A) → list_any test xs ≡ true → (x : A) × Contains xs x × (test x ≡ true)
in_list test [] e = absurd (cc)
in_list {A} test (x ∷ xs) e = by (test x) refl e (λ rest. in_list test xs rest)
  where
    by : (b : Bool) → test x ≡ b → (b || list_any test xs) ≡ true
        → (list_any test xs ≡ true → (y : A) × Contains xs y × (test y ≡ true))
        → (y : A) × Contains (x ∷ xs) y × (test y ≡ true)
    by true is e rest = (x, (zero, omega arith, refl), is)
    by false is e rest =
        let later = rest e in (later.0, (suc later.1.0, omega (arith, later.1.1), later.1.2), later.2)

-- what is there
some_of : {A : Type 0} (o : Option A) → is_some o ≡ true → (x : A) × (o ≡ Some x)
some_of None e = absurd (cc)
some_of (Some x) e = (x, refl)

-- what isn't
none_of : {A : Type 0} (o : Option A) → is_none o ≡ true → o ≡ None
none_of None e = refl
none_of (Some x) e = absurd (cc)

-- a test that fails
failed : (b : Bool) → not b ≡ true → b ≡ false
failed false e = refl
failed true e = absurd (cc)

-- a guard of which this is seen ended at slot 1
has_ended : (w : World) (g : ℕ) → KeepsOwn g w.ledger (w.nodes g) → w.olympus.base 0 ≡ 0 → guard_ended w g ≡ true
    → HasEndedAt w 0 1 g
has_ended w g own base all =
    let v = w.nodes g in
    let a = two (v.epoch == w.olympus.epoch) _ all in
    let b = two v.wedged _ a.1 in
    let c = two (length_of v 0 == 1) _ b.1 in
    let d = two (is_none (v.desks 0).delivered) _ c.1 in
    let f = two (list_any (λ (r : Reported). r.guard == g) (w.olympus.reports 0 0)) _ d.1 in
    let epoch : v.epoch ≡ w.olympus.epoch = (Decides-eqb v.epoch w.olympus.epoch).0 a.0 in
    let long : length_of v 0 ≡ 1 = (Decides-eqb (length_of v 0) 1).0 c.0 in
    let none = none_of (v.desks 0).delivered d.0 in
    let r = in_list (λ (r : Reported). r.guard == g) (w.olympus.reports 0 0) f.0 in
    record {
      epoch = epoch;
      wedged = b.0;
      entries = long;
      no_vote = λ content has.
          elim (own.own.said Delivered 0 1 content (subst (λ e. HasMade w.ledger g (said_in e (deliver 0 1 content))) (sym epoch) has)) [
            | inl earlier ↦ omega (arith, earlier, long)
            | inr last ↦ let both = sym none ∙ last.1 in cc
          ];
      reported = λ slot above below.
          let here : 0 ≡ slot = omega (arith, below) in
          subst (λ x. HasReport w.olympus 0 x g) here (r.0, r.1, (Decides-eqb r.0.guard g).0 r.2);
      frozen = some_of (seat_of (w.olympus.frozen 0) g) f.1;
    }

-- so the log of host 0 is due
is_due : (w : World) → HappenAll (honest (four 4)) (fresh_world (honest (four 4))) told (Ok w) → all_ended w ≡ true
    → IsDueAt (honest (four 4)) w 0 1
is_due w happens all =
    let parts = two _ (guard_ended w 0 && (guard_ended w 1 && (guard_ended w 2 && guard_ended w 3))) all in
    let a = two (w.olympus.epoch == 0) _ parts.0 in
    let b = two w.olympus.wedged _ a.1 in
    let c = two (not (w.olympus.decided_now 0)) _ b.1 in
    let d = two (not (w.olympus.retired 0)) _ c.1 in
    let base : w.olympus.base 0 ≡ 0 = (Decides-eqb (w.olympus.base 0) 0).0 d.1 in
    let first = two (guard_ended w 0) _ parts.1 in
    let second = two (guard_ended w 1) _ first.1 in
    let last = two (guard_ended w 2) (guard_ended w 3) second.1 in
    record {
      host = omega arith;
      ending = b.0;
      undecided = failed (w.olympus.decided_now 0) c.0;
      kept = failed (w.olympus.retired 0) d.0;
      above = omega (arith, base);
      guards = λ g guard.
          let low = guard.host in
          has_ended w g (keep_own (honest (four 4)) told w happens g (λ same. omega (arith, low, same))) base
          (of_four g low first.0 second.0 last.0 last.1);
    }
  where
    of_four : (g : ℕ) → g < 4 → guard_ended w 0 ≡ true → guard_ended w 1 ≡ true → guard_ended w 2 ≡ true
        → guard_ended w 3 ≡ true → guard_ended w g ≡ true
    of_four zero low x y z u = x
    of_four (suc zero) low x y z u = y
    of_four (suc (suc zero)) low x y z u = z
    of_four (suc (suc (suc zero))) low x y z u = u
    of_four (suc (suc (suc (suc n)))) low x y z u = absurd (omega (arith, low))

-- in the world to which the events lead
pub is_met : IsMet
is_met =
    let x = world_in all_ended (replay (honest (four 4)) told (fresh_world (honest (four 4)))) true computes_told in
    let all = replay_is (honest (four 4)) told (fresh_world (honest (four 4))) x.0 in
    let happens : HappenAll (honest (four 4)) (fresh_world (honest (four 4))) told (Ok x.1.0) = rw (← x.1.1) all in
    record { world = x.1.0; happens = happens; due = is_due x.1.0 happens x.1.2 }
