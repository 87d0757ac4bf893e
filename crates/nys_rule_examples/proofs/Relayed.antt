-- A content that is relayed, computed.
use Rattle.std.proofs.Common.{◌≡◌, ℕ, zero, suc, ◌+◌, ◌*◌, ◌<◌, ◌≤◌, ◌==◌, ◌&&◌, ◌||◌, Bool, true, false, pos, List, [], ◌∷◌, Some, None, refl, ap, sym, subst, ◌∙◌, inl, inr, arith, lt-ltb, ltb-true, eqb-true}
use Rattle.std.specs.Prelude.{All, Contains, FitsSigned, nat_lt, not, Ok, Option, replicate, slice_get}
use Rattle.std.specs.Int.{w64}
use Rattle.std.proofs.lemmas.Bool.Decides.{Decides-eqb}
use Rattle.std.proofs.lemmas.List.Elements.{All-cons, All-nil}
use Rattle.nys_bytes.specs.declared.content.Content.{Content}
use Rattle.nys_hosts.proofs.CountLemmas.{count_below-one, hosts_with-within}
use Rattle.nys_hosts.specs.Counts.{count_below, hosts_with}
use Rattle.nys_rules.specs.declared.notice.Note.{Note}
use Rattle.nys_rules.specs.declared.notice.NoteKind.TheVariants as tell
use Rattle.nys_rules.specs.Happening.{HappenAll}
use Rattle.nys_rules.specs.Premises.{HasGoodGuards}
use Rattle.nys_rules.specs.View.{length_of}
use Rattle.nys_rules.specs.World.{fresh_world, is_honest, World}
use Rattle.nys_rules.proofs.CertificateLemmas.{both_true}
use Rattle.nys_laws.proofs.LiveLemmas.{not_true}
use Rattle.nys_follows.specs.Scenario.{IsScenario}
use Rattle.nys_progress.specs.Carried.{HasTags, IsCarried}
use Rattle.nys_progress.specs.Relay.{IsAtSlot, IsRelayable}
use Rattle.nys_rule_examples.specs.Relayed.{CanRelay, one_exchange, one_lies, two_exchanges, with_a_liar}
use Rattle.nys_rule_examples.specs.Scenario.{input}
use Rattle.nys_rule_examples.proofs.Reaching.{Computes, seen, world_in}
use Rattle.nys_rule_examples.proofs.Replays.{replay, replay_is}
use Rattle.nys_rule_examples.proofs.Words.{words}

-- one exchange
pub computes_one_exchange : Computes one_exchange
unfolding words
computes_one_exchange = refl

-- two
pub computes_two_exchanges : Computes two_exchanges
unfolding words
computes_two_exchanges = refl

-- ---- the scenario

-- who guards
pub guards_are : (e h g : ℕ) → one_lies.scope.guards e h g ≡ true → (e < 2) × (h < 4) × (g < 4)
guards_are e h g is =
    let first = both_true (nat_lt e 2) (nat_lt h 4 && nat_lt g 4) is in
    let rest = both_true (nat_lt h 4) (nat_lt g 4) first.1 in
    (ltb-true e 2 first.0, ltb-true h 4 rest.0, ltb-true g 4 rest.1)

-- all four do
guards_all : (e h g : ℕ) → e < 2 → h < 4 → g < 4 → one_lies.scope.guards e h g ≡ true
guards_all e h g a b c =
    ap (λ x. x && (nat_lt h 4 && nat_lt g 4)) (lt-ltb e 2 a) ∙ (ap (λ x. x && nat_lt g 4) (lt-ltb h 4 b) ∙ lt-ltb g 4 c)

-- so many are below 4
four_below : 4 ≤ hosts_with (λ g. nat_lt g 4)
unfolding hosts_with count_below
four_below = omega arith

-- so many below 2
two_below : hosts_with (λ g. nat_lt g 2) ≤ 2
unfolding hosts_with count_below
two_below = omega arith

-- one is host 3
one_is_three : hosts_with (λ g. 3 == g) ≤ 1
unfolding hosts_with
one_is_three = let one = count_below-one 3 32 (omega arith) in omega (arith, one)

-- neighbours are hosts 0 and 1
pub linked_low : (p h : ℕ) → one_lies.scope.rules.linked p h ≡ true → (p < 2) × (h < 2)
linked_low p h is = by (p == 0) (h == 1) (p == 1) (h == 0) refl refl refl refl is
  where
    by : (a b c d : Bool) → (p == 0) ≡ a → (h == 1) ≡ b → (p == 1) ≡ c → (h == 0) ≡ d → ((a && b) || (c && d)) ≡ true
        → (p < 2) × (h < 2)
    by true true c d x y z u is =
        let m = eqb-true p 0 x in let n = eqb-true h 1 y in (omega (arith, m), omega (arith, n))
    by true false true true x y z u is =
        let m = eqb-true p 1 z in let n = eqb-true h 0 u in (omega (arith, m), omega (arith, n))
    by true false true false x y z u is = absurd (cc)
    by true false false d x y z u is = absurd (cc)
    by false b true true x y z u is =
        let m = eqb-true p 1 z in let n = eqb-true h 0 u in (omega (arith, m), omega (arith, n))
    by false b true false x y z u is = absurd (cc)
    by false b false d x y z u is = absurd (cc)

-- the scenario
pub is_scenario : IsScenario one_lies
is_scenario = record {
  some = omega arith;
  hosts = omega arith;
  guards = λ e h m is. let are = guards_are e h m is in record { epoch = are.0; host = are.1; guard = are.2 };
  few = λ e early h low.
      let within = hosts_with-within (λ g. one_lies.scope.guards e h g && one_lies.liars g) (λ g. 3 == g)
      (λ g small is.
      (Decides-eqb 3 g).1 (sym (eqb-true g 3 (both_true (one_lies.scope.guards e h g) (one_lies.liars g) is).1))) in
      let one = one_is_three in omega (arith, within, one);
}

-- its guards
pub are_good : HasGoodGuards one_lies.scope
are_good e early = record {
  own = λ h low. guards_all e h h early low low;
  many = λ h low.
      let within = hosts_with-within (λ g. nat_lt g 4) (one_lies.scope.guards e h) (λ g small is. guards_all e h g early low (ltb-true g 4 is)) in
      let four = four_below in omega (arith, within, four);
  near = λ h low.
      let within = hosts_with-within (one_lies.scope.rules.linked h) (λ g. nat_lt g 2)
      (λ g small is. lt-ltb g 2 (linked_low h g is).1) in
      let two = two_below in omega (arith, within, two);
  shared = λ p h is.
      let low = linked_low p h is in
      let a = low.0 in let b = low.1 in
      let within = hosts_with-within (λ g. nat_lt g 4) (λ g. one_lies.scope.guards e p g && one_lies.scope.guards e h g)
      (λ g small four.
      ap (λ x. x && one_lies.scope.guards e h g) (guards_all e p g early (omega (arith, a)) (ltb-true g 4 four))
      ∙ guards_all e h g early (omega (arith, b)) (ltb-true g 4 four)) in
      let four = four_below in omega (arith, within, four);
}

-- a byte many times
bytes_same : (n x : ℕ) → x < 256 → All (λ b. b < 256) (replicate n x)
bytes_same zero x low = All-nil (λ b. b < 256)
bytes_same (suc n) x low = All-cons (λ b. b < 256) x (replicate n x) low (bytes_same n x low)

-- its tags
pub have_tags : HasTags one_lies.scope
have_tags = record {
  epochs = omega arith;
  tags = λ maker receiver statement low high. record { size = refl; bytes = bytes_same 32 maker (omega (arith, low)) };
}

-- the content
pub is_carried : IsCarried (input 5)
is_carried = record {
  sound = record {
    some = omega arith;
    few = omega arith;
    fit = All-cons (λ z. FitsSigned w64 z) (pos 5) [] (omega arith) (All-nil (λ z. FitsSigned w64 z));
  };
  range = tt;
}

-- ---- the world

-- what is looked at of a guard
abbrev is_there : World → ℕ → Bool
is_there w g = ((w.nodes g).epoch == 0) && (not ((w.nodes g).retired 0) && not (w.nodes g).wedged)

-- and of the world: the honest guards, where the epoch begins at host 0, its entry, and what notes tell
abbrev looked_at : World → Bool × (Option Content × List Note)
looked_at w = (
  ((w.nodes 0).base 0 == 0) && (is_there w 0 && (is_there w 1 && is_there w 2)),
  (slice_get ((w.nodes 0).logs 0) 0, w.notes),
)

-- the events lead to a world that has it so
computes_with_a_liar : seen looked_at (replay one_lies with_a_liar (fresh_world one_lies)) ≡ (true, Some (true, (Some (input 5), [])))
unfolding words
computes_with_a_liar = refl

-- a guard of which this is seen is at the slot
at_slot : (w : World) (g : ℕ) → is_there w g ≡ true → IsAtSlot w 0 0 0 g
at_slot w g is =
    let first = both_true ((w.nodes g).epoch == 0) (not ((w.nodes g).retired 0) && not (w.nodes g).wedged) is in
    let rest = both_true (not ((w.nodes g).retired 0)) (not (w.nodes g).wedged) first.1 in record {
      epoch = eqb-true (w.nodes g).epoch 0 first.0;
      lives = not_true ((w.nodes g).retired 0) rest.0;
      active = not_true (w.nodes g).wedged rest.1;
      entries = omega arith;
    }

-- so the input may be relayed
may_relay : (w : World) → looked_at w ≡ (true, (Some (input 5), [])) → IsRelayable one_lies w 0 0 0 (input 5)
may_relay w is =
    let all = ap (λ x. x.0) is in
    let first = both_true ((w.nodes 0).base 0 == 0) (is_there w 0 && (is_there w 1 && is_there w 2)) all in
    let zeroth = both_true (is_there w 0) (is_there w 1 && is_there w 2) first.1 in
    let rest = both_true (is_there w 1) (is_there w 2) zeroth.1 in
    let base = eqb-true ((w.nodes 0).base 0) 0 first.0 in
    let notes = ap (λ x. x.1.1) is in record {
      host = omega arith;
      guards = λ g guard. at_slot w g (of_three g guard.host guard.honest zeroth.0 rest.0 rest.1);
      logged = (
        0,
        record {
          guard = record { host = omega arith; honest = refl; guards = refl };
          above = omega (arith, base);
          entry = ap (λ x. x.1.0) is;
        },
      );
      goes_on = λ event among.
          let none = subst (λ (ns : List Note). Contains ns (record { event = event; kind = tell.Wedged 0 })) notes among in
          omega (arith, none.1);
    }
  where
    of_three : (g : ℕ) → g < 4 → is_honest one_lies g ≡ true → is_there w 0 ≡ true → is_there w 1 ≡ true → is_there w 2 ≡ true
        → is_there w g ≡ true
    of_three zero low honest x y z = x
    of_three (suc zero) low honest x y z = y
    of_three (suc (suc zero)) low honest x y z = z
    of_three (suc (suc (suc zero))) low honest x y z = absurd (cc)
    of_three (suc (suc (suc (suc n)))) low honest x y z = absurd (omega (arith, low))

-- all that the relay asks for is met
pub can_relay : CanRelay
can_relay =
    let x = world_in looked_at (replay one_lies with_a_liar (fresh_world one_lies)) (true, (Some (input 5), [])) computes_with_a_liar in
    let all = replay_is one_lies with_a_liar (fresh_world one_lies) x.0 in
    let happens : HappenAll one_lies (fresh_world one_lies) with_a_liar (Ok x.1.0) = rw (← x.1.1) all in record {
      asked = is_scenario;
      good = are_good;
      tags = have_tags;
      carried = is_carried;
      world = x.1.0;
      happens = happens;
      may = may_relay x.1.0 x.1.2;
    }
