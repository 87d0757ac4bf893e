-- What sends and polls leave of what is known of links.
use Rattle.std.proofs.Common.{ℕ, ◌+◌, ◌-◌, ◌^◌, ◌<◌, ◌≤◌, ◌≡◌, Bool, true, false, List, [], ◌∷◌, ◌++◌, Option, None, Some, Ok, Err, refl, sym, ap, subst, ◌∙◌, arith, inl, inr, append-nil}
use Rattle.std.specs.Prelude.{Result, ◌||◌, ◌&&◌, ◌⊎◌}
use Rattle.std.proofs.lemmas.List.{append_assoc}
use Rattle.nys_outside.specs.Counts.{HasPollCause, Rose, RoseOnce}
use Rattle.nys_outside.specs.Network.{Directed, Network, KeepsFrames, Sends, SendStep, Polls, PollStep, is_closed}
use Rattle.nys_outside.specs.declared.got.Got.{Got}
use Rattle.nys_outside.specs.declared.got.Got.TheVariants as got
use Rattle.nys_outside.specs.declared.fault.OutFault.{OutFault}
use Rattle.nys_rules.specs.Packets.{Sent}
use Rattle.nys_carry.specs.Carrying.{AreCarried, ArePolled, Carriage, Carries, directed, due, frames, GrewBy, is_due, is_way, IsLess, Past, Told, with_offered}
use Rattle.nys_carry.specs.Polling.{given_by, has_closed, with_polled}
use Rattle.nys_carry.specs.declared.polling.Polled as polling
use Rattle.nys_carry.specs.declared.polling.Polled.TheVariants as polls
use Rattle.nys_carry.proofs.FrameLemmas.{due_here, due_other, each_given, each_sent, less_fewer, less_kept, less_lost, way_cases}

-- what holds before a send holds after it
told_send : {T E : Type 0} (Before After : Network → Network → Type 0) (from to : ℕ) (frame : List ℕ) (result : Result T E)
    (first old new : Option Network) → Sends from to frame result old new
    → ((f o n : Network) → SendStep from to frame result o n → Before f o → After f n)
    → Told Before first old → Told After first new
told_send Before After from to frame result None old new sends each told = tt
told_send Before After from to frame result (Some f) None new sends each told = absurd told
told_send Before After from to frame result (Some f) (Some o) None sends each told = absurd sends
told_send Before After from to frame result (Some f) (Some o) (Some n) sends each told = each f o n sends told

-- and before a poll
told_poll : (Before After : Network → Network → Type 0) (from to : ℕ) (answer : Got) (buf : List ℕ)
    (first old new : Option Network) → Polls from to answer buf old new
    → ((f o n : Network) → PollStep from to answer buf o n → Before f o → After f n)
    → Told Before first old → Told After first new
told_poll Before After from to answer buf None old new polled each told = tt
told_poll Before After from to answer buf (Some f) None new polled each told = absurd told
told_poll Before After from to answer buf (Some f) (Some o) None polled each told = absurd polled
told_poll Before After from to answer buf (Some f) (Some o) (Some n) polled each told = each f o n polled told

-- a count that rose below its last value is greater
rose_below : (before now : ℕ) → Rose before now → now < 2 ^ 64 - 1 → before + 1 ≤ now
rose_below before now rose low = omega (arith, rose, low)

-- a packet that went
sent_carried : {T : Type 0} (x : T) (honest : ℕ → Bool) (p : Sent) (all : Carriage) (first old new : Network) → is_due honest p ≡ true
    → SendStep {T = T} {E = OutFault} p.from p.to p.frame (Ok x) old new → AreCarried honest first old all
    → AreCarried honest first new (with_offered p all.lost all)
sent_carried x honest p all first old new is step carried = record {
  went = carried.went ++ directed p ∷ [];
  less = rw (due_here honest all.pool p is) (less_kept (due honest all.pool) carried.went all.lost (directed p) carried.less);
  given = step.given ∙ carried.given;
  each = each_sent all.given carried.went (directed p) first.waiting old.waiting new.waiting step.moves.0 step.moves.1 carried.each;
}

-- a packet that was refused
unsent_carried : {T : Type 0} (e : OutFault) (honest : ℕ → Bool) (p : Sent) (all : Carriage) (first old new : Network) → is_due honest p ≡ true
    → SendStep {T = T} {E = OutFault} p.from p.to p.frame (Err e) old new → AreCarried honest first old all
    → AreCarried honest first new (with_offered p (all.lost + 1) all)
unsent_carried e honest p all first old new is step carried = record {
  went = carried.went;
  less = rw (due_here honest all.pool p is) (less_lost (due honest all.pool) carried.went all.lost (directed p) carried.less);
  given = step.given ∙ carried.given;
  each = λ f t. ap (λ z. frames f t all.given ++ z) (step.moves f t) ∙ carried.each f t;
}

-- a send polls nothing
sent_polled : {T : Type 0} (result : Result T OutFault) (p : Sent) (lost : ℕ) (all : Carriage) (first old new : Network)
    → SendStep p.from p.to p.frame result old new → ArePolled first old all → ArePolled first new (with_offered p lost all)
sent_polled result p lost all first old new step polled = record {
  each = λ f t. subst (GrewBy (all.polled f t) (first.polls f t)) (sym (step.polls f t)) (polled.each f t);
  shut = λ f t shut. step.answered f t ∙ polled.shut f t shut;
}

-- all that is known, after a packet that went
pub carries_sent : {T : Type 0} (x : T) (honest : ℕ → Bool) (past : Past) (p : Sent) (all : Carriage) (old new : Option Network) (faults later : ℕ)
    → is_due honest p ≡ true → Sends {T = T} {E = OutFault} p.from p.to p.frame (Ok x) old new → faults ≤ later
    → Carries honest past all old faults → Carries honest past (with_offered p all.lost all) new later
carries_sent x honest past p all old new faults later is sends more c = record {
  carried = told_send (λ f o. AreCarried honest f o all) (λ f n. AreCarried honest f n (with_offered p all.lost all)) p.from p.to p.frame (Ok x)
      past.network old new sends (λ f o n step before. sent_carried x honest p all f o n is step before) c.carried;
  polled = told_send (λ f o. ArePolled f o all) (λ f n. ArePolled f n (with_offered p all.lost all)) p.from p.to p.frame (Ok x)
      past.network old new sends (λ f o n step before. sent_polled (Ok x) p all.lost all f o n step before) c.polled;
  counted = λ low. let was = c.counted (omega (arith, low, more)) in omega (arith, was, more);
  later = omega (arith, c.later, more);
}

-- and after one that was refused
pub carries_unsent : (T : Type 0) (e : OutFault) (honest : ℕ → Bool) (past : Past) (p : Sent) (all : Carriage) (old new : Option Network) (faults later : ℕ)
    → is_due honest p ≡ true → Sends {T = T} {E = OutFault} p.from p.to p.frame (Err e) old new → faults ≤ later → Rose faults later
    → Carries honest past all old faults → Carries honest past (with_offered p (all.lost + 1) all) new later
carries_unsent T e honest past p all old new faults later is sends more rose c = record {
  carried = told_send (λ f o. AreCarried honest f o all) (λ f n. AreCarried honest f n (with_offered p (all.lost + 1) all)) p.from p.to p.frame (Err e)
      past.network old new sends (λ f o n step before. unsent_carried e honest p all f o n is step before) c.carried;
  polled = told_send (λ f o. ArePolled f o all) (λ f n. ArePolled f n (with_offered p (all.lost + 1) all)) p.from p.to p.frame (Err e)
      past.network old new sends (λ f o n step before. sent_polled (Err e) p (all.lost + 1) all f o n step before) c.polled;
  counted = λ low.
      let was = c.counted (omega (arith, low, more)) in
      let risen = rose_below faults later rose low in
      omega (arith, was, risen);
  later = omega (arith, c.later, more);
}

-- a packet that isn't due leaves all as it was
pub carries_other : (honest : ℕ → Bool) (past : Past) (p : Sent) (all : Carriage) (now : Option Network) (faults : ℕ)
    → is_due honest p ≡ false → Carries honest past all now faults → Carries honest past (with_offered p all.lost all) now faults
carries_other honest past p all now faults is c = record {
  carried = by past.network now c.carried;
  polled = by_polled past.network now c.polled;
  counted = c.counted;
  later = c.later;
}
  where
    by : (first after : Option Network) → Told (λ f n. AreCarried honest f n all) first after
        → Told (λ f n. AreCarried honest f n (with_offered p all.lost all)) first after
    by None after told = tt
    by (Some f) None told = absurd told
    by (Some f) (Some n) told = record {
      went = told.went;
      less = rw (due_other honest all.pool p is) told.less;
      given = told.given;
      each = told.each;
    }

    by_polled : (first after : Option Network) → Told (λ f n. ArePolled f n all) first after
        → Told (λ f n. ArePolled f n (with_offered p all.lost all)) first after
    by_polled None after told = tt
    by_polled (Some f) None told = absurd told
    by_polled (Some f) (Some n) told = record { each = told.each; shut = told.shut }

-- a count that grew once more
grew_more : (count a b c : ℕ) → GrewBy count a b → RoseOnce b c → GrewBy (count + 1) a c
grew_more count a b c grew rose = record {
  most = omega (arith, grew.most, rose.once);
  least = λ low.
      let risen = rose_below b c rose.rose low in
      let was = grew.least (omega (arith, low, rose.later)) in
      omega (arith, risen, was);
}

-- of an or that is true one is true
or_true : (a b : Bool) → (a || b) ≡ true → (a ≡ true) ⊎ (b ≡ true)
or_true true b is = inl refl
or_true false b is = inr is

-- of an and that is true both are true
and_true : (a b : Bool) → (a && b) ≡ true → (a ≡ true) × (b ≡ true)
and_true true b is = (refl, is)
and_true false b is = absurd (cc)

-- or with the first true
or_first : (a b : Bool) → a ≡ true → (a || b) ≡ true
or_first a b is = rw is refl

-- or with the second true
or_second : (a b : Bool) → b ≡ true → (a || b) ≡ true
or_second true b is = refl
or_second false b is = is

-- what a poll of links is to a ring
abbrev pub came_to : Got → polling.Polled
came_to got.Frame = polls.Frame
came_to got.NotYet = polls.Nothing
came_to got.Closed = polls.Closed
came_to got.Failed = polls.Nothing
came_to got.NoMemory = polls.Nothing

-- it closes as the links say
same_closing : (answer : Got) → has_closed (came_to answer) ≡ is_closed answer
same_closing got.Frame = refl
same_closing got.NotYet = refl
same_closing got.Closed = refl
same_closing got.Failed = refl
same_closing got.NoMemory = refl

-- a poll is counted in its direction alone
polled_polled : (from to : ℕ) (answer : Got) (buf : List ℕ) (lost : ℕ) (all : Carriage) (first old new : Network)
    → PollStep from to answer buf old new → ArePolled first old all
    → ArePolled first new (with_polled from to (came_to answer) buf lost all)
polled_polled from to answer buf lost all first old new step polled = record {
  each = λ f t. elim (way_cases from to f t) [
    | inl here ↦
        let rose : RoseOnce (old.polls f t) (new.polls f t) = rw (here.0, here.1) step.counted in
        rw here.2 (grew_more (all.polled f t) (first.polls f t) (old.polls f t) (new.polls f t) (polled.each f t) rose)
    | inr other ↦ rw other.1 (subst (GrewBy (all.polled f t) (first.polls f t)) (sym (step.other_polls f t other.0)) (polled.each f t))
  ];
  shut = λ f t shut. elim (way_cases from to f t) [
    | inl here ↦
        let answered : new.answered f t ≡ old.answered f t || is_closed answer = rw (here.0, here.1) step.answered in
        answered ∙ elim (or_true (all.shut f t) (is_way from to f t && has_closed (came_to answer)) shut) [
          | inl before ↦ or_first (old.answered f t) (is_closed answer) (polled.shut f t before)
          | inr now ↦
              let closed = and_true (is_way from to f t) (has_closed (came_to answer)) now in
              or_second (old.answered f t) (is_closed answer) (sym (same_closing answer) ∙ closed.1)
        ]
    | inr other ↦
        step.other_answers f t other.0
        ∙ polled.shut f t (elim (or_true (all.shut f t) (is_way from to f t && has_closed (came_to answer)) shut) [
          | inl before ↦ before
          | inr now ↦
              let way = and_true (is_way from to f t) (has_closed (came_to answer)) now in
              absurd (let never : false ≡ true = sym other.1 ∙ way.0 in cc)
        ])
  ];
}

-- a poll that moved no frame
kept_carried : (honest : ℕ → Bool) (from to : ℕ) (answer : polling.Polled) (buf : List ℕ) (lost : ℕ) (all : Carriage) (first old new : Network)
    → given_by from to answer buf ≡ []
    → KeepsFrames old new → AreCarried honest first old all
    → ((went : List Directed) → IsLess (due honest all.pool) went all.lost → IsLess (due honest all.pool) went lost)
    → AreCarried honest first new (with_polled from to answer buf lost all)
kept_carried honest from to answer buf lost all first old new none kept carried fewer = record {
  went = carried.went;
  less = fewer carried.went carried.less;
  given = kept.given ∙ carried.given ∙ ap (λ z. first.given ++ z) (sym same);
  each = λ f t.
      ap (λ z. frames f t z ++ new.waiting f t) same
      ∙ ap (λ z. frames f t all.given ++ z) (kept.waiting f t)
      ∙ carried.each f t;
}
  where
    same : all.given ++ given_by from to answer buf ≡ all.given
    same = ap (λ z. all.given ++ z) none ∙ append-nil all.given

-- a poll that gave a frame
given_carried : (honest : ℕ → Bool) (from to : ℕ) (buf : List ℕ) (all : Carriage) (first old new : Network)
    → PollStep from to got.Frame buf old new → AreCarried honest first old all
    → AreCarried honest first new (with_polled from to polls.Frame buf all.lost all)
given_carried honest from to buf all first old new step carried = record {
  went = carried.went;
  less = carried.less;
  given = step.moves.2 ∙ ap (λ z. z ++ record { from = from; to = to; frame = buf } ∷ []) carried.given
      ∙ append_assoc first.given all.given (record { from = from; to = to; frame = buf } ∷ []);
  each = each_given all.given carried.went (record { from = from; to = to; frame = buf }) first.waiting old.waiting new.waiting
      step.moves.0 step.moves.1 carried.each;
}

-- how many are lost after a poll
abbrev pub lost_by : Got → ℕ → ℕ
lost_by got.Frame lost = lost
lost_by got.NotYet lost = lost
lost_by got.Closed lost = lost
lost_by got.Failed lost = lost + 1
lost_by got.NoMemory lost = lost

-- what a poll moved
polled_carried : (honest : ℕ → Bool) (from to : ℕ) (answer : Got) (buf : List ℕ) (all : Carriage) (first old new : Network)
    → PollStep from to answer buf old new → AreCarried honest first old all
    → AreCarried honest first new (with_polled from to (came_to answer) buf (lost_by answer all.lost) all)
polled_carried honest from to got.Frame buf all first old new step carried = given_carried honest from to buf all first old new step carried
polled_carried honest from to got.NotYet buf all first old new step carried =
    kept_carried honest from to polls.Nothing buf all.lost all first old new refl step.moves.1 carried (λ went less. less)
polled_carried honest from to got.Closed buf all first old new step carried =
    kept_carried honest from to polls.Closed buf all.lost all first old new refl step.moves.2 carried (λ went less. less)
polled_carried honest from to got.Failed buf all first old new step carried =
    kept_carried honest from to polls.Nothing buf (all.lost + 1) all first old new refl step.moves carried
    (λ went less. less_fewer (due honest all.pool) went all.lost less)
polled_carried honest from to got.NoMemory buf all first old new step carried =
    kept_carried honest from to polls.Nothing buf all.lost all first old new refl step.moves carried (λ went less. less)

-- the count of losses keeps behind the count of faults
counted_by : (answer : Got) (base lost faults later : ℕ) → HasPollCause faults later answer
    → (faults < 2 ^ 64 - 1 → base + lost ≤ faults) → later < 2 ^ 64 - 1 → base + lost_by answer lost ≤ later
counted_by got.Frame base lost faults later cause was low = let before = was (omega (arith, low, cause.later)) in omega (arith, before, cause.later)
counted_by got.NotYet base lost faults later cause was low = let before = was (omega (arith, low, cause.later)) in omega (arith, before, cause.later)
counted_by got.Closed base lost faults later cause was low = let before = was (omega (arith, low, cause.later)) in omega (arith, before, cause.later)
counted_by got.Failed base lost faults later cause was low =
    let before = was (omega (arith, low, cause.later)) in
    let risen = rose_below faults later (cause.failed refl) low in
    omega (arith, before, risen)
counted_by got.NoMemory base lost faults later cause was low = let before = was (omega (arith, low, cause.later)) in omega (arith, before, cause.later)

-- all that is known, after a poll
pub carries_polled : (honest : ℕ → Bool) (past : Past) (from to : ℕ) (answer : Got) (buf : List ℕ) (all : Carriage) (old new : Option Network)
    (faults later : ℕ) → Polls from to answer buf old new → HasPollCause faults later answer → Carries honest past all old faults
    → Carries honest past (with_polled from to (came_to answer) buf (lost_by answer all.lost) all) new later
carries_polled honest past from to answer buf all old new faults later polled cause c =
    let after = with_polled from to (came_to answer) buf (lost_by answer all.lost) all in record {
      carried = told_poll (λ f o. AreCarried honest f o all) (λ f n. AreCarried honest f n after) from to answer buf past.network old new polled
          (λ f o n step before. polled_carried honest from to answer buf all f o n step before) c.carried;
      polled = told_poll (λ f o. ArePolled f o all) (λ f n. ArePolled f n after) from to answer buf past.network old new polled
          (λ f o n step before. polled_polled from to answer buf (lost_by answer all.lost) all f o n step before) c.polled;
      counted = counted_by answer past.faults all.lost faults later cause c.counted;
      later = omega (arith, c.later, cause.later);
    }
