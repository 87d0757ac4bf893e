-- Epochs that end: a host that can't be decided is given up, and new guards take over a log.
use Rattle.std.specs.Prelude.{ℕ, ◌+◌, ◌==◌, nat_lt, Bool, ◌&&◌, ◌||◌, if◌then◌else◌, ℤ, List, [], ◌∷◌, ◌++◌, map, replicate}
use Rattle.std.specs.List.{range_with_len}
use Rattle.nys_source.specs.declared.step.Step.TheVariants as step
use Rattle.nys_rules.specs.declared.decision.Decision.TheVariants as decide
use Rattle.nys_rules.specs.declared.decision.Opened.TheVariants as opens
use Rattle.nys_rules.specs.declared.decision.Retired.TheVariants as retire
use Rattle.nys_rules.specs.declared.notice.Note.{Note}
use Rattle.nys_rules.specs.declared.notice.NoteKind.{NoteKind}
use Rattle.nys_rules.specs.declared.notice.NoteKind.TheVariants as tell
use Rattle.nys_rules.specs.Events.{Plain}
use Rattle.nys_rules.specs.Events.Plain.{Decide, Deliver, Exchange, Flush, Input, Open, Retire, Wedge}
use Rattle.nys_rules.specs.Scope.{Scope}
use Rattle.nys_rule_examples.specs.Reached.{Replay}
use Rattle.nys_rule_examples.specs.Scenario.{first_message, four, honest, just, lying, passing, toy_tag}

-- a note of an event
abbrev pub note : ℕ → NoteKind → Note
note event kind = record { event = event; kind = kind }

-- host 0 alone has voted to deliver its input when the epoch ends; host 3 lies and says nothing
abbrev pub cut_short : List Plain
cut_short = Input 0 (just 5) ∷ Exchange ∷ Exchange ∷ Wedge ∷ Deliver 11 ∷ Deliver 12 ∷ Deliver 13 ∷ Flush
    ∷ Decide 0 ∷ Decide 1 ∷ Decide 2 ∷ Decide 3 ∷ Open ∷ Retire 0 ∷ Open ∷ []

-- two are frozen at 0, which is no quorum; once host 0 is given up the next epoch opens
abbrev pub given_up : Replay
given_up = record {
  setting = lying (four 4) (λ h. h == 3);
  events = cut_short;
  host = 0;
  nodes = 0 ∷ 1 ∷ 2 ∷ [];
  shown = record {
    run = step.Stop 0 ∷ [];
    logs = replicate 3 [];
    notes = note 3 (tell.Wedged 0)
        ∷ note 8 (tell.Decide 0 (decide.Undecided 0 2))
        ∷ note 9 (tell.Decide 1 (decide.Decided 0))
        ∷ note 10 (tell.Decide 2 (decide.Decided 0))
        ∷ note 11 (tell.Decide 3 (decide.Decided 0))
        ∷ note 12 (tell.Open (opens.NotAll 0))
        ∷ note 13 (tell.Retire 0 retire.Done)
        ∷ note 14 (tell.Open (opens.Done 1)) ∷ [];
    packets = 32;
  };
}

-- host g is one of 0 to 2, or this one
abbrev pub with_first_three : ℕ → ℕ → Bool
with_first_three last g = nat_lt g 3 || g == last

-- host g is this one, or one of 4 to 6
abbrev pub with_last_three : ℕ → ℕ → Bool
with_last_three first g = g == first || (nat_lt 3 g && nat_lt g 7)

-- who guards host h in an epoch: 0 to 2 and 3, or the host itself where it is a later one; in epoch 1
-- hosts 4 to 6 take over hosts 0 and 1
abbrev pub new_guards : (epoch host guard : ℕ) → Bool
new_guards e h g =
    if e == 1 && nat_lt h 2 then with_last_three h g
    else with_first_three (if nat_lt h 3 then 3 else h) g

-- seven hosts in two epochs
abbrev pub seven : Scope (List ℤ)
seven = record {
  rules = passing 7;
  epochs = 2;
  guards = new_guards;
  t = λ e h. 1;
  credit = λ e. 4;
  tag = toy_tag;
}

-- an input is logged, the epoch ends, all hosts are decided, and the next epoch goes on
abbrev pub handed_over : List Plain
handed_over = Input 0 (just 5) ∷ replicate 4 Exchange ++ (Wedge ∷ Flush ∷ Flush ∷ []) ++ map Decide (range_with_len 0 7)
    ++ (Open ∷ replicate 6 Exchange) ++ (Deliver 15 ∷ [])

-- the new guards have the old log, and take the message that it made host 0 send
abbrev pub taken_over : Replay
taken_over = record {
  setting = honest seven;
  events = handed_over;
  host = 1;
  nodes = 1 ∷ 4 ∷ 5 ∷ 6 ∷ [];
  shown = record {
    run = step.Input 0 (just 5) ∷ step.Receive 1 0 0 ∷ [];
    logs = replicate 4 (first_message ∷ []);
    notes = note 5 (tell.Wedged 0)
        ∷ note 8 (tell.Decide 0 (decide.Decided 1))
        ∷ map (λ h. note (8 + h) (tell.Decide h (decide.Decided 0))) (range_with_len 1 6)
        ++ (note 15 (tell.Open (opens.Done 1)) ∷ []);
    packets = 122;
  };
}
