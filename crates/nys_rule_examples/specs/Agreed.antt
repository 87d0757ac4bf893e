-- Honest hosts agree on an input, and then on the message that it makes its host send.
use Rattle.std.specs.Prelude.{ℕ, List, [], ◌∷◌, ◌++◌, map, replicate}
use Rattle.nys_source.specs.declared.step.Step.TheVariants as step
use Rattle.nys_rules.specs.Events.{Plain}
use Rattle.nys_rules.specs.Events.Plain.{Ask, Deliver, Exchange, Input}
use Rattle.nys_rule_examples.specs.Reached.{Replay}
use Rattle.nys_rule_examples.specs.Scenario.{first_message, four, honest, input, just, lone}

-- an input of host 0, and then so many exchanges
abbrev pub input_and : (exchanges : ℕ) → List Plain
input_and exchanges = Input 0 (just 5) ∷ replicate exchanges Exchange

-- all four nodes
abbrev pub all_four : List ℕ
all_four = 0 ∷ 1 ∷ 2 ∷ 3 ∷ []

-- three exchanges are too few: offers, orders, certificates and Delivers are sent, and nobody has logged
abbrev pub too_few : Replay
too_few = record {
  setting = honest (four 4);
  events = input_and 3;
  host = 0;
  nodes = all_four;
  shown = record {
    run = [];
    logs = replicate 4 [];
    notes = [];
    packets = 24;
  };
}

-- after four exchanges each guard has logged the input, and the run has it
abbrev pub logged : Replay
logged = record {
  setting = honest (four 4);
  events = input_and 4;
  host = 0;
  nodes = all_four;
  shown = record {
    run = step.Input 0 (just 5) ∷ [];
    logs = replicate 4 (input 5 ∷ []);
    notes = [];
    packets = 36;
  };
}

-- eight exchanges are too few for the message
abbrev pub not_received : Replay
not_received = record {
  setting = honest (four 4);
  events = input_and 8;
  host = 1;
  nodes = all_four;
  shown = record {
    run = step.Input 0 (just 5) ∷ [];
    logs = replicate 4 [];
    notes = [];
    packets = 60;
  };
}

-- after nine each guard has logged that host 1 took it
abbrev pub received : Replay
received = record {
  setting = honest (four 4);
  events = input_and 9;
  host = 1;
  nodes = all_four;
  shown = record {
    run = step.Input 0 (just 5) ∷ step.Receive 1 0 0 ∷ [];
    logs = replicate 4 (first_message ∷ []);
    notes = [];
    packets = 60;
  };
}

-- the packets by which three guards log the input and host 3 is sent nothing
abbrev pub past_3 : List ℕ
past_3 = 0 ∷ 1 ∷ 3 ∷ 4 ∷ 5 ∷ 6 ∷ 8 ∷ 9 ∷ 11 ∷ 12 ∷ 14 ∷ 15 ∷ 17 ∷ 18 ∷ 20 ∷ 21 ∷ 23 ∷ 24 ∷ 26 ∷ 27 ∷ 29 ∷ 30 ∷ 31
    ∷ 32 ∷ 34 ∷ 35 ∷ 37 ∷ 38 ∷ 40 ∷ 41 ∷ []

-- three guards have logged the input, and the fourth knows nothing
abbrev pub left_behind : Replay
left_behind = record {
  setting = honest (four 4);
  events = Input 0 (just 5) ∷ map Deliver past_3;
  host = 0;
  nodes = all_four;
  shown = record {
    run = step.Input 0 (just 5) ∷ step.Receive 1 0 0 ∷ [];
    logs = (input 5 ∷ []) ∷ (input 5 ∷ []) ∷ (input 5 ∷ []) ∷ [] ∷ [];
    notes = [];
    packets = 43;
  };
}

-- it asks; packet 44 is its question to host 1, and packet 55 the answer: the three votes in one record
abbrev pub caught_up : Replay
caught_up = record {
  setting = honest (four 4);
  events = Input 0 (just 5) ∷ map Deliver past_3 ++ (Ask 3 ∷ Deliver 44 ∷ Deliver 55 ∷ []);
  host = 0;
  nodes = all_four;
  shown = record {
    run = step.Input 0 (just 5) ∷ step.Receive 1 0 0 ∷ [];
    logs = replicate 4 (input 5 ∷ []);
    notes = [];
    packets = 62;
  };
}

-- a host that guards itself logs its input at once, and sends nothing
abbrev pub alone : Replay
alone = record {
  setting = honest lone;
  events = Input 0 (just 5) ∷ [];
  host = 0;
  nodes = 0 ∷ [];
  shown = record {
    run = step.Input 0 (just 5) ∷ [];
    logs = (input 5 ∷ []) ∷ [];
    notes = [];
    packets = 0;
  };
}
