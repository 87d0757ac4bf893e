-- What each event makes of the assembly, and what a list of events does.
use Rattle.std.specs.Prelude.{ℕ, ◌+◌, ◌==◌, if◌then◌else◌, true, false, ℤ, List, [], ◌∷◌, ◌++◌, length, map, drop}
use Rattle.nys_bytes.specs.declared.content.Content.{Content}
use Rattle.nys_bytes.specs.declared.content.Content.TheVariants.{External, Message}
use Rattle.nys_source.specs.Rules.{Rules}
use Rattle.nys_source.specs.Tables.{put, put_at}
use Rattle.nys_source.specs.declared.step.Step.{Step}
use Rattle.nys_agreement.specs.Net.{Net}
use Rattle.nys_agreement.specs.Said.{By}
use Rattle.nys_agreement.specs.Alone.{step_of}
use Rattle.nys_agreement.specs.Assembly.{Assembly}
use Rattle.nys_agreement.specs.Events.{Enabled, Event}
use Rattle.nys_agreement.specs.Events.Event.{Decides, Enters, Hands, Inherits, Logs, Opens, Retires, Says, TopWedges, Wedges}

-- the entries by which a log of h passes all logs of h so far
abbrev pub surplus : Assembly → ℕ → List Content → List Content
surplus w h log = drop (length (w.longest h)) log

-- the longest logs, once there is this log of h
abbrev pub longest_with : Assembly → ℕ → List Content → ℕ → List Content
longest_with w h log = put w.longest h (w.longest h ++ surplus w h log)

-- the homes of their entries, where the log grew in epoch e
abbrev pub home_with : Assembly → ℕ → ℕ → List Content → ℕ → List ℕ
home_with w e h log = put w.home h (w.home h ++ map (λ _. e) (surplus w h log))

-- the run, with a step for each entry by which the log passes all others
abbrev pub run_with : Assembly → ℕ → List Content → List Step
run_with w h log = w.run ++ map (step_of h) (surplus w h log)

-- the inputs that wait once the host's own log takes a content: an input leaves the queue
abbrev pub left_by : Content → List (List ℤ) → List (List ℤ)
left_by (External payload) waiting = drop 1 waiting
left_by (Message p k payload) waiting = waiting

-- the waiting inputs, once the log of h at g takes a content
abbrev pub waiting_with : Assembly → ℕ → ℕ → Content → ℕ → List (List ℤ)
waiting_with w g h c = (if g == h then put w.waiting h (left_by c (w.waiting h)) else w.waiting)

-- the log of h at g with one content more
abbrev pub with_entry : Assembly → ℕ → ℕ → Content → Assembly
with_entry w g h c = let grown = w.log g h ++ c ∷ [] in record w {
  log = put_at w.log g h grown;
  waiting = waiting_with w g h c;
  longest = longest_with w h grown;
  home = home_with w (w.epoch g) h grown;
  run = run_with w h grown;
}

-- the decided log of h with these contents more
abbrev pub with_decision : Assembly → ℕ → List Content → Assembly
with_decision w h more = let grown = w.decided h ++ more in record w {
  decided = put w.decided h grown;
  decided_now = put w.decided_now h true;
  longest = longest_with w h grown;
  home = home_with w w.top h grown;
  run = run_with w h grown;
}

-- the next epoch, which begins each log where it was decided; the hosts that were decided live on in it
abbrev pub with_next_epoch : Assembly → Assembly
with_next_epoch w = record w {
  top = w.top + 1;
  top_wedged = false;
  decided_now = λ _. false;
  base = put w.base (w.top + 1) (λ h. length (w.decided h));
  live = put w.live (w.top + 1) w.decided_now;
}

-- the assembly after an event
abbrev pub after : Assembly → Event → Assembly
after w (Says g said) = record w { ledger = By g said ∷ w.ledger }
after w (Logs g h c) = with_entry w g h c
after w (Wedges g) = record w { wedged = put w.wedged g true }
after w (Enters g e) = record w { epoch = put w.epoch g e; wedged = put w.wedged g false }
after w (Inherits g h c) = with_entry w g h c
after w (Hands h payload) = record w {
  handed = put w.handed h (w.handed h ++ payload ∷ []);
  waiting = put w.waiting h (w.waiting h ++ payload ∷ []);
}
after w TopWedges = record w { top_wedged = true }
after w (Decides h more) = with_decision w h more
after w (Retires h) = record w { retired = put w.retired h true }
after w Opens = with_next_epoch w

-- each of the events may happen where it stands
abbrev pub Follows : {S : Type 0} → Rules S → Net → Assembly → List Event → Type 0
Follows rules net w [] = Unit {0}
Follows rules net w (event ∷ events) = Enabled rules net w event × Follows rules net (after w event) events

-- the assembly after events
abbrev pub after_all : Assembly → List Event → Assembly
after_all w [] = w
after_all w (event ∷ events) = after_all (after w event) events
