-- The system that is replicated, as it would be with honest hosts alone.
use Rattle.std.specs.Prelude.{ℕ, Bool, true, ℤ, List, []}
use Rattle.nys_source.specs.Rules.{Rules}

-- what each host and each directed link holds
pub record Source (S : Type 0) : Type 0 where
  -- the state of each host
  pub state : ℕ → S
  -- whether a host runs, or has stopped
  pub running : ℕ → Bool
  -- the outputs of each host, in order
  pub outs : ℕ → List (List ℤ)
  -- the payloads that the first host has sent to the second, in order
  pub sent : ℕ → ℕ → List (List ℤ)
  -- how many payloads of the first host the second has received
  pub received : ℕ → ℕ → ℕ
  -- the sender and the receiver of each message of the whole run, in order of sending
  pub messages : List (ℕ × ℕ)

-- the system at the beginning: all hosts run, nothing was sent
abbrev pub fresh : {S : Type 0} → Rules S → Source S
fresh rules = record {
  state = rules.start;
  running = λ _. true;
  outs = λ _. [];
  sent = λ _ _. [];
  received = λ _ _. 0;
  messages = [];
}
