-- What the machine of honest statements keeps.
use Rattle.std.specs.Prelude.{ℕ, Bool, true, false, ℤ, List, []}
use Rattle.nys_bytes.specs.declared.content.Content.{Content}
use Rattle.nys_source.specs.declared.step.Step.{Step}
use Rattle.nys_agreement.specs.Said.{Made}

-- the honest nodes, the Olympus, and what all of them said and did
pub record Assembly : Type 0 where
  -- of each node: its epoch
  pub epoch : ℕ → ℕ
  -- whether it was told that its epoch ends, and says no more than reports
  pub wedged : ℕ → Bool
  -- its log of each host
  pub log : ℕ → ℕ → List Content
  -- the inputs handed to it, in order, and those of them that wait for a slot
  pub handed : ℕ → List (List ℤ)
  pub waiting : ℕ → List (List ℤ)
  -- all that honest parties said, the newest first
  pub ledger : List Made
  -- of the Olympus: its epoch, and whether it has begun to end it
  pub top : ℕ
  pub top_wedged : Bool
  -- the decided log of each host
  pub decided : ℕ → List Content
  -- whether the host is decided for the epoch that ends
  pub decided_now : ℕ → Bool
  -- whether the host was given up for ever
  pub retired : ℕ → Bool
  -- the length at which each epoch begins a host's log, and whether the host lives in it
  pub base : ℕ → ℕ → ℕ
  pub live : ℕ → ℕ → Bool
  -- the longest log of each host, and of each of its entries the epoch whose votes or decision put it there
  pub longest : ℕ → List Content
  pub home : ℕ → List ℕ
  -- a step for each entry by which a log grew past all others
  pub run : List Step

-- the assembly at the beginning: epoch 0, and nothing said
abbrev pub beginning : Assembly
beginning = record {
  epoch = λ _. 0;
  wedged = λ _. false;
  log = λ _ _. [];
  handed = λ _. [];
  waiting = λ _. [];
  ledger = [];
  top = 0;
  top_wedged = false;
  decided = λ _. [];
  decided_now = λ _. false;
  retired = λ _. false;
  base = λ _ _. 0;
  live = λ _ _. true;
  longest = λ _. [];
  home = λ _. [];
  run = [];
}
