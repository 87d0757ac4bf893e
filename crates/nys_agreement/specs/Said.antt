-- What honest parties said. A liar's word counts because nothing is asked of it, so none is kept.
use Rattle.std.specs.Prelude.{◌≡◌, ℕ, ◌≤◌, ◌⊎◌, true, false, ℤ, List, [], ◌∷◌}
use Rattle.nys_bytes.specs.declared.content.Content.{Content}
use Rattle.nys_agreement.specs.Net.{Net}

-- a statement: the epoch stands first, then the host that it is about
pub data Said : Type 0 where
  -- the host proposes a content for a slot of its log
  Offer : (e h s : ℕ) → Content → Said
  -- a guard backs one content for a slot
  Order : (e h s : ℕ) → Content → Said
  -- a guard knows that a quorum backs the content
  Deliver : (e h s : ℕ) → Content → Said
  -- the payload is number k of what host p sent to host h
  Attest : (e p h k : ℕ) → (payload : List ℤ) → Said
  -- a wedged guard tells the Olympus what may stand in a slot
  Report : (e h s : ℕ) → Content → Said
  -- a wedged guard made no Deliver in slot f or a later one, and never will in this epoch
  Frozen : (e h f : ℕ) → Said

-- a statement with its maker
pub data Made : Type 0 where
  By : (party : ℕ) → Said → Made

-- the ledger has the statement
abbrev pub Has : List Made → Made → Type 0
Has [] made = ⊥
Has (first ∷ rest) made = (first ≡ made) ⊎ Has rest made

-- a guard of host h in epoch e stands for the statement: it made it, unless it is a liar
abbrev pub Vouches : Net → List Made → ℕ → ℕ → Said → ℕ → Type 0
Vouches net ledger e h said m = (net.guards e h m ≡ true) × (net.liars m ≡ false → Has ledger (By m said))

-- a guard of host h in epoch e is frozen at slot f or an earlier one, unless it is a liar
abbrev pub FrozeBy : Net → List Made → ℕ → ℕ → ℕ → ℕ → Type 0
FrozeBy net ledger e h f m =
    (net.guards e h m ≡ true) × (net.liars m ≡ false → (at : ℕ) × (at ≤ f) × Has ledger (By m (Frozen e h at)))

-- a guard of both hosts in epoch e attests number k of p to h, unless it is a liar
abbrev pub AttestsBoth : Net → List Made → ℕ → ℕ → ℕ → ℕ → List ℤ → ℕ → Type 0
AttestsBoth net ledger e p h k payload m =
    (net.guards e h m ≡ true) × (net.guards e p m ≡ true)
    × (net.liars m ≡ false → Has ledger (By m (Attest e p h k payload)))
