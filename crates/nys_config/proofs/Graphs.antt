-- Hosts past the last are nobody's neighbours.
use Rattle.std.proofs.Common.{◌≡◌, ℕ, ◌≤◌, Bool, true, false, refl, arith}
use Rattle.nys_graph.specs.Links.{IsGraph}

-- a sender past the last
pub far_sender : (hosts : ℕ) (linked : ℕ → ℕ → Bool) → IsGraph hosts linked → (p h : ℕ) → hosts ≤ p → false ≡ linked p h
far_sender hosts linked shape p h past = go (linked p h) refl
  where
    go : (b : Bool) → linked p h ≡ b → false ≡ b
    go false e = refl
    go true e = absurd (omega (arith, past, (shape.within p h e).0))

-- a receiver past the last
pub far_receiver : (hosts : ℕ) (linked : ℕ → ℕ → Bool) → IsGraph hosts linked → (p h : ℕ) → hosts ≤ h → false ≡ linked p h
far_receiver hosts linked shape p h past = go (linked p h) refl
  where
    go : (b : Bool) → linked p h ≡ b → false ≡ b
    go false e = refl
    go true e = absurd (omega (arith, past, (shape.within p h e).1))
