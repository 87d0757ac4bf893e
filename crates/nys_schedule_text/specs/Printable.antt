-- The events of a ring between so many hosts, with values of their types.
use Rattle.std.specs.Prelude.{ℕ, ℤ, ◌<◌, ◌≤◌, List, All, FitsSigned, length}
use Rattle.std.specs.Int.{w64}
use Rattle.hex.specs.Hex.{IsBytes}
use Rattle.nys_bytes.specs.declared.payload.TheConstants.{MAX_NUMBERS}
use Rattle.nys_hosts.specs.declared.limits.TheConstants.{MAX_FRAME}
use Rattle.nys_rules.specs.Events.{Plain}
use Rattle.nys_rules.specs.Events.Plain.{Input, Ask, Bytes}

-- a payload: one to so many numbers of 64 bits
pub record IsPayload (payload : List ℤ) : Type 0 where
  pub some : 1 ≤ length payload
  pub few : length payload ≤ MAX_NUMBERS
  pub fit : All (λ z. FitsSigned w64 z) payload

-- the bytes of a frame
pub record IsFrame (frame : List ℕ) : Type 0 where
  pub some : 1 ≤ length frame
  pub few : length frame ≤ MAX_FRAME
  pub bytes : IsBytes frame

-- an input, an ask or a frame's bytes, for one of these hosts
abbrev pub IsPrintable : ℕ → Plain → Type 0
IsPrintable hosts (Input h payload) = (h < hosts) × IsPayload payload
IsPrintable hosts (Ask h) = h < hosts
IsPrintable hosts (Bytes to frame) = (to < hosts) × IsFrame frame
IsPrintable hosts _ = ⊥
