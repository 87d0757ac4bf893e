-- Faults of documents that are none.
use Rattle.std.proofs.Common.{◌≡◌, Bool, true, false, ℕ, List, None, Some, Err, refl}
use Rattle.std.specs.Str.{IsUtf8, is_utf8}
use Rattle.std.proofs.lemmas.Str.{IsUtf8-from_is_utf8, is_utf8-from_IsUtf8}
use Rattle.toml.specs.Data.{Members}
use Rattle.toml.specs.Parse.{parse_document}
use Rattle.nys_scenario.specs.Document.{document_of}
use Rattle.nys_scenario.specs.Keys.{IsFaultOf, IsRefusal}
use Rattle.nys_scenario.specs.Keys.Refusal.{AtKey}
use Rattle.nys_scenario.specs.declared.fault.KeyKind.{KeyKind}
use Rattle.nys_scenario.specs.declared.fault.ScenarioFault.{ScenarioFault}
use Rattle.nys_scenario.specs.declared.fault.ScenarioFault.TheVariants as fault

-- a refusal is the fault of the answer that has it
pub is_fault : (A : Type 0) (key : List ℕ) (wrong : KeyKind) (f : ScenarioFault) → IsRefusal key wrong f
    → IsFaultOf {A = A} (Err (AtKey key wrong)) f
is_fault A key wrong (fault.Key k x) same = rw (same.0, same.1) refl
is_fault A key wrong (fault.Machine line col kind) same = absurd same
is_fault A key wrong fault.NoMemory same = tt

-- bytes that toml reads are a document
pub is_document : (bytes : List ℕ) (table : Members) → IsUtf8 bytes → parse_document bytes ≡ Some table → document_of bytes ≡ Some table
is_document bytes table text read = rw (is_utf8-from_IsUtf8 bytes text) read

-- bytes that are no text, or that toml refuses, are none
pub no_document : (bytes : List ℕ) → (IsUtf8 bytes → parse_document bytes ≡ None) → document_of bytes ≡ None
no_document bytes refused = go (is_utf8 bytes) refl
  where
    go : (b : Bool) → is_utf8 bytes ≡ b → document_of bytes ≡ None
    go true text = rw text (refused (IsUtf8-from_is_utf8 bytes text))
    go false text = rw text refl
