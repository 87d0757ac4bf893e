-- What may be wrong with a document: the first key at fault, or the machine's text.
use Rattle.std.specs.Prelude.{◌≡◌, ℕ, List, codes, Result, Ok, Err}
use Rattle.nys_lex.specs.declared.fault.MachineFault.{MachineFault}
use Rattle.nys_lex.specs.declared.fault.MachineFault.TheVariants.{At, NoMemory}
use Rattle.nys_scenario.specs.declared.fault.KeyKind.{KeyKind}
use Rattle.nys_scenario.specs.declared.fault.KeyKind.TheVariants.{Syntax, Missing, Kind, Range, Unknown}
use Rattle.nys_scenario.specs.declared.fault.ScenarioFault.{ScenarioFault}
use Rattle.nys_scenario.specs.declared.fault.ScenarioFault.TheVariants as fault

-- the word that is printed for a kind
abbrev pub word_of : KeyKind → List ℕ
word_of Syntax = codes "syntax"
word_of Missing = codes "missing"
word_of Kind = codes "type"
word_of Range = codes "range"
word_of Unknown = codes "unknown"

-- why a document says no scenario
pub data Refusal : Type 0 where
  -- the key as it is printed, and what is wrong with it
  AtKey : (key : List ℕ) → (kind : KeyKind) → Refusal
  -- the first fault of the machine's text
  AtMachine : MachineFault → Refusal

-- what a key gives, with the key named where it is refused
abbrev pub named : {A : Type 0} → List ℕ → Result A KeyKind → Result A Refusal
named key (Ok value) = Ok value
named key (Err kind) = Err (AtKey key kind)

-- a key after those before it, of which the first at fault is answered
abbrev pub after : {A B : Type 0} → Result A Refusal → (A → Result B Refusal) → Result B Refusal
after (Ok value) next = next value
after (Err refusal) next = Err refusal

-- the fault of a machine's text, as that of its document
abbrev pub fault_of : MachineFault → ScenarioFault
fault_of (At line col kind) = fault.Machine line col kind
fault_of NoMemory = fault.NoMemory

-- the fault is the one that an answer has, or want of memory
abbrev pub IsFaultOf : {A : Type 0} → Result A Refusal → ScenarioFault → Type 0
IsFaultOf answer (fault.Key key kind) = answer ≡ Err (AtKey key kind)
IsFaultOf answer (fault.Machine line col kind) = answer ≡ Err (AtMachine (At line col kind))
IsFaultOf answer fault.NoMemory = Unit {0}

-- the fault is that of this key, or want of memory
abbrev pub IsRefusal : List ℕ → KeyKind → ScenarioFault → Type 0
IsRefusal key wrong (fault.Key k x) = (k ≡ key) × (x ≡ wrong)
IsRefusal key wrong (fault.Machine line col kind) = ⊥
IsRefusal key wrong fault.NoMemory = Unit {0}
