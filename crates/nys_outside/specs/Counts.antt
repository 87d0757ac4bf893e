-- Counts that never fall, and the answers that come only where one rose.
use Rattle.std.specs.Prelude.{ℕ, ◌+◌, ◌-◌, ◌^◌, ◌≤◌, ◌==◌, ◌≡◌, min, List, Bool, Result, OnErr, IsErrOf}
use Rattle.std.specs.List.{list_any}
use Rattle.nys_outside.specs.declared.fault.Failed.{Failed}
use Rattle.nys_outside.specs.declared.fault.OutFault.{OutFault}
use Rattle.nys_outside.specs.declared.fault.OutFault.TheVariants as out_fault
use Rattle.nys_outside.specs.declared.got.Got.{Got}
use Rattle.nys_outside.specs.declared.got.Got.TheVariants as got_kinds

-- a count rose; at its last value it counts as risen
abbrev pub Rose : ℕ → ℕ → Type 0
Rose before now = min (before + 1) (2 ^ 64 - 1) ≤ now

-- a count rose by one; it may stay at its last value
pub record RoseOnce (before now : ℕ) : Type 0 where
  pub later : before ≤ now
  pub rose : Rose before now
  pub once : now ≤ before + 1

-- a count of faults did not fall, and the call failed only where it rose
pub record HasCause {T : Type 0} (before now : ℕ) (result : Result T Failed) : Type 0 where
  pub later : before ≤ now
  pub failed : OnErr result (Rose before now)

-- a count of faults did not fall, and the call failed only where it rose; want of memory is no fault
pub record HasOutCause {T : Type 0} (before now : ℕ) (result : Result T OutFault) : Type 0 where
  pub later : before ≤ now
  pub failed : IsErrOf result out_fault.Failed → Rose before now
  pub memory : IsErrOf result out_fault.NoMemory → now ≡ before

-- a count of faults did not fall, and the poll failed only where it rose
pub record HasPollCause (before now : ℕ) (got : Got) : Type 0 where
  pub later : before ≤ now
  pub failed : got ≡ got_kinds.Failed → Rose before now

-- the calls of an object in memory
pub record Calls : Type 0 where
  -- the numbers of the calls that fail
  pub fails : List ℕ
  -- how many were made, which is the number of the next
  pub made : ℕ
  -- how many failed
  pub faults : ℕ

-- no call yet
abbrev pub first_calls : List ℕ → Calls
first_calls fails = record { fails = fails; made = 0; faults = 0 }

-- whether the next call is one that fails
abbrev pub is_listed : Calls → Bool
is_listed calls = list_any (λ number. number == calls.made) calls.fails
