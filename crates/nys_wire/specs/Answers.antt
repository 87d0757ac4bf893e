-- What a function that reads may answer, beside want of memory.
use Rattle.std.specs.Prelude.{◌≡◌, Result, Ok, Err}
use Rattle.nys_bytes.specs.Reading.{Reading}
use Rattle.nys_wire.specs.declared.fault.RefFault.{RefFault}
use Rattle.nys_wire.specs.declared.fault.WireFault.{WireFault}
use Rattle.nys_wire.specs.declared.fault.WireFault.TheVariants.{At, NoMemory}

-- the fault is that of the reading, or memory ran out
abbrev pub Fails : {A : Type 0} → WireFault → Result A WireFault → Type 0
Fails (At place kind) read = read ≡ Err (At place kind)
Fails NoMemory read = Unit {0}

-- what was answered is the whole of a reading, unless memory ran out
abbrev pub GivesAll : {A : Type 0} → Result A WireFault → Result A WireFault → Type 0
GivesAll (Ok x) read = read ≡ Ok x
GivesAll (Err e) read = Fails e read

-- ---- in place, which takes no memory

-- what was answered, standing at `now`, is what the reading gives
abbrev pub Finds : {A : Type 0} → Result A RefFault → Reading → Result (A × Reading) WireFault → Type 0
Finds (Ok x) now read = read ≡ Ok (x, now)
Finds (Err e) now read = read ≡ Err (At e.place e.kind)

-- the reading gives what this is shown as
abbrev pub Tells : {A B : Type 0} → (B → A) → Result B RefFault → Reading → Result (A × Reading) WireFault → Type 0
Tells shown (Ok y) now read = read ≡ Ok (shown y, now)
Tells shown (Err e) now read = read ≡ Err (At e.place e.kind)

-- the reading has a fault where this was answered, and gives something else
abbrev pub Passes : {A B : Type 0} → Result B RefFault → Reading → Result (A × Reading) WireFault → Type 0
Passes {A = A} (Ok y) now read = (x : A) × (read ≡ Ok (x, now))
Passes (Err e) now read = read ≡ Err (At e.place e.kind)

-- what was answered is the whole of a reading
abbrev pub FindsAll : {A : Type 0} → Result A RefFault → Result A WireFault → Type 0
FindsAll (Ok x) read = read ≡ Ok x
FindsAll (Err e) read = read ≡ Err (At e.place e.kind)

-- the whole of a reading is what this is shown as
abbrev pub TellsAll : {A B : Type 0} → (B → A) → Result B RefFault → Result A WireFault → Type 0
TellsAll shown (Ok y) read = read ≡ Ok (shown y)
TellsAll shown (Err e) read = read ≡ Err (At e.place e.kind)
