-- What the walk answers, beside what it must do: want of memory is the one free answer.
use Rattle.std.specs.Prelude.{◌≡◌, ℤ, List, [], ◌∷◌, ◌++◌, Option, Some, None, Result, Ok, Err}
use Rattle.nys_meaning.specs.declared.value.Listed.{Listed}
use Rattle.nys_meaning.specs.declared.value.Value.{Value}
use Rattle.nys_meaning.specs.Stmts.{Run}
use Rattle.nys_places.specs.declared.cells.Cells.{Cells}
use Rattle.nys_handler.specs.declared.stop.Stop.{Stop}
use Rattle.nys_handler.specs.declared.stop.Stop.TheVariants.{Fault, NoMemory}

-- a value is given where it must be, and a fault where there is one
abbrev pub Gives : {A : Type 0} → Option A → Result A Stop → Type 0
Gives given (Ok x) = given ≡ Some x
Gives given (Err Fault) = given ≡ None
Gives given (Err NoMemory) = Unit {0}

-- the run is left as it must be, and a fault is answered where there is one
abbrev pub Does : Option (Run Cells) → Result (Unit {0}) Stop → Run Cells → Type 0
Does wanted (Ok x) new = wanted ≡ Some new
Does wanted (Err Fault) new = wanted ≡ None
Does wanted (Err NoMemory) new = Unit {0}

-- a value is given, and the run has the units that it leaves
abbrev pub Evaluates : Option Value → Result Value Stop → Run Cells → Run Cells → Type 0
Evaluates given (Ok x) old new = (given ≡ Some x) × (new ≡ record old { left = x.left })
Evaluates given (Err Fault) old new = given ≡ None
Evaluates given (Err NoMemory) old new = Unit {0}

-- a list's numbers are given, and the run has the units that they leave
abbrev pub Lists : Option Listed → Result (List ℤ) Stop → Run Cells → Run Cells → Type 0
Lists given (Ok zs) old new = (given ≡ Some (record { numbers = zs; left = new.left })) × (new ≡ record old { left = new.left })
Lists given (Err Fault) old new = given ≡ None
Lists given (Err NoMemory) old new = Unit {0}

-- one number stands behind those so far
abbrev pub Pushes : List ℤ → ℤ → Result (Unit {0}) Stop → List ℤ → Type 0
Pushes old z (Ok x) new = new ≡ old ++ z ∷ []
Pushes old z (Err Fault) new = ⊥
Pushes old z (Err NoMemory) new = Unit {0}
