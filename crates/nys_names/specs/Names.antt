-- Names by the rules, in the order of their tests: what a use stands for, and where a declaration stands.
use Rattle.std.specs.Prelude.{◌≡◌, ◌≢◌, ℕ, ◌+◌, ◌≤◌, if◌then◌else◌, List, [], ◌∷◌, length, map, reverse, Option, Some, None, Result, Ok, Err}
use Rattle.nys_lex.specs.declared.fault.MachineFault.{MachineFault}
use Rattle.nys_lex.specs.declared.fault.MachineFault.TheVariants.{At, NoMemory}
use Rattle.nys_lex.specs.declared.fault.MachineKind.{MachineKind}
use Rattle.nys_lex.specs.declared.fault.MachineKind.TheVariants as kind
use Rattle.nys_tree.specs.declared.name.Name.{Name}
use Rattle.nys_tree.specs.Bindings.{Declared, Bindings, top, seen}
use Rattle.nys_tree.specs.Named.{MAX_STATE}
use Rattle.nys_names.specs.declared.bindings.Entry.{Entry}

-- what was placed, or the first fault
abbrev pub Outcome : Type 0 → Type 0
Outcome A = Result A MachineFault

-- what a part becomes by what is seen there
abbrev pub Placed : Type 0 → Type 0
Placed A = Bindings → Outcome A

-- one part, and then another by what the first became
abbrev pub go_on : {A B : Type 0} → Outcome A → (A → Outcome B) → Outcome B
go_on (Ok a) f = f a
go_on (Err fault) f = Err fault

-- a fault of this kind at this name
abbrev pub fault_at : MachineKind → Name → MachineFault
fault_at k name = At name.line name.col k

-- a name at this place, with so many numbers
abbrev pub name_at : Name → ℕ → ℕ → Name
name_at name place len = record { line = name.line; col = name.col; place = place; len = len; text = name.text }

-- a name that stands for this
abbrev pub stands : Name → Declared → Name
stands name d = name_at name d.place d.len

-- a use of a scalar, by what is seen under its name
abbrev pub scalar_by : Name → Option Declared → Outcome Name
scalar_by name None = Err (fault_at kind.Unknown name)
scalar_by name (Some d) = if d.is_list then Err (fault_at kind.List name) else Ok (stands name d)

-- a use of a scalar
unfoldable pub scalar : Name → Placed Name
scalar name s = scalar_by name (seen name.text s)

-- a use of a list, by what is seen under its name
abbrev pub list_by : Name → Option Declared → Outcome Name
list_by name None = Err (fault_at kind.Unknown name)
list_by name (Some d) = if d.is_list then Ok (stands name d) else Err (fault_at kind.Scalar name)

-- a use of a list
unfoldable pub list : Name → Placed Name
list name s = list_by name (seen name.text s)

-- an assignment, by what is seen under its name, and else a use
abbrev pub assigned : Name → Option Declared → Outcome Name → Outcome Name
assigned name None use_of = Err (fault_at kind.Unknown name)
assigned name (Some d) use_of = if d.is_fixed then Err (fault_at kind.Fixed name) else use_of

-- an assignment to a scalar
unfoldable pub set_scalar : Name → Placed Name
set_scalar name s = assigned name (seen name.text s) (scalar_by name (seen name.text s))

-- an assignment to an item of a list
unfoldable pub set_list : Name → Placed Name
set_list name s = assigned name (seen name.text s) (list_by name (seen name.text s))

-- a declaration, by what is seen under its name
abbrev pub new_by : ℕ → Name → ℕ → Option Declared → Outcome Name
new_by len name place None = Ok (name_at name place len)
new_by len name place (Some d) = Err (fault_at kind.Doubled name)

-- a declaration of a name with so many numbers, above all that are seen
unfoldable pub new_name : ℕ → Name → Placed Name
new_name len name s = new_by len name (top s) (seen name.text s)

-- what a function ensures: the outcome, unless memory fails
abbrev pub Answers : {A : Type 0} → Outcome A → Outcome A → Type 0
Answers outcome (Ok a) = outcome ≡ Ok a
Answers outcome (Err fault) = fault ≢ NoMemory → outcome ≡ Err fault

-- a name of these bytes that stands for what the entry says
abbrev pub with_text : List ℕ → Entry → Declared
with_text text e = record { text = text; place = e.place; len = e.len; is_list = e.is_list; is_fixed = e.is_fixed }

-- the most places that the names which no statement declares take: a state and a sender
abbrev pub BELOW_LETS : ℕ
BELOW_LETS = MAX_STATE + 1

-- the names of a map in the order of their declarations, by what bytes a key has
abbrev pub names_of : {K : Type 0} → (K → List ℕ) → List (K × Entry) → Bindings
names_of bytes es = reverse (map (λ e. with_text (bytes e.0) e.1) es)

-- no more places are taken up to each name than so many names need: each that a statement declares takes one
abbrev pub IsLow : Bindings → Type 0
IsLow [] = Unit {0}
IsLow (d ∷ ds) = (d.place + d.len ≤ BELOW_LETS + (length ds + 1)) × IsLow ds

-- a name that has just been given its place, with so many numbers
pub record IsPlaced (len : ℕ) (name : Name) (s : Bindings) : Type 0 where
  -- nothing is seen under it
  pub unseen : seen name.text s ≡ None
  -- it stands above all that are seen
  pub above : name.place ≡ top s
  -- it has the numbers that were asked for
  pub sized : name.len ≡ len
  -- no more places are taken than so many names need
  pub low : top s ≤ BELOW_LETS + length s

-- a name that may be seen next
pub record IsNext (d : Declared) (s : Bindings) : Type 0 where
  -- nothing is seen under it
  pub unseen : seen d.text s ≡ None
  -- with it, no more places are taken than so many names need
  pub low : d.place + d.len ≤ BELOW_LETS + (length s + 1)
