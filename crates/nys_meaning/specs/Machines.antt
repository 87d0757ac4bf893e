-- What a machine does with a payload: its handlers, over a map from names to lists of numbers.
use Rattle.std.specs.Prelude.{ℕ, ℤ, pos, negsuc, ◌==◌, Bool, if◌then◌else◌, List, [], ◌∷◌, ◌++◌, length, take, drop, replicate, filter, Option, Some, None}
use Rattle.std.specs.List.{range_with_len}
use Rattle.nys_source.specs.Rules.{Rules}
use Rattle.nys_source.specs.declared.effect.Effect.{Effect}
use Rattle.nys_tree.specs.declared.machine.Machine.{Machine}
use Rattle.nys_tree.specs.declared.machine.Var.{Var}
use Rattle.nys_meaning.specs.declared.TheConstants.{MAX_UNITS}
use Rattle.nys_meaning.specs.declared.here.Here.{Here}
use Rattle.nys_meaning.specs.ByName.{Names, by_name}
use Rattle.nys_meaning.specs.Stmts.{Run, block}

-- how many numbers a variable has: those in its brackets, or one
abbrev pub count_by : Option ℤ → ℕ
count_by None = 1
count_by (Some (pos n)) = n
count_by (Some (negsuc n)) = 0

-- how many numbers a variable has
abbrev pub count_of : Var → ℕ
count_of v = count_by v.size

-- the numbers with which the variables begin, in order of declaration
abbrev pub starts : List Var → List ℤ
starts [] = []
starts (v ∷ more) = replicate (count_of v) v.start ++ starts more

-- the map of variables, in front of those declared before, by the numbers of a state
abbrev pub names_from : List Var → List ℤ → Names → Names
names_from [] numbers before = before
names_from (v ∷ more) numbers before = names_from more (drop (count_of v) numbers) ((v.name.text, take (count_of v) numbers) ∷ before)

-- the map of the variables, by the numbers of a state
abbrev pub variables_of : Machine → List ℤ → Names
variables_of m state = names_from m.vars state []

-- the numbers of a map, in order of declaration
abbrev pub numbers_in : Names → List ℤ
numbers_in [] = []
numbers_in (d ∷ more) = numbers_in more ++ d.1

-- the run with which a handler begins
abbrev pub begun : {E : Type 0} → E → Run E
begun names = record { names = names; left = MAX_UNITS; effects = [] }

-- what a handler does: on an input its list is seen, on a message the sender and the list
abbrev pub handled : Machine → Here → Option ℕ → List ℤ → Names → Option (Run Names)
handled m h None payload variables =
    block by_name h m.on_input.body (begun ((m.on_input.payload.text, payload) ∷ variables))
handled m h (Some from) payload variables =
    block by_name h m.on_receive.body (begun ((m.on_receive.payload.text, payload) ∷ (m.on_receive.sender.text, pos from ∷ []) ∷ variables))

-- what a handler leaves: after a fault the state as it was, and no effects
abbrev pub left_by : Names → List ℤ → Option (Run Names) → List ℤ × List Effect
left_by variables state None = (state, [])
left_by variables state (Some u) = (numbers_in (by_name.leave variables u.names), u.effects)

-- whether these numbers are a state of the machine: they are as many as its variables have
abbrev pub is_state : Machine → List ℤ → Bool
is_state m state = length state == length (starts m.vars)

-- the new state and the effects, where a host in this state takes a payload
unfoldable pub next : Machine → Here → List ℤ → Option ℕ → List ℤ → List ℤ × List Effect
next m h state from payload =
    if is_state m state then left_by (variables_of m state) state (handled m h from payload (variables_of m state)) else (state, [])

-- what a handler at host h may ask of it: its number, how many hosts there are, and its neighbours, rising
abbrev pub here_at : ℕ → (ℕ → ℕ → Bool) → ℕ → Here
here_at hosts linked h = record { me = h; hosts = hosts; near = filter (linked h) (range_with_len 0 hosts) }

-- the rules of a machine on a graph
abbrev pub machine_rules : Machine → ℕ → (ℕ → ℕ → Bool) → Rules (List ℤ)
machine_rules m hosts linked = record {
  hosts = hosts;
  linked = linked;
  start = λ _. starts m.vars;
  next = λ h. next m (here_at hosts linked h);
  view = λ state. state;
}
