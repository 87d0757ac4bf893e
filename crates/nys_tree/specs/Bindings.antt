-- What is seen where: the names that are declared, each with its numbers in the vector of places.
use Rattle.std.specs.Prelude.{ℕ, Bool, true, false, ◌+◌, ◌==◌, ◌&&◌, not, if◌then◌else◌, List, [], ◌∷◌, Option, Some, None, is_none}
use Rattle.std.specs.Str.{bytes_eq}
use Rattle.nys_tree.specs.declared.name.Name.{Name}

-- a name that is seen
pub record Declared : Type 0 where
  -- the bytes of the name
  pub text : List ℕ
  -- where its first number stands
  pub place : ℕ
  -- how many numbers it has, and 0 for a payload, whose length each handler is given
  pub len : ℕ
  -- whether it is a list
  pub is_list : Bool
  -- whether nothing may be assigned to it: payloads, senders and the names of loops
  pub is_fixed : Bool

-- the names that are seen, the newest first
abbrev pub Bindings : Type 0
Bindings = List Declared

-- the first place above all names that are seen; a payload takes no place
abbrev pub top : Bindings → ℕ
top [] = 0
top (d ∷ ds) = d.place + d.len

-- what a name stands for
abbrev pub seen : List ℕ → Bindings → Option Declared
seen text [] = None
seen text (d ∷ ds) = if bytes_eq d.text text then Some d else seen text ds

-- a use of a name has the place and the length of what it stands for
abbrev pub stands_for : Name → Declared → Bool
stands_for name d = (name.place == d.place) && (name.len == d.len)

-- what a name stands for is a scalar
abbrev pub is_scalar_by : Name → Option Declared → Bool
is_scalar_by name None = false
is_scalar_by name (Some d) = not d.is_list && stands_for name d

-- the name is seen as a scalar, and stands for it
abbrev pub is_scalar : Bindings → Name → Bool
is_scalar s name = is_scalar_by name (seen name.text s)

-- what a name stands for is a list
abbrev pub is_list_by : Name → Option Declared → Bool
is_list_by name None = false
is_list_by name (Some d) = d.is_list && stands_for name d

-- the name is seen as a list, and stands for it
abbrev pub is_list : Bindings → Name → Bool
is_list s name = is_list_by name (seen name.text s)

-- what a name stands for may be assigned
abbrev pub is_free_by : Option Declared → Bool
is_free_by None = false
is_free_by (Some d) = not d.is_fixed

-- the name is seen, and may be assigned
abbrev pub is_free : Bindings → Name → Bool
is_free s name = is_free_by (seen name.text s)

-- the name isn't seen yet, and stands above all that are, with that many numbers
abbrev pub is_new : ℕ → Bindings → Name → Bool
is_new len s name = is_none (seen name.text s) && ((name.place == top s) && (name.len == len))

-- a `let` name: a scalar that may be assigned
abbrev pub let_of : Name → Declared
let_of name = record { text = name.text; place = name.place; len = name.len; is_list = false; is_fixed = false }

-- a loop's name or a sender: a scalar that may not be assigned
abbrev pub fixed_of : Name → Declared
fixed_of name = record { text = name.text; place = name.place; len = name.len; is_list = false; is_fixed = true }

-- a payload: a list that may not be assigned
abbrev pub payload_of : Name → Declared
payload_of name = record { text = name.text; place = name.place; len = name.len; is_list = true; is_fixed = true }
