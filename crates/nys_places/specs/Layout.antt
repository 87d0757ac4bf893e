-- Which map from names to lists the places stand for.
use Rattle.std.specs.Prelude.{◌≡◌, ◌<◌, ◌≤◌, ◌==◌, if◌then◌else◌, false, ℤ, List, [], ◌∷◌, length, take, drop, None}
use Rattle.nys_tree.specs.Bindings.{Declared, Bindings, top, seen}
use Rattle.nys_meaning.specs.ByName.{Names}
use Rattle.nys_meaning.specs.Stmts.{Run}
use Rattle.nys_places.specs.declared.cells.Cells.{Cells}

-- the numbers of a name: a payload's are read where they lie, all others in their places
abbrev pub list_in : Cells → Declared → List ℤ
list_in p d = if d.len == 0 then p.payload.now else take d.len (drop d.place p.numbers)

-- the map that the places stand for where these names are seen
abbrev pub names_of : Bindings → Cells → Names
names_of [] p = []
names_of (d ∷ ds) p = (d.text, list_in p d) ∷ names_of ds p

-- a name stands right above those that are declared before it and isn't one of them; a scalar has one number, and what
-- may be assigned has some
pub record IsAbove (d : Declared) (ds : Bindings) : Type 0 where
  -- it stands at the first place that is free
  pub place : d.place ≡ top ds
  -- no name that is seen is spelled so
  pub other : seen d.text ds ≡ None
  -- a scalar has one number
  pub single : d.is_list ≡ false → d.len ≡ 1
  -- what may be assigned has numbers in its places
  pub some : d.is_fixed ≡ false → 0 < d.len

-- each name stands right above those before it
abbrev pub IsStacked : Bindings → Type 0
IsStacked [] = Unit {0}
IsStacked (d ∷ ds) = IsAbove d ds × IsStacked ds

-- all that is seen has its place
pub record HasAll (s : Bindings) (p : Cells) : Type 0 where
  -- the places reach as far as what is seen
  pub places : top s ≤ length p.numbers

-- the run by name that a run by place stands for
abbrev pub run_of : Bindings → Run Cells → Run Names
run_of s u = record { names = names_of s u.names; left = u.left; effects = u.effects }
