-- Names kept in a map from names to lists of numbers: what a machine means.
use Rattle.std.specs.Prelude.{ℕ, ℤ, pos, negsuc, ◌-◌, nat_lt, if◌then◌else◌, List, [], ◌∷◌, length, drop, Option, Some, None, slice_get, slice_set}
use Rattle.std.specs.Str.{bytes_eq}
use Rattle.nys_tree.specs.declared.name.Name.{Name}
use Rattle.nys_meaning.specs.Exprs.{Reads, go_on}
use Rattle.nys_meaning.specs.Stmts.{Store}

-- each name that is seen with its numbers, the newest name first; a scalar has one number
abbrev pub Names : Type 0
Names = List (List ℕ × List ℤ)

-- the numbers of a name
abbrev pub look : List ℕ → Names → Option (List ℤ)
look text [] = None
look text (d ∷ more) = if bytes_eq d.0 text then Some d.1 else look text more

-- the map with other numbers for a name
abbrev pub write : List ℕ → List ℤ → Names → Names
write text numbers [] = []
write text numbers (d ∷ more) = if bytes_eq d.0 text then (d.0, numbers) ∷ more else d ∷ write text numbers more

-- the item of a list at an index
abbrev pub item_of : ℤ → List ℤ → Option ℤ
item_of (pos i) numbers = slice_get numbers i
item_of (negsuc i) numbers = None

-- the list with another item at an index that it has
abbrev pub changed : ℤ → ℤ → List ℤ → Option (List ℤ)
changed (pos i) z numbers = if nat_lt i (length numbers) then Some (slice_set numbers i z) else None
changed (negsuc i) z numbers = None

-- reading by name
abbrev pub name_reads : Reads Names
name_reads = record {
  scalar = λ m name. go_on (look name.text m) (item_of (pos 0));
  item = λ m name i. go_on (look name.text m) (item_of i);
  len = λ m name. go_on (look name.text m) (λ numbers. Some (pos (length numbers)));
}

-- the map with an item changed, where the name is there and has the item
abbrev pub put : Names → Name → ℤ → ℤ → Option Names
put m name i z = go_on (look name.text m) (λ old. go_on (changed i z old) (λ numbers. Some (write name.text numbers m)))

-- keeping names by name: behind a block the names that it declared are gone
abbrev pub by_name : Store Names
by_name = record {
  reads = name_reads;
  set = λ m name z. put m name (pos 0) z;
  set_item = put;
  bind = λ m name z. (name.text, z ∷ []) ∷ m;
  leave = λ before behind. drop (length behind - length before) behind;
}
