-- What a meant view says of the tables that a node keeps.
use Rattle.std.proofs.Common.{◌≡◌, ℕ, ◌<◌, List, length, sym, subst, arith}
use Rattle.std.specs.Prelude.{All, slice_get, slice_index_or, Some}
use Rattle.std.proofs.lemmas.Option.{get_or_from_slice_get, slice_get-get_or, slice_get_read}
use Rattle.nys_rules.specs.Scope.{Scope}
use Rattle.nys_rules.specs.View.{Desk, View}
use Rattle.nys_node.specs.Means.{Means}
use Rattle.nys_sending.specs.Tables.{IsTable}
use Rattle.nys_node.specs.declared.node.Node.{Node}

-- what is read for a host is what the function gives
pub table_read : {A : Type 0} (items : List A) (f : ℕ → A) (h : ℕ) (d : A) → IsTable items f → h < 32 → slice_index_or items h d ≡ f h
table_read items f h d table below = table.each h (slice_index_or items h d) (slice_get-get_or items h d (omega (arith, table.size, below)))

-- a desk that is read is the view's
pub desk_read : {P S : Type 0} (scope : Scope S) (node : Node P S) (v : View) (h : ℕ) (desk : Desk) → Means scope node v → h < 32
    → desk ≡ slice_index_or node.desks.items h desk → desk ≡ v.desks h
desk_read scope node v h desk m below at = m.desks.each h desk (slice_get_read node.desks.items 32 h desk (sym m.desks.size) below at)

-- what stands at a place has what all have
pub all_at : {A : Type 0} (F : A → Type 0) (xs : List A) (i : ℕ) (x : A) → All F xs → i < length xs → slice_get xs i ≡ Some x → F x
all_at F xs i x all within at = subst F (get_or_from_slice_get xs i x x at) (all i x within)

-- a row that is read is what the function gives
pub row_read : {A : Type 0} (items : List A) (f : ℕ → A) (h : ℕ) (x : A) → IsTable items f → h < 32 → x ≡ slice_index_or items h x → x ≡ f h
row_read items f h x table below at = table.each h x (slice_get_read items 32 h x (sym table.size) below at)
