-- A node of which one bank has other heads.
use Rattle.std.proofs.Common.{◌≡◌, ℕ, zero, suc, ◌+◌, ◌<◌, ◌≤◌, ◌==◌, ◌&&◌, Bool, true, false, cond, nat_lt, List, ◌∷◌, map, refl, ap, sym, ◌∙◌, arith, lt-ltb}
use Rattle.std.specs.Prelude.{Option, Some, None, is_some, slice_index_or, slice_set}
use Rattle.std.specs.List.{range_with_len}
use Rattle.std.specs.Option.{option_or}
use Rattle.std.specs.Vec.{with_item}
use Rattle.std.proofs.lemmas.Option.{slice_get_read}
use Rattle.nys_hosts.specs.Sets.{has}
use Rattle.nys_hosts.specs.declared.set.HostSet.{HostSet}
use Rattle.nys_rules.specs.Heads.{head, recorded}
use Rattle.nys_rules.specs.Scope.{Scope}
use Rattle.nys_rules.specs.View.{is_live, length_of, next_number, View}
use Rattle.nys_source.specs.Tables.{put}
use Rattle.nys_votes.specs.Seats.{seat_of}
use Rattle.nys_node.specs.Means.{Means}
use Rattle.nys_sending.specs.Tables.{IsTable}
use Rattle.nys_node.specs.declared.node.Node.{Node}
use Rattle.nys_sending.proofs.TableLemmas.{table_put}

-- a table is that of each function with the same values
pub table_as : {A : Type 0} (items : List A) (f g : ℕ → A) → ((x : ℕ) → f x ≡ g x) → IsTable items f → IsTable items g
table_as items f g same table = record { size = table.size; each = λ x item at. table.each x item at ∙ same x }

-- pairs with one first member, of which one second member changes
pub put_pair : {A B : Type 0} (c : A) (f : ℕ → B) (h : ℕ) (y : B) (x : ℕ) → ◌≡◌ {A = A × B} (put (λ k. (c, f k)) h (c, y) x) (c, put f h y x)
put_pair {A} {B} c f h y x = by (x == h)
  where
    by : (b : Bool) → ◌≡◌ {A = A × B} (cond b (c, y) (c, f x)) (c, cond b y (f x))
    by true = refl
    by false = refl

-- the bank that stands at a host's place has the credit of the epoch and the host's heads
pub bank_is : {P S : Type 0} (scope : Scope S) (node : Node P S) (h : ℕ) (bank : ℕ × List (Option ℕ)) → h < 32
    → bank ≡ slice_index_or node.banks.items h bank → (v : View) → Means scope node v → bank ≡ (scope.credit v.epoch, v.heads h)
bank_is scope node h bank below at v m = m.banks.each h bank (slice_get_read node.banks.items 32 h bank (sym m.banks.size) below at)

-- the heads of h are others
pub means_heads : {P S : Type 0} (scope : Scope S) (node : Node P S) (h : ℕ) (old new : ℕ × List (Option ℕ)) (heads : List (Option ℕ)) → h < 32
    → old ≡ slice_index_or node.banks.items h old → new ≡ (old.0, heads) → (v : View) → Means scope node v
    → Means scope (record node { banks = with_item node.banks h new }) (record v { heads = put v.heads h heads })
unfolding is_live next_number
means_heads scope node h old new heads below at same v m = record {
  me = m.me;
  host = m.host;
  few = m.few;
  epoch = m.epoch;
  within = m.within;
  wedged = m.wedged;
  live = m.live;
  retired = m.retired;
  base = m.base;
  voted_to = m.voted_to;
  waiting = m.waiting;
  room = m.room;
  desks = m.desks;
  slots = m.slots;
  rows = m.rows;
  replicas = m.replicas;
  kept = m.kept;
  banks = table_as (slice_set node.banks.items h new) (put (λ k. (scope.credit v.epoch, v.heads k)) h (scope.credit v.epoch, heads)) (λ k. (scope.credit v.epoch, put v.heads h heads k))
      (put_pair (scope.credit v.epoch) v.heads h heads)
      (table_put node.banks.items (λ k. (scope.credit v.epoch, v.heads k)) h new (scope.credit v.epoch, heads) m.banks below
      (same ∙ ap (λ (b : ℕ × List (Option ℕ)). (b.0, heads)) (bank_is scope node h old below at v m)));
  links = m.links;
  tables = m.tables;
  heard = m.heard;
}

-- what two functions make of the numbers from a on is the same, where it is of each of them
map_same : {A : Type 0} (f g : ℕ → A) (n a : ℕ) → ((x : ℕ) → a ≤ x → x < a + n → f x ≡ g x) → map f (range_with_len a n) ≡ map g (range_with_len a n)
map_same f g zero a same = refl
map_same f g (suc n) a same =
    ap (λ x. x ∷ map f (range_with_len (a + 1) n)) (same a (omega arith) (omega arith))
    ∙ ap (λ xs. g a ∷ xs) (map_same f g n (a + 1) (λ x least most. same x (omega (arith, least)) (omega (arith, most))))

-- heads are recorded as the view says
pub recorded_same : {S : Type 0} (scope : Scope S) (v : View) (h : ℕ) (heads : List (Option ℕ)) (links : HostSet) (since : ℕ)
    → heads ≡ v.heads h → since ≡ length_of v h → ((p : ℕ) → has links p ≡ (nat_lt p 32 && is_some (head scope v p h)))
    → map (λ p. option_or (seat_of heads p) (cond (has links p) (Some since) None)) (range_with_len 0 32) ≡ map (recorded scope v h) (range_with_len 0 32)
recorded_same scope v h heads links since heads_is since_is each = map_same _ _ 32 0 one
  where
    one : (p : ℕ) → 0 ≤ p → p < 0 + 32 → option_or (seat_of heads p) (cond (has links p) (Some since) None) ≡ recorded scope v h p
    one p least most =
        ap (λ l. option_or (seat_of l p) (cond (has links p) (Some since) None)) heads_is
        ∙ ap (λ n. option_or (seat_of (v.heads h) p) (cond (has links p) (Some n) None)) since_is
        ∙ ap (λ b. option_or (seat_of (v.heads h) p) (cond b (Some (length_of v h)) None))
        (each p ∙ ap (λ b. b && is_some (head scope v p h)) (lt-ltb p 32 (omega (arith, most))))
