-- Tables of links after a write, and the graph that they make.
use Rattle.std.proofs.Common.{replicate, take, get_or, ◌+◌, ◌⊎◌, zero, suc, nat_le, if◌then◌else◌, Some, None, ◌≡◌, ℕ, ◌<◌, ◌≤◌, Bool, true, false, ◌==◌, ◌||◌, ◌&&◌, List, length, slice_index_or, slice_set, refl, sym, ap, subst, ◌∙◌, inl, inr, arith, eq-eqb}
use Rattle.std.proofs.lemmas.Bool.{cases_eq, ne_eqb}
use Rattle.std.proofs.lemmas.List.{get_or-set_same, get_or-set_other}
use Rattle.std.proofs.lemmas.List.Folds.{list_any_more}
use Rattle.std.proofs.lemmas.Option.{slice_get-get_or}
use Rattle.std.proofs.Math.Bool.{or_comm}
use Rattle.nys_hosts.specs.declared.set.HostSet.{HostSet}
use Rattle.nys_hosts.specs.Sets.{has, no_hosts}
use Rattle.nys_hosts.proofs.MaskLemmas.{in_mask-zero}
use Rattle.nys_graph.specs.declared.fault.GraphFault.{GraphFault}
use Rattle.nys_graph.specs.declared.fault.GraphFault.TheVariants.{OutOfRange, SelfLink, Doubled}
use Rattle.nys_graph.specs.Faults.{refusal_of, fault_at, place_of, IsFirstFault}
use Rattle.nys_graph.specs.Links.{linked_in, joins, joined, IsGraph}

-- nothing is added by what does not hold
or_false : (x : Bool) → x ≡ (x || false)
or_false true = refl
or_false false = refl

-- a row with one host more links its host to that one, and leaves all else
pub linked_in-set : (rows : List HostSet) (from to : ℕ) (row : HostSet) → from < length rows
    → ((h : ℕ) → has row h ≡ (has (slice_index_or rows from no_hosts) h || (to == h)))
    → (a b : ℕ) → linked_in (slice_set rows from row) a b ≡ (linked_in rows a b || ((from == a) && (to == b)))
unfolding linked_in
linked_in-set rows from to row within more a b =
    elim (cases_eq from a) [
      | inl e ↦ subst (λ x. has (slice_index_or (slice_set rows from row) x no_hosts) b ≡ (has (slice_index_or rows x no_hosts) b || ((from == x) && (to == b)))) e
          (rw (get_or-set_same rows from row no_hosts within) (rw (eq-eqb from from refl) (more b)))
      | inr ne ↦ rw (get_or-set_other rows from a row no_hosts (λ e. ne (sym e))) (rw (ne_eqb from a ne) (or_false (has (slice_index_or rows a no_hosts) b)))
    ]

-- a table of empty sets links nothing
pub linked_in-none : (row : HostSet) → ((h : ℕ) → has row h ≡ false) → (n a b : ℕ) → linked_in (replicate n row) a b ≡ false
unfolding linked_in
linked_in-none row none zero a b = in_mask-zero b
linked_in-none row none (suc n) zero b = none b
linked_in-none row none (suc n) (suc a) b = linked_in-none row none n a b

-- of what holds one way or the other, one part holds
or_cases : (x y : Bool) → (x || y) ≡ true → (x ≡ true) ⊎ (y ≡ true)
or_cases true y e = inl refl
or_cases false y e = inr e

-- a pair of different hosts joins no host to itself
joins_self : (p q a : ℕ) → (p ≡ q → ⊥) → (((p == a) && (q == a)) || ((p == a) && (q == a))) ≡ false
joins_self p q a differ = grind arith

-- a pair joins its own hosts alone
joins_within : (hosts p q a b : ℕ) → p < hosts → q < hosts → (((p == a) && (q == b)) || ((p == b) && (q == a))) ≡ true
    → (a < hosts) × (b < hosts)
joins_within hosts p q a b first second e = grind arith

-- a graph stays one when two hosts of it are linked in both directions
pub shape-join : (hosts : ℕ) (old new : ℕ → ℕ → Bool) (link : ℕ × ℕ) → IsGraph hosts old
    → (link.0 < hosts) × (link.1 < hosts) × (link.0 ≡ link.1 → ⊥)
    → ((a b : ℕ) → new a b ≡ (old a b || joins link a b)) → IsGraph hosts new
shape-join hosts old new link shape sound more = record {
  some = shape.some;
  few = shape.few;
  symmetric = λ a b. rw (more a b, more b a, shape.symmetric a b)
      (ap (λ x. old b a || x) (or_comm ((link.0 == a) && (link.1 == b)) ((link.0 == b) && (link.1 == a))));
  irreflexive = λ a. rw (more a a, shape.irreflexive a) (joins_self link.0 link.1 a sound.2);
  within = λ a b linked. elim (or_cases (old a b) (joins link a b) (sym (more a b) ∙ linked)) [
    | inl before ↦ shape.within a b before
    | inr now ↦ joins_within hosts link.0 link.1 a b sound.0 sound.1 now
  ];
}

-- a link that is not refused joins two different hosts of the graph
pub taken : (hosts : ℕ) (linked : ℕ → ℕ → Bool) (place : ℕ) (link : ℕ × ℕ) → refusal_of hosts linked place link ≡ None
    → (link.0 < hosts) × (link.1 < hosts) × (link.0 ≡ link.1 → ⊥)
taken hosts linked place link e = grind arith

-- a refusal names its place
pub place_of-refusal : (hosts : ℕ) (linked : ℕ → ℕ → Bool) (place : ℕ) (link : ℕ × ℕ) (fault : GraphFault)
    → refusal_of hosts linked place link ≡ Some fault → place_of fault ≡ place
place_of-refusal hosts linked place link fault e = grind arith

-- the refusal depends on what is linked alone
pub refusal-same : (hosts : ℕ) (some other : ℕ → ℕ → Bool) (place : ℕ) (link : ℕ × ℕ)
    → ((a b : ℕ) → some a b ≡ other a b) → refusal_of hosts some place link ≡ refusal_of hosts other place link
refusal-same hosts some other place link same =
    ap (λ linked. if nat_le hosts link.0 || nat_le hosts link.1 then Some (OutOfRange place)
    else if link.0 == link.1 then Some (SelfLink place)
    else if linked then Some (Doubled place) else None) (same link.0 link.1)

-- the fault at a place, by a table that has the links before it
pub fault_at-within : (hosts : ℕ) (links : List (ℕ × ℕ)) (linked : ℕ → ℕ → Bool) (place : ℕ) → place < length links
    → ((a b : ℕ) → linked a b ≡ joined (take place links) a b)
    → fault_at hosts links place ≡ refusal_of hosts linked place (get_or links place (0, 0))
fault_at-within hosts links linked place within same =
    rw (slice_get-get_or links place (0, 0) within)
    (sym (refusal-same hosts linked (joined (take place links)) place (get_or links place (0, 0)) same))

-- what the links up to a place join, by those before it
pub joined-more : (links : List (ℕ × ℕ)) (place a b : ℕ) → place < length links
    → joined (take (place + 1) links) a b ≡ (joined (take place links) a b || joins (get_or links place (0, 0)) a b)
unfolding joined
joined-more links place a b within = list_any_more (λ link. joins link a b) links place (0, 0) within

-- hosts without links are a graph
pub no_links-shape : (hosts : ℕ) (linked : ℕ → ℕ → Bool) → 1 ≤ hosts → hosts ≤ 32
    → ((a b : ℕ) → linked a b ≡ false) → IsGraph hosts linked
no_links-shape hosts linked some few none = record {
  some = some;
  few = few;
  symmetric = λ a b. none a b ∙ sym (none b a);
  irreflexive = λ a. none a a;
  within = λ a b yes. absurd (let e : true ≡ false = sym yes ∙ none a b in cc);
}

-- the first refusal is the first fault of the list
pub first-fault : (hosts : ℕ) (links : List (ℕ × ℕ)) (linked : ℕ → ℕ → Bool) (place : ℕ) (fault : GraphFault)
    → place < length links → ((a b : ℕ) → linked a b ≡ joined (take place links) a b)
    → ((k : ℕ) → k < place → fault_at hosts links k ≡ None)
    → refusal_of hosts linked place (get_or links place (0, 0)) ≡ Some fault → IsFirstFault hosts links fault
first-fault hosts links linked place fault within same before refused =
    let at = place_of-refusal hosts linked place (get_or links place (0, 0)) fault refused in
    record {
      found = ap (fault_at hosts links) at ∙ fault_at-within hosts links linked place within same ∙ refused;
      first = λ k below. before k (omega arith);
    }
