-- Guard graphs that stand liars, one more at a time.
use Rattle.std.proofs.Common.{◌≡◌, ℕ, ◌+◌, ◌<◌, ◌≤◌, List, [], ◌∷◌, All, length, take, drop, get_or, sym, subst, arith}
use Rattle.std.proofs.lemmas.List.{length-take-le, take_all, take_more}
use Rattle.std.proofs.lemmas.List.Elements.{All-append, All-cons, All-nil}
use Rattle.nys_guards.specs.declared.table.GuardGraph.{GuardGraph}
use Rattle.nys_scenario.specs.Hosts.{Hosts}
use Rattle.nys_guard_commands.proofs.GraphsLemmas.{split_at}
use Rattle.nys_guard_commands.specs.Liars.{IsLiarsAnswer, IsLiarsAt, Stands}
use Rattle.nys_guard_commands.specs.Refusals.{Refuses}
use Rattle.nys_guard_commands.specs.declared.refusal.Refusal.{Refusal}
use Rattle.nys_guard_commands.specs.declared.refusal.Refusal.TheVariants as refusal

-- an epoch has too many liars where those before it stand them
pub lied_at : (hosts : ℕ) (liars : Hosts) (graphs : List GuardGraph) (e : ℕ) (graph d : GuardGraph) (found : Refusal)
    → e < length graphs → graph ≡ get_or graphs e d → All (Stands hosts liars) (take e graphs)
    → Refuses (IsLiarsAt hosts liars e graph) found
    → Refuses (IsLiarsAnswer hosts liars graphs) found
lied_at hosts liars graphs e graph d refusal.NoMemory within at before here = tt
lied_at hosts liars graphs e graph d (refusal.Answered answer) within at before here = record {
  before = take e graphs;
  graph = graph;
  after = drop (e + 1) graphs;
  split = split_at graphs e graph d within at;
  stand = before;
  here = subst (λ n. IsLiarsAt hosts liars n graph answer) (sym (length-take-le e graphs (omega arith))) here;
}

-- one member more has what those before it have
pub all_more : {A : Type 0} (P : A → Type 0) (xs : List A) (i : ℕ) (d : A) → i < length xs
    → All P (take i xs) → P (get_or xs i d) → All P (take (i + 1) xs)
all_more P xs i d within before here =
    subst (All P) (sym (take_more xs i d within))
    (All-append P (take i xs) (get_or xs i d ∷ []) before (All-cons P (get_or xs i d) [] here (All-nil P)))

-- what all members so far have, all have at the end
pub all_taken : {A : Type 0} (P : A → Type 0) (xs : List A) (i : ℕ) → length xs ≤ i → All P (take i xs) → All P xs
all_taken P xs i past all = subst (All P) (take_all i xs past) all
