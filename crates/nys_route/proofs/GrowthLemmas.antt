-- The tree as it grows by rounds.
use Rattle.std.proofs.Common.{◌≡◌, ℕ, suc, ◌+◌, ◌<◌, ◌≤◌, ◌&&◌, ◌||◌, Bool, true, false, if◌then◌else◌, List, length, replicate, set, get_or, Option, Some, None, refl, sym, ap, ◌∙◌, subst, inl, inr, arith, eq-eqb}
use Rattle.std.specs.Prelude.{is_some, slice_index_or}
use Rattle.std.proofs.lemmas.Bool.{cases_eq, cases_lt, ne_eqb}
use Rattle.std.proofs.lemmas.List.{get_or_past, get_or-replicate, get_or-set_other, get_or-set_same, length-replicate}
use Rattle.nys_graph.specs.Links.{IsGraph}
use Rattle.nys_route.specs.Growth.{IsFarther, IsGrown, is_reached, nearest_in, parent_in}
use Rattle.nys_route.specs.Parents.{IsParentOf, nearest, parent_of, parent_within, reaches}
use Rattle.nys_route.specs.declared.growing.Grown.{Grown}
use Rattle.nys_route.proofs.LowestLemmas.{lowest_agree}
use Rattle.nys_route.proofs.ParentLemmas.{parent_exact, parent_suc, parent_zero}
use Rattle.nys_route.proofs.ReachLemmas.{reaches_suc, reaches_zero}

-- a list of the same values has that one everywhere, where it is the default too
pub same_everywhere : {A : Type 0} (n k : ℕ) (x : A) → get_or (replicate n x) k x ≡ x
same_everywhere n k x = elim (cases_lt k n) [
  | inl inside ↦ get_or-replicate n k x x inside
  | inr past ↦ let long = length-replicate n x in get_or_past (replicate n x) k x (omega (arith, long, past))
]

-- the root alone is what reaches itself by no link
pub grown_root : (hosts : ℕ) (linked : ℕ → ℕ → Bool) (root : ℕ) (grown : Grown) → root < 32
    → grown.reached ≡ set (replicate 32 false) root true → grown.parents ≡ replicate 32 None → IsGrown hosts linked root 0 grown
grown_root hosts linked root grown inside reached parents = record {
  reached = λ h host. ap (λ xs. get_or xs h false) reached ∙ elim (cases_eq h root) [
    | inl same ↦
        ap (λ x. get_or (set (replicate 32 false) root true) x false) same
        ∙ get_or-set_same (replicate 32 false) root true false (let long = length-replicate 32 false in omega (arith, long, inside))
        ∙ sym (reaches_zero hosts linked root h ∙ eq-eqb h root same)
    | inr other ↦
        get_or-set_other (replicate 32 false) root h true false other
        ∙ same_everywhere 32 h false
        ∙ sym (reaches_zero hosts linked root h ∙ ne_eqb h root other)
  ];
  parents = λ h host. ap (λ xs. get_or xs h None) parents ∙ same_everywhere 32 h None ∙ sym (parent_zero hosts linked root h);
  past = λ h over. ap (λ xs. get_or xs h None) parents ∙ same_everywhere 32 h None;
}

-- one round more is one link more
pub grown_more : (hosts : ℕ) (linked : ℕ → ℕ → Bool) (root n m : ℕ) (before after : Grown) → IsGraph hosts linked → m ≡ n + 1
    → IsGrown hosts linked root n before → IsFarther hosts linked before after → IsGrown hosts linked root m after
grown_more hosts linked root n m before after shape next grown more =
    let same : m ≡ suc n = omega (arith, next) in
    subst (λ k. IsGrown hosts linked root k after) (sym same) record {
      reached = λ h host.
          more.reached h host
          ∙ ap (λ b. b || is_some (nearest_in hosts linked before h)) (grown.reached h host)
          ∙ ap (λ o. reaches hosts linked root n h || is_some o) (found h)
          ∙ sym (reaches_suc hosts linked root n h);
      parents = λ h host.
          more.parents h host
          ∙ ap (λ b. if b then parent_in before h else nearest_in hosts linked before h) (grown.reached h host)
          ∙ ap (λ o. if reaches hosts linked root n h then o else nearest_in hosts linked before h) (grown.parents h host)
          ∙ ap (λ o. if reaches hosts linked root n h then parent_within hosts linked root n h else o) (found h)
          ∙ sym (parent_suc hosts linked root n h);
      past = λ h over. more.past h over ∙ grown.past h over;
    }
  where
    found : (h : ℕ) → nearest_in hosts linked before h ≡ nearest hosts linked root n h
    found h = lowest_agree (λ p. linked h p && is_reached before p) (λ p. linked h p && reaches hosts linked root n p) hosts
        (λ p inside. ap (λ b. linked h p && b) (grown.reached p inside))

-- a number past the last host has no parent
none_past : (hosts : ℕ) (linked : ℕ → ℕ → Bool) → IsGraph hosts linked → (root h : ℕ) → root < hosts → hosts ≤ h → parent_of hosts linked root h ≡ None
none_past hosts linked shape root h host past = go (parent_of hosts linked root h) refl (parent_exact hosts linked shape root h host)
  where
    go : (o : Option ℕ) → parent_of hosts linked root h ≡ o → IsParentOf linked root h o → parent_of hosts linked root h ≡ None
    go None found is = found
    go (Some p) found is = let inside = (shape.within h p is.is_linked).0 in absurd (omega (arith, inside, past))

-- after as many rounds as hosts the tree is whole
pub grown_all : (hosts : ℕ) (linked : ℕ → ℕ → Bool) → IsGraph hosts linked → (root : ℕ) (grown : Grown) → root < hosts → IsGrown hosts linked root hosts grown
    → (h : ℕ) → slice_index_or grown.parents h None ≡ parent_of hosts linked root h
unfolding parent_of
grown_all hosts linked shape root grown host is h = elim (cases_lt h hosts) [
  | inl inside ↦ is.parents h inside
  | inr past ↦ is.past h past ∙ sym (none_past hosts linked shape root h host past)
]

-- and its parents are those by distances
pub grown_exact : (hosts : ℕ) (linked : ℕ → ℕ → Bool) → IsGraph hosts linked → (root : ℕ) (grown : Grown) → root < hosts → IsGrown hosts linked root hosts grown
    → (h : ℕ) → IsParentOf linked root h (slice_index_or grown.parents h None)
grown_exact hosts linked shape root grown host is h =
    subst (IsParentOf linked root h) (sym (grown_all hosts linked shape root grown host is h)) (parent_exact hosts linked shape root h host)

-- ---- one host more of a round

-- whether it is reached
pub reached_more : (hosts : ℕ) (linked : ℕ → ℕ → Bool) (before : Grown) (after : List Bool) (h : ℕ) (now : Bool) → h < length after
    → ((k : ℕ) → k < h → slice_index_or after k false ≡ (is_reached before k || is_some (nearest_in hosts linked before k)))
    → now ≡ (is_reached before h || is_some (nearest_in hosts linked before h))
    → (k : ℕ) → k < h + 1 → slice_index_or (set after h now) k false ≡ (is_reached before k || is_some (nearest_in hosts linked before k))
reached_more hosts linked before after h now inside done is k less = elim (cases_eq k h) [
  | inl same ↦
      subst (λ j. slice_index_or (set after h now) j false ≡ (is_reached before j || is_some (nearest_in hosts linked before j))) (sym same)
      (get_or-set_same after h now false inside ∙ is)
  | inr other ↦ get_or-set_other after h k now false other ∙ done k (omega (arith, less, other))
]

-- its parent
pub parents_more : (hosts : ℕ) (linked : ℕ → ℕ → Bool) (before : Grown) (after : List (Option ℕ)) (h : ℕ) (now : Option ℕ) → h < length after
    → ((k : ℕ) → k < h → slice_index_or after k None ≡ (if is_reached before k then parent_in before k else nearest_in hosts linked before k))
    → now ≡ (if is_reached before h then parent_in before h else nearest_in hosts linked before h)
    → (k : ℕ) → k < h + 1 → slice_index_or (set after h now) k None ≡ (if is_reached before k then parent_in before k else nearest_in hosts linked before k)
parents_more hosts linked before after h now inside done is k less = elim (cases_eq k h) [
  | inl same ↦
      subst (λ j. slice_index_or (set after h now) j None ≡ (if is_reached before j then parent_in before j else nearest_in hosts linked before j)) (sym same)
      (get_or-set_same after h now None inside ∙ is)
  | inr other ↦ get_or-set_other after h k now None other ∙ done k (omega (arith, less, other))
]

-- the parents of those behind it
pub parents_rest : (before : Grown) (after : List (Option ℕ)) (h : ℕ) (now : Option ℕ)
    → ((k : ℕ) → h ≤ k → slice_index_or after k None ≡ parent_in before k)
    → (k : ℕ) → h + 1 ≤ k → slice_index_or (set after h now) k None ≡ parent_in before k
parents_rest before after h now rest k past =
    get_or-set_other after h k now None (λ same. omega (arith, past, same)) ∙ rest k (omega (arith, past))
