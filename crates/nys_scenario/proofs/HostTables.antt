-- Values in their places, with the same one after them.
use Rattle.std.proofs.Common.{◌≡◌, ◌∙◌, ◌<◌, ◌+◌, ◌-◌, ℕ, suc, zero, List, [], ◌∷◌, ◌++◌, length, take, drop, get_or, Option, Some, replicate, sym, ap, arith, append_assoc, length-append, length-take}
use Rattle.std.proofs.Math.ListN.{set}
use Rattle.std.proofs.lemmas.List.{set_at, take_more_set}
use Rattle.toml.proofs.Views.{items_view-drop}
use Rattle.toml.specs.Data.{Data, item}
use Rattle.toml.specs.View.{items_view, view}
use Rattle.toml.specs.declared.value.Value.{Value}
use Rattle.nys_scenario.specs.Epochs.{padded}
use Rattle.nys_scenario.specs.Values.{values_after, with_value}

-- some of one value are one and the others
one_less : {A : Type 0} (last : A) (n : ℕ) → 0 < n → replicate n last ≡ last ∷ replicate (n - 1) last
one_less last zero some = absurd (omega arith)
one_less last (suc n) some = ap (λ k. last ∷ replicate k last) (let e : n ≡ suc n - 1 = omega arith in e)

-- a value more in its place leaves the same one after it
pub padded_more : {A : Type 0} (last : A) (values : List A) (i : ℕ) (more : A) → length values ≡ 32 → i < 32
    → values ≡ padded last (take i values) → set values i more ≡ padded last (take (i + 1) (set values i more))
padded_more last values i more size lt same =
    let front = take i values in
    let long : length front ≡ i = rw (length-take i values, size) (omega arith) in
    let rest = replicate (32 - (i + 1)) last in
    let less : 32 - length front - 1 ≡ 32 - (i + 1) = omega arith in
    let tail : replicate (32 - length front) last ≡ last ∷ rest =
    one_less last (32 - length front) (omega arith) ∙ ap (λ n. last ∷ replicate n last) less in
    let split : values ≡ front ++ last ∷ rest = same ∙ ap (λ t. front ++ t) tail in
    let placed : set values i more ≡ front ++ more ∷ rest = ap (λ s. set s i more) split ∙ set_at front last rest more i long in
    let taken : take (i + 1) (set values i more) ≡ front ++ more ∷ [] = take_more_set values i more (omega arith) in
    let longer : 32 - length (front ++ more ∷ []) ≡ 32 - (i + 1) = rw (length-append front (more ∷ [])) (omega arith) in
    placed ∙ sym (append_assoc front (more ∷ []) rest)
    ∙ ap (λ n. (front ++ more ∷ []) ++ replicate n last) (sym longer) ∙ ap (padded last) (sym taken)

-- one value more of an array, and those that are left
pub whole_more : {A : Type 0} (give : Data → Option A) (before : List A) (vs : List Value) (i : ℕ) (v : Value) (more : A)
    (all : Option (List A)) → i < length vs → v ≡ get_or vs i v → Some more ≡ give (view v)
    → values_after give (Some before) (items_view (drop i vs)) ≡ all
    → values_after give (Some (before ++ more ∷ [])) (items_view (drop (i + 1) vs)) ≡ all
whole_more give before vs i v more all lt is found rest =
    let step : items_view (drop i vs) ≡ item (view v) (items_view (drop (i + 1) vs)) =
    items_view-drop vs i v lt ∙ ap (λ (x : Value). item (view x) (items_view (drop (i + 1) vs))) (sym is) in
    ap (λ o. values_after give (with_value before o) (items_view (drop (i + 1) vs))) found
    ∙ sym (ap (values_after give (Some before)) step) ∙ rest
