use Rattle.std.proofs.Common.{◌≡◌, ◌∷◌, [], ◌++◌, ◌∙◌, ℕ, Vec, Global}
use Rattle.indexmap.proofs.CallerLemmas.{insert_entry-new}
use Rattle.nys_names.proofs.BindingLemmas as names
use Rattle.nys_names.proofs.bindings.Bindings.push.Goals as goal

-- a name that isn't seen goes last in the map
last_in_map : (c : goal.In_ok-insert) → c.insert.new.self.entries ≡ c.self.inside.names.entries ++ (c.declared.inside.text, c.declared.inside.entry) ∷ []
last_in_map c =
    let next = names.next_same _ _ _ _ c.declared.view_is c.self.view_is c.requires in
    let absent = names.unseen_absent {K = Vec ℕ Global} (λ k. k.items) c.declared.inside.text.items c.self.inside.names.entries c.self.invariant.0 next.unseen in
    c.in_ok-insert.ensures.entries ∙ insert_entry-new _ c.self.inside.names c.declared.inside.text c.declared.inside.entry absent

-- the last in the map is the newest
pub returns : goal.returns
returns c = rw (← c.self.view_is, ← c.declared.view_is, last_in_map c) (names.names_push {K = Vec ℕ Global} (λ k. k.items) c.self.inside.names.entries c.declared.inside.text c.declared.inside.entry)

-- one name more that isn't seen leaves the names distinct and low
pub invariant_of-self-2 : goal.invariant_of-self-2
invariant_of-self-2 c =
    let next = names.next_same _ _ _ _ c.declared.view_is c.self.view_is c.requires in
    let more = names.names_push {K = Vec ℕ Global} (λ k. k.items) c.self.inside.names.entries c.declared.inside.text c.declared.inside.entry in
    (c.insert.ensures.unique, rw (last_in_map c, more) (names.low_push _ _ next c.self.invariant.1))
