-- A configuration that may be taken is a scope in which numbers stay in their ranges.
use Rattle.std.proofs.Common.{◌≡◌, ℕ, ◌<◌, true, ℤ, List, length, ◌∙◌, inl, inr}
use Rattle.std.specs.Prelude.{Option}
use Rattle.std.proofs.lemmas.Bool.{cases_lt}
use Rattle.nys_graph.specs.Links.{IsGraph}
use Rattle.nys_config.specs.Config.{IsConfig}
use Rattle.nys_config.specs.declared.config.Config.{Config}
use Rattle.nys_source.specs.Rules.{AreEffectsOf, Rules}
use Rattle.nys_config.specs.Scopes.{no_epoch, scope_of}
use Rattle.nys_node.specs.Sound.{IsScope}
use Rattle.nys_config.proofs.Scopes.{none_guards_then}

-- the guards of a host in an epoch are hosts
guards_within : {P S : Type 0} (rules : Rules S) (cx : Config P) → IsConfig rules.hosts cx → (e h g : ℕ) → h < rules.hosts
    → (scope_of rules cx).guards e h g ≡ true → g < rules.hosts
unfolding scope_of
guards_within rules cx config e h g low is = elim (cases_lt e (length cx.epochs.items)) [
  | inl there ↦ (config.epochs e no_epoch there).within h g low is
  | inr past ↦ absurd (let none = none_guards_then rules cx e h g past ∙ is in cc)
]

-- each host guards itself
guards_own : {P S : Type 0} (rules : Rules S) (cx : Config P) → IsConfig rules.hosts cx → (e h : ℕ)
    → e < (scope_of rules cx).epochs → h < rules.hosts → (scope_of rules cx).guards e h h ≡ true
unfolding scope_of
guards_own rules cx config e h there low = (config.epochs e no_epoch there).own h low

-- a protocol and a configuration are a scope
pub scope_is : {P S : Type 0} (rules : Rules S) (cx : Config P) → IsConfig rules.hosts cx → IsGraph rules.hosts rules.linked
    → ((h : ℕ) (s : S) (from : Option ℕ) (payload : List ℤ) → h < rules.hosts → AreEffectsOf rules h (rules.next h s from payload).1)
    → IsScope (scope_of rules cx)
unfolding scope_of
scope_is rules cx config shape effects = record {
  graph = shape;
  epochs = config.few;
  guards = guards_within rules cx config;
  own = guards_own rules cx config;
  effects = effects;
}
