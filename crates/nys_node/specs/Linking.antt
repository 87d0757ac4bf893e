-- Links that begin to be attested, some after others.
use Rattle.std.specs.Prelude.{ℕ, ◌==◌, nat_lt, Bool, ◌&&◌, if◌then◌else◌, Option}
use Rattle.std.specs.Option.{option_or}
use Rattle.nys_rules.specs.declared.kept.Attested.{Attested}
use Rattle.nys_rules.specs.Scope.{Scope}
use Rattle.nys_rules.specs.View.{attested_from, View}

-- what is attested of a link once it began, where it may
unfoldable pub begun : {S : Type 0} → Scope S → View → (p h : ℕ) → Option Attested
begun scope v p h = option_or (v.attested p h) (attested_from scope v p h)

-- the view in which each link of the chosen ones that may begin does
abbrev pub with_begun : {S : Type 0} → Scope S → (ℕ → ℕ → Bool) → View → View
with_begun scope chosen v = record v { attested = λ p h. if chosen p h then begun scope v p h else v.attested p h }

-- the one link from p to h
abbrev pub one_link : (p h : ℕ) → ℕ → ℕ → Bool
one_link p h q g = q == p && g == h

-- the links from p to hosts below n
abbrev pub links_to : (p n : ℕ) → ℕ → ℕ → Bool
links_to p n q g = q == p && nat_lt g n

-- the links from hosts below n
abbrev pub links_from : (n : ℕ) → ℕ → ℕ → Bool
links_from n q g = nat_lt q n
