-- The scenarios of the examples: a small protocol, who guards it, and tags that can be read at a glance.
use Rattle.std.specs.Prelude.{ℕ, ◌==◌, nat_lt, Bool, false, ◌&&◌, ◌||◌, if◌then◌else◌, ℤ, pos, List, [], ◌∷◌, replicate}
use Rattle.nys_bytes.specs.declared.content.Content.{Content}
use Rattle.nys_bytes.specs.declared.content.Content.TheVariants.{External, Message}
use Rattle.nys_source.specs.Rules.{Rules}
use Rattle.nys_source.specs.declared.effect.Effect.TheVariants.{Out, Send}
use Rattle.nys_stmt.specs.declared.statement.Statement.{Statement}
use Rattle.nys_rules.specs.Scope.{Scope}
use Rattle.nys_rules.specs.World.{Setting}

-- of so many hosts 0 and 1 are neighbours: host 0 passes what it takes on to host 1, the others put it out
abbrev pub passing : ℕ → Rules (List ℤ)
passing hosts = record {
  hosts = hosts;
  linked = λ p h. (p == 0 && h == 1) || (p == 1 && h == 0);
  start = λ h. [];
  next = λ h state from payload. (payload, (if h == 0 then Send 1 payload ∷ [] else Out payload ∷ []));
  view = λ state. state;
}

-- a toy tag: the maker's number, 32 times
abbrev pub toy_tag : ℕ → ℕ → Statement → List ℕ
toy_tag maker receiver statement = replicate 32 maker

-- four hosts that guard one another and stand one liar, in two epochs
abbrev pub four : (credit : ℕ) → Scope (List ℤ)
four credit = record {
  rules = passing 4;
  epochs = 2;
  guards = λ e h g. nat_lt g 4;
  t = λ e h. 1;
  credit = λ e. credit;
  tag = toy_tag;
}

-- one host that guards itself
abbrev pub lone : Scope (List ℤ)
lone = record {
  rules = passing 1;
  epochs = 1;
  guards = λ e h g. g == h;
  t = λ e h. 0;
  credit = λ e. 1;
  tag = toy_tag;
}

-- these hosts lie
abbrev pub lying : Scope (List ℤ) → (ℕ → Bool) → Setting (List ℤ)
lying scope liars = record { scope = scope; liars = liars }

-- no host lies
abbrev pub honest : Scope (List ℤ) → Setting (List ℤ)
honest scope = lying scope (λ h. false)

-- the payload with one number
abbrev pub just : ℕ → List ℤ
just n = pos n ∷ []

-- the input of one number
abbrev pub input : ℕ → Content
input n = External (just n)

-- message 0 of host 0, with the number 5
abbrev pub first_message : Content
first_message = Message 0 0 (just 5)
