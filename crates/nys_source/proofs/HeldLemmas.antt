-- What one change of the lists is for the system that they stand for.
use Rattle.std.proofs.Common.{◌≡◌, ℕ, ◌<◌, ◌++◌, ◌∷◌, ℤ, List, [], length, suc, subst, sym, arith}
use Rattle.std.specs.Prelude.{All}
use Rattle.std.proofs.lemmas.List.Elements.{All-push}
use Rattle.nys_source.specs.Tables.{put, put_at, added, added_at, at_each, lists_at, lists_at_both, numbers_at_both}
use Rattle.nys_source.specs.Rules.{Rules}
use Rattle.nys_source.specs.Held.{Held, AreHosts, shown}

-- one message more, between two hosts
pub hosts-push : (hosts : ℕ) (messages more : List (ℕ × ℕ)) (p h : ℕ) → All (AreHosts hosts) messages → p < hosts → h < hosts → more ≡ messages ++ (p, h) ∷ [] → All (AreHosts hosts) more
hosts-push hosts messages more p h all sender receiver grown =
    subst (All (AreHosts hosts)) (sym grown) (All-push (AreHosts hosts) messages (p, h) all (record { sender = sender; receiver = receiver }))

-- what holds of all members holds of those behind the first
pub all_behind : {X : Type 0} (P : X → Type 0) (whole rest : List X) (first : X) → whole ≡ first ∷ rest → All P whole → All P rest
all_behind P whole rest first same all = λ k d inside. subst (All P) same all (suc k) d (omega (arith, inside))
