-- What a world that spells its logs prints.
use Rattle.std.proofs.Common.{◌≡◌, ℕ, ◌<◌, ◌≤◌, ◌⊎◌, ◌++◌, ◌∷◌, [], List, Bool, inl, inr, true, false, length, ap, refl, sym, subst, ◌∙◌, arith}
use Rattle.std.specs.Prelude.{filter, map}
use Rattle.nys_report.proofs.PickedLemmas.{picked_same}
use Rattle.nys_report.specs.Countable.{IsCountable}
use Rattle.nys_report.specs.Nodes.{AreShort, IsGuardOf}
use Rattle.nys_printed.specs.Lines.{guard_line}
use Rattle.nys_printed.specs.Report.{guard_text, replica_line, replicas_text, run_gives}
use Rattle.nys_report.specs.Parts.{log_gives, stopped_run}
use Rattle.nys_node.specs.declared.node.Node.{Node}
use Rattle.nys_rules.specs.Olympus.{hosts_of}
use Rattle.nys_rules.specs.Scope.{Scope}
use Rattle.nys_rules.specs.Spelling.{HasLog, IsLongest, printed_run, SpellsLogs}
use Rattle.nys_rules.specs.View.{is_live, length_of}
use Rattle.nys_rules.specs.World.{is_honest, Setting, World}
use Rattle.nys_source.specs.Contents.{contents_taken}
use Rattle.nys_source.specs.declared.step.Step.TheVariants.{Stop}

-- a log gives what its host has in the printed run after as many inputs and receives
log_as_run : {S : Type 0} (setting : Setting S) (w : World) (g h : ℕ) → SpellsLogs setting w → HasLog setting w g h
    → replica_line setting.scope (log_gives setting.scope (w.nodes g)) g (w.nodes g) h ≡ replica_line setting.scope (run_gives setting w (w.nodes g)) g (w.nodes g) h
log_as_run setting w g h spells has =
    ap (λ held. guard_line g h (is_live setting.scope (w.nodes g) h) (length_of (w.nodes g) h) (setting.scope.rules.view held.0) held.1)
    (sym (spells.states g h has))

-- so what is printed of the logs of an honest host is what is printed of the run
pub guard_printed : {S : Type 0} (setting : Setting S) (w : World) (g : ℕ) → g < setting.scope.rules.hosts → is_honest setting g ≡ true → SpellsLogs setting w
    → replicas_text setting.scope (log_gives setting.scope (w.nodes g)) g (w.nodes g) ≡ guard_text setting w g
guard_printed setting w g host honest spells =
    picked_same (replica_line setting.scope (log_gives setting.scope (w.nodes g)) g (w.nodes g))
    (replica_line setting.scope (run_gives setting w (w.nodes g)) g (w.nodes g)) (w.nodes g).known (hosts_of setting.scope)
    (λ h known. log_as_run setting w g h spells (record { host = host; honest = honest; known = known }))

-- the same where the scope is known by another name
pub guard_of_world : {P S : Type 0} (scope : Scope S) (setting : Setting S) (w : World) (g : ℕ) (node : Node P S) → IsGuardOf scope setting w g node
    → replicas_text scope (log_gives scope (w.nodes g)) g (w.nodes g) ≡ guard_text setting w g
guard_of_world scope setting w g node is =
    let inside : g < setting.scope.rules.hosts = subst (λ s. g < s.rules.hosts) (sym is.scope_is) is.host in
    ap (λ s. replicas_text s (log_gives s (w.nodes g)) g (w.nodes g)) (sym is.scope_is)
    ∙ guard_printed setting w g inside is.honest is.spells

-- a number that is the greatest length of short logs is small
longest_short : {S : Type 0} (setting : Setting S) (w : World) (h n : ℕ) → h < setting.scope.rules.hosts → AreShort setting w → IsLongest setting w h n → n ≤ 1024
longest_short setting w h n inside short longest = go longest.reached
  where
    go : ((g : ℕ) × HasLog setting w g h × (length ((w.nodes g).logs h) ≡ n)) ⊎ (length (w.olympus.decided h) ≡ n) → n ≤ 1024
    go (inl log) = let is = log.2 in omega (arith, short.logs log.0 h log.1, is)
    go (inr is) = omega (arith, short.decided h inside, is)

-- no host takes more in the printed run than can be counted
pub spelled_countable : {S : Type 0} (setting : Setting S) (w : World) → SpellsLogs setting w → AreShort setting w
    → IsCountable setting.scope.rules (printed_run setting.scope w)
spelled_countable setting w spells short = record {
  few = λ h inside.
      let few = longest_short setting w h (length (contents_taken setting.scope.rules (printed_run setting.scope w) h)) inside short (spells.longest h inside) in
      omega (arith, few);
}

-- what is kept of the hosts that pass depends on them alone
filter_same : (p q : ℕ → Bool) (hosts : List ℕ) → ((h : ℕ) → p h ≡ q h) → filter p hosts ≡ filter q hosts
filter_same p q [] same = refl
filter_same p q (h ∷ hosts) same = go (q h) refl (filter_same p q hosts same)
  where
    go : (b : Bool) → q h ≡ b → filter p hosts ≡ filter q hosts → filter p (h ∷ hosts) ≡ filter q (h ∷ hosts)
    go true e rest = rw (same h, e) (ap (λ t. h ∷ t) rest)
    go false e rest = rw (same h, e) rest

-- the printed run is the run of the world with a stop for each host that the set has, where it has those given up
pub printed_stopped : {S : Type 0} (scope : Scope S) (w : World) (retired : ℕ → Bool) → ((h : ℕ) → retired h ≡ w.olympus.retired h)
    → printed_run scope w ≡ stopped_run scope.rules.hosts retired w.run
unfolding printed_run
printed_stopped scope w retired same =
    ap (λ hosts. w.run ++ map Stop hosts) (sym (filter_same retired w.olympus.retired (hosts_of scope) same))
