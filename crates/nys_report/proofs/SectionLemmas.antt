-- The nodes of a world, and what is printed of them.
use Rattle.std.proofs.Common.{◌≡◌, ℕ, ◌<◌, ◌++◌, true, false, List, [], ◌∷◌, refl, ap, sym, ◌∙◌}
use Rattle.std.proofs.lemmas.List.{append-nil}
use Rattle.nys_node.specs.Means.{IsViewOf}
use Rattle.nys_config.specs.Scopes.{scope_of}
use Rattle.nys_node.specs.declared.node.Node.{Node}
use Rattle.nys_report.specs.Nodes.{IsGuardOf}
use Rattle.nys_printed.specs.Report.{guards_of, guard_text}
use Rattle.nys_rules.specs.Spelling.{SpellsLogs}
use Rattle.nys_rules.specs.World.{is_honest, Setting, World}
use Rattle.nys_source.specs.Rules.{Rules}
use Rattle.nys_world.proofs.PlaceLemmas.{honest_party}
use Rattle.nys_world.specs.Shows.{is_honest_host, setting_of}
use Rattle.nys_world.specs.declared.stage.Stage.{Stage}

-- the node of an honest host is a guard of the world
pub guard_there : {P S : Type 0} (rules : Rules S) (stage : Stage P S) (w : World) (g : ℕ) (node : Node P S)
    → g < rules.hosts → g < 32 → SpellsLogs (setting_of rules stage) w → is_honest_host (setting_of rules stage) g ≡ true
    → IsViewOf (scope_of rules stage.cx) node (w.nodes g) → IsGuardOf (scope_of rules stage.cx) (setting_of rules stage) w g node
unfolding scope_of
guard_there rules stage w g node inside below spells honest is = record {
  scope_is = refl;
  host = inside;
  honest = honest_party (setting_of rules stage) g below ∙ honest;
  means = is.means;
  spells = spells;
}

-- the lines of an honest host
pub honest_printed : {S : Type 0} (setting : Setting S) (w : World) (g : ℕ) (before after : List ℕ) → is_honest setting g ≡ true
    → after ≡ before ++ guard_text setting w g → after ≡ before ++ guards_of setting w (g ∷ [])
honest_printed setting w g before after honest more = rw honest (more ∙ ap (λ t. before ++ t) (sym (append-nil (guard_text setting w g))))

-- a liar has none
pub liar_printed : {S : Type 0} (setting : Setting S) (w : World) (g : ℕ) (before : List ℕ) → is_honest setting g ≡ false
    → before ≡ before ++ guards_of setting w (g ∷ [])
liar_printed setting w g before lies = rw lies (sym (append-nil before))
