-- What a world of the program shows of the world of the rules that it is.
use Rattle.std.proofs.Common.{◌≡◌, ℕ, ◌<◌, ◌≤◌, Bool, true, List, Option, Some, None, ap, refl, arith}
use Rattle.std.specs.Prelude.{slice_get}
use Rattle.std.specs.List.{range_with_len}
use Rattle.nys_agreement.proofs.ListLemmas.{get_inside}
use Rattle.nys_node.specs.Means.{IsViewOf}
use Rattle.nys_node.specs.declared.node.Node.{Node}
use Rattle.nys_report.specs.Nodes.{AreShort}
use Rattle.nys_printed.specs.Report.{guards_of, guards_text}
use Rattle.nys_rules.specs.World.{is_honest, Setting, World}
use Rattle.nys_config.specs.Scopes.{scope_of}
use Rattle.nys_source.specs.Rules.{Rules}
use Rattle.nys_world.specs.Shows.{AreNodes, IsNodeOf, setting_of, Shows}
use Rattle.nys_world.specs.declared.moment.Moment.{Moment}
use Rattle.nys_world.specs.declared.stage.Stage.{Stage}

-- the node of an honest host is there
pub node_there : {P S : Type 0} (setting : Setting S) (nodes : List (Option (Node P S))) (w : World) (g : ℕ) → g < 32 → is_honest setting g ≡ true
    → AreNodes setting nodes w → (node : Node P S) × (slice_get nodes g ≡ Some (Some node)) × IsViewOf setting.scope node (w.nodes g)
node_there {P} {S} setting nodes w g below honest are =
    let found = get_inside nodes g (omega (arith, below, are.size)) in
    go found.0 found.1 (are.each g found.0 found.1)
  where
    go : (row : Option (Node P S)) → slice_get nodes g ≡ Some row → IsNodeOf setting w g row
        → (node : Node P S) × (slice_get nodes g ≡ Some (Some node)) × IsViewOf setting.scope node (w.nodes g)
    go None at lies = absurd (cc)
    go (Some node) at is = (node, at, is.1)

-- no log of a world that is shown is long
pub short_shown : {P S : Type 0} {traced : Bool} (setting : Setting S) (moment : Moment P S) (w : World) → setting.scope.rules.hosts ≤ 32
    → Shows setting traced moment w → AreShort setting w
short_shown setting moment w few shows = record {
  logs = λ g h has.
      let below : g < 32 = omega (arith, few, has.host) in
      (node_there setting moment.nodes.items w g below has.honest shows.nodes).2.sound.short h;
  decided = λ h inside. shows.olympus.sound.short h;
}

-- so many hosts are all of the protocol
pub all_guards : {P S : Type 0} (rules : Rules S) (stage : Stage P S) (w : World) (hosts : ℕ) → hosts ≡ rules.hosts
    → guards_of (setting_of rules stage) w (range_with_len 0 hosts) ≡ guards_text (setting_of rules stage) w
unfolding scope_of
all_guards rules stage w hosts all = ap (λ n. guards_of (setting_of rules stage) w (range_with_len 0 n)) all
